use Rattle.std.proofs.Common.{sym, ◌∙◌}
use Rattle.ha_audit.proofs.Once.{head_cut}
use Rattle.ha_audit.proofs.head.parse_head.Goals as goal

pub returns-in_default-codec_named-clause-none : goal.returns-in_default-codec_named-clause-none
returns-in_default-codec_named-clause-none c = λ head is e.
    let found = c.in-Some.ensures.found in
    let parts = head_cut c.words_are_cut_once.ensures c.in-Some.codec.now c.in-Some.version.now c.in-Some.switch.now c.in-Some.limits.now head is
    found.0 found.1 found.2 (sym found.3 ∙ e) in
    c.in_default-codec_named.ensures.none head.codec parts.codec_is

pub returns-in_default-2-clause-none : goal.returns-in_default-2-clause-none
returns-in_default-2-clause-none c = λ head is e.
    let found = c.in-Some.ensures.found in
    let parts = head_cut c.words_are_cut_once.ensures c.in-Some.codec.now c.in-Some.version.now c.in-Some.switch.now c.in-Some.limits.now head is
    found.0 found.1 found.2 (sym found.3 ∙ e) in
    let none = rw c.in_default-2.is at c.in_ok-version.ensures.none in
    none head.version is.version parts.version_is

pub returns-in_default-switch_named-clause-none : goal.returns-in_default-switch_named-clause-none
returns-in_default-switch_named-clause-none c = λ head is e.
    let found = c.in-Some.ensures.found in
    let parts = head_cut c.words_are_cut_once.ensures c.in-Some.codec.now c.in-Some.version.now c.in-Some.switch.now c.in-Some.limits.now head is
    found.0 found.1 found.2 (sym found.3 ∙ e) in
    c.in_default-switch_named.ensures.none head.reconnect parts.switch_is

pub returns-in_default-3-clause-none : goal.returns-in_default-3-clause-none
returns-in_default-3-clause-none c = λ head is e.
    let found = c.in-Some.ensures.found in
    let parts = head_cut c.words_are_cut_once.ensures c.in-Some.codec.now c.in-Some.version.now c.in-Some.switch.now c.in-Some.limits.now head is
    found.0 found.1 found.2 (sym found.3 ∙ e) in
    let none = rw c.in_default-3.is at c.in_ok-limits.ensures.none in
    none head.limits is.limits parts.limits_are
