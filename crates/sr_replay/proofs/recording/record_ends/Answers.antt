use Rattle.std.proofs.Common.{inr, [], ◌++◌, ◌∙◌, take, subst}
use Rattle.std.specs.Io.KnownBytes.{Appends}
use Rattle.std.proofs.KnownBytes.{Appends-nil, Appends-trans}
use Rattle.sr_replay.specs.declared.text_kind.TextKind.TheVariants as kinds
use Rattle.sr_replay.specs.Trace.{head_line}
use Rattle.sr_replay.proofs.Played.{on_err}
use Rattle.sr_replay.proofs.Traced.{PutsPartOf, head_is_some, is_trace, part_of_head, part_of_none, part_of_told}
use Rattle.sr_replay.proofs.recording.record_ends.Goals as goal

pub returns-in_err-head-clause-part : goal.returns-in_err-head-clause-part
returns-in_err-head-clause-part g c =
    let before = g.K.Sink.holds c.args.out.now in
    let part : PutsPartOf c.args.script.now before before = λ p parses. ([], (part_of_none p (c.requires p parses), Appends-nil before)) in
    on_err _ part

pub returns-in_err-pair-clause-part : goal.returns-in_err-pair-clause-part
returns-in_err-pair-clause-part g c =
    let before = g.K.Sink.holds c.args.out.now in
    let part : PutsPartOf c.args.script.now before before = λ p parses. ([], (part_of_none p (c.requires p parses), Appends-nil before)) in
    on_err _ part

pub returns-in_err-put-clause-part : goal.returns-in_err-put-clause-part
returns-in_err-put-clause-part g c =
    let put = c.in_err-put.ensures.bytes in
    let part : PutsPartOf c.args.script.now (g.K.Sink.holds c.args.out.now) (g.K.Sink.holds c.put.new.self) = λ p parses.
    let head_is = c.as_bytes.ensures.value ∙ c.in_ok-head.ensures p parses in (
      take put.0 (head_line p.settings),
      (
        part_of_head c.has_wire.ensures c.runs_once.ensures p (c.requires p parses) put.0,
        subst (λ x. Appends (g.K.Sink.holds c.args.out.now) (g.K.Sink.holds c.put.new.self) (take put.0 x)) head_is put.1,
      ),
    ) in
    on_err _ part

pub returns-in_err-act_and_put-clause-part : goal.returns-in_err-act_and_put-clause-part
returns-in_err-act_and_put-clause-part g c =
    let before = g.K.Sink.holds c.args.out.now in
    let now = g.K.Sink.holds c.put.new.self in
    let later = g.K.Sink.holds c.act_and_put.new.out in
    let part : PutsPartOf c.args.script.now before later = λ p parses.
    let told = c.in_err-act_and_put.ensures.part p parses in
    let head_is = c.as_bytes.ensures.value ∙ c.in_ok-head.ensures p parses in (
      head_line p.settings ++ told.0,
      (
        part_of_told c.has_wire.ensures c.runs_once.ensures p (c.requires p parses) c.in_ok-pair.pair told.0 (c.in_ok-pair.ensures p parses) told.1.1,
        Appends-trans before now later (head_line p.settings) told.0 (subst (Appends before now) head_is c.in_ok-put.ensures.bytes) told.1.0,
      ),
    ) in
    on_err _ part

pub returns-clause-ok : goal.returns-clause-ok
returns-clause-ok g c = λ p parses.
    let all = c.in_ok-act_and_put.ensures.ok p parses in
    let head_is = c.as_bytes.ensures.value ∙ c.in_ok-head.ensures p parses in
    let before = g.K.Sink.holds c.args.out.now in
    let now = g.K.Sink.holds c.put.new.self in
    let text = head_line p.settings ++ all.0 in
    let trace = is_trace p (c.requires p parses) c.in_ok-pair.pair c.act_and_put.new.pair all.0 (c.in_ok-pair.ensures p parses) all.1.1 all.1.2
    (λ wire r house follows. c.reports.ensures kinds.Trace all.0 wire c.args.script.now p r house parses follows) in (
      text,
      (
        record { holds = trace; only = λ other is. c.traces_once.ensures p other text is trace },
        Appends-trans before now (g.K.Sink.holds c.act_and_put.new.out) (head_line p.settings) all.0 (subst (Appends before now) head_is c.in_ok-put.ensures.bytes) all.1.0,
      ),
    )

pub returns-in_err-act_and_put-clause-touched : goal.returns-in_err-act_and_put-clause-touched
returns-in_err-act_and_put-clause-touched g c = λ other.
    let script = c.text.ensures.script in
    let part = c.in_err-act_and_put.ensures.part script.0 script.1 in
    let head_is = c.as_bytes.ensures.value ∙ c.in_ok-head.ensures script.0 script.1 in
    let before = g.K.Sink.holds c.args.out.now in
    let now = g.K.Sink.holds c.put.new.self in
    inr (
      head_line script.0.settings ++ part.0,
      head_is_some script.0 part.0,
      Appends-trans before now (g.K.Sink.holds c.act_and_put.new.out) (head_line script.0.settings) part.0 (subst (Appends before now) head_is c.in_ok-put.ensures.bytes) part.1.0,
    )

pub returns-clause-touched : goal.returns-clause-touched
returns-clause-touched g c = λ other.
    let script = c.text.ensures.script in
    let all = c.in_ok-act_and_put.ensures.ok script.0 script.1 in
    let head_is = c.as_bytes.ensures.value ∙ c.in_ok-head.ensures script.0 script.1 in
    let before = g.K.Sink.holds c.args.out.now in
    let now = g.K.Sink.holds c.put.new.self in
    inr (
      head_line script.0.settings ++ all.0,
      head_is_some script.0 all.0,
      Appends-trans before now (g.K.Sink.holds c.act_and_put.new.out) (head_line script.0.settings) all.0 (subst (Appends before now) head_is c.in_ok-put.ensures.bytes) all.1.0,
    )
