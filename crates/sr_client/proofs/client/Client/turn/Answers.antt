use Rattle.std.proofs.Common.{Bool, take, refl, ap, subst, ◌∙◌}
use Rattle.std.specs.Io.KnownBytes.{Appends}
use Rattle.hub_calc.specs.Client.{client_hub}
use Rattle.sr_client.specs.declared.client.ClientError.TheVariants as error
use Rattle.sr_client.specs.Clients.{Fits, StandsClient}
use Rattle.sr_client.specs.Running.{error_of_dialer, faults}
use Rattle.hd_server.specs.Plans.{onto}
use Rattle.hd_client.specs.Turns.{telling}
use Rattle.sr_client.specs.Turning.{before_work}
use Rattle.sr_client.proofs.RunTurns.{appends_none}
use Rattle.sr_client.proofs.Causes.{cause_answer, cause_dialer, cause_err, cause_memory, cause_output}
use Rattle.sr_client.proofs.Ended.{cut_giving, cut_in_work, cut_printing, ended_by, goes_if, standing_same, stands_after, turned_by, turned_err, turned_ok}
use Rattle.sr_client.proofs.Touched.{is_fault}
use Rattle.sr_client.proofs.client.Client.turn.Goals as goal

pub returns-in_err-begin-clause-turn : goal.returns-in_err-begin-clause-turn
returns-in_err-begin-clause-turn g c = λ s script h stands fits.
    turned_by s script (λ after. StandsClient s script c.begin.new.self after × Fits (g.C.Dialer.lanes c.begin.new.dialer) (g.C.Dialer.moment c.begin.new.dialer) after) _ h c.in_err-begin.field-0.0 c.from_residual.result c.from_residual.ensures.1
    (turned_err s script (λ a. ⊥) (λ after. StandsClient s script c.begin.new.self after × Fits (g.C.Dialer.lanes c.begin.new.dialer) (g.C.Dialer.moment c.begin.new.dialer) after) _ h c.in_err-begin.field-0.0 (c.in_err-begin.ensures.begun s script h (g.K.Sink.holds c.args.out.now) (standing_same s c.args.self.now _ h refl stands.standing) stands.goes_on
    (c.clients_are_dialed.ensures client_hub s script stands.turns.0 h stands.turns.1) fits c.new-words.ensures).by)

pub returns-in_err-work-clause-turn : goal.returns-in_err-work-clause-turn
returns-in_err-work-clause-turn g c = λ s script h stands fits.
    let heard = (c.in_ok-begin.ensures.begun s script h (g.K.Sink.holds c.args.out.now) (standing_same s c.args.self.now _ h refl stands.standing) stands.goes_on
    (c.clients_are_dialed.ensures client_hub s script stands.turns.0 h stands.turns.1) fits c.new-words.ensures) in
    turned_by s script (λ after. StandsClient s script c.work.new.self after × Fits (g.C.Dialer.lanes c.begin.new.dialer) (g.C.Dialer.moment c.begin.new.dialer) after) _ h error.NoMemory c.from_residual-in_err-work.result c.from_residual-in_err-work.ensures.1
    (cut_in_work s script (λ after. StandsClient s script c.work.new.self after × Fits (g.C.Dialer.lanes c.begin.new.dialer) (g.C.Dialer.moment c.begin.new.dialer) after) _ h _ _ _ _ heard)

pub returns-in_err-give-clause-turn : goal.returns-in_err-give-clause-turn
returns-in_err-give-clause-turn g c = λ s script h stands fits.
    let heard = (c.in_ok-begin.ensures.begun s script h (g.K.Sink.holds c.args.out.now) (standing_same s c.args.self.now _ h refl stands.standing) stands.goes_on
    (c.clients_are_dialed.ensures client_hub s script stands.turns.0 h stands.turns.1) fits c.new-words.ensures) in
    let done = c.in_ok-work.ensures.worked s script (before_work s heard.opened.begun h) heard.ticked heard.working (c.begin.ensures.others.0 ∙ stands.reads)
    (c.begin.ensures.others.2 ∙ c.new-words.ensures.lane) (ap (λ v. v.items) c.begin.ensures.others.3 ∙ c.new-words.ensures.message) in
    let peer = c.peer_is_sound.ensures s (onto (telling s done.says.pieces done.told) done.told) done.says.working.standing in
    turned_by s script (λ after. StandsClient s script c.give.new.self after × Fits (g.C.Dialer.lanes c.give.new.dialer) (g.C.Dialer.moment c.give.new.dialer) after) _ h (error_of_dialer c.in_err-give.field-0.0) c.from_residual-in_err-give.result c.from_residual-in_err-give.ensures.1
    (cut_giving s script (λ calls. g.C.Dialer.Goes c.args.dialer.now calls c.begin.new.dialer) (λ calls. g.C.Dialer.Goes c.begin.new.dialer calls c.give.new.dialer)
    (λ calls. g.C.Dialer.Goes c.args.dialer.now calls c.give.new.dialer) _ _ _ _ (g.met.C.Dialer.joins c.args.dialer.now c.begin.new.dialer c.give.new.dialer)
    (λ after. StandsClient s script c.give.new.self after × Fits (g.C.Dialer.lanes c.give.new.dialer) (g.C.Dialer.moment c.give.new.dialer) after) h _ _ _ c.work.new.self _ c.work.new.words heard done c.in_err-give.field-0.0 c.in_err-give.ensures.given peer (appends_none (g.K.Sink.holds c.args.out.now)))

pub returns-in_err-put_all-clause-turn : goal.returns-in_err-put_all-clause-turn
returns-in_err-put_all-clause-turn g c = λ s script h stands fits.
    let heard = (c.in_ok-begin.ensures.begun s script h (g.K.Sink.holds c.args.out.now) (standing_same s c.args.self.now _ h refl stands.standing) stands.goes_on
    (c.clients_are_dialed.ensures client_hub s script stands.turns.0 h stands.turns.1) fits c.new-words.ensures) in
    let done = c.in_ok-work.ensures.worked s script (before_work s heard.opened.begun h) heard.ticked heard.working (c.begin.ensures.others.0 ∙ stands.reads)
    (c.begin.ensures.others.2 ∙ c.new-words.ensures.lane) (ap (λ v. v.items) c.begin.ensures.others.3 ∙ c.new-words.ensures.message) in
    let peer = c.peer_is_sound.ensures s (onto (telling s done.says.pieces done.told) done.told) done.says.working.standing in
    turned_by s script (λ after. StandsClient s script c.give.new.self after × Fits (g.C.Dialer.lanes c.give.new.dialer) (g.C.Dialer.moment c.give.new.dialer) after) _ h error.Write c.from_residual-in_err-put_all.result c.from_residual-in_err-put_all.ensures.1
    (cut_printing s script (λ calls. g.C.Dialer.Goes c.args.dialer.now calls c.begin.new.dialer) (λ calls. g.C.Dialer.Goes c.begin.new.dialer calls c.give.new.dialer)
    (λ calls. g.C.Dialer.Goes c.args.dialer.now calls c.give.new.dialer) _ _ _ _ (g.met.C.Dialer.joins c.args.dialer.now c.begin.new.dialer c.give.new.dialer)
    (λ after. StandsClient s script c.give.new.self after × Fits (g.C.Dialer.lanes c.give.new.dialer) (g.C.Dialer.moment c.give.new.dialer) after) h _ _ _ c.work.new.self _ c.work.new.words heard done c.give.new.self c.in_ok-give.ensures.given peer c.in_err-put_all.ensures.bytes.0
    (subst (λ l. Appends (g.K.Sink.holds c.args.out.now) (g.K.Sink.holds c.put_all.new.out) (take c.in_err-put_all.ensures.bytes.0 l)) c.as_slice.ensures.value c.in_err-put_all.ensures.bytes.1))

pub returns-clause-turn : goal.returns-clause-turn
returns-clause-turn g c = λ s script h stands fits.
    let heard = (c.in_ok-begin.ensures.begun s script h (g.K.Sink.holds c.args.out.now) (standing_same s c.args.self.now _ h refl stands.standing) stands.goes_on
    (c.clients_are_dialed.ensures client_hub s script stands.turns.0 h stands.turns.1) fits c.new-words.ensures) in
    let done = c.in_ok-work.ensures.worked s script (before_work s heard.opened.begun h) heard.ticked heard.working (c.begin.ensures.others.0 ∙ stands.reads)
    (c.begin.ensures.others.2 ∙ c.new-words.ensures.lane) (ap (λ v. v.items) c.begin.ensures.others.3 ∙ c.new-words.ensures.message) in
    let peer = c.peer_is_sound.ensures s (onto (telling s done.says.pieces done.told) done.told) done.says.working.standing in
    let given = c.in_ok-give.ensures.given in
    turned_ok s script c.answer.new.self _ h (g.C.Dialer.lanes c.begin.new.dialer) (g.C.Dialer.moment c.begin.new.dialer) _ _ c.answer.result
    c.give.ensures.others_unchanged.1 c.give.ensures.others_unchanged.0
    (ended_by s script (λ calls. g.C.Dialer.Goes c.args.dialer.now calls c.begin.new.dialer) (λ calls. g.C.Dialer.Goes c.begin.new.dialer calls c.give.new.dialer)
    (λ calls. g.C.Dialer.Goes c.args.dialer.now calls c.give.new.dialer) _ _ _ _ (g.met.C.Dialer.joins c.args.dialer.now c.begin.new.dialer c.give.new.dialer)
    (λ a. ⊥) h _ _ _ c.work.new.self _ c.work.new.words heard done c.give.new.self c.answer.new.self given peer
    (subst (λ l. Appends (g.K.Sink.holds c.args.out.now) (g.K.Sink.holds c.put_all.new.out) l) c.as_slice.ensures.value c.in_ok-put_all.ensures.bytes) c.answer.ensures.others_unchanged
    (ap (λ i. i.script) c.answer.ensures.others_unchanged ∙ (ap (λ i. i.script) c.give.ensures.others ∙ (c.work.ensures.others.0 ∙ (c.begin.ensures.others.0 ∙ stands.reads))))
    stands.turns.0 stands.turns.1 c.answer.result
    (goes_if c.answer.new.self.is_ended c.answer.result (c.answer.ensures.over
    (ap (λ i. i.is_ended) c.give.ensures.others ∙ (c.work.ensures.others.1 ∙ c.begin.ensures.others.1))))
    (c.answer.ensures.ends s _ (stands_after s script (λ calls. g.C.Dialer.Goes c.args.dialer.now calls c.begin.new.dialer) (λ calls. g.C.Dialer.Goes c.begin.new.dialer calls c.give.new.dialer)
    (λ calls. g.C.Dialer.Goes c.args.dialer.now calls c.give.new.dialer) (g.L.Lots.drawn c.args.lots.now) (g.L.Lots.drawn c.begin.new.lots) (g.K.Sink.holds c.args.out.now)
    (g.K.Sink.holds c.args.out.now) (g.met.C.Dialer.joins c.args.dialer.now c.begin.new.dialer c.give.new.dialer)
    (λ a. ⊥) h _ _ _ c.work.new.self _ c.work.new.words heard done c.give.new.self c.give.new.self given refl)))

-- ---- causes

pub returns-in_err-begin-clause-cause : goal.returns-in_err-begin-clause-cause
returns-in_err-begin-clause-cause g c = λ s script h stands fits.
    cause_err Unit Bool _ _ c.in_err-begin.field-0.0 c.from_residual.result (c.in_err-begin.ensures.cause s h (g.K.Sink.faults c.args.out.now) (standing_same s c.args.self.now _ h refl stands.standing) fits.timely) c.from_residual.ensures.1

pub returns-in_err-work-clause-cause : goal.returns-in_err-work-clause-cause
returns-in_err-work-clause-cause g c = λ s script h stands fits.
    cause_memory _ _ c.from_residual-in_err-work.result (c.in_ok-begin.ensures.cause s h (g.K.Sink.faults c.args.out.now) (standing_same s c.args.self.now _ h refl stands.standing) fits.timely) c.from_residual-in_err-work.ensures.1

pub returns-in_err-give-clause-cause : goal.returns-in_err-give-clause-cause
returns-in_err-give-clause-cause g c = λ s script h stands fits.
    cause_dialer _ (g.C.Dialer.faults c.begin.new.dialer) (g.C.Dialer.faults c.give.new.dialer) (g.L.Lots.faults c.begin.new.lots) (g.K.Sink.faults c.args.out.now)
    c.in_err-give.field-0.0 c.from_residual-in_err-give.result (c.in_ok-begin.ensures.cause s h (g.K.Sink.faults c.args.out.now) (standing_same s c.args.self.now _ h refl stands.standing) fits.timely) c.in_err-give.ensures.cause c.from_residual-in_err-give.ensures.1

pub returns-in_err-put_all-clause-cause : goal.returns-in_err-put_all-clause-cause
returns-in_err-put_all-clause-cause g c = λ s script h stands fits.
    cause_output _ (g.C.Dialer.faults c.give.new.dialer) (g.L.Lots.faults c.begin.new.lots) (g.K.Sink.faults c.args.out.now) (g.K.Sink.faults c.put_all.new.out)
    c.from_residual-in_err-put_all.result
    (ap (λ d. faults d (g.L.Lots.faults c.begin.new.lots) (g.K.Sink.faults c.args.out.now)) c.in_ok-give.ensures.cause ∙ (c.in_ok-begin.ensures.cause s h (g.K.Sink.faults c.args.out.now) (standing_same s c.args.self.now _ h refl stands.standing) fits.timely))
    c.in_err-put_all.ensures.cause.later c.in_err-put_all.ensures.counted c.from_residual-in_err-put_all.ensures.1

pub returns-clause-cause : goal.returns-clause-cause
returns-clause-cause g c = λ s script h stands fits.
    let heard = (c.in_ok-begin.ensures.begun s script h (g.K.Sink.holds c.args.out.now) (standing_same s c.args.self.now _ h refl stands.standing) stands.goes_on
    (c.clients_are_dialed.ensures client_hub s script stands.turns.0 h stands.turns.1) fits c.new-words.ensures) in
    let done = c.in_ok-work.ensures.worked s script (before_work s heard.opened.begun h) heard.ticked heard.working (c.begin.ensures.others.0 ∙ stands.reads)
    (c.begin.ensures.others.2 ∙ c.new-words.ensures.lane) (ap (λ v. v.items) c.begin.ensures.others.3 ∙ c.new-words.ensures.message) in
    let peer = c.peer_is_sound.ensures s (onto (telling s done.says.pieces done.told) done.told) done.says.working.standing in
    let given = c.in_ok-give.ensures.given in
    cause_answer _ _ s c.give.new.self _ c.answer.result
    c.answer.ensures.ends (stands_after s script (λ calls. g.C.Dialer.Goes c.args.dialer.now calls c.begin.new.dialer) (λ calls. g.C.Dialer.Goes c.begin.new.dialer calls c.give.new.dialer)
    (λ calls. g.C.Dialer.Goes c.args.dialer.now calls c.give.new.dialer) (g.L.Lots.drawn c.args.lots.now) (g.L.Lots.drawn c.begin.new.lots) (g.K.Sink.holds c.args.out.now)
    (g.K.Sink.holds c.args.out.now) (g.met.C.Dialer.joins c.args.dialer.now c.begin.new.dialer c.give.new.dialer)
    (λ a. ⊥) h _ _ _ c.work.new.self _ c.work.new.words heard done c.give.new.self c.give.new.self given refl)
    (ap (λ k. faults (g.C.Dialer.faults c.give.new.dialer) (g.L.Lots.faults c.begin.new.lots) k) c.in_ok-put_all.ensures.cause.unfailed
    ∙ (ap (λ d. faults d (g.L.Lots.faults c.begin.new.lots) (g.K.Sink.faults c.args.out.now)) c.in_ok-give.ensures.cause ∙ (c.in_ok-begin.ensures.cause s h (g.K.Sink.faults c.args.out.now) (standing_same s c.args.self.now _ h refl stands.standing) fits.timely)))

-- ---- the output

pub returns-in_err-put_all-clause-touched : goal.returns-in_err-put_all-clause-touched
returns-in_err-put_all-clause-touched g c = λ differ.
    absurd (differ (is_fault c.from_residual-in_err-put_all.result c.from_residual-in_err-put_all.ensures.1))

pub returns-clause-touched : goal.returns-clause-touched
returns-clause-touched g c = λ differ. c.in_ok-put_all.ensures.touched
