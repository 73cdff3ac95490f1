use Rattle.std.proofs.Common.{Bool, Err, Ok, sym, subst, ◌∙◌, [], ◌∷◌, ◌≤◌, arith}
use Rattle.hw_door.specs.Calls.{AddsSome, IsCaused}
use Rattle.hw_door.specs.DoorCalls.{failed, given_in, heard, to_hear}
use Rattle.hd_dialing.specs.Events.{draws, moment}
use Rattle.hd_dialing.specs.Plans as plan
use Rattle.hd_client.specs.Events as of_client
use Rattle.hd_client.specs.Events.{dialing}
use Rattle.hd_client.specs.Telling.{wait_for}
use Rattle.hn_dialing.specs.Calls.{AreNewLanes, Does, IsCausedBy, IsCountOf, news_of}
use Rattle.hn_dialing.specs.Stands.{Stands}
use Rattle.hn_dialing.specs.declared.news.News.{News}
use Rattle.sr_client.specs.Clients.{Standing}
use Rattle.sr_client.specs.Running.{WentSo, error_of_dial, error_of_dialer}
use Rattle.sr_client.specs.Turning.{BeginsBy, HasHeard}
use Rattle.sr_client.specs.declared.client.ClientError.TheVariants as error
use Rattle.sr_client.proofs.Beginning.{adds_then, begins_dialed, begins_err, begins_heard, begun_so, breaks_as, caused_dial, caused_drawn, caused_err, caused_next}
use Rattle.sr_client.proofs.Beginning.{dial_does, dial_idle, does_as, fails_so, fits_raised, suits_so}
use Rattle.sr_client.proofs.BegunCut.{dial_broke, hear_broke, next_failed, no_memory}
use Rattle.sr_client.proofs.Dropped.{with_connection}
use Rattle.sr_client.proofs.client.Client.begin.Goals as goal

pub returns-in_err-dial-clause-begun : goal.returns-in_err-dial-clause-begun
returns-in_err-dial-clause-begun g c = λ s script h held x goes_on dialed fits none.
    begins_err s script _ _ _ _ _ h (error_of_dial c.in_err-dial.field-0.0) c.from_residual.result c.from_residual.ensures.1
    (dial_broke s script (λ after. ⊥) h (g.L.Lots.drawn c.args.lots.now) (g.L.Lots.drawn c.dial.new.lots) held goes_on c.args.self.now.connection x.kept.dialed
    (λ calls. AreNewLanes (given_in calls) (g.C.Dialer.lanes c.args.dialer.now) (g.C.Dialer.lanes c.dial.new.dialer)) (λ ds. IsCountOf ds (g.L.Lots.faults c.args.lots.now) (g.L.Lots.faults c.dial.new.lots)) c.in_err-dial.ensures.dialed.0
    c.in_err-dial.field-0.0 (λ calls. g.C.Dialer.Goes c.args.dialer.now calls c.dial.new.dialer) (sym (c.in_err-dial.ensures.due s.dialing _ x.kept.dialed)) c.in_err-dial.ensures.dialed.2)

pub returns-in_err-dial-clause-cause : goal.returns-in_err-dial-clause-cause
returns-in_err-dial-clause-cause g c = λ s h output x timely.
    caused_err _ _ (error_of_dial c.in_err-dial.field-0.0) c.from_residual.result c.from_residual.ensures.1
    (caused_dial Bool c.in_err-dial.field-0.0 (g.C.Dialer.faults c.args.dialer.now) (g.C.Dialer.faults c.dial.new.dialer) (g.L.Lots.faults c.args.lots.now) (g.L.Lots.faults c.dial.new.lots) output c.in_err-dial.ensures.cause c.in_err-dial.ensures.lots)

pub returns-then-branch-clause-begun : goal.returns-then-branch-clause-begun
returns-then-branch-clause-begun g c = λ s script h held x goes_on dialed fits none.
    let dl = c.in_ok-dial.ensures.dialed.0 in
    let due = sym (c.in_ok-dial.ensures.due s.dialing _ x.kept.dialed) ∙ c.if-branch.true in
    let does = dial_does c.in_ok-dial.field-0 dl c.args.self.now.connection c.dial.new.self (λ calls. g.C.Dialer.Goes c.args.dialer.now calls c.dial.new.dialer × AreNewLanes (given_in calls) (g.C.Dialer.lanes c.args.dialer.now) (g.C.Dialer.lanes c.dial.new.dialer)) (λ ds. AddsSome (g.L.Lots.drawn c.args.lots.now) (g.L.Lots.drawn c.dial.new.lots) ds × IsCountOf ds (g.L.Lots.faults c.args.lots.now) (g.L.Lots.faults c.dial.new.lots))
    c.if-branch.true c.in_ok-dial.ensures.dialed.2 in
    subst (λ m. BeginsBy s script (with_connection c.args.self.now c.dial.new.self) c.args.words.now (WentSo (λ calls. g.C.Dialer.Goes c.args.dialer.now calls c.dial.new.dialer) (g.L.Lots.drawn c.args.lots.now) (g.L.Lots.drawn c.dial.new.lots) held held) (g.C.Dialer.lanes c.dial.new.dialer) m h
    c.drawn.result) (sym c.in_ok-dial.ensures.others_unchanged)
    (begins_dialed s script c.args.self.now c.dial.new.self c.args.words.now h (λ calls. g.C.Dialer.Goes c.args.dialer.now calls c.dial.new.dialer) (g.L.Lots.drawn c.args.lots.now) (g.L.Lots.drawn c.dial.new.lots) held x goes_on none
    (g.C.Dialer.lanes c.args.dialer.now) (g.C.Dialer.lanes c.dial.new.dialer) (g.C.Dialer.moment c.args.dialer.now) fits (g.L.Lots.faults c.args.lots.now) (g.L.Lots.faults c.dial.new.lots) dl c.in_ok-dial.ensures.dialed.1 due does c.drawn.result c.drawn.ensures.drawn
    (c.peer_is_sound.ensures s h x))

pub returns-then-branch-clause-cause : goal.returns-then-branch-clause-cause
returns-then-branch-clause-cause g c = λ s h output x timely.
    let dl = c.in_ok-dial.ensures.dialed.0 in
    let due = sym (c.in_ok-dial.ensures.due s.dialing _ x.kept.dialed) ∙ c.if-branch.true in
    let does = dial_does c.in_ok-dial.field-0 dl c.args.self.now.connection c.dial.new.self (λ calls. g.C.Dialer.Goes c.args.dialer.now calls c.dial.new.dialer × AreNewLanes (given_in calls) (g.C.Dialer.lanes c.args.dialer.now) (g.C.Dialer.lanes c.dial.new.dialer)) (λ ds. AddsSome (g.L.Lots.drawn c.args.lots.now) (g.L.Lots.drawn c.dial.new.lots) ds × IsCountOf ds (g.L.Lots.faults c.args.lots.now) (g.L.Lots.faults c.dial.new.lots))
    c.if-branch.true c.in_ok-dial.ensures.dialed.2 in
    caused_drawn does.new (dialing h) c.drawn.result (g.C.Dialer.faults c.args.dialer.now) (g.C.Dialer.faults c.dial.new.dialer) (g.L.Lots.faults c.args.lots.now) (g.L.Lots.faults c.dial.new.lots) output
    (c.drawn.ensures.drawn s.dialing _ (subst (λ d. Stands s.dialing c.dial.new.self d) (does.adds s.dialing _ x.kept.dialed due)
    (does.stands s.dialing _ x.kept.dialed due))) x.kept.undrawn does.tells.drew.1 c.in_ok-dial.ensures.cause

pub returns-in_err-heard-clause-begun : goal.returns-in_err-heard-clause-begun
returns-in_err-heard-clause-begun g c = λ s script h held x goes_on dialed fits none.
    let idle = dial_idle c.in_ok-dial.field-0 c.in_ok-dial.ensures.dialed.0 c.args.self.now.connection c.dial.new.self (λ calls. g.C.Dialer.Goes c.args.dialer.now calls c.dial.new.dialer × AreNewLanes (given_in calls) (g.C.Dialer.lanes c.args.dialer.now) (g.C.Dialer.lanes c.dial.new.dialer)) (λ ds. AddsSome (g.L.Lots.drawn c.args.lots.now) (g.L.Lots.drawn c.dial.new.lots) ds × IsCountOf ds (g.L.Lots.faults c.args.lots.now) (g.L.Lots.faults c.dial.new.lots))
    c.if-branch.false c.in_ok-dial.ensures.dialed.2 in
    let undue = sym (c.in_ok-dial.ensures.due s.dialing _ x.kept.dialed) ∙ c.if-branch.false in
    let waited = c.wait.ensures s h (subst (λ z. Standing s (with_connection c.args.self.now z) h) (sym idle.0) x) in
    begins_err s script _ _ _ _ _ h (error_of_dialer c.in_err-heard.field-0.0) c.from_residual-in_err-heard.result c.from_residual-in_err-heard.ensures.1
    (next_failed s script (λ after. ⊥) h (g.L.Lots.drawn c.args.lots.now) (g.L.Lots.drawn c.dial.new.lots) held goes_on (λ calls. g.C.Dialer.Goes c.args.dialer.now calls c.next.new.self) c.wait.result c.in_err-heard.field-0.0 undue waited
    (g.met.C.Dialer.joins c.args.dialer.now c.dial.new.dialer c.next.new.self [] (failed (to_hear c.wait.result) c.in_err-heard.field-0.0 ∷ []) idle.1.0 c.in_err-heard.ensures.heard) idle.2.0)

pub returns-in_err-heard-clause-cause : goal.returns-in_err-heard-clause-cause
returns-in_err-heard-clause-cause g c = λ s h output x timely.
    let idle = dial_idle c.in_ok-dial.field-0 c.in_ok-dial.ensures.dialed.0 c.args.self.now.connection c.dial.new.self (λ calls. g.C.Dialer.Goes c.args.dialer.now calls c.dial.new.dialer × AreNewLanes (given_in calls) (g.C.Dialer.lanes c.args.dialer.now) (g.C.Dialer.lanes c.dial.new.dialer)) (λ ds. AddsSome (g.L.Lots.drawn c.args.lots.now) (g.L.Lots.drawn c.dial.new.lots) ds × IsCountOf ds (g.L.Lots.faults c.args.lots.now) (g.L.Lots.faults c.dial.new.lots))
    c.if-branch.false c.in_ok-dial.ensures.dialed.2 in
    let undue = sym (c.in_ok-dial.ensures.due s.dialing _ x.kept.dialed) ∙ c.if-branch.false in
    caused_err _ _ (error_of_dialer c.in_err-heard.field-0.0) c.from_residual-in_err-heard.result c.from_residual-in_err-heard.ensures.1
    (caused_next c.in_err-heard.field-0.0 (g.C.Dialer.faults c.args.dialer.now) (g.C.Dialer.faults c.next.new.self) (g.L.Lots.faults c.args.lots.now) (g.L.Lots.faults c.dial.new.lots) output
    (subst (λ n. IsCaused n (g.C.Dialer.faults c.next.new.self) c.in_err-heard.field-0.0) c.in_ok-dial.ensures.cause c.in_err-heard.ensures.cause) idle.2.1)

pub returns-in_err-news-clause-begun : goal.returns-in_err-news-clause-begun
returns-in_err-news-clause-begun g c = λ s script h held x goes_on dialed fits none.
    let idle = dial_idle c.in_ok-dial.field-0 c.in_ok-dial.ensures.dialed.0 c.args.self.now.connection c.dial.new.self (λ calls. g.C.Dialer.Goes c.args.dialer.now calls c.dial.new.dialer × AreNewLanes (given_in calls) (g.C.Dialer.lanes c.args.dialer.now) (g.C.Dialer.lanes c.dial.new.dialer)) (λ ds. AddsSome (g.L.Lots.drawn c.args.lots.now) (g.L.Lots.drawn c.dial.new.lots) ds × IsCountOf ds (g.L.Lots.faults c.args.lots.now) (g.L.Lots.faults c.dial.new.lots))
    c.if-branch.false c.in_ok-dial.ensures.dialed.2 in
    let undue = sym (c.in_ok-dial.ensures.due s.dialing _ x.kept.dialed) ∙ c.if-branch.false in
    let waited = c.wait.ensures s h (subst (λ z. Standing s (with_connection c.args.self.now z) h) (sym idle.0) x) in
    let now = c.in_ok-heard.heard.now in
    let e = c.in_ok-heard.heard.event in
    let went : g.C.Dialer.Goes c.args.dialer.now (heard c.wait.result c.in_ok-heard.heard ∷ []) c.next.new.self =
    g.met.C.Dialer.joins c.args.dialer.now c.dial.new.dialer c.next.new.self [] (heard c.wait.result c.in_ok-heard.heard ∷ []) idle.1.0 c.in_ok-heard.ensures.heard in
    let later : of_client.moment h ≤ now = (let few = fits.timely in let same = c.in_ok-dial.ensures.others_unchanged in let after = c.in_ok-heard.ensures.later.0 in omega (arith, few, same, after)) in
    begins_err s script _ _ _ _ _ h (error_of_dial c.in_err-news.field-0.0) c.from_residual-in_err-news.result c.from_residual-in_err-news.ensures.1
    (hear_broke s script (λ after. ⊥) h (g.L.Lots.drawn c.args.lots.now) (g.L.Lots.drawn c.hear.new.lots) held goes_on c.dial.new.self
    (subst (λ z. Stands s.dialing z (dialing h)) (sym idle.0) x.kept.dialed) (λ calls. AreNewLanes (given_in calls) (g.C.Dialer.lanes c.next.new.self) (g.C.Dialer.lanes c.hear.new.dialer))
    (λ ds. IsCountOf ds (g.L.Lots.faults c.dial.new.lots) (g.L.Lots.faults c.hear.new.lots)) c.in_err-news.ensures.heard.0 c.in_err-news.field-0.0 (λ calls. g.C.Dialer.Goes c.args.dialer.now calls c.next.new.self) (λ calls. g.C.Dialer.Goes c.next.new.self calls c.hear.new.dialer)
    (λ calls. g.C.Dialer.Goes c.args.dialer.now calls c.hear.new.dialer) (λ y z. g.met.C.Dialer.joins c.args.dialer.now c.next.new.self c.hear.new.dialer y z) c.wait.result now e undue waited later went
    (breaks_as c.dial.new.self (λ calls. g.C.Dialer.Goes c.next.new.self calls c.hear.new.dialer × AreNewLanes (given_in calls) (g.C.Dialer.lanes c.next.new.self) (g.C.Dialer.lanes c.hear.new.dialer)) (λ ds. AddsSome (g.L.Lots.drawn c.dial.new.lots) (g.L.Lots.drawn c.hear.new.lots) ds × IsCountOf ds (g.L.Lots.faults c.dial.new.lots) (g.L.Lots.faults c.hear.new.lots))
    (λ ds. AddsSome (g.L.Lots.drawn c.args.lots.now) (g.L.Lots.drawn c.hear.new.lots) ds × IsCountOf ds (g.L.Lots.faults c.dial.new.lots) (g.L.Lots.faults c.hear.new.lots)) c.in_err-news.field-0.0
    (λ ds z. (adds_then (g.L.Lots.drawn c.args.lots.now) (g.L.Lots.drawn c.dial.new.lots) (g.L.Lots.drawn c.hear.new.lots) ds idle.2.0 z.0, z.1)) c.in_err-news.ensures.heard.2))

pub returns-in_err-news-clause-cause : goal.returns-in_err-news-clause-cause
returns-in_err-news-clause-cause g c = λ s h output x timely.
    let idle = dial_idle c.in_ok-dial.field-0 c.in_ok-dial.ensures.dialed.0 c.args.self.now.connection c.dial.new.self (λ calls. g.C.Dialer.Goes c.args.dialer.now calls c.dial.new.dialer × AreNewLanes (given_in calls) (g.C.Dialer.lanes c.args.dialer.now) (g.C.Dialer.lanes c.dial.new.dialer)) (λ ds. AddsSome (g.L.Lots.drawn c.args.lots.now) (g.L.Lots.drawn c.dial.new.lots) ds × IsCountOf ds (g.L.Lots.faults c.args.lots.now) (g.L.Lots.faults c.dial.new.lots))
    c.if-branch.false c.in_ok-dial.ensures.dialed.2 in
    let undue = sym (c.in_ok-dial.ensures.due s.dialing _ x.kept.dialed) ∙ c.if-branch.false in
    caused_err _ _ (error_of_dial c.in_err-news.field-0.0) c.from_residual-in_err-news.result c.from_residual-in_err-news.ensures.1
    (caused_dial News c.in_err-news.field-0.0 (g.C.Dialer.faults c.args.dialer.now) (g.C.Dialer.faults c.hear.new.dialer) (g.L.Lots.faults c.args.lots.now) (g.L.Lots.faults c.hear.new.lots) output
    (subst (λ n. IsCausedBy {T = News} n (g.C.Dialer.faults c.hear.new.dialer) (Err c.in_err-news.field-0.0)) (c.in_ok-heard.ensures.cause ∙ c.in_ok-dial.ensures.cause) c.in_err-news.ensures.cause)
    (c.in_err-news.ensures.lots ∙ idle.2.1))

pub returns-in_err-drawn-clause-begun : goal.returns-in_err-drawn-clause-begun
returns-in_err-drawn-clause-begun g c = λ s script h held x goes_on dialed fits none.
    let idle = dial_idle c.in_ok-dial.field-0 c.in_ok-dial.ensures.dialed.0 c.args.self.now.connection c.dial.new.self (λ calls. g.C.Dialer.Goes c.args.dialer.now calls c.dial.new.dialer × AreNewLanes (given_in calls) (g.C.Dialer.lanes c.args.dialer.now) (g.C.Dialer.lanes c.dial.new.dialer)) (λ ds. AddsSome (g.L.Lots.drawn c.args.lots.now) (g.L.Lots.drawn c.dial.new.lots) ds × IsCountOf ds (g.L.Lots.faults c.args.lots.now) (g.L.Lots.faults c.dial.new.lots))
    c.if-branch.false c.in_ok-dial.ensures.dialed.2 in
    let undue = sym (c.in_ok-dial.ensures.due s.dialing _ x.kept.dialed) ∙ c.if-branch.false in
    let waited = c.wait.ensures s h (subst (λ z. Standing s (with_connection c.args.self.now z) h) (sym idle.0) x) in
    let now = c.in_ok-heard.heard.now in
    let e = c.in_ok-heard.heard.event in
    let went : g.C.Dialer.Goes c.args.dialer.now (heard c.wait.result c.in_ok-heard.heard ∷ []) c.next.new.self =
    g.met.C.Dialer.joins c.args.dialer.now c.dial.new.dialer c.next.new.self [] (heard c.wait.result c.in_ok-heard.heard ∷ []) idle.1.0 c.in_ok-heard.ensures.heard in
    let later : of_client.moment h ≤ now = (let few = fits.timely in let same = c.in_ok-dial.ensures.others_unchanged in let after = c.in_ok-heard.ensures.later.0 in omega (arith, few, same, after)) in
    let dl = c.in_ok-news.ensures.heard.0 in
    let does = subst (λ z. Does (λ d. moment d ≤ now) (λ z d. plan.heard z dl now e d) z c.hear.new.self
    (λ calls. g.C.Dialer.Goes c.next.new.self calls c.hear.new.dialer × AreNewLanes (given_in calls) (g.C.Dialer.lanes c.next.new.self) (g.C.Dialer.lanes c.hear.new.dialer)) (λ ds. AddsSome (g.L.Lots.drawn c.dial.new.lots) (g.L.Lots.drawn c.hear.new.lots) ds × IsCountOf ds (g.L.Lots.faults c.dial.new.lots) (g.L.Lots.faults c.hear.new.lots)))
    idle.0 c.in_ok-news.ensures.heard.2 in
    let so = does_as c.args.self.now.connection c.hear.new.self (λ calls. g.C.Dialer.Goes c.next.new.self calls c.hear.new.dialer × AreNewLanes (given_in calls) (g.C.Dialer.lanes c.next.new.self) (g.C.Dialer.lanes c.hear.new.dialer))
    (λ calls. g.C.Dialer.Goes c.args.dialer.now (heard (wait_for s h) (record { now = now; event = e }) ∷ calls) c.hear.new.dialer × AreNewLanes (given_in calls) (g.C.Dialer.lanes c.next.new.self) (g.C.Dialer.lanes c.hear.new.dialer))
    (λ ds. AddsSome (g.L.Lots.drawn c.dial.new.lots) (g.L.Lots.drawn c.hear.new.lots) ds × IsCountOf ds (g.L.Lots.faults c.dial.new.lots) (g.L.Lots.faults c.hear.new.lots)) (λ ds. AddsSome (g.L.Lots.drawn c.args.lots.now) (g.L.Lots.drawn c.hear.new.lots) ds)
    (λ calls z. (
      g.met.C.Dialer.joins c.args.dialer.now c.next.new.self c.hear.new.dialer (heard (wait_for s h) (record { now = now; event = e }) ∷ []) calls
          (subst (λ n. g.C.Dialer.Goes c.args.dialer.now (heard n (record { now = now; event = e }) ∷ []) c.next.new.self) waited went) z.0,
      z.1,
    ))
    (λ ds z. adds_then (g.L.Lots.drawn c.args.lots.now) (g.L.Lots.drawn c.dial.new.lots) (g.L.Lots.drawn c.hear.new.lots) ds idle.2.0 z.0) does in
    let suits = suits_so c.phases_suit_asks.ensures s h dialed in
    let more : (g.C.Dialer.lanes c.args.dialer.now) ≤ (g.C.Dialer.lanes c.next.new.self) = (let new = idle.1.1 in let same = c.in_ok-heard.ensures.lanes in omega (arith, new, same)) in
    let room = fits_raised (g.C.Dialer.lanes c.args.dialer.now) (g.C.Dialer.lanes c.next.new.self) (g.C.Dialer.moment c.args.dialer.now) (g.C.Dialer.moment c.args.dialer.now) h fits more (omega arith) in
    let fresh = c.in_ok-news.ensures.heard.1 in
    begins_err s script _ _ _ _ _ h c.in_err-drawn.field-0.0 c.from_residual-in_err-drawn.result c.from_residual-in_err-drawn.ensures.1
    (fails_so s script c.args.self.now c.hear.new.self c.args.words.now h (λ calls. g.C.Dialer.Goes c.args.dialer.now calls c.hear.new.dialer) (g.L.Lots.drawn c.args.lots.now) (g.L.Lots.drawn c.hear.new.lots) held x goes_on none (g.C.Dialer.lanes c.next.new.self) (g.C.Dialer.lanes c.hear.new.dialer) (g.C.Dialer.moment c.args.dialer.now) room suits dl now e undue later fresh
    so c.in_err-drawn.field-0.0 (c.in_err-drawn.ensures.drawn s.dialing _ (does.stands s.dialing _ x.kept.dialed later)))

pub returns-in_err-drawn-clause-cause : goal.returns-in_err-drawn-clause-cause
returns-in_err-drawn-clause-cause g c = λ s h output x timely.
    let idle = dial_idle c.in_ok-dial.field-0 c.in_ok-dial.ensures.dialed.0 c.args.self.now.connection c.dial.new.self (λ calls. g.C.Dialer.Goes c.args.dialer.now calls c.dial.new.dialer × AreNewLanes (given_in calls) (g.C.Dialer.lanes c.args.dialer.now) (g.C.Dialer.lanes c.dial.new.dialer)) (λ ds. AddsSome (g.L.Lots.drawn c.args.lots.now) (g.L.Lots.drawn c.dial.new.lots) ds × IsCountOf ds (g.L.Lots.faults c.args.lots.now) (g.L.Lots.faults c.dial.new.lots))
    c.if-branch.false c.in_ok-dial.ensures.dialed.2 in
    let undue = sym (c.in_ok-dial.ensures.due s.dialing _ x.kept.dialed) ∙ c.if-branch.false in
    let now = c.in_ok-heard.heard.now in
    let e = c.in_ok-heard.heard.event in
    let later : of_client.moment h ≤ now = (let same = c.in_ok-dial.ensures.others_unchanged in let after = c.in_ok-heard.ensures.later.0 in omega (arith, timely, same, after)) in
    let dl = c.in_ok-news.ensures.heard.0 in
    let does = subst (λ z. Does (λ d. moment d ≤ now) (λ z d. plan.heard z dl now e d) z c.hear.new.self
    (λ calls. g.C.Dialer.Goes c.next.new.self calls c.hear.new.dialer × AreNewLanes (given_in calls) (g.C.Dialer.lanes c.next.new.self) (g.C.Dialer.lanes c.hear.new.dialer)) (λ ds. AddsSome (g.L.Lots.drawn c.dial.new.lots) (g.L.Lots.drawn c.hear.new.lots) ds × IsCountOf ds (g.L.Lots.faults c.dial.new.lots) (g.L.Lots.faults c.hear.new.lots)))
    idle.0 c.in_ok-news.ensures.heard.2 in
    caused_err _ _ c.in_err-drawn.field-0.0 c.from_residual-in_err-drawn.result c.from_residual-in_err-drawn.ensures.1
    (caused_drawn does.new (dialing h) (Err c.in_err-drawn.field-0.0) (g.C.Dialer.faults c.args.dialer.now) (g.C.Dialer.faults c.hear.new.dialer) (g.L.Lots.faults c.args.lots.now) (g.L.Lots.faults c.hear.new.lots) output
    (c.in_err-drawn.ensures.drawn s.dialing _ (subst (λ d. Stands s.dialing c.hear.new.self d) (does.adds s.dialing _ x.kept.dialed later) (does.stands s.dialing _ x.kept.dialed later))) x.kept.undrawn
    (subst (λ n. IsCountOf (draws does.new) n (g.L.Lots.faults c.hear.new.lots)) idle.2.1 does.tells.drew.1) (c.in_ok-news.ensures.cause ∙ (c.in_ok-heard.ensures.cause ∙ c.in_ok-dial.ensures.cause)))

pub returns-in_err-follow-clause-begun : goal.returns-in_err-follow-clause-begun
returns-in_err-follow-clause-begun g c = λ s script h held x goes_on dialed fits none.
    let idle = dial_idle c.in_ok-dial.field-0 c.in_ok-dial.ensures.dialed.0 c.args.self.now.connection c.dial.new.self (λ calls. g.C.Dialer.Goes c.args.dialer.now calls c.dial.new.dialer × AreNewLanes (given_in calls) (g.C.Dialer.lanes c.args.dialer.now) (g.C.Dialer.lanes c.dial.new.dialer)) (λ ds. AddsSome (g.L.Lots.drawn c.args.lots.now) (g.L.Lots.drawn c.dial.new.lots) ds × IsCountOf ds (g.L.Lots.faults c.args.lots.now) (g.L.Lots.faults c.dial.new.lots))
    c.if-branch.false c.in_ok-dial.ensures.dialed.2 in
    let undue = sym (c.in_ok-dial.ensures.due s.dialing _ x.kept.dialed) ∙ c.if-branch.false in
    let waited = c.wait.ensures s h (subst (λ z. Standing s (with_connection c.args.self.now z) h) (sym idle.0) x) in
    let now = c.in_ok-heard.heard.now in
    let e = c.in_ok-heard.heard.event in
    let went : g.C.Dialer.Goes c.args.dialer.now (heard c.wait.result c.in_ok-heard.heard ∷ []) c.next.new.self =
    g.met.C.Dialer.joins c.args.dialer.now c.dial.new.dialer c.next.new.self [] (heard c.wait.result c.in_ok-heard.heard ∷ []) idle.1.0 c.in_ok-heard.ensures.heard in
    let later : of_client.moment h ≤ now = (let few = fits.timely in let same = c.in_ok-dial.ensures.others_unchanged in let after = c.in_ok-heard.ensures.later.0 in omega (arith, few, same, after)) in
    let dl = c.in_ok-news.ensures.heard.0 in
    let does = subst (λ z. Does (λ d. moment d ≤ now) (λ z d. plan.heard z dl now e d) z c.hear.new.self
    (λ calls. g.C.Dialer.Goes c.next.new.self calls c.hear.new.dialer × AreNewLanes (given_in calls) (g.C.Dialer.lanes c.next.new.self) (g.C.Dialer.lanes c.hear.new.dialer)) (λ ds. AddsSome (g.L.Lots.drawn c.dial.new.lots) (g.L.Lots.drawn c.hear.new.lots) ds × IsCountOf ds (g.L.Lots.faults c.dial.new.lots) (g.L.Lots.faults c.hear.new.lots)))
    idle.0 c.in_ok-news.ensures.heard.2 in
    let so = does_as c.args.self.now.connection c.hear.new.self (λ calls. g.C.Dialer.Goes c.next.new.self calls c.hear.new.dialer × AreNewLanes (given_in calls) (g.C.Dialer.lanes c.next.new.self) (g.C.Dialer.lanes c.hear.new.dialer))
    (λ calls. g.C.Dialer.Goes c.args.dialer.now (heard (wait_for s h) (record { now = now; event = e }) ∷ calls) c.hear.new.dialer × AreNewLanes (given_in calls) (g.C.Dialer.lanes c.next.new.self) (g.C.Dialer.lanes c.hear.new.dialer))
    (λ ds. AddsSome (g.L.Lots.drawn c.dial.new.lots) (g.L.Lots.drawn c.hear.new.lots) ds × IsCountOf ds (g.L.Lots.faults c.dial.new.lots) (g.L.Lots.faults c.hear.new.lots)) (λ ds. AddsSome (g.L.Lots.drawn c.args.lots.now) (g.L.Lots.drawn c.hear.new.lots) ds)
    (λ calls z. (
      g.met.C.Dialer.joins c.args.dialer.now c.next.new.self c.hear.new.dialer (heard (wait_for s h) (record { now = now; event = e }) ∷ []) calls
          (subst (λ n. g.C.Dialer.Goes c.args.dialer.now (heard n (record { now = now; event = e }) ∷ []) c.next.new.self) waited went) z.0,
      z.1,
    ))
    (λ ds z. adds_then (g.L.Lots.drawn c.args.lots.now) (g.L.Lots.drawn c.dial.new.lots) (g.L.Lots.drawn c.hear.new.lots) ds idle.2.0 z.0) does in
    let suits = suits_so c.phases_suit_asks.ensures s h dialed in
    let more : (g.C.Dialer.lanes c.args.dialer.now) ≤ (g.C.Dialer.lanes c.next.new.self) = (let new = idle.1.1 in let same = c.in_ok-heard.ensures.lanes in omega (arith, new, same)) in
    let room = fits_raised (g.C.Dialer.lanes c.args.dialer.now) (g.C.Dialer.lanes c.next.new.self) (g.C.Dialer.moment c.args.dialer.now) (g.C.Dialer.moment c.args.dialer.now) h fits more (omega arith) in
    let fresh = c.in_ok-news.ensures.heard.1 in
    begins_err s script _ _ _ _ _ h error.NoMemory c.from_residual-in_err-follow.result c.from_residual-in_err-follow.ensures.1
    (no_memory s script (λ after. ⊥) (WentSo (λ calls. g.C.Dialer.Goes c.args.dialer.now calls c.hear.new.dialer) (g.L.Lots.drawn c.args.lots.now) (g.L.Lots.drawn c.hear.new.lots) held held) h
    (begun_so s script c.args.self.now c.hear.new.self c.args.words.now h (λ calls. g.C.Dialer.Goes c.args.dialer.now calls c.hear.new.dialer) (g.L.Lots.drawn c.args.lots.now) (g.L.Lots.drawn c.hear.new.lots) held x goes_on none (g.C.Dialer.lanes c.next.new.self) (g.C.Dialer.lanes c.hear.new.dialer) (g.C.Dialer.moment c.args.dialer.now) room suits dl now e undue later fresh so))

pub returns-in_err-follow-clause-cause : goal.returns-in_err-follow-clause-cause
returns-in_err-follow-clause-cause g c = λ s h output x timely.
    let idle = dial_idle c.in_ok-dial.field-0 c.in_ok-dial.ensures.dialed.0 c.args.self.now.connection c.dial.new.self (λ calls. g.C.Dialer.Goes c.args.dialer.now calls c.dial.new.dialer × AreNewLanes (given_in calls) (g.C.Dialer.lanes c.args.dialer.now) (g.C.Dialer.lanes c.dial.new.dialer)) (λ ds. AddsSome (g.L.Lots.drawn c.args.lots.now) (g.L.Lots.drawn c.dial.new.lots) ds × IsCountOf ds (g.L.Lots.faults c.args.lots.now) (g.L.Lots.faults c.dial.new.lots))
    c.if-branch.false c.in_ok-dial.ensures.dialed.2 in
    let undue = sym (c.in_ok-dial.ensures.due s.dialing _ x.kept.dialed) ∙ c.if-branch.false in
    let now = c.in_ok-heard.heard.now in
    let e = c.in_ok-heard.heard.event in
    let later : of_client.moment h ≤ now = (let same = c.in_ok-dial.ensures.others_unchanged in let after = c.in_ok-heard.ensures.later.0 in omega (arith, timely, same, after)) in
    let dl = c.in_ok-news.ensures.heard.0 in
    let does = subst (λ z. Does (λ d. moment d ≤ now) (λ z d. plan.heard z dl now e d) z c.hear.new.self
    (λ calls. g.C.Dialer.Goes c.next.new.self calls c.hear.new.dialer × AreNewLanes (given_in calls) (g.C.Dialer.lanes c.next.new.self) (g.C.Dialer.lanes c.hear.new.dialer)) (λ ds. AddsSome (g.L.Lots.drawn c.dial.new.lots) (g.L.Lots.drawn c.hear.new.lots) ds × IsCountOf ds (g.L.Lots.faults c.dial.new.lots) (g.L.Lots.faults c.hear.new.lots)))
    idle.0 c.in_ok-news.ensures.heard.2 in
    caused_err _ _ error.NoMemory c.from_residual-in_err-follow.result c.from_residual-in_err-follow.ensures.1
    (caused_drawn does.new (dialing h) (Ok tt) (g.C.Dialer.faults c.args.dialer.now) (g.C.Dialer.faults c.hear.new.dialer) (g.L.Lots.faults c.args.lots.now) (g.L.Lots.faults c.hear.new.lots) output
    (c.in_ok-drawn.ensures.drawn s.dialing _ (subst (λ d. Stands s.dialing c.hear.new.self d) (does.adds s.dialing _ x.kept.dialed later) (does.stands s.dialing _ x.kept.dialed later))) x.kept.undrawn
    (subst (λ n. IsCountOf (draws does.new) n (g.L.Lots.faults c.hear.new.lots)) idle.2.1 does.tells.drew.1) (c.in_ok-news.ensures.cause ∙ (c.in_ok-heard.ensures.cause ∙ c.in_ok-dial.ensures.cause)))

pub returns-clause-begun : goal.returns-clause-begun
returns-clause-begun g c = λ s script h held x goes_on dialed fits none.
    let idle = dial_idle c.in_ok-dial.field-0 c.in_ok-dial.ensures.dialed.0 c.args.self.now.connection c.dial.new.self (λ calls. g.C.Dialer.Goes c.args.dialer.now calls c.dial.new.dialer × AreNewLanes (given_in calls) (g.C.Dialer.lanes c.args.dialer.now) (g.C.Dialer.lanes c.dial.new.dialer)) (λ ds. AddsSome (g.L.Lots.drawn c.args.lots.now) (g.L.Lots.drawn c.dial.new.lots) ds × IsCountOf ds (g.L.Lots.faults c.args.lots.now) (g.L.Lots.faults c.dial.new.lots))
    c.if-branch.false c.in_ok-dial.ensures.dialed.2 in
    let undue = sym (c.in_ok-dial.ensures.due s.dialing _ x.kept.dialed) ∙ c.if-branch.false in
    let waited = c.wait.ensures s h (subst (λ z. Standing s (with_connection c.args.self.now z) h) (sym idle.0) x) in
    let now = c.in_ok-heard.heard.now in
    let e = c.in_ok-heard.heard.event in
    let went : g.C.Dialer.Goes c.args.dialer.now (heard c.wait.result c.in_ok-heard.heard ∷ []) c.next.new.self =
    g.met.C.Dialer.joins c.args.dialer.now c.dial.new.dialer c.next.new.self [] (heard c.wait.result c.in_ok-heard.heard ∷ []) idle.1.0 c.in_ok-heard.ensures.heard in
    let later : of_client.moment h ≤ now = (let few = fits.timely in let same = c.in_ok-dial.ensures.others_unchanged in let after = c.in_ok-heard.ensures.later.0 in omega (arith, few, same, after)) in
    let dl = c.in_ok-news.ensures.heard.0 in
    let does = subst (λ z. Does (λ d. moment d ≤ now) (λ z d. plan.heard z dl now e d) z c.hear.new.self
    (λ calls. g.C.Dialer.Goes c.next.new.self calls c.hear.new.dialer × AreNewLanes (given_in calls) (g.C.Dialer.lanes c.next.new.self) (g.C.Dialer.lanes c.hear.new.dialer)) (λ ds. AddsSome (g.L.Lots.drawn c.dial.new.lots) (g.L.Lots.drawn c.hear.new.lots) ds × IsCountOf ds (g.L.Lots.faults c.dial.new.lots) (g.L.Lots.faults c.hear.new.lots)))
    idle.0 c.in_ok-news.ensures.heard.2 in
    let so = does_as c.args.self.now.connection c.hear.new.self (λ calls. g.C.Dialer.Goes c.next.new.self calls c.hear.new.dialer × AreNewLanes (given_in calls) (g.C.Dialer.lanes c.next.new.self) (g.C.Dialer.lanes c.hear.new.dialer))
    (λ calls. g.C.Dialer.Goes c.args.dialer.now (heard (wait_for s h) (record { now = now; event = e }) ∷ calls) c.hear.new.dialer × AreNewLanes (given_in calls) (g.C.Dialer.lanes c.next.new.self) (g.C.Dialer.lanes c.hear.new.dialer))
    (λ ds. AddsSome (g.L.Lots.drawn c.dial.new.lots) (g.L.Lots.drawn c.hear.new.lots) ds × IsCountOf ds (g.L.Lots.faults c.dial.new.lots) (g.L.Lots.faults c.hear.new.lots)) (λ ds. AddsSome (g.L.Lots.drawn c.args.lots.now) (g.L.Lots.drawn c.hear.new.lots) ds)
    (λ calls z. (
      g.met.C.Dialer.joins c.args.dialer.now c.next.new.self c.hear.new.dialer (heard (wait_for s h) (record { now = now; event = e }) ∷ []) calls
          (subst (λ n. g.C.Dialer.Goes c.args.dialer.now (heard n (record { now = now; event = e }) ∷ []) c.next.new.self) waited went) z.0,
      z.1,
    ))
    (λ ds z. adds_then (g.L.Lots.drawn c.args.lots.now) (g.L.Lots.drawn c.dial.new.lots) (g.L.Lots.drawn c.hear.new.lots) ds idle.2.0 z.0) does in
    let suits = suits_so c.phases_suit_asks.ensures s h dialed in
    let more : (g.C.Dialer.lanes c.args.dialer.now) ≤ (g.C.Dialer.lanes c.next.new.self) = (let new = idle.1.1 in let same = c.in_ok-heard.ensures.lanes in omega (arith, new, same)) in
    let room = fits_raised (g.C.Dialer.lanes c.args.dialer.now) (g.C.Dialer.lanes c.next.new.self) (g.C.Dialer.moment c.args.dialer.now) (g.C.Dialer.moment c.args.dialer.now) h fits more (omega arith) in
    let fresh = c.in_ok-news.ensures.heard.1 in
    subst (λ m. HasHeard s c.follow.new.self c.follow.new.words (WentSo (λ calls. g.C.Dialer.Goes c.args.dialer.now calls c.hear.new.dialer) (g.L.Lots.drawn c.args.lots.now) (g.L.Lots.drawn c.hear.new.lots) held held) (g.C.Dialer.lanes c.hear.new.dialer) m h)
    (sym (c.in_ok-news.ensures.others_unchanged ∙ c.in_ok-heard.ensures.later.1))
    (begins_heard s script c.args.self.now c.hear.new.self c.args.words.now h (λ calls. g.C.Dialer.Goes c.args.dialer.now calls c.hear.new.dialer) (g.L.Lots.drawn c.args.lots.now) (g.L.Lots.drawn c.hear.new.lots) held x goes_on none (g.C.Dialer.lanes c.next.new.self) (g.C.Dialer.lanes c.hear.new.dialer) (g.C.Dialer.moment c.args.dialer.now) room suits dl now e undue later fresh
    so c.follow.new.self c.follow.new.words (news_of c.in_ok-news.news)
    (c.in_ok-news.ensures.news s.dialing _ (subst (λ z. Stands s.dialing z (dialing h)) (sym idle.0) x.kept.dialed))
    (c.in_ok-drawn.ensures.drawn s.dialing _ (does.stands s.dialing _ x.kept.dialed later)) (λ b k. c.in_ok-follow.ensures.followed s b k))

pub returns-clause-cause : goal.returns-clause-cause
returns-clause-cause g c = λ s h output x timely.
    let idle = dial_idle c.in_ok-dial.field-0 c.in_ok-dial.ensures.dialed.0 c.args.self.now.connection c.dial.new.self (λ calls. g.C.Dialer.Goes c.args.dialer.now calls c.dial.new.dialer × AreNewLanes (given_in calls) (g.C.Dialer.lanes c.args.dialer.now) (g.C.Dialer.lanes c.dial.new.dialer)) (λ ds. AddsSome (g.L.Lots.drawn c.args.lots.now) (g.L.Lots.drawn c.dial.new.lots) ds × IsCountOf ds (g.L.Lots.faults c.args.lots.now) (g.L.Lots.faults c.dial.new.lots))
    c.if-branch.false c.in_ok-dial.ensures.dialed.2 in
    let undue = sym (c.in_ok-dial.ensures.due s.dialing _ x.kept.dialed) ∙ c.if-branch.false in
    let now = c.in_ok-heard.heard.now in
    let e = c.in_ok-heard.heard.event in
    let later : of_client.moment h ≤ now = (let same = c.in_ok-dial.ensures.others_unchanged in let after = c.in_ok-heard.ensures.later.0 in omega (arith, timely, same, after)) in
    let dl = c.in_ok-news.ensures.heard.0 in
    let does = subst (λ z. Does (λ d. moment d ≤ now) (λ z d. plan.heard z dl now e d) z c.hear.new.self
    (λ calls. g.C.Dialer.Goes c.next.new.self calls c.hear.new.dialer × AreNewLanes (given_in calls) (g.C.Dialer.lanes c.next.new.self) (g.C.Dialer.lanes c.hear.new.dialer)) (λ ds. AddsSome (g.L.Lots.drawn c.dial.new.lots) (g.L.Lots.drawn c.hear.new.lots) ds × IsCountOf ds (g.L.Lots.faults c.dial.new.lots) (g.L.Lots.faults c.hear.new.lots)))
    idle.0 c.in_ok-news.ensures.heard.2 in
    caused_drawn does.new (dialing h) (Ok tt) (g.C.Dialer.faults c.args.dialer.now) (g.C.Dialer.faults c.hear.new.dialer) (g.L.Lots.faults c.args.lots.now) (g.L.Lots.faults c.hear.new.lots) output
    (c.in_ok-drawn.ensures.drawn s.dialing _ (subst (λ d. Stands s.dialing c.hear.new.self d) (does.adds s.dialing _ x.kept.dialed later) (does.stands s.dialing _ x.kept.dialed later))) x.kept.undrawn
    (subst (λ n. IsCountOf (draws does.new) n (g.L.Lots.faults c.hear.new.lots)) idle.2.1 does.tells.drew.1) (c.in_ok-news.ensures.cause ∙ (c.in_ok-heard.ensures.cause ∙ c.in_ok-dial.ensures.cause))
