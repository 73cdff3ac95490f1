-- A client's turn begins: the calls of its beginning, put together.
use Rattle.std.proofs.Common.{◌≡◌, ℕ, ◌≤◌, Bool, true, false, List, [], ◌∷◌, ◌++◌, Option, Some, None, sym, ap, subst, ◌∙◌, arith, true≢false}
use Rattle.std.proofs.Common.{Err, Ok}
use Rattle.std.specs.Prelude.{MatchResult, Result}
use Rattle.std.specs.Result.{IsErrAnd}
use Rattle.std.proofs.lemmas.Result.{err_from_is_err_and}
use Rattle.std.proofs.lemmas.List.{append-nil}
use Rattle.hub_calc.specs.Client.{client_hub}
use Rattle.hw_door.specs.Calls.{AddsSome, IsCaused}
use Rattle.hw_door.specs.DoorCalls.{DoorCall, given_in, heard}
use Rattle.hw_door.specs.declared.error.DoorError.{DoorError}
use Rattle.hw_door.specs.declared.error.DoorError.TheVariants as door
use Rattle.hw_door.specs.declared.heard.Event.{Event}
use Rattle.hd_dialing.specs.Asks as asks
use Rattle.hd_dialing.specs.Dialing as move
use Rattle.hd_dialing.specs.Dialing.{MayMove, happened, moved}
use Rattle.hd_dialing.specs.Events as dial
use Rattle.hd_dialing.specs.Events.{DialEvent, is_due, phase}
use Rattle.hd_dialing.specs.Laws.{PhasesSuitAsks, SuitsAsk}
use Rattle.hd_dialing.specs.Plans as plan
use Rattle.hd_dialing.specs.Plans.{Dial, news}
use Rattle.hd_dialing.specs.Telling.{has_failed_draw}
use Rattle.hd_client.specs.declared.order.Order.{Order}
use Rattle.hd_client.specs.Setups.{Setup}
use Rattle.hd_client.specs.Events.{ClientEvent, IsClientPeer, dialing, has_closed, is_over, moment, moves, phase_of, settings_of}
use Rattle.hd_client.specs.Laws.{IsDialedSo}
use Rattle.hd_client.specs.Printed.{printed}
use Rattle.hd_client.specs.Telling.{draws, given, seen, wait_for}
use Rattle.hd_client.specs.Telling as told
use Rattle.hd_client.specs.Turns.{dialed}
use Rattle.hn_dialing.specs.Calls as of_call
use Rattle.hn_dialing.specs.Calls.{AreNewLanes, BreaksOff, DialsIf, Does, IsCountOf}
use Rattle.hn_dialing.specs.Stands as of_connection
use Rattle.hn_dialing.specs.declared.connection.Connection.{Connection}
use Rattle.hn_dialing.specs.declared.errors.DialFault.{DialFault}
use Rattle.hn_dialing.specs.declared.errors.DialFault.TheVariants as fault
use Rattle.sr_client.specs.declared.client.Client.{Client}
use Rattle.sr_client.specs.declared.client.ClientError.{ClientError}
use Rattle.sr_client.specs.declared.client.ClientError.TheVariants as error
use Rattle.sr_client.specs.declared.client.Words.{Words}
use Rattle.sr_client.specs.Clients.{Before, Fits, Kept, Standing, Tells}
use Rattle.sr_client.specs.Running.{Faults, IsCausedBy, TurnsBy, WentSo, error_of_dial, error_of_dialer, faults}
use Rattle.sr_client.specs.Turning.{AreNone, BeginsBy, FitsNews, Follows, HasHeard, HasOpened, MayStart}
use Rattle.sr_client.proofs.Counted.{rises_failed, stays_unfailed}
use Rattle.sr_client.proofs.Dials.{dialing_dialed}
use Rattle.sr_client.proofs.Dropped.{with_connection}
use Rattle.sr_client.proofs.Lots.{HasFailed, failed_dials, failed_hears, lots_failed}
use Rattle.sr_client.proofs.Opened.{begun_by, draws_linked, given_linked, heard_dials, kept_dialed, opened_hears, tells_dialed}
use Rattle.sr_client.proofs.Ready.{fits_heard, heard_hears, moment_is, receives}

-- ---- draws

pub adds_then : (a b c : Option (List (Option (List ℕ)))) (ds : List (Option (List ℕ))) → AddsSome a b [] → AddsSome b c ds → AddsSome a c ds
adds_then a b None ds first then_more = tt
adds_then a None (Some z) ds first then_more = absurd then_more
adds_then None (Some y) (Some z) ds first then_more = absurd first
adds_then (Some x) (Some y) (Some z) ds first then_more = then_more ∙ ap (λ l. l ++ ds) (first ∙ append-nil x)

-- what was drawn, by what a draw that fails comes to
abbrev pub Draws : List DialEvent → Result Unit ClientError → Type 0
Draws d r = MatchResult r (λ u. has_failed_draw d ≡ false) (λ e. (e ≡ error.Lots) × (has_failed_draw d ≡ true))

pub begins_drawn : (s : Setup) (script : List Order) (c : Client) (w : Words) (Went : List DoorCall → told.Told → Type 0) (bound now : ℕ) (h : List ClientEvent)
    (d : List DialEvent) (r : Result Unit ClientError) → Draws d r → (has_failed_draw d ≡ false → HasHeard s c w Went bound now h)
    → (has_failed_draw d ≡ true → HasFailed s Went h) → BeginsBy s script c w Went bound now h r
begins_drawn s script c w Went bound now h d (Ok u) drew goes fails = goes drew
begins_drawn s script c w Went bound now h d (Err e) drew goes fails =
    record { by = subst (λ y. TurnsBy s script (λ after. ⊥) Went h (Err y)) (sym drew.0) (lots_failed s script (λ after. ⊥) Went h (fails drew.1)) }

pub fits_raised : (a b m n : ℕ) (h : List ClientEvent) → Fits a m h → a ≤ b → m ≤ n → Fits b n h
fits_raised a b m n h fits more later = record {
  below = λ l on. (let few = fits.below l on in omega (arith, few, more));
  unused = λ l from. fits.unused l (omega (arith, more, from));
  timely = (let few = fits.timely in omega (arith, few, later));
}

-- ---- it dials

module _ (s : Setup) (script : List Order) (c : Client) (y : Connection) (w : Words) (h : List ClientEvent) (Calls : List DoorCall → Type 0)
    (drawn since : Option (List (Option (List ℕ)))) (held : Option (List ℕ)) (x : Standing s c h) (goes_on : is_over s h ≡ false) (none : AreNone w)
    (bound later at : ℕ) (fits : Fits bound at h) (lots_before lots_now : ℕ) where
  abbrev pub Goes : List DoorCall → Type 0
  Goes calls = Calls calls × AreNewLanes (given_in calls) bound later

  abbrev pub Drew : List (Option (List ℕ)) → Type 0
  Drew ds = AddsSome drawn since ds × IsCountOf ds lots_before lots_now

  module _ (dl : Dial) (fresh : bound ≤ dl.lane) (due : is_due (dialing h) ≡ true)
      (does : Does (MayMove (move.Dials dl)) (λ z. moved z (move.Dials dl)) c.connection y Goes Drew) where
    pub begins_dialed : (r : Result Unit ClientError) → ((z : asks.Setup) (d : List DialEvent) → of_connection.Stands z y d → Draws d r)
        → IsClientPeer client_hub (settings_of s h) (moves h)
        → BeginsBy s script (with_connection c y) w (WentSo Calls drawn since held held) later at h r
    begins_dialed r drew peer =
        let adds = does.adds s.dialing (dialing h) x.kept.dialed due in
        let stands = does.stands s.dialing (dialing h) x.kept.dialed due in
        let all = does.tells in
        begins_drawn s script (with_connection c y) w (WentSo Calls drawn since held held) later at h (moved s.dialing (move.Dials dl) (dialing h)) r
        (drew s.dialing (moved s.dialing (move.Dials dl) (dialing h)) stands)
        (λ undrawn.
        heard_dials s c y w h Calls drawn since held x goes_on none bound later at fits dl does.new due fresh adds stands undrawn all.calls all.goes.0
        all.giving all.no_messages all.gives all.drew.0 all.goes.1)
        (λ failed.
        failed_dials s h Calls drawn since held goes_on dl does.new due adds all.calls all.goes.0 all.giving all.no_messages all.gives all.drew.0
        x.kept.undrawn failed peer)

-- ---- it hears

-- the same, with other words for what it says and draws
pub does_as : {May : List DialEvent → Type 0} {after : asks.Setup → List DialEvent → List DialEvent} (old now : Connection) (G F : List DoorCall → Type 0)
    (D E : List (Option (List ℕ)) → Type 0) → ((calls : List DoorCall) → G calls → F calls) → ((ds : List (Option (List ℕ))) → D ds → E ds)
    → Does May after old now G D → Does May after old now F E
does_as old now G F D E go draw does = record {
  new = does.new;
  tells = record {
    calls = does.tells.calls;
    goes = go does.tells.calls does.tells.goes;
    giving = does.tells.giving;
    no_messages = does.tells.no_messages;
    gives = does.tells.gives;
    drew = draw (dial.draws does.new) does.tells.drew;
  };
  adds = does.adds;
  stands = does.stands;
}

pub breaks_as : {May : List DialEvent → Type 0} {after : asks.Setup → List DialEvent → List DialEvent} (old : Connection) (G : List DoorCall → Type 0)
    (D E : List (Option (List ℕ)) → Type 0) (why : DialFault) → ((ds : List (Option (List ℕ))) → D ds → E ds)
    → BreaksOff May after old G D why → BreaksOff May after old G E why
breaks_as old G D E why draw breaks = record {
  new = breaks.new;
  stop = breaks.stop;
  cause = breaks.cause;
  tells = record {
    calls = breaks.tells.calls;
    goes = breaks.tells.goes;
    giving = breaks.tells.giving;
    no_messages = breaks.tells.no_messages;
    gives = breaks.tells.gives;
    drawn = breaks.tells.drawn;
    drew = draw breaks.tells.drawn breaks.tells.drew;
    draws_first = breaks.tells.draws_first;
    draws_gave = breaks.tells.draws_gave;
  };
  adds = breaks.adds;
}

pub suits_so : PhasesSuitAsks → (s : Setup) (h : List ClientEvent) → IsDialedSo s h → SuitsAsk s.dialing (phase_of h) (dialing h)
suits_so law s h (ms, is, dialing) = subst (λ d. SuitsAsk s.dialing (phase d) d) (sym is) (law s.dialing ms dialing)

module _ (s : Setup) (script : List Order) (c : Client) (y : Connection) (w : Words) (h : List ClientEvent) (Both : List DoorCall → Type 0)
    (drawn since : Option (List (Option (List ℕ)))) (held : Option (List ℕ)) (x : Standing s c h) (goes_on : is_over s h ≡ false) (none : AreNone w)
    (bound later at : ℕ) (fits : Fits bound at h) (suits : SuitsAsk s.dialing (phase_of h) (dialing h)) (dl : Dial) (now : ℕ) (e : Event)
    (undue : is_due (dialing h) ≡ false) (before : moment h ≤ now) (fresh : bound ≤ dl.lane) where
  abbrev pub SoGoes : List DoorCall → Type 0
  SoGoes calls = Both (heard (wait_for s h) (record { now = now; event = e }) ∷ calls) × AreNewLanes (given_in calls) bound later

  abbrev pub SoDrew : List (Option (List ℕ)) → Type 0
  SoDrew ds = AddsSome drawn since ds

  module _ (does : Does (λ d. dial.moment d ≤ now) (λ z d. plan.heard z dl now e d) c.connection y SoGoes SoDrew) where
    adds : plan.heard s.dialing dl now e (dialing h) ≡ does.new ++ dialing h
    adds = does.adds s.dialing (dialing h) x.kept.dialed before

    stands : of_connection.Stands s.dialing y (plan.heard s.dialing dl now e (dialing h))
    stands = does.stands s.dialing (dialing h) x.kept.dialed before

    -- its turn has begun
    pub begun_so : HasOpened s (WentSo Both drawn since held held) h
    begun_so =
        opened_hears s h Both drawn since held goes_on dl does.new now e undue before adds does.tells.calls does.tells.goes.0 does.tells.giving
        does.tells.no_messages does.tells.gives does.tells.drew

    -- a draw failed
    pub fails_so : (why : ClientError) → Draws (plan.heard s.dialing dl now e (dialing h)) (Err why)
        → TurnsBy s script (λ after. ⊥) (WentSo Both drawn since held held) h (Err why)
    fails_so why drew =
        (begins_drawn s script c w (WentSo Both drawn since held held) later now h (plan.heard s.dialing dl now e (dialing h)) (Err why) drew
        (λ undrawn. absurd (true≢false (sym drew.1 ∙ undrawn)))
        (λ failed.
        failed_hears s h Both drawn since held goes_on dl does.new now e undue before adds does.tells.calls does.tells.goes.0 does.tells.giving
        does.tells.no_messages does.tells.gives does.tells.drew c x suits failed)).by

    -- and else what was heard is followed
    pub begins_heard : (new : Client) (words : Words) (told_news : plan.News) → told_news ≡ news e (phase_of h)
        → has_failed_draw (plan.heard s.dialing dl now e (dialing h)) ≡ false
        → ((b : Before) (k : List ClientEvent) → Kept s (with_connection c y) k → MayStart (settings_of s k) c.peer (moves k) (moment k) → Tells s b w k
        → has_closed s k ≡ false → w.shut ≡ None → FitsNews s (with_connection c y) told_news k → now ≡ moment k → Follows s b new words told_news k)
        → HasHeard s new words (WentSo Both drawn since held held) later now h
    begins_heard new words told_news is_news undrawn follows =
        let k = dialed does.new h in
        let lanes = subst (λ g. AreNewLanes g bound later) does.tells.gives does.tells.goes.1 in
        let there : dialing k ≡ plan.heard s.dialing dl now e (dialing h) = dialing_dialed does.new h ∙ sym adds in
        let comes = receives s c y h x goes_on bound later at fits dl does.new now e before fresh adds undrawn suits lanes in
        let then_at = moment_is s c y h x goes_on bound later at fits dl does.new now e before fresh adds undrawn suits lanes in
        let g = begun_by s now e does.new h in
        let b : Before = record { given = given g; drawn = draws g; seen = seen h; printed = printed s h } in
        heard_hears s h Both drawn since held goes_on dl does.new now e undue before adds does.tells.calls does.tells.goes.0 does.tells.giving
        does.tells.no_messages does.tells.gives does.tells.drew new words later then_at
        (fits_heard s c y h x goes_on bound later at fits dl does.new now e before fresh adds undrawn suits lanes)
        (subst (λ n. Follows s b new words n k) is_news
        (follows b k
        (kept_dialed s c y does.new h x.kept (subst (λ d. of_connection.Stands s.dialing y d) (sym there) stands) (ap has_failed_draw there ∙ undrawn))
        comes.may
        (tells_dialed s w does.new h (given g) (draws g) none (given_linked s (moment k) (news e (phase_of h)) k) (draws_linked s (moment k) (news e (phase_of h)) k))
        comes.opened none.shut (subst (λ n. FitsNews s (with_connection c y) n k) (sym is_news) comes.fits) (sym then_at)))

-- ---- causes

pub caused_dial : (T : Type 0) (f : DialFault) (a b m n o : ℕ) → of_call.IsCausedBy {T = T} a b (Err f) → n ≡ m → IsCausedBy {T = Unit} (faults a m o) (faults b n o) (Err (error_of_dial f))
caused_dial T fault.Dialer a b m n o rose same = (rose, ap (λ k. faults b k o) same)
caused_dial T fault.NoMemory a b m n o same lots = ap (λ k. faults k n o) same ∙ ap (λ k. faults a k o) lots

pub caused_next : (e : DoorError) (a b m n o : ℕ) → IsCaused a b e → n ≡ m → IsCausedBy {T = Unit} (faults a m o) (faults b n o) (Err (error_of_dialer e))
caused_next door.Failed a b m n o rose same = (rose, ap (λ k. faults b k o) same)
caused_next door.NoMemory a b m n o same lots = ap (λ k. faults k n o) same ∙ ap (λ k. faults a k o) lots

-- by whether a draw failed
pub caused_drawn : (new d : List DialEvent) (r : Result Unit ClientError) (a b m n o : ℕ) → Draws (new ++ d) r → has_failed_draw d ≡ false → IsCountOf (dial.draws new) m n
    → b ≡ a → IsCausedBy (faults a m o) (faults b n o) r
caused_drawn new d (Ok u) a b m n o drew before count same =
    ap (λ k. faults k n o) same ∙ ap (λ k. faults a k o) (stays_unfailed new d m n drew count)
caused_drawn new d (Err e) a b m n o drew before count same =
    subst (λ z. IsCausedBy {T = Unit} (faults a m o) (faults b n o) (Err z)) (sym drew.0)
    (rises_failed new d m n drew.1 before count, ap (λ k. faults k n o) same)

-- ---- by what was answered

pub begins_err : (s : Setup) (script : List Order) (c : Client) (w : Words) (Went : List DoorCall → told.Told → Type 0) (bound now : ℕ) (h : List ClientEvent)
    (why : ClientError) (r : Result Unit ClientError) → IsErrAnd r (λ e. e ≡ why) → TurnsBy s script (λ after. ⊥) Went h (Err why)
    → BeginsBy s script c w Went bound now h r
begins_err s script c w Went bound now h why r err turns =
    let p = err_from_is_err_and r err in subst (λ x. BeginsBy s script c w Went bound now h x) (sym (p.1 ∙ ap Err p.2)) (record { by = turns })

pub caused_err : (old new : Faults) (why : ClientError) (r : Result Unit ClientError) → IsErrAnd r (λ e. e ≡ why) → IsCausedBy {T = Unit} old new (Err why)
    → IsCausedBy old new r
caused_err old new why r err caused = let p = err_from_is_err_and r err in subst (λ x. IsCausedBy old new x) (sym (p.1 ∙ ap Err p.2)) caused

pub dial_does : (b : Bool) (d : Dial) (old now : Connection) (Goes : List DoorCall → Type 0) (Drew : List (Option (List ℕ)) → Type 0) → b ≡ true
    → DialsIf b d old now Goes Drew → Does (MayMove (move.Dials d)) (λ z. moved z (move.Dials d)) old now Goes Drew
dial_does b d old now Goes Drew is does = subst (λ t. DialsIf t d old now Goes Drew) is does

pub dial_idle : (b : Bool) (d : Dial) (old now : Connection) (Goes : List DoorCall → Type 0) (Drew : List (Option (List ℕ)) → Type 0) → b ≡ false
    → DialsIf b d old now Goes Drew → (now ≡ old) × Goes [] × Drew []
dial_idle b d old now Goes Drew is idle = subst (λ t. DialsIf t d old now Goes Drew) is idle
