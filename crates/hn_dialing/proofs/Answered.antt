-- What an event comes to.
use Rattle.std.proofs.Common.{◌≡◌, ◌≤◌, ℕ, suc, Bool, true, false, List, [], ◌∷◌, ◌++◌, Option, Result, Ok, Err, refl, sym, ap, subst, ◌∙◌, append_assoc, if◌then◌else◌}
use Rattle.std.specs.Prelude.{◌==◌, nat_le}
use Rattle.std.proofs.lemmas.Bool.{cond-true, cond-false}
use Rattle.hw_door.specs.declared.heard.Event.{Event}
use Rattle.hw_door.specs.declared.heard.Event.TheVariants as event
use Rattle.hw_door.specs.DoorCalls.{DoorCall}
use Rattle.hd_dialing.specs.Numbers.{most_lost}
use Rattle.hd_dialing.specs.Asks.{Setup}
use Rattle.hd_dialing.specs.Events as dial
use Rattle.hd_dialing.specs.Events.{DialEvent, GivesUp, Hears, draws, is_upgrade, lost_dials, moment, phase}
use Rattle.hd_dialing.specs.Plans.{Dial, answered, heard, negotiated, told_in_response}
use Rattle.hd_dialing.specs.Telling.{WhatIsNewIsToldLast, given}
use Rattle.hn_dialing.specs.declared.connection.Connection.{Connection}
use Rattle.hn_dialing.specs.declared.errors.DialFault.{DialFault}
use Rattle.hn_dialing.specs.declared.phase.Phase.TheVariants as code
use Rattle.hn_dialing.specs.Calls.{Does, DoesBy}
use Rattle.hn_dialing.specs.Stands.{Stands, is_negotiate, phase_of, setup_of}
use Rattle.hn_dialing.proofs.Keeping.{given_up, only_heard, negotiates_then}
use Rattle.hn_dialing.proofs.Learned.{OnLane, learning}
use Rattle.hn_dialing.proofs.Telling.{none_told, part_same, told_same}

-- ---- responses

abbrev pub Always : List DialEvent → Type 0
Always h = Unit {0}

abbrev pub responding : Dial → ℕ → ℕ → List ℕ → Setup → List DialEvent → List DialEvent
responding d lane status body s h = answered s d (event.Response lane status body) (phase h) (lost_dials h) h

module _ (s : Setup) (d : Dial) (lane status : ℕ) (body : List ℕ) (lost : ℕ) (h : List DialEvent) where
  abbrev Answers : dial.Phase → List DialEvent → Type 0
  Answers p g = answered s d (event.Response lane status body) p lost h ≡ g

  to_negotiate : (p : dial.Phase) → is_negotiate lane p ≡ true → Answers p (negotiated s d lane (told_in_response s status body) h)
  to_negotiate dial.Away e = absurd (cc)
  to_negotiate (dial.Negotiates l) e = cond-true (lane == l) (negotiated s d lane (told_in_response s status body) h) h e
  to_negotiate (dial.Upgrades l) e = absurd (cc)
  to_negotiate (dial.Stands l) e = absurd (cc)
  to_negotiate dial.Over e = absurd (cc)

  to_upgrade : (p : dial.Phase) → is_upgrade lane p ≡ true → Answers p (GivesUp ∷ h)
  to_upgrade dial.Away e = absurd (cc)
  to_upgrade (dial.Negotiates l) e = absurd (cc)
  to_upgrade (dial.Upgrades l) e = cond-true (lane == l) (GivesUp ∷ h) h e
  to_upgrade (dial.Stands l) e = absurd (cc)
  to_upgrade dial.Over e = absurd (cc)

  to_none : (p : dial.Phase) → is_negotiate lane p ≡ false → is_upgrade lane p ≡ false → Answers p h
  to_none dial.Away e f = refl
  to_none (dial.Negotiates l) e f = cond-false (lane == l) (negotiated s d lane (told_in_response s status body) h) h e
  to_none (dial.Upgrades l) e f = cond-false (lane == l) (GivesUp ∷ h) h f
  to_none (dial.Stands l) e f = refl
  to_none dial.Over e f = refl

module _ (old : Connection) (d : Dial) (lane status : ℕ) (body : List ℕ) (Goes : List DoorCall → Type 0) (Drew : List (Option (List ℕ)) → Type 0) where
  pub respond_learns : {T : Type 0} (now : Connection) (r : Result T DialFault) → is_negotiate lane (phase_of old.phase) ≡ true
      → DoesBy (OnLane lane) (learning d lane status body) old now Goes Drew r → DoesBy Always (responding d lane status body) old now Goes Drew r
  respond_learns now (Ok a) e does = record {
    new = does.new;
    tells = does.tells;
    adds = λ s h st m. is_learnt s h st ∙ does.adds s h st (on s h st);
    stands = λ s h st m. subst (λ g. Stands s now g) (sym (is_learnt s h st)) (does.stands s h st (on s h st));
  } where
    is_learnt : (s : Setup) (h : List DialEvent) → Stands s old h → responding d lane status body s h ≡ learning d lane status body s h
    is_learnt s h st = to_negotiate s d lane status body (lost_dials h) h (phase h) (ap (is_negotiate lane) (sym st.is_at) ∙ e)

    on : (s : Setup) (h : List DialEvent) → Stands s old h → OnLane lane h
    on s h st = negotiates_then lane (phase h) (ap (is_negotiate lane) (sym st.is_at) ∙ e)
  respond_learns now (Err why) e does = record {
    new = does.new;
    stop = does.stop;
    cause = does.cause;
    tells = does.tells;
    adds = λ s h st m. to_negotiate s d lane status body (lost_dials h) h (phase h) (ap (is_negotiate lane) (sym st.is_at) ∙ e)
        ∙ does.adds s h st (negotiates_then lane (phase h) (ap (is_negotiate lane) (sym st.is_at) ∙ e));
  }

  pub respond_refused : is_upgrade lane (phase_of old.phase) ≡ true → Goes [] → Drew [] → Does Always (responding d lane status body) old (record old { phase = code.Over }) Goes Drew
  respond_refused e goes drew = record {
    new = GivesUp ∷ [];
    tells = none_told (GivesUp ∷ []) Goes Drew refl goes drew;
    adds = λ s h st m. to_upgrade s d lane status body (lost_dials h) h (phase h) (ap (is_upgrade lane) (sym st.is_at) ∙ e);
    stands = λ s h st m. subst (λ g. Stands s (record old { phase = code.Over }) g) (sym (to_upgrade s d lane status body (lost_dials h) h (phase h) (ap (is_upgrade lane) (sym st.is_at) ∙ e)))
        (given_up s old h st);
  }

  pub respond_nothing : is_negotiate lane (phase_of old.phase) ≡ false → is_upgrade lane (phase_of old.phase) ≡ false → Goes [] → Drew [] → Does Always (responding d lane status body) old old Goes Drew
  respond_nothing e f goes drew = record {
    new = [];
    tells = none_told [] Goes Drew refl goes drew;
    adds = λ s h st m. passed s h st;
    stands = λ s h st m. subst (λ g. Stands s old g) (sym (passed s h st)) st;
  } where
    passed : (s : Setup) (h : List DialEvent) → Stands s old h → responding d lane status body s h ≡ h
    passed s h st = to_none s d lane status body (lost_dials h) h (phase h) (ap (is_negotiate lane) (sym st.is_at) ∙ e) (ap (is_upgrade lane) (sym st.is_at) ∙ f)

-- ---- events

abbrev pub NoEarlier : ℕ → List DialEvent → Type 0
NoEarlier now h = moment h ≤ now

abbrev pub hearing : Dial → ℕ → Event → Setup → List DialEvent → List DialEvent
hearing d now e s h = heard s d now e h

module _ (old : Connection) (d : Dial) (now : ℕ) (Goes : List DoorCall → Type 0) (Drew : List (Option (List ℕ)) → Type 0) where
  -- the moment is kept first
  abbrev pub at : Connection
  at = record old { moment = now }

  module _ (law : WhatIsNewIsToldLast) (lane status : ℕ) (body : List ℕ) where
    abbrev pub x : DialEvent
    x = Hears now (event.Response lane status body)

    noted : (s : Setup) (h : List DialEvent) → Stands s old h → moment h ≤ now → Stands s at (x ∷ h)
    noted s h st later = only_heard s old h now x st later refl refl refl refl refl refl

    heard_answers : {T : Type 0} (last : Connection) (r : Result T DialFault) → DoesBy Always (responding d lane status body) at last Goes Drew r
        → DoesBy (NoEarlier now) (hearing d now (event.Response lane status body)) old last Goes Drew r
    heard_answers last (Ok a) does = record {
      new = does.new ++ x ∷ [];
      tells = told_same does.new (does.new ++ x ∷ []) Goes Drew (law does.new (x ∷ [])).gives (law does.new (x ∷ [])).draws_more does.tells;
      adds = λ s h st later. does.adds s (x ∷ h) (noted s h st later) tt ∙ sym (append_assoc does.new (x ∷ []) h);
      stands = λ s h st later. does.stands s (x ∷ h) (noted s h st later) tt;
    }
    heard_answers last (Err why) does = record {
      new = does.new ++ x ∷ [];
      stop = does.stop;
      cause = does.cause;
      tells = part_same does.new (does.new ++ x ∷ []) Goes Drew does.stop (law does.new (x ∷ [])).gives (law does.new (x ∷ [])).draws_more does.tells;
      adds = λ s h st later. does.adds s (x ∷ h) (noted s h st later) tt ∙ sym (append_assoc does.new (x ∷ []) h);
    }

    -- the bytes of its body, as they were read
    pub heard_response : {T : Type 0} (e : Event) (bytes : List ℕ) → e ≡ event.Response lane status body → bytes ≡ body → (last : Connection) (r : Result T DialFault)
        → DoesBy Always (responding d lane status bytes) at last Goes Drew r → DoesBy (NoEarlier now) (hearing d now e) old last Goes Drew r
    heard_response e bytes is same last r does = subst (λ k. DoesBy (NoEarlier now) (hearing d now k) old last Goes Drew r) (sym is)
        (heard_answers last r (subst (λ b. DoesBy Always (responding d lane status b) at last Goes Drew r) same does))

  module _ (goes : Goes []) (drew : Drew []) where
    pub heard_risen : (e : Event) (lane : ℕ) → e ≡ event.Upgraded lane → (last : Connection)
        → ((s : Setup) (h : List DialEvent) → Stands s old h → moment h ≤ now → Stands s last (Hears now (event.Upgraded lane) ∷ h))
        → Does (NoEarlier now) (hearing d now e) old last Goes Drew
    heard_risen e lane is last stands = subst (λ k. Does (NoEarlier now) (hearing d now k) old last Goes Drew) (sym is) (record {
      new = Hears now (event.Upgraded lane) ∷ [];
      tells = none_told (Hears now (event.Upgraded lane) ∷ []) Goes Drew refl goes drew;
      adds = λ s h st later. refl;
      stands = stands;
    })

    module _ (lane : ℕ) where
      abbrev pub y : DialEvent
      y = Hears now (event.Lost lane)

      counted_onto : (b : Bool) (h : List DialEvent) → (if b then GivesUp ∷ y ∷ h else y ∷ h) ≡ (if b then GivesUp ∷ y ∷ [] else y ∷ []) ++ h
      counted_onto true h = refl
      counted_onto false h = refl

      either_onto : (b c : Bool) (h : List DialEvent)
          → (if b then (if c then GivesUp ∷ y ∷ h else y ∷ h) else y ∷ h) ≡ (if b then (if c then GivesUp ∷ y ∷ [] else y ∷ []) else y ∷ []) ++ h
      either_onto true c h = counted_onto c h
      either_onto false c h = refl

      lost_onto : (s k : Setup) (p : dial.Phase) (lost : ℕ) (h : List DialEvent)
          → answered s d (event.Lost lane) p lost (y ∷ h) ≡ answered k d (event.Lost lane) p lost (y ∷ []) ++ h
      lost_onto s k dial.Away lost h = refl
      lost_onto s k (dial.Negotiates l) lost h = either_onto (lane == l) (nat_le most_lost (suc lost)) h
      lost_onto s k (dial.Upgrades l) lost h = either_onto (lane == l) (nat_le most_lost (suc lost)) h
      lost_onto s k (dial.Stands l) lost h = refl
      lost_onto s k dial.Over lost h = refl

      nothing_by : (b c : Bool) → (given (if b then (if c then GivesUp ∷ y ∷ [] else y ∷ []) else y ∷ []) ≡ []) × (draws (if b then (if c then GivesUp ∷ y ∷ [] else y ∷ []) else y ∷ []) ≡ [])
      nothing_by true true = (refl, refl)
      nothing_by true false = (refl, refl)
      nothing_by false c = (refl, refl)

      nothing_given : (k : Setup) (p : dial.Phase) (lost : ℕ)
          → (given (answered k d (event.Lost lane) p lost (y ∷ [])) ≡ []) × (draws (answered k d (event.Lost lane) p lost (y ∷ [])) ≡ [])
      nothing_given k dial.Away lost = (refl, refl)
      nothing_given k (dial.Negotiates l) lost = nothing_by (lane == l) (nat_le most_lost (suc lost))
      nothing_given k (dial.Upgrades l) lost = nothing_by (lane == l) (nat_le most_lost (suc lost))
      nothing_given k (dial.Stands l) lost = (refl, refl)
      nothing_given k dial.Over lost = (refl, refl)

      abbrev pub lost_new : List DialEvent
      lost_new = answered (setup_of old.setup) d (event.Lost lane) (phase_of old.phase) old.lost_dials (y ∷ [])

      lost_adds : (s : Setup) (h : List DialEvent) → Stands s old h → heard s d now (event.Lost lane) h ≡ lost_new ++ h
      lost_adds s h st = lost_onto s (setup_of old.setup) (phase h) (lost_dials h) h
          ∙ (ap (λ p. answered (setup_of old.setup) d (event.Lost lane) p (lost_dials h) (y ∷ []) ++ h) (sym st.is_at)
          ∙ ap (λ n. answered (setup_of old.setup) d (event.Lost lane) (phase_of old.phase) n (y ∷ []) ++ h) (sym st.lost))

      pub heard_lost : (e : Event) → e ≡ event.Lost lane → (last : Connection)
          → ((s : Setup) (d : Dial) (h : List DialEvent) → Stands s old h → moment h ≤ now → Stands s last (heard s d now (event.Lost lane) h))
          → Does (NoEarlier now) (hearing d now e) old last Goes Drew
      heard_lost e is last stands = subst (λ k. Does (NoEarlier now) (hearing d now k) old last Goes Drew) (sym is) (record {
        new = lost_new;
        tells = none_told lost_new Goes Drew (nothing_given (setup_of old.setup) (phase_of old.phase) old.lost_dials).0 goes
            (subst Drew (sym (nothing_given (setup_of old.setup) (phase_of old.phase) old.lost_dials).1) drew);
        adds = λ s h st later. lost_adds s h st;
        stands = λ s h st later. stands s d h st later;
      })

    passes : (e : Event) → ((s : Setup) (h : List DialEvent) → Stands s old h → heard s d now e h ≡ Hears now e ∷ h)
        → ((s : Setup) (h : List DialEvent) → Stands s old h → moment h ≤ now → Stands s at (Hears now e ∷ h)) → Does (NoEarlier now) (hearing d now e) old at Goes Drew
    passes e adds stands = record {
      new = Hears now e ∷ [];
      tells = none_told (Hears now e ∷ []) Goes Drew refl goes drew;
      adds = λ s h st later. adds s h st;
      stands = λ s h st later. subst (λ g. Stands s at g) (sym (adds s h st)) (stands s h st later);
    }

    -- of the others nothing is kept but the moment
    pub heard_only : (e : Event) → ((l c : ℕ) (b : List ℕ) → e ≡ event.Response l c b → ⊥) → ((l : ℕ) → e ≡ event.Upgraded l → ⊥) → ((l : ℕ) → e ≡ event.Lost l → ⊥)
        → Does (NoEarlier now) (hearing d now e) old (record old { moment = now }) Goes Drew
    heard_only (event.Request l r) a u n = passes (event.Request l r) (λ s h st. refl) (λ s h st later. only_heard s old h now (Hears now (event.Request l r)) st later refl refl refl refl refl refl)
    heard_only (event.Refused l r) a u n = passes (event.Refused l r) (λ s h st. refl) (λ s h st later. only_heard s old h now (Hears now (event.Refused l r)) st later refl refl refl refl refl refl)
    heard_only (event.Bytes l b) a u n = passes (event.Bytes l b) (λ s h st. refl) (λ s h st later. only_heard s old h now (Hears now (event.Bytes l b)) st later refl refl refl refl refl refl)
    heard_only (event.Response l c b) a u n = absurd (a l c b refl)
    heard_only (event.Upgraded l) a u n = absurd (u l refl)
    heard_only (event.Lost l) a u n = absurd (n l refl)
    heard_only (event.Drained l) a u n = passes (event.Drained l) (λ s h st. refl) (λ s h st later. only_heard s old h now (Hears now (event.Drained l)) st later refl refl refl refl refl refl)
    heard_only event.Quiet a u n = passes event.Quiet (λ s h st. refl) (λ s h st later. only_heard s old h now (Hears now event.Quiet) st later refl refl refl refl refl refl)

    -- of one that is over nothing is kept of any event but the moment
    module _ (over : old.phase ≡ code.Over) where
      is_over_at : (s : Setup) (h : List DialEvent) → Stands s old h → phase h ≡ dial.Over
      is_over_at s h st = sym st.is_at ∙ ap phase_of over

      nothing_answered : (s : Setup) (e : Event) (lost : ℕ) (h : List DialEvent) → answered s d e dial.Over lost h ≡ h
      nothing_answered s (event.Request l r) lost h = refl
      nothing_answered s (event.Refused l r) lost h = refl
      nothing_answered s (event.Bytes l b) lost h = refl
      nothing_answered s (event.Response l c b) lost h = refl
      nothing_answered s (event.Upgraded l) lost h = refl
      nothing_answered s (event.Lost l) lost h = refl
      nothing_answered s (event.Drained l) lost h = refl
      nothing_answered s event.Quiet lost h = refl

      kept : (s : Setup) (e : Event) (h : List DialEvent) → Stands s old h → moment h ≤ now → phase h ≡ dial.Over → Stands s at (Hears now e ∷ h)
      kept s (event.Request l r) h st later p = only_heard s old h now (Hears now (event.Request l r)) st later refl refl refl refl refl refl
      kept s (event.Refused l r) h st later p = only_heard s old h now (Hears now (event.Refused l r)) st later refl refl refl refl refl refl
      kept s (event.Bytes l b) h st later p = only_heard s old h now (Hears now (event.Bytes l b)) st later refl refl refl refl refl refl
      kept s (event.Response l c b) h st later p = only_heard s old h now (Hears now (event.Response l c b)) st later refl refl refl refl refl refl
      kept s (event.Upgraded l) h st later p = only_heard s old h now (Hears now (event.Upgraded l)) st later refl
          (ap (dial.risen l) p ∙ sym p) refl (ap (λ q. if is_upgrade l q then 0 else lost_dials h) p) refl refl
      kept s (event.Lost l) h st later p = only_heard s old h now (Hears now (event.Lost l)) st later refl
          (ap (dial.left l) p ∙ sym p) refl (ap (λ q. if dial.is_dial l q then suc (lost_dials h) else lost_dials h) p)
          (ap (λ q. if dial.is_dial l q then now else dial.lost_at h) p) refl
      kept s (event.Drained l) h st later p = only_heard s old h now (Hears now (event.Drained l)) st later refl refl refl refl refl refl
      kept s event.Quiet h st later p = only_heard s old h now (Hears now event.Quiet) st later refl refl refl refl refl refl

      pub heard_over : (e : Event) → Does (NoEarlier now) (hearing d now e) old (record old { moment = now }) Goes Drew
      heard_over e = passes e
          (λ s h st. ap (λ p. answered s d e p (lost_dials h) (Hears now e ∷ h)) (is_over_at s h st) ∙ nothing_answered s e (lost_dials h) (Hears now e ∷ h))
          (λ s h st later. kept s e h st later (is_over_at s h st))
