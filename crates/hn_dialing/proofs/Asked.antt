-- What is told of an ask, for a token or for a socket.
use Rattle.std.proofs.Common.{◌≡◌, ◌≤◌, ◌+◌, ℕ, Bool, List, [], ◌∷◌, Option, Some, None, Result, Ok, Err, refl, sym, ap, subst, ◌∙◌, arith, IfOk}
use Rattle.std.specs.Result.{IsErrAnd}
use Rattle.hd_facts.specs.Counts.{Rose}
use Rattle.hw_lanes.specs.declared.http.Method.TheVariants.{Get, Post}
use Rattle.hw_door.specs.declared.error.DoorError.{DoorError}
use Rattle.hw_door.specs.declared.heard.Given.TheVariants as give
use Rattle.hw_door.specs.Calls.{Adds, AddsSome}
use Rattle.hw_door.specs.DoorCalls.{DoorCall, given as given_one, failed, to_say}
use Rattle.hd_dialing.specs.Asks.{Setup, negotiate_ask, negotiate_target, socket_target}
use Rattle.hd_dialing.specs.Events.{DialEvent, Asks, phase}
use Rattle.hd_dialing.specs.Plans.{Dial, socket_asked}
use Rattle.hn_dialing.specs.declared.errors.DialFault.{DialFault}
use Rattle.hn_dialing.specs.declared.errors.DialFault.TheVariants as fault
use Rattle.hn_dialing.specs.declared.phase.Phase.{Phase}
use Rattle.hn_dialing.specs.declared.phase.Phase.TheVariants as code
use Rattle.hn_dialing.specs.Calls.{IsCountOf, Tells, TellsAll, at_dialer, at_memory, fault_by}
use Rattle.hn_dialing.specs.Stands.{phase_of}
use Rattle.hn_dialing.proofs.Telling.{Nothing_drawn, Way, call_told, memory_told, none_drawn, none_told, one_drawn, one_told, tells_err, two_drawn}

-- ---- results

pub not_ok : {T E : Type 0} (r : Result T E) (P : E → Type 0) (Q : T → Type 0) → IsErrAnd r P → IfOk r Q
not_ok (Ok a) P Q e = absurd e
not_ok (Err why) P Q e = tt

-- ---- tokens

module _ (s : Setup) (Go : List DoorCall → Type 0) (first last : ℕ) where
  abbrev pub AsksToken : ℕ → Result Phase DialFault → Type 0
  AsksToken lane r = Tells (Asks lane (negotiate_ask s) ∷ []) (Way Go first last) Nothing_drawn r × IfOk r (λ p. (p ≡ code.Negotiates lane) × (first ≤ lane))

  pub token_unmade : (r : Result Phase DialFault) → Go [] → last ≡ first → IsErrAnd r (λ e. e ≡ fault.NoMemory) → AsksToken first r
  token_unmade r goes same err = (
    tells_err (Asks first (negotiate_ask s) ∷ []) (Way Go first last) Nothing_drawn at_memory r err
        (memory_told (Asks first (negotiate_ask s) ∷ []) (Way Go first last) Nothing_drawn (goes, omega (arith, same)) refl),
    not_ok r (λ e. e ≡ fault.NoMemory) (λ p. (p ≡ code.Negotiates first) × (first ≤ first)) err,
  )

  pub token_unasked : (lane : ℕ) (target : List ℕ) (why : DoorError) (r : Result Phase DialFault) → Go (failed (to_say (give.Ask lane s.place Post target None)) why ∷ [])
      → target ≡ negotiate_target s → last ≡ first → IsErrAnd r (λ e. e ≡ fault_by why) → AsksToken lane r
  token_unasked lane target why r goes is same err = (
    tells_err (Asks lane (negotiate_ask s) ∷ []) (Way Go first last) Nothing_drawn (at_dialer (give.Ask lane s.place Post target None) why) r err
        (call_told (Asks lane (negotiate_ask s) ∷ []) (give.Ask lane s.place Post target None) why [] (Way Go first last) Nothing_drawn
        (ap (λ t. give.Ask lane s.place Post t None ∷ []) (sym is)) refl refl (goes, omega (arith, same)) refl),
    not_ok r (λ e. e ≡ fault_by why) (λ p. (p ≡ code.Negotiates lane) × (first ≤ lane)) err,
  )

  pub token_asked : (lane : ℕ) (target : List ℕ) (is_said : Bool) → Go (given_one (give.Ask lane s.place Post target None) is_said ∷ []) → target ≡ negotiate_target s
      → (first ≤ lane) × (lane + 1 ≤ last) → TellsAll (Asks lane (negotiate_ask s) ∷ []) (Way Go first last) Nothing_drawn
  token_asked lane target is_said goes is new =
      one_told (Asks lane (negotiate_ask s) ∷ []) (give.Ask lane s.place Post target None) is_said (Way Go first last) Nothing_drawn
      (ap (λ t. give.Ask lane s.place Post t None ∷ []) (sym is)) (goes, (new.0, omega (arith, new.1), omega (arith, new.0, new.1))) refl

-- ---- sockets

abbrev pub Drawn : Type 0
Drawn = Option (List (Option (List ℕ)))

-- the lots gave this, and their count of faults says so
abbrev pub Drew : Drawn → Drawn → ℕ → ℕ → List (Option (List ℕ)) → Type 0
Drew told now before since drawn = AddsSome told now drawn × IsCountOf drawn before since

abbrev pub undrawn : ℕ → Dial
undrawn lane = record { lane = lane; key = None; seed = None }

abbrev pub half_drawn : ℕ → List ℕ → Dial
half_drawn lane key = record { lane = lane; key = Some key; seed = None }

abbrev pub all_drawn : ℕ → List ℕ → List ℕ → Dial
all_drawn lane key seed = record { lane = lane; key = Some key; seed = Some seed }

module _ (s : Setup) (token : List ℕ) (Go : List DoorCall → Type 0) (first last : ℕ) (told now : Drawn) (before since : ℕ) where
  abbrev pub asked_by : Dial → List DialEvent
  asked_by d = socket_asked s d.lane token d.key d.seed []

  abbrev pub AsksSocket : Dial → Result Phase DialFault → Type 0
  AsksSocket d r = IfOk r (λ done. first ≤ d.lane) × Tells (asked_by d) (Way Go first last) (Drew told now before since) r × IfOk r (λ p. phase_of p ≡ phase (asked_by d))

  socket_err : (d : Dial) (r : Result Phase DialFault) (why : DialFault) → IsErrAnd r (λ e. e ≡ why) → Tells (asked_by d) (Way Go first last) (Drew told now before since) r → AsksSocket d r
  socket_err d r why err tells = (
    not_ok r (λ e. e ≡ why) (λ done. first ≤ d.lane) err,
    tells,
    not_ok r (λ e. e ≡ why) (λ p. phase_of p ≡ phase (asked_by d)) err,
  )

  pub socket_unmade : (r : Result Phase DialFault) → Go [] → last ≡ first → now ≡ told → since ≡ before → IsErrAnd r (λ e. e ≡ fault.NoMemory) → AsksSocket (undrawn first) r
  socket_unmade r goes same e f err = socket_err (undrawn first) r fault.NoMemory err
      (tells_err (asked_by (undrawn first)) (Way Go first last) (Drew told now before since) at_memory r err
      (memory_told (asked_by (undrawn first)) (Way Go first last) (Drew told now before since) (goes, omega (arith, same))
      (subst (λ k. AddsSome told k []) (sym e) (none_drawn told), f)))

  pub no_key : Go [] → last ≡ first → Adds told now None → (before ≤ since) → Rose before since → TellsAll (asked_by (undrawn first)) (Way Go first last) (Drew told now before since)
  no_key goes same drew later rose =
      none_told (asked_by (undrawn first)) (Way Go first last) (Drew told now before since) refl (goes, omega (arith, same)) (one_drawn told now None drew, (later, rose))

  pub no_seed : (key : List ℕ) (mid : Drawn) (between : ℕ) → Go [] → last ≡ first → Adds told mid (Some key) → between ≡ before → Adds mid now None → (between ≤ since)
      → Rose between since → TellsAll (asked_by (half_drawn first key)) (Way Go first last) (Drew told now before since)
  no_seed key mid between goes same drew one drew_none later rose =
      none_told (asked_by (half_drawn first key)) (Way Go first last) (Drew told now before since) refl (goes, omega (arith, same))
      (two_drawn told mid now (Some key) None drew drew_none, subst (λ k. (k ≤ since) × Rose k since) one (later, rose))

  both_drawn : (key seed : List ℕ) (mid : Drawn) (between : ℕ) → Adds told mid (Some key) → between ≡ before → Adds mid now (Some seed) → since ≡ between
      → Drew told now before since (Some key ∷ Some seed ∷ [])
  both_drawn key seed mid between drew one drew_more two = (two_drawn told mid now (Some key) (Some seed) drew drew_more, two ∙ one)

  pub socket_unasked : (lane : ℕ) (target key seed : List ℕ) (why : DoorError) (r : Result Phase DialFault) (mid : Drawn) (between : ℕ)
      → Go (failed (to_say (give.Ask lane s.place Get target (Some (record { key = key; seed = seed })))) why ∷ []) → target ≡ socket_target s token → last ≡ first
      → Adds told mid (Some key) → between ≡ before → Adds mid now (Some seed) → since ≡ between → IsErrAnd r (λ e. e ≡ fault_by why) → AsksSocket (all_drawn lane key seed) r
  socket_unasked lane target key seed why r mid between goes is same drew one drew_more two err = socket_err (all_drawn lane key seed) r (fault_by why) err
      (tells_err (asked_by (all_drawn lane key seed)) (Way Go first last) (Drew told now before since)
      (at_dialer (give.Ask lane s.place Get target (Some (record { key = key; seed = seed }))) why) r err
      (call_told (asked_by (all_drawn lane key seed)) (give.Ask lane s.place Get target (Some (record { key = key; seed = seed }))) why (Some key ∷ Some seed ∷ [])
      (Way Go first last) (Drew told now before since) (ap (λ t. give.Ask lane s.place Get t (Some (record { key = key; seed = seed })) ∷ []) (sym is)) refl refl
      (goes, omega (arith, same)) (both_drawn key seed mid between drew one drew_more two)))

  pub socket_asked_of : (lane : ℕ) (target key seed : List ℕ) (is_said : Bool) (mid : Drawn) (between : ℕ)
      → Go (given_one (give.Ask lane s.place Get target (Some (record { key = key; seed = seed }))) is_said ∷ []) → target ≡ socket_target s token
      → (first ≤ lane) × (lane + 1 ≤ last) → Adds told mid (Some key) → between ≡ before → Adds mid now (Some seed) → since ≡ between
      → TellsAll (asked_by (all_drawn lane key seed)) (Way Go first last) (Drew told now before since)
  socket_asked_of lane target key seed is_said mid between goes is new drew one drew_more two =
      one_told (asked_by (all_drawn lane key seed)) (give.Ask lane s.place Get target (Some (record { key = key; seed = seed }))) is_said (Way Go first last)
      (Drew told now before since) (ap (λ t. give.Ask lane s.place Get t (Some (record { key = key; seed = seed })) ∷ []) (sym is))
      (goes, (new.0, omega (arith, new.1), omega (arith, new.0, new.1))) (both_drawn key seed mid between drew one drew_more two)
