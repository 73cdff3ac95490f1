-- What an event that is heard comes to in its dialing.
use Rattle.std.proofs.Common.{inl, inr, ◌≡◌, ◌⊎◌, ℕ, suc, ◌<◌, Bool, true, false, List, [], ◌∷◌, ◌++◌, Option, Some, None, refl, sym, ap, ◌∙◌, true≢false}
use Rattle.std.specs.Prelude.{◌==◌, if◌then◌else◌, nat_le}
use Rattle.std.specs.List.{list_all}
use Rattle.std.proofs.lemmas.Bool.{eqb-true}
use Rattle.hw_door.specs.declared.heard.Event.{Event}
use Rattle.hw_door.specs.declared.heard.Event.TheVariants as event
use Rattle.hd_dialing.specs.Asks.{Setup}
use Rattle.hd_dialing.specs.Bodies.{Told}
use Rattle.hd_dialing.specs.Numbers.{most_lost}
use Rattle.hd_dialing.specs.Events.{DialEvent, Hears, Draws, Asks, Learns, Shuts, GivesUp, Phase, Away, Negotiates, Upgrades, Stands, Over}
use Rattle.hd_dialing.specs.Events.{is_on, is_up, phase, risen, told}
use Rattle.hd_dialing.specs.Plans.{Dial, Nothing, answered, counted, negotiated, news, socket_asked, told_in_response}
use Rattle.hd_dialing.specs.Telling.{given, has_failed_draw}
use Rattle.hn_dialing.specs.Calls.{AreNewLanes}
use Rattle.sr_client.proofs.Dials.{is_done}

-- ---- what was done then

-- a socket was asked for on this lane, with the first token
pub record AsksOn (lane : ℕ) (xs : List DialEvent) (e : Event) (now : ℕ) (q : Phase) (g d : List DialEvent) : Type 0 where
  pub at : phase d ≡ Upgrades lane
  pub dial : ℕ
  pub was : q ≡ Negotiates dial
  pub learns : Told
  pub tells : told d ≡ Some learns
  pub unfailed : has_failed_draw d ≡ has_failed_draw g
  pub within : (before bound : ℕ) → AreNewLanes (given (xs ++ Hears now e ∷ [])) before bound → lane < bound

-- it was given up
pub record IsGivenUp (q : Phase) (g d : List DialEvent) : Type 0 where
  pub at : phase d ≡ Over
  pub down : is_up q ≡ false
  pub tells : told d ≡ told g
  pub unfailed : has_failed_draw d ≡ has_failed_draw g

-- a draw failed, once a token was told
pub record FailsToAsk (e : Event) (q : Phase) (d : List DialEvent) : Type 0 where
  pub failed : has_failed_draw d ≡ true
  pub none : news e q ≡ Nothing
  pub at : phase d ≡ Over
  pub dial : ℕ
  pub was : q ≡ Negotiates dial

-- nothing; or a draw failed; or something else that is no news
abbrev pub Came : ℕ → List DialEvent → Event → ℕ → Phase → List DialEvent → List DialEvent → Type 0
Came lane xs e now q g d = (d ≡ g) ⊎ (FailsToAsk e q d ⊎ ((news e q ≡ Nothing) × (IsGivenUp q g d ⊎ AsksOn lane xs e now q g d)))

pub record IsAnswered (dl : Dial) (e : Event) (now : ℕ) (q : Phase) (g d : List DialEvent) : Type 0 where
  pub xs : List DialEvent
  pub done : list_all is_done xs ≡ true
  pub is : d ≡ xs ++ g
  pub came : Came dl.lane xs e now q g d

module _ (z : Setup) (dl : Dial) (now : ℕ) (h : List DialEvent) where
  nothing_done : (e : Event) (q : Phase) → IsAnswered dl e now q (Hears now e ∷ h) (Hears now e ∷ h)
  nothing_done e q = record { xs = []; done = refl; is = refl; came = inl refl }

  gives_up : (e : Event) (q : Phase) → news e q ≡ Nothing → is_up q ≡ false → IsAnswered dl e now q (Hears now e ∷ h) (GivesUp ∷ Hears now e ∷ h)
  gives_up e q none down =
      record { xs = GivesUp ∷ []; done = refl; is = refl; came = inr (inr (none, inl (record { at = refl; down = down; tells = refl; unfailed = refl }))) }

  -- a response to the negotiate
  responds : (lane l status : ℕ) (body : List ℕ) (o : Option Told)
      → IsAnswered dl (event.Response lane status body) now (Negotiates l) (Hears now (event.Response lane status body) ∷ h)
      (negotiated z dl lane o (Hears now (event.Response lane status body) ∷ h))
  responds lane l status body None = record {
    xs = GivesUp ∷ Shuts lane ∷ [];
    done = refl;
    is = refl;
    came = inr (inr (refl, inl (record { at = refl; down = refl; tells = refl; unfailed = refl })));
  }
  responds lane l status body (Some t) = by dl.key dl.seed
    where
      by : (key seed : Option (List ℕ))
          → IsAnswered dl (event.Response lane status body) now (Negotiates l) (Hears now (event.Response lane status body) ∷ h)
          (socket_asked z dl.lane t.token key seed (Learns t ∷ Shuts lane ∷ Hears now (event.Response lane status body) ∷ h))
      by None seed = record { xs = GivesUp ∷ Draws None ∷ Learns t ∷ Shuts lane ∷ []; done = refl; is = refl; came = inr (inl (record { failed = refl; none = refl; at = refl; dial = l; was = refl })) }
      by (Some key) None =
          record { xs = GivesUp ∷ Draws None ∷ Draws (Some key) ∷ Learns t ∷ Shuts lane ∷ []; done = refl; is = refl; came = inr (inl (record { failed = refl; none = refl; at = refl; dial = l; was = refl })) }
      by (Some key) (Some seed) = record {
        xs = Asks dl.lane _ ∷ Draws (Some seed) ∷ Draws (Some key) ∷ Learns t ∷ Shuts lane ∷ [];
        done = refl;
        is = refl;
        came = inr (inr (refl, inr (record { at = refl; dial = l; was = refl; learns = t; tells = refl; unfailed = refl; within = λ before bound new. new.1 })));
      }

  counts : (lane lost : ℕ) (q : Phase) → news (event.Lost lane) q ≡ Nothing → is_up q ≡ false
      → IsAnswered dl (event.Lost lane) now q (Hears now (event.Lost lane) ∷ h) (counted lost (Hears now (event.Lost lane) ∷ h))
  counts lane lost q none down = by (nat_le most_lost lost)
    where
      by : (b : Bool) → IsAnswered dl (event.Lost lane) now q (Hears now (event.Lost lane) ∷ h)
          (if b then GivesUp ∷ Hears now (event.Lost lane) ∷ h else Hears now (event.Lost lane) ∷ h)
      by true = gives_up (event.Lost lane) q none down
      by false = nothing_done (event.Lost lane) q

  pub answers : (e : Event) (q : Phase) (lost : ℕ) → IsAnswered dl e now q (Hears now e ∷ h) (answered z dl e q lost (Hears now e ∷ h))
  answers (event.Response lane status body) (Negotiates l) lost = by (lane == l)
    where
      by : (b : Bool) → IsAnswered dl (event.Response lane status body) now (Negotiates l) (Hears now (event.Response lane status body) ∷ h)
          (if b then negotiated z dl lane (told_in_response z status body) (Hears now (event.Response lane status body) ∷ h)
          else Hears now (event.Response lane status body) ∷ h)
      by true = responds lane l status body (told_in_response z status body)
      by false = nothing_done (event.Response lane status body) (Negotiates l)
  answers (event.Response lane status body) (Upgrades l) lost = by (lane == l)
    where
      by : (b : Bool) → IsAnswered dl (event.Response lane status body) now (Upgrades l) (Hears now (event.Response lane status body) ∷ h)
          (if b then GivesUp ∷ Hears now (event.Response lane status body) ∷ h else Hears now (event.Response lane status body) ∷ h)
      by true = gives_up (event.Response lane status body) (Upgrades l) refl refl
      by false = nothing_done (event.Response lane status body) (Upgrades l)
  answers (event.Response lane status body) (Stands l) lost = nothing_done (event.Response lane status body) (Stands l)
  answers (event.Response lane status body) Away lost = nothing_done (event.Response lane status body) Away
  answers (event.Response lane status body) Over lost = nothing_done (event.Response lane status body) Over
  answers (event.Lost lane) (Negotiates l) lost = by (lane == l)
    where
      by : (b : Bool) → IsAnswered dl (event.Lost lane) now (Negotiates l) (Hears now (event.Lost lane) ∷ h)
          (if b then counted (suc lost) (Hears now (event.Lost lane) ∷ h) else Hears now (event.Lost lane) ∷ h)
      by true = counts lane (suc lost) (Negotiates l) refl refl
      by false = nothing_done (event.Lost lane) (Negotiates l)
  answers (event.Lost lane) (Upgrades l) lost = by (lane == l)
    where
      by : (b : Bool) → IsAnswered dl (event.Lost lane) now (Upgrades l) (Hears now (event.Lost lane) ∷ h)
          (if b then counted (suc lost) (Hears now (event.Lost lane) ∷ h) else Hears now (event.Lost lane) ∷ h)
      by true = counts lane (suc lost) (Upgrades l) refl refl
      by false = nothing_done (event.Lost lane) (Upgrades l)
  answers (event.Lost lane) (Stands l) lost = nothing_done (event.Lost lane) (Stands l)
  answers (event.Lost lane) Away lost = nothing_done (event.Lost lane) Away
  answers (event.Lost lane) Over lost = nothing_done (event.Lost lane) Over
  answers (event.Request lane r) q lost = nothing_done (event.Request lane r) q
  answers (event.Refused lane r) q lost = nothing_done (event.Refused lane r) q
  answers (event.Bytes lane bytes) q lost = nothing_done (event.Bytes lane bytes) q
  answers (event.Upgraded lane) q lost = nothing_done (event.Upgraded lane) q
  answers (event.Drained lane) q lost = nothing_done (event.Drained lane) q
  answers event.Quiet q lost = nothing_done event.Quiet q

-- ---- its lane

-- a lane that it is on after what was heard is one on which it was
pub on_heard : (l now : ℕ) (e : Event) (d : List DialEvent) → is_on l (phase (Hears now e ∷ d)) ≡ true → is_on l (phase d) ≡ true
on_heard l now (event.Request lane r) d on = on
on_heard l now (event.Refused lane r) d on = on
on_heard l now (event.Response lane status body) d on = on
on_heard l now (event.Bytes lane bytes) d on = on
on_heard l now (event.Drained lane) d on = on
on_heard l now event.Quiet d on = on
on_heard l now (event.Upgraded lane) d on = by (phase d) on
  where
    by : (q : Phase) → is_on l (risen lane q) ≡ true → is_on l q ≡ true
    by (Upgrades m) on = go (lane == m) refl on
      where
        go : (b : Bool) → (lane == m) ≡ b → is_on l (if b then Stands lane else Upgrades m) ≡ true → (l == m) ≡ true
        go true e on = ap (λ n. l == n) (sym (eqb-true lane m e)) ∙ on
        go false e on = on
    by (Negotiates m) on = on
    by (Stands m) on = on
    by Away on = on
    by Over on = on
on_heard l now (event.Lost lane) d on = by (phase d) (is_on lane (phase d)) on
  where
    by : (q : Phase) (b : Bool) → is_on l (if b then Away else q) ≡ true → is_on l q ≡ true
    by q true on = absurd (true≢false (sym on))
    by q false on = on
