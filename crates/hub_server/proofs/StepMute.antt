-- What a turn does beside what it hears, asks, draws and carries out in its round leaves the moment, and what was asked and drawn.
use Rattle.std.proofs.Common.{refl, subst, sym, ◌∙◌, ◌≡◌, ℕ, List, [], ◌∷◌, ◌++◌, Option, Some, None}
use Rattle.std.specs.Prelude.{map, ◌+◌}
use Rattle.hd_delivery.specs.Frames.{LinkFrame}
use Rattle.hd_calls.specs.Peers.{PeerEvent}
use Rattle.hw_door.specs.declared.heard.Event.{Event}
use Rattle.hd_server.specs.Lives.{made}
use Rattle.hd_server.specs.Machine.{MachineEvent, Does, Carries, connections}
use Rattle.hd_server.specs.Doings.{ServerEvent, Hears, Works, Learns, Draws, work, moment, asked, draws}
use Rattle.hd_server.specs.Plans.{Plan, Setup, onto, expiries, questions}
use Rattle.hd_server.specs.Plans.{plan}
use Rattle.hd_server.specs.Serves.{IsFed, ticks}
use Rattle.hd_server.specs.Serves.{all_flushing}
use Rattle.hd_server.specs.Parts.{Each, IsOfAny, IsExpiry, IsQuestion, IsPlanned, IsTick, IsFlush}
use Rattle.hd_server.specs.Laws.{PartsOfTurns}
use Rattle.hub_server.specs.Steps.{Follows}

-- ---- what they leave

pub record Quiet (g h : List ServerEvent) : Type 0 where
  pub at : moment g ≡ moment h
  pub asks : asked g ≡ asked h
  pub draws : draws g ≡ draws h

pub quiet_refl : (h : List ServerEvent) → Quiet h h
quiet_refl h = record { at = refl; asks = refl; draws = refl }

pub quiet_trans : (f g h : List ServerEvent) → Quiet f g → Quiet g h → Quiet f h
quiet_trans f g h x y = record { at = x.at ∙ y.at; asks = x.asks ∙ y.asks; draws = x.draws ∙ y.draws }

planned_quiet : (d : ServerEvent) (h : List ServerEvent) → IsPlanned d → Quiet (d ∷ h) h
planned_quiet (Hears now event) h a = absurd a
planned_quiet (Learns ask) h a = absurd a
planned_quiet (Draws drawn) h a = absurd a
planned_quiet (Works (Carries c j d fates ask)) h a = absurd a
planned_quiet d h a = record { at = refl; asks = refl; draws = refl }

onto_quiet : (P : ServerEvent → Type 0) → ((d : ServerEvent) → P d → IsPlanned d) → (ds h : List ServerEvent) → Each P ds → Quiet (onto ds h) h
onto_quiet P so [] h a = quiet_refl h
onto_quiet P so (d ∷ ds) h a = quiet_trans (onto ds (d ∷ h)) (d ∷ h) h (onto_quiet P so ds (d ∷ h) a.1) (planned_quiet d h (so d a.0))

moving_quiet : (c : ℕ) (ms : List PeerEvent) (h : List ServerEvent) → Quiet (map (λ m. Works (Does c m)) ms ++ h) h
moving_quiet c [] h = quiet_refl h
moving_quiet c (m ∷ ms) h =
    quiet_trans (map (λ m. Works (Does c m)) (m ∷ ms) ++ h) (map (λ m. Works (Does c m)) ms ++ h) h (record { at = refl; asks = refl; draws = refl }) (moving_quiet c ms h)

pub fed_quiet : (now : ℕ) (food : Option (ℕ × List ℕ)) (h after : List ServerEvent) → IsFed now food h after → Quiet after h
fed_quiet now None h after e = subst (λ x. Quiet x h) (sym e) (quiet_refl h)
fed_quiet now (Some f) h after one = subst (λ x. Quiet x h) (sym one.are) (moving_quiet f.0 one.moves h)

asks_at : (ds g : List ServerEvent) → Each IsQuestion ds → moment (onto ds g) ≡ moment g
asks_at [] g a = refl
asks_at (Hears now event ∷ ds) g a = absurd a.0
asks_at (d ∷ ds) g a = asks_at ds (d ∷ g) a.1

-- the parts of a turn
module _ (law : PartsOfTurns) where
  pub expiries_quiet : (now : ℕ) (h g : List ServerEvent) → Quiet (onto (expiries now h) g) g
  expiries_quiet now h g = onto_quiet (IsOfAny IsExpiry) law.expiry_planned (expiries now h) g (law.expiries_are now h)

  pub ticks_quiet : (now : ℕ) (h g : List ServerEvent) → Quiet (onto (ticks now h) g) g
  ticks_quiet now h g = onto_quiet (IsOfAny IsTick) law.tick_planned (ticks now h) g (law.ticks_are now (connections (work h)) h)

  pub tells_quiet : (s : Setup) (now : ℕ) (cs : List ℕ) (all : List (List (List LinkFrame))) (h g : List ServerEvent) → Quiet (onto (all_flushing s now cs all h) g) g
  tells_quiet s now cs all h g = onto_quiet (IsOfAny IsFlush) law.flush_planned (all_flushing s now cs all h) g (law.all_flushing_is s now cs all h)

  -- nothing is heard by what is asked
  pub questions_at : (s : Setup) (now : ℕ) (e : Event) (name : Option (Option (List ℕ))) (drawn : Option (List ℕ)) (h g : List ServerEvent)
      → moment (onto (questions s now e name drawn h) g) ≡ moment g
  questions_at s now e name drawn h g = asks_at (questions s now e name drawn h) g (law.questions_are s now e name drawn h)

  module _ (s : Setup) (now : ℕ) (e : Event) (name : Option (Option (List ℕ))) (drawn : Option (List ℕ)) (h : List ServerEvent) where
    pub first_quiet : (g : List ServerEvent) → Quiet (onto (plan s now e name drawn h).first g) g
    first_quiet g = onto_quiet IsPlanned (λ d p. p) (plan s now e name drawn h).first g (law.first_is s now e name drawn h)

    pub last_quiet : (g : List ServerEvent) → Quiet (onto (plan s now e name drawn h).last g) g
    last_quiet g = onto_quiet IsPlanned (λ d p. p) (plan s now e name drawn h).last g (law.last_is s now e name drawn h)

  -- a plan that is carried out where it was made
  pub follows_quiet : (s : Setup) (e : Event) (name : Option (Option (List ℕ))) (drawn : Option (List ℕ)) (now : ℕ) (h after : List ServerEvent)
      → Follows (plan s now e name drawn h) h after → Quiet after h
  follows_quiet s e name drawn now h after f =
      let p : Plan = plan s now e name drawn h in
      subst (λ (g : List ServerEvent). Quiet g h) (sym f.is)
      (quiet_trans (onto p.last f.fed) f.fed h (last_quiet s now e name drawn h f.fed)
      (quiet_trans f.fed (onto p.first h) h (fed_quiet (moment h) p.food (onto p.first h) f.fed f.feeds) (first_quiet s now e name drawn h h)))

-- ---- rounds

pub round_at : (xs : List MachineEvent) (h : List ServerEvent) → moment (map Works xs ++ h) ≡ moment h
round_at [] h = refl
round_at (x ∷ xs) h = round_at xs h

pub round_draws : (xs : List MachineEvent) (h : List ServerEvent) → draws (map Works xs ++ h) ≡ draws h
round_draws [] h = refl
round_draws (x ∷ xs) h = round_draws xs h
