-- After its turn a server is at the moment of what it heard.
use Rattle.std.proofs.Common.{◌≡◌, ℕ, List, ◌∷◌, ap, ◌∙◌}
use Rattle.hd_calls.specs.Hubs.{Hub}
use Rattle.hw_door.specs.declared.heard.Event.{Event}
use Rattle.hd_server.specs.Machine.{Rounds, connections}
use Rattle.hd_server.specs.Doings.{ServerEvent, Hears, Works, moment, work}
use Rattle.hd_server.specs.Plans.{Setup, plan}
use Rattle.hd_server.specs.Serves.{IsTurn}
use Rattle.hd_server.specs.Laws.{PartsOfTurns}
use Rattle.hub_server.proofs.StepMute.{expiries_quiet, fed_quiet, first_quiet, last_quiet, questions_at, round_at, tells_quiet, ticks_quiet}

pub turn_moment : {Job : Type 0} → PartsOfTurns → (hub : Hub Job) (s : Setup) (now : ℕ) (e : Event) (h after : List ServerEvent) → IsTurn hub s now e h after
    → moment after ≡ now
turn_moment law hub s now e h after t =
    ap moment t.tells ∙ (tells_quiet law s now (connections (work t.stepped)) t.pieces t.stepped t.stepped).at
    ∙ ap moment t.has_stepped ∙ round_at t.round (Works (Rounds now) ∷ t.ticked)
    ∙ ap moment t.has_ticked ∙ (ticks_quiet law now t.handled t.handled).at
    ∙ ap moment t.handles ∙ (last_quiet law s now e t.name t.drawn t.asked t.fed).at
    ∙ (fed_quiet now (plan s now e t.name t.drawn t.asked).food t.begun t.fed t.feeds).at
    ∙ ap moment t.begins ∙ (first_quiet law s now e t.name t.drawn t.asked t.asked).at
    ∙ ap moment t.asks ∙ questions_at law s now e t.name t.drawn t.expired t.expired
    ∙ ap moment t.expires ∙ (expiries_quiet law now (Hears now e ∷ h) (Hears now e ∷ h)).at
