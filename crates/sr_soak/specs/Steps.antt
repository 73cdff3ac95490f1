-- One or two actions, as a list that has the latest first.
use Rattle.std.specs.Prelude.{List, [], ◌∷◌, All, Option, Some, None}
use Rattle.sr_script.specs.declared.action.Action.{Action}
use Rattle.sr_peers.specs.Follows.{IsOfPeers}
use Rattle.sr_soak.specs.declared.recipe.Step.{Step}

abbrev pub and_then : Option Action → List Action → List Action
and_then None actions = actions
and_then (Some a) actions = a ∷ actions

abbrev pub actions_of : Step → List Action
actions_of step = and_then step.second (step.first ∷ [])

-- each can be done by peers
abbrev pub AreOfPeers : Step → Type 0
AreOfPeers step = All IsOfPeers (actions_of step)
