-- What a client answers when the server calls it.
use Rattle.std.specs.Prelude.{ℕ, false, List, [], ◌∷◌, Option, Some, None, Result, Ok, Err, codes, if◌then◌else◌}
use Rattle.hv_value.specs.Tree.{Tree}
use Rattle.hm_message.specs.Same.{same_text}
use Rattle.hm_message.specs.Message.{value_of}
use Rattle.hm_message.specs.declared.message.Ending.{Ending}
use Rattle.hm_message.specs.declared.message.Ending.TheVariants as ending
use Rattle.hd_calls.specs.declared.vocabulary.Call as as_given
use Rattle.hd_calls.specs.declared.vocabulary.Input.{Input}
use Rattle.hd_calls.specs.declared.vocabulary.Act.{Act}
use Rattle.hd_calls.specs.declared.vocabulary.Act.TheVariants as act
use Rattle.hd_calls.specs.Hubs.{Hub}
use Rattle.hub_calc.specs.declared.refusal.Refusal.{Refusal}
use Rattle.hub_calc.specs.Refusals.{refusal_text, tested}

-- how Confirm ends for these arguments, if they are right
abbrev pub confirm : List Tree → Option Ending
confirm (v ∷ []) = Some (ending.Result (value_of v))
confirm _ = None

-- a refused call ends with the refusal's text
abbrev pub ending_of : Result Ending Refusal → Ending
ending_of (Ok e) = e
ending_of (Err why) = ending.Error (refusal_text why)

-- the job of a call is how it ends: Confirm, which is no stream and has no uploads, gives its argument back, and every other target ends
-- with no result, however it is called
abbrev pub client_begin : as_given.Call → ℕ → Ending
client_begin call now =
    if same_text call.target (codes "Confirm") then ending_of (tested false 0 call (confirm call.arguments)) else ending.Void

-- it ends at its first turn, and has no other
abbrev pub client_step : Ending → Input → ℕ → Ending × Act
client_step e i now = (ending.Void, act.End e)

-- the hub
abbrev pub client_hub : Hub Ending
client_hub = record { begin_of = client_begin; step_of = client_step }
