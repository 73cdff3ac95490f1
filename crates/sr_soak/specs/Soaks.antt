-- What a soak is: the run of its script and of turns up to the first that does nothing, so many at most, and the line of what that came to.
use Rattle.std.specs.Prelude.{◌≡◌, ◌⊎◌, ◌<◌, ℕ, zero, suc, Bool, true, false, ◌||◌, List, [], ◌∷◌, ◌++◌, codes}
use Rattle.std.specs.Fmt.{decimal}
use Rattle.hd_delivery.specs.Bytes.{Wire}
use Rattle.he_wire.specs.Wires.{IsHouseWire}
use Rattle.hd_calls.specs.PeerWorlds.{Pair}
use Rattle.sr_script.specs.declared.action.Action.{Action}
use Rattle.sr_script.specs.Script.{opened}
use Rattle.sr_notation.specs.Terms.{limits_in, terms_in}
use Rattle.sr_peers.specs.Runs.{Run, Runs, Acts, pair_of, world_of}
use Rattle.sr_peers.specs.Report.{IsOnce}
use Rattle.sr_peers.specs.Works.{Works}
use Rattle.sr_soak.specs.declared.totals.Totals.{Totals}
use Rattle.sr_soak.specs.Recipe.{closing_turn, most_turns, soak_settings, whole_script, with_turns}
use Rattle.sr_soak.specs.Counts.{AreTotals}

-- ---- turns

-- After these actions and their run these further ones made this, one after the other. They work if one of them does.
abbrev pub Goes : Pair → List Action → Run → List Action → Run → Bool → Type 0
Goes p before r [] made worked = (made ≡ []) × (worked ≡ false)
Goes p before r (a ∷ actions) made worked =
    (front last : Run) × (early late : Bool) × (Goes p before r actions front early × Acts p (actions ++ before) (front ++ r) a last
    × Works p (front ++ r) a last late × (made ≡ last ++ front) × (worked ≡ (early || late)))

-- the run of these actions and so many turns, each of which worked
abbrev pub IsBusy : Pair → List Action → ℕ → Run → Type 0
IsBusy p actions zero r = Runs p actions r
IsBusy p actions (suc n) r =
    (mid made : Run) × (IsBusy p actions n mid × Goes p (with_turns n actions) mid closing_turn made true × (r ≡ made ++ mid))

-- turns that work, and then one that doesn't
pub record IsQuiet (p : Pair) (actions : List Action) (most turns : ℕ) (r : Run) : Type 0 where
  pub busy_turns : ℕ
  pub few : busy_turns < most
  pub turns_are : turns ≡ suc busy_turns
  pub mid : Run
  pub busy : IsBusy p actions busy_turns mid
  pub made : Run
  pub idle : Goes p (with_turns busy_turns actions) mid closing_turn made false
  pub is : r ≡ made ++ mid

-- so they end, or with as many turns that work as there may be
abbrev pub IsClosed : Pair → List Action → ℕ → ℕ → Run → Type 0
IsClosed p actions most turns r = IsQuiet p actions most turns r ⊎ (IsBusy p actions most r × (turns ≡ most))

-- ---- the soak

-- two peers of a soak
abbrev pub soak_pair : Wire → Pair
soak_pair wire = pair_of (limits_in soak_settings) wire (terms_in soak_settings)

-- The totals are those of a run of the script and its turns, in which each call is carried out once. Each call that has an id has ended or is live.
pub record IsSoakOver (wire : Wire) (seed n : ℕ) (totals : Totals) : Type 0 where
  pub turns : ℕ
  pub run : Run
  pub is_closed : IsClosed (soak_pair wire) (whole_script seed n) (most_turns n) turns run
  pub once : IsOnce (soak_pair wire) (with_turns turns (whole_script seed n)) run
  pub totals_are : AreTotals (world_of run) (opened (whole_script seed n)) totals

-- so it is over each wire of this project, of which there is one for every limit (`he_wire::has_wire`)
abbrev pub IsSoak : ℕ → ℕ → Totals → Type 0
IsSoak seed n totals = (wire : Wire) → IsHouseWire (limits_in soak_settings).frame wire → IsSoakOver wire seed n totals

-- its line
abbrev pub soak_line : ℕ → ℕ → Totals → List ℕ
soak_line seed n totals =
    codes "seed " ++ (decimal seed ++ (codes " actions " ++ (decimal n ++ (codes " calls " ++ (decimal totals.calls ++ (codes " endings " ++ (decimal totals.endings
    ++ (codes " live " ++ (decimal totals.live ++ (codes " links " ++ (decimal totals.links ++ codes "\n")))))))))))
