-- What a soak comes to: from the peers that begin to the totals.
use Rattle.std.proofs.Common.{◌≡◌, ℕ, List, subst}
use Rattle.hd_calls.specs.PeerWorlds.{Pair}
use Rattle.sr_script.specs.declared.action.Action.{Action}
use Rattle.sr_script.specs.Script.{opened}
use Rattle.sr_peers.specs.declared.peers.Peers.{Peers}
use Rattle.sr_peers.specs.Runs.{Run, world_of}
use Rattle.sr_peers.specs.Follows.{Follows}
use Rattle.sr_peers.specs.Report.{IsOnce}
use Rattle.sr_soak.specs.declared.totals.Totals.{Totals}
use Rattle.sr_soak.specs.Recipe.{drawn_script, most_turns, new_link, whole_script, with_turns}
use Rattle.sr_soak.specs.Counts.{AreTotals, HaveNoUploads}
use Rattle.sr_soak.specs.Soaks.{IsSoak, soak_pair}
use Rattle.sr_soak.specs.Plays.{Adds, IsOver, Reaches}
use Rattle.sr_soak.proofs.InTurn.{whole_script_in_turn, whole_script_has_no_uploads, turns_have_no_uploads, turns_open_nothing}

-- what the peers count of the links, once they did what was drawn
abbrev pub CountsLinks : Peers → ℕ → Type 0
CountsLinks peers links = (p : Pair) (actions : List Action) (r : Run) → Follows p actions r peers → links ≡ opened actions

-- the last link, after what was drawn
pub linked : (seed n links : ℕ) (made : List Action) (old new : Peers) → CountsLinks old links → made ≡ new_link links → Adds made old new
    → Reaches (drawn_script seed n) old → Reaches (whole_script seed n) new
linked seed n links made old new counts is adds reaches = λ wire house.
    let run = reaches wire house in
    let same : made ≡ new_link (opened (drawn_script seed n)) = subst (λ k. made ≡ new_link k) (counts (soak_pair wire) (drawn_script seed n) run.0 run.1) is in
    subst (λ actions. Adds actions old new) same adds (drawn_script seed n) reaches (whole_script_in_turn seed n) wire house

-- the totals after the turns
pub soaked : (seed n : ℕ) (peers : Peers) (totals : Totals)
    → ((p : Pair) (actions : List Action) (r : Run) → Follows p actions r peers → IsOnce p actions r)
    → ((p : Pair) (actions : List Action) (r : Run) → Follows p actions r peers → HaveNoUploads actions → AreTotals (world_of r) (opened actions) totals)
    → IsOver (whole_script seed n) (most_turns n) peers → IsSoak seed n totals
soaked seed n peers totals once counted over = λ wire house.
    let end = over wire house in
    let actions = with_turns end.0 (whole_script seed n) in record {
      turns = end.0;
      run = end.1;
      is_closed = end.2.0;
      once = once (soak_pair wire) actions end.1 end.2.1;
      totals_are = subst (λ links. AreTotals (world_of end.1) links totals) (turns_open_nothing end.0 (whole_script seed n))
          (counted (soak_pair wire) actions end.1 end.2.1 (turns_have_no_uploads end.0 (whole_script seed n) (whole_script_has_no_uploads seed n)));
    }
