-- What two real peers do in a turn of the closing, and in several.
use Rattle.std.proofs.Common.{◌<◌, ℕ, suc, Bool, true, false, ◌||◌, List, [], ◌∷◌, ◌++◌, refl, sym, subst, append_assoc, inl, inr}
use Rattle.hd_delivery.specs.declared.vocabulary.Side.TheVariants.{Client, Server}
use Rattle.hd_calls.specs.PeerWorlds.{Pair}
use Rattle.sr_script.specs.declared.action.Action.{Action}
use Rattle.sr_script.specs.declared.action.Action.TheVariants.{Write, Read, Round}
use Rattle.sr_script.specs.declared.action.Count.TheVariants.{UpTo, Everything}
use Rattle.sr_script.specs.Script.{IsInTurn}
use Rattle.sr_peers.specs.declared.peers.Peers.{Peers}
use Rattle.sr_peers.specs.Runs.{Run}
use Rattle.sr_peers.specs.Follows.{Follows, WorksOn}
use Rattle.sr_soak.specs.Recipe.{with_turns}
use Rattle.sr_soak.specs.Soaks.{Goes}
use Rattle.sr_soak.specs.Plays.{HasTurn, HasTurned, IsOver, Reaches}

-- ---- a turn

-- after a run some actions were done, which worked or didn't, and the peers stand for them
abbrev pub HasGone : Pair → List Action → Run → List Action → Peers → Bool → Type 0
HasGone p before r actions peers worked = (made : Run) × (Goes p before r actions made worked × Follows p (actions ++ before) (made ++ r) peers)

pub gone_none : (p : Pair) (before : List Action) (r : Run) (peers : Peers) → Follows p before r peers → HasGone p before r [] peers false
gone_none p before r peers follows = ([], ((refl, refl), follows))

pub gone_more : (p : Pair) (before : List Action) (r : Run) (actions : List Action) (a : Action) (old new : Peers) (early late : Bool) (text after : List ℕ)
    → IsInTurn (actions ++ before) a → WorksOn old a new text after late → HasGone p before r actions old early → HasGone p before r (a ∷ actions) new (early || late)
gone_more p before r actions a old new early late text after turn works gone =
    let front = gone.0 in
    let on = works p (actions ++ before) (front ++ r) gone.1.1 turn in (
      on.0 ++ front,
      (
        (front, on.0, early, late, (gone.1.0, on.2.0.0, on.2.1, refl, refl)),
        subst (λ run. Follows p (a ∷ actions ++ before) run new) (sym (append_assoc on.0 front r)) on.2.0.1,
      ),
    )

-- the six actions of a turn, one after the other
pub turns_once : (start first second third fourth fifth last : Peers) (wrote has_read stepped wrote_back has_read_back stepped_back : Bool) (report heard heard_back : List ℕ)
    → ((text : List ℕ) → WorksOn start (Write Client Everything) first text text wrote)
    → WorksOn first (Read Server (UpTo 1024)) second report heard has_read
    → ((text : List ℕ) → WorksOn second (Round Server) third text text stepped)
    → ((text : List ℕ) → WorksOn third (Write Server Everything) fourth text text wrote_back)
    → WorksOn fourth (Read Client (UpTo 1024)) fifth heard heard_back has_read_back
    → ((text : List ℕ) → WorksOn fifth (Round Client) last text text stepped_back)
    → HasTurn start last (((((wrote || has_read) || stepped) || wrote_back) || has_read_back) || stepped_back)
turns_once start first second third fourth fifth last wrote has_read stepped wrote_back has_read_back stepped_back report heard heard_back a b c d e f = λ p before r follows.
    let one : List Action = Write Client Everything ∷ [] in
    let two : List Action = Read Server (UpTo 1024) ∷ one in
    let three : List Action = Round Server ∷ two in
    let four : List Action = Write Server Everything ∷ three in
    let five : List Action = Read Client (UpTo 1024) ∷ four in
    let gone1 : HasGone p before r one first wrote = gone_more p before r [] (Write Client Everything) start first false wrote [] [] tt (a []) (gone_none p before r start follows) in
    let gone2 = gone_more p before r one (Read Server (UpTo 1024)) first second wrote has_read report heard tt b gone1 in
    let gone3 = gone_more p before r two (Round Server) second third (wrote || has_read) stepped [] [] tt (c []) gone2 in
    let gone4 = gone_more p before r three (Write Server Everything) third fourth ((wrote || has_read) || stepped) wrote_back [] [] tt (d []) gone3 in
    let gone5 = gone_more p before r four (Read Client (UpTo 1024)) fourth fifth (((wrote || has_read) || stepped) || wrote_back) has_read_back heard heard_back tt e gone4 in
    gone_more p before r five (Round Client) fifth last ((((wrote || has_read) || stepped) || wrote_back) || has_read_back) stepped_back [] [] tt (f []) gone5

-- ---- turns

pub turned_none : (actions : List Action) (peers : Peers) → Reaches actions peers → HasTurned actions 0 peers
turned_none actions peers reaches = λ wire house. let run = reaches wire house in (run.0, (run.1.runs, run.1))

pub turned_more : (actions : List Action) (n : ℕ) (old new : Peers) → HasTurn old new true → HasTurned actions n old → HasTurned actions (suc n) new
turned_more actions n old new turn turned = λ wire house.
    let busy = turned wire house in
    let on = turn _ (with_turns n actions) busy.0 busy.1.1 in
    (on.0 ++ busy.0, ((busy.0, on.0, (busy.1.0, on.1.0, refl)), on.1.1))

-- the turn that did nothing was the last
pub turned_idly : (actions : List Action) (most n : ℕ) (old new : Peers) → n < most → HasTurn old new false → HasTurned actions n old → IsOver actions most new
turned_idly actions most n old new few turn turned = λ wire house.
    let busy = turned wire house in
    let on = turn _ (with_turns n actions) busy.0 busy.1.1 in (
      suc n,
      on.0 ++ busy.0,
      (
        inl (record { busy_turns = n; few = few; turns_are = refl; mid = busy.0; busy = busy.1.0; made = on.0; idle = on.1.0; is = refl }),
        on.1.1,
      ),
    )

-- as many turns as may be worked
pub turned_all : (actions : List Action) (most : ℕ) (peers : Peers) → HasTurned actions most peers → IsOver actions most peers
turned_all actions most peers turned = λ wire house. let busy = turned wire house in (most, busy.0, (inr (busy.1.0, refl), busy.1.1))
