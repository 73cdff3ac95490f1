-- A script with peers, whose actions two peers have done and told.
use Rattle.std.proofs.Common.{◌≡◌, true, List, [], ◌∷◌, ◌++◌, ℕ, sym, ap, ◌∙◌, subst, append-nil, append_assoc}
use Rattle.hd_delivery.specs.Worlds.{ByClient, ByServer, client_of, server_of}
use Rattle.hd_delivery.specs.declared.vocabulary.Side.TheVariants.{Client, Server}
use Rattle.hd_calls.specs.PeerWorlds.{Pair, settings}
use Rattle.sr_script.specs.declared.action.Action.{Action}
use Rattle.sr_script.specs.declared.action.Action.TheVariants.{Send}
use Rattle.sr_script.specs.declared.line.Asked.{Asked}
use Rattle.sr_script.specs.declared.line.Asked.TheVariants as asked
use Rattle.sr_script.specs.Script.{Program, Parses, Suits}
use Rattle.sr_notation.specs.Terms.{peers_in}
use Rattle.sr_script.specs.Asking.{IsWhole, IsAllowed, MayCome, and_then}
use Rattle.sr_peers.specs.declared.peers.Peers.{Peers}
use Rattle.sr_peers.specs.Told.{Tells}
use Rattle.sr_peers.specs.Runs.{Run, TellsRun, world_of}
use Rattle.sr_peers.specs.Follows.{IsOfPeers}
use Rattle.sr_replay.specs.Replays.{HasSettings}
use Rattle.sr_replay.specs.WithPeers.{HasTold, IsForPeers, PeersActAll, PeersObey}

-- what was done after a run is told after its lines
told_more : (p : Pair) (r made : Run) (a b : List ℕ) → TellsRun p [] r a → TellsRun p r made b → TellsRun p [] (made ++ r) (a ++ b)
told_more p r [] a b told more = subst (λ x. TellsRun p [] r x) (sym (ap (λ y. a ++ y) more ∙ append-nil a)) told
told_more p r (ByClient did ∷ made) a b told more = (
  a ++ more.0,
  more.1,
  (
    told_more p r made a more.0 told more.2.0,
    subst (λ q. Tells (settings Client p) (client_of (world_of q)) did more.1) (sym (append-nil (made ++ r))) more.2.1,
    ap (λ x. a ++ x) more.2.2 ∙ sym (append_assoc a more.0 more.1),
  ),
)
told_more p r (ByServer did ∷ made) a b told more = (
  a ++ more.0,
  more.1,
  (
    told_more p r made a more.0 told more.2.0,
    subst (λ q. Tells (settings Server p) (server_of (world_of q)) did more.1) (sym (append-nil (made ++ r))) more.2.1,
    ap (λ x. a ++ x) more.2.2 ∙ sym (append_assoc a more.0 more.1),
  ),
)

-- one line more was obeyed
pub peers_obeyed : (x : Asked) (q : Program) (old was new : Peers) (before between after : List ℕ) → MayCome q x → PeersActAll old q.actions was before between
    → PeersObey was x new between after → PeersActAll old (and_then q x).actions new before after
peers_obeyed (asked.Setting s) q old was new before between after may acts same = λ p begun.
    subst (λ peers. HasTold p [] peers before after) (sym same.0)
    (subst (λ lines. HasTold p [] was before lines) (sym same.1) (subst (λ actions. HasTold p actions was before between) may.1 (acts p begun)))
peers_obeyed (asked.Action a) q old was new before between after may acts goes = λ p begun.
    let told = acts p begun in
    let made = goes p q.actions told.0 told.2.0 may.0 in (
      made.0 ++ told.0,
      told.1 ++ made.1,
      (
        made.2.1,
        told_more p told.0 made.0 told.1 made.1 told.2.1 made.2.2,
        made.2.3 ∙ (ap (λ lines. lines ++ made.1) told.2.2 ∙ append_assoc before told.1 made.1),
      ),
    )

-- with peers an action that suits the options is one of peers
of_peers : (a : Action) → Suits true a → IsWhole a → IsOfPeers a
of_peers (Send side m) suits whole = absurd (cc)
of_peers _ suits whole = whole

pub for_peers : (text : List ℕ) (q p : Program) (x : Asked) → Parses text p → peers_in p.settings ≡ true → HasSettings text (and_then q x) → MayCome q x → IsAllowed x
    → IsForPeers x
for_peers text q p (asked.Setting s) parses on known may allowed = tt
for_peers text q p (asked.Action a) parses on known may allowed =
    let same : p.settings ≡ q.settings = known (λ e. cc) p parses in
    let has : peers_in q.settings ≡ true = subst (λ settings. peers_in settings ≡ true) same on in
    of_peers a (subst (λ peers. Suits peers a) has may.1) allowed
