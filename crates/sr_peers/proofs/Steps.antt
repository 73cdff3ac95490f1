-- Two peers that stand for a run stand for the moves that one of them made after it.
use Rattle.std.proofs.Common.{◌≡◌, ℕ, List, [], ◌∷◌, ◌++◌, map, refl, sym, ap, ◌∙◌, subst, arith, append-nil, append_assoc}
use Rattle.hd_delivery.specs.declared.vocabulary.Side.{Side}
use Rattle.hd_delivery.specs.declared.vocabulary.Side.TheVariants.{Client, Server}
use Rattle.hd_delivery.specs.Worlds.{Event, ByClient, ByServer, client_of, server_of}
use Rattle.hd_delivery.specs.OneHistory.{IsHistory}
use Rattle.hd_delivery.specs.Sides.{by, history}
use Rattle.hd_calls.specs.Hubs.{Hub}
use Rattle.hd_calls.specs.Peers.{PeerEvent, Settings, byte_steps}
use Rattle.hd_calls.specs.PeerWorlds.{Pair, settings}
use Rattle.hp_peer.specs.Stands.{Stands}
use Rattle.hp_peer.specs.declared.peer.Peer.{Peer}
use Rattle.hub_calc.specs.Table.{calc_hub}
use Rattle.hub_calc.specs.Client.{client_hub}
use Rattle.sr_script.specs.declared.action.Action.{Action}
use Rattle.sr_script.specs.Script.{IsInTurn, moment_after, opened}
use Rattle.sr_peers.specs.declared.peers.Peers.{Peers}
use Rattle.sr_peers.specs.Doings.{Doing, Makes, Refuses, made, moves_of}
use Rattle.sr_peers.specs.Told.{Tells, TellsAll}
use Rattle.sr_peers.specs.Grows.{KeepToTheirSide}
use Rattle.sr_peers.specs.Laws.{LentGoesOn}
use Rattle.sr_peers.specs.Plays.{Plays, HasDone}
use Rattle.sr_peers.specs.Runs.{Run, Acts, TellsRun, world_of}
use Rattle.sr_peers.specs.Follows.{Follows, Holds, IsMade, IsPlayed}
use Rattle.sr_peers.proofs.Joining.{one_side}
use Rattle.sr_peers.proofs.Quiet.{quiet_moves, took_still}
use Rattle.sr_peers.proofs.Timely.{AreInTime}
use Rattle.sr_peers.proofs.Around.{GoBeyond, LanesStay, lanes_same, one_beyond, world_goes_on}

-- ---- the world of a run

pub world_made : (side : Side) (ds : List PeerEvent) (r : Run) → world_of (map (by side) (made ds) ++ r) ≡ map (by side) ds ++ world_of r
world_made side [] r = refl
world_made Client (d ∷ ds) r = ap (λ w. ByClient d ∷ w) (world_made Client ds r)
world_made Server (d ∷ ds) r = ap (λ w. ByServer d ∷ w) (world_made Server ds r)

-- of what a side did the moves are its own
pub own_made : (side : Side) (ds : List PeerEvent) → history side (world_of (map (by side) (made ds))) ≡ ds
own_made Client [] = refl
own_made Server [] = refl
own_made Client (d ∷ ds) = ap (λ h. d ∷ h) (own_made Client ds)
own_made Server (d ∷ ds) = ap (λ h. d ∷ h) (own_made Server ds)

pub world_did : (side : Side) (did : Doing) (r : Run) → world_of (by side did ∷ r) ≡ map (by side) (moves_of (did ∷ [])) ++ world_of r
world_did Client (Makes d) r = refl
world_did Server (Makes d) r = refl
world_did Client (Refuses words) r = refl
world_did Server (Refuses words) r = refl

-- ---- its lines

pub tells_made : (p : Pair) (side : Side) (r : Run) (ds : List PeerEvent) (text : List ℕ) → TellsAll (settings side p) (history side (world_of r)) ds text
    → TellsRun p r (map (by side) (made ds)) text
tells_made p side r [] text tells = tells
tells_made p Client r (d ∷ ds) text tells = (
  tells.0,
  tells.1,
  (
    tells_made p Client r ds tells.0 tells.2.0,
    subst (λ h. Tells (settings Client p) h (Makes d) tells.1) (sym (ap client_of (world_made Client ds r) ∙ (one_side (world_of r) Client ds).0)) tells.2.1,
    tells.2.2,
  ),
)
tells_made p Server r (d ∷ ds) text tells = (
  tells.0,
  tells.1,
  (
    tells_made p Server r ds tells.0 tells.2.0,
    subst (λ h. Tells (settings Server p) h (Makes d) tells.1) (sym (ap server_of (world_made Server ds r) ∙ (one_side (world_of r) Server ds).0)) tells.2.1,
    tells.2.2,
  ),
)

pub tells_did : (p : Pair) (side : Side) (r : Run) (did : Doing) (text : List ℕ) → Tells (settings side p) (history side (world_of r)) did text
    → TellsRun p r (by side did ∷ []) text
tells_did p Client r did text tells = ([], text, (refl, tells, refl))
tells_did p Server r did text tells = ([], text, (refl, tells, refl))

pub tells_run_append : (p : Pair) (r first second : Run) (a b : List ℕ) → TellsRun p r first a → TellsRun p (first ++ r) second b → TellsRun p r (second ++ first) (a ++ b)
tells_run_append p r first [] a b told more = subst (λ x. TellsRun p r first x) (sym (ap (λ y. a ++ y) more ∙ append-nil a)) told
tells_run_append p r first (ByClient did ∷ second) a b told more = (
  a ++ more.0,
  more.1,
  (
    tells_run_append p r first second a more.0 told more.2.0,
    subst (λ q. Tells (settings Client p) (client_of (world_of q)) did more.1) (sym (append_assoc second first r)) more.2.1,
    ap (λ x. a ++ x) more.2.2 ∙ sym (append_assoc a more.0 more.1),
  ),
)
tells_run_append p r first (ByServer did ∷ second) a b told more = (
  a ++ more.0,
  more.1,
  (
    tells_run_append p r first second a more.0 told more.2.0,
    subst (λ q. Tells (settings Server p) (server_of (world_of q)) did more.1) (sym (append_assoc second first r)) more.2.1,
    ap (λ x. a ++ x) more.2.2 ∙ sym (append_assoc a more.0 more.1),
  ),
)

-- ---- the peers

pub history_of : {H Job : Type 0} (hub : Hub Job) (t : Settings) (peer : Peer H Job) (h : List PeerEvent) → Stands hub t peer h → IsHistory t.limits t.wire t.config (byte_steps t h)
history_of hub t peer h stands = subst (λ m. IsHistory m t.wire t.config (byte_steps t h)) (sym stands.limits) stands.end.history

module _ (lent : LentGoesOn) (p : Pair) (before actions : List Action) (w : List (Event PeerEvent)) (old new : Peers) (ds : List PeerEvent) (was : Holds p before w old)
    (keep : KeepToTheirSide ds) (timely : AreInTime (moment_after actions) ds) (beyond : GoBeyond before actions) (now : new.now ≡ moment_after actions) where
  -- the client made moves that keep to its side
  pub client_goes_on : Plays client_hub (settings Client p) new.client (ds ++ client_of w) → new.server ≡ old.server
      → LanesStay p (map (by Client) ds ++ w) old.lanes.items new.lanes.items → Holds p actions (map (by Client) ds ++ w) new
  client_goes_on plays same stay =
      let t = settings Client p in
      let is_history = history_of client_hub t new.client.peer (ds ++ client_of w) plays.stands in
      let quiet = quiet_moves t (client_of w) ds keep.0 is_history in record {
        is_world = world_goes_on lent p before actions w Client ds old.lanes.items new.lanes.items was.is_world is_history keep timely beyond stay;
        client = subst (λ h. IsPlayed client_hub t new.client h) (sym (one_side w Client ds).0)
            (record { plays = plays; took_all = took_still t (client_of w) ds quiet was.client.took_all });
        server = subst (λ h. IsPlayed calc_hub (settings Server p) new.server h) (sym (one_side w Client ds).1)
            (subst (λ x. IsPlayed calc_hub (settings Server p) x (server_of w)) (sym same) was.server);
        now = now;
      }

  -- the server did
  pub server_goes_on : Plays calc_hub (settings Server p) new.server (ds ++ server_of w) → new.client ≡ old.client
      → LanesStay p (map (by Server) ds ++ w) old.lanes.items new.lanes.items → Holds p actions (map (by Server) ds ++ w) new
  server_goes_on plays same stay =
      let t = settings Server p in
      let is_history = history_of calc_hub t new.server.peer (ds ++ server_of w) plays.stands in
      let quiet = quiet_moves t (server_of w) ds keep.0 is_history in record {
        is_world = world_goes_on lent p before actions w Server ds old.lanes.items new.lanes.items was.is_world is_history keep timely beyond stay;
        client = subst (λ h. IsPlayed client_hub (settings Client p) new.client h) (sym (one_side w Server ds).1)
            (subst (λ x. IsPlayed client_hub (settings Client p) x (client_of w)) (sym same) was.client);
        server = subst (λ h. IsPlayed calc_hub t new.server h) (sym (one_side w Server ds).0)
            (record { plays = plays; took_all = took_still t (server_of w) ds quiet was.server.took_all });
        now = now;
      }

-- ---- the run

-- what the action made comes after the run
pub follows_more : (p : Pair) (actions : List Action) (r new_run : Run) (a : Action) (old new : Peers) → Follows p actions r old → IsInTurn actions a → Acts p actions r a new_run
    → Holds p (a ∷ actions) (world_of (new_run ++ r)) new → Follows p (a ∷ actions) (new_run ++ r) new
follows_more p actions r new_run a old new was turn acts holds =
    record { version = was.version; turns = (was.turns, turn); runs = (r, new_run, (was.runs, acts, refl)); holds = holds }

-- one action more, with what it made and the lines of that
abbrev pub GoesOnBy : Pair → List Action → Run → Action → Peers → List ℕ → List ℕ → Type 0
GoesOnBy p actions r a new before after = (made : Run) × (text : List ℕ) × IsMade p actions r a new before after made text

module _ (p : Pair) (actions : List Action) (r : Run) (a : Action) (old new : Peers) (follows : Follows p actions r old) (turn : IsInTurn actions a) (before after : List ℕ) where
  -- a side made moves, and these were told
  pub made_by_moves : (side : Side) (ds : List PeerEvent) (text : List ℕ) → Acts p actions r a (map (by side) (made ds)) → TellsAll (settings side p) (history side (world_of r)) ds text
      → after ≡ before ++ text → Holds p (a ∷ actions) (map (by side) ds ++ world_of r) new → IsMade p actions r a new before after (map (by side) (made ds)) text
  made_by_moves side ds text acts tells appended holds = (
    acts,
    follows_more p actions r (map (by side) (made ds)) a old new follows turn acts (subst (λ w. Holds p (a ∷ actions) w new) (sym (world_made side ds r)) holds),
    tells_made p side r ds text tells,
    appended,
  )

  -- a side did one thing, and this was told
  pub goes_on_by_one : (side : Side) (did : Doing) (text : List ℕ) → Acts p actions r a (by side did ∷ []) → Tells (settings side p) (history side (world_of r)) did text
      → after ≡ before ++ text → Holds p (a ∷ actions) (map (by side) (moves_of (did ∷ [])) ++ world_of r) new → GoesOnBy p actions r a new before after
  goes_on_by_one side did text acts tells appended holds = (
    by side did ∷ [],
    text,
    (
      acts,
      follows_more p actions r (by side did ∷ []) a old new follows turn acts (subst (λ w. Holds p (a ∷ actions) w new) (sym (world_did side did r)) holds),
      tells_did p side r did text tells,
      appended,
    ),
  )

  -- ---- moves that keep to their side, at an action that opens no link and brings no moment

  module _ (lent : LentGoesOn) (links : opened (a ∷ actions) ≡ opened actions) (later : moment_after (a ∷ actions) ≡ moment_after actions) (same_now : new.now ≡ old.now) where
    abbrev same_moment : new.now ≡ moment_after (a ∷ actions)
    same_moment = same_now ∙ follows.holds.now ∙ sym later

    abbrev beyond : GoBeyond actions (a ∷ actions)
    beyond = one_beyond a actions links (omega (arith, later))

    pub client_did : (did : Doing) → HasDone client_hub (settings Client p) (client_of (world_of r)) new.client before after did → Acts p actions r a (by Client did ∷ [])
        → KeepToTheirSide (moves_of (did ∷ [])) → AreInTime (moment_after (a ∷ actions)) (moves_of (did ∷ [])) → new.server ≡ old.server
        → new.lanes ≡ old.lanes → GoesOnBy p actions r a new before after
    client_did did done acts keep timely same kept =
        goes_on_by_one Client did done.text acts done.tells done.appended
        (client_goes_on lent p actions (a ∷ actions) (world_of r) old new (moves_of (did ∷ [])) follows.holds keep timely beyond same_moment done.plays same
        (subst (λ v. LanesStay p (map (by Client) (moves_of (did ∷ [])) ++ world_of r) old.lanes.items v.items) (sym kept) (lanes_same p _ old.lanes.items)))

    pub server_did : (did : Doing) → HasDone calc_hub (settings Server p) (server_of (world_of r)) new.server before after did → Acts p actions r a (by Server did ∷ [])
        → KeepToTheirSide (moves_of (did ∷ [])) → AreInTime (moment_after (a ∷ actions)) (moves_of (did ∷ [])) → new.client ≡ old.client
        → new.lanes ≡ old.lanes → GoesOnBy p actions r a new before after
    server_did did done acts keep timely same kept =
        goes_on_by_one Server did done.text acts done.tells done.appended
        (server_goes_on lent p actions (a ∷ actions) (world_of r) old new (moves_of (did ∷ [])) follows.holds keep timely beyond same_moment done.plays same
        (subst (λ v. LanesStay p (map (by Server) (moves_of (did ∷ [])) ++ world_of r) old.lanes.items v.items) (sym kept) (lanes_same p _ old.lanes.items)))
