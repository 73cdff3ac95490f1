-- What actions without uploads make of two peers: calls without uploads.
use Rattle.std.proofs.Common.{⊎_elim, ◌≡◌, ℕ, Bool, true, false, List, [], ◌∷◌, ◌++◌, map, Option, Some, None, sym, ap, subst}
use Rattle.std.specs.Prelude.{All, ◌&&◌, not, is_some, if◌then◌else◌}
use Rattle.std.proofs.lemmas.List.Elements.{All-nil, All-cons, All-head, All-tail, All-append, All-map, All-same}
use Rattle.hv_value.specs.Tree.{Tree}
use Rattle.hd_delivery.specs.declared.vocabulary.Side.{Side}
use Rattle.hd_delivery.specs.declared.vocabulary.Side.TheVariants.{Client, Server}
use Rattle.hd_delivery.specs.Histories.{present_link, first_link, is_resumable, was_on}
use Rattle.hd_delivery.specs.Worlds.{Event, ByClient, ByServer, client_of, server_of}
use Rattle.hd_delivery.specs.Bytes.{ByteStep}
use Rattle.hd_delivery.specs.Sides.{by, history}
use Rattle.hd_calls.specs.declared.vocabulary.CallKind.{CallKind}
use Rattle.hd_calls.specs.Peers.{PeerEvent, Plain, Calls, Runs, Refuses, Rounds, Settings, drawn, steps, is_shut}
use Rattle.hd_calls.specs.PeerWorlds.{Pair, settings}
use Rattle.hd_calls.specs.Rules.{CallRefusal, IsRefusedCall}
use Rattle.hi_calls.specs.Numbering.{number_after}
use Rattle.hp_peer.specs.Calling.{heard_call, upload_end, upload_item}
use Rattle.hp_peer.specs.Turning.{AreTurns}
use Rattle.sr_script.specs.declared.action.Count.{Count}
use Rattle.sr_script.specs.declared.action.Action.{Action}
use Rattle.sr_script.specs.declared.action.Action.TheVariants.{Open, Accept, Lose, Write, Read, Close, Send, Tick, Call, Item, Done, Cancel, Round}
use Rattle.sr_script.specs.Script.{moment_after, most_of, opened}
use Rattle.sr_peers.specs.Doings.{Doing, Makes, made, Chain, Losing, WithLosses, Reading, ReadsTo, Writes, IsDone, Asks, Sends, Cancelling, IsRound, attaching, leaving, closing, ticking, lifted}
use Rattle.sr_peers.specs.Doings as does
use Rattle.sr_peers.specs.Runs.{Run, MadeAt, DoneAt, ReadsOn, Acts, steps_at, to_be_read, world_of}
use Rattle.sr_peers.specs.Runs as of_peers
use Rattle.sr_soak.specs.Counts.{HaveNoUploads, uploads_in}
use Rattle.sr_soak.proofs.Numbered.{IsBare, AreBare}

-- ---- moves

chain_bare : (next : List PeerEvent → Option PeerEvent → Type 0) → ((k : List PeerEvent) (d : PeerEvent) → next k (Some d) → IsBare d)
    → (h ds : List PeerEvent) → Chain next h ds → AreBare ds
chain_bare next each h [] chain = All-nil IsBare
chain_bare next each h (d ∷ ds) chain = All-cons IsBare d ds (each (ds ++ h) d chain.1) (chain_bare next each h ds chain.0)

losing_bare : (t : Settings) (k : List PeerEvent) (d : PeerEvent) → Losing t k (Some d) → IsBare d
losing_bare t k (Calls a n c) next = absurd next
losing_bare t k d next = tt

reading_bare : (t : Settings) (now : ℕ) (bytes : List ℕ) (k : List PeerEvent) (d : PeerEvent) → Reading t now bytes k (Some d) → IsBare d
reading_bare t now bytes k (Calls a n c) next = absurd next
reading_bare t now bytes k d next = tt

turns_bare : (now : ℕ) (ds : List PeerEvent) → AreTurns now ds → AreBare ds
turns_bare now [] are = All-nil IsBare
turns_bare now (Runs j c since turn what ∷ ds) are = All-cons IsBare (Runs j c since turn what) ds tt (turns_bare now ds are.2)
turns_bare now (Calls (Some j) n c ∷ ds) are = All-cons IsBare (Calls (Some j) n c) ds tt (turns_bare now ds are)
turns_bare now (Refuses j ∷ ds) are = All-cons IsBare (Refuses j) ds tt (turns_bare now ds are)
turns_bare now (_ ∷ ds) are = absurd are

lifted_bare : (ss : List ByteStep) → AreBare (lifted ss)
lifted_bare ss = All-map IsBare (λ s. Plain s) ss (λ k d l. tt)

with_losses_bare : (t : Settings) (h ds new : List PeerEvent) → AreBare ds → WithLosses t h ds new → AreBare new
with_losses_bare t h ds new bare lost =
    All-same IsBare new (lost.0 ++ ds) lost.1.1 (All-append IsBare lost.0 ds (chain_bare (Losing t) (losing_bare t) (ds ++ h) lost.0 lost.1.0.0) bare)

plain_bare : (s : ByteStep) → AreBare (Plain s ∷ [])
plain_bare s = lifted_bare (s ∷ [])

either : {A : Type 0} (P : A → Type 0) (b : Bool) (x y : A) → P x → P y → P (if b then x else y)
either P true x y f g = f
either P false x y f g = g

leaving_bare : (t : Settings) (h : List PeerEvent) (now : ℕ) → AreBare (leaving t h now)
leaving_bare t h now = either AreBare (is_some (present_link (steps t h))) _ [] (plain_bare _) (All-nil IsBare)

closing_bare : (t : Settings) (h : List PeerEvent) → AreBare (closing t h)
closing_bare t h = either AreBare (is_shut t h) [] _ (All-nil IsBare) (plain_bare _)

reads_bare : (t : Settings) (h : List PeerEvent) (now : ℕ) (bytes : List ℕ) (new : List PeerEvent) → ReadsTo t h now bytes new → AreBare new
reads_bare t h now bytes new reads =
    with_losses_bare t h reads.0 new (chain_bare (Reading t now bytes) (reading_bare t now bytes) h reads.0 reads.1.0.0) reads.1.1

round_bare : (t : Settings) (h : List PeerEvent) (now : ℕ) (ds : List PeerEvent) → IsRound t h now ds → AreBare ds
round_bare t h now ds round = All-same IsBare ds (round.turns ++ Rounds ∷ []) round.is
    (All-append IsBare round.turns (Rounds ∷ []) (turns_bare now round.turns round.are_turns) (All-cons IsBare Rounds [] tt (All-nil IsBare)))

-- ---- doings

abbrev pub IsBareDoing : Doing → Type 0
IsBareDoing (Makes d) = IsBare d
IsBareDoing (does.Refuses words) = Unit {0}

abbrev pub IsBareEvent : Event Doing → Type 0
IsBareEvent (ByClient did) = IsBareDoing did
IsBareEvent (ByServer did) = IsBareDoing did

-- no call of the run comes with uploads
abbrev pub IsBareRun : Run → Type 0
IsBareRun r = All IsBareEvent r

attaching_bare : (t : Settings) (h : List PeerEvent) (link now : ℕ) → IsBareDoing (attaching t h link now)
attaching_bare t h link now = either IsBareDoing (is_shut t h) _ _ tt
    (either IsBareDoing (is_some (first_link (steps t h)) && not (is_resumable t.config (steps t h))) _ _ tt tt)

event_bare : (side : Side) (did : Doing) → IsBareDoing did → IsBareEvent (by side did)
event_bare Client did bare = bare
event_bare Server did bare = bare

one_bare : (side : Side) (did : Doing) → IsBareDoing did → IsBareRun (by side did ∷ [])
one_bare side did bare = All-cons IsBareEvent (by side did) [] (event_bare side did bare) (All-nil IsBareEvent)

moves_bare : (side : Side) (ds : List PeerEvent) → AreBare ds → IsBareRun (map (by side) (made ds))
moves_bare Client ds bare = All-map IsBareEvent (by Client) (made ds) (All-map IsBareDoing (λ d. Makes d) ds bare)
moves_bare Server ds bare = All-map IsBareEvent (by Server) (made ds) (All-map IsBareDoing (λ d. Makes d) ds bare)

-- what is done in place of a move is no call
done_bare : (d : PeerEvent) (Refused : CallRefusal → Type 0) (did : Doing) → IsBare d → IsDone d Refused did → IsBareDoing did
done_bare d Refused did bare done =
    ⊎_elim (λ e. subst IsBareDoing (sym e) bare) (λ e. subst IsBareDoing (sym e.1.1) tt) done

-- the moves of a bare run
pub run_bare : (side : Side) (r : Run) → IsBareRun r → AreBare (history side (world_of r))
run_bare Client [] bare = All-nil IsBare
run_bare Server [] bare = All-nil IsBare
run_bare Client (ByClient (Makes d) ∷ r) bare = All-cons IsBare d (client_of (world_of r))
    (All-head IsBareEvent (ByClient (Makes d)) r bare) (run_bare Client r (All-tail IsBareEvent (ByClient (Makes d)) r bare))
run_bare Client (ByClient (does.Refuses words) ∷ r) bare = run_bare Client r (All-tail IsBareEvent (ByClient (does.Refuses words)) r bare)
run_bare Client (ByServer (Makes d) ∷ r) bare = run_bare Client r (All-tail IsBareEvent (ByServer (Makes d)) r bare)
run_bare Client (ByServer (does.Refuses words) ∷ r) bare = run_bare Client r (All-tail IsBareEvent (ByServer (does.Refuses words)) r bare)
run_bare Server (ByServer (Makes d) ∷ r) bare = All-cons IsBare d (server_of (world_of r))
    (All-head IsBareEvent (ByServer (Makes d)) r bare) (run_bare Server r (All-tail IsBareEvent (ByServer (Makes d)) r bare))
run_bare Server (ByServer (does.Refuses words) ∷ r) bare = run_bare Server r (All-tail IsBareEvent (ByServer (does.Refuses words)) r bare)
run_bare Server (ByClient (Makes d) ∷ r) bare = run_bare Server r (All-tail IsBareEvent (ByClient (Makes d)) r bare)
run_bare Server (ByClient (does.Refuses words) ∷ r) bare = run_bare Server r (All-tail IsBareEvent (ByClient (does.Refuses words)) r bare)

-- ---- actions

module _ (p : Pair) (r : Run) where
  made_bare : (side : Side) (Holds : Settings → List PeerEvent → List PeerEvent → Type 0) (new : Run)
      → ((ds : List PeerEvent) → Holds (settings side p) (history side (world_of r)) ds → AreBare ds) → MadeAt p r side Holds new → IsBareRun new
  made_bare side Holds new each moves =
      All-same IsBareEvent new (map (by side) (made moves.0)) moves.1.1 (moves_bare side moves.0 (each moves.0 moves.1.0))

  did_bare : (side : Side) (Holds : Settings → List PeerEvent → Doing → Type 0) (new : Run)
      → ((did : Doing) → Holds (settings side p) (history side (world_of r)) did → IsBareDoing did) → DoneAt p r side Holds new → IsBareRun new
  did_bare side Holds new each done =
      All-same IsBareEvent new (by side done.0 ∷ []) done.1.1 (one_bare side done.0 (each done.0 done.1.0))

  losses_bare : (side : Side) (moves : Settings → List PeerEvent → List PeerEvent) (new : Run)
      → AreBare (moves (settings side p) (history side (world_of r))) → MadeAt p r side (λ t h ds. WithLosses t h (moves t h) ds) new → IsBareRun new
  losses_bare side moves new bare = made_bare side (λ t h ds. WithLosses t h (moves t h) ds) new
      (λ ds. with_losses_bare (settings side p) (history side (world_of r)) (moves (settings side p) (history side (world_of r))) ds bare)

  reads_on_bare : (now : ℕ) (side : Side) (count : Count) (link : Option ℕ) (new : Run) → ReadsOn p r now side count link new → IsBareRun new
  reads_on_bare now side count None new is = All-same IsBareEvent new [] is (All-nil IsBareEvent)
  reads_on_bare now side count (Some link) new reads =
      made_bare side (λ t h ds. ReadsTo t h now (to_be_read p (world_of r) side count link) ds) new
      (λ ds. reads_bare (settings side p) (history side (world_of r)) now (to_be_read p (world_of r) side count link) ds) reads

  asks_bare : (side : Side) (kind : CallKind) (target : List ℕ) (arguments : List Tree) (uploads : ℕ) (did : Doing) → uploads ≡ 0
      → Asks (settings side p) (history side (world_of r)) kind target arguments uploads did → IsBareDoing did
  asks_bare side kind target arguments uploads did none asks =
      let t = settings side p in
      let h = history side (world_of r) in
      let call : ℕ → PeerEvent = λ u. Calls None (number_after kind u (drawn h)) (heard_call t h kind target arguments u) in
      let none_with : (heard_call t h kind target arguments uploads).streams ≡ [] = ap (λ u. (heard_call t h kind target arguments u).streams) none in
      done_bare (call uploads) (IsRefusedCall t h (heard_call t h kind target arguments uploads)) did none_with asks

  acts_bare : (before : List Action) (a : Action) (new : Run) → uploads_in a ≡ 0 → Acts p before r a new → IsBareRun new
  acts_bare before Open new none acts = All-same IsBareEvent new _ acts
      (one_bare Client (attaching (settings Client p) (history Client (world_of r)) (opened before) (moment_after before))
      (attaching_bare (settings Client p) (history Client (world_of r)) (opened before) (moment_after before)))
  acts_bare before (Accept link) new none acts = All-same IsBareEvent new _ acts
      (either IsBareRun (was_on link (steps_at p (world_of r) Client)) _ []
      (one_bare Server (attaching (settings Server p) (history Server (world_of r)) link (moment_after before))
      (attaching_bare (settings Server p) (history Server (world_of r)) link (moment_after before))) (All-nil IsBareEvent))
  acts_bare before (Lose side) new none acts = losses_bare side (λ t h. leaving t h (moment_after before)) new
      (leaving_bare (settings side p) (history side (world_of r)) (moment_after before)) acts
  acts_bare before (Write side count) new none acts = made_bare side (λ t h ds. Writes t h (most_of count) ds) new
      (λ ds writes. All-same IsBare ds (lifted writes.0) writes.1.1 (lifted_bare writes.0)) acts
  acts_bare before (Read side count) new none acts =
      reads_on_bare (moment_after before) side count (present_link (steps_at p (world_of r) side)) new acts
  acts_bare before (Close side) new none acts =
      losses_bare side (λ t h. closing t h) new (closing_bare (settings side p) (history side (world_of r))) acts
  acts_bare before (Tick now) new none acts = All-same IsBareEvent new (acts.server ++ acts.client) acts.is
      (All-append IsBareEvent acts.server acts.client
      (losses_bare Server (λ t h. ticking t h now) acts.server (plain_bare _) acts.server_ticks)
      (losses_bare Client (λ t h. ticking t h now) acts.client (plain_bare _) acts.client_ticks))
  acts_bare before (Call side a) new none acts = did_bare side (λ t h did. Asks t h a.kind a.target a.arguments a.uploads did) new
      (λ did. asks_bare side a.kind a.target a.arguments a.uploads did none) acts
  acts_bare before (Item side call value) new none acts = did_bare side (λ t h did. Sends t h call 0 (upload_item t h value) did) new
      (λ did. done_bare _ _ did tt) acts
  acts_bare before (Done side call) new none acts = did_bare side (λ t h did. Sends t h call 0 (upload_end None) did) new
      (λ did. done_bare _ _ did tt) acts
  acts_bare before (Cancel side call) new none acts = did_bare side (λ t h did. Cancelling t h call did) new
      (λ did. done_bare _ _ did tt) acts
  acts_bare before (Round side) new none acts = made_bare side (λ t h ds. IsRound t h (moment_after before) ds) new
      (λ ds. round_bare (settings side p) (history side (world_of r)) (moment_after before) ds) acts
  acts_bare before (Send side m) new none acts = absurd acts

-- the run of actions without uploads
pub runs_bare : (p : Pair) (actions : List Action) (r : Run) → HaveNoUploads actions → of_peers.Runs p actions r → IsBareRun r
runs_bare p [] r none runs = All-same IsBareEvent r [] runs (All-nil IsBareEvent)
runs_bare p (a ∷ before) r none runs = All-same IsBareEvent r (runs.1 ++ runs.0) runs.2.2
    (All-append IsBareEvent runs.1 runs.0
    (acts_bare p runs.0 before a runs.1 (All-head (λ x. uploads_in x ≡ 0) a before none) runs.2.1)
    (runs_bare p before runs.0 (All-tail (λ x. uploads_in x ≡ 0) a before none) runs.2.0))
