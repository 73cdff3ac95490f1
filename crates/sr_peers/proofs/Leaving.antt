-- What two peers make of the loss of a link, and of a moment.
use Rattle.std.proofs.Common.{inl, inr, ◌≡◌, ℕ, ◌≤◌, true, List, [], ◌∷◌, ◌++◌, map, Option, Some, None, is_some, refl, sym, ap, ◌∙◌, subst, arith, append_assoc, if◌then◌else◌}
use Rattle.std.specs.Prelude.{◌==◌, ◌||◌}
use Rattle.std.proofs.lemmas.Bool.{eq-eqb}
use Rattle.hd_delivery.specs.declared.vocabulary.Side.{Side}
use Rattle.hd_delivery.specs.declared.vocabulary.Side.TheVariants.{Client, Server}
use Rattle.hd_delivery.specs.Histories as of
use Rattle.hd_delivery.specs.Histories.{EndEvent, Attached, Detached, Ticked, Silenced, present_link, was_on, is_silence}
use Rattle.hd_delivery.specs.Worlds.{Event, server_of}
use Rattle.hd_delivery.specs.Bytes.{Wire, ByteStep, Does, in_frames}
use Rattle.hd_delivery.specs.Sides.{by, history}
use Rattle.hd_calls.specs.Peers.{PeerEvent, Plain, Loses, Settings, byte_steps, steps}
use Rattle.hd_calls.specs.PeerWorlds.{Pair, settings}
use Rattle.sr_script.specs.declared.action.Action.{Action}
use Rattle.sr_script.specs.declared.action.Action.TheVariants.{Lose, Tick}
use Rattle.sr_script.specs.Script.{moment_after}
use Rattle.sr_peers.specs.declared.peers.Peers.{Peers}
use Rattle.sr_peers.specs.Doings as doings
use Rattle.sr_peers.specs.Doings.{Chain, Losing, WithLosses, leaving, made, ticking}
use Rattle.sr_peers.specs.Grows.{NeedNoOther}
use Rattle.sr_peers.specs.Laws.{LentGoesOn}
use Rattle.sr_peers.specs.Plays.{Plays, Goes, OfEach}
use Rattle.sr_peers.specs.Runs.{Acts, steps_at, world_of}
use Rattle.sr_peers.specs.Told.{TellsAll}
use Rattle.hub_calc.specs.Table.{calc_hub}
use Rattle.hub_calc.specs.Client.{client_hub}
use Rattle.sr_peers.specs.Follows.{GoesOn, HasForgotten, Holds, IsLeft, MayRead}
use Rattle.sr_peers.proofs.Joining.{one_side}
use Rattle.sr_peers.proofs.Keeping.{doings_keep}
use Rattle.sr_peers.proofs.Timely.{losses_in_time, leaves_in_time, ticks_in_time}
use Rattle.sr_peers.proofs.Around.{GoBeyond, LanesStay, lanes_left, lanes_same, none_beyond, one_beyond}
use Rattle.sr_peers.proofs.Quiet.{IsQuiet, quiet_moves}
use Rattle.sr_peers.proofs.Steps.{follows_more, history_of, tells_made, tells_run_append, world_made}
use Rattle.sr_peers.proofs.Seats.{Seat, the_client, the_server}
use Rattle.sr_peers.proofs.Acting.{goes_on_made, plays_at}

-- an end was on the link where it stands
pub was_there : (k : List EndEvent) (l : ℕ) → present_link k ≡ Some l → was_on l k ≡ true
was_there [] l at = absurd (cc)
was_there (Attached m now ∷ k) l at = let e : l ≡ m = (let f : m ≡ l = cc in sym f) in on e
  where
    on : l ≡ m → ((l == m) || was_on l k) ≡ true
    on e = rw (eq-eqb l m e) refl
was_there (Detached now ∷ k) l at = absurd (cc)
was_there (Silenced now ∷ k) l at = absurd (cc)
was_there (s ∷ k) l at = was_there k l at

-- losses make no step of the end
pub losses_are_no_steps : (t : Settings) (k gone : List PeerEvent) → Chain (Losing t) k gone → byte_steps t (gone ++ k) ≡ byte_steps t k
losses_are_no_steps t k [] f = refl
losses_are_no_steps t k (Loses n ∷ gone) f = losses_are_no_steps t k gone f.0
losses_are_no_steps t k (d ∷ gone) f = absurd f.1

pub steps_with_losses : (t : Settings) (h ds new : List PeerEvent) → WithLosses t h ds new → steps t (new ++ h) ≡ steps t (ds ++ h)
steps_with_losses t h ds new f =
    ap (λ x. steps t (x ++ h)) f.1.1 ∙ (ap (steps t) (append_assoc f.0 ds h) ∙ ap (in_frames t.wire t.config) (losses_are_no_steps t (ds ++ h) f.0 f.1.0.0))

-- after a loss the end stands on no link
pub left_after : (t : Settings) (h : List PeerEvent) (now l : ℕ) (new : List PeerEvent) → present_link (steps t h) ≡ Some l → WithLosses t h (leaving t h now) new
    → present_link (steps t (new ++ h)) ≡ None
left_after t h now l new at f =
    ap present_link (steps_with_losses t h (leaving t h now) new f)
    ∙ subst (λ o. present_link (steps t ((if is_some o then Plain (Does (Detached now)) ∷ [] else []) ++ h)) ≡ None) (sym at) refl

-- nothing may be read on a link that was left
pub never_read : (wire : Wire) (c : of.Config) (x y : List ByteStep) (l : ℕ) → IsQuiet wire c x y → present_link (in_frames wire c x) ≡ Some l
    → present_link (in_frames wire c y) ≡ None → MayRead (in_frames wire c y) l → ⊥
never_read wire c x y l quiet at left (inl still) = absurd (cc)
never_read wire c x y l quiet at left (inr never) = absurd (let was = was_there (in_frames wire c x) l at in let same = quiet.names l in cc)

module _ (side : Side) (seat : Seat side) (lent : LentGoesOn) (old new : Peers) (alike : seat.Alike old new) (before after : List ℕ) (link : Option ℕ)
    (link_is : OfEach seat.hub (seat.at old) (λ t h. link ≡ present_link (steps t h))) where
  -- what is kept of the links stays, if nothing is kept of the one that was left
  pub lanes_after : (p : Pair) (w : List (Event PeerEvent)) (ds : List PeerEvent) → NeedNoOther ds
      → Plays seat.hub (settings side p) (seat.at old) (history side w) → Plays seat.hub (settings side p) (seat.at new) (ds ++ history side w)
      → ((l : ℕ) → present_link (steps_at p w side) ≡ Some l → present_link (steps (settings side p) (ds ++ history side w)) ≡ None)
      → IsLeft side link old.lanes.items new.lanes.items → LanesStay p (map (by side) ds ++ w) old.lanes.items new.lanes.items
  lanes_after p w ds need plays now_plays left is_left =
      let t = settings side p in
      let h = history side w in
      let quiet = quiet_moves t h ds need (history_of seat.hub t (seat.at new).peer (ds ++ h) now_plays.stands) in
      lanes_left p (map (by side) ds ++ w) side link old.lanes.items new.lanes.items is_left (λ l e may.
      let at = sym (link_is t h plays) ∙ e in
      never_read t.wire t.config (byte_steps t h) (byte_steps t (ds ++ h)) l quiet at (left l at) (subst (λ k. MayRead (steps t k) l) (one_side w side ds).0 may))

  pub loses : new.now ≡ old.now → IsLeft side link old.lanes.items new.lanes.items
      → OfEach seat.hub (seat.at old) (λ t h. of.moment (steps t h) ≤ old.now → (ds : List PeerEvent) × (WithLosses t h (leaving t h old.now) ds × Goes seat.hub t h (seat.at new) before after ds))
      → GoesOn old (Lose side) new before after
  loses same_now is_left lose = goes_on_made side seat lent old new alike same_now before after (Lose side) (record { links = λ actions. refl; later = λ actions. refl })
      (λ p actions r follows.
      let t = settings side p in
      let w = world_of r in
      let h = history side w in
      let plays = plays_at side seat lent old new alike same_now before after p actions r follows in
      let c = lose t h plays (omega (arith, follows.holds.is_world.in_time side, follows.holds.now)) in
      let keep = doings_keep.losses t h (leaving t h old.now) c.0 c.1.0 (doings_keep.leaves t h old.now) in record {
        moves = c.0;
        acts = (c.0, (subst (λ now. WithLosses t h (leaving t h now) c.0) follows.holds.now c.1.0, refl));
        keep = keep;
        timely = losses_in_time _ t h (leaving t h old.now) c.0 c.1.0 (leaves_in_time _ t h old.now (omega (arith, follows.holds.now)));
        goes = c.1.1;
        stay = lanes_after p w c.0 keep.0 plays c.1.1.plays (λ l at. left_after t h old.now l c.0 at c.1.0) is_left;
      })

-- ---- moments

-- a side is told a moment, or hears nothing for too long
pub record Ticks (side : Side) (seat : Seat side) (p : Pair) (actions : List Action) (now : ℕ) (w : List (Event PeerEvent)) (new : Peers) (before after : List ℕ) : Type 0 where
  pub moves : List PeerEvent
  pub ticking : WithLosses (settings side p) (history side w) (doings.ticking (settings side p) (history side w) now) moves
  pub goes : Goes seat.hub (settings side p) (history side w) (seat.at new) before after moves
  pub holds : Holds p actions (map (by side) moves ++ w) new

module _ (side : Side) (seat : Seat side) (lent : LentGoesOn) (old new : Peers) (alike : seat.Alike old new) (now : ℕ) (new_now : new.now ≡ now) (before after : List ℕ)
    (forgot : HasForgotten seat.hub side (seat.at old) (seat.at new) old.lanes.items new.lanes.items) where
  lanes_stay : (p : Pair) (w : List (Event PeerEvent)) (ds : List PeerEvent) → Plays seat.hub (settings side p) (seat.at old) (history side w)
      → Plays seat.hub (settings side p) (seat.at new) (ds ++ history side w) → NeedNoOther ds → (o : Option ℕ) → forgot.later ≡ o
      → LanesStay p (map (by side) ds ++ w) old.lanes.items new.lanes.items
  lanes_stay p w ds plays now_plays need None e =
      lanes_after side seat lent old new alike before after forgot.link forgot.link_is p w ds need plays now_plays
      (λ l at. sym (forgot.later_is (settings side p) (ds ++ history side w) now_plays) ∙ e) (forgot.left e)
  lanes_stay p w ds plays now_plays need (Some l) e =
      subst (λ lanes. LanesStay p (map (by side) ds ++ w) old.lanes.items lanes) (sym (forgot.kept (λ f. absurd (cc)))) (lanes_same p _ old.lanes.items)

  pub ticks : OfEach seat.hub (seat.at old) (λ t h. of.moment (steps t h) ≤ now
      → (ds : List PeerEvent) × (WithLosses t h (ticking t h now) ds × Goes seat.hub t h (seat.at new) before after ds))
      → (p : Pair) (actions more : List Action) (w : List (Event PeerEvent)) → moment_after more ≡ now → GoBeyond actions more → Holds p actions w old
      → of.moment (steps_at p w side) ≤ now → Ticks side seat p more now w new before after
  ticks tick p actions more w is_now beyond holds early =
      let t = settings side p in
      let h = history side w in
      let plays = (seat.played p actions w old holds).plays in
      let c = tick t h plays early in
      let keep = doings_keep.losses t h (ticking t h now) c.0 c.1.0 (doings_keep.ticks t h now) in
      let timely = losses_in_time (moment_after more) t h (ticking t h now) c.0 c.1.0 (ticks_in_time _ t h now (omega (arith, is_now))) in
      let stay = lanes_stay p w c.0 plays c.1.1.plays keep.0 forgot.later refl in record {
        moves = c.0;
        ticking = c.1.0;
        goes = c.1.1;
        holds = seat.goes_on lent p actions more w old new c.0 holds keep timely beyond (new_now ∙ sym is_now) c.1.1.plays alike stay;
      }

-- both sides are told a moment, the client first
pub both_tick : (lent : LentGoesOn) (old mid new : Peers) (now : ℕ) (before between after : List ℕ) → mid.server ≡ old.server → new.client ≡ mid.client → mid.now ≡ now → new.now ≡ now
    → HasForgotten client_hub Client old.client mid.client old.lanes.items mid.lanes.items → HasForgotten calc_hub Server mid.server new.server mid.lanes.items new.lanes.items
    → OfEach client_hub old.client (λ t h. of.moment (steps t h) ≤ now
    → (ds : List PeerEvent) × (WithLosses t h (ticking t h now) ds × Goes client_hub t h mid.client before between ds))
    → OfEach calc_hub mid.server (λ t h. of.moment (steps t h) ≤ now
    → (ds : List PeerEvent) × (WithLosses t h (ticking t h now) ds × Goes calc_hub t h new.server between after ds))
    → GoesOn old (Tick now) new before after
both_tick lent old mid new now before between after server_same client_same mid_now new_now client_forgot server_forgot client_ticks server_ticks p actions r follows turn =
    let more = Tick now ∷ actions in
    let w = world_of r in
    let holds = follows.holds in
    let beyond = one_beyond (Tick now) actions refl turn in
    let c = ticks Client the_client lent old mid server_same now mid_now before between client_forgot client_ticks p actions more w refl beyond holds
    (omega (arith, holds.is_world.in_time Client, turn)) in
    let between_world = map (by Client) c.moves ++ w in
    let s = ticks Server the_server lent mid new client_same now new_now between after server_forgot server_ticks p more more between_world refl (none_beyond more) c.holds
    (c.holds.is_world.in_time Server) in
    let client_run = map (by Client) (made c.moves) in
    let server_run = map (by Server) (made s.moves) in
    let mid_world : world_of (client_run ++ r) ≡ between_world = world_made Client c.moves r in
    let whole : world_of ((server_run ++ client_run) ++ r) ≡ map (by Server) s.moves ++ between_world
    = ap world_of (append_assoc server_run client_run r) ∙ (world_made Server s.moves (client_run ++ r) ∙ ap (λ v. map (by Server) s.moves ++ v) mid_world) in
    let same_server : server_of between_world ≡ server_of w = (one_side w Client c.moves).1 in
    let acts : Acts p actions r (Tick now) (server_run ++ client_run) = record {
      client = client_run;
      server = server_run;
      client_ticks = (c.moves, (c.ticking, refl));
      server_ticks = (s.moves, (subst (λ h. WithLosses (settings Server p) h (ticking (settings Server p) h now) s.moves) same_server s.ticking, refl));
      is = refl;
    } in
    let told = tells_made p Client r c.moves c.goes.text c.goes.tells in
    let more_told = tells_made p Server (client_run ++ r) s.moves s.goes.text
    (subst (λ v. TellsAll (settings Server p) (server_of v) s.moves s.goes.text) (sym mid_world) s.goes.tells) in (
      server_run ++ client_run,
      c.goes.text ++ s.goes.text,
      (
        acts,
        follows_more p actions r (server_run ++ client_run) (Tick now) old new follows turn acts (subst (λ v. Holds p more v new) (sym whole) s.holds),
        tells_run_append p r client_run server_run c.goes.text s.goes.text told more_told,
        s.goes.appended ∙ (ap (λ x. x ++ s.goes.text) c.goes.appended ∙ append_assoc before c.goes.text s.goes.text),
      ),
    )
