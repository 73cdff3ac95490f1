-- What an action that keeps to its side makes of two peers.
use Rattle.std.proofs.Common.{◌≡◌, ℕ, Bool, List, [], ◌∷◌, ◌++◌, map, Some, None, refl, sym, ◌∙◌, subst, arith, append-nil}
use Rattle.std.specs.Prelude.{◌↔◌, IsTrue}
use Rattle.hv_value.specs.declared.value.Value.{Value}
use Rattle.hd_delivery.specs.declared.vocabulary.Side.{Side}
use Rattle.hd_delivery.specs.Worlds.{Event}
use Rattle.hd_delivery.specs.Sides.{by, history}
use Rattle.hd_calls.specs.Peers.{PeerEvent, Calls, Runs, Refuses, Rounds, Settings}
use Rattle.hd_calls.specs.PeerWorlds.{Pair, settings}
use Rattle.hd_calls.specs.Rules.{IsPeerDue}
use Rattle.hp_peer.specs.Calling.{upload_end, upload_item}
use Rattle.hp_peer.specs.Turning.{AreTurns}
use Rattle.sr_script.specs.declared.action.Action.{Action}
use Rattle.sr_script.specs.declared.action.Action.TheVariants.{Close, Call, Item, Done, Cancel, Round}
use Rattle.sr_script.specs.declared.action.Asking.{Asking}
use Rattle.sr_script.specs.Script.{opened, moment_after, IsInTurn}
use Rattle.sr_peers.specs.declared.peers.Peers.{Peers}
use Rattle.sr_peers.specs.Doings.{Doing, made, moves_of, WithLosses, closing, Asks, Sends, Cancelling, IsRound}
use Rattle.sr_peers.specs.Told.{TellsAll}
use Rattle.sr_peers.specs.Grows.{KeepToTheirSide}
use Rattle.sr_peers.specs.Laws.{LentGoesOn}
use Rattle.sr_peers.specs.Plays.{Plays, Goes, HasDone, OfEach}
use Rattle.sr_peers.specs.Runs.{Run, Acts, world_of}
use Rattle.sr_peers.specs.Follows.{Follows, GoesOn, WorksOn, IsMade}
use Rattle.sr_peers.specs.Works.{Works}
use Rattle.sr_peers.proofs.Keeping.{doings_keep}
use Rattle.sr_peers.proofs.Timely.{AreInTime, losses_in_time, closes_in_time, done_in_time, rounds_in_time}
use Rattle.sr_peers.proofs.Around.{LanesStay, lanes_same, one_beyond}
use Rattle.sr_peers.proofs.Steps.{made_by_moves, goes_on_by_one}
use Rattle.sr_peers.proofs.Seats.{Seat}

-- the action opens no link, and brings no moment
pub record IsPlainAction (a : Action) : Type 0 where
  pub links : (actions : List Action) → opened (a ∷ actions) ≡ opened actions
  pub later : (actions : List Action) → moment_after (a ∷ actions) ≡ moment_after actions

-- the lanes are kept as they were
pub lanes_kept : (p : Pair) (w : List (Event PeerEvent)) (old new : Peers) → new.lanes ≡ old.lanes → LanesStay p w old.lanes.items new.lanes.items
lanes_kept p w old new e = subst (λ v. LanesStay p w old.lanes.items v.items) (sym e) (lanes_same p w old.lanes.items)

module _ (side : Side) (seat : Seat side) (lent : LentGoesOn) (old new : Peers) (alike : seat.Alike old new) (same_now : new.now ≡ old.now) (before after : List ℕ) where
  -- after the actions and their run the side made these moves, for the action
  pub record Made (a : Action) (p : Pair) (actions : List Action) (r : Run) : Type 0 where
    pub moves : List PeerEvent
    pub acts : Acts p actions r a (map (by side) (made moves))
    pub keep : KeepToTheirSide moves
    pub timely : AreInTime (moment_after (a ∷ actions)) moves
    pub goes : Goes seat.hub (settings side p) (history side (world_of r)) (seat.at new) before after moves
    pub stay : LanesStay p (map (by side) moves ++ world_of r) old.lanes.items new.lanes.items

  is_made : (a : Action) → IsPlainAction a → (p : Pair) (actions : List Action) (r : Run) → Follows p actions r old → IsInTurn actions a → (m : Made a p actions r)
      → IsMade p actions r a new before after (map (by side) (made m.moves)) m.goes.text
  is_made a plain p actions r follows turn m =
      let now = same_now ∙ follows.holds.now ∙ sym (plain.later actions) in
      made_by_moves p actions r a old new follows turn before after side m.moves m.goes.text m.acts m.goes.tells m.goes.appended
      (seat.goes_on lent p actions (a ∷ actions) (world_of r) old new m.moves follows.holds m.keep m.timely
      (one_beyond a actions (plain.links actions) (omega (arith, plain.later actions))) now m.goes.plays alike m.stay)

  pub goes_on_made : (a : Action) → IsPlainAction a → ((p : Pair) (actions : List Action) (r : Run) → Follows p actions r old → Made a p actions r) → GoesOn old a new before after
  goes_on_made a plain makes p actions r follows turn =
      let m = makes p actions r follows in
      (map (by side) (made m.moves), m.goes.text, is_made a plain p actions r follows turn m)

  -- and they say whether it worked
  pub works_on_made : (a : Action) → IsPlainAction a → (worked : Bool)
      → ((p : Pair) (actions : List Action) (r : Run) → Follows p actions r old → (m : Made a p actions r) × Works p r a (map (by side) (made m.moves)) worked)
      → WorksOn old a new before after worked
  works_on_made a plain worked makes p actions r follows turn =
      let both = makes p actions r follows in
      let m = both.0 in
      (map (by side) (made m.moves), m.goes.text, (is_made a plain p actions r follows turn m, both.1))

  -- or it did this one thing
  pub record Did (a : Action) (p : Pair) (actions : List Action) (r : Run) : Type 0 where
    pub did : Doing
    pub acts : Acts p actions r a (by side did ∷ [])
    pub keep : KeepToTheirSide (moves_of (did ∷ []))
    pub timely : AreInTime (moment_after (a ∷ actions)) (moves_of (did ∷ []))
    pub done : HasDone seat.hub (settings side p) (history side (world_of r)) (seat.at new) before after did

  pub goes_on_did : (a : Action) → IsPlainAction a → new.lanes ≡ old.lanes → ((p : Pair) (actions : List Action) (r : Run) → Follows p actions r old → Did a p actions r)
      → GoesOn old a new before after
  goes_on_did a plain kept does p actions r follows turn =
      let m = does p actions r follows in
      let now = same_now ∙ follows.holds.now ∙ sym (plain.later actions) in
      goes_on_by_one p actions r a old new follows turn before after side m.did m.done.text m.acts m.done.tells m.done.appended
      (seat.goes_on lent p actions (a ∷ actions) (world_of r) old new (moves_of (m.did ∷ [])) follows.holds m.keep m.timely
      (one_beyond a actions (plain.links actions) (omega (arith, plain.later actions))) now m.done.plays alike (lanes_kept p _ old new kept))

  abbrev pub plays_at : (p : Pair) (actions : List Action) (r : Run) → Follows p actions r old → Plays seat.hub (settings side p) (seat.at old) (history side (world_of r))
  plays_at p actions r follows = (seat.played p actions (world_of r) old follows.holds).plays

  -- ---- each action

  pub closes : new.lanes ≡ old.lanes
      → OfEach seat.hub (seat.at old) (λ t h. (ds : List PeerEvent) × (WithLosses t h (closing t h) ds × Goes seat.hub t h (seat.at new) before after ds))
      → GoesOn old (Close side) new before after
  closes kept close = goes_on_made (Close side) (record { links = λ actions. refl; later = λ actions. refl }) (λ p actions r follows.
      let t = settings side p in
      let h = history side (world_of r) in
      let c = close t h (plays_at p actions r follows) in record {
        moves = c.0;
        acts = (c.0, (c.1.0, refl));
        keep = doings_keep.losses t h (closing t h) c.0 c.1.0 (doings_keep.closes t h);
        timely = losses_in_time _ t h (closing t h) c.0 c.1.0 (closes_in_time _ t h);
        goes = c.1.1;
        stay = lanes_kept p _ old new kept;
      })

  pub calls : (a : Asking) → new.lanes ≡ old.lanes
      → OfEach seat.hub (seat.at old) (λ t h. (did : Doing) × (Asks t h a.kind a.target a.arguments a.uploads did × HasDone seat.hub t h (seat.at new) before after did))
      → GoesOn old (Call side a) new before after
  calls a kept call = goes_on_did (Call side a) (record { links = λ actions. refl; later = λ actions. refl }) kept (λ p actions r follows.
      let t = settings side p in
      let h = history side (world_of r) in
      let c = call t h (plays_at p actions r follows) in record {
        did = c.0;
        acts = (c.0, (c.1.0, refl));
        keep = doings_keep.asks t h a.kind a.target a.arguments a.uploads c.0 c.1.0;
        timely = done_in_time _ _ _ c.0 tt c.1.0;
        done = c.1.1;
      })

  pub items : (call : ℕ) (value : Value) → new.lanes ≡ old.lanes
      → OfEach seat.hub (seat.at old) (λ t h. (did : Doing) × (Sends t h call 0 (upload_item t h value) did × HasDone seat.hub t h (seat.at new) before after did))
      → GoesOn old (Item side call value) new before after
  items call value kept item = goes_on_did (Item side call value) (record { links = λ actions. refl; later = λ actions. refl }) kept (λ p actions r follows.
      let t = settings side p in
      let h = history side (world_of r) in
      let c = item t h (plays_at p actions r follows) in record {
        did = c.0;
        acts = (c.0, (c.1.0, refl));
        keep = doings_keep.sends t h call 0 (upload_item t h value) c.0 c.1.0;
        timely = done_in_time _ _ _ c.0 tt c.1.0;
        done = c.1.1;
      })

  pub dones : (call : ℕ) → new.lanes ≡ old.lanes
      → OfEach seat.hub (seat.at old) (λ t h. (did : Doing) × (Sends t h call 0 (upload_end None) did × HasDone seat.hub t h (seat.at new) before after did))
      → GoesOn old (Done side call) new before after
  dones call kept done = goes_on_did (Done side call) (record { links = λ actions. refl; later = λ actions. refl }) kept (λ p actions r follows.
      let t = settings side p in
      let h = history side (world_of r) in
      let c = done t h (plays_at p actions r follows) in record {
        did = c.0;
        acts = (c.0, (c.1.0, refl));
        keep = doings_keep.sends t h call 0 (upload_end None) c.0 c.1.0;
        timely = done_in_time _ _ _ c.0 tt c.1.0;
        done = c.1.1;
      })

  pub cancels : (call : ℕ) → new.lanes ≡ old.lanes
      → OfEach seat.hub (seat.at old) (λ t h. (did : Doing) × (Cancelling t h call did × HasDone seat.hub t h (seat.at new) before after did))
      → GoesOn old (Cancel side call) new before after
  cancels call kept cancel = goes_on_did (Cancel side call) (record { links = λ actions. refl; later = λ actions. refl }) kept (λ p actions r follows.
      let t = settings side p in
      let h = history side (world_of r) in
      let c = cancel t h (plays_at p actions r follows) in record {
        did = c.0;
        acts = (c.0, (c.1.0, refl));
        keep = doings_keep.cancels t h call c.0 c.1.0;
        timely = done_in_time _ _ _ c.0 tt c.1.0;
        done = c.1.1;
      })

-- a round has no lines
turns_tell_none : (t : Settings) (h : List PeerEvent) (now : ℕ) (ds : List PeerEvent) → AreTurns now ds → TellsAll t h (ds ++ Rounds ∷ []) []
turns_tell_none t h now [] a = ([], [], (refl, refl, refl))
turns_tell_none t h now (Runs j c since turn what ∷ ds) a = ([], [], (turns_tell_none t h now ds a.2, refl, refl))
turns_tell_none t h now (Calls (Some j) n c ∷ ds) a = ([], [], (turns_tell_none t h now ds a, refl, refl))
turns_tell_none t h now (Refuses j ∷ ds) a = ([], [], (turns_tell_none t h now ds a, refl, refl))
turns_tell_none t h now (_ ∷ ds) a = absurd a

pub rounds : (side : Side) (seat : Seat side) (lent : LentGoesOn) (old new : Peers) (alike : seat.Alike old new) (same_now : new.now ≡ old.now) → new.lanes ≡ old.lanes → (due : Bool)
    → OfEach seat.hub (seat.at old) (λ t h. (ds : List PeerEvent) × (IsRound t h old.now ds × Plays seat.hub t (seat.at new) (ds ++ h) × (IsTrue due ↔ IsPeerDue t h)))
    → (report : List ℕ) → WorksOn old (Round side) new report report due
rounds side seat lent old new alike same_now kept due round report =
    works_on_made side seat lent old new alike same_now report report (Round side) (record { links = λ actions. refl; later = λ actions. refl }) due (λ p actions r follows.
    let t = settings side p in
    let h = history side (world_of r) in
    let c = round t h (plays_at side seat lent old new alike same_now report report p actions r follows) in
    let is_round = c.1.0 in (
      record {
        moves = c.0;
        acts = (c.0, (subst (λ now. IsRound t h now c.0) follows.holds.now is_round, refl));
        keep = doings_keep.rounds t h old.now c.0 is_round;
        timely = rounds_in_time _ t h old.now c.0 is_round;
        goes = record {
          plays = c.1.1;
          text = [];
          tells = subst (λ ds. TellsAll t h ds []) (sym is_round.is) (turns_tell_none t h old.now is_round.turns is_round.are_turns);
          appended = sym (append-nil report);
        };
        stay = lanes_kept p _ old new kept;
      },
      c.1.2,
    ))
