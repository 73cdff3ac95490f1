-- A world of two peers, and what is kept of its links, goes on with moves of a side that keep to it.
use Rattle.std.proofs.Common.{inl, inr, ◌≡◌, ℕ, ◌≤◌, List, [], ◌∷◌, ◌++◌, length, map, drop, Contains, Option, Some, refl, sym, ap, ◌∙◌, subst, arith}
use Rattle.std.specs.Prelude.{slice_get}
use Rattle.std.proofs.lemmas.List.Elements.{Contains-append_right}
use Rattle.hd_delivery.specs.declared.vocabulary.Side.{Side}
use Rattle.hd_delivery.specs.declared.vocabulary.Side.TheVariants.{Client, Server}
use Rattle.hd_delivery.specs.Histories as of
use Rattle.hd_delivery.specs.Histories.{was_on}
use Rattle.hd_delivery.specs.Worlds.{Event, config}
use Rattle.hd_delivery.specs.Bytes.{ByteStep, bytes_on, lent_bytes}
use Rattle.hd_delivery.specs.OneHistory.{IsHistory}
use Rattle.hd_delivery.specs.Sides.{by, other, history}
use Rattle.hd_calls.specs.Peers.{PeerEvent, byte_steps, steps}
use Rattle.hd_calls.specs.PeerWorlds.{Pair, settings}
use Rattle.sr_script.specs.declared.action.Action.{Action}
use Rattle.sr_script.specs.declared.action.Action.TheVariants.{Accept}
use Rattle.sr_script.specs.Script.{opened, moment_after}
use Rattle.sr_peers.specs.declared.lane.LinkBytes.{LinkBytes}
use Rattle.sr_peers.specs.Grows.{lent_in, KeepToTheirSide, LendNothing}
use Rattle.sr_peers.specs.Laws.{LentGoesOn}
use Rattle.sr_peers.specs.Runs.{steps_at}
use Rattle.sr_peers.specs.Follows.{MayRead, IsLeft, IsWorldOf, said_by, unfed}
use Rattle.sr_peers.proofs.Joining.{one_side, others_join, worlds_grow}
use Rattle.sr_peers.proofs.Keeping.{nowhere}
use Rattle.sr_peers.proofs.Quiet.{IsQuiet, quiet_none, quiet_moves}
use Rattle.sr_peers.proofs.Timely.{AreInTime, moments}

-- ---- sides

-- what holds of a side and of the other holds of each
pub both_sides : (P : Side → Type 0) (side : Side) → P side → P (other side) → (s : Side) → P s
both_sides P Client a b Client = a
both_sides P Client a b Server = b
both_sides P Server a b Client = b
both_sides P Server a b Server = a

pub back_again : (side : Side) → other (other side) ≡ side
back_again Client = refl
back_again Server = refl

-- ---- actions

-- these actions open no link more, accept what those did, and come to no earlier moment
pub record GoBeyond (before actions : List Action) : Type 0 where
  pub links : opened actions ≡ opened before
  pub later : moment_after before ≤ moment_after actions
  pub accepted : (l : ℕ) → Contains before (Accept l) → Contains actions (Accept l)

pub one_beyond : (a : Action) (before : List Action) → opened (a ∷ before) ≡ opened before → moment_after before ≤ moment_after (a ∷ before) → GoBeyond before (a ∷ before)
one_beyond a before links later = record { links = links; later = later; accepted = λ l c. Contains-append_right (a ∷ []) before (Accept l) c }

pub none_beyond : (before : List Action) → GoBeyond before before
none_beyond before = record { links = refl; later = omega arith; accepted = λ l c. c }

-- ---- lanes

-- after these moves it is kept of each link what was kept, as far as a side may yet read there
pub record LanesStay (p : Pair) (w : List (Event PeerEvent)) (before after : List LinkBytes) : Type 0 where
  pub many : length after ≡ length before
  pub was : (l : ℕ) (lane : LinkBytes) → slice_get after l ≡ Some lane → LinkBytes
  pub there : (l : ℕ) (lane : LinkBytes) (at : slice_get after l ≡ Some lane) → slice_get before l ≡ Some (was l lane at)
  pub opened : (l : ℕ) (lane : LinkBytes) (at : slice_get after l ≡ Some lane) → lane.opened ≡ (was l lane at).opened
  pub unread : (l : ℕ) (lane : LinkBytes) (at : slice_get after l ≡ Some lane) (s : Side) → MayRead (steps_at p w s) l → said_by (other s) lane ≡ said_by (other s) (was l lane at)

pub lanes_same : (p : Pair) (w : List (Event PeerEvent)) (lanes : List LinkBytes) → LanesStay p w lanes lanes
lanes_same p w lanes = record { many = refl; was = λ l lane at. lane; there = λ l lane at. at; opened = λ l lane at. refl; unread = λ l lane at s may. refl }

pub lanes_left : (p : Pair) (w : List (Event PeerEvent)) (side : Side) (link : Option ℕ) (before after : List LinkBytes) → IsLeft side link before after
    → ((l : ℕ) → link ≡ Some l → MayRead (steps_at p w side) l → ⊥) → LanesStay p w before after
lanes_left p w side link before after left gone = record {
  many = left.many;
  was = λ l lane at. (left.each l lane at).0;
  there = λ l lane at. (left.each l lane at).1.0;
  opened = λ l lane at. (left.each l lane at).1.1.opened;
  unread = λ l lane at s may.
      let was = (left.each l lane at).0 in
      let has = (left.each l lane at).1.1 in
      both_sides (λ s. MayRead (steps_at p w s) l → said_by (other s) lane ≡ said_by (other s) was) side
      (λ may. has.heard (λ e. gone l e may)) (λ may. subst (λ x. said_by x lane ≡ said_by x was) (sym (back_again side)) has.said) s may;
}

-- ---- moves that lend nothing

module _ (lent : LentGoesOn) (p : Pair) (w : List (Event PeerEvent)) (side : Side) (ds : List PeerEvent) where
  abbrev of_lent : List ByteStep → ℕ → List ℕ
  of_lent x l = lent_bytes p.wire (config side p.terms) l x

  pub lent_same : IsHistory (p.limits side) p.wire (config side p.terms) (byte_steps (settings side p) (ds ++ history side w)) → LendNothing ds
      → (s : Side) (l : ℕ) → lent_in p (map (by side) ds ++ w) s l ≡ lent_in p w s l
  lent_same is_history lends = both_sides (λ s. (l : ℕ) → lent_in p (map (by side) ds ++ w) s l ≡ lent_in p w s l) side
      (λ l. ap (λ h. of_lent (byte_steps (settings side p) h) l) (one_side w side ds).0
      ∙ lent.stays (settings side p) l (history side w) ds is_history (nowhere (settings side p) l (history side w) ds lends))
      (λ l. lent.apart p w side ds l)

-- ---- moves that aren't late

pub times_after : (p : Pair) (before actions : List Action) (w : List (Event PeerEvent)) (side : Side) (ds : List PeerEvent) → ((s : Side) → of.moment (steps_at p w s) ≤ moment_after before)
    → AreInTime (moment_after actions) ds → moment_after before ≤ moment_after actions → (s : Side) → of.moment (steps_at p (map (by side) ds ++ w) s) ≤ moment_after actions
times_after p before actions w side ds early timely later = both_sides (λ s. of.moment (steps_at p (map (by side) ds ++ w) s) ≤ moment_after actions) side
    (subst (λ h. of.moment (steps (settings side p) h) ≤ moment_after actions) (sym (one_side w side ds).0)
    (moments (moment_after actions) (settings side p) (history side w) ds timely (omega (arith, early side, later))))
    (subst (λ h. of.moment (steps (settings (other side) p) h) ≤ moment_after actions) (sym (one_side w side ds).1) (omega (arith, early (other side), later)))

-- ---- moves that keep to their side

module _ (lent : LentGoesOn) (p : Pair) (before actions : List Action) (w : List (Event PeerEvent)) (side : Side) (ds : List PeerEvent) (kept now : List LinkBytes)
    (was : IsWorldOf p before w kept) (is_history : IsHistory (p.limits side) p.wire (config side p.terms) (byte_steps (settings side p) (ds ++ history side w)))
    (keep : KeepToTheirSide ds) (timely : AreInTime (moment_after actions) ds) (beyond : GoBeyond before actions) where
  abbrev after : List (Event PeerEvent)
  after = map (by side) ds ++ w

  abbrev steps_before : Side → List ByteStep
  steps_before s = byte_steps (settings s p) (history s w)

  abbrev steps_after : Side → List ByteStep
  steps_after s = byte_steps (settings s p) (history s after)

  own : steps_after side ≡ byte_steps (settings side p) (ds ++ history side w)
  own = ap (byte_steps (settings side p)) (one_side w side ds).0

  others : steps_after (other side) ≡ steps_before (other side)
  others = ap (byte_steps (settings (other side) p)) (one_side w side ds).1

  quiet : (s : Side) → IsQuiet p.wire (config s p.terms) (steps_before s) (steps_after s)
  quiet = both_sides (λ s. IsQuiet p.wire (config s p.terms) (steps_before s) (steps_after s)) side
      (subst (IsQuiet p.wire (config side p.terms) (steps_before side)) (sym own) (quiet_moves (settings side p) (history side w) ds keep.0 is_history))
      (subst (IsQuiet p.wire (config (other side) p.terms) (steps_before (other side))) (sym others)
      (quiet_none p.wire (config (other side) p.terms) (steps_before (other side))))

  same_unfed : (s : Side) (l : ℕ) → unfed p after s l ≡ unfed p w s l
  same_unfed s l =
      ap (λ xs. drop (length xs) (lent_in p after (other s) l)) ((quiet s).bytes l)
      ∙ ap (λ xs. drop (length (bytes_on l (steps_before s))) xs) (lent_same lent p w side ds is_history keep.1 (other s) l)

  may_before : (s : Side) (l : ℕ) → MayRead (steps_at p after s) l → MayRead (steps_at p w s) l
  may_before s l (inl at) = inl ((quiet s).stands l at)
  may_before s l (inr never) = inr (sym ((quiet s).names l) ∙ never)

  pub world_goes_on : LanesStay p after kept now → IsWorldOf p actions after now
  world_goes_on stay = record {
    world = worlds_grow p w side was.world ds is_history (others_join p w side ds keep.0);
    links = stay.many ∙ was.links ∙ sym beyond.links;
    lanes = λ l lane at.
        let is_lane = was.lanes l (stay.was l lane at) (stay.there l lane at) in record {
          unread = λ s may. stay.unread l lane at s may ∙ is_lane.unread s (may_before s l may) ∙ sym (same_unfed s l);
          was_opened = stay.opened l lane at ∙ is_lane.was_opened ∙ sym ((quiet Client).names l);
        };
    opened_links = λ l on. omega (arith, was.opened_links l (sym ((quiet Client).names l) ∙ on), beyond.links);
    accepted_links = λ l on. beyond.accepted l (was.accepted_links l (sym ((quiet Server).names l) ∙ on));
    in_time = times_after p before actions w side ds was.in_time timely beyond.later;
  }
