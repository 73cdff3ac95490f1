-- A side that does something on the link where it stands, and what is kept of that link.
use Rattle.std.proofs.Common.{inl, inr, ◌≡◌, ◌⊎◌, ℕ, zero, suc, ◌≤◌, ◌<◌, Bool, true, List, [], ◌∷◌, ◌++◌, length, map, drop, Contains, Option, Some, refl, sym, ap, ◌∙◌, subst, arith, slice_index_or, slice_set, length-append, length-set}
use Rattle.std.specs.Prelude.{slice_get}
use Rattle.hd_facts.specs.Prefixes.{IsPrefix}
use Rattle.hd_delivery.specs.declared.vocabulary.Side.{Side}
use Rattle.hd_delivery.specs.declared.vocabulary.Side.TheVariants.{Client, Server}
use Rattle.hd_delivery.specs.Histories.{present_link, was_on}
use Rattle.hd_delivery.specs.Worlds.{Event, config}
use Rattle.hd_delivery.specs.Bytes.{ByteStep, bytes_on, lent_bytes, IsWorldOverBytes}
use Rattle.hd_delivery.specs.OneHistory.{IsHistory}
use Rattle.hd_delivery.specs.HistoryLaws.{FactsHold}
use Rattle.hd_delivery.specs.AloneLaws.{FedIsLent}
use Rattle.hd_delivery.specs.Sides.{by, other, history}
use Rattle.hd_calls.specs.Peers.{PeerEvent, byte_steps, steps}
use Rattle.hd_calls.specs.PeerWorlds.{Pair, settings, ends}
use Rattle.hub_calc.specs.Table.{calc_hub}
use Rattle.hub_calc.specs.Client.{client_hub}
use Rattle.sr_script.specs.declared.action.Action.{Action}
use Rattle.sr_script.specs.declared.action.Action.TheVariants.{Open, Accept}
use Rattle.sr_script.specs.Script.{opened, moment_after, IsInTurn, AreInTurn}
use Rattle.sr_peers.specs.declared.lane.LinkBytes.{LinkBytes}
use Rattle.sr_peers.specs.declared.peers.Peers.{Peers}
use Rattle.sr_peers.specs.Grows.{lent_in, MayJoin}
use Rattle.sr_peers.specs.Plays.{Plays, OfEach}
use Rattle.sr_peers.specs.Runs.{steps_at, world_of}
use Rattle.sr_peers.specs.Follows.{WorksOn, HasTakenAll, Holds, IsPlayed, MayRead, IsLane, IsWorldOf, said_by, unfed}
use Rattle.sr_peers.proofs.Joining.{one_side, worlds_grow, steps_in}
use Rattle.sr_peers.proofs.Saying.{lent_apart}
use Rattle.sr_peers.proofs.Timely.{AreInTime}
use Rattle.sr_peers.proofs.Around.{both_sides, back_again, times_after, GoBeyond}
use Rattle.sr_peers.proofs.Steps.{history_of}
use Rattle.sr_peers.proofs.Lanes.{get_set}
use Rattle.sr_peers.proofs.Seats.{Seat, the_client, the_server}

-- ---- lists

pub prefix_length : {A : Type 0} (xs ys : List A) → IsPrefix xs ys → length xs ≤ length ys
prefix_length xs ys p = let e = sym (length-append xs p.0) ∙ ap length p.1 in omega (arith, e)

-- ---- the links that are kept

opens_more : (a : Action) (before : List Action) → opened before ≤ opened (a ∷ before)
opens_more Open before = omega arith
opens_more a before = omega arith

accepted_at : (actions : List Action) (l k : ℕ) → AreInTurn actions → k < length actions → slice_index_or actions k (Accept l) ≡ Accept l → l < opened actions
accepted_at [] l k turns few e = absurd (omega (arith, few))
accepted_at (a ∷ before) l zero turns few e = let first = subst (IsInTurn before) e turns.1 in omega (arith, first.0, opens_more a before)
accepted_at (a ∷ before) l (suc k) turns few e = omega (arith, accepted_at before l k turns.0 (omega (arith, few)) e, opens_more a before)

-- a link that is accepted was opened
pub accepted_is_open : (actions : List Action) (l : ℕ) → AreInTurn actions → Contains actions (Accept l) → l < opened actions
accepted_is_open actions l turns c = accepted_at actions l c.0 turns c.1 c.2

-- each link on which a side was is kept
link_kept : (p : Pair) (actions : List Action) (w : List (Event PeerEvent)) (kept : List LinkBytes) → IsWorldOf p actions w kept → AreInTurn actions
    → (side : Side) (l : ℕ) → was_on l (steps_at p w side) ≡ true → l < length kept
link_kept p actions w kept was turns Client l on = omega (arith, was.links, was.opened_links l on)
link_kept p actions w kept was turns Server l on = omega (arith, was.links, accepted_is_open actions l turns (was.accepted_links l on))

-- what a side was fed on a link is a first part of what the other side lent there
pub fed_there : FedIsLent → (p : Pair) (w : List (Event PeerEvent)) → IsWorldOverBytes p.limits p.wire p.terms (ends p w) → (side : Side) (l : ℕ)
    → IsPrefix (bytes_on l (byte_steps (settings side p) (history side w))) (lent_in p w (other side) l)
fed_there fed p w world side l =
    subst (λ x. IsPrefix (bytes_on l x) (lent_in p w (other side) l)) (steps_in p w side)
    (subst (λ y. IsPrefix (bytes_on l (history side (ends p w))) (lent_bytes p.wire (config (other side) p.terms) l y)) (steps_in p w (other side))
    (fed p.limits p.wire p.terms (ends p w) side l world))

-- ---- the seat of a side

-- the link that is named is the one on which the side's peer stands
abbrev pub IsOn : (side : Side) (seat : Seat side) → Option ℕ → Peers → Type 0
IsOn side seat link x = OfEach seat.hub (seat.at x) (λ t h. link ≡ present_link (steps t h))

-- the side made moves after which this is the world, and has taken what came: the two peers stand for that
abbrev pub HoldsOn : (side : Side) → Seat side → Type 0
HoldsOn side seat = (p : Pair) (before actions : List Action) (w : List (Event PeerEvent)) (old new : Peers) (ds : List PeerEvent) → Holds p before w old
    → IsWorldOf p actions (map (by side) ds ++ w) new.lanes.items → Plays seat.hub (settings side p) (seat.at new) (ds ++ history side w)
    → HasTakenAll (settings side p) (ds ++ history side w) → seat.Alike old new → new.now ≡ moment_after actions
    → Holds p actions (map (by side) ds ++ w) new

pub client_holds : HoldsOn Client the_client
client_holds p before actions w old new ds was world plays took same now = record {
  is_world = world;
  client = subst (λ h. IsPlayed client_hub (settings Client p) new.client h) (sym (one_side w Client ds).0) (record { plays = plays; took_all = took });
  server = subst (λ h. IsPlayed calc_hub (settings Server p) new.server h) (sym (one_side w Client ds).1)
      (subst (λ x. IsPlayed calc_hub (settings Server p) x (history Server w)) (sym same) was.server);
  now = now;
}

pub server_holds : HoldsOn Server the_server
server_holds p before actions w old new ds was world plays took same now = record {
  is_world = world;
  client = subst (λ h. IsPlayed client_hub (settings Client p) new.client h) (sym (one_side w Server ds).1)
      (subst (λ x. IsPlayed client_hub (settings Client p) x (history Client w)) (sym same) was.client);
  server = subst (λ h. IsPlayed calc_hub (settings Server p) new.server h) (sym (one_side w Server ds).0) (record { plays = plays; took_all = took });
  now = now;
}

-- a side never stands on a link that isn't kept
pub never_past : (side : Side) (seat : Seat side) → FactsHold → (x : Peers) (link : ℕ) → IsOn side seat (Some link) x → length x.lanes.items ≤ link
    → (a : Action) (before after : List ℕ) (worked : Bool) → WorksOn x a x before after worked
never_past side seat facts x link on past a before after worked p actions r follows turn =
    let t = settings side p in
    let h = history side (world_of r) in
    let plays = (seat.played p actions (world_of r) x follows.holds).plays in
    let is_history = history_of seat.hub t (seat.at x).peer h plays.stands in
    let was = (facts t.limits t.wire t.config (byte_steps t h) is_history).is_where_it_was link (sym (on t h plays)) in
    absurd (omega (arith, past, link_kept p actions (world_of r) x.lanes.items follows.holds.is_world follows.turns side link was))

-- ---- the world after moves of a side on its link

module _ (p : Pair) (before actions : List Action) (w : List (Event PeerEvent)) (side : Side) (ds : List PeerEvent) (kept : List LinkBytes) (was : IsWorldOf p before w kept)
    (is_history : IsHistory (p.limits side) p.wire (config side p.terms) (byte_steps (settings side p) (ds ++ history side w)))
    (joins : MayJoin p w side ds) (timely : AreInTime (moment_after actions) ds) (beyond : GoBeyond before actions)
    (names : (l : ℕ) → was_on l (steps (settings side p) (ds ++ history side w)) ≡ was_on l (steps_at p w side)) where
  abbrev after : List (Event PeerEvent)
  after = map (by side) ds ++ w

  -- the steps of the side's end
  abbrev own : List ByteStep
  own = byte_steps (settings side p) (ds ++ history side w)

  -- what the other side was fed on a link
  abbrev fed_to_other : ℕ → List ℕ
  fed_to_other l = bytes_on l (byte_steps (settings (other side) p) (history (other side) w))

  names_after : (s : Side) (l : ℕ) → was_on l (steps_at p after s) ≡ was_on l (steps_at p w s)
  names_after = both_sides (λ s. (l : ℕ) → was_on l (steps_at p after s) ≡ was_on l (steps_at p w s)) side
      (λ l. ap (λ h. was_on l (steps (settings side p) h)) (one_side w side ds).0 ∙ names l)
      (λ l. ap (λ h. was_on l (steps (settings (other side) p) h)) (one_side w side ds).1)

  -- what the side may hear on the link
  abbrev Hears : ℕ → List ℕ → Type 0
  Hears l said = MayRead (steps (settings side p) (ds ++ history side w)) l → said ≡ drop (length (bytes_on l own)) (lent_in p w (other side) l)

  -- and the other side, of what this side says
  abbrev IsHeard : ℕ → List ℕ → Type 0
  IsHeard l said = MayRead (steps_at p w (other side)) l → said ≡ drop (length (fed_to_other l)) (lent_bytes p.wire (config side p.terms) l own)

  -- of what this side said the other side may have heard a part
  pub was_heard : (l : ℕ) (lane : LinkBytes) → IsLane p w l lane → MayRead (steps_at p w (other side)) l → said_by side lane ≡ drop (length (fed_to_other l)) (lent_in p w side l)
  was_heard l lane is_lane may =
      subst (λ x. said_by x lane ≡ drop (length (fed_to_other l)) (lent_in p w x l)) (back_again side) (is_lane.unread (other side) may)

  lane_after : (l : ℕ) (lane new : LinkBytes) → IsLane p w l lane → new.opened ≡ lane.opened → Hears l (said_by (other side) new) → IsHeard l (said_by side new) → IsLane p after l new
  lane_after l lane new is_lane same hears heard = record {
    unread = both_sides (λ s. MayRead (steps_at p after s) l → said_by (other s) new ≡ unfed p after s l) side
        (subst (λ h. MayRead (steps (settings side p) h) l → said_by (other side) new ≡ drop (length (bytes_on l (byte_steps (settings side p) h))) (lent_in p after (other side) l))
        (sym (one_side w side ds).0)
        (λ may. hears may ∙ ap (drop (length (bytes_on l own))) (sym (lent_apart p w side ds l))))
        (subst (λ x. MayRead (steps_at p after (other side)) l
        → said_by x new ≡ drop (length (bytes_on l (byte_steps (settings (other side) p) (history (other side) after)))) (lent_in p after x l)) (sym (back_again side))
        (subst (λ h. MayRead (steps (settings (other side) p) h) l
        → said_by side new ≡ drop (length (bytes_on l (byte_steps (settings (other side) p) h))) (lent_in p after side l)) (sym (one_side w side ds).1)
        (λ may. heard may
        ∙ ap (λ h. drop (length (fed_to_other l)) (lent_bytes p.wire (config side p.terms) l (byte_steps (settings side p) h))) (sym (one_side w side ds).0))));
    was_opened = same ∙ is_lane.was_opened ∙ sym (names_after Client l);
  }

  -- Of one link something else is kept now, by what the side read and said there. On the others it neither read nor said anything.
  pub world_after : (l : ℕ) (lane new : LinkBytes) (now : List LinkBytes) → slice_get kept l ≡ Some lane → now ≡ slice_set kept l new → new.opened ≡ lane.opened
      → Hears l (said_by (other side) new) → IsHeard l (said_by side new)
      → ((j : ℕ) → MayRead (steps (settings side p) (ds ++ history side w)) j → MayRead (steps_at p w side) j)
      → ((j : ℕ) → (j ≡ l → ⊥) → bytes_on j own ≡ bytes_on j (byte_steps (settings side p) (history side w)))
      → ((j : ℕ) → (j ≡ l → ⊥) → lent_bytes p.wire (config side p.terms) j own ≡ lent_in p w side j)
      → IsWorldOf p actions after now
  world_after l lane new now at set same hears heard may_before fed lent = record {
    world = worlds_grow p w side was.world ds is_history joins;
    links = ap length set ∙ length-set kept l new ∙ was.links ∙ sym beyond.links;
    lanes = λ j x at_j. go j x (get_set kept l new j x (ap (λ xs. slice_get xs j) (sym set) ∙ at_j));
    opened_links = λ j on. omega (arith, was.opened_links j (sym (names_after Client j) ∙ on), beyond.links);
    accepted_links = λ j on. beyond.accepted j (was.accepted_links j (sym (names_after Server j) ∙ on));
    in_time = times_after p before actions w side ds was.in_time timely beyond.later;
  }
    where
      go : (j : ℕ) (x : LinkBytes) → ((j ≡ l) × (new ≡ x)) ⊎ ((j ≡ l → ⊥) × (slice_get kept j ≡ Some x)) → IsLane p after j x
      go j x (inl here) =
          subst (λ j. IsLane p after j x) (sym here.0) (subst (IsLane p after l) here.1 (lane_after l lane new (was.lanes l lane at) same hears heard))
      go j x (inr apart) =
          let is_lane = was.lanes j x apart.1 in
          lane_after j x x is_lane refl
          (λ may. is_lane.unread side (may_before j may) ∙ ap (λ xs. drop (length xs) (lent_in p w (other side) j)) (sym (fed j apart.0)))
          (λ may. was_heard j x is_lane may ∙ ap (drop (length (fed_to_other j))) (sym (lent j apart.0)))
