-- What two peers make of a link that is opened or accepted.
use Rattle.std.proofs.Common.{inl, inr, ⊎_elim, ◌≡◌, ◌⊎◌, ℕ, zero, suc, ◌<◌, ◌≤◌, Bool, true, false, List, [], ◌∷◌, ◌++◌, length, map, drop, Contains, Option, Some, None, refl, sym, ap, ◌∙◌, subst, arith, length-append, append-nil}
use Rattle.std.specs.Prelude.{◌==◌, ◌||◌, slice_get}
use Rattle.std.proofs.lemmas.Bool.{eqb-true, eq-eqb}
use Rattle.std.proofs.lemmas.List.Elements.{Contains-append_right}
use Rattle.std.proofs.lemmas.Option.{slice_get_within}
use Rattle.hd_delivery.specs.declared.vocabulary.Side.{Side}
use Rattle.hd_delivery.specs.declared.vocabulary.Side.TheVariants.{Client, Server}
use Rattle.hd_delivery.specs.Histories as of
use Rattle.hd_delivery.specs.Histories.{EndEvent, Attached, present_link, was_on, fed_frames, taken_count}
use Rattle.hd_delivery.specs.Worlds.{Event, ByClient, ByServer, MayName, config, client_of, server_of}
use Rattle.hd_delivery.specs.Bytes.{Does, bytes_on, IsWorldOverBytes}
use Rattle.hd_delivery.specs.OneHistory.{IsHistory}
use Rattle.hd_delivery.specs.HistoryLaws.{UnusedIsUntouched}
use Rattle.hd_delivery.specs.AloneLaws.{UnusedIsEmpty}
use Rattle.hd_delivery.specs.Sides.{by, other, history}
use Rattle.hd_calls.specs.Peers.{PeerEvent, Plain, Settings, byte_steps, steps}
use Rattle.hd_calls.specs.PeerWorlds.{Pair, settings, ends}
use Rattle.sr_script.specs.declared.action.Action.{Action}
use Rattle.sr_script.specs.declared.action.Action.TheVariants.{Open, Accept}
use Rattle.sr_script.specs.Script.{opened, moment_after, IsInTurn, AreInTurn}
use Rattle.sr_peers.specs.declared.lane.LinkBytes.{LinkBytes}
use Rattle.sr_peers.specs.Grows.{lent_in}
use Rattle.sr_peers.specs.Laws.{LentGoesOn}
use Rattle.hub_calc.specs.Table.{calc_hub}
use Rattle.hub_calc.specs.Client.{client_hub}
use Rattle.sr_peers.specs.declared.peers.Peers.{Peers}
use Rattle.sr_peers.specs.Doings.{Doing, Makes, Refuses, IsTried, attaching, moves_of}
use Rattle.sr_peers.specs.Plays.{Plays, HasDone, OfEach}
use Rattle.sr_peers.specs.Runs.{Run, steps_at, world_of}
use Rattle.sr_peers.specs.Follows.{Follows, HasMoved, HasTakenAll, Holds, IsLane, IsLeft, IsPlayed, IsWorldOf, MayRead, said_by, unfed}
use Rattle.sr_peers.proofs.Joining.{one_side, worlds_grow}
use Rattle.sr_peers.proofs.Around.{GoBeyond, back_again, both_sides, lent_same, one_beyond, times_after}
use Rattle.sr_peers.proofs.Standing.{accepted_is_open}
use Rattle.sr_peers.proofs.Steps.{GoesOnBy, follows_more, goes_on_by_one, history_of}
use Rattle.sr_peers.proofs.Leaving.{was_there}

-- ---- which links there are

pub not_on : (b : Bool) → (b ≡ true → ⊥) → b ≡ false
not_on true never = absurd (never refl)
not_on false never = refl

or_rest : (a b : Bool) → a ≡ false → (a || b) ≡ b
or_rest true b e = absurd (cc)
or_rest false b e = refl

or_first : (a b : Bool) → a ≡ true → (a || b) ≡ true
or_first true b e = refl
or_first false b e = absurd (cc)

neither : (a b : Bool) → (a || b) ≡ false → b ≡ false
neither true b e = absurd (cc)
neither false b e = e

none_left : (n : ℕ) → drop {A = ℕ} n [] ≡ []
none_left zero = refl
none_left (suc n) = refl

drop_none : (n : ℕ) (xs : List ℕ) → xs ≡ [] → drop n xs ≡ []
drop_none n xs e = ap (drop n) e ∙ none_left n

-- a list with one more
get_last : {A : Type 0} (xs : List A) (x : A) (l : ℕ) (y : A) → slice_get (xs ++ x ∷ []) l ≡ Some y → (slice_get xs l ≡ Some y) ⊎ ((l ≡ length xs) × (x ≡ y))
get_last [] x zero y e = inr (refl, cc)
get_last [] x (suc l) y e = absurd (cc)
get_last (z ∷ xs) x zero y e = inl e
get_last (z ∷ xs) x (suc l) y e = up (get_last xs x l y e)
  where
    up : (slice_get xs l ≡ Some y) ⊎ ((l ≡ length xs) × (x ≡ y)) → (slice_get xs l ≡ Some y) ⊎ ((suc l ≡ suc (length xs)) × (x ≡ y))
    up (inl g) = inl g
    up (inr g) = inr (ap suc g.0, g.1)

is_first : (actions : List Action) (a : Action) → Contains (a ∷ actions) a
is_first actions a = (0, omega arith, refl)

-- by whether two numbers are one
by_same : (P : Type 0) (l k : ℕ) → (l ≡ k → P) → ((l ≡ k → ⊥) → P) → P
by_same P l k same apart = go (l == k) refl
  where
    go : (b : Bool) → (l == k) ≡ b → P
    go true e = same (eqb-true l k e)
    go false e = apart (λ f. let g = eq-eqb l k f in cc)

-- ---- a link that is taken

module _ (lent : LentGoesOn) (p : Pair) (before : List Action) (w : List (Event PeerEvent)) (side : Side) (link now : ℕ) (kept lanes : List LinkBytes)
    (was : IsWorldOf p before w kept) (new : was_on link (steps_at p w side) ≡ false)
    (is_history : IsHistory (p.limits side) p.wire (config side p.terms) (byte_steps (settings side p) (Plain (Does (Attached link now)) ∷ history side w)))
    (named : MayName side link (steps_at p w side) (steps_at p w (other side)))
    (left : Option ℕ) (left_is : left ≡ present_link (steps_at p w side)) (is_left : IsLeft side left kept lanes) where
  abbrev took : List PeerEvent
  took = Plain (Does (Attached link now)) ∷ []

  abbrev after : List (Event PeerEvent)
  after = map (by side) took ++ w

  own : steps_at p after side ≡ Attached link now ∷ steps_at p w side
  own = ap (steps (settings side p)) (one_side w side took).0

  others : steps_at p after (other side) ≡ steps_at p w (other side)
  others = ap (steps (settings (other side) p)) (one_side w side took).1

  pub names : (s : Side) (l : ℕ) → (s ≡ side → l ≡ link → ⊥) → was_on l (steps_at p after s) ≡ was_on l (steps_at p w s)
  names = both_sides (λ s. (l : ℕ) → (s ≡ side → l ≡ link → ⊥) → was_on l (steps_at p after s) ≡ was_on l (steps_at p w s)) side
      (λ l apart. ap (was_on l) own ∙ or_rest (l == link) (was_on l (steps_at p w side)) (not_on (l == link) (λ e. apart refl (eqb-true l link e))))
      (λ l apart. ap (was_on l) others)

  pub here : was_on link (steps_at p after side) ≡ true
  here = ap (was_on link) own ∙ or_first (link == link) (was_on link (steps_at p w side)) (eq-eqb link link refl)

  never_before : (l : ℕ) → MayRead (steps_at p after side) l → was_on l (steps_at p w side) ≡ false
  never_before l (inl at) =
      let is : Some link ≡ Some l = sym (ap present_link own) ∙ at in
      let e : link ≡ l = cc in
      subst (λ l. was_on l (steps_at p w side) ≡ false) e new
  never_before l (inr never) = neither (l == link) (was_on l (steps_at p w side)) (sym (ap (was_on l) own) ∙ never)

  same_bytes : (s : Side) (l : ℕ) → bytes_on l (byte_steps (settings s p) (history s after)) ≡ bytes_on l (byte_steps (settings s p) (history s w))
  same_bytes = both_sides (λ s. (l : ℕ) → bytes_on l (byte_steps (settings s p) (history s after)) ≡ bytes_on l (byte_steps (settings s p) (history s w))) side
      (λ l. ap (λ h. bytes_on l (byte_steps (settings side p) h)) (one_side w side took).0)
      (λ l. ap (λ h. bytes_on l (byte_steps (settings (other side) p) h)) (one_side w side took).1)

  pub still_lent : (s : Side) (l : ℕ) → lent_in p after s l ≡ lent_in p w s l
  still_lent = lent_same lent p w side took is_history tt

  same_unfed : (s : Side) (l : ℕ) → unfed p after s l ≡ unfed p w s l
  same_unfed s l =
      ap (λ xs. drop (length xs) (lent_in p after (other s) l)) (same_bytes s l)
      ∙ ap (λ xs. drop (length (bytes_on l (byte_steps (settings s p) (history s w)))) xs) (still_lent (other s) l)

  -- what is kept of each other link
  pub lanes_are : (l : ℕ) (lane : LinkBytes) → slice_get lanes l ≡ Some lane → (side ≡ Client → l ≡ link → ⊥) → IsLane p after l lane
  lanes_are l lane at apart =
      let w_lane = (is_left.each l lane at).0 in
      let has = (is_left.each l lane at).1.1 in
      let is_lane = was.lanes l w_lane (is_left.each l lane at).1.0 in record {
        unread = both_sides (λ s. MayRead (steps_at p after s) l → said_by (other s) lane ≡ unfed p after s l) side
            (λ may.
            let never = never_before l may in
            has.heard (λ e. let on = was_there (steps_at p w side) l (sym left_is ∙ e) in cc) ∙ is_lane.unread side (inr never) ∙ sym (same_unfed side l))
            (λ may.
            subst (λ x. said_by x lane ≡ said_by x w_lane) (sym (back_again side)) has.said
            ∙ is_lane.unread (other side) (subst (λ k. MayRead k l) others may) ∙ sym (same_unfed (other side) l));
        was_opened = has.opened ∙ is_lane.was_opened ∙ sym (names Client l (λ e. apart (sym e)));
      }

  pub world_after : IsWorldOverBytes p.limits p.wire p.terms (ends p after)
  world_after = worlds_grow p w side was.world took is_history (tt, named)

-- ---- the server accepts

module _ (lent : LentGoesOn) (p : Pair) (before : List Action) (w : List (Event PeerEvent)) (link : ℕ) (kept lanes : List LinkBytes) (was : IsWorldOf p before w kept)
    (turns : AreInTurn before) (unaccepted : Contains before (Accept link) → ⊥) where
  pub server_new : was_on link (steps_at p w Server) ≡ false
  server_new = not_on (was_on link (steps_at p w Server)) (λ on. unaccepted (was.accepted_links link on))

  -- the link is taken
  pub accepted_world : (now : ℕ) → now ≤ moment_after before → was_on link (steps_at p w Client) ≡ true
      → IsHistory (p.limits Server) p.wire (config Server p.terms) (byte_steps (settings Server p) (Plain (Does (Attached link now)) ∷ history Server w))
      → (left : Option ℕ) → left ≡ present_link (steps_at p w Server) → IsLeft Server left kept lanes
      → IsWorldOf p (Accept link ∷ before) (ByServer (Plain (Does (Attached link now))) ∷ w) lanes
  accepted_world now early was_opened is_history left left_is is_left =
      let names_of = names lent p before w Server link now kept lanes was server_new is_history was_opened left left_is is_left in record {
        world = world_after lent p before w Server link now kept lanes was server_new is_history was_opened left left_is is_left;
        links = is_left.many ∙ was.links;
        lanes = λ l lane at. lanes_are lent p before w Server link now kept lanes was server_new is_history was_opened left left_is is_left l lane at (λ e f. absurd (cc));
        opened_links = λ l on. was.opened_links l on;
        accepted_links = λ l on. by_same (Contains (Accept link ∷ before) (Accept l)) l link (λ e. subst (λ k. Contains (Accept link ∷ before) (Accept k)) (sym e) (is_first before (Accept link)))
            (λ apart. Contains-append_right (Accept link ∷ []) before (Accept l) (was.accepted_links l (sym (names_of Server l (λ e f. apart f)) ∙ on)));
        in_time = times_after p before before w Server (Plain (Does (Attached link now)) ∷ []) was.in_time (tt, early) (omega arith);
      }

-- a world that stands for more actions
pub same_world : (p : Pair) (before actions : List Action) (w : List (Event PeerEvent)) (kept : List LinkBytes) → GoBeyond before actions → IsWorldOf p before w kept → IsWorldOf p actions w kept
same_world p before actions w kept beyond was = record {
  world = was.world;
  links = was.links ∙ sym beyond.links;
  lanes = was.lanes;
  opened_links = λ l on. omega (arith, was.opened_links l on, beyond.links);
  accepted_links = λ l on. beyond.accepted l (was.accepted_links l on);
  in_time = λ s. omega (arith, was.in_time s, beyond.later);
}

-- ---- the client opens

module _ (empty : UnusedIsEmpty) (lent : LentGoesOn) (p : Pair) (before : List Action) (w : List (Event PeerEvent)) (kept lanes : List LinkBytes) (was : IsWorldOf p before w kept)
    (turns : AreInTurn before) where
  abbrev link : ℕ
  link = opened before

  pub client_new : was_on link (steps_at p w Client) ≡ false
  client_new = not_on (was_on link (steps_at p w Client)) (λ on. omega (arith, was.opened_links link on))

  unaccepted : was_on link (steps_at p w Server) ≡ false
  unaccepted = not_on (was_on link (steps_at p w Server)) (λ on. omega (arith, accepted_is_open before link turns (was.accepted_links link on)))

  nothing_lent : (s : Side) → lent_in p w s link ≡ []
  nothing_lent Client = (empty p.wire (config Client p.terms) (byte_steps (settings Client p) (history Client w)) link client_new).0
  nothing_lent Server = (empty p.wire (config Server p.terms) (byte_steps (settings Server p) (history Server w)) link unaccepted).0

  -- a lane on which nothing was said
  abbrev new_lane : Bool → LinkBytes → Type 0
  new_lane taken lane = (lane.to_server.items ≡ []) × (lane.to_client.items ≡ []) × (lane.opened ≡ taken)

  nothing_said : (taken : Bool) (lane : LinkBytes) → new_lane taken lane → (s : Side) → said_by s lane ≡ []
  nothing_said taken lane is Client = is.0
  nothing_said taken lane is Server = is.1

  -- the link is taken
  pub opened_world : (now : ℕ) (lane : LinkBytes) → new_lane true lane → now ≤ moment_after before
      → IsHistory (p.limits Client) p.wire (config Client p.terms) (byte_steps (settings Client p) (Plain (Does (Attached link now)) ∷ history Client w))
      → (left : Option ℕ) → left ≡ present_link (steps_at p w Client) → IsLeft Client left kept lanes
      → IsWorldOf p (Open ∷ before) (ByClient (Plain (Does (Attached link now))) ∷ w) (lanes ++ lane ∷ [])
  opened_world now lane is early is_history left left_is is_left =
      let names_of = names lent p before w Client link now kept lanes was client_new is_history was.opened_links left left_is is_left in
      let many = is_left.many in
      let links = was.links in record {
        world = world_after lent p before w Client link now kept lanes was client_new is_history was.opened_links left left_is is_left;
        links = omega (arith, length-append lanes (lane ∷ []), many, links);
        lanes = λ l y at. ⊎_elim
            (λ old. lanes_are lent p before w Client link now kept lanes was client_new is_history was.opened_links left left_is is_left l y old
            (λ e f. omega (arith, f, slice_get_within lanes l y old, many, links)))
            (λ last. subst (λ k. IsLane p (ByClient (Plain (Does (Attached link now))) ∷ w) k y) (sym (last.0 ∙ many ∙ links))
            (subst (λ x. IsLane p (ByClient (Plain (Does (Attached link now))) ∷ w) link x) last.1 (record {
              unread = λ s may. nothing_said true lane is (other s) ∙ sym (drop_none _ (lent_in p (ByClient (Plain (Does (Attached link now))) ∷ w) (other s) link)
                  (still_lent lent p before w Client link now kept lanes was client_new is_history was.opened_links left left_is is_left (other s) link ∙ nothing_lent (other s)));
              was_opened = is.2 ∙ sym (here lent p before w Client link now kept lanes was client_new is_history was.opened_links left left_is is_left);
            })))
            (get_last lanes lane l y at);
        opened_links = λ l on. by_same (l < suc link) l link (λ e. omega (arith, e)) (λ apart. omega (arith, was.opened_links l (sym (names_of Client l (λ e f. apart f)) ∙ on)));
        accepted_links = λ l on. Contains-append_right (Open ∷ []) before (Accept l) (was.accepted_links l on);
        in_time = times_after p before before w Client (Plain (Does (Attached link now)) ∷ []) was.in_time (tt, early) (omega arith);
      }

  -- the link is refused
  pub unopened_world : (lane : LinkBytes) → new_lane false lane → IsWorldOf p (Open ∷ before) w (kept ++ lane ∷ [])
  unopened_world lane is =
      let links = was.links in record {
        world = was.world;
        links = omega (arith, length-append kept (lane ∷ []), links);
        lanes = λ l y at. ⊎_elim
            (λ old. was.lanes l y old)
            (λ last. subst (λ k. IsLane p w k y) (sym (last.0 ∙ links)) (subst (λ x. IsLane p w link x) last.1 (record {
              unread = λ s may. nothing_said false lane is (other s) ∙ sym (drop_none _ (lent_in p w (other s) link) (nothing_lent (other s)));
              was_opened = is.2 ∙ sym client_new;
            })))
            (get_last kept lane l y at);
        opened_links = λ l on. omega (arith, was.opened_links l on);
        accepted_links = λ l on. Contains-append_right (Open ∷ []) before (Accept l) (was.accepted_links l on);
        in_time = was.in_time;
      }

-- ---- the peers

-- of a link that is taken or refused
abbrev pub by_tries : (P : Doing → Type 0) (t : Settings) (h : List PeerEvent) (link now : ℕ) (taken : Bool) → IsTried t h link now taken
    → (taken ≡ true → P (Makes (Plain (Does (Attached link now))))) → ((words : List ℕ) → taken ≡ false → P (Refuses words)) → P (attaching t h link now)
by_tries P t h l now true tried f g = subst P (sym tried) (f refl)
by_tries P t h l now false tried f g = subst P (sym tried.1) (g tried.0 refl)

-- on a new link nothing is to be taken
new_taken : UnusedIsUntouched → (t : Settings) (h : List PeerEvent) (link now : ℕ) → was_on link (steps t h) ≡ false → HasTakenAll t (Plain (Does (Attached link now)) ∷ h)
new_taken untouched t h link now new live l at =
    let e : link ≡ l = cc in
    subst (λ l. slice_get (fed_frames l (steps t h)) (taken_count l (steps t h)) ≡ None) e (ap (λ fs. slice_get fs (taken_count link (steps t h))) (untouched (steps t h) link new).fed)

module _ (untouched : UnusedIsUntouched) (lent : LentGoesOn) (p : Pair) (actions : List Action) (r : Run) (old : Peers) (follows : Follows p actions r old) where
  abbrev w : List (Event PeerEvent)
  w = world_of r

  -- the server accepts a link on which the client stood
  pub server_attaches : (new : Peers) (link : ℕ) (taken : Bool) (before after : List ℕ) → IsInTurn actions (Accept link) → was_on link (steps_at p w Client) ≡ true
      → new.client ≡ old.client → new.now ≡ old.now
      → OfEach calc_hub old.server (λ t h. was_on link (steps t h) ≡ false → of.moment (steps t h) ≤ old.now
      → IsTried t h link old.now taken × HasDone calc_hub t h new.server before after (attaching t h link old.now))
      → HasMoved calc_hub Server old.server old.lanes.items new.lanes.items taken → GoesOnBy p actions r (Accept link) new before after
  server_attaches new link taken before after turn was_opened same_client same_now tries moved =
      let t = settings Server p in
      let h = server_of w in
      let holds = follows.holds in
      let is_world = holds.is_world in
      let unused = server_new lent p actions w link old.lanes.items new.lanes.items is_world follows.turns turn.1 in
      let tried = tries t h holds.server.plays unused (omega (arith, is_world.in_time Server, holds.now)) in
      let did = attaching t h link old.now in
      let is_now : new.now ≡ moment_after actions = same_now ∙ holds.now in
      let kept_client : IsPlayed client_hub (settings Client p) new.client (client_of w) = subst (λ x. IsPlayed client_hub (settings Client p) x (client_of w)) (sym same_client) holds.client in
      goes_on_by_one p actions r (Accept link) old new follows turn before after Server did tried.1.text
      (rw was_opened (ap (λ now. ByServer (attaching t h link now) ∷ []) holds.now)) tried.1.tells tried.1.appended
      (by_tries (λ did. Plays calc_hub t new.server (moves_of (did ∷ []) ++ h) → Holds p (Accept link ∷ actions) (map (by Server) (moves_of (did ∷ [])) ++ w) new) t h link old.now taken tried.0
      (λ e plays. record {
        is_world = accepted_world lent p actions w link old.lanes.items new.lanes.items is_world follows.turns turn.1 old.now (omega (arith, holds.now)) was_opened
            (history_of calc_hub t new.server.peer (Plain (Does (Attached link old.now)) ∷ h) plays.stands) moved.link (moved.link_is t h holds.server.plays) (moved.left e);
        client = kept_client;
        server = record { plays = plays; took_all = new_taken untouched t h link old.now unused };
        now = is_now;
      })
      (λ words e plays. record {
        is_world = subst (λ lanes. IsWorldOf p (Accept link ∷ actions) w lanes) (sym (moved.kept e))
            (same_world p actions (Accept link ∷ actions) w old.lanes.items (one_beyond (Accept link) actions refl (omega arith)) is_world);
        client = kept_client;
        server = record { plays = plays; took_all = holds.server.took_all };
        now = is_now;
      }) tried.1.plays)

  -- it does nothing about a link that the client refused
  pub server_passes : (link : ℕ) (report : List ℕ) → IsInTurn actions (Accept link) → was_on link (steps_at p w Client) ≡ false → GoesOnBy p actions r (Accept link) old report report
  server_passes link report turn never = (
    [],
    [],
    (
      rw never refl,
      follows_more p actions r [] (Accept link) old old follows turn (rw never refl) (record {
        is_world = same_world p actions (Accept link ∷ actions) w old.lanes.items (one_beyond (Accept link) actions refl (omega arith)) follows.holds.is_world;
        client = follows.holds.client;
        server = follows.holds.server;
        now = follows.holds.now;
      }),
      refl,
      sym (append-nil report),
    ),
  )

  -- the client opens a link, of which a lane is kept
  pub client_attaches : UnusedIsEmpty → (new : Peers) (lanes : List LinkBytes) (lane : LinkBytes) (link : ℕ) (taken : Bool) (before after : List ℕ) → IsInTurn actions Open → link ≡ opened actions
      → (lane.to_server.items ≡ []) × (lane.to_client.items ≡ []) × (lane.opened ≡ taken) → new.lanes.items ≡ lanes ++ lane ∷ []
      → new.server ≡ old.server → new.now ≡ old.now
      → OfEach client_hub old.client (λ t h. was_on link (steps t h) ≡ false → of.moment (steps t h) ≤ old.now
      → IsTried t h link old.now taken × HasDone client_hub t h new.client before after (attaching t h link old.now))
      → HasMoved client_hub Client old.client old.lanes.items lanes taken → GoesOnBy p actions r Open new before after
  client_attaches empty new lanes lane link taken before after turn is_link is_lane grown same_server same_now tries moved =
      let t = settings Client p in
      let h = client_of w in
      let holds = follows.holds in
      let is_world = holds.is_world in
      let unused_link = client_new empty lent p actions w old.lanes.items lanes is_world follows.turns in
      let unused : was_on link (steps t h) ≡ false = subst (λ l. was_on l (steps t h) ≡ false) (sym is_link) unused_link in
      let tried = tries t h holds.client.plays unused (omega (arith, is_world.in_time Client, holds.now)) in
      let did = attaching t h link old.now in
      let is_now : new.now ≡ moment_after actions = same_now ∙ holds.now in
      let kept_server : IsPlayed calc_hub (settings Server p) new.server (server_of w) = subst (λ x. IsPlayed calc_hub (settings Server p) x (server_of w)) (sym same_server) holds.server in
      goes_on_by_one p actions r Open old new follows turn before after Client did tried.1.text
      (ap (λ l. ByClient (attaching t h l old.now) ∷ []) is_link ∙ ap (λ now. ByClient (attaching t h (opened actions) now) ∷ []) holds.now) tried.1.tells tried.1.appended
      (by_tries (λ did. Plays client_hub t new.client (moves_of (did ∷ []) ++ h) → Holds p (Open ∷ actions) (map (by Client) (moves_of (did ∷ [])) ++ w) new) t h link old.now taken tried.0
      (λ e plays. record {
        is_world = subst (λ all. IsWorldOf p (Open ∷ actions) (ByClient (Plain (Does (Attached link old.now))) ∷ w) all) (sym grown)
            (subst (λ l. IsWorldOf p (Open ∷ actions) (ByClient (Plain (Does (Attached l old.now))) ∷ w) (lanes ++ lane ∷ [])) (sym is_link)
            (opened_world empty lent p actions w old.lanes.items lanes is_world follows.turns old.now lane (is_lane.0, is_lane.1, is_lane.2 ∙ e) (omega (arith, holds.now))
            (subst (λ l. IsHistory (p.limits Client) p.wire (config Client p.terms) (byte_steps t (Plain (Does (Attached l old.now)) ∷ h))) is_link
            (history_of client_hub t new.client.peer (Plain (Does (Attached link old.now)) ∷ h) plays.stands)) moved.link (moved.link_is t h holds.client.plays) (moved.left e)));
        client = record { plays = plays; took_all = new_taken untouched t h link old.now unused };
        server = kept_server;
        now = is_now;
      })
      (λ words e plays. record {
        is_world = subst (λ all. IsWorldOf p (Open ∷ actions) w all) (sym (grown ∙ ap (λ xs. xs ++ lane ∷ []) (moved.kept e)))
            (unopened_world empty lent p actions w old.lanes.items lanes is_world follows.turns lane (is_lane.0, is_lane.1, is_lane.2 ∙ e));
        client = record { plays = plays; took_all = holds.client.took_all };
        server = kept_server;
        now = is_now;
      }) tried.1.plays)
