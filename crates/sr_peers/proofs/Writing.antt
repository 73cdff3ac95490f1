-- What a side that writes on its link makes of two peers.
use Rattle.std.proofs.Common.{inl, inr, ⊎_elim, ◌≡◌, ℕ, zero, suc, ◌≤◌, Bool, false, List, [], ◌∷◌, ◌++◌, length, map, drop, Option, Some, None, refl, sym, ap, ◌∙◌, subst, arith, append-nil, zero-le}
use Rattle.std.specs.Prelude.{slice_get, slice_set, option_map}
use Rattle.hd_facts.specs.Prefixes.{IsPrefix}
use Rattle.hd_delivery.specs.declared.vocabulary.Side.{Side}
use Rattle.hd_delivery.specs.Frames.{LinkFrame}
use Rattle.hd_delivery.specs.Histories as of
use Rattle.hd_delivery.specs.Histories.{Lent, present_link, was_on}
use Rattle.hd_delivery.specs.Due.{due, due_on}
use Rattle.hd_delivery.specs.Bytes.{Wire, ByteStep, Does, bytes_on, in_frames}
use Rattle.hd_delivery.specs.Following.{Follow, FollowUpTo}
use Rattle.hd_delivery.specs.Alone.{writing, lent_text}
use Rattle.hd_delivery.specs.AloneLaws.{FedIsLent}
use Rattle.hd_delivery.specs.Sides.{by, other, history}
use Rattle.hd_calls.specs.Peers.{PeerEvent, Settings, byte_steps, steps}
use Rattle.hd_calls.specs.PeerWorlds.{settings}
use Rattle.sr_script.specs.declared.action.Count.{Count}
use Rattle.sr_script.specs.declared.action.Action.TheVariants.{Write}
use Rattle.sr_script.specs.Script.{moment_after, most_of}
use Rattle.sr_peers.specs.declared.lane.LinkBytes.{LinkBytes}
use Rattle.sr_peers.specs.declared.peers.Peers.{Peers}
use Rattle.sr_peers.specs.Doings.{lifted, made, Writes}
use Rattle.sr_peers.specs.Told.{TellsAll}
use Rattle.sr_peers.specs.Grows.{lent_in}
use Rattle.sr_peers.specs.Laws.{LentGoesOn, WritesLend}
use Rattle.sr_peers.specs.Plays.{Plays, OfEach}
use Rattle.sr_peers.specs.Runs.{world_of}
use Rattle.sr_peers.specs.Follows.{WorksOn, MayRead, said_by}
use Rattle.sr_peers.specs.Works.{moves_bytes}
use Rattle.sr_peers.proofs.Joining.{others_join}
use Rattle.sr_peers.proofs.Saying.{follow_of}
use Rattle.sr_peers.proofs.Quiet.{quiet_moves, took_still}
use Rattle.sr_peers.proofs.Timely.{writes_in_time}
use Rattle.sr_peers.proofs.Around.{back_again, one_beyond, lanes_same}
use Rattle.sr_peers.proofs.Chains.{goes_none}
use Rattle.sr_peers.proofs.Steps.{history_of, made_by_moves, own_made}
use Rattle.sr_peers.proofs.Seats.{Seat}
use Rattle.sr_peers.proofs.Acting.{works_on_made}
use Rattle.sr_peers.proofs.Standing.{IsOn, HoldsOn, prefix_length, fed_there, was_heard, world_after}

-- without a link nothing is written
none_written : (most : Option ℕ) (wire : Wire) (c : of.Config) (h : List ByteStep) → None ≡ present_link (in_frames wire c h) → FollowUpTo most (writing wire c) h []
none_written None wire c h at = (tt, ap (λ o. option_map (λ f. Does (Lent f)) (due_on c (in_frames wire c h) o)) (sym at))
none_written (Some n) wire c h at = inr ((tt, ap (λ o. option_map (λ f. Does (Lent f)) (due_on c (in_frames wire c h) o)) (sym at)), zero-le)

pub writes_none : (side : Side) (seat : Seat side) → LentGoesOn → (x : Peers) → seat.Alike x x → (count : Count) → IsOn side seat None x
    → (report : List ℕ) → WorksOn x (Write side count) x report report false
writes_none side seat lent x alike count off report =
    works_on_made side seat lent x x alike refl report report (Write side count) (record { links = λ actions. refl; later = λ actions. refl }) false (λ p actions r follows.
    let t = settings side p in
    let h = history side (world_of r) in
    let plays = (seat.played p actions (world_of r) x follows.holds).plays in (
      record {
        moves = [];
        acts = ([], (([], (none_written (most_of count) t.wire t.config (byte_steps t h) (off t h plays), refl)), refl));
        keep = (tt, tt);
        timely = tt;
        goes = goes_none seat.hub t h (seat.at x) report plays;
        stay = lanes_same p _ x.lanes.items;
      },
      ap moves_bytes (sym (own_made side [])),
    ))

-- nothing of what is written is reported
one_silent : (t : Settings) (h : List PeerEvent) (ss : List ByteStep) (s : ByteStep) (o : Option LinkFrame) → option_map (λ f. Does (Lent f)) o ≡ Some s
    → TellsAll t h (lifted ss) [] → TellsAll t h (lifted (s ∷ ss)) []
one_silent t h ss s None e tells = absurd (cc)
one_silent t h ss s (Some f) e tells =
    let q : Does (Lent f) ≡ s = cc in
    subst (λ s. TellsAll t h (lifted (s ∷ ss)) []) q ([], [], (tells, refl, refl))

silent : (t : Settings) (h : List PeerEvent) (ss : List ByteStep) → Follow (writing t.wire t.config) (byte_steps t h) ss → TellsAll t h (lifted ss) []
silent t h [] f = refl
silent t h (s ∷ ss) f = one_silent t h ss s (due t.config (in_frames t.wire t.config (ss ++ byte_steps t h))) f.1 (silent t h ss f.0)

drop_more : {A : Type 0} (n : ℕ) (xs ys : List A) → n ≤ length xs → drop n xs ++ ys ≡ drop n (xs ++ ys)
drop_more zero xs ys few = refl
drop_more (suc n) [] ys few = absurd (omega (arith, few))
drop_more (suc n) (x ∷ xs) ys few = drop_more n xs ys (omega (arith, few))

-- the side wrote up to `most` frames, which came after what it had said on the link
abbrev pub WritesOn : (side : Side) (seat : Seat side) → Option ℕ → Peers → Peers → List ℕ → List ℕ → Bool → Type 0
WritesOn side seat most old new was now wrote = OfEach seat.hub (seat.at old) (λ t h. (ss : List ByteStep) × (FollowUpTo most (writing t.wire t.config) (byte_steps t h) ss
    × Plays seat.hub t (seat.at new) (lifted ss ++ h) × (now ≡ was ++ lent_text t.wire t.config (byte_steps t h) ss) × (wrote ≡ moves_bytes (lifted ss))))

pub writes : (side : Side) (seat : Seat side) → HoldsOn side seat → LentGoesOn → WritesLend → FedIsLent → (old new : Peers) → seat.Alike old new → new.now ≡ old.now
    → (link : ℕ) (count : Count) (most : Option ℕ) → most ≡ most_of count → (lane new_lane : LinkBytes) → IsOn side seat (Some link) old
    → slice_get old.lanes.items link ≡ Some lane → new.lanes.items ≡ slice_set old.lanes.items link new_lane → new_lane.opened ≡ lane.opened
    → said_by (other side) new_lane ≡ said_by (other side) lane → (wrote : Bool) → WritesOn side seat most old new (said_by side lane) (said_by side new_lane) wrote
    → (report : List ℕ) → WorksOn old (Write side count) new report report wrote
writes side seat holds_on lent lends fed_is_lent old new alike same_now link count most most_is lane new_lane on there set opened kept wrote did report p actions r follows turn =
    let t = settings side p in
    let w = world_of r in
    let h = history side w in
    let a = Write side count in
    let played = seat.played p actions w old follows.holds in
    let at = sym (on t h played.plays) in
    let done = did t h played.plays in
    let ss = done.0 in
    let ds : List PeerEvent = lifted ss in
    let up_to = subst (λ most. FollowUpTo most (writing t.wire t.config) (byte_steps t h) ss) most_is done.1.0 in
    let written : Writes t h (most_of count) ds = (ss, (up_to, refl)) in
    let need_none = lends.writes t h (most_of count) ds written in
    let is_history = history_of seat.hub t (seat.at new).peer (ds ++ h) done.1.1.stands in
    let quiet = quiet_moves t h ds need_none is_history in
    let timely = writes_in_time (moment_after actions) t h (most_of count) ds written in
    let is_world = follows.holds.is_world in
    let is_lane = is_world.lanes link lane there in
    let text = lent_text t.wire t.config (byte_steps t h) ss in
    let joins = others_join p w side ds need_none in
    let beyond = one_beyond a actions refl (omega arith) in
    let fed = bytes_on link (byte_steps (settings (other side) p) (history (other side) w)) in
    let within = prefix_length fed (lent_in p w side link)
    (subst (λ x. IsPrefix fed (lent_in p w x link)) (back_again side) (fed_there fed_is_lent p w is_world.world (other side) link)) in
    let may_before : (j : ℕ) → MayRead (steps t (ds ++ h)) j → MayRead (steps t h) j =
    (λ j may. ⊎_elim (λ here. inl (quiet.stands j here)) (λ never. inr (sym (quiet.names j) ∙ never)) may) in
    let is_made = made_by_moves p actions r a old new follows turn report report side ds [] (ds, (written, refl))
    (silent t h ss (follow_of (most_of count) (writing t.wire t.config) (byte_steps t h) ss up_to)) (sym (append-nil report))
    (holds_on p actions (a ∷ actions) w old new ds follows.holds
    (world_after p actions (a ∷ actions) w side ds old.lanes.items is_world is_history joins timely beyond quiet.names link lane new_lane new.lanes.items there set opened
    (λ may. kept ∙ is_lane.unread side (may_before link may) ∙ ap (λ xs. drop (length xs) (lent_in p w (other side) link)) (sym (quiet.bytes link)))
    (λ may. done.1.2
    ∙ ap (λ xs. xs ++ text) (was_heard p actions (a ∷ actions) w side ds old.lanes.items is_world is_history joins timely beyond quiet.names link lane is_lane may)
    ∙ drop_more (length fed) (lent_in p w side link) text within ∙ ap (drop (length fed)) (sym (lent.written t link h (most_of count) ss at up_to)))
    may_before (λ j apart. quiet.bytes j)
    (λ j apart. lent.stays t j h ds is_history
    (lends.elsewhere t h (most_of count) ds j written (λ here. apart (let both : Some link ≡ Some j = sym at ∙ here in let e : link ≡ j = cc in sym e)))))
    done.1.1 (took_still t h ds quiet played.took_all) alike (same_now ∙ follows.holds.now)) in
    (map (by side) (made ds), [], (is_made, done.1.3 ∙ ap moves_bytes (sym (own_made side ds))))
