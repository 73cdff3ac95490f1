-- What a side that reads on its link makes of two peers.
use Rattle.std.proofs.Common.{min, length-append, inl, inr, ⊎_elim, ◌≡◌, ℕ, zero, suc, ◌+◌, ◌≤◌, Bool, true, false, List, [], ◌∷◌, ◌++◌, length, map, take, drop, Option, Some, None, refl, sym, ap, ◌∙◌, subst, arith, append-nil, append_assoc, take-append-drop, if◌then◌else◌}
use Rattle.std.specs.Prelude.{slice_get, slice_set, option_map, ◌==◌}
use Rattle.std.proofs.lemmas.Bool.{eqb-true}
use Rattle.std.proofs.lemmas.List.{drop-take, drop-drop, length-take, take_all, take_min}
use Rattle.hd_facts.specs.Prefixes.{IsPrefix}
use Rattle.hd_delivery.specs.declared.vocabulary.Reason.{Reason}
use Rattle.hd_delivery.specs.declared.vocabulary.Side.{Side}
use Rattle.hd_delivery.specs.Histories as of
use Rattle.hd_delivery.specs.Histories.{EndEvent, Took, Failed, is_this, present_link, was_on, fed_frames, taken_count, is_shaken, is_closed}
use Rattle.hd_delivery.specs.Processes.{processes, next_frame, next_number, reads}
use Rattle.hd_delivery.specs.Bytes.{ByteStep, Bytes, Does, bare_steps, bytes_on, in_frames, lent_bytes}
use Rattle.hd_delivery.specs.Laws.{FedIsUnseen}
use Rattle.hd_delivery.specs.Alone.{IsOfFrame}
use Rattle.hd_delivery.specs.AloneLaws.{FedIsLent, FramesAreTaken}
use Rattle.hd_delivery.specs.Sides.{by, other, history}
use Rattle.hd_calls.specs.Peers.{PeerEvent, Plain, Reads, Handles, Loses, Settings, add, byte_steps, steps, is_shut, reason_of, shuts}
use Rattle.hd_calls.specs.PeerWorlds.{settings}
use Rattle.sr_script.specs.declared.action.Count.{Count}
use Rattle.sr_script.specs.declared.action.Count.TheVariants.{UpTo, Everything}
use Rattle.sr_script.specs.declared.action.Action.TheVariants.{Read}
use Rattle.sr_script.specs.Script.{moment_after}
use Rattle.sr_peers.specs.declared.lane.LinkBytes.{LinkBytes}
use Rattle.sr_peers.specs.declared.peers.Peers.{Peers}
use Rattle.sr_peers.specs.Doings.{Chain, Losing, ReadsTo, made}
use Rattle.sr_peers.specs.Doings as did
use Rattle.sr_peers.specs.Grows.{lent_in}
use Rattle.sr_peers.specs.Laws.{LentGoesOn, WritesLend}
use Rattle.sr_peers.specs.Plays.{Goes, OfEach}
use Rattle.sr_peers.specs.Runs.{ReadsOn, read_in_all, world_of}
use Rattle.sr_peers.specs.Follows.{WorksOn, HasTakenAll, MayRead, said_by}
use Rattle.sr_peers.specs.Works.{moves_bytes}
use Rattle.sr_peers.proofs.Hearing.{reads_join}
use Rattle.sr_peers.proofs.Timely.{reads_in_time}
use Rattle.sr_peers.proofs.Around.{one_beyond, lanes_same}
use Rattle.sr_peers.proofs.Chains.{goes_none}
use Rattle.sr_peers.proofs.Steps.{history_of, made_by_moves, own_made}
use Rattle.sr_peers.proofs.Seats.{Seat}
use Rattle.sr_peers.proofs.Acting.{works_on_made}
use Rattle.sr_peers.proofs.Standing.{IsOn, HoldsOn, prefix_length, fed_there, was_heard, world_after}

-- ---- the link of an end that reads

not_on : (b : Bool) → (b ≡ true → ⊥) → b ≡ false
not_on true never = absurd (never refl)
not_on false never = refl

-- a number that stands there is no other
not_this : (j l : ℕ) (o : Option ℕ) → o ≡ Some l → (j ≡ l → ⊥) → is_this j o ≡ false
not_this j l None e apart = refl
not_this j l (Some k) e apart = not_on (j == k) (λ same. apart (let q : k ≡ l = cc in eqb-true j k same ∙ q))

module _ (unseen : FedIsUnseen) (taken : FramesAreTaken) (t : Settings) (l now : ℕ) (bytes : List ℕ) where
  -- after more steps the end stands on the link where it stood, and was fed nothing on others
  pub record StaysOn (before after : List ByteStep) : Type 0 where
    pub at : present_link (in_frames t.wire t.config after) ≡ Some l
    pub names : (j : ℕ) → was_on j (in_frames t.wire t.config after) ≡ was_on j (in_frames t.wire t.config before)
    pub elsewhere : (j : ℕ) → (j ≡ l → ⊥) → bytes_on j after ≡ bytes_on j before

  closed : (x y : List ByteStep) (shut : Bool) (o : Option Reason) → StaysOn x y → StaysOn x (add (shuts shut o) y)
  closed x y false (Some why) r = record { at = r.at; names = r.names; elsewhere = r.elsewhere }
  closed x y false None r = r
  closed x y true o r = r

  took : (x y : List ByteStep) (s : EndEvent) → IsOfFrame (is_shaken (in_frames t.wire t.config y)) s → StaysOn x y → StaysOn x (Does s ∷ y)
  took x y (Took got) is r = record { at = r.at; names = r.names; elsewhere = r.elsewhere }
  took x y (Failed fault) is r = record { at = r.at; names = r.names; elsewhere = r.elsewhere }
  took x y s is r = absurd is

  fed : (x y : List ByteStep) (piece : List ℕ) → StaysOn x y → StaysOn x (Bytes piece ∷ y)
  fed x y piece r = record {
    at = r.at;
    names = r.names;
    elsewhere = λ j apart. ap (λ b. if b then bytes_on j y ++ piece else bytes_on j y)
        (not_this j l (present_link (bare_steps y)) (sym (unseen t.wire t.config y).link ∙ r.at) apart) ∙ r.elsewhere j apart;
  }

  one : (x : List ByteStep) (k : List PeerEvent) (d : PeerEvent) → did.Reading t now bytes k (Some d) → StaysOn x (byte_steps t k) → StaysOn x (byte_steps t (d ∷ k))
  one x k (Plain (Bytes piece)) next r = fed x (byte_steps t k) piece r
  one x k (Plain (Does s)) next r = took x (byte_steps t k) s (taken t.config (steps t k) s next.2) r
  one x k (Reads m) next r = record { at = r.at; names = r.names; elsewhere = r.elsewhere }
  one x k (Handles m e) next r = closed x (byte_steps t k) (is_shut t k) (reason_of e) r
  one x k d next r = absurd next

  all : (h ds : List PeerEvent) → present_link (steps t h) ≡ Some l → Chain (did.Reading t now bytes) h ds → StaysOn (byte_steps t h) (byte_steps t (ds ++ h))
  all h [] at f = record { at = at; names = λ j. refl; elsewhere = λ j apart. refl }
  all h (d ∷ ds) at f = one (byte_steps t h) (ds ++ h) d f.1 (all h ds at f.0)

-- calls that are gone make no step
gone_same : (t : Settings) (k gone : List PeerEvent) → Chain (Losing t) k gone → byte_steps t (gone ++ k) ≡ byte_steps t k
gone_same t k [] f = refl
gone_same t k (Loses n ∷ gone) f = gone_same t k gone f.0
gone_same t k (d ∷ gone) f = absurd f.1

-- ---- frames that were taken

some_none : {A B : Type 0} (f : A → B) (o : Option A) → option_map f o ≡ None → o ≡ None
some_none f None e = refl
some_none f (Some x) e = absurd (cc)

-- an end that isn't closed and processes nothing has taken every frame of its link
took_all : (c : of.Config) (k : List EndEvent) → processes c k ≡ None → is_closed c k ≡ false → (l : ℕ) → present_link k ≡ Some l
    → slice_get (fed_frames l k) (taken_count l k) ≡ None
took_all c k e live l at =
    some_none (reads c k (next_number c k l)) (slice_get (fed_frames l k) (taken_count l k))
    (ap (next_frame c k) (sym at) ∙ ap (λ b. if b then None else next_frame c k (present_link k)) (sym live) ∙ e)

-- and the other way round
processes_none : (t : Settings) (h : List PeerEvent) → HasTakenAll t h → processes t.config (steps t h) ≡ None
processes_none t h took = open_end (is_shut t h) refl
  where
    on_link : (o : Option ℕ) → present_link (steps t h) ≡ o → is_shut t h ≡ false → next_frame t.config (steps t h) o ≡ None
    on_link None at live = refl
    on_link (Some l) at live = ap (option_map (reads t.config (steps t h) (next_number t.config (steps t h) l))) (took live l at)

    open_end : (b : Bool) → is_shut t h ≡ b → (if b then None else next_frame t.config (steps t h) (present_link (steps t h))) ≡ None
    open_end true e = refl
    open_end false e = on_link (present_link (steps t h)) refl e

-- ---- what is to be read

-- it is a first part of what was said, and goes on after what was read
take_on : (xs rest : List ℕ) (n : ℕ) → take (length xs + n) (xs ++ rest) ≡ xs ++ take n rest
take_on [] rest n = let e : zero + n ≡ n = omega arith in ap (λ m. take m rest) e
take_on (x ∷ xs) rest n = let e : suc (length xs) + n ≡ suc (length xs + n) = omega arith in ap (λ m. take m (x ∷ xs ++ rest)) e ∙ ap (λ ys. x ∷ ys) (take_on xs rest n)

read_before : (count : Count) (before said : List ℕ) → IsPrefix before said → IsPrefix before (read_in_all count (length before) said)
read_before Everything before said p = p
read_before (UpTo n) before said p = (take n p.0, sym (take_on before p.0 n) ∙ ap (take (length before + n)) p.1)

is_said : (count : Count) (before : ℕ) (said : List ℕ) → IsPrefix (read_in_all count before said) said
is_said Everything before said = ([], append-nil said)
is_said (UpTo n) before said = (drop (before + n) said, take-append-drop (before + n) said)

-- ---- the side

pub reads_none : (side : Side) (seat : Seat side) → LentGoesOn → (x : Peers) → seat.Alike x x → (count : Count) → IsOn side seat None x
    → (report : List ℕ) → WorksOn x (Read side count) x report report false
reads_none side seat lent x alike count off report =
    works_on_made side seat lent x x alike refl report report (Read side count) (record { links = λ actions. refl; later = λ actions. refl }) false (λ p actions r follows.
    let t = settings side p in
    let h = history side (world_of r) in
    let plays = (seat.played p actions (world_of r) x follows.holds).plays in (
      record {
        moves = [];
        acts = subst (λ o. ReadsOn p r (moment_after actions) side count o []) (off t h plays) refl;
        keep = (tt, tt);
        timely = tt;
        goes = goes_none seat.hub t h (seat.at x) report plays;
        stay = lanes_same p _ x.lanes.items;
      },
      ap moves_bytes (sym (own_made side [])),
    ))

-- of what was said on its link and wasn't read the side read as much, and the rest is left
abbrev pub ReadsFrom : (side : Side) (seat : Seat side) → ℕ → Count → Peers → Peers → List ℕ → List ℕ → List ℕ → List ℕ → Bool → Type 0
ReadsFrom side seat now count old new before after was left has_read = OfEach seat.hub (seat.at old) (λ t h. (l : ℕ) (lent : List ℕ) → present_link (steps t h) ≡ Some l
    → length (bytes_on l (byte_steps t h)) ≤ length lent → was ≡ drop (length (bytes_on l (byte_steps t h))) lent → processes t.config (steps t h) ≡ None
    → (ds : List PeerEvent) × (ReadsTo t h now (read_in_all count (length (bytes_on l (byte_steps t h))) lent) ds
    × Goes seat.hub t h (seat.at new) before after ds
    × (left ≡ drop (length (bytes_on l (byte_steps t (ds ++ h)))) lent)
    × (has_read ≡ moves_bytes ds)))

module _ (unseen : FedIsUnseen) (taken : FramesAreTaken) (fed_is_lent : FedIsLent) (lends : WritesLend) where
  -- the end stays on its link, and has taken what came
  record HasRead (t : Settings) (h ds : List PeerEvent) (l : ℕ) : Type 0 where
    at : present_link (steps t (ds ++ h)) ≡ Some l
    names : (j : ℕ) → was_on j (steps t (ds ++ h)) ≡ was_on j (steps t h)
    elsewhere : (j : ℕ) → (j ≡ l → ⊥) → bytes_on j (byte_steps t (ds ++ h)) ≡ bytes_on j (byte_steps t h)
    took : HasTakenAll t (ds ++ h)

  has_read : (t : Settings) (h ds : List PeerEvent) (l now : ℕ) (bytes : List ℕ) → present_link (steps t h) ≡ Some l → ReadsTo t h now bytes ds → HasRead t h ds l
  has_read t h ds l now bytes at f =
      let read = f.0 in
      let gone = f.1.1.0 in
      let chain = f.1.0.0 in
      let stays = all unseen taken t l now bytes h read at chain in
      let same : byte_steps t (read ++ h) ≡ byte_steps t (ds ++ h) =
      sym (gone_same t (read ++ h) gone f.1.1.1.0.0) ∙ ap (byte_steps t) (sym (append_assoc gone read h) ∙ ap (λ xs. xs ++ h) (sym f.1.1.1.1)) in
      let none = subst (λ x. processes t.config (in_frames t.wire t.config x) ≡ None) same f.1.0.1.0.1 in
      let there = subst (StaysOn unseen taken t l now bytes (byte_steps t h)) same stays in record {
        at = there.at;
        names = there.names;
        elsewhere = there.elsewhere;
        took = took_all t.config (steps t (ds ++ h)) none;
      }

  pub reads_on : (side : Side) (seat : Seat side) → HoldsOn side seat → LentGoesOn → (old new : Peers) → seat.Alike old new → new.now ≡ old.now
      → (link : ℕ) (count : Count) (lane new_lane : LinkBytes) → IsOn side seat (Some link) old
      → slice_get old.lanes.items link ≡ Some lane → new.lanes.items ≡ slice_set old.lanes.items link new_lane → new_lane.opened ≡ lane.opened
      → said_by side new_lane ≡ said_by side lane → (before after : List ℕ) (worked : Bool)
      → ReadsFrom side seat old.now count old new before after (said_by (other side) lane) (said_by (other side) new_lane) worked
      → WorksOn old (Read side count) new before after worked
  reads_on side seat holds_on lent old new alike same_now link count lane new_lane on there set opened kept before after worked did p actions r follows turn =
      let t = settings side p in
      let w = world_of r in
      let h = history side w in
      let a = Read side count in
      let played = seat.played p actions w old follows.holds in
      let at = sym (on t h played.plays) in
      let is_world = follows.holds.is_world in
      let is_lane = is_world.lanes link lane there in
      let said = lent_in p w (other side) link in
      let fed = bytes_on link (byte_steps t h) in
      let front = fed_there fed_is_lent p w is_world.world side link in
      let done = did t h played.plays link said at (prefix_length fed said front) (is_lane.unread side (inl at)) (processes_none t h played.took_all) in
      let ds = done.0 in
      let goes = done.1.1 in
      let bytes = read_in_all count (length fed) said in
      let read = subst (λ now. ReadsTo t h now bytes ds) follows.holds.now done.1.0 in
      let has = has_read t h ds link (moment_after actions) bytes at read in
      let is_history = history_of seat.hub t (seat.at new).peer (ds ++ h) goes.plays.stands in
      let joins = reads_join unseen taken p w side link (moment_after actions) bytes (is_said count (length fed) said) at (read_before count fed said front) ds read in
      let timely = reads_in_time (moment_after actions) taken t (moment_after actions) bytes h ds read in
      let beyond = one_beyond a actions refl (omega arith) in
      let none_lent = lends.reads t h (moment_after actions) bytes ds read in
      let same_lent : (j : ℕ) → lent_bytes t.wire t.config j (byte_steps t (ds ++ h)) ≡ lent_in p w side j = (λ j. lent.stays t j h ds is_history (lends.nowhere t j h ds none_lent)) in
      let may_before : (j : ℕ) → MayRead (steps t (ds ++ h)) j → MayRead (steps t h) j =
      (λ j may. ⊎_elim (λ here. inl (at ∙ sym has.at ∙ here)) (λ never. inr (sym (has.names j) ∙ never)) may) in
      let fed_to_other = bytes_on link (byte_steps (settings (other side) p) (history (other side) w)) in
      let is_made = made_by_moves p actions r a old new follows turn before after side ds goes.text
      (subst (λ o. ReadsOn p r (moment_after actions) side count o (map (by side) (made ds))) (sym at) (ds, (read, refl)))
      goes.tells goes.appended
      (holds_on p actions (a ∷ actions) w old new ds follows.holds
      (world_after p actions (a ∷ actions) w side ds old.lanes.items is_world is_history joins timely beyond has.names link lane new_lane new.lanes.items there set opened
      (λ may. done.1.2)
      (λ may. kept
      ∙ was_heard p actions (a ∷ actions) w side ds old.lanes.items is_world is_history joins timely beyond has.names link lane is_lane may
      ∙ ap (drop (length fed_to_other)) (sym (same_lent link)))
      may_before has.elsewhere (λ j apart. same_lent j))
      goes.plays has.took alike (same_now ∙ follows.holds.now)) in
      (map (by side) (made ds), goes.text, (is_made, done.1.3 ∙ ap moves_bytes (sym (own_made side ds))))

-- ---- the bytes that are handed to the end

-- so many of them are read, or all
pub up_to : (n before len : ℕ) (lent : List ℕ) → length (drop before lent) ≡ len → take (min n len) (drop before lent) ≡ drop before (read_in_all (UpTo n) before lent)
up_to n before len lent e = ap (λ m. take (min n m) (drop before lent)) (sym e) ∙ take_min n (drop before lent) ∙ sym (drop-take before n lent)

pub everything : (before len : ℕ) (lent : List ℕ) → length (drop before lent) ≡ len → take len (drop before lent) ≡ drop before lent
everything before len lent e = ap (λ m. take m (drop before lent)) (sym e) ∙ take_all (length (drop before lent)) (drop before lent) (omega arith)

-- what is left of these bytes after as many of a first part of them as were fed
pub left_after : (fed end before : ℕ) (lent was piece after : List ℕ) → was ≡ drop before lent → end ≤ length was → piece ≡ take end was → fed ≤ length piece
    → (front : List ℕ) → length front ≡ before → after ≡ front ++ take fed piece → drop (min fed (length was)) was ≡ drop (length after) lent
left_after fed end before lent was piece after was_is within piece_is few front front_is after_is =
    let size = ap length piece_is ∙ length-take end was in
    let fed_in = length-take fed piece in
    let all = ap length after_is ∙ length-append front (take fed piece) in
    let far : length after ≡ before + fed = omega (arith, size, fed_in, all, few, front_is) in
    let least : min fed (length was) ≡ fed = omega (arith, size, few, within) in
    ap (λ n. drop n was) least ∙ ap (drop fed) was_is ∙ drop-drop fed before lent ∙ ap (λ n. drop n lent) (sym far)
