-- What `begin` makes of a table, and that `undo` takes it back.
use Rattle.std.proofs.Common.{◌≡◌, ℕ, suc, ◌<◌, ◌≤◌, ◌⊎◌, inl, inr, false, List, ◌∷◌, length, Some, None, refl, sym, ap, ◌∙◌, subst, arith}
use Rattle.std.specs.Prelude.{◌+◌, ◌==◌, nat_eq, is_some, if◌then◌else◌}
use Rattle.std.specs.HashMap.{get, hash_map_len}
use Rattle.std.proofs.lemmas.Bool.{cases_eq, le-ltb}
use Rattle.hv_value.specs.Tree.{Tree}
use Rattle.hm_message.specs.declared.message.Message.{Message}
use Rattle.hd_calls.specs.declared.vocabulary.CallKind.{CallKind}
use Rattle.hd_calls.specs.Numbers.{most_live, most_uploads, most_numbers}
use Rattle.hd_calls.specs.Hubs.{Invoked, id_of, is_stream, message_of}
use Rattle.hd_calls.specs.Rules.{new_live}
use Rattle.hd_calls.specs.Ledgers.{CallHappening, Called}
use Rattle.hd_calls.specs.Peers.{has_id, streams_items, stream_count}
use Rattle.hd_calls.specs.Tables.{drawn_in, call_in, live_upload_in, own_live_in}
use Rattle.hi_calls.specs.declared.calls.Calls.{Calls}
use Rattle.hi_calls.specs.Maps.{is_answered, takes_items, one_if, owner, owns, EndsUploads, Enters, HoldsTheSame}
use Rattle.hi_calls.specs.Numbering.{ids_after, number_after, next_number, call_numbered, next_call, HasPlaceIn}
use Rattle.hi_calls.specs.Stands.{live_kind, Stands}
use Rattle.hi_calls.specs.Calls.{Begins}
use Rattle.hi_calls.proofs.Counts.{count_none}
use Rattle.hi_calls.proofs.Drawing.{has_id-kind, items-kind, length-ids_after, number_cases}
use Rattle.hi_calls.proofs.Happenings.{same_kind, same_upload, apart_called, kind_dead, own_between}
use Rattle.hi_calls.proofs.Beginning.{IsNew, new_next, new_zero, begun}
use Rattle.hi_calls.proofs.Ending.{removed, over_undone}
use Rattle.hi_calls.proofs.Steady.{same_table}

pub begins : (old mid new : Calls) (prefix : List ℕ) (h : List CallHappening) (k : CallKind) (target : List ℕ) (arguments : List Tree) (u n : ℕ) (m : Message)
    → Stands old prefix h → u ≤ most_uploads → n ≡ next_number k u h → n + u ≤ most_numbers → HasPlaceIn (next_call prefix h k target arguments u) h
    → m ≡ message_of (call_numbered old.ids.prefix n k target arguments u) → HoldsTheSame old mid → Enters mid new k u n
    → Begins new prefix h (next_call prefix h k target arguments u) (next_number k u h) n m
begins old mid new prefix h k target arguments u n m s few next small place says same enters = record {
  place = place;
  next = next;
  says = says ∙ (λ i. message_of (call_numbered (s.draws_with i) (next i) k target arguments u));
  stands = λ read way streams. stands_for read way streams (number_cases k u (drawn_in h));
  newest = enters.newest ∙ ap Some (same.drawn ∙ s.drawn);
}
  where
    kinds : (read : Invoked) → read.way ≡ (next_call prefix h k target arguments u).way → has_id (Some read) ≡ is_answered k
    kinds read way = ap (λ w. is_some (id_of w)) way ∙ has_id-kind prefix (next_number k u h) k target arguments u

    items : (read : Invoked) → read.way ≡ (next_call prefix h k target arguments u).way → streams_items (Some read) ≡ takes_items k
    items read way = ap is_stream way ∙ items-kind prefix (next_number k u h) k target arguments u

    size : (read : Invoked) → read.streams ≡ (next_call prefix h k target arguments u).streams → length read.streams ≡ u
    size read streams = ap length streams ∙ length-ids_after prefix (next_number k u h) u

    room : (read : Invoked) → read.way ≡ (next_call prefix h k target arguments u).way → read.streams ≡ (next_call prefix h k target arguments u).streams → own_live_in h + new_live read ≤ most_live
    room read way streams =
        let e : new_live read ≡ new_live (next_call prefix h k target arguments u) =
        (λ i. if is_some (id_of (way i)) then suc (length (streams i)) else length (streams i)) in
        let l = place.few_live in
        omega arith

    stands_for : (read : Invoked) → read.way ≡ (next_call prefix h k target arguments u).way → read.streams ≡ (next_call prefix h k target arguments u).streams
        → (number_after k u (drawn_in h) ≡ suc (drawn_in h)) ⊎ ((number_after k u (drawn_in h) ≡ 0) × (is_answered k ≡ false) × (u ≡ 0))
        → Stands new prefix (Called n read ∷ h)
    stands_for read way streams (inl e) =
        begun mid new prefix h k u n read (same_table old mid prefix h same s) enters (new_next read n h (next ∙ e) (s.fresh n (let d = next ∙ e in omega arith)))
        (kinds read way) (items read way) (size read streams) few small (room read way streams) (λ z. let d = next ∙ e in absurd (omega arith))
    stands_for read way streams (inr e) =
        let bare : has_id (Some read) ≡ false = kinds read way ∙ e.1 in
        let none : length read.streams ≡ 0 = size read streams ∙ e.2 in
        begun mid new prefix h k u n read (same_table old mid prefix h same s) enters (subst (λ j. IsNew read j h) (sym (next ∙ e.0)) (new_zero read h bare none s.bare))
        (kinds read way) (items read way) (size read streams) few small (room read way streams) (λ z. (bare, none))

-- a Notify without uploads is taken back: nothing was live of it
undone_notify : (old new before : Calls) (prefix : List ℕ) (h : List CallHappening) (c : Invoked) → has_id (Some c) ≡ false → length c.streams ≡ 0
    → new.ids.prefix ≡ old.ids.prefix → new.drawn ≡ old.drawn → new.calls ≡ old.calls → new.owners ≡ old.owners
    → Stands before prefix h → Stands old prefix (Called 0 c ∷ h) → Stands new prefix h
undone_notify old new before prefix h c bare none ids drawn calls owners b s = record {
  draws_with = ids ∙ s.draws_with;
  drawn = drawn ∙ (s.drawn ∙ same_drawn);
  within = b.within;
  calls = λ n. ap (λ m. get nat_eq m n) calls ∙ (s.calls n ∙ kind_at n (cases_eq n 0));
  uploads = λ n w. ap (λ os. owns os n w) owners ∙ (s.uploads n w ∙ upload_at n w (cases_eq n 0));
  owned = λ k n e. s.owned k n (ap (λ os. owner os k) (sym owners) ∙ e);
  size =
      let x = ap (λ m. hash_map_len m) calls in
      let y = ap (λ os. hash_map_len os.calls) owners in
      let z = s.size in
      let t = same_live in
      omega arith;
  few_live = b.few_live;
  fresh = b.fresh;
  few = b.few;
  bare = b.bare;
  ledgers = b.ledgers;
  streams = b.streams;
}
  where
    is_new : IsNew c 0 h
    is_new = new_zero c h bare none b.bare

    no_upload : (w : ℕ) → live_upload_in 0 w (Called 0 c ∷ h) ≡ false
    no_upload w = is_new.uploads_live w ∙ le-ltb w (length c.streams) (omega arith)

    same_drawn : drawn_in (Called 0 c ∷ h) ≡ drawn_in h
    same_drawn = omega arith

    kind_at : (n : ℕ) → (n ≡ 0) ⊎ (n ≡ 0 → ⊥) → live_kind n (Called 0 c ∷ h) ≡ live_kind n h
    kind_at n (inl z) = subst (λ j. live_kind j (Called 0 c ∷ h) ≡ live_kind j h) (sym z) (kind_dead 0 (Called 0 c ∷ h) (is_new.lives ∙ bare) ∙ sym (kind_dead 0 h is_new.idle))
    kind_at n (inr f) = same_kind n h (Called 0 c ∷ h) (apart_called n 0 c h f)

    upload_at : (n w : ℕ) → (n ≡ 0) ⊎ (n ≡ 0 → ⊥) → live_upload_in n w (Called 0 c ∷ h) ≡ live_upload_in n w h
    upload_at n w (inl z) = subst (λ j. live_upload_in j w (Called 0 c ∷ h) ≡ live_upload_in j w h) (sym z) (no_upload w ∙ sym (is_new.no_uploads w))
    upload_at n w (inr f) = same_upload n h (Called 0 c ∷ h) (apart_called n 0 c h f) w

    same_live : own_live_in (Called 0 c ∷ h) ≡ own_live_in h
    same_live =
        let d = same_drawn in
        let a = own_between h (Called 0 c ∷ h) 0 (drawn_in h) (omega arith) (omega arith) (omega arith) b.fresh s.fresh (λ k f. apart_called k 0 c h f) in
        let x = ap one_if is_new.idle in
        let y = count_none (stream_count (call_in 0 h)) (λ w. live_upload_in 0 w h) is_new.no_uploads in
        let z = ap one_if (is_new.lives ∙ bare) in
        let v = count_none (length c.streams) (λ w. live_upload_in 0 w (Called 0 c ∷ h)) no_upload in
        omega arith

module _ (old new before : Calls) (prefix : List ℕ) (h : List CallHappening) (k : CallKind) (target : List ℕ) (arguments : List Tree) (u n last : ℕ) (m : Message)
    (newest : old.newest ≡ Some last) (s : Stands before prefix h)
    (b : Begins old prefix h (next_call prefix h k target arguments u) (next_number k u h) n m) where
  is_last : last ≡ drawn_in h
  is_last = let z : Some last ≡ Some (drawn_in h) = sym newest ∙ b.newest in cc

  stood : Stands old prefix (Called n (next_call prefix h k target arguments u) ∷ h)
  stood = b.stands (next_call prefix h k target arguments u) refl refl

  len : length (ids_after prefix (next_number k u h) u) ≡ u
  len = length-ids_after prefix (next_number k u h) u

  -- nothing was drawn
  pub undone_none : old.drawn ≤ last → new.ids.prefix ≡ old.ids.prefix → new.drawn ≡ old.drawn → new.calls ≡ old.calls → new.owners ≡ old.owners → Stands new prefix h
  undone_none l ids drawn calls owners = go (number_cases k u (drawn_in h))
    where
      go : (number_after k u (drawn_in h) ≡ suc (drawn_in h)) ⊎ ((number_after k u (drawn_in h) ≡ 0) × (is_answered k ≡ false) × (u ≡ 0)) → Stands new prefix h
      go (inl e) = let a = b.next ∙ e in let d = stood.drawn in let z = is_last in absurd (omega arith)
      go (inr e) =
          undone_notify old new before prefix h (next_call prefix h k target arguments u) (has_id-kind prefix (next_number k u h) k target arguments u ∙ e.1) (len ∙ e.2) ids drawn calls owners s
          (subst (λ j. Stands old prefix (Called j (next_call prefix h k target arguments u) ∷ h)) (b.next ∙ e.0) stood)

  -- the call and its uploads are taken out
  pub undone_drawn : last < old.drawn → new.ids.prefix ≡ old.ids.prefix → new.drawn ≡ last
      → ((j : ℕ) → get nat_eq new.calls j ≡ (if last + 1 == j then None else get nat_eq old.calls j))
      → hash_map_len new.calls + one_if (is_some (get nat_eq old.calls (last + 1))) ≡ hash_map_len old.calls
      → (last + 1 ≤ most_numbers → EndsUploads old.owners new.owners (last + 1) most_uploads) → Stands new prefix h
  undone_drawn l ids drawn call size ends = go (number_cases k u (drawn_in h))
    where
      go : (number_after k u (drawn_in h) ≡ suc (drawn_in h)) ⊎ ((number_after k u (drawn_in h) ≡ 0) × (is_answered k ≡ false) × (u ≡ 0)) → Stands new prefix h
      go (inl e) =
          let z = is_last in
          let a : n ≡ last + 1 = let x = b.next ∙ e in omega arith in
          let stood_there = subst (λ j. Stands old prefix (Called j (next_call prefix h k target arguments u) ∷ h)) a stood in
          removed old new prefix (Called (last + 1) (next_call prefix h k target arguments u) ∷ h) h (last + 1) stood_there ids (drawn ∙ z) call size
          (ends (let d = stood_there.within in omega arith))
          (over_undone before prefix h (next_call prefix h k target arguments u) (last + 1) s (omega arith))
      go (inr e) = let a = b.next ∙ e.0 in let d = stood.drawn in let z = is_last in let y = len in let x = e.2 in absurd (omega arith)
