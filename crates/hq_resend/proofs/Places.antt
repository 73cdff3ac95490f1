-- What the fields of a resend buffer say of the buffer that is seen, and what keeps them so.
use Rattle.std.specs.Prelude.{◌≡◌, ℕ, ◌+◌, ◌-◌, ◌<◌, ◌≤◌, max, Bool, true, false, List, [], ◌∷◌, ◌++◌, length, drop, sum_by, All, if◌then◌else◌}
use Rattle.std.proofs.Common.{arith, length-append, ◌∙◌, ap, sym, subst, refl}
use Rattle.std.proofs.lemmas.List.{length-drop}
use Rattle.std.proofs.lemmas.List.Elements.{All-drop, All-push}
use Rattle.std.proofs.lemmas.List.Sums.{sum_by_push}
use Rattle.circular_buffer.specs.Buffer as rings
use Rattle.hd_delivery.specs.Numbers.{most_messages}
use Rattle.hd_delivery.specs.Bounds.{most_size}
use Rattle.hq_resend.specs.Buffers.{IsWithin, dropped_count, after_ack}
use Rattle.hq_resend.specs.Rings.{IsRing, buffer_of, dropped_of}
use Rattle.hq_resend.specs.declared.resend.Resend.TheInside.{Inside}
use Rattle.hq_resend.proofs.Sizes.{after-writing}

pub dropped-within : (keeps : Bool) (acked written : ℕ) → acked ≤ written → dropped_count keeps acked written ≤ written
dropped-within true acked written h = h
dropped-within false acked written h = omega arith

pub dropped-kept : (keeps : Bool) (acked written : ℕ) → keeps ≡ true → dropped_count keeps acked written ≡ acked
dropped-kept keeps acked written e = ap (λ b. dropped_count b acked written) e

pub dropped-plain : (keeps : Bool) (acked written : ℕ) → keeps ≡ false → dropped_count keeps acked written ≡ written
dropped-plain keeps acked written e = ap (λ b. dropped_count b acked written) e

dropped-grows : (keeps : Bool) (acked written : ℕ) → dropped_count keeps acked written ≤ dropped_count keeps acked (written + 1)
dropped-grows true acked written = omega arith
dropped-grows false acked written = omega arith

pub ring-IsWithin : (r : Inside) → IsRing r → IsWithin (buffer_of r)
ring-IsWithin r ring =
    let places = dropped-within r.keeps r.acked r.written ring.acked in
    let count = length-drop (dropped_of r - r.gone) r.ring.items in
    record {
      limits = ring.limits;
      acked = ring.acked;
      written = ring.written;
      furthest = ring.furthest;
      sent = ring.sent;
      plain = ring.plain;
      held = omega (arith, count, ring.items, ring.gone, places, ring.written, ring.furthest);
      count = omega (arith, count, ring.count);
      bytes = omega (arith, ring.bytes, ring.few_bytes);
      sizes = All-drop (λ (frame : List ℕ). length frame ≤ most_size r.limits) (dropped_of r - r.gone) r.ring.items ring.sizes;
    }

-- after the next frame was written
pub next-IsRing : (r : Inside) (furthest bytes : ℕ) → IsRing r → r.written < r.sent → furthest ≡ max r.furthest (r.written + 1) →
    bytes ≡ (if r.keeps then r.bytes else sum_by length (drop (r.written - r.gone + 1) r.ring.items)) → bytes ≤ r.bytes →
    IsRing (record r { written = r.written + 1; furthest = furthest; bytes = bytes })
next-IsRing r furthest bytes ring inside is_furthest is_bytes fewer = record {
  limits = ring.limits;
  capacity = ring.capacity;
  acked = omega (arith, ring.acked);
  written = omega (arith, ring.written);
  furthest = omega (arith, ring.furthest);
  sent = ring.sent;
  plain = λ e. is_furthest ∙ omega (arith, ring.plain e);
  kept = ring.kept;
  gone = omega (arith, ring.gone, dropped-grows r.keeps r.acked r.written);
  items = ring.items;
  count = ring.count;
  bytes = after-writing r.keeps r.acked r.written r.gone r.bytes bytes r.ring.items ring.gone ring.bytes is_bytes;
  few_bytes = omega (arith, ring.few_bytes);
  sizes = ring.sizes;
}

-- after an Ack, if frames are kept
pub ack-IsRing : (r : Inside) (upto written bytes : ℕ) → IsRing r → r.keeps ≡ true → upto ≤ r.furthest → r.acked < upto → written ≡ max r.written upto →
    bytes ≡ sum_by length (drop (upto - r.acked) r.ring.items) → bytes ≤ r.bytes →
    IsRing (record r { acked = upto; written = written; gone = upto; bytes = bytes; ring = rings.buffer (drop (upto - r.acked) r.ring.items) r.ring.capacity })
ack-IsRing r upto written bytes ring keeps told above is_written is_bytes fewer =
    let none_left : dropped_count r.keeps upto written - upto ≡ 0 = omega (arith, dropped-kept r.keeps upto written keeps) in
    let count = length-drop (upto - r.acked) r.ring.items in
    record {
      limits = ring.limits;
      capacity = ring.capacity;
      acked = omega arith;
      written = omega (arith, ring.written);
      furthest = ring.furthest;
      sent = ring.sent;
      plain = λ e. absurd (let clash : true ≡ false = sym keeps ∙ e in cc);
      kept = λ _. refl;
      gone = omega (arith, dropped-kept r.keeps upto written keeps);
      items = omega (arith, count, ring.items, ring.kept keeps, ring.furthest);
      count = omega (arith, count, ring.count);
      bytes = is_bytes ∙ ap (λ n. sum_by length (drop n (drop (upto - r.acked) r.ring.items))) (sym none_left);
      few_bytes = omega (arith, ring.few_bytes);
      sizes = All-drop (λ (frame : List ℕ). length frame ≤ most_size r.limits) (upto - r.acked) r.ring.items ring.sizes;
    }

-- the buffer that is seen after an Ack, if frames are kept
pub ack-buffer : (r : Inside) (upto written bytes : ℕ) → IsRing r → r.keeps ≡ true → r.acked < upto → written ≡ max r.written upto →
    buffer_of (record r { acked = upto; written = written; gone = upto; bytes = bytes; ring = rings.buffer (drop (upto - r.acked) r.ring.items) r.ring.capacity }) ≡ after_ack (buffer_of r) upto
ack-buffer r upto written bytes ring keeps above is_written =
    let acked_is : upto ≡ max r.acked upto = omega arith in
    let written_is : written ≡ max r.written (max r.acked upto) = omega arith in
    let held_is = held r.keeps keeps in
    cc
  where
    held : (keeps : Bool) → keeps ≡ true → drop (dropped_count keeps upto written - upto) (drop (upto - r.acked) r.ring.items) ≡
        (if keeps then drop (upto - r.acked) (drop (dropped_count keeps r.acked r.written - r.gone) r.ring.items) else drop (dropped_count keeps r.acked r.written - r.gone) r.ring.items)
    held true e =
        let none_left : upto - upto ≡ 0 = omega arith in
        let none_stale : r.acked - r.gone ≡ 0 = omega (arith, ring.kept keeps) in
        ap (λ (n : ℕ). drop n (drop (upto - r.acked) r.ring.items)) none_left ∙ sym (ap (λ (n : ℕ). drop (upto - r.acked) (drop n r.ring.items)) none_stale)
    held false e = absurd (let clash : false ≡ true = e in cc)

-- after a frame was pushed
pub push-IsRing : (r : Inside) (gone bytes : ℕ) (frame : List ℕ) (next : rings.Buffer (List ℕ)) → IsRing r → gone ≡ dropped_of r →
    next ≡ rings.buffer (drop (gone - r.gone) r.ring.items ++ frame ∷ []) r.ring.capacity → length (drop (gone - r.gone) r.ring.items) < r.limits.count →
    bytes ≡ r.bytes + length frame → bytes ≤ r.limits.bytes → length frame ≤ most_size r.limits → r.sent < most_messages →
    IsRing (record r { sent = r.sent + 1; gone = gone; bytes = bytes; ring = next })
push-IsRing r gone bytes frame next ring is_gone is_next room is_bytes within short fewer =
    let left = drop (gone - r.gone) r.ring.items in
    let places = dropped-within r.keeps r.acked r.written ring.acked in
    let count : length next.items ≡ length left + 1 = ap (λ (b : rings.Buffer (List ℕ)). length b.items) is_next ∙ length-append left (frame ∷ []) in
    let rest = length-drop (gone - r.gone) r.ring.items in
    let none_stale : dropped_of r - gone ≡ 0 = omega (arith, is_gone) in
    let before : r.bytes ≡ sum_by length left = ring.bytes ∙ ap (λ (n : ℕ). sum_by length (drop (n - r.gone) r.ring.items)) (sym is_gone) in
    record {
      limits = ring.limits;
      capacity = ap (λ (b : rings.Buffer (List ℕ)). b.capacity) is_next ∙ ring.capacity;
      acked = ring.acked;
      written = ring.written;
      furthest = omega (arith, ring.furthest);
      sent = omega arith;
      plain = ring.plain;
      kept = λ e. is_gone ∙ dropped-kept r.keeps r.acked r.written e;
      gone = omega (arith, is_gone);
      items = omega (arith, count, rest, ring.items, ring.gone, is_gone, places, ring.written, ring.furthest);
      count = omega (arith, count);
      bytes = is_bytes ∙ omega (arith, before, sum_by_push {X = List ℕ} length left frame) ∙ sym (ap (λ (b : rings.Buffer (List ℕ)). sum_by length b.items) is_next) ∙ sym (ap (λ (n : ℕ). sum_by length (drop n next.items)) none_stale);
      few_bytes = within;
      sizes = subst (λ (b : rings.Buffer (List ℕ)). All (λ (frame : List ℕ). length frame ≤ most_size r.limits) b.items) (sym is_next)
          (All-push (λ (frame : List ℕ). length frame ≤ most_size r.limits) left frame (All-drop (λ (frame : List ℕ). length frame ≤ most_size r.limits) (gone - r.gone) r.ring.items ring.sizes) short);
    }
