-- What a buffer stands for goes on.
use Rattle.std.specs.Prelude.{◌≡◌, ℕ, suc, ◌+◌, ◌-◌, ◌<◌, ◌≤◌, max, Bool, true, false, List, [], ◌∷◌, length, drop, if◌then◌else◌}
use Rattle.std.proofs.Common.{arith, ◌∙◌, ap, ap₂, sym, subst, refl}
use Rattle.std.proofs.lemmas.List.{drop-drop, drop_all}
use Rattle.std.proofs.lemmas.Bool.{lt-ltb}
use Rattle.hq_resend.specs.Buffers.{Buffer, IsWithin, dropped_count, after_ack, after_writing, after_next}
use Rattle.hq_resend.specs.ResendEvents.{ResendEvent, Pushed, Acked, Wrote, Rewound, Stands, pushed_frames, acked_count, written_place, furthest_place}
use Rattle.hq_resend.specs.Rings.{IsRing, buffer_of}
use Rattle.hq_resend.specs.declared.resend.Resend.TheInside.{Inside}

-- where nothing was ever written and no Ack came, no link carries anything, whether frames are kept or not
nothing-written : (h : List ResendEvent) (keeps other : Bool) → furthest_place keeps h ≡ 0 → acked_count h ≡ 0 → (written_place other h ≡ 0) × (furthest_place other h ≡ 0)
nothing-written [] keeps other f a = (refl, refl)
nothing-written (Pushed frame ∷ h) keeps other f a = nothing-written h keeps other f a
nothing-written (Acked upto ∷ h) keeps other f a =
    let none : acked_count h ≡ 0 = omega arith in
    let before = nothing-written h keeps other f none in
    (omega (arith, before.0), before.1)
nothing-written (Wrote ∷ h) keeps other f a = absurd (omega arith)
nothing-written (Rewound ∷ h) keeps other f a =
    let before = nothing-written h keeps other f a in
    (at_zero other (acked_count h) (written_place other h) a before.0, before.1)
  where
    at_zero : (b : Bool) (acked written : ℕ) → acked ≡ 0 → written ≡ 0 → dropped_count b acked written ≡ 0
    at_zero true acked written x y = x
    at_zero false acked written x y = y

-- of what isn't there all is dropped
none-of-none : (n m : ℕ) (xs ys : List (List ℕ)) → length xs ≡ 0 → length ys ≡ 0 → drop n xs ≡ drop m ys
none-of-none n m xs ys x y = drop_all n xs (omega arith) ∙ sym (drop_all m ys (omega arith))

pub keep-Stands : (r : Inside) (keeps : Bool) (h : List ResendEvent) → IsRing r → r.sent ≡ 0 → Stands h (buffer_of r) → Stands h (buffer_of (record r { keeps = keeps }))
keep-Stands r keeps h ring none stands =
    let unwritten = nothing-written h r.keeps keeps (omega (arith, ring.furthest, stands.furthest)) (omega (arith, ring.furthest, ring.written, ring.acked, stands.acked)) in
    record {
      sent = stands.sent;
      acked = stands.acked;
      written = omega (arith, unwritten.0, ring.furthest, ring.written);
      furthest = omega (arith, unwritten.1, ring.furthest);
      held = none-of-none _ _ r.ring.items (pushed_frames h) (omega (arith, ring.items)) (omega (arith, stands.sent));
    }

-- an Ack drops the frames up to its number
ack-held : (keeps : Bool) (a w upto : ℕ) (frames : List (List ℕ)) → a ≤ w → (keeps ≡ false → upto ≤ w) →
    (if keeps then drop (upto - a) (drop (dropped_count keeps a w) frames) else drop (dropped_count keeps a w) frames) ≡ drop (dropped_count keeps (max a upto) (max w (max a upto))) frames
ack-held true a w upto frames le plain = drop-drop (upto - a) a frames ∙ ap (λ n. drop n frames) (omega arith)
ack-held false a w upto frames le plain = let within : upto ≤ w = plain refl in ap (λ n. drop n frames) (omega arith)

pub ack-Stands : (h : List ResendEvent) (b : Buffer) (upto : ℕ) → IsWithin b → upto ≤ b.furthest → Stands h b → Stands (Acked upto ∷ h) (after_ack b upto)
ack-Stands h b upto within told stands = record {
  sent = stands.sent;
  acked = ap (λ n. max n upto) stands.acked;
  written = ap₂ (λ w a. max w (max a upto)) stands.written stands.acked;
  furthest = stands.furthest;
  held =
      ap (λ (held : List (List ℕ)). if b.keeps then drop (upto - b.acked) held else held) (stands.held ∙ ap₂ (λ a w. drop (dropped_count b.keeps a w) (pushed_frames h)) (sym stands.acked) (sym stands.written))
      ∙ ack-held b.keeps b.acked b.written upto (pushed_frames h) within.acked (λ e. omega (arith, within.plain e))
      ∙ ap₂ (λ a w. drop (dropped_count b.keeps (max a upto) (max w (max a upto))) (pushed_frames h)) stands.acked stands.written;
}

-- what isn't kept is dropped when it is written
write-held : (keeps : Bool) (a w : ℕ) (frames : List (List ℕ)) →
    (if keeps then drop (dropped_count keeps a w) frames else drop 1 (drop (dropped_count keeps a w) frames)) ≡ drop (dropped_count keeps a (suc w)) frames
write-held true a w frames = refl
write-held false a w frames = let next : w + 1 ≡ suc w = omega arith in drop-drop 1 w frames ∙ ap (λ (n : ℕ). drop n frames) next

writing-Stands : (h : List ResendEvent) (b : Buffer) → Stands h b → Stands (Wrote ∷ h) (after_writing b)
writing-Stands h b stands = record {
  sent = stands.sent;
  acked = stands.acked;
  written = ap suc stands.written;
  furthest = ap₂ (λ f w. max f (suc w)) stands.furthest stands.written;
  held =
      ap (λ (held : List (List ℕ)). if b.keeps then held else drop 1 held) (stands.held ∙ ap₂ (λ a w. drop (dropped_count b.keeps a w) (pushed_frames h)) (sym stands.acked) (sym stands.written))
      ∙ write-held b.keeps b.acked b.written (pushed_frames h)
      ∙ ap₂ (λ a w. drop (dropped_count b.keeps a (suc w)) (pushed_frames h)) stands.acked stands.written;
}

-- there is a next frame
pub next-is-writing : (b : Buffer) → b.written < b.sent → after_next b ≡ after_writing b
next-is-writing b less = ap (λ (t : Bool). if t then after_writing b else b) (lt-ltb b.written b.sent less)

pub next-Stands : (h : List ResendEvent) (b : Buffer) → b.written < b.sent → Stands h b → Stands (Wrote ∷ h) (after_next b)
next-Stands h b less stands = subst (Stands (Wrote ∷ h)) (sym (next-is-writing b less)) (writing-Stands h b stands)

-- the buffer that is seen after a frame was written
pub next-buffer : (r : Inside) (furthest bytes : ℕ) → IsRing r → r.written < r.sent → furthest ≡ max r.furthest (r.written + 1) →
    buffer_of (record r { written = r.written + 1; furthest = furthest; bytes = bytes }) ≡ after_next (buffer_of r)
next-buffer r furthest bytes ring less is_furthest =
    let b = buffer_of r in
    let held = held_after r.keeps r.acked r.written r.gone r.ring.items ring.gone in
    let furthest_is : furthest ≡ max r.furthest (suc r.written) = omega arith in
    let written_is : r.written + 1 ≡ suc r.written = omega arith in
    let made : buffer_of (record r { written = r.written + 1; furthest = furthest; bytes = bytes }) ≡ after_writing (buffer_of r) = cc in
    made ∙ sym (next-is-writing (buffer_of r) less)
  where
    held_after : (keeps : Bool) (a w gone : ℕ) (items : List (List ℕ)) → gone ≤ dropped_count keeps a w →
        drop (dropped_count keeps a (w + 1) - gone) items ≡ (if keeps then drop (dropped_count keeps a w - gone) items else drop 1 (drop (dropped_count keeps a w - gone) items))
    held_after true a w gone items le = refl
    held_after false a w gone items le = ap (λ n. drop n items) (omega arith) ∙ sym (drop-drop 1 (w - gone) items)
