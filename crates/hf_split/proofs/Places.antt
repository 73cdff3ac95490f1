-- Where the first separator stands, and what it says of the frames.
use Rattle.std.proofs.Common.{◌≡◌, ◌≢◌, ◌<◌, ◌≤◌, ◌+◌, ◌-◌, ◌⊎◌, inl, inr, ℕ, suc, min, List, [], ◌∷◌, ◌++◌, length, take, drop, get_or, sym, ◌∙◌, ap, subst, arith, length-append, length-take, Option, Some, None}
use Rattle.std.proofs.Math.Seq.{take-append-add}
use Rattle.memchr.specs.Find.{IsFirstByte, is_byte}
use Rattle.std.proofs.lemmas.Bool.{eqb-true, eq-eqb, cases_eq, cases_lt}
use Rattle.std.proofs.lemmas.List.{get_or_default, take_min, take_all, take-take, length-take-le, take_more, take-append-drop, get_or-take, drop-take, get_or-append-add}
use Rattle.std.proofs.lemmas.List.Elements.{All-append, All-nil, All-cons, All-take}
use Rattle.hf_split.specs.declared.framing.Framing.TheVariants.{Record}
use Rattle.hf_split.specs.Cuts.{IsPlain, BeginsWith, IsFaulty, IsWaiting}
use Rattle.hf_split.specs.Marks.{IsMarkAt, IsFirstMark}
use Rattle.hf_split.specs.Nexts.{IsFrameAt}
use Rattle.hf_split.proofs.Spellings.{plain_begins_none}

-- what a search for the separator finds
pub first_mark : (bytes : List ℕ) (found : Option ℕ) → IsFirstByte (is_byte 30) bytes found → IsFirstMark bytes found
first_mark bytes None nowhere = λ k d inside at. nowhere k (omega arith) inside (eq-eqb (get_or bytes k 0) 30 (get_or_default bytes k 0 d inside ∙ at))
first_mark bytes (Some n) found = record {
  inside = found.0.high;
  mark = eqb-true (get_or bytes n 0) 30 found.1;
  plain = λ k d inside at.
      let low : k < n = omega (arith, length-take n bytes) in
      found.0.before k (omega arith) low
      (eq-eqb (get_or bytes k 0) 30 (get_or_default bytes k 0 d (omega (arith, found.0.high)) ∙ sym (get_or-take n bytes k d low) ∙ at));
}

-- a separator within the limit ends a frame
begins_at : (most : ℕ) (bytes : List ℕ) (n : ℕ) → IsMarkAt (take (most + 1) bytes) n
    → BeginsWith Record most bytes (record { spelling = take (n + 1) bytes; frame = take n bytes })
begins_at most bytes n mark =
    let short : n ≤ most = omega (arith, mark.inside, length-take (most + 1) bytes) in
    let inside : n < length bytes = omega (arith, mark.inside, length-take (most + 1) bytes) in
    let size : length (take n bytes) ≡ n = length-take-le n bytes (omega arith) in
    let sized : length (take (n + 1) bytes) ≡ n + 1 = length-take-le (n + 1) bytes (omega arith) in
    let here : get_or bytes n 0 ≡ 30 = sym (get_or-take (most + 1) bytes n 0 (omega arith)) ∙ mark.mark in
    record {
      is_frame = record {
        short = omega arith;
        spells = (take_more bytes n 0 inside ∙ ap (λ (b : ℕ). take n bytes ++ b ∷ []) here, subst IsPlain (take-take n (most + 1) bytes (omega arith)) mark.plain);
      };
      front = rw sized (sym (take-append-drop (n + 1) bytes));
    }

pub marked_frame : (most : ℕ) (bytes : List ℕ) (n : ℕ) → IsMarkAt (take (most + 1) bytes) n → IsFrameAt Record most bytes 0 n (n + 1)
marked_frame most bytes n mark = record {
  some = omega arith;
  in_order = omega arith;
  within = omega arith;
  inside = omega (arith, mark.inside, length-take (most + 1) bytes);
  begins = let e : n - 0 ≡ n = omega arith in
      subst (λ (k : ℕ). BeginsWith Record most bytes (record { spelling = take (n + 1) bytes; frame = take k bytes })) (sym e) (begins_at most bytes n mark);
}

-- no separator, and room for one
pub plain_waits : (most : ℕ) (bytes : List ℕ) → IsPlain (take (most + 1) bytes) → length bytes ≤ most → IsWaiting Record most bytes
plain_waits most bytes plain short = record {
  no_frame = λ item. plain_begins_none most bytes item plain;
  no_fault = not_faulty;
} where
  not_faulty : IsFaulty Record most bytes → ⊥
  not_faulty (inl long) = absurd (omega (arith, long.0))
  not_faulty (inr bad) = bad

-- no separator in front, and the first of what follows
mark_behind : (front bytes : List ℕ) (n : ℕ) → IsPlain front → IsMarkAt bytes n → IsMarkAt (front ++ bytes) (length front + n)
mark_behind front bytes n plain at = record {
  inside = omega (arith, at.inside, length-append front bytes);
  mark = get_or-append-add front bytes n 0 ∙ at.mark;
  plain = subst IsPlain (sym (take-append-add front bytes n)) (All-append (λ b. b ≢ 30) front (take n bytes) plain at.plain);
}

-- none among the first bytes, and what stands behind them
pub mark_past_front : (near : ℕ) (bytes : List ℕ) (n : ℕ) → near ≤ length bytes → IsPlain (take near bytes) → IsMarkAt (drop near bytes) n → IsMarkAt bytes (near + n)
mark_past_front near bytes n inside plain at =
    let size : length (take near bytes) ≡ near = length-take-le near bytes inside in
    subst (λ (xs : List ℕ). IsMarkAt xs (near + n)) (take-append-drop near bytes)
    (subst (λ (k : ℕ). IsMarkAt (take near bytes ++ drop near bytes) (k + n)) size (mark_behind (take near bytes) (drop near bytes) n plain at))

pub plain_past_front : (near : ℕ) (bytes : List ℕ) → IsPlain (take near bytes) → IsPlain (drop near bytes) → IsPlain bytes
plain_past_front near bytes front rest = subst IsPlain (take-append-drop near bytes) (All-append (λ b. b ≢ 30) (take near bytes) (drop near bytes) front rest)

-- bytes hold a first separator or none
mark_more : (b : ℕ) (bytes : List ℕ) (n : ℕ) → b ≢ 30 → IsMarkAt bytes n → IsMarkAt (b ∷ bytes) (suc n)
mark_more b bytes n other at = record {
  inside = omega (arith, at.inside);
  mark = at.mark;
  plain = All-cons (λ x. x ≢ 30) b (take n bytes) other at.plain;
}

find_by : (b : ℕ) (bytes : List ℕ) → (b ≡ 30) ⊎ (b ≡ 30 → ⊥) → ((n : ℕ) × IsMarkAt bytes n) ⊎ IsPlain bytes → ((n : ℕ) × IsMarkAt (b ∷ bytes) n) ⊎ IsPlain (b ∷ bytes)
find_by b bytes (inl here) rest = inl (0, record { inside = omega arith; mark = here; plain = All-nil (λ x. x ≢ 30) })
find_by b bytes (inr other) (inl found) = inl (suc found.0, mark_more b bytes found.0 other found.1)
find_by b bytes (inr other) (inr plain) = inr (All-cons (λ x. x ≢ 30) b bytes other plain)

pub find_mark : (bytes : List ℕ) → ((n : ℕ) × IsMarkAt bytes n) ⊎ IsPlain bytes
find_mark [] = inr (All-nil (λ x. x ≢ 30))
find_mark (b ∷ bytes) = find_by b bytes (cases_eq b 30) (find_mark bytes)

-- what waits for a separator holds none
pub waiting_plain : (most : ℕ) (bytes : List ℕ) → IsWaiting Record most bytes → IsPlain bytes
waiting_plain most bytes waiting = by (find_mark (take (most + 1) bytes)) where
  by : ((n : ℕ) × IsMarkAt (take (most + 1) bytes) n) ⊎ IsPlain (take (most + 1) bytes) → IsPlain bytes
  by (inl found) = absurd (waiting.no_frame _ (begins_at most bytes found.0 found.1))
  by (inr plain) = whole (cases_lt most (length bytes)) where
    whole : (most < length bytes) ⊎ (length bytes ≤ most) → IsPlain bytes
    whole (inl long) = absurd (waiting.no_fault (inl (long, plain)))
    whole (inr short) = subst IsPlain (take_all (most + 1) bytes (omega arith)) plain

-- a search behind the first bytes of those within the limit
within_limit : (most seen : ℕ) (bytes : List ℕ) → seen ≤ min (length bytes) (most + 1)
    → take (min (length bytes) (most + 1) - seen) (drop seen bytes) ≡ drop seen (take (most + 1) bytes)
within_limit most seen bytes inside =
    let limit : ℕ = min (length bytes) (most + 1) in
    let whole : seen + (min (length bytes) (most + 1) - seen) ≡ min (length bytes) (most + 1) = omega arith in
    sym (drop-take seen (min (length bytes) (most + 1) - seen) bytes) ∙ ap (λ (k : ℕ). drop seen (take k bytes)) whole
    ∙ ap (λ xs. drop seen xs) (take_front most bytes) where
      take_front : (m : ℕ) (xs : List ℕ) → take (min (length xs) (m + 1)) xs ≡ take (m + 1) xs
      take_front m xs = let e : min (length xs) (m + 1) ≡ min (m + 1) (length xs) = omega arith in rw e (take_min (m + 1) xs)

seen_plain : (most plain seen : ℕ) (bytes : List ℕ) → seen ≡ min plain (min (length bytes) (most + 1)) → IsPlain (take plain bytes) → IsPlain (take seen (take (most + 1) bytes))
seen_plain most plain seen bytes is front =
    subst IsPlain (take-take seen plain bytes (omega arith) ∙ sym (take-take seen (most + 1) bytes (omega arith))) (All-take (λ b. b ≢ 30) seen (take plain bytes) front)

pub mark_within : (most plain seen : ℕ) (bytes : List ℕ) (n : ℕ) → seen ≡ min plain (min (length bytes) (most + 1)) → IsPlain (take plain bytes)
    → IsMarkAt (take (min (length bytes) (most + 1) - seen) (drop seen bytes)) n → IsMarkAt (take (most + 1) bytes) (seen + n)
mark_within most plain seen bytes n is front at =
    mark_past_front seen (take (most + 1) bytes) n (omega (arith, length-take (most + 1) bytes)) (seen_plain most plain seen bytes is front)
    (subst (λ (xs : List ℕ). IsMarkAt xs n) (within_limit most seen bytes (omega arith)) at)

pub plain_within : (most plain seen : ℕ) (bytes : List ℕ) → seen ≡ min plain (min (length bytes) (most + 1)) → IsPlain (take plain bytes)
    → IsPlain (take (min (length bytes) (most + 1) - seen) (drop seen bytes)) → IsPlain (take (most + 1) bytes)
plain_within most plain seen bytes is front rest =
    plain_past_front seen (take (most + 1) bytes) (seen_plain most plain seen bytes is front)
    (subst IsPlain (within_limit most seen bytes (omega arith)) rest)
