-- What bytes begin with: a frame, a fault, or the front of a frame.
use Rattle.std.proofs.Common.{◌≡◌, ◌≢◌, ◌<◌, ◌≤◌, ◌+◌, ◌-◌, ◌⊎◌, inl, inr, ℕ, List, [], ◌∷◌, ◌++◌, length, take, drop, refl, sym, ◌∙◌, ap, subst, arith, append-nil, length-append, length-drop}
use Rattle.std.specs.List.{All}
use Rattle.std.proofs.Math.Seq.{take-append-add}
use Rattle.std.proofs.lemmas.Bool.{cases_lt}
use Rattle.std.proofs.lemmas.List.{length-take-le, take_all, take-append-drop, take-append-le, drop-append-le, drop-drop}
use Rattle.hf_split.specs.declared.framing.Framing.{Framing}
use Rattle.hf_split.specs.declared.framing.Framing.TheVariants.{Record, Length}
use Rattle.hf_split.specs.declared.next.Next.{Next}
use Rattle.hf_split.specs.declared.next.Next.TheVariants.{Waiting, Frame, TooLong, BadLength}
use Rattle.hf_split.specs.VarInts.{HasMore, BeginsWithVarInt}
use Rattle.hf_split.specs.Cuts.{Spelled, IsPlain, BeginsWith, IsTooLong, IsBadLength, IsFaulty, IsWaiting}
use Rattle.hf_split.specs.Held.{Held, place_of, after_pass}
use Rattle.hf_split.specs.Marks.{IsMarkAt}
use Rattle.hf_split.specs.Nexts.{IsWholeAt, IsFrameAt, IsNextOf}
use Rattle.hf_split.proofs.VarIntFronts.{find_var_int, whole_begins, var_int_once, one_number, no_end_begins_none, open_begins_none}
use Rattle.hf_split.proofs.Spellings.{read_once, begins_more, spelling_some, length_first, begins_with_length, length_is, too_long_begins_none, bad_length_begins_none}
use Rattle.std.proofs.lemmas.List.Elements.{All-take}
use Rattle.hf_split.proofs.Places.{marked_frame, find_mark, plain_waits, waiting_plain}

-- a frame is no fault
pub frame_not_faulty : (framing : Framing) (most : ℕ) (bytes : List ℕ) (item : Spelled) → BeginsWith framing most bytes item → IsFaulty framing most bytes → ⊥
frame_not_faulty framing most bytes item begins (inl long) = too_long_begins_none framing most bytes item long begins
frame_not_faulty framing most bytes item begins (inr bad) = bad_length_begins_none framing most bytes item bad begins

pub next_not_faulty : (framing : Framing) (most : ℕ) (bytes : List ℕ) (next : Next) → IsNextOf framing most bytes next
    → ((next ≡ TooLong) ⊎ (next ≡ BadLength) → ⊥) → IsFaulty framing most bytes → ⊥
next_not_faulty framing most bytes Waiting waiting sound faulty = waiting.no_fault faulty
next_not_faulty framing most bytes (Frame from to end) at sound faulty = frame_not_faulty framing most bytes _ at.begins faulty
next_not_faulty framing most bytes TooLong long sound faulty = sound (inl refl)
next_not_faulty framing most bytes BadLength bad sound faulty = sound (inr refl)

pub next_faulty : (framing : Framing) (most : ℕ) (bytes : List ℕ) (next : Next) → IsNextOf framing most bytes next
    → (next ≡ TooLong) ⊎ (next ≡ BadLength) → IsFaulty framing most bytes
next_faulty framing most bytes Waiting waiting (inl is) = cc
next_faulty framing most bytes Waiting waiting (inr is) = cc
next_faulty framing most bytes (Frame from to end) at (inl is) = cc
next_faulty framing most bytes (Frame from to end) at (inr is) = cc
next_faulty framing most bytes TooLong long is = inl long
next_faulty framing most bytes BadLength bad is = inr bad

-- only a frame is passed
pub next_is_frame : (framing : Framing) (most : ℕ) (bytes : List ℕ) (next : Next) (item : Spelled) → IsNextOf framing most bytes next → BeginsWith framing most bytes item
    → ((from to past : ℕ) → next ≡ Frame from to past → ⊥) → ⊥
next_is_frame framing most bytes Waiting item waiting begins other = waiting.no_frame item begins
next_is_frame framing most bytes (Frame from to end) item at begins other = other from to end refl
next_is_frame framing most bytes TooLong item long begins other = too_long_begins_none framing most bytes item long begins
next_is_frame framing most bytes BadLength item bad begins other = bad_length_begins_none framing most bytes item bad begins

-- the spelling of a frame that was found
pub spelling_of_frame : (framing : Framing) (most : ℕ) (bytes : List ℕ) (from to past : ℕ) (item : Spelled) → IsFrameAt framing most bytes from to past
    → BeginsWith framing most bytes item → length item.spelling ≡ past
spelling_of_frame framing most bytes from to past item at begins =
    let found : Spelled = record { spelling = take past bytes; frame = take (to - from) (drop from bytes) } in
    let same : item ≡ found = read_once framing item found (drop (length item.spelling) bytes) (drop (length (take past bytes)) bytes) begins.is_frame.spells at.begins.is_frame.spells
    (sym begins.front ∙ at.begins.front) in
    ap (λ (x : Spelled). length x.spelling) same ∙ length-take-le past bytes at.inside

-- nothing begins with a frame or a fault
pub empty_waits : (framing : Framing) (most : ℕ) → IsWaiting framing most []
empty_waits framing most = record { no_frame = no_frame; no_fault = no_fault framing } where
  no_frame : (item : Spelled) → BeginsWith framing most [] item → ⊥
  no_frame item begins =
      absurd (omega (arith, spelling_some framing item.spelling item.frame begins.is_frame.spells, ap length begins.front, length-append item.spelling (drop (length item.spelling) [])))

  no_fault : (f : Framing) → IsFaulty f most [] → ⊥
  no_fault Record (inl long) = absurd (omega (arith, long.0))
  no_fault Record (inr bad) = bad
  no_fault Length (inl long) = open_begins_none [] long.0 (λ k d inside. absurd (omega arith)) long.1.1
  no_fault Length (inr bad) = absurd (omega (arith, bad.0))

-- the front of a length
pub open_waits : (most : ℕ) (bytes : List ℕ) → length bytes < 5 → All HasMore bytes → IsWaiting Length most bytes
open_waits most bytes short more = record { no_frame = no_frame; no_fault = no_fault } where
  no_frame : (item : Spelled) → BeginsWith Length most bytes item → ⊥
  no_frame item begins = open_begins_none bytes (length item.frame) more (begins_with_length most bytes item begins)

  no_fault : IsFaulty Length most bytes → ⊥
  no_fault (inl long) = open_begins_none bytes long.0 more long.1.1
  no_fault (inr bad) = absurd (omega (arith, bad.0))

pub length_too_long : (most size n : ℕ) (bytes : List ℕ) → IsWholeAt bytes size n → most < n → IsTooLong Length most bytes
length_too_long most size n bytes at long = (n, (long, whole_begins bytes size n at))

-- a length and the frame of that length
take_two : (size n : ℕ) (bytes : List ℕ) → size ≤ length bytes → take (size + n) bytes ≡ take size bytes ++ take n (drop size bytes)
take_two size n bytes inside =
    let sized : length (take size bytes) ≡ size = length-take-le size bytes inside in
    ap (λ xs. take (size + n) xs) (sym (take-append-drop size bytes)) ∙ ap (λ (k : ℕ). take (k + n) (take size bytes ++ drop size bytes)) (sym sized)
    ∙ take-append-add (take size bytes) (drop size bytes) n

pub frame_after_length : (most size n past : ℕ) (bytes : List ℕ) → IsWholeAt bytes size n → n ≤ most → past ≡ size + n → past ≤ length bytes → IsFrameAt Length most bytes size past past
frame_after_length most size n past bytes at short is inside =
    let e : past - size ≡ n = omega arith in
    let sized : length (take n (drop size bytes)) ≡ n = length-take-le n (drop size bytes) (omega (arith, length-drop size bytes)) in
    let whole : length (take past bytes) ≡ past = length-take-le past bytes inside in
    let some : length (take size bytes) ≡ size = length-take-le size bytes at.inside in
    record {
      some = omega (arith, ap length at.is_var_int.parts, length-append at.is_var_int.front (at.is_var_int.last ∷ []));
      in_order = omega arith;
      within = omega arith;
      inside = inside;
      begins = rw e (record {
        is_frame = record {
          short = omega arith;
          spells = (take size bytes, (rw sized at.is_var_int, ap (λ (k : ℕ). take k bytes) is ∙ take_two size n bytes at.inside));
        };
        front = rw whole (sym (take-append-drop past bytes));
      });
    }

-- a frame has the length that stands before it
after_length : (most size n : ℕ) (bytes : List ℕ) (item : Spelled) → IsWholeAt bytes size n → BeginsWith Length most bytes item
    → (length item.frame ≡ n) × (length item.spelling ≡ size + n) × (length item.spelling ≤ length bytes)
after_length most size n bytes item at begins =
    let same : length item.frame ≡ n = length_is most bytes item n (whole_begins bytes size n at) begins in
    let is = begins.is_frame.spells in
    let whole : bytes ≡ is.0 ++ (item.frame ++ drop (length item.spelling) bytes) = length_first most bytes item begins in
    let prefix : is.0 ≡ take size bytes =
    var_int_once is.0 (take size bytes) (length item.frame) n (item.frame ++ drop (length item.spelling) bytes) (drop size bytes) is.1.0 at.is_var_int
    (sym whole ∙ sym (take-append-drop size bytes)) in
    let sized : length is.0 ≡ size = ap length prefix ∙ length-take-le size bytes at.inside in (
      same,
      ap length is.1.1 ∙ length-append is.0 item.frame ∙ omega arith,
      omega (arith, ap length begins.front, length-append item.spelling (drop (length item.spelling) bytes)),
    )

pub waits_for_body : (most size n : ℕ) (bytes : List ℕ) → IsWholeAt bytes size n → n ≤ most → length bytes < size + n → IsWaiting Length most bytes
waits_for_body most size n bytes at short less = record { no_frame = no_frame; no_fault = no_fault } where
  no_frame : (item : Spelled) → BeginsWith Length most bytes item → ⊥
  no_frame item begins = let is = after_length most size n bytes item at begins in absurd (omega (arith, is.1, is.2))

  no_fault : IsFaulty Length most bytes → ⊥
  no_fault (inl long) =
      let same : n ≡ long.0 = one_number bytes [] n long.0 (whole_begins bytes size n at) (subst (λ (xs : List ℕ). BeginsWithVarInt xs long.0) (sym (append-nil bytes)) long.1.1) in
      absurd (omega (arith, long.1.0))
  no_fault (inr bad) = no_end_begins_none bytes n bad (whole_begins bytes size n at)

-- a frame that was found is found when more stands behind it
pub frame_more : (framing : Framing) (most : ℕ) (bytes more : List ℕ) (from to past : ℕ) → IsFrameAt framing most bytes from to past → IsFrameAt framing most (bytes ++ more) from to past
frame_more framing most bytes more from to past at =
    let spelling : take past (bytes ++ more) ≡ take past bytes = take-append-le past bytes more at.inside in
    let frame : take (to - from) (drop from (bytes ++ more)) ≡ take (to - from) (drop from bytes) =
    ap (λ xs. take (to - from) xs) (drop-append-le from bytes more (omega (arith, at.in_order, at.within, at.inside)))
    ∙ take-append-le (to - from) (drop from bytes) more (omega (arith, length-drop from bytes, at.in_order, at.within, at.inside)) in
    record {
      some = at.some;
      in_order = at.in_order;
      within = at.within;
      inside = omega (arith, at.inside, length-append bytes more);
      begins = rw (spelling, frame) (begins_more framing most bytes more (record { spelling = take past bytes; frame = take (to - from) (drop from bytes) }) at.begins);
    }

pub next_stays : (framing : Framing) (most held : ℕ) (bytes : List ℕ) (next : Next) → IsNextOf framing most (take held bytes) next
    → ((next ≡ TooLong) ⊎ (next ≡ BadLength) → ⊥) → (next ≡ Waiting → ⊥) → IsNextOf framing most bytes next
next_stays framing most held bytes Waiting waiting sound not_waiting = absurd (not_waiting refl)
next_stays framing most held bytes (Frame from to end) at sound not_waiting =
    subst (λ (xs : List ℕ). IsFrameAt framing most xs from to end) (take-append-drop held bytes) (frame_more framing most (take held bytes) (drop held bytes) from to end at)
next_stays framing most held bytes TooLong long sound not_waiting = absurd (sound (inl refl))
next_stays framing most held bytes BadLength bad sound not_waiting = absurd (sound (inr refl))

-- bytes begin with a frame, with a fault or with neither
abbrev Start : Framing → ℕ → List ℕ → Type 0
Start framing most bytes = ((item : Spelled) × BeginsWith framing most bytes item) ⊎ (IsFaulty framing most bytes ⊎ IsWaiting framing most bytes)

start_after_length : (most : ℕ) (bytes : List ℕ) → ((size n : ℕ) × IsWholeAt bytes size n) ⊎ All HasMore (take 5 bytes) → Start Length most bytes
start_after_length most bytes (inl at) = by (cases_lt most at.1) (cases_lt (length bytes) (at.0 + at.1)) where
  by : (most < at.1) ⊎ (at.1 ≤ most) → (length bytes < at.0 + at.1) ⊎ (at.0 + at.1 ≤ length bytes) → Start Length most bytes
  by (inl long) room = inr (inl (inl (length_too_long most at.0 at.1 bytes at.2 long)))
  by (inr short) (inl less) = inr (inr (waits_for_body most at.0 at.1 bytes at.2 short less))
  by (inr short) (inr more) = inl (_, (frame_after_length most at.0 at.1 (at.0 + at.1) bytes at.2 short refl more).begins)
start_after_length most bytes (inr more) = by (cases_lt (length bytes) 5) where
  by : (length bytes < 5) ⊎ (5 ≤ length bytes) → Start Length most bytes
  by (inl short) = inr (inr (open_waits most bytes short (subst (All HasMore) (take_all 5 bytes (omega (arith, short))) more)))
  by (inr long) = inr (inl (inr (long, more)))

start_before_mark : (most : ℕ) (bytes : List ℕ) → ((n : ℕ) × IsMarkAt (take (most + 1) bytes) n) ⊎ IsPlain (take (most + 1) bytes) → Start Record most bytes
start_before_mark most bytes (inl found) = inl (_, (marked_frame most bytes found.0 found.1).begins)
start_before_mark most bytes (inr plain) = by (cases_lt most (length bytes)) where
  by : (most < length bytes) ⊎ (length bytes ≤ most) → Start Record most bytes
  by (inl long) = inr (inl (inl (long, plain)))
  by (inr short) = inr (inr (plain_waits most bytes plain short))

pub start_of : (framing : Framing) (most : ℕ) (bytes : List ℕ)
    → ((item : Spelled) × BeginsWith framing most bytes item) ⊎ (IsFaulty framing most bytes ⊎ IsWaiting framing most bytes)
start_of Record most bytes = start_before_mark most bytes (find_mark (take (most + 1) bytes))
start_of Length most bytes = start_after_length most bytes (find_var_int bytes)

-- bytes begin with a frame or with none
pub find_frame : (framing : Framing) (most : ℕ) (bytes : List ℕ)
    → ((item : Spelled) × BeginsWith framing most bytes item) ⊎ ((item : Spelled) → BeginsWith framing most bytes item → ⊥)
find_frame framing most bytes = by (start_of framing most bytes) where
  by : Start framing most bytes → ((item : Spelled) × BeginsWith framing most bytes item) ⊎ ((item : Spelled) → BeginsWith framing most bytes item → ⊥)
  by (inl found) = inl found
  by (inr (inl (inl long))) = inr (λ item. too_long_begins_none framing most bytes item long)
  by (inr (inl (inr bad))) = inr (λ item. bad_length_begins_none framing most bytes item bad)
  by (inr (inr waiting)) = inr waiting.no_frame

-- and with one fault at most
pub one_fault : (framing : Framing) (most : ℕ) (bytes : List ℕ) → IsTooLong framing most bytes → IsBadLength framing bytes → ⊥
one_fault Record most bytes long bad = bad
one_fault Length most bytes long bad = no_end_begins_none bytes long.0 bad long.1.1

-- what is lent is the frame
pub lent_begins : (framing : Framing) (most start from to past : ℕ) (items : List ℕ) → IsFrameAt framing most (drop start items) from to past
    → BeginsWith framing most (drop start items) (record { spelling = take past (drop start items); frame = take (start + to - (start + from)) (drop (start + from) items) })
lent_begins framing most start from to past items at =
    let size : start + to - (start + from) ≡ to - from = omega arith in
    rw (size, ← drop-drop from start items) at.begins

-- the fields past a frame
pub past_view : (framing : Framing) (most place start past_it total : ℕ) (items : List ℕ) (item : Spelled) → length item.spelling ≡ past_it → total ≡ place_of (place + past_it)
    → (let h : Held = record { framing = framing; most = most; place = total; bytes = drop (start + past_it) items } in h)
    ≡ after_pass (record { framing = framing; most = most; place = place; bytes = drop start items }) item
past_view framing most place start past_it total items item same sum =
    let e : total ≡ place_of (place + length item.spelling) = omega arith in
    let b : drop (start + past_it) items ≡ drop (length item.spelling) (drop start items) = ap (λ (n : ℕ). drop (start + n) items) (sym same) ∙ sym (drop-drop (length item.spelling) start items) in
    cc

-- the bytes held after a piece was added behind them
pub held_more : (start start' : ℕ) (items items' after piece : List ℕ) → start' ≤ length items' → drop start' items' ≡ drop start items → after ≡ items' ++ piece → drop start' after ≡ drop start items ++ piece
held_more start start' items items' after piece inside same e =
    ap (λ xs. drop start' xs) e ∙ drop-append-le start' items' piece inside ∙ ap (λ xs. xs ++ piece) same

-- a full buffer holds a frame or a fault
waits_short : (most : ℕ) (bytes : List ℕ) → IsWaiting Length most bytes → ((size n : ℕ) × IsWholeAt bytes size n) ⊎ All HasMore (take 5 bytes) → length bytes < most + 5
waits_short most bytes waiting (inl at) = by (cases_lt most at.1) (cases_lt (length bytes) (at.0 + at.1)) where
  by : (most < at.1) ⊎ (at.1 ≤ most) → (length bytes < at.0 + at.1) ⊎ (at.0 + at.1 ≤ length bytes) → length bytes < most + 5
  by (inl long) room = absurd (waiting.no_fault (inl (length_too_long most at.0 at.1 bytes at.2 long)))
  by (inr short) (inl less) = omega (arith, at.2.is_var_int.short, length-take-le at.0 bytes at.2.inside)
  by (inr short) (inr more) = absurd (waiting.no_frame _ (frame_after_length most at.0 at.1 (at.0 + at.1) bytes at.2 short refl more).begins)
waits_short most bytes waiting (inr more) = by (cases_lt (length bytes) 5) where
  by : (length bytes < 5) ⊎ (5 ≤ length bytes) → length bytes < most + 5
  by (inl few) = omega arith
  by (inr many) = absurd (waiting.no_fault (inr (many, more)))

pub waits_not_full : (framing : Framing) (most : ℕ) (bytes : List ℕ) → IsWaiting framing most bytes → length bytes < most + 5
waits_not_full Record most bytes waiting = by (cases_lt most (length bytes)) where
  by : (most < length bytes) ⊎ (length bytes ≤ most) → length bytes < most + 5
  by (inl long) = absurd (waiting.no_fault (inl (long, All-take (λ b. b ≢ 30) (most + 1) bytes (waiting_plain most bytes waiting))))
  by (inr short) = omega arith
waits_not_full Length most bytes waiting = waits_short most bytes waiting (find_var_int bytes)
