-- The whole input of a task.
use Rattle.std.proofs.Common.{codes, ◌≡◌, ◌≢◌, ◌<◌, ◌≤◌, ◌+◌, ◌-◌, ◌^◌, ℕ, inl, inr, List, [], ◌∷◌, ◌++◌, length, take, drop, Option, Some, None, refl, sym, ◌∙◌, ap, subst, arith, append_assoc, length-append}
use Rattle.std.specs.Io.KnownBytes.{Appends, Consumes, IsAtEnd, Keeps}
use Rattle.std.specs.Fmt.{decimal}
use Rattle.std.proofs.Math.Seq.{take-append-add}
use Rattle.std.proofs.lemmas.List.{nil_from_length, take-take, take_at, append-nil, take_all, take-append-drop}
use Rattle.hf_split.specs.declared.framing.Framing.{Framing}
use Rattle.hf_split.specs.declared.framing.Framing.TheVariants.{Record, Length}
use Rattle.hf_split.specs.Cuts.{Spelled, BeginsWith, IsFaulty}
use Rattle.hf_split.specs.Held.{Held, at_start}
use Rattle.sr_check.specs.declared.task.Task.{Task}
use Rattle.sr_check.specs.declared.task.Stop.{Stop}
use Rattle.sr_check.specs.declared.task.Stop.TheVariants as stop
use Rattle.sr_check.specs.Output.{framing, last_text}
use Rattle.sr_check.specs.Stream.{IsFrontText, IsCut, IsStop, IsDone, IsStopped, IsBegun, IsPart, IsAllSoFar, ReadsNoFurther, most_bytes, most_piece, followed_part}
use Rattle.sr_check.specs.Going.{IsAt, IsResting, IsSoFar, IsWholeSoFar, IsBegunSoFar, IsStoppedSoFar, IsPartSoFar, IsLastPut, Ends, EndsAt, EndsInput}
use Rattle.hd_facts.specs.Writes.{IsText, Writes, WritesOfRead}
use Rattle.sr_check.specs.Laws.{FaultsLast}
use Rattle.sr_check.proofs.Following.{appends_more, appends_part, front_at, frames_at, place_is}
use Rattle.sr_check.proofs.Pieces.{front_more, stop_more}

-- ---- the end of what is followed

followed-all : (stream : List ℕ) → length stream ≤ most_bytes → followed_part stream ≡ stream
followed-all stream within = take_all most_bytes stream within

followed-front : (stream more : List ℕ) → length stream ≤ most_bytes → followed_part (stream ++ more) ≡ stream ++ take (most_bytes - length stream) more
followed-front stream more within =
    ap (λ n. take n (stream ++ more)) (let e : most_bytes ≡ length stream + (most_bytes - length stream) = omega (arith, within) in e) ∙ take-append-add stream more (most_bytes - length stream)

cut-rest : (t : Task) (held : Held) (stream : List ℕ) (items : List Spelled) (text : List ℕ) → IsAt t held stream items text → IsResting t held → IsCut t stream items held.bytes
cut-rest t held stream items text at resting = record {
  whole = at.stands.whole;
  each = frames_at t held stream items text at;
  ends = resting.waiting.no_frame;
}

-- nothing is left
pub whole_rest : (t : Task) (held : Held) (now : Option (List ℕ)) → IsResting t held → length held.bytes ≡ 0
    → (stream : List ℕ) (before : Option (List ℕ)) → IsSoFar t held stream before now → IsWholeSoFar t stream before now
whole_rest t held now resting none stream before far = record {
  items = far.items;
  text = far.text;
  cut = subst (λ (xs : List ℕ). IsCut t stream far.items xs) (nil_from_length held.bytes none) (cut-rest t held stream far.items far.text far.at resting);
  written = far.at.written;
  wrote = far.wrote;
}

-- the task ends with what is written last
at-last : (t : Task) (bytes : List ℕ) (items : List Spelled) (text last : List ℕ) (before now then_ : Option (List ℕ)) (how : Stop) → IsFrontText t (followed_part bytes) items text
    → IsStopped t bytes (text ++ last) → Appends before now text → IsLastPut how last now then_ → EndsAt t how bytes before then_
at-last t bytes items text last before now then_ stop.Refused front stopped wrote put = (text ++ last, stopped, appends_more before now then_ text last wrote put)
at-last t bytes items text last before now then_ stop.WriteFault front stopped wrote put = (text ++ last, inr stopped, appends_part before now then_ text last put.0 wrote put.1)
at-last t bytes items text last before now then_ stop.NoMemory front stopped wrote put =
    (text, (items, front), subst (λ (xs : List ℕ). Appends before then_ xs) (append-nil text) (appends_more before now then_ text [] wrote put))
at-last t bytes items text last before now then_ stop.ReadFault front stopped wrote put = absurd put

-- something is left
pub ends_rest : (t : Task) (held : Held) (now then_ : Option (List ℕ)) (last : List ℕ) (how : Stop) → IsResting t held → 0 < length held.bytes
    → last ≡ last_text t held.place (codes "unfinished " ++ decimal (length held.bytes)) → IsLastPut how last now then_
    → (stream : List ℕ) (before : Option (List ℕ)) → length stream ≤ most_bytes → IsSoFar t held stream before now → EndsAt t how stream before then_
ends_rest t held now then_ last how resting some is put stream before within far =
    let front : IsFrontText t (followed_part stream) far.items far.text =
    subst (λ (xs : List ℕ). IsFrontText t xs far.items far.text) (sym (followed-all stream within)) (front_at t held stream far.items far.text far.at) in
    at-last t stream far.items far.text last before now then_ how front (
      far.items,
      far.text,
      last,
      front,
      inr (inl (record {
        within = within;
        rest = held.bytes;
        cut = cut-rest t held stream far.items far.text far.at resting;
        some = λ none. omega (arith, some, ap length none);
        not_bad = resting.waiting.no_fault;
        text_is = is ∙ ap (λ (n : ℕ). last_text t n (codes "unfinished " ++ decimal (length held.bytes))) (place_is t held stream far.items far.text far.at);
      })),
      refl,
    ) far.wrote put

pub ends_rest_memory : (t : Task) (held : Held) (now : Option (List ℕ)) (how : Stop) → how ≡ stop.NoMemory
    → (stream : List ℕ) (before : Option (List ℕ)) → length stream ≤ most_bytes → IsSoFar t held stream before now → EndsAt t how stream before now
ends_rest_memory t held now how is stream before within far =
    rw is (far.text, (far.items, subst (λ (xs : List ℕ). IsFrontText t xs far.items far.text) (sym (followed-all stream within)) (front_at t held stream far.items far.text far.at)), far.wrote)

-- more is there than is followed
ends-limit : (t : Task) (held : Held) (now then_ : Option (List ℕ)) (last : List ℕ) (how : Stop) → IsResting t held
    → last ≡ last_text t held.place (codes "limit") → IsLastPut how last now then_
    → (stream more : List ℕ) (before : Option (List ℕ)) → length stream ≡ most_bytes → 0 < length more → IsSoFar t held stream before now → EndsAt t how (stream ++ more) before then_
ends-limit t held now then_ last how resting is put stream more before size some far =
    let same : followed_part (stream ++ more) ≡ stream = take_at stream more most_bytes size in
    let front : IsFrontText t (followed_part (stream ++ more)) far.items far.text =
    subst (λ (xs : List ℕ). IsFrontText t xs far.items far.text) (sym same) (front_at t held stream far.items far.text far.at) in
    at-last t (stream ++ more) far.items far.text last before now then_ how front (
      far.items,
      far.text,
      last,
      front,
      inr (inr (record {
        past = omega (arith, size, some, length-append stream more);
        rest = held.bytes;
        cut = subst (λ (xs : List ℕ). IsCut t xs far.items held.bytes) (sym same) (cut-rest t held stream far.items far.text far.at resting);
        not_bad = resting.waiting.no_fault;
        text_is = is ∙ ap (λ (n : ℕ). last_text t n (codes "limit")) (place_is t held stream far.items far.text far.at);
      })),
      refl,
    ) far.wrote put

begun-followed : (t : Task) (stream more text : List ℕ) → length stream ≤ most_bytes → IsBegunSoFar t stream text → IsBegun t (stream ++ more) text
begun-followed t stream more text within begun =
    (begun.0, subst (λ (xs : List ℕ). IsFrontText t xs begun.0 text) (sym (followed-front stream more within)) (front_more t stream (take (most_bytes - length stream) more) begun.0 text begun.1))

stopped-followed : FaultsLast → (t : Task) (stream more text : List ℕ) → length stream ≤ most_bytes → IsStoppedSoFar t stream text → IsStopped t (stream ++ more) text
stopped-followed lasts t stream more text within stopped =
    let part : List ℕ = take (most_bytes - length stream) more in
    let front = sym (followed-front stream more within) in (
      stopped.0,
      stopped.1,
      stopped.2,
      subst (λ (xs : List ℕ). IsFrontText t xs stopped.0 stopped.1) front (front_more t stream part stopped.0 stopped.1 stopped.3),
      inl (subst (λ (xs : List ℕ). IsStop t xs stopped.0 stopped.2) front (stop_more lasts t stream part stopped.0 stopped.2 stopped.4)),
      stopped.5,
    )

part-followed : FaultsLast → (t : Task) (stream more text : List ℕ) → length stream ≤ most_bytes → IsPartSoFar t stream text → IsPart t (stream ++ more) text
part-followed lasts t stream more text within (inl begun) = inl (begun-followed t stream more text within begun)
part-followed lasts t stream more text within (inr stopped) = inr (stopped-followed lasts t stream more text within stopped)

ends-at : FaultsLast → (t : Task) (how : Stop) (stream more : List ℕ) (before now : Option (List ℕ)) → length stream ≤ most_bytes → Ends t how stream before now → EndsAt t how (stream ++ more) before now
ends-at lasts t stop.Refused stream more before now within ends = (ends.0, stopped-followed lasts t stream more ends.0 within ends.1, ends.2)
ends-at lasts t stop.WriteFault stream more before now within ends = (ends.0, part-followed lasts t stream more ends.0 within ends.1, ends.2)
ends-at lasts t stop.NoMemory stream more before now within ends = (ends.0, begun-followed t stream more ends.0 within ends.1, ends.2)
ends-at lasts t stop.ReadFault stream more before now within ends = absurd ends

-- ---- what was read

pub consumes_more : (a b c : Option (List ℕ)) (xs ys : List ℕ) → Consumes a b xs → Consumes b c ys → Consumes a c (xs ++ ys)
consumes_more None b c xs ys p q = tt
consumes_more (Some a) None c xs ys p q = absurd p
consumes_more (Some a) (Some b) None xs ys p q = absurd q
consumes_more (Some a) (Some b) (Some c) xs ys p q = p ∙ ap (λ zs. xs ++ zs) q ∙ sym (append_assoc xs ys c)

pub consumes_none : (input : Option (List ℕ)) → Consumes input input []
consumes_none None = tt
consumes_none (Some bytes) = refl

consumes_kept : (input rest less : Option (List ℕ)) (stream : List ℕ) → Consumes input rest stream → Keeps rest less → Consumes input less stream
consumes_kept None rest less stream read same = tt
consumes_kept (Some bytes) None less stream read same = absurd read
consumes_kept (Some bytes) (Some rest) None stream read same = absurd same
consumes_kept (Some bytes) (Some rest) (Some less) stream read same = read ∙ ap (λ xs. stream ++ xs) (sym same)

-- nothing more was read
consumes_same : (input rest less : Option (List ℕ)) (stream piece : List ℕ) → Consumes input rest stream → Consumes rest less piece → length piece ≡ 0 → Consumes input less stream
consumes_same input rest less stream piece read more none =
    subst (λ (xs : List ℕ). Consumes input less xs) (ap (λ xs. stream ++ xs) (nil_from_length piece none) ∙ append-nil stream) (consumes_more input rest less stream piece read more)

pub appends_none : (now : Option (List ℕ)) → Appends now now []
appends_none None = tt
appends_none (Some bytes) = sym (append-nil bytes)

-- what is left of an input that is told
abbrev pub behind : Option (List ℕ) → List ℕ
behind None = []
behind (Some rest) = rest

pub told : (input left : Option (List ℕ)) (stream : List ℕ) → Consumes input left stream → IsText input (stream ++ behind left)
told None left stream read = tt
told (Some bytes) None stream read = absurd read
told (Some bytes) (Some rest) stream read = read

-- what was read to the end is the whole input
pub whole_told : (input left : Option (List ℕ)) (stream : List ℕ) → Consumes input left stream → IsAtEnd left → IsText input stream
whole_told None left stream read ended = tt
whole_told (Some bytes) None stream read ended = absurd read
whole_told (Some bytes) (Some rest) stream read ended = read ∙ ap (λ xs. stream ++ xs) ended ∙ append-nil stream

-- ---- so much was read, and its frames were written of

pub record IsReading (t : Task) (held : Held) (input rest : Option (List ℕ)) (left : ℕ) (start now : Option (List ℕ)) : Type 0 where
  pub resting : IsResting t held
  pub stream : List ℕ
  pub read : Consumes input rest stream
  pub size : length stream + left ≡ most_bytes
  pub far : IsSoFar t held stream start now

-- no frame begins with no bytes, and no fault does
none-begins : (f : Framing) (item : Spelled) → BeginsWith f 32768 [] item → ⊥
none-begins Record item begins =
    let size : length item.spelling ≡ length item.frame + 1 = ap length begins.is_frame.spells.0 ∙ length-append item.frame (30 ∷ []) in
    omega (arith, size, ap length begins.front, length-append item.spelling (drop (length item.spelling) []))
none-begins Length item begins =
    let prefix = begins.is_frame.spells.0 in
    let var_int = begins.is_frame.spells.1.0 in
    omega (
      arith,
      ap length var_int.parts,
      length-append var_int.front (var_int.last ∷ []),
      ap length begins.is_frame.spells.1.1,
      length-append prefix item.frame,
      ap length begins.front,
      length-append item.spelling (drop (length item.spelling) []),
    )

none-faulty : (f : Framing) → IsFaulty f 32768 [] → ⊥
none-faulty Record (inl long) = omega (arith, long.0)
none-faulty Record (inr bad) = absurd bad
none-faulty Length (inl long) =
    let begins = long.1.1 in
    let var_int = begins.is_var_int in
    omega (arith, ap length begins.whole, length-append begins.prefix begins.rest, ap length var_int.parts, length-append var_int.front (var_int.last ∷ []))
none-faulty Length (inr bad) = omega (arith, bad.0)

pub reading_first : (t : Task) (held : Held) (input now : Option (List ℕ)) → held ≡ at_start (framing t) 32768 → IsReading t held input input most_bytes now now
reading_first t held input now is = rw is (record {
  resting = record {
    reader = record { framing_is = refl; most = refl };
    waiting = record { no_frame = none-begins (framing t); no_fault = none-faulty (framing t) };
    room = omega arith;
  };
  stream = [];
  read = consumes_none input;
  size = refl;
  far = record {
    items = [];
    text = [];
    at = record { reader = record { framing_is = refl; most = refl }; stands = record { whole = refl; each = tt; place = refl }; written = refl; short = omega arith };
    wrote = appends_none now;
  };
})

pub reading_next : (t : Task) (held next : Held) (input rest less : Option (List ℕ)) (left count : ℕ) (start now then_ : Option (List ℕ)) (piece : List ℕ) → IsReading t held input rest left start now
    → length piece ≡ count → count ≤ left → Consumes rest less piece → IsResting t next
    → ((stream : List ℕ) (before : Option (List ℕ)) → length (stream ++ piece) < 2 ^ 64 → IsSoFar t held stream before now → IsSoFar t next (stream ++ piece) before then_)
    → IsReading t next input less (left - count) start then_
reading_next t held next input rest less left count start now then_ piece reading size within read resting so_far = record {
  resting = resting;
  stream = reading.stream ++ piece;
  read = consumes_more input rest less reading.stream piece reading.read read;
  size = omega (arith, reading.size, size, within, length-append reading.stream piece);
  far = so_far reading.stream start (omega (arith, reading.size, size, within, length-append reading.stream piece)) reading.far;
}

-- nothing is refused in what was read
all-so-far : (t : Task) (held : Held) (input rest : Option (List ℕ)) (left : ℕ) (start now : Option (List ℕ)) → (reading : IsReading t held input rest left start now) → IsAllSoFar t reading.stream reading.far.text
all-so-far t held input rest left start now reading =
    let far = reading.far in record {
      within = omega (arith, reading.size);
      items = far.items;
      rest = held.bytes;
      cut = cut-rest t held reading.stream far.items far.text far.at reading.resting;
      written = far.at.written;
      not_bad = reading.resting.waiting.no_fault;
    }

-- ---- the task ends with the input

ends-input : (t : Task) (how : Stop) (input : Option (List ℕ)) (text : List ℕ) (before now : Option (List ℕ)) → IsText input text → EndsAt t how text before now → EndsInput t how input before now
ends-input t stop.Refused input text before now is ends = (text, ends.0, is, ends.1, ends.2)
ends-input t stop.WriteFault input text before now is ends = (text, ends.0, is, ends.1, ends.2)
ends-input t stop.NoMemory input text before now is ends = (text, ends.0, is, ends.1, ends.2)
ends-input t stop.ReadFault input text before now is ends = absurd ends

-- the input was read to its end
pub input_whole : (t : Task) (held : Held) (input rest less : Option (List ℕ)) (left : ℕ) (start now then_ : Option (List ℕ)) (piece : List ℕ) → IsReading t held input rest left start now
    → Consumes rest less piece → length piece ≡ 0 → IsAtEnd less
    → ((stream : List ℕ) (before : Option (List ℕ)) → IsSoFar t held stream before now → IsWholeSoFar t stream before then_)
    → IsAtEnd less × Writes (IsDone t) input start then_
input_whole t held input rest less left start now then_ piece reading read none ended whole =
    let all = whole reading.stream start reading.far in (
      ended,
      (
        reading.stream,
        all.text,
        whole_told input less reading.stream (consumes_same input rest less reading.stream piece reading.read read none) ended,
        (all.items, omega (arith, reading.size), all.cut, all.written),
        all.wrote,
      ),
    )

pub input_ends : (t : Task) (held : Held) (input rest less : Option (List ℕ)) (left : ℕ) (start now then_ : Option (List ℕ)) (piece : List ℕ) (how : Stop) → IsReading t held input rest left start now
    → Consumes rest less piece → length piece ≡ 0 → IsAtEnd less
    → ((stream : List ℕ) (before : Option (List ℕ)) → length stream ≤ most_bytes → IsSoFar t held stream before now → EndsAt t how stream before then_)
    → EndsInput t how input start then_
input_ends t held input rest less left start now then_ piece how reading read none ended ends =
    ends-input t how input reading.stream start then_ (whole_told input less reading.stream (consumes_same input rest less reading.stream piece reading.read read none) ended) (ends reading.stream start (omega (arith, reading.size)) reading.far)

-- in a piece
pub input_stops : FaultsLast → (t : Task) (held : Held) (input rest less : Option (List ℕ)) (left : ℕ) (start now then_ : Option (List ℕ)) (piece more : List ℕ) (how : Stop) → IsReading t held input rest left start now
    → Consumes rest less (piece ++ more) → length piece ≤ left
    → ((stream : List ℕ) (before : Option (List ℕ)) → length (stream ++ piece) < 2 ^ 64 → IsSoFar t held stream before now → Ends t how (stream ++ piece) before then_)
    → EndsInput t how input start then_
input_stops lasts t held input rest less left start now then_ piece more how reading read within ends =
    let stream : List ℕ = reading.stream ++ piece in
    let size : length stream < 2 ^ 64 = omega (arith, reading.size, within, length-append reading.stream piece) in
    let whole : IsText input (stream ++ (more ++ behind less)) =
    subst (IsText input) (ap (λ xs. xs ++ behind less) (sym (append_assoc reading.stream piece more)) ∙ append_assoc stream more (behind less))
    (told input less (reading.stream ++ (piece ++ more)) (consumes_more input rest less reading.stream (piece ++ more) reading.read read)) in
    ends-input t how input (stream ++ (more ++ behind less)) start then_ whole
    (ends-at lasts t how stream (more ++ behind less) start then_ (omega (arith, reading.size, within, length-append reading.stream piece)) (ends reading.stream start size reading.far))

-- past the limit
pub input_past : (t : Task) (held next : Held) (input rest less : Option (List ℕ)) (left : ℕ) (start now then_ end : Option (List ℕ)) (piece more last : List ℕ) (how : Stop) → IsReading t held input rest left start now
    → Consumes rest less (piece ++ more) → length piece ≡ left → 0 < length more
    → ((stream : List ℕ) (before : Option (List ℕ)) → length (stream ++ piece) < 2 ^ 64 → IsSoFar t held stream before now → IsSoFar t next (stream ++ piece) before then_)
    → IsResting t next → last ≡ last_text t next.place (codes "limit") → IsLastPut how last then_ end
    → EndsInput t how input start end
input_past t held next input rest less left start now then_ end piece more last how reading read size some so_far resting is put =
    let stream : List ℕ = reading.stream ++ piece in
    let total : length stream ≡ most_bytes = omega (arith, reading.size, size, length-append reading.stream piece) in
    let whole : IsText input (stream ++ (more ++ behind less)) =
    subst (IsText input) (ap (λ xs. xs ++ behind less) (sym (append_assoc reading.stream piece more)) ∙ append_assoc stream more (behind less))
    (told input less (reading.stream ++ (piece ++ more)) (consumes_more input rest less reading.stream (piece ++ more) reading.read read)) in
    ends-input t how input (stream ++ (more ++ behind less)) start end whole
    (ends-limit t next then_ end last how resting is put stream (more ++ behind less) start total (omega (arith, some, length-append more (behind less))) (so_far reading.stream start (omega (arith, total)) reading.far))

-- the source failed
pub input_fails : (t : Task) (held : Held) (input rest less : Option (List ℕ)) (left : ℕ) (start now : Option (List ℕ)) → IsReading t held input rest left start now → Keeps rest less
    → WritesOfRead (IsAllSoFar t) input less start now
input_fails t held input rest less left start now reading same = (
  reading.stream,
  reading.far.text,
  consumes_kept input rest less reading.stream reading.read same,
  all-so-far t held input rest left start now reading,
  reading.far.wrote,
)

-- a task doesn't end so in a piece
pub no_read_fault : (t : Task) (held : Held) (input rest : Option (List ℕ)) (left : ℕ) (start now then_ : Option (List ℕ)) (piece : List ℕ) (how : Stop) → IsReading t held input rest left start now → length piece ≤ left
    → ((stream : List ℕ) (before : Option (List ℕ)) → length (stream ++ piece) < 2 ^ 64 → IsSoFar t held stream before now → Ends t how (stream ++ piece) before then_)
    → how ≢ stop.ReadFault
no_read_fault t held input rest left start now then_ piece how reading within ends is =
    absurd (rw is at (ends reading.stream start (omega (arith, reading.size, within, length-append reading.stream piece)) reading.far))

pub no_read_fault_last : (how : Stop) (last : List ℕ) (now then_ : Option (List ℕ)) → IsLastPut how last now then_ → how ≢ stop.ReadFault
no_read_fault_last how last now then_ put is = absurd (rw is at put)

-- ---- how far the input was read

pub read_further : (t : Task) (held : Held) (input rest less : Option (List ℕ)) (left : ℕ) (start now : Option (List ℕ)) (piece : List ℕ) → IsReading t held input rest left start now
    → Consumes rest less piece → length piece ≤ most_piece → ReadsNoFurther t input less
read_further t held input rest less left start now piece reading read short = record {
  front = reading.stream;
  piece = piece;
  text = reading.far.text;
  good = all-so-far t held input rest left start now reading;
  short = short;
  read = consumes_more input rest less reading.stream piece reading.read read;
}

pub read_no_more : (t : Task) (held : Held) (input rest less : Option (List ℕ)) (left : ℕ) (start now : Option (List ℕ)) → IsReading t held input rest left start now
    → Keeps rest less → ReadsNoFurther t input less
read_no_more t held input rest less left start now reading same = record {
  front = reading.stream;
  piece = [];
  text = reading.far.text;
  good = all-so-far t held input rest left start now reading;
  short = omega arith;
  read = subst (λ (xs : List ℕ). Consumes input less xs) (sym (append-nil reading.stream)) (consumes_kept input rest less reading.stream reading.read same);
}

pub read_nothing : (t : Task) (input : Option (List ℕ)) → ReadsNoFurther t input input
read_nothing t input = record {
  front = [];
  piece = [];
  text = [];
  good = record {
    within = omega arith;
    items = [];
    rest = [];
    cut = record { whole = refl; each = tt; ends = none-begins (framing t) };
    written = refl;
    not_bad = none-faulty (framing t);
  };
  short = omega arith;
  read = consumes_none input;
}

-- nothing was written
pub input_untouched : (t : Task) (input now : Option (List ℕ)) → Writes (IsBegun t) input now now
input_untouched t input now =
    (behind input, [], told input input [] (consumes_none input), ([], record { begins = record { more = followed_part (behind input); whole = refl; each = tt }; written = refl }), appends_none now)

-- the part of what was read that stands before the limit, and the rest
pub piece_parts : (left count : ℕ) (buf : List ℕ) → left < count → take left buf ++ drop left (take count buf) ≡ take count buf
piece_parts left count buf less =
    ap (λ xs. xs ++ drop left (take count buf)) (sym (take-take left count buf (let e : left ≤ count = omega (arith, less) in e))) ∙ take-append-drop left (take count buf)
