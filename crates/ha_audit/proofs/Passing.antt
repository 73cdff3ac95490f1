-- A text that is read line by line: where its next line is refused, and where it is passed.
use Rattle.std.proofs.Common.{◌≡◌, ◌<◌, ◌≤◌, ◌+◌, ℕ, suc, ◌⊎◌, inl, inr, List, [], ◌∷◌, ◌++◌, length, drop, Option, refl, sym, ◌∙◌, ap, subst, arith, append_assoc, length-append}
use Rattle.std.proofs.lemmas.Bool.{cases_lt}
use Rattle.std.proofs.lemmas.List.{append-nil, drop_at}
use Rattle.hd_delivery.specs.declared.vocabulary.Side.{Side}
use Rattle.hd_trace.specs.declared.trace.TraceLine.{TraceLine}
use Rattle.ha_audit.specs.declared.error.TraceError.TheVariants.{Line}
use Rattle.ha_audit.specs.declared.head.Head.{Head}
use Rattle.ha_audit.specs.declared.reader.Reader.{Reader}
use Rattle.ha_audit.specs.Grammar.{HasLine, IsHead, IsLine, IsOf, IsOneLine, IsTrace, head_words, line_text, line_words, most_trace, trace_text}
use Rattle.ha_audit.specs.Laws.{LinesAreLines}
use Rattle.ha_audit.specs.Reading.{Begins, HasPassed, RefusesText}
use Rattle.ha_audit.proofs.Fronts.{cut_to, ended, fewer, is_the_one, no_end, no_lines, one_cut, same_front, whole_front}
use Rattle.ha_audit.proofs.Lines.{words_line}
use Rattle.ha_audit.proofs.Once.{same_line}

-- ---- the first line

-- no head ends with the first line of these bytes
abbrev pub BlocksHead : List ℕ → Type 0
BlocksHead text = (head : Head) (more : List ℕ) → IsHead head → text ≡ head_words head ++ 10 ∷ more → length (head_words head) + 1 ≤ most_trace → ⊥

no_head : (alone : Option Side) (text : List ℕ) (head : Head) → BlocksHead text → Begins alone text head [] → ⊥
no_head alone text head blocks b =
    blocks head b.goes_on.0 b.front.begun (sym b.goes_on.1 ∙ ended (head_words head) b.goes_on.0)
    (omega (arith, b.front.short, length-append (head_words head) (10 ∷ [])))

pub refused_first : (alone : Option Side) (text : List ℕ) → BlocksHead text → RefusesText alone (Line 1) text
refused_first alone text blocks = (
  is_the_one alone text 1 (record {
    before = 0;
    next = refl;
    good = λ some. absurd (some refl);
    bad = λ f. no_head alone text f.head blocks (no_lines alone text f.head f.lines f.begins);
  }),
  λ head lines is. no_head alone text head blocks (no_lines alone text head lines (whole_front alone text head lines is)),
)

pub no_first_end : (text : List ℕ) → IsOneLine text → BlocksHead text
no_first_end text line = λ head more is e short. no_end text (head_words head) more line e

pub long_first : LinesAreLines → (text words rest : List ℕ) → IsOneLine words → text ≡ words ++ 10 ∷ rest → most_trace ≤ length words → BlocksHead text
long_first law text words rest line cut long = λ head more is e short.
    let same = one_cut words (head_words head) rest more line (law.head_line head is) (sym cut ∙ e) in
    omega (arith, ap length same.0, long, short)

pub wrong_first : LinesAreLines → (text words rest : List ℕ) → IsOneLine words → text ≡ words ++ 10 ∷ rest
    → ((head : Head) → IsHead head → words ≡ head_words head → ⊥) → BlocksHead text
wrong_first law text words rest line cut none = λ head more is e short.
    none head is (one_cut words (head_words head) rest more line (law.head_line head is) (sym cut ∙ e)).0

pub head_front : (alone : Option Side) (text words rest : List ℕ) (head : Head) → text ≡ words ++ 10 ∷ rest → words ≡ head_words head → IsHead head
    → length words < most_trace → Begins alone text head []
head_front alone text words rest head cut words_are is short = record {
  front = record {
    begun = is;
    told = tt;
    text_is = refl;
    short = omega (arith, short, ap length words_are, length-append (head_words head) (10 ∷ []));
  };
  goes_on = (rest, ended (head_words head) rest ∙ ap (λ (w : List ℕ). w ++ 10 ∷ rest) (sym words_are) ∙ sym cut);
}

-- ---- a further line

-- no line that may stand there ends with the first line of these bytes, after so many
abbrev pub Blocks : Option Side → ℕ → List ℕ → Type 0
Blocks alone size rest = (told : TraceLine) (more : List ℕ) → IsLine alone told → rest ≡ line_words told ++ 10 ∷ more
    → size + length (line_words told) + 1 ≤ most_trace → ⊥

no_last : LinesAreLines → (alone : Option Side) (text rest : List ℕ) (head other : Head) (lines others : List TraceLine) → Begins alone text head lines
    → trace_text head lines ++ rest ≡ text → Blocks alone (length (trace_text head lines)) rest → Begins alone text other others
    → suc (suc (length lines)) ≡ suc (length others) → ⊥
no_last law alone text rest head other lines [] b cut blocks f count = omega (arith, count)
no_last law alone text rest head other lines (last ∷ before) b cut blocks f count =
    let same = same_front law alone head other lines before rest (line_text last ++ f.goes_on.0) b.front.begun f.front.begun b.front.told f.front.told.0
    (omega (arith, count)) (cut ∙ sym f.goes_on.1 ∙ append_assoc (trace_text other before) (line_text last) f.goes_on.0) in
    let fronts : trace_text head lines ≡ trace_text other before =
    ap (λ (h : Head). trace_text h lines) same.0 ∙ ap (λ (ls : List TraceLine). trace_text other ls) same.1 in
    blocks last f.goes_on.0 f.front.told.1 (same.2 ∙ ended (line_words last) f.goes_on.0)
    (omega (arith, f.front.short, ap length fronts, length-append (trace_text other before) (line_text last), length-append (line_words last) (10 ∷ [])))

refused_next : LinesAreLines → (alone : Option Side) (text rest : List ℕ) (head : Head) (lines : List TraceLine) → Begins alone text head lines
    → trace_text head lines ++ rest ≡ text → 0 < length rest → Blocks alone (length (trace_text head lines)) rest
    → RefusesText alone (Line (suc (suc (length lines)))) text
refused_next law alone text rest head lines b cut some blocks = (
  is_the_one alone text (suc (suc (length lines))) (record {
    before = suc (length lines);
    next = refl;
    good = λ any. record { head = head; lines = lines; begins = b; count_is = refl };
    bad = λ f. no_last law alone text rest head f.head lines f.lines b cut blocks f.begins f.count_is;
  }),
  λ other others is. (
      let more = fewer law alone head other lines others rest b.front.begun is.begun b.front.told is.told some (cut ∙ is.text_is) in
      let f = cut_to alone text other others (suc (length lines)) (whole_front alone text other others is) (omega (arith, more)) in
      no_last law alone text rest head f.head lines f.lines b cut blocks f.begins f.count_is
      ),
)

-- what the reader has before it
dropped : (alone : Option Side) (reader : Reader) (text : List ℕ) (head : Head) (lines : List TraceLine) (p : HasPassed alone reader text head lines)
    → drop reader.at text ≡ p.begins.goes_on.0
dropped alone reader text head lines p =
    ap (λ (t : List ℕ). drop reader.at t) (sym p.begins.goes_on.1) ∙ drop_at (trace_text head lines) p.begins.goes_on.0 reader.at (sym p.place)

some_left : (place size rest : ℕ) → (place ≡ size → ⊥) → size ≡ place + rest → 0 < rest
some_left place size rest inside sum = by_size (cases_lt 0 rest) where
  by_size : (0 < rest) ⊎ (rest ≤ 0) → 0 < rest
  by_size (inl some) = some
  by_size (inr none) = absurd (inside (omega (arith, sum, none)))

pub refused_passed : LinesAreLines → (alone : Option Side) (reader : Reader) (text : List ℕ) (head : Head) (lines : List TraceLine)
    → HasPassed alone reader text head lines → (reader.at ≡ length text → ⊥) → Blocks alone reader.at (drop reader.at text)
    → RefusesText alone (Line (reader.number + 1)) text
refused_passed law alone reader text head lines p inside blocks =
    let rest = p.begins.goes_on.0 in
    let some : 0 < length rest = some_left reader.at (length text) (length rest) inside
    (omega (arith, p.place, ap length p.begins.goes_on.1, length-append (trace_text head lines) rest)) in
    let block : Blocks alone (length (trace_text head lines)) rest = λ told more is e short.
    blocks told more is (dropped alone reader text head lines p ∙ e) (omega (arith, short, p.place)) in
    subst (λ (n : ℕ). RefusesText alone (Line n) text) (omega (arith, p.number))
    (refused_next law alone text rest head lines p.begins p.begins.goes_on.1 some block)

pub unended : (alone : Option Side) (size : ℕ) (rest : List ℕ) → IsOneLine rest → Blocks alone size rest
unended alone size rest line = λ told more is e short. no_end rest (line_words told) more line e

pub too_far : LinesAreLines → (alone : Option Side) (size : ℕ) (rest words after : List ℕ) → IsOneLine words → rest ≡ words ++ 10 ∷ after
    → most_trace < size + length words + 1 → Blocks alone size rest
too_far law alone size rest words after line cut past = λ told more is e short.
    let same = one_cut words (line_words told) after more line (words_line law told is.step) (sym cut ∙ e) in
    omega (arith, ap length same.0, past, short)

pub no_step : LinesAreLines → (alone : Option Side) (size : ℕ) (rest words after : List ℕ) → IsOneLine words → rest ≡ words ++ 10 ∷ after
    → ((told : TraceLine) → HasLine told.step → words ≡ line_words told → ⊥) → Blocks alone size rest
no_step law alone size rest words after line cut none = λ told more is e short.
    none told is.step (one_cut words (line_words told) after more line (words_line law told is.step) (sym cut ∙ e)).0

pub of_another : LinesAreLines → (alone : Option Side) (size : ℕ) (rest words after : List ℕ) (found : TraceLine) → IsOneLine words
    → rest ≡ words ++ 10 ∷ after → words ≡ line_words found → HasLine found.step → (IsOf alone found.side → ⊥) → Blocks alone size rest
of_another law alone size rest words after found line cut words_are has not = λ told more is e short.
    let same = one_cut words (line_words told) after more line (words_line law told is.step) (sym cut ∙ e) in
    let one : told ≡ found = same_line law told found is.step has (sym same.0 ∙ words_are) in
    not (subst (λ (t : TraceLine). IsOf alone t.side) one is.side)

-- ---- lines that are passed

pub passed_on : (alone : Option Side) (old new : Reader) (text words after : List ℕ) (head : Head) (lines : List TraceLine) (told : TraceLine)
    → HasPassed alone old text head lines → drop old.at text ≡ words ++ 10 ∷ after → words ≡ line_words told → IsLine alone told
    → old.at + length words + 1 ≤ most_trace → new.at ≡ old.at + length words + 1 → new.number ≡ old.number + 1
    → HasPassed alone new text head (told ∷ lines)
passed_on alone old new text words after head lines told p cut words_are is short at number =
    let size : length (trace_text head lines ++ line_text told) ≡ old.at + length words + 1 =
    omega (arith, p.place, ap length words_are, length-append (trace_text head lines) (line_text told), length-append (line_words told) (10 ∷ [])) in
    let rest : p.begins.goes_on.0 ≡ line_words told ++ 10 ∷ after =
    sym (dropped alone old text head lines p) ∙ cut ∙ ap (λ (w : List ℕ). w ++ 10 ∷ after) words_are in
    record {
      begins = record {
        front = record { begun = p.begins.front.begun; told = (p.begins.front.told, is); text_is = refl; short = omega (arith, size, short) };
        goes_on = (
          after,
          append_assoc (trace_text head lines) (line_text told) after
              ∙ ap (λ (r : List ℕ). trace_text head lines ++ r) (ended (line_words told) after ∙ sym rest) ∙ p.begins.goes_on.1,
        );
      };
      place = omega (arith, at, size);
      number = omega (arith, number, p.number);
    }

none_left : (xs : List ℕ) → length xs ≡ 0 → xs ≡ []
none_left [] e = refl
none_left (x ∷ xs) e = absurd (omega (arith, e))

-- after the last line
pub finished : (alone : Option Side) (reader : Reader) (text : List ℕ) (head : Head) (lines : List TraceLine) → HasPassed alone reader text head lines
    → reader.at ≡ length text → IsTrace alone text head lines
finished alone reader text head lines p all =
    let size = length-append (trace_text head lines) p.begins.goes_on.0 in
    let none : p.begins.goes_on.0 ≡ [] = none_left p.begins.goes_on.0 (omega (arith, all, p.place, ap length p.begins.goes_on.1, size)) in
    record {
      begun = p.begins.front.begun;
      told = p.begins.front.told;
      text_is = sym p.begins.goes_on.1 ∙ ap (λ (r : List ℕ). trace_text head lines ++ r) none ∙ append-nil (trace_text head lines);
      short = omega (arith, all, p.place, p.begins.front.short);
    }

-- a trace has no more lines than bytes
few_lines : (head : Head) (lines : List TraceLine) → length lines ≤ length (trace_text head lines)
few_lines head [] = omega arith
few_lines head (told ∷ lines) =
    omega (arith, few_lines head lines, length-append (trace_text head lines) (line_text told), length-append (line_words told) (10 ∷ []))

pub counted : (alone : Option Side) (reader : Reader) (text : List ℕ) (head : Head) (lines : List TraceLine) → HasPassed alone reader text head lines
    → reader.number ≤ most_trace + 1
counted alone reader text head lines p = omega (arith, p.number, few_lines head lines, p.begins.front.short)

-- before the first line after the head
pub started : (alone : Option Side) (reader : Reader) (text : List ℕ) (head : Head) (lines : List TraceLine) → IsTrace alone text head lines
    → reader.at ≡ length (trace_text head []) → reader.number ≡ 1 → HasPassed alone reader text head []
started alone reader text head lines is at number = record {
  begins = no_lines alone text head lines (whole_front alone text head lines is);
  place = at;
  number = number;
}
