-- Texts that begin with lines of a trace: with which lines they do, and where that ends.
use Rattle.std.proofs.Common.{◌≡◌, ◌≢◌, ◌<◌, ◌≤◌, ℕ, suc, ◌⊎◌, inl, inr, List, [], ◌∷◌, ◌++◌, length, Option, refl, sym, ◌∙◌, ap, subst, arith, append_assoc, length-append}
use Rattle.std.proofs.lemmas.Bool.{cases_lt}
use Rattle.std.proofs.lemmas.List.{append-nil}
use Rattle.std.proofs.lemmas.List.Elements.{All-head, All-tail}
use Rattle.hd_facts.specs.Prefixes.{IsPrefix}
use Rattle.hd_facts.specs.Unique.{IsTheOne}
use Rattle.hd_delivery.specs.declared.vocabulary.Side.{Side}
use Rattle.hd_trace.specs.declared.trace.TraceLine.{TraceLine}
use Rattle.ha_audit.specs.declared.head.Head.{Head}
use Rattle.ha_audit.specs.Grammar.{AreLines, IsHead, IsOneLine, IsTrace, head_words, line_text, line_words, most_trace, trace_text}
use Rattle.ha_audit.specs.Laws.{LinesAreLines}
use Rattle.ha_audit.specs.Reading.{Begins, HasFront, IsRefusedAt}
use Rattle.ha_audit.proofs.Once.{first, same_line}
use Rattle.ha_audit.proofs.Lines.{words_line}

-- ---- the first line of a text

-- what its first end of a line cuts is one line alone
pub one_cut : (a b x y : List ℕ) → IsOneLine a → IsOneLine b → a ++ 10 ∷ x ≡ b ++ 10 ∷ y → (a ≡ b) × (x ≡ y)
one_cut [] [] x y p q e = (refl, cc)
one_cut [] (c ∷ b) x y p q e = absurd (All-head (λ k. k ≢ 10) c b q (sym (ap first e)))
one_cut (c ∷ a) [] x y p q e = absurd (All-head (λ k. k ≢ 10) c a p (ap first e))
one_cut (c ∷ a) (d ∷ b) x y p q e =
    let same : c ≡ d = ap first e in
    let rest : a ++ 10 ∷ x ≡ b ++ 10 ∷ y = cc in
    let more = one_cut a b x y (All-tail (λ k. k ≢ 10) c a p) (All-tail (λ k. k ≢ 10) d b q) rest in
    (cc (same, more.0), more.1)

-- one line has no end
pub no_end : (a b x : List ℕ) → IsOneLine a → a ≡ b ++ 10 ∷ x → ⊥
no_end [] [] x p e = absurd (omega (arith, ap length e))
no_end [] (c ∷ b) x p e = absurd (omega (arith, ap length e))
no_end (c ∷ a) [] x p e = All-head (λ k. k ≢ 10) c a p (ap first e)
no_end (c ∷ a) (d ∷ b) x p e = no_end a b x (All-tail (λ k. k ≢ 10) c a p) cc

-- a line and what comes after it
pub ended : (words rest : List ℕ) → (words ++ 10 ∷ []) ++ rest ≡ words ++ 10 ∷ rest
ended words rest = append_assoc words (10 ∷ []) rest

-- ---- traces that begin one text

-- as many lines of traces that begin one text are the same
pub same_front : LinesAreLines → (alone : Option Side) (head other : Head) (lines others : List TraceLine) (x y : List ℕ) → IsHead head → IsHead other
    → AreLines alone lines → AreLines alone others → length lines ≡ length others → trace_text head lines ++ x ≡ trace_text other others ++ y
    → (head ≡ other) × (lines ≡ others) × (x ≡ y)
same_front law alone head other [] [] x y is is' are are' count e =
    let cut = one_cut (head_words head) (head_words other) x y (law.head_line head is) (law.head_line other is')
    (sym (ended (head_words head) x) ∙ e ∙ ended (head_words other) y) in
    (law.one_head head other is is' cut.0, refl, cut.1)
same_front law alone head other [] (b ∷ others) x y is is' are are' count e = absurd (omega (arith, count))
same_front law alone head other (a ∷ lines) [] x y is is' are are' count e = absurd (omega (arith, count))
same_front law alone head other (a ∷ lines) (b ∷ others) x y is is' are are' count e =
    let before = same_front law alone head other lines others (line_text a ++ x) (line_text b ++ y) is is' are.0 are'.0 (omega (arith, count))
    (sym (append_assoc (trace_text head lines) (line_text a) x) ∙ e ∙ append_assoc (trace_text other others) (line_text b) y) in
    let cut = one_cut (line_words a) (line_words b) x y (words_line law a are.1.step) (words_line law b are'.1.step)
    (sym (ended (line_words a) x) ∙ before.2 ∙ ended (line_words b) y) in
    let same : a ≡ b = same_line law a b are.1.step are'.1.step cut.0 in
    (before.0, cc (same, before.1), cut.1)

-- a line is at least its end
some_bytes : (told : TraceLine) (x : List ℕ) → 0 < length (line_text told ++ x)
some_bytes told x = omega (arith, length-append (line_text told) x, length-append (line_words told) (10 ∷ []))

-- a front has no more lines than the whole
pub not_past : LinesAreLines → (alone : Option Side) (head other : Head) (lines others : List TraceLine) (x : List ℕ) → IsHead head → IsHead other
    → AreLines alone lines → AreLines alone others → trace_text head lines ++ x ≡ trace_text other others → length others < length lines → ⊥
not_past law alone head other [] others x is is' are are' e less = omega (arith, less)
not_past law alone head other (a ∷ lines) others x is is' are are' e less =
    let split : trace_text head lines ++ (line_text a ++ x) ≡ trace_text other others = sym (append_assoc (trace_text head lines) (line_text a) x) ∙ e in
    by_count split (cases_lt (length others) (length lines)) (not_past law alone head other lines others (line_text a ++ x) is is' are.0 are' split) where
      by_count : trace_text head lines ++ (line_text a ++ x) ≡ trace_text other others → (length others < length lines) ⊎ (length lines ≤ length others)
          → (length others < length lines → ⊥) → ⊥
      by_count split (inl fewer) none = none fewer
      by_count split (inr most) none =
          let same = same_front law alone head other lines others (line_text a ++ x) [] is is' are.0 are' (omega (arith, most, less))
          (split ∙ sym (append-nil (trace_text other others))) in
          omega (arith, ap length same.2, some_bytes a x)

-- a front that goes on has fewer lines than the whole
pub fewer : LinesAreLines → (alone : Option Side) (head other : Head) (lines others : List TraceLine) (x : List ℕ) → IsHead head → IsHead other
    → AreLines alone lines → AreLines alone others → 0 < length x → trace_text head lines ++ x ≡ trace_text other others → length lines < length others
fewer law alone head other lines others x is is' are are' some e = by_count (cases_lt (length lines) (length others)) (cases_lt (length others) (length lines)) where
  by_count : (length lines < length others) ⊎ (length others ≤ length lines) → (length others < length lines) ⊎ (length lines ≤ length others) → length lines < length others
  by_count (inl less) more = less
  by_count (inr most) (inl less) = absurd (not_past law alone head other lines others x is is' are are' e less)
  by_count (inr most) (inr least) =
      let same = same_front law alone head other lines others x [] is is' are are' (omega (arith, most, least)) (e ∙ sym (append-nil (trace_text other others))) in
      absurd (omega (arith, some, ap length same.2))

as_many : (a b : ℕ) → (a < b → ⊥) → (b < a → ⊥) → a ≡ b
as_many a b below above = by_order (cases_lt a b) (cases_lt b a) where
  by_order : (a < b) ⊎ (b ≤ a) → (b < a) ⊎ (a ≤ b) → a ≡ b
  by_order (inl less) more = absurd (below less)
  by_order (inr most) (inl less) = absurd (above less)
  by_order (inr most) (inr least) = omega (arith, most, least)

-- a text is one trace at most
pub same_trace : LinesAreLines → (alone : Option Side) (text : List ℕ) (head other : Head) (lines others : List TraceLine)
    → IsTrace alone text head lines → IsTrace alone text other others → (head ≡ other) × (lines ≡ others)
same_trace law alone text head other lines others is is' =
    let forth : trace_text head lines ++ [] ≡ trace_text other others = append-nil (trace_text head lines) ∙ sym is.text_is ∙ is'.text_is in
    let back : trace_text other others ++ [] ≡ trace_text head lines = append-nil (trace_text other others) ∙ sym is'.text_is ∙ is.text_is in
    let count = as_many (length lines) (length others)
    (not_past law alone other head others lines [] is'.begun is.begun is'.told is.told back)
    (not_past law alone head other lines others [] is.begun is'.begun is.told is'.told forth) in
    let same = same_front law alone head other lines others [] [] is.begun is'.begun is.told is'.told count (forth ∙ sym (append-nil (trace_text other others))) in
    (same.0, same.1)

-- ---- how many lines begin a text

pub one_less : (alone : Option Side) (text : List ℕ) (head : Head) (last : TraceLine) (before : List TraceLine) → Begins alone text head (last ∷ before)
    → Begins alone text head before
one_less alone text head last before b = record {
  front = record {
    begun = b.front.begun;
    told = b.front.told.0;
    text_is = refl;
    short = omega (arith, b.front.short, length-append (trace_text head before) (line_text last));
  };
  goes_on = (line_text last ++ b.goes_on.0, sym (append_assoc (trace_text head before) (line_text last) b.goes_on.0) ∙ b.goes_on.1);
}

-- a text that begins with lines begins with their head
pub no_lines : (alone : Option Side) (text : List ℕ) (head : Head) (lines : List TraceLine) → Begins alone text head lines → Begins alone text head []
no_lines alone text head [] b = b
no_lines alone text head (last ∷ before) b = no_lines alone text head before (one_less alone text head last before b)

-- a trace begins with itself
pub whole_front : (alone : Option Side) (text : List ℕ) (head : Head) (lines : List TraceLine) → IsTrace alone text head lines → Begins alone text head lines
whole_front alone text head lines is = record {
  front = record { begun = is.begun; told = is.told; text_is = refl; short = omega (arith, is.short, ap length is.text_is) };
  goes_on = ([], append-nil (trace_text head lines) ∙ sym is.text_is);
}

pub cut_to : (alone : Option Side) (text : List ℕ) (head : Head) (lines : List TraceLine) (m : ℕ) → Begins alone text head lines → m ≤ length lines
    → HasFront alone text (suc m)
cut_to alone text head [] m b few = record { head = head; lines = []; begins = b; count_is = omega (arith, few) }
cut_to alone text head (last ∷ before) m b few =
    by_count (cases_lt (length before) m) (cut_to alone text head before m (one_less alone text head last before b)) where
      by_count : (length before < m) ⊎ (m ≤ length before) → (m ≤ length before → HasFront alone text (suc m)) → HasFront alone text (suc m)
      by_count (inl all) less = record { head = head; lines = last ∷ before; begins = b; count_is = omega (arith, all, few) }
      by_count (inr fewer) less = less fewer

pub fewer_lines : (alone : Option Side) (text : List ℕ) (n m : ℕ) → HasFront alone text n → suc m ≤ n → HasFront alone text (suc m)
fewer_lines alone text n m f few = cut_to alone text f.head f.lines m f.begins (omega (arith, f.count_is, few))

-- ---- the first line with which no trace goes on

not_before : (alone : Option Side) (text : List ℕ) (n m : ℕ) → IsRefusedAt alone text n → IsRefusedAt alone text m → m < n → ⊥
not_before alone text n m r s less =
    let front = r.good (λ z. omega (arith, z, r.next, s.next, less)) in
    s.bad (subst (λ (k : ℕ). HasFront alone text k) (sym s.next) (fewer_lines alone text r.before s.before front (omega (arith, r.next, s.next, less))))

pub refused_once : (alone : Option Side) (text : List ℕ) (n m : ℕ) → IsRefusedAt alone text n → IsRefusedAt alone text m → m ≡ n
refused_once alone text n m r s = as_many m n (not_before alone text n m r s) (not_before alone text m n s r)

pub is_the_one : (alone : Option Side) (text : List ℕ) (n : ℕ) → IsRefusedAt alone text n → IsTheOne (IsRefusedAt alone text) n
is_the_one alone text n r = record { holds = r; only = λ m s. refused_once alone text n m r s }

-- ---- a text that is longer than a trace may be

within : (xs ys front more : List ℕ) → xs ++ ys ≡ front ++ more → length xs ≤ length front → IsPrefix xs front
within [] ys front more e few = (front, refl)
within (x ∷ xs) ys [] more e few = absurd (omega (arith, few))
within (x ∷ xs) ys (z ∷ front) more e few =
    let same : x ≡ z = ap first e in
    let rest : xs ++ ys ≡ front ++ more = cc in
    let tail = within xs ys front more rest (omega (arith, few)) in
    (tail.0, cc (same, tail.1))

wider : (alone : Option Side) (front more : List ℕ) (n : ℕ) → HasFront alone front n → HasFront alone (front ++ more) n
wider alone front more n f = record {
  head = f.head;
  lines = f.lines;
  begins = record {
    front = f.begins.front;
    goes_on = (f.begins.goes_on.0 ++ more, sym (append_assoc (trace_text f.head f.lines) f.begins.goes_on.0 more) ∙ ap (λ (t : List ℕ). t ++ more) f.begins.goes_on.1);
  };
  count_is = f.count_is;
}

narrower : (alone : Option Side) (front more : List ℕ) (n : ℕ) → most_trace < length front → HasFront alone (front ++ more) n → HasFront alone front n
narrower alone front more n long f = record {
  head = f.head;
  lines = f.lines;
  begins = record {
    front = f.begins.front;
    goes_on = within (trace_text f.head f.lines) f.begins.goes_on.0 front more f.begins.goes_on.1 (omega (arith, long, f.begins.front.short));
  };
  count_is = f.count_is;
}

pub long_front : (alone : Option Side) (front more : List ℕ) (n : ℕ) → most_trace < length front → IsTheOne (IsRefusedAt alone front) n
    → IsTheOne (IsRefusedAt alone (front ++ more)) n
long_front alone front more n long is = is_the_one alone (front ++ more) n (record {
  before = is.holds.before;
  next = is.holds.next;
  good = λ some. wider alone front more is.holds.before (is.holds.good some);
  bad = λ f. is.holds.bad (narrower alone front more n long f);
})
