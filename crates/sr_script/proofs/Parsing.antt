-- A text that is read line by line, and the line at which that ends.
use Rattle.std.proofs.Common.{◌≡◌, ◌<◌, ◌≤◌, ◌+◌, ◌-◌, ℕ, suc, min, ◌⊎◌, inl, inr, List, [], ◌∷◌, ◌++◌, length, take, drop, reverse, refl, sym, ◌∙◌, ap, subst, arith, append_assoc, length-append, length-take, length-drop}
use Rattle.std.specs.Str.{IsUtf8}
use Rattle.std.proofs.lemmas.Bool.{cases_lt}
use Rattle.std.proofs.lemmas.List.{append-nil, take-append-drop, take_at, drop_all, drop-drop, take-take, flat_map_more, reverse-append}
use Rattle.hd_facts.specs.Unique.{IsTheOne}
use Rattle.sr_script.specs.declared.line.Asked.{Asked}
use Rattle.sr_script.specs.declared.script.Reader.{Reader}
use Rattle.sr_script.specs.declared.script.ScriptError.{ScriptError}
use Rattle.sr_script.specs.declared.script.ScriptError.TheVariants.{Line, NoMemory}
use Rattle.sr_script.specs.Lines.{lines_of, text_of}
use Rattle.sr_script.specs.Script.{Program, IsPassedOver, IsScript, Parses, IsScriptUpTo, IsFirstLacking, IsRefusedAt}
use Rattle.sr_script.specs.Asking.{and_then}
use Rattle.sr_script.specs.Turns.{Knows}
use Rattle.sr_script.specs.Reading.{HasRead, IsLineEnd, Comes, CantCome, RefusesText}
use Rattle.sr_script.proofs.Texts.{first_line, same_lines, lines_grow}
use Rattle.sr_script.proofs.Scripts.{script_before, passed_over, asked_for, no_line}

-- the line at a place of a text, by its end
abbrev pub line_at : List ℕ → ℕ → ℕ → List ℕ
line_at text at end = take end (drop at text)

-- the place after it
abbrev pub place_after : List ℕ → ℕ → ℕ → ℕ
place_after text at end = at + min (end + 1) (length (drop at text))

-- ---- places

-- a place and the lines before it
record Stands (text : List ℕ) (at : ℕ) (lines : List (List ℕ)) : Type 0 where
  pub whole : lines_of text ≡ lines ++ lines_of (drop at text)
  pub place : at ≡ min (length text) (length (text_of lines))

stands_next : (text : List ℕ) (at end : ℕ) (lines : List (List ℕ)) → at < length text → IsLineEnd (drop at text) end → Stands text at lines
    → Stands text (place_after text at end) (lines ++ line_at text at end ∷ [])
stands_next text at end lines inside is stands =
    let size : length (drop at text) ≡ length text - at = length-drop at text in
    let line : List ℕ = take end (drop at text) in
    let next : lines_of (drop at text) ≡ line ∷ lines_of (drop (min (end + 1) (length (drop at text))) (drop at text)) = first_line (drop at text) end (omega arith) is in
    let lines' : text_of (lines ++ line ∷ []) ≡ text_of lines ++ (line ++ 10 ∷ []) = sym (flat_map_more (λ line. line ++ 10 ∷ []) [] lines line) in
    let long : length line ≡ end = ap (λ (n : ℕ). n) (length-take end (drop at text)) ∙ (let h : min end (length (drop at text)) ≡ end = (let i : end ≤ length (drop at text) = is.inside in omega arith) in h) in
    record {
      whole = stands.whole ∙ ap (λ xs. lines ++ xs) next
          ∙ ap (λ (xs : List ℕ). lines ++ (line ∷ lines_of xs)) (drop-drop (min (end + 1) (length (drop at text))) at text)
          ∙ sym (append_assoc lines (line ∷ []) (lines_of (drop (at + min (end + 1) (length (drop at text))) text)));
      place = omega (arith, stands.place, ap length lines', length-append (text_of lines) (line ++ 10 ∷ []), length-append line (10 ∷ []));
    }

stands_of : (text : List ℕ) (reader : Reader) (p : Program) (read : HasRead reader text p) → Stands text reader.at read.lines
stands_of text reader p read = record { whole = read.whole; place = read.place }

-- the latest line comes first
latest_first : (lines : List (List ℕ)) (line : List ℕ) → reverse (lines ++ line ∷ []) ≡ line ∷ reverse lines
latest_first lines line = reverse-append lines (line ∷ [])

-- ---- one line more

read_more : (text : List ℕ) (end : ℕ) (reader next : Reader) (p q : Program) → reader.at < length text → IsLineEnd (drop reader.at text) end
    → next.at ≡ place_after text reader.at end → next.at ≤ 16777216 → next.number ≡ reader.number + 1 → (read : HasRead reader text p)
    → IsTheOne (IsScript (line_at text reader.at end ∷ reverse read.lines)) q → Knows next.turn q → HasRead next text q
read_more text end reader next p q inside is at within number read one knows =
    let stands = stands_next text reader.at end read.lines inside is (stands_of text reader p read) in
    let line : List ℕ = line_at text reader.at end in
    let size : length (drop reader.at text) ≡ length text - reader.at = length-drop reader.at text in
    let longer = length-append read.lines (line ∷ []) in
    record {
      lines = read.lines ++ line ∷ [];
      whole = stands.whole ∙ ap (λ (n : ℕ). (read.lines ++ line ∷ []) ++ lines_of (drop n text)) (sym at);
      place = at ∙ stands.place;
      within = within;
      number = omega (arith, number, read.number, longer);
      few = omega (arith, read.few, longer, at, size);
      script = subst (λ (ls : List (List ℕ)). IsTheOne (IsScript ls) q) (sym (latest_first read.lines line)) one;
      turn = knows;
    }

pub read_passed : (text : List ℕ) (end : ℕ) (reader next : Reader) (p : Program) → reader.at < length text → IsLineEnd (drop reader.at text) end
    → next.at ≡ place_after text reader.at end → next.at ≤ 16777216 → next.number ≡ reader.number + 1 → next.turn ≡ reader.turn
    → IsUtf8 (line_at text reader.at end) × IsPassedOver (line_at text reader.at end) → HasRead reader text p → HasRead next text p
read_passed text end reader next p inside is at within number turn over read =
    read_more text end reader next p p inside is at within number read
    (passed_over (line_at text reader.at end) (reverse read.lines) p over.0 over.1 read.script)
    (subst (λ t. Knows t p) (sym turn) read.turn)

pub read_asked : (text : List ℕ) (end : ℕ) (reader next : Reader) (p : Program) (x : Asked) → reader.at < length text → IsLineEnd (drop reader.at text) end
    → next.at ≡ place_after text reader.at end → next.at ≤ 16777216 → next.number ≡ reader.number + 1
    → Comes (line_at text reader.at end) p x → Knows next.turn (and_then p x) → HasRead reader text p → HasRead next text (and_then p x)
read_asked text end reader next p x inside is at within number comes knows read =
    read_more text end reader next p (and_then p x) inside is at within number read
    (asked_for (line_at text reader.at end) (reverse read.lines) p x comes read.script) knows

-- ---- refusals

text_of-append : (ls ms : List (List ℕ)) → length (text_of (ls ++ ms)) ≡ length (text_of ls) + length (text_of ms)
text_of-append [] ms = omega arith
text_of-append (l ∷ ls) ms = omega (arith, text_of-append ls ms, length-append (l ++ 10 ∷ []) (text_of (ls ++ ms)), length-append (l ++ 10 ∷ []) (text_of ls))

-- the lines up to a place, the latest first, and those after it
pub turned_lines : (text : List ℕ) (n m : ℕ) → m ≤ n
    → reverse (take n (lines_of text)) ≡ reverse (drop m (take n (lines_of text))) ++ reverse (take m (lines_of text))
turned_lines text n m less =
    ap reverse (sym (take-append-drop m (take n (lines_of text))) ∙ ap (λ xs. xs ++ drop m (take n (lines_of text))) (take-take m n (lines_of text) less))
    ∙ reverse-append (take m (lines_of text)) (drop m (take n (lines_of text)))

pub has_fewer : (text : List ℕ) (n m : ℕ) → m ≤ n → IsScriptUpTo text n → IsScriptUpTo text m
has_fewer text n m less has =
    let both : take n (lines_of text) ≡ take m (lines_of text) ++ drop m (take n (lines_of text)) =
    sym (take-append-drop m (take n (lines_of text))) ∙ ap (λ xs. xs ++ drop m (take n (lines_of text))) (take-take m n (lines_of text) less) in
    let before = script_before (reverse (drop m (take n (lines_of text)))) (reverse (take m (lines_of text))) has.asks
    (subst (λ (ls : List (List ℕ)). IsScript ls has.asks) (turned_lines text n m less) has.script) in
    record {
      there = omega (arith, has.there);
      within = omega (arith, has.within, ap (λ (ls : List (List ℕ)). length (text_of ls)) both, text_of-append (take m (lines_of text)) (drop m (take n (lines_of text))));
      asks = before.0;
      script = before.1;
    }

-- there is one first line up to which a text isn't what it is up to each line before
pub lacking_once : (IsUpTo : ℕ → Type 0) (fewer : (n m : ℕ) → m ≤ n → IsUpTo n → IsUpTo m) (text : List ℕ) (number : ℕ)
    → IsFirstLacking IsUpTo text number → IsTheOne (IsFirstLacking IsUpTo text) number
lacking_once IsUpTo fewer text number refused = record { holds = refused; only = λ other is. same other is } where
  below : (a b : ℕ) → IsFirstLacking IsUpTo text a → IsFirstLacking IsUpTo text b → a < b → ⊥
  below a b x y less = x.bad (fewer y.before a (omega (arith, y.next)) y.good)

  same_by : (other : ℕ) → IsFirstLacking IsUpTo text other → (other < number) ⊎ (number ≤ other) → (number < other) ⊎ (other ≤ number) → other ≡ number
  same_by other is (inl less) more = absurd (below other number is refused less)
  same_by other is (inr le) (inl more) = absurd (below number other refused is more)
  same_by other is (inr le) (inr ge) = omega arith

  same : (other : ℕ) → IsFirstLacking IsUpTo text other → other ≡ number
  same other is = same_by other is (cases_lt other number) (cases_lt number other)

-- a text is refused at one line alone
pub refused_once : (text : List ℕ) (number : ℕ) → IsRefusedAt text number → IsTheOne (IsRefusedAt text) number
refused_once text number refused = lacking_once (IsScriptUpTo text) (has_fewer text) text number refused

-- the lines before a place are a script
lines_read : (text : List ℕ) (reader : Reader) (p : Program) (read : HasRead reader text p) → take (length read.lines) (lines_of text) ≡ read.lines
lines_read text reader p read =
    ap (λ xs. take (length read.lines) xs) read.whole ∙ take_at read.lines (lines_of (drop reader.at text)) (length read.lines) refl

pub good_script : (text : List ℕ) (reader : Reader) (p : Program) (read : HasRead reader text p) → IsScript (reverse (take (length read.lines) (lines_of text))) p
good_script text reader p read = subst (λ (ls : List (List ℕ)). IsScript (reverse ls) p) (sym (lines_read text reader p read)) read.script.holds

pub good_lines : (text : List ℕ) (reader : Reader) (p : Program) (read : HasRead reader text p) → IsScriptUpTo text (length read.lines)
good_lines text reader p read = record {
  there = omega (arith, ap length read.whole, length-append read.lines (lines_of (drop reader.at text)));
  within = rw (lines_read text reader p read) (omega (arith, read.place, read.within));
  asks = p;
  script = good_script text reader p read;
}

-- the lines with the next one
with_next : (text : List ℕ) (end : ℕ) (reader : Reader) (p : Program) (read : HasRead reader text p) → reader.at < length text → IsLineEnd (drop reader.at text) end
    → take (suc (length read.lines)) (lines_of text) ≡ read.lines ++ line_at text reader.at end ∷ []
with_next text end reader p read inside is =
    let stands = stands_next text reader.at end read.lines inside is (stands_of text reader p read) in
    ap (λ xs. take (suc (length read.lines)) xs) stands.whole
    ∙ take_at (read.lines ++ line_at text reader.at end ∷ []) (lines_of (drop (place_after text reader.at end) text)) (suc (length read.lines))
    (omega (arith, length-append read.lines (line_at text reader.at end ∷ [])))

-- the next line isn't one of a script
refused_at : (text : List ℕ) (end : ℕ) (reader : Reader) (p : Program) (read : HasRead reader text p) → reader.at < length text → IsLineEnd (drop reader.at text) end
    → (IsScriptUpTo text (suc (length read.lines)) → ⊥) → IsTheOne (IsRefusedAt text) reader.number
refused_at text end reader p read inside is bad =
    let stands = stands_next text reader.at end read.lines inside is (stands_of text reader p read) in
    let line : List ℕ = line_at text reader.at end in
    refused_once text reader.number (record {
      before = length read.lines;
      next = read.number;
      there = omega (
        arith,
        read.number,
        ap length stands.whole,
        length-append (read.lines ++ line ∷ []) (lines_of (drop (place_after text reader.at end) text)),
        length-append read.lines (line ∷ []),
      );
      good = good_lines text reader p read;
      bad = subst (λ (n : ℕ). IsScriptUpTo text n → ⊥) (sym read.number) bad;
    })

-- it goes past the limit
pub refused_past : (text : List ℕ) (end : ℕ) (reader : Reader) (p : Program) → reader.at < length text → IsLineEnd (drop reader.at text) end
    → 16777216 < place_after text reader.at end → HasRead reader text p → RefusesText (Line reader.number) text
refused_past text end reader p inside is past read =
    let stands = stands_next text reader.at end read.lines inside is (stands_of text reader p read) in (
      refused_at text end reader p read inside is
          (λ has. omega (arith, has.within, stands.place, past, ap (λ (ls : List (List ℕ)). length (text_of ls)) (with_next text end reader p read inside is))),
      λ other parses. omega (arith, parses.short, stands.place, past),
    )

-- no script goes on with it
pub refused_line : (text : List ℕ) (end : ℕ) (reader : Reader) (p : Program) → reader.at < length text → IsLineEnd (drop reader.at text) end
    → (IsUtf8 (line_at text reader.at end) × IsPassedOver (line_at text reader.at end) → ⊥) → CantCome (line_at text reader.at end) p
    → HasRead reader text p → RefusesText (Line reader.number) text
refused_line text end reader p inside is not_over cant read =
    let line : List ℕ = line_at text reader.at end in
    let rest : List (List ℕ) = lines_of (drop (place_after text reader.at end) text) in
    let stands = stands_next text reader.at end read.lines inside is (stands_of text reader p read) in
    let turned : reverse (lines_of text) ≡ reverse rest ++ line ∷ reverse read.lines =
    ap reverse stands.whole ∙ reverse-append (read.lines ++ line ∷ []) rest ∙ ap (λ (ls : List (List ℕ)). reverse rest ++ ls) (latest_first read.lines line) in
    let none : (other : Program) → IsScript (line ∷ reverse read.lines) other → ⊥ = no_line line (reverse read.lines) p not_over cant read.script in (
      refused_at text end reader p read inside is
          (λ has. none has.asks (subst (λ (ls : List (List ℕ)). IsScript ls has.asks)
          (ap reverse (with_next text end reader p read inside is) ∙ latest_first read.lines line) has.script)),
      λ other parses. (let before = script_before (reverse rest) (line ∷ reverse read.lines) other
          (subst (λ (ls : List (List ℕ)). IsScript ls other) turned parses.script) in none before.0 before.1),
    )

-- what the line's reading answers is what the text's does
pub refused_ask : (text : List ℕ) (end : ℕ) (reader : Reader) (p : Program) (e : ScriptError) → reader.at < length text → IsLineEnd (drop reader.at text) end
    → (IsUtf8 (line_at text reader.at end) × IsPassedOver (line_at text reader.at end) → ⊥)
    → ((n : ℕ) → e ≡ Line n → (n ≡ reader.number) × ((q : Program) → Knows reader.turn q → CantCome (line_at text reader.at end) q))
    → HasRead reader text p → RefusesText e text
refused_ask text end reader p (Line n) inside is not_over refuses read =
    let r = refuses n refl in
    subst (λ (k : ℕ). RefusesText (Line k) text) (sym r.0) (refused_line text end reader p inside is not_over (r.1 p read.turn) read)
refused_ask text end reader p NoMemory inside is not_over refuses read = tt

-- ---- the end

pub parsed : (text : List ℕ) (reader : Reader) (p : Program) → length text ≤ reader.at → HasRead reader text p → IsTheOne (Parses text) p
parsed text reader p past read =
    let all : lines_of text ≡ read.lines = read.whole ∙ ap (λ (xs : List ℕ). read.lines ++ lines_of xs) (drop_all reader.at text past) ∙ append-nil read.lines in
    record {
      holds = record {
        short = omega (arith, read.place, read.within, past);
        script = subst (λ (ls : List (List ℕ)). IsScript (reverse ls) p) (sym all) read.script.holds;
      };
      only = λ other parses. read.script.only other (subst (λ (ls : List (List ℕ)). IsScript (reverse ls) other) all parses.script);
    }

-- ---- what comes after the limit

-- It changes no line within the limit.
pub same_up_to : (front a b : List ℕ) (n : ℕ) → 16777216 < length front → IsScriptUpTo (front ++ a) n → take n (lines_of (front ++ b)) ≡ take n (lines_of (front ++ a))
same_up_to front a b n long has =
    let fits : length (text_of (take n (lines_of (front ++ a)))) ≤ 16777216 = omega (arith, has.within, length-append front a) in
    same_lines front a b n has.there (omega arith)

pub has_same : (front a b : List ℕ) (n : ℕ) → 16777216 < length front → IsScriptUpTo (front ++ a) n → IsScriptUpTo (front ++ b) n
has_same front a b n long has =
    let fits : length (text_of (take n (lines_of (front ++ a)))) ≤ 16777216 = omega (arith, has.within, length-append front a) in
    let same = same_up_to front a b n long has in
    record {
      there = omega (arith, ap length same, length-take n (lines_of (front ++ b)), length-take n (lines_of (front ++ a)), has.there);
      within = omega (arith, fits, ap (λ (ls : List (List ℕ)). length (text_of ls)) same);
      asks = has.asks;
      script = subst (λ (ls : List (List ℕ)). IsScript (reverse ls) has.asks) (sym same) has.script;
    }

pub refused_front : (front more : List ℕ) (number : ℕ) → 16777216 < length front → IsTheOne (IsRefusedAt front) number → IsTheOne (IsRefusedAt (front ++ more)) number
refused_front front more number long refused =
    let at : IsRefusedAt (front ++ []) number = subst (λ (xs : List ℕ). IsRefusedAt xs number) (sym (append-nil front)) refused.holds in
    refused_once (front ++ more) number (record {
      before = at.before;
      next = at.next;
      there = omega (arith, refused.holds.there, lines_grow front more);
      good = has_same front [] more at.before long at.good;
      bad = λ has. at.bad (has_same front more [] number long has);
    })
