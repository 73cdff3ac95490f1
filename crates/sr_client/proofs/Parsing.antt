-- A client's script that is read line by line, and the line at which that ends.
use Rattle.std.proofs.Common.{◌≡◌, ◌<◌, ◌≤◌, ◌+◌, ◌-◌, ℕ, suc, min, ◌⊎◌, inl, inr, List, [], ◌∷◌, ◌++◌, length, take, drop, refl, sym, ◌∙◌, ap, subst, arith, append_assoc, length-append, length-take, length-drop}
use Rattle.std.proofs.lemmas.Bool.{cases_lt}
use Rattle.std.proofs.lemmas.List.{append-nil, take-append-drop, take_at, drop_all, drop-drop, take-take, flat_map_more}
use Rattle.hd_facts.specs.Unique.{IsTheOne}
use Rattle.hd_client.specs.declared.order.Order.{Order}
use Rattle.sr_script.specs.declared.script.ScriptError.{ScriptError}
use Rattle.sr_script.specs.declared.script.ScriptError.TheVariants.{Line, NoMemory}
use Rattle.sr_script.specs.Lines.{lines_of, text_of}
use Rattle.sr_script.specs.Laws.{FrontsKeepLines, LinesAreCut}
use Rattle.sr_script.specs.Reading.{IsLineEnd}
use Rattle.sr_client.specs.declared.script.Reader.{Reader}
use Rattle.sr_client.specs.Grammar.{Adds, IsScript, LongIsRefusedByItsFront, Parses, IsScriptUpTo, IsRefusedAt, RefusesText}
use Rattle.sr_client.specs.Reading.{HasRead}
use Rattle.sr_client.proofs.Scripts.{script_before, script_more, no_script}

-- the line at a place of a text, by its end
abbrev pub line_at : List ℕ → ℕ → ℕ → List ℕ
line_at text at end = take end (drop at text)

-- the place after it
abbrev pub place_after : List ℕ → ℕ → ℕ → ℕ
place_after text at end = at + min (end + 1) (length (drop at text))

-- ---- places

-- a place and the lines before it
record Stands (text : List ℕ) (at : ℕ) (lines : List (List ℕ)) : Type 0 where
  pub whole : lines_of text ≡ lines ++ lines_of (drop at text)
  pub place : at ≡ min (length text) (length (text_of lines))

stands_of : (text : List ℕ) (reader : Reader) (read : HasRead reader text) → Stands text reader.at read.lines
stands_of text reader read = record { whole = read.whole; place = read.place }

text_of-append : (ls ms : List (List ℕ)) → length (text_of (ls ++ ms)) ≡ length (text_of ls) + length (text_of ms)
text_of-append [] ms = omega arith
text_of-append (l ∷ ls) ms = omega (arith, text_of-append ls ms, length-append (l ++ 10 ∷ []) (text_of (ls ++ ms)), length-append (l ++ 10 ∷ []) (text_of ls))

-- ---- refusals

has_fewer : (text : List ℕ) (n m : ℕ) → m ≤ n → IsScriptUpTo text n → IsScriptUpTo text m
has_fewer text n m less has =
    let shorter : take m (take n (lines_of text)) ≡ take m (lines_of text) = take-take m n (lines_of text) less in
    let both : take n (lines_of text) ≡ take m (lines_of text) ++ drop m (take n (lines_of text)) =
    sym (take-append-drop m (take n (lines_of text))) ∙ ap (λ xs. xs ++ drop m (take n (lines_of text))) shorter in
    let before = script_before (take m (lines_of text)) (drop m (take n (lines_of text))) has.orders
    (subst (λ (ls : List (List ℕ)). IsScript ls has.orders) both has.script) in
    record {
      there = omega (arith, has.there);
      within = omega (arith, has.within, ap (λ (ls : List (List ℕ)). length (text_of ls)) both, text_of-append (take m (lines_of text)) (drop m (take n (lines_of text))));
      orders = before.0;
      script = before.1;
    }

-- a text is refused at one line alone
pub refused_once : (text : List ℕ) (number : ℕ) → IsRefusedAt text number → IsTheOne (IsRefusedAt text) number
refused_once text number refused = record { holds = refused; only = λ other is. same other is } where
  below : (a b : ℕ) → IsRefusedAt text a → IsRefusedAt text b → a < b → ⊥
  below a b x y less = x.bad (has_fewer text y.before a (omega (arith, y.next)) y.good)

  same_by : (other : ℕ) → IsRefusedAt text other → (other < number) ⊎ (number ≤ other) → (number < other) ⊎ (other ≤ number) → other ≡ number
  same_by other is (inl less) more = absurd (below other number is refused less)
  same_by other is (inr le) (inl more) = absurd (below number other refused is more)
  same_by other is (inr le) (inr ge) = omega arith

  same : (other : ℕ) → IsRefusedAt text other → other ≡ number
  same other is = same_by other is (cases_lt other number) (cases_lt number other)

-- the lines before a place are a script
good_lines : (text : List ℕ) (reader : Reader) (read : HasRead reader text) → IsScriptUpTo text (length read.lines)
good_lines text reader read =
    let first : take (length read.lines) (lines_of text) ≡ read.lines =
    ap (λ xs. take (length read.lines) xs) read.whole ∙ take_at read.lines (lines_of (drop reader.at text)) (length read.lines) refl in
    record {
      there = omega (arith, ap length read.whole, length-append read.lines (lines_of (drop reader.at text)));
      within = rw first (omega (arith, read.place, read.within));
      orders = reader.orders.items;
      script = subst (λ (ls : List (List ℕ)). IsScript ls reader.orders.items) (sym first) read.script.holds;
    }

module _ (cut : LinesAreCut) (text : List ℕ) (end : ℕ) (reader : Reader) (inside : reader.at < length text) (is : IsLineEnd (drop reader.at text) end) where
  abbrev line : List ℕ
  line = line_at text reader.at end

  stands_next : (lines : List (List ℕ)) → Stands text reader.at lines → Stands text (place_after text reader.at end) (lines ++ line ∷ [])
  stands_next lines stands =
      let at : ℕ = reader.at in
      let size : length (drop at text) ≡ length text - at = length-drop at text in
      let next : lines_of (drop at text) ≡ line ∷ lines_of (drop (min (end + 1) (length (drop at text))) (drop at text)) = cut (drop at text) end (omega arith) is in
      let lines' : text_of (lines ++ line ∷ []) ≡ text_of lines ++ (line ++ 10 ∷ []) = sym (flat_map_more (λ l. l ++ 10 ∷ []) [] lines line) in
      let long : length line ≡ end = ap (λ (n : ℕ). n) (length-take end (drop at text)) ∙ (let h : min end (length (drop at text)) ≡ end = (let i : end ≤ length (drop at text) = is.inside in omega arith) in h) in
      record {
        whole = stands.whole ∙ ap (λ xs. lines ++ xs) next
            ∙ ap (λ (xs : List ℕ). lines ++ (line ∷ lines_of xs)) (drop-drop (min (end + 1) (length (drop at text))) at text)
            ∙ sym (append_assoc lines (line ∷ []) (lines_of (drop (at + min (end + 1) (length (drop at text))) text)));
        place = omega (arith, stands.place, ap length lines', length-append (text_of lines) (line ++ 10 ∷ []), length-append line (10 ∷ []));
      }

  -- ---- one line more

  pub read_more : (next : Reader) (first : List Order) → next.at ≡ place_after text reader.at end → next.at ≤ 1048576 → next.number ≡ reader.number + 1
      → next.orders.items ≡ reader.orders.items ++ first → IsTheOne (Adds line) first → HasRead reader text → HasRead next text
  read_more next first at within number orders adds read =
      let stands = stands_next read.lines (stands_of text reader read) in
      let size : length (drop reader.at text) ≡ length text - reader.at = length-drop reader.at text in
      let longer = length-append read.lines (line ∷ []) in
      record {
        lines = read.lines ++ line ∷ [];
        whole = stands.whole ∙ ap (λ (n : ℕ). (read.lines ++ line ∷ []) ++ lines_of (drop n text)) (sym at);
        place = at ∙ stands.place;
        within = within;
        number = omega (arith, number, read.number, longer);
        few = omega (arith, read.few, longer, at, size);
        script = subst (λ (xs : List Order). IsTheOne (IsScript (read.lines ++ line ∷ [])) xs) (sym orders)
            (script_more read.lines line reader.orders.items first read.script adds);
      }

  -- the lines with the next one
  with_next : (read : HasRead reader text) → take (suc (length read.lines)) (lines_of text) ≡ read.lines ++ line ∷ []
  with_next read =
      let stands = stands_next read.lines (stands_of text reader read) in
      ap (λ xs. take (suc (length read.lines)) xs) stands.whole
      ∙ take_at (read.lines ++ line ∷ []) (lines_of (drop (place_after text reader.at end) text)) (suc (length read.lines))
      (omega (arith, length-append read.lines (line ∷ [])))

  -- the next line isn't one of a script
  refused_at : (read : HasRead reader text) → (IsScriptUpTo text (suc (length read.lines)) → ⊥) → IsTheOne (IsRefusedAt text) reader.number
  refused_at read bad =
      let stands = stands_next read.lines (stands_of text reader read) in
      refused_once text reader.number (record {
        before = length read.lines;
        next = read.number;
        there = omega (
          arith,
          read.number,
          ap length stands.whole,
          length-append (read.lines ++ line ∷ []) (lines_of (drop (place_after text reader.at end) text)),
          length-append read.lines (line ∷ []),
        );
        good = good_lines text reader read;
        bad = subst (λ (n : ℕ). IsScriptUpTo text n → ⊥) (sym read.number) bad;
      })

  -- it goes past the limit
  pub refused_past : 1048576 < place_after text reader.at end → HasRead reader text → RefusesText (Line reader.number) text
  refused_past past read =
      let stands = stands_next read.lines (stands_of text reader read) in (
        refused_at read (λ has. omega (arith, has.within, stands.place, past, ap (λ (ls : List (List ℕ)). length (text_of ls)) (with_next read))),
        λ other parses. omega (arith, parses.short, stands.place, past),
      )

  -- no script goes on with it
  refused_line : ((first : List Order) → Adds line first → ⊥) → HasRead reader text → RefusesText (Line reader.number) text
  refused_line none read =
      let rest : List (List ℕ) = lines_of (drop (place_after text reader.at end) text) in
      let stands = stands_next read.lines (stands_of text reader read) in (
        refused_at read (λ has. no_script read.lines line none has.orders (subst (λ (ls : List (List ℕ)). IsScript ls has.orders) (with_next read) has.script)),
        λ other parses. (let before = script_before (read.lines ++ line ∷ []) rest other
            (subst (λ (ls : List (List ℕ)). IsScript ls other) stands.whole parses.script) in no_script read.lines line none before.0 before.1),
      )

  -- what the line's reading answers is what the text's does
  pub refused_add : (e : ScriptError) → ((n : ℕ) → e ≡ Line n → (n ≡ reader.number) × ((first : List Order) → Adds line first → ⊥)) → HasRead reader text → RefusesText e text
  refused_add (Line n) refuses read =
      let r = refuses n refl in
      subst (λ (k : ℕ). RefusesText (Line k) text) (sym r.0) (refused_line r.1 read)
  refused_add NoMemory refuses read = tt

-- ---- the beginning and the end

pub parsed : (text : List ℕ) (reader : Reader) → length text ≤ reader.at → HasRead reader text → IsTheOne (Parses text) reader.orders.items
parsed text reader past read =
    let all : lines_of text ≡ read.lines = read.whole ∙ ap (λ (xs : List ℕ). read.lines ++ lines_of xs) (drop_all reader.at text past) ∙ append-nil read.lines in
    record {
      holds = record {
        short = omega (arith, read.place, read.within, past);
        script = subst (λ (ls : List (List ℕ)). IsScript ls reader.orders.items) (sym all) read.script.holds;
      };
      only = λ other parses. read.script.only other (subst (λ (ls : List (List ℕ)). IsScript ls other) all parses.script);
    }

-- ---- what comes after the limit

-- It changes no line within the limit.
has_same : FrontsKeepLines → (front a b : List ℕ) (n : ℕ) → 1048576 < length front → IsScriptUpTo (front ++ a) n → IsScriptUpTo (front ++ b) n
has_same fronts front a b n long has =
    let fits : length (text_of (take n (lines_of (front ++ a)))) ≤ 1048576 = omega (arith, has.within, length-append front a) in
    let same : take n (lines_of (front ++ b)) ≡ take n (lines_of (front ++ a)) = fronts.same front a b n has.there (omega arith) in
    record {
      there = omega (arith, ap length same, length-take n (lines_of (front ++ b)), length-take n (lines_of (front ++ a)), has.there);
      within = omega (arith, fits, ap (λ (ls : List (List ℕ)). length (text_of ls)) same);
      orders = has.orders;
      script = subst (λ (ls : List (List ℕ)). IsScript ls has.orders) (sym same) has.script;
    }

pub refused_front : FrontsKeepLines → LongIsRefusedByItsFront
refused_front fronts front more number long refused =
    let at : IsRefusedAt (front ++ []) number = subst (λ (xs : List ℕ). IsRefusedAt xs number) (sym (append-nil front)) refused.holds in
    refused_once (front ++ more) number (record {
      before = at.before;
      next = at.next;
      there = omega (arith, refused.holds.there, fronts.no_fewer front more);
      good = has_same fronts front [] more at.before long at.good;
      bad = λ has. at.bad (has_same fronts front more [] number long has);
    })
