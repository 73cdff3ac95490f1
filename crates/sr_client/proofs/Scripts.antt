-- Lines of a client's script, and what one more makes of what they ask for.
use Rattle.std.proofs.Common.{◌≡◌, ◌≤◌, ℕ, zero, suc, ◌⊎◌, inl, inr, List, [], ◌∷◌, ◌++◌, Option, Some, None, refl, sym, ◌∙◌, ap, subst, append_assoc, arith}
use Rattle.std.specs.Prelude.{slice_get}
use Rattle.std.specs.Str.{IsUtf8}
use Rattle.std.proofs.lemmas.List.{append-nil}
use Rattle.hd_facts.specs.Unique.{IsTheOne}
use Rattle.hd_calls.specs.declared.vocabulary.CallKind.TheVariants as kind
use Rattle.hd_client.specs.declared.order.Order.{Order}
use Rattle.hd_client.specs.declared.order.Order.TheVariants.{Call, Item, Done, Cancel, Wait, Lose}
use Rattle.sr_script.specs.Script.{IsPassedOver}
use Rattle.sr_client.specs.Grammar.{Asks, Adds, HasFewUploads, IsScript}
use Rattle.sr_client.proofs.ScriptLines.{not_passed}

-- ---- one line

pub line_passed : (line : List ℕ) → IsUtf8 line × IsPassedOver line → IsTheOne (Adds line) []
line_passed line (utf8, passed) = record { holds = (utf8, inl (passed, refl)); only = λ other adds. same other adds.1 } where
  same : (other : List Order) → (IsPassedOver line × (other ≡ [])) ⊎ ((order : Order) × (Asks line order × (other ≡ order ∷ []))) → other ≡ []
  same other (inl (again, e)) = e
  same other (inr (order, (asks, e))) = absurd (not_passed line order asks passed)

pub line_asks : (line : List ℕ) (order : Order) → IsUtf8 line → IsTheOne (Asks line) order → IsTheOne (Adds line) (order ∷ [])
line_asks line order utf8 one = record { holds = (utf8, inr (order, (one.holds, refl))); only = λ other adds. same other adds.1 } where
  same : (other : List Order) → (IsPassedOver line × (other ≡ [])) ⊎ ((x : Order) × (Asks line x × (other ≡ x ∷ []))) → other ≡ order ∷ []
  same other (inl (passed, e)) = absurd (not_passed line order one.holds passed)
  same other (inr (x, (asks, e))) = e ∙ ap (λ (y : Order). y ∷ []) (one.only x asks)

pub not_utf8 : (line : List ℕ) → (IsUtf8 line → ⊥) → (orders : List Order) → Adds line orders → ⊥
not_utf8 line none orders adds = none adds.0

pub adds_none : (line : List ℕ) → (IsUtf8 line × IsPassedOver line → ⊥) → ((order : Order) → Asks line order → ⊥) → (orders : List Order) → Adds line orders → ⊥
adds_none line not_over none orders (utf8, inl (passed, e)) = not_over (utf8, passed)
adds_none line not_over none orders (utf8, inr (order, (asks, e))) = none order asks

-- ---- lines

more_lines : (lines : List (List ℕ)) (line : List ℕ) (orders first : List Order) → IsScript lines orders → Adds line first → IsScript (lines ++ line ∷ []) (orders ++ first)
more_lines [] line orders first script adds = (first, [], (adds, refl, ap (λ (xs : List Order). xs ++ first) script ∙ sym (append-nil first)))
more_lines (l ∷ lines) line orders first (front, rest, (adds_front, script, e)) adds = (
  front,
  rest ++ first,
  (adds_front, more_lines lines line rest first script adds, ap (λ (xs : List Order). xs ++ first) e ∙ append_assoc front rest first),
)

-- a script in two parts
record Parts (lines more : List (List ℕ)) (orders : List Order) : Type 0 where
  pub front : List Order
  pub rest : List Order
  pub of_front : IsScript lines front
  pub of_rest : IsScript more rest
  pub whole : orders ≡ front ++ rest

parts : (lines more : List (List ℕ)) (orders : List Order) → IsScript (lines ++ more) orders → Parts lines more orders
parts [] more orders script = record { front = []; rest = orders; of_front = refl; of_rest = script; whole = refl }
parts (l ∷ lines) more orders (first, others, (adds, script, e)) = let p = parts lines more others script in record {
  front = first ++ p.front;
  rest = p.rest;
  of_front = (first, p.front, (adds, p.of_front, refl));
  of_rest = p.of_rest;
  whole = e ∙ ap (λ (xs : List Order). first ++ xs) p.whole ∙ sym (append_assoc first p.front p.rest);
}

-- lines from the first on are a script if they are one with those after them
pub script_before : (lines more : List (List ℕ)) (orders : List Order) → IsScript (lines ++ more) orders → (front : List Order) × IsScript lines front
script_before lines more orders script = let p = parts lines more orders script in (p.front, p.of_front)

-- one line adds what it adds
one_adds : (line : List ℕ) (orders : List Order) → IsScript (line ∷ []) orders → Adds line orders
one_adds line orders (first, rest, (adds, script, e)) =
    subst (λ xs. Adds line xs) (sym (e ∙ ap (λ (xs : List Order). first ++ xs) script ∙ append-nil first)) adds

pub script_more : (lines : List (List ℕ)) (line : List ℕ) (orders first : List Order) → IsTheOne (IsScript lines) orders → IsTheOne (Adds line) first
    → IsTheOne (IsScript (lines ++ line ∷ [])) (orders ++ first)
script_more lines line orders first one adds = record {
  holds = more_lines lines line orders first one.holds adds.holds;
  only = λ other script. (let p = parts lines (line ∷ []) other script in
      p.whole ∙ ap (λ (xs : List Order). xs ++ p.rest) (one.only p.front p.of_front)
      ∙ ap (λ (xs : List Order). orders ++ xs) (adds.only p.rest (one_adds line p.rest p.of_rest)));
}

pub no_script : (lines : List (List ℕ)) (line : List ℕ) → ((first : List Order) → Adds line first → ⊥) → (orders : List Order) → IsScript (lines ++ line ∷ []) orders → ⊥
no_script lines line none orders script = let p = parts lines (line ∷ []) orders script in none p.rest (one_adds line p.rest p.of_rest)

-- ---- uploads

asks_few : (line : List ℕ) (order : Order) → Asks line order → HasFewUploads order
asks_few line (Call kind.Notify target arguments uploads) is = is.called.1
asks_few line (Call kind.Stream target arguments uploads) is = omega (arith, is.called.1)
asks_few line (Call kind.Call target arguments uploads) is = by is.called where
  by : ((is.word ≡ 99 ∷ 97 ∷ 108 ∷ 108 ∷ []) × (uploads ≡ 0)) ⊎ ((is.word ≡ 117 ∷ 112 ∷ 108 ∷ 111 ∷ 97 ∷ 100 ∷ []) × (uploads ≡ 1)) → uploads ≤ 1
  by (inl none) = omega (arith, none.1)
  by (inr one) = omega (arith, one.1)
asks_few line (Item call value) is = tt
asks_few line (Done call) is = tt
asks_few line (Cancel call) is = tt
asks_few line Wait is = tt
asks_few line Lose is = tt

-- each order of these has few uploads
abbrev pub AllFew : List Order → Type 0
AllFew orders = (n : ℕ) (order : Order) → slice_get orders n ≡ Some order → HasFewUploads order

few_more : (order : Order) (orders : List Order) → HasFewUploads order → AllFew orders → AllFew (order ∷ orders)
few_more order orders one more zero other e = subst HasFewUploads (let same : ◌≡◌ {A = Option Order} (Some order) (Some other) = e in cc) one
few_more order orders one more (suc n) other e = more n other e

none_few : AllFew []
none_few n order e = absurd (let no : ◌≡◌ {A = Option Order} None (Some order) = e in cc)

pub few_in : (lines : List (List ℕ)) (orders : List Order) → IsScript lines orders → AllFew orders
few_in [] orders script = subst (λ xs. AllFew xs) (sym script) none_few
few_in (line ∷ lines) orders (first, rest, ((utf8, inl (passed, none)), script, e)) =
    subst (λ xs. AllFew xs) (sym (e ∙ ap (λ (xs : List Order). xs ++ rest) none)) (few_in lines rest script)
few_in (line ∷ lines) orders (first, rest, ((utf8, inr (order, (asks, one))), script, e)) =
    subst (λ xs. AllFew xs) (sym (e ∙ ap (λ (xs : List Order). xs ++ rest) one)) (few_more order rest (asks_few line order asks) (few_in lines rest script))
