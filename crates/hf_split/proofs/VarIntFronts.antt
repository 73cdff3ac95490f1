-- VarInts at the front of bytes: there is one at most.
use Rattle.std.proofs.Common.{◌≡◌, ◌<◌, ◌≤◌, ◌+◌, ◌⊎◌, inl, inr, ℕ, zero, suc, List, [], ◌∷◌, ◌++◌, length, take, drop, get_or, refl, sym, ◌∙◌, ap, subst, arith, append_assoc, length-append, length-take}
use Rattle.std.specs.List.{All, AllByRecursion}
use Rattle.std.proofs.lemmas.Bool.{cases_lt}
use Rattle.std.proofs.lemmas.List.{get_or-take, get_or_at, take_all, take_at, take-append-le, take-append-drop}
use Rattle.std.proofs.lemmas.List.Elements.{recursion_from_All, All-from_recursion}
use Rattle.hf_split.specs.VarInts.{HasMore, base_128, IsVarInt, BeginsWithVarInt, BeginsWithNoEnd}
use Rattle.hf_split.specs.Nexts.{IsWholeAt}

-- two runs of bytes that say that more follow, each before a last one at the front of one list, are one
fronts_once : (f g a b : List ℕ) (x y : ℕ) → AllByRecursion HasMore f → AllByRecursion HasMore g → x < 128 → y < 128
    → f ++ x ∷ a ≡ g ++ y ∷ b → (f ≡ g) × (x ≡ y)
fronts_once [] [] a b x y p q l m e = (refl, cc)
fronts_once [] (z ∷ g) a b x y p q l m e = let same : x ≡ z = cc in absurd (omega (arith, q.0))
fronts_once (z ∷ f) [] a b x y p q l m e = let same : z ≡ y = cc in absurd (omega (arith, p.0))
fronts_once (z ∷ f) (w ∷ g) a b x y p q l m e =
    let tail : f ++ x ∷ a ≡ g ++ y ∷ b = cc in
    let rest = fronts_once f g a b x y p.1 q.1 l m tail in
    let same : f ≡ g = rest.0 in
    (cc, rest.1)

-- the bytes that a VarInt's are the front of
spread : (p a : List ℕ) (m : ℕ) (is : IsVarInt p m) → p ++ a ≡ is.front ++ is.last ∷ a
spread p a m is = ap (λ xs. xs ++ a) is.parts ∙ append_assoc is.front (is.last ∷ []) a

pub var_int_once : (p q : List ℕ) (m n : ℕ) (a b : List ℕ) → IsVarInt p m → IsVarInt q n → p ++ a ≡ q ++ b → p ≡ q
var_int_once p q m n a b is it e =
    let same = fronts_once is.front it.front a b is.last it.last (recursion_from_All HasMore is.front is.more) (recursion_from_All HasMore it.front it.more) is.end it.end
    (sym (spread p a m is) ∙ e ∙ spread q b n it) in
    is.parts ∙ ap (λ xs. xs ++ is.last ∷ []) same.0 ∙ ap (λ (x : ℕ). it.front ++ x ∷ []) same.1 ∙ sym it.parts

pub one_number : (bytes more : List ℕ) (m n : ℕ) → BeginsWithVarInt bytes m → BeginsWithVarInt (bytes ++ more) n → m ≡ n
one_number bytes more m n x y =
    let e : x.prefix ++ (x.rest ++ more) ≡ y.prefix ++ y.rest = sym (append_assoc x.prefix x.rest more) ∙ ap (λ xs. xs ++ more) (sym x.whole) ∙ y.whole in
    let same : x.prefix ≡ y.prefix = var_int_once x.prefix y.prefix m n (x.rest ++ more) y.rest x.is_var_int y.is_var_int e in
    x.is_var_int.value ∙ ap base_128 same ∙ sym y.is_var_int.value

pub var_int_more : (bytes more : List ℕ) (n : ℕ) → BeginsWithVarInt bytes n → BeginsWithVarInt (bytes ++ more) n
var_int_more bytes more n x = record {
  prefix = x.prefix;
  rest = x.rest ++ more;
  is_var_int = x.is_var_int;
  whole = ap (λ xs. xs ++ more) x.whole ∙ append_assoc x.prefix x.rest more;
}

-- a VarInt ends where its first byte without the top bit stands
pub ends_before : (bytes : List ℕ) (n limit : ℕ) (x : BeginsWithVarInt bytes n) → length x.prefix ≤ limit → All HasMore (take limit bytes) → ⊥
ends_before bytes n limit x short more =
    let k : ℕ = length x.is_var_int.front in
    let whole : bytes ≡ x.is_var_int.front ++ x.is_var_int.last ∷ x.rest = x.whole ∙ spread x.prefix x.rest n x.is_var_int in
    let size : length x.prefix ≡ length x.is_var_int.front + 1 = ap length x.is_var_int.parts ∙ length-append x.is_var_int.front (x.is_var_int.last ∷ []) in
    let total : length bytes ≡ length x.is_var_int.front + length (x.is_var_int.last ∷ x.rest) = ap length whole ∙ length-append x.is_var_int.front (x.is_var_int.last ∷ x.rest) in
    let here : get_or bytes (length x.is_var_int.front) 0 ≡ x.is_var_int.last =
    ap (λ xs. get_or xs (length x.is_var_int.front) 0) whole ∙ get_or_at x.is_var_int.front x.is_var_int.last x.rest 0 (length x.is_var_int.front) refl in
    let taken : get_or (take limit bytes) (length x.is_var_int.front) 0 ≡ get_or bytes (length x.is_var_int.front) 0 =
    get_or-take limit bytes (length x.is_var_int.front) 0 (omega arith) in
    let high : 128 ≤ get_or (take limit bytes) (length x.is_var_int.front) 0 = more (length x.is_var_int.front) 0 (omega (arith, length-take limit bytes)) in
    absurd (omega (arith, x.is_var_int.end))

pub no_end_begins_none : (bytes : List ℕ) (n : ℕ) → BeginsWithNoEnd bytes → BeginsWithVarInt bytes n → ⊥
no_end_begins_none bytes n endless x = ends_before bytes n 5 x x.is_var_int.short endless.1

pub no_end_more : (bytes more : List ℕ) → BeginsWithNoEnd bytes → BeginsWithNoEnd (bytes ++ more)
no_end_more bytes more endless =
    (omega (arith, endless.0, length-append bytes more), subst (All HasMore) (sym (take-append-le 5 bytes more endless.0)) endless.1)

pub open_begins_none : (bytes : List ℕ) (n : ℕ) → All HasMore bytes → BeginsWithVarInt bytes n → ⊥
open_begins_none bytes n more x =
    let total : length bytes ≡ length x.prefix + length x.rest = ap length x.whole ∙ length-append x.prefix x.rest in
    ends_before bytes n (length bytes) x (omega arith) (subst (All HasMore) (sym (take_all (length bytes) bytes (omega arith))) more)

pub whole_begins : (bytes : List ℕ) (size n : ℕ) → IsWholeAt bytes size n → BeginsWithVarInt bytes n
whole_begins bytes size n at = record {
  prefix = take size bytes;
  rest = drop size bytes;
  is_var_int = at.is_var_int;
  whole = sym (take-append-drop size bytes);
}

-- a run of bytes that say that more follow and then one that doesn't, or no such byte among the first
record IsEnded (room : ℕ) (bytes : List ℕ) : Type 0 where
  front : List ℕ
  last : ℕ
  rest : List ℕ
  whole : bytes ≡ front ++ last ∷ rest
  more : AllByRecursion HasMore front
  end : last < 128
  within : length front < room

ended_more : (room b : ℕ) (bytes : List ℕ) → HasMore b → IsEnded room bytes → IsEnded (suc room) (b ∷ bytes)
ended_more room b bytes high x = record {
  front = b ∷ x.front;
  last = x.last;
  rest = x.rest;
  whole = ap (λ xs. b ∷ xs) x.whole;
  more = (high, x.more);
  end = x.end;
  within = omega (arith, x.within);
}

look : (room : ℕ) (bytes : List ℕ) → IsEnded room bytes ⊎ AllByRecursion HasMore (take room bytes)
look zero bytes = inr tt
look (suc room) [] = inr tt
look (suc room) (b ∷ bytes) = by (cases_lt b 128) (look room bytes) where
  by : (b < 128) ⊎ (128 ≤ b) → IsEnded room bytes ⊎ AllByRecursion HasMore (take room bytes) → IsEnded (suc room) (b ∷ bytes) ⊎ AllByRecursion HasMore (take (suc room) (b ∷ bytes))
  by (inl low) rest = inl (record { front = []; last = b; rest = bytes; whole = refl; more = tt; end = low; within = omega arith })
  by (inr high) (inl x) = inl (ended_more room b bytes high x)
  by (inr high) (inr more) = inr (high, more)

-- a run and the byte behind it are a VarInt
pub is_var_int : (front : List ℕ) (last : ℕ) → All HasMore front → last < 128 → length front < 5 → IsVarInt (front ++ last ∷ []) (base_128 (front ++ last ∷ []))
is_var_int front last more end short = record {
  front = front;
  last = last;
  parts = refl;
  more = more;
  end = end;
  short = omega (arith, length-append front (last ∷ []));
  value = refl;
}

-- bytes begin with a VarInt, or with none, whatever follows within five bytes
pub find_var_int : (bytes : List ℕ) → ((size n : ℕ) × IsWholeAt bytes size n) ⊎ All HasMore (take 5 bytes)
find_var_int bytes = by (look 5 bytes) where
  by : IsEnded 5 bytes ⊎ AllByRecursion HasMore (take 5 bytes) → ((size n : ℕ) × IsWholeAt bytes size n) ⊎ All HasMore (take 5 bytes)
  by (inl x) =
      let prefix : List ℕ = x.front ++ x.last ∷ [] in
      let size : length (x.front ++ x.last ∷ []) ≡ length x.front + 1 = length-append x.front (x.last ∷ []) in
      let whole : bytes ≡ (x.front ++ x.last ∷ []) ++ x.rest = x.whole ∙ sym (append_assoc x.front (x.last ∷ []) x.rest) in
      let total : length bytes ≡ length (x.front ++ x.last ∷ []) + length x.rest = ap length whole ∙ length-append (x.front ++ x.last ∷ []) x.rest in
      let taken : take (length (x.front ++ x.last ∷ [])) bytes ≡ x.front ++ x.last ∷ [] =
      ap (λ xs. take (length (x.front ++ x.last ∷ [])) xs) whole ∙ take_at (x.front ++ x.last ∷ []) x.rest (length (x.front ++ x.last ∷ [])) refl in
      inl (
        length (x.front ++ x.last ∷ []),
        base_128 (x.front ++ x.last ∷ []),
        record {
          inside = omega arith;
          is_var_int = subst (λ (xs : List ℕ). IsVarInt xs (base_128 (x.front ++ x.last ∷ []))) (sym taken)
              (is_var_int x.front x.last (All-from_recursion HasMore x.front x.more) x.end x.within);
        },
      )
  by (inr more) = inr (All-from_recursion HasMore (take 5 bytes) more)
