-- Texts and headers that are collected one after another, and what the rest adds to them.
use Rattle.std.proofs.Common.{◌≡◌, ℕ, List, [], ◌∷◌, ◌++◌, Option, Some, None, refl, ap, sym, ◌∙◌}
use Rattle.std.specs.Prelude.{option_map}
use Rattle.std.specs.Map.{keys_of}
use Rattle.std.specs.List.Sorted.{IsStrictlySortedBy}
use Rattle.hv_value.specs.Tree.{Tree, Pair, trees, pairs, key_cmp}
use Rattle.hm_message.specs.Headers.{Header, IsHeaders}
use Rattle.hm_message.specs.Fields.{trees_in, pairs_in, text_in, with, all_headers}

pub trees_in-trees : (ts : List Tree) → trees_in (trees ts) ≡ ts
trees_in-trees [] = refl
trees_in-trees (t ∷ ts) = ap (λ (x : List Tree). t ∷ x) (trees_in-trees ts)

pub pairs_in-pairs : (ps : List Pair) → pairs_in (pairs ps) ≡ ps
pairs_in-pairs [] = refl
pairs_in-pairs (p ∷ ps) = ap (λ (x : List Pair). p ∷ x) (pairs_in-pairs ps)

-- what is done, with what the rest gives behind it
abbrev pub after : {A : Type 0} → List A → Option (List A) → Option (List A)
after done rest = option_map (λ xs. done ++ xs) rest

-- headers have the keys of the map that they are
keys_kept : (ps : List Pair) (hs : List Header) → all_headers (pairs ps) ≡ Some hs → keys_of hs ≡ keys_of ps
keys_kept [] hs e = cc
keys_kept ((key, t) ∷ ps) hs e = go (text_in t) (all_headers (pairs ps)) hs (keys_kept ps) e
  where
    go : (o : Option (List ℕ)) (rest : Option (List Header)) (hs : List Header) → ((gs : List Header) → rest ≡ Some gs → keys_of gs ≡ keys_of ps) → with (option_map (λ r. (key, r)) o) rest ≡ Some hs → keys_of hs ≡ key ∷ keys_of ps
    go None None hs f e = absurd cc
    go None (Some gs) hs f e = absurd cc
    go (Some s) None hs f e = absurd cc
    go (Some s) (Some gs) hs f e =
        let same : (key, s) ∷ gs ≡ hs = cc in
        ap keys_of (sym same) ∙ ap (λ (ks : List (List ℕ)). key ∷ ks) (f gs refl)

pub IsHeaders-all_headers : (ps : List Pair) (hs : List Header) → IsStrictlySortedBy key_cmp (keys_of ps) → all_headers (pairs ps) ≡ Some hs → IsHeaders hs
IsHeaders-all_headers ps hs sorted e = rw (keys_kept ps hs e) sorted
