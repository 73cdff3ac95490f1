-- What a map has after headers are put into it one after another.
use Rattle.std.proofs.Common.{◌≡◌, ℕ, Bool, true, false, cond, List, [], ◌∷◌, ◌++◌, Option, Some, None, ap, refl, sym, subst, ◌∙◌, append_assoc}
use Rattle.std.specs.Prelude.{reverse}
use Rattle.std.specs.declared.cmp.Ordering.{Ordering}
use Rattle.std.specs.declared.cmp.Ordering.TheVariants.{Less, Equal, Greater}
use Rattle.std.specs.Ordering.{match_ordering, is_eq, ordering_reverse}
use Rattle.std.specs.Cmp.Lexicographic.{bytes_decides, texts_ties}
use Rattle.std.specs.List.{AllByRecursion}
use Rattle.std.specs.List.Sorted.{IsStrictlySortedBy}
use Rattle.std.specs.BTreeMap.{insert_entry}
use Rattle.std.specs.Map.{keys_of}
use Rattle.std.proofs.lemmas.Cmp.{nat_list_cmp_total}
use Rattle.std.proofs.lemmas.List.{append-nil}
use Rattle.std.proofs.lemmas.Grind.{reverse_onto}
use Rattle.hv_value.specs.Tree.{key_cmp, is_key}
use Rattle.hm_message.specs.Headers.{Header, IsHeaders, header_at}

-- the pairs put in one after another
abbrev pub put_in : List Header → List Header → List Header
put_in es [] = es
put_in es (p ∷ ps) = put_in (insert_entry key_cmp es p.0 p.1) ps

same_key : (k l : List ℕ) → is_key k l ≡ true → k ≡ l
same_key k l e = (bytes_decides k l).0 (texts_ties k l ∙ e)

itself : (k : List ℕ) → is_key k k ≡ true
itself k = sym (texts_ties k k) ∙ (bytes_decides k k).1 refl

never_both : (q k l : List ℕ) → key_cmp k l ≡ Greater → is_key q l ≡ true → is_key q k ≡ true → ⊥
never_both q k l p a b =
    let one : k ≡ l = sym (same_key q k b) ∙ same_key q l a in
    let met : is_key k l ≡ true = ap (is_key k) (sym one) ∙ itself k in
    let apart : is_key k l ≡ false = ap is_eq p in
    cc

twice : (b : Bool) (x y z : Option (List ℕ)) → cond b x z ≡ cond b x (cond b y z)
twice true x y z = refl
twice false x y z = refl

other_first : (a b : Bool) (x y z : Option (List ℕ)) → (a ≡ true → b ≡ true → ⊥) → cond a x (cond b y z) ≡ cond b y (cond a x z)
other_first true true x y z h = absurd (h refl refl)
other_first true false x y z h = refl
other_first false true x y z h = refl
other_first false false x y z h = refl

header_at-insert_entry : (es : List Header) (k q s : List ℕ) → header_at q (insert_entry key_cmp es k s) ≡ cond (is_key q k) (Some s) (header_at q es)
header_at-insert_entry [] k q s = refl
header_at-insert_entry (e ∷ es) k q s = go (key_cmp k e.0) refl (header_at-insert_entry es k q s)
  where
    go : (o : Ordering) → key_cmp k e.0 ≡ o → header_at q (insert_entry key_cmp es k s) ≡ cond (is_key q k) (Some s) (header_at q es)
        → header_at q (match_ordering o ((k, s) ∷ e ∷ es) ((e.0, s) ∷ es) (e ∷ insert_entry key_cmp es k s)) ≡ cond (is_key q k) (Some s) (header_at q (e ∷ es))
    go Less p rest = refl
    go Equal p rest =
        let same : k ≡ e.0 = same_key k e.0 (ap is_eq p) in
        rw same (twice (is_key q e.0) (Some s) (Some e.1) (header_at q es))
    go Greater p rest =
        rw rest (other_first (is_key q e.0) (is_key q k) (Some e.1) (Some s) (header_at q es) (never_both q k e.0 p))

or_else : Option (List ℕ) → Option (List ℕ) → Option (List ℕ)
or_else None d = d
or_else (Some s) d = Some s

header_at-append : (ps qs : List Header) (q : List ℕ) → header_at q (ps ++ qs) ≡ or_else (header_at q ps) (header_at q qs)
unfolding or_else
header_at-append [] qs q = refl
header_at-append (p ∷ ps) qs q = go (is_key q p.0) (header_at-append ps qs q)
  where
    go : (b : Bool) → header_at q (ps ++ qs) ≡ or_else (header_at q ps) (header_at q qs) → cond b (Some p.1) (header_at q (ps ++ qs)) ≡ or_else (cond b (Some p.1) (header_at q ps)) (header_at q qs)
    go true rest = refl
    go false rest = rest

or_one : (last : Option (List ℕ)) (b : Bool) (s : List ℕ) (left : Option (List ℕ)) → or_else last (cond b (Some s) left) ≡ or_else (or_else last (cond b (Some s) None)) left
unfolding or_else
or_one (Some x) b s left = refl
or_one None true s left = refl
or_one None false s left = refl

header_at-put_in : (es ps : List Header) (q : List ℕ) → header_at q (put_in es ps) ≡ or_else (header_at q (reverse ps)) (header_at q es)
unfolding or_else
header_at-put_in es [] q = refl
header_at-put_in es (p ∷ ps) q =
    header_at-put_in (insert_entry key_cmp es p.0 p.1) ps q
    ∙ ap (or_else (header_at q (reverse ps))) (header_at-insert_entry es p.0 q p.1)
    ∙ or_one (header_at q (reverse ps)) (is_key q p.0) p.1 (header_at q es)
    ∙ ap (λ (o : Option (List ℕ)). or_else o (header_at q es)) (sym (header_at-append (reverse ps) (p ∷ []) q))
    ∙ ap (λ (x : List Header). or_else (header_at q x) (header_at q es)) (sym (reverse_onto ps p []))

or_none : (o : Option (List ℕ)) → or_else o None ≡ o
unfolding or_else
or_none None = refl
or_none (Some s) = refl

-- the last pair of a key counts
pub last_counts : (ps : List Header) (q : List ℕ) → header_at q (put_in [] ps) ≡ header_at q (reverse ps)
last_counts ps q = header_at-put_in [] ps q ∙ or_none (header_at q (reverse ps))

-- ---- pairs whose keys are in order

below : (first : Header) (es : List Header) (e : Header) (left : List Header) → AllByRecursion (λ y. key_cmp first.0 y ≡ Less) (keys_of (es ++ e ∷ left)) → key_cmp first.0 e.0 ≡ Less
below first [] e left h = h.0
below first (x ∷ es) e left h = below first es e left h.1

above : (first : Header) (es : List Header) (e : Header) (left : List Header) → AllByRecursion (λ y. key_cmp first.0 y ≡ Less) (keys_of (es ++ e ∷ left)) → key_cmp e.0 first.0 ≡ Greater
above first es e left h = nat_list_cmp_total.antisymm e.0 first.0 ∙ ap ordering_reverse (below first es e left h)

insert_entry-last : (done : List Header) (e : Header) (left : List Header) → IsHeaders (done ++ e ∷ left) → insert_entry key_cmp done e.0 e.1 ≡ done ++ e ∷ []
unfolding IsStrictlySortedBy
insert_entry-last [] e left h = refl
insert_entry-last (first ∷ done) e left h = rw (above first done e left h.0) (ap (λ (x : List Header). first ∷ x) (insert_entry-last done e left h.1))

put_in-sorted : (done left : List Header) → IsHeaders (done ++ left) → put_in done left ≡ done ++ left
put_in-sorted done [] h = sym (append-nil done)
put_in-sorted done (e ∷ left) h =
    let all : (done ++ e ∷ []) ++ left ≡ done ++ e ∷ left = append_assoc done (e ∷ []) left in
    rw (insert_entry-last done e left h) (put_in-sorted (done ++ e ∷ []) left (subst (λ (x : List Header). IsHeaders x) (sym all) h) ∙ all)

-- headers are their own map
pub headers_kept : (ps : List Header) → IsHeaders ps → put_in [] ps ≡ ps
headers_kept ps h = put_in-sorted [] ps h
