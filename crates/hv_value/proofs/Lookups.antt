-- What a map of pairs has at a key.
use Rattle.std.proofs.Common.{◌≡◌, ℕ, Bool, true, false, cond, List, [], ◌∷◌, Option, Some, None, ap, refl, sym, ◌∙◌}
use Rattle.std.specs.declared.cmp.Ordering.{Ordering}
use Rattle.std.specs.declared.cmp.Ordering.TheVariants.{Less, Equal, Greater}
use Rattle.std.specs.Ordering.{match_ordering, is_eq}
use Rattle.std.specs.Option.{option_or}
use Rattle.std.specs.Cmp.Lexicographic.{bytes_decides, texts_ties}
use Rattle.std.specs.BTreeMap.{insert_entry}
use Rattle.hv_value.specs.Tree.{Tree, Pair, pairs, key_cmp, put_all, map_of, is_key, value_in, value_at, last_of}

same_key : (k l : List ℕ) → is_key k l ≡ true → k ≡ l
same_key k l e = (bytes_decides k l).0 (texts_ties k l ∙ e)

itself : (k : List ℕ) → is_key k k ≡ true
itself k = sym (texts_ties k k) ∙ (bytes_decides k k).1 refl

never_both : (q k l : List ℕ) → key_cmp k l ≡ Greater → is_key q l ≡ true → is_key q k ≡ true → ⊥
never_both q k l p a b =
    let one : k ≡ l = sym (same_key q k b) ∙ same_key q l a in
    let met : is_key k l ≡ true = ap (is_key k) (sym one) ∙ itself k in
    let apart : is_key k l ≡ false = ap is_eq p in
    cc

twice : (b : Bool) (x y z : Option Tree) → cond b x z ≡ cond b x (cond b y z)
twice true x y z = refl
twice false x y z = refl

other_first : (a b : Bool) (x y z : Option Tree) → (a ≡ true → b ≡ true → ⊥) → cond a x (cond b y z) ≡ cond b y (cond a x z)
other_first true true x y z h = absurd (h refl refl)
other_first true false x y z h = refl
other_first false true x y z h = refl
other_first false false x y z h = refl

pub value_in-insert_entry : (es : List Pair) (k q : List ℕ) (t : Tree) → value_in q (pairs (insert_entry key_cmp es k t)) ≡ cond (is_key q k) (Some t) (value_in q (pairs es))
value_in-insert_entry [] k q t = refl
value_in-insert_entry (e ∷ es) k q t = go (key_cmp k e.0) refl (value_in-insert_entry es k q t)
  where
    go : (o : Ordering) → key_cmp k e.0 ≡ o → value_in q (pairs (insert_entry key_cmp es k t)) ≡ cond (is_key q k) (Some t) (value_in q (pairs es))
        → value_in q (pairs (match_ordering o ((k, t) ∷ e ∷ es) ((e.0, t) ∷ es) (e ∷ insert_entry key_cmp es k t))) ≡ cond (is_key q k) (Some t) (value_in q (pairs (e ∷ es)))
    go Less p rest = refl
    go Equal p rest =
        let same : k ≡ e.0 = same_key k e.0 (ap is_eq p) in
        rw same (twice (is_key q e.0) (Some t) (Some e.1) (value_in q (pairs es)))
    go Greater p rest =
        rw rest (other_first (is_key q e.0) (is_key q k) (Some e.1) (Some t) (value_in q (pairs es)) (never_both q k e.0 p))

or_one : (last : Option Tree) (b : Bool) (t : Tree) (left : Option Tree) → option_or last (cond b (Some t) left) ≡ option_or (option_or last (cond b (Some t) None)) left
or_one (Some x) b t left = refl
or_one None true t left = refl
or_one None false t left = refl

value_in-put_all : (es ps : List Pair) (q : List ℕ) → value_in q (pairs (put_all es ps)) ≡ option_or (last_of q ps) (value_in q (pairs es))
value_in-put_all es [] q = refl
value_in-put_all es (p ∷ ps) q =
    value_in-put_all (insert_entry key_cmp es p.0 p.1) ps q
    ∙ ap (option_or (last_of q ps)) (value_in-insert_entry es p.0 q p.1)
    ∙ or_one (last_of q ps) (is_key q p.0) p.1 (value_in q (pairs es))

or_none : (o : Option Tree) → option_or o None ≡ o
or_none None = refl
or_none (Some t) = refl

-- the last pair of a key counts
pub value_at-map_of : (ps : List Pair) (q : List ℕ) → value_at q (map_of ps) ≡ last_of q ps
value_at-map_of ps q = value_in-put_all [] ps q ∙ or_none (last_of q ps)
