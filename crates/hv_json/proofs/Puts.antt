-- A member that is put among members, and a pair that is put among pairs.
use Rattle.std.proofs.Common.{◌≡◌, ℕ, ◌≤◌, Bool, false, ◌||◌, List, [], ◌∷◌, ◌++◌, refl, ap, ◌∙◌, arith}
use Rattle.std.specs.declared.cmp.Ordering.{Ordering}
use Rattle.std.specs.declared.cmp.Ordering.TheVariants.{Less, Equal, Greater}
use Rattle.std.specs.Ordering.{match_ordering}
use Rattle.std.specs.BTreeMap.{insert_entry}
use Rattle.serde_json.specs.Data.{Data, Members, no_members, member, put, depth, members_depth}
use Rattle.serde_json.specs.Written.{has_float, members_have_float}
use Rattle.hv_value.specs.Tree.{Pair, key_cmp, put_all}
use Rattle.hv_json.specs.Reading.{tree_of, pairs_of}
use Rattle.hv_json.proofs.Joins.{or-false}

through : {A B : Type 0} (f : A → B) (o : Ordering) (a b c : A) → f (match_ordering o a b c) ≡ match_ordering o (f a) (f b) (f c)
through f Less a b c = refl
through f Equal a b c = refl
through f Greater a b c = refl

pub pairs_of-put : (k : List ℕ) (d : Data) (ms : Members) → pairs_of (put k d ms) ≡ insert_entry key_cmp (pairs_of ms) k (tree_of d)
pairs_of-put k d no_members = refl
pairs_of-put k d (member l e ms) =
    through pairs_of (key_cmp k l) _ _ _ ∙ ap (λ (rest : List Pair). match_ordering (key_cmp k l) ((k, tree_of d) ∷ (l, tree_of e) ∷ pairs_of ms) ((l, tree_of d) ∷ pairs_of ms) ((l, tree_of e) ∷ rest)) (pairs_of-put k d ms)

pub put_all-push : (es xs : List Pair) (p : Pair) → put_all es (xs ++ p ∷ []) ≡ insert_entry key_cmp (put_all es xs) p.0 p.1
put_all-push es [] p = refl
put_all-push es (x ∷ xs) p = put_all-push (insert_entry key_cmp es x.0 x.1) xs p

either : (o : Ordering) (a b c : Members) → members_have_float a ≡ false → members_have_float b ≡ false → members_have_float c ≡ false → members_have_float (match_ordering o a b c) ≡ false
either Less a b c p q r = p
either Equal a b c p q r = q
either Greater a b c p q r = r

or-both : (a b : Bool) → a ≡ false → b ≡ false → (a || b) ≡ false
or-both a b h k = rw (h, k) refl

pub float-put : (k : List ℕ) (d : Data) (ms : Members) → members_have_float ms ≡ false → has_float d ≡ false → members_have_float (put k d ms) ≡ false
float-put k d no_members h f = or-both _ _ f refl
float-put k d (member l e ms) h f =
    let both = or-false (has_float e) (members_have_float ms) h in
    either (key_cmp k l) _ _ _ (or-both _ _ f h) (or-both _ _ f both.1) (or-both _ _ both.0 (float-put k d ms both.1 f))

chosen : (o : Ordering) (a b c : Members) (n : ℕ) → members_depth a ≤ n → members_depth b ≤ n → members_depth c ≤ n → members_depth (match_ordering o a b c) ≤ n
chosen Less a b c n p q r = p
chosen Equal a b c n p q r = q
chosen Greater a b c n p q r = r

pub depth-put : (n : ℕ) (k : List ℕ) (d : Data) (ms : Members) → members_depth ms ≤ n → depth d ≤ n → members_depth (put k d ms) ≤ n
depth-put n k d no_members h f = omega (arith, f)
depth-put n k d (member l e ms) h f =
    chosen (key_cmp k l) _ _ _ n (omega (arith, h, f)) (omega (arith, h, f)) (omega (arith, h, depth-put n k d ms (omega (arith, h)) f))
