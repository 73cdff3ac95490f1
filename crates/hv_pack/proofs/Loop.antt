-- Reading values one after the other, as a loop does.
use Rattle.std.proofs.Common.{◌≡◌, ℕ, suc, ◌-◌, ◌+◌, ◌≤◌, ◌<◌, List, [], ◌∷◌, ◌++◌, Result, Ok, Err, Some, zero, ◌≢◌, refl, sym, ap, ◌∙◌, append_assoc, arith}
use Rattle.std.proofs.lemmas.List.{append-nil}
use Rattle.hv_value.specs.Tree.{Tree, Pair}
use Rattle.hv_pack.specs.declared.error.PackError.{PackError}
use Rattle.hv_pack.specs.declared.error.PackError.TheVariants as errors
use Rattle.hv_pack.specs.Reading.{◌>>=◌, Read, many, key_at, pairs_at, Fails, inner, value_at}

-- what was read before, and what is still read
abbrev pub with_front : {A : Type 0} → List A → Read (List A) → Read (List A)
with_front front read = read >>= λ x. Ok (front ++ x.0, x.1)

regroup : {A : Type 0} (front : List A) (n : A) (read : Read (List A)) → with_front front (read >>= λ x. Ok (n ∷ x.0, x.1)) ≡ with_front (front ++ n ∷ []) read
regroup {A} front n (Ok x) = ap (λ (ns : List A). Ok (ns, x.1)) (simp append_assoc)
regroup front n (Err f) = refl

module _ (read : List ℕ → Read Tree) where
  pub many_goes_on : (front : List Tree) (count i : ℕ) (bytes : List ℕ) (n : Tree) (after : List ℕ) (total : Read (List Tree)) → i < count → read bytes ≡ Ok (n, after)
      → with_front front (many read (count - i) bytes) ≡ total → with_front (front ++ n ∷ []) (many read (count - (i + 1)) after) ≡ total
  unfolding many
  many_goes_on front count i bytes n after total lt h so_far =
      let k : count - i ≡ suc (count - (i + 1)) = omega arith in
      let one : with_front front (many read (count - i) bytes) ≡ with_front (front ++ n ∷ []) (many read (count - (i + 1)) after) = rw (k, h) (regroup front n (many read (count - (i + 1)) after)) in
      sym one ∙ so_far

  pub many_ends : (e : PackError) (front : List Tree) (count i : ℕ) (bytes : List ℕ) (total : Read (List Tree)) → i < count → read bytes ≡ Err e
      → with_front front (many read (count - i) bytes) ≡ total → total ≡ Err e
  unfolding many
  many_ends e front count i bytes total lt h so_far =
      let k : count - i ≡ suc (count - (i + 1)) = omega arith in
      let one : with_front front (many read (count - i) bytes) ≡ Err e = rw (k, h) refl in
      sym so_far ∙ one

  pub many_done : (front : List Tree) (count i : ℕ) (bytes : List ℕ) (total : Read (List Tree)) → count ≤ i → with_front front (many read (count - i) bytes) ≡ total → total ≡ Ok (front, bytes)
  unfolding many
  many_done front count i bytes total le so_far =
      let k : count - i ≡ 0 = omega arith in
      let one : with_front front (many read (count - i) bytes) ≡ Ok (front, bytes) = rw k (ap (λ (ns : List Tree). Ok (ns, bytes)) (append-nil front)) in
      sym so_far ∙ one

module _ (end : ℕ) (read : List ℕ → Read Tree) where
  pub pairs_go_on : (front : List Pair) (count i : ℕ) (bytes : List ℕ) (k : List ℕ) (mid : List ℕ) (t : Tree) (after : List ℕ) (total : Read (List Pair)) → i < count → key_at end bytes ≡ Ok (k, mid) → read mid ≡ Ok (t, after)
      → with_front front (pairs_at end read (count - i) bytes) ≡ total → with_front (front ++ (k, t) ∷ []) (pairs_at end read (count - (i + 1)) after) ≡ total
  unfolding pairs_at
  pairs_go_on front count i bytes k mid t after total lt h g so_far =
      let n : count - i ≡ suc (count - (i + 1)) = omega arith in
      let one : with_front front (pairs_at end read (count - i) bytes) ≡ with_front (front ++ (k, t) ∷ []) (pairs_at end read (count - (i + 1)) after) = rw (n, h, g) (regroup front (k, t) (pairs_at end read (count - (i + 1)) after)) in
      sym one ∙ so_far

  pub pairs_end_at_key : (e : PackError) (front : List Pair) (count i : ℕ) (bytes : List ℕ) (total : Read (List Pair)) → i < count → key_at end bytes ≡ Err e
      → with_front front (pairs_at end read (count - i) bytes) ≡ total → total ≡ Err e
  unfolding pairs_at
  pairs_end_at_key e front count i bytes total lt h so_far =
      let n : count - i ≡ suc (count - (i + 1)) = omega arith in
      let one : with_front front (pairs_at end read (count - i) bytes) ≡ Err e = rw (n, h) refl in
      sym so_far ∙ one

  pub pairs_end_at_value : (e : PackError) (front : List Pair) (count i : ℕ) (bytes : List ℕ) (k : List ℕ) (mid : List ℕ) (total : Read (List Pair)) → i < count → key_at end bytes ≡ Ok (k, mid) → read mid ≡ Err e
      → with_front front (pairs_at end read (count - i) bytes) ≡ total → total ≡ Err e
  unfolding pairs_at
  pairs_end_at_value e front count i bytes k mid total lt h g so_far =
      let n : count - i ≡ suc (count - (i + 1)) = omega arith in
      let one : with_front front (pairs_at end read (count - i) bytes) ≡ Err e = rw (n, h, g) refl in
      sym so_far ∙ one

  pub pairs_done : (front : List Pair) (count i : ℕ) (bytes : List ℕ) (total : Read (List Pair)) → count ≤ i → with_front front (pairs_at end read (count - i) bytes) ≡ total → total ≡ Ok (front, bytes)
  unfolding pairs_at
  pairs_done front count i bytes total le so_far =
      let n : count - i ≡ 0 = omega arith in
      let one : with_front front (pairs_at end read (count - i) bytes) ≡ Ok (front, bytes) = rw n (ap (λ (ns : List Pair). Ok (ns, bytes)) (append-nil front)) in
      sym so_far ∙ one

-- a refusal goes on to what stands round it
pub fails_on : {Y Z : Type 0} (e : PackError) (part : Result Y PackError) (total : Result Z PackError) → (part ≡ Err e → total ≡ Err e) → Fails e part → Fails e total
fails_on errors.NoMemory part total goes h = tt
fails_on e part total goes h = goes h

pub inner_more : (end room : ℕ) → (room ≢ 0) → inner end room ≡ Some (value_at end (room - 1))
inner_more end zero n = absurd (n refl)
inner_more end (suc room) n = let e : suc room - 1 ≡ room = omega arith in rw e refl
