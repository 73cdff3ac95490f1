-- The deeds of a method, by its arguments as the code reads them.
use Rattle.std.proofs.Common.{◌≡◌, ℕ, Bool, true, false, nat_le, List, [], ◌∷◌, codes, length, Option, Some, None, Result, Ok, Err, IfOk, if◌then◌else◌, ap}
use Rattle.std.specs.declared.collections.VecDeque.{VecDeque}
use Rattle.hv_value.specs.Tree.{Tree, text}
use Rattle.hd_calls.specs.declared.vocabulary.Deed.{Deed}
use Rattle.hd_calls.specs.declared.vocabulary.Deed.TheVariants as deed
use Rattle.hd_rooms.specs.declared.vocabulary.RoomsMethod.TheVariants.{Post}
use Rattle.hd_rooms.specs.Rooms.{deeds_of, most_name}
use Rattle.hub_rooms.specs.Arguments.{both, room_and_text}
use Rattle.hub_rooms.specs.Jobs.{listed}

-- what holds for every caller holds for one
pub for_one : {Z E : Type 0} (r : Result (Option (VecDeque Deed Z)) E) (f : List ℕ → Option (List Deed)) (who : List ℕ) →
    IfOk r (λ o. (w : List ℕ) → listed o ≡ f w) → IfOk r (λ o. listed o ≡ f who)
for_one (Ok o) f who p = p who
for_one (Err e) f who p = tt

pair_is : (p q : List ℕ × List ℕ) → Some p ≡ Some q → p ≡ q
pair_is p q e = cc

-- what `Post` does for the deeds that the code makes of the room and the text
pub posts : (ts : List Tree) (who r t r1 r2 t2 who2 target : List ℕ) (notice : List Tree) (deeds : List Deed) →
    room_and_text ts ≡ Some (r, t) → r1 ≡ r → r2 ≡ r → t2 ≡ t → who2 ≡ who → target ≡ codes "Posted" →
    notice ≡ text r1 ∷ text who2 ∷ text t2 ∷ [] → deeds ≡ deed.Log r2 t ∷ deed.Post r target notice ∷ [] →
    Some deeds ≡ deeds_of Post who ts
posts (room ∷ words ∷ []) who r t r1 r2 t2 who2 target notice deeds e e1 e2 e3 e4 e5 e6 e7 = two room words e
  where
    by : (s u : List ℕ) (b : Bool) → both (if b then Some s else None) (Some u) ≡ Some (r, t)
        → Some deeds ≡ (if b then Some (deed.Log s u ∷ deed.Post s (codes "Posted") (text s ∷ text who ∷ text u ∷ []) ∷ []) else None)
    by s u true f =
        let read : (s, u) ≡ (r, t) = pair_is _ _ f in
        let room : s ≡ r = ap (λ (p : List ℕ × List ℕ). p.0) read in
        let words : u ≡ t = ap (λ (p : List ℕ × List ℕ). p.1) read in
        cc
    by s u false f = absurd cc

    two : (room words : Tree) → room_and_text (room ∷ words ∷ []) ≡ Some (r, t) → Some deeds ≡ deeds_of Post who (room ∷ words ∷ [])
    two (text s) (text u) f = by s u (nat_le (length s) most_name) f
    two (text s) _ f = absurd (either (nat_le (length s) most_name) f)
      where
        either : (b : Bool) → both {A = List ℕ} {B = List ℕ} (if b then Some s else None) None ≡ Some (r, t) → ⊥
        either true g = absurd cc
        either false g = absurd cc
    two _ _ f = absurd cc
posts [] who r t r1 r2 t2 who2 target notice deeds e e1 e2 e3 e4 e5 e6 e7 = absurd cc
posts (a ∷ []) who r t r1 r2 t2 who2 target notice deeds e e1 e2 e3 e4 e5 e6 e7 = absurd cc
posts (a ∷ b ∷ c ∷ ts) who r t r1 r2 t2 who2 target notice deeds e e1 e2 e3 e4 e5 e6 e7 = absurd cc
