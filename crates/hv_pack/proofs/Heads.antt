-- The marker and the number before a text, a list or a map are those of a row of the table.
use Rattle.std.proofs.Common.{◌≡◌, ℕ, ◌+◌, ◌^◌, ◌<◌, Bool, true, false, cond, ltb, List, [], ◌∷◌, refl, arith}
use Rattle.std.specs.Int.{w8, w16, w32, w64, to_be_bytes, from_be_bytes}
use Rattle.std.proofs.lemmas.Bool.{ltb-true}
use Rattle.std.proofs.lemmas.Bool.Decides.{nat_tests}
use Rattle.std.proofs.lemmas.Nat.{from_be_bytes-to_be_bytes_2, from_be_bytes-to_be_bytes_4, from_be_bytes-to_be_bytes_8}
use Rattle.hv_pack.specs.declared.marker.Marker.{Marker}
use Rattle.hv_pack.specs.declared.marker.Marker.TheVariants.{Text, Bytes, List as ListOf, Map}
use Rattle.hv_pack.specs.declared.marker.Count.{Count}
use Rattle.hv_pack.specs.declared.marker.Count.TheVariants.{Here, Behind}
use Rattle.hv_pack.specs.declared.marker.Size.TheVariants.{One, Two, Four}
use Rattle.hv_pack.specs.Marker.{marker_of}
use Rattle.hv_pack.specs.Packs.{IsNumber, IsCount}
use Rattle.hv_pack.specs.Writing.{text_head, bytes_head, list_head, map_head}
use Rattle.hv_pack.specs.Formats.{FIX_MAP, FIX_ARRAY, FIX_STR, BIN_8, BIN_16, BIN_32, STR_8, STR_16, STR_32, ARRAY_16, ARRAY_32, MAP_16, MAP_32}

pub record Head (row : Count → Marker) (n : ℕ) (s : List ℕ) : Type 0 where
  pub marker : ℕ
  pub count : Count
  pub number : List ℕ
  pub whole : s ≡ marker ∷ number
  pub is : marker_of marker ≡ row count
  pub holds : IsCount count number n

pub pick : (P : List ℕ → Type 0) (b : Bool) (x y : List ℕ) → (b ≡ true → P x) → (b ≡ false → P y) → P (cond b x y)
pick P true x y f g = f refl
pick P false x y f g = g refl

again_1 : (n : ℕ) → n < 2 ^ 8 → from_be_bytes w8 (to_be_bytes w8 n) ≡ n
again_1 n lt = omega arith

pub number_1 : (n : ℕ) → n < 2 ^ 8 → IsNumber w8 (to_be_bytes w8 n) n
number_1 n lt = record { len = refl; value = again_1 n lt }

pub number_2 : (n : ℕ) → n < 2 ^ 16 → IsNumber w16 (to_be_bytes w16 n) n
number_2 n lt = record { len = refl; value = from_be_bytes-to_be_bytes_2 n lt }

pub number_4 : (n : ℕ) → n < 2 ^ 32 → IsNumber w32 (to_be_bytes w32 n) n
number_4 n lt = record { len = refl; value = from_be_bytes-to_be_bytes_4 n lt }

pub number_8 : (n : ℕ) → n < 2 ^ 64 → IsNumber w64 (to_be_bytes w64 n) n
number_8 n lt = record { len = refl; value = from_be_bytes-to_be_bytes_8 n lt }

pub fix_text : (n : ℕ) → n < 32 → marker_of (FIX_STR + n) ≡ Text (Here n)
unfolding marker_of
fix_text n lt = grind (arith, nat_tests)

pub fix_list : (n : ℕ) → n < 16 → marker_of (FIX_ARRAY + n) ≡ ListOf (Here n)
unfolding marker_of
fix_list n lt = grind (arith, nat_tests)

pub fix_map : (n : ℕ) → n < 16 → marker_of (FIX_MAP + n) ≡ Map (Here n)
unfolding marker_of
fix_map n lt = grind (arith, nat_tests)

pub text_head-is : (n : ℕ) → n < 2 ^ 32 → Head Text n (text_head n)
unfolding text_head marker_of
text_head-is n lt =
    pick (Head Text n) (ltb n 32) _ _ (λ e. record { marker = FIX_STR + n; count = Here n; number = []; whole = refl; is = fix_text n (ltb-true _ _ e); holds = (refl, refl) })
    (λ e. pick (Head Text n) (ltb n (2 ^ 8)) _ _ (λ e. record { marker = STR_8; count = Behind One; number = to_be_bytes w8 n; whole = refl; is = refl; holds = number_1 n (ltb-true _ _ e) })
    (λ e. pick (Head Text n) (ltb n (2 ^ 16)) _ _ (λ e. record { marker = STR_16; count = Behind Two; number = to_be_bytes w16 n; whole = refl; is = refl; holds = number_2 n (ltb-true _ _ e) })
    (λ e. record { marker = STR_32; count = Behind Four; number = to_be_bytes w32 n; whole = refl; is = refl; holds = number_4 n lt })))

pub bytes_head-is : (n : ℕ) → n < 2 ^ 32 → Head Bytes n (bytes_head n)
unfolding bytes_head marker_of
bytes_head-is n lt =
    pick (Head Bytes n) (ltb n (2 ^ 8)) _ _ (λ e. record { marker = BIN_8; count = Behind One; number = to_be_bytes w8 n; whole = refl; is = refl; holds = number_1 n (ltb-true _ _ e) })
    (λ e. pick (Head Bytes n) (ltb n (2 ^ 16)) _ _ (λ e. record { marker = BIN_16; count = Behind Two; number = to_be_bytes w16 n; whole = refl; is = refl; holds = number_2 n (ltb-true _ _ e) })
    (λ e. record { marker = BIN_32; count = Behind Four; number = to_be_bytes w32 n; whole = refl; is = refl; holds = number_4 n lt }))

pub list_head-is : (n : ℕ) → n < 2 ^ 32 → Head ListOf n (list_head n)
unfolding list_head marker_of
list_head-is n lt =
    pick (Head ListOf n) (ltb n 16) _ _ (λ e. record { marker = FIX_ARRAY + n; count = Here n; number = []; whole = refl; is = fix_list n (ltb-true _ _ e); holds = (refl, refl) })
    (λ e. pick (Head ListOf n) (ltb n (2 ^ 16)) _ _ (λ e. record { marker = ARRAY_16; count = Behind Two; number = to_be_bytes w16 n; whole = refl; is = refl; holds = number_2 n (ltb-true _ _ e) })
    (λ e. record { marker = ARRAY_32; count = Behind Four; number = to_be_bytes w32 n; whole = refl; is = refl; holds = number_4 n lt }))

pub map_head-is : (n : ℕ) → n < 2 ^ 32 → Head Map n (map_head n)
unfolding map_head marker_of
map_head-is n lt =
    pick (Head Map n) (ltb n 16) _ _ (λ e. record { marker = FIX_MAP + n; count = Here n; number = []; whole = refl; is = fix_map n (ltb-true _ _ e); holds = (refl, refl) })
    (λ e. pick (Head Map n) (ltb n (2 ^ 16)) _ _ (λ e. record { marker = MAP_16; count = Behind Two; number = to_be_bytes w16 n; whole = refl; is = refl; holds = number_2 n (ltb-true _ _ e) })
    (λ e. record { marker = MAP_32; count = Behind Four; number = to_be_bytes w32 n; whole = refl; is = refl; holds = number_4 n lt }))
