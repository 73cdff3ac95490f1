-- Why bytes are refused: whole parts of a value, and then one that is none, for this reason and at this place.
use Rattle.std.specs.Prelude.{◌≡◌, ◌⊎◌, ℕ, zero, suc, ◌-◌, ◌<◌, List, [], ◌∷◌, ◌++◌, length, drop}
use Rattle.std.specs.Int.{Width, byte_len}
use Rattle.std.specs.Str.{IsUtf8}
use Rattle.hv_value.specs.Tree.{Tree, Pair}
use Rattle.hv_pack.specs.declared.error.PackError.{PackError}
use Rattle.hv_pack.specs.declared.error.PackError.TheVariants as errors
use Rattle.hv_pack.specs.declared.marker.Marker.{Marker}
use Rattle.hv_pack.specs.declared.marker.Marker.TheVariants.{Unsigned, Signed, Text, Bytes, List as ListOf, Map, Never, Fraction, Ext}
use Rattle.hv_pack.specs.declared.marker.Count.{Count}
use Rattle.hv_pack.specs.declared.marker.Count.TheVariants.{Here, Behind}
use Rattle.hv_pack.specs.Marker.{width, marker_of}
use Rattle.hv_pack.specs.Packs.{IsCount, IsChunk, IsKey, Spelling, NoSpelling, SpellsAll, SpellsPairs, Packs}

-- the bytes that are left begin with what is refused so
abbrev pub Fault : Type 1
Fault = List ℕ → PackError → Type 0

abbrev pub LacksNumber : Width → List ℕ → Type 0
LacksNumber w s = length s < byte_len w

abbrev pub LacksCount : Count → List ℕ → Type 0
LacksCount (Here k) s = ⊥
LacksCount (Behind size) s = LacksNumber (width size) s

-- a count, and fewer bytes than it says
pub record LacksBytes (c : Count) (s : List ℕ) : Type 0 where
  pub number : List ℕ
  pub rest : List ℕ
  pub n : ℕ
  pub count : IsCount c number n
  pub parts : s ≡ number ++ rest
  pub short : length rest < n

abbrev pub LacksChunk : Count → List ℕ → Type 0
LacksChunk c s = LacksCount c s ⊎ LacksBytes c s

pub record IsNoText (c : Count) (s : List ℕ) : Type 0 where
  pub chunk : List ℕ
  pub text : List ℕ
  pub rest : List ℕ
  pub is : IsChunk c chunk text
  pub parts : s ≡ chunk ++ rest
  pub no : IsUtf8 text → ⊥

abbrev pub TextWhy : ℕ → Count → Fault
TextWhy at c s e = (LacksChunk c s × (e ≡ errors.Short at)) ⊎ (IsNoText c s × (e ≡ errors.NotUtf8 at))

abbrev pub KeyRow : ℕ → Marker → Fault
KeyRow at (Text c) s e = TextWhy at c s e
KeyRow at m s e = e ≡ errors.Key at

abbrev pub KeyWhy : ℕ → Fault
KeyWhy end [] e = e ≡ errors.Short end
KeyWhy end (m ∷ s) e = KeyRow (end - length (m ∷ s)) (marker_of m) s e

-- fewer than n whole values, and one that is refused
pub record ListWhy (P : Spelling) (F : Fault) (n : ℕ) (s : List ℕ) (e : PackError) : Type 0 where
  pub done : List Tree
  pub front : List ℕ
  pub rest : List ℕ
  pub spelled : SpellsAll P done front
  pub parts : s ≡ front ++ rest
  pub fewer : length done < n
  pub why : F rest e

pub record ValueWhy (F : Fault) (s : List ℕ) (e : PackError) : Type 0 where
  pub name : List ℕ
  pub key : List ℕ
  pub rest : List ℕ
  pub is : IsKey name key
  pub parts : s ≡ key ++ rest
  pub why : F rest e

pub record MapWhy (end : ℕ) (P : Spelling) (F : Fault) (n : ℕ) (s : List ℕ) (e : PackError) : Type 0 where
  pub done : List Pair
  pub front : List ℕ
  pub rest : List ℕ
  pub spelled : SpellsPairs P done front
  pub parts : s ≡ front ++ rest
  pub fewer : length done < n
  pub why : KeyWhy end rest e ⊎ ValueWhy F rest e

-- a count, and then what is refused
pub record Counted (c : Count) (F : ℕ → Fault) (s : List ℕ) (e : PackError) : Type 0 where
  pub number : List ℕ
  pub rest : List ℕ
  pub n : ℕ
  pub count : IsCount c number n
  pub parts : s ≡ number ++ rest
  pub why : F n rest e

abbrev pub Inside : ℕ → Type 0 → Count → (ℕ → Fault) → Fault
Inside at Room c F s e = ((Room → ⊥) × (e ≡ errors.TooDeep at)) ⊎ (Room × ((LacksCount c s × (e ≡ errors.Short at)) ⊎ Counted c F s e))

abbrev pub RowWhy : ℕ → ℕ → Type 0 → Spelling → Fault → Marker → Fault
RowWhy end at Room P F (Unsigned size) s e = LacksNumber (width size) s × (e ≡ errors.Short at)
RowWhy end at Room P F (Signed size) s e = LacksNumber (width size) s × (e ≡ errors.Short at)
RowWhy end at Room P F (Text c) s e = TextWhy at c s e
RowWhy end at Room P F (Bytes c) s e = LacksChunk c s × (e ≡ errors.Short at)
RowWhy end at Room P F (ListOf c) s e = Inside at Room c (ListWhy P F) s e
RowWhy end at Room P F (Map c) s e = Inside at Room c (MapWhy end P F) s e
RowWhy end at Room P F Never s e = e ≡ errors.Never at
RowWhy end at Room P F Fraction s e = e ≡ errors.Fraction at
RowWhy end at Room P F Ext s e = e ≡ errors.Ext at
RowWhy end at Room P F m s e = ⊥

abbrev pub OneWhy : ℕ → Type 0 → Spelling → Fault → Fault
OneWhy end Room P F [] e = e ≡ errors.Short end
OneWhy end Room P F (m ∷ s) e = RowWhy end (end - length (m ∷ s)) Room P F (marker_of m) s e

abbrev pub NoFault : Fault
NoFault s e = ⊥

abbrev pub Why : ℕ → ℕ → Fault
Why end zero = OneWhy end ⊥ NoSpelling NoFault
Why end (suc room) = OneWhy end (Unit {0}) (Packs room) (Why end room)

-- from `at` on, the bytes are refused so
unfoldable pub IsRefused : List ℕ → ℕ → PackError → Type 0
IsRefused whole at e = Why (length whole) 64 (drop at whole) e
