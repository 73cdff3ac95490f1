-- What serde_json reads, and what no reading is.
use Rattle.std.proofs.Common.{◌≡◌, ℕ, Bool, true, false, cond, List, Option, Some, None, Ok, Err, refl}
use Rattle.std.specs.Str.{IsUtf8, is_utf8}
use Rattle.std.proofs.lemmas.Str.{IsUtf8-from_is_utf8, is_utf8-from_IsUtf8}
use Rattle.std.specs.Prelude.{nat_lt}
use Rattle.serde_json.specs.Data.{Data, depth}
use Rattle.serde_json.specs.Read.{read}
use Rattle.serde_json.specs.Written.{has_float}
use Rattle.hv_json.specs.Laws.{ReadingTakesNoMemory}
use Rattle.hv_json.specs.Reading.{json, judged, reading, tree_of}
use Rattle.hv_json.specs.declared.reading.JsonError.TheVariants.{Fraction, TooDeep, NoMemory}

pub is_json : (b : List ℕ) (d : Data) → IsUtf8 b → read b ≡ Some d → json b ≡ Some d
is_json b d utf8 e = rw (is_utf8-from_IsUtf8 b utf8) e

unless : (t : Bool) (r : Option Data) → (t ≡ true → r ≡ None) → cond t r None ≡ None
unless true r h = h refl
unless false r h = refl

pub is_no_json : (b : List ℕ) → (IsUtf8 b → read b ≡ None) → json b ≡ None
is_no_json b h = unless (is_utf8 b) (read b) (λ e. h (IsUtf8-from_is_utf8 b e))

-- ---- what no reading is

no_memory : (o : Option Data) → judged o ≡ Err NoMemory → ⊥
no_memory None e = cc
no_memory (Some d) e = go (has_float d) (nat_lt 64 (depth d)) e
  where
    go : (a b : Bool) → cond a (Err Fraction) (cond b (Err TooDeep) (Ok (tree_of d))) ≡ Err NoMemory → ⊥
    go true b e = cc
    go false true e = cc
    go false false e = cc

pub takes_no_memory : ReadingTakesNoMemory
unfolding reading
takes_no_memory bytes e = no_memory (json bytes) e
