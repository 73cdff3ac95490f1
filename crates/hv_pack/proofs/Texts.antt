-- The test whether bytes are a text.
use Rattle.std.proofs.Common.{◌≡◌, ℕ, Bool, true, false, List, refl}
use Rattle.std.specs.Str.{IsUtf8, is_utf8}
use Rattle.std.proofs.lemmas.Str.{IsUtf8-from_is_utf8, is_utf8-from_IsUtf8}

pub is_text : (s : List ℕ) → IsUtf8 s → is_utf8 s ≡ true
is_text s h = is_utf8-from_IsUtf8 s h

told : (b : Bool) → (b ≡ true → ⊥) → b ≡ false
told true h = absurd (h refl)
told false h = refl

pub is_no_text : (s : List ℕ) → (IsUtf8 s → ⊥) → is_utf8 s ≡ false
is_no_text s h = told (is_utf8 s) (λ e. h (IsUtf8-from_is_utf8 s e))
