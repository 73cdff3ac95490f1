-- What crates above need of words.
use Rattle.std.specs.Prelude.{◌≡◌, ◌<◌, ◌^◌, ℕ, List, ◌∷◌, ◌++◌}
use Rattle.std.specs.Fmt.{decimal}
use Rattle.hd_delivery.specs.Bounds.{AreLimits}
use Rattle.hd_delivery.specs.Worlds.{Limits}
use Rattle.sr_notation.specs.Settings.{buffer_words}
use Rattle.sr_notation.specs.Words.{IsWord}

-- a text has one first word, which a space (32) ends, and one rest
pub record WordsAreCutOnce : Type 0 where
  pub one_cut : (a b x y : List ℕ) → IsWord a → IsWord b → a ++ 32 ∷ x ≡ b ++ 32 ∷ y → (a ≡ b) × (x ≡ y)
  pub no_cut : (a b x : List ℕ) → IsWord a → a ≡ b ++ 32 ∷ x → ⊥
  pub digits : (n : ℕ) → n < 2 ^ 64 → IsWord (decimal n)

-- the words of limits are those of no others
abbrev pub LimitsAreToldOnce : Type 0
LimitsAreToldOnce = (limits others : Limits) → AreLimits limits → AreLimits others → buffer_words others ≡ buffer_words limits → others ≡ limits
