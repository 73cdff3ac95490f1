-- Options: the line of one is that of no other, and the words of limits are those of no others.
use Rattle.std.proofs.Common.{◌≡◌, ◌<◌, ◌^◌, ℕ, true, false, List, [], ◌∷◌, ◌++◌, Option, Some, None, IfNone, IsSome, ◌↔◌, refl, sym, ◌∙◌, ap, subst, arith}
use Rattle.std.specs.Fmt.{decimal}
use Rattle.std.proofs.lemmas.Fmt.{decimal_injective}
use Rattle.std.proofs.lemmas.List.{append_cancel_left}
use Rattle.hm_message.specs.declared.message.Codec.TheVariants.{Json, Pack}
use Rattle.hd_facts.specs.Unique.{IsTheOne}
use Rattle.hd_delivery.specs.Worlds.{Limits}
use Rattle.hd_delivery.specs.Bounds.{AreLimits}
use Rattle.hs_shake.specs.Requests.{IsVersion}
use Rattle.sr_notation.specs.declared.setting.Setting.{Setting}
use Rattle.sr_notation.specs.declared.setting.Setting.TheVariants as setting
use Rattle.sr_notation.specs.Settings.{buffer_words, IsOption}
use Rattle.sr_notation.specs.Words.{IsWord}
use Rattle.sr_notation.proofs.Cuts.{first, one_split, no_space, decimal_word}

-- ---- limits

-- limits are numbers of 64 bits
pub short_limits : (limits : Limits) → AreLimits limits → (limits.frame < 2 ^ 64) × (limits.count < 2 ^ 64) × (limits.bytes < 2 ^ 64)
short_limits limits are = (omega (arith, are.frame_not_more), omega (arith, are.count_not_more), omega (arith, are.bytes_not_more))

-- what the words of the limits are cut into
pub record AreParts (count bytes frame : List ℕ) (limits : Limits) : Type 0 where
  pub count_is : count ≡ decimal limits.count
  pub bytes_is : bytes ≡ decimal limits.bytes
  pub frame_is : frame ≡ decimal limits.frame

pub buffer_parts : (words count rest bytes frame : List ℕ) (limits : Limits) → AreLimits limits → IsWord count → words ≡ count ++ 32 ∷ rest
    → IsWord bytes → rest ≡ bytes ++ 32 ∷ frame → words ≡ buffer_words limits → AreParts count bytes frame limits
buffer_parts words count rest bytes frame limits are word cut word' cut' is =
    let short = short_limits limits are in
    let one = one_split count (decimal limits.count) rest (decimal limits.bytes ++ 32 ∷ decimal limits.frame) word (decimal_word limits.count short.1) (sym cut ∙ is) in
    let two = one_split bytes (decimal limits.bytes) frame (decimal limits.frame) word' (decimal_word limits.bytes short.2) (sym cut' ∙ one.1) in
    record { count_is = one.0; bytes_is = two.0; frame_is = two.1 }

-- ---- options

-- a line of the option `version`, and of the option `buffer`
pub version_of : (line digits : List ℕ) (s : Setting) → line ≡ 118 ∷ 101 ∷ 114 ∷ 115 ∷ 105 ∷ 111 ∷ 110 ∷ 32 ∷ digits → IsOption line s
    → (version : ℕ) × ((s ≡ setting.Version version) × IsVersion version × (digits ≡ decimal version))
version_of line digits (setting.Codec Json) e is = absurd (let h : 118 ≡ 99 = ap first (sym e ∙ is.0) in omega arith)
version_of line digits (setting.Codec Pack) e is = absurd (let h : 118 ≡ 99 = ap first (sym e ∙ is.0) in omega arith)
version_of line digits (setting.Version version) e is =
    (version, (refl, is.1, append_cancel_left (118 ∷ 101 ∷ 114 ∷ 115 ∷ 105 ∷ 111 ∷ 110 ∷ 32 ∷ []) digits (decimal version) (sym e ∙ is.0)))
version_of line digits (setting.Reconnect true) e is = absurd (let h : 118 ≡ 114 = ap first (sym e ∙ is.0) in omega arith)
version_of line digits (setting.Reconnect false) e is = absurd (let h : 118 ≡ 114 = ap first (sym e ∙ is.0) in omega arith)
version_of line digits setting.Peers e is = absurd (let h : 118 ≡ 112 = ap first (sym e ∙ is.0) in omega arith)
version_of line digits (setting.Buffer limits) e is = absurd (let h : 118 ≡ 98 = ap first (sym e ∙ is.0) in omega arith)

pub buffer_of : (line words : List ℕ) (s : Setting) → line ≡ 98 ∷ 117 ∷ 102 ∷ 102 ∷ 101 ∷ 114 ∷ 32 ∷ words → IsOption line s
    → (limits : Limits) × ((s ≡ setting.Buffer limits) × AreLimits limits × (words ≡ buffer_words limits))
buffer_of line words (setting.Codec Json) e is = absurd (let h : 98 ≡ 99 = ap first (sym e ∙ is.0) in omega arith)
buffer_of line words (setting.Codec Pack) e is = absurd (let h : 98 ≡ 99 = ap first (sym e ∙ is.0) in omega arith)
buffer_of line words (setting.Version version) e is = absurd (let h : 98 ≡ 118 = ap first (sym e ∙ is.0) in omega arith)
buffer_of line words (setting.Reconnect true) e is = absurd (let h : 98 ≡ 114 = ap first (sym e ∙ is.0) in omega arith)
buffer_of line words (setting.Reconnect false) e is = absurd (let h : 98 ≡ 114 = ap first (sym e ∙ is.0) in omega arith)
buffer_of line words setting.Peers e is = absurd (let h : 98 ≡ 112 = ap first (sym e ∙ is.0) in omega arith)
buffer_of line words (setting.Buffer limits) e is =
    (limits, (refl, is.1, append_cancel_left (98 ∷ 117 ∷ 102 ∷ 102 ∷ 101 ∷ 114 ∷ 32 ∷ []) words (buffer_words limits) (sym e ∙ is.0)))

same_limits : (a b : Limits) → a.frame ≡ b.frame → a.count ≡ b.count → a.bytes ≡ b.bytes → a ≡ b
same_limits a b p q r = ap (λ (n : ℕ). record { frame = n; count = a.count; bytes = a.bytes }) p
    ∙ ap (λ (n : ℕ). record { frame = b.frame; count = n; bytes = a.bytes }) q
    ∙ ap (λ (n : ℕ). record { frame = b.frame; count = b.count; bytes = n }) r

-- the words of limits are those of no others
limits_of : (words count rest bytes frame : List ℕ) (limits others : Limits) → AreLimits limits → AreLimits others → AreParts count bytes frame limits
    → IsWord count → words ≡ count ++ 32 ∷ rest → IsWord bytes → rest ≡ bytes ++ 32 ∷ frame → words ≡ buffer_words others → others ≡ limits
limits_of words count rest bytes frame limits others are are' parts word cut word' cut' is =
    let parts' : AreParts count bytes frame others = buffer_parts words count rest bytes frame others are' word cut word' cut' is in
    let short = short_limits limits are in
    let short' = short_limits others are' in
    same_limits others limits (decimal_injective others.frame limits.frame short'.0 short.0 (sym parts'.frame_is ∙ parts.frame_is))
    (decimal_injective others.count limits.count short'.1 short.1 (sym parts'.count_is ∙ parts.count_is))
    (decimal_injective others.bytes limits.bytes short'.2 short.2 (sym parts'.bytes_is ∙ parts.bytes_is))

own_parts : (limits : Limits) → AreParts (decimal limits.count) (decimal limits.bytes) (decimal limits.frame) limits
own_parts limits = record { count_is = refl; bytes_is = refl; frame_is = refl }

-- so are those of no others
pub same_words : (limits others : Limits) → AreLimits limits → AreLimits others → buffer_words others ≡ buffer_words limits → others ≡ limits
same_words limits others are are' same =
    let short = short_limits limits are in
    limits_of (buffer_words limits) (decimal limits.count) (decimal limits.bytes ++ 32 ∷ decimal limits.frame) (decimal limits.bytes) (decimal limits.frame)
    limits others are are' (own_parts limits) (decimal_word limits.count short.1) refl (decimal_word limits.bytes short.2) refl (sym same)

-- no words of limits: there is no second space
pub no_second : (words count rest : List ℕ) (limits : Limits) → AreLimits limits → IsWord count → words ≡ count ++ 32 ∷ rest → IsWord rest
    → words ≡ buffer_words limits → ⊥
no_second words count rest limits are word cut last is =
    let one = one_split count (decimal limits.count) rest (decimal limits.bytes ++ 32 ∷ decimal limits.frame) word
    (decimal_word limits.count (short_limits limits are).1) (sym cut ∙ is) in
    no_space rest (decimal limits.bytes) (decimal limits.frame) last one.1

-- these numbers are no limits
pub no_limits : (r : Option Limits) (count bytes frame : ℕ) (words cw rest bw fw : List ℕ) → (IsSome r ↔ AreLimits (record { frame = frame; count = count; bytes = bytes }))
    → count < 2 ^ 64 → bytes < 2 ^ 64 → frame < 2 ^ 64 → cw ≡ decimal count → bw ≡ decimal bytes → fw ≡ decimal frame
    → IsWord cw → words ≡ cw ++ 32 ∷ rest → IsWord bw → rest ≡ bw ++ 32 ∷ fw
    → IfNone r ((limits : Limits) → AreLimits limits → words ≡ buffer_words limits → ⊥)
no_limits (Some l) count bytes frame words cw rest bw fw range p q s c b f word cut word' cut' = tt
no_limits None count bytes frame words cw rest bw fw range p q s c b f word cut word' cut' = λ limits are is.
    let parts : AreParts cw bw fw limits = buffer_parts words cw rest bw fw limits are word cut word' cut' is in
    let short = short_limits limits are in
    let same : limits ≡ record { frame = frame; count = count; bytes = bytes } = same_limits limits (record { frame = frame; count = count; bytes = bytes })
    (decimal_injective limits.frame frame short.0 s (sym parts.frame_is ∙ f)) (decimal_injective limits.count count short.1 p (sym parts.count_is ∙ c))
    (decimal_injective limits.bytes bytes short.2 q (sym parts.bytes_is ∙ b)) in
    no_some None refl (range.1 (subst AreLimits same are)) where
      no_some : (r : Option Limits) → r ≡ None → IsSome r → ⊥
      no_some r e some = cc

pub the_version : (line digits : List ℕ) (version : ℕ) → line ≡ 118 ∷ 101 ∷ 114 ∷ 115 ∷ 105 ∷ 111 ∷ 110 ∷ 32 ∷ digits → digits ≡ decimal version → IsVersion version
    → IsTheOne (IsOption line) (setting.Version version)
the_version line digits version e is spoken = record {
  holds = (e ∙ ap (λ (xs : List ℕ). 118 ∷ 101 ∷ 114 ∷ 115 ∷ 105 ∷ 111 ∷ 110 ∷ 32 ∷ xs) is, spoken);
  only = λ other asks. (let v = version_of line digits other e asks in
      v.1.0 ∙ ap (λ (n : ℕ). setting.Version n)
      (decimal_injective v.0 version (omega (arith, v.1.1.1)) (omega (arith, spoken.1)) (sym v.1.2 ∙ is)));
}

pub the_buffer : (line words : List ℕ) (limits : Limits) → line ≡ 98 ∷ 117 ∷ 102 ∷ 102 ∷ 101 ∷ 114 ∷ 32 ∷ words → words ≡ buffer_words limits → AreLimits limits
    → IsTheOne (IsOption line) (setting.Buffer limits)
the_buffer line words limits e is are = record {
  holds = (e ∙ ap (λ (xs : List ℕ). 98 ∷ 117 ∷ 102 ∷ 102 ∷ 101 ∷ 114 ∷ 32 ∷ xs) is, are);
  only = λ other asks. (let b = buffer_of line words other e asks in
      b.1.0 ∙ ap (λ (l : Limits). setting.Buffer l) (same_words limits b.0 are b.1.1 (sym b.1.2 ∙ is)));
}
