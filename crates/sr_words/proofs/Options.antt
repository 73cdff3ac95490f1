-- Of any list of options of which rows say one value each: they ask for one whole.
use Rattle.std.proofs.Common.{◌≡◌, List, [], ◌∷◌}
use Rattle.clap.specs.Words.{Row}
use Rattle.sr_words.specs.Options.{Choice, SayAll}

-- rows say one value of each option
abbrev pub AreSingle : {Whole : Type 0} → List (Choice Whole) → Type 0
AreSingle [] = Unit {0}
AreSingle (option ∷ rest) =
    ((rows : List Row) (a b : option.Value) → option.Says rows a → option.Says rows b → a ≡ b) × AreSingle rest

-- two wholes have the same part for each option
abbrev pub AgreeOn : {Whole : Type 0} → List (Choice Whole) → Whole → Whole → Type 0
AgreeOn [] a b = Unit {0}
AgreeOn (option ∷ rest) a b = (option.part a ≡ option.part b) × AgreeOn rest a b

pub agree : {Whole : Type 0} (options : List (Choice Whole)) (rows : List Row) (a b : Whole) → AreSingle options
    → SayAll options rows a → SayAll options rows b → AgreeOn options a b
agree [] rows a b single x y = tt
agree (option ∷ rest) rows a b single x y =
    (single.0 rows (option.part a) (option.part b) x.0 y.0, agree rest rows a b single.1 x.1 y.1)
