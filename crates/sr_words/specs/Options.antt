-- The options of a command, as a list: what `clap` is told of them, and what the rows that it found say of each.
use Rattle.std.specs.Prelude.{ℕ, List, [], ◌∷◌, Option, Some, map, unwrap_or}
use Rattle.clap.specs.Words.{App, Row, Text, all_of, first_of, with_rule}
use Rattle.sr_words.specs.Clap.{optional}

-- An option `--NAME VALUE ..` of a command that asks for a `Whole`: how many values it takes, what the rows that clap
-- found say of it, and which part of the whole that is.
pub record Choice (Whole : Type 0) : Type 1 where
  pub name : Text
  pub values : ℕ
  pub Value : Type 0
  pub Says : List Row → Value → Type 0
  pub part : Whole → Value

-- the text of an option by these rows, or its usual one
abbrev pub text_of : Text → Text → List Row → Text
text_of name usual rows = unwrap_or (first_of name rows) usual

-- two texts, or the usual ones
abbrev pub two_of : Text × Text → Option (List Text) → Text × Text
two_of usual (Some (first ∷ second ∷ [])) = (first, second)
two_of usual _ = usual

-- the two texts of an option by these rows, or its usual ones
abbrev pub texts_of : Text → Text × Text → List Row → Text × Text
texts_of name usual rows = two_of usual (all_of name rows)

-- an option of one value, which says what the usual text says if the words give none
abbrev pub choice : {Whole Value : Type 0} → Text → Text → (Text → Value → Type 0) → (Whole → Value) → Choice Whole
choice {Value = Value} name usual Says part =
    record { name = name; values = 1; Value = Value; Says = λ rows. Says (text_of name usual rows); part = part }

-- the same of two values
abbrev pub choice_of_two : {Whole Value : Type 0} → Text → Text × Text → (Text × Text → Value → Type 0) → (Whole → Value) → Choice Whole
choice_of_two {Value = Value} name usual Says part =
    record { name = name; values = 2; Value = Value; Says = λ rows. Says (texts_of name usual rows); part = part }

-- an option of one value that has no usual text: what it says is told also of none
abbrev pub choice_if_given : {Whole Value : Type 0} → Text → (Option Text → Value → Type 0) → (Whole → Value) → Choice Whole
choice_if_given {Value = Value} name Says part =
    record { name = name; values = 1; Value = Value; Says = λ rows. Says (first_of name rows); part = part }

-- what clap is told of an option: its name, and how many values it takes
abbrev pub Told : Type 0
Told = Text × ℕ

-- the command with each of these options
abbrev pub with_options : App → List Told → App
with_options app [] = app
with_options app (option ∷ rest) = with_options (with_rule app (optional option.0 option.1)) rest

abbrev pub told_of : {Whole : Type 0} → List (Choice Whole) → List Told
told_of options = map (λ option. (option.name, option.values)) options

-- these rows say of each option its part of the whole
abbrev pub SayAll : {Whole : Type 0} → List (Choice Whole) → List Row → Whole → Type 0
SayAll [] rows whole = Unit {0}
SayAll (option ∷ rest) rows whole = option.Says rows (option.part whole) × SayAll rest rows whole
