-- What `clap` makes of the words after a command's name, and the commands that this crate gives it.
use Rattle.std.specs.Prelude.{◌≡◌, ◌<◌, ◌^◌, ℕ, [], true, Some, List}
use Rattle.std.specs.Str.Parse.{IsNumeral, digits_value, without_leading_plus}
use Rattle.clap.specs.Words.{App, Row, Rule, Text, new_app, new_rule, fault_of, first_of, matches_of}
use Rattle.clap.specs.declared.builder.action.ArgAction.TheVariants.{Set}

-- a command of this name with no argument, also none of clap's own for help and for the version
abbrev pub bare_app : Text → App
bare_app name = let new = new_app name in record new {
  top = record new.top { disable_help_flag = true; disable_version_flag = true; no_binary_name = true };
}

-- an argument of one value that must be there, and is told by its place
abbrev pub required : Text → Rule
required id = record (new_rule id) { required = true; action = Some Set }

-- an option `--NAME VALUE ..` of so many values, which may be absent
abbrev pub optional : Text → ℕ → Rule
optional name values = record (new_rule name) {
  long = Some name;
  action = Some Set;
  range = Some (record { start_inclusive = values; end_inclusive = values });
}

-- an option `--NAME VALUE` that must be there
abbrev pub required_option : Text → Rule
required_option name = record (optional name 1) { required = true }

-- no step of clap's parse of the words fails
abbrev pub Takes : App → List Text → Type 0
Takes app words = fault_of app words ≡ []

-- clap's parse of the words gives the argument `id` this value
abbrev pub Gives : App → List Text → Text → Text → Type 0
Gives app words id value = first_of id (matches_of app words) ≡ Some value

-- the text is a number of at most `bits` bits as Rust reads it: decimal digits, and a plus before them or none
pub record IsNumber (bits : ℕ) (text : Text) (n : ℕ) : Type 0 where
  pub digits : IsNumeral 10 (without_leading_plus text)
  pub value : digits_value 10 (without_leading_plus text) ≡ n
  pub short : n < 2 ^ bits

-- these rows give the argument `id` a text that is this number
abbrev pub SaysNumber : Text → ℕ → List Row → Type 0
SaysNumber id n rows = (text : Text) × ((first_of id rows ≡ Some text) × IsNumber 64 text n)
