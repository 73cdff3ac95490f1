-- What holds of the text of each value.
use Rattle.std.specs.Prelude.{◌≡◌, ◌≤◌, ℕ, List, Ok, Err}
use Rattle.std.specs.List.{All}
use Rattle.std.specs.Str.{IsUtf8}
use Rattle.json.specs.Lex.{tokens}
use Rattle.json.specs.Print.{print}
use Rattle.hv_value.specs.Tree.{Tree, depth}
use Rattle.hv_value.specs.Image.{image}
use Rattle.hv_value.specs.Order.{IsInOrder}
use Rattle.hv_json.specs.Reading.{reading}
use Rattle.hv_json.specs.Sent.{sent, HasWholes, HasUtf8}
use Rattle.hv_json.specs.Writing.{json_text}
use Rattle.hv_json.specs.declared.reading.JsonError.TheVariants.{NoMemory}

-- no control character among the bytes
abbrev pub HasNoControl : List ℕ → Type 0
HasNoControl bytes = All (λ b. 32 ≤ b) bytes

-- no control character stands in a value's text: strings have them escaped
abbrev pub TextHasNoControl : Type 0
TextHasNoControl = (t : Tree) → HasNoControl (json_text t)

-- what bytes are doesn't depend on memory
abbrev pub ReadingTakesNoMemory : Type 0
ReadingTakesNoMemory = (bytes : List ℕ) → reading bytes ≡ Err NoMemory → ⊥

-- a value's tokens, as the kit's writer prints them, are its text
abbrev pub PrintedIsText : Type 0
PrintedIsText = (t : Tree) → print (sent t) ≡ json_text t

-- a value has the text of its image
abbrev pub TextIsOfImage : Type 0
TextIsOfImage = (t : Tree) → json_text t ≡ json_text (image t)

-- What is written of a tree with its keys in order, no deeper than 64 and of numbers that a value can hold is read again as its image.
-- The last two premises are what the kit's writer tells of the tokens that it printed.
abbrev pub WrittenIsReadAgain : Type 0
WrittenIsReadAgain = (t : Tree) → IsInOrder t → HasWholes t → depth t ≤ 64 →
    tokens (print (sent t)) ≡ sent t → IsUtf8 (print (sent t)) → reading (json_text t) ≡ Ok (image t)

-- The same of a tree whose texts are UTF-8, whatever wrote its text.
abbrev pub TextIsReadAgain : Type 0
TextIsReadAgain = (t : Tree) → IsInOrder t → HasWholes t → HasUtf8 t → depth t ≤ 64 → reading (json_text t) ≡ Ok (image t)
