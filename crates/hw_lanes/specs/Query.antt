-- What a query says: it is the pairs between its `&`, a pair is a name and a value on the two sides of its first `=`, and both
-- are decoded as a form's are (URL Standard, section 5.1), but stay bytes.
use Rattle.std.specs.Prelude.{ℕ, List, [], ◌∷◌, Option, None, Some, if◌then◌else◌, bytes_eq}
use Rattle.form_urlencoded.specs.Form.{raw_pairs, decode}

-- the value of the first pair with this name
abbrev pub value_in : List ℕ → List (List ℕ × List ℕ) → Option (List ℕ)
value_in name [] = None
value_in name (pair ∷ pairs) =
    if bytes_eq (decode pair.0) name then Some (decode pair.1) else value_in name pairs

-- what a query gives to a name
abbrev pub query_value_of : List ℕ → List ℕ → Option (List ℕ)
query_value_of query name = value_in name (raw_pairs query)
