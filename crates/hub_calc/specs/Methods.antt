-- The calculator's methods: their names, which of them are streams, and how many uploads each has.
use Rattle.std.specs.Prelude.{ℕ, Bool, true, false, List, [], ◌∷◌, Option, Some, None, codes, if◌then◌else◌}
use Rattle.hm_message.specs.Same.{same_text}
use Rattle.hub_calc.specs.declared.method.Method.{Method}
use Rattle.hub_calc.specs.declared.method.Method.TheVariants.{Echo, Add, Count, Sum, Slow, Fail, Ask}

-- all of them
abbrev pub methods : List Method
methods = Echo ∷ Add ∷ Count ∷ Sum ∷ Slow ∷ Fail ∷ Ask ∷ []

-- the target that names a method
abbrev pub name_of : Method → List ℕ
name_of Echo = codes "Echo"
name_of Add = codes "Add"
name_of Count = codes "Count"
name_of Sum = codes "Sum"
name_of Slow = codes "Slow"
name_of Fail = codes "Fail"
name_of Ask = codes "Ask"

-- the one of these methods that a target names
abbrev pub named : List ℕ → List Method → Option Method
named target [] = None
named target (m ∷ ms) = if same_text target (name_of m) then Some m else named target ms

-- whether a method is a stream
abbrev pub is_stream : Method → Bool
is_stream Count = true
is_stream _ = false

-- how many uploads a method has
abbrev pub uploads_of : Method → ℕ
uploads_of Sum = 1
uploads_of _ = 0
