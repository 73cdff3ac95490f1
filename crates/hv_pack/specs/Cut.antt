-- What a function of the reader returned, and the bytes that it left, seen as what reading gives.
use Rattle.std.specs.Prelude.{◌≡◌, ℕ, List, length, take, drop, Result, Ok, Err, nat_lt, if◌then◌else◌}
use Rattle.hv_pack.specs.declared.error.PackError.{PackError}
use Rattle.hv_pack.specs.declared.error.PackError.TheVariants as errors

-- an error is that of reading, unless memory ran out
abbrev pub Fails : {Y : Type 0} → PackError → Result Y PackError → Type 0
Fails errors.NoMemory read = Unit {0}
Fails e read = read ≡ Err e

-- what was returned, seen by view, is what reading gives, unless memory ran out
abbrev pub Gives : {X Y : Type 0} → (X → Y) → Result X PackError → Result Y PackError → Type 0
Gives view (Ok x) read = read ≡ Ok (view x)
Gives view (Err e) read = Fails e read

-- what is read, and the bytes after it
abbrev pub Read : Type 0 → Type 0
Read A = Result (A × List ℕ) PackError

-- the first n bytes, which the marker at a place wants
abbrev pub cut : ℕ → ℕ → List ℕ → Read (List ℕ)
cut at n s = if nat_lt (length s) n then Err (errors.Short at) else Ok (take n s, drop n s)
