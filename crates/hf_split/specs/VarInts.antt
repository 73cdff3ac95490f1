-- Numbers as bytes, 7 bits in each, the lowest first.
use Rattle.std.specs.Prelude.{◌≡◌, ◌<◌, ◌≤◌, ◌+◌, ◌*◌, ◌/◌, ◌%◌, ◌^◌, ℕ, zero, suc, List, [], ◌∷◌, ◌++◌, length, take, nat_lt, if◌then◌else◌}
use Rattle.std.specs.List.{All}

-- the greatest number of bytes in a VarInt
abbrev pub longest_var_int : ℕ
longest_var_int = 5

-- the numbers below this have a VarInt: five bytes of 7 bits
abbrev pub var_int_bound : ℕ
var_int_bound = 2 ^ 35

-- the top bit of the byte is set, which says that more bytes follow
abbrev pub HasMore : ℕ → Type 0
HasMore byte = 128 ≤ byte

-- the number whose digits to base 128, the lowest first, are the low 7 bits of these bytes
abbrev pub base_128 : List ℕ → ℕ
base_128 [] = 0
base_128 (byte ∷ bytes) = byte % 128 + 128 * base_128 bytes

-- the bytes are a VarInt of the number: not too many, and all but the last say that more follow
pub record IsVarInt (bytes : List ℕ) (number : ℕ) : Type 0 where
  pub front : List ℕ
  pub last : ℕ
  pub parts : bytes ≡ front ++ last ∷ []
  pub more : All HasMore front
  pub end : last < 128
  pub short : length bytes ≤ longest_var_int
  pub value : number ≡ base_128 bytes

-- the bytes begin with a whole VarInt of the number
pub record BeginsWithVarInt (bytes : List ℕ) (number : ℕ) : Type 0 where
  pub prefix : List ℕ
  pub rest : List ℕ
  pub is_var_int : IsVarInt prefix number
  pub whole : bytes ≡ prefix ++ rest

-- the first bytes, as many as a VarInt may have, all say that more follow
abbrev pub BeginsWithNoEnd : List ℕ → Type 0
BeginsWithNoEnd bytes = (longest_var_int ≤ length bytes) × All HasMore (take longest_var_int bytes)

-- the shortest VarInt of a number, if it has one of at most this many bytes and one more
abbrev pub shortest_in : ℕ → ℕ → List ℕ
shortest_in zero number = number ∷ []
shortest_in (suc room) number = if nat_lt number 128 then number ∷ [] else (128 + number % 128) ∷ shortest_in room (number / 128)

-- the shortest VarInt of a number that has one
unfoldable pub shortest : ℕ → List ℕ
shortest number = shortest_in 4 number
