-- The members of an object, one after another.
use Rattle.std.specs.Prelude.{[], ◌≡◌, ℕ, ◌≤◌, ◌∷◌, List, false, length}
use Rattle.std.specs.Str.{IsUtf8}
use Rattle.json.specs.Token.{Token}
use Rattle.json.specs.Lex.{tokens}
use Rattle.json.specs.Json.{value, members}
use Rattle.serde_json.specs.Data.{Members, members_depth, no_members}
use Rattle.serde_json.specs.Read.{converted, of_members}
use Rattle.serde_json.specs.Written.{members_have_float}
use Rattle.hv_value.specs.Tree.{Pair, put_all}
use Rattle.hv_json.specs.Reading.{pairs_of}

-- the bytes are UTF-8 text that opens an object, and these are its tokens after the bracket
pub record Opens (bytes : List ℕ) (all : List Token) : Type 0 where
  pub utf8 : IsUtf8 bytes
  pub opened : tokens bytes ≡ Token.begin_object ∷ all

-- These pairs were read of the tokens after an object's opening bracket, and `left` is what follows them. None of them has a fraction or nests
-- deeper than 63. Of the pairs with one name the last counts.
pub record HasRead (all left : List Token) (pairs : List Pair) : Type 0 where
  pub turns : ℕ
  pub enough : length left ≤ turns
  pub read : Members
  pub goes_on : converted (λ ms. of_members ms no_members) (members (value 126) (length all) all) ≡ converted (λ ms. of_members ms read) (members (value 126) turns left)
  pub whole : members_have_float read ≡ false
  pub shallow : members_depth read ≤ 63
  pub same : put_all [] pairs ≡ pairs_of read
