-- The base of a hub: the path under which it stands, as requests name it.
use Rattle.std.specs.Prelude.{◌≡◌, ◌≢◌, ◌-◌, ◌&&◌, ◌==◌, ℕ, Bool, true, not, Some, length, nat_lt, slice_get, codes}
use Rattle.std.specs.List.{list_all, list_any}
use Rattle.clap.specs.Words.{Text}

-- visible characters of ASCII that no path has (RFC 3986, section 3.3), or behind which none goes on
abbrev pub signs_beside : Text
signs_beside = codes "\"#<>?\\^`{|}"

-- a byte that the path of a request's target may have as it stands (RFC 9112, section 3.2), or a bracket, which some send so too
abbrev pub is_path_byte : ℕ → Bool
is_path_byte b = nat_lt 32 b && (nat_lt b 127 && not (list_any (λ sign. sign == b) signs_beside))

-- a path from the root, which doesn't end with `/` (47): what is `/` alone would end with it
pub record IsPath (text : Text) : Type 0 where
  pub begins : slice_get text 0 ≡ Some 47
  pub ends : slice_get text (length text - 1) ≢ Some 47
  pub plain : list_all is_path_byte text ≡ true

-- the text is a base, and the value is the text itself
abbrev pub IsBase : Text → Text → Type 0
IsBase text base = IsPath text × (base ≡ text)
