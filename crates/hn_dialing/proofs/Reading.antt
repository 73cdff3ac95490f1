-- What serde_json finds in a body is what it tells.
use Rattle.std.proofs.Common.{◌≡◌, ℕ, Bool, true, false, cond, List, codes, Option, Some, None, option_map, refl, sym, ap, ◌∙◌, if◌then◌else◌}
use Rattle.std.specs.Prelude.{option_and_then, unwrap_or}
use Rattle.std.specs.Ordering.{nat_cmp, is_eq, match_ordering}
use Rattle.std.specs.Cmp.Lexicographic.{slice_cmp, texts_ties}
use Rattle.std.specs.declared.cmp.Ordering.{Ordering}
use Rattle.std.specs.declared.cmp.Ordering.TheVariants.{Less, Equal, Greater}
use Rattle.std.specs.Str.{IsUtf8, is_utf8}
use Rattle.std.proofs.lemmas.Str.{IsUtf8-from_is_utf8, is_utf8-from_IsUtf8}
use Rattle.serde_json.specs.Data.{Data, null, boolean, number, string, array, object, Members, no_members, member}
use Rattle.serde_json.specs.Find.{get, get_member, as_str, as_bool}
use Rattle.serde_json.specs.Read.{read}
use Rattle.hv_value.specs.Same.{same_bytes}
use Rattle.hv_json.specs.Reading.{json}
use Rattle.hd_dialing.specs.Bodies.{Told, member_in, text_in, is_granted, told_in}

-- ---- texts

pub is_json : (b : List ℕ) (d : Data) → IsUtf8 b → read b ≡ Some d → json b ≡ Some d
is_json b d utf8 e = rw (is_utf8-from_IsUtf8 b utf8) e

unless : (t : Bool) (r : Option Data) → (t ≡ true → r ≡ None) → cond t r None ≡ None
unless true r h = h refl
unless false r h = refl

pub is_no_json : (b : List ℕ) → (IsUtf8 b → read b ≡ None) → json b ≡ None
is_no_json b h = unless (is_utf8 b) (read b) (λ e. h (IsUtf8-from_is_utf8 b e))

-- ---- members

found : (o : Ordering) (b : Bool) (d e : Option Data) → b ≡ is_eq o → match_ordering o d e d ≡ (if b then e else d)
found Less b d e f = rw f refl
found Equal b d e f = rw f refl
found Greater b d e f = rw f refl

same_member : (name : List ℕ) (ms : Members) → get_member name ms ≡ member_in name ms
same_member name no_members = refl
same_member name (member key value ms) =
    found (slice_cmp nat_cmp name key) (same_bytes name key) (get_member name ms) (Some value) (texts_ties name key)
    ∙ ap (λ rest. if same_bytes name key then Some value else rest) (same_member name ms)

same_text : (o : Option Data) → option_and_then as_str o ≡ option_and_then text_in o
same_text None = refl
same_text (Some null) = refl
same_text (Some (boolean b)) = refl
same_text (Some (number n)) = refl
same_text (Some (string t)) = refl
same_text (Some (array ds)) = refl
same_text (Some (object ms)) = refl

same_grant : (o : Option Data) → unwrap_or (option_and_then as_bool o) false ≡ is_granted o
same_grant None = refl
same_grant (Some null) = refl
same_grant (Some (boolean b)) = refl
same_grant (Some (number n)) = refl
same_grant (Some (string t)) = refl
same_grant (Some (array ds)) = refl
same_grant (Some (object ms)) = refl

abbrev pub told_with : Bool → List ℕ → Told
told_with granted token = record { token = token; reconnect = granted }

-- what is told by the two members that are looked for
told_members : (d : Data) → told_in d
    ≡ option_map (told_with (unwrap_or (option_and_then as_bool (get (codes "useStatefulReconnect") d)) false)) (option_and_then as_str (get (codes "connectionToken") d))
told_members null = refl
told_members (boolean b) = refl
told_members (number n) = refl
told_members (string t) = refl
told_members (array ds) = refl
told_members (object ms) = sym (
    ap (λ g. option_map (told_with g) (option_and_then as_str (get_member (codes "connectionToken") ms)))
    (ap (λ o. unwrap_or (option_and_then as_bool o) false) (same_member (codes "useStatefulReconnect") ms) ∙ same_grant (member_in (codes "useStatefulReconnect") ms))
    ∙ ap (option_map (told_with (is_granted (member_in (codes "useStatefulReconnect") ms))))
    (ap (option_and_then as_str) (same_member (codes "connectionToken") ms) ∙ same_text (member_in (codes "connectionToken") ms)))

pub told_is : (d : Data) (text : Option (List ℕ)) (granted : Bool) → text ≡ option_and_then as_str (get (codes "connectionToken") d)
    → granted ≡ unwrap_or (option_and_then as_bool (get (codes "useStatefulReconnect") d)) false → option_map (told_with granted) text ≡ told_in d
told_is d text granted e f = sym (told_members d ∙ (ap (λ g. option_map (told_with g) (option_and_then as_str (get (codes "connectionToken") d))) (sym f)
    ∙ ap (option_map (told_with granted)) (sym e)))
