-- An object's members, read one after another.
use Rattle.std.proofs.Common.{◌≡◌, ℕ, ◌-◌, ◌<◌, [], ◌∷◌, ◌++◌, List, Some, None, Ok, length, refl, sym, ap, ◌∙◌, arith}
use Rattle.std.specs.BTreeMap.{insert_entry}
use Rattle.json.specs.Token.{Token}
use Rattle.json.specs.Lex.{tokens}
use Rattle.json.specs.Json.{parse_map, read_key, members, value}
use Rattle.json.proofs.Grammar.{value-begin_object, read_key-shorter}
use Rattle.serde_json.specs.Data.{object, no_members, put}
use Rattle.serde_json.specs.Read.{of_json, converted}
use Rattle.hv_value.specs.Laws.{PairsInOrderAreTheirMap, KeysOfAMapAreInOrder}
use Rattle.hv_value.specs.Tree.{Tree, Pair, map_of, put_all, key_cmp}
use Rattle.hv_json.specs.Members.{Opens, HasRead}
use Rattle.hv_json.specs.Quick.{Begins}
use Rattle.hv_json.specs.Reading.{reading, pairs_of}
use Rattle.hv_json.proofs.Puts.{pairs_of-put, put_all-push, float-put, depth-put}
use Rattle.hv_json.proofs.Turns.{converted-object, member_read, members_over, judged_whole}

pub none_read : (all : List Token) → HasRead all all []
none_read all = record { turns = length all; enough = omega arith; read = no_members; goes_on = refl; whole = refl; shallow = omega arith; same = refl }

pub one_more_member : (all old key new : List Token) (before : List Pair) (name : List ℕ) (t : Tree) → read_key old ≡ Some (Some name, key) → length new < length key
    → Begins 63 key new t → HasRead all old before → HasRead all new (before ++ (name, t) ∷ [])
one_more_member all old key new before name t named lesser got kept =
    let shorter = read_key-shorter old (Some name) key named in
    let d = got.0 in
    let ms = kept.read in
    let placed : put_all [] (before ++ (name, t) ∷ []) ≡ pairs_of (put name d ms) =
    put_all-push [] before (name, t) ∙ ap (λ (es : List Pair). insert_entry key_cmp es name t) kept.same ∙ ap (λ (x : Tree). insert_entry key_cmp (pairs_of ms) name x) got.4 ∙ sym (pairs_of-put name d ms) in
    record {
      turns = kept.turns - 1;
      enough = omega (arith, kept.enough, shorter, lesser);
      read = put name d ms;
      goes_on = kept.goes_on ∙ member_read (value 126) ms kept.turns name old key new d (omega (arith, kept.enough, shorter)) named got.1;
      whole = float-put name d ms kept.whole got.2;
      shallow = depth-put 63 name d ms kept.shallow got.3;
      same = placed;
    }

pub all_read : PairsInOrderAreTheirMap → KeysOfAMapAreInOrder → (bytes : List ℕ) (all old : List Token) (pairs : List Pair) → read_key old ≡ Some (None, []) → Opens bytes all → HasRead all old pairs
    → reading bytes ≡ Ok (map_of pairs)
all_read in_order sorted bytes all old pairs ended opens kept =
    let ms = kept.read in
    let level : 127 - 1 ≡ 126 = refl in
    let opened = ap (converted of_json) (ap (value 127) opens.opened ∙ value-begin_object 127 all (omega arith)) ∙ converted-object (members (value 126) (length all) all) in
    let over = kept.goes_on ∙ members_over (value 126) ms kept.turns old [] kept.enough ended in
    let whole : converted of_json (value 127 (tokens bytes)) ≡ Some (object ms, []) = opened ∙ ap (parse_map object) over in
    let same : map_of (put_all [] pairs) ≡ map_of pairs = in_order (put_all [] pairs) (sorted pairs) in
    judged_whole bytes (object ms) opens.utf8 whole kept.whole (omega (arith, kept.shallow)) ∙ ap (λ (t : Tree). Ok t) (ap map_of (sym kept.same) ∙ same)
