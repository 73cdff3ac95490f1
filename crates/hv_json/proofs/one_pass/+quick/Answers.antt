use Rattle.std.proofs.Common.{rules, List, ◌≡◌, ◌∙◌, ◌+◌, ◌-◌, ◌<◌, ◌∷◌, [], ◌++◌, length, Some, None, option_map, refl, sym, ap, subst, arith}
use Rattle.std.proofs.lemmas.List.{map_push}
use Rattle.json.specs.Token.{Token}
use Rattle.json.specs.Json.{parse_map, after_end_array, read_key, items, members, value}
use Rattle.json.specs.Reads.{token_of}
use Rattle.json.proofs.Grammar.{value_is, value-begin_array, value-begin_object, read_key-shorter}
use Rattle.serde_json.specs.Data.{null, boolean, number, string, array, object, no_items, item, no_members, put}
use Rattle.serde_json.specs.Read.{of_json, of_items, of_members, converted}
use Rattle.hv_value.specs.Tree.{Tree, Pair, text, list, trees, map_of, put_all, key_cmp, depth_of_values}
use Rattle.hv_value.specs.Order.{IsInOrder}
use Rattle.std.specs.List.Sorted.{IsStrictlySortedBy}
use Rattle.std.specs.Map.{keys_of}
use Rattle.std.specs.BTreeMap.{insert_entry}
use Rattle.hv_value.specs.View.{tree, trees_of as values_of, entry, entries}
use Rattle.hv_json.specs.Reading.{trees_of, pairs_of}
use Rattle.hv_json.proofs.Joins.{join, join-nothing, one-more, none-before, float-join, depth-join, trees-join}
use Rattle.hv_json.proofs.Puts.{pairs_of-put, put_all-push, float-put, depth-put}
use Rattle.hv_json.proofs.Turns.{converted-array, converted-object, item_read, items_over, member_read, members_over}
use Rattle.hv_json.proofs.one_pass.+quick.Goals as goal

pub quick-returns-in_ok-of-in-String-clause-ok : goal.quick-returns-in_ok-of-in-String-clause-ok
quick-returns-in_ok-of-in-String-clause-ok t c =
    let first : c.args.reader.now ≡ token_of c.in_ok-token.token ∷ c.next.new.self = grind arith in
    let is : c.args.reader.now ≡ Token.string c.in-String.text.now ∷ c.next.new.self = grind (arith, first) in
    (string c.in-String.text.now, ap (converted of_json) (ap (value (c.args.room + 63)) is ∙ value_is (c.args.room + 63) _), refl, omega arith, ap text c.in_ok-of-in-String.ensures)

pub quick-returns-in-Some-clause-ok : goal.quick-returns-in-Some-clause-ok
quick-returns-in-Some-clause-ok t c =
    let first : c.args.reader.now ≡ token_of c.in_ok-token.token ∷ c.next.new.self = grind arith in
    let is : c.args.reader.now ≡ Token.number c.in-Number.text.now ∷ c.next.new.self = grind (arith, first) in
    let x = c.in-Some.ensures.0 in
    (number x, ap (converted of_json) (ap (value (c.args.room + 63)) is ∙ value_is (c.args.room + 63) _) ∙ ap (λ o. option_map (λ b. (b, c.next.new.self)) (option_map number o)) c.in-Some.ensures.1, c.in-Some.ensures.2, omega arith, sym c.in-Some.ensures.3)

pub quick-returns-in-Bool-clause-ok : goal.quick-returns-in-Bool-clause-ok
quick-returns-in-Bool-clause-ok t c =
    let first : c.args.reader.now ≡ token_of c.in_ok-token.token ∷ c.next.new.self = grind arith in
    let is : c.args.reader.now ≡ Token.boolean c.in-Bool.b ∷ c.next.new.self = grind (arith, first) in
    (boolean c.in-Bool.b, ap (converted of_json) (ap (value (c.args.room + 63)) is ∙ value_is (c.args.room + 63) _), refl, omega arith, refl)

pub quick-returns-in-Null-clause-ok : goal.quick-returns-in-Null-clause-ok
quick-returns-in-Null-clause-ok t c =
    let first : c.args.reader.now ≡ token_of c.in_ok-token.token ∷ c.next.new.self = grind arith in
    let is : c.args.reader.now ≡ Token.null ∷ c.next.new.self = grind (arith, first) in
    (null, ap (converted of_json) (ap (value (c.args.room + 63)) is ∙ value_is (c.args.room + 63) _), refl, omega arith, refl)

pub quick-returns-in-Ok-clause-ok : goal.quick-returns-in-Ok-clause-ok
quick-returns-in-Ok-clause-ok t c =
    let first : c.args.reader.now ≡ token_of c.in_ok-token.token ∷ c.next.new.self = grind arith in
    let is : c.args.reader.now ≡ Token.begin_array ∷ c.next.new.self = grind (arith, first) in
    let d = c.args.room + 63 in
    let inner : d - 1 ≡ c.args.room - 1 + 63 = omega arith in
    let opened = ap (converted of_json) (ap (value d) is ∙ value-begin_array d c.next.new.self (omega arith)) ∙ converted-array (items (value (d - 1)) (length c.next.new.self) c.next.new.self) in
    let level = ap (λ k. parse_map array (converted of_items (items (value k) (length c.next.new.self) c.next.new.self))) inner in
    let found = c.in_ok-values-in-BeginArray.ensures.ok in
    let ds = found.0 in
    (array ds, opened ∙ level ∙ ap (parse_map array) found.1, found.2, omega (arith, found.3), ap (λ ts. list (trees ts)) (c.in-Ok.ensures.ok ∙ found.4))

pub quick_items-items-init : goal.quick_items-items-init
quick_items-items-init t c =
    let all = converted of_items (items (value (c.args.room + 63)) (length c.args.reader.now) c.args.reader.now) in
    (length c.args.reader.now, omega arith, no_items, none-before all, refl, omega arith, ap values_of c.new-values.ensures.items, omega arith)

pub quick_items-items-preserved : goal.quick_items-items-preserved
quick_items-items-preserved t c =
    let p = value (c.args.room + 63) in
    let l = c.items in
    let n = l.invariant.0 in
    let kept = l.invariant in
    let front = kept.2 in
    let going : (after_end_array l.reader ≡ None) × (c.take_end_array.new.self ≡ l.reader) = grind arith in
    let done = c.in_ok-value.ensures in
    let r = c.quick.new.reader in
    let v = c.in_ok-value.value in
    let less : length r < length l.reader = rw (← going.1) done.shorter in
    let got = rw going.1 at done.ok in
    let d = got.0 in
    let turn = item_read p n l.reader r d (omega (arith, kept.1)) going.0 got.1 in (
      n - 1,
      omega (arith, kept.1, less),
      join front (item d no_items),
      kept.3 ∙ ap (parse_map (join front)) turn ∙ one-more front d _,
      float-join front d kept.4 got.2,
      depth-join c.args.room front d kept.5 got.3,
      ap values_of c.in_ok-push.ensures.items ∙ map_push tree l.values.items v ∙ ap (λ ts. ts ++ tree v ∷ []) kept.6 ∙ ap (λ x. trees_of front ++ x ∷ []) got.4 ∙ sym (trees-join front d),
      omega (arith, kept.7, less),
    )

pub quick_items-returns-clause-ok : goal.quick_items-returns-clause-ok
quick_items-returns-clause-ok t c =
    let p = value (c.args.room + 63) in
    let l = c.items in
    let n = l.invariant.0 in
    let kept = l.invariant in
    let front = kept.2 in
    let r = c.take_end_array.new.self in
    let over : after_end_array l.reader ≡ Some r = grind arith in
    let whole = kept.3 ∙ ap (parse_map (join front)) (items_over p n l.reader r kept.1 over) in
    (front, whole ∙ ap (λ ds. Some (ds, r)) (join-nothing front), kept.4, kept.5, kept.6)

pub quick-returns-in-Ok-map_from-clause-ok : goal.quick-returns-in-Ok-map_from-clause-ok
quick-returns-in-Ok-map_from-clause-ok t c =
    let first : c.args.reader.now ≡ token_of c.in_ok-token.token ∷ c.next.new.self = grind arith in
    let is : c.args.reader.now ≡ Token.begin_object ∷ c.next.new.self = grind (arith, first) in
    let d = c.args.room + 63 in
    let rest = c.next.new.self in
    let inner : d - 1 ≡ c.args.room - 1 + 63 = omega arith in
    let opened = ap (converted of_json) (ap (value d) is ∙ value-begin_object d rest (omega arith)) ∙ converted-object (members (value (d - 1)) (length rest) rest) in
    let level = ap (λ k. parse_map object (converted (λ ms. of_members ms no_members) (members (value k) (length rest) rest))) inner in
    let found = c.in_ok-pairs-in-BeginObject.ensures.ok in
    let ms = found.0 in
    let es = entries c.in_ok-pairs-in-BeginObject.pairs.items in
    let made : tree c.in-Ok-map_from.map ≡ map_of es = c.in-Ok-map_from.ensures.ok in
    let ordered : IsInOrder (map_of es) = subst IsInOrder made c.depth.ensures.in_order in
    let sorted : IsStrictlySortedBy key_cmp (keys_of (put_all [] es)) = subst (λ ks. IsStrictlySortedBy key_cmp ks) (c.map_has_the_keys.ensures (put_all [] es)) ordered.0 in
    let same : map_of (put_all [] es) ≡ map_of es = c.pairs_in_order_are_their_map.ensures (put_all [] es) sorted in
    (object ms, opened ∙ level ∙ ap (parse_map object) found.1, found.2, omega (arith, found.3), made ∙ sym same ∙ ap map_of found.4)

pub quick_members-members-init : goal.quick_members-members-init
quick_members-members-init t c =
    (length c.args.reader.now, omega arith, no_members, refl, refl, omega arith, ap (λ xs. put_all [] (entries xs)) c.new-pairs.ensures.items, omega arith, omega (arith, ap (λ xs. depth_of_values (entries xs)) c.new-pairs.ensures.items))

pub quick_members-members-preserved : goal.quick_members-members-preserved
quick_members-members-preserved t c =
    let p = value (c.args.room + 63) in
    let l = c.members in
    let kept = l.invariant in
    let n = kept.0 in
    let old = kept.2 in
    let k = c.in-Ok-Some.name.now in
    let s = c.next_key.new.self in
    let named : read_key l.reader ≡ Some (Some k, s) = grind arith in
    let shorter = read_key-shorter l.reader (Some k) s named in
    let done = c.in_ok-member.ensures in
    let r = c.quick.new.reader in
    let got = done.ok in
    let d = got.0 in
    let v = c.in_ok-member.member in
    let lesser = done.shorter in
    let copied : c.in_ok-key.key ≡ k = search rules in
    let pushed : entries c.push.new.self.items ≡ entries l.pairs.items ++ (c.in_ok-key.key, tree v) ∷ [] = ap entries c.in_ok-push.ensures.items ∙ map_push entry l.pairs.items (c.in_ok-key.key, v) in
    let placed : put_all [] (entries c.push.new.self.items) ≡ pairs_of (put k d old) =
    ap (put_all []) pushed ∙ put_all-push [] (entries l.pairs.items) (c.in_ok-key.key, tree v) ∙ ap (λ (es : List Pair). insert_entry key_cmp es c.in_ok-key.key (tree v)) kept.6 ∙ ap (λ key. insert_entry key_cmp (pairs_of old) key (tree v)) copied
    ∙ ap (λ (x : Tree). insert_entry key_cmp (pairs_of old) k x) got.4 ∙ sym (pairs_of-put k d old) in (
      n - 1,
      omega (arith, kept.1, shorter, lesser),
      put k d old,
      kept.3 ∙ member_read p old n k l.reader s r d (omega (arith, kept.1, shorter)) named got.1,
      float-put k d old kept.4 got.2,
      depth-put c.args.room k d old kept.5 got.3,
      placed,
      omega (arith, kept.7, shorter, lesser),
      omega (arith, kept.8, ap (λ xs. depth_of_values (entries xs)) c.in_ok-push.ensures.items, c.depth_of_one_more_pair.ensures l.pairs.items (c.in_ok-key.key, v), c.depth.ensures.exact),
    )

pub quick_members-returns-clause-shallow : goal.quick_members-returns-clause-shallow
quick_members-returns-clause-shallow t c = c.members.invariant.8

pub quick_members-returns-clause-ok : goal.quick_members-returns-clause-ok
quick_members-returns-clause-ok t c =
    let p = value (c.args.room + 63) in
    let l = c.members in
    let kept = l.invariant in
    let old = kept.2 in
    (old, kept.3 ∙ members_over p old kept.0 l.reader c.next_key.new.self kept.1 (grind arith), kept.4, kept.5, kept.6)
