-- What is written is read again, as the value's image.
use Rattle.std.proofs.Common.{◌≡◌, ℕ, suc, ◌≤◌, max, ℤ, pos, negsuc, false, ◌||◌, Some, Ok, option_map, List, [], ◌∷◌, ◌++◌, refl, sym, ap, subst, ◌∙◌, arith, append-nil, append_assoc}
use Rattle.std.specs.Prelude.{nat_lt}
use Rattle.std.specs.declared.cmp.Ordering.TheVariants.{Less, Greater}
use Rattle.std.specs.List.{AllByRecursion}
use Rattle.std.specs.List.Sorted.{IsStrictlySortedBy}
use Rattle.std.specs.Map.{keys_of}
use Rattle.std.specs.Ordering.{ordering_reverse}
use Rattle.std.specs.Str.{IsUtf8}
use Rattle.std.proofs.lemmas.Bool.{le-ltb}
use Rattle.std.proofs.lemmas.Cmp.{nat_list_cmp_total}
use Rattle.std.proofs.lemmas.Int.{ints}
use Rattle.json.specs.Json.{value}
use Rattle.json.specs.Lex.{tokens}
use Rattle.json.specs.Tree as token
use Rattle.json.proofs.Printed.Trees.{value-json_tokens}
use Rattle.serde_json.specs.Data as json
use Rattle.serde_json.specs.Data.{Data, Items, Members, put}
use Rattle.serde_json.specs.Find.{of_integer, is_float}
use Rattle.serde_json.specs.Read.{read, number_of, of_json, of_items, of_members, converted}
use Rattle.serde_json.specs.Written.{has_float, items_have_float, members_have_float, number_text, outline, items_outline, members_outline, compact_text}
use Rattle.serde_json.proofs.Numbers.{number_of-decimal, number_of-negative}
use Rattle.serde_json.proofs.Texts.{print-outline}
use Rattle.hv_value.specs.Tree.{Tree, null, boolean, int, text, bytes, list, map, Trees, no_trees, more, Pairs, no_pairs, pair, trees, pairs, key_cmp, depth, depths, depths_of_pairs}
use Rattle.hv_value.specs.Image.{image, trees_image, pairs_image}
use Rattle.hv_value.specs.Laws.{PairsInOrderAreTheirMap}
use Rattle.hv_value.specs.Order.{keys_of_pairs, IsInOrder, AllInOrder, PairsInOrder}
use Rattle.hv_value.specs.Whole.{IsWhole}
use Rattle.hv_json.specs.Laws.{PrintedIsText, TextIsOfImage, WrittenIsReadAgain}
use Rattle.hv_json.specs.Reading.{json as json_read, reading, tree_of, trees_of, pairs_of, int_of}
use Rattle.hv_json.specs.Sent.{sent, HasWholes, AllHaveWholes, PairsHaveWholes}
use Rattle.hv_json.specs.Writing.{json_of, items_of, members_of, json_text}
use Rattle.hv_json.proofs.Judged.{is_json}
use Rattle.hv_json.proofs.Turns.{whole_read}

int_of-integer : (z : ℤ) → int_of (of_integer z) ≡ int z
int_of-integer (pos n) = refl
int_of-integer (negsuc n) = refl

keys_of-members : (ps : Pairs) → keys_of (pairs_of (members_of ps)) ≡ keys_of_pairs ps
keys_of-members no_pairs = refl
keys_of-members (pair k t ps) = ap (λ (ks : List (List ℕ)). k ∷ ks) (keys_of-members ps)

module _ (map_of-sorted : PairsInOrderAreTheirMap) where
  mutual
    tree_of-json_of : (t : Tree) → IsInOrder t → tree_of (json_of t) ≡ image t
    tree_of-json_of null h = refl
    tree_of-json_of (boolean b) h = refl
    tree_of-json_of (int z) h = int_of-integer z
    tree_of-json_of (text s) h = refl
    tree_of-json_of (bytes s) h = refl
    tree_of-json_of (list ts) h = ap list (trees_of-items_of ts h)
    tree_of-json_of (map ps) h =
        let sorted : IsStrictlySortedBy key_cmp (keys_of (pairs_of (members_of ps))) = rw (keys_of-members ps) h.0 in
        map_of-sorted (pairs_of (members_of ps)) sorted ∙ ap map (pairs_of-members_of ps h.1)

    trees_of-items_of : (ts : Trees) → AllInOrder ts → trees (trees_of (items_of ts)) ≡ trees_image ts
    trees_of-items_of no_trees h = refl
    trees_of-items_of (more t ts) h = λ i. more (tree_of-json_of t h.0 i) (trees_of-items_of ts h.1 i)

    pairs_of-members_of : (ps : Pairs) → PairsInOrder ps → pairs (pairs_of (members_of ps)) ≡ pairs_image ps
    pairs_of-members_of no_pairs h = refl
    pairs_of-members_of (pair k t ps) h = λ i. pair k (tree_of-json_of t h.0 i) (pairs_of-members_of ps h.1 i)

mutual
  depth-json_of : (t : Tree) → json.depth (json_of t) ≡ depth t
  depth-json_of null = refl
  depth-json_of (boolean b) = refl
  depth-json_of (int z) = refl
  depth-json_of (text s) = refl
  depth-json_of (bytes s) = refl
  depth-json_of (list ts) = ap suc (depths-items_of ts)
  depth-json_of (map ps) = ap suc (depths-members_of ps)

  depths-items_of : (ts : Trees) → json.items_depth (items_of ts) ≡ depths ts
  depths-items_of no_trees = refl
  depths-items_of (more t ts) = λ i. max (depth-json_of t i) (depths-items_of ts i)

  depths-members_of : (ps : Pairs) → json.members_depth (members_of ps) ≡ depths_of_pairs ps
  depths-members_of no_pairs = refl
  depths-members_of (pair k t ps) = λ i. max (depth-json_of t i) (depths-members_of ps i)

is_float-integer : (z : ℤ) → is_float (of_integer z) ≡ false
is_float-integer (pos n) = refl
is_float-integer (negsuc n) = refl

mutual
  has_float-json_of : (t : Tree) → has_float (json_of t) ≡ false
  has_float-json_of null = refl
  has_float-json_of (boolean b) = refl
  has_float-json_of (int z) = is_float-integer z
  has_float-json_of (text s) = refl
  has_float-json_of (bytes s) = refl
  has_float-json_of (list ts) = items_have_float-items_of ts
  has_float-json_of (map ps) = members_have_float-members_of ps

  items_have_float-items_of : (ts : Trees) → items_have_float (items_of ts) ≡ false
  items_have_float-items_of no_trees = refl
  items_have_float-items_of (more t ts) = λ i. has_float-json_of t i || items_have_float-items_of ts i

  members_have_float-members_of : (ps : Pairs) → members_have_float (members_of ps) ≡ false
  members_have_float-members_of no_pairs = refl
  members_have_float-members_of (pair k t ps) = λ i. has_float-json_of t i || members_have_float-members_of ps i

is_read_again : PairsInOrderAreTheirMap → (s : List ℕ) (t : Tree) → json_read s ≡ Some (json_of t) → IsInOrder t → depth t ≤ 64 → reading s ≡ Ok (image t)
unfolding reading
is_read_again law s t e order deep =
    let shallow : nat_lt 64 (json.depth (json_of t)) ≡ false = le-ltb _ _ (omega (arith, depth-json_of t, deep)) in
    rw (e, has_float-json_of t, shallow, tree_of-json_of law t order) refl

-- the image has the same JSON
mutual
  json_of-image : (t : Tree) → json_of t ≡ json_of (image t)
  json_of-image null = refl
  json_of-image (boolean b) = refl
  json_of-image (int z) = refl
  json_of-image (text s) = refl
  json_of-image (bytes s) = refl
  json_of-image (list ts) = ap json.array (items_of-image ts)
  json_of-image (map ps) = ap json.object (members_of-image ps)

  items_of-image : (ts : Trees) → items_of ts ≡ items_of (trees_image ts)
  items_of-image no_trees = refl
  items_of-image (more t ts) = λ i. json.item (json_of-image t i) (items_of-image ts i)

  members_of-image : (ps : Pairs) → members_of ps ≡ members_of (pairs_image ps)
  members_of-image no_pairs = refl
  members_of-image (pair k t ps) = λ i. json.member k (json_of-image t i) (members_of-image ps i)

-- ---- members that are read one after another, in the order of their names

abbrev names : Members → List (List ℕ)
names json.no_members = []
names (json.member k d ms) = k ∷ names ms

abbrev join_members : Members → Members → Members
join_members json.no_members ms = ms
join_members (json.member k d done) ms = json.member k d (join_members done ms)

join-nothing : (ms : Members) → join_members ms json.no_members ≡ ms
join-nothing json.no_members = refl
join-nothing (json.member k d ms) = ap (json.member k d) (join-nothing ms)

join-more : (done : Members) (k : List ℕ) (d : Data) (ms : Members) → join_members (join_members done (json.member k d json.no_members)) ms ≡ join_members done (json.member k d ms)
join-more json.no_members k d ms = refl
join-more (json.member l e done) k d ms = ap (json.member l e) (join-more done k d ms)

names-join : (done : Members) (k : List ℕ) (d : Data) → names (join_members done (json.member k d json.no_members)) ≡ names done ++ k ∷ []
names-join json.no_members k d = refl
names-join (json.member l e done) k d = ap (λ (ks : List (List ℕ)). l ∷ ks) (names-join done k d)

below : (first : List ℕ) (ks : List (List ℕ)) (k : List ℕ) (left : List (List ℕ)) → AllByRecursion (λ y. key_cmp first y ≡ Less) (ks ++ k ∷ left) → key_cmp first k ≡ Less
below first [] k left h = h.0
below first (l ∷ ks) k left h = below first ks k left h.1

above : (first : List ℕ) (ks : List (List ℕ)) (k : List ℕ) (left : List (List ℕ)) → AllByRecursion (λ y. key_cmp first y ≡ Less) (ks ++ k ∷ left) → key_cmp k first ≡ Greater
above first ks k left h = nat_list_cmp_total.antisymm k first ∙ ap ordering_reverse (below first ks k left h)

-- a member whose name is above those before it goes last
put-last : (done : Members) (k : List ℕ) (d : Data) (left : List (List ℕ)) → IsStrictlySortedBy key_cmp (names done ++ k ∷ left) → put k d done ≡ join_members done (json.member k d json.no_members)
unfolding IsStrictlySortedBy
put-last json.no_members k d left h = refl
put-last (json.member first e done) k d left h = rw (above first (names done) k left h.0) (ap (json.member first e) (put-last done k d left h.1))

abbrev put_members : Members → Members → Members
put_members done json.no_members = done
put_members done (json.member k d ms) = put_members (put k d done) ms

put_members-sorted : (done ms : Members) → IsStrictlySortedBy key_cmp (names done ++ names ms) → put_members done ms ≡ join_members done ms
put_members-sorted done json.no_members h = sym (join-nothing done)
put_members-sorted done (json.member k d ms) h =
    let more = join_members done (json.member k d json.no_members) in
    let grown : names more ++ names ms ≡ names done ++ k ∷ names ms = ap (λ (ks : List (List ℕ)). ks ++ names ms) (names-join done k d) ∙ append_assoc (names done) (k ∷ []) (names ms) in
    ap (λ (x : Members). put_members x ms) (put-last done k d (names ms) h)
    ∙ put_members-sorted more ms (subst (λ (ks : List (List ℕ)). IsStrictlySortedBy key_cmp ks) (sym grown) h)
    ∙ join-more done k d ms

-- ---- what is sent is read as the JSON that it was sent for

number_of-integer : (z : ℤ) → IsWhole z → number_of (number_text (of_integer z)) ≡ Some (of_integer z)
number_of-integer (pos n) h = number_of-decimal n (omega (arith, ints, h.1))
number_of-integer (negsuc n) h = number_of-negative n (omega (arith, ints, h.0))

names-members_of : (ps : Pairs) → names (members_of ps) ≡ keys_of_pairs ps
names-members_of no_pairs = refl
names-members_of (pair k t ps) = ap (λ (ks : List (List ℕ)). k ∷ ks) (names-members_of ps)

mutual
  of_json-outline : (t : Tree) → IsInOrder t → HasWholes t → of_json (outline (json_of t)) ≡ Some (json_of t)
  of_json-outline null h w = refl
  of_json-outline (boolean b) h w = refl
  of_json-outline (int z) h w = ap (option_map json.number) (number_of-integer z w)
  of_json-outline (text s) h w = refl
  of_json-outline (bytes s) h w = refl
  of_json-outline (list ts) h w = ap (option_map json.array) (of_items-outline ts h w)
  of_json-outline (map ps) h w =
      let sorted : IsStrictlySortedBy key_cmp (names json.no_members ++ names (members_of ps)) = rw (names-members_of ps) h.0 in
      ap (option_map json.object) (of_members-outline ps json.no_members h.1 w ∙ ap (λ (x : Members). Some x) (put_members-sorted json.no_members (members_of ps) sorted))

  of_items-outline : (ts : Trees) → AllInOrder ts → AllHaveWholes ts → of_items (items_outline (items_of ts)) ≡ Some (items_of ts)
  of_items-outline no_trees h w = refl
  of_items-outline (more t ts) h w = rw (of_json-outline t h.0 w.0, of_items-outline ts h.1 w.1) refl

  of_members-outline : (ps : Pairs) (found : Members) → PairsInOrder ps → PairsHaveWholes ps → of_members (members_outline (members_of ps)) found ≡ Some (put_members found (members_of ps))
  of_members-outline no_pairs found h w = refl
  of_members-outline (pair k t ps) found h w = rw (of_json-outline t h.0 w.0) (of_members-outline ps (put k (json_of t) found) h.1 w.1)

mutual
  depth-outline : (d : Data) → token.depth (outline d) ≡ json.depth d
  depth-outline json.null = refl
  depth-outline (json.boolean b) = refl
  depth-outline (json.number n) = refl
  depth-outline (json.string s) = refl
  depth-outline (json.array ds) = ap suc (depth-items_outline ds)
  depth-outline (json.object ms) = ap suc (depth-members_outline ms)

  depth-items_outline : (ds : Items) → token.items_depth (items_outline ds) ≡ json.items_depth ds
  depth-items_outline json.no_items = refl
  depth-items_outline (json.item d ds) = λ i. max (depth-outline d i) (depth-items_outline ds i)

  depth-members_outline : (ms : Members) → token.members_depth (members_outline ms) ≡ json.members_depth ms
  depth-members_outline json.no_members = refl
  depth-members_outline (json.member k d ms) = λ i. max (depth-outline d i) (depth-members_outline ms i)

pub printed : PrintedIsText
unfolding json_text
printed t = print-outline (json_of t)

read_back : (t : Tree) → IsInOrder t → HasWholes t → depth t ≤ 64 → tokens (json_text t) ≡ sent t → read (json_text t) ≡ Some (json_of t)
read_back t order wholes deep same =
    let j = outline (json_of t) in
    let d = json_of t in
    let flat : token.depth j ≤ 127 = omega (arith, depth-outline d, depth-json_of t, deep) in
    let parsed : value 127 (tokens (json_text t)) ≡ Some (j, []) = ap (value 127) (same ∙ sym (append-nil (sent t))) ∙ value-json_tokens j 127 [] flat in
    whole_read (value 127 (tokens (json_text t))) d (ap (converted of_json) parsed ∙ ap (λ o. option_map (λ b. (b, [])) o) (of_json-outline t order wholes))

pub written_again : PairsInOrderAreTheirMap → WrittenIsReadAgain
written_again law t order wholes deep same utf8 =
    let text = printed t in
    let held : tokens (json_text t) ≡ sent t = ap tokens (sym text) ∙ same in
    let good : IsUtf8 (json_text t) = subst IsUtf8 text utf8 in
    is_read_again law (json_text t) t (is_json (json_text t) (json_of t) good (read_back t order wholes deep held)) order deep

pub image_text : TextIsOfImage
unfolding json_text
image_text t = ap compact_text (json_of-image t)
