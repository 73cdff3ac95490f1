-- How deep a message nests, as it is read and as it is written.
use Rattle.std.proofs.Common.{◌≡◌, ℕ, ◌≤◌, max, true, false, List, [], ◌∷◌, ◌++◌, Option, Some, None, Ok, refl, ap, sym, ◌∙◌, arith}
use Rattle.hv_value.specs.Tree.{Tree, null, boolean, int, text, bytes, list, map, Pairs, Pair, trees, depth, depths_of_pairs, depth_of_all, depth_of_values, value_at}
use Rattle.hv_value.specs.View as seen
use Rattle.hm_message.specs.Fields.{trees_in, items_in}
use Rattle.hm_message.specs.Headers.{Header}
use Rattle.hm_message.specs.Kind.{number, kind_of}
use Rattle.hm_message.specs.Laws.{ValuesAreTrees}
use Rattle.hm_message.specs.Message.{Fits, ending_depth}
use Rattle.hm_message.specs.Name.{field_name}
use Rattle.hm_message.specs.declared.message.Field.{Field}
use Rattle.hm_message.specs.declared.message.Field.TheVariants as field
use Rattle.hm_message.specs.declared.message.Message.{Message}
use Rattle.hm_message.specs.declared.message.Message.TheVariants.{Invocation, StreamItem, Completion, StreamInvocation, CancelInvocation, Ping, Close, Ack, Sequence}
use Rattle.hm_message.specs.declared.message.Ending.{Ending}
use Rattle.hm_message.specs.declared.message.Ending.TheVariants as ending
use Rattle.hm_json.specs.Properties as property
use Rattle.hm_json.specs.Properties.{needed}
use Rattle.hm_json.specs.Says.{Holds, Ends}
use Rattle.hm_message.specs.Trees.{texts, header_pairs}
use Rattle.hm_json.specs.Frame.{property_of, headers_written, streams_written, text_written, allow_written}
use Rattle.hm_json.specs.Written.{error_written, result_written, properties_in_order, in_name_order}
use Rattle.hm_json.proofs.Lookups.{depth_at}

-- ---- what is read

arguments_depth : ValuesAreTrees → (ps : Pairs) (xs : List Tree) → property.arguments (map ps) ≡ Ok xs → depth (list (trees xs)) ≤ depths_of_pairs ps
arguments_depth same ps xs h = go (value_at (field_name field.Arguments) (map ps)) refl h
  where
    go : (o : Option Tree) → value_at (field_name field.Arguments) (map ps) ≡ o → needed field.Arguments items_in o ≡ Ok xs → depth (list (trees xs)) ≤ depths_of_pairs ps
    go None e h = absurd cc
    go (Some (list ts)) e h =
        let all_read : trees_in ts ≡ xs = cc in
        let all : trees xs ≡ ts = ap trees (sym all_read) ∙ same.trees-trees_in ts in
        rw all (depth_at (field_name field.Arguments) ps (list ts) e)
    go (Some null) e h = absurd cc
    go (Some (boolean b)) e h = absurd cc
    go (Some (int z)) e h = absurd cc
    go (Some (text s)) e h = absurd cc
    go (Some (bytes s)) e h = absurd cc
    go (Some (map qs)) e h = absurd cc

item_depth : (ps : Pairs) (t : Tree) → property.item (map ps) ≡ Ok t → depth t ≤ depths_of_pairs ps
item_depth ps t h = go (value_at (field_name field.Item) (map ps)) refl h
  where
    go : (o : Option Tree) → value_at (field_name field.Item) (map ps) ≡ o → needed field.Item Some o ≡ Ok t → depth t ≤ depths_of_pairs ps
    go None e h = absurd cc
    go (Some u) e h = let same : u ≡ t = cc in rw (← same) (depth_at (field_name field.Item) ps u e)

ending_fits : (ps : Pairs) (e : Ending) → Ends (map ps) e → ending_depth e ≤ depths_of_pairs ps
ending_fits ps ending.Void h = omega arith
ending_fits ps (ending.Result v) h = depth_at (field_name field.Ending) ps (seen.tree v) h.1
ending_fits ps (ending.Error s) h = omega arith

-- what an object says that isn't too deep fits
pub read_fits : ValuesAreTrees → (ps : Pairs) (m : Message) → depth (map ps) ≤ 64 → Holds (map ps) m → Fits m
read_fits same ps (Invocation headers id target arguments streams) d h = omega (arith, arguments_depth same ps arguments h.3)
read_fits same ps (StreamItem headers id v) d h = omega (arith, item_depth ps (seen.tree v) h.2)
read_fits same ps (Completion headers id e) d h = omega (arith, ending_fits ps e h.2)
read_fits same ps (StreamInvocation headers id target arguments streams) d h = omega (arith, arguments_depth same ps arguments h.3)
read_fits same ps (CancelInvocation headers id) d h = omega arith
read_fits same ps Ping d h = omega arith
read_fits same ps (Close error allow) d h = omega arith
read_fits same ps (Ack upto) d h = omega arith
read_fits same ps (Sequence first received) d h = omega arith

-- ---- what is written

both_depths : (ps qs : List Pair) → depth_of_values (ps ++ qs) ≡ max (depth_of_values ps) (depth_of_values qs)
both_depths [] qs = omega arith
both_depths (p ∷ ps) qs = omega (arith, both_depths ps qs)

depth-header_pairs : (hs : List Header) → depth_of_values (header_pairs hs) ≡ 0
depth-header_pairs [] = refl
depth-header_pairs (h ∷ hs) = omega (arith, depth-header_pairs hs)

depth-texts : (ss : List (List ℕ)) → depth_of_all (texts ss) ≡ 0
depth-texts [] = refl
depth-texts (s ∷ ss) = omega (arith, depth-texts ss)

headers_depth : (hs : List Header) → depth_of_values (headers_written hs) ≤ 1
headers_depth [] = omega arith
headers_depth (h ∷ hs) = omega (arith, depth-header_pairs hs)

streams_depth : (ss : List (List ℕ)) → depth_of_values (streams_written ss) ≤ 1
streams_depth [] = omega arith
streams_depth (s ∷ ss) = omega (arith, depth-texts ss)

text_depth : (f : Field) (s : Option (List ℕ)) → depth_of_values (text_written f s) ≤ 0
text_depth f None = omega arith
text_depth f (Some s) = omega arith

result_depth : (e : Ending) → ending_depth e ≤ 63 → depth_of_values (result_written e) ≤ 63
result_depth ending.Void h = omega arith
result_depth (ending.Result v) h = omega arith
result_depth (ending.Error s) h = omega arith

error_depth : (e : Ending) → depth_of_values (error_written e) ≤ 0
error_depth ending.Void = omega arith
error_depth (ending.Result v) = omega arith
error_depth (ending.Error s) = omega arith

-- the arguments, what stands between them and the target, and the target
call_depth : (xs : List Tree) (hs is ss ts : List Pair) → depth (list (trees xs)) ≤ 63 → depth_of_values hs ≤ 1 → depth_of_values is ≤ 0 → depth_of_values ss ≤ 1 → depth_of_values ts ≤ 0
    → depth_of_values (property_of field.Arguments (list (trees xs)) ++ hs ++ is ++ ss ++ ts) ≤ 63
call_depth xs hs is ss ts h a b c d =
    let xs_ : List Pair = property_of field.Arguments (list (trees xs)) in
    omega (arith, h, a, b, c, d, both_depths (xs_ ++ hs ++ is ++ ss) ts, both_depths (xs_ ++ hs ++ is) ss, both_depths (xs_ ++ hs) is, both_depths xs_ hs)

properties_depth : (m : Message) → Fits m → depth_of_values (properties_in_order m) ≤ 63
properties_depth (Invocation headers id target arguments streams) h =
    call_depth arguments (headers_written headers) (text_written field.InvocationId id) (streams_written streams) (property_of field.Target (text target))
    h (headers_depth headers) (text_depth field.InvocationId id) (streams_depth streams) (omega arith)
properties_depth (StreamItem headers id v) h =
    let ids : List Pair = property_of field.InvocationId (text id) in
    omega (arith, h, headers_depth headers, both_depths (headers_written headers ++ ids) (property_of field.Item (seen.tree v)), both_depths (headers_written headers) ids)
properties_depth (Completion headers id e) h =
    let ids : List Pair = property_of field.InvocationId (text id) in
    omega (
      arith,
      result_depth e h,
      error_depth e,
      headers_depth headers,
      both_depths (error_written e ++ headers_written headers ++ ids) (result_written e),
      both_depths (error_written e ++ headers_written headers) ids,
      both_depths (error_written e) (headers_written headers),
    )
properties_depth (StreamInvocation headers id target arguments streams) h =
    call_depth arguments (headers_written headers) (property_of field.InvocationId (text id)) (streams_written streams) (property_of field.Target (text target))
    h (headers_depth headers) (omega arith) (streams_depth streams) (omega arith)
properties_depth (CancelInvocation headers id) h =
    omega (arith, headers_depth headers, both_depths (headers_written headers) (property_of field.InvocationId (text id)))
properties_depth Ping h = omega arith
properties_depth (Close error true) h = omega (arith, text_depth field.Error error, both_depths (allow_written true) (text_written field.Error error))
properties_depth (Close error false) h = omega (arith, text_depth field.Error error, both_depths (allow_written false) (text_written field.Error error))
properties_depth (Ack upto) h = omega arith
properties_depth (Sequence first None) h = omega arith
properties_depth (Sequence first (Some n)) h = omega arith

pub in_name_depth : (m : Message) → Fits m → depth_of_values (in_name_order m) ≤ 63
in_name_depth m h = omega (arith, properties_depth m h, both_depths (properties_in_order m) (property_of field.Kind (int (number (kind_of m)))))
