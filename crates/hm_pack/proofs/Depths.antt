-- How deep a message nests, as it is read and as it is written.
use Rattle.std.proofs.Common.{◌≡◌, ℕ, zero, suc, ◌≤◌, List, [], ◌∷◌, Option, Some, None, Ok, refl, ap, sym, ◌∙◌, arith}
use Rattle.std.specs.Prelude.{slice_get}
use Rattle.hv_value.specs.Tree.{Tree, null, boolean, int, text, bytes, list, map, trees, depth, depth_of_all, depth_of_values}
use Rattle.hv_value.specs.View as seen
use Rattle.hm_message.specs.Fields.{trees_in, items_in}
use Rattle.hm_message.specs.Laws.{ValuesAreTrees}
use Rattle.hm_message.specs.Headers.{Header}
use Rattle.hm_message.specs.Message.{Fits, ending_depth}
use Rattle.hm_message.specs.declared.message.Field.TheVariants as field
use Rattle.hm_message.specs.declared.message.Message.{Message}
use Rattle.hm_message.specs.declared.message.Message.TheVariants.{Invocation, StreamItem, Completion, StreamInvocation, CancelInvocation, Ping, Close, Ack, Sequence}
use Rattle.hm_message.specs.declared.message.Ending.{Ending}
use Rattle.hm_message.specs.declared.message.Ending.TheVariants as ending
use Rattle.hm_pack.specs.Elements as element
use Rattle.hm_pack.specs.Elements.{needed}
use Rattle.hm_pack.specs.Says.{Holds, Ends}
use Rattle.hm_message.specs.Trees.{texts, header_pairs}
use Rattle.hm_pack.specs.Frame.{text_written, received_written, ending_written, elements_of}

-- ---- what is read

element_depth : (ts : List Tree) (at : ℕ) (t : Tree) → slice_get ts at ≡ Some t → depth t ≤ depth_of_all ts
element_depth [] at t e = absurd cc
element_depth (u ∷ ts) zero t e = let same : u ≡ t = cc in rw (← same) (omega arith)
element_depth (u ∷ ts) (suc at) t e = omega (arith, element_depth ts at t e)

arguments_depth : ValuesAreTrees → (ts xs : List Tree) → element.arguments ts ≡ Ok xs → depth (list (trees xs)) ≤ depth_of_all ts
arguments_depth values ts xs h = go (slice_get ts 4) refl h
  where
    go : (o : Option Tree) → slice_get ts 4 ≡ o → needed field.Arguments items_in o ≡ Ok xs → depth (list (trees xs)) ≤ depth_of_all ts
    go None e h = absurd cc
    go (Some (list us)) e h =
        let same : trees_in us ≡ xs = cc in
        let all : trees xs ≡ us = ap trees (sym same) ∙ values.trees-trees_in us in
        rw all (element_depth ts 4 (list us) e)
    go (Some null) e h = absurd cc
    go (Some (boolean b)) e h = absurd cc
    go (Some (int z)) e h = absurd cc
    go (Some (text s)) e h = absurd cc
    go (Some (bytes s)) e h = absurd cc
    go (Some (map ps)) e h = absurd cc

item_depth : (ts : List Tree) (t : Tree) → element.item ts ≡ Ok t → depth t ≤ depth_of_all ts
item_depth ts t h = go (slice_get ts 3) refl h
  where
    go : (o : Option Tree) → slice_get ts 3 ≡ o → needed field.Item Some o ≡ Ok t → depth t ≤ depth_of_all ts
    go None e h = absurd cc
    go (Some u) e h = let same : u ≡ t = cc in rw (← same) (element_depth ts 3 u e)

outcome_depth : (ts : List Tree) (t : Tree) → element.outcome ts ≡ Ok t → depth t ≤ depth_of_all ts
outcome_depth ts t h = go (slice_get ts 4) refl h
  where
    go : (o : Option Tree) → slice_get ts 4 ≡ o → needed field.Ending Some o ≡ Ok t → depth t ≤ depth_of_all ts
    go None e h = absurd cc
    go (Some u) e h = let same : u ≡ t = cc in rw (← same) (element_depth ts 4 u e)

ending_fits : (ts : List Tree) (e : Ending) → Ends ts e → ending_depth e ≤ depth_of_all ts
ending_fits ts ending.Void h = omega arith
ending_fits ts (ending.Result v) h = outcome_depth ts (seen.tree v) h.1
ending_fits ts (ending.Error s) h = omega arith

-- what an array says that isn't too deep fits
pub read_fits : ValuesAreTrees → (ts : List Tree) (m : Message) → depth (list (trees ts)) ≤ 64 → Holds ts m → Fits m
read_fits values ts (Invocation headers id target arguments streams) d h = omega (arith, arguments_depth values ts arguments h.3)
read_fits values ts (StreamItem headers id v) d h = omega (arith, item_depth ts (seen.tree v) h.2)
read_fits values ts (Completion headers id e) d h = omega (arith, ending_fits ts e h.2)
read_fits values ts (StreamInvocation headers id target arguments streams) d h = omega (arith, arguments_depth values ts arguments h.3)
read_fits values ts (CancelInvocation headers id) d h = omega arith
read_fits values ts Ping d h = omega arith
read_fits values ts (Close error allow) d h = omega arith
read_fits values ts (Ack upto) d h = omega arith
read_fits values ts (Sequence first received) d h = omega arith

-- ---- what is written

pub depth-header_pairs : (hs : List Header) → depth_of_values (header_pairs hs) ≡ 0
depth-header_pairs [] = refl
depth-header_pairs (h ∷ hs) = omega (arith, depth-header_pairs hs)

pub depth-texts : (ss : List (List ℕ)) → depth_of_all (texts ss) ≡ 0
depth-texts [] = refl
depth-texts (s ∷ ss) = omega (arith, depth-texts ss)

text_depth : (s : Option (List ℕ)) → depth (text_written s) ≡ 0
text_depth None = refl
text_depth (Some s) = refl

ended_depth : (e : Ending) → ending_depth e ≤ 63 → depth_of_all (ending_written e) ≤ 63
ended_depth ending.Void h = omega arith
ended_depth (ending.Result v) h = omega arith
ended_depth (ending.Error s) h = omega arith

received_depth : (n : Option ℕ) → depth_of_all (received_written n) ≡ 0
received_depth None = refl
received_depth (Some n) = refl

pub array_depth : (m : Message) → Fits m → depth_of_all (elements_of m) ≤ 63
array_depth (Invocation headers id target arguments streams) h = omega (arith, depth-header_pairs headers, text_depth id, depth-texts streams)
array_depth (StreamItem headers id v) h = omega (arith, depth-header_pairs headers)
array_depth (Completion headers id e) h = omega (arith, depth-header_pairs headers, ended_depth e h)
array_depth (StreamInvocation headers id target arguments streams) h = omega (arith, depth-header_pairs headers, depth-texts streams)
array_depth (CancelInvocation headers id) h = omega (arith, depth-header_pairs headers)
array_depth Ping h = omega arith
array_depth (Close error allow) h = omega (arith, text_depth error)
array_depth (Ack upto) h = omega arith
array_depth (Sequence first received) h = omega (arith, received_depth received)
