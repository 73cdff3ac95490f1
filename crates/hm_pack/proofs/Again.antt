-- What is written says the message.
use Rattle.std.proofs.Common.{◌≡◌, ℕ, ◌≤◌, ◌<◌, ◌^◌, true, pos, List, [], ◌∷◌, length, Option, Some, None, Ok, refl, arith, zero-add}
use Rattle.std.specs.Prelude.{nat_lt}
use Rattle.std.specs.Option.{ok_or}
use Rattle.std.proofs.lemmas.Bool.{lt-ltb}
use Rattle.std.proofs.lemmas.List.{append-nil}
use Rattle.hv_value.specs.Tree.{Tree, int, trees, pairs, depth}
use Rattle.hv_value.specs.Order.{IsInOrder}
use Rattle.hv_pack.specs.Laws.{ShortestReadsBack}
use Rattle.hv_pack.specs.Packs.{IsSpelled}
use Rattle.hv_pack.specs.Writing.{shortest, IsWritable}
use Rattle.hm_message.specs.Fields.{all_texts, all_headers, number_in}
use Rattle.hm_message.specs.Headers.{Header}
use Rattle.hm_message.specs.Message.{Fits}
use Rattle.hm_message.specs.Laws.{ValuesAreTrees}
use Rattle.hm_message.specs.declared.message.Field.{Field}
use Rattle.hm_message.specs.declared.message.Field.TheVariants as field
use Rattle.hm_message.specs.declared.message.Message.{Message}
use Rattle.hm_message.specs.declared.message.Message.TheVariants.{Invocation, StreamItem, Completion, StreamInvocation, CancelInvocation, Ping, Close, Ack, Sequence}
use Rattle.hm_message.specs.declared.message.Ending.{Ending}
use Rattle.hm_message.specs.declared.message.Ending.TheVariants as ending
use Rattle.hm_pack.proofs.Depths.{array_depth}
use Rattle.hm_pack.specs.Elements as element
use Rattle.hm_pack.specs.Elements.{text_or_nil}
use Rattle.hm_pack.specs.Says.{Says, Holds, Ends}
use Rattle.hm_message.specs.Trees.{texts, header_pairs, AreInRange, IsInRange}
use Rattle.hm_pack.specs.Frame.{text_written, elements_of, array_of, frame_of}
use Rattle.hm_pack.specs.declared.refusal.PackRefusal.TheVariants.{Wrong}

-- ---- what an element is, once it is written and read again

all_headers-pairs : (hs : List Header) → all_headers (pairs (header_pairs hs)) ≡ Some hs
all_headers-pairs [] = refl
all_headers-pairs (h ∷ hs) = rw (all_headers-pairs hs) refl

all_texts-texts : (ss : List (List ℕ)) → all_texts (trees (texts ss)) ≡ Some ss
all_texts-texts [] = refl
all_texts-texts (s ∷ ss) = rw (all_texts-texts ss) refl

text_again : (f : Field) (s : Option (List ℕ)) → ok_or (text_or_nil (text_written s)) (Wrong f) ≡ Ok s
text_again f None = refl
text_again f (Some s) = refl

in_range : (n : ℕ) → n < 2 ^ 64 → number_in (int (pos n)) ≡ Some n
in_range n h = let e : nat_lt n (2 ^ 64) ≡ true = lt-ltb _ _ h in rw e refl

ends_again : (hs : List Header) (id : List ℕ) (e : Ending) → Ends (elements_of (Completion hs id e)) e
ends_again hs id ending.Void = refl
ends_again hs id (ending.Result v) = (refl, refl)
ends_again hs id (ending.Error s) = (refl, refl)

received_again : (n : ℕ) (k : Option ℕ) → AreInRange k → element.received (elements_of (Sequence n k)) ≡ k
received_again n None h = refl
received_again n (Some k) h = in_range k h

holds_again : ValuesAreTrees → (m : Message) → IsInRange m → Holds (elements_of m) m
holds_again values (Invocation hs id s xs ss) r =
    (rw (all_headers-pairs hs) refl, text_again field.InvocationId id, refl, rw (values.trees_in-trees xs) refl, rw (all_texts-texts ss) refl)
holds_again values (StreamItem hs id v) r = (rw (all_headers-pairs hs) refl, refl, refl)
holds_again values (Completion hs id e) r = (rw (all_headers-pairs hs) refl, refl, ends_again hs id e)
holds_again values (StreamInvocation hs id s xs ss) r =
    (rw (all_headers-pairs hs) refl, refl, refl, rw (values.trees_in-trees xs) refl, rw (all_texts-texts ss) refl)
holds_again values (CancelInvocation hs id) r = (rw (all_headers-pairs hs) refl, refl)
holds_again values Ping r = tt
holds_again values (Close e b) r = (text_again field.Error e, refl)
holds_again values (Ack n) r = rw (in_range n r) refl
holds_again values (Sequence n k) r = (rw (in_range n r.0) refl, received_again n k r.1)

read_back : ShortestReadsBack → (t : Tree) → depth t ≤ 64 → IsInOrder t → IsWritable t → IsSpelled (shortest t) 0 t (length (shortest t))
read_back law t d o w = simp (append-nil, zero-add) at (law t [] [] d o w)

-- what is written is read as the message
pub says_again : ValuesAreTrees → ShortestReadsBack → (m : Message) → Fits m → IsInRange m → IsInOrder (array_of m) → IsWritable (array_of m) → Says (frame_of m) m
says_again values law m f r o w =
    let shallow : depth (array_of m) ≤ 64 = omega (arith, array_depth m f) in
    (elements_of m, (read_back law (array_of m) shallow o w, (refl, holds_again values m r)))
