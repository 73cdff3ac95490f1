-- What is written says the message, with each of its bytes as the text of their base64.
use Rattle.std.proofs.Common.{◌≡◌, ℕ, ◌<◌, ◌^◌, Bool, true, false, pos, List, [], ◌∷◌, ◌++◌, Option, Some, None, Ok, refl, ap, ◌∙◌}
use Rattle.std.specs.Prelude.{nat_lt, option_map, codes}
use Rattle.std.specs.Option.{option_and_then}
use Rattle.std.specs.Map.{keys_of}
use Rattle.std.proofs.lemmas.Bool.{lt-ltb}
use Rattle.hv_value.specs.Tree.{Tree, null, boolean, int, text, bytes, list, map, Pair, trees, pairs, last_of, value_at}
use Rattle.hv_value.specs.Image.{image, images, trees_image, pairs_image}
use Rattle.hv_value.specs.View as seen
use Rattle.hv_value.specs.declared.value.Value.{Value}
use Rattle.hm_message.specs.Fields.{trees_in, items_in, texts_in, all_texts, headers_in, all_headers, number_in, flag_in}
use Rattle.hm_message.specs.Headers.{Header}
use Rattle.hm_message.specs.Kind.{number, kind_of}
use Rattle.hm_message.specs.Message.{ending_image, message_image}
use Rattle.hm_message.specs.Name.{field_name}
use Rattle.hm_message.specs.Laws.{ValuesAreTrees}
use Rattle.hm_message.specs.declared.message.Field.{Field}
use Rattle.hm_message.specs.declared.message.Field.TheVariants as field
use Rattle.hm_message.specs.declared.message.Message.{Message}
use Rattle.hm_message.specs.declared.message.Message.TheVariants.{Invocation, StreamItem, Completion, StreamInvocation, CancelInvocation, Ping, Close, Ack, Sequence}
use Rattle.hm_message.specs.declared.message.Ending.{Ending}
use Rattle.hm_message.specs.declared.message.Ending.TheVariants as ending
use Rattle.hm_json.specs.Properties as property
use Rattle.hm_json.specs.Properties.{needed, optional, unless_null, some_text, type_of}
use Rattle.hm_json.specs.Says.{IsObject, Ends, IsMessage}
use Rattle.hm_message.specs.Trees.{texts, header_pairs, AreInRange, IsInRange}
use Rattle.hm_json.specs.Frame.{property_of, written}
use Rattle.hm_json.proofs.Lookups.{value_at-image}

-- ---- the headers' map

pub keys-header_pairs : (hs : List Header) → keys_of (header_pairs hs) ≡ keys_of hs
keys-header_pairs [] = refl
keys-header_pairs (h ∷ hs) = ap (λ (ks : List (List ℕ)). h.0 ∷ ks) (keys-header_pairs hs)

-- ---- what a property is, once it is written and read again

abbrev headers_at : List Header → Option Tree
headers_at [] = None
headers_at (h ∷ hs) = Some (map (pairs (header_pairs (h ∷ hs))))

abbrev streams_at : List (List ℕ) → Option Tree
streams_at [] = None
streams_at (s ∷ ss) = Some (list (trees (texts (s ∷ ss))))

abbrev text_at : Option (List ℕ) → Option Tree
text_at None = None
text_at (Some s) = Some (text s)

abbrev number_at : Option ℕ → Option Tree
number_at None = None
number_at (Some n) = Some (int (pos n))

abbrev allow_at : Bool → Option Tree
allow_at true = Some (boolean true)
allow_at false = None

all_headers-pairs : (hs : List Header) → all_headers (pairs_image (pairs (header_pairs hs))) ≡ Some hs
all_headers-pairs [] = refl
all_headers-pairs (h ∷ hs) = rw (all_headers-pairs hs) refl

all_texts-texts : (ss : List (List ℕ)) → all_texts (trees_image (trees (texts ss))) ≡ Some ss
all_texts-texts [] = refl
all_texts-texts (s ∷ ss) = rw (all_texts-texts ss) refl

trees_in-images : (ts : List Tree) → trees_in (trees_image (trees ts)) ≡ images ts
trees_in-images [] = refl
trees_in-images (t ∷ ts) = ap (λ (x : List Tree). image t ∷ x) (trees_in-images ts)

headers_again : (hs : List Header) → optional [] field.Headers headers_in (unless_null (option_map image (headers_at hs))) ≡ Ok hs
headers_again [] = refl
headers_again (h ∷ hs) = rw (all_headers-pairs hs) refl

streams_again : (ss : List (List ℕ)) → optional [] field.StreamIds texts_in (unless_null (option_map image (streams_at ss))) ≡ Ok ss
streams_again [] = refl
streams_again (s ∷ ss) = rw (all_texts-texts ss) refl

text_again : (f : Field) (s : Option (List ℕ)) → optional None f some_text (unless_null (option_map image (text_at s))) ≡ Ok s
text_again f None = refl
text_again f (Some s) = refl

allow_again : (b : Bool) → optional false field.AllowReconnect flag_in (unless_null (option_map image (allow_at b))) ≡ Ok b
allow_again true = refl
allow_again false = refl

arguments_again : (ts : List Tree) → needed field.Arguments items_in (option_map image (Some (list (trees ts)))) ≡ Ok (images ts)
arguments_again ts = rw (trees_in-images ts) refl

in_range : (n : ℕ) → n < 2 ^ 64 → number_in (int (pos n)) ≡ Some n
in_range n h = let e : nat_lt n (2 ^ 64) ≡ true = lt-ltb _ _ h in rw e refl

pub number_again : (n : ℕ) → n < 2 ^ 64 → needed field.SequenceId number_in (Some (int (pos n))) ≡ Ok n
number_again n h = rw (in_range n h) refl

received_again : (n : Option ℕ) → AreInRange n → option_and_then number_in (option_map image (number_at n)) ≡ n
received_again None h = refl
received_again (Some n) h = in_range n h

-- ---- what the written properties are

abbrev all_written : Message → List Pair
all_written m = property_of field.Kind (int (number (kind_of m))) ++ written m

invocation_written : (hs : List Header) (id : Option (List ℕ)) (r : List ℕ) (xs : List Tree) (ss : List (List ℕ)) → (last_of (field_name field.Kind) (all_written (Invocation hs id r xs ss)) ≡ Some (int (pos 1))) × (last_of (field_name field.Headers) (all_written (Invocation hs id r xs ss)) ≡ headers_at hs) × (last_of (field_name field.InvocationId) (all_written (Invocation hs id r xs ss)) ≡ text_at id) × (last_of (field_name field.Target) (all_written (Invocation hs id r xs ss)) ≡ Some (text r)) × (last_of (field_name field.Arguments) (all_written (Invocation hs id r xs ss)) ≡ Some (list (trees xs))) × (last_of (field_name field.StreamIds) (all_written (Invocation hs id r xs ss)) ≡ streams_at ss)
invocation_written [] None r xs [] = (refl, refl, refl, refl, refl, refl)
invocation_written [] None r xs (s ∷ ss) = (refl, refl, refl, refl, refl, refl)
invocation_written [] (Some id) r xs [] = (refl, refl, refl, refl, refl, refl)
invocation_written [] (Some id) r xs (s ∷ ss) = (refl, refl, refl, refl, refl, refl)
invocation_written (h ∷ hs) None r xs [] = (refl, refl, refl, refl, refl, refl)
invocation_written (h ∷ hs) None r xs (s ∷ ss) = (refl, refl, refl, refl, refl, refl)
invocation_written (h ∷ hs) (Some id) r xs [] = (refl, refl, refl, refl, refl, refl)
invocation_written (h ∷ hs) (Some id) r xs (s ∷ ss) = (refl, refl, refl, refl, refl, refl)

stream_item_written : (hs : List Header) (id : List ℕ) (v : Value) → (last_of (field_name field.Kind) (all_written (StreamItem hs id v)) ≡ Some (int (pos 2))) × (last_of (field_name field.Headers) (all_written (StreamItem hs id v)) ≡ headers_at hs) × (last_of (field_name field.InvocationId) (all_written (StreamItem hs id v)) ≡ Some (text id)) × (last_of (field_name field.Item) (all_written (StreamItem hs id v)) ≡ Some (seen.tree v))
stream_item_written [] id v = (refl, refl, refl, refl)
stream_item_written (h ∷ hs) id v = (refl, refl, refl, refl)

abbrev error_at : Ending → Option Tree
error_at (ending.Error s) = Some (text s)
error_at ending.Void = None
error_at (ending.Result v) = None

abbrev result_at : Ending → Option Tree
result_at (ending.Result v) = Some (seen.tree v)
result_at ending.Void = None
result_at (ending.Error s) = None

completion_written : (hs : List Header) (id : List ℕ) (e : Ending) → (last_of (field_name field.Kind) (all_written (Completion hs id e)) ≡ Some (int (pos 3))) × (last_of (field_name field.Headers) (all_written (Completion hs id e)) ≡ headers_at hs) × (last_of (field_name field.InvocationId) (all_written (Completion hs id e)) ≡ Some (text id)) × (last_of (field_name field.Error) (all_written (Completion hs id e)) ≡ error_at e) × (last_of (field_name field.Ending) (all_written (Completion hs id e)) ≡ result_at e)
completion_written [] id ending.Void = (refl, refl, refl, refl, refl)
completion_written [] id (ending.Result v) = (refl, refl, refl, refl, refl)
completion_written [] id (ending.Error s) = (refl, refl, refl, refl, refl)
completion_written (h ∷ hs) id ending.Void = (refl, refl, refl, refl, refl)
completion_written (h ∷ hs) id (ending.Result v) = (refl, refl, refl, refl, refl)
completion_written (h ∷ hs) id (ending.Error s) = (refl, refl, refl, refl, refl)

stream_invocation_written : (hs : List Header) (id r : List ℕ) (xs : List Tree) (ss : List (List ℕ)) → (last_of (field_name field.Kind) (all_written (StreamInvocation hs id r xs ss)) ≡ Some (int (pos 4))) × (last_of (field_name field.Headers) (all_written (StreamInvocation hs id r xs ss)) ≡ headers_at hs) × (last_of (field_name field.InvocationId) (all_written (StreamInvocation hs id r xs ss)) ≡ Some (text id)) × (last_of (field_name field.Target) (all_written (StreamInvocation hs id r xs ss)) ≡ Some (text r)) × (last_of (field_name field.Arguments) (all_written (StreamInvocation hs id r xs ss)) ≡ Some (list (trees xs))) × (last_of (field_name field.StreamIds) (all_written (StreamInvocation hs id r xs ss)) ≡ streams_at ss)
stream_invocation_written [] id r xs [] = (refl, refl, refl, refl, refl, refl)
stream_invocation_written [] id r xs (s ∷ ss) = (refl, refl, refl, refl, refl, refl)
stream_invocation_written (h ∷ hs) id r xs [] = (refl, refl, refl, refl, refl, refl)
stream_invocation_written (h ∷ hs) id r xs (s ∷ ss) = (refl, refl, refl, refl, refl, refl)

cancel_written : (hs : List Header) (id : List ℕ) → (last_of (field_name field.Kind) (all_written (CancelInvocation hs id)) ≡ Some (int (pos 5))) × (last_of (field_name field.Headers) (all_written (CancelInvocation hs id)) ≡ headers_at hs) × (last_of (field_name field.InvocationId) (all_written (CancelInvocation hs id)) ≡ Some (text id))
cancel_written [] id = (refl, refl, refl)
cancel_written (h ∷ hs) id = (refl, refl, refl)

close_written : (e : Option (List ℕ)) (b : Bool) → (last_of (field_name field.Kind) (all_written (Close e b)) ≡ Some (int (pos 7))) × (last_of (field_name field.Error) (all_written (Close e b)) ≡ text_at e) × (last_of (field_name field.AllowReconnect) (all_written (Close e b)) ≡ allow_at b)
close_written None true = (refl, refl, refl)
close_written None false = (refl, refl, refl)
close_written (Some s) true = (refl, refl, refl)
close_written (Some s) false = (refl, refl, refl)

sequence_written : (m : ℕ) (n : Option ℕ) → (last_of (field_name field.Kind) (all_written (Sequence m n)) ≡ Some (int (pos 9))) × (last_of (field_name field.SequenceId) (all_written (Sequence m n)) ≡ Some (int (pos m))) × (last_of (codes "received") (all_written (Sequence m n)) ≡ number_at n)
sequence_written m None = (refl, refl, refl)
sequence_written m (Some n) = (refl, refl, refl)

-- ---- the written object says the message's image

IsObject-image : (t : Tree) → IsObject t → IsObject (image t)
IsObject-image null o = o
IsObject-image (boolean b) o = o
IsObject-image (int z) o = o
IsObject-image (text s) o = o
IsObject-image (bytes s) o = absurd o
IsObject-image (list ts) o = o
IsObject-image (map ps) o = o

ends_again : ValuesAreTrees → (t : Tree) (e : Ending) → value_at (field_name field.Error) t ≡ option_map image (error_at e) → value_at (field_name field.Ending) t ≡ option_map image (result_at e) → Ends t (ending_image e)
ends_again same t ending.Void x y = (rw x refl, y)
ends_again same t (ending.Result v) x y = (rw x refl, rw (same.tree-value_of (image (seen.tree v))) y)
ends_again same t (ending.Error s) x y = (rw x refl, y)

abbrev Writes : Tree → Message → Type 0
Writes t m = (key : List ℕ) → value_at key t ≡ last_of key (all_written m)

looked : (t : Tree) (m : Message) → Writes t m → (key : List ℕ) (o : Option Tree) → last_of key (all_written m) ≡ o → value_at key (image t) ≡ option_map image o
looked t m h key o e = value_at-image key t ∙ ap (option_map image) (h key ∙ e)

says_type : (t : Tree) (m : Message) → Writes t m → last_of (field_name field.Kind) (all_written m) ≡ Some (int (number (kind_of m))) → type_of (image t) ≡ Ok (number (kind_of m))
says_type t m h e = rw (looked t m h _ _ e) refl

says_headers : (t : Tree) (m : Message) (hs : List Header) → Writes t m → last_of (field_name field.Headers) (all_written m) ≡ headers_at hs → property.headers (image t) ≡ Ok hs
says_headers t m hs h e = rw (looked t m h _ _ e) (headers_again hs)

says_id : (t : Tree) (m : Message) (id : List ℕ) → Writes t m → last_of (field_name field.InvocationId) (all_written m) ≡ Some (text id) → property.id (image t) ≡ Ok id
says_id t m id h e = rw (looked t m h _ _ e) refl

says_target : (t : Tree) (m : Message) (s : List ℕ) → Writes t m → last_of (field_name field.Target) (all_written m) ≡ Some (text s) → property.target (image t) ≡ Ok s
says_target t m s h e = rw (looked t m h _ _ e) refl

says_arguments : (t : Tree) (m : Message) (xs : List Tree) → Writes t m → last_of (field_name field.Arguments) (all_written m) ≡ Some (list (trees xs)) → property.arguments (image t) ≡ Ok (images xs)
says_arguments t m xs h e = rw (looked t m h _ _ e) (arguments_again xs)

says_streams : (t : Tree) (m : Message) (ss : List (List ℕ)) → Writes t m → last_of (field_name field.StreamIds) (all_written m) ≡ streams_at ss → property.streams (image t) ≡ Ok ss
says_streams t m ss h e = rw (looked t m h _ _ e) (streams_again ss)

says_number : (t : Tree) (m : Message) (n : ℕ) → Writes t m → n < 2 ^ 64 → last_of (field_name field.SequenceId) (all_written m) ≡ Some (int (pos n)) → property.sequence_id (image t) ≡ Ok n
says_number t m n h r e = rw (looked t m h _ _ e) (number_again n r)

pub says_again : ValuesAreTrees → (t : Tree) (m : Message) → IsInRange m → IsObject t → Writes t m → IsMessage (image t) (message_image m)
says_again same t (Invocation hs id s xs ss) r o h =
    let m = Invocation hs id s xs ss in
    let w = invocation_written hs id s xs ss in
    (IsObject-image t o, says_type t m h w.0, (says_headers t m hs h w.1, rw (looked t m h _ _ w.2) (text_again field.InvocationId id), says_target t m s h w.3, says_arguments t m xs h w.4, says_streams t m ss h w.5))
says_again same t (StreamItem hs id v) r o h =
    let m = StreamItem hs id v in
    let w = stream_item_written hs id v in
    (IsObject-image t o, says_type t m h w.0, (says_headers t m hs h w.1, says_id t m id h w.2, rw (looked t m h _ _ w.3, same.tree-value_of (image (seen.tree v))) refl))
says_again same t (Completion hs id e) r o h =
    let m = Completion hs id e in
    let w = completion_written hs id e in
    (IsObject-image t o, says_type t m h w.0, (says_headers t m hs h w.1, says_id t m id h w.2, ends_again same (image t) e (looked t m h (field_name field.Error) _ w.3) (looked t m h (field_name field.Ending) _ w.4)))
says_again same t (StreamInvocation hs id s xs ss) r o h =
    let m = StreamInvocation hs id s xs ss in
    let w = stream_invocation_written hs id s xs ss in
    (IsObject-image t o, says_type t m h w.0, (says_headers t m hs h w.1, says_id t m id h w.2, says_target t m s h w.3, says_arguments t m xs h w.4, says_streams t m ss h w.5))
says_again same t (CancelInvocation hs id) r o h =
    let m = CancelInvocation hs id in
    let w = cancel_written hs id in
    (IsObject-image t o, says_type t m h w.0, (says_headers t m hs h w.1, says_id t m id h w.2))
says_again same t Ping r o h = (IsObject-image t o, says_type t Ping h refl, tt)
says_again same t (Close e b) r o h =
    let m = Close e b in
    let w = close_written e b in
    (IsObject-image t o, says_type t m h w.0, (rw (looked t m h _ _ w.1) (text_again field.Error e), rw (looked t m h _ _ w.2) (allow_again b)))
says_again same t (Ack n) r o h = (IsObject-image t o, says_type t (Ack n) h refl, says_number t (Ack n) n h r refl)
says_again same t (Sequence n k) r o h =
    let m = Sequence n k in
    let w = sequence_written n k in
    (IsObject-image t o, says_type t m h w.0, (says_number t m n h r.0 w.1, rw (looked t m h _ _ w.2) (received_again k r.1)))
