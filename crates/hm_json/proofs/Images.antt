-- A message has the frame of its image.
use Rattle.std.proofs.Common.{◌≡◌, ℕ, true, false, List, [], ◌∷◌, ◌++◌, Option, Some, None, refl, ap, sym, ◌∙◌}
use Rattle.hv_value.specs.Tree.{Tree, int, text, list, map, Trees, Pairs, trees, pairs, pair, more, Pair}
use Rattle.hv_value.specs.Image.{image, images, trees_image, pairs_image, entry_images}
use Rattle.hv_value.specs.View as seen
use Rattle.hv_json.specs.Laws.{TextIsOfImage}
use Rattle.hv_json.specs.Writing.{json_text}
use Rattle.hm_message.specs.Headers.{Header}
use Rattle.hm_message.specs.Kind.{number, kind_of}
use Rattle.hm_message.specs.Laws.{ValuesAreTrees}
use Rattle.hm_message.specs.Message.{message_image, ending_image, value_image}
use Rattle.hm_message.specs.Trees.{texts, header_pairs}
use Rattle.hm_message.specs.declared.message.Field.{Field}
use Rattle.hm_message.specs.declared.message.Field.TheVariants as field
use Rattle.hm_message.specs.declared.message.Message.{Message}
use Rattle.hm_message.specs.declared.message.Message.TheVariants.{Invocation, StreamItem, Completion, StreamInvocation, CancelInvocation, Ping, Close, Ack, Sequence}
use Rattle.hm_message.specs.declared.message.Ending.{Ending}
use Rattle.hm_message.specs.declared.message.Ending.TheVariants as ending
use Rattle.hm_json.specs.Frame.{property_of, headers_written, streams_written, text_written, allow_written, object_of}
use Rattle.hm_json.specs.Laws.{FrameIsOfImage}
use Rattle.hm_json.specs.Written.{properties_in_order, error_written, result_written, in_name_order}
use Rattle.hm_json.proofs.Puts.{object_is}

trees_images : (ts : List Tree) → trees_image (trees ts) ≡ trees (images ts)
trees_images [] = refl
trees_images (t ∷ ts) = ap (more (image t)) (trees_images ts)

texts_image : (ss : List (List ℕ)) → trees_image (trees (texts ss)) ≡ trees (texts ss)
texts_image [] = refl
texts_image (s ∷ ss) = ap (more (text s)) (texts_image ss)

headers_image : (hs : List Header) → pairs_image (pairs (header_pairs hs)) ≡ pairs (header_pairs hs)
headers_image [] = refl
headers_image (h ∷ hs) = ap (pair h.0 (text h.1)) (headers_image hs)

pairs_images : (ps : List Pair) → pairs_image (pairs ps) ≡ pairs (entry_images ps)
pairs_images [] = refl
pairs_images (p ∷ ps) = ap (pair p.0 (image p.1)) (pairs_images ps)

images-append : (ps qs : List Pair) → entry_images (ps ++ qs) ≡ entry_images ps ++ entry_images qs
images-append [] qs = refl
images-append (p ∷ ps) qs = ap (λ (x : List Pair). (p.0, image p.1) ∷ x) (images-append ps qs)

-- one part after another
both : (ps qs rs ss : List Pair) → entry_images ps ≡ rs → entry_images qs ≡ ss → entry_images (ps ++ qs) ≡ rs ++ ss
both ps qs rs ss p q = images-append ps qs ∙ (λ i. p i ++ q i)

of_headers : (hs : List Header) → entry_images (headers_written hs) ≡ headers_written hs
of_headers [] = refl
of_headers (h ∷ hs) = ap (λ (x : Pairs). property_of field.Headers (map x)) (headers_image (h ∷ hs))

of_streams : (ss : List (List ℕ)) → entry_images (streams_written ss) ≡ streams_written ss
of_streams [] = refl
of_streams (s ∷ ss) = ap (λ (x : Trees). property_of field.StreamIds (list x)) (texts_image (s ∷ ss))

of_text : (f : Field) (s : Option (List ℕ)) → entry_images (text_written f s) ≡ text_written f s
of_text f None = refl
of_text f (Some s) = refl

of_arguments : (ts : List Tree) → entry_images (property_of field.Arguments (list (trees ts))) ≡ property_of field.Arguments (list (trees (images ts)))
of_arguments ts = ap (λ (x : Trees). property_of field.Arguments (list x)) (trees_images ts)

of_error : (e : Ending) → entry_images (error_written e) ≡ error_written (ending_image e)
of_error ending.Void = refl
of_error (ending.Result v) = refl
of_error (ending.Error s) = refl

of_result : ValuesAreTrees → (e : Ending) → entry_images (result_written e) ≡ result_written (ending_image e)
of_result same ending.Void = refl
of_result same (ending.Result v) = ap (property_of field.Ending) (sym (same.tree-value_of (image (seen.tree v))))
of_result same (ending.Error s) = refl

abbrev arguments_property : List Tree → List Pair
arguments_property xs = property_of field.Arguments (list (trees xs))

abbrev id_property : List ℕ → List Pair
id_property id = property_of field.InvocationId (text id)

abbrev target_property : List ℕ → List Pair
target_property r = property_of field.Target (text r)

-- the properties of a call, with this id
call_image : (hs : List Header) (id : List Pair) (r : List ℕ) (xs : List Tree) (ss : List (List ℕ)) → entry_images id ≡ id
    → entry_images (arguments_property xs ++ headers_written hs ++ id ++ streams_written ss ++ target_property r)
    ≡ arguments_property (images xs) ++ headers_written hs ++ id ++ streams_written ss ++ target_property r
call_image hs id r xs ss h =
    let before : List Pair = arguments_property xs ++ headers_written hs in
    let after : List Pair = arguments_property (images xs) ++ headers_written hs in
    both (before ++ id ++ streams_written ss) (target_property r) (after ++ id ++ streams_written ss) (target_property r)
    (both (before ++ id) (streams_written ss) (after ++ id) (streams_written ss)
    (both before id after id (both (arguments_property xs) (headers_written hs) (arguments_property (images xs)) (headers_written hs) (of_arguments xs) (of_headers hs)) h) (of_streams ss)) refl

properties_image : ValuesAreTrees → (m : Message) → entry_images (properties_in_order m) ≡ properties_in_order (message_image m)
properties_image same (Invocation hs id r xs ss) = call_image hs (text_written field.InvocationId id) r xs ss (of_text field.InvocationId id)
properties_image same (StreamItem hs id v) =
    both (headers_written hs ++ id_property id) (property_of field.Item (seen.tree v)) (headers_written hs ++ id_property id) (property_of field.Item (seen.tree (value_image v)))
    (both (headers_written hs) (id_property id) (headers_written hs) (id_property id) (of_headers hs) refl) (ap (property_of field.Item) (sym (same.tree-value_of (image (seen.tree v)))))
properties_image same (Completion hs id e) =
    both (error_written e ++ headers_written hs ++ id_property id) (result_written e) (error_written (ending_image e) ++ headers_written hs ++ id_property id) (result_written (ending_image e))
    (both (error_written e ++ headers_written hs) (id_property id) (error_written (ending_image e) ++ headers_written hs) (id_property id)
    (both (error_written e) (headers_written hs) (error_written (ending_image e)) (headers_written hs) (of_error e) (of_headers hs)) refl) (of_result same e)
properties_image same (StreamInvocation hs id r xs ss) = call_image hs (id_property id) r xs ss refl
properties_image same (CancelInvocation hs id) = both (headers_written hs) (id_property id) (headers_written hs) (id_property id) (of_headers hs) refl
properties_image same Ping = refl
properties_image same (Close e true) = both (allow_written true) (text_written field.Error e) (allow_written true) (text_written field.Error e) refl (of_text field.Error e)
properties_image same (Close e false) = of_text field.Error e
properties_image same (Ack n) = refl
properties_image same (Sequence m None) = refl
properties_image same (Sequence m (Some n)) = refl

kind_image : (m : Message) → kind_of (message_image m) ≡ kind_of m
kind_image (Invocation hs id r xs ss) = refl
kind_image (StreamItem hs id v) = refl
kind_image (Completion hs id e) = refl
kind_image (StreamInvocation hs id r xs ss) = refl
kind_image (CancelInvocation hs id) = refl
kind_image Ping = refl
kind_image (Close e b) = refl
kind_image (Ack n) = refl
kind_image (Sequence m n) = refl

in_name_image : ValuesAreTrees → (m : Message) → entry_images (in_name_order m) ≡ in_name_order (message_image m)
in_name_image same m =
    both (properties_in_order m) (property_of field.Kind (int (number (kind_of m)))) _ _ (properties_image same m)
    (λ i. property_of field.Kind (int (number (sym (kind_image m) i))))

object_image : ValuesAreTrees → (m : Message) → image (object_of m) ≡ object_of (message_image m)
object_image same m =
    ap image (object_is m) ∙ ap map (pairs_images (in_name_order m)) ∙ ap (λ (x : List Pair). map (pairs x)) (in_name_image same m) ∙ sym (object_is (message_image m))

pub of_image : ValuesAreTrees → TextIsOfImage → FrameIsOfImage
of_image same law m = ap json_text (sym (object_image same m)) ∙ sym (law (object_of m))
