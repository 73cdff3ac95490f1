use Rattle.std.proofs.Common.{◌≡◌, ◌+◌, [], ◌∷◌, ◌++◌, take, refl}
use Rattle.std.proofs.lemmas.List.{take_more, take_all}
use Rattle.hv_value.proofs.Images.{trees-images, pairs-images, depth-images, depth-entry_images, keys-entry_images, image_step, entry_image_step}
use Rattle.hv_value.proofs.Orders.{AllInOrder-image, PairsInOrder-image}
use Rattle.hv_value.proofs.value.+image.Goals as goal

pub Items::image-loop-value-preserved : goal.Items::image-loop-value-preserved
Items::image-loop-value-preserved t c =
    let xs = c.deref-value-items.result.now in
    let more : take (c.loop-value.value-index + 1) xs ≡ take c.loop-value.value-index xs ++ c.value-item.result ∷ [] =
    rw (take_more xs c.loop-value.value-index c.value-item.result c.loop-value-test.true, ← c.value-item.is) refl in
    rw (c.in_ok-push.ensures.items, more) (image_step c.loop-value.values.items (take c.loop-value.value-index xs) c.in_ok-json_image.field-0 c.value-item.result c.loop-value.invariant c.in_ok-json_image.ensures)

pub Entries::image-loop-key-preserved : goal.Entries::image-loop-key-preserved
Entries::image-loop-key-preserved t c =
    let xs = c.deref-key-items.result.now in
    let more : take (c.loop-key.key-index + 1) xs ≡ take c.loop-key.key-index xs ++ c.loop-key-item.result ∷ [] =
    rw (take_more xs c.loop-key.key-index c.loop-key-item.result c.loop-key-test.true, ← c.loop-key-item.is) refl in
    rw (c.in_ok-push.ensures.items, more) (entry_image_step c.loop-key.pairs.items (take c.loop-key.key-index xs) (c.in_ok-copy.field-0, c.in_ok-json_image.field-0) c.loop-key-item.result c.loop-key.invariant c.in_ok-copy.ensures c.in_ok-json_image.ensures)

pub Items::image-invariant_of-result : goal.Items::image-invariant_of-result
Items::image-invariant_of-result t c =
    let xs = c.deref-value-items.result.now in
    let all : take c.loop-value.value-index xs ≡ xs = take_all c.loop-value.value-index xs c.loop-value-test.false in
    let held = c.self.invariant in
    rw (c.loop-value.invariant, all, c.deref-value-items.ensures.value, depth-images, trees-images) (held.0, held.1, AllInOrder-image _ held.2)

pub Entries::image-invariant_of-result : goal.Entries::image-invariant_of-result
Entries::image-invariant_of-result t c =
    let xs = c.deref-key-items.result.now in
    let all : take c.loop-key.key-index xs ≡ xs = take_all c.loop-key.key-index xs c.loop-key-test.false in
    let held = c.self.invariant in
    rw (c.loop-key.invariant, all, c.deref-key-items.ensures.value, depth-entry_images, keys-entry_images, pairs-images) (held.0, held.1, held.2, PairsInOrder-image _ held.3)

pub Value::json_image-returns-in_ok-image-in-List : goal.Value::json_image-returns-in_ok-image-in-List
Value::json_image-returns-in_ok-image-in-List t c = rw (c.in_ok-image-in-List.ensures, trees-images, c.in-List.is) refl

pub Value::json_image-returns-in_ok-image-in-Map : goal.Value::json_image-returns-in_ok-image-in-Map
Value::json_image-returns-in_ok-image-in-Map t c = rw (c.in_ok-image-in-Map.ensures, pairs-images, c.in-Map.is) refl
