use Rattle.std.proofs.Common.{[], ◌≡◌, ℕ, ◌+◌, ◌*◌, ◌≤◌, length, false}
use Rattle.json.specs.Json.{items, members, value, parse_map}
use Rattle.serde_json.specs.Data.{Items, items_depth, Members, members_depth, no_members}
use Rattle.serde_json.specs.Read.{of_items, of_members, converted}
use Rattle.serde_json.specs.Written.{items_have_float, members_have_float}
use Rattle.hv_value.specs.Tree.{put_all, depth_of_values}
use Rattle.hv_value.specs.View.{trees_of as values_of, entries}
use Rattle.hv_json.specs.Reading.{trees_of, pairs_of}
use Rattle.hv_json.proofs.Joins.{join}
use Rattle.hv_json.proofs.one_pass.+quick.Given as goal

abbrev pub decreases-quick : goal.decreases-quick
decreases-quick l = 2 * l.room

abbrev pub decreases-quick_items : goal.decreases-quick_items
decreases-quick_items l = 2 * l.room + 1

abbrev pub invariant-quick_items-items : goal.invariant-quick_items-items
invariant-quick_items-items l =
    (n : ℕ) × (length l.reader ≤ n)
    × (front : Items)
    × (converted of_items (items (value (l.room + 63)) (length l.initial.reader) l.initial.reader) ≡ parse_map (join front) (converted of_items (items (value (l.room + 63)) n l.reader)))
    × (items_have_float front ≡ false)
    × (items_depth front ≤ l.room)
    × (values_of l.values.items ≡ trees_of front)
    × (length l.reader ≤ length l.initial.reader)

abbrev pub decreases-quick_items-items : goal.decreases-quick_items-items
decreases-quick_items-items l = length l.reader

abbrev pub decreases-quick_members : goal.decreases-quick_members
decreases-quick_members l = 2 * l.room + 1

abbrev pub invariant-quick_members-members : goal.invariant-quick_members-members
invariant-quick_members-members l =
    (n : ℕ) × (length l.reader ≤ n)
    × (done : Members)
    × (converted (λ ms. of_members ms no_members) (members (value (l.room + 63)) (length l.initial.reader) l.initial.reader) ≡ converted (λ ms. of_members ms done) (members (value (l.room + 63)) n l.reader))
    × (members_have_float done ≡ false)
    × (members_depth done ≤ l.room)
    × (put_all [] (entries l.pairs.items) ≡ pairs_of done)
    × (length l.reader ≤ length l.initial.reader)
    × (depth_of_values (entries l.pairs.items) ≤ l.room)

abbrev pub decreases-quick_members-members : goal.decreases-quick_members-members
decreases-quick_members-members l = length l.reader
