use Rattle.std.proofs.Common.{◌≡◌, ℕ, List, IsTrue}
use Rattle.std.specs.BTreeSet.{btree_set_len}
use Rattle.hd_rooms.specs.RegistryLaws.{is_among, others_than}
use Rattle.hg_groups.specs.Maps.{listed, has_name}
use Rattle.hg_groups.proofs.members.Members.leave_all.Given as goal

-- the others stay as they are, and the connection is left only under names that are to come
abbrev pub invariant-loop-name : goal.invariant-loop-name
invariant-loop-name l = record {
  stay : (other : List ℕ) → others_than l.conn (listed l.self.by_name other) ≡ others_than l.conn (listed l.initial.self.by_name other);
  todo : (other : List ℕ) → IsTrue (is_among l.conn (listed l.self.by_name other)) → IsTrue (has_name l.names other);
}

abbrev pub decreases-loop-name : goal.decreases-loop-name
decreases-loop-name l = btree_set_len l.names
