-- Which lists an index and a registry stand for. An index keeps the order within a name, and not how the pairs of two names
-- interleave, so it stands for many lists: for each that has the right members at each name.
use Rattle.std.specs.Prelude.{◌≡◌, ℕ, List}
use Rattle.hd_rooms.specs.Registry.{Pair, Lists, members, AreDistinct}
use Rattle.hg_groups.specs.Maps.{listed}
use Rattle.hg_groups.specs.declared.index.Index.{Index}
use Rattle.hg_groups.specs.declared.registry.Registry.{Registry}

-- An index stands for a list of pairs.
pub record StandsIndex (index : Index) (pairs : List Pair) : Type 0 where
  pub each : (name : List ℕ) → listed index.members.by_name name ≡ members name pairs
  pub distinct : AreDistinct pairs

-- A registry stands for two lists of pairs.
pub record StandsRegistry (registry : Registry) (lists : Lists) : Type 0 where
  pub groups : StandsIndex registry.groups lists.groups
  pub users : StandsIndex registry.users lists.users
