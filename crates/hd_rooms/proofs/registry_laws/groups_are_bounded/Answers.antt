use Rattle.hd_rooms.proofs.RegistryLemmas.{count-with_member, count-filter}
use Rattle.hd_rooms.proofs.registry_laws.groups_are_bounded.Goals as goal

pub returns-clause-bounded : goal.returns-clause-bounded
returns-clause-bounded c = record { joined = count-with_member; fewer = count-filter }
