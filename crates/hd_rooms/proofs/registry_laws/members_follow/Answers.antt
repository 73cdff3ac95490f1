use Rattle.hd_rooms.proofs.RegistryLemmas.{has-members, members-with_pair, members-without_pair, members-without}
use Rattle.hd_rooms.proofs.registry_laws.members_follow.Goals as goal

pub returns : goal.returns
returns c = record { there = has-members; joined = members-with_pair; left = members-without_pair; all_left = members-without }
