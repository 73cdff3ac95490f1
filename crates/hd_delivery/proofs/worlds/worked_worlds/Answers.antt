use Rattle.std.proofs.Common.{refl, rules}
use Rattle.hd_delivery.proofs.Examples.{older_link_later_is_world, far_link_is_world}
use Rattle.hd_delivery.proofs.worlds.worked_worlds.Goals as goal

pub returns-clause-older_link_later : goal.returns-clause-older_link_later
returns-clause-older_link_later c = record { is_world = older_link_later_is_world; on_one_clock = search rules; at_client = refl; at_server = refl }

pub returns-clause-far_link : goal.returns-clause-far_link
returns-clause-far_link c = record { is_world = far_link_is_world; on_one_clock = search rules; at_client = refl; at_server = refl }
