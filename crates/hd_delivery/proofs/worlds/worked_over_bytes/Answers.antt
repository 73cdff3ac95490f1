use Rattle.std.proofs.Common.{refl}
use Rattle.hm_message.specs.declared.message.Codec.TheVariants.{Json, Pack}
use Rattle.hd_delivery.proofs.ExamplesOverBytes.{four_is_faithful, four_is_sound, bytewise_is_world, unread_nine_is_world, own_limits_is_world}
use Rattle.hd_delivery.specs.Examples.{usual}
use Rattle.hd_delivery.proofs.worlds.worked_over_bytes.Goals as goal

pub returns-clause-json : goal.returns-clause-json
returns-clause-json c = four_is_faithful Json

pub returns-clause-pack : goal.returns-clause-pack
returns-clause-pack c = four_is_faithful Pack

pub returns-clause-bytewise : goal.returns-clause-bytewise
returns-clause-bytewise c = record { is_world = bytewise_is_world; at_client = refl; at_server = refl }

pub returns-clause-unread_nine : goal.returns-clause-unread_nine
returns-clause-unread_nine c = record { is_world = unread_nine_is_world; at_client = refl; at_server = refl }

pub returns-clause-sound : goal.returns-clause-sound
returns-clause-sound c = four_is_sound usual

pub returns-clause-own_limits : goal.returns-clause-own_limits
returns-clause-own_limits c = record { is_world = own_limits_is_world; at_client = refl; at_server = refl }
