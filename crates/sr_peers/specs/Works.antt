-- Whether an action writes, reads or steps anything.
use Rattle.std.specs.Prelude.{◌≡◌, ◌↔◌, Bool, true, false, List, [], ◌∷◌, IsTrue}
use Rattle.hd_delivery.specs.Histories.{Lent}
use Rattle.hd_delivery.specs.Bytes.{Bytes, Does}
use Rattle.hd_delivery.specs.Sides.{history}
use Rattle.hd_calls.specs.Peers.{PeerEvent, Plain}
use Rattle.hd_calls.specs.PeerWorlds.{Pair, settings}
use Rattle.hd_calls.specs.Rules.{IsPeerDue}
use Rattle.sr_script.specs.declared.action.Action.{Action}
use Rattle.sr_script.specs.declared.action.Action.TheVariants.{Write, Read, Round}
use Rattle.sr_peers.specs.Runs.{Run, world_of}

-- whether a frame is written or a piece is read among these moves
abbrev pub moves_bytes : List PeerEvent → Bool
moves_bytes [] = false
moves_bytes (Plain (Does (Lent f)) ∷ ds) = true
moves_bytes (Plain (Bytes piece) ∷ ds) = true
moves_bytes (d ∷ ds) = moves_bytes ds

-- After a run the action made this. It works if its side wrote a frame or was fed a piece, or if its round gives a job a turn.
abbrev pub Works : Pair → Run → Action → Run → Bool → Type 0
Works p r (Write side count) made worked = worked ≡ moves_bytes (history side (world_of made))
Works p r (Read side count) made worked = worked ≡ moves_bytes (history side (world_of made))
Works p r (Round side) made worked = IsTrue worked ↔ IsPeerDue (settings side p) (history side (world_of r))
Works p r a made worked = worked ≡ false
