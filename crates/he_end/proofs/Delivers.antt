-- Two ends deliver: each one's messages are read as they were sent, for these are in the form in which its codec says them.
use Rattle.std.proofs.Common.{ℕ, ◌≤◌, List, [], arith}
use Rattle.std.specs.Prelude.{Contains}
use Rattle.hm_message.specs.declared.message.Message.{Message}
use Rattle.hs_shake.specs.Requests.{IsVersion}
use Rattle.hd_delivery.specs.declared.vocabulary.Side.TheVariants.{Client, Server}
use Rattle.hd_delivery.specs.Histories as of
use Rattle.hd_delivery.specs.Histories.{EndEvent, codec_of, sent_messages}
use Rattle.hd_delivery.specs.Worlds.{Limits, config}
use Rattle.hd_delivery.specs.Bytes.{Wire, client_in_frames, server_in_frames}
use Rattle.hd_delivery.specs.Laws.{AreReadAsSent, HoldsAsSent}
use Rattle.he_wire.specs.Wires.{IsHouseWire, AreSaid}
use Rattle.he_wire.specs.Laws.{WireIsFaithful, shortest_limit}
use Rattle.he_end.specs.declared.end.End.{End}
use Rattle.he_end.specs.Stands.{limits_of}
use Rattle.he_end.specs.Laws.{Deliver, limits_of_both}

-- what an end sent is read as it was sent, in the frames that these limits let through
pub read_as_sent : (limits : Limits) (wire : Wire) (version : ℕ) → WireIsFaithful → shortest_limit ≤ limits.frame → IsVersion version
    → IsHouseWire limits.frame wire → (c : of.Config) (k : List EndEvent) → AreSaid (codec_of c k) (sent_messages k) → AreReadAsSent limits wire c k
read_as_sent limits wire version faithful room spoken house c k said =
    (faithful limits wire (codec_of c k) version (sent_messages k) room spoken said house).message

none_sent : (m : Message) → Contains [] m → ⊥
none_sent m at = let lt = at.1 in absurd (omega arith)

pub ends_deliver : (client server : End) → HoldsAsSent → WireIsFaithful → shortest_limit ≤ (limits_of client).frame → shortest_limit ≤ (limits_of server).frame
    → Deliver client server
ends_deliver client server delivers faithful room there wire t w spoken world c s =
    delivers (limits_of_both client server) wire t w
    (faithful (limits_of client) wire t.codec t.version [] room spoken (λ m at. absurd (none_sent m at)) c.house)
    (read_as_sent (limits_of client) wire t.version faithful room spoken c.house (config Client t) (client_in_frames wire t w) c.said)
    (read_as_sent (limits_of server) wire t.version faithful there spoken s.house (config Server t) (server_in_frames wire t w) s.said)
    world
