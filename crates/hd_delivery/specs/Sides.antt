-- The two sides of a world.
use Rattle.std.specs.Prelude.{List}
use Rattle.hd_delivery.specs.declared.vocabulary.Side.{Side}
use Rattle.hd_delivery.specs.declared.vocabulary.Side.TheVariants.{Client, Server}
use Rattle.hd_delivery.specs.Histories.{EndEvent}
use Rattle.hd_delivery.specs.Worlds.{Terms, config, Event, ByClient, ByServer, client_of, server_of}
use Rattle.hd_delivery.specs.Bytes.{Wire, ByteStep, in_frames}

-- the other side
abbrev pub other : Side → Side
other Client = Server
other Server = Client

-- at this side
abbrev pub by : {S : Type 0} → Side → S → Event S
by Client s = ByClient s
by Server s = ByServer s

-- the steps of this side
abbrev pub history : {S : Type 0} → Side → List (Event S) → List S
history Client w = client_of w
history Server w = server_of w

-- the history of this side in frames
abbrev pub frames_at : Wire → Terms → List (Event ByteStep) → Side → List EndEvent
frames_at wire t w side = in_frames wire (config side t) (history side w)
