-- What holds of one peer, and of two.
use Rattle.std.specs.Prelude.{List}
use Rattle.hs_shake.specs.Requests.{IsVersion}
use Rattle.hd_delivery.specs.declared.vocabulary.Side.TheVariants.{Client, Server}
use Rattle.hd_delivery.specs.Worlds.{Event, client_of, server_of}
use Rattle.hd_delivery.specs.Bytes.{IsWorldOverBytes, DeliveryOverBytes}
use Rattle.hd_calls.specs.Hubs.{Hub}
use Rattle.hd_calls.specs.Peers.{PeerEvent, Settings}
use Rattle.hd_calls.specs.Rules.{IsPeer}
use Rattle.hd_calls.specs.Ledgers.{Keeps, EndsAfterClose}
use Rattle.hd_calls.specs.Laws.{IsBounded}
use Rattle.hd_calls.specs.PeerWorlds.{Pair, settings, ends, AllEnded, BothOnce, IsIdle}
use Rattle.hp_peer.specs.declared.peer.Peer.{Peer}
use Rattle.hp_peer.specs.Stands.{Stands}

-- Whatever the peer stands for is what a peer can do by itself, and so has all that is proved of that: at most one ending for each call and each
-- job, nothing after it, each live call of a closed end ended once, and no bound passed.
pub record IsSound {Job : Type 0} (hub : Hub Job) (t : Settings) (h : List PeerEvent) : Type 0 where
  pub peer : IsPeer hub t h
  pub keeps : Keeps hub t h
  pub closes : EndsAfterClose t h
  pub bounded : IsBounded t h

abbrev pub KeepsItsCalls : {H Job : Type 0} → Hub Job → Peer H Job → Type 0
KeepsItsCalls hub peer = (t : Settings) (h : List PeerEvent) → Stands hub t peer h → IsSound hub t h

-- ---- two peers

-- a world of two ends, for the moves of whose client and server these two peers stand
pub record IsWorldOf {C S ClientJob ServerJob : Type 0} (hc : Hub ClientJob) (hs : Hub ServerJob) (client : Peer C ClientJob) (server : Peer S ServerJob) (p : Pair) (w : List (Event PeerEvent)) : Type 0 where
  pub version : IsVersion p.terms.version
  pub world : IsWorldOverBytes p.limits p.wire p.terms (ends p w)
  pub client_stands : Stands hc (settings Client p) client (client_of w)
  pub server_stands : Stands hs (settings Server p) server (server_of w)

-- once nothing is left to say, to read or to do, each call of both with an id has ended, and its caller was given all that its job answered
pub record AllEnd (p : Pair) (w : List (Event PeerEvent)) : Type 0 where
  pub of_client : IsIdle p w → AllEnded (settings Server p) (client_of w) (server_of w)
  pub of_server : IsIdle p w → AllEnded (settings Client p) (server_of w) (client_of w)

-- In every such world what each end has processed is a first part of what the other sent, each call that was processed begins one job, and its
-- caller is given what that job answers: all of it, and one ending, once nothing is left to do.
abbrev pub CallOnce : {C S ClientJob ServerJob : Type 0} → Hub ClientJob → Hub ServerJob → Peer C ClientJob → Peer S ServerJob → Type 0
CallOnce hc hs client server = (p : Pair) (w : List (Event PeerEvent)) → IsWorldOf hc hs client server p w
    → DeliveryOverBytes p.wire p.terms (ends p w) × BothOnce hc hs p w × AllEnd p w
