use Rattle.std.proofs.Common.{◌++◌, subst, sym}
use Rattle.hd_delivery.specs.declared.vocabulary.Side.TheVariants.{Client, Server}
use Rattle.hd_delivery.specs.Histories.{sent_messages}
use Rattle.hd_delivery.specs.Worlds.{config, server_of}
use Rattle.hd_delivery.specs.Bytes.{IsFaithful, in_frames, client_in_frames}
use Rattle.hd_delivery.specs.Laws.{AreReadAsSent}
use Rattle.hd_calls.specs.Peers.{steps}
use Rattle.hd_calls.specs.PeerWorlds.{ends, settings}
use Rattle.hd_calls.proofs.Steady.{client_is, server_is}
use Rattle.hd_calls.proofs.laws.calls_once_as_sent.Goals as goal

pub returns : goal.returns
returns g c hc hs p w apart base client server q =
    let t = p.terms in
    let x = client_is p w in
    let y = server_is p w in
    let by_client = subst (λ s. AreReadAsSent (p.limits Client) p.wire (config Client t) (in_frames p.wire (config Client t) s)) (sym x) client in
    let by_server = subst (λ s. AreReadAsSent (p.limits Server) p.wire (config Server t) (in_frames p.wire (config Server t) s)) (sym y) server in
    let read = c.all_is_read.ensures p.limits p.wire t (ends p w) base by_client by_server q.is_world in (
      c.delivery_as_sent.ensures p.limits p.wire t (ends p w) base by_client by_server q.is_world,
      c.calls_once.ensures hc hs p w apart
          (subst (λ s. IsFaithful (p.limits Client) p.wire t.codec t.version (sent_messages (in_frames p.wire (config Client t) s) ++ sent_messages (steps (settings Server p) (server_of w)))) x
          (subst (λ s. IsFaithful (p.limits Client) p.wire t.codec t.version (sent_messages (client_in_frames p.wire t (ends p w)) ++ sent_messages (in_frames p.wire (config Server t) s))) y read))
          q,
    )
