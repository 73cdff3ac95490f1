-- A history over bytes that one end can make is one in frames, and is in order; a world is two of them.
use Rattle.std.proofs.Common.{◌≤◌, List, [], ◌∷◌, subst}
use Rattle.hd_delivery.specs.declared.vocabulary.Got.TheVariants.{Shaken}
use Rattle.hd_delivery.specs.declared.vocabulary.Side.{Side}
use Rattle.hd_delivery.specs.declared.vocabulary.Side.TheVariants.{Client, Server}
use Rattle.hd_delivery.specs.Histories.{Config, EndEvent, Attached, Fed, Took}
use Rattle.hd_delivery.specs.Processes.{next_number}
use Rattle.hd_delivery.specs.Worlds.{Limits, Terms, config, Event, ByClient, ByServer, client_of, server_of}
use Rattle.hd_delivery.specs.Bytes.{Wire, sizes_of, ByteStep, Bytes, Does, in_frames, AllowedOverBytes, IsWorldOverBytes}
use Rattle.hd_delivery.specs.OneHistory.{MayDoOverBytes, IsHistory}
use Rattle.hd_delivery.specs.Laws.{IsInOrder}
use Rattle.hd_delivery.proofs.EndFacts.{IsHistoryInFrames, known, facts}
use Rattle.hd_delivery.proofs.WhatIsRead.{read_step}
use Rattle.hd_delivery.proofs.Makes.{Made, makes}
use Rattle.hd_delivery.proofs.Unseen.{fed_is_unseen}

-- so it is in frames
pub in_frames_too : (limits : Limits) (wire : Wire) (c : Config) (h : List ByteStep) → IsHistory limits wire c h → IsHistoryInFrames limits (sizes_of wire) c (in_frames wire c h)
in_frames_too limits wire c [] i = tt
in_frames_too limits wire c (Bytes piece ∷ h) i = (in_frames_too limits wire c h i.0, record { link = i.1.link; at = i.1.at; unclosed = i.1.unclosed })
in_frames_too limits wire c (Does (Fed piece) ∷ h) i = absurd i.1
in_frames_too limits wire c (Does s ∷ h) i = (in_frames_too limits wire c h i.0, i.1)

-- a handshake is taken on the first link
shaken_once : (limits : Limits) (wire : Wire) (c : Config) (h : List ByteStep) → IsHistory limits wire c h → (s : EndEvent) → MayDoOverBytes limits wire c h (Does s) → IsInOrder h → IsInOrder (Does s ∷ h)
shaken_once limits wire c h i (Fed piece) a o = a
shaken_once limits wire c h i (Took (Shaken codec version)) a o =
    let k = in_frames wire c h in
    let p = read_step c k (Took (Shaken codec version)) a in
    let m = subst (Made c k p.1) p.4 (makes c k (next_number c k p.0) p.1) in
    let f = facts c k (known limits (sizes_of wire) c k (in_frames_too limits wire c h i)) in
    let u = fed_is_unseen wire c h in
    (o, subst (λ n. n ≤ 1) u.links (f.plain_has_one_link (f.unshaken_is_plain m.1.0)))
shaken_once limits wire c h i s a o = o

pub in_order : (limits : Limits) (wire : Wire) (c : Config) (h : List ByteStep) → IsHistory limits wire c h → IsInOrder h
in_order limits wire c [] i = tt
in_order limits wire c (Bytes piece ∷ h) i = in_order limits wire c h i.0
in_order limits wire c (Does s ∷ h) i = shaken_once limits wire c h i.0 s i.1 (in_order limits wire c h i.0)

-- what an end may do in a world it may do by itself
alone : (limits : Limits) (wire : Wire) (c oc : Config) (h other : List ByteStep) (s : ByteStep) → AllowedOverBytes limits wire c oc h other s → MayDoOverBytes limits wire c h s
alone limits wire c oc h other (Bytes piece) a = record { link = a.link; at = a.at; unclosed = a.unclosed; few = a.few }
alone limits wire c oc h other (Does (Fed piece)) a = a
alone limits wire c oc h other (Does (Attached l now)) a = a.own
alone limits wire c oc h other (Does s) a = a

pub two_histories : (limits : Side → Limits) (wire : Wire) (t : Terms) (w : List (Event ByteStep)) → IsWorldOverBytes limits wire t w
    → IsHistory (limits Client) wire (config Client t) (client_of w) × IsHistory (limits Server) wire (config Server t) (server_of w)
two_histories limits wire t [] i = (tt, tt)
two_histories limits wire t (ByClient s ∷ w) i =
    let p = two_histories limits wire t w i.0 in
    ((p.0, alone (limits Client) wire (config Client t) (config Server t) (client_of w) (server_of w) s i.1), p.1)
two_histories limits wire t (ByServer s ∷ w) i =
    let p = two_histories limits wire t w i.0 in
    (p.0, (p.1, alone (limits Server) wire (config Server t) (config Client t) (server_of w) (client_of w) s i.1))
