-- What a poll is answered has at most so many bytes, since no frame of an end of a server has more than its limit and its framing.
use Rattle.std.proofs.Common.{◌≡◌, ◌≤◌, ◌<◌, ◌+◌, ℕ, zero, suc, List, [], ◌∷◌, length, sym, ap, subst, ◌∙◌, arith}
use Rattle.std.specs.List.{slice_index_or}
use Rattle.hd_delivery.specs.Frames.{LinkFrame}
use Rattle.hd_delivery.specs.Histories.{Config, Lent, codec_of}
use Rattle.hd_delivery.specs.Numbers.{most_framing}
use Rattle.hd_delivery.specs.Worlds.{Limits}
use Rattle.hd_delivery.specs.Bytes.{ByteStep, Does, in_frames}
use Rattle.hd_delivery.specs.OneHistory.{IsHistory}
use Rattle.hd_calls.specs.Peers.{Settings}
use Rattle.hs_shake.specs.Requests.{IsVersion}
use Rattle.he_wire.specs.Wires.{IsHouseWire}
use Rattle.he_wire.specs.Laws.{SaysNoMore, shortest_limit}
use Rattle.hd_server.specs.Laws.{BodiesAreBounded}
use Rattle.hd_server.specs.Numbers.{most_frame}
use Rattle.hd_server.specs.Plans.{Setup}
use Rattle.hd_server.specs.Serves.{LendsUpTo}
use Rattle.hub_server.specs.Laws.{PollsAreBounded}
use Rattle.hub_server.specs.Resend.{ResendLimits}
use Rattle.hub_server.specs.Servers.{IsBegunBy, IsSetup}

module _ (says : SaysNoMore) (s : Setup) (base : List ℕ) (resend : ResendLimits) (live : ℕ) (t : Settings) (setup : IsSetup s base resend live) (begun : IsBegunBy s t) where
  frame_is : t.limits.frame ≡ most_frame
  frame_is = ap (λ (l : Limits). l.frame) begun.limits ∙ ap (λ (x : Setup). x.limits.frame) setup.given

  house : IsHouseWire t.limits.frame t.wire
  house = subst (λ n. IsHouseWire n t.wire) (sym frame_is) (subst (λ x. IsHouseWire most_frame x) (sym begun.wire) setup.wire)

  spoken : IsVersion t.config.version
  spoken = let one : t.config.version ≡ 1 = ap (λ (c : Config). c.version) begun.config in (omega (arith, one), omega (arith, one))

  room : shortest_limit ≤ t.limits.frame
  room = omega (arith, frame_is)

  each_short : (h : List ByteStep) (size : ℕ) (fs : List LinkFrame) → IsHistory t.limits t.wire t.config h → LendsUpTo t.wire t.config (in_frames t.wire t.config h) size fs
      → (k : ℕ) (d : LinkFrame) → k < length fs → length (t.wire.spell (codec_of t.config (in_frames t.wire t.config h)) (slice_index_or fs k d)) ≤ most_frame + most_framing
  each_short h size [] is lends k d lt = absurd (omega (arith, lt))
  each_short h size (f ∷ fs) is lends zero d lt = let one = says t.limits t.wire t.config h f room spoken house is lends.0 in omega (arith, one, frame_is)
  each_short h size (f ∷ fs) is lends (suc k) d lt =
      each_short (Does (Lent f) ∷ h) (size + length (t.wire.spell (codec_of t.config (in_frames t.wire t.config h)) f)) fs (is, lends.0) lends.2 k d (omega (arith, lt))

pub polls_bounded : BodiesAreBounded → SaysNoMore → PollsAreBounded
polls_bounded bodies says s base resend live t h fs setup begun is lends =
    bodies t.wire t.config (in_frames t.wire t.config h) fs (each_short says s base resend live t setup begun h 0 fs is lends) lends
