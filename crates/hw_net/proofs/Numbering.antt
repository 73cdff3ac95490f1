-- The numbers of lanes rise, and stay as they are in all calls but `next`.
use Rattle.std.proofs.Common.{◌≡◌, ◌≤◌, ◌+◌, ◌==◌, ◌++◌, ◌∷◌, [], ℕ, Bool, true, false, not, cond, List, Option, None, Some, refl, sym, ap, ◌∙◌, subst, arith, option_to_list, length, if◌then◌else◌, ◌⊎◌, inl, inr}
use Rattle.std.proofs.lemmas.List.{append-nil}
use Rattle.hw_lanes.specs.declared.http.Reply.{Reply}
use Rattle.hw_door.specs.Traffic.{Answer, was_shut}
use Rattle.hw_net.specs.declared.limits.TheConstants.{SWITCHING}
use Rattle.hw_net.specs.declared.protocol.Stage.{Stage}
use Rattle.hw_net.specs.declared.protocol.Stage.TheVariants.{Live, Lost, Closing, Over}
use Rattle.hw_net.specs.declared.protocol.Protocol.{Protocol}
use Rattle.hw_net.specs.declared.protocol.Protocol.TheVariants.{Http, Response, Socket}
use Rattle.hw_net.specs.Door.{IsNumbered, kept}
use Rattle.hw_net.specs.Flushing.{WriteEach}
use Rattle.hw_net.specs.Lane.{Lane, wires_of, waits, is_over, is_live, owes, after_end, after_reply, protocol_after_shut, protocol_after_reply, new_socket, rest_of}
use Rattle.hw_net.specs.Numbers.{NumbersRise, FlushesKeepNumbers, RepliesKeepNumbers, SendsKeepNumbers, ShutsKeepNumbers}
use Rattle.hw_net.specs.Rising.{IsRising}
use Rattle.hw_net.specs.Saying.{WritesOut, WritesIfLive, WritesIfLiveAt, SaysMore, is_too_much}
use Rattle.hw_net.specs.Trace.{Chooses}
use Rattle.hw_net.specs.Turn.{Replies, PutsAt, Sends, Shuts, AtLane}
use Rattle.hh_http.specs.Texts.{reply_text}
use Rattle.hw_net.proofs.Bystanders.{Stays, gathered-says}
use Rattle.hw_net.proofs.Fullness.{SaysPut}

pub lower : (from least bound : ℕ) (wires : List ℕ) → least ≤ from → IsRising from bound wires → IsRising least bound wires
lower from least bound [] le h = omega (arith, le, h)
lower from least bound (wire ∷ wires) le h = (omega (arith, le, h.0), h.1)

-- some of the lanes are kept
pub kept-rise : (from bound : ℕ) (lanes : List Lane) → IsRising from bound (wires_of lanes) → IsRising from bound (wires_of (kept lanes))
kept-rise from bound [] h = h
kept-rise from bound (lane ∷ lanes) h = go (not (is_over lane.stage)) (kept-rise (lane.wire + 1) bound lanes h.1) where
  go : (b : Bool) → IsRising (lane.wire + 1) bound (wires_of (kept lanes)) → IsRising from bound (wires_of (cond b (lane ∷ kept lanes) (kept lanes)))
  go true k = (h.0, k)
  go false k = lower (lane.wire + 1) from bound (wires_of (kept lanes)) (omega (arith, h.0)) k

pub higher : (from bound most : ℕ) (wires : List ℕ) → bound ≤ most → IsRising from bound wires → IsRising from most wires
higher from bound most [] le h = omega (arith, le, h)
higher from bound most (wire ∷ wires) le h = (h.0, higher (wire + 1) bound most wires le h.1)

-- a new number comes after them
pub come-rise : (from bound most new : ℕ) (wires : List ℕ) → bound ≤ new → new + 1 ≤ most → IsRising from bound wires → IsRising from most (wires ++ new ∷ [])
come-rise from bound most new [] le lt h = (omega (arith, le, h), lt)
come-rise from bound most new (wire ∷ wires) le lt h = (h.0, come-rise (wire + 1) bound most new wires le lt h.1)

pub numbers-rise : NumbersRise
numbers-rise bound most before after h k = go k.0 k.1 k.2 where
  go : (wire : Option ℕ) → wires_of after ≡ wires_of (kept before) ++ option_to_list wire → IsNumbered bound most wire → IsRising 0 most (wires_of after)
  go None e n = subst (λ (l : List ℕ). IsRising 0 most l) (sym (e ∙ append-nil (wires_of (kept before)))) (higher 0 bound most (wires_of (kept before)) n (kept-rise 0 bound before h))
  go (Some wire) e n = subst (λ (l : List ℕ). IsRising 0 most l) (sym e) (come-rise 0 bound most wire (wires_of (kept before)) n.0 n.1 (kept-rise 0 bound before h))

-- ---- the other calls

at-wires : (wire : ℕ) (Does : Lane → Lane → List Answer → Type 0) (lanes after : List Lane) (answers : List Answer) →
    ((before next : Lane) (said : List Answer) → Does before next said → next.wire ≡ before.wire) → AtLane wire Does lanes after answers → wires_of after ≡ wires_of lanes
at-wires wire Does [] after answers each h = ap wires_of h.0
at-wires wire Does (lane ∷ lanes) after answers each h = go (lane.wire == wire) h (at-wires wire Does lanes) where
  go : (b : Bool) → Chooses b ((next : Lane) × (after ≡ next ∷ lanes) × Does lane next answers) ((rest : List Lane) × (after ≡ lane ∷ rest) × AtLane wire Does lanes rest answers) →
      ((rest : List Lane) (said : List Answer) → ((before next : Lane) (said : List Answer) → Does before next said → next.wire ≡ before.wire) →
      AtLane wire Does lanes rest said → wires_of rest ≡ wires_of lanes) → wires_of after ≡ lane.wire ∷ wires_of lanes
  go true h again = ap wires_of h.1 ∙ ap (λ n. n ∷ wires_of lanes) (each lane h.0 answers h.2)
  go false h again = ap wires_of h.1 ∙ ap (λ l. lane.wire ∷ l) (again h.0 answers each h.2)

-- a flush writes on some lanes, one after the other
live-wire : (before after : Lane) (answers : List Answer) → WritesIfLive before after answers → after.wire ≡ before.wire
live-wire before after answers h = go before.stage h where
  go : (s : Stage) → WritesIfLiveAt s before after answers → after.wire ≡ before.wire
  go Live h = h.still.wire
  go Lost h = ap (λ (l : Lane). l.wire) h.1
  go Closing h = ap (λ (l : Lane). l.wire) h.1
  go Over h = ap (λ (l : Lane). l.wire) h.1

pub writes-keep : (wire : ℕ) (lanes after : List Lane) (answers : List Answer) → AtLane wire WritesIfLive lanes after answers → wires_of after ≡ wires_of lanes
writes-keep wire lanes after answers h = at-wires wire WritesIfLive lanes after answers live-wire h

each-keeps : (wires : List ℕ) (lanes after : List Lane) (answers : List Answer) → WriteEach wires lanes after answers → wires_of after ≡ wires_of lanes
each-keeps [] lanes after answers h = ap wires_of h.0
each-keeps (wire ∷ wires) lanes after answers h = each-keeps wires h.0 after h.2 h.5 ∙ writes-keep wire lanes h.0 h.1 h.4

pub flushes-keep : FlushesKeepNumbers
flushes-keep before after answers h = each-keeps h.flushes.wires before.lanes after.lanes answers h.flushes.writes

pub more-wire : (before after : Lane) (answers : List Answer) → SaysMore before after answers → after.wire ≡ before.wire
more-wire before after answers h = go (is_too_much (length (waits before))) h where
  go : (b : Bool) → Chooses b ((answers ≡ was_shut before.wire ∷ []) × (after ≡ record before { stage = after_end before.stage })) (WritesOut before after answers) → after.wire ≡ before.wire
  go true h = ap (λ (l : Lane). l.wire) h.1
  go false h = h.still.wire

pub replied-wire : (now : ℕ) (reply : Reply) (lane : Lane) → (after_reply now reply lane).wire ≡ lane.wire
replied-wire now reply lane = go (reply.status == SWITCHING) where
  go : (b : Bool) → (if b then record lane { protocol = new_socket (rest_of lane.protocol); out = lane.out ++ reply_text reply }
      else record lane { protocol = protocol_after_reply lane.protocol; out = lane.out ++ reply_text reply; since = now }).wire ≡ lane.wire
  go true = refl
  go false = refl

pub reply-wire : (now : ℕ) (reply : Reply) (before after : Lane) (answers : List Answer) → Replies now reply before after answers → after.wire ≡ before.wire
reply-wire now reply before after answers h = go (owes before) h where
  go : (b : Bool) → Chooses b (SaysMore (after_reply now reply before) after answers) ((answers ≡ []) × (after ≡ before)) → after.wire ≡ before.wire
  go true h = more-wire (after_reply now reply before) after answers h ∙ replied-wire now reply before
  go false h = ap (λ (l : Lane). l.wire) h.1

pub replies-keep : RepliesKeepNumbers
replies-keep lane now reply before after answers h = at-wires lane (Replies now reply) before.lanes after.lanes answers (reply-wire now reply) h.0

pub put-wire : (live : Bool) (protocol : Protocol) (bytes : List ℕ) (text : Bool) (before after : Lane) (is_put : Bool) → PutsAt live protocol bytes text before after is_put → after.wire ≡ before.wire
put-wire true (Socket websocket_state) bytes text before after is_put h = ap (λ (l : Lane). l.wire) h.2
put-wire true (Http http_state) bytes text before after is_put h = ap (λ (l : Lane). l.wire) h.1
put-wire true (Response response_state) bytes text before after is_put h = ap (λ (l : Lane). l.wire) h.1
put-wire false protocol bytes text before after is_put h = ap (λ (l : Lane). l.wire) h.1

pub send-wire : (now : ℕ) (bytes : List ℕ) (text : Bool) (before after : Lane) (answers : List Answer) → Sends now bytes text before after answers → after.wire ≡ before.wire
send-wire now bytes text before after answers h = go h.0 h.1 h.3 ∙ put-wire (is_live before.stage) before.protocol bytes text before h.0 h.1 h.2 where
  said : (mid next : Lane) → SaysMore mid next answers ⊎ Stays mid next answers → next.wire ≡ mid.wire
  said mid next (inl k) = more-wire mid next answers k
  said mid next (inr k) = ap (λ (l : Lane). l.wire) k.0

  go : (mid : Lane) (b : Bool) → SaysPut now b mid after answers → after.wire ≡ mid.wire
  go mid true h = ap (λ (l : Lane). l.wire) h.2 ∙ said mid h.0 (gathered-says mid h.0 answers h.1)
  go mid false h = ap (λ (l : Lane). l.wire) h.1

pub sends-keep : SendsKeepNumbers
sends-keep lane now bytes text before after answers h = at-wires lane (Sends now bytes text) before.lanes after.lanes answers (send-wire now bytes text) h.0

pub shut-wire : (now : ℕ) (before after : Lane) (answers : List Answer) → Shuts now before after answers → after.wire ≡ before.wire
shut-wire now before after answers h = go (is_live before.stage) h where
  go : (b : Bool) → Chooses b (WritesOut (record before { since = now; protocol = protocol_after_shut before.protocol; stage = Closing }) after answers) ((answers ≡ []) × (after ≡ before)) → after.wire ≡ before.wire
  go true h = h.still.wire
  go false h = ap (λ (l : Lane). l.wire) h.1

pub shuts-keep : ShutsKeepNumbers
shuts-keep lane now before after answers h = at-wires lane (Shuts now) before.lanes after.lanes answers (shut-wire now) h.0
