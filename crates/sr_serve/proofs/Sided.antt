-- What a server does goes on from history to history, each of which is one of peers.
use Rattle.std.proofs.Common.{◌≡◌, ◌⊎◌, ℕ, Bool, List, [], ◌∷◌, inl, inr, refl, sym, ap, subst, ◌∙◌}
use Rattle.hd_calls.specs.Hubs.{Hub}
use Rattle.hw_door.specs.declared.heard.Given.{Given}
use Rattle.hw_door.specs.declared.heard.Heard.{Heard}
use Rattle.hw_door.specs.DoorCalls.{DoorCall, full_in, given_in, to_hear, to_say}
use Rattle.hd_server.specs.Doings.{ServerEvent, Sees, work}
use Rattle.hd_server.specs.Machine.{ArePeers}
use Rattle.hd_server.specs.Plans.{Setup}
use Rattle.hd_server.specs.Serves.{IsSeen, lanes_sent, seeing}
use Rattle.hd_server.specs.Serving.{ServeEnd, ServesOn, IsAnswered, IsGivenWhole, IsCutShort, all_answered, at_door, in_step}

-- what a door answers to messages is no work
work_seen : (lanes : List ℕ) (full : List Bool) (h : List ServerEvent) → work (seeing lanes full h) ≡ work h
work_seen [] full h = refl
work_seen (lane ∷ lanes) [] h = refl
work_seen (lane ∷ lanes) (f ∷ full) h = work_seen lanes full (Sees lane f ∷ h)

-- this holds of each history of peers of which that holds
abbrev pub Leads : {Job : Type 0} → Hub Job → (List ServerEvent → Type 0) → (List ServerEvent → Type 0) → Type 0
Leads hub P Q = (h : List ServerEvent) → ArePeers hub (work h) → P h → Q h

-- an event that is answered, and what is seen of the answer, leave peers
peers_after : {Job : Type 0} (hub : Hub Job) (s : Setup) (h turned after : List ServerEvent) (e : Heard) (whole own : List Given) (sights : List Bool)
    → IsAnswered hub s h e turned whole → IsSeen own sights turned after → ArePeers hub (work after)
peers_after hub s h turned after e whole own sights answered seen =
    subst (λ x. ArePeers hub x) (sym (ap (λ x. work x) seen.sees ∙ work_seen (lanes_sent own) sights turned)) answered.turn.peers

cut_on : {Job : Type 0} (hub : Hub Job) (s : Setup) (end : ServeEnd) (P Q P' Q' : List ServerEvent → Type 0) → Leads hub P P' → Leads hub Q Q'
    → (h : List ServerEvent) (e : Heard) (calls : List DoorCall) → ArePeers hub (work h)
    → IsCutShort hub s end P Q h e calls → IsCutShort hub s end P' Q' h e calls
cut_on hub s all_answered P Q P' Q' p q h e calls peers short = short
cut_on hub s (at_door (to_hear wait) why) P Q P' Q' p q h e calls peers short = short
cut_on hub s (at_door (to_say next) why) P Q P' Q' p q h e calls peers short = (
  short.0,
  short.1,
  short.2,
  short.3,
  short.4,
  short.5,
  short.6,
  p short.1 (peers_after hub s h short.0 short.1 e short.2 (given_in calls) (full_in calls) short.3 short.6) short.7,
)
cut_on hub s in_step P Q P' Q' p q h e calls peers short = (short.0, q h peers short.1)

-- so what is served up to a history of the one kind is served up to one of the other
pub served_on : {Job : Type 0} (hub : Hub Job) (s : Setup) (end : ServeEnd) (P Q P' Q' : List ServerEvent → Type 0) → Leads hub P P' → Leads hub Q Q'
    → (es : List Heard) (calls : List DoorCall) (h : List ServerEvent) → ArePeers hub (work h)
    → ServesOn hub s end P Q h es calls → ServesOn hub s end P' Q' h es calls
served_on hub s end P Q P' Q' p q [] calls h peers on = (on.0, on.1, p h peers on.2)
served_on hub s end P Q P' Q' p q (e ∷ es) calls h peers on =
    (on.0, on.1, on.2, λ free. next on.0 (λ after rest. served_on hub s end P Q P' Q' p q es rest after) (on.3 free))
  where
    next : (more : List DoorCall) → ((after : List ServerEvent) (rest : List DoorCall) → ArePeers hub (work after)
        → ServesOn hub s end P Q after es rest → ServesOn hub s end P' Q' after es rest)
        → IsGivenWhole hub s h e more (λ after rest. ServesOn hub s end P Q after es rest) ⊎ ((es ≡ []) × IsCutShort hub s end P Q h e more)
        → IsGivenWhole hub s h e more (λ after rest. ServesOn hub s end P' Q' after es rest) ⊎ ((es ≡ []) × IsCutShort hub s end P' Q' h e more)
    next more on_after (inl whole) = inl (
      whole.0,
      whole.1,
      whole.2,
      whole.3,
      whole.4,
      whole.5,
      whole.6,
      whole.7,
      on_after whole.1 whole.3
          (peers_after hub s h whole.0 whole.1 e (given_in whole.2) (given_in whole.2) (full_in whole.2) whole.6 whole.7) whole.8,
    )
    next more on_after (inr short) = inr (short.0, cut_on hub s end P Q P' Q' p q h e more peers short.1)
