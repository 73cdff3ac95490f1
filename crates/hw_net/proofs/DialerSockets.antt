-- In a session of a dialer a lane that became a WebSocket carries the one that was asked for, call by call.
use Rattle.std.proofs.Common.{◌≡◌, ◌++◌, ◌∷◌, [], ℕ, true, false, if◌then◌else◌, List, Option, Some, refl, sym, ap, ◌∙◌, subst, length}
use Rattle.hw_door.specs.declared.heard.Address.{Address}
use Rattle.hw_door.specs.declared.heard.Upgrade.{Upgrade}
use Rattle.hw_door.specs.Traffic.{Answer, read_on, written_on}
use Rattle.hw_net.specs.declared.protocol.Protocol.{Protocol}
use Rattle.hw_net.specs.declared.protocol.Protocol.TheVariants.{Http, Response, Socket}
use Rattle.hw_net.specs.DialerSessions.{CarriesDialed, DialedSocketsAreCarried, DialerAsk, DialerCall, all_on_wires, answers_of, asked, is_answered_on, on_wires, text_of, text_on, upgrade_on}
use Rattle.hw_net.specs.Lane.{Lane, dialed_lane, is_live, waits}
use Rattle.hw_net.specs.Saying.{is_too_much}
use Rattle.hw_net.specs.Sessions as session
use Rattle.hw_net.specs.Sessions.{Opening, by_ask, messages_on, sent_on}
use Rattle.hw_net.proofs.Bystanders.{SaysOrStays}
use Rattle.hw_net.proofs.DialerResponses.{IsHeld, first-held, new-held, step-held, upgrade-kept}
use Rattle.hw_net.proofs.DialerVoices.{IsAsk, first-ask, new-ask, step-ask, text-kept}
use Rattle.hw_net.proofs.DialerWalks.{IsOther, each-dialed}
use Rattle.hw_net.proofs.Lasting.{IsLasting, step-lasting}
use Rattle.hw_net.proofs.Moves.{has-of}
use Rattle.hw_net.proofs.Owed.{IsOwed, step-owed}
use Rattle.hw_net.proofs.Owning.{bystander-keeps}
use Rattle.hw_net.proofs.Shares.{same, share}
use Rattle.hw_net.proofs.Sockets.{Borne, BorneAt, KnownAt, borne-more}
use Rattle.hw_net.proofs.Walks.{IsUntouched, Moves, moves-wire}

module _ (addresses : List Address) where
  abbrev asked_on : ℕ → List DialerCall → Opening
  asked_on wire calls = by_ask (upgrade_on wire calls) (text_on addresses wire calls)

  asked-kept : (call : DialerCall) (calls : List DialerCall) (wire : ℕ) → IsOther call wire → asked_on wire (call ∷ calls) ≡ asked_on wire calls
  asked-kept call calls wire other =
      ap (λ (u : Option Upgrade). by_ask u (text_on addresses wire (call ∷ calls))) (upgrade-kept wire call calls other)
      ∙ ap (λ (l : List ℕ). by_ask (upgrade_on wire calls) l) (text-kept addresses wire call calls other)

  -- what is borne on its wires, of what a lane has and said
  abbrev IsCarrying : List DialerCall → Lane → Type 0
  IsCarrying calls lane =
      IsHeld calls lane × IsAsk addresses calls lane × IsOwed (all_on_wires calls) lane × IsLasting true (all_on_wires calls) lane × BorneAt lane.wire (asked_on lane.wire calls) (all_on_wires calls) lane

  known : (calls : List DialerCall) (x : Lane) → IsHeld calls x → IsAsk addresses calls x → KnownAt x.wire (asked_on x.wire calls) (all_on_wires calls) x
  known calls x held ask = (λ live. (is_answered_on x.wire (all_on_wires calls), held live), ask)

  step-carrying : (call : DialerCall) (calls : List DialerCall) (x y : Lane) → IsOther call x.wire → IsCarrying calls x → Moves (on_wires call) x y → IsCarrying (call ∷ calls) y
  step-carrying call calls x y other k m = (
    step-held call calls x y other k.0 m,
    step-ask addresses call calls x y other k.1 m,
    step-owed (on_wires call) (all_on_wires calls) x y k.2 m,
    step-lasting true (on_wires call) (all_on_wires calls) x y k.2 k.3 m,
    subst (λ n. BorneAt n (asked_on n (call ∷ calls)) (all_on_wires (call ∷ calls)) y) (sym (moves-wire (on_wires call) x y m))
        (subst (λ (o : Opening). BorneAt x.wire o (all_on_wires (call ∷ calls)) y) (sym (asked-kept call calls x.wire other))
        (borne-more (asked_on x.wire calls) (on_wires call) (all_on_wires calls) x y k.2 k.3 (known calls x k.0 k.1) k.4 m)),
  )

  new-carrying : (ask : DialerAsk) (wire : ℕ) (answers : List Answer) (calls : List DialerCall) (now : ℕ) (y : Lane) → IsUntouched wire (all_on_wires calls) → is_too_much (length (text_of addresses ask)) ≡ false →
      SaysOrStays 0 (dialed_lane now wire (text_of addresses ask) ask.upgrade) y (share wire answers) → IsCarrying (asked ask (Some wire) answers ∷ calls) y
  new-carrying ask wire answers calls now y fresh little m =
      let text = text_of addresses ask in
      let x = dialed_lane now wire text ask.upgrade in
      let before = all_on_wires calls in
      let owed : IsOwed before x = sym fresh.owed in
      let lasts : IsLasting true before x = (refl, fresh.idle) in
      let knows : KnownAt wire (by_ask ask.upgrade text) before x = (λ live. (is_answered_on wire before, first-held wire ask.upgrade text now calls fresh), ([], first-ask wire ask.upgrade text now calls fresh)) in
      let moved = borne-more (by_ask ask.upgrade text) (session.wrote wire answers) before x y owed lasts knows (refl, fresh.messages, fresh.unsent) m in
      let there : by_ask ask.upgrade text ≡ asked_on wire (asked ask (Some wire) answers ∷ calls) =
      sym (ap (λ b. by_ask (if b then ask.upgrade else upgrade_on wire calls) (if b then text else text_on addresses wire calls)) (same wire)) in (
        new-held addresses ask wire answers calls now y fresh little m,
        new-ask addresses ask wire answers calls now y fresh little m,
        step-owed (session.wrote wire answers) before x y owed m,
        step-lasting true (session.wrote wire answers) before x y owed lasts m,
        subst (λ n. BorneAt n (asked_on n (asked ask (Some wire) answers ∷ calls)) (session.wrote wire answers ∷ before) y) (sym (bystander-keeps 0 x y (share wire answers) m).0)
            (subst (λ (o : Opening). BorneAt wire o (session.wrote wire answers ∷ before) y) there moved),
      )

  carries-of : (calls : List DialerCall) (lane : Lane) (protocol : Protocol) →
      Borne (is_live lane.stage) (read_on lane.wire (answers_of calls)) (written_on lane.wire (answers_of calls) ++ waits lane) (asked_on lane.wire calls) (messages_on lane.wire (all_on_wires calls))
      (sent_on lane.wire (all_on_wires calls)) protocol → CarriesDialed addresses calls lane protocol
  carries-of calls lane (Http http_state) b = absurd (cc b.0)
  carries-of calls lane (Response response_state) b = tt
  carries-of calls lane (Socket websocket_state) b = b

pub dialed-sockets-are-carried : DialedSocketsAreCarried
dialed-sockets-are-carried addresses calls bound now h lane has =
    let k = each-dialed addresses (IsCarrying addresses) (new-carrying addresses) (step-carrying addresses) calls bound now h lane (has-of now.door.lanes lane has) in
    carries-of addresses calls lane lane.protocol k.4
