-- In a session of a dialer what was written on a lane's wire, and then what waits, is what was asked there, and then frames.
use Rattle.std.proofs.Common.{◌≡◌, ◌++◌, ◌∷◌, [], ℕ, false, if◌then◌else◌, List, Option, None, Some, refl, sym, ap, ◌∙◌, subst, append-nil, length}
use Rattle.hw_lanes.specs.declared.http.Reply.{Reply}
use Rattle.hw_door.specs.declared.heard.Address.{Address}
use Rattle.hw_door.specs.declared.heard.Upgrade.{Upgrade}
use Rattle.hw_door.specs.Traffic.{Answer, written_on}
use Rattle.hw_net.specs.declared.protocol.Protocol.{Protocol}
use Rattle.hw_net.specs.declared.protocol.Protocol.TheVariants.{Http, Response, Socket}
use Rattle.hw_net.specs.DialerSessions.{AsksAreWritten, DialerAsk, DialerCall, WroteAsk, all_on_wires, answers_of, asked, cut, does, idle, missed, on_wires, text_of, text_on}
use Rattle.hw_net.specs.Lane.{Lane, dialed_lane, owes, waits}
use Rattle.hw_net.specs.Saying.{is_too_much}
use Rattle.hw_net.proofs.Bystanders.{SaysOrStays}
use Rattle.hw_net.proofs.DialerWalks.{IsOther, each-dialed}
use Rattle.hw_net.proofs.Moves.{has-of}
use Rattle.hw_net.proofs.Owed.{replies_by}
use Rattle.hw_net.proofs.Owning.{bystander-keeps}
use Rattle.hw_net.proofs.Shares.{same, share, written-share}
use Rattle.hw_net.proofs.Voices.{IsVoiced, Voiced, bystander-pour, moves-say, written-more}
use Rattle.hw_net.proofs.Walks.{IsUntouched, Moves, moves-wire}

-- what was asked on another wire than this call asks on is as before
pub text-kept : (addresses : List Address) (wire : ℕ) (call : DialerCall) (calls : List DialerCall) → IsOther call wire → text_on addresses wire (call ∷ calls) ≡ text_on addresses wire calls
text-kept addresses wire (does lane call) calls other = refl
text-kept addresses wire (asked ask None answers) calls other = refl
text-kept addresses wire (asked ask (Some at) answers) calls other = ap (λ b. if b then text_of addresses ask else text_on addresses wire calls) other
text-kept addresses wire (missed now lane answers) calls other = refl
text-kept addresses wire (idle told) calls other = refl
text-kept addresses wire (cut answers) calls other = refl

-- what a lane that was just dialed has said is its ask
pub first-ask : (wire : ℕ) (upgrade : Option Upgrade) (text : List ℕ) (now : ℕ) (calls : List DialerCall) → IsUntouched wire (all_on_wires calls) →
    IsVoiced (Some text) (written_on wire (answers_of calls)) [] (dialed_lane now wire text upgrade)
first-ask wire upgrade text now calls fresh =
    let none : written_on wire (answers_of calls) ≡ [] = written-share wire (answers_of calls) ∙ ap (λ l. written_on wire l) fresh.answers in
    subst (λ (l : List ℕ). IsVoiced (Some text) l [] (dialed_lane now wire text upgrade)) (sym none) (ap (λ (l : List ℕ). Some l) (sym (append-nil text)))

module _ (addresses : List Address) where
  -- what a lane has said is its ask, and then frames
  abbrev pub IsAsk : List DialerCall → Lane → Type 0
  IsAsk calls lane = (replies : List Reply) × IsVoiced (Some (text_on addresses lane.wire calls)) (written_on lane.wire (answers_of calls)) replies lane

  pub step-ask : (call : DialerCall) (calls : List DialerCall) (x y : Lane) → IsOther call x.wire → IsAsk calls x → Moves (on_wires call) x y → IsAsk (call ∷ calls) y
  step-ask call calls x y other k m =
      let text = text_on addresses x.wire calls in
      let more : List Reply = k.0 ++ replies_by x.wire (owes x) (on_wires call) in
      let said = moves-say (Some text) (on_wires call) x y m (written_on x.wire (answers_of calls)) k.0 k.1 in (
        more,
        subst (λ n. IsVoiced (Some (text_on addresses n (call ∷ calls))) (written_on n (answers_of (call ∷ calls))) more y) (sym (moves-wire (on_wires call) x y m))
            (subst (λ (l : List ℕ). IsVoiced (Some l) (written_on x.wire (answers_of (call ∷ calls))) more y) (sym (text-kept addresses x.wire call calls other))
            (subst (λ (l : List ℕ). IsVoiced (Some text) l more y) (sym (written-more x.wire (all_on_wires calls) (on_wires call))) said)),
      )

  pub new-ask : (ask : DialerAsk) (wire : ℕ) (answers : List Answer) (calls : List DialerCall) (now : ℕ) (y : Lane) → IsUntouched wire (all_on_wires calls) → is_too_much (length (text_of addresses ask)) ≡ false →
      SaysOrStays 0 (dialed_lane now wire (text_of addresses ask) ask.upgrade) y (share wire answers) → IsAsk (asked ask (Some wire) answers ∷ calls) y
  new-ask ask wire answers calls now y fresh little m =
      let text = text_of addresses ask in
      let x = dialed_lane now wire text ask.upgrade in
      let before = written_on wire (answers_of calls) in
      let said : IsVoiced (Some text) (before ++ written_on wire (share wire answers)) [] y =
      bystander-pour (Some text) 0 x y (share wire answers) m before [] (first-ask wire ask.upgrade text now calls fresh) in
      let all : before ++ written_on wire (share wire answers) ≡ written_on wire (answers_of (asked ask (Some wire) answers ∷ calls)) =
      sym (written-more wire (all_on_wires calls) (on_wires (asked ask (Some wire) answers))) in
      let there : text ≡ text_on addresses wire (asked ask (Some wire) answers ∷ calls) = sym (ap (λ b. if b then text else text_on addresses wire calls) (same wire)) in (
        [],
        subst (λ n. IsVoiced (Some (text_on addresses n (asked ask (Some wire) answers ∷ calls))) (written_on n (answers_of (asked ask (Some wire) answers ∷ calls))) [] y)
            (sym (bystander-keeps 0 x y (share wire answers) m).0)
            (subst (λ (l : List ℕ). IsVoiced (Some l) (written_on wire (answers_of (asked ask (Some wire) answers ∷ calls))) [] y) there
            (subst (λ (l : List ℕ). IsVoiced (Some text) l [] y) all said)),
      )

  wrote-ask : (calls : List DialerCall) (lane : Lane) (protocol : Protocol) (replies : List Reply) →
      Voiced (Some (text_on addresses lane.wire calls)) (written_on lane.wire (answers_of calls) ++ waits lane) replies protocol → WroteAsk addresses calls lane protocol
  wrote-ask calls lane (Http http_state) replies h = absurd (cc h.5)
  wrote-ask calls lane (Response response_state) replies h = cc h
  wrote-ask calls lane (Socket websocket_state) replies h = (h.1, h.3 ∙ ap (λ l. l ++ h.1) h.2)

pub asks-are-written : AsksAreWritten
asks-are-written addresses calls bound now h lane has =
    let k = each-dialed addresses (IsAsk addresses) (new-ask addresses) (step-ask addresses) calls bound now h lane (has-of now.door.lanes lane has) in
    wrote-ask addresses calls lane lane.protocol k.0 k.1
