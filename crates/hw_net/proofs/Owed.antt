-- In a session a lane owes a reply exactly if its calls say so.
use Rattle.std.proofs.Common.{◌≡◌, ◌==◌, ◌&&◌, ◌||◌, ◌++◌, ◌∷◌, [], ℕ, Bool, true, false, not, if◌then◌else◌, List, refl, sym, ap, ◌∙◌, subst, append-nil}
use Rattle.hw_lanes.specs.declared.http.Reply.{Reply}
use Rattle.hw_door.specs.Traffic.{Answer}
use Rattle.hw_net.specs.Door.{new_lane}
use Rattle.hw_net.specs.Lane.{Lane, owes}
use Rattle.hw_net.specs.Sessions as session
use Rattle.hw_net.specs.Sessions.{Call, answers_in, is_owed_on, is_request_on, was_shut_in, refusal_on, replies_on}
use Rattle.hw_net.specs.Trace.{Chooses}
use Rattle.hw_net.specs.Turn.{Replies, Sends, Shuts}
use Rattle.hw_net.proofs.Ends.{bystander-owes, heeds-owes, replies-owe, sends-owe, shuts-owe}
use Rattle.hw_net.proofs.Moves.{ActsAt}
use Rattle.hw_net.proofs.Shares.{share, shut-share, turned, equal, same}
use Rattle.hw_net.proofs.Walks.{Moves, moves-wire, IsUntouched}

pub swapped : (a b : ℕ) → (a == b) ≡ (b == a)
swapped a b = go (a == b) refl where
  go : (c : Bool) → (a == b) ≡ c → (a == b) ≡ (b == a)
  go true e = e ∙ sym (ap (λ n. b == n) (equal a b e) ∙ same b)
  go false e = e ∙ sym (turned a b e)

-- what is done on a lane, as the number tells
pub by-number : (wire : ℕ) (Does : Lane → Lane → List Answer → Type 0) (x y : Lane) (mine : List Answer) (P : Bool → Type 0) → (Does x y mine → P true) → (y ≡ x → mine ≡ [] → P false) → ActsAt wire Does x y mine → P (wire == x.wire)
by-number wire Does x y mine P done left h = subst P (swapped x.wire wire) (go (x.wire == wire) h) where
  go : (b : Bool) → Chooses b (Does x y mine) ((y ≡ x) × (mine ≡ [])) → P b
  go true h = done h
  go false h = left h.0 h.1

abbrev pub IsOwed : List Call → Lane → Type 0
IsOwed calls lane = owes lane ≡ is_owed_on lane.wire calls

owed-here : (call : Call) (calls : List Call) (x y : Lane) → IsOwed calls x → Moves call x y → owes y ≡ is_owed_on x.wire (call ∷ calls)
owed-here (session.heard what answers) calls x y k h =
    heeds-owes what.now what.event x y (share x.wire answers) h
    ∙ ap (λ b. not b && (is_request_on x.wire what.event || owes x)) (sym (shut-share x.wire answers))
    ∙ ap (λ b. not (was_shut_in x.wire answers) && (is_request_on x.wire what.event || b)) k
owed-here (session.replied at reply answers) calls x y k h =
    by-number at (Replies h.0 reply) x y (share x.wire answers) (λ b. owes y ≡ (not b && is_owed_on x.wire calls))
    (replies-owe h.0 reply x y (share x.wire answers)) (λ e f. ap owes e ∙ k) h.1
owed-here (session.sent at bytes text full answers) calls x y k h =
    by-number at (Sends h.0 bytes text) x y (share x.wire answers) (λ b. owes y ≡ is_owed_on x.wire calls)
    (λ s. sends-owe h.0 bytes text x y (share x.wire answers) s ∙ k) (λ e f. ap owes e ∙ k) h.1
owed-here (session.shut at answers) calls x y k h =
    by-number at (Shuts h.0) x y (share x.wire answers) (λ b. owes y ≡ (not b && is_owed_on x.wire calls))
    (shuts-owe h.0 x y (share x.wire answers)) (λ e f. ap owes e ∙ k) h.1
owed-here (session.wrote at answers) calls x y k h =
    bystander-owes 0 x y (share x.wire answers) h
    ∙ ap (λ b. not b && owes x) (sym (shut-share x.wire answers)) ∙ ap (λ b. not (was_shut_in x.wire answers) && b) k

pub step-owed : (call : Call) (calls : List Call) (x y : Lane) → IsOwed calls x → Moves call x y → IsOwed (call ∷ calls) y
step-owed call calls x y k h = owed-here call calls x y k h ∙ ap (λ n. is_owed_on n (call ∷ calls)) (sym (moves-wire call x y h))

pub new-owed : (calls : List Call) (now wire : ℕ) → IsUntouched wire calls → IsOwed calls (new_lane now wire)
new-owed calls now wire h = sym h.owed

-- the replies that a call adds on a lane that owes one or not
abbrev pub replies_by : ℕ → Bool → Call → List Reply
replies_by wire owed (session.heard what answers) = refusal_on wire what.event
replies_by wire owed (session.replied at reply answers) = if (at == wire) && owed then reply ∷ [] else []
replies_by wire owed (session.sent at bytes text full answers) = []
replies_by wire owed (session.shut at answers) = []
replies_by wire owed (session.wrote at answers) = []

pub replies-more : (call : Call) (calls : List Call) (x : Lane) → IsOwed calls x → replies_on x.wire (call ∷ calls) ≡ replies_on x.wire calls ++ replies_by x.wire (owes x) call
replies-more (session.heard what answers) calls x k = refl
replies-more (session.replied at reply answers) calls x k = ap (λ b. replies_on x.wire calls ++ (if (at == x.wire) && b then reply ∷ [] else [])) (sym k)
replies-more (session.sent at bytes text full answers) calls x k = sym (append-nil (replies_on x.wire calls))
replies-more (session.shut at answers) calls x k = sym (append-nil (replies_on x.wire calls))
replies-more (session.wrote at answers) calls x k = sym (append-nil (replies_on x.wire calls))
