-- Replies that tell whether their lanes are shut after them.
use Rattle.std.proofs.Common.{◌≡◌, ℕ, Bool, true, false, List, [], ◌∷◌, ap, ◌∙◌}
use Rattle.std.specs.Prelude.{◌==◌, not, ◌&&◌, ◌||◌, if◌then◌else◌}
use Rattle.hw_lanes.specs.declared.http.Reply.{Reply}
use Rattle.hd_server.specs.declared.vocabulary.Said.TheVariants as say
use Rattle.hd_server.specs.Doings.{ServerEvent, Says, wants_shut, was_refused}
use Rattle.hd_server.specs.Plans.{bare_reply, ends_lane, onto, replying}

-- by whether the lane is shut
abbrev pub says_by : ℕ → Reply → Bool → List ServerEvent
says_by lane reply ends = Says (say.Reply lane (record reply { close = ends })) ∷ (if ends then Says (say.Shut lane) ∷ [] else [])

-- the end of a poll after which its lane is shut
abbrev pub last_empty : Reply
last_empty = record (bare_reply 204) { close = true }

-- what is replied depends on the lane alone
pub replying_same : (lane : ℕ) (reply : Reply) (g h : List ServerEvent) → wants_shut lane g ≡ wants_shut lane h → was_refused lane g ≡ was_refused lane h
    → replying lane reply g ≡ replying lane reply h
replying_same lane reply g h shut refused =
    ap (λ (b : Bool). says_by lane reply (((reply.status == 400) || (not (reply.status == 101) && b)) && not (was_refused lane g))) shut
    ∙ ap (λ (b : Bool). says_by lane reply (((reply.status == 400) || (not (reply.status == 101) && wants_shut lane h)) && not b)) refused

-- a reply is said, after which the lane may be shut
pub replying_both : (P : List ServerEvent → Type 0) (lane : ℕ) (reply : Reply) (h : List ServerEvent)
    → P (Says (say.Reply lane (record reply { close = false })) ∷ h)
    → P (Says (say.Shut lane) ∷ Says (say.Reply lane (record reply { close = true })) ∷ h) → P (onto (replying lane reply h) h)
replying_both P lane reply h x y = go (ends_lane lane reply.status h)
  where
    go : (b : Bool) → P (onto (says_by lane reply b) h)
    go true = y
    go false = x
