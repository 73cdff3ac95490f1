-- What a reply says, to a request on whose lane nobody is.
use Rattle.std.proofs.Common.{◌≡◌, ℕ, Bool, true, false, List, [], ◌∷◌, ◌++◌, refl, sym, ap, subst, ◌∙◌}
use Rattle.std.specs.Prelude.{◌==◌, not, ◌&&◌, ◌||◌}
use Rattle.std.proofs.lemmas.List.{append_assoc}
use Rattle.hw_lanes.specs.declared.http.Reply.{Reply}
use Rattle.hd_calls.specs.Hubs.{Hub}
use Rattle.hd_server.specs.declared.vocabulary.Said.{Said}
use Rattle.hd_server.specs.declared.vocabulary.Said.TheVariants as say
use Rattle.hd_server.specs.Doings.{ServerEvent, Says, wants_shut}
use Rattle.hd_server.specs.Plans.{Setup, ends_lane, onto, replying}
use Rattle.hub_server.specs.declared.server.Server.{Server}
use Rattle.hub_server.specs.Words.{reply_and_end}
use Rattle.hub_server.specs.Lanes.{Unsettled}
use Rattle.hub_server.specs.Servers.{Standing}
use Rattle.hub_server.specs.Steps.{HasCome}
use Rattle.hub_server.proofs.Answering.{says_by}
use Rattle.hub_server.proofs.LaneKept.{standing_replies, standing_shuts}

-- the lane is shut after it
abbrev pub ends : ℕ → Bool → Bool
ends status is_last = (status == 400) || (not (status == 101) && is_last)

and_yes : (b : Bool) → b ≡ (b && true)
and_yes true = refl
and_yes false = refl

pub ends_come : (lane : ℕ) (is_last : Bool) (status : ℕ) (h : List ServerEvent) → HasCome lane is_last h → ends status is_last ≡ ends_lane lane status h
ends_come lane is_last status h come =
    ap (λ (w : Bool). ends status w) come.last ∙ and_yes (ends status (wants_shut lane h))
    ∙ ap (λ (b : Bool). ends status (wants_shut lane h) && not b) (sym come.unrefused)

module _ {H Job : Type 0} (hub : Hub Job) (s : Setup) (u : Unsettled) (before : List Said) (v : Server H Job) (lane : ℕ) (is_last : Bool)
    (reply : Reply)
    (h : List ServerEvent) (st : Standing {H = H} hub s u before v h) (come : HasCome lane is_last h) where
  said_so : (b : Bool) → Standing {H = H} hub s u before (record v { words = v.words ++ say.Reply lane (record reply { close = b }) ∷ [] })
      (Says (say.Reply lane (record reply { close = b })) ∷ h)
  said_so b = standing_replies {H = H} hub s u before v lane (record reply { close = b }) h come.nobody st

  by_end : (b : Bool) (words : List Said) → words ≡ v.words ++ reply_and_end lane reply b
      → Standing {H = H} hub s u before (record v { words = words }) (onto (says_by lane reply b) h)
  by_end false words e =
      subst (λ (w : List Said). Standing {H = H} hub s u before (record v { words = w }) (Says (say.Reply lane (record reply { close = false })) ∷ h)) (sym e)
      (said_so false)
  by_end true words e =
      let reply_now : Said = say.Reply lane (record reply { close = true }) in
      subst (λ (w : List Said). Standing {H = H} hub s u before (record v { words = w }) (Says (say.Shut lane) ∷ Says reply_now ∷ h))
      (append_assoc v.words (reply_now ∷ []) (say.Shut lane ∷ []) ∙ sym e)
      (standing_shuts {H = H} hub s u before (record v { words = v.words ++ reply_now ∷ [] }) lane (Says reply_now ∷ h) (said_so true))

  -- the reply is said, and its lane is shut after it or isn't
  pub replied : (words : List Said) → words ≡ v.words ++ reply_and_end lane reply (ends reply.status is_last)
      → Standing {H = H} hub s u before (record v { words = words }) (onto (replying lane reply h) h)
  replied words e =
      subst (λ (b : Bool). Standing {H = H} hub s u before (record v { words = words }) (onto (says_by lane reply b) h))
      (ends_come lane is_last reply.status h come) (by_end (ends reply.status is_last) words e)
