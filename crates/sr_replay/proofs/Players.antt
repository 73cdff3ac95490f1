-- How an end of a replay goes on standing for its history at the calls that make at most one step.
use Rattle.std.proofs.Common.{inl, inr, ◌≡◌, ◌⊎◌, ℕ, Bool, true, false, not, ◌&&◌, List, ◌∷◌, ◌++◌, Option, Some, None, is_some, refl, sym, subst, append_assoc}
use Rattle.hm_message.specs.declared.message.Message.{Message}
use Rattle.hd_delivery.specs.declared.vocabulary.Reason.TheVariants.{Done}
use Rattle.hd_delivery.specs.Histories as of
use Rattle.hd_delivery.specs.Histories.{EndEvent, Attached, Detached, Closed, present_link, first_link, is_resumable, is_closed}
use Rattle.hd_delivery.specs.Worlds.{Limits, MayBegin}
use Rattle.hd_delivery.specs.Sending as refusal
use Rattle.hd_delivery.specs.Sending.{SendRefusal, IsRefusedToSend}
use Rattle.hd_delivery.specs.Bytes.{Wire, ByteStep, Does, in_frames, sizes_of}
use Rattle.he_end.specs.declared.end.End.{End}
use Rattle.he_end.specs.declared.session.AttachError.TheVariants as attach
use Rattle.he_end.specs.declared.errors.SendError.{SendError}
use Rattle.he_end.specs.declared.errors.SendError.TheVariants as send
use Rattle.he_end.specs.Calls.{refusal_of}
use Rattle.he_end.specs.Stands.{Stands}
use Rattle.he_end.specs.Words.{attach_words, send_words}
use Rattle.sr_replay.specs.declared.player.Player.{Player}
use Rattle.sr_replay.specs.Runs.{Makes, Refuses, steps_of, attaching, losing, closing}
use Rattle.sr_lines.specs.Lines.{refusal_words}
use Rattle.sr_replay.specs.Plays.{Plays}

-- ---- a link

granted_is : (o : Option ℕ) (kept : Bool) → (o ≡ None) ⊎ (kept ≡ true) → (is_some o && not kept) ≡ false
granted_is None kept h = refl
granted_is (Some l) true h = refl
granted_is (Some l) false (inl e) = absurd (cc)
granted_is (Some l) false (inr e) = absurd (cc)

refused_is : (o : Option ℕ) (kept : Bool) → (o ≡ None → ⊥) → kept ≡ false → (is_some o && not kept) ≡ true
refused_is None kept some e = absurd (some refl)
refused_is (Some l) true some e = absurd (cc)
refused_is (Some l) false some e = refl

module _ (c : of.Config) (k : List EndEvent) (l now : ℕ) where
  pub attaches : MayBegin c k l now → attaching c k l now ≡ Makes (Does (Attached l now))
  attaches may = rw (may.unclosed, granted_is (first_link k) (is_resumable c k) may.granted) refl

  pub closed_refuses : is_closed c k ≡ true → attaching c k l now ≡ Refuses (attach_words attach.Closed)
  closed_refuses over = rw over refl

  pub plain_refuses : is_closed c k ≡ false → is_resumable c k ≡ false → (first_link k ≡ None → ⊥) → attaching c k l now ≡ Refuses (attach_words attach.NotGranted)
  plain_refuses live plain had = rw (live, refused_is (first_link k) (is_resumable c k) had plain) refl

-- ---- the end with another end inside, and on another link

module _ (wire : Wire) (c : of.Config) (p : Player) (h : List ByteStep) (plays : Plays wire c p h) (e : End) where
  pub plays_on : (link : Option ℕ) (s : ByteStep) → Stands wire c e (s ∷ h) → link ≡ present_link (in_frames wire c (s ∷ h)) → Plays wire c (record p { end = e; link = link }) (s ∷ h)
  plays_on link s stands is = record { stands = stands; side_is = plays.side_is; link_is = is }

  pub same_end : e ≡ p.end → Plays wire c (record p { end = e }) h
  same_end is = subst (λ x. Plays wire c (record p { end = x }) h) (sym is) plays

  pub stands_still : Stands wire c e h → Plays wire c (record p { end = e }) h
  stands_still stands = record { stands = stands; side_is = plays.side_is; link_is = plays.link_is }

  -- a link that is there is lost
  pub loses : (now : ℕ) (o : Option ℕ) → present_link (in_frames wire c h) ≡ o
      → ((l : ℕ) → present_link (in_frames wire c h) ≡ Some l → Stands wire c e (Does (Detached now) ∷ h))
      → (present_link (in_frames wire c h) ≡ None → e ≡ p.end)
      → Plays wire c (record p { end = e; link = None }) (steps_of (losing (in_frames wire c h) now) ++ h)
  loses now None at left same =
      rw at (record { stands = subst (λ x. Stands wire c x h) (sym (same at)) plays.stands; side_is = plays.side_is; link_is = sym at })
  loses now (Some l) at left same = rw at (record { stands = left l at; side_is = plays.side_is; link_is = refl })

  -- an end that isn't closed is closed
  pub closes : (b : Bool) → is_closed c (in_frames wire c h) ≡ b
      → (is_closed c (in_frames wire c h) ≡ false → Stands wire c e (Does (Closed Done false) ∷ h))
      → (is_closed c (in_frames wire c h) ≡ true → e ≡ p.end)
      → Plays wire c (record p { end = e }) (steps_of (closing c (in_frames wire c h)) ++ h)
  closes true over left same = rw over (same_end (same over))
  closes false live left same = rw live (record { stands = left live; side_is = plays.side_is; link_is = plays.link_is })

-- ---- a message

-- it is refused for this reason, if there is one
abbrev RefusesWith : Limits → Wire → of.Config → List EndEvent → Message → Option SendRefusal → Type 0
RefusesWith limits wire c k read None = Unit {0}
RefusesWith limits wire c k read (Some why) = IsRefusedToSend limits (sizes_of wire) c k read why

-- the words of a refusal are those of the call's answer
same_words : (e : SendError) (why : SendRefusal) → refusal_of e ≡ Some why → refusal_words why ≡ send_words e
same_words send.Opening why is = let j : refusal.Opening ≡ why = cc in rw (← j) refl
same_words send.Closed why is = let j : refusal.Closed ≡ why = cc in rw (← j) refl
same_words (send.TooLong size) why is = let j : refusal.TooLong size ≡ why = cc in rw (← j) refl
same_words (send.Full held bytes size) why is = let j : refusal.Full held bytes size ≡ why = cc in rw (← j) (simp append_assoc)
same_words send.Exhausted why is = let j : refusal.Exhausted ≡ why = cc in rw (← j) refl
same_words send.NoMemory why is = absurd (cc)

-- why a message isn't sent, if memory doesn't lack
pub why_not : (limits : Limits) (wire : Wire) (c : of.Config) (k : List EndEvent) (read : Message) (e : SendError) → RefusesWith limits wire c k read (refusal_of e)
    → (e ≡ send.NoMemory → ⊥) → (why : SendRefusal) × (IsRefusedToSend limits (sizes_of wire) c k read why × (refusal_words why ≡ send_words e))
why_not limits wire c k read send.Opening is some = (refusal.Opening, (is, same_words send.Opening refusal.Opening refl))
why_not limits wire c k read send.Closed is some = (refusal.Closed, (is, same_words send.Closed refusal.Closed refl))
why_not limits wire c k read (send.TooLong size) is some = (refusal.TooLong size, (is, same_words (send.TooLong size) (refusal.TooLong size) refl))
why_not limits wire c k read (send.Full held bytes size) is some =
    (refusal.Full held bytes size, (is, same_words (send.Full held bytes size) (refusal.Full held bytes size) refl))
why_not limits wire c k read send.Exhausted is some = (refusal.Exhausted, (is, same_words send.Exhausted refusal.Exhausted refl))
why_not limits wire c k read send.NoMemory is some = absurd (some refl)
