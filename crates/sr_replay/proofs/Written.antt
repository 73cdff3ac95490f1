-- What an end writes on its link makes of what a replay keeps of it.
use Rattle.std.proofs.Common.{◌≡◌, ℕ, List, [], ◌∷◌, ◌++◌, length, Option, Some, None, refl, sym, ap, ◌∙◌, subst, append_assoc, append-nil, ⊎_elim, inr, zero-le}
use Rattle.std.specs.Prelude.{slice_get, option_map}
use Rattle.hd_delivery.specs.Frames.{LinkFrame}
use Rattle.hd_delivery.specs.Histories as of
use Rattle.hd_delivery.specs.Histories.{Lent, present_link, was_on, fed_frames, taken_count, codec_of, is_closed}
use Rattle.hd_delivery.specs.Due.{due, due_on}
use Rattle.hd_delivery.specs.Worlds.{Limits}
use Rattle.hd_delivery.specs.Bytes.{Wire, ByteStep, Does, bytes_on, in_frames, lent_bytes}
use Rattle.hd_delivery.specs.OneHistory.{IsHistory}
use Rattle.sr_script.specs.declared.action.Count.{Count}
use Rattle.sr_script.specs.declared.action.Count.TheVariants.{UpTo, Everything}
use Rattle.sr_replay.specs.declared.player.Player.{Player}
use Rattle.hd_delivery.specs.AloneLaws.{LentComesLast, LentStays}
use Rattle.hd_delivery.specs.Following.{Next, Follow, FollowUpTo}
use Rattle.hd_delivery.specs.Alone.{writing}
use Rattle.sr_replay.specs.Plays.{Plays, limits_at}
use Rattle.hd_delivery.specs.Alone.{lent_text}
use Rattle.sr_replay.specs.Follows.{IsPlayed}
use Rattle.sr_script.specs.Script.{most_of}

-- each of these steps says a frame
abbrev pub AreLent : List ByteStep → Type 0
AreLent [] = Unit {0}
AreLent (Does (Lent f) ∷ ss) = AreLent ss
AreLent (s ∷ ss) = ⊥

one_lent : (o : Option LinkFrame) (s : ByteStep) (ss : List ByteStep) → option_map (λ f. Does (Lent f)) o ≡ Some s → AreLent ss → AreLent (s ∷ ss)
one_lent None s ss e a = absurd (cc)
one_lent (Some f) s ss e a = let e' : Does (Lent f) ≡ s = cc in subst (λ s. AreLent (s ∷ ss)) e' a

pub are_lent : (wire : Wire) (c : of.Config) (h ss : List ByteStep) → Follow (writing wire c) h ss → AreLent ss
are_lent wire c h [] f = tt
are_lent wire c h (s ∷ ss) f = one_lent (due c (in_frames wire c (ss ++ h))) s ss f.1 (are_lent wire c h ss f.0)

pub follow_of : (count : Count) (next : Next ByteStep) (h ss : List ByteStep) → FollowUpTo (most_of count) next h ss → Follow next h ss
follow_of Everything next h ss f = f.0
follow_of (UpTo n) next h ss f = ⊎_elim (λ a. a.0) (λ b. b.0.0) f

-- what saying a frame doesn't change
unmoved : {A : Type 0} (F : List ByteStep → A) → ((f : LinkFrame) (x : List ByteStep) → F (Does (Lent f) ∷ x) ≡ F x) → (h ss : List ByteStep) → AreLent ss → F (ss ++ h) ≡ F h
unmoved F step h [] a = refl
unmoved F step h (Does (Lent f) ∷ ss) a = step f (ss ++ h) ∙ unmoved F step h ss a
unmoved F step h (s ∷ ss) a = absurd a

pub same_link : (wire : Wire) (c : of.Config) (h ss : List ByteStep) → AreLent ss → present_link (in_frames wire c (ss ++ h)) ≡ present_link (in_frames wire c h)
same_link wire c = unmoved (λ x. present_link (in_frames wire c x)) (λ f x. refl)

pub same_names : (wire : Wire) (c : of.Config) (l : ℕ) (h ss : List ByteStep) → AreLent ss → was_on l (in_frames wire c (ss ++ h)) ≡ was_on l (in_frames wire c h)
same_names wire c l = unmoved (λ x. was_on l (in_frames wire c x)) (λ f x. refl)

pub writes : (limits : Limits) (wire : Wire) (c : of.Config) (p x : Player) (place : ℕ) (h ss : List ByteStep) → IsPlayed limits wire c p place h → limits_at x ≡ limits_at p
    → AreLent ss → Plays wire c x (ss ++ h) → IsPlayed limits wire c x place (ss ++ h)
writes limits wire c p x place h ss was same lent plays = record {
  plays = plays;
  keeps = same ∙ was.keeps;
  took_all = λ l at live. unmoved (λ x. slice_get (fed_frames l (in_frames wire c x)) (taken_count l (in_frames wire c x))) (λ f x. refl) h ss lent
      ∙ was.took_all l (sym (same_link wire c h ss lent) ∙ at) (sym (unmoved (λ x. is_closed c (in_frames wire c x)) (λ f x. refl) h ss lent) ∙ live);
  read_to = λ l at live. was.read_to l (sym (same_link wire c h ss lent) ∙ at) (sym (unmoved (λ x. is_closed c (in_frames wire c x)) (λ f x. refl) h ss lent) ∙ live)
      ∙ ap length (sym (unmoved (bytes_on l) (λ f x. refl) h ss lent));
}

-- on its link the end said this
pub said_here : LentComesLast → (wire : Wire) (c : of.Config) (l : ℕ) (h ss : List ByteStep) → present_link (in_frames wire c h) ≡ Some l → AreLent ss
    → lent_bytes wire c l (ss ++ h) ≡ lent_bytes wire c l h ++ lent_text wire c h ss
said_here last wire c l h [] at lent = sym (append-nil (lent_bytes wire c l h))
said_here last wire c l h (Does (Lent f) ∷ ss) at lent =
    last wire c (ss ++ h) l f (same_link wire c h ss lent ∙ at)
    ∙ ap (λ x. x ++ wire.spell (codec_of c (in_frames wire c (ss ++ h))) f) (said_here last wire c l h ss at lent)
    ∙ append_assoc (lent_bytes wire c l h) (lent_text wire c h ss) (wire.spell (codec_of c (in_frames wire c (ss ++ h))) f)
said_here last wire c l h (s ∷ ss) at lent = absurd lent

-- and elsewhere nothing
pub said_elsewhere : LentStays → (limits : Limits) (wire : Wire) (c : of.Config) (l j : ℕ) (h ss : List ByteStep) → present_link (in_frames wire c h) ≡ Some l → (l ≡ j → ⊥) → AreLent ss
    → IsHistory limits wire c (ss ++ h) → lent_bytes wire c j (ss ++ h) ≡ lent_bytes wire c j h
said_elsewhere stays limits wire c l j h [] at apart lent i = refl
said_elsewhere stays limits wire c l j h (Does (Lent f) ∷ ss) at apart lent i =
    stays limits wire c (ss ++ h) (Does (Lent f)) j i (λ g e there. let both_ : Some l ≡ Some j = sym (same_link wire c h ss lent ∙ at) ∙ there in let e' : l ≡ j = cc in apart e')
    ∙ said_elsewhere stays limits wire c l j h ss at apart lent i.0
said_elsewhere stays limits wire c l j h (s ∷ ss) at apart lent i = absurd lent

-- without a link nothing is written
pub none_written : (count : Count) (wire : Wire) (c : of.Config) (h : List ByteStep) → present_link (in_frames wire c h) ≡ None → FollowUpTo (most_of count) (writing wire c) h []
none_written Everything wire c h at = (tt, ap (option_map (λ f. Does (Lent f))) (ap (due_on c (in_frames wire c h)) at))
none_written (UpTo n) wire c h at = inr ((tt, ap (option_map (λ f. Does (Lent f))) (ap (due_on c (in_frames wire c h)) at)), zero-le)
