-- What an end of a replay takes, and the line of it.
use Rattle.std.proofs.Common.{◌≡◌, ℕ, suc, true, List, [], ◌∷◌, ◌++◌, length, Some, None, option_map, refl, sym, ap, ◌∙◌, arith, append_assoc, length-append}
use Rattle.hd_delivery.specs.declared.vocabulary.Got.{Got}
use Rattle.hd_delivery.specs.declared.vocabulary.Got.TheVariants as gives
use Rattle.hd_delivery.specs.declared.vocabulary.Why.TheVariants.{Duplicate, Unknown, BeforeSequence, NotUsed}
use Rattle.hd_delivery.specs.Histories as of
use Rattle.hd_delivery.specs.Histories.{EndEvent, Took, Failed, Fault, Unread, Shake, Gap, AckBeyond, processed_messages}
use Rattle.hd_delivery.specs.Processes.{processes}
use Rattle.hd_delivery.specs.Bytes.{Wire, ByteStep, Does, in_frames}
use Rattle.he_end.specs.declared.end.End.{End}
use Rattle.he_end.specs.declared.errors.NextError.{NextError}
use Rattle.he_end.specs.declared.errors.NextError.TheVariants as next
use Rattle.he_end.specs.Calls.{fault_of, FailsBy}
use Rattle.he_end.specs.Stands.{Stands}
use Rattle.he_end.specs.Words.{next_words}
use Rattle.sr_replay.specs.declared.player.Player.{Player}
use Rattle.sr_notation.specs.Words.{got_words}
use Rattle.sr_lines.specs.Lines.{fault_words}
use Rattle.hd_delivery.specs.Alone.{taking}
use Rattle.sr_replay.specs.declared.text_kind.TextKind.{TextKind}
use Rattle.sr_replay.specs.Runs.{Makes}
use Rattle.sr_replay.specs.Told.{told_text, steps_text}
use Rattle.sr_replay.specs.Plays.{Plays, Goes}
use Rattle.sr_replay.proofs.Feeding.{with}

-- a message that was handed out has the number of all that were
same_words : (k : List EndEvent) (got : Got) → got_words (length (processed_messages (Took got ∷ k))) got ≡ got_words (suc (length (processed_messages k))) got
same_words k (gives.Message m) = ap (λ n. got_words n (gives.Message m)) (omega (arith, length-append (processed_messages k) (m ∷ [])))
same_words k (gives.Shaken codec version) = refl
same_words k (gives.Acked upto) = refl
same_words k (gives.Sequenced first) = refl
same_words k (gives.Resumed first received) = refl
same_words k gives.Ping = refl
same_words k (gives.Skipped (Duplicate n)) = refl
same_words k (gives.Skipped (Unknown n)) = refl
same_words k (gives.Skipped BeforeSequence) = refl
same_words k (gives.Skipped NotUsed) = refl
same_words k (gives.Closed None allow) = refl
same_words k (gives.Closed (Some error) allow) = refl

module _ (kind : TextKind) (wire : Wire) (c : of.Config) (p : Player) (h : List ByteStep) (plays : Plays wire c p h) (e : End) (before after : List ℕ) where
  pub goes_took : (got : Got) (number : ℕ) → (processes c (in_frames wire c h) ≡ Some (Took got)) × Stands wire c e (Does (Took got) ∷ h)
      → number ≡ length (processed_messages (in_frames wire c (Does (Took got) ∷ h)))
      → (c.side ≡ p.side → got_words number got ≡ got_words (suc (length (processed_messages (in_frames wire c h)))) got
      → after ≡ before ++ told_text kind wire c h (Makes (Does (Took got))))
      → Goes (taking wire c) (steps_text kind wire c) wire c h (with p e) before after true
  goes_took got number made is told = (
    Does (Took got),
    (
      ap (option_map Does) made.0,
      record { stands = made.1; side_is = plays.side_is; link_is = plays.link_is },
      told (sym plays.side_is) (ap (λ n. got_words n got) is ∙ same_words (in_frames wire c h) got),
    ),
  )

  failed : (fault : Fault) (words : List ℕ) → (processes c (in_frames wire c h) ≡ Some (Failed fault)) × Stands wire c e (Does (Failed fault) ∷ h)
      → words ≡ fault_words fault → ((f : Fault) → words ≡ fault_words f → after ≡ before ++ told_text kind wire c h (Makes (Does (Failed f))))
      → Goes (taking wire c) (steps_text kind wire c) wire c h (with p e) before after true
  failed fault words made is told = (
    Does (Failed fault),
    (ap (option_map Does) made.0, record { stands = made.1; side_is = plays.side_is; link_is = plays.link_is }, told fault is),
  )

  pub goes_failed : (fault : NextError) → (fault ≡ next.NoMemory → ⊥) → FailsBy wire c h e (fault_of c fault)
      → ((f : Fault) → next_words fault ≡ fault_words f → after ≡ before ++ told_text kind wire c h (Makes (Does (Failed f))))
      → Goes (taking wire c) (steps_text kind wire c) wire c h (with p e) before after true
  goes_failed (next.Frame link at why) some made told = failed (Unread link at _) (next_words (next.Frame link at why)) made (simp append_assoc) told
  goes_failed (next.Shake why) some made told = failed (Shake _ _) (next_words (next.Shake why)) made refl told
  goes_failed (next.Gap got most) some made told = failed (Gap got most) (next_words (next.Gap got most)) made (simp append_assoc) told
  goes_failed (next.AckBeyond got most) some made told = failed (AckBeyond got most) (next_words (next.AckBeyond got most)) made (simp append_assoc) told
  goes_failed next.NoMemory some made told = absurd (some refl)
