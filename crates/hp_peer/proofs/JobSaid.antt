-- What is said for a job: it is sent, or it can't be framed.
use Rattle.std.proofs.Common.{◌≡◌, ◌≤◌, ℕ, Bool, true, false, List, [], ◌∷◌, Some, None, refl, sym, ap, ◌∙◌, subst}
use Rattle.std.specs.HashMap.{get}
use Rattle.std.specs.Prelude.{nat_eq, option_map, if◌then◌else◌}
use Rattle.hm_message.specs.declared.message.Codec.{Codec}
use Rattle.hm_message.specs.declared.message.Codec.TheVariants.{Json, Pack}
use Rattle.hm_message.specs.declared.message.Message.{Message}
use Rattle.hm_message.specs.declared.message.Message.TheVariants.{Completion}
use Rattle.hm_message.specs.Laws.{ImageIsAsDeep}
use Rattle.hm_codec.specs.Frames.{said_again}
use Rattle.hd_delivery.specs.Histories.{Sent}
use Rattle.hd_delivery.specs.Worlds.{Limits}
use Rattle.hd_delivery.specs.Bytes.{ByteStep, Does}
use Rattle.he_end.specs.Stands as of_end
use Rattle.hd_calls.specs.Hubs.{Hub, End, answer_message}
use Rattle.hd_calls.specs.Laws.{FramesAreTested}
use Rattle.hd_calls.specs.Peers.{PeerEvent, Settings, add, byte_steps, can_frame, codec, too_long}
use Rattle.hp_peer.specs.declared.errors.AskError.TheVariants as ask
use Rattle.hp_peer.specs.declared.peer.Peer.{Peer}
use Rattle.hp_peer.specs.Parts.{EndStays, HasSaid, IsUnsaid}
use Rattle.hp_peer.specs.Stands.{OfEach, Stands}
use Rattle.hp_peer.specs.Turning.{IsAnswered, IsSaid, word_step}
use Rattle.hp_peer.proofs.Images.{fits_before}
use Rattle.hp_peer.proofs.JobMoves.{same_moves}

-- ---- a message that is said, if it can be framed

not_true : (b : Bool) → (b ≡ true → ⊥) → b ≡ false
not_true true f = absurd (f refl)
not_true false f = refl

module _ {H Job : Type 0} (hub : Hub Job) (tested : FramesAreTested) (t : Settings) (h : List PeerEvent) (p : Peer H Job) (s : Stands {H = H} hub t p h) (q : Peer H Job) (m : Message) where
  abbrev read : Message
  read = said_again (codec t h) m

  pub is_said : HasSaid {H = H} {Job = Job} p q m → IsSaid {H = H} {Job = Job} t h q m true
  is_said x =
      let y = x.sends t.wire t.config (byte_steps t h) s.end in (
        (tested t (codec t h) read).1 (record {
          fits = y.0.can_be.fits;
          short = subst (λ (l : Limits). t.wire.frame_size (codec t h) read ≤ l.frame) (sym s.limits) y.0.can_be.short;
        }),
        y.2,
      )

  pub is_too_deep : ImageIsAsDeep → IsUnsaid p.end m ask.TooDeep → EndStays p.end q.end → IsSaid {H = H} {Job = Job} t h q m false
  is_too_deep law deep stays = (
    not_true (can_frame t (codec t h) read) (λ e. let can = (tested t (codec t h) read).0 e in deep (fits_before law (codec t h) m read refl can.fits)),
    stays t.wire t.config (byte_steps t h) s.end,
  )

-- ---- the last word

word_again : (code : Codec) (i : List ℕ) → said_again code (Completion [] i too_long) ≡ Completion [] i too_long
word_again Json i = refl
word_again Pack i = refl

module _ {H Job : Type 0} (t : Settings) (h : List PeerEvent) (q : Peer H Job) (i : List ℕ) where
  by_test : (b : Bool) (k : List ByteStep) → (b ≡ true → of_end.Stands t.wire t.config q.end (Does (Sent (Completion [] i too_long)) ∷ k)) → (b ≡ false → of_end.Stands t.wire t.config q.end k)
      → of_end.Stands t.wire t.config q.end (add (option_map (λ m. Does (Sent m)) (option_map (answer_message i) (if b then Some (End too_long) else None))) k)
  by_test true k said unsaid = said refl
  by_test false k said unsaid = unsaid refl

  word_said : (said : Bool) → IsSaid {H = H} {Job = Job} t h q (Completion [] i too_long) said → of_end.Stands t.wire t.config q.end (add (word_step t h i) (byte_steps t h))
  word_said true x =
      let can : can_frame t (codec t h) (Completion [] i too_long) ≡ true = subst (λ m. can_frame t (codec t h) m ≡ true) (word_again (codec t h) i) x.0 in
      by_test (can_frame t (codec t h) (Completion [] i too_long)) (byte_steps t h)
      (λ e. subst (λ m. of_end.Stands t.wire t.config q.end (Does (Sent m) ∷ byte_steps t h)) (word_again (codec t h) i) x.1)
      (λ e. absurd (cc))
  word_said false x =
      let cannot : can_frame t (codec t h) (Completion [] i too_long) ≡ false = subst (λ m. can_frame t (codec t h) m ≡ false) (word_again (codec t h) i) x.0 in
      by_test (can_frame t (codec t h) (Completion [] i too_long)) (byte_steps t h)
      (λ e. absurd (cc))
      (λ e. x.1)

-- ---- an answer, or the last word

module _ {H Job : Type 0} (hub : Hub Job) (t : Settings) (h : List PeerEvent) (p : Peer H Job) (s : Stands {H = H} hub t p h) (q : Peer H Job) (is : q ≡ record p { end = q.end }) (limits : of_end.limits_of q.end ≡ of_end.limits_of p.end) where
  -- the peer stands for the same moves if its end does
  still : of_end.Stands t.wire t.config q.end (byte_steps t h) → Stands {H = H} hub t q h
  still end =
      same_moves {H = H} hub t h p s q limits end (ap (λ (x : Peer H Job). x.calls) is) (ap (λ (x : Peer H Job). x.jobs) is) (ap (λ (x : Peer H Job). x.who) is)
      (ap (λ (x : Peer H Job). x.waiting) is) (λ n. ap (λ (x : Peer H Job). get nat_eq x.jobs_by_call n) is)

  pub worded : (r : Peer H Job) (m : Message) → IsSaid {H = H} {Job = Job} t h q m false → (i : List ℕ) (word : Message) → word ≡ Completion [] i too_long → (said : Bool)
      → OfEach {H = H} hub q (λ t h. IsSaid {H = H} {Job = Job} t h r word said) → IsAnswered {H = H} {Job = Job} t h r i m false
  worded r m unsaid i word word_is said ok =
      (unsaid.0, word_said {H = H} {Job = Job} t h r i said (subst (λ w. IsSaid {H = H} {Job = Job} t h r w said) word_is (ok t h (still unsaid.1))))
