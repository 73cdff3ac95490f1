-- The moments that a peer is told.
use Rattle.std.proofs.Common.{⊎_elim, ◌≡◌, ℕ, ◌≤◌, Bool, true, false, not, ◌&&◌, List, [], ◌∷◌, ◌++◌, codes, Option, Some, None, is_some, sym, subst, arith, if◌then◌else◌}
use Rattle.std.specs.Prelude.{option_map}
use Rattle.hm_message.specs.declared.message.Message.{Message}
use Rattle.hd_delivery.specs.declared.vocabulary.Reason.{Reason}
use Rattle.hd_delivery.specs.declared.vocabulary.Reason.TheVariants.{Done}
use Rattle.hd_delivery.specs.Frames.{LinkFrame}
use Rattle.hd_delivery.specs.Histories as of
use Rattle.hd_delivery.specs.Histories.{EndEvent, Attached, Detached, Took, Failed, Sent, Lent, Ticked, Silenced, Closed, present_link, first_link, is_resumable, is_shaken, is_silence}
use Rattle.hd_delivery.specs.Due.{due}
use Rattle.hd_delivery.specs.Bytes.{ByteStep, Bytes, Does, in_frames}
use Rattle.hd_delivery.specs.Following.{Follow}
use Rattle.hd_delivery.specs.Alone.{writing, IsOfFrame}
use Rattle.hd_delivery.specs.AloneLaws.{FramesAreTaken}
use Rattle.hd_calls.specs.Peers.{PeerEvent, Plain, Calls, Uploads, Cancels, Reads, Handles, Runs, Answers, Refuses, Loses, Rounds, Settings, add, byte_steps, steps, is_shut, reason_of, shuts}
use Rattle.hd_calls.specs.Rules.{CallRefusal}
use Rattle.hp_peer.specs.Turning.{AreTurns}
use Rattle.sr_peers.specs.Doings as did
use Rattle.sr_peers.specs.Doings.{Doing, Makes, moves_of, Chain, Losing, WithLosses, Reading, attaching, leaving, closing, ticking, lifted, Writes, ReadsTo, IsDone, IsRound}
use Rattle.sr_peers.proofs.Keeping.{both}
use Rattle.sr_peers.proofs.Saying.{follow_of}

-- ---- moments that aren't late

-- the step is told no moment, or none that is late
abbrev IsInTime : ℕ → EndEvent → Type 0
IsInTime now (Attached l m) = m ≤ now
IsInTime now (Detached m) = m ≤ now
IsInTime now (Ticked m) = m ≤ now
IsInTime now (Silenced m) = m ≤ now
IsInTime now s = Unit {0}

-- nor are these moves
abbrev pub AreInTime : ℕ → List PeerEvent → Type 0
AreInTime now [] = Unit {0}
AreInTime now (Plain (Does s) ∷ ds) = AreInTime now ds × IsInTime now s
AreInTime now (d ∷ ds) = AreInTime now ds

module _ (now : ℕ) where
  step_in_time : (k : List EndEvent) (s : EndEvent) → IsInTime now s → of.moment k ≤ now → of.moment (s ∷ k) ≤ now
  step_in_time k (Attached l m) e f = omega (arith, e, f)
  step_in_time k (Detached m) e f = omega (arith, e, f)
  step_in_time k (Ticked m) e f = omega (arith, e, f)
  step_in_time k (Silenced m) e f = omega (arith, e, f)
  step_in_time k s e f = f

  module _ (t : Settings) (x : List ByteStep) (f : of.moment (in_frames t.wire t.config x) ≤ now) where
    shut_in_time : (shut : Bool) (o : Option Reason) → of.moment (in_frames t.wire t.config (add (shuts shut o) x)) ≤ now
    shut_in_time true None = f
    shut_in_time true (Some why) = f
    shut_in_time false None = f
    shut_in_time false (Some why) = f

    sent_in_time : (o : Option Message) → of.moment (in_frames t.wire t.config (add (option_map (λ m. Does (Sent m)) o) x)) ≤ now
    sent_in_time None = f
    sent_in_time (Some m) = f

  -- so no moment of theirs is late if none before was
  pub moments : (t : Settings) (h ds : List PeerEvent) → AreInTime now ds → of.moment (steps t h) ≤ now → of.moment (steps t (ds ++ h)) ≤ now
  moments t h [] e f = f
  moments t h (Plain (Bytes piece) ∷ ds) e f = moments t h ds e f
  moments t h (Plain (Does s) ∷ ds) e f = step_in_time (steps t (ds ++ h)) s e.1 (moments t h ds e.0 f)
  moments t h (Calls a n c ∷ ds) e f = moments t h ds e f
  moments t h (Uploads n w a ∷ ds) e f = moments t h ds e f
  moments t h (Cancels n ∷ ds) e f = moments t h ds e f
  moments t h (Reads m ∷ ds) e f = moments t h ds e f
  moments t h (Handles m x ∷ ds) e f = shut_in_time t (byte_steps t (ds ++ h)) (moments t h ds e f) (is_shut t (ds ++ h)) (reason_of x)
  moments t h (Runs j c since turn what ∷ ds) e f = sent_in_time t (byte_steps t (ds ++ h)) (moments t h ds e f) _
  moments t h (Answers j i ∷ ds) e f = moments t h ds e f
  moments t h (Refuses j ∷ ds) e f = moments t h ds e f
  moments t h (Loses n ∷ ds) e f = moments t h ds e f
  moments t h (Rounds ∷ ds) e f = moments t h ds e f

  -- ---- doings

  gone_in_time : (t : Settings) (k gone ds : List PeerEvent) → Chain (Losing t) k gone → AreInTime now ds → AreInTime now (gone ++ ds)
  gone_in_time t k [] ds f e = e
  gone_in_time t k (Loses n ∷ gone) ds f e = gone_in_time t k gone ds f.0 e
  gone_in_time t k (d ∷ gone) ds f e = absurd f.1

  pub losses_in_time : (t : Settings) (h ds new : List PeerEvent) → WithLosses t h ds new → AreInTime now ds → AreInTime now new
  losses_in_time t h ds new f e = subst (AreInTime now) (sym f.1.1) (gone_in_time t (ds ++ h) f.0 ds f.1.0.0 e)

  pub leaves_in_time : (t : Settings) (h : List PeerEvent) (m : ℕ) → m ≤ now → AreInTime now (leaving t h m)
  leaves_in_time t h m e = both (AreInTime now) (is_some (present_link (steps t h))) (Plain (Does (Detached m)) ∷ []) [] (tt, e) tt

  pub closes_in_time : (t : Settings) (h : List PeerEvent) → AreInTime now (closing t h)
  closes_in_time t h = both (AreInTime now) (is_shut t h) [] (Plain (Does (Closed Done false)) ∷ []) tt (tt, tt)

  pub ticks_in_time : (t : Settings) (h : List PeerEvent) (m : ℕ) → m ≤ now → AreInTime now (ticking t h m)
  ticks_in_time t h m e = both (λ s. AreInTime now (Plain (Does s) ∷ [])) (is_silence t.config m (steps t h)) (Silenced m) (Ticked m) (tt, e) (tt, e)

  pub done_in_time : (d : PeerEvent) (Refused : CallRefusal → Type 0) (doing : Doing) → AreInTime now (d ∷ []) → IsDone d Refused doing → AreInTime now (moves_of (doing ∷ []))
  done_in_time d Refused doing e f =
      ⊎_elim (λ is. subst (λ x. AreInTime now (moves_of (x ∷ []))) (sym is) e) (λ r. subst (λ x. AreInTime now (moves_of (x ∷ []))) (sym r.1.1) tt) f

  turns_in_time : (m : ℕ) (ds : List PeerEvent) → AreTurns m ds → AreInTime now (ds ++ Rounds ∷ [])
  turns_in_time m [] a = tt
  turns_in_time m (Runs j c since turn what ∷ ds) a = turns_in_time m ds a.2
  turns_in_time m (Calls (Some j) n c ∷ ds) a = turns_in_time m ds a
  turns_in_time m (Refuses j ∷ ds) a = turns_in_time m ds a
  turns_in_time m (_ ∷ ds) a = absurd a

  pub rounds_in_time : (t : Settings) (h : List PeerEvent) (m : ℕ) (ds : List PeerEvent) → IsRound t h m ds → AreInTime now ds
  rounds_in_time t h m ds r = subst (AreInTime now) (sym r.is) (turns_in_time m r.turns r.are_turns)

  pub attach_in_time : (t : Settings) (h : List PeerEvent) (link m : ℕ) → m ≤ now → AreInTime now (moves_of (attaching t h link m ∷ []))
  attach_in_time t h link m e =
      both (λ x. AreInTime now (moves_of (x ∷ []))) (is_shut t h) (did.Refuses (codes "Closed"))
      (if is_some (first_link (steps t h)) && not (is_resumable t.config (steps t h)) then did.Refuses (codes "NotGranted") else Makes (Plain (Does (Attached link m)))) tt
      (both (λ x. AreInTime now (moves_of (x ∷ []))) (is_some (first_link (steps t h)) && not (is_resumable t.config (steps t h))) (did.Refuses (codes "NotGranted")) (Makes (Plain (Does (Attached link m)))) tt (tt, e))

  one_written : (s : ByteStep) (ds : List PeerEvent) (o : Option LinkFrame) → option_map (λ f. Does (Lent f)) o ≡ Some s → AreInTime now ds → AreInTime now (Plain s ∷ ds)
  one_written s ds None e i = absurd (cc)
  one_written s ds (Some f) e i = let q : Does (Lent f) ≡ s = cc in subst (λ s. AreInTime now (Plain s ∷ ds)) q (i, tt)

  all_written : (t : Settings) (h ss : List ByteStep) → Follow (writing t.wire t.config) h ss → AreInTime now (lifted ss)
  all_written t h [] f = tt
  all_written t h (s ∷ ss) f = one_written s (lifted ss) (due t.config (in_frames t.wire t.config (ss ++ h))) f.1 (all_written t h ss f.0)

  pub writes_in_time : (t : Settings) (h : List PeerEvent) (most : Option ℕ) (ds : List PeerEvent) → Writes t h most ds → AreInTime now ds
  writes_in_time t h most ds f =
      subst (AreInTime now) (sym f.1.1) (all_written t (byte_steps t h) f.0 (follow_of most (writing t.wire t.config) (byte_steps t h) f.0 f.1.0))

  frame_in_time : (shaken : Bool) (s : EndEvent) (ds : List PeerEvent) → IsOfFrame shaken s → AreInTime now ds → AreInTime now (Plain (Does s) ∷ ds)
  frame_in_time shaken (Took got) ds is e = (e, tt)
  frame_in_time shaken (Failed fault) ds is e = (e, tt)
  frame_in_time shaken s ds is e = absurd is

  module _ (taken : FramesAreTaken) (t : Settings) (m : ℕ) (bytes : List ℕ) where
    one_read : (h : List PeerEvent) (d : PeerEvent) (ds : List PeerEvent) → Reading t m bytes h (Some d) → AreInTime now ds → AreInTime now (d ∷ ds)
    one_read h (Plain (Bytes piece)) ds f e = e
    one_read h (Plain (Does s)) ds f e = frame_in_time (is_shaken (steps t h)) s ds (taken t.config (steps t h) s f.2) e
    one_read h (Reads r) ds f e = e
    one_read h (Handles r x) ds f e = e
    one_read h d ds f e = absurd f

    all_read : (h ds : List PeerEvent) → Chain (Reading t m bytes) h ds → AreInTime now ds
    all_read h [] f = tt
    all_read h (d ∷ ds) f = one_read (ds ++ h) d ds f.1 (all_read h ds f.0)

    pub reads_in_time : (h new : List PeerEvent) → ReadsTo t h m bytes new → AreInTime now new
    reads_in_time h new f = losses_in_time t h f.0 new f.1.1 (all_read h f.0 f.1.0.0)
