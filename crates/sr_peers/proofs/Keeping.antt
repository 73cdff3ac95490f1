-- Which doings of a peer keep to its side, and where it lends.
use Rattle.std.proofs.Common.{⊎_elim, ◌≡◌, ℕ, Bool, true, false, not, ◌&&◌, List, [], ◌∷◌, ◌++◌, codes, Option, Some, None, is_some, refl, sym, ◌∙◌, subst, if◌then◌else◌}
use Rattle.std.specs.Prelude.{option_map}
use Rattle.hd_delivery.specs.declared.vocabulary.Reason.TheVariants.{Done}
use Rattle.hd_delivery.specs.Frames.{LinkFrame}
use Rattle.hd_delivery.specs.Histories.{EndEvent, Attached, Detached, Took, Failed, Lent, Ticked, Silenced, Closed, present_link, first_link, is_resumable, is_shaken, is_silence}
use Rattle.hd_delivery.specs.Due.{due}
use Rattle.hd_delivery.specs.Bytes.{ByteStep, Bytes, Does, in_frames}
use Rattle.hd_delivery.specs.Following.{Follow}
use Rattle.hd_delivery.specs.Alone.{writing, IsOfFrame}
use Rattle.hd_delivery.specs.AloneLaws.{FramesAreTaken}
use Rattle.hd_calls.specs.Peers.{PeerEvent, Plain, Calls, Reads, Handles, Runs, Refuses, Loses, Rounds, Settings, byte_steps, steps, is_shut}
use Rattle.hd_calls.specs.Rules.{CallRefusal}
use Rattle.hp_peer.specs.Turning.{AreTurns}
use Rattle.sr_peers.specs.Doings as did
use Rattle.sr_peers.specs.Doings.{Doing, Makes, moves_of, Chain, Losing, WithLosses, Reading, attaching, leaving, closing, ticking, lifted, Writes, ReadsTo, IsDone, IsRound}
use Rattle.sr_peers.specs.Grows.{NeedNoOther, LendNothingOn, LendNothing, KeepToTheirSide}
use Rattle.sr_peers.specs.Laws.{DoingsKeep, WritesLend}
use Rattle.sr_peers.proofs.Saying.{follow_of}

-- a test, with what it says
pub both : {A : Type 0} (P : A → Type 0) (b : Bool) (x y : A) → P x → P y → P (if b then x else y)
both P true x y f g = f
both P false x y f g = g

-- ---- doings that keep to their side

-- calls that are gone
gone_keep : (t : Settings) (k gone ds : List PeerEvent) → Chain (Losing t) k gone → KeepToTheirSide ds → KeepToTheirSide (gone ++ ds)
gone_keep t k [] ds f keep = keep
gone_keep t k (Loses n ∷ gone) ds f keep = gone_keep t k gone ds f.0 keep
gone_keep t k (d ∷ gone) ds f keep = absurd f.1

losses_keep : (t : Settings) (h ds new : List PeerEvent) → WithLosses t h ds new → KeepToTheirSide ds → KeepToTheirSide new
losses_keep t h ds new f keep = subst KeepToTheirSide (sym f.1.1) (gone_keep t (ds ++ h) f.0 ds f.1.0.0 keep)

-- a move that is made, or refused
done_keeps : (d : PeerEvent) (Refused : CallRefusal → Type 0) (doing : Doing) → KeepToTheirSide (d ∷ []) → IsDone d Refused doing → KeepToTheirSide (moves_of (doing ∷ []))
done_keeps d Refused doing keep f =
    ⊎_elim (λ e. subst (λ x. KeepToTheirSide (moves_of (x ∷ []))) (sym e) keep) (λ r. subst (λ x. KeepToTheirSide (moves_of (x ∷ []))) (sym r.1.1) (tt, tt)) f

turns_keep : (now : ℕ) (ds : List PeerEvent) → AreTurns now ds → KeepToTheirSide (ds ++ Rounds ∷ [])
turns_keep now [] a = (tt, tt)
turns_keep now (Runs j c since turn what ∷ ds) a = turns_keep now ds a.2
turns_keep now (Calls (Some j) n c ∷ ds) a = turns_keep now ds a
turns_keep now (Refuses j ∷ ds) a = turns_keep now ds a
turns_keep now (_ ∷ ds) a = absurd a

pub doings_keep : DoingsKeep
doings_keep = record {
  losses = losses_keep;
  leaves = λ t h now. both KeepToTheirSide (is_some (present_link (steps t h))) (Plain (Does (Detached now)) ∷ []) [] (tt, tt) (tt, tt);
  closes = λ t h. both KeepToTheirSide (is_shut t h) [] (Plain (Does (Closed Done false)) ∷ []) (tt, tt) (tt, tt);
  ticks = λ t h now. both (λ s. KeepToTheirSide (Plain (Does s) ∷ [])) (is_silence t.config now (steps t h)) (Silenced now) (Ticked now) (tt, tt) (tt, tt);
  asks = λ t h kind target arguments uploads doing f. done_keeps _ _ doing (tt, tt) f;
  sends = λ t h n w a doing f. done_keeps _ _ doing (tt, tt) f;
  cancels = λ t h n doing f. done_keeps _ _ doing (tt, tt) f;
  rounds = λ t h now ds r. subst KeepToTheirSide (sym r.is) (turns_keep now r.turns r.are_turns);
}

-- ---- doings that lend nothing

attaches : (t : Settings) (h : List PeerEvent) (link now : ℕ) → LendNothing (moves_of (attaching t h link now ∷ []))
attaches t h link now =
    both (λ x. LendNothing (moves_of (x ∷ []))) (is_shut t h) (did.Refuses (codes "Closed"))
    (if is_some (first_link (steps t h)) && not (is_resumable t.config (steps t h)) then did.Refuses (codes "NotGranted") else Makes (Plain (Does (Attached link now)))) tt
    (both (λ x. LendNothing (moves_of (x ∷ []))) (is_some (first_link (steps t h)) && not (is_resumable t.config (steps t h))) (did.Refuses (codes "NotGranted")) (Makes (Plain (Does (Attached link now)))) tt tt)

frame_lends_none : (shaken : Bool) (s : EndEvent) (ds : List PeerEvent) → IsOfFrame shaken s → LendNothing ds → LendNothing (Plain (Does s) ∷ ds)
frame_lends_none shaken (Took got) ds is n = n
frame_lends_none shaken (Failed fault) ds is n = n
frame_lends_none shaken s ds is n = absurd is

module _ (taken : FramesAreTaken) (t : Settings) (now : ℕ) (bytes : List ℕ) where
  one_read : (h : List PeerEvent) (d : PeerEvent) (ds : List PeerEvent) → Reading t now bytes h (Some d) → LendNothing ds → LendNothing (d ∷ ds)
  one_read h (Plain (Bytes piece)) ds f n = n
  one_read h (Plain (Does s)) ds f n = frame_lends_none (is_shaken (steps t h)) s ds (taken t.config (steps t h) s f.2) n
  one_read h (Reads m) ds f n = n
  one_read h (Handles m e) ds f n = n
  one_read h d ds f n = absurd f

  all_read : (h ds : List PeerEvent) → Chain (Reading t now bytes) h ds → LendNothing ds
  all_read h [] f = tt
  all_read h (d ∷ ds) f = one_read (ds ++ h) d ds f.1 (all_read h ds f.0)

gone_lend_none : (t : Settings) (k gone ds : List PeerEvent) → Chain (Losing t) k gone → LendNothing ds → LendNothing (gone ++ ds)
gone_lend_none t k [] ds f n = n
gone_lend_none t k (Loses c ∷ gone) ds f n = gone_lend_none t k gone ds f.0 n
gone_lend_none t k (d ∷ gone) ds f n = absurd f.1

pub nowhere : (t : Settings) (l : ℕ) (h ds : List PeerEvent) → LendNothing ds → LendNothingOn t l h ds
nowhere t l h [] n = tt
nowhere t l h (Plain (Bytes piece) ∷ ds) n = nowhere t l h ds n
nowhere t l h (Plain (Does (Lent f)) ∷ ds) n = absurd n
nowhere t l h (Plain (Does s) ∷ ds) n = nowhere t l h ds n
nowhere t l h (d ∷ ds) n = nowhere t l h ds n

-- ---- what is written

module _ (t : Settings) (h : List PeerEvent) where
  -- these steps of the end are frames that it lends on its link
  record AreWritten (ss : List ByteStep) : Type 0 where
    here : present_link (steps t (lifted ss ++ h)) ≡ present_link (steps t h)
    need_no_other : NeedNoOther (lifted ss)
    elsewhere : (l : ℕ) → (present_link (steps t h) ≡ Some l → ⊥) → LendNothingOn t l h (lifted ss)

  one_written : (ss : List ByteStep) (s : ByteStep) (o : Option LinkFrame) → option_map (λ f. Does (Lent f)) o ≡ Some s → AreWritten ss → AreWritten (s ∷ ss)
  one_written ss s None e w = absurd (cc)
  one_written ss s (Some f) e w =
      let q : Does (Lent f) ≡ s = cc in
      subst (λ s. AreWritten (s ∷ ss)) q (record {
        here = w.here;
        need_no_other = w.need_no_other;
        elsewhere = λ l off. (w.elsewhere l off, λ at. off (sym w.here ∙ at));
      })

  all_written : (ss : List ByteStep) → Follow (writing t.wire t.config) (byte_steps t h) ss → AreWritten ss
  all_written [] f = record { here = refl; need_no_other = tt; elsewhere = λ l off. tt }
  all_written (s ∷ ss) f = one_written ss s (due t.config (in_frames t.wire t.config (ss ++ byte_steps t h))) f.1 (all_written ss f.0)

  are_written : (most : Option ℕ) (ds : List PeerEvent) (f : Writes t h most ds) → AreWritten f.0
  are_written most ds f = all_written f.0 (follow_of most (writing t.wire t.config) (byte_steps t h) f.0 f.1.0)

pub writes_lend : FramesAreTaken → WritesLend
writes_lend taken = record {
  attaches = attaches;
  reads = λ t h now bytes ds f.
      subst LendNothing (sym f.1.1.1.1) (gone_lend_none t (f.0 ++ h) f.1.1.0 f.0 f.1.1.1.0.0 (all_read taken t now bytes h f.0 f.1.0.0));
  writes = λ t h most ds f. subst NeedNoOther (sym f.1.1) (are_written t h most ds f).need_no_other;
  elsewhere = λ t h most ds l f off. subst (LendNothingOn t l h) (sym f.1.1) ((are_written t h most ds f).elsewhere l off);
  nowhere = nowhere;
}
