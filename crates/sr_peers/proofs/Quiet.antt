-- What moves that neither read anything nor take a link leave as it was.
use Rattle.std.proofs.Common.{◌≡◌, ℕ, zero, suc, Bool, true, false, List, [], ◌∷◌, ◌++◌, Option, Some, None, refl, ◌∙◌, if◌then◌else◌}
use Rattle.std.specs.Prelude.{option_map, slice_get}
use Rattle.hm_message.specs.declared.message.Message.{Message}
use Rattle.hd_delivery.specs.declared.vocabulary.Reason.{Reason}
use Rattle.hd_delivery.specs.declared.vocabulary.Got.{Got}
use Rattle.hd_delivery.specs.declared.vocabulary.Got.TheVariants as gives
use Rattle.hd_delivery.specs.Histories as of
use Rattle.hd_delivery.specs.Histories.{EndEvent, Attached, Detached, Fed, Took, Failed, Sent, Lent, Ticked, Silenced, Closed, present_link, was_on, fed_frames, taken_count, stands_on, is_resumable, is_closed}
use Rattle.hd_delivery.specs.Bytes.{Wire, ByteStep, Bytes, Does, bytes_on, in_frames}
use Rattle.hd_delivery.specs.OneHistory.{IsHistory}
use Rattle.hd_calls.specs.Peers.{PeerEvent, Plain, Calls, Uploads, Cancels, Reads, Handles, Runs, Answers, Refuses, Loses, Rounds, Settings, add, byte_steps, reason_of, shuts}
use Rattle.hd_calls.specs.PeerWorlds.{next_step}
use Rattle.sr_peers.specs.Grows.{NeedNoOther}
use Rattle.sr_peers.specs.Follows.{HasTakenAll}
use Rattle.sr_peers.proofs.Joining.{history_before}

-- what links say after more steps of an end is what they said before, but that the end may have left its link, or be closed
pub record IsQuiet (wire : Wire) (c : of.Config) (before after : List ByteStep) : Type 0 where
  pub names : (l : ℕ) → was_on l (in_frames wire c after) ≡ was_on l (in_frames wire c before)
  pub stands : (l : ℕ) → present_link (in_frames wire c after) ≡ Some l → present_link (in_frames wire c before) ≡ Some l
  pub bytes : (l : ℕ) → bytes_on l after ≡ bytes_on l before
  pub live : is_closed c (in_frames wire c after) ≡ false → is_closed c (in_frames wire c before) ≡ false
  pub taken : (l : ℕ) → slice_get (fed_frames l (in_frames wire c before)) (taken_count l (in_frames wire c before)) ≡ None
      → slice_get (fed_frames l (in_frames wire c after)) (taken_count l (in_frames wire c after)) ≡ None

module _ (wire : Wire) (c : of.Config) where
  pub quiet_none : (x : List ByteStep) → IsQuiet wire c x x
  quiet_none x = record { names = λ l. refl; stands = λ l at. at; bytes = λ l. refl; live = λ e. e; taken = λ l e. e }

  quiet_more : (x y z : List ByteStep) → IsQuiet wire c x y → IsQuiet wire c y z → IsQuiet wire c x z
  quiet_more x y z a b = record {
    names = λ l. b.names l ∙ a.names l;
    stands = λ l at. a.stands l (b.stands l at);
    bytes = λ l. b.bytes l ∙ a.bytes l;
    live = λ e. a.live (b.live e);
    taken = λ l e. b.taken l (a.taken l e);
  }

-- ---- one step

none_past : {A : Type 0} (xs : List A) (n : ℕ) → slice_get xs n ≡ None → slice_get xs (suc n) ≡ None
none_past [] n e = refl
none_past (x ∷ xs) zero e = absurd (cc)
none_past (x ∷ xs) (suc n) e = none_past xs n e

none_if : {A : Type 0} (xs : List A) (b : Bool) (n : ℕ) → slice_get xs n ≡ None → slice_get xs (if b then suc n else n) ≡ None
none_if xs true n e = none_past xs n e
none_if xs false n e = e

live_if : (kept shut : Bool) → (if kept then shut else true) ≡ false → shut ≡ false
live_if true shut e = e
live_if false shut e = absurd (cc)

live_got : (c : of.Config) (k : List EndEvent) (got : Got) → is_closed c (Took got ∷ k) ≡ false → is_closed c k ≡ false
live_got c k (gives.Closed error allow) e = absurd (cc)
live_got c k got e = e

-- neither a link that is taken nor a frame that is fed
abbrev IsAlone : EndEvent → Type 0
IsAlone (Attached l now) = ⊥
IsAlone (Fed piece) = ⊥
IsAlone s = Unit {0}

module _ (wire : Wire) (c : of.Config) (x : List ByteStep) where
  quiet_step : (s : EndEvent) → IsAlone s → IsQuiet wire c x (Does s ∷ x)
  quiet_step (Attached l now) alone = absurd alone
  quiet_step (Fed piece) alone = absurd alone
  quiet_step (Took got) alone = record {
    names = λ l. refl;
    stands = λ l at. at;
    bytes = λ l. refl;
    live = live_got c (in_frames wire c x) got;
    taken = λ l. none_if (fed_frames l (in_frames wire c x)) (stands_on l (in_frames wire c x)) (taken_count l (in_frames wire c x));
  }
  quiet_step (Failed fault) alone = record {
    names = λ l. refl;
    stands = λ l at. at;
    bytes = λ l. refl;
    live = λ e. absurd (cc);
    taken = λ l. none_if (fed_frames l (in_frames wire c x)) (stands_on l (in_frames wire c x)) (taken_count l (in_frames wire c x));
  }
  quiet_step (Detached now) alone = record {
    names = λ l. refl;
    stands = λ l at. absurd (cc);
    bytes = λ l. refl;
    live = live_if (is_resumable c (in_frames wire c x)) (is_closed c (in_frames wire c x));
    taken = λ l e. e;
  }
  quiet_step (Silenced now) alone = record {
    names = λ l. refl;
    stands = λ l at. absurd (cc);
    bytes = λ l. refl;
    live = live_if (is_resumable c (in_frames wire c x)) (is_closed c (in_frames wire c x));
    taken = λ l e. e;
  }
  quiet_step (Closed reason allow) alone = record { names = λ l. refl; stands = λ l at. at; bytes = λ l. refl; live = λ e. absurd (cc); taken = λ l e. e }
  quiet_step s alone = record { names = λ l. refl; stands = λ l at. at; bytes = λ l. refl; live = λ e. e; taken = λ l e. e }

  quiet_shuts : (shut : Bool) (o : Option Reason) → IsQuiet wire c x (add (shuts shut o) x)
  quiet_shuts true None = quiet_none wire c x
  quiet_shuts true (Some why) = quiet_none wire c x
  quiet_shuts false None = quiet_none wire c x
  quiet_shuts false (Some why) = quiet_step (Closed why false) tt

  quiet_sent : (o : Option Message) → IsQuiet wire c x (add (option_map (λ m. Does (Sent m)) o) x)
  quiet_sent None = quiet_none wire c x
  quiet_sent (Some m) = quiet_step (Sent m) tt

-- ---- moves

module _ (t : Settings) where
  quiet_move : (h : List PeerEvent) (d : PeerEvent) → NeedNoOther (d ∷ []) → IsHistory t.limits t.wire t.config (byte_steps t (d ∷ h))
      → IsQuiet t.wire t.config (byte_steps t h) (byte_steps t (d ∷ h))
  quiet_move h (Plain (Bytes piece)) n i = absurd n
  quiet_move h (Plain (Does (Attached l now))) n i = absurd n
  quiet_move h (Plain (Does (Fed piece))) n i = absurd i.1
  quiet_move h (Plain (Does s)) n i = quiet_step t.wire t.config (byte_steps t h) s tt
  quiet_move h (Calls a k c) n i = quiet_step t.wire t.config (byte_steps t h) _ tt
  quiet_move h (Uploads k w a) n i = quiet_step t.wire t.config (byte_steps t h) _ tt
  quiet_move h (Cancels k) n i = quiet_step t.wire t.config (byte_steps t h) _ tt
  quiet_move h (Reads m) n i = quiet_step t.wire t.config (byte_steps t h) _ tt
  quiet_move h (Handles m e) n i = quiet_shuts t.wire t.config (byte_steps t h) _ (reason_of e)
  quiet_move h (Runs j c since turn what) n i = quiet_sent t.wire t.config (byte_steps t h) _
  quiet_move h (Answers j input) n i = quiet_none t.wire t.config (byte_steps t h)
  quiet_move h (Refuses j) n i = quiet_none t.wire t.config (byte_steps t h)
  quiet_move h (Loses k) n i = quiet_none t.wire t.config (byte_steps t h)
  quiet_move h Rounds n i = quiet_none t.wire t.config (byte_steps t h)

  pub need_none : (d : PeerEvent) (ds : List PeerEvent) → NeedNoOther (d ∷ ds) → NeedNoOther (d ∷ []) × NeedNoOther ds
  need_none (Plain (Bytes piece)) ds n = absurd n
  need_none (Plain (Does (Attached l now))) ds n = absurd n
  need_none (Plain (Does s)) ds n = (tt, n)
  need_none d ds n = (tt, n)

  pub quiet_moves : (h ds : List PeerEvent) → NeedNoOther ds → IsHistory t.limits t.wire t.config (byte_steps t (ds ++ h))
      → IsQuiet t.wire t.config (byte_steps t h) (byte_steps t (ds ++ h))
  quiet_moves h [] n i = quiet_none t.wire t.config (byte_steps t h)
  quiet_moves h (d ∷ ds) n i =
      let need = need_none d ds n in
      quiet_more t.wire t.config (byte_steps t h) (byte_steps t (ds ++ h)) (byte_steps t (d ∷ ds ++ h))
      (quiet_moves h ds need.1 (history_before t.limits t.wire t.config (next_step t (ds ++ h) d) (byte_steps t (ds ++ h)) i))
      (quiet_move (ds ++ h) d need.0 i)

  -- what was taken stays taken
  pub took_still : (h ds : List PeerEvent) → IsQuiet t.wire t.config (byte_steps t h) (byte_steps t (ds ++ h)) → HasTakenAll t h → HasTakenAll t (ds ++ h)
  took_still h ds quiet took live l at = quiet.taken l (took (quiet.live live) l (quiet.stands l at))
