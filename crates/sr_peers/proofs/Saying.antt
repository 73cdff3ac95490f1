-- What moves of a peer make of the bytes that it lent on each link.
use Rattle.std.proofs.Common.{◌≡◌, ℕ, List, [], ◌∷◌, ◌++◌, map, Option, Some, None, Bool, true, false, refl, sym, ap, ◌∙◌, subst, append_assoc, append-nil, ⊎_elim}
use Rattle.std.specs.Prelude.{option_map}
use Rattle.hm_message.specs.declared.message.Message.{Message}
use Rattle.hd_delivery.specs.declared.vocabulary.Reason.{Reason}
use Rattle.hd_delivery.specs.Frames.{LinkFrame}
use Rattle.hd_delivery.specs.Histories as of
use Rattle.hd_delivery.specs.Histories.{Lent, Sent, Closed, present_link, codec_of}
use Rattle.hd_delivery.specs.Due.{due}
use Rattle.hd_delivery.specs.declared.vocabulary.Side.{Side}
use Rattle.hd_delivery.specs.Worlds.{Event, config}
use Rattle.hd_delivery.specs.Bytes.{Wire, ByteStep, Bytes, Does, in_frames, lent_bytes}
use Rattle.hd_delivery.specs.OneHistory.{IsHistory}
use Rattle.hd_delivery.specs.Following.{Next, Follow, FollowUpTo}
use Rattle.hd_delivery.specs.Alone.{writing, lent_text}
use Rattle.hd_delivery.specs.AloneLaws.{LentComesLast, LentStays}
use Rattle.hd_delivery.specs.Sides.{by, other}
use Rattle.hd_calls.specs.Peers.{PeerEvent, Plain, Calls, Uploads, Cancels, Reads, Handles, Runs, Answers, Refuses, Loses, Rounds, Settings, reason_of, shuts, add, byte_steps, steps}
use Rattle.hd_calls.specs.PeerWorlds.{Pair, settings, next_step}
use Rattle.sr_peers.specs.Doings.{lifted}
use Rattle.sr_peers.specs.Grows.{lent_in, LendNothingOn}
use Rattle.sr_peers.proofs.Joining.{one_side, history_before}

-- ---- moves of the other side

pub lent_apart : (p : Pair) (w : List (Event PeerEvent)) (side : Side) (ds : List PeerEvent) (l : ℕ) → lent_in p (map (by side) ds ++ w) (other side) l ≡ lent_in p w (other side) l
lent_apart p w side ds l = ap (λ h. lent_bytes p.wire (config (other side) p.terms) l (byte_steps (settings (other side) p) h)) (one_side w side ds).1

-- ---- moves that lend nothing

no_frame : (o : Option Message) (f : LinkFrame) → option_map (λ m. Does (Sent m)) o ≡ Some (Does (Lent f)) → ⊥
no_frame None f e = absurd (cc)
no_frame (Some m) f e = absurd (cc)

no_close : (shut : Bool) (o : Option Reason) (f : LinkFrame) → shuts shut o ≡ Some (Does (Lent f)) → ⊥
no_close false (Some why) f e = absurd (cc)
no_close false None f e = absurd (cc)
no_close true o f e = absurd (cc)

module _ (stays : LentStays) (t : Settings) (l : ℕ) (h : List PeerEvent) where
  one : (o : Option ByteStep) (x : List ByteStep) → IsHistory t.limits t.wire t.config (add o x)
      → ((f : LinkFrame) → o ≡ Some (Does (Lent f)) → present_link (in_frames t.wire t.config x) ≡ Some l → ⊥)
      → lent_bytes t.wire t.config l (add o x) ≡ lent_bytes t.wire t.config l x
  one None x i never = refl
  one (Some s) x i never = stays t.limits t.wire t.config x s l i (λ f e at. never f (ap Some e) at)

  -- no move but one that lends a frame makes such a step
  lends_none : (ds : List PeerEvent) (d : PeerEvent) → LendNothingOn t l h (d ∷ ds) → (f : LinkFrame) → next_step t (ds ++ h) d ≡ Some (Does (Lent f)) → present_link (steps t (ds ++ h)) ≡ Some l → ⊥
  lends_none ds (Plain (Bytes piece)) n f e at = absurd (cc)
  lends_none ds (Plain (Does (Lent g))) n f e at = n.1 at
  lends_none ds (Plain (Does s)) n f e at = absurd (cc)
  lends_none ds (Calls a k c) n f e at = absurd (cc)
  lends_none ds (Uploads k v a) n f e at = absurd (cc)
  lends_none ds (Cancels k) n f e at = absurd (cc)
  lends_none ds (Reads m) n f e at = absurd (cc)
  lends_none ds (Handles m x) n f e at = no_close _ (reason_of x) f e
  lends_none ds (Runs j c since turn what) n f e at = no_frame _ f e
  lends_none ds (Answers j i) n f e at = absurd (cc)
  lends_none ds (Refuses j) n f e at = absurd (cc)
  lends_none ds (Loses k) n f e at = absurd (cc)
  lends_none ds Rounds n f e at = absurd (cc)

  before : (d : PeerEvent) (ds : List PeerEvent) → LendNothingOn t l h (d ∷ ds) → LendNothingOn t l h ds
  before (Plain (Bytes piece)) ds n = n
  before (Plain (Does (Lent f))) ds n = n.0
  before (Plain (Does s)) ds n = n
  before d ds n = n

  pub lent_stays : (ds : List PeerEvent) → IsHistory t.limits t.wire t.config (byte_steps t (ds ++ h)) → LendNothingOn t l h ds
      → lent_bytes t.wire t.config l (byte_steps t (ds ++ h)) ≡ lent_bytes t.wire t.config l (byte_steps t h)
  lent_stays [] i n = refl
  lent_stays (d ∷ ds) i n =
      let o : Option ByteStep = next_step t (ds ++ h) d in
      one o (byte_steps t (ds ++ h)) i (lends_none ds d n) ∙ lent_stays ds (history_before t.limits t.wire t.config o (byte_steps t (ds ++ h)) i) (before d ds n)

-- ---- what is written

-- moves of the end alone are its steps
pub lifted_steps : (t : Settings) (h : List PeerEvent) (ss : List ByteStep) → byte_steps t (lifted ss ++ h) ≡ ss ++ byte_steps t h
lifted_steps t h [] = refl
lifted_steps t h (s ∷ ss) = ap (λ x. s ∷ x) (lifted_steps t h ss)

pub follow_of : {S : Type 0} (most : Option ℕ) (next : Next S) (h ss : List S) → FollowUpTo most next h ss → Follow next h ss
follow_of None next h ss f = f.0
follow_of (Some n) next h ss f = ⊎_elim (λ a. a.0) (λ b. b.0.0) f

module _ (last : LentComesLast) (wire : Wire) (c : of.Config) (l : ℕ) (h : List ByteStep) (at : present_link (in_frames wire c h) ≡ Some l) where
  -- these steps leave the end on the link, and their frames come last there
  record Written (ss : List ByteStep) : Type 0 where
    here : present_link (in_frames wire c (ss ++ h)) ≡ Some l
    text : lent_bytes wire c l (ss ++ h) ≡ lent_bytes wire c l h ++ lent_text wire c h ss

  one_written : (ss : List ByteStep) (s : ByteStep) (o : Option LinkFrame) → option_map (λ f. Does (Lent f)) o ≡ Some s → Written ss → Written (s ∷ ss)
  one_written ss s None e w = absurd (cc)
  one_written ss s (Some f) e w =
      let q : Does (Lent f) ≡ s = cc in
      subst (λ s. Written (s ∷ ss)) q (record {
        here = w.here;
        text = last wire c (ss ++ h) l f w.here
            ∙ ap (λ x. x ++ wire.spell (codec_of c (in_frames wire c (ss ++ h))) f) w.text
            ∙ append_assoc (lent_bytes wire c l h) (lent_text wire c h ss) (wire.spell (codec_of c (in_frames wire c (ss ++ h))) f);
      })

  written : (ss : List ByteStep) → Follow (writing wire c) h ss → Written ss
  written [] f = record { here = at; text = sym (append-nil (lent_bytes wire c l h)) }
  written (s ∷ ss) f = one_written ss s (due c (in_frames wire c (ss ++ h))) f.1 (written ss f.0)

  pub written_text : (ss : List ByteStep) → Follow (writing wire c) h ss → lent_bytes wire c l (ss ++ h) ≡ lent_bytes wire c l h ++ lent_text wire c h ss
  written_text ss f = (written ss f).text

pub written_last : LentComesLast → (t : Settings) (l : ℕ) (h : List PeerEvent) (most : Option ℕ) (ss : List ByteStep) → present_link (steps t h) ≡ Some l
    → FollowUpTo most (writing t.wire t.config) (byte_steps t h) ss
    → lent_bytes t.wire t.config l (byte_steps t (lifted ss ++ h)) ≡ lent_bytes t.wire t.config l (byte_steps t h) ++ lent_text t.wire t.config (byte_steps t h) ss
written_last last t l h most ss at f =
    ap (lent_bytes t.wire t.config l) (lifted_steps t h ss)
    ∙ written_text last t.wire t.config l (byte_steps t h) at ss (follow_of most (writing t.wire t.config) (byte_steps t h) ss f)
