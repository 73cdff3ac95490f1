-- How an end goes on standing for its history, step by step.
use Rattle.std.proofs.Common.{◌≡◌, ℕ, ◌+◌, ◌≤◌, Bool, true, false, List, [], ◌∷◌, ◌++◌, length, Some, refl, sym, ap, ◌∙◌, subst}
use Rattle.std.specs.Prelude.{if◌then◌else◌}
use Rattle.hf_split.specs.Held.{Held, place_of, room_for, at_start, after_feed}
use Rattle.hf_split.specs.VarInts.{longest_var_int}
use Rattle.hf_split.specs.declared.framing.Framing.{Framing}
use Rattle.std.specs.Prelude.{sum_by, map, ◌<◌}
use Rattle.std.proofs.lemmas.List.{length-map}
use Rattle.std.proofs.lemmas.List.Sums.{sum_by-cons}
use Rattle.hm_message.specs.declared.message.Codec.{Codec}
use Rattle.hm_message.specs.declared.message.Message.{Message}
use Rattle.hq_resend.specs.Buffers as ring
use Rattle.hq_resend.specs.Buffers.{held_bytes}
use Rattle.hd_delivery.specs.Numbers.{most_framing}
use Rattle.hf_split.specs.declared.framing.Framing.TheVariants.{Record}
use Rattle.hm_codec.specs.Frames.{framing_of, framed}
use Rattle.hd_delivery.specs.declared.vocabulary.Reason.{Reason}
use Rattle.hd_delivery.specs.Frames.{LinkFrame, Numbered}
use Rattle.hd_delivery.specs.Histories as of
use Rattle.hd_delivery.specs.Histories.{EndEvent, Attached, Detached, Fed, Lent, Ticked, Silenced, present_link, was_on, first_link, codec_of, is_shaken, is_resumable, is_closed, is_silence, held_messages}
use Rattle.hd_delivery.specs.Due.{due}
use Rattle.hd_delivery.specs.Worlds.{HasRoom, MayBegin}
use Rattle.hd_delivery.specs.Bytes.{Wire, ByteStep, Bytes, Does, in_frames, sizes_of, unread_count}
use Rattle.hd_delivery.specs.OneHistory.{IsHistory}
use Rattle.hd_delivery.specs.HistoryLaws.{Stays, StandsThere, UnreadStays, UnreadBegins, UnreadGrows}
use Rattle.he_wire.specs.Wires.{IsHouseWire}
use Rattle.he_wire.specs.Laws.{WireIsSound}
use Rattle.he_end.specs.declared.session.Session.{Session}
use Rattle.he_end.specs.declared.end.End.{End}
use Rattle.he_end.specs.Remembers.{Remembers}
use Rattle.he_end.specs.Stands.{Stands, HoldsUnread, limits_of}

-- the end with another session
abbrev pub with : End → Session → End
with e s = record e { session = s }

-- the splitter still holds what is unread, after a step that deals with no frame and changes neither codec nor handshake
pub stays_unread : (wire : Wire) (c : of.Config) (held : Held) (h : List ByteStep) (l : ℕ) (s : EndEvent) → Stays wire c l h s
    → (if is_shaken (s ∷ in_frames wire c h) then framing_of (codec_of c (s ∷ in_frames wire c h)) else Record)
    ≡ (if is_shaken (in_frames wire c h) then framing_of (codec_of c (in_frames wire c h)) else Record)
    → HoldsUnread wire c held h l → in_frames wire c (Does s ∷ h) ≡ s ∷ in_frames wire c h → HoldsUnread wire c held (Does s ∷ h) l
stays_unread wire c held h l s stays same was is = record {
  bytes = was.bytes ∙ sym stays.same;
  place = was.place ∙ ap place_of (sym stays.counts);
  framing = was.framing ∙ (sym same ∙ ap (λ k. if is_shaken k then framing_of (codec_of c k) else Record) (sym is));
}

module _ (wire : Wire) (c : of.Config) (e : End) (s : Session) (h : List ByteStep) (st : Stands wire c e h) (same : s.ring.limits ≡ limits_of e) where
  pub house_stays : IsHouseWire s.ring.limits.frame wire
  house_stays = subst (λ x. IsHouseWire x.frame wire) (sym same) st.house

  pub most_stays : e.splitter.most ≡ s.ring.limits.frame
  most_stays = st.most ∙ ap (λ x. x.frame) (sym same)

  pub with_limits : (h : List ByteStep) → IsHistory (limits_of e) wire c h → IsHistory s.ring.limits wire c h
  with_limits h i = subst (λ x. IsHistory x wire c h) (sym same) i

  module _ (stays : UnreadStays) where
    pub ticked : (now : ℕ) → is_silence c now (in_frames wire c h) ≡ false → of.moment (in_frames wire c h) ≤ now
        → Remembers c s (Ticked now ∷ in_frames wire c h) → Stands wire c (with e s) (Does (Ticked now) ∷ h)
    ticked now quiet late r = record {
      house = house_stays;
      history = with_limits (Does (Ticked now) ∷ h) (st.history, (quiet, late));
      remembers = r;
      most = most_stays;
      reads = λ l at live. stays_unread wire c e.splitter h l (Ticked now) ((stays wire c h l).ticked now) refl (st.reads l at live) refl;
      said = st.said;
    }

    pub silenced : (now : ℕ) → is_silence c now (in_frames wire c h) ≡ true → of.moment (in_frames wire c h) ≤ now
        → Remembers c s (Silenced now ∷ in_frames wire c h) → Stands wire c (with e s) (Does (Silenced now) ∷ h)
    silenced now quiet late r = record {
      house = house_stays;
      history = with_limits (Does (Silenced now) ∷ h) (st.history, (quiet, late));
      remembers = r;
      most = most_stays;
      reads = λ l at live. absurd (cc);
      said = st.said;
    }

    -- a tick, whether it is a silence or not
    pub ticks : (now : ℕ) (b : Bool) → b ≡ is_silence c now (in_frames wire c h) → of.moment (in_frames wire c h) ≤ now
        → Remembers c s ((if b then Silenced now else Ticked now) ∷ in_frames wire c h) → Stands wire c (with e s) (Does (if b then Silenced now else Ticked now) ∷ h)
    ticks now true is late r = silenced now (sym is) late r
    ticks now false is late r = ticked now (sym is) late r

    pub detached : (now l : ℕ) → present_link (in_frames wire c h) ≡ Some l → of.moment (in_frames wire c h) ≤ now
        → Remembers c s (Detached now ∷ in_frames wire c h) → Stands wire c (with e s) (Does (Detached now) ∷ h)
    detached now l at late r = record {
      house = house_stays;
      history = with_limits (Does (Detached now) ∷ h) (st.history, (l, at, late));
      remembers = r;
      most = most_stays;
      reads = λ m there live. absurd (cc);
      said = st.said;
    }

    pub closed : (reason : Reason) (allow : Bool) → is_closed c (in_frames wire c h) ≡ false
        → Remembers c s (of.Closed reason allow ∷ in_frames wire c h) → Stands wire c (with e s) (Does (of.Closed reason allow) ∷ h)
    closed reason allow live r = record {
      house = house_stays;
      history = with_limits (Does (of.Closed reason allow) ∷ h) (st.history, live);
      remembers = r;
      most = most_stays;
      reads = λ l at live_again. absurd (cc);
      said = st.said;
    }

    pub lent : (f : LinkFrame) → due c (in_frames wire c h) ≡ Some f
        → Remembers c s (Lent f ∷ in_frames wire c h) → Stands wire c (with e s) (Does (Lent f) ∷ h)
    lent f owed r = record {
      house = house_stays;
      history = with_limits (Does (Lent f) ∷ h) (st.history, owed);
      remembers = r;
      most = most_stays;
      reads = λ l at live. stays_unread wire c e.splitter h l (Lent f) ((stays wire c h l).lent f) refl (st.reads l at live) refl;
      said = st.said;
    }

-- ---- links and bytes

module _ (wire : Wire) (c : of.Config) (e : End) (s : Session) (held : Held) (h : List ByteStep) (st : Stands wire c e h) (same : s.ring.limits ≡ limits_of e) where
  -- the end with another session and another splitter
  abbrev after : End
  after = record e { session = s; splitter = held }

  pub attached : UnreadBegins → (framing : Framing) (l now : ℕ) → held ≡ at_start framing e.splitter.most
      → framing ≡ (if is_shaken (in_frames wire c h) then framing_of (codec_of c (in_frames wire c h)) else Record)
      → MayBegin c (in_frames wire c h) l now → Remembers c s (Attached l now ∷ in_frames wire c h) → Stands wire c after (Does (Attached l now) ∷ h)
  attached begins framing l now is of_link may r = record {
    house = house_stays wire c e s h st same;
    history = with_limits wire c e s h st same (Does (Attached l now) ∷ h) (st.history, may);
    remembers = r;
    most = ap (λ x. x.most) is ∙ most_stays wire c e s h st same;
    reads = λ m at live. subst (λ j. HoldsUnread wire c held (Does (Attached l now) ∷ h) j) (let q : Some l ≡ Some m = at in cc) there;
    said = st.said;
  }
    where
      there : HoldsUnread wire c held (Does (Attached l now) ∷ h) l
      there = let none = begins wire c h l now may.unused in record {
        bytes = ap (λ x. x.bytes) is ∙ sym none.0;
        place = ap (λ x. x.place) is ∙ sym (ap place_of none.1);
        framing = ap (λ x. x.framing) is ∙ of_link;
      }

  pub fed : UnreadGrows → WireIsSound → (piece : List ℕ) (l : ℕ) → present_link (in_frames wire c h) ≡ Some l → is_closed c (in_frames wire c h) ≡ false
      → held ≡ after_feed e.splitter piece → length held.bytes ≤ room_for held.most
      → ((frames : List LinkFrame) → Remembers c s (Fed frames ∷ in_frames wire c h)) → Stands wire c after (Bytes piece ∷ h)
  fed grows sound piece l at live is room r = record {
    house = house_stays wire c e s h st same;
    history = with_limits wire c e s h st same (Bytes piece ∷ h) (st.history, record { link = l; at = at; unclosed = live; few = few });
    remembers = r _;
    most = ap (λ x. x.most) is ∙ most_stays wire c e s h st same;
    reads = λ m there open_still. now_there m there open_still;
    said = st.said;
  }
    where
      stands_there : (m : ℕ) → present_link (in_frames wire c h) ≡ Some m → StandsThere (limits_of e) wire c h m
      stands_there m there = record { sound = sound (limits_of e) wire st.house; is_history = st.history; here = there }

      now_there : (m : ℕ) → present_link (in_frames wire c h) ≡ Some m → is_closed c (in_frames wire c h) ≡ false → HoldsUnread wire c held (Bytes piece ∷ h) m
      now_there m there open_still =
          let was = st.reads m there open_still in
          let more = grows (limits_of e) wire c h m piece (stands_there m there) in
          record {
            bytes = ap (λ x. x.bytes) is ∙ (ap (λ x. x ++ piece) was.bytes ∙ sym more.0);
            place = ap (λ x. x.place) is ∙ (was.place ∙ sym (ap place_of more.1));
            framing = ap (λ x. x.framing) is ∙ was.framing;
          }

      few : unread_count wire c l (Bytes piece ∷ h) ≤ (limits_of e).frame + most_framing
      few = let b = (now_there l at live).bytes in
          let long : length held.bytes ≤ held.most + longest_var_int = room in
          let frame : held.most ≡ (limits_of e).frame = ap (λ x. x.most) is ∙ st.most in
          subst (λ xs. length xs ≤ (limits_of e).frame + most_framing) b (subst (λ n. length held.bytes ≤ n + most_framing) frame long)

-- ---- room

sum_of_map : {A B : Type 0} (f : A → B) (size : B → ℕ) (xs : List A) → sum_by size (map f xs) ≡ sum_by (λ x. size (f x)) xs
sum_of_map f size [] = refl
sum_of_map f size (x ∷ xs) = sum_by-cons size (f x) (map f xs) ∙ (ap (λ n. size (f x) + n) (sum_of_map f size xs) ∙ sym (sum_by-cons (λ y. size (f y)) x xs))

same_sums : {A : Type 0} (f g : A → ℕ) → ((x : A) → f x ≡ g x) → (xs : List A) → sum_by f xs ≡ sum_by g xs
same_sums f g same [] = refl
same_sums f g same (x ∷ xs) = sum_by-cons f x xs ∙ ((ap (λ n. n + sum_by f xs) (same x) ∙ ap (λ n. g x + n) (same_sums f g same xs)) ∙ sym (sum_by-cons g x xs))

module _ (wire : Wire) (c : of.Config) (e : End) (h : List ByteStep) (st : Stands wire c e h) where
  -- the framed frame of a message has the size that the wire gives it
  pub framed_size : (codec : Codec) (m : Message) → length (framed codec m) ≡ (sizes_of wire).framed codec m
  framed_size codec m = sym (ap length (st.house.spells codec (Numbered m)))

  pub held_count : length e.session.ring.held ≡ length (held_messages c (in_frames wire c h))
  held_count = ap length st.remembers.ring.held ∙ length-map (held_messages c (in_frames wire c h)) (framed (codec_of c (in_frames wire c h)))

  pub held_size : held_bytes e.session.ring ≡ sum_by (λ m. length (framed (codec_of c (in_frames wire c h)) m)) (held_messages c (in_frames wire c h))
  held_size = ap (sum_by length) st.remembers.ring.held ∙ sum_of_map (framed (codec_of c (in_frames wire c h))) length (held_messages c (in_frames wire c h))

  pub held_size_on_wire : held_bytes e.session.ring ≡ sum_by ((sizes_of wire).framed (codec_of c (in_frames wire c h))) (held_messages c (in_frames wire c h))
  held_size_on_wire = held_size ∙ same_sums (λ m. length (framed (codec_of c (in_frames wire c h)) m)) ((sizes_of wire).framed (codec_of c (in_frames wire c h))) (framed_size (codec_of c (in_frames wire c h))) (held_messages c (in_frames wire c h))

  pub room_is : (size : ℕ) → ring.HasRoom e.session.ring size → HasRoom (limits_of e) (sizes_of wire) c (in_frames wire c h) size
  room_is size r = record {
    of_count = subst (λ n. n < (limits_of e).count) held_count r.of_count;
    of_bytes = subst (λ n. n + size ≤ (limits_of e).bytes) held_size_on_wire r.of_bytes;
  }

  pub is_room : (size : ℕ) → HasRoom (limits_of e) (sizes_of wire) c (in_frames wire c h) size → ring.HasRoom e.session.ring size
  is_room size r = record {
    of_count = subst (λ n. n < (limits_of e).count) (sym held_count) r.of_count;
    of_bytes = subst (λ n. n + size ≤ (limits_of e).bytes) (sym held_size_on_wire) r.of_bytes;
  }
