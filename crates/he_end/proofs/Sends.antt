-- What a message that is sent makes of an end, and why one isn't.
use Rattle.std.proofs.Common.{⊎_elim, ◌≡◌, ◌≤◌, ◌<◌, ℕ, suc, ◌+◌, true, false, List, [], ◌∷◌, ◌++◌, length, length-append, refl, sym, ap, ◌∙◌, subst, arith}
use Rattle.std.proofs.lemmas.List.Elements.{Contains-push_cases}
use Rattle.hf_split.specs.declared.framing.Framing.{Framing}
use Rattle.hf_split.specs.declared.framing.Framing.TheVariants.{Record, Length}
use Rattle.hf_split.specs.Cuts.{CanWrap, wrapped, separator}
use Rattle.hf_split.specs.Laws.{WrappedBegins}
use Rattle.hv_value.specs.Tree.{trees}
use Rattle.hv_value.specs.Image.{image}
use Rattle.hm_message.specs.declared.message.Codec.{Codec}
use Rattle.hm_message.specs.declared.message.Codec.TheVariants.{Json, Pack}
use Rattle.hm_message.specs.declared.message.Message.{Message}
use Rattle.hm_message.specs.declared.message.Message.TheVariants.{Invocation, StreamItem, Completion, StreamInvocation, CancelInvocation, Ping, Close, Ack, Sequence}
use Rattle.hm_message.specs.Laws.{ImageIsAsDeep, ImageIsItsImage}
use Rattle.hm_message.specs.Message.{is_sequenced, Fits, message_image}
use Rattle.hm_codec.specs.Frames.{Says, framing_of, frame_of, framed, said_again, IsSaid}
use Rattle.hm_codec.specs.Laws.{FrameIsOfImage}
use Rattle.hq_resend.specs.Buffers as ring
use Rattle.hq_resend.specs.Buffers.{held_bytes}
use Rattle.hd_delivery.specs.Numbers.{most_messages, most_framing}
use Rattle.hd_delivery.specs.Histories as of
use Rattle.hd_delivery.specs.Histories.{Sent, codec_of, is_shaken, is_closed, sent_messages}
use Rattle.hd_delivery.specs.Worlds.{Limits, Sizes, HasRoom, CanBeSent, MaySend}
use Rattle.hd_delivery.specs.Sending.{IsSendable, IsRefusedToSend, Full, Exhausted}
use Rattle.hd_delivery.specs.Bytes.{Wire, ByteStep, Does, in_frames, sizes_of}
use Rattle.hd_delivery.specs.HistoryLaws.{UnreadStays}
use Rattle.he_wire.specs.Wires.{AreSaid}
use Rattle.he_end.specs.declared.session.Session.{Session}
use Rattle.he_end.specs.declared.end.End.{End}
use Rattle.he_end.specs.Remembers.{Remembers}
use Rattle.he_end.specs.Stands.{Stands, limits_of}
use Rattle.he_end.specs.Calls.{IsSpelled}
use Rattle.he_end.proofs.Ends.{with, house_stays, most_stays, with_limits, stays_unread, framed_size, held_count, held_size_on_wire, room_is, is_room}

-- ---- the image of a message counts if that counts

is_sequenced-image : (m : Message) → is_sequenced (message_image m) ≡ is_sequenced m
is_sequenced-image (Invocation headers id target arguments streams) = refl
is_sequenced-image (StreamItem headers id item) = refl
is_sequenced-image (Completion headers id ending) = refl
is_sequenced-image (StreamInvocation headers id target arguments streams) = refl
is_sequenced-image (CancelInvocation headers id) = refl
is_sequenced-image Ping = refl
is_sequenced-image (Close error allow) = refl
is_sequenced-image (Ack upto) = refl
is_sequenced-image (Sequence first received) = refl

-- what the other end reads can be sent
can_be : ImageIsAsDeep → ImageIsItsImage → (limits : Limits) (sizes : Sizes) (codec : Codec) (m : Message) → is_sequenced m ≡ true → Fits m
    → sizes.frame codec (said_again codec m) ≤ limits.frame → CanBeSent limits sizes codec (said_again codec m)
can_be law own limits sizes Json m counts fits short = record {
  sequenced = is_sequenced-image m ∙ counts;
  fits = subst (λ n. n ≤ 63) (sym (law m)) fits;
  as_read = own m;
  short = short;
}
can_be law own limits sizes Pack m counts fits short = record { sequenced = counts; fits = fits; as_read = tt; short = short }

-- ---- the bytes of a message

-- the framing has few bytes
wrapped_is_short : WrappedBegins → (framing : Framing) (frame : List ℕ) → CanWrap framing frame → length (wrapped framing frame).spelling ≤ length frame + most_framing
wrapped_is_short law Record frame can = omega (arith, length-append frame (separator ∷ []))
wrapped_is_short law Length frame can =
    let spells = (law Length (length frame) frame [] can (omega arith)).is_frame.spells in
    omega (arith, ap length spells.1.1, length-append spells.0 frame, spells.1.0.short)

-- this is how many bytes the frame has of which these are the framed ones
abbrev pub IsUnframed : Codec → List ℕ → ℕ → Type 0
IsUnframed codec bytes size = (frame : List ℕ) → CanWrap (framing_of codec) frame → bytes ≡ (wrapped (framing_of codec) frame).spelling → size ≡ length frame

module _ (law : FrameIsOfImage) (codec : Codec) (m : Message) (frame : List ℕ) (is : IsSpelled codec m frame) where
  spelled_again : frame ≡ framed codec (said_again codec m)
  spelled_again = is.bytes ∙ sym (ap (λ (xs : List ℕ). (wrapped (framing_of codec) xs).spelling) (law codec m))

  pub has_size : (bytes : List ℕ) (size : ℕ) → bytes ≡ frame → IsUnframed codec bytes size → size ≡ length (frame_of codec (said_again codec m))
  has_size bytes size same sized = sized (frame_of codec (said_again codec m)) is.said.wraps (same ∙ spelled_again)

  pub within : WrappedBegins → (most : ℕ) → length (frame_of codec (said_again codec m)) ≤ most → length frame ≤ most + most_framing
  within begins most short =
      let few = wrapped_is_short begins (framing_of codec) (frame_of codec (said_again codec m)) is.said.wraps in
      let same = ap length spelled_again in
      omega arith

-- what was appended to nothing is the message's, and says it again
pub is_spelled : FrameIsOfImage → (codec : Codec) (m : Message) (front frame : List ℕ) → front ≡ [] → frame ≡ front ++ framed codec m
    → Says codec (frame_of codec m) (said_again codec m) → CanWrap (framing_of codec) (frame_of codec m) → IsSpelled codec m frame
is_spelled law codec m front frame empty bytes says wraps = record {
  bytes = bytes ∙ ap (λ (xs : List ℕ). xs ++ framed codec m) empty;
  said = record {
    says = subst (λ (xs : List ℕ). Says codec xs (said_again codec m)) (sym (law codec m)) says;
    wraps = subst (CanWrap (framing_of codec)) (sym (law codec m)) wraps;
  };
}

-- ---- the step

-- one more message is said
said_more : (codec : Codec) (messages : List Message) (m : Message) → AreSaid codec messages → IsSaid codec m → AreSaid codec (messages ++ m ∷ [])
said_more codec messages m before said x at = ⊎_elim (before x) (λ same. subst (IsSaid codec) same said) (Contains-push_cases messages m x at)

module _ (wire : Wire) (c : of.Config) (e : End) (h : List ByteStep) (st : Stands wire c e h) where
  sent : UnreadStays → (s : Session) → s.ring.limits ≡ limits_of e → (m : Message) → MaySend (limits_of e) (sizes_of wire) c (in_frames wire c h) m
      → IsSaid (codec_of c (in_frames wire c h)) m → Remembers c s (Sent m ∷ in_frames wire c h) → Stands wire c (with e s) (Does (Sent m) ∷ h)
  sent stays s same m may said r = record {
    house = house_stays wire c e s h st same;
    history = with_limits wire c e s h st same (Does (Sent m) ∷ h) (st.history, may);
    remembers = r;
    most = most_stays wire c e s h st same;
    reads = λ l at live. stays_unread wire c e.splitter h l (Sent m) ((stays wire c h l).sent m) refl (st.reads l at live) refl;
    said = said_more (codec_of c (in_frames wire c h)) (sent_messages (in_frames wire c h)) m st.said said;
  }

  -- ---- a message whose framed frame is at hand

  module _ (law : FrameIsOfImage) (unclosed : is_closed c (in_frames wire c h) ≡ false) (shakes : is_shaken (in_frames wire c h) ≡ true)
      (m : Message) (frame : List ℕ) (is : IsSpelled e.session.codec m frame)
      (size : ℕ) (sized : size ≡ length (frame_of e.session.codec (said_again e.session.codec m))) where
    here : IsSpelled (codec_of c (in_frames wire c h)) m frame
    here = subst (λ (x : Codec). IsSpelled x m frame) st.remembers.codec is

    -- the message as the other end reads it
    abbrev read : Message
    read = said_again (codec_of c (in_frames wire c h)) m

    size_is : size ≡ (sizes_of wire).frame (codec_of c (in_frames wire c h)) read
    size_is = (sized ∙ ap (λ (x : Codec). length (frame_of x (said_again x m))) st.remembers.codec) ∙ sym (st.house.sizes (codec_of c (in_frames wire c h)) read)

    framed_is : length frame ≡ (sizes_of wire).framed (codec_of c (in_frames wire c h)) read
    framed_is = ap length (spelled_again law (codec_of c (in_frames wire c h)) m frame here) ∙ framed_size wire c e h st (codec_of c (in_frames wire c h)) read

    module _ (fits_limit : size ≤ (limits_of e).frame) where
      short : (sizes_of wire).frame (codec_of c (in_frames wire c h)) read ≤ (limits_of e).frame
      short = subst (λ n. n ≤ (limits_of e).frame) size_is fits_limit

      sendable : IsSendable (limits_of e) (sizes_of wire) c (in_frames wire c h) read
      sendable = record { unclosed = unclosed; shakes = shakes; short = short }

      room : ring.HasRoom e.session.ring (length frame) → HasRoom (limits_of e) (sizes_of wire) c (in_frames wire c h) ((sizes_of wire).framed (codec_of c (in_frames wire c h)) read)
      room r = subst (HasRoom (limits_of e) (sizes_of wire) c (in_frames wire c h)) framed_is (room_is wire c e h st (length frame) r)

      pub full : (held bytes told : ℕ) → held ≡ length e.session.ring.held → bytes ≡ held_bytes e.session.ring → told ≡ length frame
          → (ring.HasRoom e.session.ring (length frame) → ⊥)
          → IsRefusedToSend (limits_of e) (sizes_of wire) c (in_frames wire c h) read (Full held bytes told)
      full held bytes told so_many so_large is_size none = (
        sendable,
        so_many ∙ held_count wire c e h st,
        so_large ∙ held_size_on_wire wire c e h st,
        is_size ∙ framed_is,
        λ has. none (subst (ring.HasRoom e.session.ring) is_size (is_room wire c e h st told has)),
      )

      pub exhausted : ring.HasRoom e.session.ring (length frame) → e.session.ring.sent ≡ most_messages
          → IsRefusedToSend (limits_of e) (sizes_of wire) c (in_frames wire c h) read Exhausted
      exhausted r all = (sendable, room r, (let n = sym all ∙ st.remembers.ring.sent in omega arith))

      pub may_be_sent : ImageIsAsDeep → ImageIsItsImage → is_sequenced m ≡ true → Fits m → ring.HasRoom e.session.ring (length frame)
          → e.session.ring.sent < most_messages → MaySend (limits_of e) (sizes_of wire) c (in_frames wire c h) read
      may_be_sent trees own counts fits r left = record {
        unclosed = unclosed;
        shakes = shakes;
        few = subst (λ n. n < most_messages) st.remembers.ring.sent left;
        can_be = can_be trees own (limits_of e) (sizes_of wire) (codec_of c (in_frames wire c h)) m counts fits short;
        room = room r;
      }

      -- what session.push says of a message that it took, with its number
      abbrev pub Pushed : Session → ℕ → Type 0
      Pushed s number = (c : of.Config) (k : List of.EndEvent) (m : Message) → Remembers c e.session k → is_shaken k ≡ true → frame ≡ framed e.session.codec m
          → (number ≡ length (sent_messages (Sent m ∷ k))) × Remembers c s (Sent m ∷ k)

      pub sends : ImageIsAsDeep → ImageIsItsImage → UnreadStays → is_sequenced m ≡ true → Fits m → ring.HasRoom e.session.ring (length frame)
          → e.session.ring.sent < most_messages → (s : Session) → s.ring.limits ≡ limits_of e → (number : ℕ) → Pushed s number
          → MaySend (limits_of e) (sizes_of wire) c (in_frames wire c h) read × (number ≡ suc (length (sent_messages (in_frames wire c h))))
          × Stands wire c (with e s) (Does (Sent read) ∷ h)
      sends trees own stays counts fits r left s same number pushed =
          let may = may_be_sent trees own counts fits r left in
          let bytes = spelled_again law (codec_of c (in_frames wire c h)) m frame here ∙ ap (λ (x : Codec). framed x read) (sym st.remembers.codec) in
          let p = pushed c (in_frames wire c h) read st.remembers shakes bytes in
          let n = p.0 in let grown = length-append (sent_messages (in_frames wire c h)) (read ∷ []) in
          (may, omega arith, sent stays s same read may here.said p.1)

  -- the end is as it was
  pub unchanged : (s : Session) → s ≡ e.session → Stands wire c (with e s) h
  unchanged s same = subst (λ (x : Session). Stands wire c (with e x) h) (sym same) st
