-- What crates above cite of the histories that one end can make.
use Rattle.std.specs.Prelude.{◌≡◌, ℕ, ◌+◌, ◌<◌, ◌≤◌, Bool, true, false, max, ◌&&◌, ◌||◌, ◌==◌, List, [], ◌∷◌, ◌++◌, length, drop, slice_get, Contains, Some, None}
use Rattle.hm_message.specs.declared.message.Codec.{Codec}
use Rattle.hm_message.specs.declared.message.Message.{Message}
use Rattle.hd_delivery.specs.declared.vocabulary.Got.{Got}
use Rattle.hd_delivery.specs.declared.vocabulary.Reason.{Reason}
use Rattle.hd_delivery.specs.declared.vocabulary.Side.{Side}
use Rattle.hd_delivery.specs.declared.vocabulary.Side.TheVariants.{Client, Server}
use Rattle.hd_delivery.specs.Numbers.{most_messages, most_framing}
use Rattle.hd_delivery.specs.Frames.{LinkFrame, Refusal, Strange, count, number, told_count, most_told}
use Rattle.hd_delivery.specs.Histories.{Config, EndEvent, Attached, Detached, Fed, Took, Failed, Sent, Lent, Ticked, Silenced, Closed, Fault, is_this, present_link, was_on, first_link, link_count, fed_frames, lent_frames, taken_count, read_frames, sent_messages, processed_messages, acked_count, written_place, most_lent, is_shaken, agreed_version, codec_of, can_keep, is_resumable, is_closed}
use Rattle.hd_delivery.specs.Due.{has_close, farewell, answer, due}
use Rattle.hd_delivery.specs.Processes.{processes}
use Rattle.hd_delivery.specs.Worlds.{Limits, CanBeSent, Terms, config, Event, client_of, server_of}
use Rattle.hd_delivery.specs.Bytes.{Reads, Wire, sizes_of, IsFaithful, IsSoundWire, ByteStep, Bytes, Does, in_frames, read_count, unread, IsWorldOverBytes}
use Rattle.hd_delivery.specs.OneHistory.{IsHistory, next_reader, frame_of_reading, size_of_reading}
use Rattle.hd_delivery.specs.Laws.{IsInOrder}

-- in a world over bytes each end's steps are a history that it can make by itself
abbrev pub WorldsAreHistories : Type 0
WorldsAreHistories = (limits : Side → Limits) (wire : Wire) (t : Terms) (w : List (Event ByteStep)) → IsWorldOverBytes limits wire t w
    → IsHistory (limits Client) wire (config Client t) (client_of w) × IsHistory (limits Server) wire (config Server t) (server_of w)

-- such a history is in order
abbrev pub HistoriesAreInOrder : Type 0
HistoriesAreInOrder = (limits : Limits) (wire : Wire) (c : Config) (h : List ByteStep) → IsHistory limits wire c h → IsInOrder h

-- ---- the numbers of one end

-- what is said of a history in frames, where one end made it
pub record HistoryFacts (c : Config) (h : List EndEvent) : Type 0 where
  -- the counts
  pub sent_are_few : length (sent_messages h) ≤ most_messages
  pub acked_were_lent : acked_count h ≤ most_lent h
  pub lent_were_sent : most_lent h ≤ length (sent_messages h)
  pub written_were_lent : written_place h ≤ most_lent h
  pub processed_are_few : length (processed_messages h) ≤ most_messages
  pub taken_were_fed : (l : ℕ) → taken_count l h ≤ length (fed_frames l h)
  -- the links
  pub is_where_it_was : (l : ℕ) → present_link h ≡ Some l → was_on l h ≡ true
  pub first_is_only : (l : ℕ) → present_link h ≡ Some l → is_this l (first_link h) ≡ (link_count h == 1)
  -- a plain connection, and each one before the handshake is complete
  pub plain_has_one_link : is_resumable c h ≡ false → link_count h ≤ 1
  pub plain_is_unacked : is_resumable c h ≡ false → acked_count h ≡ 0
  pub plain_is_written : is_resumable c h ≡ false → written_place h ≡ most_lent h
  -- the handshake
  pub kept_by_version : is_resumable c h ≡ (c.reconnect && can_keep (agreed_version h))
  pub unshaken_has_no_version : is_shaken h ≡ false → agreed_version h ≡ 0
  pub unshaken_has_its_codec : is_shaken h ≡ false → codec_of c h ≡ c.codec
  pub unshaken_is_plain : is_shaken h ≡ false → is_resumable c h ≡ false
  pub unshaken_sent_none : is_shaken h ≡ false → sent_messages h ≡ []
  pub unshaken_processed_none : is_shaken h ≡ false → processed_messages h ≡ []
  pub unshaken_is_on_first : is_shaken h ≡ false → (l : ℕ) → present_link h ≡ Some l → first_link h ≡ Some l
  pub unshaken_took_none : is_shaken h ≡ false → is_closed c h ≡ false → (l : ℕ) → taken_count l h ≡ 0
  pub shaken_took_some : is_shaken h ≡ true → (l : ℕ) → first_link h ≡ Some l → 0 < taken_count l h
  pub client_has_its_codec : c.side ≡ Client → codec_of c h ≡ c.codec
  pub client_has_its_version : c.side ≡ Client → is_shaken h ≡ true → agreed_version h ≡ c.version
  -- an end that isn't closed
  pub unclosed_has_no_farewell : is_closed c h ≡ false → farewell h ≡ None
  pub unclosed_has_no_answer : is_closed c h ≡ false → answer h ≡ None

-- so it is of each history
abbrev pub FactsHold : Type 0
FactsHold = (limits : Limits) (wire : Wire) (c : Config) (h : List ByteStep) → IsHistory limits wire c h → HistoryFacts c (in_frames wire c h)

-- on it nothing was fed, lent or dealt with
pub record IsUntouched (l : ℕ) (h : List EndEvent) : Type 0 where
  pub fed : fed_frames l h ≡ []
  pub lent : lent_frames l h ≡ []
  pub taken : taken_count l h ≡ 0

-- so it is of each link on which the end never stood
abbrev pub UnusedIsUntouched : Type 0
UnusedIsUntouched = (h : List EndEvent) (l : ℕ) → was_on l h ≡ false → IsUntouched l h

-- ---- the frames of a link

-- what one more step makes of the frames of the link where the end stands. What is fed isn't read yet
pub record LinkGrows (h : List EndEvent) (l : ℕ) : Type 0 where
  pub lent : (f : LinkFrame) → lent_frames l (Lent f ∷ h) ≡ lent_frames l h ++ f ∷ []
  pub fed : (piece : List LinkFrame) → taken_count l h ≤ length (fed_frames l h) → read_frames l (Fed piece ∷ h) ≡ read_frames l h
  pub took : (got : Got) (f : LinkFrame) → slice_get (fed_frames l h) (taken_count l h) ≡ Some f → read_frames l (Took got ∷ h) ≡ read_frames l h ++ f ∷ []
  pub failed : (fault : Fault) (f : LinkFrame) → slice_get (fed_frames l h) (taken_count l h) ≡ Some f → read_frames l (Failed fault ∷ h) ≡ read_frames l h ++ f ∷ []

-- so it is wherever an end stands
abbrev pub LinksGrow : Type 0
LinksGrow = (h : List EndEvent) (l : ℕ) → present_link h ≡ Some l → LinkGrows h l

-- what one more frame makes of what is read off the frames of a link
pub record FrameCounts (frames : List LinkFrame) (f : LinkFrame) : Type 0 where
  pub next : number (frames ++ f ∷ []) ≡ count (number frames) f
  pub told : most_told (frames ++ f ∷ []) ≡ max (most_told frames) (told_count f)
  pub closes : has_close (frames ++ f ∷ []) ≡ (has_close frames || has_close (f ∷ []))

-- so it is of each frame
abbrev pub FramesCount : Type 0
FramesCount = (frames : List LinkFrame) (f : LinkFrame) → FrameCounts frames f

-- ---- the bytes that one end hasn't dealt with

-- a history that an end with sound readers made, at whose end it stands on the link
pub record StandsThere (limits : Limits) (wire : Wire) (c : Config) (h : List ByteStep) (l : ℕ) : Type 0 where
  pub sound : IsSoundWire limits wire
  pub is_history : IsHistory limits wire c h
  pub here : present_link (in_frames wire c h) ≡ Some l

-- the next frame is the one that the reader finds in the bytes that aren't dealt with
abbrev pub NextIsRead : Type 0
NextIsRead = (limits : Limits) (wire : Wire) (c : Config) (h : List ByteStep) (l : ℕ) → StandsThere limits wire c h l → is_closed c (in_frames wire c h) ≡ false
    → slice_get (fed_frames l (in_frames wire c h)) (taken_count l (in_frames wire c h))
    ≡ frame_of_reading (read_count wire c l h) (next_reader wire c l (in_frames wire c h) (unread wire c l h))

-- a step that deals with a frame drops the bytes of this frame
pub record MovesBy (wire : Wire) (c : Config) (l : ℕ) (h : List ByteStep) (s : EndEvent) (size : ℕ) : Type 0 where
  pub drops : unread wire c l (Does s ∷ h) ≡ drop size (unread wire c l h)
  pub counts : read_count wire c l (Does s ∷ h) ≡ read_count wire c l h + size

-- a step that doesn't
pub record Stays (wire : Wire) (c : Config) (l : ℕ) (h : List ByteStep) (s : EndEvent) : Type 0 where
  pub same : unread wire c l (Does s ∷ h) ≡ unread wire c l h
  pub counts : read_count wire c l (Does s ∷ h) ≡ read_count wire c l h

-- what is fed comes after the bytes that aren't dealt with
abbrev pub UnreadGrows : Type 0
UnreadGrows = (limits : Limits) (wire : Wire) (c : Config) (h : List ByteStep) (l : ℕ) (piece : List ℕ) → StandsThere limits wire c h l
    → (unread wire c l (Bytes piece ∷ h) ≡ unread wire c l h ++ piece) × (read_count wire c l (Bytes piece ∷ h) ≡ read_count wire c l h)

-- dealing with a frame, well or not, drops its bytes
abbrev pub UnreadMoves : Type 0
UnreadMoves = (limits : Limits) (wire : Wire) (c : Config) (h : List ByteStep) (l : ℕ) → StandsThere limits wire c h l
    → ((got : Got) → processes c (in_frames wire c h) ≡ Some (Took got)
    → MovesBy wire c l h (Took got) (size_of_reading (next_reader wire c l (in_frames wire c h) (unread wire c l h))))
    × ((fault : Fault) → processes c (in_frames wire c h) ≡ Some (Failed fault)
    → MovesBy wire c l h (Failed fault) (size_of_reading (next_reader wire c l (in_frames wire c h) (unread wire c l h))))

-- other steps leave the bytes of a link as they were
pub record UnreadStaysAt (wire : Wire) (c : Config) (h : List ByteStep) (l : ℕ) : Type 0 where
  pub sent : (m : Message) → Stays wire c l h (Sent m)
  pub lent : (f : LinkFrame) → Stays wire c l h (Lent f)
  pub ticked : (now : ℕ) → Stays wire c l h (Ticked now)
  pub closed : (reason : Reason) (allow : Bool) → Stays wire c l h (Closed reason allow)
  pub detached : (now : ℕ) → Stays wire c l h (Detached now)
  pub silenced : (now : ℕ) → Stays wire c l h (Silenced now)

-- so it is in each history
abbrev pub UnreadStays : Type 0
UnreadStays = (wire : Wire) (c : Config) (h : List ByteStep) (l : ℕ) → UnreadStaysAt wire c h l

-- a link begins with none
abbrev pub UnreadBegins : Type 0
UnreadBegins = (wire : Wire) (c : Config) (h : List ByteStep) (l now : ℕ) → was_on l (in_frames wire c h) ≡ false
    → (unread wire c l (Does (Attached l now) ∷ h) ≡ []) × (read_count wire c l (Does (Attached l now) ∷ h) ≡ 0)

-- they are never more than a frame and its framing
abbrev pub UnreadIsBounded : Type 0
UnreadIsBounded = (limits : Limits) (wire : Wire) (c : Config) (h : List ByteStep) (l : ℕ) → StandsThere limits wire c h l
    → length (unread wire c l h) ≤ limits.frame + most_framing

-- ---- what one end says

-- each message that an end sent can be sent in the codec that it speaks
abbrev pub SentCanBeSent : Type 0
SentCanBeSent = (limits : Limits) (wire : Wire) (c : Config) (h : List ByteStep) → IsHistory limits wire c h
    → (m : Message) → Contains (sent_messages (in_frames wire c h)) m → CanBeSent limits (sizes_of wire) (codec_of c (in_frames wire c h)) m

-- these bytes are no more than the greatest frame with its framing
abbrev pub IsWithin : Limits → List ℕ → Type 0
IsWithin limits bytes = length bytes ≤ limits.frame + most_framing

-- nor are those of the answer to a handshake that is refused
abbrev pub AnswersAreShort : Limits → Wire → Type 0
AnswersAreShort limits wire = (side : Side) (bytes why text : List ℕ) (size : ℕ) → wire.first side bytes ≡ Reads (Strange why text) size
    → (codec : Codec) → IsWithin limits (wire.spell codec (Refusal text))

-- nor are those of anything that an end has to say, over a wire that is sound and faithful
abbrev pub DueIsShort : Type 0
DueIsShort = (limits : Limits) (wire : Wire) (c : Config) (h : List ByteStep) (f : LinkFrame) → IsSoundWire limits wire
    → ((codec : Codec) → IsFaithful limits wire codec c.version []) → AnswersAreShort limits wire
    → IsHistory limits wire c h → due c (in_frames wire c h) ≡ Some f → IsWithin limits (wire.spell (codec_of c (in_frames wire c h)) f)
