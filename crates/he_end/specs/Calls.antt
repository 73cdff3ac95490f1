-- What each call of an end makes of the history that it stands for. A name with Does says: for every history for which the end stood, it now
-- stands for that history with this step.
use Rattle.std.specs.Prelude.{◌≡◌, ℕ, suc, ◌+◌, ◌-◌, min, true, false, List, ◌∷◌, length, Option, Some, None, Result, Ok, Err, is_some, option_map}
use Rattle.hf_split.specs.Cuts.{Spelled, BeginsWith}
use Rattle.hf_split.specs.Held.{Held}
use Rattle.hm_message.specs.declared.message.Codec.{Codec}
use Rattle.hm_message.specs.declared.message.Message.{Message}
use Rattle.hm_codec.specs.Frames.{framed, said_again, IsSaid}
use Rattle.hm_codec.specs.Words.{why_words}
use Rattle.hs_shake.specs.Words.{shake_words}
use Rattle.hs_shake.specs.Responses.{refusal_text}
use Rattle.hd_delivery.specs.declared.vocabulary.Got.{Got}
use Rattle.hm_message.specs.declared.message.Read.{Read}
use Rattle.hm_codec.specs.declared.why.FrameWhy.{FrameWhy}
use Rattle.hs_shake.specs.declared.shake.ShakeError.{ShakeError}
use Rattle.hd_delivery.specs.declared.vocabulary.Side.TheVariants.{Client, Server}
use Rattle.hd_delivery.specs.Frames.{LinkFrame, Request, Response, Strange, Unreadable}
use Rattle.he_wire.specs.declared.reading.Handshake.{Handshake}
use Rattle.he_wire.specs.declared.reading.Handshake.TheVariants as handshake
use Rattle.he_wire.specs.Gives.{IsOwed, answer_of}
use Rattle.hd_delivery.specs.Histories as of
use Rattle.hd_delivery.specs.Histories.{EndEvent, Took, Failed, Sent, Lent, Fault, Unread, Shake, Gap, AckBeyond, present_link, codec_of, is_shaken, is_closed, sent_messages}
use Rattle.hd_delivery.specs.Due.{due}
use Rattle.hd_delivery.specs.Processes.{processes}
use Rattle.hd_delivery.specs.Numbers.{most_framing}
use Rattle.hd_delivery.specs.Worlds.{Limits, MaySend}
use Rattle.hd_delivery.specs.Bytes.{Wire, Reading, Reads, Stops, ByteStep, Does, in_frames, sizes_of}
use Rattle.hd_delivery.specs.Sending.{SendRefusal, Opening, Closed, TooLong, Full, Exhausted, IsRefusedToSend}
use Rattle.he_end.specs.declared.errors.NextError.{NextError}
use Rattle.he_end.specs.declared.errors.NextError.TheVariants as next
use Rattle.he_end.specs.declared.errors.SendError.{SendError}
use Rattle.he_end.specs.declared.errors.SendError.TheVariants as send
use Rattle.he_end.specs.declared.end.End.{End}
use Rattle.he_end.specs.Says.{Awaits, answer_at, IsDue, frame_read}
use Rattle.he_end.specs.declared.next_frame.NextFrame.{NextFrame}
use Rattle.he_end.specs.Remembers.{Remembers}
use Rattle.he_end.specs.Stands.{Stands, limits_of}

-- of every history for which the end stood
abbrev pub OfEach : End → ((wire : Wire) → of.Config → List ByteStep → Type 0) → Type 0
OfEach e Holds = (wire : Wire) (c : of.Config) (h : List ByteStep) → Stands wire c e h → Holds wire c h

-- ---- what is fed

-- How many bytes are taken of a piece of this length, if the reader says this of the bytes that aren't dealt with, and these are `held` ones:
-- as many as there is room for, and none if no frame can come there.
abbrev pub taken_at : Limits → Reading → ℕ → ℕ → ℕ
taken_at limits (Stops why) held piece = 0
taken_at limits reading held piece = min piece (limits.frame + most_framing - held)

-- ---- what is taken

-- the frame that comes next gave this, or none has come
abbrev pub Gives : End → End → Option Got → Type 0
Gives old new None = OfEach old (λ wire c h. (processes c (in_frames wire c h) ≡ None) × Stands wire c new h)
Gives old new (Some got) = OfEach old (λ wire c h. (processes c (in_frames wire c h) ≡ Some (Took got)) × Stands wire c new (Does (Took got) ∷ h))

-- the fault that is told
abbrev pub fault_of : of.Config → NextError → Option Fault
fault_of c (next.Frame link at why) = Some (Unread link at (why_words why))
fault_of c (next.Shake e) = Some (Shake (shake_words e) (answer_at c.side (refusal_text e)))
fault_of c (next.Gap got most) = Some (Gap got most)
fault_of c (next.AckBeyond got most) = Some (AckBeyond got most)
fault_of c next.NoMemory = None

-- the fault came, or, out of memory, nothing has changed
abbrev pub FailsBy : Wire → of.Config → List ByteStep → End → Option Fault → Type 0
FailsBy wire c h new None = Stands wire c new h
FailsBy wire c h new (Some fault) = (processes c (in_frames wire c h) ≡ Some (Failed fault)) × Stands wire c new (Does (Failed fault) ∷ h)

-- the frame that comes next is at fault
abbrev pub Fails : End → End → NextError → Type 0
Fails old new e = OfEach old (λ wire c h. FailsBy wire c h new (fault_of c e))

-- ---- what is sent

-- The bytes are the message's framed frame in this codec, and what this frame says is written as a frame that says it again. Of the bytes
-- that `hm_codec::write_message` appended its contract tells the first, and with `hm_codec::frame_is_of_image` the second.
pub record IsSpelled (codec : Codec) (m : Message) (frame : List ℕ) : Type 0 where
  pub bytes : frame ≡ framed codec m
  pub said : IsSaid codec (said_again codec m)

-- the message, as the other end reads it, is sent with this number
abbrev pub Sends : End → End → Message → ℕ → Type 0
Sends old new m number = OfEach old (λ wire c h. let k = in_frames wire c h in let read = said_again (codec_of c k) m in
    MaySend (limits_of old) (sizes_of wire) c k read × (number ≡ suc (length (sent_messages k))) × Stands wire c new (Does (Sent read) ∷ h))

-- why it isn't, if not for want of memory
abbrev pub refusal_of : SendError → Option SendRefusal
refusal_of send.Opening = Some Opening
refusal_of send.Closed = Some Closed
refusal_of (send.TooLong size) = Some (TooLong size)
refusal_of (send.Full held bytes size) = Some (Full held bytes size)
refusal_of send.Exhausted = Some Exhausted
refusal_of send.NoMemory = None

abbrev pub RefusedFor : End → Wire → of.Config → List ByteStep → Message → Option SendRefusal → Type 0
RefusedFor e wire c h m None = Unit {0}
RefusedFor e wire c h m (Some why) = let k = in_frames wire c h in IsRefusedToSend (limits_of e) (sizes_of wire) c k (said_again (codec_of c k) m) why

-- the message isn't sent for this reason, the first that holds, and nothing has changed
abbrev pub RefusesToSend : End → End → Message → SendError → Type 0
RefusesToSend old new m e = (OfEach old (λ wire c h. RefusedFor old wire c h m (refusal_of e))) × (OfEach old (λ wire c h. Stands wire c new h))

-- ---- what is said

-- what was due was lent
abbrev pub HasLent : Wire → of.Config → List ByteStep → End → Option LinkFrame → Type 0
HasLent wire c h new None = Stands wire c new h
HasLent wire c h new (Some f) = Stands wire c new (Does (Lent f) ∷ h)

abbrev pub Lends : End → End → Type 0
Lends old new = OfEach old (λ wire c h. HasLent wire c h new (due c (in_frames wire c h)))

-- the bytes are those of what is due
abbrev pub AreDue : End → Option (List ℕ) → Type 0
AreDue e bytes = OfEach e (λ wire c h. let k = in_frames wire c h in bytes ≡ option_map (wire.spell (codec_of c k)) (due c k))

-- this is what the session names as due
abbrev pub Names : End → Option NextFrame → Type 0
Names e named = (c : of.Config) (k : List EndEvent) → Remembers c e.session k → IsDue c k (due c k) named

-- this was due, in the session's name for it, and is said now
abbrev pub Said : End → End → NextFrame → Type 0
Said old new said = OfEach old (λ wire c h. (f : LinkFrame) → due c (in_frames wire c h) ≡ Some f → IsDue c (in_frames wire c h) (Some f) (Some said)
    → Stands wire c new (Does (Lent f) ∷ h))

-- ---- a frame that was read

-- the end stands on a link, and isn't closed
abbrev pub IsReading : End → Type 0
IsReading e = (is_some e.session.link ≡ true) × (e.session.closed ≡ false)

-- the step that came of it was made
abbrev pub HasMade : Wire → of.Config → List ByteStep → End → Result Got NextError → Type 0
HasMade wire c h new (Ok got) = (processes c (in_frames wire c h) ≡ Some (Took got)) × Stands wire c new (Does (Took got) ∷ h)
HasMade wire c h new (Err e) = FailsBy wire c h new (fault_of c e)

-- the reading is of this frame, with which the bytes held begin
abbrev pub ReadsOne : Held → LinkFrame → Reading → Type 0
ReadsOne held f reading = (item : Spelled) × (BeginsWith held.framing held.most held.bytes item × (reading ≡ Reads f (length item.spelling)))

-- this was read of the splitter's bytes after the handshake, and is taken
abbrev pub Takes : End → End → Read → Result Got NextError → Type 0
Takes old new read result = OfEach old (λ wire c h. ReadsOne old.splitter (frame_read read) (wire.later (codec_of c (in_frames wire c h)) old.splitter.bytes)
    → HasMade wire c h new result)

-- this handshake was read of them, and is taken
abbrev pub Greets : End → End → Handshake → Got → Type 0
Greets old new (handshake.Request shake) got = OfEach old (λ wire c h. c.side ≡ Server
    → ReadsOne old.splitter (Request shake.codec shake.version) (wire.first Server old.splitter.bytes) → HasMade wire c h new (Ok got))
Greets old new handshake.Response got = OfEach old (λ wire c h. c.side ≡ Client
    → ReadsOne old.splitter Response (wire.first Client old.splitter.bytes) → HasMade wire c h new (Ok got))

-- the first frame comes next, and is no handshake
abbrev pub Refuses : End → End → ShakeError → Type 0
Refuses old new e = OfEach old (λ wire c h. is_shaken (in_frames wire c h) ≡ false → IsOwed c.side e
    → Awaits c (in_frames wire c h) (Strange (shake_words e) (answer_of c.side e)) → FailsBy wire c h new (fault_of c (next.Shake e)))

-- a frame comes next that can't be read, at this place
abbrev pub FailsAt : End → End → ℕ → FrameWhy → NextError → Type 0
FailsAt old new at why e = OfEach old (λ wire c h. Awaits c (in_frames wire c h) (Unreadable at (why_words why)) → FailsBy wire c h new (fault_of c e))
