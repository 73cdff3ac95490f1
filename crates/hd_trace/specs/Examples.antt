-- Worked traces, over the small way to write frames that `hd_delivery` has: each frame is four numbers. Lists have the oldest step first.
use Rattle.std.specs.Prelude.{ℕ, Bool, true, false, List, Some, [], ◌∷◌, ◌++◌, reverse}
use Rattle.hm_message.specs.declared.message.Codec.TheVariants.{Json}
use Rattle.hd_delivery.specs.declared.vocabulary.Got.{Got}
use Rattle.hd_delivery.specs.declared.vocabulary.Got.TheVariants as gives
use Rattle.hd_delivery.specs.declared.vocabulary.Got.TheVariants.{Shaken, Resumed}
use Rattle.hd_delivery.specs.declared.vocabulary.Reason.TheVariants.{Done}
use Rattle.hd_delivery.specs.declared.vocabulary.Side.{Side}
use Rattle.hd_delivery.specs.declared.vocabulary.Side.TheVariants.{Client, Server}
use Rattle.hd_delivery.specs.Frames.{Request, Response, Numbered, Ack, Sequence}
use Rattle.hd_delivery.specs.Histories.{Attached, Detached, Took, Sent, Lent, Ticked, Silenced, Closed}
use Rattle.hd_delivery.specs.Worlds.{Limits, config, Event}
use Rattle.hd_delivery.specs.Bytes.{ByteStep, Bytes, Does}
use Rattle.hd_delivery.specs.Examples.{a, usual, terms}
use Rattle.hd_delivery.specs.ExamplesOverBytes.{four, letter_of, error_number, client, server, opened_over_bytes}
use Rattle.hd_trace.specs.declared.trace.ToldStep.{ToldStep}
use Rattle.hd_trace.specs.declared.trace.ToldStep.TheVariants.{Attach, Feed, Lend, Take}
use Rattle.hd_trace.specs.declared.trace.TraceLine.{TraceLine}
use Rattle.hd_trace.specs.declared.trace.Rule.{Rule}
use Rattle.hd_trace.specs.declared.marks.Marks.{Marks}
use Rattle.hd_trace.specs.declared.verdict.Counts.{Counts}
use Rattle.hd_trace.specs.declared.verdict.Verdict.{Verdict}
use Rattle.hd_trace.specs.declared.verdict.VerdictAlone.{VerdictAlone}
use Rattle.hd_trace.specs.Traces.{Setup, clock, steps_of, frames_beside, MakesAt, TellWorld}
use Rattle.hd_trace.specs.Alone.{MakesAlone}
use Rattle.hd_trace.specs.Breaking.{BreaksWorld, BreaksHistory, BreaksOff}
use Rattle.hd_trace.specs.Recording.{line_of, lines_of, lines_alone}
use Rattle.hd_trace.specs.Verdicts.{IsVerdict, IsVerdictAlone}
use Rattle.hd_trace.specs.Marks.{marks_of}

-- how what is taken is told in numbers; a message by its number and its letter
abbrev pub words_in_numbers : ℕ → Got → List ℕ
words_in_numbers n (gives.Shaken codec version) = 1 ∷ version ∷ []
words_in_numbers n (gives.Message m) = 2 ∷ n ∷ letter_of m ∷ []
words_in_numbers n (gives.Acked upto) = 3 ∷ upto ∷ []
words_in_numbers n (gives.Sequenced first) = 4 ∷ first ∷ []
words_in_numbers n (gives.Resumed first received) = 5 ∷ first ∷ received ∷ []
words_in_numbers n gives.Ping = 6 ∷ []
words_in_numbers n (gives.Skipped why) = 7 ∷ []
words_in_numbers n (gives.Closed error allow) = 8 ∷ error_number error ∷ []

-- of these limits, at this version, and resumable where both ends would have it so
abbrev pub setup_at : Limits → ℕ → Bool → Setup
setup_at limits version reconnect = record { limits = limits; terms = terms version reconnect; wire = four; words = words_in_numbers }

-- at version 2 and resumable
abbrev pub setup_of : Limits → Setup
setup_of limits = setup_at limits 2 true

abbrev pub setup : Setup
setup = setup_of usual

-- ---- what lines tell

-- the lines of a world
abbrev pub told_lines : List (Event ByteStep) → List TraceLine
told_lines events = reverse (lines_of setup (reverse events))

-- these lines tell this world
abbrev pub IsTold : List TraceLine → List (Event ByteStep) → Type 0
IsTold lines events = TellWorld setup (reverse lines) (reverse events)

-- a line of the client, of the server
abbrev pub by_client : ToldStep → TraceLine
by_client step = line_of Client step

abbrev pub by_server : ToldStep → TraceLine
by_server step = line_of Server step

-- link 0 and the handshake on it, a message and its Ack, which the client hasn't taken
abbrev pub unread_lines : (message : ToldStep) → List TraceLine
unread_lines message =
    by_client (Attach 0) ∷ by_client (Lend (1 ∷ 2 ∷ 0 ∷ 0 ∷ []))
    ∷ by_server (Attach 0) ∷ by_server (Feed (1 ∷ 2 ∷ 0 ∷ 0 ∷ [])) ∷ by_server (Take (1 ∷ 2 ∷ [])) ∷ by_server (Lend (2 ∷ 0 ∷ 0 ∷ 0 ∷ []))
    ∷ by_client (Feed (2 ∷ 0 ∷ 0 ∷ 0 ∷ [])) ∷ by_client (Take (1 ∷ 2 ∷ []))
    ∷ by_client message ∷ by_client (Lend (3 ∷ 97 ∷ 0 ∷ 0 ∷ []))
    ∷ by_server (Feed (3 ∷ 97 ∷ 0 ∷ 0 ∷ [])) ∷ by_server (Take (2 ∷ 1 ∷ 97 ∷ [])) ∷ by_server (Lend (4 ∷ 1 ∷ 0 ∷ 0 ∷ []))
    ∷ by_client (Feed (4 ∷ 1 ∷ 0 ∷ 0 ∷ [])) ∷ []

-- and which it takes
abbrev pub acknowledged_lines : (message : ToldStep) → List TraceLine
acknowledged_lines message = unread_lines message ++ by_client (Take (3 ∷ 1 ∷ [])) ∷ []

-- the lines of the server alone
abbrev pub server_lines : List ToldStep
server_lines =
    Attach 0 ∷ Feed (1 ∷ 2 ∷ 0 ∷ 0 ∷ []) ∷ Take (1 ∷ 2 ∷ []) ∷ Lend (2 ∷ 0 ∷ 0 ∷ 0 ∷ [])
    ∷ Feed (3 ∷ 97 ∷ 0 ∷ 0 ∷ []) ∷ Take (2 ∷ 1 ∷ 97 ∷ []) ∷ Lend (4 ∷ 1 ∷ 0 ∷ 0 ∷ []) ∷ []

-- the client stands on a link
abbrev pub attached : List (Event ByteStep)
attached = client (Does (Attached 0 0) ∷ [])

-- and said its request
abbrev pub requested : List (Event ByteStep)
requested = attached ++ client (Does (Lent (Request Json 2)) ∷ [])

-- and lost its link, so that it is closed
abbrev pub lost : List (Event ByteStep)
lost = attached ++ client (Does (Detached 0) ∷ [])

-- or was closed so that the other end may connect again
abbrev pub closed_with_allow : List (Event ByteStep)
closed_with_allow = attached ++ client (Does (Closed Done true) ∷ [])

-- the client was fed the Ack of its message, and hasn't taken it
abbrev pub ack_unread : List (Event ByteStep)
ack_unread =
    opened_over_bytes Json
    ++ client (Does (Sent a) ∷ Does (Lent (Numbered a)) ∷ [])
    ++ server (Bytes (3 ∷ 97 ∷ 0 ∷ 0 ∷ []) ∷ Does (Took (gives.Message a)) ∷ Does (Lent (Ack 1)) ∷ [])
    ++ client (Bytes (4 ∷ 1 ∷ 0 ∷ 0 ∷ []) ∷ [])

-- nobody hears the client, which counts its link as lost after 30,000 ms, and the server's clock is the client's
abbrev pub silent : List (Event ByteStep)
silent = requested ++ client (Does (Silenced 30000) ∷ []) ++ server (Does (Attached 0 30000) ∷ [])

-- a tick at the client
abbrev pub ticked : List (Event ByteStep)
ticked = client (Does (Ticked 5) ∷ [])

-- the server was fed the request, and closed before it took it
abbrev pub closed_unread : List (Event ByteStep)
closed_unread =
    requested ++ server (Does (Attached 0 0) ∷ Bytes (1 ∷ 2 ∷ 0 ∷ 0 ∷ []) ∷ Does (Closed Done false) ∷ [])

-- ---- versions

-- link 0, and the handshake on it at this version
abbrev pub opened_at : ℕ → List (Event ByteStep)
opened_at version =
    client (Does (Attached 0 0) ∷ Does (Lent (Request Json version)) ∷ [])
    ++ server (Does (Attached 0 0) ∷ Bytes (1 ∷ version ∷ 0 ∷ 0 ∷ []) ∷ Does (Took (Shaken Json version)) ∷ Does (Lent Response) ∷ [])
    ++ client (Bytes (2 ∷ 0 ∷ 0 ∷ 0 ∷ []) ∷ Does (Took (Shaken Json version)) ∷ [])

-- its client lost the link
abbrev pub lost_at : ℕ → List (Event ByteStep)
lost_at version = opened_at version ++ client (Does (Detached 0) ∷ [])

-- the server processed a message
abbrev pub processed_at : ℕ → List (Event ByteStep)
processed_at version =
    opened_at version
    ++ client (Does (Sent a) ∷ Does (Lent (Numbered a)) ∷ [])
    ++ server (Bytes (3 ∷ 97 ∷ 0 ∷ 0 ∷ []) ∷ Does (Took (gives.Message a)) ∷ [])

-- a message was lost with its link, and both ends stand on the next one
abbrev pub again_at : ℕ → List (Event ByteStep)
again_at version =
    opened_at version
    ++ client (Does (Sent a) ∷ Does (Lent (Numbered a)) ∷ Does (Attached 1 0) ∷ [])
    ++ server (Does (Attached 1 0) ∷ [])

-- version 3: each said how much it processed, and the client was fed this
abbrev pub resuming : List (Event ByteStep)
resuming =
    again_at 3
    ++ client (Does (Lent (Sequence 1 (Some 0))) ∷ [])
    ++ server (Does (Lent (Sequence 1 (Some 0))) ∷ [])
    ++ client (Bytes (5 ∷ 1 ∷ 1 ∷ 0 ∷ []) ∷ [])

-- ---- which rule is broken

-- of this setup, after this world, the line of this side breaks the rule first, and tells no step
abbrev pub BreaksFrom : Setup → List (Event ByteStep) → Side → ToldStep → Rule → Type 0
BreaksFrom x events side step r = BreaksWorld x (lines_of x (reverse events)) (line_of side step) (reverse events) r

-- after it, the line tells this step
abbrev pub MayComeFrom : Setup → List (Event ByteStep) → Side → ToldStep → ByteStep → Type 0
MayComeFrom x events side step s = MakesAt x side (reverse events) (clock (steps_of (lines_of x (reverse events)))) step s

-- at version 2, with these limits
abbrev pub BreaksAfter : Limits → List (Event ByteStep) → Side → ToldStep → Rule → Type 0
BreaksAfter limits events side step r = BreaksFrom (setup_of limits) events side step r

abbrev pub MayComeAfter : Limits → List (Event ByteStep) → Side → ToldStep → ByteStep → Type 0
MayComeAfter limits events side step s = MayComeFrom (setup_of limits) events side step s

-- these lines break off at this line by this rule
abbrev pub AreBroken : List TraceLine → ℕ → Rule → Type 0
AreBroken lines number r = BreaksOff setup (reverse lines) number r

-- these lines come to this
abbrev pub ComesTo : List TraceLine → Verdict → Type 0
ComesTo lines verdict = IsVerdict setup (reverse lines) verdict

abbrev pub counts : ℕ → ℕ → Counts
counts sent processed = record { sent = sent; processed = processed }

-- ---- one end alone

-- the lines of this side come to this
abbrev pub ComesToAlone : Side → List ToldStep → VerdictAlone → Type 0
ComesToAlone side steps verdict = IsVerdictAlone setup side (reverse steps) verdict

-- after what this side did, its line breaks the rule first
abbrev pub BreaksAlone : Side → List ByteStep → ToldStep → Rule → Type 0
BreaksAlone side steps step r = BreaksHistory setup side (lines_alone setup side (reverse steps)) step (reverse steps) r

-- after it, the line tells this step
abbrev pub MayComeAlone : Side → List ByteStep → ToldStep → ByteStep → Type 0
MayComeAlone side steps step s = MakesAlone setup side (reverse steps) (clock (lines_alone setup side (reverse steps))) step s

-- link 5 and the handshake on it, at the client
abbrev pub client_on_five : List ByteStep
client_on_five = Does (Attached 5 0) ∷ Does (Lent (Request Json 2)) ∷ Bytes (2 ∷ 0 ∷ 0 ∷ 0 ∷ []) ∷ Does (Took (gives.Shaken Json 2)) ∷ []

-- and at the server
abbrev pub server_on_five : List ByteStep
server_on_five = Does (Attached 5 0) ∷ Bytes (1 ∷ 2 ∷ 0 ∷ 0 ∷ []) ∷ Does (Took (gives.Shaken Json 2)) ∷ Does (Lent Response) ∷ []

-- ---- marks

-- the marks of a side of a world
abbrev pub marks_at : Side → List (Event ByteStep) → Marks
marks_at side events = marks_of (config side (terms 2 true)) (frames_beside setup side (reverse events))
