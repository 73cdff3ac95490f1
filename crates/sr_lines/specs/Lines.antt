-- The lines of a report: of what an end takes, of what a peer tells, and of how an end stands.
use Rattle.std.specs.Prelude.{ℕ, suc, List, [], ◌++◌, length, codes, Option, Some, None}
use Rattle.std.specs.Fmt.{decimal}
use Rattle.hv_value.specs.Tree as tree
use Rattle.hv_value.specs.View as view
use Rattle.hv_value.specs.declared.value.Value.{Value}
use Rattle.hv_json.specs.Writing.{json_text}
use Rattle.hm_message.specs.declared.message.Ending.{Ending}
use Rattle.hm_message.specs.declared.message.Ending.TheVariants as ending
use Rattle.hd_delivery.specs.declared.vocabulary.Side.{Side}
use Rattle.hd_delivery.specs.declared.vocabulary.Side.TheVariants.{Client, Server}
use Rattle.hd_delivery.specs.declared.vocabulary.State.{State}
use Rattle.hd_delivery.specs.declared.vocabulary.State.TheVariants.{Opening, Ready, Away}
use Rattle.hd_delivery.specs.declared.vocabulary.State.TheVariants as states
use Rattle.hd_delivery.specs.Histories as of
use Rattle.hd_delivery.specs.Histories.{EndEvent, Took, Failed, Sent, Silenced, Fault, Unread, Shake, Gap, AckBeyond, HasFit, sent_messages, processed_messages}
use Rattle.hd_delivery.specs.Sending as refusal
use Rattle.hd_delivery.specs.Sending.{SendRefusal}
use Rattle.hd_calls.specs.Rules.{CallRefusal, TooManyLive, Spent, TooDeep, Unsent}
use Rattle.hd_calls.specs.Rules as of_calls
use Rattle.hp_peer.specs.declared.did.Did.{Did}
use Rattle.hp_peer.specs.declared.did.Did.TheVariants as did
use Rattle.hp_peer.specs.declared.errors.AskError.{AskError}
use Rattle.hp_peer.specs.declared.errors.AskError.TheVariants as ask
use Rattle.hp_peer.specs.declared.errors.PeerError.{PeerError}
use Rattle.hp_peer.specs.declared.errors.PeerError.TheVariants as error
use Rattle.hi_calls.specs.declared.errors.CallError.{CallError}
use Rattle.hi_calls.specs.declared.errors.CallError.TheVariants as table
use Rattle.he_end.specs.Words.{next_words, send_words}
use Rattle.sr_notation.specs.Words.{line, line_at, got_words}
use Rattle.sr_lines.specs.declared.telling.Asked.{Asked}
use Rattle.sr_lines.specs.declared.telling.Asked.TheVariants as asked

-- a fault, in words
abbrev pub fault_words : Fault → List ℕ
fault_words (Unread link at why) = codes "frame " ++ (decimal link ++ (codes " " ++ (decimal at ++ (codes " " ++ why))))
fault_words (Shake why answer) = codes "shake " ++ why
fault_words (Gap got most) = codes "gap " ++ (decimal got ++ (codes " " ++ decimal most))
fault_words (AckBeyond got most) = codes "ack " ++ (decimal got ++ (codes " " ++ decimal most))

-- the line of a step, where the end made these before it: most steps have none
abbrev pub step_text : Side → List EndEvent → EndEvent → List ℕ
step_text side k (Took got) = line_at side (got_words (suc (length (processed_messages k))) got)
step_text side k (Failed fault) = line_at side (codes "fault " ++ fault_words fault)
step_text side k (Sent m) = line_at side (codes "sent " ++ decimal (suc (length (sent_messages k))))
step_text side k (Silenced now) = line_at side (codes "silent")
step_text side k _ = []

-- ---- why something isn't done

-- why a message isn't sent, in words
abbrev pub refusal_words : SendRefusal → List ℕ
refusal_words refusal.Opening = codes "Opening"
refusal_words refusal.Closed = codes "Closed"
refusal_words (refusal.TooLong size) = codes "TooLong " ++ decimal size
refusal_words (refusal.Full held bytes size) = codes "Full " ++ (decimal held ++ (codes " " ++ (decimal bytes ++ (codes " " ++ decimal size))))
refusal_words refusal.Exhausted = codes "Exhausted"

-- why a call isn't made, nothing is uploaded or a call isn't cancelled, in words
abbrev pub why_words : CallRefusal → List ℕ
why_words TooManyLive = codes "TooMany"
why_words Spent = codes "Spent"
why_words of_calls.Unknown = codes "UnknownId"
why_words TooDeep = codes "TooDeep"
why_words (Unsent why) = refusal_words why

-- as a peer tells it
abbrev pub table_words : CallError → List ℕ
table_words table.TooMany = codes "TooMany"
table_words table.Spent = codes "Spent"
table_words table.UnknownId = codes "UnknownId"
table_words table.NoMemory = codes "out of memory"

abbrev pub ask_words : AskError → List ℕ
ask_words (ask.Calls why) = table_words why
ask_words ask.TooDeep = codes "TooDeep"
ask_words (ask.Send why) = send_words why
ask_words ask.NoMemory = codes "out of memory"

-- ---- what a peer tells

-- a number after a word
abbrev pub counted : List ℕ → ℕ → List ℕ
counted word n = word ++ (codes " " ++ decimal n)

-- what a peer's user has asked for of an own call, and was done
abbrev pub asked_word : Asked → List ℕ
asked_word asked.ItemSent = codes "item-sent"
asked_word asked.Done = codes "done"
asked_word asked.Cancel = codes "cancel"

-- a value as JSON text
abbrev pub value_words : Value → List ℕ
value_words v = json_text (view.tree v)

-- an id, or a dash where there is none
abbrev pub id_words : Option (List ℕ) → List ℕ
id_words None = codes "-"
id_words (Some id) = id

-- how a call ended
abbrev pub ending_words : Ending → List ℕ
ending_words ending.Void = codes "void"
ending_words (ending.Result v) = codes "result " ++ value_words v
ending_words (ending.Error why) = codes "error " ++ json_text (tree.text why)

-- a call of the other side began a job
abbrev pub began_words : Option (List ℕ) → List ℕ → List ℕ
began_words id target = codes "began " ++ (id_words id ++ (codes " " ++ target))

-- an item came for an own call
abbrev pub item_words : ℕ → Value → List ℕ
item_words n v = counted (codes "item") n ++ (codes " " ++ value_words v)

-- an own call has ended
abbrev pub ended_words : ℕ → Ending → List ℕ
ended_words n e = counted (codes "ended") n ++ (codes " " ++ ending_words e)

-- it is gone with its closed end
abbrev pub gone_words : ℕ → List ℕ
gone_words n = counted (codes "ended") n ++ codes " gone"

-- what came is for this id
abbrev pub fed_words : List ℕ → List ℕ
fed_words id = codes "fed " ++ id

abbrev pub cancelled_words : List ℕ → List ℕ
cancelled_words id = codes "cancelled " ++ id

abbrev pub unknown_words : List ℕ → List ℕ
unknown_words id = codes "skipped unknown-id " ++ id

-- what a take told. A message that is handed out by itself has this number
abbrev pub did_words : ℕ → Did → List ℕ
did_words number (did.Began job id target arguments) = began_words id target
did_words number (did.Item call value) = item_words call value
did_words number (did.Ended call ending) = ended_words call ending
did_words number (did.Fed id) = fed_words id
did_words number (did.Cancelled id) = cancelled_words id
did_words number (did.Unknown id) = unknown_words id
did_words number (did.Other got) = got_words number got

-- it can be told: a message that is handed out by itself fits a frame
abbrev pub CanBeTold : Did → Type 0
CanBeTold (did.Other got) = HasFit got
CanBeTold told = Unit {0}

-- why a peer closed its end, after the word fault
abbrev pub in_use_words : List ℕ → List ℕ
in_use_words id = codes "in-use " ++ id

abbrev pub peer_words : PeerError → List ℕ
peer_words (error.Next e) = next_words e
peer_words (error.InUse id) = in_use_words id
peer_words error.TooMany = codes "too-many"
peer_words error.Flood = codes "flood"
peer_words error.NoMemory = codes "out of memory"

-- ---- how an end stands

abbrev pub state_word : State → List ℕ
state_word Opening = codes "Opening"
state_word Ready = codes "Ready"
state_word Away = codes "Away"
state_word states.Closed = codes "Closed"

abbrev pub side_word : Side → List ℕ
side_word Client = codes "client"
side_word Server = codes "server"

-- the line of how an end stands: its state, and how many messages it sent, processed and holds
abbrev pub standing_line : Side → State → ℕ → ℕ → ℕ → List ℕ
standing_line side state sent processed held = line (side_word side ++ (codes " " ++ (state_word state ++ (codes " sent " ++ (decimal sent
    ++ (codes " processed " ++ (decimal processed ++ (codes " held " ++ decimal held))))))))

-- the line of an end that is begun so and has this history
abbrev pub standing_text : Side → of.Config → List EndEvent → List ℕ
standing_text side c k = standing_line side (of.state c k) (length (sent_messages k)) (length (processed_messages k)) (length (of.held_messages c k))
