-- Why a peer says nothing, and why it took nothing, in the words of a report.
use Rattle.std.specs.Prelude.{ℕ, List, ◌++◌, codes}
use Rattle.he_end.specs.Words.{next_words, send_words}
use Rattle.hi_calls.specs.Words.{call_words}
use Rattle.hp_peer.specs.declared.errors.AskError.{AskError}
use Rattle.hp_peer.specs.declared.errors.AskError.TheVariants as ask
use Rattle.hp_peer.specs.declared.errors.PeerError.{PeerError}
use Rattle.hp_peer.specs.declared.errors.PeerError.TheVariants as error

-- of the table of own calls, of the end, or its own
abbrev pub ask_words : AskError → List ℕ
ask_words (ask.Calls why) = call_words why
ask_words ask.TooDeep = codes "TooDeep"
ask_words (ask.Send why) = send_words why
ask_words ask.NoMemory = codes "out of memory"

-- of the end, or why the peer closed it
abbrev pub peer_words : PeerError → List ℕ
peer_words (error.Next e) = next_words e
peer_words (error.InUse id) = codes "in-use " ++ id
peer_words error.TooMany = codes "too-many"
peer_words error.Flood = codes "flood"
peer_words error.NoMemory = codes "out of memory"
