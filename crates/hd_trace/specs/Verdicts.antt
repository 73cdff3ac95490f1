-- What the lines of a trace come to.
use Rattle.std.specs.Prelude.{◌≡◌, ◌↔◌, Bool, IsTrue, List, length}
use Rattle.hd_delivery.specs.declared.vocabulary.Side.{Side}
use Rattle.hd_delivery.specs.declared.vocabulary.Side.TheVariants.{Client, Server}
use Rattle.hd_delivery.specs.Histories.{EndEvent, sent_messages, processed_messages}
use Rattle.hd_delivery.specs.Worlds.{config, Event, client_of, server_of}
use Rattle.hd_delivery.specs.Bytes.{ByteStep, StillOverBytes}
use Rattle.hd_trace.specs.declared.trace.ToldStep.{ToldStep}
use Rattle.hd_trace.specs.declared.trace.TraceLine.{TraceLine}
use Rattle.hd_trace.specs.declared.verdict.Counts.{Counts}
use Rattle.hd_trace.specs.declared.verdict.Verdict.{Verdict}
use Rattle.hd_trace.specs.declared.verdict.Verdict.TheVariants as verdict
use Rattle.hd_trace.specs.declared.verdict.VerdictAlone.{VerdictAlone}
use Rattle.hd_trace.specs.declared.verdict.VerdictAlone.TheVariants as alone
use Rattle.hd_trace.specs.Traces.{Setup, frames_beside, TellWorld}
use Rattle.hd_trace.specs.Alone.{frames_alone, TellHistory}
use Rattle.hd_trace.specs.Breaking.{BreaksOff, BreaksOffAlone}

-- how many messages an end was handed to send and handed out
abbrev pub counts_of : List EndEvent → Counts
counts_of k = record { sent = length (sent_messages k); processed = length (processed_messages k) }

-- both ends of a world are counted so, and are still exactly if that is said
pub record IsCounted (x : Setup) (w : List (Event ByteStep)) (client server : Counts) (still : Bool) : Type 0 where
  pub of_client : client ≡ counts_of (frames_beside x Client w)
  pub of_server : server ≡ counts_of (frames_beside x Server w)
  pub is_still : IsTrue still ↔ StillOverBytes x.wire (config Client x.terms) (config Server x.terms) (client_of w) (server_of w)

-- lines tell a world, of which this is said, or they break off there
abbrev pub IsVerdict : Setup → List TraceLine → Verdict → Type 0
IsVerdict x lines (verdict.World client server still) = (w : List (Event ByteStep)) × (TellWorld x lines w × IsCounted x w client server still)
IsVerdict x lines (verdict.Breaks number r) = BreaksOff x lines number r

-- those of one end tell a history with these numbers, or they break off there
abbrev pub IsVerdictAlone : Setup → Side → List ToldStep → VerdictAlone → Type 0
IsVerdictAlone x side steps (alone.History counts) = (h : List ByteStep) × (TellHistory x side steps h × (counts ≡ counts_of (frames_alone x side h)))
IsVerdictAlone x side steps (alone.Breaks number r) = BreaksOffAlone x side steps number r

-- there is one at most
abbrev pub VerdictIsOne : Type 0
VerdictIsOne = (x : Setup) (lines : List TraceLine) (u v : Verdict) → IsVerdict x lines u → IsVerdict x lines v → u ≡ v

-- and one at most of one end
abbrev pub VerdictAloneIsOne : Type 0
VerdictAloneIsOne = (x : Setup) (side : Side) (steps : List ToldStep) (u v : VerdictAlone) → IsVerdictAlone x side steps u → IsVerdictAlone x side steps v → u ≡ v
