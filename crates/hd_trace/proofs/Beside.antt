-- One end alone is judged as beside another, but for bytes and a server's links.
use Rattle.std.proofs.Common.{List}
use Rattle.hd_delivery.specs.declared.vocabulary.Side.{Side}
use Rattle.hd_delivery.specs.declared.vocabulary.Side.TheVariants.{Client, Server}
use Rattle.hd_delivery.specs.Histories.{Attached, Detached, Fed, Took, Failed, Sent, Lent, Ticked, Silenced, Closed}
use Rattle.hd_delivery.specs.Worlds.{Event}
use Rattle.hd_delivery.specs.Bytes.{ByteStep, Bytes, Does}
use Rattle.hd_delivery.specs.Sides.{history}
use Rattle.hd_trace.specs.Traces.{Setup, MayBeside}
use Rattle.hd_trace.specs.Alone.{MayAlone}
use Rattle.hd_trace.specs.Laws.{IsOfOneEnd, AloneAgrees}

fewer : (x : Setup) (side : Side) (w : List (Event ByteStep)) (s : ByteStep) → MayBeside x side w s → MayAlone x side (history side w) s
fewer x side w (Bytes piece) m = (record { link = m.link; at = m.at; unclosed = m.unclosed; few = m.few }, tt)
fewer x Client w (Does (Attached l now)) m = (m.own, m.named)
fewer x Server w (Does (Attached l now)) m = (m.own, tt)
fewer x side w (Does (Fed piece)) m = absurd m
fewer x side w (Does (Detached now)) m = (m, tt)
fewer x side w (Does (Took got)) m = (m, tt)
fewer x side w (Does (Failed fault)) m = (m, tt)
fewer x side w (Does (Sent msg)) m = (m, tt)
fewer x side w (Does (Lent f)) m = (m, tt)
fewer x side w (Does (Ticked now)) m = (m, tt)
fewer x side w (Does (Silenced now)) m = (m, tt)
fewer x side w (Does (Closed reason allow)) m = (m, tt)

same : (x : Setup) (side : Side) (w : List (Event ByteStep)) (s : ByteStep) → IsOfOneEnd s side → MayAlone x side (history side w) s → MayBeside x side w s
same x side w (Bytes piece) i m = absurd i
same x Client w (Does (Attached l now)) i m = record { own = m.0; named = m.1 }
same x Server w (Does (Attached l now)) i m = absurd i
same x side w (Does (Fed piece)) i m = absurd m.0
same x side w (Does (Detached now)) i m = m.0
same x side w (Does (Took got)) i m = m.0
same x side w (Does (Failed fault)) i m = m.0
same x side w (Does (Sent msg)) i m = m.0
same x side w (Does (Lent f)) i m = m.0
same x side w (Does (Ticked now)) i m = m.0
same x side w (Does (Silenced now)) i m = m.0
same x side w (Does (Closed reason allow)) i m = m.0

pub agrees : AloneAgrees
agrees x side w = record { fewer = fewer x side w; same = same x side w }
