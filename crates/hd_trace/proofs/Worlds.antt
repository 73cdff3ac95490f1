-- Lines of two ends: one world, which is one over bytes, and one verdict.
use Rattle.std.proofs.Common.{◌≡◌, ◌≤◌, ℕ, List, [], ◌∷◌, refl, sym, ap, ◌∙◌, subst, arith}
use Rattle.hd_delivery.specs.declared.vocabulary.Side.{Side}
use Rattle.hd_delivery.specs.declared.vocabulary.Side.TheVariants.{Client, Server}
use Rattle.hd_delivery.specs.Histories.{EndEvent, Attached, Detached, Fed, Took, Sent, Lent, Ticked, Silenced, Closed, Failed, moment}
use Rattle.hd_delivery.specs.Worlds.{config, Event, ByClient, ByServer, client_of, server_of, MayHear, MayDo, latest}
use Rattle.hd_delivery.specs.Bytes.{sizes_of, ByteStep, Bytes, Does}
use Rattle.hd_delivery.specs.Sides.{by}
use Rattle.hd_trace.specs.declared.trace.ToldStep.{ToldStep}
use Rattle.hd_trace.specs.declared.trace.TraceLine.{TraceLine}
use Rattle.hd_trace.specs.declared.trace.Rule.{Rule}
use Rattle.hd_trace.specs.Traces.{Setup, clock, clock_after, steps_of, frames_beside, MayBeside, MakesAt, TellWorld}
use Rattle.hd_trace.specs.Breaking.{BreaksWorld}
use Rattle.hd_trace.specs.Laws.{HasNoFault, bare_step, bare_events, IsToldWorld, ToldIsWorld, HasOneVerdict}
use Rattle.hd_trace.proofs.Steps.{IsOwn, one_step, no_step, step_or_rule, one_rule}
use Rattle.hd_trace.proofs.AfterLine as after_line
use Rattle.hd_trace.proofs.AfterLine.{MovesClock, moves_clock}
use Rattle.hd_trace.proofs.OneVerdict as verdicts

-- ---- what may come next at a side

beside_hears : (x : Setup) (side : Side) (w : List (Event ByteStep)) (piece : List ℕ) → MayBeside x side w (Bytes piece) → MayHear (config side x.terms) (frames_beside x side w)
beside_hears x side w piece m = record { link = m.link; at = m.at; unclosed = m.unclosed }

beside_does : (x : Setup) (side : Side) (w : List (Event ByteStep)) (s : EndEvent) → MayBeside x side w (Does s)
    → MayDo x.limits (sizes_of x.wire) (config side x.terms) (frames_beside x side w) s
beside_does x side w (Attached l now) m = m.own
beside_does x side w (Detached now) m = m
beside_does x side w (Fed piece) m = absurd m
beside_does x side w (Took got) m = m
beside_does x side w (Failed fault) m = m
beside_does x side w (Sent msg) m = m
beside_does x side w (Lent f) m = m
beside_does x side w (Ticked now) m = m
beside_does x side w (Silenced now) m = m
beside_does x side w (Closed reason allow) m = m

may_beside : (x : Setup) (side : Side) (w : List (Event ByteStep)) (s : EndEvent) → IsOwn s
    → MayDo x.limits (sizes_of x.wire) (config side x.terms) (frames_beside x side w) s → MayBeside x side w (Does s)
may_beside x side w (Attached l now) i m = absurd i
may_beside x side w (Detached now) i m = m
may_beside x side w (Fed piece) i m = absurd i
may_beside x side w (Took got) i m = m
may_beside x side w (Failed fault) i m = m
may_beside x side w (Sent msg) i m = m
may_beside x side w (Lent f) i m = m
may_beside x side w (Ticked now) i m = m
may_beside x side w (Silenced now) i m = m
may_beside x side w (Closed reason allow) i m = m

-- ---- one world

made_once : (x : Setup) (side : Side) (w : List (Event ByteStep)) (now : ℕ) (step : ToldStep) (s t : ByteStep) → MakesAt x side w now step s → MakesAt x side w now step t → s ≡ t
made_once x side w now step s t m n =
    one_step x (MayBeside x side w) (config side x.terms) (frames_beside x side w) now (beside_hears x side w) (beside_does x side w) step s t m n

pub one_world : (x : Setup) (lines : List TraceLine) (v w : List (Event ByteStep)) → TellWorld x lines v → TellWorld x lines w → v ≡ w
one_world x [] v w a b = a ∙ sym b
one_world x (line ∷ lines) v w a b =
    let same : b.0 ≡ a.0 = one_world x lines b.0 a.0 b.2.0 a.2.0 in
    let n : MakesAt x line.side a.0 (clock (steps_of lines)) line.step b.1 = subst (λ u. MakesAt x line.side u (clock (steps_of lines)) line.step b.1) same b.2.1 in
    a.2.2
    ∙ (ap (λ s. by line.side s ∷ a.0) (made_once x line.side a.0 (clock (steps_of lines)) line.step a.1 b.1 a.2.1 n)
    ∙ (ap (λ u. by line.side b.1 ∷ u) (sym same) ∙ sym b.2.2))

-- ---- what a told world is

through : (a b c : ℕ) → a ≤ b → b ≤ c → a ≤ c
through a b c p q = omega arith

-- the clock of both ends moves as the line says
moved : (last now next : ℕ) (s : EndEvent) → last ≡ now → MovesClock now next s → MovesClock last next s
moved last now next s e m = subst (λ n. MovesClock n next s) (sym e) m

with_client : (x : Setup) (v : List (Event ByteStep)) (now : ℕ) (step : ToldStep) (s : ByteStep) → MakesAt x Client v now step s → IsToldWorld x now v
    → IsToldWorld x (clock_after step now) (ByClient s ∷ v)
with_client x v now step s m i =
    let moves = moved (latest (bare_events v)) now (clock_after step now) (bare_step s) i.clock_is
    (moves_clock x (config Client x.terms) (frames_beside x Client v) now step s m.tells) in
    record {
      is_world = (i.is_world, m.allowed);
      on_one_clock = (i.on_one_clock, moves.0);
      clock_is = moves.1;
      in_time = time;
      faultless = fault;
    }
  where
    time : (side : Side) → moment (frames_beside x side (ByClient s ∷ v)) ≤ clock_after step now
    time Client = after_line.in_time x (config Client x.terms) (client_of v) now step s m.tells (i.in_time Client)
    time Server = through (moment (frames_beside x Server v)) now (clock_after step now) (i.in_time Server) (after_line.clock_rises x (config Client x.terms) (client_of v) now step s m.tells)

    fault : (side : Side) → HasNoFault (frames_beside x side (ByClient s ∷ v))
    fault Client = after_line.faultless x (config Client x.terms) (client_of v) now step s m.tells (i.faultless Client)
    fault Server = i.faultless Server

with_server : (x : Setup) (v : List (Event ByteStep)) (now : ℕ) (step : ToldStep) (s : ByteStep) → MakesAt x Server v now step s → IsToldWorld x now v
    → IsToldWorld x (clock_after step now) (ByServer s ∷ v)
with_server x v now step s m i =
    let moves = moved (latest (bare_events v)) now (clock_after step now) (bare_step s) i.clock_is
    (moves_clock x (config Server x.terms) (frames_beside x Server v) now step s m.tells) in
    record {
      is_world = (i.is_world, m.allowed);
      on_one_clock = (i.on_one_clock, moves.0);
      clock_is = moves.1;
      in_time = time;
      faultless = fault;
    }
  where
    time : (side : Side) → moment (frames_beside x side (ByServer s ∷ v)) ≤ clock_after step now
    time Client = through (moment (frames_beside x Client v)) now (clock_after step now) (i.in_time Client) (after_line.clock_rises x (config Server x.terms) (server_of v) now step s m.tells)
    time Server = after_line.in_time x (config Server x.terms) (server_of v) now step s m.tells (i.in_time Server)

    fault : (side : Side) → HasNoFault (frames_beside x side (ByServer s ∷ v))
    fault Client = i.faultless Client
    fault Server = after_line.faultless x (config Server x.terms) (server_of v) now step s m.tells (i.faultless Server)

goes_on : (x : Setup) (side : Side) (v : List (Event ByteStep)) (now : ℕ) (step : ToldStep) (s : ByteStep) → MakesAt x side v now step s → IsToldWorld x now v
    → IsToldWorld x (clock_after step now) (by side s ∷ v)
goes_on x Client v now step s m i = with_client x v now step s m i
goes_on x Server v now step s m i = with_server x v now step s m i

begins : (x : Setup) → IsToldWorld x 0 []
begins x = record { is_world = refl; on_one_clock = tt; clock_is = refl; in_time = time; faultless = fault }
  where
    time : (side : Side) → moment (frames_beside x side []) ≤ 0
    time Client = after_line.stays 0
    time Server = after_line.stays 0

    fault : (side : Side) → HasNoFault (frames_beside x side [])
    fault Client = tt
    fault Server = tt

pub is_world : ToldIsWorld
is_world x [] w e = subst (λ w. IsToldWorld x 0 w) (sym e) (begins x)
is_world x (line ∷ lines) w t = subst (λ w. IsToldWorld x (clock (steps_of (line ∷ lines))) w) (sym t.2.2)
    (goes_on x line.side t.0 (clock (steps_of lines)) line.step t.1 t.2.1 (is_world x lines t.0 t.2.0))

-- ---- one verdict

ends_there : (x : Setup) (line : TraceLine) (lines : List TraceLine) (v w : List (Event ByteStep)) (r : Rule) → BreaksWorld x lines line v r → TellWorld x lines v
    → TellWorld x (line ∷ lines) w → ⊥
ends_there x line lines v w r b t u =
    let m : MakesAt x line.side v (clock (steps_of lines)) line.step u.1 =
    subst (λ z. MakesAt x line.side z (clock (steps_of lines)) line.step u.1) (one_world x lines u.0 v u.2.0 t) u.2.1 in
    no_step x (MayBeside x line.side v) (config line.side x.terms) (frames_beside x line.side v) (clock (steps_of lines)) (beside_hears x line.side v) (beside_does x line.side v)
    line.step r u.1 b.0 m

goes_or_breaks : (x : Setup) (line : TraceLine) (lines : List TraceLine) (v : List (Event ByteStep)) → TellWorld x lines v
    → ((r : Rule) → BreaksWorld x lines line v r → ⊥) → ((w : List (Event ByteStep)) → TellWorld x (line ∷ lines) w → ⊥) → ⊥
goes_or_breaks x line lines v t breaks tells =
    step_or_rule x (MayBeside x line.side v) (config line.side x.terms) (frames_beside x line.side v) (clock (steps_of lines)) ((is_world x lines v t).in_time line.side)
    (may_beside x line.side v) line.step breaks (λ s m. tells (by line.side s ∷ v) (v, s, (t, m, refl)))

pub one_verdict : (x : Setup) (lines : List TraceLine) → HasOneVerdict (TellWorld x) (BreaksWorld x) lines
one_verdict x lines = verdicts.one_verdict TraceLine (List (Event ByteStep)) (TellWorld x) (BreaksWorld x)
    (one_world x) (λ line ls w t. (t.0, t.2.0)) (ends_there x)
    (λ line ls v q r a b. one_rule x (MayBeside x line.side v) (config line.side x.terms) (frames_beside x line.side v) (clock (steps_of ls)) line.step q r a b)
    (goes_or_breaks x) [] refl lines
