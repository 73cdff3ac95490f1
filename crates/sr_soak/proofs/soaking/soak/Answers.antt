use Rattle.std.proofs.Common.{◌≡◌, ◌∙◌, ℕ, take, subst, append_assoc}
use Rattle.std.specs.Io.KnownBytes.{Appends}
use Rattle.sr_soak.specs.Soaks.{soak_line}
use Rattle.sr_soak.proofs.soaking.soak.Goals as goal

pub returns-in-Ok-clause-ok : goal.returns-in-Ok-clause-ok
returns-in-Ok-clause-ok g c =
    let line : c.as_bytes.result.now ≡ soak_line c.args.seed c.args.steps c.in_ok-totals.totals = c.as_bytes.ensures.value ∙ (c.in_ok-line.ensures.ok ∙ simp append_assoc) in
    (c.in_ok-totals.ensures, subst (λ text. Appends (g.K.Sink.holds c.args.out.now) (g.K.Sink.holds c.put.new.self) text) line c.in-Ok.ensures.bytes)

pub returns-clause-write : goal.returns-clause-write
returns-clause-write g c = λ is.
    let line : c.as_bytes.result.now ≡ soak_line c.args.seed c.args.steps c.in_ok-totals.totals = c.as_bytes.ensures.value ∙ (c.in_ok-line.ensures.ok ∙ simp append_assoc) in (
      c.in-Err.ensures.counted,
      (
        c.in_ok-totals.totals,
        (
          c.in_ok-totals.ensures,
          subst (λ text. (n : ℕ) × Appends (g.K.Sink.holds c.args.out.now) (g.K.Sink.holds c.put.new.self) (take n text)) line c.in-Err.ensures.bytes,
        ),
      ),
    )
