use Rattle.std.proofs.Common.{rules, ◌≡◌, ◌<◌, ◌+◌, [], true, false, ltb, refl, sym, ◌∙◌, inl}
use Rattle.hw_net.specs.declared.limits.TheConstants.{MOST_GATHERED}
use Rattle.hw_net.proofs.Telling.{tells-none}
use Rattle.hw_net.proofs.reactor.Reactor.gather.Goals.{then-self-lt-MOST_GATHERED, else-self-lt-MOST_GATHERED, then-has_writers, else-has_writers}
use Rattle.hw_net.proofs.reactor.Reactor.gather.Goals as goal

never : false ≡ true → ⊥
never e = absurd (cc e)

pub returns-then-goes_on-clause-gathers : goal.returns-then-goes_on-clause-gathers
returns-then-goes_on-clause-gathers g c =
    let gathering : c.if-self-lt-MOST_GATHERED.value ≡ true =
    elim c.if-has_writers.branch [
      | then-has_writers w ↦ w.if-has_writers.true
      | else-has_writers w ↦ sym w.goes_on-is ∙ c.if-goes_on.true
    ] in
    elim c.if-self-lt-MOST_GATHERED.branch [
      | then-self-lt-MOST_GATHERED w ↦
          let few : c.self.inside.gathering + 1 < MOST_GATHERED = search rules in
          let some = w.has_writers.ensures.some (sym w.value-is ∙ gathering) in
          rw (← c.self.view_is) ([], tells-none (g.W.Wires.trace c.self.inside.wires), inl (some, refl, refl, refl, few, refl))
      | else-self-lt-MOST_GATHERED w ↦
          let many : ltb (c.self.inside.gathering + 1) MOST_GATHERED ≡ false = search rules in
          absurd (never (sym many ∙ sym w.value-is ∙ gathering))
    ]
