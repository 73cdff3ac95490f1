use Rattle.std.proofs.Common.{◌≡◌, ◌-◌, ◌∙◌, ℕ, arith, refl, sym, subst}
use Rattle.std.proofs.lemmas.Result.{err_from_is_err_and}
use Rattle.sr_script.specs.declared.script.ScriptError.TheVariants.{Line}
use Rattle.sr_script.specs.Asking.{and_then}
use Rattle.sr_script.specs.Reading.{RefusesWithoutPeers}
use Rattle.sr_script.proofs.WithoutPeers.{stays_without, refused_still, refused_for_peers}
use Rattle.sr_script.proofs.script.Reader.pass_without_peers.Goals as goal

pub returns-in_err-asked-clause-refused : goal.returns-in_err-asked-clause-refused
returns-in_err-asked-clause-refused c =
    let q = err_from_is_err_and c.from_residual.result c.from_residual.ensures.1 in
    rw (q.1, q.2) (refused_still c.args.text.now c.in_err-asked.field-0.0 c.requires.0
    (λ n is. c.in_err-asked.ensures.stopped n is c.requires.0 c.requires.1.0) c.requires.1.1 c.in_err-asked.ensures.refused)

pub overflow_sub-result : goal.overflow_sub-result
overflow_sub-result c =
    let came = (rw c.in-Some.is at c.in_ok-asked.ensures.came) refl c.requires.0 c.requires.1.0 in
    omega (arith, came.2)

pub returns-then-asks_for_peers-clause-refused : goal.returns-then-asks_for_peers-clause-refused
returns-then-asks_for_peers-clause-refused c =
    let came = (rw c.in-Some.is at c.in_ok-asked.ensures.came) refl c.requires.0 c.requires.1.0 in
    let next = (rw c.in-Some.is at c.in_ok-asked.ensures.next) c.requires.0 c.requires.1.0 in
    let number : came.0 ≡ c.next.new.self.number - 1 = omega (arith, came.2) in
    subst (λ (n : ℕ). RefusesWithoutPeers (Line n) c.args.text.now) number
    (refused_for_peers c.args.text.now came.0 c.requires.0 c.in-Some.asked c.next.new.self came.1 c.requires.1.1
    (sym c.asks_for_peers.ensures ∙ c.if-asks_for_peers.true) next.2 came.2)

pub returns-clause-more : goal.returns-clause-more
returns-clause-more c = λ yes.
    let next = (rw c.in-Some.is at c.in_ok-asked.ensures.next) c.requires.0 c.requires.1.0 in (
      and_then c.requires.0 c.in-Some.asked,
      (next.2, stays_without c.requires.0 c.in-Some.asked (sym c.asks_for_peers.ensures ∙ c.if-asks_for_peers.false) c.requires.1.1),
    )
