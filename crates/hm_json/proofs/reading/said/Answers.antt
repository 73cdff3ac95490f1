use Rattle.std.proofs.Common.{◌≡◌, Ok, ◌≤◌, ap, ◌∙◌, arith, rules}
use Rattle.std.specs.Prelude.{ℤ}
use Rattle.std.proofs.lemmas.Result.{err_from_is_err_and}
use Rattle.hv_value.specs.Tree.{map, pairs, depth}
use Rattle.hm_json.proofs.Faults.{why_of_kind_at_all}
use Rattle.hm_json.proofs.Depths.{read_fits}
use Rattle.hm_json.specs.Properties.{type_of}
use Rattle.hm_message.specs.Kind.{number}
use Rattle.hm_json.proofs.reading.said.Goals as goal

pub returns-in_err-message-clause-refused : goal.returns-in_err-message-clause-refused
returns-in_err-message-clause-refused c =
    let p = err_from_is_err_and c.from_residual-in_err-message.result c.from_residual-in_err-message.ensures.1 in
    let t = map (pairs c.args.object) in
    let n : c.in_ok-n.n ≡ number c.in-Some.kind = search rules in
    let h : type_of t ≡ Ok (number c.in-Some.kind) = c.in_ok-n.ensures.ok ∙ ap (λ (z : ℤ). Ok z) n in
    rw (p.1, p.2) (why_of_kind_at_all t c.in-Some.kind _ tt h c.in_err-message.ensures.err)

pub returns-clause-message : goal.returns-clause-message
returns-clause-message c =
    let t = map (pairs c.args.object) in
    let m = c.in_ok-message.message in
    let n : c.in_ok-n.n ≡ number c.in-Some.kind = search rules in
    let h : type_of t ≡ Ok (number c.in-Some.kind) = c.in_ok-n.ensures.ok ∙ ap (λ (z : ℤ). Ok z) n in
    let d : depth t ≤ 64 = omega (arith, c.pairs-members.ensures.shallow) in (
      λ frame r. (t, (r, (tt, rw c.in_ok-message.ensures.kind h, c.in_ok-message.ensures.ok))),
      read_fits c.values_are_trees.ensures (pairs c.args.object) m d c.in_ok-message.ensures.ok,
    )
