use Rattle.std.proofs.Common.{refl, ◌∙◌, arith}
use Rattle.hg_groups.proofs.IndexLemmas.{others_stay, left_to_do, nothing_left_to_do}
use Rattle.hg_groups.proofs.members.Members.leave_all.Goals as goal

pub loop-name-init : goal.loop-name-init
loop-name-init c = record { stay = λ other. refl; todo = c.requires }

pub loop-name-smaller : goal.loop-name-smaller
loop-name-smaller c = omega (arith, c.in-Some.ensures.len)

pub loop-name-preserved : goal.loop-name-preserved
loop-name-preserved c = record {
  stay = λ other. others_stay c.loop-name.self.by_name c.leave.new.self.by_name c.in-Some.name c.args.conn c.leave.ensures other ∙ c.loop-name.invariant.stay other;
  todo = left_to_do c.loop-name.self.by_name c.leave.new.self.by_name c.loop-name.names c.pop_first.new.self c.in-Some.name c.args.conn
      c.in-Some.ensures.removal c.loop-name.invariant.todo c.leave.ensures;
}

pub returns : goal.returns
returns c = nothing_left_to_do c.args.self.now.by_name c.loop-name.self.by_name c.loop-name.names c.args.conn c.in_default.ensures.variant.1
    c.loop-name.invariant.stay c.loop-name.invariant.todo
