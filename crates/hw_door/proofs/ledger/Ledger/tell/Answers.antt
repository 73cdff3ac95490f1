use Rattle.std.proofs.Common.{rules, arith, ◌≡◌, ◌++◌}
use Rattle.std.proofs.lemmas.Grind.{common_steps}
use Rattle.hw_door.proofs.Telling.{one_answer_more, total_more, size_told}
use Rattle.hw_door.proofs.ledger.Ledger.tell.Goals as goal

pub invariant_of-self : goal.invariant_of-self
invariant_of-self c =
    let appended : c.extend_from_slice.new.self.items ≡ c.self.inside.bytes.items ++ c.args.bytes.now = search rules in
    let sum = total_more c.self.inside.notes.items c.args.note in
    rw (c.push_reserved.ensures.items, appended) (grind (arith, common_steps, sum, c.requires.count, c.self.invariant))

pub returns : goal.returns
returns c =
    let appended : c.extend_from_slice.new.self.items ≡ c.self.inside.bytes.items ++ c.args.bytes.now = search rules in
    let trace = one_answer_more c.self.inside.notes.items c.args.note c.self.inside.bytes.items c.args.bytes.now c.self.invariant.0 c.requires.count in
    rw (← c.self.view_is, c.push_reserved.ensures.items, appended, size_told c.args.note c.args.bytes.now c.requires.count) (rw trace (grind (arith, common_steps)))
