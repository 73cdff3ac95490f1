use Rattle.std.proofs.Common.{arith, ap, ◌∙◌, sym, length}
use Rattle.std.specs.Option.{option_copied}
use Rattle.hq_resend.proofs.Sizes.{from-place, not-none}
use Rattle.hq_resend.proofs.ring.bytes_after_writing.Goals as goal

pub overflow_sub-result : goal.overflow_sub-result
overflow_sub-result c =
    let found = sym c.get.ensures ∙ ap option_copied c.in-Some.is in
    omega (arith, from-place c.args.ring.now.items c.args.place c.in-Some.frame.now c.requires.inside found, c.requires.bytes c.if-keeps.false, ap length c.bytes.ensures)

pub returns-in-Some : goal.returns-in-Some
returns-in-Some c =
    let found = sym c.get.ensures ∙ ap option_copied c.in-Some.is in
    let step = from-place c.args.ring.now.items c.args.place c.in-Some.frame.now c.requires.inside found in
    rw c.if-keeps.false (record {
      value = omega (arith, step, c.requires.bytes c.if-keeps.false, ap length c.bytes.ensures);
      fewer = omega arith;
    })

pub returns-in-None : goal.returns-in-None
returns-in-None c = absurd (not-none c.args.ring.now.items c.args.place c.requires.inside (sym c.get.ensures ∙ ap option_copied c.in-None.is))
