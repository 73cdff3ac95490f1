use Rattle.std.proofs.Common.{arith}
use Rattle.hf_split.proofs.Finding.{empty_waits}
use Rattle.hf_split.proofs.splitter.Splitter.reset.Goals as goal

pub invariant_of-self : goal.invariant_of-self
invariant_of-self c = record {
  positive = c.self.invariant.positive;
  limit = c.self.invariant.limit;
  reserved = omega (arith, c.self.invariant.reserved);
  filled = omega (arith, c.clear.new.self.ok.0);
  inside = omega arith;
  found = rw c.clear.ensures.items (empty_waits c.args.framing c.self.inside.most);
}
