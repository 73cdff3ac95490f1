use Rattle.std.proofs.Common.{◌≡◌, false, Option, Some, None, refl, ap}
use Rattle.std.specs.Prelude.{is_some}
use Rattle.sr_peers.proofs.peers.tick.Goals as goal

none_of : {A : Type 0} (o : Option A) → is_some o ≡ false → o ≡ None
none_of None e = refl
none_of (Some x) e = absurd (cc)

pub returns-then-is_none : goal.returns-then-is_none
returns-then-is_none g c = record {
  ticks = c.in_ok-tick.ensures;
  lanes = record {
    link = c.link-left.result;
    later = c.link.result;
    link_is = c.link-left.ensures;
    later_is = c.link.ensures;
    left = λ e. c.leave.ensures;
    kept = λ some. absurd (some (none_of c.link.result c.if-is_none.ensures));
  };
}

pub returns-else-is_none : goal.returns-else-is_none
returns-else-is_none g c = record {
  ticks = c.in_ok-tick.ensures;
  lanes = record {
    link = c.link-left.result;
    later = c.link.result;
    link_is = c.link-left.ensures;
    later_is = c.link.ensures;
    left = λ e. absurd (let none = ap is_some e in let some = c.if-is_none.ensures in cc);
    kept = λ f. refl;
  };
}
