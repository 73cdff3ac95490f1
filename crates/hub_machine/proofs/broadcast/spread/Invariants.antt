use Rattle.std.proofs.Common.{◌≡◌, ℕ, false, take}
use Rattle.hub_machine.specs.Spreads.{Spreads, is_listed}
use Rattle.hub_machine.proofs.Delivered.{AreAsTheyWere, Leads}
use Rattle.hub_machine.proofs.broadcast.spread.Given as goal

abbrev pub invariant-loop-conn : goal.invariant-loop-conn
invariant-loop-conn g l = record {
  spreads : Leads g.M.Members.Delivers (Spreads (g.M.Members.codec_of l.fn.members) (take l.conn-index l.to) l.message) l.fn.members l.members;
  later : AreAsTheyWere (g.M.Members.codec_of l.members) (g.M.Members.codec_of l.fn.members) l.to l.conn-index;
  others : (k : ℕ) → is_listed k l.to ≡ false → g.M.Members.codec_of l.members k ≡ g.M.Members.codec_of l.fn.members k;
}
