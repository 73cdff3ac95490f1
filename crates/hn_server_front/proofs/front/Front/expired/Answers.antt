use Rattle.std.proofs.Common.{◌∙◌, refl, sym}
use Rattle.hn_server_front.proofs.Expiring.{expired_ends, expired_goes, expired_none}
use Rattle.hn_server_front.proofs.front.Front.expired.Goals as goal

pub returns-in_err-conn : goal.returns-in_err-conn
returns-in_err-conn c = record {
  expires = λ h s. expired_none c.args.self.now h s c.args.now c.first_due.result c.from_residual.result
      (c.first_due.ensures s.order) c.in_err-conn.was c.from_residual.ensures;
  limit = λ h s. refl;
}

pub returns-then-ends_then : goal.returns-then-ends_then
returns-then-ends_then c = record {
  expires = λ h s. expired_ends c.args.self.now c.note.new.self h s c.args.now c.in_ok-conn.conn c.first_due.result
      (c.first_due.ensures s.order) c.in_ok-conn.was (sym (c.ends_then.ensures h s) ∙ c.if-ends_then.true) c.note.ensures;
  limit = λ h s. (c.note.ensures h s).2;
}

pub returns-else-ends_then : goal.returns-else-ends_then
returns-else-ends_then c = record {
  expires = λ h s. expired_goes c.args.self.now c.forget.new.self h s c.args.now c.in_ok-conn.conn c.first_due.result
      (c.first_due.ensures s.order) c.in_ok-conn.was (sym (c.ends_then.ensures h s) ∙ c.if-ends_then.false) c.forget.ensures;
  limit = λ h s. (c.forget.ensures h s).2;
}
