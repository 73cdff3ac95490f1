use Rattle.std.proofs.Common.{sym, ◌∙◌}
use Rattle.std.proofs.lemmas.Bool.{iff_false}
use Rattle.he_end.proofs.Dues.{message_waits, no_message, may_not, waits_not}
use Rattle.he_end.proofs.session.Session.message_due.Goals.{else-may_write-via-then-may_write+else-has_unwritten, else-may_write-via-else-may_write}
use Rattle.he_end.proofs.session.Session.message_due.Goals as goal

pub returns-then-has_unwritten : goal.returns-then-has_unwritten
returns-then-has_unwritten c c' k l r o =
    message_waits c' c.args.self.now k l r (sym (c.may_write.ensures c' k l r o) ∙ c.if-may_write.true) (c.has_unwritten.ensures.0 c.if-has_unwritten.true)

pub returns : goal.returns
returns c c' k l r o = elim c.else-may_write.branch [
  | else-may_write-via-then-may_write+else-has_unwritten w ↦ no_message k l (waits_not c' c.args.self.now k r (iff_false w.has_unwritten.ensures w.if-has_unwritten.false))
  | else-may_write-via-else-may_write w ↦ may_not k l (sym (c.may_write.ensures c' k l r o) ∙ w.if-may_write.false)
]
