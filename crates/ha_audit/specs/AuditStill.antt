-- When an end is still, by what an auditor keeps of both.
use Rattle.std.specs.Prelude.{◌≡◌, ℕ, length, Some, None}
use Rattle.hd_delivery.specs.declared.vocabulary.State.TheVariants.{Ready}
use Rattle.hd_delivery.specs.Histories.{Config}
use Rattle.hd_trace.specs.ByMarks.{due_by, state_by}
use Rattle.ha_audit.specs.declared.auditor.audited_end.AuditedEnd.{AuditedEnd}
use Rattle.ha_audit.specs.AuditState.{bytes_of, frames_of, messages_of, said_on}

-- on this link an end that was begun so is Ready, was fed as many bytes as the other end said there, took as many frames, and owes nothing
pub record IsStillOn (c : Config) (end there : AuditedEnd) (l : ℕ) : Type 0 where
  pub here : end.marks.link ≡ Some l
  pub ready : state_by end.marks ≡ Ready
  pub fed : end.fed ≡ length (bytes_of (said_on there.links l))
  pub took : end.taken ≡ length (frames_of (said_on there.links l))
  pub owes_nothing : due_by c end.marks (messages_of end.sent.items) ≡ None
