use Rattle.std.proofs.Common.{◌∙◌, refl, sym}
use Rattle.hd_calls.specs.Peers.{byte_steps}
use Rattle.hd_calls.specs.Tables.{job_happenings}
use Rattle.hp_peer.proofs.Taken.{began, call_is, clashed, one_too_many, still}
use Rattle.hp_peer.proofs.peer.Peer.begin.Goals as goal

pub returns-in_default-clause-refused : goal.returns-in_default-clause-refused
returns-in_default-clause-refused g c = λ k is t h s. still {H = g.row.H.Denot} _ t c.args.self.now c.args.message h s _ refl refl s.jobs refl refl refl

pub returns-in-Ok-accept-clause-ok : goal.returns-in-Ok-accept-clause-ok
returns-in-Ok-accept-clause-ok g c = λ k is t h s.
    rw c.close_if_heavy.ensures.others
    (began {H = g.row.H.Denot} _ t c.args.self.now c.args.message k is h s c.tables_agree.ensures c.requires.none_waits c.accept.new.self c.args.now c.in-Ok-accept.job
    (c.in-Ok-accept.ensures.ok t.who (job_happenings t h) s.jobs k
    (call_is {H = g.row.H.Denot} _ t c.args.self.now c.args.message k is h s c.tables_agree.ensures c.requires.none_waits c.args.self.now.jobs c.in-Some.call (sym c.in-Some.is ∙ c.in-Ok.ensures)))
    _ (c.began.ensures k is) c.close_if_heavy.new.self.end c.close_if_heavy.ensures.closes c.close_if_heavy.ensures.limits)

pub returns-in-Err-InUse-clause-refused : goal.returns-in-Err-InUse-clause-refused
returns-in-Err-InUse-clause-refused g c = λ k is t h s.
    clashed {H = g.row.H.Denot} _ t c.args.self.now c.args.message k is h s c.tables_agree.ensures c.requires.none_waits _
    (c.in-Err-InUse.ensures.unchanged t.who (job_happenings t h) s.jobs) _ c.close.ensures.limits c.in-Err-InUse.id
    (rw c.in-Err-InUse.field-0-is at (c.in-Err-InUse.ensures.refused t.who (job_happenings t h) s.jobs k
    (call_is {H = g.row.H.Denot} _ t c.args.self.now c.args.message k is h s c.tables_agree.ensures c.requires.none_waits c.args.self.now.jobs c.in-Some.call (sym c.in-Some.is ∙ c.in-Ok.ensures))))
    (c.close.ensures.live t.wire t.config (byte_steps t h) s.end) (c.close.ensures.closed t.wire t.config (byte_steps t h) s.end)

pub returns-in-Err-TooMany-clause-refused : goal.returns-in-Err-TooMany-clause-refused
returns-in-Err-TooMany-clause-refused g c = λ k is t h s.
    one_too_many {H = g.row.H.Denot} _ t c.args.self.now c.args.message k is h s c.tables_agree.ensures c.requires.none_waits _
    (c.in-Err-TooMany.ensures.unchanged t.who (job_happenings t h) s.jobs) _ c.close-in-Err-TooMany.ensures.limits
    (rw c.in-Err-TooMany.field-0-is at (c.in-Err-TooMany.ensures.refused t.who (job_happenings t h) s.jobs k
    (call_is {H = g.row.H.Denot} _ t c.args.self.now c.args.message k is h s c.tables_agree.ensures c.requires.none_waits c.args.self.now.jobs c.in-Some.call (sym c.in-Some.is ∙ c.in-Ok.ensures))))
    (c.close-in-Err-TooMany.ensures.live t.wire t.config (byte_steps t h) s.end) (c.close-in-Err-TooMany.ensures.closed t.wire t.config (byte_steps t h) s.end)

pub returns-in-Err-NoMemory-clause-refused : goal.returns-in-Err-NoMemory-clause-refused
returns-in-Err-NoMemory-clause-refused g c = λ k is t h s.
    still {H = g.row.H.Denot} _ t c.args.self.now c.args.message h s _ refl refl (c.in-Err-NoMemory.ensures.unchanged t.who (job_happenings t h) s.jobs) refl refl refl
