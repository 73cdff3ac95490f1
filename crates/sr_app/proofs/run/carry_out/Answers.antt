use Rattle.std.proofs.Common.{refl, subst, inl, inr, ⊎_elim}
use Rattle.sr_app.specs.declared.run.Status.TheVariants.{WriteFault, KeeperFault}
use Rattle.sr_app.specs.Run.{DialsNothing, DrawsNothing, ServesNothing, code_of}
use Rattle.sr_app.proofs.Added.{adding_as, adding_ends, adding_sink_kept, not_by_reading}
use Rattle.sr_app.proofs.Answering.{same_status}
use Rattle.sr_app.proofs.Dialed.{asks_no_keeper, dialing_as, dialing_dialer_kept, dialing_lots_kept, dialing_output_kept}
use Rattle.sr_app.proofs.Served.{serving_as, serving_ends, serving_sink_kept, serving_door_kept, serving_touches}
use Rattle.sr_app.proofs.run.carry_out.Goals as goal

pub returns-in-Replay-clause-ends : goal.returns-in-Replay-clause-ends
returns-in-Replay-clause-ends g c = rw c.in-Replay.is c.run_replay.ensures.ends

pub returns-in-Record-clause-ends : goal.returns-in-Record-clause-ends
returns-in-Record-clause-ends g c = rw c.in-Record.is c.run_record.ensures.ends

pub returns-in-Audit-clause-ends : goal.returns-in-Audit-clause-ends
returns-in-Audit-clause-ends g c = rw c.in-Audit.is c.run_audit.ensures.ends

pub returns-in-Soak-clause-ends : goal.returns-in-Soak-clause-ends
returns-in-Soak-clause-ends g c = rw c.in-Soak.is (c.run_soak.ensures.ends (g.S.Source.left c.args.input.now) (g.S.Source.faults c.args.input.now))

pub returns-in-Check-clause-ends : goal.returns-in-Check-clause-ends
returns-in-Check-clause-ends g c = rw c.in-Check.is c.run_task.ensures.ends

pub returns-in-Convert-clause-ends : goal.returns-in-Convert-clause-ends
returns-in-Convert-clause-ends g c = rw c.in-Convert.is c.run_task-in-Convert.ensures.ends

pub returns-in-Serve-clause-ends : goal.returns-in-Serve-clause-ends
returns-in-Serve-clause-ends g c = rw c.in-Serve.is
    (serving_ends c.in-Serve.serving _ _ _ _ (g.S.Source.left c.args.input.now) (g.S.Source.faults c.args.input.now) c.run_serve.ensures.serves)

pub returns-in-Serve-clause-serves : goal.returns-in-Serve-clause-serves
returns-in-Serve-clause-serves g c = λ asked is.
    serving_as _ c.in-Serve.serving asked _ (λ calls. g.D.Door.Goes c.args.door.now calls c.run_serve.new.door) _ _ c.in-Serve.is c.run_serve.ensures.serves is

pub returns-in-Serve-clause-faults : goal.returns-in-Serve-clause-faults
returns-in-Serve-clause-faults g c =
    record { source = λ differ. refl; sink = λ differ. serving_sink_kept c.in-Serve.serving _ _ _ _ c.run_serve.ensures.serves differ }

pub returns-in-Serve-clause-touched : goal.returns-in-Serve-clause-touched
returns-in-Serve-clause-touched g c = λ differ.
    serving_touches g.K.Sink.holds _ _ c.in-Serve.serving _ _ _ _ refl refl c.run_serve.ensures.serves c.run_serve.ensures.unwritten c.run_serve.ensures.no_memory differ

pub returns-in-Serve-clause-door_unfailed : goal.returns-in-Serve-clause-door_unfailed
returns-in-Serve-clause-door_unfailed g c = λ differ. serving_door_kept c.in-Serve.serving _ _ _ _ c.run_serve.ensures.serves differ

pub returns-in-Serve-clause-unheard : goal.returns-in-Serve-clause-unheard
returns-in-Serve-clause-unheard g c = λ either.
    ⊎_elim (λ nothing. absurd (subst ServesNothing c.in-Serve.is nothing)) (λ fault. (c.run_serve.ensures.unheard fault).0) either

pub returns-in-Serve-clause-undrawn : goal.returns-in-Serve-clause-undrawn
returns-in-Serve-clause-undrawn g c = λ nothing.
    let status = subst (λ command. DrawsNothing command (code_of c.run_serve.result)) c.in-Serve.is nothing in
    (c.run_serve.ensures.unheard (⊎_elim (λ wrote. inr (same_status c.run_serve.result WriteFault wrote)) (λ asked. inl (same_status c.run_serve.result KeeperFault asked)) status)).1

pub returns-in-Client-clause-ends : goal.returns-in-Client-clause-ends
returns-in-Client-clause-ends g c = rw c.in-Client.is c.run_dialing.ensures.ends

pub returns-in-Client-clause-faults : goal.returns-in-Client-clause-faults
returns-in-Client-clause-faults g c =
    record { source = c.run_dialing.ensures.source_unfailed; sink = λ differ. dialing_output_kept c.in-Client.asked _ _ _ _ _ _ c.run_dialing.ensures.dials differ }

pub returns-in-Client-clause-dials : goal.returns-in-Client-clause-dials
returns-in-Client-clause-dials g c = λ asked is.
    dialing_as _ c.in-Client.asked asked _ (λ calls. g.C.Dialer.Goes c.args.dialer.now calls c.run_dialing.new.dialer) _ _ _ _ c.in-Client.is c.run_dialing.ensures.dials is

pub returns-in-Client-clause-unwritten : goal.returns-in-Client-clause-unwritten
returns-in-Client-clause-unwritten g c = λ is. absurd (asks_no_keeper c.in-Client.asked _ _ _ _ _ _ c.run_dialing.ensures.dials is)

pub returns-in-Client-clause-undialed : goal.returns-in-Client-clause-undialed
returns-in-Client-clause-undialed g c = λ nothing. absurd (subst DialsNothing c.in-Client.is nothing)

pub returns-in-Client-clause-undrawn : goal.returns-in-Client-clause-undrawn
returns-in-Client-clause-undrawn g c = λ nothing. absurd (subst (λ command. DrawsNothing command (code_of c.run_dialing.result)) c.in-Client.is nothing)

pub returns-in-Client-clause-dialer_unfailed : goal.returns-in-Client-clause-dialer_unfailed
returns-in-Client-clause-dialer_unfailed g c = λ differ. dialing_dialer_kept c.in-Client.asked _ _ _ _ _ _ c.run_dialing.ensures.dials differ

pub returns-in-Client-clause-lots_unfailed : goal.returns-in-Client-clause-lots_unfailed
returns-in-Client-clause-lots_unfailed g c = λ asked is differ. dialing_lots_kept c.in-Client.asked _ _ _ _ _ _ c.run_dialing.ensures.dials differ

pub returns-in-User-clause-ends : goal.returns-in-User-clause-ends
returns-in-User-clause-ends g c = rw c.in-User.is
    (adding_ends c.in-User.asked _ _ _ (g.S.Source.left c.args.input.now) (g.S.Source.faults c.args.input.now) c.run_user.ensures.adds)

pub returns-in-User-clause-faults : goal.returns-in-User-clause-faults
returns-in-User-clause-faults g c =
    record { source = λ differ. refl; sink = λ differ. adding_sink_kept c.in-User.asked _ _ _ c.run_user.ensures.adds differ }

pub returns-in-User-clause-adds : goal.returns-in-User-clause-adds
returns-in-User-clause-adds g c = λ asked is. adding_as _ c.in-User.asked asked _ _ _ c.in-User.is c.run_user.ensures.adds is

pub returns-in-User-clause-untouched : goal.returns-in-User-clause-untouched
returns-in-User-clause-untouched g c = λ once status.
    ⊎_elim (λ read. absurd (not_by_reading c.in-User.asked _ _ _ c.run_user.ensures.adds read)) (λ memory. c.run_user.ensures.untouched (inr memory)) status
