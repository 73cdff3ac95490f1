use Rattle.std.proofs.Common.{◌∙◌, sym, ap, inl, inr, ⊎_elim, subst, refl, Err}
use Rattle.sr_words.specs.Words.{Asks, IsNoCommand}
use Rattle.sr_words.specs.declared.commands.Command.TheVariants.{Client, Serve, User}
use Rattle.sr_serve.specs.declared.serving.ServeError.TheVariants as end
use Rattle.sr_app.specs.declared.run.Status.TheVariants.{Done, Usage, ReadFault, WriteFault, DoorFault, KeeperFault, NoMemory, BrokenOff}
use Rattle.sr_app.specs.Run.{DialsNothing, DrawsNothing, KeepsNothing, ReadsNothing, ServesNothing, WritesOnce, code_of}
use Rattle.sr_app.proofs.Answering.{same_status, is_code, reads_nothing}
use Rattle.sr_app.proofs.Outside.{auditor_of, client_of, door_or_dialer_of, ended_with, not_by_words, not_in_memory, server_or_user_of}
use Rattle.sr_app.proofs.Told.{appended_nothing}
use Rattle.sr_app.proofs.run.run.Goals as goal

pub returns-in-Ok-clause-status : goal.returns-in-Ok-clause-status
returns-in-Ok-clause-status g c = rw c.code.ensures (is_code c.carry_out.result)

pub returns-in-Ok-clause-done : goal.returns-in-Ok-clause-done
returns-in-Ok-clause-done g c = λ is.
    (c.in-Ok.command, c.in-Ok.ensures.ok, c.carry_out.ensures.ends.done (same_status c.carry_out.result Done (sym c.code.ensures ∙ is)))

pub returns-in-Ok-clause-wrong_words : goal.returns-in-Ok-clause-wrong_words
returns-in-Ok-clause-wrong_words g c = λ none. absurd (none c.in-Ok.command c.in-Ok.ensures.ok.holds)

pub returns-in-Ok-clause-untouched : goal.returns-in-Ok-clause-untouched
returns-in-Ok-clause-untouched g c = λ command asks once status.
    c.carry_out.ensures.untouched (subst WritesOnce (c.in-Ok.ensures.ok.only command asks) once)
    (⊎_elim (λ is. inl (same_status c.carry_out.result ReadFault (sym c.code.ensures ∙ is))) (λ is. inr (same_status c.carry_out.result NoMemory (sym c.code.ensures ∙ is))) status)

pub returns-in-Ok-clause-unread : goal.returns-in-Ok-clause-unread
returns-in-Ok-clause-unread g c = λ either.
    ⊎_elim (λ none. absurd (none c.in-Ok.command c.in-Ok.ensures.ok.holds))
    (λ soaks. c.carry_out.ensures.unread (subst ReadsNothing (c.in-Ok.ensures.ok.only soaks.0 soaks.1.0) soaks.1.1)) either

pub returns-in-Err-NoCommand-clause-usage : goal.returns-in-Err-NoCommand-clause-usage
returns-in-Err-NoCommand-clause-usage g c = λ is.
    let none : IsNoCommand c.args.words.now = c.parse.ensures.no_command (cc) in
    (none, c.write.ensures.whole (same_status c.write.result Usage (sym c.code-in-Err-NoCommand.ensures ∙ is)))

pub returns-in-Err-NoCommand-clause-write_fault : goal.returns-in-Err-NoCommand-clause-write_fault
returns-in-Err-NoCommand-clause-write_fault g c = λ is.
    let none : IsNoCommand c.args.words.now = c.parse.ensures.no_command (cc) in
    let part = c.write.ensures.part (same_status c.write.result WriteFault (sym c.code-in-Err-NoCommand.ensures ∙ is)) in
    (part.0, inr (none, part.1))

pub returns-in-Err-NoCommand-clause-within : goal.returns-in-Err-NoCommand-clause-within
returns-in-Err-NoCommand-clause-within g c = λ command asks. absurd (c.parse.ensures.no_command (cc) command asks)

pub returns-in-Err-NoMemory-clause-within : goal.returns-in-Err-NoMemory-clause-within
returns-in-Err-NoMemory-clause-within g c = λ command asks. reads_nothing c.empty_waits.ensures command (g.S.Source.left c.args.input.now)

pub returns-in-Ok-clause-source_unfailed : goal.returns-in-Ok-clause-source_unfailed
returns-in-Ok-clause-source_unfailed g c = λ differ. c.carry_out.ensures.faults.source (λ is. differ (c.code.ensures ∙ ap code_of is))

pub returns-in-Ok-clause-sink_unfailed : goal.returns-in-Ok-clause-sink_unfailed
returns-in-Ok-clause-sink_unfailed g c = λ differ. c.carry_out.ensures.faults.sink (λ is. differ (c.code.ensures ∙ ap code_of is))

pub returns-in-Err-NoCommand-clause-sink_unfailed : goal.returns-in-Err-NoCommand-clause-sink_unfailed
returns-in-Err-NoCommand-clause-sink_unfailed g c = λ differ. c.write.ensures.unfailed (λ is. differ (c.code-in-Err-NoCommand.ensures ∙ ap code_of is))

pub returns-in-Ok-clause-serves : goal.returns-in-Ok-clause-serves
returns-in-Ok-clause-serves g c = λ asked asks.
    (c.carry_out.result, c.code.ensures, c.carry_out.ensures.serves asked (sym (c.in-Ok.ensures.ok.only (Serve asked) asks)))

pub returns-in-Ok-clause-ended : goal.returns-in-Ok-clause-ended
returns-in-Ok-clause-ended g c = λ status outside is.
    (c.in-Ok.command, c.in-Ok.ensures.ok, ended_with _ c.carry_out.result status _ _ c.carry_out.ensures.ends (same_status c.carry_out.result status (sym c.code.ensures ∙ is)) outside)

pub returns-in-Ok-clause-keeper_fault : goal.returns-in-Ok-clause-keeper_fault
returns-in-Ok-clause-keeper_fault g c = λ is.
    let wrote = ended_with _ c.carry_out.result KeeperFault _ _ c.carry_out.ensures.ends (same_status c.carry_out.result KeeperFault (sym c.code.ensures ∙ is)) tt in
    ⊎_elim (λ server. inl (server.0, subst (Asks c.args.words.now) server.1 c.in-Ok.ensures.ok.holds))
    (λ user. inr (user.0, subst (Asks c.args.words.now) user.1 c.in-Ok.ensures.ok.holds)) (server_or_user_of c.in-Ok.command _ _ _ wrote.1)

pub returns-in-Ok-clause-outside_fault : goal.returns-in-Ok-clause-outside_fault
returns-in-Ok-clause-outside_fault g c = λ is.
    let wrote = ended_with _ c.carry_out.result DoorFault _ _ c.carry_out.ensures.ends (same_status c.carry_out.result DoorFault (sym c.code.ensures ∙ is)) tt in
    ⊎_elim (λ server. inl (server.0, subst (Asks c.args.words.now) server.1 c.in-Ok.ensures.ok.holds))
    (λ dialer. inr (dialer.0, subst (Asks c.args.words.now) dialer.1 c.in-Ok.ensures.ok.holds)) (door_or_dialer_of c.in-Ok.command _ _ _ wrote.1)

pub returns-in-Ok-clause-dial_statuses : goal.returns-in-Ok-clause-dial_statuses
returns-in-Ok-clause-dial_statuses g c = λ is.
    let dialer = client_of c.in-Ok.command c.carry_out.result _ _ c.carry_out.ensures.ends (⊎_elim (λ refused. inl (sym c.code.ensures ∙ refused))
    (λ other. inr (⊎_elim (λ lots. inl (sym c.code.ensures ∙ lots)) (λ turns. inr (sym c.code.ensures ∙ turns)) other)) is) in
    (dialer.0, subst (Asks c.args.words.now) dialer.1 c.in-Ok.ensures.ok.holds)

pub returns-in-Ok-clause-audit_status : goal.returns-in-Ok-clause-audit_status
returns-in-Ok-clause-audit_status g c = λ is.
    let wrote = ended_with _ c.carry_out.result BrokenOff _ _ c.carry_out.ensures.ends
    (same_status c.carry_out.result BrokenOff (sym c.code.ensures ∙ is)) tt in
    let auditor = auditor_of c.in-Ok.command _ _ _ wrote.1 in
    (auditor.0, subst (Asks c.args.words.now) auditor.1 c.in-Ok.ensures.ok.holds)

pub returns-in-Ok-clause-dials : goal.returns-in-Ok-clause-dials
returns-in-Ok-clause-dials g c = λ asked asks.
    (c.carry_out.result, c.code.ensures, c.carry_out.ensures.dials asked (sym (c.in-Ok.ensures.ok.only (Client asked) asks)))

pub returns-in-Ok-clause-dialer_unfailed : goal.returns-in-Ok-clause-dialer_unfailed
returns-in-Ok-clause-dialer_unfailed g c = λ differ. c.carry_out.ensures.dialer_unfailed (λ is. differ (c.code.ensures ∙ ap code_of is))

pub returns-in-Ok-clause-lots_unfailed : goal.returns-in-Ok-clause-lots_unfailed
returns-in-Ok-clause-lots_unfailed g c = λ asked asks differ.
    c.carry_out.ensures.lots_unfailed asked (sym (c.in-Ok.ensures.ok.only (Client asked) asks)) (λ is. differ (c.code.ensures ∙ ap code_of is))

pub returns-in-Ok-clause-undialed : goal.returns-in-Ok-clause-undialed
returns-in-Ok-clause-undialed g c = λ either.
    ⊎_elim (λ none. absurd (none c.in-Ok.command c.in-Ok.ensures.ok.holds))
    (λ other. c.carry_out.ensures.undialed (subst DialsNothing (c.in-Ok.ensures.ok.only other.0 other.1.0) other.1.1)) either

pub returns-in-Ok-clause-undrawn : goal.returns-in-Ok-clause-undrawn
returns-in-Ok-clause-undrawn g c = λ either.
    ⊎_elim (λ none. absurd (none c.in-Ok.command c.in-Ok.ensures.ok.holds))
    (λ other. c.carry_out.ensures.undrawn (subst (λ n. DrawsNothing c.in-Ok.command n) c.code.ensures
    (subst (λ command. DrawsNothing command c.code.result) (c.in-Ok.ensures.ok.only other.0 other.1.0) other.1.1))) either

pub returns-in-Ok-clause-door_unfailed : goal.returns-in-Ok-clause-door_unfailed
returns-in-Ok-clause-door_unfailed g c = λ differ. c.carry_out.ensures.door_unfailed (λ is. differ (c.code.ensures ∙ ap code_of is))

pub returns-in-Ok-clause-unwritten : goal.returns-in-Ok-clause-unwritten
returns-in-Ok-clause-unwritten g c = λ is. c.carry_out.ensures.unwritten (same_status c.carry_out.result KeeperFault (sym c.code.ensures ∙ is))

pub returns-in-Ok-clause-unheard : goal.returns-in-Ok-clause-unheard
returns-in-Ok-clause-unheard g c = λ is. c.carry_out.ensures.unheard
    (⊎_elim (λ wrote. inr (inr (same_status c.carry_out.result WriteFault (sym c.code.ensures ∙ wrote))))
    (λ asked. inr (inl (same_status c.carry_out.result KeeperFault (sym c.code.ensures ∙ asked)))) is)

pub returns-in-Ok-clause-unserved : goal.returns-in-Ok-clause-unserved
returns-in-Ok-clause-unserved g c = λ either.
    ⊎_elim (λ none. absurd (none c.in-Ok.command c.in-Ok.ensures.ok.holds))
    (λ other. c.carry_out.ensures.unheard (inl (subst ServesNothing (c.in-Ok.ensures.ok.only other.0 other.1.0) other.1.1))) either

pub returns-in-Ok-clause-unasked : goal.returns-in-Ok-clause-unasked
returns-in-Ok-clause-unasked g c = λ either.
    ⊎_elim (λ none. absurd (none c.in-Ok.command c.in-Ok.ensures.ok.holds))
    (λ other. c.carry_out.ensures.unasked (subst KeepsNothing (c.in-Ok.ensures.ok.only other.0 other.1.0) other.1.1)) either

pub returns-in-Ok-clause-adds : goal.returns-in-Ok-clause-adds
returns-in-Ok-clause-adds g c = λ asked asks.
    (c.carry_out.result, c.code.ensures, c.carry_out.ensures.adds asked (sym (c.in-Ok.ensures.ok.only (User asked) asks)))

pub returns-in-Err-NoCommand-clause-adds : goal.returns-in-Err-NoCommand-clause-adds
returns-in-Err-NoCommand-clause-adds g c = λ asked asks. absurd (c.parse.ensures.no_command (cc) (User asked) asks)

pub returns-in-Err-NoMemory-clause-adds : goal.returns-in-Err-NoMemory-clause-adds
returns-in-Err-NoMemory-clause-adds g c = λ asked asks.
    (NoMemory, c.code-in-Err-NoMemory.ensures, (record { noted = refl; is_new = tt; kept = refl; cause = refl }, (refl, refl)))

pub returns-in-Err-NoCommand-clause-serves : goal.returns-in-Err-NoCommand-clause-serves
returns-in-Err-NoCommand-clause-serves g c = λ asked asks. absurd (c.parse.ensures.no_command (cc) (Serve asked) asks)

pub returns-in-Err-NoMemory-clause-serves : goal.returns-in-Err-NoMemory-clause-serves
returns-in-Err-NoMemory-clause-serves g c = λ asked asks.
    (NoMemory, c.code-in-Err-NoMemory.ensures, (Err end.NoMemory, refl, (inl (record { holds = refl; uncalled = g.met.D.Door.stays c.args.door.now; heard_at = refl }, inl refl), refl, refl)))

pub returns-in-Err-NoCommand-clause-dials : goal.returns-in-Err-NoCommand-clause-dials
returns-in-Err-NoCommand-clause-dials g c = λ asked asks. absurd (c.parse.ensures.no_command (cc) (Client asked) asks)

pub returns-in-Err-NoCommand-clause-ended : goal.returns-in-Err-NoCommand-clause-ended
returns-in-Err-NoCommand-clause-ended g c = λ status outside is.
    absurd (not_by_words c.write.result status c.write.ensures.same outside (sym c.code-in-Err-NoCommand.ensures ∙ is))

pub returns-in-Err-NoMemory-clause-dials : goal.returns-in-Err-NoMemory-clause-dials
returns-in-Err-NoMemory-clause-dials g c = λ asked asks.
    (NoMemory, c.code-in-Err-NoMemory.ensures, inr ((appended_nothing (g.K.Sink.holds c.args.out.now), refl), (refl, refl)))

pub returns-in-Err-NoMemory-clause-ended : goal.returns-in-Err-NoMemory-clause-ended
returns-in-Err-NoMemory-clause-ended g c = λ status outside is. absurd (not_in_memory status outside (sym c.code-in-Err-NoMemory.ensures ∙ is))
