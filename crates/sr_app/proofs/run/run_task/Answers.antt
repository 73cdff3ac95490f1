use Rattle.std.proofs.Common.{◌≡◌, ◌∙◌, sym, ap, subst}
use Rattle.sr_check.specs.declared.task.Stop.TheVariants as stop
use Rattle.sr_app.specs.Run.{IsEndedOtherwise, status_of}
use Rattle.sr_app.proofs.Answering.{same_stop, not_done, not_usage, not_ended}
use Rattle.sr_app.proofs.run.run_task.Goals as goal

pub returns-in-Ok-clause-ends : goal.returns-in-Ok-clause-ends
returns-in-Ok-clause-ends g c = record {
  done = λ is. c.in-Ok.ensures.done;
  usage = λ is. cc;
  refused = λ is. cc;
  read_fault = λ is. cc;
  write_fault = λ is. cc;
  no_memory = λ is. cc;
  ended = λ is. absurd is;
  reads = c.run.ensures.no_further;
}

pub returns-in-Err-clause-ends : goal.returns-in-Err-clause-ends
returns-in-Err-clause-ends g c = record {
  done = λ is. absurd (not_done c.in-Err.stop (sym c.from.ensures ∙ is));
  usage = λ is. not_usage c.in-Err.stop (sym c.from.ensures ∙ is);
  refused = λ is. (let same : c.in-Err.stop ≡ stop.Refused = same_stop c.in-Err.stop stop.Refused (sym c.from.ensures ∙ is) in c.in-Err.ensures.refused (cc));
  read_fault = λ is. (let same : c.in-Err.stop ≡ stop.ReadFault = same_stop c.in-Err.stop stop.ReadFault (sym c.from.ensures ∙ is) in c.in-Err.ensures.read_fault (cc));
  write_fault = λ is. (let same : c.in-Err.stop ≡ stop.WriteFault = same_stop c.in-Err.stop stop.WriteFault (sym c.from.ensures ∙ is) in c.in-Err.ensures.write_fault (cc));
  no_memory = λ is. (let same : c.in-Err.stop ≡ stop.NoMemory = same_stop c.in-Err.stop stop.NoMemory (sym c.from.ensures ∙ is) in c.in-Err.ensures.no_memory (cc));
  ended = λ is. absurd (not_ended c.in-Err.stop (subst IsEndedOtherwise c.from.ensures is));
  reads = c.run.ensures.no_further;
}

pub returns-in-Ok-clause-faults : goal.returns-in-Ok-clause-faults
returns-in-Ok-clause-faults g c = record { source = λ differ. c.in-Ok.ensures.source_unfailed (λ is. cc); sink = λ differ. c.in-Ok.ensures.sink_unfailed (λ is. cc) }

pub returns-in-Err-clause-faults : goal.returns-in-Err-clause-faults
returns-in-Err-clause-faults g c = record {
  source = λ differ. c.in-Err.ensures.source_unfailed (λ is. (let same : c.in-Err.stop ≡ stop.ReadFault = cc in differ (c.from.ensures ∙ ap status_of same)));
  sink = λ differ. c.in-Err.ensures.sink_unfailed (λ is. (let same : c.in-Err.stop ≡ stop.WriteFault = cc in differ (c.from.ensures ∙ ap status_of same)));
}
