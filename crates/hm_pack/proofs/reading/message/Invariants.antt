use Rattle.hm_pack.proofs.reading.message.Given as goal

abbrev pub ghost-invocation : goal.ghost-invocation
ghost-invocation g a = g.ts

abbrev pub ghost-stream_item : goal.ghost-stream_item
ghost-stream_item g a = g.ts

abbrev pub ghost-completion : goal.ghost-completion
ghost-completion g a = g.ts

abbrev pub ghost-stream_invocation : goal.ghost-stream_invocation
ghost-stream_invocation g a = g.ts

abbrev pub ghost-cancel_invocation : goal.ghost-cancel_invocation
ghost-cancel_invocation g a = g.ts

abbrev pub ghost-close : goal.ghost-close
ghost-close g a = g.ts

abbrev pub ghost-number : goal.ghost-number
ghost-number g a = g.ts

abbrev pub ghost-sequence : goal.ghost-sequence
ghost-sequence g a = g.ts
