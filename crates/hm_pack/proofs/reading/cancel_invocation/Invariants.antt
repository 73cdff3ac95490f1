use Rattle.hm_pack.proofs.reading.cancel_invocation.Given as goal

abbrev pub ghost-headers : goal.ghost-headers
ghost-headers g a = g.ts

abbrev pub ghost-text : goal.ghost-text
ghost-text g a = g.ts
