use Rattle.hm_pack.proofs.reading.stream_invocation.Given as goal

abbrev pub ghost-headers : goal.ghost-headers
ghost-headers g a = g.ts

abbrev pub ghost-text : goal.ghost-text
ghost-text g a = g.ts

abbrev pub ghost-items : goal.ghost-items
ghost-items g a = g.ts

abbrev pub ghost-texts : goal.ghost-texts
ghost-texts g a = g.ts
