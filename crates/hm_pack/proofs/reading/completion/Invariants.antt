use Rattle.hm_pack.proofs.reading.completion.Given as goal

abbrev pub ghost-headers : goal.ghost-headers
ghost-headers g a = g.ts

abbrev pub ghost-text : goal.ghost-text
ghost-text g a = g.ts

abbrev pub ghost-ending : goal.ghost-ending
ghost-ending g a = g.ts
