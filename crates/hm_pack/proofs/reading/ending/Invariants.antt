use Rattle.hm_pack.proofs.reading.ending.Given as goal

abbrev pub ghost-whole : goal.ghost-whole
ghost-whole g a = g.ts

abbrev pub ghost-text : goal.ghost-text
ghost-text g a = g.ts

abbrev pub ghost-any : goal.ghost-any
ghost-any g a = g.ts
