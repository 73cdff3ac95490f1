use Rattle.hm_pack.proofs.reading.close.Given as goal

abbrev pub ghost-optional_text : goal.ghost-optional_text
ghost-optional_text g a = g.ts

abbrev pub ghost-flag : goal.ghost-flag
ghost-flag g a = g.ts
