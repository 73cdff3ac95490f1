use Rattle.hm_pack.proofs.reading.sequence.Given as goal

abbrev pub ghost-number : goal.ghost-number
ghost-number g a = g.ts

abbrev pub ghost-element : goal.ghost-element
ghost-element g a = g.ts
