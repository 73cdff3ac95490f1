use Rattle.hm_pack.proofs.elements.needed.Given as goal

abbrev pub ghost-element : goal.ghost-element
ghost-element g a = g.ts
