use Rattle.hm_pack.proofs.elements.optional_text.Given as goal

abbrev pub ghost-needed : goal.ghost-needed
ghost-needed g a = g.ts
