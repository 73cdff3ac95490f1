use Rattle.hm_pack.proofs.reading.read_elements.Given as goal

abbrev pub ghost-whole : goal.ghost-whole
ghost-whole g a = g.ts

abbrev pub ghost-message : goal.ghost-message
ghost-message g a = g.ts
