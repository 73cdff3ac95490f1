use Rattle.hm_pack.proofs.reading.stream_item.Given as goal

abbrev pub ghost-headers : goal.ghost-headers
ghost-headers g a = g.ts

abbrev pub ghost-text : goal.ghost-text
ghost-text g a = g.ts

abbrev pub ghost-any : goal.ghost-any
ghost-any g a = g.ts
