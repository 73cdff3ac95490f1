use Rattle.std.proofs.Common.{◌≡◌, length, arith, rules}
use Rattle.hm_pack.proofs.FromPlace.{found_at, absent_at, rest_after}
use Rattle.hm_pack.proofs.elements.element.Goals as goal

pub returns-then-at-len-clause-found : goal.returns-then-at-len-clause-found
returns-then-at-len-clause-found g c =
    let count : c.len.result ≡ length c.args.array.now.items = search rules in
    rw c.replace.ensures.value (found_at c.args.array.now.items g.ts c.args.at c.len.result c.index_mut.result.now count c.if-at-len.true c.index_mut.ensures.value c.requires)

pub returns-then-at-len-clause-rest : goal.returns-then-at-len-clause-rest
returns-then-at-len-clause-rest g c = rest_after c.args.array.now.items g.ts c.args.at c.replace.new.dest c.requires

pub returns-clause-found : goal.returns-clause-found
returns-clause-found g c =
    let count : c.len.result ≡ length c.args.array.now.items = search rules in
    absent_at c.args.array.now.items g.ts c.args.at (omega (arith, count, c.if-at-len.false)) c.requires
