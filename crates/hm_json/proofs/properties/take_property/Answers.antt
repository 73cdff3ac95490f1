use Rattle.std.proofs.Common.{◌≡◌, ◌∷◌, sym, ◌∙◌, rules}
use Rattle.std.specs.Vec.Iter.{into_iter_items}
use Rattle.hm_json.proofs.Lookups.{found, passed}
use Rattle.hm_json.proofs.properties.take_property.Goals as goal

pub returns-then-eq : goal.returns-then-eq
returns-then-eq c =
    let more : into_iter_items c.loop-key.key-iterator ≡ (c.in-Some.key, c.in-Some.value) ∷ into_iter_items c.next.new.self = search rules in
    let same = sym (rw c.as_str.ensures at c.eq.ensures) ∙ c.if-eq.true in
    found c.args.name.now (c.in-Some.key, c.in-Some.value) (into_iter_items c.next.new.self) _ same (rw more at c.loop-key.invariant)

pub loop-key-preserved : goal.loop-key-preserved
loop-key-preserved c =
    let more : into_iter_items c.loop-key.key-iterator ≡ (c.in-Some.key, c.in-Some.value) ∷ into_iter_items c.next.new.self = search rules in
    let other = sym (rw c.as_str.ensures at c.eq.ensures) ∙ c.if-eq.false in
    passed c.args.name.now (c.in-Some.key, c.in-Some.value) (into_iter_items c.next.new.self) _ other (rw more at c.loop-key.invariant)
