use Rattle.std.proofs.Common.{◌≡◌, rules, ◌∙◌, ap}
use Rattle.std.specs.Vec.Iter.{into_iter_items}
use Rattle.std.proofs.lemmas.List.{nil_from_length}
use Rattle.hm_message.specs.Headers.{header_at}
use Rattle.hm_message.proofs.Puts.{last_counts, headers_kept}
use Rattle.hm_message.proofs.headers.Headers.of.Goals as goal

pub returns-clause-last : goal.returns-clause-last
returns-clause-last c =
    λ key. let e : c.in_ok-pairs.pairs.items ≡ c.loop-key.map.entries = search rules in
    let none = nil_from_length (into_iter_items c.loop-key.key-iterator) (search rules) in
    ap (header_at key) (e ∙ rw none at c.loop-key.invariant) ∙ last_counts c.args.pairs.items key

pub returns-clause-unchanged : goal.returns-clause-unchanged
returns-clause-unchanged c =
    λ h. let e : c.in_ok-pairs.pairs.items ≡ c.loop-key.map.entries = search rules in
    let none = nil_from_length (into_iter_items c.loop-key.key-iterator) (search rules) in
    e ∙ rw none at c.loop-key.invariant ∙ headers_kept c.args.pairs.items h
