use Rattle.std.proofs.Common.{rules, ◌≡◌, true}
use Rattle.hw_net.specs.Writers.{IsListOf}
use Rattle.hw_net.proofs.Gathering.{flushed-all, flushed-listed, flushed-none, listed-flushed, listed-still}
use Rattle.hw_net.proofs.lanes.Lanes.flush.Goals as goal

pub returns-then-not-has_writers-clause-flushed : goal.returns-then-not-has_writers-clause-flushed
returns-then-not-has_writers-clause-flushed g c = flushed-none (g.W.Wires.trace c.args.wires.now) c.args.self.now.items (c.has_writers.ensures.none (search rules))

pub returns-then-not-self-clause-flushed : goal.returns-then-not-self-clause-flushed
returns-then-not-self-clause-flushed g c =
    let trace = g.W.Wires.trace in
    rw (← c.self-then-not-self.view_is) at (flushed-all (trace c.args.wires.now) (trace c.write_all.new.wires) c.args.self.now.items c.write_all.new.self.items c.write_all.ensures.written)

pub invariant_of-self-3 : goal.invariant_of-self-3
invariant_of-self-3 g c =
    let w = c.write_each.ensures.written in
    let taken : c.replace-listed.result ≡ c.self.inside.writers = search rules in
    let looked : c.deref-3.result.now ≡ c.self-2.inside.items.items = search rules in
    let listed : IsListOf c.self.inside.writers c.write_each.new.self.items = listed-flushed c.self.inside.writers _ _ _ _ w.2 c.self.invariant.listed in
    let here : IsListOf c.self.inside.writers c.self-2.inside.items.items = rw (← c.self-2.view_is) at listed in
    record {
      counted = c.self-2.invariant.counted;
      known = c.self-2.invariant.known;
      listed = listed-still c.self.inside.writers c.replace-listed.result c.keep.new.self c.self-2.inside.items.items c.deref-3.result.now taken looked c.keep.ensures.whole c.keep.ensures.kept here;
    }

pub returns-clause-flushed : goal.returns-clause-flushed
returns-clause-flushed g c =
    let trace = g.W.Wires.trace in
    let taken : c.replace-listed.result ≡ c.self.inside.writers = search rules in
    let same : c.deref-2.result.now ≡ c.self.inside.writers.wires.items = rw (← taken) (search rules) in
    let whole : c.self.inside.writers.is_whole ≡ true = search rules in
    rw (← c.self.view_is)
    (rw (← c.self-2.view_is) at (flushed-listed (trace c.args.wires.now) (trace c.write_each.new.wires) c.self.inside.writers c.deref-2.result.now c.self.inside.items.items c.write_each.new.self.items same whole
    c.self.invariant.listed c.write_each.ensures.written))
