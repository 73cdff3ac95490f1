use Rattle.std.proofs.Common.{rules, ◌<◌, ◌+◌, ◌^◌, ◌≡◌, ◌++◌, ◌∷◌, [], List, false, length, sym, ap, ◌∙◌, subst}
use Rattle.std.specs.List.{All}
use Rattle.hw_net.specs.Lane.{Lane}
use Rattle.hw_net.specs.Resting.{IsKnown}
use Rattle.hw_net.specs.Tally.{tally_of, with_lane}
use Rattle.hw_net.specs.Writers.{IsListOf, Lists}
use Rattle.hw_net.proofs.Gathering.{listed-more}
use Rattle.hw_net.proofs.Resting.{known-more}
use Rattle.hw_net.proofs.Tallying.{room-for-one, one-more}
use Rattle.hw_net.proofs.lanes.Lanes.add.Goals as goal

pub enter-requires : goal.enter-requires
enter-requires c =
    let small : length c.self.inside.items.items + 1 < 2 ^ 64 = search rules in
    room-for-one c.self.inside.items.items c.self.inside.tally c.self.invariant.counted small

pub invariant_of-self-2 : goal.invariant_of-self-2
invariant_of-self-2 c =
    let entered : c.enter.new.self ≡ with_lane c.args.lane c.self.inside.tally = search rules in
    let grown : c.push.new.self.items ≡ c.self.inside.items.items ++ c.args.lane ∷ [] = search rules in
    let there : c.index-lane.result.now ≡ c.args.lane = search rules in
    let own : IsKnown c.due.result c.args.lane = subst (λ (l : Lane). IsKnown c.due.result l) there c.due.ensures in
    let lists : Lists false c.args.lane c.self.inside.writers c.list.new.self = subst (λ (l : Lane). Lists false l c.self.inside.writers c.list.new.self) there c.list.ensures in
    record {
      counted = entered ∙ ap (with_lane c.args.lane) c.self.invariant.counted ∙ sym (one-more c.self.inside.items.items c.args.lane) ∙ ap (λ (l : List Lane). tally_of l) (sym grown);
      known = subst (All (IsKnown _)) (sym grown) (known-more c.self.inside.due c.due.result _ c.self.inside.items.items c.args.lane (search rules) (search rules) c.self.invariant.known own);
      listed = subst (IsListOf c.list.new.self) (sym grown) (listed-more c.self.inside.writers c.list.new.self c.self.inside.items.items c.args.lane c.self.invariant.listed lists);
    }
