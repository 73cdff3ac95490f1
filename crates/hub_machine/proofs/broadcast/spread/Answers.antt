use Rattle.std.proofs.Common.{arith}
use Rattle.hub_machine.specs.Spreads.{IsCutShort}
use Rattle.hub_machine.proofs.Delivered.{Leads, spreads_one_more, cut_at, as_they_were_later, as_it_was, are_spelled_at, on_err}
use Rattle.hub_machine.proofs.broadcast.spread.Goals as goal

pub deal-requires-clause-spelled : goal.deal-requires-clause-spelled
deal-requires-clause-spelled g c =
    are_spelled_at _ _ _ _ _ _ c.loop-conn-test.true (c.loop-conn.invariant.later _ (omega arith) c.loop-conn-test.true) c.in_ok-spellings.ensures.ok

pub returns-in_err-deal-clause-cut : goal.returns-in_err-deal-clause-cut
returns-in_err-deal-clause-cut g c =
    let own = g.M.Members.codec_of c.args.members.now in
    let cut = IsCutShort own c.args.to.now c.args.message.now in
    on_err {P = Leads g.M.Members.Delivers cut c.args.members.now c.deal.new.members} _ (λ s before d.
    let so_far = c.loop-conn.invariant.spreads s before d in
    let one = c.in_err-deal.ensures.refused s so_far.0 so_far.2 in
    (one.0, cut_at _ _ _ _ _ _ _ c.loop-conn-test.true so_far.1 one.1, one.2))

pub returns-in_err-deal-clause-others : goal.returns-in_err-deal-clause-others
returns-in_err-deal-clause-others g c = as_it_was _ _ _ _ _ c.loop-conn-test.true c.in_err-deal.ensures.others c.loop-conn.invariant.others

pub loop-conn-preserved : goal.loop-conn-preserved
loop-conn-preserved g c =
    let codec_of = g.M.Members.codec_of in
    let as_before = c.loop-conn.invariant.later _ (omega arith) c.loop-conn-test.true in
    record {
      spreads = λ s before d.
          let so_far = c.loop-conn.invariant.spreads s before d in
          let one = c.in_ok-deal.ensures.ok s so_far.0 so_far.2 in
          (one.0, spreads_one_more _ _ _ _ _ _ _ _ c.loop-conn-test.true as_before so_far.1 one.1, one.2);
      later = as_they_were_later (codec_of c.deal.new.members) (codec_of c.loop-conn.members) (codec_of c.args.members.now) c.args.to.now c.loop-conn.conn-index
          c.requires.once c.in_ok-deal.ensures.others c.loop-conn.invariant.later;
      others = as_it_was _ _ _ _ _ c.loop-conn-test.true c.in_ok-deal.ensures.others c.loop-conn.invariant.others;
    }
