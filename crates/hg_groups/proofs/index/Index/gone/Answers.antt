use Rattle.std.proofs.Common.{refl}
use Rattle.hd_rooms.specs.Registry.{without}
use Rattle.hg_groups.proofs.IndexLemmas.{EachOnce-gone, Agree-gone, Stands-same, Stands-without, Stands-gone}
use Rattle.hg_groups.proofs.index.Index.gone.Goals as goal

pub returns-in_default : goal.returns-in_default
returns-in_default c = λ pairs s.
    Stands-same c.args.self.now _ (without c.args.conn pairs)
    (Stands-without c.members_follow.ensures c.pairs_stay_distinct.ensures c.args.self.now c.args.conn pairs c.in_default.ensures.names s)
    (λ other. refl)

pub invariant_of-self-2 : goal.invariant_of-self-2
invariant_of-self-2 c = record {
  agree = Agree-gone c.args.self.now.names.by_conn c.forget.new.self.by_conn c.args.self.now.members.by_name c.leave_all.new.self.by_name c.args.conn
      c.args.self.now.agree c.forget.ensures.forgotten c.leave_all.ensures;
  once = EachOnce-gone c.args.self.now.members.by_name c.leave_all.new.self.by_name c.args.conn c.args.self.now.once c.leave_all.ensures;
}

pub returns : goal.returns
returns c = λ pairs s. Stands-gone c.members_follow.ensures c.pairs_stay_distinct.ensures c.args.self.now _ c.args.conn pairs c.leave_all.ensures s
