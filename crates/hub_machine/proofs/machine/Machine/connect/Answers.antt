use Rattle.std.proofs.Common.{is_some, sym, ap, subst, option_copied, arith}
use Rattle.std.specs.BTreeMap.{btree_map_len}
use Rattle.hd_delivery.specs.declared.vocabulary.Side.TheVariants.{Server}
use Rattle.hd_rooms.specs.Registry.{named}
use Rattle.hg_groups.specs.Standing.{StandsRegistry}
use Rattle.hj_jobs.specs.Meaning.{meaning}
use Rattle.hp_peer.specs.Stands.{settings}
use Rattle.hub_machine.proofs.Awake.{AddsOne}
use Rattle.hub_machine.proofs.Begun.{NamesIn, at_most_one, begins}
use Rattle.hub_machine.proofs.machine.Machine.connect.Goals.{in-Some+in_ok-name, in_default}
use Rattle.hub_machine.proofs.machine.Machine.connect.Goals as goal

pub returns : goal.returns
returns g c w wire house from_one fresh s =
    let hub = meaning g.H.Hub.begin_of g.H.Hub.step_of in
    let t = settings Server c.args.config wire c.args.who in
    let mid = c.match-user.self in
    let adds : AddsOne mid.idle_set c.reserve.new.self c.add.new.self (btree_map_len mid.peers) (btree_map_len c.insert.new.self) c.args.conn = record {
      same = c.reserve.ensures.same;
      capacity = c.reserve.ensures.capacity;
      room = let e = c.len.ensures.len in let r = c.in_ok-reserve.ensures.room in omega (arith, e, r);
      adds = c.add.ensures;
      most = at_most_one (is_some c.in_ok-insert.field-0) (btree_map_len mid.peers) (btree_map_len c.insert.new.self) c.in_ok-insert.ensures.len;
    } in
    elim c.match-user.branch [
      | in-Some+in_ok-name b ↦ begins {H = g.row.H.Denot} {Job = g.row.H-Job.Denot} hub c.args.self.now mid b.name.new.self
          c.reserve.new.self c.add.new.self c.insert.new.self w c.args.conn t (option_copied c.args.user) c.in_ok-peer.peer s fresh from_one b.self-is c.in_ok-insert.ensures.updates adds
          (c.in_ok-peer.ensures.stands wire house)
          (subst (λ o. NamesIn {H = g.row.H.Denot} {Job = g.row.H-Job.Denot} c.args.self.now mid c.args.conn (option_copied o))
          (sym b.in-Some.is) (λ l r. subst (λ x. StandsRegistry x (named l b.in-Some.user.now c.args.conn)) (sym (ap (λ m. m.registry) b.self-is))
          (b.in_ok-name.ensures.named l r)))
      | in_default b ↦ begins {H = g.row.H.Denot} {Job = g.row.H-Job.Denot} hub c.args.self.now mid c.args.self.now.registry
          c.reserve.new.self c.add.new.self c.insert.new.self w c.args.conn t (option_copied c.args.user) c.in_ok-peer.peer s fresh from_one b.self-is c.in_ok-insert.ensures.updates adds
          (c.in_ok-peer.ensures.stands wire house)
          (subst (λ o. NamesIn {H = g.row.H.Denot} {Job = g.row.H-Job.Denot} c.args.self.now mid c.args.conn (option_copied o))
          (sym b.in_default.is) (ap (λ m. m.registry) b.self-is))
    ]
