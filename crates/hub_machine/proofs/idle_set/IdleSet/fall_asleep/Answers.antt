use Rattle.std.proofs.Common.{refl, sym, subst}
use Rattle.hub_machine.proofs.Deadlines.{Naps, SetsDeadline, falls_asleep}
use Rattle.hub_machine.proofs.idle_set.IdleSet.fall_asleep.Goals.{in-Some+in_ok-insert, in_default}
use Rattle.hub_machine.proofs.idle_set.IdleSet.fall_asleep.Goals as goal

pub returns-clause-sleeps : goal.returns-clause-sleeps
returns-clause-sleeps c kept awake =
    let old = c.args.self.now in
    let now = record c.match-idle_peer.self { awake = c.remove.new.self; idle_peers = c.insert-2.new.self } in
    let slept : Naps c.match-idle_peer.self now c.args.conn c.args.idle_peer = record {
      idle_peers = c.in_ok-insert-2.ensures.updates;
      removed = c.remove.ensures.removed;
      rising = c.remove.ensures.rising;
      capacity = c.remove.ensures.capacity;
      deadlines = refl;
      clock = refl;
    } in
    elim c.match-idle_peer.branch [
      | in-Some+in_ok-insert b ↦ falls_asleep old c.match-idle_peer.self _ c.args.conn c.args.idle_peer b.insert.new.self b.self-is
          (subst (λ deadline. SetsDeadline deadline c.args.conn old.deadlines b.insert.new.self) (sym b.in-Some.is) b.in_ok-insert.ensures.updates) slept kept awake
      | in_default b ↦ falls_asleep old c.match-idle_peer.self _ c.args.conn c.args.idle_peer old.deadlines b.self-is
          (subst (λ deadline. SetsDeadline deadline c.args.conn old.deadlines old.deadlines) (sym b.in_default.is) refl) slept kept awake
    ]
