use Rattle.std.proofs.Common.{ap, ◌∙◌, ◌∷◌, suc, refl}
use Rattle.hd_server.specs.Lives.{Opened}
use Rattle.hn_server_front.proofs.Making.{opens_next}
use Rattle.hn_server_front.proofs.Leaving.{gone_made, gone_unused, leaves_opened, opens_few}
use Rattle.hn_server_front.proofs.front.Front.open.Goals as goal

pub returns-clause-ok : goal.returns-clause-ok
returns-clause-ok c = λ h s.
    let ok = c.in_ok-next.ensures.ok in
    let conn = c.in_ok-next.next.conn in
    let next = ok.0 ∙ ap suc s.made_so in
    let gone = c.in_ok-next.ensures.gone h s in
    let room = c.in_ok-make_room.ensures in
    let entered = opens_next c.args.self.now c.make_room.new.self c.enter.new.self h c.args.now conn next ok.1 s room.same room.room c.enter.ensures in
    let left = c.give_way.ensures (Opened conn c.args.now ∷ h) entered
    (gone_made c.args.self.now h c.args.self.now.live c.args.now c.in_ok-next.next.gone (Opened conn c.args.now) s gone refl) in
    record {
      next = next;
      gone = gone;
      unused = gone_unused c.args.self.now h c.args.self.now.live c.args.now c.in_ok-next.next.gone s gone;
      noted = leaves_opened c.give_way.new.self c.in_ok-next.next.gone h conn c.args.now left.0;
      few = opens_few c.args.self.now h c.args.self.now.live c.args.now s (c.in_ok-next.ensures.free h s) c.in_ok-next.next.gone conn gone next;
      limit = left.1 ∙ c.enter.ensures.live ∙ room.same.live;
    }
