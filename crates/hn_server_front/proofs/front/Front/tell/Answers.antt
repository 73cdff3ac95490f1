use Rattle.std.proofs.Common.{◌≡◌, ◌∷◌, ap, ◌∙◌, suc, refl, sym, length, rules}
use Rattle.hn_server_front.specs.Stands.{IsTokenOf}
use Rattle.hd_server.specs.Lives.{Negotiated}
use Rattle.hd_server.specs.Texts.{token_of}
use Rattle.hn_server_front.specs.Bodies.{body_for}
use Rattle.hn_server_front.proofs.Making.{tells_next, given_ok}
use Rattle.hn_server_front.proofs.Leaving.{gone_made, gone_unused, leaves_told, tells_few}
use Rattle.hn_server_front.proofs.front.Front.tell.Goals as goal

pub returns-clause-ok : goal.returns-clause-ok
returns-clause-ok c = λ h s.
    let ok = c.in_ok-next.ensures.ok in
    let conn = c.in_ok-next.next.conn in
    let leaves = c.in_ok-next.next.gone in
    let next = ok.0 ∙ ap suc s.made_so in
    let gone = c.in_ok-next.ensures.gone h s in
    let room = c.in_ok-make_room.ensures in
    let token = token_of c.args.drawn conn in
    let updates = given_ok c.insert.result _ (sym c.if-is_err.ensures.value) c.insert.ensures.updates in
    let copied = c.in_ok-own.ensures ∙ c.in_ok-token.ensures in
    let sixteen : length c.args.drawn ≡ 16 = search rules in
    let of : IsTokenOf token conn = record { drawn = c.args.drawn; sixteen = sixteen; spelled = refl } in
    let entered = tells_next c.args.self.now c.make_room.new.self _ c.enter.new.self h conn token c.in_ok-own.own c.args.asked c.args.now _
    next ok.1 s room.same room.room refl refl refl updates copied c.enter.ensures c.in_ok-token.ensures refl refl of c.tokens_differ.ensures in
    let note = Negotiated conn token c.args.asked c.args.now in
    let left = c.give_way.ensures (note ∷ h) entered
    (gone_made c.args.self.now h c.args.self.now.live c.args.now leaves note s gone refl) in
    record {
      next = next;
      gone = gone;
      unused = gone_unused c.args.self.now h c.args.self.now.live c.args.now leaves s gone;
      body = c.in_ok-body.ensures ∙ ap (λ t. body_for c.args.transports conn t c.args.asked) c.in_ok-token.ensures;
      noted = leaves_told c.give_way.new.self leaves h conn token c.args.asked c.args.now left.0;
      few = tells_few c.args.self.now h c.args.self.now.live c.args.now s (c.in_ok-next.ensures.free h s) leaves conn token c.args.asked gone next;
      limit = left.1 ∙ c.enter.ensures.live ∙ room.same.live;
    }
