use Rattle.std.proofs.Common.{◌≡◌, refl, sym, Option, None, Some, false}
use Rattle.std.specs.Prelude.{is_some}
use Rattle.hw_socket.proofs.Takings.{sends}
use Rattle.hw_socket.proofs.lane.SocketLane.send.Goals as goal

none_there : {A : Type 0} (o : Option A) → is_some o ≡ false → o ≡ None
none_there None is = refl
none_there (Some a) is = absurd (cc is)

pub returns-clause-said : goal.returns-clause-said
returns-clause-said c =
    let here = none_there c.self.inside.ending (sym c.if-is_some.ensures) in
    rw (← c.self.view_is) (
      here,
      λ is_text. c.if-not-may_be_sent.ensures.sendable refl is_text,
      (_, sends c.self.inside.context c.args.text c.args.bytes.now (c.self.invariant.active here), rw (c.in_ok-put.ensures.put, c.kind.ensures) refl),
    )
