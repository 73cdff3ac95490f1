use Rattle.std.proofs.Common.{◌≡◌, Some, sym, ◌∙◌}
use Rattle.hv_value.specs.View.{trees_of}
use Rattle.hub_rooms.proofs.Methods.{posts}
use Rattle.hub_rooms.specs.Arguments.{room_and_text}
use Rattle.hub_rooms.proofs.deeds.post.Goals as goal

pub returns : goal.returns
returns c =
    let read : room_and_text (trees_of c.args.arguments.now) ≡ Some (c.in-Some.room, c.in-Some.text) =
    sym c.in_ok-room.ensures ∙ c.in-Some.is
    in
    posts (trees_of c.args.arguments.now) c.args.who.now c.in-Some.room c.in-Some.text c.in_ok-copy.field-0 c.in_ok-copy-4.field-0 c.in_ok-copy-3.field-0
    c.in_ok-copy-2.field-0 c.in_ok-target.target c.in_ok-notice.notice c.in_ok-two.field-0.items
    read c.in_ok-copy.ensures c.in_ok-copy-4.ensures c.in_ok-copy-3.ensures c.in_ok-copy-2.ensures c.in_ok-target.ensures c.in_ok-notice.ensures c.in_ok-two.ensures
