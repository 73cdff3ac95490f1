use Rattle.std.proofs.Common.{rules, ◌≡◌, sym, ◌∙◌}
use Rattle.std.specs.Prelude.{count_by}
use Rattle.hd_rooms.specs.Kept.{is_of_room}
use Rattle.hk_keeper.proofs.Texts.{texts_count}
use Rattle.hk_keeper.proofs.reading.count_of.Goals as goal

pub returns : goal.returns
returns c =
    let counted : c.count.result ≡ count_by (is_of_room c.args.room.now) c.args.rows.now = search rules in
    counted ∙ sym (texts_count c.args.room.now c.args.rows.now)
