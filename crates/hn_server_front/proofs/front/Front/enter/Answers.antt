use Rattle.std.proofs.Common.{◌<◌, ◌==◌, length, if◌then◌else◌, refl, ap, ◌∙◌, arith}
use Rattle.std.specs.Vec.{vec_capacity}
use Rattle.hd_delivery.specs.Histories.{is_this}
use Rattle.hn_server_front.specs.Moments.{is_within}
use Rattle.hn_server_front.proofs.Making.{entry_entered, one_entered, wait_entered}
use Rattle.hn_server_front.proofs.front.Front.enter.Goals as goal

pub returns : goal.returns
returns c =
    let m = c.args.self.now.entries in
    let n = c.insert.new.self in
    let k = c.args.conn in
    let ok = c.insert.ensures.succeeds c.requires.entry in
    record {
      made_so = refl;
      own = c.new.result;
      is_new = c.new.ensures;
      entries = entry_entered m n k c.new.result c.insert.result ok c.insert.ensures.updates;
      size = one_entered m n k c.insert.result ok c.insert.ensures.old c.insert.ensures.len;
      tokens = refl;
      waiting = λ order none few w.
          let place : length c.args.self.now.moments.waiting.items < vec_capacity c.args.self.now.moments.waiting = omega (arith, few, c.requires.moment) in
          wait_entered k c.told_at-since.result c.args.self.now.moments.waiting.items c.change.new.self.waiting.items
          (c.change.ensures.changed order none place) (c.change.ensures.others order none place) w
          ∙ ap (λ o. if k == w.conn then is_this w.since o else is_within w c.args.self.now.moments.waiting.items) c.told_at-since.ensures;
      order = c.change.ensures.order;
      capacity = c.change.ensures.capacity;
      lasts = c.change.ensures.lasts;
      polls = refl;
      live = refl;
    }
