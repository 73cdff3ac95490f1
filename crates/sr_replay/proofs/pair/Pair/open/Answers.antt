use Rattle.std.proofs.Common.{refl, ◌∙◌}
use Rattle.sr_replay.proofs.Pairs.{client_opens}
use Rattle.sr_replay.proofs.pair.Pair.open.Goals as goal

pub returns : goal.returns
returns c = client_opens c.runs_are_worlds.ensures c.wire_is_sound.ensures c.unused_is_untouched.ensures c.unused_is_empty.ensures
    c.args.self.now c.attach.new.player c.len-link.result c.attach.new.place c.attach.new.told c.push.new.self
    (record { to_server = c.new.result; to_client = c.new-2.result; opened = c.in_ok-opened.opened }) c.in_ok-opened.opened
    (c.len-link.ensures ∙ c.args.self.now.lanes.ok.0) c.in_ok-opened.ensures.attaches c.in_ok-opened.ensures.limits
    c.in_ok-push.ensures.items c.new.ensures.items c.new-2.ensures.items refl
