use Rattle.std.proofs.Common.{[], ◌∷◌, ◌++◌, string_bytes, ap, ◌∙◌, if◌then◌else◌}
use Rattle.hd_dialing.specs.Asks.{ends_with_slash, slash}
use Rattle.hn_dialing.proofs.Pieces.{negotiate_is}
use Rattle.hn_dialing.proofs.targets.negotiate_target.Goals as goal

pub returns : goal.returns
returns c = negotiate_is c.args.setup.now.path (string_bytes c.push_str.new.self) (string_bytes c.push_str-2.new.self) (string_bytes c.push_str-3.new.self) (string_bytes c.put_access.new.out)
    c.slash_after.result.now c.reconnect_pair.result.now c.args.setup.now.reconnect c.args.setup.now.access
    (c.in_ok-push_str.ensures.bytes ∙ ap (λ path. path ++ c.slash_after.result.now) (c.in_ok-target.ensures.ok ∙ c.as_str-path.ensures))
    (c.slash_after.ensures ∙ ap (λ path. if ends_with_slash path then [] else slash ∷ []) c.as_str-path.ensures)
    c.in_ok-push_str-2.ensures.bytes c.in_ok-push_str-3.ensures.bytes c.reconnect_pair.ensures c.in_ok-put_access.ensures
