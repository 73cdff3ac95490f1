use Rattle.std.proofs.Common.{◌++◌, codes, string_bytes, ap, sym, ◌∙◌}
use Rattle.form_urlencoded.specs.Form.{byte_serialize}
use Rattle.hd_dialing.specs.Asks.{access_pair}
use Rattle.hn_dialing.proofs.Pieces.{pushed_then}
use Rattle.hn_dialing.proofs.targets.put_access.Goals as goal

pub returns-in_ok-push_str-in-Some : goal.returns-in_ok-push_str-in-Some
returns-in_ok-push_str-in-Some c = pushed_then c.put_serialized.result (string_bytes c.args.out.now) (string_bytes c.push_str.new.self) (string_bytes c.put_serialized.new.out)
    (codes "&access_token=") (byte_serialize c.as_str.result.now) (access_pair c.args.access.now) c.in_ok-push_str-in-Some.ensures.bytes
    (ap access_pair c.in-Some.is ∙ ap (λ t. codes "&access_token=" ++ byte_serialize t) (sym c.as_str.ensures)) c.put_serialized.ensures
