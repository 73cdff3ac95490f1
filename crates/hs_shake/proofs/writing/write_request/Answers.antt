use Rattle.std.proofs.Common.{◌≡◌, rules, subst, sym}
use Rattle.hf_split.specs.Cuts.{IsPlain}
use Rattle.hs_shake.specs.Requests.{request_frame}
use Rattle.hs_shake.proofs.writing.write_request.Goals as goal

pub wrap-requires : goal.wrap-requires
wrap-requires c =
    let text : c.as_bytes.result.now ≡ request_frame c.args.shake.now.codec c.args.shake.now.version = search rules in
    subst IsPlain (sym text) (c.texts_are_plain.ensures.request c.args.shake.now.codec c.args.shake.now.version)
