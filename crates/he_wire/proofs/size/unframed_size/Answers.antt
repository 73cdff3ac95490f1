use Rattle.std.proofs.Common.{◌≡◌, ◌∙◌, subst}
use Rattle.hm_message.specs.declared.message.Codec.{Codec}
use Rattle.hf_split.specs.Cuts.{CanWrap, wrapped}
use Rattle.hm_codec.specs.Frames.{framing_of}
use Rattle.he_wire.proofs.Sizes.{parts}
use Rattle.he_wire.proofs.size.unframed_size.Goals as goal

pub returns-in-Pack : goal.returns-in-Pack
returns-in-Pack c frame can is =
    let p = parts c.wrapped_begins.ensures frame (subst (λ (k : Codec). CanWrap (framing_of k) frame) c.in-Pack.is can) in
    c.size_after_length.ensures p.0 frame p.1.0 p.1.1.0 p.1.1.1
    (subst (λ (k : Codec). c.args.framed.now ≡ (wrapped (framing_of k) frame).spelling) c.in-Pack.is is ∙ p.1.1.2)
