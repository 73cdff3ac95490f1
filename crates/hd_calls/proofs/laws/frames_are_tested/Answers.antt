use Rattle.std.specs.Prelude.{nat_le, ◌&&◌}
use Rattle.std.proofs.Common.{◌∙◌, ap}
use Rattle.std.proofs.lemmas.Bool.{and_parts, leb-true, le-leb}
use Rattle.hm_message.specs.Message.{content_depth}
use Rattle.hd_calls.proofs.laws.frames_are_tested.Goals as goal

pub returns : goal.returns
returns c t codec m = (
  λ e. let q = and_parts (nat_le (content_depth m) 63) (nat_le (t.wire.frame_size codec m) t.limits.frame) e in record { fits = leb-true (content_depth m) 63 q.0; short = leb-true (t.wire.frame_size codec m) t.limits.frame q.1 },
  λ f. ap (λ b. b && nat_le (t.wire.frame_size codec m) t.limits.frame) (le-leb (content_depth m) 63 f.fits) ∙ le-leb (t.wire.frame_size codec m) t.limits.frame f.short,
)
