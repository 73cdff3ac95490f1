use Rattle.std.proofs.Common.{◌∙◌}
use Rattle.he_end.proofs.Sends.{is_spelled}
use Rattle.he_end.proofs.spelled.frame_of.Goals as goal

pub returns : goal.returns
returns c = is_spelled c.frame_is_of_image.ensures _ _ _ _ c.in_ok-bytes.ensures.items ((c.in_ok-frame.ensures ∙ c.deref.ensures.value) ∙ c.in_ok-write_message.ensures.ok)
    c.in_ok-write_message.ensures.again c.in_ok-write_message.ensures.wrapped
