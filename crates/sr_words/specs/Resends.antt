-- How much the ends of a server hold, as two texts say it.
use Rattle.clap.specs.Words.{Text}
use Rattle.hub_server.specs.Resend.{ResendLimits, AreResendLimits}
use Rattle.sr_words.specs.Clap.{IsNumber}

-- two texts say how many messages and how many bytes, and an end can hold so much
pub record IsResend (texts : Text × Text) (resend : ResendLimits) : Type 0 where
  pub count_is : IsNumber 64 texts.0 resend.count
  pub bytes_are : IsNumber 64 texts.1 resend.bytes
  pub in_range : AreResendLimits (record { count = resend.count; bytes = resend.bytes })
