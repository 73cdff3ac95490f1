-- How many connections may live, as a text says it.
use Rattle.std.specs.Prelude.{ℕ}
use Rattle.clap.specs.Words.{Text}
use Rattle.hd_server.specs.Numbers.{IsLiveLimit}
use Rattle.sr_words.specs.Clap.{IsNumber}

-- the text says how many, and a server may be begun with so many
pub record IsLive (text : Text) (live : ℕ) : Type 0 where
  pub count_is : IsNumber 64 text live
  pub in_range : IsLiveLimit live
