-- Each frame says one message, is of one unknown type, or is refused for one reason.
use Rattle.std.specs.Prelude.{ℕ, List}
use Rattle.hm_message.specs.Meaning.{HasOneMeaning}
use Rattle.hm_json.specs.Says.{Says, Unknown, Why}

abbrev pub ExactlyOne : List ℕ → Type 0
ExactlyOne frame = HasOneMeaning (Says frame) (Unknown frame) (Why frame)
