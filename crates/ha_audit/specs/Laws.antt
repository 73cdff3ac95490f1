-- What holds of all traces.
use Rattle.std.specs.Prelude.{◌≡◌, ◌<◌, ◌++◌, ℕ, List, Option, length}
use Rattle.hd_facts.specs.Unique.{IsTheOne}
use Rattle.hd_delivery.specs.declared.vocabulary.Side.{Side}
use Rattle.hd_trace.specs.declared.trace.ToldStep.{ToldStep}
use Rattle.hd_trace.specs.declared.trace.TraceLine.{TraceLine}
use Rattle.ha_audit.specs.declared.head.Head.{Head}
use Rattle.ha_audit.specs.Grammar.{HasLine, IsHead, IsOneLine, IsTrace, head_words, most_trace, step_words}
use Rattle.ha_audit.specs.Reading.{IsRefusedAt}

-- a text is the trace of one head and of one list of lines at most
abbrev pub TracesAreToldOnce : Type 0
TracesAreToldOnce = (only : Option Side) (text : List ℕ) (head other : Head) (lines others : List TraceLine) →
    IsTrace only text head lines → IsTrace only text other others → (head ≡ other) × (lines ≡ others)

-- a head and a step are one line each, of no other head or step
pub record LinesAreLines : Type 0 where
  pub head_line : (head : Head) → IsHead head → IsOneLine (head_words head)
  pub step_line : (step : ToldStep) → HasLine step → IsOneLine (step_words step)
  pub one_head : (head other : Head) → IsHead head → IsHead other → head_words head ≡ head_words other → head ≡ other
  pub one_step : (step other : ToldStep) → HasLine step → HasLine other → step_words step ≡ step_words other → step ≡ other

-- a text of more bytes than a trace may have is refused at the same line with more bytes after it
abbrev pub LongIsRefusedByItsFront : Type 0
LongIsRefusedByItsFront = (only : Option Side) (front more : List ℕ) (number : ℕ) → most_trace < length front → IsTheOne (IsRefusedAt only front) number
    → IsTheOne (IsRefusedAt only (front ++ more)) number
