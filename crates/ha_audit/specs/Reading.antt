-- A trace that is read line by line, and the first line with which no trace goes on.
use Rattle.std.specs.Prelude.{◌≡◌, ◌≢◌, ℕ, suc, List, Option, length}
use Rattle.hd_facts.specs.Prefixes.{IsPrefix}
use Rattle.hd_facts.specs.Unique.{IsTheOne}
use Rattle.hd_delivery.specs.declared.vocabulary.Side.{Side}
use Rattle.hd_trace.specs.declared.trace.TraceLine.{TraceLine}
use Rattle.ha_audit.specs.declared.error.TraceError.{TraceError}
use Rattle.ha_audit.specs.declared.error.TraceError.TheVariants.{Line, NoMemory}
use Rattle.ha_audit.specs.declared.head.Head.{Head}
use Rattle.ha_audit.specs.declared.reader.Reader.{Reader}
use Rattle.ha_audit.specs.Grammar.{IsTrace, trace_text}

-- ---- texts that were parsed

-- a text, its head, and the end of whose lines alone it is, if it isn't of both
pub record TraceText : Type 0 where
  pub text : List ℕ
  pub head : Head
  pub only : Option Side

-- these are the lines of it, the latest first
abbrev pub HasLines : TraceText → List TraceLine → Type 0
HasLines trace lines = IsTrace trace.only trace.text trace.head lines

-- the text is a trace, of both ends or of the one that is named, and this is it
pub record Parses (only : Option Side) (text : List ℕ) (trace : TraceText) : Type 0 where
  pub text_is : trace.text ≡ text
  pub only_is : trace.only ≡ only
  pub lines : List TraceLine
  pub told : HasLines trace lines

-- ---- lines one after the other

-- the first lines of the text, and it may go on
pub record Begins (only : Option Side) (text : List ℕ) (head : Head) (lines : List TraceLine) : Type 0 where
  pub front : IsTrace only (trace_text head lines) head lines
  pub goes_on : IsPrefix (trace_text head lines) text

-- the reader stands after these lines of the text
pub record HasPassed (only : Option Side) (reader : Reader) (text : List ℕ) (head : Head) (lines : List TraceLine) : Type 0 where
  pub begins : Begins only text head lines
  pub place : reader.at ≡ length (trace_text head lines)
  pub number : reader.number ≡ suc (length lines)

-- the reader gave these lines of the trace, the latest first
abbrev pub HasRead : Reader → TraceText → List TraceLine → Type 0
HasRead reader trace lines = HasPassed trace.only reader trace.text trace.head lines

-- ---- refusals

-- so many lines of the text, the head among them, begin it as a trace
pub record HasFront (only : Option Side) (text : List ℕ) (count : ℕ) : Type 0 where
  pub head : Head
  pub lines : List TraceLine
  pub begins : Begins only text head lines
  pub count_is : count ≡ suc (length lines)

-- The line of this number, from 1, is the first with which no trace goes on: those before it, if there are any, begin the text as a trace, and
-- with it they don't.
pub record IsRefusedAt (only : Option Side) (text : List ℕ) (number : ℕ) : Type 0 where
  pub before : ℕ
  pub next : number ≡ suc before
  pub good : before ≢ 0 → HasFront only text before
  pub bad : HasFront only text number → ⊥

-- if it isn't that memory ran out, the text is no trace, and stops being one at this line, and at no other
abbrev pub RefusesText : Option Side → TraceError → List ℕ → Type 0
RefusesText only (Line number) text =
    IsTheOne (IsRefusedAt only text) number × ((head : Head) (lines : List TraceLine) → IsTrace only text head lines → ⊥)
RefusesText only NoMemory text = Unit {0}
