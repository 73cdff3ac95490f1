-- A client's script that is read line by line.
use Rattle.std.specs.Prelude.{◌≡◌, ◌≤◌, ℕ, suc, min, List, ◌++◌, length, drop, Option, Some, None}
use Rattle.hd_facts.specs.Unique.{IsTheOne}
use Rattle.hd_client.specs.declared.order.Order.{Order}
use Rattle.hd_client.specs.declared.order.Order.TheVariants as order
use Rattle.sr_script.specs.declared.action.Action.{Action}
use Rattle.sr_script.specs.declared.action.Action.TheVariants as action
use Rattle.sr_client.specs.declared.script.Reader.{Reader}
use Rattle.sr_script.specs.Lines.{lines_of, text_of}
use Rattle.sr_client.specs.Grammar.{IsScript, most_script}

-- the lines of the text up to the reader's place were read, and ask for its orders
pub record HasRead (reader : Reader) (text : List ℕ) : Type 0 where
  pub lines : List (List ℕ)
  pub whole : lines_of text ≡ lines ++ lines_of (drop reader.at text)
  pub place : reader.at ≡ min (length text) (length (text_of lines))
  pub within : reader.at ≤ most_script
  pub number : reader.number ≡ suc (length lines)
  pub few : length lines ≤ reader.at
  pub script : IsTheOne (IsScript lines) reader.orders.items

-- the order that is a peer's action, if a client's script has it
abbrev pub order_in : Action → Option Order
order_in (action.Call side a) = Some (order.Call a.kind a.target a.arguments a.uploads)
order_in (action.Item side call value) = Some (order.Item call value)
order_in (action.Done side call) = Some (order.Done call)
order_in (action.Cancel side call) = Some (order.Cancel call)
order_in _ = None
