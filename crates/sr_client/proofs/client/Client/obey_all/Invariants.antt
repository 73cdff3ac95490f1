use Rattle.std.proofs.Common.{◌≡◌, ◌-◌, List, length}
use Rattle.hd_client.specs.Setups.{Setup}
use Rattle.hd_client.specs.Events.{ClientEvent}
use Rattle.sr_client.specs.Clients.{Before, Working}
use Rattle.sr_client.specs.Turning.{WorksOn}
use Rattle.sr_client.proofs.LinesDone.{AreDone}
use Rattle.sr_client.proofs.client.Client.obey_all.Given as goal

abbrev pub invariant-loop-self : goal.invariant-loop-self
invariant-loop-self l = record {
  done : (s : Setup) (b : Before) (h : List ClientEvent) → Working s b l.fn.self l.fn.words h
      → (lines : List (List ClientEvent)) × WorksOn s b l.self l.words (AreDone s l.fn.self.script lines h);
  script : l.self.script ≡ l.fn.self.script;
  ended : l.self.is_ended ≡ l.fn.self.is_ended;
  lane : l.words.lane ≡ l.fn.words.lane;
  message : l.words.message ≡ l.fn.words.message;
}

abbrev pub decreases-loop-self : goal.decreases-loop-self
decreases-loop-self l = length l.self.script - l.self.passed
