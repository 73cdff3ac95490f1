use Rattle.std.proofs.Common.{◌≡◌, ◌≤◌, ◌-◌, ℕ, List, length, drop, Some, None}
use Rattle.hd_delivery.specs.Histories.{present_link}
use Rattle.hd_delivery.specs.Processes.{processes}
use Rattle.hd_delivery.specs.Bytes.{bytes_on}
use Rattle.hd_calls.specs.Peers.{byte_steps, steps}
use Rattle.hj_jobs.specs.Meaning.{meaning}
use Rattle.sr_peers.specs.Plays.{OfEach}
use Rattle.sr_peers.proofs.ReadsOn.{HasRead}
use Rattle.sr_peers.proofs.party.Party.read.Given as goal

abbrev pub invariant-loop-at : goal.invariant-loop-at
invariant-loop-at g l = record {
  within : l.at ≤ length l.bytes;
  read : OfEach {H = g.row.H.Denot} (meaning g.H.Hub.begin_of g.H.Hub.step_of) l.fn.self (λ t h. (link : ℕ) (all : List ℕ) → present_link (steps t h) ≡ Some link
      → l.bytes ≡ drop (length (bytes_on link (byte_steps t h))) all → processes t.config (steps t h) ≡ None
      → HasRead {H = g.row.H.Denot} (meaning g.H.Hub.begin_of g.H.Hub.step_of) t l.fn.now h l.self link all l.bytes l.fn.report.items l.report.items l.at);
}

abbrev pub decreases-loop-at : goal.decreases-loop-at
decreases-loop-at g l = length l.bytes - l.at
