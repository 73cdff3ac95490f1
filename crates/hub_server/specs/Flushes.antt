-- What one connection says at the end of an event.
use Rattle.std.specs.Prelude.{◌≡◌, ℕ, true, List, ◌++◌, Option}
use Rattle.hd_delivery.specs.Frames.{LinkFrame}
use Rattle.hd_calls.specs.Hubs.{Hub}
use Rattle.hd_server.specs.declared.vocabulary.Said.{Said}
use Rattle.hd_server.specs.Doings.{ServerEvent, moment, history, config_of}
use Rattle.hd_server.specs.Plans.{Setup, onto}
use Rattle.hd_server.specs.Serves.{AreDueOn, AreNonempty, LendsAll, LendsUpTo, all_of, lending, flushing_on, flushing_poll, writing}
use Rattle.hub_machine.specs.Sleeping.{IsUpWithCause}
use Rattle.hub_server.specs.declared.server.Server.{Server}
use Rattle.hub_server.specs.Lanes.{Unsettled, settled}
use Rattle.hub_server.specs.Servers.{IsRested, Standing, may_speak}

-- by the lane of its socket and the poll that it holds
pub record FlushesOne {H Job : Type 0} (hub : Hub Job) (s : Setup) (before : List Said) (new : Server H Job) (c : ℕ) (lane : Option ℕ) (poll : Option (ℕ × ℕ)) (h : List ServerEvent) : Type 0 where
  pub pieces : List (List LinkFrame)
  pub due : AreDueOn s c lane poll pieces h
  pub stands : Standing hub s settled before new (onto (flushing_on s (moment h) c lane pieces h) h)
  pub rested : IsRested c (onto (flushing_on s (moment h) c lane pieces h) h)
  pub cause : may_speak c (onto (flushing_on s (moment h) c lane pieces h) h) ≡ true → IsUpWithCause hub new.machine c

-- the poll that is held
pub record FlushesPoll {H Job : Type 0} (hub : Hub Job) (s : Setup) (before : List Said) (new : Server H Job) (c : ℕ) (poll : ℕ × ℕ) (h : List ServerEvent) : Type 0 where
  pub frames : List LinkFrame
  pub due : LendsUpTo s.wire (config_of c h) (history c h) 0 frames
  pub stands : Standing hub s settled before new (onto (flushing_poll s (moment h) c poll frames h) h)
  pub cause : may_speak c (onto (flushing_poll s (moment h) c poll frames h) h) ≡ true → IsUpWithCause hub new.machine c

-- what is written on a socket
pub record Writes {H Job : Type 0} (hub : Hub Job) (s : Setup) (u : Unsettled) (before : List Said) (new : Server H Job) (c lane : ℕ) (h : List ServerEvent) : Type 0 where
  pub pieces : List (List LinkFrame)
  pub some : AreNonempty pieces
  pub due : LendsAll (config_of c h) (history c h) (all_of pieces)
  pub stands : Standing hub s u before new (onto (lending c (all_of pieces) ++ writing s c lane pieces h) h)
