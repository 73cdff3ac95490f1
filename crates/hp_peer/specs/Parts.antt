-- What the parts of a peer's calls do to it.
use Rattle.std.specs.Prelude.{◌≡◌, ℕ}
use Rattle.hm_message.specs.declared.message.Message.{Message}
use Rattle.hm_message.specs.Message.{Fits}
use Rattle.he_end.specs.declared.end.End.{End}
use Rattle.he_end.specs.declared.errors.SendError.{SendError}
use Rattle.he_end.specs.declared.errors.SendError.TheVariants as send
use Rattle.he_end.specs.Stands as end_stands
use Rattle.he_end.specs.Calls as of_end
use Rattle.he_end.specs.Calls.{RefusedFor, refusal_of}
use Rattle.hp_peer.specs.declared.errors.AskError.{AskError}
use Rattle.hp_peer.specs.declared.errors.AskError.TheVariants as ask
use Rattle.hp_peer.specs.declared.peer.Peer.{Peer}

-- the end doesn't send the message for this reason, which isn't want of memory
abbrev pub IsUnsent : End → Message → SendError → Type 0
IsUnsent e m why = (why ≡ send.NoMemory → ⊥) × of_end.OfEach e (λ wire c h. RefusedFor e wire c h m (refusal_of why))

-- the message isn't said for this reason
abbrev pub IsUnsaid : End → Message → AskError → Type 0
IsUnsaid e m (ask.Calls why) = ⊥
IsUnsaid e m ask.TooDeep = Fits m → ⊥
IsUnsaid e m (ask.Send why) = Fits m × IsUnsent e m why
IsUnsaid e m ask.NoMemory = Unit {0}

-- the message is sent, and nothing but the end changed
pub record HasSaid {H Job : Type 0} (old new : Peer H Job) (m : Message) : Type 0 where
  pub number : ℕ
  pub fits : Fits m
  pub sends : of_end.Sends old.end new.end m number

-- the end stands for what it stood for
abbrev pub EndStays : End → End → Type 0
EndStays old new = of_end.OfEach old (λ wire c h. end_stands.Stands wire c new h)
