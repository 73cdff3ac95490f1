-- What the lines of a script make of the client's peer.
use Rattle.std.specs.Prelude.{◌≡◌, ◌⊎◌, ℕ, Bool, true, false, List, [], ◌∷◌, ◌++◌, codes, is_some, Option, Some, None}
use Rattle.hd_calls.specs.Hubs.{Invoked, id_of}
use Rattle.hd_calls.specs.Peers.{PeerEvent, Calls, Settings}
use Rattle.hd_calls.specs.Rules.{CallRefusal, TooManyLive, Spent, Unknown, TooDeep, Unsent}
use Rattle.hd_delivery.specs.Sending as sending
use Rattle.he_end.specs.declared.errors.SendError.TheVariants as send
use Rattle.hi_calls.specs.declared.errors.CallError.TheVariants as table
use Rattle.hp_peer.specs.declared.errors.AskError.{AskError}
use Rattle.hp_peer.specs.declared.errors.AskError.TheVariants as ask
use Rattle.hd_client.specs.declared.order.Order.{Order}
use Rattle.hd_client.specs.declared.order.Order.TheVariants.{Lose}
use Rattle.hd_client.specs.Events.{ClientEvent, Makes, Declines, Passes, closed_itself, moves}
use Rattle.hd_client.specs.Plans.{attempt, doing}
use Rattle.hd_client.specs.Printed.{line, move_line, why_words}
use Rattle.sr_client.specs.declared.orders.Obeyed.{Obeyed}
use Rattle.sr_client.specs.declared.orders.Obeyed.TheVariants.{Waits, Passed, Loses}
use Rattle.sr_client.specs.declared.peer.ClientPeer.{ClientPeer}
use Rattle.sr_client.specs.Lines.{json_words}
use Rattle.sr_client.specs.Peers.{Plays, StaysThere}

-- ---- uploads

-- the call's uploads end with it, since it has an id
abbrev pub EndsItsUploads : Invoked → Type 0
EndsItsUploads c = (is_some (id_of c.way) ≡ true) ⊎ (c.streams ≡ [])

-- so it is of each call that the user made
abbrev pub UploadsHaveCalls : List PeerEvent → Type 0
UploadsHaveCalls [] = Unit {0}
UploadsHaveCalls (Calls None n c ∷ h) = EndsItsUploads c × UploadsHaveCalls h
UploadsHaveCalls (_ ∷ h) = UploadsHaveCalls h

-- ---- refusals

-- why the peer refused what its user asked; None: memory was out
abbrev pub refusal_of : AskError → Option CallRefusal
refusal_of (ask.Calls table.TooMany) = Some TooManyLive
refusal_of (ask.Calls table.Spent) = Some Spent
refusal_of (ask.Calls table.UnknownId) = Some Unknown
refusal_of ask.TooDeep = Some TooDeep
refusal_of (ask.Send send.Opening) = Some (Unsent sending.Opening)
refusal_of (ask.Send send.Closed) = Some (Unsent sending.Closed)
refusal_of (ask.Send (send.TooLong size)) = Some (Unsent (sending.TooLong size))
refusal_of (ask.Send (send.Full held bytes size)) = Some (Unsent (sending.Full held bytes size))
refusal_of (ask.Send send.Exhausted) = Some (Unsent sending.Exhausted)
refusal_of _ = None

-- the peer's end has no room
abbrev pub is_full : AskError → Bool
is_full (ask.Send (send.Full held bytes size)) = true
is_full _ = false

-- ---- one line

-- what is done of a line that is passed
pub data LineDone : Type 0 where
  Moved : (move : PeerEvent) → LineDone
  Refused : (why : CallRefusal) → LineDone
  Waited : LineDone

abbrev pub events_of : LineDone → List ClientEvent
events_of (Moved m) = Makes m ∷ Passes ∷ []
events_of (Refused why) = Declines why ∷ Passes ∷ []
events_of Waited = Passes ∷ []

abbrev pub moved_by : LineDone → List PeerEvent → List PeerEvent
moved_by (Moved m) h = m ∷ h
moved_by _ h = h

abbrev pub told_by : Settings → LineDone → List PeerEvent → List ℕ
told_by t (Moved m) h = move_line json_words t h m
told_by t (Refused why) h = line (codes "refused " ++ why_words why)
told_by t Waited h = []

-- the peer stands for what was done, whose line was appended
pub record IsPassed (t : Settings) (h : List PeerEvent) (new : ClientPeer) (before now : List ℕ) (done : LineDone) : Type 0 where
  pub plays : Plays t new (moved_by done h)
  pub stays : StaysThere t h (moved_by done h)
  pub unclosed : closed_itself (moved_by done h) ≡ closed_itself h
  pub uploads : UploadsHaveCalls (moved_by done h)
  pub told : now ≡ before ++ told_by t done h

-- nothing was done
pub record IsKept (t : Settings) (h : List PeerEvent) (new : ClientPeer) (before now : List ℕ) : Type 0 where
  pub plays : Plays t new h
  pub told : now ≡ before

-- what came of trying this move, which is refused for this reason, if for any
abbrev pub Tries : Settings → List PeerEvent → Option CallRefusal → PeerEvent → ClientPeer → List ℕ → List ℕ → Obeyed → Type 0
Tries t h why m new before now Waits = (attempt why m ≡ None) × IsKept t h new before now
Tries t h why m new before now Passed = (done : LineDone) × (attempt why m ≡ Some (events_of done)) × IsPassed t h new before now done
Tries t h why m new before now Loses = ⊥

-- what came of a line. To give up the link is left to the caller
abbrev pub Obeys : Settings → Order → List ClientEvent → ClientPeer → List ℕ → List ℕ → Obeyed → Type 0
Obeys t order h new before now Waits = (doing t order h ≡ None) × IsKept t (moves h) new before now
Obeys t order h new before now Passed = (done : LineDone) × (doing t order h ≡ Some (events_of done)) × IsPassed t (moves h) new before now done
Obeys t order h new before now Loses = (order ≡ Lose) × IsKept t (moves h) new before now

-- of all settings and histories for which the peer stood
abbrev pub OfEachClient : ClientPeer → (Settings → List ClientEvent → Type 0) → Type 0
OfEachClient p Holds = (t : Settings) (h : List ClientEvent) → Plays t p (moves h) → UploadsHaveCalls (moves h) → Holds t h

-- what came of telling why the peer refused
abbrev pub Declared : CallRefusal → List ℕ → List ℕ → Obeyed → Type 0
Declared why before now Waits = ((m : PeerEvent) → attempt (Some why) m ≡ None) × (now ≡ before)
Declared why before now Passed =
    ((m : PeerEvent) → attempt (Some why) m ≡ Some (events_of (Refused why))) × (now ≡ before ++ line (codes "refused " ++ why_words why))
Declared why before now Loses = ⊥
