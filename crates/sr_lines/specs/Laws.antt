-- What is refused is told in the words of its reason.
use Rattle.std.specs.Prelude.{◌≡◌, ℕ, List, Option, Some}
use Rattle.hd_delivery.specs.Histories.{Config, Fault}
use Rattle.hd_delivery.specs.Sending.{SendRefusal}
use Rattle.he_end.specs.declared.errors.NextError.{NextError}
use Rattle.he_end.specs.declared.errors.SendError.{SendError}
use Rattle.he_end.specs.Calls.{fault_of, refusal_of}
use Rattle.he_end.specs.Words.{next_words, send_words}
use Rattle.hd_calls.specs.Hubs.{Answer, Invoked}
use Rattle.hd_calls.specs.Peers.{PeerEvent, Settings}
use Rattle.hd_calls.specs.Rules.{CallRefusal, IsRefusedCall, IsRefusedUpload, IsRefusedCancel}
use Rattle.hp_peer.specs.declared.errors.AskError.{AskError}
use Rattle.hp_peer.specs.declared.errors.AskError.TheVariants as ask
use Rattle.hp_peer.specs.Calling.{HasCause}
use Rattle.sr_lines.specs.Lines.{ask_words, fault_words, refusal_words, why_words}

-- why a message isn't sent has the words of its reason
abbrev pub RefusalsAreTold : Type 0
RefusalsAreTold = (e : SendError) (why : SendRefusal) → refusal_of e ≡ Some why → refusal_words why ≡ send_words e

-- a fault has the words of the error that tells it
abbrev pub FaultsAreTold : Type 0
FaultsAreTold = (c : Config) (e : NextError) (fault : Fault) → fault_of c e ≡ Some fault → fault_words fault ≡ next_words e

-- if memory didn't run out, there is a reason of which this holds, and its words are told
abbrev pub IsToldAs : (CallRefusal → Type 0) → AskError → Type 0
IsToldAs Why e = (e ≡ ask.NoMemory → ⊥) → (why : CallRefusal) × (Why why × (why_words why ≡ ask_words e))

-- so it is of a call, of an upload and of a cancellation
pub record AsksAreTold : Type 0 where
  pub calls : (t : Settings) (h : List PeerEvent) (c : Invoked) (e : AskError) → HasCause (IsRefusedCall t h c) e → IsToldAs (IsRefusedCall t h c) e
  pub uploads : (t : Settings) (h : List PeerEvent) (n w : ℕ) (a : Answer) (e : AskError) → HasCause (IsRefusedUpload t h n w a) e → IsToldAs (IsRefusedUpload t h n w a) e
  pub cancels : (t : Settings) (h : List PeerEvent) (n : ℕ) (e : AskError) → HasCause (IsRefusedCancel t h n) e → IsToldAs (IsRefusedCancel t h n) e
