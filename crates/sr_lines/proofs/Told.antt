-- What is refused is told in the words of its reason.
use Rattle.std.proofs.Common.{◌≡◌, ℕ, List, Option, Some, None, refl, append_assoc}
use Rattle.hd_delivery.specs.Histories.{Config, Fault, Unread, Shake, Gap, AckBeyond}
use Rattle.hd_delivery.specs.Sending as refusal
use Rattle.hd_delivery.specs.Sending.{SendRefusal}
use Rattle.he_end.specs.declared.errors.NextError.{NextError}
use Rattle.he_end.specs.declared.errors.NextError.TheVariants as next
use Rattle.he_end.specs.declared.errors.SendError.{SendError}
use Rattle.he_end.specs.declared.errors.SendError.TheVariants as send
use Rattle.he_end.specs.Calls.{fault_of, refusal_of}
use Rattle.hm_codec.specs.Words.{why_words as why_text}
use Rattle.hs_shake.specs.Words.{shake_words}
use Rattle.hs_shake.specs.Responses.{refusal_text}
use Rattle.he_end.specs.Says.{answer_at}
use Rattle.he_end.specs.Words.{next_words, send_words}
use Rattle.hd_calls.specs.Rules.{CallRefusal, TooManyLive, Spent, TooDeep, Unsent}
use Rattle.hd_calls.specs.Rules as of_calls
use Rattle.hi_calls.specs.declared.errors.CallError.TheVariants as table
use Rattle.hp_peer.specs.declared.errors.AskError.{AskError}
use Rattle.hp_peer.specs.declared.errors.AskError.TheVariants as ask
use Rattle.hp_peer.specs.Calling.{HasCause}
use Rattle.sr_lines.specs.Lines.{ask_words, fault_words, refusal_words, why_words}
use Rattle.sr_lines.specs.Laws.{IsToldAs}

pub refusals : (e : SendError) (why : SendRefusal) → refusal_of e ≡ Some why → refusal_words why ≡ send_words e
refusals send.Opening why is = let j : refusal.Opening ≡ why = cc in rw (← j) refl
refusals send.Closed why is = let j : refusal.Closed ≡ why = cc in rw (← j) refl
refusals (send.TooLong size) why is = let j : refusal.TooLong size ≡ why = cc in rw (← j) refl
refusals (send.Full held bytes size) why is = let j : refusal.Full held bytes size ≡ why = cc in rw (← j) (simp append_assoc)
refusals send.Exhausted why is = let j : refusal.Exhausted ≡ why = cc in rw (← j) refl
refusals send.NoMemory why is = absurd (cc)

pub faults : (c : Config) (e : NextError) (fault : Fault) → fault_of c e ≡ Some fault → fault_words fault ≡ next_words e
faults c (next.Frame link at why) fault is = let j : Unread link at (why_text why) ≡ fault = cc in rw (← j) (simp append_assoc)
faults c (next.Shake e) fault is = let j : Shake (shake_words e) (answer_at c.side (refusal_text e)) ≡ fault = cc in rw (← j) refl
faults c (next.Gap got most) fault is = let j : Gap got most ≡ fault = cc in rw (← j) (simp append_assoc)
faults c (next.AckBeyond got most) fault is = let j : AckBeyond got most ≡ fault = cc in rw (← j) (simp append_assoc)
faults c next.NoMemory fault is = absurd (cc)

pub asks : (Why : CallRefusal → Type 0) (e : AskError) → HasCause Why e → IsToldAs Why e
asks Why (ask.Calls table.TooMany) is some = (TooManyLive, (is, refl))
asks Why (ask.Calls table.Spent) is some = (Spent, (is, refl))
asks Why (ask.Calls table.UnknownId) is some = (of_calls.Unknown, (is, refl))
asks Why (ask.Calls table.NoMemory) is some = absurd is
asks Why ask.TooDeep is some = (TooDeep, (is, refl))
asks Why (ask.Send send.Opening) is some = (Unsent refusal.Opening, (is, refl))
asks Why (ask.Send send.Closed) is some = (Unsent refusal.Closed, (is, refl))
asks Why (ask.Send (send.TooLong size)) is some = (Unsent (refusal.TooLong size), (is, refl))
asks Why (ask.Send (send.Full held bytes size)) is some =
    (Unsent (refusal.Full held bytes size), (is, refusals (send.Full held bytes size) (refusal.Full held bytes size) refl))
asks Why (ask.Send send.Exhausted) is some = (Unsent refusal.Exhausted, (is, refl))
asks Why (ask.Send send.NoMemory) is some = absurd is
asks Why ask.NoMemory is some = absurd (some refl)
