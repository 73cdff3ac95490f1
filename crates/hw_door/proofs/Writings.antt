-- What was written on each wire is what is told of it.
use Rattle.std.proofs.Common.{◌≡◌, ◌≢◌, ◌⊎◌, ◌≤◌, ◌<◌, ℕ, zero, suc, Bool, true, false, eqb, List, [], ◌∷◌, ◌++◌, map, length, refl, sym, ap, ◌∙◌, arith, append_assoc, inl, inr}
use Rattle.std.specs.Prelude.{if◌then◌else◌, slice_get, ◌==◌}
use Rattle.std.proofs.lemmas.List.{append-nil}
use Rattle.std.proofs.lemmas.Bool.Decides.{eqb_tells}
use Rattle.hw_door.specs.declared.memory_wire.MemoryWire.{MemoryWire}
use Rattle.hw_door.specs.declared.ledger.WireCall.{WireCall}
use Rattle.hw_door.specs.declared.ledger.WireCall.TheVariants as note
use Rattle.hw_door.specs.Ledger.{LedgerState, answer_of, after_telling, with_answer, has_room, size_of}
use Rattle.hw_door.specs.Lines.{WritesAreTold}
use Rattle.hw_door.specs.Traffic.{Answer, polled, poll_failed, accepted, accept_failed, connected, connect_failed, bytes_in, not_yet, ended, read_failed, bytes_out, write_failed, was_shut, written_on, none_ready}
use Rattle.hw_door.specs.Wires.{WireLeft, wire_of, at_wire, with_written, written_of}

-- ---- what is told

out_more : (b : Bool) (bytes xs ys zs : List ℕ) → xs ≡ ys ++ zs → (if b then bytes ++ xs else xs) ≡ (if b then bytes ++ ys else ys) ++ zs
out_more true bytes xs ys zs e = ap (λ (ws : List ℕ). bytes ++ ws) e ∙ sym (append_assoc bytes ys zs)
out_more false bytes xs ys zs e = e

-- with one answer more
pub written_more : (wire : ℕ) (answers : List Answer) (one : Answer) →
    written_on wire (answers ++ one ∷ []) ≡ written_on wire answers ++ written_on wire (one ∷ [])
written_more wire [] one = refl
written_more wire (polled wait now ∷ answers) one = written_more wire answers one
written_more wire (poll_failed wait ∷ answers) one = written_more wire answers one
written_more wire (accepted at ∷ answers) one = written_more wire answers one
written_more wire (accept_failed ∷ answers) one = written_more wire answers one
written_more wire (connected at ∷ answers) one = written_more wire answers one
written_more wire (connect_failed ∷ answers) one = written_more wire answers one
written_more wire (bytes_in at bytes ∷ answers) one = written_more wire answers one
written_more wire (not_yet at ∷ answers) one = written_more wire answers one
written_more wire (ended at ∷ answers) one = written_more wire answers one
written_more wire (read_failed at ∷ answers) one = written_more wire answers one
written_more wire (bytes_out at bytes ∷ answers) one =
    out_more (at == wire) bytes (written_on wire (answers ++ one ∷ [])) (written_on wire answers) (written_on wire (one ∷ []))
    (written_more wire answers one)
written_more wire (write_failed at ∷ answers) one = written_more wire answers one
written_more wire (was_shut at ∷ answers) one = written_more wire answers one
written_more wire (none_ready ∷ answers) one = written_more wire answers one

-- an answer that wrote nothing
pub told_unwritten : (wires : List WireLeft) (answers : List Answer) (one : Answer) → ((wire : ℕ) → written_on wire (one ∷ []) ≡ []) →
    WritesAreTold wires answers → WritesAreTold wires (answers ++ one ∷ [])
told_unwritten wires answers one p trace =
    λ wire. trace wire ∙ sym (written_more wire answers one
    ∙ ap (λ (ws : List ℕ). written_on wire answers ++ ws) (p wire) ∙ append-nil (written_on wire answers))

abbrev nothing : List ℕ
nothing = []

nothing_of : (b : Bool) → (if b then nothing ++ [] else nothing) ≡ nothing
nothing_of true = refl
nothing_of false = refl

pub note_unwritten : (one : WireCall) (wire : ℕ) → written_on wire (answer_of one [] ∷ []) ≡ []
note_unwritten (note.Polled wait now) wire = refl
note_unwritten (note.PollFailed wait) wire = refl
note_unwritten (note.Accepted at) wire = refl
note_unwritten note.AcceptFailed wire = refl
note_unwritten (note.Connected at) wire = refl
note_unwritten note.ConnectFailed wire = refl
note_unwritten (note.BytesIn at count) wire = refl
note_unwritten (note.NotYet at) wire = refl
note_unwritten (note.Ended at) wire = refl
note_unwritten (note.ReadFailed at) wire = refl
note_unwritten (note.BytesOut at count) wire = nothing_of (at == wire)
note_unwritten (note.WriteFailed at) wire = refl
note_unwritten (note.WasShut at) wire = refl

told_if : (room : Bool) (one : Answer) (ledger : LedgerState) (wires : List WireLeft) → ((wire : ℕ) → written_on wire (one ∷ []) ≡ []) →
    WritesAreTold wires ledger.answers → WritesAreTold wires (if room then with_answer one ledger else record ledger { is_full = true }).answers
told_if true one ledger wires p trace = told_unwritten wires ledger.answers one p trace
told_if false one ledger wires p trace = trace

-- a note of no bytes, or none, as there is no room
pub told_still : (one : WireCall) (ledger : LedgerState) (wires : List WireLeft) → WritesAreTold wires ledger.answers →
    WritesAreTold wires (after_telling (answer_of one []) ledger).answers
told_still one ledger wires trace =
    told_if (has_room (size_of (answer_of one [])) ledger) (answer_of one []) ledger wires (note_unwritten one) trace

left_if : (full : Bool) (one : Answer) (ledger : LedgerState) (room : ℕ) → ledger.bytes_left ≤ room →
    (if full then with_answer one ledger else record ledger { is_full = true }).bytes_left ≤ room
left_if true one ledger room p = omega (arith, p)
left_if false one ledger room p = p

-- no more room than before
pub left_still : (one : Answer) (ledger : LedgerState) (room : ℕ) → ledger.bytes_left ≤ room → (after_telling one ledger).bytes_left ≤ room
left_still one ledger room p = left_if (has_room (size_of one) ledger) one ledger room p

-- ---- what stands at the wires

-- nothing at the start
pub none_written : (wires : List MemoryWire) (wire : ℕ) → written_of (slice_get (map wire_of wires) wire) ≡ []
none_written [] wire = refl
none_written (x ∷ wires) zero = refl
none_written (x ∷ wires) (suc wire) = none_written wires wire

-- a change that writes nothing
same_written : (wires : List WireLeft) (place : ℕ) (change : WireLeft → WireLeft) → ((left : WireLeft) → (change left).written ≡ left.written) →
    (wire : ℕ) → written_of (slice_get (at_wire place change wires) wire) ≡ written_of (slice_get wires wire)
same_written [] place change p wire = refl
same_written (x ∷ wires) zero change p zero = p x
same_written (x ∷ wires) zero change p (suc wire) = refl
same_written (x ∷ wires) (suc place) change p zero = refl
same_written (x ∷ wires) (suc place) change p (suc wire) = same_written wires place change p wire

pub told_changed : (wires : List WireLeft) (answers : List Answer) (place : ℕ) (change : WireLeft → WireLeft) →
    ((left : WireLeft) → (change left).written ≡ left.written) → WritesAreTold wires answers → WritesAreTold (at_wire place change wires) answers
told_changed wires answers place change p trace = λ wire. same_written wires place change p wire ∙ trace wire

there_written : (wires : List WireLeft) (place : ℕ) (bytes : List ℕ) → place < length wires →
    written_of (slice_get (at_wire place (with_written bytes) wires) place) ≡ written_of (slice_get wires place) ++ bytes
there_written [] place bytes p = absurd (omega (arith, p))
there_written (x ∷ wires) zero bytes p = refl
there_written (x ∷ wires) (suc place) bytes p = there_written wires place bytes (omega (arith, p))

else_written : (wires : List WireLeft) (place : ℕ) (change : WireLeft → WireLeft) (wire : ℕ) → place ≢ wire →
    written_of (slice_get (at_wire place change wires) wire) ≡ written_of (slice_get wires wire)
else_written [] place change wire p = refl
else_written (x ∷ wires) zero change zero p = absurd (p refl)
else_written (x ∷ wires) zero change (suc wire) p = refl
else_written (x ∷ wires) (suc place) change zero p = refl
else_written (x ∷ wires) (suc place) change (suc wire) p = else_written wires place change wire (λ e. p (ap suc e))

-- what is written on one wire, and told
pub told_written : (wires : List WireLeft) (answers : List Answer) (place : ℕ) (bytes : List ℕ) → place < length wires →
    WritesAreTold wires answers → WritesAreTold (at_wire place (with_written bytes) wires) (answers ++ bytes_out place bytes ∷ [])
told_written wires answers place bytes p trace =
    λ wire. at_last wire (eqb_tells place wire) ∙ sym (written_more wire answers (bytes_out place bytes))
  where
    at_last : (wire : ℕ) → ((eqb place wire ≡ true) × (place ≡ wire)) ⊎ ((eqb place wire ≡ false) × (place ≢ wire)) →
        written_of (slice_get (at_wire place (with_written bytes) wires) wire) ≡ written_on wire answers ++ (if place == wire then bytes ++ [] else [])
    at_last wire (inl q) =
        ap (λ (w : ℕ). written_of (slice_get (at_wire place (with_written bytes) wires) w)) (sym q.1)
        ∙ there_written wires place bytes p
        ∙ ap (λ (w : ℕ). written_of (slice_get wires w) ++ bytes) q.1
        ∙ ap (λ (ws : List ℕ). ws ++ bytes) (trace wire)
        ∙ ap (λ (ws : List ℕ). written_on wire answers ++ ws) (sym (append-nil bytes))
        ∙ ap (λ (b : Bool). written_on wire answers ++ (if b then bytes ++ [] else [])) (sym q.0)
    at_last wire (inr q) =
        else_written wires place (with_written bytes) wire q.1
        ∙ trace wire ∙ sym (append-nil (written_on wire answers))
        ∙ ap (λ (b : Bool). written_on wire answers ++ (if b then bytes ++ [] else [])) (sym q.0)
