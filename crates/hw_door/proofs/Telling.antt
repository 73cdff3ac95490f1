-- One answer more.
use Rattle.std.proofs.Common.{◌≡◌, ◌+◌, ◌≤◌, ℕ, List, [], ◌∷◌, ◌++◌, length, take, drop, ◌∙◌, ap, refl, suc, arith, length-drop}
use Rattle.std.proofs.lemmas.List.{take_all, take-append-le, drop-append-le}
use Rattle.hw_door.specs.declared.ledger.WireCall.{WireCall}
use Rattle.hw_door.specs.declared.ledger.WireCall.TheVariants as note
use Rattle.hw_door.specs.Traffic.{Answer}
use Rattle.hw_door.specs.Ledger.{answer_of, answers_of, bytes_of, size_of, total}

-- what the notes are is as before where more bytes follow, and the last note has those
pub one_answer_more : (notes : List WireCall) (one : WireCall) (bytes new : List ℕ) → total notes ≡ length bytes → bytes_of one ≡ length new →
    answers_of (notes ++ one ∷ []) (bytes ++ new) ≡ answers_of notes bytes ++ answer_of one new ∷ []
one_answer_more [] one [] new p q = ap (λ (xs : List ℕ). answer_of one xs ∷ []) (take_all (bytes_of one) new (omega (arith, q)))
one_answer_more [] one (b ∷ bytes) new p q = absurd (omega (arith, p))
one_answer_more (n ∷ notes) one bytes new p q =
    let low : bytes_of n ≤ length bytes = omega (arith, p) in
    let rest : total notes ≡ length (drop (bytes_of n) bytes) = omega (arith, p, length-drop (bytes_of n) bytes) in
    ap (λ (xs : List ℕ). answer_of n xs ∷ answers_of (notes ++ one ∷ []) (drop (bytes_of n) (bytes ++ new))) (take-append-le (bytes_of n) bytes new low)
    ∙ ap (λ (xs : List Answer). answer_of n (take (bytes_of n) bytes) ∷ xs)
    (ap (λ (xs : List ℕ). answers_of (notes ++ one ∷ []) xs) (drop-append-le (bytes_of n) bytes new low)
    ∙ one_answer_more notes one (drop (bytes_of n) bytes) new rest q)

-- and it counts
pub total_more : (notes : List WireCall) (one : WireCall) → total (notes ++ one ∷ []) ≡ total notes + bytes_of one
total_more [] one = omega arith
total_more (n ∷ notes) one = omega (arith, total_more notes one)

-- each note is one answer
pub as_many : (notes : List WireCall) (bytes : List ℕ) → length (answers_of notes bytes) ≡ length notes
as_many [] bytes = refl
as_many (n ∷ notes) bytes = ap suc (as_many notes (drop (bytes_of n) bytes))

-- an answer has the bytes that its note stands for
pub size_told : (one : WireCall) (bytes : List ℕ) → bytes_of one ≡ length bytes → size_of (answer_of one bytes) ≡ length bytes
size_told (note.Polled wait now) bytes p = p
size_told (note.PollFailed wait) bytes p = p
size_told (note.Accepted wire) bytes p = p
size_told note.AcceptFailed bytes p = p
size_told (note.Connected wire) bytes p = p
size_told note.ConnectFailed bytes p = p
size_told (note.BytesIn wire count) bytes p = refl
size_told (note.NotYet wire) bytes p = p
size_told (note.Ended wire) bytes p = p
size_told (note.ReadFailed wire) bytes p = p
size_told (note.BytesOut wire count) bytes p = refl
size_told (note.WriteFailed wire) bytes p = p
size_told (note.WasShut wire) bytes p = p
