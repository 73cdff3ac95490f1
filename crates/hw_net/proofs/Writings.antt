-- Writes one after the other.
use Rattle.std.proofs.Common.{◌≡◌, ◌≢◌, ◌<◌, ◌≤◌, ℕ, List, [], ◌∷◌, ◌++◌, Bool, true, false, refl, sym, ap, ◌∙◌, append_assoc, length, take, drop, arith, Option, subst, length-take}
use Rattle.std.proofs.lemmas.List.{append-nil, take-append-drop}
use Rattle.hw_door.specs.Calls.{Adds}
use Rattle.hw_net.specs.Trace.{Tells}
use Rattle.hw_net.proofs.Telling.{tells-one-more}
use Rattle.hw_door.specs.Traffic.{Answer, polled, poll_failed, accepted, accept_failed, connected, connect_failed, bytes_in, not_yet, ended, read_failed, bytes_out, write_failed, was_shut, none_ready}
use Rattle.hw_net.specs.Saying.{Writes}

-- the writes so far took some of what waits, so that whatever more writes leave, all of them leave
abbrev pub Continues : ℕ → List ℕ → List Answer → List ℕ → Type 0
Continues wire waits answers rest = (more : List Answer) (left : List ℕ) (is_whole : Bool) → Writes wire rest more left is_whole → Writes wire waits (answers ++ more) left is_whole

pub continues-none : (wire : ℕ) (waits : List ℕ) → Continues wire waits [] waits
continues-none wire waits more left is_whole w = w

pub writes-more : (wire : ℕ) (taken rest : List ℕ) (more : List Answer) (left : List ℕ) (is_whole : Bool) → 0 < length taken →
    Writes wire rest more left is_whole → Writes wire (taken ++ rest) (bytes_out wire taken ∷ more) left is_whole
writes-more wire [] rest more left is_whole some w = absurd (omega arith)
writes-more wire (b ∷ bs) rest more left is_whole some w = (refl, (rest, refl, w))

pub continues-more : (wire : ℕ) (waits : List ℕ) (answers : List Answer) (taken rest : List ℕ) → 0 < length taken →
    Continues wire waits answers (taken ++ rest) → Continues wire waits (answers ++ bytes_out wire taken ∷ []) rest
continues-more wire waits answers taken rest some c more left is_whole w =
    let one : Writes wire waits (answers ++ (bytes_out wire taken ∷ more)) left is_whole = c (bytes_out wire taken ∷ more) left is_whole (writes-more wire taken rest more left is_whole some w) in
    rw (append_assoc answers (bytes_out wire taken ∷ []) more) one

-- the writes so far, as the wires tell them
abbrev pub HasWritten : Option (List Answer) → Option (List Answer) → ℕ → List ℕ → List ℕ → Type 0
HasWritten before now wire waits rest = (answers : List Answer) × Tells before now answers × Continues wire waits answers rest

-- all writes
abbrev pub HasDone : Option (List Answer) → Option (List Answer) → ℕ → List ℕ → List ℕ → Bool → Type 0
HasDone before now wire waits left is_whole = (answers : List Answer) × Tells before now answers × Writes wire waits answers left is_whole

pub stop-empty : (a b : Option (List Answer)) (wire : ℕ) (waits rest : List ℕ) → HasWritten a b wire waits rest → rest ≡ [] → HasDone a b wire waits rest true
stop-empty a b wire waits rest h e =
    let done : Writes wire waits (h.0 ++ []) rest true = h.2 [] rest true (e, e, refl) in
    (h.0, h.1, rw (append-nil h.0) at done)

pub stop-zero : (a b c : Option (List Answer)) (wire count : ℕ) (waits rest sent : List ℕ) → HasWritten a b wire waits rest → rest ≢ [] → count ≡ 0 →
    Adds b c (bytes_out wire (take count sent)) → HasDone a c wire waits rest true
stop-zero a b c wire count waits rest sent h some zero trace =
    let added : Adds b c (bytes_out wire []) = subst (λ n. Adds b c (bytes_out wire (take n sent))) zero trace in
    (h.0 ++ bytes_out wire [] ∷ [], tells-one-more a b c h.0 (bytes_out wire []) h.1 added, h.2 (bytes_out wire [] ∷ []) rest true (refl, some, refl, refl))

pub stop-failed : (a b c : Option (List Answer)) (wire : ℕ) (waits rest : List ℕ) → HasWritten a b wire waits rest → rest ≢ [] → Adds b c (write_failed wire) → HasDone a c wire waits rest false
stop-failed a b c wire waits rest h some trace =
    (h.0 ++ write_failed wire ∷ [], tells-one-more a b c h.0 (write_failed wire) h.1 trace, h.2 (write_failed wire ∷ []) rest false (refl, some, refl, refl))

pub go-on : (a b c : Option (List Answer)) (wire count : ℕ) (waits rest sent left : List ℕ) → HasWritten a b wire waits rest → sent ≡ rest → count ≢ 0 → count ≤ length sent →
    Adds b c (bytes_out wire (take count sent)) → left ≡ drop count rest → HasWritten a c wire waits left
go-on a b c wire count waits rest sent left h same some within trace drops =
    let taken = take count rest in
    let size : 0 < length taken = omega (arith, length-take count rest, ap (λ (l : List ℕ). length l) same) in
    let added : Adds b c (bytes_out wire taken) = subst (λ (l : List ℕ). Adds b c (bytes_out wire (take count l))) same trace in
    let now : Continues wire waits h.0 (taken ++ drop count rest) = rw (take-append-drop count rest) h.2 in
    let later : Continues wire waits (h.0 ++ bytes_out wire taken ∷ []) (drop count rest) = continues-more wire waits h.0 taken (drop count rest) size now in (
      h.0 ++ bytes_out wire taken ∷ [],
      tells-one-more a b c h.0 (bytes_out wire taken) h.1 added,
      subst (λ (l : List ℕ). Continues wire waits (h.0 ++ bytes_out wire taken ∷ []) l) (sym drops) later,
    )

pub none-left : (xs : List ℕ) → length xs ≡ 0 → xs ≡ []
none-left [] e = refl
none-left (x ∷ xs) e = absurd (omega (arith, e))

-- first all of some bytes are written, and then of others
pub writes-both : (wire : ℕ) (xs ys : List ℕ) (ones bs : List Answer) (left : List ℕ) (is_whole : Bool) → Writes wire xs ones [] true → Writes wire ys bs left is_whole →
    Writes wire (xs ++ ys) (ones ++ bs) left is_whole
writes-both wire xs ys [] bs left is_whole w v = subst (λ (l : List ℕ). Writes wire (l ++ ys) bs left is_whole) (sym w.0) v
writes-both wire xs ys (polled wait now ∷ ones) bs left is_whole w v = absurd w
writes-both wire xs ys (poll_failed wait ∷ ones) bs left is_whole w v = absurd w
writes-both wire xs ys (accepted at ∷ ones) bs left is_whole w v = absurd w
writes-both wire xs ys (accept_failed ∷ ones) bs left is_whole w v = absurd w
writes-both wire xs ys (connected at ∷ ones) bs left is_whole w v = absurd w
writes-both wire xs ys (connect_failed ∷ ones) bs left is_whole w v = absurd w
writes-both wire xs ys (bytes_in at piece ∷ ones) bs left is_whole w v = absurd w
writes-both wire xs ys (not_yet at ∷ ones) bs left is_whole w v = absurd w
writes-both wire xs ys (ended at ∷ ones) bs left is_whole w v = absurd w
writes-both wire xs ys (read_failed at ∷ ones) bs left is_whole w v = absurd w
writes-both wire xs ys (bytes_out at [] ∷ []) bs left is_whole w v = absurd (w.1 (sym w.2))
writes-both wire xs ys (bytes_out at [] ∷ a ∷ ones) bs left is_whole w v = absurd w
writes-both wire xs ys (bytes_out at (c ∷ cs) ∷ ones) bs left is_whole w v =
    (w.0, (w.1.0 ++ ys, ap (λ (l : List ℕ). l ++ ys) w.1.1 ∙ append_assoc (c ∷ cs) w.1.0 ys, writes-both wire w.1.0 ys ones bs left is_whole w.1.2 v))
writes-both wire xs ys (write_failed at ∷ []) bs left is_whole w v = cc w.3
writes-both wire xs ys (write_failed at ∷ a ∷ ones) bs left is_whole w v = absurd w
writes-both wire xs ys (was_shut at ∷ ones) bs left is_whole w v = absurd w
writes-both wire xs ys (none_ready ∷ ones) bs left is_whole w v = absurd w

some-more : (xs ys : List ℕ) → xs ≢ [] → xs ++ ys ≢ []
some-more [] ys some = λ e. some refl
some-more (x ∷ xs) ys some = λ e. cc e

pub writes-first : (wire : ℕ) (xs ys : List ℕ) (ones : List Answer) (left : List ℕ) (is_whole : Bool) → Writes wire xs ones left is_whole → left ≢ [] →
    Writes wire (xs ++ ys) ones (left ++ ys) is_whole
writes-first wire xs ys [] left is_whole w some = absurd (some w.1)
writes-first wire xs ys (polled wait now ∷ ones) left is_whole w some = absurd w
writes-first wire xs ys (poll_failed wait ∷ ones) left is_whole w some = absurd w
writes-first wire xs ys (accepted at ∷ ones) left is_whole w some = absurd w
writes-first wire xs ys (accept_failed ∷ ones) left is_whole w some = absurd w
writes-first wire xs ys (connected at ∷ ones) left is_whole w some = absurd w
writes-first wire xs ys (connect_failed ∷ ones) left is_whole w some = absurd w
writes-first wire xs ys (bytes_in at piece ∷ ones) left is_whole w some = absurd w
writes-first wire xs ys (not_yet at ∷ ones) left is_whole w some = absurd w
writes-first wire xs ys (ended at ∷ ones) left is_whole w some = absurd w
writes-first wire xs ys (read_failed at ∷ ones) left is_whole w some = absurd w
writes-first wire xs ys (bytes_out at [] ∷ []) left is_whole w some = (w.0, some-more xs ys w.1, ap (λ (l : List ℕ). l ++ ys) w.2, w.3)
writes-first wire xs ys (bytes_out at [] ∷ a ∷ ones) left is_whole w some = absurd w
writes-first wire xs ys (bytes_out at (c ∷ cs) ∷ ones) left is_whole w some =
    (w.0, (w.1.0 ++ ys, ap (λ (l : List ℕ). l ++ ys) w.1.1 ∙ append_assoc (c ∷ cs) w.1.0 ys, writes-first wire w.1.0 ys ones left is_whole w.1.2 some))
writes-first wire xs ys (write_failed at ∷ []) left is_whole w some = (w.0, some-more xs ys w.1, ap (λ (l : List ℕ). l ++ ys) w.2, w.3)
writes-first wire xs ys (write_failed at ∷ a ∷ ones) left is_whole w some = absurd w
writes-first wire xs ys (was_shut at ∷ ones) left is_whole w some = absurd w
writes-first wire xs ys (none_ready ∷ ones) left is_whole w some = absurd w

-- a write that failed left something
pub left-of-failed : (wire : ℕ) (xs : List ℕ) (ones : List Answer) (left : List ℕ) → Writes wire xs ones left false → left ≢ []
left-of-failed wire xs [] left w = cc w.2
left-of-failed wire xs (polled wait now ∷ ones) left w = absurd w
left-of-failed wire xs (poll_failed wait ∷ ones) left w = absurd w
left-of-failed wire xs (accepted at ∷ ones) left w = absurd w
left-of-failed wire xs (accept_failed ∷ ones) left w = absurd w
left-of-failed wire xs (connected at ∷ ones) left w = absurd w
left-of-failed wire xs (connect_failed ∷ ones) left w = absurd w
left-of-failed wire xs (bytes_in at piece ∷ ones) left w = absurd w
left-of-failed wire xs (not_yet at ∷ ones) left w = absurd w
left-of-failed wire xs (ended at ∷ ones) left w = absurd w
left-of-failed wire xs (read_failed at ∷ ones) left w = absurd w
left-of-failed wire xs (bytes_out at [] ∷ []) left w = cc w.3
left-of-failed wire xs (bytes_out at [] ∷ a ∷ ones) left w = absurd w
left-of-failed wire xs (bytes_out at (c ∷ cs) ∷ ones) left w = left-of-failed wire w.1.0 ones left w.1.2
left-of-failed wire xs (write_failed at ∷ []) left w = λ e. w.1 (sym w.2 ∙ e)
left-of-failed wire xs (write_failed at ∷ a ∷ ones) left w = absurd w
left-of-failed wire xs (was_shut at ∷ ones) left w = absurd w
left-of-failed wire xs (none_ready ∷ ones) left w = absurd w
