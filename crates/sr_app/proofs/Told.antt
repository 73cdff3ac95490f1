-- Bytes that a source tells and a sink tells, over several calls.
use Rattle.std.proofs.Common.{ℕ, List, [], ◌++◌, Option, Some, None, refl, sym, ◌∙◌, ap, append_assoc}
use Rattle.std.specs.Io.KnownBytes.{Appends, Consumes, IsAtEnd}
use Rattle.std.proofs.lemmas.List.{append-nil}
use Rattle.hd_facts.specs.Writes.{IsText}

-- two reads, one after the other
pub consumed_in_turn : (a b c : Option (List ℕ)) (xs ys : List ℕ) → Consumes a b xs → Consumes b c ys → Consumes a c (xs ++ ys)
consumed_in_turn None b c xs ys p q = tt
consumed_in_turn (Some a) None c xs ys p q = absurd p
consumed_in_turn (Some a) (Some b) None xs ys p q = absurd q
consumed_in_turn (Some a) (Some b) (Some c) xs ys p q = p ∙ ap (λ zs. xs ++ zs) q ∙ sym (append_assoc xs ys c)

pub consumed_nothing : (input : Option (List ℕ)) → Consumes input input []
consumed_nothing None = tt
consumed_nothing (Some bytes) = refl

pub appended_nothing : (held : Option (List ℕ)) → Appends held held []
appended_nothing None = tt
appended_nothing (Some bytes) = sym (append-nil bytes)

-- the bytes that an input tells, or none
abbrev pub bytes_of : Option (List ℕ) → List ℕ
bytes_of None = []
bytes_of (Some bytes) = bytes

pub text_is_told : (input : Option (List ℕ)) → IsText input (bytes_of input)
text_is_told None = tt
text_is_told (Some bytes) = refl

-- what was read to the end is the whole input
pub whole_is_told : (input left : Option (List ℕ)) (text : List ℕ) → Consumes input left text → IsAtEnd left → IsText input text
whole_is_told None left text read ended = tt
whole_is_told (Some bytes) None text read ended = absurd read
whole_is_told (Some bytes) (Some rest) text read ended = read ∙ ap (λ xs. text ++ xs) ended ∙ append-nil text
