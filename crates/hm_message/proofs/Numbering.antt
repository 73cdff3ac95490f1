-- Types and their numbers.
use Rattle.std.proofs.Common.{◌≡◌, zero, suc, ℤ, pos, negsuc, Some, None, refl, sym, ap, ◌∙◌, arith, inl, inr, ◌⊎◌}
use Rattle.std.proofs.lemmas.Int.{ints}
use Rattle.hm_message.specs.Kind.{number, kind_at, IsOfNoKind}
use Rattle.hm_message.specs.Laws.{KindsHaveNumbers}
use Rattle.hm_message.specs.declared.kind.Kind.{Kind}
use Rattle.hm_message.specs.declared.kind.Kind.TheVariants as kinds

kind_at-number : (k : Kind) → kind_at (number k) ≡ Some k
unfolding kind_at
kind_at-number kinds.Invocation = refl
kind_at-number kinds.StreamItem = refl
kind_at-number kinds.Completion = refl
kind_at-number kinds.StreamInvocation = refl
kind_at-number kinds.CancelInvocation = refl
kind_at-number kinds.Ping = refl
kind_at-number kinds.Close = refl
kind_at-number kinds.Ack = refl
kind_at-number kinds.Sequence = refl

number-inj : (k l : Kind) → number k ≡ number l → k ≡ l
number-inj k l e =
    let same : Some k ≡ Some l = sym (kind_at-number k) ∙ ap kind_at e ∙ kind_at-number l in
    cc

number-known : (k : Kind) → IsOfNoKind (number k) → ⊥
number-known kinds.Invocation h = h (omega (arith, ints), omega (arith, ints))
number-known kinds.StreamItem h = h (omega (arith, ints), omega (arith, ints))
number-known kinds.Completion h = h (omega (arith, ints), omega (arith, ints))
number-known kinds.StreamInvocation h = h (omega (arith, ints), omega (arith, ints))
number-known kinds.CancelInvocation h = h (omega (arith, ints), omega (arith, ints))
number-known kinds.Ping h = h (omega (arith, ints), omega (arith, ints))
number-known kinds.Close h = h (omega (arith, ints), omega (arith, ints))
number-known kinds.Ack h = h (omega (arith, ints), omega (arith, ints))
number-known kinds.Sequence h = h (omega (arith, ints), omega (arith, ints))

known_or_not : (z : ℤ) → ((k : Kind) × (z ≡ number k)) ⊎ (IsOfNoKind z × (kind_at z ≡ None))
unfolding kind_at
known_or_not (pos zero) = inr (λ h. absurd (omega (arith, ints, h.0)), refl)
known_or_not (pos (suc zero)) = inl (kinds.Invocation, refl)
known_or_not (pos (suc (suc zero))) = inl (kinds.StreamItem, refl)
known_or_not (pos (suc (suc (suc zero)))) = inl (kinds.Completion, refl)
known_or_not (pos (suc (suc (suc (suc zero))))) = inl (kinds.StreamInvocation, refl)
known_or_not (pos (suc (suc (suc (suc (suc zero)))))) = inl (kinds.CancelInvocation, refl)
known_or_not (pos (suc (suc (suc (suc (suc (suc zero))))))) = inl (kinds.Ping, refl)
known_or_not (pos (suc (suc (suc (suc (suc (suc (suc zero)))))))) = inl (kinds.Close, refl)
known_or_not (pos (suc (suc (suc (suc (suc (suc (suc (suc zero))))))))) = inl (kinds.Ack, refl)
known_or_not (pos (suc (suc (suc (suc (suc (suc (suc (suc (suc zero)))))))))) = inl (kinds.Sequence, refl)
known_or_not (pos (suc (suc (suc (suc (suc (suc (suc (suc (suc (suc n))))))))))) = inr (λ h. absurd (omega (arith, ints, h.1)), refl)
known_or_not (negsuc n) = inr (λ h. absurd (omega (arith, ints, h.0)), refl)

pub kinds_have_numbers : KindsHaveNumbers
kinds_have_numbers = record {
  kind_at-number = kind_at-number;
  number-inj = number-inj;
  number-known = number-known;
  known_or_not = known_or_not;
}
