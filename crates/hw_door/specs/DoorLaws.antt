-- Chains of calls join, and split.
use Rattle.std.proofs.Common.{List, [], ◌∷◌, ◌++◌, refl, subst}
use Rattle.hw_door.specs.DoorCalls.{DoorCall, Chain}

pub chain_joins : {S : Type 0} (Step : DoorCall → S → S → Type 0) (a b c : S) (x y : List DoorCall) → Chain Step a x b → Chain Step b y c → Chain Step a (x ++ y) c
chain_joins {S} Step a b c [] y same rest = subst (λ (s : S). Chain Step s y c) same rest
chain_joins Step a b c (call ∷ x) y chain rest = (chain.0, chain.1, chain_joins Step chain.0 b c x y chain.2 rest)

pub chain_splits : {S : Type 0} (Step : DoorCall → S → S → Type 0) (a c : S) (x y : List DoorCall) → Chain Step a (x ++ y) c → (b : S) × Chain Step a x b × Chain Step b y c
chain_splits Step a c [] y chain = (a, refl, chain)
chain_splits Step a c (call ∷ x) y chain = let rest = chain_splits Step chain.0 c x y chain.2 in (rest.0, (chain.0, chain.1, rest.1), rest.2)
