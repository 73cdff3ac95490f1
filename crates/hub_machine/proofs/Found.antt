-- Which of the connections that are there is found by a test that no more than one passes.
use Rattle.std.proofs.Common.{◌≡◌, ℕ, Bool, true, false, not, ◌&&◌, List, Option, Some, None, is_some, refl, ◌∙◌, arith}
use Rattle.std.specs.Prelude.{find}
use Rattle.std.proofs.lemmas.Bool.{and_from, and_parts, false_from_ne_true}
use Rattle.hd_calls.specs.Peers.{Settings}
use Rattle.hd_server.specs.Lives.{numbers_to}
use Rattle.hd_server.specs.Machine.{MachineEvent, connections, greatest, has_gone, is_there, settings_of}
use Rattle.hub_machine.specs.Laws.{ConnectionsAreFound, ConnectionsAreNumbered}
use Rattle.hub_machine.proofs.TurnFirst.{find_both, first_to, from_one, none_to, within}

pub connections_are_numbered : ConnectionsAreNumbered
connections_are_numbered c t w none begun = (from_one c t w none begun, within c t w begun)

begun_some : (o : Option Settings) → is_some o ≡ true → (t : Settings) × (o ≡ Some t)
begun_some (Some t) e = (t, refl)
begun_some None e = absurd (cc)

module _ (p : ℕ → Bool) (w : List MachineEvent) where
  abbrev passes : ℕ → Bool
  passes k = is_there k w && p k

  fails : (k : ℕ) → (is_there k w ≡ true → p k ≡ false) → passes k ≡ false
  fails k none = by (is_there k w) refl
    where
      by : (b : Bool) → is_there k w ≡ b → (b && p k) ≡ false
      by true e = none e
      by false e = refl

  found_none : ((k : ℕ) → is_there k w ≡ true → p k ≡ false) → find p (connections w) ≡ None
  found_none none = find_both p (λ k. is_there k w) (numbers_to (greatest w)) ∙ none_to passes (greatest w) (λ k e. fails k (none k))

  found_one : settings_of 0 w ≡ None → (c : ℕ) → is_there c w ≡ true → p c ≡ true → ((k : ℕ) → is_there k w ≡ true → p k ≡ true → k ≡ c)
      → find p (connections w) ≡ Some c
  found_one none c there here only =
      let t = begun_some (settings_of c w) (and_parts (is_some (settings_of c w)) (not (has_gone c w)) there).0 in
      find_both p (λ k. is_there k w) (numbers_to (greatest w))
      ∙ first_to passes (greatest w) c (from_one c t.0 w none t.1) (within c t.0 w t.1) (and_from (is_there c w) (p c) there here)
      (λ k e. fails k (λ f. false_from_ne_true (p k) (λ g. let same = only k f g in absurd (omega (arith, e, same)))))

pub connections_are_found : ConnectionsAreFound
connections_are_found p w none = record { none = found_none p w; one = found_one p w none }
