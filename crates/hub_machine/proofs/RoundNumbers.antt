-- A round in which no connection has a turn left.
use Rattle.std.proofs.Common.{◌≡◌, ℕ, Bool, true, false, List, [], ◌∷◌, Option, Some, None, refl, sym, ap, ◌∙◌}
use Rattle.std.specs.Prelude.{◌&&◌, find, filter, nat_le, is_some, if◌then◌else◌}
use Rattle.hd_server.specs.Machine.{MachineEvent, greatest, is_there, last_turn, next_turn, turn_at}
use Rattle.hd_server.specs.Lives.{numbers_to}
use Rattle.hub_machine.specs.Rounds.{has_turn}

module _ (early late there : ℕ → Bool) where
  abbrev found : List ℕ → Option ℕ
  found cs = find (λ c. early c && late c) cs

  skipped : (c : ℕ) (cs : List ℕ) (b : Bool) → there c ≡ b → (early c && (there c && late c)) ≡ false → found cs ≡ None
      → found (if b then c ∷ cs else cs) ≡ None
  skipped c cs false e f rest = rest
  skipped c cs true e f rest =
      let none : (early c && late c) ≡ false = ap (λ (b : Bool). early c && (b && late c)) (sym e) ∙ f in
      ap (λ (b : Bool). if b then Some c else found cs) none ∙ rest

  none_found : (cs : List ℕ) → ((c : ℕ) → (early c && (there c && late c)) ≡ false) → found (filter there cs) ≡ None
  none_found [] f = refl
  none_found (c ∷ cs) f = skipped c (filter there cs) (there c) refl (f c) (none_found cs f)

-- where no connection has a turn none is next
pub none_next : (r : List MachineEvent) → ((c : ℕ) → has_turn c r ≡ false) → next_turn r ≡ None
none_next r f = none_found (λ c. nat_le (last_turn r) c) (λ c. is_some (turn_at c r)) (λ c. is_there c r) (numbers_to (greatest r)) f
