-- The connection that gives way makes room for another.
use Rattle.std.proofs.Common.{refl, ap, sym, ◌∙◌, ◌≡◌, ℕ, ◌<◌, ◌≤◌, Bool, true, false, List, [], ◌∷◌, ◌++◌, length, find, Option, Some, None, arith, if◌then◌else◌}
use Rattle.std.specs.Prelude.{◌==◌, not, is_some, ◌&&◌}
use Rattle.std.proofs.lemmas.Bool.{eq-eqb, or_parts, or_left, or_right, leb-false, lt-leb}
use Rattle.hd_server.specs.declared.vocabulary.Life.{Life}
use Rattle.hd_server.specs.declared.vocabulary.Life.TheVariants.{Unknown, Fresh, Socket, Lost, Polling, Ending}
use Rattle.hd_server.specs.Numbers.{most_connections}
use Rattle.hd_server.specs.Lives.{ConnectionEvent, Removed, AreInOrder, first_fresh, gives_way, is_busy, is_fresh, is_full, is_known, is_removed, last_moment, life_of, live, made, numbers_to}
use Rattle.hd_server.specs.Machine.{Goes}
use Rattle.hd_server.specs.Doings.{ServerEvent, Notes, Works, has_peer}
use Rattle.hd_server.specs.Plans.{onto, removing_conn, removing_some}
use Rattle.hd_server.proofs.Flushing.{is_in}
use Rattle.hd_server.proofs.Few.{all_few, fewer_by_one, of_gone, removed_unknown}
use Rattle.hd_server.proofs.OrderlyNotes.{IsWithin, in_numbers}
use Rattle.hd_server.proofs.Each.{either_way}

found : (p : ℕ → Bool) (xs : List ℕ) (c : ℕ) → find p xs ≡ Some c → (p c ≡ true) × (is_in c xs ≡ true)
found p [] c e = absurd (cc)
found p (x ∷ xs) c e = by (p x) refl e (found p xs c) where
  by : (b : Bool) → p x ≡ b → (if b then Some x else find p xs) ≡ Some c → (find p xs ≡ Some c → (p c ≡ true) × (is_in c xs ≡ true))
      → (p c ≡ true) × (is_in c (x ∷ xs) ≡ true)
  by true f g further = let here : c ≡ x = cc in (ap p here ∙ f, or_left (c == x) (is_in c xs) (eq-eqb c x here))
  by false f g further = let was = further g in (was.0, or_right (c == x) (is_in c xs) was.1)

fresh_known : (l : Life) → is_fresh l ≡ true → is_known l ≡ true
fresh_known Unknown e = absurd (cc)
fresh_known Fresh e = refl
fresh_known (Socket lane) e = refl
fresh_known Lost e = refl
fresh_known Polling e = refl
fresh_known Ending e = refl

-- it is one that was made, and that nobody used
pub record IsUnused (c now : ℕ) (h : List ConnectionEvent) : Type 0 where
  pub fresh : is_fresh (life_of c now h) ≡ true
  pub known : is_known (life_of c now h) ≡ true
  pub made_so : IsWithin c h

module _ (most now : ℕ) (h : List ConnectionEvent) where
  pub unused : (c : ℕ) → gives_way most now h ≡ Some c → IsUnused c now h
  unused c e = by (is_full most now h) e where
    by : (b : Bool) → (if b then first_fresh now h else None) ≡ Some c → IsUnused c now h
    by true f =
        let it = found (λ k. is_fresh (life_of k now h)) (numbers_to (made h)) c f in
        record { fresh = it.0; known = fresh_known (life_of c now h) it.0; made_so = in_numbers (made h) c it.1 }
    by false f = absurd (let z : ◌≡◌ {A = Option ℕ} None (Some c) = f in cc)

  -- fewer live then than may
  pub makes_room : AreInOrder most h → last_moment h ≤ now → (c : ℕ) → gives_way most now h ≡ Some c → is_full most now (Removed c ∷ h) ≡ false
  makes_room order later c e =
      let it = unused c e in
      let few = all_few most h order now later in
      let gone : is_known (life_of c now (Removed c ∷ h)) ≡ false
      = ap is_known (removed_unknown c now (Removed c ∷ h) (or_left (c == c) (is_removed c h) (eq-eqb c c refl))) in
      let less = fewer_by_one (made h) c (λ k. is_known (life_of k now (Removed c ∷ h))) (λ k. is_known (life_of k now h))
      (λ k l known. of_gone k now c h known) it.made_so.0 it.made_so.1 gone it.known in
      lt-leb most (length (live now (Removed c ∷ h))) (omega (arith, few, less))

  -- where none gives way there is room, unless the server is busy
  pub has_room : is_busy most now h ≡ false → gives_way most now h ≡ None → is_full most now h ≡ false
  has_room free e = by (is_full most now h) e (or_parts _ _ free).0 where
    by : (b : Bool) → (if b then first_fresh now h else None) ≡ None → (b && not (is_some (first_fresh now h))) ≡ false → b ≡ false
    by true f g = absurd (let z : true ≡ false = sym (ap (λ o. not (is_some o)) f) ∙ g in cc)
    by false f g = refl

  pub not_last : is_busy most now h ≡ false → made h < most_connections
  not_last free = leb-false most_connections (made h) (or_parts _ _ free).1

-- ---- what is kept of none

-- by whether one gives way
pub either_room : (P : List ServerEvent → Type 0) (o : Option ℕ) (h g : List ServerEvent) → P g → ((c : ℕ) → o ≡ Some c → P (onto (removing_conn c h) g))
    → P (onto (removing_some o h) g)
either_room P None h g none some = none
either_room P (Some c) h g none some = some c refl

-- what stays when its peer goes and it is noted that it is gone
pub removed_so : (P : List ServerEvent → Type 0) (c : ℕ) (h g : List ServerEvent) → P (Notes (Removed c) ∷ Works (Goes c) ∷ g) → P (Notes (Removed c) ∷ g)
    → P (onto (removing_conn c h) g)
removed_so P c h g a b = either_way (λ ds. P (onto (ds ++ Notes (Removed c) ∷ []) g)) (has_peer c h) (Works (Goes c) ∷ []) [] a b
