-- What one more dealing makes of a room.
use Rattle.std.proofs.Common.{◌≡◌, ℕ, Bool, true, false, ◌==◌, List, [], ◌∷◌, ◌++◌, Option, Some, None, if◌then◌else◌, refl, sym, ap, ◌∙◌}
use Rattle.std.proofs.lemmas.Bool.{eqb-true}
use Rattle.he_end.specs.declared.errors.SendError.{SendError}
use Rattle.hub_machine.specs.Spreads.{Delivering}
use Rattle.ht_machine.specs.declared.room.Room.{Room}
use Rattle.ht_machine.specs.Deals.{Kept, kept_at, codec_at, taken, conn_of, change_of, after, Delivers, Changes}

abbrev changed : Bool → (Kept → Kept) → Kept → Kept
changed b change a = if b then change a else a

after_more : (k : ℕ) (ds : List Delivering) (d : Delivering) (a : Kept) → after k (ds ++ d ∷ []) a ≡ changed (conn_of d == k) (change_of d) (after k ds a)
after_more k [] d a = refl
after_more k (e ∷ ds) d a = after_more k ds d (changed (conn_of e == k) (change_of e) a)

one_more : (old new : Room) (c : ℕ) (change : Kept → Kept) → Changes old new c change → (k : ℕ) → kept_at new k ≡ changed (c == k) change (kept_at old k)
one_more old new c change h k = go (c == k) refl
  where
    go : (b : Bool) → (c == k) ≡ b → kept_at new k ≡ changed b change (kept_at old k)
    go true e =
        let is : c ≡ k = eqb-true c k e in
        ap (kept_at new) (sym is) ∙ (h.here ∙ ap (λ x. change (kept_at old x)) is)
    go false e = h.others k e

pub dealt : (s old new : Room) (ds : List Delivering) (d : Delivering) → Changes old new (conn_of d) (change_of d) → Delivers s ds old → Delivers s (ds ++ d ∷ []) new
dealt s old new ds d h so_far k =
    one_more old new (conn_of d) (change_of d) h k
    ∙ (ap (λ a. changed (conn_of d == k) (change_of d) a) (so_far k) ∙ sym (after_more k ds d (kept_at s k)))

taken_codec : (refusal : Option SendError) (a : Kept) → (taken refusal a).codec ≡ a.codec
taken_codec None a = refl
taken_codec (Some e) a = refl

changed_codec : (b : Bool) (refusal : Option SendError) (a : Kept) → (changed b (taken refusal) a).codec ≡ a.codec
changed_codec true refusal a = taken_codec refusal a
changed_codec false refusal a = refl

-- a message changes no codec
pub same_codecs : (old new : Room) (c : ℕ) (refusal : Option SendError) → Changes old new c (taken refusal) → (k : ℕ) → codec_at new k ≡ codec_at old k
same_codecs old new c refusal h k = ap (λ a. a.codec) (one_more old new c (taken refusal) h k) ∙ changed_codec (c == k) refusal (kept_at old k)

is_other : (c k : ℕ) → (k ≡ c → ⊥) → (c == k) ≡ false
is_other c k n = go (c == k) refl
  where
    go : (b : Bool) → (c == k) ≡ b → b ≡ false
    go true e = absurd (n (sym (eqb-true c k e)))
    go false e = refl

-- nor does what changes another connection
pub other_codecs : (old new : Room) (c : ℕ) (change : Kept → Kept) → Changes old new c change → (k : ℕ) → (k ≡ c → ⊥) → codec_at new k ≡ codec_at old k
other_codecs old new c change h k n = ap (λ a. a.codec) (h.others k (is_other c k n))
