-- A message that goes to one connection, and then to more.
use Rattle.std.proofs.Common.{◌≡◌, inr, ℕ, suc, zero, ◌+◌, ◌<◌, ◌≤◌, Bool, true, false, ◌||◌, ◌==◌}
use Rattle.std.proofs.Common.{List, [], ◌∷◌, ◌++◌, map, length, get_or, take, drop, take-append-drop}
use Rattle.std.proofs.Common.{Option, Some, None, is_some, Result, Ok, Err, OnErr, nat_eq, refl, sym, ap, subst, ◌∙◌, arith}
use Rattle.std.proofs.lemmas.Bool.{eq-eqb, or_parts}
use Rattle.std.proofs.lemmas.Bool.Decides.{Decides-eqb}
use Rattle.std.proofs.lemmas.List.{append-nil, append_assoc, map-append, take_more}
use Rattle.std.proofs.lemmas.Map.Made.{AllPairs-from_IsDistinct}
use Rattle.std.proofs.Math.Seq.{drop-cons}
use Rattle.std.proofs.lemmas.Grind.{flat_map-append}
use Rattle.std.specs.List.{flat_map, IsDistinct}
use Rattle.hm_message.specs.declared.message.Codec.{Codec}
use Rattle.hm_message.specs.declared.message.Message.{Message}
use Rattle.hm_message.specs.declared.message.Codec.TheVariants.{Json, Pack}
use Rattle.he_end.specs.declared.errors.SendError.{SendError}
use Rattle.he_end.specs.declared.errors.SendError.TheVariants.{Opening, Closed, TooLong, Full, Exhausted, NoMemory}
use Rattle.he_end.specs.declared.spelled.Spelled.{Spelled}
use Rattle.hub_machine.specs.declared.broadcast.Spellings.{Spellings}
use Rattle.hub_machine.specs.Spreads.{Delivering, Sends, Slows, Answer, delivering, AreAsked, Spreads, IsRefused, IsCutShort}
use Rattle.hub_machine.specs.Spreads.{is_in_codec, is_listed, is_spoken, IsSpelledFor, AreSpelled}

-- dealings with all connections lead from one state to another
abbrev pub Leads : {S : Type 0} → (S → List Delivering → S → Type 0) → (List Delivering → List Delivering → Type 0) → S → S → Type 0
Leads {S} Delivers Is old new = (s : S) (before : List Delivering) → Delivers s before old → (after : List Delivering) × Is before after × Delivers s after new

-- ---- one connection

pub passed_over : (own : ℕ → Option Codec) (c : ℕ) (m : Message) (before : List Delivering) → own c ≡ None → Spreads own (c ∷ []) m before before
passed_over own c m before e = record {
  answers = (c, None) ∷ [];
  of_each = refl;
  asked = (record { has_codec = sym (ap is_some e); has_memory = λ f. cc }, tt);
  dealt = sym (append-nil before);
}

answered : (own : ℕ → Option Codec) (c : ℕ) (m : Message) (before after : List Delivering) (codec : Codec) (refusal : Option SendError) → own c ≡ Some codec
    → (refusal ≡ Some NoMemory → ⊥) → after ≡ before ++ delivering m (c, Some refusal) → Spreads own (c ∷ []) m before after
answered own c m before after codec refusal e f g = record {
  answers = (c, Some refusal) ∷ [];
  of_each = refl;
  asked = (record { has_codec = sym (ap is_some e); has_memory = λ h. f (let i : refusal ≡ Some NoMemory = cc in i) }, tt);
  dealt = g ∙ ap (λ ds. before ++ ds) (sym (append-nil (delivering m (c, Some refusal))));
}

pub sent : (own : ℕ → Option Codec) (c : ℕ) (m : Message) (before after : List Delivering) (codec : Codec) → own c ≡ Some codec
    → after ≡ before ++ Sends c m None ∷ [] → Spreads own (c ∷ []) m before after
sent own c m before after codec e g =
    answered own c m before after codec None e (λ f. absurd (let z : ◌≡◌ {A = Option SendError} None (Some NoMemory) = f in cc)) g

pub slowed : (own : ℕ → Option Codec) (c : ℕ) (m : Message) (before mid after : List Delivering) (codec : Codec) (why : SendError) (held bytes size : ℕ)
    → own c ≡ Some codec → why ≡ Full held bytes size → mid ≡ before ++ Sends c m (Some why) ∷ [] → after ≡ mid ++ Slows c ∷ []
    → Spreads own (c ∷ []) m before after
slowed own c m before mid after codec why held bytes size e full f g = answered own c m before after codec (Some (Full held bytes size)) e (λ h. absurd (cc))
    (g ∙ ap (λ ds. ds ++ Slows c ∷ []) (f ∙ ap (λ w. before ++ Sends c m (Some w) ∷ []) full)
    ∙ append_assoc before (Sends c m (Some (Full held bytes size)) ∷ []) (Slows c ∷ []))

-- for any reason but want of room and want of memory
pub refused : (own : ℕ → Option Codec) (c : ℕ) (m : Message) (before after : List Delivering) (codec : Codec) (why : SendError) → own c ≡ Some codec
    → (why ≡ NoMemory → ⊥) → ((held bytes size : ℕ) → why ≡ Full held bytes size → ⊥)
    → after ≡ before ++ Sends c m (Some why) ∷ [] → Spreads own (c ∷ []) m before after
refused own c m before after codec why e f full g =
    answered own c m before after codec (Some why) e (λ h. f (let i : why ≡ NoMemory = cc in i)) (g ∙ ap (λ ds. before ++ ds) (one why full))
  where
    one : (why : SendError) → ((held bytes size : ℕ) → why ≡ Full held bytes size → ⊥) → (Sends c m (Some why) ∷ []) ≡ delivering m (c, Some (Some why))
    one Opening n = refl
    one Closed n = refl
    one (TooLong size) n = refl
    one (Full held bytes size) n = absurd (n held bytes size refl)
    one Exhausted n = refl
    one NoMemory n = refl

-- ---- one more

all_asked : (own : ℕ → Option Codec) (xs ys : List (ℕ × Answer)) → AreAsked own xs → AreAsked own ys → AreAsked own (xs ++ ys)
all_asked own [] ys a b = b
all_asked own (x ∷ xs) ys a b = (a.0, all_asked own xs ys a.1 b)

-- what goes to some and then to others goes to all of them
joined : (own : ℕ → Option Codec) (some others : List ℕ) (m : Message) (before mid after : List Delivering)
    → Spreads own some m before mid → Spreads own others m mid after → Spreads own (some ++ others) m before after
joined own some others m before mid after s t = record {
  answers = s.answers ++ t.answers;
  of_each = map-append (λ (a : ℕ × Answer). a.0) s.answers t.answers ∙ ap (λ cs. cs ++ map (λ a. a.0) t.answers) s.of_each ∙ ap (λ cs. some ++ cs) t.of_each;
  asked = all_asked own s.answers t.answers s.asked t.asked;
  dealt = t.dealt ∙ ap (λ ds. ds ++ flat_map (delivering m) t.answers) s.dealt
      ∙ append_assoc before (flat_map (delivering m) s.answers) (flat_map (delivering m) t.answers)
      ∙ ap (λ ds. before ++ ds) (sym (flat_map-append (delivering m) s.answers t.answers));
}

-- whether it is asked depends on its own codec alone
same_asked : (now own : ℕ → Option Codec) (c : ℕ) (answers : List (ℕ × Answer)) → now c ≡ own c → map (λ a. a.0) answers ≡ c ∷ []
    → AreAsked now answers → AreAsked own answers
same_asked now own c [] e f a = tt
same_asked now own c (x ∷ []) e f a =
    let is : x.0 ≡ c = cc in
    (record { has_codec = a.0.has_codec ∙ ap is_some (ap now is ∙ e ∙ ap own (sym is)); has_memory = a.0.has_memory }, tt)
same_asked now own c (x ∷ y ∷ zs) e f a = absurd (cc)

same_spread : (now own : ℕ → Option Codec) (c : ℕ) (m : Message) (before after : List Delivering) → now c ≡ own c
    → Spreads now (c ∷ []) m before after → Spreads own (c ∷ []) m before after
same_spread now own c m before after e s = record {
  answers = s.answers;
  of_each = s.of_each;
  asked = same_asked now own c s.answers e s.of_each s.asked;
  dealt = s.dealt;
}

pub spreads_one_more : (now own : ℕ → Option Codec) (to : List ℕ) (i : ℕ) (m : Message) (before mid after : List Delivering) → i < length to
    → now (get_or to i 0) ≡ own (get_or to i 0) → Spreads own (take i to) m before mid → Spreads now (get_or to i 0 ∷ []) m mid after
    → Spreads own (take (i + 1) to) m before after
spreads_one_more now own to i m before mid after l e s t =
    subst (λ cs. Spreads own cs m before after) (sym (take_more to i 0 l))
    (joined own (take i to) (get_or to i 0 ∷ []) m before mid after s (same_spread now own (get_or to i 0) m mid after e t))

pub cut_at : (own : ℕ → Option Codec) (to : List ℕ) (i : ℕ) (m : Message) (before mid after : List Delivering) → i < length to
    → Spreads own (take i to) m before mid → IsRefused (get_or to i 0) m mid after → IsCutShort own to m before after
cut_at own to i m before mid after l s r =
    inr (take i to, drop (suc i) to, get_or to i 0, mid, sym (take-append-drop i to) ∙ ap (λ cs. take i to ++ cs) (drop-cons to i 0 l), s, r)

-- ---- which are still to come

-- those whose codecs are as they were, from this place on
abbrev pub AreAsTheyWere : (now own : ℕ → Option Codec) → List ℕ → ℕ → Type 0
AreAsTheyWere now own to i = (k : ℕ) → i ≤ k → k < length to → now (get_or to k 0) ≡ own (get_or to k 0)

pub as_they_were_later : (new now own : ℕ → Option Codec) (to : List ℕ) (i : ℕ) → IsDistinct nat_eq to
    → ((k : ℕ) → (k ≡ get_or to i 0 → ⊥) → new k ≡ now k) → AreAsTheyWere now own to i → AreAsTheyWere new own to (i + 1)
as_they_were_later new now own to i d others w k past within =
    others (get_or to k 0) (λ e. AllPairs-from_IsDistinct {eq = nat_eq} Decides-eqb to d i k 0 (omega (arith, past)) within (sym e))
    ∙ w k (omega (arith, past)) within

-- ---- which aren't among them

pub not_at : (k : ℕ) (to : List ℕ) (i : ℕ) → i < length to → is_listed k to ≡ false → k ≡ get_or to i 0 → ⊥
not_at k [] i l f e = absurd (omega (arith, l))
not_at k (c ∷ cs) zero l f e = absurd (let is : (k == c) ≡ true = eq-eqb k c e in let is_not = (or_parts (k == c) (is_listed k cs) f).0 in cc)
not_at k (c ∷ cs) (suc i) l f e = not_at k cs i (omega (arith, l)) (or_parts (k == c) (is_listed k cs) f).1 e

pub as_it_was : (new now own : ℕ → Option Codec) (to : List ℕ) (i : ℕ) → i < length to → ((k : ℕ) → (k ≡ get_or to i 0 → ⊥) → new k ≡ now k)
    → ((k : ℕ) → is_listed k to ≡ false → now k ≡ own k) → (k : ℕ) → is_listed k to ≡ false → new k ≡ own k
as_it_was new now own to i l others w k f = others k (not_at k to i l f) ∙ w k f

-- ---- what is spelled for all is spelled for one

or_false : (b : Bool) → b ≡ false → (b || false) ≡ false
or_false b e = ap (λ (a : Bool). a || false) e

spoken_at : (codec : Codec) (now own : ℕ → Option Codec) (to : List ℕ) (i : ℕ) → i < length to → now (get_or to i 0) ≡ own (get_or to i 0)
    → is_spoken codec own to ≡ false → is_spoken codec now (get_or to i 0 ∷ []) ≡ false
spoken_at codec now own [] i l e f = absurd (omega (arith, l))
spoken_at codec now own (c ∷ cs) zero l e f =
    or_false (is_in_codec codec (now c)) (ap (λ o. is_in_codec codec o) e ∙ (or_parts (is_in_codec codec (own c)) (is_spoken codec own cs) f).0)
spoken_at codec now own (c ∷ cs) (suc i) l e f =
    spoken_at codec now own cs i (omega (arith, l)) e (or_parts (is_in_codec codec (own c)) (is_spoken codec own cs) f).1

spelled_at : (codec : Codec) (now own : ℕ → Option Codec) (to : List ℕ) (i : ℕ) (m : Message) (s : Option Spelled) → i < length to
    → now (get_or to i 0) ≡ own (get_or to i 0) → IsSpelledFor codec own to m s → IsSpelledFor codec now (get_or to i 0 ∷ []) m s
spelled_at codec now own to i m None l e is = spoken_at codec now own to i l e is
spelled_at codec now own to i m (Some s) l e is = is

pub are_spelled_at : (s : Spellings) (now own : ℕ → Option Codec) (to : List ℕ) (i : ℕ) (m : Message) → i < length to
    → now (get_or to i 0) ≡ own (get_or to i 0) → AreSpelled s own to m → AreSpelled s now (get_or to i 0 ∷ []) m
are_spelled_at s now own to i m l e are = record {
  json = spelled_at Json now own to i m s.json l e are.json;
  pack = spelled_at Pack now own to i m s.pack l e are.pack;
}

-- ---- what holds whatever was answered

pub on_err : {T E P : Type 0} (result : Result T E) → P → OnErr result P
on_err (Ok v) p = tt
on_err (Err e) p = p
