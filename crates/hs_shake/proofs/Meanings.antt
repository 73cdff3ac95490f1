-- As a request and as a response each frame has one meaning.
use Rattle.std.proofs.Common.{◌≡◌, ◌≢◌, ◌<◌, ◌≤◌, ◌⊎◌, inl, inr, ℕ, ℤ, pos, negsuc, List, [], ◌∷◌, Option, Some, None, Result, Ok, Err, refl, sym, ap, subst, ◌∙◌, arith}
use Rattle.std.specs.Option.{ok_or}
use Rattle.std.proofs.lemmas.Bool.{cases_eq, cases_lt}
use Rattle.hv_value.specs.Tree.{Tree, null, boolean, int, text, bytes, list, map, Pairs}
use Rattle.hv_json.specs.Reading.{reading}
use Rattle.hv_json.specs.declared.reading.JsonError.{JsonError}
use Rattle.hm_message.specs.Fields.{text_in, whole_in}
use Rattle.hm_message.specs.declared.message.Codec.{Codec}
use Rattle.hm_message.specs.declared.message.Codec.TheVariants.{Json, Pack}
use Rattle.hm_message.specs.declared.message.Field.{Field}
use Rattle.hm_message.specs.declared.message.Field.TheVariants as field
use Rattle.hs_shake.specs.Objects.{IsObjectOf, IsNoObject, property}
use Rattle.hs_shake.specs.Requests as request
use Rattle.hs_shake.specs.Requests.{IsVersion, highest_version, protocol_name, says, protocol, version, Asks, IsUnspoken, IsUnknown, Refuses}
use Rattle.hs_shake.specs.Responses as response
use Rattle.hs_shake.specs.Responses.{Accepts, HasNoError, HasWrongError, IsAnswered}
use Rattle.hs_shake.specs.Laws.{IsOneRequest, IsOneResponse}
use Rattle.hs_shake.specs.declared.shake.ShakeError.{ShakeError}
use Rattle.hs_shake.specs.declared.shake.ShakeError.TheVariants.{NotJson, Missing, Wrong, Unspoken, Version, Refused, NoMemory}

-- ---- names and versions

same_or_other : (s t : List ℕ) → (s ≡ t) ⊎ (s ≢ t)
same_or_other [] [] = inl refl
same_or_other [] (y ∷ t) = inr (λ e. absurd cc)
same_or_other (x ∷ s) [] = inr (λ e. absurd cc)
same_or_other (x ∷ s) (y ∷ t) = both (cases_eq x y) (same_or_other s t)
  where
    both : (x ≡ y) ⊎ (x ≡ y → ⊥) → (s ≡ t) ⊎ (s ≢ t) → (x ∷ s ≡ y ∷ t) ⊎ (x ∷ s ≢ y ∷ t)
    both (inl e) (inl f) = inl cc
    both (inl e) (inr n) = inr (λ f. n cc)
    both (inr n) f = inr (λ f. n cc)

abbrev Named : List ℕ → Type 0
Named name = ((codec : Codec) × (name ≡ protocol_name codec)) ⊎ IsUnspoken name

spoken_or_not : (name : List ℕ) → Named name
spoken_or_not name = by (same_or_other name (protocol_name Json)) (same_or_other name (protocol_name Pack))
  where
    neither : name ≢ protocol_name Json → name ≢ protocol_name Pack → IsUnspoken name
    neither n m Json = n
    neither n m Pack = m

    by : (name ≡ protocol_name Json) ⊎ (name ≢ protocol_name Json) → (name ≡ protocol_name Pack) ⊎ (name ≢ protocol_name Pack) → Named name
    by (inl e) f = inl (Json, e)
    by (inr n) (inl e) = inl (Pack, e)
    by (inr n) (inr m) = inr (neither n m)

abbrev Numbered : ℤ → Type 0
Numbered z = ((n : ℕ) × (IsVersion n × (z ≡ pos n))) ⊎ IsUnknown z

known_or_not : (z : ℤ) → Numbered z
known_or_not (negsuc k) = inr (λ n v e. absurd cc)
known_or_not (pos k) = by (cases_lt highest_version k) (cases_lt k 1)
  where
    by : (highest_version < k) ⊎ (k ≤ highest_version) → (k < 1) ⊎ (1 ≤ k) → Numbered (pos k)
    by (inl above) f = inr (λ n v e. (let same : k ≡ n = cc in omega (arith, same, above, v.1)))
    by (inr within) (inl below) = inr (λ n v e. (let same : k ≡ n = cc in omega (arith, same, below, v.0)))
    by (inr within) (inr least) = inl (k, ((least, within), refl))

same_codec : (codec other : Codec) → protocol_name codec ≡ protocol_name other → codec ≡ other
same_codec Json Json e = refl
same_codec Json Pack e = absurd cc
same_codec Pack Json e = absurd cc
same_codec Pack Pack e = refl

-- ---- refusals of properties

abbrev OfProperty : ShakeError → Type 0
OfProperty NotJson = ⊥
OfProperty (Missing f) = Unit {0}
OfProperty (Wrong f) = Unit {0}
OfProperty Unspoken = ⊥
OfProperty (Version z) = ⊥
OfProperty (Refused s) = ⊥
OfProperty NoMemory = ⊥

wrong_of_property : {A : Type 0} (f : Field) (o : Option A) (e : ShakeError) → ok_or o (Wrong f) ≡ Err e → OfProperty e
wrong_of_property f (Some x) e h = absurd cc
wrong_of_property f None e h = let same : Wrong f ≡ e = cc in subst OfProperty same tt

says_of_property : {A : Type 0} (f : Field) (reads : Tree → Option A) (o : Option Tree) (e : ShakeError) → says f reads o ≡ Err e → OfProperty e
says_of_property f reads None e h = let same : Missing f ≡ e = cc in subst OfProperty same tt
says_of_property f reads (Some t) e h = wrong_of_property f (reads t) e h

abbrev PropertyRefuses : Pairs → ShakeError → Type 0
PropertyRefuses ps e = (protocol ps ≡ Err e) ⊎ ((name : List ℕ) × ((protocol ps ≡ Ok name) × (version ps ≡ Err e)))

refusal_of_property : (ps : Pairs) (e : ShakeError) → PropertyRefuses ps e → OfProperty e
refusal_of_property ps e (inl h) = says_of_property {A = List ℕ} field.Protocol text_in (property field.Protocol ps) e h
refusal_of_property ps e (inr h) = says_of_property {A = ℤ} field.Version whole_in (property field.Version ps) e h.1.1

refuses_property : (ps : Pairs) (e : ShakeError) → PropertyRefuses ps e → Refuses ps e
refuses_property ps NotJson h = h
refuses_property ps (Missing f) h = h
refuses_property ps (Wrong f) h = h
refuses_property ps Unspoken h = absurd (refusal_of_property ps Unspoken h)
refuses_property ps (Version z) h = absurd (refusal_of_property ps (Version z) h)
refuses_property ps (Refused s) h = h
refuses_property ps NoMemory h = h

-- ---- an object's refusal is its frame's

why_refused : (frame : List ℕ) (ps : Pairs) (e : ShakeError) → IsObjectOf frame ps → Refuses ps e → request.WhyNot frame e
why_refused frame ps NotJson o h = absurd (refusal_of_property ps NotJson h)
why_refused frame ps (Missing f) o h = (ps, (o, h))
why_refused frame ps (Wrong f) o h = (ps, (o, h))
why_refused frame ps Unspoken o h = (ps, (o, h))
why_refused frame ps (Version z) o h = (ps, (o, h))
why_refused frame ps (Refused s) o h = absurd (refusal_of_property ps (Refused s) h)
why_refused frame ps NoMemory o h = absurd (refusal_of_property ps NoMemory h)

answered : (frame : List ℕ) (e : ShakeError) → request.WhyNot frame e → IsAnswered e
answered frame NotJson h = tt
answered frame (Missing f) h = tt
answered frame (Wrong f) h = tt
answered frame Unspoken h = tt
answered frame (Version z) h = tt
answered frame (Refused s) h = h
answered frame NoMemory h = h

-- ---- the reason of a request, if it is refused

abbrev named_reason : (name : List ℕ) (z : ℤ) → Named name → Numbered z → Option ShakeError
named_reason name z (inr unspoken) numbered = Some Unspoken
named_reason name z (inl spoken) (inr unknown) = Some (Version z)
named_reason name z (inl spoken) (inl known) = None

abbrev asked_reason : Result (List ℕ) ShakeError → Result ℤ ShakeError → Option ShakeError
asked_reason (Err e) v = Some e
asked_reason (Ok name) (Err e) = Some e
asked_reason (Ok name) (Ok z) = named_reason name z (spoken_or_not name) (known_or_not z)

abbrev object_reason : Pairs → Option ShakeError
object_reason ps = asked_reason (protocol ps) (version ps)

abbrev request_reason : Result Tree JsonError → Option ShakeError
request_reason (Ok (map ps)) = object_reason ps
request_reason r = Some NotJson

unspoken_named : (name : List ℕ) (z : ℤ) (d : Named name) (k : Numbered z) → IsUnspoken name → named_reason name z d k ≡ Some Unspoken
unspoken_named name z (inl (codec, e)) k h = absurd (h codec e)
unspoken_named name z (inr u) k h = refl

unknown_named : (codec : Codec) (z : ℤ) (d : Named (protocol_name codec)) (k : Numbered z) → IsUnknown z → named_reason (protocol_name codec) z d k ≡ Some (Version z)
unknown_named codec z (inr u) k h = absurd (u codec refl)
unknown_named codec z (inl s) (inr u) h = refl
unknown_named codec z (inl s) (inl (n, (v, e))) h = absurd (h n v e)

asked_named : (codec : Codec) (n : ℕ) (d : Named (protocol_name codec)) (k : Numbered (pos n)) → IsVersion n → named_reason (protocol_name codec) (pos n) d k ≡ None
asked_named codec n (inr u) k v = absurd (u codec refl)
asked_named codec n (inl s) (inr u) v = absurd (u n v refl)
asked_named codec n (inl s) (inl k) v = refl

property_reason : (ps : Pairs) (e : ShakeError) → PropertyRefuses ps e → object_reason ps ≡ Some e
property_reason ps e (inl h) = rw h refl
property_reason ps e (inr (name, (p, v))) = rw (p, v) refl

refuses_reason : (ps : Pairs) (e : ShakeError) → Refuses ps e → object_reason ps ≡ Some e
refuses_reason ps NotJson h = property_reason ps NotJson h
refuses_reason ps (Missing f) h = property_reason ps (Missing f) h
refuses_reason ps (Wrong f) h = property_reason ps (Wrong f) h
refuses_reason ps Unspoken (name, (z, (p, v, u))) = rw (p, v) (unspoken_named name z (spoken_or_not name) (known_or_not z) u)
refuses_reason ps (Version z) (codec, (p, v, u)) = rw (p, v) (unknown_named codec z (spoken_or_not (protocol_name codec)) (known_or_not z) u)
refuses_reason ps (Refused s) h = property_reason ps (Refused s) h
refuses_reason ps NoMemory h = property_reason ps NoMemory h

no_object_reason : (r : Result Tree JsonError) → ((ps : Pairs) → r ≡ Ok (map ps) → ⊥) → request_reason r ≡ Some NotJson
no_object_reason (Err e) h = refl
no_object_reason (Ok null) h = refl
no_object_reason (Ok (boolean b)) h = refl
no_object_reason (Ok (int z)) h = refl
no_object_reason (Ok (text s)) h = refl
no_object_reason (Ok (bytes s)) h = refl
no_object_reason (Ok (list ts)) h = refl
no_object_reason (Ok (map ps)) h = absurd (h ps refl)

why_reason : (frame : List ℕ) (e : ShakeError) → request.WhyNot frame e → request_reason (reading frame) ≡ Some e
why_reason frame NotJson h = no_object_reason (reading frame) h
why_reason frame (Missing f) (ps, (o, h)) = rw o (refuses_reason ps (Missing f) h)
why_reason frame (Wrong f) (ps, (o, h)) = rw o (refuses_reason ps (Wrong f) h)
why_reason frame Unspoken (ps, (o, h)) = rw o (refuses_reason ps Unspoken h)
why_reason frame (Version z) (ps, (o, h)) = rw o (refuses_reason ps (Version z) h)
why_reason frame (Refused s) h = absurd h
why_reason frame NoMemory h = absurd h

asked_no_reason : (frame : List ℕ) (codec : Codec) (n : ℕ) → Asks frame codec n → request_reason (reading frame) ≡ None
asked_no_reason frame codec n (ps, (o, p, v, k)) =
    rw (o, p, v) (asked_named codec n (spoken_or_not (protocol_name codec)) (known_or_not (pos n)) k)

-- ---- as a request

split : {A G : Type 0} (r : Result A ShakeError) → ((x : A) → r ≡ Ok x → G) → ((e : ShakeError) → r ≡ Err e → G) → G
split (Ok x) f g = f x refl
split (Err e) f g = g e refl

abbrev Object : List ℕ → Type 0
Object frame = ((ps : Pairs) × IsObjectOf frame ps) ⊎ IsNoObject frame

object_or_not : (frame : List ℕ) → Object frame
object_or_not frame = go (reading frame) refl
  where
    other : (t : Tree) → reading frame ≡ Ok t → ((ps : Pairs) → t ≡ map ps → ⊥) → Object frame
    other t e n = inr (λ ps h. n ps cc)

    go : (r : Result Tree JsonError) → reading frame ≡ r → Object frame
    go (Err why) e = inr (λ ps h. absurd cc)
    go (Ok null) e = other null e (λ ps h. absurd cc)
    go (Ok (boolean b)) e = other (boolean b) e (λ ps h. absurd cc)
    go (Ok (int z)) e = other (int z) e (λ ps h. absurd cc)
    go (Ok (text s)) e = other (text s) e (λ ps h. absurd cc)
    go (Ok (bytes s)) e = other (bytes s) e (λ ps h. absurd cc)
    go (Ok (list ts)) e = other (list ts) e (λ ps h. absurd cc)
    go (Ok (map ps)) e = inl (ps, e)

abbrev AskedOrNot : List ℕ → Type 0
AskedOrNot frame = ((codec : Codec) × ((n : ℕ) × Asks frame codec n)) ⊎ ((e : ShakeError) × request.WhyNot frame e)

asked_or_named : (frame : List ℕ) (ps : Pairs) (name : List ℕ) (z : ℤ) → IsObjectOf frame ps → protocol ps ≡ Ok name → version ps ≡ Ok z → Named name → Numbered z → AskedOrNot frame
asked_or_named frame ps name z o p v (inr u) k = inr (Unspoken, (ps, (o, (name, (z, (p, v, u))))))
asked_or_named frame ps name z o p v (inl (codec, e)) (inr u) = inr (Version z, (ps, (o, (codec, (p ∙ ap Ok e, v, u)))))
asked_or_named frame ps name z o p v (inl (codec, e)) (inl (n, (k, f))) = inl (codec, (n, (ps, (o, p ∙ ap Ok e, v ∙ ap Ok f, k))))

asked_or_not : (frame : List ℕ) → Object frame → AskedOrNot frame
asked_or_not frame (inr none) = inr (NotJson, none)
asked_or_not frame (inl (ps, o)) =
    split (protocol ps) (λ name p. split (version ps)
    (λ z v. asked_or_named frame ps name z o p v (spoken_or_not name) (known_or_not z))
    (λ e v. inr (e, why_refused frame ps e o (refuses_property ps e (inr (name, (p, v)))))))
    (λ e p. inr (e, why_refused frame ps e o (refuses_property ps e (inl p))))

same_request : (frame : List ℕ) (codec codec' : Codec) (n n' : ℕ) → Asks frame codec n → Asks frame codec' n' → (codec ≡ codec') × (n ≡ n')
same_request frame codec codec' n n' (ps, (o, p, v, k)) (ps', (o', p', v', k')) =
    let same : ps ≡ ps' = cc in
    let name : Ok (protocol_name codec) ≡ Ok (protocol_name codec') = sym p ∙ ap protocol same ∙ p' in
    let number : Ok (pos n) ≡ Ok (pos n') = sym v ∙ ap version same ∙ v' in
    (same_codec codec codec' cc, cc)

pub one_request : (frame : List ℕ) → IsOneRequest frame
one_request frame = record {
  some = asked_or_not frame (object_or_not frame);
  one_request = same_request frame;
  one_reason = λ e e' h h'. (let same : Some e ≡ Some e' = sym (why_reason frame e h) ∙ why_reason frame e' h' in cc);
  accepted = λ codec n e a h. (let same : None ≡ Some e = sym (asked_no_reason frame codec n a) ∙ why_reason frame e h in absurd cc);
  spoken = λ codec n a. a.1.3;
  answered = answered frame;
}

-- ---- as a response

abbrev error_reason : Option Tree → Option ShakeError
error_reason None = None
error_reason (Some null) = None
error_reason (Some (text s)) = Some (Refused s)
error_reason (Some t) = Some (Wrong field.Error)

abbrev response_reason : Result Tree JsonError → Option ShakeError
response_reason (Ok (map ps)) = error_reason (property field.Error ps)
response_reason r = Some NotJson

wrong_reason : (t : Tree) → t ≢ null → ((s : List ℕ) → t ≢ text s) → error_reason (Some t) ≡ Some (Wrong field.Error)
wrong_reason null n m = absurd (n refl)
wrong_reason (boolean b) n m = refl
wrong_reason (int z) n m = refl
wrong_reason (text s) n m = absurd (m s refl)
wrong_reason (bytes s) n m = refl
wrong_reason (list ts) n m = refl
wrong_reason (map ps) n m = refl

no_response_reason : (r : Result Tree JsonError) → ((ps : Pairs) → r ≡ Ok (map ps) → ⊥) → response_reason r ≡ Some NotJson
no_response_reason (Err e) h = refl
no_response_reason (Ok null) h = refl
no_response_reason (Ok (boolean b)) h = refl
no_response_reason (Ok (int z)) h = refl
no_response_reason (Ok (text s)) h = refl
no_response_reason (Ok (bytes s)) h = refl
no_response_reason (Ok (list ts)) h = refl
no_response_reason (Ok (map ps)) h = absurd (h ps refl)

refused_reason : (frame : List ℕ) (e : ShakeError) → response.WhyNot frame e → response_reason (reading frame) ≡ Some e
refused_reason frame NotJson h = no_response_reason (reading frame) h
refused_reason frame (Wrong field.Error) (ps, (o, (t, (p, n, m)))) = rw (o, p) (wrong_reason t n m)
refused_reason frame (Refused s) (ps, (o, p)) = rw (o, p) refl
refused_reason frame e h = absurd h

accepted_no_reason : (frame : List ℕ) → Accepts frame → response_reason (reading frame) ≡ None
accepted_no_reason frame (ps, (o, inl p)) = rw (o, p) refl
accepted_no_reason frame (ps, (o, inr p)) = rw (o, p) refl

accepted_or_not : (frame : List ℕ) → Object frame → Accepts frame ⊎ ((e : ShakeError) × response.WhyNot frame e)
accepted_or_not frame (inr none) = inr (NotJson, none)
accepted_or_not frame (inl (ps, o)) = by (property field.Error ps) refl
  where
    wrong : (t : Tree) → property field.Error ps ≡ Some t → t ≢ null → ((s : List ℕ) → t ≢ text s) → Accepts frame ⊎ ((e : ShakeError) × response.WhyNot frame e)
    wrong t p n m = inr (Wrong field.Error, (ps, (o, (t, (p, n, m)))))

    by : (error : Option Tree) → property field.Error ps ≡ error → Accepts frame ⊎ ((e : ShakeError) × response.WhyNot frame e)
    by None p = inl (ps, (o, inl p))
    by (Some null) p = inl (ps, (o, inr p))
    by (Some (text s)) p = inr (Refused s, (ps, (o, p)))
    by (Some (boolean b)) p = wrong (boolean b) p (λ e. absurd cc) (λ s e. absurd cc)
    by (Some (int z)) p = wrong (int z) p (λ e. absurd cc) (λ s e. absurd cc)
    by (Some (bytes s)) p = wrong (bytes s) p (λ e. absurd cc) (λ s e. absurd cc)
    by (Some (list ts)) p = wrong (list ts) p (λ e. absurd cc) (λ s e. absurd cc)
    by (Some (map qs)) p = wrong (map qs) p (λ e. absurd cc) (λ s e. absurd cc)

pub one_response : (frame : List ℕ) → IsOneResponse frame
one_response frame = record {
  some = accepted_or_not frame (object_or_not frame);
  one_reason = λ e e' h h'. (let same : Some e ≡ Some e' = sym (refused_reason frame e h) ∙ refused_reason frame e' h' in cc);
  accepted = λ e a h. (let same : None ≡ Some e = sym (accepted_no_reason frame a) ∙ refused_reason frame e h in absurd cc);
}
