-- Ledgers stay legal.
use Rattle.std.proofs.Common.{◌≡◌, ℕ, ◌<◌, ◌⊎◌, inl, inr, Bool, true, false, List, [], ◌∷◌, ◌++◌, Some, None, refl, sym, ap, ◌∙◌, subst}
use Rattle.std.specs.Prelude.{◌==◌, ◌||◌, ◌&&◌, is_some, not, if◌then◌else◌}
use Rattle.std.proofs.lemmas.Bool.{eq-eqb, and_parts, or_cases, or_parts, not-true, eqb-true}
use Rattle.hd_calls.specs.Hubs.{Way, Invoked, Answer, Item, End, id_of, is_stream}
use Rattle.hd_calls.specs.Ledgers.{CallHappening, Called, Got, Uploaded, Stopped, Gone, IsLegal, IsLegalLedger, IsLegalRest}
use Rattle.hd_calls.specs.Peers.{has_end, has_id}
use Rattle.hd_calls.specs.Tables.{call_in, given_in, lost_in, live_call_in, uploaded_in}
use Rattle.hi_calls.specs.Legal.{number_of, ledger_in, ends_call, is_over, IsLedgerOf, HasLedger, AreLegal}
use Rattle.hi_calls.proofs.Happenings.{SameAt}

-- what may follow a call that is made in this way
abbrev pub MayFollow : Way → CallHappening → Type 0
MayFollow way (Called n c) = ⊥
MayFollow way (Got n (Item v)) = is_stream way ≡ true
MayFollow way (Got n (End e)) = is_some (id_of way) ≡ true
MayFollow way (Uploaded n w a) = Unit {0}
MayFollow way (Stopped n) = is_some (id_of way) ≡ true
MayFollow way (Gone n) = is_some (id_of way) ≡ true

first_legal : (way : Way) (d : CallHappening) → MayFollow way d → IsLegalRest way (d ∷ [])
first_legal way (Called n c) f = f
first_legal way (Got n (Item v)) f = (f, tt)
first_legal way (Got n (End e)) f = (f, refl)
first_legal way (Uploaded n w a) f = tt
first_legal way (Stopped n) f = (f, tt)
first_legal way (Gone n) f = (f, refl)

rest_more : (way : Way) (xs : List CallHappening) (d : CallHappening) → IsLegalRest way xs → is_over xs ≡ false → MayFollow way d → IsLegalRest way (xs ++ d ∷ [])
rest_more way [] d l o f = first_legal way d f
rest_more way (Called n c ∷ xs) d l o f = l
rest_more way (Got n (Item v) ∷ xs) d l o f = (l.0, rest_more way xs d l.1 o f)
rest_more way (Got n (End e) ∷ xs) d l o f = absurd (let z : true ≡ false = o in cc)
rest_more way (Uploaded n w a ∷ xs) d l o f = rest_more way xs d l o f
rest_more way (Stopped n ∷ xs) d l o f = (l.0, rest_more way xs d l.1 o f)
rest_more way (Gone n ∷ xs) d l o f = absurd (let z : true ≡ false = o in cc)

-- what wants no answer isn't over
no_end : (way : Way) (xs : List CallHappening) → IsLegalRest way xs → is_some (id_of way) ≡ false → is_over xs ≡ false
no_end way [] l e = refl
no_end way (Called n c ∷ xs) l e = absurd l
no_end way (Got n (Item v) ∷ xs) l e = no_end way xs l.1 e
no_end way (Got n (End f) ∷ xs) l e = absurd (let z : true ≡ false = sym l.0 ∙ e in cc)
no_end way (Uploaded n w a ∷ xs) l e = no_end way xs l e
no_end way (Stopped n ∷ xs) l e = no_end way xs l.1 e
no_end way (Gone n ∷ xs) l e = absurd (let z : true ≡ false = sym l.0 ∙ e in cc)

or_false : (b : Bool) → (b || false) ≡ b
or_false true = refl
or_false false = refl

over_more : (xs : List CallHappening) (d : CallHappening) → is_over xs ≡ false → is_over (xs ++ d ∷ []) ≡ ends_call d
over_more [] d o = or_false (ends_call d)
over_more (x ∷ xs) d o =
    let p = or_parts (ends_call x) (is_over xs) o in
    ap (λ b. b || is_over (xs ++ d ∷ [])) p.0 ∙ over_more xs d p.1

-- one happening more
ledger_more : (n : ℕ) (h : List CallHappening) (d : CallHappening) (c : Invoked) (rest : List CallHappening) → number_of d ≡ n → IsLedgerOf n h c rest
    → call_in n (d ∷ h) ≡ call_in n h → is_over rest ≡ false → MayFollow c.way d → ends_call d ≡ (has_end (given_in n (d ∷ h)) || lost_in n (d ∷ h))
    → IsLedgerOf n (d ∷ h) c (rest ++ d ∷ [])
ledger_more n h d c rest e s call o f ends = record {
  is = ap (λ b. if b then ledger_in n h ++ d ∷ [] else ledger_in n h) (eq-eqb n (number_of d) (sym e)) ∙ ap (λ xs. xs ++ d ∷ []) s.is;
  call = call ∙ s.call;
  legal = rest_more c.way rest d s.legal o f;
  over = over_more rest d o ∙ ends;
}

pub ledger_same : (k : ℕ) (h g : List CallHappening) → SameAt k h g → HasLedger k h → HasLedger k g
ledger_same k h g s (inl l) = inl (s.ledger ∙ l.0, s.call ∙ l.1)
ledger_same k h g s (inr l) =
    inr (l.0, l.1, record { is = s.ledger ∙ l.2.is; call = s.call ∙ l.2.call; legal = l.2.legal; over = l.2.over ∙ sym (λ i. has_end (s.given i) || s.lost i) })

-- a call begins the ledger of a number that has none
pub ledger_called : (n : ℕ) (c : Invoked) (h : List CallHappening) → ledger_in n h ≡ [] → given_in n h ≡ [] → lost_in n h ≡ false → HasLedger n (Called n c ∷ h)
ledger_called n c h none ungiven unlost = inr (
  c,
  [],
  record {
    is = ap (λ b. if b then ledger_in n h ++ Called n c ∷ [] else ledger_in n h) (eq-eqb n n refl) ∙ ap (λ xs. xs ++ Called n c ∷ []) none;
    call = ap (λ b. if b then Some c else call_in n h) (eq-eqb n n refl);
    legal = tt;
    over = sym (λ i. has_end (ungiven i) || unlost i);
  },
)

-- a live call goes on
live_parts : (n : ℕ) (h : List CallHappening) (c : Invoked) → call_in n h ≡ Some c → live_call_in n h ≡ true
    → (is_some (id_of c.way) ≡ true) × ((has_end (given_in n h) || lost_in n h) ≡ false)
live_parts n h c e l =
    let p = and_parts (has_id (call_in n h)) (not (has_end (given_in n h)) && not (lost_in n h)) l in
    let q = and_parts (not (has_end (given_in n h))) (not (lost_in n h)) p.1 in
    (sym (ap has_id e) ∙ p.0, (λ i. not-true (has_end (given_in n h)) q.0 i || not-true (lost_in n h) q.1 i))

pub live_open : (n : ℕ) (h : List CallHappening) → live_call_in n h ≡ true → (has_end (given_in n h) || lost_in n h) ≡ false
live_open n h l =
    let p = and_parts (has_id (call_in n h)) (not (has_end (given_in n h)) && not (lost_in n h)) l in
    let q = and_parts (not (has_end (given_in n h))) (not (lost_in n h)) p.1 in
    (λ i. not-true (has_end (given_in n h)) q.0 i || not-true (lost_in n h) q.1 i)

pub ledger_goes_on : (n : ℕ) (h : List CallHappening) (d : CallHappening) → number_of d ≡ n → HasLedger n h → live_call_in n h ≡ true
    → call_in n (d ∷ h) ≡ call_in n h → ((c : Invoked) → call_in n h ≡ Some c → is_some (id_of c.way) ≡ true → MayFollow c.way d)
    → ends_call d ≡ (has_end (given_in n (d ∷ h)) || lost_in n (d ∷ h)) → HasLedger n (d ∷ h)
ledger_goes_on n h d e (inl l) live call f ends =
    absurd (let p = and_parts (has_id (call_in n h)) (not (has_end (given_in n h)) && not (lost_in n h)) live in
    let z : true ≡ false = sym p.0 ∙ ap has_id l.1 in
    cc)
ledger_goes_on n h d e (inr l) live call f ends =
    let p = live_parts n h l.0 l.2.call live in
    inr (l.0, l.1 ++ d ∷ [], ledger_more n h d l.0 l.1 e l.2 call (l.2.over ∙ p.1) (f l.0 l.2.call p.0) ends)

-- and so does what wants no answer, whose uploads are sent
quiet : (c : Invoked) (n : ℕ) (h : List CallHappening) → call_in n h ≡ Some c → (live_call_in n h || not (has_id (call_in n h))) ≡ true
    → (live_call_in n h ≡ true) ⊎ (is_some (id_of c.way) ≡ false)
quiet c n h e l = go (or_cases (live_call_in n h) (not (has_id (call_in n h))) l)
  where
    go : (live_call_in n h ≡ true) ⊎ (not (has_id (call_in n h)) ≡ true) → (live_call_in n h ≡ true) ⊎ (is_some (id_of c.way) ≡ false)
    go (inl p) = inl p
    go (inr p) = inr (sym (ap has_id e) ∙ not-true (has_id (call_in n h)) p)

pub ledger_uploads : (n w : ℕ) (a : Answer) (h : List CallHappening) → HasLedger n h → (live_call_in n h || not (has_id (call_in n h))) ≡ true
    → ((call_in n h ≡ None) → ⊥) → HasLedger n (Uploaded n w a ∷ h)
ledger_uploads n w a h (inl l) live f = absurd (f l.1)
ledger_uploads n w a h (inr l) live f =
    let o = go (quiet l.0 n h l.2.call live) in
    inr (l.0, l.1 ++ Uploaded n w a ∷ [], ledger_more n h (Uploaded n w a) l.0 l.1 refl l.2 refl o tt (sym (sym l.2.over ∙ o)))
  where
    go : (live_call_in n h ≡ true) ⊎ (is_some (id_of l.0.way) ≡ false) → is_over l.1 ≡ false
    go (inl p) = l.2.over ∙ (live_parts n h l.0 l.2.call p).1
    go (inr p) = no_end l.0.way l.1 l.2.legal p

-- ---- streams

pub stream_more : (xs : List Answer) (a : Answer) → IsLegal true xs → has_end xs ≡ false → IsLegal true (xs ++ a ∷ [])
stream_more [] (Item v) l e = (refl, tt)
stream_more [] (End f) l e = refl
stream_more (Item v ∷ xs) a l e = (l.0, stream_more xs a l.1 e)
stream_more (End f ∷ xs) a l e = absurd (let z : true ≡ false = e in cc)

pub stream_uploaded : (n w : ℕ) (a : Answer) (h : List CallHappening) → ((k u : ℕ) → IsLegal true (uploaded_in k u h)) → has_end (uploaded_in n w h) ≡ false
    → (k u : ℕ) → IsLegal true (uploaded_in k u (Uploaded n w a ∷ h))
stream_uploaded n w a h all e k u = go ((k == n) && (u == w)) refl
  where
    go : (b : Bool) → ((k == n) && (u == w)) ≡ b → IsLegal true (if b then uploaded_in k u h ++ a ∷ [] else uploaded_in k u h)
    go true p =
        let q = and_parts (k == n) (u == w) p in
        stream_more (uploaded_in k u h) a (all k u) ((λ i. has_end (uploaded_in (eqb-true k n q.0 i) (eqb-true u w q.1 i) h)) ∙ e)
    go false p = all k u

ledger_legal : (n : ℕ) (h : List CallHappening) → HasLedger n h → IsLegalLedger (ledger_in n h)
ledger_legal n h (inl l) = subst IsLegalLedger (sym l.0) tt
ledger_legal n h (inr l) = subst IsLegalLedger (sym l.2.is) l.2.legal

pub all_legal : (h : List CallHappening) → ((n : ℕ) → 0 < n → HasLedger n h) → ((n w : ℕ) → IsLegal true (uploaded_in n w h)) → AreLegal h
all_legal h ledgers streams = record { of_call = λ n l. ledger_legal n h (ledgers n l); of_upload = streams }
