-- What the happenings of a number say, and what another happening leaves of it.
use Rattle.hi_calls.specs.Legal.{ledger_in}
use Rattle.std.proofs.Common.{◌≡◌, ℕ, suc, ◌<◌, ◌≤◌, Bool, true, false, List, [], ◌∷◌, ◌++◌, length, Option, Some, None, refl, sym, ap, ◌∙◌, arith}
use Rattle.std.specs.Prelude.{◌+◌, ◌==◌, ◌&&◌, ◌||◌, not, max, nat_lt, is_some, if◌then◌else◌}
use Rattle.std.proofs.lemmas.Bool.{eqb-true, ne_eqb, ltb-true, le-ltb, and_parts, false_from_ne_true}
use Rattle.hm_message.specs.declared.message.Ending.{Ending}
use Rattle.hv_value.specs.declared.value.Value.{Value}
use Rattle.hd_calls.specs.Hubs.{Invoked, Answer, Item, End}
use Rattle.hd_calls.specs.Rules.{count_below, sum_below}
use Rattle.hd_calls.specs.Ledgers.{CallHappening, Called, Got, Uploaded, Stopped, Gone}
use Rattle.hd_calls.specs.Peers.{has_end, has_id, streams_items, stream_count}
use Rattle.hd_calls.specs.Tables.{drawn_in, call_in, given_in, lost_in, uploaded_in, live_call_in, live_upload_in, live_uploads_in, own_live_in}
use Rattle.hi_calls.specs.Maps.{one_if}
use Rattle.hi_calls.specs.Stands.{live_kind, IsFresh}
use Rattle.hi_calls.proofs.Counts.{count_flip, sum_flip, count_to, sum_to}

-- what is live, by its parts
abbrev pub live_from : Option Invoked → List Answer → Bool → Bool
live_from c gs l = has_id c && (not (has_end gs) && not l)

abbrev pub upload_from : ℕ → Option Invoked → List Answer → Bool → List Answer → Bool
upload_from w c gs l us = (nat_lt w (stream_count c) && not (has_end us)) && (live_from c gs l || not (has_id c))

-- the same happened to a number in both lists
pub record SameAt (k : ℕ) (h g : List CallHappening) : Type 0 where
  pub call : call_in k g ≡ call_in k h
  pub given : given_in k g ≡ given_in k h
  pub lost : lost_in k g ≡ lost_in k h
  pub sent : (w : ℕ) → uploaded_in k w g ≡ uploaded_in k w h
  pub ledger : ledger_in k g ≡ ledger_in k h

module _ (k : ℕ) (h g : List CallHappening) (s : SameAt k h g) where
  pub same_live : live_call_in k g ≡ live_call_in k h
  same_live = λ i. live_from (s.call i) (s.given i) (s.lost i)

  pub same_kind : live_kind k g ≡ live_kind k h
  same_kind = λ i. if live_from (s.call i) (s.given i) (s.lost i) then Some (streams_items (s.call i)) else None

  pub same_upload : (w : ℕ) → live_upload_in k w g ≡ live_upload_in k w h
  same_upload w = λ i. upload_from w (s.call i) (s.given i) (s.lost i) (s.sent w i)

  pub same_uploads : live_uploads_in k g ≡ live_uploads_in k h
  same_uploads = λ i. count_below (stream_count (s.call i)) (λ w. upload_from w (s.call i) (s.given i) (s.lost i) (s.sent w i))

  pub same_fresh : IsFresh k h → IsFresh k g
  same_fresh f = record { uncalled = s.call ∙ f.uncalled; ungiven = s.given ∙ f.ungiven; unlost = s.lost ∙ f.unlost; unsent = λ w. s.sent w ∙ f.unsent w; unheard = s.ledger ∙ f.unheard }

  pub same_count : (m : ℕ) → stream_count (call_in k h) ≤ m → stream_count (call_in k g) ≤ m
  same_count m l = let e = ap stream_count s.call in omega arith

-- the same the other way
pub same_back : (k : ℕ) (h g : List CallHappening) → SameAt k h g → SameAt k g h
same_back k h g s = record { call = sym s.call; given = sym s.given; lost = sym s.lost; sent = λ w. sym (s.sent w); ledger = sym s.ledger }

apart : (k n : ℕ) → (k ≡ n → ⊥) → (k == n) ≡ false
apart k n f = ne_eqb k n f

-- what happens to one number leaves the others
pub apart_called : (k n : ℕ) (c : Invoked) (h : List CallHappening) → (k ≡ n → ⊥) → SameAt k h (Called n c ∷ h)
apart_called k n c h f = record { call = ap (λ b. if b then Some c else call_in k h) (apart k n f); given = refl; lost = refl; sent = λ w. refl; ledger = ap (λ b. if b then ledger_in k h ++ Called n c ∷ [] else ledger_in k h) (apart k n f) }

pub apart_got : (k n : ℕ) (a : Answer) (h : List CallHappening) → (k ≡ n → ⊥) → SameAt k h (Got n a ∷ h)
apart_got k n a h f = record { call = refl; given = ap (λ b. if b then given_in k h ++ a ∷ [] else given_in k h) (apart k n f); lost = refl; sent = λ w. refl; ledger = ap (λ b. if b then ledger_in k h ++ Got n a ∷ [] else ledger_in k h) (apart k n f) }

pub apart_gone : (k n : ℕ) (h : List CallHappening) → (k ≡ n → ⊥) → SameAt k h (Gone n ∷ h)
apart_gone k n h f = record { call = refl; given = refl; lost = ap (λ b. b || lost_in k h) (apart k n f); sent = λ w. refl; ledger = ap (λ b. if b then ledger_in k h ++ Gone n ∷ [] else ledger_in k h) (apart k n f) }

pub apart_stopped : (k n : ℕ) (h : List CallHappening) → (k ≡ n → ⊥) → SameAt k h (Stopped n ∷ h)
apart_stopped k n h f = record { call = refl; given = refl; lost = refl; sent = λ w. refl; ledger = ap (λ b. if b then ledger_in k h ++ Stopped n ∷ [] else ledger_in k h) (apart k n f) }

pub apart_uploaded : (k n v : ℕ) (a : Answer) (h : List CallHappening) → (k ≡ n → ⊥) → SameAt k h (Uploaded n v a ∷ h)
apart_uploaded k n v a h f = record {
  call = refl;
  given = refl;
  lost = refl;
  sent = λ w. ap (λ b. if b && (w == v) then uploaded_in k w h ++ a ∷ [] else uploaded_in k w h) (apart k n f);
  ledger = ap (λ b. if b then ledger_in k h ++ Uploaded n v a ∷ [] else ledger_in k h) (apart k n f);
}

-- a number to which nothing happened
pub fresh_live : (k : ℕ) (h : List CallHappening) → IsFresh k h → live_call_in k h ≡ false
fresh_live k h f = ap (λ c. live_from c (given_in k h) (lost_in k h)) f.uncalled

pub fresh_kind : (k : ℕ) (h : List CallHappening) → IsFresh k h → live_kind k h ≡ None
fresh_kind k h f = ap (λ c. if live_from c (given_in k h) (lost_in k h) then Some (streams_items c) else None) f.uncalled

no_upload : (w : ℕ) (gs us : List Answer) (l : Bool) → upload_from w None gs l us ≡ false
no_upload w gs us l = ap (λ b. (b && not (has_end us)) && true) (le-ltb w 0 (omega arith))

pub fresh_upload : (k w : ℕ) (h : List CallHappening) → IsFresh k h → live_upload_in k w h ≡ false
fresh_upload k w h f =
    ap (λ c. upload_from w c (given_in k h) (lost_in k h) (uploaded_in k w h)) f.uncalled ∙ no_upload w (given_in k h) (uploaded_in k w h) (lost_in k h)

pub fresh_uploads : (k : ℕ) (h : List CallHappening) → IsFresh k h → live_uploads_in k h ≡ 0
fresh_uploads k h f = ap (λ c. count_below (stream_count c) (λ w. upload_from w c (given_in k h) (lost_in k h) (uploaded_in k w h))) f.uncalled

-- what is live has a call
pub upload_within : (k w : ℕ) (h : List CallHappening) → live_upload_in k w h ≡ true → w < stream_count (call_in k h)
upload_within k w h e =
    let a = and_parts (nat_lt w (stream_count (call_in k h)) && not (has_end (uploaded_in k w h))) (live_call_in k h || not (has_id (call_in k h))) e in
    let b = and_parts (nat_lt w (stream_count (call_in k h))) (not (has_end (uploaded_in k w h))) a.0 in
    ltb-true w (stream_count (call_in k h)) b.0

pub upload_beyond : (k w : ℕ) (h : List CallHappening) → stream_count (call_in k h) ≤ w → live_upload_in k w h ≡ false
upload_beyond k w h l = false_from_ne_true (live_upload_in k w h) (λ e. let m = upload_within k w h e in omega arith)

pub kind_live : (k : ℕ) (h : List CallHappening) → live_call_in k h ≡ true → live_kind k h ≡ Some (streams_items (call_in k h))
kind_live k h e = ap (λ b. if b then Some (streams_items (call_in k h)) else None) e

pub kind_dead : (k : ℕ) (h : List CallHappening) → live_call_in k h ≡ false → live_kind k h ≡ None
kind_dead k h e = ap (λ b. if b then Some (streams_items (call_in k h)) else None) e

kind_cases : (b s : Bool) → (if b then Some s else None) ≡ None → b ≡ false
kind_cases true s e = absurd (cc)
kind_cases false s e = refl

pub dead_kind : (k : ℕ) (h : List CallHappening) → live_kind k h ≡ None → live_call_in k h ≡ false
dead_kind k h e = kind_cases (live_call_in k h) (streams_items (call_in k h)) e

kind_some : (b s : Bool) → is_some (if b then Some s else None) ≡ b
kind_some true s = refl
kind_some false s = refl

pub is_some_kind : (k : ℕ) (h : List CallHappening) → is_some (live_kind k h) ≡ live_call_in k h
is_some_kind k h = kind_some (live_call_in k h) (streams_items (call_in k h))

-- the uploads of a call that ended are over, if it had an id
pub over_with_call : (c : Option Invoked) (b u : Bool) → has_id c ≡ true → b ≡ false → (u && (b || not (has_id c))) ≡ false
over_with_call c b u e f = ap (λ x. u && (b || not x)) e ∙ (ap (λ x. u && (x || false)) f ∙ go u)
  where
    go : (u : Bool) → (u && false) ≡ false
    go true = refl
    go false = refl

-- the numbers of a call and its uploads were drawn
pub counted : (k w : ℕ) (h : List CallHappening) → w < stream_count (call_in k h) → k + suc w ≤ drawn_in h
counted k w [] l = absurd (omega arith)
counted k w (Called n c ∷ h) l = go (k == n) refl l (λ m. counted k w h m)
  where
    go : (b : Bool) → (k == n) ≡ b → w < stream_count (if b then Some c else call_in k h) → (w < stream_count (call_in k h) → k + suc w ≤ drawn_in h)
        → k + suc w ≤ max (drawn_in h) (n + length c.streams)
    go true e m rec = let z = eqb-true k n e in omega arith
    go false e m rec = let z = rec m in omega arith
counted k w (Got n a ∷ h) l = counted k w h l
counted k w (Uploaded n v a ∷ h) l = counted k w h l
counted k w (Stopped n ∷ h) l = counted k w h l
counted k w (Gone n ∷ h) l = counted k w h l

-- an item ends nothing, and an ending does
pub has_end_item : (xs : List Answer) (v : Value) → has_end (xs ++ Item v ∷ []) ≡ has_end xs
has_end_item [] v = refl
has_end_item (Item w ∷ xs) v = has_end_item xs v
has_end_item (End e ∷ xs) v = refl

pub has_end_end : (xs : List Answer) (e : Ending) → has_end (xs ++ End e ∷ []) ≡ true
has_end_end [] e = refl
has_end_end (Item w ∷ xs) e = has_end_end xs e
has_end_end (End f ∷ xs) e = refl

-- ---- how many are live

-- counted up to a further number
own_to : (h : List CallHappening) (d : ℕ) → drawn_in h ≤ d → ((k : ℕ) → drawn_in h < k → IsFresh k h)
    → own_live_in h ≡ count_below (suc d) (λ n. live_call_in n h) + sum_below (suc d) (λ n. live_uploads_in n h)
own_to h d l f =
    let a = count_to (suc (drawn_in h)) (suc d) (λ n. live_call_in n h) (omega arith) (λ k m. fresh_live k h (f k (omega (arith, m)))) in
    let b = sum_to (suc (drawn_in h)) (suc d) (λ n. live_uploads_in n h) (omega arith) (λ k m. fresh_uploads k h (f k (omega (arith, m)))) in
    omega arith

-- what is live in two lists that differ at one number
pub own_between : (h g : List CallHappening) (n d : ℕ) → drawn_in h ≤ d → drawn_in g ≤ d → n ≤ d
    → ((k : ℕ) → drawn_in h < k → IsFresh k h) → ((k : ℕ) → drawn_in g < k → IsFresh k g) → ((k : ℕ) → (k ≡ n → ⊥) → SameAt k h g)
    → own_live_in g + (one_if (live_call_in n h) + live_uploads_in n h) ≡ own_live_in h + (one_if (live_call_in n g) + live_uploads_in n g)
own_between h g n d lh lg ln fh fg same =
    let a = own_to h d lh fh in
    let b = own_to g d lg fg in
    let x = count_flip (suc d) n (λ k. live_call_in k g) (λ k. live_call_in k h) (omega arith) (λ k o. same_live k h g (same k o)) in
    let y = sum_flip (suc d) n (λ k. live_uploads_in k g) (λ k. live_uploads_in k h) (omega arith) (λ k o. same_uploads k h g (same k o)) in
    omega arith
