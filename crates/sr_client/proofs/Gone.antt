-- The calls that a closed end hands out as gone: the live ones, in the order of their numbers.
use Rattle.std.proofs.Common.{inl, inr, ◌≡◌, ◌⊎◌, ℕ, zero, suc, ◌+◌, ◌-◌, ◌^◌, ◌<◌, ◌≤◌, Bool, true, false, List, [], ◌∷◌, ◌++◌, map, reverse}
use Rattle.std.proofs.Common.{length, Option}
use Rattle.std.proofs.Common.{Some, None, is_some, refl, sym, ap, ◌∙◌, subst, arith, append_assoc, codes, cond, length-append, true≢false}
use Rattle.std.specs.Prelude.{◌==◌, ◌&&◌, ◌||◌, not, max, filter, if◌then◌else◌}
use Rattle.std.proofs.lemmas.Bool.{eqb-true, eq-eqb, cases_lt}
use Rattle.std.proofs.lemmas.List.{append-nil, map-append, reverse-append}
use Rattle.std.proofs.lemmas.List.Elements.{filter-append}
use Rattle.hm_message.specs.declared.message.Ending.{Ending}
use Rattle.hd_calls.specs.Hubs.{Hub, Invoked, Way, Notify, Call, Stream, id_of}
use Rattle.hd_calls.specs.Peers.{PeerEvent, Plain, Calls, Uploads, Cancels, Reads, Handles, Runs, Answers, Refuses, Loses, Rounds, Settings}
use Rattle.hd_calls.specs.Peers.{drawn, call_of, given}
use Rattle.hd_calls.specs.Peers.{has_end, has_id, is_shut, live_call, lost}
use Rattle.hd_calls.specs.Rules.{Follows, MadeAs}
use Rattle.hd_server.specs.Lives.{numbers_to}
use Rattle.hp_peer.specs.declared.peer.Peer.{Peer}
use Rattle.hp_peer.specs.Calling.{Loss}
use Rattle.hp_peer.specs.Laws.{KeepsItsCalls}
use Rattle.hub_calc.specs.declared.client.ClientHub.{ClientHub}
use Rattle.hub_calc.specs.Client.{client_hub}
use Rattle.hd_client.specs.Printed.{counted, line}
use Rattle.sr_client.specs.declared.peer.ClientPeer.{ClientPeer}
use Rattle.sr_client.specs.Peers.{Goes, Plays, losing}
use Rattle.sr_client.proofs.Chains.{goes_then, same_text_after, with_peer}
use Rattle.sr_client.proofs.Quiet.{plays_quiet, quiet_move}

-- ---- numbers

number_called : (n : ℕ) (h : List PeerEvent) (c : Invoked) → call_of n h ≡ Some c → n ≤ drawn h
number_called n [] c e = absurd (cc)
number_called n (Calls a k d ∷ h) c e = go (n == k) refl (number_called n h c) e
  where
    go : (b : Bool) → (n == k) ≡ b → (call_of n h ≡ Some c → n ≤ drawn h) → (if b then Some d else call_of n h) ≡ Some c
        → n ≤ max (drawn h) (k + length d.streams)
    go true is before e = let same = eqb-true n k is in omega arith
    go false is before e = let b = before e in omega arith
number_called n (_ ∷ h) c e = number_called n h c e

pub number_live : (n : ℕ) (h : List PeerEvent) → live_call n h ≡ true → n ≤ drawn h
number_live n h live = go (call_of n h) refl
  where
    go : (o : Option Invoked) → call_of n h ≡ o → n ≤ drawn h
    go None e = absurd (let f : live_call n h ≡ false = ap (λ o. has_id o && (not (has_end (given n h)) && not (lost n h))) e in cc)
    go (Some c) e = number_called n h c e

-- a call that has an id has a number from 1
way_at_zero : (t : Settings) (last n : ℕ) (way : Way) (c : Invoked) → MadeAs t last n way c → 0 ≡ n → id_of way ≡ None
way_at_zero t last n Notify c made e = refl
way_at_zero t last n (Call i) c made e = absurd (let is = made.1.0 in omega arith)
way_at_zero t last n (Stream i) c made e = absurd (let is = made.1.0 in omega arith)

zero_has_none : {Job : Type 0} (hub : Hub Job) (t : Settings) (h : List PeerEvent) → Follows hub t h → has_id (call_of 0 h) ≡ false
zero_has_none hub t [] f = refl
zero_has_none hub t (Calls a k d ∷ h) f = go (0 == k) refl (zero_has_none hub t h f.0)
  where
    go : (b : Bool) → (0 == k) ≡ b → has_id (call_of 0 h) ≡ false → has_id (if b then Some d else call_of 0 h) ≡ false
    go true is before = ap is_some (way_at_zero t (drawn h) k d.way d f.1.made (eqb-true 0 k is))
    go false is before = before
zero_has_none hub t (Plain s ∷ h) f = zero_has_none hub t h f.0
zero_has_none hub t (Uploads n w x ∷ h) f = zero_has_none hub t h f.0
zero_has_none hub t (Cancels n ∷ h) f = zero_has_none hub t h f.0
zero_has_none hub t (Reads m ∷ h) f = zero_has_none hub t h f.0
zero_has_none hub t (Handles m e ∷ h) f = zero_has_none hub t h f.0
zero_has_none hub t (Runs j c since turn what ∷ h) f = zero_has_none hub t h f.0
zero_has_none hub t (Answers j i ∷ h) f = zero_has_none hub t h f.0
zero_has_none hub t (Refuses j ∷ h) f = zero_has_none hub t h f.0
zero_has_none hub t (Loses n ∷ h) f = zero_has_none hub t h f.0
zero_has_none hub t (Rounds ∷ h) f = zero_has_none hub t h f.0

live_from_one : (t : Settings) (p : ClientPeer) (h : List PeerEvent) → Plays t p h → (n : ℕ) → live_call n h ≡ true → 0 < n
live_from_one t p h plays zero live =
    absurd (true≢false (sym live ∙ ap (λ b. b && (not (has_end (given 0 h)) && not (lost 0 h))) (zero_has_none client_hub t h plays.on.stands.follows)))
live_from_one t p h plays (suc n) live = omega arith

-- ---- the numbers that are live

abbrev pub live : List PeerEvent → List ℕ
live h = filter (λ n. live_call n h) (numbers_to (drawn h))

none_kept : (p : ℕ → Bool) (d : ℕ) → ((k : ℕ) → k ≤ d → p k ≡ false) → filter p (numbers_to d) ≡ []
none_kept p zero none = refl
none_kept p (suc d) none =
    filter-append p (numbers_to d) (suc d ∷ [])
    ∙ (ap (λ xs. xs ++ cond (p (suc d)) (suc d ∷ []) []) (none_kept p d (λ k few. none k (omega (arith, few))))
    ∙ ap (λ b. cond b (suc d ∷ []) []) (none (suc d) (omega arith)))

-- the least of them stands first, and the others after it
module _ (p q : ℕ → Bool) (n : ℕ) (at : p n ≡ true) (gone : q n ≡ false) (least : (k : ℕ) → k < n → p k ≡ false)
    (others : (k : ℕ) → (k ≡ n → ⊥) → q k ≡ p k) where
  abbrev one : (ℕ → Bool) → ℕ → List ℕ
  one r k = cond (r k) (k ∷ []) []

  below : (d : ℕ) → d < n → (filter p (numbers_to d) ≡ []) × (filter q (numbers_to d) ≡ [])
  below d few = (
    none_kept p d (λ k le. least k (omega (arith, few, le))),
    none_kept q d (λ k le. others k (λ e. absurd (omega (arith, few, le, e))) ∙ least k (omega (arith, few, le))),
  )

  last_is : (d : ℕ) → n ≡ suc d → filter p (numbers_to (suc d)) ≡ n ∷ filter q (numbers_to (suc d))
  last_is d e =
      let none = below d (omega (arith, e)) in
      filter-append p (numbers_to d) (suc d ∷ [])
      ∙ (ap (λ xs. xs ++ one p (suc d)) none.0
      ∙ (ap (λ b. cond b (suc d ∷ []) []) (ap p (sym e) ∙ at)
      ∙ (ap (λ k. k ∷ []) (sym e)
      ∙ ap (λ xs. n ∷ xs) (sym (filter-append q (numbers_to d) (suc d ∷ [])
      ∙ (ap (λ xs. xs ++ one q (suc d)) none.1 ∙ ap (λ b. cond b (suc d ∷ []) []) (ap q (sym e) ∙ gone)))))))

  pub least_first : (d : ℕ) → 0 < n → n ≤ d → filter p (numbers_to d) ≡ n ∷ filter q (numbers_to d)
  least_first zero some few = absurd (omega (arith, some, few))
  least_first (suc d) some few = by (cases_lt n (suc d)) (least_first d some)
    where
      by : (n < suc d) ⊎ (suc d ≤ n) → (n ≤ d → filter p (numbers_to d) ≡ n ∷ filter q (numbers_to d))
          → filter p (numbers_to (suc d)) ≡ n ∷ filter q (numbers_to (suc d))
      by (inr over) before = last_is d (omega (arith, few, over))
      by (inl under) before =
          filter-append p (numbers_to d) (suc d ∷ [])
          ∙ (ap (λ xs. xs ++ one p (suc d)) (before (omega (arith, under)))
          ∙ ap (λ xs. n ∷ xs)
          (ap (λ b. filter q (numbers_to d) ++ cond b (suc d ∷ []) []) (sym (others (suc d) (λ e. absurd (omega (arith, under, e)))))
          ∙ sym (filter-append q (numbers_to d) (suc d ∷ []))))

live_apart : (n k : ℕ) (h : List PeerEvent) → (k ≡ n → ⊥) → live_call k (Loses n ∷ h) ≡ live_call k h
live_apart n k h apart = ap (λ b. has_id (call_of k h) && (not (has_end (given k h)) && not (b || lost k h))) (not_same (k == n) refl)
  where
    not_same : (b : Bool) → (k == n) ≡ b → (k == n) ≡ false
    not_same true e = absurd (apart (eqb-true k n e))
    not_same false e = e

both_false : (a b : Bool) → (a && (b && false)) ≡ false
both_false true true = refl
both_false true false = refl
both_false false b = refl

lost_now : (n : ℕ) (h : List PeerEvent) → live_call n (Loses n ∷ h) ≡ false
lost_now n h =
    ap (λ b. has_id (call_of n h) && (not (has_end (given n h)) && not (b || lost n h))) (eq-eqb n n refl)
    ∙ both_false (has_id (call_of n h)) (not (has_end (given n h)))

pub live_next : (h : List PeerEvent) (n : ℕ) → 0 < n → live_call n h ≡ true → ((k : ℕ) → k < n → live_call k h ≡ false)
    → live h ≡ n ∷ live (Loses n ∷ h)
live_next h n some is least =
    least_first (λ k. live_call k h) (λ k. live_call k (Loses n ∷ h)) n is (lost_now n h) least (λ k apart. live_apart n k h apart)
    (drawn h) some (number_live n h is)

-- ---- the calls that were handed out so far

abbrev pub names : List ℕ → List PeerEvent
names ns = reverse (map (λ n. Loses n) ns)

names_more : (ns : List ℕ) (n : ℕ) → names (ns ++ n ∷ []) ≡ Loses n ∷ names ns
names_more ns n = ap reverse (map-append (λ k. Loses k) ns (n ∷ [])) ∙ reverse-append (map (λ k. Loses k) ns) (Loses n ∷ [])

pub record HasLost (t : Settings) (h : List PeerEvent) (p : ClientPeer) (before now : List ℕ) (n : ℕ) : Type 0 where
  pub numbers : List ℕ
  pub rest : live h ≡ numbers ++ live (names numbers ++ h)
  pub many : length numbers ≡ n
  pub shut : 0 < n → is_shut t h ≡ true
  pub still : is_shut t (names numbers ++ h) ≡ is_shut t h
  pub goes : Goes t h p before now (names numbers)

module _ (t : Settings) (h : List PeerEvent) (before : List ℕ) where
  pub lost_none : (p : ClientPeer) → Plays t p h → HasLost t h p before before 0
  lost_none p plays = record {
    numbers = [];
    rest = refl;
    many = refl;
    shut = λ some. absurd (omega (arith, some));
    still = refl;
    goes = record { plays = plays; appended = same_text_after before };
  }

  module _ (p : ClientPeer) (now : List ℕ) (n : ℕ) (has : HasLost t h p before now n) where
    abbrev x : List PeerEvent
    x = names has.numbers ++ h

    pub lost_more : (q : Peer ClientHub Ending) (call : ℕ) (after : List ℕ) → Loss client_hub t x q (Some call)
        → after ≡ now ++ line (counted (codes "ended") call ++ codes " gone") → HasLost t h (with_peer p q) before after (n + 1)
    lost_more q call after loss text =
        let more = names_more has.numbers call in
        let one : Goes t x (with_peer p q) now after (Loses call ∷ []) = record {
          plays = plays_quiet t p (with_peer p q) x (Loses call ∷ x) has.goes.plays loss.3 refl (quiet_move t (Loses call) x refl);
          appended = text;
        } in
        let next = live_next x call (live_from_one t p x has.goes.plays call loss.1) loss.1 loss.2 in
        record {
          numbers = has.numbers ++ call ∷ [];
          rest = has.rest
              ∙ (ap (λ xs. has.numbers ++ xs) next
              ∙ (sym (append_assoc has.numbers (call ∷ []) (live (Loses call ∷ x)))
              ∙ ap (λ ms. (has.numbers ++ call ∷ []) ++ live (ms ++ h)) (sym more)));
          many = (let m = has.many in omega (arith, m, length-append has.numbers (call ∷ [])));
          shut = λ some. sym has.still ∙ loss.0;
          still = ap (λ ms. is_shut t (ms ++ h)) more ∙ has.still;
          goes = subst (λ ms. Goes t h (with_peer p q) before after ms) (sym more)
              (goes_then t h p (with_peer p q) before now after (names has.numbers) (Loses call ∷ []) has.goes one);
        }

    all_lost : (b : Bool) → is_shut t h ≡ b → (is_shut t x ≡ false) ⊎ ((k : ℕ) → live_call k x ≡ false)
        → names has.numbers ≡ (if b then names (live h) else [])
    all_lost true e (inl opened) = absurd (true≢false (sym (has.still ∙ e) ∙ opened))
    all_lost true e (inr none) =
        ap names (sym (has.rest
        ∙ (ap (λ xs. has.numbers ++ xs) (none_kept (λ k. live_call k x) (drawn x) (λ k few. none k)) ∙ append-nil has.numbers)))
    all_lost false e left = nothing has.numbers n has.many (λ some. has.shut some)
      where
        nothing : (ns : List ℕ) (n : ℕ) → length ns ≡ n → (0 < n → is_shut t h ≡ true) → names ns ≡ []
        nothing [] n many shut = refl
        nothing (k ∷ ks) n many shut = absurd (true≢false (sym (shut (omega (arith, many))) ∙ e))

    pub lost_all : (q : Peer ClientHub Ending) → Loss client_hub t x q None → Goes t h (with_peer p q) before now (losing t h)
    lost_all q loss =
        let plays = has.goes.plays in
        subst (λ ms. Goes t h (with_peer p q) before now ms) (all_lost (is_shut t h) refl loss.0)
        (record {
          plays = record {
            on = record { stands = loss.1; side = plays.on.side; linked = plays.on.linked; links = plays.on.links; handled = plays.on.handled };
            taken = plays.taken;
          };
          appended = has.goes.appended;
        })

-- they are not so many as 64 bits count
few_kept : (p : ℕ → Bool) (d : ℕ) → length (filter p (numbers_to d)) ≤ d
few_kept p zero = omega arith
few_kept p (suc d) =
    let all = ap length (filter-append p (numbers_to d) (suc d ∷ [])) in
    let long = length-append (filter p (numbers_to d)) (cond (p (suc d)) (suc d ∷ []) []) in
    let before = few_kept p d in
    let one = at_most_one (p (suc d)) in
    omega arith
  where
    at_most_one : (b : Bool) → length (cond b (suc d ∷ []) []) ≤ 1
    at_most_one true = omega arith
    at_most_one false = omega arith

pub lost_few : (t : Settings) (h : List PeerEvent) (first p : ClientPeer) (before now : List ℕ) (n : ℕ) → KeepsItsCalls client_hub first.peer
    → Plays t first h → HasLost t h p before now n → n < 2 ^ 64 - 1
lost_few t h first p before now n keeps plays has =
    let most = (keeps t h plays.on.stands).bounded.numbers in
    let many = has.many in
    let all = ap length has.rest ∙ length-append has.numbers (live (names has.numbers ++ h)) in
    let few = few_kept (λ k. live_call k h) (drawn h) in
    omega arith
