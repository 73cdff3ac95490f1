-- The calls that a closed end hands out as gone are few.
use Rattle.std.proofs.Common.{◌≡◌, ℕ, zero, suc, ◌+◌, ◌-◌, ◌^◌, ◌<◌, ◌≤◌, Bool, true, false, List, [], ◌∷◌, ◌++◌, length, Option, Some, None, refl, ap, ◌∙◌, arith}
use Rattle.std.specs.Prelude.{◌==◌, ◌&&◌, ◌||◌, not, max, if◌then◌else◌}
use Rattle.std.proofs.lemmas.Bool.{eqb-true, eq-eqb}
use Rattle.hd_calls.specs.Hubs.{Hub, Invoked}
use Rattle.hd_calls.specs.Peers.{PeerEvent, Calls, Loses, Settings, drawn, call_of, given, has_end, has_id, live_call, lost}
use Rattle.hp_peer.specs.declared.peer.Peer.{Peer}
use Rattle.hp_peer.specs.Calling.{Loss}
use Rattle.hp_peer.specs.Laws.{KeepsItsCalls}
use Rattle.sr_notation.specs.Words.{line_at}
use Rattle.sr_lines.specs.Lines.{gone_words}
use Rattle.sr_peers.specs.declared.party.Party.{Party}
use Rattle.sr_peers.specs.Doings.{Chain, WholeChain, Losing}
use Rattle.sr_peers.specs.Laws.{LossesAreFew}
use Rattle.sr_peers.specs.Plays.{Plays, Goes}
use Rattle.sr_peers.proofs.Chains.{with, goes_none, goes_one, goes_on, goes_same}

-- ---- numbers

number_called : (n : ℕ) (h : List PeerEvent) (c : Invoked) → call_of n h ≡ Some c → n ≤ drawn h
number_called n [] c e = absurd (cc)
number_called n (Calls a k d ∷ h) c e = go (n == k) refl (number_called n h c) e
  where
    go : (b : Bool) → (n == k) ≡ b → (call_of n h ≡ Some c → n ≤ drawn h) → (if b then Some d else call_of n h) ≡ Some c
        → n ≤ max (drawn h) (k + length d.streams)
    go true is before e = let same = eqb-true n k is in omega arith
    go false is before e = let b = before e in omega arith
number_called n (_ ∷ h) c e = number_called n h c e

number_live : (n : ℕ) (h : List PeerEvent) → live_call n h ≡ true → n ≤ drawn h
number_live n h live = go (call_of n h) refl
  where
    go : (o : Option Invoked) → call_of n h ≡ o → n ≤ drawn h
    go None e = absurd (let f : live_call n h ≡ false = ap (λ o. has_id o && (not (has_end (given n h)) && not (lost n h))) e in cc)
    go (Some c) e = number_called n h c e

was_live : (a b c d : Bool) → (a && (b && not (c || d))) ≡ true → ((a && (b && not d)) ≡ true) × (c ≡ false)
was_live true true false false e = (refl, refl)
was_live true true false true e = absurd (cc)
was_live true true true d e = absurd (cc)
was_live true false c d e = absurd (cc)
was_live false b c d e = absurd (cc)

above : (m n : ℕ) → (n < m → ⊥) → (n ≡ m → ⊥) → m < n
above zero zero l e = absurd (e refl)
above zero (suc n) l e = omega arith
above (suc m) zero l e = absurd (l (omega arith))
above (suc m) (suc n) l e = let a = above m n (λ x. l (omega (arith, x))) (λ x. e (ap suc x)) in omega arith

-- the next call that is gone has a greater number
next_greater : (m n : ℕ) (h : List PeerEvent) → ((k : ℕ) → k < m → live_call k h ≡ false) → live_call n (Loses m ∷ h) ≡ true → m < n
next_greater m n h none live =
    let was = was_live (has_id (call_of n h)) (not (has_end (given n h))) (n == m) (lost n h) live in
    above m n (λ l. let f = none n l in let u = was.0 in cc) (λ e. let f = eq-eqb n m e in let u = was.1 in cc)

number_of_loss : (t : Settings) (h : List PeerEvent) (n : ℕ) (ds : List PeerEvent) → Chain (Losing t) h (Loses n ∷ ds) → length ds ≤ n
number_of_loss t h n [] chain = omega arith
number_of_loss t h n (Loses m ∷ ds) chain =
    let before = number_of_loss t h m ds chain.0 in
    let greater = next_greater m n (ds ++ h) chain.0.1.2 chain.1.1 in
    omega arith
number_of_loss t h n (_ ∷ ds) chain = absurd chain.0.1

drawn_still : (t : Settings) (h ds : List PeerEvent) → Chain (Losing t) h ds → drawn (ds ++ h) ≡ drawn h
drawn_still t h [] chain = refl
drawn_still t h (Loses n ∷ ds) chain = drawn_still t h ds chain.0
drawn_still t h (_ ∷ ds) chain = absurd chain.1

pub losses_are_few : LossesAreFew
losses_are_few t h [] chain = omega arith
losses_are_few t h (Loses n ∷ ds) chain =
    let many = number_of_loss t h n ds chain in
    let number = number_live n (ds ++ h) chain.1.1 in
    let same = drawn_still t h ds chain.0 in
    omega arith
losses_are_few t h (_ ∷ ds) chain = absurd chain.1

-- ---- the calls that were handed out so far

pub record HasLost {H Job : Type 0} (hub : Hub Job) (t : Settings) (h : List PeerEvent) (p : Party H Job) (before now : List ℕ) (n : ℕ) : Type 0 where
  pub moves : List PeerEvent
  pub chain : Chain (Losing t) h moves
  pub many : length moves ≡ n
  pub goes : Goes hub t h p before now moves

module _ {H Job : Type 0} (hub : Hub Job) (t : Settings) (h : List PeerEvent) where
  pub lost_none : (p : Party H Job) (before : List ℕ) → Plays hub t p h → HasLost hub t h p before before 0
  lost_none p before plays = record { moves = []; chain = tt; many = refl; goes = goes_none hub t h p before plays }

  module _ (p : Party H Job) (before now : List ℕ) (n : ℕ) (has : HasLost hub t h p before now n) where
    pub lost_more : (x : Peer H Job) (call : ℕ) (after : List ℕ) → Loss hub t (has.moves ++ h) x (Some call) → after ≡ now ++ line_at p.side (gone_words call)
        → HasLost hub t h (with p x) before after (n + 1)
    lost_more x call after loss is =
        let plays = has.goes.plays in
        let one = goes_one hub t (has.moves ++ h) (with p x) now after (line_at t.config.side (gone_words call)) (Loses call)
        (record { stands = loss.3; side_is = plays.side_is; link_is = plays.link_is; handled = plays.handled }) refl
        (is ∙ ap (λ s. now ++ line_at s (gone_words call)) plays.side_is) in
        record {
          moves = Loses call ∷ has.moves;
          chain = (has.chain, (loss.0, loss.1, loss.2));
          many = (let m = has.many in omega arith);
          goes = goes_on hub t h p (with p x) before now after has.moves (Loses call ∷ []) has.goes one;
        }

    pub lost_all : (x : Peer H Job) → Loss hub t (has.moves ++ h) x None → (ds : List PeerEvent) × (WholeChain (Losing t) h ds × Goes hub t h (with p x) before now ds)
    lost_all x loss =
        let plays = has.goes.plays in (
          has.moves,
          (
            (has.chain, loss.0),
            goes_same hub t h p (with p x) before now now has.moves has.goes
                (record { stands = loss.1; side_is = plays.side_is; link_is = plays.link_is; handled = plays.handled }) refl,
          ),
        )

-- they are not so many as 64 bits count
pub lost_few : {H Job : Type 0} (hub : Hub Job) (t : Settings) (h : List PeerEvent) (first p : Party H Job) (before now : List ℕ) (n : ℕ) → LossesAreFew
    → KeepsItsCalls hub first.peer → Plays hub t first h → HasLost hub t h p before now n → n < 2 ^ 64 - 1
lost_few hub t h first p before now n few keeps plays has =
    let some = few t h has.moves has.chain in
    let most = (keeps t h plays.stands).bounded.numbers in
    let many = has.many in
    omega arith
