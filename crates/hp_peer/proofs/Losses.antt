-- A peer whose least live call was handed out as gone stands for its moves with that loss.
use Rattle.std.proofs.Common.{◌≡◌, ℕ, zero, suc, ◌<◌, Bool, true, false, List, ◌∷◌, Option, Some, None, inl, inr, refl, sym, ap, ◌∙◌, arith}
use Rattle.std.specs.Prelude.{◌==◌, ◌&&◌, ◌||◌, not, nat_eq, option_map, if◌then◌else◌}
use Rattle.std.specs.HashMap.{get}
use Rattle.std.proofs.lemmas.Bool.{eqb-true, eq-eqb, ne_eqb, false≢true}
use Rattle.hd_calls.specs.Hubs.{Hub}
use Rattle.hd_calls.specs.Ids.{prefix_of}
use Rattle.hd_calls.specs.Laws.{CallsAgree}
use Rattle.hd_calls.specs.Peers.{PeerEvent, Loses, Settings, asker_of, given, call_of, has_end, has_id, is_shut, live_call, lost}
use Rattle.hd_calls.specs.Rules.{any_below}
use Rattle.hd_calls.specs.Tables.{call_happenings}
use Rattle.hi_calls.specs.declared.calls.Calls.{Calls}
use Rattle.hi_calls.specs.Calls as of_calls
use Rattle.hd_delivery.specs.declared.vocabulary.State.TheVariants as states
use Rattle.hd_delivery.specs.Histories.{state_of}
use Rattle.hp_peer.specs.Calling.{Loss}
use Rattle.hp_peer.specs.declared.peer.Peer.{Peer}
use Rattle.hp_peer.specs.Stands.{Stands, live_asker}

-- ---- states

pub shut : (over shaken : Bool) (link : Option ℕ) → state_of over shaken link ≡ states.Closed → over ≡ true
shut true shaken link e = refl
shut false false link e = absurd (cc)
shut false true None e = absurd (cc)
shut false true (Some l) e = absurd (cc)

pub open_still : (over shaken : Bool) (link : Option ℕ) → (state_of over shaken link ≡ states.Closed → ⊥) → over ≡ false
open_still true shaken link ne = absurd (ne refl)
open_still false shaken link ne = refl

-- ---- numbers

none_below : (n : ℕ) (p : ℕ → Bool) → ((k : ℕ) → k < n → p k ≡ false) → any_below n p ≡ false
none_below zero p none = refl
none_below (suc n) p none = rw (none n (omega arith)) (none_below n p (λ k l. none k (omega arith)))

flipped : (a b : ℕ) → (a == b) ≡ (b == a)
flipped a b = go (a == b) refl
  where
    go : (x : Bool) → (a == b) ≡ x → (a == b) ≡ (b == a)
    go true p = p ∙ sym (eq-eqb b a (sym (eqb-true a b p)))
    go false p = p ∙ sym (ne_eqb b a (λ z. false≢true (sym p ∙ eq-eqb a b (sym z))))

-- ---- the jobs that asked

-- a call that is over has no job that waits for it
over_asker : (gone answered ended was : Bool) (asker : Option ℕ)
    → (if gone then None else (if answered && (ended && not was) then asker else None)) ≡ (if answered && (ended && not (gone || was)) then asker else None)
over_asker true true true was asker = refl
over_asker true true false was asker = refl
over_asker true false ended was asker = refl
over_asker false answered ended was asker = refl

pub forgets : (n k : ℕ) (h : List PeerEvent) → (if n == k then None else live_asker k h) ≡ live_asker k (Loses n ∷ h)
forgets n k h =
    ap (λ gone. if gone then None else live_asker k h) (flipped n k)
    ∙ over_asker (k == n) (has_id (call_of k h)) (not (has_end (given k h))) (lost k h) (option_map suc (asker_of k h))

-- ---- the peer

module _ {H Job : Type 0} (hub : Hub Job) (t : Settings) (peer : Peer H Job) (h : List PeerEvent) (s : Stands hub t peer h) (agree : CallsAgree h) where
  pub loses : (n : ℕ) (new : Peer H Job) → new ≡ record peer { calls = new.calls; jobs_by_call = new.jobs_by_call } → is_shut t h ≡ true
      → of_calls.Loses new.calls (prefix_of t.config.side) (call_happenings h) (Some n)
      → ((k : ℕ) → get nat_eq new.jobs_by_call k ≡ (if n == k then None else get nat_eq peer.jobs_by_call k))
      → Loss hub t h new (Some n)
  loses n new is over lost_one left = (
    over,
    live,
    none,
    record {
      names = s.names;
      limits = rw is s.limits;
      end = rw is s.end;
      calls = lost_one.2;
      jobs = rw is s.jobs;
      who = rw is s.who;
      waits = rw is s.waits;
      counted = s.counted;
      jobs_by_call = λ k. left k ∙ (ap (λ o. if n == k then None else o) (s.jobs_by_call k) ∙ forgets n k h);
      follows = (s.follows, (over, live, none_below n (λ k. live_call k h) none));
      prompt = (s.prompt, inl s.settled);
      settled = refl;
    },
  )
    where
      live : live_call n h ≡ true
      live = agree.live n ∙ lost_one.0

      none : (k : ℕ) → k < n → live_call k h ≡ false
      none k l = agree.live k ∙ lost_one.1 k l

  -- none is live
  pub loses_none : (calls : Calls) → of_calls.Loses calls (prefix_of t.config.side) (call_happenings h) None → Loss hub t h (record peer { calls = calls }) None
  loses_none calls none = (
    inr (λ n. agree.live n ∙ none.0 n),
    record {
      names = s.names;
      limits = s.limits;
      end = s.end;
      calls = none.1;
      jobs = s.jobs;
      who = s.who;
      waits = s.waits;
      counted = s.counted;
      jobs_by_call = s.jobs_by_call;
      follows = s.follows;
      prompt = s.prompt;
      settled = s.settled;
    },
  )
