-- What a connection's own moves leave as it was, and the end of the poll that it held.
use Rattle.std.proofs.Common.{◌≡◌, ℕ, ◌==◌, Bool, true, false, not, ◌&&◌, ◌||◌, List, [], ◌∷◌, Option, Some, None, is_some}
use Rattle.std.proofs.Common.{refl, sym, ap, subst, ◌∙◌}
use Rattle.std.specs.Prelude.{option_map}
use Rattle.std.proofs.lemmas.Bool.{and_from, both_ways, cond-true, cond-false, eq-eqb, eqb-true, false_from_ne_true}
use Rattle.hd_delivery.specs.Histories.{is_this}
use Rattle.hd_calls.specs.Peers.{PeerEvent}
use Rattle.hd_server.specs.declared.vocabulary.Said.TheVariants as say
use Rattle.hd_server.specs.Lives.{ConnectionEvent, Answered, socket_of, lost_at, poll_of, is_removed, is_made}
use Rattle.hd_server.specs.Machine.{has_gone, settings_of}
use Rattle.hd_server.specs.Doings.{ServerEvent, Notes, Says, notes, work, moment, awaits_reply, has_peer, is_full, wants_shut, was_refused}
use Rattle.hd_server.specs.Plans.{bare_reply, ending_held, ending_poll, onto, replying}
use Rattle.hd_server.specs.Serves.{FeedsOne, moving}
use Rattle.hub_server.specs.Lanes.{is_at, poll_lane}
use Rattle.hub_server.specs.Steps.{HasCome}
use Rattle.hub_server.specs.Connections.{CanHold}
use Rattle.hub_server.proofs.Alike.{Alike, alike_note, alike_says, alike_trans, at_alike, there_alike}
use Rattle.hub_server.proofs.HoldPolls.{at_poll}
use Rattle.hub_server.proofs.Answering.{last_empty, replying_both}
use Rattle.hub_server.proofs.OntoAlike.{onto_append}

-- ---- moves

pub record IsMoved (g h : List ServerEvent) : Type 0 where
  pub notes : notes g ≡ notes h
  pub moment : moment g ≡ moment h
  pub shut : (l : ℕ) → wants_shut l g ≡ wants_shut l h
  pub refused : (l : ℕ) → was_refused l g ≡ was_refused l h
  pub full : (l : ℕ) → is_full l g ≡ is_full l h
  pub waits : (l : ℕ) → awaits_reply l g ≡ awaits_reply l h
  pub settings : (c : ℕ) → settings_of c (work g) ≡ settings_of c (work h)
  pub gone : (c : ℕ) → has_gone c (work g) ≡ has_gone c (work h)

moved_by : (k : ℕ) (ms : List PeerEvent) (h : List ServerEvent) → IsMoved (moving k ms h) h
moved_by k [] h =
    record {
      notes = refl;
      moment = refl;
      shut = λ l. refl;
      refused = λ l. refl;
      full = λ l. refl;
      waits = λ l. refl;
      settings = λ c. refl;
      gone = λ c. refl;
    }
moved_by k (m ∷ ms) h =
    let x = moved_by k ms h in
    record {
      notes = x.notes;
      moment = x.moment;
      shut = λ l. x.shut l;
      refused = λ l. x.refused l;
      full = λ l. x.full l;
      waits = λ l. x.waits l;
      settings = λ c. x.settings c;
      gone = λ c. x.gone c;
    }

-- what is fed changes nothing else
pub fed_moved : (now k : ℕ) (bytes : List ℕ) (h after : List ServerEvent) → FeedsOne now k bytes h after → IsMoved after h
fed_moved now k bytes h after x = subst (λ g. IsMoved g h) (sym x.are) (moved_by k x.moves h)

pub there_moved : (g h : List ServerEvent) → IsMoved g h → (c : ℕ) → has_peer c g ≡ has_peer c h
there_moved g h x c =
    ap (λ o. is_some o && not (has_gone c (work g))) (x.settings c) ∙ ap (λ b. is_some (settings_of c (work h)) && not b) (x.gone c)

pub at_moved : (g h : List ServerEvent) → IsMoved g h → (l c : ℕ) → is_at l c g ≡ is_at l c h
at_moved g h x l c =
    ap (λ b. b && (is_this l (socket_of c (notes g)) || is_this l (poll_lane c (notes g)))) (there_moved g h x c)
    ∙ ap (λ (n : List ConnectionEvent). has_peer c h && (is_this l (socket_of c n) || is_this l (poll_lane c n))) x.notes

pub come_moved : (at : ℕ) (is_last : Bool) (g h : List ServerEvent) → IsMoved g h → HasCome at is_last h → HasCome at is_last g
come_moved at is_last g h x come = record {
  waits = x.waits at ∙ come.waits;
  last = come.last ∙ sym (x.shut at);
  unrefused = x.refused at ∙ come.unrefused;
  empty = x.full at ∙ come.empty;
  nobody = λ c. at_moved g h x at c ∙ come.nobody c;
}

pub hold_moved : (k : ℕ) (g h : List ServerEvent) → IsMoved g h → CanHold k h → CanHold k g
hold_moved k g h x can = record {
  known = record { made = ap (is_made k) x.notes ∙ can.known.made; held = ap (is_removed k) x.notes ∙ can.known.held };
  there = there_moved g h x k ∙ can.there;
  unsocketed = ap (socket_of k) x.notes ∙ can.unsocketed;
  unlost = ap (lost_at k) x.notes ∙ can.unlost;
}

-- ---- a reply to a poll that was held

pub ended_cases : (P : List ServerEvent → Type 0) (k now : ℕ) (h : List ServerEvent) → (poll_of k (notes h) ≡ None → P h)
    → ((p : ℕ × ℕ) → poll_of k (notes h) ≡ Some p → P (Notes (Answered k p.0 now) ∷ Says (say.Reply p.0 (bare_reply 204)) ∷ h))
    → ((p : ℕ × ℕ) → poll_of k (notes h) ≡ Some p → P (Notes (Answered k p.0 now) ∷ Says (say.Shut p.0) ∷ Says (say.Reply p.0 last_empty) ∷ h))
    → P (onto (ending_held k now h) h)
ended_cases P k now h none one two = go (poll_of k (notes h)) refl
  where
    go : (o : Option (ℕ × ℕ)) → poll_of k (notes h) ≡ o → P (onto (ending_held k now h) h)
    go None e = subst P (sym (ap (λ o. onto (ending_poll k now o h) h) e)) (none e)
    go (Some p) e =
        subst P (sym (ap (λ o. onto (ending_poll k now o h) h) e ∙ onto_append (replying p.0 (bare_reply 204) h) (Notes (Answered k p.0 now) ∷ []) h))
        (replying_both (λ xs. P (Notes (Answered k p.0 now) ∷ xs)) p.0 (bare_reply 204) h (one p e) (two p e))

-- a request has come as it had, and the connection may hold it
pub record IsStill (k at : ℕ) (is_last : Bool) (h g : List ServerEvent) : Type 0 where
  pub come : HasCome at is_last g
  pub can : CanHold k g
  pub moment : moment g ≡ moment h

module _ (k at : ℕ) (is_last : Bool) (now : ℕ) (h mid : List ServerEvent) (p : ℕ × ℕ) (can : CanHold k h) (come : HasCome at is_last h)
    (held : poll_of k (notes h) ≡ Some p) (same : (c : ℕ) → Alike c mid h) (waits : awaits_reply at mid ≡ awaits_reply at h)
    (shut : wants_shut at mid ≡ wants_shut at h) (refused : was_refused at mid ≡ was_refused at h) (full : is_full at mid ≡ is_full at h)
    (moments : moment mid ≡ moment h) where
  abbrev g : List ServerEvent
  g = Notes (Answered k p.0 now) ∷ mid

  there : has_peer k mid ≡ true
  there = there_alike k mid h (same k) ∙ can.there

  unsocketed : socket_of k (notes mid) ≡ None
  unsocketed = (same k).socket ∙ can.unsocketed

  was_there : is_this p.0 (poll_lane k (notes mid)) ≡ true
  was_there = ap (λ (o : Option (ℕ × ℕ)). is_this p.0 (option_map (λ (q : ℕ × ℕ). q.0) o)) ((same k).poll ∙ held) ∙ eq-eqb p.0 p.0 refl

  unpolled : poll_of k (notes g) ≡ None
  unpolled = cond-true ((k == k) && is_this p.0 (poll_lane k (notes mid))) None (poll_of k (notes mid))
      (and_from (k == k) (is_this p.0 (poll_lane k (notes mid))) (eq-eqb k k refl) was_there)

  nobody : (c : ℕ) (b : Bool) → (c == k) ≡ b → is_at at c g ≡ false
  nobody c true e =
      ap (λ x. is_at at x g) (eqb-true c k e) ∙ at_poll at k g there unsocketed
      ∙ ap (λ (o : Option (ℕ × ℕ)). is_this at (option_map (λ (q : ℕ × ℕ). q.0) o)) unpolled
  nobody c false e = at_alike at c g h (alike_trans c g mid h (alike_note (Answered k p.0 now) c mid e tt) (same c)) ∙ come.nobody c

  pub still_answered : IsStill k at is_last h g
  still_answered = record {
    come = record {
      waits = waits ∙ come.waits;
      last = come.last ∙ sym shut;
      unrefused = refused ∙ come.unrefused;
      empty = full ∙ come.empty;
      nobody = λ c. nobody c (c == k) refl;
    };
    can = record {
      known = record { made = (same k).made ∙ can.known.made; held = (same k).removed ∙ can.known.held };
      there = there;
      unsocketed = unsocketed;
      unlost = (same k).lost ∙ can.unlost;
    };
    moment = moments;
  }

-- the lane of the poll is another
elsewhere : (k at : ℕ) (is_last : Bool) (h : List ServerEvent) (p : ℕ × ℕ) → CanHold k h → HasCome at is_last h → poll_of k (notes h) ≡ Some p
    → (at == p.0) ≡ false
elsewhere k at is_last h p can come held = false_from_ne_true (at == p.0) (λ e.
    both_ways (is_at at k h) (come.nobody k) (at_poll at k h can.there can.unsocketed
    ∙ ap (λ (o : Option (ℕ × ℕ)). is_this at (option_map (λ (q : ℕ × ℕ). q.0) o)) held ∙ e))

pub ended_still : (k at : ℕ) (is_last : Bool) (now : ℕ) (h : List ServerEvent) → CanHold k h → HasCome at is_last h
    → IsStill k at is_last h (onto (ending_held k now h) h)
ended_still k at is_last now h can come = ended_cases (IsStill k at is_last h) k now h
    (λ e. record { come = come; can = can; moment = refl })
    (λ p e. still_answered k at is_last now h (Says (say.Reply p.0 (bare_reply 204)) ∷ h) p can come e
    (λ c. alike_says (say.Reply p.0 (bare_reply 204)) c h)
    (cond-false (at == p.0) false (awaits_reply at h) (elsewhere k at is_last h p can come e)) refl refl refl refl)
    (λ p e. still_answered k at is_last now h (Says (say.Shut p.0) ∷ Says (say.Reply p.0 last_empty) ∷ h) p can come e
    (λ c. alike_trans c (Says (say.Shut p.0) ∷ Says (say.Reply p.0 last_empty) ∷ h) (Says (say.Reply p.0 last_empty) ∷ h) h
    (alike_says (say.Shut p.0) c (Says (say.Reply p.0 last_empty) ∷ h)) (alike_says (say.Reply p.0 last_empty) c h))
    (cond-false (at == p.0) false (awaits_reply at h) (elsewhere k at is_last h p can come e)) refl refl refl refl)
