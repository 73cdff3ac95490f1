-- Version 3: what an end reads on a link where it stands is one run of the other's messages.
use Rattle.std.proofs.Common.{inl, inr, ⊎_elim, ◌≡◌, ℕ, zero, suc, ◌+◌, ◌<◌, ◌≤◌, Bool, true, false, List, [], ◌∷◌, ◌++◌, length, take, drop, Option, Some, None, refl, sym, ap, ◌∙◌, subst, arith, length-append}
use Rattle.std.specs.Prelude.{slice_get, ◌⊎◌, is_some, not, max, ◌==◌, ◌||◌, ◌&&◌, if◌then◌else◌}
use Rattle.std.proofs.lemmas.List.{length-take-le}
use Rattle.std.proofs.lemmas.Bool.{or_cases, cases_eq}
use Rattle.hm_message.specs.declared.message.Message.{Message}
use Rattle.hd_delivery.specs.declared.vocabulary.Got.{Got}
use Rattle.hd_delivery.specs.declared.vocabulary.Side.{Side}
use Rattle.hd_delivery.specs.Frames.{LinkFrame, Request, Response, Refusal, Numbered, Ack, Sequence, Ping, Close, Foreign, Strange, Unreadable, number, received_of, told_count, most_told}
use Rattle.hd_delivery.specs.Histories.{EndEvent, Attached, Detached, Fed, Took, Sent, Lent, is_this, first_of, present_link, stands_on, was_on, first_link, fed_frames, lent_frames, taken_count, read_frames, sent_messages, processed_messages, acked_count, written_place, most_lent, is_shaken, is_three, is_resumable, is_resumed}
use Rattle.hd_delivery.specs.Due.{answer}
use Rattle.hd_delivery.specs.Processes.{has_frames, next_number}
use Rattle.hd_facts.specs.Prefixes.{IsPrefix}
use Rattle.hd_delivery.specs.Worlds.{Terms, config}
use Rattle.hd_delivery.proofs.Lists.{take_split, get_front, append_none}
use Rattle.hd_delivery.proofs.Local.{is_this-true, is_this-same, both, here_was, nothing_lent, nothing_taken, has_first, none_was, first_was}
use Rattle.hd_delivery.proofs.Carries.{Facts, facts, MayStand, MayCarry, MayCarry-prefix, MayStand-count, MayCarry-any, number-push, most_told_at, MayCarry-told}
use Rattle.hd_delivery.proofs.Pair.{messages, is_seq, other, Pair, Fit, opening_ok, most_lent-more, messages-push, lent_unwritten, Says, same_read, read_on, read_off, the_fed, next_ok, next_lent, same_first, three_is, lent_on, lent_off}
use Rattle.hd_delivery.proofs.WhatIsSaid.{shaken_next}

-- what was received by the time of the first Sequence
abbrev pub opened : List LinkFrame → Option ℕ
opened [] = None
opened (Sequence s received ∷ ts) = Some (received_of received)
opened (_ ∷ ts) = None

abbrev pub base_of : Option ℕ → ℕ → List LinkFrame → Option ℕ
base_of o l ts = if is_this l o then Some 0 else opened ts

-- after how many of the other's messages those of this link come, for an end that stands there
abbrev pub base : ℕ → List EndEvent → Option ℕ
base l h = base_of (first_link h) l (lent_frames l h)

abbrev pub Run : List EndEvent → List EndEvent → Type 0
Run x y = record {
  unopened : (l : ℕ) → base l y ≡ None → messages (lent_frames l x) ≡ [];
  line : (l ρ j : ℕ) (m : Message) → present_link y ≡ Some l → base l y ≡ Some ρ → slice_get (messages (lent_frames l x)) j ≡ Some m → (slice_get (sent_messages x) (ρ + j) ≡ Some m) × (ρ + j < most_lent x);
  place : (l ρ : ℕ) → present_link y ≡ Some l → base l y ≡ Some ρ → length (processed_messages y) ≡ ρ + length (messages (read_frames l y));
  next : (l ρ : ℕ) → present_link y ≡ Some l → base l y ≡ Some ρ → present_link x ≡ Some l → (first_link x ≡ Some l) ⊎ (is_resumed x ≡ true) → max (acked_count x) (written_place x) ≡ ρ + length (messages (lent_frames l x));
  early : (l ρ : ℕ) → present_link y ≡ Some l → base l y ≡ Some ρ → number (read_frames l x) ≡ None → acked_count x ≤ ρ;
  elsewhere : (l ρ k : ℕ) → present_link y ≡ Some l → base l y ≡ Some ρ → (k ≡ l → ⊥) → most_told (lent_frames k y) ≤ ρ;
}

messages-append : (ts us : List LinkFrame) → messages (ts ++ us) ≡ messages ts ++ messages us
messages-append [] us = refl
messages-append (Numbered m ∷ ts) us = ap (λ ms. m ∷ ms) (messages-append ts us)
messages-append (_ ∷ ts) us = messages-append ts us

message_at : (ts : List LinkFrame) (k : ℕ) (m : Message) → slice_get ts k ≡ Some (Numbered m) → slice_get (messages ts) (length (messages (take k ts))) ≡ Some m
message_at [] k m e = absurd (cc)
message_at (Numbered n ∷ ts) zero m e = cc
message_at (t ∷ ts) zero m e = absurd (cc)
message_at (Numbered n ∷ ts) (suc k) m e = message_at ts k m e
message_at (t ∷ ts) (suc k) m e = message_at ts k m e

get_push : (ms : List Message) (n : Message) (j : ℕ) (m : Message) → slice_get (ms ++ n ∷ []) j ≡ Some m → (slice_get ms j ≡ Some m) ⊎ ((n ≡ m) × (j ≡ length ms))
get_push [] n zero m e = inr (cc, refl)
get_push [] n (suc j) m e = absurd (cc)
get_push (k ∷ ms) n zero m e = inl e
get_push (k ∷ ms) n (suc j) m e = ⊎_elim (λ h. inl h) (λ h. inr (h.0, ap suc h.1)) (get_push ms n j m e)

line_push : (t : LinkFrame) (ms : List Message) (j : ℕ) (m : Message) → slice_get (ms ++ messages (t ∷ [])) j ≡ Some m → (slice_get ms j ≡ Some m) ⊎ ((t ≡ Numbered m) × (j ≡ length ms))
line_push (Numbered n) ms j m e = ⊎_elim (λ h. inl h) (λ h. inr (ap Numbered h.0, h.1)) (get_push ms n j m e)
line_push t ms j m e = inl (subst (λ l. slice_get l j ≡ Some m) (append_none ms) e)

next_push : (t : LinkFrame) (x : List EndEvent) (ρ : ℕ) (ms : List Message) → max (acked_count x) (written_place x) ≡ ρ + length ms → max (acked_count x) (written_place (Lent t ∷ x)) ≡ ρ + length (ms ++ messages (t ∷ []))
next_push (Numbered m) x ρ ms e = omega (arith, length-append ms (m ∷ []))
next_push t x ρ ms e = e ∙ ap (λ l. ρ + length l) (sym (append_none ms))

pub base_first : (l : ℕ) (h : List EndEvent) → first_link h ≡ Some l → base l h ≡ Some 0
base_first l h e = both (λ o. o ≡ Some 0) (is_this l (first_link h)) (Some 0) (opened (lent_frames l h)) (λ f. refl) (λ f. let g = is_this-same l (first_link h) e in absurd (cc))

base_later : (l : ℕ) (h : List EndEvent) → (first_link h ≡ Some l → ⊥) → base l h ≡ opened (lent_frames l h)
base_later l h e = both (λ o. o ≡ opened (lent_frames l h)) (is_this l (first_link h)) (Some 0) (opened (lent_frames l h)) (λ f. absurd (e (is_this-true l (first_link h) f))) (λ f. refl)

seq_not_first : (F : Facts) (l : ℕ) (t : LinkFrame) → MayStand F l None t → is_seq t ≡ true → F.first ≡ Some l → ⊥
seq_not_first F l (Sequence s received) o q f = o.4 refl f
seq_not_first F l (Request c v) o q f = cc
seq_not_first F l Response o q f = cc
seq_not_first F l (Numbered m) o q f = cc
seq_not_first F l (Ack a) o q f = cc
seq_not_first F l Ping o q f = cc
seq_not_first F l (Close error allow) o q f = cc
seq_not_first F l (Refusal text) o q f = cc
seq_not_first F l (Foreign k) o q f = cc
seq_not_first F l (Strange why answer) o q f = cc
seq_not_first F l (Unreadable at why) o q f = cc

opened_seq : (t : LinkFrame) (ts : List LinkFrame) → is_seq t ≡ true → opened (t ∷ ts) ≡ Some (told_count t)
opened_seq (Sequence s received) ts q = refl
opened_seq (Request c v) ts q = absurd (cc)
opened_seq Response ts q = absurd (cc)
opened_seq (Numbered m) ts q = absurd (cc)
opened_seq (Ack a) ts q = absurd (cc)
opened_seq Ping ts q = absurd (cc)
opened_seq (Close error allow) ts q = absurd (cc)
opened_seq (Refusal text) ts q = absurd (cc)
opened_seq (Foreign k) ts q = absurd (cc)
opened_seq (Strange why answer) ts q = absurd (cc)
opened_seq (Unreadable at why) ts q = absurd (cc)

opened_is : (t : LinkFrame) (ts : List LinkFrame) (ρ : ℕ) → opened (t ∷ ts) ≡ Some ρ → (is_seq t ≡ true) × (told_count t ≡ ρ)
opened_is (Sequence s received) ts ρ e = (refl, cc)
opened_is (Request c v) ts ρ e = absurd (cc)
opened_is Response ts ρ e = absurd (cc)
opened_is (Numbered m) ts ρ e = absurd (cc)
opened_is (Ack a) ts ρ e = absurd (cc)
opened_is Ping ts ρ e = absurd (cc)
opened_is (Close error allow) ts ρ e = absurd (cc)
opened_is (Refusal text) ts ρ e = absurd (cc)
opened_is (Foreign k) ts ρ e = absurd (cc)
opened_is (Strange why answer) ts ρ e = absurd (cc)
opened_is (Unreadable at why) ts ρ e = absurd (cc)

opened_at : (ts : List LinkFrame) (t : LinkFrame) → slice_get ts 0 ≡ Some t → is_seq t ≡ true → opened ts ≡ Some (told_count t)
opened_at [] t e q = absurd (cc)
opened_at (u ∷ us) t e q = let f : u ≡ t = cc in subst (λ t. opened (u ∷ us) ≡ Some (told_count t)) f (opened_seq u us (ap is_seq f ∙ q))

opened_more : (ts us : List LinkFrame) (ρ : ℕ) → opened ts ≡ Some ρ → opened (ts ++ us) ≡ Some ρ
opened_more [] us ρ e = absurd (cc)
opened_more (Sequence s received ∷ ts) us ρ e = e
opened_more (_ ∷ ts) us ρ e = e

opened_spoke : (ts : List LinkFrame) (ρ : ℕ) → opened ts ≡ Some ρ → has_frames ts ≡ true
opened_spoke [] ρ e = absurd (cc)
opened_spoke (t ∷ ts) ρ e = refl

pub no_messages : (ts us vs : List LinkFrame) → ts ++ us ≡ vs → messages vs ≡ [] → messages ts ≡ []
no_messages ts us vs e m = front (messages ts) (messages us) (sym (messages-append ts us) ∙ (ap messages e ∙ m))
  where
    front : (ms ns : List Message) → ms ++ ns ≡ [] → ms ≡ []
    front [] ns e = refl
    front (m ∷ ms) ns e = absurd (cc)

module _ (side : Side) (terms : Terms) (x y : List EndEvent) (i : Pair side terms x y) (b : (terms.version == 3) ≡ true) where
  -- what an end has said on a link where it said anything
  pub base_some : (l : ℕ) → 0 < length (lent_frames l x) → (ρ : ℕ) × (base l x ≡ Some ρ)
  base_some l more = go (lent_frames l x) refl
    where
      go : (ts : List LinkFrame) → lent_frames l x ≡ ts → (ρ : ℕ) × (base l x ≡ Some ρ)
      go [] e = absurd (let z = ap length e in omega arith)
      go (t ∷ ts) e = both (λ o. (ρ : ℕ) × (o ≡ Some ρ)) (is_this l (first_link x)) (Some 0) (opened (lent_frames l x)) (λ f. (0, refl))
          (λ f. let g = subst (λ ts. MayCarry (facts side terms x y) l None ts) e (i.to.good l) in
          ⊎_elim (λ p. let z = is_this-same l (first_link x) p in absurd (cc)) (λ q. (told_count t, ap opened e ∙ opened_seq t ts q)) (opening_ok (facts side terms x y) l t g.0))

  pub base_empty : (l : ℕ) → base l x ≡ None → lent_frames l x ≡ []
  base_empty l e = go (lent_frames l x) refl
    where
      go : (ts : List LinkFrame) → lent_frames l x ≡ ts → ts ≡ []
      go [] f = refl
      go (t ∷ ts) f = let p = base_some l (let z = ap length f in omega arith) in let z : None ≡ Some p.0 = sym e ∙ p.1 in absurd (cc)

  pub their_base : (l : ℕ) → 0 < length (lent_frames l y) → (ρ : ℕ) × (base l y ≡ Some ρ)
  their_base l more = go (lent_frames l y) refl
    where
      go : (ts : List LinkFrame) → lent_frames l y ≡ ts → (ρ : ℕ) × (base l y ≡ Some ρ)
      go [] e = absurd (let z = ap length e in omega arith)
      go (t ∷ ts) e = both (λ o. (ρ : ℕ) × (o ≡ Some ρ)) (is_this l (first_link y)) (Some 0) (opened (lent_frames l y)) (λ f. (0, refl))
          (λ f. let g = subst (λ ts. MayCarry (facts (other side) terms y x) l None ts) e (i.from.good l) in
          ⊎_elim (λ p. let z = is_this-same l (first_link y) p in absurd (cc)) (λ q. (told_count t, ap opened e ∙ opened_seq t ts q)) (opening_ok (facts (other side) terms y x) l t g.0))

  pub read_messages : (l : ℕ) → length (messages (read_frames l y)) ≤ length (messages (lent_frames l x))
  read_messages l =
      let p = i.to.feeds l in
      let e = sym (messages-append (read_frames l y) (drop (taken_count l y) (fed_frames l y))) ∙ ap messages (take_split (fed_frames l y) (taken_count l y)) in
      let f = sym (messages-append (fed_frames l y) p.0) ∙ ap messages p.1 in
      let g = sym (length-append (messages (read_frames l y)) (messages (drop (taken_count l y) (fed_frames l y)))) ∙ ap length e in
      let h = sym (length-append (messages (fed_frames l y)) (messages p.0)) ∙ ap length f in
      omega arith

  -- the other end's steps, as x makes them: x writes, y reads
  pub writes_detached : Run x y → Run (Detached 0 ∷ x) y
  writes_detached u = record { unopened = u.unopened; line = u.line; place = u.place; next = λ l ρ e f g. absurd (cc); early = u.early; elsewhere = u.elsewhere }

  pub writes_sent : (m : Message) → Run x y → Run (Sent m ∷ x) y
  writes_sent m u = record {
    unopened = u.unopened;
    line = λ l ρ j n e f g. let p = u.line l ρ j n e f g in (get_front (sent_messages x) (m ∷ []) (ρ + j) n p.0, p.1);
    place = u.place;
    next = u.next;
    early = u.early;
    elsewhere = u.elsewhere;
  }

  pub writes_fed : (piece : List LinkFrame) → Run x y → Run (Fed piece ∷ x) y
  writes_fed piece u = record {
    unopened = u.unopened;
    line = u.line;
    place = u.place;
    next = u.next;
    early = λ l ρ e f g. u.early l ρ e f (ap number (sym (same_read side terms x y i piece l)) ∙ g);
    elsewhere = u.elsewhere;
  }

  first_unshaken : first_link x ≡ None → is_shaken x ≡ false
  first_unshaken e = go (is_shaken x) refl
    where
      go : (b : Bool) → is_shaken x ≡ b → b ≡ false
      go true s = let p = i.own.some_taken s in let z : None ≡ Some p.0 = sym e ∙ p.1 in absurd (cc)
      go false s = refl

  pub writes_attached : (k : ℕ) → was_on k x ≡ false → ((a c : ℕ) → first_of (first_link x) (Some k) ≡ Some a → first_link y ≡ Some c → a ≡ c) → Run x y → Run (Attached k 0 ∷ x) y
  writes_attached k fresh agree u = record {
    unopened = u.unopened;
    line = u.line;
    place = u.place;
    next = λ l ρ e f g may. let h : k ≡ l = cc in ⊎_elim (λ p. starts (first_link x) refl l ρ e f h p) (λ p. absurd (cc)) may;
    early = u.early;
    elsewhere = u.elsewhere;
  }
    where
      starts : (o : Option ℕ) → first_link x ≡ o → (l ρ : ℕ) → present_link y ≡ Some l → base l y ≡ Some ρ → k ≡ l → first_of (first_link x) (Some k) ≡ Some l → max (acked_count x) 0 ≡ ρ + length (messages (lent_frames l x))
      starts None o l ρ e f h p =
          let q = has_first l y (here_was l y e) in
          let same : l ≡ q.0 = agree l q.0 p q.1 in
          let none : Some ρ ≡ Some 0 = sym f ∙ base_first l y (q.1 ∙ ap Some (sym same)) in
          let zero_base : ρ ≡ 0 = cc in
          let no_ack = (i.own.unheard (first_unshaken o)).1 in
          let no_message = ap (λ ts. length (messages ts)) (nothing_lent l x (none_was l x o)) in
          omega arith
      starts (Some a) o l ρ e f h p =
          let p' : first_of (Some a) (Some k) ≡ Some l = subst (λ o. first_of o (Some k) ≡ Some l) o p in
          let w = first_was x a o in
          let same : a ≡ l = cc in
          let w' : was_on k x ≡ true = subst (λ j. was_on j x ≡ true) (same ∙ sym h) w in
          absurd (cc)

  -- a first frame
  at_start : (l : ℕ) (t : LinkFrame) → slice_get (fed_frames l x) (taken_count l x) ≡ Some t → number (read_frames l x) ≡ None → slice_get (lent_frames l y) 0 ≡ Some t
  at_start l t e n = go (taken_count l x) refl
    where
      go : (k : ℕ) → taken_count l x ≡ k → slice_get (lent_frames l y) 0 ≡ Some t
      go zero f = next_lent side terms x y i l 0 t (subst (λ j. slice_get (fed_frames l x) j ≡ Some t) f e)
      go (suc k) f =
          let len : length (read_frames l x) ≡ taken_count l x = length-take-le (taken_count l x) (fed_frames l x) (i.own.within l) in
          let m = MayCarry-any (facts (other side) terms y x) l (read_frames l x) (MayCarry-prefix (facts (other side) terms y x) l (read_frames l x) (fed_frames l x) (drop (taken_count l x) (fed_frames l x), take_split (fed_frames l x) (taken_count l x)) (the_fed side terms x y i l)) (omega arith) in
          let m' : number (read_frames l x) ≡ Some m.0 = m.1 in
          absurd (cc)

  pub writes_read : (got : Got) (l : ℕ) (t : LinkFrame) → present_link x ≡ Some l → slice_get (fed_frames l x) (taken_count l x) ≡ Some t
      → Fit side terms x y l t got → Run x y → Run (Took got ∷ x) y
  writes_read got l t at is fit u = record {
    unopened = u.unopened;
    line = u.line;
    place = u.place;
    next = λ k ρ e f g may. let h : l ≡ k = cc in
        subst (λ k. max (acked_count (Took got ∷ x)) (written_place x) ≡ ρ + length (messages (lent_frames k x))) h
        (next_read ρ (e ∙ ap Some (sym h)) (subst (λ k. base k y ≡ Some ρ) (sym h) f) (subst (λ k. (first_link x ≡ Some k) ⊎ (is_resumed (Took got ∷ x) ≡ true)) (sym h) may));
    early = λ k ρ e f g. ⊎_elim
        (λ h. absurd (unread_count k h g))
        (λ h. let a = u.early k ρ e f (ap number (sym (read_off side terms x y i got l k at h)) ∙ g) in
        let c = u.elsewhere k ρ l e f (λ z. h (sym z)) in
        let d = most_told_at (lent_frames l y) (taken_count l x) t (next_lent side terms x y i l (taken_count l x) t is) in
        omega (arith, fit.acks_from))
        (cases_eq k l);
    elsewhere = u.elsewhere;
  }
    where
      unread_count : (k : ℕ) → k ≡ l → number (read_frames k (Took got ∷ x)) ≡ None → ⊥
      unread_count k h g =
          let g' : number (read_frames l (Took got ∷ x)) ≡ None = subst (λ k. number (read_frames k (Took got ∷ x)) ≡ None) h g in
          let n = MayStand-count (facts (other side) terms y x) l (number (read_frames l x)) t (next_ok side terms x y i l t is) in
          let z : None ≡ Some n.0 = sym g' ∙ (ap number (read_on side terms x y i got l t at is) ∙ (number-push (read_frames l x) t ∙ n.1)) in
          absurd (cc)

      -- where it could write before
      still : (ρ : ℕ) → present_link y ≡ Some l → base l y ≡ Some ρ → (first_link x ≡ Some l) ⊎ (is_resumed x ≡ true) → max (acked_count (Took got ∷ x)) (written_place x) ≡ ρ + length (messages (lent_frames l x))
      still ρ e f may =
          let a = u.next l ρ e f at may in
          let d = most_told_at (lent_frames l y) (taken_count l x) t (next_lent side terms x y i l (taken_count l x) t is) in
          let c = MayCarry-told (facts (other side) terms y x) l None (lent_frames l y) (i.from.good l) in
          let p = u.place l ρ e f in
          let q = read_messages l in
          omega (arith, fit.acks_from, fit.acks_grow)

      -- where it read the other's opening just now
      opens : (ρ : ℕ) → present_link y ≡ Some l → base l y ≡ Some ρ → number (read_frames l x) ≡ None → is_seq t ≡ true → is_resumed x ≡ false → max (acked_count (Took got ∷ x)) (written_place x) ≡ ρ + length (messages (lent_frames l x))
      opens ρ e f none q s =
          let ok = subst (λ n. MayStand (facts (other side) terms y x) l n t) none (next_ok side terms x y i l t is) in
          let far = seq_not_first (facts (other side) terms y x) l t ok q in
          let z : Some ρ ≡ Some (told_count t) = sym f ∙ (base_later l y far ∙ opened_at (lent_frames l y) t (at_start l t is none) q) in
          let same : ρ ≡ told_count t = cc in
          let near : first_link x ≡ Some l → ⊥ = λ p. let k = has_first l y (here_was l y e) in far (k.1 ∙ ap Some (sym (i.agree l k.0 p k.1))) in
          let empty = i.own.unwritten b l at near s in
          let unwritten = i.own.untold l at empty in
          let no_message = ap length empty in
          let a = u.early l ρ e f none in
          omega (arith, fit.acks_from, fit.hears)

      next_read : (ρ : ℕ) → present_link y ≡ Some l → base l y ≡ Some ρ → (first_link x ≡ Some l) ⊎ (is_resumed (Took got ∷ x) ≡ true) → max (acked_count (Took got ∷ x)) (written_place x) ≡ ρ + length (messages (lent_frames l x))
      next_read ρ e f may = ⊎_elim (λ p. still ρ e f (inl p))
          (λ p. ⊎_elim (λ q. on_number (number (read_frames l x)) refl (is_resumed x) refl q) (λ q. still ρ e f (inr q)) (or_cases (is_seq t) (is_resumed x) (sym (fit.resumes b) ∙ p))) may
        where
          on_number : (o : Option ℕ) → number (read_frames l x) ≡ o → (s : Bool) → is_resumed x ≡ s → is_seq t ≡ true → max (acked_count (Took got ∷ x)) (written_place x) ≡ ρ + length (messages (lent_frames l x))
          on_number o n true s q = still ρ e f (inr s)
          on_number None n false s q = opens ρ e f n q s
          on_number (Some k) n false s q = still ρ e f (i.own.resumes b l k at n)

  pub writes_lent : (t : LinkFrame) (l : ℕ) → present_link x ≡ Some l → Says side terms x y l t → Run x y → Run (Lent t ∷ x) y
  writes_lent t l at says u = record {
    unopened = λ k e. ⊎_elim (λ h. subst (λ k. messages (lent_frames k (Lent t ∷ x)) ≡ []) (sym h) (here_unopened (subst (λ k. base k y ≡ None) h e)))
        (λ h. ap messages (lent_off side terms x y i t l k at h) ∙ u.unopened k e) (cases_eq k l);
    line = λ k ρ j m e f g. ⊎_elim
        (λ h. subst (λ k. (slice_get (sent_messages x) (ρ + j) ≡ Some m) × (ρ + j < most_lent (Lent t ∷ x))) h
        (here_line ρ j m (e ∙ ap Some h) (subst (λ k. base k y ≡ Some ρ) h f) (subst (λ k. slice_get (messages (lent_frames k (Lent t ∷ x))) j ≡ Some m) h g)))
        (λ h. let p = u.line k ρ j m e f (subst (λ ts. slice_get (messages ts) j ≡ Some m) (lent_off side terms x y i t l k at h) g) in (p.0, omega (arith, p.1, most_lent-more t x)))
        (cases_eq k l);
    place = u.place;
    next = λ k ρ e f g may. let h : l ≡ k = cc in
        subst (λ k. max (acked_count x) (written_place (Lent t ∷ x)) ≡ ρ + length (messages (lent_frames k (Lent t ∷ x)))) h
        (rw (lent_on side terms x y i t l at) (rw (messages-push (lent_frames l x) t)
        (next_push t x ρ (messages (lent_frames l x)) (u.next l ρ (e ∙ ap Some (sym h)) (subst (λ k. base k y ≡ Some ρ) (sym h) f) at (subst (λ k. (first_link x ≡ Some k) ⊎ (is_resumed x ≡ true)) (sym h) may)))));
    early = u.early;
    elsewhere = u.elsewhere;
  }
    where
      pushed : messages (lent_frames l (Lent t ∷ x)) ≡ messages (lent_frames l x) ++ messages (t ∷ [])
      pushed = ap messages (lent_on side terms x y i t l at) ∙ messages-push (lent_frames l x) t

      -- a message goes out only where the other end has opened
      is_open : (m : Message) → t ≡ Numbered m → base l y ≡ None → ⊥
      is_open m e n = let p = says.may b m e in ⊎_elim
          (λ f. let k = i.met (shaken_next side terms x y i m p.1) in
          let z : None ≡ Some 0 = sym n ∙ base_first l y (k.1 ∙ ap Some (sym (i.agree l k.0 f k.1))) in absurd (cc))
          (λ f. let some = i.own.resumed_read l at f in
          let feeds = i.from.feeds l in
          let len = sym (length-append (fed_frames l x) feeds.0) ∙ ap length feeds.1 in
          let q = their_base l (omega (arith, i.own.within l)) in
          let z : None ≡ Some q.0 = sym n ∙ q.1 in absurd (cc))
          p.0

      here_unopened : base l y ≡ None → messages (lent_frames l (Lent t ∷ x)) ≡ []
      here_unopened n = pushed ∙ lent_unwritten t (lent_frames l x) (λ m e. is_open m e n) (u.unopened l n)

      here_line : (ρ j : ℕ) (m : Message) → present_link y ≡ Some l → base l y ≡ Some ρ → slice_get (messages (lent_frames l (Lent t ∷ x))) j ≡ Some m → (slice_get (sent_messages x) (ρ + j) ≡ Some m) × (ρ + j < most_lent (Lent t ∷ x))
      here_line ρ j m e f g = ⊎_elim
          (λ h. let p = u.line l ρ j m e f h in (p.0, omega (arith, p.1, most_lent-more t x)))
          (λ h. let p = says.may b m h.0 in
          let q = u.next l ρ e f at p.0 in
          let is : max (acked_count x) (written_place x) ≡ ρ + j = omega (arith, h.1) in
          let w : most_lent (Lent t ∷ x) ≡ most_lent (Lent (Numbered m) ∷ x) = ap (λ u. most_lent (Lent u ∷ x)) h.0 in
          (subst (λ n. slice_get (sent_messages x) n ≡ Some m) is p.1, omega arith))
          (line_push t (messages (lent_frames l x)) j m (subst (λ ms. slice_get ms j ≡ Some m) pushed g))

  -- x reads, y writes
  pub reads_detached : Run y x → Run y (Detached 0 ∷ x)
  reads_detached u = record {
    unopened = u.unopened;
    line = λ l ρ j m e. absurd (cc);
    place = λ l ρ e. absurd (cc);
    next = λ l ρ e. absurd (cc);
    early = λ l ρ e. absurd (cc);
    elsewhere = λ l ρ k e. absurd (cc);
  }

  pub reads_fed : (piece : List LinkFrame) → Run y x → Run y (Fed piece ∷ x)
  reads_fed piece u = record {
    unopened = u.unopened;
    line = u.line;
    place = λ l ρ e f. u.place l ρ e f ∙ ap (λ ts. ρ + length (messages ts)) (sym (same_read side terms x y i piece l));
    next = u.next;
    early = u.early;
    elsewhere = u.elsewhere;
  }

  pub reads_read : (got : Got) (l : ℕ) (t : LinkFrame) → present_link x ≡ Some l → slice_get (fed_frames l x) (taken_count l x) ≡ Some t
      → Fit side terms x y l t got → Run y x → Run y (Took got ∷ x)
  reads_read got l t at is fit u = record {
    unopened = u.unopened;
    line = u.line;
    place = λ k ρ e f. let h : l ≡ k = cc in
        subst (λ k. length (processed_messages (Took got ∷ x)) ≡ ρ + length (messages (read_frames k (Took got ∷ x)))) h
        (let a = u.place l ρ at (subst (λ k. base k x ≡ Some ρ) (sym h) f) in
        let c = ap messages (read_on side terms x y i got l t at is) ∙ messages-push (read_frames l x) t in
        let d = ap length c ∙ length-append (messages (read_frames l x)) (messages (t ∷ [])) in
        let g = fit.takes b in
        omega arith);
    next = u.next;
    early = u.early;
    elsewhere = u.elsewhere;
  }

  pub reads_attached : (k : ℕ) → was_on k x ≡ false → Run y x → Run y (Attached k 0 ∷ x)
  reads_attached k fresh u = go (first_link x) refl
    where
      go : (o : Option ℕ) → first_link x ≡ o → Run y (Attached k 0 ∷ x)
      go (Some a) f = record {
        unopened = λ l e. u.unopened l (same l ∙ e);
        line = λ l ρ j m e g. absurd (never l ρ (let h : k ≡ l = cc in h) g);
        place = λ l ρ e g. absurd (never l ρ (let h : k ≡ l = cc in h) g);
        next = λ l ρ e g. absurd (never l ρ (let h : k ≡ l = cc in h) g);
        early = λ l ρ e g. absurd (never l ρ (let h : k ≡ l = cc in h) g);
        elsewhere = λ l ρ j e g. absurd (never l ρ (let h : k ≡ l = cc in h) g);
      }
        where
          same : (l : ℕ) → base l x ≡ base l (Attached k 0 ∷ x)
          same l = rw f refl

          never : (l ρ : ℕ) → k ≡ l → base l (Attached k 0 ∷ x) ≡ Some ρ → ⊥
          never l ρ h g =
              let g1 : base k x ≡ Some ρ = same k ∙ subst (λ l. base l (Attached k 0 ∷ x) ≡ Some ρ) (sym h) g in
              let w = first_was x a f in
              let far : first_link x ≡ Some k → ⊥ = λ p. let z : was_on k x ≡ true = first_was x k p in absurd (cc) in
              let g2 : opened (lent_frames k x) ≡ Some ρ = sym (base_later k x far) ∙ g1 in
              let g3 : ◌≡◌ {A = Option ℕ} None (Some ρ) = sym (ap opened (nothing_lent k x fresh)) ∙ g2 in
              absurd (cc)
      go None f = record {
        unopened = λ l e. u.unopened l (nothing l);
        line = λ l ρ j m e g h. let z : slice_get {X = Message} [] j ≡ Some m = subst (λ ms. slice_get ms j ≡ Some m) (u.unopened l (nothing l)) h in absurd (cc);
        place = λ l ρ e g. let h : k ≡ l = cc in
            let heard_moment = ap length (i.own.unheard unshaken).0 in
            let a = zero_base l ρ h g in
            let c = ap (λ n. length (messages (take n (fed_frames l x)))) (nothing_taken l x (none_was l x f)) in
            omega arith;
        next = λ l ρ e g s may. let h : k ≡ l = cc in
            let heard_moment = ap length (i.own.unheard unshaken).0 in
            let a = zero_base l ρ h g in
            let empty = u.unopened l (nothing l) in
            let c = ap length empty in
            let d = i.its.untold l s empty in
            let acks = i.from.acks in
            omega arith;
        early = λ l ρ e g n.
            let heard_moment = ap length (i.own.unheard unshaken).0 in
            let acks = i.from.acks in
            omega arith;
        elsewhere = λ l ρ j e g apart.
            let c = ap most_told (nothing_lent j x (none_was j x f)) in omega arith;
      }
        where
          unshaken : is_shaken x ≡ false
          unshaken = first_unshaken f

          nothing : (l : ℕ) → base l x ≡ None
          nothing l = rw f (ap opened (nothing_lent l x (none_was l x f)))

          zero_base : (l ρ : ℕ) → k ≡ l → base l (Attached k 0 ∷ x) ≡ Some ρ → ρ ≡ 0
          zero_base l ρ h g =
              let z : Some ρ ≡ Some 0 = sym g ∙ base_first l (Attached k 0 ∷ x) (rw f (ap Some h)) in
              cc

  pub reads_lent : (t : LinkFrame) (l : ℕ) → present_link x ≡ Some l → Says side terms x y l t → Run y x → Run y (Lent t ∷ x)
  reads_lent t l at says u = record {
    unopened = λ k e. u.unopened k (back k (base k x) refl e);
    line = λ k ρ j m e f g. let h : l ≡ k = cc in
        subst (λ k. (slice_get (sent_messages y) (ρ + j) ≡ Some m) × (ρ + j < most_lent y)) h
        ((on_base ρ (subst (λ k. base k (Lent t ∷ x) ≡ Some ρ) (sym h) f)).line j m (subst (λ k. slice_get (messages (lent_frames k y)) j ≡ Some m) (sym h) g));
    place = λ k ρ e f. let h : l ≡ k = cc in
        subst (λ k. length (processed_messages x) ≡ ρ + length (messages (read_frames k x))) h (on_base ρ (subst (λ k. base k (Lent t ∷ x) ≡ Some ρ) (sym h) f)).place;
    next = λ k ρ e f g may. let h : l ≡ k = cc in
        subst (λ k. max (acked_count y) (written_place y) ≡ ρ + length (messages (lent_frames k y))) h
        ((on_base ρ (subst (λ k. base k (Lent t ∷ x) ≡ Some ρ) (sym h) f)).next (g ∙ ap Some (sym h)) (subst (λ k. (first_link y ≡ Some k) ⊎ (is_resumed y ≡ true)) (sym h) may));
    early = λ k ρ e f g. let h : l ≡ k = cc in
        (on_base ρ (subst (λ k. base k (Lent t ∷ x) ≡ Some ρ) (sym h) f)).early (subst (λ k. number (read_frames k y) ≡ None) (sym h) g);
    elsewhere = λ k ρ j e f apart. let h : l ≡ k = cc in
        let far : j ≡ l → ⊥ = λ z. apart (z ∙ h) in
        subst (λ ts. most_told ts ≤ ρ) (sym (lent_off side terms x y i t l j at far))
        ((on_base ρ (subst (λ k. base k (Lent t ∷ x) ≡ Some ρ) (sym h) f)).elsewhere j far);
  }
    where
      -- a link that was open stays so
      on : (k ρ : ℕ) → base k x ≡ Some ρ → base k (Lent t ∷ x) ≡ Some ρ
      on k ρ = both (λ o. o ≡ Some ρ → base k (Lent t ∷ x) ≡ Some ρ) (is_this k (first_link x)) (Some 0) (opened (lent_frames k x))
          (λ f e. base_first k (Lent t ∷ x) (is_this-true k (first_link x) f) ∙ e)
          (λ f e. base_later k (Lent t ∷ x) (λ p. let z = is_this-same k (first_link x) p in absurd (cc))
          ∙ both (λ ts. opened ts ≡ Some ρ) (stands_on k x) (lent_frames k x ++ t ∷ []) (lent_frames k x) (λ s. opened_more (lent_frames k x) (t ∷ []) ρ e) (λ s. e))

      back : (k : ℕ) (o : Option ℕ) → base k x ≡ o → base k (Lent t ∷ x) ≡ None → base k x ≡ None
      back k None f e = f
      back k (Some ρ) f e = let z : None ≡ Some ρ = sym e ∙ on k ρ f in absurd (cc)

      on_base : (ρ : ℕ) → base l (Lent t ∷ x) ≡ Some ρ → record {
        line : (j : ℕ) (m : Message) → slice_get (messages (lent_frames l y)) j ≡ Some m → (slice_get (sent_messages y) (ρ + j) ≡ Some m) × (ρ + j < most_lent y);
        place : length (processed_messages x) ≡ ρ + length (messages (read_frames l x));
        next : present_link y ≡ Some l → (first_link y ≡ Some l) ⊎ (is_resumed y ≡ true) → max (acked_count y) (written_place y) ≡ ρ + length (messages (lent_frames l y));
        early : number (read_frames l y) ≡ None → acked_count y ≤ ρ;
        elsewhere : (j : ℕ) → (j ≡ l → ⊥) → most_told (lent_frames j x) ≤ ρ;
      }
      on_base ρ e = go (base l x) refl
        where
          go : (o : Option ℕ) → base l x ≡ o → record {
            line : (j : ℕ) (m : Message) → slice_get (messages (lent_frames l y)) j ≡ Some m → (slice_get (sent_messages y) (ρ + j) ≡ Some m) × (ρ + j < most_lent y);
            place : length (processed_messages x) ≡ ρ + length (messages (read_frames l x));
            next : present_link y ≡ Some l → (first_link y ≡ Some l) ⊎ (is_resumed y ≡ true) → max (acked_count y) (written_place y) ≡ ρ + length (messages (lent_frames l y));
            early : number (read_frames l y) ≡ None → acked_count y ≤ ρ;
            elsewhere : (j : ℕ) → (j ≡ l → ⊥) → most_told (lent_frames j x) ≤ ρ;
          }
          go (Some σ) f =
              let z : Some σ ≡ Some ρ = sym (on l σ f) ∙ e in
              let s : base l x ≡ Some ρ = f ∙ z in
              record { line = λ j m g. u.line l ρ j m at s g; place = u.place l ρ at s; next = λ h may. u.next l ρ at s h may; early = λ n. u.early l ρ at s n; elsewhere = λ j far. u.elsewhere l ρ j at s far }
          go None f =
              let empty = base_empty l f in
              let far : first_link x ≡ Some l → ⊥ = λ p. let z : ◌≡◌ {A = Option ℕ} None (Some 0) = sym f ∙ base_first l x p in absurd (cc) in
              let one : lent_frames l (Lent t ∷ x) ≡ t ∷ [] = lent_on side terms x y i t l at ∙ ap (λ ts. ts ++ t ∷ []) empty in
              let is = opened_is t [] ρ (sym (ap opened one) ∙ (sym (base_later l (Lent t ∷ x) far) ∙ e)) in
              let told_count : ρ ≡ length (processed_messages x) = sym is.1 ∙ says.opens empty is.0 b in
              let none = u.unopened l f in
              let feeds = i.from.feeds l in
              let read_none : messages (read_frames l x) ≡ [] = no_messages (read_frames l x) (drop (taken_count l x) (fed_frames l x)) (fed_frames l x) (take_split (fed_frames l x) (taken_count l x)) (no_messages (fed_frames l x) feeds.0 (lent_frames l y) feeds.1 none) in
              let len = ap length read_none in
              let acks = i.from.acks in
              record {
                line = λ j m g. let z : slice_get {X = Message} [] j ≡ Some m = subst (λ ms. slice_get ms j ≡ Some m) none g in absurd (cc);
                place = omega arith;
                next = λ h may. ⊎_elim
                    (λ p. absurd (far (same_first side terms x y i l at p)))
                    (λ p. let some = i.its.resumed_read l h p in
                    let theirs = i.to.feeds l in
                    let c = sym (length-append (fed_frames l y) theirs.0) ∙ ap length theirs.1 in
                    let d = ap length empty in
                    let w = i.its.within l in
                    absurd (omega arith))
                    may;
                early = λ n. omega arith;
                elsewhere = λ j apart. let c = MayCarry-told (facts side terms x y) j None (lent_frames j x) (i.to.good j) in omega arith;
              }

  -- the next message that x reads is the next one that y sent
  pub third : Run y x → (l : ℕ) (t : LinkFrame) → present_link x ≡ Some l → slice_get (fed_frames l x) (taken_count l x) ≡ Some t
      → (terms.version == 3) ≡ true → is_shaken x ≡ true → (m : Message) → t ≡ Numbered m
      → (next_number (config side terms) x l ≡ Some (suc (length (processed_messages x)))) × (slice_get (sent_messages y) (length (processed_messages x)) ≡ Some m) × (suc (length (processed_messages x)) ≤ most_lent y)
  third u l t at is c s m e = go (base l x) refl
    where
      there : slice_get (fed_frames l x) (taken_count l x) ≡ Some (Numbered m)
      there = is ∙ ap Some e

      feeds : IsPrefix (fed_frames l x) (lent_frames l y)
      feeds = i.from.feeds l

      stands : slice_get (messages (lent_frames l y)) (length (messages (read_frames l x))) ≡ Some m
      stands = subst (λ ms. slice_get ms (length (messages (read_frames l x))) ≡ Some m) (sym (messages-append (fed_frames l x) feeds.0) ∙ ap messages feeds.1)
          (get_front (messages (fed_frames l x)) (messages feeds.0) (length (messages (read_frames l x))) m (message_at (fed_frames l x) (taken_count l x) m there))

      go : (o : Option ℕ) → base l x ≡ o → (next_number (config side terms) x l ≡ Some (suc (length (processed_messages x)))) × (slice_get (sent_messages y) (length (processed_messages x)) ≡ Some m) × (suc (length (processed_messages x)) ≤ most_lent y)
      go None f = let z : slice_get {X = Message} [] (length (messages (read_frames l x))) ≡ Some m = subst (λ ms. slice_get ms (length (messages (read_frames l x))) ≡ Some m) (u.unopened l f) stands in absurd (cc)
      go (Some ρ) f =
          let p = u.line l ρ (length (messages (read_frames l x))) m at f stands in
          let q = u.place l ρ at f in
          let num = subst (λ t. MayStand (facts (other side) terms y x) l (number (read_frames l x)) t) e (next_ok side terms x y i l t is) in
          let three : is_three x ≡ true = three_is side terms x y i s ∙ c in
          (numbered (not (is_resumable (config side terms) x)) (is_three x) (is_some (number (read_frames l x))) (is_this l (first_link x) || has_frames (lent_frames l x)) three (ap is_some num.0.1) opens, subst (λ n. slice_get (sent_messages y) n ≡ Some m) (sym q) p.0, omega (arith, p.1))
        where
          opens : (is_this l (first_link x) || has_frames (lent_frames l x)) ≡ true
          opens = both (λ o. o ≡ Some ρ → (is_this l (first_link x) || has_frames (lent_frames l x)) ≡ true) (is_this l (first_link x)) (Some 0) (opened (lent_frames l x))
              (λ g h. rw g refl) (λ g h. rw g (opened_spoke (lent_frames l x) ρ h)) f

          numbered : (q a c d : Bool) → a ≡ true → c ≡ true → d ≡ true → (if a || q then (if c && d then Some (suc (length (processed_messages x))) else None) else number (read_frames l x)) ≡ Some (suc (length (processed_messages x)))
          numbered q true true true e f g = refl
          numbered q false c d e f g = absurd (cc)
          numbered q true false d e f g = absurd (cc)
          numbered q true true false e f g = absurd (cc)
