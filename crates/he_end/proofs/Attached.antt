-- A session that begins a link remembers it.
use Rattle.std.proofs.Common.{◌≡◌, ℕ, suc, ◌+◌, ◌-◌, min, max, Bool, true, false, List, [], ◌∷◌, length, Option, Some, None, refl, sym, ap, ◌∙◌, arith}
use Rattle.std.specs.Prelude.{is_some, not, ◌||◌, if◌then◌else◌}
use Rattle.std.proofs.lemmas.Bool.{eq-eqb}
use Rattle.hd_delivery.specs.Numbers.{most_of_64_bits}
use Rattle.hd_delivery.specs.Histories.{Config, EndEvent, Attached, is_this, first_of, moment, acked_count, processed_messages, was_on, first_link, link_count, as_told, lent_frames, taken_count, is_shaken, is_three, is_resumable, is_closed}
use Rattle.hq_resend.specs.Buffers.{IsWithin, after_rewind}
use Rattle.he_end.specs.declared.session.Session.{Session}
use Rattle.he_end.specs.declared.link.Agreed.{Agreed}
use Rattle.he_end.specs.Remembers.{Agrees, Remembers, latest_number, begun}
use Rattle.he_end.proofs.Links.{nothing_lent, nothing_taken, not_first, none_counted, some_counted}

-- a connection isn't kept before the handshake
pub not_kept : (o : Option Agreed) (c : Config) (k : List EndEvent) → Agrees o c k → is_shaken k ≡ false → is_resumable c k ≡ false
not_kept None c k h e = h.1
not_kept (Some x) c k h e = absurd (let z : true ≡ false = sym h.0 ∙ e in cc)

unbegun : (c : Config) (s : Session) (k : List EndEvent) → Remembers c s k → first_link k ≡ None → is_shaken k ≡ false
unbegun c s k r none = go (is_shaken k) refl
  where
    go : (b : Bool) → is_shaken k ≡ b → b ≡ false
    go true e = let z : false ≡ true = sym (ap is_some none) ∙ r.begun e in cc
    go false e = refl

-- what a session was that begins its first link, or a later one of a connection that is kept
pub record MayBegin (c : Config) (s : Session) (k : List EndEvent) (first : Bool) (next : Option ℕ) : Type 0 where
  pub plain : is_resumable c k ≡ false → first_link k ≡ None
  pub begins : (first_link k ≡ None → first ≡ true) × (is_some (first_link k) ≡ true → first ≡ false)
  pub waits : is_shaken k ≡ true → next ≡ None
  pub greets : is_shaken k ≡ false → next ≡ Some 1

pub remembers_attached : (c : Config) (s : Session) (k : List EndEvent) (l now num : ℕ) (first : Bool) (next : Option ℕ) → Remembers c s k → IsWithin s.ring → was_on l k ≡ false → is_closed c k ≡ false
    → MayBegin c s k first next → num ≡ as_told (link_count k)
    → Remembers c (record s { ring = after_rewind s.ring; intake = record s.intake { next = next }; number = Some num; moment = max s.moment now; link = Some (begun first (max s.moment now)) }) (Attached l now ∷ k)
remembers_attached c s k l now num first next r within apart open' may numbers = record {
  side = r.side;
  codec = r.codec;
  version = r.version;
  reconnect = r.reconnect;
  agreed = agreed_still s.agreed r.agreed;
  closed = r.closed;
  farewell = r.farewell;
  answer = r.answer;
  live = r.live;
  number = number_is;
  link = record {
    first = first_is;
    opened = rw none refl;
    said = λ e. rw none refl;
    told = rw none refl;
    resumed = refl;
    parted = rw none refl;
    quiet = refl;
    wrote = moments;
    heard = ap Some moments;
    within = rw untaken (omega arith);
    counted = λ b e. may.waits b ∙ rw untaken (no_number (is_three k || not (is_resumable c k)));
    greets = λ b e. untaken;
    alone = λ b e. may.begins.0 (may.plain b);
    numbered = λ b b' e. absurd (let z : true ≡ false = sym b ∙ unbegun c s k r (may.plain b') in cc);
  };
  ring = let h = r.ring in record {
    keeps = h.keeps;
    sent = h.sent;
    acked = h.acked;
    written = rewound (is_resumable c k) refl;
    furthest = h.furthest;
    held = h.held;
  };
  processed = r.processed;
  moment = moments;
  begun = λ e. some_first (first_link k);
  unshaken = λ e. let u = r.unshaken e in (u.0, u.1, may.greets e, rw (none_counted k (may.plain (not_kept s.agreed c k r.agreed e))) (omega arith));
}
  where
    none : lent_frames l k ≡ []
    none = nothing_lent l k apart

    untaken : taken_count l k ≡ 0
    untaken = nothing_taken l k apart

    moments : max s.moment now ≡ max now (moment k)
    moments = let m = r.moment in omega arith

    agreed_still : (o : Option Agreed) → Agrees o c k → Agrees o c (Attached l now ∷ k)
    agreed_still None h = h
    agreed_still (Some x) h = h

    some_first : (o : Option ℕ) → is_some (first_of o (Some l)) ≡ true
    some_first None = refl
    some_first (Some f) = refl

    number_is : Some num ≡ latest_number (Attached l now ∷ k)
    number_is = rw (some_first (first_link k)) (ap Some (numbers ∙ ap as_told (omega arith)))

    first_is : first ≡ is_this l (first_of (first_link k) (Some l))
    first_is = go (first_link k) may.begins (not_first l k apart)
      where
        go : (o : Option ℕ) → (o ≡ None → first ≡ true) × (is_some o ≡ true → first ≡ false) → is_this l o ≡ false → first ≡ is_this l (first_of o (Some l))
        go None h e = h.0 refl ∙ sym (eq-eqb l l refl)
        go (Some f) h e = h.1 refl ∙ sym e

    no_number : (alone : Bool) → None ≡ (if alone then (if false then Some (suc (length (processed_messages k))) else None) else None)
    no_number true = refl
    no_number false = refl

    rewound : (kept : Bool) → is_resumable c k ≡ kept → (if s.ring.keeps then s.ring.acked else s.ring.written) ≡ max (acked_count k) 0
    rewound true e = let a = r.ring.acked in rw (r.ring.keeps ∙ e) (omega arith)
    rewound false e = let a = r.ring.acked in
        let unsent = (r.unshaken (unbegun c s k r (may.plain e))).0 in
        let low = within.acked in let mid = within.written in let high = within.furthest in
        rw (r.ring.keeps ∙ e) (omega arith)

-- the first link
pub begins_first : (c : Config) (s : Session) (k : List EndEvent) → Remembers c s k → s.number ≡ None → first_link k ≡ None
begins_first c s k r e = go (first_link k) (sym e ∙ r.number)
  where
    go : (o : Option ℕ) → None ≡ (if is_some o then Some (as_told (link_count k - 1)) else None) → o ≡ None
    go None h = refl
    go (Some f) h = absurd (cc)

pub may_begin_first : (c : Config) (s : Session) (k : List EndEvent) → Remembers c s k → s.number ≡ None → MayBegin c s k true s.intake.next
may_begin_first c s k r e = let none = begins_first c s k r e in let early = unbegun c s k r none in record {
  plain = λ z. none;
  begins = (λ z. refl, λ z. absurd (let y : false ≡ true = sym (ap is_some none) ∙ z in cc));
  waits = λ z. absurd (let y : true ≡ false = sym z ∙ early in cc);
  greets = λ z. (r.unshaken z).2;
}

-- a later link
pub had_first : (c : Config) (s : Session) (k : List EndEvent) (last : ℕ) → Remembers c s k → s.number ≡ Some last → (is_some (first_link k) ≡ true) × (last ≡ as_told (link_count k - 1))
had_first c s k last r e = go (first_link k) (sym e ∙ r.number)
  where
    go : (o : Option ℕ) → Some last ≡ (if is_some o then Some (as_told (link_count k - 1)) else None) → (is_some o ≡ true) × (last ≡ as_told (link_count k - 1))
    go None h = absurd (cc)
    go (Some f) h = (refl, cc)

pub may_begin_later : (c : Config) (s : Session) (k : List EndEvent) (last : ℕ) → Remembers c s k → s.number ≡ Some last → is_resumable c k ≡ true → MayBegin c s k false None
may_begin_later c s k last r e kept = let had = had_first c s k last r e in record {
  plain = λ z. absurd (let y : true ≡ false = sym kept ∙ z in cc);
  begins = (λ z. absurd (let y : false ≡ true = sym (ap is_some z) ∙ had.0 in cc), λ z. refl);
  waits = λ z. refl;
  greets = λ z. absurd (let y : true ≡ false = sym kept ∙ not_kept s.agreed c k r.agreed z in cc);
}

pub next_told : (c : Config) (s : Session) (k : List EndEvent) (last : ℕ) → Remembers c s k → s.number ≡ Some last → min (last + 1) most_of_64_bits ≡ as_told (link_count k)
next_told c s k last r e = let had = had_first c s k last r e in let some = some_counted k had.0 in let is = had.1 in omega arith
