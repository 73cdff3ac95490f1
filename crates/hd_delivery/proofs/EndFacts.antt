-- What holds of each history that one end can make.
use Rattle.std.proofs.Common.{⊎_elim, ◌≡◌, ℕ, suc, max, ◌+◌, ◌<◌, ◌≤◌, Bool, true, false, List, [], ◌∷◌, ◌++◌, length, take, Option, Some, None, refl, sym, ap, ◌∙◌, subst, arith, length-append}
use Rattle.std.specs.Prelude.{slice_get, ◌==◌, ◌||◌, ◌&&◌, if◌then◌else◌}
use Rattle.std.proofs.lemmas.Bool.{or_cases, eqb-true, eq-eqb, ne_eqb, cases_lt}
use Rattle.hm_message.specs.declared.message.Message.{Message}
use Rattle.hm_message.specs.declared.message.Codec.{Codec}
use Rattle.hd_delivery.specs.declared.vocabulary.Got.{Got}
use Rattle.hd_delivery.specs.declared.vocabulary.Got.TheVariants as gives
use Rattle.hd_delivery.specs.declared.vocabulary.Got.TheVariants.{Shaken, Acked, Resumed}
use Rattle.hd_delivery.specs.declared.vocabulary.Side.TheVariants.{Client}
use Rattle.hd_delivery.specs.declared.vocabulary.Reason.{Reason}
use Rattle.hd_delivery.specs.Numbers.{most_messages}
use Rattle.hd_delivery.specs.Frames.{LinkFrame, Numbered}
use Rattle.hd_delivery.specs.Histories.{Config, EndEvent, Attached, Detached, Fed, Took, Failed, Sent, Lent, Ticked, Silenced, Closed, Fault, is_this, first_of, present_link, stands_on, was_on, first_link, link_count, fed_frames, taken_count, read_frames, sent_messages, processed_messages, acked_count, written_place, most_lent, is_shaken, agreed_version, codec_of, can_keep, is_resumable, is_closed}
use Rattle.hd_delivery.specs.Due.{farewell, answer, due}
use Rattle.hd_delivery.specs.Processes.{next_number, next_frame, processes}
use Rattle.hd_delivery.specs.Worlds.{Limits, Sizes, MayBegin, MaySend, MayDo}
use Rattle.hd_delivery.specs.Bytes.{codec_after}
use Rattle.hd_delivery.specs.HistoryLaws.{HistoryFacts}
use Rattle.hd_delivery.proofs.Lists.{take_next, take_front, get_front, get_within}
use Rattle.hd_delivery.proofs.Local.{is_this-true, is_this-same, both, here_was, none_was, kept_shaken, first_was}
use Rattle.hd_delivery.proofs.WhatIsRead.{read_step}
use Rattle.hd_delivery.proofs.OverBytes.{own_codec}
use Rattle.hd_delivery.proofs.DueNext.{next_is_due, due_is_there}
use Rattle.hd_delivery.proofs.Makes.{IsLegible, Gave, Made, makes}

-- each frame could be read
abbrev pub AreLegible : List LinkFrame → Type 0
AreLegible [] = Unit {0}
AreLegible (t ∷ ts) = IsLegible t × AreLegible ts

legible_push : (ts : List LinkFrame) (t : LinkFrame) → AreLegible ts → IsLegible t → AreLegible (ts ++ t ∷ [])
legible_push [] t a b = (b, tt)
legible_push (u ∷ ts) t a b = (a.0, legible_push ts t a.1 b)

-- the first frame of the first link, and the codec that it gave
abbrev pub Begun : Config → List EndEvent → ℕ → Type 0
Begun c h l = (t : LinkFrame) × (slice_get (fed_frames l h) 0 ≡ Some t) × (codec_of c h ≡ codec_after c.codec t)

-- a closed end deals with no frame
pub processes_open : (c : Config) (h : List EndEvent) (s : EndEvent) → processes c h ≡ Some s → is_closed c h ≡ false
processes_open c h s e = go (is_closed c h) e
  where
    go : (b : Bool) → (if b then None else next_frame c h (present_link h)) ≡ Some s → b ≡ false
    go true f = absurd (cc)
    go false f = refl

-- a first link is counted
counted : (h : List EndEvent) (l : ℕ) → first_link h ≡ Some l → 0 < link_count h
counted [] l e = absurd (cc)
counted (Attached k now ∷ h) l e = omega arith
counted (_ ∷ h) l e = counted h l e

-- what the handshake says of keeping, and what stands before it
by_version : (c : Config) (h : List EndEvent) → is_resumable c h ≡ (c.reconnect && can_keep (agreed_version h))
by_version c [] = never c.reconnect
  where
    never : (b : Bool) → false ≡ (b && false)
    never true = refl
    never false = refl
by_version c (Took (Shaken codec version) ∷ h) = refl
by_version c (_ ∷ h) = by_version c h

no_version : (h : List EndEvent) → is_shaken h ≡ false → agreed_version h ≡ 0
no_version [] e = refl
no_version (Took (Shaken codec version) ∷ h) e = absurd (cc)
no_version (_ ∷ h) e = no_version h e

-- what holds of one end
abbrev pub Known : Config → List EndEvent → Type 0
Known c h = record {
  acks : acked_count h ≤ most_lent h;
  sends : length (sent_messages h) ≤ most_messages;
  lends : most_lent h ≤ length (sent_messages h);
  writes : written_place h ≤ most_lent h;
  few : length (processed_messages h) ≤ most_messages;
  within : (l : ℕ) → taken_count l h ≤ length (fed_frames l h);
  one_link : is_resumable c h ≡ false → link_count h ≤ 1;
  unacked : is_resumable c h ≡ false → acked_count h ≡ 0;
  written : is_resumable c h ≡ false → written_place h ≡ most_lent h;
  unlinked : first_link h ≡ None → (most_lent h ≡ 0) × (link_count h ≡ 0);
  alone : (l : ℕ) → present_link h ≡ Some l → is_this l (first_link h) ≡ (link_count h == 1);
  unsent : is_shaken h ≡ false → sent_messages h ≡ [];
  unheard : is_shaken h ≡ false → processed_messages h ≡ [];
  first : is_shaken h ≡ false → (l : ℕ) → was_on l h ≡ true → first_link h ≡ Some l;
  untaken : is_shaken h ≡ false → is_closed c h ≡ false → (l : ℕ) → taken_count l h ≡ 0;
  taken : is_shaken h ≡ true → (l : ℕ) × (first_link h ≡ Some l) × (0 < taken_count l h);
  codec : c.side ≡ Client → codec_of c h ≡ c.codec;
  version : c.side ≡ Client → is_shaken h ≡ true → agreed_version h ≡ c.version;
  farewell : is_closed c h ≡ false → farewell h ≡ None;
  answer : is_closed c h ≡ false → answer h ≡ None;
  legible : is_closed c h ≡ false → (l : ℕ) → AreLegible (read_frames l h);
  begun : is_shaken h ≡ true → (l : ℕ) → first_link h ≡ Some l → Begun c h l;
}

start : (c : Config) → Known c []
start c = record {
  acks = omega arith;
  sends = omega arith;
  lends = omega arith;
  writes = omega arith;
  few = omega arith;
  within = λ l. omega arith;
  one_link = λ e. omega arith;
  unacked = λ e. refl;
  written = λ e. refl;
  unlinked = λ e. (refl, refl);
  alone = λ l e. absurd (cc);
  unsent = λ e. refl;
  unheard = λ e. refl;
  first = λ e l f. absurd (cc);
  untaken = λ e f l. refl;
  taken = λ e. absurd (cc);
  codec = λ e. refl;
  version = λ e f. absurd (cc);
  farewell = λ e. refl;
  answer = λ e. refl;
  legible = λ e l. tt;
  begun = λ e. absurd (cc);
}

module _ (c : Config) (h : List EndEvent) (i : Known c h) where
  attached : (l now : ℕ) → MayBegin c h l now → Known c (Attached l now ∷ h)
  attached l now a = record {
    acks = i.acks;
    sends = i.sends;
    lends = i.lends;
    writes = omega arith;
    few = i.few;
    within = i.within;
    one_link = λ e. let n = (i.unlinked (none e)).1 in omega arith;
    unacked = i.unacked;
    written = λ e. sym (i.unlinked (none e)).0;
    unlinked = λ e. absurd (never (first_link h) e);
    alone = λ k e. let same : l ≡ k = cc in subst (λ k. is_this k (first_of (first_link h) (Some l)) ≡ (suc (link_count h) == 1)) same (alone_there (first_link h) refl);
    unsent = i.unsent;
    unheard = i.unheard;
    first = λ s k w. let f = unshaken s in rw f (first_here k f w);
    untaken = i.untaken;
    taken = λ s. let p = i.taken s in (p.0, rw p.1 refl, p.2);
    codec = i.codec;
    version = i.version;
    farewell = i.farewell;
    answer = i.answer;
    legible = i.legible;
    begun = λ s k e. let p = i.taken s in i.begun s k (let f : first_of (first_link h) (Some l) ≡ first_link h = rw p.1 refl in sym f ∙ e);
  }
    where
      none : is_resumable c h ≡ false → first_link h ≡ None
      none e = ⊎_elim (λ f. f) (λ f. absurd (cc)) a.granted

      unshaken : is_shaken h ≡ false → first_link h ≡ None
      unshaken s = ⊎_elim (λ f. f) (λ f. let z = kept_shaken c h f in absurd (cc)) a.granted

      alone_there : (o : Option ℕ) → first_link h ≡ o → is_this l (first_of o (Some l)) ≡ (suc (link_count h) == 1)
      alone_there None e = let n = (i.unlinked e).1 in eq-eqb l l refl ∙ sym (eq-eqb (suc (link_count h)) 1 (omega arith))
      alone_there (Some j) e =
          let some = counted h j e in
          ne_eqb l j (λ same. absurd (let w = subst (λ j. was_on j h ≡ true) (sym same) (first_was h j e) in let u = a.unused in cc)) ∙ sym (ne_eqb (suc (link_count h)) 1 (λ one. absurd (omega arith)))

      never : (o : Option ℕ) → first_of o (Some l) ≡ None → ⊥
      never None e = cc
      never (Some k) e = cc

      first_here : (k : ℕ) → first_link h ≡ None → ((k == l) || was_on k h) ≡ true → Some l ≡ Some k
      first_here k f w = ap Some (⊎_elim (λ e. sym (eqb-true k l e)) (λ e. let n = none_was k h f in absurd (cc)) (or_cases (k == l) (was_on k h) w))

  -- an end that isn't closed by the loss of its link wasn't closed before
  still_open : (now : ℕ) → is_closed c (Detached now ∷ h) ≡ false → is_closed c h ≡ false
  still_open now e = go (is_resumable c h) e
    where
      go : (b : Bool) → (if b then is_closed c h else true) ≡ false → is_closed c h ≡ false
      go true f = f
      go false f = absurd (cc)

  detached : (now : ℕ) → Known c (Detached now ∷ h)
  detached now = record {
    acks = i.acks;
    sends = i.sends;
    lends = i.lends;
    writes = i.writes;
    few = i.few;
    within = i.within;
    one_link = i.one_link;
    unacked = i.unacked;
    written = i.written;
    unlinked = i.unlinked;
    alone = λ l e. absurd (cc);
    unsent = i.unsent;
    unheard = i.unheard;
    first = i.first;
    untaken = λ s e. i.untaken s (still_open now e);
    taken = i.taken;
    codec = i.codec;
    version = i.version;
    farewell = λ e. i.farewell (still_open now e);
    answer = λ e. i.answer (still_open now e);
    legible = λ e. i.legible (still_open now e);
    begun = i.begun;
  }

  fed : (piece : List LinkFrame) → Known c (Fed piece ∷ h)
  fed piece = record {
    acks = i.acks;
    sends = i.sends;
    lends = i.lends;
    writes = i.writes;
    few = i.few;
    within = λ k. both (λ ts. taken_count k h ≤ length ts) (stands_on k h) (fed_frames k h ++ piece) (fed_frames k h) (λ e. omega (arith, length-append (fed_frames k h) piece, i.within k)) (λ e. i.within k);
    one_link = i.one_link;
    unacked = i.unacked;
    written = i.written;
    unlinked = i.unlinked;
    alone = i.alone;
    unsent = i.unsent;
    unheard = i.unheard;
    first = i.first;
    untaken = i.untaken;
    taken = i.taken;
    codec = i.codec;
    version = i.version;
    farewell = i.farewell;
    answer = i.answer;
    legible = λ e k. both (λ ts. AreLegible (take (taken_count k h) ts)) (stands_on k h) (fed_frames k h ++ piece) (fed_frames k h)
        (λ f. rw (take_front (fed_frames k h) piece (taken_count k h) (i.within k)) (i.legible e k)) (λ f. i.legible e k);
    begun = λ s k e. let p = i.begun s k e in
        (p.0, both (λ ts. slice_get ts 0 ≡ Some p.0) (stands_on k h) (fed_frames k h ++ piece) (fed_frames k h) (λ f. get_front (fed_frames k h) piece 0 p.0 p.1) (λ f. p.1), p.2);
  }

  -- how many frames were dealt with, after one more of the link where the end stands
  one_more_within : (l k : ℕ) (t : LinkFrame) → present_link h ≡ Some l → slice_get (fed_frames l h) (taken_count l h) ≡ Some t
      → (if stands_on k h then suc (taken_count k h) else taken_count k h) ≤ length (fed_frames k h)
  one_more_within l k t at next = both (λ n. n ≤ length (fed_frames k h)) (stands_on k h) (suc (taken_count k h)) (taken_count k h)
      (λ e. let f = is_this-true k (present_link h) e in let g : l ≡ k = cc in
      subst (λ j. suc (taken_count j h) ≤ length (fed_frames j h)) g (get_within (fed_frames l h) (taken_count l h) t next))
      (λ e. i.within k)

  more_taken : (k : ℕ) → taken_count k h ≤ (if stands_on k h then suc (taken_count k h) else taken_count k h)
  more_taken k = both (λ n. taken_count k h ≤ n) (stands_on k h) (suc (taken_count k h)) (taken_count k h) (λ e. omega arith) (λ e. omega arith)

  failed : (fault : Fault) → processes c h ≡ Some (Failed fault) → Known c (Failed fault ∷ h)
  failed fault made =
      let p = read_step c h (Failed fault) made in
      record {
        acks = i.acks;
        sends = i.sends;
        lends = i.lends;
        writes = i.writes;
        few = i.few;
        within = λ k. one_more_within p.0 k p.1 p.2 p.3;
        one_link = i.one_link;
        unacked = i.unacked;
        written = i.written;
        unlinked = i.unlinked;
        alone = i.alone;
        unsent = i.unsent;
        unheard = i.unheard;
        first = i.first;
        untaken = λ s e. absurd (cc);
        taken = λ s. let q = i.taken s in (q.0, q.1, let m = more_taken q.0 in omega (arith, q.2));
        codec = i.codec;
        version = i.version;
        farewell = λ e. absurd (cc);
        answer = λ e. absurd (cc);
        legible = λ e. absurd (cc);
        begun = i.begun;
      }

  sent : (limits : Limits) (sizes : Sizes) (m : Message) → MaySend limits sizes c h m → Known c (Sent m ∷ h)
  sent limits sizes m a = record {
    acks = i.acks;
    sends = let f = a.few in rw (length-append (sent_messages h) (m ∷ [])) (omega arith);
    lends = omega (arith, length-append (sent_messages h) (m ∷ []), i.lends);
    writes = i.writes;
    few = i.few;
    within = i.within;
    one_link = i.one_link;
    unacked = i.unacked;
    written = i.written;
    unlinked = i.unlinked;
    alone = i.alone;
    unsent = λ e. let s = a.shakes in absurd (cc);
    unheard = i.unheard;
    first = i.first;
    untaken = i.untaken;
    taken = i.taken;
    codec = i.codec;
    version = i.version;
    farewell = i.farewell;
    answer = i.answer;
    legible = i.legible;
    begun = i.begun;
  }

  lent_message : (m : Message) → due c h ≡ Some (Numbered m) → Known c (Lent (Numbered m) ∷ h)
  lent_message m a =
      let n = get_within (sent_messages h) (max (acked_count h) (written_place h)) m (next_is_due c h m a) in
      record {
        acks = omega (arith, i.acks);
        sends = i.sends;
        lends = omega (arith, i.lends);
        writes = omega arith;
        few = i.few;
        within = i.within;
        one_link = i.one_link;
        unacked = i.unacked;
        written = λ e. let w = i.written e in omega (arith, i.acks);
        unlinked = λ e. absurd (linked e);
        alone = i.alone;
        unsent = i.unsent;
        unheard = i.unheard;
        first = i.first;
        untaken = i.untaken;
        taken = i.taken;
        codec = i.codec;
        version = i.version;
        farewell = i.farewell;
        answer = i.answer;
        legible = i.legible;
        begun = i.begun;
      }
    where
      linked : first_link h ≡ None → ⊥
      linked e =
          let p = due_is_there c h (Numbered m) a in
          let w = here_was p.0 h p.1 in
          let v = none_was p.0 h e in
          cc

  lent : (f : LinkFrame) → due c h ≡ Some f → Known c (Lent f ∷ h)
  lent (Numbered m) a = lent_message m a
  lent f a = i

  closed : (reason : Reason) (allow : Bool) → Known c (Closed reason allow ∷ h)
  closed reason allow = record {
    acks = i.acks;
    sends = i.sends;
    lends = i.lends;
    writes = i.writes;
    few = i.few;
    within = i.within;
    one_link = i.one_link;
    unacked = i.unacked;
    written = i.written;
    unlinked = i.unlinked;
    alone = i.alone;
    unsent = i.unsent;
    unheard = i.unheard;
    first = i.first;
    untaken = λ s e. absurd (cc);
    taken = i.taken;
    codec = i.codec;
    version = i.version;
    farewell = λ e. absurd (cc);
    answer = λ e. absurd (cc);
    legible = λ e. absurd (cc);
    begun = i.begun;
  }

  -- a frame was taken
  module _ (l : ℕ) (t : LinkFrame) (at : present_link h ≡ Some l) (next : slice_get (fed_frames l h) (taken_count l h) ≡ Some t) where
    here : was_on l h ≡ true
    here = here_was l h at

    read_on : IsLegible t → is_closed c h ≡ false → (k : ℕ) → AreLegible (take (if stands_on k h then suc (taken_count k h) else taken_count k h) (fed_frames k h))
    read_on w e k = both (λ n. AreLegible (take n (fed_frames k h))) (stands_on k h) (suc (taken_count k h)) (taken_count k h)
        (λ s. let f = is_this-true k (present_link h) s in let g : l ≡ k = cc in
        subst (λ j. AreLegible (take (suc (taken_count j h)) (fed_frames j h))) g
        (rw (take_next (fed_frames l h) (taken_count l h) t next) (legible_push (read_frames l h) t (i.legible e l) w)))
        (λ s. i.legible e k)

    -- the handshake
    shaken : (codec : Codec) (version : ℕ) → is_closed c h ≡ false → IsLegible t → Gave c h t (Shaken codec version) → Known c (Took (Shaken codec version) ∷ h)
    shaken codec version opened w g = record {
      acks = i.acks;
      sends = i.sends;
      lends = i.lends;
      writes = i.writes;
      few = i.few;
      within = λ k. one_more_within l k t at next;
      one_link = λ e. i.one_link plain;
      unacked = λ e. i.unacked plain;
      written = λ e. i.written plain;
      unlinked = i.unlinked;
      alone = i.alone;
      unsent = λ e. absurd (cc);
      unheard = λ e. absurd (cc);
      first = λ e. absurd (cc);
      untaken = λ e. absurd (cc);
      taken = λ e. (l, first_is, rw (is_this-same l (present_link h) at) (omega arith));
      codec = g.2;
      version = λ e f. g.3 e;
      farewell = i.farewell;
      answer = i.answer;
      legible = λ e. read_on w e;
      begun = λ e k f. let same : l ≡ k = (let f' : Some l ≡ Some k = sym first_is ∙ f in cc) in
          (t, subst (λ j. slice_get (fed_frames j h) 0 ≡ Some t) same (subst (λ n. slice_get (fed_frames l h) n ≡ Some t) (i.untaken g.0 opened l) next), g.1);
    }
      where
        plain : is_resumable c h ≡ false
        plain = go (is_resumable c h) refl
          where
            go : (b : Bool) → is_resumable c h ≡ b → b ≡ false
            go true e = let z = kept_shaken c h e in let s : is_shaken h ≡ false = g.0 in absurd (cc)
            go false e = refl

        first_is : first_link h ≡ Some l
        first_is = i.first g.0 l here

    -- what holds after another frame, but for the counts that it may change
    abbrev Later : Got → Type 0
    Later got = record {
      within : (l : ℕ) → taken_count l (Took got ∷ h) ≤ length (fed_frames l h);
      untaken : is_shaken h ≡ false → is_closed c h ≡ false → (l : ℕ) → taken_count l (Took got ∷ h) ≡ 0;
      taken : is_shaken h ≡ true → (l : ℕ) × (first_link h ≡ Some l) × (0 < taken_count l (Took got ∷ h));
      legible : is_closed c h ≡ false → (l : ℕ) → AreLegible (read_frames l (Took got ∷ h));
    }

    later : (got : Got) → is_shaken h ≡ true → IsLegible t → Later got
    later got s w = record {
      within = λ k. one_more_within l k t at next;
      untaken = λ e. absurd (cc);
      taken = λ e. let q = i.taken e in (q.0, q.1, let m = more_taken q.0 in omega (arith, q.2));
      legible = λ e. read_on w e;
    }

    -- more of what this end sent was processed
    told : (n : ℕ) → IsLegible t → Gave c h t (Acked n) → Known c (Took (Acked n) ∷ h)
    told n w g =
        let r = later (Acked n) g.0 w in
        let k = g.1 in
        record {
          acks = omega (arith, i.acks, g.2);
          sends = i.sends;
          lends = i.lends;
          writes = i.writes;
          few = i.few;
          within = r.within;
          one_link = i.one_link;
          unacked = λ e. absurd (cc);
          written = i.written;
          unlinked = i.unlinked;
          alone = i.alone;
          unsent = i.unsent;
          unheard = i.unheard;
          first = i.first;
          untaken = r.untaken;
          taken = r.taken;
          codec = i.codec;
          version = i.version;
          farewell = i.farewell;
          answer = i.answer;
          legible = r.legible;
          begun = i.begun;
        }

    -- a message of the other end's was processed
    processed : (m : Message) → IsLegible t → Gave c h t (gives.Message m) → Known c (Took (gives.Message m) ∷ h)
    processed m w g =
        let r = later (gives.Message m) g.0 w in
        record {
          acks = i.acks;
          sends = i.sends;
          lends = i.lends;
          writes = i.writes;
          few = rw (length-append (processed_messages h) (m ∷ [])) (at_most (length (processed_messages h)) i.few g.1);
          within = r.within;
          one_link = i.one_link;
          unacked = i.unacked;
          written = i.written;
          unlinked = i.unlinked;
          alone = i.alone;
          unsent = i.unsent;
          unheard = λ e. let s = g.0 in absurd (cc);
          first = i.first;
          untaken = r.untaken;
          taken = r.taken;
          codec = i.codec;
          version = i.version;
          farewell = i.farewell;
          answer = i.answer;
          legible = r.legible;
          begun = i.begun;
        }
      where
        at_most : (n : ℕ) → n ≤ most_messages → (n ≡ most_messages → ⊥) → n + 1 ≤ most_messages
        at_most n le ne = ⊎_elim (λ lt. omega arith) (λ ge. absurd (ne (omega arith))) (cases_lt n most_messages)

    -- the other end closed the connection
    ended : (error : Option (List ℕ)) (allow : Bool) → IsLegible t → is_shaken h ≡ true → Known c (Took (gives.Closed error allow) ∷ h)
    ended error allow w s =
        let r = later (gives.Closed error allow) s w in
        record {
          acks = i.acks;
          sends = i.sends;
          lends = i.lends;
          writes = i.writes;
          few = i.few;
          within = r.within;
          one_link = i.one_link;
          unacked = i.unacked;
          written = i.written;
          unlinked = i.unlinked;
          alone = i.alone;
          unsent = i.unsent;
          unheard = i.unheard;
          first = i.first;
          untaken = λ e f. absurd (cc);
          taken = r.taken;
          codec = i.codec;
          version = i.version;
          farewell = λ e. absurd (cc);
          answer = λ e. absurd (cc);
          legible = λ e. absurd (cc);
          begun = i.begun;
        }

    took : is_closed c h ≡ false → (got : Got) → IsLegible t → Gave c h t got → Known c (Took got ∷ h)
    took opened (Shaken codec version) w g = shaken codec version opened w g
    took opened (gives.Message m) w g = processed m w g
    took opened (Acked n) w g = told n w g
    took opened (Resumed first n) w g = told n w g
    took opened (gives.Closed error allow) w g = ended error allow w g
    took opened got w g =
        let r = later got g w in
        record {
          acks = i.acks;
          sends = i.sends;
          lends = i.lends;
          writes = i.writes;
          few = i.few;
          within = r.within;
          one_link = i.one_link;
          unacked = i.unacked;
          written = i.written;
          unlinked = i.unlinked;
          alone = i.alone;
          unsent = i.unsent;
          unheard = i.unheard;
          first = i.first;
          untaken = r.untaken;
          taken = r.taken;
          codec = i.codec;
          version = i.version;
          farewell = i.farewell;
          answer = i.answer;
          legible = r.legible;
          begun = i.begun;
        }

-- by each step
step : (limits : Limits) (sizes : Sizes) (c : Config) (h : List EndEvent) → Known c h → (s : EndEvent) → MayDo limits sizes c h s → Known c (s ∷ h)
step limits sizes c h i (Attached l now) a = attached c h i l now a
step limits sizes c h i (Detached now) a = detached c h i now
step limits sizes c h i (Silenced now) a = detached c h i now
step limits sizes c h i (Fed piece) a = fed c h i piece
step limits sizes c h i (Took got) a =
    let p = read_step c h (Took got) a in
    let m = subst (Made c h p.1) p.4 (makes c h (next_number c h p.0) p.1) in
    took c h i p.0 p.1 p.2 p.3 (processes_open c h (Took got) a) got m.0 m.1
step limits sizes c h i (Failed fault) a = failed c h i fault a
step limits sizes c h i (Sent m) a = sent c h i limits sizes m a
step limits sizes c h i (Lent f) a = lent c h i f a
step limits sizes c h i (Ticked now) a = i
step limits sizes c h i (Closed reason allow) a = closed c h i reason allow

-- each step was allowed after those before it, as far as one end says
abbrev pub IsHistoryInFrames : Limits → Sizes → Config → List EndEvent → Type 0
IsHistoryInFrames limits sizes c [] = Unit {0}
IsHistoryInFrames limits sizes c (s ∷ h) = IsHistoryInFrames limits sizes c h × MayDo limits sizes c h s

-- what holds of each history
pub known : (limits : Limits) (sizes : Sizes) (c : Config) (h : List EndEvent) → IsHistoryInFrames limits sizes c h → Known c h
known limits sizes c [] a = start c
known limits sizes c (s ∷ h) a = step limits sizes c h (known limits sizes c h a.0) s a.1

-- that in the words of the law
pub facts : (c : Config) (h : List EndEvent) → Known c h → HistoryFacts c h
facts c h i = record {
  sent_are_few = i.sends;
  acked_were_lent = i.acks;
  lent_were_sent = i.lends;
  written_were_lent = i.writes;
  processed_are_few = i.few;
  taken_were_fed = i.within;
  is_where_it_was = λ l e. here_was l h e;
  first_is_only = i.alone;
  plain_has_one_link = i.one_link;
  plain_is_unacked = i.unacked;
  plain_is_written = i.written;
  kept_by_version = by_version c h;
  unshaken_has_no_version = no_version h;
  unshaken_has_its_codec = own_codec c h;
  unshaken_is_plain = λ e. plain (is_resumable c h) refl e;
  unshaken_sent_none = i.unsent;
  unshaken_processed_none = i.unheard;
  unshaken_is_on_first = λ s l e. i.first s l (here_was l h e);
  unshaken_took_none = i.untaken;
  shaken_took_some = λ s l e. let p = i.taken s in let same : p.0 ≡ l = (let z : Some p.0 ≡ Some l = sym p.1 ∙ e in cc) in subst (λ k. 0 < taken_count k h) same p.2;
  client_has_its_codec = i.codec;
  client_has_its_version = i.version;
  unclosed_has_no_farewell = i.farewell;
  unclosed_has_no_answer = i.answer;
}
  where
    plain : (b : Bool) → is_resumable c h ≡ b → is_shaken h ≡ false → b ≡ false
    plain true e s = let z = kept_shaken c h e in absurd (cc)
    plain false e s = refl
