-- What holds of two ends in every world, but for the runs of version 3.
use Rattle.std.proofs.Common.{inl, inr, ⊎_elim, ◌≡◌, ℕ, suc, ◌+◌, ◌<◌, ◌≤◌, Bool, true, false, List, [], ◌∷◌, ◌++◌, length, take, Option, Some, None, refl, sym, ap, ◌∙◌, subst, arith, ◌^◌, length-append}
use Rattle.std.specs.Prelude.{slice_get, ◌⊎◌, max, ◌==◌, ◌||◌}
use Rattle.std.proofs.lemmas.Bool.{or_cases, eqb-true}
use Rattle.hm_message.specs.declared.message.Message.{Message}
use Rattle.hd_delivery.specs.declared.vocabulary.Got.{Got}
use Rattle.hd_delivery.specs.declared.vocabulary.Side.{Side}
use Rattle.hd_delivery.specs.declared.vocabulary.Side.TheVariants.{Client, Server}
use Rattle.hd_delivery.specs.Frames.{LinkFrame, Request, Response, Refusal, Numbered, Ack, Sequence, Ping, Close, Foreign, Strange, Unreadable, count, number, told_count, most_told}
use Rattle.hd_delivery.specs.Histories.{EndEvent, Attached, Detached, Fed, Took, Sent, Lent, first_of, present_link, stands_on, was_on, first_link, fed_frames, lent_frames, taken_count, read_frames, sent_messages, processed_messages, acked_count, written_place, most_lent, is_shaken, agreed_version, is_three, codec_of, is_resumable, is_resumed}
use Rattle.hd_delivery.specs.Due.{answer}
use Rattle.hd_facts.specs.Prefixes.{IsPrefix}
use Rattle.hd_delivery.specs.Worlds.{Terms, config, IsFaultless, SkipsNone}
use Rattle.hd_delivery.proofs.Lists.{take_next, take_front, get_front, get_within, append_none, prefix_more}
use Rattle.hd_delivery.proofs.Local.{is_this-true, is_this-same, both, or_parts, or_right, here_was, nothing_lent, nothing_taken, has_first, none_was, lent_was, kept_shaken}
use Rattle.hd_delivery.proofs.Carries.{Facts, uses, facts, MayStand, MayCarry, MayCarry-at, MayCarry-push, MayCarry-prefix, MayCarry-more, number-push, most_told-push}

-- the messages among these frames
abbrev pub messages : List LinkFrame → List Message
messages [] = []
messages (Numbered m ∷ ts) = m ∷ messages ts
messages (_ ∷ ts) = messages ts

abbrev pub is_seq : LinkFrame → Bool
is_seq (Sequence s received) = true
is_seq _ = false

-- the last place lent on a link stands below the number that the other end gives to the next message, and that is at most the next place
abbrev pub Placed : Option ℕ → ℕ → ℕ → Type 0
Placed None place ack = place ≡ 0
Placed (Some n) place ack = (place < n) × (n ≤ suc (max ack place))

Placed_more : (n : Option ℕ) (place ack more : ℕ) → ack ≤ more → Placed n place ack → Placed n place more
Placed_more None place ack more h p = p
Placed_more (Some n) place ack more h p = (p.0, omega (arith, p.1))

-- what holds of one end
abbrev pub Own : Side → Terms → List EndEvent → Type 0
Own side terms h = record {
  one_link : is_shaken h ≡ false → (l : ℕ) → was_on l h ≡ true → first_link h ≡ Some l;
  later : (l : ℕ) → was_on l h ≡ true → (first_link h ≡ Some l) ⊎ (uses terms ≡ true);
  none_taken : is_shaken h ≡ false → (l : ℕ) → taken_count l h ≡ 0;
  some_taken : is_shaken h ≡ true → (l : ℕ) × (first_link h ≡ Some l) × (0 < taken_count l h);
  unsent : is_shaken h ≡ false → sent_messages h ≡ [];
  unheard : is_shaken h ≡ false → (processed_messages h ≡ []) × (acked_count h ≡ 0);
  keeping : is_shaken h ≡ true → is_resumable (config side terms) h ≡ uses terms;
  version : is_shaken h ≡ true → agreed_version h ≡ terms.version;
  speaks : is_shaken h ≡ true → codec_of (config side terms) h ≡ terms.codec;
  plain : uses terms ≡ false → acked_count h ≡ 0;
  faultless : IsFaultless h;
  unskipped : (terms.version == 3) ≡ true → SkipsNone h;
  lent_sent : most_lent h ≤ length (sent_messages h);
  few : length (sent_messages h) ≤ 2 ^ 62;
  within : (l : ℕ) → taken_count l h ≤ length (fed_frames l h);
  placed : (terms.version == 3) ≡ false → (l : ℕ) → present_link h ≡ Some l → Placed (number (lent_frames l h)) (written_place h) (acked_count h);
  untold : (l : ℕ) → present_link h ≡ Some l → messages (lent_frames l h) ≡ [] → written_place h ≡ 0;
  unwritten : (terms.version == 3) ≡ true → (l : ℕ) → present_link h ≡ Some l → (first_link h ≡ Some l → ⊥) → is_resumed h ≡ false → messages (lent_frames l h) ≡ [];
  resumes : (terms.version == 3) ≡ true → (l n : ℕ) → present_link h ≡ Some l → number (read_frames l h) ≡ Some n → (first_link h ≡ Some l) ⊎ (is_resumed h ≡ true);
  resumed_read : (l : ℕ) → present_link h ≡ Some l → is_resumed h ≡ true → 0 < taken_count l h;
}

-- what holds of an end that writes and one that reads
abbrev pub Way : Side → Terms → List EndEvent → List EndEvent → Type 0
Way side terms x y = record {
  good : (l : ℕ) → MayCarry (facts side terms x y) l None (lent_frames l x);
  in_order : IsPrefix (processed_messages y) (sent_messages x);
  most : length (processed_messages y) ≤ most_lent x;
  acks : acked_count x ≤ length (processed_messages y);
  feeds : (l : ℕ) → IsPrefix (fed_frames l y) (lent_frames l x);
  numbers : (l n : ℕ) → present_link y ≡ Some l → number (read_frames l y) ≡ Some n → n ≤ suc (length (processed_messages y));
  exact : uses terms ≡ false → (l n : ℕ) → present_link y ≡ Some l → number (read_frames l y) ≡ Some n → n ≡ suc (length (processed_messages y));
  heard : (l : ℕ) → most_told (read_frames l y) ≤ acked_count y;
}

abbrev pub other : Side → Side
other Client = Server
other Server = Client

abbrev pub Pair : Side → Terms → List EndEvent → List EndEvent → Type 0
Pair side terms x y = record {
  own : Own side terms x;
  its : Own (other side) terms y;
  to : Way side terms x y;
  from : Way (other side) terms y x;
  agree : (k l : ℕ) → first_link x ≡ Some k → first_link y ≡ Some l → k ≡ l;
  met : is_shaken x ≡ true → (k : ℕ) × (first_link y ≡ Some k);
  met_back : is_shaken y ≡ true → (k : ℕ) × (first_link x ≡ Some k);
}

-- the frame t of the link l made this, and it keeps what has to hold
pub record Fit (side : Side) (terms : Terms) (x y : List EndEvent) (l : ℕ) (t : LinkFrame) (got : Got) : Type 0 where
  pub shakes : is_shaken (Took got ∷ x) ≡ true
  pub keeping : is_resumable (config side terms) (Took got ∷ x) ≡ uses terms
  pub version : agreed_version (Took got ∷ x) ≡ terms.version
  pub speaks : codec_of (config side terms) (Took got ∷ x) ≡ terms.codec
  pub plain : uses terms ≡ false → acked_count (Took got ∷ x) ≡ 0
  pub faultless : IsFaultless (Took got ∷ x)
  pub unskipped : (terms.version == 3) ≡ true → SkipsNone (Took got ∷ x)
  pub grows : length (processed_messages x) ≤ length (processed_messages (Took got ∷ x))
  pub in_order : IsPrefix (processed_messages (Took got ∷ x)) (sent_messages y)
  pub most : length (processed_messages (Took got ∷ x)) ≤ most_lent y
  pub acks_grow : acked_count x ≤ acked_count (Took got ∷ x)
  pub acks : acked_count (Took got ∷ x) ≤ length (processed_messages y)
  pub counts : (n : ℕ) → count (number (read_frames l x)) t ≡ Some n → n ≤ suc (length (processed_messages (Took got ∷ x)))
  pub exact : uses terms ≡ false → (n : ℕ) → count (number (read_frames l x)) t ≡ Some n → n ≡ suc (length (processed_messages (Took got ∷ x)))
  pub hears : told_count t ≤ acked_count (Took got ∷ x)
  pub acks_from : acked_count (Took got ∷ x) ≤ max (told_count t) (acked_count x)
  pub takes : (terms.version == 3) ≡ true → length (processed_messages (Took got ∷ x)) ≡ length (processed_messages x) + length (messages (t ∷ []))
  pub resumes : (terms.version == 3) ≡ true → is_resumed (Took got ∷ x) ≡ (is_seq t || is_resumed x)

abbrev pub Makes : Side → Terms → List EndEvent → List EndEvent → ℕ → LinkFrame → EndEvent → Type 0
Makes side terms x y l t s = (got : Got) × (s ≡ Took got) × Fit side terms x y l t got

-- the first frame of a link
pub opening_ok : (F : Facts) (l : ℕ) (t : LinkFrame) → MayStand F l None t → (F.first ≡ Some l) ⊎ (is_seq t ≡ true)
opening_ok F l (Request k v) o = inl o.2
opening_ok F l Response o = inl o.2
opening_ok F l (Numbered m) o = absurd (let a : None ≡ Some o.0.0 = o.0.1 in cc)
opening_ok F l (Ack a) o = absurd (let a : None ≡ Some o.0.0 = o.0.1 in cc)
opening_ok F l (Sequence n received) o = inr refl
opening_ok F l Ping o = absurd (let a : None ≡ Some o.0 = o.1 in cc)
opening_ok F l (Close error allow) o = absurd (let a : None ≡ Some o.0.0 = o.0.1 in cc)
opening_ok F l (Refusal text) o = absurd o
opening_ok F l (Foreign k) o = absurd o
opening_ok F l (Strange why answer) o = absurd o
opening_ok F l (Unreadable at why) o = absurd o

pub most_lent-more : (t : LinkFrame) (h : List EndEvent) → most_lent h ≤ most_lent (Lent t ∷ h)
most_lent-more (Numbered m) h = omega arith
most_lent-more t h = omega arith

pub messages-push : (ts : List LinkFrame) (t : LinkFrame) → messages (ts ++ t ∷ []) ≡ messages ts ++ messages (t ∷ [])
messages-push [] t = refl
messages-push (Numbered m ∷ ts) t = ap (λ ms. m ∷ ms) (messages-push ts t)
messages-push (_ ∷ ts) t = messages-push ts t

not_nothing : (ms : List Message) (m : Message) → ms ++ m ∷ [] ≡ [] → ⊥
not_nothing [] m e = absurd (cc)
not_nothing (n ∷ ms) m e = absurd (cc)

-- a frame that is no message changes neither the messages nor the place
lent_untold : (t : LinkFrame) (x : List EndEvent) (ts : List LinkFrame) → (messages ts ≡ [] → written_place x ≡ 0) → messages ts ++ messages (t ∷ []) ≡ [] → written_place (Lent t ∷ x) ≡ 0
lent_untold (Numbered m) x ts h e = absurd (not_nothing (messages ts) m e)
lent_untold t x ts h e = h (sym (append_none (messages ts)) ∙ e)

pub lent_unwritten : (t : LinkFrame) (ts : List LinkFrame) → ((m : Message) → t ≡ Numbered m → ⊥) → messages ts ≡ [] → messages ts ++ messages (t ∷ []) ≡ []
lent_unwritten (Numbered m) ts h e = absurd (h m refl)
lent_unwritten t ts h e = append_none (messages ts) ∙ e

-- what is due may be said: it may stand on the link, and keeps the places in order
pub record Says (side : Side) (terms : Terms) (x y : List EndEvent) (l : ℕ) (t : LinkFrame) : Type 0 where
  pub ok : MayStand (facts side terms (Lent t ∷ x) y) l (number (lent_frames l x)) t
  pub placed : (terms.version == 3) ≡ false → Placed (count (number (lent_frames l x)) t) (written_place (Lent t ∷ x)) (acked_count x)
  pub lent_sent : most_lent (Lent t ∷ x) ≤ length (sent_messages x)
  pub opens : lent_frames l x ≡ [] → is_seq t ≡ true → (terms.version == 3) ≡ true → told_count t ≡ length (processed_messages x)
  pub sends : (m : Message) → t ≡ Numbered m → (k : ℕ) × (slice_get (sent_messages x) k ≡ Some m)
  pub may : (terms.version == 3) ≡ true → (m : Message) → t ≡ Numbered m → ((first_link x ≡ Some l) ⊎ (is_resumed x ≡ true)) × (slice_get (sent_messages x) (max (acked_count x) (written_place x)) ≡ Some m)

module _ (side : Side) (terms : Terms) (x y : List EndEvent) (i : Pair side terms x y) where
  pub detached : Pair side terms (Detached 0 ∷ x) y
  detached = record {
    own = record {
      one_link = i.own.one_link;
      later = i.own.later;
      none_taken = i.own.none_taken;
      some_taken = i.own.some_taken;
      unsent = i.own.unsent;
      unheard = i.own.unheard;
      keeping = i.own.keeping;
      version = i.own.version;
      speaks = i.own.speaks;
      plain = i.own.plain;
      faultless = i.own.faultless;
      unskipped = i.own.unskipped;
      lent_sent = i.own.lent_sent;
      few = i.own.few;
      within = i.own.within;
      placed = λ b l e. absurd (cc);
      untold = λ l e. absurd (cc);
      unwritten = λ b l e. absurd (cc);
      resumes = λ b l n e. absurd (cc);
      resumed_read = λ l e. absurd (cc);
    };
    its = i.its;
    to = i.to;
    from = record {
      good = i.from.good;
      in_order = i.from.in_order;
      most = i.from.most;
      acks = i.from.acks;
      feeds = i.from.feeds;
      numbers = λ l n e f. absurd (cc);
      exact = λ b l n e f. absurd (cc);
      heard = i.from.heard;
    };
    agree = i.agree;
    met = i.met;
    met_back = i.met_back;
  }

  pub was_sent : (m : Message) → is_shaken x ≡ true → length (sent_messages x) < 2 ^ 62 → Pair side terms (Sent m ∷ x) y
  was_sent m s few = record {
    own = record {
      one_link = i.own.one_link;
      later = i.own.later;
      none_taken = i.own.none_taken;
      some_taken = i.own.some_taken;
      unsent = λ e. absurd (cc);
      unheard = i.own.unheard;
      keeping = i.own.keeping;
      version = i.own.version;
      speaks = i.own.speaks;
      plain = i.own.plain;
      faultless = i.own.faultless;
      unskipped = i.own.unskipped;
      lent_sent = omega (arith, length-append (sent_messages x) (m ∷ []), i.own.lent_sent);
      few = omega (arith, length-append (sent_messages x) (m ∷ []));
      within = i.own.within;
      placed = i.own.placed;
      untold = i.own.untold;
      unwritten = i.own.unwritten;
      resumes = i.own.resumes;
      resumed_read = i.own.resumed_read;
    };
    its = i.its;
    to = record {
      good = λ l. MayCarry-more (facts side terms x y) (facts side terms (Sent m ∷ x) y) l None (lent_frames l x)
          (record { side = refl; codec = refl; version = refl; keeps = refl; first = refl; sent = (m ∷ [], refl); most = omega arith; writer = omega arith; reader = omega arith }) (i.to.good l);
      in_order = prefix_more (processed_messages y) (sent_messages x) (m ∷ []) i.to.in_order;
      most = i.to.most;
      acks = i.to.acks;
      feeds = i.to.feeds;
      numbers = i.to.numbers;
      exact = i.to.exact;
      heard = i.to.heard;
    };
    from = i.from;
    agree = i.agree;
    met = i.met;
    met_back = i.met_back;
  }

  -- what was read stays as it is
  pub same_read : (piece : List LinkFrame) (k : ℕ) → read_frames k (Fed piece ∷ x) ≡ read_frames k x
  same_read piece k = both (λ ts. take (taken_count k x) ts ≡ read_frames k x) (stands_on k x) (fed_frames k x ++ piece) (fed_frames k x) (λ e. take_front (fed_frames k x) piece (taken_count k x) (i.own.within k)) (λ e. refl)

  pub was_fed : (piece : List LinkFrame) (l : ℕ) → present_link x ≡ Some l → IsPrefix (fed_frames l x ++ piece) (lent_frames l y) → Pair side terms (Fed piece ∷ x) y
  was_fed piece l at front = record {
    own = record {
      one_link = i.own.one_link;
      later = i.own.later;
      none_taken = i.own.none_taken;
      some_taken = i.own.some_taken;
      unsent = i.own.unsent;
      unheard = i.own.unheard;
      keeping = i.own.keeping;
      version = i.own.version;
      speaks = i.own.speaks;
      plain = i.own.plain;
      faultless = i.own.faultless;
      unskipped = i.own.unskipped;
      lent_sent = i.own.lent_sent;
      few = i.own.few;
      within = λ k. both (λ ts. taken_count k x ≤ length ts) (stands_on k x) (fed_frames k x ++ piece) (fed_frames k x) (λ e. omega (arith, length-append (fed_frames k x) piece, i.own.within k)) (λ e. i.own.within k);
      placed = i.own.placed;
      untold = i.own.untold;
      unwritten = i.own.unwritten;
      resumes = λ b k n e f. i.own.resumes b k n e (ap number (sym (same_read piece k)) ∙ f);
      resumed_read = i.own.resumed_read;
    };
    its = i.its;
    to = i.to;
    from = record {
      good = i.from.good;
      in_order = i.from.in_order;
      most = i.from.most;
      acks = i.from.acks;
      feeds = λ k. both (λ ts. IsPrefix ts (lent_frames k y)) (stands_on k x) (fed_frames k x ++ piece) (fed_frames k x)
          (λ e. let f = is_this-true k (present_link x) e in let g : l ≡ k = cc in subst (λ j. IsPrefix (fed_frames j x ++ piece) (lent_frames j y)) g front)
          (λ e. i.from.feeds k);
      numbers = λ k n e f. i.from.numbers k n e (ap number (sym (same_read piece k)) ∙ f);
      exact = λ b k n e f. i.from.exact b k n e (ap number (sym (same_read piece k)) ∙ f);
      heard = λ k. subst (λ ts. most_told ts ≤ acked_count x) (sym (same_read piece k)) (i.from.heard k);
    };
    agree = i.agree;
    met = i.met;
    met_back = i.met_back;
  }

  took_some : (got : Got) (l : ℕ) → present_link x ≡ Some l → (k : ℕ) × (first_link x ≡ Some k) × (0 < taken_count k (Took got ∷ x))
  took_some got l at = go (is_shaken x) refl
    where
      go : (b : Bool) → is_shaken x ≡ b → (k : ℕ) × (first_link x ≡ Some k) × (0 < taken_count k (Took got ∷ x))
      go true s = let p = i.own.some_taken s in (p.0, p.1, both (λ n. 0 < n) (stands_on p.0 x) (suc (taken_count p.0 x)) (taken_count p.0 x) (λ e. omega arith) (λ e. p.2))
      go false s = (l, i.own.one_link s l (here_was l x at), both (λ n. 0 < n) (stands_on l x) (suc (taken_count l x)) (taken_count l x) (λ e. omega arith) (λ e. let f = is_this-same l (present_link x) at in absurd (cc)))

  -- the frames that were read, with one more where the end stands
  pub read_on : (got : Got) (l : ℕ) (t : LinkFrame) → present_link x ≡ Some l → slice_get (fed_frames l x) (taken_count l x) ≡ Some t → read_frames l (Took got ∷ x) ≡ read_frames l x ++ t ∷ []
  read_on got l t at next = both (λ k. take k (fed_frames l x) ≡ read_frames l x ++ t ∷ []) (stands_on l x) (suc (taken_count l x)) (taken_count l x)
      (λ e. take_next (fed_frames l x) (taken_count l x) t next)
      (λ e. let f = is_this-same l (present_link x) at in absurd (cc))

  pub read_off : (got : Got) (l k : ℕ) → present_link x ≡ Some l → (k ≡ l → ⊥) → read_frames k (Took got ∷ x) ≡ read_frames k x
  read_off got l k at apart = both (λ n. take n (fed_frames k x) ≡ read_frames k x) (stands_on k x) (suc (taken_count k x)) (taken_count k x)
      (λ e. let f = is_this-true k (present_link x) e in absurd (apart (let g : l ≡ k = cc in sym g)))
      (λ e. refl)

  pub the_fed : (l : ℕ) → MayCarry (facts (other side) terms y x) l None (fed_frames l x)
  the_fed l = MayCarry-prefix (facts (other side) terms y x) l (fed_frames l x) (lent_frames l y) (i.from.feeds l) (i.from.good l)

  pub next_ok : (l : ℕ) (t : LinkFrame) → slice_get (fed_frames l x) (taken_count l x) ≡ Some t → MayStand (facts (other side) terms y x) l (number (read_frames l x)) t
  next_ok l t e = MayCarry-at (facts (other side) terms y x) l None (fed_frames l x) (taken_count l x) t (the_fed l) e

  -- a frame that was fed stands among those that the other end lent
  pub next_lent : (l k : ℕ) (t : LinkFrame) → slice_get (fed_frames l x) k ≡ Some t → slice_get (lent_frames l y) k ≡ Some t
  next_lent l k t e = let p = i.from.feeds l in subst (λ ts. slice_get ts k ≡ Some t) p.1 (get_front (fed_frames l x) p.0 k t e)

  -- where a frame is there to be read, the other end's first link is known
  pub their_first : (l : ℕ) (t : LinkFrame) → slice_get (fed_frames l x) (taken_count l x) ≡ Some t → (k : ℕ) × (first_link y ≡ Some k)
  their_first l t e = has_first l y (lent_was l y (taken_count l x) t (next_lent l (taken_count l x) t e))

  -- a link that is the other end's first one is this end's
  pub same_first : (l : ℕ) → present_link x ≡ Some l → first_link y ≡ Some l → first_link x ≡ Some l
  same_first l at f = let p = has_first l x (here_was l x at) in p.1 ∙ ap Some (i.agree p.0 l p.1 f)

  -- a frame was read, and what it made keeps what has to hold
  pub was_read : (got : Got) (l : ℕ) (t : LinkFrame) → present_link x ≡ Some l → slice_get (fed_frames l x) (taken_count l x) ≡ Some t
      → Fit side terms x y l t got → Pair side terms (Took got ∷ x) y
  was_read got l t at next fit = record {
    own = record {
      one_link = λ e. let s = fit.shakes in absurd (cc);
      later = i.own.later;
      none_taken = λ e. let s = fit.shakes in absurd (cc);
      some_taken = λ e. took_some got l at;
      unsent = λ e. let s = fit.shakes in absurd (cc);
      unheard = λ e. let s = fit.shakes in absurd (cc);
      keeping = λ e. fit.keeping;
      version = λ e. fit.version;
      speaks = λ e. fit.speaks;
      plain = fit.plain;
      faultless = fit.faultless;
      unskipped = fit.unskipped;
      lent_sent = i.own.lent_sent;
      few = i.own.few;
      within = λ k. both (λ n. n ≤ length (fed_frames k x)) (stands_on k x) (suc (taken_count k x)) (taken_count k x)
          (λ e. let f = is_this-true k (present_link x) e in let g : l ≡ k = cc in subst (λ j. suc (taken_count j x) ≤ length (fed_frames j x)) g (get_within (fed_frames l x) (taken_count l x) t next))
          (λ e. i.own.within k);
      placed = λ b k e. Placed_more (number (lent_frames k x)) (written_place x) (acked_count x) (acked_count (Took got ∷ x)) fit.acks_grow (i.own.placed b k e);
      untold = i.own.untold;
      unwritten = λ b k e f g. i.own.unwritten b k e f (or_parts (is_seq t) (is_resumed x) (sym (fit.resumes b) ∙ g)).1;
      resumes = λ b k n e f. let g : l ≡ k = cc in
          subst (λ j. (first_link x ≡ Some j) ⊎ (is_resumed (Took got ∷ x) ≡ true)) g (resumes b (number (read_frames l x)) refl);
      resumed_read = λ k e f. both (λ n. 0 < n) (stands_on k x) (suc (taken_count k x)) (taken_count k x) (λ s. omega arith) (λ s. let g = is_this-same k (present_link x) e in absurd (cc));
    };
    its = i.its;
    to = record {
      good = λ k. MayCarry-more (facts side terms x y) (facts side terms (Took got ∷ x) y) k None (lent_frames k x)
          (record { side = refl; codec = refl; version = refl; keeps = refl; first = refl; sent = ([], append_none (sent_messages x)); most = omega arith; writer = fit.grows; reader = omega arith }) (i.to.good k);
      in_order = i.to.in_order;
      most = i.to.most;
      acks = fit.acks;
      feeds = i.to.feeds;
      numbers = i.to.numbers;
      exact = i.to.exact;
      heard = i.to.heard;
    };
    from = record {
      good = λ k. MayCarry-more (facts (other side) terms y x) (facts (other side) terms y (Took got ∷ x)) k None (lent_frames k y)
          (record { side = refl; codec = refl; version = refl; keeps = refl; first = refl; sent = ([], append_none (sent_messages y)); most = omega arith; writer = omega arith; reader = fit.grows }) (i.from.good k);
      in_order = fit.in_order;
      most = fit.most;
      acks = omega (arith, i.from.acks, fit.grows);
      feeds = i.from.feeds;
      numbers = λ k n e f. let g : l ≡ k = cc in
          let f' : number (read_frames l (Took got ∷ x)) ≡ Some n = subst (λ j. number (read_frames j (Took got ∷ x)) ≡ Some n) (sym g) f in
          fit.counts n (sym (number-push (read_frames l x) t) ∙ (ap number (sym (read_on got l t at next)) ∙ f'));
      exact = λ b k n e f. let g : l ≡ k = cc in
          let f' : number (read_frames l (Took got ∷ x)) ≡ Some n = subst (λ j. number (read_frames j (Took got ∷ x)) ≡ Some n) (sym g) f in
          fit.exact b n (sym (number-push (read_frames l x) t) ∙ (ap number (sym (read_on got l t at next)) ∙ f'));
      heard = λ k. both (λ j. most_told (take j (fed_frames k x)) ≤ acked_count (Took got ∷ x)) (stands_on k x) (suc (taken_count k x)) (taken_count k x)
          (λ e. let f = is_this-true k (present_link x) e in let g : l ≡ k = cc in subst (λ j. most_told (take (suc (taken_count j x)) (fed_frames j x)) ≤ acked_count (Took got ∷ x)) g
          (rw (take_next (fed_frames l x) (taken_count l x) t next) (rw (most_told-push (read_frames l x) t) (omega (arith, i.from.heard l, fit.hears, fit.acks_grow)))))
          (λ e. omega (arith, i.from.heard k, fit.acks_grow));
    };
    agree = i.agree;
    met = λ e. their_first l t next;
    met_back = i.met_back;
  }
    where
      resumes : (terms.version == 3) ≡ true → (o : Option ℕ) → number (read_frames l x) ≡ o → (first_link x ≡ Some l) ⊎ (is_resumed (Took got ∷ x) ≡ true)
      resumes b None e = ⊎_elim (λ f. inl (same_first l at f)) (λ f. inr (fit.resumes b ∙ ap (λ a. a || is_resumed x) f))
          (opening_ok (facts (other side) terms y x) l t (subst (λ o. MayStand (facts (other side) terms y x) l o t) e (next_ok l t next)))
      resumes b (Some n) e = ⊎_elim (λ f. inl f) (λ f. inr (fit.resumes b ∙ or_right (is_seq t) (is_resumed x) f)) (i.own.resumes b l n at e)

  pub three_is : is_shaken x ≡ true → is_three x ≡ (terms.version == 3)
  three_is s = ap (λ w. w == 3) (i.own.version s)

  first_here : (l k : ℕ) → first_link x ≡ None → ((k == l) || was_on k x) ≡ true → Some l ≡ Some k
  first_here l k f w = ap Some (⊎_elim (λ e. sym (eqb-true k l e)) (λ e. let n = none_was k x f in absurd (cc)) (or_cases (k == l) (was_on k x) w))

  pub was_attached : (l : ℕ) → was_on l x ≡ false → (first_link x ≡ None) ⊎ (is_resumable (config side terms) x ≡ true)
      → ((k j : ℕ) → first_of (first_link x) (Some l) ≡ Some k → first_link y ≡ Some j → k ≡ j)
      → Pair side terms (Attached l 0 ∷ x) y
  was_attached l fresh may agree = record {
    own = record {
      one_link = λ s k w. ⊎_elim (λ f. rw f (first_here l k f w)) (λ e. let z = kept_shaken (config side terms) x e in absurd (cc)) may;
      later = λ k w. ⊎_elim (λ f. inl (rw f (first_here l k f w))) (λ e. inr (sym (i.own.keeping (kept_shaken (config side terms) x e)) ∙ e)) may;
      none_taken = i.own.none_taken;
      some_taken = λ s. let p = i.own.some_taken s in (p.0, rw p.1 refl, p.2);
      unsent = i.own.unsent;
      unheard = i.own.unheard;
      keeping = i.own.keeping;
      version = i.own.version;
      speaks = i.own.speaks;
      plain = i.own.plain;
      faultless = i.own.faultless;
      unskipped = i.own.unskipped;
      lent_sent = i.own.lent_sent;
      few = i.own.few;
      within = i.own.within;
      placed = λ b k e. let g : l ≡ k = cc in subst (λ j. Placed (number (lent_frames j x)) 0 (acked_count x)) g (rw (nothing_lent l x fresh) refl);
      untold = λ k e f. refl;
      unwritten = λ b k e f g. let h : l ≡ k = cc in subst (λ j. messages (lent_frames j x) ≡ []) h (ap messages (nothing_lent l x fresh));
      resumes = λ b k n e f. let g : l ≡ k = cc in absurd (no_number k n g f);
      resumed_read = λ k e f. absurd (cc);
    };
    its = i.its;
    to = record {
      good = λ k. still_good k (first_link x) refl;
      in_order = i.to.in_order;
      most = i.to.most;
      acks = i.to.acks;
      feeds = i.to.feeds;
      numbers = i.to.numbers;
      exact = i.to.exact;
      heard = i.to.heard;
    };
    from = record {
      good = i.from.good;
      in_order = i.from.in_order;
      most = i.from.most;
      acks = i.from.acks;
      feeds = i.from.feeds;
      numbers = λ k n e f. let g : l ≡ k = cc in absurd (no_number k n g f);
      exact = λ b k n e f. let g : l ≡ k = cc in absurd (no_number k n g f);
      heard = i.from.heard;
    };
    agree = agree;
    met = i.met;
    met_back = λ e. let p = i.met_back e in (p.0, rw p.1 refl);
  }
    where
      no_number : (k n : ℕ) → l ≡ k → number (read_frames k x) ≡ Some n → ⊥
      no_number k n g f =
          let none : number (read_frames l x) ≡ None = ap (λ n. number (take n (fed_frames l x))) (nothing_taken l x fresh) in
          let f' : number (read_frames l x) ≡ Some n = rw g f in
          absurd (cc)

      still_good : (k : ℕ) (o : Option ℕ) → first_link x ≡ o → MayCarry (facts side terms (Attached l 0 ∷ x) y) k None (lent_frames k x)
      still_good k None e = rw (nothing_lent k x (none_was k x e)) tt
      still_good k (Some j) e =
          MayCarry-more (facts side terms x y) (facts side terms (Attached l 0 ∷ x) y) k None (lent_frames k x)
          (record { side = refl; codec = refl; version = refl; keeps = refl; first = rw e refl; sent = ([], append_none (sent_messages x)); most = omega arith; writer = omega arith; reader = omega arith }) (i.to.good k)

  pub lent_on : (t : LinkFrame) (l : ℕ) → present_link x ≡ Some l → lent_frames l (Lent t ∷ x) ≡ lent_frames l x ++ t ∷ []
  lent_on t l at = both (λ ts. ts ≡ lent_frames l x ++ t ∷ []) (stands_on l x) (lent_frames l x ++ t ∷ []) (lent_frames l x) (λ e. refl) (λ e. let f = is_this-same l (present_link x) at in absurd (cc))

  pub lent_off : (t : LinkFrame) (l k : ℕ) → present_link x ≡ Some l → (k ≡ l → ⊥) → lent_frames k (Lent t ∷ x) ≡ lent_frames k x
  lent_off t l k at apart = both (λ ts. ts ≡ lent_frames k x) (stands_on k x) (lent_frames k x ++ t ∷ []) (lent_frames k x)
      (λ e. let f = is_this-true k (present_link x) e in absurd (apart (let g : l ≡ k = cc in sym g))) (λ e. refl)

  pub was_lent : (t : LinkFrame) (l : ℕ) → present_link x ≡ Some l → Says side terms x y l t → Pair side terms (Lent t ∷ x) y
  was_lent t l at says = record {
    own = record {
      one_link = i.own.one_link;
      later = i.own.later;
      none_taken = i.own.none_taken;
      some_taken = i.own.some_taken;
      unsent = i.own.unsent;
      unheard = i.own.unheard;
      keeping = i.own.keeping;
      version = i.own.version;
      speaks = i.own.speaks;
      plain = i.own.plain;
      faultless = i.own.faultless;
      unskipped = i.own.unskipped;
      lent_sent = says.lent_sent;
      few = i.own.few;
      within = i.own.within;
      placed = λ b k e. let g : l ≡ k = cc in subst (λ j. Placed (number (lent_frames j (Lent t ∷ x))) (written_place (Lent t ∷ x)) (acked_count x)) g
          (rw (lent_on t l at) (rw (number-push (lent_frames l x) t) (says.placed b)));
      untold = λ k e f. let g : l ≡ k = cc in
          lent_untold t x (lent_frames l x) (i.own.untold l at)
          (sym (messages-push (lent_frames l x) t) ∙ (ap messages (sym (lent_on t l at)) ∙ subst (λ j. messages (lent_frames j (Lent t ∷ x)) ≡ []) (sym g) f));
      unwritten = λ b k e f g. let h : l ≡ k = cc in
          subst (λ j. messages (lent_frames j (Lent t ∷ x)) ≡ []) h (rw (lent_on t l at) (rw (messages-push (lent_frames l x) t)
          (lent_unwritten t (lent_frames l x) (λ m z. ⊎_elim (λ p. f (p ∙ ap Some h)) (λ p. absurd (cc)) (says.may b m z).0)
          (i.own.unwritten b l at (λ p. f (p ∙ ap Some h)) g))));
      resumes = i.own.resumes;
      resumed_read = i.own.resumed_read;
    };
    its = i.its;
    to = record {
      good = λ k. both (λ ts. MayCarry (facts side terms (Lent t ∷ x) y) k None ts) (stands_on k x) (lent_frames k x ++ t ∷ []) (lent_frames k x)
          (λ s. let f = is_this-true k (present_link x) s in let g : l ≡ k = cc in
          subst (λ j. MayCarry (facts side terms (Lent t ∷ x) y) j None (lent_frames j x ++ t ∷ [])) g
          (MayCarry-push (facts side terms (Lent t ∷ x) y) l None (lent_frames l x) t (more l) says.ok))
          (λ s. more k);
      in_order = i.to.in_order;
      most = omega (arith, i.to.most, most_lent-more t x);
      acks = i.to.acks;
      feeds = λ k. both (λ ts. IsPrefix (fed_frames k y) ts) (stands_on k x) (lent_frames k x ++ t ∷ []) (lent_frames k x) (λ s. prefix_more (fed_frames k y) (lent_frames k x) (t ∷ []) (i.to.feeds k)) (λ s. i.to.feeds k);
      numbers = i.to.numbers;
      exact = i.to.exact;
      heard = i.to.heard;
    };
    from = i.from;
    agree = i.agree;
    met = i.met;
    met_back = i.met_back;
  }
    where
      more : (k : ℕ) → MayCarry (facts side terms (Lent t ∷ x) y) k None (lent_frames k x)
      more k = MayCarry-more (facts side terms x y) (facts side terms (Lent t ∷ x) y) k None (lent_frames k x)
          (record { side = refl; codec = refl; version = refl; keeps = refl; first = refl; sent = ([], append_none (sent_messages x)); most = most_lent-more t x; writer = omega arith; reader = omega arith }) (i.to.good k)
