-- The numbers of what is next on a link are small.
use Rattle.std.proofs.Common.{◌≡◌, ◌≤◌, ◌<◌, ℕ, zero, suc, ◌+◌, ◌-◌, Bool, true, false, List, [], ◌∷◌, length, take, fold, nat_le, Option, Some, None, IfSome, refl, sym, ap, subst, arith, length-take}
use Rattle.std.specs.Prelude.{if◌then◌else◌}
use Rattle.hd_delivery.specs.declared.vocabulary.Side.{Side}
use Rattle.hd_delivery.specs.declared.vocabulary.Side.TheVariants.{Client, Server}
use Rattle.hd_delivery.specs.Numbers.{most_messages, most_of_64_bits}
use Rattle.hd_delivery.specs.Frames.{LinkFrame, Request, Response, Refusal, Numbered, Ack, Sequence, Ping, Close, Foreign, Strange, Unreadable, count, number, one_more}
use Rattle.hd_delivery.specs.Histories.{present_link, fed_frames, lent_frames, taken_count, read_frames, processed_messages}
use Rattle.hd_delivery.specs.Laws.{whole_frames, FedIsWhole}
use Rattle.hd_delivery.specs.Worlds.{Event, alike, IsSound}
use Rattle.hd_delivery.specs.Bytes.{ByteStep, bytes_on, HoldsOverBytes}
use Rattle.hd_delivery.specs.Sides.{other, history}
use Rattle.hd_trace.specs.declared.trace.TraceLine.{TraceLine}
use Rattle.hd_trace.specs.Traces.{Setup, frames_beside}
use Rattle.hd_trace.specs.Marks.{lent_on, read_on}
use Rattle.hd_trace.specs.Owed.{HasNextNumbers}
use Rattle.ha_audit.specs.declared.auditor.Audit.{Audit}
use Rattle.ha_audit.specs.AuditState.{said_on}
use Rattle.ha_audit.specs.AuditKeeps.{Keeps, end_of}
use Rattle.ha_audit.specs.AuditLaws.{Known}
use Rattle.ha_audit.proofs.AuditLists.{as_many_frames}

-- a number that is there is at most so great
abbrev pub IsAtMost : ℕ → Option ℕ → Type 0
IsAtMost b o = IfSome o (λ n. n ≤ b)

weaker : (a b : ℕ) (o : Option ℕ) → a ≤ b → IsAtMost a o → IsAtMost b o
weaker a b None low h = tt
weaker a b (Some n) low h = let z : n ≤ a = h in omega arith

one_more_is : (b : ℕ) (o : Option ℕ) → IsAtMost b o → IsAtMost (suc b) (one_more o)
one_more_is b None h = tt
one_more_is b (Some n) h = let z : n ≤ b = h in omega arith

-- one frame more
counted : (p q b : ℕ) (o : Option ℕ) (f : LinkFrame) (fs : List LinkFrame) → suc q ≤ b → IsAtMost b o → IsSound p q (f ∷ fs) → IsAtMost (suc b) (count o f) × IsSound p q fs
counted p q b o (Request codec version) fs low h s = ((omega arith), s)
counted p q b o Response fs low h s = ((omega arith), s)
counted p q b o (Refusal text) fs low h s = (weaker b (suc b) o (omega arith) h, s)
counted p q b o (Numbered m) fs low h s = (one_more_is b o h, s)
counted p q b o (Ack upto) fs low h s = (weaker b (suc b) o (omega arith) h, s.1)
counted p q b o (Sequence first received) fs low h s = ((let small = s.0 in omega arith), s.2)
counted p q b o Ping fs low h s = (weaker b (suc b) o (omega arith) h, s)
counted p q b o (Close error allow) fs low h s = (weaker b (suc b) o (omega arith) h, s)
counted p q b o (Foreign n) fs low h s = (weaker b (suc b) o (omega arith) h, s)
counted p q b o (Strange why answer) fs low h s = (weaker b (suc b) o (omega arith) h, s)
counted p q b o (Unreadable at why) fs low h s = (weaker b (suc b) o (omega arith) h, s)

all_counted : (p q b : ℕ) (o : Option ℕ) (fs : List LinkFrame) → suc q ≤ b → IsAtMost b o → IsSound p q fs → IsAtMost (b + length fs) (fold count o fs)
all_counted p q b o [] low h s = weaker b (b + 0) o (omega arith) h
all_counted p q b o (f ∷ fs) low h s =
    let one = counted p q b o f fs low h s in
    weaker (suc b + length fs) (b + suc (length fs)) (fold count (count o f) fs) (omega arith) (all_counted p q (suc b) (count o f) fs (omega arith) one.0 one.1)

number_is : (p q : ℕ) (fs : List LinkFrame) → IsSound p q fs → IsAtMost (suc q + length fs) (number fs)
number_is p q fs s = all_counted p q (suc q) None fs (omega arith) tt s

-- the first frames of sound ones are sound
sound_rest : (p q : ℕ) (f : LinkFrame) (fs : List LinkFrame) → IsSound p q (f ∷ fs) → IsSound p q fs
sound_rest p q f fs s = (counted p q (suc q) None f fs (omega arith) tt s).1

sound_more : (p q : ℕ) (f : LinkFrame) (fs gs : List LinkFrame) → IsSound p q (f ∷ fs) → IsSound p q gs → IsSound p q (f ∷ gs)
sound_more p q (Request codec version) fs gs s t = t
sound_more p q Response fs gs s t = t
sound_more p q (Refusal text) fs gs s t = t
sound_more p q (Numbered m) fs gs s t = t
sound_more p q (Ack upto) fs gs s t = (s.0, t)
sound_more p q (Sequence first received) fs gs s t = (s.0, s.1, t)
sound_more p q Ping fs gs s t = t
sound_more p q (Close error allow) fs gs s t = t
sound_more p q (Foreign n) fs gs s t = t
sound_more p q (Strange why answer) fs gs s t = t
sound_more p q (Unreadable at why) fs gs s t = t

sound_whole : (p q : ℕ) (spell : LinkFrame → List ℕ) (fs : List LinkFrame) (n : ℕ) → IsSound p q fs → IsSound p q (whole_frames spell fs n) × (length (whole_frames spell fs n) ≤ length fs)
sound_whole p q spell [] n s = (s, omega arith)
sound_whole p q spell (f ∷ fs) n s = go (nat_le (length (spell f)) n) (sound_whole p q spell fs (n - length (spell f)) (sound_rest p q f fs s))
  where
    go : (b : Bool) → IsSound p q (whole_frames spell fs (n - length (spell f))) × (length (whole_frames spell fs (n - length (spell f))) ≤ length fs)
        → IsSound p q (if b then f ∷ whole_frames spell fs (n - length (spell f)) else [])
        × (length (if b then f ∷ whole_frames spell fs (n - length (spell f)) else []) ≤ length (f ∷ fs))
    go true r = (sound_more p q f fs (whole_frames spell fs (n - length (spell f))) s r.0, (let low = r.1 in omega arith))
    go false r = (tt, omega arith)

sound_front : (p q : ℕ) (fs : List LinkFrame) (n : ℕ) → IsSound p q fs → IsSound p q (take n fs)
sound_front p q fs zero s = tt
sound_front p q [] (suc n) s = tt
sound_front p q (f ∷ fs) (suc n) s = sound_more p q f fs (take n fs) s (sound_front p q fs n (sound_rest p q f fs s))

small : (o : Option ℕ) (b : ℕ) → IsAtMost b o → b < most_of_64_bits → IfSome o (λ n. n < most_of_64_bits)
small None b h low = tt
small (Some n) b h low = let z : n ≤ b = h in omega arith

module _ (delivers : HoldsOverBytes) (whole : FedIsWhole) (x : Setup) (lines : List TraceLine) (a : Audit) (w : List (Event ByteStep)) (keeps : Keeps x lines a w) (known : Known x lines w) where
  -- what an end said on a link is sound
  sound : (side : Side) (l : ℕ) → (p : ℕ) × ((q : ℕ) × ((q ≤ most_messages) × IsSound p q (lent_frames l (frames_beside x side w))))
  sound Client l = (
    length (processed_messages (frames_beside x Client w)),
    (
      length (processed_messages (frames_beside x Server w)),
      (
        (known.facts Server).processed_are_few,
        (delivers (alike x.limits) x.wire x.terms w known.faithful.faithful known.faithful.is_world).holds.to_server.sound l,
      ),
    ),
  )
  sound Server l = (
    length (processed_messages (frames_beside x Server w)),
    (
      length (processed_messages (frames_beside x Client w)),
      (
        (known.facts Client).processed_are_few,
        (delivers (alike x.limits) x.wire x.terms w known.faithful.faithful known.faithful.is_world).holds.to_client.sound l,
      ),
    ),
  )

  few : (side : Side) (l : ℕ) → length (lent_frames l (frames_beside x side w)) ≤ most_messages
  few side l = let few = ((keeps.ends side).said l).few in
      let same = as_many_frames _ _ _ (said_on (end_of side a).links l) (lent_frames l (frames_beside x side w)) ((keeps.ends side).said l) in omega (arith, few, same)

  said_small : (side : Side) (o : Option ℕ) → IfSome (number (lent_on o (frames_beside x side w))) (λ n. n < most_of_64_bits)
  said_small side None = tt
  said_small side (Some l) =
      let s = sound side l in let low = s.1.1.0 in let short = few side l in
      small (number (lent_frames l (frames_beside x side w))) (suc s.1.0 + length (lent_frames l (frames_beside x side w)))
      (number_is s.0 s.1.0 (lent_frames l (frames_beside x side w)) s.1.1.1) (omega (arith, low, short))

  -- what comes next can be told in 64 bits
  pub next_numbers : (side : Side) → HasNextNumbers (end_of side a).marks
  next_numbers side = subst HasNextNumbers (sym (keeps.ends side).marks) (record {
    place = (let acked = (known.facts side).acked_were_lent in let written = (known.facts side).written_were_lent in let lent = (known.facts side).lent_were_sent in
        let sent = (known.facts side).sent_are_few in omega arith);
    number = said_small side (present_link (frames_beside x side w));
  })

  fed_whole : (side : Side) (l : ℕ) → present_link (frames_beside x side w) ≡ Some l
      → fed_frames l (frames_beside x side w) ≡ whole_frames (x.wire.spell x.terms.codec) (lent_frames l (frames_beside x (other side) w)) (length (bytes_on l (history side w)))
  fed_whole Client l here = (whole (alike x.limits) x.wire x.terms w known.faithful.faithful known.faithful.is_world).0 l here
  fed_whole Server l here = (whole (alike x.limits) x.wire x.terms w known.faithful.faithful known.faithful.is_world).1 l here

  read_small : (side : Side) (o : Option ℕ) → present_link (frames_beside x side w) ≡ o → IfSome (number (read_on o (frames_beside x side w))) (λ n. n < most_of_64_bits)
  read_small side None here = tt
  read_small side (Some l) here =
      let k = frames_beside x side w in
      let s = sound (other side) l in let low = s.1.1.0 in let short = few (other side) l in
      let all = sound_whole s.0 s.1.0 (x.wire.spell x.terms.codec) (lent_frames l (frames_beside x (other side) w)) (length (bytes_on l (history side w))) s.1.1.1 in
      let fed : IsSound s.0 s.1.0 (fed_frames l k) = subst (IsSound s.0 s.1.0) (sym (fed_whole side l here)) all.0 in
      let many = ap length (fed_whole side l here) in let less = all.1 in
      small (number (read_frames l k)) (suc s.1.0 + length (read_frames l k)) (number_is s.0 s.1.0 (read_frames l k) (sound_front s.0 s.1.0 (fed_frames l k) (taken_count l k) fed))
      (omega (arith, low, short, many, less, length-take (taken_count l k) (fed_frames l k)))

  pub next_small : (side : Side) → IfSome (end_of side a).marks.next (λ n. n < most_of_64_bits)
  next_small side = subst (λ m. IfSome m.next (λ n. n < most_of_64_bits)) (sym (keeps.ends side).marks) (read_small side (present_link (frames_beside x side w)) refl)
