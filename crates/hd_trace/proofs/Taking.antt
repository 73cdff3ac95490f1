-- What an end takes next, by the lines of the other end.
use Rattle.std.proofs.Common.{inl, inr, ⊎_elim, ◌≡◌, ℕ, zero, suc, ◌+◌, ◌-◌, ◌<◌, ◌≤◌, Bool, true, false, List, [], ◌∷◌, length, take, Option, Some, None, refl, sym, ap, ◌∙◌, arith}
use Rattle.std.proofs.lemmas.Bool.{le-leb}
use Rattle.std.proofs.lemmas.List.Sums.{sum_by-cons}
use Rattle.std.proofs.lemmas.Bool.Decides.{leb_tells}
use Rattle.std.specs.Prelude.{◌⊎◌, ◌↔◌, nat_le, sum_by, slice_get, option_map, if◌then◌else◌}
use Rattle.hd_delivery.specs.declared.vocabulary.Got.{Got}
use Rattle.hd_delivery.specs.declared.vocabulary.Side.{Side}
use Rattle.hd_delivery.specs.declared.vocabulary.Side.TheVariants.{Client, Server}
use Rattle.hd_delivery.specs.Frames.{LinkFrame}
use Rattle.hd_delivery.specs.Histories.{Config, EndEvent, Attached, Detached, Fed, Took, Failed, Sent, Lent, Ticked, Silenced, Closed, present_link, fed_frames, lent_frames, taken_count}
use Rattle.hd_delivery.specs.Processes.{processes, reads, next_frame, next_number}
use Rattle.hd_delivery.specs.Worlds.{config, Event, alike}
use Rattle.hd_delivery.specs.Bytes.{ByteStep, bytes_on}
use Rattle.hd_delivery.specs.Laws.{whole_frames, FedIsWhole}
use Rattle.hd_delivery.specs.Sides.{other, history}
use Rattle.hd_trace.specs.Traces.{Setup, frames_beside}
use Rattle.hd_trace.specs.Marks.{marks_of}
use Rattle.hd_trace.specs.ByMarks.{next_number_by, given_by, got_of}
use Rattle.hd_trace.specs.MarkLaws.{TakesAreMarked}
use Rattle.hd_trace.specs.ByNumbers.{IsFaithfulWorld, IsOpenOn, frame_there, next_there, NextIsFed, taken_by}

took_only : (s : EndEvent) (got : Got) → got_of s ≡ Some got → s ≡ Took got
took_only (Attached l now) got e = absurd (cc)
took_only (Detached now) got e = absurd (cc)
took_only (Fed piece) got e = absurd (cc)
took_only (Took g) got e = let z : g ≡ got = cc in ap Took z
took_only (Failed fault) got e = absurd (cc)
took_only (Sent m) got e = absurd (cc)
took_only (Lent f) got e = absurd (cc)
took_only (Ticked now) got e = absurd (cc)
took_only (Silenced now) got e = absurd (cc)
took_only (Closed reason allow) got e = absurd (cc)

-- two tests agree
same_test : (a b c d : ℕ) → (a ≤ b → c ≤ d) → (c ≤ d → a ≤ b) → nat_le a b ≡ nat_le c d
same_test a b c d f g = ⊎_elim (λ h. let low = f h.1 in h.0 ∙ sym (le-leb c d low)) (λ h. h.0 ∙ sym (other (leb_tells c d) h.1)) (leb_tells a b)
  where
    other : ((nat_le c d ≡ true) × (c ≤ d)) ⊎ ((nat_le c d ≡ false) × (d < c)) → b < a → nat_le c d ≡ false
    other (inl h) less = absurd (let z = g h.1 in omega arith)
    other (inr h) less = h.0

either_none : (b : Bool) → ◌≡◌ {A = Option LinkFrame} None (if b then None else None)
either_none true = refl
either_none false = refl

-- the frame of a place among those that are whole
whole_at : (spell : LinkFrame → List ℕ) (fs : List LinkFrame) (i n : ℕ) → slice_get (whole_frames spell fs n) i ≡ frame_there spell fs i n
whole_at spell [] i n = either_none (nat_le (sum_by (λ f. length (spell f)) (take (suc i) [])) n)
whole_at spell (f ∷ fs) zero n = go (nat_le (length (spell f)) n)
    ∙ ap (λ b. if b then Some f else None) (same_test (length (spell f)) n (sum_by (λ f. length (spell f)) (take 1 (f ∷ fs))) n (λ h. omega arith) (λ h. omega arith))
  where
    go : (b : Bool) → slice_get (if b then f ∷ whole_frames spell fs (n - length (spell f)) else []) 0 ≡ (if b then Some f else None)
    go true = refl
    go false = refl
whole_at spell (f ∷ fs) (suc i) n = ⊎_elim
    (λ h. rw h.0 (whole_at spell fs i (n - length (spell f))
    ∙ ap (λ b. if b then slice_get fs i else None)
    (same_test (sum_by (λ f. length (spell f)) (take (suc i) fs)) (n - length (spell f)) (sum_by (λ f. length (spell f)) (f ∷ take (suc i) fs)) n
    (λ e. let low = h.1 in omega (arith, sums)) (λ e. let low = h.1 in omega (arith, sums)))))
    (λ h. rw h.0 (ap (λ b. if b then slice_get fs i else None)
    (sym (none (sum_by (λ f. length (spell f)) (f ∷ take (suc i) fs)) (let more = h.1 in omega (arith, sums))))))
    (leb_tells (length (spell f)) n)
  where
    sums : sum_by (λ f. length (spell f)) (f ∷ take (suc i) fs) ≡ length (spell f) + sum_by (λ f. length (spell f)) (take (suc i) fs)
    sums = sum_by-cons (λ f. length (spell f)) f (take (suc i) fs)

    none : (a : ℕ) → n < a → nat_le a n ≡ false
    none a more = ⊎_elim (λ h. absurd (let low = h.1 in omega arith)) (λ h. h.0) (leb_tells a n)

-- what an end was fed in frames there are those that the other end said whose bytes were all fed
pub fed_there : FedIsWhole → (x : Setup) (side : Side) (w : List (Event ByteStep)) (l : ℕ) → IsFaithfulWorld x w → present_link (frames_beside x side w) ≡ Some l
    → fed_frames l (frames_beside x side w) ≡ whole_frames (x.wire.spell x.terms.codec) (lent_frames l (frames_beside x (other side) w)) (length (bytes_on l (history side w)))
fed_there whole x Client w l f at = (whole (alike x.limits) x.wire x.terms w f.faithful f.is_world).0 l at
fed_there whole x Server w l f at = (whole (alike x.limits) x.wire x.terms w f.faithful f.is_world).1 l at

pub next_fed : FedIsWhole → NextIsFed
next_fed whole x side w l f at = ap (λ fs. slice_get fs (taken_count l (frames_beside x side w))) (fed_there whole x side w l f at)
    ∙ whole_at (x.wire.spell x.terms.codec) (lent_frames l (frames_beside x (other side) w)) (taken_count l (frames_beside x side w)) (length (bytes_on l (history side w)))

-- what a frame that is there gives, in a history where the link is the present one
module _ (marked : TakesAreMarked) (c : Config) (k : List EndEvent) (l : ℕ) (got : Got) (at : present_link k ≡ Some l) where
  gives : (f : LinkFrame) → got_of (reads c k (next_number c k l) f) ≡ given_by c (marks_of c k) (next_number_by (marks_of c k) l) f
  gives f = let m = marked c k in m.gives (next_number c k l) f ∙ ap (λ n. given_by c (marks_of c k) n f) (m.number l at)

  pub forth : (o : Option LinkFrame) → option_map (reads c k (next_number c k l)) o ≡ Some (Took got) → taken_by c (marks_of c k) l o ≡ Some got
  forth None e = absurd (let z : ◌≡◌ {A = Option EndEvent} None (Some (Took got)) = e in cc)
  forth (Some f) e =
      let y : Some (reads c k (next_number c k l) f) ≡ Some (Took got) = e in
      let z : reads c k (next_number c k l) f ≡ Took got = cc in
      sym (gives f) ∙ ap got_of z

  pub back : (o : Option LinkFrame) → taken_by c (marks_of c k) l o ≡ Some got → option_map (reads c k (next_number c k l)) o ≡ Some (Took got)
  back None e = absurd (let z : ◌≡◌ {A = Option Got} None (Some got) = e in cc)
  back (Some f) e = ap Some (took_only (reads c k (next_number c k l) f) got (gives f ∙ e))

pub by_lines : FedIsWhole → TakesAreMarked → (x : Setup) (side : Side) (w : List (Event ByteStep)) (l : ℕ) (got : Got) → IsFaithfulWorld x w → IsOpenOn x side w l
    → (processes (config side x.terms) (frames_beside x side w) ≡ Some (Took got))
    ↔ (taken_by (config side x.terms) (marks_of (config side x.terms) (frames_beside x side w)) l (next_there x side w l) ≡ Some got)
by_lines whole marked x side w l got f on = (
  λ e. forth marked (config side x.terms) (frames_beside x side w) l got on.here (next_there x side w l) (sym is ∙ e),
  λ e. is ∙ back marked (config side x.terms) (frames_beside x side w) l got on.here (next_there x side w l) e,
)
  where
    is : processes (config side x.terms) (frames_beside x side w)
        ≡ option_map (reads (config side x.terms) (frames_beside x side w) (next_number (config side x.terms) (frames_beside x side w) l)) (next_there x side w l)
    is = ap (λ b. if b then None else next_frame (config side x.terms) (frames_beside x side w) (present_link (frames_beside x side w))) on.unclosed
        ∙ (ap (next_frame (config side x.terms) (frames_beside x side w)) on.here
        ∙ ap (option_map (reads (config side x.terms) (frames_beside x side w) (next_number (config side x.terms) (frames_beside x side w) l)))
        (next_fed whole x side w l f on.here))
