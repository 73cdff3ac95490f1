-- Room and stillness by numbers.
use Rattle.std.proofs.Common.{◌≡◌, ℕ, zero, suc, ◌+◌, ◌-◌, ◌<◌, ◌≤◌, Bool, true, false, List, [], ◌∷◌, ◌++◌, length, take, drop, Some, refl, sym, ap, ◌∙◌, subst, arith, length-drop}
use Rattle.std.specs.Prelude.{◌↔◌, sum_by, nat_le, if◌then◌else◌}
use Rattle.std.proofs.lemmas.List.Sums.{sum_by-cons}
use Rattle.hd_facts.specs.Prefixes.{IsPrefix}
use Rattle.hd_delivery.specs.declared.vocabulary.Side.{Side}
use Rattle.hd_delivery.specs.declared.vocabulary.Side.TheVariants.{Client, Server}
use Rattle.hd_delivery.specs.Frames.{LinkFrame}
use Rattle.hd_delivery.specs.Histories.{Config, EndEvent, fed_frames, lent_frames, taken_count, sent_messages, held_messages, codec_of, is_resumable, acked_count, most_lent}
use Rattle.hd_delivery.specs.Worlds.{Limits, Sizes, HasRoom, config, Event, alike, client_of, server_of}
use Rattle.hd_delivery.specs.Bytes.{ByteStep, bytes_on, StillOverBytes, HoldsOverBytes}
use Rattle.hd_delivery.specs.HistoryLaws.{WorldsAreHistories, FactsHold}
use Rattle.hd_delivery.specs.Laws.{whole_frames, FedIsWhole}
use Rattle.hd_delivery.specs.AloneLaws.{FedIsLent}
use Rattle.hd_delivery.specs.Sides.{other, history}
use Rattle.hd_trace.specs.Traces.{Setup, frames_beside}
use Rattle.hd_trace.specs.ByNumbers.{TakenAreLent, released, said_there, IsFaithfulWorld, IsStillAt}
use Rattle.hd_trace.proofs.Taking.{fed_there}

sum-split : {A : Type 0} (f : A → ℕ) (xs : List A) (n : ℕ) → sum_by f (take n xs) + sum_by f (drop n xs) ≡ sum_by f xs
sum-split f [] zero = refl
sum-split f [] (suc n) = refl
sum-split f (x ∷ xs) zero = omega arith
sum-split f (x ∷ xs) (suc n) = let a = sum_by-cons f x (take n xs) in let b = sum_by-cons f x xs in let c = sum-split f xs n in omega (arith, a, b, c)

held_is : (c : Config) (k : List EndEvent) → held_messages c k ≡ drop (released c k) (sent_messages k)
held_is c k = go (is_resumable c k)
  where
    go : (b : Bool) → (if b then drop (acked_count k) (sent_messages k) else drop (most_lent k) (sent_messages k)) ≡ drop (if b then acked_count k else most_lent k) (sent_messages k)
    go true = refl
    go false = refl

pub room : (limits : Limits) (sizes : Sizes) (c : Config) (k : List EndEvent) (size : ℕ) → released c k ≤ length (sent_messages k)
    → HasRoom limits sizes c k size
    ↔ ((length (sent_messages k) < limits.count + released c k)
    × (sum_by (sizes.framed (codec_of c k)) (sent_messages k) + size ≤ limits.bytes + sum_by (sizes.framed (codec_of c k)) (take (released c k) (sent_messages k))))
room limits sizes c k size within = (
  λ h. ((let a = h.of_count in omega (arith, counts, a)), (let b = h.of_bytes in omega (arith, bytes, b))),
  λ h. record { of_count = (let a = h.0 in omega (arith, counts, a)); of_bytes = (let b = h.1 in omega (arith, bytes, b)) },
)
  where
    counts : length (held_messages c k) + released c k ≡ length (sent_messages k)
    counts = let e = ap length (held_is c k) in let d = length-drop (released c k) (sent_messages k) in omega (arith, e, d, within)

    bytes : sum_by (sizes.framed (codec_of c k)) (take (released c k) (sent_messages k)) + sum_by (sizes.framed (codec_of c k)) (held_messages c k) ≡ sum_by (sizes.framed (codec_of c k)) (sent_messages k)
    bytes = ap (λ xs. sum_by (sizes.framed (codec_of c k)) (take (released c k) (sent_messages k)) + sum_by (sizes.framed (codec_of c k)) xs) (held_is c k)
        ∙ sum-split (sizes.framed (codec_of c k)) (sent_messages k) (released c k)

-- ---- stillness

whole : {A : Type 0} (xs ys : List A) → IsPrefix xs ys → length xs ≡ length ys → xs ≡ ys
whole [] [] p e = refl
whole [] (y ∷ ys) p e = absurd (omega (arith, e))
whole (x ∷ xs) [] p e = absurd (omega (arith, e))
whole (x ∷ xs) (y ∷ ys) p e = let q : x ∷ (xs ++ p.0) ≡ y ∷ ys = p.1 in let rest : xs ++ p.0 ≡ ys = cc in let first : x ≡ y = cc in
    ap (λ h. h ∷ xs) first ∙ ap (λ l. y ∷ l) (whole xs ys (p.0, rest) (omega (arith, e)))

few_whole : (spell : LinkFrame → List ℕ) (fs : List LinkFrame) (n : ℕ) → length (whole_frames spell fs n) ≤ length fs
few_whole spell [] n = omega arith
few_whole spell (f ∷ fs) n = go (nat_le (length (spell f)) n) (few_whole spell fs (n - length (spell f)))
  where
    go : (b : Bool) → length (whole_frames spell fs (n - length (spell f))) ≤ length fs → length (if b then f ∷ whole_frames spell fs (n - length (spell f)) else []) ≤ suc (length fs)
    go true h = omega (arith, h)
    go false h = omega arith

-- an end takes no more frames than it was fed
few_taken : WorldsAreHistories → FactsHold → (x : Setup) (side : Side) (w : List (Event ByteStep)) (l : ℕ) → IsFaithfulWorld x w
    → taken_count l (frames_beside x side w) ≤ length (fed_frames l (frames_beside x side w))
few_taken worlds facts x Client w l f =
    (facts x.limits x.wire (config Client x.terms) (client_of w) (worlds (alike x.limits) x.wire x.terms w f.is_world).0).taken_were_fed l
few_taken worlds facts x Server w l f =
    (facts x.limits x.wire (config Server x.terms) (server_of w) (worlds (alike x.limits) x.wire x.terms w f.is_world).1).taken_were_fed l

-- nor than the other end said
pub taken_lent : FedIsWhole → WorldsAreHistories → FactsHold → TakenAreLent
taken_lent is_whole worlds facts x side w l f at =
    let fed = few_taken worlds facts x side w l f in
    let same = ap length (fed_there is_whole x side w l f at) in
    let few = few_whole (x.wire.spell x.terms.codec) (lent_frames l (frames_beside x (other side) w)) (length (bytes_on l (history side w))) in
    omega (arith, fed, same, few)

all_fed : FedIsLent → (x : Setup) (side : Side) (w : List (Event ByteStep)) (l : ℕ) → IsFaithfulWorld x w → IsStillAt x side w l → bytes_on l (history side w) ≡ said_there x side w l
all_fed lent x side w l f s = whole (bytes_on l (history side w)) (said_there x side w l) (lent (alike x.limits) x.wire x.terms w side l f.is_world) s.fed

all_taken : FedIsWhole → WorldsAreHistories → FactsHold → (x : Setup) (side : Side) (w : List (Event ByteStep)) (l : ℕ) → IsFaithfulWorld x w → IsStillAt x side w l
    → taken_count l (frames_beside x side w) ≡ length (fed_frames l (frames_beside x side w))
all_taken is_whole worlds facts x side w l f s =
    let few = few_whole (x.wire.spell x.terms.codec) (lent_frames l (frames_beside x (other side) w)) (length (bytes_on l (history side w))) in
    let same = ap length (fed_there is_whole x side w l f s.here) in
    let low = few_taken worlds facts x side w l f in
    let all = s.took in
    omega (arith, few, same, low, all)

pub still : FedIsWhole → HoldsOverBytes → WorldsAreHistories → FactsHold → FedIsLent → (x : Setup) (w : List (Event ByteStep)) → IsFaithfulWorld x w
    → StillOverBytes x.wire (config Client x.terms) (config Server x.terms) (client_of w) (server_of w)
    ↔ ((l : ℕ) × IsStillAt x Client w l × IsStillAt x Server w l)
still is_whole holds worlds facts lent x w f = (forth, back)
  where
    forth : StillOverBytes x.wire (config Client x.terms) (config Server x.terms) (client_of w) (server_of w) → (l : ℕ) × IsStillAt x Client w l × IsStillAt x Server w l
    forth q =
        let g = (holds (alike x.limits) x.wire x.terms w f.faithful f.is_world).still q in
        let same : g.link ≡ q.link = (let a = g.client_here in let b = q.client_here in let e : Some g.link ≡ Some q.link = sym a ∙ b in cc) in (
          q.link,
          record {
            here = q.client_here;
            ready = q.client_ready;
            fed = ap length q.client_fed;
            took = q.client_taken ∙ subst (λ l. length (fed_frames l (frames_beside x Client w)) ≡ length (lent_frames l (frames_beside x Server w))) same (ap length g.client_fed);
            owes_nothing = q.client_due;
          },
          record {
            here = q.server_here;
            ready = q.server_ready;
            fed = ap length q.server_fed;
            took = q.server_taken ∙ subst (λ l. length (fed_frames l (frames_beside x Server w)) ≡ length (lent_frames l (frames_beside x Client w))) same (ap length g.server_fed);
            owes_nothing = q.server_due;
          },
        )

    back : (l : ℕ) × IsStillAt x Client w l × IsStillAt x Server w l → StillOverBytes x.wire (config Client x.terms) (config Server x.terms) (client_of w) (server_of w)
    back q = record {
      link = q.0;
      client_here = q.1.here;
      server_here = q.2.here;
      client_ready = q.1.ready;
      server_ready = q.2.ready;
      client_fed = all_fed lent x Client w q.0 f q.1;
      server_fed = all_fed lent x Server w q.0 f q.2;
      client_taken = all_taken is_whole worlds facts x Client w q.0 f q.1;
      server_taken = all_taken is_whole worlds facts x Server w q.0 f q.2;
      client_due = q.1.owes_nothing;
      server_due = q.2.owes_nothing;
    }
