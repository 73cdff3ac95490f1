-- Which bytes may be fed, by numbers.
use Rattle.std.proofs.Common.{◌≡◌, ◌≤◌, ◌+◌, ℕ, List, [], ◌∷◌, ◌++◌, length, drop, Some, sym, ap, ◌∙◌, subst, length-append}
use Rattle.std.specs.Prelude.{◌↔◌}
use Rattle.hd_facts.specs.Prefixes.{IsPrefix}
use Rattle.hd_delivery.specs.declared.vocabulary.Side.{Side}
use Rattle.hd_delivery.specs.declared.vocabulary.Side.TheVariants.{Client, Server}
use Rattle.hd_delivery.specs.Numbers.{most_framing}
use Rattle.hd_delivery.specs.Worlds.{config, Event, alike}
use Rattle.hd_delivery.specs.Bytes.{ByteStep, Bytes, bytes_on, unread, unread_count, IsSoundWire, IsWorldOverBytes}
use Rattle.hd_delivery.specs.OneHistory.{IsHistory}
use Rattle.hd_delivery.specs.HistoryLaws.{WorldsAreHistories, UnreadGrows, StandsThere}
use Rattle.hd_delivery.specs.AloneLaws.{FedIsLent}
use Rattle.hd_delivery.specs.Sides.{history}
use Rattle.hd_trace.specs.Traces.{Setup, MayBeside}
use Rattle.hd_trace.specs.ByNumbers.{IsOpenOn, said_there, IsNextThere}

-- a first part of what comes after these bytes
rest_of : (xs ys zs : List ℕ) → IsPrefix (xs ++ ys) zs → IsPrefix ys (drop (length xs) zs)
rest_of [] ys zs p = p
rest_of (x ∷ xs) ys [] p = absurd (let e : x ∷ ((xs ++ ys) ++ p.0) ≡ [] = p.1 in cc)
rest_of (x ∷ xs) ys (z ∷ zs) p = rest_of xs ys zs (p.0, (let e : x ∷ ((xs ++ ys) ++ p.0) ≡ z ∷ zs = p.1 in cc))

joined : (xs ys zs : List ℕ) → IsPrefix xs zs → IsPrefix ys (drop (length xs) zs) → IsPrefix (xs ++ ys) zs
joined [] ys zs p q = q
joined (x ∷ xs) ys [] p q = absurd (let e : x ∷ (xs ++ p.0) ≡ [] = p.1 in cc)
joined (x ∷ xs) ys (z ∷ zs) p q =
    let e : x ∷ (xs ++ p.0) ≡ z ∷ zs = p.1 in
    let tail : xs ++ p.0 ≡ zs = cc in
    let head : x ≡ z = cc in
    let r = joined xs ys zs (p.0, tail) q in
    (r.0, ap (λ h. h ∷ ((xs ++ ys) ++ r.0)) head ∙ ap (λ l. z ∷ l) r.1)

history_of : WorldsAreHistories → (x : Setup) (side : Side) (w : List (Event ByteStep)) → IsWorldOverBytes (alike x.limits) x.wire x.terms w
    → IsHistory x.limits x.wire (config side x.terms) (history side w)
history_of worlds x Client w i = (worlds (alike x.limits) x.wire x.terms w i).0
history_of worlds x Server w i = (worlds (alike x.limits) x.wire x.terms w i).1

pub by_numbers : WorldsAreHistories → UnreadGrows → FedIsLent → (x : Setup) (side : Side) (w : List (Event ByteStep)) (l : ℕ) (piece : List ℕ) → IsSoundWire x.limits x.wire
    → IsWorldOverBytes (alike x.limits) x.wire x.terms w → IsOpenOn x side w l → MayBeside x side w (Bytes piece) ↔ IsNextThere x side w l piece
by_numbers worlds grows fed x side w l piece sound world on = (forth, back)
  where
    stands : StandsThere x.limits x.wire (config side x.terms) (history side w) l
    stands = record { sound = sound; is_history = history_of worlds x side w world; here = on.here }

    counts : unread_count x.wire (config side x.terms) l (Bytes piece ∷ history side w) ≡ unread_count x.wire (config side x.terms) l (history side w) + length piece
    counts = ap length (grows x.limits x.wire (config side x.terms) (history side w) l piece stands).0 ∙ length-append (unread x.wire (config side x.terms) l (history side w)) piece

    forth : MayBeside x side w (Bytes piece) → IsNextThere x side w l piece
    forth m = let same : m.link ≡ l = (let a = m.at in let b = on.here in let e : Some m.link ≡ Some l = sym a ∙ b in cc) in record {
      front = rest_of (bytes_on l (history side w)) piece (said_there x side w l)
          (subst (λ l. IsPrefix (bytes_on l (history side w) ++ piece) (said_there x side w l)) same m.front);
      few = subst (λ n. n ≤ x.limits.frame + most_framing) counts
          (subst (λ l. unread_count x.wire (config side x.terms) l (Bytes piece ∷ history side w) ≤ x.limits.frame + most_framing) same m.few);
    }

    back : IsNextThere x side w l piece → MayBeside x side w (Bytes piece)
    back n = record {
      link = l;
      at = on.here;
      unclosed = on.unclosed;
      front = joined (bytes_on l (history side w)) piece (said_there x side w l) (fed (alike x.limits) x.wire x.terms w side l world) n.front;
      few = subst (λ n. n ≤ x.limits.frame + most_framing) (sym counts) n.few;
    }
