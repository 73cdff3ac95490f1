-- What holds of each connection by itself, and that none that ends holds a poll, holds after moments that come.
use Rattle.std.proofs.Common.{refl, ap, sym, ◌∙◌, ◌≡◌, ℕ, ◌+◌, Bool, true, false, List, [], ◌∷◌, ◌++◌, Option, Some, None, if◌then◌else◌}
use Rattle.std.specs.Prelude.{◌==◌, is_some, option_map, ◌&&◌}
use Rattle.hd_delivery.specs.declared.vocabulary.Reason.TheVariants as reason
use Rattle.hd_delivery.specs.Histories.{is_this}
use Rattle.hd_server.specs.declared.vocabulary.Life.{Life}
use Rattle.hd_server.specs.declared.vocabulary.Life.TheVariants.{Unknown, Fresh, Socket, Lost, Polling, Ending}
use Rattle.hd_server.specs.Numbers.{lives_for}
use Rattle.hd_server.specs.Lives.{ConnectionEvent, Negotiated, Opened, Socketed, Polled, Answered, LaneLost, Ended, Expired, Removed, deadline, is_past, made, numbers_to, overdue, poll_ended, poll_of, since, standing}
use Rattle.hd_server.specs.Machine.{Goes}
use Rattle.hd_server.specs.Doings.{ServerEvent, Notes, Works, notes, has_peer}
use Rattle.hd_server.specs.Plans.{onto, closing, dropping, expiring, expiries}
use Rattle.hd_server.proofs.Each.{either_way, each_closing}
use Rattle.hd_server.proofs.Few.{standing_same}
use Rattle.hd_server.proofs.Flushing.{numbers_apart, apart-filter}
use Rattle.hd_server.proofs.OrderlyNotes.{Known, gone_unknown, in_numbers}
use Rattle.hd_server.proofs.OrderlyDoings.{in_turn, IsQuiet}
use Rattle.hd_server.proofs.OrderlyEach.{passes}
use Rattle.hd_server.proofs.RepliesOwn.{Alike, alike_same, own_alike, quiet_onto}
use Rattle.hd_server.proofs.RepliesPhases.{each_own, expired_gone, expires_own, expiring_one, kept_in}
use Rattle.hd_server.proofs.RepliesOwnFlushed.{Both, Done, done_alike}

-- one whose last poll ended holds none
held_or_ended : (c : ℕ) (n : List ConnectionEvent) → is_some (poll_ended c n) ≡ true → poll_of c n ≡ None
held_or_ended c [] e = refl
held_or_ended c (Polled k lane now ∷ n) e = by (c == k) e (held_or_ended c n) where
  by : (b : Bool) → is_some (if b then None else poll_ended c n) ≡ true → (is_some (poll_ended c n) ≡ true → poll_of c n ≡ None)
      → (if b then Some (lane, now) else poll_of c n) ≡ None
  by true f g = absurd (let z : false ≡ true = f in cc)
  by false f g = g f
held_or_ended c (Answered k lane now ∷ n) e = by ((c == k) && is_this lane (option_map (λ p. p.0) (poll_of c n))) e (held_or_ended c n) where
  by : (b : Bool) → is_some (if b then Some now else poll_ended c n) ≡ true → (is_some (poll_ended c n) ≡ true → poll_of c n ≡ None)
      → (if b then None else poll_of c n) ≡ None
  by true f g = refl
  by false f g = g f
held_or_ended c (LaneLost k lane now ∷ n) e = by ((c == k) && is_this lane (option_map (λ p. p.0) (poll_of c n))) e (held_or_ended c n) where
  by : (b : Bool) → is_some (if b then Some now else poll_ended c n) ≡ true → (is_some (poll_ended c n) ≡ true → poll_of c n ≡ None)
      → (if b then None else poll_of c n) ≡ None
  by true f g = refl
  by false f g = g f
held_or_ended c (Negotiated k token reconnect now ∷ n) e = held_or_ended c n e
held_or_ended c (Opened k now ∷ n) e = held_or_ended c n e
held_or_ended c (Socketed k lane now ∷ n) e = held_or_ended c n e
held_or_ended c (Ended k now ∷ n) e = held_or_ended c n e
held_or_ended c (Expired k now ∷ n) e = held_or_ended c n e
held_or_ended c (Removed k ∷ n) e = held_or_ended c n e

past_ended : (c now : ℕ) (n : List ConnectionEvent) → standing c n ≡ Polling → is_past now (deadline c n) ≡ true → is_some (poll_ended c n) ≡ true
past_ended c now n e past =
    by (poll_ended c n) (sym (ap (λ l. is_past now (option_map (λ moment. moment + lives_for) (since c l n))) e) ∙ past) where
      by : (o : Option ℕ) → is_past now (option_map (λ moment. moment + lives_for) o) ≡ true → is_some o ≡ true
      by None f = f
      by (Some m) f = refl

module _ (now : ℕ) (h : List ServerEvent) where
  expires_done : (c : ℕ) (g : List ServerEvent) → Alike c h g → is_past now (deadline c (notes h)) ≡ true → (life : Life) → standing c (notes h) ≡ life
      → Done c (onto (expiring now life c h) g)
  expires_done c g a past life e = by life e where
    drops : (standing c (notes h) ≡ Polling → ⊥) → Done c (onto (dropping c h ++ Notes (Expired c now) ∷ []) g)
    drops f =
        let same : standing c (notes g) ≡ standing c (notes h) = standing_same c (notes g) (notes h) a.same_notes in
        let gone : Known c (Expired c now ∷ notes g) → ⊥
        = λ u. gone_unknown c (Expired c now ∷ notes g) (expired_gone c (notes g) now (λ i. f (sym same ∙ i))) u in
        either_way (λ ds. Done c (onto (ds ++ Notes (Expired c now) ∷ []) g)) (has_peer c h) (Works (Goes c) ∷ []) []
        (λ u i. absurd (gone u)) (λ u i. absurd (gone u))

    by : (life : Life) → standing c (notes h) ≡ life → Done c (onto (expiring now life c h) g)
    by Polling i =
        let none = held_or_ended c (notes h) (past_ended c now (notes h) i past) in
        let b = quiet_onto c (closing c reason.Expired h) g (each_closing IsQuiet c reason.Expired h tt) in
        in_turn (Done c) (closing c reason.Expired h) (Notes (Expired c now) ∷ []) g (λ u f. b.same_notes.of_poll ∙ a.same_notes.of_poll ∙ none)
    by Unknown i = drops (λ f. absurd (let z : Unknown ≡ Polling = sym i ∙ f in cc))
    by Fresh i = drops (λ f. absurd (let z : Fresh ≡ Polling = sym i ∙ f in cc))
    by (Socket lane) i = drops (λ f. absurd (let z : Socket lane ≡ Polling = sym i ∙ f in cc))
    by Lost i = drops (λ f. absurd (let z : Lost ≡ Polling = sym i ∙ f in cc))
    by Ending i = drops (λ f. absurd (let z : Ending ≡ Polling = sym i ∙ f in cc))

  pub expired_both : ((k : ℕ) → Both k h) → (k : ℕ) → Both k (onto (expiries now h) h)
  expired_both all k =
      each_own Both (λ j g x a b. (own_alike j g x a b.0, done_alike j g x a b.1)) (λ c. expiring now (standing c (notes h)) c h) h
      (λ c. expiring_one now (standing c (notes h)) c h)
      (overdue now (notes h)) h (apart-filter (λ c. is_past now (deadline c (notes h))) (numbers_to (made (notes h))) (numbers_apart (made (notes h))))
      (λ c x i a b. (
        expires_own now h c x
            (in_numbers (made (notes h)) c (kept_in now h (λ j. is_past now (deadline j (notes h))) c (numbers_to (made (notes h))) i)).1 a b.0
            (standing c (notes h)) refl,
        expires_done c x a (passes (λ j. is_past now (deadline j (notes h))) c (numbers_to (made (notes h))) i) (standing c (notes h)) refl,
      ))
      (λ j i. alike_same j h) all k
