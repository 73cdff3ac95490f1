-- What holds of each connection by itself holds after all are told, and then none that ends holds a poll.
use Rattle.std.proofs.Common.{refl, ap, subst, sym, ◌∙◌, ◌≡◌, ℕ, ◌≤◌, Bool, true, false, List, [], ◌∷◌, ◌++◌, Option, Some, None, arith, if◌then◌else◌}
use Rattle.std.specs.Prelude.{◌==◌, not, is_some, nat_le, option_map, ◌+◌, ◌&&◌, ◌||◌}
use Rattle.std.proofs.lemmas.Bool.{eqb-true, eq-eqb, or_left, or_right, and_parts}
use Rattle.hw_lanes.specs.declared.http.Reply.{Reply}
use Rattle.hd_delivery.specs.Frames.{LinkFrame}
use Rattle.hd_delivery.specs.Histories.{is_this}
use Rattle.hd_server.specs.Numbers.{held_for}
use Rattle.hd_server.specs.Lives.{Answered, Ended, Removed, ended_at, is_known, is_removed, is_polling, made, poll_ended, poll_of, socket_of}
use Rattle.hd_server.specs.Machine.{Does, Goes}
use Rattle.hd_server.specs.Doings.{ServerEvent, Notes, Works, Says, notes, has_peer, has_closed}
use Rattle.hd_server.specs.Plans.{Setup, onto, removing_conn, shutting, replying, bare_reply, frames_reply}
use Rattle.hd_server.specs.Serves.{AreAllDue, lending, writing, all_of, bytes_of, flushing_socket, flushing_poll, flushing_some_poll, ending, flushing_without, flushing_on, flushing, all_flushing}
use Rattle.hd_server.specs.Parts.{Each, IsFlush}
use Rattle.hd_server.proofs.PartsOfTurns.{flushing_is}
use Rattle.hd_server.proofs.Each.{either_way, each_so, each_join, each_shutting, each_replying, each_lending, each_writing}
use Rattle.hd_server.proofs.Few.{standing_same}
use Rattle.hd_server.proofs.Flushing.{is_in, AreApart}
use Rattle.hd_server.proofs.OrderlyNotes.{Known, gone_unknown, still_ended}
use Rattle.hd_server.proofs.OrderlyDoings.{in_turn, IsQuiet}
use Rattle.hd_server.proofs.OrderlyEach.{is_other}
use Rattle.hd_server.proofs.RepliesOwn.{Alike, alike_then, IsOne, others_alike, quiet_onto, known_alike, own_alike, Own, own_answered, own_ended}
use Rattle.hd_server.proofs.RepliesPhases.{removed_own}

-- one that ends holds no poll
abbrev pub Done : ℕ → List ServerEvent → Type 0
Done k g = Known k (notes g) → is_some (ended_at k (notes g)) ≡ true → poll_of k (notes g) ≡ None

pub done_alike : (k : ℕ) (g x : List ServerEvent) → Alike k g x → Done k g → Done k x
done_alike k g x a d u e = a.same_notes.of_poll ∙ d (known_alike k g x a u) (sym (ap is_some a.same_notes.of_end) ∙ e)

no_poll : (o : Option (ℕ × ℕ)) (b : Bool) → (is_some o || b) ≡ false → o ≡ None
no_poll None b e = refl
no_poll (Some p) b e = absurd (let z : true ≡ false = e in cc)

pub done_still : (k : ℕ) (g : List ServerEvent) → is_polling k (notes g) ≡ false → Done k g
done_still k g e u f = no_poll (poll_of k (notes g)) (is_some (poll_ended k (notes g))) e

done_stands : (k : ℕ) (g : List ServerEvent) → Own k g → is_some (socket_of k (notes g)) ≡ true → Done k g
done_stands k g o s u e =
    let none = (o.no_socket u (o.ended_polls u e)).0 in
    absurd (let z : true ≡ false = sym s ∙ ap is_some none in cc)

done_gone : (c : ℕ) (h g : List ServerEvent) → Done c (onto (removing_conn c h) g)
done_gone c h g =
    either_way (λ ds. Done c (onto (ds ++ Notes (Removed c) ∷ []) g)) (has_peer c h) (Works (Goes c) ∷ []) []
    (λ u e. absurd (gone u)) (λ u e. absurd (gone u))
  where
    gone : Known c (Removed c ∷ notes g) → ⊥
    gone u = gone_unknown c (Removed c ∷ notes g) (or_left (c == c) (is_removed c (notes g)) (eq-eqb c c refl)) u

abbrev pub Both : ℕ → List ServerEvent → Type 0
Both c g = Own c g × Done c g

both_gone : (c : ℕ) (h g : List ServerEvent) → Own c g → c ≤ made (notes g) → Both c (onto (removing_conn c h) g)
both_gone c h g o old = (removed_own c h g o old, done_gone c h g)

-- the poll that it holds is answered
answered_none : (c now : ℕ) (poll : ℕ × ℕ) (y : List ServerEvent) → poll_of c (notes y) ≡ Some poll → poll_of c (Answered c poll.0 now ∷ notes y) ≡ None
answered_none c now poll y still =
    ap (λ b. if b && is_this poll.0 (option_map (λ p. p.0) (poll_of c (notes y))) then None else poll_of c (notes y)) (eq-eqb c c refl)
    ∙ ap (λ o. if is_this poll.0 (option_map (λ p. p.0) o) then None else o) still
    ∙ ap (λ b. if◌then◌else◌ {A = Option (ℕ × ℕ)} b None (Some poll)) (eq-eqb poll.0 poll.0 refl)

module _ (s : Setup) (now c : ℕ) (h : List ServerEvent) (known : Known c (notes h)) (old : c ≤ made (notes h)) (own : Own c h) where
  module _ (g : List ServerEvent) (a : Alike c h g) (o : Own c g) where
    known_now : Known c (notes g)
    known_now = ap is_known (standing_same c (notes g) (notes h) a.same_notes) ∙ known

    old_now : c ≤ made (notes g)
    old_now = omega (arith, old, a.more)

    -- one that isn't closed doesn't end
    open_done : has_closed c h ≡ false → Done c g
    open_done open_is u e =
        absurd (let z : true ≡ false = sym (own.ended_closed known (sym (ap is_some a.same_notes.of_end) ∙ e)) ∙ open_is in cc)

    on_socket : (lane : ℕ) (pieces : List (List LinkFrame)) → socket_of c (notes h) ≡ Some lane → Both c (onto (flushing_socket s c lane pieces h) g)
    on_socket lane pieces e =
        let words : List ServerEvent = lending c (all_of pieces) ++ writing s c lane pieces h in
        let q : Each IsQuiet words
        = each_join IsQuiet (lending c (all_of pieces)) (writing s c lane pieces h) (each_lending IsQuiet c (all_of pieces) (λ x. tt)) (each_writing IsQuiet s c lane pieces h (λ bytes text. tt)) in
        let y : List ServerEvent = onto words g in
        let b = quiet_onto c words g q in
        let own_y : Own c y = own_alike c g y b o in
        in_turn (Both c) words (if has_closed c h then shutting lane h ++ removing_conn c h else []) g
        (either_way (λ ds. Both c (onto ds y)) (has_closed c h) (shutting lane h ++ removing_conn c h) []
        (in_turn (Both c) (shutting lane h) (removing_conn c h) y
        (let d = quiet_onto c (shutting lane h) y (each_shutting IsQuiet lane h tt) in
        both_gone c h (onto (shutting lane h) y) (own_alike c y (onto (shutting lane h) y) d own_y) (omega (arith, old_now, b.more, d.more))))
        (own_y, done_stands c y own_y (ap is_some (b.same_notes.of_socket ∙ a.same_notes.of_socket ∙ e))))

  -- what is said to a poll
  module _ (poll : ℕ × ℕ) (g : List ServerEvent) (o : Own c g) (u : Known c (notes g)) (later : c ≤ made (notes g)) (held : poll_of c (notes g) ≡ Some poll)
      (open_done_now : has_closed c h ≡ false → Done c g) where
    answers_it : (ds : List ServerEvent) → Each IsQuiet ds → Both c (onto (ds ++ Notes (Answered c poll.0 now) ∷ []) g)
    answers_it ds q =
        let y : List ServerEvent = onto ds g in
        let b = quiet_onto c ds g q in
        let known_y : Known c (notes y) = ap is_known (standing_same c (notes y) (notes g) b.same_notes) ∙ u in
        in_turn (Both c) ds (Notes (Answered c poll.0 now) ∷ []) g (
          own_answered c y (own_alike c g y b o) (omega (arith, later, b.more)) known_y poll.0 now,
          λ v e. answered_none c now poll y (b.same_notes.of_poll ∙ held),
        )

    leaves_it : (ds : List ServerEvent) → Each IsQuiet ds → Both c (onto (ds ++ removing_conn c h) g)
    leaves_it ds q =
        let y : List ServerEvent = onto ds g in
        let b = quiet_onto c ds g q in
        in_turn (Both c) ds (removing_conn c h) g (both_gone c h y (own_alike c g y b o) (omega (arith, later, b.more)))

    on_poll : (fs : List LinkFrame) → Both c (onto (flushing_poll s now c poll fs h) g)
    on_poll [] = by (has_closed c h) refl where
      by : (b : Bool) → has_closed c h ≡ b
          → Both c (onto (if b then replying poll.0 (bare_reply 204) h ++ removing_conn c h
          else (if nat_le (poll.1 + held_for) now then replying poll.0 (bare_reply 200) h ++ Notes (Answered c poll.0 now) ∷ [] else [])) g)
      by true e = leaves_it (replying poll.0 (bare_reply 204) h) (each_replying IsQuiet poll.0 (bare_reply 204) h tt tt)
      by false e =
          either_way (λ ds. Both c (onto ds g)) (nat_le (poll.1 + held_for) now)
          (replying poll.0 (bare_reply 200) h ++ Notes (Answered c poll.0 now) ∷ []) []
          (answers_it (replying poll.0 (bare_reply 200) h) (each_replying IsQuiet poll.0 (bare_reply 200) h tt tt)) (o, open_done_now e)
    on_poll (f ∷ fs) =
        let reply : Reply = frames_reply (bytes_of s c (f ∷ fs) h) in
        answers_it (lending c (f ∷ fs) ++ replying poll.0 reply h)
        (each_join IsQuiet (lending c (f ∷ fs)) (replying poll.0 reply h) (each_lending IsQuiet c (f ∷ fs) (λ x. tt)) (each_replying IsQuiet poll.0 reply h tt tt))

  some_poll : (p : Option (ℕ × ℕ)) (fs : List LinkFrame) (g : List ServerEvent) → Own c g → Known c (notes g) → c ≤ made (notes g)
      → poll_of c (notes g) ≡ p → (has_closed c h ≡ false → Done c g)
      → Both c (onto (flushing_some_poll s now c p fs h) g)
  some_poll None fs g o u later held d = (o, λ v e. held)
  some_poll (Some poll) fs g o u later held d = on_poll poll g o u later held d fs

  without : (fs : List LinkFrame) (g : List ServerEvent) → Alike c h g → Own c g → Both c (onto (flushing_without s now c fs h) g)
  without fs g a o = by (is_polling c (notes h)) refl where
    polls : List ServerEvent
    polls = flushing_some_poll s now c (poll_of c (notes h)) fs h

    polls_now : (b : Bool) → is_polling c (notes h) ≡ b → is_polling c (notes g) ≡ b
    polls_now b e = ap (λ p. is_some p || is_some (poll_ended c (notes g))) a.same_notes.of_poll
        ∙ ap (λ r. is_some (poll_of c (notes h)) || is_some r) a.same_notes.of_reply ∙ e

    ends : is_polling c (notes h) ≡ true → (d : Bool) → (has_closed c h && not (is_some (ended_at c (notes h)))) ≡ d
        → Both c (onto polls (onto (if d then Notes (Ended c now) ∷ [] else []) g))
    ends e true f =
        let closed : has_closed c h ≡ true = (and_parts (has_closed c h) (not (is_some (ended_at c (notes h)))) f).0 in
        let never : has_closed c h ≡ false → ⊥ = λ i. absurd (let z : true ≡ false = sym closed ∙ i in cc) in
        some_poll (poll_of c (notes h)) fs (Notes (Ended c now) ∷ g)
        (own_ended c g o (old_now g a o) (known_now g a o) now (polls_now true e) (a.closed_still closed))
        (still_ended c (notes g) now (known_now g a o)) (old_now g a o) a.same_notes.of_poll (λ i. absurd (never i))
    ends e false f =
        some_poll (poll_of c (notes h)) fs g o (known_now g a o) (old_now g a o) a.same_notes.of_poll (λ i. open_done g a o i)

    by : (b : Bool) → is_polling c (notes h) ≡ b
        → Both c (onto (if b then ending now c h ++ flushing_some_poll s now c (poll_of c (notes h)) fs h
        else (if has_closed c h then removing_conn c h else [])) g)
    by true e = in_turn (Both c) (ending now c h) polls g (ends e (has_closed c h && not (is_some (ended_at c (notes h)))) refl)
    by false e =
        either_way (λ ds. Both c (onto ds g)) (has_closed c h) (removing_conn c h) [] (both_gone c h g o (old_now g a o))
        (o, done_still c g (polls_now false e))

  tells_own : (w : Option ℕ) (pieces : List (List LinkFrame)) (g : List ServerEvent) → socket_of c (notes h) ≡ w → Alike c h g → Own c g
      → Both c (onto (flushing_on s now c w pieces h) g)
  tells_own (Some lane) pieces g e a o = on_socket g a o lane pieces e
  tells_own None pieces g e a o = without (all_of pieces) g a o

-- ---- one after the other

flush_is_one : (c : ℕ) (d : ServerEvent) → IsFlush c d → IsOne c d
flush_is_one c (Works (Does k m)) e = tt
flush_is_one c (Works (Goes k)) e = e
flush_is_one c (Notes (Answered k lane now)) e = e
flush_is_one c (Notes (Ended k now)) e = e
flush_is_one c (Notes (Removed k)) e = e
flush_is_one c (Says x) e = tt
flush_is_one c d e = absurd e

module _ (s : Setup) (now : ℕ) (h : List ServerEvent) (own : (k : ℕ) → Own k h) where
  pub told_own : (cs : List ℕ) (all : List (List (List LinkFrame))) (g : List ServerEvent) → AreAllDue s cs all h → AreApart cs
      → ((c : ℕ) → is_in c cs ≡ true → Known c (notes h) × (c ≤ made (notes h))) → ((k : ℕ) → is_in k cs ≡ true → Alike k h g)
      → ((k : ℕ) → Own k g) → ((k : ℕ) → is_in k cs ≡ false → Done k g) → (k : ℕ) → Both k (onto (all_flushing s now cs all h) g)
  told_own [] all g due apart known alike mine done k = (mine k, done k refl)
  told_own (c ∷ cs) [] g due apart known alike mine done k = absurd due
  told_own (c ∷ cs) (pieces ∷ more) g due apart known alike mine done k =
      let words : List ServerEvent = flushing s now c pieces h in
      let x : List ServerEvent = onto words g in
      in_turn (Both k) words (all_flushing s now cs more h) g
      (told_own cs more x due.1 apart.1 (λ j i. known j (or_right (j == c) (is_in j cs) i))
      (λ j i. alike_then j h g x (alike j (or_right (j == c) (is_in j cs) i)) (others j (is_other c j cs apart.0 i)))
      (λ j. its_own j (j == c) refl) (λ j out. its_done j (j == c) refl out) k)
    where
      others : (j : ℕ) → (j == c) ≡ false → Alike j g (onto (flushing s now c pieces h) g)
      others j e =
          others_alike c j (flushing s now c pieces h) g e
          (each_so (IsFlush c) (IsOne c) (flush_is_one c) (flushing s now c pieces h) (flushing_is s now c h (socket_of c (notes h)) pieces))

      mine_now : Both c (onto (flushing s now c pieces h) g)
      mine_now =
          let here = or_left (c == c) (is_in c cs) (eq-eqb c c refl) in
          let was = known c here in
          tells_own s now c h was.0 was.1 (own c) (socket_of c (notes h)) pieces g refl (alike c here) (mine c)

      its_own : (j : ℕ) (b : Bool) → (j == c) ≡ b → Own j (onto (flushing s now c pieces h) g)
      its_own j false e = own_alike j g (onto (flushing s now c pieces h) g) (others j e) (mine j)
      its_own j true e = subst (λ i. Own i (onto (flushing s now c pieces h) g)) (sym (eqb-true j c e)) mine_now.0

      its_done : (j : ℕ) (b : Bool) → (j == c) ≡ b → is_in j cs ≡ false → Done j (onto (flushing s now c pieces h) g)
      its_done j false e out =
          done_alike j g (onto (flushing s now c pieces h) g) (others j e) (done j (ap (λ b. b || is_in j cs) e ∙ out))
      its_done j true e out = subst (λ i. Done i (onto (flushing s now c pieces h) g)) (sym (eqb-true j c e)) mine_now.1
