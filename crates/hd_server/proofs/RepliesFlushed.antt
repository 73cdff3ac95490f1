-- What connections say leaves as waiting only the lanes on which a poll is held.
use Rattle.std.proofs.Common.{refl, ap, sym, ◌∙◌, ◌≡◌, ℕ, Bool, true, false, List, [], ◌∷◌, ◌++◌, Option, Some, None, if◌then◌else◌}
use Rattle.std.specs.Prelude.{◌==◌, not, is_some, nat_le, ◌+◌, ◌&&◌}
use Rattle.std.proofs.lemmas.Bool.{eq-eqb, or_left, or_right}
use Rattle.hw_lanes.specs.declared.http.Reply.{Reply}
use Rattle.hw_lanes.specs.Replies.{IsReply}
use Rattle.hd_delivery.specs.Frames.{LinkFrame}
use Rattle.hd_server.specs.declared.vocabulary.Said.TheVariants as say
use Rattle.hd_server.specs.Numbers.{held_for}
use Rattle.hd_server.specs.Lives.{Answered, Ended, Removed, is_polling, ended_at, socket_of, poll_of}
use Rattle.hd_server.specs.Machine.{Goes, settings_of, has_gone}
use Rattle.hd_server.specs.Doings.{ServerEvent, Notes, Works, Says, notes, work, has_peer, has_closed}
use Rattle.hd_server.specs.Plans.{Setup, onto, removing_conn, shutting, ends_lane, reply_on, shutting_after, replying, bare_reply, frames_reply}
use Rattle.hd_server.specs.Serves.{lending, writing, all_of, bytes_of, flushing_socket, flushing_poll, flushing_some_poll, ending, flushing_without, flushing_on, flushing, all_flushing}
use Rattle.hd_server.specs.Parts.{Each}
use Rattle.hd_server.proofs.PartsOfTurns.{flushing_is}
use Rattle.hd_server.proofs.Each.{either_way, each_join, each_shutting, each_shutting_after, each_lending, each_writing, each_removing}
use Rattle.hd_server.proofs.Flushing.{is_in, AreApart, Same, all_same}
use Rattle.hd_server.proofs.OrderlyDoings.{in_turn}
use Rattle.hd_server.proofs.OrderlyEach.{is_other}
use Rattle.hd_server.proofs.RepliesSent.{bare_sent, frames_sent, plain_200, plain_204, sent_on}
use Rattle.hd_server.proofs.RepliesLanes.{Holds, calm_then, calm_holds, calm_onto, answered, parted, IsCalm}

-- ---- one that goes has no peer

and_false : (b : Bool) → (b && false) ≡ false
and_false true = refl
and_false false = refl

pub left_alone : (c : ℕ) (h g : List ServerEvent) → has_peer c g ≡ has_peer c h → has_peer c (onto (removing_conn c h) g) ≡ false
left_alone c h g same = by (has_peer c h) same where
  by : (b : Bool) → has_peer c g ≡ b → has_peer c (onto ((if b then Works (Goes c) ∷ [] else []) ++ Notes (Removed c) ∷ []) g) ≡ false
  by true e = rw (eq-eqb c c refl) (and_false (is_some (settings_of c (work g))))
  by false e = e

-- a reply and the end of its lane tell of no peer
shut_peer : (c lane : ℕ) (reply : Reply) (h g : List ServerEvent) → has_peer c (onto (shutting_after lane reply h) g) ≡ has_peer c g
shut_peer c lane reply h g =
    either_way (λ ds. has_peer c (onto ds g) ≡ has_peer c g) (ends_lane lane reply.status h) (Says (say.Shut lane) ∷ []) [] refl refl

-- the poll is answered, and that is noted
pub answers_held : (asks : Option ℕ) (c : ℕ) (poll : ℕ × ℕ) (now : ℕ) (h g : List ServerEvent) → Holds asks None g → has_peer c g ≡ true
    → poll_of c (notes g) ≡ Some poll → (reply : Reply) → IsReply reply
    → Holds asks None (onto (replying poll.0 reply h ++ Notes (Answered c poll.0 now) ∷ []) g)
answers_held asks c poll now h g ok there mine reply sent =
    in_turn (Holds asks None) (replying poll.0 reply h) (Notes (Answered c poll.0 now) ∷ []) g
    (let x : List ServerEvent = Says (say.Reply poll.0 (reply_on poll.0 reply h)) ∷ g in
    answered asks None g ok c poll.0 poll.1 there mine refl (reply_on poll.0 reply h) (sent_on poll.0 reply h sent)
    (onto (shutting_after poll.0 reply h) x) (calm_onto (shutting_after poll.0 reply h) x (each_shutting_after IsCalm poll.0 reply h tt)) now)

-- the poll is answered, and the connection goes
answers_leaving : (asks : Option ℕ) (c : ℕ) (poll : ℕ × ℕ) (h g : List ServerEvent) → Holds asks None g → has_peer c g ≡ true → has_peer c h ≡ true
    → poll_of c (notes g) ≡ Some poll → (reply : Reply) → IsReply reply
    → Holds asks None (onto (replying poll.0 reply h ++ removing_conn c h) g)
answers_leaving asks c poll h g ok there was mine reply sent =
    let x : List ServerEvent = Says (say.Reply poll.0 (reply_on poll.0 reply h)) ∷ g in
    let y : List ServerEvent = onto (shutting_after poll.0 reply h) x in
    let to_y = calm_onto (shutting_after poll.0 reply h) x (each_shutting_after IsCalm poll.0 reply h tt) in
    let to_z = calm_onto (removing_conn c h) y (each_removing IsCalm c h tt tt) in
    in_turn (Holds asks None) (replying poll.0 reply h) (removing_conn c h) g
    (parted asks None g ok c poll.0 poll.1 there mine refl (reply_on poll.0 reply h) (sent_on poll.0 reply h sent) (onto (removing_conn c h) y) (calm_then x y (onto (removing_conn c h) y) to_y to_z)
    (left_alone c h y (shut_peer c poll.0 reply h x ∙ there ∙ sym was)))

-- ---- what one connection says

lending_peer : (c k : ℕ) (fs : List LinkFrame) (g : List ServerEvent) → has_peer k (onto (lending c fs) g) ≡ has_peer k g
lending_peer c k [] g = refl
lending_peer c k (f ∷ fs) g = lending_peer c k fs _

module _ (s : Setup) (now c : ℕ) (h : List ServerEvent) (was : has_peer c h ≡ true) where
  on_socket : (lane : ℕ) (pieces : List (List LinkFrame)) → Each IsCalm (flushing_socket s c lane pieces h)
  on_socket lane pieces =
      each_join IsCalm (lending c (all_of pieces) ++ writing s c lane pieces h) (if has_closed c h then shutting lane h ++ removing_conn c h else [])
      (each_join IsCalm (lending c (all_of pieces)) (writing s c lane pieces h) (each_lending IsCalm c (all_of pieces) (λ x. tt)) (each_writing IsCalm s c lane pieces h (λ bytes text. tt)))
      (either_way (Each IsCalm) (has_closed c h) (shutting lane h ++ removing_conn c h) []
      (each_join IsCalm (shutting lane h) (removing_conn c h) (each_shutting IsCalm lane h tt) (each_removing IsCalm c h tt tt)) tt)

  on_poll : (poll : ℕ × ℕ) (fs : List LinkFrame) (g : List ServerEvent) → Holds None None g → has_peer c g ≡ true → poll_of c (notes g) ≡ Some poll
      → Holds None None (onto (flushing_poll s now c poll fs h) g)
  on_poll poll [] g ok there mine =
      let answers : List ServerEvent = replying poll.0 (bare_reply 200) h ++ Notes (Answered c poll.0 now) ∷ [] in
      either_way (λ ds. Holds None None (onto ds g)) (has_closed c h) (replying poll.0 (bare_reply 204) h ++ removing_conn c h)
      (if nat_le (poll.1 + held_for) now then answers else [])
      (answers_leaving None c poll h g ok there was mine (bare_reply 204) (bare_sent 204 plain_204))
      (either_way (λ ds. Holds None None (onto ds g)) (nat_le (poll.1 + held_for) now) answers []
      (answers_held None c poll now h g ok there mine (bare_reply 200) (bare_sent 200 plain_200)) ok)
  on_poll poll (f ∷ fs) g ok there mine =
      let reply : Reply = frames_reply (bytes_of s c (f ∷ fs) h) in
      let lent : List ServerEvent = onto (lending c (f ∷ fs)) g in
      let calm = calm_onto (lending c (f ∷ fs)) g (each_lending IsCalm c (f ∷ fs) (λ x. tt)) in
      let ok_then = calm_holds None None g lent calm ok in
      let there_then : has_peer c lent ≡ true = lending_peer c c (f ∷ fs) g ∙ there in
      let mine_then : poll_of c (notes lent) ≡ Some poll = calm.same_polls c ∙ mine in
      let whole = answers_held None c poll now h lent ok_then there_then mine_then reply (frames_sent (bytes_of s c (f ∷ fs) h)) in
      in_turn (Holds None None) (lending c (f ∷ fs) ++ replying poll.0 reply h) (Notes (Answered c poll.0 now) ∷ []) g
      (in_turn (λ x. Holds None None (onto (Notes (Answered c poll.0 now) ∷ []) x)) (lending c (f ∷ fs)) (replying poll.0 reply h) g
      (apart_again (replying poll.0 reply h) (Notes (Answered c poll.0 now) ∷ []) lent whole))
    where
      apart_again : (xs ys x : List ServerEvent) → Holds None None (onto (xs ++ ys) x) → Holds None None (onto ys (onto xs x))
      apart_again [] ys x p = p
      apart_again (d ∷ xs) ys x p = apart_again xs ys (d ∷ x) p

  on_some_poll : (o : Option (ℕ × ℕ)) (fs : List LinkFrame) (g : List ServerEvent) → Holds None None g → has_peer c g ≡ true → poll_of c (notes g) ≡ o
      → Holds None None (onto (flushing_some_poll s now c o fs h) g)
  on_some_poll None fs g ok there mine = ok
  on_some_poll (Some poll) fs g ok there mine = on_poll poll fs g ok there mine

  without : (fs : List LinkFrame) (g : List ServerEvent) → Holds None None g → has_peer c g ≡ true → poll_of c (notes g) ≡ poll_of c (notes h)
      → Holds None None (onto (flushing_without s now c fs h) g)
  without fs g ok there mine =
      let polls : List ServerEvent = flushing_some_poll s now c (poll_of c (notes h)) fs h in
      let ends : Bool = has_closed c h && not (is_some (ended_at c (notes h))) in
      either_way (λ ds. Holds None None (onto ds g)) (is_polling c (notes h)) (ending now c h ++ polls)
      (if has_closed c h then removing_conn c h else [])
      (in_turn (Holds None None) (ending now c h) polls g
      (either_way (λ ds. Holds None None (onto polls (onto ds g))) ends (Notes (Ended c now) ∷ []) []
      (on_some_poll (poll_of c (notes h)) fs (Notes (Ended c now) ∷ g)
      (calm_holds None None g (Notes (Ended c now) ∷ g) (calm_onto (Notes (Ended c now) ∷ []) g (tt, tt)) ok) there mine)
      (on_some_poll (poll_of c (notes h)) fs g ok there mine)))
      (either_way (λ ds. Holds None None (onto ds g)) (has_closed c h) (removing_conn c h) []
      (calm_holds None None g (onto (removing_conn c h) g) (calm_onto (removing_conn c h) g (each_removing IsCalm c h tt tt)) ok) ok)

  tells_on : (o : Option ℕ) (pieces : List (List LinkFrame)) (g : List ServerEvent) → Holds None None g → has_peer c g ≡ true
      → poll_of c (notes g) ≡ poll_of c (notes h) → Holds None None (onto (flushing_on s now c o pieces h) g)
  tells_on (Some lane) pieces g ok there mine =
      calm_holds None None g (onto (flushing_socket s c lane pieces h) g)
      (calm_onto (flushing_socket s c lane pieces h) g (on_socket lane pieces)) ok
  tells_on None pieces g ok there mine = without (all_of pieces) g ok there mine

-- ---- one after the other

-- each of these has its peer, and holds the poll that it held after h
abbrev pub Waiting : List ServerEvent → List ServerEvent → List ℕ → Type 0
Waiting h g cs = (k : ℕ) → is_in k cs ≡ true → (has_peer k h ≡ true) × (has_peer k g ≡ true) × (poll_of k (notes g) ≡ poll_of k (notes h))

same_peer : (k : ℕ) (g x : List ServerEvent) → Same k g x → has_peer k x ≡ has_peer k g
same_peer k g x a = ap (λ o. is_some o && not (has_gone k (work x))) a.same_settings ∙ ap (λ b. is_some (settings_of k (work g)) && not b) a.same_gone

further_waiting : (s : Setup) (now c : ℕ) (cs : List ℕ) (pieces : List (List LinkFrame)) (h g : List ServerEvent) → is_in c cs ≡ false → Waiting h g (c ∷ cs)
    → Waiting h (onto (flushing s now c pieces h) g) cs
further_waiting s now c cs pieces h g out ready k i =
    let words : List ServerEvent = flushing s now c pieces h in
    let other = is_other c k cs out i in
    let was = ready k (or_right (k == c) (is_in k cs) i) in
    let same = all_same k c words g other (flushing_is s now c h (socket_of c (notes h)) pieces) in
    (was.0, same_peer k g (onto words g) same ∙ was.1, same.same_poll ∙ was.2)

pub all_told : (s : Setup) (now : ℕ) (h : List ServerEvent) (cs : List ℕ) (all : List (List (List LinkFrame))) (g : List ServerEvent) → AreApart cs
    → Waiting h g cs → Holds None None g → Holds None None (onto (all_flushing s now cs all h) g)
all_told s now h [] all g apart ready ok = ok
all_told s now h (c ∷ cs) [] g apart ready ok = ok
all_told s now h (c ∷ cs) (pieces ∷ more) g apart ready ok =
    let words : List ServerEvent = flushing s now c pieces h in
    let first = ready c (or_left (c == c) (is_in c cs) (eq-eqb c c refl)) in
    in_turn (Holds None None) words (all_flushing s now cs more h) g
    (all_told s now h cs more (onto words g) apart.1 (further_waiting s now c cs pieces h g apart.0 ready)
    (tells_on s now c h first.0 (socket_of c (notes h)) pieces g ok first.1 first.2))
