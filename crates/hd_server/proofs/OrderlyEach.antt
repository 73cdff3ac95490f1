-- What each connection does when it ticks or is told is noted in order.
use Rattle.std.proofs.Common.{refl, ap, sym, ◌∙◌, ◌≡◌, ℕ, Bool, true, false, List, [], ◌∷◌, ◌++◌, Option, Some, None, filter, if◌then◌else◌}
use Rattle.std.specs.Prelude.{◌==◌, ◌+◌, not, is_some, nat_le, ◌&&◌, ◌||◌}
use Rattle.std.specs.List.{flat_map}
use Rattle.std.proofs.lemmas.Bool.{eqb-true, eq-eqb, or_left, or_right}
use Rattle.hd_delivery.specs.Frames.{LinkFrame}
use Rattle.hd_delivery.specs.Histories.{Ticked, Silenced, present_link, is_silence}
use Rattle.hd_server.specs.Numbers.{held_for}
use Rattle.hd_server.specs.Lives.{Answered, LaneLost, Ended, is_known, is_polling, ended_at, socket_of, poll_of, numbers_to}
use Rattle.hd_server.specs.Machine.{connections, greatest, is_there}
use Rattle.hd_server.specs.Doings.{ServerEvent, Notes, notes, work, history, config_of, has_peer, has_closed, may_resume}
use Rattle.hd_server.specs.Plans.{Setup, onto, step, removing_conn, losing, shutting, replying, bare_reply, frames_reply}
use Rattle.hd_server.specs.Serves.{lending, writing, all_of, bytes_of, flushing_socket, flushing_poll, flushing_some_poll, ending, flushing_without, flushing_on, flushing, all_flushing, silenced, ticking, ticks}
use Rattle.hd_server.specs.Parts.{Each}
use Rattle.hd_server.proofs.Each.{either_way, each_join, each_shutting, each_replying, each_lending, each_writing}
use Rattle.hd_server.proofs.Flushing.{is_in, AreApart, apart-filter, numbers_apart}
use Rattle.hd_server.proofs.OrderlyNotes.{Known}
use Rattle.hd_server.proofs.OrderlyDoings.{Settled, Parted, Lively, quiet_lively, in_turn, lively_same, lively_then, parted_of, parted_then, parted_quiet, answering, lane_losing, now_ending, lets_go, IsQuiet}

-- doings after which a connection is known as before
abbrev pub Keeps : ℕ → ℕ → ℕ → List ServerEvent → Type 0
Keeps most now c ds = (g : List ServerEvent) → Settled most now g → Known c (notes g) → Lively most now c g (onto ds g)

-- doings after which nothing may be known of it, where its peer is as it was after h
abbrev pub Fits : ℕ → ℕ → ℕ → List ServerEvent → List ServerEvent → Type 0
Fits most now c h ds = (g : List ServerEvent) → Settled most now g → Known c (notes g) → has_peer c g ≡ has_peer c h → Parted most now c g (onto ds g)

pub keeps_quiet : {most : ℕ} (now c : ℕ) (ds : List ServerEvent) → Each IsQuiet ds → Keeps most now c ds
keeps_quiet now c ds a g s k = quiet_lively now c ds g a s k

pub keeps_both : {most : ℕ} (now c : ℕ) (ds es : List ServerEvent) → Keeps most now c ds → Keeps most now c es → Keeps most now c (ds ++ es)
keeps_both {most} now c ds es a b g s k =
    let x = a g s k in
    in_turn (Lively most now c g) ds es g (lively_then now c g (onto ds g) (onto es (onto ds g)) x (b (onto ds g) x.settled x.known))

pub fits_kept : {most : ℕ} (now c : ℕ) (h ds : List ServerEvent) → Keeps most now c ds → Fits most now c h ds
fits_kept now c h ds a g s k e = parted_of now c g (onto ds g) (a g s k)

pub fits_after : {most : ℕ} (now c : ℕ) (h ds es : List ServerEvent) → Keeps most now c ds → Fits most now c h es → Fits most now c h (ds ++ es)
fits_after {most} now c h ds es a b g s k e =
    let x = a g s k in
    in_turn (Parted most now c g) ds es g (parted_then now c g (onto ds g) (onto es (onto ds g)) x (b (onto ds g) x.settled x.known (x.stays ∙ e)))

pub fits_leaving : {most : ℕ} (now c : ℕ) (h : List ServerEvent) → Fits most now c h (removing_conn c h)
fits_leaving now c h g s k e = lets_go now c g s k h e

pub keeps_answer : {most : ℕ} (now c lane : ℕ) → Keeps most now c (Notes (Answered c lane now) ∷ [])
keeps_answer now c lane g s k = answering now c g s k lane

keeps_end : {most : ℕ} (now c : ℕ) → Keeps most now c (Notes (Ended c now) ∷ [])
keeps_end now c g s k = now_ending now c g s k

pub keeps_loss : {most : ℕ} (now c lane : ℕ) → Keeps most now c (Notes (LaneLost c lane now) ∷ [])
keeps_loss now c lane g s k = lane_losing now c g s k lane

pub keeps_none : {most : ℕ} (now c : ℕ) → Keeps most now c []
keeps_none now c g s k = lively_same now c g s k

pub fits_losing : {most : ℕ} (now c lane : ℕ) (h : List ServerEvent) → Fits most now c h (losing c lane now h)
fits_losing {most} now c lane h =
    either_way (Fits most now c h) (may_resume c h) (Notes (LaneLost c lane now) ∷ []) (removing_conn c h)
    (fits_kept now c h (Notes (LaneLost c lane now) ∷ []) (keeps_loss now c lane)) (fits_leaving now c h)

-- ---- what is told

module _ {most : ℕ} (s : Setup) (now c : ℕ) (h : List ServerEvent) where
  on_socket : (lane : ℕ) (pieces : List (List LinkFrame)) → Fits most now c h (flushing_socket s c lane pieces h)
  on_socket lane pieces =
      let last : List ServerEvent = if has_closed c h then shutting lane h ++ removing_conn c h else [] in
      fits_after now c h (lending c (all_of pieces) ++ writing s c lane pieces h) last
      (keeps_quiet now c (lending c (all_of pieces) ++ writing s c lane pieces h)
      (each_join IsQuiet (lending c (all_of pieces)) (writing s c lane pieces h) (each_lending IsQuiet c (all_of pieces) (λ x. tt)) (each_writing IsQuiet s c lane pieces h (λ bytes text. tt))))
      (either_way (Fits most now c h) (has_closed c h) (shutting lane h ++ removing_conn c h) []
      (fits_after now c h (shutting lane h) (removing_conn c h) (keeps_quiet now c (shutting lane h) (each_shutting IsQuiet lane h tt)) (fits_leaving now c h))
      (fits_kept now c h [] (keeps_none now c)))

  on_poll : (poll : ℕ × ℕ) (fs : List LinkFrame) → Fits most now c h (flushing_poll s now c poll fs h)
  on_poll poll [] =
      let answers : List ServerEvent = replying poll.0 (bare_reply 200) h ++ Notes (Answered c poll.0 now) ∷ [] in
      either_way (Fits most now c h) (has_closed c h) (replying poll.0 (bare_reply 204) h ++ removing_conn c h) (if nat_le (poll.1 + held_for) now then answers else [])
      (fits_after now c h (replying poll.0 (bare_reply 204) h) (removing_conn c h)
      (keeps_quiet now c (replying poll.0 (bare_reply 204) h) (each_replying IsQuiet poll.0 (bare_reply 204) h tt tt)) (fits_leaving now c h))
      (either_way (Fits most now c h) (nat_le (poll.1 + held_for) now) answers []
      (fits_kept now c h answers (keeps_both now c (replying poll.0 (bare_reply 200) h) (Notes (Answered c poll.0 now) ∷ [])
      (keeps_quiet now c (replying poll.0 (bare_reply 200) h) (each_replying IsQuiet poll.0 (bare_reply 200) h tt tt)) (keeps_answer now c poll.0)))
      (fits_kept now c h [] (keeps_none now c)))
  on_poll poll (f ∷ fs) =
      let reply : List ServerEvent = replying poll.0 (frames_reply (bytes_of s c (f ∷ fs) h)) h in
      fits_kept now c h (lending c (f ∷ fs) ++ reply ++ Notes (Answered c poll.0 now) ∷ [])
      (keeps_both now c (lending c (f ∷ fs) ++ reply) (Notes (Answered c poll.0 now) ∷ [])
      (keeps_quiet now c (lending c (f ∷ fs) ++ reply)
      (each_join IsQuiet (lending c (f ∷ fs)) reply (each_lending IsQuiet c (f ∷ fs) (λ x. tt)) (each_replying IsQuiet poll.0 (frames_reply (bytes_of s c (f ∷ fs) h)) h tt tt)))
      (keeps_answer now c poll.0))

  on_some_poll : (o : Option (ℕ × ℕ)) (fs : List LinkFrame) → Fits most now c h (flushing_some_poll s now c o fs h)
  on_some_poll None fs = fits_kept now c h [] (keeps_none now c)
  on_some_poll (Some poll) fs = on_poll poll fs

  on_ending : Keeps most now c (ending now c h)
  on_ending =
      either_way (Keeps most now c) (has_closed c h && not (is_some (ended_at c (notes h)))) (Notes (Ended c now) ∷ []) [] (keeps_end now c) (keeps_none now c)

  without : (fs : List LinkFrame) → Fits most now c h (flushing_without s now c fs h)
  without fs =
      either_way (Fits most now c h) (is_polling c (notes h)) (ending now c h ++ flushing_some_poll s now c (poll_of c (notes h)) fs h)
      (if has_closed c h then removing_conn c h else [])
      (fits_after now c h (ending now c h) (flushing_some_poll s now c (poll_of c (notes h)) fs h) on_ending (on_some_poll (poll_of c (notes h)) fs))
      (either_way (Fits most now c h) (has_closed c h) (removing_conn c h) [] (fits_leaving now c h) (fits_kept now c h [] (keeps_none now c)))

  tells_on : (o : Option ℕ) (pieces : List (List LinkFrame)) → Fits most now c h (flushing_on s now c o pieces h)
  tells_on (Some lane) pieces = on_socket lane pieces
  tells_on None pieces = without (all_of pieces)

-- ---- ticks

silent_fits : {most : ℕ} (now c : ℕ) (h : List ServerEvent) (o : Option ℕ) → Fits most now c h (silenced c o now h)
silent_fits now c h None = fits_kept now c h (step c (Silenced now) ∷ []) (keeps_quiet now c (step c (Silenced now) ∷ []) (tt, tt))
silent_fits {most} now c h (Some lane) =
    fits_after now c h (step c (Silenced now) ∷ []) (losing c lane now h ++ shutting lane h) (keeps_quiet now c (step c (Silenced now) ∷ []) (tt, tt)) both
  where
    both : Fits most now c h (losing c lane now h ++ shutting lane h)
    both g s k e =
        in_turn (Parted most now c g) (losing c lane now h) (shutting lane h) g
        (parted_quiet now c (shutting lane h) g (onto (losing c lane now h) g) (each_shutting IsQuiet lane h tt) (fits_losing now c lane h g s k e))

tick_fits : {most : ℕ} (now c : ℕ) (h : List ServerEvent) → Fits most now c h (ticking now c h)
tick_fits {most} now c h =
    either_way (Fits most now c h) (is_some (present_link (history c h)))
    (if is_silence (config_of c h) now (history c h) then silenced c (socket_of c (notes h)) now h else step c (Ticked now) ∷ []) []
    (either_way (Fits most now c h) (is_silence (config_of c h) now (history c h)) (silenced c (socket_of c (notes h)) now h) (step c (Ticked now) ∷ [])
    (silent_fits now c h (socket_of c (notes h))) (fits_kept now c h (step c (Ticked now) ∷ []) (keeps_quiet now c (step c (Ticked now) ∷ []) (tt, tt))))
    (fits_kept now c h [] (keeps_none now c))

-- ---- one after the other

-- each of these is known, and its peer is as it was after h
abbrev Ready : List ServerEvent → List ServerEvent → List ℕ → Type 0
Ready h g cs = (k : ℕ) → is_in k cs ≡ true → Known k (notes g) × (has_peer k g ≡ has_peer k h)

pub is_other : (c k : ℕ) (cs : List ℕ) → is_in c cs ≡ false → is_in k cs ≡ true → (k == c) ≡ false
is_other c k cs out i = by (k == c) refl where
  by : (b : Bool) → (k == c) ≡ b → b ≡ false
  by true e = let z : true ≡ false = sym i ∙ ap (λ x. is_in x cs) (eqb-true k c e) ∙ out in z
  by false e = refl

further_ready : {most : ℕ} (now c : ℕ) (cs : List ℕ) (h g x : List ServerEvent) → is_in c cs ≡ false → Ready h g (c ∷ cs) → Parted most now c g x → Ready h x cs
further_ready now c cs h g x out ready p k i =
    let other = is_other c k cs out i in
    let was = ready k (or_right (k == c) (is_in k cs) i) in
    (ap is_known (p.others.stand k other) ∙ was.0, p.others.there k other ∙ was.1)

first_ready : (c : ℕ) (cs : List ℕ) (h g : List ServerEvent) → Ready h g (c ∷ cs) → Known c (notes g) × (has_peer c g ≡ has_peer c h)
first_ready c cs h g ready = ready c (or_left (c == c) (is_in c cs) (eq-eqb c c refl))

walk : {most : ℕ} (now : ℕ) (h : List ServerEvent) (f : ℕ → List ServerEvent) → ((c : ℕ) → Fits most now c h (f c)) → (cs : List ℕ) (g : List ServerEvent) → AreApart cs → Ready h g cs
    → Settled most now g → Settled most now (onto (flat_map f cs) g)
walk now h f fits [] g apart ready s = s
walk {most} now h f fits (c ∷ cs) g apart ready s =
    let first = first_ready c cs h g ready in
    let p = fits c g s first.0 first.1 in
    in_turn (Settled most now) (f c) (flat_map f cs) g
    (walk now h f fits cs (onto (f c) g) apart.1 (further_ready now c cs h g (onto (f c) g) apart.0 ready p) p.settled)

walk_told : {most : ℕ} (s : Setup) (now : ℕ) (h : List ServerEvent) (cs : List ℕ) (all : List (List (List LinkFrame))) (g : List ServerEvent) → AreApart cs → Ready h g cs
    → Settled most now g → Settled most now (onto (all_flushing s now cs all h) g)
walk_told s now h [] all g apart ready ok = ok
walk_told s now h (c ∷ cs) [] g apart ready ok = ok
walk_told {most} s now h (c ∷ cs) (pieces ∷ more) g apart ready ok =
    let words : List ServerEvent = flushing s now c pieces h in
    let first = first_ready c cs h g ready in
    let p = tells_on s now c h (socket_of c (notes h)) pieces g ok first.0 first.1 in
    in_turn (Settled most now) words (all_flushing s now cs more h) g
    (walk_told s now h cs more (onto words g) apart.1 (further_ready now c cs h g (onto words g) apart.0 ready p) p.settled)

-- ---- all connections

module _ (t : ℕ → Bool) where
  pub passes : (c : ℕ) (xs : List ℕ) → is_in c (filter t xs) ≡ true → t c ≡ true
  passes c [] e = absurd (cc)
  passes c (x ∷ xs) e = by (t x) refl e (passes c xs) where
    by : (b : Bool) → t x ≡ b → is_in c (if b then x ∷ filter t xs else filter t xs) ≡ true → (is_in c (filter t xs) ≡ true → t c ≡ true) → t c ≡ true
    by true f g further = own (c == x) refl g where
      own : (a : Bool) → (c == x) ≡ a → (a || is_in c (filter t xs)) ≡ true → t c ≡ true
      own true i j = ap t (eqb-true c x i) ∙ f
      own false i j = further j
    by false f g further = further g

pub all_apart : (h : List ServerEvent) → AreApart (connections (work h))
all_apart h = apart-filter (λ c. is_there c (work h)) (numbers_to (greatest (work h))) (numbers_apart (greatest (work h)))

all_ready : {most : ℕ} (now : ℕ) (h : List ServerEvent) → Settled most now h → Ready h h (connections (work h))
all_ready now h s k i = (s.peers k (passes (λ c. is_there c (work h)) k (numbers_to (greatest (work h))) i), refl)

pub ticked_settled : {most : ℕ} (now : ℕ) (h : List ServerEvent) → Settled most now h → Settled most now (onto (ticks now h) h)
ticked_settled now h s = walk now h (λ c. ticking now c h) (λ c. tick_fits now c h) (connections (work h)) h (all_apart h) (all_ready now h s) s

pub told_settled : {most : ℕ} (s : Setup) (now : ℕ) (all : List (List (List LinkFrame))) (h : List ServerEvent) → Settled most now h
    → Settled most now (onto (all_flushing s now (connections (work h)) all h) h)
told_settled s now all h ok = walk_told s now h (connections (work h)) all h (all_apart h) (all_ready now h ok) ok
