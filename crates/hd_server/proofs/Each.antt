-- What holds of each event of a list: of lists put together, and of the small parts of which turns are made, by the events that they may have.
use Rattle.std.proofs.Common.{ℕ, Bool, true, false, List, [], ◌∷◌, ◌++◌, Option, Some, None}
use Rattle.std.specs.Prelude.{map, not, is_some, ◌&&◌, if◌then◌else◌}
use Rattle.std.specs.List.{flat_map}
use Rattle.hw_lanes.specs.declared.http.Reply.{Reply}
use Rattle.hd_delivery.specs.declared.vocabulary.Reason.{Reason}
use Rattle.hd_delivery.specs.Frames.{LinkFrame}
use Rattle.hd_delivery.specs.Histories.{Closed, Lent}
use Rattle.hd_calls.specs.Peers.{PeerEvent, Settings}
use Rattle.hd_server.specs.declared.vocabulary.Said.TheVariants as say
use Rattle.hd_server.specs.Lives.{Answered, LaneLost, Ended, Removed, ended_at}
use Rattle.hd_server.specs.Machine.{Connects, Does, Goes, settings_of}
use Rattle.hd_server.specs.Doings.{ServerEvent, Notes, Works, Says, notes, work, was_refused, has_closed, has_peer, is_up, may_resume}
use Rattle.hd_server.specs.Plans.{Setup, step, connecting, closing, dropping, removing_conn, removing_some, losing, shutting, shutting_some, shutting_after, ends_lane, reply_on, replying, bare_reply, ending_poll}
use Rattle.hd_server.specs.Serves.{lending, writing, ending}
use Rattle.hd_server.specs.Parts.{Each, IsOfAny}

pub either_way : {A : Type 0} (P : A → Type 0) (b : Bool) (x y : A) → P x → P y → P (if b then x else y)
either_way P true x y p q = p
either_way P false x y p q = q

pub each_so : (P Q : ServerEvent → Type 0) → ((d : ServerEvent) → P d → Q d) → (ds : List ServerEvent) → Each P ds → Each Q ds
each_so P Q so [] a = tt
each_so P Q so (d ∷ ds) a = (so d a.0, each_so P Q so ds a.1)

pub each_of_any : (P : ℕ → ServerEvent → Type 0) (c : ℕ) (ds : List ServerEvent) → Each (P c) ds → Each (IsOfAny P) ds
each_of_any P c ds a = each_so (P c) (IsOfAny P) (λ d p. (c, p)) ds a

module _ (P : ServerEvent → Type 0) where
  pub each_join : (xs ys : List ServerEvent) → Each P xs → Each P ys → Each P (xs ++ ys)
  each_join [] ys a b = b
  each_join (x ∷ xs) ys a b = (a.0, each_join xs ys a.1 b)

  pub each_when : (b : Bool) (ds : List ServerEvent) → Each P ds → Each P (if b then ds else [])
  each_when b ds a = either_way (Each P) b ds [] a tt

  pub each_map : {A : Type 0} (f : A → ServerEvent) → ((x : A) → P (f x)) → (xs : List A) → Each P (map f xs)
  each_map f p [] = tt
  each_map f p (x ∷ xs) = (p x, each_map f p xs)

  pub each_of_all : (f : ℕ → List ServerEvent) → ((c : ℕ) → Each P (f c)) → (cs : List ℕ) → Each P (flat_map f cs)
  each_of_all f a [] = tt
  each_of_all f a (c ∷ cs) = each_join (f c) (flat_map f cs) (a c) (each_of_all f a cs)

  -- ---- what is said

  pub each_shutting : (lane : ℕ) (h : List ServerEvent) → P (Says (say.Shut lane)) → Each P (shutting lane h)
  each_shutting lane h shut = either_way (Each P) (was_refused lane h) [] (Says (say.Shut lane) ∷ []) tt (shut, tt)

  pub each_shutting_some : (lane : Option ℕ) (h : List ServerEvent) → ((l : ℕ) → P (Says (say.Shut l))) → Each P (shutting_some lane h)
  each_shutting_some None h shut = tt
  each_shutting_some (Some lane) h shut = each_shutting lane h (shut lane)

  pub each_shutting_after : (lane : ℕ) (reply : Reply) (h : List ServerEvent) → P (Says (say.Shut lane)) → Each P (shutting_after lane reply h)
  each_shutting_after lane reply h shut = each_when (ends_lane lane reply.status h) (Says (say.Shut lane) ∷ []) (shut, tt)

  pub each_replying : (lane : ℕ) (reply : Reply) (h : List ServerEvent) → P (Says (say.Reply lane (reply_on lane reply h))) → P (Says (say.Shut lane))
      → Each P (replying lane reply h)
  each_replying lane reply h said shut = (said, each_shutting_after lane reply h shut)

  pub each_ending_poll : (c now : ℕ) (poll : Option (ℕ × ℕ)) (h : List ServerEvent)
      → ((lane : ℕ) → P (Says (say.Reply lane (reply_on lane (bare_reply 204) h)))) → ((lane : ℕ) → P (Says (say.Shut lane)))
      → ((lane : ℕ) → P (Notes (Answered c lane now))) → Each P (ending_poll c now poll h)
  each_ending_poll c now None h said shut noted = tt
  each_ending_poll c now (Some poll) h said shut noted =
      each_join (replying poll.0 (bare_reply 204) h) (Notes (Answered c poll.0 now) ∷ [])
      (each_replying poll.0 (bare_reply 204) h (said poll.0) (shut poll.0)) (noted poll.0, tt)

  pub each_lending : (c : ℕ) (frames : List LinkFrame) → ((f : LinkFrame) → P (step c (Lent f))) → Each P (lending c frames)
  each_lending c frames lent = each_map (λ f. step c (Lent f)) lent frames

  pub each_writing : (s : Setup) (c lane : ℕ) (pieces : List (List LinkFrame)) (h : List ServerEvent)
      → ((bytes : List ℕ) (text : Bool) → P (Says (say.Bytes lane bytes text))) → Each P (writing s c lane pieces h)
  each_writing s c lane [] h said = tt
  each_writing s c lane (p ∷ pieces) h said = (said _ _, each_writing s c lane pieces h said)

  -- ---- what connections do

  pub each_connecting : (s : Setup) (c : ℕ) (reconnect : Bool) (h : List ServerEvent)
      → ((t : Settings) (user : Option (List ℕ)) → P (Works (Connects c t user))) → Each P (connecting s c reconnect h)
  each_connecting s c reconnect h begun = either_way (Each P) (is_some (settings_of c (work h))) [] _ tt (begun _ _, tt)

  pub each_closing : (c : ℕ) (why : Reason) (h : List ServerEvent) → P (step c (Closed why false)) → Each P (closing c why h)
  each_closing c why h closed = each_when (is_up c h) (step c (Closed why false) ∷ []) (closed, tt)

  pub each_dropping : (c : ℕ) (h : List ServerEvent) → P (Works (Goes c)) → Each P (dropping c h)
  each_dropping c h gone = each_when (has_peer c h) (Works (Goes c) ∷ []) (gone, tt)

  pub each_removing : (c : ℕ) (h : List ServerEvent) → P (Works (Goes c)) → P (Notes (Removed c)) → Each P (removing_conn c h)
  each_removing c h gone noted = each_join (dropping c h) (Notes (Removed c) ∷ []) (each_dropping c h gone) (noted, tt)

  pub each_removing_some : (o : Option ℕ) (h : List ServerEvent) → ((c : ℕ) → P (Works (Goes c))) → ((c : ℕ) → P (Notes (Removed c)))
      → Each P (removing_some o h)
  each_removing_some None h gone noted = tt
  each_removing_some (Some c) h gone noted = each_removing c h (gone c) (noted c)

  pub each_losing : (c lane now : ℕ) (h : List ServerEvent) → P (Notes (LaneLost c lane now)) → P (Works (Goes c)) → P (Notes (Removed c))
      → Each P (losing c lane now h)
  each_losing c lane now h lost gone noted =
      either_way (Each P) (may_resume c h) (Notes (LaneLost c lane now) ∷ []) (removing_conn c h) (lost, tt) (each_removing c h gone noted)

  pub each_ending : (now c : ℕ) (h : List ServerEvent) → P (Notes (Ended c now)) → Each P (ending now c h)
  each_ending now c h noted = each_when (has_closed c h && not (is_some (ended_at c (notes h)))) (Notes (Ended c now) ∷ []) (noted, tt)

  pub each_move : (c : ℕ) (moves : List PeerEvent) → ((m : PeerEvent) → P (Works (Does c m))) → Each P (map (λ m. Works (Does c m)) moves)
  each_move c moves done = each_map (λ m. Works (Does c m)) done moves
