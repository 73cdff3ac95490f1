-- A server leaves no request without a reply but the polls that it holds.
use Rattle.std.proofs.Common.{refl, subst, sym, ◌∙◌, ◌≡◌, ℕ, ◌≤◌, Bool, true, false, List, [], ◌∷◌, ◌++◌, Option, Some, None}
use Rattle.std.specs.Prelude.{map, is_some, ◌||◌}
use Rattle.hd_calls.specs.Hubs.{Hub}
use Rattle.hw_door.specs.declared.heard.Event.{Event}
use Rattle.hd_server.specs.Lives.{made, poll_of, poll_ended, socket_of, is_polling}
use Rattle.hd_server.specs.Machine.{Rounds, connections}
use Rattle.hd_server.specs.Doings.{ServerEvent, Works, notes, work, has_peer}
use Rattle.hd_server.specs.Plans.{Setup, onto}
use Rattle.hd_server.specs.Serves.{IsTurn, ticks}
use Rattle.hd_server.specs.Parts.{Each}
use Rattle.hd_server.proofs.Flushing.{is_in}
use Rattle.hd_server.proofs.OrderlyNotes.{Known, within}
use Rattle.hd_server.proofs.OrderlyDoings.{Settled, quiet_settled_after, IsQuiet}
use Rattle.hd_server.proofs.OrderlyEach.{passes, all_apart, ticked_settled, told_settled}
use Rattle.hd_server.proofs.Orderly.{IsOrderly, orderly_then, round_quiet}
use Rattle.hd_server.proofs.RepliesLanes.{Holds, calm_holds, calm_onto, calm_after}
use Rattle.hd_server.proofs.RepliesFlushed.{all_told}
use Rattle.hd_server.proofs.RepliesTurns.{works_calm, ticks_calm}
use Rattle.hd_server.proofs.RepliesOwn.{Own, alike_same, own_alike, quiet_after}
use Rattle.hd_server.proofs.RepliesPhases.{ticked_own}
use Rattle.hd_server.proofs.RepliesOwnFlushed.{Done, done_still, told_own}
use Rattle.hd_server.proofs.RepliesAmong.{among_connections}

-- what holds between events
pub record Sound (most : ℕ) (h : List ServerEvent) : Type 0 where
  pub lanes : Holds None None h
  pub own : (k : ℕ) → Own k h
  pub done : (k : ℕ) → Done k h
  pub ordered : IsOrderly most h

known_there : {most : ℕ} (now : ℕ) (h : List ServerEvent) → Settled most now h → (k : ℕ) → has_peer k h ≡ true → Known k (notes h) × (k ≤ made (notes h))
known_there now h s k there = let u = s.peers k there in (u, (within _ (notes h) s.in_order k u).1)

pub all_among : {most : ℕ} (now : ℕ) (h : List ServerEvent) → Settled most now h → (k : ℕ) → has_peer k h ≡ true → is_in k (connections (work h)) ≡ true
all_among now h s k there = among_connections k h (within _ (notes h) s.in_order k (s.peers k there)).0 there

poll_some : (o : Option (ℕ × ℕ)) (p : ℕ × ℕ) (b : Bool) → o ≡ Some p → (is_some o || b) ≡ true
poll_some (Some q) p b e = refl
poll_some None p b e = absurd (let z : ◌≡◌ {A = Option (ℕ × ℕ)} None (Some p) = e in cc)

-- the last parts of a turn, from what was done about the event on
module _ {Job : Type 0} (hub : Hub Job) (s : Setup) (now : ℕ) (e : Event) (h after : List ServerEvent) (turn : IsTurn hub s now e h after)
    (ok : Settled s.live now turn.handled) (lanes : Holds None None turn.handled) (own : (k : ℕ) → Own k turn.handled) where
  own_clash : (c lane t : ℕ) → is_in c (connections (work turn.handled)) ≡ true → socket_of c (notes turn.handled) ≡ Some lane
      → poll_of c (notes turn.handled) ≡ Some (lane, t) → ⊥
  own_clash c lane t i stands polls =
      let there = passes (λ j. has_peer j turn.handled) c _ i in
      let known = ok.peers c there in
      let none = ((own c).no_socket known (poll_some (poll_of c (notes turn.handled)) (lane, t) (is_some (poll_ended c (notes turn.handled))) polls)).0 in
      absurd (let z : ◌≡◌ {A = Option ℕ} (Some lane) None = sym stands ∙ none in cc)

  ticked_ok : Settled s.live now turn.ticked
  ticked_ok = subst (Settled s.live now) (sym turn.has_ticked) (ticked_settled now turn.handled ok)

  words : Each IsQuiet (map Works turn.round)
  words = round_quiet now turn.round (Rounds now ∷ work turn.ticked) turn.rounds.each

  stepped_ok : Settled s.live now turn.stepped
  stepped_ok =
      subst (Settled s.live now) (sym turn.has_stepped)
      (quiet_settled_after now (map Works turn.round) (Works (Rounds now) ∷ turn.ticked) words
      (quiet_settled_after now (Works (Rounds now) ∷ []) turn.ticked (tt, tt) ticked_ok))

  stepped_lanes : Holds None None turn.stepped
  stepped_lanes =
      let at_ticked = subst (Holds None None) (sym turn.has_ticked)
      (calm_holds None None turn.handled (onto (ticks now turn.handled) turn.handled) (ticks_calm now turn.handled own_clash) lanes) in
      subst (Holds None None) (sym turn.has_stepped)
      (calm_holds None None (Works (Rounds now) ∷ turn.ticked) (map Works turn.round ++ Works (Rounds now) ∷ turn.ticked)
      (calm_after (map Works turn.round) (Works (Rounds now) ∷ turn.ticked) (works_calm turn.round words))
      (calm_holds None None turn.ticked (Works (Rounds now) ∷ turn.ticked) (calm_onto (Works (Rounds now) ∷ []) turn.ticked (tt, tt)) at_ticked))

  stepped_own : (k : ℕ) → Own k turn.stepped
  stepped_own k =
      let at_ticked = subst (Own k) (sym turn.has_ticked) (ticked_own now turn.handled (known_there now turn.handled ok) (all_apart turn.handled) own k) in
      let begun : Own k (Works (Rounds now) ∷ turn.ticked)
      = own_alike k turn.ticked (Works (Rounds now) ∷ turn.ticked) (quiet_after k (Works (Rounds now) ∷ []) turn.ticked (tt, tt)) at_ticked in
      subst (Own k) (sym turn.has_stepped)
      (own_alike k (Works (Rounds now) ∷ turn.ticked) (map Works turn.round ++ Works (Rounds now) ∷ turn.ticked)
      (quiet_after k (map Works turn.round) (Works (Rounds now) ∷ turn.ticked) words) begun)

  there_in : (k : ℕ) → is_in k (connections (work turn.stepped)) ≡ true → has_peer k turn.stepped ≡ true
  there_in k i = passes (λ j. has_peer j turn.stepped) k _ i

  among : (k : ℕ) → has_peer k turn.stepped ≡ true → is_in k (connections (work turn.stepped)) ≡ true
  among = all_among now turn.stepped stepped_ok

  -- one that has no peer doesn't poll
  done_absent : (k : ℕ) → is_in k (connections (work turn.stepped)) ≡ false → Done k turn.stepped
  done_absent k out u f = by (is_polling k (notes turn.stepped)) refl where
    by : (b : Bool) → is_polling k (notes turn.stepped) ≡ b → poll_of k (notes turn.stepped) ≡ None
    by false i = done_still k turn.stepped i u f
    by true i = absurd (let z : true ≡ false = sym (among k ((stepped_own k).there u i)) ∙ out in cc)

  pub sound_after : Sound s.live after
  sound_after =
      let cs : List ℕ = connections (work turn.stepped) in
      let both = told_own s now turn.stepped stepped_own cs turn.pieces turn.stepped turn.all_due (all_apart turn.stepped)
      (λ k i. known_there now turn.stepped stepped_ok k (there_in k i)) (λ k i. alike_same k turn.stepped) stepped_own done_absent in
      record {
        lanes = subst (Holds None None) (sym turn.tells)
            (all_told s now turn.stepped cs turn.pieces turn.stepped (all_apart turn.stepped) (λ k i. (there_in k i, there_in k i, refl)) stepped_lanes);
        own = λ k. subst (Own k) (sym turn.tells) (both k).0;
        done = λ k. subst (Done k) (sym turn.tells) (both k).1;
        ordered = orderly_then now after (subst (Settled s.live now) (sym turn.tells) (told_settled s now turn.pieces turn.stepped stepped_ok));
      }
