-- What more doings tell comes after what was told before; and what holds of every server.
use Rattle.std.proofs.Common.{ap, subst, sym, ◌∙◌, ◌≡◌, List, [], ◌∷◌, ◌++◌, Some, append_assoc, append-nil}
use Rattle.std.specs.Prelude.{map}
use Rattle.hd_calls.specs.Hubs.{Hub}
use Rattle.hd_server.specs.Machine.{Carries, ArePeers}
use Rattle.hd_server.specs.Doings.{Hears, Learns, Draws, Works, Says, Sees, work, hears}
use Rattle.hd_server.specs.Serves.{given_as}
use Rattle.hd_server.specs.Laws.{WhatIsToldGrows, TurnsGoFurther, ServersArePeers}
use Rattle.hd_server.proofs.Seeing.{seen_hears, seen_work}

one_more : {A : Type 0} (x : A) (xs ys zs : List A) → xs ≡ ys ++ zs → xs ++ x ∷ [] ≡ ys ++ (zs ++ x ∷ [])
one_more x xs ys zs e = ap (λ l. l ++ x ∷ []) e ∙ append_assoc ys zs (x ∷ [])

pub what_is_told_grows : WhatIsToldGrows
what_is_told_grows [] h = record {
  heard = sym (append-nil _);
  asked_more = sym (append-nil _);
  drawn_more = sym (append-nil _);
  said_more = sym (append-nil _);
  seen_more = sym (append-nil _);
}
what_is_told_grows (Hears now event ∷ new) h = let g = what_is_told_grows new h in
    record { heard = one_more _ _ _ _ g.heard; asked_more = g.asked_more; drawn_more = g.drawn_more; said_more = g.said_more; seen_more = g.seen_more }
what_is_told_grows (Learns ask ∷ new) h = let g = what_is_told_grows new h in
    record { heard = g.heard; asked_more = one_more _ _ _ _ g.asked_more; drawn_more = g.drawn_more; said_more = g.said_more; seen_more = g.seen_more }
what_is_told_grows (Draws drawn ∷ new) h = let g = what_is_told_grows new h in
    record { heard = g.heard; asked_more = g.asked_more; drawn_more = one_more _ _ _ _ g.drawn_more; said_more = g.said_more; seen_more = g.seen_more }
what_is_told_grows (Says x ∷ new) h = let g = what_is_told_grows new h in
    record { heard = g.heard; asked_more = g.asked_more; drawn_more = g.drawn_more; said_more = one_more _ _ _ _ g.said_more; seen_more = g.seen_more }
what_is_told_grows (Sees lane full ∷ new) h = let g = what_is_told_grows new h in
    record { heard = g.heard; asked_more = g.asked_more; drawn_more = g.drawn_more; said_more = g.said_more; seen_more = one_more _ _ _ _ g.seen_more }
what_is_told_grows (Works (Carries c j d fates (Some ask)) ∷ new) h = let g = what_is_told_grows new h in
    record { heard = g.heard; asked_more = one_more _ _ _ _ g.asked_more; drawn_more = g.drawn_more; said_more = g.said_more; seen_more = g.seen_more }
what_is_told_grows (d ∷ new) h = let g = what_is_told_grows new h in
    record { heard = g.heard; asked_more = g.asked_more; drawn_more = g.drawn_more; said_more = g.said_more; seen_more = g.seen_more }

module _ {Job : Type 0} (law : TurnsGoFurther Job) where
  none_there : (hub : Hub Job) → ArePeers hub []
  none_there hub c t e = absurd (cc)

  pub servers_are_peers : ServersArePeers Job
  servers_are_peers hub s [] h e = record {
    heard = ap hears e;
    peers = subst (λ x. ArePeers hub (work x)) (sym e) (none_there hub);
  }
  servers_are_peers hub s (e ∷ es) h (before, serves, may, one) =
      let was = servers_are_peers hub s es before serves in
      let further = law hub s e.now e.event before one.turned one.turn in
      let given = map given_as one.words in
      record {
        heard = seen_hears given one.full one.turned h one.seen ∙ further.hears_it ∙ ap (λ xs. xs ++ e ∷ []) was.heard;
        peers = subst (ArePeers hub) (sym (seen_work given one.full one.turned h one.seen)) one.turn.peers;
      }
