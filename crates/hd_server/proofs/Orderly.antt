-- What a server notes comes in order.
use Rattle.std.proofs.Common.{refl, subst, sym, ◌≡◌, ℕ, ◌<◌, ◌≤◌, true, false, List, [], ◌∷◌, ◌++◌, arith}
use Rattle.std.specs.Prelude.{map}
use Rattle.hd_calls.specs.Hubs.{Hub}
use Rattle.hw_door.specs.declared.heard.Event.{Event}
use Rattle.hw_door.specs.declared.heard.Heard.{Heard}
use Rattle.hd_server.specs.Lives.{AreInOrder, made, is_removed, last_moment}
use Rattle.hd_server.specs.Machine.{MachineEvent, Rounds, Owed, NothingOwed, OwesDeed, OwesCall, owed, MayFollow, GoesOn}
use Rattle.hd_server.specs.Doings.{ServerEvent, Hears, Works, notes, work, moment, has_peer}
use Rattle.hd_server.specs.Plans.{Setup, plan}
use Rattle.hd_server.specs.Serves.{IsFed, IsTurn, Serves}
use Rattle.hd_server.specs.Parts.{Each}
use Rattle.hd_server.specs.Laws.{ServersNoteInOrder}
use Rattle.hd_server.proofs.Seeing.{Stays, one_stays}
use Rattle.hd_server.proofs.OrderlyNotes.{Known}
use Rattle.hd_server.proofs.OrderlyDoings.{Settled, IsQuiet, quiet_settled_after}
use Rattle.hd_server.proofs.OrderlyEach.{ticked_settled, told_settled}
use Rattle.hd_server.proofs.OrderlyPlans.{plan_settled, asked_settled}
use Rattle.hd_server.proofs.OrderlyExpiries.{expired_settled}

-- ---- a round notes nothing

module _ (now : ℕ) where
  turn_quiet : (o : Owed) (h : List MachineEvent) (x : MachineEvent) → MayFollow now o h x → IsQuiet (Works x)
  turn_quiet (OwesDeed c j d) h x (asked, may, e) = subst (λ y. IsQuiet (Works y)) (sym e) tt
  turn_quiet (OwesCall c j) h x (m, settled, e) = subst (λ y. IsQuiet (Works y)) (sym e) tt
  turn_quiet NothingOwed h x (c, j, call, since, turn, what, next, at, told, e) = subst (λ y. IsQuiet (Works y)) (sym e) tt

  pub round_quiet : (xs h : List MachineEvent) → GoesOn now xs h → Each IsQuiet (map Works xs)
  round_quiet [] h e = tt
  round_quiet (x ∷ xs) h e = (turn_quiet (owed (xs ++ h)) (xs ++ h) x e.1, round_quiet xs h e.0)

-- ---- the whole of it

-- what holds between events: one that has a peer is known, and none was let go that wasn't made
pub record IsOrderly (most : ℕ) (h : List ServerEvent) : Type 0 where
  pub in_order : AreInOrder most (notes h)
  pub not_later : last_moment (notes h) ≤ moment h
  pub peers : (c : ℕ) → has_peer c h ≡ true → Known c (notes h)
  pub made_first : (c : ℕ) → made (notes h) < c → is_removed c (notes h) ≡ false

turn_settled : {Job : Type 0} → (hub : Hub Job) (s : Setup) (now : ℕ) (e : Event) (h after : List ServerEvent) → IsTurn hub s now e h after
    → moment h ≤ now → IsOrderly s.live h → Settled s.live now after
turn_settled hub s now e h after turn later was =
    let heard : List ServerEvent = Hears now e ∷ h in
    let expired : Settled s.live now turn.expired
    = subst (Settled s.live now) (sym turn.expires) (expired_settled now heard was.in_order (omega (arith, later, was.not_later)) refl was.peers was.made_first) in
    let asked : Settled s.live now turn.asked = subst (Settled s.live now) (sym turn.asks) (asked_settled s now e turn.name turn.drawn turn.expired expired) in
    let feeds = subst (λ begun. IsFed now (plan s now e turn.name turn.drawn turn.asked).food begun turn.fed) turn.begins turn.feeds in
    let handled : Settled s.live now turn.handled
    = subst (Settled s.live now) (sym turn.handles) (plan_settled s now e turn.name turn.drawn turn.asked turn.fed asked feeds) in
    let ticked : Settled s.live now turn.ticked = subst (Settled s.live now) (sym turn.has_ticked) (ticked_settled now turn.handled handled) in
    let begun : Settled s.live now (Works (Rounds now) ∷ turn.ticked) = quiet_settled_after now (Works (Rounds now) ∷ []) turn.ticked (tt, tt) ticked in
    let stepped : Settled s.live now turn.stepped
    = subst (Settled s.live now) (sym turn.has_stepped)
    (quiet_settled_after now (map Works turn.round) (Works (Rounds now) ∷ turn.ticked)
    (round_quiet now turn.round (Rounds now ∷ work turn.ticked) turn.rounds.each) begun) in
    subst (Settled s.live now) (sym turn.tells) (told_settled s now turn.pieces turn.stepped stepped)

pub orderly_then : {most : ℕ} (now : ℕ) (h : List ServerEvent) → Settled most now h → IsOrderly most h
orderly_then now h s = record {
  in_order = s.in_order;
  not_later = subst (λ m. last_moment (notes h) ≤ m) (sym s.is_now) s.not_later;
  peers = s.peers;
  made_first = s.made_first;
}

pub orderly_stays : {most : ℕ} → Stays (IsOrderly most)
orderly_stays lane full h was =
    record { in_order = was.in_order; not_later = was.not_later; peers = was.peers; made_first = was.made_first }

pub nothing_done : {most : ℕ} → IsOrderly most []
nothing_done = record { in_order = tt; not_later = omega arith; peers = λ c e. absurd (cc); made_first = λ c over. refl }

orderly : {Job : Type 0} → (hub : Hub Job) (s : Setup) (es : List Heard) (h : List ServerEvent) → Serves hub s es h → IsOrderly s.live h
orderly hub s [] h e = subst (IsOrderly s.live) (sym e) nothing_done
orderly hub s (e ∷ es) h (before, serves, may, one) =
    one_stays (IsOrderly s.live) orderly_stays hub s e before h one
    (orderly_then e.now one.turned (turn_settled hub s e.now e.event before one.turned one.turn may.0 (orderly hub s es before serves)))

pub servers_note_in_order : {Job : Type 0} → ServersNoteInOrder Job
servers_note_in_order hub s es h serves =
    let all = orderly hub s es h serves in
    record { in_order = all.in_order; not_later = all.not_later }
