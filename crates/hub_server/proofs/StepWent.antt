-- The parts of a turn, put together.
use Rattle.std.proofs.Common.{◌≡◌, ℕ, ◌==◌, true, false, ◌||◌, List, [], ◌∷◌, ◌++◌, Option, Some, None}
use Rattle.std.proofs.Common.{refl, sym, ap, subst, ◌∙◌}
use Rattle.std.specs.Prelude.{map, option_map, if◌then◌else◌}
use Rattle.std.specs.Ordering.{nat_cmp}
use Rattle.std.specs.BTreeMap.{get}
use Rattle.std.proofs.lemmas.Bool.{eq-eqb}
use Rattle.std.proofs.lemmas.List.{append_assoc, append-nil}
use Rattle.hd_calls.specs.Hubs.{Hub}
use Rattle.hd_rooms.specs.declared.vocabulary.Asked.{Asked}
use Rattle.hd_rooms.specs.KeptLaws.{AnswersJoin}
use Rattle.hw_door.specs.declared.heard.Event.{Event}
use Rattle.hw_door.specs.declared.heard.Event.TheVariants as event
use Rattle.hw_door.specs.declared.heard.Heard.{Heard}
use Rattle.hd_server.specs.declared.vocabulary.Said.{Said}
use Rattle.hd_server.specs.Machine.{MachineEvent, Rounds, IsRound, connections}
use Rattle.hd_server.specs.Doings.{ServerEvent, Hears, Works, work, moment, asked, awaits_reply, said, is_full, wants_shut, was_refused}
use Rattle.hd_server.specs.Plans.{Setup, onto, plan, questions}
use Rattle.hd_server.specs.Serves.{IsFed, IsFree, all_flushing, ticks}
use Rattle.hd_server.specs.Laws.{PartsOfTurns}
use Rattle.hub_server.specs.declared.server.Server.{Server}
use Rattle.hub_server.specs.Lanes.{lane_of, settled}
use Rattle.hub_server.specs.Servers.{IsRested, Standing}
use Rattle.hub_server.specs.Steps.{AddsAll, Outside, CanHandle, CountsDraws, Follows, Handles, HasTurn, IsHandled, IsRounded, IsFlushed, NoneOverdue}
use Rattle.hub_server.specs.Steps.{TurnsTo, expired_by, lost_in}
use Rattle.hub_server.proofs.StepHears.{nobody_comes}
use Rattle.hub_server.proofs.StepExpired.{expiries_rest, expiries_wane, nobody_wanes}
use Rattle.hub_server.proofs.StepMute.{expiries_quiet, fed_quiet, first_quiet, last_quiet, questions_at, round_at, round_draws, tells_quiet, ticks_quiet}
use Rattle.hub_server.proofs.Alike.{alike_hears, rested_alike}

-- ---- before the event is handled

pub rested_still : PartsOfTurns → (now : ℕ) (e : Event) (h : List ServerEvent) → ((c : ℕ) → IsRested c h) → (c : ℕ) → IsRested c (expired_by (Hears now e ∷ h))
rested_still law now e h rested c = expiries_rest law now c (Hears now e ∷ h) (rested_alike c (Hears now e ∷ h) h (alike_hears now e c h) (rested c))

pub can_handle : {H Job : Type 0} → PartsOfTurns → (hub : Hub Job) (s : Setup) (before : List Said) (v : Server H Job) (now : ℕ) (e : Event) (h : List ServerEvent)
    → Standing {H = H} hub s settled before v h → IsFree e h → CanHandle e (expired_by (Hears now e ∷ h))
can_handle {H} law hub s before v now (event.Request lane r) h stands free =
    let heard : List ServerEvent = Hears now (event.Request lane r) ∷ h in
    let wanes = expiries_wane law now heard heard in
    let same : (lane == lane) ≡ true = eq-eqb lane lane refl in (
      record {
        waits = wanes.waits lane ∙ ap (λ b. b || awaits_reply lane h) same;
        last = sym (wanes.shut lane ∙ ap (λ b. if b then r.shut else wants_shut lane h) same);
        unrefused = wanes.refused lane ∙ ap (λ b. if b then false else was_refused lane h) same;
        empty = wanes.full lane ∙ ap (λ b. if b then false else is_full lane h) same;
        nobody = nobody_wanes lane (expired_by heard) heard wanes (nobody_comes now lane r (get nat_cmp v.lanes lane) h free (stands.lanes lane));
      },
      wanes.name,
    )
can_handle {H} law hub s before v now (event.Refused lane status) h stands free = tt
can_handle {H} law hub s before v now (event.Bytes lane bytes) h stands free = tt
can_handle {H} law hub s before v now (event.Response lane status body) h stands free = tt
can_handle {H} law hub s before v now (event.Upgraded lane) h stands free = tt
can_handle {H} law hub s before v now (event.Lost lane) h stands free = tt
can_handle {H} law hub s before v now (event.Drained lane) h stands free = tt
can_handle {H} law hub s before v now event.Quiet h stands free = tt

-- ---- moments

-- an event is handled at its moment
record HandledAt (s : Setup) (now : ℕ) (e : Event) (name : Option (Option (List ℕ))) (drawn : Option (List ℕ)) (h after : List ServerEvent) : Type 0 where
  asks : List ServerEvent
  are : asks ≡ onto (questions s now e name drawn h) h
  fed : List ServerEvent
  feeds : IsFed now (plan s now e name drawn asks).food (onto (plan s now e name drawn asks).first asks) fed
  is : after ≡ onto (plan s now e name drawn asks).last fed
  at : moment after ≡ now

handled_at : PartsOfTurns → (s : Setup) (now : ℕ) (e : Event) (h after : List ServerEvent) (x : IsHandled s e h after) → moment h ≡ now
    → HandledAt s now e x.name x.drawn h after
handled_at law s now e h after x at =
    let follows = subst (λ n. Follows (plan s n e x.name x.drawn (onto (questions s n e x.name x.drawn h) h))
    (onto (questions s n e x.name x.drawn h) h) after) at x.follows in
    let asks : List ServerEvent = onto (questions s now e x.name x.drawn h) h in
    let p = plan s now e x.name x.drawn asks in
    let asks_at : moment asks ≡ now = questions_at law s now e x.name x.drawn h h ∙ at in
    let feeds = subst (λ n. IsFed n p.food (onto p.first asks) follows.fed) asks_at follows.feeds in
    record {
      asks = asks;
      are = refl;
      fed = follows.fed;
      feeds = feeds;
      is = follows.is;
      at = ap moment follows.is ∙ (last_quiet law s now e x.name x.drawn asks follows.fed).at
          ∙ (fed_quiet now p.food (onto p.first asks) follows.fed feeds).at ∙ (first_quiet law s now e x.name x.drawn asks asks).at ∙ asks_at;
    }

-- ---- the whole of it

-- the list that a keeper tells goes on twice
goes_on : (o p q : Option (List Asked)) (xs ys : List Asked) → p ≡ option_map (λ (known : List Asked). known ++ xs) o
    → q ≡ option_map (λ (known : List Asked). known ++ ys) p → q ≡ option_map (λ (known : List Asked). known ++ (xs ++ ys)) o
goes_on None p q xs ys e f = f ∙ ap (option_map (λ (known : List Asked). known ++ ys)) e
goes_on (Some known) p q xs ys e f = f ∙ ap (option_map (λ (known : List Asked). known ++ ys)) e ∙ ap Some (append_assoc known xs ys)

abbrev pub ticked : List ServerEvent → List ServerEvent
ticked h = onto (ticks (moment h) h) h

abbrev pub rounded : List MachineEvent → List ServerEvent → List ServerEvent
rounded round h = map Works round ++ Works (Rounds (moment h)) ∷ h

-- both at the moment of the event
rounded_at : PartsOfTurns → (round : List MachineEvent) (h : List ServerEvent) → moment (rounded round (ticked h)) ≡ moment h
rounded_at law round h = round_at round (Works (Rounds (moment (ticked h))) ∷ ticked h) ∙ (ticks_quiet law (moment h) h h).at

pub turns_to : {H Job : Type 0} → PartsOfTurns → (hub : Hub Job) (s : Setup) (before : List Said) (v w x : Server H Job) (at mid since : Outside) (now : ℕ) (e : Event)
    (h : List ServerEvent)
    (handled : Handles {H = H} hub s before v at mid e (expired_by (Hears now e ∷ h)))
    (turned : IsRounded {H = H} hub s settled before w mid.holds mid.answers mid.faults since.holds since.answers since.faults (ticked handled.after))
    → IsFlushed {H = H} hub s before x (rounded turned.on.round (ticked handled.after))
    → since.drawn ≡ mid.drawn → since.failures ≡ mid.failures → AnswersJoin
    → TurnsTo {H = H} hub s before x at since (record { now = now; event = e }) h
turns_to {H} law hub s before v w x at mid since now e h handled turned told drawn failures join =
    let heard : List ServerEvent = Hears now e ∷ h in
    let expired : List ServerEvent = expired_by heard in
    let waned = expiries_quiet law now heard heard in
    let a : List ServerEvent = handled.after in
    let by = handled_at law s now e expired a handled.is_handled waned.at in
    let t : List ServerEvent = ticked a in
    let tick = ticks_quiet law (moment a) a a in
    let at_t : moment t ≡ now = tick.at ∙ by.at in
    let round = turned.on.round in
    let r : List ServerEvent = rounded round t in
    let at_r : moment r ≡ now = round_at round (Works (Rounds (moment t)) ∷ t) ∙ at_t in
    let tells = tells_quiet law s (moment r) (connections (work r)) told.pieces r r in
    let after : List ServerEvent = onto (all_flushing s (moment r) (connections (work r)) told.pieces r) r in
    record {
      after = after;
      turn = record {
        name = handled.is_handled.name;
        drawn = handled.is_handled.drawn;
        of_sixteen = handled.is_handled.of_sixteen;
        expired = expired;
        expires = refl;
        asked = by.asks;
        asks = by.are;
        begun = onto (plan s now e handled.is_handled.name handled.is_handled.drawn by.asks).first by.asks;
        begins = refl;
        fed = by.fed;
        feeds = by.feeds;
        handled = a;
        handles = by.is;
        ticked = t;
        has_ticked = ap (λ n. onto (ticks n a) a) by.at;
        round = round;
        rounds = subst (λ n. IsRound n round (work t)) at_t turned.on.is_round;
        stepped = r;
        has_stepped = ap (λ n. map Works round ++ Works (Rounds n) ∷ t) at_t;
        pieces = told.pieces;
        all_due = told.all_due;
        tells = ap (λ n. onto (all_flushing s n (connections (work r)) told.pieces r) r) at_r;
        peers = told.stands.machine.peers;
      };
      stands = told.stands;
      rested = told.rested;
      left_alone = told.left_alone;
      went = record {
        asks = handled.went.asks ++ turned.on.asks;
        asked_are =
            tells.asks ∙ turned.on.asked_are
            ∙ ap (λ l. l ++ turned.on.asks) (tick.asks ∙ handled.went.asked_are ∙ ap (λ l. l ++ handled.went.asks) waned.asks)
            ∙ append_assoc (asked h) handled.went.asks turned.on.asks;
        told = goes_on at.answers mid.answers since.answers handled.went.asks turned.on.asks handled.went.told turned.told;
        kept = join.kept at.holds mid.holds since.holds handled.went.asks turned.on.asks handled.went.kept turned.kept;
        counted = join.faults at.faults mid.faults since.faults handled.went.asks turned.on.asks handled.went.counted turned.counted;
        drew = handled.went.drew;
        drawn_are =
            tells.draws ∙ round_draws round (Works (Rounds (moment t)) ∷ t) ∙ tick.draws ∙ handled.went.drawn_are
            ∙ ap (λ l. l ++ handled.went.drew) waned.draws;
        drawn_told = subst (λ o. AddsAll at.drawn o handled.went.drew) (sym drawn) handled.went.drawn_told;
        failed = subst (λ n. CountsDraws at.failures handled.went.drew n) (sym failures) handled.went.failed;
      };
    }

-- ---- one part after the other

module _ {H Job : Type 0} (law : PartsOfTurns) (hub : Hub Job) (s : Setup) (before : List Said) (v1 v2 v3 v4 v5 x : Server H Job) (at mid since : Outside) (now : ℕ)
    (e : Event)
    (h : List ServerEvent) (drawn : since.drawn ≡ mid.drawn) (failures : since.failures ≡ mid.failures) (join : AnswersJoin)
    (on_time : v4.machine.idle_set.clock.moment ≡ v3.moment) (still : v5.machine.idle_set.clock.moment ≡ v4.machine.idle_set.clock.moment)
    (tell : (g : List ServerEvent) → Standing {H = H} hub s settled before v5 g → v5.machine.idle_set.clock.moment ≡ moment g → IsFlushed {H = H} hub s before x g) where
  from_rounded : (handled : Handles {H = H} hub s before v3 at mid e (expired_by (Hears now e ∷ h)))
      → IsRounded {H = H} hub s settled before v5 mid.holds mid.answers mid.faults since.holds since.answers since.faults (ticked handled.after)
      → TurnsTo {H = H} hub s before x at since (record { now = now; event = e }) h
  from_rounded handled turned =
      turns_to {H = H} law hub s before v3 v5 x at mid since now e h handled turned
      (tell (rounded turned.on.round (ticked handled.after)) turned.on.stands
      (still ∙ on_time ∙ handled.stands.clock ∙ sym (rounded_at law turned.on.round handled.after))) drawn failures join

  from_handled : ((g : List ServerEvent) → Standing {H = H} hub s settled before v3 g → Standing {H = H} hub s settled before v4 (ticked g))
      → ((g : List ServerEvent) → Standing {H = H} hub s settled before v4 g
      → IsRounded {H = H} hub s settled before v5 mid.holds mid.answers mid.faults since.holds since.answers since.faults g)
      → Handles {H = H} hub s before v3 at mid e (expired_by (Hears now e ∷ h))
      → TurnsTo {H = H} hub s before x at since (record { now = now; event = e }) h
  from_handled tick turn handled = from_rounded handled (turn (ticked handled.after) (tick handled.after handled.stands))

  pub turns_through : ((g : List ServerEvent) → Standing {H = H} hub s settled before v3 g → Standing {H = H} hub s settled before v4 (ticked g))
      → ((g : List ServerEvent) → Standing {H = H} hub s settled before v4 g
      → IsRounded {H = H} hub s settled before v5 mid.holds mid.answers mid.faults since.holds since.answers since.faults g)
      → ((g : List ServerEvent) → Standing {H = H} hub s (lane_of (lost_in e)) before v2 g → ((c : ℕ) → IsRested c g) → CanHandle e g → NoneOverdue g
      → Handles {H = H} hub s before v3 at mid e g)
      → ((g : List ServerEvent) → Standing {H = H} hub s (lane_of (lost_in e)) before v1 g → Standing {H = H} hub s (lane_of (lost_in e)) before v2
      (expired_by g))
      → ((g : List ServerEvent) → Standing {H = H} hub s (lane_of (lost_in e)) before v1 g → NoneOverdue (expired_by g))
      → Standing {H = H} hub s (lane_of (lost_in e)) before v1 (Hears now e ∷ h) → ((c : ℕ) → IsRested c h)
      → CanHandle e (expired_by (Hears now e ∷ h))
      → TurnsTo {H = H} hub s before x at since (record { now = now; event = e }) h
  turns_through tick turn handle expire over heard rested can =
      from_handled tick turn (handle (expired_by (Hears now e ∷ h)) (expire (Hears now e ∷ h) heard) (rested_still law now e h rested) can
      (over (Hears now e ∷ h) heard))

-- ---- between events

pub has_turn : {H Job : Type 0} (hub : Hub Job) (s : Setup) (w x : Server H Job) (at since : Outside) (e : Heard) (h : List ServerEvent) (words : List Said)
    → TurnsTo {H = H} hub s (said h) w at since e h → words ≡ w.words → x ≡ record w { is_ended = false; words = [] }
    → HasTurn {H = H} hub s x at since e h words
has_turn {H} hub s w x at since e h words turned same is =
    subst (λ z. HasTurn {H = H} hub s z at since e h words) (sym is)
    (record {
      after = turned.after;
      turn = turned.turn;
      stands = record {
        lives = refl;
        stands = record {
          setup = turned.stands.setup;
          machine = turned.stands.machine;
          front = turned.stands.front;
          callers = turned.stands.callers;
          lanes = turned.stands.lanes;
          begun = turned.stands.begun;
          orderly = turned.stands.orderly;
          clock = turned.stands.clock;
          words = sym (append-nil (said turned.after));
        };
        rested = turned.rested;
      };
      left_alone = turned.left_alone;
      tells = turned.stands.words ∙ ap (λ l. said h ++ l) (sym same);
      went = turned.went;
    })
