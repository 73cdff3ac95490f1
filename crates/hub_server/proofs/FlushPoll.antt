-- What a connection says by the poll that it holds.
use Rattle.std.proofs.Common.{◌≡◌, ◌<◌, ◌≤◌, ℕ, ◌+◌, ◌-◌, Bool, true, false, ◌||◌, List, [], ◌∷◌, ◌++◌, Option, Some}
use Rattle.std.proofs.Common.{refl, sym, ap, subst, ◌∙◌, ◌⊎◌, None, arith, inl, inr}
use Rattle.std.specs.Prelude.{if◌then◌else◌, ◌&&◌, nat_le, option_map}
use Rattle.std.proofs.lemmas.Bool.{both_ways, eq-eqb, le-leb, leb-true, true≢false}
use Rattle.hw_lanes.specs.declared.http.Reply.{Reply}
use Rattle.hd_delivery.specs.Due.{due}
use Rattle.hd_delivery.specs.Frames.{LinkFrame}
use Rattle.hd_delivery.specs.Histories.{is_this}
use Rattle.hd_calls.specs.Hubs.{Hub}
use Rattle.hd_calls.specs.Peers.{is_shut, steps}
use Rattle.hd_server.specs.declared.vocabulary.Said.{Said}
use Rattle.hd_server.specs.Numbers.{held_for, most_before_last}
use Rattle.hd_server.specs.Lives.{Answered, ConnectionEvent, poll_of, socket_of}
use Rattle.hd_server.specs.Doings.{ServerEvent, Notes, config_of, has_closed, has_peer, history, moment, notes}
use Rattle.hd_server.specs.Plans.{Setup, bare_reply, frames_reply, removing_conn, onto, replying}
use Rattle.hd_server.specs.Serves.{LendsUpTo, bytes_of, lending, flushing_poll}
use Rattle.hub_machine.specs.declared.machine.Machine.{Machine}
use Rattle.hub_server.specs.declared.server.Server.{Server}
use Rattle.hub_machine.specs.Machines.{IsIndexed, OfConn, StandsMachine, peer_at}
use Rattle.hub_machine.specs.Sleeping.{IsUpWithCause}
use Rattle.hub_machine.specs.Traffic.{LendsSome, is_any}
use Rattle.hub_server.specs.Connections.{Frees, IsKnown}
use Rattle.hub_server.specs.Lanes.{Unsettled, is_at, lane_of, poll_lane, settled}
use Rattle.hub_server.specs.Servers.{OfEach, Standing, may_speak}
use Rattle.hub_server.specs.Flushes.{FlushesPoll}
use Rattle.hub_server.proofs.OntoAlike.{onto_append}
use Rattle.hub_server.proofs.FlushSaid.{Mild, SaidSome, closed_is, is_one, known_mild, letting_mild, mild_lends, mild_says, replying_mild}
use Rattle.hub_server.proofs.FlushSaid.{replying_says, said_some, standing_rests}
use Rattle.hub_server.proofs.Resting.{answered_none, answered_polls, unpolled_is_mute, up_gone}

-- the poll is held on its lane
lane_of_poll : (c lane since : ℕ) (n : List ConnectionEvent) → poll_of c n ≡ Some (lane, since) → poll_lane c n ≡ Some lane
lane_of_poll c lane since n e = ap (λ (o : Option (ℕ × ℕ)). option_map (λ (poll : ℕ × ℕ). poll.0) o) e

or_true : (b : Bool) → (b || true) ≡ true
or_true true = refl
or_true false = refl

at_poll : (lane c : ℕ) (h : List ServerEvent) → has_peer c h ≡ true → poll_lane c (notes h) ≡ Some lane → is_at lane c h ≡ true
at_poll lane c h there on =
    ap (λ (b : Bool). b && (is_this lane (socket_of c (notes h)) || is_this lane (poll_lane c (notes h)))) there
    ∙ ap (λ (o : Option ℕ). is_this lane (socket_of c (notes h)) || is_this lane o) on
    ∙ ap (λ (b : Bool). is_this lane (socket_of c (notes h)) || b) (eq-eqb lane lane refl)
    ∙ or_true (is_this lane (socket_of c (notes h)))

-- what is due at one whose poll was answered can't be said
answered_is_mute : {H Job : Type 0} (hub : Hub Job) (s : Setup) (u : Unsettled) (before : List Said) (v : Server H Job) (c lane since now : ℕ)
    (g : List ServerEvent) → Standing {H = H} hub s u before v (Notes (Answered c lane now) ∷ g) → poll_of c (notes g) ≡ Some (lane, since)
    → may_speak c (Notes (Answered c lane now) ∷ g) ≡ false
answered_is_mute {H} {Job} hub s u before v c lane since now g x held =
    unpolled_is_mute {H = H} {Job = Job} hub s u before v c (Notes (Answered c lane now) ∷ g) x (answered_polls c lane now (notes g) since held)
    (answered_none c lane now (notes g) since held)

-- the reply that ends a poll leaves its connection as it was
abbrev pub Answers : {H Job : Type 0} → Hub Job → Server H Job → Server H Job → ℕ → ℕ → Reply → Type 0
Answers {H} hub old new c lane reply = OfEach {H = H} hub old (λ s u before h. u ≡ settled → has_peer c h ≡ true → poll_lane c (notes h) ≡ Some lane →
    Standing {H = H} hub s u before new (Notes (Answered c lane (moment h)) ∷ onto (replying lane reply h) h))

module _ {H Job : Type 0} (hub : Hub Job) (s : Setup) (u : Unsettled) (before : List Said) (v : Server H Job) (m : Machine H Job) (c lane since : ℕ)
    (any : Bool) (old out : List ℕ) (h : List ServerEvent)
    (none : old ≡ []) (y : Standing {H = H} hub s u before v h) (calm : u ≡ settled) (there : has_peer c h ≡ true)
    (held : poll_of c (notes h) ≡ Some (lane, since))
    (of : OfConn {H = H} hub v.machine c (λ w t k. old ≡ [] → LendsSome {H = H} hub m c w t k any out)) where
  x : Standing {H = H} hub s settled before v h
  x = subst (λ w. Standing {H = H} hub s w before v h) calm y

  said : SaidSome {H = H} hub s settled before (record v { machine = m }) c any out h
  said = said_some {H = H} {Job = Job} hub s settled before v m c any old out h none x there of

  -- frames were due
  pub polls_some : (new : Server H Job) (reply : Reply) → any ≡ true → reply ≡ frames_reply out
      → Answers {H = H} hub (record v { machine = m }) new c lane reply
      → FlushesPoll {H = H} hub s before new c (lane, since) h
  polls_some new reply e is answers = go said.frames said.due (sym said.some ∙ e) (is ∙ ap frames_reply said.bytes) said.stands
    where
      go : (fs : List LinkFrame) → LendsUpTo s.wire (config_of c h) (history c h) 0 fs → is_any fs ≡ true → reply ≡ frames_reply (bytes_of s c fs h)
          → Standing {H = H} hub s settled before (record v { machine = m }) (onto (lending c fs) h)
          → FlushesPoll {H = H} hub s before new c (lane, since) h
      go [] due f r stands = absurd (true≢false (sym f))
      go (f ∷ fs) due e r stands =
          let mid : List ServerEvent = onto (lending c (f ∷ fs)) h in
          let mild : Mild c mid h = mild_lends c (f ∷ fs) h in
          let stood : Standing {H = H} hub s settled before new (Notes (Answered c lane (moment mid)) ∷ onto (replying lane reply mid) mid) =
          answers s settled before mid stands refl (mild.there ∙ there) (lane_of_poll c lane since (notes mid)
          (ap (poll_of c) mild.noted ∙ held)) in
          let told : onto (flushing_poll s (moment h) c (lane, since) (f ∷ fs) h) h ≡ Notes (Answered c lane (moment h)) ∷ onto
          (replying lane (frames_reply (bytes_of s c (f ∷ fs) h)) h) mid =
          onto_append (lending c (f ∷ fs) ++ replying lane (frames_reply (bytes_of s c (f ∷ fs) h)) h) (Notes (Answered c lane (moment h)) ∷ []) h
          ∙ ap (λ (g : List ServerEvent). Notes (Answered c lane (moment h)) ∷ g) (onto_append (lending c (f ∷ fs))
          (replying lane (frames_reply (bytes_of s c (f ∷ fs) h)) h) h) in
          let words : Mild c (onto (replying lane reply mid) mid) mid = mild_says c (replying lane reply mid) mid (replying_says lane reply mid) in
          record {
            frames = f ∷ fs;
            due = due;
            cause = subst (λ (g : List ServerEvent). may_speak c g ≡ true → IsUpWithCause {H = H} hub new.machine c) (sym told)
                (subst (λ (r : Reply). may_speak c (Notes (Answered c lane (moment h)) ∷ onto (replying lane r h) mid) ≡ true
                → IsUpWithCause {H = H} hub new.machine c) r
                (subst (λ (xs : List ServerEvent). may_speak c (Notes (Answered c lane (moment h)) ∷ onto xs mid) ≡ true
                → IsUpWithCause {H = H} hub new.machine c) (replying_mild c lane reply mid h mild)
                (subst (λ (n : ℕ). may_speak c (Notes (Answered c lane n) ∷ onto (replying lane reply mid) mid) ≡ true
                → IsUpWithCause {H = H} hub new.machine c) mild.clock
                (λ speaks. absurd (both_ways (may_speak c (Notes (Answered c lane (moment mid)) ∷ onto (replying lane reply mid) mid))
                (answered_is_mute {H = H} {Job = Job} hub s settled before new c lane since (moment mid) (onto (replying lane reply mid) mid) stood
                (ap (poll_of c) words.noted ∙ ap (poll_of c) mild.noted ∙ held)) speaks)))));
            stands = subst (λ (g : List ServerEvent). Standing {H = H} hub s settled before new g) (sym told)
                (subst (λ (r : Reply). Standing {H = H} hub s settled before new (Notes (Answered c lane (moment h)) ∷ onto
                (replying lane r h) mid)) r
                (subst (λ (xs : List ServerEvent). Standing {H = H} hub s settled before new (Notes (Answered c lane (moment h)) ∷ onto xs mid))
                (replying_mild c lane reply mid h mild)
                (subst (λ (n : ℕ). Standing {H = H} hub s settled before new (Notes (Answered c lane n) ∷ onto
                (replying lane reply mid) mid)) mild.clock stood)));
          }

  -- none was due
  bare_stands : any ≡ false → LendsUpTo s.wire (config_of c h) (history c h) 0 [] × Standing {H = H} hub s settled before (record v { machine = m }) h
  bare_stands e = go said.frames said.due (sym said.some ∙ e) said.stands
    where
      go : (fs : List LinkFrame) → LendsUpTo s.wire (config_of c h) (history c h) 0 fs → is_any fs ≡ false
          → Standing {H = H} hub s settled before (record v { machine = m }) (onto (lending c fs) h)
          → LendsUpTo s.wire (config_of c h) (history c h) 0 [] × Standing {H = H} hub s settled before (record v { machine = m }) h
      go [] due f stands = (due, stands)
      go (f ∷ fs) due e stands = absurd (true≢false e)

  closed_so : (r : Bool) → any ≡ false → OfConn {H = H} hub m c (λ w t k. r ≡ is_shut t k) → r ≡ has_closed c h
  closed_so r e shut = closed_is {H = H} {Job = Job} hub s settled before (record v { machine = m }) c h (bare_stands e).1 there r shut

  -- and it is closed
  pub polls_closed : (r : Bool) (mid new : Server H Job) (reply : Reply) → any ≡ false → r ≡ true → OfConn {H = H} hub m c (λ w t k. r ≡ is_shut t k)
      → reply ≡ bare_reply 204
      → OfEach {H = H} hub (record v { machine = m }) (λ t w said g. w ≡ settled → (k : ℕ) → is_at lane k g ≡ true
      → Standing {H = H} hub t (lane_of (Some lane)) said mid (onto (replying lane reply g) g))
      → OfEach {H = H} hub mid (λ t w said g. IsKnown c g → Frees {H = H} hub t w said new c g (onto (removing_conn c g) g))
      → peer_at new.machine c ≡ None
      → FlushesPoll {H = H} hub s before new c (lane, since) h
  polls_closed r mid new reply e f shut is replies frees absent =
      let base : Standing {H = H} hub s settled before (record v { machine = m }) h = (bare_stands e).1 in
      let on : is_at lane c h ≡ true = at_poll lane c h there (lane_of_poll c lane since (notes h) held) in
      let g : List ServerEvent = onto (replying lane reply h) h in
      let mild : Mild c g h = mild_says c (replying lane reply h) h (replying_says lane reply h) in
      let after : Standing {H = H} hub s (lane_of (Some lane)) before mid g = replies s settled before h base refl c on in
      let known : IsKnown c g = known_mild c g h mild (is_one {H = H} {Job = Job} hub s settled before
      (record v { machine = m }) c h base there).known in
      let freed : Frees {H = H} hub s (lane_of (Some lane)) before new c g (onto (removing_conn c g) g) = frees s
      (lane_of (Some lane)) before g after known in
      let still : is_at lane c g ≡ true = at_poll lane c g (mild.there ∙ there) (lane_of_poll c lane since (notes g)
      (ap (poll_of c) mild.noted ∙ held)) in
      let told : onto (flushing_poll s (moment h) c (lane, since) [] h) h ≡ onto (removing_conn c g) g =
      ap (λ (b : Bool). onto (if b then replying lane (bare_reply 204) h ++ removing_conn c h
      else (if nat_le (since + held_for) (moment h) then replying lane (bare_reply 200) h ++ Notes (Answered c lane (moment h)) ∷ [] else [])) h)
      (sym (closed_so r e shut) ∙ f)
      ∙ onto_append (replying lane (bare_reply 204) h) (removing_conn c h) h
      ∙ ap (λ (q : Reply). onto (removing_conn c h) (onto (replying lane q h) h)) (sym is)
      ∙ ap (λ (xs : List ServerEvent). onto xs g) (sym (letting_mild c g h mild)) in
      record {
        frames = [];
        due = (bare_stands e).0;
        stands = subst (λ (k : List ServerEvent). Standing {H = H} hub s settled before new k) (sym told) (freed.freed lane (inl refl) still);
        cause = λ speaks. up_gone {H = H} {Job = Job} hub new.machine c absent;
      }

  -- or it was held as long as it may be
  pub polls_late : (r : Bool) (new : Server H Job) (reply : Reply) (late : ℕ) → any ≡ false → r ≡ false
      → OfConn {H = H} hub m c (λ w t k. r ≡ is_shut t k) → reply ≡ bare_reply 200
      → late ≡ v.moment - since → held_for ≤ late → 0 < held_for → Answers {H = H} hub (record v { machine = m }) new c lane reply
      → FlushesPoll {H = H} hub s before new c (lane, since) h
  polls_late r new reply late e f shut is by long some answers =
      let base : Standing {H = H} hub s settled before (record v { machine = m }) h = (bare_stands e).1 in
      let stood : Standing {H = H} hub s settled before new (Notes (Answered c lane (moment h)) ∷ onto (replying lane reply h) h) =
      answers s settled before h base refl there (lane_of_poll c lane since (notes h) held) in
      let clock : v.moment ≡ moment h = x.clock in
      let is_late : nat_le (since + held_for) (moment h) ≡ true = le-leb (since + held_for) (moment h) (omega (arith, by, long, some, clock)) in
      let told : onto (flushing_poll s (moment h) c (lane, since) [] h) h ≡ Notes (Answered c lane (moment h)) ∷ onto
      (replying lane (bare_reply 200) h) h =
      ap (λ (b : Bool). onto (if b then replying lane (bare_reply 204) h ++ removing_conn c h
      else (if nat_le (since + held_for) (moment h) then replying lane (bare_reply 200) h ++ Notes (Answered c lane (moment h)) ∷ [] else [])) h)
      (sym (closed_so r e shut) ∙ f)
      ∙ ap (λ (b : Bool). onto (if b then replying lane (bare_reply 200) h ++ Notes (Answered c lane (moment h)) ∷ [] else []) h) is_late
      ∙ onto_append (replying lane (bare_reply 200) h) (Notes (Answered c lane (moment h)) ∷ []) h in
      let words : Mild c (onto (replying lane reply h) h) h = mild_says c (replying lane reply h) h (replying_says lane reply h) in
      record {
        frames = [];
        due = (bare_stands e).0;
        cause = subst (λ (k : List ServerEvent). may_speak c k ≡ true → IsUpWithCause {H = H} hub new.machine c) (sym told)
            (subst (λ (q : Reply). may_speak c (Notes (Answered c lane (moment h)) ∷ onto (replying lane q h) h) ≡ true
            → IsUpWithCause {H = H} hub new.machine c) is
            (λ speaks. absurd (both_ways (may_speak c (Notes (Answered c lane (moment h)) ∷ onto (replying lane reply h) h))
            (answered_is_mute {H = H} {Job = Job} hub s settled before new c lane since (moment h) (onto (replying lane reply h) h) stood
            (ap (poll_of c) words.noted ∙ held)) speaks)));
        stands = subst (λ (k : List ServerEvent). Standing {H = H} hub s settled before new k) (sym told)
            (subst (λ (q : Reply). Standing {H = H} hub s settled before new (Notes (Answered c lane (moment h)) ∷ onto
            (replying lane q h) h)) is stood);
      }

  -- or it is held still, and the connection may rest, since nothing is due
  pub polls_on : (r : Bool) (late : ℕ) (rested : Machine H Job) → any ≡ false → r ≡ false → OfConn {H = H} hub m c (λ w t k. r ≡ is_shut t k)
      → late ≡ v.moment - since → late < held_for
      → OfConn {H = H} hub m c (λ w t k. due t.config (steps t k) ≡ None → StandsMachine {H = H} hub rested w)
      → (IsIndexed {H = H} m → IsUpWithCause {H = H} hub rested c)
      → FlushesPoll {H = H} hub s before (record v { machine = rested }) c (lane, since) h
  polls_on r late rested e f shut by short rests up =
      let base : Standing {H = H} hub s settled before (record v { machine = m }) h = (bare_stands e).1 in
      let clock : v.moment ≡ moment h = x.clock in
      let told : onto (flushing_poll s (moment h) c (lane, since) [] h) h ≡ h =
      ap (λ (b : Bool). onto (if b then replying lane (bare_reply 204) h ++ removing_conn c h
      else (if nat_le (since + held_for) (moment h) then replying lane (bare_reply 200) h ++ Notes (Answered c lane (moment h)) ∷ [] else [])) h)
      (sym (closed_so r e shut) ∙ f)
      ∙ ap (λ (b : Bool). onto (if b then replying lane (bare_reply 200) h ++ Notes (Answered c lane (moment h)) ∷ [] else []) h)
      (early (nat_le (since + held_for) (moment h)) refl clock) in
      record {
        frames = [];
        due = (bare_stands e).0;
        stands = subst (λ (k : List ServerEvent). Standing {H = H} hub s settled before (record v { machine = rested }) k) (sym told)
            (standing_rests {H = H} {Job = Job} hub s settled before (record v { machine = m }) c h base there rested
            (nothing (bare_stands e).0) rests);
        cause = λ speaks. up base.machine.index;
      }
    where
      nothing : (due (config_of c h) (history c h) ≡ None) ⊎ (most_before_last < 0) → due (config_of c h) (history c h) ≡ None
      nothing (inl none) = none
      nothing (inr full) = absurd (omega (arith, full))

      early : (b : Bool) → nat_le (since + held_for) (moment h) ≡ b → v.moment ≡ moment h → nat_le (since + held_for) (moment h) ≡ false
      early true g clock = absurd (let past : since + held_for ≤ moment h = leb-true (since + held_for) (moment h) g in omega
          (arith, by, short, past, clock))
      early false g clock = g
