-- One connection ticks: what its end and its lane come to.
use Rattle.std.proofs.Common.{◌≡◌, ◌≤◌, ℕ, Bool, true, false, not, ◌&&◌, List, [], ◌∷◌, ◌++◌, Option, Some, None, is_some}
use Rattle.std.proofs.Common.{refl, sym, ap, subst, ◌∙◌}
use Rattle.std.specs.Prelude.{if◌then◌else◌}
use Rattle.std.proofs.lemmas.Bool.{and_from}
use Rattle.hd_delivery.specs.Histories as of
use Rattle.hd_delivery.specs.Histories.{Silenced, Ticked, is_silence, present_link}
use Rattle.hd_delivery.specs.Bytes.{Does as Step_of}
use Rattle.hd_calls.specs.Hubs.{Hub}
use Rattle.hd_calls.specs.Peers.{Plain, steps}
use Rattle.hd_server.specs.declared.vocabulary.Said.{Said}
use Rattle.hd_server.specs.declared.vocabulary.Said.TheVariants as say
use Rattle.hd_server.specs.Lives.{LaneLost, is_removed, is_made, socket_of}
use Rattle.hd_server.specs.Machine.{Does}
use Rattle.hd_server.specs.Doings.{ServerEvent, Notes, Says, notes, work, moment, peer, config_of, has_peer, history, may_resume, was_refused}
use Rattle.hd_server.specs.Plans.{Setup, removing_conn, losing, onto, shutting, step}
use Rattle.hd_server.specs.Serves.{silenced, ticking}
use Rattle.hn_server_front.specs.Calls as front
use Rattle.hub_machine.specs.declared.machine.Machine.{Machine}
use Rattle.hub_server.specs.declared.server.Server.{Server}
use Rattle.hub_machine.specs.Machines.{OfConn, StandsMachine}
use Rattle.hub_machine.specs.Traffic.{HasTicked}
use Rattle.hub_server.specs.Lanes.{Unsettled, cut_of, is_at, settled}
use Rattle.hub_server.specs.Servers.{IsOrderly, OfEach, Standing}
use Rattle.hub_server.proofs.Calm.{orderly_ticked}
use Rattle.hub_server.proofs.LaneKept.{standing_shuts}
use Rattle.hub_server.proofs.OntoAlike.{onto_append}
use Rattle.hub_server.proofs.FlushSocket.{at_socket}
use Rattle.hub_server.proofs.TickSteps.{IsBegun, begun_here, chosen, granted_begun, passed_by, silent_granted, silent_off}
use Rattle.hub_server.proofs.TickSteps.{standing_mute, standing_silenced, standing_steps}

-- ---- what a front and lanes tell of one that has a peer

-- its lane is that of its socket
pub lane_here : (u : Unsettled) (c : ℕ) (h : List ServerEvent) → IsOrderly u c h → has_peer c h ≡ true → front.lane_of c (notes h) ≡ socket_of c (notes h)
lane_here u c h o there =
    let t = begun_here c h there in
    chosen {A = Option ℕ} (is_made c (notes h) && not (is_removed c (notes h))) (socket_of c (notes h)) None
    (and_from _ _ (o.made (ap is_some t.begun)) (ap not (o.there there)))

-- ---- the end of a lane

unrefused : (b : Bool) → not b ≡ true → b ≡ false
unrefused true e = absurd (let no : false ≡ true = e in cc)
unrefused false e = refl

is_refused : (b : Bool) → not b ≡ false → b ≡ true
is_refused true e = refl
is_refused false e = absurd (let no : true ≡ false = e in cc)

-- ---- a tick

-- by whether it stands on a link, and whether the tick is a silence
abbrev ticking_by : Bool → Bool → ℕ → ℕ → List ServerEvent → List ServerEvent
ticking_by attached silent now c h =
    if attached then (if silent then silenced c (socket_of c (notes h)) now h else step c (Ticked now) ∷ []) else []

module _ {H Job : Type 0} (hub : Hub Job) (s : Setup) (u : Unsettled) (before : List Said) (v : Server H Job) (c : ℕ) (h : List ServerEvent)
    (st : Standing {H = H} hub s u before v h) (there : has_peer c h ≡ true) (lost : Option Bool) (new : Machine H Job)
    (ticks : OfConn {H = H} hub v.machine c (λ w t ms. of.moment (steps t ms) ≤ v.moment → HasTicked {H = H} hub new c w t ms v.moment lost)) where
  t : IsBegun c h
  t = begun_here c h there

  did : HasTicked {H = H} hub new c (work h) t.settings (peer c h) v.moment lost
  did = ticks (work h) t.settings st.machine t.there
      (subst (λ n. of.moment (steps t.settings (peer c h)) ≤ n) (sym st.clock)
      (subst (λ x. of.moment x ≤ moment h) t.history_is (let o = st.orderly c in o.timely)))

  abbrev link : Option ℕ
  link = present_link (steps t.settings (peer c h))

  on_link : is_some (present_link (history c h)) ≡ is_some link
  on_link = ap (λ x. is_some (present_link x)) t.history_is

  -- one that stands on no link doesn't tick
  unattached : link ≡ None → Standing {H = H} hub s u before (record v { machine = new }) (onto (ticking (moment h) c h) h)
  unattached off =
      subst (λ xs. Standing {H = H} hub s u before (record v { machine = new }) (onto xs h))
      (sym (ap (λ b. ticking_by b (is_silence (config_of c h) (moment h) (history c h)) (moment h) c h) (on_link ∙ ap is_some off))) (record {
        setup = st.setup;
        machine = (did.away off).1;
        front = st.front;
        callers = st.callers;
        lanes = st.lanes;
        begun = st.begun;
        orderly = st.orderly;
        clock = st.clock;
        words = st.words;
      })

  module _ (on : is_some link ≡ true) where
    silence : is_silence (config_of c h) (moment h) (history c h) ≡ is_some lost
    silence =
        ap (λ k. is_silence k (moment h) (history c h)) t.config_is
        ∙ ap (λ x. is_silence t.settings.config (moment h) x) t.history_is
        ∙ ap (λ n. is_silence t.settings.config n (steps t.settings (peer c h))) (sym st.clock) ∙ sym (did.there on).0

    machine_at : (b : Bool) → is_some lost ≡ b
        → StandsMachine {H = H} hub new (Does c (Plain (Step_of (if b then Silenced (moment h) else Ticked (moment h)))) ∷ work h)
    machine_at b e =
        subst (λ n. StandsMachine {H = H} hub new (Does c (Plain (Step_of (if b then Silenced n else Ticked n))) ∷ work h)) st.clock
        (subst (λ x. StandsMachine {H = H} hub new (Does c (Plain (Step_of (if x then Silenced v.moment else Ticked v.moment))) ∷ work h)) e
        (did.there on).1)

    ticking_is : (b : Bool) → is_some lost ≡ b → ticking (moment h) c h ≡ ticking_by true b (moment h) c h
    ticking_is b e =
        ap (λ x. ticking_by x (is_silence (config_of c h) (moment h) (history c h)) (moment h) c h) (on_link ∙ on)
        ∙ ap (λ x. ticking_by true x (moment h) c h) (silence ∙ e)

    ticked : is_some lost ≡ false → Standing {H = H} hub s u before (record v { machine = new }) (onto (ticking (moment h) c h) h)
    ticked quiet =
        subst (λ xs. Standing {H = H} hub s u before (record v { machine = new }) (onto xs h)) (sym (ticking_is false quiet))
        (standing_steps {H = H} hub s u u before v new c (Ticked (moment h)) h (λ l e. e) (λ k e. e) (λ l e. e) st (machine_at false quiet)
        (orderly_ticked u c h (st.orderly c)))

  -- it ticks, if it stands on a link
  pub unsilenced : lost ≡ None → Standing {H = H} hub s u before (record v { machine = new }) (onto (ticking (moment h) c h) h)
  unsilenced quiet = by link refl
    where
      by : (o : Option ℕ) → link ≡ o → Standing {H = H} hub s u before (record v { machine = new }) (onto (ticking (moment h) c h) h)
      by None off = unattached off
      by (Some l) at = ticked (ap is_some at) (ap is_some quiet)

  -- it is silent
  module _ (granted : Bool) (is : lost ≡ Some granted) where
    mute : is_some lost ≡ true
    mute = ap is_some is

    linked : is_some link ≡ true
    linked = by link refl
      where
        by : (o : Option ℕ) → link ≡ o → is_some link ≡ true
        by None off = absurd (let no : ◌≡◌ {A = Option Bool} (Some granted) None = sym is ∙ (did.away off).0 in cc)
        by (Some l) at = ap is_some at

    -- and stood on no lane
    pub muted : None ≡ front.lane_of c (notes h) → Standing {H = H} hub s u before (record v { machine = new }) (onto (ticking (moment h) c h) h)
    muted none =
        let socket : socket_of c (notes h) ≡ None = sym (none ∙ lane_here u c h (st.orderly c) there) in
        subst (λ xs. Standing {H = H} hub s u before (record v { machine = new }) (onto xs h))
        (sym (ticking_is linked true mute ∙ ap (λ o. silenced c o (moment h) h) socket))
        (standing_mute {H = H} hub s u before v new c h st socket (machine_at linked true mute))

    module _ (sound : u ≡ settled) (lane : ℕ) (at : Some lane ≡ front.lane_of c (notes h)) (shuts : Bool)
        (may : OfEach {H = H} hub (record v { machine = new }) (λ s u before h. (c : ℕ) → is_at lane c h ≡ true → shuts ≡ not (was_refused lane h)))
        (after : Server H Job)
        (loses : OfEach {H = H} hub (record v { machine = new }) (λ s u before h. u ≡ cut_of lane → has_peer c h ≡ true
        → present_link (history c h) ≡ None → socket_of c (notes h) ≡ Some lane → granted ≡ may_resume c h
        → Standing {H = H} hub s settled before after (onto (losing c lane (moment h) h) h))) where
      socket : socket_of c (notes h) ≡ Some lane
      socket = sym (at ∙ lane_here u c h (st.orderly c) there)

      abbrev mid : List ServerEvent
      mid = step c (Silenced (moment h)) ∷ h

      silent_stands : Standing {H = H} hub s (cut_of lane) before (record v { machine = new }) mid
      silent_stands =
          standing_silenced {H = H} hub s before v new c lane h (subst (λ x. Standing {H = H} hub s x before v h) sound st) socket
          (machine_at linked true mute)

      gone : Standing {H = H} hub s settled before after (onto (losing c lane (moment h) h) mid)
      gone =
          subst (λ (b : Bool). Standing {H = H} hub s settled before after
          (onto (if b then Notes (LaneLost c lane (moment h)) ∷ [] else removing_conn c h) mid))
          (silent_granted c (moment h) h)
          (loses s (cut_of lane) before mid silent_stands refl there (silent_off c (moment h) h there) socket
          (did.granted granted is ∙ granted_begun c h t there ∙ sym (silent_granted c (moment h) h)))

      refused : shuts ≡ not (was_refused lane h)
      refused = may s (cut_of lane) before mid silent_stands c (at_socket lane c mid there socket)

      whole : (xs : List ServerEvent) → shutting lane h ≡ xs → (last : Server H Job)
          → Standing {H = H} hub s settled before last (onto xs (onto (losing c lane (moment h) h) mid))
          → Standing {H = H} hub s u before last (onto (ticking (moment h) c h) h)
      whole xs is last x =
          subst (λ w. Standing {H = H} hub s w before last (onto (ticking (moment h) c h) h)) (sym sound)
          (subst (λ ys. Standing {H = H} hub s settled before last (onto ys h))
          (sym (ticking_is linked true mute ∙ ap (λ o. silenced c o (moment h) h) socket))
          (subst (λ g. Standing {H = H} hub s settled before last g) (sym (onto_append (losing c lane (moment h) h) (shutting lane h) mid))
          (subst (λ ys. Standing {H = H} hub s settled before last (onto ys (onto (losing c lane (moment h) h) mid))) (sym is) x)))

      -- the lane is shut
      pub lost_shut : shuts ≡ true → Standing {H = H} hub s u before (record after { words = after.words ++ say.Shut lane ∷ [] })
          (onto (ticking (moment h) c h) h)
      lost_shut e =
          whole (Says (say.Shut lane) ∷ [])
          (passed_by {A = List ServerEvent} (was_refused lane h) [] (Says (say.Shut lane) ∷ []) (unrefused (was_refused lane h) (sym refused ∙ e)))
          (record after { words = after.words ++ say.Shut lane ∷ [] })
          (standing_shuts {H = H} hub s settled before after lane (onto (losing c lane (moment h) h) mid) gone)

      -- the door has shut it
      pub lost_shut_before : shuts ≡ false → Standing {H = H} hub s u before after (onto (ticking (moment h) c h) h)
      lost_shut_before e =
          whole [] (chosen {A = List ServerEvent} (was_refused lane h) [] (Says (say.Shut lane) ∷ [])
          (is_refused (was_refused lane h) (sym refused ∙ e))) after gone
