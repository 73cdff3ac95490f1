-- A step of one connection's end, as the whole server stands for it.
use Rattle.std.proofs.Common.{◌≡◌, ◌≤◌, ℕ, ◌==◌, Bool, true, false, not, ◌&&◌, List, ◌∷◌, Option, Some, None, is_some}
use Rattle.std.proofs.Common.{refl, sym, ap, subst, ◌∙◌, arith}
use Rattle.std.specs.Prelude.{if◌then◌else◌}
use Rattle.std.specs.Ordering.{nat_cmp}
use Rattle.std.specs.BTreeMap.{get}
use Rattle.std.proofs.lemmas.Bool.{and_parts, eqb-true, eq-eqb}
use Rattle.hd_delivery.specs.Histories.{EndEvent, Silenced, Detached, is_closed, is_resumable, is_this, present_link}
use Rattle.hd_delivery.specs.Bytes.{Does as Step_of}
use Rattle.hd_calls.specs.Hubs.{Hub}
use Rattle.hd_calls.specs.Peers.{PeerEvent, Plain, Settings, is_shut, steps}
use Rattle.hd_server.specs.declared.vocabulary.Said.{Said}
use Rattle.hd_server.specs.Lives.{socket_of}
use Rattle.hd_server.specs.Machine.{Does, has_gone, is_open_at, moves, settings_of}
use Rattle.hd_server.specs.Doings.{ServerEvent, notes, work, moment, peer, config_of, config_with, has_peer, history, history_with, may_resume}
use Rattle.hd_server.specs.Plans.{Setup, step}
use Rattle.hub_machine.specs.declared.machine.Machine.{Machine}
use Rattle.hub_server.specs.declared.server.Server.{Server}
use Rattle.hub_machine.specs.Machines.{StandsMachine, settings_there}
use Rattle.hub_server.specs.Lanes.{Unsettled, cut_of, lane_of, settled}
use Rattle.hub_server.specs.Servers.{IsOrderly, Standing}
use Rattle.hub_server.proofs.Alike.{alike_does, orderly_alike}
use Rattle.hub_server.proofs.Calm.{moves_own, orderly_detached, orderly_silenced}
use Rattle.hub_server.proofs.LaneKept.{lane_kept, lane_wider, orderly_wider, same_lane_works}

-- ---- what is chosen

pub chosen : {A : Type 0} (b : Bool) (x y : A) → b ≡ true → (if b then x else y) ≡ x
chosen b x y e = ap (λ (t : Bool). if t then x else y) e

pub passed_by : {A : Type 0} (b : Bool) (x y : A) → b ≡ false → (if b then x else y) ≡ y
passed_by b x y e = ap (λ (t : Bool). if t then x else y) e

-- ---- how the peer of a connection was begun that has one

pub record IsBegun (c : ℕ) (h : List ServerEvent) : Type 0 where
  pub settings : Settings
  pub there : settings_there c (work h) ≡ Some settings
  pub begun : settings_of c (work h) ≡ Some settings
  pub history_is : history c h ≡ steps settings (peer c h)
  pub config_is : config_of c h ≡ settings.config

pub begun_here : (c : ℕ) (h : List ServerEvent) → has_peer c h ≡ true → IsBegun c h
begun_here c h e = by (settings_of c (work h)) refl (has_gone c (work h)) refl e
  where
    by : (o : Option Settings) → settings_of c (work h) ≡ o → (b : Bool) → has_gone c (work h) ≡ b → (is_some o && not b) ≡ true → IsBegun c h
    by None f b g e = absurd (let no : false ≡ true = e in cc)
    by (Some t) f true g e = absurd (let no : false ≡ true = e in cc)
    by (Some t) f false g e = record {
      settings = t;
      there = passed_by {A = Option Settings} (has_gone c (work h)) None (settings_of c (work h)) g ∙ f;
      begun = f;
      history_is = ap (λ o. history_with o (peer c h)) f;
      config_is = ap config_with f;
    }

-- ---- a step

not_later : (n : ℕ) → n ≤ n
not_later n = omega arith

pub standing_steps : {H Job : Type 0} (hub : Hub Job) (s : Setup) (u w : Unsettled) (before : List Said) (v : Server H Job) (m : Machine H Job)
    (c : ℕ) (x : EndEvent) (h : List ServerEvent)
    → ((lane : ℕ) → is_this lane u.lane ≡ true → is_this lane w.lane ≡ true) → ((k : ℕ) → is_this k u.conn ≡ true → is_this k w.conn ≡ true)
    → ((lane : ℕ) → is_this lane u.cut ≡ true → is_this lane w.cut ≡ true)
    → Standing {H = H} hub s u before v h → StandsMachine {H = H} hub m (Does c (Plain (Step_of x)) ∷ work h) → IsOrderly w c (step c x ∷ h)
    → Standing {H = H} hub s w before (record v { machine = m }) (step c x ∷ h)
standing_steps {H} hub s u w before v m c x h lane conn cut st machine own = record {
  setup = st.setup;
  machine = machine;
  front = st.front;
  callers = λ k. st.callers k;
  lanes = λ l. lane_kept w (get nat_cmp v.lanes l) l (step c x ∷ h) h (same_lane_works l (Does c (Plain (Step_of x))) h) (λ k. refl) (λ k. refl)
      (lane_wider u w (get nat_cmp v.lanes l) l h (lane l) (st.lanes l));
  begun = st.begun;
  orderly = λ k. each k (k == c) refl;
  clock = st.clock;
  words = st.words;
}
  where
    each : (k : ℕ) (b : Bool) → (k == c) ≡ b → IsOrderly w k (step c x ∷ h)
    each k true e = subst (λ n. IsOrderly w n (step c x ∷ h)) (sym (eqb-true k c e)) own
    each k false e =
        orderly_alike w k (step c x ∷ h) h (alike_does k c (Plain (Step_of x)) h e) (not_later (moment h))
        (orderly_wider u w k h (conn k) cut (st.orderly k))

-- ---- a link ends

-- the lane on which the connection stood is the one that is cut
pub cut_there : (c lane : ℕ) (h : List ServerEvent) → socket_of c (notes h) ≡ Some lane → (l : ℕ) → socket_of c (notes h) ≡ Some l
    → is_this l (Some lane) ≡ true
cut_there c lane h e l f = eq-eqb l lane (let same : ◌≡◌ {A = Option ℕ} (Some l) (Some lane) = sym f ∙ e in cc)

granted_by : (gone kept closed : Bool) → ((gone && not (if kept then closed else true)) && kept) ≡ ((gone && not closed) && kept)
granted_by gone true closed = refl
granted_by true false true = refl
granted_by true false false = refl
granted_by false false closed = refl

-- whether the end may be resumed is read off its moves
abbrev granted_with : Bool → Option Settings → List PeerEvent → Bool
granted_with here o ms = (here && is_open_at o ms) && is_resumable (config_with o) (history_with o ms)

granted_silent : (here : Bool) (o : Option Settings) (now : ℕ) (ms : List PeerEvent)
    → granted_with here o (Plain (Step_of (Silenced now)) ∷ ms) ≡ granted_with here o ms
granted_silent here None now ms = refl
granted_silent here (Some t) now ms = granted_by here (is_resumable t.config (steps t ms)) (is_closed t.config (steps t ms))

granted_off : (here : Bool) (o : Option Settings) (now : ℕ) (ms : List PeerEvent)
    → granted_with here o (Plain (Step_of (Detached now)) ∷ ms) ≡ granted_with here o ms
granted_off here None now ms = refl
granted_off here (Some t) now ms = granted_by here (is_resumable t.config (steps t ms)) (is_closed t.config (steps t ms))

pub granted_begun : (c : ℕ) (h : List ServerEvent) (t : IsBegun c h) → has_peer c h ≡ true
    → (not (is_shut t.settings (peer c h)) && is_resumable t.settings.config (steps t.settings (peer c h))) ≡ may_resume c h
granted_begun c h t there =
    let here = and_parts (is_some (settings_of c (work h))) (not (has_gone c (work h))) there in
    ap (λ b. granted_with b (Some t.settings) (peer c h)) (sym here.1)
    ∙ ap (λ o. granted_with (not (has_gone c (work h))) o (peer c h)) (sym t.begun)

-- the loss of its link doesn't change that
pub silent_granted : (c now : ℕ) (h : List ServerEvent) → may_resume c (step c (Silenced now) ∷ h) ≡ may_resume c h
silent_granted c now h =
    ap (granted_with (not (has_gone c (work h))) (settings_of c (work h))) (moves_own c (Plain (Step_of (Silenced now))) (work h))
    ∙ granted_silent (not (has_gone c (work h))) (settings_of c (work h)) now (moves c (work h))

pub off_granted : (c now : ℕ) (h : List ServerEvent) → may_resume c (step c (Detached now) ∷ h) ≡ may_resume c h
off_granted c now h =
    ap (granted_with (not (has_gone c (work h))) (settings_of c (work h))) (moves_own c (Plain (Step_of (Detached now))) (work h))
    ∙ granted_off (not (has_gone c (work h))) (settings_of c (work h)) now (moves c (work h))

-- no link is left
pub silent_off : (c now : ℕ) (h : List ServerEvent) → has_peer c h ≡ true → present_link (history c (step c (Silenced now) ∷ h)) ≡ None
silent_off c now h there =
    let t = begun_here c h there in
    ap (λ o. present_link (history_with o (moves c (work (step c (Silenced now) ∷ h))))) t.begun
    ∙ ap (λ ms. present_link (steps t.settings ms)) (moves_own c (Plain (Step_of (Silenced now))) (work h))

pub off_off : (c now : ℕ) (h : List ServerEvent) → has_peer c h ≡ true → present_link (history c (step c (Detached now) ∷ h)) ≡ None
off_off c now h there =
    let t = begun_here c h there in
    ap (λ o. present_link (history_with o (moves c (work (step c (Detached now) ∷ h))))) t.begun
    ∙ ap (λ ms. present_link (steps t.settings ms)) (moves_own c (Plain (Step_of (Detached now))) (work h))

no_lane : (x : Option ℕ) (l : ℕ) → is_this l None ≡ true → is_this l x ≡ true
no_lane x l e = absurd (let no : false ≡ true = e in cc)

-- a silence on a lane: the lane is cut
pub standing_silenced : {H Job : Type 0} (hub : Hub Job) (s : Setup) (before : List Said) (v : Server H Job) (m : Machine H Job) (c lane : ℕ)
    (h : List ServerEvent)
    → Standing {H = H} hub s settled before v h → socket_of c (notes h) ≡ Some lane
    → StandsMachine {H = H} hub m (Does c (Plain (Step_of (Silenced (moment h)))) ∷ work h)
    → Standing {H = H} hub s (cut_of lane) before (record v { machine = m }) (step c (Silenced (moment h)) ∷ h)
standing_silenced {H} hub s before v m c lane h st socket machine =
    standing_steps {H = H} hub s settled (cut_of lane) before v m c (Silenced (moment h)) h (no_lane (Some lane)) (no_lane None)
    (no_lane (Some lane)) st machine
    (orderly_silenced (cut_of lane) c h (cut_there c lane h socket)
    (orderly_wider settled (cut_of lane) c h (no_lane None c) (no_lane (Some lane)) (st.orderly c)))

-- a silence of one that stands on no lane
pub standing_mute : {H Job : Type 0} (hub : Hub Job) (s : Setup) (u : Unsettled) (before : List Said) (v : Server H Job) (m : Machine H Job) (c : ℕ)
    (h : List ServerEvent)
    → Standing {H = H} hub s u before v h → socket_of c (notes h) ≡ None
    → StandsMachine {H = H} hub m (Does c (Plain (Step_of (Silenced (moment h)))) ∷ work h)
    → Standing {H = H} hub s u before (record v { machine = m }) (step c (Silenced (moment h)) ∷ h)
standing_mute {H} hub s u before v m c h st socket machine =
    standing_steps {H = H} hub s u u before v m c (Silenced (moment h)) h (λ l e. e) (λ l e. e) (λ l e. e) st machine
    (orderly_silenced u c h (λ l e. absurd (let no : ◌≡◌ {A = Option ℕ} None (Some l) = sym socket ∙ e in cc)) (st.orderly c))

-- the lane was lost: its link ends
pub standing_detached : {H Job : Type 0} (hub : Hub Job) (s : Setup) (before : List Said) (v : Server H Job) (m : Machine H Job) (c lane : ℕ)
    (h : List ServerEvent)
    → Standing {H = H} hub s (lane_of (Some lane)) before v h → socket_of c (notes h) ≡ Some lane
    → StandsMachine {H = H} hub m (Does c (Plain (Step_of (Detached (moment h)))) ∷ work h)
    → Standing {H = H} hub s (cut_of lane) before (record v { machine = m }) (step c (Detached (moment h)) ∷ h)
standing_detached {H} hub s before v m c lane h st socket machine =
    standing_steps {H = H} hub s (lane_of (Some lane)) (cut_of lane) before v m c (Detached (moment h)) h (λ l e. e) (no_lane None)
    (no_lane (Some lane)) st machine
    (orderly_detached (cut_of lane) c h (cut_there c lane h socket)
    (orderly_wider (lane_of (Some lane)) (cut_of lane) c h (no_lane None c) (no_lane (Some lane)) (st.orderly c)))
