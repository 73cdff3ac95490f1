-- A link begins.
use Rattle.std.proofs.Common.{◌≡◌, ◌≤◌, ◌<◌, ◌⊎◌, ℕ, suc, ◌==◌, Bool, true, false, not, ◌&&◌, List, ◌∷◌, Option, Some, None, Result, Ok, Err, is_some}
use Rattle.std.proofs.Common.{inl, inr, refl, sym, ap, subst, ◌∙◌, arith}
use Rattle.std.specs.Prelude.{IfErr, OnOk, max}
use Rattle.std.proofs.lemmas.Bool.{and_cases, and_left, and_parts, and_right, both_ways, cond-false, eqb-true, false_from_ne_true, not-true, or_cases}
use Rattle.hd_delivery.specs.Histories as of
use Rattle.hd_delivery.specs.Histories.{EndEvent, Attached, first_link, is_resumable, link_count, present_link, was_on}
use Rattle.hd_delivery.specs.Processes.{processes}
use Rattle.hd_delivery.specs.Bytes.{Does as Step_of}
use Rattle.he_end.specs.declared.session.AttachError.{AttachError}
use Rattle.he_end.specs.declared.session.AttachError.TheVariants as refusal
use Rattle.hd_calls.specs.Hubs.{Hub}
use Rattle.hd_calls.specs.Peers.{Plain, Settings, is_shut, steps, waiting}
use Rattle.hd_server.specs.declared.vocabulary.Said.{Said}
use Rattle.hd_server.specs.Lives.{is_made, is_polling}
use Rattle.hd_server.specs.Machine.{MachineEvent, Connects, Does, has_gone, is_open_at, moves, settings_of}
use Rattle.hd_server.specs.Doings.{ServerEvent, Works, notes, work, moment, config_of, config_with}
use Rattle.hd_server.specs.Doings.{has_peer, history, history_with, may_resume, is_up, peer, user_of}
use Rattle.hd_server.specs.Plans.{Setup, connecting, onto, peer_settings, step}
use Rattle.hub_machine.specs.declared.machine.Machine.{Machine}
use Rattle.hub_server.specs.declared.server.Server.{Server}
use Rattle.hub_machine.specs.Machines.{OfConn, StandsMachine, peer_at, settings_there}
use Rattle.hub_server.specs.Lanes.{Unsettled, settled}
use Rattle.hub_server.specs.Servers.{IsOrderly, Standing}
use Rattle.hub_server.specs.Steps.{HasCome}
use Rattle.hub_machine.specs.Traffic.{IsClear}
use Rattle.hub_server.specs.Connections.{CanStand, IsKnown}
use Rattle.hub_server.proofs.BeginPeer.{at_same, blank, connecting_fresh, connecting_there, fresh, peer_there, settings_if, there_now}
use Rattle.hub_server.proofs.Calm.{calm_attached, moves_own}
use Rattle.hub_server.proofs.HoldPolls.{begun_of}

-- ---- the end's own next number

unused_link : (x : List EndEvent) → ((l : ℕ) → was_on l x ≡ true → l < link_count x) → was_on (link_count x) x ≡ false
unused_link x links = false_from_ne_true (was_on (link_count x) x)
    (λ e. let z : link_count x < link_count x = links (link_count x) e in omega (arith, z))

links_more : (x : List EndEvent) (now : ℕ) → ((l : ℕ) → was_on l x ≡ true → l < link_count x)
    → (l : ℕ) → was_on l (Attached (link_count x) now ∷ x) ≡ true → l < suc (link_count x)
links_more x now links l e = elim (or_cases (l == link_count x) (was_on l x) e) [
  | inl f ↦ let z : l ≡ link_count x = eqb-true l (link_count x) f in omega (arith, z)
  | inr f ↦ let z : l < link_count x = links l f in omega (arith, z)
]

at_most : (a b last : ℕ) → a ≤ last → b ≤ last → max a b ≤ last
at_most a b last e f = omega (arith, e, f)

attached_history : (k l now : ℕ) (h : List ServerEvent) (t : Settings) → settings_of k (work h) ≡ Some t
    → history k (step k (Attached l now) ∷ h) ≡ Attached l now ∷ history k h
attached_history k l now h t e =
    ap (λ o. history_with o (moves k (Does k (Plain (Step_of (Attached l now))) ∷ work h))) e
    ∙ ap (λ ms. steps t ms) (moves_own k (Plain (Step_of (Attached l now))) (work h))
    ∙ ap (λ o. Attached l now ∷ history_with o (moves k (work h))) (sym e)

-- ---- one that stands on its new link

pub record IsLinked (k n now : ℕ) (h : List ServerEvent) : Type 0 where
  pub present : present_link (history k (step k (Attached n now) ∷ h)) ≡ Some n
  pub links : (l : ℕ) → was_on l (history k (step k (Attached n now) ∷ h)) ≡ true → l < link_count (history k (step k (Attached n now) ∷ h))
  pub timely : of.moment (history k (step k (Attached n now) ∷ h)) ≤ moment h
  pub handled : waiting (peer k (step k (Attached n now) ∷ h)) ≡ None
  pub taken : processes (config_of k (step k (Attached n now) ∷ h)) (history k (step k (Attached n now) ∷ h)) ≡ None

pub linked : (u : Unsettled) (k : ℕ) (h : List ServerEvent) → IsOrderly u k h → has_peer k h ≡ true → IsLinked k (link_count (history k h)) (moment h) h
linked u k h o there =
    let n : ℕ = link_count (history k h) in
    let now : ℕ = moment h in
    let begun = settings_if k (work h) there in
    let t : Settings = begun.0 in
    let is : settings_of k (work h) ≡ Some t = begun.2 in
    let more : history k (step k (Attached n now) ∷ h) ≡ Attached n now ∷ history k h = attached_history k n now h t is in
    let unused : was_on n (steps t (moves k (work h))) ≡ false =
    ap (λ o. was_on n (history_with o (moves k (work h)))) (sym is) ∙ unused_link (history k h) o.links in
    let own : moves k (Does k (Plain (Step_of (Attached n now))) ∷ work h) ≡ Plain (Step_of (Attached n now)) ∷ moves k (work h) =
    moves_own k (Plain (Step_of (Attached n now))) (work h) in
    let clear : IsClear t (Plain (Step_of (Attached n now)) ∷ moves k (work h)) = calm_attached t (moves k (work h)) n now unused (record {
      handled = o.handled;
      taken = subst (λ o. processes (config_with o) (history_with o (moves k (work h))) ≡ None) is o.taken;
    }) in
    record {
      present = ap present_link more;
      links = subst (λ x. (l : ℕ) → was_on l x ≡ true → l < link_count x) (sym more) (links_more (history k h) now o.links);
      timely = subst (λ x. of.moment x ≤ moment h) (sym more)
          (at_most now (of.moment (history k h)) (moment h) (let z : now ≤ moment h = omega (arith) in z) o.timely);
      handled = ap waiting own ∙ o.handled;
      taken = subst (λ o. processes (config_with o) (history_with o (moves k (Does k (Plain (Step_of (Attached n now))) ∷ work h))) ≡ None) (sym is)
          (subst (λ ms. processes t.config (steps t ms) ≡ None) (sym own) clear.taken);
    }

-- ---- the machine

-- its end is open, and kept or without a link yet
abbrev pub IsOpen : ℕ → List ServerEvent → Type 0
IsOpen k h = (t : Settings) → settings_there k (work h) ≡ Some t
    → (is_shut t (moves k (work h)) ≡ false) × ((is_resumable t.config (steps t (moves k (work h))) ≡ true) ⊎
    (first_link (steps t (moves k (work h))) ≡ None))

attaches : {H Job : Type 0} (hub : Hub Job) (old new : Machine H Job) (k n now : ℕ) (w : List MachineEvent) (t : Settings)
    (r : Result (Unit {0}) AttachError)
    → OnOk r (OfConn {H = H} hub old k (λ w t h. (l : ℕ) → was_on l (steps t h) ≡ false → of.moment (steps t h) ≤ now
    → StandsMachine {H = H} hub new (Does k (Plain (Step_of (Attached l now))) ∷ w)))
    → IfErr r (λ e. e ≡ refusal.Closed → OfConn {H = H} hub old k (λ w t h. is_shut t h ≡ true))
    → IfErr r (λ e. e ≡ refusal.NotGranted → OfConn {H = H} hub old k
    (λ w t h. (is_shut t h ≡ false) × (is_resumable t.config (steps t h) ≡ false) × (first_link (steps t h) ≡ None → ⊥)))
    → StandsMachine {H = H} hub old w → settings_there k w ≡ Some t
    → (is_shut t (moves k w) ≡ false) × ((is_resumable t.config (steps t (moves k w)) ≡ true) ⊎ (first_link (steps t (moves k w)) ≡ None))
    → was_on n (steps t (moves k w)) ≡ false → of.moment (steps t (moves k w)) ≤ now
    → StandsMachine {H = H} hub new (Does k (Plain (Step_of (Attached n now))) ∷ w)
attaches {H} hub old new k n now w t (Ok x) ok closed plain s there opens unused timely = ok w t s there n unused timely
attaches {H} hub old new k n now w t (Err refusal.Closed) ok closed plain s there opens unused timely =
    absurd (both_ways (is_shut t (moves k w)) opens.0 (closed refl w t s there))
attaches {H} hub old new k n now w t (Err refusal.NotGranted) ok closed plain s there opens unused timely =
    let not_so = plain refl w t s there in
    elim opens.1 [
      | inl e ↦ absurd (both_ways (is_resumable t.config (steps t (moves k w))) not_so.1 e)
      | inr e ↦ absurd (not_so.2 e)
    ]

pub attached : {H Job : Type 0} (hub : Hub Job) (u : Unsettled) (old new : Machine H Job) (k now : ℕ) (h : List ServerEvent)
    (r : Result (Unit {0}) AttachError)
    → OnOk r (OfConn {H = H} hub old k (λ w t h. (l : ℕ) → was_on l (steps t h) ≡ false → of.moment (steps t h) ≤ now
    → StandsMachine {H = H} hub new (Does k (Plain (Step_of (Attached l now))) ∷ w)))
    → IfErr r (λ e. e ≡ refusal.Closed → OfConn {H = H} hub old k (λ w t h. is_shut t h ≡ true))
    → IfErr r (λ e. e ≡ refusal.NotGranted → OfConn {H = H} hub old k
    (λ w t h. (is_shut t h ≡ false) × (is_resumable t.config (steps t h) ≡ false) × (first_link (steps t h) ≡ None → ⊥)))
    → StandsMachine {H = H} hub old (work h) → IsOrderly u k h → has_peer k h ≡ true → IsOpen k h → now ≡ moment h
    → StandsMachine {H = H} hub new (Does k (Plain (Step_of (Attached (link_count (history k h)) (moment h)))) ∷ work h)
attached {H} {Job} hub u old new k now h r ok closed plain s o there opens clock =
    let begun = settings_if k (work h) there in
    let t : Settings = begun.0 in
    let n : ℕ = link_count (history k h) in
    let timely : of.moment (steps t (moves k (work h))) ≤ moment h = subst
    (λ o. of.moment (history_with o (moves k (work h))) ≤ moment h) begun.2 o.timely in
    subst (λ x. StandsMachine {H = H} hub new (Does k (Plain (Step_of (Attached n x))) ∷ work h)) clock
    (attaches {H = H} {Job = Job} hub old new k n now (work h) t r ok closed plain s begun.1 (opens t begun.1)
    (ap (λ o. was_on n (history_with o (moves k (work h)))) (sym begun.2) ∙ unused_link (history k h) o.links)
    (subst (λ x. of.moment (steps t (moves k (work h))) ≤ x) (sym clock) timely))

-- ---- one that may stand on a link

granted_open : (k : ℕ) (h : List ServerEvent) → may_resume k h ≡ true → IsOpen k h
granted_open k h e t is =
    let parts = and_parts (is_up k h) (is_resumable (config_of k h) (history k h)) e in
    let up = and_parts (not (has_gone k (work h))) (is_open_at (settings_of k (work h)) (moves k (work h))) parts.0 in
    let begun : settings_of k (work h) ≡ Some t = sym
    (cond-false (has_gone k (work h)) None (settings_of k (work h)) (not-true (has_gone k (work h)) up.0)) ∙ is in (
      not-true (is_shut t (moves k (work h))) (subst (λ o. is_open_at o (moves k (work h)) ≡ true) begun up.1),
      inl (subst (λ o. is_resumable (config_with o) (history_with o (moves k (work h))) ≡ true) begun parts.1),
    )

pub record IsReady (k at : ℕ) (is_last : Bool) (h : List ServerEvent) : Type 0 where
  pub there : has_peer k h ≡ true
  pub made : is_made k (notes h) ≡ true
  pub unpolled : is_polling k (notes h) ≡ false
  pub come : HasCome at is_last h
  pub opens : IsOpen k h

-- it had its peer, or has just got it
pub connecting_cases : (P : List ServerEvent → Type 0) (u : Unsettled) (s : Setup) (k : ℕ) (resumable : Bool) (h : List ServerEvent) → IsKnown k h
    → IsOrderly u k h
    → (has_peer k h ≡ true → P h)
    → (settings_of k (work h) ≡ None → P (Works (Connects k (peer_settings s k (user_of k h) resumable) (user_of k h)) ∷ h))
    → P (onto (connecting s k resumable h) h)
connecting_cases P u s k resumable h known o old new = go (has_peer k h) refl
  where
    go : (b : Bool) → has_peer k h ≡ b → P (onto (connecting s k resumable h) h)
    go true e = subst P (sym (connecting_there s k resumable h (begun_of k h e))) (old e)
    go false e = let none = fresh u k h known o e in subst P (sym (connecting_fresh s k resumable h none)) (new none)

pub ready : {H Job : Type 0} (hub : Hub Job) (s : Setup) (before : List Said) (old : Server H Job) (k : ℕ) (resumable : Bool) (at : ℕ) (is_last : Bool)
    (h : List ServerEvent)
    → Standing {H = H} hub s settled before old h → HasCome at is_last h → CanStand k h → IsReady k at is_last (onto (connecting s k resumable h) h)
ready {H} {Job} hub s before old k resumable at is_last h st come can =
    connecting_cases (IsReady k at is_last) settled s k resumable h can.known (st.orderly k)
    (λ e. record { there = e; made = can.known.made; unpolled = can.unpolled; come = come; opens = granted_open k h (can.granted e) })
    (λ new. record {
      there = there_now {H = H} {Job = Job} hub s before old k resumable h st can.known new;
      made = can.known.made;
      unpolled = can.unpolled;
      come = record {
        waits = come.waits;
        last = come.last;
        unrefused = come.unrefused;
        empty = come.empty;
        nobody = λ c. at_same {H = H} {Job = Job} hub s before old k resumable h st can.known new at c (c == k) refl ∙ come.nobody c;
      };
      opens = λ t e.
          let unmoved = (st.machine.strangers k new).unmoved in
          (subst (λ ms. is_shut t ms ≡ false) (sym unmoved) refl, inr (subst (λ ms. first_link (steps t ms) ≡ None) (sym unmoved) refl));
    })

-- the number of its next link is the same
pub next_link : {H Job : Type 0} (hub : Hub Job) (s : Setup) (before : List Said) (old : Server H Job) (k : ℕ) (resumable : Bool) (h : List ServerEvent)
    → Standing {H = H} hub s settled before old h → IsKnown k h
    → link_count (history k (onto (connecting s k resumable h) h)) ≡ link_count (history k h)
next_link {H} {Job} hub s before old k resumable h st known =
    connecting_cases (λ g. link_count (history k g) ≡ link_count (history k h)) settled s k resumable h known (st.orderly k)
    (λ e. refl)
    (λ new. ap link_count (blank {H = H} {Job = Job} hub s before old k resumable h st known new)
    ∙ sym (ap (λ o. link_count (history_with o (moves k (work h)))) new))

-- and so is the moment
pub same_moment : (u : Unsettled) (s : Setup) (k : ℕ) (resumable : Bool) (h : List ServerEvent) → IsKnown k h → IsOrderly u k h
    → moment (onto (connecting s k resumable h) h) ≡ moment h
same_moment u s k resumable h known o = connecting_cases (λ g. moment g ≡ moment h) u s k resumable h known o (λ e. refl) (λ e. refl)

-- ---- whether it may be resumed

nothing : {A : Type 0} (o : Option A) → is_some o ≡ false → o ≡ None
nothing None e = refl
nothing (Some x) e = absurd (both_ways true e refl)

pub granted_is : {H Job : Type 0} (hub : Hub Job) (m : Machine H Job) (k : ℕ) (h : List ServerEvent) (r : Bool)
    → OfConn {H = H} hub m k (λ w t h. r ≡ (not (is_shut t h) && is_resumable t.config (steps t h))) → (peer_at m k ≡ None → r ≡ false)
    → StandsMachine {H = H} hub m (work h) → r ≡ may_resume k h
granted_is {H} {Job} hub m k h r there absent s = go (has_peer k h) refl
  where
    of_settings : Option Settings → Bool
    of_settings o = (not (has_gone k (work h)) && is_open_at o (moves k (work h))) && is_resumable (config_with o) (history_with o (moves k (work h)))

    down : (is_some (settings_of k (work h)) ≡ false) ⊎ (not (has_gone k (work h)) ≡ false) → is_up k h ≡ false
    down (inl e) = and_right (not (has_gone k (work h))) (is_open_at (settings_of k (work h)) (moves k (work h)))
        (ap (λ o. is_open_at o (moves k (work h))) (nothing (settings_of k (work h)) e))
    down (inr e) = and_left (not (has_gone k (work h))) (is_open_at (settings_of k (work h)) (moves k (work h))) e

    go : (b : Bool) → has_peer k h ≡ b → r ≡ may_resume k h
    go true e =
        let begun = settings_if k (work h) e in
        let t : Settings = begun.0 in
        let unlost = (and_parts (is_some (settings_of k (work h))) (not (has_gone k (work h))) e).1 in
        there (work h) t s begun.1
        ∙ sym (ap (λ b. (b && not (is_shut t (moves k (work h)))) && is_resumable t.config (steps t (moves k (work h)))) unlost)
        ∙ sym (ap of_settings begun.2)
    go false e =
        absent (nothing (peer_at m k) (peer_there {H = H} {Job = Job} hub m (work h) k s ∙ e))
        ∙ sym (and_left (is_up k h) (is_resumable (config_of k h) (history k h))
        (down (and_cases (is_some (settings_of k (work h))) (not (has_gone k (work h))) e)))
