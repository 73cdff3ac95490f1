-- What an end lends leaves all but its own history as it was.
use Rattle.std.proofs.Common.{◌≡◌, ◌≤◌, ℕ, ◌==◌, Bool, true, false, not, ◌&&◌, ◌||◌, List, [], ◌∷◌, map, Option, Some, None, is_some}
use Rattle.std.proofs.Common.{refl, sym, ap, subst, ◌∙◌, arith}
use Rattle.std.specs.Prelude.{if◌then◌else◌, option_map}
use Rattle.std.specs.Ordering.{nat_cmp}
use Rattle.std.specs.BTreeMap.{get}
use Rattle.std.proofs.lemmas.Bool.{eqb-true}
use Rattle.std.proofs.lemmas.List.{append-nil}
use Rattle.hd_delivery.specs.Due.{due}
use Rattle.hd_delivery.specs.Frames.{LinkFrame}
use Rattle.hd_delivery.specs.Histories.{Lent, is_closed, is_this}
use Rattle.hd_delivery.specs.Bytes.{Does as Step_of}
use Rattle.hd_calls.specs.Hubs.{Hub}
use Rattle.hd_calls.specs.Peers.{PeerEvent, Plain, Settings}
use Rattle.hd_server.specs.declared.vocabulary.Said.{Said}
use Rattle.hd_server.specs.Lives.{ConnectionEvent, is_removed, poll_of, socket_of}
use Rattle.hd_server.specs.Machine.{MachineEvent, Does, has_gone, settings_of}
use Rattle.hd_server.specs.Doings.{ServerEvent, notes, work, moment, said, user_of, peer, config_of, config_with, has_closed, has_peer, history}
use Rattle.hd_server.specs.Doings.{history_with}
use Rattle.hd_server.specs.Plans.{Setup, onto, step}
use Rattle.hd_server.specs.Serves.{LendsAll, lending}
use Rattle.hub_machine.specs.declared.machine.Machine.{Machine}
use Rattle.hub_server.specs.declared.server.Server.{Server}
use Rattle.hub_machine.specs.Machines.{StandsMachine}
use Rattle.hub_machine.specs.Calls.{doing}
use Rattle.hub_machine.specs.Traffic.{lends}
use Rattle.hub_server.specs.Lanes.{Unsettled, is_at}
use Rattle.hub_server.specs.Servers.{IsOrderly, Standing, caller_of, StandsFront}
use Rattle.hub_server.proofs.Alike.{Alike, alike_refl, alike_trans, alike_does, orderly_alike}
use Rattle.hub_server.proofs.LaneKept.{SameLane, same_lane_refl, same_lane_trans, same_lane_works, lane_kept}
use Rattle.hub_server.proofs.Calm.{moves_own, onto_reverse, orderly_lends}

-- nothing came but what the end of a connection lent
pub record HasLent (c : ℕ) (g h : List ServerEvent) : Type 0 where
  pub noted : notes g ≡ notes h
  pub words : said g ≡ said h
  pub clock : moment g ≡ moment h
  pub settings : (k : ℕ) → settings_of k (work g) ≡ settings_of k (work h)
  pub gone : (k : ℕ) → has_gone k (work g) ≡ has_gone k (work h)
  pub user : (k : ℕ) → user_of k g ≡ user_of k h
  pub lane : (l : ℕ) → SameLane l g h
  pub others : (k : ℕ) → (k == c) ≡ false → Alike k g h
  pub closed : has_closed c g ≡ has_closed c h

closed_with : (f : LinkFrame) (o : Option Settings) (ms : List PeerEvent)
    → is_closed (config_with o) (history_with o (Plain (Step_of (Lent f)) ∷ ms)) ≡ is_closed (config_with o) (history_with o ms)
closed_with f None ms = refl
closed_with f (Some t) ms = refl

lent_closed : (c : ℕ) (f : LinkFrame) (h : List ServerEvent) → has_closed c (step c (Lent f) ∷ h) ≡ has_closed c h
lent_closed c f h =
    ap (λ (ms : List PeerEvent). is_closed (config_of c h) (history_with (settings_of c (work h)) ms)) (moves_own c (Plain (Step_of (Lent f))) (work h))
    ∙ closed_with f (settings_of c (work h)) (peer c h)

one_lent : (c : ℕ) (f : LinkFrame) (h : List ServerEvent) → HasLent c (step c (Lent f) ∷ h) h
one_lent c f h = record {
  noted = refl;
  words = refl;
  clock = refl;
  settings = λ k. refl;
  gone = λ k. refl;
  user = λ k. refl;
  lane = λ l. same_lane_works l (Does c (Plain (Step_of (Lent f)))) h;
  others = λ k e. alike_does k c (Plain (Step_of (Lent f))) h e;
  closed = lent_closed c f h;
}

pub all_lent : (c : ℕ) (fs : List LinkFrame) (h : List ServerEvent) → HasLent c (onto (lending c fs) h) h
all_lent c [] h = record {
  noted = refl;
  words = refl;
  clock = refl;
  settings = λ k. refl;
  gone = λ k. refl;
  user = λ k. refl;
  lane = λ l. same_lane_refl l h;
  others = λ k e. alike_refl k h;
  closed = refl;
}
all_lent c (f ∷ fs) h =
    let g : List ServerEvent = step c (Lent f) ∷ h in
    let x : HasLent c (onto (lending c fs) g) g = all_lent c fs g in
    let y : HasLent c g h = one_lent c f h in
    record {
      noted = x.noted;
      words = x.words;
      clock = x.clock;
      settings = λ k. x.settings k;
      gone = λ k. x.gone k;
      user = λ k. x.user k;
      lane = λ l. same_lane_trans l (onto (lending c fs) g) g h (x.lane l) (y.lane l);
      others = λ k e. alike_trans k (onto (lending c fs) g) g h (x.others k e) (y.others k e);
      closed = x.closed ∙ y.closed;
    }

-- once all that was due is lent nothing is due
pub lent_due : (c : ℕ) (t : Settings) (fs : List LinkFrame) (h : List ServerEvent) → settings_of c (work h) ≡ Some t
    → LendsAll (config_of c h) (history c h) fs → due (config_of c (onto (lending c fs) h)) (history c (onto (lending c fs) h)) ≡ None
lent_due c t [] h told x = x
lent_due c t (f ∷ fs) h told x =
    lent_due c t fs (step c (Lent f) ∷ h) told
    (subst (λ ms. LendsAll (config_of c h) (history_with (settings_of c (work h)) ms) fs) (sym (moves_own c (Plain (Step_of (Lent f))) (work h)))
    (by (settings_of c (work h)) told x.1))
  where
    by : (o : Option Settings) → o ≡ Some t → LendsAll (config_of c h) (Lent f ∷ history_with o (peer c h)) fs
        → LendsAll (config_of c h) (history_with o (Plain (Step_of (Lent f)) ∷ peer c h)) fs
    by None e y = absurd (let no : ◌≡◌ {A = Option Settings} None (Some t) = e in cc)
    by (Some z) e y = y

-- ---- the machine's side of it

gathered : (c : ℕ) (fs : List LinkFrame) (ms : List PeerEvent) (w : List MachineEvent) (h : List ServerEvent) → work h ≡ doing c ms w
    → work (onto (lending c fs) h) ≡ doing c (onto (map (λ f. Plain (Step_of (Lent f))) fs) ms) w
gathered c [] ms w h e = e
gathered c (f ∷ fs) ms w h e =
    gathered c fs (Plain (Step_of (Lent f)) ∷ ms) w (step c (Lent f) ∷ h) (ap (λ (x : List MachineEvent). Does c (Plain (Step_of (Lent f))) ∷ x) e)

pub work_lent : (c : ℕ) (fs : List LinkFrame) (h : List ServerEvent) → work (onto (lending c fs) h) ≡ doing c (lends fs) (work h)
work_lent c fs h =
    gathered c fs [] (work h) h refl
    ∙ ap (λ (ms : List PeerEvent). doing c ms (work h))
    (onto_reverse (map (λ f. Plain (Step_of (Lent f))) fs) [] ∙ append-nil (lends fs))

-- ---- the server's

caller_lent : (c k : ℕ) (g h : List ServerEvent) → HasLent c g h → caller_of k g ≡ caller_of k h
caller_lent c k g h x =
    ap (λ (o : Option Settings). if is_some o || is_removed k (notes g) then None else user_of k g) (x.settings k)
    ∙ ap (λ (n : List ConnectionEvent). if is_some (settings_of k (work h)) || is_removed k n then None else user_of k g) x.noted
    ∙ ap (λ (user : Option (List ℕ)). if is_some (settings_of k (work h)) || is_removed k (notes h) then None else user) (x.user k)

pub there_lent : (c k : ℕ) (g h : List ServerEvent) → HasLent c g h → has_peer k g ≡ has_peer k h
there_lent c k g h x =
    ap (λ (o : Option Settings). is_some o && not (has_gone k (work g))) (x.settings k)
    ∙ ap (λ (b : Bool). is_some (settings_of k (work h)) && not b) (x.gone k)

pub at_lent : (c lane k : ℕ) (g h : List ServerEvent) → HasLent c g h → is_at lane k g ≡ is_at lane k h
at_lent c lane k g h x =
    ap (λ (b : Bool). b && (is_this lane (socket_of k (notes g)) || is_this lane (option_map (λ (poll : ℕ × ℕ). poll.0) (poll_of k (notes g)))))
    (there_lent c k g h x)
    ∙ ap (λ (n : List ConnectionEvent). has_peer k h && (is_this lane (socket_of k n) || is_this lane
    (option_map (λ (poll : ℕ × ℕ). poll.0) (poll_of k n)))) x.noted

orderly_lent_all : (u : Unsettled) (c k : ℕ) (fs : List LinkFrame) (h : List ServerEvent) → ((l : ℕ) → IsOrderly u l h)
    → IsOrderly u k (onto (lending c fs) h)
orderly_lent_all u c k fs h o = go (k == c) refl
  where
    g : List ServerEvent
    g = onto (lending c fs) h

    later : moment h ≤ moment g
    later = let e : moment g ≡ moment h = (all_lent c fs h).clock in omega (arith, e)

    go : (b : Bool) → (k == c) ≡ b → IsOrderly u k g
    go true e = subst (λ n. IsOrderly u n g) (sym (eqb-true k c e)) (orderly_lends u c fs h (o c))
    go false e = orderly_alike u k g h ((all_lent c fs h).others k e) later (o k)

-- a server that stood for what there was stands for what was lent too, if its machine does
pub standing_lends : {H Job : Type 0} (hub : Hub Job) (s : Setup) (u : Unsettled) (before : List Said) (v : Server H Job) (m : Machine H Job) (c : ℕ)
    (fs : List LinkFrame) (h : List ServerEvent)
    → StandsMachine {H = H} hub m (doing c (lends fs) (work h)) → Standing {H = H} hub s u before v h
    → Standing {H = H} hub s u before (record v { machine = m }) (onto (lending c fs) h)
standing_lends {H} hub s u before v m c fs h stands x =
    let g : List ServerEvent = onto (lending c fs) h in
    let l : HasLent c g h = all_lent c fs h in
    record {
      setup = x.setup;
      machine = subst (λ w. StandsMachine {H = H} hub m w) (sym (work_lent c fs h)) stands;
      front = subst (λ n. StandsFront s.live v.front n) (sym l.noted) x.front;
      callers = λ k. x.callers k ∙ sym (caller_lent c k g h l);
      lanes = λ lane. lane_kept u (get nat_cmp v.lanes lane) lane g h (l.lane lane) (λ k. at_lent c lane k g h l)
          (λ k. ap (λ (n : List ConnectionEvent). is_this lane (socket_of k n)) l.noted) (x.lanes lane);
      begun = λ k t e. x.begun k t (sym (l.settings k) ∙ e);
      orderly = λ k. orderly_lent_all u c k fs h x.orderly;
      clock = x.clock ∙ sym l.clock;
      words = l.words ∙ x.words;
    }
