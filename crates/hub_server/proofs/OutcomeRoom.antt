-- What a server stands for but its front, once a connection gave way to a new one.
use Rattle.std.proofs.Common.{◌≡◌, ℕ, suc, Bool, true, false, List, [], ◌∷◌, ◌++◌, Option, Some, None, IfSome, refl, sym, ap, subst, ◌∙◌, arith, eqb-true, ne_eqb, if◌then◌else◌}
use Rattle.std.specs.Prelude.{◌==◌, nat_le, nat_lt, ◌||◌}
use Rattle.std.specs.Ordering.{nat_cmp}
use Rattle.std.specs.BTreeMap.{BTreeMap, get}
use Rattle.std.proofs.lemmas.Bool.{and_parts, leb-true}
use Rattle.hd_calls.specs.Hubs.{Hub}
use Rattle.hd_calls.specs.Peers.{Settings}
use Rattle.hd_server.specs.declared.vocabulary.Life.{Life}
use Rattle.hd_server.specs.declared.vocabulary.Life.TheVariants.{Unknown, Fresh, Socket, Lost, Polling, Ending}
use Rattle.hd_server.specs.declared.vocabulary.Said.{Said}
use Rattle.hd_server.specs.Lives.{ConnectionEvent, Removed, deadline, is_fresh, is_past, is_removed, made, past, standing}
use Rattle.hd_server.specs.Machine.{Goes, settings_of}
use Rattle.hd_server.specs.Doings.{ServerEvent, Notes, Works, has_peer, moment, notes, said, work}
use Rattle.hd_server.specs.Plans.{Setup, onto, removing_some}
use Rattle.hn_server_front.specs.Calls.{IsUnused, after_leaving}
use Rattle.hn_server_front.specs.Stands.{IsUnborn}
use Rattle.hub_machine.specs.Machines.{StandsMachine}
use Rattle.hub_server.specs.declared.server.Server.{Server}
use Rattle.hub_server.specs.Lanes.{IsLane, Unsettled, settled}
use Rattle.hub_server.specs.Requests.{caller_left}
use Rattle.hub_server.specs.Servers.{IsBegunBy, IsOrderly, IsSetup, Standing, caller_of}
use Rattle.hub_server.proofs.Alike.{alike_note, caller_alike, orderly_alike}
use Rattle.hub_server.proofs.Gone.{Freed, freed_absent}
use Rattle.hub_server.proofs.LaneKept.{lane_kept, same_lane_note}
use Rattle.hub_server.proofs.OutcomeLives.{fresh_lacks, reads}

-- all but the front
pub record Around {H Job : Type 0} (hub : Hub Job) (s : Setup) (u : Unsettled) (before : List Said) (v : Server H Job) (h : List ServerEvent) : Type 0 where
  pub setup : IsSetup s v.base v.resend s.live
  pub machine : StandsMachine hub v.machine (work h)
  pub callers : (c : ℕ) → get nat_cmp v.callers c ≡ caller_of c h
  pub lanes : (lane : ℕ) → IsLane u (get nat_cmp v.lanes lane) lane h
  pub begun : (c : ℕ) (t : Settings) → settings_of c (work h) ≡ Some t → IsBegunBy s t
  pub orderly : (c : ℕ) → IsOrderly u c h
  pub clock : v.moment ≡ moment h
  pub words : said h ≡ before ++ v.words

around : {H Job : Type 0} (hub : Hub Job) (s : Setup) (u : Unsettled) (before : List Said) (v : Server H Job) (h : List ServerEvent)
    → Standing {H = H} hub s u before v h → (callers : BTreeMap ℕ (List ℕ)) → ((c : ℕ) → get nat_cmp callers c ≡ get nat_cmp v.callers c)
    → Around {H = H} hub s u before (record v { callers = callers }) h
around hub s u before v h st callers same = record {
  setup = st.setup;
  machine = st.machine;
  callers = λ c. same c ∙ st.callers c;
  lanes = st.lanes;
  begun = st.begun;
  orderly = st.orderly;
  clock = st.clock;
  words = st.words;
}

-- what holds of each connection holds where one that has no peer is let go
orderly_left : (u : Unsettled) (k : ℕ) (h : List ServerEvent) → ((c : ℕ) → IsOrderly u c h) → has_peer k h ≡ false → (c : ℕ)
    → IsOrderly u c (Notes (Removed k) ∷ h)
orderly_left u k h all none c = each (c == k) refl
  where
    each : (b : Bool) → (c == k) ≡ b → IsOrderly u c (Notes (Removed k) ∷ h)
    each true e =
        subst (λ n. IsOrderly u n (Notes (Removed k) ∷ h)) (sym (eqb-true c k e)) (let freed = freed_absent k h none in freed.orderly u u (all k))
    each false e = orderly_alike u c (Notes (Removed k) ∷ h) h (alike_note (Removed k) c h e tt) (omega arith) (all c)

-- one that has no peer is let go
around_left : {H Job : Type 0} (hub : Hub Job) (s : Setup) (u : Unsettled) (before : List Said) (v : Server H Job) (k : ℕ) (h : List ServerEvent)
    → Standing {H = H} hub s u before v h → has_peer k h ≡ false
    → (callers : BTreeMap ℕ (List ℕ)) → ((c : ℕ) → get nat_cmp callers c ≡ caller_left (Some k) c (get nat_cmp v.callers c))
    → Around {H = H} hub s u before (record v { callers = callers }) (Notes (Removed k) ∷ h)
around_left hub s u before v k h st none callers leaves = record {
  setup = st.setup;
  machine = st.machine;
  callers = λ c. called c (c == k) refl;
  lanes = λ l. lane_kept u (get nat_cmp v.lanes l) l g h (same_lane_note l (Removed k) h) (λ c. refl) (λ c. refl) (st.lanes l);
  begun = st.begun;
  orderly = orderly_left u k h st.orderly none;
  clock = st.clock;
  words = st.words;
}
  where
    g : List ServerEvent
    g = Notes (Removed k) ∷ h

    freed : Freed k g h
    freed = freed_absent k h none

    called : (c : ℕ) (b : Bool) → (c == k) ≡ b → get nat_cmp callers c ≡ caller_of c g
    called c true e =
        leaves c ∙ ap (λ b. if b then None else get nat_cmp v.callers c) e ∙ sym freed.uncalled ∙ ap (λ n. caller_of n g) (sym (eqb-true c k e))
    called c false e =
        leaves c ∙ ap (λ b. if b then None else get nat_cmp v.callers c) e ∙ st.callers c ∙ sym (caller_alike c g h (freed.others c e))

fresh_but_past : (b : Bool) (l : Life) → is_fresh (if b then past l else l) ≡ true → l ≡ Fresh
fresh_but_past true Unknown e = absurd (cc)
fresh_but_past true Fresh e = refl
fresh_but_past true (Socket lane) e = absurd (cc)
fresh_but_past true Lost e = absurd (cc)
fresh_but_past true Polling e = absurd (cc)
fresh_but_past true Ending e = absurd (cc)
fresh_but_past false Unknown e = absurd (cc)
fresh_but_past false Fresh e = refl
fresh_but_past false (Socket lane) e = absurd (cc)
fresh_but_past false Lost e = absurd (cc)
fresh_but_past false Polling e = absurd (cc)
fresh_but_past false Ending e = absurd (cc)

module _ {H Job : Type 0} (hub : Hub Job) (s : Setup) (before : List Said) (v : Server H Job) (h : List ServerEvent)
    (st : Standing {H = H} hub s settled before v h) (now : ℕ) where
  -- one that nobody used has no peer
  lacks : (k : ℕ) → IsUnused now (notes h) k → has_peer k h ≡ false
  lacks k it =
      fresh_lacks k h (st.orderly k) (reads k (notes h) Fresh (fresh_but_past (is_past now (deadline k (notes h))) (standing k (notes h)) it.fresh))

  absent : (k : ℕ) → has_peer k h ≡ false → onto (removing_some (Some k) h) h ≡ Notes (Removed k) ∷ h
  absent k none = ap (λ b. onto ((if b then Works (Goes k) ∷ [] else []) ++ Notes (Removed k) ∷ []) h) none

  -- what is noted where one that nobody used is let go, or none
  pub gone_notes : (o : Option ℕ) → IfSome o (IsUnused now (notes h)) → notes (onto (removing_some o h) h) ≡ after_leaving o (notes h)
  gone_notes None e = refl
  gone_notes (Some k) e = ap notes (absent k (lacks k e))

  pub gone_orderly : (o : Option ℕ) → IfSome o (IsUnused now (notes h)) → (c : ℕ) → IsOrderly settled c (onto (removing_some o h) h)
  gone_orderly None e = st.orderly
  gone_orderly (Some k) e =
      let none = lacks k e in
      subst (λ x. (c : ℕ) → IsOrderly settled c x) (sym (absent k none)) (orderly_left settled k h st.orderly none)

  pub gone_around : (o : Option ℕ) → IfSome o (IsUnused now (notes h)) → (callers : BTreeMap ℕ (List ℕ))
      → ((c : ℕ) → get nat_cmp callers c ≡ caller_left o c (get nat_cmp v.callers c))
      → Around {H = H} hub s settled before (record v { callers = callers }) (onto (removing_some o h) h)
  gone_around None e callers leaves = around {H = H} {Job = Job} hub s settled before v h st callers leaves
  gone_around (Some k) e callers leaves =
      let none = lacks k e in
      subst (λ x. Around {H = H} hub s settled before (record v { callers = callers }) x) (sym (absent k none))
      (around_left {H = H} {Job = Job} hub s settled before v k h st none callers leaves)

  unborn_after : (o : Option ℕ) → IfSome o (IsUnused now (notes h)) → IsUnborn (suc (made (notes h))) (notes h)
      → IsUnborn (suc (made (after_leaving o (notes h)))) (after_leaving o (notes h))
  unborn_after None e u = u
  unborn_after (Some k) e u =
      let next : ℕ = suc (made (notes h)) in
      let within = leb-true k (made (notes h)) (and_parts (nat_lt 0 k) (nat_le k (made (notes h))) e.made_so).1 in
      record {
        held = ap (λ b. b || is_removed next (notes h)) (ne_eqb next k (λ x. omega (arith, x, within))) ∙ u.held;
        opened = u.opened;
        told = u.told;
        promise = u.promise;
        token = u.token;
        socket = u.socket;
        lost = u.lost;
        poll = u.poll;
        polled = u.polled;
        ended = u.ended;
      }

  -- of the next nothing was noted
  pub gone_unborn : (o : Option ℕ) → IfSome o (IsUnused now (notes h)) → IsUnborn (suc (made (notes h))) (notes h)
      → IsUnborn (suc (made (notes (onto (removing_some o h) h)))) (notes (onto (removing_some o h) h))
  gone_unborn o e u = subst (λ n. IsUnborn (suc (made n)) n) (sym (gone_notes o e)) (unborn_after o e u)

-- as many were made as before
pub gone_made : (o : Option ℕ) (n : List ConnectionEvent) → made (after_leaving o n) ≡ made n
gone_made None n = refl
gone_made (Some k) n = refl
