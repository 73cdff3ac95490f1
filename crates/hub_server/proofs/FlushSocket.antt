-- What a connection says on its socket, in one message, and its end there.
use Rattle.std.proofs.Common.{◌≡◌, ℕ, Bool, true, false, not, ◌||◌, List, [], ◌∷◌, ◌++◌, Option, Some, None}
use Rattle.std.proofs.Common.{refl, sym, ap, subst, ◌∙◌, arith}
use Rattle.std.specs.Prelude.{if◌then◌else◌, ◌&&◌}
use Rattle.std.specs.Ordering.{nat_cmp}
use Rattle.std.specs.BTreeMap.{get}
use Rattle.std.proofs.lemmas.Bool.{both_ways, eq-eqb, true≢false}
use Rattle.std.proofs.lemmas.List.{append-nil}
use Rattle.hd_delivery.specs.Due.{due}
use Rattle.hd_delivery.specs.Frames.{LinkFrame}
use Rattle.hd_delivery.specs.Histories.{is_this}
use Rattle.hd_calls.specs.Hubs.{Hub}
use Rattle.hd_calls.specs.Peers.{is_shut, steps}
use Rattle.hd_server.specs.declared.vocabulary.Said.{Said}
use Rattle.hd_server.specs.declared.vocabulary.Said.TheVariants as say
use Rattle.hd_server.specs.Lives.{poll_of, socket_of}
use Rattle.hd_server.specs.Machine.{MachineEvent, moves, settings_of}
use Rattle.hd_server.specs.Doings.{ServerEvent, Says, config_of, config_with, has_closed, has_peer, history, history_with, is_full, notes, was_refused, work}
use Rattle.hd_server.specs.Plans.{Setup, removing_conn, onto, shutting}
use Rattle.hd_server.specs.Serves.{AreDueBy, AreNonempty, LendsAll, all_of, bytes_of, is_text, is_withheld, lending, flushing_socket, writing}
use Rattle.hub_machine.specs.declared.machine.Machine.{Machine}
use Rattle.hub_server.specs.declared.lane.Lane.{Lane}
use Rattle.hub_server.specs.declared.server.Server.{Server}
use Rattle.hub_machine.specs.Machines.{IsIndexed, OfConn, StandsMachine, peer_at}
use Rattle.hub_machine.specs.Sleeping.{IsUpWithCause}
use Rattle.hub_machine.specs.Traffic.{IsServers, LendsDue, is_any}
use Rattle.hub_server.specs.Connections.{Frees, IsKnown}
use Rattle.hub_server.specs.Lanes.{HasLane, IsLane, Unsettled, is_at, poll_lane, settled}
use Rattle.hub_server.specs.Servers.{IsRested, OfEach, Standing, may_speak}
use Rattle.hub_server.specs.Flushes.{FlushesOne, Writes}
use Rattle.hub_server.proofs.LaneKept.{standing_shuts, standing_tells}
use Rattle.hub_server.proofs.OntoAlike.{onto_append}
use Rattle.hub_server.proofs.FlushLends.{lent_due}
use Rattle.hub_server.proofs.FlushSaid.{Mild, SaidAll, closed_is, gone_after, is_one, known_mild, letting_mild, mild_lends, mild_says, mild_then}
use Rattle.hub_server.proofs.FlushSaid.{said_all, shutting_mild, shutting_says, standing_rests, text_is, up_there, work_says, writing_says}
use Rattle.hub_server.proofs.Resting.{full_is_mute, up_gone}
use Rattle.hub_server.proofs.TickSteps.{begun_here}

-- ---- what is written

-- all in one message, if there is any
abbrev pub in_one : List LinkFrame → List (List LinkFrame)
in_one [] = []
in_one (f ∷ fs) = (f ∷ fs) ∷ []

in_one_all : (fs : List LinkFrame) → all_of (in_one fs) ≡ fs
in_one_all [] = refl
in_one_all (f ∷ fs) = append-nil (f ∷ fs)

in_one_some : (fs : List LinkFrame) → AreNonempty (in_one fs)
in_one_some [] = tt
in_one_some (f ∷ fs) = (omega arith, tt)

module _ {H Job : Type 0} (hub : Hub Job) (s : Setup) (u : Unsettled) (before : List Said) (v : Server H Job) (m : Machine H Job) (c lane : ℕ)
    (any text : Bool) (old out : List ℕ) (h : List ServerEvent)
    (none : old ≡ []) (x : Standing {H = H} hub s u before v h) (there : has_peer c h ≡ true)
    (of : OfConn {H = H} hub v.machine c (λ w t k. LendsDue {H = H} hub m c w t k any old out)) where
  said : SaidAll {H = H} hub s u before (record v { machine = m }) c any out h
  said = said_all {H = H} {Job = Job} hub s u before v m c any old out h none x there of

  -- nothing was due
  pub writes_none : any ≡ false → Writes {H = H} hub s u before (record v { machine = m }) c lane h
  writes_none e = go said.frames said.due (sym said.some ∙ e) said.stands
    where
      go : (fs : List LinkFrame) → LendsAll (config_of c h) (history c h) fs → is_any fs ≡ false
          → Standing {H = H} hub s u before (record v { machine = m }) (onto (lending c fs) h)
          → Writes {H = H} hub s u before (record v { machine = m }) c lane h
      go [] due f stands = record { pieces = []; some = tt; due = due; stands = stands }
      go (f ∷ fs) due e stands = absurd (true≢false e)

  -- something was
  pub writes_some : (bytes : List ℕ) (words : List Said) → any ≡ true → bytes ≡ out
      → OfConn {H = H} hub v.machine c (λ w t k. IsServers t k → text ≡ is_text t.config (steps t k))
      → words ≡ v.words ++ say.Bytes lane bytes text ∷ [] → Writes {H = H} hub s u before (record v { machine = m; words = words }) c lane h
  writes_some bytes words e same texts are = record {
    pieces = in_one said.frames;
    some = in_one_some said.frames;
    due = subst (λ fs. LendsAll (config_of c h) (history c h) fs) (sym (in_one_all said.frames)) said.due;
    stands = subst (λ fs. Standing {H = H} hub s u before (record v { machine = m; words = words })
        (onto (lending c fs ++ writing s c lane (in_one said.frames) h) h))
        (sym (in_one_all said.frames))
        (subst (λ g. Standing {H = H} hub s u before (record v { machine = m; words = words }) g)
        (sym (onto_append (lending c said.frames) (writing s c lane (in_one said.frames) h) h))
        (go said.frames (sym said.some ∙ e) (same ∙ said.bytes) said.stands));
  }
    where
      go : (fs : List LinkFrame) → is_any fs ≡ true → bytes ≡ bytes_of s c fs h
          → Standing {H = H} hub s u before (record v { machine = m }) (onto (lending c fs) h)
          → Standing {H = H} hub s u before (record v { machine = m; words = words }) (onto (writing s c lane (in_one fs) h) (onto (lending c fs) h))
      go [] f b stands = absurd (true≢false (sym f))
      go (f ∷ fs) e b stands =
          subst (λ (ws : List Said). Standing {H = H} hub s u before (record v { machine = m; words = ws })
          (onto (writing s c lane ((f ∷ fs) ∷ []) h) (onto (lending c (f ∷ fs)) h))) (sym are)
          (subst (λ (d : ServerEvent). Standing {H = H} hub s u before (record v { machine = m; words = v.words ++ say.Bytes lane bytes text ∷ [] })
          (d ∷ onto (lending c (f ∷ fs)) h))
          (ap (λ (bs : List ℕ). Says (say.Bytes lane bs text)) b
          ∙ ap (λ (z : Bool). Says (say.Bytes lane (bytes_of s c (f ∷ fs) h) z)) (text_is {H = H}
          {Job = Job} hub s u before v c h x there text texts))
          (standing_tells {H = H} {Job = Job} hub s u before (record v { machine = m }) lane bytes text (onto (lending c (f ∷ fs)) h) stands))

-- ---- a lane is shut

pub shuts_none : {H Job : Type 0} (hub : Hub Job) (s : Setup) (u : Unsettled) (before : List Said) (v : Server H Job) (lane : ℕ) (h : List ServerEvent)
    (r : Bool)
    → r ≡ false → r ≡ not (was_refused lane h) → Standing {H = H} hub s u before v h → Standing {H = H} hub s u before v (onto (shutting lane h) h)
shuts_none {H} hub s u before v lane h r e f x = go (was_refused lane h) (sym f ∙ e)
  where
    go : (b : Bool) → not b ≡ false → Standing {H = H} hub s u before v (onto (if b then [] else Says (say.Shut lane) ∷ []) h)
    go true g = x
    go false g = absurd (true≢false g)

pub shuts_one : {H Job : Type 0} (hub : Hub Job) (s : Setup) (u : Unsettled) (before : List Said) (v : Server H Job) (words : List Said) (lane : ℕ)
    (h : List ServerEvent) (r : Bool)
    → r ≡ true → r ≡ not (was_refused lane h) → words ≡ v.words ++ say.Shut lane ∷ [] → Standing {H = H} hub s u before v h
    → Standing {H = H} hub s u before (record v { words = words }) (onto (shutting lane h) h)
shuts_one {H} {Job} hub s u before v words lane h r e f are x = go (was_refused lane h) (sym f ∙ e)
  where
    go : (b : Bool) → not b ≡ true → Standing {H = H} hub s u before (record v { words = words })
        (onto (if b then [] else Says (say.Shut lane) ∷ []) h)
    go true g = absurd (true≢false (sym g))
    go false g =
        subst (λ (ws : List Said). Standing {H = H} hub s u before (record v { words = ws }) (Says (say.Shut lane) ∷ h)) (sym are)
        (standing_shuts {H = H} {Job = Job} hub s u before v lane h x)

-- ---- the lane is full

module _ {H Job : Type 0} (hub : Hub Job) (s : Setup) (u : Unsettled) (before : List Said) (v : Server H Job) (c lane : ℕ) (h : List ServerEvent)
    (x : Standing {H = H} hub s u before v h) (there : has_peer c h ≡ true) where
  full_now : (kept : Lane) (b : Bool) → Some kept ≡ get nat_cmp v.lanes lane → kept.is_full ≡ b → is_full lane h ≡ b
  full_now kept b is e =
      let has : HasLane u kept lane h = subst (λ o. IsLane u o lane h) (sym is) (x.lanes lane) in
      sym has.full ∙ e

  -- nothing is withheld on a lane that isn't full
  pub empty_tells : (kept : Lane) → Some kept ≡ get nat_cmp v.lanes lane → kept.is_full ≡ false → false ≡ is_withheld c lane h
  empty_tells kept is e = sym (ap (λ (b : Bool). b && not (has_closed c h)) (full_now kept false is e))

  -- on one that is full, what is due is withheld of a connection that is open
  pub full_withholds : (kept : Lane) → Some kept ≡ get nat_cmp v.lanes lane → kept.is_full ≡ true → (r : Bool)
      → OfConn {H = H} hub v.machine c (λ w t k. r ≡ is_shut t k) → not r ≡ is_withheld c lane h
  full_withholds kept is e r of =
      ap not (closed_is {H = H} {Job = Job} hub s u before v c h x there r of)
      ∙ sym (ap (λ (b : Bool). b && not (has_closed c h)) (full_now kept true is e))

  -- what is due stays due
  pub tells_withheld : u ≡ settled → socket_of c (notes h) ≡ Some lane → is_withheld c lane h ≡ true → FlushesOne {H = H} hub s before v c (Some lane) (poll_of c (notes h)) h
  tells_withheld calm on full = record {
    pieces = [];
    due = subst (λ b. AreDueBy b c [] h) (sym full) refl;
    stands = subst (λ g. Standing {H = H} hub s settled before v g) (sym after) (subst (λ w. Standing {H = H} hub s w before v h) calm x);
    rested = subst (λ g. IsRested c g) (sym after) (λ at off. up_there c h at unclosed);
    cause = subst (λ g. may_speak c g ≡ true → IsUpWithCause {H = H} hub v.machine c) (sym after)
        (λ speaks. absurd (both_ways (may_speak c h) (full_is_mute c lane h on is_so) speaks));
  }
    where
      is_so : is_full lane h ≡ true
      is_so = go (is_full lane h) (has_closed c h) full
        where
          go : (a b : Bool) → (a && not b) ≡ true → a ≡ true
          go true b e = refl
          go false b e = absurd (true≢false (sym e))

      unclosed : has_closed c h ≡ false
      unclosed = go (is_full lane h) (has_closed c h) full
        where
          go : (a b : Bool) → (a && not b) ≡ true → b ≡ false
          go true true e = absurd (true≢false (sym e))
          go true false e = refl
          go false b e = absurd (true≢false (sym e))

      after : onto (flushing_socket s c lane [] h) h ≡ h
      after = ap (λ (b : Bool). onto (if b then shutting lane h ++ removing_conn c h else []) h) unclosed

-- ---- the connection has told

pub settled_writes : {H Job : Type 0} (hub : Hub Job) (s : Setup) (u : Unsettled) (before : List Said) (v : Server H Job) (c lane : ℕ)
    (h : List ServerEvent) → u ≡ settled
    → Writes {H = H} hub s u before v c lane h → Writes {H = H} hub s settled before v c lane h
settled_writes {H} hub s u before v c lane h calm w = subst (λ z. Writes {H = H} hub s z before v c lane h) calm w

-- one that stands on a socket is there on its lane
pub at_socket : (lane c : ℕ) (h : List ServerEvent) → has_peer c h ≡ true → socket_of c (notes h) ≡ Some lane → is_at lane c h ≡ true
at_socket lane c h there on =
    ap (λ (b : Bool). b && (is_this lane (socket_of c (notes h)) || is_this lane (poll_lane c (notes h)))) there
    ∙ ap (λ (o : Option ℕ). is_this lane o || is_this lane (poll_lane c (notes h))) on
    ∙ ap (λ (b : Bool). b || is_this lane (poll_lane c (notes h))) (eq-eqb lane lane refl)

module _ {H Job : Type 0} (hub : Hub Job) (s : Setup) (before : List Said) (v : Server H Job) (c lane : ℕ) (h : List ServerEvent)
    (w : Writes {H = H} hub s settled before v c lane h) (there : has_peer c h ≡ true) (on : socket_of c (notes h) ≡ Some lane)
    (free : is_withheld c lane h ≡ false) where
  due_now : AreDueBy (is_withheld c lane h) c w.pieces h
  due_now = subst (λ b. AreDueBy b c w.pieces h) (sym free) (w.some, w.due)

  mild : Mild c (onto (lending c (all_of w.pieces) ++ writing s c lane w.pieces h) h) h
  mild = subst (λ g. Mild c g h) (sym (onto_append (lending c (all_of w.pieces)) (writing s c lane w.pieces h) h))
      (mild_then c (onto (writing s c lane w.pieces h) (onto (lending c (all_of w.pieces)) h)) (onto (lending c (all_of w.pieces)) h) h
      (mild_says c (writing s c lane w.pieces h) (onto (lending c (all_of w.pieces)) h) (writing_says s c lane w.pieces h))
      (mild_lends c (all_of w.pieces) h))

  -- its end is open: it may rest, since nothing is due
  pub tells_open : (r : Bool) (m : Machine H Job) → r ≡ false → OfConn {H = H} hub v.machine c (λ k t ms. r ≡ is_shut t ms)
      → OfConn {H = H} hub v.machine c (λ k t ms. due t.config (steps t ms) ≡ None → StandsMachine {H = H} hub m k)
      → (IsIndexed {H = H} v.machine → IsUpWithCause {H = H} hub m c)
      → FlushesOne {H = H} hub s before (record v { machine = m }) c (Some lane) (poll_of c (notes h)) h
  tells_open r m e of rests up = record {
    pieces = w.pieces;
    due = due_now;
    stands = subst (λ g. Standing {H = H} hub s settled before (record v { machine = m }) g) (sym after)
        (standing_rests {H = H} {Job = Job} hub s settled before v c (onto (lending c (all_of w.pieces) ++ writing s c lane w.pieces h) h) w.stands
        (mild.there ∙ there) m nothing rests);
    rested = subst (λ g. IsRested c g) (sym after)
        (λ at off. up_there c (onto (lending c (all_of w.pieces) ++ writing s c lane w.pieces h) h) at (mild.closed ∙ unclosed));
    cause = λ speaks. up w.stands.machine.index;
  }
    where
      due_in : List MachineEvent → Option LinkFrame
      due_in x = due (config_with (settings_of c x)) (history_with (settings_of c x) (moves c x))

      lent : List ServerEvent
      lent = onto (lending c (all_of w.pieces)) h

      nothing : due_in (work (onto (lending c (all_of w.pieces) ++ writing s c lane w.pieces h) h)) ≡ None
      nothing =
          ap (λ (g : List ServerEvent). due_in (work g)) (onto_append (lending c (all_of w.pieces)) (writing s c lane w.pieces h) h)
          ∙ ap due_in (work_says (writing s c lane w.pieces h) lent (writing_says s c lane w.pieces h))
          ∙ (let t = begun_here c h there in lent_due c t.settings (all_of w.pieces) h t.begun w.due)

      unclosed : has_closed c h ≡ false
      unclosed = sym mild.closed ∙ sym (closed_is {H = H} {Job = Job} hub s settled before v c
          (onto (lending c (all_of w.pieces) ++ writing s c lane w.pieces h) h) w.stands (mild.there ∙ there) r of) ∙ e

      after : onto (flushing_socket s c lane w.pieces h) h ≡ onto (lending c (all_of w.pieces) ++ writing s c lane w.pieces h) h
      after =
          ap (λ (b : Bool). onto (lending c (all_of w.pieces) ++ writing s c lane w.pieces h ++
          (if b then shutting lane h ++ removing_conn c h else [])) h) unclosed
          ∙ ap (λ (xs : List ServerEvent). onto xs h) (append-nil (lending c (all_of w.pieces) ++ writing s c lane w.pieces h))

  -- it is closed: its lane was shut, and nothing is kept of it
  pub tells_closed : (r : Bool) (mid new : Server H Job) → r ≡ true → OfConn {H = H} hub v.machine c (λ k t ms. r ≡ is_shut t ms)
      → OfEach {H = H} hub v (λ t u said g. (k : ℕ) → is_at lane k g ≡ true → Standing {H = H} hub t u said mid (onto (shutting lane g) g))
      → OfEach {H = H} hub mid (λ t u said g. IsKnown c g → Frees {H = H} hub t u said new c g (onto (removing_conn c g) g))
      → peer_at new.machine c ≡ None
      → FlushesOne {H = H} hub s before new c (Some lane) (poll_of c (notes h)) h
  tells_closed r mid new e of shuts frees absent = record {
    pieces = w.pieces;
    due = due_now;
    stands = subst (λ g. Standing {H = H} hub s settled before new g) (sym after) freed.stands;
    rested = subst (λ g. IsRested c g) (sym after)
        (λ at. absurd (both_ways (has_peer c (onto (removing_conn c (onto (shutting lane base) base)) (onto (shutting lane base) base)))
        (gone_after c (onto (shutting lane base) base) (onto (shutting lane base) base) (both.there ∙ there)) at));
    cause = λ speaks. up_gone {H = H} {Job = Job} hub new.machine c absent;
  }
    where
      base : List ServerEvent
      base = onto (lending c (all_of w.pieces) ++ writing s c lane w.pieces h) h

      shut : Mild c (onto (shutting lane base) base) base
      shut = mild_says c (shutting lane base) base (shutting_says lane base)

      both : Mild c (onto (shutting lane base) base) h
      both = mild_then c (onto (shutting lane base) base) base h shut mild

      closed : has_closed c h ≡ true
      closed = sym mild.closed ∙ sym (closed_is {H = H} {Job = Job} hub s settled before v c base w.stands (mild.there ∙ there) r of) ∙ e

      freed : Frees {H = H} hub s settled before new c (onto (shutting lane base) base)
          (onto (removing_conn c (onto (shutting lane base) base)) (onto (shutting lane base) base))
      freed = frees s settled before (onto (shutting lane base) base)
          (shuts s settled before base w.stands c (at_socket lane c base (mild.there ∙ there) (ap (socket_of c) mild.noted ∙ on)))
          (known_mild c (onto (shutting lane base) base) base shut (is_one {H = H} {Job = Job} hub s settled before v c base w.stands
          (mild.there ∙ there)).known)

      after : onto (flushing_socket s c lane w.pieces h) h ≡ onto (removing_conn c (onto (shutting lane base) base)) (onto (shutting lane base) base)
      after =
          ap (λ (b : Bool). onto (lending c (all_of w.pieces) ++ writing s c lane w.pieces h ++
          (if b then shutting lane h ++ removing_conn c h else [])) h) closed
          ∙ onto_append (lending c (all_of w.pieces) ++ writing s c lane w.pieces h) (shutting lane h ++ removing_conn c h) h
          ∙ onto_append (shutting lane h) (removing_conn c h) base
          ∙ ap (λ (xs : List ServerEvent). onto (removing_conn c h) (onto xs base)) (sym (shutting_mild c lane base h mild))
          ∙ ap (λ (xs : List ServerEvent). onto xs (onto (shutting lane base) base)) (sym (letting_mild c (onto (shutting lane base) base) h both))
