-- What is due is said connection by connection: what one says changes nothing for those after it.
use Rattle.std.proofs.Common.{◌≡◌, ◌≤◌, ◌<◌, ℕ, ◌+◌, ◌==◌, Bool, true, false, ◌||◌, List, [], ◌∷◌, ◌++◌, length, get_or, drop, filter}
use Rattle.std.proofs.Common.{refl, sym, ap, subst, ◌∙◌, arith}
use Rattle.std.proofs.lemmas.Bool.{eqb-true, eq-eqb, true≢false}
use Rattle.std.proofs.lemmas.List.{append-nil, append_assoc, drop_all}
use Rattle.hd_delivery.specs.Frames.{LinkFrame}
use Rattle.hd_calls.specs.Hubs.{Hub}
use Rattle.hd_server.specs.declared.vocabulary.Said.{Said}
use Rattle.hd_server.specs.Lives.{numbers_to, poll_of, socket_of}
use Rattle.hd_server.specs.Machine.{connections, greatest, is_there}
use Rattle.hd_server.specs.Doings.{ServerEvent, has_peer, moment, notes, work}
use Rattle.hd_server.specs.Plans.{Setup, onto}
use Rattle.hd_server.specs.Serves.{AreAllDue, AreDue, all_flushing, flushing, flushing_on}
use Rattle.hd_server.specs.Laws.{PartsOfTurns}
use Rattle.hub_machine.specs.declared.machine.Machine.{Machine}
use Rattle.hub_server.specs.declared.server.Server.{Server}
use Rattle.hub_machine.specs.Laws.{ConnectionsAreNumbered}
use Rattle.hub_machine.specs.Machines.{StandsMachine, is_awake_at}
use Rattle.hub_server.specs.Lanes.{settled, Unsettled}
use Rattle.hub_machine.specs.Rounds.{AreNumbers, AreRising}
use Rattle.hub_machine.specs.Sleeping.{IsUpWithCause, KeepsOthers}
use Rattle.hub_server.specs.Servers.{IsLeftAlone, IsRested, OfEach, Standing, may_speak}
use Rattle.hub_machine.specs.Spreads.{is_listed}
use Rattle.hub_server.specs.Steps.{IsFlushed}
use Rattle.hub_server.specs.Flushes.{FlushesOne}
use Rattle.hub_server.proofs.Alike.{Alike, alike_refl, alike_trans, rested_alike, there_alike}
use Rattle.hub_server.proofs.Asleep.{IsMute, SaidByAll, awake_are, awake_there, said_by_all}
use Rattle.hub_server.proofs.OntoAlike.{onto_append}
use Rattle.hub_server.proofs.Listed.{listed_last}
use Rattle.hub_server.proofs.Resting.{left_alone, speaks_alike, up_still}
use Rattle.hub_server.proofs.Rising.{left_at, rising_rest}
use Rattle.hub_server.proofs.FlushOthersUnchanged.{Unheard, all_alike, all_unheard, same_due, same_flushing, unheard_same, unheard_then}

-- ---- lists of connections

apart_back : (k c : ℕ) → (k == c) ≡ false → (c == k) ≡ false
apart_back k c e = go (c == k) refl
  where
    go : (b : Bool) → (c == k) ≡ b → b ≡ false
    go true f = absurd (true≢false (sym (eq-eqb k c (sym (eqb-true c k f))) ∙ e))
    go false f = refl

-- the first is less than each after it
first_below : (c k : ℕ) (cs : List ℕ) → AreRising (c ∷ cs) → is_listed k cs ≡ true → c < k
first_below c k [] r e = absurd (true≢false (sym e))
first_below c k (d ∷ cs) r e = go (k == d) refl e (first_below d k cs r.1)
  where
    go : (b : Bool) → (k == d) ≡ b → (b || is_listed k cs) ≡ true → (is_listed k cs ≡ true → d < k) → c < k
    go true f g later = subst (λ n. c < n) (sym (eqb-true k d f)) r.0
    go false f g later = let next : c < d = r.0 in let past : d < k = later g in omega (arith, next, past)

-- ---- what was said by one more

told_last : (s : Setup) (now c : ℕ) (p : List (List LinkFrame)) (h : List ServerEvent) (cs : List ℕ) (all : List (List (List LinkFrame)))
    → AreAllDue s cs all h
    → all_flushing s now (cs ++ c ∷ []) (all ++ p ∷ []) h ≡ all_flushing s now cs all h ++ flushing s now c p h
told_last s now c p h [] [] x = append-nil (flushing s now c p h)
told_last s now c p h [] (q ∷ all) x = absurd x
told_last s now c p h (k ∷ cs) [] x = absurd x
told_last s now c p h (k ∷ cs) (q ∷ all) x =
    ap (λ (xs : List ServerEvent). flushing s now k q h ++ xs) (told_last s now c p h cs all x.1)
    ∙ sym (append_assoc (flushing s now k q h) (all_flushing s now cs all h) (flushing s now c p h))

due_last : (s : Setup) (c : ℕ) (p : List (List LinkFrame)) (h : List ServerEvent) (cs : List ℕ) (all : List (List (List LinkFrame))) → AreAllDue s cs all h
    → AreDue s c p h
    → AreAllDue s (cs ++ c ∷ []) (all ++ p ∷ []) h
due_last s c p h [] [] x y = (y, tt)
due_last s c p h [] (q ∷ all) x y = absurd x
due_last s c p h (k ∷ cs) [] x y = absurd x
due_last s c p h (k ∷ cs) (q ∷ all) x y = (x.0, due_last s c p h cs all x.1 y)

-- nothing is heard meanwhile
all_unheard_then : PartsOfTurns → (s : Setup) (now : ℕ) (cs : List ℕ) (all : List (List (List LinkFrame))) (h g : List ServerEvent)
    → Unheard (onto (all_flushing s now cs all h) g) g
all_unheard_then parts s now [] all h g = unheard_same g
all_unheard_then parts s now (k ∷ cs) [] h g = unheard_same g
all_unheard_then parts s now (k ∷ cs) (p ∷ all) h g =
    let mine : List ServerEvent = flushing s now k p h in
    subst (λ f. Unheard f g) (sym (onto_append mine (all_flushing s now cs all h) g))
    (unheard_then (onto (all_flushing s now cs all h) (onto mine g)) (onto mine g) g
    (all_unheard_then parts s now cs all h (onto mine g)) (all_unheard k mine g (parts.flushing_is s now k (socket_of k (notes h)) p h)))

-- ---- the loop

-- of these connections all have told but those that are left
pub record ToldSome {H Job : Type 0} (hub : Hub Job) (s : Setup) (before : List Said) (v : Server H Job) (conns left : List ℕ)
    (h : List ServerEvent) : Type 0 where
  pub done : List ℕ
  pub pieces : List (List (List LinkFrame))
  pub are : done ++ left ≡ conns
  pub rise : AreRising left
  pub below : (k c : ℕ) → is_listed k done ≡ true → is_listed c left ≡ true → k < c
  pub due : AreAllDue s done pieces h
  pub stands : Standing hub s settled before v (onto (all_flushing s (moment h) done pieces h) h)
  pub rested : (k : ℕ) → is_listed k done ≡ true → IsRested k (onto (all_flushing s (moment h) done pieces h) h)
  pub others : (k : ℕ) → is_listed k done ≡ false → Alike k (onto (all_flushing s (moment h) done pieces h) h) h
  pub cause : (k : ℕ) → is_listed k left ≡ false → may_speak k (onto (all_flushing s (moment h) done pieces h) h) ≡ true → IsUpWithCause hub v.machine k
  pub on_time : v.machine.idle_set.clock.moment ≡ moment h

pub none_told : {H Job : Type 0} (hub : Hub Job) (s : Setup) (u : Unsettled) (before : List Said) (v : Server H Job) (conns : List ℕ) (h : List ServerEvent)
    → AreRising conns → u ≡ settled → Standing {H = H} hub s u before v h → v.machine.idle_set.clock.moment ≡ moment h
    → ((k : ℕ) → is_listed k conns ≡ false → IsUpWithCause {H = H} hub v.machine k)
    → ToldSome {H = H} hub s before v conns conns h
none_told {H} hub s u before v conns h rise is stands on_time cause = record {
  done = [];
  pieces = [];
  are = refl;
  rise = rise;
  below = λ k c e. absurd (true≢false (sym e));
  due = tt;
  stands = subst (λ (w : Unsettled). Standing {H = H} hub s w before v h) is stands;
  rested = λ k e. absurd (true≢false (sym e));
  others = λ k e. alike_refl k h;
  cause = λ k e speaks. cause k e;
  on_time = on_time;
}

-- one connection tells so
abbrev pub TellsFrom : {H Job : Type 0} → Hub Job → Server H Job → Server H Job → ℕ → Type 0
TellsFrom {H} hub old new c = OfEach {H = H} hub old (λ s u before h. u ≡ settled → has_peer c h ≡ true →
    FlushesOne {H = H} hub s before new c (socket_of c (notes h)) (poll_of c (notes h)) h)

module _ {H Job : Type 0} (parts : PartsOfTurns) (hub : Hub Job) (s : Setup) (before : List Said) (old new : Server H Job) (conns : List ℕ) (c : ℕ) (cs : List ℕ)
    (h : List ServerEvent)
    (p : ToldSome {H = H} hub s before old conns (c ∷ cs) h) (there : has_peer c h ≡ true) (tells : TellsFrom {H = H} hub old new c)
    (keeps : KeepsOthers {H = H} old.machine new.machine c) where
  unlisted : is_listed c p.done ≡ false
  unlisted = go (is_listed c p.done) refl
    where
      go : (b : Bool) → is_listed c p.done ≡ b → is_listed c p.done ≡ false
      go true e = absurd (let l : c < c = p.below c c e (ap (λ (b : Bool). b || is_listed c cs) (eq-eqb c c refl)) in omega (arith, l))
      go false e = e

  alike : Alike c (onto (all_flushing s (moment h) p.done p.pieces h) h) h
  alike = p.others c unlisted

  unheard : Unheard (onto (all_flushing s (moment h) p.done p.pieces h) h) h
  unheard = all_unheard_then parts s (moment h) p.done p.pieces h h

  told : FlushesOne {H = H} hub s before new c (socket_of c (notes (onto (all_flushing s (moment h) p.done p.pieces h) h)))
      (poll_of c (notes (onto (all_flushing s (moment h) p.done p.pieces h) h))) (onto (all_flushing s (moment h) p.done p.pieces h) h)
  told = tells s settled before (onto (all_flushing s (moment h) p.done p.pieces h) h) p.stands refl
      (there_alike c (onto (all_flushing s (moment h) p.done p.pieces h) h) h alike ∙ there)

  -- what it says is what it would have said at first
  mine_is : flushing_on s (moment (onto (all_flushing s (moment h) p.done p.pieces h) h)) c
      (socket_of c (notes (onto (all_flushing s (moment h) p.done p.pieces h) h)))
      told.pieces (onto (all_flushing s (moment h) p.done p.pieces h) h) ≡ flushing s (moment h) c told.pieces h
  mine_is =
      ap (λ now. flushing_on s now c (socket_of c (notes (onto (all_flushing s (moment h) p.done p.pieces h) h))) told.pieces
      (onto (all_flushing s (moment h) p.done p.pieces h) h))
      unheard.clock
      ∙ same_flushing s (moment h) c (onto (all_flushing s (moment h) p.done p.pieces h) h) h alike unheard told.pieces

  after : onto (all_flushing s (moment h) (p.done ++ c ∷ []) (p.pieces ++ told.pieces ∷ []) h) h
      ≡ onto (flushing s (moment h) c told.pieces h) (onto (all_flushing s (moment h) p.done p.pieces h) h)
  after =
      ap (λ (xs : List ServerEvent). onto xs h) (told_last s (moment h) c told.pieces h p.done p.pieces p.due)
      ∙ onto_append (all_flushing s (moment h) p.done p.pieces h) (flushing s (moment h) c told.pieces h) h

  -- for each other connection nothing has changed
  other : (k : ℕ) → (k == c) ≡ false
      → Alike k (onto (flushing s (moment h) c told.pieces h) (onto (all_flushing s (moment h) p.done p.pieces h) h))
      (onto (all_flushing s (moment h) p.done p.pieces h) h)
  other k e = all_alike k c (flushing s (moment h) c told.pieces h) (onto (all_flushing s (moment h) p.done p.pieces h) h) e
      (parts.flushing_is s (moment h) c (socket_of c (notes h)) told.pieces h)

  rested_each : (k : ℕ) (b : Bool) → (k == c) ≡ b → (is_listed k p.done || b) ≡ true
      → IsRested k (onto (flushing s (moment h) c told.pieces h) (onto (all_flushing s (moment h) p.done p.pieces h) h))
  rested_each k true e f =
      subst (λ n. IsRested n (onto (flushing s (moment h) c told.pieces h) (onto (all_flushing s (moment h) p.done p.pieces h) h)))
      (sym (eqb-true k c e))
      (subst (λ xs. IsRested c (onto xs (onto (all_flushing s (moment h) p.done p.pieces h) h))) mine_is told.rested)
  rested_each k false e f =
      rested_alike k (onto (flushing s (moment h) c told.pieces h) (onto (all_flushing s (moment h) p.done p.pieces h) h))
      (onto (all_flushing s (moment h) p.done p.pieces h) h) (other k e) (p.rested k (left (is_listed k p.done) f))
    where
      left : (b : Bool) → (b || false) ≡ true → b ≡ true
      left true x = refl
      left false x = x

  others_each : (k : ℕ) (a b : Bool) → is_listed k p.done ≡ a → (k == c) ≡ b → (a || b) ≡ false
      → Alike k (onto (flushing s (moment h) c told.pieces h) (onto (all_flushing s (moment h) p.done p.pieces h) h)) h
  others_each k true b e f x = absurd (true≢false x)
  others_each k false true e f x = absurd (true≢false x)
  others_each k false false e f x =
      alike_trans k (onto (flushing s (moment h) c told.pieces h) (onto (all_flushing s (moment h) p.done p.pieces h) h))
      (onto (all_flushing s (moment h) p.done p.pieces h) h) h (other k f) (p.others k e)

  below_each : (k d : ℕ) (a b : Bool) → is_listed k p.done ≡ a → (k == c) ≡ b → (a || b) ≡ true → is_listed d cs ≡ true → k < d
  below_each k d true b e f x l = p.below k d e (later (d == c) l)
    where
      later : (z : Bool) → is_listed d cs ≡ true → (z || is_listed d cs) ≡ true
      later true y = refl
      later false y = y
  below_each k d false true e f x l = subst (λ n. n < d) (sym (eqb-true k c f)) (first_below c d cs p.rise l)
  below_each k d false false e f x l = absurd (true≢false (sym x))

  -- each that is left has cause to be awake, if what is due there can be said
  cause_each : (k : ℕ) (b : Bool) → (k == c) ≡ b → is_listed k cs ≡ false
      → may_speak k (onto (flushing s (moment h) c told.pieces h) (onto (all_flushing s (moment h) p.done p.pieces h) h)) ≡ true
      → IsUpWithCause {H = H} hub new.machine k
  cause_each k true e left speaks =
      subst (λ n. IsUpWithCause {H = H} hub new.machine n) (sym (eqb-true k c e))
      (subst (λ xs. may_speak c (onto xs (onto (all_flushing s (moment h) p.done p.pieces h) h)) ≡ true → IsUpWithCause {H = H} hub new.machine c) mine_is told.cause
      (subst (λ n. may_speak n (onto (flushing s (moment h) c told.pieces h) (onto (all_flushing s (moment h) p.done p.pieces h) h)) ≡ true) (eqb-true k c e) speaks))
  cause_each k false e left speaks =
      up_still {H = H} {Job = Job} hub old.machine new.machine c k keeps (apart_back k c e)
      (p.cause k (ap (λ (b : Bool). b || is_listed k cs) e ∙ left)
      (sym (speaks_alike k (onto (flushing s (moment h) c told.pieces h) (onto (all_flushing s (moment h) p.done p.pieces h) h))
      (onto (all_flushing s (moment h) p.done p.pieces h) h) (other k e)
      (all_unheard c (flushing s (moment h) c told.pieces h) (onto (all_flushing s (moment h) p.done p.pieces h) h)
      (parts.flushing_is s (moment h) c (socket_of c (notes h)) told.pieces h)))
      ∙ speaks))

  told_more : ToldSome {H = H} hub s before new conns cs h
  told_more = record {
    done = p.done ++ c ∷ [];
    pieces = p.pieces ++ told.pieces ∷ [];
    are = append_assoc p.done (c ∷ []) cs ∙ p.are;
    rise = rising_rest c cs p.rise;
    below = λ k d e f. below_each k d (is_listed k p.done) (k == c) refl refl (sym (listed_last k c p.done) ∙ e) f;
    due = due_last s c told.pieces h p.done p.pieces p.due
        (same_due s (moment h) c (onto (all_flushing s (moment h) p.done p.pieces h) h) h alike unheard told.pieces told.due);
    stands = subst (λ f. Standing {H = H} hub s settled before new f) (sym after)
        (subst (λ xs. Standing {H = H} hub s settled before new (onto xs (onto (all_flushing s (moment h) p.done p.pieces h) h))) mine_is told.stands);
    rested = λ k e. subst (λ f. IsRested k f) (sym after) (rested_each k (k == c) refl (sym (listed_last k c p.done) ∙ e));
    others = λ k e. subst (λ f. Alike k f h) (sym after) (others_each k (is_listed k p.done) (k == c) refl refl (sym (listed_last k c p.done) ∙ e));
    cause = λ k e. subst (λ f. may_speak k f ≡ true → IsUpWithCause {H = H} hub new.machine k) (sym after) (cause_each k (k == c) refl e);
    on_time = ap (λ k. k.moment) keeps.clock ∙ p.on_time;
  }

-- one more connection has told
pub one_told : {H Job : Type 0} → PartsOfTurns → (hub : Hub Job) (s : Setup) (before : List Said) (old new : Server H Job) (conns : List ℕ) (i : ℕ) (h : List ServerEvent)
    → i < length conns → ((k : ℕ) → is_listed k conns ≡ true → has_peer k h ≡ true) → ToldSome {H = H} hub s before old conns (drop i conns) h
    → TellsFrom {H = H} hub old new (get_or conns i 0) → KeepsOthers {H = H} old.machine new.machine (get_or conns i 0)
    → ToldSome {H = H} hub s before new conns (drop (i + 1) conns) h
one_told {H} {Job} parts hub s before old new conns i h l known p tells keeps =
    told_more {H = H} {Job = Job} parts hub s before old new conns c (drop (i + 1) conns) h q (known c (listed conns (q.done) q.are)) tells keeps
  where
    c : ℕ
    c = get_or conns i 0

    q : ToldSome {H = H} hub s before old conns (get_or conns i 0 ∷ drop (i + 1) conns) h
    q = subst (λ cs. ToldSome {H = H} hub s before old conns cs h) (left_at conns i l) p

    among : (k : ℕ) (ds es : List ℕ) → is_listed k (ds ++ k ∷ es) ≡ true
    among k [] es = ap (λ (b : Bool). b || is_listed k es) (eq-eqb k k refl)
    among k (d ∷ ds) es = go (k == d) (among k ds es)
      where
        go : (b : Bool) → is_listed k (ds ++ k ∷ es) ≡ true → (b || is_listed k (ds ++ k ∷ es)) ≡ true
        go true e = refl
        go false e = e

    listed : (all ds : List ℕ) → ds ++ get_or conns i 0 ∷ drop (i + 1) conns ≡ all → is_listed (get_or conns i 0) all ≡ true
    listed all ds e = subst (λ xs. is_listed (get_or conns i 0) xs ≡ true) e (among (get_or conns i 0) ds (drop (i + 1) conns))

-- all that are awake have told, and those that sleep have nothing to tell
pub all_told : {H Job : Type 0} → ConnectionsAreNumbered → PartsOfTurns → (hub : Hub Job) (s : Setup) (before : List Said) (m : Machine H Job)
    (v : Server H Job) (conns : List ℕ) (i : ℕ) (h : List ServerEvent) → length conns ≤ i → StandsMachine {H = H} hub m (work h) → AreNumbers {H = H} m conns
    → ((k : ℕ) → has_peer k h ≡ true → is_awake_at m k ≡ false → IsMute s k h)
    → ToldSome {H = H} hub s before v conns (drop i conns) h → IsFlushed {H = H} hub s before v h
all_told {H} {Job} law parts hub s before m v conns i h l stands numbers mute p = record {
  pieces = all.whole;
  all_due = all.due;
  stands = subst (λ xs. Standing {H = H} hub s settled before v (onto xs h)) (sym is) p.stands;
  rested = λ c. subst (λ xs. IsRested c (onto xs h)) (sym is) (go c (is_listed c p.done) refl);
  left_alone = λ c. subst (λ xs. IsLeftAlone {H = H} v.machine c (onto xs h)) (sym is)
      (left_alone {H = H} {Job = Job} hub v.machine c (onto (all_flushing s (moment h) p.done p.pieces h) h) p.stands.machine
      (p.on_time ∙ sym (all_unheard_then parts s (moment h) p.done p.pieces h h).clock)
      (p.cause c (ap (is_listed c) (drop_all i conns l))));
}
  where
    done_are : p.done ≡ conns
    done_are = sym (append-nil p.done) ∙ ap (λ (cs : List ℕ). p.done ++ cs) (sym (drop_all i conns l)) ∙ p.are

    done_is : p.done ≡ filter (λ k. is_awake_at m k) (numbers_to (greatest (work h)))
    done_is = done_are ∙ awake_are {H = H} {Job = Job} law hub m (work h) conns stands numbers

    all : SaidByAll s h (connections (work h)) (filter (λ k. is_awake_at m k) (numbers_to (greatest (work h)))) p.pieces
    all = said_by_all s h (λ k. is_there k (work h)) (λ k. is_awake_at m k) (numbers_to (greatest (work h))) p.pieces
        (λ k. awake_there {H = H} {Job = Job} hub m (work h) k stands) mute (subst (λ cs. AreAllDue s cs p.pieces h) done_is p.due)

    is : all_flushing s (moment h) (connections (work h)) all.whole h ≡ all_flushing s (moment h) p.done p.pieces h
    is = all.same ∙ ap (λ cs. all_flushing s (moment h) cs p.pieces h) (sym done_is)

    go : (c : ℕ) (b : Bool) → is_listed c p.done ≡ b → IsRested c (onto (all_flushing s (moment h) p.done p.pieces h) h)
    go c true e = p.rested c e
    go c false e = rested_alike c (onto (all_flushing s (moment h) p.done p.pieces h) h) h (p.others c e)
        (λ there. (mute c there (numbers.are c ∙ ap (is_listed c) (sym done_are) ∙ e)).rested there)
