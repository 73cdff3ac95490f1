-- The lanes on which something waits, and those that write it.
use Rattle.std.proofs.Common.{◌≡◌, ◌⊎◌, ◌<◌, ◌≤◌, ◌==◌, ◌&&◌, ◌+◌, ◌++◌, ◌∷◌, [], ℕ, suc, Bool, true, false, not, cond, List, Option, None, Some, position, inl, inr, refl, sym, ap, ◌∙◌, subst, append_assoc, arith, length, take, set, get_or, ltb, Contains}
use Rattle.std.specs.List.{All, filter}
use Rattle.std.proofs.lemmas.List.{append-nil, get_or-map, length-append, length-map, set-get_or, take_more}
use Rattle.std.proofs.lemmas.List.Folds.{list_any_at}
use Rattle.std.proofs.lemmas.Bool.Decides.{nat_tests}
use Rattle.std.proofs.lemmas.List.Elements.{All-append, All-cons, All-contains, All-filter, All-head, All-nil, All-set, All-tail, Contains-get_or}
use Rattle.hw_door.specs.Traffic.{Answer, polled, poll_failed, accepted, accept_failed, connected, connect_failed, bytes_in, not_yet, ended, read_failed, bytes_out, write_failed, was_shut, none_ready}
use Rattle.hw_net.specs.declared.protocol.Stage.{Stage}
use Rattle.hw_net.specs.declared.protocol.Stage.TheVariants.{Live, Lost, Closing, Over}
use Rattle.hw_net.specs.declared.writers.Writers.{Writers}
use Rattle.hw_net.specs.Door.{kept}
use Rattle.hw_net.specs.Flushing.{Flushes, WriteEach}
use Rattle.hw_net.specs.Lane.{Lane, after_end, waits, wires_of, is_live, is_over}
use Rattle.hw_net.specs.Lanes.{DoesHere}
use Rattle.hw_net.specs.Rising.{IsRising}
use Rattle.hw_net.specs.Saying.{DropsOrWrites, SaysAt, SaysIfEnded, SaysIfEndedAt, Writes, WritesOut, WritesIfLive, WritesIfLiveAt, has_closed_long, must_end}
use Rattle.hw_net.specs.Tally.{has_unwritten_by, is_writer}
use Rattle.hw_net.specs.Trace.{Tells, Chooses}
use Rattle.hw_net.specs.Turn.{AtLane}
use Rattle.hw_net.specs.Writers.{AreWriters, IsListOf, Lists, is_writer_at}
use Rattle.hw_net.proofs.Findings.{only-place}
use Rattle.hw_net.proofs.Places.{at-first, is-at, is-nowhere, is_of, nowhere}
use Rattle.hw_net.proofs.Telling.{tells-more, tells-none}
use Rattle.hw_net.proofs.Walking.{same-length, silent}

-- ---- a lane that writes

-- no more waits than before
no-longer : (wire : ℕ) (xs : List ℕ) (ones : List Answer) (left : List ℕ) (is_whole : Bool) → Writes wire xs ones left is_whole → length left ≤ length xs
no-longer wire xs [] left is_whole w = omega (arith, ap (λ (l : List ℕ). length l) w.1)
no-longer wire xs (polled wait now ∷ ones) left is_whole w = absurd w
no-longer wire xs (poll_failed wait ∷ ones) left is_whole w = absurd w
no-longer wire xs (accepted at ∷ ones) left is_whole w = absurd w
no-longer wire xs (accept_failed ∷ ones) left is_whole w = absurd w
no-longer wire xs (connected at ∷ ones) left is_whole w = absurd w
no-longer wire xs (connect_failed ∷ ones) left is_whole w = absurd w
no-longer wire xs (bytes_in at piece ∷ ones) left is_whole w = absurd w
no-longer wire xs (not_yet at ∷ ones) left is_whole w = absurd w
no-longer wire xs (ended at ∷ ones) left is_whole w = absurd w
no-longer wire xs (read_failed at ∷ ones) left is_whole w = absurd w
no-longer wire xs (bytes_out at [] ∷ []) left is_whole w = omega (arith, ap (λ (l : List ℕ). length l) w.2)
no-longer wire xs (bytes_out at [] ∷ a ∷ ones) left is_whole w = absurd w
no-longer wire xs (bytes_out at (c ∷ cs) ∷ ones) left is_whole w = omega (arith, no-longer wire w.1.0 ones left is_whole w.1.2, ap (λ (l : List ℕ). length l) w.1.1, length-append (c ∷ cs) w.1.0)
no-longer wire xs (write_failed at ∷ []) left is_whole w = omega (arith, ap (λ (l : List ℕ). length l) w.2)
no-longer wire xs (write_failed at ∷ a ∷ ones) left is_whole w = absurd w
no-longer wire xs (was_shut at ∷ ones) left is_whole w = absurd w
no-longer wire xs (none_ready ∷ ones) left is_whole w = absurd w

-- what a lane that writes leaves: its number, and something waits only if it did
record Leaves (before after : Lane) : Type 0 where
  wire : after.wire ≡ before.wire
  waited : is_writer after ≡ true → is_writer before ≡ true

both-true : (a b : Bool) → (a && b) ≡ true → b ≡ true
both-true true b e = e
both-true false b e = cc e

written : (before after : Lane) (answers : List Answer) → before.stage ≡ Live → WritesOut before after answers → Leaves before after
written before after answers live h = record { wire = h.still.wire; waited = waited } where
  waited : is_writer after ≡ true → is_writer before ≡ true
  waited e =
      let some : ltb 0 (length (waits after)) ≡ true = both-true (is_live after.stage) (ltb 0 (length (waits after))) e in
      let fewer : length (waits after) ≤ length (waits before) = no-longer before.wire (waits before) h.sent (waits after) h.is_whole h.writes in
      let had : ltb 0 (length (waits before)) ≡ true = grind (arith, some, fewer) in
      ap (λ (s : Stage). is_live s && ltb 0 (length (waits before))) live ∙ had

-- one that closes, as it does or is over afterwards
closed : (before after : Lane) → (after.stage ≡ Closing) ⊎ (after.stage ≡ Over) → after.wire ≡ before.wire → Leaves before after
closed before after h wire = record { wire = wire; waited = go h } where
  go : (after.stage ≡ Closing) ⊎ (after.stage ≡ Over) → is_writer after ≡ true → is_writer before ≡ true
  go (inl e) w = absurd (cc (sym w ∙ ap (λ (s : Stage). is_live s && ltb 0 (length (waits after))) e))
  go (inr e) w = absurd (cc (sym w ∙ ap (λ (s : Stage). is_live s && ltb 0 (length (waits after))) e))

said-out : (before after : Lane) (answers : List Answer) → before.stage ≡ Closing → WritesOut before after answers → Leaves before after
said-out before after answers e w = closed before after (go (must_end before.stage (length (waits after)) w.is_whole) refl) w.still.wire where
  go : (b : Bool) → must_end before.stage (length (waits after)) w.is_whole ≡ b → (after.stage ≡ Closing) ⊎ (after.stage ≡ Over)
  go true b = inr ((w.ends b).1 ∙ ap after_end e)
  go false b = inl ((w.stays b).1 ∙ e)

ended-leaves : (now : ℕ) (before after : Lane) (answers : List Answer) → SaysIfEnded now before after answers → Leaves before after
ended-leaves now before after answers h = go before.stage refl h where
  same : after ≡ before → Leaves before after
  same e = record { wire = ap (λ (l : Lane). l.wire) e; waited = λ w. sym (ap is_writer e) ∙ w }

  closing : before.stage ≡ Closing → (b : Bool) → DropsOrWrites b before after answers → Leaves before after
  closing e true w = closed before after (inr (ap (λ (l : Lane). l.stage) w.1 ∙ ap after_end e)) (ap (λ (l : Lane). l.wire) w.1)
  closing e false w = said-out before after answers e w

  go : (s : Stage) → before.stage ≡ s → SaysIfEndedAt s now before after answers → Leaves before after
  go Live e w = same w.1
  go Lost e w = same w.1
  go Closing e w = closing e (has_closed_long now before.since) w
  go Over e w = same w.1

leaves : (before after : Lane) (answers : List Answer) → WritesIfLive before after answers → Leaves before after
leaves before after answers h = go before.stage refl h where
  same : after ≡ before → Leaves before after
  same e = record { wire = ap (λ (l : Lane). l.wire) e; waited = λ w. sym (ap is_writer e) ∙ w }

  go : (s : Stage) → before.stage ≡ s → WritesIfLiveAt s before after answers → Leaves before after
  go Live e w = written before after answers e w
  go Lost e w = same w.1
  go Closing e w = same w.1
  go Over e w = same w.1

-- one on which nothing waits writes nothing
pub writes-nothing : (lane : Lane) → is_writer lane ≡ false → WritesIfLive lane lane []
writes-nothing lane idle = go lane.stage refl where
  unwritten : Stage → Bool
  unwritten s = has_unwritten_by s (length (waits lane))

  go : (s : Stage) → lane.stage ≡ s → WritesIfLiveAt s lane lane []
  go Live e =
      let nothing : unwritten Live ≡ false = sym (ap (λ (s : Stage). is_live s && ltb 0 (length (waits lane))) e) ∙ idle in
      subst (λ (s : Stage). SaysAt s 0 lane lane []) e (silent 0 lane (ap unwritten e ∙ nothing))
  go Lost e = (refl, refl)
  go Closing e = (refl, refl)
  go Over e = (refl, refl)

-- ---- the list of those on which something waits

-- a lane stands in the list if it has to
abbrev IsListed : List ℕ → Lane → Type 0
IsListed wires lane = is_writer lane ≡ true → Contains wires lane.wire

all-listed : (wires : List ℕ) (lanes : List Lane) → AreWriters wires lanes → All (IsListed wires) lanes
all-listed wires lanes h k d lt = h (get_or lanes k d) (Contains-get_or lanes k d lt)

are-listed : (wires : List ℕ) (lanes : List Lane) → All (IsListed wires) lanes → AreWriters wires lanes
are-listed wires lanes h lane here = All-contains (IsListed wires) lanes lane h here

-- what stood there stands in the next list
still-listed : (before after : Writers) (lanes : List Lane) → AreWriters before.wires.items lanes → ((wire : ℕ) → Contains before.wires.items wire → Contains after.wires.items wire) →
    All (IsListed after.wires.items) lanes
still-listed before after lanes h keeps k d lt writes = keeps (get_or lanes k d).wire (all-listed before.wires.items lanes h k d lt writes)

-- one lane is changed at its place, and listed if it wasn't
pub listed-again : (before after : Writers) (lanes : List Lane) (index : ℕ) (lane next : Lane) (was_writer : Bool) → index < length lanes → get_or lanes index lane ≡ lane → was_writer ≡ is_writer lane → next.wire ≡ lane.wire →
    IsListOf before lanes → Lists was_writer next before after → IsListOf after (set lanes index next)
listed-again before after lanes index lane next was_writer within at was same h lists whole =
    let changed = lists whole in
    let old = h changed.0 in
    are-listed after.wires.items (set lanes index next)
    (All-set (IsListed after.wires.items) lanes index next (go was_writer was changed.1 changed.2 (old lane (index, within, at))) (still-listed before after lanes old changed.1)) where
      go : (b : Bool) → b ≡ is_writer lane → ((wire : ℕ) → Contains before.wires.items wire → Contains after.wires.items wire) →
          (b ≡ false → is_writer next ≡ true → Contains after.wires.items next.wire) → (is_writer lane ≡ true → Contains before.wires.items lane.wire) → IsListed after.wires.items next
      go true e keeps adds there writes = keeps next.wire (subst (Contains before.wires.items) (sym same) (there (sym e)))
      go false e keeps adds there writes = adds refl writes

-- a lane comes after the others
pub listed-more : (before after : Writers) (lanes : List Lane) (lane : Lane) → IsListOf before lanes → Lists false lane before after → IsListOf after (lanes ++ lane ∷ [])
listed-more before after lanes lane h lists whole =
    let changed = lists whole in
    are-listed after.wires.items (lanes ++ lane ∷ [])
    (All-append (IsListed after.wires.items) lanes (lane ∷ []) (still-listed before after lanes (h changed.0) changed.1)
    (All-cons (IsListed after.wires.items) lane [] (changed.2 refl) (All-nil (IsListed after.wires.items))))

-- one more of all lanes is looked at
pub listed-next : (before after : Writers) (lanes : List Lane) (index : ℕ) (lane : Lane) → index < length lanes → get_or lanes index lane ≡ lane → IsListOf before (take index lanes) → Lists false lane before after →
    IsListOf after (take (index + 1) lanes)
listed-next before after lanes index lane within at h lists =
    let more : take (index + 1) lanes ≡ take index lanes ++ lane ∷ [] = take_more lanes index lane within ∙ ap (λ l. take index lanes ++ l ∷ []) at in
    subst (IsListOf after) (sym more) (listed-more before after (take index lanes) lane h lists)

-- what passes a test stays in a list of those that do
filter-has : (test : ℕ → Bool) (wires : List ℕ) (wire : ℕ) → Contains wires wire → test wire ≡ true → Contains (filter test wires) wire
filter-has test wires wire here = All-contains (λ w. test w ≡ true → Contains (filter test wires) w) wires wire (all wires) here where
  first : (w : ℕ) (ws : List ℕ) (b : Bool) → b ≡ true → Contains (cond b (w ∷ ws) ws) w
  first w ws true e = (0, omega arith, refl)
  first w ws false e = cc e

  later : (w v : ℕ) (ws : List ℕ) (b : Bool) → Contains ws v → Contains (cond b (w ∷ ws) ws) v
  later w v ws true c = (suc c.0, omega (arith, c.1), c.2)
  later w v ws false c = c

  all : (ws : List ℕ) → All (λ w. test w ≡ true → Contains (filter test ws) w) ws
  all [] = All-nil (λ w. test w ≡ true → Contains [] w)
  all (w ∷ ws) =
      All-cons (λ v. test v ≡ true → Contains (filter test (w ∷ ws)) v) w ws (first w (filter test ws) (test w))
      (λ k d lt passes. later w (get_or ws k d) (filter test ws) (test w) (all ws k d lt passes))

writer-at : (lanes : List Lane) (lane : Lane) → Contains lanes lane → is_writer lane ≡ true → is_writer_at lane.wire lanes ≡ true
writer-at lanes lane here writes =
    list_any_at (λ (l : Lane). (l.wire == lane.wire) && is_writer l) lanes here.0 lane here.1
    (ap (λ (l : Lane). (l.wire == lane.wire) && is_writer l) here.2 ∙ grind (arith, nat_tests, writes))

-- those on which nothing waits go from the list
listed-left-over : (before after : Writers) (lanes : List Lane) → after.is_whole ≡ before.is_whole → after.wires.items ≡ filter (λ (wire : ℕ). is_writer_at wire lanes) before.wires.items →
    IsListOf before lanes → IsListOf after lanes
listed-left-over before after lanes same keeps h whole lane here writes =
    subst (λ (l : List ℕ). Contains l lane.wire) (sym keeps)
    (filter-has (λ (wire : ℕ). is_writer_at wire lanes) before.wires.items lane.wire (h (sym same ∙ whole) lane here writes) (writer-at lanes lane here writes))

pub listed-still : (writers before after : Writers) (lanes looked : List Lane) → before ≡ writers → looked ≡ lanes → after.is_whole ≡ before.is_whole →
    after.wires.items ≡ filter (λ (wire : ℕ). is_writer_at wire looked) before.wires.items → IsListOf writers lanes → IsListOf after lanes
listed-still writers before after lanes looked taken seen same keeps h =
    let old : IsListOf before looked = subst (λ (w : Writers). IsListOf w looked) (sym taken) (subst (IsListOf writers) (sym seen) h) in
    subst (IsListOf after) seen (listed-left-over before after looked same keeps old)

-- those that are over go
pub listed-kept : (writers : Writers) (lanes : List Lane) → IsListOf writers lanes → IsListOf writers (kept lanes)
listed-kept writers lanes h whole =
    are-listed writers.wires.items (kept lanes)
    (All-filter (λ (lane : Lane). not (is_over lane.stage)) (IsListed writers.wires.items) lanes (all-listed writers.wires.items lanes (h whole)))

-- a lane writes at its place
own-left : (wires : List ℕ) (lane next : Lane) → Leaves lane next → IsListed wires lane → IsListed wires next
own-left wires lane next left there writes = subst (Contains wires) (sym left.wire) (there (left.waited writes))

own-listed : (wires : List ℕ) (lane next : Lane) (answers : List Answer) → WritesIfLive lane next answers → IsListed wires lane → IsListed wires next
own-listed wires lane next answers h = own-left wires lane next (leaves lane next answers h)

listed-left : (writers : Writers) (lanes : List Lane) (index : ℕ) (lane next : Lane) → index < length lanes → get_or lanes index lane ≡ lane → Leaves lane next →
    IsListOf writers lanes → IsListOf writers (set lanes index next)
listed-left writers lanes index lane next within at left h whole =
    let old = h whole in
    are-listed writers.wires.items (set lanes index next)
    (All-set (IsListed writers.wires.items) lanes index next (own-left writers.wires.items lane next left (old lane (index, within, at))) (all-listed writers.wires.items lanes old))

pub listed-written : (writers : Writers) (lanes : List Lane) (index : ℕ) (lane next : Lane) (answers : List Answer) → index < length lanes → get_or lanes index lane ≡ lane → WritesIfLive lane next answers →
    IsListOf writers lanes → IsListOf writers (set lanes index next)
listed-written writers lanes index lane next answers within at writes = listed-left writers lanes index lane next within at (leaves lane next answers writes)

pub listed-ended : (writers : Writers) (lanes : List Lane) (index now : ℕ) (lane next : Lane) (answers : List Answer) → index < length lanes → get_or lanes index lane ≡ lane → SaysIfEnded now lane next answers →
    IsListOf writers lanes → IsListOf writers (set lanes index next)
listed-ended writers lanes index now lane next answers within at says = listed-left writers lanes index lane next within at (ended-leaves now lane next answers says)

-- those of all lanes are among the numbers of all
own-wire : (lanes : List Lane) (lane : Lane) → Contains lanes lane → Contains (wires_of lanes) lane.wire
own-wire lanes lane here = All-contains (λ (l : Lane). Contains (wires_of lanes) l.wire) lanes lane (all lanes) here where
  within : (n m : ℕ) → n < m → suc n < suc m
  within n m lt = omega (arith, lt)

  later : (wire : ℕ) (wires : List ℕ) (n : ℕ) → Contains wires n → Contains (wire ∷ wires) n
  later wire wires n c = (suc c.0, within c.0 (length wires) c.1, c.2)

  all : (lanes : List Lane) → All (λ (l : Lane). Contains (wires_of lanes) l.wire) lanes
  all [] = All-nil (λ (l : Lane). Contains [] l.wire)
  all (lane ∷ lanes) =
      All-cons (λ (l : Lane). Contains (wires_of (lane ∷ lanes)) l.wire) lane lanes (0, omega arith, refl)
      (λ k d lt. later lane.wire (wires_of lanes) (get_or lanes k d).wire (all lanes k d lt))

pub all-writers : (lanes : List Lane) → AreWriters (wires_of lanes) lanes
all-writers lanes lane here writes = own-wire lanes lane here

-- ---- lanes that write, one after the other

-- the lanes of these numbers, and one more
pub write-more : (wires : List ℕ) (wire : ℕ) (before mid after : List Lane) (answers more : List Answer) → WriteEach wires before mid answers → AtLane wire WritesIfLive mid after more →
    WriteEach (wires ++ wire ∷ []) before after (answers ++ more)
write-more [] wire before mid after answers more h one =
    (after, more, [], ap (λ (l : List Answer). l ++ more) h.1 ∙ sym (append-nil more), subst (λ (l : List Lane). AtLane wire WritesIfLive l after more) h.0 one, (refl, refl))
write-more (first ∷ wires) wire before mid after answers more h one =
    (h.0, h.1, h.2 ++ more, ap (λ (l : List Answer). l ++ more) h.3 ∙ append_assoc h.1 h.2 more, h.4, write-more wires wire h.0 mid after h.2 more h.5 one)

-- what holds of each lane still does after the lane of a number wrote
at-all : (Is : Lane → Type 0) (wire : ℕ) (lanes after : List Lane) (answers : List Answer) → ((lane next : Lane) (said : List Answer) → WritesIfLive lane next said → Is lane → Is next) →
    AtLane wire WritesIfLive lanes after answers → All Is lanes → All Is after
at-all Is wire [] after answers keeps h all = subst (All Is) (sym h.0) all
at-all Is wire (lane ∷ lanes) after answers keeps h all = go (lane.wire == wire) h (λ rest k. at-all Is wire lanes rest answers keeps k (All-tail Is lane lanes all)) where
  first : Is lane
  first = All-head Is lane lanes all

  go : (b : Bool) → Chooses b ((next : Lane) × (after ≡ next ∷ lanes) × WritesIfLive lane next answers) ((rest : List Lane) × (after ≡ lane ∷ rest) × AtLane wire WritesIfLive lanes rest answers) →
      ((rest : List Lane) → AtLane wire WritesIfLive lanes rest answers → All Is rest) → All Is after
  go true h again = subst (All Is) (sym h.1) (All-cons Is h.0 lanes (keeps lane h.0 answers h.2 first) (All-tail Is lane lanes all))
  go false h again = subst (All Is) (sym h.1) (All-cons Is lane h.0 first (again h.0 h.2))

each-all : (Is : Lane → Type 0) (wires : List ℕ) (lanes after : List Lane) (answers : List Answer) → ((lane next : Lane) (said : List Answer) → WritesIfLive lane next said → Is lane → Is next) →
    WriteEach wires lanes after answers → All Is lanes → All Is after
each-all Is [] lanes after answers keeps h all = subst (All Is) (sym h.0) all
each-all Is (wire ∷ wires) lanes after answers keeps h all =
    each-all Is wires h.0 after h.2 keeps h.5 (at-all Is wire lanes h.0 h.1 keeps h.4 all)

-- the list is still right after lanes wrote
pub listed-flushed : (writers : Writers) (wires : List ℕ) (lanes after : List Lane) (answers : List Answer) → WriteEach wires lanes after answers → IsListOf writers lanes → IsListOf writers after
listed-flushed writers wires lanes after answers each h whole =
    let listed = writers.wires.items in
    are-listed listed after
    (each-all (IsListed listed) wires lanes after answers (λ lane next said. own-listed listed lane next said) each (all-listed listed lanes (h whole)))

-- ---- calls on wires

-- the lane of a place does nothing
pub nothing-here : (a : Option (List Answer)) (index : ℕ) (Does : Lane → Lane → List Answer → Type 0) (lanes : List Lane) (lane : Lane) → get_or lanes index lane ≡ lane → Does lane lane [] →
    (answers : List Answer) × Tells a a answers × DoesHere index Does lanes lanes answers
nothing-here a index Does lanes lane at does =
    let same : set lanes index lane ≡ lanes = ap (λ (l : Lane). set lanes index l) (sym at) ∙ set-get_or lanes index lane in
    ([], tells-none a, record { lane = lane; next = lane; at = at; order = sym same; does = does })

-- the lane that is found writes, or none is
pub written-here : (a b : Option (List Answer)) (wire index : ℕ) (lanes after : List Lane) → position (is_of wire) lanes ≡ Some index →
    ((answers : List Answer) × Tells a b answers × DoesHere index WritesIfLive lanes after answers) → (answers : List Answer) × Tells a b answers × AtLane wire WritesIfLive lanes after answers
written-here a b wire index lanes after e h =
    let found = is-at wire lanes index e in
    let d = h.2 in
    (h.0, h.1, subst (λ (l : List Lane). AtLane wire WritesIfLive lanes l h.0) (sym d.order) (at-first wire WritesIfLive lanes index d.lane d.next h.0 found.0 found.1 d.at d.does))

pub written-nowhere : (a : Option (List Answer)) (wire : ℕ) (lanes : List Lane) → position (is_of wire) lanes ≡ None →
    (answers : List Answer) × Tells a a answers × AtLane wire WritesIfLive lanes lanes answers
written-nowhere a wire lanes e = ([], tells-none a, nowhere wire WritesIfLive lanes (is-nowhere wire lanes e))

-- one lane more wrote, that of the number at the next place
pub written-next : (a b c : Option (List Answer)) (wires : List ℕ) (index other wire : ℕ) (before mid after : List Lane) → index < length wires → get_or wires index other ≡ wire →
    ((answers : List Answer) × Tells a b answers × WriteEach (take index wires) before mid answers) → ((answers : List Answer) × Tells b c answers × AtLane wire WritesIfLive mid after answers) →
    (answers : List Answer) × Tells a c answers × WriteEach (take (index + 1) wires) before after answers
written-next a b c wires index other wire before mid after within at h k =
    let more : take (index + 1) wires ≡ take index wires ++ wire ∷ [] = take_more wires index other within ∙ ap (λ n. take index wires ++ n ∷ []) at in (
      h.0 ++ k.0,
      tells-more a b c h.0 k.0 h.1 k.1,
      subst (λ (l : List ℕ). WriteEach l before after (h.0 ++ k.0)) (sym more) (write-more (take index wires) wire before mid after h.0 k.0 h.2 k.2),
    )

-- the number of the lane at a place
pub number-at : (all lanes : List Lane) (index : ℕ) (lane : Lane) → wires_of lanes ≡ wires_of all → index < length lanes → get_or lanes index lane ≡ lane → get_or (wires_of all) index lane.wire ≡ lane.wire
number-at all lanes index lane same within at =
    let wire_of = λ (l : Lane). l.wire in
    ap (λ l. get_or l index lane.wire) (sym same) ∙ get_or-map wire_of lanes index lane lane.wire within ∙ ap wire_of at

-- the lane of the next place wrote, if it is live
pub written-place : (a b c : Option (List Answer)) (bound index : ℕ) (before mid after : List Lane) → IsRising 0 bound (wires_of before) → wires_of mid ≡ wires_of before → index < length before →
    ((answers : List Answer) × Tells a b answers × WriteEach (take index (wires_of before)) before mid answers) → ((answers : List Answer) × Tells b c answers × DoesHere index WritesIfLive mid after answers) →
    (answers : List Answer) × Tells a c answers × WriteEach (take (index + 1) (wires_of before)) before after answers
written-place a b c bound index before mid after rising same within h k =
    let does = k.2 in
    let lane = does.lane in
    let inside : index < length mid = omega (arith, within, same-length mid before same) in
    let rises : IsRising 0 bound (wires_of mid) = subst (λ (l : List ℕ). IsRising 0 bound l) (sym same) rising in
    let place = only-place lane.wire 0 bound mid index lane rises inside (ap (λ (l : Lane). l.wire) does.at) in
    let at = subst (λ (l : List Lane). AtLane lane.wire WritesIfLive mid l k.0) (sym does.order) (at-first lane.wire WritesIfLive mid index lane does.next k.0 place inside does.at does.does) in
    written-next a b c (wires_of before) index lane.wire lane.wire before mid after (omega (arith, within, length-map before (λ (l : Lane). l.wire))) (number-at before mid index lane same inside does.at) h (k.0, k.1, at)

-- nothing waits on any live lane
pub flushed-none : (a : Option (List Answer)) (lanes : List Lane) → AreWriters [] lanes → (answers : List Answer) × Tells a a answers × Flushes lanes lanes answers
flushed-none a lanes none = ([], tells-none a, record { wires = []; all = none; writes = (refl, refl) })

-- all lanes wrote
pub flushed-all : (a b : Option (List Answer)) (lanes after : List Lane) → ((answers : List Answer) × Tells a b answers × WriteEach (wires_of lanes) lanes after answers) →
    (answers : List Answer) × Tells a b answers × Flushes lanes after answers
flushed-all a b lanes after h = (h.0, h.1, record { wires = wires_of lanes; all = all-writers lanes; writes = h.2 })

-- those that are listed did
pub flushed-listed : (a b : Option (List Answer)) (writers : Writers) (wires : List ℕ) (lanes after : List Lane) → wires ≡ writers.wires.items → writers.is_whole ≡ true → IsListOf writers lanes →
    ((answers : List Answer) × Tells a b answers × WriteEach wires lanes after answers) → (answers : List Answer) × Tells a b answers × Flushes lanes after answers
flushed-listed a b writers wires lanes after same whole listed h =
    (h.0, h.1, record { wires = wires; all = subst (λ (l : List ℕ). AreWriters l lanes) (sym same) (listed whole); writes = h.2 })
