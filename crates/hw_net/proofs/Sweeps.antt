-- One call of `next`, put together from its parts, and the numbers of the lanes in it.
use Rattle.std.proofs.Common.{◌≡◌, ◌≤◌, ℕ, List, [], ◌∷◌, ◌++◌, Option, None, Some, Result, Ok, Err, IfOk, arith, refl, sym, ap, ◌∙◌, set, get_or, subst, max, option_to_list}
use Rattle.std.proofs.lemmas.List.{append-nil, map-append, map-set, set-get_or}
use Rattle.hw_net.proofs.Telling.{tells-more}
use Rattle.hd_facts.specs.Counts.{Rose}
use Rattle.hw_door.specs.declared.error.DoorError.{DoorError}
use Rattle.hw_door.specs.declared.heard.Event.{Event}
use Rattle.hw_door.specs.declared.heard.Heard.{Heard}
use Rattle.hw_door.specs.Traffic.{Answer, polled, accepted}
use Rattle.hw_net.specs.Door.{DoorState, Searches, HearsTurns, HearsNext, FailsNext, IsNumbered, KeepsLanes, kept, time_to_wait, with_accepted, new_lane}
use Rattle.hw_net.specs.Flushing.{FailsGathered, FlushesDoor, Gathers, HaltsGathered, HearsGathered}
use Rattle.hw_net.specs.Halting.{HaltsNext}
use Rattle.hw_net.specs.Lane.{Lane, wires_of}
use Rattle.hw_net.specs.Trace.{Tells}

-- one lane may change in its place, if its number stays
pub wires-kept : (cur : List Lane) (i : ℕ) (lane next : Lane) → next.wire ≡ (get_or cur i lane).wire → wires_of (set cur i next) ≡ wires_of cur
wires-kept cur i lane next same =
    let wire = λ (l : Lane). l.wire in
    map-set wire cur i next ∙ ap (λ n. set (wires_of cur) i n) same ∙ sym (map-set wire cur i (get_or cur i lane))
    ∙ ap (λ (l : List Lane). wires_of l) (set-get_or cur i lane)

-- one poll, one accept, and the turns of the lanes
pub hears-next : (a b c d : Option (List Answer)) (wait now from before after_from named after_named : ℕ) (lanes kept_lanes with_new after : List Lane) (heard : Event) →
    ((moment : ℕ) × Tells a b (polled (time_to_wait wait (kept lanes)) moment ∷ []) × (now ≡ max moment before)) → kept_lanes ≡ kept lanes →
    ((wire : Option ℕ) × Tells b c (accepted wire ∷ []) × (with_new ≡ with_accepted now wire kept_lanes)) →
    ((answers : List Answer) × Tells c d answers
    × HearsTurns now (record { lanes = with_new; from = from; named = named; moment = before }) (record { lanes = after; from = after_from; named = after_named; moment = before }) answers heard) →
    (answers : List Answer) × Tells a d answers
    × HearsNext wait (record { lanes = lanes; from = from; named = named; moment = before }) (record { lanes = after; from = after_from; named = after_named; moment = now }) answers (record { now = now; event = heard })
hears-next a b c d wait now from before after_from named after_named lanes kept_lanes with_new after heard p same q h =
    let grown : with_new ≡ with_accepted now q.0 (kept lanes) = q.2 ∙ ap (λ (l : List Lane). with_accepted now q.0 l) same in (
      polled (time_to_wait wait (kept lanes)) p.0 ∷ accepted q.0 ∷ h.0,
      tells-more a b d (polled (time_to_wait wait (kept lanes)) p.0 ∷ []) (accepted q.0 ∷ h.0) p.1 (tells-more b c d (accepted q.0 ∷ []) h.0 q.1 h.1),
      record {
        now = p.0;
        wire = q.0;
        turns = h.0;
        begin = h.2.1;
        trace = h.2.0;
        all = refl;
        moment = p.2;
        begins = h.2.2;
        hears = subst (λ (l : List Lane). Searches now h.2.1 l after h.0 h.2.0) grown h.2.3;
        event_is = h.2.4;
        from = h.2.5;
        later = refl;
      },
    )

-- a call in which a lane came, if one did, and each took its turn
pub keeps-accepted : (a b c d now : ℕ) (wire : Option ℕ) (before with_new after : List Lane) → b ≡ a → IsNumbered b c wire → d ≡ c → with_new ≡ with_accepted now wire (kept before) →
    wires_of after ≡ wires_of with_new → KeepsLanes a d before after
keeps-accepted a b c d now wire before with_new after waited numbered turned grown same =
    (wire, same ∙ ap (λ (l : List Lane). wires_of l) grown ∙ go wire, subst (λ n. IsNumbered n d wire) waited (subst (λ n. IsNumbered b n wire) (sym turned) numbered)) where
      go : (wire : Option ℕ) → wires_of (with_accepted now wire (kept before)) ≡ wires_of (kept before) ++ option_to_list wire
      go None = sym (append-nil (wires_of (kept before)))
      go (Some wire) = map-append (λ (l : Lane). l.wire) (kept before) (new_lane now wire ∷ [])

-- ---- a call that gathers, or flushes, and then hears

-- what is told of a part of a call, and what it does
abbrev Told : Option (List Answer) → Option (List Answer) → (List Answer → Type 0) → Type 0
Told before now Does = (answers : List Answer) × Tells before now answers × Does answers

pub gathered-hears : (r : Result Heard DoorError) (a b c : Option (List Answer)) (wait wait_after gathering gathering_after : ℕ) (before mid after : DoorState) →
    Told a b (λ answers. Gathers wait gathering before mid answers gathering_after wait_after) → IfOk r (λ heard. Told b c (λ answers. HearsNext wait_after mid after answers heard)) →
    IfOk r (λ heard. Told a c (λ answers. HearsGathered wait gathering before after answers heard gathering_after))
gathered-hears (Err why) a b c wait wait_after gathering gathering_after before mid after g h = h
gathered-hears (Ok heard) a b c wait wait_after gathering gathering_after before mid after g h = (
  g.0 ++ h.0,
  tells-more a b c g.0 h.0 g.1 h.1,
  record { mid = mid; wait_after = wait_after; first = g.0; more = h.0; all = refl; gathers = g.2; hears = h.2 },
)

-- or fails, and all that waits is written
pub gathered-fails : (a b c d : Option (List Answer)) (wait wait_after gathering gathering_after : ℕ) (before mid fallen after : DoorState) →
    Told a b (λ answers. Gathers wait gathering before mid answers gathering_after wait_after) → Told b c (λ answers. FailsNext wait_after mid answers) → fallen ≡ record mid { lanes = kept mid.lanes } →
    Told c d (λ answers. FlushesDoor fallen after answers) → Told a d (λ answers. FailsGathered wait gathering before after answers)
gathered-fails a b c d wait wait_after gathering gathering_after before mid fallen after g f same w = (
  g.0 ++ (f.0 ++ w.0),
  tells-more a b d g.0 (f.0 ++ w.0) g.1 (tells-more b c d f.0 w.0 f.1 w.1),
  record {
    mid = mid;
    gathering_after = gathering_after;
    wait_after = wait_after;
    first = g.0;
    more = f.0;
    last = w.0;
    all = refl;
    gathers = g.2;
    fails = f.2;
    flushes = subst (λ (d : DoorState). FlushesDoor d after w.0) same w.2;
  },
)

pub gathered-halts : (a b c d : Option (List Answer)) (wait wait_after gathering gathering_after : ℕ) (before mid halted after : DoorState) →
    Told a b (λ answers. Gathers wait gathering before mid answers gathering_after wait_after) → Told b c (λ answers. HaltsNext wait_after mid halted answers) →
    Told c d (λ answers. FlushesDoor halted after answers) → Told a d (λ answers. HaltsGathered wait gathering before after answers)
gathered-halts a b c d wait wait_after gathering gathering_after before mid halted after g h w = (
  g.0 ++ (h.0 ++ w.0),
  tells-more a b d g.0 (h.0 ++ w.0) g.1 (tells-more b c d h.0 w.0 h.1 w.1),
  record {
    mid = mid;
    halted = halted;
    gathering_after = gathering_after;
    wait_after = wait_after;
    first = g.0;
    more = h.0;
    last = w.0;
    all = refl;
    gathers = g.2;
    halts = h.2;
    flushes = w.2;
  },
)

-- a count rose if it did in a part of the call
pub rose-within : (a b c d : ℕ) → a ≤ b → Rose b c → c ≤ d → Rose a d
rose-within a b c d le rose lt = omega (arith, le, rose, lt)
