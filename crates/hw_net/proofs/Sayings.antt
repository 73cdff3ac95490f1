-- What a lane writes, and one turn of a live lane, put together from their parts.
use Rattle.std.proofs.Common.{◌≡◌, ◌≢◌, ℕ, List, [], ◌∷◌, ◌++◌, Bool, true, false, Option, length, ltb, refl, sym, ap, subst, ◌∙◌, append_assoc}
use Rattle.hw_door.specs.declared.heard.Event.{Event}
use Rattle.hw_door.specs.Traffic.{Answer, was_shut}
use Rattle.hw_net.specs.declared.input.Input.{Input}
use Rattle.hw_net.specs.Trace.{Tells}
use Rattle.hw_net.specs.Lane.{Lane, waits, after_end, after_hearing, after_message, full_after_write}
use Rattle.hw_net.specs.Saying.{Writes, WritesOut, Says, GathersOrSays, IsLaneStill, must_end}
use Rattle.hw_net.specs.Turn.{Hears, Settles, Loses, TurnsLive, Puts, Sends}
use Rattle.hw_net.proofs.Telling.{tells-more, tells-none}
use Rattle.hw_net.proofs.Writings.{HasDone, writes-both, writes-first, left-of-failed}

-- the lane with what was written noted
abbrev pub noted : Lane → Lane → Lane
noted before written = record written { full = full_after_write (ltb (length (waits written)) (length (waits before))) before.full }

-- what waited was written, and then the wire was shut
pub said-ended : (a b c : Option (List Answer)) (before written mid : Lane) (whole : Bool) → HasDone a b before.wire (waits before) (waits written) whole → IsLaneStill before written →
    written.stage ≡ before.stage → mid ≡ noted before written → must_end written.stage (length (waits written)) whole ≡ true → Tells b c (was_shut written.wire ∷ []) →
    (answers : List Answer) × Tells a c answers × WritesOut before (record mid { stage = after_end mid.stage }) answers
said-ended a b c before written mid whole h still same e must shut =
    let ends : must_end before.stage (length (waits written)) whole ≡ true = subst (λ s. must_end s (length (waits written)) whole ≡ true) same must in
    let trace : Tells a c (h.0 ++ was_shut written.wire ∷ []) = tells-more a b c h.0 (was_shut written.wire ∷ []) h.1 shut in
    let writes : WritesOut before (record (noted before written) { stage = after_end written.stage }) (h.0 ++ was_shut before.wire ∷ []) = record {
      sent = h.0;
      is_whole = whole;
      writes = h.2;
      still = record { wire = still.wire; since = still.since; protocol = still.protocol };
      full = refl;
      ends = λ m. (refl, ap after_end same);
      stays = λ m. cc (sym ends ∙ m);
    } in (
      h.0 ++ was_shut before.wire ∷ [],
      subst (λ w. Tells a c (h.0 ++ was_shut w ∷ [])) still.wire trace,
      subst (λ (l : Lane). WritesOut before (record l { stage = after_end l.stage }) (h.0 ++ was_shut before.wire ∷ [])) (sym e) writes,
    )

-- what waited was written, and the wire stays
pub said-stays : (a b : Option (List Answer)) (before written mid : Lane) (whole : Bool) → HasDone a b before.wire (waits before) (waits written) whole → IsLaneStill before written →
    written.stage ≡ before.stage → mid ≡ noted before written → must_end written.stage (length (waits written)) whole ≡ false →
    (answers : List Answer) × Tells a b answers × WritesOut before mid answers
said-stays a b before written mid whole h still same e must =
    let stays : must_end before.stage (length (waits written)) whole ≡ false = subst (λ s. must_end s (length (waits written)) whole ≡ false) same must in
    let writes : WritesOut before (noted before written) h.0 = record {
      sent = h.0;
      is_whole = whole;
      writes = h.2;
      still = record { wire = still.wire; since = still.since; protocol = still.protocol };
      full = refl;
      ends = λ m. cc (sym stays ∙ m);
      stays = λ m. (refl, same);
    } in
    (h.0, h.1, subst (λ (l : Lane). WritesOut before l h.0) (sym e) writes)

-- a message was added, what waits is gathered or was written, and the message counts
pub sent-more : (a b : Option (List Answer)) (now : ℕ) (bytes : List ℕ) (text : Bool) (before mid said after : Lane) → Puts bytes text before mid true →
    ((answers : List Answer) × Tells a b answers × GathersOrSays mid said answers) → after ≡ after_message now said →
    (answers : List Answer) × Tells a b answers × Sends now bytes text before after answers
sent-more a b now bytes text before mid said after put h e = (h.0, h.1, (mid, true, put, (said, h.2, e)))

-- no message was added
pub sent-none : (a : Option (List Answer)) (now : ℕ) (bytes : List ℕ) (text : Bool) (before after : Lane) → Puts bytes text before after false →
    (answers : List Answer) × Tells a a answers × Sends now bytes text before after answers
sent-none a now bytes text before after put = ([], tells-none a, (after, false, put, (refl, refl)))

-- not all of the replies was written
pub done-first : (a b : Option (List Answer)) (wire : ℕ) (out more left : List ℕ) (whole : Bool) → HasDone a b wire out left whole → left ≢ [] → HasDone a b wire (out ++ more) (left ++ more) whole
done-first a b wire out more left whole h some = (h.0, h.1, writes-first wire out more h.0 left whole h.2 some)

pub done-failed : (a b : Option (List Answer)) (wire : ℕ) (out more left : List ℕ) (whole : Bool) → HasDone a b wire out left whole → whole ≡ false → HasDone a b wire (out ++ more) (left ++ more) false
done-failed a b wire out more left whole h e =
    let failed : HasDone a b wire out left false = subst (λ w. HasDone a b wire out left w) e h in
    done-first a b wire out more left false failed (left-of-failed wire out failed.0 left failed.2)

-- all of the replies was written, and then frames were
pub done-both : (a b c : Option (List Answer)) (wire : ℕ) (out more left rest : List ℕ) (first whole : Bool) → HasDone a b wire out rest first → first ≡ true → rest ≡ [] → HasDone b c wire more left whole →
    HasDone a c wire (out ++ more) left whole
done-both a b c wire out more left rest first whole h e none k =
    let all : Writes wire out h.0 rest true = subst (λ w. Writes wire out h.0 rest w) e h.2 in
    let gone : Writes wire out h.0 [] true = subst (λ (l : List ℕ). Writes wire out h.0 l true) none all in
    (h.0 ++ k.0, tells-more a b c h.0 k.0 h.1 k.1, writes-both wire out more h.0 k.0 left whole gone k.2)

-- a live lane heard an input after a first look at it, whose answers come before; it was settled, and it wrote what waited
pub turned-after : (a b c d : Option (List Answer)) (now : ℕ) (before heard continued settled said after : Lane) (input : Input) (trace event : Option Event) (first : List Answer) →
    ((answers : List Answer) × Tells a b answers × Hears before.wire before.protocol heard.protocol (first ++ answers) input) → heard ≡ record before { protocol = heard.protocol } → continued ≡ after_hearing heard.protocol heard →
    ((answers : List Answer) × Tells b c answers × Settles now continued settled answers input trace) → ((answers : List Answer) × Tells c d answers × Says now settled said answers) →
    Loses trace said after event → (answers : List Answer) × Tells a d answers × TurnsLive now before after (first ++ answers) event
turned-after a b c d now before heard continued settled said after input trace event first h e f s w l = (
  h.0 ++ (s.0 ++ w.0),
  tells-more a b d h.0 (s.0 ++ w.0) h.1 (tells-more b c d s.0 w.0 s.1 w.1),
  record {
    input = input;
    protocol = heard.protocol;
    settled = settled;
    said = said;
    trace = trace;
    read = first ++ h.0;
    shut = s.0;
    written = w.0;
    all = sym (append_assoc first h.0 (s.0 ++ w.0));
    hears = h.2;
    settles = subst (λ (x : Lane). Settles now (after_hearing heard.protocol x) settled s.0 input trace) e (subst (λ (x : Lane). Settles now x settled s.0 input trace) f s.2);
    says = w.2;
    loses = l;
  },
)
