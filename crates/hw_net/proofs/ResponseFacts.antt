-- How a read and a look come to one turn of a lane that awaits its response.
use Rattle.std.proofs.Common.{◌≡◌, ◌≤◌, ◌==◌, ◌||◌, ◌&&◌, ℕ, zero, suc, List, [], ◌∷◌, ◌++◌, Bool, true, false, not, Option, None, Some, Result, Ok, Err, IfOk, refl, sym, ap, ◌∙◌, subst, inl, inr, arith}
use Rattle.std.proofs.lemmas.Bool.{lt-ltb, ne_eqb}
use Rattle.std.proofs.lemmas.List.{append-nil}
use Rattle.std.specs.Prelude.{nat_lt}
use Rattle.hh_http.specs.Lane.{Lane}
use Rattle.hh_http.specs.Messages.{Answers, Begins}
use Rattle.hh_http.specs.Responses.{response_grammar}
use Rattle.hh_http.specs.declared.response.Response.{Response}
use Rattle.hw_door.specs.Traffic.{Answer, not_yet}
use Rattle.hw_net.specs.Door.{IsNothing}
use Rattle.hw_net.specs.Input.{is_upgraded}
use Rattle.hw_net.specs.declared.input.Input.{Input}
use Rattle.hw_net.specs.declared.input.Input.TheVariants as input
use Rattle.hw_net.specs.declared.response_state.Expected.{Expected}
use Rattle.hw_net.specs.ResponseState.{ResponseStateView, IsResponseState, HearsResponse, ReadsInto, Finds, FindsAtEnd, IsInput, IsAnswered, IsBeginning, IsWaiting, Comes, Concludes, room_of, is_awake}
use Rattle.hw_net.specs.Trace.{Tells, IsAsked, bytes_of}
use Rattle.hw_net.proofs.HttpFacts.{none-of}

-- ---- a look

-- one that finds the response says what it is heard as
pub response-found : (before : ResponseStateView) (next : Lane) (response : Response) (heard : Input) → IsResponseState before.lane before.upgrade before.concluded before.accepted before.has_unparsed → before.concluded ≡ false →
    (before.lane.spent ≡ None → before.lane.ended ≡ false → Answers response_grammar before.lane next (Ok (Some response))) → Concludes before.upgrade response heard →
    Finds before (record before { lane = next; concluded = true; accepted = is_upgraded heard }) heard
response-found before next response heard is free answers c =
    let open_still = is.unspent free in
    let a = answers open_still.0 open_still.1 in
    go heard c a.0 where
      go : (heard : Input) → Concludes before.upgrade response heard → Begins response_grammar before.lane.held response next.held →
          Finds before (record before { lane = next; concluded = true; accepted = is_upgraded heard }) heard
      go input.Nothing c b = absurd c
      go (input.Request request) c b = absurd c
      go (input.Refused refusal) c b = absurd c
      go (input.Response status body) c b = (refl, free, refl, refl, (response, b, c), refl)
      go input.Upgraded c b = (refl, free, refl, refl, (response, b, c), refl)
      go (input.Message bytes) c b = absurd c
      go input.Broken c b = (refl, free, refl, refl, inr (next.held, (response, b, c)), refl)
      go input.Gone c b = absurd c

-- ---- a turn

-- the bytes held are those that were held, and those that came
came : (wire : ℕ) (before mid after : ResponseStateView) (answers : List Answer) (whole : Bool) (heard : Input) → (r : ReadsInto wire before mid answers whole) →
    mid.concluded ≡ false → after.concluded ≡ true → after.accepted ≡ is_upgraded heard → Comes mid.upgrade mid.lane.held after.lane.held heard → IsAnswered before after r.got heard
came wire before mid after answers whole heard r free done accepted c = (
  sym r.concluded ∙ free,
  done,
  accepted,
  subst (λ (l : List ℕ). Comes before.upgrade l after.lane.held heard) r.held (subst (λ (u : Option Expected). Comes u mid.lane.held after.lane.held heard) r.upgrade c),
)

upgrade-of : (before after : ResponseStateView) (heard : Input) → Finds before after heard → after.upgrade ≡ before.upgrade
upgrade-of before after input.Nothing f = f.0
upgrade-of before after (input.Request request) f = f.0
upgrade-of before after (input.Refused refusal) f = f.0
upgrade-of before after (input.Response status body) f = f.0
upgrade-of before after input.Upgraded f = f.0
upgrade-of before after (input.Message bytes) f = f.0
upgrade-of before after input.Broken f = f.0
upgrade-of before after input.Gone f = f.0

full-of : (before after : ResponseStateView) (heard : Input) → Finds before after heard → after.last_read_was_full ≡ before.last_read_was_full
full-of before after input.Nothing f = f.5
full-of before after (input.Request request) f = f.5
full-of before after (input.Refused refusal) f = f.5
full-of before after (input.Response status body) f = f.5
full-of before after input.Upgraded f = f.5
full-of before after (input.Message bytes) f = f.5
full-of before after input.Broken f = f.5
full-of before after input.Gone f = f.5

input-looked : (wire : ℕ) (before mid after : ResponseStateView) (answers : List Answer) (heard : Input) → before.accepted ≡ false → (r : ReadsInto wire before mid answers true) → Finds mid after heard →
    IsInput before after answers r.got heard
input-looked wire before mid after answers input.Nothing e r f = (sym r.whole, r.asked, e, f.3 ∙ r.accepted ∙ e, f.2 ∙ r.concluded, f.1 ∙ r.held, f.4)
input-looked wire before mid after answers (input.Request request) e r f = absurd f.4
input-looked wire before mid after answers (input.Refused refusal) e r f = absurd f.4
input-looked wire before mid after answers (input.Response status body) e r f = came wire before mid after answers true (input.Response status body) r f.1 f.2 f.3 f.4
input-looked wire before mid after answers input.Upgraded e r f = inr (came wire before mid after answers true input.Upgraded r f.1 f.2 f.3 f.4)
input-looked wire before mid after answers (input.Message bytes) e r f = absurd f.4
input-looked wire before mid after answers input.Broken e r f = inr (came wire before mid after answers true input.Broken r f.1 f.2 f.3 f.4)
input-looked wire before mid after answers input.Gone e r f = absurd f.4

begins : (lane : Lane) → IsWaiting lane → IsBeginning lane.held
begins lane (inl w) = inl w
begins lane (inr w) = inr (lane.want, w.0, w.1)

-- nothing was found after the wire broke
broken : (wire : ℕ) (before mid after : ResponseStateView) (answers : List Answer) → (r : ReadsInto wire before mid answers false) → Finds mid after input.Nothing → IsInput before after answers r.got input.Broken
broken wire before mid after answers r f =
    let none : r.got ≡ None = none-of r.got r.whole in
    let held : after.lane.held ≡ before.lane.held = f.1 ∙ r.held ∙ ap (λ (o : Option (List ℕ)). before.lane.held ++ bytes_of o) none ∙ append-nil before.lane.held in
    inl (none, λ free. subst (λ (l : List ℕ). IsBeginning l) held (begins after.lane (f.4 (f.2 ∙ r.concluded ∙ free))))

input-at-end : (wire : ℕ) (before mid after : ResponseStateView) (answers : List Answer) (heard : Input) → (r : ReadsInto wire before mid answers false) → FindsAtEnd mid after heard →
    IsInput before after answers r.got heard
input-at-end wire before mid after answers input.Nothing r f = absurd f
input-at-end wire before mid after answers (input.Request request) r f = absurd f.4
input-at-end wire before mid after answers (input.Refused refusal) r f = absurd f.4
input-at-end wire before mid after answers (input.Response status body) r f = came wire before mid after answers false (input.Response status body) r f.1 f.2 f.3 f.4
input-at-end wire before mid after answers input.Upgraded r f = inr (came wire before mid after answers false input.Upgraded r f.1 f.2 f.3 f.4)
input-at-end wire before mid after answers (input.Message bytes) r f = absurd f.4
input-at-end wire before mid after answers input.Broken r (inl f) = broken wire before mid after answers r f
input-at-end wire before mid after answers input.Broken r (inr f) = inr (came wire before mid after answers false input.Broken r f.1 f.2 f.3 f.4)
input-at-end wire before mid after answers input.Gone r f = absurd f.4

upgrade-at-end : (before after : ResponseStateView) (heard : Input) → FindsAtEnd before after heard → after.upgrade ≡ before.upgrade
upgrade-at-end before after input.Nothing f = absurd f
upgrade-at-end before after (input.Request request) f = f.0
upgrade-at-end before after (input.Refused refusal) f = f.0
upgrade-at-end before after (input.Response status body) f = f.0
upgrade-at-end before after input.Upgraded f = f.0
upgrade-at-end before after (input.Message bytes) f = f.0
upgrade-at-end before after input.Broken (inl f) = f.0
upgrade-at-end before after input.Broken (inr f) = f.0
upgrade-at-end before after input.Gone f = f.0

full-at-end : (before after : ResponseStateView) (heard : Input) → FindsAtEnd before after heard → after.last_read_was_full ≡ before.last_read_was_full
full-at-end before after input.Nothing f = absurd f
full-at-end before after (input.Request request) f = f.5
full-at-end before after (input.Refused refusal) f = f.5
full-at-end before after (input.Response status body) f = f.5
full-at-end before after input.Upgraded f = f.5
full-at-end before after (input.Message bytes) f = f.5
full-at-end before after input.Broken (inl f) = f.5
full-at-end before after input.Broken (inr f) = f.5
full-at-end before after input.Gone f = f.5

-- the wire was read, and then the bytes held are looked at, which may be out of memory
pub hears-looked : {E : Type 0} (a b : Option (List Answer)) (wire : ℕ) (before mid after : ResponseStateView) (r : Result Input E) → before.accepted ≡ false →
    ((answers : List Answer) × Tells a b answers × ReadsInto wire before mid answers true) → IfOk r (Finds mid after) →
    IfOk r (λ heard. (answers : List Answer) × Tells a b answers × HearsResponse wire before after answers heard)
hears-looked a b wire before mid after (Ok heard) free h f = (
  h.0,
  h.1,
  record { got = h.2.got; read = h.2.read; upgrade = upgrade-of mid after heard f ∙ h.2.upgrade; is_input = input-looked wire before mid after h.0 heard free h.2 f; full = full-of mid after heard f ∙ h.2.full },
)
hears-looked a b wire before mid after (Err why) free h f = f

-- the same once the wire broke
pub hears-at-end : {E : Type 0} (a b : Option (List Answer)) (wire : ℕ) (before mid after : ResponseStateView) (r : Result Input E) →
    ((answers : List Answer) × Tells a b answers × ReadsInto wire before mid answers false) → IfOk r (FindsAtEnd mid after) →
    IfOk r (λ heard. (answers : List Answer) × Tells a b answers × HearsResponse wire before after answers heard)
hears-at-end a b wire before mid after (Ok heard) h f = (
  h.0,
  h.1,
  record { got = h.2.got; read = h.2.read; upgrade = upgrade-at-end mid after heard f ∙ h.2.upgrade; is_input = input-at-end wire before mid after h.0 heard h.2 f; full = full-at-end mid after heard f ∙ h.2.full },
)
hears-at-end a b wire before mid after (Err why) h f = f

-- ---- one that waits

-- it hears nothing, and stays as it is
pub still-response : (wire : ℕ) (state : ResponseStateView) → IsResponseState state.lane state.upgrade state.concluded state.accepted state.has_unparsed → is_awake state ≡ false →
    (answers : List Answer) × IsNothing wire answers × HearsResponse wire state state answers input.Nothing
still-response wire state sound asleep = go (room_of state) refl where
  neither : (a b : Bool) → (a || b) ≡ false → (a ≡ false) × (b ≡ false)
  neither true b e = cc e
  neither false b e = (refl, e)

  looked : (a b : Bool) → (a && not b) ≡ false → b ≡ false → a ≡ false
  looked a true e f = cc f
  looked true false e f = cc e
  looked false false e f = refl

  unread : (full room : Bool) → (full && room) ≡ false → room ≡ true → full ≡ false
  unread false room e f = refl
  unread true true e f = cc e
  unread true false e f = cc f

  may_find : Bool
  may_find = state.has_unparsed && not state.concluded

  may_read : Bool
  may_read = state.last_read_was_full && nat_lt 0 (room_of state)

  none : (state.accepted ≡ false) × ((may_find || may_read) ≡ false)
  none = neither state.accepted (may_find || may_read) asleep

  waiting : state.concluded ≡ false → IsWaiting state.lane
  waiting free = sound.looked free (looked state.has_unparsed state.concluded (neither may_find may_read none.1).0 free)

  input-is : (answers : List Answer) → IsAsked (room_of state) answers → IsInput state state answers (Some []) input.Nothing
  input-is answers asked = (refl, asked, none.0, none.0, refl, sym (append-nil state.lane.held), waiting)

  -- there is room, so the last read didn't fill its own, as no bytes do
  unfilled : 1 ≤ room_of state → state.last_read_was_full ≡ (0 == room_of state)
  unfilled some =
      unread state.last_read_was_full (nat_lt 0 (room_of state)) (neither may_find may_read none.1).1 (lt-ltb 0 (room_of state) some)
      ∙ sym (ne_eqb 0 (room_of state) (λ same. omega (arith, same, some)))

  go : (n : ℕ) → room_of state ≡ n → (answers : List Answer) × IsNothing wire answers × HearsResponse wire state state answers input.Nothing
  go zero e = ([], inl refl, record { got = Some []; read = refl; upgrade = refl; is_input = input-is [] (λ had. omega (arith, e, had)); full = refl })
  go (suc n) e = (
    not_yet wire ∷ [],
    inr refl,
    record {
      got = Some [];
      read = (omega (arith, e), (refl, refl));
      upgrade = refl;
      is_input = input-is (not_yet wire ∷ []) (λ had. omega arith);
      full = unfilled (omega (arith, e));
    },
  )
