-- What holds of each lane in all sessions: it holds of each new one, and each call keeps it.
use Rattle.std.proofs.Common.{◌≡◌, ◌⊎◌, ◌≤◌, ◌==◌, ◌&&◌, ◌||◌, ◌++◌, ◌∷◌, [], ℕ, Bool, true, false, not, cond, if◌then◌else◌, List, Option, None, Some, refl, sym, ap, ◌∙◌, subst, inl, inr, arith, append-nil, unwrap_or, option_to_list}
use Rattle.std.proofs.lemmas.List.{map-append, append_cancel_left}
use Rattle.hw_door.specs.declared.heard.Event.{Event}
use Rattle.hw_door.specs.declared.heard.Event.TheVariants as event
use Rattle.hw_door.specs.declared.heard.Heard.{Heard}
use Rattle.hw_door.specs.Traffic.{Answer, polled, accepted}
use Rattle.hw_net.specs.DialerSessions.{is_answer_on, is_answered_on}
use Rattle.hw_net.specs.Door.{DoorState, HearsNext, IsNumbered, kept, time_to_wait, with_accepted, new_lane, is_full_at}
use Rattle.hw_net.specs.Lane.{Lane, wires_of, refusal_of, is_full, is_over}
use Rattle.hw_net.specs.Rising.{IsRising}
use Rattle.hw_net.specs.Saying.{WritesIfLive}
use Rattle.hw_net.specs.Sessions.{Call, heard, replied, sent, shut, wrote, Does, Session, answers_in, answers_of, request_on, requests_on, message_on, messages_on, is_request_on, is_owed_on, is_end_on, refusal_on, replies_on, was_shut_in, came_in, is_drained_on, is_upgrade_on, was_full_on, goes_on, sent_on}
use Rattle.hw_net.specs.Trace.{Chooses}
use Rattle.hw_net.specs.Turn.{Listens, Replies, Sends, Shuts}
use Rattle.hw_net.proofs.Bystanders.{SaysOrStays, live-says}
use Rattle.hw_net.proofs.Moves.{Has, Without, AreDistinct, same-wire, IsOff, Fits, Turned, TurnedIn, Sweeps, sweeps, hears-wires, EachKeeps, ActsAt, Spreads, spreads, has-front, has-part, has-kept, rising-distinct, rising-without}
use Rattle.hw_net.proofs.Numbering.{numbers-rise, writes-keep, replies-keep, sends-keep, shuts-keep}
use Rattle.hw_net.proofs.Owning.{is_on, bystander-keeps, live-writes-keeps, listens-keeps, replies-keeps, sends-keeps, shuts-keeps}
use Rattle.hw_net.proofs.Shares.{share, share-append, came-append, equal, same, turned}

-- what a lane hears is the event, and if it hears nothing, the event isn't on it
abbrev pub IsHeard : ℕ → Option Event → Event → Type 0
IsHeard wire None what = is_on wire what ≡ false
IsHeard wire (Some trace) what = what ≡ trace

-- a lane's part of a `next`: it listened, or it only wrote, if it did anything
abbrev pub Heeds : ℕ → Event → Lane → Lane → List Answer → Type 0
Heeds now what x y mine =
    ((own : Option Event) × Listens now x y mine own × IsHeard x.wire own what) ⊎ (SaysOrStays now x y mine × (is_on x.wire what ≡ false))

-- a lane's part of a call
abbrev pub Moves : Call → Lane → Lane → Type 0
Moves (heard what answers) x y = Heeds what.now what.event x y (share x.wire answers)
Moves (replied lane reply answers) x y = (moment : ℕ) × ActsAt lane (Replies moment reply) x y (share x.wire answers)
Moves (sent lane bytes text full answers) x y =
    (moment : ℕ) × ActsAt lane (Sends moment bytes text) x y (share x.wire answers) × ((x.wire == lane) ≡ true → full ≡ is_full y)
Moves (shut lane answers) x y = (moment : ℕ) × ActsAt lane (Shuts moment) x y (share x.wire answers)
Moves (wrote lane answers) x y = SaysOrStays 0 x y (share x.wire answers)

at-wire : (wire : ℕ) (Does : Lane → Lane → List Answer → Type 0) (x y : Lane) (mine : List Answer) → EachKeeps Does → ActsAt wire Does x y mine → y.wire ≡ x.wire
at-wire wire Does x y mine each h = go (x.wire == wire) h where
  go : (b : Bool) → Chooses b (Does x y mine) ((y ≡ x) × (mine ≡ [])) → y.wire ≡ x.wire
  go true h = (each x y mine h).0
  go false h = ap (λ (l : Lane). l.wire) h.0

-- a lane keeps its number
pub moves-wire : (call : Call) (x y : Lane) → Moves call x y → y.wire ≡ x.wire
moves-wire (heard what answers) x y (inl h) = (listens-keeps what.now x y (share x.wire answers) h.0 h.1).0.0
moves-wire (heard what answers) x y (inr h) = (bystander-keeps what.now x y (share x.wire answers) h.0).0
moves-wire (replied lane reply answers) x y h = at-wire lane (Replies h.0 reply) x y (share x.wire answers) (replies-keeps h.0 reply) h.1
moves-wire (sent lane bytes text full answers) x y h = at-wire lane (Sends h.0 bytes text) x y (share x.wire answers) (sends-keeps h.0 bytes text) h.1
moves-wire (shut lane answers) x y h = at-wire lane (Shuts h.0) x y (share x.wire answers) (shuts-keeps h.0) h.1
moves-wire (wrote lane answers) x y h = (bystander-keeps 0 x y (share x.wire answers) h).0

-- a call isn't heard on a lane, nor told that it is full
abbrev pub IsElsewhere : ℕ → Call → Type 0
IsElsewhere wire (heard what answers) = is_on wire what.event ≡ false
IsElsewhere wire (sent lane bytes text full answers) = (lane == wire) ≡ true → full ≡ false
IsElsewhere wire _ = Unit {0}

-- a lane is new: its number is none of those that came before
abbrev pub IsNew : ℕ → Lane → Type 0
IsNew bound lane = (now : ℕ) × (wire : ℕ) × (lane ≡ new_lane now wire) × (bound ≤ wire)

-- What a call does: these are the lanes that move in it, those that were there, but for some that were over, and new ones.
pub record Steps (call : Call) (bound bound_after : ℕ) (before after : DoorState) : Type 0 where
  pub lanes : List Lane
  pub were : (x : Lane) → Has lanes x → Has before.lanes x ⊎ IsNew bound x
  pub came : (x : Lane) → Has lanes x → Has before.lanes x ⊎ (came_in x.wire (answers_in call) ≡ true)
  pub rise : IsRising 0 bound_after (wires_of lanes)
  pub risen : IsRising 0 bound_after (wires_of after.lanes)
  pub bounds : bound ≤ bound_after
  pub still : (x : Lane) → Has before.lanes x → is_over x.stage ≡ false → Has lanes x
  pub back : (y : Lane) → Has after.lanes y → (x : Lane) × Has lanes x × Moves call x y
  pub on : (x : Lane) → Has lanes x → (y : Lane) × Has after.lanes y × Moves call x y
  pub off : (wire : ℕ) → Without wire lanes → (share wire (answers_in call) ≡ []) × IsElsewhere wire call

-- ---- the steps of `next`

kept-has : (lanes : List Lane) (x : Lane) → Has lanes x → is_over x.stage ≡ false → Has (kept lanes) x
kept-has [] x has e = absurd has
kept-has (lane ∷ lanes) x has e = go (not (is_over lane.stage)) refl has (λ k. kept-has lanes x k e) where
  go : (b : Bool) → not (is_over lane.stage) ≡ b → (lane ≡ x) ⊎ Has lanes x → (Has lanes x → Has (kept lanes) x) → Has (cond b (lane ∷ kept lanes) (kept lanes)) x
  go true f (inl k) again = inl k
  go true f (inr k) again = inr (again k)
  go false f (inl k) again = absurd (cc (sym f ∙ ap (λ (l : Lane). not (is_over l.stage)) k ∙ ap not e))
  go false f (inr k) again = again k

with-has : (now : ℕ) (came : Option ℕ) (lanes : List Lane) (x : Lane) → Has lanes x → Has (with_accepted now came lanes) x
with-has now None lanes x has = has
with-has now (Some wire) lanes x has = has-front lanes (new_lane now wire ∷ []) x has

off-event : (wire : ℕ) (trace : Option Event) → IsOff wire trace → is_on wire (unwrap_or trace event.Quiet) ≡ false
off-event wire None h = refl
off-event wire (Some one) h = h

heeds : (now : ℕ) (trace : Option Event) (what : Event) (x y : Lane) (mine : List Answer) → what ≡ unwrap_or trace event.Quiet → Turned now trace x y mine → Heeds now what x y mine
heeds now trace what x y mine e (inl t) = inl (t.0, t.1, go t.0 t.2) where
  go : (own : Option Event) → Fits x.wire own trace → IsHeard x.wire own what
  go None f = ap (λ v. is_on x.wire v) e ∙ off-event x.wire trace f
  go (Some one) f = e ∙ ap (λ (o : Option Event). unwrap_or o event.Quiet) f
heeds now trace what x y mine e (inr t) = inr (t.0, ap (λ v. is_on x.wire v) e ∙ off-event x.wire trace t.1)

share-rest : (wire wait now : ℕ) (came : Option ℕ) (turns answers : List Answer) → answers ≡ polled wait now ∷ accepted came ∷ turns → share wire answers ≡ share wire turns
share-rest wire wait now came turns answers e = ap (λ l. share wire l) e

same-came : (a b : Option ℕ) → option_to_list a ≡ option_to_list b → a ≡ b
same-came None None e = refl
same-came None (Some b) e = absurd (cc e)
same-came (Some a) None e = absurd (cc e)
same-came (Some a) (Some b) e = cc e

pub wires-with : (now : ℕ) (came : Option ℕ) (lanes : List Lane) → wires_of (with_accepted now came lanes) ≡ wires_of lanes ++ option_to_list came
wires-with now None lanes = sym (append-nil (wires_of lanes))
wires-with now (Some wire) lanes = map-append (λ (l : Lane). l.wire) lanes (new_lane now wire ∷ [])

with-were : (now bound bound_after : ℕ) (came : Option ℕ) (before : List Lane) (x : Lane) → IsNumbered bound bound_after came → Has (with_accepted now came (kept before)) x → Has before x ⊎ IsNew bound x
with-were now bound bound_after None before x n h = inl (has-kept before x h)
with-were now bound bound_after (Some wire) before x n h = go (has-part (kept before) (new_lane now wire ∷ []) x h) where
  go : Has (kept before) x ⊎ Has (new_lane now wire ∷ []) x → Has before x ⊎ IsNew bound x
  go (inl k) = inl (has-kept before x k)
  go (inr (inl e)) = inr (now, wire, sym e, n.0)
  go (inr (inr k)) = absurd k

with-came : (now : ℕ) (came : Option ℕ) (wait polled_at : ℕ) (before : List Lane) (x : Lane) (turns answers : List Answer) → answers ≡ polled wait polled_at ∷ accepted came ∷ turns → Has (with_accepted now came (kept before)) x →
    Has before x ⊎ (came_in x.wire answers ≡ true)
with-came now None wait polled_at before x turns answers e h = inl (has-kept before x h)
with-came now (Some wire) wait polled_at before x turns answers e h = go (has-part (kept before) (new_lane now wire ∷ []) x h) where
  go : Has (kept before) x ⊎ Has (new_lane now wire ∷ []) x → Has before x ⊎ (came_in x.wire answers ≡ true)
  go (inl k) = inl (has-kept before x k)
  go (inr (inl f)) = inr (ap (λ l. came_in x.wire l) e ∙ ap (λ (l : Lane). (wire == l.wire) || came_in x.wire turns) (sym f) ∙ ap (λ b. b || came_in x.wire turns) (same wire))
  go (inr (inr k)) = absurd k

numbered-rises : (bound bound_after : ℕ) (came : Option ℕ) → IsNumbered bound bound_after came → bound ≤ bound_after
numbered-rises bound bound_after None n = n
numbered-rises bound bound_after (Some wire) n = omega (arith, n.0, n.1)

next-with : (what : Heard) (answers : List Answer) (bound bound_after wait : ℕ) (before after : DoorState) (h : HearsNext wait before after answers what) → IsNumbered bound bound_after h.wire →
    IsRising 0 bound_after (wires_of after.lanes) → IsRising 0 bound_after (wires_of (with_accepted what.now h.wire (kept before.lanes))) →
    Sweeps what.now (with_accepted what.now h.wire (kept before.lanes)) after.lanes h.turns h.trace → Steps (heard what answers) bound bound_after before after
next-with what answers bound bound_after wait before after h numbered risen rises sweep = record {
  lanes = with_accepted what.now h.wire (kept before.lanes);
  were = λ x has. with-were what.now bound bound_after h.wire before.lanes x numbered has;
  came = λ x has. with-came what.now h.wire (time_to_wait wait (kept before.lanes)) h.now before.lanes x h.turns answers h.all has;
  rise = rises;
  risen = risen;
  bounds = numbered-rises bound bound_after h.wire numbered;
  still = λ x has e. with-has what.now h.wire (kept before.lanes) x (kept-has before.lanes x has e);
  back = λ y has. let p = sweep.back y has in (p.0, p.1, moved p.0 y p.2);
  on = λ x has. let p = sweep.on x has in (p.0, p.1, moved x p.0 p.2);
  off = λ wire without. let p = sweep.off wire without in
      (share-rest wire (time_to_wait wait (kept before.lanes)) h.now h.wire h.turns answers h.all ∙ p.0, ap (λ v. is_on wire v) h.event_is ∙ off-event wire h.trace p.1);
} where
  moved : (x y : Lane) → TurnedIn what.now h.trace h.turns x y → Moves (heard what answers) x y
  moved x y t = heeds what.now h.trace what.event x y (share x.wire answers) h.event_is
      (subst (λ (l : List Answer). Turned what.now h.trace x y l) (sym (share-rest x.wire (time_to_wait wait (kept before.lanes)) h.now h.wire h.turns answers h.all)) t)

next-steps : (what : Heard) (answers : List Answer) (bound bound_after : ℕ) (before after : DoorState) → Does (heard what answers) bound bound_after before after → IsRising 0 bound (wires_of before.lanes) →
    Steps (heard what answers) bound bound_after before after
next-steps what answers bound bound_after before after d rise =
    let h = d.1 in
    let keeps = d.2 in
    let lanes = with_accepted what.now h.wire (kept before.lanes) in
    let same : wires_of after.lanes ≡ wires_of lanes = hears-wires what.now h.begin lanes after.lanes h.turns h.trace h.hears in
    let came : keeps.0 ≡ h.wire = same-came keeps.0 h.wire (append_cancel_left (wires_of (kept before.lanes)) (option_to_list keeps.0) (option_to_list h.wire)
    (sym keeps.1 ∙ same ∙ wires-with what.now h.wire (kept before.lanes))) in
    let risen = numbers-rise bound bound_after before.lanes after.lanes rise keeps in
    let rises = subst (λ (l : List ℕ). IsRising 0 bound_after l) same risen in
    next-with what answers bound bound_after d.0 before after h (subst (λ (o : Option ℕ). IsNumbered bound bound_after o) came keeps.2) risen rises
    (sweeps what.now h.begin lanes after.lanes h.turns h.trace h.hears (rising-distinct 0 bound_after lanes rises))

-- ---- the steps of the other calls

-- no lane of this number is full, or the one that has it is the one
full-off : (wire : ℕ) (lanes : List Lane) → Without wire lanes → is_full_at wire lanes ≡ false
full-off wire [] off = refl
full-off wire (lane ∷ lanes) off =
    ap (λ b. (b && is_full lane) || is_full_at wire lanes) (off lane (inl refl)) ∙ full-off wire lanes (λ x has. off x (inr has))

full-at : (wire : ℕ) (lanes : List Lane) (y : Lane) → AreDistinct lanes → Has lanes y → (y.wire == wire) ≡ true → is_full_at wire lanes ≡ is_full y
full-at wire [] y distinct has e = absurd has
full-at wire (lane ∷ lanes) y distinct (inl f) e =
    let here : (lane.wire == wire) ≡ true = ap (λ (l : Lane). l.wire == wire) f ∙ e in
    ap (λ b. (b && is_full lane) || is_full_at wire lanes) here
    ∙ ap (λ b. is_full lane || b) (full-off wire lanes (λ x has. same-wire lane.wire wire x.wire here (distinct.0 x has))) ∙ or-false (is_full lane) ∙ ap (λ (l : Lane). is_full l) f where
      or-false : (b : Bool) → (b || false) ≡ b
      or-false true = refl
      or-false false = refl
full-at wire (lane ∷ lanes) y distinct (inr has) e =
    ap (λ b. (b && is_full lane) || is_full_at wire lanes) (same-wire y.wire wire lane.wire e (turned y.wire lane.wire (distinct.0 y has)))
    ∙ full-at wire lanes y distinct.1 has e

still-without : (wire w : ℕ) (Does : Lane → Lane → List Answer → Type 0) (lanes after : List Lane) (answers : List Answer) → EachKeeps Does → Spreads wire Does lanes after answers → (wire == w) ≡ true → Without w lanes →
    Without wire after
still-without wire w Does lanes after answers each spread e without y has =
    let p = spread.back y has in
    subst (λ n. (n == wire) ≡ false) (sym (at-wire wire Does p.0 y (share p.0.wire answers) each p.2))
    (subst (λ n. (p.0.wire == n) ≡ false) (sym (equal wire w e)) (without p.0 p.1))

-- what a flush does on a lane
wrote-at : (wire : ℕ) (x y : Lane) (mine : List Answer) → ActsAt wire WritesIfLive x y mine → SaysOrStays 0 x y mine
wrote-at wire x y mine h = go (x.wire == wire) h where
  go : (b : Bool) → Chooses b (WritesIfLive x y mine) ((y ≡ x) × (mine ≡ [])) → SaysOrStays 0 x y mine
  go true h = live-says 0 x y mine h
  go false h = inr h

at-steps : (call : Call) (wire : ℕ) (Does : Lane → Lane → List Answer → Type 0) (answers : List Answer) (bound bound_after : ℕ) (before after : DoorState) → answers_in call ≡ answers →
    ((x y : Lane) → Has after.lanes y → ActsAt wire Does x y (share x.wire answers) → Moves call x y) → ((w : ℕ) → Without w before.lanes → IsElsewhere w call) → Spreads wire Does before.lanes after.lanes answers →
    IsRising 0 bound (wires_of before.lanes) → wires_of after.lanes ≡ wires_of before.lanes → bound_after ≡ bound → Steps call bound bound_after before after
at-steps call wire Does answers bound bound_after before after all moves elsewhere spread rise same e = record {
  lanes = before.lanes;
  were = λ x has. inl has;
  came = λ x has. inl has;
  rise = subst (λ n. IsRising 0 n (wires_of before.lanes)) (sym e) rise;
  risen = subst (λ n. IsRising 0 n (wires_of after.lanes)) (sym e) (subst (λ (l : List ℕ). IsRising 0 bound l) (sym same) rise);
  bounds = omega (arith, e);
  still = λ x has f. has;
  back = λ y has. let p = spread.back y has in (p.0, p.1, moves p.0 y has p.2);
  on = λ x has. let p = spread.on x has in (p.0, p.1, moves x p.0 p.1 p.2);
  off = λ w without. (ap (λ l. share w l) all ∙ spread.off w without, elsewhere w without);
}

pub steps : (call : Call) (bound bound_after : ℕ) (before after : DoorState) → Does call bound bound_after before after → IsRising 0 bound (wires_of before.lanes) → Steps call bound bound_after before after
steps (heard what answers) bound bound_after before after d rise = next-steps what answers bound bound_after before after d rise
steps (replied lane reply answers) bound bound_after before after d rise =
    at-steps (replied lane reply answers) lane (Replies before.moment reply) answers bound bound_after before after refl (λ x y has k. (before.moment, k)) (λ w without. tt)
    (spreads lane (Replies before.moment reply) before.lanes after.lanes answers (replies-keeps before.moment reply) d.0.0 (rising-distinct 0 bound before.lanes rise))
    rise (replies-keep lane before.moment reply before after answers d.0) d.1
steps (sent lane bytes text full answers) bound bound_after before after d rise =
    let each = sends-keeps before.moment bytes text in
    let same = sends-keep lane before.moment bytes text before after answers d.0 in
    let spread = spreads lane (Sends before.moment bytes text) before.lanes after.lanes answers each d.0.0 (rising-distinct 0 bound before.lanes rise) in
    let distinct = rising-distinct 0 bound after.lanes (subst (λ (l : List ℕ). IsRising 0 bound l) (sym same) rise) in
    at-steps (sent lane bytes text full answers) lane (Sends before.moment bytes text) answers bound bound_after before after refl
    (λ x y has k. (before.moment, k, λ e. d.1 ∙ full-at lane after.lanes y distinct has (ap (λ n. n == lane) (at-wire lane (Sends before.moment bytes text) x y (share x.wire answers) each k) ∙ e)))
    (λ w without e. d.1 ∙ full-off lane after.lanes (still-without lane w (Sends before.moment bytes text) before.lanes after.lanes answers each spread e without))
    spread rise same d.2
steps (shut lane answers) bound bound_after before after d rise =
    at-steps (shut lane answers) lane (Shuts before.moment) answers bound bound_after before after refl (λ x y has k. (before.moment, k)) (λ w without. tt)
    (spreads lane (Shuts before.moment) before.lanes after.lanes answers (shuts-keeps before.moment) d.0.0 (rising-distinct 0 bound before.lanes rise))
    rise (shuts-keep lane before.moment before after answers d.0) d.1
steps (wrote lane answers) bound bound_after before after d rise =
    at-steps (wrote lane answers) lane WritesIfLive answers bound bound_after before after refl (λ x y has k. wrote-at lane x y (share x.wire answers) k) (λ w without. tt)
    (spreads lane WritesIfLive before.lanes after.lanes answers live-writes-keeps d.0.0 (rising-distinct 0 bound before.lanes rise))
    rise (writes-keep lane before.lanes after.lanes answers d.0.0) d.1

pub rises : (calls : List Call) (bound : ℕ) (now : DoorState) → Session calls bound now → IsRising 0 bound (wires_of now.lanes)
rises [] bound now h = subst (λ (d : DoorState). IsRising 0 bound (wires_of d.lanes)) (sym h) (omega arith)
rises (call ∷ calls) bound now h = (steps call h.0 bound h.1 now h.3 (rises calls h.0 h.1 h.2)).risen

pub steps-in : (call : Call) (calls : List Call) (bound : ℕ) (now : DoorState) (h : Session (call ∷ calls) bound now) → Steps call h.0 bound h.1 now
steps-in call calls bound now h = steps call h.0 bound h.1 now h.3 (rises calls h.0 h.1 h.2)

-- ---- new lanes

pub unrequested : (wire : ℕ) (what : Event) → is_on wire what ≡ false → request_on wire what ≡ []
unrequested wire (event.Request at request) h = ap (λ b. if b then request ∷ [] else []) h
unrequested wire (event.Refused at refusal) h = refl
unrequested wire (event.Bytes at bytes) h = refl
unrequested wire (event.Response at status body) h = refl
unrequested wire (event.Upgraded at) h = refl
unrequested wire (event.Lost at) h = refl
unrequested wire (event.Drained at) h = refl
unrequested wire event.Quiet h = refl

pub not-request : (wire : ℕ) (what : Event) → is_on wire what ≡ false → is_request_on wire what ≡ false
not-request wire (event.Request at request) h = h
not-request wire (event.Refused at refusal) h = refl
not-request wire (event.Bytes at bytes) h = refl
not-request wire (event.Response at status body) h = refl
not-request wire (event.Upgraded at) h = refl
not-request wire (event.Lost at) h = refl
not-request wire (event.Drained at) h = refl
not-request wire event.Quiet h = refl

pub unrefused : (wire : ℕ) (what : Event) → is_on wire what ≡ false → refusal_on wire what ≡ []
unrefused wire (event.Request at request) h = refl
unrefused wire (event.Refused at refusal) h = ap (λ b. if b then refusal_of refusal ∷ [] else []) h
unrefused wire (event.Bytes at bytes) h = refl
unrefused wire (event.Response at status body) h = refl
unrefused wire (event.Upgraded at) h = refl
unrefused wire (event.Lost at) h = refl
unrefused wire (event.Drained at) h = refl
unrefused wire event.Quiet h = refl

pub unheard : (wire : ℕ) (what : Event) → is_on wire what ≡ false → message_on wire what ≡ []
unheard wire (event.Request at request) h = refl
unheard wire (event.Refused at refusal) h = refl
unheard wire (event.Bytes at bytes) h = ap (λ b. if b then bytes ∷ [] else []) h
unheard wire (event.Response at status body) h = refl
unheard wire (event.Upgraded at) h = refl
unheard wire (event.Lost at) h = refl
unheard wire (event.Drained at) h = refl
unheard wire event.Quiet h = refl

pub unanswered : (wire : ℕ) (what : Event) → is_on wire what ≡ false → is_answer_on wire what ≡ false
unanswered wire (event.Request at request) h = refl
unanswered wire (event.Refused at refusal) h = refl
unanswered wire (event.Bytes at bytes) h = refl
unanswered wire (event.Response at status body) h = h
unanswered wire (event.Upgraded at) h = h
unanswered wire (event.Lost at) h = refl
unanswered wire (event.Drained at) h = refl
unanswered wire event.Quiet h = refl

pub unupgraded : (wire : ℕ) (what : Event) → is_on wire what ≡ false → is_upgrade_on wire what ≡ false
unupgraded wire (event.Request at request) h = refl
unupgraded wire (event.Refused at refusal) h = refl
unupgraded wire (event.Bytes at bytes) h = refl
unupgraded wire (event.Response at status body) h = refl
unupgraded wire (event.Upgraded at) h = h
unupgraded wire (event.Lost at) h = refl
unupgraded wire (event.Drained at) h = refl
unupgraded wire event.Quiet h = refl

-- nothing was heard or said on a lane, and its wire wasn't called
pub record IsUntouched (wire : ℕ) (calls : List Call) : Type 0 where
  pub answers : share wire (answers_of calls) ≡ []
  pub requests : requests_on wire calls ≡ []
  pub messages : messages_on wire calls ≡ []
  pub replies : replies_on wire calls ≡ []
  pub owed : is_owed_on wire calls ≡ false
  pub full : was_full_on wire calls ≡ false
  pub answered : is_answered_on wire calls ≡ false
  pub idle : goes_on wire calls ≡ false
  pub unsent : sent_on wire calls ≡ []

and-false : (a : Bool) → (a && false) ≡ false
and-false true = refl
and-false false = refl

joined : {A : Type 0} (xs ys : List A) → xs ≡ [] → ys ≡ [] → xs ++ ys ≡ []
joined xs ys e f = ap (λ l. l ++ ys) e ∙ f

pub untouched-owed : (wire : ℕ) (call : Call) (calls : List Call) → IsElsewhere wire call → is_owed_on wire calls ≡ false → is_owed_on wire (call ∷ calls) ≡ false
untouched-owed wire (heard what answers) calls off e =
    ap (λ b. not (was_shut_in wire answers) && (b || is_owed_on wire calls)) (not-request wire what.event off) ∙ ap (λ b. not (was_shut_in wire answers) && b) e
    ∙ and-false (not (was_shut_in wire answers))
untouched-owed wire (replied at reply answers) calls off e = ap (λ b. not (at == wire) && b) e ∙ and-false (not (at == wire))
untouched-owed wire (sent at bytes text full answers) calls off e = e
untouched-owed wire (shut at answers) calls off e = ap (λ b. not (at == wire) && b) e ∙ and-false (not (at == wire))
untouched-owed wire (wrote at answers) calls off e = ap (λ b. not (was_shut_in wire answers) && b) e ∙ and-false (not (was_shut_in wire answers))

untouched-requests : (wire : ℕ) (call : Call) (calls : List Call) → IsElsewhere wire call → requests_on wire calls ≡ [] → requests_on wire (call ∷ calls) ≡ []
untouched-requests wire (heard what answers) calls off e = joined (requests_on wire calls) (request_on wire what.event) e (unrequested wire what.event off)
untouched-requests wire (replied at reply answers) calls off e = e
untouched-requests wire (sent at bytes text full answers) calls off e = e
untouched-requests wire (shut at answers) calls off e = e
untouched-requests wire (wrote at answers) calls off e = e

untouched-messages : (wire : ℕ) (call : Call) (calls : List Call) → IsElsewhere wire call → messages_on wire calls ≡ [] → messages_on wire (call ∷ calls) ≡ []
untouched-messages wire (heard what answers) calls off e = joined (messages_on wire calls) (message_on wire what.event) e (unheard wire what.event off)
untouched-messages wire (replied at reply answers) calls off e = e
untouched-messages wire (sent at bytes text full answers) calls off e = e
untouched-messages wire (shut at answers) calls off e = e
untouched-messages wire (wrote at answers) calls off e = e

untouched-replies : (wire : ℕ) (call : Call) (calls : List Call) → IsElsewhere wire call → is_owed_on wire calls ≡ false → replies_on wire calls ≡ [] → replies_on wire (call ∷ calls) ≡ []
untouched-replies wire (heard what answers) calls off owed e = joined (replies_on wire calls) (refusal_on wire what.event) e (unrefused wire what.event off)
untouched-replies wire (replied at reply answers) calls off owed e =
    joined (replies_on wire calls) (if (at == wire) && is_owed_on wire calls then reply ∷ [] else []) e
    (ap (λ b. if (at == wire) && b then reply ∷ [] else []) owed ∙ ap (λ b. if b then reply ∷ [] else []) (and-false (at == wire)))
untouched-replies wire (sent at bytes text full answers) calls off owed e = e
untouched-replies wire (shut at answers) calls off owed e = e
untouched-replies wire (wrote at answers) calls off owed e = e

untouched-full : (wire : ℕ) (call : Call) (calls : List Call) → IsElsewhere wire call → was_full_on wire calls ≡ false → was_full_on wire (call ∷ calls) ≡ false
untouched-full wire (heard what answers) calls off e = ap (λ b. not (is_drained_on wire what.event) && b) e ∙ and-false (not (is_drained_on wire what.event))
untouched-full wire (replied at reply answers) calls off e = e
untouched-full wire (sent at bytes text full answers) calls off e = go (at == wire) off where
  go : (b : Bool) → (b ≡ true → full ≡ false) → (if b then full else was_full_on wire calls) ≡ false
  go true off = off refl
  go false off = e
untouched-full wire (shut at answers) calls off e = e
untouched-full wire (wrote at answers) calls off e = e

untouched-answered : (wire : ℕ) (call : Call) (calls : List Call) → IsElsewhere wire call → is_answered_on wire calls ≡ false → is_answered_on wire (call ∷ calls) ≡ false
untouched-answered wire (heard what answers) calls off e = ap (λ b. b || is_answered_on wire calls) (unanswered wire what.event off) ∙ e
untouched-answered wire (replied at reply answers) calls off e = e
untouched-answered wire (sent at bytes text full answers) calls off e = e
untouched-answered wire (shut at answers) calls off e = e
untouched-answered wire (wrote at answers) calls off e = e

untouched-idle : (wire : ℕ) (call : Call) (calls : List Call) → IsElsewhere wire call → is_owed_on wire calls ≡ false → goes_on wire calls ≡ false → goes_on wire (call ∷ calls) ≡ false
untouched-idle wire (heard what answers) calls off owed e =
    ap (λ b. not (is_end_on wire what.event) && (not (was_shut_in wire answers) && (b || goes_on wire calls))) (unupgraded wire what.event off)
    ∙ ap (λ b. not (is_end_on wire what.event) && (not (was_shut_in wire answers) && b)) e
    ∙ ap (λ b. not (is_end_on wire what.event) && b) (and-false (not (was_shut_in wire answers))) ∙ and-false (not (is_end_on wire what.event))
untouched-idle wire (replied at reply answers) calls off owed e =
    ap (λ b. not (was_shut_in wire answers) && (((at == wire) && b) || goes_on wire calls)) owed
    ∙ ap (λ b. not (was_shut_in wire answers) && (b || goes_on wire calls)) (and-false (at == wire))
    ∙ ap (λ b. not (was_shut_in wire answers) && b) e ∙ and-false (not (was_shut_in wire answers))
untouched-idle wire (sent at bytes text full answers) calls off owed e = ap (λ b. not (was_shut_in wire answers) && b) e ∙ and-false (not (was_shut_in wire answers))
untouched-idle wire (shut at answers) calls off owed e =
    ap (λ b. not (at == wire) && (not (was_shut_in wire answers) && b)) e ∙ ap (λ b. not (at == wire) && b) (and-false (not (was_shut_in wire answers))) ∙ and-false (not (at == wire))
untouched-idle wire (wrote at answers) calls off owed e = ap (λ b. not (was_shut_in wire answers) && b) e ∙ and-false (not (was_shut_in wire answers))

untouched-sent : (wire : ℕ) (call : Call) (calls : List Call) → is_owed_on wire calls ≡ false → goes_on wire calls ≡ false → sent_on wire calls ≡ [] → sent_on wire (call ∷ calls) ≡ []
untouched-sent wire (heard what answers) calls owed idle e = e
untouched-sent wire (replied at reply answers) calls owed idle e =
    ap (λ b. if (at == wire) && b then [] else sent_on wire calls) owed ∙ ap (λ b. if b then [] else sent_on wire calls) (and-false (at == wire)) ∙ e
untouched-sent wire (sent at bytes text full answers) calls owed idle e =
    ap (λ b. if (at == wire) && b then sent_on wire calls ++ record { is_text = text; bytes = bytes } ∷ [] else sent_on wire calls) idle
    ∙ ap (λ b. if b then sent_on wire calls ++ record { is_text = text; bytes = bytes } ∷ [] else sent_on wire calls) (and-false (at == wire)) ∙ e
untouched-sent wire (shut at answers) calls owed idle e = e
untouched-sent wire (wrote at answers) calls owed idle e = e

-- nor is it in a call elsewhere
pub untouched-more : (wire : ℕ) (call : Call) (calls : List Call) → share wire (answers_in call) ≡ [] → IsElsewhere wire call → IsUntouched wire calls → IsUntouched wire (call ∷ calls)
untouched-more wire call calls none off before = record {
  answers = share-append wire (answers_of calls) (answers_in call) ∙ joined (share wire (answers_of calls)) (share wire (answers_in call)) before.answers none;
  requests = untouched-requests wire call calls off before.requests;
  messages = untouched-messages wire call calls off before.messages;
  replies = untouched-replies wire call calls off before.owed before.replies;
  owed = untouched-owed wire call calls off before.owed;
  full = untouched-full wire call calls off before.full;
  answered = untouched-answered wire call calls off before.answered;
  idle = untouched-idle wire call calls off before.owed before.idle;
  unsent = untouched-sent wire call calls before.owed before.idle before.unsent;
}

pub untouched : (calls : List Call) (bound : ℕ) (now : DoorState) (wire : ℕ) → Session calls bound now → bound ≤ wire → IsUntouched wire calls
untouched [] bound now wire h le = record { answers = refl; requests = refl; messages = refl; replies = refl; owed = refl; full = refl; answered = refl; idle = refl; unsent = refl }
untouched (call ∷ calls) bound now wire h le =
    let step = steps-in call calls bound now h in
    let before = untouched calls h.0 h.1 wire h.2 (omega (arith, step.bounds, le)) in
    let off = step.off wire (rising-without 0 bound step.lanes wire step.rise le) in
    untouched-more wire call calls off.0 off.1 before

-- ---- all lanes

before-of : (P : List Call → Lane → Type 0) → ((calls : List Call) (now wire : ℕ) → IsUntouched wire calls → P calls (new_lane now wire)) → (calls : List Call) (bound : ℕ) (x : Lane) (lanes : List Lane) →
    (Has lanes x → P calls x) → ((wire : ℕ) → bound ≤ wire → IsUntouched wire calls) → Has lanes x ⊎ IsNew bound x → P calls x
before-of P new calls bound x lanes again fresh (inl k) = again k
before-of P new calls bound x lanes again fresh (inr k) = subst (λ (l : Lane). P calls l) (sym k.2) (new calls k.0 k.1 (fresh k.1 k.3))

come-of : (call : Call) (calls : List Call) (lanes : List Lane) (x : Lane) → (Has lanes x → came_in x.wire (answers_of calls) ≡ true) → Has lanes x ⊎ (came_in x.wire (answers_in call) ≡ true) →
    came_in x.wire (answers_of (call ∷ calls)) ≡ true
come-of call calls lanes x again (inl k) = came-append x.wire (answers_of calls) (answers_in call) ∙ ap (λ b. b || came_in x.wire (answers_in call)) (again k)
come-of call calls lanes x again (inr e) = came-append x.wire (answers_of calls) (answers_in call) ∙ ap (λ b. came_in x.wire (answers_of calls) || b) e ∙ go (came_in x.wire (answers_of calls)) where
  go : (a : Bool) → (a || true) ≡ true
  go true = refl
  go false = refl

-- the wire of each lane came
come : (calls : List Call) (bound : ℕ) (now : DoorState) → Session calls bound now → (y : Lane) → Has now.lanes y → came_in y.wire (answers_of calls) ≡ true
come [] bound now h y has = absurd (subst (λ (d : DoorState). Has d.lanes y) h has)
come (call ∷ calls) bound now h y has =
    let all = steps-in call calls bound now h in
    let p = all.back y has in
    subst (λ n. came_in n (answers_of (call ∷ calls)) ≡ true) (sym (moves-wire call p.0 y p.2)) (come-of call calls h.1.lanes p.0 (λ k. come calls h.0 h.1 h.2 p.0 k) (all.came p.0 p.1))

-- what holds of each new lane, on which nothing was heard or said, and stays so in each call of a lane that came, holds of each lane
abbrev pub IsKept : (List Call → Lane → Type 0) → Type 0
IsKept P = (call : Call) (calls : List Call) (x y : Lane) → came_in x.wire (answers_of (call ∷ calls)) ≡ true → P calls x → Moves call x y → P (call ∷ calls) y

abbrev pub IsOfNew : (List Call → Lane → Type 0) → Type 0
IsOfNew P = (calls : List Call) (now wire : ℕ) → IsUntouched wire calls → P calls (new_lane now wire)

pub each-come : (P : List Call → Lane → Type 0) → IsOfNew P → IsKept P → (calls : List Call) (bound : ℕ) (now : DoorState) → Session calls bound now → (y : Lane) → Has now.lanes y → P calls y
each-come P new step [] bound now h y has = absurd (subst (λ (d : DoorState). Has d.lanes y) h has)
each-come P new step (call ∷ calls) bound now h y has =
    let all = steps-in call calls bound now h in
    let p = all.back y has in
    step call calls p.0 y (come-of call calls h.1.lanes p.0 (λ k. come calls h.0 h.1 h.2 p.0 k) (all.came p.0 p.1))
    (before-of P new calls h.0 p.0 h.1.lanes (λ k. each-come P new step calls h.0 h.1 h.2 p.0 k) (λ wire le. untouched calls h.0 h.1 wire h.2 le) (all.were p.0 p.1)) p.2

-- it held of each lane that moved in the latest call, before that call
pub before-come : (P : List Call → Lane → Type 0) → IsOfNew P → IsKept P → (call : Call) (calls : List Call) (bound : ℕ) (now : DoorState) (h : Session (call ∷ calls) bound now) (x : Lane) →
    Has (steps-in call calls bound now h).lanes x → P calls x
before-come P new step call calls bound now h x has =
    before-of P new calls h.0 x h.1.lanes (λ k. each-come P new step calls h.0 h.1 h.2 x k) (λ wire le. untouched calls h.0 h.1 wire h.2 le) ((steps-in call calls bound now h).were x has)

-- the same of what stays so in each call of any lane
pub each-lane : (P : List Call → Lane → Type 0) → IsOfNew P → ((call : Call) (calls : List Call) (x y : Lane) → P calls x → Moves call x y → P (call ∷ calls) y) →
    (calls : List Call) (bound : ℕ) (now : DoorState) → Session calls bound now → (y : Lane) → Has now.lanes y → P calls y
each-lane P new step = each-come P new (λ call calls x y came k m. step call calls x y k m)

pub each-before : (P : List Call → Lane → Type 0) → IsOfNew P → ((call : Call) (calls : List Call) (x y : Lane) → P calls x → Moves call x y → P (call ∷ calls) y) →
    (call : Call) (calls : List Call) (bound : ℕ) (now : DoorState) (h : Session (call ∷ calls) bound now) (x : Lane) → Has (steps-in call calls bound now h).lanes x → P calls x
each-before P new step = before-come P new (λ call calls x y came k m. step call calls x y k m)

-- each lane that moves in a call came
pub mover-came : (call : Call) (calls : List Call) (bound : ℕ) (now : DoorState) (h : Session (call ∷ calls) bound now) (x : Lane) → Has (steps-in call calls bound now h).lanes x →
    came_in x.wire (answers_of (call ∷ calls)) ≡ true
mover-came call calls bound now h x has =
    come-of call calls h.1.lanes x (λ k. come calls h.0 h.1 h.2 x k) ((steps-in call calls bound now h).came x has)

-- a list of lanes has one of the number, or not
pub find : (wire : ℕ) (lanes : List Lane) → Without wire lanes ⊎ ((x : Lane) × Has lanes x × (x.wire ≡ wire))
find wire [] = inl (λ x has. absurd has)
find wire (lane ∷ lanes) = go (lane.wire == wire) refl (find wire lanes) where
  go : (b : Bool) → (lane.wire == wire) ≡ b → Without wire lanes ⊎ ((x : Lane) × Has lanes x × (x.wire ≡ wire)) → Without wire (lane ∷ lanes) ⊎ ((x : Lane) × Has (lane ∷ lanes) x × (x.wire ≡ wire))
  go true e again = inr (lane, inl refl, equal lane.wire wire e)
  go false e (inl none) = inl (λ x has. one x has) where
    one : (x : Lane) → (lane ≡ x) ⊎ Has lanes x → (x.wire == wire) ≡ false
    one x (inl f) = subst (λ (l : Lane). (l.wire == wire) ≡ false) f e
    one x (inr k) = none x k
  go false e (inr k) = inr (k.0, inr k.1, k.2)

pub off-and-on : (b : Bool) → b ≡ false → b ≡ true → ⊥
off-and-on b e f = absurd (cc (sym e ∙ f))

-- what is heard on a lane is so of one that moved
pub mover : (what : Heard) (answers : List Answer) (calls : List Call) (bound : ℕ) (now : DoorState) (h : Session (heard what answers ∷ calls) bound now) (wire : ℕ) → is_on wire what.event ≡ true →
    (x : Lane) × (y : Lane) × Has (steps-in (heard what answers) calls bound now h).lanes x × Has now.lanes y × (x.wire ≡ wire) × Moves (heard what answers) x y
mover what answers calls bound now h wire e = go (find wire step.lanes) where
  step : Steps (heard what answers) h.0 bound h.1 now
  step = steps-in (heard what answers) calls bound now h

  go : Without wire step.lanes ⊎ ((x : Lane) × Has step.lanes x × (x.wire ≡ wire)) →
      (x : Lane) × (y : Lane) × Has step.lanes x × Has now.lanes y × (x.wire ≡ wire) × Moves (heard what answers) x y
  go (inl none) = absurd (off-and-on (is_on wire what.event) (step.off wire none).1 e)
  go (inr found) = let p = step.on found.0 found.1 in (found.0, p.0, found.1, p.1, found.2, p.2)
