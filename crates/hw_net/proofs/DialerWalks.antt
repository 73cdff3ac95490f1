-- What holds of each lane in all sessions of a dialer: it holds of each that was dialed, and each call keeps it.
use Rattle.std.proofs.Common.{◌≡◌, ◌⊎◌, ◌≤◌, ◌+◌, ◌==◌, ◌++◌, ◌∷◌, [], ℕ, Bool, true, false, List, Option, None, Some, refl, sym, ap, ◌∙◌, subst, inl, inr, arith, append-nil, if◌then◌else◌, length, option_map, slice_get, unwrap_or}
use Rattle.std.proofs.lemmas.List.{map-append}
use Rattle.hw_door.specs.declared.heard.Address.{Address}
use Rattle.hw_door.specs.declared.heard.Heard.{Heard}
use Rattle.hw_door.specs.declared.heard.Upgrade.{Upgrade}
use Rattle.hw_door.specs.Traffic.{Answer, IsNewWire, accepted, connect_failed, polled, was_shut}
use Rattle.hw_net.specs.Asking.{text_at}
use Rattle.hw_net.specs.Dialer.{DialerState, Dials, IsCutShort, IsUndialed, Reaches, after_dial, cleared, with_dialed}
use Rattle.hw_net.specs.DialerSessions.{DialerAsk, DialerCall, DialerSession, DoesDialed, DoesOnLane, HearsOnWires, all_on_wires, answers_in, asked, cut, does, idle, is_cut, missed, on_wires, text_of}
use Rattle.hw_net.specs.Door.{DoorState, HearsNext, kept, time_to_wait}
use Rattle.hw_net.specs.Lane.{Lane, dialed_lane, wires_of}
use Rattle.hw_net.specs.Rising.{IsRising}
use Rattle.hw_net.specs.Saying.{WritesIfLive, is_gathered, is_too_much}
use Rattle.hw_net.specs.Sessions as session
use Rattle.hw_net.specs.Sessions.{Call}
use Rattle.hw_net.specs.Trace.{Chooses}
use Rattle.hw_net.specs.Turn.{AtLane}
use Rattle.hw_net.proofs.Bystanders.{SaysOrStays}
use Rattle.hw_net.proofs.Moves.{Has, Without, has-kept, has-part, hears-wires, rising-within, rising-without}
use Rattle.hw_net.proofs.Numbering.{come-rise, higher, kept-rise}
use Rattle.hw_net.proofs.Owning.{is_on}
use Rattle.hw_net.proofs.Shares.{share}
use Rattle.hw_net.proofs.Walks.{IsElsewhere, IsUntouched, Moves, Steps, find, off-and-on, steps, untouched-more}

-- the lane is that of the wire that was dialed in this call
abbrev pub IsDialed : List Address → DialerCall → ℕ → Lane → Type 0
IsDialed addresses (asked ask (Some wire) answers) bound lane =
    (now : ℕ) × (lane ≡ dialed_lane now wire (text_of addresses ask) ask.upgrade) × (bound ≤ wire) × (is_too_much (length (text_of addresses ask)) ≡ false)
IsDialed addresses _ bound lane = ⊥

-- What a call does: these are the lanes that move in it, as in a door's call on the wires.
pub record Strides (addresses : List Address) (call : DialerCall) (bound bound_after : ℕ) (before after : DoorState) : Type 0 where
  pub lanes : List Lane
  pub were : (x : Lane) → Has lanes x → Has before.lanes x ⊎ IsDialed addresses call bound x
  pub rise : IsRising 0 bound_after (wires_of lanes)
  pub risen : IsRising 0 bound_after (wires_of after.lanes)
  pub bounds : bound ≤ bound_after
  pub back : (y : Lane) → Has after.lanes y → (x : Lane) × Has lanes x × Moves (on_wires call) x y
  pub on : (x : Lane) → Has lanes x → (y : Lane) × Has after.lanes y × Moves (on_wires call) x y
  pub off : (wire : ℕ) → Without wire lanes → is_cut call ≡ false → (share wire (answers_in call) ≡ []) × IsElsewhere wire (on_wires call)
  pub past : (wire : ℕ) → bound_after ≤ wire → (share wire (answers_in call) ≡ []) × IsElsewhere wire (on_wires call)

-- ---- calls that a door has too

-- a step of a door, but for the lanes that came, of which it had none
of-steps : (addresses : List Address) (lane : ℕ) (call : Call) (bound : ℕ) (before after : DoorState) → (s : Steps call bound bound before after) → ((x : Lane) → Has s.lanes x → Has before.lanes x) →
    Strides addresses (does lane call) bound bound before after
of-steps addresses lane call bound before after s were = record {
  lanes = s.lanes;
  were = λ x has. inl (were x has);
  rise = s.rise;
  risen = s.risen;
  bounds = s.bounds;
  back = s.back;
  on = s.on;
  off = λ wire without e. s.off wire without;
  past = λ wire le. s.off wire (rising-without 0 bound s.lanes wire s.rise le);
}

-- in one call no lane comes
none-came : (bound : ℕ) (call : Call) (before after : DoorState) (s : Steps call bound bound before after) (x : Lane) → Has s.lanes x → Has before.lanes x
none-came bound call before after s x has = go (s.were x has) where
  go : Has before.lanes x ⊎ Rattle.hw_net.proofs.Walks.IsNew bound x → Has before.lanes x
  go (inl k) = k
  go (inr k) = absurd (late k.1 (subst (λ (l : Lane). l.wire + 1 ≤ bound) k.2 (rising-within 0 bound s.lanes x s.rise has).1) k.3) where
    late : (wire : ℕ) → wire + 1 ≤ bound → bound ≤ wire → ⊥
    late wire a b = omega (arith, a, b)

-- one `next` on the wires is one of a door at which nobody came
heard-steps : (addresses : List Address) (lane : ℕ) (what : Heard) (answers : List Answer) (bound : ℕ) (before after : DoorState) → IsRising 0 bound (wires_of before.lanes) → HearsOnWires before after answers what →
    Strides addresses (does lane (session.heard what answers)) bound bound before after
heard-steps addresses lane what answers bound before after rise h =
    let t = h.6 in
    let turned = h.3 in
    let told = polled (time_to_wait h.0 (kept before.lanes)) h.1 ∷ accepted None ∷ h.2 in
    let next : HearsNext h.0 before (record turned { moment = what.now }) told what = record {
      now = h.1;
      wire = None;
      turns = h.2;
      begin = t.1;
      trace = t.0;
      all = refl;
      moment = h.5;
      begins = t.2;
      hears = t.3;
      event_is = t.4;
      from = t.5;
      later = refl;
    } in
    let same : wires_of turned.lanes ≡ wires_of (kept before.lanes) ++ [] = hears-wires what.now t.1 (kept before.lanes) turned.lanes h.2 t.0 t.3 ∙ sym (append-nil (wires_of (kept before.lanes))) in
    let s = steps (session.heard what told) bound bound before (record turned { moment = what.now }) (h.0, next, (None, same, least bound)) rise in
    subst (λ (d : DoorState). Strides addresses (does lane (session.heard what answers)) bound bound before d) (sym h.7)
    (subst (λ (l : List Answer). Strides addresses (does lane (session.heard what l)) bound bound before (record turned { moment = what.now })) (sym h.4) (record {
      lanes = s.lanes;
      were = λ x has. inl (none-came bound (session.heard what told) before (record turned { moment = what.now }) s x has);
      rise = s.rise;
      risen = s.risen;
      bounds = s.bounds;
      back = s.back;
      on = s.on;
      off = λ wire without e. s.off wire without;
      past = λ wire le. s.off wire (rising-without 0 bound s.lanes wire s.rise le);
    })) where
      least : (n : ℕ) → n ≤ n
      least n = omega arith

-- ---- calls in which no lane does anything

-- these lanes stay, and what the wires answered is about none of them
stay : (addresses : List Address) (call : DialerCall) (wire : ℕ) (answers : List Answer) (bound bound_after : ℕ) (before after : DoorState) → on_wires call ≡ session.wrote wire answers →
    ((x : Lane) → Has after.lanes x → Has before.lanes x) → IsRising 0 bound (wires_of after.lanes) → bound ≤ bound_after →
    ((w : ℕ) → w + 1 ≤ bound → share w answers ≡ []) → (is_cut call ≡ false → (w : ℕ) → share w answers ≡ []) → ((w : ℕ) → bound_after ≤ w → share w answers ≡ []) →
    Strides addresses call bound bound_after before after
stay addresses call wire answers bound bound_after before after is were rise le low quiet high = record {
  lanes = after.lanes;
  were = λ x has. inl (were x has);
  rise = higher 0 bound bound_after (wires_of after.lanes) le rise;
  risen = higher 0 bound bound_after (wires_of after.lanes) le rise;
  bounds = le;
  back = λ y has. (y, has, moved y has);
  on = λ x has. (x, has, moved x has);
  off = λ w without e. elsewhere w (quiet e w);
  past = λ w late. elsewhere w (high w late);
} where
  moved : (x : Lane) → Has after.lanes x → Moves (on_wires call) x x
  moved x has = subst (λ (c : Call). Moves c x x) (sym is) (inr (refl, low x.wire (rising-within 0 bound after.lanes x rise has).1))

  elsewhere : (w : ℕ) → share w answers ≡ [] → (share w (answers_in call) ≡ []) × IsElsewhere w (on_wires call)
  elsewhere w e = (ap (λ (c : Call). share w (session.answers_in c)) is ∙ e, subst (λ (c : Call). IsElsewhere w c) (sym is) tt)

cut-low : (bound bound_after : ℕ) (answers : List Answer) → IsCutShort bound bound_after answers → (w : ℕ) → w + 1 ≤ bound → share w answers ≡ []
cut-low bound bound_after answers (inl h) w le = ap (λ l. share w l) h.0
cut-low bound bound_after answers (inr h) w le = ap (λ l. share w l) h.1 ∙ ap (λ b. if b then was_shut h.0 ∷ [] else []) (other h.0 h.2.0) where
  other : (wire : ℕ) → bound ≤ wire → (wire == w) ≡ false
  other wire k = grind (arith, le, k)

cut-high : (bound bound_after : ℕ) (answers : List Answer) → IsCutShort bound bound_after answers → (w : ℕ) → bound_after ≤ w → share w answers ≡ []
cut-high bound bound_after answers (inl h) w le = ap (λ l. share w l) h.0
cut-high bound bound_after answers (inr h) w le = ap (λ l. share w l) h.1 ∙ ap (λ b. if b then was_shut h.0 ∷ [] else []) (other h.0 h.2.1) where
  other : (wire : ℕ) → wire + 1 ≤ bound_after → (wire == w) ≡ false
  other wire k = grind (arith, le, k)

cut-rises : (bound bound_after : ℕ) (answers : List Answer) → IsCutShort bound bound_after answers → bound ≤ bound_after
cut-rises bound bound_after answers (inl h) = omega (arith, h.1)
cut-rises bound bound_after answers (inr h) = omega (arith, h.2.0, h.2.1)

-- ---- asks

text-there : (addresses : List Address) (ask : DialerAsk) (address : Address) → slice_get addresses ask.place ≡ Some address → text_of addresses ask ≡ text_at address ask.method ask.target ask.upgrade
text-there addresses ask address e = ap (λ (o : Option Address). unwrap_or (option_map (λ a. text_at a ask.method ask.target ask.upgrade) o) []) e

-- an ask that goes nowhere
nowhere : (addresses : List Address) (ask : DialerAsk) (answers : List Answer) (bound bound_after : ℕ) (before after : DoorState) → IsRising 0 bound (wires_of before.lanes) → after ≡ before → bound_after ≡ bound →
    ((w : ℕ) → share w answers ≡ []) → Strides addresses (asked ask None answers) bound bound_after before after
nowhere addresses ask answers bound bound_after before after rise e same quiet =
    stay addresses (asked ask None answers) 0 answers bound bound_after before after refl (λ x has. subst (λ (d : DoorState). Has d.lanes x) e has)
    (subst (λ (d : DoorState). IsRising 0 bound (wires_of d.lanes)) (sym e) rise) (omega (arith, same)) (λ w le. quiet w) (λ c w. quiet w) (λ w le. quiet w)

-- an ask that stands on a wire: its lane comes after the others, and may write
on-wire : (addresses : List Address) (ask : DialerAsk) (text : List ℕ) (wire : ℕ) (answers : List Answer) (bound bound_after : ℕ) (before after : DoorState) → text_of addresses ask ≡ text → is_too_much (length text) ≡ false →
    IsRising 0 bound (wires_of before.lanes) → IsNewWire bound bound_after (Some wire) → Dials text ask.upgrade (Some wire) before after answers → Strides addresses (asked ask (Some wire) answers) bound bound_after before after
on-wire addresses ask text wire answers bound bound_after before after is little rise fresh h = go (is_gathered (length text)) h.2 where
  lanes : List Lane
  lanes = with_dialed before.moment text ask.upgrade (Some wire) before.lanes

  risen : IsRising 0 bound_after (wires_of lanes)
  risen = subst (λ l. IsRising 0 bound_after l) (sym (map-append (λ (l : Lane). l.wire) before.lanes (dialed_lane before.moment wire text ask.upgrade ∷ [])))
      (come-rise 0 bound bound_after wire (wires_of before.lanes) fresh.0 fresh.1 rise)

  shares : (w : ℕ) → share w answers ≡ share w h.0
  shares w = ap (λ l. share w l) h.1

  were : (x : Lane) → Has lanes x → Has before.lanes x ⊎ IsDialed addresses (asked ask (Some wire) answers) bound x
  were x has = one (has-part before.lanes (dialed_lane before.moment wire text ask.upgrade ∷ []) x has) where
    one : Has before.lanes x ⊎ Has (dialed_lane before.moment wire text ask.upgrade ∷ []) x → Has before.lanes x ⊎ IsDialed addresses (asked ask (Some wire) answers) bound x
    one (inl k) = inl k
    one (inr (inl e)) = inr (before.moment, sym e ∙ ap (λ t. dialed_lane before.moment wire t ask.upgrade) (sym is), fresh.0, ap (λ t. is_too_much (length t)) is ∙ little)
    one (inr (inr k)) = absurd k

  moves : (x y : Lane) → SaysOrStays 0 x y (share x.wire h.0) → Moves (on_wires (asked ask (Some wire) answers)) x y
  moves x y m = subst (λ (l : List Answer). SaysOrStays 0 x y l) (sym (shares x.wire)) m

  still : after.lanes ≡ lanes → h.0 ≡ [] → Strides addresses (asked ask (Some wire) answers) bound bound_after before after
  still e none = record {
    lanes = lanes;
    were = were;
    rise = risen;
    risen = subst (λ (l : List Lane). IsRising 0 bound_after (wires_of l)) (sym e) risen;
    bounds = omega (arith, fresh.0, fresh.1);
    back = λ y has. (y, subst (λ (l : List Lane). Has l y) e has, moves y y (inr (refl, ap (λ l. share y.wire l) none)));
    on = λ x has. (x, subst (λ (l : List Lane). Has l x) (sym e) has, moves x x (inr (refl, ap (λ l. share x.wire l) none)));
    off = λ w without c. (shares w ∙ ap (λ l. share w l) none, tt);
    past = λ w le. (shares w ∙ ap (λ l. share w l) none, tt);
  }

  wrote : AtLane wire WritesIfLive lanes after.lanes h.0 → Strides addresses (asked ask (Some wire) answers) bound bound_after before after
  wrote k =
      let first : DoorState = record before { lanes = lanes } in
      let last : DoorState = record before { lanes = after.lanes } in
      let s = steps (session.wrote wire h.0) bound_after bound_after first last ((k, refl, refl, refl), refl) risen in record {
        lanes = s.lanes;
        were = λ x has. were x (none-came bound_after (session.wrote wire h.0) first last s x has);
        rise = s.rise;
        risen = s.risen;
        bounds = omega (arith, fresh.0, fresh.1);
        back = λ y has. let p = s.back y has in (p.0, p.1, moves p.0 y p.2);
        on = λ x has. let p = s.on x has in (p.0, p.1, moves x p.0 p.2);
        off = λ w without c. (shares w ∙ (s.off w without).0, tt);
        past = λ w le. (shares w ∙ (s.off w (rising-without 0 bound_after s.lanes w s.rise le)).0, tt);
      }

  go : (b : Bool) → Chooses b ((after.lanes ≡ lanes) × (h.0 ≡ [])) (AtLane wire WritesIfLive lanes after.lanes h.0) → Strides addresses (asked ask (Some wire) answers) bound bound_after before after
  go true k = still k.0 k.1
  go false k = wrote k

asks : (addresses : List Address) (ask : DialerAsk) (wire : Option ℕ) (answers : List Answer) (bound bound_after : ℕ) (before after : DoorState) → IsRising 0 bound (wires_of before.lanes) →
    Reaches (slice_get addresses ask.place) ask.method ask.target ask.upgrade wire before after answers → IsNewWire bound bound_after wire → Strides addresses (asked ask wire answers) bound bound_after before after
asks addresses ask wire answers bound bound_after before after rise r fresh = go (slice_get addresses ask.place) refl r where
  undialed : IsUndialed wire before after answers → Strides addresses (asked ask wire answers) bound bound_after before after
  undialed u = subst (λ (o : Option ℕ). Strides addresses (asked ask o answers) bound bound_after before after) (sym u.0)
      (nowhere addresses ask answers bound bound_after before after rise u.1 (subst (λ (o : Option ℕ). IsNewWire bound bound_after o) u.0 fresh) (λ w. ap (λ l. share w l) u.2))

  dials : (address : Address) → slice_get addresses ask.place ≡ Some address → is_too_much (length (text_at address ask.method ask.target ask.upgrade)) ≡ false → (o : Option ℕ) → IsNewWire bound bound_after o → Dials (text_at address ask.method ask.target ask.upgrade) ask.upgrade o before after answers →
      Strides addresses (asked ask o answers) bound bound_after before after
  dials address e little None same d =
      nowhere addresses ask answers bound bound_after before after rise (d.3 ∙ ap (λ (l : List Lane). record before { lanes = l }) d.2.0) same (λ w. ap (λ l. share w l) (d.1 ∙ ap (λ l. connect_failed ∷ l) d.2.1))
  dials address e little (Some w) fresh d =
      on-wire addresses ask (text_at address ask.method ask.target ask.upgrade) w answers bound bound_after before after (text-there addresses ask address e) little rise fresh d

  go : (o : Option Address) → slice_get addresses ask.place ≡ o → Reaches o ask.method ask.target ask.upgrade wire before after answers → Strides addresses (asked ask wire answers) bound bound_after before after
  go None e u = undialed u
  go (Some address) e k = by (is_too_much (length (text_at address ask.method ask.target ask.upgrade))) refl k where
    by : (b : Bool) → is_too_much (length (text_at address ask.method ask.target ask.upgrade)) ≡ b → Chooses b (IsUndialed wire before after answers) (Dials (text_at address ask.method ask.target ask.upgrade) ask.upgrade wire before after answers) →
        Strides addresses (asked ask wire answers) bound bound_after before after
    by true f u = undialed u
    by false f d = dials address e f wire fresh d

-- ---- all calls

abbrev door-of : DialerState → DoorState
door-of state = state.door

on-lane : (addresses : List Address) (lane : ℕ) (call : Call) (bound : ℕ) (before after : DialerState) → DoesOnLane lane call before after → IsRising 0 bound (wires_of before.door.lanes) →
    Strides addresses (does lane call) bound bound before.door after.door
on-lane addresses lane (session.heard what answers) bound before after d rise = heard-steps addresses lane what answers bound before.door after.door rise d.2
on-lane addresses lane (session.sent wire bytes text full answers) bound before after d rise = went (steps (session.sent wire bytes text full answers) bound bound before.door after.door (d.1, d.2, refl) rise) where
  went : Steps (session.sent wire bytes text full answers) bound bound before.door after.door → Strides addresses (does lane (session.sent wire bytes text full answers)) bound bound before.door after.door
  went s = of-steps addresses lane (session.sent wire bytes text full answers) bound before.door after.door s (none-came bound (session.sent wire bytes text full answers) before.door after.door s)
on-lane addresses lane (session.shut wire answers) bound before after d rise = went (steps (session.shut wire answers) bound bound before.door after.door (d.1, refl) rise) where
  went : Steps (session.shut wire answers) bound bound before.door after.door → Strides addresses (does lane (session.shut wire answers)) bound bound before.door after.door
  went s = of-steps addresses lane (session.shut wire answers) bound before.door after.door s (none-came bound (session.shut wire answers) before.door after.door s)
on-lane addresses lane (session.wrote wire answers) bound before after d rise = went (steps (session.wrote wire answers) bound bound before.door after.door (d.0, refl) rise) where
  went : Steps (session.wrote wire answers) bound bound before.door after.door → Strides addresses (does lane (session.wrote wire answers)) bound bound before.door after.door
  went s = of-steps addresses lane (session.wrote wire answers) bound before.door after.door s (none-came bound (session.wrote wire answers) before.door after.door s)
on-lane addresses lane (session.replied wire reply answers) bound before after d rise = absurd d

dialed-door : (wire : Option ℕ) (state : DialerState) → (after_dial wire state).door ≡ state.door
dialed-door None state = refl
dialed-door (Some wire) state = refl

pub strides : (addresses : List Address) (call : DialerCall) (bound bound_after : ℕ) (before after : DialerState) → DoesDialed addresses call bound bound_after before after → IsRising 0 bound (wires_of before.door.lanes) →
    Strides addresses call bound bound_after before.door after.door
strides addresses (does lane call) bound bound_after before after d rise =
    subst (λ n. Strides addresses (does lane call) bound n before.door after.door) (sym d.1) (on-lane addresses lane call bound before after d.0 rise)
strides addresses (asked ask wire answers) bound bound_after before after d rise = asks addresses ask wire answers bound bound_after before.door after.door rise d.1 d.2
strides addresses (missed now lane answers) bound bound_after before after d rise =
    let same : after.door ≡ record (cleared before).door { moment = now } = ap door-of d.6 in
    stay addresses (missed now lane answers) 0 answers bound bound_after before.door after.door refl
    (λ x has. has-kept before.door.lanes x (subst (λ (d : DoorState). Has d.lanes x) same has))
    (subst (λ (d : DoorState). IsRising 0 bound (wires_of d.lanes)) (sym same) (kept-rise 0 bound before.door.lanes rise)) (omega (arith, d.7))
    (λ w le. ap (λ l. share w l) d.4) (λ c w. ap (λ l. share w l) d.4) (λ w le. ap (λ l. share w l) d.4)
strides addresses (idle told) bound bound_after before after d rise =
    stay addresses (idle told) 0 [] bound bound_after before.door after.door refl (λ x has. subst (λ (s : DialerState). Has s.door.lanes x) d.1 has)
    (subst (λ (s : DialerState). IsRising 0 bound (wires_of s.door.lanes)) (sym d.1) rise) (omega (arith, d.2)) (λ w le. refl) (λ c w. refl) (λ w le. refl)
strides addresses (cut answers) bound bound_after before after d rise =
    stay addresses (cut answers) 0 answers bound bound_after before.door after.door refl (λ x has. subst (λ (s : DialerState). Has s.door.lanes x) d.1 has)
    (subst (λ (s : DialerState). IsRising 0 bound (wires_of s.door.lanes)) (sym d.1) rise) (cut-rises bound bound_after answers d.0)
    (cut-low bound bound_after answers d.0) (λ c w. absurd (cc c)) (cut-high bound bound_after answers d.0)

pub rises-dialed : (addresses : List Address) (calls : List DialerCall) (bound : ℕ) (now : DialerState) → DialerSession addresses calls bound now → IsRising 0 bound (wires_of now.door.lanes)
rises-dialed addresses [] bound now h = subst (λ (d : DialerState). IsRising 0 bound (wires_of d.door.lanes)) (sym h) (omega arith)
rises-dialed addresses (call ∷ calls) bound now h = (strides addresses call h.0 bound h.1 now h.3 (rises-dialed addresses calls h.0 h.1 h.2)).risen

pub strides-in : (addresses : List Address) (call : DialerCall) (calls : List DialerCall) (bound : ℕ) (now : DialerState) (h : DialerSession addresses (call ∷ calls) bound now) → Strides addresses call h.0 bound h.1.door now.door
strides-in addresses call calls bound now h = strides addresses call h.0 bound h.1 now h.3 (rises-dialed addresses calls h.0 h.1 h.2)

-- on a wire that hasn't come nothing was done
pub untouched-dialed : (addresses : List Address) (calls : List DialerCall) (bound : ℕ) (now : DialerState) (wire : ℕ) → DialerSession addresses calls bound now → bound ≤ wire → IsUntouched wire (all_on_wires calls)
untouched-dialed addresses [] bound now wire h le = record { answers = refl; requests = refl; messages = refl; replies = refl; owed = refl; full = refl; answered = refl; idle = refl; unsent = refl }
untouched-dialed addresses (call ∷ calls) bound now wire h le =
    let step = strides-in addresses call calls bound now h in
    let off = step.past wire le in
    untouched-more wire (on_wires call) (all_on_wires calls) off.0 off.1 (untouched-dialed addresses calls h.0 h.1 wire h.2 (omega (arith, step.bounds, le)))

-- ---- all lanes

-- the call asks nothing on this wire
abbrev pub IsOther : DialerCall → ℕ → Type 0
IsOther (asked ask (Some at) answers) wire = (at == wire) ≡ false
IsOther _ wire = Unit {0}

-- what holds of each lane that was dialed, once it wrote what it did in that call
abbrev pub IsOfDialed : List Address → (List DialerCall → Lane → Type 0) → Type 0
IsOfDialed addresses P =
    (ask : DialerAsk) (wire : ℕ) (answers : List Answer) (calls : List DialerCall) (now : ℕ) (y : Lane) → IsUntouched wire (all_on_wires calls) → is_too_much (length (text_of addresses ask)) ≡ false →
    SaysOrStays 0 (dialed_lane now wire (text_of addresses ask) ask.upgrade) y (share wire answers) → P (asked ask (Some wire) answers ∷ calls) y

-- and stays so in each call
abbrev pub IsKeptDialed : (List DialerCall → Lane → Type 0) → Type 0
IsKeptDialed P = (call : DialerCall) (calls : List DialerCall) (x y : Lane) → IsOther call x.wire → P calls x → Moves (on_wires call) x y → P (call ∷ calls) y

is-other : (call : DialerCall) (addresses : List Address) (bound bound_after : ℕ) (before after : DialerState) (x : Lane) → DoesDialed addresses call bound bound_after before after → x.wire + 1 ≤ bound → IsOther call x.wire
is-other (does lane call) addresses bound bound_after before after x d le = tt
is-other (asked ask None answers) addresses bound bound_after before after x d le = tt
is-other (asked ask (Some at) answers) addresses bound bound_after before after x d le = go d.2.0 where
  go : bound ≤ at → (at == x.wire) ≡ false
  go k = grind (arith, le, k)
is-other (missed now lane answers) addresses bound bound_after before after x d le = tt
is-other (idle told) addresses bound bound_after before after x d le = tt
is-other (cut answers) addresses bound bound_after before after x d le = tt

-- holds of what a lane becomes in a call, of which it held before, or which was dialed in it
becomes : (addresses : List Address) (P : List DialerCall → Lane → Type 0) → IsOfDialed addresses P → IsKeptDialed P → (call : DialerCall) (calls : List DialerCall) (bound : ℕ) (before : DoorState) (x y : Lane) →
    ((wire : ℕ) → bound ≤ wire → IsUntouched wire (all_on_wires calls)) → (Has before.lanes x → P calls x × IsOther call x.wire) → Has before.lanes x ⊎ IsDialed addresses call bound x → Moves (on_wires call) x y → P (call ∷ calls) y
becomes addresses P new step call calls bound before x y fresh held (inl k) m = let p = held k in step call calls x y p.1 p.0 m
becomes addresses P new step (asked ask (Some wire) answers) calls bound before x y fresh held (inr d) m =
    new ask wire answers calls d.0 y (fresh wire d.2) d.3 (subst (λ (l : Lane). SaysOrStays 0 l y (share l.wire answers)) d.1 m)
becomes addresses P new step _ calls bound before x y fresh held (inr d) m = absurd d

pub each-dialed : (addresses : List Address) (P : List DialerCall → Lane → Type 0) → IsOfDialed addresses P → IsKeptDialed P → (calls : List DialerCall) (bound : ℕ) (now : DialerState) → DialerSession addresses calls bound now →
    (y : Lane) → Has now.door.lanes y → P calls y
each-dialed addresses P new step [] bound now h y has = absurd (subst (λ (d : DialerState). Has d.door.lanes y) h has)
each-dialed addresses P new step (call ∷ calls) bound now h y has =
    let all = strides-in addresses call calls bound now h in
    let p = all.back y has in
    becomes addresses P new step call calls h.0 h.1.door p.0 y (λ wire le. untouched-dialed addresses calls h.0 h.1 wire h.2 le)
    (λ k. (each-dialed addresses P new step calls h.0 h.1 h.2 p.0 k, is-other call addresses h.0 bound h.1 now p.0 h.3 (rising-within 0 h.0 h.1.door.lanes p.0 (rises-dialed addresses calls h.0 h.1 h.2) k).1))
    (all.were p.0 p.1) p.2

-- what is heard on a wire is so of a lane that was there
pub dialed-mover : (addresses : List Address) (lane : ℕ) (what : Heard) (answers : List Answer) (calls : List DialerCall) (bound : ℕ) (now : DialerState) (h : DialerSession addresses (does lane (session.heard what answers) ∷ calls) bound now)
    (wire : ℕ) → is_on wire what.event ≡ true → (x : Lane) × (y : Lane) × Has h.1.door.lanes x × Has now.door.lanes y × (x.wire ≡ wire) × Moves (session.heard what answers) x y
dialed-mover addresses lane what answers calls bound now h wire e = go (find wire step.lanes) where
  step : Strides addresses (does lane (session.heard what answers)) h.0 bound h.1.door now.door
  step = strides-in addresses (does lane (session.heard what answers)) calls bound now h

  was : (x : Lane) → Has h.1.door.lanes x ⊎ ⊥ → Has h.1.door.lanes x
  was x (inl k) = k
  was x (inr k) = absurd k

  go : Without wire step.lanes ⊎ ((x : Lane) × Has step.lanes x × (x.wire ≡ wire)) →
      (x : Lane) × (y : Lane) × Has h.1.door.lanes x × Has now.door.lanes y × (x.wire ≡ wire) × Moves (session.heard what answers) x y
  go (inl none) = absurd (off-and-on (is_on wire what.event) (step.off wire none refl).1 e)
  go (inr found) = let p = step.on found.0 found.1 in (found.0, p.0, was found.0 (step.were found.0 found.1), p.1, found.2, p.2)

-- the same of what a door's calls tell
abbrev pub IsOfDialedOnWires : (List Call → Lane → Type 0) → Type 0
IsOfDialedOnWires Q = (calls : List Call) (now wire : ℕ) (text : List ℕ) (upgrade : Option Upgrade) → IsUntouched wire calls → Q calls (dialed_lane now wire text upgrade)

abbrev pub IsKeptOnWires : (List Call → Lane → Type 0) → Type 0
IsKeptOnWires Q = (call : Call) (calls : List Call) (x y : Lane) → Q calls x → Moves call x y → Q (call ∷ calls) y

pub each-on-wires : (addresses : List Address) (Q : List Call → Lane → Type 0) → IsOfDialedOnWires Q → IsKeptOnWires Q → (calls : List DialerCall) (bound : ℕ) (now : DialerState) → DialerSession addresses calls bound now →
    (y : Lane) → Has now.door.lanes y → Q (all_on_wires calls) y
each-on-wires addresses Q new step = each-dialed addresses (λ calls (l : Lane). Q (all_on_wires calls) l)
    (λ ask wire answers calls now y fresh little m. step (session.wrote wire answers) (all_on_wires calls) (dialed_lane now wire (text_of addresses ask) ask.upgrade) y
    (new (all_on_wires calls) now wire (text_of addresses ask) ask.upgrade fresh) m)
    (λ call calls x y other k m. step (on_wires call) (all_on_wires calls) x y k m)

-- it held of each lane that moved in the latest call, before that call
pub before-on-wires : (addresses : List Address) (Q : List Call → Lane → Type 0) → IsOfDialedOnWires Q → IsKeptOnWires Q → (call : DialerCall) (calls : List DialerCall) (bound : ℕ) (now : DialerState) →
    (h : DialerSession addresses (call ∷ calls) bound now) (x : Lane) → Has (strides-in addresses call calls bound now h).lanes x → Q (all_on_wires calls) x
before-on-wires addresses Q new step call calls bound now h x has = go call ((strides-in addresses call calls bound now h).were x has) where
  go : (c : DialerCall) → Has h.1.door.lanes x ⊎ IsDialed addresses c h.0 x → Q (all_on_wires calls) x
  go c (inl k) = each-on-wires addresses Q new step calls h.0 h.1 h.2 x k
  go (asked ask (Some wire) answers) (inr d) =
      subst (λ (l : Lane). Q (all_on_wires calls) l) (sym d.1) (new (all_on_wires calls) d.0 wire (text_of addresses ask) ask.upgrade (untouched-dialed addresses calls h.0 h.1 wire h.2 d.2))
  go _ (inr d) = absurd d
