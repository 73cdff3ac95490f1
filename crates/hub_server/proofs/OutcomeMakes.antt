-- One more connection, of which only its note is there yet.
use Rattle.std.proofs.Common.{◌≡◌, ℕ, suc, Bool, true, false, List, [], ◌∷◌, ◌++◌, Option, Some, None, is_some, refl, sym, ap, subst, ◌∙◌, arith}
use Rattle.std.specs.Prelude.{◌==◌, not, nat_le, nat_lt, ◌&&◌, ◌||◌, if◌then◌else◌, length, take}
use Rattle.std.proofs.Common.{Result, Ok, Err, OnErr}
use Rattle.std.specs.Ordering.{nat_cmp}
use Rattle.std.specs.BTreeMap.{BTreeMap, get}
use Rattle.std.proofs.lemmas.Bool.{and_from, and_parts, and_right, eqb-true, leb-true, le-leb, lt-leb, lt-ltb}
use Rattle.hd_delivery.specs.Histories.{first_of}
use Rattle.hd_calls.specs.Hubs.{Hub}
use Rattle.hd_server.specs.declared.vocabulary.Said.{Said}
use Rattle.hd_server.specs.Lives.{ConnectionEvent, Answered, Ended, Expired, LaneLost, Removed, Negotiated, Opened, Polled, Socketed, is_removed, is_made, is_opened, made, negotiated_at, poll_ended}
use Rattle.hd_server.specs.Texts.{token_of}
use Rattle.hd_server.specs.Machine.{has_gone, settings_of}
use Rattle.hd_server.specs.Doings.{ServerEvent, Draws, Hears, Learns, Notes, Says, Sees, Works, name_now, notes, user_of, work}
use Rattle.hd_server.specs.Plans.{Setup}
use Rattle.hn_server_front.specs.declared.front.Front.{Front}
use Rattle.hn_server_front.specs.Stands as front
use Rattle.hn_server_front.specs.Stands.{IsUnborn}
use Rattle.hub_machine.specs.Machines.{StandsMachine}
use Rattle.hub_server.specs.declared.lane.Lane.{Lane}
use Rattle.hub_server.specs.declared.server.Server.{Server}
use Rattle.hub_server.specs.Lanes.{IsLane, Unsettled, settled}
use Rattle.hub_server.specs.Servers.{IsOrderly, Standing, caller_of, StandsFront}
use Rattle.hub_server.specs.Connections.{CanStand}
use Rattle.hub_server.specs.Steps.{HasCome}
use Rattle.hub_server.specs.Requests.{caller_made}
use Rattle.hub_server.proofs.OutcomeRoom.{Around}
use Rattle.hub_server.proofs.SameSetup.{same_setup}

-- with a token and what was granted with it, or without
abbrev pub making : Option (List ℕ × Bool) → ℕ → ℕ → ConnectionEvent
making None c now = Opened c now
making (Some told) c now = Negotiated c told.0 told.1 now

more : (c n : ℕ) → (nat_lt 0 c && nat_le c n) ≡ true → (nat_lt 0 c && nat_le c (suc n)) ≡ true
more c n e =
    let p = and_parts (nat_lt 0 c) (nat_le c n) e in
    let l = leb-true c n p.1 in
    and_from (nat_lt 0 c) (nat_le c (suc n)) p.0 (le-leb c (suc n) (omega (arith, l)))

-- ---- the connections that are there

orderly_makes : (told : Option (List ℕ × Bool)) (u : Unsettled) (k now c : ℕ) (h : List ServerEvent) → IsOrderly u c h → IsOrderly u c
    (Notes (making told k now) ∷ h)
orderly_makes None u k now c h o = record {
  made = λ e. more c (made (notes h)) (o.made e);
  there = o.there;
  gone = o.gone;
  one_way = o.one_way;
  ended = o.ended;
  unused = o.unused;
  used = o.used;
  linked = o.linked;
  unlinked = o.unlinked;
  kept = o.kept;
  links = o.links;
  timely = o.timely;
  handled = o.handled;
  taken = o.taken;
}
orderly_makes (Some told) u k now c h o = record {
  made = λ e. more c (made (notes h)) (o.made e);
  there = o.there;
  gone = o.gone;
  one_way = o.one_way;
  ended = o.ended;
  unused = o.unused;
  used = o.used;
  linked = o.linked;
  unlinked = o.unlinked;
  kept = o.kept;
  links = o.links;
  timely = o.timely;
  handled = o.handled;
  taken = o.taken;
}

lane_makes : (told : Option (List ℕ × Bool)) (u : Unsettled) (k now lane : ℕ) (x : Option Lane) (h : List ServerEvent) → IsLane u x lane h
    → IsLane u x lane (Notes (making told k now) ∷ h)
lane_makes None u k now lane None h n = n
lane_makes (Some told) u k now lane None h n = n
lane_makes None u k now lane (Some x) h l =
    record { at = l.at; only = l.only; polls = l.polls; last = l.last; refused = l.refused; full = l.full; taken = l.taken }
lane_makes (Some told) u k now lane (Some x) h l =
    record { at = l.at; only = l.only; polls = l.polls; last = l.last; refused = l.refused; full = l.full; taken = l.taken }

-- ---- who called

caller_makes : (told : Option (List ℕ × Bool)) (k now c : ℕ) (h : List ServerEvent) → caller_of c (Notes (making told k now) ∷ h)
    ≡ (if is_some (settings_of c (work h)) || is_removed c (notes h) then None else (if c == k then name_now h else user_of c h))
caller_makes None k now c h = refl
caller_makes (Some told) k now c h = refl

-- the next number is no connection's yet
pub next_unmade : (h : List ConnectionEvent) → is_made (suc (made h)) h ≡ false
next_unmade h = and_right (nat_lt 0 (suc (made h))) (nat_le (suc (made h)) (made h)) (lt-leb (suc (made h)) (made h) (omega arith))

pub next_made : (told : Option (List ℕ × Bool)) (now : ℕ) (h : List ConnectionEvent) → is_made (suc (made h)) (making told (suc (made h)) now ∷ h) ≡ true
next_made None now h =
    and_from (nat_lt 0 (suc (made h))) (nat_le (suc (made h)) (suc (made h))) (lt-ltb 0 (suc (made h)) (omega arith))
    (le-leb (suc (made h)) (suc (made h)) (omega arith))
next_made (Some told) now h =
    and_from (nat_lt 0 (suc (made h))) (nat_le (suc (made h)) (suc (made h))) (lt-ltb 0 (suc (made h)) (omega arith))
    (le-leb (suc (made h)) (suc (made h)) (omega arith))

-- it was begun by nobody
pub next_unbegun : (u : Unsettled) (h : List ServerEvent) → IsOrderly u (suc (made (notes h))) h → is_some (settings_of (suc (made (notes h))) (work h)) ≡
    false
next_unbegun u h o = go (is_some (settings_of (suc (made (notes h))) (work h))) refl
  where
    go : (b : Bool) → is_some (settings_of (suc (made (notes h))) (work h)) ≡ b → b ≡ false
    go false e = refl
    go true e = absurd (let z : true ≡ false = sym (o.made e) ∙ next_unmade (notes h) in cc)

either : (c k : ℕ) (x y : Option (List ℕ)) (got : Option (List ℕ)) → got ≡ (if c == k then x else y) → (b : Bool) → (c == k) ≡ b → got ≡
    (if b then x else y)
either c k x y got e b f = e ∙ ap (λ (a : Bool). if a then x else y) f

-- whose connection each is, if the next is whose the keeper says
callers_make : (told : Option (List ℕ × Bool)) (now : ℕ) (h : List ServerEvent) → is_some (settings_of (suc (made (notes h))) (work h)) ≡ false
    → is_removed (suc (made (notes h))) (notes h) ≡ false → (c : ℕ) (was got : Option (List ℕ)) → was ≡ caller_of c h
    → got ≡ (if c == suc (made (notes h)) then name_now h else was) → got ≡ caller_of c (Notes (making told (suc (made (notes h))) now) ∷ h)
callers_make told now h unbegun held c was got e f = go (c == suc (made (notes h))) refl
  where
    k : ℕ
    k = suc (made (notes h))

    none : (n : ℕ) → n ≡ k → (is_some (settings_of n (work h)) || is_removed n (notes h)) ≡ false
    none n same = subst (λ (m : ℕ). (is_some (settings_of m (work h)) || is_removed m (notes h)) ≡ false) (sym same)
        (ap (λ (b : Bool). b || is_removed k (notes h)) unbegun ∙ held)

    go : (b : Bool) → (c == k) ≡ b → got ≡ caller_of c (Notes (making told k now) ∷ h)
    go true same =
        either c k (name_now h) was got f true same
        ∙ sym (caller_makes told k now c h
        ∙ ap (λ (b : Bool). if b then None else (if c == k then name_now h else user_of c h)) (none c (eqb-true c k same))
        ∙ ap (λ (b : Bool). if b then name_now h else user_of c h) same)
    go false other =
        either c k (name_now h) was got f false other
        ∙ e
        ∙ sym (caller_makes told k now c h
        ∙ ap (λ (b : Bool). if is_some (settings_of c (work h)) || is_removed c (notes h) then None else (if b then name_now h else user_of c h))
        other)

-- ---- the server

pub standing_makes : {H Job : Type 0} (hub : Hub Job) (s : Setup) (u : Unsettled) (before : List Said) (v w : Server H Job)
    (told : Option (List ℕ × Bool))
    (now : ℕ) (h : List ServerEvent) → StandsFront s.live w.front (making told (suc (made (notes h))) now ∷ notes h)
    → w.base ≡ v.base → w.resend ≡ v.resend → w.machine ≡ v.machine → w.lanes ≡ v.lanes → w.moment ≡ v.moment → w.words ≡ v.words
    → ((c : ℕ) → get nat_cmp w.callers c ≡ (if c == suc (made (notes h)) then name_now h else get nat_cmp v.callers c))
    → IsUnborn (suc (made (notes h))) (notes h) → Around {H = H} hub s u before v h
    → Standing {H = H} hub s u before w (Notes (making told (suc (made (notes h))) now) ∷ h)
standing_makes {H} {Job} hub s u before v w told now h in_front base resend machine lanes clock words callers unborn st = record {
  setup = same_setup s base resend st.setup;
  machine = subst (λ m. StandsMachine {H = H} hub m (work h)) (sym machine) st.machine;
  front = in_front;
  callers = λ c. callers_make told now h (next_unbegun u h (st.orderly (suc (made (notes h)))))
      unborn.held c (get nat_cmp v.callers c) (get nat_cmp w.callers c) (st.callers c)
      (callers c);
  lanes = λ lane. lane_makes told u (suc (made (notes h))) now lane (get nat_cmp w.lanes lane) h
      (subst (λ l. IsLane u (get nat_cmp l lane) lane h) (sym lanes) (st.lanes lane));
  begun = st.begun;
  orderly = λ c. orderly_makes told u (suc (made (notes h))) now c h (st.orderly c);
  clock = clock ∙ st.clock;
  words = st.words ∙ ap (λ (xs : List Said). before ++ xs) (sym words);
}

-- ---- the callers' names

-- of a number that no note made nobody is told
nobodys : (c : ℕ) (h : List ServerEvent) → is_opened c (notes h) ≡ false → negotiated_at c (notes h) ≡ None → user_of c h ≡ None
nobodys c [] o n = refl
nobodys c (Notes (Negotiated k token reconnect now) ∷ h) o n = go (c == k) n (λ e. nobodys c h o e)
  where
    go : (b : Bool) → (if b then Some now else negotiated_at c (notes h)) ≡ None → (negotiated_at c (notes h) ≡ None → user_of c h ≡ None)
        → (if b then name_now h else user_of c h) ≡ None
    go true e others = absurd (cc)
    go false e others = others e
nobodys c (Notes (Opened k now) ∷ h) o n = go (c == k) o (λ e. nobodys c h e n)
  where
    go : (b : Bool) → (b || is_opened c (notes h)) ≡ false → (is_opened c (notes h) ≡ false → user_of c h ≡ None)
        → (if b then name_now h else user_of c h) ≡ None
    go true e others = absurd (cc)
    go false e others = others e
nobodys c (Notes (Socketed k lane now) ∷ h) o n = nobodys c h o n
nobodys c (Notes (Polled k lane now) ∷ h) o n = nobodys c h o n
nobodys c (Notes (Answered k lane now) ∷ h) o n = nobodys c h o n
nobodys c (Notes (LaneLost k lane now) ∷ h) o n = nobodys c h o n
nobodys c (Notes (Ended k now) ∷ h) o n = nobodys c h o n
nobodys c (Notes (Expired k now) ∷ h) o n = nobodys c h o n
nobodys c (Notes (Removed k) ∷ h) o n = nobodys c h o n
nobodys c (Hears now event ∷ h) o n = nobodys c h o n
nobodys c (Learns asked ∷ h) o n = nobodys c h o n
nobodys c (Draws drawn ∷ h) o n = nobodys c h o n
nobodys c (Works happening ∷ h) o n = nobodys c h o n
nobodys c (Says said ∷ h) o n = nobodys c h o n
nobodys c (Sees lane full ∷ h) o n = nobodys c h o n

-- a name is entered, or none is
pub named : {H Job : Type 0} (hub : Hub Job) (s : Setup) (u : Unsettled) (before : List Said) (v : Server H Job) (h : List ServerEvent)
    → Around {H = H} hub s u before v h → IsUnborn (suc (made (notes h))) (notes h) → (user : Option (List ℕ)) → name_now h ≡ user
    → (callers : BTreeMap ℕ (List ℕ)) → ((c : ℕ) → get nat_cmp callers c ≡ caller_made (suc (made (notes h))) user c (get nat_cmp v.callers c))
    → (c : ℕ) → get nat_cmp callers c ≡ (if c == suc (made (notes h)) then name_now h else get nat_cmp v.callers c)
named hub s u before v h st unborn user is callers made_so c = made_so c ∙ go (c == suc (made (notes h))) refl
  where
    k : ℕ
    k = suc (made (notes h))

    own : get nat_cmp v.callers k ≡ None
    own = st.callers k
        ∙ ap (λ (b : Bool). if b then None else user_of k h)
        (ap (λ (b : Bool). b || is_removed k (notes h)) (next_unbegun u h (st.orderly k)) ∙ unborn.held)
        ∙ nobodys k h unborn.opened unborn.told

    here : (name : Option (List ℕ)) → name ≡ user → (c == k) ≡ true → first_of name (get nat_cmp v.callers c) ≡ name_now h
    here None e same = ap (λ (n : ℕ). get nat_cmp v.callers n) (eqb-true c k same) ∙ own ∙ e ∙ sym is
    here (Some name) e same = e ∙ sym is

    go : (b : Bool) → (c == k) ≡ b → (if b then first_of user (get nat_cmp v.callers c) else get nat_cmp v.callers c)
        ≡ (if b then name_now h else get nat_cmp v.callers c)
    go true same = here user refl same
    go false other = refl

-- ---- the one that was made may stand on a socket

pub next_stands : (told : Option (List ℕ × Bool)) (u : Unsettled) (now : ℕ) (h : List ServerEvent) → IsOrderly u (suc (made (notes h))) h
    → IsUnborn (suc (made (notes h))) (notes h) → CanStand (suc (made (notes h))) (Notes (making told (suc (made (notes h))) now) ∷ h)
next_stands None u now h o unborn = record {
  known = record { made = next_made None now (notes h); held = unborn.held };
  unpolled = ap (λ p. is_some p || is_some (poll_ended (suc (made (notes h))) (notes h))) unborn.poll ∙ ap is_some unborn.polled;
  granted = λ e. absurd (let z : true ≡ false = sym e ∙ ap (λ (b : Bool). b && not (has_gone (suc (made (notes h))) (work h)))
      (next_unbegun u h o) in cc);
}
next_stands (Some told) u now h o unborn = record {
  known = record { made = next_made (Some told) now (notes h); held = unborn.held };
  unpolled = ap (λ p. is_some p || is_some (poll_ended (suc (made (notes h))) (notes h))) unborn.poll ∙ ap is_some unborn.polled;
  granted = λ e. absurd (let z : true ≡ false = sym e ∙ ap (λ (b : Bool). b && not (has_gone (suc (made (notes h))) (work h)))
      (next_unbegun u h o) in cc);
}

-- ---- what is noted stands for it

module _ {H Job : Type 0} (hub : Hub Job) (s : Setup) (before : List Said) (v : Server H Job) (f : Front) (told : Option (List ℕ × Bool)) (now : ℕ)
    (h : List ServerEvent) (in_front : StandsFront s.live f (making told (suc (made (notes h))) now ∷ notes h)) (st : Around {H = H} hub s settled before v h)
    (unborn : IsUnborn (suc (made (notes h))) (notes h)) where
  -- its caller has this name, or none
  pub stands_named : (callers : BTreeMap ℕ (List ℕ)) (user : Option (List ℕ)) → name_now h ≡ user
      → ((c : ℕ) → get nat_cmp callers c ≡ caller_made (suc (made (notes h))) user c (get nat_cmp v.callers c))
      → Standing {H = H} hub s settled before (record v { front = f; callers = callers }) (Notes (making told (suc (made (notes h))) now) ∷ h)
  stands_named callers user is made_so =
      standing_makes {H = H} hub s settled before v (record v { front = f; callers = callers }) told now h in_front refl refl refl refl refl refl
      (named {H = H} {Job = Job} hub s settled before v h st unborn user is callers made_so) unborn st

-- a front that noted nothing stands for what it stood for
pub standing_fronts : {H Job : Type 0} (hub : Hub Job) (s : Setup) (u : Unsettled) (before : List Said) (v : Server H Job) (f : Front)
    (h : List ServerEvent)
    → StandsFront s.live f (notes h) → Standing {H = H} hub s u before v h → Standing {H = H} hub s u before (record v { front = f }) h
standing_fronts hub s u before v f h in_front st = record {
  setup = st.setup;
  machine = st.machine;
  front = in_front;
  callers = st.callers;
  lanes = st.lanes;
  begun = st.begun;
  orderly = st.orderly;
  clock = st.clock;
  words = st.words;
}

-- a front that noted the next connection, by its number
pub noted_told : (f : Front) (n : List ConnectionEvent) (c now at : ℕ) (drawn : List ℕ) (asked : Bool) → c ≡ suc (made n) → now ≡ at
    → front.Stands f (Negotiated c (token_of drawn c) asked now ∷ n)
    → front.Stands f (making (Some (token_of drawn (suc (made n)), asked)) (suc (made n)) at ∷ n)
noted_told f n c now at drawn asked next same st =
    subst (λ (m : ℕ). front.Stands f (Negotiated (suc (made n)) (token_of drawn (suc (made n))) asked m ∷ n)) same
    (subst (λ (k : ℕ). front.Stands f (Negotiated k (token_of drawn k) asked now ∷ n)) next st)

pub noted_open : (f : Front) (n : List ConnectionEvent) (c now at : ℕ) → c ≡ suc (made n) → now ≡ at → front.Stands f (Opened c now ∷ n)
    → front.Stands f (making None (suc (made n)) at ∷ n)
noted_open f n c now at next same st =
    subst (λ (m : ℕ). front.Stands f (Opened (suc (made n)) m ∷ n)) same (subst (λ (k : ℕ). front.Stands f (Opened k now ∷ n)) next st)

-- the request still waits
pub come_made : (told : Option (List ℕ × Bool)) (k now lane : ℕ) (is_last : Bool) (h : List ServerEvent) → HasCome lane is_last h
    → HasCome lane is_last (Notes (making told k now) ∷ h)
come_made None k now lane is_last h come =
    record { waits = come.waits; last = come.last; unrefused = come.unrefused; empty = come.empty; nobody = come.nobody }
come_made (Some told) k now lane is_last h come =
    record { waits = come.waits; last = come.last; unrefused = come.unrefused; empty = come.empty; nobody = come.nobody }

-- so it does where lots were asked
pub come_drawn : (drawn : Option (List ℕ)) (lane : ℕ) (is_last : Bool) (h : List ServerEvent) → HasCome lane is_last h
    → HasCome lane is_last (Draws drawn ∷ h)
come_drawn drawn lane is_last h come =
    record { waits = come.waits; last = come.last; unrefused = come.unrefused; empty = come.empty; nobody = come.nobody }

-- ---- what was said and unsaid

pub first_again : (xs ys : List Said) → take (length xs) (xs ++ ys) ≡ xs
first_again [] ys = refl
first_again (x ∷ xs) ys = ap (λ (zs : List Said). x ∷ zs) (first_again xs ys)

pub standing_words : {H Job : Type 0} (hub : Hub Job) (s : Setup) (u : Unsettled) (before : List Said) (v : Server H Job) (words : List Said)
    (h : List ServerEvent)
    → words ≡ v.words → Standing {H = H} hub s u before v h → Standing {H = H} hub s u before (record v { words = words }) h
standing_words hub s u before v words h same x = record {
  setup = x.setup;
  machine = x.machine;
  front = x.front;
  callers = x.callers;
  lanes = x.lanes;
  begun = x.begun;
  orderly = x.orderly;
  clock = x.clock;
  words = x.words ∙ ap (λ (w : List Said). before ++ w) (sym same);
}

-- ---- calls

-- what holds holds where a call fails
pub on_err : {A E P : Type 0} (r : Result A E) → P → OnErr r P
on_err (Ok x) p = tt
on_err (Err e) p = p
