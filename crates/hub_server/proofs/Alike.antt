-- Two lists of doings that say the same of one connection.
use Rattle.std.proofs.Common.{◌≡◌, ◌≤◌, ◌<◌, ℕ, suc, ◌==◌, Bool, true, false, not, ◌&&◌, ◌||◌, List, ◌∷◌, Option, Some, None, is_some}
use Rattle.std.proofs.Common.{inl, inr, refl, sym, ap, subst, ◌∙◌, arith}
use Rattle.std.specs.Prelude.{nat_lt, nat_le, if◌then◌else◌, option_map}
use Rattle.std.proofs.lemmas.Bool.{both_ways, cases_lt, eq-eqb, le-leb, leb-true}
use Rattle.hd_delivery.specs.Histories as of
use Rattle.hd_delivery.specs.Histories.{EndEvent, Config, is_resumable, is_this, link_count, present_link, was_on}
use Rattle.hd_delivery.specs.Processes.{processes}
use Rattle.hd_calls.specs.Peers.{PeerEvent, Settings, waiting}
use Rattle.hd_rooms.specs.declared.vocabulary.Asked.{Asked}
use Rattle.hw_door.specs.declared.heard.Event.{Event}
use Rattle.hd_server.specs.declared.vocabulary.Said.{Said}
use Rattle.hd_server.specs.Lives.{ConnectionEvent, Negotiated, Opened, Socketed, Polled, Answered, LaneLost, Ended, Expired, Removed}
use Rattle.hd_server.specs.Lives.{made, is_made, is_removed, socket_of, lost_at, poll_of, poll_ended, ended_at, only_polls, ends_then}
use Rattle.hd_server.specs.Machine.{Connects, Does, Goes, settings_of, has_gone, is_open_at, moves}
use Rattle.hd_server.specs.Doings.{ServerEvent, Hears, Learns, Draws, Notes, Works, Says, Sees}
use Rattle.hd_server.specs.Doings.{notes, work, moment, name_now, user_of, history, history_with, config_of, config_with, has_peer, is_up}
use Rattle.hd_server.specs.Doings.{may_resume}
use Rattle.hub_server.specs.Lanes.{Unsettled, is_at, poll_lane}
use Rattle.hub_server.specs.Servers.{IsOrderly, IsRested, caller_of}
use Rattle.hub_server.specs.Connections.{IsKnown}

-- what is read of the connection is the same
pub record Alike (c : ℕ) (g h : List ServerEvent) : Type 0 where
  pub settings : settings_of c (work g) ≡ settings_of c (work h)
  pub gone : has_gone c (work g) ≡ has_gone c (work h)
  pub moves : moves c (work g) ≡ moves c (work h)
  pub made : is_made c (notes g) ≡ is_made c (notes h)
  pub removed : is_removed c (notes g) ≡ is_removed c (notes h)
  pub socket : socket_of c (notes g) ≡ socket_of c (notes h)
  pub lost : lost_at c (notes g) ≡ lost_at c (notes h)
  pub poll : poll_of c (notes g) ≡ poll_of c (notes h)
  pub polled : poll_ended c (notes g) ≡ poll_ended c (notes h)
  pub ended : ended_at c (notes g) ≡ ended_at c (notes h)
  pub user : user_of c g ≡ user_of c h

-- it is where what was noted is the same
pub alike_noted : (c : ℕ) (g h : List ServerEvent) → settings_of c (work g) ≡ settings_of c (work h) → has_gone c (work g) ≡ has_gone c (work h)
    → moves c (work g) ≡ moves c (work h) → notes g ≡ notes h → user_of c g ≡ user_of c h → Alike c g h
alike_noted c g h settings gone moved noted user = record {
  settings = settings;
  gone = gone;
  moves = moved;
  made = ap (is_made c) noted;
  removed = ap (is_removed c) noted;
  socket = ap (socket_of c) noted;
  lost = ap (lost_at c) noted;
  poll = ap (poll_of c) noted;
  polled = ap (poll_ended c) noted;
  ended = ap (ended_at c) noted;
  user = user;
}

pub alike_refl : (c : ℕ) (h : List ServerEvent) → Alike c h h
alike_refl c h = alike_noted c h h refl refl refl refl refl

pub alike_trans : (c : ℕ) (f g h : List ServerEvent) → Alike c f g → Alike c g h → Alike c f h
alike_trans c f g h x y = record {
  settings = x.settings ∙ y.settings;
  gone = x.gone ∙ y.gone;
  moves = x.moves ∙ y.moves;
  made = x.made ∙ y.made;
  removed = x.removed ∙ y.removed;
  socket = x.socket ∙ y.socket;
  lost = x.lost ∙ y.lost;
  poll = x.poll ∙ y.poll;
  polled = x.polled ∙ y.polled;
  ended = x.ended ∙ y.ended;
  user = x.user ∙ y.user;
}

-- ---- what is read, as one

record Seen : Type 0 where
  settings : Option Settings
  gone : Bool
  moves : List PeerEvent
  made : Bool
  removed : Bool
  socket : Option ℕ
  lost : Option ℕ
  poll : Option (ℕ × ℕ)
  polled : Option ℕ
  ended : Option ℕ
  user : Option (List ℕ)

abbrev see : Option Settings → Bool → List PeerEvent → Bool → Bool → Option ℕ → Option ℕ → Option (ℕ × ℕ) → Option ℕ → Option ℕ → Option (List ℕ) → Seen
see settings gone moves made removed socket lost poll polled ended user = record {
  settings = settings;
  gone = gone;
  moves = moves;
  made = made;
  removed = removed;
  socket = socket;
  lost = lost;
  poll = poll;
  polled = polled;
  ended = ended;
  user = user;
}

abbrev seen : ℕ → List ServerEvent → Seen
seen c h = see (settings_of c (work h)) (has_gone c (work h)) (moves c (work h)) (is_made c (notes h)) (is_removed c (notes h)) (socket_of c (notes h))
    (lost_at c (notes h)) (poll_of c (notes h)) (poll_ended c (notes h)) (ended_at c (notes h)) (user_of c h)

same_seen : (c : ℕ) (g h : List ServerEvent) → Alike c g h → seen c g ≡ seen c h
same_seen c g h x =
    λ i. see (x.settings i) (x.gone i) (x.moves i) (x.made i) (x.removed i) (x.socket i) (x.lost i) (x.poll i) (x.polled i) (x.ended i) (x.user i)

abbrev there : Seen → Bool
there x = is_some x.settings && not x.gone

abbrev polling : Seen → Bool
polling x = is_some x.poll || is_some x.polled

abbrev placed : Seen → Bool
placed x = is_some x.socket || is_some x.lost

abbrev past : Seen → List EndEvent
past x = history_with x.settings x.moves

abbrev config : Seen → Config
config x = config_with x.settings

abbrev up : Seen → Bool
up x = not x.gone && is_open_at x.settings x.moves

-- ---- what follows from it

pub there_alike : (c : ℕ) (g h : List ServerEvent) → Alike c g h → has_peer c g ≡ has_peer c h
there_alike c g h x = ap there (same_seen c g h x)

pub at_alike : (lane c : ℕ) (g h : List ServerEvent) → Alike c g h → is_at lane c g ≡ is_at lane c h
at_alike lane c g h x =
    ap (λ (y : Seen). there y && (is_this lane y.socket || is_this lane (option_map (λ (poll : ℕ × ℕ). poll.0) y.poll))) (same_seen c g h x)

pub caller_alike : (c : ℕ) (g h : List ServerEvent) → Alike c g h → caller_of c g ≡ caller_of c h
caller_alike c g h x = ap (λ (y : Seen). if is_some y.settings || y.removed then None else y.user) (same_seen c g h x)

pub up_alike : (c : ℕ) (g h : List ServerEvent) → Alike c g h → is_up c g ≡ is_up c h
up_alike c g h x = ap up (same_seen c g h x)

pub history_alike : (c : ℕ) (g h : List ServerEvent) → Alike c g h → history c g ≡ history c h
history_alike c g h x = ap past (same_seen c g h x)

pub config_alike : (c : ℕ) (g h : List ServerEvent) → Alike c g h → config_of c g ≡ config_of c h
config_alike c g h x = ap config (same_seen c g h x)

pub granted_alike : (c : ℕ) (g h : List ServerEvent) → Alike c g h → may_resume c g ≡ may_resume c h
granted_alike c g h x = ap (λ (y : Seen). up y && is_resumable (config y) (past y)) (same_seen c g h x)

pub orderly_alike : (u : Unsettled) (c : ℕ) (g h : List ServerEvent) → Alike c g h → moment h ≤ moment g → IsOrderly u c h → IsOrderly u c g
orderly_alike u c g h x later o =
    let e = sym (same_seen c g h x) in
    record {
      made = subst (λ (y : Seen). is_some y.settings ≡ true → y.made ≡ true) e o.made;
      there = subst (λ (y : Seen). there y ≡ true → y.removed ≡ false) e o.there;
      gone = subst (λ (y : Seen). is_some y.settings ≡ true → there y ≡ false → y.removed ≡ true) e o.gone;
      one_way = subst (λ (y : Seen). (placed y && polling y) ≡ false) e o.one_way;
      ended = subst (λ (y : Seen). is_some y.ended ≡ true → polling y ≡ true) e o.ended;
      unused = subst (λ (y : Seen). is_some y.settings ≡ false → (is_some y.socket || is_some y.lost || polling y) ≡ false) e o.unused;
      used = subst (λ (y : Seen). there y ≡ true → (is_this c u.conn || (is_some y.socket || is_some y.lost || polling y)) ≡ true) e o.used;
      linked = subst (λ (y : Seen). there y ≡ true → (lane : ℕ) → y.socket ≡ Some lane
          → (is_this lane u.cut || is_some (present_link (past y))) ≡ true) e o.linked;
      unlinked = subst (λ (y : Seen). there y ≡ true → is_some y.lost ≡ true → present_link (past y) ≡ None) e o.unlinked;
      kept = subst (λ (y : Seen). there y ≡ true → is_some y.lost ≡ true → is_resumable (config y) (past y) ≡ true) e o.kept;
      links = subst (λ (y : Seen). (l : ℕ) → was_on l (past y) ≡ true → l < link_count (past y)) e o.links;
      timely =
          let t : of.moment (history c g) ≤ moment h = subst (λ (y : Seen). of.moment (past y) ≤ moment h) e o.timely in
          omega (arith, t, later);
      handled = subst (λ (y : Seen). waiting y.moves ≡ None) e o.handled;
      taken = subst (λ (y : Seen). processes (config y) (past y) ≡ None) e o.taken;
    }

pub rested_alike : (c : ℕ) (g h : List ServerEvent) → Alike c g h → IsRested c h → IsRested c g
rested_alike c g h x = subst (λ (y : Seen). there y ≡ true → polling y ≡ false → up y ≡ true) (sym (same_seen c g h x))

pub known_alike : (c : ℕ) (g h : List ServerEvent) → Alike c g h → IsKnown c h → IsKnown c g
known_alike c g h x k = record { made = x.made ∙ k.made; held = x.removed ∙ k.held }

-- ---- doings of no connection

pub alike_hears : (now : ℕ) (e : Event) (c : ℕ) (h : List ServerEvent) → Alike c (Hears now e ∷ h) h
alike_hears now e c h = alike_noted c (Hears now e ∷ h) h refl refl refl refl refl

pub alike_learns : (asked : Asked) (c : ℕ) (h : List ServerEvent) → Alike c (Learns asked ∷ h) h
alike_learns asked c h = alike_noted c (Learns asked ∷ h) h refl refl refl refl refl

pub alike_draws : (drawn : Option (List ℕ)) (c : ℕ) (h : List ServerEvent) → Alike c (Draws drawn ∷ h) h
alike_draws drawn c h = alike_noted c (Draws drawn ∷ h) h refl refl refl refl refl

pub alike_says : (x : Said) (c : ℕ) (h : List ServerEvent) → Alike c (Says x ∷ h) h
alike_says x c h = alike_noted c (Says x ∷ h) h refl refl refl refl refl

pub alike_sees : (lane : ℕ) (full : Bool) (c : ℕ) (h : List ServerEvent) → Alike c (Sees lane full ∷ h) h
alike_sees lane full c h = alike_noted c (Sees lane full ∷ h) h refl refl refl refl refl

-- ---- doings of another connection

-- the connection of a note
abbrev pub about : ConnectionEvent → ℕ
about (Negotiated c token reconnect now) = c
about (Opened c now) = c
about (Socketed c lane now) = c
about (Polled c lane now) = c
about (Answered c lane now) = c
about (LaneLost c lane now) = c
about (Ended c now) = c
about (Expired c now) = c
about (Removed c) = c

-- a connection that is made has the next number
abbrev pub IsNumbered : ConnectionEvent → List ConnectionEvent → Type 0
IsNumbered (Negotiated c token reconnect now) h = c ≡ suc (made h)
IsNumbered (Opened c now) h = c ≡ suc (made h)
IsNumbered _ h = Unit {0}

not_chosen : {A : Type 0} (b : Bool) (x y : A) → b ≡ false → (if b then x else y) ≡ y
not_chosen b x y e = ap (λ d. if d then x else y) e

neither_chosen : {A : Type 0} (b d : Bool) (x y : A) → b ≡ false → (if b && d then x else y) ≡ y
neither_chosen b d x y e = ap (λ z. if z && d then x else y) e

agree : (x y : Bool) → (x ≡ true → y ≡ true) → (y ≡ true → x ≡ true) → x ≡ y
agree true y f g = sym (f refl)
agree false true f g = g refl
agree false false f g = refl

-- another number is at most the next exactly if it is at most the last
next_made : (c k n : ℕ) → (c == k) ≡ false → k ≡ suc n → nat_le c (suc n) ≡ nat_le c n
next_made c k n e is = agree (nat_le c (suc n)) (nat_le c n)
    (λ below.
    let a : c ≤ suc n = leb-true c (suc n) below in
    elim (cases_lt n c) [
      | inl more ↦ absurd (both_ways (c == k) e (eq-eqb c k (let same : c ≡ suc n = omega (arith, a, more) in same ∙ sym is)))
      | inr less ↦ le-leb c n less
    ])
    (λ below. let a : c ≤ n = leb-true c n below in le-leb c (suc n) (omega (arith, a)))

made_other : (n : ConnectionEvent) (c : ℕ) (h : List ConnectionEvent) → (c == about n) ≡ false → IsNumbered n h → is_made c (n ∷ h) ≡ is_made c h
made_other (Negotiated k token reconnect now) c h e is = ap (λ b. nat_lt 0 c && b) (next_made c k (made h) e is)
made_other (Opened k now) c h e is = ap (λ b. nat_lt 0 c && b) (next_made c k (made h) e is)
made_other _ c h e is = refl

let_go_other : (n : ConnectionEvent) (c : ℕ) (h : List ConnectionEvent) → (c == about n) ≡ false → is_removed c (n ∷ h) ≡ is_removed c h
let_go_other (Expired k now) c h e = ap (λ b. (b && not (ends_then c h)) || is_removed c h) e
let_go_other (Removed k) c h e = ap (λ b. b || is_removed c h) e
let_go_other _ c h e = refl

socket_other : (n : ConnectionEvent) (c : ℕ) (h : List ConnectionEvent) → (c == about n) ≡ false → socket_of c (n ∷ h) ≡ socket_of c h
socket_other (Socketed k lane now) c h e = not_chosen (c == k) (Some lane) (socket_of c h) e
socket_other (LaneLost k lane now) c h e = neither_chosen (c == k) (is_this lane (socket_of c h)) None (socket_of c h) e
socket_other _ c h e = refl

lost_other : (n : ConnectionEvent) (c : ℕ) (h : List ConnectionEvent) → (c == about n) ≡ false → lost_at c (n ∷ h) ≡ lost_at c h
lost_other (Socketed k lane now) c h e = not_chosen (c == k) None (lost_at c h) e
lost_other (LaneLost k lane now) c h e = neither_chosen (c == k) (is_this lane (socket_of c h)) (Some now) (lost_at c h) e
lost_other _ c h e = refl

poll_other : (n : ConnectionEvent) (c : ℕ) (h : List ConnectionEvent) → (c == about n) ≡ false → poll_of c (n ∷ h) ≡ poll_of c h
poll_other (Polled k lane now) c h e = not_chosen (c == k) (Some (lane, now)) (poll_of c h) e
poll_other (Answered k lane now) c h e = neither_chosen (c == k) (is_this lane (poll_lane c h)) None (poll_of c h) e
poll_other (LaneLost k lane now) c h e = neither_chosen (c == k) (is_this lane (poll_lane c h)) None (poll_of c h) e
poll_other _ c h e = refl

polled_other : (n : ConnectionEvent) (c : ℕ) (h : List ConnectionEvent) → (c == about n) ≡ false → poll_ended c (n ∷ h) ≡ poll_ended c h
polled_other (Polled k lane now) c h e = not_chosen (c == k) None (poll_ended c h) e
polled_other (Answered k lane now) c h e = neither_chosen (c == k) (is_this lane (poll_lane c h)) (Some now) (poll_ended c h) e
polled_other (LaneLost k lane now) c h e = neither_chosen (c == k) (is_this lane (poll_lane c h)) (Some now) (poll_ended c h) e
polled_other _ c h e = refl

ended_other : (n : ConnectionEvent) (c : ℕ) (h : List ConnectionEvent) → (c == about n) ≡ false → ended_at c (n ∷ h) ≡ ended_at c h
ended_other (Ended k now) c h e = neither_chosen (c == k) (not (is_some (ended_at c h))) (Some now) (ended_at c h) e
ended_other (Expired k now) c h e = neither_chosen (c == k) (only_polls c h && not (is_some (ended_at c h))) (Some now) (ended_at c h) e
ended_other _ c h e = refl

user_other : (n : ConnectionEvent) (c : ℕ) (h : List ServerEvent) → (c == about n) ≡ false → user_of c (Notes n ∷ h) ≡ user_of c h
user_other (Negotiated k token reconnect now) c h e = not_chosen (c == k) (name_now h) (user_of c h) e
user_other (Opened k now) c h e = not_chosen (c == k) (name_now h) (user_of c h) e
user_other _ c h e = refl

pub alike_note : (n : ConnectionEvent) (c : ℕ) (h : List ServerEvent) → (c == about n) ≡ false → IsNumbered n (notes h) → Alike c (Notes n ∷ h) h
alike_note n c h e is = record {
  settings = refl;
  gone = refl;
  moves = refl;
  made = made_other n c (notes h) e is;
  removed = let_go_other n c (notes h) e;
  socket = socket_other n c (notes h) e;
  lost = lost_other n c (notes h) e;
  poll = poll_other n c (notes h) e;
  polled = polled_other n c (notes h) e;
  ended = ended_other n c (notes h) e;
  user = user_other n c h e;
}

pub alike_does : (c k : ℕ) (m : PeerEvent) (h : List ServerEvent) → (c == k) ≡ false → Alike c (Works (Does k m) ∷ h) h
alike_does c k m h e = alike_noted c (Works (Does k m) ∷ h) h refl refl (not_chosen (c == k) (m ∷ moves c (work h)) (moves c (work h)) e) refl refl

pub alike_connects : (c k : ℕ) (t : Settings) (user : Option (List ℕ)) (h : List ServerEvent) → (c == k) ≡ false → Alike c (Works (Connects k t user) ∷ h) h
alike_connects c k t user h e =
    alike_noted c (Works (Connects k t user) ∷ h) h (not_chosen (c == k) (Some t) (settings_of c (work h)) e) refl refl refl refl

pub alike_goes : (c k : ℕ) (h : List ServerEvent) → (c == k) ≡ false → Alike c (Works (Goes k) ∷ h) h
alike_goes c k h e = alike_noted c (Works (Goes k) ∷ h) h refl (ap (λ b. b || has_gone c (work h)) e) refl refl refl
