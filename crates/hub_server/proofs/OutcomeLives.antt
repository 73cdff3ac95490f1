-- What the life of a token tells of its connection.
use Rattle.std.proofs.Common.{◌≡◌, ℕ, Bool, true, false, List, Option, Some, None, is_some, option_map, refl, sym, ap, subst, ◌∙◌}
use Rattle.std.specs.Prelude.{◌&&◌, ◌||◌, unwrap_or}
use Rattle.hd_delivery.specs.Histories.{first_of}
use Rattle.hd_server.specs.declared.vocabulary.Life.{Life}
use Rattle.hd_server.specs.declared.vocabulary.Life.TheVariants.{Unknown, Fresh, Socket, Lost, Polling, Ending}
use Rattle.hd_server.specs.Lives.{ConnectionEvent, ended_at, is_removed, is_made, is_opened, is_polling, lost_at, negotiated_at, socket_of, standing, when}
use Rattle.hd_server.specs.Machine.{settings_of}
use Rattle.hd_server.specs.Doings.{ServerEvent, has_peer, may_resume, notes, work}
use Rattle.hub_server.specs.Lanes.{Unsettled, settled}
use Rattle.hub_server.specs.Servers.{IsOrderly, IsRested}
use Rattle.hub_server.specs.Connections.{CanHold, CanStand}

-- ---- what a life is read off

abbrev pub ReadsAs : Life → Bool → Bool → Option ℕ → Bool → Bool → Type 0
ReadsAs Unknown gone ended socket lost polls = Unit {0}
ReadsAs Fresh gone ended socket lost polls = (gone ≡ false) × (socket ≡ None) × (lost ≡ false) × (polls ≡ false)
ReadsAs (Socket lane) gone ended socket lost polls = (gone ≡ false) × (socket ≡ Some lane)
ReadsAs Lost gone ended socket lost polls = (gone ≡ false) × (socket ≡ None) × (lost ≡ true)
ReadsAs Polling gone ended socket lost polls = (gone ≡ false) × (socket ≡ None) × (lost ≡ false) × (polls ≡ true)
ReadsAs Ending gone ended socket lost polls = (gone ≡ false) × (ended ≡ true)

read_off : (gone ended : Bool) (socket : Option ℕ) (lost polls begun : Bool) → ReadsAs (unwrap_or
    (first_of (when gone Unknown) (first_of (when ended Ending) (first_of (option_map Socket socket) (first_of (when lost Lost)
    (first_of (when polls Polling) (when begun Fresh)))))) Unknown) gone ended socket lost polls
read_off true ended socket lost polls begun = tt
read_off false true socket lost polls begun = (refl, refl)
read_off false false (Some lane) lost polls begun = (refl, refl)
read_off false false None true polls begun = (refl, refl, refl)
read_off false false None false true begun = (refl, refl, refl, refl)
read_off false false None false false true = (refl, refl, refl, refl)
read_off false false None false false false = tt

abbrev pub Reads : Life → ℕ → List ConnectionEvent → Type 0
Reads l c n = ReadsAs l (is_removed c n) (is_some (ended_at c n)) (socket_of c n) (is_some (lost_at c n)) (is_polling c n)

pub reads : (c : ℕ) (n : List ConnectionEvent) (l : Life) → standing c n ≡ l → Reads l c n
reads c n l e = subst (λ (x : Life). Reads x c n) e
    (read_off (is_removed c n) (is_some (ended_at c n)) (socket_of c n) (is_some (lost_at c n)) (is_polling c n)
    (is_opened c n || is_some (negotiated_at c n)))

-- ---- what holds of it then

lost_none : (o : Option ℕ) → is_some o ≡ false → o ≡ None
lost_none None e = refl
lost_none (Some x) e = absurd (cc)

right_of : (a b : Bool) → (a && b) ≡ false → a ≡ true → b ≡ false
right_of true b e f = e
right_of false b e f = absurd (cc)

left_of : (a b : Bool) → (a && b) ≡ false → b ≡ true → a ≡ false
left_of true true e f = absurd (cc)
left_of true false e f = absurd (cc)
left_of false b e f = refl

or_parts : (a b : Bool) → (a || b) ≡ false → (a ≡ false) × (b ≡ false)
or_parts true b e = absurd (cc)
or_parts false b e = (refl, e)

or_first : (a b : Bool) → a ≡ true → (a || b) ≡ true
or_first true b e = refl
or_first false b e = absurd (cc)

or_second : (a b : Bool) → b ≡ true → (a || b) ≡ true
or_second true b e = refl
or_second false b e = e

by_first : (s l p : Bool) → s ≡ true → (s || l || p) ≡ true
by_first true l p e = refl
by_first false l p e = absurd (cc)

by_last : (s l p : Bool) → p ≡ true → (s || l || p) ≡ true
by_last true l p e = refl
by_last false true p e = refl
by_last false false p e = e

none_used : (b s l p : Bool) → b ≡ false → s ≡ false → l ≡ false → p ≡ false → (b || (s || l || p)) ≡ true → ⊥
none_used true s l p e f g i j = absurd (cc)
none_used false true l p e f g i j = absurd (cc)
none_used false false true p e f g i j = absurd (cc)
none_used false false false true e f g i j = absurd (cc)
none_used false false false false e f g i j = absurd (cc)

module _ (u : Unsettled) (c : ℕ) (h : List ServerEvent) (o : IsOrderly u c h) where
  -- one that was used has a peer, unless it is let go
  pub used_there : is_removed c (notes h) ≡ false → (is_some (socket_of c (notes h)) || is_some (lost_at c (notes h)) || is_polling c (notes h)) ≡ true
      → has_peer c h ≡ true
  used_there held uses = begun (is_some (settings_of c (work h))) refl
    where
      there : (b : Bool) → has_peer c h ≡ b → is_some (settings_of c (work h)) ≡ true → b ≡ true
      there true e f = refl
      there false e f = absurd (let z : true ≡ false = sym (o.gone f e) ∙ held in cc)

      begun : (b : Bool) → is_some (settings_of c (work h)) ≡ b → has_peer c h ≡ true
      begun true e = (there (has_peer c h) refl e)
      begun false e = absurd (let z : true ≡ false = sym uses ∙ o.unused e in cc)

-- a fresh one has no peer
pub fresh_lacks : (c : ℕ) (h : List ServerEvent) → IsOrderly settled c h → Reads Fresh c (notes h) → has_peer c h ≡ false
fresh_lacks c h o r = go (has_peer c h) refl
  where
    go : (b : Bool) → has_peer c h ≡ b → b ≡ false
    go false e = refl
    go true e = absurd (none_used false (is_some (socket_of c (notes h))) (is_some (lost_at c (notes h))) (is_polling c (notes h))
        refl (ap is_some r.1) r.2 r.3 (o.used e))

-- ---- it may stand on a socket

pub fresh_stands : (c : ℕ) (h : List ServerEvent) → IsOrderly settled c h → is_made c (notes h) ≡ true → Reads Fresh c (notes h) → CanStand c h
fresh_stands c h o made r = record {
  known = record { made = made; held = r.0 };
  unpolled = r.3;
  granted = λ e. absurd (let z : true ≡ false = sym e ∙ fresh_lacks c h o r in cc);
}

pub socketed_stands : (u : Unsettled) (c lane : ℕ) (h : List ServerEvent) → IsOrderly u c h → is_made c (notes h) ≡ true → Reads (Socket lane) c (notes h)
    → may_resume c h ≡ true → CanStand c h
socketed_stands u c lane h o made r granted = record {
  known = record { made = made; held = r.0 };
  unpolled = right_of _ (is_polling c (notes h)) o.one_way
      (or_first (is_some (socket_of c (notes h))) (is_some (lost_at c (notes h))) (ap is_some r.1));
  granted = λ e. granted;
}

pub lost_stands : (u : Unsettled) (c : ℕ) (h : List ServerEvent) → IsOrderly u c h → IsRested c h → is_made c (notes h) ≡ true → Reads Lost c (notes h) →
    CanStand c h
lost_stands u c h o rests made r =
    let unpolled : is_polling c (notes h) ≡ false =
    right_of _ (is_polling c (notes h)) o.one_way (or_second (is_some (socket_of c (notes h))) (is_some (lost_at c (notes h))) r.2) in
    record {
      known = record { made = made; held = r.0 };
      unpolled = unpolled;
      granted = λ e. both (rests e unpolled) (o.kept e r.2);
    }
  where
    both : {a b : Bool} → a ≡ true → b ≡ true → (a && b) ≡ true
    both {a} {b} e f = ap (λ (x : Bool). x && b) e ∙ f

pub socketed_there : (u : Unsettled) (c lane : ℕ) (h : List ServerEvent) → IsOrderly u c h → Reads (Socket lane) c (notes h) → has_peer c h ≡ true
socketed_there u c lane h o r = used_there u c h o r.0
    (by_first (is_some (socket_of c (notes h))) (is_some (lost_at c (notes h))) (is_polling c (notes h)) (ap is_some r.1))

-- ---- a poll may come for it

polling_holds : (u : Unsettled) (c : ℕ) (h : List ServerEvent) → IsOrderly u c h → is_made c (notes h) ≡ true → is_removed c (notes h) ≡ false
    → is_polling c (notes h) ≡ true → CanHold c h
polling_holds u c h o made held polls =
    let none = or_parts (is_some (socket_of c (notes h))) (is_some (lost_at c (notes h))) (left_of _ (is_polling c (notes h)) o.one_way polls) in
    record {
      known = record { made = made; held = held };
      there = used_there u c h o held (by_last (is_some (socket_of c (notes h))) (is_some (lost_at c (notes h))) (is_polling c (notes h)) polls);
      unsocketed = lost_none (socket_of c (notes h)) none.0;
      unlost = lost_none (lost_at c (notes h)) none.1;
    }

pub poller_holds : (u : Unsettled) (c : ℕ) (h : List ServerEvent) → IsOrderly u c h → is_made c (notes h) ≡ true → Reads Polling c (notes h) → CanHold c h
poller_holds u c h o made r = polling_holds u c h o made r.0 r.3

pub ending_holds : (u : Unsettled) (c : ℕ) (h : List ServerEvent) → IsOrderly u c h → is_made c (notes h) ≡ true → Reads Ending c (notes h) → CanHold c h
ending_holds u c h o made r = polling_holds u c h o made r.0 (o.ended r.1)

-- one of whose polls one is held has a peer
pub held_there : (u : Unsettled) (c : ℕ) (h : List ServerEvent) → IsOrderly u c h → is_removed c (notes h) ≡ false → is_polling c (notes h) ≡ true
    → has_peer c h ≡ true
held_there u c h o held polls = used_there u c h o held
    (by_last (is_some (socket_of c (notes h))) (is_some (lost_at c (notes h))) (is_polling c (notes h)) polls)

pub fresh_unlost : (c : ℕ) (n : List ConnectionEvent) → Reads Fresh c n → lost_at c n ≡ None
fresh_unlost c n r = lost_none (lost_at c n) r.2
