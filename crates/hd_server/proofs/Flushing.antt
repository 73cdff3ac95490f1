-- What one connection says changes nothing of another, and leaves nothing due on its socket.
use Rattle.std.proofs.Common.{inl, inr, ⊎_elim, refl, ap, subst, sym, ◌∙◌, ◌≡◌, ℕ, Bool, true, false, List, [], ◌∷◌, ◌++◌, Option, Some, None, suc, zero, arith, ◌<◌, ◌≤◌}
use Rattle.std.specs.Prelude.{◌⊎◌, not, ◌&&◌, ◌||◌, ◌==◌, filter, is_some, option_map, nat_le, max, ◌+◌, if◌then◌else◌}
use Rattle.std.proofs.lemmas.Bool.{leb-true, leb-false, and_parts, or_parts, or_right, not-true, eqb-true, eq-eqb}
use Rattle.std.specs.Cmp.{nat_eq_equiv}
use Rattle.hd_delivery.specs.Frames.{LinkFrame}
use Rattle.hd_delivery.specs.Histories.{Lent, is_this}
use Rattle.hd_delivery.specs.Due.{due}
use Rattle.hd_delivery.specs.Bytes.{Does as Step_of}
use Rattle.hd_calls.specs.Peers.{PeerEvent, Plain, Settings}
use Rattle.hd_server.specs.declared.vocabulary.Said.TheVariants as say
use Rattle.hd_server.specs.Numbers.{held_for}
use Rattle.hd_server.specs.Lives.{Polled, Answered, LaneLost, Ended, Removed, socket_of, poll_of, numbers_to}
use Rattle.hd_server.specs.Machine.{MachineEvent, Does, Goes, Connects, moves, settings_of, has_gone, is_there, connections, greatest}
use Rattle.hd_server.specs.Doings.{ServerEvent, Notes, Works, Says, notes, work, is_full, peer, history_with, history, config_with, config_of, has_peer, has_closed}
use Rattle.hd_server.specs.Plans.{Setup, onto, step, removing_conn, shutting, replying, bare_reply, frames_reply}
use Rattle.hd_server.specs.Serves.{lending, writing, all_of, bytes_of, is_text, flushing_socket, flushing_poll, ending, flushing_on, flushing, all_flushing, AreDueBy, AreDueOn, AreDue, AreAllDue, LendsAll, LendsUpTo}
use Rattle.hd_server.specs.Parts.{Each, IsFlush}
use Rattle.hd_server.specs.Laws.{is_full_some, NothingIsLeft}
use Rattle.hd_server.proofs.Each.{either_way, each_join, each_when, each_replying, each_removing, each_ending, each_lending}
use Rattle.hd_server.proofs.PartsOfTurns.{poll_flush, flushing_is}

-- a connection is one of these
abbrev pub is_in : ℕ → List ℕ → Bool
is_in c [] = false
is_in c (k ∷ ks) = (c == k) || is_in c ks

abbrev pub AreApart : List ℕ → Type 0
AreApart [] = Unit {0}
AreApart (c ∷ cs) = (is_in c cs ≡ false) × AreApart cs

-- ---- of another connection all stays the same

pub record Same (c : ℕ) (h g : List ServerEvent) : Type 0 where
  pub same_moves : moves c (work g) ≡ moves c (work h)
  pub same_settings : settings_of c (work g) ≡ settings_of c (work h)
  pub same_gone : has_gone c (work g) ≡ has_gone c (work h)
  pub same_socket : socket_of c (notes g) ≡ socket_of c (notes h)
  pub same_poll : poll_of c (notes g) ≡ poll_of c (notes h)

same_itself : (c : ℕ) (h : List ServerEvent) → Same c h h
same_itself c h = record { same_moves = refl; same_settings = refl; same_gone = refl; same_socket = refl; same_poll = refl }

same_then : (c : ℕ) (f g h : List ServerEvent) → Same c f g → Same c g h → Same c f h
same_then c f g h a b = record {
  same_moves = b.same_moves ∙ a.same_moves;
  same_settings = b.same_settings ∙ a.same_settings;
  same_gone = b.same_gone ∙ a.same_gone;
  same_socket = b.same_socket ∙ a.same_socket;
  same_poll = b.same_poll ∙ a.same_poll;
}

one_same : (c k : ℕ) (d : ServerEvent) (h : List ServerEvent) → (c == k) ≡ false → IsFlush k d → Same c h (d ∷ h)
one_same c k (Works (Does x (Plain (Step_of (Lent f))))) h n e =
    let other : (c == x) ≡ false = ap (λ y. c == y) e ∙ n in
    record { same_moves = ap (λ b. if b then Plain (Step_of (Lent f)) ∷ moves c (work h) else moves c (work h)) other; same_settings = refl; same_gone = refl; same_socket = refl; same_poll = refl }
one_same c k (Works (Goes x)) h n e =
    let other : (c == x) ≡ false = ap (λ y. c == y) e ∙ n in
    record { same_moves = refl; same_settings = refl; same_gone = ap (λ b. b || has_gone c (work h)) other; same_socket = refl; same_poll = refl }
one_same c k (Notes (Answered x lane now)) h n e =
    let other : (c == x) ≡ false = ap (λ y. c == y) e ∙ n in
    record {
      same_moves = refl;
      same_settings = refl;
      same_gone = refl;
      same_socket = refl;
      same_poll = ap (λ b. if b && is_this lane (option_map (λ poll. poll.0) (poll_of c (notes h))) then None else poll_of c (notes h)) other;
    }
one_same c k (Notes (Ended x now)) h n e = record { same_moves = refl; same_settings = refl; same_gone = refl; same_socket = refl; same_poll = refl }
one_same c k (Notes (Removed x)) h n e = record { same_moves = refl; same_settings = refl; same_gone = refl; same_socket = refl; same_poll = refl }
one_same c k (Says x) h n e = record { same_moves = refl; same_settings = refl; same_gone = refl; same_socket = refl; same_poll = refl }
one_same c k d h n e = absurd e

pub all_same : (c k : ℕ) (ds h : List ServerEvent) → (c == k) ≡ false → Each (IsFlush k) ds → Same c h (onto ds h)
all_same c k [] h n a = same_itself c h
all_same c k (d ∷ ds) h n a = same_then c h (d ∷ h) (onto ds (d ∷ h)) (one_same c k d h n a.0) (all_same c k ds (d ∷ h) n a.1)

-- ---- of every connection this stays

record Kept (c : ℕ) (h g : List ServerEvent) : Type 0 where
  kept_settings : settings_of c (work g) ≡ settings_of c (work h)
  kept_gone : has_gone c (work h) ≡ true → has_gone c (work g) ≡ true
  kept_socket : socket_of c (notes g) ≡ socket_of c (notes h)
  kept_full : (lane : ℕ) → is_full lane g ≡ is_full lane h

one_kept : (c k : ℕ) (d : ServerEvent) (h : List ServerEvent) → IsFlush k d → Kept c h (d ∷ h)
one_kept c k (Works (Does x (Plain (Step_of (Lent f))))) h e = record { kept_settings = refl; kept_gone = λ g. g; kept_socket = refl; kept_full = λ lane. refl }
one_kept c k (Works (Goes x)) h e = record { kept_settings = refl; kept_gone = λ g. or_right (c == x) (has_gone c (work h)) g; kept_socket = refl; kept_full = λ lane. refl }
one_kept c k (Notes (Answered x lane now)) h e = record { kept_settings = refl; kept_gone = λ g. g; kept_socket = refl; kept_full = λ lane. refl }
one_kept c k (Notes (Ended x now)) h e = record { kept_settings = refl; kept_gone = λ g. g; kept_socket = refl; kept_full = λ lane. refl }
one_kept c k (Notes (Removed x)) h e = record { kept_settings = refl; kept_gone = λ g. g; kept_socket = refl; kept_full = λ lane. refl }
one_kept c k (Says x) h e = record { kept_settings = refl; kept_gone = λ g. g; kept_socket = refl; kept_full = λ lane. refl }
one_kept c k d h e = absurd e

kept_itself : (c : ℕ) (h : List ServerEvent) → Kept c h h
kept_itself c h = record { kept_settings = refl; kept_gone = λ g. g; kept_socket = refl; kept_full = λ lane. refl }

kept_then : (c : ℕ) (f g h : List ServerEvent) → Kept c f g → Kept c g h → Kept c f h
kept_then c f g h a b = record {
  kept_settings = b.kept_settings ∙ a.kept_settings;
  kept_gone = λ e. b.kept_gone (a.kept_gone e);
  kept_socket = b.kept_socket ∙ a.kept_socket;
  kept_full = λ lane. b.kept_full lane ∙ a.kept_full lane;
}

all_kept : (c k : ℕ) (ds h : List ServerEvent) → Each (IsFlush k) ds → Kept c h (onto ds h)
all_kept c k [] h a = kept_itself c h
all_kept c k (d ∷ ds) h a = kept_then c h (d ∷ h) (onto ds (d ∷ h)) (one_kept c k d h a.0) (all_kept c k ds (d ∷ h) a.1)

onto_append : (xs ys h : List ServerEvent) → onto (xs ++ ys) h ≡ onto ys (onto xs h)
onto_append [] ys h = refl
onto_append (x ∷ xs) ys h = onto_append xs ys (x ∷ h)

-- what all these say leaves another as it is, and drops nothing of what stays
rest_kept : (s : Setup) (now c : ℕ) (cs : List ℕ) (all : List (List (List LinkFrame))) (h g : List ServerEvent) → Kept c g (onto (all_flushing s now cs all h) g)
rest_kept s now c [] all h g = kept_itself c g
rest_kept s now c (k ∷ cs) [] h g = kept_itself c g
rest_kept s now c (k ∷ cs) (p ∷ more) h g =
    let mine = flushing s now k p h in
    subst (λ z. Kept c g z) (sym (onto_append mine (all_flushing s now cs more h) g))
    (kept_then c g (onto mine g) (onto (all_flushing s now cs more h) (onto mine g))
    (all_kept c k mine g (flushing_is s now k h (socket_of k (notes h)) p)) (rest_kept s now c cs more h (onto mine g)))

rest_same : (s : Setup) (now c : ℕ) (cs : List ℕ) (all : List (List (List LinkFrame))) (h g : List ServerEvent) → is_in c cs ≡ false
    → Same c g (onto (all_flushing s now cs all h) g)
rest_same s now c [] all h g n = same_itself c g
rest_same s now c (k ∷ cs) [] h g n = same_itself c g
rest_same s now c (k ∷ cs) (p ∷ more) h g n =
    let parts = or_parts (c == k) (is_in c cs) n in
    let mine = flushing s now k p h in
    subst (λ z. Same c g z) (sym (onto_append mine (all_flushing s now cs more h) g))
    (same_then c g (onto mine g) (onto (all_flushing s now cs more h) (onto mine g))
    (all_same c k mine g parts.0 (flushing_is s now k h (socket_of k (notes h)) p)) (rest_same s now c cs more h (onto mine g) parts.1))

-- what is due looks at the settings and the moves alone
due_of : (c : ℕ) (h g : List ServerEvent) → settings_of c (work g) ≡ settings_of c (work h) → moves c (work g) ≡ moves c (work h)
    → due (config_of c h) (history c h) ≡ None → due (config_of c g) (history c g) ≡ None
due_of c h g settings_same moves_same e =
    ap (λ o. due (config_with o) (history_with o (peer c g))) settings_same
    ∙ ap (λ m. due (config_of c h) (history_with (settings_of c (work h)) m)) moves_same ∙ e

due_same : (c : ℕ) (h g : List ServerEvent) → Same c h g → due (config_of c h) (history c h) ≡ None → due (config_of c g) (history c g) ≡ None
due_same c h g a e = due_of c h g a.same_settings a.same_moves e

-- ---- the connection itself

with_lent : (o : Option Settings) (t : Settings) (f : LinkFrame) (m : List PeerEvent) → o ≡ Some t → history_with o (Plain (Step_of (Lent f)) ∷ m) ≡ Lent f ∷ history_with o m
with_lent None t f m e = absurd (cc)
with_lent (Some u) t f m e = refl

lent_on : (c : ℕ) (t : Settings) (f : LinkFrame) (h : List ServerEvent) → settings_of c (work h) ≡ Some t → history c (step c (Lent f) ∷ h) ≡ Lent f ∷ history c h
lent_on c t f h e =
    ap (λ b. history_with (settings_of c (work h)) (if b then Plain (Step_of (Lent f)) ∷ peer c h else peer c h)) (eq-eqb c c refl)
    ∙ with_lent (settings_of c (work h)) t f (peer c h) e

own_lends : (c : ℕ) (t : Settings) (fs : List LinkFrame) (h : List ServerEvent) → settings_of c (work h) ≡ Some t → LendsAll (config_of c h) (history c h) fs
    → due (config_of c (onto (lending c fs) h)) (history c (onto (lending c fs) h)) ≡ None
own_lends c t [] h e l = l
own_lends c t (f ∷ fs) h e l = own_lends c t fs (step c (Lent f) ∷ h) e (subst (λ x. LendsAll (config_of c h) x fs) (sym (lent_on c t f h e)) l.1)

written_work : (s : Setup) (c lane : ℕ) (pieces : List (List LinkFrame)) (h g : List ServerEvent) → work (onto (writing s c lane pieces h) g) ≡ work g
written_work s c lane [] h g = refl
written_work s c lane (p ∷ ps) h g = written_work s c lane ps h (Says (say.Bytes lane (bytes_of s c p h) (is_text (config_of c h) (history c h))) ∷ g)

-- by what the hub machine did alone
due_by_work : (c : ℕ) (w v : List MachineEvent) → v ≡ w → due (config_with (settings_of c w)) (history_with (settings_of c w) (moves c w)) ≡ None
    → due (config_with (settings_of c v)) (history_with (settings_of c v) (moves c v)) ≡ None
due_by_work c w v e d = ap (λ x. due (config_with (settings_of c x)) (history_with (settings_of c x) (moves c x))) e ∙ d

-- ---- the connections

is_in-append : (c : ℕ) (xs ys : List ℕ) → is_in c (xs ++ ys) ≡ (is_in c xs || is_in c ys)
is_in-append c [] ys = refl
is_in-append c (x ∷ xs) ys = ap (λ b. (c == x) || b) (is_in-append c xs ys) ∙ by (c == x) where
  by : (a : Bool) → (a || (is_in c xs || is_in c ys)) ≡ ((a || is_in c xs) || is_in c ys)
  by true = refl
  by false = refl

not_same : (m n : ℕ) → m < n → (n == m) ≡ false
not_same m n e = by (n == m) refl where
  by : (b : Bool) → (n == m) ≡ b → b ≡ false
  by true f = let same : n ≡ m = eqb-true n m f in absurd (omega arith)
  by false f = refl

above : (n c : ℕ) → n < c → is_in c (numbers_to n) ≡ false
above zero c e = refl
above (suc n) c e =
    is_in-append c (numbers_to n) (suc n ∷ []) ∙ ap (λ b. b || ((c == suc n) || false)) (above n c (omega arith)) ∙ ap (λ b. b || false) (not_same (suc n) c e)

one_less : (n c : ℕ) → c ≤ suc n → (c == suc n) ≡ false → c ≤ n
one_less n c e f = by (nat_le c n) refl where
  by : (b : Bool) → nat_le c n ≡ b → c ≤ n
  by true g = leb-true c n g
  by false g = let over = leb-false c n g in let same : (c == suc n) ≡ true = eq-eqb c (suc n) (omega arith) in absurd (cc)

pub within : (n c : ℕ) → 0 < c → c ≤ n → is_in c (numbers_to n) ≡ true
within zero c p e = absurd (omega arith)
within (suc n) c p e = by (c == suc n) refl (λ f. within n c p (one_less n c e f)) where
  by : (b : Bool) → (c == suc n) ≡ b → ((c == suc n) ≡ false → is_in c (numbers_to n) ≡ true) → is_in c (numbers_to n ++ suc n ∷ []) ≡ true
  by true f rest = is_in-append c (numbers_to n) (suc n ∷ []) ∙ or_right (is_in c (numbers_to n)) ((c == suc n) || false) (ap (λ b. b || false) f)
  by false f rest = is_in-append c (numbers_to n) (suc n ∷ []) ∙ ap (λ b. b || ((c == suc n) || false)) (rest f)

apart-last : (xs : List ℕ) (y : ℕ) → AreApart xs → is_in y xs ≡ false → AreApart (xs ++ y ∷ [])
apart-last [] y a e = (refl, tt)
apart-last (x ∷ xs) y a e =
    let parts = or_parts (y == x) (is_in y xs) e in
    (is_in-append x xs (y ∷ []) ∙ ap (λ b. b || ((x == y) || false)) a.0 ∙ ap (λ b. b || false) (nat_eq_equiv.symm x y ∙ parts.0), apart-last xs y a.1 parts.1)

pub numbers_apart : (n : ℕ) → AreApart (numbers_to n)
numbers_apart zero = tt
numbers_apart (suc n) = apart-last (numbers_to n) (suc n) (numbers_apart n) (above n (suc n) (omega arith))

module _ (t : ℕ → Bool) where
  out-filter : (c : ℕ) (xs : List ℕ) → is_in c xs ≡ false → is_in c (filter t xs) ≡ false
  out-filter c [] e = refl
  out-filter c (x ∷ xs) e = let parts = or_parts (c == x) (is_in c xs) e in by (t x) parts.0 (out-filter c xs parts.1) where
    by : (b : Bool) → (c == x) ≡ false → is_in c (filter t xs) ≡ false → is_in c (if b then x ∷ filter t xs else filter t xs) ≡ false
    by true f g = rw (f, g) refl
    by false f g = g

  pub apart-filter : (xs : List ℕ) → AreApart xs → AreApart (filter t xs)
  apart-filter [] a = tt
  apart-filter (x ∷ xs) a = by (t x) (apart-filter xs a.1) where
    by : (b : Bool) → AreApart (filter t xs) → AreApart (if b then x ∷ filter t xs else filter t xs)
    by true g = (out-filter x xs a.0, g)
    by false g = g

  pub in-filter : (c : ℕ) (xs : List ℕ) → t c ≡ true → is_in c xs ≡ true → is_in c (filter t xs) ≡ true
  in-filter c [] e i = absurd (cc)
  in-filter c (x ∷ xs) e i = by (c == x) refl (t x) refl i (in-filter c xs e) where
    by : (a : Bool) → (c == x) ≡ a → (b : Bool) → t x ≡ b → (a || is_in c xs) ≡ true → (is_in c xs ≡ true → is_in c (filter t xs) ≡ true)
        → is_in c (if b then x ∷ filter t xs else filter t xs) ≡ true
    by true f true g j rest = ap (λ b. b || is_in c (filter t xs)) f
    by true f false g j rest = let same : c ≡ x = eqb-true c x f in let its : t c ≡ false = ap t same ∙ g in absurd (cc)
    by false f true g j rest = or_right (c == x) (is_in c (filter t xs)) (rest j)
    by false f false g j rest = rest j

pub some_of : {A : Type 0} (o : Option A) → is_some o ≡ true → (x : A) × (o ≡ Some x)
some_of None e = absurd (cc)
some_of (Some x) e = (x, refl)

pub to_greatest : (c : ℕ) (t : Settings) (w : List MachineEvent) → settings_of c w ≡ Some t → c ≤ greatest w
to_greatest c t [] e = absurd (cc)
to_greatest c t (Connects k u user ∷ w) e = by (c == k) refl e (to_greatest c t w) where
  by : (b : Bool) → (c == k) ≡ b → (if b then Some u else settings_of c w) ≡ Some t → (settings_of c w ≡ Some t → c ≤ greatest w) → c ≤ max k (greatest w)
  by true f g rest = let same : c ≡ k = eqb-true c k f in omega arith
  by false f g rest = let under = rest g in omega arith
to_greatest c t (x ∷ w) e = to_greatest c t w e

-- ---- the whole of it

-- it stands on a socket, or holds a poll
abbrev reaches : ℕ → List ServerEvent → Bool
reaches c h = is_some (socket_of c (notes h)) || is_some (poll_of c (notes h))

-- it is gone, or nothing is due, or nothing can be said
abbrev IsDone : ℕ → List ServerEvent → Type 0
IsDone c x = (has_gone c (work x) ≡ true) ⊎ ((due (config_of c x) (history c x) ≡ None) ⊎ (reaches c x ≡ false))

-- the connection's own words, said after those of others
own_tells : (s : Setup) (c lane : ℕ) (t : Settings) (pieces : List (List LinkFrame)) (h g : List ServerEvent) → Same c h g → settings_of c (work h) ≡ Some t
    → has_peer c h ≡ true → LendsAll (config_of c h) (history c h) (all_of pieces) → IsDone c (onto (flushing_socket s c lane pieces h) g)
own_tells s c lane t pieces h g same e there l = by (has_closed c h) where
  begun : settings_of c (work g) ≡ Some t
  begun = same.same_settings ∙ e

  config_same : config_of c h ≡ config_of c g
  config_same = ap config_with (sym same.same_settings)

  history_same : history c h ≡ history c g
  history_same = ap (λ o. history_with o (peer c h)) (sym same.same_settings) ∙ ap (λ m. history_with (settings_of c (work g)) m) (sym same.same_moves)

  lends : LendsAll (config_of c g) (history c g) (all_of pieces)
  lends = subst (λ x. LendsAll (config_of c g) x (all_of pieces)) history_same (subst (λ x. LendsAll x (history c h) (all_of pieces)) config_same l)

  base : due (config_of c (onto (lending c (all_of pieces) ++ writing s c lane pieces h) g)) (history c (onto (lending c (all_of pieces) ++ writing s c lane pieces h) g)) ≡ None
  base = due_by_work c (work (onto (lending c (all_of pieces)) g)) (work (onto (lending c (all_of pieces) ++ writing s c lane pieces h) g))
      (ap work (onto_append (lending c (all_of pieces)) (writing s c lane pieces h) g) ∙ written_work s c lane pieces h (onto (lending c (all_of pieces)) g))
      (own_lends c t (all_of pieces) g begun lends)

  gone_by : (b : Bool) (x : List ServerEvent) → b ≡ true → has_gone c (work (onto ((if b then Works (Goes c) ∷ [] else []) ++ Notes (Removed c) ∷ []) x)) ≡ true
  gone_by true x f = ap (λ y. y || has_gone c (work x)) (eq-eqb c c refl)
  gone_by false x f = absurd (cc)

  by : (b : Bool) → IsDone c (onto (lending c (all_of pieces) ++ writing s c lane pieces h ++ (if b then shutting lane h ++ removing_conn c h else [])) g)
  by true = inl (ap (λ x. has_gone c (work x)) (onto_append (lending c (all_of pieces) ++ writing s c lane pieces h) (shutting lane h ++ removing_conn c h) g
      ∙ onto_append (shutting lane h) (removing_conn c h) (onto (lending c (all_of pieces) ++ writing s c lane pieces h) g))
      ∙ gone_by (has_peer c h) (onto (shutting lane h) (onto (lending c (all_of pieces) ++ writing s c lane pieces h) g)) there)
  by false = inr (inl (due_by_work c (work (onto (lending c (all_of pieces) ++ writing s c lane pieces h) g)) (work (onto (lending c (all_of pieces) ++ writing s c lane pieces h ++ []) g))
      (ap work (onto_append (lending c (all_of pieces) ++ writing s c lane pieces h) [] g)) base))

-- ---- without a socket

-- what makes no step of an end
abbrev IsStill : ServerEvent → Type 0
IsStill (Works (Goes c)) = Unit {0}
IsStill (Works x) = ⊥
IsStill d = Unit {0}

-- what doesn't touch a poll that is held
abbrev IsUnpolled : ServerEvent → Type 0
IsUnpolled (Notes (Ended c now)) = Unit {0}
IsUnpolled (Notes note) = ⊥
IsUnpolled d = Unit {0}

still_moves : (c : ℕ) (ds g : List ServerEvent) → Each IsStill ds → moves c (work (onto ds g)) ≡ moves c (work g)
still_moves c [] g a = refl
still_moves c (Works (Goes k) ∷ ds) g a = still_moves c ds (Works (Goes k) ∷ g) a.1
still_moves c (Works x ∷ ds) g a = absurd a.0
still_moves c (d ∷ ds) g a = still_moves c ds (d ∷ g) a.1

unpolled : (c : ℕ) (ds g : List ServerEvent) → Each IsUnpolled ds → poll_of c (notes (onto ds g)) ≡ poll_of c (notes g)
unpolled c [] g a = refl
unpolled c (Notes (Ended k now) ∷ ds) g a = unpolled c ds (Notes (Ended k now) ∷ g) a.1
unpolled c (Notes note ∷ ds) g a = absurd a.0
unpolled c (d ∷ ds) g a = unpolled c ds (d ∷ g) a.1

-- a poll that isn't held isn't held once more was told
none_held : (b : Bool) (o : Option (ℕ × ℕ)) → o ≡ None → (if b then None else o) ≡ None
none_held true o e = refl
none_held false o e = e

stays_none : (c k : ℕ) (ds g : List ServerEvent) → Each (IsFlush k) ds → poll_of c (notes g) ≡ None → poll_of c (notes (onto ds g)) ≡ None
stays_none c k [] g a e = e
stays_none c k (Notes (Answered x lane now) ∷ ds) g a e =
    stays_none c k ds (Notes (Answered x lane now) ∷ g) a.1 (none_held ((c == x) && is_this lane (option_map (λ poll. poll.0) (poll_of c (notes g)))) (poll_of c (notes g)) e)
stays_none c k (Notes (Polled x lane now) ∷ ds) g a e = absurd a.0
stays_none c k (Notes (LaneLost x lane now) ∷ ds) g a e = absurd a.0
stays_none c k (d ∷ ds) g a e = stays_none c k ds (d ∷ g) a.1 e

empty_still : (s : Setup) (now c : ℕ) (poll : ℕ × ℕ) (h : List ServerEvent) → Each IsStill (flushing_poll s now c poll [] h)
empty_still s now c poll h =
    either_way (Each IsStill) (has_closed c h) _ _
    (each_join IsStill (replying poll.0 (bare_reply 204) h) (removing_conn c h) (each_replying IsStill poll.0 (bare_reply 204) h tt tt) (each_removing IsStill c h tt tt))
    (each_when IsStill (nat_le (poll.1 + held_for) now) (replying poll.0 (bare_reply 200) h ++ Notes (Answered c poll.0 now) ∷ [])
    (each_join IsStill (replying poll.0 (bare_reply 200) h) (Notes (Answered c poll.0 now) ∷ []) (each_replying IsStill poll.0 (bare_reply 200) h tt tt) (tt, tt)))

-- a poll that is held, by what is due
held_tells : (s : Setup) (now c : ℕ) (poll : ℕ × ℕ) (fs : List LinkFrame) (h g : List ServerEvent) → Same c h g → socket_of c (notes h) ≡ None
    → poll_of c (notes h) ≡ Some poll → LendsUpTo s.wire (config_of c h) (history c h) 0 fs
    → IsDone c (onto (ending now c h ++ flushing_poll s now c poll fs h) g)
held_tells s now c poll [] h g same sock held l =
    let words : List ServerEvent = ending now c h ++ flushing_poll s now c poll [] h in
    let nothing : due (config_of c h) (history c h) ≡ None = ⊎_elim (λ e. e) (λ over. absurd (let no : ⊥ = omega (arith, over) in no)) l in
    let all_still = each_join IsStill (ending now c h) (flushing_poll s now c poll [] h) (each_ending IsStill now c h tt) (empty_still s now c poll h) in
    let all_tell = each_join (IsFlush c) (ending now c h) (flushing_poll s now c poll [] h) (each_ending (IsFlush c) now c h refl) (poll_flush s now c h poll []) in
    inr (inl (due_of c h (onto words g) ((all_kept c c words g all_tell).kept_settings ∙ same.same_settings) (still_moves c words g all_still ∙ same.same_moves) nothing))
held_tells s now c poll (f ∷ fs) h g same sock held l =
    let reply : List ServerEvent = replying poll.0 (frames_reply (bytes_of s c (f ∷ fs) h)) h in
    let before : List ServerEvent = onto (lending c (f ∷ fs) ++ reply) (onto (ending now c h) g) in
    let words : List ServerEvent = lending c (f ∷ fs) ++ reply ++ Notes (Answered c poll.0 now) ∷ [] in
    let is : onto (ending now c h ++ words) g ≡ Notes (Answered c poll.0 now) ∷ before
    = onto_append (ending now c h) words g ∙ onto_append (lending c (f ∷ fs) ++ reply) (Notes (Answered c poll.0 now) ∷ []) (onto (ending now c h) g) in
    let still_held : poll_of c (notes before) ≡ Some poll
    = unpolled c (lending c (f ∷ fs) ++ reply) (onto (ending now c h) g)
    (each_join IsUnpolled (lending c (f ∷ fs)) reply (each_lending IsUnpolled c (f ∷ fs) (λ x. tt)) (each_replying IsUnpolled poll.0 (frames_reply (bytes_of s c (f ∷ fs) h)) h tt tt))
    ∙ unpolled c (ending now c h) g (each_ending IsUnpolled now c h tt) ∙ same.same_poll ∙ held in
    let all_tell = each_join (IsFlush c) (ending now c h) words (each_ending (IsFlush c) now c h refl) (poll_flush s now c h poll (f ∷ fs)) in
    let no_socket : socket_of c (notes (onto (ending now c h ++ words) g)) ≡ None
    = (all_kept c c (ending now c h ++ words) g all_tell).kept_socket ∙ same.same_socket ∙ sock in
    let no_poll : poll_of c (notes (onto (ending now c h ++ words) g)) ≡ None
    = ap (λ x. poll_of c (notes x)) is
    ∙ ap (λ o. if (c == c) && is_this poll.0 (option_map (λ p. p.0) o) then None else o) still_held
    ∙ ap (λ b. if b && (poll.0 == poll.0) then None else Some poll) (eq-eqb c c refl)
    ∙ ap (λ b. if b then None else Some poll) (eq-eqb poll.0 poll.0 refl) in
    inr (inr (rw (no_socket, no_poll) refl))

by_poll : (s : Setup) (now c : ℕ) (pieces : List (List LinkFrame)) (h g : List ServerEvent) (o : Option (ℕ × ℕ)) → o ≡ poll_of c (notes h)
    → Same c h g → socket_of c (notes h) ≡ None → AreDueOn s c None o pieces h → IsDone c (onto (flushing_on s now c None pieces h) g)
by_poll s now c pieces h g None e same sock d =
    let words : List ServerEvent = flushing_on s now c None pieces h in
    let tells : Each (IsFlush c) words = flushing_is s now c h None pieces in
    let no_socket : socket_of c (notes (onto words g)) ≡ None = (all_kept c c words g tells).kept_socket ∙ same.same_socket ∙ sock in
    let no_poll : poll_of c (notes (onto words g)) ≡ None = stays_none c c words g tells (same.same_poll ∙ sym e) in
    inr (inr (rw (no_socket, no_poll) refl))
by_poll s now c pieces h g (Some poll) e same sock d =
    let is : flushing_on s now c None pieces h ≡ ending now c h ++ flushing_poll s now c poll (all_of pieces) h = rw (← e) refl in
    subst (λ x. IsDone c (onto x g)) (sym is) (held_tells s now c poll (all_of pieces) h g same sock (sym e) d)

-- ---- with a socket or without

with_any : (s : Setup) (now c : ℕ) (t : Settings) (pieces : List (List LinkFrame)) (h g : List ServerEvent) (o : Option ℕ) → o ≡ socket_of c (notes h)
    → Same c h g → settings_of c (work h) ≡ Some t → has_peer c h ≡ true → is_full_some o h ≡ false
    → AreDueOn s c o (poll_of c (notes h)) pieces h → IsDone c (onto (flushing_on s now c o pieces h) g)
with_any s now c t pieces h g (Some lane) e same te there free d =
    let due_there : AreDueBy false c pieces h = subst (λ b. AreDueBy (b && not (has_closed c h)) c pieces h) free d in
    own_tells s c lane t pieces h g same te there due_there.1
with_any s now c t pieces h g None e same te there free d = by_poll s now c pieces h g (poll_of c (notes h)) refl same (sym e) d

out_of_reach : (c : ℕ) (h g : List ServerEvent) → Same c h g → reaches c h ≡ false → reaches c g ≡ false
out_of_reach c h g same e = ap (λ o. is_some o || is_some (poll_of c (notes g))) same.same_socket ∙ ap (λ o. is_some (socket_of c (notes h)) || is_some o) same.same_poll ∙ e

-- among all that are told
walk : (s : Setup) (now c : ℕ) (t : Settings) (cs : List ℕ) (all : List (List (List LinkFrame))) (h g : List ServerEvent) → AreAllDue s cs all h → AreApart cs
    → is_in c cs ≡ true → Same c h g → settings_of c (work h) ≡ Some t → has_peer c h ≡ true → is_full_some (socket_of c (notes h)) h ≡ false
    → IsDone c (onto (all_flushing s now cs all h) g)
walk s now c t [] all h g d apart i same te there free = absurd (cc)
walk s now c t (k ∷ cs) [] h g d apart i same te there free = absurd d
walk s now c t (k ∷ cs) (p ∷ more) h g d apart i same te there free =
    subst (λ z. IsDone c z) (sym (onto_append (flushing s now k p h) (all_flushing s now cs more h) g))
    (by (c == k) refl i (λ f j. walk s now c t cs more h (onto (flushing s now k p h) g) d.1 apart.1 j
    (same_then c h g (onto (flushing s now k p h) g) same (all_same c k (flushing s now k p h) g f (flushing_is s now k h (socket_of k (notes h)) p))) te there free)) where
      by : (b : Bool) → (c == k) ≡ b → (b || is_in c cs) ≡ true
          → ((c == k) ≡ false → is_in c cs ≡ true → IsDone c (onto (all_flushing s now cs more h) (onto (flushing s now k p h) g)))
          → IsDone c (onto (all_flushing s now cs more h) (onto (flushing s now k p h) g))
      by true f j go =
          let is : k ≡ c = sym (eqb-true c k f) in
          let out : is_in c cs ≡ false = subst (λ x. is_in x cs ≡ false) is apart.0 in
          let mine : AreDue s c p h = subst (λ x. AreDue s x p h) is d.0 in
          let own : IsDone c (onto (flushing s now c p h) g) = with_any s now c t p h g (socket_of c (notes h)) refl same te there free mine in
          let now_k : IsDone c (onto (flushing s now k p h) g) = subst (λ x. IsDone c (onto (flushing s now x p h) g)) (sym is) own in
          ⊎_elim
          (λ e. inl ((rest_kept s now c cs more h (onto (flushing s now k p h) g)).kept_gone e))
          (λ rest. inr (⊎_elim
          (λ e. inl (due_same c (onto (flushing s now k p h) g) (onto (all_flushing s now cs more h) (onto (flushing s now k p h) g)) (rest_same s now c cs more h (onto (flushing s now k p h) g) out) e))
          (λ e. inr (out_of_reach c (onto (flushing s now k p h) g) (onto (all_flushing s now cs more h) (onto (flushing s now k p h) g)) (rest_same s now c cs more h (onto (flushing s now k p h) g) out) e))
          rest))
          now_k
      by false f j go = go f j

not_gone_before : (a b : Bool) → (a ≡ true → b ≡ true) → b ≡ false → a ≡ false
not_gone_before true b f e = let g : b ≡ true = f refl in absurd (cc)
not_gone_before false b f e = refl

-- the lane of a socket is full by what is full of each lane
same_full : (o : Option ℕ) (g h : List ServerEvent) → ((lane : ℕ) → is_full lane h ≡ is_full lane g) → is_full_some o h ≡ is_full_some o g
same_full None g h same = refl
same_full (Some lane) g h same = same lane

-- one that is there after all was told was there before
all_told : (s : Setup) (now c : ℕ) (all : List (List (List LinkFrame))) (h after : List ServerEvent) → AreAllDue s (connections (work h)) all h
    → after ≡ onto (all_flushing s now (connections (work h)) all h) h → 0 < c → has_peer c after ≡ true → reaches c after ≡ true
    → is_full_some (socket_of c (notes after)) after ≡ false → due (config_of c after) (history c after) ≡ None
all_told s now c all h after d is positive there reached free =
    let kept = subst (λ z. Kept c h z) (sym is) (rest_kept s now c (connections (work h)) all h h) in
    let parts = and_parts _ _ there in
    let stays : has_gone c (work after) ≡ false = not-true _ parts.1 in
    let was : is_some (settings_of c (work h)) ≡ true = ap (λ o. is_some o) (sym kept.kept_settings) ∙ parts.0 in
    let stayed : has_gone c (work h) ≡ false = not_gone_before _ _ kept.kept_gone stays in
    let there_then : has_peer c h ≡ true = rw (was, stayed) refl in
    let begun = some_of (settings_of c (work h)) was in
    let free_then : is_full_some (socket_of c (notes h)) h ≡ false
    = same_full (socket_of c (notes h)) after h (λ lane. sym (kept.kept_full lane)) ∙ ap (λ o. is_full_some o after) (sym kept.kept_socket) ∙ free in
    let listed : is_in c (connections (work h)) ≡ true
    = in-filter (λ k. is_there k (work h)) c (numbers_to (greatest (work h))) there_then
    (within (greatest (work h)) c positive (to_greatest c begun.0 (work h) begun.1)) in
    let done : IsDone c after = subst (λ z. IsDone c z) (sym is)
    (walk s now c begun.0 (connections (work h)) all h h d
    (apart-filter (λ k. is_there k (work h)) (numbers_to (greatest (work h))) (numbers_apart (greatest (work h))))
    listed (same_itself c h) begun.1 there_then free_then) in
    ⊎_elim (λ g. absurd (cc)) (λ rest. ⊎_elim (λ e. e) (λ e. absurd (cc)) rest) done

pub nothing_is_left : {Job : Type 0} → NothingIsLeft Job
nothing_is_left hub s now event h after turn c positive there reached free =
    all_told s now c turn.pieces turn.stepped after turn.all_due turn.tells positive there reached free
