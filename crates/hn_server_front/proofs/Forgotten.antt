-- Each connection that is there is either known at a moment, or waits, past it, and is unknown.
use Rattle.std.proofs.Common.{◌≡◌, ℕ, ◌+◌, ◌<◌, ◌≤◌, Bool, true, false, cond, ◌&&◌, ◌||◌, not, inl, inr, List, [], ◌∷◌, length, filter, Option, Some, None, is_some, option_map, unwrap_or, nat_le, nat_lt, refl, sym, ap, ◌∙◌, arith}
use Rattle.std.proofs.lemmas.Bool.{and_from, both_ways, and_parts, or_right, false_from_ne_true, true_from_ne_false, not-true, cases_Bool, lt-ltb, le-leb}
use Rattle.indexmap.specs.IndexMap.{index_map_len}
use Rattle.hd_delivery.specs.Histories.{first_of}
use Rattle.hd_server.specs.Numbers.{lives_for}
use Rattle.hd_server.specs.Lives.{ConnectionEvent, made, is_made, is_removed, is_known, is_opened, negotiated_at, is_past, deadline, life_of, live, past, standing, when, ended_at, socket_of, lost_at, is_polling}
use Rattle.hd_server.specs.declared.vocabulary.Life.{Life}
use Rattle.hd_server.specs.declared.vocabulary.Life.TheVariants.{Unknown, Fresh, Socket, Lost, Polling, Ending}
use Rattle.hn_server_front.specs.declared.entry.Entry.{Entry}
use Rattle.hn_server_front.specs.declared.front.Front.{Front}
use Rattle.hn_server_front.specs.declared.moments.Waiting.{Waiting}
use Rattle.hn_server_front.specs.Moments.{is_due, is_same, is_within}
use Rattle.hn_server_front.specs.Stands.{Stands, IsEntryOf, entry_at, is_there, since_of}
use Rattle.hn_server_front.proofs.Counting.{count_sum, first_within, is_this_at, since_is_there, waiting_counted}

-- ---- lists

filter_twice : {A : Type 0} (p q : A → Bool) (xs : List A) → filter p (filter q xs) ≡ filter (λ x. q x && p x) xs
filter_twice {A} p q [] = refl
filter_twice {A} p q (x ∷ xs) = go (q x) (p x) refl (filter_twice p q xs)
  where
    go : (b c : Bool) → p x ≡ c → filter p (filter q xs) ≡ filter (λ y. q y && p y) xs
        → filter p (cond b (x ∷ filter q xs) (filter q xs)) ≡ cond (b && c) (x ∷ filter (λ y. q y && p y) xs) (filter (λ y. q y && p y) xs)
    go true true f e = ap (λ b. cond b (x ∷ filter p (filter q xs)) (filter p (filter q xs))) f ∙ ap (λ ys. x ∷ ys) e
    go true false f e = ap (λ b. cond b (x ∷ filter p (filter q xs)) (filter p (filter q xs))) f ∙ e
    go false c f e = e

filter_members : (p q : Waiting → Bool) (ws : List Waiting) → ((w : Waiting) → is_within w ws ≡ true → p w ≡ q w) → filter p ws ≡ filter q ws
filter_members p q [] f = refl
filter_members p q (w ∷ ws) f =
    ap (λ b. cond b (w ∷ filter p ws) (filter p ws)) (f w (first_within w ws))
    ∙ ap (λ vs. cond (q w) (w ∷ vs) vs) (filter_members p q ws (λ v i. f v (or_right (is_same v w) (is_within v ws) i)))

-- ---- lives

-- a life but for moments, by what stands of it
abbrev life_by : (gone ended : Bool) (socket : Option ℕ) (lost polling begun : Bool) → Life
life_by gone ended socket lost polling begun = unwrap_or
    (first_of (when gone Unknown)
    (first_of (when ended Ending)
    (first_of (option_map Socket socket)
    (first_of (when lost Lost)
    (first_of (when polling Polling)
    (when begun Fresh)))))) Unknown

known_by : (ended : Bool) (socket : Option ℕ) (lost polling begun : Bool) → begun ≡ true → is_known (life_by false ended socket lost polling begun) ≡ true
known_by true socket lost polling begun e = refl
known_by false (Some lane) lost polling begun e = refl
known_by false None true polling begun e = refl
known_by false None false true begun e = refl
known_by false None false false true e = refl
known_by false None false false false e = e

standing_known : (c : ℕ) (h : List ConnectionEvent) → is_removed c h ≡ false → (is_opened c h || is_some (negotiated_at c h)) ≡ true → is_known (standing c h) ≡ true
standing_known c h held begun =
    let has_begun : Bool = is_opened c h || is_some (negotiated_at c h) in
    ap (λ b. is_known (life_by b (is_some (ended_at c h)) (socket_of c h) (is_some (lost_at c h)) (is_polling c h) has_begun)) held
    ∙ known_by (is_some (ended_at c h)) (socket_of c h) (is_some (lost_at c h)) (is_polling c h) has_begun begun

standing_gone : (c : ℕ) (h : List ConnectionEvent) → is_removed c h ≡ true → standing c h ≡ Unknown
standing_gone c h e = rw e refl

begun_there : (f : Front) (h : List ConnectionEvent) (c : ℕ) → Stands f h → is_there c h ≡ true → (is_opened c h || is_some (negotiated_at c h)) ≡ true
begun_there f h c stands there = go (entry_at f c) (stands.entries c)
  where
    go : (o : Option Entry) → IsEntryOf o c h → (is_opened c h || is_some (negotiated_at c h)) ≡ true
    go None e = absurd (let z : true ≡ false = sym there ∙ e in cc)
    go (Some e) r = r.begun

-- one that is unknown and is there is past its moment
past_moment : (c now : ℕ) (h : List ConnectionEvent) → is_known (standing c h) ≡ true → is_known (life_of c now h) ≡ false → is_past now (deadline c h) ≡ true
past_moment c now h known unknown = true_from_ne_false (is_past now (deadline c h)) (λ e.
    let same : is_known (life_of c now h) ≡ is_known (standing c h) = ap (λ b. is_known (cond b (past (standing c h)) (standing c h))) e in
    both_ways (is_known (standing c h)) (sym same ∙ unknown) known)

has_moment : (now : ℕ) (o : Option ℕ) → is_past now (option_map (λ moment. moment + lives_for) o) ≡ true → is_some o ≡ true
has_moment now None e = e
has_moment now (Some m) e = refl

-- ---- numbers

one_of_both : (a d k : Bool) → (k ≡ false → a ≡ true) → (k ≡ false → d ≡ true) → ◌≡◌ {A = ℕ} (cond (a && (d && not k)) 1 0 + cond k 1 0) 1
one_of_both true true true f g = refl
one_of_both true false true f g = refl
one_of_both false d true f g = refl
one_of_both true true false f g = refl
one_of_both true false false f g = absurd (let z : false ≡ true = g refl in cc)
one_of_both false d false f g = absurd (let z : false ≡ true = f refl in cc)

none_of_both : (a d k : Bool) → a ≡ false → k ≡ false → ◌≡◌ {A = ℕ} (cond (a && (d && not k)) 1 0 + cond k 1 0) 0
none_of_both true d k e f = absurd (let z : true ≡ false = e in cc)
none_of_both false d true e f = absurd (let z : true ≡ false = f in cc)
none_of_both false d false e f = refl

-- one past its moment is forgotten if it is unknown
abbrev forgotten : ℕ → ℕ → List ConnectionEvent → Bool
forgotten now c h = is_past now (deadline c h) && not (is_known (life_of c now h))

abbrev known_or_forgotten : ℕ → ℕ → List ConnectionEvent → ℕ
known_or_forgotten now c h = cond (is_some (since_of c h) && forgotten now c h) 1 0 + cond (is_known (life_of c now h)) 1 0

-- it is known, or waits and is forgotten, exactly if it is there
each : (f : Front) (h : List ConnectionEvent) (now : ℕ) → Stands f h → (c : ℕ) → 0 < c → c ≤ made h → known_or_forgotten now c h ≡ cond (is_there c h) 1 0
each f h now stands c l m = elim (cases_Bool (is_there c h)) [ inl e ↦ there e | inr e ↦ away e ]
  where
    there : is_there c h ≡ true → known_or_forgotten now c h ≡ cond (is_there c h) 1 0
    there e =
        let held : is_removed c h ≡ false = not-true (is_removed c h) (and_parts (is_made c h) (not (is_removed c h)) e).1 in
        let known = standing_known c h held (begun_there f h c stands e) in
        one_of_both (is_some (since_of c h)) (is_past now (deadline c h)) (is_known (life_of c now h))
        (λ u. has_moment now (since_of c h) (past_moment c now h known u))
        (λ u. past_moment c now h known u)
        ∙ sym (ap (λ b. cond b 1 0) e)

    away : is_there c h ≡ false → known_or_forgotten now c h ≡ cond (is_there c h) 1 0
    away e =
        let made_so : is_made c h ≡ true = and_from (nat_lt 0 c) (nat_le c (made h)) (lt-ltb 0 c l) (le-leb c (made h) m) in
        let gone : is_removed c h ≡ true =
        true_from_ne_false (is_removed c h) (λ x. both_ways (is_there c h) e (and_from (is_made c h) (not (is_removed c h)) made_so (ap not x))) in
        let none : is_some (since_of c h) ≡ false =
        false_from_ne_true (is_some (since_of c h)) (λ x. both_ways (is_there c h) e (since_is_there f h c stands x)) in
        let unknown : is_known (life_of c now h) ≡ false = ap is_known (unpast (since_of c h) (standing c h) none ∙ standing_gone c h gone) in
        none_of_both (is_some (since_of c h)) (is_past now (deadline c h)) (is_known (life_of c now h)) none unknown
        ∙ sym (ap (λ b. cond b 1 0) e)
      where
        unpast : (o : Option ℕ) (life : Life) → is_some o ≡ false → cond (is_past now (option_map (λ moment. moment + lives_for) o)) (past life) life ≡ life
        unpast None life x = refl
        unpast (Some k) life x = absurd (both_ways true x refl)

-- ---- those that are forgotten

due_past : (f : Front) (h : List ConnectionEvent) (now : ℕ) → Stands f h → (w : Waiting) → is_within w f.moments.waiting.items ≡ true
    → is_due f.moments.lasts now w ≡ is_past now (deadline w.conn h)
due_past f h now stands w within =
    let his = is_this_at w.since (since_of w.conn h) (sym (stands.waiting w) ∙ within) in
    ap (λ n. is_due n now w) stands.lasts ∙ sym (ap (λ o. is_past now (option_map (λ moment. moment + lives_for) o)) his)

pub forgotten_counted : (f : Front) (h : List ConnectionEvent) (now : ℕ) → Stands f h
    → length (filter (λ w. not (is_known (life_of w.conn now h))) (filter (λ w. is_due f.moments.lasts now w) f.moments.waiting.items))
    + length (live now h) ≡ index_map_len f.entries
forgotten_counted f h now stands =
    let ws : List Waiting = f.moments.waiting.items in
    let unknown : Waiting → Bool = λ w. not (is_known (life_of w.conn now h)) in
    let twice = ap length (filter_twice unknown (λ w. is_due f.moments.lasts now w) ws) in
    let due : (w : Waiting) → is_within w ws ≡ true → (is_due f.moments.lasts now w && unknown w) ≡ forgotten now w.conn h =
    λ w i. ap (λ b. b && unknown w) (due_past f h now stands w i) in
    let members = ap length (filter_members (λ w. is_due f.moments.lasts now w && unknown w) (λ w. forgotten now w.conn h) ws due) in
    let counted = waiting_counted f h (λ c. forgotten now c h) stands in
    let both = count_sum (made h) (λ c. is_some (since_of c h) && forgotten now c h) (λ c. is_known (life_of c now h)) (λ c. is_there c h)
    (each f h now stands) in
    omega (arith, twice, members, counted, both, stands.size)

pub live_few : (f : Front) (h : List ConnectionEvent) (now : ℕ) → Stands f h → length (live now h) ≤ index_map_len f.entries
live_few f h now stands = let counted = forgotten_counted f h now stands in omega (arith, counted)
