-- One more connection: what is kept of it, and that the front stands for its note.
use Rattle.std.proofs.Common.{◌≡◌, ℕ, suc, ◌+◌, ◌<◌, ◌≤◌, Bool, true, false, cond, ◌&&◌, ◌||◌, ◌==◌, not, inl, inr, List, ◌∷◌, length, filter, Option, Some, None, is_some, option_map, unwrap_or, Result, Ok, Err, is_err, IsOk, OnOk, IfOk, nat_cmp, nat_eq, nat_le, nat_lt, refl, sym, ap, subst, ◌∙◌, arith, eq-eqb, ne_eqb, if◌then◌else◌}
use Rattle.std.proofs.lemmas.Bool.{and_from, and_parts, and_left, and_right, or_left, or_right, both_ways, false_from_ne_true, true_from_ne_false, cases_Bool, cases_eq, cases_lt, leb-true, lt-ltb, le-leb, lt-leb}
use Rattle.std.specs.BTreeMap as tree
use Rattle.std.specs.Cmp.Lexicographic.{slice_cmp, nat_list_eq_equiv}
use Rattle.std.specs.Map.{lookup}
use Rattle.std.specs.Vec.{vec_capacity}
use Rattle.indexmap.specs.IndexMap.{IndexMap, get, index_map_len, spare, Updates}
use Rattle.hd_delivery.specs.Histories.{is_this}
use Rattle.hd_server.specs.Numbers.{lives_for, most_connections}
use Rattle.hd_server.specs.declared.vocabulary.Life.{Life}
use Rattle.hd_server.specs.declared.vocabulary.Life.TheVariants.{Unknown, Fresh, Socket, Lost, Polling, Ending}
use Rattle.hd_server.specs.Lives.{ConnectionEvent, Negotiated, Opened, made, numbers_to, is_made, is_removed, is_opened, is_known, is_past, negotiated_at, is_resumable_promise, socket_of, lost_at, poll_of, poll_ended, ended_at, conn_with, deadline, life_of, live, past, standing, since}
use Rattle.hn_server_front.specs.declared.entry.Entry.{Entry}
use Rattle.hn_server_front.specs.declared.entry.Told.{Told}
use Rattle.hn_server_front.specs.declared.front.Front.{Front}
use Rattle.hn_server_front.specs.declared.moments.Waiting.{Waiting}
use Rattle.hn_server_front.specs.Entries.{Remembers, IsNew, held_as, moment_told, promise_told, text_told, token_told}
use Rattle.hn_server_front.specs.Moments.{IsInOrder, at, is_within, waits_as}
use Rattle.hn_server_front.specs.Stands.{HasRoom, IsEntered, IsRoomier, IsEntryOf, IsUnborn, Stands, TokensAgree, conn_at, entry_at, held_since, is_there, is_waiting, kept, since_of, IsTokenOf}
use Rattle.hd_server.specs.Laws.{TokensDiffer}
use Rattle.hm_message.specs.Same.{same_text}
use Rattle.std.proofs.lemmas.Map.Text.{is_eq-slice_cmp}
use Rattle.std.proofs.lemmas.Slice.Eq.{bytes_eq-Decides}
use Rattle.hn_server_front.proofs.Counting.{count, count_alike, count_next, since_unborn, waiting_few}

-- ---- one entry more

pub entry_entered : {X S E : Type 0} (m n : IndexMap ℕ X S) (k : ℕ) (x : X) (r : Result (Option X) E)
    → IsOk r → OnOk r (Updates nat_eq m n k (Some x)) → (q : ℕ) → get nat_eq n q ≡ (if k == q then Some x else get nat_eq m q)
entry_entered m n k x (Err e) ok u q = absurd (let z : false ≡ true = ok in cc)
entry_entered m n k x (Ok old) ok u q = u.0 q

pub one_entered : {X S E : Type 0} (m n : IndexMap ℕ X S) (k : ℕ) (r : Result (Option X) E)
    → IsOk r → IfOk r (λ old. old ≡ get nat_eq m k) → IfOk r (λ old. index_map_len n ≡ index_map_len m + (if is_some old then 0 else 1))
    → get nat_eq m k ≡ None → index_map_len n ≡ suc (index_map_len m)
one_entered m n k (Err e) ok o l absent = absurd (let z : false ≡ true = ok in cc)
one_entered m n k (Ok old) ok o l absent =
    let more = l ∙ ap (λ o. index_map_len m + (if is_some o then 0 else 1)) (o ∙ absent) in
    omega (arith, more)

pub wait_entered : (c : ℕ) (moment : Option ℕ) (before after : List Waiting) → waits_as c moment after
    → ((since k : ℕ) → (k ≡ c → ⊥) → is_within (at since k) after ≡ is_within (at since k) before)
    → (w : Waiting) → is_within w after ≡ (if c == w.conn then is_this w.since moment else is_within w before)
wait_entered c moment before after own others w = elim (cases_eq c w.conn) [
  | inl e ↦ own_one moment own e ∙ sym (ap (λ b. if b then is_this w.since moment else is_within w before) (eq-eqb c w.conn e))
  | inr e ↦ others w.since w.conn (λ x. e (sym x)) ∙ sym (ap (λ b. if b then is_this w.since moment else is_within w before) (ne_eqb c w.conn e))
]
  where
    own_one : (moment : Option ℕ) → waits_as c moment after → c ≡ w.conn → is_within w after ≡ is_this w.since moment
    own_one None own e = ap (λ k. is_within (at w.since k) after) (sym e) ∙ own w.since
    own_one (Some m) own e = ap (λ k. is_within (at w.since k) after) (sym e) ∙ own w.since

-- ---- more room alone

pub roomier_stands : (old new : Front) (h : List ConnectionEvent) → IsRoomier old new → Stands old h → Stands new h
roomier_stands old new h more s = record {
  made_so = more.made_so ∙ s.made_so;
  few = s.few;
  entries = λ c. subst (λ o. IsEntryOf o c h) (sym (ap (λ es. lookup (nat_eq c) es) more.entries)) (s.entries c);
  unborn = s.unborn;
  size = ap length more.entries ∙ s.size;
  tokens = λ token. ap (λ t. tree.get (slice_cmp nat_cmp) t token) more.tokens ∙ s.tokens token;
  agree = s.agree;
  waiting = λ w. ap (λ ws. is_within w ws) more.waiting ∙ s.waiting w;
  order = subst (λ ws. IsInOrder ws) (sym more.waiting) s.order;
  room = let same = ap length more.entries in omega (arith, same, s.room, more.capacity);
  lasts = more.lasts ∙ s.lasts;
  polling = λ w. ap (λ ws. is_within w ws) more.polling ∙ s.polling w;
  polls_order = subst (λ ws. IsInOrder ws) (sym more.polling) s.polls_order;
  polls_room = let same = ap length more.entries in omega (arith, same, s.polls_room, more.polls_capacity);
  polls_last = more.polls_last ∙ s.polls_last;
}

-- ---- the note of a new connection

-- the note makes the next connection and says nothing of any other
pub record Begins (n : ConnectionEvent) (c : ℕ) (told : Option Told) (h : List ConnectionEvent) : Type 0 where
  pub next : made (n ∷ h) ≡ suc (made h)
  pub held : (k : ℕ) → is_removed k (n ∷ h) ≡ is_removed k h
  pub socket : (k : ℕ) → socket_of k (n ∷ h) ≡ socket_of k h
  pub lost : (k : ℕ) → lost_at k (n ∷ h) ≡ lost_at k h
  pub poll : (k : ℕ) → poll_of k (n ∷ h) ≡ poll_of k h
  pub polled : (k : ℕ) → poll_ended k (n ∷ h) ≡ poll_ended k h
  pub ended : (k : ℕ) → ended_at k (n ∷ h) ≡ ended_at k h
  pub opened : (k : ℕ) → (k ≡ c → ⊥) → is_opened k (n ∷ h) ≡ is_opened k h
  pub told_at : (k : ℕ) → (k ≡ c → ⊥) → negotiated_at k (n ∷ h) ≡ negotiated_at k h
  pub token : (k : ℕ) → (k ≡ c → ⊥) → token_told k (n ∷ h) ≡ token_told k h
  pub promise : (k : ℕ) → (k ≡ c → ⊥) → is_resumable_promise k (n ∷ h) ≡ is_resumable_promise k h
  pub begun : (is_opened c (n ∷ h) || is_some (negotiated_at c (n ∷ h))) ≡ true
  pub own_moment : moment_told told ≡ negotiated_at c (n ∷ h)
  pub own_token : text_told told ≡ token_told c (n ∷ h)
  pub own_promise : promise_told told ≡ is_resumable_promise c (n ∷ h)

not_made : (h : List ConnectionEvent) → is_made (suc (made h)) h ≡ false
not_made h = and_right (nat_lt 0 (suc (made h))) (nat_le (suc (made h)) (made h)) (lt-leb (suc (made h)) (made h) (omega arith))

pub unborn_next : (f : Front) (h : List ConnectionEvent) → Stands f h → IsUnborn (suc (made h)) h
unborn_next f h s = s.unborn (suc (made h)) (not_made h)

-- the same numbers were made besides
made_else : (n : ConnectionEvent) (h : List ConnectionEvent) (k : ℕ) → made (n ∷ h) ≡ suc (made h) → (k ≡ suc (made h) → ⊥) → is_made k (n ∷ h) ≡ is_made k h
made_else n h k e other = ap (λ m. nat_lt 0 k && nat_le k m) e ∙ ap (λ b. nat_lt 0 k && b) (elim (cases_lt (made h) k) [
  | inl l ↦ lt-leb k (suc (made h)) (omega (arith, l, other)) ∙ sym (lt-leb k (made h) l)
  | inr l ↦ le-leb k (suc (made h)) (omega (arith, l)) ∙ sym (le-leb k (made h) l)
])

made_next : (n : ConnectionEvent) (h : List ConnectionEvent) → made (n ∷ h) ≡ suc (made h) → is_made (suc (made h)) (n ∷ h) ≡ true
made_next n h e =
    let c : ℕ = suc (made h) in
    ap (λ m. nat_lt 0 c && nat_le c m) e ∙ and_from (nat_lt 0 c) (nat_le c c) (lt-ltb 0 c (omega arith)) (le-leb c c (omega arith))

there_else : (n : ConnectionEvent) (h : List ConnectionEvent) (told : Option Told) (k : ℕ) → Begins n (suc (made h)) told h → (k ≡ suc (made h) → ⊥)
    → is_there k (n ∷ h) ≡ is_there k h
there_else n h told k b other = ap (λ x. x && not (is_removed k (n ∷ h))) (made_else n h k b.next other) ∙ ap (λ x. is_made k h && not x) (b.held k)

standing_else : (n : ConnectionEvent) (h : List ConnectionEvent) (told : Option Told) (k : ℕ) → Begins n (suc (made h)) told h → (k ≡ suc (made h) → ⊥)
    → standing k (n ∷ h) ≡ standing k h
standing_else n h told k b other =
    rw (b.held k, b.ended k, b.socket k, b.lost k, b.poll k, b.polled k, b.opened k other, b.told_at k other) refl

since_else : (n : ConnectionEvent) (h : List ConnectionEvent) (told : Option Told) (k : ℕ) → Begins n (suc (made h)) told h → (k ≡ suc (made h) → ⊥)
    → since_of k (n ∷ h) ≡ since_of k h
since_else n h told k b other = ap (λ l. since k l (n ∷ h)) (standing_else n h told k b other) ∙ by_life (standing k h)
  where
    by_life : (l : Life) → since k l (n ∷ h) ≡ since k l h
    by_life Unknown = refl
    by_life Fresh = b.told_at k other
    by_life (Socket lane) = refl
    by_life Lost = b.lost k
    by_life Polling = b.polled k
    by_life Ending = b.ended k

since_next : (n : ConnectionEvent) (h : List ConnectionEvent) (told : Option Told) → Begins n (suc (made h)) told h → IsUnborn (suc (made h)) h
    → since_of (suc (made h)) (n ∷ h) ≡ moment_told told
since_next n h told b u =
    let c = suc (made h) in
    rw (b.held c, b.ended c, b.socket c, b.lost c, b.poll c, b.polled c, u.held, u.ended, u.socket, u.lost, u.poll, u.polled, b.begun) (sym b.own_moment)

-- no poll is held or let go by it
held_else : (n : ConnectionEvent) (h : List ConnectionEvent) (told : Option Told) (k : ℕ) → Begins n (suc (made h)) told h → (k ≡ suc (made h) → ⊥)
    → held_since k (n ∷ h) ≡ held_since k h
held_else n h told k b other =
    ap (λ x. if x then option_map (λ poll. poll.1) (poll_of k (n ∷ h)) else None) (there_else n h told k b other)
    ∙ ap (λ o. if is_there k h then option_map (λ poll. poll.1) o else None) (b.poll k)

holds_none : (k : ℕ) (h : List ConnectionEvent) → poll_of k h ≡ None → held_since k h ≡ None
holds_none k h e = ap (λ o. if is_there k h then option_map (λ poll. poll.1) o else None) e ∙ go (is_there k h)
  where
    go : (b : Bool) → ◌≡◌ {A = Option ℕ} (if b then None else None) None
    go true = refl
    go false = refl

held_same : (n : ConnectionEvent) (h : List ConnectionEvent) (told : Option Told) → Begins n (suc (made h)) told h → IsUnborn (suc (made h)) h → (k : ℕ)
    → held_since k (n ∷ h) ≡ held_since k h
held_same n h told b u k = elim (cases_eq k (suc (made h))) [
  | inl e ↦ subst (λ c. held_since c (n ∷ h) ≡ held_since c h) (sym e)
      (holds_none (suc (made h)) (n ∷ h) (b.poll (suc (made h)) ∙ u.poll) ∙ sym (holds_none (suc (made h)) h u.poll))
  | inr e ↦ held_else n h told k b e
]

remembers_else : (e : Entry) (n : ConnectionEvent) (h : List ConnectionEvent) (told : Option Told) (k : ℕ) → Begins n (suc (made h)) told h → (k ≡ suc (made h) → ⊥)
    → Remembers e k h → Remembers e k (n ∷ h)
remembers_else e n h told k b other r = record {
  there = made_else n h k b.next other ∙ r.there;
  held = b.held k ∙ r.held;
  begun = ap (λ x. x || is_some (negotiated_at k (n ∷ h))) (b.opened k other) ∙ (ap (λ x. is_opened k h || is_some x) (b.told_at k other) ∙ r.begun);
  told = r.told ∙ sym (b.told_at k other);
  token = r.token ∙ sym (b.token k other);
  promise = r.promise ∙ sym (b.promise k other);
  socket = r.socket ∙ sym (b.socket k);
  lost = r.lost ∙ sym (b.lost k);
  poll = r.poll ∙ sym (b.poll k);
  polled = r.polled ∙ sym (b.polled k);
  ended = r.ended ∙ sym (b.ended k);
}

remembers_next : (e : Entry) (n : ConnectionEvent) (h : List ConnectionEvent) (told : Option Told) → Begins n (suc (made h)) told h → IsUnborn (suc (made h)) h → IsNew e told
    → Remembers e (suc (made h)) (n ∷ h)
remembers_next e n h told b u new =
    let c : ℕ = suc (made h) in
    record {
      there = made_next n h b.next;
      held = b.held c ∙ u.held;
      begun = b.begun;
      told = ap moment_told new.told_so ∙ b.own_moment;
      token = ap text_told new.told_so ∙ b.own_token;
      promise = ap promise_told new.told_so ∙ b.own_promise;
      socket = new.socket ∙ sym (b.socket c ∙ u.socket);
      lost = new.lost ∙ sym (b.lost c ∙ u.lost);
      poll = ap held_as new.poll ∙ sym (b.poll c ∙ u.poll);
      polled = new.polled ∙ sym (b.polled c ∙ u.polled);
      ended = new.ended ∙ sym (b.ended c ∙ u.ended);
    }

unborn_else : (n : ConnectionEvent) (h : List ConnectionEvent) (told : Option Told) (k : ℕ) → Begins n (suc (made h)) told h → (k ≡ suc (made h) → ⊥) → IsUnborn k h
    → IsUnborn k (n ∷ h)
unborn_else n h told k b other u = record {
  held = b.held k ∙ u.held;
  opened = b.opened k other ∙ u.opened;
  told = b.told_at k other ∙ u.told;
  promise = b.promise k other ∙ u.promise;
  token = b.token k other ∙ u.token;
  socket = b.socket k ∙ u.socket;
  lost = b.lost k ∙ u.lost;
  poll = b.poll k ∙ u.poll;
  polled = b.polled k ∙ u.polled;
  ended = b.ended k ∙ u.ended;
}

-- ---- the front with one more connection

-- what a front with other tokens is entered into
pub record IsMade (old mid new : Front) (h : List ConnectionEvent) (n : ConnectionEvent) (told : Option Told) : Type 0 where
  pub few : suc (made h) ≤ most_connections
  pub begins : Begins n (suc (made h)) told h
  pub entries : mid.entries ≡ old.entries
  pub moments : mid.moments ≡ old.moments
  pub polls : mid.polls ≡ old.polls
  pub room : HasRoom mid
  pub enters : IsEntered mid new (suc (made h)) told
  pub tokens : (token : List ℕ) → conn_at new token ≡ kept (conn_with token (n ∷ h)) (n ∷ h)
  pub agree : TokensAgree (n ∷ h)

pub made_stands : (old mid new : Front) (h : List ConnectionEvent) (n : ConnectionEvent) (told : Option Told) → Stands old h → IsMade old mid new h n told → Stands new (n ∷ h)
made_stands old mid new h n told s i = record {
  made_so = e.made_so ∙ sym b.next;
  few = let next = b.next in omega (arith, next, i.few);
  entries = λ k. subst (λ o. IsEntryOf o k (n ∷ h)) (sym (e.entries k)) (elim (cases_eq c k) [ inl same ↦ own_entry k same | inr other ↦ other_entry k other ]);
  unborn = λ k x. unborn_at k x (λ same. let z : false ≡ true = sym x ∙ (ap (λ k. is_made k (n ∷ h)) same ∙ made_next n h b.next) in cc);
  size = grown ∙ (ap suc s.size ∙ sym counted);
  tokens = i.tokens;
  agree = i.agree;
  waiting = λ w. entered w ∙ (elim (cases_eq c w.conn) [ inl same ↦ own_moment w same | inr other ↦ other_moment w other ]);
  order = e.order (subst (λ m. IsInOrder m.waiting.items) (sym i.moments) s.order);
  room =
      let few = i.room.moment in
      let more = e.capacity in
      let by : index_map_len new.entries ≡ suc (index_map_len mid.entries) = e.size absent in
      omega (arith, few, more, by);
  lasts = e.lasts ∙ (ap (λ m. m.lasts) i.moments ∙ s.lasts);
  polling = λ w. ap (λ m. is_within w m.waiting.items) polls ∙ (s.polling w ∙ ap (λ o. is_this w.since o) (sym (held_same n h told b unborn w.conn)));
  polls_order = subst (λ m. IsInOrder m.waiting.items) (sym polls) s.polls_order;
  polls_room =
      let few = i.room.poll in
      let by : index_map_len new.entries ≡ suc (index_map_len mid.entries) = e.size absent in
      let same = ap (λ m. vec_capacity m.waiting) e.polls in
      omega (arith, few, by, same);
  polls_last = ap (λ m. m.lasts) polls ∙ s.polls_last;
}
  where
    c : ℕ
    c = suc (made h)

    e : IsEntered mid new c told
    e = i.enters

    b : Begins n c told h
    b = i.begins

    unborn : IsUnborn c h
    unborn = unborn_next old h s

    polls : new.polls ≡ old.polls
    polls = e.polls ∙ i.polls

    away : is_there c h ≡ false
    away = and_left (is_made c h) (not (is_removed c h)) (not_made h)

    absent : entry_at mid c ≡ None
    absent = ap (λ es. get nat_eq es c) i.entries ∙ go (entry_at old c) (s.entries c)
      where
        go : (o : Option Entry) → IsEntryOf o c h → o ≡ None
        go None x = refl
        go (Some x) r = absurd (let z : false ≡ true = sym away ∙ and_from (is_made c h) (not (is_removed c h)) r.there (ap not r.held) in cc)

    grown : index_map_len new.entries ≡ suc (index_map_len old.entries)
    grown = e.size absent ∙ ap (λ es. suc (index_map_len es)) i.entries

    counted : length (filter (λ k. is_there k (n ∷ h)) (numbers_to (made (n ∷ h)))) ≡ suc (length (filter (λ k. is_there k h) (numbers_to (made h))))
    counted =
        let there = and_from (is_made c (n ∷ h)) (not (is_removed c (n ∷ h))) (made_next n h b.next) (ap not (b.held c ∙ unborn.held)) in
        let last : ◌≡◌ {A = ℕ} (cond (is_there c (n ∷ h)) 1 0) 1 = ap (λ b. cond b 1 0) there in
        let before = count_alike (made h) (λ k. is_there k (n ∷ h)) (λ k. is_there k h) (λ k l m. there_else n h told k b (λ x. omega (arith, m, x))) in
        ap (λ m. count m (λ k. is_there k (n ∷ h))) b.next ∙ (let next = count_next (made h) (λ k. is_there k (n ∷ h)) in omega (arith, last, before, next))

    own_entry : (k : ℕ) → c ≡ k → IsEntryOf (if c == k then Some e.own else entry_at mid k) k (n ∷ h)
    own_entry k same =
        let entry = ap (λ b. if b then Some e.own else entry_at mid k) (eq-eqb c k same) in
        let remembers = subst (λ k. Remembers e.own k (n ∷ h)) same (remembers_next e.own n h told b unborn e.is_new) in
        subst (λ o. IsEntryOf o k (n ∷ h)) (sym entry) remembers

    other_entry : (k : ℕ) → (c ≡ k → ⊥) → IsEntryOf (if c == k then Some e.own else entry_at mid k) k (n ∷ h)
    other_entry k other =
        let entry = ap (λ b. if b then Some e.own else entry_at mid k) (ne_eqb c k other) ∙ ap (λ es. get nat_eq es k) i.entries in
        subst (λ o. IsEntryOf o k (n ∷ h)) (sym entry) (go (entry_at old k) (s.entries k))
      where
        go : (o : Option Entry) → IsEntryOf o k h → IsEntryOf o k (n ∷ h)
        go None x = there_else n h told k b (λ y. other (sym y)) ∙ x
        go (Some x) r = remembers_else x n h told k b (λ y. other (sym y)) r

    unborn_at : (k : ℕ) → is_made k (n ∷ h) ≡ false → (k ≡ c → ⊥) → IsUnborn k (n ∷ h)
    unborn_at k x other = unborn_else n h told k b other (s.unborn k (sym (made_else n h k b.next other) ∙ x))

    silent : waits_as c None old.moments.waiting.items
    silent moment = s.waiting (at moment c) ∙ ap (λ o. is_this moment o) (since_unborn c h unborn)

    few : length mid.moments.waiting.items ≤ index_map_len mid.entries
    few =
        let before = waiting_few old h s in
        let same = ap (λ m. length m.waiting.items) i.moments in
        let as_many = ap (λ es. index_map_len es) i.entries in
        omega (arith, before, same, as_many)

    entered : (w : Waiting)
        → is_within w new.moments.waiting.items ≡ (if c == w.conn then is_this w.since (moment_told told) else is_within w mid.moments.waiting.items)
    entered = e.waiting
        (subst (λ m. IsInOrder m.waiting.items) (sym i.moments) s.order)
        (subst (λ m. waits_as c None m.waiting.items) (sym i.moments) silent)
        few

    own_moment : (w : Waiting) → c ≡ w.conn → (if c == w.conn then is_this w.since (moment_told told) else is_within w mid.moments.waiting.items)
        ≡ is_waiting w (n ∷ h)
    own_moment w same = ap (λ b. if b then is_this w.since (moment_told told) else is_within w mid.moments.waiting.items) (eq-eqb c w.conn same)
        ∙ ap (λ o. is_this w.since o) (sym (since_next n h told b unborn) ∙ ap (λ k. since_of k (n ∷ h)) same)

    other_moment : (w : Waiting) → (c ≡ w.conn → ⊥) → (if c == w.conn then is_this w.since (moment_told told) else is_within w mid.moments.waiting.items)
        ≡ is_waiting w (n ∷ h)
    other_moment w other = ap (λ b. if b then is_this w.since (moment_told told) else is_within w mid.moments.waiting.items) (ne_eqb c w.conn other)
        ∙ (ap (λ m. is_within w m.waiting.items) i.moments ∙ (s.waiting w ∙ ap (λ o. is_this w.since o) (sym his)))
      where
        his : since_of w.conn (n ∷ h) ≡ since_of w.conn h
        his = since_else n h told w.conn b (λ x. other (sym x))

-- ---- opened without a token

kept_same : (n : ConnectionEvent) (h : List ConnectionEvent) → ((k : ℕ) → is_removed k (n ∷ h) ≡ is_removed k h) → (o : Option ℕ) → kept o (n ∷ h) ≡ kept o h
kept_same n h same None = refl
kept_same n h same (Some c) = ap (λ b. if b then None else Some c) (same c)

pub begins_open : (h : List ConnectionEvent) (now : ℕ) → IsUnborn (suc (made h)) h → Begins (Opened (suc (made h)) now) (suc (made h)) None h
begins_open h now u =
    let c : ℕ = suc (made h) in
    record {
      next = refl;
      held = λ k. refl;
      socket = λ k. refl;
      lost = λ k. refl;
      poll = λ k. refl;
      polled = λ k. refl;
      ended = λ k. refl;
      opened = λ k e. ap (λ x. x || is_opened k h) (ne_eqb k c e);
      told_at = λ k e. refl;
      token = λ k e. refl;
      promise = λ k e. refl;
      begun = or_left ((c == c) || is_opened c h) (is_some (negotiated_at c h)) (or_left (c == c) (is_opened c h) (eq-eqb c c refl));
      own_moment = sym u.told;
      own_token = sym u.token;
      own_promise = sym u.promise;
    }

pub opens : (old mid new : Front) (h : List ConnectionEvent) (now : ℕ) → Stands old h → suc (made h) ≤ most_connections → IsRoomier old mid → HasRoom mid
    → IsEntered mid new (suc (made h)) None → Stands new (Opened (suc (made h)) now ∷ h)
opens old mid new h now s few more room e =
    let t = roomier_stands old mid h more s in
    made_stands mid mid new h (Opened (suc (made h)) now) None t (record {
      few = few;
      begins = begins_open h now (unborn_next mid h t);
      entries = refl;
      moments = refl;
      polls = refl;
      room = room;
      enters = e;
      tokens = λ token. ap (λ m. tree.get (slice_cmp nat_cmp) m token) e.tokens
          ∙ (t.tokens token ∙ sym (kept_same (Opened (suc (made h)) now) h (λ k. refl) (conn_with token h)));
      agree = record { spelled = t.agree.spelled; told = t.agree.told; had = t.agree.had };
    })

-- ---- made with a token

text_is : (i k : List ℕ) → same_text i k ≡ true → i ≡ k
text_is i k e = (bytes_eq-Decides i k).0 e

text_same : (i k : List ℕ) → i ≡ k → same_text i k ≡ true
text_same i k e = (bytes_eq-Decides i k).1 e

pub begins_tell : (h : List ConnectionEvent) (token : List ℕ) (asked : Bool) (now : ℕ) (told : Told) → told.token ≡ token → told.now ≡ now → told.reconnect ≡ asked
    → Begins (Negotiated (suc (made h)) token asked now) (suc (made h)) (Some told) h
begins_tell h token asked now told spelled at_now granted =
    let c : ℕ = suc (made h) in
    let own : negotiated_at c (Negotiated c token asked now ∷ h) ≡ Some now = ap (λ x. if x then Some now else negotiated_at c h) (eq-eqb c c refl) in
    record {
      next = refl;
      held = λ k. refl;
      socket = λ k. refl;
      lost = λ k. refl;
      poll = λ k. refl;
      polled = λ k. refl;
      ended = λ k. refl;
      opened = λ k e. refl;
      told_at = λ k e. ap (λ x. if x then Some now else negotiated_at k h) (ne_eqb k c e);
      token = λ k e. ap (λ x. if x then Some token else token_told k h) (ne_eqb k c e);
      promise = λ k e. ap (λ x. if x then asked else is_resumable_promise k h) (ne_eqb k c e);
      begun = or_right (is_opened c h) (is_some (negotiated_at c (Negotiated c token asked now ∷ h))) (ap (λ o. is_some o) own);
      own_moment = ap (λ n. Some n) at_now ∙ sym own;
      own_token = ap (λ t. Some t) spelled ∙ sym (ap (λ x. if x then Some token else token_told c h) (eq-eqb c c refl));
      own_promise = granted ∙ sym (ap (λ x. if x then asked else is_resumable_promise c h) (eq-eqb c c refl));
    }

text_given : (s t : List ℕ) → Some s ≡ Some t → s ≡ t
text_given s t e = ap (λ o. unwrap_or o s) e

number_given : (m n : ℕ) → ◌≡◌ {A = Option ℕ} (Some m) (Some n) → m ≡ n
number_given m n e = ap (λ o. unwrap_or o m) e

-- the tokens of the others are other texts
module _ (h : List ConnectionEvent) (token : List ℕ) (asked : Bool) (now : ℕ) (agree : TokensAgree h) (few : suc (made h) ≤ most_connections)
    (unborn : (k : ℕ) → is_made k h ≡ false → IsUnborn k h) (own : IsTokenOf token (suc (made h))) (differ : TokensDiffer) where
  told_made : (k : ℕ) (other : List ℕ) → token_told k h ≡ Some other → k ≤ made h
  told_made k other e =
      let told : is_some (token_told k h) ≡ true = ap (λ o. is_some o) e in
      let is = true_from_ne_false (is_made k h) (λ x. both_ways (is_some (token_told k h)) (ap (λ o. is_some o) (unborn k x).token) told) in
      leb-true k (made h) (and_parts (nat_lt 0 k) (nat_le k (made h)) is).1

  other_text : (k : ℕ) (other : List ℕ) → token_told k h ≡ Some other → other ≡ token → ⊥
  other_text k other e same =
      let his = agree.spelled k other e in
      let within = told_made k other e in
      let c : ℕ = suc (made h) in
      let spelled = sym his.spelled ∙ (same ∙ own.spelled) in
      let one : k ≡ c = differ his.drawn own.drawn k c his.sixteen own.sixteen (omega (arith, within, few)) (omega (arith, few)) spelled in
      omega (arith, one, within)

  own_told : (k : ℕ) → k ≡ suc (made h) → token_told k (Negotiated (suc (made h)) token asked now ∷ h) ≡ Some token
  own_told k same = ap (λ x. if x then Some token else token_told k h) (eq-eqb k (suc (made h)) same)

  else_told : (k : ℕ) → (k ≡ suc (made h) → ⊥) → token_told k (Negotiated (suc (made h)) token asked now ∷ h) ≡ token_told k h
  else_told k other = ap (λ x. if x then Some token else token_told k h) (ne_eqb k (suc (made h)) other)

  own_conn : (text : List ℕ) → text ≡ token → conn_with text (Negotiated (suc (made h)) token asked now ∷ h) ≡ Some (suc (made h))
  own_conn text same = ap (λ x. if x then Some (suc (made h)) else conn_with text h) (text_same text token same)

  else_conn : (text : List ℕ) → same_text text token ≡ false → conn_with text (Negotiated (suc (made h)) token asked now ∷ h) ≡ conn_with text h
  else_conn text other = ap (λ x. if x then Some (suc (made h)) else conn_with text h) other

  else_agrees : (k : ℕ) (text : List ℕ) → token_told k h ≡ Some text → conn_with text (Negotiated (suc (made h)) token asked now ∷ h) ≡ Some k
  else_agrees k text his =
      let other = false_from_ne_true (same_text text token) (λ x. other_text k text his (text_is text token x)) in
      else_conn text other ∙ agree.told k text his

  else_had : (k : ℕ) (text : List ℕ) → token_told k h ≡ Some text → token_told k (Negotiated (suc (made h)) token asked now ∷ h) ≡ Some text
  else_had k text his = else_told k (λ x. let within = told_made k text his in omega (arith, within, x)) ∙ his

  agree_more : TokensAgree (Negotiated (suc (made h)) token asked now ∷ h)
  agree_more = record {
    spelled = λ k text e. elim (cases_eq k (suc (made h))) [
      | inl same ↦ subst (λ t. IsTokenOf t k) (text_given token text (sym (own_told k same) ∙ e)) (subst (λ n. IsTokenOf token n) (sym same) own)
      | inr other ↦ agree.spelled k text (sym (else_told k other) ∙ e)
    ];
    told = λ k text e. elim (cases_eq k (suc (made h))) [
      | inl same ↦ own_conn text (sym (text_given token text (sym (own_told k same) ∙ e))) ∙ ap (λ n. Some n) (sym same)
      | inr other ↦ else_agrees k text (sym (else_told k other) ∙ e)
    ];
    had = λ k text e. elim (cases_Bool (same_text text token)) [
      | inl same ↦ (let t = text_is text token same in own_told k (sym (number_given (suc (made h)) k (sym (own_conn text t) ∙ e))) ∙ ap (λ x. Some x) (sym t))
      | inr other ↦ else_had k text (agree.had k text (sym (else_conn text other) ∙ e))
    ];
  }

pub tells : (old mid new : Front) (h : List ConnectionEvent) (token : List ℕ) (asked : Bool) (now : ℕ) (told : Told) → Stands old h → suc (made h) ≤ most_connections
    → mid.entries ≡ old.entries → mid.moments ≡ old.moments → mid.polls ≡ old.polls
    → tree.UpdatesBy (slice_cmp nat_cmp) (slice_cmp nat_cmp token) old.tokens mid.tokens (Some (suc (made h)))
    → HasRoom mid → IsEntered mid new (suc (made h)) (Some told) → told.token ≡ token → told.now ≡ now → told.reconnect ≡ asked
    → IsTokenOf token (suc (made h)) → TokensDiffer
    → Stands new (Negotiated (suc (made h)) token asked now ∷ h)
tells old mid new h token asked now told s few entries moments polls updates room e spelled at_now granted own differ =
    made_stands old mid new h n (Some told) s (record {
      few = few;
      begins = begins_tell h token asked now told spelled at_now granted;
      entries = entries;
      moments = moments;
      polls = polls;
      room = room;
      enters = e;
      tokens = λ text. ap (λ m. tree.get (slice_cmp nat_cmp) m text) e.tokens ∙ (changed text ∙ go text (same_text text token));
      agree = agree_more h token asked now s.agree few s.unborn own differ;
    })
  where
    n : ConnectionEvent
    n = Negotiated (suc (made h)) token asked now

    changed : (text : List ℕ) → tree.get (slice_cmp nat_cmp) mid.tokens text ≡ (if same_text text token then Some (suc (made h)) else conn_at old text)
    changed text = updates.0 text ∙ ap (λ b. cond b (Some (suc (made h))) (conn_at old text)) (is_eq-slice_cmp token text ∙ nat_list_eq_equiv.symm token text)

    go : (text : List ℕ) (b : Bool) → (if b then Some (suc (made h)) else conn_at old text) ≡ kept (if b then Some (suc (made h)) else conn_with text h) (n ∷ h)
    go text true = sym (ap (λ b. if b then None else Some (suc (made h))) (unborn_next old h s).held)
    go text false = s.tokens text ∙ sym (kept_same n h (λ k. refl) (conn_with text h))

-- ---- one more lives then at most

life_else : (n : ConnectionEvent) (h : List ConnectionEvent) (told : Option Told) (now k : ℕ) → Begins n (suc (made h)) told h → (k ≡ suc (made h) → ⊥)
    → life_of k now (n ∷ h) ≡ life_of k now h
life_else n h told now k b other =
    ap (λ o. cond (is_past now (option_map (λ moment. moment + lives_for) o)) (past (standing k (n ∷ h))) (standing k (n ∷ h))) (since_else n h told k b other)
    ∙ ap (λ l. cond (is_past now (deadline k h)) (past l) l) (standing_else n h told k b other)

at_most_one : (b : Bool) → cond b 1 0 ≤ 1
at_most_one true = omega arith
at_most_one false = omega arith

pub live_more : (n : ConnectionEvent) (h : List ConnectionEvent) (told : Option Told) (now : ℕ) → Begins n (suc (made h)) told h → length (live now (n ∷ h)) ≤ suc (length (live now h))
live_more n h told now b =
    let known : ℕ → Bool = λ k. is_known (life_of k now (n ∷ h)) in
    let counted = ap (λ m. count m known) b.next in
    let next = count_next (made h) known in
    let others = count_alike (made h) known (λ k. is_known (life_of k now h)) (λ k l m. ap is_known (life_else n h told now k b (λ x. omega (arith, m, x)))) in
    let last = at_most_one (known (suc (made h))) in
    omega (arith, counted, next, others, last)

-- ---- the same of a number that is the next

pub opens_next : (old mid new : Front) (h : List ConnectionEvent) (now c : ℕ) → c ≡ suc (made h) → c ≤ most_connections → Stands old h → IsRoomier old mid
    → HasRoom mid → IsEntered mid new c None → Stands new (Opened c now ∷ h)
opens_next old mid new h now c is few s more room e =
    subst (λ k. k ≤ most_connections → IsEntered mid new k None → Stands new (Opened k now ∷ h)) (sym is) (λ l x. opens old mid new h now s l more room x) few e

pub tells_next : (old roomier mid new : Front) (h : List ConnectionEvent) (c : ℕ) (token own : List ℕ) (asked : Bool) (now : ℕ) (told : Told) → c ≡ suc (made h)
    → c ≤ most_connections → Stands old h
    → IsRoomier old roomier → HasRoom roomier → mid.entries ≡ roomier.entries → mid.moments ≡ roomier.moments → mid.polls ≡ roomier.polls
    → tree.UpdatesBy (slice_cmp nat_cmp) (slice_cmp nat_cmp own) roomier.tokens mid.tokens (Some c) → own ≡ token
    → IsEntered mid new c (Some told) → told.token ≡ token → told.now ≡ now → told.reconnect ≡ asked → IsTokenOf token c → TokensDiffer
    → Stands new (Negotiated c token asked now ∷ h)
tells_next old roomier mid new h c token own asked now told is few s more room entries moments polls updates copied e spelled at_now granted of
    differ =
    subst (λ k. k ≤ most_connections → tree.UpdatesBy (slice_cmp nat_cmp) (slice_cmp nat_cmp token) roomier.tokens mid.tokens (Some k)
    → IsEntered mid new k (Some told) → IsTokenOf token k → Stands new (Negotiated k token asked now ∷ h)) (sym is)
    (λ l u x i. tells roomier mid new h token asked now told (roomier_stands old roomier h more s) l entries moments polls u has_room x
    spelled at_now granted i differ)
    few (subst (λ t. tree.UpdatesBy (slice_cmp nat_cmp) (slice_cmp nat_cmp t) roomier.tokens mid.tokens (Some c)) copied updates) e of
  where
    has_room : HasRoom mid
    has_room = record {
      entry = subst (λ es. 0 < spare es) (sym entries) room.entry;
      moment = subst (λ es. suc (index_map_len es) ≤ vec_capacity mid.moments.waiting) (sym entries)
          (subst (λ m. suc (index_map_len roomier.entries) ≤ vec_capacity m.waiting) (sym moments) room.moment);
      poll = subst (λ es. suc (index_map_len es) ≤ vec_capacity mid.polls.waiting) (sym entries)
          (subst (λ m. suc (index_map_len roomier.entries) ≤ vec_capacity m.waiting) (sym polls) room.poll);
    }

-- what a call that gave no error gives
pub given_ok : {A E : Type 0} (r : Result A E) (P : Type 0) → is_err r ≡ false → OnOk r P → P
given_ok (Ok x) P e p = p
given_ok (Err x) P e p = absurd (let z : true ≡ false = e in cc)
