-- What one more note about a connection changes of all that a front stands for.
use Rattle.std.proofs.Common.{◌≡◌, ◌≤◌, ◌<◌, ℕ, ◌+◌, Bool, true, false, cond, not, ◌&&◌, ◌||◌, List, ◌∷◌, length, Option, Some, None, is_some, nat_eq, refl, sym, ap, ◌∙◌, subst, arith, inl, inr, eq-eqb, ne_eqb, if◌then◌else◌}
use Rattle.std.specs.Prelude.{◌==◌, filter, option_map, unwrap_or, nat_lt, nat_le}
use Rattle.std.specs.Vec.{vec_capacity}
use Rattle.std.specs.Map.{lookup}
use Rattle.std.specs.BTreeMap as tree
use Rattle.std.specs.BTreeMap.{is_at}
use Rattle.std.specs.Ordering.{nat_cmp}
use Rattle.std.specs.Cmp.Lexicographic.{slice_cmp}
use Rattle.std.proofs.lemmas.Option.{none-some, same_Some}
use Rattle.std.proofs.lemmas.Map.Text.{is_eq-slice_cmp}
use Rattle.std.proofs.lemmas.Slice.Eq.{bytes_eq-Decides}
use Rattle.std.proofs.lemmas.Bool.{and_parts, and_right, cases_eq, ltb-true, leb-true, or_left}
use Rattle.indexmap.specs.IndexMap.{index_map_len}
use Rattle.hd_delivery.specs.Histories.{is_this, first_of}
use Rattle.hd_server.specs.declared.vocabulary.Life.{Life}
use Rattle.hd_server.specs.declared.vocabulary.Life.TheVariants as lives
use Rattle.hd_server.specs.Numbers.{held_for, lives_for, most_connections}
use Rattle.hd_server.specs.Lives.{ConnectionEvent, Removed, made, numbers_to, is_made, is_removed, is_opened, negotiated_at, is_resumable_promise, socket_of, lost_at, poll_of, poll_ended, ended_at, conn_with, when, standing, since}
use Rattle.hn_server_front.specs.declared.entry.Entry.{Entry}
use Rattle.hn_server_front.specs.declared.entry.EntryEvent.{EntryEvent}
use Rattle.hn_server_front.specs.declared.entry.EntryEvent.TheVariants as noted
use Rattle.hn_server_front.specs.declared.front.Front.{Front}
use Rattle.hn_server_front.specs.declared.moments.Moments.{Moments}
use Rattle.hn_server_front.specs.declared.moments.Waiting.{Waiting}
use Rattle.hn_server_front.specs.Entries.{Remembers, note_of, text_told, token_told}
use Rattle.hn_server_front.specs.Moments.{HasPlace, IsInOrder, at, is_within, waits_as}
use Rattle.hn_server_front.specs.Stands.{IsEntryOf, IsUnborn, Stands, conn_at, entry_at, held_since, is_there, kept, since_of}
use Rattle.hn_server_front.proofs.Counting.{WaitFor, count_same, count_without, polling_fewer, waiting_fewer}

pub no_bool : {A : Type 0} → false ≡ true → A
no_bool e = absurd (let z : false ≡ true = e in cc)

-- ---- what is read off a number

-- it is the same of both lists
pub record SameAt (c : ℕ) (g h : List ConnectionEvent) : Type 0 where
  pub there : is_made c g ≡ is_made c h
  pub held : is_removed c g ≡ is_removed c h
  pub opened : is_opened c g ≡ is_opened c h
  pub told : negotiated_at c g ≡ negotiated_at c h
  pub promise : is_resumable_promise c g ≡ is_resumable_promise c h
  pub token : token_told c g ≡ token_told c h
  pub socket : socket_of c g ≡ socket_of c h
  pub lost : lost_at c g ≡ lost_at c h
  pub poll : poll_of c g ≡ poll_of c h
  pub polled : poll_ended c g ≡ poll_ended c h
  pub ended : ended_at c g ≡ ended_at c h

-- one more note about this number, which makes no connection
pub record Follows (k : ℕ) (g h : List ConnectionEvent) : Type 0 where
  pub made_same : made g ≡ made h
  pub conns : (token : List ℕ) → conn_with token g ≡ conn_with token h
  pub tokens : (c : ℕ) → token_told c g ≡ token_told c h
  pub others : (c : ℕ) → (c ≡ k → ⊥) → SameAt c g h

elsewhere : {A : Type 0} (c k : ℕ) (x y : A) → (c ≡ k → ⊥) → (if c == k then x else y) ≡ y
elsewhere {A} c k x y ne = ap (λ (b : Bool). if b then x else y) (ne_eqb c k ne)

elsewhere_and : {A : Type 0} (c k : ℕ) (t : Bool) (x y : A) → (c ≡ k → ⊥) → (if (c == k) && t then x else y) ≡ y
elsewhere_and {A} c k t x y ne = ap (λ (b : Bool). if b && t then x else y) (ne_eqb c k ne)

others_noted : (c k : ℕ) (n : EntryEvent) (h : List ConnectionEvent) → (c ≡ k → ⊥) → SameAt c (note_of k n ∷ h) h
others_noted c k (noted.Socket lane now) h ne = record {
  there = refl;
  held = refl;
  opened = refl;
  told = refl;
  promise = refl;
  token = refl;
  socket = elsewhere c k (Some lane) (socket_of c h) ne;
  lost = elsewhere c k None (lost_at c h) ne;
  poll = refl;
  polled = refl;
  ended = refl;
}
others_noted c k (noted.Poll lane now) h ne = record {
  there = refl;
  held = refl;
  opened = refl;
  told = refl;
  promise = refl;
  token = refl;
  socket = refl;
  lost = refl;
  poll = elsewhere c k (Some (lane, now)) (poll_of c h) ne;
  polled = elsewhere c k None (poll_ended c h) ne;
  ended = refl;
}
others_noted c k (noted.Answer lane now) h ne = record {
  there = refl;
  held = refl;
  opened = refl;
  told = refl;
  promise = refl;
  token = refl;
  socket = refl;
  lost = refl;
  poll = elsewhere_and c k (is_this lane (option_map (λ p. p.0) (poll_of c h))) None (poll_of c h) ne;
  polled = elsewhere_and c k (is_this lane (option_map (λ p. p.0) (poll_of c h))) (Some now) (poll_ended c h) ne;
  ended = refl;
}
others_noted c k (noted.Loss lane now) h ne = record {
  there = refl;
  held = refl;
  opened = refl;
  told = refl;
  promise = refl;
  token = refl;
  socket = elsewhere_and c k (is_this lane (socket_of c h)) None (socket_of c h) ne;
  lost = elsewhere_and c k (is_this lane (socket_of c h)) (Some now) (lost_at c h) ne;
  poll = elsewhere_and c k (is_this lane (option_map (λ p. p.0) (poll_of c h))) None (poll_of c h) ne;
  polled = elsewhere_and c k (is_this lane (option_map (λ p. p.0) (poll_of c h))) (Some now) (poll_ended c h) ne;
  ended = refl;
}
others_noted c k (noted.End now) h ne = record {
  there = refl;
  held = refl;
  opened = refl;
  told = refl;
  promise = refl;
  token = refl;
  socket = refl;
  lost = refl;
  poll = refl;
  polled = refl;
  ended = elsewhere_and c k (not (is_some (ended_at c h))) (Some now) (ended_at c h) ne;
}

pub noted_follows : (k : ℕ) (n : EntryEvent) (h : List ConnectionEvent) → Follows k (note_of k n ∷ h) h
noted_follows k n h = record {
  made_same = count n;
  conns = λ token. conns n token;
  tokens = λ c. tokens n c;
  others = λ c ne. others_noted c k n h ne;
}
  where
    count : (n : EntryEvent) → made (note_of k n ∷ h) ≡ made h
    count (noted.Socket lane now) = refl
    count (noted.Poll lane now) = refl
    count (noted.Answer lane now) = refl
    count (noted.Loss lane now) = refl
    count (noted.End now) = refl

    conns : (n : EntryEvent) (token : List ℕ) → conn_with token (note_of k n ∷ h) ≡ conn_with token h
    conns (noted.Socket lane now) token = refl
    conns (noted.Poll lane now) token = refl
    conns (noted.Answer lane now) token = refl
    conns (noted.Loss lane now) token = refl
    conns (noted.End now) token = refl

    tokens : (n : EntryEvent) (c : ℕ) → token_told c (note_of k n ∷ h) ≡ token_told c h
    tokens (noted.Socket lane now) c = refl
    tokens (noted.Poll lane now) c = refl
    tokens (noted.Answer lane now) c = refl
    tokens (noted.Loss lane now) c = refl
    tokens (noted.End now) c = refl

pub let_go_follows : (k : ℕ) (h : List ConnectionEvent) → Follows k (Removed k ∷ h) h
let_go_follows k h = record {
  made_same = refl;
  conns = λ token. refl;
  tokens = λ c. refl;
  others = λ c ne. record {
    there = refl;
    held = ap (λ (b : Bool). b || is_removed c h) (ne_eqb c k ne);
    opened = refl;
    told = refl;
    promise = refl;
    token = refl;
    socket = refl;
    lost = refl;
    poll = refl;
    polled = refl;
    ended = refl;
  };
}

-- ---- what follows from what is read off

same_there : (c : ℕ) (g h : List ConnectionEvent) → SameAt c g h → is_there c g ≡ is_there c h
same_there c g h s = ap (λ (b : Bool). b && not (is_removed c g)) s.there ∙ ap (λ (b : Bool). is_made c h && not b) s.held

same_entry : (o : Option Entry) (c : ℕ) (g h : List ConnectionEvent) → SameAt c g h → IsEntryOf o c h → IsEntryOf o c g
same_entry None c g h s e = same_there c g h s ∙ e
same_entry (Some e) c g h s r = record {
  there = s.there ∙ r.there;
  held = s.held ∙ r.held;
  begun = ap (λ (b : Bool). b || is_some (negotiated_at c g)) s.opened ∙ (ap (λ (o : Option ℕ). is_opened c h || is_some o) s.told ∙ r.begun);
  told = r.told ∙ sym s.told;
  token = r.token ∙ sym s.token;
  promise = r.promise ∙ sym s.promise;
  socket = r.socket ∙ sym s.socket;
  lost = r.lost ∙ sym s.lost;
  poll = r.poll ∙ sym s.poll;
  polled = r.polled ∙ sym s.polled;
  ended = r.ended ∙ sym s.ended;
}

same_unborn : (c : ℕ) (g h : List ConnectionEvent) → SameAt c g h → IsUnborn c h → IsUnborn c g
same_unborn c g h s u = record {
  held = s.held ∙ u.held;
  opened = s.opened ∙ u.opened;
  told = s.told ∙ u.told;
  promise = s.promise ∙ u.promise;
  token = s.token ∙ u.token;
  socket = s.socket ∙ u.socket;
  lost = s.lost ∙ u.lost;
  poll = s.poll ∙ u.poll;
  polled = s.polled ∙ u.polled;
  ended = s.ended ∙ u.ended;
}

-- its life but for moments, of what is read off
abbrev standing_at : Bool → Option ℕ → Option ℕ → Option ℕ → Option (ℕ × ℕ) → Option ℕ → Bool → Option ℕ → Life
standing_at held ended socket lost poll polled opened told = unwrap_or
    (first_of (when held lives.Unknown)
    (first_of (when (is_some ended) lives.Ending)
    (first_of (option_map lives.Socket socket)
    (first_of (when (is_some lost) lives.Lost)
    (first_of (when (is_some poll || is_some polled) lives.Polling)
    (when (opened || is_some told) lives.Fresh)))))) lives.Unknown

abbrev since_at : Life → Option ℕ → Option ℕ → Option ℕ → Option ℕ → Option ℕ
since_at lives.Unknown told lost polled ended = None
since_at lives.Fresh told lost polled ended = told
since_at (lives.Socket lane) told lost polled ended = None
since_at lives.Lost told lost polled ended = lost
since_at lives.Polling told lost polled ended = polled
since_at lives.Ending told lost polled ended = ended

abbrev read_since : Bool → Option ℕ → Option ℕ → Option ℕ → Option (ℕ × ℕ) → Option ℕ → Bool → Option ℕ → Option ℕ
read_since held ended socket lost poll polled opened told = since_at (standing_at held ended socket lost poll polled opened told) told lost polled ended

since_is : (c : ℕ) (h : List ConnectionEvent)
    → since_of c h ≡
    read_since (is_removed c h) (ended_at c h) (socket_of c h) (lost_at c h) (poll_of c h) (poll_ended c h) (is_opened c h) (negotiated_at c h)
since_is c h = by (standing c h)
  where
    by : (l : Life) → since c l h ≡ since_at l (negotiated_at c h) (lost_at c h) (poll_ended c h) (ended_at c h)
    by lives.Unknown = refl
    by lives.Fresh = refl
    by (lives.Socket lane) = refl
    by lives.Lost = refl
    by lives.Polling = refl
    by lives.Ending = refl

same_eight : (f : Bool → Option ℕ → Option ℕ → Option ℕ → Option (ℕ × ℕ) → Option ℕ → Bool → Option ℕ → Option ℕ)
    (a a' : Bool) (b b' c c' d d' : Option ℕ) (e e' : Option (ℕ × ℕ)) (i i' : Option ℕ) (j j' : Bool) (k k' : Option ℕ)
    → a ≡ a' → b ≡ b' → c ≡ c' → d ≡ d' → e ≡ e' → i ≡ i' → j ≡ j' → k ≡ k' → f a b c d e i j k ≡ f a' b' c' d' e' i' j' k'
same_eight f a a' b b' c c' d d' e e' i i' j j' k k' p q r s t u v w = cc

same_since : (c : ℕ) (g h : List ConnectionEvent) → SameAt c g h → since_of c g ≡ since_of c h
same_since c g h s =
    since_is c g
    ∙ (same_eight read_since (is_removed c g) (is_removed c h) (ended_at c g) (ended_at c h) (socket_of c g) (socket_of c h) (lost_at c g) (lost_at c h)
    (poll_of c g) (poll_of c h) (poll_ended c g) (poll_ended c h) (is_opened c g) (is_opened c h) (negotiated_at c g) (negotiated_at c h)
    s.held s.ended s.socket s.lost s.poll s.polled s.opened s.told
    ∙ sym (since_is c h))

abbrev held_by : Bool → Option (ℕ × ℕ) → Option ℕ
held_by there poll = if there then option_map (λ poll. poll.1) poll else None

same_held : (c : ℕ) (g h : List ConnectionEvent) → SameAt c g h → held_since c g ≡ held_since c h
same_held c g h s = ap (λ (b : Bool). held_by b (poll_of c g)) (same_there c g h s) ∙ ap (λ (o : Option (ℕ × ℕ)). held_by (is_there c h) o) s.poll

-- one that is let go has no life
gone_standing : (c : ℕ) (h : List ConnectionEvent) → is_removed c h ≡ true → standing c h ≡ lives.Unknown
gone_standing c h e =
    ap (λ (b : Bool). standing_at b (ended_at c h) (socket_of c h) (lost_at c h) (poll_of c h) (poll_ended c h) (is_opened c h) (negotiated_at c h)) e

gone_since : (c : ℕ) (h : List ConnectionEvent) → is_removed c h ≡ true → since_of c h ≡ None
gone_since c h e = ap (λ (l : Life). since c l h) (gone_standing c h e)

-- ---- one that was made, and is kept or let go

made_number : (c : ℕ) (h : List ConnectionEvent) → is_made c h ≡ true → (0 < c) × (c ≤ made h)
made_number c h e =
    let p = and_parts (nat_lt 0 c) (nat_le c (made h)) e in
    (ltb-true 0 c p.0, leb-true c (made h) p.1)

is_gone : (a b : Bool) → a ≡ true → (a && not b) ≡ false → b ≡ true
is_gone true true e g = refl
is_gone true false e g = no_bool (sym g)
is_gone false b e g = no_bool e

gone_from_there : (c : ℕ) (h : List ConnectionEvent) → is_made c h ≡ true → is_there c h ≡ false → is_removed c h ≡ true
gone_from_there c h e g = is_gone (is_made c h) (is_removed c h) e g

there_from_kept : (e : Entry) (c : ℕ) (h : List ConnectionEvent) → Remembers e c h → is_there c h ≡ true
there_from_kept e c h r = ap (λ (b : Bool). b && not (is_removed c h)) r.there ∙ ap (λ (b : Bool). not b) r.held

not_there : (c : ℕ) (h : List ConnectionEvent) → is_removed c h ≡ true → is_there c h ≡ false
not_there c h e = and_right (is_made c h) (not (is_removed c h)) (ap (λ (b : Bool). not b) e)

gone_held : (c : ℕ) (h : List ConnectionEvent) → is_removed c h ≡ true → held_since c h ≡ None
gone_held c h e = ap (λ (b : Bool). held_by b (poll_of c h)) (not_there c h e)

held_there : (e : Entry) (c : ℕ) (h : List ConnectionEvent) → Remembers e c h → held_since c h ≡ option_map (λ poll. poll.1) (poll_of c h)
held_there e c h r = ap (λ (b : Bool). held_by b (poll_of c h)) (there_from_kept e c h r)

-- what is kept of a connection is kept of its token
kept_same : (o : Option ℕ) (g h : List ConnectionEvent) → ((c : ℕ) → o ≡ Some c → is_removed c g ≡ is_removed c h) → kept o h ≡ kept o g
kept_same None g h same = refl
kept_same (Some c) g h same = ap (λ (b : Bool). if b then None else Some c) (sym (same c refl))

-- ---- moments

waits_is : (k : ℕ) (o : Option ℕ) (ws : List Waiting) → waits_as k o ws → (since : ℕ) → is_within (at since k) ws ≡ is_this since o
waits_is k None ws p since = p since
waits_is k (Some moment) ws p since = p since

waits_from : (k : ℕ) (o : Option ℕ) (ws : List Waiting) → ((since : ℕ) → is_within (at since k) ws ≡ is_this since o) → waits_as k o ws
waits_from k None ws p = p
waits_from k (Some moment) ws p = p

-- what a change of the moments says
pub record Changes (old new : Moments) (k : ℕ) (before after : Option ℕ) : Type 0 where
  pub changed : IsInOrder old.waiting.items → waits_as k before old.waiting.items → HasPlace old before → waits_as k after new.waiting.items
  pub others : IsInOrder old.waiting.items → waits_as k before old.waiting.items → HasPlace old before → (since c : ℕ) → (c ≡ k → ⊥)
      → is_within (at since c) new.waiting.items ≡ is_within (at since c) old.waiting.items
  pub order : IsInOrder old.waiting.items → IsInOrder new.waiting.items
  pub lasts : new.lasts ≡ old.lasts
  pub capacity : vec_capacity old.waiting ≤ vec_capacity new.waiting

-- numbers wait since these moments, each for so long, and there is room for as many as these
record Lists (m : Moments) (s : ℕ → Option ℕ) (count lasts : ℕ) : Type 0 where
  waits : WaitFor m.waiting.items s
  order : IsInOrder m.waiting.items
  room : count ≤ vec_capacity m.waiting
  so_long : m.lasts ≡ lasts

since_listed : (f : Front) (h : List ConnectionEvent) → Stands f h → Lists f.moments (λ c. since_of c h) (index_map_len f.entries) lives_for
since_listed f h s = record { waits = s.waiting; order = s.order; room = s.room; so_long = s.lasts }

held_listed : (f : Front) (h : List ConnectionEvent) → Stands f h → Lists f.polls (λ c. held_since c h) (index_map_len f.entries) held_for
held_listed f h s = record { waits = s.polling; order = s.polls_order; room = s.polls_room; so_long = s.polls_last }

same_lists : {m : Moments} {s t : ℕ → Option ℕ} {count lasts : ℕ} → ((c : ℕ) → t c ≡ s c) → Lists m s count lasts → Lists m t count lasts
same_lists same l = record {
  waits = λ w. l.waits w ∙ ap (λ (o : Option ℕ). is_this w.since o) (sym (same w.conn));
  order = l.order;
  room = l.room;
  so_long = l.so_long;
}

-- where one of them waits otherwise, and there is a place for it if it didn't wait
changed_lists : {s t : ℕ → Option ℕ} {count less lasts : ℕ} (old new : Moments) (k : ℕ) (before after : Option ℕ)
    → ((c : ℕ) → (c ≡ k → ⊥) → t c ≡ s c) → before ≡ s k → after ≡ t k → (s k ≡ None → length old.waiting.items < count) → less ≤ count
    → Changes old new k before after → Lists old s count lasts → Lists new t less lasts
changed_lists {s} {t} {count} old new k before after same b a free fewer ch l = record {
  waits = λ w. elim (cases_eq w.conn k) [
    | inl e ↦ subst (λ (x : ℕ). is_within (at w.since x) new.waiting.items ≡ is_this w.since (t x)) (sym e)
        (waits_is k (t k) new.waiting.items (subst (λ (o : Option ℕ). waits_as k o new.waiting.items) a (ch.changed l.order waits place)) w.since)
    | inr e ↦ ch.others l.order waits place w.since w.conn e ∙ (l.waits w ∙ ap (λ (o : Option ℕ). is_this w.since o) (sym (same w.conn e)))
  ];
  order = ch.order l.order;
  room = let room = l.room in let more = ch.capacity in omega (arith, fewer, room, more);
  so_long = ch.lasts ∙ l.so_long;
}
  where
    waits : waits_as k before old.waiting.items
    waits = subst (λ (o : Option ℕ). waits_as k o old.waiting.items) (sym b) (waits_from k (s k) old.waiting.items (λ m. l.waits (at m k)))

    place : HasPlace old before
    place = subst (λ (o : Option ℕ). HasPlace old o) (sym b) (go (s k) refl)
      where
        go : (o : Option ℕ) → s k ≡ o → HasPlace old o
        go None e = let short = free e in let room = l.room in omega (arith, short, room)
        go (Some moment) e = tt

-- ---- one more note

module _ (f n : Front) (k : ℕ) (g h : List ConnectionEvent) (z : Follows k g h) (s : Stands f h) where
  same_made : (c : ℕ) → is_made c g ≡ is_made c h
  same_made c = ap (λ (m : ℕ). nat_lt 0 c && nat_le c m) z.made_same

  stands_after : is_made k h ≡ true → n.made ≡ f.made
      → ((c : ℕ) → (c ≡ k → ⊥) → entry_at n c ≡ entry_at f c) → IsEntryOf (entry_at n k) k g
      → index_map_len n.entries ≡ length (filter (λ c. is_there c g) (numbers_to (made h)))
      → ((token : List ℕ) → conn_at n token ≡ kept (conn_with token h) g)
      → Lists n.moments (λ c. since_of c g) (index_map_len n.entries) lives_for
      → Lists n.polls (λ c. held_since c g) (index_map_len n.entries) held_for → Stands n g
  stands_after there made_so entries own size tokens moments polls = record {
    made_so = made_so ∙ (s.made_so ∙ sym z.made_same);
    few = subst (λ (m : ℕ). m ≤ most_connections) (sym z.made_same) s.few;
    entries = λ c. elim (cases_eq c k) [
      | inl e ↦ subst (λ (x : ℕ). IsEntryOf (entry_at n x) x g) (sym e) own
      | inr e ↦ same_entry (entry_at n c) c g h (z.others c e) (subst (λ (o : Option Entry). IsEntryOf o c h) (sym (entries c e)) (s.entries c))
    ];
    unborn = λ c u. elim (cases_eq c k) [
      | inl e ↦ no_bool (sym u ∙ (same_made c ∙ (ap (λ (x : ℕ). is_made x h) e ∙ there)))
      | inr e ↦ same_unborn c g h (z.others c e) (s.unborn c (sym (same_made c) ∙ u))
    ];
    size = size ∙ ap (λ (m : ℕ). length (filter (λ c. is_there c g) (numbers_to m))) (sym z.made_same);
    tokens = λ token. tokens token ∙ ap (λ (o : Option ℕ). kept o g) (sym (z.conns token));
    agree = record {
      spelled = λ c token e. s.agree.spelled c token (sym (z.tokens c) ∙ e);
      told = λ c token e. z.conns token ∙ s.agree.told c token (sym (z.tokens c) ∙ e);
      had = λ c token e. z.tokens c ∙ s.agree.had c token (sym (z.conns token) ∙ e);
    };
    waiting = moments.waits;
    order = moments.order;
    room = moments.room;
    lasts = moments.so_long;
    polling = polls.waits;
    polls_order = polls.order;
    polls_room = polls.room;
    polls_last = polls.so_long;
  }

  -- it is kept before and after
  pub stands_kept : (e own : Entry) → Remembers e k h → Remembers own k g → n.made ≡ f.made
      → ((c : ℕ) → entry_at n c ≡ cond (nat_eq k c) (Some own) (entry_at f c))
      → index_map_len n.entries ≡ index_map_len f.entries → n.tokens ≡ f.tokens
      → (before after : Option ℕ) → before ≡ since_of k h → after ≡ since_of k g → Changes f.moments n.moments k before after
      → (held_before held_after : Option ℕ) → held_before ≡ option_map (λ poll. poll.1) (poll_of k h)
      → held_after ≡ option_map (λ poll. poll.1) (poll_of k g) → Changes f.polls n.polls k held_before held_after → Stands n g
  stands_kept e own r q made_so entries size tokens before after b a ch held_before held_after hb ha held =
      let as_many : index_map_len n.entries ≤ index_map_len f.entries = omega (arith, size) in
      stands_after r.there made_so
      (λ c ne. entries c ∙ ap (λ (t : Bool). cond t (Some own) (entry_at f c)) (ne_eqb k c (λ x. ne (sym x))))
      (subst (λ (o : Option Entry). IsEntryOf o k g) (sym (entries k ∙ ap (λ (t : Bool). cond t (Some own) (entry_at f k)) (eq-eqb k k refl))) q)
      (size ∙ (s.size ∙ count_same (made h) (λ c. is_there c h) (λ c. is_there c g) there_too))
      (λ token. ap (λ m. tree.get (slice_cmp nat_cmp) m token) tokens ∙ (s.tokens token ∙ kept_same (conn_with token h) g h (λ c _. held_too c)))
      (changed_lists f.moments n.moments k before after
      (λ c x. same_since c g h (z.others c x)) b a (λ none. waiting_fewer f h k s (there_from_kept e k h r) none) as_many ch (since_listed f h s))
      (changed_lists f.polls n.polls k held_before held_after
      (λ c x. same_held c g h (z.others c x)) (hb ∙ sym (held_there e k h r)) (ha ∙ sym (held_there own k g q))
      (λ none. polling_fewer f h k s (there_from_kept e k h r) none) as_many held (held_listed f h s))
    where
      there_too : (c : ℕ) → is_there c h ≡ is_there c g
      there_too c = elim (cases_eq c k) [
        | inl x ↦ ap (λ (i : ℕ). is_there i h) x
            ∙ (there_from_kept e k h r ∙ (sym (there_from_kept own k g q) ∙ ap (λ (i : ℕ). is_there i g) (sym x)))
        | inr x ↦ sym (same_there c g h (z.others c x))
      ]

      held_too : (c : ℕ) → is_removed c g ≡ is_removed c h
      held_too c = elim (cases_eq c k) [
        | inl x ↦ ap (λ (i : ℕ). is_removed i g) x ∙ (q.held ∙ (sym r.held ∙ ap (λ (i : ℕ). is_removed i h) (sym x)))
        | inr x ↦ (z.others c x).held
      ]

-- nothing changes where it was let go before
pub stands_gone : (f : Front) (k : ℕ) (g h : List ConnectionEvent) → Follows k g h → Stands f h → entry_at f k ≡ None → is_made k h ≡ true
    → (is_removed k h ≡ true → is_removed k g ≡ true) → Stands f g
stands_gone f k g h z s none there still =
    stands_after f f k g h z s there refl (λ c ne. refl)
    (subst (λ (o : Option Entry). IsEntryOf o k g) (sym none) (not_there k g gone_too))
    (s.size ∙ count_same (made h) (λ c. is_there c h) (λ c. is_there c g) there_too)
    (λ token. s.tokens token ∙ kept_same (conn_with token h) g h (λ c _. held_too c))
    (same_lists since_too (since_listed f h s))
    (same_lists polled_too (held_listed f h s))
  where
    gone : is_removed k h ≡ true
    gone = gone_from_there k h there (subst (λ (o : Option Entry). IsEntryOf o k h) none (s.entries k))

    gone_too : is_removed k g ≡ true
    gone_too = still gone

    there_too : (c : ℕ) → is_there c h ≡ is_there c g
    there_too c = elim (cases_eq c k) [
      | inl x ↦ ap (λ (i : ℕ). is_there i h) x ∙ (not_there k h gone ∙ (sym (not_there k g gone_too) ∙ ap (λ (i : ℕ). is_there i g) (sym x)))
      | inr x ↦ sym (same_there c g h (z.others c x))
    ]

    held_too : (c : ℕ) → is_removed c g ≡ is_removed c h
    held_too c = elim (cases_eq c k) [
      | inl x ↦ ap (λ (i : ℕ). is_removed i g) x ∙ (gone_too ∙ (sym gone ∙ ap (λ (i : ℕ). is_removed i h) (sym x)))
      | inr x ↦ (z.others c x).held
    ]

    since_too : (c : ℕ) → since_of c g ≡ since_of c h
    since_too c = elim (cases_eq c k) [
      | inl x ↦ subst (λ (i : ℕ). since_of i g ≡ since_of i h) (sym x) (gone_since k g gone_too ∙ sym (gone_since k h gone))
      | inr x ↦ same_since c g h (z.others c x)
    ]

    polled_too : (c : ℕ) → held_since c g ≡ held_since c h
    polled_too c = elim (cases_eq c k) [
      | inl x ↦ subst (λ (i : ℕ). held_since i g ≡ held_since i h) (sym x) (gone_held k g gone_too ∙ sym (gone_held k h gone))
      | inr x ↦ same_held c g h (z.others c x)
    ]

pub still_gone : (k : ℕ) (n : EntryEvent) (h : List ConnectionEvent) → is_removed k h ≡ true → is_removed k (note_of k n ∷ h) ≡ true
still_gone k (noted.Socket lane now) h e = e
still_gone k (noted.Poll lane now) h e = e
still_gone k (noted.Answer lane now) h e = e
still_gone k (noted.Loss lane now) h e = e
still_gone k (noted.End now) h e = e

-- ---- nothing is kept of it any more

pub removed : (k : ℕ) (h : List ConnectionEvent) → is_removed k (Removed k ∷ h) ≡ true
removed k h = or_left (k == k) (is_removed k h) (eq-eqb k k refl)

-- the map of tokens loses its connection's token, if it had one
pub tokens_without : (f : Front) (k : ℕ) (h : List ConnectionEvent) (e : Entry) → Stands f h → Remembers e k h
    → (own : List ℕ) → text_told e.told ≡ Some own → (token : List ℕ)
    → cond (is_at (slice_cmp nat_cmp own) token) None (conn_at f token) ≡ kept (conn_with token h) (Removed k ∷ h)
tokens_without f k h e s r own is token = go (is_at (slice_cmp nat_cmp own) token) refl
  where
    told : token_told k h ≡ Some own
    told = sym r.token ∙ is

    go : (b : Bool) → is_at (slice_cmp nat_cmp own) token ≡ b → cond b None (conn_at f token) ≡ kept (conn_with token h) (Removed k ∷ h)
    go true x =
        let same : own ≡ token = (bytes_eq-Decides own token).0 (sym (is_eq-slice_cmp own token) ∙ x) in
        sym (ap (λ (t : List ℕ). kept (conn_with t h) (Removed k ∷ h)) (sym same)
        ∙ (ap (λ (o : Option ℕ). kept o (Removed k ∷ h)) (s.agree.told k own told)
        ∙ ap (λ (b : Bool). if b then None else Some k) (removed k h)))
    go false x = s.tokens token ∙ kept_same (conn_with token h) (Removed k ∷ h) h (λ c at. ((let_go_follows k h).others c (λ q. apart c at q)).held)
      where
        apart : (c : ℕ) → conn_with token h ≡ Some c → c ≡ k → ⊥
        apart c at q =
            let had : token_told k h ≡ Some token = ap (λ (i : ℕ). token_told i h) (sym q) ∙ s.agree.had c token at in
            let same : own ≡ token = same_Some own token (sym told ∙ had) in
            no_bool (sym x ∙ (is_eq-slice_cmp own token ∙ (bytes_eq-Decides own token).1 same))

pub tokens_with : (f : Front) (k : ℕ) (h : List ConnectionEvent) (e : Entry) → Stands f h → Remembers e k h
    → text_told e.told ≡ None → (token : List ℕ) → conn_at f token ≡ kept (conn_with token h) (Removed k ∷ h)
tokens_with f k h e s r is token =
    s.tokens token ∙ kept_same (conn_with token h) (Removed k ∷ h) h (λ c at. ((let_go_follows k h).others c (λ q. apart c at q)).held)
  where
    apart : (c : ℕ) → conn_with token h ≡ Some c → c ≡ k → ⊥
    apart c at q =
        let had : token_told k h ≡ Some token = ap (λ (i : ℕ). token_told i h) (sym q) ∙ s.agree.had c token at in
        none-some token (sym is ∙ (r.token ∙ had))

pub stands_without : (f n : Front) (k : ℕ) (h : List ConnectionEvent) (e : Entry) → Stands f h → Remembers e k h → n.made ≡ f.made
    → ((c : ℕ) → entry_at n c ≡ cond (nat_eq k c) None (entry_at f c)) → index_map_len n.entries + 1 ≡ index_map_len f.entries
    → ((token : List ℕ) → conn_at n token ≡ kept (conn_with token h) (Removed k ∷ h))
    → (before : Option ℕ) → before ≡ since_of k h → Changes f.moments n.moments k before None
    → (held_before : Option ℕ) → held_before ≡ option_map (λ poll. poll.1) (poll_of k h) → Changes f.polls n.polls k held_before None
    → Stands n (Removed k ∷ h)
stands_without f n k h e s r made_so entries size tokens before b ch held_before hb held =
    let g : List ConnectionEvent = Removed k ∷ h in
    let others = (let_go_follows k h).others in
    let fewer : index_map_len n.entries ≤ index_map_len f.entries = omega (arith, size) in
    let number = made_number k h r.there in
    let count = count_without (made h) k (λ c. is_there c h) (λ c. is_there c (Removed k ∷ h)) number.0 number.1 (there_from_kept e k h r)
    (not_there k (Removed k ∷ h) (removed k h)) (λ c ne. sym (same_there c (Removed k ∷ h) h ((let_go_follows k h).others c ne))) in
    let had = s.size in
    stands_after f n k (Removed k ∷ h) h (let_go_follows k h) s r.there made_so
    (λ c ne. entries c ∙ ap (λ (t : Bool). cond t None (entry_at f c)) (ne_eqb k c (λ x. ne (sym x))))
    (subst (λ (o : Option Entry). IsEntryOf o k (Removed k ∷ h)) (sym (entries k ∙ ap (λ (t : Bool). cond t None (entry_at f k)) (eq-eqb k k refl)))
    (not_there k (Removed k ∷ h) (removed k h)))
    (omega (arith, size, had, count))
    tokens
    (changed_lists f.moments n.moments k before None
    (λ c x. same_since c g h (others c x)) b (sym (gone_since k g (removed k h)))
    (λ none. waiting_fewer f h k s (there_from_kept e k h r) none) fewer ch (since_listed f h s))
    (changed_lists f.polls n.polls k held_before None
    (λ c x. same_held c g h (others c x)) (hb ∙ sym (held_there e k h r)) (sym (gone_held k g (removed k h)))
    (λ none. polling_fewer f h k s (there_from_kept e k h r) none) fewer held (held_listed f h s))

-- the same is kept, in a map with another room
pub stands_same : (f n : Front) (h : List ConnectionEvent)
    → n.made ≡ f.made → n.entries.entries ≡ f.entries.entries → n.tokens ≡ f.tokens → n.moments ≡ f.moments
    → n.polls ≡ f.polls → Stands f h → Stands n h
stands_same f n h made_so entries tokens moments polls s = record {
  made_so = made_so ∙ s.made_so;
  few = s.few;
  entries = λ c. subst (λ (es : List (ℕ × Entry)). IsEntryOf (lookup (nat_eq c) es) c h) (sym entries) (s.entries c);
  unborn = s.unborn;
  size = ap (λ (es : List (ℕ × Entry)). length es) entries ∙ s.size;
  tokens = λ token. ap (λ m. tree.get (slice_cmp nat_cmp) m token) tokens ∙ s.tokens token;
  agree = s.agree;
  waiting = λ w. ap (λ (m : Moments). is_within w m.waiting.items) moments ∙ s.waiting w;
  order = subst (λ (m : Moments). IsInOrder m.waiting.items) (sym moments) s.order;
  room = subst (λ (m : Moments). index_map_len n.entries ≤ vec_capacity m.waiting) (sym moments)
      (subst (λ (es : List (ℕ × Entry)). length es ≤ vec_capacity f.moments.waiting) (sym entries) s.room);
  lasts = ap (λ (m : Moments). m.lasts) moments ∙ s.lasts;
  polling = λ w. ap (λ (m : Moments). is_within w m.waiting.items) polls ∙ s.polling w;
  polls_order = subst (λ (m : Moments). IsInOrder m.waiting.items) (sym polls) s.polls_order;
  polls_room = subst (λ (m : Moments). index_map_len n.entries ≤ vec_capacity m.waiting) (sym polls)
      (subst (λ (es : List (ℕ × Entry)). length es ≤ vec_capacity f.polls.waiting) (sym entries) s.polls_room);
  polls_last = ap (λ (m : Moments). m.lasts) polls ∙ s.polls_last;
}
