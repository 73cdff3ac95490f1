-- A front that stands for some notes stands for every other of which the same is read off.
use Rattle.std.proofs.Common.{◌≡◌, ◌≤◌, ℕ, Bool, not, ◌&&◌, ◌||◌, List, filter, length, Option, Some, None, is_some, option_map, unwrap_or, nat_lt, nat_le, if◌then◌else◌, sym, ap, subst, ◌∙◌, refl}
use Rattle.std.proofs.lemmas.List.Elements.{filter_agree}
use Rattle.hd_server.specs.declared.vocabulary.Life.{Life}
use Rattle.hd_server.specs.declared.vocabulary.Life.TheVariants.{Unknown, Fresh, Socket, Lost, Polling, Ending}
use Rattle.hd_delivery.specs.Histories.{is_this, first_of}
use Rattle.hd_server.specs.Numbers.{most_connections}
use Rattle.hd_server.specs.Lives.{ConnectionEvent, made, numbers_to, is_made, is_removed, is_opened, negotiated_at, is_resumable_promise, socket_of, lost_at, poll_of, poll_ended, ended_at, conn_with, standing, since, when}
use Rattle.hn_server_front.specs.declared.entry.Entry.{Entry}
use Rattle.hn_server_front.specs.declared.front.Front.{Front}
use Rattle.hn_server_front.specs.Entries.{token_told}
use Rattle.hn_server_front.specs.Stands.{IsEntryOf, IsUnborn, Stands, TokensAgree, entry_at, held_since, is_there, kept, since_of}

-- the same is read off
pub record Alike (h g : List ConnectionEvent) : Type 0 where
  pub made_so : made h ≡ made g
  pub held : (c : ℕ) → is_removed c h ≡ is_removed c g
  pub opened : (c : ℕ) → is_opened c h ≡ is_opened c g
  pub told : (c : ℕ) → negotiated_at c h ≡ negotiated_at c g
  pub promise : (c : ℕ) → is_resumable_promise c h ≡ is_resumable_promise c g
  pub token : (c : ℕ) → token_told c h ≡ token_told c g
  pub socket : (c : ℕ) → socket_of c h ≡ socket_of c g
  pub lost : (c : ℕ) → lost_at c h ≡ lost_at c g
  pub poll : (c : ℕ) → poll_of c h ≡ poll_of c g
  pub polled : (c : ℕ) → poll_ended c h ≡ poll_ended c g
  pub ended : (c : ℕ) → ended_at c h ≡ ended_at c g
  pub conn : (token : List ℕ) → conn_with token h ≡ conn_with token g

made_alike : (h g : List ConnectionEvent) → Alike h g → (c : ℕ) → is_made c h ≡ is_made c g
made_alike h g a c = ap (λ n. nat_lt 0 c && nat_le c n) a.made_so

there_alike : (h g : List ConnectionEvent) → Alike h g → (c : ℕ) → is_there c h ≡ is_there c g
there_alike h g a c = ap (λ b. b && not (is_removed c h)) (made_alike h g a c) ∙ ap (λ b. is_made c g && not b) (a.held c)

-- eight that are the same make the same
pub same_of_eight : {A B C D E F G H L : Type 0} (f : A → B → C → D → E → F → G → H → L)
    → (a a' : A) (b b' : B) (c c' : C) (d d' : D) (e e' : E) (k k' : F) (g g' : G) (h h' : H)
    → a ≡ a' → b ≡ b' → c ≡ c' → d ≡ d' → e ≡ e' → k ≡ k' → g ≡ g' → h ≡ h' → f a b c d e k g h ≡ f a' b' c' d' e' k' g' h'
same_of_eight f a a' b b' c c' d d' e e' k k' g g' h h' p q r s t u v w = cc

abbrev pub standing_by : Bool → Option ℕ → Option ℕ → Option ℕ → Option (ℕ × ℕ) → Option ℕ → Bool → Option ℕ → Life
standing_by held ended socket lost poll polled opened told = unwrap_or
    (first_of (when held Unknown)
    (first_of (when (is_some ended) Ending)
    (first_of (option_map Socket socket)
    (first_of (when (is_some lost) Lost)
    (first_of (when (is_some poll || is_some polled) Polling)
    (when (opened || is_some told) Fresh)))))) Unknown

pub standing_alike : (h g : List ConnectionEvent) → Alike h g → (c : ℕ) → standing c h ≡ standing c g
standing_alike h g a c =
    same_of_eight standing_by (is_removed c h) (is_removed c g) (ended_at c h) (ended_at c g) (socket_of c h) (socket_of c g) (lost_at c h) (lost_at c g)
    (poll_of c h) (poll_of c g) (poll_ended c h) (poll_ended c g) (is_opened c h) (is_opened c g) (negotiated_at c h) (negotiated_at c g)
    (a.held c) (a.ended c) (a.socket c) (a.lost c) (a.poll c) (a.polled c) (a.opened c) (a.told c)

since_alike : (h g : List ConnectionEvent) → Alike h g → (c : ℕ) (life : Life) → since c life h ≡ since c life g
since_alike h g a c Unknown = refl
since_alike h g a c Fresh = a.told c
since_alike h g a c (Socket lane) = refl
since_alike h g a c Lost = a.lost c
since_alike h g a c Polling = a.polled c
since_alike h g a c Ending = a.ended c

pub since_of_alike : (h g : List ConnectionEvent) → Alike h g → (c : ℕ) → since_of c h ≡ since_of c g
since_of_alike h g a c = since_alike h g a c (standing c h) ∙ ap (λ life. since c life g) (standing_alike h g a c)

held_alike : (h g : List ConnectionEvent) → Alike h g → (c : ℕ) → held_since c h ≡ held_since c g
held_alike h g a c =
    ap (λ b. if b then option_map (λ poll. poll.1) (poll_of c h) else None) (there_alike h g a c)
    ∙ ap (λ o. if is_there c g then option_map (λ poll. poll.1) o else None) (a.poll c)

entry_alike : (h g : List ConnectionEvent) → Alike h g → (c : ℕ) (e : Option Entry) → IsEntryOf e c h → IsEntryOf e c g
entry_alike h g a c None r = sym (there_alike h g a c) ∙ r
entry_alike h g a c (Some e) r = record {
  there = sym (made_alike h g a c) ∙ r.there;
  held = sym (a.held c) ∙ r.held;
  begun = ap (λ b. b || is_some (negotiated_at c g)) (sym (a.opened c)) ∙ (ap (λ o. is_opened c h || is_some o) (sym (a.told c)) ∙ r.begun);
  told = r.told ∙ a.told c;
  token = r.token ∙ a.token c;
  promise = r.promise ∙ a.promise c;
  socket = r.socket ∙ a.socket c;
  lost = r.lost ∙ a.lost c;
  poll = r.poll ∙ a.poll c;
  polled = r.polled ∙ a.polled c;
  ended = r.ended ∙ a.ended c;
}

unborn_alike : (h g : List ConnectionEvent) → Alike h g → (c : ℕ) → IsUnborn c h → IsUnborn c g
unborn_alike h g a c u = record {
  held = sym (a.held c) ∙ u.held;
  opened = sym (a.opened c) ∙ u.opened;
  told = sym (a.told c) ∙ u.told;
  promise = sym (a.promise c) ∙ u.promise;
  token = sym (a.token c) ∙ u.token;
  socket = sym (a.socket c) ∙ u.socket;
  lost = sym (a.lost c) ∙ u.lost;
  poll = sym (a.poll c) ∙ u.poll;
  polled = sym (a.polled c) ∙ u.polled;
  ended = sym (a.ended c) ∙ u.ended;
}

kept_alike : (h g : List ConnectionEvent) → Alike h g → (o : Option ℕ) → kept o h ≡ kept o g
kept_alike h g a None = refl
kept_alike h g a (Some c) = ap (λ b. if b then None else Some c) (a.held c)

agree_alike : (h g : List ConnectionEvent) → Alike h g → TokensAgree h → TokensAgree g
agree_alike h g a t = record {
  spelled = λ c token e. t.spelled c token (a.token c ∙ e);
  told = λ c token e. sym (a.conn token) ∙ t.told c token (a.token c ∙ e);
  had = λ c token e. sym (a.token c) ∙ t.had c token (a.conn token ∙ e);
}

pub stands_alike : (f : Front) (h g : List ConnectionEvent) → Alike h g → Stands f h → Stands f g
stands_alike f h g a s = record {
  made_so = s.made_so ∙ a.made_so;
  few = subst (λ n. n ≤ most_connections) a.made_so s.few;
  entries = λ c. entry_alike h g a c (entry_at f c) (s.entries c);
  unborn = λ c e. unborn_alike h g a c (s.unborn c (made_alike h g a c ∙ e));
  size = s.size ∙ (ap length (filter_agree (λ c. is_there c h) (λ c. is_there c g) (there_alike h g a) (numbers_to (made h)))
      ∙ ap (λ n. length (filter (λ c. is_there c g) (numbers_to n))) a.made_so);
  tokens = λ token. s.tokens token ∙ (ap (λ o. kept o h) (a.conn token) ∙ kept_alike h g a (conn_with token g));
  agree = agree_alike h g a s.agree;
  waiting = λ w. s.waiting w ∙ ap (λ o. is_this w.since o) (since_of_alike h g a w.conn);
  order = s.order;
  room = s.room;
  lasts = s.lasts;
  polling = λ w. s.polling w ∙ ap (λ o. is_this w.since o) (held_alike h g a w.conn);
  polls_order = s.polls_order;
  polls_room = s.polls_room;
  polls_last = s.polls_last;
}
