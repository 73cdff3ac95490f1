-- One peer's ledgers are legal, and each call ends once after a close.
use Rattle.std.proofs.Common.{inl, inr, ⊎_elim, ◌≡◌, ℕ, zero, suc, ◌<◌, Bool, true, false, List, [], ◌∷◌, ◌++◌, Option, Some, None, refl, sym, ap, ◌∙◌, subst, arith}
use Rattle.std.specs.Prelude.{◌⊎◌, nat_lt, is_some, slice_get, ◌==◌, ◌||◌, ◌&&◌, not, if◌then◌else◌}
use Rattle.std.proofs.lemmas.Bool.{or_cases, and_parts, not-true, eqb-true, eq-eqb, ltb-true}
use Rattle.hv_value.specs.declared.value.Value.{Value}
use Rattle.hm_message.specs.declared.message.Codec.{Codec}
use Rattle.hm_message.specs.declared.message.Message.{Message}
use Rattle.hm_message.specs.declared.message.Ending.{Ending}
use Rattle.hd_calls.specs.declared.vocabulary.Act.{Act}
use Rattle.hd_calls.specs.Hubs.{Way, Notify, Call, Stream, Invoked, Answer, Item, End, Purpose, ToBegin, ToAnswer, ToCancel, ToNothing, Turn, Hub, id_of, is_stream, purpose_of}
use Rattle.hd_calls.specs.Peers.{Begins, Brings, PeerEvent, Plain, Calls, Uploads, Cancels, Reads, Handles, Runs, Answers, Refuses, Loses, Rounds, Settings, drawn, call_of, given, lost, has_end, has_id, streams_items, live_call, takes, uploaded, stream_count, live_upload, waiting, begun, moments, acts, over, live_job, answer_of, add, answers, byte_steps, codec, is_shut}
use Rattle.hd_calls.specs.Rules.{ActsOn, IsDue, MadeAs, Follows}
use Rattle.hd_calls.specs.Ledgers.{IsLegal, CallHappening, Called, Got, Uploaded, Stopped, Gone, ledger, IsLegalRest, IsLegalLedger, sent_for, KeepsJob, Keeps, After, Lives, IsGone, Ends, NoneLeft, EndsAfterClose}
use Rattle.hd_calls.specs.PeerWorlds.{next_step}
use Rattle.hd_calls.proofs.Lists.{both, not_true}
use Rattle.hd_calls.proofs.Local.{OpenReads, add_closed}
use Rattle.hd_calls.proofs.Names.{keyed_id, number_drawn}
use Rattle.hd_calls.proofs.Callee.{Speaks, Within, within_tail, due_live, same_call, live_parts, over_is, answers_push, answers_legal, acts_run}
use Rattle.hd_calls.proofs.Caller.{brought, takes_live}
use Rattle.hd_calls.proofs.Feeds.{job_fed}

-- live calls --------------------------------------------------------------------

pub record LiveParts (n : ℕ) (h : List PeerEvent) : Type 0 where
  pub id : has_id (call_of n h) ≡ true
  pub unended : has_end (given n h) ≡ false
  pub kept : lost n h ≡ false

pub live_call_parts : (n : ℕ) (h : List PeerEvent) → live_call n h ≡ true → LiveParts n h
live_call_parts n h e =
    let a = and_parts (has_id (call_of n h)) (not (has_end (given n h)) && not (lost n h)) e in
    let b = and_parts (not (has_end (given n h))) (not (lost n h)) a.1 in
    record { id = a.0; unended = not-true (has_end (given n h)) b.0; kept = not-true (lost n h) b.1 }

number_positive : {Job : Type 0} (hub : Hub Job) (t : Settings) (n : ℕ) (h : List PeerEvent) → Follows hub t h → has_id (call_of n h) ≡ true → 0 < n
number_positive hub t n [] p e = absurd (let z : false ≡ true = e in cc)
number_positive hub t n (Calls a k d ∷ h) p e = both (λ o. has_id o ≡ true → 0 < n) (n == k) (Some d) (call_of n h)
    (λ g q. let z = eqb-true n k g in let y = id_there (id_of d.way) q in let x = keyed_id t (drawn h) k d.way d y.0 p.1.made y.1 in omega (arith, x.1))
    (λ g q. number_positive hub t n h p.0 q) e
  where
    id_there : (o : Option (List ℕ)) → is_some o ≡ true → (i : List ℕ) × (o ≡ Some i)
    id_there None e = absurd (let z : false ≡ true = e in cc)
    id_there (Some i) e = (i, refl)
number_positive hub t n (_ ∷ h) p e = number_positive hub t n h p.0 e

pub made_number : (t : Settings) (last n : ℕ) (way : Way) (c : Invoked) → MadeAs t last n way c → (n ≡ 0) ⊎ (n ≡ suc last)
made_number t last n Notify c m = ⊎_elim (λ a. inl a.0) (λ b. inr b.1.0) m
made_number t last n (Call i) c m = inr m.1.0
made_number t last n (Stream i) c m = inr m.1.0

-- a number that is drawn anew is no call's with an id
pub fresh : {Job : Type 0} (hub : Hub Job) (t : Settings) (n k : ℕ) (d : Invoked) (h : List PeerEvent) → Follows hub t h → MadeAs t (drawn h) k d.way d → n ≡ k → has_id (call_of n h) ≡ false
fresh hub t n k d h p m e = not_true (has_id (call_of n h)) (λ f. there (call_of n h) refl f)
  where
    there : (o : Option Invoked) → call_of n h ≡ o → has_id o ≡ true → ⊥
    there None g f = absurd (let z : false ≡ true = f in cc)
    there (Some b) g f =
        let l = number_drawn n h b g in
        let z = number_positive hub t n h p (ap has_id g ∙ f) in
        ⊎_elim (λ a. omega (arith, a)) (λ a. omega (arith, a)) (made_number t (drawn h) k d.way d m)

new_number : {Job : Type 0} (hub : Hub Job) (t : Settings) (n k : ℕ) (d : Invoked) (h : List PeerEvent) → MadeAs t (drawn h) k d.way d → 0 < n → n ≡ k → call_of n h ≡ None
new_number hub t n k d h m l e = there (call_of n h) refl
  where
    there : (o : Option Invoked) → call_of n h ≡ o → o ≡ None
    there None g = refl
    there (Some b) g = absurd (let z = number_drawn n h b g in ⊎_elim (λ a. omega (arith, a)) (λ a. omega (arith, a)) (made_number t (drawn h) k d.way d m))

has_end_push : (xs : List Answer) (v : Value) → has_end xs ≡ false → has_end (xs ++ Item v ∷ []) ≡ false
has_end_push [] v e = refl
has_end_push (Item w ∷ xs) v e = has_end_push xs v e
has_end_push (End w ∷ xs) v e = e

has_end_last : (xs : List Answer) (v : Ending) → has_end (xs ++ End v ∷ []) ≡ true
has_end_last [] v = refl
has_end_last (Item w ∷ xs) v = has_end_last xs v
has_end_last (End w ∷ xs) v = refl

-- a call without an id has no answers and isn't lost
pub idless : {Job : Type 0} (hub : Hub Job) (t : Settings) (n : ℕ) (h : List PeerEvent) → Follows hub t h → has_id (call_of n h) ≡ false → (given n h ≡ []) × (lost n h ≡ false)
idless hub t n [] p e = (refl, refl)
idless hub t n (Calls a k d ∷ h) p e = idless hub t n h p.0 (both (λ o. has_id o ≡ false → has_id (call_of n h) ≡ false) (n == k) (Some d) (call_of n h) (λ g q. fresh hub t n k d h p.0 p.1.made (eqb-true n k g)) (λ g q. q) e)
idless hub t n (Handles m (Brings k a floods) ∷ h) p e =
    let ih = idless hub t n h p.0 e in (
      both (λ xs. xs ≡ []) (n == k) (given n h ++ a ∷ []) (given n h)
          (λ f. let z = eqb-true n k f in let l = takes_live n a h (subst (λ x. takes x a h ≡ true) (sym z) (brought t h (purpose_of m) k a floods p.1.1).taken) in absurd (let y : false ≡ true = sym e ∙ (live_call_parts n h l).id in cc))
          (λ f. ih.0),
      ih.1,
    )
idless hub t n (Handles m x ∷ h) p e = idless hub t n h p.0 e
idless hub t n (Loses k ∷ h) p e =
    let ih = idless hub t n h p.0 e in (
      ih.0,
      not_true ((n == k) || lost n h) (λ f. ⊎_elim
          (λ g. let z = eqb-true n k g in absurd (let y : false ≡ true = sym e ∙ (live_call_parts n h (subst (λ x. live_call x h ≡ true) (sym z) p.1.1)).id in cc))
          (λ g. absurd (let z : false ≡ true = sym ih.1 ∙ g in cc))
          (or_cases (n == k) (lost n h) f)),
    )
idless hub t n (_ ∷ h) p e = idless hub t n h p.0 e

-- ledgers -------------------------------------------------------------------------

abbrev pub ends_entry : CallHappening → Bool
ends_entry (Got k (End e)) = true
ends_entry (Gone k) = true
ends_entry _ = false

abbrev pub finished : List CallHappening → Bool
finished [] = false
finished (e ∷ es) = ends_entry e || finished es

abbrev pub Fits : Way → CallHappening → Type 0
Fits way (Called k c) = ⊥
Fits way (Got k (Item v)) = is_stream way ≡ true
Fits way (Got k (End e)) = is_some (id_of way) ≡ true
Fits way (Uploaded k w a) = Unit {0}
Fits way (Stopped k) = is_some (id_of way) ≡ true
Fits way (Gone k) = is_some (id_of way) ≡ true

rest_push : (way : Way) (es : List CallHappening) (e : CallHappening) → IsLegalRest way es → finished es ≡ false → Fits way e → IsLegalRest way (es ++ e ∷ [])
rest_push way [] (Called k c) l f g = g
rest_push way [] (Got k (Item v)) l f g = (g, tt)
rest_push way [] (Got k (End v)) l f g = (g, refl)
rest_push way [] (Uploaded k w a) l f g = tt
rest_push way [] (Stopped k) l f g = (g, tt)
rest_push way [] (Gone k) l f g = (g, refl)
rest_push way (Called k c ∷ es) e l f g = l
rest_push way (Got k (Item v) ∷ es) e l f g = (l.0, rest_push way es e l.1 f g)
rest_push way (Got k (End v) ∷ es) e l f g = absurd (let z : true ≡ false = f in cc)
rest_push way (Uploaded k w a ∷ es) e l f g = rest_push way es e l f g
rest_push way (Stopped k ∷ es) e l f g = (l.0, rest_push way es e l.1 f g)
rest_push way (Gone k ∷ es) e l f g = absurd (let z : true ≡ false = f in cc)

finished_push : (es : List CallHappening) (e : CallHappening) → finished es ≡ false → finished (es ++ e ∷ []) ≡ ends_entry e
finished_push [] e f = elim (ends_entry e) as (λ b. (b || false) ≡ b) [ true ↦ refl | false ↦ refl ]
finished_push (x ∷ es) e f = go (λ q. finished_push es e q) (ends_entry x) f
  where
    go : (finished es ≡ false → finished (es ++ e ∷ []) ≡ ends_entry e) → (b : Bool) → (b || finished es) ≡ false → (b || finished (es ++ e ∷ [])) ≡ ends_entry e
    go ih true q = absurd (let z : true ≡ false = q in cc)
    go ih false q = ih q

-- a call's ledger so far
pub record Led (n : ℕ) (h : List PeerEvent) (c : Invoked) : Type 0 where
  pub rest : List CallHappening
  pub is : ledger n h ≡ Called n c ∷ rest
  pub legal : IsLegalRest c.way rest
  pub finishes : finished rest ≡ (has_end (given n h) || lost n h)

pub record Book (n : ℕ) (h : List PeerEvent) : Type 0 where
  pub none : call_of n h ≡ None → ledger n h ≡ []
  pub some : (c : Invoked) → call_of n h ≡ Some c → Led n h c

-- one more entry of a call that isn't finished
entry : (n : ℕ) (h g : List PeerEvent) (e : CallHappening) → call_of n g ≡ call_of n h → ledger n g ≡ ledger n h ++ e ∷ [] → ((c : Invoked) → call_of n h ≡ Some c → Fits c.way e) → (call_of n h ≡ None → ⊥)
    → has_end (given n h) ≡ false → lost n h ≡ false → (has_end (given n g) || lost n g) ≡ ends_entry e → Book n h → Book n g
entry n h g e same l fits there f k ends b = record {
  none = λ q. absurd (there (sym same ∙ q));
  some = λ c q.
      let w = sym same ∙ q in
      let r = b.some c w in
      let open_ : finished r.rest ≡ false = r.finishes ∙ (ap (λ x. x || lost n h) f ∙ k) in
      record {
        rest = r.rest ++ e ∷ [];
        is = l ∙ ap (λ es. es ++ e ∷ []) r.is;
        legal = rest_push c.way r.rest e r.legal open_ (fits c w);
        finishes = finished_push r.rest e open_ ∙ sym ends;
      };
}

unchanged : (n : ℕ) (h g : List PeerEvent) → call_of n g ≡ call_of n h → ledger n g ≡ ledger n h → given n g ≡ given n h → lost n g ≡ lost n h → Book n h → Book n g
unchanged n h g same l f k b = record {
  none = λ q. l ∙ b.none (sym same ∙ q);
  some = λ c q. let r = b.some c (sym same ∙ q) in record { rest = r.rest; is = l ∙ r.is; legal = r.legal; finishes = r.finishes ∙ (ap (λ xs. has_end xs || lost n h) (sym f) ∙ ap (λ x. has_end (given n g) || x) (sym k)) };
}

id_call : (n : ℕ) (h : List PeerEvent) → has_id (call_of n h) ≡ true → call_of n h ≡ None → ⊥
id_call n h e f = absurd (let z : false ≡ true = ap has_id (sym f) ∙ e in cc)

streams_true : (n : ℕ) (h : List PeerEvent) (v : Value) (c : Invoked) → takes n (Item v) h ≡ true → call_of n h ≡ Some c → is_stream c.way ≡ true
streams_true n h v c e f = ap streams_items (sym f) ∙ (and_parts (streams_items (call_of n h)) (live_call n h) e).0

id_true : (n : ℕ) (h : List PeerEvent) (c : Invoked) → live_call n h ≡ true → call_of n h ≡ Some c → is_some (id_of c.way) ≡ true
id_true n h c e f = ap has_id (sym f) ∙ (live_call_parts n h e).id

fits_got : (n : ℕ) (h : List PeerEvent) (k : ℕ) (a : Answer) → takes n a h ≡ true → (c : Invoked) → call_of n h ≡ Some c → Fits c.way (Got k a)
fits_got n h k (Item v) e c f = streams_true n h v c e f
fits_got n h k (End v) e c f = id_true n h c e f

got_ends : (xs : List Answer) (k : ℕ) (a : Answer) → has_end xs ≡ false → has_end (xs ++ a ∷ []) ≡ ends_entry (Got k a)
got_ends xs k (Item v) e = has_end_push xs v e
got_ends xs k (End v) e = has_end_last xs v

or_none : (a : Bool) → (a || false) ≡ a
or_none true = refl
or_none false = refl

uploads_open : {Job : Type 0} (hub : Hub Job) (t : Settings) (n w : ℕ) (h : List PeerEvent) → Follows hub t h → live_upload n w h ≡ true → (has_end (given n h) ≡ false) × (lost n h ≡ false) × (call_of n h ≡ None → ⊥)
uploads_open hub t n w h p e =
    let a = and_parts (nat_lt w (stream_count (call_of n h)) && not (has_end (uploaded n w h))) (live_call n h || not (has_id (call_of n h))) e in
    let b = and_parts (nat_lt w (stream_count (call_of n h))) (not (has_end (uploaded n w h))) a.0 in
    let there : call_of n h ≡ None → ⊥ = λ q. absurd (let z : nat_lt w 0 ≡ true = ap (λ o. nat_lt w (stream_count o)) (sym q) ∙ b.0 in below w z) in
    ⊎_elim (λ l. let q = live_call_parts n h l in (q.unended, q.kept, there))
    (λ l. let q = idless hub t n h p (not-true (has_id (call_of n h)) l) in (ap has_end q.0, q.1, there))
    (or_cases (live_call n h) (not (has_id (call_of n h))) a.1)
  where
    below : (w : ℕ) → nat_lt w 0 ≡ true → ⊥
    below w e = let z = ltb-true w 0 e in omega arith

module _ {Job : Type 0} (hub : Hub Job) (t : Settings) (n : ℕ) (pos : 0 < n) where
  books : (h : List PeerEvent) → Follows hub t h → Book n h
  books [] p = record { none = λ q. refl; some = λ d q. absurd (cc) }
  books (Calls a k d ∷ h) p = go (n == k) refl (books h p.0)
    where
      go : (b : Bool) → (n == k) ≡ b → Book n h → Book n (Calls a k d ∷ h)
      go false f b = unchanged n h (Calls a k d ∷ h) (ap (λ y. if y then Some d else call_of n h) f) (ap (λ y. if y then ledger n h ++ Called k d ∷ [] else ledger n h) f) refl refl b
      go true f b =
          let none = new_number hub t n k d h p.1.made pos (eqb-true n k f) in
          let empty = idless hub t n h p.0 (ap has_id none) in
          let here : call_of n (Calls a k d ∷ h) ≡ Some d = ap (λ y. if y then Some d else call_of n h) f in
          let book : ledger n (Calls a k d ∷ h) ≡ Called k d ∷ [] = ap (λ y. if y then ledger n h ++ Called k d ∷ [] else ledger n h) f ∙ ap (λ es. es ++ Called k d ∷ []) (b.none none) in
          record {
            none = λ q. absurd (let z : ◌≡◌ {A = Option Invoked} (Some d) None = sym here ∙ q in cc);
            some = λ e q. let z : Some d ≡ Some e = sym here ∙ q in let y : d ≡ e = cc in record { rest = []; is = book ∙ (ap (λ x. Called x d ∷ []) (sym (eqb-true n k f)) ∙ ap (λ x. Called n x ∷ []) y); legal = tt; finishes = sym (ap (λ xs. has_end xs || lost n h) empty.0 ∙ empty.1) };
          }
  books (Handles m (Brings k a floods) ∷ h) p = go (n == k) refl (books h p.0)
    where
      go : (b : Bool) → (n == k) ≡ b → Book n h → Book n (Handles m (Brings k a floods) ∷ h)
      go false f b = unchanged n h (Handles m (Brings k a floods) ∷ h) refl (ap (λ y. if y then ledger n h ++ Got k a ∷ [] else ledger n h) f) (ap (λ y. if y then given n h ++ a ∷ [] else given n h) f) refl b
      go true f b =
          let z = eqb-true n k f in
          let e : takes n a h ≡ true = subst (λ x. takes x a h ≡ true) (sym z) (brought t h (purpose_of m) k a floods p.1.1).taken in
          let l = live_call_parts n h (takes_live n a h e) in
          let g : given n (Handles m (Brings k a floods) ∷ h) ≡ given n h ++ a ∷ [] = ap (λ y. if y then given n h ++ a ∷ [] else given n h) f in
          entry n h (Handles m (Brings k a floods) ∷ h) (Got k a) refl (ap (λ y. if y then ledger n h ++ Got k a ∷ [] else ledger n h) f) (fits_got n h k a e) (id_call n h l.id) l.unended l.kept
          (ap (λ xs. has_end xs || lost n h) g ∙ (ap (λ y. has_end (given n h ++ a ∷ []) || y) l.kept ∙ (or_none (has_end (given n h ++ a ∷ [])) ∙ got_ends (given n h) k a l.unended))) b
  books (Handles m x ∷ h) p = let b = books h p.0 in record { none = b.none; some = λ d q. let r = b.some d q in record { rest = r.rest; is = r.is; legal = r.legal; finishes = r.finishes } }
  books (Uploads k w a ∷ h) p = go (n == k) refl (books h p.0)
    where
      go : (b : Bool) → (n == k) ≡ b → Book n h → Book n (Uploads k w a ∷ h)
      go false f b = unchanged n h (Uploads k w a ∷ h) refl (ap (λ y. if y then ledger n h ++ Uploaded k w a ∷ [] else ledger n h) f) refl refl b
      go true f b =
          let z = eqb-true n k f in
          let l = uploads_open hub t n w h p.0 (subst (λ x. live_upload x w h ≡ true) (sym z) p.1.0) in
          entry n h (Uploads k w a ∷ h) (Uploaded k w a) refl (ap (λ y. if y then ledger n h ++ Uploaded k w a ∷ [] else ledger n h) f) (λ d q. tt) l.2 l.0 l.1 (ap (λ y. y || lost n h) l.0 ∙ l.1) b
  books (Cancels k ∷ h) p = go (n == k) refl (books h p.0)
    where
      go : (b : Bool) → (n == k) ≡ b → Book n h → Book n (Cancels k ∷ h)
      go false f b = unchanged n h (Cancels k ∷ h) refl (ap (λ y. if y then ledger n h ++ Stopped k ∷ [] else ledger n h) f) refl refl b
      go true f b =
          let z = eqb-true n k f in
          let live = subst (λ x. live_call x h ≡ true) (sym z) p.1 in
          let l = live_call_parts n h live in
          entry n h (Cancels k ∷ h) (Stopped k) refl (ap (λ y. if y then ledger n h ++ Stopped k ∷ [] else ledger n h) f) (λ d q. id_true n h d live q) (id_call n h l.id) l.unended l.kept (ap (λ y. y || lost n h) l.unended ∙ l.kept) b
  books (Loses k ∷ h) p = go (n == k) refl (books h p.0)
    where
      go : (b : Bool) → (n == k) ≡ b → Book n h → Book n (Loses k ∷ h)
      go false f b = unchanged n h (Loses k ∷ h) refl (ap (λ y. if y then ledger n h ++ Gone k ∷ [] else ledger n h) f) refl (ap (λ y. y || lost n h) f) b
      go true f b =
          let z = eqb-true n k f in
          let live = subst (λ x. live_call x h ≡ true) (sym z) p.1.1 in
          let l = live_call_parts n h live in
          entry n h (Loses k ∷ h) (Gone k) refl (ap (λ y. if y then ledger n h ++ Gone k ∷ [] else ledger n h) f) (λ d q. id_true n h d live q) (id_call n h l.id) l.unended l.kept (ap (λ y. y || ((n == k) || lost n h)) l.unended ∙ ap (λ y. y || lost n h) f) b
  books (Plain s ∷ h) p = let b = books h p.0 in record { none = b.none; some = λ d q. let r = b.some d q in record { rest = r.rest; is = r.is; legal = r.legal; finishes = r.finishes } }
  books (Reads m ∷ h) p = let b = books h p.0 in record { none = b.none; some = λ d q. let r = b.some d q in record { rest = r.rest; is = r.is; legal = r.legal; finishes = r.finishes } }
  books (Runs j call since turn what ∷ h) p = let b = books h p.0 in record { none = b.none; some = λ d q. let r = b.some d q in record { rest = r.rest; is = r.is; legal = r.legal; finishes = r.finishes } }
  books (Answers j i ∷ h) p = let b = books h p.0 in record { none = b.none; some = λ d q. let r = b.some d q in record { rest = r.rest; is = r.is; legal = r.legal; finishes = r.finishes } }
  books (Rounds ∷ h) p = let b = books h p.0 in record { none = b.none; some = λ d q. let r = b.some d q in record { rest = r.rest; is = r.is; legal = r.legal; finishes = r.finishes } }
  books (Refuses j ∷ h) p = let b = books h p.0 in record { none = b.none; some = λ d q. let r = b.some d q in record { rest = r.rest; is = r.is; legal = r.legal; finishes = r.finishes } }

  pub ledger_legal : (h : List PeerEvent) → Follows hub t h → IsLegalLedger (ledger n h)
  ledger_legal h p = go (call_of n h) refl (books h p)
    where
      go : (o : Option Invoked) → call_of n h ≡ o → Book n h → IsLegalLedger (ledger n h)
      go None f b = subst (λ es. IsLegalLedger es) (sym (b.none f)) tt
      go (Some d) f b = let r = b.some d f in subst (λ es. IsLegalLedger es) (sym r.is) r.legal

-- uploads ---------------------------------------------------------------------------

legal_push : (xs : List Answer) (a : Answer) → IsLegal true xs → has_end xs ≡ false → IsLegal true (xs ++ a ∷ [])
legal_push [] (Item v) l e = (refl, tt)
legal_push [] (End v) l e = refl
legal_push (Item w ∷ xs) a l e = (refl, legal_push xs a l.1 e)
legal_push (End w ∷ xs) a l e = absurd (let z : true ≡ false = e in cc)

pub upload_legal : {Job : Type 0} (hub : Hub Job) (t : Settings) (n w : ℕ) (h : List PeerEvent) → Follows hub t h → IsLegal true (uploaded n w h)
upload_legal hub t n w [] p = tt
upload_legal hub t n w (Uploads k v a ∷ h) p = go ((n == k) && (w == v)) refl (upload_legal hub t n w h p.0)
  where
    go : (b : Bool) → ((n == k) && (w == v)) ≡ b → IsLegal true (uploaded n w h) → IsLegal true (if b then uploaded n w h ++ a ∷ [] else uploaded n w h)
    go false f l = l
    go true f l =
        let q = and_parts (n == k) (w == v) f in
        let e : live_upload n w h ≡ true = subst (λ x. live_upload x w h ≡ true) (sym (eqb-true n k q.0)) (subst (λ x. live_upload k x h ≡ true) (sym (eqb-true w v q.1)) p.1.0) in
        let x = and_parts (nat_lt w (stream_count (call_of n h)) && not (has_end (uploaded n w h))) (live_call n h || not (has_id (call_of n h))) e in
        let y = and_parts (nat_lt w (stream_count (call_of n h))) (not (has_end (uploaded n w h))) x.0 in
        legal_push (uploaded n w h) a l (not-true (has_end (uploaded n w h)) y.1)
upload_legal hub t n w (_ ∷ h) p = upload_legal hub t n w h p.0

-- jobs --------------------------------------------------------------------------------

sent_answers : {Job : Type 0} (hub : Hub Job) (t : Settings) (code : Codec) (cs : List Invoked) (ns : List ℕ) (j : ℕ) (d : Invoked) → slice_get cs j ≡ Some d → (h : List PeerEvent) → Follows hub t h → Speaks t code h → Within cs ns h → sent_for t j h ≡ answers t code d.way (acts j h)
sent_answers hub t code cs ns j d at [] p s w = refl
sent_answers hub t code cs ns j d at (Runs k call since turn what ∷ h) p s w = go (sent_answers hub t code cs ns j d at h p.0 s.0 w) (j == k) refl
  where
    go : sent_for t j h ≡ answers t code d.way (acts j h) → (b : Bool) → (j == k) ≡ b → (if b then sent_for t j h ++ add (answer_of t (codec t h) call.way what) [] else sent_for t j h) ≡ answers t code d.way (if b then acts j h ++ what ∷ [] else acts j h)
    go ih false g = ih
    go ih true g =
        let same = same_call hub t code cs ns j d at k call (w.0 k call p.1.at) g in
        let z = eqb-true j k g in
        let o : over t j h ≡ false = (live_parts t j h (subst (λ x. live_job t x h ≡ true) (sym z) (due_live t k h turn p.1.due))).1 in
        (ap (λ x. sent_for t j h ++ add (answer_of t x call.way what) []) s.1 ∙ ap (λ (x : Invoked). sent_for t j h ++ add (answer_of t code x.way what) []) same)
        ∙ (ap (λ xs. xs ++ add (answer_of t code d.way what) []) ih ∙ sym (answers_push t code d.way (acts j h) what (sym (over_is hub t code cs ns j d at h p.0 s.0 w) ∙ o)))
sent_answers hub t code cs ns j d at (Handles m (Begins k now floods) ∷ h) p s w = sent_answers hub t code cs ns j d at h p.0 s (within_tail cs ns (Handles m (Begins k now floods)) h w)
sent_answers hub t code cs ns j d at (Handles m e ∷ h) p s w = sent_answers hub t code cs ns j d at h p.0 s w
sent_answers hub t code cs ns j d at (_ ∷ h) p s w = sent_answers hub t code cs ns j d at h p.0 s w

-- a place that the longer list hasn't is none of the shorter
none_front : {A : Type 0} (xs ys : List A) (k : ℕ) → slice_get (xs ++ ys) k ≡ None → slice_get xs k ≡ None
none_front [] ys k e = refl
none_front (x ∷ xs) ys zero e = absurd (cc)
none_front (x ∷ xs) ys (suc k) e = none_front xs ys k e

nothing_sent : {Job : Type 0} (hub : Hub Job) (t : Settings) (j : ℕ) (h : List PeerEvent) → Follows hub t h → slice_get (begun h) j ≡ None → sent_for t j h ≡ []
nothing_sent hub t j [] p e = refl
nothing_sent hub t j (Runs k call since turn what ∷ h) p e =
    both (λ xs. xs ≡ []) (j == k) (sent_for t j h ++ add (answer_of t (codec t h) call.way what) []) (sent_for t j h)
    (λ g. let z = eqb-true j k g in absurd (let y : ◌≡◌ {A = Option Invoked} None (Some call) = sym e ∙ (ap (slice_get (begun h)) z ∙ p.1.at) in cc))
    (λ g. nothing_sent hub t j h p.0 e)
nothing_sent hub t j (Handles m (Begins k now floods) ∷ h) p e = nothing_sent hub t j h p.0 (none_front (begun h) (k ∷ []) j e)
nothing_sent hub t j (Handles m x ∷ h) p e = nothing_sent hub t j h p.0 e
nothing_sent hub t j (_ ∷ h) p e = nothing_sent hub t j h p.0 e

pub keeps_job : {Job : Type 0} (hub : Hub Job) (t : Settings) (h : List PeerEvent) → Follows hub t h → Speaks t (codec t h) h → (j : ℕ) (d : Invoked) → slice_get (begun h) j ≡ Some d → KeepsJob hub t h j d
keeps_job hub t h p s j d e =
    let sent = sent_answers hub t (codec t h) (begun h) (moments h) j d e h p s (λ k b g. g, λ k b g. g) in record {
      legal = subst (λ xs. IsLegal (is_stream d.way) xs) (sym sent) (answers_legal t (codec t h) d.way (acts j h));
      answers_acts = sent;
      is_fed = job_fed hub t (codec t h) (begun h) (moments h) j d e h p s (λ k b g. g, λ k b g. g);
      acts_run = λ since on. acts_run hub t (codec t h) (begun h) (moments h) j d since e on h p s (λ k b g. g, λ k b g. g);
    }

-- each turn was due: the moves before it are those after which it came
turns_were_due : {Job : Type 0} (hub : Hub Job) (t : Settings) (ds k : List PeerEvent) (j : ℕ) (c : Invoked) (since : ℕ) (turn : Turn) (what : Act) → Follows hub t (ds ++ Runs j c since turn what ∷ k) → IsDue t j k turn
turns_were_due hub t [] k j c since turn what p = p.1.due
turns_were_due hub t (d ∷ ds) k j c since turn what p = turns_were_due hub t ds k j c since turn what p.0

pub keeps_ledgers : {Job : Type 0} (hub : Hub Job) (t : Settings) (h : List PeerEvent) → Follows hub t h → Speaks t (codec t h) h → Keeps hub t h
keeps_ledgers hub t h p s = record {
  of_call = λ n l. ledger_legal hub t n l h p;
  of_notify = λ n e. idless hub t n h p e;
  of_upload = λ n w. upload_legal hub t n w h p;
  of_job = λ j d e. keeps_job hub t h p s j d e;
  of_turns = λ ds k j c since turn what e. turns_were_due hub t ds k j c since turn what (subst (λ x. Follows hub t x) (sym e) p);
  of_no_job = λ j e. nothing_sent hub t j h p e;
}

-- after a close ---------------------------------------------------------------------------

-- where the message that waited then still waits, the call was given nothing since
data Track (n : ℕ) (h g : List PeerEvent) : Type 0 where
  Same : waiting g ≡ waiting h → given n g ≡ given n h → Track n h g
  Over : waiting g ≡ None → Track n h g

dead_takes : (n : ℕ) (a : Answer) (g : List PeerEvent) → takes n a g ≡ true → (has_end (given n g) ≡ true) ⊎ (lost n g ≡ true) → ⊥
dead_takes n a g e o = let l = live_call_parts n g (takes_live n a g e) in ⊎_elim (λ f. absurd (let z : false ≡ true = sym l.unended ∙ f in cc)) (λ f. absurd (let z : false ≡ true = sym l.kept ∙ f in cc)) o

dead_live : (n : ℕ) (g : List PeerEvent) → live_call n g ≡ true → (has_end (given n g) ≡ true) ⊎ (lost n g ≡ true) → ⊥
dead_live n g e o = let l = live_call_parts n g e in ⊎_elim (λ f. absurd (let z : false ≡ true = sym l.unended ∙ f in cc)) (λ f. absurd (let z : false ≡ true = sym l.kept ∙ f in cc)) o

live_of : (n : ℕ) (g : List PeerEvent) → has_id (call_of n g) ≡ true → has_end (given n g) ≡ false → lost n g ≡ false → live_call n g ≡ true
live_of n g a b c = ap (λ x. x && (not (has_end (given n g)) && not (lost n g))) a ∙ (ap (λ x. not x && not (lost n g)) b ∙ ap not c)

ended_by : (t : Settings) (h : List PeerEvent) (m : Purpose) (n : ℕ) (v : Ending) (floods : Bool) → ActsOn t h m (Brings n (End v) floods) → m ≡ ToAnswer (t.name n) (End v)
ended_by t h (ToAnswer i a) n v floods p = ap (ToAnswer i) (sym p.0) ∙ ap (λ k. ToAnswer k (End v)) (sym p.1)
ended_by t h (ToBegin c) n v floods p = absurd p
ended_by t h (ToCancel i) n v floods p = absurd p
ended_by t h ToNothing n v floods p = absurd p

module _ {Job : Type 0} (hub : Hub Job) (t : Settings) (h : List PeerEvent) (n : ℕ) (shut : is_shut t h ≡ true) (live : live_call n h ≡ true) where
  pub stays_closed : (ds : List PeerEvent) → is_shut t (ds ++ h) ≡ true
  stays_closed [] = shut
  stays_closed (d ∷ ds) = add_closed t (next_step t (ds ++ h) d) (byte_steps t (ds ++ h)) (stays_closed ds)

  track_more : (d : PeerEvent) (g : List PeerEvent) → waiting (d ∷ g) ≡ waiting g → given n (d ∷ g) ≡ given n g → Track n h g → Track n h (d ∷ g)
  track_more d g e f (Same a b) = Same (e ∙ a) (f ∙ b)
  track_more d g e f (Over a) = Over (e ∙ a)

  tracks : (ds : List PeerEvent) → Follows hub t (ds ++ h) → OpenReads t (ds ++ h) → Track n h (ds ++ h)
  tracks [] p o = Same refl refl
  tracks (Reads m ∷ ds) p o = absurd (let z : true ≡ false = sym (stays_closed ds) ∙ o.1 in cc)
  tracks (Handles m e ∷ ds) p o = Over refl
  tracks (d ∷ ds) p o = track_more d (ds ++ h) refl refl (tracks ds p.0 o)

  keep : (d : PeerEvent) (g : List PeerEvent) → has_id (call_of n (d ∷ g)) ≡ has_id (call_of n g) → given n (d ∷ g) ≡ given n g → lost n (d ∷ g) ≡ lost n g → After t n h g → After t n h (d ∷ g)
  keep d g e f k (Lives l) = let q = live_call_parts n g l in Lives (live_of n (d ∷ g) (e ∙ q.id) (ap has_end f ∙ q.unended) (k ∙ q.kept))
  keep d g e f k (IsGone l x) = IsGone (k ∙ l) (ap has_end f ∙ x)
  keep d g e f k (Ends v m l w q x) = Ends v m (k ∙ l) w q (f ∙ x)

  dead : (g : List PeerEvent) → lost n g ≡ false → (v : Ending) → given n g ≡ given n h ++ End v ∷ [] → has_end (given n g) ≡ true
  dead g l v x = ap has_end x ∙ has_end_last (given n h) v

  brought_after : (g : List PeerEvent) (m : Message) (a : Answer) (floods : Bool) → takes n a g ≡ true → ActsOn t g (purpose_of m) (Brings n a floods) → waiting g ≡ Some m → given n (Handles m (Brings n a floods) ∷ g) ≡ given n g ++ a ∷ [] → Track n h g → After t n h g → After t n h (Handles m (Brings n a floods) ∷ g)
  brought_after g m a floods e what w f tr (IsGone l x) = absurd (dead_takes n a g e (inr l))
  brought_after g m a floods e what w f tr (Ends v k l q y x) = absurd (dead_takes n a g e (inl (dead g l v x)))
  brought_after g m (Item v) floods e what w f tr (Lives l) = let q = live_call_parts n g l in Lives (live_of n (Handles m (Brings n (Item v) floods) ∷ g) q.id (ap has_end f ∙ has_end_push (given n g) v q.unended) q.kept)
  brought_after g m (End v) floods e what w f (Over z) (Lives l) = absurd (let y : ◌≡◌ {A = Option Message} None (Some m) = sym z ∙ w in cc)
  brought_after g m (End v) floods e what w f (Same z y) (Lives l) = let q = live_call_parts n g l in Ends v m q.kept (sym z ∙ w) (ended_by t g (purpose_of m) n v floods what) (f ∙ ap (λ xs. xs ++ End v ∷ []) y)

  lost_after : (g : List PeerEvent) → live_call n g ≡ true → lost n (Loses n ∷ g) ≡ true → After t n h g → After t n h (Loses n ∷ g)
  lost_after g e l (Lives x) = IsGone l (live_call_parts n g x).unended
  lost_after g e l (IsGone x y) = absurd (dead_live n g e (inr x))
  lost_after g e l (Ends v m x q u y) = absurd (dead_live n g e (inl (dead g x v y)))

  after : (ds : List PeerEvent) → Follows hub t (ds ++ h) → OpenReads t (ds ++ h) → After t n h (ds ++ h)
  after [] p o = Lives live
  after (Calls a k d ∷ ds) p o = called_after (n == k) refl (after ds p.0 o)
    where
      g : List PeerEvent
      g = ds ++ h

      called_after : (b : Bool) → (n == k) ≡ b → After t n h (ds ++ h) → After t n h (Calls a k d ∷ (ds ++ h))
      called_after false f r = keep (Calls a k d) (ds ++ h) (ap (λ y. has_id (if y then Some d else call_of n (ds ++ h))) f) refl refl r
      called_after true f (IsGone l x) = IsGone l x
      called_after true f (Ends v m l w q x) = Ends v m l w q x
      called_after true f (Lives l) = absurd (let z : false ≡ true = sym (fresh hub t n k d (ds ++ h) p.0 p.1.made (eqb-true n k f)) ∙ (live_call_parts n (ds ++ h) l).id in cc)
  after (Handles m (Brings k a floods) ∷ ds) p o = handled_after (n == k) refl (after ds p.0 o) (tracks ds p.0 o)
    where
      handled_after : (b : Bool) → (n == k) ≡ b → After t n h (ds ++ h) → Track n h (ds ++ h) → After t n h (Handles m (Brings k a floods) ∷ (ds ++ h))
      handled_after false f r tr = keep (Handles m (Brings k a floods)) (ds ++ h) refl (ap (λ y. if y then given n (ds ++ h) ++ a ∷ [] else given n (ds ++ h)) f) refl r
      handled_after true f r tr =
          let z = eqb-true n k f in
          let what : ActsOn t (ds ++ h) (purpose_of m) (Brings n a floods) = subst (λ x. ActsOn t (ds ++ h) (purpose_of m) (Brings x a floods)) (sym z) p.1.1 in
          subst (λ x. After t n h (Handles m (Brings x a floods) ∷ (ds ++ h))) z
          (brought_after (ds ++ h) m a floods (brought t (ds ++ h) (purpose_of m) n a floods what).taken what p.1.0 (ap (λ y. if y then given n (ds ++ h) ++ a ∷ [] else given n (ds ++ h)) (eq-eqb n n refl)) tr r)
  after (Handles m e ∷ ds) p o = keep (Handles m e) (ds ++ h) refl refl refl (after ds p.0 o)
  after (Loses k ∷ ds) p o = loses_after (n == k) refl (after ds p.0 o)
    where
      loses_after : (b : Bool) → (n == k) ≡ b → After t n h (ds ++ h) → After t n h (Loses k ∷ (ds ++ h))
      loses_after false f r = keep (Loses k) (ds ++ h) refl refl (ap (λ y. y || lost n (ds ++ h)) f) r
      loses_after true f r =
          let z = eqb-true n k f in
          subst (λ x. After t n h (Loses x ∷ (ds ++ h))) z
          (lost_after (ds ++ h) (subst (λ x. live_call x (ds ++ h) ≡ true) (sym z) p.1.1) (ap (λ y. y || lost n (ds ++ h)) (eq-eqb n n refl)) r)
  after (Reads m ∷ ds) p o = keep (Reads m) (ds ++ h) refl refl refl (after ds p.0 o.0)
  after (d ∷ ds) p o = keep d (ds ++ h) refl refl refl (after ds p.0 o)

by_then : (t : Settings) (n : ℕ) (h g : List PeerEvent) → After t n h g → NoneLeft g → (lost n g ≡ true) ⊎ (has_end (given n g) ≡ true)
by_then t n h g (Lives l) f = absurd (let z : false ≡ true = sym (f n) ∙ l in cc)
by_then t n h g (IsGone l x) f = inl l
by_then t n h g (Ends v m l w q x) f = inr (ap has_end x ∙ has_end_last (given n h) v)

pub ends_after : {Job : Type 0} (hub : Hub Job) (t : Settings) (g : List PeerEvent) → Follows hub t g → OpenReads t g → EndsAfterClose t g
ends_after hub t g p o ds h e shut n live =
    let a : After t n h g = subst (λ x. After t n h x) e (after hub t h n shut live ds (subst (λ x. Follows hub t x) (sym e) p) (subst (λ x. OpenReads t x) (sym e) o)) in
    record { after = a; by_then = λ f. by_then t n h g a f }
