-- What a peer stands for once it has handled the message that waited.
use Rattle.std.proofs.Common.{◌≡◌, ℕ, suc, ◌+◌, ◌<◌, ◌≤◌, inl, inr, Bool, true, false, List, [], ◌∷◌, ◌++◌, length, Option, Some, None, refl, sym, ap, ◌∙◌, subst, arith}
use Rattle.std.specs.Prelude.{◌==◌, ◌&&◌, not, nat_eq, is_some, option_map, slice_get, if◌then◌else◌}
use Rattle.std.specs.HashMap.{get}
use Rattle.std.specs.Prelude.{IfOk, OnErr, OnOk, Result, Ok, Err}
use Rattle.std.proofs.lemmas.Bool.{and_parts, both_ways, eq-eqb, eqb-true, ne_eqb}
use Rattle.hm_message.specs.Laws.{ValuesAreTrees}
use Rattle.hm_message.specs.declared.message.Message.{Message}
use Rattle.hm_message.specs.declared.message.Message.TheVariants.{StreamItem, Completion, CancelInvocation}
use Rattle.hm_message.specs.declared.message.Ending.{Ending}
use Rattle.hm_message.specs.Headers.{Header}
use Rattle.hm_message.specs.Message.{is_sequenced, value_of}
use Rattle.hv_value.specs.View as seen
use Rattle.hv_value.specs.declared.value.Value.{Value}
use Rattle.hd_delivery.specs.declared.vocabulary.Reason.{Reason}
use Rattle.hd_delivery.specs.declared.vocabulary.Reason.TheVariants as reason
use Rattle.hd_delivery.specs.declared.vocabulary.Got.TheVariants as gives
use Rattle.hd_delivery.specs.Histories.{Closed, Took}
use Rattle.hd_delivery.specs.Bytes.{ByteStep, Does}
use Rattle.he_end.specs.declared.end.End.{End}
use Rattle.he_end.specs.Stands as of_end
use Rattle.he_end.specs.Stands.{limits_of}
use Rattle.hd_calls.specs.declared.vocabulary.Call as as_given
use Rattle.hd_calls.specs.declared.vocabulary.Act.{Act}
use Rattle.hd_calls.specs.declared.vocabulary.Act.TheVariants as act
use Rattle.hd_calls.specs.declared.vocabulary.Input.{Input}
use Rattle.hd_calls.specs.declared.vocabulary.Input.TheVariants as input
use Rattle.hd_calls.specs.Numbers.{most_inputs, most_live, most_weight}
use Rattle.hd_calls.specs.Hubs.{Hub, Invoked, Answer, Item, End as Ends, ToBegin, ToAnswer, call_for, id_of, purpose_of, upload_input}
use Rattle.hd_calls.specs.Weights.{input_weight}
use Rattle.hd_calls.specs.Ids.{prefix_of, IdsAreDrawn}
use Rattle.hd_calls.specs.Peers.{Effect, Begins, InUse, TooMany, Brings, Feeds, Flood, Marks, Nothing, PeerEvent, Handles, Plain, Reads, Settings, acts, add, asker_of, asks, byte_steps, call_of, given, has_end, has_id, is_shut, last_of, live_call, lost, of_stream, reason_of, reply, shuts, streams_items}
use Rattle.hd_calls.specs.Rules.{ActsOn, Follows, HasRoomFor, IsCancellable, IsPlain, IsStrange, IsTooMuch, IsWeighed, StreamAt}
use Rattle.hd_calls.specs.Tables.{Accepted, JobHappening, call_happenings, job_happenings, live_call_in, marked_in, Replied, reply_to}
use Rattle.hd_calls.specs.Ledgers.{CallHappening, Got}
use Rattle.hd_calls.specs.Laws.{CallsAgree, JobsAgree, PeersAreBounded, TablesAgree}
use Rattle.hi_calls.specs.declared.calls.Calls.{Calls}
use Rattle.hi_calls.specs.Laws.{IdsAreOfASide}
use Rattle.hi_calls.specs.Stands as of_calls
use Rattle.hi_calls.specs.Calls as of_own
use Rattle.hj_jobs.specs.Stands as of_jobs
use Rattle.hj_jobs.specs.Stands.{HasId, StreamIn}
use Rattle.hj_jobs.specs.Calls as of_table
use Rattle.hj_jobs.specs.declared.errors.AcceptError.TheVariants as accept
use Rattle.hj_jobs.specs.declared.jobs.Jobs.{Jobs}
use Rattle.hp_peer.specs.declared.did.Did.{Did}
use Rattle.hp_peer.specs.declared.did.Did.TheVariants as did
use Rattle.hp_peer.specs.declared.peer.Peer.{Peer}
use Rattle.hp_peer.specs.Stands.{live_asker, Stands}
use Rattle.hp_peer.specs.Taking.{call_to_begin, ClosesIf, ClosesIfHeavy, HasClashed, HasHandled, holding, IsFor, is_heavy_in, IsOneTooMany, IsToldAs}
use Rattle.hp_peer.proofs.AskedLive.{asks_live}
use Rattle.hp_peer.proofs.Heavy.{heavy_as, open_is_light}

-- ---- the end

shuts_none : (b : Bool) → shuts b None ≡ None
shuts_none true = refl
shuts_none false = refl

-- ---- tests

both_true : (a b : Bool) → a ≡ true → b ≡ true → (a && b) ≡ true
both_true a b e f = ap (λ x. x && b) e ∙ f

not_both : (a b : Bool) → (b ≡ true → a ≡ false) → (a && b) ≡ false
not_both false b f = refl
not_both true false f = refl
not_both true true f = f refl

eq_flip : (a b : ℕ) → (a == b) ≡ (b == a)
eq_flip a b = go (a == b) refl
  where
    go : (x : Bool) → (a == b) ≡ x → x ≡ (b == a)
    go true p = sym (eq-eqb b a (sym (eqb-true a b p)))
    go false p = sym (ne_eqb b a (λ e. both_ways (a == b) p (eq-eqb a b (sym e))))

suc_injective : (m n : ℕ) → suc m ≡ suc n → m ≡ n
suc_injective m n e = omega arith

some_injective : {A : Type 0} (x y : A) → Some x ≡ Some y → x ≡ y
some_injective {A} x y e = let z : ◌≡◌ {A = Option A} (Some x) (Some y) = e in cc

none_some : {A : Type 0} (x : A) → None ≡ Some x → ⊥
none_some {A} x e = let z : ◌≡◌ {A = Option A} None (Some x) = e in absurd (cc)

no_asker : (o : Option ℕ) → option_map suc o ≡ None → o ≡ None
no_asker None e = refl
no_asker (Some j) e = absurd (none_some _ (sym e))

-- ---- own calls

has_end_item : (xs : List Answer) (v : Value) → has_end (xs ++ Item v ∷ []) ≡ has_end xs
has_end_item [] v = refl
has_end_item (Item w ∷ xs) v = has_end_item xs v
has_end_item (Ends e ∷ xs) v = refl

has_end_end : (xs : List Answer) (e : Ending) → has_end (xs ++ Ends e ∷ []) ≡ true
has_end_end [] e = refl
has_end_end (Item w ∷ xs) e = has_end_end xs e
has_end_end (Ends x ∷ xs) e = refl

-- the job that asked for a call, while that is live, by what is given for the call
abbrev asker_with : ℕ → List PeerEvent → Bool → Option ℕ
asker_with n h ended = if has_id (call_of n h) && (not ended && not (lost n h)) then option_map suc (asker_of n h) else None

ended_asker : (n : ℕ) (h : List PeerEvent) → None ≡ asker_with n h true
ended_asker n h = go (has_id (call_of n h))
  where
    go : (b : Bool) → None ≡ (if b && false then option_map suc (asker_of n h) else None)
    go true = refl
    go false = refl

asker_after_item : (n k : ℕ) (m : Message) (v : Value) (floods : Bool) (h : List PeerEvent) → live_asker k h ≡ live_asker k (Handles m (Brings n (Item v) floods) ∷ h)
asker_after_item n k m v floods h = go (k == n)
  where
    go : (b : Bool) → live_asker k h ≡ asker_with k h (has_end (if b then given k h ++ Item v ∷ [] else given k h))
    go true = ap (asker_with k h) (sym (has_end_item (given k h) v))
    go false = refl

asker_after_end : (n k : ℕ) (m : Message) (e : Ending) (floods : Bool) (h : List PeerEvent) → (if k == n then None else live_asker k h) ≡ live_asker k (Handles m (Brings n (Ends e) floods) ∷ h)
asker_after_end n k m e floods h = go (k == n)
  where
    go : (b : Bool) → (if b then None else live_asker k h) ≡ asker_with k h (has_end (if b then given k h ++ Ends e ∷ [] else given k h))
    go true = ended_asker k h ∙ ap (asker_with k h) (sym (has_end_end (given k h) e))
    go false = refl

-- ---- the table of jobs

module _ (t : Settings) (h : List PeerEvent) (a : JobsAgree t h) where
  pub cancellable : (i : List ℕ) (j : ℕ) → HasId (job_happenings t h) i j → marked_in j (job_happenings t h) ≡ false → IsCancellable t h i j
  cancellable i j f e = record {
    call = f.call;
    at = ap (λ l. slice_get l j) a.begins ∙ f.at;
    id = f.id;
    live = a.live j ∙ f.live;
    unmarked = a.marks j ∙ e;
  }

  pub had : (i : List ℕ) (j : ℕ) → IsCancellable t h i j → HasId (job_happenings t h) i j
  had i j f = record { call = f.call; at = ap (λ l. slice_get l j) (sym a.begins) ∙ f.at; id = f.id; live = sym (a.live j) ∙ f.live }

  pub stream_at : (i : List ℕ) (j w : ℕ) → StreamIn (job_happenings t h) i j w → StreamAt t h i j w
  stream_at i j w f = record {
    call = f.call;
    at = ap (λ l. slice_get l j) a.begins ∙ f.at;
    stream = f.stream;
    live = a.live j ∙ f.live;
    unended = ap (λ l. has_end (of_stream w l)) (a.fed j) ∙ f.unended;
  }

  pub stream_in : (i : List ℕ) (j w : ℕ) → StreamAt t h i j w → StreamIn (job_happenings t h) i j w
  stream_in i j w f = record {
    call = f.call;
    at = ap (λ l. slice_get l j) (sym a.begins) ∙ f.at;
    stream = f.stream;
    live = sym (a.live j) ∙ f.live;
    unended = ap (λ l. has_end (of_stream w l)) (sym (a.fed j)) ∙ f.unended;
  }

  pub room_for : (j : ℕ) (i : Input) → of_table.HasRoomIn (job_happenings t h) j i → HasRoomFor t h j i
  room_for j i f = record { few = subst (λ n. n < most_inputs) (sym (a.left j)) f.few; light = subst (λ w. w + input_weight i ≤ most_weight) (sym a.weighs) f.light }

  pub too_much : (j : ℕ) (i : Input) → of_table.IsTooMuchIn (job_happenings t h) j i → IsTooMuch t h j i
  too_much j i (inl f) = inl (subst (λ n. most_inputs ≤ n) (sym (a.left j)) f)
  too_much j i (inr f) = inr (subst (λ w. most_weight < w + input_weight i) (sym a.weighs) f)

-- ---- a message that waits

module _ {H Job : Type 0} (hub : Hub Job) (t : Settings) (old : Peer H Job) (m : Message) (h : List PeerEvent) (s : Stands hub t (holding old m) h) where
  -- memory was out: the message waits still
  pub still : (new : Peer H Job) → new.end ≡ old.end → new.calls ≡ old.calls → of_jobs.Stands hub new.jobs t.who (job_happenings t h)
      → new.who ≡ old.who → new.waiting ≡ Some m → new.jobs_by_call ≡ old.jobs_by_call → Stands hub t new h
  still new end calls jobs who waits jobs_by_call = record {
    names = s.names;
    limits = s.limits ∙ ap limits_of (sym end);
    end = subst (λ e. of_end.Stands t.wire t.config e (byte_steps t h)) (sym end) s.end;
    calls = subst (λ c. of_calls.Stands c (prefix_of t.config.side) (call_happenings h)) (sym calls) s.calls;
    jobs = jobs;
    who = who ∙ s.who;
    waits = waits ∙ s.waits;
    counted = s.counted;
    jobs_by_call = λ n. ap (λ x. get nat_eq x n) jobs_by_call ∙ s.jobs_by_call n;
    follows = s.follows;
    prompt = s.prompt;
    settled = s.settled;
  }

  -- it was handled
  pub handled : (new : Peer H Job) (e : Effect) → of_end.Stands t.wire t.config new.end (byte_steps t (Handles m e ∷ h)) → limits_of new.end ≡ limits_of old.end
      → of_calls.Stands new.calls (prefix_of t.config.side) (call_happenings (Handles m e ∷ h))
      → of_jobs.Stands hub new.jobs t.who (job_happenings t (Handles m e ∷ h))
      → new.who ≡ old.who → new.waiting ≡ None → ((n : ℕ) → get nat_eq new.jobs_by_call n ≡ live_asker n (Handles m e ∷ h))
      → ActsOn t h (purpose_of m) e → IsWeighed t h m e → Stands hub t new (Handles m e ∷ h)
  handled new e end limits calls jobs who waits jobs_by_call acts weighed = record {
    names = s.names;
    limits = s.limits ∙ sym limits;
    end = end;
    calls = calls;
    jobs = jobs;
    who = who ∙ s.who;
    waits = waits;
    counted = tt;
    jobs_by_call = jobs_by_call;
    follows = (s.follows, (sym s.waits, acts, weighed));
    prompt = (s.prompt, inl s.settled);
    settled = refl;
  }

  -- the end makes no step of it
  pub end_stays : (new : End) (e : Effect) → reason_of e ≡ None → new ≡ old.end → of_end.Stands t.wire t.config new (byte_steps t (Handles m e ∷ h))
  end_stays new e none same =
      subst (λ x. of_end.Stands t.wire t.config x (byte_steps t (Handles m e ∷ h))) (sym same)
      (subst (λ o. of_end.Stands t.wire t.config old.end (add (shuts (is_shut t h) o) (byte_steps t h))) (sym none)
      (subst (λ o. of_end.Stands t.wire t.config old.end (add o (byte_steps t h))) (sym (shuts_none (is_shut t h))) s.end))

  -- the end is closed for it, if it wasn't closed
  pub end_closes : (new : End) (e : Effect) (why : Reason) → reason_of e ≡ Some why
      → (is_shut t h ≡ false → of_end.Stands t.wire t.config new (Does (Closed why false) ∷ byte_steps t h)) → (is_shut t h ≡ true → new ≡ old.end)
      → of_end.Stands t.wire t.config new (byte_steps t (Handles m e ∷ h))
  end_closes new e why is live closed = subst (λ o. of_end.Stands t.wire t.config new (add (shuts (is_shut t h) o) (byte_steps t h))) (sym is) (go (is_shut t h) refl)
    where
      go : (b : Bool) → is_shut t h ≡ b → of_end.Stands t.wire t.config new (add (shuts b (Some why)) (byte_steps t h))
      go true e = subst (λ x. of_end.Stands t.wire t.config x (byte_steps t h)) (sym (closed e)) s.end
      go false e = live e

  -- it is closed if the move floods
  pub end_floods : (new : End) (e : Effect) (floods : Bool) → reason_of e ≡ (if floods then Some reason.Flood else None) → ClosesIf floods old.end new
      → of_end.Stands t.wire t.config new (byte_steps t (Handles m e ∷ h))
  end_floods new e false is same = end_stays new e is same
  end_floods new e true is closes = let f = closes t.wire t.config (byte_steps t h) s.end in end_closes new e reason.Flood is f.0 f.1

  -- an open end makes no step of it
  pub end_rests : (new : End) (e : Effect) → (is_shut t h ≡ false → reason_of e ≡ None) → new ≡ old.end → of_end.Stands t.wire t.config new (byte_steps t (Handles m e ∷ h))
  end_rests new e none same = subst (λ x. of_end.Stands t.wire t.config x (byte_steps t (Handles m e ∷ h))) (sym same) (go (is_shut t h) refl)
    where
      go : (b : Bool) → is_shut t h ≡ b → of_end.Stands t.wire t.config old.end (add (shuts b (reason_of e)) (byte_steps t h))
      go true p = s.end
      go false p = subst (λ o. of_end.Stands t.wire t.config old.end (add (shuts false o) (byte_steps t h))) (sym (none p)) s.end

-- ---- cancellations

module _ {H Job : Type 0} (hub : Hub Job) (t : Settings) (old : Peer H Job) (headers : List Header) (id : List ℕ) (h : List PeerEvent)
    (s : Stands hub t (holding old (CancelInvocation headers id)) h) (a : JobsAgree t h) (none : old.waiting ≡ None) (now : ℕ) (number : ℕ) (jobs : Jobs H Job) where
  pub marks : of_table.Marks hub jobs t.who (job_happenings t h) id number
      → HasHandled hub t (record old { jobs = jobs }) now (did.Cancelled id) (CancelInvocation headers id) h
  marks f = record {
    effect = Marks f.job;
    told_as = refl;
    stands = handled hub t old _ h s (record old { jobs = jobs }) (Marks f.job) (end_stays hub t old _ h s old.end (Marks f.job) refl refl) refl s.calls f.stands refl none s.jobs_by_call
        (cancellable t h a id f.job f.has_id f.unmarked) tt;
  }

  pub marks_none : of_table.IsUnmarkable (job_happenings t h) id → jobs ≡ old.jobs
      → HasHandled hub t (record old { jobs = jobs }) now (did.Unknown id) (CancelInvocation headers id) h
  marks_none f same = record {
    effect = Nothing;
    told_as = refl;
    stands = handled hub t old _ h s (record old { jobs = jobs }) Nothing (end_stays hub t old _ h s old.end Nothing refl refl) refl s.calls
        (subst (λ j. of_jobs.Stands hub j t.who (job_happenings t h)) (sym same) s.jobs) refl none s.jobs_by_call
        (λ j g. f j (had t h a id j g) (sym (a.marks j) ∙ g.unmarked)) tt;
  }

-- ---- what comes on a stream of a job

module _ {H Job : Type 0} (hub : Hub Job) (t : Settings) (old : Peer H Job) (m : Message) (id : List ℕ) (x : Answer) (is : purpose_of m ≡ ToAnswer id x) (h : List PeerEvent)
    (s : Stands hub t (holding old m) h) (a : JobsAgree t h) (none : old.waiting ≡ None) (strange : IsStrange t h id x) (now : ℕ) (number : ℕ) (jobs : Jobs H Job) where
  pub fed : of_table.Feeds hub jobs t.who (job_happenings t h) id x number → HasHandled hub t (record old { jobs = jobs }) now (did.Fed id) m h
  fed f = record {
    effect = Feeds f.job f.which x;
    told_as = subst (λ p. IsFor p id) (sym is) refl;
    stands = handled hub t old m h s (record old { jobs = jobs }) (Feeds f.job f.which x) (end_stays hub t old m h s old.end (Feeds f.job f.which x) refl refl) refl s.calls f.stands refl none s.jobs_by_call
        (subst (λ p. ActsOn t h p (Feeds f.job f.which x)) (sym is)
        (refl, strange, stream_at t h a id f.job f.which f.at, room_for t h a f.job (upload_input (f.which, x)) f.room)) tt;
  }

  pub fed_none : ((j w : ℕ) → StreamIn (job_happenings t h) id j w → ⊥) → of_jobs.Stands hub jobs t.who (job_happenings t h)
      → HasHandled hub t (record old { jobs = jobs }) now (did.Unknown id) m h
  fed_none f stays = record {
    effect = Nothing;
    told_as = subst (λ p. IsFor p id) (sym is) refl;
    stands = handled hub t old m h s (record old { jobs = jobs }) Nothing (end_stays hub t old m h s old.end Nothing refl refl) refl s.calls stays refl none s.jobs_by_call
        (subst (λ p. ActsOn t h p Nothing) (sym is) (strange, λ j w g. f j w (stream_in t h a id j w g))) tt;
  }

  pub flooded : of_table.Floods (job_happenings t h) id x → of_jobs.Stands hub jobs t.who (job_happenings t h) → (end : End)
      → (is_shut t h ≡ false → of_end.Stands t.wire t.config end (Does (Closed reason.Flood false) ∷ byte_steps t h)) → (is_shut t h ≡ true → end ≡ old.end) → limits_of end ≡ limits_of old.end
      → Stands hub t (record old { jobs = jobs; end = end }) (Handles m Flood ∷ h)
  flooded f stays end live closed limits =
      handled hub t old m h s (record old { jobs = jobs; end = end }) Flood (end_closes hub t old m h s end Flood reason.Flood refl live closed) limits s.calls stays refl none s.jobs_by_call
      (subst (λ p. ActsOn t h p Flood) (sym is) (strange, (f.job, f.which, stream_at t h a id f.job f.which f.at, too_much t h a f.job (upload_input (f.which, x)) f.full))) tt

-- ---- items of own calls

module _ {H Job : Type 0} (hub : Hub Job) (t : Settings) (old : Peer H Job) (headers : List Header) (id : List ℕ) (v : Value) (h : List PeerEvent)
    (s : Stands hub t (holding old (StreamItem headers id v)) h) (agree : TablesAgree) (bounded : PeersAreBounded Job) (none : old.waiting ≡ None) (side : IdsAreOfASide) (now n : ℕ) where
  -- with it jobs keep what they kept
  pub item_came : of_own.Itemizes old.calls (prefix_of t.config.side) (call_happenings h) id n → HasHandled hub t old now (did.Item n v) (StreamItem headers id v) h
  item_came f =
      let m = StreamItem headers id v in
      let floods = is_heavy_in (job_happenings t h) in
      let brings = Brings n (Item v) floods in
      let a = (agree t h).0 in
      let light : is_shut t h ≡ false → reason_of brings ≡ None = λ unclosed. ap (λ b. if b then Some reason.Flood else None) (heavy_as t h (agree t h).1 ∙ open_is_light {H = H} hub t (holding old m) h bounded s unclosed) in
      record {
        effect = brings;
        told_as = (refl, refl);
        stands = handled hub t old m h s old brings (end_rests hub t old m h s old.end brings light refl) refl (f.stands v) s.jobs refl none
            (λ k. s.jobs_by_call k ∙ asker_after_item n k m v floods h)
            (refl, s.names n ∙ (side t.config.side n ∙ f.is), both_true _ _ (ap streams_items (a.call n) ∙ f.streams) (a.live n ∙ f.live))
            (heavy_as t (Handles m brings ∷ h) (agree t (Handles m brings ∷ h)).1);
      }

pub item_strange : {H Job : Type 0} (hub : Hub Job) (t : Settings) (peer : Peer H Job) (id : List ℕ) (v : Value) (h : List PeerEvent) → Stands hub t peer h → CallsAgree h → IdsAreOfASide
    → of_own.IsNoStream (prefix_of t.config.side) (call_happenings h) id → IsStrange t h id (Item v)
item_strange hub t peer id v h s a side f n e =
    not_both _ _ (λ l. ap streams_items (a.call n) ∙ f n (sym (side t.config.side n) ∙ (sym (s.names n) ∙ e)) (sym (a.live n) ∙ l))

pub end_strange : {H Job : Type 0} (hub : Hub Job) (t : Settings) (peer : Peer H Job) (id : List ℕ) (e : Ending) (h : List PeerEvent) → Stands hub t peer h → CallsAgree h → IdsAreOfASide
    → of_own.IsUnknown (prefix_of t.config.side) (call_happenings h) id → IsStrange t h id (Ends e)
end_strange hub t peer id e h s a side f n is = a.live n ∙ f n (sym (side t.config.side n) ∙ (sym (s.names n) ∙ is))

-- a call that is found by its id is one that has ended then
pub settled_call : {E : Type 0} (r : Result ℕ E) (old new : Calls) (prefix : List ℕ) (h : List CallHappening) (id : List ℕ) (n : ℕ) → of_calls.Stands old prefix h
    → IfOk r (λ k. of_own.OfEach old (λ prefix h. of_own.Settles new prefix h id k)) → OnErr r (of_own.OfEach old (λ prefix h. of_own.IsUnknown prefix h id))
    → of_own.IsLiveAs prefix h id n → (k : ℕ) × of_own.Settles new prefix h id k
settled_call (Ok k) old new prefix h id n s found unknown live = (k, found prefix h s)
settled_call (Err e) old new prefix h id n s found unknown live = absurd (both_ways (live_call_in n h) (unknown prefix h s n live.is) live.live)

-- a copy is the value
pub same_value : ValuesAreTrees → (v w : Value) → seen.tree v ≡ seen.tree w → v ≡ w
same_value law v w e = sym (law.value_of-tree v) ∙ (ap value_of e ∙ law.value_of-tree w)

-- ---- calls

module _ {H Job : Type 0} (hub : Hub Job) (t : Settings) (old : Peer H Job) (m : Message) (c : Invoked) (is : purpose_of m ≡ ToBegin c) (h : List PeerEvent)
    (s : Stands hub t (holding old m) h) (agree : TablesAgree) (none : old.waiting ≡ None) (jobs : Jobs H Job) where
  a : JobsAgree t h
  a = (agree t h).1

  -- what the hub is given is the other side's call
  pub call_is : (call : as_given.Call) → Some call ≡ call_to_begin old.who (purpose_of m) → call ≡ call_for t.who c
  call_is call e = some_injective _ _ (e ∙ (ap (call_to_begin old.who) is ∙ ap (λ who. Some (call_for who c)) s.who))

  pub began : (now number : ℕ) → of_table.Accepts hub jobs t.who (job_happenings t h) c now number → (told : Did) → told ≡ did.Began number (id_of c.way) c.target c.arguments
      → (end : End) → ClosesIfHeavy hub jobs old.end end → limits_of end ≡ limits_of old.end → HasHandled hub t (record old { jobs = jobs; end = end }) now told m h
  began now number f told e end closes limits =
      let floods = is_heavy_in (Accepted c now ∷ job_happenings t h) in
      let begins = Begins c now floods in
      record {
        effect = begins;
        told_as = subst (IsToldAs h now m begins) (sym e)
            (record { moment = refl; next = f.next ∙ ap (λ cs. suc (length cs)) (sym a.begins); id_is = refl; target_is = refl }, refl);
        stands = handled hub t old m h s (record old { jobs = jobs; end = end }) begins (end_floods hub t old m h s end begins floods refl (closes t.who _ f.stands)) limits
            s.calls f.stands refl none s.jobs_by_call
            (subst (λ p. ActsOn t h p begins) (sym is) (refl, a.uses c ∙ f.unused, subst (λ n. n < most_live) (sym a.count) f.few))
            (heavy_as t (Handles m begins ∷ h) (agree t (Handles m begins ∷ h)).1);
      }

  module _ (stays : of_jobs.Stands hub jobs t.who (job_happenings t h)) (end : End) (limits : limits_of end ≡ limits_of old.end) where
    pub clashed : (id : List ℕ) → of_table.IsRefusedIn (job_happenings t h) c (accept.InUse id)
        → (is_shut t h ≡ false → of_end.Stands t.wire t.config end (Does (Closed reason.InUse false) ∷ byte_steps t h)) → (is_shut t h ≡ true → end ≡ old.end)
        → HasClashed hub t (record old { jobs = jobs; end = end }) id m h
    clashed id f live closed = record {
      call = c;
      taken = f.1;
      stands = handled hub t old m h s (record old { jobs = jobs; end = end }) (InUse c) (end_closes hub t old m h s end (InUse c) reason.InUse refl live closed) limits s.calls stays refl none s.jobs_by_call
          (subst (λ p. ActsOn t h p (InUse c)) (sym is) (refl, a.uses c ∙ f.0)) tt;
    }

    pub one_too_many : of_table.IsRefusedIn (job_happenings t h) c accept.TooMany
        → (is_shut t h ≡ false → of_end.Stands t.wire t.config end (Does (Closed reason.TooMany false) ∷ byte_steps t h)) → (is_shut t h ≡ true → end ≡ old.end)
        → IsOneTooMany hub t (record old { jobs = jobs; end = end }) m h
    one_too_many f live closed = record {
      call = c;
      stands = handled hub t old m h s (record old { jobs = jobs; end = end }) (TooMany c) (end_closes hub t old m h s end (TooMany c) reason.TooMany refl live closed) limits s.calls stays refl none s.jobs_by_call
          (subst (λ p. ActsOn t h p (TooMany c)) (sym is) (refl, a.uses c ∙ f.0, subst (λ n. most_live ≤ n) (sym a.count) f.1)) tt;
    }

-- ---- endings of own calls

module _ {H Job : Type 0} (hub : Hub Job) (t : Settings) (old : Peer H Job) (headers : List Header) (id : List ℕ) (e : Ending) (h : List PeerEvent)
    (s : Stands hub t (holding old (Completion headers id e)) h) (agree : TablesAgree) (none : old.waiting ≡ None) (side : IdsAreOfASide) (drawn : IdsAreDrawn) (now n : ℕ)
    (f : of_own.IsLiveAs (prefix_of t.config.side) (call_happenings h) id n) (new : Peer H Job)
    (limits : limits_of new.end ≡ limits_of old.end) (same_who : new.who ≡ old.who) (idle : new.waiting ≡ None)
    (settled : (k : ℕ) × of_own.Settles new.calls (prefix_of t.config.side) (call_happenings h) id k)
    (removed : (k : ℕ) → get nat_eq new.jobs_by_call k ≡ (if n == k then None else get nat_eq old.jobs_by_call k)) where
  same_number : settled.0 ≡ n
  same_number = drawn.apart.own t.config.side settled.0 n (side t.config.side settled.0 ∙ (settled.1.is ∙ (sym f.is ∙ sym (side t.config.side n))))

  live : live_call n h ≡ true
  live = (agree t h).0.live n ∙ f.live

  -- what happened to the jobs, with the reply that one is given, if it is
  abbrev happened : Option ℕ → List JobHappening
  happened o = add (reply_to h e o) (job_happenings t h)

  -- with what jobs keep then
  abbrev brings : Effect
  brings = Brings n (Ends e) (is_heavy_in (happened (asker_of n h)))

  ended : of_jobs.Stands hub new.jobs t.who (happened (asker_of n h)) → of_end.Stands t.wire t.config new.end (byte_steps t (Handles (Completion headers id e) brings ∷ h))
      → HasHandled hub t new now (did.Ended n e) (Completion headers id e) h
  ended stands end = record {
    effect = brings;
    told_as = (refl, refl);
    stands = handled hub t old _ h s new brings end limits
        (subst (λ k. of_calls.Stands new.calls (prefix_of t.config.side) (Got k (Ends e) ∷ call_happenings h)) same_number (settled.1.stands e)) stands same_who idle
        (λ k. removed k ∙ (ap (λ x. if x then None else get nat_eq old.jobs_by_call k) (eq_flip n k) ∙ (ap (λ o. if k == n then None else o) (s.jobs_by_call k)
        ∙ asker_after_end n k (Completion headers id e) e (is_heavy_in (happened (asker_of n h))) h)))
        (refl, s.names n ∙ (side t.config.side n ∙ f.is), live)
        (heavy_as t (Handles (Completion headers id e) brings ∷ h) (agree t (Handles (Completion headers id e) brings ∷ h)).1);
  }

  asked_for : get nat_eq old.jobs_by_call n ≡ option_map suc (asker_of n h)
  asked_for = s.jobs_by_call n ∙ ap (λ b. if b then option_map suc (asker_of n h) else None) live

  -- no job asked for it: jobs keep what they kept
  pub ended_unasked : PeersAreBounded Job → get nat_eq old.jobs_by_call n ≡ None → new.jobs ≡ old.jobs → new.end ≡ old.end
      → HasHandled hub t new now (did.Ended n e) (Completion headers id e) h
  ended_unasked bounded p same same_end = go (sym (no_asker (asker_of n h) (sym asked_for ∙ p)))
    where
      light : is_shut t h ≡ false → is_heavy_in (job_happenings t h) ≡ false
      light unclosed = heavy_as t h (agree t h).1 ∙ open_is_light {H = H} hub t (holding old (Completion headers id e)) h bounded s unclosed

      go : None ≡ asker_of n h → HasHandled hub t new now (did.Ended n e) (Completion headers id e) h
      go q = ended
          (subst (λ o. of_jobs.Stands hub new.jobs t.who (happened o)) q (subst (λ j. of_jobs.Stands hub j t.who (job_happenings t h)) (sym same) s.jobs))
          (end_rests hub t old _ h s new.end brings
          (λ unclosed. ap (λ b. if b then Some reason.Flood else None) (subst (λ o. is_heavy_in (happened o) ≡ false) q (light unclosed))) same_end)

  pub ended_asked : (job : ℕ) → get nat_eq old.jobs_by_call n ≡ Some job
      → ((k : ℕ) → job ≡ suc k → of_jobs.Stands hub new.jobs t.who (happened (Some k))) → ClosesIfHeavy hub new.jobs old.end new.end
      → HasHandled hub t new now (did.Ended n e) (Completion headers id e) h
  ended_asked job p stands closes =
      let told = go (asker_of n h) (sym asked_for ∙ p) in
      ended told (end_floods hub t old _ h s new.end brings (is_heavy_in (happened (asker_of n h))) refl (closes t.who _ told))
    where
      go : (o : Option ℕ) → option_map suc o ≡ Some job → of_jobs.Stands hub new.jobs t.who (happened o)
      go None q = absurd (none_some _ q)
      go (Some j) q = stands j (sym (some_injective _ _ q))

-- ---- what an asking job is given

answers_asks : (o : Option Act) (e : Ending) → of_table.is_answer o (input.Asked e) ≡ asks o
answers_asks None e = refl
answers_asks (Some act.More) e = refl
answers_asks (Some act.Wait) e = refl
answers_asks (Some (act.Item v)) e = refl
answers_asks (Some (act.End x)) e = refl
answers_asks (Some (act.Ask target arguments)) e = refl
answers_asks (Some (act.Do deed)) e = refl

is_none : {A : Type 0} (o : Option A) → not (is_some o) ≡ true → o ≡ None
is_none None e = refl
is_none (Some x) e = absurd (cc)

module _ {H Job : Type 0} (hub : Hub Job) (t : Settings) (h : List PeerEvent) (b : JobsAgree t h) (f : Follows hub t h) (e : Ending) (k : ℕ) (jobs : Jobs H Job) where
  pub replied : of_table.Answers hub jobs t.who (job_happenings t h) (suc k) (input.Asked e) → of_jobs.Stands hub jobs t.who (add (reply_to h e (Some k)) (job_happenings t h))
  replied r =
      let same : k ≡ r.job = suc_injective k r.job r.is in
      let asked = ap asks (ap last_of (b.does r.job)) ∙ (sym (answers_asks _ e) ∙ r.awaits.asked) in
      let unanswered = ap (λ o. not (is_some o)) (b.answers r.job ∙ r.awaits.unanswered) in
      let due = both_true (asks (last_of (acts r.job h))) (not (is_some (reply r.job h))) asked unanswered in
      subst (λ j. of_jobs.Stands hub jobs t.who (add (reply_to h e (Some j)) (job_happenings t h))) (sym same)
      (subst (λ x. of_jobs.Stands hub jobs t.who (add (if x then Some (Replied r.job (input.Asked e)) else None) (job_happenings t h))) (sym due) r.stands)

  pub unreplied : of_jobs.Stands hub jobs t.who (job_happenings t h) → (of_table.AwaitsAnswer (job_happenings t h) k (input.Asked e) → ⊥)
      → of_jobs.Stands hub jobs t.who (add (reply_to h e (Some k)) (job_happenings t h))
  unreplied stays dead = go (asks (last_of (acts k h)) && not (is_some (reply k h))) refl
    where
      go : (x : Bool) → (asks (last_of (acts k h)) && not (is_some (reply k h))) ≡ x → of_jobs.Stands hub jobs t.who (add (if x then Some (Replied k (input.Asked e)) else None) (job_happenings t h))
      go false p = stays
      go true p =
          let q = and_parts (asks (last_of (acts k h))) (not (is_some (reply k h))) p in
          absurd (dead (record {
            live = sym (b.live k) ∙ asks_live hub t k h f q.0;
            asked = answers_asks _ e ∙ (ap asks (ap last_of (sym (b.does k))) ∙ q.0);
            unanswered = sym (b.answers k) ∙ is_none (reply k h) q.1;
          }))

-- the job of this number is given a copy of the ending, if it waits for it
pub answered : {H Job T E : Type 0} (hub : Hub Job) (t : Settings) (h : List PeerEvent) (b : JobsAgree t h) (f : Follows hub t h) (e copy : Ending) (same : copy ≡ e) (old new : Jobs H Job) (job : ℕ)
    (r : Result T E) → of_jobs.Stands hub old t.who (job_happenings t h)
    → OnOk r (of_table.OfEach hub old (λ who h. of_table.Answers hub new who h job (input.Asked copy)))
    → OnErr r (of_table.OfEach hub old (λ who h. of_table.AtPlace job (λ j. of_table.AwaitsAnswer h j (input.Asked copy) → ⊥))) → OnErr r (new ≡ old)
    → (k : ℕ) → job ≡ suc k → of_jobs.Stands hub new t.who (add (reply_to h e (Some k)) (job_happenings t h))
answered hub t h b f e copy same old new job (Ok x) s ok unknown kept k is =
    replied hub t h b f e k new (subst (λ n. of_table.Answers hub new t.who (job_happenings t h) n (input.Asked e)) is
    (subst (λ x. of_table.Answers hub new t.who (job_happenings t h) job (input.Asked x)) same (ok t.who (job_happenings t h) s)))
answered hub t h b f e copy same old new job (Err x) s ok unknown kept k is =
    unreplied hub t h b f e k new (subst (λ j. of_jobs.Stands hub j t.who (job_happenings t h)) (sym kept) s)
    (subst (λ x. of_table.AwaitsAnswer (job_happenings t h) k (input.Asked x) → ⊥) same (unknown t.who (job_happenings t h) s k is))

-- ---- what is read

module _ {H Job : Type 0} (hub : Hub Job) (t : Settings) (old : Peer H Job) (h : List PeerEvent) (s : Stands hub t old h) (none : old.waiting ≡ None) (end : End) (limits : limits_of end ≡ limits_of old.end) where
  -- a message, which waits now
  pub reads_message : (m : Message) → is_sequenced m ≡ true → of_end.Stands t.wire t.config end (Does (Took (gives.Message m)) ∷ byte_steps t h)
      → Stands hub t (record old { end = end; waiting = Some m }) (Reads m ∷ h)
  reads_message m counted stands = record {
    names = s.names;
    limits = s.limits ∙ sym limits;
    end = stands;
    calls = s.calls;
    jobs = s.jobs;
    who = s.who;
    waits = refl;
    counted = counted;
    jobs_by_call = s.jobs_by_call;
    follows = (s.follows, sym s.waits ∙ none);
    prompt = (s.prompt, inl s.settled);
    settled = refl;
  }

  -- a step of the end alone
  pub reads_plain : (x : ByteStep) → IsPlain h x → of_end.Stands t.wire t.config end (x ∷ byte_steps t h) → Stands hub t (record old { end = end }) (Plain x ∷ h)
  reads_plain x plain stands = record {
    names = s.names;
    limits = s.limits ∙ sym limits;
    end = stands;
    calls = s.calls;
    jobs = s.jobs;
    who = s.who;
    waits = s.waits;
    counted = s.counted;
    jobs_by_call = s.jobs_by_call;
    follows = (s.follows, plain);
    prompt = (s.prompt, inl s.settled);
    settled = refl;
  }

  pub reads_none : of_end.Stands t.wire t.config end (byte_steps t h) → Stands hub t (record old { end = end }) h
  reads_none stands = record {
    names = s.names;
    limits = s.limits ∙ sym limits;
    end = stands;
    calls = s.calls;
    jobs = s.jobs;
    who = s.who;
    waits = s.waits;
    counted = s.counted;
    jobs_by_call = s.jobs_by_call;
    follows = s.follows;
    prompt = s.prompt;
    settled = s.settled;
  }
