-- What becomes of a job's ask: its call is made, or it is told that it was refused.
use Rattle.std.proofs.Common.{◌≡◌, inl, inr, ℕ, suc, ◌-◌, Bool, true, false, List, [], ◌∷◌, ◌++◌, Some, None, Result, Ok, Err, OnOk, OnErr, refl, sym, ap, ◌∙◌, subst, arith}
use Rattle.std.specs.Prelude.{nat_eq, length, option_map, ◌==◌, if◌then◌else◌}
use Rattle.std.specs.HashMap.{get}
use Rattle.indexmap.specs.IndexMap.{IndexMap, IsUnchanged}
use Rattle.std.proofs.lemmas.Bool.{eq-eqb, eqb-true, ne_eqb}
use Rattle.hv_value.specs.Tree.{Tree}
use Rattle.hm_message.specs.declared.message.Codec.{Codec}
use Rattle.hm_message.specs.declared.message.Ending.{Ending}
use Rattle.hm_message.specs.declared.message.Message.{Message}
use Rattle.hd_delivery.specs.Histories.{Sent, codec_of}
use Rattle.hd_delivery.specs.Bytes.{Does, in_frames, sizes_of}
use Rattle.hd_delivery.specs.Sending.{IsRefusedToSend}
use Rattle.hd_delivery.specs.Sending as sending
use Rattle.he_end.specs.Stands as of_end
use Rattle.he_end.specs.Stands.{limits_of}
use Rattle.he_end.specs.declared.errors.SendError.TheVariants as send
use Rattle.hd_calls.specs.declared.vocabulary.CallKind.TheVariants as kind
use Rattle.hd_calls.specs.declared.vocabulary.Act.TheVariants as act
use Rattle.hd_calls.specs.declared.vocabulary.Input.TheVariants as input
use Rattle.hd_calls.specs.Hubs.{Hub, Way, Notify, Call, Stream, Invoked, Turn, Given, Cancelled, message_of}
use Rattle.hd_calls.specs.Laws.{CallsAgree, JobsAgree}
use Rattle.hd_calls.specs.Peers as peers
use Rattle.hd_calls.specs.Peers.{PeerEvent, Calls, Refuses, Runs, Settings, acts, ask_refused, asker_of, begun, byte_steps, call_of, codec, drawn, ends_job, given, has_end, has_id, last_of, live_call, live_job, lost, over, reply, steps}
use Rattle.hd_calls.specs.Rules.{CallRefusal, TooManyLive, Spent, Unknown, TooDeep, Unsent, IsAsked, IsRefusedCall, IsUnsent, MayRun, ask_of, is_due, passed}
use Rattle.hd_calls.specs.Tables.{JobHappening, Turned, Replied, acts_in, call_happenings, drawn_in, job_happenings, live_job_in}
use Rattle.hi_calls.specs.declared.errors.CallError.TheVariants as table
use Rattle.hi_calls.specs.Laws.{IdsAreOfASide}
use Rattle.hi_calls.specs.Stands as of_calls
use Rattle.hj_jobs.specs.declared.jobs.Jobs.{Jobs}
use Rattle.hj_jobs.specs.declared.live.Stepped.{Stepped}
use Rattle.hj_jobs.specs.Calls as of_table
use Rattle.hj_jobs.specs.Calls.{AwaitsAnswer, HasPrepared, IsTurnIn, is_answer}
use Rattle.hj_jobs.specs.Stands as of_jobs
use Rattle.hp_peer.specs.declared.errors.AskError.{AskError}
use Rattle.hp_peer.specs.declared.errors.AskError.TheVariants as ask
use Rattle.hp_peer.specs.declared.peer.Peer.{Peer}
use Rattle.hp_peer.specs.Asking.{is_refusal}
use Rattle.hp_peer.specs.Calling.{HasCalled, IsUncalled, heard_call}
use Rattle.hp_peer.specs.Stands.{Stands, live_asker}
use Rattle.hp_peer.specs.Turning.{IsCarriedOut, IsPrepared, IsOfAsk}
use Rattle.hp_peer.proofs.JobTurns.{IsQuiet, at_is, finished, first_past, may_run}

suc_injective : (m n : ℕ) → suc m ≡ suc n → m ≡ n
suc_injective m n e = omega arith

-- a map that was only made roomier
pub unchanged : {S : Type 0} (m n : IndexMap ℕ ℕ S) → IsUnchanged m n → (k : ℕ) → get nat_eq n k ≡ get nat_eq m k
unchanged m n same k = rw same refl

last_pushed : {A : Type 0} (xs : List A) (x : A) → last_of (xs ++ x ∷ []) ≡ Some x
last_pushed [] x = refl
last_pushed (y ∷ []) x = refl
last_pushed (y ∷ z ∷ xs) x = last_pushed (z ∷ xs) x

ask_quiet : (t : Settings) (code : Codec) (way : Way) (j : ℕ) (u : List ℕ) (v : List Tree) → IsQuiet t code way j (act.Ask u v)
ask_quiet t code Notify j u v = record { silent = refl; whole = refl }
ask_quiet t code (Call x) j u v = record { silent = refl; whole = refl }
ask_quiet t code (Stream x) j u v = record { silent = refl; whole = refl }

ask_goes_on : (t : Settings) (code : Codec) (way : Way) (u : List ℕ) (v : List Tree) → ends_job t code way (act.Ask u v) ≡ false
ask_goes_on t code Notify u v = refl
ask_goes_on t code (Call x) u v = refl
ask_goes_on t code (Stream x) u v = refl

live_in : (h : List JobHappening) (k now : ℕ) (turn : Turn) → IsTurnIn h k now turn → live_job_in k h ≡ true
live_in h k now Cancelled d = d.0
live_in h k now (Given i m) d = d.0

module _ {H Job : Type 0} (hub : Hub Job) (ids : IdsAreOfASide) (t : Settings) (h : List PeerEvent) (calls_agree : CallsAgree h) (agree : JobsAgree t h) (p : Peer H Job) (now : ℕ) (s : Stepped)
    (half : IsPrepared {H = H} hub t p h now s) (target : List ℕ) (arguments : List Tree) (is : s.act ≡ act.Ask target arguments) where
  abbrev j : ℕ
  j = half.was_prepared.job

  abbrev way : Way
  way = half.was_prepared.step.call.way

  abbrev k : List PeerEvent
  k = Runs j half.was_prepared.step.call half.was_prepared.step.since half.was_prepared.turn (act.Ask target arguments) ∷ h

  abbrev c : Invoked
  c = heard_call t h kind.Call target arguments 0

  -- the turn itself is no step of the end
  same_steps : byte_steps t k ≡ byte_steps t h
  same_steps = ap (λ o. peers.add (option_map (λ m. Does (Sent m)) o) (byte_steps t h)) (ask_quiet t (codec t h) way j target arguments).silent

  same_jobs : job_happenings t k ≡ Turned j half.was_prepared.turn (act.Ask target arguments) ∷ job_happenings t h
  same_jobs = ap (λ o. peers.add o (Turned j half.was_prepared.turn (act.Ask target arguments) ∷ job_happenings t h)) (ask_quiet t (codec t h) way j target arguments).whole

  same_codec : codec t k ≡ codec t h
  same_codec = ap (λ bs. codec_of t.config (in_frames t.wire t.config bs)) same_steps

  asked_call : c ≡ ask_of t k target arguments
  asked_call = rw (same_codec, half.stands.names (suc (drawn h)), ids t.config.side (suc (drawn h))) refl

  runs : MayRun hub t h j half.was_prepared.step.call half.was_prepared.step.since half.was_prepared.turn (act.Ask target arguments)
  runs = subst (λ w. MayRun hub t h j half.was_prepared.step.call half.was_prepared.step.since half.was_prepared.turn w) is (may_run hub t h agree now s j half.was_prepared.turn half.was_prepared.step half.may)

  was_live : live_job t j h ≡ true
  was_live = agree.live j ∙ live_in (job_happenings t h) j now half.was_prepared.turn half.was_prepared.step.due

  is_asked : IsAsked t j c k
  is_asked = record {
    target = target;
    arguments = arguments;
    live = rw (ask_goes_on t (codec t h) way target arguments, eq-eqb j j refl) was_live;
    last = rw (eq-eqb j j refl) (last_pushed (acts j h) (act.Ask target arguments));
    unmade = rw (eq-eqb j j refl) refl;
    unanswered = rw (eq-eqb j j refl) refl;
    is = asked_call;
  }

  turned : (mid jobs : Jobs H Job) → mid ≡ p.jobs
      → ((who : List ℕ) (i : List JobHappening) (now : ℕ) (x : HasPrepared {H = H} hub mid who i now s) → of_jobs.Stands {H = H} hub jobs who (Turned x.job x.turn s.act ∷ i))
      → of_jobs.Stands {H = H} hub jobs t.who (Turned j half.was_prepared.turn (act.Ask target arguments) ∷ job_happenings t h)
  turned mid jobs same clause =
      subst (λ w. of_jobs.Stands {H = H} hub jobs t.who (Turned j half.was_prepared.turn w ∷ job_happenings t h)) is (finished {H = H} hub t h agree p now s half mid jobs same clause)

  carried_ask : (q : Peer H Job) (d : PeerEvent) → IsOfAsk j (act.Ask target arguments) (Some d) → Stands {H = H} hub t q (d ∷ k) → IsCarriedOut {H = H} hub t h q now s
  carried_ask q d of stands = record {
    job = j;
    call = half.was_prepared.step.call;
    since = half.was_prepared.step.since;
    turn = half.was_prepared.turn;
    number_is = half.was_prepared.step.is;
    at = at_is hub t h agree j now half.was_prepared.turn half.was_prepared.step.due;
    next = first_past (length (begun h) - passed h) (passed h) j (λ i. is_due t i h) (agree.next ∙ half.was_prepared.step.next);
    asked = Some d;
    is_of_ask = subst (λ w. IsOfAsk j w (Some d)) (sym is) of;
    stands = subst (λ w. Stands {H = H} hub t q (d ∷ Runs j half.was_prepared.step.call half.was_prepared.step.since half.was_prepared.turn w ∷ h)) (sym is) stands;
  }

  -- ---- the call is made

  module _ (q : Peer H Job) (n : ℕ) (made : HasCalled {H = H} hub t h q kind.Call target arguments 0 n) (after : Peer H Job) (jobs : Jobs H Job)
      (noted : (m : ℕ) → get nat_eq after.jobs_by_call m ≡ (if n == m then Some s.job else get nat_eq q.jobs_by_call m))
      (turned : of_jobs.Stands {H = H} hub jobs t.who (Turned j half.was_prepared.turn (act.Ask target arguments) ∷ job_happenings t h)) where
    fresh : of_calls.IsFresh n (call_happenings h)
    fresh = half.stands.calls.fresh n (let e : drawn h ≡ drawn_in (call_happenings h) = calls_agree.draws in let f : n ≡ suc (drawn h) = made.number_is in omega (arith, e, f))

    is_live : live_call n (Calls None n c ∷ h) ≡ true
    is_live = rw (eq-eqb n n refl, calls_agree.gives n, fresh.ungiven, calls_agree.loses n, fresh.unlost) refl

    asker_is : (m : ℕ) → get nat_eq after.jobs_by_call m ≡ live_asker m (Calls (Some j) n c ∷ k)
    asker_is m = go (m == n) refl
      where
        go : (b : Bool) → (m == n) ≡ b → get nat_eq after.jobs_by_call m ≡ live_asker m (Calls (Some j) n c ∷ k)
        go true e =
            let same : m ≡ n = eqb-true m n e in
            subst (λ x. get nat_eq after.jobs_by_call x ≡ live_asker x (Calls (Some j) n c ∷ k)) (sym same)
            (noted n ∙ (rw (eq-eqb n n refl, calls_agree.gives n, fresh.ungiven, calls_agree.loses n, fresh.unlost) (ap Some half.was_prepared.step.is)))
        go false e =
            let apart : (n == m) ≡ false = ne_eqb n m (λ z. let w : (m == n) ≡ true = eq-eqb m n (sym z) in absurd (cc)) in
            let old = made.stands.jobs_by_call m in
            noted m ∙ (rw apart (old ∙ (rw e refl)))

    made_ask : IsCarriedOut {H = H} hub t h (record q { jobs_by_call = after.jobs_by_call; jobs = jobs }) now s
    made_ask = carried_ask (record q { jobs_by_call = after.jobs_by_call; jobs = jobs }) (Calls (Some j) n c) refl (record {
      names = half.stands.names;
      limits = made.stands.limits;
      end = subst (λ bs. of_end.Stands t.wire t.config q.end (Does (Sent (message_of c)) ∷ bs)) (sym same_steps) made.stands.end;
      calls = made.stands.calls;
      jobs = subst (λ x. of_jobs.Stands {H = H} hub jobs t.who x) (sym same_jobs) turned;
      who = made.stands.who;
      waits = made.stands.waits;
      counted = made.stands.counted;
      jobs_by_call = asker_is;
      follows = (
        (half.stands.follows, runs),
        record {
          made = made.stands.follows.1.made;
          few_uploads = made.stands.follows.1.few_uploads;
          place = record { few_live = made.stands.follows.1.place.few_live; few_numbers = made.stands.follows.1.place.few_numbers };
          asked = is_asked;
        },
      );
      prompt = ((half.stands.prompt, inl half.stands.settled), inr refl);
      settled = refl;
    })

  -- the job that asked is noted, and its turn is finished
  pub made_with : (q m : Peer H Job) (n : ℕ) (jobs : Jobs H Job) → HasCalled {H = H} hub t h q kind.Call target arguments 0 n → q.jobs ≡ p.jobs → m ≡ record q { jobs_by_call = m.jobs_by_call }
      → ((k : ℕ) → get nat_eq m.jobs_by_call k ≡ (if n == k then Some s.job else get nat_eq q.jobs_by_call k))
      → ((who : List ℕ) (i : List JobHappening) (now : ℕ) (x : HasPrepared {H = H} hub m.jobs who i now s) → of_jobs.Stands {H = H} hub jobs who (Turned x.job x.turn s.act ∷ i))
      → IsCarriedOut {H = H} hub t h (record m { jobs = jobs }) now s
  made_with q m n jobs made kept others noted clause =
      subst (λ (x : Peer H Job). IsCarriedOut {H = H} hub t h (record x { jobs = jobs }) now s) (sym others)
      (made_ask q n made m jobs noted (turned m.jobs jobs (ap (λ (x : Peer H Job). x.jobs) others ∙ kept) clause))

  -- ---- it is refused

  last_act : last_of (acts_in j (Turned j half.was_prepared.turn (act.Ask target arguments) ∷ job_happenings t h)) ≡ Some (act.Ask target arguments)
  last_act = rw (eq-eqb j j refl) (last_pushed (acts_in j (job_happenings t h)) (act.Ask target arguments))

  -- the job waits for an answer
  awaits : (e : Ending) → AwaitsAnswer (Turned j half.was_prepared.turn (act.Ask target arguments) ∷ job_happenings t h) j (input.Asked e)
  awaits e = record {
    live = rw (eq-eqb j j refl) (live_in (job_happenings t h) j now half.was_prepared.turn half.was_prepared.step.due);
    asked = ap (λ o. is_answer o (input.Asked e)) last_act;
    unanswered = rw (eq-eqb j j refl) refl;
  }

  -- and so is told, whatever else the table could answer
  told : {T E : Type 0} (mid jobs : Jobs H Job) → of_jobs.Stands {H = H} hub mid t.who (Turned j half.was_prepared.turn (act.Ask target arguments) ∷ job_happenings t h)
      → (e : Ending) → e ≡ ask_refused → (r : Result T E)
      → OnOk r (of_table.OfEach {H = H} hub mid (λ who i. of_table.Answers {H = H} hub jobs who i s.job (input.Asked e)))
      → OnErr r (of_table.OfEach {H = H} hub mid (λ who i. of_table.AtPlace s.job (λ n. AwaitsAnswer i n (input.Asked e) → ⊥)))
      → of_jobs.Stands {H = H} hub jobs t.who (Replied j (input.Asked ask_refused) ∷ Turned j half.was_prepared.turn (act.Ask target arguments) ∷ job_happenings t h)
  told mid jobs turned e same (Ok x) ok unknown =
      let a = ok t.who (Turned j half.was_prepared.turn (act.Ask target arguments) ∷ job_happenings t h) turned in
      let place : a.job ≡ j = suc_injective a.job j (sym a.is ∙ half.was_prepared.step.is) in
      subst (λ n. of_jobs.Stands {H = H} hub jobs t.who (Replied n (input.Asked ask_refused) ∷ Turned j half.was_prepared.turn (act.Ask target arguments) ∷ job_happenings t h)) place
      (subst (λ x. of_jobs.Stands {H = H} hub jobs t.who (Replied a.job (input.Asked x) ∷ Turned j half.was_prepared.turn (act.Ask target arguments) ∷ job_happenings t h)) same a.stands)
  told mid jobs turned e same (Err x) ok unknown =
      absurd (unknown t.who (Turned j half.was_prepared.turn (act.Ask target arguments) ∷ job_happenings t h) turned j half.was_prepared.step.is (awaits e))

  unsent : (m : Message) (why : CallRefusal) → IsUnsent t h m why → IsUnsent t k m why
  unsent m TooManyLive x = x
  unsent m Spent x = x
  unsent m Unknown x = x
  unsent m TooDeep x = x
  unsent m (Unsent why) x = (x.0, subst (λ bs. IsRefusedToSend t.limits (sizes_of t.wire) t.config (in_frames t.wire t.config bs) m why) (sym same_steps) x.1)

  still_refused : (why : CallRefusal) → IsRefusedCall t h c why → IsRefusedCall t k c why
  still_refused TooManyLive x = x
  still_refused Spent x = x
  still_refused Unknown x = (record { few_live = x.0.few_live; few_numbers = x.0.few_numbers }, unsent (message_of c) Unknown x.1)
  still_refused TooDeep x = (record { few_live = x.0.few_live; few_numbers = x.0.few_numbers }, unsent (message_of c) TooDeep x.1)
  still_refused (Unsent why) x = (record { few_live = x.0.few_live; few_numbers = x.0.few_numbers }, unsent (message_of c) (Unsent why) x.1)

  why_not : (e : AskError) → is_refusal e ≡ true → IsUncalled t h kind.Call target arguments 0 e → (why : CallRefusal) × IsRefusedCall t h c why
  why_not ask.NoMemory some x = absurd (cc)
  why_not ask.TooDeep some x = (TooDeep, x)
  why_not (ask.Calls table.TooMany) some x = (TooManyLive, x)
  why_not (ask.Calls table.Spent) some x = (Spent, x)
  why_not (ask.Calls table.UnknownId) some x = (Unknown, x)
  why_not (ask.Calls table.NoMemory) some x = absurd x
  why_not (ask.Send send.Opening) some x = (Unsent sending.Opening, x)
  why_not (ask.Send send.Closed) some x = (Unsent sending.Closed, x)
  why_not (ask.Send (send.TooLong size)) some x = (Unsent (sending.TooLong size), x)
  why_not (ask.Send (send.Full held bytes size)) some x = (Unsent (sending.Full held bytes size), x)
  why_not (ask.Send send.Exhausted) some x = (Unsent sending.Exhausted, x)
  why_not (ask.Send send.NoMemory) some x = absurd x

  refused_ask : (q : Peer H Job) (stays : Stands {H = H} hub t q h) (e : AskError) → is_refusal e ≡ true → IsUncalled t h kind.Call target arguments 0 e → (jobs : Jobs H Job)
      → of_jobs.Stands {H = H} hub jobs t.who (Replied j (input.Asked ask_refused) ∷ Turned j half.was_prepared.turn (act.Ask target arguments) ∷ job_happenings t h)
      → IsCarriedOut {H = H} hub t h (record q { jobs = jobs }) now s
  refused_ask q stays e some x jobs told =
      let why = why_not e some x in
      carried_ask (record q { jobs = jobs }) (Refuses j) refl (record {
        names = stays.names;
        limits = stays.limits;
        end = subst (λ bs. of_end.Stands t.wire t.config q.end bs) (sym same_steps) stays.end;
        calls = stays.calls;
        jobs = subst (λ x. of_jobs.Stands {H = H} hub jobs t.who (Replied j (input.Asked ask_refused) ∷ x)) (sym same_jobs) told;
        who = stays.who;
        waits = stays.waits;
        counted = stays.counted;
        jobs_by_call = stays.jobs_by_call;
        follows = ((half.stands.follows, runs), record { call = c; asked = is_asked; why = why.0; refused = still_refused why.0 why.1 });
        prompt = ((half.stands.prompt, inl half.stands.settled), inr refl);
        settled = refl;
      })

  -- the turn is finished, and the job is told
  pub refused_with : {T E : Type 0} (q : Peer H Job) (mid jobs : Jobs H Job) → Stands {H = H} hub t q h
      → (e : AskError) → is_refusal e ≡ true → IsUncalled t h kind.Call target arguments 0 e → q.jobs ≡ p.jobs
      → ((who : List ℕ) (i : List JobHappening) (now : ℕ) (x : HasPrepared {H = H} hub q.jobs who i now s) → of_jobs.Stands {H = H} hub mid who (Turned x.job x.turn s.act ∷ i))
      → (answer : Ending) → answer ≡ ask_refused → (r : Result T E)
      → OnOk r (of_table.OfEach {H = H} hub mid (λ who i. of_table.Answers {H = H} hub jobs who i s.job (input.Asked answer)))
      → OnErr r (of_table.OfEach {H = H} hub mid (λ who i. of_table.AtPlace s.job (λ n. AwaitsAnswer i n (input.Asked answer) → ⊥)))
      → IsCarriedOut {H = H} hub t h (record q { jobs = jobs }) now s
  refused_with q mid jobs stays e some x kept clause answer same r ok unknown =
      refused_ask q stays e some x jobs (told mid jobs (turned q.jobs mid kept clause) answer same r ok unknown)
