-- What a turn makes of a peer, once its second half is had too.
use Rattle.std.proofs.Common.{◌≡◌, ◌≤◌, ℕ, zero, suc, ◌-◌, length, Bool, true, false, List, ◌∷◌, Option, Some, None, refl, sym, ap, ◌∙◌, subst, arith}
use Rattle.std.specs.Prelude.{nat_eq, option_map, slice_get, if◌then◌else◌}
use Rattle.std.specs.HashMap.{get}
use Rattle.hv_value.specs.declared.value.Value.{Value}
use Rattle.hm_message.specs.declared.message.Codec.{Codec}
use Rattle.hm_message.specs.declared.message.Message.{Message}
use Rattle.hm_message.specs.declared.message.Ending.{Ending}
use Rattle.hd_delivery.specs.Histories.{Sent}
use Rattle.hd_delivery.specs.Bytes.{Does}
use Rattle.he_end.specs.Stands as of_end
use Rattle.he_end.specs.Stands.{limits_of}
use Rattle.hd_calls.specs.declared.vocabulary.CallKind.{CallKind}
use Rattle.hd_calls.specs.declared.vocabulary.Act.{Act}
use Rattle.hd_calls.specs.declared.vocabulary.Act.TheVariants as act
use Rattle.hd_calls.specs.declared.vocabulary.Deed.{Deed}
use Rattle.hd_calls.specs.Hubs.{Hub, Way, Notify, Call, Stream, Turn, Given, Cancelled, call_for, id_of, kind_of}
use Rattle.hd_calls.specs.Ids.{prefix_of}
use Rattle.hd_calls.specs.Laws.{JobsAgree}
use Rattle.hd_calls.specs.Peers.{PeerEvent, Runs, Settings, acts, answer_of, begun, byte_steps, codec, last_of, message_for}
use Rattle.hd_calls.specs.Peers as peers
use Rattle.hd_calls.specs.Rules.{IsDue, MayRun, MayTurn, act_at, asking, first_from, is_due, job_after, next_input, passed}
use Rattle.hd_calls.specs.Tables.{JobHappening, Turned, call_happenings, cut_short, job_happenings, next_input_in}
use Rattle.hi_calls.specs.Stands as of_calls
use Rattle.hj_jobs.specs.declared.jobs.Jobs.{Jobs}
use Rattle.hj_jobs.specs.declared.live.Stepped.{Stepped}
use Rattle.hj_jobs.specs.Calls.{HasPrepared, IsStepOf, IsTurnIn}
use Rattle.hj_jobs.specs.Stands as of_jobs
use Rattle.hp_peer.specs.declared.peer.Peer.{Peer}
use Rattle.hp_peer.specs.Stands.{Stands}
use Rattle.hp_peer.specs.Turning.{IsAt, IsCarriedOut, IsPrepared, IsOfAsk, stream_id}
use Rattle.hp_peer.proofs.JobMoves.{moved}

-- ---- what is given to the caller

pub some_same : {A : Type 0} (x y : A) → Some x ≡ Some y → x ≡ y
some_same x y e = cc

-- a call whose job may send items is a Stream
pub stream_way : (way : Way) (kind : CallKind) (id : Option (List ℕ)) (i : List ℕ) → kind ≡ kind_of way → id ≡ id_of way → stream_id kind id ≡ Some i → way ≡ Stream i
stream_way Notify kind id i k d e = let z : ◌≡◌ {A = Option (List ℕ)} None (Some i) = sym (λ j. stream_id (k j) (d j)) ∙ e in absurd (cc)
stream_way (Call x) kind id i k d e = let z : ◌≡◌ {A = Option (List ℕ)} None (Some i) = sym (λ j. stream_id (k j) (d j)) ∙ e in absurd (cc)
stream_way (Stream x) kind id i k d e = ap Stream (some_same x i (sym (λ j. stream_id (k j) (d j)) ∙ e))

-- nothing is said for the act, and the job isn't cut short by it
pub record IsQuiet (t : Settings) (code : Codec) (way : Way) (j : ℕ) (what : Act) : Type 0 where
  pub silent : message_for way (answer_of t code way what) ≡ None
  pub whole : cut_short t code way j what ≡ None

pub unstreamed : (t : Settings) (code : Codec) (way : Way) (j : ℕ) (v : Value) (kind : CallKind) (id : Option (List ℕ)) → kind ≡ kind_of way → id ≡ id_of way → stream_id kind id ≡ None
    → IsQuiet t code way j (act.Item v)
unstreamed t code Notify j v kind id k d e = record { silent = refl; whole = refl }
unstreamed t code (Call x) j v kind id k d e = record { silent = refl; whole = refl }
unstreamed t code (Stream x) j v kind id k d e = let z : ◌≡◌ {A = Option (List ℕ)} (Some x) None = sym (λ j. stream_id (k j) (d j)) ∙ e in absurd (cc)

pub unanswered : (t : Settings) (code : Codec) (way : Way) (j : ℕ) (e : Ending) → None ≡ id_of way → IsQuiet t code way j (act.End e)
unanswered t code Notify j e d = record { silent = refl; whole = refl }
unanswered t code (Call x) j e d = absurd (cc)
unanswered t code (Stream x) j e d = absurd (cc)

pub more_quiet : (t : Settings) (code : Codec) (way : Way) (j : ℕ) → IsQuiet t code way j act.More
more_quiet t code Notify j = record { silent = refl; whole = refl }
more_quiet t code (Call x) j = record { silent = refl; whole = refl }
more_quiet t code (Stream x) j = record { silent = refl; whole = refl }

pub wait_quiet : (t : Settings) (code : Codec) (way : Way) (j : ℕ) → IsQuiet t code way j act.Wait
wait_quiet t code Notify j = record { silent = refl; whole = refl }
wait_quiet t code (Call x) j = record { silent = refl; whole = refl }
wait_quiet t code (Stream x) j = record { silent = refl; whole = refl }

pub deed_quiet : (t : Settings) (code : Codec) (way : Way) (j : ℕ) (d : Deed) → IsQuiet t code way j (act.Do d)
deed_quiet t code Notify j d = record { silent = refl; whole = refl }
deed_quiet t code (Call x) j d = record { silent = refl; whole = refl }
deed_quiet t code (Stream x) j d = record { silent = refl; whole = refl }

-- ---- the turn is the one that is due

pub first_past : (u k j : ℕ) (p : ℕ → Bool) → first_from k u p ≡ Some j → k ≤ j
first_past zero k j p e = absurd (cc)
first_past (suc u) k j p e = go (p k) (first_past u (suc k) j p) e
  where
    go : (b : Bool) → (first_from (suc k) u p ≡ Some j → suc k ≤ j) → (if b then Some k else first_from (suc k) u p) ≡ Some j → k ≤ j
    go true later e = let z : k ≡ j = some_same k j e in omega (arith, z)
    go false later e = let z : suc k ≤ j = later e in omega (arith, z)

module _ {Job : Type 0} (hub : Hub Job) (t : Settings) (h : List PeerEvent) (agree : JobsAgree t h) where
  next_agrees : (j : ℕ) (a : Option Act) → next_input j h a ≡ next_input_in j (job_happenings t h) a
  next_agrees j None = refl
  next_agrees j (Some act.More) = refl
  next_agrees j (Some act.Wait) = rw (agree.fed j, agree.turn j) refl
  next_agrees j (Some (act.Item v)) = refl
  next_agrees j (Some (act.End e)) = refl
  next_agrees j (Some (act.Ask u v)) = agree.answers j
  next_agrees j (Some (act.Do d)) = agree.answers j

  due_is : (j now : ℕ) (turn : Turn) → IsTurnIn (job_happenings t h) j now turn → IsDue t j h turn
  due_is j now Cancelled d = (agree.live j ∙ d.0, agree.marks j ∙ d.1)
  due_is j now (Given i m) d =
      (agree.live j ∙ d.0, agree.marks j ∙ d.1, next_agrees j (last_of (acts j h)) ∙ (ap (λ xs. next_input_in j (job_happenings t h) (last_of xs)) (agree.does j) ∙ d.2))

  pub at_is : (j now : ℕ) (turn : Turn) → IsTurnIn (job_happenings t h) j now turn → IsAt now turn
  at_is j now Cancelled d = tt
  at_is j now (Given i m) d = d.3

  pub may_run : (now : ℕ) (s : Stepped) (j : ℕ) (turn : Turn) (st : IsStepOf hub t.who (job_happenings t h) now s j turn) → MayTurn t h → MayRun hub t h j st.call st.since turn s.act
  may_run now s j turn st may = record {
    at = ap (λ xs. slice_get xs j) agree.begins ∙ st.at;
    began = ap (λ xs. slice_get xs j) agree.began ∙ st.began;
    may = may;
    next = agree.next ∙ st.next;
    due = due_is j now turn st.due;
    is = st.does ∙ ap (λ ts. act_at hub (job_after hub (hub.begin_of (call_for t.who st.call) st.since) ts) turn) (sym (agree.turn j));
  }

-- ---- the turn is had

module _ {H Job : Type 0} (hub : Hub Job) (t : Settings) (h : List PeerEvent) (agree : JobsAgree t h) (p : Peer H Job) (now : ℕ) (s : Stepped) (half : IsPrepared {H = H} hub t p h now s) where
  abbrev pub a : HasPrepared {H = H} hub p.jobs t.who (job_happenings t h) now s
  a = half.was_prepared

  -- the table of jobs is that of the first half, until it is finished
  pub finished : (mid jobs : Jobs H Job) → mid ≡ p.jobs
      → ((who : List ℕ) (k : List JobHappening) (now : ℕ) (x : HasPrepared {H = H} hub mid who k now s) → of_jobs.Stands {H = H} hub jobs who (Turned x.job x.turn s.act ∷ k))
      → of_jobs.Stands {H = H} hub jobs t.who (Turned a.job a.turn s.act ∷ job_happenings t h)
  finished mid jobs same clause =
      subst (λ (m : Jobs H Job). (who : List ℕ) (k : List JobHappening) (now : ℕ) (x : HasPrepared {H = H} hub m who k now s) → of_jobs.Stands {H = H} hub jobs who (Turned x.job x.turn s.act ∷ k))
      same clause t.who (job_happenings t h) now a

  module _ (what : Act) (is : s.act ≡ what) (q : Peer H Job) where
    abbrev move : PeerEvent
    move = Runs a.job a.step.call a.step.since a.turn what

    pub carried : (o : Option Message) (cut : Option JobHappening)
        → message_for a.step.call.way (answer_of t (codec t h) a.step.call.way what) ≡ o
        → cut_short t (codec t h) a.step.call.way a.job what ≡ cut
        → limits_of q.end ≡ limits_of p.end
        → of_end.Stands t.wire t.config q.end (peers.add (option_map (λ m. Does (Sent m)) o) (byte_steps t h))
        → of_jobs.Stands {H = H} hub q.jobs t.who (peers.add cut (Turned a.job a.turn what ∷ job_happenings t h))
        → q.calls ≡ p.calls → q.who ≡ p.who → q.waiting ≡ p.waiting → q.jobs_by_call ≡ p.jobs_by_call
        → asking (move ∷ h) ≡ None → IsOfAsk a.job what None → IsCarriedOut {H = H} hub t h q now s
    carried o cut says cuts limits end jobs calls who waits jobs_by_call settled no_ask = record {
      job = a.job;
      call = a.step.call;
      since = a.step.since;
      turn = a.turn;
      number_is = a.step.is;
      at = at_is hub t h agree a.job now a.turn a.step.due;
      next = first_past (length (begun h) - passed h) (passed h) a.job (λ k. is_due t k h) (agree.next ∙ a.step.next);
      asked = None;
      is_of_ask = subst (λ w. IsOfAsk a.job w None) (sym is) no_ask;
      stands = subst (λ w. Stands {H = H} hub t q (Runs a.job a.step.call a.step.since a.turn w ∷ h)) (sym is)
          (moved {H = H} hub t h p half.stands move q
          (subst (λ w. MayRun hub t h a.job a.step.call a.step.since a.turn w) is (may_run hub t h agree now s a.job a.turn a.step half.may))
          limits
          (subst (λ x. of_end.Stands t.wire t.config q.end (peers.add (option_map (λ m. Does (Sent m)) x) (byte_steps t h))) (sym says) end)
          (subst (λ x. of_calls.Stands x (prefix_of t.config.side) (call_happenings h)) (sym calls) half.stands.calls)
          (subst (λ x. of_jobs.Stands {H = H} hub q.jobs t.who (peers.add x (Turned a.job a.turn what ∷ job_happenings t h))) (sym cuts) jobs)
          who (waits ∙ half.stands.waits) half.stands.counted
          (λ n. ap (λ x. get nat_eq x n) jobs_by_call ∙ half.stands.jobs_by_call n)
          settled);
    }

  -- of an act that is quiet and asks for nothing nothing is left to do
  pub carried_quietly : (what : Act) (is : s.act ≡ what) (jobs : Jobs H Job) → IsQuiet t (codec t h) a.step.call.way a.job what
      → ((who : List ℕ) (k : List JobHappening) (now : ℕ) (x : HasPrepared {H = H} hub p.jobs who k now s) → of_jobs.Stands {H = H} hub jobs who (Turned x.job x.turn s.act ∷ k))
      → asking (move what is (record p { jobs = jobs }) ∷ h) ≡ None → IsOfAsk a.job what None → IsCarriedOut {H = H} hub t h (record p { jobs = jobs }) now s
  carried_quietly what is jobs quiet clause settled no_ask =
      carried what is (record p { jobs = jobs }) None None quiet.silent quiet.whole refl half.stands.end
      (subst (λ w. of_jobs.Stands {H = H} hub jobs t.who (Turned a.job a.turn w ∷ job_happenings t h)) is (finished p.jobs jobs refl clause))
      refl refl refl refl settled no_ask
