-- What becomes of a job's act once its turn is had: nothing is said, an item is, or an ending.
use Rattle.std.proofs.Common.{◌≡◌, ℕ, length, Bool, true, false, List, [], ◌∷◌, Option, Some, None, refl, sym, ap, ◌∙◌, subst}
use Rattle.std.specs.Prelude.{option_map, not, ◌||◌, ◌&&◌, ◌==◌, nat_lt, if◌then◌else◌}
use Rattle.hv_value.specs.declared.value.Value.{Value}
use Rattle.hm_message.specs.declared.message.Codec.{Codec}
use Rattle.hm_message.specs.declared.message.Codec.TheVariants.{Json, Pack}
use Rattle.hm_message.specs.declared.message.Message.{Message}
use Rattle.hm_message.specs.declared.message.Message.TheVariants.{StreamItem, Completion}
use Rattle.hm_message.specs.declared.message.Ending.{Ending}
use Rattle.hm_codec.specs.Frames.{said_again}
use Rattle.hd_delivery.specs.Histories.{Sent}
use Rattle.hd_delivery.specs.Bytes.{Does}
use Rattle.he_end.specs.Stands as of_end
use Rattle.he_end.specs.Stands.{limits_of}
use Rattle.hd_calls.specs.declared.vocabulary.Act.{Act}
use Rattle.hd_calls.specs.declared.vocabulary.Act.TheVariants as act
use Rattle.hd_calls.specs.Hubs.{Hub, Way, Notify, Call, Stream, Turn, Given, Cancelled, Answer, Item, End, answer_message, id_of, value_in, ending_in}
use Rattle.hd_calls.specs.Laws.{JobsAgree}
use Rattle.hd_calls.specs.Peers as peers
use Rattle.hd_calls.specs.Peers.{PeerEvent, Runs, Settings, answer_of, byte_steps, can_frame, codec, ending_answer, last_word, message_for}
use Rattle.hd_calls.specs.Rules.{asking}
use Rattle.hd_calls.specs.Tables.{JobHappening, Ended, Turned, begun_in, cut_short, job_happenings, live_job_in, over_in}
use Rattle.hj_jobs.specs.declared.jobs.Jobs.{Jobs}
use Rattle.hj_jobs.specs.declared.live.Stepped.{Stepped}
use Rattle.hj_jobs.specs.Calls.{HasPrepared, IsTurnIn}
use Rattle.hj_jobs.specs.Calls as of_jobs_calls
use Rattle.hj_jobs.specs.Stands as of_jobs
use Rattle.hp_peer.specs.declared.peer.Peer.{Peer}
use Rattle.hp_peer.specs.Turning.{IsAnswered, IsCarriedOut, IsPrepared, IsOfAsk, stream_id}
use Rattle.hp_peer.proofs.JobTurns.{carried, carried_quietly, finished, some_same, stream_way, unanswered, unstreamed}

-- ---- what an act says, by whether it can be framed

by_yes : (b : Bool) (i : List ℕ) (a : Answer) (w : Option Answer) → b ≡ true → option_map (answer_message i) (if b then Some a else w) ≡ Some (answer_message i a)
by_yes true i a w e = refl
by_yes false i a w e = absurd (cc)

by_no : (b : Bool) (i : List ℕ) (a : Answer) (w : Option Answer) → b ≡ false → option_map (answer_message i) (if b then Some a else w) ≡ option_map (answer_message i) w
by_no true i a w e = absurd (cc)
by_no false i a w e = refl

uncut : (b : Bool) (j : ℕ) → b ≡ true → (if not b then Some (Ended j) else None) ≡ None
uncut true j e = refl
uncut false j e = absurd (cc)

cut : (b : Bool) (j : ℕ) → b ≡ false → (if not b then Some (Ended j) else None) ≡ Some (Ended j)
cut true j e = absurd (cc)
cut false j e = refl

item_again : (code : Codec) (i : List ℕ) (v : Value) → said_again code (StreamItem [] i v) ≡ StreamItem [] i (value_in code v)
item_again Json i v = refl
item_again Pack i v = refl

ending_again : (code : Codec) (i : List ℕ) (e : Ending) → said_again code (Completion [] i e) ≡ Completion [] i (ending_in code e)
ending_again Json i e = refl
ending_again Pack i e = refl

module _ (t : Settings) (code : Codec) (j : ℕ) (i : List ℕ) where
  item_says : (v : Value) → can_frame t code (StreamItem [] i (value_in code v)) ≡ true
      → (message_for (Stream i) (answer_of t code (Stream i) (act.Item v)) ≡ Some (StreamItem [] i (value_in code v))) × (cut_short t code (Stream i) j (act.Item v) ≡ None)
  item_says v e =
      let b : Bool = can_frame t code (StreamItem [] i (value_in code v)) in
      (by_yes b i (Item (value_in code v)) (last_word t code i) e, uncut b j e)

  item_cut : (v : Value) → can_frame t code (StreamItem [] i (value_in code v)) ≡ false
      → (message_for (Stream i) (answer_of t code (Stream i) (act.Item v)) ≡ option_map (answer_message i) (last_word t code i)) × (cut_short t code (Stream i) j (act.Item v) ≡ Some (Ended j))
  item_cut v e =
      let b : Bool = can_frame t code (StreamItem [] i (value_in code v)) in
      (by_no b i (Item (value_in code v)) (last_word t code i) e, cut b j e)

  -- an ending is said in the same way to a Call and to a Stream
  ending_is : (way : Way) (e : Ending) → Some i ≡ id_of way → message_for way (answer_of t code way (act.End e)) ≡ option_map (answer_message i) (ending_answer t code i e)
  ending_is Notify e d = absurd (cc)
  ending_is (Call x) e d = ap (λ y. option_map (answer_message y) (ending_answer t code y e)) (some_same x i (sym d))
  ending_is (Stream x) e d = ap (λ y. option_map (answer_message y) (ending_answer t code y e)) (some_same x i (sym d))

  ending_says : (way : Way) (e : Ending) → Some i ≡ id_of way → can_frame t code (Completion [] i (ending_in code e)) ≡ true
      → message_for way (answer_of t code way (act.End e)) ≡ Some (Completion [] i (ending_in code e))
  ending_says way e d can = ending_is way e d ∙ by_yes (can_frame t code (Completion [] i (ending_in code e))) i (End (ending_in code e)) (last_word t code i) can

  ending_unsaid : (way : Way) (e : Ending) → Some i ≡ id_of way → can_frame t code (Completion [] i (ending_in code e)) ≡ false
      → message_for way (answer_of t code way (act.End e)) ≡ option_map (answer_message i) (last_word t code i)
  ending_unsaid way e d cannot = ending_is way e d ∙ by_no (can_frame t code (Completion [] i (ending_in code e))) i (End (ending_in code e)) (last_word t code i) cannot

-- ---- a job that is live stays so at an act that doesn't finish it

still_live : (b over lt : Bool) → (lt && not over) ≡ true → (lt && not ((b && false) || over)) ≡ true
still_live true over lt e = e
still_live false over lt e = e

live_at : (k : List JobHappening) (j now : ℕ) (turn : Turn) → IsTurnIn k j now turn → live_job_in j k ≡ true
live_at k j now Cancelled d = d.0
live_at k j now (Given i m) d = d.0

live_past_item : (k : List JobHappening) (j now : ℕ) (turn : Turn) (v : Value) → IsTurnIn k j now turn → live_job_in j (Turned j turn (act.Item v) ∷ k) ≡ true
live_past_item k j now turn v d = still_live (j == j) (over_in j k) (nat_lt j (length (begun_in k))) (live_at k j now turn d)

-- ---- a turn is had, with what is said for it

module _ {H Job : Type 0} (hub : Hub Job) (t : Settings) (h : List PeerEvent) (agree : JobsAgree t h) (p : Peer H Job) (now : ℕ) (s : Stepped) (half : IsPrepared {H = H} hub t p h now s) where
  abbrev a : HasPrepared {H = H} hub p.jobs t.who (job_happenings t h) now s
  a = half.was_prepared

  abbrev way : Way
  way = a.step.call.way

  -- the second half of the turn makes this table of that
  abbrev Finishes : Jobs H Job → Jobs H Job → Type 0
  Finishes old new =
      (who : List ℕ) (k : List JobHappening) (now : ℕ) (x : HasPrepared {H = H} hub old who k now s) → of_jobs.Stands {H = H} hub new who (Turned x.job x.turn s.act ∷ k)

  pub unstreamed_item : (v : Value) → s.act ≡ act.Item v → stream_id s.kind s.id ≡ None → (jobs : Jobs H Job) → Finishes p.jobs jobs
      → IsCarriedOut {H = H} hub t h (record p { jobs = jobs }) now s
  unstreamed_item v is none jobs turned =
      carried_quietly {H = H} hub t h agree p now s half (act.Item v) is jobs (unstreamed t (codec t h) way a.job v s.kind s.id a.step.kind a.step.id none) turned refl tt

  pub unanswered_ending : (e : Ending) → s.act ≡ act.End e → s.id ≡ None → (jobs : Jobs H Job) → Finishes p.jobs jobs
      → IsCarriedOut {H = H} hub t h (record p { jobs = jobs }) now s
  unanswered_ending e is none jobs turned =
      carried_quietly {H = H} hub t h agree p now s half (act.End e) is jobs (unanswered t (codec t h) way a.job e (sym none ∙ a.step.id)) turned refl tt

  -- the end said something, and then the table of jobs finished the turn
  module _ (q : Peer H Job) (others : q ≡ record p { end = q.end }) (limits : limits_of q.end ≡ limits_of p.end) (jobs : Jobs H Job) (turned : Finishes q.jobs jobs) where
    has_turned : (what : Act) → s.act ≡ what → of_jobs.Stands {H = H} hub jobs t.who (Turned a.job a.turn what ∷ job_happenings t h)
    has_turned what is =
        subst (λ w. of_jobs.Stands {H = H} hub jobs t.who (Turned a.job a.turn w ∷ job_happenings t h)) is
        (finished {H = H} hub t h agree p now s half q.jobs jobs (ap (λ (x : Peer H Job). x.jobs) others) turned)

    said : (what : Act) → s.act ≡ what → (o : Option Message) (cut : Option JobHappening) (left : Jobs H Job)
        → message_for way (answer_of t (codec t h) way what) ≡ o
        → cut_short t (codec t h) way a.job what ≡ cut
        → of_end.Stands t.wire t.config q.end (peers.add (option_map (λ m. Does (Sent m)) o) (byte_steps t h))
        → of_jobs.Stands {H = H} hub left t.who (peers.add cut (Turned a.job a.turn what ∷ job_happenings t h))
        → asking (Runs a.job a.step.call a.step.since a.turn what ∷ h) ≡ None → IsOfAsk a.job what None → IsCarriedOut {H = H} hub t h (record q { jobs = left }) now s
    said what is o cut left says cuts end stands settled no_ask =
        carried {H = H} hub t h agree p now s half what is (record q { jobs = left }) o cut says cuts limits end stands
        (ap (λ (x : Peer H Job). x.calls) others) (ap (λ (x : Peer H Job). x.who) others) (ap (λ (x : Peer H Job). x.waiting) others) (ap (λ (x : Peer H Job). x.jobs_by_call) others)
        settled no_ask

    module _ (v : Value) (is : s.act ≡ act.Item v) (i : List ℕ) (streams : stream_id s.kind s.id ≡ Some i) (m : Message) (message : m ≡ StreamItem [] i v) where
      stream_is : way ≡ Stream i
      stream_is = stream_way way s.kind s.id i a.step.kind a.step.id streams

      reads : said_again (codec t h) m ≡ StreamItem [] i (value_in (codec t h) v)
      reads = ap (λ x. said_again (codec t h) x) message ∙ item_again (codec t h) i v

      pub item_sent : IsAnswered {H = H} {Job = Job} t h q i m true → IsCarriedOut {H = H} hub t h (record q { jobs = jobs }) now s
      item_sent sent =
          let says = item_says t (codec t h) a.job i v (subst (λ x. can_frame t (codec t h) x ≡ true) reads sent.0) in
          said (act.Item v) is (Some (StreamItem [] i (value_in (codec t h) v))) None jobs
          (subst (λ w. message_for w (answer_of t (codec t h) w (act.Item v)) ≡ Some (StreamItem [] i (value_in (codec t h) v))) (sym stream_is) says.0)
          (subst (λ w. cut_short t (codec t h) w a.job (act.Item v) ≡ None) (sym stream_is) says.1)
          (subst (λ x. of_end.Stands t.wire t.config q.end (Does (Sent x) ∷ byte_steps t h)) reads sent.1)
          (has_turned (act.Item v) is) refl tt

      pub item_unsent : IsAnswered {H = H} {Job = Job} t h q i m false → (left : Jobs H Job)
          → of_jobs_calls.OfEach {H = H} hub jobs (λ who k. of_jobs_calls.AtPlace s.job (λ j. live_job_in j k ≡ true → of_jobs.Stands {H = H} hub left who (Ended j ∷ k)))
          → IsCarriedOut {H = H} hub t h (record q { jobs = left }) now s
      item_unsent unsent left ended =
          let cuts = item_cut t (codec t h) a.job i v (subst (λ x. can_frame t (codec t h) x ≡ false) reads unsent.0) in
          said (act.Item v) is (option_map (answer_message i) (last_word t (codec t h) i)) (Some (Ended a.job)) left
          (subst (λ w. message_for w (answer_of t (codec t h) w (act.Item v)) ≡ option_map (answer_message i) (last_word t (codec t h) i)) (sym stream_is) cuts.0)
          (subst (λ w. cut_short t (codec t h) w a.job (act.Item v) ≡ Some (Ended a.job)) (sym stream_is) cuts.1)
          unsent.1
          (ended t.who (Turned a.job a.turn (act.Item v) ∷ job_happenings t h) (has_turned (act.Item v) is) a.job a.step.is
          (live_past_item (job_happenings t h) a.job now a.turn v a.step.due))
          refl tt

    module _ (e : Ending) (is : s.act ≡ act.End e) (i : List ℕ) (id : s.id ≡ Some i) (m : Message) (message : m ≡ Completion [] i e) where
      spelled : said_again (codec t h) m ≡ Completion [] i (ending_in (codec t h) e)
      spelled = ap (λ x. said_again (codec t h) x) message ∙ ending_again (codec t h) i e

      pub ending_carried : (whole : Bool) → IsAnswered {H = H} {Job = Job} t h q i m whole → IsCarriedOut {H = H} hub t h (record q { jobs = jobs }) now s
      ending_carried true sent =
          said (act.End e) is (Some (Completion [] i (ending_in (codec t h) e))) None jobs
          (ending_says t (codec t h) a.job i way e (sym id ∙ a.step.id) (subst (λ x. can_frame t (codec t h) x ≡ true) spelled sent.0)) refl
          (subst (λ x. of_end.Stands t.wire t.config q.end (Does (Sent x) ∷ byte_steps t h)) spelled sent.1)
          (has_turned (act.End e) is) refl tt
      ending_carried false unsent =
          said (act.End e) is (option_map (answer_message i) (last_word t (codec t h) i)) None jobs
          (ending_unsaid t (codec t h) a.job i way e (sym id ∙ a.step.id) (subst (λ x. can_frame t (codec t h) x ≡ false) spelled unsent.0)) refl
          unsent.1
          (has_turned (act.End e) is) refl tt
