-- A peer after a move of its jobs: a round that begins, a deed that is answered.
use Rattle.std.proofs.Common.{◌≡◌, inl, ℕ, suc, Bool, true, false, List, ◌∷◌, Option, Some, None, refl, sym, ap, ◌∙◌, subst}
use Rattle.std.specs.Prelude.{nat_eq}
use Rattle.std.specs.HashMap.{get}
use Rattle.hd_delivery.specs.declared.vocabulary.State.TheVariants as states
use Rattle.hd_delivery.specs.Histories.{state_of}
use Rattle.he_end.specs.Stands as of_end
use Rattle.he_end.specs.Stands.{limits_of}
use Rattle.hd_calls.specs.declared.vocabulary.Act.{Act}
use Rattle.hd_calls.specs.declared.vocabulary.Act.TheVariants as act
use Rattle.hd_calls.specs.declared.vocabulary.Input.{Input}
use Rattle.hd_calls.specs.declared.vocabulary.Input.TheVariants as input
use Rattle.hd_calls.specs.Hubs.{Hub}
use Rattle.hd_calls.specs.Ids.{prefix_of}
use Rattle.hd_calls.specs.Laws.{JobsAgree}
use Rattle.hd_calls.specs.Peers.{PeerEvent, Answers, Rounds, Settings, acts, byte_steps, hands_up, last_of, waiting}
use Rattle.hd_calls.specs.Rules.{IsPeerDue, MayAnswer, MayMove, MayTurn, asking, is_deed_answer}
use Rattle.hd_calls.specs.Tables.{Round, call_happenings, job_happenings}
use Rattle.hi_calls.specs.Stands as of_calls
use Rattle.hj_jobs.specs.declared.jobs.Jobs.{Jobs}
use Rattle.hj_jobs.specs.Calls as of_jobs_calls
use Rattle.hj_jobs.specs.Calls.{AwaitsAnswer, SomeIsDue, is_answer}
use Rattle.hj_jobs.specs.Stands as of_jobs
use Rattle.hp_peer.specs.declared.peer.Peer.{Peer}
use Rattle.hp_peer.specs.Stands.{IsCounted, Stands, live_asker}
use Rattle.hp_peer.specs.Turning.{HasAnswered, IsUnanswerable}

-- ---- the state of an end

pub shut_is : (b s : Bool) (l : Option ℕ) → state_of b s l ≡ states.Closed → b ≡ true
shut_is true s l e = refl
shut_is false false l e = absurd (cc)
shut_is false true None e = absurd (cc)
shut_is false true (Some k) e = absurd (cc)

pub open_is : (b s : Bool) (l : Option ℕ) → (state_of b s l ≡ states.Closed → ⊥) → b ≡ false
open_is true s l n = absurd (n refl)
open_is false s l n = refl

-- ---- one more move

module _ {H Job : Type 0} (hub : Hub Job) (t : Settings) (h : List PeerEvent) (p : Peer H Job) (s : Stands {H = H} hub t p h) where
  pub moved : (d : PeerEvent) (q : Peer H Job) → MayMove hub t h d → limits_of q.end ≡ limits_of p.end
      → of_end.Stands t.wire t.config q.end (byte_steps t (d ∷ h))
      → of_calls.Stands q.calls (prefix_of t.config.side) (call_happenings (d ∷ h))
      → of_jobs.Stands {H = H} hub q.jobs t.who (job_happenings t (d ∷ h))
      → q.who ≡ p.who → q.waiting ≡ waiting (d ∷ h) → IsCounted (waiting (d ∷ h))
      → ((n : ℕ) → get nat_eq q.jobs_by_call n ≡ live_asker n (d ∷ h)) → asking (d ∷ h) ≡ None → Stands {H = H} hub t q (d ∷ h)
  moved d q may limits end calls jobs who waits counted jobs_by_call settled = record {
    names = s.names;
    limits = s.limits ∙ sym limits;
    end = end;
    calls = calls;
    jobs = jobs;
    who = who ∙ s.who;
    waits = waits;
    counted = counted;
    jobs_by_call = jobs_by_call;
    follows = (s.follows, may);
    prompt = (s.prompt, inl s.settled);
    settled = settled;
  }

  -- the same moves, if the end and whether memory was out are all that may differ
  pub same_moves : (q : Peer H Job) → limits_of q.end ≡ limits_of p.end → of_end.Stands t.wire t.config q.end (byte_steps t h)
      → q.calls ≡ p.calls → q.jobs ≡ p.jobs → q.who ≡ p.who → q.waiting ≡ p.waiting → ((n : ℕ) → get nat_eq q.jobs_by_call n ≡ get nat_eq p.jobs_by_call n) → Stands {H = H} hub t q h
  same_moves q limits end calls jobs who waits jobs_by_call = record {
    names = s.names;
    limits = s.limits ∙ sym limits;
    end = end;
    calls = subst (λ x. of_calls.Stands x (prefix_of t.config.side) (call_happenings h)) (sym calls) s.calls;
    jobs = subst (λ x. of_jobs.Stands {H = H} hub x t.who (job_happenings t h)) (sym jobs) s.jobs;
    who = who ∙ s.who;
    waits = waits ∙ s.waits;
    counted = s.counted;
    jobs_by_call = λ n. jobs_by_call n ∙ s.jobs_by_call n;
    follows = s.follows;
    prompt = s.prompt;
    settled = s.settled;
  }

  -- the tables of jobs differ
  pub other_jobs : (jobs : Jobs H Job) → of_jobs.Stands {H = H} hub jobs t.who (job_happenings t h) → Stands {H = H} hub t (record p { jobs = jobs }) h
  other_jobs jobs stands = record {
    names = s.names;
    limits = s.limits;
    end = s.end;
    calls = s.calls;
    jobs = stands;
    who = s.who;
    waits = s.waits;
    counted = s.counted;
    jobs_by_call = s.jobs_by_call;
    follows = s.follows;
    prompt = s.prompt;
    settled = s.settled;
  }

  pub round_begins : (jobs : Jobs H Job) → of_jobs.Stands {H = H} hub jobs t.who (Round ∷ job_happenings t h) → Stands {H = H} hub t (record p { jobs = jobs }) (Rounds ∷ h)
  round_begins jobs stands = moved Rounds (record p { jobs = jobs }) tt refl s.end s.calls stands refl s.waits s.counted s.jobs_by_call refl

-- ---- a deed is answered

handed_up : (a : Option Act) (i : Input) → is_deed_answer i ≡ true → is_answer a i ≡ true → hands_up a ≡ true
handed_up None i d e = absurd (cc)
handed_up (Some act.More) i d e = absurd (cc)
handed_up (Some act.Wait) i d e = absurd (cc)
handed_up (Some (act.Item v)) i d e = absurd (cc)
handed_up (Some (act.End x)) i d e = absurd (cc)
handed_up (Some (act.Do x)) i d e = refl
handed_up (Some (act.Ask u v)) input.Go d e = absurd (cc)
handed_up (Some (act.Ask u v)) (input.Item w x) d e = absurd (cc)
handed_up (Some (act.Ask u v)) (input.StreamEnd w x) d e = absurd (cc)
handed_up (Some (act.Ask u v)) (input.Asked x) d e = absurd (cc)
handed_up (Some (act.Ask u v)) (input.Done x) d e = absurd (cc)
handed_up (Some (act.Ask u v)) input.Failed d e = absurd (cc)

is_answered : (a : Option Act) (i : Input) → hands_up a ≡ true → is_deed_answer i ≡ true → is_answer a i ≡ true
is_answered None i e d = absurd (cc)
is_answered (Some act.More) i e d = absurd (cc)
is_answered (Some act.Wait) i e d = absurd (cc)
is_answered (Some (act.Item v)) i e d = absurd (cc)
is_answered (Some (act.End x)) i e d = absurd (cc)
is_answered (Some (act.Ask u v)) i e d = absurd (cc)
is_answered (Some (act.Do x)) i e d = d

module _ {H Job : Type 0} (hub : Hub Job) (t : Settings) (h : List PeerEvent) (agree : JobsAgree t h) where
  pub answered : (p : Peer H Job) (s : Stands {H = H} hub t p h) (jobs : Jobs H Job) (n : ℕ) (i : Input) → is_deed_answer i ≡ true
      → of_jobs_calls.Answers {H = H} hub jobs t.who (job_happenings t h) n i → HasAnswered {H = H} hub t h (record p { jobs = jobs }) n i
  answered p s jobs n i deed a = record {
    job = a.job;
    number_is = a.is;
    stands = moved {H = H} hub t h p s (Answers a.job i) (record p { jobs = jobs })
        (record {
          live = agree.live a.job ∙ a.awaits.live;
          handed = handed_up (last_of (acts a.job h)) i deed (ap (λ xs. is_answer (last_of xs) i) (agree.does a.job) ∙ a.awaits.asked);
          unanswered = agree.answers a.job ∙ a.awaits.unanswered;
          answers = deed;
        })
        refl s.end s.calls a.stands refl s.waits s.counted s.jobs_by_call refl;
  }

  pub answered_with : (p : Peer H Job) (s : Stands {H = H} hub t p h) (jobs : Jobs H Job) (n : ℕ) (i given : Input) → given ≡ i → is_deed_answer i ≡ true
      → of_jobs_calls.Answers {H = H} hub jobs t.who (job_happenings t h) n i → HasAnswered {H = H} hub t h (record p { jobs = jobs }) n given
  answered_with p s jobs n i given same deed a = subst (λ x. HasAnswered {H = H} hub t h (record p { jobs = jobs }) n x) (sym same) (answered p s jobs n i deed a)

module _ (t : Settings) (h : List PeerEvent) (agree : JobsAgree t h) where
  pub awaits : (j : ℕ) (i : Input) → MayAnswer t j i h → AwaitsAnswer (job_happenings t h) j i
  awaits j i may = record {
    live = sym (agree.live j) ∙ may.live;
    asked = ap (λ xs. is_answer (last_of xs) i) (sym (agree.does j)) ∙ is_answered (last_of (acts j h)) i may.handed may.answers;
    unanswered = sym (agree.answers j) ∙ may.unanswered;
  }

  pub unanswerable : (n : ℕ) (i given : Input) → given ≡ i → ((j : ℕ) → n ≡ suc j → AwaitsAnswer (job_happenings t h) j i → ⊥) → IsUnanswerable t h n given
  unanswerable n i given same none j at may = none j at (awaits j i (subst (λ x. MayAnswer t j x h) same may))

  -- ---- whether a job is due

  pub due_turns : MayTurn t h → SomeIsDue (job_happenings t h) → IsPeerDue t h
  due_turns may some = (may, (some.0, agree.due some.0 ∙ some.1))

  pub turns_due : IsPeerDue t h → SomeIsDue (job_happenings t h)
  turns_due due = (due.1.0, sym (agree.due due.1.0) ∙ due.1.1)
