-- A request is handled: where it leads, who is asked, and what is done.
use Rattle.std.proofs.Common.{◌≡◌, ℕ, Bool, true, false, List, [], ◌∷◌, ◌++◌, Option, Some, None, refl, sym, ap, subst, ◌∙◌}
use Rattle.std.specs.Prelude.{is_some, not, unwrap_or, if◌then◌else◌}
use Rattle.std.proofs.lemmas.List.{append-nil}
use Rattle.hw_lanes.specs.declared.http.Request.{Request}
use Rattle.hd_calls.specs.Hubs.{Hub}
use Rattle.hd_rooms.specs.declared.vocabulary.Asked.{Asked}
use Rattle.hd_rooms.specs.declared.vocabulary.Asked.TheVariants as keeper
use Rattle.hd_rooms.specs.Kept.{Content}
use Rattle.hw_door.specs.declared.heard.Event.TheVariants as event
use Rattle.hd_server.specs.declared.vocabulary.Caller.{Caller}
use Rattle.hd_server.specs.declared.vocabulary.Outcome.{Outcome}
use Rattle.hd_server.specs.declared.vocabulary.Outcome.TheVariants.{Refusal, NewToken, PlainSocket, TokenSocket, FirstPoll, NextPoll, LastPoll, Posting, Deletion}
use Rattle.hd_server.specs.declared.vocabulary.Said.{Said}
use Rattle.hd_server.specs.Laws.{LotsMatterToTokens, PartsOfTurns}
use Rattle.hd_server.specs.Lives.{is_busy, life_of_some}
use Rattle.hd_server.specs.Table.{asks_keeper, id_in, outcome}
use Rattle.hd_server.specs.Doings.{ServerEvent, Draws, Learns, asked, draws, may_resume, moment, name_now, notes}
use Rattle.hd_server.specs.Plans.{PendingRequest, Setup, caller_by, conn_of_some, facts, may_resume_some, learning, makes_token, named_conn, onto, plan, questions, request_plan}
use Rattle.hd_server.specs.Serves.{IsDraw}
use Rattle.hub_server.specs.declared.server.Server.{Server}
use Rattle.hub_server.specs.Lanes.{settled}
use Rattle.hub_server.specs.Servers.{IsRested, Standing}
use Rattle.hub_server.specs.Steps.{AddsAll, Outside, CountsDraws, Follows, Handles, HasCome, NoneOverdue, OutsideFollows, outside}
use Rattle.hub_server.specs.Requests.{CarriesOut, IsCaller, IsCarriedOut, MakesToken, asks_who, name_meant}
use Rattle.hub_server.proofs.LaneKept.{standing_learns}
use Rattle.hub_server.proofs.OntoAlike.{onto_append}
use Rattle.hub_server.proofs.StepMute.{Quiet, follows_quiet}
use Rattle.hub_server.proofs.OutcomeCallers.{same_kept, same_told}
use Rattle.hub_server.proofs.OutcomeEntries.{same_draws}

-- ---- nobody is asked

pub went_same : (at : Outside) (h after : List ServerEvent) → Quiet after h → OutsideFollows at at h after
went_same at h after quiet = record {
  asks = [];
  asked_are = quiet.asks ∙ sym (append-nil (asked h));
  told = same_told at.answers;
  kept = same_kept at.holds;
  counted = refl;
  drew = [];
  drawn_are = quiet.draws ∙ sym (append-nil (draws h));
  drawn_told = same_draws at.drawn;
  failed = refl;
}

-- the occasion of a request
abbrev pub pending_request : ℕ → Request → List ServerEvent → PendingRequest
pending_request lane r h = record { now = moment h; lane = lane; request = r }

-- ---- the keeper is asked who calls

-- what holds with and without its answer
pub learned : (P : List ServerEvent → Type 0) (text : Option (List ℕ)) (name : Option (Option (List ℕ))) (h : List ServerEvent) → P h
    → ((t : List ℕ) → P (Learns (keeper.User t name) ∷ h)) → P (onto (learning text name) h)
learned P None name h none one = none
learned P (Some t) name h none one = one t

-- the name is the one that is answered
pub name_learned : (bearer text : Option (List ℕ)) (name : Option (Option (List ℕ))) (who : Caller) (h : List ServerEvent) → name_now h ≡ None
    → who ≡ caller_by text bearer name → name_now (onto (learning text name) h) ≡ name_meant who
name_learned bearer text name who h none is = go bearer text name ∙ sym (ap name_meant is)
  where
    go : (b t : Option (List ℕ)) (n : Option (Option (List ℕ))) → name_now (onto (learning t n) h) ≡ name_meant (caller_by t b n)
    go None None n = none
    go (Some b) None n = none
    go b (Some t) None = none
    go b (Some t) (Some None) = refl
    go b (Some t) (Some (Some n)) = refl

module _ (text : Option (List ℕ)) (name : Option (Option (List ℕ))) (h : List ServerEvent) where
  pub learned_come : (lane : ℕ) (is_last : Bool) → HasCome lane is_last h → HasCome lane is_last (onto (learning text name) h)
  learned_come lane is_last c = learned (HasCome lane is_last) text name h c
      (λ t. record { waits = c.waits; last = c.last; unrefused = c.unrefused; empty = c.empty; nobody = c.nobody })

  pub learned_rested : (c : ℕ) → IsRested c h → IsRested c (onto (learning text name) h)
  learned_rested c r = learned (IsRested c) text name h r (λ t. r)

  pub learned_none : NoneOverdue h → NoneOverdue (onto (learning text name) h)
  learned_none n = learned NoneOverdue text name h n (λ t. n)

  pub learned_moment : moment h ≡ moment (onto (learning text name) h)
  learned_moment = learned (λ (g : List ServerEvent). moment h ≡ moment g) text name h refl (λ t. refl)

  pub learned_notes : notes (onto (learning text name) h) ≡ notes h
  learned_notes = learned (λ (g : List ServerEvent). notes g ≡ notes h) text name h refl (λ t. refl)

  pub learned_draws : draws (onto (learning text name) h) ≡ draws h
  learned_draws = learned (λ (g : List ServerEvent). draws g ≡ draws h) text name h refl (λ t. refl)

pub learned_standing : {H Job : Type 0} (hub : Hub Job) (s : Setup) (before : List Said) (v : Server H Job) (text : Option (List ℕ))
    (name : Option (Option (List ℕ))) (h : List ServerEvent) → Standing {H = H} hub s settled before v h
    → Standing {H = H} hub s settled before v (onto (learning text name) h)
learned_standing {H} {Job} hub s before v text name h st = learned (λ (g : List ServerEvent). Standing {H = H} hub s settled before v g) text name h st
    (λ t. standing_learns {H = H} hub s settled before v (keeper.User t name) h st)

pub learned_asked : (text : Option (List ℕ)) (name : Option (Option (List ℕ))) (h : List ServerEvent) → asked (onto (learning text name) h) ≡ asked h ++
    asks_who text name
learned_asked None name h = sym (append-nil (asked h))
learned_asked (Some t) name h = refl

-- ---- what the table looks at

granted_learns : (o : Option ℕ) (text : Option (List ℕ)) (name : Option (Option (List ℕ))) (h : List ServerEvent)
    → may_resume_some o (onto (learning text name) h) ≡ may_resume_some o h
granted_learns None text name h = refl
granted_learns (Some c) text name h = learned (λ (g : List ServerEvent). may_resume c g ≡ may_resume c h) text name h refl (λ t. refl)

granted_draws : (o : Option ℕ) (drawn : Option (List ℕ)) (h : List ServerEvent) → may_resume_some o (Draws drawn ∷ h) ≡ may_resume_some o h
granted_draws None drawn h = refl
granted_draws (Some c) drawn h = refl

-- it looks at the notes and at what may be resumed
facts_alike : (s : Setup) (now : ℕ) (r : Request) (name : Option (Option (List ℕ))) (failed : Bool) (g h : List ServerEvent) → notes g ≡ notes h
    → may_resume_some (named_conn r h) g ≡ may_resume_some (named_conn r h) h → facts s now r name failed g ≡ facts s now r name failed h
facts_alike s now r name failed g h same granted =
    ap (λ n. record {
      caller = caller_by (asks_keeper s.base r) r.bearer name;
      busy = is_busy s.live now n;
      lots_failed = failed;
      life = life_of_some (conn_of_some (id_in r) n) now n;
      granted = may_resume_some (conn_of_some (id_in r) n) g;
    }) same
    ∙ ap (λ (b : Bool). record {
      caller = caller_by (asks_keeper s.base r) r.bearer name;
      busy = is_busy s.live now (notes h);
      lots_failed = failed;
      life = life_of_some (named_conn r h) now (notes h);
      granted = b;
    }) granted

-- ---- a request is handled

-- an outcome of a request for a token asks for no connection that is there
token_follows : (s : Setup) (o : PendingRequest) (drawn : Option (List ℕ)) (c : ℕ) (h : List ServerEvent) (lucky reconnect : Bool)
    → Follows (request_plan s o drawn c h (if lucky then NewToken reconnect else Refusal 500)) h
    (onto (request_plan s o drawn 0 h (if lucky then NewToken reconnect else Refusal 500)).first h)
token_follows s o drawn c h true reconnect = record
    { fed = onto (request_plan s o drawn 0 h (NewToken reconnect)).first h; feeds = refl; is = refl }
token_follows s o drawn c h false reconnect = record { fed = onto (request_plan s o drawn 0 h (Refusal 500)).first h; feeds = refl; is = refl }

module _ {H Job : Type 0} (hub : Hub Job) (s : Setup) (before : List Said) (new : Server H Job) (lane : ℕ) (r : Request) (h : List ServerEvent)
    (lots : LotsMatterToTokens) (parts : PartsOfTurns) (who : Caller) (holds holds_now : Option Content) (answers answers_now : Option (List Asked)) (faults faults_now : ℕ)
    (told told_now : Option (List (Option (List ℕ)))) (failures failures_now : ℕ)
    (called : IsCaller (asks_keeper s.base r) r.bearer who holds answers faults holds_now answers_now faults_now) where
  -- once the keeper was asked
  abbrev pub known : List ServerEvent
  known = onto (learning (asks_keeper s.base r) called.name) h

  -- what is done, as long as no lots have failed
  abbrev pub decided : List ServerEvent → Outcome
  decided g = outcome s.base r (facts s (moment h) r called.name false g)

  abbrev IsHandledNow : Type 0
  IsHandledNow = Handles {H = H} hub s before new (outside holds answers faults told failures)
      (outside holds_now answers_now faults_now told_now failures_now) (event.Request lane r) h

  known_alike : (failed : Bool) → facts s (moment h) r called.name failed known ≡ facts s (moment h) r called.name failed h
  known_alike failed = facts_alike s (moment h) r called.name failed known h (learned_notes (asks_keeper s.base r) called.name h)
      (granted_learns (named_conn r h) (asks_keeper s.base r) called.name h)

  -- what is asked, by whether lots are
  asked_so : (b : Bool) (drawn : Option (List ℕ)) → makes_token (decided known) ≡ b
      → onto (questions s (moment h) (event.Request lane r) called.name drawn h) h ≡ onto (if b then Draws drawn ∷ [] else []) known
  asked_so b drawn e =
      ap (λ (x : Bool). onto (learning (asks_keeper s.base r) called.name ++ (if x then Draws drawn ∷ [] else [])) h)
      (ap (λ f. makes_token (outcome s.base r f)) (sym (known_alike false)) ∙ e)
      ∙ onto_append (learning (asks_keeper s.base r) called.name) (if b then Draws drawn ∷ [] else []) h

  -- by what was drawn
  handled_by : (drawn : Option (List ℕ)) (b : Bool) (after : List ServerEvent) (drew : List (Option (List ℕ))) → IsDraw drawn
      → makes_token (decided known) ≡ b → draws (onto (if b then Draws drawn ∷ [] else []) known) ≡ draws h ++ drew
      → asked (onto (if b then Draws drawn ∷ [] else []) known) ≡ asked h ++ asks_who (asks_keeper s.base r) called.name
      → Follows (plan s (moment h) (event.Request lane r) called.name drawn (onto (if b then Draws drawn ∷ [] else []) known))
      (onto (if b then Draws drawn ∷ [] else []) known) after
      → Standing {H = H} hub s settled before new after → AddsAll told told_now drew → CountsDraws failures drew failures_now → IsHandledNow
  handled_by drawn b after drew sixteen e drew_so asks_so own st adds counts =
      let g : List ServerEvent = onto (if b then Draws drawn ∷ [] else []) known in
      let quiet : Quiet after g = follows_quiet parts s (event.Request lane r) called.name drawn (moment h) g after own in
      record {
        after = after;
        is_handled = record {
          name = called.name;
          drawn = drawn;
          of_sixteen = sixteen;
          follows = subst (λ (x : List ServerEvent). Follows (plan s (moment h) (event.Request lane r) called.name drawn x) x after)
              (sym (asked_so b drawn e)) own;
        };
        stands = st;
        went = record {
          asks = asks_who (asks_keeper s.base r) called.name;
          asked_are = quiet.asks ∙ asks_so;
          told = called.told;
          kept = called.kept;
          counted = called.counted;
          drew = drew;
          drawn_are = quiet.draws ∙ drew_so;
          drawn_told = adds;
          failed = counts;
        };
      }

  -- no lots are asked
  handled_plainly : (out : Outcome) → out ≡ decided known → makes_token out ≡ false → told_now ≡ told → failures_now ≡ failures
      → IsCarriedOut {H = H} hub s before new (pending_request lane r h) (unwrap_or (named_conn r known) 0) out known → IsHandledNow
  handled_plainly out is tokenless same_drawn same_failures did =
      let none : makes_token (decided known) ≡ false = ap makes_token (sym is) ∙ tokenless in
      let failed : outcome s.base r (facts s (moment h) r called.name true known) ≡ out =
      lots s.base r (facts s (moment h) r called.name false known) refl
      ∙ ap (λ (b : Bool). if b then Refusal 500 else decided known) none ∙ sym is in
      handled_by None false did.after [] tt none
      (learned_draws (asks_keeper s.base r) called.name h ∙ sym (append-nil (draws h))) (learned_asked (asks_keeper s.base r) called.name h)
      (subst (λ (x : Outcome). Follows (request_plan s (pending_request lane r h) None (unwrap_or (named_conn r known) 0) known x) known did.after)
      (sym failed) did.follows) did.stands
      (subst (λ (d : Option (List (Option (List ℕ)))). AddsAll told d []) (sym same_drawn) (same_draws told)) same_failures

  -- a token is asked for
  handled_token : (reconnect : Bool) → NewToken reconnect ≡ decided known
      → MakesToken {H = H} hub s before new (pending_request lane r h) reconnect told failures told_now failures_now known → IsHandledNow
  handled_token reconnect is m =
      let one : makes_token (decided known) ≡ true = ap makes_token (sym is) in
      let g : List ServerEvent = Draws m.drawn ∷ known in
      let lucky : Bool = is_some m.drawn in
      let alike : (failed : Bool) → facts s (moment h) r called.name failed g ≡ facts s (moment h) r called.name failed known =
      λ failed. facts_alike s (moment h) r called.name failed g known refl (granted_draws (named_conn r known) m.drawn known) in
      let fails : outcome s.base r (facts s (moment h) r called.name true known) ≡ Refusal 500 =
      lots s.base r (facts s (moment h) r called.name false known) refl ∙ ap (λ (b : Bool). if b then Refusal 500 else decided known) one in
      let done : outcome s.base r (facts s (moment h) r called.name (not lucky) g) ≡ (if lucky then NewToken reconnect else Refusal 500) =
      ap (outcome s.base r) (alike (not lucky)) ∙ by_luck lucky (λ b. outcome s.base r (facts s (moment h) r called.name b known)) (NewToken reconnect)
      (sym is) fails in
      let c : ℕ = unwrap_or (named_conn r g) 0 in
      let out : Outcome = if lucky then NewToken reconnect else Refusal 500 in
      let after : List ServerEvent = onto (request_plan s (pending_request lane r h) m.drawn 0 g out).first g in
      handled_by m.drawn true after (m.drawn ∷ []) m.of_sixteen one
      (ap (λ (xs : List (Option (List ℕ))). xs ++ m.drawn ∷ []) (learned_draws (asks_keeper s.base r) called.name h))
      (learned_asked (asks_keeper s.base r) called.name h)
      (subst (λ (x : Outcome). Follows (request_plan s (pending_request lane r h) m.drawn c g x) g after) (sym done)
      (token_follows s (pending_request lane r h) m.drawn c g lucky reconnect)) m.stands m.drawn_told m.failed
    where
      by_luck : (b : Bool) (f : Bool → Outcome) (x : Outcome) → f false ≡ x → f true ≡ Refusal 500 → f (not b) ≡ (if b then x else Refusal 500)
      by_luck true f x e g = e
      by_luck false f x e g = g

  -- what was decided is carried out
  pub handled : (out : Outcome) → out ≡ decided known
      → CarriesOut {H = H} hub s before new (pending_request lane r h) (unwrap_or (named_conn r known) 0) told failures told_now failures_now known out
      → IsHandledNow
  handled (Refusal status) is did = handled_plainly (Refusal status) is refl did.0 did.1 did.2
  handled (NewToken reconnect) is did = handled_token reconnect is did
  handled PlainSocket is did = handled_plainly PlainSocket is refl did.0 did.1 did.2
  handled TokenSocket is did = handled_plainly TokenSocket is refl did.0 did.1 did.2
  handled FirstPoll is did = handled_plainly FirstPoll is refl did.0 did.1 did.2
  handled NextPoll is did = handled_plainly NextPoll is refl did.0 did.1 did.2
  handled LastPoll is did = handled_plainly LastPoll is refl did.0 did.1 did.2
  handled Posting is did = handled_plainly Posting is refl did.0 did.1 did.2
  handled Deletion is did = handled_plainly Deletion is refl did.0 did.1 did.2
