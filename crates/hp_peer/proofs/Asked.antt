-- A peer after what its user asked of it, and why nothing was said.
use Rattle.std.proofs.Common.{◌≡◌, ◌⊎◌, inl, inr, ◌≤◌, ◌<◌, ◌+◌, ℕ, suc, Bool, true, false, List, [], ◌∷◌, Option, Some, None, refl, sym, ap, ◌∙◌, subst, arith}
use Rattle.std.specs.Prelude.{◌==◌, ◌&&◌, not, option_map, if◌then◌else◌}
use Rattle.std.proofs.lemmas.Bool.{eqb-true}
use Rattle.hv_value.specs.Tree.{Tree}
use Rattle.hv_value.specs.declared.value.Value.{Value}
use Rattle.hm_message.specs.declared.message.Message.{Message}
use Rattle.hm_message.specs.declared.message.Message.TheVariants.{CancelInvocation}
use Rattle.hm_message.specs.Laws.{ImageIsAsDeep}
use Rattle.hm_message.specs.Message.{Fits}
use Rattle.hm_codec.specs.Frames.{said_again}
use Rattle.hd_delivery.specs.Bytes.{Does, sizes_of}
use Rattle.hd_delivery.specs.Histories.{Sent}
use Rattle.hd_delivery.specs.Sending as sending
use Rattle.hd_delivery.specs.Sending.{SendRefusal, IsRefusedToSend}
use Rattle.he_end.specs.declared.end.End.{End}
use Rattle.he_end.specs.declared.errors.SendError.{SendError}
use Rattle.he_end.specs.declared.errors.SendError.TheVariants as send
use Rattle.he_end.specs.Stands as end_stands
use Rattle.he_end.specs.Stands.{limits_of}
use Rattle.he_end.specs.Calls as end_calls
use Rattle.hd_calls.specs.declared.vocabulary.CallKind.{CallKind}
use Rattle.hd_calls.specs.declared.vocabulary.CallKind.TheVariants as kind
use Rattle.hd_calls.specs.Numbers.{most_live, most_uploads, most_numbers}
use Rattle.hd_calls.specs.Hubs.{Hub, Invoked, Answer, Item, End as Ends, arguments_in, value_in, message_of, answer_message}
use Rattle.hd_calls.specs.Ids.{prefix_of}
use Rattle.hd_calls.specs.Laws.{TablesAgree}
use Rattle.hd_calls.specs.Peers.{PeerEvent, Calls, Uploads, Cancels, Settings, asker_of, byte_steps, call_of, codec, drawn, given, has_end, has_id, live_call, live_upload, lost, steps, waiting}
use Rattle.hd_calls.specs.Rules.{CallRefusal, Unknown, TooDeep, Unsent, HasPlace, IsRefusedCall, IsRefusedUpload, IsRefusedCancel, MadeAs, MayCall, MayMove, asking, is_upload, new_live, new_numbers}
use Rattle.hd_calls.specs.Tables.{call_happenings, drawn_in, job_happenings, live_call_in, live_upload_in}
use Rattle.hi_calls.specs.declared.calls.Calls as table
use Rattle.hi_calls.specs.declared.errors.CallError.{CallError}
use Rattle.hi_calls.specs.declared.errors.CallError.TheVariants as refused
use Rattle.hi_calls.specs.Stands as of_calls
use Rattle.hi_calls.specs.Calls as call
use Rattle.hi_calls.specs.Calls.{IsUnmade, IsRefusedIn, upload_ending}
use Rattle.hi_calls.specs.Laws.{CallsAreMade, IdsAreOfASide}
use Rattle.hi_calls.specs.Numbering.{HasPlaceIn, call_after, call_numbered, id_with, next_call, next_number, number_after}
use Rattle.hj_jobs.specs.Stands as of_jobs
use Rattle.hp_peer.specs.declared.errors.AskError.{AskError}
use Rattle.hp_peer.specs.declared.errors.AskError.TheVariants as ask
use Rattle.hp_peer.specs.declared.peer.Peer.{Peer}
use Rattle.hp_peer.specs.Asking.{of_end, of_table}
use Rattle.hp_peer.specs.Calling.{HasCalled, HasCause, IsOfEnd, IsUncalled, heard_call, upload_end, upload_item}
use Rattle.hp_peer.specs.Parts as part
use Rattle.hp_peer.specs.Parts.{EndStays, HasSaid, IsUnsaid}
use Rattle.hp_peer.specs.Stands.{IsCounted, Stands, live_asker}
use Rattle.hp_peer.proofs.Images.{call_again, cancel_again, end_again, fits_again, fits_before, item_again}

-- ---- who asked for a new call

none_both : {A : Type 0} (b : Bool) → ◌≡◌ {A = Option A} (if b then None else None) None
none_both true = refl
none_both false = refl

-- at the number of the call or at another one
asker_with : (here : Bool) (c : Invoked) (k : ℕ) (h : List PeerEvent) → (here ≡ true → has_id (call_of k h) ≡ false)
    → ◌≡◌ {A = Option ℕ} (if has_id (if here then Some c else call_of k h) && (not (has_end (given k h)) && not (lost k h))
    then option_map suc (if here then None else asker_of k h) else None) (live_asker k h)
asker_with true c k h dead = none_both (has_id (Some c) && (not (has_end (given k h)) && not (lost k h)))
    ∙ ap (λ b. if b && (not (has_end (given k h)) && not (lost k h)) then option_map suc (asker_of k h) else None) (sym (dead refl))
asker_with false c k h dead = refl

-- nobody asked for a call that the user makes
asker_new : (n : ℕ) (c : Invoked) (h : List PeerEvent) → has_id (call_of n h) ≡ false → (k : ℕ) → live_asker k (Calls None n c ∷ h) ≡ live_asker k h
asker_new n c h dead k = asker_with (k == n) c k h (λ e. subst (λ x. has_id (call_of x h) ≡ false) (sym (eqb-true k n e)) dead)

zero_or_next : (last : ℕ) (b : Bool) → let n : ℕ = if b then 0 else suc last in (n ≡ 0) ⊎ (n ≡ suc last)
zero_or_next last true = inl refl
zero_or_next last false = inr refl

number_cases : (k : CallKind) (uploads last : ℕ) → (number_after k uploads last ≡ 0) ⊎ (number_after k uploads last ≡ suc last)
number_cases kind.Notify uploads last = zero_or_next last (uploads == 0)
number_cases kind.Call uploads last = inr refl
number_cases kind.Stream uploads last = inr refl

-- how many numbers a call draws doesn't depend on its arguments
draws_as_many : (prefix : List ℕ) (n : ℕ) (k : CallKind) (target : List ℕ) (own heard : List Tree) (uploads : ℕ)
    → new_numbers (call_numbered prefix n k target own uploads).way (call_numbered prefix n k target own uploads)
    ≡ new_numbers (call_numbered prefix n k target heard uploads).way (call_numbered prefix n k target heard uploads)
draws_as_many prefix n kind.Notify target own heard uploads = refl
draws_as_many prefix n kind.Call target own heard uploads = refl
draws_as_many prefix n kind.Stream target own heard uploads = refl

is_upload-ending : (error : Option (List ℕ)) → is_upload (Ends (upload_ending error)) ≡ true
is_upload-ending None = refl
is_upload-ending (Some text) = refl

-- ---- an end that sent nothing

pub stays_itself : (e : End) → EndStays e e
stays_itself e wire c h s = s

-- it didn't say the message, which fits
pub unsent_is : (old new : End) (m : Message) (e : SendError) → Fits m → end_calls.RefusesToSend old new m e → IsUnsaid old m (of_end e)
unsent_is old new m send.Opening fits why = (fits, ((λ is. cc), why.0))
unsent_is old new m send.Closed fits why = (fits, ((λ is. cc), why.0))
unsent_is old new m (send.TooLong size) fits why = (fits, ((λ is. cc), why.0))
unsent_is old new m (send.Full held bytes size) fits why = (fits, ((λ is. cc), why.0))
unsent_is old new m send.Exhausted fits why = (fits, ((λ is. cc), why.0))
unsent_is old new m send.NoMemory fits why = tt

-- ---- refusals of the table

pub unmade : (Why : CallRefusal → Type 0) (live : Bool) → (live ≡ false → Why Unknown) → (e : CallError) → IsUnmade live e → HasCause Why (of_table e)
unmade Why live unknown refused.UnknownId why = unknown why
unmade Why live unknown refused.NoMemory why = tt
unmade Why live unknown refused.TooMany why = absurd why
unmade Why live unknown refused.Spent why = absurd why

-- the peer with this end and this table of calls
abbrev pub with_parts : {H Job : Type 0} → Peer H Job → End → table.Calls → Peer H Job
with_parts p e c = record p { end = e; calls = c }

module _ {H Job : Type 0} (hub : Hub Job) (t : Settings) (old : Peer H Job) (h : List PeerEvent) (s : Stands hub t old h) where
  -- ---- a move that is said

  -- its end and its table of calls stand for a move that concerns nothing else
  moved : (e : End) (c : table.Calls) (d : PeerEvent) → limits_of e ≡ limits_of old.end → end_stands.Stands t.wire t.config e (byte_steps t (d ∷ h))
      → of_calls.Stands c (prefix_of t.config.side) (call_happenings (d ∷ h)) → job_happenings t (d ∷ h) ≡ job_happenings t h
      → waiting (d ∷ h) ≡ waiting h → ((n : ℕ) → live_asker n (d ∷ h) ≡ live_asker n h) → MayMove hub t h d → asking (d ∷ h) ≡ None
      → Stands hub t (with_parts old e c) (d ∷ h)
  moved e c d limits end calls jobs waits jobs_by_call may asks = record {
    names = s.names;
    limits = s.limits ∙ sym limits;
    end = end;
    calls = calls;
    jobs = subst (λ x. of_jobs.Stands hub old.jobs t.who x) (sym jobs) s.jobs;
    who = s.who;
    waits = s.waits ∙ sym waits;
    counted = subst IsCounted (sym waits) s.counted;
    jobs_by_call = λ n. s.jobs_by_call n ∙ sym (jobs_by_call n);
    follows = (s.follows, may);
    prompt = (s.prompt, inl s.settled);
    settled = asks;
  }

  -- its parts stand for what they stood for
  pub unmoved : (e : End) (c : table.Calls) → limits_of e ≡ limits_of old.end → end_stands.Stands t.wire t.config e (byte_steps t h)
      → of_calls.Stands c (prefix_of t.config.side) (call_happenings h) → Stands hub t (with_parts old e c) h
  unmoved e c limits end calls = record {
    names = s.names;
    limits = s.limits ∙ sym limits;
    end = end;
    calls = calls;
    jobs = s.jobs;
    who = s.who;
    waits = s.waits;
    counted = s.counted;
    jobs_by_call = s.jobs_by_call;
    follows = s.follows;
    prompt = s.prompt;
    settled = s.settled;
  }

  -- nothing was said
  pub unsaid_stays : (new : Peer H Job) → new ≡ record old { end = new.end } → limits_of new.end ≡ limits_of old.end → EndStays old.end new.end → Stands hub t new h
  unsaid_stays new is limits stays = subst (λ p. Stands hub t p h) (sym is) (unmoved new.end old.calls limits (stays t.wire t.config (byte_steps t h) s.end) s.calls)

  -- the end stands for one more message, as it is read
  sent : (e : End) (m read : Message) (number : ℕ) → end_calls.Sends old.end e m number → said_again (codec t h) m ≡ read
      → end_stands.Stands t.wire t.config e (Does (Sent read) ∷ byte_steps t h)
  sent e m read number sends is =
      subst (λ x. end_stands.Stands t.wire t.config e (Does (Sent x) ∷ byte_steps t h)) is (sends t.wire t.config (byte_steps t h) s.end).2

  -- ---- refusals of the end

  -- the end's refusal is one of what is read
  recast : (m read : Message) → said_again (codec t h) m ≡ read → (why : SendRefusal)
      → IsRefusedToSend (limits_of old.end) (sizes_of t.wire) t.config (steps t h) (said_again (codec t h) m) why
      → IsRefusedToSend t.limits (sizes_of t.wire) t.config (steps t h) read why
  recast m read is why x =
      subst (λ l. IsRefusedToSend l (sizes_of t.wire) t.config (steps t h) read why) (sym s.limits)
      (subst (λ r. IsRefusedToSend (limits_of old.end) (sizes_of t.wire) t.config (steps t h) r why) is x)

  module _ (Why : CallRefusal → Type 0) (m read : Message) (is : said_again (codec t h) m ≡ read) (on : Fits m → Fits read) (back : Fits read → Fits m)
      (deep : (Fits read → ⊥) → Why TooDeep)
      (unsent : (why : SendRefusal) → Fits read × IsRefusedToSend t.limits (sizes_of t.wire) t.config (steps t h) read why → Why (Unsent why)) where
    of_end_is : (e : SendError) → Fits m × part.IsUnsent old.end m e → IsOfEnd Why e
    of_end_is send.Opening why = unsent sending.Opening (on why.0, recast m read is sending.Opening (why.1.1 t.wire t.config (byte_steps t h) s.end))
    of_end_is send.Closed why = unsent sending.Closed (on why.0, recast m read is sending.Closed (why.1.1 t.wire t.config (byte_steps t h) s.end))
    of_end_is (send.TooLong size) why = unsent (sending.TooLong size) (on why.0, recast m read is (sending.TooLong size) (why.1.1 t.wire t.config (byte_steps t h) s.end))
    of_end_is (send.Full held bytes size) why =
        unsent (sending.Full held bytes size) (on why.0, recast m read is (sending.Full held bytes size) (why.1.1 t.wire t.config (byte_steps t h) s.end))
    of_end_is send.Exhausted why = unsent sending.Exhausted (on why.0, recast m read is sending.Exhausted (why.1.1 t.wire t.config (byte_steps t h) s.end))
    of_end_is send.NoMemory why = absurd (why.1.0 refl)

    -- why a message isn't said
    pub unsaid : (e : AskError) → IsUnsaid old.end m e → HasCause Why e
    unsaid (ask.Calls e) why = absurd why
    unsaid ask.TooDeep why = deep (λ fits. why (back fits))
    unsaid (ask.Send e) why = of_end_is e why
    unsaid ask.NoMemory why = tt

  module _ (agree : TablesAgree) (ids : IdsAreOfASide) where
    name_is : (n : ℕ) → t.name n ≡ id_with (prefix_of t.config.side) n
    name_is n = s.names n ∙ ids t.config.side n

    -- ---- a cancellation

    module _ (n : ℕ) (m : Message) (made : call.Cancels old.calls (prefix_of t.config.side) (call_happenings h) n m) where
      cancel_live : live_call n h ≡ true
      cancel_live = (agree t h).0.live n ∙ made.live

      cancel_is : m ≡ CancelInvocation [] (t.name n)
      cancel_is = made.says ∙ ap (λ i. CancelInvocation [] i) (sym (name_is n))

      cancel_read : said_again (codec t h) m ≡ CancelInvocation [] (t.name n)
      cancel_read = ap (λ x. said_again (codec t h) x) cancel_is ∙ cancel_again (codec t h) (t.name n)

      pub cancels : (new : Peer H Job) → new ≡ record old { end = new.end } → limits_of new.end ≡ limits_of old.end → HasSaid old new m
          → Stands hub t new (Cancels n ∷ h)
      cancels new is limits said = subst (λ p. Stands hub t p (Cancels n ∷ h)) (sym is)
          (moved new.end old.calls (Cancels n) limits (sent new.end m (CancelInvocation [] (t.name n)) said.number said.sends cancel_read)
          made.stands refl refl (λ k. refl) cancel_live refl)

      pub uncancelled : (e : AskError) → IsUnsaid old.end m e → HasCause (IsRefusedCancel t h n) e
      uncancelled e why = unsaid (IsRefusedCancel t h n) m (CancelInvocation [] (t.name n)) cancel_read (subst Fits cancel_is) (subst Fits (sym cancel_is))
          (λ deep. (cancel_live, deep)) (λ x unsent. (cancel_live, unsent)) e why

    pub uncancellable : (n : ℕ) (e : CallError) → IsUnmade (live_call_in n (call_happenings h)) e → HasCause (IsRefusedCancel t h n) (of_table e)
    uncancellable n e why = unmade (IsRefusedCancel t h n) (live_call_in n (call_happenings h)) (λ dead. (agree t h).0.live n ∙ dead) e why

    -- ---- an upload

    module _ (n w : ℕ) (own : Answer) (m : Message) (made : call.Uploads (prefix_of t.config.side) (call_happenings h) n w own m) where
      upload_live : live_upload n w h ≡ true
      upload_live = (agree t h).0.live_uploads n w ∙ made.live

      upload_is : m ≡ answer_message (t.name (suc (n + w))) own
      upload_is = made.says ∙ ap (λ i. answer_message i own) (sym (name_is (suc (n + w))))

      module _ (a : Answer) (read : said_again (codec t h) (answer_message (t.name (suc (n + w))) own) ≡ answer_message (t.name (suc (n + w))) a) where
        upload_read : said_again (codec t h) m ≡ answer_message (t.name (suc (n + w))) a
        upload_read = ap (λ x. said_again (codec t h) x) upload_is ∙ read

        pub uploads : is_upload a ≡ true → (new : Peer H Job) (e : End) (c : table.Calls) → new ≡ with_parts old e c → limits_of e ≡ limits_of old.end
            → (number : ℕ) → end_calls.Sends old.end e m number
            → of_calls.Stands c (prefix_of t.config.side) (call_happenings (Uploads n w a ∷ h)) → Stands hub t new (Uploads n w a ∷ h)
        uploads allowed new e c is limits number sends calls = subst (λ p. Stands hub t p (Uploads n w a ∷ h)) (sym is)
            (moved e c (Uploads n w a) limits (sent e m (answer_message (t.name (suc (n + w))) a) number sends upload_read)
            calls refl refl (λ k. refl) (upload_live, allowed) refl)

        pub unuploaded : (Fits m → Fits (answer_message (t.name (suc (n + w))) a)) → (Fits (answer_message (t.name (suc (n + w))) a) → Fits m)
            → (e : AskError) → IsUnsaid old.end m e → HasCause (IsRefusedUpload t h n w a) e
        unuploaded on back e why = unsaid (IsRefusedUpload t h n w a) m (answer_message (t.name (suc (n + w))) a) upload_read on back
            (λ deep. (upload_live, deep)) (λ x unsent. (upload_live, unsent)) e why

    pub unuploadable : (n w : ℕ) (a : Answer) (e : CallError) → IsUnmade (live_upload_in n w (call_happenings h)) e → HasCause (IsRefusedUpload t h n w a) (of_table e)
    unuploadable n w a e why =
        unmade (IsRefusedUpload t h n w a) (live_upload_in n w (call_happenings h)) (λ dead. (agree t h).0.live_uploads n w ∙ dead) e why

    module _ (n w : ℕ) (v : Value) (m : Message) (made : call.Uploads (prefix_of t.config.side) (call_happenings h) n w (Item v) m) where
      pub item_is_uploaded : (new : Peer H Job) → new ≡ record old { end = new.end } → limits_of new.end ≡ limits_of old.end → HasSaid old new m
          → call.TakesItem old.calls (prefix_of t.config.side) (call_happenings h) n w → Stands hub t new (Uploads n w (upload_item t h v) ∷ h)
      item_is_uploaded new is limits said takes =
          uploads n w (Item v) m made (upload_item t h v) (item_again (codec t h) (t.name (suc (n + w))) v) refl new new.end old.calls is limits said.number said.sends
          (takes (value_in (codec t h) v))

      pub item_is_unuploaded : ImageIsAsDeep → (e : AskError) → IsUnsaid old.end m e → HasCause (IsRefusedUpload t h n w (upload_item t h v)) e
      item_is_unuploaded law e why =
          let id = t.name (suc (n + w)) in
          let read = upload_read n w (Item v) m made (upload_item t h v) (item_again (codec t h) id v) in
          unuploaded n w (Item v) m made (upload_item t h v) (item_again (codec t h) id v)
          (fits_again law (codec t h) m (answer_message id (upload_item t h v)) read) (fits_before law (codec t h) m (answer_message id (upload_item t h v)) read) e why

    module _ (n w : ℕ) (error : Option (List ℕ)) (m : Message)
        (made : call.Uploads (prefix_of t.config.side) (call_happenings h) n w (upload_end error) m) where
      pub end_is_uploaded : (mid : Peer H Job) → mid ≡ record old { end = mid.end } → limits_of mid.end ≡ limits_of old.end → HasSaid old mid m → (c : table.Calls)
          → call.OfEach mid.calls (λ prefix g. live_upload_in n w g ≡ true → call.UploadEnds c prefix g n w)
          → Stands hub t (record mid { calls = c }) (Uploads n w (upload_end error) ∷ h)
      end_is_uploaded mid is limits said c ends =
          uploads n w (upload_end error) m made (upload_end error) (end_again (codec t h) (t.name (suc (n + w))) error) (is_upload-ending error)
          (record mid { calls = c }) mid.end c (ap (λ (p : Peer H Job). record p { calls = c }) is) limits said.number said.sends
          (ends (prefix_of t.config.side) (call_happenings h) (subst (λ p. of_calls.Stands p.calls (prefix_of t.config.side) (call_happenings h)) (sym is) s.calls)
          made.live (upload_ending error) (is_upload-ending error))

      pub end_is_unuploaded : (e : AskError) → IsUnsaid old.end m e → HasCause (IsRefusedUpload t h n w (upload_end error)) e
      end_is_unuploaded e why =
          let same = upload_is n w (upload_end error) m made in
          unuploaded n w (upload_end error) m made (upload_end error) (end_again (codec t h) (t.name (suc (n + w))) error)
          (subst Fits same) (subst Fits (sym same)) e why

    -- ---- a call

    draws : drawn h ≡ drawn_in (call_happenings h)
    draws = (agree t h).0.draws

    -- 0 and what wasn't drawn yet are the numbers of no call with an id
    no_call : (n : ℕ) → (n ≡ 0) ⊎ (n ≡ suc (drawn h)) → has_id (call_of n h) ≡ false
    no_call n (inl zero_is) = ap (λ x. has_id (call_of x h)) zero_is ∙ ap has_id ((agree t h).0.call 0) ∙ s.calls.bare.0
    no_call n (inr next_is) =
        let above : drawn_in (call_happenings h) < suc (drawn h) = (let d = draws in omega arith) in
        ap (λ x. has_id (call_of x h)) next_is ∙ ap has_id ((agree t h).0.call (suc (drawn h)) ∙ (s.calls.fresh (suc (drawn h)) above).uncalled)

    module _ (made : CallsAreMade) (k : CallKind) (target : List ℕ) (arguments : List Tree) (uploads : ℕ) (few : uploads ≤ most_uploads) where
      -- what the other end reads
      abbrev heard : Invoked
      heard = heard_call t h k target arguments uploads

      -- the numbers that the table sees drawn with the call are those that the peer sees drawn with what is heard
      numbers_are : drawn_in (call_happenings h) + new_numbers (call_after (prefix_of t.config.side) (drawn h) k target arguments uploads).way
          (call_after (prefix_of t.config.side) (drawn h) k target arguments uploads) ≡ drawn h + new_numbers heard.way heard
      numbers_are = λ i. sym draws i + draws_as_many (prefix_of t.config.side) (number_after k uploads (drawn h)) k target arguments
          (arguments_in (codec t h) arguments) uploads i

      has_place : HasPlaceIn (next_call (prefix_of t.config.side) (call_happenings h) k target arguments uploads) (call_happenings h) → HasPlace heard h
      has_place place =
          let there = subst (λ d. HasPlaceIn (call_after (prefix_of t.config.side) d k target arguments uploads) (call_happenings h)) (sym draws) place in
          record {
            few_live = subst (λ x. x + new_live heard ≤ most_live) (sym (agree t h).0.own) there.few_live;
            few_numbers = subst (λ x. x ≤ most_numbers) numbers_are there.few_numbers;
          }

      pub uncallable : (e : CallError) → IsRefusedIn (next_call (prefix_of t.config.side) (call_happenings h) k target arguments uploads) (call_happenings h) e
          → IsUncalled t h k target arguments uploads (of_table e)
      uncallable e why =
          unplaced e (subst (λ d. IsRefusedIn (call_after (prefix_of t.config.side) d k target arguments uploads) (call_happenings h) e) (sym draws) why)
        where
          unplaced : (e : CallError) → IsRefusedIn (call_after (prefix_of t.config.side) (drawn h) k target arguments uploads) (call_happenings h) e
              → IsUncalled t h k target arguments uploads (of_table e)
          unplaced refused.TooMany why = subst (λ x. most_live < x + new_live heard) (sym (agree t h).0.own) why
          unplaced refused.Spent why = (
            subst (λ x. x + new_live heard ≤ most_live) (sym (agree t h).0.own) why.0,
            subst (λ x. most_numbers < x) numbers_are why.1,
          )
          unplaced refused.UnknownId why = absurd why
          unplaced refused.NoMemory why = tt

      module _ (c : table.Calls) (n : ℕ) (m : Message)
          (begins : call.Begins c (prefix_of t.config.side) (call_happenings h) (next_call (prefix_of t.config.side) (call_happenings h) k target arguments uploads)
          (next_number k uploads (call_happenings h)) n m) where
        -- the same, by the moves
        begun : call.Begins c (prefix_of t.config.side) (call_happenings h) (call_after (prefix_of t.config.side) (drawn h) k target arguments uploads)
            (number_after k uploads (drawn h)) n m
        begun = subst (λ d. call.Begins c (prefix_of t.config.side) (call_happenings h) (call_after (prefix_of t.config.side) d k target arguments uploads)
            (number_after k uploads d) n m) (sym draws) begins

        call_read : said_again (codec t h) m ≡ message_of heard
        call_read = ap (λ x. said_again (codec t h) x) begun.says
            ∙ call_again (codec t h) (prefix_of t.config.side) (number_after k uploads (drawn h)) k target arguments uploads

        may_call : MayCall t None n heard h
        may_call =
            let law = made t (prefix_of t.config.side) (drawn h) k target (arguments_in (codec t h) arguments) uploads name_is in
            record {
              made = subst (λ x. MadeAs t (drawn h) x heard.way heard) (sym begun.next) law.0;
              few_uploads = subst (λ x. x ≤ most_uploads) (sym law.1) few;
              place = has_place begins.place;
              asked = tt;
            }

        dead : has_id (call_of n h) ≡ false
        dead = no_call n (subst (λ x. (x ≡ 0) ⊎ (x ≡ suc (drawn h))) (sym begun.next) (number_cases k uploads (drawn h)))

        pub called : (new : Peer H Job) → new ≡ with_parts old new.end c → limits_of new.end ≡ limits_of old.end → (number : ℕ)
            → end_calls.Sends old.end new.end m number → HasCalled hub t h new k target arguments uploads n
        called new is limits number sends = record {
          number_is = begun.next;
          stands = subst (λ p. Stands hub t p (Calls None n heard ∷ h)) (sym is)
              (moved new.end c (Calls None n heard) limits (sent new.end m (message_of heard) number sends call_read)
              (begun.stands heard refl refl) refl refl (asker_new n heard h dead) may_call refl);
        }

        pub uncalled : ImageIsAsDeep → (e : AskError) → IsUnsaid old.end m e → IsUncalled t h k target arguments uploads e
        uncalled law e why = unsaid (IsRefusedCall t h heard) m (message_of heard) call_read
            (fits_again law (codec t h) m (message_of heard) call_read) (fits_before law (codec t h) m (message_of heard) call_read)
            (λ deep. (has_place begins.place, deep)) (λ x unsent. (has_place begins.place, unsent)) e why

        -- the call is taken back
        pub undone : (mid : Peer H Job) → mid ≡ with_parts old mid.end c → limits_of mid.end ≡ limits_of old.end → EndStays old.end mid.end
            → (back : table.Calls) → call.Undoes mid.calls back → Stands hub t (record mid { calls = back }) h
        undone mid is limits stays back undoes = subst (λ p. Stands hub t (record p { calls = back }) h) (sym is)
            (unmoved mid.end back limits (stays t.wire t.config (byte_steps t h) s.end)
            ((subst (λ p. call.Undoes p.calls back) is undoes) old.calls (prefix_of t.config.side) (call_happenings h) k target arguments uploads n m s.calls few begins))
