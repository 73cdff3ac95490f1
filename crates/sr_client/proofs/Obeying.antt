-- What the client's peer does of a line of its script, as the definitions compute it.
use Rattle.std.proofs.Common.{◌≡◌, ◌≤◌, ◌+◌, inl, inr, ℕ, zero, suc, true, false, List, [], ◌∷◌, ◌++◌, codes, Option, Some, None, refl, sym, ◌∙◌, ap, subst, arith, true≢false}
use Rattle.std.specs.Prelude.{IfSome, nat_eq, if◌then◌else◌}
use Rattle.hv_value.specs.Tree.{Tree}
use Rattle.hv_value.specs.View.{tree}
use Rattle.hv_value.specs.declared.value.Value.{Value}
use Rattle.hm_message.specs.Laws.{ValuesAreTrees}
use Rattle.hm_message.specs.Message.{value_of}
use Rattle.hm_message.specs.declared.message.Message.TheVariants.{CancelInvocation}
use Rattle.hd_delivery.specs.Worlds.{MaySend}
use Rattle.hd_delivery.specs.Sending as sending
use Rattle.hd_delivery.specs.Bytes.{sizes_of}
use Rattle.hd_delivery.specs.OneHistory.{IsHistory}
use Rattle.hd_calls.specs.declared.vocabulary.CallKind.{CallKind}
use Rattle.hd_calls.specs.declared.vocabulary.CallKind.TheVariants as kind
use Rattle.hd_calls.specs.Hubs.{answer_message, Way, Notify, Call as Calling, Stream, Answer, Invoked, arguments_in, message_of}
use Rattle.hd_calls.specs.Ids.{digits_of, prefix_of}
use Rattle.hd_calls.specs.Peers.{PeerEvent, Calls, Uploads, Cancels, Settings, byte_steps, codec, drawn, steps}
use Rattle.hd_calls.specs.Rules.{CallRefusal, TooManyLive, Spent, Unknown, TooDeep, Unsent, names}
use Rattle.he_end.specs.declared.errors.SendError.TheVariants as send
use Rattle.hi_calls.specs.declared.errors.CallError.TheVariants as table
use Rattle.hi_calls.specs.Numbering.{ids_after, number_after}
use Rattle.hp_peer.specs.declared.errors.AskError.{AskError}
use Rattle.hp_peer.specs.declared.errors.AskError.TheVariants as ask
use Rattle.hp_peer.specs.Calling.{HasCalled, HasCause, heard_call}
use Rattle.hp_peer.specs.Stands.{Stands}
use Rattle.hp_peer.specs.Words.{ask_words}
use Rattle.hm_message.specs.declared.message.Ending.{Ending}
use Rattle.hp_peer.specs.declared.peer.Peer.{Peer}
use Rattle.hub_calc.specs.declared.client.ClientHub.{ClientHub}
use Rattle.hub_calc.specs.Client.{client_hub}
use Rattle.hd_client.specs.Laws.{AllReasonsAreComputed}
use Rattle.hd_client.specs.declared.order.Order.{Order}
use Rattle.hd_client.specs.declared.order.Order.TheVariants.{Call}
use Rattle.hd_client.specs.Events.{ClientEvent, closed_itself, moves}
use Rattle.hd_client.specs.Refusals.{call_refusal, cancel_refusal, next_call, number_of, upload_refusal}
use Rattle.hd_client.specs.Plans.{attempt, doing}
use Rattle.hd_client.specs.Printed.{counted, line, move_line}
use Rattle.sr_client.specs.declared.orders.Obeyed.{Obeyed}
use Rattle.sr_client.specs.declared.orders.Obeyed.TheVariants.{Waits, Passed, Loses}
use Rattle.sr_client.specs.declared.peer.ClientPeer.{ClientPeer}
use Rattle.sr_client.specs.Lines.{json_words}
use Rattle.sr_client.specs.Grammar.{HasFewUploads}
use Rattle.sr_client.specs.Peers.{Plays}
use Rattle.sr_client.specs.Obeying.{Declared, EndsItsUploads, Moved, Obeys, Refused, Tries, UploadsHaveCalls, is_full, refusal_of}
use Rattle.sr_client.proofs.Quiet.{is_quiet, plays_quiet, quiet_move, quiet_moves, stays_there}

-- ---- the call of an order

ids_are_names : (t : Settings) (n uploads : ℕ) → ((k : ℕ) → t.name k ≡ prefix_of t.config.side ++ digits_of k)
    → ids_after (prefix_of t.config.side) n uploads ≡ names t (suc n) uploads
ids_are_names t n zero ids = refl
ids_are_names t n (suc uploads) ids =
    ap (λ (i : List ℕ). i ∷ ids_after (prefix_of t.config.side) (suc n) uploads) (sym (ids (suc n)))
    ∙ ap (λ (is : List (List ℕ)). t.name (suc n) ∷ is) (ids_are_names t (suc n) uploads ids)

-- a number that isn't 0
no_zero : (n : ℕ) → nat_eq (suc n) 0 ≡ false
no_zero n = grind (arith)

module _ (t : Settings) (h : List PeerEvent) (target : List ℕ) (arguments : List Tree) (ids : (k : ℕ) → t.name k ≡ prefix_of t.config.side ++ digits_of k) where
  -- called in this way, with these uploads
  abbrev called_by : Way → List (List ℕ) → Invoked
  called_by way streams = record { way = way; target = target; arguments = arguments_in (codec t h) arguments; streams = streams }

  -- the call that is made is the one that the definitions compute
  pub same_call : (k : CallKind) (uploads : ℕ) → heard_call t h k target arguments uploads ≡ next_call t h k target arguments uploads
  same_call kind.Notify zero = refl
  same_call kind.Notify (suc uploads) =
      ap (λ b. called_by Notify (ids_after (prefix_of t.config.side) (if b then 0 else suc (drawn h)) (suc uploads))) (no_zero uploads)
      ∙ ap (λ ss. called_by Notify ss) (ids_are_names t (suc (drawn h)) (suc uploads) ids)
  same_call kind.Call uploads =
      ap (λ i. called_by (Calling i) (ids_after (prefix_of t.config.side) (suc (drawn h)) uploads)) (sym (ids (suc (drawn h))))
      ∙ ap (λ ss. called_by (Calling (t.name (suc (drawn h)))) ss) (ids_are_names t (suc (drawn h)) uploads ids)
  same_call kind.Stream uploads =
      ap (λ i. called_by (Stream i) (ids_after (prefix_of t.config.side) (suc (drawn h)) uploads)) (sym (ids (suc (drawn h))))
      ∙ ap (λ ss. called_by (Stream (t.name (suc (drawn h)))) ss) (ids_are_names t (suc (drawn h)) uploads ids)

  -- and its uploads end with it
  pub ends_its_uploads : (k : CallKind) (uploads : ℕ) → HasFewUploads (Call k target arguments uploads) → EndsItsUploads (next_call t h k target arguments uploads)
  ends_its_uploads kind.Notify uploads few = inr (ap (names t (suc (suc (drawn h)))) few)
  ends_its_uploads kind.Call uploads few = inl refl
  ends_its_uploads kind.Stream uploads few = inl refl

pub same_number : (k : CallKind) (uploads last : ℕ) → number_after k uploads last ≡ number_of k uploads last
same_number kind.Notify uploads last = refl
same_number kind.Call uploads last = refl
same_number kind.Stream uploads last = refl

pub few_uploads : (k : CallKind) (target : List ℕ) (arguments : List Tree) (uploads : ℕ) → HasFewUploads (Call k target arguments uploads) → uploads ≤ 8
few_uploads kind.Notify target arguments uploads few = omega (arith, few)
few_uploads kind.Call target arguments uploads few = omega (arith, few)
few_uploads kind.Stream target arguments uploads few = omega (arith, few)

-- ---- what is refused

pub told_refused : (e : AskError) (before now : List ℕ) → is_full e ≡ false → now ≡ before ++ line (codes "refused " ++ ask_words e)
    → IfSome (refusal_of e) (λ w. Declared w before now Passed)
told_refused (ask.Calls table.TooMany) before now e told = (λ m. refl, told)
told_refused (ask.Calls table.Spent) before now e told = (λ m. refl, told)
told_refused (ask.Calls table.UnknownId) before now e told = (λ m. refl, told)
told_refused (ask.Calls table.NoMemory) before now e told = tt
told_refused ask.TooDeep before now e told = (λ m. refl, told)
told_refused (ask.Send send.Opening) before now e told = (λ m. refl, told)
told_refused (ask.Send send.Closed) before now e told = (λ m. refl, told)
told_refused (ask.Send (send.TooLong size)) before now e told = (λ m. refl, told)
told_refused (ask.Send (send.Full held bytes size)) before now e told = absurd (true≢false e)
told_refused (ask.Send send.Exhausted) before now e told = (λ m. refl, told)
told_refused (ask.Send send.NoMemory) before now e told = tt
told_refused ask.NoMemory before now e told = tt

pub kept_waiting : (e : AskError) (before : List ℕ) → is_full e ≡ true → IfSome (refusal_of e) (λ w. Declared w before before Waits)
kept_waiting (ask.Send (send.Full held bytes size)) before e = (λ m. refl, refl)
kept_waiting (ask.Calls table.TooMany) before e = absurd (true≢false (sym e))
kept_waiting (ask.Calls table.Spent) before e = absurd (true≢false (sym e))
kept_waiting (ask.Calls table.UnknownId) before e = absurd (true≢false (sym e))
kept_waiting (ask.Calls table.NoMemory) before e = tt
kept_waiting ask.TooDeep before e = absurd (true≢false (sym e))
kept_waiting (ask.Send send.Opening) before e = absurd (true≢false (sym e))
kept_waiting (ask.Send send.Closed) before e = absurd (true≢false (sym e))
kept_waiting (ask.Send (send.TooLong size)) before e = absurd (true≢false (sym e))
kept_waiting (ask.Send send.Exhausted) before e = absurd (true≢false (sym e))
kept_waiting (ask.Send send.NoMemory) before e = tt
kept_waiting ask.NoMemory before e = tt

-- ---- what is tried

module _ (t : Settings) (h : List PeerEvent) (p new : ClientPeer) (plays : Plays t p h) (linked : new.linked ≡ p.linked) (why : Option CallRefusal) (m : PeerEvent)
    (before now : List ℕ) where
  pub made : Stands client_hub t new.peer (m ∷ h) → is_quiet m ≡ true → closed_itself (m ∷ h) ≡ closed_itself h → why ≡ None → UploadsHaveCalls (m ∷ h) → now ≡ before ++ move_line json_words t h m
      → Tries t h why m new before now Passed
  made stands quiet unclosed none uploads told = (
    Moved m,
    ap (λ w. attempt w m) none,
    record {
      plays = plays_quiet t p new h (m ∷ h) plays stands linked (quiet_move t m h quiet);
      stays = stays_there t h (m ∷ h) (quiet_move t m h quiet).same;
      unclosed = unclosed;
      uploads = uploads;
      told = told;
    },
  )

  declared : (w : CallRefusal) (did : Obeyed) → Plays t new h → UploadsHaveCalls h → why ≡ Some w → Declared w before now did → Tries t h why m new before now did
  declared w Waits still uploads is d = (ap (λ x. attempt x m) is ∙ d.0 m, record { plays = still; told = d.1 })
  declared w Passed still uploads is d = (
    Refused w,
    ap (λ x. attempt x m) is ∙ d.0 m,
    record {
      plays = still;
      stays = record { link = refl; moment = refl };
      unclosed = refl;
      uploads = uploads;
      told = d.1;
    },
  )
  declared w Loses still uploads is d = absurd d

  pub declined : (P : CallRefusal → Type 0) (e : AskError) (did : Obeyed) → Stands client_hub t new.peer h → UploadsHaveCalls h → HasCause P e → (e ≡ ask.NoMemory → ⊥)
      → ((w : CallRefusal) → P w → why ≡ Some w) → IfSome (refusal_of e) (λ w. Declared w before now did) → Tries t h why m new before now did
  declined P e did stands uploads cause some computed told = by e cause some told where
    still : Plays t new h
    still = plays_quiet t p new h h plays stands linked (quiet_moves t [] h refl)

    one : (w : CallRefusal) → P w → Declared w before now did → Tries t h why m new before now did
    one w is d = declared w did still uploads (computed w is) d

    by : (e : AskError) → HasCause P e → (e ≡ ask.NoMemory → ⊥) → IfSome (refusal_of e) (λ w. Declared w before now did) → Tries t h why m new before now did
    by (ask.Calls table.TooMany) c s d = one TooManyLive c d
    by (ask.Calls table.Spent) c s d = one Spent c d
    by (ask.Calls table.UnknownId) c s d = one Unknown c d
    by (ask.Calls table.NoMemory) c s d = absurd c
    by ask.TooDeep c s d = one TooDeep c d
    by (ask.Send send.Opening) c s d = one (Unsent sending.Opening) c d
    by (ask.Send send.Closed) c s d = one (Unsent sending.Closed) c d
    by (ask.Send (send.TooLong size)) c s d = one (Unsent (sending.TooLong size)) c d
    by (ask.Send (send.Full held bytes size)) c s d = one (Unsent (sending.Full held bytes size)) c d
    by (ask.Send send.Exhausted) c s d = one (Unsent sending.Exhausted) c d
    by (ask.Send send.NoMemory) c s d = absurd c
    by ask.NoMemory c s d = absurd (s refl)

-- ---- what may be done

history_of : (t : Settings) (x : Peer ClientHub Ending) (h : List PeerEvent) → Stands client_hub t x h → IsHistory t.limits t.wire t.config (byte_steps t h)
history_of t x h stands = subst (λ l. IsHistory l t.wire t.config (byte_steps t h)) (sym stands.limits) stands.end.history

module _ (reasons : AllReasonsAreComputed) (t : Settings) (x : Peer ClientHub Ending) (h : List PeerEvent) where
  pub calls_made : (n : ℕ) (c : Invoked) → Stands client_hub t x (Calls None n c ∷ h) → call_refusal t h c ≡ None
  calls_made n c stands =
      let may : MaySend t.limits (sizes_of t.wire) t.config (steps t h) (message_of c) = (history_of t x (Calls None n c ∷ h) stands).1 in
      (reasons t h).calls_made c stands.follows.1.place may.can_be.fits may

  pub uploads_made : (n w : ℕ) (a : Answer) → Stands client_hub t x (Uploads n w a ∷ h) → upload_refusal t h n w a ≡ None
  uploads_made n w a stands =
      let may : MaySend t.limits (sizes_of t.wire) t.config (steps t h) (answer_message (t.name (suc (n + w))) a) = (history_of t x (Uploads n w a ∷ h) stands).1 in
      (reasons t h).uploads_made n w a stands.follows.1.0 may.can_be.fits may

  pub cancels_made : (n : ℕ) → Stands client_hub t x (Cancels n ∷ h) → cancel_refusal t h n ≡ None
  cancels_made n stands =
      let may : MaySend t.limits (sizes_of t.wire) t.config (steps t h) (CancelInvocation [] (t.name n)) = (history_of t x (Cancels n ∷ h) stands).1 in
      (reasons t h).cancels_made n stands.follows.1 may.can_be.fits may

-- a call that was made, and told
module _ (reasons : AllReasonsAreComputed) (t : Settings) (h : List PeerEvent) (p new : ClientPeer) (plays : Plays t p h) (linked : new.linked ≡ p.linked)
    (k : CallKind) (target : List ℕ) (arguments : List Tree) (uploads : ℕ) (few : HasFewUploads (Call k target arguments uploads)) (before now : List ℕ) where
  abbrev call : Invoked
  call = next_call t h k target arguments uploads

  abbrev place : ℕ
  place = number_of k uploads (drawn h)

  pub called : (number : ℕ) → HasCalled client_hub t h new.peer k target arguments uploads number → UploadsHaveCalls h → now ≡ before ++ line (counted (codes "call") number)
      → Tries t h (call_refusal t h call) (Calls None place call) new before now Passed
  called number has calls told =
      let same : number ≡ place = has.number_is ∙ same_number k uploads (drawn h) in
      let stands : Stands client_hub t new.peer (Calls None place call ∷ h) =
      subst (λ n. Stands client_hub t new.peer (Calls None n call ∷ h)) same
      (subst (λ c. Stands client_hub t new.peer (Calls None number c ∷ h)) (same_call t h target arguments plays.on.stands.names k uploads) has.stands) in
      made t h p new plays linked (call_refusal t h call) (Calls None place call) before now stands refl refl (calls_made reasons t new.peer h place call stands)
      (ends_its_uploads t h target arguments plays.on.stands.names k uploads few, calls)
      (told ∙ ap (λ n. before ++ line (counted (codes "call") n)) same)

-- a copy of a value is that value
pub one_value : ValuesAreTrees → (v w : Value) → tree v ≡ tree w → v ≡ w
one_value values v w e = sym (values.value_of-tree v) ∙ ap (λ t. value_of t) e ∙ values.value_of-tree w

-- ---- a line

pub obeyed : (t : Settings) (order : Order) (h : List ClientEvent) (new : ClientPeer) (before now : List ℕ) (why : Option CallRefusal) (m : PeerEvent) (did : Obeyed)
    → doing t order h ≡ attempt why m → Tries t (moves h) why m new before now did → Obeys t order h new before now did
obeyed t order h new before now why m Waits is tries = (is ∙ tries.0, tries.1)
obeyed t order h new before now why m Passed is tries = (tries.0, is ∙ tries.1, tries.2)
obeyed t order h new before now why m Loses is tries = absurd tries
