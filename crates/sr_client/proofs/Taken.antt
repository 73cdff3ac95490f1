-- What the client's peer takes, one frame after another, until none is left.
use Rattle.std.proofs.Common.{inl, inr, ◌≡◌, ◌⊎◌, ℕ, ◌+◌, ◌-◌, ◌^◌, ◌≤◌, Bool, true, false, ◌&&◌, List, [], ◌∷◌, ◌++◌, length, Option}
use Rattle.std.proofs.Common.{Some, None, option_map, refl, sym, ap, ◌∙◌, subst, arith, append_assoc, if◌then◌else◌, true≢false}
use Rattle.std.proofs.lemmas.Bool.{eq-eqb}
use Rattle.std.specs.List.{list_all}
use Rattle.hm_message.specs.declared.message.Message.{Message}
use Rattle.hd_delivery.specs.declared.vocabulary.Reason.{Reason}
use Rattle.hd_delivery.specs.declared.vocabulary.Got.{Got}
use Rattle.hd_delivery.specs.declared.vocabulary.Got.TheVariants as gives
use Rattle.hd_delivery.specs.Histories as of
use Rattle.hd_delivery.specs.Histories.{EndEvent, Took, Failed, present_link}
use Rattle.hd_delivery.specs.Processes.{next_frame, processes}
use Rattle.hd_delivery.specs.Bytes.{Wire, ByteStep, Does as Step_of, IsSoundWire, in_frames}
use Rattle.hd_delivery.specs.OneHistory.{IsHistory}
use Rattle.hd_delivery.specs.Following.{Follow}
use Rattle.hd_delivery.specs.Alone.{taking}
use Rattle.hd_delivery.specs.AloneLaws.{TakesFew}
use Rattle.hd_delivery.specs.Bounds.{most_frame}
use Rattle.hd_calls.specs.Hubs.{Notify, Item, End}
use Rattle.hd_calls.specs.Peers.{Effect, Begins, InUse, TooMany, Brings, Feeds, Flood, Marks, Nothing, PeerEvent, Plain, Reads, Handles, Settings, add}
use Rattle.hd_calls.specs.Peers.{byte_steps, is_shut, reason_of, shuts, steps, waiting}
use Rattle.hd_server.specs.Serves.{is_taking}
use Rattle.hp_peer.specs.declared.did.Did.{Did}
use Rattle.hp_peer.specs.declared.did.Did.TheVariants as did
use Rattle.hp_peer.specs.declared.errors.PeerError.{PeerError}
use Rattle.hp_peer.specs.declared.errors.PeerError.TheVariants as error
use Rattle.hp_peer.specs.Stands.{Stands}
use Rattle.hp_peer.specs.Taking.{HasHandled, HasRead, IsNext, IsToldAs, IsUnhandled, IsUntaken, OfNext, Takes}
use Rattle.hub_calc.specs.Client.{client_hub}
use Rattle.hd_client.specs.Setups.{Words}
use Rattle.hd_client.specs.Printed.{got_line, move_line}
use Rattle.sr_client.specs.declared.peer.ClientPeer.{ClientPeer}
use Rattle.sr_client.specs.Lines.{json_words, lines_of, told_line}
use Rattle.sr_client.specs.Peers.{PlaysOn}
use Rattle.sr_client.specs.Taking.{ComesTo, GoesOn, HasTakenOne, TakesOne, TakesWhole}
use Rattle.sr_client.proofs.Chains.{goes_on_then, same_text_after}
use Rattle.sr_client.proofs.Quiet.{linked_on, same_taking, stays_there}

-- ---- what is told

-- what is told of what is no message has its line
got_told : (w : Words) (t : Settings) (h : List PeerEvent) (got : Got) → told_line w (did.Other got) ≡ move_line w t h (Plain (Step_of (Took got)))
got_told w t h (gives.Shaken codec version) = refl
got_told w t h (gives.Closed error allow) = refl
got_told w t h (gives.Message m) = refl
got_told w t h (gives.Acked upto) = refl
got_told w t h (gives.Sequenced first) = refl
got_told w t h (gives.Resumed first received) = refl
got_told w t h gives.Ping = refl
got_told w t h (gives.Skipped why) = refl

-- so has what is told of a message that was handled, which takes it at this moment
told_so : (w : Words) (t : Settings) (h : List PeerEvent) (now : ℕ) (m : Message) (e : Effect) (told : Did) → IsToldAs h now m e told
    → (is_taking now (Handles m e) ≡ true) × (told_line w told ≡ move_line w t h (Handles m e))
told_so w t h now m (Begins c since floods) (did.Began job id target arguments) is = (
  eq-eqb since now is.0.moment,
  ap (λ x. got_line w (record { way = Notify; target = x; arguments = arguments; streams = [] })) is.0.target_is
      ∙ ap (λ x. got_line w (record { way = Notify; target = c.target; arguments = x; streams = [] })) is.1,
)
told_so w t h now m (Brings n (Item v) floods) (did.Item call value) is = (
  refl,
  ap (λ k. told_line w (did.Item k value)) is.0 ∙ ap (λ x. told_line w (did.Item n x)) is.1,
)
told_so w t h now m (Brings n (End e) floods) (did.Ended call ending) is = (
  refl,
  ap (λ k. told_line w (did.Ended k ending)) is.0 ∙ ap (λ x. told_line w (did.Ended n x)) is.1,
)
told_so w t h now m (Feeds j k a) (did.Fed id) is = (refl, refl)
told_so w t h now m (Marks j) (did.Cancelled id) is = (refl, refl)
told_so w t h now m Nothing (did.Unknown id) is = (refl, refl)
told_so w t h now m _ _ is = absurd is

-- ---- one frame

-- an effect makes no step, or closes the end
shut_or_same : (wire : Wire) (c : of.Config) (b : Bool) (r : Option Reason) (y : List ByteStep)
    → (add (shuts b r) y ≡ y) ⊎ (of.is_closed c (in_frames wire c (add (shuts b r) y)) ≡ true)
shut_or_same wire c true None y = inl refl
shut_or_same wire c true (Some why) y = inl refl
shut_or_same wire c false None y = inl refl
shut_or_same wire c false (Some why) y = inr refl

module _ (t : Settings) (p : ClientPeer) (h : List PeerEvent) (on : PlaysOn t p h) (new : ClientPeer)
    (same : new.linked ≡ p.linked) (now : ℕ) (before after : List ℕ) where
  by_moves : (ms : List PeerEvent) (s : EndEvent) → list_all (is_taking now) ms ≡ true → processes t.config (steps t h) ≡ Some s
      → ComesTo t (ms ++ h) (Step_of s ∷ byte_steps t h) → waiting (ms ++ h) ≡ None → Stands client_hub t new.peer (ms ++ h)
      → after ≡ before ++ lines_of json_words t ms h → HasTakenOne t h new now before after
  by_moves ms s each next come rests stands text =
      let links = same_taking t now ms h each in
      record {
        moves = ms;
        each = each;
        step = s;
        next = next;
        come = come;
        stays = stays_there t h (ms ++ h) links;
        goes = record { plays = linked_on t p new h (ms ++ h) on stands same links rests; appended = text };
      }

  -- no message
  taken_read : (s : EndEvent) → is_taking now (Plain (Step_of s)) ≡ true → HasRead client_hub t h new.peer s
      → after ≡ before ++ move_line json_words t h (Plain (Step_of s)) → HasTakenOne t h new now before after
  taken_read s takes has text =
      by_moves (Plain (Step_of s) ∷ []) s (ap (λ b. b && true) takes) has.1 (inl refl) on.handled has.2 text

  -- a message, which was handled
  taken_message : (m : Message) (e : Effect) → IsNext t h (Took (gives.Message m)) → is_taking now (Handles m e) ≡ true
      → Stands client_hub t new.peer (Handles m e ∷ Reads m ∷ h) → after ≡ before ++ move_line json_words t (Reads m ∷ h) (Handles m e)
      → HasTakenOne t h new now before after
  taken_message m e next takes stands text =
      by_moves (Handles m e ∷ Reads m ∷ []) (Took (gives.Message m)) (ap (λ b. b && true) takes) next
      (shut_or_same t.wire t.config (is_shut t (Reads m ∷ h)) (reason_of e) (byte_steps t (Reads m ∷ h))) refl stands text

  of_next : (Holds : Message → List PeerEvent → Type 0) → OfNext t h (waiting h) Holds → OfNext t h None Holds
  of_next Holds has = subst (λ o. OfNext t h o Holds) on.handled has

  of_told : (told : Did) → OfNext t h (waiting h) (HasHandled client_hub t new.peer now told) → after ≡ before ++ told_line json_words told
      → HasTakenOne t h new now before after
  of_told told takes text =
      let next = of_next (HasHandled client_hub t new.peer now told) takes in
      let has = next.2 in
      let so = told_so json_words t (Reads next.0 ∷ h) now next.0 has.effect told has.told_as in
      taken_message next.0 has.effect next.1 so.0 has.stands (text ∙ ap (λ y. before ++ y) so.1)

  pub took : (told : Did) → Takes client_hub t h new.peer now (Some told) → after ≡ before ++ told_line json_words told
      → HasTakenOne t h new now before after
  took (did.Other got) takes text = taken_read (Took got) refl takes (text ∙ ap (λ y. before ++ y) (got_told json_words t h got))
  took (did.Began job id target arguments) takes text = of_told (did.Began job id target arguments) takes text
  took (did.Item call value) takes text = of_told (did.Item call value) takes text
  took (did.Ended call ending) takes text = of_told (did.Ended call ending) takes text
  took (did.Fed id) takes text = of_told (did.Fed id) takes text
  took (did.Cancelled id) takes text = of_told (did.Cancelled id) takes text
  took (did.Unknown id) takes text = of_told (did.Unknown id) takes text

-- what is refused is taken, and nothing is printed of it
module _ (t : Settings) (p : ClientPeer) (h : List PeerEvent) (on : PlaysOn t p h) (new : ClientPeer)
    (same : new.linked ≡ p.linked) (now : ℕ) (before : List ℕ) where
  pub refused_one : (e : PeerError) → (e ≡ error.NoMemory → ⊥) → IsUntaken client_hub t h new.peer e → HasTakenOne t h new now before before
  refused_one (error.Next e) some has = taken_read t p h on new same now before before (Failed has.0) refl has.2 (same_text_after before)
  refused_one (error.InUse id) some has =
      let next = of_next t p h on new same now before before (IsUnhandled client_hub t new.peer (error.InUse id)) has in
      taken_message t p h on new same now before before next.0 (InUse next.2.call) next.1 refl next.2.stands (same_text_after before)
  refused_one error.TooMany some has =
      let next = of_next t p h on new same now before before (IsUnhandled client_hub t new.peer error.TooMany) has in
      taken_message t p h on new same now before before next.0 (TooMany next.2.call) next.1 refl next.2.stands (same_text_after before)
  refused_one error.Flood some has =
      let next = of_next t p h on new same now before before (IsUnhandled client_hub t new.peer error.Flood) has in
      taken_message t p h on new same now before before next.0 Flood next.1 refl next.2 (same_text_after before)
  refused_one error.NoMemory some has = absurd (some refl)

  -- no whole frame has come
  pub took_none : Takes client_hub t h new.peer now None → TakesOne t h new now before before false
  took_none takes = (
    takes.1,
    record { stands = takes.2; side = on.side; linked = same ∙ on.linked; links = on.links; handled = on.handled },
    refl,
  )

-- ---- so many are taken

pub record HasTaken (t : Settings) (h : List PeerEvent) (new : ClientPeer) (now : ℕ) (before after : List ℕ) (n : ℕ) : Type 0 where
  pub moves : List PeerEvent
  pub each : list_all (is_taking now) moves ≡ true
  pub taken : List ByteStep
  pub follow : Follow (taking t.wire t.config) (byte_steps t h) taken
  pub many : length taken ≡ n
  pub come : ComesTo t (moves ++ h) (taken ++ byte_steps t h)
  pub goes : GoesOn t h new before after moves

all_append : (p : PeerEvent → Bool) (xs ys : List PeerEvent) → list_all p xs ≡ true → list_all p ys ≡ true → list_all p (xs ++ ys) ≡ true
all_append p [] ys a b = b
all_append p (x ∷ xs) ys a b = both (p x) (list_all p xs) (list_all p (xs ++ ys)) a (λ f. all_append p xs ys f b)
  where
    both : (d e f : Bool) → (d && e) ≡ true → (e ≡ true → f ≡ true) → (d && f) ≡ true
    both true e f a more = more a
    both false e f a more = absurd (true≢false (sym a))

-- an end that takes a frame isn't closed
live_of : (b : Bool) (o : Option EndEvent) (s : EndEvent) → (if b then None else o) ≡ Some s → b ≡ false
live_of true o s e = absurd (cc)
live_of false o s e = refl

module _ (t : Settings) (h : List PeerEvent) (now : ℕ) (before : List ℕ) where
  pub taken_none : (p : ClientPeer) → PlaysOn t p h → HasTaken t h p now before before 0
  taken_none p on = record {
    moves = [];
    each = refl;
    taken = [];
    follow = tt;
    many = refl;
    come = inl refl;
    goes = record { plays = on; appended = same_text_after before };
  }

  module _ (old new : ClientPeer) (between after : List ℕ) (n : ℕ) (has : HasTaken t h old now before between n) where
    abbrev x : List PeerEvent
    x = has.moves ++ h

    live_end : (s : EndEvent) → processes t.config (steps t x) ≡ Some s → ComesTo t x (has.taken ++ byte_steps t h)
        → byte_steps t x ≡ has.taken ++ byte_steps t h
    live_end s next (inl e) = e
    live_end s next (inr shut) =
        absurd (let live = live_of (is_shut t x) (next_frame t.config (steps t x) (present_link (steps t x))) s next in
        let z : true ≡ false = sym shut ∙ live in cc)

    next_end : (ms : List PeerEvent) (s : EndEvent) → byte_steps t x ≡ has.taken ++ byte_steps t h → ComesTo t (ms ++ x) (Step_of s ∷ byte_steps t x)
        → ComesTo t (ms ++ x) (Step_of s ∷ has.taken ++ byte_steps t h)
    next_end ms s same (inl e) = inl (e ∙ ap (λ y. Step_of s ∷ y) same)
    next_end ms s same (inr shut) = inr shut

    pub taken_more : HasTakenOne t x new now between after → HasTaken t h new now before after (n + 1)
    taken_more one =
        let same = live_end one.step one.next has.come in
        record {
          moves = one.moves ++ has.moves;
          each = all_append (is_taking now) one.moves has.moves one.each has.each;
          taken = Step_of one.step ∷ has.taken;
          follow = (has.follow, sym (ap (taking t.wire t.config) same) ∙ ap (option_map Step_of) one.next);
          many = (let m = has.many in omega (arith, m));
          come = subst (λ y. ComesTo t y (Step_of one.step ∷ has.taken ++ byte_steps t h)) (sym (append_assoc one.moves has.moves h))
              (next_end one.moves one.step same one.come);
          goes = goes_on_then t h old new before between after has.moves one.moves has.goes one.goes;
        }

    -- nothing is left
    pub taken_all : TakesOne t x new now between after false → TakesWhole t h new now before after
    taken_all none = record {
      moves = has.moves;
      takes = record { taken = has.moves; are = refl; each = has.each; none_waits = none.1.handled; none_left = none.0 };
      stays = stays_there t h x (same_taking t now has.moves h has.each);
      goes = record { plays = record { on = none.1; taken = none.0 }; appended = none.2 ∙ has.goes.appended };
    }

-- what is told of one more
pub takes_so : (t : Settings) (h : List PeerEvent) (new : ClientPeer) (now : ℕ) (before after : List ℕ) (more so : Bool) → more ≡ so
    → TakesOne t h new now before after more → TakesOne t h new now before after so
takes_so t h new now before after more so is takes = subst (λ b. TakesOne t h new now before after b) is takes

-- what is taken is less than 64 bits count
pub taken_end : (t : Settings) (h : List PeerEvent) (p : ClientPeer) (now : ℕ) (before after : List ℕ) (n : ℕ)
    → TakesFew → IsSoundWire t.limits t.wire → IsHistory t.limits t.wire t.config (byte_steps t h) → t.limits.frame ≤ most_frame
    → HasTaken t h p now before after n → 2 ^ 64 - 1 ≤ n → TakesWhole t h p now before after
taken_end t h p now before after n few sound history most has over =
    let all = few t.limits t.wire t.config (byte_steps t h) has.taken sound history has.follow in
    let many = has.many in
    absurd (omega (arith, all, many, most, over))

-- what a take told as an error, which isn't that memory is out
pub refused_as : (t : Settings) (p : ClientPeer) (h : List PeerEvent) → PlaysOn t p h → (new : ClientPeer) → new.linked ≡ p.linked → (now : ℕ) (before : List ℕ)
    → (e f : PeerError) → e ≡ f → (f ≡ error.NoMemory → ⊥) → IsUntaken client_hub t h new.peer e → TakesOne t h new now before before true
refused_as t p h on new same now before e f is some has =
    refused_one t p h on new same now before f some (subst (λ y. IsUntaken client_hub t h new.peer y) is has)
