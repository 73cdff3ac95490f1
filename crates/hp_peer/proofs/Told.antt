-- What a take tells of what it handled or read.
use Rattle.std.proofs.Common.{◌≡◌, ℕ, inl, inr, false, true, List, ◌∷◌, Option, Some, None, refl, sym, ◌∙◌, subst}
use Rattle.std.proofs.lemmas.Bool.{both_ways}
use Rattle.hm_message.specs.declared.message.Message.{Message}
use Rattle.hm_message.specs.declared.message.Message.TheVariants as message
use Rattle.hm_message.specs.declared.message.Ending.{Ending}
use Rattle.hm_message.specs.Headers.{Header}
use Rattle.hm_message.specs.Message.{is_sequenced}
use Rattle.hv_value.specs.declared.value.Value.{Value}
use Rattle.hd_delivery.specs.declared.vocabulary.Got.{Got}
use Rattle.hd_delivery.specs.declared.vocabulary.Got.TheVariants as gives
use Rattle.hd_delivery.specs.Histories.{Took}
use Rattle.hd_delivery.specs.Bytes.{Does}
use Rattle.he_wire.specs.Laws.{WireIsSound}
use Rattle.he_end.specs.declared.end.End.{End}
use Rattle.he_end.specs.declared.errors.NextError.{NextError}
use Rattle.he_end.specs.declared.errors.NextError.TheVariants as next
use Rattle.he_end.specs.Calls.{fault_of, FailsBy}
use Rattle.he_end.specs.Stands as ends
use Rattle.he_end.specs.Stands.{limits_of}
use Rattle.hd_calls.specs.Hubs.{Hub, Invoked, Item, End as Ends, ToBegin, purpose_of}
use Rattle.hd_calls.specs.Peers.{Effect, Begins, InUse, TooMany, Brings, Feeds, Flood, Marks, Nothing, PeerEvent, Reads, Settings, byte_steps, waiting}
use Rattle.hd_calls.specs.Rules.{IsPlain}
use Rattle.hp_peer.specs.declared.did.Did.{Did}
use Rattle.hp_peer.specs.declared.did.Did.TheVariants as did
use Rattle.hp_peer.specs.declared.errors.PeerError.{PeerError}
use Rattle.hp_peer.specs.declared.errors.PeerError.TheVariants as error
use Rattle.hp_peer.specs.declared.peer.Peer.{Peer}
use Rattle.hp_peer.specs.Stands.{IsCounted, Stands}
use Rattle.hp_peer.specs.Taking.{HandlesAs, HasHandled, HasRead, holding, IsNext, IsToldAs, IsUnhandled, IsUntaken, of_next, OfNext, Takes, Unhandles}
use Rattle.hp_peer.proofs.Taken.{reads_message, reads_none, reads_plain}
use Rattle.hp_peer.proofs.Counted.{handed_counted}

-- ---- calls

-- a counted message that is for no call, job or stream that is there begins a call
pub begins : (m : Message) → is_sequenced m ≡ true → ((headers : List Header) (id : List ℕ) (item : Value) → m ≡ message.StreamItem headers id item → ⊥)
    → ((headers : List Header) (id : List ℕ) (ending : Ending) → m ≡ message.Completion headers id ending → ⊥)
    → ((headers : List Header) (id : List ℕ) → m ≡ message.CancelInvocation headers id → ⊥) → (c : Invoked) × (purpose_of m ≡ ToBegin c)
begins (message.Invocation headers id target arguments streams) e f g k = (_, refl)
begins (message.StreamInvocation headers id target arguments streams) e f g k = (_, refl)
begins (message.StreamItem headers id item) e f g k = absurd (f headers id item refl)
begins (message.Completion headers id ending) e f g k = absurd (g headers id ending refl)
begins (message.CancelInvocation headers id) e f g k = absurd (k headers id refl)
begins message.Ping e f g k = absurd (both_ways false refl e)
begins (message.Close x allow) e f g k = absurd (both_ways false refl e)
begins (message.Ack upto) e f g k = absurd (both_ways false refl e)
begins (message.Sequence first received) e f g k = absurd (both_ways false refl e)

-- the message that waits is counted
pub waits_counted : {H Job : Type 0} (hub : Hub Job) (t : Settings) (old : Peer H Job) (m : Message) (h : List PeerEvent) → Stands hub t (holding old m) h → is_sequenced m ≡ true
waits_counted hub t old m h s = subst IsCounted (sym s.waits) s.counted

-- ---- what is told

never_other : (h : List PeerEvent) (now : ℕ) (m : Message) (e : Effect) (got : Got) → IsToldAs h now m e (did.Other got) → ⊥
never_other h now m (Begins c since floods) got f = f
never_other h now m (InUse c) got f = f
never_other h now m (TooMany c) got f = f
never_other h now m (Brings n (Item v) floods) got f = f
never_other h now m (Brings n (Ends e) floods) got f = f
never_other h now m (Feeds j w a) got f = f
never_other h now m Flood got f = f
never_other h now m (Marks j) got f = f
never_other h now m Nothing got f = f

module _ {H Job : Type 0} (hub : Hub Job) (t : Settings) (h : List PeerEvent) (new : Peer H Job) where
  no_other : (now : ℕ) (got : Got) (o : Option Message) → OfNext t h o (HasHandled hub t new now (did.Other got)) → ⊥
  no_other now got None f = never_other _ now f.0 f.2.effect got f.2.told_as
  no_other now got (Some m) f = never_other h now m f.effect got f.told_as

  told_of : (now : ℕ) (told : Did) → OfNext t h (waiting h) (HasHandled hub t new now told) → Takes hub t h new now (Some told)
  told_of now (did.Other got) f = absurd (no_other now got (waiting h) f)
  told_of now (did.Began job id target arguments) f = f
  told_of now (did.Item call value) f = f
  told_of now (did.Ended call ending) f = f
  told_of now (did.Fed id) f = f
  told_of now (did.Cancelled id) f = f
  told_of now (did.Unknown id) f = f

  not_next : (e : NextError) (o : Option Message) → OfNext t h o (IsUnhandled hub t new (error.Next e)) → ⊥
  not_next e None f = f.2
  not_next e (Some m) f = f

  untaken : (e : PeerError) → OfNext t h (waiting h) (IsUnhandled hub t new e) → IsUntaken hub t h new e
  untaken (error.Next e) f = absurd (not_next e (waiting h) f)
  untaken (error.InUse id) f = f
  untaken error.TooMany f = f
  untaken error.Flood f = f
  untaken error.NoMemory f = inr f

  -- of the message that waited
  pub waited_told : (m : Message) → waiting h ≡ Some m → (now : ℕ) (told : Did) → HasHandled hub t new now told m h → Takes hub t h new now (Some told)
  waited_told m e now told f = told_of now told (subst (λ o. OfNext t h o (HasHandled hub t new now told)) (sym e) f)

  pub waited_untaken : (m : Message) → waiting h ≡ Some m → (e : PeerError) → IsUnhandled hub t new e m h → IsUntaken hub t h new e
  waited_untaken m e why f = untaken why (subst (λ o. OfNext t h o (IsUnhandled hub t new why)) (sym e) f)

  -- of a message that was read
  pub read_told : (m : Message) → waiting h ≡ None → IsNext t h (Took (gives.Message m)) → (now : ℕ) (told : Did) → HasHandled hub t new now told m (Reads m ∷ h)
      → Takes hub t h new now (Some told)
  read_told m e is now told f = told_of now told (subst (λ o. OfNext t h o (HasHandled hub t new now told)) (sym e) (m, is, f))

  pub read_untaken : (m : Message) → waiting h ≡ None → IsNext t h (Took (gives.Message m)) → (e : PeerError) → IsUnhandled hub t new e m (Reads m ∷ h) → IsUntaken hub t h new e
  read_untaken m e is why f = untaken why (subst (λ o. OfNext t h o (IsUnhandled hub t new why)) (sym e) (m, is, f))

-- ---- what is read

-- the peer whose message was taken out to be handled
pub taken_out : {H Job : Type 0} (hub : Hub Job) (t : Settings) (old : Peer H Job) (m : Message) (h : List PeerEvent) → Stands hub t old h → old.waiting ≡ Some m
    → Stands hub t (holding (record old { waiting = None }) m) h
taken_out hub t old m h s e = subst (λ w. Stands hub t (record old { waiting = w }) h) e s

module _ {H Job : Type 0} (hub : Hub Job) (t : Settings) (old : Peer H Job) (h : List PeerEvent) (s : Stands hub t old h) (none : old.waiting ≡ None) (end : End) (limits : limits_of end ≡ limits_of old.end) where
  idle : waiting h ≡ None
  idle = sym s.waits ∙ none

  pub failed : (e : NextError) → FailsBy t.wire t.config (byte_steps t h) end (fault_of t.config e) → IsUntaken hub t h (record old { end = end }) (of_next e)
  failed next.NoMemory f = inl (reads_none hub t old h s none end limits f)
  failed (next.Frame link at why) f = (_, refl, (idle, f.0, reads_plain hub t old h s none end limits _ idle f.1))
  failed (next.Shake x) f = (_, refl, (idle, f.0, reads_plain hub t old h s none end limits _ idle f.1))
  failed (next.Gap got most) f = (_, refl, (idle, f.0, reads_plain hub t old h s none end limits _ idle f.1))
  failed (next.AckBeyond got most) f = (_, refl, (idle, f.0, reads_plain hub t old h s none end limits _ idle f.1))

  plain : (got : Got) → ((m : Message) → got ≡ gives.Message m → ⊥) → IsPlain h (Does (Took got))
  plain (gives.Message m) f = absurd (f m refl)
  plain (gives.Shaken codec version) f = idle
  plain (gives.Acked upto) f = idle
  plain (gives.Sequenced first) f = idle
  plain (gives.Resumed first received) f = idle
  plain gives.Ping f = idle
  plain (gives.Skipped why) f = idle
  plain (gives.Closed e allow) f = idle

  pub took : (got : Got) → ((m : Message) → got ≡ gives.Message m → ⊥) → IsNext t h (Took got) → ends.Stands t.wire t.config end (Does (Took got) ∷ byte_steps t h)
      → HasRead hub t h (record old { end = end }) (Took got)
  took got f is stands = (idle, is, reads_plain hub t old h s none end limits _ (plain got f) stands)

  -- a message that was read is handled, or waits
  module _ (sound : WireIsSound) (m : Message) (gave : IsNext t h (Took (gives.Message m)) × ends.Stands t.wire t.config end (Does (Took (gives.Message m)) ∷ byte_steps t h)) where
    waits_now : Stands hub t (record old { end = end; waiting = Some m }) (Reads m ∷ h)
    waits_now = reads_message hub t old h s none end limits m
        (handed_counted (limits_of old.end) t.wire (sound (limits_of old.end) t.wire s.end.house) t.config (byte_steps t h) s.end.history m gave.0) gave.1

    pub read_handled : (new : Peer H Job) (now : ℕ) (told : Did) → HandlesAs hub (record old { end = end }) new now m told → Takes hub t h new now (Some told)
    read_handled new now told f = read_told hub t h new m idle gave.0 now told (f t (Reads m ∷ h) waits_now)

    pub read_unhandled : (new : Peer H Job) (e : PeerError) → Unhandles hub (record old { end = end }) new m e → IsUntaken hub t h new e
    read_unhandled new e f = read_untaken hub t h new m idle gave.0 e (f t (Reads m ∷ h) waits_now)

-- the peer at which no message waits
pub emptied : {H Job : Type 0} (hub : Hub Job) (t : Settings) (old : Peer H Job) (w : Option Message) (h : List PeerEvent) → Stands hub t old h → old.waiting ≡ w
    → Stands hub t (record old { waiting = w }) h
emptied hub t old w h s e = subst (λ x. Stands hub t (record old { waiting = x }) h) e s
