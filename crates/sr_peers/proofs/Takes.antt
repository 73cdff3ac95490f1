-- What a peer of a replay takes, and the line of it.
use Rattle.std.proofs.Common.{inl, inr, ◌≡◌, ◌⊎◌, ℕ, suc, Bool, true, false, List, [], ◌∷◌, ◌++◌, length, Option, Some, None, codes, refl, sym, ap, ◌∙◌, subst}
use Rattle.hm_message.specs.declared.message.Message.{Message}
use Rattle.hd_delivery.specs.declared.vocabulary.Reason.{Reason}
use Rattle.hd_delivery.specs.declared.vocabulary.Got.{Got}
use Rattle.hd_delivery.specs.declared.vocabulary.Got.TheVariants as gives
use Rattle.hd_delivery.specs.declared.vocabulary.Why.TheVariants.{Duplicate, Unknown, BeforeSequence, NotUsed}
use Rattle.hd_delivery.specs.Histories as of
use Rattle.hd_delivery.specs.Histories.{Took, Failed, Fault, present_link, processed_messages}
use Rattle.hd_delivery.specs.Bytes.{Wire, ByteStep, Does, in_frames}
use Rattle.he_end.specs.Words.{next_words}
use Rattle.hd_calls.specs.Hubs.{Hub, Item, End, Purpose, ToBegin, ToAnswer, ToCancel, ToNothing, purpose_of, id_of}
use Rattle.hd_calls.specs.Peers.{Effect, Begins, InUse, TooMany, Brings, Feeds, Flood, Marks, Nothing, PeerEvent, Plain, Reads, Handles, Settings, add, byte_steps, is_shut, reason_of, shuts, steps, waiting}
use Rattle.hd_calls.specs.Rules.{IsPlain}
use Rattle.hp_peer.specs.declared.did.Did.{Did}
use Rattle.hp_peer.specs.declared.did.Did.TheVariants as did
use Rattle.hp_peer.specs.declared.errors.PeerError.{PeerError}
use Rattle.hp_peer.specs.declared.errors.PeerError.TheVariants as error
use Rattle.hp_peer.specs.declared.peer.Peer.{Peer}
use Rattle.hp_peer.specs.Stands.{Stands}
use Rattle.hp_peer.specs.Taking.{IsFor, IsToldAs, IsNext, OfNext, HasHandled, HasRead, Takes, IsUnhandled, IsUntaken}
use Rattle.sr_notation.specs.Words.{line_at, got_words}
use Rattle.sr_lines.specs.Lines.{fault_words, began_words, item_words, ended_words, fed_words, cancelled_words, unknown_words, in_use_words, did_words, peer_words}
use Rattle.sr_lines.specs.Laws.{FaultsAreTold}
use Rattle.sr_peers.specs.declared.party.Party.{Party}
use Rattle.sr_peers.specs.Doings.{BeginsAt}
use Rattle.sr_peers.specs.Told.{id_in, TellsEffect}
use Rattle.sr_peers.specs.Plays.{Plays, HasTaken, TakesOne}
use Rattle.sr_peers.proofs.Chains.{with, goes_one, plays_still}

-- ---- words

-- what is no message has the same words whatever number a message had
same_words : (a b : ℕ) (h : List PeerEvent) (got : Got) → IsPlain h (Does (Took got)) → got_words a got ≡ got_words b got
same_words a b h (gives.Message m) plain = absurd plain
same_words a b h (gives.Shaken codec version) plain = refl
same_words a b h (gives.Acked upto) plain = refl
same_words a b h (gives.Sequenced first) plain = refl
same_words a b h (gives.Resumed first received) plain = refl
same_words a b h gives.Ping plain = refl
same_words a b h (gives.Skipped (Duplicate n)) plain = refl
same_words a b h (gives.Skipped (Unknown n)) plain = refl
same_words a b h (gives.Skipped BeforeSequence) plain = refl
same_words a b h (gives.Skipped NotUsed) plain = refl
same_words a b h (gives.Closed None allow) plain = refl
same_words a b h (gives.Closed (Some why) allow) plain = refl

id_is : (p : Purpose) (id : List ℕ) → IsFor p id → id ≡ id_in p
id_is (ToBegin c) id is = absurd is
id_is (ToAnswer i a) id is = is
id_is (ToCancel i) id is = is
id_is ToNothing id is = absurd is

-- what is told of a message that was handled has the words of what it did
told_so : (t : Settings) (h : List PeerEvent) (now : ℕ) (m : Message) (e : Effect) (d : Did) (number : ℕ) → IsToldAs h now m e d
    → BeginsAt now e × TellsEffect t h m e (did_words number d)
told_so t h now m (Begins c since floods) (did.Began job id target arguments) number is =
    (is.0.moment, ap (λ i. began_words i target) is.0.id_is ∙ ap (λ x. began_words (id_of c.way) x) is.0.target_is)
told_so t h now m (Brings n (Item v) floods) (did.Item call value) number is = (tt, ap (λ k. item_words k value) is.0 ∙ ap (λ x. item_words n x) is.1)
told_so t h now m (Brings n (End e) floods) (did.Ended call ending) number is = (tt, ap (λ k. ended_words k ending) is.0 ∙ ap (λ x. ended_words n x) is.1)
told_so t h now m (Feeds j w a) (did.Fed id) number is = (tt, ap fed_words (id_is (purpose_of m) id is))
told_so t h now m (Marks j) (did.Cancelled id) number is = (tt, ap cancelled_words (id_is (purpose_of m) id is))
told_so t h now m Nothing (did.Unknown id) number is = (tt, ap unknown_words (id_is (purpose_of m) id is))
told_so t h now m _ _ number is = absurd is

-- ---- what an effect does to the end

-- it leaves the link
pub shut_link : (wire : Wire) (c : of.Config) (b : Bool) (r : Option Reason) (y : List ByteStep)
    → present_link (in_frames wire c (add (shuts b r) y)) ≡ present_link (in_frames wire c y)
shut_link wire c true None y = refl
shut_link wire c true (Some why) y = refl
shut_link wire c false None y = refl
shut_link wire c false (Some why) y = refl

-- it makes no step, or closes the end
pub shut_or_same : (wire : Wire) (c : of.Config) (b : Bool) (r : Option Reason) (y : List ByteStep)
    → (add (shuts b r) y ≡ y) ⊎ (of.is_closed c (in_frames wire c (add (shuts b r) y)) ≡ true)
shut_or_same wire c true None y = inl refl
shut_or_same wire c true (Some why) y = inl refl
shut_or_same wire c false None y = inl refl
shut_or_same wire c false (Some why) y = inr refl

-- ---- one take

module _ {H Job : Type 0} (hub : Hub Job) (t : Settings) (p : Party H Job) (h : List PeerEvent) (plays : Plays hub t p h) (x : Peer H Job) (now : ℕ)
    (before after : List ℕ) where
  at_side : (words : List ℕ) → after ≡ before ++ line_at p.side words → after ≡ before ++ line_at t.config.side words
  at_side words is = is ∙ ap (λ s. before ++ line_at s words) plays.side_is

  -- something that is no message
  taken_other : (got : Got) (number : ℕ) → HasRead hub t h x (Took got) → after ≡ before ++ line_at p.side (got_words number got)
      → HasTaken hub t h (with p x) now before after
  taken_other got number read is =
      let number_of = suc (length (processed_messages (steps t h))) in record {
        step = Took got;
        next = read.1;
        moves = Plain (Does (Took got)) ∷ [];
        one = inl (read.2.follows.1, refl);
        goes = goes_one hub t h (with p x) before after (line_at t.config.side (got_words number_of got)) (Plain (Does (Took got)))
            (record { stands = read.2; side_is = plays.side_is; link_is = plays.link_is; handled = plays.handled }) refl
            (at_side (got_words number got) is ∙ ap (λ w. before ++ line_at t.config.side w) (same_words number number_of h got read.2.follows.1));
      }

  -- a fault
  taken_fault : (fault : Fault) (words : List ℕ) → HasRead hub t h x (Failed fault) → words ≡ fault_words fault
      → after ≡ before ++ line_at p.side (codes "fault " ++ words) → HasTaken hub t h (with p x) now before after
  taken_fault fault words read same is = record {
    step = Failed fault;
    next = read.1;
    moves = Plain (Does (Failed fault)) ∷ [];
    one = inl (read.2.follows.1, refl);
    goes = goes_one hub t h (with p x) before after (line_at t.config.side (codes "fault " ++ fault_words fault)) (Plain (Does (Failed fault)))
        (record { stands = read.2; side_is = plays.side_is; link_is = plays.link_is; handled = plays.handled }) refl
        (at_side (codes "fault " ++ words) is ∙ ap (λ w. before ++ line_at t.config.side (codes "fault " ++ w)) same);
  }

  -- a message, which was handled
  taken_message : (m : Message) (e : Effect) → IsNext t h (Took (gives.Message m)) → Stands hub t x (Handles m e ∷ Reads m ∷ h) → BeginsAt now e
      → (words : List ℕ) → TellsEffect t (Reads m ∷ h) m e words → after ≡ before ++ line_at p.side words → HasTaken hub t h (with p x) now before after
  taken_message m e next stands at words tells is = record {
    step = Took (gives.Message m);
    next = next;
    moves = Handles m e ∷ Reads m ∷ [];
    one = inr (record { message = m; effect = e; step = refl; at = at; is = refl });
    goes = record {
      plays = record {
        stands = stands;
        side_is = plays.side_is;
        link_is = plays.link_is ∙ sym (shut_link t.wire t.config (is_shut t (Reads m ∷ h)) (reason_of e) (byte_steps t (Reads m ∷ h)));
        handled = refl;
      };
      text = line_at t.config.side words;
      tells = ([], line_at t.config.side words, (([], [], (refl, refl, refl)), (words, (tells, refl)), refl));
      appended = at_side words is;
    };
  }

  of_next : (Holds : Message → List PeerEvent → Type 0) → OfNext t h (waiting h) Holds → OfNext t h None Holds
  of_next Holds has = subst (λ o. OfNext t h o Holds) plays.handled has

  took_told : (told : Did) (number : ℕ) → OfNext t h (waiting h) (HasHandled hub t x now told) → after ≡ before ++ line_at p.side (did_words number told)
      → HasTaken hub t h (with p x) now before after
  took_told told number takes is =
      let next = of_next (HasHandled hub t x now told) takes in
      let has = next.2 in
      let so = told_so t (Reads next.0 ∷ h) now next.0 has.effect told number has.told_as in
      taken_message next.0 has.effect next.1 has.stands so.0 (did_words number told) so.1 is

  pub took : (told : Did) (number : ℕ) → Takes hub t h x now (Some told) → after ≡ before ++ line_at p.side (did_words number told)
      → HasTaken hub t h (with p x) now before after
  took (did.Other got) number takes is = taken_other got number takes is
  took (did.Began job id target arguments) number takes is = took_told (did.Began job id target arguments) number takes is
  took (did.Item call value) number takes is = took_told (did.Item call value) number takes is
  took (did.Ended call ending) number takes is = took_told (did.Ended call ending) number takes is
  took (did.Fed id) number takes is = took_told (did.Fed id) number takes is
  took (did.Cancelled id) number takes is = took_told (did.Cancelled id) number takes is
  took (did.Unknown id) number takes is = took_told (did.Unknown id) number takes is

  pub took_fault : (e : PeerError) → FaultsAreTold → (e ≡ error.NoMemory → ⊥) → IsUntaken hub t h x e
      → after ≡ before ++ line_at p.side (codes "fault " ++ peer_words e) → HasTaken hub t h (with p x) now before after
  took_fault (error.Next e) told some un is = taken_fault un.0 (next_words e) un.2 (sym (told t.config e un.0 un.1)) is
  took_fault (error.InUse id) told some un is =
      let next = of_next (IsUnhandled hub t x (error.InUse id)) un in
      taken_message next.0 (InUse next.2.call) next.1 next.2.stands tt (codes "fault " ++ in_use_words id) (id, (next.2.taken, refl)) is
  took_fault error.TooMany told some un is =
      let next = of_next (IsUnhandled hub t x error.TooMany) un in
      taken_message next.0 (TooMany next.2.call) next.1 next.2.stands tt (codes "fault too-many") refl is
  took_fault error.Flood told some un is =
      let next = of_next (IsUnhandled hub t x error.Flood) un in
      taken_message next.0 Flood next.1 next.2 tt (codes "fault flood") refl is
  took_fault error.NoMemory told some un is = absurd (some refl)

  -- no whole frame has come
  pub took_none : Takes hub t h x now None → TakesOne hub t h (with p x) now before before false
  took_none takes = (takes.1, plays_still hub t h p plays x takes.2, refl)
