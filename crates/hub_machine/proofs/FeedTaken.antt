-- What a peer takes, one after another, until nothing is left.
use Rattle.std.proofs.Common.{inl, inr, ◌≡◌, ◌⊎◌, ℕ, zero, suc, ◌+◌, ◌-◌, ◌^◌, ◌<◌, ◌≤◌, Bool, true, false, ◌&&◌, List, [], ◌∷◌, ◌++◌, length, Option}
use Rattle.std.proofs.Common.{Some, None, option_map, refl, sym, ap, ◌∙◌, subst, arith, append_assoc, if◌then◌else◌, true≢false}
use Rattle.std.proofs.lemmas.Bool.{eq-eqb}
use Rattle.std.specs.List.{list_all}
use Rattle.hm_message.specs.declared.message.Message.{Message}
use Rattle.hd_delivery.specs.declared.vocabulary.Reason.{Reason}
use Rattle.hd_delivery.specs.declared.vocabulary.Got.TheVariants as gives
use Rattle.hd_delivery.specs.Histories as of
use Rattle.hd_delivery.specs.Histories.{EndEvent, Took, Failed, present_link}
use Rattle.hd_delivery.specs.Processes.{next_frame}
use Rattle.hd_delivery.specs.Bytes.{Wire, ByteStep, Does as Step_of, IsSoundWire, in_frames}
use Rattle.hd_delivery.specs.OneHistory.{IsHistory}
use Rattle.hd_delivery.specs.Following.{Follow}
use Rattle.hd_delivery.specs.Alone.{taking}
use Rattle.hd_delivery.specs.AloneLaws.{TakesFew}
use Rattle.hd_delivery.specs.Bounds.{most_frame}
use Rattle.hd_calls.specs.Hubs.{Hub}
use Rattle.hd_calls.specs.Peers.{Effect, Begins, InUse, TooMany, Brings, Feeds, Flood, Marks, Nothing, PeerEvent, Plain, Reads, Handles, Settings, add}
use Rattle.hd_calls.specs.Peers.{byte_steps, is_shut, reason_of, shuts, steps, waiting}
use Rattle.hd_server.specs.Serves.{is_taking}
use Rattle.hp_peer.specs.declared.did.Did.{Did}
use Rattle.hp_peer.specs.declared.did.Did.TheVariants as did
use Rattle.hp_peer.specs.declared.errors.PeerError.{PeerError}
use Rattle.hp_peer.specs.declared.errors.PeerError.TheVariants as error
use Rattle.hp_peer.specs.declared.peer.Peer.{Peer}
use Rattle.hp_peer.specs.Stands.{Stands}
use Rattle.hp_peer.specs.Taking.{HasHandled, HasRead, IsNext, IsToldAs, IsUnhandled, IsUntaken, OfNext, Takes}
use Rattle.hub_machine.specs.PeerTraffic.{TakesOne, TakesWhole}
use Rattle.hub_machine.proofs.Doing.{shut_stays}

-- ---- what is taken

-- an effect makes no step, or closes the end
shut_or_same : (wire : Wire) (c : of.Config) (b : Bool) (r : Option Reason) (y : List ByteStep)
    → (add (shuts b r) y ≡ y) ⊎ (of.is_closed c (in_frames wire c (add (shuts b r) y)) ≡ true)
shut_or_same wire c true None y = inl refl
shut_or_same wire c true (Some why) y = inl refl
shut_or_same wire c false None y = inl refl
shut_or_same wire c false (Some why) y = inr refl

-- a job that is told to have begun began at this moment
told_taking : (h : List PeerEvent) (now : ℕ) (m : Message) (e : Effect) (told : Did) → IsToldAs h now m e told → is_taking now (Handles m e) ≡ true
told_taking h now m (Begins call since floods) (did.Began job id target arguments) is = eq-eqb since now is.0.moment
told_taking h now m (Begins call since floods) _ is = absurd is
told_taking h now m (InUse call) told is = refl
told_taking h now m (TooMany call) told is = refl
told_taking h now m (Brings n a floods) told is = refl
told_taking h now m (Feeds j k a) told is = refl
told_taking h now m Flood told is = refl
told_taking h now m (Marks j) told is = refl
told_taking h now m Nothing told is = refl

-- the end made these steps, or is closed
abbrev ComesTo : Settings → List PeerEvent → List ByteStep → Type 0
ComesTo t x bs = (byte_steps t x ≡ bs) ⊎ (is_shut t x ≡ true)

-- the message that waited was handled, or the next frame made its step
abbrev IsOne : Settings → List PeerEvent → List PeerEvent → Type 0
IsOne t x ms = ((waiting x ≡ None → ⊥) × ComesTo t (ms ++ x) (byte_steps t x))
    ⊎ ((s : EndEvent) × IsNext t x s × ComesTo t (ms ++ x) (Step_of s ∷ byte_steps t x))

pub record HasTakenOne {H Job : Type 0} (hub : Hub Job) (t : Settings) (x : List PeerEvent) (new : Peer H Job) (now : ℕ) : Type 0 where
  pub moves : List PeerEvent
  pub each : list_all (is_taking now) moves ≡ true
  pub rests : waiting (moves ++ x) ≡ None
  pub one : IsOne t x moves
  pub stands : Stands hub t new (moves ++ x)

module _ {H Job : Type 0} (hub : Hub Job) (t : Settings) (x : List PeerEvent) (new : Peer H Job) (now : ℕ) where
  -- no message
  read : (s : EndEvent) → is_taking now (Plain (Step_of s)) ≡ true → HasRead {H = H} hub t x new s → HasTakenOne {H = H} hub t x new now
  read s takes has = record {
    moves = Plain (Step_of s) ∷ [];
    each = ap (λ b. b && true) takes;
    rests = has.0;
    one = inr (s, has.1, inl refl);
    stands = has.2;
  }

  -- a message that waited
  handled : (m : Message) (e : Effect) → waiting x ≡ Some m → is_taking now (Handles m e) ≡ true → Stands {H = H} hub t new (Handles m e ∷ x)
      → HasTakenOne {H = H} hub t x new now
  handled m e waits takes stands = record {
    moves = Handles m e ∷ [];
    each = ap (λ b. b && true) takes;
    rests = refl;
    one = inl (
      (λ none. let z : ◌≡◌ {A = Option Message} (Some m) None = sym waits ∙ none in absurd (cc)),
      shut_or_same t.wire t.config (is_shut t x) (reason_of e) (byte_steps t x),
    );
    stands = stands;
  }

  -- a message that was read
  read_handled : (m : Message) (e : Effect) → IsNext t x (Took (gives.Message m)) → is_taking now (Handles m e) ≡ true
      → Stands {H = H} hub t new (Handles m e ∷ Reads m ∷ x) → HasTakenOne {H = H} hub t x new now
  read_handled m e next takes stands = record {
    moves = Handles m e ∷ Reads m ∷ [];
    each = ap (λ b. b && true) takes;
    rests = refl;
    one = inr (Took (gives.Message m), next, shut_or_same t.wire t.config (is_shut t (Reads m ∷ x)) (reason_of e) (byte_steps t (Reads m ∷ x)));
    stands = stands;
  }

  by_next : (Holds : Message → List PeerEvent → Type 0) (effect : (m : Message) (y : List PeerEvent) → Holds m y → Effect)
      → ((m : Message) (y : List PeerEvent) (has : Holds m y) → (is_taking now (Handles m (effect m y has)) ≡ true)
      × Stands {H = H} hub t new (Handles m (effect m y has) ∷ y))
      → (o : Option Message) → waiting x ≡ o → OfNext t x o Holds → HasTakenOne {H = H} hub t x new now
  by_next Holds effect each (Some m) e has = handled m (effect m x has) e (each m x has).0 (each m x has).1
  by_next Holds effect each None e has =
      let of_read = each has.0 (Reads has.0 ∷ x) has.2 in
      read_handled has.0 (effect has.0 (Reads has.0 ∷ x) has.2) has.1 of_read.0 of_read.1

  of_told : (told : Did) → OfNext t x (waiting x) (HasHandled {H = H} hub t new now told) → HasTakenOne {H = H} hub t x new now
  of_told told has =
      by_next (HasHandled {H = H} hub t new now told) (λ m y h. h.effect)
      (λ m y h. (told_taking y now m h.effect told h.told_as, h.stands)) (waiting x) refl has

  took : (told : Did) → Takes {H = H} hub t x new now (Some told) → HasTakenOne {H = H} hub t x new now
  took (did.Other got) has = read (Took got) refl has
  took (did.Began job id target arguments) has = of_told (did.Began job id target arguments) has
  took (did.Item call value) has = of_told (did.Item call value) has
  took (did.Ended call ending) has = of_told (did.Ended call ending) has
  took (did.Fed id) has = of_told (did.Fed id) has
  took (did.Cancelled id) has = of_told (did.Cancelled id) has
  took (did.Unknown id) has = of_told (did.Unknown id) has

  refused : (e : PeerError) → (e ≡ error.NoMemory → ⊥) → IsUntaken {H = H} hub t x new e → HasTakenOne {H = H} hub t x new now
  refused (error.Next e) some has = read (Failed has.0) refl has.2
  refused (error.InUse id) some has =
      by_next (IsUnhandled {H = H} hub t new (error.InUse id)) (λ m y h. InUse h.call) (λ m y h. (refl, h.stands)) (waiting x) refl has
  refused error.TooMany some has =
      by_next (IsUnhandled {H = H} hub t new error.TooMany) (λ m y h. TooMany h.call) (λ m y h. (refl, h.stands)) (waiting x) refl has
  refused error.Flood some has =
      by_next (IsUnhandled {H = H} hub t new error.Flood) (λ m y h. Flood) (λ m y h. (refl, h)) (waiting x) refl has
  refused error.NoMemory some has = absurd (some refl)

  taken_one : TakesOne {H = H} hub t x new now true → HasTakenOne {H = H} hub t x new now
  taken_one (inl (told, has)) = took told has
  taken_one (inr (e, some, has)) = refused e some has

-- ---- so many are taken

pub record HasTaken {H Job : Type 0} (hub : Hub Job) (t : Settings) (h : List PeerEvent) (new : Peer H Job) (now n : ℕ) : Type 0 where
  pub moves : List PeerEvent
  pub each : list_all (is_taking now) moves ≡ true
  pub rests : 0 < n → waiting (moves ++ h) ≡ None
  pub taken : List ByteStep
  pub follow : Follow (taking t.wire t.config) (byte_steps t h) taken
  pub few : n ≤ suc (length taken)
  pub are : ComesTo t (moves ++ h) (taken ++ byte_steps t h)
  pub stands : Stands hub t new (moves ++ h)

all_append : (p : PeerEvent → Bool) (xs ys : List PeerEvent) → list_all p xs ≡ true → list_all p ys ≡ true → list_all p (xs ++ ys) ≡ true
all_append p [] ys a b = b
all_append p (x ∷ xs) ys a b = both (p x) (list_all p xs) (list_all p (xs ++ ys)) a (λ f. all_append p xs ys f b)
  where
    both : (d e f : Bool) → (d && e) ≡ true → (e ≡ true → f ≡ true) → (d && f) ≡ true
    both true e f a more = more a
    both false e f a more = absurd (true≢false (sym a))

-- an end that takes a frame isn't closed
live_of : (b : Bool) (o : Option EndEvent) (s : EndEvent) → (if b then None else o) ≡ Some s → b ≡ false
live_of true o s e = absurd (cc)
live_of false o s e = refl

module _ {H Job : Type 0} (hub : Hub Job) (t : Settings) (h : List PeerEvent) (now : ℕ) where
  pub taken_none : (p : Peer H Job) → Stands {H = H} hub t p h → HasTaken {H = H} hub t h p now 0
  taken_none p stands = record {
    moves = [];
    each = refl;
    rests = λ some. absurd (omega (arith, some));
    taken = [];
    follow = tt;
    few = omega arith;
    are = inl refl;
    stands = stands;
  }

  module _ (old new : Peer H Job) (n : ℕ) (has : HasTaken {H = H} hub t h old now n) where
    abbrev x : List PeerEvent
    x = has.moves ++ h

    more : (one : HasTakenOne {H = H} hub t x new now) (taken : List ByteStep)
        → Follow (taking t.wire t.config) (byte_steps t h) taken
        → n + 1 ≤ suc (length taken) → ComesTo t (one.moves ++ x) (taken ++ byte_steps t h) → HasTaken {H = H} hub t h new now (n + 1)
    more one taken follow few are = record {
      moves = one.moves ++ has.moves;
      each = all_append (is_taking now) one.moves has.moves one.each has.each;
      rests = λ some. ap waiting (append_assoc one.moves has.moves h) ∙ one.rests;
      taken = taken;
      follow = follow;
      few = few;
      are = subst (λ y. ComesTo t y (taken ++ byte_steps t h)) (sym (append_assoc one.moves has.moves h)) are;
      stands = subst (λ y. Stands {H = H} hub t new y) (sym (append_assoc one.moves has.moves h)) one.stands;
    }

    -- nothing was taken before
    first : (waiting x ≡ None → ⊥) → n ≡ 0
    first waits = go n refl
      where
        go : (k : ℕ) → n ≡ k → n ≡ 0
        go zero e = e
        go (suc k) e = absurd (waits (has.rests (omega (arith, e))))

    same_end : (ms : List PeerEvent) → ComesTo t x (has.taken ++ byte_steps t h) → ComesTo t (ms ++ x) (byte_steps t x)
        → ComesTo t (ms ++ x) (has.taken ++ byte_steps t h)
    same_end ms are (inr shut) = inr shut
    same_end ms (inl e) (inl f) = inl (f ∙ e)
    same_end ms (inr shut) (inl f) = inr (shut_stays t ms x shut)

    live_end : (s : EndEvent) → IsNext t x s → ComesTo t x (has.taken ++ byte_steps t h) → byte_steps t x ≡ has.taken ++ byte_steps t h
    live_end s next (inl e) = e
    live_end s next (inr shut) =
        absurd (let live = live_of (is_shut t x) (next_frame t.config (steps t x) (present_link (steps t x))) s next in
        let z : true ≡ false = sym shut ∙ live in cc)

    next_end : (ms : List PeerEvent) (s : EndEvent) → byte_steps t x ≡ has.taken ++ byte_steps t h → ComesTo t (ms ++ x) (Step_of s ∷ byte_steps t x)
        → ComesTo t (ms ++ x) (Step_of s ∷ has.taken ++ byte_steps t h)
    next_end ms s same (inl e) = inl (e ∙ ap (λ y. Step_of s ∷ y) same)
    next_end ms s same (inr shut) = inr shut

    by_one : (one : HasTakenOne {H = H} hub t x new now) → IsOne t x one.moves → HasTaken {H = H} hub t h new now (n + 1)
    by_one one (inl (waits, are)) =
        let none = first waits in
        more one has.taken has.follow (omega (arith, none)) (same_end one.moves has.are are)
    by_one one (inr (s, next, are)) =
        let same = live_end s next has.are in
        let few = has.few in
        more one (Step_of s ∷ has.taken) (has.follow, sym (ap (taking t.wire t.config) same) ∙ ap (option_map Step_of) next)
        (omega (arith, few)) (next_end one.moves s same are)

    pub taken_more : TakesOne {H = H} hub t x new now true → HasTaken {H = H} hub t h new now (n + 1)
    taken_more takes =
        let one = taken_one {H = H} {Job = Job} hub t x new now takes in
        by_one one one.one

    -- nothing is left
    pub taken_all : TakesOne {H = H} hub t x new now false → TakesWhole {H = H} hub t h new now
    taken_all none = record {
      moves = has.moves;
      takes = record { taken = has.moves; are = refl; each = has.each; none_waits = none.0; none_left = none.1 };
      stands = none.2;
    }

-- what is told of one more
pub takes_so : {H Job : Type 0} (hub : Hub Job) (t : Settings) (h : List PeerEvent) (new : Peer H Job) (now : ℕ) (more so : Bool) → more ≡ so
    → TakesOne {H = H} hub t h new now more → TakesOne {H = H} hub t h new now so
takes_so {H} hub t h new now more so is takes = subst (λ b. TakesOne {H = H} hub t h new now b) is takes

-- what is refused is taken
pub refused_one : {H Job : Type 0} (hub : Hub Job) (t : Settings) (h : List PeerEvent) (new : Peer H Job) (now : ℕ) (e f : PeerError) → e ≡ f
    → (f ≡ error.NoMemory → ⊥) → IsUntaken {H = H} hub t h new e → TakesOne {H = H} hub t h new now true
refused_one {H} hub t h new now e f is some has = inr (f, some, subst (λ x. IsUntaken {H = H} hub t h new x) is has)

-- what is taken is less than 64 bits count
pub taken_end : {H Job : Type 0} (hub : Hub Job) (t : Settings) (h : List PeerEvent) (p : Peer H Job) (now n : ℕ)
    → TakesFew → IsSoundWire t.limits t.wire → IsHistory t.limits t.wire t.config (byte_steps t h) → t.limits.frame ≤ most_frame
    → HasTaken {H = H} hub t h p now n → 2 ^ 64 - 1 ≤ n → TakesWhole {H = H} hub t h p now
taken_end hub t h p now n few sound history most has over =
    let all = few t.limits t.wire t.config (byte_steps t h) has.taken sound history has.follow in
    let many = has.few in
    absurd (omega (arith, all, many, most, over))
