-- A client's run: one turn after the others.
use Rattle.std.proofs.Common.{◌≡◌, inl, inr, ℕ, zero, suc, ◌<◌, Bool, true, false, List, [], ◌++◌, Option, Some, None, arith}
use Rattle.std.proofs.Common.{refl, sym, ap, subst, ◌∙◌}
use Rattle.std.proofs.Common.{Result, Ok, Err}
use Rattle.std.specs.Prelude.{not, if◌then◌else◌}
use Rattle.std.specs.Result.{IsErrAnd}
use Rattle.std.specs.Io.KnownBytes.{Appends}
use Rattle.std.proofs.lemmas.Result.{err_from_is_err_and}
use Rattle.std.proofs.lemmas.List.{append_assoc, append-nil}
use Rattle.hm_message.specs.declared.message.Codec.{Codec}
use Rattle.hd_delivery.specs.Worlds.{Limits}
use Rattle.hd_delivery.specs.Bytes.{Wire}
use Rattle.he_wire.specs.Wires.{IsHouseWire}
use Rattle.hub_calc.specs.Client.{client_hub}
use Rattle.hw_door.specs.Calls.{AddsSome}
use Rattle.hw_door.specs.DoorCalls.{DoorCall}
use Rattle.hw_door.specs.declared.error.DoorError.{DoorError}
use Rattle.hw_door.specs.declared.error.DoorError.TheVariants as door
use Rattle.hw_door.specs.declared.heard.Address.{Address}
use Rattle.hd_dialing.specs.Asks.{setup_at}
use Rattle.hd_client.specs.declared.order.Order.{Order}
use Rattle.hd_client.specs.Setups.{Setup}
use Rattle.hd_dialing.specs.Telling.{has_failed_draw}
use Rattle.hd_client.specs.Events.{ClientEvent, GoesOn, IsDone, IsRefused, FailsToDraw, closed_itself, dialing, is_over, moves, outcome}
use Rattle.hd_client.specs.Turns.{Begin}
use Rattle.hd_client.specs.Telling.{Told, Cut, at_dialer, at_output, in_work, nothing_told, and_then, TellsTurn, TellsCut, DialsOn}
use Rattle.sr_client.specs.declared.client.Client.{Client}
use Rattle.sr_client.specs.declared.client.ClientError.{ClientError}
use Rattle.sr_client.specs.declared.client.ClientError.TheVariants as error
use Rattle.sr_client.specs.Clients.{Fits, StandsClient}
use Rattle.sr_client.specs.Lines.{json_words}
use Rattle.sr_client.specs.Running.{Faults, HasRun, IsCausedBy, IsCut, IsSetup, IsWhole, RunsBy, RunsCut, RunsWhole, TurnsBy, WentSo, failed_at}

-- ---- what is told, one after the other

then_nothing : (a : Told) → and_then a nothing_told ≡ a
then_nothing a =
    ap (λ l. record { calls = l; drawn = a.drawn ++ []; printed = a.printed ++ [] }) (append-nil a.calls)
    ∙ (ap (λ l. record { calls = a.calls; drawn = l; printed = a.printed ++ [] }) (append-nil a.drawn)
    ∙ ap (λ l. record { calls = a.calls; drawn = a.drawn; printed = l }) (append-nil a.printed))

then_assoc : (a b c : Told) → and_then (and_then a b) c ≡ and_then a (and_then b c)
then_assoc a b c =
    ap (λ l. record { calls = l; drawn = (a.drawn ++ b.drawn) ++ c.drawn; printed = (a.printed ++ b.printed) ++ c.printed }) (append_assoc a.calls b.calls c.calls)
    ∙ (ap (λ l. record { calls = a.calls ++ (b.calls ++ c.calls); drawn = l; printed = (a.printed ++ b.printed) ++ c.printed }) (append_assoc a.drawn b.drawn c.drawn)
    ∙ ap (λ l. record { calls = a.calls ++ (b.calls ++ c.calls); drawn = a.drawn ++ (b.drawn ++ c.drawn); printed = l }) (append_assoc a.printed b.printed c.printed))

module _ (s : Setup) (script : List Order) where
  -- a turn more
  dials_more : (AtEnd : List ClientEvent → Type 0) (n : ℕ) (first h after : List ClientEvent) (told own : Told) (begin : Begin)
      → DialsOn client_hub s script (λ k. k ≡ h) n first told → outcome s h ≡ GoesOn → TellsTurn client_hub s script begin h after own → AtEnd after
      → DialsOn client_hub s script AtEnd (suc n) first (and_then told own)
  dials_more AtEnd zero first h after told own begin (none, is) on tells end = (
    ap (outcome s) is ∙ on,
    (
      begin,
      after,
      own,
      nothing_told,
      subst (λ k. TellsTurn client_hub s script begin k after own) (sym is) tells,
      ap (λ t. and_then t own) none ∙ sym (then_nothing own),
      (refl, end),
    ),
  )
  dials_more AtEnd (suc n) first h after told own begin (goes, (b, mid, part, rest, turn, all, more)) on tells end = (
    goes,
    (
      b,
      mid,
      part,
      and_then rest own,
      turn,
      ap (λ t. and_then t own) all ∙ then_assoc part rest own,
      dials_more AtEnd n mid h after rest own begin more on tells end,
    ),
  )

  -- the same with what else holds at the end
  dials_as : (P Q : List ClientEvent → Type 0) → ((k : List ClientEvent) → P k → Q k) → (n : ℕ) (first : List ClientEvent) (told : Told)
      → DialsOn client_hub s script P n first told → DialsOn client_hub s script Q n first told
  dials_as P Q turns zero first told (none, end) = (none, turns first end)
  dials_as P Q turns (suc n) first told (on, (b, mid, part, rest, turn, all, more)) = (on, (b, mid, part, rest, turn, all, dials_as P Q turns n mid rest more))

-- ---- what went

adds_then : {A : Type 0} (a b c : Option (List A)) (xs ys : List A) → AddsSome a b xs → AddsSome b c ys → AddsSome a c (xs ++ ys)
adds_then a b None xs ys x y = tt
adds_then a None (Some n) xs ys x y = absurd y
adds_then None (Some m) (Some n) xs ys x y = absurd x
adds_then (Some k) (Some m) (Some n) xs ys x y = y ∙ ap (λ l. l ++ ys) x ∙ append_assoc k xs ys

pub adds_none : {A : Type 0} (a : Option (List A)) → AddsSome a a []
adds_none None = tt
adds_none (Some xs) = sym (append-nil xs)

pub appends_then : (a b c : Option (List ℕ)) (xs ys : List ℕ) → Appends a b xs → Appends b c ys → Appends a c (xs ++ ys)
appends_then None b c xs ys x y = tt
appends_then (Some k) None c xs ys x y = absurd x
appends_then (Some k) (Some m) None xs ys x y = absurd y
appends_then (Some k) (Some m) (Some n) xs ys x y = y ∙ ap (λ l. l ++ ys) x ∙ append_assoc k xs ys

pub appends_none : (a : Option (List ℕ)) → Appends a a []
appends_none None = tt
appends_none (Some xs) = sym (append-nil xs)

joined : (a b last : List DoorCall) → (a ++ []) ++ (b ++ last) ≡ (a ++ b) ++ last
joined a b last = ap (λ l. l ++ (b ++ last)) (append-nil a) ∙ sym (append_assoc a b last)

pub went_then : (First Then Both : List DoorCall → Type 0) (d e f : Option (List (Option (List ℕ)))) (k m n : Option (List ℕ)) (last : List DoorCall) (a b : Told)
    → ((x y : List DoorCall) → First x → Then y → Both (x ++ y)) → WentSo First d e k m [] a → WentSo Then e f m n last b → WentSo Both d f k n last (and_then a b)
went_then First Then Both d e f k m n last a b join x y = record {
  goes = subst Both (joined a.calls b.calls last) (join (a.calls ++ []) (b.calls ++ last) x.goes y.goes);
  draws = adds_then d e f a.drawn b.drawn x.draws y.draws;
  puts = appends_then k m n a.printed b.printed x.puts y.puts;
}

pub went_nothing : (Goes : List DoorCall → Type 0) (d : Option (List (Option (List ℕ)))) (k : Option (List ℕ)) → Goes [] → WentSo Goes d d k k [] nothing_told
went_nothing Goes d k goes = record { goes = goes; draws = adds_none d; puts = appends_none k }

-- ---- so far

-- so many turns were done, and the client stands for them
pub record Ran (s : Setup) (script : List Order) (Went : List DoorCall → Told → Type 0) (c : Client) (bound now n : ℕ) : Type 0 where
  pub h : List ClientEvent
  pub told : Told
  pub dials : DialsOn client_hub s script (λ k. k ≡ h) n [] told
  pub went : Went [] told
  pub stands : StandsClient s script c h
  pub fits : Fits bound now h

pub ran_nothing : (s : Setup) (script : List Order) (Goes : List DoorCall → Type 0) (d : Option (List (Option (List ℕ)))) (k : Option (List ℕ)) (c : Client)
    (bound now : ℕ) → Goes [] → StandsClient s script c [] → Ran s script (WentSo Goes d d k k) c bound now 0
ran_nothing s script Goes d k c bound now goes stands = record {
  h = [];
  told = nothing_told;
  dials = (refl, refl);
  went = went_nothing Goes d k goes;
  stands = stands;
  fits = record { below = λ lane e. absurd (let z : false ≡ true = e in cc); unused = λ lane e. refl; timely = omega arith };
}

-- ---- the next turn

module _ (s : Setup) (script : List Order) (First Then Both : List DoorCall → Type 0) (d e f : Option (List (Option (List ℕ)))) (k m i : Option (List ℕ))
    (join : (x y : List DoorCall) → First x → Then y → Both (x ++ y)) where
  abbrev Before : List DoorCall → Told → Type 0
  Before = WentSo First d e k m

  abbrev Now : List DoorCall → Told → Type 0
  Now = WentSo Then e f m i

  abbrev All : List DoorCall → Told → Type 0
  All = WentSo Both d f k i

  open_on : (h : List ClientEvent) → is_over s h ≡ false → outcome s h ≡ GoesOn
  open_on h e = ap (λ b. if not b then GoesOn else (if has_failed_draw (dialing h) then FailsToDraw else (if closed_itself (moves h) then IsDone else IsRefused))) e

  -- a whole turn more
  pub whole_more : (AtEnd : List ClientEvent → Type 0) (c : Client) (bound now n : ℕ) → (r : Ran s script Before c bound now n)
      → IsWhole s script AtEnd Now r.h → RunsWhole s script AtEnd All (suc n)
  whole_more AtEnd c bound now n r w = record {
    told = and_then r.told w.told;
    dials = dials_more s script AtEnd n [] r.h w.after r.told w.told w.begin r.dials (open_on r.h r.stands.goes_on) w.tells w.at_end;
    went = went_then First Then Both d e f k m i [] r.told w.told join r.went w.went;
  }

  -- so many, and one that is cut
  pub cut_more : (cut : Cut) (why : DoorError) (c : Client) (bound now n : ℕ) → (r : Ran s script Before c bound now n)
      → IsCut s script cut why Now r.h → RunsCut s script cut why All n
  cut_more cut why c bound now n r w = record {
    told = and_then r.told w.told;
    dials = (
      r.told,
      w.told,
      refl,
      dials_as s script (λ x. x ≡ r.h) (λ x. TellsCut client_hub s script cut x w.told)
          (λ x is. subst (λ y. TellsCut client_hub s script cut y w.told) (sym is) w.tells) n [] r.told r.dials,
    );
    went = went_then First Then Both d e f k m i (failed_at cut why) r.told w.told join r.went w.went;
  }

  pub ran_more : (c new : Client) (bound now later till n : ℕ) → (r : Ran s script Before c bound now n)
      → IsWhole s script (λ after. StandsClient s script new after × Fits later till after) Now r.h → Ran s script All new later till (suc n)
  ran_more c new bound now later till n r w =
      let more = whole_more (λ x. x ≡ w.after) c bound now n r
      (record { begin = w.begin; after = w.after; told = w.told; tells = w.tells; went = w.went; at_end = refl }) in record {
        h = w.after;
        told = more.told;
        dials = more.dials;
        went = more.went;
        stands = w.at_end.0;
        fits = w.at_end.1;
      }

  -- it ends with a failed turn
  pub run_failed : (Goes : List ClientEvent → Type 0) (why : ClientError) (c : Client) (bound now n turns : ℕ) → n < turns → (r : Ran s script Before c bound now n)
      → TurnsBy s script Goes Now r.h (Err why) → RunsBy s script All turns (Err why)
  run_failed Goes error.Refused c bound now n turns few r w = (suc n, few, whole_more (λ x. outcome s x ≡ IsRefused) c bound now n r w)
  run_failed Goes error.Dial c bound now n turns few r w = (n, few, (w.0, cut_more (at_dialer w.0) door.Failed c bound now n r w.1))
  run_failed Goes error.Write c bound now n turns few r w = (n, few, cut_more at_output door.Failed c bound now n r w)
  run_failed Goes error.Lots c bound now n turns few r w = (suc n, few, whole_more (λ x. outcome s x ≡ FailsToDraw) c bound now n r w)
  run_failed Goes error.NoMemory c bound now n turns few r (inl w) = inr (n, few, inl (cut_more in_work door.NoMemory c bound now n r w))
  run_failed Goes error.NoMemory c bound now n turns few r (inr w) = inr (n, few, inr (w.0, cut_more (at_dialer w.0) door.NoMemory c bound now n r w.1))
  run_failed Goes error.Turns c bound now n turns few r w = absurd w

  pub run_done : (Goes : List ClientEvent → Type 0) (b : Bool) → b ≡ true → (c : Client) (bound now n turns : ℕ) → n < turns
      → (r : Ran s script Before c bound now n) → TurnsBy s script Goes Now r.h (Ok b) → HasRun s script All turns (Ok tt)
  run_done Goes b e c bound now n turns few r w = record {
    by = (suc n, few, whole_more (λ x. outcome s x ≡ IsDone) c bound now n r (subst (λ x. TurnsBy s script Goes Now r.h (Ok x)) e w));
  }

  pub ran_on : (b : Bool) → b ≡ false → (c new : Client) (bound now later till n next : ℕ) → next ≡ suc n → (r : Ran s script Before c bound now n)
      → TurnsBy s script (λ after. StandsClient s script new after × Fits later till after) Now r.h (Ok b) → Ran s script All new later till next
  ran_on b e c new bound now later till n next one r w = subst (λ t. Ran s script All new later till t) (sym one) (
      ran_more c new bound now later till n r
      (subst (λ x. TurnsBy s script (λ after. StandsClient s script new after × Fits later till after) Now r.h (Ok x)) e w))

-- all turns were done
pub run_out : (s : Setup) (script : List Order) (Went : List DoorCall → Told → Type 0) (c : Client) (bound now n turns : ℕ) → n ≡ turns
    → Ran s script Went c bound now n → HasRun s script Went turns (Err error.Turns)
run_out s script Went c bound now n turns same r = record {
  by = subst (λ t. RunsBy s script Went t (Err error.Turns)) same (record {
    told = r.told;
    dials = dials_as s script (λ x. x ≡ r.h) (λ x. outcome s x ≡ GoesOn) (λ x is. ap (outcome s) is ∙ goes_on s r.h r.stands.goes_on) n [] r.told r.dials;
    went = r.went;
  });
}
  where
    goes_on : (s : Setup) (h : List ClientEvent) → is_over s h ≡ false → outcome s h ≡ GoesOn
    goes_on s h e = ap (λ b. if not b then GoesOn else (if has_failed_draw (dialing h) then FailsToDraw else (if closed_itself (moves h) then IsDone else IsRefused))) e

-- ---- the error that is passed on

pub run_by : (s : Setup) (script : List Order) (Went : List DoorCall → Told → Type 0) (turns : ℕ) (why : ClientError) (r : Result Unit ClientError)
    → IsErrAnd r (λ e. e ≡ why) → RunsBy s script Went turns (Err why) → HasRun s script Went turns r
run_by s script Went turns why r err by =
    let p = err_from_is_err_and r err in record { by = subst (λ x. RunsBy s script Went turns x) (sym (p.1 ∙ ap Err p.2)) by }

pub caused_by : (old mid new : Faults) (why : ClientError) (r : Result Unit ClientError) → mid ≡ old → IsCausedBy {T = Bool} mid new (Err why)
    → IsErrAnd r (λ e. e ≡ why) → IsCausedBy old new r
caused_by old mid new why r same caused err =
    let p = err_from_is_err_and r err in
    subst (λ x. IsCausedBy old new x) (sym (p.1 ∙ ap Err p.2)) (go why (subst (λ o. IsCausedBy {T = Bool} o new (Err why)) same caused))
  where
    go : (why : ClientError) → IsCausedBy {T = Bool} old new (Err why) → IsCausedBy {T = Unit} old new (Err why)
    go error.Refused x = x
    go error.Dial x = x
    go error.Write x = x
    go error.Lots x = x
    go error.NoMemory x = x
    go error.Turns x = x

-- ---- the same through more

module _ (s : Setup) (script : List Order) (Went Then : List DoorCall → Told → Type 0) (on : (last : List DoorCall) (told : Told) → Went last told → Then last told) where
  whole_as : (AtEnd : List ClientEvent → Type 0) (n : ℕ) → RunsWhole s script AtEnd Went n → RunsWhole s script AtEnd Then n
  whole_as AtEnd n r = record { told = r.told; dials = r.dials; went = on [] r.told r.went }

  cut_as : (cut : Cut) (why : DoorError) (n : ℕ) → RunsCut s script cut why Went n → RunsCut s script cut why Then n
  cut_as cut why n r = record { told = r.told; dials = r.dials; went = on (failed_at cut why) r.told r.went }

  by_as : (turns : ℕ) (r : Result Unit ClientError) → RunsBy s script Went turns r → RunsBy s script Then turns r
  by_as turns (Ok done) (n, few, r) = (n, few, whole_as (λ h. outcome s h ≡ IsDone) n r)
  by_as turns (Err error.Refused) (n, few, r) = (n, few, whole_as (λ h. outcome s h ≡ IsRefused) n r)
  by_as turns (Err error.Lots) (n, few, r) = (n, few, whole_as (λ h. outcome s h ≡ FailsToDraw) n r)
  by_as turns (Err error.Turns) r = whole_as (λ h. outcome s h ≡ GoesOn) turns r
  by_as turns (Err error.Dial) (n, few, r) = (n, few, (r.0, cut_as (at_dialer r.0) door.Failed n r.1))
  by_as turns (Err error.Write) (n, few, r) = (n, few, cut_as at_output door.Failed n r)
  by_as turns (Err error.NoMemory) (inl r) = inl (on [] nothing_told r)
  by_as turns (Err error.NoMemory) (inr (n, few, inl r)) = inr (n, few, inl (cut_as in_work door.NoMemory n r))
  by_as turns (Err error.NoMemory) (inr (n, few, inr r)) = inr (n, few, inr (r.0, cut_as (at_dialer r.0) door.NoMemory n r.1))

  pub run_as : (turns : ℕ) (r : Result Unit ClientError) → HasRun s script Went turns r → HasRun s script Then turns r
  run_as turns r x = record { by = by_as turns r x.by }

-- the dialer is flushed
pub run_flushed : (s : Setup) (script : List Order) (First Then : List DoorCall → Type 0) (d e : Option (List (Option (List ℕ)))) (k m : Option (List ℕ)) (turns : ℕ)
    (r : Result Unit ClientError) → ((calls : List DoorCall) → First calls → Then calls) → HasRun s script (WentSo First d e k m) turns r
    → HasRun s script (WentSo Then d e k m) turns r
run_flushed s script First Then d e k m turns r more x =
    run_as s script (WentSo First d e k m) (WentSo Then d e k m)
    (λ last told w. record { goes = more (told.calls ++ last) w.goes; draws = w.draws; puts = w.puts }) turns r x

-- memory ran out before the first turn
pub run_none : (s : Setup) (script : List Order) (Goes : List DoorCall → Type 0) (d : Option (List (Option (List ℕ)))) (k : Option (List ℕ)) (turns : ℕ)
    (r : Result Unit ClientError) → Goes [] → IsErrAnd r (λ e. e ≡ error.NoMemory) → HasRun s script (WentSo Goes d d k k) turns r
run_none s script Goes d k turns r goes err = run_by s script (WentSo Goes d d k k) turns error.NoMemory r err (inl (went_nothing Goes d k goes))

-- ---- a setup

pub some_setup : Address → Codec → Limits → Wire → Setup
some_setup address codec limits wire = record { dialing = setup_at 0 address; codec = codec; wire = wire; limits = limits; words = json_words }

pub is_some_setup : (address : Address) (codec : Codec) (limits : Limits) (wire : Wire) → IsHouseWire limits.frame wire
    → IsSetup (some_setup address codec limits wire) address codec limits
unfolding some_setup
is_some_setup address codec limits wire is = record { dialing = refl; speaks = refl; wire = is; holds = refl; words = refl }
