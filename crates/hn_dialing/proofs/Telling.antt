-- What the dialer and the lots are told, call by call.
use Rattle.std.proofs.Common.{◌≡◌, ◌≤◌, ◌+◌, ℕ, Bool, true, false, List, [], ◌∷◌, ◌++◌, Option, Some, None, Result, Ok, Err, refl, sym, ap, subst, ◌∙◌, arith, append_assoc, append-nil, OnErr, true≢false, is_some}
use Rattle.std.specs.Result.{IsErrAnd}
use Rattle.std.specs.List.{list_all}
use Rattle.std.proofs.lemmas.Result.{err_from_is_err_and}
use Rattle.hw_door.specs.declared.error.DoorError.{DoorError}
use Rattle.hw_door.specs.declared.heard.Given.{Given}
use Rattle.hw_door.specs.Calls.{Adds, AddsSome}
use Rattle.hw_door.specs.DoorCalls.{DoorCall, given as given_one, failed, to_say, given_in}
use Rattle.hd_dialing.specs.Asks.{Setup}
use Rattle.hd_dialing.specs.Events.{DialEvent, draws}
use Rattle.hd_dialing.specs.Telling.{given}
use Rattle.hn_dialing.specs.declared.connection.Connection.{Connection}
use Rattle.hn_dialing.specs.declared.errors.DialFault.{DialFault}
use Rattle.hn_dialing.specs.Calls.{AreNewLanes, DoesBy, IsCountOf, Stop, Tells, TellsAll, TellsPart, at_dialer, at_memory, fault_of}
use Rattle.hn_dialing.specs.Stands.{Stands}

abbrev pub Draws : Type 0
Draws = Option (List (Option (List ℕ)))

-- ---- draws

pub none_drawn : (told : Draws) → AddsSome told told []
none_drawn None = tt
none_drawn (Some told) = sym (append-nil told)

pub one_drawn : (told now : Draws) (x : Option (List ℕ)) → Adds told now x → AddsSome told now (x ∷ [])
one_drawn told None x e = tt
one_drawn None (Some now) x e = e
one_drawn (Some told) (Some now) x e = e

pub two_drawn : (told mid now : Draws) (x y : Option (List ℕ)) → Adds told mid x → Adds mid now y → AddsSome told now (x ∷ y ∷ [])
two_drawn told mid None x y e f = tt
two_drawn told None (Some now) x y e f = absurd f
two_drawn None (Some mid) (Some now) x y e f = absurd e
two_drawn (Some told) (Some mid) (Some now) x y e f = f ∙ (ap (λ all. all ++ y ∷ []) e ∙ append_assoc told (x ∷ []) (y ∷ []))

abbrev pub Nothing_drawn : List (Option (List ℕ)) → Type 0
Nothing_drawn drawn = drawn ≡ []

-- ---- ways of a dialer, with the bounds of its lanes

abbrev pub Way : (List DoorCall → Type 0) → ℕ → ℕ → List DoorCall → Type 0
Way Go first last calls = Go calls × AreNewLanes (given_in calls) first last

pub from_same : (gs : List Given) (first mid last : ℕ) → mid ≡ first → AreNewLanes gs mid last → AreNewLanes gs first last
from_same gs first mid last e new = subst (λ k. AreNewLanes gs k last) e new

-- ---- what broke off

pub memory_told : (new : List DialEvent) (Goes : List DoorCall → Type 0) (Drew : List (Option (List ℕ)) → Type 0) → Goes [] → Drew [] → TellsPart new Goes Drew at_memory
memory_told new Goes Drew goes drew = record {
  calls = [];
  goes = goes;
  giving = refl;
  no_messages = refl;
  gives = (given new, refl);
  drawn = [];
  drew = drew;
  draws_first = (draws new, refl);
  draws_gave = refl;
}

-- the dialer failed as it was given the one thing that is new
pub call_told : (new : List DialEvent) (next : Given) (why : DoorError) (drawn : List (Option (List ℕ))) (Goes : List DoorCall → Type 0) (Drew : List (Option (List ℕ)) → Type 0)
    → given new ≡ next ∷ [] → drawn ≡ draws new → list_all is_some drawn ≡ true → Goes (failed (to_say next) why ∷ []) → Drew drawn → TellsPart new Goes Drew (at_dialer next why)
call_told new next why drawn Goes Drew g d gave goes drew = record {
  calls = [];
  goes = goes;
  giving = refl;
  no_messages = refl;
  gives = ([], sym g);
  drawn = drawn;
  drew = drew;
  draws_first = ([], append-nil drawn ∙ d);
  draws_gave = gave;
}

-- one thing was given, and all is drawn
pub one_told : (new : List DialEvent) (next : Given) (is_said : Bool) (Goes : List DoorCall → Type 0) (Drew : List (Option (List ℕ)) → Type 0)
    → given new ≡ next ∷ [] → Goes (given_one next is_said ∷ []) → Drew (draws new) → TellsAll new Goes Drew
one_told new next is_said Goes Drew g goes drew = record {
  calls = given_one next is_said ∷ [];
  goes = goes;
  giving = refl;
  no_messages = refl;
  gives = sym g;
  drew = drew;
}

pub none_told : (new : List DialEvent) (Goes : List DoorCall → Type 0) (Drew : List (Option (List ℕ)) → Type 0)
    → given new ≡ [] → Goes [] → Drew (draws new) → TellsAll new Goes Drew
none_told new Goes Drew g goes drew = record {
  calls = [];
  goes = goes;
  giving = refl;
  no_messages = refl;
  gives = sym g;
  drew = drew;
}

-- ---- by results

pub tells_err : {T : Type 0} (new : List DialEvent) (Goes : List DoorCall → Type 0) (Drew : List (Option (List ℕ)) → Type 0) (stop : Stop) (r : Result T DialFault)
    → IsErrAnd r (λ e. e ≡ fault_of stop) → TellsPart new Goes Drew stop → Tells new Goes Drew r
tells_err new Goes Drew stop r err part =
    let p = err_from_is_err_and r err in subst (λ a. Tells new Goes Drew a) (sym p.1) (stop, p.2, part)

module _ {T : Type 0} (May : List DialEvent → Type 0) (after : Setup → List DialEvent → List DialEvent) (old now : Connection)
    (Goes : List DoorCall → Type 0) (Drew : List (Option (List ℕ)) → Type 0) where
  pub does_err : (stop : Stop) (new : List DialEvent) (r : Result T DialFault) → IsErrAnd r (λ e. e ≡ fault_of stop) → TellsPart new Goes Drew stop
      → ((s : Setup) (h : List DialEvent) → Stands s old h → May h → after s h ≡ new ++ h) → DoesBy May after old now Goes Drew r
  does_err stop new r err part adds =
      let p = err_from_is_err_and r err in
      subst (λ a. DoesBy May after old now Goes Drew a) (sym p.1) (record { new = new; stop = stop; cause = p.2; tells = part; adds = adds })

-- the same where what broke off is told by a result
pub does_broken : {T : Type 0} (U : Type 0) (May : List DialEvent → Type 0) (after : Setup → List DialEvent → List DialEvent) (old now : Connection)
    (Goes : List DoorCall → Type 0) (Drew : List (Option (List ℕ)) → Type 0) (why : DialFault) (new : List DialEvent) (r : Result T DialFault) → IsErrAnd r (λ e. e ≡ why)
    → Tells {T = U} new Goes Drew (Err why) → ((s : Setup) (h : List DialEvent) → Stands s old h → May h → after s h ≡ new ++ h) → DoesBy May after old now Goes Drew r
does_broken U May after old now Goes Drew why new r err tells adds =
    does_err May after old now Goes Drew tells.0 new r (subst (λ w. IsErrAnd r (λ e. e ≡ w)) tells.1 err) tells.2 adds

-- nothing drawn is told as any lots tell it
pub undrawn_too : {T : Type 0} (new : List DialEvent) (Goes : List DoorCall → Type 0) (Drew : List (Option (List ℕ)) → Type 0) (r : Result T DialFault) → Drew []
    → Tells new Goes (λ drawn. drawn ≡ []) r → Tells new Goes Drew r
undrawn_too new Goes Drew (Ok a) drew t =
    record { calls = t.calls; goes = t.goes; giving = t.giving; no_messages = t.no_messages; gives = t.gives; drew = subst Drew (sym t.drew) drew }
undrawn_too new Goes Drew (Err why) drew (stop, cause, t) = (
  stop,
  cause,
  record {
    calls = t.calls;
    goes = t.goes;
    giving = t.giving;
    no_messages = t.no_messages;
    gives = t.gives;
    drawn = t.drawn;
    drew = subst Drew (sym t.drew) drew;
    draws_first = t.draws_first;
    draws_gave = t.draws_gave;
  },
)

-- what is told of what is heard and learned beside
pub told_same : (new other : List DialEvent) (Goes : List DoorCall → Type 0) (Drew : List (Option (List ℕ)) → Type 0) → given other ≡ given new → draws other ≡ draws new
    → TellsAll new Goes Drew → TellsAll other Goes Drew
told_same new other Goes Drew g d t =
    record { calls = t.calls; goes = t.goes; giving = t.giving; no_messages = t.no_messages; gives = t.gives ∙ sym g; drew = subst Drew (sym d) t.drew }

pub part_same : (new other : List DialEvent) (Goes : List DoorCall → Type 0) (Drew : List (Option (List ℕ)) → Type 0) (stop : Stop) → given other ≡ given new → draws other ≡ draws new
    → TellsPart new Goes Drew stop → TellsPart other Goes Drew stop
part_same new other Goes Drew stop g d t = record {
  calls = t.calls;
  goes = t.goes;
  giving = t.giving;
  no_messages = t.no_messages;
  gives = (t.gives.0, t.gives.1 ∙ sym g);
  drawn = t.drawn;
  drew = t.drew;
  draws_first = (t.draws_first.0, t.draws_first.1 ∙ sym d);
  draws_gave = t.draws_gave;
}

-- ---- counts

pub count_kept : (drawn : List (Option (List ℕ))) (before now : ℕ) → list_all is_some drawn ≡ true → IsCountOf drawn before now → now ≡ before
count_kept [] before now gave count = count
count_kept (Some x ∷ drawn) before now gave count = count_kept drawn before now gave count
count_kept (None ∷ drawn) before now gave count = absurd (true≢false (sym gave))

pub at_most_itself : (n : ℕ) → n ≤ n
at_most_itself n = omega arith

-- what broke off left the lots' count as it was
pub lots_kept : {T : Type 0} (May : List DialEvent → Type 0) (after : Setup → List DialEvent → List DialEvent) (old now : Connection) (Goes : List DoorCall → Type 0)
    (told since : Draws) (before later : ℕ) (why : DialFault) (r : Result T DialFault) → r ≡ Err why
    → DoesBy May after old now Goes (λ drawn. AddsSome told since drawn × IsCountOf drawn before later) r → later ≡ before
lots_kept May after old now Goes told since before later why r e does =
    let broken = subst (λ k. DoesBy May after old now Goes (λ drawn. AddsSome told since drawn × IsCountOf drawn before later) k) e does in
    count_kept broken.tells.drawn before later broken.tells.draws_gave broken.tells.drew.1

pub on_err : {T E : Type 0} (P : Type 0) (r : Result T E) → P → OnErr r P
on_err P (Ok a) is = tt
on_err P (Err why) is = is
