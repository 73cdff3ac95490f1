-- Whose count of faults rose in a turn.
use Rattle.std.proofs.Common.{◌≡◌, ℕ, ◌≤◌, Bool, List, refl, sym, ap, subst, ◌∙◌}
use Rattle.std.proofs.Common.{Result, Ok, Err}
use Rattle.std.specs.Result.{IsErrAnd}
use Rattle.std.proofs.lemmas.Result.{err_from_is_err_and}
use Rattle.hd_facts.specs.Counts.{one_more}
use Rattle.hw_door.specs.Calls.{IsCaused}
use Rattle.hw_door.specs.declared.error.DoorError.{DoorError}
use Rattle.hw_door.specs.declared.error.DoorError.TheVariants as door
use Rattle.hd_client.specs.Setups.{Setup}
use Rattle.hd_client.specs.Events.{ClientEvent}
use Rattle.sr_client.specs.declared.client.ClientError.{ClientError}
use Rattle.sr_client.specs.declared.client.ClientError.TheVariants as error
use Rattle.sr_client.specs.declared.client.Client.{Client}
use Rattle.sr_client.specs.Clients.{Standing}
use Rattle.sr_client.specs.Running.{Faults, IsCausedBy, error_of_dialer, faults}
use Rattle.sr_client.specs.Turning.{IsAnswer}

same_err : (T U : Type 0) (old new : Faults) (why : ClientError) → IsCausedBy {T = T} old new (Err why) → IsCausedBy {T = U} old new (Err why)
same_err T U old new error.Refused x = x
same_err T U old new error.Dial x = x
same_err T U old new error.Write x = x
same_err T U old new error.Lots x = x
same_err T U old new error.NoMemory x = x
same_err T U old new error.Turns x = x

-- the error that is passed on
pub cause_err : (T U : Type 0) (old new : Faults) (why : ClientError) (r : Result U ClientError) → IsCausedBy {T = T} old new (Err why)
    → IsErrAnd r (λ e. e ≡ why) → IsCausedBy {T = U} old new r
cause_err T U old new why r caused err =
    let p = err_from_is_err_and r err in subst (λ x. IsCausedBy {T = U} old new x) (sym (p.1 ∙ ap Err p.2)) (same_err T U old new why caused)

pub cause_dialer : (old : Faults) (before now lots output : ℕ) (why : DoorError) (r : Result Bool ClientError) → faults before lots output ≡ old
    → IsCaused before now why → IsErrAnd r (λ e. e ≡ error_of_dialer why) → IsCausedBy old (faults now lots output) r
cause_dialer old before now lots output why r same caused err =
    cause_err Bool Bool old (faults now lots output) (error_of_dialer why) r
    (subst (λ o. IsCausedBy {T = Bool} o (faults now lots output) (Err (error_of_dialer why))) same (go why caused)) err
  where
    go : (why : DoorError) → IsCaused before now why → IsCausedBy {T = Bool} (faults before lots output) (faults now lots output) (Err (error_of_dialer why))
    go door.Failed x = (x, refl)
    go door.NoMemory x = ap (λ d. faults d lots output) x

pub cause_output : (old : Faults) (dialer lots before now : ℕ) (r : Result Bool ClientError) → faults dialer lots before ≡ old → before ≤ now → now ≡ one_more before
    → IsErrAnd r (λ e. e ≡ error.Write) → IsCausedBy old (faults dialer lots now) r
cause_output old dialer lots before now r same later once err =
    cause_err Bool Bool old (faults dialer lots now) error.Write r
    (subst (λ o. IsCausedBy {T = Bool} o (faults dialer lots now) (Err error.Write)) same ((later, once), refl)) err

pub cause_memory : (old new : Faults) (r : Result Bool ClientError) → new ≡ old → IsErrAnd r (λ e. e ≡ error.NoMemory) → IsCausedBy old new r
cause_memory old new r same err = cause_err Bool Bool old new error.NoMemory r same err

-- where nothing failed, none rose
pub cause_answer : (old new : Faults) (s : Setup) (c : Client) (h : List ClientEvent) (r : Result Bool ClientError)
    → ((s : Setup) (h : List ClientEvent) → Standing s c h → IsAnswer s h r) → Standing s c h → new ≡ old → IsCausedBy old new r
cause_answer old new s c h (Ok done) answer stands same = same
cause_answer old new s c h (Err why) answer stands same = subst (λ y. IsCausedBy {T = Bool} old new (Err y)) (sym (answer s h stands).0) same
