-- What leaves the tables as they were: a statement that only reads, and one that is refused, unless the disk has shut the connection.
use Rattle.std.proofs.Common.{◌≡◌, ◌⊎◌, inl, inr, ℕ, List, Bool, false, Option, Some, None, Ok, Err, Result, IsTrue, IsErrAnd, MatchResult, sym, ap, subst, ◌∙◌}
use Rattle.std.proofs.lemmas.Bool.{cases_Bool}
use Rattle.sqlite.specs.Order.{Row}
use Rattle.sqlite.specs.declared.error.Error.{Error}
use Rattle.sqlite_resolve.specs.declared.compiled.Compiled.{Compiled}
use Rattle.sqlite_schema.specs.declared.command.Returning.{Returning}
use Rattle.sqlite.specs.Given.{IsPlain}
use Rattle.sqlite.specs.Clock.{timed}
use Rattle.sqlite.specs.Listing.{understood}
use Rattle.sqlite.specs.State.{State, IsUnchanged, IsRolledBack, Fails, IsNotRun, Executes, RunsAlone, RunsCommand, ExecutesIn, FailsToQuery, FailsToShow, Shown, ShowsRows, shows_rows}
use Rattle.hk_sqlite.specs.Stored.{AreTables, IsKept, Holds, content_of, tables}

abbrev pub Spared : State → State → Type 0
Spared old new = IsUnchanged old new ⊎ IsRolledBack old new

same_tables : (s t : State) → IsKept s → IsTrue t.is_open → t.now ≡ s.now → t.committed ≡ s.now → t.in_transaction ≡ false → Holds t (tables s)
same_tables s t has live now committed autocommit =
    (record { is_open = live; autocommit = autocommit; settled = committed ∙ sym now; are_tables = subst AreTables (sym now) has.are_tables }, ap content_of now)

pub unchanged : (old new : State) → IsKept old → IsUnchanged old new → Holds new (tables old)
unchanged old new has it = same_tables old new has it.0.is_open it.0.now_is (it.0.committed_is ∙ has.settled) (it.0.mode ∙ has.autocommit)

pub spared : (old new : State) → IsKept old → Spared old new → IsTrue new.is_open → Holds new (tables old)
spared old new has (inl it) live = unchanged old new has it
spared old new has (inr it) live = let both = it.undone live in same_tables old new has live (both.0 ∙ has.settled) (both.1 ∙ has.settled) it.autocommit

-- whichever way it ends
pub either_way : {T E : Type 0} (P : Type 0) (live : Type 0) (r : Result T E) → P → MatchResult r (λ _. P) (λ _. live → P)
either_way P live (Ok x) p = p
either_way P live (Err e) p = λ _. p

-- a call that answers an error
pub at_err : {T E : Type 0} (Q : E → Type 0) (A : T → Type 0) (P : Type 0) (r : Result T E) → IsErrAnd r Q → P → MatchResult r A (λ _. P)
at_err Q A P (Ok x) h p = absurd h
at_err Q A P (Err y) h p = p

-- ---- why a statement is refused doesn't matter

fails : (old new : State) (too_big : Type 0) (e : Error) → Fails old new too_big e → Spared old new
fails old new too_big e it = inr it.3

not_run : (sql : List ℕ) (params : Row) (old new : State) (e : Error) → IsNotRun old new sql params e → Spared old new
unfolding IsNotRun
not_run sql params old new e (inl it) = inl it.1
not_run sql params old new e (inr it) = fails old new _ e it

command_fails : (old new : State) (sql : List ℕ) (c : Compiled) (params : Row) (e : Error) → RunsCommand old new sql c params (Err e) → Spared old new
command_fails old new sql c params e (inl it) = inl it.1
command_fails old new sql c params e (inr it) = fails old new _ e it

runs_alone : (b : Bool) (old new : State) (sql : List ℕ) (c : Compiled) (params : Row) (e : Error) → RunsAlone b old new sql c params (Err e) → Spared old new
runs_alone b old new sql c params e h = elim (cases_Bool (shows_rows b c)) [
  | inl shows ↦ inl (rw shows at h).1
  | inr runs ↦ command_fails old new sql c params e (rw runs at h)
]

pub write_fails : (sql : List ℕ) (params : Row) (old new : State) (e : Error) → Executes sql params old new (Err e) → Spared old new
unfolding ExecutesIn
write_fails sql params old new e (inl it) = not_run sql params old new e it
write_fails sql params old new e (inr it) = runs_alone false old new sql it.0 _ e it.2

shows : (old new : State) (sql : List ℕ) (c : Compiled) (params : Row) (e : Error) (returning : Option Returning) → FailsToShow old new sql c params e returning → Spared old new
shows old new sql c params e None it = inl it.3
shows old new sql c params e (Some what) it = command_fails old new sql c params e it

pub read_fails : (sql : List ℕ) (params : Row) (old new : State) (e : Error) → FailsToQuery sql params old new e → Spared old new
unfolding FailsToQuery
read_fails sql params old new e (inl it) = not_run sql params old new e it
read_fails sql params old new e (inr it) = shows old new sql it.0 _ e it.0.returning it.2

-- a query changes nothing
pub shown_unchanged : (sql : List ℕ) (params : Row) (old new : State) (rows : List Row) → IsPlain (understood old.now.schema sql) → Shown sql params old new rows → IsUnchanged old new
unfolding Shown
shown_unchanged sql params old new rows plain h =
    let none = (subst IsPlain h.1.is plain).0 in
    (subst (ShowsRows old new sql h.0 (timed params h.0.formats h.1.now) rows) none h.2).3
