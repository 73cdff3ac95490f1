-- Which number, ids and message the next call has, if these are the happenings of the own calls.
-- HubProtocol.md, "Invocations" and "Upload streaming": a call that wants an answer has an id, each of its uploads has one too. How ids are
-- drawn is this project's own: a prefix and the next number in decimal digits.
use Rattle.std.specs.Prelude.{◌≤◌, ℕ, zero, suc, ◌+◌, ◌==◌, List, [], ◌∷◌, ◌++◌, if◌then◌else◌}
use Rattle.hv_value.specs.Tree.{Tree}
use Rattle.hd_calls.specs.declared.vocabulary.CallKind.{CallKind}
use Rattle.hd_calls.specs.declared.vocabulary.CallKind.TheVariants as kind
use Rattle.hd_calls.specs.Numbers.{most_live, most_numbers}
use Rattle.hd_calls.specs.Hubs.{Way, Notify, Call, Stream, Invoked}
use Rattle.hd_calls.specs.Ids.{digits_of}
use Rattle.hd_calls.specs.Rules.{new_live, new_numbers}
use Rattle.hd_calls.specs.Ledgers.{CallHappening}
use Rattle.hd_calls.specs.Tables.{drawn_in, own_live_in}

-- the id of a number
abbrev pub id_with : List ℕ → ℕ → List ℕ
id_with prefix n = prefix ++ digits_of n

-- the ids of so many numbers after n
abbrev pub ids_after : List ℕ → ℕ → ℕ → List (List ℕ)
ids_after prefix n zero = []
ids_after prefix n (suc u) = id_with prefix (suc n) ∷ ids_after prefix (suc n) u

-- how something of this kind is called under this id
abbrev pub way_with : CallKind → List ℕ → Way
way_with kind.Notify id = Notify
way_with kind.Call id = Call id
way_with kind.Stream id = Stream id

-- the number of a call, if the last one drawn is this: the next one, but 0 for a Notify without uploads, which draws none
abbrev pub number_after : CallKind → ℕ → ℕ → ℕ
number_after kind.Notify uploads last = if uploads == 0 then 0 else suc last
number_after kind.Call uploads last = suc last
number_after kind.Stream uploads last = suc last

abbrev pub next_number : CallKind → ℕ → List CallHappening → ℕ
next_number kind uploads h = number_after kind uploads (drawn_in h)

-- the call of this number, kind, target and arguments, with so many uploads
abbrev pub call_numbered : List ℕ → ℕ → CallKind → List ℕ → List Tree → ℕ → Invoked
call_numbered prefix n kind target arguments uploads =
    record { way = way_with kind (id_with prefix n); target = target; arguments = arguments; streams = ids_after prefix n uploads }

-- so it is of the next call, if the last number drawn is this
abbrev pub call_after : List ℕ → ℕ → CallKind → List ℕ → List Tree → ℕ → Invoked
call_after prefix last kind target arguments uploads = call_numbered prefix (number_after kind uploads last) kind target arguments uploads

abbrev pub next_call : List ℕ → List CallHappening → CallKind → List ℕ → List Tree → ℕ → Invoked
next_call prefix h kind target arguments uploads = call_after prefix (drawn_in h) kind target arguments uploads

-- the bounds leave room for the call
pub record HasPlaceIn (c : Invoked) (h : List CallHappening) : Type 0 where
  pub few_live : own_live_in h + new_live c ≤ most_live
  pub few_numbers : drawn_in h + new_numbers c.way c ≤ most_numbers
