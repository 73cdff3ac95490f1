-- What a clause reads of the wires over sockets.
use Rattle.std.specs.Prelude.{◌≡◌, ◌⊎◌, ℕ, IsSome, MatchResult, None, Option, Result}
use Rattle.std.specs.Result.{result_err}
use Rattle.std.specs.declared.io.Error.{Error}
use Rattle.hw_mio.specs.declared.mio_wires.MioWires.{MioWires}

-- why they can't work, if they can't
abbrev pub start_error : {R : Type 0} → MioWires R → Option Error
start_error wires = result_err wires.opened

-- why a connection couldn't be made, if none is known to be made since
abbrev pub connect_error : {R : Type 0} → MioWires R → Option Error
connect_error wires = wires.connect_error

-- the bound below which all numbers lie that were answered
abbrev pub wires_bound : {R : Type 0} → MioWires R → ℕ
wires_bound wires = wires.table

-- the moment polled last
abbrev pub wires_moment : {R : Type 0} → MioWires R → ℕ
wires_moment wires = wires.moment

-- how often they have failed
abbrev pub wires_faults : {R : Type 0} → MioWires R → ℕ
wires_faults wires = wires.faults

-- nothing was numbered, polled or failed yet
pub record IsAtStart {R : Type 0} (now : MioWires R) : Type 0 where
  pub wires : wires_bound now ≡ 0
  pub moment : wires_moment now ≡ 0
  pub faults : wires_faults now ≡ 0
  pub why : connect_error now ≡ None

-- no fault was counted, no moment polled, and no connection was found to be made or not
pub record IsStill {R : Type 0} (before now : MioWires R) : Type 0 where
  pub moment : wires_moment now ≡ wires_moment before
  pub faults : wires_faults now ≡ wires_faults before
  pub why : connect_error now ≡ connect_error before

-- A call on a wire finds nothing of a connection, or, if it is Ok, that it was made, and else why it couldn't be
abbrev pub Finds : {R T E : Type 0} → Result T E → MioWires R → MioWires R → Type 0
Finds result before now = (connect_error now ≡ connect_error before)
    ⊎ MatchResult result (λ _. connect_error now ≡ None) (λ _. IsSome (connect_error now))
