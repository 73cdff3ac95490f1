-- The laws that crates above use, each as its public function states it.
use Rattle.std.proofs.Common.{◌++◌, List, ℕ, ◌+◌, ◌≤◌, length, refl, sym, ap, subst, arith, length-append}
use Rattle.std.proofs.lemmas.List.{take-append-le}
use Rattle.hf_split.specs.declared.framing.Framing.{Framing}
use Rattle.hf_split.specs.declared.framing.Framing.TheVariants.{Record, Length}
use Rattle.hf_split.specs.VarInts.{shortest}
use Rattle.hf_split.specs.Cuts.{IsPlain, IsFrame, CanWrap, wrapped}
use Rattle.hf_split.specs.Laws.{HasOneBeginning, TooLongBeginsNone, BadLengthBeginsNone, TooLongStays, BadLengthStays, WrappedBegins, WrappedIsShortest}
use Rattle.hf_split.proofs.VarIntFronts.{var_int_more, no_end_more}
use Rattle.hf_split.proofs.Digits.{var_int_below, shortest_is_var_int, shortest_is_shortest}
use Rattle.hf_split.proofs.Finding.{start_of, frame_not_faulty, one_fault}
use Rattle.hf_split.proofs.Spellings.{begins_front, too_long_begins_none as none_begins, bad_length_begins_none as none_begins_bad}

pub one_beginning : HasOneBeginning
one_beginning framing most bytes = record {
  some = start_of framing most bytes;
  frame_is_no_fault = frame_not_faulty framing most bytes;
  one_fault = one_fault framing most bytes;
}

pub too_long_stays : TooLongStays
too_long_stays Record most bytes more long =
    (omega (arith, long.0, length-append bytes more), subst IsPlain (sym (take-append-le (most + 1) bytes more (omega (arith, long.0)))) long.1)
too_long_stays Length most bytes more long = (long.0, (long.1.0, var_int_more bytes more long.0 long.1.1))

pub bad_length_stays : BadLengthStays
bad_length_stays Record bytes more bad = bad
bad_length_stays Length bytes more bad = no_end_more bytes more bad

pub too_long_begins_none : TooLongBeginsNone
too_long_begins_none framing most bytes more item long begins = none_begins framing most (bytes ++ more) item (too_long_stays framing most bytes more long) begins

pub bad_length_begins_none : BadLengthBeginsNone
bad_length_begins_none framing most bytes more item bad begins = none_begins_bad framing most (bytes ++ more) item (bad_length_stays framing bytes more bad) begins

wrapped_frame : (framing : Framing) (most : ℕ) (frame : List ℕ) → CanWrap framing frame → length frame ≤ most → IsFrame framing most (wrapped framing frame)
wrapped_frame Record most frame can short = record { short = short; spells = (refl, can) }
wrapped_frame Length most frame can short = record { short = short; spells = (shortest (length frame), (shortest_is_var_int (length frame) can, refl)) }

pub wrapped_begins : WrappedBegins
wrapped_begins framing most frame more can short = begins_front framing most (wrapped framing frame) more (wrapped_frame framing most frame can short)

pub wrapped_is_shortest : WrappedIsShortest
wrapped_is_shortest Record spelling frame is = (is.1, omega (arith, ap length is.0))
wrapped_is_shortest Length spelling frame is = (
  var_int_below is.0 (length frame) is.1.0,
  omega (arith, ap length is.1.1, length-append is.0 frame, length-append (shortest (length frame)) frame, shortest_is_shortest is.0 (length frame) is.1.0),
)
