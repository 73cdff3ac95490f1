-- A verdict is one at most.
use Rattle.std.proofs.Common.{◌≡◌, Bool, true, false, List, refl, sym, ap, ◌∙◌, subst}
use Rattle.std.specs.Prelude.{◌↔◌, IsTrue}
use Rattle.hd_delivery.specs.Worlds.{Event}
use Rattle.hd_delivery.specs.Bytes.{ByteStep}
use Rattle.hd_trace.specs.declared.verdict.Counts.{Counts}
use Rattle.hd_trace.specs.declared.verdict.Verdict.TheVariants as verdict
use Rattle.hd_trace.specs.declared.verdict.VerdictAlone.TheVariants as alone
use Rattle.hd_trace.specs.Traces.{Setup}
use Rattle.hd_trace.specs.Alone.{frames_alone}
use Rattle.hd_trace.specs.Laws.{LinesTellOneWorld, StepsTellOneHistory, OneVerdict, OneVerdictAlone}
use Rattle.hd_trace.specs.Verdicts.{counts_of, IsCounted, VerdictIsOne, VerdictAloneIsOne}

same_answer : {P : Type 0} (a b : Bool) → (IsTrue a ↔ P) → (IsTrue b ↔ P) → a ≡ b
same_answer true true f g = refl
same_answer true false f g = sym (g.1 (f.0 refl))
same_answer false true f g = f.1 (g.0 refl)
same_answer false false f g = refl

counted_once : (x : Setup) (w : List (Event ByteStep)) (c s d t : Counts) (a b : Bool) → IsCounted x w c s a → IsCounted x w d t b
    → verdict.World c s a ≡ verdict.World d t b
counted_once x w c s d t a b p q =
    ap (λ c. verdict.World c s a) (p.of_client ∙ sym q.of_client)
    ∙ (ap (λ s. verdict.World d s a) (p.of_server ∙ sym q.of_server)
    ∙ ap (λ a. verdict.World d t a) (same_answer a b p.is_still q.is_still))

pub one : OneVerdict → LinesTellOneWorld → VerdictIsOne
one verdicts worlds x lines (verdict.World c s a) (verdict.World d t b) p q =
    counted_once x p.0 c s d t a b p.1.1 (subst (λ w. IsCounted x w d t b) (worlds x lines q.0 p.0 q.1.0 p.1.0) q.1.1)
one verdicts worlds x lines (verdict.World c s a) (verdict.Breaks n r) p q = absurd ((verdicts x lines).apart p.0 n r p.1.0 q)
one verdicts worlds x lines (verdict.Breaks n r) (verdict.World c s a) p q = absurd ((verdicts x lines).apart q.0 n r q.1.0 p)
one verdicts worlds x lines (verdict.Breaks m q) (verdict.Breaks n r) a b =
    let e = (verdicts x lines).once m n q r a b in ap (λ m. verdict.Breaks m q) e.0 ∙ ap (λ q. verdict.Breaks n q) e.1

pub one_alone : OneVerdictAlone → StepsTellOneHistory → VerdictAloneIsOne
one_alone verdicts histories x side steps (alone.History c) (alone.History d) p q =
    ap (λ c. alone.History c) (p.1.1 ∙ (ap (λ h. counts_of (frames_alone x side h)) (histories x side steps p.0 q.0 p.1.0 q.1.0) ∙ sym q.1.1))
one_alone verdicts histories x side steps (alone.History c) (alone.Breaks n r) p q = absurd ((verdicts x side steps).apart p.0 n r p.1.0 q)
one_alone verdicts histories x side steps (alone.Breaks n r) (alone.History c) p q = absurd ((verdicts x side steps).apart q.0 n r q.1.0 p)
one_alone verdicts histories x side steps (alone.Breaks m q) (alone.Breaks n r) a b =
    let e = (verdicts x side steps).once m n q r a b in ap (λ m. alone.Breaks m q) e.0 ∙ ap (λ q. alone.Breaks n q) e.1
