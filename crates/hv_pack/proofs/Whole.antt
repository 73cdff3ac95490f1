-- What holds of all bytes and all values.
use Rattle.std.proofs.Common.{◌≡◌, ◌⊎◌, inl, inr, ℕ, ◌++◌, length, Result, Ok, Err, refl, sym, ap, ◌∙◌}
use Rattle.std.proofs.lemmas.List.{drop_at}
use Rattle.hv_value.specs.Tree.{Tree}
use Rattle.hv_value.specs.Laws.{PairsInOrderAreTheirMap}
use Rattle.hv_pack.specs.declared.error.PackError.{PackError}
use Rattle.hv_pack.specs.Packs.{IsSpelled}
use Rattle.hv_pack.specs.Why.{IsRefused}
use Rattle.hv_pack.specs.Writing.{shortest}
use Rattle.hv_pack.specs.Reading.{read_at}
use Rattle.hv_pack.specs.Laws.{HasOneReading, HasOneRefusal, SpelledIsNotRefused, IsSpelledOrRefused, ShortestReadsBack}
use Rattle.hv_pack.proofs.Takes.{ok_is}
use Rattle.hv_pack.proofs.Placed.{spelled, read_again, not_read, refused_again}
use Rattle.hv_pack.proofs.Shortest.{is_spelling}

pub one_reading : HasOneReading
one_reading bytes at t u end other fits h g =
    let same = ok_is (t, end) (u, other) (sym (read_again bytes at t end fits h) ∙ read_again bytes at u other fits g) in
    (ap (λ (x : Tree × ℕ). x.0) same, ap (λ (x : Tree × ℕ). x.1) same)

abbrev found : Tree × ℕ → Result (Tree × ℕ) PackError
found x = Ok x

abbrev failed : PackError → Result (Tree × ℕ) PackError
failed e = Err e

same_error : (e f : PackError) → failed e ≡ failed f → e ≡ f
same_error e f h = cc

never_both : (x : Tree × ℕ) (e : PackError) → found x ≡ failed e → ⊥
never_both x e h = absurd cc

pub one_refusal : HasOneRefusal
one_refusal bytes at e f h g = same_error e f (sym (refused_again bytes at e h) ∙ refused_again bytes at f g)

pub spelled_is_not_refused : SpelledIsNotRefused
spelled_is_not_refused bytes at t end e fits h g = never_both (t, end) e (sym (read_again bytes at t end fits h) ∙ refused_again bytes at e g)

pub is_spelled_or_refused : IsSpelledOrRefused
is_spelled_or_refused bytes at fits = go (read_at bytes at) refl
  where
    go : (r : Result (Tree × ℕ) PackError) → read_at bytes at ≡ r → ((t : Tree) × (end : ℕ) × IsSpelled bytes at t end) ⊎ ((e : PackError) × IsRefused bytes at e)
    go (Ok x) h = inl (x.0, x.1, spelled bytes at x.0 x.1 fits h)
    go (Err e) h = inr (e, not_read bytes at e h)

pub shortest_reads_back : PairsInOrderAreTheirMap → ShortestReadsBack
shortest_reads_back law t before after deep order h =
    record { spelling = shortest t; rest = after; parts = drop_at before (shortest t ++ after) (length before) refl; packs = is_spelling law t deep order h; ends = refl }
