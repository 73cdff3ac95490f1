-- The longest end that may be held.
use Rattle.std.proofs.Common.{◌≡◌, ◌≤◌, ◌<◌, Bool, true, false, List, [], ◌∷◌, ◌++◌, length, drop, cond, refl, sym, ap, ◌∙◌, subst, arith, true≢false, length-append}
use Rattle.std.specs.Prelude.{nat_le}
use Rattle.std.proofs.lemmas.Bool.{and_parts, and_from, leb-true, le-leb}
use Rattle.std.proofs.lemmas.List.{drop_at}
use Rattle.std.proofs.lemmas.List.Sums.{sum_by-append, sum_by-cons}
use Rattle.hd_rooms.specs.declared.vocabulary.Row.{Row}
use Rattle.hk_latest.specs.Latest.{Fits, IsEnd, IsLatest, LatestContent, HoldsLatest, after_log, fits, latest, weight, weight_of, most_rows, most_row_bytes}

-- ---- what fits

pub Fits-fits : (rows : List Row) → Fits rows → fits rows ≡ true
Fits-fits rows f = and_from _ _ (le-leb (length rows) most_rows f.few) (le-leb (weight_of rows) most_row_bytes f.light)

pub fits-Fits : (rows : List Row) → fits rows ≡ true → Fits rows
fits-Fits rows e =
    let both = and_parts (nat_le (length rows) most_rows) (nat_le (weight_of rows) most_row_bytes) e in
    record { few = leb-true (length rows) most_rows both.0; light = leb-true (weight_of rows) most_row_bytes both.1 }

pub Fits-nil : Fits []
Fits-nil = record { few = omega arith; light = omega arith }

-- the front of what fits
Fits-front : (xs ys : List Row) → Fits (xs ++ ys) → Fits xs
Fits-front xs ys f = record {
  few = omega (arith, f.few, length-append xs ys);
  light = omega (arith, f.light, sum_by-append weight xs ys);
}

-- what doesn't fit doesn't with more
unfit-more : (xs ys : List Row) → fits xs ≡ false → fits (xs ++ ys) ≡ false
unfit-more xs ys e = go (fits (xs ++ ys)) refl
  where
    go : (b : Bool) → fits (xs ++ ys) ≡ b → b ≡ false
    go true h = absurd (true≢false (sym (Fits-fits xs (Fits-front xs ys (fits-Fits (xs ++ ys) h))) ∙ e))
    go false h = refl

-- ---- what is computed

latest-fit : (row : Row) (rows : List Row) → fits (row ∷ rows) ≡ true → latest (row ∷ rows) ≡ row ∷ rows
latest-fit row rows e = ap (λ b. cond b (row ∷ rows) (latest rows)) e

pub latest-unfit : (row : Row) (rows : List Row) → fits (row ∷ rows) ≡ false → latest (row ∷ rows) ≡ latest rows
latest-unfit row rows e = ap (λ b. cond b (row ∷ rows) (latest rows)) e

pub latest-whole : (rows : List Row) → fits rows ≡ true → latest rows ≡ rows
latest-whole [] e = refl
latest-whole (row ∷ rows) e = latest-fit row rows e

-- where the rows don't fit, there is a first one, and without it the latest are the same
pub unfit-some : (rows : List Row) → fits rows ≡ false → 0 < length rows
unfit-some [] e = absurd (true≢false (sym (Fits-fits [] Fits-nil) ∙ e))
unfit-some (row ∷ rows) e = omega arith

pub latest-drop : (rows : List Row) → fits rows ≡ false → latest (drop 1 rows) ≡ latest rows
latest-drop [] e = refl
latest-drop (row ∷ rows) e = sym (latest-unfit row rows e)

-- ---- it is the longest end

-- an end is no longer than all
end-short : (all last : List Row) → IsEnd all last → length last ≤ length all
end-short all last e = omega (arith, ap length e.1, length-append e.0 last)

-- an end of what has one row more is all of it, or an end of what it was
longest-more : (row : Row) (rows held : List Row) → fits (row ∷ rows) ≡ false
    → ((other : List Row) → IsEnd rows other → Fits other → length other ≤ length held)
    → (other : List Row) → IsEnd (row ∷ rows) other → Fits other → length other ≤ length held
longest-more row rows held unfit longest other e f = go e.0 e.1
  where
    go : (before : List Row) → row ∷ rows ≡ before ++ other → length other ≤ length held
    go [] h = absurd (true≢false (sym (Fits-fits (row ∷ rows) (subst Fits (sym h) f)) ∙ unfit))
    go (b ∷ bs) h = longest other (bs, ap (drop 1) h) f

pub latest-is : (all : List Row) → IsLatest all (latest all)
latest-is [] = record { end = ([], refl); fits = Fits-nil; longest = λ other e f. end-short [] other e }
latest-is (row ∷ rows) = go (fits (row ∷ rows)) refl (latest-is rows)
  where
    go : (b : Bool) → fits (row ∷ rows) ≡ b → IsLatest rows (latest rows) → IsLatest (row ∷ rows) (latest (row ∷ rows))
    go true e rest = subst (IsLatest (row ∷ rows)) (sym (latest-fit row rows e))
        (record { end = ([], refl); fits = fits-Fits (row ∷ rows) e; longest = λ other h f. end-short (row ∷ rows) other h })
    go false e rest =
        subst (IsLatest (row ∷ rows)) (sym (latest-unfit row rows e)) (record {
          end = (row ∷ rest.end.0, ap (λ xs. row ∷ xs) rest.end.1);
          fits = rest.fits;
          longest = longest-more row rows (latest rows) e rest.longest;
        })

pub latest-Fits : (rows held : List Row) → held ≡ latest rows → Fits held
latest-Fits rows held e = subst Fits (sym e) (latest-is rows).fits

-- ends of one length are one
ends-same : (all xs ys : List Row) → IsEnd all xs → IsEnd all ys → length xs ≡ length ys → xs ≡ ys
ends-same all xs ys e f h =
    let long = ap length (sym e.1 ∙ f.1) in
    let place : length e.0 ≡ length f.0 = omega (arith, long, length-append e.0 xs, length-append f.0 ys, h) in
    sym (drop_at e.0 xs (length e.0) refl) ∙ ap (drop (length e.0)) (sym e.1 ∙ f.1) ∙ drop_at f.0 ys (length e.0) (sym place)

pub latest-only : (all held : List Row) → IsLatest all held → held ≡ latest all
latest-only all held is =
    let here = latest-is all in
    ends-same all held (latest all) is.end here.end (omega (arith, is.longest (latest all) here.end here.fits, here.longest held is.end is.fits))

pub latest-latest : (all more : List Row) → latest (latest all ++ more) ≡ latest (all ++ more)
latest-latest [] more = refl
latest-latest (row ∷ rows) more = go (fits (row ∷ rows)) refl (latest-latest rows more)
  where
    go : (b : Bool) → fits (row ∷ rows) ≡ b → latest (latest rows ++ more) ≡ latest (rows ++ more) → latest (latest (row ∷ rows) ++ more) ≡ latest (row ∷ (rows ++ more))
    go true e rest = ap (λ xs. latest (xs ++ more)) (latest-fit row rows e)
    go false e rest =
        ap (λ xs. latest (xs ++ more)) (latest-unfit row rows e) ∙ rest
        ∙ sym (latest-unfit row (rows ++ more) (unfit-more (row ∷ rows) more e))

-- what has too great a row in it doesn't fit
unfit-great : (rows : List Row) (row : Row) → most_row_bytes < weight row → fits (rows ++ row ∷ []) ≡ false
unfit-great rows row great = go (fits (rows ++ row ∷ [])) refl
  where
    go : (b : Bool) → fits (rows ++ row ∷ []) ≡ b → b ≡ false
    go true e = absurd (omega (arith, (fits-Fits (rows ++ row ∷ []) e).light, sum_by-append weight rows (row ∷ []), sum_by-cons weight row [], great))
    go false e = refl

pub latest-great : (all : List Row) (row : Row) → most_row_bytes < weight row → latest (all ++ row ∷ []) ≡ []
latest-great [] row great = latest-unfit row [] (unfit-great [] row great)
latest-great (x ∷ xs) row great = latest-unfit x (xs ++ row ∷ []) (unfit-great (x ∷ xs) row great) ∙ latest-great xs row great

-- ---- a keeper of them

pub HoldsLatest-log : (all : List Row) (row : Row) (content : LatestContent) → HoldsLatest all content → HoldsLatest (all ++ row ∷ []) (after_log row content)
HoldsLatest-log all row content holds = record {
  counted = omega (arith, holds.counted, length-append all (row ∷ []));
  held = subst (IsLatest (all ++ row ∷ []))
      (sym (ap (λ rows. latest (rows ++ row ∷ [])) (latest-only all content.rows holds.held) ∙ latest-latest all (row ∷ [])))
      (latest-is (all ++ row ∷ []));
}

pub HoldsLatest-nil : HoldsLatest [] (record { logged = 0; rows = [] })
HoldsLatest-nil = record { counted = refl; held = latest-is [] }
