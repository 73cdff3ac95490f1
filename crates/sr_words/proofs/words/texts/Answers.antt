use Rattle.std.proofs.Common.{◌≡◌, ◌∙◌, ◌≢◌, List, [], ◌∷◌, Option, Some, Bor, ap, arith, length, map, option_map, refl, rules, slice_index_or, sym}
use Rattle.clap.specs.Words.{Text, found_of}
use Rattle.clap.proofs.WalkLemmas.{raw_values-rows}
use Rattle.sr_words.specs.Options.{two_of}
use Rattle.sr_words.proofs.words.texts.Goals as goal

abbrev seen : Option (Bor (List (Bor Text))) → Option (List Text)
seen texts = option_map (λ s. map (λ v. v.now) s.now) texts

-- two texts are the two of them, and any other number of texts none
both : (usual : Text × Text) (s : List (Bor Text)) (d e : Bor Text) → length s ≡ 2
    → ◌≡◌ {A = Text × Text} ((slice_index_or s 0 d).now, (slice_index_or s 1 e).now) (two_of usual (Some (map (λ v. v.now) s)))
both usual [] d e two = absurd (omega arith)
both usual (x ∷ []) d e two = absurd (omega arith)
both usual (x ∷ (y ∷ [])) d e two = refl
both usual (x ∷ (y ∷ (z ∷ rest))) d e two = absurd (omega arith)

neither : (usual : Text × Text) (s : List (Bor Text)) → length s ≢ 2 → usual ≡ two_of usual (Some (map (λ v. v.now) s))
neither usual [] differ = refl
neither usual (x ∷ []) differ = refl
neither usual (x ∷ (y ∷ [])) differ = absurd (differ refl)
neither usual (x ∷ (y ∷ (z ∷ rest))) differ = refl

-- what stands for what `get_strs` gave, stands for the texts by the rows
by_rows : (usual is : Text × Text) (texts given : Option (Bor (List (Bor Text)))) (all : Option (List Text))
    → texts ≡ given → seen texts ≡ all → is ≡ two_of usual (seen given) → is ≡ two_of usual all
by_rows usual is texts given all same found stands = stands ∙ ap (two_of usual) (sym (ap seen same) ∙ found)

pub returns-in_default : goal.returns-in_default
returns-in_default c = by_rows (c.args.usual.0.now, c.args.usual.1.now) _ c.get_strs.result _ _ c.in_default.is
    (c.get_strs.ensures ∙ raw_values-rows (found_of c.args.matches.now) c.args.name.now)
    refl

pub returns : goal.returns
returns c = by_rows (c.args.usual.0.now, c.args.usual.1.now) _ c.get_strs.result _ _ c.in-Some.is
    (c.get_strs.ensures ∙ raw_values-rows (found_of c.args.matches.now) c.args.name.now)
    (both _ c.in-Some.texts.now _ _ (omega arith))

pub returns-then-texts-ne2 : goal.returns-then-texts-ne2
returns-then-texts-ne2 c = by_rows (c.args.usual.0.now, c.args.usual.1.now) _ c.get_strs.result _ _ c.in-Some.is
    (c.get_strs.ensures ∙ raw_values-rows (found_of c.args.matches.now) c.args.name.now)
    (neither _ c.in-Some.texts.now (search (rules, c.if-texts-ne2.true)))
