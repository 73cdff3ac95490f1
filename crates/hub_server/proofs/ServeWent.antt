-- What is around a server goes on turn after turn.
use Rattle.std.proofs.Common.{◌≡◌, ℕ, List, [], ◌∷◌, ◌++◌, Option, Some, None, refl, sym, ap, subst, ◌∙◌}
use Rattle.std.specs.Prelude.{option_map}
use Rattle.std.proofs.lemmas.List.{append_assoc, append-nil}
use Rattle.hd_rooms.specs.declared.vocabulary.Asked.{Asked}
use Rattle.hd_rooms.specs.Kept.{Content, KeeperDid}
use Rattle.hd_rooms.specs.KeptLaws.{AnswersJoin}
use Rattle.hd_server.specs.Doings.{ServerEvent, asked, draws}
use Rattle.hub_server.specs.Steps.{AddsAll, Outside, CountsDraws, OutsideFollows}

told_none : {A : Type 0} (o : Option (List A)) → o ≡ option_map (λ (known : List A). known ++ []) o
told_none None = refl
told_none (Some xs) = ap Some (sym (append-nil xs))

told_then : {A : Type 0} (o : Option (List A)) (xs ys : List A)
    → option_map (λ (known : List A). known ++ ys) (option_map (λ (known : List A). known ++ xs) o)
    ≡ option_map (λ (known : List A). known ++ (xs ++ ys)) o
told_then None xs ys = refl
told_then (Some ks) xs ys = ap Some (append_assoc ks xs ys)

kept_none : (o : Option Content) → KeeperDid o [] o
kept_none None = tt
kept_none (Some kept) = refl

adds_none : {A : Type 0} (o : Option (List A)) → AddsAll o o []
adds_none None = tt
adds_none (Some xs) = sym (append-nil xs)

adds_then : {A : Type 0} (a b c : Option (List A)) (xs ys : List A) → AddsAll a b xs → AddsAll b c ys → AddsAll a c (xs ++ ys)
adds_then a b None xs ys x y = tt
adds_then a None (Some n) xs ys x y = absurd y
adds_then None (Some m) (Some n) xs ys x y = absurd x
adds_then (Some k) (Some m) (Some n) xs ys x y = y ∙ ap (λ l. l ++ ys) x ∙ append_assoc k xs ys

draws_then : (k m n : ℕ) (xs ys : List (Option (List ℕ))) → CountsDraws k xs m → CountsDraws m ys n → CountsDraws k (xs ++ ys) n
draws_then k m n [] ys x y = subst (λ i. CountsDraws i ys n) x y
draws_then k m n (d ∷ xs) ys x y = (x.0, x.1, draws_then x.0 m n xs ys x.2 y)

-- nothing was asked
pub went_none : (a : Outside) (h : List ServerEvent) → OutsideFollows a a h h
went_none a h = record {
  asks = [];
  asked_are = sym (append-nil (asked h));
  told = told_none a.answers;
  kept = kept_none a.holds;
  counted = refl;
  drew = [];
  drawn_are = sym (append-nil (draws h));
  drawn_told = adds_none a.drawn;
  failed = refl;
}

pub went_then : AnswersJoin → (a b c : Outside) (h mid after : List ServerEvent) → OutsideFollows a b h mid → OutsideFollows b c mid after → OutsideFollows a c h after
went_then join a b c h mid after x y = record {
  asks = x.asks ++ y.asks;
  asked_are = y.asked_are ∙ ap (λ l. l ++ y.asks) x.asked_are ∙ append_assoc (asked h) x.asks y.asks;
  told = y.told ∙ ap (λ o. option_map (λ (known : List Asked). known ++ y.asks) o) x.told ∙ told_then a.answers x.asks y.asks;
  kept = join.kept a.holds b.holds c.holds x.asks y.asks x.kept y.kept;
  counted = join.faults a.faults b.faults c.faults x.asks y.asks x.counted y.counted;
  drew = x.drew ++ y.drew;
  drawn_are = y.drawn_are ∙ ap (λ l. l ++ y.drew) x.drawn_are ∙ append_assoc (draws h) x.drew y.drew;
  drawn_told = adds_then a.drawn b.drawn c.drawn x.drew y.drew x.drawn_told y.drawn_told;
  failed = draws_then a.failures b.failures c.failures x.drew y.drew x.failed y.failed;
}
