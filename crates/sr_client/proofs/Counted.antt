-- What a client's draws come to: the lots' count of faults rose exactly if one of them failed.
use Rattle.std.proofs.Common.{◌≡◌, ℕ, Bool, true, false, List, [], ◌∷◌, ◌++◌, Option, Some, None, is_some}
use Rattle.std.proofs.Common.{refl, sym, ap, ◌∙◌}
use Rattle.std.specs.Prelude.{◌&&◌, ◌||◌, not}
use Rattle.std.specs.List.{list_all}
use Rattle.std.proofs.lemmas.List.Folds.{list_all-append}
use Rattle.hd_dialing.specs.Events.{Asks, DialEvent, Draws, GivesUp, Hears, Learns, Shuts, Stops, draws}
use Rattle.hd_dialing.specs.Telling.{has_failed_draw}
use Rattle.hn_dialing.specs.Calls.{IsCountOf}
use Rattle.sr_client.specs.Running.{HasRisen}

-- all of these gave something
pub counted_all : (drawn : List (Option (List ℕ))) (before now : ℕ) → IsCountOf drawn before now → list_all is_some drawn ≡ true → now ≡ before
counted_all [] before now count all = count
counted_all (Some one ∷ drawn) before now count all = counted_all drawn before now count all
counted_all (None ∷ drawn) before now count all = let wrong : false ≡ true = all in cc

-- one of these failed
pub counted_failed : (drawn : List (Option (List ℕ))) (before now : ℕ) → IsCountOf drawn before now → list_all is_some drawn ≡ false → HasRisen before now
counted_failed [] before now count some = let wrong : true ≡ false = some in cc
counted_failed (Some one ∷ drawn) before now count some = counted_failed drawn before now count some
counted_failed (None ∷ drawn) before now count some = count

and_false : (b : Bool) → (b && false) ≡ false
and_false true = refl
and_false false = refl

and_true : (b : Bool) → (b && true) ≡ b
and_true true = refl
and_true false = refl

pub draws_gave : (new : List DialEvent) → list_all is_some (draws new) ≡ not (has_failed_draw new)
draws_gave [] = refl
draws_gave (Draws None ∷ new) = list_all-append is_some (draws new) (None ∷ []) ∙ and_false (list_all is_some (draws new))
draws_gave (Draws (Some one) ∷ new) = list_all-append is_some (draws new) (Some one ∷ []) ∙ (and_true (list_all is_some (draws new)) ∙ draws_gave new)
draws_gave (Hears now event ∷ new) = draws_gave new
draws_gave (Asks lane ask ∷ new) = draws_gave new
draws_gave (Learns told ∷ new) = draws_gave new
draws_gave (Shuts lane ∷ new) = draws_gave new
draws_gave (GivesUp ∷ new) = draws_gave new
draws_gave (Stops ∷ new) = draws_gave new

failed_then : (new h : List DialEvent) → has_failed_draw (new ++ h) ≡ (has_failed_draw new || has_failed_draw h)
failed_then [] h = refl
failed_then (Draws None ∷ new) h = refl
failed_then (Draws (Some one) ∷ new) h = failed_then new h
failed_then (Hears now event ∷ new) h = failed_then new h
failed_then (Asks lane ask ∷ new) h = failed_then new h
failed_then (Learns told ∷ new) h = failed_then new h
failed_then (Shuts lane ∷ new) h = failed_then new h
failed_then (GivesUp ∷ new) h = failed_then new h
failed_then (Stops ∷ new) h = failed_then new h

or_false : (a b : Bool) → (a || b) ≡ false → a ≡ false
or_false true b e = e
or_false false b e = refl

or_first : (a b : Bool) → (a || b) ≡ true → b ≡ false → a ≡ true
or_first true b e none = refl
or_first false b e none = sym none ∙ e

-- no draw failed, so the count stays
pub stays_unfailed : (new h : List DialEvent) (before now : ℕ) → has_failed_draw (new ++ h) ≡ false → IsCountOf (draws new) before now → now ≡ before
stays_unfailed new h before now none count =
    counted_all (draws new) before now count
    (draws_gave new ∙ ap not (or_false (has_failed_draw new) (has_failed_draw h) (sym (failed_then new h) ∙ none)))

-- one that is new failed, so it rose
pub rises_failed : (new h : List DialEvent) (before now : ℕ) → has_failed_draw (new ++ h) ≡ true → has_failed_draw h ≡ false → IsCountOf (draws new) before now
    → HasRisen before now
rises_failed new h before now some none count =
    counted_failed (draws new) before now count
    (draws_gave new ∙ ap not (or_first (has_failed_draw new) (has_failed_draw h) (sym (failed_then new h) ∙ some) none))
