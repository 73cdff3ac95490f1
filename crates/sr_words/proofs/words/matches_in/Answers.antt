use Rattle.std.proofs.Common.{◌≡◌, ◌&&◌, Bool, true, false, refl}
use Rattle.sr_words.proofs.words.matches_in.Goals as goal

left : (a b : Bool) → (a && b) ≡ true → a ≡ true
left true b e = refl
left false b e = cc

pub returns-clause-rows : goal.returns-clause-rows
returns-clause-rows c = (c.in_ok-try_get_matches_from.ensures.matches (left _ _ c.requires)).0
