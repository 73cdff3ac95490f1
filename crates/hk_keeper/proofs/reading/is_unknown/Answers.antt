use Rattle.std.proofs.Common.{not, ℕ, List, ◌∙◌, ap}
use Rattle.hd_rooms.specs.Kept.{has_token}
use Rattle.hk_keeper.proofs.Users.{none_passes}
use Rattle.hk_keeper.proofs.reading.is_unknown.Goals as goal

pub returns : goal.returns
returns c =
    ap not c.has_user.ensures ∙ none_passes (has_token c.args.token.now) (λ (user : List ℕ × List ℕ). user.1) c.args.users.now
