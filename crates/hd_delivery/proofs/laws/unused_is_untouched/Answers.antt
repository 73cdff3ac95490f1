use Rattle.hd_delivery.proofs.Local.{nothing_fed, nothing_lent, nothing_taken}
use Rattle.hd_delivery.proofs.laws.unused_is_untouched.Goals as goal

pub returns : goal.returns
returns c h l e = record { fed = nothing_fed l h e; lent = nothing_lent l h e; taken = nothing_taken l h e }
