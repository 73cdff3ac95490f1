use Rattle.hq_resend.proofs.Places.{ring-IsWithin}
use Rattle.hq_resend.proofs.resend.Resend.shows_its_bounds.Goals as goal

pub returns : goal.returns
returns c = rw (← c.self.view_is) (ring-IsWithin c.self.inside c.self.invariant)
