use Rattle.std.proofs.Common.{ap, sym, subst, ◌∙◌}
use Rattle.hd_dialing.specs.Events.{is_upgrade, phase}
use Rattle.hn_dialing.specs.Stands.{Stands, is_negotiate}
use Rattle.hn_dialing.proofs.Keeping.{lost_negotiating, lost_upgrading}
use Rattle.hn_dialing.proofs.connection.Connection.lose.Goals as goal

pub returns-then-negotiates_on : goal.returns-then-negotiates_on
returns-then-negotiates_on c = λ s d h st later.
    let at = lost_negotiating s d c.args.now c.args.lane h (phase h) (sym (ap (is_negotiate c.args.lane) st.is_at) ∙ (sym c.negotiates_on.ensures ∙ c.if-negotiates_on.true)) in
    subst (λ g. Stands s c.lose_dial.new.self g) (sym at.0) (c.lose_dial.ensures s h st later at.1)

pub returns-then-upgrades_on : goal.returns-then-upgrades_on
returns-then-upgrades_on c = λ s d h st later.
    let at = lost_upgrading s d c.args.now c.args.lane h (phase h) (sym (ap (is_upgrade c.args.lane) st.is_at) ∙ (sym c.upgrades_on.ensures ∙ c.if-upgrades_on.true)) in
    subst (λ g. Stands s c.lose_dial-then-upgrades_on.new.self g) (sym at.0) (c.lose_dial-then-upgrades_on.ensures s h st later at.1)
