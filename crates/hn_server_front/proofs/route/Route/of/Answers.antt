use Rattle.std.proofs.Common.{refl, sym, ◌∙◌, ◌≡◌, true, false}
use Rattle.hd_server.specs.Table.{is_base, is_negotiate}
use Rattle.hn_server_front.specs.Routes.{RoutesTo}
use Rattle.hn_server_front.proofs.Routing.{past_base, given}
use Rattle.hn_server_front.proofs.route.Route.of.Goals as goal

pub returns-then-eq-2 : goal.returns-then-eq-2
returns-then-eq-2 c =
    let tested = past_base c.args.base.now c.bytes-path.result.now c.strip_prefix.result _ refl c.strip_prefix.ensures.cases ∙ sym c.eq-2.ensures in
    let at : is_negotiate c.args.base.now c.args.request.now ≡ true = rw (← c.bytes-path.ensures) (tested ∙ c.if-eq-2.true) in
    given c.negotiate.result _ (λ route. RoutesTo c.args.base.now c.args.request.now route) at c.negotiate.ensures

pub returns : goal.returns
returns c =
    let tested = past_base c.args.base.now c.bytes-path.result.now c.strip_prefix.result _ refl c.strip_prefix.ensures.cases ∙ sym c.eq-2.ensures in
    let base : is_base c.args.base.now c.args.request.now ≡ false = rw (← c.bytes-path.ensures) (sym c.eq.ensures ∙ c.if-eq.false) in
    let negotiate : is_negotiate c.args.base.now c.args.request.now ≡ false = rw (← c.bytes-path.ensures) (tested ∙ c.if-eq-2.false) in
    record { entry = rw (base, negotiate) refl; named = tt; by_rows = λ f. rw (base, negotiate) refl }
