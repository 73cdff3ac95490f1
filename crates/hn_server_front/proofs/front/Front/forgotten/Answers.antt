use Rattle.std.proofs.Common.{◌+◌, not, length, filter, ap, ◌∙◌}
use Rattle.std.proofs.lemmas.List.{take_all}
use Rattle.hd_server.specs.Lives.{is_known, life_of, live}
use Rattle.hn_server_front.proofs.Forgotten.{forgotten_counted}
use Rattle.hn_server_front.proofs.front.Front.forgotten.Goals as goal

pub returns : goal.returns
returns c = λ h stands.
    let whole = take_all c.loop-waiting.waiting-index c.due-waiting-items.result.now c.loop-waiting-test.false in
    let items = whole ∙ c.due-waiting-items.ensures stands.order in
    let counted = c.loop-waiting.invariant.counted h stands ∙ ap (λ ws. length (filter (λ w. not (is_known (life_of w.conn c.args.now h))) ws)) items in
    ap (λ n. n + length (live c.args.now h)) counted
    ∙ forgotten_counted c.args.self.now h c.args.now stands
