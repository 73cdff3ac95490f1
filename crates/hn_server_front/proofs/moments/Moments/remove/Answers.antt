use Rattle.std.proofs.Common.{◌≡◌, ◌∙◌, ◌<◌, false, true, sym, ap, subst, arith, length, get_or}
use Rattle.hn_server_front.specs.Moments.{IsInOrder, at, is_within}
use Rattle.hn_server_front.proofs.Placed.{absent, none_at, order_removed, search_found, search_missed, within_removed, within_without}
use Rattle.hn_server_front.proofs.moments.Moments.remove.Goals as goal

pub returns-in-Ok-clause-removed : goal.returns-in-Ok-clause-removed
returns-in-Ok-clause-removed c = λ r since conn.
    let l : c.in-Ok.place < length c.args.self.now.waiting.items = omega (arith, c.in-Ok.ensures.bound, c.deref.ensures.len, c.args.self.now.waiting.ok) in
    let e : get_or c.args.self.now.waiting.items c.in-Ok.place none_at ≡ c.args.one = search_found c.args.one c.in-Ok.place c.args.self.now.waiting.items c.deref.result.now c.binary_search.result c.deref.ensures.value c.binary_search.ensures.position c.in-Ok.is in
    ap (λ ws. is_within (at since conn) ws) c.remove.ensures.items ∙ within_removed (at since conn) c.args.one c.in-Ok.place c.args.self.now.waiting.items r l e

pub returns-in-Ok-clause-order : goal.returns-in-Ok-clause-order
returns-in-Ok-clause-order c = λ r.
    let l : c.in-Ok.place < length c.args.self.now.waiting.items = omega (arith, c.in-Ok.ensures.bound, c.deref.ensures.len, c.args.self.now.waiting.ok) in
    let e : get_or c.args.self.now.waiting.items c.in-Ok.place none_at ≡ c.args.one = search_found c.args.one c.in-Ok.place c.args.self.now.waiting.items c.deref.result.now c.binary_search.result c.deref.ensures.value c.binary_search.ensures.position c.in-Ok.is in
    subst (λ ws. IsInOrder ws) (sym c.remove.ensures.items) (order_removed c.args.one c.in-Ok.place c.args.self.now.waiting.items r l e)

gone : (c : goal.In_default) → IsInOrder c.args.self.now.waiting.items → is_within c.args.one c.args.self.now.waiting.items ≡ false
gone c r = absent c.args.one c.in_default.field-0 c.args.self.now.waiting.items
    (search_missed c.args.one c.in_default.field-0 c.args.self.now.waiting.items c.deref.result.now c.binary_search.result r c.deref.ensures.value (omega (arith, c.in_default.ensures.bound, c.deref.ensures.len, c.args.self.now.waiting.ok)) c.binary_search.ensures.position c.in_default.is)

pub returns-in_default-clause-removed : goal.returns-in_default-clause-removed
returns-in_default-clause-removed c = λ r since conn. within_without (at since conn) c.args.one c.args.self.now.waiting.items (gone c r)

pub returns-in_default-clause-fewer : goal.returns-in_default-clause-fewer
returns-in_default-clause-fewer c = λ r there. absurd (let z : true ≡ false = sym there ∙ gone c r in cc)
