use Rattle.std.proofs.Common.{◌≡◌, ◌∙◌, ◌≤◌, true, ap, arith, is_ok, insert, vec_capacity, vec_len, if◌then◌else◌}
use Rattle.hn_server_front.specs.Moments.{at, is_within}
use Rattle.hn_server_front.proofs.Placed.{Belongs, search_missed, there_where_found, within_already, within_inserted, order_inserted, succeeded, one_of_two}
use Rattle.hn_server_front.proofs.moments.Moments.add.Goals as goal

-- it has its place, so it is inserted
pub returns-in-Err-clause-added : goal.returns-in-Err-clause-added
returns-in-Err-clause-added c = λ r place since conn.
    let ok : is_ok c.insert-inserted.result ≡ true = succeeded c.insert-inserted.result (vec_capacity c.args.self.now.waiting ≤ vec_len c.args.self.now.waiting) c.insert-inserted.ensures.full (λ full. omega (arith, place, full, c.args.self.now.waiting.ok.0)) in
    ap (λ ws. is_within (at since conn) ws) (c.insert-inserted.ensures.items ∙ ap (λ b. if b then insert c.args.self.now.waiting.items c.in-Err.place c.args.one else c.args.self.now.waiting.items) ok)
    ∙ within_inserted (at since conn) c.args.one c.in-Err.place c.args.self.now.waiting.items

pub returns-in-Err-clause-order : goal.returns-in-Err-clause-order
returns-in-Err-clause-order c = λ r.
    let b : Belongs c.args.one c.in-Err.place c.args.self.now.waiting.items = search_missed c.args.one c.in-Err.place c.args.self.now.waiting.items c.deref.result.now c.binary_search.result r c.deref.ensures.value (omega (arith, c.in-Err.ensures.bound, c.deref.ensures.len, c.args.self.now.waiting.ok)) c.binary_search.ensures.position c.in-Err.is in
    one_of_two (is_ok c.insert-inserted.result) (insert c.args.self.now.waiting.items c.in-Err.place c.args.one) c.args.self.now.waiting.items c.insert-inserted.new.self.items
    (order_inserted c.args.one c.in-Err.place c.args.self.now.waiting.items b r)
    r c.insert-inserted.ensures.items

pub returns-in_default-clause-added : goal.returns-in_default-clause-added
returns-in_default-clause-added c = λ r place since conn. within_already (at since conn) c.args.one c.args.self.now.waiting.items (there_where_found c.args.one c.in_default.field-0 c.args.self.now.waiting.items c.deref.result.now c.binary_search.result c.deref.ensures.value (omega (arith, c.in_default.ensures.bound, c.deref.ensures.len, c.args.self.now.waiting.ok)) c.binary_search.ensures.position c.in_default.is)
