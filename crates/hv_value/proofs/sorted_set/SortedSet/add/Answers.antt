use Rattle.std.proofs.Common.{◌≡◌, ◌∙◌, ◌≤◌, true, false, sym, ap, arith, is_ok, insert, vec_capacity, vec_len, if◌then◌else◌, inl, inr}
use Rattle.hv_value.specs.SortedSet.{is_in}
use Rattle.hv_value.proofs.Rising.{added_anew, added_again, belongs_where_missed, absent, succeeded, rising_inserted, one_of_two}
use Rattle.hv_value.proofs.sorted_set.SortedSet.add.Goals as goal
use Rattle.hv_value.proofs.sorted_set.SortedSet.add.Goals.{After-insert-inserted}

-- it has its place, so it is inserted
pub returns-in-Err-clause-added : goal.returns-in-Err-clause-added
returns-in-Err-clause-added c = λ r place.
    let gone : is_in c.args.number c.args.self.now.numbers.items ≡ false = absent c.args.number c.in-Err.place c.args.self.now.numbers.items (belongs_where_missed c.args.number c.in-Err.place c.args.self.now.numbers.items c.deref.result.now c.binary_search.result r c.deref.ensures.value c.binary_search.ensures.position c.in-Err.is) in
    let ok : is_ok c.insert-inserted.result ≡ true = succeeded c.insert-inserted.result (vec_capacity c.args.self.now.numbers ≤ vec_len c.args.self.now.numbers) c.insert-inserted.ensures.full (λ full. elim place [ inl e ↦ (let z : true ≡ false = sym e ∙ gone in cc) | inr l ↦ omega (arith, l, full, c.args.self.now.numbers.ok.0) ]) in
    (added_anew c.args.number c.in-Err.place c.args.self.now.numbers.items c.deref.result.now c.insert-inserted.new.self.items c.binary_search.result r c.deref.ensures.value c.binary_search.ensures.position c.in-Err.is
    (c.insert-inserted.ensures.items ∙ ap (λ b. if b then insert c.args.self.now.numbers.items c.in-Err.place c.args.number else c.args.self.now.numbers.items) ok)).0

pub returns-in-Err-clause-rising : goal.returns-in-Err-clause-rising
returns-in-Err-clause-rising c = λ r. one_of_two (is_ok c.insert-inserted.result) (insert c.args.self.now.numbers.items c.in-Err.place c.args.number) c.args.self.now.numbers.items c.insert-inserted.new.self.items
    (rising_inserted c.args.number c.in-Err.place c.args.self.now.numbers.items (belongs_where_missed c.args.number c.in-Err.place c.args.self.now.numbers.items c.deref.result.now c.binary_search.result r c.deref.ensures.value c.binary_search.ensures.position c.in-Err.is) r)
    r c.insert-inserted.ensures.items

pub returns-in_default-clause-added : goal.returns-in_default-clause-added
returns-in_default-clause-added c = λ r place. added_again c.args.number c.args.self.now.numbers.items c.deref.result.now c.binary_search.result c.in_default.field-0 r c.deref.ensures.value c.binary_search.ensures.position c.in_default.is
