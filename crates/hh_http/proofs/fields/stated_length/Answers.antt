use Rattle.std.proofs.Common.{◌∙◌, sym, map, arith}
use Rattle.httparse.specs.Spans.{header_bytes}
use Rattle.hh_http.specs.Heads.{lengths}
use Rattle.hh_http.proofs.LengthFacts.{absent, value, invalid, invalid_is}
use Rattle.hh_http.proofs.fields.stated_length.Goals as goal

pub returns-in-Absent-clause-stated : goal.returns-in-Absent-clause-stated
returns-in-Absent-clause-stated c =
    let fields = map (header_bytes c.args.held.now) c.args.headers.now in
    let a = absent (lengths fields) (sym c.requires.summed ∙ c.in-Absent.is) in
    omega (arith, a.0)

pub returns-in-Absent-clause-agree : goal.returns-in-Absent-clause-agree
returns-in-Absent-clause-agree c =
    let fields = map (header_bytes c.args.held.now) c.args.headers.now in
    (absent (lengths fields) (sym c.requires.summed ∙ c.in-Absent.is)).1

pub returns-in-Value-clause-stated : goal.returns-in-Value-clause-stated
returns-in-Value-clause-stated c =
    let fields = map (header_bytes c.args.held.now) c.args.headers.now in
    let a = value (lengths fields) c.in-Value.n (sym c.requires.summed ∙ c.in-Value.is) in
    omega (arith, a.0, a.2)

pub returns-in-Value-clause-agree : goal.returns-in-Value-clause-agree
returns-in-Value-clause-agree c =
    let fields = map (header_bytes c.args.held.now) c.args.headers.now in
    (value (lengths fields) c.in-Value.n (sym c.requires.summed ∙ c.in-Value.is)).1

pub returns-in-Invalid-clause-stated : goal.returns-in-Invalid-clause-stated
returns-in-Invalid-clause-stated c =
    let fields = map (header_bytes c.args.held.now) c.args.headers.now in
    let a = invalid (lengths fields) (sym c.requires.summed ∙ c.in-Invalid.is) in
    invalid_is c.lengths_agree.result _ c.then_some.result c.then_some.ensures (λ t. a (sym c.lengths_agree.ensures ∙ t))
