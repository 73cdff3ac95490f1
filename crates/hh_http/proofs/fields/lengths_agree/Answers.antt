use Rattle.std.proofs.Common.{refl, sym, map}
use Rattle.httparse.specs.Spans.{header_bytes}
use Rattle.hh_http.proofs.LengthFacts.{lengths-none, lengths-first}
use Rattle.hh_http.proofs.fields.lengths_agree.Goals as goal

pub returns-in-None : goal.returns-in-None
returns-in-None c =
    sym (lengths-none (map (header_bytes c.args.held.now) c.args.headers.now) (sym c.in-None.ensures))

pub returns-then-is_digits : goal.returns-then-is_digits
returns-then-is_digits c =
    let e = lengths-first (map (header_bytes c.args.held.now) c.args.headers.now) c.in-Some.first.now (sym c.in-Some.ensures) in
    let t = c.is_digits.ensures in
    let b = c.if-is_digits.true in
    let r = c.all_repeat.ensures in
    rw (e, ← t, b, ← r) refl

pub returns-else-is_digits : goal.returns-else-is_digits
returns-else-is_digits c =
    let e = lengths-first (map (header_bytes c.args.held.now) c.args.headers.now) c.in-Some.first.now (sym c.in-Some.ensures) in
    let t = c.is_digits.ensures in
    let b = c.if-is_digits.false in
    rw (e, ← t, b) refl
