use Rattle.std.proofs.Common.{◌≡◌, drop, map}
use Rattle.httparse.specs.Spans.{header_bytes}
use Rattle.hh_http.specs.Heads.{first_named}
use Rattle.hh_http.proofs.fields.first_named.Given as goal

abbrev pub invariant-loop-header : goal.invariant-loop-header
invariant-loop-header l =
    first_named l.name (map (header_bytes l.held) l.headers)
    ≡ first_named l.name (map (header_bytes l.held) (drop l.header-index l.headers))
