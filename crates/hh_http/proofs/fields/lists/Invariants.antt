use Rattle.std.proofs.Common.{◌≡◌, drop, map}
use Rattle.httparse.specs.Spans.{header_bytes}
use Rattle.http1.specs.Fields.{elements_named, has_option}
use Rattle.hh_http.proofs.fields.lists.Given as goal

abbrev pub invariant-loop-header : goal.invariant-loop-header
invariant-loop-header l =
    has_option l.option (elements_named l.name (map (header_bytes l.held) l.headers))
    ≡ has_option l.option (elements_named l.name (map (header_bytes l.held) (drop l.header-index l.headers)))
