use Rattle.std.proofs.Common.{◌≡◌, drop, map}
use Rattle.std.specs.List.{list_all}
use Rattle.httparse.specs.Spans.{header_bytes}
use Rattle.hh_http.specs.Heads.{repeats, lengths}
use Rattle.hh_http.proofs.fields.all_repeat.Given as goal

abbrev pub invariant-loop-header : goal.invariant-loop-header
invariant-loop-header l =
    list_all (repeats l.first) (lengths (map (header_bytes l.held) l.headers))
    ≡ list_all (repeats l.first) (lengths (map (header_bytes l.held) (drop l.header-index l.headers)))
