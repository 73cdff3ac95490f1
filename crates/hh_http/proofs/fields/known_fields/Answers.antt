use Rattle.std.proofs.Common.{map}
use Rattle.httparse.specs.Spans.{header_bytes}
use Rattle.hh_http.proofs.LengthFacts.{known-length, known-hosts}
use Rattle.hh_http.proofs.fields.known_fields.Goals as goal

pub returns : goal.returns
returns c =
    let fields = map (header_bytes c.args.held.now) c.args.headers.now in
    record { lengths = known-length fields c.from_spans.result c.from_spans.ensures; hosts = known-hosts fields c.from_spans.result c.from_spans.ensures }
