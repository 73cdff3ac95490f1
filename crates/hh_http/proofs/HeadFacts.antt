-- What the spans of a head say of a request, and of a response.
use Rattle.std.proofs.Common.{◌≡◌, ◌≤◌, ◌+◌, ℕ, Bool, false, List, length, take, drop, map, Ok, Err, Option, refl, ap, arith, length-take}
use Rattle.std.proofs.lemmas.List.{length-map}
use Rattle.httparse.specs.Grammar.{Field}
use Rattle.httparse.specs.Spans.{AreFieldsAt, IsRequestOf, IsResponseOf, header_bytes, name_and_value, span_bytes}
use Rattle.httparse.specs.declared.spans.HeaderSpan.{HeaderSpan}
use Rattle.httparse.specs.declared.spans.RequestSpans.{RequestSpans}
use Rattle.httparse.specs.declared.spans.ResponseSpans.{ResponseSpans}
use Rattle.hw_lanes.specs.declared.http.Request.{Request}
use Rattle.hh_http.specs.Heads.{expects_continue}
use Rattle.hh_http.specs.Asks as asks
use Rattle.hh_http.specs.Responses as gives
use Rattle.hh_http.specs.Messages.{Judges}
use Rattle.hh_http.specs.declared.error.HttpError.{HttpError}
use Rattle.hh_http.specs.declared.error.HttpError.TheVariants.{Refused, NoMemory}
use Rattle.hh_http.specs.declared.response.Response.{Response}

-- a head whose fields these headers cover has at most 100 if they are at most 100
fields-few : (held : List ℕ) (headers : List HeaderSpan) (count : ℕ) (fields : List Field) → AreFieldsAt held headers count fields
    → length headers ≤ 100 → length fields ≤ 100
fields-few held headers count fields at few =
    let same = ap length at in
    let spans = length-map (take count headers) (header_bytes held) in
    omega (arith, few, same, spans, length-map fields name_and_value, length-take count headers)

pub request-ok : (held : List ℕ) (headers : List HeaderSpan) (s : RequestSpans) (q : Request) (accept : Option (List ℕ)) (n : ℕ) (expects : Bool)
    → IsRequestOf held headers s → length headers ≤ 100
    → asks.NamesBy (span_bytes held s.method) (span_bytes held s.path) s.version (map (header_bytes held) (take s.headers headers)) q → q.upgrade ≡ accept
    → asks.IsTaken (span_bytes held s.method) s.version (map (header_bytes held) (take s.headers headers)) accept n
    → expects ≡ expects_continue s.version (map (header_bytes held) (take s.headers headers))
    → Judges asks.request_grammar held (Ok (record { message = q; start = s.len; end = s.len + n; expects = expects }))
request-ok held headers s q accept n expects (h, a) few names u taken waits = (
  h,
  drop s.len held,
  n,
  (a.reads, fields-few held headers s.headers h.fields a.fields few),
  (rw (← a.method, ← a.path, ← a.version, ← a.fields) names, rw (← a.method, ← a.version, ← a.fields, u) taken),
  a.len,
  refl,
  rw (← a.version, ← a.fields) waits,
)

pub request-err : (held : List ℕ) (headers : List HeaderSpan) (s : RequestSpans) (name : List ℕ) (e : HttpError)
    → IsRequestOf held headers s → length headers ≤ 100
    → name ≡ span_bytes held s.method → asks.Checks name s.version (map (header_bytes held) (take s.headers headers)) (Err e) → Judges asks.request_grammar held (Err e)
request-err held headers s name (Refused refusal) (h, a) few is refused =
    (h, drop s.len held, (a.reads, fields-few held headers s.headers h.fields a.fields few), rw (← a.method, ← a.version, ← a.fields, ← is) refused)
request-err held headers s name NoMemory o few is refused = tt

pub response-ok : (held : List ℕ) (headers : List HeaderSpan) (s : ResponseSpans) (r : Response) (n : ℕ)
    → IsResponseOf held headers s → length headers ≤ 100
    → gives.NamesBy s.code (map (header_bytes held) (take s.headers headers)) r → asks.HasBody (map (header_bytes held) (take s.headers headers)) n
    → Judges gives.response_grammar held (Ok (record { message = r; start = s.len; end = s.len + n; expects = false }))
response-ok held headers s r n (h, a) few names body = (
  h,
  drop s.len held,
  n,
  (a.reads, fields-few held headers s.headers h.fields a.fields few),
  (rw (← a.code, ← a.fields) names, rw (← a.fields) body),
  a.len,
  refl,
  refl,
)

pub response-err : (held : List ℕ) (headers : List HeaderSpan) (s : ResponseSpans) (e : HttpError) → IsResponseOf held headers s → length headers ≤ 100
    → gives.Measures (map (header_bytes held) (take s.headers headers)) (Err e) → Judges gives.response_grammar held (Err e)
response-err held headers s (Refused refusal) (h, a) few refused =
    (h, drop s.len held, (a.reads, fields-few held headers s.headers h.fields a.fields few), rw (← a.fields) refused)
response-err held headers s NoMemory o few refused = tt
