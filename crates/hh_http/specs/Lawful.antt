-- Requests and responses are kinds of messages of which a lane can be made.
use Rattle.std.proofs.Common.{ℕ, List, refl}
use Rattle.httparse.specs.Grammar.{RequestHead, ResponseHead}
use Rattle.httparse.proofs.GrammarLemmas.{ReadsRequest-append, ReadsResponse-append}
use Rattle.hw_lanes.specs.declared.http.Request.{Request}
use Rattle.hh_http.specs.Messages.{IsGrammar}
use Rattle.hh_http.specs.Asks as asks
use Rattle.hh_http.specs.Responses as gives
use Rattle.hh_http.specs.declared.response.Response.{Response}

request-said : (h : RequestHead) (q : Request) (n : ℕ) (body : List ℕ) → asks.Says h q n → asks.Says h (record q { body = body }) n
request-said h q n body (names, taken) = (
  record { method_is = names.method_is; path_is = names.path_is; query_is = names.query_is; bearer_is = names.bearer_is; shut_is = names.shut_is },
  taken,
)

response-said : (h : ResponseHead) (r : Response) (n : ℕ) (body : List ℕ) → gives.Says h r n → gives.Says h (record r { body = body }) n
response-said h r n body (names, has) = (record { status_is = names.status_is; accept_is = names.accept_is }, has)

pub request-grammar : IsGrammar asks.request_grammar
request-grammar =
    record {
      printed = λ bytes h tail reads. reads.1;
      grows = λ bytes more h tail. ReadsRequest-append bytes h tail more;
      bodied = λ q body. refl;
      says = request-said;
      short = λ h q n says. says.1.body.is_short;
    }

pub response-grammar : IsGrammar gives.response_grammar
response-grammar =
    record {
      printed = λ bytes h tail reads. reads.1;
      grows = λ bytes more h tail. ReadsResponse-append bytes h tail more;
      bodied = λ r body. refl;
      says = response-said;
      short = λ h r n says. says.1.is_short;
    }
