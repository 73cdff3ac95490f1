-- The responses of a list of bytes, by the grammar of heads (RFC 9112) and by what their fields say.
use Rattle.std.specs.Prelude.{◌≡◌, ◌⊎◌, ◌==◌, ℕ, List, false, length, Result, IsFalse, codes}
use Rattle.httparse.specs.Grammar.{ResponseHead, print_response, ReadsResponse, HasNoResponse, NeverHasResponse, MayBecomeResponse, status_code}
use Rattle.httparse.specs.Spans.{ResponseExceeds}
use Rattle.http1.specs.Fields.{Header}
use Rattle.hw_lanes.specs.declared.http.Refusal.{Refusal}
use Rattle.hh_http.specs.Refusals.{only_status}
use Rattle.hh_http.specs.Heads.{names_and_values, first_named, agree, lengths}
use Rattle.hh_http.specs.Asks.{HasBody, RefusesBody}
use Rattle.hh_http.specs.Messages.{Grammar, Series, Decides}
use Rattle.hh_http.specs.declared.error.HttpError.{HttpError}
use Rattle.hh_http.specs.declared.response.Response.{Response}
use Rattle.hh_http.specs.declared.response.TheConstants.{SWITCHING}

-- what a head's status and fields say of its response
pub record NamesBy (status : ℕ) (fields : List Header) (r : Response) : Type 0 where
  pub status_is : r.status ≡ status
  pub accept_is : r.accept ≡ first_named (codes "sec-websocket-accept") fields

-- a head with these fields is taken: this is its response but for the body, which has this length
abbrev pub Says : ResponseHead → Response → ℕ → Type 0
Says h r n = NamesBy (status_code h) (names_and_values h.fields) r × HasBody (names_and_values h.fields) n

-- why a head is refused, the first that holds: its lengths are no one number, or its body is in a transfer coding or too long
abbrev pub RefusesBy : List Header → Refusal → Type 0
RefusesBy fields refusal =
    ((refusal ≡ only_status 400) × IsFalse (agree (lengths fields))) ⊎ RefusesBody fields refusal

-- ---- responses

-- the responses of a connection; after one that accepts a WebSocket none follows
abbrev pub response_grammar : Grammar Response
response_grammar =
    record {
      Parts = ResponseHead;
      print = print_response;
      headers = λ h. length h.fields;
      ReadsHead = ReadsResponse;
      HasNone = HasNoResponse;
      NeverHas = NeverHasResponse;
      MayBecome = MayBecomeResponse;
      Exceeds = ResponseExceeds;
      Says = Says;
      Breaks = λ h refusal. RefusesBy (names_and_values h.fields) refusal;
      expects = λ h. false;
      body = λ r. r.body;
      with_body = λ r body. record r { body = body };
      is_last = λ r. r.status == SWITCHING;
    }

-- the bytes are these responses one after the other, and a rest
abbrev pub Gives : List ℕ → List Response → List ℕ → Type 0
Gives bytes responses rest = Series response_grammar bytes responses rest

-- ---- what is read of a head

-- how long the body of a head with these fields is
abbrev pub Measures : List Header → Result ℕ HttpError → Type 0
Measures fields result = Decides (HasBody fields) (RefusesBy fields) result
