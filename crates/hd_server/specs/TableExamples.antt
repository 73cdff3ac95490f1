-- Requests and lives for the worked rows of the table.
use Rattle.std.specs.Prelude.{ℕ, Bool, false, List, [], ◌∷◌, map, codes, Option, Some, None}
use Rattle.hw_lanes.specs.declared.http.Method.{Method}
use Rattle.hw_lanes.specs.declared.http.Method.TheVariants.{Post}
use Rattle.hw_lanes.specs.declared.http.Request.{Request}
use Rattle.hd_server.specs.declared.vocabulary.Life.{Life}
use Rattle.hd_server.specs.declared.vocabulary.Life.TheVariants.{Unknown, Fresh, Socket, Lost, Polling, Ending}
use Rattle.hd_server.specs.Table.{Caller, Anonymous, Facts, Outcome, outcome}

abbrev pub request : Method → List ℕ → List ℕ → Option (List ℕ) → List ℕ → Request
request method path query upgrade body =
    record { method = method; path = path; query = query; bearer = None; upgrade = upgrade; shut = false; body = body }

-- what accepts a key
abbrev pub key : Option (List ℕ)
key = Some (codes "s3pPLMBiTxaQ9kYGzzhZRbK+xOo=")

abbrev pub facts_of : Caller → Bool → Bool → Life → Bool → Facts
facts_of caller busy lots_failed life granted =
    record { caller = caller; busy = busy; lots_failed = lots_failed; life = life; granted = granted }

-- what is done about a request that names no token
abbrev pub done_for : Method → List ℕ → List ℕ → Option (List ℕ) → Caller → Bool → Bool → Outcome
done_for method path query upgrade caller busy lots_failed =
    outcome (codes "/hub") (request method path query upgrade []) (facts_of caller busy lots_failed Unknown false)

-- what is done about a negotiate with this query
abbrev pub negotiated : List ℕ → Caller → Bool → Bool → Outcome
negotiated query caller busy lots_failed = done_for Post (codes "/hub/negotiate") query None caller busy lots_failed

abbrev pub lives : List Life
lives = Unknown ∷ Fresh ∷ Socket 1 ∷ Lost ∷ Polling ∷ Ending ∷ []

-- what is done about a request that names a token, by the token's life, if its end may be resumed or not
abbrev pub done_by_life : Method → Option (List ℕ) → Bool → List Outcome
done_by_life method upgrade granted =
    map (λ life. outcome (codes "/hub") (request method (codes "/hub") (codes "id=abc") upgrade []) (facts_of Anonymous false false life granted)) lives
