use Rattle.std.proofs.Common.{◌≡◌, ◌∷◌, ◌∙◌, sym, ap, arith}
use Rattle.json.specs.Lex.{tokens}
use Rattle.json.specs.Reads.{token_of}
use Rattle.json.specs.Token.{Token}
use Rattle.hv_json.proofs.Objects.{none_read}
use Rattle.hv_json.proofs.object.open_object.Goals as goal

pub returns-in-BeginObject-clause-opened : goal.returns-in-BeginObject-clause-opened
returns-in-BeginObject-clause-opened c =
    let bytes = c.args.bytes.now in
    let same : c.in-Ok.text.now ≡ bytes = c.in-Ok.ensures.0 in
    let here : c.in_ok-reader.reader ≡ tokens bytes = c.in_ok-reader.ensures.ok ∙ ap tokens same in
    let first : c.in_ok-reader.reader ≡ token_of c.in_ok-token.token ∷ c.next.new.self = grind arith in
    let is : c.in_ok-reader.reader ≡ Token.begin_object ∷ c.next.new.self = grind (arith, first) in
    record { utf8 = c.in-Ok.ensures.1; opened = sym here ∙ is }

pub returns-in-BeginObject-clause-unread : goal.returns-in-BeginObject-clause-unread
returns-in-BeginObject-clause-unread c = none_read c.next.new.self
