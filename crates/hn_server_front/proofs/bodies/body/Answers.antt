use Rattle.std.proofs.Common.{◌≡◌, ◌∙◌, ap, sym}
use Rattle.std.specs.Fmt.{decimal}
use Rattle.std.proofs.lemmas.List.Elements.{same_from_all_zip}
use Rattle.hd_server.specs.Texts.{reconnect_text}
use Rattle.hn_server_front.proofs.Pieces.{front_of, pieces_of, body_for-pieces}
use Rattle.hn_server_front.proofs.bodies.body.Goals as goal
use Rattle.hn_server_front.proofs.bodies.body.Goals.{in-All, in-Sockets, then-reconnect, else-reconnect}

pub returns : goal.returns
returns c =
    let front = c.match-transports.front.now in
    let number = c.as_bytes.result.now in
    let end = c.if-reconnect.end.now in
    let made : c.from_vec.result ≡ pieces_of front number c.bytes.result.now end =
    c.from_vec.ensures ∙ same_from_all_zip _ _ _ c.in_ok-concat.ensures.ok (λ x y r. r) in
    let begun : front ≡ front_of c.args.transports = elim c.match-transports.branch [
      | in-All w ↦ ap (λ r. r.now) w.front-is ∙ sym (ap front_of w.in-All.is)
      | in-Sockets w ↦ ap (λ r. r.now) w.front-is ∙ sym (ap front_of w.in-Sockets.is)
    ] in
    let numbered : number ≡ decimal c.args.conn = c.as_bytes.ensures.value ∙ c.in_ok-number.ensures.ok in
    let ended : end ≡ reconnect_text c.args.reconnect = elim c.if-reconnect.branch [
      | then-reconnect w ↦ ap (λ r. r.now) w.end-is ∙ sym (ap reconnect_text w.if-reconnect.true)
      | else-reconnect w ↦ ap (λ r. r.now) w.end-is ∙ sym (ap reconnect_text w.if-reconnect.false)
    ] in
    made ∙ ap (λ t. pieces_of front number t end) c.bytes.ensures
    ∙ body_for-pieces c.args.transports c.args.conn c.args.token.now c.args.reconnect front number end begun numbered ended
