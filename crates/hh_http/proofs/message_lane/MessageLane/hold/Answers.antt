use Rattle.std.proofs.Common.{rules, ◌≡◌, ℕ, List, subst, take}
use Rattle.std.specs.Prelude.{is_ok}
use Rattle.hh_http.specs.Messages.{IsKept}
use Rattle.hh_http.proofs.LaneFacts.{kept-extended}
use Rattle.hh_http.proofs.message_lane.MessageLane.hold.Goals.{in-Some, in-None}
use Rattle.hh_http.proofs.message_lane.MessageLane.hold.Goals as goal

pub invariant_of-self : goal.invariant_of-self
invariant_of-self g c =
    let grammar = g.M.Message.grammar in
    let same-head : c.self.inside.head ≡ c.match-self.self-inside.head = elim c.match-self.branch [
      | in-Some w ↦ search rules
      | in-None w ↦ search rules
    ] in
    let same-items : c.self.inside.held.items ≡ c.match-self.self-inside.held.items = elim c.match-self.branch [
      | in-Some w ↦ search rules
      | in-None w ↦ search rules
    ] in
    let before : IsKept grammar c.match-self.self-inside.held.items c.match-self.self-inside.head =
    subst (λ (b : List ℕ). IsKept grammar b c.match-self.self-inside.head) same-items
    (subst (λ o. IsKept grammar c.self.inside.held.items o) same-head c.self.invariant.kept) in
    let kept = kept-extended grammar g.met.M.Message.lawful c.match-self.self-inside.held.items (take c.min-count.result c.args.piece.now) c.extend_from_slice.new.self.items
    c.match-self.self-inside.head (is_ok c.extend_from_slice.result) c.extend_from_slice.ensures.items before in
    elim c.match-self.branch [
      | in-Some w ↦ record { reserved = search rules; filled = search rules; bounded = search rules; kept = kept }
      | in-None w ↦ record { reserved = search rules; filled = search rules; bounded = search rules; kept = kept }
    ]
