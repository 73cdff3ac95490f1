use Rattle.std.proofs.Common.{◌≡◌, ◌∙◌, ◌-◌, ◌++◌, ℕ, List, length, take, drop, ap, arith, length-drop}
use Rattle.std.proofs.lemmas.List.{take_rest}
use Rattle.sr_client.proofs.Fed.{fed_all, fed_first, fed_more, fed_stopped}
use Rattle.sr_client.proofs.peer.ClientPeer.feed.Goals as goal

pub loop-at-init : goal.loop-at-init
loop-at-init c = record {
  within = c.in_ok-at.ensures.within;
  fed = λ t h plays.
      fed_first t h c.args.now c.args.bytes.now c.args.out.now.items c.feed_piece.new.self c.feed_piece.new.out.items c.in_ok-at.at
      c.in_ok-at.ensures.within (c.in_ok-at.ensures.fed t h plays);
}

pub loop-at-preserved : goal.loop-at-preserved
loop-at-preserved c =
    let bytes = c.args.bytes.now in
    let place = c.loop-at.at in
    let count = c.in_ok-fed.fed in
    let piece : List ℕ = take (length bytes - place) (drop place bytes) in
    let rest : piece ≡ drop place bytes = take_rest bytes place in
    let size : length piece ≡ length bytes - place = ap length rest ∙ length-drop place bytes in
    let few = c.in_ok-fed.ensures.within in
    let left = c.loop-at-test.true in
    let some = c.if-fed-eq0.false in
    record {
      within = (let w = few in let s = size in omega arith);
      fed = λ t h plays.
          let has = c.loop-at.invariant.fed t h plays in
          fed_more t h c.args.now bytes c.args.out.now.items c.loop-at.self c.feed_piece-in-loop-at.new.self c.loop-at.out.items
          c.feed_piece-in-loop-at.new.out.items place count has piece rest (c.in_ok-fed.ensures.fed t (has.moves ++ h) has.goes.plays)
          few (omega (arith, size, left)) (omega (arith, some));
    }

pub returns-then-fed-eq0 : goal.returns-then-fed-eq0
returns-then-fed-eq0 c = λ t h plays.
    let bytes = c.args.bytes.now in
    let place = c.loop-at.at in
    let count = c.in_ok-fed.fed in
    let piece : List ℕ = take (length bytes - place) (drop place bytes) in
    let rest : piece ≡ drop place bytes = take_rest bytes place in
    let size : length piece ≡ length bytes - place = ap length rest ∙ length-drop place bytes in
    let left = c.loop-at-test.true in
    let has = c.loop-at.invariant.fed t h plays in
    fed_stopped t h c.args.now bytes c.args.out.now.items c.loop-at.self c.feed_piece-in-loop-at.new.self c.loop-at.out.items
    c.feed_piece-in-loop-at.new.out.items place count has piece rest (c.in_ok-fed.ensures.fed t (has.moves ++ h) has.goes.plays)
    (omega (arith, size, left)) c.if-fed-eq0.true

pub returns : goal.returns
returns c = λ t h plays.
    fed_all t h c.args.now c.args.bytes.now c.args.out.now.items c.loop-at.self c.loop-at.out.items c.loop-at.at
    (let end = c.loop-at-test.false in omega arith) (c.loop-at.invariant.fed t h plays)
