use Rattle.std.proofs.Common.{◌≡◌, ◌∙◌, ◌-◌, ◌++◌, ℕ, List, length, take, drop, ap, arith, length-drop}
use Rattle.std.proofs.lemmas.List.{take_rest}
use Rattle.hj_jobs.specs.Meaning.{meaning}
use Rattle.hub_machine.proofs.FeedPieces.{fed_all, fed_first, fed_more, fed_stopped}
use Rattle.hub_machine.proofs.peer_traffic.feed_peer.Goals as goal

pub loop-at-init : goal.loop-at-init
loop-at-init g c = record {
  within = c.in_ok-at.ensures.within;
  fed = λ t h s clear.
      fed_first {H = g.row.H.Denot} {Job = g.row.H-Job.Denot} (meaning g.H.Hub.begin_of g.H.Hub.step_of) t h c.args.now c.args.bytes.now
      c.feed_piece.new.peer c.in_ok-at.at c.in_ok-at.ensures.within (c.in_ok-at.ensures.fed t h s clear);
}

pub loop-at-preserved : goal.loop-at-preserved
loop-at-preserved g c =
    let hub = meaning g.H.Hub.begin_of g.H.Hub.step_of in
    let bytes = c.args.bytes.now in
    let place = c.loop-at.at in
    let count = c.in_ok-fed.fed in
    let piece : List ℕ = take (length bytes - place) (drop place bytes) in
    let rest : piece ≡ drop place bytes = take_rest bytes place in
    let size : length piece ≡ length bytes - place = ap length rest ∙ length-drop place bytes in
    let few = c.in_ok-fed.ensures.within in
    let left = c.loop-at-test.true in
    let some = c.if-fed-eq0.false in
    record {
      within = (let w = few in let s = size in omega arith);
      fed = λ t h s clear.
          let has = c.loop-at.invariant.fed t h s clear in
          fed_more {H = g.row.H.Denot} {Job = g.row.H-Job.Denot} hub t h c.args.now bytes c.loop-at.peer
          c.feed_piece-in-loop-at.new.peer place count has piece rest
          (c.in_ok-fed.ensures.fed t (has.moves ++ h) has.stands has.clear)
          few (omega (arith, size, left)) (omega (arith, some));
    }

pub returns-then-fed-eq0 : goal.returns-then-fed-eq0
returns-then-fed-eq0 g c = λ t h s clear.
    let hub = meaning g.H.Hub.begin_of g.H.Hub.step_of in
    let bytes = c.args.bytes.now in
    let place = c.loop-at.at in
    let count = c.in_ok-fed.fed in
    let piece : List ℕ = take (length bytes - place) (drop place bytes) in
    let rest : piece ≡ drop place bytes = take_rest bytes place in
    let size : length piece ≡ length bytes - place = ap length rest ∙ length-drop place bytes in
    let left = c.loop-at-test.true in
    let has = c.loop-at.invariant.fed t h s clear in
    fed_stopped {H = g.row.H.Denot} {Job = g.row.H-Job.Denot} hub t h c.args.now bytes c.loop-at.peer
    c.feed_piece-in-loop-at.new.peer place count has piece rest
    (c.in_ok-fed.ensures.fed t (has.moves ++ h) has.stands has.clear)
    (omega (arith, size, left)) c.if-fed-eq0.true

pub returns : goal.returns
returns g c = λ t h s clear.
    fed_all {H = g.row.H.Denot} {Job = g.row.H-Job.Denot} (meaning g.H.Hub.begin_of g.H.Hub.step_of) t h c.args.now
    c.args.bytes.now c.loop-at.peer c.loop-at.at (let end = c.loop-at-test.false in omega arith) (c.loop-at.invariant.fed t h s clear)
