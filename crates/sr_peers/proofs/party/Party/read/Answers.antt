use Rattle.std.proofs.Common.{◌≡◌, ◌≤◌, ◌<◌, ◌++◌, ◌-◌, ℕ, List, [], length, take, drop, None, refl, sym, ap, ◌∙◌, subst, arith, length-drop, length-take}
use Rattle.std.proofs.lemmas.List.{take_rest}
use Rattle.hd_calls.specs.Peers.{is_shut}
use Rattle.hj_jobs.specs.Meaning.{meaning}
use Rattle.sr_peers.specs.Doings.{fed_next}
use Rattle.sr_peers.specs.Plays.{Plays, Feeds}
use Rattle.sr_peers.proofs.ReadsOn.{IsRead, read_none, read_over, read_end, read_on, plays_fed, left}
use Rattle.sr_peers.proofs.party.Party.read.Goals as goal
use Rattle.sr_peers.proofs.party.Party.read.Goals.{else-loop-at-test, then-loop-at-test+then-taken-eq0}

pub loop-at-init : goal.loop-at-init
loop-at-init g c = record {
  within = omega arith;
  read = λ t h plays l all at is none. read_none {H = g.row.H.Denot} _ t c.args.now h l all c.args.bytes.now c.args.report.now.items c.args.self.now plays at none;
}

pub loop-at-preserved : goal.loop-at-preserved
loop-at-preserved g c =
    let bytes = c.args.bytes.now in
    let place = c.loop-at.at in
    let count = c.feed-taken.result in
    let i = c.loop-at.invariant.within in
    let piece : List ℕ = take (length bytes - place) (drop place bytes) in
    let rest : piece ≡ drop place bytes = take_rest bytes place in
    let size : length piece ≡ length bytes - place = ap length rest ∙ length-drop place bytes in
    let within : count ≤ length piece = c.feed-taken.ensures.within in
    let many : length (take count (drop place bytes)) ≡ count = (let w = within in let e = ap length rest in omega (arith, length-take count (drop place bytes))) in
    let some : 0 < length (take count (drop place bytes)) = (let m = many in let f = c.if-taken-eq0.false in omega arith) in
    let hub = meaning g.H.Hub.begin_of g.H.Hub.step_of in
    record {
      within = (let w = within in let s = size in omega arith);
      read = λ t h plays l all at is none.
          let has = c.loop-at.invariant.read t h plays l all at is none in
          let before = c.args.report.now.items in
          let now = c.args.now in
          let self = c.loop-at.self in
          let mid = c.loop-at.report.items in
          let there = rest ∙ left {H = g.row.H.Denot} hub t now h l all bytes before is self mid place has i in
          let fed : Feeds {H = g.row.H.Denot} hub t (has.moves ++ h) c.feed-taken.new.self all (take count (drop place bytes)) =
          subst (λ x. Feeds {H = g.row.H.Denot} hub t (has.moves ++ h) c.feed-taken.new.self all (take count x)) rest
          (c.feed-taken.ensures.fed t (has.moves ++ h) has.goes.plays l all has.here there has.none) in
          let link = c.in_ok-take_all.ensures.link ∙ c.feed-taken.ensures.link in
          let on = plays_fed {H = g.row.H.Denot} hub t now h l all bytes before is self mid place has i c.fed_is_unseen.ensures c.feed-taken.new.self c.take_all.new.self
          c.take_all.new.report.items count some fed link in
          read_on {H = g.row.H.Denot} hub t now h l all bytes before is self mid place has i c.fed_is_unseen.ensures c.feed-taken.new.self c.take_all.new.self
          c.take_all.new.report.items count some fed link (c.in_ok-take_all.ensures.taken t _ on);
    }

pub returns : goal.returns
returns g c = λ t h plays l all at is none.
    let hub = meaning g.H.Hub.begin_of g.H.Hub.step_of in
    let bytes = c.args.bytes.now in
    let before = c.args.report.now.items in
    let now = c.args.now in
    let self = c.loop-at.self in
    let mid = c.loop-at.report.items in
    let place = c.loop-at.at in
    let i = c.loop-at.invariant.within in
    let has = c.loop-at.invariant.read t h plays l all at is none in
    let x = has.moves ++ h in
    let last = c.loop-at-test.self in
    let over : Plays {H = g.row.H.Denot} hub t last x → fed_next t all x ≡ None
    → IsRead {H = g.row.H.Denot} hub t now h c.tell_gone.new.self l all bytes before c.tell_gone.new.report.items place = λ stands nothing.
    read_over {H = g.row.H.Denot} hub t now h l all bytes before is self mid place has i last c.tell_gone.new.self c.tell_gone.new.report.items stands nothing
    (c.in_ok-tell_gone.ensures t x stands) in
    elim c.loop-at-test.branch [
      | else-loop-at-test w ↦
          over (subst (λ p. Plays {H = g.row.H.Denot} hub t p x) (sym w.self-is) has.goes.plays)
          (read_end {H = g.row.H.Denot} hub t now h l all bytes before is self mid place has i (omega (arith, w.loop-at-test.false)) (is_shut t x) refl)
      | then-loop-at-test+then-taken-eq0 w ↦
          let rest = take_rest bytes place in
          let there = rest ∙ left {H = g.row.H.Denot} hub t now h l all bytes before is self mid place has i in
          let fed : Feeds {H = g.row.H.Denot} hub t x w.feed-taken.new.self all [] =
          subst (λ n. Feeds {H = g.row.H.Denot} hub t x w.feed-taken.new.self all (take n (take (length bytes - place) (drop place bytes)))) w.if-taken-eq0.true
          (w.feed-taken.ensures.fed t x has.goes.plays l all has.here there has.none) in
          over (subst (λ p. Plays {H = g.row.H.Denot} hub t p x) (sym w.self-is) fed.1) fed.0
    ]
