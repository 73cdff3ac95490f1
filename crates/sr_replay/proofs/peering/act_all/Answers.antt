use Rattle.std.proofs.Common.{[], refl, sym, subst, append-nil}
use Rattle.sr_script.specs.Asking.{and_then}
use Rattle.sr_replay.specs.WithPeers.{HasTold}
use Rattle.sr_replay.proofs.Replayed.{still_known}
use Rattle.sr_replay.proofs.WithPeers.{peers_obeyed, for_peers}
use Rattle.sr_replay.proofs.peering.act_all.Goals as goal

pub loop-reader-init : goal.loop-reader-init
loop-reader-init c = (
  record { settings = []; actions = [] },
  (c.start-reader.ensures c.args.script.now, λ some. absurd (some refl), λ p begun. ([], [], (begun, refl, sym (append-nil c.args.report.now.items)))),
)

pub obey-requires : goal.obey-requires
obey-requires c =
    let q = c.loop-reader.invariant.0 in
    let x = c.in-Some.asked in
    let next = rw c.in-Some.is at c.in_ok-asked.ensures.next in
    let got = next q c.loop-reader.invariant.1.0 in
    let known = still_known c.settings_come_first.ensures c.args.script.now c.next_in.new.self q x c.loop-reader.invariant.1.1 got.0 got.2 in
    let script = c.text.ensures.script in
    for_peers c.args.script.now q script.0 x script.1 (c.requires script.0 script.1) known got.0 got.1

pub loop-reader-preserved : goal.loop-reader-preserved
loop-reader-preserved c =
    let p = c.loop-reader.invariant.0 in
    let next = rw c.in-Some.is at c.in_ok-asked.ensures.next in
    let got = next p c.loop-reader.invariant.1.0 in (
      and_then p c.in-Some.asked,
      (
        got.2,
        still_known c.settings_come_first.ensures c.args.script.now c.next_in.new.self p c.in-Some.asked c.loop-reader.invariant.1.1 got.0 got.2,
        peers_obeyed c.in-Some.asked p c.args.peers.now c.loop-reader.peers c.obey.new.peers c.args.report.now.items c.loop-reader.report.items c.obey.new.report.items
            got.0 c.loop-reader.invariant.1.2 c.in_ok-obey-in-Some.ensures,
      ),
    )

pub returns-in-None : goal.returns-in-None
returns-in-None c = λ p parses pair begun.
    let end = rw c.in-None.is at c.in_ok-asked.ensures.end in
    let one = end c.loop-reader.invariant.0 c.loop-reader.invariant.1.0 in
    subst (λ q. HasTold pair q.actions c.loop-reader.peers c.args.report.now.items c.loop-reader.report.items) (sym (one.only p parses)) (c.loop-reader.invariant.1.2 pair begun)
