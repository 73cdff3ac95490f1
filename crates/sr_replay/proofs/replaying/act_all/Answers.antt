use Rattle.std.proofs.Common.{[], refl, sym, subst}
use Rattle.sr_replay.specs.Runs.{Run}
use Rattle.sr_script.specs.Asking.{and_then}
use Rattle.sr_replay.specs.Follows.{Follows}
use Rattle.sr_replay.proofs.Replayed.{obeyed, still_known, for_ends}
use Rattle.sr_replay.proofs.replaying.act_all.Goals as goal

pub loop-reader-init : goal.loop-reader-init
loop-reader-init c = (record { settings = []; actions = [] }, (c.start-reader.ensures c.args.script.now, λ some. absurd (some refl), λ kind limits wire t begun. ([], begun)))

pub obey-requires : goal.obey-requires
obey-requires c =
    let q = c.loop-reader.invariant.0 in
    let x = c.in-Some.asked in
    let next = rw c.in-Some.is at c.in_ok-asked.ensures.next in
    let got = next q c.loop-reader.invariant.1.0 in
    let known = still_known c.settings_come_first.ensures c.args.script.now c.next_in.new.self q x c.loop-reader.invariant.1.1 got.0 got.2 in
    let script = c.text.ensures.script in
    for_ends c.args.script.now q script.0 x script.1 (c.requires script.0 script.1) known got.0 got.1

pub loop-reader-preserved : goal.loop-reader-preserved
loop-reader-preserved c =
    let p = c.loop-reader.invariant.0 in
    let next = rw c.in-Some.is at c.in_ok-asked.ensures.next in
    let got = next p c.loop-reader.invariant.1.0 in (
      and_then p c.in-Some.asked,
      (
        got.2,
        still_known c.settings_come_first.ensures c.args.script.now c.next_in.new.self p c.in-Some.asked c.loop-reader.invariant.1.1 got.0 got.2,
        obeyed c.in-Some.asked p c.args.pair.now c.loop-reader.pair c.obey.new.pair [] got.0 c.loop-reader.invariant.1.2 c.in_ok-obey-in-Some.ensures,
      ),
    )

pub returns-in-None : goal.returns-in-None
returns-in-None c = λ p parses kind limits wire t begun.
    let end = rw c.in-None.is at c.in_ok-asked.ensures.end in
    let one = end c.loop-reader.invariant.0 c.loop-reader.invariant.1.0 in
    subst (λ q. (r : Run) × Follows kind [] limits wire t q.actions r c.loop-reader.pair) (sym (one.only p parses)) (c.loop-reader.invariant.1.2 kind limits wire t begun)
