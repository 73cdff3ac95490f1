use Rattle.std.proofs.Common.{◌≡◌, ◌≤◌, ◌<◌, ◌++◌, ◌-◌, ℕ, List, length, take, drop, refl, sym, ap, ◌∙◌, subst, arith, length-drop, length-take}
use Rattle.std.proofs.lemmas.List.{take_rest}
use Rattle.hd_delivery.specs.Alone.{reading}
use Rattle.sr_replay.specs.Plays.{Feeds, limits_at}
use Rattle.sr_replay.proofs.ReadsOn.{read_none, read_end, read_stop, read_on, plays_fed, left}
use Rattle.sr_replay.proofs.player.Player.read.Goals as goal

pub loop-at-init : goal.loop-at-init
loop-at-init c = record {
  limits = refl;
  within = omega arith;
  read = λ wire config h plays l all at is none. read_none c.args.kind (limits_at c.args.self.now) wire config h l all c.args.told.now.items c.args.self.now plays at none;
}

pub loop-at-preserved : goal.loop-at-preserved
loop-at-preserved c =
    let bytes = c.args.bytes.now in
    let piece : List ℕ = take (length bytes - c.loop-at.at) (drop c.loop-at.at bytes) in
    let size : length piece ≡ length bytes - c.loop-at.at = ap length (take_rest bytes c.loop-at.at) ∙ length-drop c.loop-at.at bytes in
    let within : c.feed-taken.result ≤ length piece = c.feed-taken.ensures.within in
    let many : length (take c.feed-taken.result piece) ≡ c.feed-taken.result = (let w = within in omega (arith, length-take c.feed-taken.result piece)) in
    let some : 0 < length (take c.feed-taken.result piece) = (let m = many in omega arith) in
    record {
      limits = c.in_ok-take_all.ensures.limits ∙ (c.feed-taken.ensures.limits ∙ c.loop-at.invariant.limits);
      within = (let w = within in let s = size in let i = c.loop-at.invariant.within in omega arith);
      read = λ wire config h plays l all at is none.
          let has = c.loop-at.invariant.read wire config h plays l all at is none in
          let limits = limits_at c.args.self.now in
          let before = c.args.told.now.items in
          let there = take_rest bytes c.loop-at.at ∙ left c.args.kind limits wire config h l all before c.loop-at.self c.loop-at.told.items c.loop-at.at has bytes is in
          let fed : Feeds (reading limits wire config all) wire config (has.steps ++ h) c.feed-taken.new.self (take c.feed-taken.result piece) =
          subst (λ x. Feeds (reading x wire config all) wire config (has.steps ++ h) c.feed-taken.new.self (take c.feed-taken.result piece)) c.loop-at.invariant.limits
          (c.feed-taken.ensures.fed wire config (has.steps ++ h) has.plays l all has.here there has.none) in
          let link = c.in_ok-take_all.ensures.link ∙ c.feed-taken.ensures.link in
          let on = plays_fed c.args.kind limits wire config h l all before c.loop-at.self c.loop-at.told.items c.loop-at.at has c.fed_is_unseen.ensures c.feed-taken.new.self c.take_all.new.self
          (take c.feed-taken.result piece) c.push_fed.new.told.items c.take_all.new.told.items some fed link c.feed-taken.result many in
          read_on c.args.kind limits wire config h l all before c.loop-at.self c.loop-at.told.items c.loop-at.at has c.fed_is_unseen.ensures c.feed-taken.new.self c.take_all.new.self
          (take c.feed-taken.result piece) c.push_fed.new.told.items c.take_all.new.told.items some fed link c.feed-taken.result many
          (c.in_ok-push_fed.ensures wire config (has.steps ++ h) (sym plays.side_is)) (c.in_ok-take_all.ensures.taken wire config _ on);
    }

pub returns-then-taken-eq0-clause-read : goal.returns-then-taken-eq0-clause-read
returns-then-taken-eq0-clause-read c wire config h plays l all at is none =
    let bytes = c.args.bytes.now in
    let piece : List ℕ = take (length bytes - c.loop-at.at) (drop c.loop-at.at bytes) in
    let limits = limits_at c.args.self.now in
    let before = c.args.told.now.items in
    let has = c.loop-at.invariant.read wire config h plays l all at is none in
    let there = take_rest bytes c.loop-at.at ∙ left c.args.kind limits wire config h l all before c.loop-at.self c.loop-at.told.items c.loop-at.at has bytes is in
    read_stop c.args.kind limits wire config h l all before c.loop-at.self c.loop-at.told.items c.loop-at.at has c.feed-taken.new.self
    (subst (λ n. Feeds (reading limits wire config all) wire config (has.steps ++ h) c.feed-taken.new.self (take n piece)) c.if-taken-eq0.true
    (subst (λ x. Feeds (reading x wire config all) wire config (has.steps ++ h) c.feed-taken.new.self (take c.feed-taken.result piece)) c.loop-at.invariant.limits
    (c.feed-taken.ensures.fed wire config (has.steps ++ h) has.plays l all has.here there has.none)))

pub returns-clause-read : goal.returns-clause-read
returns-clause-read c wire config h plays l all at is none =
    let has = c.loop-at.invariant.read wire config h plays l all at is none in
    read_end c.args.kind (limits_at c.args.self.now) wire config h l all c.args.told.now.items c.loop-at.self c.loop-at.told.items c.loop-at.at has c.args.bytes.now is (omega arith)
