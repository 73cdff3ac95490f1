use Rattle.std.proofs.Common.{◌∙◌}
use Rattle.hk_keeper.proofs.Knowing.{user_known, rows_known, log_known, history_known, add_known, known_join, told_five}
use Rattle.hk_keeper.proofs.Lasts.{last_said}
use Rattle.hk_keeper.proofs.laws.ask_all.Goals as goal

pub returns-in_err-_is_new-clause-known : goal.returns-in_err-_is_new-clause-known
returns-in_err-_is_new-clause-known g c =
    let k0 = add_known (g.K.Keeper.holds c.args.keeper.now) (g.K.Keeper.holds c.add_user.new.self) (g.K.Keeper.answers c.args.keeper.now) (g.K.Keeper.answers c.add_user.new.self) (g.K.Keeper.faults c.args.keeper.now) (g.K.Keeper.faults c.add_user.new.self) c.args.user.now.0 c.args.user.now.1 c.add_user.result c.add_user.ensures.is_new c.add_user.ensures.added c.add_user.ensures.unchanged c.add_user.ensures.noted c.add_user.ensures.cause in
    k0

pub returns-in_err-_known-clause-known : goal.returns-in_err-_known-clause-known
returns-in_err-_known-clause-known g c =
    let k0 = add_known (g.K.Keeper.holds c.args.keeper.now) (g.K.Keeper.holds c.add_user.new.self) (g.K.Keeper.answers c.args.keeper.now) (g.K.Keeper.answers c.add_user.new.self) (g.K.Keeper.faults c.args.keeper.now) (g.K.Keeper.faults c.add_user.new.self) c.args.user.now.0 c.args.user.now.1 c.add_user.result c.add_user.ensures.is_new c.add_user.ensures.added c.add_user.ensures.unchanged c.add_user.ensures.noted c.add_user.ensures.cause in
    let k1 = known_join c.answers_join.ensures _ _ _ _ _ _ _ _ _ k0 (user_known (g.K.Keeper.holds c.add_user.new.self) (g.K.Keeper.holds c.user_of.new.self) (g.K.Keeper.answers c.add_user.new.self) (g.K.Keeper.answers c.user_of.new.self) (g.K.Keeper.faults c.add_user.new.self) (g.K.Keeper.faults c.user_of.new.self) c.args.user.now.0 c.user_of.result c.user_of.ensures.first c.user_of.ensures.unchanged c.user_of.ensures.noted c.user_of.ensures.cause) in
    k1

pub returns-in_err-log-clause-known : goal.returns-in_err-log-clause-known
returns-in_err-log-clause-known g c =
    let k0 = add_known (g.K.Keeper.holds c.args.keeper.now) (g.K.Keeper.holds c.add_user.new.self) (g.K.Keeper.answers c.args.keeper.now) (g.K.Keeper.answers c.add_user.new.self) (g.K.Keeper.faults c.args.keeper.now) (g.K.Keeper.faults c.add_user.new.self) c.args.user.now.0 c.args.user.now.1 c.add_user.result c.add_user.ensures.is_new c.add_user.ensures.added c.add_user.ensures.unchanged c.add_user.ensures.noted c.add_user.ensures.cause in
    let k1 = known_join c.answers_join.ensures _ _ _ _ _ _ _ _ _ k0 (user_known (g.K.Keeper.holds c.add_user.new.self) (g.K.Keeper.holds c.user_of.new.self) (g.K.Keeper.answers c.add_user.new.self) (g.K.Keeper.answers c.user_of.new.self) (g.K.Keeper.faults c.add_user.new.self) (g.K.Keeper.faults c.user_of.new.self) c.args.user.now.0 c.user_of.result c.user_of.ensures.first c.user_of.ensures.unchanged c.user_of.ensures.noted c.user_of.ensures.cause) in
    let k2 = known_join c.answers_join.ensures _ _ _ _ _ _ _ _ _ k1 (log_known (g.K.Keeper.holds c.user_of.new.self) (g.K.Keeper.holds c.log.new.self) (g.K.Keeper.answers c.user_of.new.self) (g.K.Keeper.answers c.log.new.self) (g.K.Keeper.faults c.user_of.new.self) (g.K.Keeper.faults c.log.new.self) c.args.said.now.0 c.args.user.now.1 c.args.said.now.1 c.log.result c.log.ensures.added c.log.ensures.unchanged c.log.ensures.noted c.log.ensures.cause) in
    k2

pub returns-in_err-_count-clause-known : goal.returns-in_err-_count-clause-known
returns-in_err-_count-clause-known g c =
    let k0 = add_known (g.K.Keeper.holds c.args.keeper.now) (g.K.Keeper.holds c.add_user.new.self) (g.K.Keeper.answers c.args.keeper.now) (g.K.Keeper.answers c.add_user.new.self) (g.K.Keeper.faults c.args.keeper.now) (g.K.Keeper.faults c.add_user.new.self) c.args.user.now.0 c.args.user.now.1 c.add_user.result c.add_user.ensures.is_new c.add_user.ensures.added c.add_user.ensures.unchanged c.add_user.ensures.noted c.add_user.ensures.cause in
    let k1 = known_join c.answers_join.ensures _ _ _ _ _ _ _ _ _ k0 (user_known (g.K.Keeper.holds c.add_user.new.self) (g.K.Keeper.holds c.user_of.new.self) (g.K.Keeper.answers c.add_user.new.self) (g.K.Keeper.answers c.user_of.new.self) (g.K.Keeper.faults c.add_user.new.self) (g.K.Keeper.faults c.user_of.new.self) c.args.user.now.0 c.user_of.result c.user_of.ensures.first c.user_of.ensures.unchanged c.user_of.ensures.noted c.user_of.ensures.cause) in
    let k2 = known_join c.answers_join.ensures _ _ _ _ _ _ _ _ _ k1 (log_known (g.K.Keeper.holds c.user_of.new.self) (g.K.Keeper.holds c.log.new.self) (g.K.Keeper.answers c.user_of.new.self) (g.K.Keeper.answers c.log.new.self) (g.K.Keeper.faults c.user_of.new.self) (g.K.Keeper.faults c.log.new.self) c.args.said.now.0 c.args.user.now.1 c.args.said.now.1 c.log.result c.log.ensures.added c.log.ensures.unchanged c.log.ensures.noted c.log.ensures.cause) in
    let k3 = known_join c.answers_join.ensures _ _ _ _ _ _ _ _ _ k2 (rows_known (g.K.Keeper.holds c.log.new.self) (g.K.Keeper.holds c.rows.new.self) (g.K.Keeper.answers c.log.new.self) (g.K.Keeper.answers c.rows.new.self) (g.K.Keeper.faults c.log.new.self) (g.K.Keeper.faults c.rows.new.self) c.rows.result c.rows.ensures.count c.rows.ensures.unchanged c.rows.ensures.noted c.rows.ensures.cause) in
    k3

pub returns-in_err-texts-clause-known : goal.returns-in_err-texts-clause-known
returns-in_err-texts-clause-known g c =
    let k0 = add_known (g.K.Keeper.holds c.args.keeper.now) (g.K.Keeper.holds c.add_user.new.self) (g.K.Keeper.answers c.args.keeper.now) (g.K.Keeper.answers c.add_user.new.self) (g.K.Keeper.faults c.args.keeper.now) (g.K.Keeper.faults c.add_user.new.self) c.args.user.now.0 c.args.user.now.1 c.add_user.result c.add_user.ensures.is_new c.add_user.ensures.added c.add_user.ensures.unchanged c.add_user.ensures.noted c.add_user.ensures.cause in
    let k1 = known_join c.answers_join.ensures _ _ _ _ _ _ _ _ _ k0 (user_known (g.K.Keeper.holds c.add_user.new.self) (g.K.Keeper.holds c.user_of.new.self) (g.K.Keeper.answers c.add_user.new.self) (g.K.Keeper.answers c.user_of.new.self) (g.K.Keeper.faults c.add_user.new.self) (g.K.Keeper.faults c.user_of.new.self) c.args.user.now.0 c.user_of.result c.user_of.ensures.first c.user_of.ensures.unchanged c.user_of.ensures.noted c.user_of.ensures.cause) in
    let k2 = known_join c.answers_join.ensures _ _ _ _ _ _ _ _ _ k1 (log_known (g.K.Keeper.holds c.user_of.new.self) (g.K.Keeper.holds c.log.new.self) (g.K.Keeper.answers c.user_of.new.self) (g.K.Keeper.answers c.log.new.self) (g.K.Keeper.faults c.user_of.new.self) (g.K.Keeper.faults c.log.new.self) c.args.said.now.0 c.args.user.now.1 c.args.said.now.1 c.log.result c.log.ensures.added c.log.ensures.unchanged c.log.ensures.noted c.log.ensures.cause) in
    let k3 = known_join c.answers_join.ensures _ _ _ _ _ _ _ _ _ k2 (rows_known (g.K.Keeper.holds c.log.new.self) (g.K.Keeper.holds c.rows.new.self) (g.K.Keeper.answers c.log.new.self) (g.K.Keeper.answers c.rows.new.self) (g.K.Keeper.faults c.log.new.self) (g.K.Keeper.faults c.rows.new.self) c.rows.result c.rows.ensures.count c.rows.ensures.unchanged c.rows.ensures.noted c.rows.ensures.cause) in
    let k4 = known_join c.answers_join.ensures _ _ _ _ _ _ _ _ _ k3 (history_known (g.K.Keeper.holds c.rows.new.self) (g.K.Keeper.holds c.history.new.self) (g.K.Keeper.answers c.rows.new.self) (g.K.Keeper.answers c.history.new.self) (g.K.Keeper.faults c.rows.new.self) (g.K.Keeper.faults c.history.new.self) c.args.said.now.0 1 c.history.result c.history.ensures.last c.history.ensures.unchanged c.history.ensures.noted c.history.ensures.cause) in
    k4

pub returns-clause-known : goal.returns-clause-known
returns-clause-known g c =
    let k0 = add_known (g.K.Keeper.holds c.args.keeper.now) (g.K.Keeper.holds c.add_user.new.self) (g.K.Keeper.answers c.args.keeper.now) (g.K.Keeper.answers c.add_user.new.self) (g.K.Keeper.faults c.args.keeper.now) (g.K.Keeper.faults c.add_user.new.self) c.args.user.now.0 c.args.user.now.1 c.add_user.result c.add_user.ensures.is_new c.add_user.ensures.added c.add_user.ensures.unchanged c.add_user.ensures.noted c.add_user.ensures.cause in
    let k1 = known_join c.answers_join.ensures _ _ _ _ _ _ _ _ _ k0 (user_known (g.K.Keeper.holds c.add_user.new.self) (g.K.Keeper.holds c.user_of.new.self) (g.K.Keeper.answers c.add_user.new.self) (g.K.Keeper.answers c.user_of.new.self) (g.K.Keeper.faults c.add_user.new.self) (g.K.Keeper.faults c.user_of.new.self) c.args.user.now.0 c.user_of.result c.user_of.ensures.first c.user_of.ensures.unchanged c.user_of.ensures.noted c.user_of.ensures.cause) in
    let k2 = known_join c.answers_join.ensures _ _ _ _ _ _ _ _ _ k1 (log_known (g.K.Keeper.holds c.user_of.new.self) (g.K.Keeper.holds c.log.new.self) (g.K.Keeper.answers c.user_of.new.self) (g.K.Keeper.answers c.log.new.self) (g.K.Keeper.faults c.user_of.new.self) (g.K.Keeper.faults c.log.new.self) c.args.said.now.0 c.args.user.now.1 c.args.said.now.1 c.log.result c.log.ensures.added c.log.ensures.unchanged c.log.ensures.noted c.log.ensures.cause) in
    let k3 = known_join c.answers_join.ensures _ _ _ _ _ _ _ _ _ k2 (rows_known (g.K.Keeper.holds c.log.new.self) (g.K.Keeper.holds c.rows.new.self) (g.K.Keeper.answers c.log.new.self) (g.K.Keeper.answers c.rows.new.self) (g.K.Keeper.faults c.log.new.self) (g.K.Keeper.faults c.rows.new.self) c.rows.result c.rows.ensures.count c.rows.ensures.unchanged c.rows.ensures.noted c.rows.ensures.cause) in
    let k4 = known_join c.answers_join.ensures _ _ _ _ _ _ _ _ _ k3 (history_known (g.K.Keeper.holds c.rows.new.self) (g.K.Keeper.holds c.history.new.self) (g.K.Keeper.answers c.rows.new.self) (g.K.Keeper.answers c.history.new.self) (g.K.Keeper.faults c.rows.new.self) (g.K.Keeper.faults c.history.new.self) c.args.said.now.0 1 c.history.result c.history.ensures.last c.history.ensures.unchanged c.history.ensures.noted c.history.ensures.cause) in
    k4

pub returns-clause-answered : goal.returns-clause-answered
returns-clause-answered g c = record {
  is_new = c.in_ok-_is_new._is_new;
  name = c.in_ok-_known._known;
  count = c.in_ok-_count._count;
  told = told_five _ _ _ _ _ _ _ _ _ _ _ c.in_ok-_is_new.ensures.noted c.in_ok-_known.ensures.noted c.in_ok-log.ensures.noted c.in_ok-_count.ensures.noted
      c.in_ok-texts.ensures.noted;
}

pub returns-clause-last : goal.returns-clause-last
returns-clause-last g c =
    last_said (g.K.Keeper.holds c.args.keeper.now) (g.K.Keeper.holds c.user_of.new.self) (g.K.Keeper.holds c.rows.new.self) c.in_ok-_is_new._is_new c.args.user.now.0 c.args.user.now.1
    c.args.said.now.0 c.args.said.now.1 c.in_ok-texts.texts (c.user_of.ensures.unchanged ∙ c.in_ok-_is_new.ensures.added) (c.rows.ensures.unchanged ∙ c.in_ok-log.ensures.added)
    c.in_ok-texts.ensures.last
