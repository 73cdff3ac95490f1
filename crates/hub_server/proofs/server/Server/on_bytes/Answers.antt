use Rattle.std.proofs.Common.{refl, sym, ap, subst, option_map, option_copied, ◌∙◌}
use Rattle.std.proofs.lemmas.Result.{on_ok_weaker}
use Rattle.hd_delivery.specs.Histories.{is_this}
use Rattle.hd_server.specs.Lives.{socket_of}
use Rattle.hd_server.specs.Doings.{moment, notes, work}
use Rattle.hd_server.specs.Serves.{IsFed}
use Rattle.hub_server.specs.Lanes.{HasLane, IsLane}
use Rattle.hub_server.proofs.OutcomeOn.{kept_polls, kept_stands, kept_there, none_kept}
use Rattle.hub_server.proofs.server.Server.on_bytes.Goals as goal

pub returns-in-Some : goal.returns-in-Some
returns-in-Some g c = on_ok_weaker c.feed.result (λ f s u before h st.
    let lane = c.args.lane in
    let kept = c.in-Some.kept.now in
    let l : HasLane u kept lane h = subst (λ x. IsLane u x lane h) (sym c.in-Some.ensures.value) (st.lanes lane) in
    let finds = c.connections_are_found.ensures (λ k. is_this lane (socket_of k (notes h))) (work h) (let m = st.machine in m.from_one) in
    let fed = f s u before h st (kept_there u kept lane h l) in
    record {
      after = fed.after;
      fed = subst (λ o. IsFed (moment h) (option_map (λ k. (k, c.args.bytes.now)) o) h fed.after)
          (sym (kept_stands u kept lane h finds l c.if-not-kept.true)) fed.feeds;
      stands = fed.stands;
    }) c.feed.ensures.fed

pub returns-in_default : goal.returns-in_default
returns-in_default g c s u before h st =
    let lane = c.args.lane in
    let kept = c.in-Some.kept.now in
    let l : HasLane u kept lane h = subst (λ x. IsLane u x lane h) (sym c.in-Some.ensures.value) (st.lanes lane) in
    let finds = c.connections_are_found.ensures (λ k. is_this lane (socket_of k (notes h))) (work h) (let m = st.machine in m.from_one) in
    record {
      after = h;
      fed = subst (λ o. IsFed (moment h) (option_map (λ k. (k, c.args.bytes.now)) o) h h) (sym (kept_polls u kept lane h finds l c.if-not-kept.false)) refl;
      stands = st;
    }

pub returns-in_default-2 : goal.returns-in_default-2
returns-in_default-2 g c s u before h st =
    let lane = c.args.lane in
    let finds = c.connections_are_found.ensures (λ k. is_this lane (socket_of k (notes h))) (work h) (let m = st.machine in m.from_one) in
    record {
      after = h;
      fed = subst (λ o. IsFed (moment h) (option_map (λ k. (k, c.args.bytes.now)) o) h h)
          (sym (none_kept lane h finds (subst (λ x. IsLane u x lane h) (sym (sym (ap option_copied c.in_default.is) ∙ c.get.ensures.value))
          (st.lanes lane)))) refl;
      stands = st;
    }
