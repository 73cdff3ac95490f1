use Rattle.std.proofs.Common.{sym, ◌∙◌}
use Rattle.hd_server.specs.Doings.{notes}
use Rattle.hj_jobs.specs.Meaning.{meaning}
use Rattle.hub_server.proofs.ExpireOne.{expires_closing, expires_dropping}
use Rattle.hub_server.proofs.server.Server.expire_next.Goals as goal

pub returns-in-Ending : goal.returns-in-Ending
returns-in-Ending g c = λ s u before h st free.
    let first = c.in-Some.ensures (notes h) st.front.stands in
    expires_closing {H = g.row.H.Denot} (meaning g.H.Hub.begin_of g.H.Hub.step_of) s u before c.args.self.now h st c.in-Some.conn first.0 first.1
    (sym (c.life_at.ensures (notes h) st.front.stands) ∙ c.in-Ending.is) c.close.new.self c.close.ensures.live c.close.ensures.closed c.close.ensures.absent
    c.expired-conn.new.self c.expired-conn.result c.expired-conn.ensures.expires c.expired-conn.ensures.limit

pub returns : goal.returns
returns g c = λ s u before h st free.
    let first = c.in-Some.ensures (notes h) st.front.stands in
    expires_dropping {H = g.row.H.Denot} (meaning g.H.Hub.begin_of g.H.Hub.step_of) s u before c.args.self.now h st c.in-Some.conn first.0 first.1
    (λ e. c.in_default-life_at.not-Ending (c.life_at.ensures (notes h) st.front.stands ∙ e)) c.detach_lanes.new.self
    (λ known. c.detach_lanes.ensures.left s u before h st known)
    c.remove_conn.new.self c.remove_conn.ensures.gone c.remove_conn.ensures.none c.remove.new.self c.remove.ensures.updates
    c.expired-conn-2.new.self c.expired-conn-2.result c.expired-conn-2.ensures.expires c.expired-conn-2.ensures.limit
