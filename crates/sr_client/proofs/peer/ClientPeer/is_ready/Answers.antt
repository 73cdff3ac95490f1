use Rattle.hd_calls.specs.Peers.{byte_steps, steps}
use Rattle.sr_client.proofs.Looks.{end_stands, ready_by}
use Rattle.sr_client.proofs.peer.ClientPeer.is_ready.Goals as goal

pub returns-in-Opening : goal.returns-in-Opening
returns-in-Opening c = λ t h plays.
    ready_by t.config (steps t h) c.state.result _ (c.state.ensures t.wire t.config (byte_steps t h) (end_stands t c.args.self.now h _ plays c.end.ensures))
    c.in-Opening.is

pub returns-in-Ready : goal.returns-in-Ready
returns-in-Ready c = λ t h plays.
    ready_by t.config (steps t h) c.state.result _ (c.state.ensures t.wire t.config (byte_steps t h) (end_stands t c.args.self.now h _ plays c.end.ensures))
    c.in-Ready.is

pub returns-in-Away : goal.returns-in-Away
returns-in-Away c = λ t h plays.
    ready_by t.config (steps t h) c.state.result _ (c.state.ensures t.wire t.config (byte_steps t h) (end_stands t c.args.self.now h _ plays c.end.ensures))
    c.in-Away.is

pub returns-in-Closed : goal.returns-in-Closed
returns-in-Closed c = λ t h plays.
    ready_by t.config (steps t h) c.state.result _ (c.state.ensures t.wire t.config (byte_steps t h) (end_stands t c.args.self.now h _ plays c.end.ensures))
    c.in-Closed.is
