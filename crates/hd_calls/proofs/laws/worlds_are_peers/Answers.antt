use Rattle.hd_calls.proofs.Steady.{client_history, server_history}
use Rattle.hd_calls.proofs.laws.worlds_are_peers.Goals as goal

pub returns : goal.returns
returns g c hc hs p w q = (
  record { follows = q.client_follows; prompt = q.client_prompt; is_history = client_history hc hs p c.worlds_are_histories.ensures w q },
  record { follows = q.server_follows; prompt = q.server_prompt; is_history = server_history hc hs p c.worlds_are_histories.ensures w q },
)
