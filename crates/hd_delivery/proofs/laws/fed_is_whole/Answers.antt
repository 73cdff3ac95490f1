use Rattle.std.proofs.Common.{◌++◌}
use Rattle.std.proofs.lemmas.List.Elements.{Contains-append_left, Contains-append_right}
use Rattle.hd_delivery.specs.Histories.{sent_messages}
use Rattle.hd_delivery.specs.Worlds.{client_of, server_of}
use Rattle.hd_delivery.specs.Bytes.{client_in_frames, server_in_frames}
use Rattle.hd_delivery.proofs.OwnLimits.{one_frame}
use Rattle.hd_delivery.proofs.OverBytes.{together_over_bytes, client_fed_within, server_fed_within}
use Rattle.hd_delivery.proofs.laws.fed_is_whole.Goals as goal

pub returns : goal.returns
returns c limits wire terms w law world =
    let by_client = sent_messages (client_in_frames wire terms w) in
    let by_server = sent_messages (server_in_frames wire terms w) in
    let all = by_client ++ by_server in
    let frame = one_frame limits wire terms w world in
    let t = together_over_bytes limits wire terms all law frame w (λ m e. Contains-append_left by_client by_server m e) (λ m e. Contains-append_right by_client by_server m e) world in (
      client_fed_within limits wire terms all law frame (client_of w) (server_of w) t,
      server_fed_within limits wire terms all law frame (client_of w) (server_of w) t,
    )
