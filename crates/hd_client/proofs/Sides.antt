-- A client's connection is a side of every world in which it stands.
use Rattle.std.proofs.Common.{subst, sym, ◌≡◌, List, [], ◌∷◌, Some}
use Rattle.hd_delivery.specs.Bytes.{HoldsOverBytes}
use Rattle.hd_calls.specs.Hubs.{Hub}
use Rattle.hd_calls.specs.Peers.{Settings}
use Rattle.hd_calls.specs.Rules.{IsPeer}
use Rattle.hd_client.specs.declared.order.Order.{Order}
use Rattle.hd_client.specs.Events.{ClientEvent, settings_of, moves, IsClientPeer}
use Rattle.hd_client.specs.Setups.{Setup}
use Rattle.hd_client.specs.Turns.{Begin, Turns}
use Rattle.hd_client.specs.Laws.{ClientsAreSides}

module _ {Job : Type 0} where
  of_last : (hub : Hub Job) (s : Setup) (script : List Order) (bs : List Begin) (h : List ClientEvent) → Turns hub s script bs h
      → IsClientPeer hub (settings_of s h) (moves h)
  of_last hub s script [] h e = subst (λ k. IsClientPeer hub (settings_of s k) (moves k)) (sym e) tt
  of_last hub s script (b ∷ bs) h (before, turns, may, turn) = turn.peer

  pub clients_are_peers : (hub : Hub Job) (s : Setup) (script : List Order) (bs : List Begin) (h : List ClientEvent) → Turns hub s script bs h
      → (t : Settings) → settings_of s h ≡ Some t → IsPeer hub t (moves h)
  clients_are_peers hub s script bs h turns t e = subst (λ o. IsClientPeer hub o (moves h)) e (of_last hub s script bs h turns)

  pub clients_are_sides : HoldsOverBytes → ClientsAreSides Job
  clients_are_sides holds hub s script bs h turns = record {
    peer = clients_are_peers hub s script bs h turns;
    delivers = λ t e limits terms w is faithful world. holds limits t.wire terms w faithful world;
  }
