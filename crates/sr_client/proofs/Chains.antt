-- The lines of moves one after the other, and what a peer that stands for its moves is.
use Rattle.std.proofs.Common.{◌≡◌, ℕ, List, [], ◌∷◌, ◌++◌, sym, ap, subst, ◌∙◌, append_assoc}
use Rattle.std.proofs.lemmas.List.{append-nil}
use Rattle.hm_message.specs.declared.message.Ending.{Ending}
use Rattle.hd_delivery.specs.Bytes.{IsSoundWire}
use Rattle.hd_delivery.specs.OneHistory.{IsHistory}
use Rattle.he_end.specs.Stands.{limits_of}
use Rattle.he_wire.specs.Laws.{WireIsSound}
use Rattle.hd_calls.specs.Peers.{PeerEvent, Settings, byte_steps}
use Rattle.hp_peer.specs.declared.peer.Peer.{Peer}
use Rattle.hub_calc.specs.declared.client.ClientHub.{ClientHub}
use Rattle.hd_client.specs.Setups.{Words}
use Rattle.hd_client.specs.Printed.{move_line}
use Rattle.sr_client.specs.declared.peer.ClientPeer.{ClientPeer}
use Rattle.sr_client.specs.Lines.{json_words, lines_of}
use Rattle.sr_client.specs.Peers.{Goes, Plays, PlaysOn}
use Rattle.sr_client.specs.Taking.{GoesOn}

-- ---- lines

pub lines_append : (w : Words) (t : Settings) (ns ms h : List PeerEvent) → lines_of w t (ns ++ ms) h ≡ lines_of w t ms h ++ lines_of w t ns (ms ++ h)
lines_append w t [] ms h = sym (append-nil (lines_of w t ms h))
lines_append w t (n ∷ ns) ms h =
    ap (λ x. x ++ move_line w t ((ns ++ ms) ++ h) n) (lines_append w t ns ms h)
    ∙ ap (λ k. (lines_of w t ms h ++ lines_of w t ns (ms ++ h)) ++ move_line w t k n) (append_assoc ns ms h)
    ∙ append_assoc (lines_of w t ms h) (lines_of w t ns (ms ++ h)) (move_line w t (ns ++ (ms ++ h)) n)

appends : (a b c x y : List ℕ) → b ≡ a ++ x → c ≡ b ++ y → c ≡ a ++ (x ++ y)
appends a b c x y e f = f ∙ (ap (λ z. z ++ y) e ∙ append_assoc a x y)

pub goes_on_then : (t : Settings) (h : List PeerEvent) (mid new : ClientPeer) (before between now : List ℕ) (ms ns : List PeerEvent)
    → GoesOn t h mid before between ms → GoesOn t (ms ++ h) new between now ns → GoesOn t h new before now (ns ++ ms)
goes_on_then t h mid new before between now ms ns a b = record {
  plays = subst (λ k. PlaysOn t new k) (sym (append_assoc ns ms h)) b.plays;
  appended = appends before between now (lines_of json_words t ms h) (lines_of json_words t ns (ms ++ h)) a.appended b.appended
      ∙ ap (λ x. before ++ x) (sym (lines_append json_words t ns ms h));
}

pub goes_then : (t : Settings) (h : List PeerEvent) (mid new : ClientPeer) (before between now : List ℕ) (ms ns : List PeerEvent)
    → Goes t h mid before between ms → Goes t (ms ++ h) new between now ns → Goes t h new before now (ns ++ ms)
goes_then t h mid new before between now ms ns a b = record {
  plays = subst (λ k. Plays t new k) (sym (append_assoc ns ms h)) b.plays;
  appended = appends before between now (lines_of json_words t ms h) (lines_of json_words t ns (ms ++ h)) a.appended b.appended
      ∙ ap (λ x. before ++ x) (sym (lines_append json_words t ns ms h));
}

-- nothing was printed
pub same_text_after : (before : List ℕ) → before ≡ before ++ []
same_text_after before = sym (append-nil before)

-- ---- the peer

-- the client's peer with this peer in it
abbrev pub with_peer : ClientPeer → Peer ClientHub Ending → ClientPeer
with_peer p x = record p { peer = x }

pub history_of : (t : Settings) (p : ClientPeer) (h : List PeerEvent) → PlaysOn t p h → IsHistory t.limits t.wire t.config (byte_steps t h)
history_of t p h on = subst (λ l. IsHistory l t.wire t.config (byte_steps t h)) (sym on.stands.limits) on.stands.end.history

-- its wire is sound
pub is_sound : (t : Settings) (p : ClientPeer) (h : List PeerEvent) → PlaysOn t p h → WireIsSound → IsSoundWire t.limits t.wire
is_sound t p h on sound = subst (λ l. IsSoundWire l t.wire) (sym on.stands.limits) (sound (limits_of p.peer.end) t.wire on.stands.end.house)
