-- Whether jobs keep more than they may: what their table says of it is what the peer's moves say, and while the end is unclosed they don't.
use Rattle.std.proofs.Common.{◌≡◌, ◌<◌, ◌≤◌, ℕ, false, true, List, refl, sym, ap, subst, arith}
use Rattle.std.specs.Prelude.{nat_lt}
use Rattle.std.proofs.lemmas.Bool.{le-ltb, lt-ltb}
use Rattle.hd_delivery.specs.OneHistory.{IsHistory}
use Rattle.hd_calls.specs.Hubs.{Hub}
use Rattle.hd_calls.specs.Numbers.{most_weight}
use Rattle.hd_calls.specs.Peers.{PeerEvent, Settings, byte_steps, is_shut}
use Rattle.hd_calls.specs.Rules.{IsPeer, is_heavy, kept_weight}
use Rattle.hd_calls.specs.Tables.{job_happenings}
use Rattle.hd_calls.specs.Laws.{JobsAgree, PeersAreBounded}
use Rattle.he_end.specs.declared.end.End.{End}
use Rattle.hp_peer.specs.declared.peer.Peer.{Peer}
use Rattle.hp_peer.specs.Stands.{Stands}
use Rattle.hp_peer.specs.Taking.{ClosesIf, is_heavy_in}

-- ---- moves

pub heavy_as : (t : Settings) (h : List PeerEvent) → JobsAgree t h → is_heavy_in (job_happenings t h) ≡ is_heavy t h
heavy_as t h a = ap (nat_lt most_weight) (sym a.weighs)

-- what a peer stands for is what a peer can do by itself
pub is_peer : {H Job : Type 0} (hub : Hub Job) (t : Settings) (peer : Peer H Job) (h : List PeerEvent) → Stands hub t peer h → IsPeer hub t h
is_peer hub t peer h s = record {
  follows = s.follows;
  prompt = s.prompt;
  is_history = subst (λ l. IsHistory l t.wire t.config (byte_steps t h)) (sym s.limits) s.end.history;
}

pub open_is_light : {H Job : Type 0} (hub : Hub Job) (t : Settings) (peer : Peer H Job) (h : List PeerEvent) → PeersAreBounded Job → Stands hub t peer h → is_shut t h ≡ false
    → is_heavy t h ≡ false
open_is_light {H} hub t peer h bounded s unclosed = le-ltb most_weight (kept_weight t h) ((bounded hub t h (is_peer {H = H} hub t peer h s)).weight unclosed)

-- ---- the test of their weight

less : (a b c : ℕ) → a < b → b ≤ c → a < c
less a b c p q = omega arith

pub stays_light : (end : End) (weight kept : ℕ) → (weight ≤ most_weight → weight ≡ kept) → weight ≤ most_weight → ClosesIf (nat_lt most_weight kept) end end
stays_light end weight kept exact light = subst (λ b. ClosesIf b end end) (sym (le-ltb most_weight kept (subst (λ k. k ≤ most_weight) (exact light) light))) refl

pub is_closed_heavy : (old new : End) (weight kept : ℕ) → weight ≤ kept → most_weight < weight → ClosesIf true old new → ClosesIf (nat_lt most_weight kept) old new
is_closed_heavy old new weight kept least heavy f = subst (λ b. ClosesIf b old new) (sym (lt-ltb most_weight kept (less most_weight weight kept heavy least))) f
