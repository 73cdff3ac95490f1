-- What an end tells that is only looked at: it lags behind if its connection sleeps, but says the same.
use Rattle.std.proofs.Common.{◌≡◌, ℕ, Bool, true, false, not, ◌&&◌, List, Option, Some, None, sym, ap, subst, ◌∙◌}
use Rattle.hd_delivery.specs.declared.vocabulary.State.{State}
use Rattle.hd_delivery.specs.declared.vocabulary.State.TheVariants as states
use Rattle.hd_delivery.specs.Histories.{is_shaken, present_link, state, state_of}
use Rattle.he_end.specs.declared.end.End.{End}
use Rattle.he_end.specs.Stands as of_end
use Rattle.hd_calls.specs.Hubs.{Hub}
use Rattle.hd_calls.specs.Peers.{PeerEvent, Settings, byte_steps, is_shut, steps}
use Rattle.hp_peer.specs.declared.peer.Peer.{Peer}
use Rattle.hub_machine.proofs.Lags.{Lags}

-- the test whether a state is this one
pub record Tells (eq : State → State → Bool) : Type 0 where
  pub closed : eq states.Closed states.Closed ≡ true
  pub opening : eq states.Opening states.Closed ≡ false
  pub away : eq states.Away states.Closed ≡ false
  pub ready : eq states.Ready states.Closed ≡ false

is_closed_by : (eq : State → State → Bool) → Tells eq → (shut shaken : Bool) (l : Option ℕ) → eq (state_of shut shaken l) states.Closed ≡ shut
is_closed_by eq tells true shaken l = tells.closed
is_closed_by eq tells false false l = tells.opening
is_closed_by eq tells false true None = tells.away
is_closed_by eq tells false true (Some l) = tells.ready

module _ {H Job : Type 0} (hub : Hub Job) (t : Settings) (p : Peer H Job) (h : List PeerEvent) (l : Lags {H = H} hub t p h) where
  -- the end stands for what its peer stands for
  pub end_looked : (e : End) → e ≡ p.end → of_end.Stands t.wire t.config e (byte_steps t l.before)
  end_looked e is = subst (λ x. of_end.Stands t.wire t.config x (byte_steps t l.before)) (sym is) l.stands.end

  -- its state tells whether the connection is closed
  pub is_shut_by : (eq : State → State → Bool) → Tells eq → (found : State) → found ≡ state t.config (steps t l.before)
      → eq found states.Closed ≡ is_shut t h
  is_shut_by eq tells found is =
      ap (λ s. eq s states.Closed) is
      ∙ is_closed_by eq tells (is_shut t l.before) (is_shaken (steps t l.before)) (present_link (steps t l.before))
      ∙ sym l.same.shut

-- of one that is open, whether it is kept decides, and of one that is closed nothing does
pub open_then : (opens shut kept asked : Bool) → opens ≡ not shut → opens ≡ true → asked ≡ kept → asked ≡ (not shut && kept)
open_then opens true kept asked e f g = absurd (cc)
open_then opens false kept asked e f g = g

pub shut_then : (opens shut kept : Bool) → opens ≡ not shut → opens ≡ false → opens ≡ (not shut && kept)
shut_then opens true kept e f = f
shut_then opens false kept e f = absurd (cc)

-- whether it is open and kept, by what says the same of both
pub as_kept : (a b k l : Bool) → a ≡ b → k ≡ l → (not b && l) ≡ (not a && k)
as_kept a b k l e f = ap (λ x. not x && l) (sym e) ∙ ap (λ x. not a && x) (sym f)
