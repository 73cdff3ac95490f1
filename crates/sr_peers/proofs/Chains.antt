-- Moves that come after others: as a chain, and with their lines.
use Rattle.std.proofs.Common.{◌≡◌, ℕ, List, [], ◌∷◌, ◌++◌, Option, Some, refl, sym, ap, ◌∙◌, subst, append_assoc}
use Rattle.std.proofs.lemmas.List.{append-nil}
use Rattle.hd_calls.specs.Hubs.{Hub}
use Rattle.hd_calls.specs.Peers.{PeerEvent, Settings}
use Rattle.hp_peer.specs.declared.peer.Peer.{Peer}
use Rattle.hp_peer.specs.Stands.{Stands}
use Rattle.sr_peers.specs.declared.party.Party.{Party}
use Rattle.sr_peers.specs.Doings.{Chain, WholeChain, Losing, WithLosses}
use Rattle.sr_peers.specs.Told.{TellsMove, TellsAll}
use Rattle.sr_peers.specs.Plays.{Plays, Goes}

-- the party with another peer
abbrev pub with : {H Job : Type 0} → Party H Job → Peer H Job → Party H Job
with p x = record p { peer = x }

pub chain_append : (next : List PeerEvent → Option PeerEvent → Type 0) (h rs ss : List PeerEvent) → Chain next h rs → Chain next (rs ++ h) ss → Chain next h (ss ++ rs)
chain_append next h rs [] first more = first
chain_append next h rs (s ∷ ss) first more =
    (chain_append next h rs ss first more.0, subst (λ k. next k (Some s)) (sym (append_assoc ss rs h)) more.1)

tells_append : (t : Settings) (h rs ss : List PeerEvent) (a b : List ℕ) → TellsAll t h rs a → TellsAll t (rs ++ h) ss b → TellsAll t h (ss ++ rs) (a ++ b)
tells_append t h rs [] a b first more = subst (λ x. TellsAll t h rs x) (sym (ap (λ y. a ++ y) more ∙ append-nil a)) first
tells_append t h rs (s ∷ ss) a b first more = (
  a ++ more.0,
  more.1,
  (
    tells_append t h rs ss a more.0 first more.2.0,
    subst (λ k. TellsMove t k s more.1) (sym (append_assoc ss rs h)) more.2.1,
    ap (λ x. a ++ x) more.2.2 ∙ sym (append_assoc a more.0 more.1),
  ),
)

module _ {H Job : Type 0} (hub : Hub Job) (t : Settings) (h : List PeerEvent) where
  pub goes_none : (p : Party H Job) (before : List ℕ) → Plays hub t p h → Goes hub t h p before before []
  goes_none p before plays = record { plays = plays; text = []; tells = refl; appended = sym (append-nil before) }

  pub goes_one : (new : Party H Job) (before after text : List ℕ) (d : PeerEvent) → Plays hub t new (d ∷ h) → TellsMove t h d text → after ≡ before ++ text
      → Goes hub t h new before after (d ∷ [])
  goes_one new before after text d plays tells is = record { plays = plays; text = text; tells = ([], text, (refl, tells, refl)); appended = is }

  pub goes_on : (mid new : Party H Job) (before now after : List ℕ) (ds es : List PeerEvent) → Goes hub t h mid before now ds
      → Goes hub t (ds ++ h) new now after es → Goes hub t h new before after (es ++ ds)
  goes_on mid new before now after ds es first more = record {
    plays = subst (λ k. Plays hub t new k) (sym (append_assoc es ds h)) more.plays;
    text = first.text ++ more.text;
    tells = tells_append t h ds es first.text more.text first.tells more.tells;
    appended = more.appended ∙ (ap (λ x. x ++ more.text) first.appended ∙ append_assoc before first.text more.text);
  }

  -- nothing more was done
  pub goes_same : (p new : Party H Job) (before now after : List ℕ) (ds : List PeerEvent) → Goes hub t h p before now ds → Plays hub t new (ds ++ h) → after ≡ now
      → Goes hub t h new before after ds
  goes_same p new before now after ds first plays same =
      record { plays = plays; text = first.text; tells = first.tells; appended = same ∙ first.appended }

  -- then the calls that are gone were handed out
  pub with_losses : (mid new : Party H Job) (before now after : List ℕ) (ds : List PeerEvent) → Goes hub t h mid before now ds
      → (gone : List PeerEvent) × (WholeChain (Losing t) (ds ++ h) gone × Goes hub t (ds ++ h) new now after gone)
      → (all : List PeerEvent) × (WithLosses t h ds all × Goes hub t h new before after all)
  with_losses mid new before now after ds first gone =
      (gone.0 ++ ds, ((gone.0, (gone.1.0, refl)), goes_on mid new before now after ds gone.0 first gone.1.1))

module _ {H Job : Type 0} (hub : Hub Job) (t : Settings) (h : List PeerEvent) (p : Party H Job) (plays : Plays hub t p h) (x : Peer H Job) where
  -- the peer stands for what it stood for
  pub plays_still : Stands hub t x h → Plays hub t (with p x) h
  plays_still stands = record { stands = stands; side_is = plays.side_is; link_is = plays.link_is; handled = plays.handled }
