-- How a peer of a replay does what its user asks for of its calls, or refuses it.
use Rattle.std.proofs.Common.{inl, inr, ◌≡◌, ℕ, List, ◌∷◌, ◌++◌, None, codes, refl, sym, ap, ◌∙◌, subst}
use Rattle.hv_value.specs.Tree.{Tree}
use Rattle.hd_delivery.specs.Histories.{present_link}
use Rattle.hd_calls.specs.declared.vocabulary.CallKind.{CallKind}
use Rattle.hd_calls.specs.Hubs.{Hub}
use Rattle.hd_calls.specs.Peers.{PeerEvent, Calls, Settings, drawn, waiting, steps}
use Rattle.hd_calls.specs.Rules.{CallRefusal, IsRefusedCall}
use Rattle.hi_calls.specs.Numbering.{number_after}
use Rattle.hp_peer.specs.declared.errors.AskError.{AskError}
use Rattle.hp_peer.specs.declared.errors.AskError.TheVariants as ask
use Rattle.hp_peer.specs.declared.peer.Peer.{Peer}
use Rattle.hp_peer.specs.Calling.{HasCalled, heard_call}
use Rattle.hp_peer.specs.Stands.{Stands}
use Rattle.sr_lines.specs.Laws.{IsToldAs}
use Rattle.sr_notation.specs.Words.{line_at}
use Rattle.sr_lines.specs.Lines.{ask_words, counted, why_words}
use Rattle.sr_peers.specs.declared.party.Party.{Party}
use Rattle.sr_peers.specs.Doings.{Doing, Makes, Refuses, Asks, IsDone}
use Rattle.sr_peers.specs.Told.{TellsMove}
use Rattle.sr_peers.specs.Plays.{Plays, HasDone}
use Rattle.sr_peers.proofs.Chains.{with}

module _ {H Job : Type 0} (hub : Hub Job) (t : Settings) (h : List PeerEvent) (p : Party H Job) (plays : Plays hub t p h) (x : Peer H Job)
    (before after : List ℕ) where
  -- this move is made, and its line has these words
  pub asked : (d : PeerEvent) (words : List ℕ) (Refused : CallRefusal → Type 0) → Stands hub t x (d ∷ h) → waiting (d ∷ h) ≡ waiting h
      → present_link (steps t (d ∷ h)) ≡ present_link (steps t h) → TellsMove t h d (line_at t.config.side words) → after ≡ before ++ line_at p.side words
      → (did : Doing) × (IsDone d Refused did × HasDone hub t h (with p x) before after did)
  asked d words Refused stands waits there tells is = (
    Makes d,
    (
      inl refl,
      record {
        plays = record { stands = stands; side_is = plays.side_is; link_is = plays.link_is ∙ sym there; handled = waits ∙ plays.handled };
        text = line_at t.config.side words;
        tells = tells;
        appended = is ∙ ap (λ s. before ++ line_at s words) plays.side_is;
      },
    ),
  )

  -- it is refused for a reason, and the line has the reason's words
  pub unasked : (d : PeerEvent) (Refused : CallRefusal → Type 0) (e : AskError) → Stands hub t x h → (e ≡ ask.NoMemory → ⊥) → IsToldAs Refused e
      → after ≡ before ++ line_at p.side (codes "refused " ++ ask_words e)
      → (did : Doing) × (IsDone d Refused did × HasDone hub t h (with p x) before after did)
  unasked d Refused e stands some told is = let why = told some in (
    Refuses (why_words why.0),
    (
      inr (why.0, (why.1.0, refl)),
      record {
        plays = record { stands = stands; side_is = plays.side_is; link_is = plays.link_is; handled = plays.handled };
        text = line_at t.config.side (codes "refused " ++ why_words why.0);
        tells = refl;
        appended = is ∙ (ap (λ s. before ++ line_at s (codes "refused " ++ ask_words e)) plays.side_is
            ∙ ap (λ w. before ++ line_at t.config.side (codes "refused " ++ w)) (sym why.1.1));
      },
    ),
  )

  -- a call is made, with the number that comes next
  pub called : (kind : CallKind) (target : List ℕ) (arguments : List Tree) (uploads number : ℕ) → HasCalled hub t h x kind target arguments uploads number
      → after ≡ before ++ line_at p.side (counted (codes "call") number)
      → (did : Doing) × (Asks t h kind target arguments uploads did × HasDone hub t h (with p x) before after did)
  called kind target arguments uploads number has is =
      let c = heard_call t h kind target arguments uploads in
      asked (Calls None (number_after kind uploads (drawn h)) c) (counted (codes "call") (number_after kind uploads (drawn h))) (IsRefusedCall t h c)
      (subst (λ n. Stands hub t x (Calls None n c ∷ h)) has.number_is has.stands) refl refl refl
      (is ∙ ap (λ n. before ++ line_at p.side (counted (codes "call") n)) has.number_is)
