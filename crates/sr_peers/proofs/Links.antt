-- How a peer of a replay takes, loses and closes its link, and hears of a moment.
use Rattle.std.proofs.Common.{inl, inr, ◌≡◌, ◌⊎◌, ℕ, Bool, true, false, List, [], ◌∷◌, ◌++◌, Option, Some, None, codes, refl, sym, ap, ◌∙◌, subst}
use Rattle.std.specs.Prelude.{not, ◌&&◌, is_some, if◌then◌else◌}
use Rattle.std.proofs.lemmas.List.{append-nil}
use Rattle.hd_delivery.specs.declared.vocabulary.Reason.TheVariants.{Done}
use Rattle.hd_delivery.specs.Histories.{Attached, Detached, Ticked, Silenced, Closed, present_link, first_link, is_resumable, is_silence}
use Rattle.hd_delivery.specs.Worlds.{MayBegin}
use Rattle.hd_delivery.specs.Bytes.{Does}
use Rattle.he_end.specs.declared.session.AttachError.{AttachError}
use Rattle.he_end.specs.declared.session.AttachError.TheVariants as attach
use Rattle.he_end.specs.Words.{attach_words}
use Rattle.hd_calls.specs.Hubs.{Hub}
use Rattle.hd_calls.specs.Peers.{PeerEvent, Plain, Settings, is_shut, steps}
use Rattle.hp_peer.specs.declared.peer.Peer.{Peer}
use Rattle.hp_peer.specs.Stands.{Stands}
use Rattle.sr_notation.specs.Words.{line_at}
use Rattle.sr_peers.specs.declared.party.Party.{Party}
use Rattle.sr_peers.specs.Doings.{Makes, Refuses, IsTried, attaching, closing, leaving, ticking}
use Rattle.sr_peers.specs.Plays.{Plays, Goes, HasDone}
use Rattle.sr_peers.proofs.Chains.{with, goes_none, goes_one}

granted_is : (o : Option ℕ) (kept : Bool) → (o ≡ None) ⊎ (kept ≡ true) → (is_some o && not kept) ≡ false
granted_is None kept h = refl
granted_is (Some l) true h = refl
granted_is (Some l) false (inl e) = absurd (cc)
granted_is (Some l) false (inr e) = absurd (cc)

refused_is : (o : Option ℕ) (kept : Bool) → (o ≡ None → ⊥) → kept ≡ false → (is_some o && not kept) ≡ true
refused_is None kept some e = absurd (some refl)
refused_is (Some l) true some e = absurd (cc)
refused_is (Some l) false some e = refl

module _ (t : Settings) (h : List PeerEvent) (l now : ℕ) where
  pub attaches : MayBegin t.config (steps t h) l now → attaching t h l now ≡ Makes (Plain (Does (Attached l now)))
  attaches may = rw (may.unclosed, granted_is (first_link (steps t h)) (is_resumable t.config (steps t h)) may.granted) refl

  pub closed_refuses : is_shut t h ≡ true → attaching t h l now ≡ Refuses (codes "Closed")
  closed_refuses over = rw over refl

  pub plain_refuses : is_shut t h ≡ false → is_resumable t.config (steps t h) ≡ false → (first_link (steps t h) ≡ None → ⊥)
      → attaching t h l now ≡ Refuses (codes "NotGranted")
  plain_refuses live plain had = rw (live, refused_is (first_link (steps t h)) (is_resumable t.config (steps t h)) had plain) refl

-- a moment came to the peer, a silence exactly if this is so
abbrev pub HasTicked : {H Job : Type 0} → Hub Job → Settings → List PeerEvent → Peer H Job → ℕ → Bool → Type 0
HasTicked hub t h x now silent =
    (silent ≡ is_silence t.config now (steps t h)) × Stands hub t x (Plain (Does (if silent then Silenced now else Ticked now)) ∷ h)

module _ {H Job : Type 0} (hub : Hub Job) (t : Settings) (h : List PeerEvent) (p : Party H Job) (plays : Plays hub t p h) (x : Peer H Job) where
  pub taken_link : (l now : ℕ) (before : List ℕ) → Stands hub t x (Plain (Does (Attached l now)) ∷ h)
      → IsTried t h l now true × HasDone hub t h (record p { peer = x; link = Some l }) before before (attaching t h l now)
  taken_link l now before stands =
      let made = attaches t h l now stands.end.history.1 in (
        made,
        subst (λ d. HasDone hub t h (record p { peer = x; link = Some l }) before before d) (sym made) (record {
          plays = record { stands = stands; side_is = plays.side_is; link_is = refl; handled = plays.handled };
          text = [];
          tells = refl;
          appended = sym (append-nil before);
        }),
      )

  pub refused_link : (l now : ℕ) (words before after : List ℕ) → Stands hub t x h → attaching t h l now ≡ Refuses words
      → after ≡ before ++ line_at p.side (codes "refused " ++ words)
      → IsTried t h l now false × HasDone hub t h (with p x) before after (attaching t h l now)
  refused_link l now words before after stands refused is = (
    (words, refused),
    subst (λ d. HasDone hub t h (with p x) before after d) (sym refused) (record {
      plays = record { stands = stands; side_is = plays.side_is; link_is = plays.link_is; handled = plays.handled };
      text = line_at t.config.side (codes "refused " ++ words);
      tells = refl;
      appended = is ∙ ap (λ s. before ++ line_at s (codes "refused " ++ words)) plays.side_is;
    }),
  )

  -- the link is refused for this reason
  pub refused_for : (l now : ℕ) (e : AttachError) (before after : List ℕ) → x ≡ p.peer → (e ≡ attach.Closed → is_shut t h ≡ true)
      → (e ≡ attach.NotGranted → (is_shut t h ≡ false) × (is_resumable t.config (steps t h) ≡ false) × (first_link (steps t h) ≡ None → ⊥))
      → after ≡ before ++ line_at p.side (codes "refused " ++ attach_words e)
      → IsTried t h l now false × HasDone hub t h (with p x) before after (attaching t h l now)
  refused_for l now attach.Closed before after same over plain is =
      refused_link l now (codes "Closed") before after (subst (λ y. Stands hub t y h) (sym same) plays.stands) (closed_refuses t h l now (over refl)) is
  refused_for l now attach.NotGranted before after same over plain is = let why = plain refl in
      refused_link l now (codes "NotGranted") before after (subst (λ y. Stands hub t y h) (sym same) plays.stands)
      (plain_refuses t h l now why.0 why.1 why.2) is

  pub leaves : (now : ℕ) (before : List ℕ) (o : Option ℕ) → present_link (steps t h) ≡ o
      → ((l : ℕ) → present_link (steps t h) ≡ Some l → Stands hub t x (Plain (Does (Detached now)) ∷ h))
      → (present_link (steps t h) ≡ None → x ≡ p.peer) → Goes hub t h (record p { peer = x; link = None }) before before (leaving t h now)
  leaves now before None at left same =
      subst (λ o. Goes hub t h (record p { peer = x; link = None }) before before (if is_some o then Plain (Does (Detached now)) ∷ [] else [])) (sym at)
      (goes_none hub t h (record p { peer = x; link = None }) before (record {
        stands = subst (λ y. Stands hub t y h) (sym (same at)) plays.stands;
        side_is = plays.side_is;
        link_is = sym at;
        handled = plays.handled;
      }))
  leaves now before (Some l) at left same =
      subst (λ o. Goes hub t h (record p { peer = x; link = None }) before before (if is_some o then Plain (Does (Detached now)) ∷ [] else [])) (sym at)
      (goes_one hub t h (record p { peer = x; link = None }) before before [] (Plain (Does (Detached now)))
      (record { stands = left l at; side_is = plays.side_is; link_is = refl; handled = plays.handled }) refl (sym (append-nil before)))

  pub closes : (before : List ℕ) (b : Bool) → is_shut t h ≡ b → (is_shut t h ≡ false → Stands hub t x (Plain (Does (Closed Done false)) ∷ h))
      → (is_shut t h ≡ true → x ≡ p.peer) → Goes hub t h (with p x) before before (closing t h)
  closes before true over live same =
      subst (λ b. Goes hub t h (with p x) before before (if b then [] else Plain (Does (Closed Done false)) ∷ [])) (sym over)
      (goes_none hub t h (with p x) before (record {
        stands = subst (λ y. Stands hub t y h) (sym (same over)) plays.stands;
        side_is = plays.side_is;
        link_is = plays.link_is;
        handled = plays.handled;
      }))
  closes before false unclosed live same =
      subst (λ b. Goes hub t h (with p x) before before (if b then [] else Plain (Does (Closed Done false)) ∷ [])) (sym unclosed)
      (goes_one hub t h (with p x) before before [] (Plain (Does (Closed Done false)))
      (record { stands = live unclosed; side_is = plays.side_is; link_is = plays.link_is; handled = plays.handled }) refl (sym (append-nil before)))

  pub silences : (now : ℕ) (before after : List ℕ) → HasTicked hub t h x now true → after ≡ before ++ line_at p.side (codes "silent")
      → Goes hub t h (record p { peer = x; link = None }) before after (ticking t h now)
  silences now before after ticked is =
      subst (λ b. Goes hub t h (record p { peer = x; link = None }) before after (Plain (Does (if b then Silenced now else Ticked now)) ∷ [])) ticked.0
      (goes_one hub t h (record p { peer = x; link = None }) before after (line_at t.config.side (codes "silent")) (Plain (Does (Silenced now)))
      (record { stands = ticked.1; side_is = plays.side_is; link_is = refl; handled = plays.handled }) refl
      (is ∙ ap (λ s. before ++ line_at s (codes "silent")) plays.side_is))

  pub ticks : (now : ℕ) (before : List ℕ) → HasTicked hub t h x now false → Goes hub t h (with p x) before before (ticking t h now)
  ticks now before ticked =
      subst (λ b. Goes hub t h (with p x) before before (Plain (Does (if b then Silenced now else Ticked now)) ∷ [])) ticked.0
      (goes_one hub t h (with p x) before before [] (Plain (Does (Ticked now)))
      (record { stands = ticked.1; side_is = plays.side_is; link_is = plays.link_is; handled = plays.handled }) refl (sym (append-nil before)))
