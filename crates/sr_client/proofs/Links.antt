-- Links of the client's peer that begin, are lost, and are silent.
use Rattle.std.proofs.Common.{◌≡◌, ℕ, suc, ◌<◌, Bool, true, false, not, ◌&&◌, ◌||◌, List, [], ◌∷◌, ◌++◌, codes, Option, Some, None, is_some}
use Rattle.std.proofs.Common.{refl, sym, ap, ◌∙◌, subst, arith, true≢false, if◌then◌else◌}
use Rattle.std.specs.Prelude.{◌==◌}
use Rattle.std.proofs.lemmas.Bool.{eqb-true}
use Rattle.hm_message.specs.declared.message.Ending.{Ending}
use Rattle.hd_delivery.specs.Histories as of
use Rattle.hd_delivery.specs.Histories.{Config, EndEvent, Attached, Detached, Fed, Took, Failed, Sent, Lent, Ticked, Silenced, Closed, first_link}
use Rattle.hd_delivery.specs.Histories.{first_of, is_closed}
use Rattle.hd_delivery.specs.Histories.{is_resumable, is_silence, link_count, present_link, was_on}
use Rattle.hd_delivery.specs.Processes.{next_frame, processes}
use Rattle.hd_delivery.specs.Worlds.{Limits}
use Rattle.hd_delivery.specs.Bytes.{Wire, ByteStep, Bytes, Does as Step_of, in_frames}
use Rattle.hd_delivery.specs.OneHistory.{IsHistory}
use Rattle.he_end.specs.declared.session.AttachError.{AttachError}
use Rattle.he_end.specs.declared.session.AttachError.TheVariants as attach
use Rattle.hd_calls.specs.Peers.{PeerEvent, Plain, Settings, byte_steps, is_shut, steps}
use Rattle.hp_peer.specs.declared.peer.Peer.{Peer}
use Rattle.hp_peer.specs.Stands.{Stands}
use Rattle.hub_calc.specs.declared.client.ClientHub.{ClientHub}
use Rattle.hub_calc.specs.Client.{client_hub}
use Rattle.hd_client.specs.Printed.{again_line, line}
use Rattle.sr_client.specs.declared.peer.ClientPeer.{ClientPeer}
use Rattle.sr_client.specs.Peers.{Goes, Plays, leaving, ticking}
use Rattle.sr_client.proofs.Chains.{history_of, same_text_after, with_peer}
use Rattle.sr_client.proofs.Quiet.{taken_new, taken_off, taken_ticked}

-- ---- an end that is away

kept_if : (kept shut : Bool) → (if kept then shut else true) ≡ false → kept ≡ true
kept_if true shut e = refl
kept_if false shut e = absurd (true≢false e)

none_off : (b : Bool) (s : EndEvent) → (if b then None else None) ≡ Some s → ⊥
none_off true s e = true≢false (sym (ap is_some e))
none_off false s e = true≢false (sym (ap is_some e))

-- without a link nothing is taken
none_taken : (c : Config) (h : List EndEvent) (s : EndEvent) → present_link h ≡ None → processes c h ≡ Some s → ⊥
none_taken c h s away e = none_off (is_closed c h) s (sym (ap (λ l. if is_closed c h then None else next_frame c h l) away) ∙ e)

-- an end that is open, and away from a link that it had, is kept
module _ (limits : Limits) (wire : Wire) (c : Config) where
  pub kept_away : (h : List ByteStep) → IsHistory limits wire c h → is_closed c (in_frames wire c h) ≡ false → present_link (in_frames wire c h) ≡ None
      → is_some (first_link (in_frames wire c h)) ≡ true → is_resumable c (in_frames wire c h) ≡ true
  kept_away [] x live away had = absurd (true≢false (sym had))
  kept_away (Bytes piece ∷ h) x live away had = kept_away h x.0 live away had
  kept_away (Step_of (Attached l now) ∷ h) x live away had = absurd (true≢false (ap is_some away))
  kept_away (Step_of (Detached now) ∷ h) x live away had = kept_if (is_resumable c (in_frames wire c h)) (is_closed c (in_frames wire c h)) live
  kept_away (Step_of (Silenced now) ∷ h) x live away had = kept_if (is_resumable c (in_frames wire c h)) (is_closed c (in_frames wire c h)) live
  kept_away (Step_of (Fed piece) ∷ h) x live away had = absurd x.1
  kept_away (Step_of (Took got) ∷ h) x live away had = absurd (none_taken c (in_frames wire c h) (Took got) away x.1)
  kept_away (Step_of (Failed fault) ∷ h) x live away had = absurd (true≢false live)
  kept_away (Step_of (Closed why allow) ∷ h) x live away had = absurd (true≢false live)
  kept_away (Step_of (Sent m) ∷ h) x live away had = kept_away h x.0 live away had
  kept_away (Step_of (Lent f) ∷ h) x live away had = kept_away h x.0 live away had
  kept_away (Step_of (Ticked now) ∷ h) x live away had = kept_away h x.0 live away had

-- ---- a link begins

-- the next link by its own count is one on which it never stood
pub unused : (t : Settings) (p : ClientPeer) (h : List PeerEvent) → Plays t p h → was_on (link_count (steps t h)) (steps t h) ≡ false
unused t p h plays = by (was_on (link_count (steps t h)) (steps t h)) refl
  where
    by : (b : Bool) → was_on (link_count (steps t h)) (steps t h) ≡ b → b ≡ false
    by true e = absurd (let less = plays.on.links (link_count (steps t h)) e in omega (arith, less))
    by false e = refl

is_first : (o : Option ℕ) (l : ℕ) → true ≡ is_some (first_of o (Some l))
is_first None l = refl
is_first (Some k) l = refl

below_next : (l n : ℕ) (b : Bool) → (b ≡ true → l < n) → ((l == n) || b) ≡ true → l < suc n
below_next l n b less e = by (l == n) refl e
  where
    by : (a : Bool) → (l == n) ≡ a → (a || b) ≡ true → l < suc n
    by true f g = let same = eqb-true l n f in omega (arith, same)
    by false f g = let under = less g in omega (arith, under)

module _ (t : Settings) (p : ClientPeer) (h : List PeerEvent) (plays : Plays t p h) (x : Peer ClientHub Ending) (now : ℕ) where
  abbrev link : ℕ
  link = link_count (steps t h)

  abbrev begins : PeerEvent
  begins = Plain (Step_of (Attached link now))

  plays_there : (new : ClientPeer) → new.linked ≡ true → Stands client_hub t new.peer (begins ∷ h) → Plays t new (begins ∷ h)
  plays_there new was_linked stands = record {
    on = record {
      stands = stands;
      side = plays.on.side;
      linked = was_linked ∙ is_first (first_link (steps t h)) link;
      links = λ l was. below_next l link (was_on l (steps t h)) (plays.on.links l) was;
      handled = plays.on.handled;
    };
    taken = taken_new t.config (steps t h) link now (unused t p h plays);
  }

  again_by : (o : Option ℕ) → true ≡ is_some o → again_line o ≡ line (codes "again")
  again_by None e = absurd (true≢false e)
  again_by (Some l) e = refl

  silent_by : (o : Option ℕ) → false ≡ is_some o → again_line o ≡ []
  silent_by None e = refl
  silent_by (Some l) e = absurd (true≢false (sym e))

  pub attached_again : (before after : List ℕ) → p.linked ≡ true → Stands client_hub t x (begins ∷ h) → after ≡ before ++ line (codes "again")
      → Goes t h (with_peer p x) before after (begins ∷ [])
  attached_again before after had stands text = record {
    plays = plays_there (with_peer p x) had stands;
    appended = text ∙ ap (λ y. before ++ y) (sym (again_by (first_link (steps t h)) (sym had ∙ plays.on.linked)));
  }

  pub attached_first : (before : List ℕ) → p.linked ≡ false → Stands client_hub t x (begins ∷ h)
      → Goes t h (record p { peer = x; linked = true }) before before (begins ∷ [])
  attached_first before had stands = record {
    plays = plays_there (record p { peer = x; linked = true }) refl stands;
    appended = same_text_after before ∙ ap (λ y. before ++ y) (sym (silent_by (first_link (steps t h)) (sym had ∙ plays.on.linked)));
  }

-- an end that is open and away takes a link
pub not_refused : (t : Settings) (p : ClientPeer) (h : List PeerEvent) → Plays t p h → (e : AttachError) → (e ≡ attach.Closed → is_shut t h ≡ true)
    → (e ≡ attach.NotGranted → (is_shut t h ≡ false) × (is_resumable t.config (steps t h) ≡ false) × (first_link (steps t h) ≡ None → ⊥))
    → is_shut t h ≡ false → present_link (steps t h) ≡ None → ⊥
not_refused t p h plays attach.Closed closed granted live away = true≢false (sym (closed refl) ∙ live)
not_refused t p h plays attach.NotGranted closed granted live away =
    let why = granted refl in
    true≢false (sym (kept_away t.limits t.wire t.config (byte_steps t h) (history_of t p h plays.on) live away (had (first_link (steps t h)) why.2)) ∙ why.1)
  where
    had : (o : Option ℕ) → (o ≡ None → ⊥) → is_some o ≡ true
    had None f = absurd (f refl)
    had (Some l) f = refl

-- ---- a link is lost

module _ (t : Settings) (p : ClientPeer) (h : List PeerEvent) (plays : Plays t p h) (now : ℕ) (before : List ℕ) where
  -- without one nothing is done
  pub left_none : false ≡ is_some (present_link (steps t h)) → Goes t h p before before (leaving t h now)
  left_none away =
      subst (λ b. Goes t h p before before (if b then Plain (Step_of (Detached now)) ∷ [] else [])) away
      (record { plays = plays; appended = same_text_after before })

  pub left : (x : Peer ClientHub Ending) (after : List ℕ) → true ≡ is_some (present_link (steps t h))
      → ((l : ℕ) → present_link (steps t h) ≡ Some l → Stands client_hub t x (Plain (Step_of (Detached now)) ∷ h))
      → after ≡ before ++ line (codes "lost") → Goes t h (with_peer p x) before after (leaving t h now)
  left x after there stands text =
      subst (λ b. Goes t h (with_peer p x) before after (if b then Plain (Step_of (Detached now)) ∷ [] else [])) there
      (record {
        plays = record {
          on = record {
            stands = by (present_link (steps t h)) refl there;
            side = plays.on.side;
            linked = plays.on.linked;
            links = plays.on.links;
            handled = plays.on.handled;
          };
          taken = taken_off (is_closed t.config (Detached now ∷ steps t h));
        };
        appended = text;
      })
    where
      by : (o : Option ℕ) → present_link (steps t h) ≡ o → true ≡ is_some o → Stands client_hub t x (Plain (Step_of (Detached now)) ∷ h)
      by (Some l) at e = stands l at
      by None at e = absurd (true≢false e)

  -- ---- a moment comes

  abbrev ticks : Bool → List PeerEvent
  ticks b = Plain (Step_of (if b then Silenced now else Ticked now)) ∷ []

  pub ticked_none : false ≡ is_some (present_link (steps t h)) → (false ≡ is_silence t.config now (steps t h)) × Goes t h p before before (ticking t h now)
  ticked_none away = (
    ap (λ b. (b && not (is_closed t.config (steps t h))) && of.is_late now (of.heard_moment (steps t h))) away,
    subst (λ b. Goes t h p before before (if b then ticks (is_silence t.config now (steps t h)) else [])) away
        (record { plays = plays; appended = same_text_after before }),
  )

  module _ (x : Peer ClientHub Ending) (there : true ≡ is_some (present_link (steps t h))) where
    by_tick : (silent : Bool) → silent ≡ is_silence t.config now (steps t h) → (after : List ℕ) → Goes t h (with_peer p x) before after (ticks silent)
        → (silent ≡ is_silence t.config now (steps t h)) × Goes t h (with_peer p x) before after (ticking t h now)
    by_tick silent is after goes = (
      is,
      subst (λ b. Goes t h (with_peer p x) before after (if b then ticks (is_silence t.config now (steps t h)) else [])) there
          (subst (λ b. Goes t h (with_peer p x) before after (ticks b)) is goes),
    )

    pub ticked : (false ≡ is_silence t.config now (steps t h)) × Stands client_hub t x (Plain (Step_of (Ticked now)) ∷ h)
        → (false ≡ is_silence t.config now (steps t h)) × Goes t h (with_peer p x) before before (ticking t h now)
    ticked did = by_tick false did.0 before (record {
      plays = record {
        on = record { stands = did.1; side = plays.on.side; linked = plays.on.linked; links = plays.on.links; handled = plays.on.handled };
        taken = taken_ticked t.config (steps t h) now plays.taken;
      };
      appended = same_text_after before;
    })

    pub silenced : (after : List ℕ) → (true ≡ is_silence t.config now (steps t h)) × Stands client_hub t x (Plain (Step_of (Silenced now)) ∷ h)
        → after ≡ before ++ line (codes "lost")
        → (true ≡ is_silence t.config now (steps t h)) × Goes t h (with_peer p x) before after (ticking t h now)
    silenced after did text = by_tick true did.0 after (record {
      plays = record {
        on = record { stands = did.1; side = plays.on.side; linked = plays.on.linked; links = plays.on.links; handled = plays.on.handled };
        taken = taken_off (is_closed t.config (Silenced now ∷ steps t h));
      };
      appended = text;
    })

-- what a tick told
abbrev pub HasTicked : Settings → List PeerEvent → Peer ClientHub Ending → ℕ → Bool → Type 0
HasTicked t h x now silent =
    (silent ≡ is_silence t.config now (steps t h)) × Stands client_hub t x (Plain (Step_of (if silent then Silenced now else Ticked now)) ∷ h)

pub ticked_so : (t : Settings) (h : List PeerEvent) (x : Peer ClientHub Ending) (now : ℕ) (silent so : Bool) → silent ≡ so → HasTicked t h x now silent
    → HasTicked t h x now so
ticked_so t h x now silent so is did = subst (λ b. HasTicked t h x now b) is did
