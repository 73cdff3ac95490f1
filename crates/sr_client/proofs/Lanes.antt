-- What a client's parts come to where its end loses its link, or ticks on it.
use Rattle.std.proofs.Common.{◌≡◌, ℕ, ◌≤◌, Bool, true, false, List, [], ◌∷◌, Option, Some, None, is_some, refl, sym, ap, subst, ◌∙◌, arith, true≢false}
use Rattle.std.specs.Prelude.{if◌then◌else◌, max}
use Rattle.std.proofs.lemmas.Bool.{eq-eqb}
use Rattle.hd_delivery.specs.Histories as of
use Rattle.hd_delivery.specs.Histories.{EndEvent, Silenced, Ticked, is_silence, present_link}
use Rattle.hd_delivery.specs.Bytes.{Does as Step_of}
use Rattle.hd_calls.specs.Peers.{PeerEvent, Plain, Settings, steps}
use Rattle.hd_server.specs.Plans.{onto}
use Rattle.hd_dialing.specs.Events.{Phase, Away, Negotiates, Upgrades, Stands, Over, is_on, is_up}
use Rattle.hd_client.specs.Setups.{Setup}
use Rattle.hd_client.specs.Events.{ClientEvent, is_over, moment, moves, phase_of, settings_of}
use Rattle.hd_client.specs.Plans as plan
use Rattle.hd_client.specs.Plans.{does, dropping}
use Rattle.hn_dialing.specs.declared.connection.Connection.{Connection}
use Rattle.sr_client.specs.declared.client.Client.{Client}
use Rattle.sr_client.specs.declared.client.Words.{Words}
use Rattle.sr_client.specs.declared.peer.ClientPeer.{ClientPeer}
use Rattle.sr_client.specs.Clients.{Before, Working, words_given}
use Rattle.sr_client.specs.Peers.{Goes, Plays, ticking}
use Rattle.sr_client.proofs.Dropped.{Drops, drops_lane, with_connection, with_shut}
use Rattle.sr_client.proofs.Parts.{AreApart, Played, linked_as, parts_moving, parts_of, with_peer, working_moving}

pub lane_of : (q : Phase) → is_up q ≡ true → (lane : ℕ) × (q ≡ Stands lane)
lane_of (Stands lane) e = (lane, refl)
lane_of Away e = absurd (true≢false (sym e))
lane_of (Negotiates lane) e = absurd (true≢false (sym e))
lane_of (Upgrades lane) e = absurd (true≢false (sym e))
lane_of Over e = absurd (true≢false (sym e))

module _ (s : Setup) (b : Before) (t : Settings) (c : Client) (p : ClientPeer) (w now : Words) (h : List ClientEvent)
    (x : Working s b c w h) (begun : settings_of s h ≡ Some t) (open_yet : is_over s h ≡ false) (on : is_some (present_link (steps t (moves h))) ≡ true)
    (m : EndEvent) (apart : AreApart (Plain (Step_of m) ∷ []) (moves h)) (timely : of.moment (m ∷ steps t (moves h)) ≤ moment h)
    (goes : Goes t (moves h) p w.printed.items now.printed.items (Plain (Step_of m) ∷ [])) (same : words_given now ≡ words_given w) (shut : now.shut ≡ w.shut) where
  up : is_up (phase_of h) ≡ true
  up = sym (x.standing.linked open_yet) ∙ (linked_as (settings_of s h) t (moves h) begun ∙ on)

  -- its link is lost by this step, and its lane dropped
  pub loses_lane : (y : Connection) (o : Option ℕ) → present_link (m ∷ steps t (moves h)) ≡ None → Drops c.connection y o
      → Working s b (with_connection (with_peer c p) y) (with_shut now o) (onto (does m ∷ dropping (phase_of h)) h)
  loses_lane y o off leaves =
      let lane = lane_of (phase_of h) up in
      drops_lane s b (with_peer c p) y now (does m ∷ h) lane.0 lane.1 o
      (parts_moving s b t c p w now (Plain (Step_of m) ∷ []) h (parts_of s b c w h x) begun apart goes timely same)
      (shut ∙ x.dropped lane.0 (ap (λ q. is_on lane.0 q) lane.1 ∙ eq-eqb lane.0 lane.0 refl))
      (linked_as (settings_of s h) t (Plain (Step_of m) ∷ moves h) begun ∙ ap is_some off) leaves

  -- or it stays on it
  pub stays_on : present_link (m ∷ steps t (moves h)) ≡ present_link (steps t (moves h)) → Working s b (with_peer c p) now (does m ∷ h)
  stays_on still =
      working_moving s b t c p w now (Plain (Step_of m) ∷ []) h (parts_of s b c w h x) x.standing.full x.dropped begun apart goes timely same shut
      (λ goes_on. ap is_some still ∙ (on ∙ sym up))

-- ---- ticks

ticking_silenced : (o : Option Settings) (t : Settings) (h : List ClientEvent) (now : ℕ) → o ≡ Some t → is_some (present_link (steps t (moves h))) ≡ true
    → is_silence t.config now (steps t (moves h)) ≡ true → plan.ticking now o h ≡ does (Silenced now) ∷ dropping (phase_of h)
ticking_silenced o t h now is on silent =
    ap (λ y. plan.ticking now y h) is
    ∙ (ap (λ a. if a then (if is_silence t.config now (steps t (moves h)) then does (Silenced now) ∷ dropping (phase_of h) else does (Ticked now) ∷ []) else []) on
    ∙ ap (λ a. if a then does (Silenced now) ∷ dropping (phase_of h) else does (Ticked now) ∷ []) silent)

ticking_ticked : (o : Option Settings) (t : Settings) (h : List ClientEvent) (now : ℕ) → o ≡ Some t → is_some (present_link (steps t (moves h))) ≡ true
    → is_silence t.config now (steps t (moves h)) ≡ false → plan.ticking now o h ≡ does (Ticked now) ∷ []
ticking_ticked o t h now is on silent =
    ap (λ y. plan.ticking now y h) is
    ∙ (ap (λ a. if a then (if is_silence t.config now (steps t (moves h)) then does (Silenced now) ∷ dropping (phase_of h) else does (Ticked now) ∷ []) else []) on
    ∙ ap (λ a. if a then does (Silenced now) ∷ dropping (phase_of h) else does (Ticked now) ∷ []) silent)

pub ticking_off : (o : Option Settings) (t : Settings) (h : List ClientEvent) (now : ℕ) → o ≡ Some t → is_some (present_link (steps t (moves h))) ≡ false
    → plan.ticking now o h ≡ []
ticking_off o t h now is off =
    ap (λ y. plan.ticking now y h) is
    ∙ ap (λ a. if a then (if is_silence t.config now (steps t (moves h)) then does (Silenced now) ∷ dropping (phase_of h) else does (Ticked now) ∷ []) else []) off

tick_is : (t : Settings) (g : List PeerEvent) (now : ℕ) (silent : Bool) → is_some (present_link (steps t g)) ≡ true → is_silence t.config now (steps t g) ≡ silent
    → ticking t g now ≡ Plain (Step_of (if silent then Silenced now else Ticked now)) ∷ []
tick_is t g now silent on is =
    ap (λ a. if a then Plain (Step_of (if is_silence t.config now (steps t g) then Silenced now else Ticked now)) ∷ [] else []) on
    ∙ ap (λ a. Plain (Step_of (if a then Silenced now else Ticked now)) ∷ []) is

-- what a tick of its peer told
abbrev pub TicksPeer : ClientPeer → ClientPeer → ℕ → Bool → List ℕ → List ℕ → Type 0
TicksPeer old new now silent before after = (t : Settings) (g : List PeerEvent) → Plays t old g → of.moment (steps t g) ≤ now
    → (silent ≡ is_silence t.config now (steps t g)) × Goes t g new before after (ticking t g now)

at_moment : (k now m : ℕ) → k ≤ m → now ≡ m → max now k ≤ m
at_moment k now m few is = omega (arith, few, is)

module _ (s : Setup) (b : Before) (c : Client) (p old : ClientPeer) (w now : Words) (h : List ClientEvent) (at : ℕ) (silent : Bool)
    (x : Working s b c w h) (open_yet : is_over s h ≡ false) (is_now : at ≡ moment h) (played : Played (settings_of s h) old (moves h) (moment h))
    (on : is_some (present_link (steps played.settings (moves h))) ≡ true)
    (ticks : TicksPeer old p at silent w.printed.items now.printed.items) (same : words_given now ≡ words_given w) (shut : now.shut ≡ w.shut) where
  abbrev t : Settings
  t = played.settings

  in_time : of.moment (steps t (moves h)) ≤ at
  in_time = let few = played.timely in omega (arith, few, is_now)

  later : max at (of.moment (steps t (moves h))) ≤ moment h
  later = at_moment (of.moment (steps t (moves h))) at (moment h) played.timely is_now

  -- a silence
  pub works_silenced : (y : Connection) (o : Option ℕ) → silent ≡ true → Drops c.connection y o
      → Working s b (with_connection (with_peer c p) y) (with_shut now o) (onto (plan.ticking at (settings_of s h) h) h)
  works_silenced y o is leaves =
      let done = ticks t (moves h) played.plays in_time in
      let fell : is_silence t.config at (steps t (moves h)) ≡ true = sym done.0 ∙ is in
      subst (λ es. Working s b (with_connection (with_peer c p) y) (with_shut now o) (onto es h))
      (sym (ticking_silenced (settings_of s h) t h at played.begun on fell))
      (loses_lane s b t c p w now h x played.begun open_yet on (Silenced at) (record { closes = refl; uploads = λ u. u }) later
      (subst (λ ms. Goes t (moves h) p w.printed.items now.printed.items ms) (tick_is t (moves h) at true on fell) done.1) same shut y o refl leaves)

  -- none
  pub works_ticked : silent ≡ false → Working s b (with_peer c p) now (onto (plan.ticking at (settings_of s h) h) h)
  works_ticked is =
      let done = ticks t (moves h) played.plays in_time in
      let fell : is_silence t.config at (steps t (moves h)) ≡ false = sym done.0 ∙ is in
      subst (λ es. Working s b (with_peer c p) now (onto es h)) (sym (ticking_ticked (settings_of s h) t h at played.begun on fell))
      (stays_on s b t c p w now h x played.begun open_yet on (Ticked at) (record { closes = refl; uploads = λ u. u }) later
      (subst (λ ms. Goes t (moves h) p w.printed.items now.printed.items ms) (tick_is t (moves h) at false on fell) done.1) same shut refl)
