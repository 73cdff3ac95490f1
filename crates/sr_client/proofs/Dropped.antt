-- What a client's parts come to once its lane is dropped, and once its connection is left.
use Rattle.std.proofs.Common.{◌≡◌, ℕ, true, false, List, [], ◌∷◌, ◌++◌, Option, Some, None, refl, sym, ap, subst, ◌∙◌, append_assoc, true≢false}
use Rattle.std.specs.Prelude.{if◌then◌else◌}
use Rattle.std.proofs.lemmas.Bool.{eq-eqb, or_left}
use Rattle.std.proofs.lemmas.List.{append-nil}
use Rattle.hw_door.specs.declared.heard.Given.{Given}
use Rattle.hw_door.specs.declared.heard.Given.TheVariants as give
use Rattle.hd_server.specs.Plans.{onto}
use Rattle.hd_dialing.specs.Asks as of_dialing
use Rattle.hd_dialing.specs.Dialing as move
use Rattle.hd_dialing.specs.Dialing.{moved}
use Rattle.hd_dialing.specs.Events.{DialEvent, Phase, Away, Negotiates, Upgrades, Stands, Over, Shuts, Stops, is_on, is_up, phase}
use Rattle.hd_dialing.specs.Events as dial
use Rattle.hd_dialing.specs.Plans.{shut}
use Rattle.hd_client.specs.Setups.{Setup}
use Rattle.hd_client.specs.Events.{ClientEvent, Dialed, dialing, has_closed, moment, moves, phase_of, settings_of}
use Rattle.hd_client.specs.Plans.{dropping, leaving}
use Rattle.hd_client.specs.Telling.{given}
use Rattle.hn_dialing.specs.Calls.{shut_of}
use Rattle.hn_dialing.specs.Stands as of_connection
use Rattle.hn_dialing.specs.Stands.{lane_in}
use Rattle.hn_dialing.specs.declared.connection.Connection.{Connection}
use Rattle.sr_client.specs.declared.client.Client.{Client}
use Rattle.sr_client.specs.declared.client.Words.{Words}
use Rattle.sr_client.specs.Clients.{Before, IsFullBy, Kept, PlaysBy, Tells, Working, is_linked, message_given, shut_given, words_given}
use Rattle.sr_client.proofs.Parts.{Parts}

-- ---- the lane that is left

-- the client with this connection
abbrev pub with_connection : Client → Connection → Client
with_connection c x = record c { connection = x }

-- and with this lane to be shut
abbrev pub with_shut : Words → Option ℕ → Words
with_shut w lane = record w { shut = lane }

-- it isn't any number
pub none_by : (o : Option ℕ) → ((n : ℕ) → o ≡ Some n → ⊥) → o ≡ None
none_by None not = refl
none_by (Some n) not = absurd (not n refl)

-- the connection's lane is given up, and answered
abbrev pub Drops : Connection → Connection → Option ℕ → Type 0
Drops old new o = ((z : of_dialing.Setup) (d : List DialEvent) → of_connection.Stands z old d
    → (moved z move.Drops d ≡ shut_of o ++ d) × of_connection.Stands z new (moved z move.Drops d)) × (o ≡ lane_in (of_connection.phase_of old.phase))

-- and the connection with it
abbrev pub LeavesIt : Connection → Connection → Option ℕ → Type 0
LeavesIt old new o = ((z : of_dialing.Setup) (d : List DialEvent) → of_connection.Stands z old d
    → (moved z move.Leaves d ≡ Stops ∷ (shut_of o ++ d)) × of_connection.Stands z new (moved z move.Leaves d)) × (o ≡ lane_in (of_connection.phase_of old.phase))

-- what is said is followed by the lane that is to be shut
gives_shut : (b : Before) (w : Words) (lane : ℕ) (g : List Given) → w.shut ≡ None → g ≡ b.given ++ words_given w
    → g ++ give.Shut lane ∷ [] ≡ b.given ++ words_given (with_shut w (Some lane))
gives_shut b w lane g none is =
    ap (λ x. x ++ give.Shut lane ∷ []) (is ∙ ap (λ x. b.given ++ (message_given w.lane w.message.items w.text ++ shut_given x)) none)
    ∙ (ap (λ x. (b.given ++ x) ++ give.Shut lane ∷ []) (append-nil (message_given w.lane w.message.items w.text))
    ∙ append_assoc b.given (message_given w.lane w.message.items w.text) (give.Shut lane ∷ []))

-- ---- drops

module _ (s : Setup) (b : Before) (c : Client) (x : Connection) (w : Words) (h : List ClientEvent) (lane : ℕ) (up : phase_of h ≡ Stands lane) where
  there : shut (phase_of h) (dialing h) ≡ Shuts lane ∷ dialing h
  there = ap (λ q. shut q (dialing h)) up

  down : phase (Shuts lane ∷ dialing h) ≡ Away
  down = ap (λ q. if is_on lane q then Away else q) up ∙ ap (λ t. if t then Away else Stands lane) (eq-eqb lane lane refl)

  dropped_so : of_connection.Stands s.dialing x (Shuts lane ∷ dialing h) → Parts s b c w h → w.shut ≡ None → is_linked (settings_of s h) (moves h) ≡ false
      → Working s b (with_connection c x) (with_shut w (Some lane)) (Dialed (Shuts lane) ∷ h)
  dropped_so stands parts none off = record {
    standing = record {
      kept = record {
        codec = parts.kept.codec;
        limits = parts.kept.limits;
        wire = parts.kept.wire;
        words = parts.kept.words;
        dialed = stands;
        undrawn = parts.kept.undrawn;
        passed = parts.kept.passed;
        closed = parts.kept.closed;
        uploads = parts.kept.uploads;
      };
      plays = parts.plays;
      full = subst (λ q. IsFullBy q c.full (Dialed (Shuts lane) ∷ h)) (sym down) tt;
      linked = λ goes_on. off ∙ sym (ap is_up down);
    };
    tells = record {
      gives = gives_shut b w lane (given h) none parts.tells.gives;
      draws = parts.tells.draws;
      sees = parts.tells.sees;
      prints = parts.tells.prints;
    };
    dropped = λ l on. absurd (true≢false (sym on ∙ ap (λ q. is_on l q) down));
  }

  -- the lane that was up, which was the end's, is dropped
  pub drops_lane : (o : Option ℕ) → Parts s b c w h → w.shut ≡ None → is_linked (settings_of s h) (moves h) ≡ false
      → Drops c.connection x o → Working s b (with_connection c x) (with_shut w o) (onto (dropping (phase_of h)) h)
  drops_lane o parts none off drops =
      let is : o ≡ Some lane = drops.1 ∙ (ap lane_in parts.kept.dialed.is_at ∙ ap lane_in up) in
      subst (λ q. Working s b (with_connection c x) (with_shut w o) (onto (dropping q) h)) (sym up)
      (subst (λ y. Working s b (with_connection c x) (with_shut w y) (Dialed (Shuts lane) ∷ h)) (sym is)
      (dropped_so (subst (λ d. of_connection.Stands s.dialing x d) there (drops.0 s.dialing (dialing h) parts.kept.dialed).1) parts none off))

-- ---- leaves

module _ (s : Setup) (b : Before) (c : Client) (x : Connection) (w : Words) (h : List ClientEvent) (parts : Parts s b c w h) where
  -- the connection is over, and its words tell of the lane that was left
  left_so : (now : Words) (d : List DialEvent) (k : List ClientEvent) → of_connection.Stands s.dialing x (Stops ∷ d) → dialing k ≡ Stops ∷ d
      → Kept s (with_connection c x) k → PlaysBy (settings_of s k) c.peer (moves k) (moment k) → Tells s b now k
      → Working s b (with_connection c x) now k
  left_so now d k stands is kept plays tells = record {
    standing = record {
      kept = kept;
      plays = plays;
      full = subst (λ q. IsFullBy q c.full k) (sym over) tt;
      linked = λ goes_on. absurd (true≢false (sym (or_left (dial.is_over (phase_of k)) (has_closed s k) (ap dial.is_over over)) ∙ goes_on));
    };
    tells = tells;
    dropped = λ lane on. absurd (true≢false (sym on ∙ ap (λ q. is_on lane q) over));
  }
    where
      over : phase_of k ≡ Over
      over = ap phase is

  away_left : of_connection.Stands s.dialing x (Stops ∷ dialing h) → Working s b (with_connection c x) w (Dialed Stops ∷ h)
  away_left stands =
      left_so w (dialing h) (Dialed Stops ∷ h) stands refl
      (record {
        codec = parts.kept.codec;
        limits = parts.kept.limits;
        wire = parts.kept.wire;
        words = parts.kept.words;
        dialed = stands;
        undrawn = parts.kept.undrawn;
        passed = parts.kept.passed;
        closed = parts.kept.closed;
        uploads = parts.kept.uploads;
      }) parts.plays
      (record { gives = parts.tells.gives; draws = parts.tells.draws; sees = parts.tells.sees; prints = parts.tells.prints })

  lane_left : (lane : ℕ) → w.shut ≡ None → of_connection.Stands s.dialing x (Stops ∷ Shuts lane ∷ dialing h)
      → Working s b (with_connection c x) (with_shut w (Some lane)) (Dialed Stops ∷ Dialed (Shuts lane) ∷ h)
  lane_left lane none stands =
      left_so (with_shut w (Some lane)) (Shuts lane ∷ dialing h) (Dialed Stops ∷ Dialed (Shuts lane) ∷ h) stands refl
      (record {
        codec = parts.kept.codec;
        limits = parts.kept.limits;
        wire = parts.kept.wire;
        words = parts.kept.words;
        dialed = stands;
        undrawn = parts.kept.undrawn;
        passed = parts.kept.passed;
        closed = parts.kept.closed;
        uploads = parts.kept.uploads;
      }) parts.plays
      (record {
        gives = gives_shut b w lane (given h) none parts.tells.gives;
        draws = parts.tells.draws;
        sees = parts.tells.sees;
        prints = parts.tells.prints;
      })

  module _ (none : (lane : ℕ) → is_on lane (phase_of h) ≡ true → w.shut ≡ None) (on : dial.is_over (phase_of h) ≡ false) (o : Option ℕ)
      (leaves : LeavesIt c.connection x o) where
    -- by how far it was
    abbrev Leaves : Phase → Type 0
    Leaves q = (o ≡ lane_in q) × of_connection.Stands s.dialing x (Stops ∷ shut q (dialing h))

    leaves_so : Leaves (phase_of h)
    leaves_so = (leaves.1 ∙ ap lane_in parts.kept.dialed.is_at, (leaves.0 s.dialing (dialing h) parts.kept.dialed).1)

    -- no lane was left
    pub leaves_none : o ≡ None → Working s b (with_connection c x) w (onto (leaving (phase_of h)) h)
    leaves_none absent = by (phase_of h) leaves_so on
      where
        by : (q : Phase) → Leaves q → dial.is_over q ≡ false → Working s b (with_connection c x) w (onto (leaving q) h)
        by Away has goes = away_left has.1
        by (Negotiates lane) has goes = absurd (let f : ◌≡◌ {A = Option ℕ} None (Some lane) = sym absent ∙ has.0 in cc)
        by (Upgrades lane) has goes = absurd (let f : ◌≡◌ {A = Option ℕ} None (Some lane) = sym absent ∙ has.0 in cc)
        by (Stands lane) has goes = absurd (let f : ◌≡◌ {A = Option ℕ} None (Some lane) = sym absent ∙ has.0 in cc)
        by Over has goes = absurd (true≢false goes)

    -- this one was
    pub leaves_lane : (lane : ℕ) → o ≡ Some lane → Working s b (with_connection c x) (with_shut w (Some lane)) (onto (leaving (phase_of h)) h)
    leaves_lane lane some = by (phase_of h) leaves_so on none
      where
        same : (l : ℕ) → o ≡ Some l → of_connection.Stands s.dialing x (Stops ∷ Shuts l ∷ dialing h) → w.shut ≡ None
            → Working s b (with_connection c x) (with_shut w (Some lane)) (Dialed Stops ∷ Dialed (Shuts l) ∷ h)
        same l is stands none =
            subst (λ y. Working s b (with_connection c x) (with_shut w y) (Dialed Stops ∷ Dialed (Shuts l) ∷ h)) (sym is ∙ some) (lane_left l none stands)

        by : (q : Phase) → Leaves q → dial.is_over q ≡ false → ((l : ℕ) → is_on l q ≡ true → w.shut ≡ None)
            → Working s b (with_connection c x) (with_shut w (Some lane)) (onto (leaving q) h)
        by Away has goes none = absurd (let f : ◌≡◌ {A = Option ℕ} None (Some lane) = sym has.0 ∙ some in cc)
        by (Negotiates l) has goes none = same l has.0 has.1 (none l (eq-eqb l l refl))
        by (Upgrades l) has goes none = same l has.0 has.1 (none l (eq-eqb l l refl))
        by (Stands l) has goes none = same l has.0 has.1 (none l (eq-eqb l l refl))
        by Over has goes none = absurd (true≢false goes)

-- it was left before
pub over_leaves : (s : Setup) (b : Before) (c : Client) (w : Words) (h : List ClientEvent) → Working s b c w h → dial.is_over (phase_of h) ≡ true
    → Working s b c w (onto (leaving (phase_of h)) h)
over_leaves s b c w h x over = by (phase_of h) over
  where
    by : (q : Phase) → dial.is_over q ≡ true → Working s b c w (onto (leaving q) h)
    by Over e = x
    by Away e = absurd (true≢false (sym e))
    by (Negotiates lane) e = absurd (true≢false (sym e))
    by (Upgrades lane) e = absurd (true≢false (sym e))
    by (Stands lane) e = absurd (true≢false (sym e))
