-- What a client's parts come to once its end is told what is news of its link.
use Rattle.std.proofs.Common.{◌≡◌, ℕ, ◌≤◌, Bool, true, false, List, [], ◌∷◌, ◌++◌, Option, Some, None, is_some, refl, sym, ap, subst, ◌∙◌, arith}
use Rattle.std.proofs.Common.{true≢false}
use Rattle.std.specs.Prelude.{drop, if◌then◌else◌, length, max}
use Rattle.std.specs.List.{list_all}
use Rattle.std.proofs.lemmas.Bool.{and_parts}
use Rattle.hd_delivery.specs.Histories as of
use Rattle.hd_delivery.specs.Histories.{EndEvent, Attached, Detached, Fed, Took, Failed, Sent, Lent, Ticked, Silenced, Closed, link_count, present_link}
use Rattle.hd_delivery.specs.Bytes.{Bytes}
use Rattle.hd_delivery.specs.Bytes.{Does as Step_of}
use Rattle.hd_calls.specs.Peers.{PeerEvent, Plain, Calls, Uploads, Cancels, Reads, Handles, Runs, Answers, Refuses, Loses, Rounds, Settings}
use Rattle.hd_calls.specs.Peers.{is_shut, steps}
use Rattle.hd_server.specs.Plans.{onto}
use Rattle.hd_server.specs.Serves.{Feeds, is_taking}
use Rattle.hd_dialing.specs.Events as dial
use Rattle.hd_dialing.specs.Events.{Phase, Away, Stands, is_on, is_up}
use Rattle.hd_dialing.specs.Plans.{News, Nothing, Begins, Brings, Drains, Ends}
use Rattle.hd_client.specs.Setups.{Setup}
use Rattle.hd_client.specs.Events.{ClientEvent, closed_itself, is_over, is_shut_with, moment, moves, phase_of, settings_of}
use Rattle.hd_client.specs.Plans.{does, linking, links}
use Rattle.hd_client.specs.Turns.{IsFed, moving}
use Rattle.sr_client.specs.declared.client.Client.{Client}
use Rattle.sr_client.specs.declared.client.Words.{Words}
use Rattle.sr_client.specs.declared.peer.ClientPeer.{ClientPeer}
use Rattle.sr_client.specs.Clients.{Before, IsFullBy, Working, is_linked, words_given}
use Rattle.sr_client.specs.Obeying.{UploadsHaveCalls}
use Rattle.sr_client.specs.Peers.{FeedsAll, Goes, Plays, leaving}
use Rattle.sr_client.specs.Turning.{MayLink, WorksOn}
use Rattle.sr_client.proofs.Parts.{AreApart, Parts, Played, linked_as, unplayed, with_peer, working_moving}
use Rattle.sr_client.proofs.Printed.{dialing_moving}

-- ---- bytes that come

apart_taking : (now : ℕ) (m : PeerEvent) (h : List PeerEvent) → is_taking now m ≡ true → AreApart (m ∷ []) h
apart_taking now (Plain (Step_of (Took got))) h e = record { closes = refl; uploads = λ u. u }
apart_taking now (Plain (Step_of (Failed fault))) h e = record { closes = refl; uploads = λ u. u }
apart_taking now (Reads m) h e = record { closes = refl; uploads = λ u. u }
apart_taking now (Handles m effect) h e = record { closes = refl; uploads = λ u. u }
apart_taking now (Plain (Step_of (Attached l k))) h e = absurd (true≢false (sym e))
apart_taking now (Plain (Step_of (Detached k))) h e = absurd (true≢false (sym e))
apart_taking now (Plain (Step_of (Ticked k))) h e = absurd (true≢false (sym e))
apart_taking now (Plain (Step_of (Silenced k))) h e = absurd (true≢false (sym e))
apart_taking now (Plain (Step_of (Fed piece))) h e = absurd (true≢false (sym e))
apart_taking now (Plain (Step_of (Sent m))) h e = absurd (true≢false (sym e))
apart_taking now (Plain (Step_of (Lent f))) h e = absurd (true≢false (sym e))
apart_taking now (Plain (Step_of (Closed why allow))) h e = absurd (true≢false (sym e))
apart_taking now (Plain (Bytes piece)) h e = absurd (true≢false (sym e))
apart_taking now (Calls a n c) h e = absurd (true≢false (sym e))
apart_taking now (Uploads n w a) h e = absurd (true≢false (sym e))
apart_taking now (Cancels n) h e = absurd (true≢false (sym e))
apart_taking now (Runs j c since turn what) h e = absurd (true≢false (sym e))
apart_taking now (Answers j i) h e = absurd (true≢false (sym e))
apart_taking now (Refuses j) h e = absurd (true≢false (sym e))
apart_taking now (Loses n) h e = absurd (true≢false (sym e))
apart_taking now Rounds h e = absurd (true≢false (sym e))

-- one history is apart from another
pub record Apart (g h : List PeerEvent) : Type 0 where
  pub closes : closed_itself g ≡ closed_itself h
  pub uploads : UploadsHaveCalls h → UploadsHaveCalls g

apart_all : (now : ℕ) (ms h : List PeerEvent) → list_all (is_taking now) ms ≡ true → Apart (ms ++ h) h
apart_all now [] h e = record { closes = refl; uploads = λ u. u }
apart_all now (m ∷ ms) h e =
    let both = and_parts (is_taking now m) (list_all (is_taking now) ms) e in
    let one = apart_taking now m (ms ++ h) both.0 in
    let more = apart_all now ms h both.1 in
    record { closes = one.closes ∙ more.closes; uploads = λ u. one.uploads (more.uploads u) }

apart_feeds : (t : Settings) (now : ℕ) (fed : Bool) (bytes : List ℕ) (ps : List (List ℕ)) (h after : List PeerEvent) → Feeds t now fed bytes ps h after
    → Apart after h
apart_feeds t now fed bytes [] h after feeds = record { closes = ap closed_itself feeds.1; uploads = λ u. subst UploadsHaveCalls (sym feeds.1) u }
apart_feeds t now fed bytes (p ∷ ps) h after feeds =
    let (mid, takes, later) = feeds.3 in
    let more = apart_feeds t now true (drop (length p) bytes) ps mid after later in
    let taken = apart_all now takes.taken (Plain (Bytes p) ∷ h) takes.each in
    record {
      closes = more.closes ∙ (ap closed_itself takes.are ∙ taken.closes);
      uploads = λ u. more.uploads (subst UploadsHaveCalls (sym takes.are) (taken.uploads u));
    }

-- ---- where its end is

module _ (s : Setup) (b : Before) (c : Client) (w : Words) (h : List ClientEvent) where
  -- it works on as it is
  still : Parts s b c w h → w.shut ≡ None → IsFullBy (phase_of h) c.full h
      → (is_over s h ≡ false → is_linked (settings_of s h) (moves h) ≡ is_up (phase_of h)) → Working s b c w h
  still parts none full linked = record {
    standing = record { kept = parts.kept; plays = parts.plays; full = full; linked = linked };
    tells = parts.tells;
    dropped = λ lane on. none;
  }

  -- what it comes to, where nothing is fed
  abbrev pub Links : Client → Words → ℕ → News → Type 0
  Links new now at news = WorksOn s b new now (λ fed. IsFed s news (onto (linking s at news h) h) fed × (moment fed ≡ moment h))

  -- with its lane not full
  abbrev pub drained : Client
  drained = record c { full = false }

  module _ (news : News) (may : MayLink s b c w news h) where
    parts : Parts s b c w h
    parts = record { kept = may.kept; plays = may.plays; tells = may.tells }

    parts_drained : Parts s b drained w h
    parts_drained = record {
      kept = record {
        codec = may.kept.codec;
        limits = may.kept.limits;
        wire = may.kept.wire;
        words = may.kept.words;
        dialed = may.kept.dialed;
        undrawn = may.kept.undrawn;
        passed = may.kept.passed;
        closed = may.kept.closed;
        uploads = may.kept.uploads;
      };
      plays = may.plays;
      tells = may.tells;
    }

  -- nothing is news
  pub links_nothing : (at : ℕ) → MayLink s b c w Nothing h → Links c w at Nothing
  links_nothing at may = record {
    after = h;
    holds = (refl, refl);
    working = still (parts Nothing may) may.dropped may.fits.0 may.fits.1;
  }

  unlinked : (o : Option Settings) (g : List PeerEvent) → o ≡ None → is_linked o g ≡ false
  unlinked o g is = ap (λ y. is_linked y g) is

  -- without a peer
  pub links_none : (at : ℕ) (news : News) → MayLink s b c w news h → c.peer ≡ None → Links c w at news
  links_none at Nothing may none = links_nothing at may
  links_none at (Begins lane) may none =
      absurd (true≢false (sym may.fits.3 ∙ ap is_some (unplayed (settings_of s h) c.peer (moves h) (moment h) may.plays none).0))
  links_none at Ends may none =
      absurd (true≢false (sym may.fits.1 ∙ unlinked (settings_of s h) (moves h) (unplayed (settings_of s h) c.peer (moves h) (moment h) may.plays none).0))
  links_none at Drains may none =
      absurd (true≢false (sym may.fits.3 ∙ unlinked (settings_of s h) (moves h) (unplayed (settings_of s h) c.peer (moves h) (moment h) may.plays none).0))
  links_none at (Brings bytes) may none =
      absurd (true≢false (sym may.fits.1 ∙ unlinked (settings_of s h) (moves h) (unplayed (settings_of s h) c.peer (moves h) (moment h) may.plays none).0))

  -- the lane is drained
  pub links_drains : (at : ℕ) → MayLink s b c w Drains h → Links drained w at Drains
  links_drains at may =
      let (lane, up, room, on) = may.fits in
      record {
        after = h;
        holds = (refl, refl);
        working = record {
          standing = record {
            kept = (parts_drained Drains may).kept;
            plays = may.plays;
            full = subst (λ q. IsFullBy q false h) (sym up) (sym room);
            linked = λ goes_on. on ∙ sym (ap is_up up);
          };
          tells = may.tells;
          dropped = λ l at. may.dropped;
        };
      }

  module _ (p old : ClientPeer) (now : Words) (at : ℕ) (is_now : at ≡ moment h) (played : Played (settings_of s h) old (moves h) (moment h))
      (same : words_given now ≡ words_given w) (shut : now.shut ≡ w.shut) where
    abbrev t : Settings
    t = played.settings

    in_time : of.moment (steps t (moves h)) ≤ at
    in_time = let few = played.timely in omega (arith, few, is_now)

    later : (k : ℕ) → k ≤ moment h → max at k ≤ moment h
    later k few = omega (arith, few, is_now)

    -- a link begins
    pub links_begins : (lane : ℕ) → MayLink s b c w (Begins lane) h
        → ((t : Settings) (g : List PeerEvent) → Plays t old g → is_shut t g ≡ false → present_link (steps t g) ≡ None → of.moment (steps t g) ≤ at
        → Goes t g p w.printed.items now.printed.items (Plain (Step_of (Attached (link_count (steps t g)) at)) ∷ []))
        → Links (with_peer drained p) now at (Begins lane)
    links_begins lane may goes =
        let (up, room, off, has) = may.fits in
        let m : PeerEvent = Plain (Step_of (Attached (link_count (steps t (moves h))) at)) in
        let opened : is_shut t (moves h) ≡ false = sym (ap (λ o. is_shut_with o (moves h)) played.begun) ∙ may.unclosed in
        let alone : present_link (steps t (moves h)) ≡ None = none_at (present_link (steps t (moves h)))
        (sym (linked_as (settings_of s h) t (moves h) played.begun) ∙ off) in
        record {
          after = moving (m ∷ []) h;
          holds = (ap (λ o. does (Attached (links o (moves h)) at) ∷ h) (sym played.begun), refl);
          working = working_moving s b t drained p w now (m ∷ []) h (parts_drained (Begins lane) may)
              (subst (λ q. IsFullBy q false h) (sym up) (sym room)) (λ l on. may.dropped) played.begun (record { closes = refl; uploads = λ u. u })
              (goes t (moves h) played.plays opened alone in_time) (later (of.moment (steps t (moves h))) played.timely) same shut
              (λ goes_on. sym (ap is_up up));
        }
      where
        none_at : (o : Option ℕ) → is_some o ≡ false → o ≡ None
        none_at None e = refl
        none_at (Some l) e = absurd (true≢false e)

    -- bytes come
    pub links_brings : (bytes : List ℕ) → MayLink s b c w (Brings bytes) h
        → ((t : Settings) (g : List PeerEvent) → Plays t old g → FeedsAll t g p at bytes w.printed.items now.printed.items)
        → Links (with_peer c p) now at (Brings bytes)
    links_brings bytes may feeds =
        let (full, on, up) = may.fits in
        let fed = feeds t (moves h) played.plays in
        let apart = apart_feeds t at false bytes fed.pieces (moves h) (fed.moves ++ moves h) fed.feeds in
        record {
          after = moving fed.moves h;
          holds = (
            record {
              settings = t;
              begun = played.begun;
              pieces = fed.pieces;
              made = fed.moves;
              feeds = subst (λ k. Feeds t k false bytes fed.pieces (moves h) (fed.moves ++ moves h)) is_now fed.feeds;
              are = refl;
            },
            ap dial.moment (dialing_moving fed.moves h),
          );
          working = working_moving s b t c p w now fed.moves h (parts (Brings bytes) may) full (λ l at. may.dropped) played.begun
              (record { closes = apart.closes; uploads = apart.uploads }) fed.goes
              (subst (λ k. k ≤ moment h) (sym fed.stays.moment) played.timely) same shut
              (λ goes_on. ap is_some fed.stays.link ∙ (sym (linked_as (settings_of s h) t (moves h) played.begun) ∙ (on ∙ sym up)));
        }

    leaving_is : (g : List PeerEvent) → is_some (present_link (steps t g)) ≡ true → leaving t g at ≡ Plain (Step_of (Detached at)) ∷ []
    leaving_is g on = ap (λ y. if y then Plain (Step_of (Detached at)) ∷ [] else []) on

    -- the link is lost
    pub links_ends : (was : Bool) → MayLink s b c w Ends h
        → ((t : Settings) (g : List PeerEvent) → Plays t old g → of.moment (steps t g) ≤ at
        → (was ≡ is_some (present_link (steps t g))) × Goes t g p w.printed.items now.printed.items (leaving t g at))
        → Links (with_peer c p) now at Ends
    links_ends was may goes =
        let (away, on) = may.fits in
        let there : is_some (present_link (steps t (moves h))) ≡ true = sym (linked_as (settings_of s h) t (moves h) played.begun) ∙ on in
        let m : PeerEvent = Plain (Step_of (Detached at)) in
        record {
          after = moving (m ∷ []) h;
          holds = (refl, refl);
          working = working_moving s b t c p w now (m ∷ []) h (parts Ends may)
              (subst (λ q. IsFullBy q c.full h) (sym away) tt) (λ l on. may.dropped) played.begun (record { closes = refl; uploads = λ u. u })
              (subst (λ ms. Goes t (moves h) p w.printed.items now.printed.items ms) (leaving_is (moves h) there)
              (goes t (moves h) played.plays in_time).1) (later (of.moment (steps t (moves h))) played.timely) same shut
              (λ goes_on. sym (ap is_up away));
        }

-- by what the news is
pub links_as : (s : Setup) (b : Before) (c : Client) (w : Words) (h : List ClientEvent) (new : Client) (now : Words) (at : ℕ) (news n : News) → news ≡ n
    → MayLink s b c w news h → (MayLink s b c w n h → Links s b c w h new now at n) → Links s b c w h new now at news
links_as s b c w h new now at news n is may links =
    subst (λ x. Links s b c w h new now at x) (sym is) (links (subst (λ x. MayLink s b c w x h) is may))
