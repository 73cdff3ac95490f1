-- What a client's parts come to after moves of its peer.
use Rattle.std.proofs.Common.{◌≡◌, ℕ, ◌≤◌, Bool, true, false, List, [], ◌∷◌, ◌++◌, map, reverse, Option, Some, None, is_some}
use Rattle.std.proofs.Common.{refl, sym, ap, subst, ◌∙◌, append_assoc}
use Rattle.std.proofs.lemmas.List.{reverse-append}
use Rattle.hd_delivery.specs.Histories as of
use Rattle.hd_delivery.specs.Histories.{present_link}
use Rattle.hd_calls.specs.Peers.{PeerEvent, Settings, steps}
use Rattle.hd_server.specs.Plans.{onto}
use Rattle.hd_dialing.specs.Events.{DialEvent, Phase, Away, Negotiates, Upgrades, Stands, Over, is_on, is_up, phase}
use Rattle.hd_dialing.specs.Events as dial
use Rattle.hd_dialing.specs.Telling.{has_failed_draw}
use Rattle.hd_client.specs.Setups.{Setup}
use Rattle.hd_client.specs.Events.{ClientEvent, Makes, closed_itself, is_full, is_over, moment, moves, passed, phase_of, settings_of}
use Rattle.hd_client.specs.Printed.{printed}
use Rattle.hd_client.specs.Telling.{given, seen}
use Rattle.hd_client.specs.Turns.{moving}
use Rattle.hn_dialing.specs.Stands as of_connection
use Rattle.sr_client.specs.declared.client.Client.{Client}
use Rattle.sr_client.specs.declared.client.Words.{Words}
use Rattle.sr_client.specs.declared.peer.ClientPeer.{ClientPeer}
use Rattle.sr_client.specs.Clients.{Before, IsFullBy, Kept, PlaysBy, Tells, Working, is_linked, words_given}
use Rattle.sr_client.specs.Lines.{json_words, lines_of}
use Rattle.sr_client.specs.Obeying.{UploadsHaveCalls}
use Rattle.sr_client.specs.Peers.{Goes, Plays}
use Rattle.sr_client.proofs.Printed.{dialing_moving, moves_moving, printed_moves, settings_moving}

-- ---- lists done one after the other

pub onto_both : {A : Type 0} (xs ys h : List A) → onto (xs ++ ys) h ≡ onto ys (onto xs h)
onto_both [] ys h = refl
onto_both (x ∷ xs) ys h = onto_both xs ys (x ∷ h)

pub moving_both : (ms ns : List PeerEvent) (h : List ClientEvent) → moving (ms ++ ns) h ≡ moving ms (moving ns h)
moving_both [] ns h = refl
moving_both (m ∷ ms) ns h = ap (λ x. Makes m ∷ x) (moving_both ms ns h)

-- moves in the order in which they come are the same as the latest first
pub onto_moves : {A : Type 0} (f : A → PeerEvent) (xs : List A) (h : List ClientEvent)
    → onto (map (λ x. Makes (f x)) xs) h ≡ moving (reverse (map f xs)) h
onto_moves f [] h = refl
onto_moves f (x ∷ xs) h =
    onto_moves f xs (Makes (f x) ∷ h)
    ∙ sym (ap (λ ms. moving ms h) (reverse-append (f x ∷ []) (map f xs)) ∙ moving_both (reverse (map f xs)) (f x ∷ []) h)

-- ---- what moves of its peer leave as it was

pub passed_moving : (ms : List PeerEvent) (h : List ClientEvent) → passed (moving ms h) ≡ passed h
passed_moving [] h = refl
passed_moving (m ∷ ms) h = passed_moving ms h

pub full_moving : (lane : ℕ) (ms : List PeerEvent) (h : List ClientEvent) → is_full lane (moving ms h) ≡ is_full lane h
full_moving lane [] h = refl
full_moving lane (m ∷ ms) h = full_moving lane ms h

pub given_moving : (ms : List PeerEvent) (h : List ClientEvent) → given (moving ms h) ≡ given h
given_moving [] h = refl
given_moving (m ∷ ms) h = given_moving ms h

pub seen_moving : (ms : List PeerEvent) (h : List ClientEvent) → seen (moving ms h) ≡ seen h
seen_moving [] h = refl
seen_moving (m ∷ ms) h = seen_moving ms h

-- ---- its parts

-- the client with this peer in it
abbrev pub with_peer : Client → ClientPeer → Client
with_peer c p = record c { peer = Some p }

-- moves among which its own close isn't, nor a call of the user
pub record AreApart (ms h : List PeerEvent) : Type 0 where
  pub closes : closed_itself (ms ++ h) ≡ closed_itself h
  pub uploads : UploadsHaveCalls h → UploadsHaveCalls (ms ++ h)

-- each of its parts stands for this, which its words tell
pub record Parts (s : Setup) (b : Before) (c : Client) (w : Words) (h : List ClientEvent) : Type 0 where
  pub kept : Kept s c h
  pub plays : PlaysBy (settings_of s h) c.peer (moves h) (moment h)
  pub tells : Tells s b w h

pub parts_of : (s : Setup) (b : Before) (c : Client) (w : Words) (h : List ClientEvent) → Working s b c w h → Parts s b c w h
parts_of s b c w h x = record { kept = x.standing.kept; plays = x.standing.plays; tells = x.tells }

pub plays_as : (o : Option Settings) (t : Settings) (p : ClientPeer) (g : List PeerEvent) (now : ℕ) → o ≡ Some t → Plays t p g
    → of.moment (steps t g) ≤ now → PlaysBy o (Some p) g now
plays_as o t p g now is plays timely = subst (λ x. PlaysBy x (Some p) g now) (sym is) (plays, timely)

module _ (s : Setup) (t : Settings) (ms : List PeerEvent) (h : List ClientEvent) (begun : settings_of s h ≡ Some t) where
  pub kept_moving : (c : Client) (p : ClientPeer) → Kept s c h → closed_itself (ms ++ moves h) ≡ closed_itself (moves h)
      → UploadsHaveCalls (ms ++ moves h) → Kept s (with_peer c p) (moving ms h)
  kept_moving c p kept closes uploads = record {
    codec = kept.codec;
    limits = kept.limits;
    wire = kept.wire;
    words = kept.words;
    dialed = subst (λ x. of_connection.Stands s.dialing c.connection x) (sym (dialing_moving ms h)) kept.dialed;
    undrawn = ap has_failed_draw (dialing_moving ms h) ∙ kept.undrawn;
    passed = kept.passed ∙ sym (passed_moving ms h);
    closed = kept.closed ∙ sym (ap closed_itself (moves_moving ms h) ∙ closes);
    uploads = subst UploadsHaveCalls (sym (moves_moving ms h)) uploads;
  }

  pub plays_moving : (p : ClientPeer) → Plays t p (ms ++ moves h) → of.moment (steps t (ms ++ moves h)) ≤ moment h
      → PlaysBy (settings_of s (moving ms h)) (Some p) (moves (moving ms h)) (moment (moving ms h))
  plays_moving p plays timely =
      subst (λ g. PlaysBy (settings_of s (moving ms h)) (Some p) g (moment (moving ms h))) (sym (moves_moving ms h))
      (subst (λ x. PlaysBy (settings_of s (moving ms h)) (Some p) (ms ++ moves h) x) (sym (ap dial.moment (dialing_moving ms h)))
      (plays_as (settings_of s (moving ms h)) t p (ms ++ moves h) (moment h) (settings_moving s ms h ∙ begun) plays timely))

  pub tells_moving : (b : Before) (w now : Words) → s.words ≡ json_words → Tells s b w h
      → now.printed.items ≡ w.printed.items ++ lines_of json_words t ms (moves h) → words_given now ≡ words_given w → Tells s b now (moving ms h)
  tells_moving b w now words tells lines same = record {
    gives = given_moving ms h ∙ tells.gives ∙ ap (λ x. b.given ++ x) (sym same);
    draws = ap dial.draws (dialing_moving ms h) ∙ tells.draws;
    sees = seen_moving ms h ∙ tells.sees;
    prints = printed_moves s t ms h begun
        ∙ (ap (λ x. printed s h ++ lines_of x t ms (moves h)) words
        ∙ (ap (λ x. x ++ lines_of json_words t ms (moves h)) tells.prints
        ∙ (append_assoc b.printed w.printed.items (lines_of json_words t ms (moves h))
        ∙ ap (λ x. b.printed ++ x) (sym lines))));
  }

-- after moves of its peer
pub parts_moving : (s : Setup) (b : Before) (t : Settings) (c : Client) (p : ClientPeer) (w now : Words) (ms : List PeerEvent) (h : List ClientEvent)
    → Parts s b c w h → settings_of s h ≡ Some t → AreApart ms (moves h) → Goes t (moves h) p w.printed.items now.printed.items ms
    → of.moment (steps t (ms ++ moves h)) ≤ moment h → words_given now ≡ words_given w → Parts s b (with_peer c p) now (moving ms h)
parts_moving s b t c p w now ms h parts begun apart goes timely same = record {
  kept = kept_moving s t ms h begun c p parts.kept apart.closes (apart.uploads parts.kept.uploads);
  plays = plays_moving s t ms h begun p goes.plays timely;
  tells = tells_moving s t ms h begun b w now parts.kept.words parts.tells goes.appended same;
}

-- ---- where its end is

-- its lane is as full as before
pub full_as : (q r : Phase) (full : Bool) (h k : List ClientEvent) → q ≡ r → ((lane : ℕ) → is_full lane k ≡ is_full lane h)
    → IsFullBy r full h → IsFullBy q full k
full_as q r full h k is same has = subst (λ x. IsFullBy x full k) (sym is) (by r has)
  where
    by : (r : Phase) → IsFullBy r full h → IsFullBy r full k
    by (Stands lane) has = has ∙ sym (same lane)
    by (Upgrades lane) has = same lane ∙ has
    by Away has = has
    by (Negotiates lane) has = has
    by Over has = has

pub full_by_moving : (ms : List PeerEvent) (full : Bool) (h : List ClientEvent) → IsFullBy (phase_of h) full h → IsFullBy (phase_of (moving ms h)) full (moving ms h)
full_by_moving ms full h has =
    full_as (phase_of (moving ms h)) (phase_of h) full h (moving ms h) (ap phase (dialing_moving ms h)) (λ lane. full_moving lane ms h) has

pub linked_as : (o : Option Settings) (t : Settings) (g : List PeerEvent) → o ≡ Some t → is_linked o g ≡ is_some (present_link (steps t g))
linked_as o t g is = ap (λ x. is_linked x g) is

-- it works on, after moves of its peer that keep its end where it was
pub working_moving : (s : Setup) (b : Before) (t : Settings) (c : Client) (p : ClientPeer) (w now : Words) (ms : List PeerEvent) (h : List ClientEvent)
    → Parts s b c w h → IsFullBy (phase_of h) c.full h → ((lane : ℕ) → is_on lane (phase_of h) ≡ true → w.shut ≡ None) → settings_of s h ≡ Some t
    → AreApart ms (moves h) → Goes t (moves h) p w.printed.items now.printed.items ms → of.moment (steps t (ms ++ moves h)) ≤ moment h
    → words_given now ≡ words_given w → now.shut ≡ w.shut
    → (is_over s (moving ms h) ≡ false → is_some (present_link (steps t (ms ++ moves h))) ≡ is_up (phase_of h))
    → Working s b (with_peer c p) now (moving ms h)
working_moving s b t c p w now ms h parts full dropped begun apart goes timely same shut linked =
    let after = parts_moving s b t c p w now ms h parts begun apart goes timely same in
    let there : phase_of (moving ms h) ≡ phase_of h = ap phase (dialing_moving ms h) in
    record {
      standing = record {
        kept = after.kept;
        plays = after.plays;
        full = full_by_moving ms c.full h full;
        linked = λ goes_on.
            ap (λ g. is_linked (settings_of s (moving ms h)) g) (moves_moving ms h)
            ∙ linked_as (settings_of s (moving ms h)) t (ms ++ moves h) (settings_moving s ms h ∙ begun)
            ∙ linked goes_on
            ∙ ap is_up (sym there);
      };
      tells = after.tells;
      dropped = λ lane on. shut ∙ dropped lane (sym (ap (λ x. is_on lane x) there) ∙ on);
    }

-- ---- its peer

-- a peer that is there plays for the client's moves
pub record Played (o : Option Settings) (p : ClientPeer) (g : List PeerEvent) (now : ℕ) : Type 0 where
  pub settings : Settings
  pub begun : o ≡ Some settings
  pub plays : Plays settings p g
  pub timely : of.moment (steps settings g) ≤ now

pub played : (o : Option Settings) (x : Option ClientPeer) (p : ClientPeer) (g : List PeerEvent) (now : ℕ) → PlaysBy o x g now → x ≡ Some p
    → Played o p g now
played None x p g now plays is = absurd (subst (λ y. PlaysBy None y g now) is plays)
played (Some t) x p g now plays is =
    let both = subst (λ y. PlaysBy (Some t) y g now) is plays in
    record { settings = t; begun = refl; plays = both.0; timely = both.1 }

-- without one nothing was told, and nothing moved
pub unplayed : (o : Option Settings) (x : Option ClientPeer) (g : List PeerEvent) (now : ℕ) → PlaysBy o x g now → x ≡ None → (o ≡ None) × (g ≡ [])
unplayed None x g now plays is = (refl, subst (λ y. PlaysBy None y g now) is plays)
unplayed (Some t) x g now plays is = absurd (subst (λ y. PlaysBy (Some t) y g now) is plays)
