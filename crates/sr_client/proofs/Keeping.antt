-- Moves of its peer by which a client's end stays where it is: those of a round, of what is said, and of the calls that are gone.
use Rattle.std.proofs.Common.{◌≡◌, ℕ, ◌≤◌, Bool, true, false, ◌||◌, List, [], ◌∷◌, ◌++◌, map, reverse, Option, Some, None, is_some}
use Rattle.std.proofs.Common.{refl, sym, ap, subst, ◌∙◌, append_assoc}
use Rattle.std.specs.Prelude.{Err, Ok, OnOk, Result, filter, if◌then◌else◌, option_map}
use Rattle.std.proofs.lemmas.List.{append-nil, reverse-append}
use Rattle.hm_message.specs.declared.message.Message.{Message}
use Rattle.hd_delivery.specs.Frames.{LinkFrame}
use Rattle.hd_delivery.specs.Histories as of
use Rattle.hd_delivery.specs.Histories.{Config, Lent, Sent, is_closed, present_link}
use Rattle.hd_delivery.specs.Bytes.{ByteStep, Wire, in_frames}
use Rattle.hd_delivery.specs.Bytes.{Does as Step_of}
use Rattle.hd_calls.specs.Peers.{PeerEvent, Plain, Calls, Uploads, Cancels, Reads, Handles, Runs, Answers, Refuses, Loses, Rounds, Settings}
use Rattle.hd_calls.specs.Peers.{add, answer_of, byte_steps, codec, drawn, is_shut, live_call, message_for, steps}
use Rattle.hd_server.specs.Lives.{numbers_to}
use Rattle.hd_server.specs.Plans.{onto}
use Rattle.hd_dialing.specs.Events as dial
use Rattle.hd_dialing.specs.Events.{is_up, phase}
use Rattle.hd_client.specs.Setups.{Setup}
use Rattle.hd_client.specs.Events.{ClientEvent, closed_itself, has_closed, is_over, is_shut_with, moment, moves, phase_of, settings_of}
use Rattle.hd_client.specs.Plans.{gone, losses}
use Rattle.hd_client.specs.Turns.{AreTurns, IsRound, RoundsWith, moving}
use Rattle.sr_client.specs.declared.client.Client.{Client}
use Rattle.sr_client.specs.declared.client.Words.{Words}
use Rattle.sr_client.specs.declared.peer.ClientPeer.{ClientPeer}
use Rattle.sr_client.specs.Clients.{Before, Working, words_given}
use Rattle.sr_client.specs.Obeying.{UploadsHaveCalls}
use Rattle.sr_client.specs.Peers.{Goes, HasRounded, Plays, StaysThere, lends, losing}
use Rattle.sr_client.specs.Turning.{WorksOn}
use Rattle.sr_client.proofs.Parts.{AreApart, Played, linked_as, onto_moves, parts_of, with_peer, working_moving}
use Rattle.sr_client.proofs.Printed.{dialing_moving, moves_moving, settings_moving}

-- what holds of a result that is Ok, once what it follows from does
pub on_ok : {T E P Q : Type 0} (r : Result T E) → (P → Q) → OnOk r P → OnOk r Q
on_ok (Ok x) f p = f p
on_ok (Err e) f p = p

-- ---- moves that keep an end where it is

pub record Keeps (t : Settings) (ms h : List PeerEvent) : Type 0 where
  pub apart : AreApart ms h
  pub shut : is_shut t (ms ++ h) ≡ is_shut t h
  pub link : present_link (steps t (ms ++ h)) ≡ present_link (steps t h)
  pub time : of.moment (steps t (ms ++ h)) ≡ of.moment (steps t h)

keeps_none : (t : Settings) (h : List PeerEvent) → Keeps t [] h
keeps_none t h = record { apart = record { closes = refl; uploads = λ u. u }; shut = refl; link = refl; time = refl }

keeps_both : (t : Settings) (ms ns h : List PeerEvent) → Keeps t ms (ns ++ h) → Keeps t ns h → Keeps t (ms ++ ns) h
keeps_both t ms ns h a b = record {
  apart = record {
    closes = ap closed_itself (append_assoc ms ns h) ∙ (a.apart.closes ∙ b.apart.closes);
    uploads = λ u. subst UploadsHaveCalls (sym (append_assoc ms ns h)) (a.apart.uploads (b.apart.uploads u));
  };
  shut = ap (λ x. is_shut t x) (append_assoc ms ns h) ∙ (a.shut ∙ b.shut);
  link = ap (λ x. present_link (steps t x)) (append_assoc ms ns h) ∙ (a.link ∙ b.link);
  time = ap (λ x. of.moment (steps t x)) (append_assoc ms ns h) ∙ (a.time ∙ b.time);
}

keeps_reversed : {A : Type 0} (t : Settings) (f : A → PeerEvent) → ((x : A) (h : List PeerEvent) → Keeps t (f x ∷ []) h) → (xs : List A) (h : List PeerEvent)
    → Keeps t (reverse (map f xs)) h
keeps_reversed t f one [] h = keeps_none t h
keeps_reversed t f one (x ∷ xs) h =
    subst (λ ms. Keeps t ms h) (sym (reverse-append (f x ∷ []) (map f xs)))
    (keeps_both t (reverse (map f xs)) (f x ∷ []) h (keeps_reversed t f one xs (f x ∷ h)) (one x h))

pub keeps_lends : (t : Settings) (fs : List LinkFrame) (h : List PeerEvent) → Keeps t (lends fs) h
keeps_lends t fs h =
    keeps_reversed t (λ f. Plain (Step_of (Lent f)))
    (λ f g. record { apart = record { closes = refl; uploads = λ u. u }; shut = refl; link = refl; time = refl }) fs h

keeps_losses : (t : Settings) (ns : List ℕ) (h : List PeerEvent) → Keeps t (reverse (map (λ n. Loses n) ns)) h
keeps_losses t ns h =
    keeps_reversed t (λ n. Loses n)
    (λ n g. record { apart = record { closes = refl; uploads = λ u. u }; shut = refl; link = refl; time = refl }) ns h

keeps_losing : (t : Settings) (h : List PeerEvent) → Keeps t (losing t h) h
keeps_losing t h = by (is_shut t h)
  where
    by : (b : Bool) → Keeps t (if b then reverse (map (λ n. Loses n) (filter (λ n. live_call n h) (numbers_to (drawn h)))) else []) h
    by true = keeps_losses t (filter (λ n. live_call n h) (numbers_to (drawn h))) h
    by false = keeps_none t h

-- ---- a round

shut_sends : (wire : Wire) (c : Config) (o : Option Message) (y : List ByteStep)
    → is_closed c (in_frames wire c (add (option_map (λ m. Step_of (Sent m)) o) y)) ≡ is_closed c (in_frames wire c y)
shut_sends wire c None y = refl
shut_sends wire c (Some m) y = refl

pub record RoundKeeps (t : Settings) (ms h : List PeerEvent) : Type 0 where
  pub apart : AreApart ms h
  pub shut : is_shut t (ms ++ h) ≡ is_shut t h

turns_keep : (t : Settings) (now : ℕ) (ms rest h : List PeerEvent) → AreTurns now ms → RoundKeeps t rest h → RoundKeeps t (ms ++ rest) h
turns_keep t now [] rest h are base = base
turns_keep t now (Runs j c since turn what ∷ ms) rest h are base =
    let more = turns_keep t now ms rest h are.2 base in
    record {
      apart = record { closes = more.apart.closes; uploads = more.apart.uploads };
      shut = shut_sends t.wire t.config (message_for c.way (answer_of t (codec t ((ms ++ rest) ++ h)) c.way what)) (byte_steps t ((ms ++ rest) ++ h)) ∙ more.shut;
    }
turns_keep t now (Calls (Some j) n c ∷ ms) rest h are base =
    let more = turns_keep t now ms rest h are base in
    record { apart = record { closes = more.apart.closes; uploads = more.apart.uploads }; shut = more.shut }
turns_keep t now (Refuses j ∷ ms) rest h are base =
    let more = turns_keep t now ms rest h are base in
    record { apart = record { closes = more.apart.closes; uploads = more.apart.uploads }; shut = more.shut }
turns_keep t now (Calls None n c ∷ ms) rest h are base = absurd are
turns_keep t now (Plain s ∷ ms) rest h are base = absurd are
turns_keep t now (Uploads n w a ∷ ms) rest h are base = absurd are
turns_keep t now (Cancels n ∷ ms) rest h are base = absurd are
turns_keep t now (Reads m ∷ ms) rest h are base = absurd are
turns_keep t now (Handles m e ∷ ms) rest h are base = absurd are
turns_keep t now (Answers j i ∷ ms) rest h are base = absurd are
turns_keep t now (Loses n ∷ ms) rest h are base = absurd are
turns_keep t now (Rounds ∷ ms) rest h are base = absurd are

keeps_round : (t : Settings) (now : ℕ) (h ms : List PeerEvent) → IsRound t now h ms → StaysThere t h (ms ++ h) → Keeps t ms h
keeps_round t now h ms round stays =
    let all = subst (λ x. RoundKeeps t x h) (sym round.is)
    (turns_keep t now round.turns (Rounds ∷ []) h round.are_turns
    (record { apart = record { closes = refl; uploads = λ u. u }; shut = refl })) in
    record { apart = all.apart; shut = all.shut; link = stays.link; time = stays.moment }

-- ---- it works on

pub closed_moving : (s : Setup) (t : Settings) (ms : List PeerEvent) (h : List ClientEvent) → settings_of s h ≡ Some t
    → is_shut t (ms ++ moves h) ≡ is_shut t (moves h) → has_closed s (moving ms h) ≡ has_closed s h
closed_moving s t ms h begun same =
    ap (λ o. is_shut_with o (moves (moving ms h))) (settings_moving s ms h ∙ begun)
    ∙ (ap (λ g. is_shut t g) (moves_moving ms h)
    ∙ (same ∙ sym (ap (λ o. is_shut_with o (moves h)) begun)))

over_moving : (s : Setup) (t : Settings) (ms : List PeerEvent) (h : List ClientEvent) → settings_of s h ≡ Some t
    → is_shut t (ms ++ moves h) ≡ is_shut t (moves h) → is_over s (moving ms h) ≡ is_over s h
over_moving s t ms h begun same =
    ap (λ d. dial.is_over (phase d) || has_closed s (moving ms h)) (dialing_moving ms h)
    ∙ ap (λ b. dial.is_over (phase_of h) || b) (closed_moving s t ms h begun same)

pub working_kept : (s : Setup) (b : Before) (t : Settings) (c : Client) (p : ClientPeer) (w now : Words) (ms : List PeerEvent) (h : List ClientEvent)
    → Working s b c w h → settings_of s h ≡ Some t → Keeps t ms (moves h) → Goes t (moves h) p w.printed.items now.printed.items ms
    → of.moment (steps t (moves h)) ≤ moment h → words_given now ≡ words_given w → now.shut ≡ w.shut
    → Working s b (with_peer c p) now (moving ms h)
working_kept s b t c p w now ms h x begun keeps goes timely same shut =
    working_moving s b t c p w now ms h (parts_of s b c w h x) x.standing.full x.dropped begun keeps.apart goes
    (subst (λ k. k ≤ moment h) (sym keeps.time) timely) same shut
    (λ goes_on.
    ap is_some keeps.link
    ∙ sym (linked_as (settings_of s h) t (moves h) begun)
    ∙ x.standing.linked (sym (over_moving s t ms h begun keeps.shut) ∙ goes_on))

-- after a round
pub works_round : (s : Setup) (b : Before) (c : Client) (w : Words) (h : List ClientEvent) (p old : ClientPeer) (now : ℕ) → Working s b c w h
    → Played (settings_of s h) old (moves h) (moment h) → ((t : Settings) (g : List PeerEvent) → Plays t old g → HasRounded t g p now) → now ≡ moment h
    → WorksOn s b (with_peer c p) w (RoundsWith (settings_of s h) h)
works_round s b c w h p old now x played rounds at =
    let t = played.settings in
    let done = rounds t (moves h) played.plays in
    record {
      after = moving done.moves h;
      holds = subst (λ o. RoundsWith o h (moving done.moves h)) (sym played.begun)
          (done.moves, subst (λ k. IsRound t k (moves h) done.moves) at done.round, refl);
      working = working_kept s b t c p w w done.moves h x played.begun (keeps_round t now (moves h) done.moves done.round done.stays)
          (record {
            plays = done.plays;
            appended = sym (ap (λ y. w.printed.items ++ y) done.silent ∙ append-nil w.printed.items);
          }) played.timely refl refl;
    }

-- ---- the calls that are gone

losses_are : (o : Option Settings) (t : Settings) (g : List PeerEvent) (h : List ClientEvent) → o ≡ Some t
    → onto (if is_shut_with o g then gone g else []) h ≡ moving (losing t g) h
losses_are o t g h is = ap (λ y. onto (if is_shut_with y g then gone g else []) h) is ∙ by (is_shut t g)
  where
    by : (b : Bool) → onto (if b then gone g else []) h
        ≡ moving (if b then reverse (map (λ n. Loses n) (filter (λ n. live_call n g) (numbers_to (drawn g)))) else []) h
    by true = onto_moves (λ n. Loses n) (filter (λ n. live_call n g) (numbers_to (drawn g))) h
    by false = refl

pub works_gone : (s : Setup) (b : Before) (c : Client) (w now : Words) (h : List ClientEvent) (p old : ClientPeer) → Working s b c w h
    → Played (settings_of s h) old (moves h) (moment h)
    → ((t : Settings) (g : List PeerEvent) → Plays t old g → Goes t g p w.printed.items now.printed.items (losing t g))
    → words_given now ≡ words_given w → now.shut ≡ w.shut → Working s b (with_peer c p) now (onto (losses s h) h)
works_gone s b c w now h p old x played goes same shut =
    let t = played.settings in
    subst (λ k. Working s b (with_peer c p) now k) (sym (losses_are (settings_of s h) t (moves h) h played.begun))
    (working_kept s b t c p w now (losing t (moves h)) h x played.begun (keeps_losing t (moves h)) (goes t (moves h) played.plays) played.timely same shut)
