-- What moves leave as it was: where the end stands, which links it had, and that every whole frame is taken.
use Rattle.std.proofs.Common.{◌≡◌, ℕ, ◌<◌, Bool, true, false, ◌||◌, List, [], ◌∷◌, ◌++◌, Option, Some, None, is_some, refl, sym, ap, subst, ◌∙◌}
use Rattle.std.proofs.Common.{true≢false}
use Rattle.std.specs.Prelude.{if◌then◌else◌, ◌==◌, slice_get, option_map}
use Rattle.std.specs.List.{list_all}
use Rattle.std.proofs.lemmas.Bool.{and_parts}
use Rattle.hm_message.specs.declared.message.Message.{Message}
use Rattle.hd_delivery.specs.declared.vocabulary.Reason.{Reason}
use Rattle.hd_delivery.specs.declared.vocabulary.Got.TheVariants as gives
use Rattle.hd_delivery.specs.Histories as of
use Rattle.hd_delivery.specs.Histories.{EndEvent, Config, Attached, Detached, Fed, Took, Failed, Sent, Lent, Ticked, Silenced, Closed, fed_frames}
use Rattle.hd_delivery.specs.Histories.{first_link, is_closed, link_count, present_link, stands_on, taken_count, was_on}
use Rattle.hd_delivery.specs.Processes.{processes, next_frame, next_number, reads}
use Rattle.hd_delivery.specs.Bytes.{Wire, ByteStep, Bytes, Does as Step_of, in_frames}
use Rattle.hd_calls.specs.Peers.{PeerEvent, Plain, Calls, Uploads, Cancels, Reads, Handles, Runs, Answers, Refuses, Loses, Rounds, Settings}
use Rattle.hd_calls.specs.Peers.{add, answer_of, byte_steps, codec, is_shut, message_for, reason_of, shuts, steps, waiting}
use Rattle.hp_peer.specs.Stands.{Stands}
use Rattle.hub_calc.specs.Client.{client_hub}
use Rattle.hd_server.specs.Serves.{is_taking}
use Rattle.sr_client.specs.declared.peer.ClientPeer.{ClientPeer}
use Rattle.sr_client.specs.Peers.{Plays, PlaysOn, StaysThere}

-- ---- the links of an end

-- the end stands where it stood, at the same moment, and had the same links
pub record SameLinks (g h : List EndEvent) : Type 0 where
  pub present : present_link g ≡ present_link h
  pub first : first_link g ≡ first_link h
  pub was : (l : ℕ) → was_on l g ≡ was_on l h
  pub count : link_count g ≡ link_count h
  pub moment : of.moment g ≡ of.moment h

pub same_none : (h : List EndEvent) → SameLinks h h
same_none h = record { present = refl; first = refl; was = λ l. refl; count = refl; moment = refl }

pub same_then : (f g h : List EndEvent) → SameLinks f g → SameLinks g h → SameLinks f h
same_then f g h a b = record {
  present = a.present ∙ b.present;
  first = a.first ∙ b.first;
  was = λ l. a.was l ∙ b.was l;
  count = a.count ∙ b.count;
  moment = a.moment ∙ b.moment;
}

-- neither a link that begins or ends, nor a moment
abbrev pub keeps_links : EndEvent → Bool
keeps_links (Attached l now) = false
keeps_links (Detached now) = false
keeps_links (Ticked now) = false
keeps_links (Silenced now) = false
keeps_links s = true

same_step : (s : EndEvent) (h : List EndEvent) → keeps_links s ≡ true → SameLinks (s ∷ h) h
same_step (Attached l now) h e = absurd (true≢false (sym e))
same_step (Detached now) h e = absurd (true≢false (sym e))
same_step (Ticked now) h e = absurd (true≢false (sym e))
same_step (Silenced now) h e = absurd (true≢false (sym e))
same_step (Fed piece) h e = record { present = refl; first = refl; was = λ l. refl; count = refl; moment = refl }
same_step (Took got) h e = record { present = refl; first = refl; was = λ l. refl; count = refl; moment = refl }
same_step (Failed fault) h e = record { present = refl; first = refl; was = λ l. refl; count = refl; moment = refl }
same_step (Sent m) h e = record { present = refl; first = refl; was = λ l. refl; count = refl; moment = refl }
same_step (Lent f) h e = record { present = refl; first = refl; was = λ l. refl; count = refl; moment = refl }
same_step (Closed why allow) h e = record { present = refl; first = refl; was = λ l. refl; count = refl; moment = refl }

same_shuts : (wire : Wire) (c : Config) (b : Bool) (r : Option Reason) (y : List ByteStep)
    → SameLinks (in_frames wire c (add (shuts b r) y)) (in_frames wire c y)
same_shuts wire c true None y = same_none (in_frames wire c y)
same_shuts wire c true (Some why) y = same_none (in_frames wire c y)
same_shuts wire c false None y = same_none (in_frames wire c y)
same_shuts wire c false (Some why) y = same_step (Closed why false) (in_frames wire c y) refl

same_sends : (wire : Wire) (c : Config) (o : Option Message) (y : List ByteStep)
    → SameLinks (in_frames wire c (add (option_map (λ m. Step_of (Sent m)) o) y)) (in_frames wire c y)
same_sends wire c None y = same_none (in_frames wire c y)
same_sends wire c (Some m) y = same_step (Sent m) (in_frames wire c y) refl

abbrev pub move_keeps_links : PeerEvent → Bool
move_keeps_links (Plain (Step_of s)) = keeps_links s
move_keeps_links m = true

pub same_move : (t : Settings) (m : PeerEvent) (h : List PeerEvent) → move_keeps_links m ≡ true → SameLinks (steps t (m ∷ h)) (steps t h)
same_move t (Plain (Bytes piece)) h e = same_step (Fed _) (steps t h) refl
same_move t (Plain (Step_of s)) h e = same_step s (steps t h) e
same_move t (Calls a n c) h e = same_step (Sent _) (steps t h) refl
same_move t (Uploads n w a) h e = same_step (Sent _) (steps t h) refl
same_move t (Cancels n) h e = same_step (Sent _) (steps t h) refl
same_move t (Reads m) h e = same_step (Took (gives.Message m)) (steps t h) refl
same_move t (Handles m f) h e = same_shuts t.wire t.config (is_shut t h) (reason_of f) (byte_steps t h)
same_move t (Runs j c since turn what) h e = same_sends t.wire t.config (message_for c.way (answer_of t (codec t h) c.way what)) (byte_steps t h)
same_move t (Answers j i) h e = same_none (steps t h)
same_move t (Refuses j) h e = same_none (steps t h)
same_move t (Loses n) h e = same_none (steps t h)
same_move t Rounds h e = same_none (steps t h)

-- what takes a frame keeps them
pub taking_keeps : (now : ℕ) (m : PeerEvent) → is_taking now m ≡ true → move_keeps_links m ≡ true
taking_keeps now (Plain (Step_of (Attached l k))) e = absurd (true≢false (sym e))
taking_keeps now (Plain (Step_of (Detached k))) e = absurd (true≢false (sym e))
taking_keeps now (Plain (Step_of (Ticked k))) e = absurd (true≢false (sym e))
taking_keeps now (Plain (Step_of (Silenced k))) e = absurd (true≢false (sym e))
taking_keeps now (Plain (Step_of (Fed piece))) e = refl
taking_keeps now (Plain (Step_of (Took got))) e = refl
taking_keeps now (Plain (Step_of (Failed fault))) e = refl
taking_keeps now (Plain (Step_of (Sent m))) e = refl
taking_keeps now (Plain (Step_of (Lent f))) e = refl
taking_keeps now (Plain (Step_of (Closed why allow))) e = refl
taking_keeps now (Plain (Bytes piece)) e = refl
taking_keeps now (Calls a n c) e = refl
taking_keeps now (Uploads n w a) e = refl
taking_keeps now (Cancels n) e = refl
taking_keeps now (Reads m) e = refl
taking_keeps now (Handles m f) e = refl
taking_keeps now (Runs j c since turn what) e = refl
taking_keeps now (Answers j i) e = refl
taking_keeps now (Refuses j) e = refl
taking_keeps now (Loses n) e = refl
taking_keeps now Rounds e = refl

pub same_taking : (t : Settings) (now : ℕ) (ms h : List PeerEvent) → list_all (is_taking now) ms ≡ true → SameLinks (steps t (ms ++ h)) (steps t h)
same_taking t now [] h e = same_none (steps t h)
same_taking t now (m ∷ ms) h e =
    let both = and_parts (is_taking now m) (list_all (is_taking now) ms) e in
    same_then (steps t (m ∷ ms ++ h)) (steps t (ms ++ h)) (steps t h) (same_move t m (ms ++ h) (taking_keeps now m both.0))
    (same_taking t now ms h both.1)

pub stays_there : (t : Settings) (h after : List PeerEvent) → SameLinks (steps t after) (steps t h) → StaysThere t h after
stays_there t h after same = record { link = same.present; moment = same.moment }

-- ---- the next frame of a link

-- another reader finds no frame where there is none
none_read : {A B C : Type 0} (f : A → B) (g : A → C) (o : Option A) → option_map f o ≡ None → option_map g o ≡ None
none_read f g None e = refl
none_read f g (Some x) e = absurd (true≢false (ap is_some e))

-- nothing comes at an end that is closed, and nothing where there is no frame
none_at : {A : Type 0} (b : Bool) (o : Option A) → (b ≡ false → o ≡ None) → (if b then None else o) ≡ None
none_at true o f = refl
none_at false o f = f refl

-- an end that is open has no frame
none_open : {A : Type 0} (b : Bool) (o : Option A) → (if b then None else o) ≡ None → b ≡ false → o ≡ None
none_open true o e f = absurd (true≢false f)
none_open false o e f = e

-- the frames of the present link are as they were
next_same : (c : Config) (g h : List EndEvent) (l : Option ℕ) → ((k : ℕ) → fed_frames k g ≡ fed_frames k h)
    → ((k : ℕ) → taken_count k g ≡ taken_count k h) → next_frame c h l ≡ None → next_frame c g l ≡ None
next_same c g h None fed taken e = refl
next_same c g h (Some l) fed taken e =
    subst (λ n. option_map (reads c g (next_number c g l)) (slice_get (fed_frames l g) n) ≡ None) (sym (taken l))
    (subst (λ fs. option_map (reads c g (next_number c g l)) (slice_get fs (taken_count l h)) ≡ None) (sym (fed l))
    (none_read (reads c h (next_number c h l)) (reads c g (next_number c g l)) (slice_get (fed_frames l h) (taken_count l h)) e))

-- such an end has taken every whole frame still
taken_still : (c : Config) (g h : List EndEvent) → is_closed c g ≡ is_closed c h → present_link g ≡ present_link h
    → ((k : ℕ) → fed_frames k g ≡ fed_frames k h) → ((k : ℕ) → taken_count k g ≡ taken_count k h)
    → processes c h ≡ None → processes c g ≡ None
taken_still c g h closed present fed taken e = none_at (is_closed c g) (next_frame c g (present_link g)) (λ opened.
    subst (λ l. next_frame c g l ≡ None) (sym present)
    (next_same c g h (present_link h) fed taken (none_open (is_closed c h) (next_frame c h (present_link h)) e (sym closed ∙ opened))))

pub taken_ticked : (c : Config) (h : List EndEvent) (now : ℕ) → processes c h ≡ None → processes c (Ticked now ∷ h) ≡ None
taken_ticked c h now e = taken_still c (Ticked now ∷ h) h refl refl (λ k. refl) (λ k. refl) e

-- ---- links that weren't used

-- the end doesn't stand there
not_there : (h : List EndEvent) (l : ℕ) → was_on l h ≡ false → stands_on l h ≡ false
not_there [] l e = refl
not_there (Attached k now ∷ h) l e = either (l == k) (was_on l h) e
  where
    either : (a b : Bool) → (a || b) ≡ false → a ≡ false
    either true b e = e
    either false b e = refl
not_there (Detached now ∷ h) l e = refl
not_there (Silenced now ∷ h) l e = refl
not_there (Fed piece ∷ h) l e = not_there h l e
not_there (Took got ∷ h) l e = not_there h l e
not_there (Failed fault ∷ h) l e = not_there h l e
not_there (Sent m ∷ h) l e = not_there h l e
not_there (Lent f ∷ h) l e = not_there h l e
not_there (Ticked now ∷ h) l e = not_there h l e
not_there (Closed why allow ∷ h) l e = not_there h l e

-- and nothing was fed there
none_fed : (h : List EndEvent) (l : ℕ) → was_on l h ≡ false → fed_frames l h ≡ []
none_fed [] l e = refl
none_fed (Attached k now ∷ h) l e = none_fed h l (later (l == k) (was_on l h) e)
  where
    later : (a b : Bool) → (a || b) ≡ false → b ≡ false
    later true b e = absurd (true≢false e)
    later false b e = e
none_fed (Fed piece ∷ h) l e =
    subst (λ b. (if b then fed_frames l h ++ piece else fed_frames l h) ≡ []) (sym (not_there h l e)) (none_fed h l e)
none_fed (Detached now ∷ h) l e = none_fed h l e
none_fed (Silenced now ∷ h) l e = none_fed h l e
none_fed (Took got ∷ h) l e = none_fed h l e
none_fed (Failed fault ∷ h) l e = none_fed h l e
none_fed (Sent m ∷ h) l e = none_fed h l e
none_fed (Lent f ∷ h) l e = none_fed h l e
none_fed (Ticked now ∷ h) l e = none_fed h l e
none_fed (Closed why allow ∷ h) l e = none_fed h l e

-- so a new link has no frame
pub taken_new : (c : Config) (h : List EndEvent) (l now : ℕ) → was_on l h ≡ false → processes c (Attached l now ∷ h) ≡ None
taken_new c h l now unused = none_at (is_closed c h) (next_frame c (Attached l now ∷ h) (Some l)) (λ opened.
    subst (λ fs. option_map (reads c (Attached l now ∷ h) (next_number c (Attached l now ∷ h) l)) (slice_get fs (taken_count l h)) ≡ None)
    (sym (none_fed h l unused)) refl)

abbrev Nowhere : Option EndEvent
Nowhere = None

-- an end without a link has none either
pub taken_off : (b : Bool) → (if b then None else None) ≡ Nowhere
taken_off true = refl
taken_off false = refl

-- ---- moves that read nothing

-- what is sent, said or lost, and the end's close: no frame is taken by it, no message comes to wait, and the links are as they were
abbrev pub is_quiet : PeerEvent → Bool
is_quiet (Plain (Step_of (Lent f))) = true
is_quiet (Plain (Step_of (Closed why allow))) = true
is_quiet (Calls a n c) = true
is_quiet (Uploads n w a) = true
is_quiet (Cancels n) = true
is_quiet (Runs j c since turn what) = true
is_quiet (Refuses j) = true
is_quiet (Loses n) = true
is_quiet Rounds = true
is_quiet m = false

pub record Quietly (t : Settings) (g h : List PeerEvent) : Type 0 where
  pub waits : waiting g ≡ waiting h
  pub same : SameLinks (steps t g) (steps t h)
  pub taken : processes t.config (steps t h) ≡ None → processes t.config (steps t g) ≡ None

taken_sent : (c : Config) (h : List EndEvent) (m : Message) → processes c h ≡ None → processes c (Sent m ∷ h) ≡ None
taken_sent c h m e = taken_still c (Sent m ∷ h) h refl refl (λ k. refl) (λ k. refl) e

taken_sends : (wire : Wire) (c : Config) (o : Option Message) (y : List ByteStep) → processes c (in_frames wire c y) ≡ None
    → processes c (in_frames wire c (add (option_map (λ m. Step_of (Sent m)) o) y)) ≡ None
taken_sends wire c None y e = e
taken_sends wire c (Some m) y e = taken_sent c (in_frames wire c y) m e

quiet_sent : (t : Settings) (m : PeerEvent) (h : List PeerEvent) (sent : Message) → steps t (m ∷ h) ≡ Sent sent ∷ steps t h → waiting (m ∷ h) ≡ waiting h
    → Quietly t (m ∷ h) h
quiet_sent t m h sent e waits = record {
  waits = waits;
  same = subst (λ k. SameLinks k (steps t h)) (sym e) (same_step (Sent sent) (steps t h) refl);
  taken = λ none. subst (λ k. processes t.config k ≡ None) (sym e) (taken_sent t.config (steps t h) sent none);
}

pub quiet_move : (t : Settings) (m : PeerEvent) (h : List PeerEvent) → is_quiet m ≡ true → Quietly t (m ∷ h) h
quiet_move t (Plain (Step_of (Lent f))) h e = record {
  waits = refl;
  same = same_step (Lent f) (steps t h) refl;
  taken = λ none. taken_still t.config (Lent f ∷ steps t h) (steps t h) refl refl (λ k. refl) (λ k. refl) none;
}
quiet_move t (Plain (Step_of (Closed why allow))) h e = record { waits = refl; same = same_step (Closed why allow) (steps t h) refl; taken = λ none. refl }
quiet_move t (Calls a n c) h e = quiet_sent t (Calls a n c) h _ refl refl
quiet_move t (Uploads n w a) h e = quiet_sent t (Uploads n w a) h _ refl refl
quiet_move t (Cancels n) h e = quiet_sent t (Cancels n) h _ refl refl
quiet_move t (Runs j c since turn what) h e = record {
  waits = refl;
  same = same_move t (Runs j c since turn what) h refl;
  taken = taken_sends t.wire t.config (message_for c.way (answer_of t (codec t h) c.way what)) (byte_steps t h);
}
quiet_move t (Refuses j) h e = record { waits = refl; same = same_none (steps t h); taken = λ none. none }
quiet_move t (Loses n) h e = record { waits = refl; same = same_none (steps t h); taken = λ none. none }
quiet_move t Rounds h e = record { waits = refl; same = same_none (steps t h); taken = λ none. none }
quiet_move t (Plain (Bytes piece)) h e = absurd (true≢false (sym e))
quiet_move t (Plain (Step_of (Attached l now))) h e = absurd (true≢false (sym e))
quiet_move t (Plain (Step_of (Detached now))) h e = absurd (true≢false (sym e))
quiet_move t (Plain (Step_of (Fed piece))) h e = absurd (true≢false (sym e))
quiet_move t (Plain (Step_of (Took got))) h e = absurd (true≢false (sym e))
quiet_move t (Plain (Step_of (Failed fault))) h e = absurd (true≢false (sym e))
quiet_move t (Plain (Step_of (Sent m))) h e = absurd (true≢false (sym e))
quiet_move t (Plain (Step_of (Ticked now))) h e = absurd (true≢false (sym e))
quiet_move t (Plain (Step_of (Silenced now))) h e = absurd (true≢false (sym e))
quiet_move t (Reads m) h e = absurd (true≢false (sym e))
quiet_move t (Handles m f) h e = absurd (true≢false (sym e))
quiet_move t (Answers j i) h e = absurd (true≢false (sym e))

pub quiet_moves : (t : Settings) (ms h : List PeerEvent) → list_all is_quiet ms ≡ true → Quietly t (ms ++ h) h
quiet_moves t [] h e = record { waits = refl; same = same_none (steps t h); taken = λ none. none }
quiet_moves t (m ∷ ms) h e =
    let both = and_parts (is_quiet m) (list_all is_quiet ms) e in
    let one = quiet_move t m (ms ++ h) both.0 in
    let more = quiet_moves t ms h both.1 in
    record {
      waits = one.waits ∙ more.waits;
      same = same_then (steps t (m ∷ ms ++ h)) (steps t (ms ++ h)) (steps t h) one.same more.same;
      taken = λ none. one.taken (more.taken none);
    }

-- ---- the client's peer

pub linked_on : (t : Settings) (p new : ClientPeer) (h after : List PeerEvent) → PlaysOn t p h → Stands client_hub t new.peer after → new.linked ≡ p.linked
    → SameLinks (steps t after) (steps t h) → waiting after ≡ None → PlaysOn t new after
linked_on t p new h after plays stands linked same waits = record {
  stands = stands;
  side = plays.side;
  linked = linked ∙ plays.linked ∙ sym (ap is_some same.first);
  links = λ l was. subst (λ n. l < n) (sym same.count) (plays.links l (sym (same.was l) ∙ was));
  handled = waits;
}

-- after such moves it plays on
pub plays_quiet : (t : Settings) (p new : ClientPeer) (h after : List PeerEvent) → Plays t p h → Stands client_hub t new.peer after → new.linked ≡ p.linked
    → Quietly t after h → Plays t new after
plays_quiet t p new h after plays stands linked quiet = record {
  on = linked_on t p new h after plays.on stands linked quiet.same (quiet.waits ∙ plays.on.handled);
  taken = quiet.taken plays.taken;
}
