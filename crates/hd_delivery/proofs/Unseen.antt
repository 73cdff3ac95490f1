-- What an end is and says doesn't depend on what it was fed and hasn't dealt with.
use Rattle.std.proofs.Common.{◌≡◌, ℕ, suc, max, true, List, [], ◌∷◌, ◌++◌, Option, Some, None, refl, sym, ap, ◌∙◌}
use Rattle.hm_message.specs.declared.message.Message.{Message}
use Rattle.hd_delivery.specs.declared.vocabulary.Side.{Side}
use Rattle.hd_delivery.specs.declared.vocabulary.Side.TheVariants.{Client, Server}
use Rattle.hd_delivery.specs.declared.vocabulary.Got.TheVariants as gives
use Rattle.hm_message.specs.declared.message.Message.TheVariants as message
use Rattle.hm_message.specs.Message.{is_sequenced}
use Rattle.hd_delivery.specs.Frames.{LinkFrame, Numbered, frame_of}
use Rattle.hd_delivery.specs.Histories.{Config, EndEvent, Attached, Detached, Fed, Took, Failed, Sent, Lent, Ticked, Silenced, Closed, Shake, is_this, present_link, stands_on, was_on, first_link, first_of, lent_frames, taken_count, sent_messages, processed_messages, acked_count, written_place, agreed_version, is_resumed, moment, written_moment, codec_of, is_shaken, is_resumable, is_closed, state, held_messages, link_count, most_lent, heard_moment, is_silence}
use Rattle.hd_delivery.specs.Due.{handshake, opening, next_message, sequence_due, ack_due, message_due, ping_due, close_due, due_after, due_there, is_quiet, farewell, answer, due_on, due}
use Rattle.hd_delivery.specs.Bytes.{Wire, ByteStep, Bytes, Does, bare_steps, in_frames}
use Rattle.hd_delivery.specs.Laws.{IsSameButFed}

-- the steps without what was fed
abbrev pub unfed : List EndEvent → List EndEvent
unfed [] = []
unfed (Fed piece ∷ h) = Fed [] ∷ unfed h
unfed (s ∷ h) = s ∷ unfed h

link : (h : List EndEvent) → present_link (unfed h) ≡ present_link h
link [] = refl
link (Attached l now ∷ h) = refl
link (Detached now ∷ h) = refl
link (Silenced now ∷ h) = refl
link (_ ∷ h) = link h

first : (h : List EndEvent) → first_link (unfed h) ≡ first_link h
first [] = refl
first (Attached l now ∷ h) = ap (λ o. first_of o (Some l)) (first h)
first (_ ∷ h) = first h

names : (l : ℕ) (h : List EndEvent) → was_on l (unfed h) ≡ was_on l h
names l [] = refl
names l (Attached k now ∷ h) = rw (names l h) refl
names l (_ ∷ h) = names l h

stands : (l : ℕ) (h : List EndEvent) → stands_on l (unfed h) ≡ stands_on l h
stands l h = ap (is_this l) (link h)

codec : (c : Config) (h : List EndEvent) → codec_of c (unfed h) ≡ codec_of c h
codec c [] = refl
codec c (Took (gives.Shaken k v) ∷ h) = refl
codec c (_ ∷ h) = codec c h

shakes : (h : List EndEvent) → is_shaken (unfed h) ≡ is_shaken h
shakes [] = refl
shakes (Took (gives.Shaken k v) ∷ h) = refl
shakes (_ ∷ h) = shakes h

version : (h : List EndEvent) → agreed_version (unfed h) ≡ agreed_version h
version [] = refl
version (Took (gives.Shaken k v) ∷ h) = refl
version (_ ∷ h) = version h

keeps : (c : Config) (h : List EndEvent) → is_resumable c (unfed h) ≡ is_resumable c h
keeps c [] = refl
keeps c (Took (gives.Shaken k v) ∷ h) = refl
keeps c (_ ∷ h) = keeps c h

ends : (c : Config) (h : List EndEvent) → is_closed c (unfed h) ≡ is_closed c h
ends c [] = refl
ends c (Closed reason allow ∷ h) = refl
ends c (Failed fault ∷ h) = refl
ends c (Took (gives.Closed error allow) ∷ h) = refl
ends c (Detached now ∷ h) = rw (keeps c h, ends c h) refl
ends c (Silenced now ∷ h) = rw (keeps c h, ends c h) refl
ends c (_ ∷ h) = ends c h

takes : (l : ℕ) (h : List EndEvent) → taken_count l (unfed h) ≡ taken_count l h
takes l [] = refl
takes l (Took got ∷ h) = rw (stands l h, takes l h) refl
takes l (Failed fault ∷ h) = rw (stands l h, takes l h) refl
takes l (_ ∷ h) = takes l h

lends : (l : ℕ) (h : List EndEvent) → lent_frames l (unfed h) ≡ lent_frames l h
lends l [] = refl
lends l (Lent f ∷ h) = rw (stands l h, lends l h) refl
lends l (_ ∷ h) = lends l h

sends : (h : List EndEvent) → sent_messages (unfed h) ≡ sent_messages h
sends [] = refl
sends (Sent m ∷ h) = ap (λ ms. ms ++ m ∷ []) (sends h)
sends (_ ∷ h) = sends h

gets : (h : List EndEvent) → processed_messages (unfed h) ≡ processed_messages h
gets [] = refl
gets (Took (gives.Message m) ∷ h) = ap (λ ms. ms ++ m ∷ []) (gets h)
gets (_ ∷ h) = gets h

acks : (h : List EndEvent) → acked_count (unfed h) ≡ acked_count h
acks [] = refl
acks (Took (gives.Acked n) ∷ h) = ap (max n) (acks h)
acks (Took (gives.Resumed k n) ∷ h) = ap (max n) (acks h)
acks (_ ∷ h) = acks h

writes : (h : List EndEvent) → written_place (unfed h) ≡ written_place h
writes [] = refl
writes (Attached l now ∷ h) = refl
writes (Lent (Numbered m) ∷ h) = rw (acks h, writes h) refl
writes (_ ∷ h) = writes h

resumes : (h : List EndEvent) → is_resumed (unfed h) ≡ is_resumed h
resumes [] = refl
resumes (Attached l now ∷ h) = refl
resumes (Took (gives.Resumed k n) ∷ h) = refl
resumes (_ ∷ h) = resumes h

moments : (h : List EndEvent) → moment (unfed h) ≡ moment h
moments [] = refl
moments (Attached l now ∷ h) = ap (max now) (moments h)
moments (Detached now ∷ h) = ap (max now) (moments h)
moments (Ticked now ∷ h) = ap (max now) (moments h)
moments (Silenced now ∷ h) = ap (max now) (moments h)
moments (_ ∷ h) = moments h

links : (h : List EndEvent) → link_count (unfed h) ≡ link_count h
links [] = refl
links (Attached l now ∷ h) = ap suc (links h)
links (_ ∷ h) = links h

most : (h : List EndEvent) → most_lent (unfed h) ≡ most_lent h
most [] = refl
most (Lent (Numbered m) ∷ h) = rw (acks h, writes h, most h) refl
most (_ ∷ h) = most h

hears : (h : List EndEvent) → heard_moment (unfed h) ≡ heard_moment h
hears [] = refl
hears (Attached l now ∷ h) = rw (moments h) refl
hears (Fed piece ∷ h) = refl
hears (Ticked now ∷ h) = rw (hears h, moments h) refl
hears (_ ∷ h) = hears h

wrote : (h : List EndEvent) → written_moment (unfed h) ≡ written_moment h
wrote [] = refl
wrote (Attached l now ∷ h) = ap (max now) (moments h)
wrote (Lent f ∷ h) = moments h
wrote (_ ∷ h) = wrote h

quiet : (h : List EndEvent) → is_quiet (unfed h) ≡ is_quiet h
quiet [] = refl
quiet (Attached l now ∷ h) = refl
quiet (Lent f ∷ h) = refl
quiet (Ticked now ∷ h) = rw (wrote h, quiet h) refl
quiet (_ ∷ h) = quiet h

says_last : (h : List EndEvent) → farewell (unfed h) ≡ farewell h
says_last [] = refl
says_last (Closed reason allow ∷ h) = refl
says_last (Failed (Shake why text) ∷ h) = says_last h
says_last (Failed fault ∷ h) = refl
says_last (_ ∷ h) = says_last h

answers : (h : List EndEvent) → answer (unfed h) ≡ answer h
answers [] = refl
answers (Failed (Shake why text) ∷ h) = refl
answers (_ ∷ h) = answers h

-- each thing that is due
module _ (c : Config) (h : List EndEvent) where
  is_in : state c (unfed h) ≡ state c h
  is_in = rw (ends c h, shakes h, link h) refl

  shake : (side : Side) → handshake side c (unfed h) ≡ handshake side c h
  shake Client = rw (ends c h) refl
  shake Server = rw (shakes h) refl

  opens : (l : ℕ) → opening c (unfed h) l ≡ opening c h l
  opens l = rw (first h, shake c.side, acks h, version h, gets h) refl

  next : next_message (unfed h) ≡ next_message h
  next = rw (sends h, acks h, writes h) refl

  sequence : (said : List LinkFrame) → sequence_due (unfed h) said ≡ sequence_due h said
  sequence said = rw (version h, next, acks h, writes h) refl

  ack : (said : List LinkFrame) → ack_due c (unfed h) said ≡ ack_due c h said
  ack said = rw (keeps c h, ends c h, gets h) refl

  says_message : (l : ℕ) → message_due (unfed h) l ≡ message_due h l
  says_message l = rw (version h, first h, resumes h, next) refl

  ping : ping_due c (unfed h) ≡ ping_due c h
  ping = rw (is_in, quiet h) refl

  close : (said : List LinkFrame) → close_due (unfed h) said ≡ close_due h said
  close said = rw (shakes h, says_last h) refl

  after : (l : ℕ) (said : List LinkFrame) → due_after c (unfed h) l said ≡ due_after c h l said
  after l [] = opens l
  after l (f ∷ said) = rw (sequence (f ∷ said), ack (f ∷ said), says_message l, ping, close (f ∷ said)) refl

  there : (l : ℕ) (o : Option (List ℕ)) → due_there c (unfed h) l o ≡ due_there c h l o
  there l None = rw (lends l h) (after l (lent_frames l h))
  there l (Some text) = rw (lends l h) refl

  on : (o : Option ℕ) → due_on c (unfed h) o ≡ due_on c h o
  on None = refl
  on (Some l) = rw (answers h) (there l (answer h))

  owes : due c (unfed h) ≡ due c h
  owes = rw (link h) (on (present_link h))

  holds : held_messages c (unfed h) ≡ held_messages c h
  holds = rw (keeps c h, acks h, sends h, most h) refl

  silent : (now : ℕ) → is_silence c now (unfed h) ≡ is_silence c now h
  silent now = rw (link h, ends c h, hears h) refl

  without_fed : IsSameButFed c (unfed h) h
  without_fed = record {
    link = link h;
    first = first h;
    names = λ l. names l h;
    codec = codec c h;
    shakes = shakes h;
    keeps = keeps c h;
    ends = ends c h;
    stands = is_in;
    takes = λ l. takes l h;
    lends = λ l. lends l h;
    owes = owes;
    sends = sends h;
    processes = gets h;
    acks = acks h;
    holds = holds;
    links = links h;
    furthest = most h;
    moves = moments h;
    silent = silent;
  }

same_steps : (wire : Wire) (c : Config) (h : List ByteStep) → unfed (in_frames wire c h) ≡ unfed (bare_steps h)
same_steps wire c [] = refl
same_steps wire c (Bytes piece ∷ h) = ap (λ k. Fed [] ∷ k) (same_steps wire c h)
same_steps wire c (Does (Fed piece) ∷ h) = ap (λ k. Fed [] ∷ k) (same_steps wire c h)
same_steps wire c (Does s ∷ h) = ap (λ k. s ∷ k) (same_steps wire c h)

via : (c : Config) (h k : List EndEvent) → unfed h ≡ unfed k → IsSameButFed c h k
via c h k e =
    let a = without_fed c h in
    let b = without_fed c k in
    record {
      link = sym a.link ∙ (ap present_link e ∙ b.link);
      first = sym a.first ∙ (ap first_link e ∙ b.first);
      names = λ l. sym (a.names l) ∙ (ap (was_on l) e ∙ b.names l);
      codec = sym a.codec ∙ (ap (codec_of c) e ∙ b.codec);
      shakes = sym a.shakes ∙ (ap is_shaken e ∙ b.shakes);
      keeps = sym a.keeps ∙ (ap (is_resumable c) e ∙ b.keeps);
      ends = sym a.ends ∙ (ap (is_closed c) e ∙ b.ends);
      stands = sym a.stands ∙ (ap (state c) e ∙ b.stands);
      takes = λ l. sym (a.takes l) ∙ (ap (taken_count l) e ∙ b.takes l);
      lends = λ l. sym (a.lends l) ∙ (ap (lent_frames l) e ∙ b.lends l);
      owes = sym a.owes ∙ (ap (due c) e ∙ b.owes);
      sends = sym a.sends ∙ (ap sent_messages e ∙ b.sends);
      processes = sym a.processes ∙ (ap processed_messages e ∙ b.processes);
      acks = sym a.acks ∙ (ap acked_count e ∙ b.acks);
      holds = sym a.holds ∙ (ap (held_messages c) e ∙ b.holds);
      links = sym a.links ∙ (ap link_count e ∙ b.links);
      furthest = sym a.furthest ∙ (ap most_lent e ∙ b.furthest);
      moves = sym a.moves ∙ (ap moment e ∙ b.moves);
      silent = λ now. sym (a.silent now) ∙ (ap (is_silence c now) e ∙ b.silent now);
    }

pub fed_is_unseen : (wire : Wire) (c : Config) (h : List ByteStep) → IsSameButFed c (in_frames wire c h) (bare_steps h)
fed_is_unseen wire c h = via c (in_frames wire c h) (bare_steps h) (same_steps wire c h)

pub sequenced_is_numbered : (m : Message) → (is_sequenced m ≡ true → frame_of m ≡ Numbered m) × (frame_of m ≡ Numbered m → is_sequenced m ≡ true)
sequenced_is_numbered message.Ping = (λ e. absurd (cc), λ e. absurd (cc))
sequenced_is_numbered (message.Close error allow) = (λ e. absurd (cc), λ e. absurd (cc))
sequenced_is_numbered (message.Ack upto) = (λ e. absurd (cc), λ e. absurd (cc))
sequenced_is_numbered (message.Sequence k received) = (λ e. absurd (cc), λ e. absurd (cc))
sequenced_is_numbered m = (λ e. refl, λ e. refl)
