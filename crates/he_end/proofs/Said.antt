-- What a session remembers once it said something.
use Rattle.std.proofs.Common.{◌≡◌, ℕ, List, ◌∷◌, [], ◌++◌, Option, Some, None, Bool, true, false, refl, sym, ap, ◌∙◌, subst, arith, max}
use Rattle.std.specs.Prelude.{◌||◌, map, drop, if◌then◌else◌}
use Rattle.hm_message.specs.declared.message.Message.{Message}
use Rattle.hm_codec.specs.Frames.{framed}
use Rattle.hd_delivery.specs.Frames.{LinkFrame, Request, Response, Refusal, Numbered, Ack, Sequence, Ping, Close, Foreign, Strange, Unreadable, count, number, told_count, most_told}
use Rattle.hd_delivery.specs.Histories.{EndEvent, Config, Lent, present_link, lent_frames, written_place, most_lent, is_three, acked_count, is_resumable, sent_messages, codec_of}
use Rattle.hd_delivery.specs.Due.{has_close}
use Rattle.hd_delivery.specs.Processes.{has_frames}
use Rattle.he_end.specs.declared.session.Session.{Session}
use Rattle.he_end.specs.declared.link.Agreed.{Agreed}
use Rattle.he_end.specs.declared.link.Link.{Link}
use Rattle.he_end.specs.declared.next_frame.NextFrame.{NextFrame}
use Rattle.he_end.specs.declared.next_frame.NextFrame.TheVariants as kind
use Rattle.he_end.specs.Remembers.{Agrees, Remembers, OfLink, OnLink, HoldsOf}
use Rattle.he_end.specs.Says.{IsDue}
use Rattle.std.proofs.lemmas.List.Sums.{fold_push}
use Rattle.he_end.proofs.Dues.{on_link}
use Rattle.he_end.proofs.Links.{is_this-same}
use Rattle.hq_resend.specs.Buffers.{Buffer}

-- ---- one frame more on a link

told-push : (frames : List LinkFrame) (f : LinkFrame) → most_told (frames ++ f ∷ []) ≡ max (most_told frames) (told_count f)
told-push [] f = omega arith
told-push (g ∷ frames) f = let e = told-push frames f in omega arith

close-push : (frames : List LinkFrame) (f : LinkFrame) → has_close (frames ++ f ∷ []) ≡ (has_close frames || has_close (f ∷ []))
close-push [] f = refl
close-push (Request codec version ∷ frames) f = close-push frames f
close-push (Response ∷ frames) f = close-push frames f
close-push (Refusal text ∷ frames) f = close-push frames f
close-push (Numbered m ∷ frames) f = close-push frames f
close-push (Ack upto ∷ frames) f = close-push frames f
close-push (Sequence first received ∷ frames) f = close-push frames f
close-push (Ping ∷ frames) f = close-push frames f
close-push (Close error allow ∷ frames) f = refl
close-push (Foreign n ∷ frames) f = close-push frames f
close-push (Strange why text ∷ frames) f = close-push frames f
close-push (Unreadable at why ∷ frames) f = close-push frames f

some-push : (frames : List LinkFrame) (f : LinkFrame) → has_frames (frames ++ f ∷ []) ≡ true
some-push [] f = refl
some-push (g ∷ frames) f = refl

lent_here : (l : ℕ) (k : List EndEvent) (f : LinkFrame) → present_link k ≡ Some l → lent_frames l (Lent f ∷ k) ≡ lent_frames l k ++ f ∷ []
lent_here l k f at = rw (is_this-same l (present_link k) at) refl

-- ---- what is said is no message

unnumbered : (c : Config) (k : List EndEvent) (f : LinkFrame) (d : NextFrame) → IsDue c k (Some f) (Some d) → (d ≡ kind.Message → ⊥) → (m : Message) → f ≡ Numbered m → ⊥
unnumbered c k f kind.Request h no_message m is = absurd (cc)
unnumbered c k f kind.Response h no_message m is = absurd (cc)
unnumbered c k f kind.Refusal h no_message m is = let e = h.1.1 in absurd (cc)
unnumbered c k f (kind.Sequence first received) h no_message m is = absurd (cc)
unnumbered c k f (kind.Ack upto) h no_message m is = absurd (cc)
unnumbered c k f kind.Message h no_message m is = no_message refl
unnumbered c k f kind.Ping h no_message m is = absurd (cc)
unnumbered c k f (kind.Close farewell) h no_message m is = absurd (cc)

-- the places stay
places_stay : (f : LinkFrame) (k : List EndEvent) → ((m : Message) → f ≡ Numbered m → ⊥) → (written_place (Lent f ∷ k) ≡ written_place k) × (most_lent (Lent f ∷ k) ≡ most_lent k)
places_stay (Request codec version) k h = (refl, refl)
places_stay Response k h = (refl, refl)
places_stay (Refusal text) k h = (refl, refl)
places_stay (Numbered m) k h = absurd (h m refl)
places_stay (Ack upto) k h = (refl, refl)
places_stay (Sequence first received) k h = (refl, refl)
places_stay Ping k h = (refl, refl)
places_stay (Close error allow) k h = (refl, refl)
places_stay (Foreign n) k h = (refl, refl)
places_stay (Strange why text) k h = (refl, refl)
places_stay (Unreadable at why) k h = (refl, refl)

-- ---- what is remembered then

-- the link, where the frame f was said
abbrev pub link_after : Session → Link → Option ℕ → ℕ → Bool → Link
link_after s x said told parted = record x { opened = true; said = said; told = told; parted = parted; quiet = false; wrote = s.moment }

-- the handshake's outcome stays
agrees_on : (c : Config) (k : List EndEvent) (f : LinkFrame) (a : Option Agreed) → Agrees a c k → Agrees a c (Lent f ∷ k)
agrees_on c k f None h = h
agrees_on c k f (Some a) h = h

-- the frame f was said on the link, with which the ring became b
pub remembers_lent : (c : Config) (s : Session) (k : List EndEvent) (f : LinkFrame) (x : Link) (b : Buffer) (said : Option ℕ) (told : ℕ) (parted : Bool) → Remembers c s k → s.link ≡ Some x
    → (l : ℕ) → present_link k ≡ Some l → OfLink s c k x l → HoldsOf b c (Lent f ∷ k) → b.sent ≡ s.ring.sent
    → (is_three k ≡ false → said ≡ count (number (lent_frames l k)) f) → told ≡ max x.told (told_count f) → parted ≡ (x.parted || has_close (f ∷ []))
    → Remembers c (record s { link = Some (link_after s x said told parted); ring = b }) (Lent f ∷ k)
remembers_lent c s k f x b said told parted r at l here o holds sent counts tells parts = record {
  side = r.side;
  codec = r.codec;
  version = r.version;
  reconnect = r.reconnect;
  agreed = agrees_on c k f s.agreed r.agreed;
  closed = r.closed;
  farewell = r.farewell;
  answer = r.answer;
  live = r.live;
  number = r.number;
  link = subst (λ p. OnLink (Some (link_after s x said told parted)) p (OfLink (record s { link = Some (link_after s x said told parted); ring = b }) c (Lent f ∷ k))) (sym here) of_link;
  ring = holds;
  processed = r.processed;
  moment = r.moment;
  begun = r.begun;
  unshaken = λ h. let u = r.unshaken h in (sent ∙ u.0, u.1, u.2, u.3);
}
  where
    on : lent_frames l (Lent f ∷ k) ≡ lent_frames l k ++ f ∷ []
    on = lent_here l k f here

    of_link : OfLink (record s { link = Some (link_after s x said told parted); ring = b }) c (Lent f ∷ k) (link_after s x said told parted) l
    of_link = record {
      first = o.first;
      opened = sym (ap has_frames on ∙ some-push (lent_frames l k) f);
      said = λ h. counts h ∙ sym (ap number on ∙ fold_push count None (lent_frames l k) f);
      told = tells ∙ (ap (λ n. max n (told_count f)) o.told ∙ sym (ap most_told on ∙ told-push (lent_frames l k) f));
      resumed = o.resumed;
      parted = parts ∙ (ap (λ p. p || has_close (f ∷ [])) o.parted ∙ sym (ap has_close on ∙ close-push (lent_frames l k) f));
      quiet = refl;
      wrote = r.moment;
      heard = o.heard;
      within = o.within;
      counted = o.counted;
      greets = o.greets;
      alone = o.alone;
      numbered = o.numbered;
    }

-- the ring holds the same after what is no message
holds_on : (b : Buffer) (c : Config) (k : List EndEvent) (f : LinkFrame) → HoldsOf b c k → (written_place (Lent f ∷ k) ≡ written_place k) × (most_lent (Lent f ∷ k) ≡ most_lent k) → HoldsOf b c (Lent f ∷ k)
holds_on b c k f h same = record {
  keeps = h.keeps;
  sent = h.sent;
  acked = h.acked;
  written = h.written ∙ ap (max (acked_count k)) (sym same.0);
  furthest = h.furthest ∙ sym same.1;
  held = h.held ∙ ap (λ n. map (framed (codec_of c k)) (if is_resumable c k then drop (acked_count k) (sent_messages k) else drop n (sent_messages k))) (sym same.1);
}

-- what was due and is no message was said
pub remembers_said : (c : Config) (s : Session) (k : List EndEvent) (f : LinkFrame) (d : NextFrame) (x : Link) (said : Option ℕ) (told : ℕ) (parted : Bool) → Remembers c s k → s.link ≡ Some x
    → IsDue c k (Some f) (Some d) → (d ≡ kind.Message → ⊥) → said ≡ count x.said f → told ≡ max x.told (told_count f) → parted ≡ (x.parted || has_close (f ∷ []))
    → Remembers c (record s { link = Some (link_after s x said told parted) }) (Lent f ∷ k)
remembers_said c s k f d x said told parted r at due' no_message counts tells parts =
    let here = on_link c s k x r at in
    remembers_lent c s k f x s.ring said told parted r at here.0 here.1 here.2 (holds_on s.ring c k f r.ring (places_stay f k (unnumbered c k f d due' no_message))) refl
    (λ h. counts ∙ ap (λ n. count n f) (here.2.said h)) tells parts
