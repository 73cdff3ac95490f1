-- A session that completes the handshake remembers it.
use Rattle.std.proofs.Common.{◌≡◌, ℕ, zero, suc, Bool, true, false, List, [], ◌∷◌, length, drop, map, Option, Some, None, refl, sym, ap, ◌∙◌, arith}
use Rattle.std.specs.Prelude.{is_some, not, ◌||◌, ◌&&◌, ◌==◌, if◌then◌else◌}
use Rattle.hm_codec.specs.Frames.{framed}
use Rattle.hm_message.specs.declared.message.Codec.{Codec}
use Rattle.hm_message.specs.declared.message.Message.{Message}
use Rattle.hd_delivery.specs.declared.vocabulary.Got.TheVariants.{Shaken}
use Rattle.hd_delivery.specs.Frames.{LinkFrame, count, number}
use Rattle.hd_delivery.specs.Histories.{Config, EndEvent, Took, present_link, taken_count, read_frames, processed_messages, sent_messages, acked_count, most_lent, codec_of, is_shaken, is_three, is_resumable, can_keep}
use Rattle.he_end.specs.declared.session.Session.{Session}
use Rattle.he_end.specs.declared.link.Agreed.{Agreed}
use Rattle.he_end.specs.declared.link.Link.{Link}
use Rattle.he_end.specs.Remembers.{Agrees, OfLink, Remembers}
use Rattle.he_end.specs.Says.{Awaits}
use Rattle.he_end.proofs.Links.{on_link_map, has_first, taken_on, counts_on}
use Rattle.he_end.proofs.Taken.{awaits_at, in_fed, next_of}
use Rattle.he_end.proofs.Attached.{not_kept}

not_three : (o : Option Agreed) (c : Config) (k : List EndEvent) → Agrees o c k → is_shaken k ≡ false → is_three k ≡ false
not_three None c k h e = h.2
not_three (Some x) c k h e = absurd (let z : true ≡ false = sym h.0 ∙ e in cc)

no_messages : (ms : List Message) → length ms ≡ 0 → ms ≡ []
no_messages [] e = refl
no_messages (m ∷ ms) e = absurd (omega (arith, e))

drop_none : {A : Type 0} (n : ℕ) → ◌≡◌ {A = List A} (drop n []) []
drop_none zero = refl
drop_none (suc n) = refl

nothing_held : (g : Message → List ℕ) (kept : Bool) (n m : ℕ) (ms : List Message) → ms ≡ [] → map g (if kept then drop n ms else drop m ms) ≡ []
nothing_held g true n m ms e = rw (e, drop_none n) refl
nothing_held g false n m ms e = rw (e, drop_none m) refl

pub remembers_shaken : (c : Config) (s : Session) (k : List EndEvent) (f : LinkFrame) (codec : Codec) (version : ℕ) → Remembers c s k → is_shaken k ≡ false → Awaits c k f → count None f ≡ Some 1
    → Remembers c (record s { codec = codec; agreed = Some (record { kept = s.reconnect && can_keep version; three = version == 3 }); ring = record s.ring { keeps = s.reconnect && can_keep version } })
    (Took (Shaken codec version) ∷ k)
remembers_shaken c s k f codec version r early a counts = record {
  side = r.side;
  codec = refl;
  version = r.version;
  reconnect = r.reconnect;
  agreed = (refl, keeps, refl);
  closed = r.closed;
  farewell = r.farewell;
  answer = r.answer;
  live = r.live;
  number = r.number;
  link = on_link_map s.link (present_link k) r.link (λ x l o p h. record {
    first = h.first;
    opened = h.opened;
    said = λ e. h.said (not_three s.agreed c k r.agreed early);
    told = h.told;
    resumed = h.resumed;
    parted = h.parted;
    quiet = h.quiet;
    wrote = h.wrote;
    heard = h.heard;
    within = rw (taken_on (Shaken codec version) l k p) (in_fed c k f a l p);
    counted = λ b e. (r.unshaken early).2 ∙ sym ((λ i. next_of ((version == 3) || not (c.reconnect && can_keep version)) (first_number x l p h i) (none_processed i)) ∙ one ((version == 3) || not (c.reconnect && can_keep version)));
    greets = λ b e. absurd (cc);
    alone = λ b e. h.alone (not_kept s.agreed c k r.agreed early) a.live;
    numbered = λ b b' e. ap is_some (first_number x l p h);
  });
  ring = let h = r.ring in record {
    keeps = keeps;
    sent = h.sent;
    acked = h.acked;
    written = h.written;
    furthest = h.furthest;
    held = h.held ∙ (nothing_held (framed (codec_of c k)) (is_resumable c k) (acked_count k) (most_lent k) (sent_messages k) unsent
        ∙ sym (nothing_held (framed codec) (c.reconnect && can_keep version) (acked_count k) (most_lent k) (sent_messages k) unsent));
  };
  processed = r.processed;
  moment = r.moment;
  begun = λ e. has_first k a.link a.at;
  unshaken = λ e. absurd (cc);
}
  where
    keeps : (s.reconnect && can_keep version) ≡ (c.reconnect && can_keep version)
    keeps = ap (λ b. b && can_keep version) r.reconnect

    unsent : sent_messages k ≡ []
    unsent = no_messages (sent_messages k) (sym r.ring.sent ∙ (r.unshaken early).0)

    none_processed : length (processed_messages k) ≡ 0
    none_processed = sym r.processed ∙ (r.unshaken early).1

    none_read : (l : ℕ) → taken_count l k ≡ 0 → number (read_frames l k) ≡ None
    none_read l e = rw e refl

    first_number : (x : Link) (l : ℕ) → present_link k ≡ Some l → OfLink s c k x l → number (read_frames l (Took (Shaken codec version) ∷ k)) ≡ Some 1
    first_number x l p h = counts_on (Shaken codec version) l k f p (awaits_at c k f a l p) ∙ (ap (λ n. count n f) (none_read l (h.greets early a.live)) ∙ counts)

    one : (alone : Bool) → next_of alone (Some 1) 0 ≡ Some 1
    one true = refl
    one false = refl
