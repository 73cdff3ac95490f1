-- What a step of an end alone makes of what is kept of it.
use Rattle.std.proofs.Common.{inl, ◌≡◌, ℕ, ◌+◌, Bool, true, false, ◌==◌, ◌||◌, List, [], ◌∷◌, ◌++◌, length, Some, None, refl, sym, ap, ◌∙◌, subst, is_some}
use Rattle.std.specs.Prelude.{if◌then◌else◌}
use Rattle.hf_split.specs.Held.{Held, at_start}
use Rattle.hm_message.specs.declared.message.Message.{Message}
use Rattle.hm_codec.specs.Frames.{IsSaid}
use Rattle.hd_delivery.specs.declared.vocabulary.Reason.{Reason}
use Rattle.hd_delivery.specs.declared.vocabulary.Side.{Side}
use Rattle.hd_delivery.specs.Frames.{LinkFrame, Request, Response, Refusal, Numbered, Ack, Sequence, Ping, Close, Foreign, Strange, Unreadable}
use Rattle.hd_delivery.specs.Histories.{Config, EndEvent, Attached, Detached, Sent, Lent, Ticked, Silenced, Closed, present_link, was_on, sent_messages, codec_of}
use Rattle.hd_delivery.specs.HistoryLaws.{UnreadBegins, UnreadStays}
use Rattle.hd_delivery.specs.Worlds.{config}
use Rattle.hd_delivery.specs.Bytes.{ByteStep, Does, in_frames, unread}
use Rattle.hd_trace.specs.declared.marks.Marks.{Marks}
use Rattle.hd_trace.specs.Traces.{Setup}
use Rattle.hd_trace.specs.Marks.{marks_of, place_by, attached, left, lent, ticked, sent_one, closed_for}
use Rattle.hd_trace.specs.MarkLaws.{MarksFollow}
use Rattle.ha_audit.specs.declared.auditor.audited_end.AuditedEnd.{AuditedEnd}
use Rattle.ha_audit.specs.declared.auditor.said.SaidOnLink.{SaidOnLink}
use Rattle.ha_audit.specs.AuditState.{AreSent, said_on, has_link, framed_size, sum_of_first}
use Rattle.ha_audit.specs.AuditSteps.{Attaches, SendsOne, Says}
use Rattle.ha_audit.specs.AloneState.{as_kept, framing_by, HoldsBytes, HasNearNumbers}
use Rattle.ha_audit.specs.AloneKeeps.{KeepsOne}
use Rattle.ha_audit.proofs.AuditLists.{sent_more}
use Rattle.ha_audit.proofs.AloneNumbers.{IsLow, near_left, near_attached, near_ticked, near_sent, near_closed, near_lent}

-- the bytes that are held where the marks read in the same framing
pub holds_same : (splitter : Held) (over : ℕ) (m n : Marks) (bytes more : List ℕ) → framing_by n ≡ framing_by m → more ≡ bytes
    → HoldsBytes splitter over m bytes → HoldsBytes splitter over n more
holds_same splitter over m n bytes more same e holds = record {
  framing = holds.framing ∙ sym same;
  more = holds.more;
  bytes_are = e ∙ holds.bytes_are;
  count = holds.count;
  stuck = holds.stuck;
}

-- what is said changes no framing
lent_framing : (f : LinkFrame) (m : Marks) → framing_by (lent f m) ≡ framing_by m
lent_framing (Request codec version) m = refl
lent_framing Response m = refl
lent_framing (Refusal text) m = refl
lent_framing (Numbered msg) m = refl
lent_framing (Ack upto) m = refl
lent_framing (Sequence first received) m = refl
lent_framing Ping m = refl
lent_framing (Close error allow) m = refl
lent_framing (Foreign n) m = refl
lent_framing (Strange why answer) m = refl
lent_framing (Unreadable at why) m = refl

lent_kept : (f : LinkFrame) (m : Marks) → lent f (as_kept m) ≡ as_kept (lent f m)
lent_kept (Request codec version) m = refl
lent_kept Response m = refl
lent_kept (Refusal text) m = refl
lent_kept (Numbered msg) m = refl
lent_kept (Ack upto) m = refl
lent_kept (Sequence first received) m = refl
lent_kept Ping m = refl
lent_kept (Close error allow) m = refl
lent_kept (Foreign n) m = refl
lent_kept (Strange why answer) m = refl
lent_kept (Unreadable at why) m = refl

module _ (follow : MarksFollow) (x : Setup) (side : Side) (end : AuditedEnd) (splitter : Held) (over : ℕ) (h : List ByteStep)
    (keeps : KeepsOne x side end splitter over h) where
  -- the end as it was begun, and its history in frames
  abbrev c : Config
  c = config side x.terms

  abbrev k : List EndEvent
  k = in_frames x.wire c h

  -- the link is lost
  pub kept_detached : (now : ℕ) (new : AuditedEnd) → new ≡ record end { marks = left now end.marks } → KeepsOne x side new splitter over
      (Does (Detached now) ∷ h)
  kept_detached now new e = subst (λ n. KeepsOne x side n splitter over (Does (Detached now) ∷ h)) (sym e) (record {
    marks = ap (left now) keeps.marks ∙ ap as_kept (sym ((follow c k).detached now));
    near = subst HasNearNumbers (sym ((follow c k).detached now)) (near_left (marks_of c k) now);
    sent = keeps.sent;
    links = keeps.links;
    last = keeps.last;
    most = keeps.most;
    holds = λ l here. absurd (let z : None ≡ Some l = here in cc);
  })

  pub kept_silenced : (now : ℕ) (new : AuditedEnd) → new ≡ record end { marks = left now end.marks } → KeepsOne x side new splitter over
      (Does (Silenced now) ∷ h)
  kept_silenced now new e = subst (λ n. KeepsOne x side n splitter over (Does (Silenced now) ∷ h)) (sym e) (record {
    marks = ap (left now) keeps.marks ∙ ap as_kept (sym ((follow c k).silenced now));
    near = subst HasNearNumbers (sym ((follow c k).silenced now)) (near_left (marks_of c k) now);
    sent = keeps.sent;
    links = keeps.links;
    last = keeps.last;
    most = keeps.most;
    holds = λ l here. absurd (let z : None ≡ Some l = here in cc);
  })

  -- a moment came
  pub kept_ticked : UnreadStays → (now : ℕ) (new : AuditedEnd) → new ≡ record end { marks = ticked now end.marks } → KeepsOne x side new splitter over
      (Does (Ticked now) ∷ h)
  kept_ticked stay now new e = subst (λ n. KeepsOne x side n splitter over (Does (Ticked now) ∷ h)) (sym e) (record {
    marks = ap (ticked now) keeps.marks ∙ ap as_kept (sym ((follow c k).ticked now));
    near = subst HasNearNumbers (sym ((follow c k).ticked now)) (near_ticked (marks_of c k) now keeps.near);
    sent = keeps.sent;
    links = keeps.links;
    last = keeps.last;
    most = keeps.most;
    holds = λ l here. holds_same splitter over end.marks (ticked now end.marks) (unread x.wire c l h) (unread x.wire c l (Does (Ticked now) ∷ h)) refl
        ((stay x.wire c h l).ticked now).same (keeps.holds l here);
  })

  -- its own side closed it
  pub kept_closed : UnreadStays → (reason : Reason) (allow : Bool) (new : AuditedEnd) → new ≡ record end { marks = closed_for reason allow end.marks }
      → KeepsOne x side new splitter over (Does (Closed reason allow) ∷ h)
  kept_closed stay reason allow new e = subst (λ n. KeepsOne x side n splitter over (Does (Closed reason allow) ∷ h)) (sym e) (record {
    marks = ap (closed_for reason allow) keeps.marks ∙ ap as_kept (sym ((follow c k).closed reason allow));
    near = subst HasNearNumbers (sym ((follow c k).closed reason allow)) (near_closed (marks_of c k) reason allow keeps.near);
    sent = keeps.sent;
    links = keeps.links;
    last = keeps.last;
    most = keeps.most;
    holds = λ l here. holds_same splitter over end.marks (closed_for reason allow end.marks) (unread x.wire c l h)
        (unread x.wire c l (Does (Closed reason allow) ∷ h)) refl
        ((stay x.wire c h l).closed reason allow).same (keeps.holds l here);
  })

  -- ---- a new link

  new_name : (m l : ℕ) (said : SaidOnLink) → has_link end.links m ≡ was_on m k
      → is_some (if m == l then Some said else said_on end.links m) ≡ ((m == l) || was_on m k)
  new_name m l said e = go (m == l)
    where
      go : (b : Bool) → is_some (if b then Some said else said_on end.links m) ≡ (b || was_on m k)
      go true = refl
      go false = e

  pub kept_attached : UnreadBegins → (l now : ℕ) (new : AuditedEnd) (held : Held) → was_on l k ≡ false → Attaches end new l now
      → held ≡ at_start (framing_by new.marks) splitter.most → KeepsOne x side new held 0 (Does (Attached l now) ∷ h)
  kept_attached begin l now new held unused a e = subst (λ s. KeepsOne x side new s 0 (Does (Attached l now) ∷ h)) (sym e) (record {
    marks = a.marks ∙ (ap (attached l now) keeps.marks ∙ ap as_kept (sym ((follow c k).attached l now unused)));
    near = subst HasNearNumbers (sym ((follow c k).attached l now unused)) (near_attached (marks_of c k) l now);
    sent = subst (λ v. AreSent (codec_of c k) v.items (sent_messages k)) (sym a.sent) keeps.sent;
    links = λ m. ap is_some (a.links.links m) ∙ new_name m l a.links.said (keeps.links m);
    last = a.last;
    most = keeps.most;
    holds = λ m here. let same : l ≡ m = (let z : Some l ≡ Some m = here in cc) in record {
      framing = refl;
      more = [];
      bytes_are = subst (λ n. unread x.wire c n (Does (Attached l now) ∷ h) ≡ []) same (begin x.wire c h l now unused).0;
      count = refl;
      stuck = inl refl;
    };
  })

  -- ---- what is said and sent

  pub kept_sent : UnreadStays → (m : Message) (new : AuditedEnd) → SendsOne end new m → KeepsOne x side new splitter over (Does (Sent m) ∷ h)
  kept_sent stay m new s = record {
    marks = s.marks ∙ (ap sent_one keeps.marks ∙ ap as_kept (sym ((follow c k).sent m)));
    near = subst HasNearNumbers (sym ((follow c k).sent m)) (near_sent (marks_of c k) keeps.near);
    sent = subst (λ v. AreSent (codec_of c k) v (sent_messages k ++ m ∷ [])) (sym s.sent)
        (sent_more (codec_of c k) end.sent.items (sent_messages k) keeps.sent s.last m s.message
        (subst (λ codec. s.last.sum ≡ sum_of_first end.sent.items (length end.sent.items) + framed_size codec m) codec_is s.sum)
        (subst (λ codec. IsSaid codec m) codec_is s.is_said));
    links = λ l. ap (λ v. has_link v l) s.links ∙ keeps.links l;
    last = s.last_is ∙ keeps.last;
    most = keeps.most;
    holds = λ l here. holds_same splitter over end.marks new.marks (unread x.wire c l h) (unread x.wire c l (Does (Sent m) ∷ h))
        (ap framing_by s.marks)
        ((stay x.wire c h l).sent m).same (keeps.holds l here);
  }
    where
      codec_is : end.marks.codec ≡ codec_of c k
      codec_is = ap (λ m. m.codec) keeps.marks

  pub kept_lent : UnreadStays → (l : ℕ) (f : LinkFrame) (bytes : List ℕ) (new : AuditedEnd) → present_link k ≡ Some l → was_on l k ≡ true → IsLow
      (place_by (marks_of c k)) f → Says c end new l f bytes
      → KeepsOne x side new splitter over (Does (Lent f) ∷ h)
  kept_lent stay l f bytes new here was low s = record {
    marks = s.marks ∙ (ap (lent f) keeps.marks ∙ (lent_kept f (marks_of c k) ∙ ap as_kept (sym ((follow c k).lent l f here))));
    near = subst HasNearNumbers (sym ((follow c k).lent l f here)) (near_lent (marks_of c k) f low keeps.near);
    sent = subst (λ v. AreSent (codec_of c k) v.items (sent_messages k)) (sym s.sent) keeps.sent;
    links = λ m. (s.links (keeps.links l ∙ was)).names m ∙ keeps.links m;
    last = s.last ∙ keeps.last;
    most = keeps.most;
    holds = λ m at. holds_same splitter over end.marks new.marks (unread x.wire c m h) (unread x.wire c m (Does (Lent f) ∷ h))
        (ap framing_by s.marks ∙ lent_framing f end.marks)
        ((stay x.wire c h m).lent f).same (keeps.holds m at);
  }
