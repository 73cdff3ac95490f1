-- In a session what was written on a lane's wire, and then what waits, is what was said there: what was asked, or replied.
use Rattle.std.proofs.Common.{◌≡◌, ◌==◌, ◌&&◌, ◌||◌, not, ◌++◌, ◌∷◌, [], ℕ, Bool, true, false, if◌then◌else◌, List, Option, None, Some, refl, sym, ap, ◌∙◌, subst, ◌⊎◌, inl, inr, append-nil, append_assoc, length}
use Rattle.hw_lanes.specs.declared.http.Reply.{Reply}
use Rattle.hh_http.specs.Texts.{continue_text, reply_text}
use Rattle.hw_door.specs.declared.heard.Event.{Event}
use Rattle.hw_door.specs.Traffic.{Answer, bytes_in, not_yet, ended, read_failed, bytes_out, write_failed, was_shut, written_on}
use Rattle.hw_socket.specs.Lane as socket
use Rattle.hw_socket.specs.declared.vocabulary.SocketRead.{SocketRead}
use Rattle.hw_net.specs.declared.limits.TheConstants.{SWITCHING}
use Rattle.hw_net.specs.declared.input.Input.{Input}
use Rattle.hw_net.specs.declared.input.Input.TheVariants as input
use Rattle.hw_net.specs.declared.protocol.Protocol.{Protocol}
use Rattle.hw_net.specs.declared.protocol.Protocol.TheVariants.{Http, Response, Socket}
use Rattle.hw_net.specs.declared.protocol.Stage.{Stage}
use Rattle.hw_net.specs.declared.protocol.Stage.TheVariants.{Live, Lost, Closing, Over}
use Rattle.hw_net.specs.declared.response_state.Expected.{Expected}
use Rattle.hw_net.specs.Door.{new_lane}
use Rattle.hw_net.specs.HttpState.{HttpStateView}
use Rattle.hw_net.specs.Lane.{Lane, waits, frames_of, accepted_socket, is_live, owes, is_overdue, refusal_of, after_end, after_reply, protocol_after_shut, protocol_after_reply, protocol_after_upgrade, new_socket, rest_of, says_continue, protocol_after_continue, out_after_continue, after_hearing}
use Rattle.hw_net.specs.Saying.{Writes, WritesOut, DropsOrWrites, SpeaksAs, Says, SaysAt, SaysMore, GathersOrSays, must_end, has_closed_long, is_too_much}
use Rattle.hw_net.specs.Sessions as session
use Rattle.hw_net.specs.Sessions.{Call, Session, answers_in, answers_of, refusal_on, replies_on, continue_of, AreTextsOf, WroteReplies, RepliesAreWritten}
use Rattle.hw_net.specs.ResponseState.{ResponseStateView}
use Rattle.hw_net.specs.WebSocketState.{WebSocketState, Gets}
use Rattle.hw_net.specs.Trace.{Reads, Gives, Chooses, bytes_of}
use Rattle.hw_net.specs.Turn.{Hears, Falls, Passes, Settles, Loses, LosesAt, TurnsLive, TurnsAt, Listens, Replies, Puts, PutsAt, Sends, Shuts}
use Rattle.hw_net.proofs.Appends.{Grows, grows-none, grows-on, takes-grows, feeds-grows, shut-grows, says-grows}
use Rattle.hw_net.proofs.Ends.{dead}
use Rattle.hw_net.proofs.Bystanders.{SaysOrStays, Stays, gathered-says}
use Rattle.hw_net.proofs.Fullness.{by-fullness, SaysPut}
use Rattle.hw_net.proofs.Moves.{ActsAt, has-of}
use Rattle.hw_net.proofs.Numbering.{replied-wire, put-wire}
use Rattle.hw_net.proofs.Owed.{IsOwed, step-owed, new-owed, by-number, replies_by, replies-more}
use Rattle.hw_net.proofs.Owning.{settles-keeps}
use Rattle.hw_net.proofs.Shares.{share, written-append, written-share, same, equal}
use Rattle.hw_net.proofs.Walks.{IsHeard, Heeds, Moves, moves-wire, IsUntouched, each-lane, unrefused}

wrote : (at wire : ℕ) (bytes more : List ℕ) → at ≡ wire → (if at == wire then bytes ++ more else more) ≡ bytes ++ more
wrote at wire bytes more e = ap (λ n. if n == wire then bytes ++ more else more) e ∙ ap (λ b. if b then bytes ++ more else more) (same wire)

pub writes-front : (wire : ℕ) (waits : List ℕ) (sent : List Answer) (left : List ℕ) (whole : Bool) → Writes wire waits sent left whole → written_on wire sent ++ left ≡ waits
writes-front wire waits [] left whole h = h.1 ∙ sym h.0
writes-front wire waits (bytes_out at [] ∷ []) left whole h = ap (λ l. l ++ left) (wrote at wire [] [] h.0) ∙ h.2
writes-front wire waits (bytes_out at (b ∷ bs) ∷ answers) left whole h =
    ap (λ l. l ++ left) (wrote at wire (b ∷ bs) (written_on wire answers) h.0) ∙ append_assoc (b ∷ bs) (written_on wire answers) left
    ∙ ap (λ l. (b ∷ bs) ++ l) (writes-front wire h.1.0 answers left whole h.1.2) ∙ sym h.1.1
writes-front wire waits (write_failed at ∷ []) left whole h = h.2
writes-front wire waits _ left whole h = absurd h

-- one reply more, before which a 100 may stand
pub texts-more : (continued : Bool) (replies : List Reply) (reply : Reply) (texts : List ℕ) → AreTextsOf replies texts → AreTextsOf (replies ++ reply ∷ []) (texts ++ (continue_of continued ++ reply_text reply))
texts-more continued [] reply texts h = (
  continued,
  [],
  ap (λ l. l ++ (continue_of continued ++ reply_text reply)) h ∙ ap (λ l. continue_of continued ++ l) (sym (append-nil (reply_text reply))),
  refl,
)
texts-more continued (first ∷ replies) reply texts h =
    let more = continue_of continued ++ reply_text reply in (
      h.0,
      h.1 ++ more,
      ap (λ l. l ++ more) h.2 ∙ append_assoc (continue_of h.0) (reply_text first ++ h.1) more ∙ ap (λ l. continue_of h.0 ++ l) (append_assoc (reply_text first) h.1 more),
      texts-more continued replies reply h.1 h.3,
    )

-- a reply stands behind what waits of a lane of requests
pub reply-said : (written out texts : List ℕ) (continued : Bool) (reply : Reply) → written ++ (out ++ []) ≡ texts ++ continue_of continued →
    written ++ ((out ++ reply_text reply) ++ []) ≡ (texts ++ (continue_of continued ++ reply_text reply)) ++ []
reply-said written out texts continued reply h =
    ap (λ l. written ++ l) (append-nil (out ++ reply_text reply)) ∙ sym (append_assoc written out (reply_text reply))
    ∙ ap (λ l. l ++ reply_text reply) (ap (λ l. written ++ l) (sym (append-nil out)) ∙ h) ∙ append_assoc texts (continue_of continued) (reply_text reply)
    ∙ sym (append-nil (texts ++ (continue_of continued ++ reply_text reply)))

-- the 100 that was to be said was
abbrev noted : HttpStateView → HttpStateView
noted http_state = record http_state { awaits_continue = false; continued = http_state.awaits_continue || http_state.continued }

reads-unwritten : (at wire room : ℕ) (answer : Answer) (got : Option (List ℕ)) → Reads wire room answer got → written_on at (answer ∷ []) ≡ []
reads-unwritten at wire room (bytes_in to bytes) (Some piece) h = refl
reads-unwritten at wire room (not_yet to) (Some piece) h = refl
reads-unwritten at wire room (ended to) None h = refl
reads-unwritten at wire room (read_failed to) None h = refl
reads-unwritten at wire room _ _ h = absurd h

gives-unwritten : (at wire room : ℕ) (answers : List Answer) (got : Option (List ℕ)) → Gives wire room answers got → written_on at answers ≡ []
gives-unwritten at wire room [] got h = refl
gives-unwritten at wire room (answer ∷ []) got h = reads-unwritten at wire room answer got h.1
gives-unwritten at wire room (answer ∷ next ∷ more) got h = absurd h

pub hears-unwritten : (at wire : ℕ) (before after : Protocol) (answers : List Answer) (what : Input) → Hears wire before after answers what → written_on at answers ≡ []
hears-unwritten at wire (Http before) (Http after) answers what h = gives-unwritten at wire _ answers h.got h.read
hears-unwritten at wire (Response before) (Response after) answers what h = gives-unwritten at wire _ answers h.got h.read
hears-unwritten at wire (Socket before) (Socket after) answers what h = gives-unwritten at wire _ answers h.got h.read
hears-unwritten at wire _ _ answers what h = absurd h

pub settles-unwritten : (at now : ℕ) (before after : Lane) (answers : List Answer) (what : Input) (heard : Option Event) → Settles now before after answers what heard → written_on at answers ≡ []
settles-unwritten at now before after answers input.Nothing heard h = go (is_overdue now before) h where
  go : (b : Bool) → Chooses b (Falls before after answers heard) (Passes before after answers None heard) → written_on at answers ≡ []
  go true h = ap (λ l. written_on at l) h.0
  go false h = ap (λ l. written_on at l) h.0
settles-unwritten at now before after answers (input.Request request) heard h = ap (λ l. written_on at l) h.0
settles-unwritten at now before after answers (input.Refused refusal) heard h = ap (λ l. written_on at l) h.0
settles-unwritten at now before after answers (input.Response status body) heard h = ap (λ l. written_on at l) h.0
settles-unwritten at now before after answers input.Upgraded heard h = ap (λ l. written_on at l) h.0
settles-unwritten at now before after answers (input.Message bytes) heard h = ap (λ l. written_on at l) h.0
settles-unwritten at now before after answers input.Broken heard h = ap (λ l. written_on at l) h.0
settles-unwritten at now before after answers input.Gone heard h = ap (λ l. written_on at l) h.0

-- the door's own reply to the input
abbrev pub refusals_of : Input → List Reply
refusals_of (input.Refused refusal) = refusal_of refusal ∷ []
refusals_of _ = []

gets-grow : (before after : socket.Lane) (got : Option (List ℕ)) (answer : SocketRead) → Gets before got answer after → Grows before.out.bytes after.out.bytes
gets-grow before after got answer h =
    grows-on before.out.bytes h.1.0.out.bytes after.out.bytes (grows-none before.out.bytes h.1.0.out.bytes (feeds-grows before (bytes_of got) h.1.0 h.1.1)) (takes-grows h.1.0 after answer h.1.2)

-- the door's own replies that are heard
abbrev pub refusals_in : ℕ → Option Event → List Reply
refusals_in wire None = []
refusals_in wire (Some trace) = refusal_on wire trace

pub settles-refusals : (now : ℕ) (before after : Lane) (answers : List Answer) (what : Input) (heard : Option Event) → Settles now before after answers what heard → refusals_in before.wire heard ≡ refusals_of what
settles-refusals now before after answers input.Nothing heard h = go (is_overdue now before) h where
  go : (b : Bool) → Chooses b (Falls before after answers heard) (Passes before after answers None heard) → refusals_in before.wire heard ≡ []
  go true h = ap (λ o. refusals_in before.wire o) h.1
  go false h = ap (λ o. refusals_in before.wire o) h.1
settles-refusals now before after answers (input.Request request) heard h = ap (λ o. refusals_in before.wire o) h.1
settles-refusals now before after answers (input.Refused refusal) heard h =
    ap (λ o. refusals_in before.wire o) h.1 ∙ ap (λ b. if b then refusal_of refusal ∷ [] else []) (same before.wire)
settles-refusals now before after answers (input.Response status body) heard h = ap (λ o. refusals_in before.wire o) h.1
settles-refusals now before after answers input.Upgraded heard h = ap (λ o. refusals_in before.wire o) h.1
settles-refusals now before after answers (input.Message bytes) heard h = ap (λ o. refusals_in before.wire o) h.1
settles-refusals now before after answers input.Broken heard h = ap (λ o. refusals_in before.wire o) h.1
settles-refusals now before after answers input.Gone heard h = ap (λ o. refusals_in before.wire o) h.1

pub loses-refusals : (wire : ℕ) (trace : Option Event) (before after : Lane) (heard : Option Event) → Loses trace before after heard → refusals_in wire heard ≡ refusals_in wire trace
loses-refusals wire (Some here) before after heard h = ap (λ o. refusals_in wire o) h.0
loses-refusals wire None before after heard h = go before.stage h where
  go : (s : Stage) → LosesAt s before after heard → refusals_in wire heard ≡ []
  go Live h = ap (λ o. refusals_in wire o) h.0
  go Lost h = ap (λ o. refusals_in wire o) h.0
  go Closing h = ap (λ o. refusals_in wire o) h.0
  go Over h = ap (λ o. refusals_in wire o) h.0

pub live-written : (wire : ℕ) (answers read shut written : List Answer) → answers ≡ read ++ (shut ++ written) → written_on wire read ≡ [] → written_on wire shut ≡ [] → written_on wire answers ≡ written_on wire written
live-written wire answers read shut written all e f =
    ap (λ l. written_on wire l) all ∙ written-append wire read (shut ++ written) ∙ ap (λ l. l ++ written_on wire (shut ++ written)) e
    ∙ written-append wire shut written ∙ ap (λ l. l ++ written_on wire written) f

pub heard-refusals : (wire : ℕ) (own : Option Event) (what : Event) → IsHeard wire own what → refusal_on wire what ≡ refusals_in wire own
heard-refusals wire None what h = unrefused wire what h
heard-refusals wire (Some trace) what h = ap (λ v. refusal_on wire v) h

-- what opens a lane that became a WebSocket: the texts of replies, of which the last is the upgrade; or of an ask
abbrev pub Opens : Option (List ℕ) → List Reply → List ℕ → Type 0
Opens None replies texts = (first : List Reply) × (upgrade : Reply) × (replies ≡ first ++ upgrade ∷ []) × (upgrade.status ≡ SWITCHING) × AreTextsOf replies texts
Opens (Some ask) replies texts = texts ≡ ask

-- what a lane says whose wire was dialed for this ask, or came
module _ (ask : Option (List ℕ)) where
  -- these bytes are the texts of the replies and of 100s before them, and then one 100 more or frames; or they are the ask, and then frames
  abbrev pub Voiced : List ℕ → List Reply → Protocol → Type 0
  Voiced all replies (Http http_state) =
      (texts : List ℕ) × (continued : Bool) × AreTextsOf replies texts × (continued ≡ true → http_state.continued ≡ true) × (all ≡ texts ++ continue_of continued)
      × (ask ≡ None)
  Voiced all replies (Response response_state) = ask ≡ Some all
  Voiced all replies (Socket websocket_state) = (texts : List ℕ) × (frames : List ℕ) × Opens ask replies texts × (all ≡ texts ++ frames)

  -- so it is of what was written and what waits
  abbrev pub IsVoiced : List ℕ → List Reply → Lane → Type 0
  IsVoiced written replies lane = Voiced (written ++ waits lane) replies lane.protocol

  -- ---- writing

  speaks-voiced : (before after : Protocol) (all : List ℕ) (replies : List Reply) → SpeaksAs before after → Voiced all replies before → Voiced all replies after
  speaks-voiced (Http before) (Http after) all replies e h = subst (λ (a : HttpStateView). Voiced all replies (Http a)) (sym e) h
  speaks-voiced (Response before) (Response after) all replies e h = h
  speaks-voiced (Socket before) (Socket after) all replies e h = h
  speaks-voiced _ _ all replies e h = absurd e

  -- what was written is the front of what waited, and nothing more is said
  abbrev pub Pours : Lane → Lane → List Answer → Type 0
  Pours before after answers = (written : List ℕ) (replies : List Reply) → IsVoiced written replies before → IsVoiced (written ++ written_on before.wire answers) replies after

  poured : (before after : Lane) (answers : List Answer) → written_on before.wire answers ++ waits after ≡ waits before →
      ((all : List ℕ) (replies : List Reply) → Voiced all replies before.protocol → Voiced all replies after.protocol) → Pours before after answers
  poured before after answers e f written replies h =
      f ((written ++ written_on before.wire answers) ++ waits after) replies
      (subst (λ (l : List ℕ). Voiced l replies before.protocol) (sym (append_assoc written (written_on before.wire answers) (waits after) ∙ ap (λ l. written ++ l) e)) h)

  writes-pour : (before after : Lane) (answers : List Answer) → WritesOut before after answers → Pours before after answers
  writes-pour before after answers w =
      poured before after answers (go (must_end before.stage (length (waits after)) w.is_whole) refl) (λ all replies. speaks-voiced before.protocol after.protocol all replies w.still.protocol) where
        front : written_on before.wire w.sent ++ waits after ≡ waits before
        front = writes-front before.wire (waits before) w.sent (waits after) w.is_whole w.writes

        go : (b : Bool) → must_end before.stage (length (waits after)) w.is_whole ≡ b → written_on before.wire answers ++ waits after ≡ waits before
        go true e = ap (λ l. written_on before.wire l ++ waits after) (w.ends e).0
            ∙ ap (λ l. l ++ waits after) (written-append before.wire w.sent (was_shut before.wire ∷ []) ∙ append-nil (written_on before.wire w.sent)) ∙ front
        go false e = ap (λ l. written_on before.wire l ++ waits after) (w.stays e).0 ∙ front

  still-pours : (before after : Lane) (answers : List Answer) → written_on before.wire answers ≡ [] → waits after ≡ waits before → after.protocol ≡ before.protocol → Pours before after answers
  still-pours before after answers e f g =
      poured before after answers (ap (λ l. l ++ waits after) e ∙ f) (λ all replies h. subst (λ (t : Protocol). Voiced all replies t) (sym g) h)

  same-pours : (before after : Lane) (answers : List Answer) → answers ≡ [] → after ≡ before → Pours before after answers
  same-pours before after answers e f = still-pours before after answers (ap (λ l. written_on before.wire l) e) (ap waits f) (ap (λ (l : Lane). l.protocol) f)

  dropped-or-pour : (is_dropped : Bool) (before after : Lane) (answers : List Answer) → DropsOrWrites is_dropped before after answers → Pours before after answers
  dropped-or-pour true before after answers h = still-pours before after answers (ap (λ l. written_on before.wire l) h.0) (ap waits h.1) (ap (λ (l : Lane). l.protocol) h.1)
  dropped-or-pour false before after answers h = writes-pour before after answers h

  says-pour : (now : ℕ) (before after : Lane) (answers : List Answer) → Says now before after answers → Pours before after answers
  says-pour now before after answers h = go before.stage h where
    go : (s : Stage) → SaysAt s now before after answers → Pours before after answers
    go Live h = writes-pour before after answers h
    go Lost h = same-pours before after answers h.0 h.1
    go Closing h = dropped-or-pour (has_closed_long now before.since) before after answers h
    go Over h = same-pours before after answers h.0 h.1

  more-pour : (before after : Lane) (answers : List Answer) → SaysMore before after answers → Pours before after answers
  more-pour before after answers h = dropped-or-pour (is_too_much (length (waits before))) before after answers h

  pub bystander-pour : (now : ℕ) (before after : Lane) (answers : List Answer) → SaysOrStays now before after answers → Pours before after answers
  bystander-pour now before after answers (inl h) = says-pour now before after answers h
  bystander-pour now before after answers (inr h) = same-pours before after answers h.1 h.0

  gathered-pour : (before after : Lane) (answers : List Answer) → GathersOrSays before after answers → Pours before after answers
  gathered-pour before after answers h = go (gathered-says before after answers h) where
    go : SaysMore before after answers ⊎ Stays before after answers → Pours before after answers
    go (inl k) = more-pour before after answers k
    go (inr k) = same-pours before after answers k.1 k.0

  -- ---- frames and replies that are added

  -- a WebSocket's frames may grow
  frames-grow : (written out before after : List ℕ) (replies : List Reply) (old new : WebSocketState) → Grows before after → Voiced (written ++ (out ++ before)) replies (Socket old) →
      Voiced (written ++ (out ++ after)) replies (Socket new)
  frames-grow written out before after replies old new g h = (
    h.0,
    h.1 ++ g.0,
    h.2,
    ap (λ l. written ++ (out ++ l)) g.1 ∙ ap (λ l. written ++ l) (sym (append_assoc out before g.0)) ∙ sym (append_assoc written (out ++ before) g.0)
        ∙ ap (λ l. l ++ g.0) h.3 ∙ append_assoc h.0 h.1 g.0,
  )

  http-replied : (written out : List ℕ) (replies : List Reply) (reply : Reply) (before after : HttpStateView) → Voiced (written ++ (out ++ [])) replies (Http before) →
      Voiced (written ++ ((out ++ reply_text reply) ++ [])) (replies ++ reply ∷ []) (Http after)
  http-replied written out replies reply before after v = (
    v.0 ++ (continue_of v.1 ++ reply_text reply),
    false,
    texts-more v.1 replies reply v.0 v.2,
    λ e. absurd (cc e),
    reply-said written out v.0 v.1 reply v.4,
    v.5,
  )

  -- so does a 100, if none was said since the last reply
  http-continued : (written out : List ℕ) (replies : List Reply) (old new : HttpStateView) → new.continued ≡ old.continued → Voiced (written ++ (out ++ [])) replies (Http old) →
      Voiced (written ++ (out_after_continue (Http new) out ++ [])) replies (protocol_after_continue (Http new))
  http-continued written out replies old new e v = go (says_continue new) refl where
    one : (a b : Bool) → (a && not b) ≡ true → (a || b) ≡ true
    one true b f = refl
    one false b f = absurd (cc f)

    other : (a b : Bool) → b ≡ true → (a || b) ≡ true
    other true b f = refl
    other false b f = f

    both : (a b : Bool) → (a && not b) ≡ true → b ≡ false
    both true true f = absurd (cc f)
    both true false f = refl
    both false b f = absurd (cc f)

    unsaid : (continued : Bool) → (continued ≡ true → old.continued ≡ true) → new.continued ≡ false → continued ≡ false
    unsaid true f g = absurd (cc (sym (e ∙ f refl) ∙ g))
    unsaid false f g = refl

    go : (b : Bool) → says_continue new ≡ b → Voiced (written ++ ((if b then out ++ continue_text else out) ++ [])) replies (protocol_after_continue (Http new))
    go true f =
        let none : v.1 ≡ false = unsaid v.1 v.3 (both new.awaits_continue new.continued f) in
        let plain : written ++ (out ++ []) ≡ v.0 = v.4 ∙ ap (λ c. v.0 ++ continue_of c) none ∙ append-nil v.0 in (
          v.0,
          true,
          v.2,
          λ _. one new.awaits_continue new.continued f,
          ap (λ l. written ++ l) (append-nil (out ++ continue_text)) ∙ sym (append_assoc written out continue_text) ∙ ap (λ l. l ++ continue_text) (ap (λ l. written ++ l) (sym (append-nil out)) ∙ plain),
          v.5,
        )
    go false f = (v.0, v.1, v.2, λ c. other new.awaits_continue new.continued (e ∙ v.3 c), v.4, v.5)

  -- ---- hearing

  -- a lane whose upgrade was accepted has no frames yet
  upgraded : (written out : List ℕ) (replies : List Reply) (upgrade : Option Expected) (response_state : ResponseStateView) → Voiced (written ++ (out ++ [])) replies (Response response_state) →
      Voiced (written ++ (out ++ frames_of (accepted_socket upgrade response_state))) replies (accepted_socket upgrade response_state)
  upgraded written out replies None response_state v = v
  upgraded written out replies (Some expected) response_state v =
      (written ++ (out ++ []), [], subst (λ (o : Option (List ℕ)). Opens o replies (written ++ (out ++ []))) (sym v) refl, sym (append-nil (written ++ (out ++ []))))

  -- from a lane to one whose stage alone may be another
  becomes : (written : List ℕ) (replies : List Reply) (settled mid : Lane) → settled ≡ mid → IsVoiced written replies mid → IsVoiced written replies settled
  becomes written replies settled mid e h = subst (λ (l : Lane). IsVoiced written replies l) (sym e) h

  settles-voiced : (now : ℕ) (x : Lane) (protocol : Protocol) (after : Lane) (read answers : List Answer) (what : Input) (heard : Option Event) (written : List ℕ) (replies : List Reply) → Hears x.wire x.protocol protocol read what →
      Settles now (after_hearing protocol x) after answers what heard → IsVoiced written replies x → IsVoiced written (replies ++ refusals_of what) after
  settles-voiced now x protocol after read answers what heard written replies h s k = go x.protocol protocol what h s k where
    none : (l : Lane) → IsVoiced written replies l → IsVoiced written (replies ++ []) l
    none l v = subst (λ (r : List Reply). IsVoiced written r l) (sym (append-nil replies)) v

    nothing : (protocol : Protocol) → IsVoiced written replies (after_hearing protocol x) → (b : Bool) → Chooses b (Falls (after_hearing protocol x) after answers heard) (Passes (after_hearing protocol x) after answers None heard) →
        IsVoiced written replies after
    nothing protocol v true f = becomes written replies after (record (after_hearing protocol x) { stage = Over }) f.2 v
    nothing protocol v false f = becomes written replies after (after_hearing protocol x) f.2 v

    continued : (old new : HttpStateView) → new.continued ≡ old.continued → Voiced (written ++ (x.out ++ [])) replies (Http old) → IsVoiced written replies (after_hearing (Http new) x)
    continued old new e v = http-continued written x.out replies old new e v

    grown : (old new : WebSocketState) → Grows old.lane.out.bytes new.lane.out.bytes → Voiced (written ++ (x.out ++ old.lane.out.bytes)) replies (Socket old) → Voiced (written ++ (x.out ++ new.lane.out.bytes)) replies (Socket new)
    grown old new g v = frames-grow written x.out old.lane.out.bytes new.lane.out.bytes replies old new g v

    go : (old new : Protocol) (what : Input) → Hears x.wire old new read what → Settles now (after_hearing new x) after answers what heard → Voiced (written ++ (x.out ++ frames_of old)) replies old →
        IsVoiced written (replies ++ refusals_of what) after
    go (Http old) (Http new) input.Nothing h s v = none after (nothing (Http new) (continued old new h.continued v) (is_overdue now (after_hearing (Http new) x)) s)
    go (Http old) (Http new) (input.Request request) h s v = none after (becomes written replies after (after_hearing (Http new) x) s.2 (continued old new h.continued v))
    go (Http old) (Http new) (input.Refused refusal) h s v =
        becomes written (replies ++ refusal_of refusal ∷ []) after
        (record (after_hearing (Http new) x) { since = now; out = out_after_continue (Http new) x.out ++ reply_text (refusal_of refusal); stage = Closing }) s.2
        (http-replied written (out_after_continue (Http new) x.out) replies (refusal_of refusal) (noted new) (noted new) (continued old new h.continued v))
    go (Http old) (Http new) (input.Message bytes) h s v = absurd h.is_input
    go (Http old) (Http new) (input.Response status body) h s v = absurd h.is_input
    go (Http old) (Http new) input.Upgraded h s v = absurd h.is_input
    go (Http old) (Http new) input.Broken h s v = none after (becomes written replies after (record (after_hearing (Http new) x) { stage = Over }) s.2 (continued old new h.continued v))
    go (Http old) (Http new) input.Gone h s v = absurd h.is_input
    go (Socket old) (Socket new) input.Nothing h s v =
        none after (nothing (Socket new) (grown old new (gets-grow old.lane new.lane h.got _ h.is_input.0) v) (is_overdue now (after_hearing (Socket new) x)) s)
    go (Socket old) (Socket new) (input.Request request) h s v = absurd h.is_input
    go (Socket old) (Socket new) (input.Refused refusal) h s v = absurd h.is_input
    go (Socket old) (Socket new) (input.Response status body) h s v = absurd h.is_input
    go (Socket old) (Socket new) input.Upgraded h s v = absurd h.is_input
    go (Socket old) (Socket new) (input.Message bytes) h s v =
        none after (becomes written replies after (record x { protocol = Socket new }) s.2 (grown old new (gets-grow old.lane new.lane h.got _ h.is_input.0) v))
    go (Socket old) (Socket new) input.Broken h s v =
        none after (becomes written replies after (record x { protocol = Socket new; stage = Over }) s.2
        (grown old new (grows-none old.lane.out.bytes new.lane.out.bytes (ap (λ (l : socket.Lane). l.out.bytes) h.is_input.1)) v))
    go (Socket old) (Socket new) input.Gone h s v =
        none after (becomes written replies after (record x { since = now; protocol = protocol_after_shut (Socket new); stage = Closing }) s.2
        (frames-grow written x.out old.lane.out.bytes (frames_of (protocol_after_shut (Socket new))) replies old old
        (grows-on old.lane.out.bytes new.lane.out.bytes (frames_of (protocol_after_shut (Socket new))) (gets-grow old.lane new.lane h.got _ h.is_input.0) (shut-grows new.lane)) v))
    go (Http old) (Socket new) what h s v = absurd h
    go (Socket old) (Http new) what h s v = absurd h
    go (Response old) (Response new) input.Nothing h s v = none after (nothing (Response new) v (is_overdue now (after_hearing (Response new) x)) s)
    go (Response old) (Response new) (input.Request request) h s v = absurd h.is_input
    go (Response old) (Response new) (input.Refused refusal) h s v = absurd h.is_input
    go (Response old) (Response new) (input.Message bytes) h s v = absurd h.is_input
    go (Response old) (Response new) (input.Response status body) h s v = none after (becomes written replies after (after_hearing (Response new) x) s.2 v)
    go (Response old) (Response new) input.Upgraded h s v =
        none after (becomes written replies after (record (after_hearing (Response new) x) { protocol = protocol_after_upgrade (Response new) }) s.2 (upgraded written x.out replies new.upgrade new v))
    go (Response old) (Response new) input.Broken h s v = none after (becomes written replies after (record (after_hearing (Response new) x) { stage = Over }) s.2 v)
    go (Response old) (Response new) input.Gone h s v = absurd h.is_input
    go (Response old) (Http new) what h s v = absurd h
    go (Response old) (Socket new) what h s v = absurd h
    go (Http old) (Response new) what h s v = absurd h
    go (Socket old) (Response new) what h s v = absurd h

  loses-voiced : (trace : Option Event) (before after : Lane) (heard : Option Event) (written : List ℕ) (replies : List Reply) → Loses trace before after heard → IsVoiced written replies before → IsVoiced written replies after
  loses-voiced (Some here) before after heard written replies h v = becomes written replies after before h.1 v
  loses-voiced None before after heard written replies h v = go before.stage h where
    go : (s : Stage) → LosesAt s before after heard → IsVoiced written replies after
    go Live h = becomes written replies after before h.1 v
    go Lost h = becomes written replies after (record before { stage = Over }) h.1 v
    go Closing h = becomes written replies after before h.1 v
    go Over h = becomes written replies after before h.1 v

  -- what a call says on a lane and writes there
  abbrev SaysIn : Lane → Lane → List Answer → List Reply → Type 0
  SaysIn x y mine more = (written : List ℕ) (replies : List Reply) → IsVoiced written replies x → IsVoiced (written ++ written_on x.wire mine) (replies ++ more) y

  pours-say : (x y : Lane) (mine : List Answer) (more : List Reply) → Pours x y mine → more ≡ [] → SaysIn x y mine more
  pours-say x y mine more p e written replies v =
      subst (λ (r : List Reply). IsVoiced (written ++ written_on x.wire mine) r y) (sym (ap (λ l. replies ++ l) e ∙ append-nil replies)) (p written replies v)

  live-says : (now : ℕ) (x y : Lane) (mine : List Answer) (own : Option Event) → TurnsLive now x y mine own → SaysIn x y mine (refusals_in x.wire own)
  live-says now x y mine own h written replies v =
      let mid = after_hearing h.protocol x in
      let w = x.wire in
      let kept = settles-keeps now mid h.settled h.shut h.input h.trace h.settles in
      let refused : refusals_in w own ≡ refusals_of h.input = loses-refusals w h.trace h.said y own h.loses ∙ settles-refusals now mid h.settled h.shut h.input h.trace h.settles in
      let wrote_is : written_on w mine ≡ written_on h.settled.wire h.written =
      live-written w mine h.read h.shut h.written h.all (hears-unwritten w w x.protocol h.protocol h.read h.input h.hears) (settles-unwritten w now mid h.settled h.shut h.input h.trace h.settles)
      ∙ ap (λ n. written_on n h.written) (sym kept.0.0) in
      let more = replies ++ refusals_of h.input in
      let settled = settles-voiced now x h.protocol h.settled h.read h.shut h.input h.trace written replies h.hears h.settles v in
      let said = says-pour now h.settled h.said h.written h.says written more settled in
      let lost = loses-voiced h.trace h.said y own (written ++ written_on h.settled.wire h.written) more h.loses said in
      subst (λ (l : List ℕ). IsVoiced (written ++ l) (replies ++ refusals_in w own) y) (sym wrote_is)
      (subst (λ (r : List Reply). IsVoiced (written ++ written_on h.settled.wire h.written) (replies ++ r) y) (sym refused) lost)

  passes-pour : (x mid y : Lane) (mine : List Answer) (trace heard : Option Event) → waits mid ≡ waits x → mid.protocol ≡ x.protocol → Passes mid y mine trace heard → Pours x y mine
  passes-pour x mid y mine trace heard e f h = still-pours x y mine (ap (λ l. written_on x.wire l) h.0) (ap waits h.2 ∙ e) (ap (λ (l : Lane). l.protocol) h.2 ∙ f)

  listens-say : (now : ℕ) (x y : Lane) (mine : List Answer) (own : Option Event) → Listens now x y mine own → SaysIn x y mine (refusals_in x.wire own)
  listens-say now x y mine own h = go x.stage h where
    go : (s : Stage) → TurnsAt s now x y mine own → SaysIn x y mine (refusals_in x.wire own)
    go Live h = by-fullness (λ (l : Lane). SaysIn x l mine (refusals_in x.wire own)) now x y mine own
        (λ d f s. pours-say x y mine (refusals_in x.wire own) (says-pour now (record x { full = None }) y mine s) (ap (λ o. refusals_in x.wire o) f))
        (λ s f. pours-say x y mine (refusals_in x.wire own) (still-pours x y mine (ap (λ l. written_on x.wire l) f.0) (ap waits f.2) (ap (λ (l : Lane). l.protocol) f.2)) (ap (λ o. refusals_in x.wire o) f.1))
        (λ mid t. live-says now x mid mine own t)
        h
    go Lost h = pours-say x y mine (refusals_in x.wire own) (passes-pour x (record x { stage = Over }) y mine _ own refl refl h) (ap (λ o. refusals_in x.wire o) h.1)
    go Closing h = pours-say x y mine (refusals_in x.wire own) (says-pour now x y mine h.1) (ap (λ o. refusals_in x.wire o) h.0)
    go Over h = pours-say x y mine (refusals_in x.wire own) (passes-pour x x y mine _ own refl refl h) (ap (λ o. refusals_in x.wire o) h.1)

  heeds-say : (now : ℕ) (what : Event) (x y : Lane) (mine : List Answer) → Heeds now what x y mine → SaysIn x y mine (refusal_on x.wire what)
  heeds-say now what x y mine (inl h) = subst (λ (l : List Reply). SaysIn x y mine l) (sym (heard-refusals x.wire h.0 what h.2)) (listens-say now x y mine h.0 h.1)
  heeds-say now what x y mine (inr h) = pours-say x y mine (refusal_on x.wire what) (bystander-pour now x y mine h.0) (unrefused x.wire what h.1)

  -- ---- saying

  -- a lane that owes a reply says it
  reply-voiced : (now : ℕ) (reply : Reply) (x : Lane) (written : List ℕ) (replies : List Reply) → owes x ≡ true → IsVoiced written replies x → IsVoiced written (replies ++ reply ∷ []) (after_reply now reply x)
  reply-voiced now reply x written replies owed v = go x.protocol refl owed v where
    http : (http_state : HttpStateView) → x.protocol ≡ Http http_state → Voiced (written ++ (x.out ++ [])) replies (Http http_state) → (b : Bool) → (reply.status == SWITCHING) ≡ b →
        IsVoiced written (replies ++ reply ∷ []) (if b then record x { protocol = new_socket (rest_of x.protocol); out = x.out ++ reply_text reply }
        else record x { protocol = protocol_after_reply x.protocol; out = x.out ++ reply_text reply; since = now })
    http http_state e v true f =
        let texts = v.0 ++ (continue_of v.1 ++ reply_text reply) in (
          texts,
          [],
          subst (λ (o : Option (List ℕ)). Opens o (replies ++ reply ∷ []) texts) (sym v.5) (replies, reply, refl, equal reply.status SWITCHING f, texts-more v.1 replies reply v.0 v.2),
          reply-said written x.out v.0 v.1 reply v.4,
        )
    http http_state e v false f =
        subst (λ (t : Protocol). IsVoiced written (replies ++ reply ∷ []) (record x { protocol = protocol_after_reply t; out = x.out ++ reply_text reply; since = now })) (sym e)
        (http-replied written x.out replies reply http_state (record http_state { lane = record http_state.lane { ended = false }; busy = false; continued = false }) v)

    go : (protocol : Protocol) → x.protocol ≡ protocol → (is_live x.stage && Rattle.hw_net.specs.Lane.is_busy protocol) ≡ true → Voiced (written ++ (x.out ++ frames_of protocol)) replies protocol → IsVoiced written (replies ++ reply ∷ []) (after_reply now reply x)
    go (Http http_state) e owed v = http http_state e v (reply.status == SWITCHING) refl
    go (Response response_state) e owed v = absurd (cc (sym (dead x.stage) ∙ owed))
    go (Socket websocket_state) e owed v = absurd (cc (sym (dead x.stage) ∙ owed))

  replies-say : (now : ℕ) (reply : Reply) (x y : Lane) (mine : List Answer) → Replies now reply x y mine → SaysIn x y mine (if owes x then reply ∷ [] else [])
  replies-say now reply x y mine h = go (owes x) refl h where
    go : (b : Bool) → owes x ≡ b → Chooses b (SaysMore (after_reply now reply x) y mine) ((mine ≡ []) × (y ≡ x)) → SaysIn x y mine (if b then reply ∷ [] else [])
    go true e h = λ written replies v.
        subst (λ n. IsVoiced (written ++ written_on n mine) (replies ++ reply ∷ []) y) (replied-wire now reply x)
        (more-pour (after_reply now reply x) y mine h written (replies ++ reply ∷ []) (reply-voiced now reply x written replies e v))
    go false e h = pours-say x y mine [] (same-pours x y mine h.0 h.1) refl

  put-voiced : (live : Bool) (protocol : Protocol) (bytes : List ℕ) (text : Bool) (x mid : Lane) (is_put : Bool) → x.protocol ≡ protocol → PutsAt live protocol bytes text x mid is_put →
      (written : List ℕ) (replies : List Reply) → IsVoiced written replies x → IsVoiced written replies mid
  put-voiced true (Socket websocket_state) bytes text x mid is_put e h written replies v =
      becomes written replies mid _ h.2 (frames-grow written x.out websocket_state.lane.out.bytes h.0.out.bytes replies websocket_state websocket_state (says-grows websocket_state.lane h.0 bytes text is_put h.1)
      (subst (λ (t : Protocol). Voiced (written ++ (x.out ++ frames_of t)) replies t) e v))
  put-voiced true (Http http_state) bytes text x mid is_put e h written replies v = becomes written replies mid x h.1 v
  put-voiced true (Response response_state) bytes text x mid is_put e h written replies v = becomes written replies mid x h.1 v
  put-voiced false protocol bytes text x mid is_put e h written replies v = becomes written replies mid x h.1 v

  sends-pour : (now : ℕ) (bytes : List ℕ) (text : Bool) (x y : Lane) (mine : List Answer) → Sends now bytes text x y mine → Pours x y mine
  sends-pour now bytes text x y mine h written replies v = go h.0 h.1 h.2 h.3 where
    go : (mid : Lane) (b : Bool) → Puts bytes text x mid b → SaysPut now b mid y mine → IsVoiced (written ++ written_on x.wire mine) replies y
    go mid b p s =
        let put = put-voiced (is_live x.stage) x.protocol bytes text x mid b refl p written replies v in
        subst (λ n. IsVoiced (written ++ written_on n mine) replies y) (put-wire (is_live x.stage) x.protocol bytes text x mid b p) (rest b s put) where
          rest : (b : Bool) → SaysPut now b mid y mine → IsVoiced written replies mid → IsVoiced (written ++ written_on mid.wire mine) replies y
          rest true s put = subst (λ (l : Lane). IsVoiced (written ++ written_on mid.wire mine) replies l) (sym s.2) (gathered-pour mid s.0 mine s.1 written replies put)
          rest false s put = same-pours mid y mine s.0 s.1 written replies put

  shut-voiced : (protocol : Protocol) (written out : List ℕ) (replies : List Reply) → Voiced (written ++ (out ++ frames_of protocol)) replies protocol → Voiced (written ++ (out ++ frames_of (protocol_after_shut protocol))) replies (protocol_after_shut protocol)
  shut-voiced (Http http_state) written out replies v = v
  shut-voiced (Response response_state) written out replies v = v
  shut-voiced (Socket websocket_state) written out replies v = frames-grow written out websocket_state.lane.out.bytes (frames_of (protocol_after_shut (Socket websocket_state))) replies websocket_state websocket_state (shut-grows websocket_state.lane) v

  shuts-pour : (now : ℕ) (x y : Lane) (mine : List Answer) → Shuts now x y mine → Pours x y mine
  shuts-pour now x y mine h = go (is_live x.stage) h where
    go : (b : Bool) → Chooses b (WritesOut (record x { since = now; protocol = protocol_after_shut x.protocol; stage = Closing }) y mine) ((mine ≡ []) × (y ≡ x)) → Pours x y mine
    go true h = λ written replies v. writes-pour (record x { since = now; protocol = protocol_after_shut x.protocol; stage = Closing }) y mine h written replies (shut-voiced x.protocol written x.out replies v)
    go false h = same-pours x y mine h.0 h.1

  by-wire : (wire : ℕ) (x y : Lane) (mine : List Answer) (reply : Reply) (now : ℕ) → ActsAt wire (Replies now reply) x y mine → SaysIn x y mine (if (wire == x.wire) && owes x then reply ∷ [] else [])
  by-wire wire x y mine reply now h =
      by-number wire (Replies now reply) x y mine (λ b. SaysIn x y mine (if b && owes x then reply ∷ [] else []))
      (replies-say now reply x y mine) (λ e f. pours-say x y mine [] (same-pours x y mine f e) refl) h

  pub moves-say : (call : Call) (x y : Lane) → Moves call x y → SaysIn x y (share x.wire (answers_in call)) (replies_by x.wire (owes x) call)
  moves-say (session.heard what answers) x y h = heeds-say what.now what.event x y (share x.wire answers) h
  moves-say (session.replied at reply answers) x y h = by-wire at x y (share x.wire answers) reply h.0 h.1
  moves-say (session.sent at bytes text full answers) x y h =
      by-number at (Sends h.0 bytes text) x y (share x.wire answers) (λ b. SaysIn x y (share x.wire answers) [])
      (λ s. pours-say x y (share x.wire answers) [] (sends-pour h.0 bytes text x y (share x.wire answers) s) refl) (λ e f. pours-say x y (share x.wire answers) [] (same-pours x y (share x.wire answers) f e) refl) h.1
  moves-say (session.shut at answers) x y h =
      by-number at (Shuts h.0) x y (share x.wire answers) (λ b. SaysIn x y (share x.wire answers) [])
      (λ s. pours-say x y (share x.wire answers) [] (shuts-pour h.0 x y (share x.wire answers) s) refl) (λ e f. pours-say x y (share x.wire answers) [] (same-pours x y (share x.wire answers) f e) refl) h.1
  moves-say (session.wrote at answers) x y h = pours-say x y (share x.wire answers) [] (bystander-pour 0 x y (share x.wire answers) h) refl

-- ---- sessions

pub written-more : (wire : ℕ) (calls : List Call) (call : Call) → written_on wire (answers_of (call ∷ calls)) ≡ written_on wire (answers_of calls) ++ written_on wire (share wire (answers_in call))
written-more wire calls call = written-append wire (answers_of calls) (answers_in call) ∙ ap (λ l. written_on wire (answers_of calls) ++ l) (written-share wire (answers_in call))

-- what was said on a lane was written or waits, and the calls tell whether a reply is owed
abbrev pub HasSaid : List Call → Lane → Type 0
HasSaid calls lane = IsOwed calls lane × IsVoiced None (written_on lane.wire (answers_of calls)) (replies_on lane.wire calls) lane

pub step-said : (call : Call) (calls : List Call) (x y : Lane) → HasSaid calls x → Moves call x y → HasSaid (call ∷ calls) y
step-said call calls x y k h = (
  step-owed call calls x y k.0 h,
  subst (λ n. IsVoiced None (written_on n (answers_of (call ∷ calls))) (replies_on n (call ∷ calls)) y) (sym (moves-wire call x y h))
      (subst (λ (l : List ℕ). IsVoiced None l (replies_on x.wire (call ∷ calls)) y) (sym (written-more x.wire calls call))
      (subst (λ (r : List Reply). IsVoiced None (written_on x.wire (answers_of calls) ++ written_on x.wire (share x.wire (answers_in call))) r y) (sym (replies-more call calls x k.0))
      (moves-say None call x y h (written_on x.wire (answers_of calls)) (replies_on x.wire calls) k.1))),
)

pub new-said : (calls : List Call) (now wire : ℕ) → IsUntouched wire calls → HasSaid calls (new_lane now wire)
new-said calls now wire h = (
  new-owed calls now wire h,
  (
    [],
    false,
    subst (λ (r : List Reply). AreTextsOf r []) (sym h.replies) refl,
    λ e. absurd (cc e),
    append-nil (written_on wire (answers_of calls)) ∙ written-share wire (answers_of calls) ∙ ap (λ l. written_on wire l) h.answers,
    refl,
  ),
)

wrote-of : (calls : List Call) (lane : Lane) (protocol : Protocol) → Voiced None (written_on lane.wire (answers_of calls) ++ waits lane) (replies_on lane.wire calls) protocol → WroteReplies calls lane protocol
wrote-of calls lane (Http http_state) h = (h.0, h.1, h.2, h.3, h.4)
wrote-of calls lane (Response response_state) h = absurd (cc h)
wrote-of calls lane (Socket websocket_state) h = (h.2.0, h.2.1, h.0, h.1, h.2.2, h.2.3, h.2.4, h.3)

pub replies-are-written : RepliesAreWritten
replies-are-written calls bound now h lane has =
    wrote-of calls lane lane.protocol (each-lane HasSaid new-said step-said calls bound now h lane (has-of now.lanes lane has)).1
