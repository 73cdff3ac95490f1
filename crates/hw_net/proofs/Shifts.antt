-- What a WebSocket does, it does whatever bytes it has to write: it appends the same.
use Rattle.std.proofs.Common.{◌≡◌, ◌++◌, ◌∷◌, [], ℕ, Bool, true, false, List, None, Some, refl, sym, ap, ◌∙◌, subst, inl, inr, append-nil, append_assoc, drop}
use Rattle.hw_socket.specs.declared.vocabulary.SocketRead.{SocketRead}
use Rattle.hw_socket.specs.declared.vocabulary.SocketRead.TheVariants.{Payload, NotYet, Gone}
use Rattle.hw_socket.specs.declared.vocabulary.Ending.TheVariants.{Answered, BadText}
use Rattle.hw_socket.specs.Calls.{Call, Feed, Read, FailedRead, Send, Drop, Shut, Does, Session, fed, heard, said, dropped}
use Rattle.hw_socket.specs.Closing.{after_close, status_of}
use Rattle.hw_socket.specs.Lane.{Lane}
use Rattle.hw_socket.specs.Masks.{Written, after_reply, with_mask, mask_of}
use Rattle.hw_socket.specs.Reading.{Passes, Steps, Takes, after_taking, after_refusal}
use Rattle.hw_socket.specs.Sending.{Says, after_shut}

-- the lane with these bytes to write
abbrev pub rewritten : List ℕ → Lane → Lane
rewritten bytes lane = record lane { out = record lane.out { bytes = bytes } }

-- the same happens to a lane with other bytes to write: it comes to this, and as many bytes are appended
abbrev pub Shifted : (Lane → Type 0) → List ℕ → Lane → Lane → Type 0
Shifted Comes bytes lane next =
    (to : Lane) × Comes to × (added : List ℕ) × (next ≡ rewritten (bytes ++ added) to) × (to.out.bytes ≡ lane.out.bytes ++ added)

reply-shift : (w : Written) (bytes : List ℕ) (reply : _) →
    (added : List ℕ) × (after_reply (record w { bytes = bytes }) reply ≡ record (after_reply w reply) { bytes = bytes ++ added }) × ((after_reply w reply).bytes ≡ w.bytes ++ added)
reply-shift w bytes None = ([], ap (λ (l : List ℕ). record w { bytes = l }) (sym (append-nil bytes)), sym (append-nil w.bytes))
reply-shift w bytes (Some frame) = (with_mask (mask_of w.side w.frames) frame, refl, refl)

close-shift : (w : Written) (bytes : List ℕ) (status : ℕ) (state : _) →
    (added : List ℕ) × (after_close (record w { bytes = bytes }) status state ≡ record (after_close w status state) { bytes = bytes ++ added }) × ((after_close w status state).bytes ≡ w.bytes ++ added)
close-shift w bytes status None = ([], ap (λ (l : List ℕ). record w { bytes = l }) (sym (append-nil bytes)), sym (append-nil w.bytes))
close-shift w bytes status (Some state) = (_, refl, refl)

taking-shift : (lane : Lane) (bytes : List ℕ) (p : _) →
    (added : List ℕ) × (after_taking (rewritten bytes lane) p ≡ rewritten (bytes ++ added) (after_taking lane p)) × ((after_taking lane p).out.bytes ≡ lane.out.bytes ++ added)
taking-shift lane bytes p =
    let r = reply-shift lane.out bytes p.1.reply in
    (r.0, ap (λ (w : Written). record lane { conn = p.1.next; unread = drop p.0 lane.unread; out = w }) r.1, r.2)

still-shift : (Comes : Lane → Type 0) (bytes : List ℕ) (lane to next : Lane) → Comes to → next ≡ rewritten bytes to → to.out.bytes ≡ lane.out.bytes → Shifted Comes bytes lane next
still-shift Comes bytes lane to next c e f = (to, c, [], e ∙ ap (λ l. rewritten l to) (sym (append-nil bytes)), f ∙ sym (append-nil lane.out.bytes))

passes-shift : (bytes : List ℕ) (lane : Lane) (ps : _) (next : Lane) → Passes (rewritten bytes lane) ps next → Shifted (λ to. Passes lane ps to) bytes lane next
passes-shift bytes lane [] next h = still-shift (λ to. Passes lane [] to) bytes lane lane next refl h refl
passes-shift bytes lane (p ∷ ps) next h =
    let t = taking-shift lane bytes p in
    let again = passes-shift (bytes ++ t.0) (after_taking lane p) ps next (subst (λ (l : Lane). Passes l ps next) t.1 h.2) in (
      again.0,
      (h.0, h.1, again.1),
      t.0 ++ again.2,
      again.3 ∙ ap (λ l. rewritten l again.0) (append_assoc bytes t.0 again.2),
      again.4 ∙ ap (λ l. l ++ again.2) t.2 ∙ append_assoc lane.out.bytes t.0 again.2,
    )

steps-shift : (bytes : List ℕ) (lane next : Lane) (answer : SocketRead) → Steps (rewritten bytes lane) next (Some answer) → Shifted (λ to. Steps lane to (Some answer)) bytes lane next
steps-shift bytes lane next (Payload payload) h =
    let t = taking-shift lane bytes h.0 in (after_taking lane h.0, (h.0, h.1, h.2, refl), t.0, h.3 ∙ t.1, t.2)
steps-shift bytes lane next NotYet h = still-shift (λ to. Steps lane to (Some NotYet)) bytes lane lane next (h.0, h.1, refl) h.2 refl
steps-shift bytes lane next Gone (inl h) =
    let t = taking-shift lane bytes h.0 in (
      record (after_taking lane h.0) { ending = Some Answered },
      inl (h.0, h.1, h.2, refl),
      t.0,
      h.3 ∙ ap (λ (l : Lane). record l { ending = Some Answered }) t.1,
      t.2,
    )
steps-shift bytes lane next Gone (inr h) =
    still-shift (λ to. Steps lane to (Some Gone)) bytes lane (after_refusal lane h.0) next (inr (h.0, h.1, refl)) h.2 refl

pub takes-shift : (bytes : List ℕ) (lane next : Lane) (answer : SocketRead) → Takes (rewritten bytes lane) next answer → Shifted (λ to. Takes lane to answer) bytes lane next
takes-shift bytes lane next answer (inl h) = still-shift (λ to. Takes lane to answer) bytes lane lane next (inl (h.0, refl, h.2)) h.1 refl
takes-shift bytes lane next answer (inr h) =
    let first = passes-shift bytes lane h.1.0 h.1.1 h.1.2 in
    let last = steps-shift (bytes ++ first.2) first.0 next answer (subst (λ (l : Lane). Steps l next (Some answer)) first.3 h.1.3) in (
      last.0,
      inr (h.0, (h.1.0, first.0, first.1, last.1)),
      first.2 ++ last.2,
      last.3 ∙ ap (λ l. rewritten l last.0) (append_assoc bytes first.2 last.2),
      last.4 ∙ ap (λ l. l ++ last.2) first.4 ∙ append_assoc lane.out.bytes first.2 last.2,
    )

pub says-shift : (bytes : List ℕ) (lane next : Lane) (message : List ℕ) (text answer : Bool) → Says (rewritten bytes lane) next message text answer → Shifted (λ to. Says lane to message text answer) bytes lane next
says-shift bytes lane next message text true h =
    let r = reply-shift lane.out bytes h.2.0.reply in (
      record lane { conn = h.2.0.next; out = after_reply lane.out h.2.0.reply },
      (h.0, h.1, (h.2.0, h.2.1, refl)),
      r.0,
      h.2.2 ∙ ap (λ (w : Written). record lane { conn = h.2.0.next; out = w }) r.1,
      r.2,
    )
says-shift bytes lane next message text false (inl h) = still-shift (λ to. Says lane to message text false) bytes lane lane next (inl (h.0, refl)) h.1 refl
says-shift bytes lane next message text false (inr h) =
    still-shift (λ to. Says lane to message text false) bytes lane (record lane { ending = Some BadText }) next (inr (h.0, h.1, h.2, refl)) h.3 refl

pub shut-shift : (bytes : List ℕ) (lane : Lane) → Shifted (λ to. to ≡ after_shut lane) bytes lane (after_shut (rewritten bytes lane))
shut-shift bytes lane =
    let r = close-shift lane.out bytes (status_of lane.ending) _ in
    (after_shut lane, refl, r.0, ap (λ (w : Written). record (after_shut lane) { out = w }) r.1, r.2)

-- ---- sessions, and one call more

pub session-more : (lane mid next : Lane) (calls : List Call) (call : Call) → Session lane calls mid → Does call mid next → Session lane (calls ++ call ∷ []) next
session-more lane mid next [] call h d = (next, subst (λ (l : Lane). Does call l next) h d, refl)
session-more lane mid next (one ∷ calls) call h d = (h.0, h.1, session-more h.0 mid next calls call h.2 d)

pub fed-more : (calls : List Call) (call : Call) → fed (calls ++ call ∷ []) ≡ fed calls ++ fed (call ∷ [])
fed-more [] call = refl
fed-more (Feed piece ∷ calls) call = ap (λ l. piece ++ l) (fed-more calls call) ∙ sym (append_assoc piece (fed calls) (fed (call ∷ [])))
fed-more (Read answer ∷ calls) call = fed-more calls call
fed-more (FailedRead ∷ calls) call = fed-more calls call
fed-more (Send message answer ∷ calls) call = fed-more calls call
fed-more (Drop piece ∷ calls) call = fed-more calls call
fed-more (Shut ∷ calls) call = fed-more calls call

pub heard-more : (calls : List Call) (call : Call) → heard (calls ++ call ∷ []) ≡ heard calls ++ heard (call ∷ [])
heard-more [] call = refl
heard-more (Feed piece ∷ calls) call = heard-more calls call
heard-more (Read (Payload bytes) ∷ calls) call = ap (λ l. bytes ∷ l) (heard-more calls call)
heard-more (Read NotYet ∷ calls) call = heard-more calls call
heard-more (Read Gone ∷ calls) call = heard-more calls call
heard-more (FailedRead ∷ calls) call = heard-more calls call
heard-more (Send message answer ∷ calls) call = heard-more calls call
heard-more (Drop piece ∷ calls) call = heard-more calls call
heard-more (Shut ∷ calls) call = heard-more calls call

pub said-more : (calls : List Call) (call : Call) → said (calls ++ call ∷ []) ≡ said calls ++ said (call ∷ [])
said-more [] call = refl
said-more (Feed piece ∷ calls) call = said-more calls call
said-more (Read answer ∷ calls) call = said-more calls call
said-more (FailedRead ∷ calls) call = said-more calls call
said-more (Send message true ∷ calls) call = ap (λ l. message ∷ l) (said-more calls call)
said-more (Send message false ∷ calls) call = said-more calls call
said-more (Drop piece ∷ calls) call = said-more calls call
said-more (Shut ∷ calls) call = said-more calls call

pub dropped-more : (calls : List Call) (call : Call) → dropped (calls ++ call ∷ []) ≡ dropped calls ++ dropped (call ∷ [])
dropped-more [] call = refl
dropped-more (Feed piece ∷ calls) call = dropped-more calls call
dropped-more (Read answer ∷ calls) call = dropped-more calls call
dropped-more (FailedRead ∷ calls) call = dropped-more calls call
dropped-more (Send message answer ∷ calls) call = dropped-more calls call
dropped-more (Drop piece ∷ calls) call = ap (λ l. piece ++ l) (dropped-more calls call) ∙ sym (append_assoc piece (dropped calls) (dropped (call ∷ [])))
dropped-more (Shut ∷ calls) call = dropped-more calls call
