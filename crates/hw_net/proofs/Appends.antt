-- What a WebSocket does only appends to the frames that it has to write.
use Rattle.std.proofs.Common.{◌≡◌, ◌++◌, ◌∷◌, [], ℕ, Bool, true, false, List, None, Some, refl, sym, ap, ◌∙◌, subst, inl, inr, append-nil, append_assoc}
use Rattle.hw_socket.specs.declared.vocabulary.SocketRead.{SocketRead}
use Rattle.hw_socket.specs.declared.vocabulary.SocketRead.TheVariants.{Payload, NotYet, Gone}
use Rattle.hw_socket.specs.Closing.{after_close, status_of}
use Rattle.hw_socket.specs.Lane.{Lane}
use Rattle.hw_socket.specs.Masks.{Written, after_reply, with_mask, mask_of}
use Rattle.hw_socket.specs.Reading.{Feeds, Passes, Steps, Takes, after_taking}
use Rattle.hw_socket.specs.Sending.{Says, after_shut}

-- these bytes stand in front of those, and more may follow
abbrev pub Grows : List ℕ → List ℕ → Type 0
Grows before after = (more : List ℕ) × (after ≡ before ++ more)

pub grows-none : (before after : List ℕ) → after ≡ before → Grows before after
grows-none before after e = ([], e ∙ sym (append-nil before))

pub grows-on : (a b c : List ℕ) → Grows a b → Grows b c → Grows a c
grows-on a b c h k = (h.0 ++ k.0, k.1 ∙ ap (λ l. l ++ k.0) h.1 ∙ append_assoc a h.0 k.0)

reply-grows : (w : Written) (reply : _) → Grows w.bytes (after_reply w reply).bytes
reply-grows w None = grows-none w.bytes w.bytes refl
reply-grows w (Some frame) = (with_mask (mask_of w.side w.frames) frame, refl)

close-grows : (w : Written) (status : ℕ) (state : _) → Grows w.bytes (after_close w status state).bytes
close-grows w status None = grows-none w.bytes w.bytes refl
close-grows w status (Some state) = (_, refl)

to-lane : (bytes : List ℕ) (a b : Lane) → b ≡ a → Grows bytes a.out.bytes → Grows bytes b.out.bytes
to-lane bytes a b e h = subst (λ (l : Lane). Grows bytes l.out.bytes) (sym e) h

passes-grows : (lane : Lane) (ps : _) (next : Lane) → Passes lane ps next → Grows lane.out.bytes next.out.bytes
passes-grows lane [] next h = to-lane lane.out.bytes lane next h (grows-none lane.out.bytes lane.out.bytes refl)
passes-grows lane (p ∷ ps) next h =
    grows-on lane.out.bytes (after_taking lane p).out.bytes next.out.bytes (reply-grows lane.out p.1.reply) (passes-grows (after_taking lane p) ps next h.2)

steps-grows : (lane next : Lane) (answer : SocketRead) → Steps lane next (Some answer) → Grows lane.out.bytes next.out.bytes
steps-grows lane next (Payload bytes) h = to-lane lane.out.bytes (after_taking lane h.0) next h.3 (reply-grows lane.out h.0.1.reply)
steps-grows lane next NotYet h = to-lane lane.out.bytes lane next h.2 (grows-none lane.out.bytes lane.out.bytes refl)
steps-grows lane next Gone (inl h) = to-lane lane.out.bytes _ next h.3 (reply-grows lane.out h.0.1.reply)
steps-grows lane next Gone (inr h) = to-lane lane.out.bytes _ next h.2 (grows-none lane.out.bytes lane.out.bytes refl)

pub takes-grows : (lane next : Lane) (answer : SocketRead) → Takes lane next answer → Grows lane.out.bytes next.out.bytes
takes-grows lane next answer (inl h) = to-lane lane.out.bytes lane next h.1 (grows-none lane.out.bytes lane.out.bytes refl)
takes-grows lane next answer (inr h) = grows-on lane.out.bytes h.1.1.out.bytes next.out.bytes (passes-grows lane h.1.0 h.1.1 h.1.2) (steps-grows h.1.1 next answer h.1.3)

pub feeds-grows : (lane : Lane) (piece : List ℕ) (next : Lane) → Feeds lane piece next → next.out.bytes ≡ lane.out.bytes
feeds-grows lane piece next h = ap (λ (l : Lane). l.out.bytes) h

pub shut-grows : (lane : Lane) → Grows lane.out.bytes (after_shut lane).out.bytes
shut-grows lane = close-grows lane.out (status_of lane.ending) _

pub says-grows : (lane next : Lane) (bytes : List ℕ) (text answer : Bool) → Says lane next bytes text answer → Grows lane.out.bytes next.out.bytes
says-grows lane next bytes text true h = to-lane lane.out.bytes _ next h.2.2 (reply-grows lane.out h.2.0.reply)
says-grows lane next bytes text false (inl h) = to-lane lane.out.bytes lane next h.1 (grows-none lane.out.bytes lane.out.bytes refl)
says-grows lane next bytes text false (inr h) = to-lane lane.out.bytes _ next h.3 (grows-none lane.out.bytes lane.out.bytes refl)
