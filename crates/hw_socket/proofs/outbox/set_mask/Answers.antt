use Rattle.std.proofs.Common.{◌≡◌, ◌≤◌, ◌<◌, List, ℕ, Option, None, Some, length, arith}
use Rattle.std.specs.Prelude.{is_some}
use Rattle.websocket.specs.Connection.{Outgoing}
use Rattle.websocket.specs.FrameHeader.{IsMask}
use Rattle.hw_socket.specs.Masks.{with_mask}
use Rattle.hw_socket.proofs.Seals.{another_key, long_enough}
use Rattle.hw_socket.proofs.outbox.set_mask.Goals as goal

too_short : (frame : List ℕ) (mask old : Option (List ℕ)) (key : List ℕ) (f : Outgoing) → mask ≡ Some key → length frame < 6 → IsMask old → is_some old ≡ is_some mask → length f.payload ≤ 125
    → frame ≡ with_mask old f → ⊥
too_short frame mask None key f is few valid both short same = absurd (cc (rw is at both))
too_short frame mask (Some old) key f is few valid both short same =
    let enough = long_enough old f valid.0 short in
    omega (arith, rw (← same) at enough)

changed : (frame new : List ℕ) (mask old : Option (List ℕ)) (key : List ℕ) (f : Outgoing) → mask ≡ Some key
    → ((before : List ℕ) → length before ≡ 4 → frame ≡ with_mask (Some before) f → new ≡ with_mask (Some key) f) → IsMask old → is_some old ≡ is_some mask → frame ≡ with_mask old f → new ≡ with_mask mask f
changed frame new mask None key f is does valid both same = absurd (cc (rw is at both))
changed frame new mask (Some old) key f is does valid both same = rw is (does old valid.0 same)

pub returns-then-frame-lt-PAYLOAD_AT : goal.returns-then-frame-lt-PAYLOAD_AT
returns-then-frame-lt-PAYLOAD_AT c old f valid both short same =
    absurd (too_short c.args.frame.now c.args.mask old c.in-Some.key f c.in-Some.is c.if-frame-lt-PAYLOAD_AT.true valid both short same)

pub returns : goal.returns
returns c old f valid both short same =
    changed c.args.frame.now c.change_key.new.frame c.args.mask old c.in-Some.key f c.in-Some.is
    (λ before four is. rw c.change_key.ensures (another_key before c.in-Some.key c.args.frame.now f four short is)) valid both same
