-- What is printed of moves that come one after the other.
use Rattle.std.proofs.Common.{◌≡◌, List, [], ◌∷◌, ◌++◌, Some, refl, sym, ap, ◌∙◌, append_assoc}
use Rattle.std.proofs.lemmas.List.{append-nil}
use Rattle.hd_calls.specs.Peers.{PeerEvent, Settings}
use Rattle.hd_dialing.specs.Events.{told}
use Rattle.hd_client.specs.Setups.{Setup, settings_with}
use Rattle.hd_client.specs.Events.{ClientEvent, dialing, moves, settings_of}
use Rattle.hd_client.specs.Printed.{line_with, move_line, printed}
use Rattle.hd_client.specs.Turns.{moving}
use Rattle.sr_client.specs.Lines.{lines_of}

pub moves_moving : (ms : List PeerEvent) (h : List ClientEvent) → moves (moving ms h) ≡ ms ++ moves h
moves_moving [] h = refl
moves_moving (m ∷ ms) h = ap (λ x. m ∷ x) (moves_moving ms h)

pub dialing_moving : (ms : List PeerEvent) (h : List ClientEvent) → dialing (moving ms h) ≡ dialing h
dialing_moving [] h = refl
dialing_moving (m ∷ ms) h = dialing_moving ms h

pub settings_moving : (s : Setup) (ms : List PeerEvent) (h : List ClientEvent) → settings_of s (moving ms h) ≡ settings_of s h
settings_moving s ms h = ap (λ x. settings_with s (told x)) (dialing_moving ms h)

-- the lines of the moves, after what was printed before
pub printed_moves : (s : Setup) (t : Settings) (ms : List PeerEvent) (h : List ClientEvent) → settings_of s h ≡ Some t
    → printed s (moving ms h) ≡ printed s h ++ lines_of s.words t ms (moves h)
printed_moves s t [] h begun = sym (append-nil (printed s h))
printed_moves s t (m ∷ ms) h begun =
    ap (λ x. x ++ line_with s.words (settings_of s (moving ms h)) (moves (moving ms h)) m) (printed_moves s t ms h begun)
    ∙ (ap (λ o. (printed s h ++ lines_of s.words t ms (moves h)) ++ line_with s.words o (moves (moving ms h)) m) (settings_moving s ms h ∙ begun)
    ∙ (ap (λ k. (printed s h ++ lines_of s.words t ms (moves h)) ++ move_line s.words t k m) (moves_moving ms h)
    ∙ append_assoc (printed s h) (lines_of s.words t ms (moves h)) (move_line s.words t (ms ++ moves h) m)))
