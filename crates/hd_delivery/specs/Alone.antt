-- What an end does by itself: it says what is due, is fed what came, and takes what it was fed.
use Rattle.std.specs.Prelude.{◌≡◌, ◌-◌, ◌+◌, ℕ, Bool, false, List, [], ◌∷◌, ◌++◌, length, take, drop, Option, Some, None, option_map, if◌then◌else◌}
use Rattle.hd_delivery.specs.declared.vocabulary.Got.TheVariants.{Shaken}
use Rattle.hd_delivery.specs.Numbers.{most_framing}
use Rattle.hd_delivery.specs.Histories as of
use Rattle.hd_delivery.specs.Histories.{EndEvent, Took, Failed, Lent, first_of, present_link, codec_of, is_closed}
use Rattle.hd_delivery.specs.Due.{due}
use Rattle.hd_delivery.specs.Processes.{processes}
use Rattle.hd_delivery.specs.Worlds.{Limits}
use Rattle.hd_delivery.specs.Bytes.{Wire, ByteStep, Bytes, Does, bytes_on, in_frames, unread_count}
use Rattle.hd_delivery.specs.Following.{Next}

-- an end that writes says what is due
abbrev pub writing : Wire → of.Config → Next ByteStep
writing wire c h = option_map (λ f. Does (Lent f)) (due c (in_frames wire c h))

-- a piece is fed if it has a byte
abbrev pub piece_fed : List ℕ → Option ByteStep
piece_fed [] = None
piece_fed (b ∷ bytes) = Some (Bytes (b ∷ bytes))

-- of the bytes that are to be read on this link, the next ones that aren't fed yet, as many as there is room for
abbrev pub feeding : Limits → Wire → of.Config → List ℕ → List ByteStep → Option ℕ → Option ByteStep
feeding limits wire c bytes h None = None
feeding limits wire c bytes h (Some link) = piece_fed (take ((limits.frame + most_framing) - unread_count wire c link h) (drop (length (bytes_on link h)) bytes))

-- an end takes the next frame
abbrev pub taking : Wire → of.Config → Next ByteStep
taking wire c h = option_map Does (processes c (in_frames wire c h))

-- an end that reads takes the next frame, and is fed once there is none; a closed end does nothing
abbrev pub reading : Limits → Wire → of.Config → List ℕ → Next ByteStep
reading limits wire c bytes h = first_of (taking wire c h)
    (if is_closed c (in_frames wire c h) then None else feeding limits wire c bytes h (present_link (in_frames wire c h)))

-- the step deals with a frame: one was taken, a handshake only before it was complete (the Bool), or one was at fault
abbrev pub IsOfFrame : Bool → EndEvent → Type 0
IsOfFrame shaken (Took (Shaken codec version)) = shaken ≡ false
IsOfFrame shaken (Took got) = Unit {0}
IsOfFrame shaken (Failed fault) = Unit {0}
IsOfFrame shaken s = ⊥

-- the bytes of what was lent in these steps after a history
abbrev pub lent_text : Wire → of.Config → List ByteStep → List ByteStep → List ℕ
lent_text wire c h [] = []
lent_text wire c h (Does (Lent f) ∷ ss) = lent_text wire c h ss ++ wire.spell (codec_of c (in_frames wire c (ss ++ h))) f
lent_text wire c h (_ ∷ ss) = lent_text wire c h ss
