-- What moves of one side after a world of two peers have to do with the other side: what they read, the link that they take, and what they lend.
use Rattle.std.specs.Prelude.{◌≡◌, ℕ, List, [], ◌∷◌, ◌++◌, Some}
use Rattle.hd_facts.specs.Prefixes.{IsPrefix}
use Rattle.hd_delivery.specs.declared.vocabulary.Side.{Side}
use Rattle.hd_delivery.specs.Histories.{Attached, Lent, present_link}
use Rattle.hd_delivery.specs.Worlds.{Event, MayName, config}
use Rattle.hd_delivery.specs.Bytes.{Bytes, Does, bytes_on, lent_bytes}
use Rattle.hd_delivery.specs.Sides.{other, history}
use Rattle.hd_calls.specs.Peers.{PeerEvent, Plain, Settings, byte_steps, steps}
use Rattle.hd_calls.specs.PeerWorlds.{Pair, settings}

-- the bytes that this side lent on a link in the world
abbrev pub lent_in : Pair → List (Event PeerEvent) → Side → ℕ → List ℕ
lent_in p w side l = lent_bytes p.wire (config side p.terms) l (byte_steps (settings side p) (history side w))

-- after these moves of a side, the piece is the next of what the other side lent on the link where it stands
abbrev pub IsNextPiece : Pair → List (Event PeerEvent) → Side → List PeerEvent → List ℕ → Type 0
IsNextPiece p w side h piece =
    (l : ℕ) → present_link (steps (settings side p) h) ≡ Some l → IsPrefix (bytes_on l (byte_steps (settings side p) h) ++ piece) (lent_in p w (other side) l)

-- after these moves of a side, the move reads what the other side lent, and takes a link under a name that it may have
abbrev pub FitsOther : Pair → List (Event PeerEvent) → Side → List PeerEvent → PeerEvent → Type 0
FitsOther p w side h (Plain (Bytes piece)) = IsNextPiece p w side h piece
FitsOther p w side h (Plain (Does (Attached l now))) = MayName side l (steps (settings side p) h) (steps (settings (other side) p) (history (other side) w))
FitsOther p w side h d = Unit {0}

-- each of these moves of a side may come after the world, as far as the other side says
abbrev pub MayJoin : Pair → List (Event PeerEvent) → Side → List PeerEvent → Type 0
MayJoin p w side [] = Unit {0}
MayJoin p w side (d ∷ ds) = MayJoin p w side ds × FitsOther p w side (ds ++ history side w) d

-- none of these moves reads anything or takes a link
abbrev pub NeedNoOther : List PeerEvent → Type 0
NeedNoOther [] = Unit {0}
NeedNoOther (Plain (Bytes piece) ∷ ds) = ⊥
NeedNoOther (Plain (Does (Attached l now)) ∷ ds) = ⊥
NeedNoOther (d ∷ ds) = NeedNoOther ds

-- none of these moves after a history lends a frame on the link
abbrev pub LendNothingOn : Settings → ℕ → List PeerEvent → List PeerEvent → Type 0
LendNothingOn t l h [] = Unit {0}
LendNothingOn t l h (Plain (Does (Lent f)) ∷ ds) = LendNothingOn t l h ds × (present_link (steps t (ds ++ h)) ≡ Some l → ⊥)
LendNothingOn t l h (d ∷ ds) = LendNothingOn t l h ds

-- none of these moves lends a frame
abbrev pub LendNothing : List PeerEvent → Type 0
LendNothing [] = Unit {0}
LendNothing (Plain (Does (Lent f)) ∷ ds) = ⊥
LendNothing (d ∷ ds) = LendNothing ds

-- these moves keep to their side: they read nothing, take no link and lend nothing
abbrev pub KeepToTheirSide : List PeerEvent → Type 0
KeepToTheirSide ds = NeedNoOther ds × LendNothing ds
