-- What holds of moves that one side makes after a world of two peers.
use Rattle.std.specs.Prelude.{◌≡◌, ◌≤◌, ℕ, suc, List, [], ◌∷◌, ◌++◌, length, map, Option, Some}
use Rattle.hv_value.specs.Tree.{Tree}
use Rattle.hd_facts.specs.Prefixes.{IsPrefix}
use Rattle.hd_delivery.specs.declared.vocabulary.Side.{Side}
use Rattle.hd_delivery.specs.Histories.{present_link}
use Rattle.hd_delivery.specs.Worlds.{Event, config}
use Rattle.hd_delivery.specs.Bytes.{ByteStep, bytes_on, lent_bytes, IsWorldOverBytes}
use Rattle.hd_delivery.specs.OneHistory.{IsHistory}
use Rattle.hd_delivery.specs.Following.{FollowUpTo}
use Rattle.hd_delivery.specs.Alone.{writing, lent_text}
use Rattle.hd_delivery.specs.Sides.{by, other, history}
use Rattle.hd_calls.specs.declared.vocabulary.CallKind.{CallKind}
use Rattle.hd_calls.specs.Hubs.{Answer}
use Rattle.hd_calls.specs.Peers.{PeerEvent, Settings, drawn, byte_steps, steps}
use Rattle.hd_calls.specs.PeerWorlds.{Pair, settings, ends}
use Rattle.sr_peers.specs.Doings.{Doing, moves_of, Chain, Losing, WithLosses, attaching, leaving, closing, ticking, lifted, Writes, ReadsTo, Asks, Sends, Cancelling, IsRound}
use Rattle.sr_peers.specs.Grows.{lent_in, MayJoin, NeedNoOther, LendNothingOn, LendNothing, KeepToTheirSide}

-- the moves of one side are its own, and the other side's stay as they were
abbrev pub OneSideGrows : Type 0
OneSideGrows = (w : List (Event PeerEvent)) (side : Side) (ds : List PeerEvent)
    → (history side (map (by side) ds ++ w) ≡ ds ++ history side w) × (history (other side) (map (by side) ds ++ w) ≡ history (other side) w)

-- a world goes on with moves of one side that its end can make by itself and that may join it
abbrev pub WorldsGrow : Type 0
WorldsGrow = (p : Pair) (w : List (Event PeerEvent)) (side : Side) (ds : List PeerEvent) → IsWorldOverBytes p.limits p.wire p.terms (ends p w)
    → IsHistory (p.limits side) p.wire (config side p.terms) (byte_steps (settings side p) (ds ++ history side w)) → MayJoin p w side ds
    → IsWorldOverBytes p.limits p.wire p.terms (ends p (map (by side) ds ++ w))

-- a side that reads up to where these bytes end, which the other side lent on its link, may join
abbrev pub ReadsAreSaid : Type 0
ReadsAreSaid = (p : Pair) (w : List (Event PeerEvent)) (side : Side) (l now : ℕ) (bytes : List ℕ) (ds : List PeerEvent)
    → present_link (steps (settings side p) (history side w)) ≡ Some l
    → IsPrefix (bytes_on l (byte_steps (settings side p) (history side w))) bytes → IsPrefix bytes (lent_in p w (other side) l)
    → ReadsTo (settings side p) (history side w) now bytes ds → MayJoin p w side ds

-- moves that neither read anything nor take a link may join
abbrev pub OthersJoin : Type 0
OthersJoin = (p : Pair) (w : List (Event PeerEvent)) (side : Side) (ds : List PeerEvent) → NeedNoOther ds → MayJoin p w side ds

-- What a peer lent on a link stays as it was at moves of the other side, and at its own that lend nothing there. What it writes comes after it.
pub record LentGoesOn : Type 0 where
  pub apart : (p : Pair) (w : List (Event PeerEvent)) (side : Side) (ds : List PeerEvent) (l : ℕ) → lent_in p (map (by side) ds ++ w) (other side) l ≡ lent_in p w (other side) l
  pub stays : (t : Settings) (l : ℕ) (h ds : List PeerEvent) → IsHistory t.limits t.wire t.config (byte_steps t (ds ++ h)) → LendNothingOn t l h ds
      → lent_bytes t.wire t.config l (byte_steps t (ds ++ h)) ≡ lent_bytes t.wire t.config l (byte_steps t h)
  pub written : (t : Settings) (l : ℕ) (h : List PeerEvent) (most : Option ℕ) (ss : List ByteStep) → present_link (steps t h) ≡ Some l
      → FollowUpTo most (writing t.wire t.config) (byte_steps t h) ss
      → lent_bytes t.wire t.config l (byte_steps t (lifted ss ++ h)) ≡ lent_bytes t.wire t.config l (byte_steps t h) ++ lent_text t.wire t.config (byte_steps t h) ss

-- ---- which doings are of which kind

-- a peer keeps to its side when it leaves its link, closes, is told a moment, hands out calls as gone, is asked by its user, and gives its jobs turns
pub record DoingsKeep : Type 0 where
  pub losses : (t : Settings) (h ds new : List PeerEvent) → WithLosses t h ds new → KeepToTheirSide ds → KeepToTheirSide new
  pub leaves : (t : Settings) (h : List PeerEvent) (now : ℕ) → KeepToTheirSide (leaving t h now)
  pub closes : (t : Settings) (h : List PeerEvent) → KeepToTheirSide (closing t h)
  pub ticks : (t : Settings) (h : List PeerEvent) (now : ℕ) → KeepToTheirSide (ticking t h now)
  pub asks : (t : Settings) (h : List PeerEvent) (kind : CallKind) (target : List ℕ) (arguments : List Tree) (uploads : ℕ) (did : Doing)
      → Asks t h kind target arguments uploads did → KeepToTheirSide (moves_of (did ∷ []))
  pub sends : (t : Settings) (h : List PeerEvent) (n w : ℕ) (a : Answer) (did : Doing) → Sends t h n w a did → KeepToTheirSide (moves_of (did ∷ []))
  pub cancels : (t : Settings) (h : List PeerEvent) (n : ℕ) (did : Doing) → Cancelling t h n did → KeepToTheirSide (moves_of (did ∷ []))
  pub rounds : (t : Settings) (h : List PeerEvent) (now : ℕ) (ds : List PeerEvent) → IsRound t h now ds → KeepToTheirSide ds

-- a peer lends where it writes alone: on its link, and without anything of the other side
pub record WritesLend : Type 0 where
  pub attaches : (t : Settings) (h : List PeerEvent) (link now : ℕ) → LendNothing (moves_of (attaching t h link now ∷ []))
  pub reads : (t : Settings) (h : List PeerEvent) (now : ℕ) (bytes : List ℕ) (ds : List PeerEvent) → ReadsTo t h now bytes ds → LendNothing ds
  pub writes : (t : Settings) (h : List PeerEvent) (most : Option ℕ) (ds : List PeerEvent) → Writes t h most ds → NeedNoOther ds
  pub elsewhere : (t : Settings) (h : List PeerEvent) (most : Option ℕ) (ds : List PeerEvent) (l : ℕ) → Writes t h most ds → (present_link (steps t h) ≡ Some l → ⊥) → LendNothingOn t l h ds
  pub nowhere : (t : Settings) (l : ℕ) (h ds : List PeerEvent) → LendNothing ds → LendNothingOn t l h ds

-- a closed end hands out no more calls as gone than numbers were drawn, and one
abbrev pub LossesAreFew : Type 0
LossesAreFew = (t : Settings) (h ds : List PeerEvent) → Chain (Losing t) h ds → length ds ≤ suc (drawn h)
