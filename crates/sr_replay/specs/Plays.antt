-- How an end of a replay stands for what it did, and what each of its calls makes of that.
use Rattle.std.specs.Prelude.{◌≡◌, ℕ, ◌-◌, ◌^◌, Bool, true, false, List, [], ◌∷◌, ◌++◌, Some, None}
use Rattle.hd_delivery.specs.Histories as of
use Rattle.hd_delivery.specs.Histories.{present_link}
use Rattle.hd_delivery.specs.Alone.{writing, lent_text}
use Rattle.hd_delivery.specs.Worlds.{Limits}
use Rattle.hd_delivery.specs.Bytes.{Wire, ByteStep, Bytes, in_frames}
use Rattle.he_end.specs.Stands.{Stands, limits_of}
use Rattle.sr_script.specs.declared.action.Count.{Count}
use Rattle.sr_script.specs.declared.action.Count.TheVariants.{UpTo, Everything}
use Rattle.sr_replay.specs.declared.player.Player.{Player}
use Rattle.hd_delivery.specs.Following.{Next}
use Rattle.sr_replay.specs.declared.text_kind.TextKind.{TextKind}
use Rattle.sr_replay.specs.Told.{steps_text}

-- the end stands for this history, on the link that it names
pub record Plays (wire : Wire) (c : of.Config) (p : Player) (h : List ByteStep) : Type 0 where
  pub stands : Stands wire c p.end h
  pub side_is : p.side ≡ c.side
  pub link_is : p.link ≡ present_link (in_frames wire c h)

-- the limits of its end
abbrev pub limits_at : Player → Limits
limits_at p = limits_of p.end

-- of every history for which it stood
abbrev pub OfEach : Player → ((wire : Wire) → of.Config → List ByteStep → Type 0) → Type 0
OfEach p Holds = (wire : Wire) (c : of.Config) (h : List ByteStep) → Plays wire c p h → Holds wire c h

-- ---- one step of what follows

-- what is written of these steps after a history
abbrev pub Text : Type 0
Text = List ByteStep → List ByteStep → List ℕ

-- the step that came next was made, and its text was appended; or, if none was to come, nothing has changed
abbrev pub Goes : Next ByteStep → Text → Wire → of.Config → List ByteStep → Player → List ℕ → List ℕ → Bool → Type 0
Goes next text wire c h new before after true = (s : ByteStep) × ((next h ≡ Some s) × Plays wire c new (s ∷ h) × (after ≡ before ++ text h (s ∷ [])))
Goes next text wire c h new before after false = (next h ≡ None) × Plays wire c new h × (after ≡ before)

-- The frame that was due was said, its bytes were put on the link, and it was told; or, if none was due, nothing has changed
abbrev pub Says : TextKind → Wire → of.Config → List ByteStep → Player → (lane_before lane_after before after : List ℕ) → Bool → Type 0
Says kind wire c h new lane_before lane_after before after true = (s : ByteStep) × ((writing wire c h ≡ Some s) × Plays wire c new (s ∷ h)
    × (lane_after ≡ lane_before ++ lent_text wire c h (s ∷ [])) × (after ≡ before ++ steps_text kind wire c h (s ∷ [])))
Says kind wire c h new lane_before lane_after before after false =
    (writing wire c h ≡ None) × Plays wire c new h × (lane_after ≡ lane_before) × (after ≡ before)

-- A first part of what can be fed was fed, where the end feeds or takes what comes next; or, if it is empty, nothing is fed and nothing comes next.
abbrev pub Feeds : Next ByteStep → Wire → of.Config → List ByteStep → Player → List ℕ → Type 0
Feeds next wire c h new [] = (next h ≡ None) × Plays wire c new h
Feeds next wire c h new (b ∷ bytes) = (next h ≡ Some (Bytes (b ∷ bytes))) × Plays wire c new (Bytes (b ∷ bytes) ∷ h)

-- the greatest number of steps: nothing that an end does by itself has so many
abbrev pub most_steps : Count → ℕ
most_steps (UpTo n) = n
most_steps Everything = 2 ^ 64 - 1
