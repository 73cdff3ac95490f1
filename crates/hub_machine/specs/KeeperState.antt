-- What is outside of a machine: the keeper that it asks, and how many messages were spelled.
use Rattle.std.specs.Prelude.{◌≡◌, ◌≤◌, ℕ, ◌+◌, ◌||◌, List, [], ◌∷◌, ◌++◌, map, Option, Some, None, option_map, if◌then◌else◌}
use Rattle.hm_message.specs.declared.message.Codec.{Codec}
use Rattle.hd_delivery.specs.Histories.{is_shaken}
use Rattle.hd_calls.specs.Peers.{PeerEvent, Settings, codec, steps}
use Rattle.hd_rooms.specs.declared.vocabulary.Asked.{Asked}
use Rattle.hd_rooms.specs.Kept.{Content, KeeperDid, CountsFaults}
use Rattle.hd_server.specs.Machine.{MachineEvent, Carries, moves, settings_of}
use Rattle.he_end.specs.Stands.{is_client}
use Rattle.hub_machine.specs.Spreads.{codecs_among}

-- what a keeper tells of itself, and how many messages were spelled
pub record KeeperState : Type 0 where
  pub holds : Option Content
  pub answers : Option (List Asked)
  pub faults : ℕ
  pub spelled : ℕ

abbrev pub keeper_state : Option Content → Option (List Asked) → ℕ → ℕ → KeeperState
keeper_state holds answers faults spelled = record { holds = holds; answers = answers; faults = faults; spelled = spelled }

-- the keeper answered this, the first first, and this many messages were spelled at most
pub record HasAnswered (before now : KeeperState) (asks : List Asked) (most : ℕ) : Type 0 where
  pub told : now.answers ≡ option_map (λ (known : List Asked). known ++ asks) before.answers
  pub kept : KeeperDid before.holds asks now.holds
  pub counted : CountsFaults before.faults asks now.faults
  pub spelled : now.spelled ≤ before.spelled + most

-- what the keeper was asked for deeds, the first first
abbrev pub asks_in : List MachineEvent → List Asked
asks_in [] = []
asks_in (Carries c j d fates (Some ask) ∷ w) = asks_in w ++ ask ∷ []
asks_in (_ ∷ w) = asks_in w

-- in which codec a peer that was begun so and did this is spoken to, if it has one yet
abbrev pub spoken_to : Option Settings → List PeerEvent → Option Codec
spoken_to None h = None
spoken_to (Some t) h = if is_shaken (steps t h) || is_client t.config.side then Some (codec t h) else None

-- in which one a connection is spoken to after these happenings
abbrev pub spoken_at : ℕ → List MachineEvent → Option Codec
spoken_at c w = spoken_to (settings_of c w) (moves c w)

-- how often happenings may take a spelling: for a deed once for each codec among its members
abbrev pub spellings : List MachineEvent → ℕ
spellings [] = 0
spellings (Carries c j d fates asked ∷ w) = codecs_among (λ k. spoken_at k w) (map (λ f. f.0) fates) + spellings w
spellings (_ ∷ w) = spellings w

-- so the outside went on while happenings did
pub record HasAnsweredDuring (before now : KeeperState) (w after : List MachineEvent) : Type 0 where
  pub asks : List Asked
  pub are : asks_in after ≡ asks_in w ++ asks
  pub most : ℕ
  pub count : spellings after ≡ most + spellings w
  pub goes : HasAnswered before now asks most
