-- The options of an end: their lines, and which of them there are.
use Rattle.std.specs.Prelude.{◌≡◌, ℕ, true, false, List, ◌++◌, codes}
use Rattle.std.specs.Fmt.{decimal}
use Rattle.hm_message.specs.declared.message.Codec.TheVariants.{Json, Pack}
use Rattle.hs_shake.specs.Requests.{IsVersion}
use Rattle.hd_delivery.specs.Bounds.{AreLimits}
use Rattle.hd_delivery.specs.Worlds.{Limits}
use Rattle.sr_notation.specs.declared.setting.Setting.{Setting}
use Rattle.sr_notation.specs.declared.setting.Setting.TheVariants as setting

-- the line of an option
abbrev pub setting_line : Setting → List ℕ
setting_line (setting.Codec Json) = codes "codec json"
setting_line (setting.Codec Pack) = codes "codec pack"
setting_line (setting.Version version) = codes "version " ++ decimal version
setting_line (setting.Reconnect true) = codes "reconnect on"
setting_line (setting.Reconnect false) = codes "reconnect off"
setting_line setting.Peers = codes "peers on"
setting_line (setting.Buffer limits) = codes "buffer " ++ (decimal limits.count ++ (codes " " ++ (decimal limits.bytes ++ (codes " " ++ decimal limits.frame))))

-- an option whose numbers are in range
abbrev pub IsSetting : Setting → Type 0
IsSetting (setting.Codec codec) = Unit {0}
IsSetting (setting.Version version) = IsVersion version
IsSetting (setting.Reconnect keep) = Unit {0}
IsSetting (setting.Buffer limits) = AreLimits limits
IsSetting setting.Peers = Unit {0}

-- which option it is
pub data Name : Type 0 where
  TheCodec : Name
  TheVersion : Name
  TheReconnect : Name
  TheBuffer : Name
  ThePeers : Name

abbrev pub name_of : Setting → Name
name_of (setting.Codec codec) = TheCodec
name_of (setting.Version version) = TheVersion
name_of (setting.Reconnect keep) = TheReconnect
name_of (setting.Buffer limits) = TheBuffer
name_of setting.Peers = ThePeers

-- the words of the option `buffer`
abbrev pub buffer_words : Limits → List ℕ
buffer_words limits = decimal limits.count ++ (codes " " ++ (decimal limits.bytes ++ (codes " " ++ decimal limits.frame)))

-- the line is that of this option
abbrev pub IsOption : List ℕ → Setting → Type 0
IsOption line s = (line ≡ setting_line s) × IsSetting s
