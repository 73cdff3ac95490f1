-- How two ends are begun: what the options, the latest first, say, and what holds where none does.
use Rattle.std.specs.Prelude.{ℕ, Bool, true, false, List, [], ◌∷◌}
use Rattle.hm_message.specs.declared.message.Codec.{Codec}
use Rattle.hm_message.specs.declared.message.Codec.TheVariants.{Json}
use Rattle.hd_delivery.specs.Worlds.{Limits, Terms}
use Rattle.sr_notation.specs.declared.setting.Setting.{Setting}
use Rattle.sr_notation.specs.declared.setting.Setting.TheVariants as setting

-- the codec for which the client asks
abbrev pub codec_in : List Setting → Codec
codec_in [] = Json
codec_in (setting.Codec codec ∷ settings) = codec
codec_in (_ ∷ settings) = codec_in settings

-- the version for which it asks
abbrev pub version_in : List Setting → ℕ
version_in [] = 2
version_in (setting.Version version ∷ settings) = version
version_in (_ ∷ settings) = version_in settings

-- whether the connection is to be kept across links
abbrev pub reconnect_in : List Setting → Bool
reconnect_in [] = true
reconnect_in (setting.Reconnect keep ∷ settings) = keep
reconnect_in (_ ∷ settings) = reconnect_in settings

-- what each end may hold and read
abbrev pub limits_in : List Setting → Limits
limits_in [] = record { frame = 32768; count = 1024; bytes = 100000 }
limits_in (setting.Buffer limits ∷ settings) = limits
limits_in (_ ∷ settings) = limits_in settings

-- whether there are peers, by which calls go
abbrev pub peers_in : List Setting → Bool
peers_in [] = false
peers_in (setting.Peers ∷ settings) = true
peers_in (_ ∷ settings) = peers_in settings

-- both ends are begun alike
abbrev pub terms_in : List Setting → Terms
terms_in settings = record {
  codec = codec_in settings;
  version = version_in settings;
  server_codec = codec_in settings;
  server_version = version_in settings;
  reconnect = reconnect_in settings;
}
