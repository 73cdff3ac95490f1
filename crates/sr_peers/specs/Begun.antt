-- How two ends are begun that are begun alike.
use Rattle.hd_delivery.specs.Worlds.{Terms}
use Rattle.he_end.specs.declared.config.Config.{Config}

abbrev pub terms_of : Config → Terms
terms_of config = record {
  codec = config.codec;
  version = config.version;
  server_codec = config.codec;
  server_version = config.version;
  reconnect = config.reconnect;
}
