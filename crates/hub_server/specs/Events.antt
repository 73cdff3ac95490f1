-- Events, and what their moments end.
use Rattle.std.specs.Prelude.{◌≡◌, ℕ, Bool, true, false, List, [], ◌∷◌, option_map}
use Rattle.hd_calls.specs.Hubs.{Hub}
use Rattle.hd_server.specs.declared.vocabulary.Said.{Said}
use Rattle.hd_server.specs.Lives.{overdue, standing}
use Rattle.hd_server.specs.Doings.{ServerEvent, notes, moment}
use Rattle.hd_server.specs.Plans.{Setup, conn_on, expiring, onto}
use Rattle.hd_server.specs.Serves.{IsFed}
use Rattle.hub_server.specs.declared.server.Server.{Server}
use Rattle.hub_server.specs.Lanes.{Unsettled}
use Rattle.hub_server.specs.Servers.{Standing}

-- bytes were fed to the connection that stands on the lane, if one does
pub record HasHeardBytes {H Job : Type 0} (hub : Hub Job) (s : Setup) (u : Unsettled) (before : List Said) (new : Server H Job) (lane : ℕ) (bytes : List ℕ) (h : List ServerEvent) : Type 0 where
  pub after : List ServerEvent
  pub fed : IsFed (moment h) (option_map (λ c. (c, bytes)) (conn_on lane h)) h after
  pub stands : Standing hub s u before new after

-- the first that is overdue has come to its moment
pub record ExpiresFirst {H Job : Type 0} (hub : Hub Job) (s : Setup) (u : Unsettled) (before : List Said) (new : Server H Job) (h : List ServerEvent) : Type 0 where
  pub conn : ℕ
  pub rest : List ℕ
  pub first : overdue (moment h) (notes h) ≡ conn ∷ rest
  pub stands : Standing hub s u before new (onto (expiring (moment h) (standing conn (notes h)) conn h) h)

-- or none is overdue
abbrev pub Expires : {H Job : Type 0} → Hub Job → Setup → Unsettled → List Said → Server H Job → List ServerEvent → Bool → Type 0
Expires hub s u before new h true = ExpiresFirst hub s u before new h
Expires hub s u before new h false = (overdue (moment h) (notes h) ≡ []) × Standing hub s u before new h
