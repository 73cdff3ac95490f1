-- What messages are to a lane.
use Rattle.std.specs.Prelude.{◌≡◌, ◌≤◌, ℕ, Bool, true, false, List, length, ⊤, Option, None, Some}
use Rattle.websocket.specs.declared.protocol.incomplete.MessageType.{MessageType}
use Rattle.websocket.specs.declared.protocol.config.Role.{Role}
use Rattle.websocket.specs.Content.{Content, text, binary, ping, pong, close}
use Rattle.hw_socket.specs.declared.vocabulary.SocketSide.{SocketSide}
use Rattle.hw_socket.specs.declared.vocabulary.SocketSide.TheVariants.{Server, Client}

abbrev pub role_of : SocketSide → Role
role_of Server = Role.Server
role_of (Client seed) = Role.Client

-- a text or a binary message
abbrev pub content : Bool → List ℕ → Content
content true bytes = text bytes
content false bytes = binary bytes

-- a fragment, a ping or a pong: nothing for the lane's caller
abbrev pub IsSilent : Option Content → Type 0
IsSilent None = ⊤
IsSilent (Some (text bytes)) = ⊥
IsSilent (Some (binary bytes)) = ⊥
IsSilent (Some (ping bytes)) = ⊤
IsSilent (Some (pong bytes)) = ⊤
IsSilent (Some (close frame)) = ⊥

-- a text or binary message of these bytes
abbrev pub Carries : Option Content → List ℕ → Type 0
Carries None bytes = ⊥
Carries (Some (text bs)) bytes = bs ≡ bytes
Carries (Some (binary bs)) bytes = bs ≡ bytes
Carries (Some (ping bs)) bytes = ⊥
Carries (Some (pong bs)) bytes = ⊥
Carries (Some (close frame)) bytes = ⊥

-- a text or binary message
abbrev pub IsData : Option Content → Type 0
IsData None = ⊥
IsData (Some (text bytes)) = ⊤
IsData (Some (binary bytes)) = ⊤
IsData (Some (ping bytes)) = ⊥
IsData (Some (pong bytes)) = ⊥
IsData (Some (close frame)) = ⊥

-- the message is a close frame
abbrev pub closes : Option Content → Bool
closes None = false
closes (Some (text bs)) = false
closes (Some (binary bs)) = false
closes (Some (ping bs)) = false
closes (Some (pong bs)) = false
closes (Some (close frame)) = true

-- what came so far of a message in fragments is within the limit
abbrev pub AreWithin : ℕ → Option (MessageType × List ℕ) → Type 0
AreWithin limit None = ⊤
AreWithin limit (Some p) = length p.1 ≤ limit
