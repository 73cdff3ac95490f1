-- What was heard and said on lanes, as a server's history has it and as its door's session does.
use Rattle.std.specs.Prelude.{◌≡◌, ℕ, List, [], ◌∷◌}
use Rattle.hw_door.specs.declared.heard.Given.TheVariants as give
use Rattle.hw_net.specs.Awaited.{awaits_on, upgraded_on}
use Rattle.hw_net.specs.Chains.{Told, gives, hears}
use Rattle.hw_net.specs.Sessions as session
use Rattle.hw_net.specs.Sessions.{Call}
use Rattle.hd_server.specs.Doings.{ServerEvent, Hears, Says, awaits_reply, is_upgraded}
use Rattle.hd_server.specs.Serves.{given_as}

-- what a session's calls told, the latest first, but for what was answered to messages
abbrev pub told_by_calls : List Call → List Told
told_by_calls [] = []
told_by_calls (session.heard what answers ∷ calls) = hears what ∷ told_by_calls calls
told_by_calls (session.replied lane reply answers ∷ calls) = gives (give.Reply lane reply) ∷ told_by_calls calls
told_by_calls (session.sent lane bytes text full answers ∷ calls) = gives (give.Bytes lane bytes text) ∷ told_by_calls calls
told_by_calls (session.shut lane answers ∷ calls) = gives (give.Shut lane) ∷ told_by_calls calls
told_by_calls (session.wrote lane answers ∷ calls) = told_by_calls calls

-- what a server heard and said, the latest first
abbrev pub told_by_server : List ServerEvent → List Told
told_by_server [] = []
told_by_server (Hears now event ∷ h) = hears (record { now = now; event = event }) ∷ told_by_server h
told_by_server (Says word ∷ h) = gives (given_as word) ∷ told_by_server h
told_by_server (_ ∷ h) = told_by_server h

-- Where a session and a server tell the same, in the same order, they know the same of each lane: whether a reply is awaited there, and whether it is
-- upgraded.
abbrev pub LanesAreKnown : Type 0
LanesAreKnown = (calls : List Call) (h : List ServerEvent) → told_by_calls calls ≡ told_by_server h
    → (lane : ℕ) → (awaits_reply lane h ≡ awaits_on lane calls) × (is_upgraded lane h ≡ upgraded_on lane calls)
