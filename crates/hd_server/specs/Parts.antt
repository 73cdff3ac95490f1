-- Of which events each part of a turn consists: what a moment has ended, what is asked, what is planned, and what a connection does as it
-- ticks and as it says what is due.
use Rattle.std.specs.Prelude.{◌≡◌, ◌==◌, ℕ, false, List, [], ◌∷◌}
use Rattle.hd_delivery.specs.Histories.{Lent}
use Rattle.hd_delivery.specs.Bytes.{Does as Step_of}
use Rattle.hd_calls.specs.Peers.{Plain}
use Rattle.hd_server.specs.declared.vocabulary.Said.TheVariants as say
use Rattle.hd_server.specs.Lives.{Answered, LaneLost, Ended, Expired, Removed}
use Rattle.hd_server.specs.Machine.{Connects, Does, Goes}
use Rattle.hd_server.specs.Doings.{ServerEvent, Learns, Draws, Notes, Works, Says}

-- each of these events is so
abbrev pub Each : (ServerEvent → Type 0) → List ServerEvent → Type 0
Each is [] = Unit {0}
Each is (x ∷ xs) = is x × Each is xs

-- it is so of one connection or another
abbrev pub IsOfAny : (ℕ → ServerEvent → Type 0) → ServerEvent → Type 0
IsOfAny is x = (c : ℕ) × is c x

-- the moment of a connection has come: it is closed or dropped, and that is noted
abbrev pub IsExpiry : ℕ → ServerEvent → Type 0
IsExpiry c (Works (Does k move)) = k ≡ c
IsExpiry c (Works (Goes k)) = k ≡ c
IsExpiry c (Notes (Expired k now)) = k ≡ c
IsExpiry c _ = ⊥

-- the keeper is asked, or the lots
abbrev pub IsQuestion : ServerEvent → Type 0
IsQuestion (Learns asked) = Unit {0}
IsQuestion (Draws drawn) = Unit {0}
IsQuestion _ = ⊥

-- all that a plan may have: nothing is heard, asked or seen by it, and no job goes on
abbrev pub IsPlanned : ServerEvent → Type 0
IsPlanned (Notes note) = Unit {0}
IsPlanned (Works (Connects c settings user)) = Unit {0}
IsPlanned (Works (Does c move)) = Unit {0}
IsPlanned (Works (Goes c)) = Unit {0}
IsPlanned (Says said) = Unit {0}
IsPlanned _ = ⊥

-- a connection ticks, or loses its lane by a silence
abbrev pub IsTick : ℕ → ServerEvent → Type 0
IsTick c (Works (Does k move)) = k ≡ c
IsTick c (Works (Goes k)) = k ≡ c
IsTick c (Notes (LaneLost k lane now)) = k ≡ c
IsTick c (Notes (Removed k)) = k ≡ c
IsTick c (Says (say.Shut lane)) = Unit {0}
IsTick c _ = ⊥

-- a connection says what is due, which is never 101, and is dropped if it is closed
abbrev pub IsFlush : ℕ → ServerEvent → Type 0
IsFlush c (Works (Does k (Plain (Step_of (Lent frame))))) = k ≡ c
IsFlush c (Works (Goes k)) = k ≡ c
IsFlush c (Notes (Answered k lane now)) = k ≡ c
IsFlush c (Notes (Ended k now)) = k ≡ c
IsFlush c (Notes (Removed k)) = k ≡ c
IsFlush c (Says (say.Reply lane reply)) = (reply.status == 101) ≡ false
IsFlush c (Says said) = Unit {0}
IsFlush c _ = ⊥
