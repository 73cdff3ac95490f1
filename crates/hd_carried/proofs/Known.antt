-- What is awaited on a lane, and whether it is upgraded, is read off what was heard and said there, in order.
use Rattle.std.proofs.Common.{◌≡◌, ◌==◌, ◌&&◌, ◌||◌, ℕ, Bool, true, false, not, if◌then◌else◌, List, [], ◌∷◌, ◌++◌, refl, sym, ap, subst, ◌∙◌}
use Rattle.std.proofs.lemmas.Bool.{eqb-true, eq-eqb, ne_eqb, false≢true}
use Rattle.hw_door.specs.declared.heard.Event.{Event}
use Rattle.hw_door.specs.declared.heard.Event.TheVariants as event
use Rattle.hw_door.specs.declared.heard.Given.TheVariants as give
use Rattle.hw_lanes.specs.Replies.{IsReply}
use Rattle.hw_net.specs.declared.limits.TheConstants.{SWITCHING}
use Rattle.hw_net.specs.Awaited.{awaits_on, upgraded_on, is_lost_on}
use Rattle.hw_net.specs.Awaited as net
use Rattle.hw_net.specs.Chains.{Told, gives, hears, sends}
use Rattle.hw_net.specs.Sessions as session
use Rattle.hw_net.specs.Sessions.{Call, is_request_on}
use Rattle.hd_server.specs.declared.vocabulary.Said.TheVariants as say
use Rattle.hd_server.specs.Doings.{ServerEvent, Hears, Learns, Draws, Notes, Works, Says, Sees, awaits_reply, is_upgraded}
use Rattle.hd_server.specs.Laws.{AreAwaited}
use Rattle.hd_carried.specs.Told.{LanesAreKnown, told_by_calls, told_by_server}

-- ---- of what is told alone

abbrev awaits_in : ℕ → List Told → Bool
awaits_in lane [] = false
awaits_in lane (hears what ∷ told) = is_request_on lane what.event || (not (is_lost_on lane what.event) && awaits_in lane told)
awaits_in lane (gives (give.Reply at reply) ∷ told) = not (at == lane) && awaits_in lane told
awaits_in lane (_ ∷ told) = awaits_in lane told

abbrev upgraded_in : ℕ → List Told → Bool
upgraded_in lane [] = false
upgraded_in lane (hears what ∷ told) = not (is_lost_on lane what.event) && upgraded_in lane told
upgraded_in lane (gives (give.Reply at reply) ∷ told) = ((at == lane) && (reply.status == SWITCHING)) || upgraded_in lane told
upgraded_in lane (_ ∷ told) = upgraded_in lane told

-- each reply was given on a lane where one was awaited
abbrev pub AwaitedIn : List Told → Type 0
AwaitedIn [] = Unit {0}
AwaitedIn (gives (give.Reply at reply) ∷ told) = (awaits_in at told ≡ true) × AwaitedIn told
AwaitedIn (_ ∷ told) = AwaitedIn told

-- what was told before is so too
pub awaited_before : (later told : List Told) → AwaitedIn (later ++ told) → AwaitedIn told
awaited_before [] told a = a
awaited_before (gives (give.Reply at reply) ∷ later) told a = awaited_before later told a.1
awaited_before (gives (give.Bytes at bytes text) ∷ later) told a = awaited_before later told a
awaited_before (gives (give.Shut at) ∷ later) told a = awaited_before later told a
awaited_before (gives (give.Ask at place method target upgrade) ∷ later) told a = awaited_before later told a
awaited_before (hears what ∷ later) told a = awaited_before later told a
awaited_before (sends what full ∷ later) told a = awaited_before later told a

-- ---- a session

session_awaits : (lane : ℕ) (calls : List Call) → awaits_on lane calls ≡ awaits_in lane (told_by_calls calls)
session_awaits lane [] = refl
session_awaits lane (session.heard what answers ∷ calls) =
    ap (λ b. is_request_on lane what.event || (not (is_lost_on lane what.event) && b)) (session_awaits lane calls)
session_awaits lane (session.replied at reply answers ∷ calls) = ap (λ b. not (at == lane) && b) (session_awaits lane calls)
session_awaits lane (session.sent at bytes text full answers ∷ calls) = session_awaits lane calls
session_awaits lane (session.shut at answers ∷ calls) = session_awaits lane calls
session_awaits lane (session.wrote at answers ∷ calls) = session_awaits lane calls

session_upgraded : (lane : ℕ) (calls : List Call) → upgraded_on lane calls ≡ upgraded_in lane (told_by_calls calls)
session_upgraded lane [] = refl
session_upgraded lane (session.heard what answers ∷ calls) = ap (λ b. not (is_lost_on lane what.event) && b) (session_upgraded lane calls)
session_upgraded lane (session.replied at reply answers ∷ calls) = ap (λ b. ((at == lane) && (reply.status == SWITCHING)) || b) (session_upgraded lane calls)
session_upgraded lane (session.sent at bytes text full answers ∷ calls) = session_upgraded lane calls
session_upgraded lane (session.shut at answers ∷ calls) = session_upgraded lane calls
session_upgraded lane (session.wrote at answers ∷ calls) = session_upgraded lane calls

pub session_awaited : (calls : List Call) → AwaitedIn (told_by_calls calls) → net.AreAwaited calls
session_awaited [] a = tt
session_awaited (session.heard what answers ∷ calls) a = session_awaited calls a
session_awaited (session.replied at reply answers ∷ calls) a = (session_awaits at calls ∙ a.0, session_awaited calls a.1)
session_awaited (session.sent at bytes text full answers ∷ calls) a = session_awaited calls a
session_awaited (session.shut at answers ∷ calls) a = session_awaited calls a
session_awaited (session.wrote at answers ∷ calls) a = session_awaited calls a

-- ---- a server

flipped : (a b : ℕ) → (a == b) ≡ (b == a)
flipped a b = go (a == b) refl where
  go : (x : Bool) → (a == b) ≡ x → (a == b) ≡ (b == a)
  go true p = p ∙ sym (eq-eqb b a (sym (eqb-true a b p)))
  go false p = p ∙ sym (ne_eqb b a (λ z. false≢true (sym p ∙ eq-eqb a b (sym z))))

unless : (b c : Bool) → (if b then false else c) ≡ (not b && c)
unless true c = refl
unless false c = refl

lost_awaits : (lane at : ℕ) (b c : Bool) → b ≡ c → (if lane == at then false else b) ≡ (not (at == lane) && c)
lost_awaits lane at b c e = unless (lane == at) b ∙ ap (λ x. not x && b) (flipped lane at) ∙ ap (λ x. not (at == lane) && x) e

server_awaits : (lane : ℕ) (h : List ServerEvent) → awaits_reply lane h ≡ awaits_in lane (told_by_server h)
server_awaits lane [] = refl
server_awaits lane (Hears now (event.Request l r) ∷ h) = ap (λ b. b || awaits_reply lane h) (flipped lane l) ∙ ap (λ b. (l == lane) || b) (server_awaits lane h)
server_awaits lane (Hears now (event.Refused l refusal) ∷ h) = server_awaits lane h
server_awaits lane (Hears now (event.Bytes l bytes) ∷ h) = server_awaits lane h
server_awaits lane (Hears now (event.Response l status body) ∷ h) = server_awaits lane h
server_awaits lane (Hears now (event.Upgraded l) ∷ h) = server_awaits lane h
server_awaits lane (Hears now (event.Lost l) ∷ h) = lost_awaits lane l _ _ (server_awaits lane h)
server_awaits lane (Hears now (event.Drained l) ∷ h) = server_awaits lane h
server_awaits lane (Hears now event.Quiet ∷ h) = server_awaits lane h
server_awaits lane (Says (say.Reply l reply) ∷ h) = lost_awaits lane l _ _ (server_awaits lane h)
server_awaits lane (Says (say.Bytes l bytes text) ∷ h) = server_awaits lane h
server_awaits lane (Says (say.Shut l) ∷ h) = server_awaits lane h
server_awaits lane (Learns asked ∷ h) = server_awaits lane h
server_awaits lane (Draws drawn ∷ h) = server_awaits lane h
server_awaits lane (Notes note ∷ h) = server_awaits lane h
server_awaits lane (Works happening ∷ h) = server_awaits lane h
server_awaits lane (Sees l full ∷ h) = server_awaits lane h

server_upgraded : (lane : ℕ) (h : List ServerEvent) → is_upgraded lane h ≡ upgraded_in lane (told_by_server h)
server_upgraded lane [] = refl
server_upgraded lane (Hears now (event.Request l r) ∷ h) = server_upgraded lane h
server_upgraded lane (Hears now (event.Refused l refusal) ∷ h) = server_upgraded lane h
server_upgraded lane (Hears now (event.Bytes l bytes) ∷ h) = server_upgraded lane h
server_upgraded lane (Hears now (event.Response l status body) ∷ h) = server_upgraded lane h
server_upgraded lane (Hears now (event.Upgraded l) ∷ h) = server_upgraded lane h
server_upgraded lane (Hears now (event.Lost l) ∷ h) = lost_awaits lane l _ _ (server_upgraded lane h)
server_upgraded lane (Hears now (event.Drained l) ∷ h) = server_upgraded lane h
server_upgraded lane (Hears now event.Quiet ∷ h) = server_upgraded lane h
server_upgraded lane (Says (say.Reply l reply) ∷ h) =
    ap (λ b. (b && (reply.status == 101)) || is_upgraded lane h) (flipped lane l) ∙ ap (λ b. ((l == lane) && (reply.status == 101)) || b) (server_upgraded lane h)
server_upgraded lane (Says (say.Bytes l bytes text) ∷ h) = server_upgraded lane h
server_upgraded lane (Says (say.Shut l) ∷ h) = server_upgraded lane h
server_upgraded lane (Learns asked ∷ h) = server_upgraded lane h
server_upgraded lane (Draws drawn ∷ h) = server_upgraded lane h
server_upgraded lane (Notes note ∷ h) = server_upgraded lane h
server_upgraded lane (Works happening ∷ h) = server_upgraded lane h
server_upgraded lane (Sees l full ∷ h) = server_upgraded lane h

pub server_awaited : (h : List ServerEvent) → AreAwaited h → AwaitedIn (told_by_server h)
server_awaited [] a = tt
server_awaited (Says (say.Reply l reply) ∷ h) a = (sym (server_awaits l h) ∙ a.0, server_awaited h a.2)
server_awaited (Says (say.Bytes l bytes text) ∷ h) a = server_awaited h a
server_awaited (Says (say.Shut l) ∷ h) a = server_awaited h a
server_awaited (Hears now event ∷ h) a = server_awaited h a
server_awaited (Learns asked ∷ h) a = server_awaited h a
server_awaited (Draws drawn ∷ h) a = server_awaited h a
server_awaited (Notes note ∷ h) a = server_awaited h a
server_awaited (Works happening ∷ h) a = server_awaited h a
server_awaited (Sees l full ∷ h) a = server_awaited h a

-- ---- both

pub lanes_are_known : LanesAreKnown
lanes_are_known calls h same lane = (
  server_awaits lane h ∙ ap (awaits_in lane) (sym same) ∙ sym (session_awaits lane calls),
  server_upgraded lane h ∙ ap (upgraded_in lane) (sym same) ∙ sym (session_upgraded lane calls),
)

-- a session in which is told what a server says that answers only what it heard
pub all_awaited : (calls : List Call) (h : List ServerEvent) → told_by_calls calls ≡ told_by_server h → AreAwaited h → net.AreAwaited calls
all_awaited calls h same a = session_awaited calls (subst AwaitedIn (sym same) (server_awaited h a))
