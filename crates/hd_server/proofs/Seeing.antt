-- What a door answers to messages changes nothing but which lanes are full.
use Rattle.std.proofs.Common.{refl, ap, subst, sym, ◌∙◌, ◌≡◌, ℕ, Bool, List, [], ◌∷◌, ◌++◌, length, append_assoc, append-nil, arith}
use Rattle.std.specs.Prelude.{map}
use Rattle.hd_calls.specs.Hubs.{Hub}
use Rattle.hw_door.specs.declared.heard.Given.{Given}
use Rattle.hw_door.specs.declared.heard.Heard.{Heard}
use Rattle.hd_server.specs.Doings.{ServerEvent, Sees, work, hears, said, seen}
use Rattle.hd_server.specs.Plans.{Setup}
use Rattle.hd_server.specs.Serves.{IsSeen, ServesOne, given_as, lanes_sent, seeing}

-- each answer leaves it as it is
abbrev pub Stays : (List ServerEvent → Type 0) → Type 0
Stays P = (lane : ℕ) (full : Bool) (h : List ServerEvent) → P h → P (Sees lane full ∷ h)

all_stay : (P : List ServerEvent → Type 0) → Stays P → (lanes : List ℕ) (full : List Bool) (h : List ServerEvent) → P h → P (seeing lanes full h)
all_stay P stays [] full h p = p
all_stay P stays (lane ∷ lanes) [] h p = p
all_stay P stays (lane ∷ lanes) (f ∷ more) h p = all_stay P stays lanes more (Sees lane f ∷ h) (stays lane f h p)

-- and so all answers do
pub seen_stays : (P : List ServerEvent → Type 0) → Stays P → (given : List Given) (full : List Bool) (h after : List ServerEvent)
    → IsSeen given full h after → P h → P after
seen_stays P stays given full h after sees p = subst P (sym sees.sees) (all_stay P stays (lanes_sent given) full h p)

pub seen_hears : (given : List Given) (full : List Bool) (h after : List ServerEvent) → IsSeen given full h after → hears after ≡ hears h
seen_hears given full h after sees = seen_stays (λ x. hears x ≡ hears h) (λ lane f x e. e) given full h after sees refl

pub seen_work : (given : List Given) (full : List Bool) (h after : List ServerEvent) → IsSeen given full h after → work after ≡ work h
seen_work given full h after sees = seen_stays (λ x. work x ≡ work h) (λ lane f x e. e) given full h after sees refl

pub seen_said : (given : List Given) (full : List Bool) (h after : List ServerEvent) → IsSeen given full h after → said after ≡ said h
seen_said given full h after sees = seen_stays (λ x. said x ≡ said h) (λ lane f x e. e) given full h after sees refl

-- the answers are told last, one to each message
all_seen : (lanes : List ℕ) (full : List Bool) (h : List ServerEvent) → length full ≡ length lanes → seen (seeing lanes full h) ≡ seen h ++ full
all_seen [] [] h e = sym (append-nil (seen h))
all_seen [] (f ∷ more) h e = absurd (omega (arith, e))
all_seen (lane ∷ lanes) [] h e = absurd (omega (arith, e))
all_seen (lane ∷ lanes) (f ∷ more) h e = all_seen lanes more (Sees lane f ∷ h) (omega (arith, e)) ∙ append_assoc (seen h) (f ∷ []) more

pub seen_all : (given : List Given) (full : List Bool) (h after : List ServerEvent) → IsSeen given full h after → seen after ≡ seen h ++ full
seen_all given full h after sees = ap seen sees.sees ∙ all_seen (lanes_sent given) full h sees.each

-- what holds after the turn of an event holds once the answers are seen
pub one_stays : {Job : Type 0} → (P : List ServerEvent → Type 0) → Stays P → (hub : Hub Job) (s : Setup) (e : Heard) (h after : List ServerEvent)
    → (one : ServesOne hub s e h after) → P one.turned → P after
one_stays P stays hub s e h after one p = seen_stays P stays (map given_as one.words) one.full one.turned after one.seen p
