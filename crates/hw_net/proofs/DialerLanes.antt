-- In a session of a dialer a lane stands on the wire on which it asked.
use Rattle.std.proofs.Common.{◌≡◌, ◌≤◌, ◌<◌, ◌+◌, ◌==◌, ◌++◌, ◌∷◌, [], ℕ, zero, suc, Bool, true, false, cond, filter, if◌then◌else◌, List, None, Some, refl, sym, ap, ◌∙◌, subst, arith, length, slice_index_or}
use Rattle.hw_door.specs.declared.heard.Address.{Address}
use Rattle.hw_net.specs.declared.numbers.LaneWire.{LaneWire}
use Rattle.hw_net.specs.Chains.{is_there}
use Rattle.hw_net.specs.Dialer.{DialerState}
use Rattle.hw_net.specs.DialerSessions.{DialerCall, DialerSession, DoesOnLane, LanesKeepWires, asked, cut, does, idle, lane_asked_on, missed}
use Rattle.hw_net.specs.Door.{kept}
use Rattle.hw_net.specs.Sessions as session
use Rattle.hw_net.specs.Sessions.{Call}
use Rattle.hw_net.proofs.DialerWalks.{strides-in}
use Rattle.hw_net.proofs.Shares.{same}

-- each number lies below this bound by its wire, and is that of the ask there
abbrev pub AreAsked : List DialerCall → ℕ → List LaneWire → Type 0
AreAsked calls bound [] = Unit {0}
AreAsked calls bound (number ∷ numbers) = (number.wire + 1 ≤ bound) × (number.lane ≡ lane_asked_on number.wire calls) × AreAsked calls bound numbers

filtered : (calls : List DialerCall) (bound : ℕ) (is_kept : LaneWire → Bool) (numbers : List LaneWire) → AreAsked calls bound numbers → AreAsked calls bound (filter is_kept numbers)
filtered calls bound is_kept [] h = tt
filtered calls bound is_kept (number ∷ numbers) h = go (is_kept number) (filtered calls bound is_kept numbers h.2) where
  go : (b : Bool) → AreAsked calls bound (filter is_kept numbers) → AreAsked calls bound (cond b (number ∷ filter is_kept numbers) (filter is_kept numbers))
  go true k = (h.0, h.1, k)
  go false k = k

wider : (calls more : List DialerCall) (bound most : ℕ) (numbers : List LaneWire) → bound ≤ most → ((wire : ℕ) → wire + 1 ≤ bound → lane_asked_on wire more ≡ lane_asked_on wire calls) → AreAsked calls bound numbers →
    AreAsked more most numbers
wider calls more bound most [] le same h = tt
wider calls more bound most (number ∷ numbers) le same h = (omega (arith, le, h.0), h.1 ∙ sym (same number.wire h.0), wider calls more bound most numbers le same h.2)

pushed : (calls : List DialerCall) (bound : ℕ) (numbers : List LaneWire) (number : LaneWire) → AreAsked calls bound numbers → number.wire + 1 ≤ bound → number.lane ≡ lane_asked_on number.wire calls →
    AreAsked calls bound (numbers ++ number ∷ [])
pushed calls bound [] number h le e = (le, e, tt)
pushed calls bound (first ∷ numbers) number h le e = (h.0, h.1, pushed calls bound numbers number h.2 le e)

-- the numbers after a call on a lane are those before it, but for some
on-lane : (calls : List DialerCall) (lane : ℕ) (call : Call) (bound : ℕ) (before after : DialerState) → DoesOnLane lane call before after → AreAsked calls bound before.numbers → AreAsked calls bound after.numbers
on-lane calls lane (session.heard what answers) bound before after d h =
    subst (λ (s : DialerState). AreAsked calls bound s.numbers) (sym d.3) (filtered calls bound (λ (number : LaneWire). is_there number.wire (kept before.door.lanes)) before.numbers h)
on-lane calls lane (session.sent wire bytes text full answers) bound before after d h = subst (λ (s : DialerState). AreAsked calls bound s.numbers) (sym d.3) h
on-lane calls lane (session.shut wire answers) bound before after d h = subst (λ (s : DialerState). AreAsked calls bound s.numbers) (sym d.2) h
on-lane calls lane (session.wrote wire answers) bound before after d h = subst (λ (s : DialerState). AreAsked calls bound s.numbers) (sym d.1) h
on-lane calls lane (session.replied wire reply answers) bound before after d h = absurd d

pub each-asked : (addresses : List Address) (calls : List DialerCall) (bound : ℕ) (now : DialerState) → DialerSession addresses calls bound now → AreAsked calls bound now.numbers
each-asked addresses [] bound now h = subst (λ (s : DialerState). AreAsked [] bound s.numbers) (sym h) tt
each-asked addresses (does lane call ∷ calls) bound now h =
    wider calls (does lane call ∷ calls) h.0 bound now.numbers (strides-in addresses (does lane call) calls bound now h).bounds (λ wire le. refl)
    (on-lane calls lane call h.0 h.1 now h.3.0 (each-asked addresses calls h.0 h.1 h.2))
each-asked addresses (asked ask None answers ∷ calls) bound now h =
    wider calls (asked ask None answers ∷ calls) h.0 bound now.numbers (strides-in addresses (asked ask None answers) calls bound now h).bounds (λ wire le. refl)
    (subst (λ (s : DialerState). AreAsked calls h.0 s.numbers) (sym h.3.3) (each-asked addresses calls h.0 h.1 h.2))
each-asked addresses (asked ask (Some at) answers ∷ calls) bound now h =
    subst (λ (s : DialerState). AreAsked (asked ask (Some at) answers ∷ calls) bound s.numbers) (sym h.3.3)
    (pushed (asked ask (Some at) answers ∷ calls) bound h.1.numbers (record { lane = h.1.last + 1; wire = at })
    (wider calls (asked ask (Some at) answers ∷ calls) h.0 bound h.1.numbers (strides-in addresses (asked ask (Some at) answers) calls bound now h).bounds (λ wire le. other wire le) (each-asked addresses calls h.0 h.1 h.2))
    h.3.2.1 (sym h.3.0 ∙ sym (ap (λ b. if b then ask.lane else lane_asked_on at calls) (same at)))) where
      apart : (bound at wire : ℕ) → bound ≤ at → wire + 1 ≤ bound → (at == wire) ≡ false
      apart bound at wire k le = grind (arith, k, le)

      other : (wire : ℕ) → wire + 1 ≤ h.0 → lane_asked_on wire (asked ask (Some at) answers ∷ calls) ≡ lane_asked_on wire calls
      other wire le = ap (λ b. if b then ask.lane else lane_asked_on wire calls) (apart h.0 at wire h.3.2.0 le)
each-asked addresses (missed moment lane answers ∷ calls) bound now h =
    wider calls (missed moment lane answers ∷ calls) h.0 bound now.numbers (strides-in addresses (missed moment lane answers) calls bound now h).bounds (λ wire le. refl)
    (subst (λ (s : DialerState). AreAsked calls h.0 s.numbers) (sym h.3.6)
    (filtered calls h.0 (λ (number : LaneWire). is_there number.wire (kept h.1.door.lanes)) h.1.numbers (each-asked addresses calls h.0 h.1 h.2)))
each-asked addresses (idle told ∷ calls) bound now h =
    wider calls (idle told ∷ calls) h.0 bound now.numbers (strides-in addresses (idle told) calls bound now h).bounds (λ wire le. refl)
    (subst (λ (s : DialerState). AreAsked calls h.0 s.numbers) (sym h.3.1) (each-asked addresses calls h.0 h.1 h.2))
each-asked addresses (cut answers ∷ calls) bound now h =
    wider calls (cut answers ∷ calls) h.0 bound now.numbers (strides-in addresses (cut answers) calls bound now h).bounds (λ wire le. refl)
    (subst (λ (s : DialerState). AreAsked calls h.0 s.numbers) (sym h.3.1) (each-asked addresses calls h.0 h.1 h.2))

one-of : (calls : List DialerCall) (bound : ℕ) (numbers : List LaneWire) (number : LaneWire) (k : ℕ) → k < length numbers → slice_index_or numbers k number ≡ number → AreAsked calls bound numbers →
    number.lane ≡ lane_asked_on number.wire calls
one-of calls bound [] number k lt e h = absurd (omega (arith, lt))
one-of calls bound (first ∷ numbers) number zero lt e h = subst (λ (n : LaneWire). n.lane ≡ lane_asked_on n.wire calls) e h.1
one-of calls bound (first ∷ numbers) number (suc k) lt e h = one-of calls bound numbers number k (omega (arith, lt)) e h.2

pub lanes-keep-wires : LanesKeepWires
lanes-keep-wires addresses calls bound now h number has = one-of calls bound now.numbers number has.0 has.1 has.2 (each-asked addresses calls bound now h)
