-- The script of a soak: the numbers that are drawn from its seed, and the actions that they make. The latest action stands first.
use Rattle.std.specs.Prelude.{ℕ, zero, suc, ◌+◌, ◌*◌, ◌/◌, ◌%◌, ◌^◌, ◌&&◌, ◌==◌, nat_lt, List, [], ◌∷◌, ◌++◌, map, pos, codes, if◌then◌else◌}
use Rattle.hv_value.specs.Tree.{int}
use Rattle.hd_delivery.specs.declared.vocabulary.Side.TheVariants.{Client, Server}
use Rattle.hd_calls.specs.declared.vocabulary.CallKind.{CallKind}
use Rattle.hd_calls.specs.declared.vocabulary.CallKind.TheVariants as kind
use Rattle.sr_script.specs.declared.action.Count.TheVariants.{UpTo, Everything}
use Rattle.sr_script.specs.declared.action.Asking.{Asking}
use Rattle.sr_script.specs.declared.action.Action.{Action}
use Rattle.sr_script.specs.declared.action.Action.TheVariants.{Open, Accept, Write, Read, Call, Cancel, Round}
use Rattle.sr_notation.specs.declared.setting.Setting.{Setting}
use Rattle.sr_notation.specs.declared.setting.Setting.TheVariants as setting
use Rattle.sr_script.specs.Script.{opened}

-- ---- numbers drawn

-- the number of 64 bits that comes after x (a linear congruential generator, with Knuth's multiplier and increment of MMIX)
abbrev pub after : ℕ → ℕ
after x = (x * 6364136223846793005 + 1442695040888963407) % 2 ^ 64

-- what x is after so many draws
abbrev pub state : ℕ → ℕ → ℕ
state seed zero = seed
state seed (suc n) = after (state seed n)

-- what the draw of this number gives, counted from 0: the upper 31 bits
abbrev pub draw : ℕ → ℕ → ℕ
draw seed n = state seed (suc n) / 2 ^ 33

-- ---- actions

-- a call without uploads of whole numbers
abbrev pub asking : CallKind → List ℕ → List ℕ → Asking
asking way target numbers = record { kind = way; uploads = 0; target = target; arguments = map (λ n. int (pos n)) numbers }

-- a new link, which the server accepts
abbrev pub new_link : ℕ → List Action
new_link links = Accept links ∷ Open ∷ []

-- the first link, and the handshake on it
abbrev pub opening : List Action
opening = Read Client Everything ∷ Write Server Everything ∷ Read Server Everything ∷ Write Client Everything ∷ new_link 0

-- the most links that are opened before the last one
abbrev pub most_drawn_links : ℕ
most_drawn_links = 1000

-- what is done of kind k, by the number d, where so many links are there
abbrev pub drawn_actions : ℕ → ℕ → ℕ → List Action
drawn_actions k d links =
    if k == 0 then Call Client (asking kind.Call (codes "Echo") (d % 1000 ∷ [])) ∷ [] else
    (if k == 1 then Call Client (asking kind.Stream (codes "Count") (d % 5 ∷ [])) ∷ [] else
    (if k == 2 then Call Client (asking kind.Call (codes "Slow") (d % 7 ∷ d % 1000 ∷ [])) ∷ [] else
    (if k == 3 then Call Client (asking kind.Notify (codes "Echo") (d % 1000 ∷ [])) ∷ [] else
    (if k == 4 then Cancel Client (1 + d % 1000) ∷ [] else
    (if k == 5 then Call Server (asking kind.Call (codes "Confirm") (d % 1000 ∷ [])) ∷ [] else
    (if k == 6 then Write Client (UpTo (1 + d % 16)) ∷ [] else
    (if k == 7 then Write Server (UpTo (1 + d % 16)) ∷ [] else
    (if k == 8 then Read Client (UpTo (1 + d % 1024)) ∷ [] else
    (if k == 9 then Read Server (UpTo (1 + d % 1024)) ∷ [] else
    (if k == 10 then Round Client ∷ Round Server ∷ [] else
    (if (d % 8 == 0) && nat_lt links most_drawn_links then new_link links else Round Server ∷ [])))))))))))

-- the opening and so many times what two draws make: the first says what is done, the second how
abbrev pub drawn_script : ℕ → ℕ → List Action
drawn_script seed zero = opening
drawn_script seed (suc n) = drawn_actions (draw seed (2 * n) % 12) (draw seed (2 * n + 1)) (opened (drawn_script seed n)) ++ drawn_script seed n

-- and then the last link
abbrev pub whole_script : ℕ → ℕ → List Action
whole_script seed n = new_link (opened (drawn_script seed n)) ++ drawn_script seed n

-- a turn of the closing: the client writes; the server reads, its jobs have their turns and it writes; the client reads, and its jobs have theirs
abbrev pub closing_turn : List Action
closing_turn =
    Round Client ∷ Read Client (UpTo 1024) ∷ Write Server Everything ∷ Round Server ∷ Read Server (UpTo 1024) ∷ Write Client Everything ∷ []

-- these actions and so many turns
abbrev pub with_turns : ℕ → List Action → List Action
with_turns zero actions = actions
with_turns (suc n) actions = closing_turn ++ with_turns n actions

-- the most turns of a soak of so many actions
abbrev pub most_turns : ℕ → ℕ
most_turns n = 64 + 16 * n

-- the options of the script
abbrev pub soak_settings : List Setting
soak_settings = setting.Peers ∷ []
