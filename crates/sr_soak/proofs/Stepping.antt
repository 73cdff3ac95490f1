-- What a step of a soak makes of two peers that stand for its actions so far.
use Rattle.std.proofs.Common.{◌≡◌, ◌+◌, ◌*◌, ◌/◌, ◌%◌, ◌^◌, ℕ, suc, List, [], ◌∷◌, ◌++◌, sym, ap, ◌∙◌, subst, arith}
use Rattle.hd_delivery.specs.declared.vocabulary.Side.TheVariants.{Client, Server}
use Rattle.hd_calls.specs.PeerWorlds.{Pair}
use Rattle.sr_script.specs.declared.action.Count.TheVariants.{Everything}
use Rattle.sr_script.specs.declared.action.Action.{Action}
use Rattle.sr_script.specs.declared.action.Action.TheVariants.{Write, Read}
use Rattle.sr_script.specs.Script.{opened, AreInTurn}
use Rattle.sr_peers.specs.declared.peers.Peers.{Peers}
use Rattle.sr_peers.specs.Runs.{Run}
use Rattle.sr_peers.specs.Follows.{Follows, GoesOn}
use Rattle.sr_soak.specs.Recipe.{after, draw, drawn_actions, drawn_script, new_link, opening, state}
use Rattle.sr_soak.specs.Soaks.{soak_pair}
use Rattle.sr_soak.specs.Plays.{Adds, Reaches}
use Rattle.sr_soak.proofs.InTurn.{drawn_script_in_turn, opening_sound}

-- an action that went on is added
pub adds_one : (old new : Peers) (a : Action) (before after : List ℕ) → GoesOn old a new before after → Adds (a ∷ []) old new
adds_one old new a text_before text_after goes before reaches turns wire house =
    let was = reaches wire house in
    let is = goes (soak_pair wire) before was.0 was.1 turns.1 in
    (is.0 ++ was.0, is.2.1)

-- and a second after it
pub adds_two : (old mid new : Peers) (a b : Action) → Adds (a ∷ []) old mid → Adds (b ∷ []) mid new → Adds (b ∷ a ∷ []) old new
adds_two old mid new a b one two before reaches turns = two (a ∷ before) (one before reaches turns.0) turns

-- ---- the opening

pub opens : (none linked wrote heard answered new : Peers) → Adds (new_link 0) none linked → Adds (Write Client Everything ∷ []) linked wrote
    → Adds (Read Server Everything ∷ []) wrote heard → Adds (Write Server Everything ∷ []) heard answered → Adds (Read Client Everything ∷ []) answered new
    → Reaches [] none → Reaches opening new
opens none linked wrote heard answered new one two three four five start =
    let t = opening_sound.turns in
    five _ (four _ (three _ (two _ (one [] start t.0.0.0.0) t.0.0.0) t.0.0) t.0) t

-- ---- what is drawn

-- the two numbers that are drawn, and what comes after
pub record AreDrawn (seed n kind number last : ℕ) : Type 0 where
  pub first : kind ≡ draw seed (2 * n)
  pub second : number ≡ draw seed (2 * n + 1)
  pub next : last ≡ state seed (2 * suc n)

pub are_drawn : (seed n x y z kind number : ℕ) → kind ≡ after x / 2 ^ 33 → y ≡ after x → number ≡ after y / 2 ^ 33 → z ≡ after y → x ≡ state seed (2 * n)
    → AreDrawn seed n kind number z
are_drawn seed n x y z kind number kind_is y_is number_is z_is x_is =
    let one_on : suc (2 * n) ≡ 2 * n + 1 = omega arith in
    let two_on : suc (2 * n + 1) ≡ 2 * suc n = omega arith in
    let first : y ≡ state seed (2 * n + 1) = y_is ∙ ap after x_is ∙ ap (state seed) one_on in
    record {
      first = kind_is ∙ ap (λ v. after v / 2 ^ 33) x_is;
      second = number_is ∙ ap (λ v. after v / 2 ^ 33) first;
      next = z_is ∙ ap after first ∙ ap (state seed) two_on;
    }

drawn_alike : (k k' d d' links links' : ℕ) → k ≡ k' → d ≡ d' → links ≡ links' → drawn_actions (k % 12) d links ≡ drawn_actions (k' % 12) d' links'
drawn_alike k k' d d' links links' e f g =
    ap (λ v. drawn_actions (v % 12) d links) e ∙ ap (λ v. drawn_actions (k' % 12) v links) f ∙ ap (λ v. drawn_actions (k' % 12) d' v) g

-- the peers stand for what these make too
pub reaches_drawn : (seed n kind number last links : ℕ) (old new : Peers) (actions : List Action) → AreDrawn seed n kind number last
    → ((p : Pair) (before : List Action) (r : Run) → Follows p before r old → links ≡ opened before)
    → actions ≡ drawn_actions (kind % 12) number links → Adds actions old new → Reaches (drawn_script seed n) old → Reaches (drawn_script seed (suc n)) new
reaches_drawn seed n kind number last links old new actions drawn links_are actions_are adds reaches wire house =
    let was = reaches wire house in
    let before = drawn_script seed n in
    let is : actions ≡ drawn_actions (draw seed (2 * n) % 12) (draw seed (2 * n + 1)) (opened (drawn_script seed n)) =
    actions_are ∙ drawn_alike kind (draw seed (2 * n)) number (draw seed (2 * n + 1)) links (opened (drawn_script seed n)) drawn.first drawn.second
    (links_are (soak_pair wire) before was.0 was.1) in
    subst (λ xs. (r : Run) × Follows (soak_pair wire) (xs ++ before) r new) is
    (adds before reaches (subst (λ xs. AreInTurn (xs ++ before)) (sym is) (drawn_script_in_turn seed (suc n))) wire house)
