-- A script without peers, whose actions two ends have done.
use Rattle.std.proofs.Common.{◌≡◌, ℕ, false, List, [], ◌∷◌, ◌++◌, refl, sym, subst}
use Rattle.sr_script.specs.declared.line.Asked.{Asked}
use Rattle.sr_script.specs.declared.line.Asked.TheVariants as asked
use Rattle.sr_replay.specs.declared.pair.Pair.{Pair}
use Rattle.sr_script.specs.declared.action.Action.{Action}
use Rattle.sr_script.specs.declared.action.Action.TheVariants.{Call, Item, Done, Cancel, Round}
use Rattle.sr_script.specs.declared.script.Reader.{Reader}
use Rattle.sr_script.specs.Script.{Program, Parses, Suits}
use Rattle.sr_notation.specs.Terms.{peers_in}
use Rattle.sr_script.specs.Reading.{HasRead}
use Rattle.sr_script.specs.Laws.{SettingsComeFirst}
use Rattle.sr_replay.specs.Runs.{Run}
use Rattle.sr_script.specs.Asking.{IsWhole, IsAllowed, MayCome, and_then}
use Rattle.sr_replay.specs.Follows.{Follows, IsOfEnds}
use Rattle.sr_replay.specs.Replays.{ActsAll, HasSettings, IsForEnds, Obeys}

-- one line more was obeyed
pub obeyed : (x : Asked) (p : Program) (old before new : Pair) (gone : List ℕ) → MayCome p x → ActsAll old p.actions gone before → Obeys before x new
    → ActsAll old (and_then p x).actions gone new
obeyed (asked.Setting s) p old before new gone may acts same = λ kind limits wire t begun.
    subst (λ pair. (r : Run) × Follows kind gone limits wire t [] r pair) (sym same)
    (subst (λ actions. (r : Run) × Follows kind gone limits wire t actions r before) may.1 (acts kind limits wire t begun))
obeyed (asked.Action a) p old before new gone may acts goes = λ kind limits wire t begun.
    let run = acts kind limits wire t begun in
    let made = goes kind gone limits wire t p.actions run.0 run.1 may.0 in
    (made.0 ++ run.0, made.1.1)

-- ---- options

-- once a line more was read, its options are still known
pub still_known : SettingsComeFirst → (text : List ℕ) (reader : Reader) (q : Program) (x : Asked) → HasSettings text q → MayCome q x
    → HasRead reader text (and_then q x) → HasSettings text (and_then q x)
still_known first text reader q (asked.Setting s) known may read some p parses = absurd (some refl)
still_known first text reader q (asked.Action a) known may read some p parses = by_actions q.actions refl where
  by_actions : (actions : List Action) → q.actions ≡ actions → p.settings ≡ q.settings
  by_actions [] e = first text reader q.settings a p (subst (λ actions. HasRead reader text (record { settings = q.settings; actions = a ∷ actions })) e read) parses
  by_actions (b ∷ before) e = known (λ none. cc) p parses

-- without peers an action that suits the options is one of ends alone
of_ends : (a : Action) → Suits false a → IsWhole a → IsOfEnds a
of_ends (Call side asking) suits whole = absurd (cc)
of_ends (Item side call value) suits whole = absurd (cc)
of_ends (Done side call) suits whole = absurd (cc)
of_ends (Cancel side call) suits whole = absurd (cc)
of_ends (Round side) suits whole = absurd (cc)
of_ends _ suits whole = whole

pub for_ends : (text : List ℕ) (q p : Program) (x : Asked) → Parses text p → peers_in p.settings ≡ false → HasSettings text (and_then q x) → MayCome q x → IsAllowed x
    → IsForEnds x
for_ends text q p (asked.Setting s) parses none known may allowed = tt
for_ends text q p (asked.Action a) parses none known may allowed =
    let same : p.settings ≡ q.settings = known (λ e. cc) p parses in
    let off : peers_in q.settings ≡ false = subst (λ settings. peers_in settings ≡ false) same none in
    of_ends a (subst (λ peers. Suits peers a) off may.1) allowed
