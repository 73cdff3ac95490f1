-- Lines of a script, the latest first: what one line more makes of what they ask for.
use Rattle.std.proofs.Common.{◌≡◌, ◌≤◌, ℕ, ◌⊎◌, inl, inr, List, [], ◌∷◌, ◌++◌, refl, ◌∙◌, ap, subst, arith}
use Rattle.std.specs.Str.{IsUtf8}
use Rattle.hd_facts.specs.Unique.{IsTheOne}
use Rattle.hd_calls.specs.declared.vocabulary.CallKind.{CallKind}
use Rattle.hd_calls.specs.declared.vocabulary.CallKind.TheVariants as kind
use Rattle.sr_script.specs.declared.action.Action.TheVariants.{Open, Accept, Lose, Write, Read, Close, Send, Tick, Call, Item, Done, Cancel, Round}
use Rattle.sr_script.specs.declared.line.Asked.{Asked}
use Rattle.sr_script.specs.declared.line.Asked.TheVariants as asked
use Rattle.sr_script.specs.Script.{Program, IsCallWord, IsPassedOver, Adds, IsScript}
use Rattle.sr_script.specs.Asking.{Wants, MayCome, IsReadable, IsAllowed, and_then}
use Rattle.sr_script.specs.Reading.{Comes, CantCome}
use Rattle.sr_script.proofs.Grammar.{not_passed}

-- what a line adds, as one thing that it asks for
record IsAdded (line : List ℕ) (before now : Program) : Type 0 where
  pub asked : Asked
  pub wanted : Wants line asked
  pub in_turn : MayCome before asked
  pub now_is : now ≡ and_then before asked

added : (line : List ℕ) (before now : Program) → Adds line before now → IsAdded line before now
added line before now (inl (s, (line_is, is, new, none, now_is))) =
    record { asked = asked.Setting s; wanted = (line_is, is); in_turn = (new, none); now_is = now_is }
added line before now (inr (a, (asks, turn, suits, now_is))) =
    record { asked = asked.Action a; wanted = asks; in_turn = (turn, suits); now_is = now_is }

adds : (line : List ℕ) (before : Program) (x : Asked) → Wants line x → MayCome before x → Adds line before (and_then before x)
adds line before (asked.Setting s) wanted turn = inl (s, (wanted.0, wanted.1, turn.0, turn.1, refl))
adds line before (asked.Action a) wanted turn = inr (a, (wanted, turn.0, turn.1, refl))

-- lines from the first on are a script if they are one with those after them
pub script_before : (after lines : List (List ℕ)) (p : Program) → IsScript (after ++ lines) p → (q : Program) × IsScript lines q
script_before [] lines p script = (p, script)
script_before (line ∷ after) lines p (utf8, inl (passed, script)) = script_before after lines p script
script_before (line ∷ after) lines p (utf8, inr (q, (script, more))) = script_before after lines q script

-- a line that is passed over
pub passed_over : (line : List ℕ) (before : List (List ℕ)) (p : Program) → IsUtf8 line → IsPassedOver line → IsTheOne (IsScript before) p
    → IsTheOne (IsScript (line ∷ before)) p
passed_over line before p utf8 passed one = record { holds = (utf8, inl (passed, one.holds)); only = λ other script. same other script.1 } where
  same : (other : Program) → (IsPassedOver line × IsScript before other) ⊎ ((q : Program) × (IsScript before q × Adds line q other)) → other ≡ p
  same other (inl (again, script)) = one.only other script
  same other (inr (q, (script, more))) = (let a = added line q other more in absurd (not_passed line a.asked a.wanted passed))

-- a line that asks for something
pub asked_for : (line : List ℕ) (before : List (List ℕ)) (p : Program) (x : Asked) → Comes line p x → IsTheOne (IsScript before) p
    → IsTheOne (IsScript (line ∷ before)) (and_then p x)
asked_for line before p x comes one = record {
  holds = (comes.utf8, inr (p, (one.holds, adds line p x comes.wanted.holds comes.in_turn)));
  only = λ other script. same other script.1;
} where
  same : (other : Program) → (IsPassedOver line × IsScript before other) ⊎ ((q : Program) × (IsScript before q × Adds line q other)) → other ≡ and_then p x
  same other (inl (passed, script)) = absurd (not_passed line x comes.wanted.holds passed)
  same other (inr (q, (script, more))) =
      let a = added line q other more in
      a.now_is ∙ ap (λ (r : Program). and_then r a.asked) (one.only q script) ∙ ap (λ (y : Asked). and_then p y) (comes.wanted.only a.asked a.wanted)

-- a line that is none of a script
pub no_line : (line : List ℕ) (before : List (List ℕ)) (p : Program) → (IsUtf8 line × IsPassedOver line → ⊥) → CantCome line p → IsTheOne (IsScript before) p
    → (other : Program) → IsScript (line ∷ before) other → ⊥
no_line line before p not_over cant one other (utf8, inl (passed, script)) = not_over (utf8, passed)
no_line line before p not_over cant one other (utf8, inr (q, (script, more))) =
    let a = added line q other more in
    cant utf8 a.asked a.wanted (subst (λ (r : Program). MayCome r a.asked) (one.only q script) a.in_turn)

few_uploads : (word : List ℕ) (k : CallKind) (uploads : ℕ) → IsCallWord word k uploads → uploads ≤ 1
few_uploads word kind.Call uploads (inl is) = omega (arith, is.1)
few_uploads word kind.Call uploads (inr is) = omega (arith, is.1)
few_uploads word kind.Stream uploads is = omega (arith, is.1)
few_uploads word kind.Notify uploads is = omega (arith, is.1)

-- what a line asks for is an option in range, or an action whose message can be sent
pub allowed : (line : List ℕ) (x : Asked) → Wants line x → IsReadable x → IsAllowed x
allowed line (asked.Setting s) wants readable = wants.1
allowed line (asked.Action Open) wants readable = tt
allowed line (asked.Action (Accept link)) wants readable = tt
allowed line (asked.Action (Lose side)) wants readable = tt
allowed line (asked.Action (Write side count)) wants readable = tt
allowed line (asked.Action (Read side count)) wants readable = tt
allowed line (asked.Action (Close side)) wants readable = tt
allowed line (asked.Action (Send side m)) wants readable = (wants.1.2, readable)
allowed line (asked.Action (Tick now)) wants readable = tt
allowed line (asked.Action (Call side a)) wants readable = few_uploads wants.1.1.word a.kind a.uploads wants.1.1.called
allowed line (asked.Action (Item side call value)) wants readable = tt
allowed line (asked.Action (Done side call)) wants readable = tt
allowed line (asked.Action (Cancel side call)) wants readable = tt
allowed line (asked.Action (Round side)) wants readable = tt
