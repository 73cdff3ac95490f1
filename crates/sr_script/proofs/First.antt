-- The options of a script come before its actions.
use Rattle.std.proofs.Common.{◌≡◌, ℕ, inl, inr, List, [], ◌∷◌, ◌++◌, drop, reverse, refl, sym, ◌∙◌, ap, subst}
use Rattle.std.proofs.lemmas.List.{reverse-append}
use Rattle.sr_notation.specs.declared.setting.Setting.{Setting}
use Rattle.sr_script.specs.declared.action.Action.{Action}
use Rattle.sr_script.specs.declared.script.Reader.{Reader}
use Rattle.sr_script.specs.Lines.{lines_of}
use Rattle.sr_script.specs.Script.{Program, Parses, Adds, IsScript}
use Rattle.sr_script.specs.Reading.{HasRead}

-- the program has these options, and some action
record Keeps (q p : Program) : Type 0 where
  pub settings : p.settings ≡ q.settings
  pub some : p.actions ≡ [] → ⊥

-- after an action a line adds no option
keeps_on : (line : List ℕ) (q m p : Program) → Keeps q m → Adds line m p → Keeps q p
keeps_on line q m p k (inl (s, (line_is, is, new, none, now_is))) = absurd (k.some none)
keeps_on line q m p k (inr (a, (asks, turn, suits, now_is))) = record {
  settings = ap (λ x. x.settings) now_is ∙ k.settings;
  some = λ e. (let z : ◌≡◌ {A = List Action} (a ∷ m.actions) [] = sym (ap (λ x. x.actions) now_is) ∙ e in cc);
}

-- the first lines of a script are one, and have its options if they ask for an action
kept_after : (after lines : List (List ℕ)) (p : Program) → IsScript (after ++ lines) p → (q : Program) × (IsScript lines q × ((q.actions ≡ [] → ⊥) → Keeps q p))
kept_after [] lines p is = (p, (is, λ some. record { settings = refl; some = some }))
kept_after (line ∷ after) lines p (utf8, inl (over, is)) = kept_after after lines p is
kept_after (line ∷ after) lines p (utf8, inr (m, (is, adds))) =
    let k = kept_after after lines m is in
    (k.0, (k.1.0, λ some. keeps_on line k.0 m p (k.1.1 some) adds))

-- the options that stand before the first action are those of the script
pub first_settings : (text : List ℕ) (reader : Reader) (settings : List Setting) (a : Action) (p : Program)
    → HasRead reader text (record { settings = settings; actions = a ∷ [] }) → Parses text p → p.settings ≡ settings
first_settings text reader settings a p read parses =
    let rest : List (List ℕ) = lines_of (drop reader.at text) in
    let all : reverse (lines_of text) ≡ reverse rest ++ reverse read.lines = ap reverse read.whole ∙ reverse-append read.lines rest in
    let k = kept_after (reverse rest) (reverse read.lines) p (subst (λ (ls : List (List ℕ)). IsScript ls p) all parses.script) in
    let same : k.0 ≡ record { settings = settings; actions = a ∷ [] } = read.script.only k.0 k.1.0 in
    let keeps = k.1.1 (λ e. (let z : ◌≡◌ {A = List Action} (a ∷ []) [] = sym (ap (λ x. x.actions) same) ∙ e in cc)) in
    keeps.settings ∙ ap (λ x. x.settings) same
