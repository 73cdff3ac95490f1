-- What the lines of a script bring together.
use Rattle.std.proofs.Common.{⊎_elim, ℕ, List, [], ◌∷◌, reverse, sym, subst, arith}
use Rattle.sr_notation.specs.declared.setting.Setting.{Setting}
use Rattle.sr_notation.specs.declared.setting.Setting.TheVariants as setting
use Rattle.sr_script.specs.Lines.{lines_of}
use Rattle.sr_notation.specs.Settings.{IsSetting}
use Rattle.sr_script.specs.Script.{Program, IsScript, Adds, Parses, AreInTurn, AllSuit}
use Rattle.sr_notation.specs.Terms.{peers_in}
use Rattle.sr_script.specs.Laws.{IsSettled}

-- ---- actions

lines_in_turn : (lines : List (List ℕ)) (p : Program) → IsScript lines p → AreInTurn p.actions
lines_in_turn [] p e = subst (λ q. AreInTurn q.actions) (sym e) tt
lines_in_turn (line ∷ before) p e = ⊎_elim (λ f. lines_in_turn before p f.1) (λ f. added f.0 (lines_in_turn before f.0 f.1.0) f.1.1) e.1
  where
    added : (q : Program) → AreInTurn q.actions → Adds line q p → AreInTurn p.actions
    added q turns a = ⊎_elim (λ f. subst (λ r. AreInTurn r.actions) (sym f.1.4) tt) (λ f. subst (λ r. AreInTurn r.actions) (sym f.1.3) (turns, f.1.1)) a

pub in_turn : (text : List ℕ) (p : Program) → Parses text p → AreInTurn p.actions
in_turn text p e = lines_in_turn (reverse (lines_of text)) p e.script

-- the actions suit the options of the program
abbrev IsSuited : Program → Type 0
IsSuited p = AllSuit (peers_in p.settings) p.actions

lines_suit : (lines : List (List ℕ)) (p : Program) → IsScript lines p → IsSuited p
lines_suit [] p e = subst IsSuited (sym e) tt
lines_suit (line ∷ before) p e = ⊎_elim (λ f. lines_suit before p f.1) (λ f. added f.0 (lines_suit before f.0 f.1.0) f.1.1) e.1
  where
    added : (q : Program) → IsSuited q → Adds line q p → IsSuited p
    added q suited a = ⊎_elim (λ f. subst IsSuited (sym f.1.4) tt) (λ f. subst IsSuited (sym f.1.3) (suited, f.1.2)) a

pub suited : (text : List ℕ) (p : Program) → Parses text p → IsSuited p
suited text p e = lines_suit (reverse (lines_of text)) p e.script

-- ---- options

one_more : (s : Setting) (settings : List Setting) → IsSetting s → IsSettled settings → IsSettled (s ∷ settings)
one_more (setting.Codec codec) settings i before = record { version = before.version; limits = before.limits }
one_more (setting.Version version) settings i before = record { version = i; limits = before.limits }
one_more (setting.Reconnect keep) settings i before = record { version = before.version; limits = before.limits }
one_more (setting.Buffer limits) settings i before = record { version = before.version; limits = i }
one_more setting.Peers settings i before = record { version = before.version; limits = before.limits }

none_yet : IsSettled []
none_yet = record {
  version = (omega arith, omega arith);
  limits = record {
    frame_not_less = omega arith;
    frame_not_more = omega arith;
    count_not_less = omega arith;
    count_not_more = omega arith;
    bytes_not_less = omega arith;
    bytes_not_more = omega arith;
  };
}

lines_settle : (lines : List (List ℕ)) (p : Program) → IsScript lines p → IsSettled p.settings
lines_settle [] p e = subst (λ q. IsSettled q.settings) (sym e) none_yet
lines_settle (line ∷ before) p e = ⊎_elim (λ f. lines_settle before p f.1) (λ f. added f.0 (lines_settle before f.0 f.1.0) f.1.1) e.1
  where
    added : (q : Program) → IsSettled q.settings → Adds line q p → IsSettled p.settings
    added q settled a = ⊎_elim (λ f. subst (λ r. IsSettled r.settings) (sym f.1.4) (one_more f.0 q.settings f.1.1 settled)) (λ f. subst (λ r. IsSettled r.settings) (sym f.1.3) settled) a

pub settled : (text : List ℕ) (p : Program) → Parses text p → IsSettled p.settings
settled text p e = lines_settle (reverse (lines_of text)) p e.script
