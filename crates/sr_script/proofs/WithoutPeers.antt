-- Scripts in which no line asks for peers.
use Rattle.std.proofs.Common.{◌≡◌, ◌≤◌, ◌<◌, ◌+◌, ℕ, suc, inl, inr, true, false, List, [], ◌∷◌, ◌++◌, length, take, drop, reverse, refl, sym, ◌∙◌, ap, subst, arith, length-append}
use Rattle.std.proofs.lemmas.List.{append-nil, take_at, reverse-append}
use Rattle.hd_facts.specs.Unique.{IsTheOne}
use Rattle.sr_notation.specs.declared.setting.Setting.TheVariants as setting
use Rattle.sr_script.specs.declared.line.Asked.{Asked}
use Rattle.sr_script.specs.declared.line.Asked.TheVariants as asked
use Rattle.sr_script.specs.declared.script.Reader.{Reader}
use Rattle.sr_script.specs.declared.script.ScriptError.{ScriptError}
use Rattle.sr_script.specs.declared.script.ScriptError.TheVariants.{Line, NoMemory}
use Rattle.sr_script.specs.Lines.{lines_of}
use Rattle.sr_script.specs.Script.{Program, Adds, IsScript, Parses, IsWithoutPeers, IsWithoutPeersUpTo, IsRefusedWithoutPeers}
use Rattle.sr_script.specs.Asking.{and_then}
use Rattle.sr_script.specs.Reading.{HasRead, HasCome, RefusesText, RefusesWithoutPeers, asks_for_peers}
use Rattle.sr_script.proofs.Texts.{lines_grow}
use Rattle.sr_script.proofs.Parsing.{lacking_once, turned_lines, has_fewer, good_lines, good_script, same_up_to, has_same}

-- ---- what one line more asks for

keeps : (p : Program) (x : Asked) → IsWithoutPeers (and_then p x) → IsWithoutPeers p
keeps p (asked.Setting (setting.Codec codec)) without = without
keeps p (asked.Setting (setting.Version version)) without = without
keeps p (asked.Setting (setting.Reconnect keep)) without = without
keeps p (asked.Setting (setting.Buffer limits)) without = without
keeps p (asked.Setting setting.Peers) without = (let bad : true ≡ false = without in cc)
keeps p (asked.Action a) without = without

-- what doesn't ask for peers leaves the lines without them
pub stays_without : (p : Program) (x : Asked) → asks_for_peers x ≡ false → IsWithoutPeers p → IsWithoutPeers (and_then p x)
stays_without p (asked.Setting (setting.Codec codec)) other without = without
stays_without p (asked.Setting (setting.Version version)) other without = without
stays_without p (asked.Setting (setting.Reconnect keep)) other without = without
stays_without p (asked.Setting (setting.Buffer limits)) other without = without
stays_without p (asked.Setting setting.Peers) other without = (let bad : true ≡ false = other in cc)
stays_without p (asked.Action a) other without = without

-- and the option of peers doesn't
asks_now : (p : Program) (x : Asked) → asks_for_peers x ≡ true → IsWithoutPeers (and_then p x) → ⊥
asks_now p (asked.Setting (setting.Codec codec)) peers without = (let bad : false ≡ true = peers in cc)
asks_now p (asked.Setting (setting.Version version)) peers without = (let bad : false ≡ true = peers in cc)
asks_now p (asked.Setting (setting.Reconnect keep)) peers without = (let bad : false ≡ true = peers in cc)
asks_now p (asked.Setting (setting.Buffer limits)) peers without = (let bad : false ≡ true = peers in cc)
asks_now p (asked.Setting setting.Peers) peers without = (let bad : true ≡ false = without in cc)
asks_now p (asked.Action a) peers without = (let bad : false ≡ true = peers in cc)

adds_to : (line : List ℕ) (before now : Program) → Adds line before now → IsWithoutPeers now → IsWithoutPeers before
adds_to line before now (inl (s, (line_is, is, new, none, now_is))) without =
    keeps before (asked.Setting s) (subst IsWithoutPeers now_is without)
adds_to line before now (inr (a, (asks, turn, suits, now_is))) without =
    keeps before (asked.Action a) (subst IsWithoutPeers now_is without)

-- the first lines of a script without peers are one
without_before : (after lines : List (List ℕ)) (p : Program) → IsScript (after ++ lines) p → IsWithoutPeers p → (q : Program) × IsScript lines q × IsWithoutPeers q
without_before [] lines p script without = (p, script, without)
without_before (line ∷ after) lines p (utf8, inl (passed, script)) without = without_before after lines p script without
without_before (line ∷ after) lines p (utf8, inr (q, (script, more))) without = without_before after lines q script (adds_to line q p more without)

fewer : (text : List ℕ) (n m : ℕ) → m ≤ n → IsWithoutPeersUpTo text n → IsWithoutPeersUpTo text m
fewer text n m less has =
    let up_to = has_fewer text n m less has.up_to in
    let before = without_before (reverse (drop m (take n (lines_of text)))) (reverse (take m (lines_of text))) has.up_to.asks
    (subst (λ (ls : List (List ℕ)). IsScript ls has.up_to.asks) (turned_lines text n m less) has.up_to.script) has.without in
    record {
      up_to = record { there = up_to.there; within = up_to.within; asks = before.0; script = before.1 };
      without = before.2;
    }

-- ---- refusals

good_up_to : (text : List ℕ) (number : ℕ) (p : Program) (come : HasCome text p number) → IsWithoutPeers p → IsWithoutPeersUpTo text (length come.read.lines)
good_up_to text number p come without =
    let up_to = good_lines text come.reader p come.read in
    record {
      up_to = record { there = up_to.there; within = up_to.within; asks = p; script = good_script text come.reader p come.read };
      without = without;
    }

-- a line that no script goes on with is none without peers
pub refused_still : (text : List ℕ) (e : ScriptError) (p : Program) → ((n : ℕ) → e ≡ Line n → HasCome text p n) → IsWithoutPeers p
    → RefusesText e text → RefusesWithoutPeers e text
refused_still text (Line number) p comes without refused =
    let come = comes number refl in (
      lacking_once (IsWithoutPeersUpTo text) (fewer text) text number (record {
        before = length come.read.lines;
        next = sym come.number_is ∙ come.read.number;
        there = refused.0.holds.there;
        good = good_up_to text number p come without;
        bad = λ has. refused.0.holds.bad has.up_to;
      }),
      λ q parses _. refused.1 q parses,
    )
refused_still text NoMemory p comes without refused = tt

-- nor is the option of peers
pub refused_for_peers : (text : List ℕ) (number : ℕ) (p : Program) (x : Asked) (next : Reader) → HasCome text p number → IsWithoutPeers p
    → asks_for_peers x ≡ true → HasRead next text (and_then p x) → next.number ≡ suc number → RefusesWithoutPeers (Line number) text
refused_for_peers text number p x next come without asks read is =
    let many : number ≡ length read.lines = omega (arith, is, read.number) in
    let first : take number (lines_of text) ≡ read.lines =
    ap (λ xs. take number xs) read.whole ∙ take_at read.lines (lines_of (drop next.at text)) number (sym many) in
    let turned : reverse (lines_of text) ≡ reverse (lines_of (drop next.at text)) ++ reverse read.lines =
    ap reverse read.whole ∙ reverse-append read.lines (lines_of (drop next.at text)) in (
      lacking_once (IsWithoutPeersUpTo text) (fewer text) text number (record {
        before = length come.read.lines;
        next = sym come.number_is ∙ come.read.number;
        there = omega (arith, many, ap length read.whole, length-append read.lines (lines_of (drop next.at text)));
        good = good_up_to text number p come without;
        bad = λ has. asks_now p x asks (subst IsWithoutPeers
            (read.script.only has.up_to.asks (subst (λ (ls : List (List ℕ)). IsScript (reverse ls) has.up_to.asks) first has.up_to.script)) has.without);
      }),
      λ q parses none. (let before = without_before (reverse (lines_of (drop next.at text))) (reverse read.lines) q
          (subst (λ (ls : List (List ℕ)). IsScript ls q) turned parses.script) none in
          asks_now p x asks (subst IsWithoutPeers (read.script.only before.0 before.1) before.2)),
    )

-- ---- what comes after the limit

same_without : (front a b : List ℕ) (n : ℕ) → 16777216 < length front → IsWithoutPeersUpTo (front ++ a) n → IsWithoutPeersUpTo (front ++ b) n
same_without front a b n long has =
    let up_to = has_same front a b n long has.up_to in
    record {
      up_to = record {
        there = up_to.there;
        within = up_to.within;
        asks = has.up_to.asks;
        script = subst (λ (ls : List (List ℕ)). IsScript (reverse ls) has.up_to.asks) (sym (same_up_to front a b n long has.up_to)) has.up_to.script;
      };
      without = has.without;
    }

-- a text of more bytes than a script may have is refused at the same line with more bytes after it
pub front_refused : (front more : List ℕ) (number : ℕ) → 16777216 < length front → IsTheOne (IsRefusedWithoutPeers front) number
    → IsTheOne (IsRefusedWithoutPeers (front ++ more)) number
front_refused front more number long refused =
    let at : IsRefusedWithoutPeers (front ++ []) number = subst (λ (xs : List ℕ). IsRefusedWithoutPeers xs number) (sym (append-nil front)) refused.holds in
    lacking_once (IsWithoutPeersUpTo (front ++ more)) (fewer (front ++ more)) (front ++ more) number (record {
      before = at.before;
      next = at.next;
      there = omega (arith, refused.holds.there, lines_grow front more);
      good = same_without front [] more at.before long at.good;
      bad = λ has. at.bad (same_without front more [] number long has);
    })
