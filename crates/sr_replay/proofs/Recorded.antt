-- A script without peers, whose actions two ends do, while what they tell is put.
use Rattle.std.proofs.Common.{◌≡◌, ℕ, List, [], ◌∷◌, ◌++◌, take, drop, reverse, inl, inr, Option, refl, sym, ap, ◌∙◌, subst, append_assoc, append-nil, take-append-drop}
use Rattle.std.specs.Io.KnownBytes.{Appends}
use Rattle.std.proofs.KnownBytes.{Appends-nil, Appends-trans}
use Rattle.std.proofs.lemmas.List.{reverse-append}
use Rattle.sr_script.specs.declared.action.Action.{Action}
use Rattle.sr_script.specs.declared.line.Asked.{Asked}
use Rattle.sr_script.specs.declared.script.Reader.{Reader}
use Rattle.sr_script.specs.Lines.{lines_of}
use Rattle.sr_script.specs.Script.{Program, IsScript, Adds, Parses}
use Rattle.sr_script.specs.Reading.{HasRead}
use Rattle.sr_script.specs.Asking.{MayCome, and_then}
use Rattle.sr_replay.specs.declared.pair.Pair.{Pair}
use Rattle.sr_replay.specs.Follows.{HandsOut}
use Rattle.sr_replay.specs.Replays.{Obeys, ActsAll}
use Rattle.sr_replay.specs.Records.{PutsAll, IsToldPart, PutsPart}
use Rattle.sr_replay.proofs.Replayed.{obeyed}

-- ---- what was read

-- a line adds at most one action
added_after : (line : List ℕ) (q m p : Program) → ((later : List Action) × (m.actions ≡ later ++ q.actions)) → Adds line m p → (later : List Action) × (p.actions ≡ later ++ q.actions)
added_after line q m p k (inl (s, (line_is, is, new, none, now_is))) = (k.0, ap (λ x. x.actions) now_is ∙ sym none ∙ k.1)
added_after line q m p k (inr (a, (asks, turn, suits, now_is))) = (a ∷ k.0, ap (λ x. x.actions) now_is ∙ ap (λ x. a ∷ x) k.1)

-- the first lines of a script ask for its first actions
asked_before : (after lines : List (List ℕ)) (p : Program) → IsScript (after ++ lines) p
    → (q : Program) × (IsScript lines q × ((later : List Action) × (p.actions ≡ later ++ q.actions)))
asked_before [] lines p is = (p, (is, ([], refl)))
asked_before (line ∷ after) lines p (utf8, inl (over, is)) = asked_before after lines p is
asked_before (line ∷ after) lines p (utf8, inr (m, (is, adds))) =
    let k = asked_before after lines m is in
    (k.0, (k.1.0, added_after line k.0 m p k.1.1 adds))

-- what was read of a script are its first actions
read_before : (text : List ℕ) (reader : Reader) (q p : Program) → HasRead reader text q → Parses text p → (later : List Action) × (p.actions ≡ later ++ q.actions)
read_before text reader q p read parses =
    let rest : List (List ℕ) = lines_of (drop reader.at text) in
    let all : reverse (lines_of text) ≡ reverse rest ++ reverse read.lines = ap reverse read.whole ∙ reverse-append read.lines rest in
    let k = asked_before (reverse rest) (reverse read.lines) p (subst (λ (ls : List (List ℕ)). IsScript ls p) all parses.script) in
    let same : k.0 ≡ q = read.script.only k.0 k.1.0 in
    (k.1.1.0, k.1.1.1 ∙ ap (λ x. k.1.1.0 ++ x.actions) same)

-- ---- what was put

-- of what two ends told of these actions a first part was put
abbrev pub PutsFirst : Pair → List Action → Pair → Option (List ℕ) → Option (List ℕ) → Type 0
PutsFirst old actions new before now = (bytes : List ℕ) × (Appends before now bytes × ActsAll old actions bytes new)

pub put_none : (pair : Pair) (before : Option (List ℕ)) → PutsFirst pair [] pair before before
put_none pair before = ([], (Appends-nil before, λ kind limits wire t begun. ([], begun)))

module _ (old : Pair) (before : Option (List ℕ)) where
  -- one line more was obeyed
  pub put_still : (x : Asked) (q : Program) (mid new : Pair) (now : Option (List ℕ)) → MayCome q x → PutsFirst old q.actions mid before now → Obeys mid x new
      → PutsFirst old (and_then q x).actions new before now
  put_still x q mid new now may was obeys = (was.0, (was.1.0, obeyed x q old mid new was.0 may was.1.1 obeys))

  -- some more was put
  pub put_on : (actions : List Action) (mid new : Pair) (now later : Option (List ℕ)) → PutsFirst old actions mid before now
      → ((bytes : List ℕ) × (Appends now later bytes × HandsOut mid bytes new)) → PutsFirst old actions new before later
  put_on actions mid new now later was put = (
    was.0 ++ put.0,
    (
      Appends-trans before now later was.0 put.0 was.1.0 put.1.0,
      λ kind limits wire t begun. let run = was.1.1 kind limits wire t begun in (run.0, put.1.1 kind was.0 limits wire t actions run.0 run.1),
    ),
  )

  -- in the end nothing is left to be put
  pub put_all : (p : Program) (new : Pair) (now : Option (List ℕ)) → PutsFirst old p.actions new before now → new.told.items ≡ [] → PutsAll old p new before now
  put_all p new now was empty = (was.0, (was.1.0, was.1.1, empty))

  module _ (text : List ℕ) (reader : Reader) (q p : Program) (read : HasRead reader text q) (parses : Parses text p) (mid : Pair) (now : Option (List ℕ))
      (was : PutsFirst old q.actions mid before now) where
    told_first : (n : ℕ) → IsToldPart old p (was.0 ++ take n mid.told.items)
    told_first n =
        let first = read_before text reader q p read parses in record {
          later = first.0;
          before = q.actions;
          actions = first.1;
          told = λ kind limits wire t begun.
              let run = was.1.1 kind limits wire t begun in (
                run.0,
                (
                  run.1.runs,
                  (
                    drop n mid.told.items,
                    append_assoc was.0 (take n mid.told.items) (drop n mid.told.items) ∙ (ap (λ x. was.0 ++ x) (take-append-drop n mid.told.items) ∙ run.1.told),
                  ),
                ),
              );
        }

    -- nothing more is put
    pub put_stops : PutsPart old p before now
    put_stops = (was.0, (was.1.0, subst (IsToldPart old p) (append-nil was.0) (told_first 0)))

    -- some of what was told is put, and no more
    pub put_fails : (later : Option (List ℕ)) → ((n : ℕ) × Appends now later (take n mid.told.items)) → PutsPart old p before later
    put_fails later put = (
      was.0 ++ take put.0 mid.told.items,
      (Appends-trans before now later was.0 (take put.0 mid.told.items) was.1.0 put.1, told_first put.0),
    )
