-- The lines of a script: each asks for one thing at most, which its first bytes tell.
use Rattle.std.proofs.Common.{◌≡◌, ◌≢◌, ◌<◌, ◌≤◌, ◌^◌, ℕ, ◌⊎◌, inl, inr, true, false, List, [], ◌∷◌, ◌++◌, get_or, Option, Some, None, Result, Ok, Err, IfOk, IfSome, IfNone, refl, sym, ◌∙◌, ap, subst, arith}
use Rattle.std.specs.Fmt.{decimal}
use Rattle.std.specs.Int.{IsInRange}
use Rattle.std.proofs.lemmas.Fmt.{decimal_injective, decimal_is_IsNumeral, decimal_nonempty}
use Rattle.std.proofs.lemmas.Str.Parse.{digit_at}
use Rattle.std.proofs.lemmas.List.{append_cancel_left}
use Rattle.hm_message.specs.declared.message.Codec.TheVariants.{Json, Pack}
use Rattle.hm_message.specs.declared.message.Message.{Message}
use Rattle.hm_message.specs.Message.{is_sequenced}
use Rattle.hm_json.specs.Says.{Says}
use Rattle.hd_delivery.specs.declared.vocabulary.Side.{Side}
use Rattle.hd_delivery.specs.declared.vocabulary.Side.TheVariants.{Client, Server}
use Rattle.hd_facts.specs.Unique.{IsTheOne}
use Rattle.sr_notation.specs.declared.setting.Setting.{Setting}
use Rattle.sr_notation.specs.declared.setting.Setting.TheVariants as setting
use Rattle.sr_notation.specs.Settings.{IsOption}
use Rattle.sr_notation.specs.Words.{letter}
use Rattle.sr_script.specs.declared.action.Count.{Count}
use Rattle.sr_script.specs.declared.action.Count.TheVariants.{UpTo, Everything}
use Rattle.sr_script.specs.declared.action.Action.{Action}
use Rattle.sr_script.specs.declared.action.Action.TheVariants.{Open, Accept, Lose, Write, Read, Close, Send, Tick, Call, Item, Done, Cancel, Round}
use Rattle.sr_script.specs.declared.line.Asked.{Asked}
use Rattle.sr_script.specs.declared.line.Asked.TheVariants as asked
use Rattle.sr_script.specs.Script.{IsCount, IsShort, count_text, WantsCall, Asks, IsPassedOver}
use Rattle.sr_script.specs.Asking.{OfLink, OfPeer, OfEnd, Wants, HasFit}

-- the first bytes of a line
abbrev first : List ℕ → ℕ
first line = get_or line 0 0

abbrev second : List ℕ → ℕ
second line = get_or line 1 0

-- ---- numbers and counts

-- digits are no star
no_star : (n : ℕ) → n < 2 ^ 64 → decimal n ≡ 42 ∷ [] → ⊥
no_star n small is =
    let digit : IsInRange 48 57 (first (decimal n)) = digit_at (decimal n) 0 (decimal_is_IsNumeral n small).0.1 (decimal_nonempty n small) in
    let star : first (decimal n) ≡ 42 = ap (λ (xs : List ℕ). get_or xs 0 0) is in
    omega (arith, digit, star)

pub same_count : (a b : Count) → IsCount a → IsCount b → count_text a ≡ count_text b → a ≡ b
same_count (UpTo n) (UpTo m) p q e = ap (λ (k : ℕ). UpTo k) (decimal_injective n m p q e)
same_count (UpTo n) Everything p q e = absurd (no_star n p e)
same_count Everything (UpTo m) p q e = absurd (no_star m q (sym e))
same_count Everything Everything p q e = refl

-- ---- actions of an end

pub write_of : (side : Side) (words rest : List ℕ) (a : Action) → words ≡ 119 ∷ 114 ∷ 105 ∷ 116 ∷ 101 ∷ 32 ∷ rest → OfLink side words a
    → (count : Count) × ((a ≡ Write side count) × IsCount count × (rest ≡ count_text count))
write_of side words rest (Lose s) e is = absurd (let h : 119 ≡ 108 = ap first (sym e ∙ is.1) in omega arith)
write_of side words rest (Write s count) e is =
    (count, (ap (λ (x : Side). Write x count) is.0, is.1.0, append_cancel_left (119 ∷ 114 ∷ 105 ∷ 116 ∷ 101 ∷ 32 ∷ []) rest (count_text count) (sym e ∙ is.1.1)))
write_of side words rest (Read s count) e is = absurd (let h : 119 ≡ 114 = ap first (sym e ∙ is.1.1) in omega arith)
write_of side words rest (Close s) e is = absurd (let h : 119 ≡ 99 = ap first (sym e ∙ is.1) in omega arith)
write_of side words rest (Send s m) e is = absurd (let h : 119 ≡ 115 = ap first (sym e ∙ is.1.1.0) in omega arith)
write_of side words rest _ e is = absurd is

pub read_of : (side : Side) (words rest : List ℕ) (a : Action) → words ≡ 114 ∷ 101 ∷ 97 ∷ 100 ∷ 32 ∷ rest → OfLink side words a
    → (count : Count) × ((a ≡ Read side count) × IsCount count × (rest ≡ count_text count))
read_of side words rest (Lose s) e is = absurd (let h : 114 ≡ 108 = ap first (sym e ∙ is.1) in omega arith)
read_of side words rest (Write s count) e is = absurd (let h : 114 ≡ 119 = ap first (sym e ∙ is.1.1) in omega arith)
read_of side words rest (Read s count) e is =
    (count, (ap (λ (x : Side). Read x count) is.0, is.1.0, append_cancel_left (114 ∷ 101 ∷ 97 ∷ 100 ∷ 32 ∷ []) rest (count_text count) (sym e ∙ is.1.1)))
read_of side words rest (Close s) e is = absurd (let h : 114 ≡ 99 = ap first (sym e ∙ is.1) in omega arith)
read_of side words rest (Send s m) e is = absurd (let h : 114 ≡ 115 = ap first (sym e ∙ is.1.1.0) in omega arith)
read_of side words rest _ e is = absurd is

pub send_of : (side : Side) (words rest : List ℕ) (a : Action) → words ≡ 115 ∷ 101 ∷ 110 ∷ 100 ∷ 32 ∷ rest → OfLink side words a
    → (m : Message) × ((a ≡ Send side m) × Says rest m × (is_sequenced m ≡ true))
send_of side words rest (Lose s) e is = absurd (let h : 115 ≡ 108 = ap first (sym e ∙ is.1) in omega arith)
send_of side words rest (Write s count) e is = absurd (let h : 115 ≡ 119 = ap first (sym e ∙ is.1.1) in omega arith)
send_of side words rest (Read s count) e is = absurd (let h : 115 ≡ 114 = ap first (sym e ∙ is.1.1) in omega arith)
send_of side words rest (Close s) e is = absurd (let h : 115 ≡ 99 = ap first (sym e ∙ is.1) in omega arith)
send_of side words rest (Send s m) e is =
    let same : rest ≡ is.1.0 = append_cancel_left (115 ∷ 101 ∷ 110 ∷ 100 ∷ 32 ∷ []) rest is.1.0 (sym e ∙ is.1.1.0) in
    (m, (ap (λ (x : Side). Send x m) is.0, subst (λ (frame : List ℕ). Says frame m) (sym same) is.1.1.1, is.1.1.2))
send_of side words rest _ e is = absurd is

pub the_write : (side : Side) (words rest : List ℕ) (count : Count) → words ≡ 119 ∷ 114 ∷ 105 ∷ 116 ∷ 101 ∷ 32 ∷ rest → rest ≡ count_text count → IsCount count
    → IsTheOne (OfLink side words) (Write side count)
the_write side words rest count e is short = record {
  holds = (refl, (short, e ∙ ap (λ (xs : List ℕ). 119 ∷ 114 ∷ 105 ∷ 116 ∷ 101 ∷ 32 ∷ xs) is));
  only = λ other asks. (let w = write_of side words rest other e asks in
      w.1.0 ∙ ap (λ (n : Count). Write side n) (same_count w.0 count w.1.1 short (sym w.1.2 ∙ is)));
}

pub the_read : (side : Side) (words rest : List ℕ) (count : Count) → words ≡ 114 ∷ 101 ∷ 97 ∷ 100 ∷ 32 ∷ rest → rest ≡ count_text count → IsCount count
    → IsTheOne (OfLink side words) (Read side count)
the_read side words rest count e is short = record {
  holds = (refl, (short, e ∙ ap (λ (xs : List ℕ). 114 ∷ 101 ∷ 97 ∷ 100 ∷ 32 ∷ xs) is));
  only = λ other asks. (let r = read_of side words rest other e asks in
      r.1.0 ∙ ap (λ (n : Count). Read side n) (same_count r.0 count r.1.1 short (sym r.1.2 ∙ is)));
}

pub the_send : (side : Side) (words rest : List ℕ) (m : Message) → words ≡ 115 ∷ 101 ∷ 110 ∷ 100 ∷ 32 ∷ rest → IsTheOne (Says rest) m → is_sequenced m ≡ true
    → IsTheOne (OfLink side words) (Send side m)
the_send side words rest m e says sequenced = record {
  holds = (refl, (rest, (e, says.holds, sequenced)));
  only = λ other asks. (let s = send_of side words rest other e asks in s.1.0 ∙ ap (λ (n : Message). Send side n) (says.only s.0 s.1.1));
}

-- ---- lines

-- after the letter of an end and a space
letter_apart : (side s : Side) (xs ys : List ℕ) → letter side ++ 32 ∷ xs ≡ letter s ++ 32 ∷ ys → (s ≡ side) × (xs ≡ ys)
letter_apart Client Client xs ys e = (refl, append_cancel_left (99 ∷ 32 ∷ []) xs ys e)
letter_apart Client Server xs ys e = absurd (let h : 99 ≡ 115 = ap first e in omega arith)
letter_apart Server Client xs ys e = absurd (let h : 115 ≡ 99 = ap first e in omega arith)
letter_apart Server Server xs ys e = (refl, append_cancel_left (115 ∷ 32 ∷ []) xs ys e)

letter_second : (side : Side) (xs : List ℕ) → second (letter side ++ 32 ∷ xs) ≡ 32
letter_second Client xs = refl
letter_second Server xs = refl

-- such a line asks for what the words after the letter do
pub end_of : (side : Side) (line words : List ℕ) (a : Action) → line ≡ letter side ++ 32 ∷ words → Asks line a → OfEnd side words a
end_of side line words Open e is = absurd (let h : 32 ≡ 112 = sym (letter_second side words) ∙ ap second (sym e ∙ is) in omega arith)
end_of side line words (Accept link) e is = absurd (let h : 32 ≡ 99 = sym (letter_second side words) ∙ ap second (sym e ∙ is.1) in omega arith)
end_of side line words (Lose s) e is = inl (letter_apart side s words (108 ∷ 111 ∷ 115 ∷ 101 ∷ []) (sym e ∙ is))
end_of side line words (Write s count) e is =
    let parts = letter_apart side s words (119 ∷ 114 ∷ 105 ∷ 116 ∷ 101 ∷ 32 ∷ count_text count) (sym e ∙ is.1) in
    inl (parts.0, (is.0, parts.1))
end_of side line words (Read s count) e is =
    let parts = letter_apart side s words (114 ∷ 101 ∷ 97 ∷ 100 ∷ 32 ∷ count_text count) (sym e ∙ is.1) in
    inl (parts.0, (is.0, parts.1))
end_of side line words (Close s) e is = inl (letter_apart side s words (99 ∷ 108 ∷ 111 ∷ 115 ∷ 101 ∷ []) (sym e ∙ is))
end_of side line words (Send s m) e is =
    let parts = letter_apart side s words (115 ∷ 101 ∷ 110 ∷ 100 ∷ 32 ∷ is.0) (sym e ∙ is.1.0) in
    inl (parts.0, (is.0, (parts.1, is.1.1, is.1.2)))
end_of side line words (Tick now) e is = absurd (let h : 32 ≡ 105 = sym (letter_second side words) ∙ ap second (sym e ∙ is.1) in omega arith)
end_of side line words (Call s a) e is =
    let parts = letter_apart side s words is.0 (sym e ∙ is.1.0) in
    inr (parts.0, subst (λ (xs : List ℕ). WantsCall xs a) (sym parts.1) is.1.1)
end_of side line words (Item s call value) e is =
    let parts = letter_apart side s words (105 ∷ 116 ∷ 101 ∷ 109 ∷ 32 ∷ is.0) (sym e ∙ is.1.0) in
    inr (parts.0, (is.0, (parts.1, is.1.1)))
end_of side line words (Done s call) e is =
    let parts = letter_apart side s words (100 ∷ 111 ∷ 110 ∷ 101 ∷ 32 ∷ decimal call) (sym e ∙ is.1) in
    inr (parts.0, (is.0, parts.1))
end_of side line words (Cancel s call) e is =
    let parts = letter_apart side s words (99 ∷ 97 ∷ 110 ∷ 99 ∷ 101 ∷ 108 ∷ 32 ∷ decimal call) (sym e ∙ is.1) in
    inr (parts.0, (is.0, parts.1))
end_of side line words (Round s) e is = inr (letter_apart side s words (114 ∷ 111 ∷ 117 ∷ 110 ∷ 100 ∷ []) (sym e ∙ is))

-- the line of this end, which is the action's
same_letter : (side s : Side) (line words rest : List ℕ) → line ≡ letter side ++ 32 ∷ words → s ≡ side → words ≡ rest → line ≡ letter s ++ 32 ∷ rest
same_letter side s line words rest e same is = e ∙ ap (λ (x : Side). letter x ++ 32 ∷ words) (sym same) ∙ ap (λ (xs : List ℕ). letter s ++ 32 ∷ xs) is

of_link : (side : Side) (line words : List ℕ) (a : Action) → line ≡ letter side ++ 32 ∷ words → OfLink side words a → Asks line a
of_link side line words (Lose s) e is = same_letter side s line words (108 ∷ 111 ∷ 115 ∷ 101 ∷ []) e is.0 is.1
of_link side line words (Write s count) e is = (is.1.0, same_letter side s line words (119 ∷ 114 ∷ 105 ∷ 116 ∷ 101 ∷ 32 ∷ count_text count) e is.0 is.1.1)
of_link side line words (Read s count) e is = (is.1.0, same_letter side s line words (114 ∷ 101 ∷ 97 ∷ 100 ∷ 32 ∷ count_text count) e is.0 is.1.1)
of_link side line words (Close s) e is = same_letter side s line words (99 ∷ 108 ∷ 111 ∷ 115 ∷ 101 ∷ []) e is.0 is.1
of_link side line words (Send s m) e is =
    (is.1.0, (same_letter side s line words (115 ∷ 101 ∷ 110 ∷ 100 ∷ 32 ∷ is.1.0) e is.0 is.1.1.0, is.1.1.1, is.1.1.2))
of_link side line words _ e is = absurd is

of_peer : (side : Side) (line words : List ℕ) (a : Action) → line ≡ letter side ++ 32 ∷ words → OfPeer side words a → Asks line a
of_peer side line words (Call s a) e is = (words, (same_letter side s line words words e is.0 refl, is.1))
of_peer side line words (Item s call value) e is =
    (is.1.0, (same_letter side s line words (105 ∷ 116 ∷ 101 ∷ 109 ∷ 32 ∷ is.1.0) e is.0 is.1.1.0, is.1.1.1))
of_peer side line words (Done s call) e is = (is.1.0, same_letter side s line words (100 ∷ 111 ∷ 110 ∷ 101 ∷ 32 ∷ decimal call) e is.0 is.1.1)
of_peer side line words (Cancel s call) e is = (is.1.0, same_letter side s line words (99 ∷ 97 ∷ 110 ∷ 99 ∷ 101 ∷ 108 ∷ 32 ∷ decimal call) e is.0 is.1.1)
of_peer side line words (Round s) e is = same_letter side s line words (114 ∷ 111 ∷ 117 ∷ 110 ∷ 100 ∷ []) e is.0 is.1
of_peer side line words _ e is = absurd is

pub asks_of : (side : Side) (line words : List ℕ) (a : Action) → line ≡ letter side ++ 32 ∷ words → OfEnd side words a → Asks line a
asks_of side line words a e (inl is) = of_link side line words a e is
asks_of side line words a e (inr is) = of_peer side line words a e is

-- what the words ask for, the line does
pub end_found : {E : Type 0} (side : Side) (line words : List ℕ) (r : Result (Option Action) E) → line ≡ letter side ++ 32 ∷ words
    → IfOk r (λ found. IfSome found (λ a. IsTheOne (OfEnd side words) a × HasFit a)) → IfOk r (λ found. IfSome found (λ a. IsTheOne (Asks line) a × HasFit a))
end_found side line words (Ok None) e found = tt
end_found side line words (Ok (Some a)) e found = (
  record {
    holds = asks_of side line words a e found.0.holds;
    only = λ other asks. found.0.only other (end_of side line words other e asks);
  },
  found.1,
)
end_found side line words (Err error) e found = tt

pub end_none : {E : Type 0} (side : Side) (line words : List ℕ) (r : Result (Option Action) E) → line ≡ letter side ++ 32 ∷ words
    → IfOk r (λ found. IfNone found ((a : Action) → OfEnd side words a → ⊥)) → IfOk r (λ found. IfNone found ((a : Action) → Asks line a → ⊥))
end_none side line words (Ok None) e none = λ a asks. none a (end_of side line words a e asks)
end_none side line words (Ok (Some a)) e none = tt
end_none side line words (Err error) e none = tt

-- a line of an end has its letter and a space
no_letter : (side : Side) (x : ℕ) (line xs : List ℕ) → line ≡ letter side ++ 32 ∷ xs → first line ≡ x → x ≢ 99 → x ≢ 115 → ⊥
no_letter Client x line xs e is no_client no_server = no_client (sym is ∙ ap first e)
no_letter Server x line xs e is no_client no_server = no_server (sym is ∙ ap first e)

-- Each line of an end begins with its letter.
pub record BeginsWith (side : Side) (line : List ℕ) : Type 0 where
  pub words : List ℕ
  pub line_is : line ≡ letter side ++ 32 ∷ words

-- an action is that of an end, or its line begins with none of their letters
abbrev OfNoEnd : List ℕ → Action → Type 0
OfNoEnd line Open = line ≡ 111 ∷ 112 ∷ 101 ∷ 110 ∷ []
OfNoEnd line (Accept link) = IsShort link × (line ≡ 97 ∷ 99 ∷ 99 ∷ 101 ∷ 112 ∷ 116 ∷ 32 ∷ decimal link)
OfNoEnd line (Tick now) = IsShort now × (line ≡ 116 ∷ 105 ∷ 99 ∷ 107 ∷ 32 ∷ decimal now)
OfNoEnd line _ = ⊥

kinds : (line : List ℕ) (a : Action) → Asks line a → OfNoEnd line a ⊎ ((side : Side) × BeginsWith side line)
kinds line Open is = inl is
kinds line (Accept link) is = inl is
kinds line (Lose s) is = inr (s, record { words = 108 ∷ 111 ∷ 115 ∷ 101 ∷ []; line_is = is })
kinds line (Write s count) is = inr (s, record { words = 119 ∷ 114 ∷ 105 ∷ 116 ∷ 101 ∷ 32 ∷ count_text count; line_is = is.1 })
kinds line (Read s count) is = inr (s, record { words = 114 ∷ 101 ∷ 97 ∷ 100 ∷ 32 ∷ count_text count; line_is = is.1 })
kinds line (Close s) is = inr (s, record { words = 99 ∷ 108 ∷ 111 ∷ 115 ∷ 101 ∷ []; line_is = is })
kinds line (Send s m) is = inr (s, record { words = 115 ∷ 101 ∷ 110 ∷ 100 ∷ 32 ∷ is.0; line_is = is.1.0 })
kinds line (Tick now) is = inl is
kinds line (Call s a) is = inr (s, record { words = is.0; line_is = is.1.0 })
kinds line (Item s call value) is = inr (s, record { words = 105 ∷ 116 ∷ 101 ∷ 109 ∷ 32 ∷ is.0; line_is = is.1.0 })
kinds line (Done s call) is = inr (s, record { words = 100 ∷ 111 ∷ 110 ∷ 101 ∷ 32 ∷ decimal call; line_is = is.1 })
kinds line (Cancel s call) is = inr (s, record { words = 99 ∷ 97 ∷ 110 ∷ 99 ∷ 101 ∷ 108 ∷ 32 ∷ decimal call; line_is = is.1 })
kinds line (Round s) is = inr (s, record { words = 114 ∷ 111 ∷ 117 ∷ 110 ∷ 100 ∷ []; line_is = is })

-- the line begins with no letter of an end
of_no_end : (x : ℕ) (line : List ℕ) (a : Action) → first line ≡ x → x ≢ 99 → x ≢ 115 → Asks line a → OfNoEnd line a
of_no_end x line a begins no_client no_server is = by_kind (kinds line a is) where
  by_kind : OfNoEnd line a ⊎ ((side : Side) × BeginsWith side line) → OfNoEnd line a
  by_kind (inl none) = none
  by_kind (inr (side, begin)) = absurd (no_letter side x line begin.words begin.line_is begins no_client no_server)

pub accept_of : (line digits : List ℕ) (a : Action) → line ≡ 97 ∷ 99 ∷ 99 ∷ 101 ∷ 112 ∷ 116 ∷ 32 ∷ digits → Asks line a
    → (link : ℕ) × ((a ≡ Accept link) × (link < 2 ^ 64) × (digits ≡ decimal link))
accept_of line digits a e is = by_action a (of_no_end 97 line a (ap first e) (λ h. omega (arith, h)) (λ h. omega (arith, h)) is) where
  by_action : (a : Action) → OfNoEnd line a → (link : ℕ) × ((a ≡ Accept link) × (link < 2 ^ 64) × (digits ≡ decimal link))
  by_action Open is = absurd (let h : 97 ≡ 111 = ap first (sym e ∙ is) in omega arith)
  by_action (Accept link) is =
      (link, (refl, is.0, append_cancel_left (97 ∷ 99 ∷ 99 ∷ 101 ∷ 112 ∷ 116 ∷ 32 ∷ []) digits (decimal link) (sym e ∙ is.1)))
  by_action (Tick now) is = absurd (let h : 97 ≡ 116 = ap first (sym e ∙ is.1) in omega arith)
  by_action _ is = absurd is

pub tick_of : (line digits : List ℕ) (a : Action) → line ≡ 116 ∷ 105 ∷ 99 ∷ 107 ∷ 32 ∷ digits → Asks line a
    → (now : ℕ) × ((a ≡ Tick now) × (now < 2 ^ 64) × (digits ≡ decimal now))
tick_of line digits a e is = by_action a (of_no_end 116 line a (ap first e) (λ h. omega (arith, h)) (λ h. omega (arith, h)) is) where
  by_action : (a : Action) → OfNoEnd line a → (now : ℕ) × ((a ≡ Tick now) × (now < 2 ^ 64) × (digits ≡ decimal now))
  by_action Open is = absurd (let h : 116 ≡ 111 = ap first (sym e ∙ is) in omega arith)
  by_action (Accept link) is = absurd (let h : 116 ≡ 97 = ap first (sym e ∙ is.1) in omega arith)
  by_action (Tick now) is =
      (now, (refl, is.0, append_cancel_left (116 ∷ 105 ∷ 99 ∷ 107 ∷ 32 ∷ []) digits (decimal now) (sym e ∙ is.1)))
  by_action _ is = absurd is

pub the_accept : (line digits : List ℕ) (link : ℕ) → line ≡ 97 ∷ 99 ∷ 99 ∷ 101 ∷ 112 ∷ 116 ∷ 32 ∷ digits → digits ≡ decimal link → link < 2 ^ 64
    → IsTheOne (Asks line) (Accept link)
the_accept line digits link e is short = record {
  holds = (short, e ∙ ap (λ (xs : List ℕ). 97 ∷ 99 ∷ 99 ∷ 101 ∷ 112 ∷ 116 ∷ 32 ∷ xs) is);
  only = λ other asks. (let a = accept_of line digits other e asks in
      a.1.0 ∙ ap (λ (n : ℕ). Accept n) (decimal_injective a.0 link a.1.1 short (sym a.1.2 ∙ is)));
}

pub the_tick : (line digits : List ℕ) (now : ℕ) → line ≡ 116 ∷ 105 ∷ 99 ∷ 107 ∷ 32 ∷ digits → digits ≡ decimal now → now < 2 ^ 64
    → IsTheOne (Asks line) (Tick now)
the_tick line digits now e is short = record {
  holds = (short, e ∙ ap (λ (xs : List ℕ). 116 ∷ 105 ∷ 99 ∷ 107 ∷ 32 ∷ xs) is);
  only = λ other asks. (let t = tick_of line digits other e asks in
      t.1.0 ∙ ap (λ (n : ℕ). Tick n) (decimal_injective t.0 now t.1.1 short (sym t.1.2 ∙ is)));
}

-- ---- no line that asks is passed over

option_letter : (line : List ℕ) (s : Setting) → IsOption line s → 97 ≤ first line
option_letter line (setting.Codec Json) is = (let h : first line ≡ 99 = ap first is.0 in omega arith)
option_letter line (setting.Codec Pack) is = (let h : first line ≡ 99 = ap first is.0 in omega arith)
option_letter line (setting.Version version) is = (let h : first line ≡ 118 = ap first is.0 in omega arith)
option_letter line (setting.Reconnect true) is = (let h : first line ≡ 114 = ap first is.0 in omega arith)
option_letter line (setting.Reconnect false) is = (let h : first line ≡ 114 = ap first is.0 in omega arith)
option_letter line setting.Peers is = (let h : first line ≡ 112 = ap first is.0 in omega arith)
option_letter line (setting.Buffer limits) is = (let h : first line ≡ 98 = ap first is.0 in omega arith)

end_letter : (side : Side) (line xs : List ℕ) → line ≡ letter side ++ 32 ∷ xs → 97 ≤ first line
end_letter Client line xs e = (let h : first line ≡ 99 = ap first e in omega arith)
end_letter Server line xs e = (let h : first line ≡ 115 = ap first e in omega arith)

action_letter : (line : List ℕ) (a : Action) → Asks line a → 97 ≤ first line
action_letter line a is = by_kind (kinds line a is) where
  by_action : (a : Action) → OfNoEnd line a → 97 ≤ first line
  by_action Open is = (let h : first line ≡ 111 = ap first is in omega arith)
  by_action (Accept link) is = (let h : first line ≡ 97 = ap first is.1 in omega arith)
  by_action (Tick now) is = (let h : first line ≡ 116 = ap first is.1 in omega arith)
  by_action _ is = absurd is

  by_kind : OfNoEnd line a ⊎ ((side : Side) × BeginsWith side line) → 97 ≤ first line
  by_kind (inl none) = by_action a none
  by_kind (inr (side, begin)) = end_letter side line begin.words begin.line_is

asked_letter : (line : List ℕ) (x : Asked) → Wants line x → 97 ≤ first line
asked_letter line (asked.Setting s) is = option_letter line s is
asked_letter line (asked.Action a) is = action_letter line a is

pub not_passed : (line : List ℕ) (x : Asked) → Wants line x → IsPassedOver line → ⊥
not_passed line x wants (inl empty) = (let h : first line ≡ 0 = ap first empty in omega (arith, asked_letter line x wants))
not_passed line x wants (inr comment) = (let h : first line ≡ 35 = ap first comment.1 in omega (arith, asked_letter line x wants))
