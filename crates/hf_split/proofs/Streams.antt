-- Cuttings of a stream, in any framing: they begin with the same frames.
use Rattle.std.proofs.Common.{◌≡◌, ◌+◌, ◌<◌, ◌≤◌, ◌⊎◌, inl, inr, ℕ, zero, suc, List, [], ◌∷◌, ◌++◌, length, take, drop, refl, sym, ◌∙◌, ap, subst, arith, append_assoc, length-append, length-drop}
use Rattle.std.proofs.lemmas.List.{flat_map_more, append_cancel_left}
use Rattle.hf_split.specs.declared.framing.Framing.{Framing}
use Rattle.hf_split.specs.Cuts.{Spelled, Framings, AreFrames, IsFrame, BeginsWith, Cuts, later, stream_of}
use Rattle.hf_split.specs.Held.{Held, Stands, IsInStep, IsNext, place_of, after_pass}
use Rattle.hf_split.specs.Laws.{BeginsOnce, HasOneCutting, HasCutting}
use Rattle.hf_split.proofs.Spellings.{read_once, begins_front, spelling_some}
use Rattle.hf_split.proofs.Finding.{find_frame}

pub begins_once : BeginsOnce
begins_once framing most bytes more item other x y =
    read_once framing item other (drop (length item.spelling) bytes ++ more) (drop (length other.spelling) (bytes ++ more)) x.is_frame.spells y.is_frame.spells
    (sym (append_assoc item.spelling (drop (length item.spelling) bytes) more) ∙ ap (λ xs. xs ++ more) (sym x.front) ∙ y.front)

-- a cutting of a stream that begins with a frame begins with it, and what follows is a cutting of what follows
step_of : (framings : Framings) (most : ℕ) (item : Spelled) (more : List ℕ) (all : List Spelled) (rest : List ℕ)
    → IsFrame (framings 0) most item → Cuts framings most (item.spelling ++ more) all rest
    → (others : List Spelled) × (all ≡ item ∷ others) × Cuts (later framings) most more others rest
step_of framings most item more [] rest is cuts =
    absurd (cuts.ends item (subst (λ (xs : List ℕ). BeginsWith (framings 0) most xs item) cuts.whole (begins_front (framings 0) most item more is)))
step_of framings most item more (other ∷ all) rest is cuts =
    let whole : item.spelling ++ more ≡ other.spelling ++ (stream_of all ++ rest) = cuts.whole ∙ append_assoc other.spelling (stream_of all) rest in
    let same : other ≡ item = read_once (framings 0) other item (stream_of all ++ rest) more cuts.each.0.spells is.spells (sym whole) in
    let tail : item.spelling ++ more ≡ item.spelling ++ (stream_of all ++ rest) = whole ∙ ap (λ (x : Spelled). x.spelling ++ (stream_of all ++ rest)) same in (
      all,
      ap (λ (x : Spelled). x ∷ all) same,
      record {
        whole = append_cancel_left item.spelling more (stream_of all ++ rest) tail;
        each = cuts.each.1;
        ends = cuts.ends;
      },
    )

pub one_cutting : HasOneCutting
one_cutting framings most stream [] [] rest more x y = (refl, sym x.whole ∙ y.whole)
one_cutting framings most stream [] (other ∷ others) rest more x y =
    let whole : rest ≡ other.spelling ++ (stream_of others ++ more) = sym x.whole ∙ y.whole ∙ append_assoc other.spelling (stream_of others) more in
    absurd (x.ends other (subst (λ (xs : List ℕ). BeginsWith (framings 0) most xs other) (sym whole) (begins_front (framings 0) most other (stream_of others ++ more) y.each.0)))
one_cutting framings most stream (item ∷ items) others rest more x y =
    let whole : stream ≡ item.spelling ++ (stream_of items ++ rest) = x.whole ∙ append_assoc item.spelling (stream_of items) rest in
    let parts = step_of framings most item (stream_of items ++ rest) others more x.each.0 (subst (λ (xs : List ℕ). Cuts framings most xs others more) whole y) in
    let tail : Cuts (later framings) most (stream_of items ++ rest) items rest = record { whole = refl; each = x.each.1; ends = x.ends } in
    let same = one_cutting (later framings) most (stream_of items ++ rest) items parts.0 rest more tail parts.2 in
    (ap (λ (xs : List Spelled). item ∷ xs) same.0 ∙ sym parts.1, same.1)

take_step : (n : ℕ) (x : Spelled) (xs : List Spelled) → take (suc n + 1) (x ∷ xs) ≡ x ∷ take (n + 1) xs
take_step n x xs = let e : suc n + 1 ≡ suc (n + 1) = omega arith in ap (λ (k : ℕ). take k (x ∷ xs)) e

next_after : (framings : Framings) (most : ℕ) (passed : List Spelled) (bytes : List ℕ) (item : Spelled) (all : List Spelled) (rest : List ℕ)
    → AreFrames framings most passed → BeginsWith (framings (length passed)) most bytes item → Cuts framings most (stream_of passed ++ bytes) all rest
    → take (length passed + 1) all ≡ passed ++ item ∷ []
next_after framings most [] bytes item all rest each begins cuts =
    let parts = step_of framings most item (drop (length item.spelling) bytes) all rest begins.is_frame (subst (λ (xs : List ℕ). Cuts framings most xs all rest) begins.front cuts) in
    ap (λ (x : List Spelled). take 1 x) parts.1
next_after framings most (p ∷ passed) bytes item all rest each begins cuts =
    let parts = step_of framings most p (stream_of passed ++ bytes) all rest each.0
    (subst (λ (xs : List ℕ). Cuts framings most xs all rest) (append_assoc p.spelling (stream_of passed) bytes) cuts) in
    let rec : take (length passed + 1) parts.0 ≡ passed ++ item ∷ [] = next_after (later framings) most passed bytes item parts.0 rest each.1 begins parts.2 in
    ap (λ (x : List Spelled). take (length (p ∷ passed) + 1) x) parts.1 ∙ take_step (length passed) p parts.0 ∙ ap (λ (x : List Spelled). p ∷ x) rec

pub next_of_stands : (framings : Framings) (held : Held) (stream : List ℕ) (passed : List Spelled) (item : Spelled) → Stands framings held stream passed
    → IsInStep framings held passed → BeginsWith held.framing held.most held.bytes item → IsNext framings held.most stream passed held.place item
next_of_stands framings held stream passed item stands step begins = record {
  place = stands.place;
  next = λ all rest cuts. next_after framings held.most passed held.bytes item all rest stands.each
      (subst (λ (f : Framing). BeginsWith f held.most held.bytes item) (sym step) begins)
      (subst (λ (xs : List ℕ). Cuts framings held.most xs all rest) stands.whole cuts);
}

pub cuts_of_stands : (framings : Framings) (held : Held) (stream : List ℕ) (passed : List Spelled) → Stands framings held stream passed
    → IsInStep framings held passed → ((item : Spelled) → BeginsWith held.framing held.most held.bytes item → ⊥) → Cuts framings held.most stream passed held.bytes
cuts_of_stands framings held stream passed stands step ends = record {
  whole = stands.whole;
  each = stands.each;
  ends = λ item begins. ends item (subst (λ (f : Framing). BeginsWith f held.most held.bytes item) step begins);
}

AreFrames-push : (framings : Framings) (most : ℕ) (passed : List Spelled) (item : Spelled) → AreFrames framings most passed
    → IsFrame (framings (length passed)) most item → AreFrames framings most (passed ++ item ∷ [])
AreFrames-push framings most [] item each is = (is, tt)
AreFrames-push framings most (p ∷ passed) item each is = (each.0, AreFrames-push (later framings) most passed item each.1 is)

place_more : (place n k m : ℕ) → place ≡ place_of n → m ≡ n + k → place_of (place + k) ≡ place_of m
place_more place n k m p e = omega arith

-- the splitter past the frame that it held
pub stands_past : (framings : Framings) (held : Held) (stream : List ℕ) (passed : List Spelled) (item : Spelled) → Stands framings held stream passed
    → IsInStep framings held passed → BeginsWith held.framing held.most held.bytes item → Stands framings (after_pass held item) stream (passed ++ item ∷ [])
stands_past framings held stream passed item stands step begins =
    let more : stream_of (passed ++ item ∷ []) ≡ stream_of passed ++ item.spelling = sym (flat_map_more (λ (x : Spelled). x.spelling) [] passed item) in
    record {
      whole = stands.whole ∙ ap (λ xs. stream_of passed ++ xs) begins.front ∙ sym (append_assoc (stream_of passed) item.spelling (drop (length item.spelling) held.bytes))
          ∙ ap (λ xs. xs ++ drop (length item.spelling) held.bytes) (sym more);
      each = AreFrames-push framings held.most passed item stands.each (subst (λ (f : Framing). IsFrame f held.most item) (sym step) begins.is_frame);
      place = place_more held.place (length (stream_of passed)) (length item.spelling) (length (stream_of (passed ++ item ∷ []))) stands.place
          (ap length more ∙ length-append (stream_of passed) item.spelling);
    }

-- each stream has a cutting
frame_inside : (framing : Framing) (most : ℕ) (bytes : List ℕ) (item : Spelled) → BeginsWith framing most bytes item → (0 < length item.spelling) × (length item.spelling ≤ length bytes)
frame_inside framing most bytes item begins = (
  spelling_some framing item.spelling item.frame begins.is_frame.spells,
  omega (arith, ap length begins.front, length-append item.spelling (drop (length item.spelling) bytes)),
)

HasCuts : Framings → ℕ → List ℕ → Type 0
HasCuts framings most stream = (items : List Spelled) × ((rest : List ℕ) × Cuts framings most stream items rest)

no_items : (framings : Framings) (most : ℕ) (stream : List ℕ) → ((item : Spelled) → BeginsWith (framings 0) most stream item → ⊥) → HasCuts framings most stream
unfolding HasCuts
no_items framings most stream none = ([], (stream, record { whole = refl; each = tt; ends = none }))

one_more : (framings : Framings) (most : ℕ) (stream : List ℕ) (item : Spelled) → BeginsWith (framings 0) most stream item
    → HasCuts (later framings) most (drop (length item.spelling) stream) → HasCuts framings most stream
unfolding HasCuts
one_more framings most stream item begins cut = (
  item ∷ cut.0,
  (
    cut.1.0,
    record {
      whole = begins.front ∙ ap (λ xs. item.spelling ++ xs) cut.1.1.whole ∙ sym (append_assoc item.spelling (stream_of cut.0) cut.1.0);
      each = (begins.is_frame, cut.1.1.each);
      ends = cut.1.1.ends;
    },
  ),
)

cut_by : (size : ℕ) (framings : Framings) (most : ℕ) (stream : List ℕ) → length stream ≤ suc size
    → ((item : Spelled) × BeginsWith (framings 0) most stream item) ⊎ ((item : Spelled) → BeginsWith (framings 0) most stream item → ⊥)
    → ((xs : List ℕ) → length xs ≤ size → HasCuts (later framings) most xs) → HasCuts framings most stream
cut_by size framings most stream short (inr none) rest = no_items framings most stream none
cut_by size framings most stream short (inl found) rest =
    let inside = frame_inside (framings 0) most stream found.0 found.1 in
    one_more framings most stream found.0 found.1 (rest (drop (length found.0.spelling) stream) (omega (arith, length-drop (length found.0.spelling) stream, inside.0, inside.1)))

cut_within : (size : ℕ) (framings : Framings) (most : ℕ) (stream : List ℕ) → length stream ≤ size → HasCuts framings most stream
cut_within zero framings most stream short =
    no_items framings most stream (λ item begins. let inside = frame_inside (framings 0) most stream item begins in absurd (omega (arith, inside.0, inside.1)))
cut_within (suc size) framings most stream short =
    cut_by size framings most stream short (find_frame (framings 0) most stream) (λ xs less. cut_within size (later framings) most xs less)

pub has_cutting : HasCutting
unfolding HasCuts
has_cutting framings most stream = cut_within (length stream) framings most stream (omega arith)
