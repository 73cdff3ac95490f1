-- Bytes have exactly one answer of a task.
use Rattle.std.proofs.Common.{◌≡◌, ◌<◌, ◌≤◌, ◌+◌, ℕ, ◌⊎◌, inl, inr, List, [], ◌∷◌, ◌++◌, length, drop, codes, refl, sym, ◌∙◌, ap, subst, arith, append_assoc}
use Rattle.std.specs.Fmt.{decimal}
use Rattle.std.specs.Prelude.{◌≢◌, ℤ}
use Rattle.std.proofs.lemmas.List.{append_cancel_left, append-nil, drop_at, take_all}
use Rattle.hd_facts.specs.Prefixes.{IsPrefix}
use Rattle.hf_split.specs.declared.framing.Framing.{Framing}
use Rattle.hf_split.specs.declared.splitter.SplitFault.{SplitFault}
use Rattle.hf_split.specs.declared.splitter.SplitFault.TheVariants.{TooLong, BadLength}
use Rattle.hf_split.specs.Cuts.{Spelled, AreFrames, IsFrame, BeginsWith, IsFaulty, always, stream_of}
use Rattle.hf_split.specs.Laws.{BeginsOnce, HasOneBeginning}
use Rattle.hm_message.specs.declared.message.Message.{Message}
use Rattle.hm_codec.specs.declared.why.FrameWhy.{FrameWhy}
use Rattle.hm_codec.specs.declared.why.FrameWhy.TheVariants.{Split}
use Rattle.hm_codec.specs.Frames.{Says, Unknown, Why}
use Rattle.hm_codec.specs.Words.{why_words}
use Rattle.sr_check.specs.declared.task.Task.{Task}
use Rattle.sr_check.specs.Output.{codec_of, framing, message_text, unknown_text, IsWritten, last_text}
use Rattle.sr_check.specs.Stream.{AreWritten, BeginsFrames, IsFrontText, IsCut, IsFaultAt, IsBadFrame, IsLast, IsDone, IsStopped, IsBegun, most_frame, most_bytes, followed_part}
use Rattle.sr_check.specs.Laws.{IsOneAnswer}
use Rattle.sr_check.proofs.Following.{stream-append}
use Rattle.sr_check.proofs.SomeAnswer.{FrameLaws, some_answer}

-- ---- what is written of frames

piece_once : FrameLaws → (t : Task) (at : ℕ) (frame text other : List ℕ) → IsWritten t at frame text → IsWritten t at frame other → text ≡ other
piece_once laws t at frame text other (inl x) (inl y) = x.2 ∙ ap (λ (m : Message). message_text t at m) ((laws.meaning (codec_of t) frame).one_message x.0 y.0 x.1 y.1) ∙ sym y.2
piece_once laws t at frame text other (inl x) (inr y) = absurd ((laws.meaning (codec_of t) frame).known x.0 y.0 x.1 y.1)
piece_once laws t at frame text other (inr x) (inl y) = absurd ((laws.meaning (codec_of t) frame).known y.0 x.0 y.1 x.1)
piece_once laws t at frame text other (inr x) (inr y) = x.2 ∙ ap (λ (n : ℤ). unknown_text t at n) ((laws.meaning (codec_of t) frame).one_number x.0 y.0 x.1 y.1) ∙ sym y.2

not_written : FrameLaws → (t : Task) (at : ℕ) (frame text : List ℕ) (why : FrameWhy) → Why (codec_of t) frame why → IsWritten t at frame text → ⊥
not_written laws t at frame text why x (inl y) = (laws.meaning (codec_of t) frame).accepted y.0 why y.1 x
not_written laws t at frame text why x (inr y) = (laws.meaning (codec_of t) frame).passed y.0 why y.1 x

written_once : FrameLaws → (t : Task) (at : ℕ) (items : List Spelled) (text other : List ℕ) → AreWritten t at items text → AreWritten t at items other → text ≡ other
written_once laws t at [] text other x y = x ∙ sym y
written_once laws t at (item ∷ items) text other x y =
    let piece : x.0 ≡ y.0 = piece_once laws t at item.frame x.0 y.0 x.2 y.2 in
    let more : x.1 ≡ y.1 = written_once laws t (at + length item.spelling) items x.1 y.1 x.4 y.4 in
    x.3 ∙ ap (λ xs. xs ++ x.1) piece ∙ ap (λ xs. y.0 ++ xs) more ∙ sym y.3

-- something is written of the frame behind others
record IsGood (t : Task) (frame : List ℕ) : Type 0 where
  pub at : ℕ
  pub text : List ℕ
  pub written : IsWritten t at frame text

good_behind : (t : Task) (at : ℕ) (items more : List Spelled) (item : Spelled) (text : List ℕ) → AreWritten t at (items ++ item ∷ more) text → IsGood t item.frame
good_behind t at [] more item text x = record { at = at; text = x.0; written = x.2 }
good_behind t at (i ∷ items) more item text x = good_behind t (at + length i.spelling) items more item x.1 x.4

-- ---- frames

frame_behind : (f : Framing) (items more : List Spelled) (item : Spelled) → AreFrames (always f) most_frame (items ++ item ∷ more) → IsFrame f most_frame item
frame_behind f [] more item each = each.0
frame_behind f (i ∷ items) more item each = frame_behind f items more item each.1

begins : (f : Framing) (item : Spelled) (bytes more : List ℕ) → IsFrame f most_frame item → bytes ≡ item.spelling ++ more → BeginsWith f most_frame bytes item
begins f item bytes more is e = record {
  is_frame = is;
  front = e ∙ ap (λ xs. item.spelling ++ xs) (sym (ap (λ xs. drop (length item.spelling) xs) e ∙ drop_at item.spelling more (length item.spelling) refl));
}

same_first : FrameLaws → (f : Framing) (item other : Spelled) (a b : List ℕ) → IsFrame f most_frame item → IsFrame f most_frame other → item.spelling ++ a ≡ other.spelling ++ b → item ≡ other
same_first laws f item other a b x y e =
    laws.once f most_frame (item.spelling ++ a) [] item other (begins f item (item.spelling ++ a) a x refl) (begins f other (item.spelling ++ a ++ []) b y (append-nil (item.spelling ++ a) ∙ e))

-- what comes behind these frames where they go on
behind : (bytes : List ℕ) (items more : List Spelled) (item : Spelled) (rest : List ℕ) → bytes ≡ stream_of (items ++ item ∷ more) ++ rest
    → bytes ≡ stream_of items ++ (item.spelling ++ (stream_of more ++ rest))
behind bytes items more item rest e =
    e ∙ ap (λ xs. xs ++ rest) (stream-append items (item ∷ more)) ∙ append_assoc (stream_of items) (item.spelling ++ stream_of more) rest
    ∙ ap (λ xs. stream_of items ++ xs) (append_assoc item.spelling (stream_of more) rest)

-- a frame that comes behind these frames isn't the front of a rest
no_rest : (t : Task) (bytes : List ℕ) (items more : List Spelled) (item : Spelled) (rest : List ℕ) → BeginsFrames t bytes (items ++ item ∷ more) → IsCut t bytes items rest → ⊥
no_rest t bytes items more item rest begin cut =
    let whole = behind bytes items more item begin.more begin.whole in
    let rest_is : rest ≡ item.spelling ++ (stream_of more ++ begin.more) =
    append_cancel_left (stream_of items) rest (item.spelling ++ (stream_of more ++ begin.more)) (sym cut.whole ∙ whole) in
    cut.ends item (begins (framing t) item rest (stream_of more ++ begin.more) (frame_behind (framing t) items more item begin.each) rest_is)

-- one frame comes behind these frames
next_once : FrameLaws → (t : Task) (bytes : List ℕ) (items more others : List Spelled) (item other : Spelled) → BeginsFrames t bytes (items ++ item ∷ more) → BeginsFrames t bytes (items ++ other ∷ others) → item ≡ other
next_once laws t bytes items more others item other x y =
    same_first laws (framing t) item other (stream_of more ++ x.more) (stream_of others ++ y.more) (frame_behind (framing t) items more item x.each) (frame_behind (framing t) items others other y.each)
    (append_cancel_left (stream_of items) (item.spelling ++ (stream_of more ++ x.more)) (other.spelling ++ (stream_of others ++ y.more))
    (sym (behind bytes items more item x.more x.whole) ∙ behind bytes items others other y.more y.whole))

-- Two lists of frames with which bytes begin are one, or one of them goes on.
pub data Compared (items others : List Spelled) : Type 0 where
  same : items ≡ others → Compared items others
  goes_on : (item : Spelled) (more : List Spelled) → others ≡ items ++ item ∷ more → Compared items others
  is_front : (item : Spelled) (more : List Spelled) → items ≡ others ++ item ∷ more → Compared items others

compared_more : (i : Spelled) (items others : List Spelled) → Compared items others → Compared (i ∷ items) (i ∷ others)
compared_more i items others (same e) = same (ap (λ (xs : List Spelled). i ∷ xs) e)
compared_more i items others (goes_on item more e) = goes_on item more (ap (λ (xs : List Spelled). i ∷ xs) e)
compared_more i items others (is_front item more e) = is_front item more (ap (λ (xs : List Spelled). i ∷ xs) e)

compare : FrameLaws → (f : Framing) (items others : List Spelled) (a b : List ℕ) → AreFrames (always f) most_frame items → AreFrames (always f) most_frame others
    → stream_of items ++ a ≡ stream_of others ++ b → Compared items others
compare laws f [] [] a b x y e = same refl
compare laws f [] (o ∷ others) a b x y e = goes_on o others refl
compare laws f (i ∷ items) [] a b x y e = is_front i items refl
compare laws f (i ∷ items) (o ∷ others) a b x y e =
    let e' : i.spelling ++ (stream_of items ++ a) ≡ o.spelling ++ (stream_of others ++ b) =
    sym (append_assoc i.spelling (stream_of items) a) ∙ e ∙ append_assoc o.spelling (stream_of others) b in
    let first : i ≡ o = same_first laws f i o (stream_of items ++ a) (stream_of others ++ b) x.0 y.0 e' in
    let tail : stream_of items ++ a ≡ stream_of others ++ b =
    append_cancel_left i.spelling (stream_of items ++ a) (stream_of others ++ b) (e' ∙ ap (λ (s : Spelled). s.spelling ++ (stream_of others ++ b)) (sym first)) in
    subst (λ (s : Spelled). Compared (i ∷ items) (s ∷ others)) first (compared_more i items others (compare laws f items others a b x.1 y.1 tail))

-- ---- what comes behind the frames of an answer

fault_once : FrameLaws → (f : Framing) (place : ℕ) (rest : List ℕ) (fault other : SplitFault) → IsFaultAt f place rest fault → IsFaultAt f place rest other → fault ≡ other
fault_once laws f place rest (TooLong a) (TooLong b) x y = ap (λ (n : ℕ). TooLong n) (x.0 ∙ sym y.0)
fault_once laws f place rest (TooLong a) (BadLength b) x y = absurd ((laws.beginning f most_frame rest).one_fault x.1 y.1)
fault_once laws f place rest (BadLength a) (TooLong b) x y = absurd ((laws.beginning f most_frame rest).one_fault y.1 x.1)
fault_once laws f place rest (BadLength a) (BadLength b) x y = ap (λ (n : ℕ). BadLength n) (x.0 ∙ sym y.0)

faulty : (f : Framing) (place : ℕ) (rest : List ℕ) (fault : SplitFault) → IsFaultAt f place rest fault → IsFaulty f most_frame rest
faulty f place rest (TooLong at) x = inl x.1
faulty f place rest (BadLength at) x = inr x.1

-- what is written of a rest, or nothing where nothing is left
abbrev IsRestText : Task → List ℕ → List ℕ → List Spelled → List ℕ → Type 0
IsRestText t bytes rest items text =
    ((fault : SplitFault) × IsFaultAt (framing t) (length (stream_of items)) rest fault × (text ≡ last_text t (length (stream_of items)) (codes "refused " ++ why_words (Split fault))))
    ⊎ (((IsFaulty (framing t) most_frame rest → ⊥) × (rest ≢ []) × (length bytes ≤ most_bytes) × (text ≡ last_text t (length (stream_of items)) (codes "unfinished " ++ decimal (length rest))))
    ⊎ (((IsFaulty (framing t) most_frame rest → ⊥) × (most_bytes < length bytes) × (text ≡ last_text t (length (stream_of items)) (codes "limit")))
    ⊎ ((rest ≡ []) × (length bytes ≤ most_bytes) × (text ≡ []))))

-- what is written of the next frame, which is refused, or of a rest
abbrev IsEnd : Task → List ℕ → List Spelled → List ℕ → Type 0
IsEnd t bytes items text = IsBadFrame t (followed_part bytes) items text ⊎ ((rest : List ℕ) × IsCut t (followed_part bytes) items rest × IsRestText t bytes rest items text)

record IsAnswer (t : Task) (bytes text : List ℕ) : Type 0 where
  pub items : List Spelled
  pub front : List ℕ
  pub last : List ℕ
  pub is_front : IsFrontText t (followed_part bytes) items front
  pub end : IsEnd t bytes items last
  pub text_is : text ≡ front ++ last

-- frames behind which the answer ends don't go on
ends_here : FrameLaws → (t : Task) (bytes : List ℕ) (items more : List Spelled) (item : Spelled) (last text : List ℕ) → IsEnd t bytes items last → IsFrontText t (followed_part bytes) (items ++ item ∷ more) text → ⊥
ends_here laws t bytes items more item last text (inl bad) front =
    let one : bad.item ≡ item = next_once laws t (followed_part bytes) items [] more bad.item item bad.next front.begins in
    let good = good_behind t 0 items more item text front.written in
    not_written laws t good.at item.frame good.text bad.why (subst (λ (s : Spelled). Why (codec_of t) s.frame bad.why) one bad.refused) good.written
ends_here laws t bytes items more item last text (inr cut) front = no_rest t (followed_part bytes) items more item cut.0 front.begins cut.1

same_items : FrameLaws → (t : Task) (bytes text other : List ℕ) → (x : IsAnswer t bytes text) → (y : IsAnswer t bytes other) → x.items ≡ y.items
same_items laws t bytes text other x y =
    by (compare laws (framing t) x.items y.items x.is_front.begins.more y.is_front.begins.more x.is_front.begins.each y.is_front.begins.each (sym x.is_front.begins.whole ∙ y.is_front.begins.whole)) where
      by : Compared x.items y.items → x.items ≡ y.items
      by (same e) = e
      by (goes_on item more e) =
          absurd (ends_here laws t bytes x.items more item x.last y.front x.end (subst (λ (xs : List Spelled). IsFrontText t (followed_part bytes) xs y.front) e y.is_front))
      by (is_front item more e) =
          absurd (ends_here laws t bytes y.items more item y.last x.front y.end (subst (λ (xs : List Spelled). IsFrontText t (followed_part bytes) xs x.front) e x.is_front))

nothing_faulty : FrameLaws → (f : Framing) (rest : List ℕ) → rest ≡ [] → IsFaulty f most_frame rest → ⊥
nothing_faulty laws f rest none fault = (laws.empty f most_frame).no_fault (subst (λ (xs : List ℕ). IsFaulty f most_frame xs) none fault)

rest_once : FrameLaws → (t : Task) (bytes rest : List ℕ) (items : List Spelled) (text other : List ℕ) → IsRestText t bytes rest items text → IsRestText t bytes rest items other → text ≡ other
rest_once laws t bytes rest items text other (inl x) (inl y) =
    x.2 ∙ ap (λ (fault : SplitFault). last_text t (length (stream_of items)) (codes "refused " ++ why_words (Split fault))) (fault_once laws (framing t) (length (stream_of items)) rest x.0 y.0 x.1 y.1) ∙ sym y.2
rest_once laws t bytes rest items text other (inl x) (inr (inl y)) = absurd (y.0 (faulty (framing t) (length (stream_of items)) rest x.0 x.1))
rest_once laws t bytes rest items text other (inl x) (inr (inr (inl y))) = absurd (y.0 (faulty (framing t) (length (stream_of items)) rest x.0 x.1))
rest_once laws t bytes rest items text other (inl x) (inr (inr (inr y))) = absurd (nothing_faulty laws (framing t) rest y.0 (faulty (framing t) (length (stream_of items)) rest x.0 x.1))
rest_once laws t bytes rest items text other (inr (inl x)) (inl y) = absurd (x.0 (faulty (framing t) (length (stream_of items)) rest y.0 y.1))
rest_once laws t bytes rest items text other (inr (inl x)) (inr (inl y)) = x.3 ∙ sym y.3
rest_once laws t bytes rest items text other (inr (inl x)) (inr (inr (inl y))) = absurd (omega (arith, x.2, y.1))
rest_once laws t bytes rest items text other (inr (inl x)) (inr (inr (inr y))) = absurd (x.1 y.0)
rest_once laws t bytes rest items text other (inr (inr (inl x))) (inl y) = absurd (x.0 (faulty (framing t) (length (stream_of items)) rest y.0 y.1))
rest_once laws t bytes rest items text other (inr (inr (inl x))) (inr (inl y)) = absurd (omega (arith, x.1, y.2))
rest_once laws t bytes rest items text other (inr (inr (inl x))) (inr (inr (inl y))) = x.2 ∙ sym y.2
rest_once laws t bytes rest items text other (inr (inr (inl x))) (inr (inr (inr y))) = absurd (omega (arith, x.1, y.1))
rest_once laws t bytes rest items text other (inr (inr (inr x))) (inl y) = absurd (nothing_faulty laws (framing t) rest x.0 (faulty (framing t) (length (stream_of items)) rest y.0 y.1))
rest_once laws t bytes rest items text other (inr (inr (inr x))) (inr (inl y)) = absurd (y.1 x.0)
rest_once laws t bytes rest items text other (inr (inr (inr x))) (inr (inr (inl y))) = absurd (omega (arith, x.1, y.1))
rest_once laws t bytes rest items text other (inr (inr (inr x))) (inr (inr (inr y))) = x.2 ∙ sym y.2

end_once : FrameLaws → (t : Task) (bytes : List ℕ) (items : List Spelled) (text other : List ℕ) → IsEnd t bytes items text → IsEnd t bytes items other → text ≡ other
end_once laws t bytes items text other (inl x) (inl y) =
    let one : x.item ≡ y.item = next_once laws t (followed_part bytes) items [] [] x.item y.item x.next y.next in
    let why : x.why ≡ y.why = (laws.meaning (codec_of t) y.item.frame).one_reason x.why y.why (subst (λ (s : Spelled). Why (codec_of t) s.frame x.why) one x.refused) y.refused in
    x.text_is ∙ ap (λ (w : FrameWhy). last_text t (length (stream_of items)) (codes "refused " ++ why_words w)) why ∙ sym y.text_is
end_once laws t bytes items text other (inl x) (inr y) = absurd (no_rest t (followed_part bytes) items [] x.item y.0 x.next y.1)
end_once laws t bytes items text other (inr x) (inl y) = absurd (no_rest t (followed_part bytes) items [] y.item x.0 y.next x.1)
end_once laws t bytes items text other (inr x) (inr y) =
    let rest : x.0 ≡ y.0 = append_cancel_left (stream_of items) x.0 y.0 (sym x.1.whole ∙ y.1.whole) in
    rest_once laws t bytes y.0 items text other (subst (λ (r : List ℕ). IsRestText t bytes r items text) rest x.2) y.2

answer_once : FrameLaws → (t : Task) (bytes text other : List ℕ) → IsAnswer t bytes text → IsAnswer t bytes other → text ≡ other
answer_once laws t bytes text other x y =
    let items : x.items ≡ y.items = same_items laws t bytes text other x y in
    let front : x.front ≡ y.front = written_once laws t 0 y.items x.front y.front (subst (λ (xs : List Spelled). AreWritten t 0 xs x.front) items x.is_front.written) y.is_front.written in
    let last : x.last ≡ y.last = end_once laws t bytes y.items x.last y.last (subst (λ (xs : List Spelled). IsEnd t bytes xs x.last) items x.end) y.end in
    x.text_is ∙ ap (λ xs. xs ++ x.last) front ∙ ap (λ xs. y.front ++ xs) last ∙ sym y.text_is

-- what is written of frames is what is written of the first of them, and then more
written_split : (t : Task) (at : ℕ) (items more : List Spelled) (text : List ℕ) → AreWritten t at (items ++ more) text → (a b : List ℕ) × AreWritten t at items a × (text ≡ a ++ b)
written_split t at [] more text x = ([], text, refl, refl)
written_split t at (item ∷ items) more text x =
    let rest = written_split t (at + length item.spelling) items more x.1 x.4 in
    (x.0 ++ rest.0, rest.1, (x.0, rest.0, x.2, refl, rest.2), x.3 ∙ ap (λ xs. x.0 ++ xs) rest.3 ∙ sym (append_assoc x.0 rest.0 rest.1))

answer_begins : FrameLaws → (t : Task) (bytes text other : List ℕ) → IsBegun t bytes text → (y : IsAnswer t bytes other) → IsPrefix text other
answer_begins laws t bytes text other x y =
    by (compare laws (framing t) x.0 y.items x.1.begins.more y.is_front.begins.more x.1.begins.each y.is_front.begins.each (sym x.1.begins.whole ∙ y.is_front.begins.whole)) where
      by : Compared x.0 y.items → IsPrefix text other
      by (same e) =
          let front : text ≡ y.front = written_once laws t 0 y.items text y.front (subst (λ (xs : List Spelled). AreWritten t 0 xs text) e x.1.written) y.is_front.written in
          (y.last, sym (y.text_is ∙ ap (λ xs. xs ++ y.last) (sym front)))
      by (goes_on item more e) =
          let parts = written_split t 0 x.0 (item ∷ more) y.front (subst (λ (xs : List Spelled). AreWritten t 0 xs y.front) e y.is_front.written) in
          let front : text ≡ parts.0 = written_once laws t 0 x.0 text parts.0 x.1.written parts.2 in
          (parts.1 ++ y.last, sym (y.text_is ∙ ap (λ xs. xs ++ y.last) (parts.3 ∙ ap (λ xs. xs ++ parts.1) (sym front)) ∙ append_assoc text parts.1 y.last))
      by (is_front item more e) =
          absurd (ends_here laws t bytes y.items more item y.last text y.end (subst (λ (xs : List Spelled). IsFrontText t (followed_part bytes) xs text) e x.1))

-- ---- both kinds of answers

all_followed : (bytes : List ℕ) → length bytes ≤ most_bytes → followed_part bytes ≡ bytes
all_followed bytes within = take_all most_bytes bytes within

cut_followed : (t : Task) (bytes : List ℕ) (items : List Spelled) (rest : List ℕ) → length bytes ≤ most_bytes → IsCut t bytes items rest → IsCut t (followed_part bytes) items rest
cut_followed t bytes items rest within cut = subst (λ (b : List ℕ). IsCut t b items rest) (sym (all_followed bytes within)) cut

done_answer : (t : Task) (bytes text : List ℕ) → IsDone t bytes text → IsAnswer t bytes text
done_answer t bytes text x =
    let cut : IsCut t (followed_part bytes) x.0 [] = cut_followed t bytes x.0 [] x.1 x.2 in
    record {
      items = x.0;
      front = text;
      last = [];
      is_front = record { begins = record { more = []; whole = cut.whole; each = cut.each }; written = x.3 };
      end = inr ([], cut, inr (inr (inr (refl, x.1, refl))));
      text_is = sym (append-nil text);
    }

last_end : (t : Task) (bytes : List ℕ) (items : List Spelled) (last : List ℕ) → IsLast t bytes items last → IsEnd t bytes items last
last_end t bytes items last (inl (inl bad)) = inl bad
last_end t bytes items last (inl (inr bad)) = inr (bad.rest, bad.cut, inl (bad.fault, bad.refused, bad.text_is))
last_end t bytes items last (inr (inl left)) =
    inr (left.rest, cut_followed t bytes items left.rest left.within left.cut, inr (inl (left.not_bad, left.some, left.within, left.text_is)))
last_end t bytes items last (inr (inr limit)) = inr (limit.rest, limit.cut, inr (inr (inl (limit.not_bad, limit.past, limit.text_is))))

stopped_answer : (t : Task) (bytes text : List ℕ) → IsStopped t bytes text → IsAnswer t bytes text
stopped_answer t bytes text x = record { items = x.0; front = x.1; last = x.2; is_front = x.3; end = last_end t bytes x.0 x.2 x.4; text_is = x.5 }

-- where nothing is left, the task doesn't stop
not_last : FrameLaws → (t : Task) (bytes : List ℕ) (items : List Spelled) (last : List ℕ) → length bytes ≤ most_bytes → IsCut t bytes items [] → IsLast t bytes items last → ⊥
not_last laws t bytes items last within cut (inl (inl bad)) = no_rest t (followed_part bytes) items [] bad.item [] bad.next (cut_followed t bytes items [] within cut)
not_last laws t bytes items last within cut (inl (inr bad)) =
    let none : bad.rest ≡ [] = append_cancel_left (stream_of items) bad.rest [] (sym bad.cut.whole ∙ (cut_followed t bytes items [] within cut).whole) in
    nothing_faulty laws (framing t) bad.rest none (faulty (framing t) (length (stream_of items)) bad.rest bad.fault bad.refused)
not_last laws t bytes items last within cut (inr (inl left)) = left.some (append_cancel_left (stream_of items) left.rest [] (sym left.cut.whole ∙ cut.whole))
not_last laws t bytes items last within cut (inr (inr limit)) = absurd (omega (arith, within, limit.past))

begins_any : FrameLaws → (t : Task) (bytes text other : List ℕ) → IsBegun t bytes text → IsDone t bytes other ⊎ IsStopped t bytes other → IsPrefix text other
begins_any laws t bytes text other begun (inl x) = answer_begins laws t bytes text other begun (done_answer t bytes other x)
begins_any laws t bytes text other begun (inr x) = answer_begins laws t bytes text other begun (stopped_answer t bytes other x)

pub one_answer : FrameLaws → (t : Task) (bytes : List ℕ) → IsOneAnswer t bytes
unfolding done_answer stopped_answer
one_answer laws t bytes = record {
  some = some_answer laws t bytes;
  begins = begins_any laws t bytes;
  one_done = λ text other x y. answer_once laws t bytes text other (done_answer t bytes text x) (done_answer t bytes other y);
  one_stopped = λ text other x y. answer_once laws t bytes text other (stopped_answer t bytes text x) (stopped_answer t bytes other y);
  not_both = λ text other x y. (
      let items : x.0 ≡ y.0 = same_items laws t bytes text other (done_answer t bytes text x) (stopped_answer t bytes other y) in
      not_last laws t bytes y.0 y.2 x.1 (subst (λ (xs : List Spelled). IsCut t bytes xs []) items x.2) y.4
      );
}
