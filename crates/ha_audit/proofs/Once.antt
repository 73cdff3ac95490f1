-- The words of a head are those of no other, and so are those of a step.
use Rattle.std.proofs.Common.{◌≡◌, ◌≢◌, ◌<◌, ◌^◌, ℕ, suc, length, Bool, true, false, Option, Some, None, IfNone, IfSome, IsSomeAnd, MatchOption, List, [], ◌∷◌, ◌++◌, get_or, Ok, Err, ◌⊎◌, inl, inr, refl, sym, ◌∙◌, ap, subst, arith}
use Rattle.std.specs.Prelude.{codes}
use Rattle.std.specs.Fmt.{decimal}
use Rattle.std.proofs.lemmas.Fmt.{decimal_injective}
use Rattle.std.proofs.lemmas.List.{append_cancel_left}
use Rattle.hex.specs.declared.error.FromHexError.{FromHexError}
use Rattle.hex.specs.declared.error.FromHexError.TheVariants.{OutOfMemory}
use Rattle.hex.specs.Hex.{IsBytes, decode_of, encode_lower, encode_with}
use Rattle.hex.proofs.HexLemmas.{decode_of-encode_lower, decode_of-same}
use Rattle.hm_message.specs.declared.message.Codec.{Codec}
use Rattle.hm_message.specs.declared.message.Codec.TheVariants.{Json, Pack}
use Rattle.hm_message.specs.declared.message.Message.{Message}
use Rattle.hm_json.specs.Frame.{frame_of}
use Rattle.hm_json.specs.Laws.{FramesHaveOneMeaning}
use Rattle.hm_json.specs.Says.{Says}
use Rattle.hd_delivery.specs.Worlds.{Limits}
use Rattle.hd_delivery.specs.declared.vocabulary.Side.{Side}
use Rattle.hd_delivery.specs.declared.vocabulary.Side.TheVariants.{Client, Server}
use Rattle.hd_trace.specs.declared.trace.ToldStep.{ToldStep}
use Rattle.hd_trace.specs.declared.trace.ToldStep.TheVariants.{Attach, Detach, Feed, Lend, Send, Take, Tick, Close}
use Rattle.hd_trace.specs.declared.trace.TraceLine.{TraceLine}
use Rattle.sr_notation.specs.Laws.{LimitsAreToldOnce, WordsAreCutOnce}
use Rattle.sr_notation.specs.Settings.{buffer_words}
use Rattle.sr_notation.specs.Words.{IsWord, letter}
use Rattle.ha_audit.specs.declared.head.Head.{Head}
use Rattle.ha_audit.specs.Grammar.{HasLine, HasText, IsHead, codec_word, head_words, line_words, piece_words, step_words, switch_word}
use Rattle.ha_audit.specs.Laws.{LinesAreLines}
use Rattle.ha_audit.proofs.Lines.{from_codec, from_switch, from_version, is_word}

-- the first bytes of words
abbrev pub first : List ℕ → ℕ
first words = get_or words 0 0

abbrev second : List ℕ → ℕ
second words = get_or words 1 0

-- ---- bytes and messages

pub same_bytes : (bytes others : List ℕ) → IsBytes bytes → IsBytes others → encode_lower bytes ≡ encode_lower others → bytes ≡ others
same_bytes bytes others p q e =
    decode_of-same (encode_lower bytes) bytes others (decode_of-encode_lower bytes p) (ap decode_of e ∙ decode_of-encode_lower others q)

-- some bytes have digits
pub some_digits : (bytes : List ℕ) → bytes ≢ [] → 0 < length (encode_lower bytes)
unfolding encode_with
some_digits [] some = absurd (some refl)
some_digits (b ∷ bytes) some = omega arith

pub no_digits : (digits bytes : List ℕ) → length digits ≡ 0 → bytes ≢ [] → digits ≡ encode_lower bytes → ⊥
no_digits digits bytes none some e = omega (arith, none, some_digits bytes some, ap length e)

-- digits that were read and written again
pub read_again : (digits bytes : List ℕ) → length digits ≢ 0 → digits ≡ encode_lower bytes → bytes ≢ []
unfolding encode_with
read_again digits [] some e = λ z. some (ap length e)
read_again digits (b ∷ bytes) some e = λ z. (let n : suc (length bytes) ≡ 0 = ap length z in omega (arith, n))

-- what can't be read isn't the digits of bytes
pub no_reading : (digits bytes : List ℕ) (e : FromHexError) → (e ≡ OutOfMemory → ⊥) → (e ≡ OutOfMemory) ⊎ (decode_of digits ≡ Err e) → IsBytes bytes
    → digits ≡ encode_lower bytes → ⊥
no_reading digits bytes e other (inl memory) is same = other memory
no_reading digits bytes e other (inr bad) is same =
    absurd (let d : ◌≡◌ (Err e) (Ok bytes) = sym bad ∙ ap decode_of same ∙ decode_of-encode_lower bytes is in cc)

-- no digits are a dash
pub no_dash : (bytes : List ℕ) → IsBytes bytes → encode_lower bytes ≡ 45 ∷ [] → ⊥
no_dash bytes p e = (let d : decode_of (45 ∷ []) ≡ Ok bytes = sym (ap decode_of e) ∙ decode_of-encode_lower bytes p in cc)

pub same_piece : (piece other : List ℕ) → IsBytes piece → IsBytes other → piece_words piece ≡ piece_words other → piece ≡ other
same_piece [] [] p q e = refl
same_piece [] (b ∷ bytes) p q e = absurd (no_dash (b ∷ bytes) q (sym e))
same_piece (b ∷ bytes) [] p q e = absurd (no_dash (b ∷ bytes) p e)
same_piece (b ∷ bytes) (c ∷ others) p q e = same_bytes (b ∷ bytes) (c ∷ others) p q e

pub same_message : FramesHaveOneMeaning → (m other : Message) → HasText m → HasText other → frame_of m ≡ frame_of other → m ≡ other
same_message law m other p q e = (law (frame_of m)).one_message m other p.said (subst (λ (frame : List ℕ). Says frame other) (sym e) q.said)

-- a test has one answer
pub apart : (t : Bool) → t ≡ true → t ≡ false → ⊥
apart true p q = cc
apart false p q = cc

-- what was read makes the step
pub told_step : {A : Type 0} (P : A → Type 0) (Q : ToldStep → Type 0) (make : A → ToldStep) (given : Option A) (made : Option ToldStep)
    → MatchOption given (made ≡ None) (λ x. IsSomeAnd made (λ y. y ≡ make x)) → ((x : A) → P x → Q (make x)) → IfSome given P → IfSome made Q
told_step P Q make None None e on has = tt
told_step P Q make None (Some y) e on has = absurd cc
told_step P Q make (Some x) None e on has = absurd e
told_step P Q make (Some x) (Some y) e on has = subst Q (sym e) (on x has)

-- ---- steps: what words say that begin so

pub attach_of : (step : ToldStep) (rest : List ℕ) → codes "attach " ++ rest ≡ step_words step → (link : ℕ) × ((step ≡ Attach link) × (rest ≡ decimal link))
attach_of (Attach link) rest e = (link, (refl, append_cancel_left (codes "attach ") rest (decimal link) e))
attach_of Detach rest e = absurd (let h : 97 ≡ 100 = ap first e in omega arith)
attach_of (Feed piece) rest e = absurd (let h : 97 ≡ 102 = ap first e in omega arith)
attach_of (Lend frame) rest e = absurd (let h : 97 ≡ 108 = ap first e in omega arith)
attach_of (Send m) rest e = absurd (let h : 97 ≡ 115 = ap first e in omega arith)
attach_of (Take words) rest e = absurd (let h : 97 ≡ 116 = ap first e in omega arith)
attach_of (Tick now) rest e = absurd (let h : 97 ≡ 116 = ap first e in omega arith)
attach_of Close rest e = absurd (let h : 97 ≡ 99 = ap first e in omega arith)

pub fed_of : (step : ToldStep) (rest : List ℕ) → codes "fed " ++ rest ≡ step_words step → (piece : List ℕ) × ((step ≡ Feed piece) × (rest ≡ piece_words piece))
fed_of (Attach link) rest e = absurd (let h : 102 ≡ 97 = ap first e in omega arith)
fed_of Detach rest e = absurd (let h : 102 ≡ 100 = ap first e in omega arith)
fed_of (Feed piece) rest e = (piece, (refl, append_cancel_left (codes "fed ") rest (piece_words piece) e))
fed_of (Lend frame) rest e = absurd (let h : 102 ≡ 108 = ap first e in omega arith)
fed_of (Send m) rest e = absurd (let h : 102 ≡ 115 = ap first e in omega arith)
fed_of (Take words) rest e = absurd (let h : 102 ≡ 116 = ap first e in omega arith)
fed_of (Tick now) rest e = absurd (let h : 102 ≡ 116 = ap first e in omega arith)
fed_of Close rest e = absurd (let h : 102 ≡ 99 = ap first e in omega arith)

pub lent_of : (step : ToldStep) (rest : List ℕ) → codes "lent " ++ rest ≡ step_words step → (frame : List ℕ) × ((step ≡ Lend frame) × (rest ≡ encode_lower frame))
lent_of (Attach link) rest e = absurd (let h : 108 ≡ 97 = ap first e in omega arith)
lent_of Detach rest e = absurd (let h : 108 ≡ 100 = ap first e in omega arith)
lent_of (Feed piece) rest e = absurd (let h : 108 ≡ 102 = ap first e in omega arith)
lent_of (Lend frame) rest e = (frame, (refl, append_cancel_left (codes "lent ") rest (encode_lower frame) e))
lent_of (Send m) rest e = absurd (let h : 108 ≡ 115 = ap first e in omega arith)
lent_of (Take words) rest e = absurd (let h : 108 ≡ 116 = ap first e in omega arith)
lent_of (Tick now) rest e = absurd (let h : 108 ≡ 116 = ap first e in omega arith)
lent_of Close rest e = absurd (let h : 108 ≡ 99 = ap first e in omega arith)

pub sent_of : (step : ToldStep) (rest : List ℕ) → codes "sent " ++ rest ≡ step_words step → (m : Message) × ((step ≡ Send m) × (rest ≡ frame_of m))
sent_of (Attach link) rest e = absurd (let h : 115 ≡ 97 = ap first e in omega arith)
sent_of Detach rest e = absurd (let h : 115 ≡ 100 = ap first e in omega arith)
sent_of (Feed piece) rest e = absurd (let h : 115 ≡ 102 = ap first e in omega arith)
sent_of (Lend frame) rest e = absurd (let h : 115 ≡ 108 = ap first e in omega arith)
sent_of (Send m) rest e = (m, (refl, append_cancel_left (codes "sent ") rest (frame_of m) e))
sent_of (Take words) rest e = absurd (let h : 115 ≡ 116 = ap first e in omega arith)
sent_of (Tick now) rest e = absurd (let h : 115 ≡ 116 = ap first e in omega arith)
sent_of Close rest e = absurd (let h : 115 ≡ 99 = ap first e in omega arith)

pub took_of : (step : ToldStep) (rest : List ℕ) → codes "took " ++ rest ≡ step_words step → (words : List ℕ) × ((step ≡ Take words) × (rest ≡ words))
took_of (Attach link) rest e = absurd (let h : 116 ≡ 97 = ap first e in omega arith)
took_of Detach rest e = absurd (let h : 116 ≡ 100 = ap first e in omega arith)
took_of (Feed piece) rest e = absurd (let h : 116 ≡ 102 = ap first e in omega arith)
took_of (Lend frame) rest e = absurd (let h : 116 ≡ 108 = ap first e in omega arith)
took_of (Send m) rest e = absurd (let h : 116 ≡ 115 = ap first e in omega arith)
took_of (Take words) rest e = (words, (refl, append_cancel_left (codes "took ") rest (words) e))
took_of (Tick now) rest e = absurd (let h : 111 ≡ 105 = ap second e in omega arith)
took_of Close rest e = absurd (let h : 116 ≡ 99 = ap first e in omega arith)

pub tick_of : (step : ToldStep) (rest : List ℕ) → codes "tick " ++ rest ≡ step_words step → (now : ℕ) × ((step ≡ Tick now) × (rest ≡ decimal now))
tick_of (Attach link) rest e = absurd (let h : 116 ≡ 97 = ap first e in omega arith)
tick_of Detach rest e = absurd (let h : 116 ≡ 100 = ap first e in omega arith)
tick_of (Feed piece) rest e = absurd (let h : 116 ≡ 102 = ap first e in omega arith)
tick_of (Lend frame) rest e = absurd (let h : 116 ≡ 108 = ap first e in omega arith)
tick_of (Send m) rest e = absurd (let h : 116 ≡ 115 = ap first e in omega arith)
tick_of (Take words) rest e = absurd (let h : 105 ≡ 111 = ap second e in omega arith)
tick_of (Tick now) rest e = (now, (refl, append_cancel_left (codes "tick ") rest (decimal now) e))
tick_of Close rest e = absurd (let h : 116 ≡ 99 = ap first e in omega arith)

pub detach_of : (step : ToldStep) → codes "detach" ≡ step_words step → step ≡ Detach
detach_of (Attach link) e = absurd (let h : 100 ≡ 97 = ap first e in omega arith)
detach_of Detach e = refl
detach_of (Feed piece) e = absurd (let h : 100 ≡ 102 = ap first e in omega arith)
detach_of (Lend frame) e = absurd (let h : 100 ≡ 108 = ap first e in omega arith)
detach_of (Send m) e = absurd (let h : 100 ≡ 115 = ap first e in omega arith)
detach_of (Take words) e = absurd (let h : 100 ≡ 116 = ap first e in omega arith)
detach_of (Tick now) e = absurd (let h : 100 ≡ 116 = ap first e in omega arith)
detach_of Close e = absurd (let h : 100 ≡ 99 = ap first e in omega arith)

pub close_of : (step : ToldStep) → codes "close" ≡ step_words step → step ≡ Close
close_of (Attach link) e = absurd (let h : 99 ≡ 97 = ap first e in omega arith)
close_of Detach e = absurd (let h : 99 ≡ 100 = ap first e in omega arith)
close_of (Feed piece) e = absurd (let h : 99 ≡ 102 = ap first e in omega arith)
close_of (Lend frame) e = absurd (let h : 99 ≡ 108 = ap first e in omega arith)
close_of (Send m) e = absurd (let h : 99 ≡ 115 = ap first e in omega arith)
close_of (Take words) e = absurd (let h : 99 ≡ 116 = ap first e in omega arith)
close_of (Tick now) e = absurd (let h : 99 ≡ 116 = ap first e in omega arith)
close_of Close e = refl

-- the words of a step are those of no other
pub same_step : FramesHaveOneMeaning → (step other : ToldStep) → HasLine step → HasLine other → step_words step ≡ step_words other → step ≡ other
same_step law (Attach link) other p q e =
    let o = attach_of other (decimal link) e in
    let q' : o.0 < 2 ^ 64 = subst HasLine o.1.0 q in
    ap (λ (n : ℕ). Attach n) (decimal_injective link o.0 p q' o.1.1) ∙ sym o.1.0
same_step law Detach other p q e = sym (detach_of other e)
same_step law (Feed piece) other p q e =
    let o = fed_of other (piece_words piece) e in
    let q' : IsBytes o.0 = subst HasLine o.1.0 q in
    ap (λ (bytes : List ℕ). Feed bytes) (same_piece piece o.0 p q' o.1.1) ∙ sym o.1.0
same_step law (Lend frame) other p q e =
    let o = lent_of other (encode_lower frame) e in
    let q' : IsBytes o.0 × (o.0 ≢ []) = subst HasLine o.1.0 q in
    ap (λ (bytes : List ℕ). Lend bytes) (same_bytes frame o.0 p.0 q'.0 o.1.1) ∙ sym o.1.0
same_step law (Send m) other p q e =
    let o = sent_of other (frame_of m) e in
    let q' : HasText o.0 = subst HasLine o.1.0 q in
    ap (λ (n : Message). Send n) (same_message law m o.0 p q' o.1.1) ∙ sym o.1.0
same_step law (Take words) other p q e =
    let o = took_of other words e in
    ap (λ (told : List ℕ). Take told) o.1.1 ∙ sym o.1.0
same_step law (Tick now) other p q e =
    let o = tick_of other (decimal now) e in
    let q' : o.0 < 2 ^ 64 = subst HasLine o.1.0 q in
    ap (λ (n : ℕ). Tick n) (decimal_injective now o.0 p q' o.1.1) ∙ sym o.1.0
same_step law Close other p q e = sym (close_of other e)

-- ---- heads

same_codec : (codec other : Codec) → codec_word codec ≡ codec_word other → codec ≡ other
same_codec Json Json e = refl
same_codec Json Pack e = absurd (let h : 106 ≡ 112 = ap first e in omega arith)
same_codec Pack Json e = absurd (let h : 112 ≡ 106 = ap first e in omega arith)
same_codec Pack Pack e = refl

same_switch : (on other : Bool) → switch_word on ≡ switch_word other → on ≡ other
same_switch true true e = refl
same_switch true false e = absurd (let h : 110 ≡ 102 = ap second e in omega arith)
same_switch false true e = absurd (let h : 102 ≡ 110 = ap second e in omega arith)
same_switch false false e = refl

codec_is_word : (codec : Codec) → IsWord (codec_word codec)
codec_is_word Json = is_word (codes "json") refl
codec_is_word Pack = is_word (codes "pack") refl

switch_is_word : (on : Bool) → IsWord (switch_word on)
switch_is_word true = is_word (codes "on") refl
switch_is_word false = is_word (codes "off") refl

-- what the words of a head are cut into
pub record AreParts (codec version switch limits : List ℕ) (head : Head) : Type 0 where
  pub codec_is : codec ≡ codec_word head.codec
  pub version_is : version ≡ decimal head.version
  pub switch_is : switch ≡ switch_word head.reconnect
  pub limits_are : limits ≡ buffer_words head.limits

pub head_cut : WordsAreCutOnce → (codec version switch limits : List ℕ) (head : Head) → IsHead head → IsWord codec → IsWord version → IsWord switch
    → codes "trace " ++ (codec ++ 32 ∷ (version ++ 32 ∷ (switch ++ 32 ∷ limits))) ≡ head_words head → AreParts codec version switch limits head
head_cut cuts codec version switch limits head is p q r e =
    let whole = append_cancel_left (codes "trace ") (codec ++ 32 ∷ (version ++ 32 ∷ (switch ++ 32 ∷ limits))) (from_codec head) e in
    let one = cuts.one_cut codec (codec_word head.codec) (version ++ 32 ∷ (switch ++ 32 ∷ limits)) (from_version head) p (codec_is_word head.codec) whole in
    let two = cuts.one_cut version (decimal head.version) (switch ++ 32 ∷ limits) (from_switch head) q (cuts.digits head.version (omega (arith, is.version.1))) one.1 in
    let three = cuts.one_cut switch (switch_word head.reconnect) limits (buffer_words head.limits) r (switch_is_word head.reconnect) two.1 in
    record { codec_is = one.0; version_is = two.0; switch_is = three.0; limits_are = three.1 }

-- a fact that holds in any case
pub if_none : {A X : Type 0} → (r : Option A) → X → IfNone r X
if_none None x = x
if_none (Some a) x = tt

-- a head has a space after its codec, after its version, and after its switch
pub no_codec : WordsAreCutOnce → (words rest : List ℕ) (head : Head) → words ≡ codes "trace " ++ rest → IsWord rest → words ≡ head_words head → ⊥
no_codec cuts words rest head cut p e =
    cuts.no_cut rest (codec_word head.codec) (from_version head) p (append_cancel_left (codes "trace ") rest (from_codec head) (sym cut ∙ e))

pub no_version : WordsAreCutOnce → (words codec rest : List ℕ) (head : Head) → words ≡ codes "trace " ++ (codec ++ 32 ∷ rest) → IsWord codec → IsWord rest
    → words ≡ head_words head → ⊥
no_version cuts words codec rest head cut p q e =
    let one = cuts.one_cut codec (codec_word head.codec) rest (from_version head) p (codec_is_word head.codec)
    (append_cancel_left (codes "trace ") (codec ++ 32 ∷ rest) (from_codec head) (sym cut ∙ e)) in
    cuts.no_cut rest (decimal head.version) (from_switch head) q one.1

pub no_switch : WordsAreCutOnce → (words codec version rest : List ℕ) (head : Head) → IsHead head
    → words ≡ codes "trace " ++ (codec ++ 32 ∷ (version ++ 32 ∷ rest)) → IsWord codec → IsWord version → IsWord rest → words ≡ head_words head → ⊥
no_switch cuts words codec version rest head is cut p q r e =
    let one = cuts.one_cut codec (codec_word head.codec) (version ++ 32 ∷ rest) (from_version head) p (codec_is_word head.codec)
    (append_cancel_left (codes "trace ") (codec ++ 32 ∷ (version ++ 32 ∷ rest)) (from_codec head) (sym cut ∙ e)) in
    let two = cuts.one_cut version (decimal head.version) rest (from_switch head) q (cuts.digits head.version (omega (arith, is.version.1))) one.1 in
    cuts.no_cut rest (switch_word head.reconnect) (buffer_words head.limits) r two.1

pub same_fields : (head other : Head) → head.codec ≡ other.codec → head.version ≡ other.version → head.reconnect ≡ other.reconnect → head.limits ≡ other.limits
    → head ≡ other
same_fields head other p q r s =
    ap (λ (x : Codec). record { codec = x; version = head.version; reconnect = head.reconnect; limits = head.limits }) p
    ∙ ap (λ (x : ℕ). record { codec = other.codec; version = x; reconnect = head.reconnect; limits = head.limits }) q
    ∙ ap (λ (x : Bool). record { codec = other.codec; version = other.version; reconnect = x; limits = head.limits }) r
    ∙ ap (λ (x : Limits). record { codec = other.codec; version = other.version; reconnect = other.reconnect; limits = x }) s

-- the words of a head are those of no other
pub same_head : WordsAreCutOnce → LimitsAreToldOnce → (head other : Head) → IsHead head → IsHead other → head_words head ≡ head_words other → head ≡ other
same_head cuts law head other is is' e =
    let parts = head_cut cuts (codec_word head.codec) (decimal head.version) (switch_word head.reconnect) (buffer_words head.limits) other is'
    (codec_is_word head.codec) (cuts.digits head.version (omega (arith, is.version.1))) (switch_is_word head.reconnect) e in
    same_fields head other (same_codec head.codec other.codec parts.codec_is)
    (decimal_injective head.version other.version (omega (arith, is.version.1)) (omega (arith, is'.version.1)) parts.version_is)
    (same_switch head.reconnect other.reconnect parts.switch_is)
    (law other.limits head.limits is'.limits is.limits parts.limits_are)

-- ---- lines

letters_apart : (side other : Side) (xs ys : List ℕ) → letter side ++ 32 ∷ xs ≡ letter other ++ 32 ∷ ys → (side ≡ other) × (xs ≡ ys)
letters_apart Client Client xs ys e = (refl, append_cancel_left (99 ∷ 32 ∷ []) xs ys e)
letters_apart Client Server xs ys e = absurd (let h : 99 ≡ 115 = ap first e in omega arith)
letters_apart Server Client xs ys e = absurd (let h : 115 ≡ 99 = ap first e in omega arith)
letters_apart Server Server xs ys e = (refl, append_cancel_left (115 ∷ 32 ∷ []) xs ys e)

-- words after a letter are those of the line's end and step
pub line_of : (side : Side) (words : List ℕ) (told : TraceLine) → letter side ++ 32 ∷ words ≡ line_words told → (side ≡ told.side) × (words ≡ step_words told.step)
line_of side words told e = letters_apart side told.side words (step_words told.step) e

-- the words of a line are those of no other
pub same_line : LinesAreLines → (told other : TraceLine) → HasLine told.step → HasLine other.step → line_words told ≡ line_words other → told ≡ other
same_line law told other p q e =
    let parts = line_of told.side (step_words told.step) other e in
    ap (λ (s : Side). record { side = s; step = told.step }) parts.0
    ∙ ap (λ (s : ToldStep). record { side = other.side; step = s }) (law.one_step told.step other.step p q parts.1)
