-- The control frames in JSON, as texts.
use Rattle.std.proofs.Common.{◌≡◌, ◌≤◌, ◌+◌, ℕ, Bool, true, false, List, [], ◌∷◌, ◌++◌, length, ◌∙◌, ap, arith, append_assoc, Some, None}
use Rattle.std.specs.Prelude.{codes}
use Rattle.std.specs.Fmt.{decimal}
use Rattle.std.proofs.lemmas.Fmt.{decimal_digit}
use Rattle.json.specs.Print.{escape_byte}
use Rattle.hv_json.specs.Writing.{json_text}
use Rattle.hm_message.specs.declared.message.Message.TheVariants as message
use Rattle.hm_message.specs.declared.message.Codec.TheVariants.{Json}
use Rattle.hm_codec.specs.Frames.{framed}
use Rattle.hd_delivery.specs.declared.vocabulary.Reason.{Reason}
use Rattle.hd_delivery.specs.declared.vocabulary.Reason.TheVariants.{Done, Protocol, InUse, TooMany, Flood, Slow, Expired}
use Rattle.hd_delivery.specs.Frames.{error_of}
use Rattle.he_wire.specs.Controls.{allow_text, error_text}

-- the type of one digit, the closing brace and the separator
abbrev pub last : ℕ → List ℕ
last digit = codes "\"type\":" ++ (48 + digit) ∷ 125 ∷ 30 ∷ []

pub ack_is : (n : ℕ) → framed Json (message.Ack n) ≡ codes "{\"sequenceId\":" ++ (decimal n ++ 44 ∷ last 8)
unfolding json_text escape_byte
ack_is n =
    let eight : decimal 8 ≡ 56 ∷ [] = decimal_digit 8 (omega arith) in
    ap (λ (ds : List ℕ). codes "{\"sequenceId\":" ++ ((decimal n ++ (codes ",\"type\":" ++ (ds ++ 125 ∷ []))) ++ 30 ∷ [])) eight
    ∙ ap (λ (xs : List ℕ). codes "{\"sequenceId\":" ++ xs) (append_assoc (decimal n) (codes ",\"type\":8}") (30 ∷ []))

pub sequence_is : (n : ℕ) → framed Json (message.Sequence n None) ≡ codes "{\"sequenceId\":" ++ (decimal n ++ 44 ∷ last 9)
unfolding json_text escape_byte
sequence_is n =
    let nine : decimal 9 ≡ 57 ∷ [] = decimal_digit 9 (omega arith) in
    ap (λ (ds : List ℕ). codes "{\"sequenceId\":" ++ ((decimal n ++ (codes ",\"type\":" ++ (ds ++ 125 ∷ []))) ++ 30 ∷ [])) nine
    ∙ ap (λ (xs : List ℕ). codes "{\"sequenceId\":" ++ xs) (append_assoc (decimal n) (codes ",\"type\":9}") (30 ∷ []))

pub resumed_is : (n r : ℕ) → framed Json (message.Sequence n (Some r))
    ≡ codes "{\"received\":" ++ (decimal r ++ (codes ",\"sequenceId\":" ++ (decimal n ++ 44 ∷ last 9)))
unfolding json_text escape_byte
resumed_is n r =
    let nine : decimal 9 ≡ 57 ∷ [] = decimal_digit 9 (omega arith) in
    ap (λ (ds : List ℕ). codes "{\"received\":" ++ ((decimal r ++ (codes ",\"sequenceId\":" ++ (decimal n ++ (codes ",\"type\":" ++ (ds ++ 125 ∷ []))))) ++ 30 ∷ [])) nine
    ∙ ap (λ (xs : List ℕ). codes "{\"received\":" ++ xs)
    (append_assoc (decimal r) (codes ",\"sequenceId\":" ++ (decimal n ++ codes ",\"type\":9}")) (30 ∷ [])
    ∙ ap (λ (xs : List ℕ). decimal r ++ (codes ",\"sequenceId\":" ++ xs)) (append_assoc (decimal n) (codes ",\"type\":9}") (30 ∷ [])))

pub ping_is : framed Json message.Ping ≡ 123 ∷ last 6
unfolding json_text escape_byte
ping_is = ap (λ (ds : List ℕ). (codes "{\"type\":" ++ (ds ++ 125 ∷ [])) ++ 30 ∷ []) (decimal_digit 6 (omega arith))

abbrev seven : decimal 7 ≡ 55 ∷ []
seven = decimal_digit 7 (omega arith)

-- a Close ends so
abbrev closing : List ℕ → List ℕ
closing digits = (codes "\"type\":" ++ (digits ++ 125 ∷ [])) ++ 30 ∷ []

pub close_is : (reason : Reason) (allow : Bool) → framed Json (message.Close (error_of reason) allow)
    ≡ 123 ∷ (allow_text allow ++ (error_text (error_of reason) ++ last 7))
unfolding json_text escape_byte
close_is Done true = ap (λ (ds : List ℕ). 123 ∷ (allow_text true ++ (error_text (error_of Done) ++ closing ds))) seven
close_is Done false = ap (λ (ds : List ℕ). 123 ∷ (allow_text false ++ (error_text (error_of Done) ++ closing ds))) seven
close_is Protocol true = ap (λ (ds : List ℕ). 123 ∷ (allow_text true ++ (error_text (error_of Protocol) ++ closing ds))) seven
close_is Protocol false = ap (λ (ds : List ℕ). 123 ∷ (allow_text false ++ (error_text (error_of Protocol) ++ closing ds))) seven
close_is InUse true = ap (λ (ds : List ℕ). 123 ∷ (allow_text true ++ (error_text (error_of InUse) ++ closing ds))) seven
close_is InUse false = ap (λ (ds : List ℕ). 123 ∷ (allow_text false ++ (error_text (error_of InUse) ++ closing ds))) seven
close_is TooMany true = ap (λ (ds : List ℕ). 123 ∷ (allow_text true ++ (error_text (error_of TooMany) ++ closing ds))) seven
close_is TooMany false = ap (λ (ds : List ℕ). 123 ∷ (allow_text false ++ (error_text (error_of TooMany) ++ closing ds))) seven
close_is Flood true = ap (λ (ds : List ℕ). 123 ∷ (allow_text true ++ (error_text (error_of Flood) ++ closing ds))) seven
close_is Flood false = ap (λ (ds : List ℕ). 123 ∷ (allow_text false ++ (error_text (error_of Flood) ++ closing ds))) seven
close_is Slow true = ap (λ (ds : List ℕ). 123 ∷ (allow_text true ++ (error_text (error_of Slow) ++ closing ds))) seven
close_is Slow false = ap (λ (ds : List ℕ). 123 ∷ (allow_text false ++ (error_text (error_of Slow) ++ closing ds))) seven
close_is Expired true = ap (λ (ds : List ℕ). 123 ∷ (allow_text true ++ (error_text (error_of Expired) ++ closing ds))) seven
close_is Expired false = ap (λ (ds : List ℕ). 123 ∷ (allow_text false ++ (error_text (error_of Expired) ++ closing ds))) seven

-- the longest error of a Close is "Connection expired."
pub errors_are_short : (reason : Reason) → length (error_text (error_of reason)) ≤ 30
errors_are_short Done = omega arith
errors_are_short Protocol = omega arith
errors_are_short InUse = omega arith
errors_are_short TooMany = omega arith
errors_are_short Flood = omega arith
errors_are_short Slow = omega arith
errors_are_short Expired = omega arith

-- ---- parts that were appended one after another

pub more : (b c x y : List ℕ) → b ≡ x → c ≡ b ++ y → c ≡ x ++ y
more b c x y now next = next ∙ ap (λ (zs : List ℕ). zs ++ y) now

pub three : (a b c d x y z : List ℕ) → a ≡ [] → b ≡ a ++ x → c ≡ b ++ y → d ≡ c ++ z → d ≡ x ++ (y ++ z)
three a b c d x y z none one two last = more c d (x ++ y) z (more b c x y (more a b [] x none one) two) last ∙ append_assoc x y z

pub four : (a b c d e x y z v : List ℕ) → a ≡ [] → b ≡ a ++ x → c ≡ b ++ y → d ≡ c ++ z → e ≡ d ++ v → e ≡ x ++ (y ++ (z ++ v))
four a b c d e x y z v none one two there last =
    more d e (x ++ (y ++ z)) v (three a b c d x y z none one two there) last ∙ append_assoc x (y ++ z) v
    ∙ ap (λ (zs : List ℕ). x ++ zs) (append_assoc y z v)

pub five : (a b c d e f x y z v w : List ℕ) → a ≡ [] → b ≡ a ++ x → c ≡ b ++ y → d ≡ c ++ z → e ≡ d ++ v → f ≡ e ++ w
    → f ≡ x ++ (y ++ (z ++ (v ++ w)))
five a b c d e f x y z v w none one two there here last =
    more e f (x ++ (y ++ (z ++ v))) w (four a b c d e x y z v none one two there here) last ∙ append_assoc x (y ++ (z ++ v)) w
    ∙ ap (λ (zs : List ℕ). x ++ zs) (append_assoc y (z ++ v) w ∙ ap (λ (zs : List ℕ). y ++ zs) (append_assoc z v w))
