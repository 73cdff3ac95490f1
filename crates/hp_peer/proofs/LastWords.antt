-- The error for what is too long can be sent for each call that a peer makes.
use Rattle.std.proofs.Common.{◌≡◌, ◌∙◌, ℕ, ◌+◌, ◌≤◌, Bool, true, false, List, [], ◌∷◌, length, Some, refl, sym, ap, subst, arith}
use Rattle.std.specs.Prelude.{codes, ◌==◌, if◌then◌else◌}
use Rattle.std.proofs.lemmas.Bool.{eqb-true, le-leb}
use Rattle.json.specs.Print.{escape_byte}
use Rattle.hm_message.specs.declared.message.Codec.{Codec}
use Rattle.hm_message.specs.declared.message.Codec.TheVariants.{Json, Pack}
use Rattle.hm_message.specs.declared.message.Message.TheVariants.{Completion}
use Rattle.hm_codec.specs.Frames.{frame_of}
use Rattle.hm_codec.specs.Laws.{ErrorsAreShort, text_size}
use Rattle.hd_delivery.specs.declared.vocabulary.Side.{Side}
use Rattle.he_wire.specs.Wires.{IsHouseWire}
use Rattle.he_wire.specs.Laws.{shortest_limit}
use Rattle.hd_calls.specs.Numbers.{most_numbers}
use Rattle.hd_calls.specs.Hubs.{Hub, Way, Notify, Call, Stream, Invoked, id_of}
use Rattle.hd_calls.specs.Ids.{IdsAreDrawn, id_at, most_id}
use Rattle.hd_calls.specs.Peers.{PeerEvent, Calls, Settings, call_of, codec, drawn, too_long}
use Rattle.hd_calls.specs.Rules.{Follows, MadeAs, new_numbers}
use Rattle.hd_calls.specs.PeerWorlds.{HasLastWords}

-- ---- its frame

-- JSON leaves the text as it is
text_is_plain : (codec : Codec) → text_size codec (codes "The answer is too long.") ≡ 23
unfolding escape_byte
text_is_plain Json = refl
text_is_plain Pack = refl

is_short : ErrorsAreShort → (codec : Codec) (id : List ℕ) → length id ≤ most_id → length (frame_of codec (Completion [] id too_long)) ≤ shortest_limit
is_short errors codec id few = omega (arith, errors.frame codec id (codes "The answer is too long."), errors.text codec id, text_is_plain codec, few)

-- ---- the ids of calls

-- the call has the id of its number, which was drawn
record IsNamed (t : Settings) (n : ℕ) (id : List ℕ) : Type 0 where
  is : id ≡ t.name n
  few : n ≤ most_numbers

made_so : (t : Settings) (last n : ℕ) (way : Way) (c : Invoked) (id : List ℕ) → MadeAs t last n way c → last + new_numbers way c ≤ most_numbers → id_of way ≡ Some id
    → IsNamed t n id
made_so t last n Notify c id made few e = absurd (cc)
made_so t last n (Call k) c id made few e = let same : k ≡ id = cc in record { is = sym same ∙ made.0; few = omega (arith, made.1.0, few) }
made_so t last n (Stream k) c id made few e = let same : k ≡ id = cc in record { is = sym same ∙ made.0; few = omega (arith, made.1.0, few) }

is_named : {Job : Type 0} (hub : Hub Job) (t : Settings) (h : List PeerEvent) → Follows hub t h → (n : ℕ) (c : Invoked) (id : List ℕ) → call_of n h ≡ Some c
    → id_of c.way ≡ Some id → IsNamed t n id
is_named hub t [] follows n c id e has = absurd (cc)
is_named hub t (Calls a k x ∷ h) follows n c id e has = go (λ g. is_named hub t h follows.0 n c id g has) (n == k) refl e
  where
    go : (call_of n h ≡ Some c → IsNamed t n id) → (b : Bool) → (n == k) ≡ b → (if b then Some x else call_of n h) ≡ Some c → IsNamed t n id
    go before true f g =
        let same : c ≡ x = cc in
        subst (λ m. IsNamed t m id) (sym (eqb-true n k f))
        (made_so t (drawn h) k x.way x id follows.1.made follows.1.place.few_numbers (ap (λ (y : Invoked). id_of y.way) (sym same) ∙ has))
    go before false f g = before g
is_named hub t (_ ∷ h) follows n c id e has = is_named hub t h follows.0 n c id e has

-- ---- so it can be sent

pub has_last_words : {Job : Type 0} (hub : Hub Job) (errors : ErrorsAreShort) (ids : IdsAreDrawn) (side : Side) (t caller : Settings) (h other : List PeerEvent)
    → ((n : ℕ) → caller.name n ≡ id_at side n) → Follows hub caller other → IsHouseWire t.limits.frame t.wire → shortest_limit ≤ t.limits.frame → HasLastWords t h other
has_last_words hub errors ids side t caller h other names follows house room n c id e has =
    let named = is_named hub caller other follows n c id e has in
    let few : length id ≤ most_id = subst (λ s. length s ≤ most_id) (sym (named.is ∙ names n)) (ids.short side n named.few) in
    le-leb (t.wire.frame_size (codec t h) (Completion [] id too_long)) t.limits.frame
    (omega (arith, house.sizes (codec t h) (Completion [] id too_long), is_short errors (codec t h) id few, room))
