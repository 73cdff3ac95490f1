-- The worked worlds over bytes are worlds, and their readers are faithful.
use Rattle.std.proofs.Common.{inl, ◌≡◌, ℕ, zero, suc, ◌<◌, ◌≤◌, Bool, true, false, List, [], ◌∷◌, ◌++◌, length, length-append, refl, arith, subst, ap, Option, Some, None}
use Rattle.std.specs.Prelude.{reverse, codes, Contains, ◌==◌, ◌+◌}
use Rattle.hm_message.specs.declared.message.Message.{Message}
use Rattle.hm_message.specs.declared.message.Codec.{Codec}
use Rattle.hm_message.specs.declared.message.Codec.TheVariants.{Json, Pack}
use Rattle.hd_delivery.specs.declared.vocabulary.Reason.{Reason}
use Rattle.hd_delivery.specs.declared.vocabulary.Reason.TheVariants.{Done, Protocol, InUse, TooMany, Flood, Slow, Expired}
use Rattle.hd_delivery.specs.declared.vocabulary.Side.{Side}
use Rattle.hd_delivery.specs.declared.vocabulary.Side.TheVariants.{Client, Server}
use Rattle.hd_delivery.specs.Frames.{LinkFrame, Request, Response, Numbered, Ack, Sequence, Ping, Close, error_of}
use Rattle.hd_delivery.specs.Worlds.{Limits, alike, CanBeSent}
use Rattle.hd_delivery.specs.Bytes.{Reading, Waits, Reads, Refuses, Stops, sizes_of, IsRead, IsFaithful, IsFirst, IsLater, IsSize, IsSoundReader, IsSoundWire, IsWorldOverBytes}
use Rattle.hd_delivery.specs.Examples.{call, a, b, c, limits_of, usual, terms}
use Rattle.hd_delivery.specs.ExamplesOverBytes.{flag_number, error_number, four_of, spell_four, read_four, error_numbered, first_of_four, later_of_four, four, lazy, padded, three_said, bytewise, unread_nine, own_limits}
use Rattle.hd_delivery.specs.Numbers.{most_framing}
use Rattle.hd_delivery.proofs.Local.{both}
use Rattle.hd_delivery.proofs.Examples.{below}

module _ (says : ℕ → ℕ → ℕ → ℕ → Reading) where
  waits_for_four : (kind x y z : ℕ) (front rest : List ℕ) → front ++ rest ≡ four_of kind x y z → 0 < length rest → read_four says front ≡ Waits
  waits_for_four kind x y z [] rest e h = refl
  waits_for_four kind x y z (p ∷ []) rest e h = refl
  waits_for_four kind x y z (p ∷ q ∷ []) rest e h = refl
  waits_for_four kind x y z (p ∷ q ∷ r ∷ []) rest e h = refl
  waits_for_four kind x y z (p ∷ q ∷ r ∷ s ∷ front) [] e h = absurd (omega arith)
  waits_for_four kind x y z (p ∷ q ∷ r ∷ s ∷ front) (t ∷ rest) e h = absurd (let z = ap length e in let w = length-append front (t ∷ rest) in omega arith)

  is_read : (kind x y z : ℕ) (f : LinkFrame) → says kind x y z ≡ Reads f 4 → IsRead (read_four says) (four_of kind x y z) f
  is_read kind x y z f e = record { nonempty = omega arith; whole = λ rest. e; waits = waits_for_four kind x y z }

number_is : (reason : Reason) → error_numbered (error_number (error_of reason)) ≡ error_of reason
number_is Done = refl
number_is Protocol = refl
number_is InUse = refl
number_is TooMany = refl
number_is Flood = refl
number_is Slow = refl
number_is Expired = refl

closes : (reason : Reason) (allow : Bool) → later_of_four 7 (error_number (error_of reason)) (flag_number allow) 0 ≡ Reads (Close (error_of reason) allow) 4
closes reason true = ap (λ e. Reads (Close e true) 4) (number_is reason)
closes reason false = ap (λ e. Reads (Close e false) 4) (number_is reason)

sequences : (first : ℕ) (received : Option ℕ) → IsRead (read_four later_of_four) (spell_four (Sequence first received)) (Sequence first received)
sequences first None = is_read later_of_four 5 first 0 0 (Sequence first None) refl
sequences first (Some n) = is_read later_of_four 5 first 1 n (Sequence first (Some n)) refl

messages_of : (m : Message) → Contains (a ∷ b ∷ c ∷ []) m → IsRead (read_four later_of_four) (spell_four (Numbered m)) (Numbered m)
messages_of m (zero, h, e) = subst (λ m. IsRead (read_four later_of_four) (spell_four (Numbered m)) (Numbered m)) e (is_read later_of_four 3 97 0 0 (Numbered a) refl)
messages_of m (suc zero, h, e) = subst (λ m. IsRead (read_four later_of_four) (spell_four (Numbered m)) (Numbered m)) e (is_read later_of_four 3 98 0 0 (Numbered b) refl)
messages_of m (suc (suc zero), h, e) = subst (λ m. IsRead (read_four later_of_four) (spell_four (Numbered m)) (Numbered m)) e (is_read later_of_four 3 99 0 0 (Numbered c) refl)
messages_of m (suc (suc (suc k)), h, e) = absurd (omega arith)

request_of : (codec : Codec) → IsRead (read_four (first_of_four Server)) (spell_four (Request codec 2)) (Request codec 2)
request_of Json = is_read (first_of_four Server) 1 2 0 0 (Request Json 2) refl
request_of Pack = is_read (first_of_four Server) 1 2 1 0 (Request Pack 2) refl

pub four_is_faithful : (codec : Codec) → IsFaithful usual four codec 2 (a ∷ b ∷ c ∷ [])
four_is_faithful codec = record {
  request = request_of codec;
  response = is_read (first_of_four Client) 2 0 0 0 Response refl;
  message = λ m e can. messages_of m e;
  ack = λ upto h. is_read later_of_four 4 upto 0 0 (Ack upto) refl;
  sequence = λ first received h g. sequences first received;
  ping = is_read later_of_four 6 0 0 0 Ping refl;
  close = λ reason allow. is_read later_of_four 7 (error_number (error_of reason)) (flag_number allow) 0 (Close (error_of reason) allow) (closes reason allow);
}

-- four numbers are a frame of the kind, are refused, or begin none
abbrev IsOfFour : (LinkFrame → Type 0) → Reading → Type 0
IsOfFour IsKind Waits = ⊥
IsOfFour IsKind (Reads f size) = IsKind f × (size ≡ 4)
IsOfFour IsKind (Refuses why size) = size ≡ 4
IsOfFour IsKind (Stops why) = Unit {0}

first_is_of_four : (side : Side) (kind x y z : ℕ) → IsOfFour (IsFirst side) (first_of_four side kind x y z)
first_is_of_four Client kind x y z = both (IsOfFour (IsFirst Client)) (kind == 2) _ _ (λ e. (tt, refl)) (λ e. (tt, refl))
first_is_of_four Server kind x y z = both (IsOfFour (IsFirst Server)) (kind == 1) _ _ (λ e. (tt, refl)) (λ e. (tt, refl))

-- no first frame is refused as a message
abbrev IsNoRefusal : Reading → Type 0
IsNoRefusal (Refuses why size) = ⊥
IsNoRefusal r = Unit {0}

first_is_no_refusal : (side : Side) (kind x y z : ℕ) → IsNoRefusal (first_of_four side kind x y z)
first_is_no_refusal Client kind x y z = both IsNoRefusal (kind == 2) _ _ (λ e. tt) (λ e. tt)
first_is_no_refusal Server kind x y z = both IsNoRefusal (kind == 1) _ _ (λ e. tt) (λ e. tt)

first_refuses_none : (side : Side) (bytes why : List ℕ) (size : ℕ) → read_four (first_of_four side) bytes ≡ Refuses why size → ⊥
first_refuses_none side [] why size e = absurd (cc)
first_refuses_none side (p ∷ []) why size e = absurd (cc)
first_refuses_none side (p ∷ q ∷ []) why size e = absurd (cc)
first_refuses_none side (p ∷ q ∷ r ∷ []) why size e = absurd (cc)
first_refuses_none side (p ∷ q ∷ r ∷ s ∷ rest) why size e = subst IsNoRefusal e (first_is_no_refusal side p q r s)

later_is_of_four : (kind x y z : ℕ) → IsOfFour IsLater (later_of_four kind x y z)
later_is_of_four kind x y z =
    both (IsOfFour IsLater) (kind == 3) _ _ (λ e. (refl, refl)) (λ e.
    both (IsOfFour IsLater) (kind == 4) _ _ (λ e. (tt, refl)) (λ e.
    both (IsOfFour IsLater) (kind == 5) _ _ (λ e. (tt, refl)) (λ e.
    both (IsOfFour IsLater) (kind == 6) _ _ (λ e. (tt, refl)) (λ e.
    both (IsOfFour IsLater) (kind == 7) _ _ (λ e. (tt, refl)) (λ e.
    both (IsOfFour IsLater) (kind == 8) _ _ (λ e. refl) (λ e. tt))))))

module _ (limits : Limits) (IsKind : LinkFrame → Type 0) (says : ℕ → ℕ → ℕ → ℕ → Reading) (of_four : (kind x y z : ℕ) → IsOfFour IsKind (says kind x y z)) where
  unfilled : (bytes : List ℕ) → read_four says bytes ≡ Waits → length bytes < limits.frame + most_framing
  unfilled [] e = omega arith
  unfilled (p ∷ []) e = omega arith
  unfilled (p ∷ q ∷ []) e = omega arith
  unfilled (p ∷ q ∷ r ∷ []) e = omega arith
  unfilled (p ∷ q ∷ r ∷ s ∷ rest) e = absurd (subst (IsOfFour IsKind) e (of_four p q r s))

  size_of : (p q r s : ℕ) (rest : List ℕ) (size : ℕ) → size ≡ 4 → IsSize limits (p ∷ q ∷ r ∷ s ∷ rest) size
  size_of p q r s rest size e = record { some = omega (arith, e); there = omega (arith, e); bounded = omega (arith, e) }

  gives : (bytes : List ℕ) (f : LinkFrame) (size : ℕ) → read_four says bytes ≡ Reads f size → IsKind f × IsSize limits bytes size
  gives [] f size e = absurd (cc)
  gives (p ∷ []) f size e = absurd (cc)
  gives (p ∷ q ∷ []) f size e = absurd (cc)
  gives (p ∷ q ∷ r ∷ []) f size e = absurd (cc)
  gives (p ∷ q ∷ r ∷ s ∷ rest) f size e = let g = subst (IsOfFour IsKind) e (of_four p q r s) in (g.0, size_of p q r s rest size g.1)

  refuses : (bytes why : List ℕ) (size : ℕ) → read_four says bytes ≡ Refuses why size → IsSize limits bytes size
  refuses [] why size e = absurd (cc)
  refuses (p ∷ []) why size e = absurd (cc)
  refuses (p ∷ q ∷ []) why size e = absurd (cc)
  refuses (p ∷ q ∷ r ∷ []) why size e = absurd (cc)
  refuses (p ∷ q ∷ r ∷ s ∷ rest) why size e = size_of p q r s rest size (subst (IsOfFour IsKind) e (of_four p q r s))

  steady : (bytes more : List ℕ) → (read_four says bytes ≡ Waits → ⊥) → read_four says (bytes ++ more) ≡ read_four says bytes
  steady [] more n = absurd (n refl)
  steady (p ∷ []) more n = absurd (n refl)
  steady (p ∷ q ∷ []) more n = absurd (n refl)
  steady (p ∷ q ∷ r ∷ []) more n = absurd (n refl)
  steady (p ∷ q ∷ r ∷ s ∷ rest) more n = refl

  reader_is_sound : IsSoundReader limits IsKind (read_four says)
  reader_is_sound = record { empty = refl; unfilled = unfilled; reads = gives; refuses = refuses; steady = steady }

framed_in_four : (f : LinkFrame) → length (spell_four f) ≡ 4
framed_in_four (Sequence first None) = refl
framed_in_four (Sequence first (Some received)) = refl
framed_in_four f = refl

pub four_is_sound : (limits : Limits) → IsSoundWire limits four
four_is_sound limits = record {
  framed = λ codec m can. (omega (arith, framed_in_four (Numbered m)), omega (arith, framed_in_four (Numbered m)));
  first = λ side. reader_is_sound limits (IsFirst side) (first_of_four side) (first_is_of_four side);
  first_refuses_none = first_refuses_none;
  later = λ codec. reader_is_sound limits IsLater later_of_four later_is_of_four;
}

module _ (limits : Side → Limits) (one_frame : (limits Client).frame ≡ (limits Server).frame) (short : (side : Side) → 4 ≤ (limits side).frame)
    (many : 3 ≤ (limits Client).count) (wide : 12 ≤ (limits Client).bytes) where
  can_go : (letter : List ℕ) → CanBeSent (limits Client) (sizes_of four) Json (call letter)
  can_go letter = record { sequenced = refl; fits = omega arith; as_read = refl; short = short Client }

  three_said_is_world : IsWorldOverBytes limits four (terms 2 true) (reverse three_said)
  three_said_is_world = ((((((((((((((one_frame, record { own = record { unclosed = refl; granted = inl refl; unused = refl; in_time = omega arith }; named = below 0 [] refl }), refl), record { own = record { unclosed = refl; granted = inl refl; unused = refl; in_time = omega arith }; named = refl }), record { link = 0; at = refl; unclosed = refl; front = ([], refl); few = omega (arith, short Server) }), refl), refl), record { link = 0; at = refl; unclosed = refl; front = ([], refl); few = omega (arith, short Client) }), refl), record { unclosed = refl; shakes = refl; few = omega arith; can_be = can_go (codes "a"); room = record { of_count = omega (arith, many); of_bytes = omega (arith, wide) } }), record { unclosed = refl; shakes = refl; few = omega arith; can_be = can_go (codes "b"); room = record { of_count = omega (arith, many); of_bytes = omega (arith, wide) } }), record { unclosed = refl; shakes = refl; few = omega arith; can_be = can_go (codes "c"); room = record { of_count = omega (arith, many); of_bytes = omega (arith, wide) } }), refl), refl), refl)

pub lazy_is_unsound : IsSoundWire (limits_of 4 1024 100000) lazy → ⊥
lazy_is_unsound sound = let h : 9 < 9 = (sound.later Json).unfilled (0 ∷ 0 ∷ 0 ∷ 0 ∷ 0 ∷ 0 ∷ 0 ∷ 0 ∷ 0 ∷ []) refl in omega (arith, h)

pub padded_is_unsound : IsSoundWire usual padded → ⊥
padded_is_unsound sound =
    let can : CanBeSent usual (sizes_of padded) Json a = record { sequenced = refl; fits = omega arith; as_read = refl; short = omega arith } in
    let h : 10 ≤ 9 = (sound.framed Json a can).1 in
    omega (arith, h)

pub bytewise_is_world : IsWorldOverBytes (alike usual) four (terms 2 true) (reverse bytewise)
bytewise_is_world = (((((((((((((((three_said_is_world (alike usual) refl (λ side. omega arith) (omega arith) (omega arith), record { link = 0; at = refl; unclosed = refl; front = (97 ∷ 0 ∷ 0 ∷ 3 ∷ 98 ∷ 0 ∷ 0 ∷ 3 ∷ 99 ∷ 0 ∷ 0 ∷ [], refl); few = omega arith }), record { link = 0; at = refl; unclosed = refl; front = (0 ∷ 0 ∷ 3 ∷ 98 ∷ 0 ∷ 0 ∷ 3 ∷ 99 ∷ 0 ∷ 0 ∷ [], refl); few = omega arith }), record { link = 0; at = refl; unclosed = refl; front = (0 ∷ 3 ∷ 98 ∷ 0 ∷ 0 ∷ 3 ∷ 99 ∷ 0 ∷ 0 ∷ [], refl); few = omega arith }), record { link = 0; at = refl; unclosed = refl; front = (3 ∷ 98 ∷ 0 ∷ 0 ∷ 3 ∷ 99 ∷ 0 ∷ 0 ∷ [], refl); few = omega arith }), refl), record { link = 0; at = refl; unclosed = refl; front = (98 ∷ 0 ∷ 0 ∷ 3 ∷ 99 ∷ 0 ∷ 0 ∷ [], refl); few = omega arith }), record { link = 0; at = refl; unclosed = refl; front = (0 ∷ 0 ∷ 3 ∷ 99 ∷ 0 ∷ 0 ∷ [], refl); few = omega arith }), record { link = 0; at = refl; unclosed = refl; front = (0 ∷ 3 ∷ 99 ∷ 0 ∷ 0 ∷ [], refl); few = omega arith }), record { link = 0; at = refl; unclosed = refl; front = (3 ∷ 99 ∷ 0 ∷ 0 ∷ [], refl); few = omega arith }), refl), record { link = 0; at = refl; unclosed = refl; front = (99 ∷ 0 ∷ 0 ∷ [], refl); few = omega arith }), record { link = 0; at = refl; unclosed = refl; front = (0 ∷ 0 ∷ [], refl); few = omega arith }), record { link = 0; at = refl; unclosed = refl; front = (0 ∷ [], refl); few = omega arith }), record { link = 0; at = refl; unclosed = refl; front = ([], refl); few = omega arith }), refl)

pub unread_nine_is_world : IsWorldOverBytes (alike (limits_of 4 1024 100000)) four (terms 2 true) (reverse unread_nine)
unread_nine_is_world = (three_said_is_world (alike (limits_of 4 1024 100000)) refl (λ side. omega arith) (omega arith) (omega arith), record { link = 0; at = refl; unclosed = refl; front = (99 ∷ 0 ∷ 0 ∷ [], refl); few = omega arith })

pub own_limits_is_world : IsWorldOverBytes own_limits four (terms 2 true) (reverse three_said)
own_limits_is_world = three_said_is_world own_limits refl short (omega arith) (omega arith)
  where
    short : (side : Side) → 4 ≤ (own_limits side).frame
    short Client = omega arith
    short Server = omega arith
