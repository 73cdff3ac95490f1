-- The numbers of messages on the link of one end alone stay near to how many there are, so 64 bits tell them where they are used.
use Rattle.std.proofs.Common.{◌≡◌, ◌≤◌, ◌<◌, ◌==◌, ◌&&◌, ◌||◌, ℕ, suc, ◌+◌, max, not, nat_le, Bool, true, false, List, Option, Some, None, IfSome, is_some, refl, sym, ap, ◌∙◌, subst, arith, option_map}
use Rattle.std.specs.Prelude.{if◌then◌else◌}
use Rattle.std.proofs.lemmas.Bool.{eq-eqb, leb-true}
use Rattle.hm_message.specs.declared.message.Message.{Message}
use Rattle.hd_delivery.specs.declared.vocabulary.Got.{Got}
use Rattle.hd_delivery.specs.declared.vocabulary.Got.TheVariants as gives
use Rattle.hd_delivery.specs.declared.vocabulary.Reason.{Reason}
use Rattle.hd_delivery.specs.declared.vocabulary.Side.{Side}
use Rattle.hd_delivery.specs.declared.vocabulary.Side.TheVariants.{Client, Server}
use Rattle.hd_delivery.specs.declared.vocabulary.Why.TheVariants.{Duplicate}
use Rattle.hd_delivery.specs.Alone.{IsOfFrame}
use Rattle.hd_delivery.specs.Numbers.{most_messages, most_of_64_bits}
use Rattle.hd_delivery.specs.Frames.{LinkFrame, Request, Response, Refusal, Numbered, Ack, Sequence, Ping, Close, Foreign, Strange, Unreadable, count, one_more}
use Rattle.hd_delivery.specs.Histories.{Config, Took, first_of, is_this, as_told}
use Rattle.hd_trace.specs.declared.marks.Marks.{Marks}
use Rattle.hd_trace.specs.declared.marks.Farewell.{Farewell}
use Rattle.hd_trace.specs.Marks.{place_by, attached, left, heard_something, lent, ticked, sent_one, closed_for, took}
use Rattle.hd_trace.specs.ByMarks.{next_by, next_number_by, given_by, frame_given, greets_by, message_given, due_by, due_there_by, opening_by, handshake_by, sequence_by, ack_by, message_by, ping_by, close_by, close_of}
use Rattle.ha_audit.specs.AloneState.{as_kept, HasNearNumbers}
use Rattle.ha_audit.specs.AloneSteps.{HasNumber}

-- ---- steps that give no number

pub near_left : (m : Marks) (now : ℕ) → HasNearNumbers (left now m)
near_left m now = record { next = λ r t. tt; said = tt }

pub near_attached : (m : Marks) (l now : ℕ) → HasNearNumbers (attached l now m)
near_attached m l now = record { next = λ r t. tt; said = tt }

pub near_heard : (m : Marks) → HasNearNumbers m → HasNearNumbers (heard_something m)
near_heard m near = record { next = near.next; said = near.said }

pub near_ticked : (m : Marks) (now : ℕ) → HasNearNumbers m → HasNearNumbers (ticked now m)
near_ticked m now near = record { next = near.next; said = near.said }

pub near_sent : (m : Marks) → HasNearNumbers m → HasNearNumbers (sent_one m)
near_sent m near = record { next = near.next; said = near.said }

pub near_closed : (m : Marks) (reason : Reason) (allow : Bool) → HasNearNumbers m → HasNearNumbers (closed_for reason allow m)
near_closed m reason allow near = record { next = near.next; said = near.said }

-- ---- what is said

-- a Sequence that is said names no number past the next one
abbrev pub IsLow : ℕ → LinkFrame → Type 0
IsLow place (Sequence first received) = first ≤ place
IsLow place f = Unit {0}

first_low : (p : ℕ) (a b : Option LinkFrame) → IfSome a (IsLow p) → IfSome b (IsLow p) → IfSome (first_of a b) (IsLow p)
first_low p None b x y = y
first_low p (Some f) b x y = x

if_low : (p : ℕ) (t : Bool) (a b : Option LinkFrame) → IfSome a (IsLow p) → IfSome b (IsLow p) → IfSome (if t then a else b) (IsLow p)
if_low p true a b x y = x
if_low p false a b x y = y

message_low : (p : ℕ) (o : Option Message) → IfSome (option_map Numbered o) (IsLow p)
message_low p None = tt
message_low p (Some m) = tt

farewell_low : (p : ℕ) (o : Option Farewell) → IfSome (option_map close_of o) (IsLow p)
farewell_low p None = tt
farewell_low p (Some f) = tt

shake_low : (p : ℕ) (side : Side) (c : Config) (closed shaken : Bool) → IfSome (handshake_by side c closed shaken) (IsLow p)
shake_low p Client c true shaken = tt
shake_low p Client c false shaken = tt
shake_low p Server c closed true = tt
shake_low p Server c closed false = tt

there_low : (c : Config) (m : Marks) (sent : List Message) (o : Option ℕ) → IfSome (due_there_by c m sent o) (IsLow (place_by m))
there_low c m sent None = tt
there_low c m sent (Some l) = if_low (place_by m) m.opened
    (first_of (sequence_by m sent) (first_of (ack_by m) (first_of (message_by m sent l) (first_of (ping_by m) (close_by m))))) (opening_by c m l)
    (first_low (place_by m) (sequence_by m sent) (first_of (ack_by m) (first_of (message_by m sent l) (first_of (ping_by m) (close_by m))))
    (if_low (place_by m) _ (Some (Sequence (place_by m) None)) None (omega arith) tt)
    (first_low (place_by m) (ack_by m) (first_of (message_by m sent l) (first_of (ping_by m) (close_by m)))
    (if_low (place_by m) _ (Some (Ack m.processed)) None tt tt)
    (first_low (place_by m) (message_by m sent l) (first_of (ping_by m) (close_by m))
    (if_low (place_by m) _ (option_map Numbered (next_by m sent)) None (message_low (place_by m) (next_by m sent)) tt)
    (first_low (place_by m) (ping_by m) (close_by m) (if_low (place_by m) _ (Some Ping) None tt tt)
    (if_low (place_by m) _ (option_map close_of m.farewell) None (farewell_low (place_by m) m.farewell) tt)))))
    (if_low (place_by m) (is_this l m.first) (handshake_by c.side c m.closed m.shaken)
    (Some (Sequence (suc m.acked) (if m.three then Some m.processed else None)))
    (shake_low (place_by m) c.side c m.closed m.shaken) (omega arith))

pub due_low : (c : Config) (m : Marks) (sent : List Message) (f : LinkFrame) → due_by c m sent ≡ Some f → IsLow (place_by m) f
due_low c m sent f e = subst (λ o. IfSome o (IsLow (place_by m))) e (there_low c m sent m.link)

one_said : (acked place : ℕ) (o : Option ℕ) → IfSome o (λ n. n ≤ place) → IfSome (one_more o) (λ n. n ≤ suc (max acked place))
one_said acked place None low = tt
one_said acked place (Some n) low = let z : n ≤ place = low in omega arith

pub near_lent : (m : Marks) (f : LinkFrame) → IsLow (place_by m) f → HasNearNumbers m → HasNearNumbers (lent f m)
near_lent m (Request codec version) low near = record { next = near.next; said = (omega arith) }
near_lent m Response low near = record { next = near.next; said = (omega arith) }
near_lent m (Refusal text) low near = record { next = near.next; said = near.said }
near_lent m (Numbered msg) low near = record { next = near.next; said = one_said m.acked (place_by m) m.said near.said }
near_lent m (Ack upto) low near = record { next = near.next; said = near.said }
near_lent m (Sequence first received) low near = record { next = near.next; said = low }
near_lent m Ping low near = record { next = near.next; said = near.said }
near_lent m (Close error allow) low near = record { next = near.next; said = near.said }
near_lent m (Foreign k) low near = record { next = near.next; said = near.said }
near_lent m (Strange why answer) low near = record { next = near.next; said = near.said }
near_lent m (Unreadable at why) low near = record { next = near.next; said = near.said }

-- ---- what is taken

-- how many messages are processed once it was taken
abbrev pub processed_with : Got → ℕ → ℕ
processed_with (gives.Message msg) p = suc p
processed_with got p = p

processed_more : (got : Got) (p : ℕ) → p ≤ processed_with got p
processed_more (gives.Shaken codec version) p = omega arith
processed_more (gives.Message msg) p = omega arith
processed_more (gives.Acked upto) p = omega arith
processed_more (gives.Sequenced first) p = omega arith
processed_more (gives.Resumed first received) p = omega arith
processed_more gives.Ping p = omega arith
processed_more (gives.Skipped why) p = omega arith
processed_more (gives.Closed error allow) p = omega arith

-- a handshake is the Sequence of 1
greets_one : (side : Side) (c : Config) (f : LinkFrame) (got : Got) (o : Option ℕ) → greets_by side c f ≡ Some got → count o f ≡ Some 1
greets_one Client c (Request codec version) got o e = refl
greets_one Client c Response got o e = refl
greets_one Client c (Refusal text) got o e = absurd (let z : ◌≡◌ {A = Option Got} None (Some got) = e in cc)
greets_one Client c (Numbered msg) got o e = absurd (let z : ◌≡◌ {A = Option Got} None (Some got) = e in cc)
greets_one Client c (Ack upto) got o e = absurd (let z : ◌≡◌ {A = Option Got} None (Some got) = e in cc)
greets_one Client c (Sequence first received) got o e = absurd (let z : ◌≡◌ {A = Option Got} None (Some got) = e in cc)
greets_one Client c Ping got o e = absurd (let z : ◌≡◌ {A = Option Got} None (Some got) = e in cc)
greets_one Client c (Close error allow) got o e = absurd (let z : ◌≡◌ {A = Option Got} None (Some got) = e in cc)
greets_one Client c (Foreign k) got o e = absurd (let z : ◌≡◌ {A = Option Got} None (Some got) = e in cc)
greets_one Client c (Strange why answer) got o e = absurd (let z : ◌≡◌ {A = Option Got} None (Some got) = e in cc)
greets_one Client c (Unreadable at why) got o e = absurd (let z : ◌≡◌ {A = Option Got} None (Some got) = e in cc)
greets_one Server c (Request codec version) got o e = refl
greets_one Server c Response got o e = refl
greets_one Server c (Refusal text) got o e = absurd (let z : ◌≡◌ {A = Option Got} None (Some got) = e in cc)
greets_one Server c (Numbered msg) got o e = absurd (let z : ◌≡◌ {A = Option Got} None (Some got) = e in cc)
greets_one Server c (Ack upto) got o e = absurd (let z : ◌≡◌ {A = Option Got} None (Some got) = e in cc)
greets_one Server c (Sequence first received) got o e = absurd (let z : ◌≡◌ {A = Option Got} None (Some got) = e in cc)
greets_one Server c Ping got o e = absurd (let z : ◌≡◌ {A = Option Got} None (Some got) = e in cc)
greets_one Server c (Close error allow) got o e = absurd (let z : ◌≡◌ {A = Option Got} None (Some got) = e in cc)
greets_one Server c (Foreign k) got o e = absurd (let z : ◌≡◌ {A = Option Got} None (Some got) = e in cc)
greets_one Server c (Strange why answer) got o e = absurd (let z : ◌≡◌ {A = Option Got} None (Some got) = e in cc)
greets_one Server c (Unreadable at why) got o e = absurd (let z : ◌≡◌ {A = Option Got} None (Some got) = e in cc)

low_first : (resumable fits : Bool) (a b : Option Got) (got : Got) → (if resumable then (if fits then a else None) else b) ≡ Some got
    → resumable ≡ true → fits ≡ true
low_first true true a b got e r = refl
low_first true false a b got e r = absurd (let z : ◌≡◌ {A = Option Got} None (Some got) = e in cc)
low_first false fits a b got e r = absurd (cc)

most_low : (a b : ℕ) → nat_le a b ≡ true → a ≤ b
most_low a b e = leb-true a b e

none_counts : (o : Option ℕ) (p q : ℕ) → p ≤ q → IfSome o (λ n. n ≤ suc p) → IfSome o (λ n. n ≤ suc q)
none_counts None p q more low = tt
none_counts (Some n) p q more low = let z : n ≤ suc p = low in omega arith

one_got : (g got : Got) → Some g ≡ Some got → g ≡ got
one_got g got e = cc

numbered_near : (p : ℕ) (o : Option ℕ) (msg : Message) (got : Got) → IfSome o (λ n. n ≤ suc p) → message_given p o msg ≡ Some got → IfSome
    (one_more o) (λ n. n ≤ suc (processed_with got p))
numbered_near p None msg got low e = tt
numbered_near p (Some n) msg got low e = go (n == most_messages + 1) (n == suc p) refl e
  where
    go : (a b : Bool) → (n == suc p) ≡ b →
        (if a then None else (if b then Some (gives.Message msg) else Some (gives.Skipped (Duplicate n)))) ≡ Some got → suc n ≤ suc
        (processed_with got p)
    go true b is e = absurd (let z : ◌≡◌ {A = Option Got} None (Some got) = e in cc)
    go false true is e = subst (λ g. suc n ≤ suc (processed_with g p)) (one_got (gives.Message msg) got e) (let z : n ≤ suc p = low in omega arith)
    go false false is e = subst (λ g. suc n ≤ suc (processed_with g p)) (one_got (gives.Skipped (Duplicate n)) got e)
        (let z : n ≤ suc p = low in let not : (n ≡ suc p → ⊥) = (λ same. other (n == suc p) (eq-eqb n (suc p) same) is) in omega (arith, z, not))
      where
        other : (b : Bool) → b ≡ true → b ≡ false → ⊥
        other true p q = absurd (cc)
        other false p q = absurd (cc)

number_is : (m : Marks) (l : ℕ) → m.resumable ≡ true → m.three ≡ false → next_number_by m l ≡ m.next
number_is m l r t = ap (λ b. if b then (if is_some m.next && (is_this l m.first || m.opened) then Some (suc m.processed) else None) else m.next)
    (both m.three m.resumable t r)
  where
    both : (three resumable : Bool) → three ≡ false → resumable ≡ true → (three || not resumable) ≡ false
    both false true p q = refl
    both true resumable p q = absurd (cc)
    both false false p q = absurd (cc)

-- after the handshake
frame_near : (m : Marks) (l : ℕ) (f : LinkFrame) (got : Got) → m.resumable ≡ true → m.three ≡ false → IfSome m.next (λ n. n ≤ suc m.processed)
    → frame_given m (next_number_by m l) f ≡ Some got
    → IfSome (count m.next f) (λ n. n ≤ suc (processed_with got m.processed))
frame_near m l (Request codec version) got r t low e = (omega arith)
frame_near m l Response got r t low e = (omega arith)
frame_near m l (Refusal text) got r t low e = none_counts m.next m.processed (processed_with got m.processed) (processed_more got m.processed) low
frame_near m l (Numbered msg) got r t low e = numbered_near m.processed m.next msg got low
    (ap (λ o. message_given m.processed o msg) (sym (number_is m l r t)) ∙ e)
frame_near m l (Ack upto) got r t low e = none_counts m.next m.processed (processed_with got m.processed) (processed_more got m.processed) low
frame_near m l (Sequence first received) got r t low e = let small = most_low first (suc m.processed)
    (low_first m.resumable (nat_le first (suc m.processed)) _ _ got e r) in let more = processed_more got m.processed in omega (arith, small, more)
frame_near m l Ping got r t low e = none_counts m.next m.processed (processed_with got m.processed) (processed_more got m.processed) low
frame_near m l (Close error allow) got r t low e = none_counts m.next m.processed (processed_with got m.processed)
    (processed_more got m.processed) low
frame_near m l (Foreign k) got r t low e = none_counts m.next m.processed (processed_with got m.processed) (processed_more got m.processed) low
frame_near m l (Strange why answer) got r t low e = none_counts m.next m.processed (processed_with got m.processed)
    (processed_more got m.processed) low
frame_near m l (Unreadable at why) got r t low e = none_counts m.next m.processed (processed_with got m.processed)
    (processed_more got m.processed) low

-- what is taken leaves the next number near
next_near : (c : Config) (m : Marks) (l : ℕ) (f : LinkFrame) (got : Got) → m.resumable ≡ true → m.three ≡ false → HasNearNumbers m → (b : Bool)
    → (if b then frame_given m (next_number_by m l) f else greets_by c.side c f) ≡ Some got → IfSome (count m.next f)
    (λ n. n ≤ suc (processed_with got m.processed))
next_near c m l f got r t near true e = frame_near m l f got r t (near.next r t) e
next_near c m l f got r t near false e = subst (λ o. IfSome o (λ n. n ≤ suc (processed_with got m.processed)))
    (sym (greets_one c.side c f got m.next e)) (omega arith)

shaken_near : (c : Config) (m : Marks) (l : ℕ) (f : LinkFrame) (got : Got) → m.shaken ≡ false → given_by c m (next_number_by m l) f ≡ Some got
    → IfSome (count m.next f) (λ n. n ≤ suc m.processed)
shaken_near c m l f got unshaken e = subst (λ o. IfSome o (λ n. n ≤ suc m.processed))
    (sym (greets_one c.side c f got m.next (ap (λ b. if b then frame_given m (next_number_by m l) f else greets_by c.side c f) (sym unshaken) ∙ e)))
    (omega arith)

more_said : (o : Option ℕ) (p q : ℕ) → p ≤ q → IfSome o (λ n. n ≤ p) → IfSome o (λ n. n ≤ q)
more_said None p q more low = tt
more_said (Some n) p q more low = let z : n ≤ p = low in omega arith

pub near_took : (c : Config) (m : Marks) (l : ℕ) (reconnect : Bool) (f : LinkFrame) (got : Got) → IsOfFrame m.shaken (Took got) → given_by c m
    (next_number_by m l) f ≡ Some got
    → HasNearNumbers m → HasNearNumbers (took reconnect f got m)
near_took c m l reconnect f
    (gives.Shaken codec version) of e near = record { next = λ r t. shaken_near c m l f (gives.Shaken codec version) of e; said = near.said }
near_took c m l reconnect f
    (gives.Message msg) of e near = record { next = λ r t. next_near c m l f (gives.Message msg) r t near m.shaken e; said = near.said }
near_took c m l reconnect f
    (gives.Acked upto) of e near =
    record {
      next = λ r t. next_near c m l f (gives.Acked upto) r t near m.shaken e;
      said = more_said m.said (place_by m)
          (place_by (took reconnect f (gives.Acked upto) m)) (omega arith) near.said;
    }
near_took c m l reconnect f
    (gives.Sequenced first) of e near = record { next = λ r t. next_near c m l f (gives.Sequenced first) r t near m.shaken e; said = near.said }
near_took c m l reconnect f
    (gives.Resumed first received) of e near =
    record {
      next = λ r t. next_near c m l f (gives.Resumed first received) r t near m.shaken e;
      said = more_said m.said (place_by m)
          (place_by (took reconnect f (gives.Resumed first received) m)) (omega arith) near.said;
    }
near_took c m l reconnect f gives.Ping of e near = record { next = λ r t. next_near c m l f gives.Ping r t near m.shaken e; said = near.said }
near_took c m l reconnect f
    (gives.Skipped why) of e near = record { next = λ r t. next_near c m l f (gives.Skipped why) r t near m.shaken e; said = near.said }
near_took c m l reconnect f
    (gives.Closed error allow) of e near = record { next = λ r t. next_near c m l f (gives.Closed error allow) r t near m.shaken e; said = near.said }

-- ---- so they are told in 64 bits

next_told : (o : Option ℕ) (p : ℕ) → p ≤ most_messages → IfSome o (λ n. n ≤ suc p) → IfSome (option_map as_told o) (λ n. n < most_of_64_bits)
next_told None p few low = tt
next_told (Some n) p few low = let z : n ≤ suc p = low in omega arith

pub has_number : (m : Marks) → m.processed ≤ most_messages → HasNearNumbers m → HasNumber (as_kept m)
has_number m few near = λ r t. next_told m.next m.processed few (near.next r t)

pub said_told : (m : Marks) → max m.acked m.written ≤ most_messages → HasNearNumbers m → IfSome m.said (λ n. n < most_of_64_bits)
said_told m few near = go m.said near.said
  where
    go : (o : Option ℕ) → IfSome o (λ n. n ≤ place_by m) → IfSome o (λ n. n < most_of_64_bits)
    go None low = tt
    go (Some n) low = let z : n ≤ place_by m = low in omega (arith, z, few)
