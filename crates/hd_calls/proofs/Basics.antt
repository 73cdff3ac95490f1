-- Lists of what messages are for.
use Rattle.std.proofs.Common.{◌≡◌, ℕ, Bool, true, false, List, [], ◌∷◌, ◌++◌, refl, sym, ap, ◌∙◌}
use Rattle.hm_message.specs.declared.message.Message.{Message}
use Rattle.hm_message.specs.Same.{same_text}
use Rattle.hd_facts.specs.Prefixes.{IsPrefix}
use Rattle.hd_delivery.specs.declared.vocabulary.Got.TheVariants as gives
use Rattle.hd_delivery.specs.Histories.{EndEvent, Detached, Took, Failed, Silenced, Closed, Config, is_closed, is_resumable}
use Rattle.hd_calls.specs.Hubs.{Way, Notify, Call, Stream, Invoked, Answer, Item, End, Purpose, ToBegin, ToAnswer, purpose_of, message_in, message_of, answer_message}
use Rattle.hd_calls.specs.PeerWorlds.{purposes, invoked}
use Rattle.hd_calls.proofs.Lists.{both}

-- x stands before the list where the test holds
abbrev pub put : {A : Type 0} → Bool → A → List A → List A
put true x xs = x ∷ xs
put false x xs = xs

pub put-append : {A : Type 0} (b : Bool) (x : A) (xs ys : List A) → put b x xs ++ ys ≡ put b x (xs ++ ys)
put-append true x xs ys = refl
put-append false x xs ys = refl

-- the answers with an id
abbrev pub said : List ℕ → List Purpose → List Answer
said i [] = []
said i (ToAnswer k a ∷ ms) = put (same_text i k) a (said i ms)
said i (_ ∷ ms) = said i ms

pub said-append : (i : List ℕ) (xs ys : List Purpose) → said i (xs ++ ys) ≡ said i xs ++ said i ys
said-append i [] ys = refl
said-append i (ToAnswer k a ∷ xs) ys = ap (put (same_text i k) a) (said-append i xs ys) ∙ sym (put-append (same_text i k) a (said i xs) (said i ys))
said-append i (_ ∷ xs) ys = said-append i xs ys

pub invoked-append : (xs ys : List Purpose) → invoked (xs ++ ys) ≡ invoked xs ++ invoked ys
invoked-append [] ys = refl
invoked-append (ToBegin c ∷ xs) ys = ap (λ zs. c ∷ zs) (invoked-append xs ys)
invoked-append (_ ∷ xs) ys = invoked-append xs ys

pub purposes-append : (xs ys : List Message) → purposes (xs ++ ys) ≡ purposes xs ++ purposes ys
purposes-append [] ys = refl
purposes-append (m ∷ xs) ys = ap (λ zs. purpose_of m ∷ zs) (purposes-append xs ys)

pub said_prefix : (i : List ℕ) (xs ys : List Purpose) → IsPrefix xs ys → IsPrefix (said i xs) (said i ys)
said_prefix i xs ys p = (said i p.0, sym (said-append i xs p.0) ∙ ap (said i) p.1)

pub invoked_prefix : (xs ys : List Purpose) → IsPrefix xs ys → IsPrefix (invoked xs) (invoked ys)
invoked_prefix xs ys p = (invoked p.0, sym (invoked-append xs p.0) ∙ ap invoked p.1)

pub purposes_prefix : (xs ys : List Message) → IsPrefix xs ys → IsPrefix (purposes xs) (purposes ys)
purposes_prefix xs ys p = (purposes p.0, sym (purposes-append xs p.0) ∙ ap purposes p.1)

-- what the messages of a peer are for
pub message-purpose : (c : Invoked) → purpose_of (message_of c) ≡ ToBegin c
message-purpose c = go c.way refl
  where
    go : (w : Way) → c.way ≡ w → purpose_of (message_in w c) ≡ ToBegin c
    go Notify e = ap (λ w. ToBegin (record { way = w; target = c.target; arguments = c.arguments; streams = c.streams })) (sym e)
    go (Call i) e = ap (λ w. ToBegin (record { way = w; target = c.target; arguments = c.arguments; streams = c.streams })) (sym e)
    go (Stream i) e = ap (λ w. ToBegin (record { way = w; target = c.target; arguments = c.arguments; streams = c.streams })) (sym e)

pub answer-purpose : (i : List ℕ) (a : Answer) → purpose_of (answer_message i a) ≡ ToAnswer i a
answer-purpose i (Item v) = refl
answer-purpose i (End e) = refl

-- an end that is closed stays so
pub closed_stays : (c : Config) (s : EndEvent) (h : List EndEvent) → is_closed c h ≡ true → is_closed c (s ∷ h) ≡ true
closed_stays c (Closed reason allow) h e = refl
closed_stays c (Failed fault) h e = refl
closed_stays c (Took (gives.Closed error allow)) h e = refl
closed_stays c (Detached now) h e = both (λ b. b ≡ true) (is_resumable c h) (is_closed c h) true (λ f. e) (λ f. refl)
closed_stays c (Silenced now) h e = both (λ b. b ≡ true) (is_resumable c h) (is_closed c h) true (λ f. e) (λ f. refl)
closed_stays c (_) h e = e
