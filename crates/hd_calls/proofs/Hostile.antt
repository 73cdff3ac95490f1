-- Cases of a server whose client does as it likes.
use Rattle.std.proofs.Common.{inl, ◌≡◌, ◌≤◌, ℕ, zero, suc, Bool, true, false, List, [], ◌∷◌, ◌++◌, length, length-append, refl, sym, ap, ◌∙◌, subst, arith}
use Rattle.std.proofs.lemmas.List.{map-append}
use Rattle.std.specs.Prelude.{◌+◌, ◌*◌, map, drop, Some, None, ◌-◌, ◌==◌, ◌&&◌, not, nat_lt, slice_get, reverse, if◌then◌else◌}
use Rattle.hm_message.specs.declared.message.Codec.TheVariants.{Json}
use Rattle.hm_message.specs.declared.message.Ending.TheVariants.{Void}
use Rattle.hd_delivery.specs.declared.vocabulary.Side.TheVariants.{Server}
use Rattle.hd_calls.specs.Hubs.{Answer, Item, End, answer_message, upload_input}
use Rattle.hd_calls.specs.Weights.{call_weight, input_weight, inputs_weight, job_weight}
use Rattle.hd_calls.specs.Peers.{Feeds, Handles, Settings, has_end, takes, begun, turns, inputs, of_stream, reply, over, live_job}
use Rattle.hd_calls.specs.Rules.{sum_below, used, inputs_left, inputs_waiting, weight_at, kept_weight, IsStrange, StreamAt}
use Rattle.hd_calls.specs.PeerWorlds.{settings}
use Rattle.hd_calls.specs.Examples.{pair, int, fed, stolen_stream, with_own_call, reads, ServerMay, ServerNever, uploaded_often, one_item_more, FillsInputs}
use Rattle.hd_calls.proofs.Examples.{at_most}
use Rattle.hd_calls.proofs.Weighed.{inputs_push}

-- ---- own calls come first

-- no Stream of the server has the id
not_streamed : IsStrange (settings Server (pair Json 1 false)) (reverse (reads with_own_call (answer_message (115 ∷ 1 ∷ []) (Item (int 1))))) (115 ∷ 1 ∷ []) (Item (int 1))
not_streamed n e = let z : n ≡ 1 = cc in subst (λ x. takes x (Item (int 1)) (reverse (reads with_own_call (answer_message (115 ∷ 1 ∷ []) (Item (int 1))))) ≡ false) (sym z) refl

pub item_is_fed : ServerMay (reads with_own_call (answer_message (115 ∷ 1 ∷ []) (Item (int 1)))) (Handles (answer_message (115 ∷ 1 ∷ []) (Item (int 1))) (Feeds 0 0 (Item (int 1))))
item_is_fed = (refl, (refl, not_streamed, record { call = stolen_stream; at = refl; stream = refl; live = refl; unended = refl }, record { few = at_most refl; light = at_most refl }), tt)

pub ending_is_not_fed : ServerNever (reads with_own_call (answer_message (115 ∷ 1 ∷ []) (End Void))) (Handles (answer_message (115 ∷ 1 ∷ []) (End Void)) (Feeds 0 0 (End Void)))
ending_is_not_fed m = let z : true ≡ false = m.1.1 1 refl in absurd (cc)

-- ---- inputs that wait

often_begun : (k : ℕ) → begun (uploaded_often k) ≡ fed ∷ []
often_begun zero = refl
often_begun (suc k) = often_begun k

often_unturned : (k : ℕ) → turns 0 (uploaded_often k) ≡ []
often_unturned zero = refl
often_unturned (suc k) = often_unturned k

often_inputs : (k : ℕ) → length (inputs 0 (uploaded_often k)) ≡ k
often_inputs zero = refl
often_inputs (suc k) =
    length-append (inputs 0 (uploaded_often k)) ((0, Item (int 1)) ∷ []) ∙ (let e = often_inputs k in let f : length {A = ℕ × Answer} ((0, Item (int 1)) ∷ []) ≡ 1 = refl in omega arith)

often_left : (k : ℕ) → inputs_left 0 (uploaded_often k) ≡ k
often_left k = ap (λ ts. length (inputs 0 (uploaded_often k)) - used ts) (often_unturned k) ∙ (let e = often_inputs k in omega arith)

often_going : (t : Settings) (k : ℕ) → over t 0 (uploaded_often k) ≡ false
often_going t zero = refl
often_going t (suc k) = often_going t k

open_push : (xs : List (ℕ × Answer)) → has_end (of_stream 0 xs) ≡ false → has_end (of_stream 0 (xs ++ (0, Item (int 1)) ∷ [])) ≡ false
open_push [] e = refl
open_push (x ∷ xs) e = go (0 == x.0) x.1 e (λ f. open_push xs f)
  where
    go : (b : Bool) (a : Answer) → has_end (if b then a ∷ of_stream 0 xs else of_stream 0 xs) ≡ false → (has_end (of_stream 0 xs) ≡ false → has_end (of_stream 0 (xs ++ (0, Item (int 1)) ∷ [])) ≡ false)
        → has_end (if b then a ∷ of_stream 0 (xs ++ (0, Item (int 1)) ∷ []) else of_stream 0 (xs ++ (0, Item (int 1)) ∷ [])) ≡ false
    go true (Item v) f g = g f
    go true (End v) f g = f
    go false a f g = g f

often_open : (k : ℕ) → has_end (of_stream 0 (inputs 0 (uploaded_often k))) ≡ false
often_open zero = refl
often_open (suc k) = open_push (inputs 0 (uploaded_often k)) (often_open k)

often_live : (t : Settings) (k : ℕ) → live_job t 0 (uploaded_often k) ≡ true
often_live t k = ap (λ cs. nat_lt 0 (length cs) && not (over t 0 (uploaded_often k))) (often_begun k) ∙ ap not (often_going t k)

often_stream : (t : Settings) (k : ℕ) → StreamAt t (one_item_more k) (3 ∷ []) 0 0
often_stream t k = record { call = fed; at = ap (λ cs. slice_get cs 0) (often_begun k); stream = refl; live = often_live t k; unended = often_open k }

not_own : (k : ℕ) → IsStrange (settings Server (pair Json 1 false)) (one_item_more k) (3 ∷ []) (Item (int 1))
not_own k n e = absurd (cc)

-- beside the call each item weighs as much as a number
often_unanswered : (k : ℕ) → reply 0 (uploaded_often k) ≡ None
often_unanswered zero = refl
often_unanswered (suc k) = often_unanswered k

items_weigh : (k : ℕ) → inputs_weight (map upload_input (inputs 0 (uploaded_often k))) ≡ 48 * k
items_weigh zero = refl
items_weigh (suc k) =
    ap inputs_weight (map-append upload_input (inputs 0 (uploaded_often k)) ((0, Item (int 1)) ∷ []))
    ∙ (inputs_push (map upload_input (inputs 0 (uploaded_often k))) (upload_input (0, Item (int 1)))
    ∙ (let e = items_weigh k in let i : input_weight (upload_input (0, Item (int 1))) ≡ 48 = refl in omega arith))

often_weighs : (t : Settings) (k : ℕ) → weight_at t 0 (uploaded_often k) ≡ 195 + 48 * k
often_weighs t k =
    let h = uploaded_often k in
    ap (λ b. if b then job_weight (slice_get (begun h) 0) (inputs_waiting 0 h) (reply 0 h) else 0) (often_live t k)
    ∙ (ap (λ cs. job_weight (slice_get cs 0) (inputs_waiting 0 h) (reply 0 h)) (often_begun k)
    ∙ (ap (λ ts. job_weight (Some fed) (drop (used ts) (map upload_input (inputs 0 h))) (reply 0 h)) (often_unturned k)
    ∙ (ap (λ r. job_weight (Some fed) (map upload_input (inputs 0 h)) r) (often_unanswered k)
    ∙ (let e = items_weigh k in let c : call_weight fed ≡ 195 = refl in omega arith))))

pub often_keeps : (t : Settings) (k : ℕ) → kept_weight t (uploaded_often k) ≡ 195 + 48 * k
often_keeps t k = ap (λ cs. sum_below (length cs) (λ j. weight_at t j (uploaded_often k))) (often_begun k) ∙ (let e = often_weighs t k in omega arith)

pub fills_inputs : (k : ℕ) → FillsInputs k
fills_inputs k = record {
  left = often_left k;
  feeds = λ l. (
    refl,
    (
      refl,
      not_own k,
      often_stream (settings Server (pair Json 1 false)) k,
      record {
        few = let e = often_left k in omega arith;
        light = let w = often_keeps (settings Server (pair Json 1 false)) k in let m : 4096 * 48 + 195 ≤ 16777216 = at_most refl in omega arith;
      },
    ),
    tt,
  );
  floods = λ l. (refl, (not_own k, (0, 0, often_stream (settings Server (pair Json 1 false)) k, inl (let e = often_left k in omega arith))), tt);
  feeds_none = λ l m. let e = often_left k in let f = m.1.3.few in omega arith;
}
