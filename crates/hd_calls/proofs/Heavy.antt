-- Cases of what is too heavy for what jobs may keep.
use Rattle.std.proofs.Common.{inr, ⊎_elim, ◌≡◌, ℕ, Bool, true, false, List, [], ◌∷◌, length, None, refl, sym, ap, arith}
use Rattle.std.specs.Prelude.{◌+◌, replicate}
use Rattle.std.proofs.lemmas.Bool.{ltb-true, ltb-false}
use Rattle.std.proofs.lemmas.List.{length-replicate}
use Rattle.hm_message.specs.declared.message.Codec.TheVariants.{Json}
use Rattle.hm_message.specs.declared.message.Ending.TheVariants.{Result}
use Rattle.hd_delivery.specs.declared.vocabulary.Side.TheVariants.{Server}
use Rattle.hd_calls.specs.Numbers.{most_weight}
use Rattle.hd_calls.specs.Weights.{input_weight}
use Rattle.hd_calls.specs.Hubs.{End, answer_message, message_of, upload_input}
use Rattle.hd_calls.specs.Peers.{Begins, Brings, PeerEvent, Reads, Handles, Settings, shuts}
use Rattle.hd_calls.specs.Rules.{kept_weight, IsStrange, StreamAt}
use Rattle.hd_calls.specs.PeerWorlds.{settings}
use Rattle.hd_calls.specs.Examples.{pair, fed, uploaded_often, long_notice, FillsByCall, int, long_asks, FillsByEnding, long_item, FillsByInput}
use Rattle.hd_calls.proofs.Examples.{at_most}
use Rattle.hd_calls.proofs.Weighed.{not_heavy, heavy}

-- ---- the close

pub none_closes : (shut : Bool) → shuts shut None ≡ None
none_closes true = refl
none_closes false = refl

-- ---- a call

abbrev after_call : ℕ → ℕ → Bool → List PeerEvent
after_call k now floods = Handles (message_of (long_notice k)) (Begins (long_notice k) now floods) ∷ Reads (message_of (long_notice k)) ∷ []

call_weighs : (t : Settings) (k now : ℕ) (floods : Bool) → kept_weight t (after_call k now floods) ≡ 96 + k
call_weighs t k now floods =
    let e : length {A = ℕ} (replicate k 0) ≡ k = length-replicate k 0 in
    let whole : kept_weight t (after_call k now floods) ≡ ((0 + ((48 + length {A = ℕ} (replicate k 0)) + (0 + (48 + 0)))) + (0 + 0)) + 0 = refl in
    omega arith

pub fills_by_call : (t : Settings) (k now : ℕ) → FillsByCall t k now
fills_by_call t k now = record {
  light = λ l. (refl, (refl, refl, at_most refl), sym (not_heavy t (after_call k now false) (let e = call_weighs t k now false in omega arith)));
  light_alone = λ m. let e = call_weighs t k now false in let l = ltb-false most_weight (kept_weight t (after_call k now false)) (sym m.2) in omega arith;
  heavy = λ l. (refl, (refl, refl, at_most refl), sym (heavy t (after_call k now true) (let e = call_weighs t k now true in omega arith)));
  heavy_alone = λ m. let e = call_weighs t k now true in let l = ltb-true most_weight (kept_weight t (after_call k now true)) (sym m.2) in omega arith;
}

-- ---- an ending

abbrev after_ending : ℕ → Bool → List PeerEvent
after_ending k floods = Handles (answer_message (115 ∷ 1 ∷ []) (End (Result (int 7)))) (Brings 1 (End (Result (int 7))) floods) ∷ long_asks k

ending_weighs : (k : ℕ) (floods : Bool) → kept_weight (settings Server (pair Json 1 false)) (after_ending k floods) ≡ 192 + k
ending_weighs k floods =
    let e : length {A = ℕ} (replicate k 0) ≡ k = length-replicate k 0 in
    let whole : kept_weight (settings Server (pair Json 1 false)) (after_ending k floods) ≡ ((0 + ((48 + length {A = ℕ} (replicate k 0)) + (0 + (48 + 0)))) + (0 + (48 + 48))) + 0 = refl in
    omega arith

pub fills_by_ending : (k : ℕ) → FillsByEnding k
fills_by_ending k = record {
  light = λ l. (refl, (refl, refl, refl), sym (not_heavy (settings Server (pair Json 1 false)) (after_ending k false) (let e = ending_weighs k false in omega arith)));
  light_alone = λ m. let e = ending_weighs k false in let l = ltb-false most_weight (kept_weight (settings Server (pair Json 1 false)) (after_ending k false)) (sym m.2) in omega arith;
  heavy = λ l. (refl, (refl, refl, refl), sym (heavy (settings Server (pair Json 1 false)) (after_ending k true) (let e = ending_weighs k true in omega arith)));
  heavy_alone = λ m. let e = ending_weighs k true in let l = ltb-true most_weight (kept_weight (settings Server (pair Json 1 false)) (after_ending k true)) (sym m.2) in omega arith;
}

-- ---- an input

fed_weighs : kept_weight (settings Server (pair Json 1 false)) (uploaded_often 0) ≡ 195
fed_weighs = refl

item_weighs : (k w : ℕ) → input_weight (upload_input (w, long_item k)) ≡ 48 + k
item_weighs k w = ap (λ n. 48 + n) (length-replicate k 0)

not_own : (k : ℕ) → IsStrange (settings Server (pair Json 1 false)) (uploaded_often 0) (3 ∷ []) (long_item k)
not_own k n e = absurd (cc)

its_stream : (k : ℕ) → StreamAt (settings Server (pair Json 1 false)) (Reads (answer_message (3 ∷ []) (long_item k)) ∷ uploaded_often 0) (3 ∷ []) 0 0
its_stream k = record { call = fed; at = refl; stream = refl; live = refl; unended = refl }

pub fills_by_input : (k : ℕ) → FillsByInput k
fills_by_input k = record {
  light = λ l. (refl, (refl, not_own k, its_stream k, record { few = at_most refl; light = let e = fed_weighs in let i = item_weighs k 0 in omega arith }), tt);
  light_alone = λ m. let e = fed_weighs in let i = item_weighs k 0 in let l = m.1.3.light in omega arith;
  heavy = λ l. (refl, (not_own k, (0, 0, its_stream k, inr (let e = fed_weighs in let i = item_weighs k 0 in omega arith))), tt);
  heavy_alone = λ m. let e = fed_weighs in let i = item_weighs k m.1.1.1 in ⊎_elim (λ l. absurd (omega (arith, l))) (λ l. omega (arith, e, i, l)) m.1.1.3;
}
