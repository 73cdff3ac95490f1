-- The worked worlds are worlds.
use Rattle.std.proofs.Common.{inl, inr, ⊎_elim, ◌≡◌, ℕ, ◌<◌, ◌≤◌, Bool, true, false, List, [], ◌∷◌, refl, arith}
use Rattle.std.specs.Prelude.{◌==◌, ◌||◌, ◌&&◌, nat_le, nat_lt}
use Rattle.std.proofs.lemmas.Bool.{eqb-true, or_cases, and_parts, leb-true, ltb-true}
use Rattle.hm_message.specs.declared.message.Codec.TheVariants.{Json, Pack}
use Rattle.hd_calls.specs.Examples.{pair, fed, streamed, three_calls, lost_link, closed_with_calls, IsWorked}

-- a comparison that the checker computes
pub at_most : {m n : ℕ} → nat_le m n ≡ true → m ≤ n
at_most {m} {n} e = leb-true m n e

-- a name among these, each of which is below another, is below it
abbrev pub among : ℕ → List ℕ → Bool
among k [] = false
among k (n ∷ ns) = (k == n) || among k ns

abbrev pub all_below : ℕ → List ℕ → Bool
all_below l [] = true
all_below l (n ∷ ns) = nat_lt n l && all_below l ns

below : (l : ℕ) (ns : List ℕ) → all_below l ns ≡ true → (k : ℕ) → among k ns ≡ true → k < l
below l [] e k f = absurd (cc)
below l (n ∷ ns) e k f =
    let p = and_parts (nat_lt n l) (all_below l ns) e in
    ⊎_elim (λ g. let h = eqb-true k n g in let i = ltb-true n l p.0 in omega arith) (λ g. below l ns p.1 k g) (or_cases (k == n) (among k ns) f)

pub lost_link_is_world : IsWorked (pair Pack 2 true) lost_link
lost_link_is_world = record {
  is_world = ((((((((((((((((((((((((((((((refl, record { own = record { unclosed = refl; granted = inl refl; unused = refl; in_time = omega arith }; named = λ k e. absurd (cc) }), refl), record { own = record { unclosed = refl; granted = inl refl; unused = refl; in_time = omega arith }; named = refl }), record { link = 0; at = refl; unclosed = refl; front = ([], refl); few = at_most refl }), refl), refl), record { link = 0; at = refl; unclosed = refl; front = ([], refl); few = at_most refl }), refl), record { unclosed = refl; shakes = refl; few = at_most refl; can_be = record { sequenced = refl; fits = at_most refl; as_read = tt; short = at_most refl }; room = record { of_count = at_most refl; of_bytes = at_most refl } }), refl), (0, refl, omega arith)), record { own = record { unclosed = refl; granted = inr refl; unused = refl; in_time = omega arith }; named = below 1 (0 ∷ []) refl }), refl), refl), (0, refl, omega arith)), record { own = record { unclosed = refl; granted = inr refl; unused = refl; in_time = omega arith }; named = refl }), refl), record { link = 1; at = refl; unclosed = refl; front = ([], refl); few = at_most refl }), refl), refl), record { unclosed = refl; shakes = refl; few = at_most refl; can_be = record { sequenced = refl; fits = at_most refl; as_read = tt; short = at_most refl }; room = record { of_count = at_most refl; of_bytes = at_most refl } }), refl), refl), record { link = 1; at = refl; unclosed = refl; front = ([], refl); few = at_most refl }), refl), refl), refl), refl), record { link = 1; at = refl; unclosed = refl; front = ([], refl); few = at_most refl }), refl);
  client_follows = ((((((((((((((((tt, tt), tt), tt), refl), record { made = (refl, (refl, refl)); few_uploads = at_most refl; place = record { few_live = at_most refl; few_numbers = at_most refl }; asked = tt }), tt), tt), tt), tt), tt), tt), refl), refl), refl), (refl, (refl, refl, refl), refl)), tt);
  server_follows = ((((((((((((((((tt, tt), tt), refl), tt), tt), tt), tt), tt), refl), refl), (refl, (refl, refl, at_most refl), refl)), record { at = refl; began = refl; may = record { unclosed = refl; room = record { of_count = at_most refl; of_bytes = at_most refl }; few = at_most refl }; next = refl; due = (refl, refl, refl); is = refl }), tt), tt), tt), refl);
  client_prompt = ((((((((((((((((tt, inl refl), inl refl), inl refl), inl refl), inl refl), inl refl), inl refl), inl refl), inl refl), inl refl), inl refl), inl refl), inl refl), inl refl), inl refl), inl refl);
  server_prompt = ((((((((((((((((tt, inl refl), inl refl), inl refl), inl refl), inl refl), inl refl), inl refl), inl refl), inl refl), inl refl), inl refl), inl refl), inl refl), inl refl), inl refl), inl refl);
}

pub closed_with_calls_is_world : IsWorked (pair Json 1 false) closed_with_calls
closed_with_calls_is_world = record {
  is_world = (((((((((((((((((((refl, record { own = record { unclosed = refl; granted = inl refl; unused = refl; in_time = omega arith }; named = λ k e. absurd (cc) }), refl), record { own = record { unclosed = refl; granted = inl refl; unused = refl; in_time = omega arith }; named = refl }), record { link = 0; at = refl; unclosed = refl; front = ([], refl); few = at_most refl }), refl), refl), record { link = 0; at = refl; unclosed = refl; front = ([], refl); few = at_most refl }), refl), record { unclosed = refl; shakes = refl; few = at_most refl; can_be = record { sequenced = refl; fits = at_most refl; as_read = refl; short = at_most refl }; room = record { of_count = at_most refl; of_bytes = at_most refl } }), record { unclosed = refl; shakes = refl; few = at_most refl; can_be = record { sequenced = refl; fits = at_most refl; as_read = refl; short = at_most refl }; room = record { of_count = at_most refl; of_bytes = at_most refl } }), refl), refl), record { link = 0; at = refl; unclosed = refl; front = ([], refl); few = at_most refl }), refl), record { unclosed = refl; shakes = refl; few = at_most refl; can_be = record { sequenced = refl; fits = at_most refl; as_read = refl; short = at_most refl }; room = record { of_count = at_most refl; of_bytes = at_most refl } }), refl), record { link = 0; at = refl; unclosed = refl; front = ([], refl); few = at_most refl }), refl), refl);
  client_follows = (((((((((((((tt, tt), tt), tt), refl), record { made = (refl, (refl, refl)); few_uploads = at_most refl; place = record { few_live = at_most refl; few_numbers = at_most refl }; asked = tt }), record { made = (refl, (refl, refl)); few_uploads = at_most refl; place = record { few_live = at_most refl; few_numbers = at_most refl }; asked = tt }), tt), tt), tt), refl), tt), (refl, (refl, refl, refl), refl)), (refl, refl, refl));
  server_follows = (((((((((tt, tt), tt), refl), tt), tt), refl), (refl, (refl, refl, at_most refl), refl)), record { at = refl; began = refl; may = record { unclosed = refl; room = record { of_count = at_most refl; of_bytes = at_most refl }; few = at_most refl }; next = refl; due = (refl, refl, refl); is = refl }), tt);
  client_prompt = (((((((((((((tt, inl refl), inl refl), inl refl), inl refl), inl refl), inl refl), inl refl), inl refl), inl refl), inl refl), inl refl), inl refl), inl refl);
  server_prompt = (((((((((tt, inl refl), inl refl), inl refl), inl refl), inl refl), inl refl), inl refl), inl refl), inl refl);
}

pub three_calls_is_world : IsWorked (pair Json 1 false) (three_calls Json)
three_calls_is_world = record {
  is_world = ((((((((((((((((((((((((((((((((((((((((((((((((refl, record { own = record { unclosed = refl; granted = inl refl; unused = refl; in_time = omega arith }; named = λ k e. absurd (cc) }), refl), record { own = record { unclosed = refl; granted = inl refl; unused = refl; in_time = omega arith }; named = refl }), record { link = 0; at = refl; unclosed = refl; front = ([], refl); few = at_most refl }), refl), refl), record { link = 0; at = refl; unclosed = refl; front = ([], refl); few = at_most refl }), refl), record { unclosed = refl; shakes = refl; few = at_most refl; can_be = record { sequenced = refl; fits = at_most refl; as_read = refl; short = at_most refl }; room = record { of_count = at_most refl; of_bytes = at_most refl } }), record { unclosed = refl; shakes = refl; few = at_most refl; can_be = record { sequenced = refl; fits = at_most refl; as_read = refl; short = at_most refl }; room = record { of_count = at_most refl; of_bytes = at_most refl } }), record { unclosed = refl; shakes = refl; few = at_most refl; can_be = record { sequenced = refl; fits = at_most refl; as_read = refl; short = at_most refl }; room = record { of_count = at_most refl; of_bytes = at_most refl } }), record { unclosed = refl; shakes = refl; few = at_most refl; can_be = record { sequenced = refl; fits = at_most refl; as_read = refl; short = at_most refl }; room = record { of_count = at_most refl; of_bytes = at_most refl } }), record { unclosed = refl; shakes = refl; few = at_most refl; can_be = record { sequenced = refl; fits = at_most refl; as_read = refl; short = at_most refl }; room = record { of_count = at_most refl; of_bytes = at_most refl } }), refl), refl), refl), refl), refl), record { link = 0; at = refl; unclosed = refl; front = ([], refl); few = at_most refl }), refl), refl), refl), refl), refl), record { unclosed = refl; shakes = refl; few = at_most refl; can_be = record { sequenced = refl; fits = at_most refl; as_read = refl; short = at_most refl }; room = record { of_count = at_most refl; of_bytes = at_most refl } }), record { unclosed = refl; shakes = refl; few = at_most refl; can_be = record { sequenced = refl; fits = at_most refl; as_read = refl; short = at_most refl }; room = record { of_count = at_most refl; of_bytes = at_most refl } }), record { unclosed = refl; shakes = refl; few = at_most refl; can_be = record { sequenced = refl; fits = at_most refl; as_read = refl; short = at_most refl }; room = record { of_count = at_most refl; of_bytes = at_most refl } }), refl), refl), refl), record { link = 0; at = refl; unclosed = refl; front = ([], refl); few = at_most refl }), refl), refl), refl), record { unclosed = refl; shakes = refl; few = at_most refl; can_be = record { sequenced = refl; fits = at_most refl; as_read = refl; short = at_most refl }; room = record { of_count = at_most refl; of_bytes = at_most refl } }), record { unclosed = refl; shakes = refl; few = at_most refl; can_be = record { sequenced = refl; fits = at_most refl; as_read = refl; short = at_most refl }; room = record { of_count = at_most refl; of_bytes = at_most refl } }), refl), refl), record { link = 0; at = refl; unclosed = refl; front = ([], refl); few = at_most refl }), refl), refl), record { unclosed = refl; shakes = refl; few = at_most refl; can_be = record { sequenced = refl; fits = at_most refl; as_read = refl; short = at_most refl }; room = record { of_count = at_most refl; of_bytes = at_most refl } }), record { unclosed = refl; shakes = refl; few = at_most refl; can_be = record { sequenced = refl; fits = at_most refl; as_read = refl; short = at_most refl }; room = record { of_count = at_most refl; of_bytes = at_most refl } }), refl), refl), record { link = 0; at = refl; unclosed = refl; front = ([], refl); few = at_most refl }), refl), refl);
  client_follows = ((((((((((((((((((((((((((((((tt, tt), tt), tt), refl), record { made = (refl, (refl, refl)); few_uploads = at_most refl; place = record { few_live = at_most refl; few_numbers = at_most refl }; asked = tt }), record { made = (refl, (refl, refl)); few_uploads = at_most refl; place = record { few_live = at_most refl; few_numbers = at_most refl }; asked = tt }), record { made = (refl, (refl, refl)); few_uploads = at_most refl; place = record { few_live = at_most refl; few_numbers = at_most refl }; asked = tt }), (refl, refl)), (refl, refl)), tt), tt), tt), tt), tt), tt), refl), (refl, (refl, refl, refl), refl)), refl), (refl, (refl, refl, at_most refl), refl)), refl), (refl, (refl, refl, refl), refl)), record { at = refl; began = refl; may = record { unclosed = refl; room = record { of_count = at_most refl; of_bytes = at_most refl }; few = at_most refl }; next = refl; due = (refl, refl, refl); is = refl }), refl), tt), tt), tt), refl), (refl, (refl, refl, refl), refl)), refl), (refl, (refl, refl, refl), refl));
  server_follows = (((((((((((((((((((((((((((((((((((((tt, tt), tt), refl), tt), tt), refl), (refl, (refl, refl, at_most refl), refl)), refl), (refl, (refl, refl, at_most refl), refl)), refl), (refl, (refl, refl, at_most refl), refl)), refl), (refl, (refl, λ n e. absurd (cc), record { call = fed; at = refl; stream = refl; live = refl; unended = refl }, record { few = at_most refl; light = at_most refl }), tt)), refl), (refl, (refl, λ n e. absurd (cc), record { call = fed; at = refl; stream = refl; live = refl; unended = refl }, record { few = at_most refl; light = at_most refl }), tt)), record { at = refl; began = refl; may = record { unclosed = refl; room = record { of_count = at_most refl; of_bytes = at_most refl }; few = at_most refl }; next = refl; due = (refl, refl, refl); is = refl }), record { at = refl; began = refl; may = record { unclosed = refl; room = record { of_count = at_most refl; of_bytes = at_most refl }; few = at_most refl }; next = refl; due = (refl, refl, refl); is = refl }), record { at = refl; began = refl; may = record { unclosed = refl; room = record { of_count = at_most refl; of_bytes = at_most refl }; few = at_most refl }; next = refl; due = (refl, refl, refl); is = refl }), record { made = (refl, (refl, refl)); few_uploads = at_most refl; place = record { few_live = at_most refl; few_numbers = at_most refl }; asked = record { target = 0 ∷ []; arguments = []; live = refl; last = refl; unmade = refl; unanswered = refl; is = refl } }), tt), record { at = refl; began = refl; may = record { unclosed = refl; room = record { of_count = at_most refl; of_bytes = at_most refl }; few = at_most refl }; next = refl; due = (refl, refl, refl); is = refl }), record { at = refl; began = refl; may = record { unclosed = refl; room = record { of_count = at_most refl; of_bytes = at_most refl }; few = at_most refl }; next = refl; due = (refl, refl, refl); is = refl }), tt), record { at = refl; began = refl; may = record { unclosed = refl; room = record { of_count = at_most refl; of_bytes = at_most refl }; few = at_most refl }; next = refl; due = (refl, refl, refl); is = refl }), tt), tt), tt), tt), refl), (refl, (refl, refl, refl), refl)), refl), (refl, record { call = streamed; at = refl; id = refl; live = refl; unmarked = refl }, tt)), tt), record { at = refl; began = refl; may = record { unclosed = refl; room = record { of_count = at_most refl; of_bytes = at_most refl }; few = at_most refl }; next = refl; due = (refl, refl); is = refl }), record { at = refl; began = refl; may = record { unclosed = refl; room = record { of_count = at_most refl; of_bytes = at_most refl }; few = at_most refl }; next = refl; due = (refl, refl, refl); is = refl }), tt), tt);
  client_prompt = ((((((((((((((((((((((((((((((tt, inl refl), inl refl), inl refl), inl refl), inl refl), inl refl), inl refl), inl refl), inl refl), inl refl), inl refl), inl refl), inl refl), inl refl), inl refl), inl refl), inl refl), inl refl), inl refl), inl refl), inl refl), inl refl), inl refl), inl refl), inl refl), inl refl), inl refl), inl refl), inl refl), inl refl);
  server_prompt = (((((((((((((((((((((((((((((((((((((tt, inl refl), inl refl), inl refl), inl refl), inl refl), inl refl), inl refl), inl refl), inl refl), inl refl), inl refl), inl refl), inl refl), inl refl), inl refl), inl refl), inl refl), inl refl), inr refl), inl refl), inl refl), inl refl), inl refl), inl refl), inl refl), inl refl), inl refl), inl refl), inl refl), inl refl), inl refl), inl refl), inl refl), inl refl), inl refl), inl refl), inl refl);
}
