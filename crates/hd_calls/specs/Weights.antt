-- The weights of values, calls and inputs, by which what the jobs of a peer keep is bounded: numbers of bytes that are the same on each machine. This project's
-- own rules.
use Rattle.std.specs.Prelude.{ℕ, ◌+◌, List, [], ◌∷◌, length, Option, Some, None, if◌then◌else◌}
use Rattle.hv_value.specs.Tree.{Tree, null, boolean, int, text, bytes, list, map, Trees, no_trees, more, Pairs, no_pairs, pair, trees}
use Rattle.hv_value.specs.View.{tree}
use Rattle.hm_message.specs.declared.message.Ending.{Ending}
use Rattle.hm_message.specs.declared.message.Ending.TheVariants.{Void, Result, Error}
use Rattle.hm_message.specs.Same.{same_text}
use Rattle.hd_calls.specs.declared.vocabulary.Input.{Input}
use Rattle.hd_calls.specs.declared.vocabulary.Input.TheVariants as input
use Rattle.hd_calls.specs.Numbers.{base_weight}
use Rattle.hd_calls.specs.Hubs.{Invoked, id_of}
use Rattle.hd_calls.specs.Peers.{refusal_text}

-- ---- values

abbrev mutual
  -- the base, with the bytes of a text or of bytes, the weights of a list's elements, and the keys' bytes and the weights of a map's values
  pub value_weight : Tree → ℕ
  value_weight null = base_weight
  value_weight (boolean b) = base_weight
  value_weight (int z) = base_weight
  value_weight (text s) = base_weight + length s
  value_weight (bytes s) = base_weight + length s
  value_weight (list ts) = base_weight + values_weight ts
  value_weight (map ps) = base_weight + pairs_weight ps

  pub values_weight : Trees → ℕ
  values_weight no_trees = 0
  values_weight (more t ts) = value_weight t + values_weight ts

  pub pairs_weight : Pairs → ℕ
  pairs_weight no_pairs = 0
  pairs_weight (pair k t ps) = length k + (value_weight t + pairs_weight ps)

-- ---- calls

-- a target, or an id, as a part of a call
abbrev pub text_weight : List ℕ → ℕ
text_weight s = base_weight + length s

-- an id, where there is one
abbrev pub id_weight : Option (List ℕ) → ℕ
id_weight None = 0
id_weight (Some i) = text_weight i

abbrev pub ids_weight : List (List ℕ) → ℕ
ids_weight [] = 0
ids_weight (i ∷ is) = text_weight i + ids_weight is

-- the list of a call's arguments
abbrev pub arguments_weight : List Tree → ℕ
arguments_weight ts = base_weight + values_weight (trees ts)

-- a call: its id, its target, its stream ids and its arguments
abbrev pub call_weight : Invoked → ℕ
call_weight c = id_weight (id_of c.way) + (text_weight c.target + (ids_weight c.streams + arguments_weight c.arguments))

-- ---- inputs

-- an error's bytes, where there is one
abbrev pub error_weight : Option (List ℕ) → ℕ
error_weight None = 0
error_weight (Some s) = length s

-- how an ask was answered. The error of an ask that was refused is one text of this project's, which weighs nothing, whoever sends it
abbrev pub ending_weight : Ending → ℕ
ending_weight Void = base_weight
ending_weight (Result v) = base_weight + value_weight (tree v)
ending_weight (Error s) = if same_text s refusal_text then 0 else base_weight + length s

-- what a job is given. A deed's answer doesn't come from the other side, and weighs nothing
abbrev pub input_weight : Input → ℕ
input_weight (input.Item which v) = value_weight (tree v)
input_weight (input.StreamEnd which e) = base_weight + error_weight e
input_weight (input.Asked e) = ending_weight e
input_weight _ = 0

abbrev pub inputs_weight : List Input → ℕ
inputs_weight [] = 0
inputs_weight (i ∷ is) = input_weight i + inputs_weight is

-- an answer to the job's ask or deed, where there is one
abbrev pub reply_weight : Option Input → ℕ
reply_weight None = 0
reply_weight (Some i) = input_weight i

-- ---- jobs

-- what is kept of a job: its call, the inputs that wait at it, and what has answered its ask
abbrev pub job_weight : Option Invoked → List Input → Option Input → ℕ
job_weight None inputs reply = 0
job_weight (Some c) inputs reply = call_weight c + (inputs_weight inputs + reply_weight reply)
