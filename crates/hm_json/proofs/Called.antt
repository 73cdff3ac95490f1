-- A call that is read member by member.
use Rattle.std.proofs.Common.{◌≡◌, ℕ, List, [], ◌∷◌, ◌++◌, Option, Some, None, refl, sym, ap, subst, ◌∙◌}
use Rattle.std.specs.Prelude.{codes, option_map, if◌then◌else◌}
use Rattle.std.specs.Option.{option_or}
use Rattle.hv_value.specs.Tree.{Tree, Pair, is_key, last_of}
use Rattle.hv_value.specs.View.{tree}
use Rattle.hv_value.specs.declared.value.Value.{Value}
use Rattle.hm_message.specs.Name.{field_name}
use Rattle.hm_message.specs.declared.message.Field.TheVariants as field
use Rattle.hm_json.specs.Calls.{AreOf}
use Rattle.hm_json.specs.declared.calls.Properties.{Properties}

-- ---- the last pair of a key, as one more comes

abbrev if_key : List ℕ → Pair → Option Tree
if_key key p = if is_key key p.0 then Some p.1 else None

or_none : (o : Option Tree) → option_or None o ≡ option_or o None
or_none None = refl
or_none (Some t) = refl

or_assoc : (a b c : Option Tree) → option_or (option_or a b) c ≡ option_or a (option_or b c)
or_assoc None b c = refl
or_assoc (Some t) b c = refl

pushed : (key : List ℕ) (ps : List Pair) (p : Pair) → last_of key (ps ++ p ∷ []) ≡ option_or (if_key key p) (last_of key ps)
pushed key [] p = or_none (if_key key p)
pushed key (x ∷ ps) p = ap (λ (o : Option Tree). option_or o (if_key key x)) (pushed key ps p) ∙ or_assoc (if_key key p) (last_of key ps) (if_key key x)

pub took_kind : (p q : Properties) (before : List Pair) (name : List ℕ) (v : Value) → name ≡ codes "type" → q.kind ≡ Some v → q.id ≡ p.id → q.target ≡ p.target → q.arguments ≡ p.arguments
    → AreOf p before → AreOf q (before ++ (name, tree v) ∷ [])
took_kind p q before name v is kind id target arguments are =
    subst (λ (n : List ℕ). AreOf q (before ++ (n, tree v) ∷ [])) (sym is) (
    record {
      kind = pushed (field_name field.Kind) before (codes "type", tree v) ∙ ap (option_map tree) (sym kind);
      id = pushed (field_name field.InvocationId) before (codes "type", tree v) ∙ are.id ∙ ap (option_map tree) (sym id);
      target = pushed (field_name field.Target) before (codes "type", tree v) ∙ are.target ∙ ap (option_map tree) (sym target);
      arguments = pushed (field_name field.Arguments) before (codes "type", tree v) ∙ are.arguments ∙ ap (option_map tree) (sym arguments);
      headers = pushed (field_name field.Headers) before (codes "type", tree v) ∙ are.headers;
      streams = pushed (field_name field.StreamIds) before (codes "type", tree v) ∙ are.streams;
    }
    )

pub took_id : (p q : Properties) (before : List Pair) (name : List ℕ) (v : Value) → name ≡ codes "invocationId" → q.kind ≡ p.kind → q.id ≡ Some v → q.target ≡ p.target → q.arguments ≡ p.arguments
    → AreOf p before → AreOf q (before ++ (name, tree v) ∷ [])
took_id p q before name v is kind id target arguments are =
    subst (λ (n : List ℕ). AreOf q (before ++ (n, tree v) ∷ [])) (sym is) (
    record {
      kind = pushed (field_name field.Kind) before (codes "invocationId", tree v) ∙ are.kind ∙ ap (option_map tree) (sym kind);
      id = pushed (field_name field.InvocationId) before (codes "invocationId", tree v) ∙ ap (option_map tree) (sym id);
      target = pushed (field_name field.Target) before (codes "invocationId", tree v) ∙ are.target ∙ ap (option_map tree) (sym target);
      arguments = pushed (field_name field.Arguments) before (codes "invocationId", tree v) ∙ are.arguments ∙ ap (option_map tree) (sym arguments);
      headers = pushed (field_name field.Headers) before (codes "invocationId", tree v) ∙ are.headers;
      streams = pushed (field_name field.StreamIds) before (codes "invocationId", tree v) ∙ are.streams;
    }
    )

pub took_target : (p q : Properties) (before : List Pair) (name : List ℕ) (v : Value) → name ≡ codes "target" → q.kind ≡ p.kind → q.id ≡ p.id → q.target ≡ Some v → q.arguments ≡ p.arguments
    → AreOf p before → AreOf q (before ++ (name, tree v) ∷ [])
took_target p q before name v is kind id target arguments are =
    subst (λ (n : List ℕ). AreOf q (before ++ (n, tree v) ∷ [])) (sym is) (
    record {
      kind = pushed (field_name field.Kind) before (codes "target", tree v) ∙ are.kind ∙ ap (option_map tree) (sym kind);
      id = pushed (field_name field.InvocationId) before (codes "target", tree v) ∙ are.id ∙ ap (option_map tree) (sym id);
      target = pushed (field_name field.Target) before (codes "target", tree v) ∙ ap (option_map tree) (sym target);
      arguments = pushed (field_name field.Arguments) before (codes "target", tree v) ∙ are.arguments ∙ ap (option_map tree) (sym arguments);
      headers = pushed (field_name field.Headers) before (codes "target", tree v) ∙ are.headers;
      streams = pushed (field_name field.StreamIds) before (codes "target", tree v) ∙ are.streams;
    }
    )

pub took_arguments : (p q : Properties) (before : List Pair) (name : List ℕ) (v : Value) → name ≡ codes "arguments" → q.kind ≡ p.kind → q.id ≡ p.id → q.target ≡ p.target → q.arguments ≡ Some v
    → AreOf p before → AreOf q (before ++ (name, tree v) ∷ [])
took_arguments p q before name v is kind id target arguments are =
    subst (λ (n : List ℕ). AreOf q (before ++ (n, tree v) ∷ [])) (sym is) (
    record {
      kind = pushed (field_name field.Kind) before (codes "arguments", tree v) ∙ are.kind ∙ ap (option_map tree) (sym kind);
      id = pushed (field_name field.InvocationId) before (codes "arguments", tree v) ∙ are.id ∙ ap (option_map tree) (sym id);
      target = pushed (field_name field.Target) before (codes "arguments", tree v) ∙ are.target ∙ ap (option_map tree) (sym target);
      arguments = pushed (field_name field.Arguments) before (codes "arguments", tree v) ∙ ap (option_map tree) (sym arguments);
      headers = pushed (field_name field.Headers) before (codes "arguments", tree v) ∙ are.headers;
      streams = pushed (field_name field.StreamIds) before (codes "arguments", tree v) ∙ are.streams;
    }
    )
