-- What the doings of one end make of a run.
use Rattle.std.proofs.Common.{◌≡◌, List, [], ◌∷◌, ◌++◌, map, ℕ, refl, sym, ap, ◌∙◌, append_assoc, append-nil}
use Rattle.hd_delivery.specs.declared.vocabulary.Side.{Side}
use Rattle.hd_delivery.specs.declared.vocabulary.Side.TheVariants.{Client, Server}
use Rattle.hd_delivery.specs.Histories as of
use Rattle.hd_delivery.specs.Worlds.{Terms, config}
use Rattle.hd_delivery.specs.Bytes.{Wire, ByteStep}
use Rattle.sr_replay.specs.declared.text_kind.TextKind.{TextKind}
use Rattle.sr_replay.specs.Runs.{Doing, Makes, Refuses, Run, steps_of, world_of, made_by}
use Rattle.hd_delivery.specs.Sides.{by, history, other}
use Rattle.sr_replay.specs.Told.{told_text, doings_text, steps_text, told_run}

pub own : (side : Side) (ds : List Doing) (r : Run) → history side (world_of (map (by side) ds ++ r)) ≡ steps_of ds ++ history side (world_of r)
own side [] r = refl
own Client (Makes s ∷ ds) r = ap (λ h. s ∷ h) (own Client ds r)
own Client (Refuses words ∷ ds) r = own Client ds r
own Server (Makes s ∷ ds) r = ap (λ h. s ∷ h) (own Server ds r)
own Server (Refuses words ∷ ds) r = own Server ds r

pub others : (side : Side) (ds : List Doing) (r : Run) → history (other side) (world_of (map (by side) ds ++ r)) ≡ history (other side) (world_of r)
others side [] r = refl
others Client (Makes s ∷ ds) r = others Client ds r
others Client (Refuses words ∷ ds) r = others Client ds r
others Server (Makes s ∷ ds) r = others Server ds r
others Server (Refuses words ∷ ds) r = others Server ds r

module _ (kind : TextKind) (wire : Wire) where
  -- a line more
  one_more : (side : Side) (c : of.Config) (d : Doing) (ds : List Doing) (r : Run) (before text : List ℕ)
      → text ≡ before ++ doings_text kind wire c (history side (world_of r)) ds
      → text ++ told_text kind wire c (history side (world_of (map (by side) ds ++ r))) d
      ≡ before ++ (doings_text kind wire c (history side (world_of r)) ds ++ told_text kind wire c (steps_of ds ++ history side (world_of r)) d)
  one_more side c d ds r before text e =
      let h = history side (world_of r) in
      let line = told_text kind wire c (steps_of ds ++ h) d in
      ap (λ k. text ++ told_text kind wire c k d) (own side ds r)
      ∙ ap (λ x. x ++ line) e
      ∙ append_assoc before (doings_text kind wire c h ds) line

  pub text : (t : Terms) (side : Side) (ds : List Doing) (r : Run)
      → told_run kind wire t (map (by side) ds ++ r) ≡ told_run kind wire t r ++ doings_text kind wire (config side t) (history side (world_of r)) ds
  text t side [] r = sym (append-nil (told_run kind wire t r))
  text t Client (d ∷ ds) r =
      one_more Client (config Client t) d ds r (told_run kind wire t r) (told_run kind wire t (map (by Client) ds ++ r)) (text t Client ds r)
  text t Server (d ∷ ds) r =
      one_more Server (config Server t) d ds r (told_run kind wire t r) (told_run kind wire t (map (by Server) ds ++ r)) (text t Server ds r)

-- ---- steps alone

pub made_is : (side : Side) (ss : List ByteStep) → made_by side ss ≡ map (by side) (map Makes ss)
made_is side [] = refl
made_is side (s ∷ ss) = ap (λ r. by side (Makes s) ∷ r) (made_is side ss)

pub steps_made : (ss : List ByteStep) → steps_of (map Makes ss) ≡ ss
steps_made [] = refl
steps_made (s ∷ ss) = ap (λ h. s ∷ h) (steps_made ss)

pub text_made : (kind : TextKind) (wire : Wire) (c : of.Config) (h ss : List ByteStep) → doings_text kind wire c h (map Makes ss) ≡ steps_text kind wire c h ss
text_made kind wire c h [] = refl
text_made kind wire c h (s ∷ ss) =
    ap (λ x. x ++ told_text kind wire c (steps_of (map Makes ss) ++ h) (Makes s)) (text_made kind wire c h ss)
    ∙ ap (λ k. steps_text kind wire c h ss ++ told_text kind wire c (k ++ h) (Makes s)) (steps_made ss)
