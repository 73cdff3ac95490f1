-- What stood before stays at the front of what is appended to.
use Rattle.std.proofs.Common.{◌≡◌, ℕ, List, ◌++◌, sym, ap, ◌∙◌, append_assoc}
use Rattle.hd_facts.specs.Prefixes.{IsPrefix}

pub kept_with : (old now text : List ℕ) → now ≡ old ++ text → IsPrefix old now
kept_with old now text e = (text, sym e)

pub kept_on : (old mid now : List ℕ) → IsPrefix old mid → IsPrefix mid now → IsPrefix old now
kept_on old mid now p q = (p.0 ++ q.0, sym (append_assoc old p.0 q.0) ∙ ap (λ (x : List ℕ). x ++ q.0) p.1 ∙ q.1)
