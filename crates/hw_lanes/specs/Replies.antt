-- Which replies may be sent (RFC 9110, sections 15 and 8.6; RFC 6455, section 4.2.2).
use Rattle.std.specs.Prelude.{◌≡◌, ◌↔◌, ◌⊎◌, ◌==◌, ℕ, List, [], ◌∷◌, is_some, IsTrue}
use Rattle.std.specs.List.{list_any}
use Rattle.hw_lanes.specs.declared.http.Reply.{Reply}

-- the statuses that a reply may have
abbrev pub statuses : List ℕ
statuses =
    101 ∷ 200 ∷ 202 ∷ 204 ∷ 400 ∷ 401 ∷ 404 ∷ 405 ∷ 409 ∷ 411 ∷ 413 ∷ 431 ∷ 500 ∷ 503 ∷ []

-- a reply that can be sent: 101 accepts a key, and 101 and 204 have no body
pub record IsReply (r : Reply) : Type 0 where
  pub status : IsTrue (list_any (λ s. s == r.status) statuses)
  pub accept : IsTrue (is_some r.accept) ↔ (r.status ≡ 101)
  pub body : (r.status ≡ 101) ⊎ (r.status ≡ 204) → r.body ≡ []
