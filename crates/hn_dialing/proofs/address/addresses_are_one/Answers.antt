use Rattle.std.proofs.Common.{◌≡◌, ◌∙◌, ℕ, List, Ok, Some, ap, codes, inl, inr, option_map, subst, sym, unwrap_or}
use Rattle.std.proofs.lemmas.List.{append_cancel_left, append_cancel_right}
use Rattle.url.specs.Host.{host_text}
use Rattle.url.specs.Parser.{Parsed}
use Rattle.url.specs.Parts.{Parts, nonempty_host}
use Rattle.hw_door.specs.declared.heard.Address.{Address}
use Rattle.hn_dialing.specs.Addresses.{IsAddress, IsBare, IsSameAddress, http_port}
use Rattle.hn_dialing.proofs.address.addresses_are_one.Goals as goal

one_url : {a b : Parts} → ◌≡◌ {A = Parsed Parts} (Ok a) (Ok b) → a ≡ b
one_url e = cc

one_text : {a b : List ℕ} → Some a ≡ Some b → a ≡ b
one_text e = cc

-- a host is one without its brackets
same_bare : (host a b : List ℕ) → IsBare host a → IsBare host b → a ≡ b
same_bare host a b (inl x) (inl y) = append_cancel_right a b (codes "]") (append_cancel_left (codes "[") _ _ (sym x ∙ y))
same_bare host a b (inl x) (inr y) = absurd (y.0 a x)
same_bare host a b (inr x) (inl y) = absurd (x.0 b y)
same_bare host a b (inr x) (inr y) = x.1 ∙ sym y.1

one : (text : List ℕ) (a b : Address) → IsAddress text a → IsAddress text b → IsSameAddress a b
one text a b x y =
    let url : x.url ≡ y.url = one_url (sym x.parsed ∙ y.parsed) in
    let host : x.host ≡ y.host = one_text (sym x.host_is ∙ (ap (λ u. option_map host_text (nonempty_host u)) url ∙ y.host_is)) in (
      same_bare y.host a.host b.host (subst (λ h. IsBare h a.host) host x.bare) y.bare,
      x.port ∙ (ap (λ u. unwrap_or u.port http_port) url ∙ sym y.port),
      x.base ∙ (ap (λ u. u.path) url ∙ sym y.base),
    )

pub returns : goal.returns
returns c = one
