use Rattle.std.proofs.Common.{◌≡◌, ◌∙◌, Result, Ok, Err, IfOk, Some, None, codes, option_map, sym, ap, subst}
use Rattle.clap.specs.Words.{found_of, Text}
use Rattle.clap.proofs.WalkLemmas.{first_value-rows}
use Rattle.hn_dialing.specs.Addresses.{IsAddress}
use Rattle.hw_door.specs.declared.heard.Address.{Address}
use Rattle.sr_words.specs.declared.error.WordsError.{WordsError}
use Rattle.sr_words.proofs.words.address_of.Goals as goal

inside : {a b : Text} → Some a ≡ Some b → a ≡ b
inside e = cc

ok_too : {P Q : Address → Type 0} → ((address : Address) → P address → Q address) → (r : Result Address WordsError) → IfOk r P → IfOk r Q
ok_too f (Ok address) x = f address x
ok_too f (Err e) x = tt

pub returns-in_default-clause-none : goal.returns-in_default-clause-none
returns-in_default-clause-none c = λ _ address says.
    let read : None ≡ Some says.0 =
    sym (ap (option_map (λ s. s.now)) c.in_default.is) ∙ (c.get_str.ensures ∙ (first_value-rows (found_of c.args.matches.now) (codes "url") ∙ says.1.0)) in
    cc

pub returns-clause-said : goal.returns-clause-said
returns-clause-said c = ok_too (λ address said. (
  c.in-Some.url.now,
  (
    sym (first_value-rows (found_of c.args.matches.now) (codes "url"))
        ∙ (sym c.get_str.ensures ∙ ap (option_map (λ s. s.now)) c.in-Some.is),
    said.0,
  ),
)) c.hub.result c.hub.ensures.said

pub returns-clause-none : goal.returns-clause-none
returns-clause-none c = λ is address says.
    let same : c.in-Some.url.now ≡ says.0 =
    inside (sym (ap (option_map (λ s. s.now)) c.in-Some.is) ∙ (c.get_str.ensures ∙ (first_value-rows (found_of c.args.matches.now) (codes "url") ∙ says.1.0))) in
    c.hub.ensures.none is address (subst (λ text. IsAddress text address) (sym same) says.1.1)
