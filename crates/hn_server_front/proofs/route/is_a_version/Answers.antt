use Rattle.std.proofs.Common.{rules, tests, sym, ◌≡◌, ◌∙◌, true}
use Rattle.std.specs.List.{list_all}
use Rattle.std.proofs.lemmas.Iterator.{YieldsList-from_slice}
use Rattle.std.proofs.lemmas.Iterator.Search.{all_from_yields_List}
use Rattle.hd_server.specs.Table.{is_digit}
use Rattle.hn_server_front.proofs.Versions.{digits_are_text, version_read, version_unread}
use Rattle.hn_server_front.proofs.route.is_a_version.Goals as goal

pub returns-in_default : goal.returns-in_default
returns-in_default c =
    let digits : list_all is_digit c.args.text.now ≡ true =
    sym (all_from_yields_List is_digit _ _ c.all.result c.all.ensures.ran (YieldsList-from_slice c.args.text.now cc)
    (λ x b q k. search (rules, tests))) ∙ c.if-not-all.false in
    absurd (c.in_default.ensures.cases.0 (digits_are_text c.args.text.now digits))

pub returns-in-Ok-parse : goal.returns-in-Ok-parse
returns-in-Ok-parse c =
    let digits : list_all is_digit c.args.text.now ≡ true =
    sym (all_from_yields_List is_digit _ _ c.all.result c.all.ensures.ran (YieldsList-from_slice c.args.text.now cc)
    (λ x b q k. search (rules, tests))) ∙ c.if-not-all.false in
    version_read c.args.text.now digits c.in-Ok-parse.number (rw c.in-Ok.ensures.cases.0 at c.in-Ok-parse.ensures.value.0)

pub returns-in-Err : goal.returns-in-Err
returns-in-Err c =
    let digits : list_all is_digit c.args.text.now ≡ true =
    sym (all_from_yields_List is_digit _ _ c.all.result c.all.ensures.ran (YieldsList-from_slice c.args.text.now cc)
    (λ x b q k. search (rules, tests))) ∙ c.if-not-all.false in
    version_unread c.args.text.now digits 0 (rw c.in-Ok.ensures.cases.0 at c.in-Err.ensures.value.0)
