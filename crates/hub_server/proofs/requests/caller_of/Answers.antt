use Rattle.std.proofs.Common.{◌≡◌, List, ℕ, Option, Some, None, refl, sym, ap, subst, option_copied, ◌∙◌}
use Rattle.std.specs.Str.{IsUtf8}
use Rattle.hd_server.specs.declared.vocabulary.Caller.TheVariants.{Anonymous, Named, Unauthorized, KeeperFailed}
use Rattle.hd_server.specs.Table.{caller_told}
use Rattle.hk_keeper.specs.Calls.{IsCaused, IsErrorNoted}
use Rattle.hd_rooms.specs.declared.vocabulary.Asked.TheVariants as keeper
use Rattle.hub_server.specs.Requests.{IsCaller, text_asked}
use Rattle.hub_server.proofs.OutcomeCallers.{a_text, asked_keeper, no_text, none_asked, unanswered, unasked}
use Rattle.hub_server.proofs.requests.caller_of.Goals as goal

pub returns-in_default-clause-who : goal.returns-in_default-clause-who
returns-in_default-clause-who g c =
    let was = c.args.keeper.now in
    let is : None ≡ option_copied c.args.bearer = sym (ap option_copied c.in_default.is) in
    subst (λ (b : Option (List ℕ)). IsCaller (text_asked c.args.is_entry b) b Anonymous (g.K.Keeper.holds was) (g.K.Keeper.answers was)
    (g.K.Keeper.faults was)
    (g.K.Keeper.holds was) (g.K.Keeper.answers was)
    (g.K.Keeper.faults was)) is
    (unasked (text_asked c.args.is_entry None) None Anonymous (g.K.Keeper.holds was) (g.K.Keeper.answers was)
    (g.K.Keeper.faults was) (none_asked c.args.is_entry) refl)

pub returns-then-not-is_entry-clause-who : goal.returns-then-not-is_entry-clause-who
returns-then-not-is_entry-clause-who g c =
    let was = c.args.keeper.now in
    let is : Some c.in-Some.bearer.now ≡ option_copied c.args.bearer = sym (ap option_copied c.in-Some.is) in
    subst (λ (b : Option (List ℕ)). IsCaller (text_asked c.args.is_entry b) b Unauthorized (g.K.Keeper.holds was) (g.K.Keeper.answers was)
    (g.K.Keeper.faults was)
    (g.K.Keeper.holds was) (g.K.Keeper.answers was)
    (g.K.Keeper.faults was)) is
    (unasked (text_asked c.args.is_entry (Some c.in-Some.bearer.now)) (Some c.in-Some.bearer.now) Unauthorized (g.K.Keeper.holds was) (g.K.Keeper.answers was)
    (g.K.Keeper.faults was)
    (ap (λ b. text_asked b (Some c.in-Some.bearer.now)) c.if-not-is_entry.true) refl)

pub returns-in_default-from_utf8-clause-who : goal.returns-in_default-from_utf8-clause-who
returns-in_default-from_utf8-clause-who g c =
    let was = c.args.keeper.now in
    let bytes = c.bytes.result.now in
    let is : Some bytes ≡ option_copied c.args.bearer = ap Some c.bytes.ensures ∙ sym (ap option_copied c.in-Some.is) in
    subst (λ (b : Option (List ℕ)). IsCaller (text_asked c.args.is_entry b) b Unauthorized (g.K.Keeper.holds was) (g.K.Keeper.answers was)
    (g.K.Keeper.faults was)
    (g.K.Keeper.holds was) (g.K.Keeper.answers was)
    (g.K.Keeper.faults was)) is
    (unasked (text_asked c.args.is_entry (Some bytes)) (Some bytes) Unauthorized (g.K.Keeper.holds was) (g.K.Keeper.answers was)
    (g.K.Keeper.faults was)
    (ap (λ b. text_asked b (Some bytes)) c.if-not-is_entry.false ∙ no_text bytes c.in_default-from_utf8.ensures.cases.0) refl)

pub returns-in-Ok-Some-clause-who : goal.returns-in-Ok-Some-clause-who
returns-in-Ok-Some-clause-who g c =
    let was = c.args.keeper.now in
    let now = c.user_of.new.self in
    let token = c.in_ok-token.token in
    let spelled : token ≡ c.bytes.result.now = c.in_ok-token.ensures ∙ c.in-Ok.ensures.cases.0 in
    let text : IsUtf8 token = subst IsUtf8 (sym spelled) c.in-Ok.ensures.cases.1 in
    let is : Some token ≡ option_copied c.args.bearer = ap Some (spelled ∙ c.bytes.ensures) ∙ sym (ap option_copied c.in-Some.is) in
    subst (λ (b : Option (List ℕ)). IsCaller (text_asked c.args.is_entry b) b (Named c.in-Ok-Some.name) (g.K.Keeper.holds was) (g.K.Keeper.answers was)
    (g.K.Keeper.faults was)
    (g.K.Keeper.holds now) (g.K.Keeper.answers now)
    (g.K.Keeper.faults now)) is
    (asked_keeper (text_asked c.args.is_entry (Some token)) token (Named c.in-Ok-Some.name) (Some c.in-Ok-Some.field-0) (g.K.Keeper.holds was) (g.K.Keeper.holds now)
    (g.K.Keeper.answers was) (g.K.Keeper.answers now)
    (g.K.Keeper.faults was) (g.K.Keeper.faults now) (ap (λ b. text_asked b (Some token)) c.if-not-is_entry.false ∙ a_text token text) (ap (λ (o : Option (List ℕ)). caller_told (Some o)) (sym c.in-Ok-Some.field-0-is))
    c.in-Ok-Some.ensures.unchanged c.in-Ok-Some.ensures.first c.in-Ok-Some.ensures.noted c.in-Ok-Some.ensures.cause)

pub returns-in-Ok-None-clause-who : goal.returns-in-Ok-None-clause-who
returns-in-Ok-None-clause-who g c =
    let was = c.args.keeper.now in
    let now = c.user_of.new.self in
    let token = c.in_ok-token.token in
    let spelled : token ≡ c.bytes.result.now = c.in_ok-token.ensures ∙ c.in-Ok.ensures.cases.0 in
    let text : IsUtf8 token = subst IsUtf8 (sym spelled) c.in-Ok.ensures.cases.1 in
    let is : Some token ≡ option_copied c.args.bearer = ap Some (spelled ∙ c.bytes.ensures) ∙ sym (ap option_copied c.in-Some.is) in
    subst (λ (b : Option (List ℕ)). IsCaller (text_asked c.args.is_entry b) b Unauthorized (g.K.Keeper.holds was) (g.K.Keeper.answers was)
    (g.K.Keeper.faults was)
    (g.K.Keeper.holds now) (g.K.Keeper.answers now)
    (g.K.Keeper.faults now)) is
    (asked_keeper (text_asked c.args.is_entry (Some token)) token Unauthorized (Some c.in-Ok-None.field-0) (g.K.Keeper.holds was) (g.K.Keeper.holds now)
    (g.K.Keeper.answers was) (g.K.Keeper.answers now)
    (g.K.Keeper.faults was) (g.K.Keeper.faults now) (ap (λ b. text_asked b (Some token)) c.if-not-is_entry.false ∙ a_text token text) (ap (λ (o : Option (List ℕ)). caller_told (Some o)) (sym c.in-Ok-None.field-0-is))
    c.in-Ok-None.ensures.unchanged c.in-Ok-None.ensures.first c.in-Ok-None.ensures.noted c.in-Ok-None.ensures.cause)

pub returns-in-Err-Failed-clause-who : goal.returns-in-Err-Failed-clause-who
returns-in-Err-Failed-clause-who g c =
    let was = c.args.keeper.now in
    let now = c.user_of.new.self in
    let token = c.in_ok-token.token in
    let spelled : token ≡ c.bytes.result.now = c.in_ok-token.ensures ∙ c.in-Ok.ensures.cases.0 in
    let text : IsUtf8 token = subst IsUtf8 (sym spelled) c.in-Ok.ensures.cases.1 in
    let is : Some token ≡ option_copied c.args.bearer = ap Some (spelled ∙ c.bytes.ensures) ∙ sym (ap option_copied c.in-Some.is) in
    subst (λ (b : Option (List ℕ)). IsCaller (text_asked c.args.is_entry b) b KeeperFailed (g.K.Keeper.holds was) (g.K.Keeper.answers was)
    (g.K.Keeper.faults was)
    (g.K.Keeper.holds now) (g.K.Keeper.answers now)
    (g.K.Keeper.faults now)) is
    (asked_keeper (text_asked c.args.is_entry (Some token)) token KeeperFailed None (g.K.Keeper.holds was) (g.K.Keeper.holds now)
    (g.K.Keeper.answers was) (g.K.Keeper.answers now)
    (g.K.Keeper.faults was) (g.K.Keeper.faults now) (ap (λ b. text_asked b (Some token)) c.if-not-is_entry.false ∙ a_text token text) refl
    c.in-Err-Failed.ensures.unchanged (unanswered (g.K.Keeper.holds was) token)
    (subst (λ why. IsErrorNoted (g.K.Keeper.answers was) (g.K.Keeper.answers now) (keeper.User token None) why) c.in-Err-Failed.field-0-is
    c.in-Err-Failed.ensures.noted)
    (subst (λ why. IsCaused (g.K.Keeper.faults was) (g.K.Keeper.faults now) why) c.in-Err-Failed.field-0-is c.in-Err-Failed.ensures.cause))

pub returns-clause-unfailed : goal.returns-clause-unfailed
returns-clause-unfailed g c =
    subst (λ why. IsCaused (g.K.Keeper.faults c.args.keeper.now) (g.K.Keeper.faults c.user_of.new.self) why) c.in-Err-NoMemory.field-0-is
    c.in-Err-NoMemory.ensures.cause
