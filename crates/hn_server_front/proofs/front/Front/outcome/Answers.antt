use Rattle.std.proofs.Common.{◌≡◌, List, ℕ, refl, sym, ap, subst, ◌∙◌}
use Rattle.std.specs.Prelude.{if◌then◌else◌}
use Rattle.hd_server.specs.declared.vocabulary.Outcome.TheVariants.{Refusal, NewToken, PlainSocket}
use Rattle.hd_server.specs.Table.{delete_outcome, poll_outcome, post_outcome, socket_outcome}
use Rattle.hn_server_front.specs.Routes.{entry_outcome, outcome_at, token_at}
use Rattle.hn_server_front.proofs.Decided.{rows_always, rows_of_entry, rows_of_token, table_always, table_of_entry, table_of_token}
use Rattle.hn_server_front.proofs.front.Front.outcome.Goals as goal

pub returns-in-Refuse-clause-by_rows : goal.returns-in-Refuse-clause-by_rows
returns-in-Refuse-clause-by_rows c =
    rows_always c.args.self.now c.args.route.now c.args.caller.now c.args.resumable c.args.now (Refusal c.in-Refuse.status)
    (λ f. ap (λ t. outcome_at t f) (sym c.in-Refuse.is))

pub returns-in-Refuse-clause-of_table : goal.returns-in-Refuse-clause-of_table
returns-in-Refuse-clause-of_table c =
    table_always c.args.self.now c.args.route.now c.args.caller.now c.args.resumable c.args.now (Refusal c.in-Refuse.status)
    (λ f. ap (λ t. outcome_at t f) (sym c.in-Refuse.is))

pub returns-in-Negotiate-clause-by_rows : goal.returns-in-Negotiate-clause-by_rows
returns-in-Negotiate-clause-by_rows c =
    rows_of_entry c.args.self.now c.args.route.now c.args.caller.now c.args.resumable c.args.now c.of_entry.result c.busy.result
    c.busy.ensures (λ f who busy lots. c.of_entry.ensures f who busy ∙ ap (λ b. entry_outcome (if b then Refusal 500 else NewToken c.in-Negotiate.asked) f) (sym lots)
    ∙ ap (λ t. outcome_at t f) (sym c.in-Negotiate.is))

pub returns-in-Negotiate-clause-of_table : goal.returns-in-Negotiate-clause-of_table
returns-in-Negotiate-clause-of_table c =
    table_of_entry c.args.self.now c.args.route.now c.args.caller.now c.args.resumable c.args.now c.of_entry.result c.busy.result
    (λ f who busy lots. c.of_entry.ensures f who busy ∙ ap (λ b. entry_outcome (if b then Refusal 500 else NewToken c.in-Negotiate.asked) f) (sym lots)
    ∙ ap (λ t. outcome_at t f) (sym c.in-Negotiate.is))

pub returns-in-Open-clause-by_rows : goal.returns-in-Open-clause-by_rows
returns-in-Open-clause-by_rows c =
    rows_of_entry c.args.self.now c.args.route.now c.args.caller.now c.args.resumable c.args.now c.of_entry-in-Open.result c.busy-in-Open.result
    c.busy-in-Open.ensures (λ f who busy lots. c.of_entry-in-Open.ensures f who busy ∙ ap (λ t. outcome_at t f) (sym c.in-Open.is))

pub returns-in-Open-clause-of_table : goal.returns-in-Open-clause-of_table
returns-in-Open-clause-of_table c =
    table_of_entry c.args.self.now c.args.route.now c.args.caller.now c.args.resumable c.args.now c.of_entry-in-Open.result c.busy-in-Open.result
    (λ f who busy lots. c.of_entry-in-Open.ensures f who busy ∙ ap (λ t. outcome_at t f) (sym c.in-Open.is))

pub returns-in-Socket-clause-by_rows : goal.returns-in-Socket-clause-by_rows
returns-in-Socket-clause-by_rows c =
    rows_of_token c.args.self.now c.args.route.now c.args.caller.now c.args.resumable c.args.now c.of_socket.result c.in-Socket.token
    c.life.result (ap token_at c.in-Socket.is) c.life.ensures
    (λ f lives granted. c.of_socket.ensures ∙ ap (λ x. socket_outcome x c.args.resumable) (sym lives)
    ∙ ap (λ b. socket_outcome f.life b) (sym granted)
    ∙ ap (λ t. outcome_at t f) (sym c.in-Socket.is))

pub returns-in-Socket-clause-of_table : goal.returns-in-Socket-clause-of_table
returns-in-Socket-clause-of_table c =
    table_of_token c.args.self.now c.args.route.now c.args.caller.now c.args.resumable c.args.now c.of_socket.result c.life.result
    (λ f lives granted. c.of_socket.ensures ∙ ap (λ x. socket_outcome x c.args.resumable) (sym lives)
    ∙ ap (λ b. socket_outcome f.life b) (sym granted)
    ∙ ap (λ t. outcome_at t f) (sym c.in-Socket.is))

pub returns-in-Poll-clause-by_rows : goal.returns-in-Poll-clause-by_rows
returns-in-Poll-clause-by_rows c =
    rows_of_token c.args.self.now c.args.route.now c.args.caller.now c.args.resumable c.args.now c.of_poll.result c.in-Poll.token
    c.life-in-Poll.result (ap token_at c.in-Poll.is) c.life-in-Poll.ensures
    (λ f lives granted. c.of_poll.ensures ∙ ap poll_outcome (sym lives)
    ∙ ap (λ t. outcome_at t f) (sym c.in-Poll.is))

pub returns-in-Poll-clause-of_table : goal.returns-in-Poll-clause-of_table
returns-in-Poll-clause-of_table c =
    table_of_token c.args.self.now c.args.route.now c.args.caller.now c.args.resumable c.args.now c.of_poll.result c.life-in-Poll.result
    (λ f lives granted. c.of_poll.ensures ∙ ap poll_outcome (sym lives)
    ∙ ap (λ t. outcome_at t f) (sym c.in-Poll.is))

pub returns-in-Post-clause-by_rows : goal.returns-in-Post-clause-by_rows
returns-in-Post-clause-by_rows c =
    rows_of_token c.args.self.now c.args.route.now c.args.caller.now c.args.resumable c.args.now c.of_post.result c.in-Post.token
    c.life-in-Post.result (ap token_at c.in-Post.is) c.life-in-Post.ensures
    (λ f lives granted. c.of_post.ensures ∙ ap post_outcome (sym lives)
    ∙ ap (λ t. outcome_at t f) (sym c.in-Post.is))

pub returns-in-Post-clause-of_table : goal.returns-in-Post-clause-of_table
returns-in-Post-clause-of_table c =
    table_of_token c.args.self.now c.args.route.now c.args.caller.now c.args.resumable c.args.now c.of_post.result c.life-in-Post.result
    (λ f lives granted. c.of_post.ensures ∙ ap post_outcome (sym lives)
    ∙ ap (λ t. outcome_at t f) (sym c.in-Post.is))

pub returns-in-Delete-clause-by_rows : goal.returns-in-Delete-clause-by_rows
returns-in-Delete-clause-by_rows c =
    rows_of_token c.args.self.now c.args.route.now c.args.caller.now c.args.resumable c.args.now c.of_delete.result c.in-Delete.token
    c.life-in-Delete.result (ap token_at c.in-Delete.is) c.life-in-Delete.ensures
    (λ f lives granted. c.of_delete.ensures ∙ ap delete_outcome (sym lives)
    ∙ ap (λ t. outcome_at t f) (sym c.in-Delete.is))

pub returns-in-Delete-clause-of_table : goal.returns-in-Delete-clause-of_table
returns-in-Delete-clause-of_table c =
    table_of_token c.args.self.now c.args.route.now c.args.caller.now c.args.resumable c.args.now c.of_delete.result c.life-in-Delete.result
    (λ f lives granted. c.of_delete.ensures ∙ ap delete_outcome (sym lives)
    ∙ ap (λ t. outcome_at t f) (sym c.in-Delete.is))
