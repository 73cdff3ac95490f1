use Rattle.std.proofs.Common.{refl, sym, ap, subst, ◌∙◌}
use Rattle.std.proofs.lemmas.Result.{on_ok_weaker}
use Rattle.hd_server.specs.declared.vocabulary.Outcome.TheVariants.{Refusal, NewToken, PlainSocket, TokenSocket, FirstPoll, NextPoll, LastPoll, Posting, Deletion}
use Rattle.hd_server.specs.Doings.{notes}
use Rattle.hd_server.specs.Laws.{Suits}
use Rattle.hj_jobs.specs.Meaning.{meaning}
use Rattle.hw_lanes.specs.Replies.{IsReply}
use Rattle.hub_server.specs.Lanes.{settled}
use Rattle.hub_server.specs.Requests.{CanBeSaid, CarriesOut, IsNamed, IsSeen}
use Rattle.hub_server.proofs.OutcomeLives.{fresh_unlost}
use Rattle.hub_server.proofs.OutcomeTokens.{can_stand, deleted_known, deletes, ending_can_hold, follows_for, fresh_can_stand, fresh_has_none, fresh_reads, holds_last, opens, polling_can_hold, refuses, takes_over, told_at, told_sent}
use Rattle.hub_server.proofs.server.Server.carry_out.Goals as goal

pub reply-requires : goal.reply-requires
reply-requires g c =
    subst IsReply (sym c.refusal.ensures) (told_sent c.args.brought.at_base c.in-Refusal.status (subst (CanBeSaid c.args.brought.accept) c.in-Refusal.is c.requires))

pub returns-in-Refusal : goal.returns-in-Refusal
returns-in-Refusal g c =
    let hub = meaning g.H.Hub.begin_of g.H.Hub.step_of in
    record {
      done = on_ok_weaker c.reply.result (λ run s before h st rests come none o at on up body here is f suits_any seen_any.
          let suits : Suits o.request f (Refusal c.in-Refusal.status) = subst (Suits o.request f) c.in-Refusal.is suits_any in
          let seen : IsSeen s.live f c.args.conn (Refusal c.in-Refusal.status) h = subst (λ x. IsSeen s.live f c.args.conn x h) c.in-Refusal.is seen_any in
          subst (λ x. CarriesOut {H = g.row.H.Denot} {Job = g.row.H-Job.Denot} hub s before c.reply.new.self o c.args.conn
          (g.L.Lots.drawn c.args.lots.now) (g.L.Lots.faults c.args.lots.now) (g.L.Lots.drawn c.args.lots.now) (g.L.Lots.faults c.args.lots.now) h x)
          (sym c.in-Refusal.is) ((
            refl,
            refl,
            refuses {H = g.row.H.Denot} {Job = g.row.H-Job.Denot} hub s before c.reply.new.self o c.args.conn h c.in-Refusal.status c.args.at.lane c.refusal.result on
                (c.refusal.ensures ∙ ap (λ b. told_at b c.in-Refusal.status) (sym here)) (run s settled before h st come),
          ))) c.reply.ensures.said;
    }

pub returns-in-NewToken : goal.returns-in-NewToken
returns-in-NewToken g c =
    let hub = meaning g.H.Hub.begin_of g.H.Hub.step_of in
    record {
      done = on_ok_weaker c.new_token.result (λ run s before h st rests come none o at on up body here is f suits_any seen_any.
          let suits : Suits o.request f (NewToken c.in-NewToken.reconnect) = subst (Suits o.request f) c.in-NewToken.is suits_any in
          let seen : IsSeen s.live f c.args.conn (NewToken c.in-NewToken.reconnect) h = subst (λ x. IsSeen s.live f c.args.conn x h) c.in-NewToken.is seen_any in
          subst (λ x. CarriesOut {H = g.row.H.Denot} {Job = g.row.H-Job.Denot} hub s before c.new_token.new.self o c.args.conn
          (g.L.Lots.drawn c.args.lots.now) (g.L.Lots.faults c.args.lots.now) (g.L.Lots.drawn c.new_token.new.lots) (g.L.Lots.faults c.new_token.new.lots) h x)
          (sym c.in-NewToken.is) (
          run s before h st rests come none o at on is (sym seen.busy ∙ suits.free))) c.new_token.ensures.made;
    }

pub returns-in-PlainSocket : goal.returns-in-PlainSocket
returns-in-PlainSocket g c =
    let hub = meaning g.H.Hub.begin_of g.H.Hub.step_of in
    record {
      done = on_ok_weaker c.plain_socket.result (λ run s before h st rests come none o at on up body here is f suits_any seen_any.
          let suits : Suits o.request f PlainSocket = subst (Suits o.request f) c.in-PlainSocket.is suits_any in
          let seen : IsSeen s.live f c.args.conn PlainSocket h = subst (λ x. IsSeen s.live f c.args.conn x h) c.in-PlainSocket.is seen_any in
          subst (λ x. CarriesOut {H = g.row.H.Denot} {Job = g.row.H-Job.Denot} hub s before c.plain_socket.new.self o c.args.conn
          (g.L.Lots.drawn c.args.lots.now) (g.L.Lots.faults c.args.lots.now) (g.L.Lots.drawn c.args.lots.now) (g.L.Lots.faults c.args.lots.now) h x)
          (sym c.in-PlainSocket.is) ((
            refl,
            refl,
            opens {H = g.row.H.Denot} {Job = g.row.H-Job.Denot} hub s before c.plain_socket.new.self o c.args.conn h
                (run s before h st rests come none o at on (up ∙ c.unwrap.ensures) is (sym seen.busy ∙ suits.1.free)),
          ))) c.plain_socket.ensures.opened;
    }

pub returns-in-TokenSocket : goal.returns-in-TokenSocket
returns-in-TokenSocket g c =
    let hub = meaning g.H.Hub.begin_of g.H.Hub.step_of in
    record {
      done = on_ok_weaker c.token_socket.result (λ run s before h st rests come none o at on up body here is f suits_any seen_any.
          let suits : Suits o.request f TokenSocket = subst (Suits o.request f) c.in-TokenSocket.is suits_any in
          let seen : IsSeen s.live f c.args.conn TokenSocket h = subst (λ x. IsSeen s.live f c.args.conn x h) c.in-TokenSocket.is seen_any in
          subst (λ x. CarriesOut {H = g.row.H.Denot} {Job = g.row.H-Job.Denot} hub s before c.token_socket.new.self o c.args.conn
          (g.L.Lots.drawn c.args.lots.now) (g.L.Lots.faults c.args.lots.now) (g.L.Lots.drawn c.args.lots.now) (g.L.Lots.faults c.args.lots.now) h x)
          (sym c.in-TokenSocket.is) ((
            refl,
            refl,
            takes_over {H = g.row.H.Denot} {Job = g.row.H-Job.Denot} hub s before c.token_socket.new.self o c.args.conn h
                (run s before h st rests come none
                (can_stand f c.args.conn h (st.orderly c.args.conn) (seen.named refl) (rests c.args.conn) suits.1) o at on (up ∙ c.unwrap-in-TokenSocket.ensures)),
          ))) c.token_socket.ensures.stands;
    }

pub returns-in-FirstPoll : goal.returns-in-FirstPoll
returns-in-FirstPoll g c =
    let hub = meaning g.H.Hub.begin_of g.H.Hub.step_of in
    record {
      done = on_ok_weaker c.first_poll.result (λ run s before h st rests come none o at on up body here is f suits_any seen_any.
          let suits : Suits o.request f FirstPoll = subst (Suits o.request f) c.in-FirstPoll.is suits_any in
          let seen : IsSeen s.live f c.args.conn FirstPoll h = subst (λ x. IsSeen s.live f c.args.conn x h) c.in-FirstPoll.is seen_any in
          subst (λ x. CarriesOut {H = g.row.H.Denot} {Job = g.row.H-Job.Denot} hub s before c.first_poll.new.self o c.args.conn
          (g.L.Lots.drawn c.args.lots.now) (g.L.Lots.faults c.args.lots.now) (g.L.Lots.drawn c.args.lots.now) (g.L.Lots.faults c.args.lots.now) h x)
          (sym c.in-FirstPoll.is) (
          let n : IsNamed f c.args.conn h = seen.named refl in
          let orderly = st.orderly c.args.conn in
          let reads = fresh_reads f c.args.conn h orderly n suits in (
            refl,
            refl,
            follows_for {H = g.row.H.Denot} {Job = g.row.H-Job.Denot} hub s before c.first_poll.new.self o c.args.conn h FirstPoll
                (run s settled before h st refl come (fresh_can_stand f c.args.conn h orderly n suits) (fresh_has_none f c.args.conn h orderly n suits) reads.1
                (fresh_unlost c.args.conn (notes h) reads) o at on),
          ))) c.first_poll.ensures.polled;
    }

pub returns-in-NextPoll : goal.returns-in-NextPoll
returns-in-NextPoll g c =
    let hub = meaning g.H.Hub.begin_of g.H.Hub.step_of in
    record {
      done = on_ok_weaker c.next_poll.result (λ run s before h st rests come none o at on up body here is f suits_any seen_any.
          let suits : Suits o.request f NextPoll = subst (Suits o.request f) c.in-NextPoll.is suits_any in
          let seen : IsSeen s.live f c.args.conn NextPoll h = subst (λ x. IsSeen s.live f c.args.conn x h) c.in-NextPoll.is seen_any in
          subst (λ x. CarriesOut {H = g.row.H.Denot} {Job = g.row.H-Job.Denot} hub s before c.next_poll.new.self o c.args.conn
          (g.L.Lots.drawn c.args.lots.now) (g.L.Lots.faults c.args.lots.now) (g.L.Lots.drawn c.args.lots.now) (g.L.Lots.faults c.args.lots.now) h x)
          (sym c.in-NextPoll.is) ((
            refl,
            refl,
            follows_for {H = g.row.H.Denot} {Job = g.row.H-Job.Denot} hub s before c.next_poll.new.self o c.args.conn h NextPoll
                (run s settled before h st come refl (polling_can_hold f c.args.conn h (st.orderly c.args.conn) (seen.named refl) suits) o at on),
          ))) c.next_poll.ensures.polled;
    }

pub returns-in-LastPoll : goal.returns-in-LastPoll
returns-in-LastPoll g c =
    let hub = meaning g.H.Hub.begin_of g.H.Hub.step_of in
    record {
      done = on_ok_weaker c.hold_poll.result (λ run s before h st rests come none o at on up body here is f suits_any seen_any.
          let suits : Suits o.request f LastPoll = subst (Suits o.request f) c.in-LastPoll.is suits_any in
          let seen : IsSeen s.live f c.args.conn LastPoll h = subst (λ x. IsSeen s.live f c.args.conn x h) c.in-LastPoll.is seen_any in
          subst (λ x. CarriesOut {H = g.row.H.Denot} {Job = g.row.H-Job.Denot} hub s before c.hold_poll.new.self o c.args.conn
          (g.L.Lots.drawn c.args.lots.now) (g.L.Lots.faults c.args.lots.now) (g.L.Lots.drawn c.args.lots.now) (g.L.Lots.faults c.args.lots.now) h x)
          (sym c.in-LastPoll.is) ((
            refl,
            refl,
            holds_last {H = g.row.H.Denot} {Job = g.row.H-Job.Denot} hub s before c.hold_poll.new.self o c.args.conn h c.args.at.lane at on
                (run s settled before h st refl come (ending_can_hold f c.args.conn h (st.orderly c.args.conn) (seen.named refl) suits)),
          ))) c.hold_poll.ensures.held;
    }

pub returns-in-Posting : goal.returns-in-Posting
returns-in-Posting g c =
    let hub = meaning g.H.Hub.begin_of g.H.Hub.step_of in
    record {
      done = on_ok_weaker c.posting.result (λ run s before h st rests come none o at on up body here is f suits_any seen_any.
          let suits : Suits o.request f Posting = subst (Suits o.request f) c.in-Posting.is suits_any in
          let seen : IsSeen s.live f c.args.conn Posting h = subst (λ x. IsSeen s.live f c.args.conn x h) c.in-Posting.is seen_any in
          subst (λ x. CarriesOut {H = g.row.H.Denot} {Job = g.row.H-Job.Denot} hub s before c.posting.new.self o c.args.conn
          (g.L.Lots.drawn c.args.lots.now) (g.L.Lots.faults c.args.lots.now) (g.L.Lots.drawn c.args.lots.now) (g.L.Lots.faults c.args.lots.now) h x)
          (sym c.in-Posting.is) ((
            refl,
            refl,
            run s before h st rests come none o at on (body ∙ sym c.bytes.ensures)
                (polling_can_hold f c.args.conn h (st.orderly c.args.conn) (seen.named refl) suits),
          ))) c.posting.ensures.posted;
    }

pub returns-in-Deletion : goal.returns-in-Deletion
returns-in-Deletion g c =
    let hub = meaning g.H.Hub.begin_of g.H.Hub.step_of in
    record {
      done = on_ok_weaker c.deletion.result (λ run s before h st rests come none o at on up body here is f suits_any seen_any.
          let suits : Suits o.request f Deletion = subst (Suits o.request f) c.in-Deletion.is suits_any in
          let seen : IsSeen s.live f c.args.conn Deletion h = subst (λ x. IsSeen s.live f c.args.conn x h) c.in-Deletion.is seen_any in
          subst (λ x. CarriesOut {H = g.row.H.Denot} {Job = g.row.H-Job.Denot} hub s before c.deletion.new.self o c.args.conn
          (g.L.Lots.drawn c.args.lots.now) (g.L.Lots.faults c.args.lots.now) (g.L.Lots.drawn c.args.lots.now) (g.L.Lots.faults c.args.lots.now) h x)
          (sym c.in-Deletion.is) ((
            refl,
            refl,
            deletes {H = g.row.H.Denot} {Job = g.row.H-Job.Denot} hub s before c.deletion.new.self o c.args.conn h
                (run s before h st rests come none (deleted_known f c.args.conn h (st.orderly c.args.conn) (seen.named refl) suits) o at on),
          ))) c.deletion.ensures.erased;
    }
