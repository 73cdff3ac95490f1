use Rattle.std.proofs.Common.{refl, ap}
use Rattle.hd_dialing.specs.Plans.{Begins, Brings, Ends}
use Rattle.hn_dialing.specs.Calls.{news_of}
use Rattle.sr_client.proofs.Linking.{drained, links_as, links_begins, links_brings, links_ends}
use Rattle.sr_client.proofs.Parts.{played, with_peer}
use Rattle.sr_client.proofs.client.Client.link.Goals as goal

pub returns-in_ok-attach-in-Begins-clause-linked : goal.returns-in_ok-attach-in-Begins-clause-linked
returns-in_ok-attach-in-Begins-clause-linked c = λ s b h may at.
    let self = c.args.self.now in
    let words = c.args.words.now in
    let now = record c.args.words.now { printed = c.attach.new.out } in
    links_as s b self words h (with_peer (drained s b self words h) c.attach.new.self) now c.args.now (news_of c.args.news) (Begins c.in-Begins.lane)
    (ap news_of c.in-Begins.is) may
    (λ m.
    links_begins s b self words h c.attach.new.self c.in-Some.peer now c.args.now at
    (played _ c.args.self.now.peer c.in-Some.peer _ _ may.plays c.in-Some.is) refl refl c.in-Begins.lane m c.in_ok-attach-in-Begins.ensures)

pub returns-in_ok-feed-in-Brings-clause-linked : goal.returns-in_ok-feed-in-Brings-clause-linked
returns-in_ok-feed-in-Brings-clause-linked c = λ s b h may at.
    let self = c.args.self.now in
    let words = c.args.words.now in
    let now = record c.args.words.now { printed = c.feed.new.out } in
    links_as s b self words h (with_peer self c.feed.new.self) now c.args.now (news_of c.args.news) (Brings c.in-Brings.bytes.now)
    (ap news_of c.in-Brings.is) may
    (λ m.
    links_brings s b self words h c.feed.new.self c.in-Some.peer now c.args.now at
    (played _ c.args.self.now.peer c.in-Some.peer _ _ may.plays c.in-Some.is) refl refl c.in-Brings.bytes.now m c.in_ok-feed-in-Brings.ensures)

pub returns-in_ok-_was-in-Ends-clause-linked : goal.returns-in_ok-_was-in-Ends-clause-linked
returns-in_ok-_was-in-Ends-clause-linked c = λ s b h may at.
    let self = c.args.self.now in
    let words = c.args.words.now in
    let now = record c.args.words.now { printed = c.detach.new.out } in
    links_as s b self words h (with_peer self c.detach.new.self) now c.args.now (news_of c.args.news) Ends (ap news_of c.in-Ends.is) may
    (λ m.
    links_ends s b self words h c.detach.new.self c.in-Some.peer now c.args.now at
    (played _ c.args.self.now.peer c.in-Some.peer _ _ may.plays c.in-Some.is) refl refl c.in_ok-_was-in-Ends._was m c.in_ok-_was-in-Ends.ensures)
