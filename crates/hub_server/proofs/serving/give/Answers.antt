use Rattle.std.proofs.Common.{[], ◌∷◌, refl, sym, subst}
use Rattle.hw_door.specs.declared.heard.Given.{Given}
use Rattle.hw_door.specs.declared.heard.Given.TheVariants as give
use Rattle.hw_door.specs.DoorCalls.{failed, sent, to_say}
use Rattle.hd_server.specs.declared.vocabulary.Said.TheVariants as say
use Rattle.hd_server.specs.Serves.{given_as}
use Rattle.hd_server.specs.Serving.{all_answered, at_door}
use Rattle.hj_jobs.specs.Meaning.{meaning}
use Rattle.hub_server.specs.Serving.{GivesAll}
use Rattle.hub_server.proofs.ServeRun.{gives_by, gives_none, gives_said, gives_sent}
use Rattle.hub_server.proofs.serving.give.Goals as goal

pub returns-in_err-reply-in-Reply-clause-given : goal.returns-in_err-reply-in-Reply-clause-given
returns-in_err-reply-in-Reply-clause-given g c =
    gives_by {H = g.row.H.Denot} {Job = g.row.H-Job.Denot} (meaning g.H.Hub.begin_of g.H.Hub.step_of) c.args.server.now c.args.server.now
    (λ calls. g.D.Door.Goes c.args.door.now calls c.reply.new.self) (c.args.word ∷ []) c.in_err-reply-in-Reply.field-0.0 c.from_residual.result c.from_residual.ensures.1
    (subst (λ word. (next : Given) × GivesAll {H = g.row.H.Denot} (meaning g.H.Hub.begin_of g.H.Hub.step_of) c.args.server.now c.args.server.now
    (λ calls. g.D.Door.Goes c.args.door.now calls c.reply.new.self) (word ∷ []) (at_door (to_say next) c.in_err-reply-in-Reply.field-0.0)) (sym c.in-Reply.is) (
      given_as (say.Reply c.in-Reply.lane c.in-Reply.reply),
      gives_none {H = g.row.H.Denot} {Job = g.row.H-Job.Denot} (meaning g.H.Hub.begin_of g.H.Hub.step_of) c.args.server.now
          (λ calls. g.D.Door.Goes c.args.door.now calls c.reply.new.self) (say.Reply c.in-Reply.lane c.in-Reply.reply) [] c.in_err-reply-in-Reply.field-0.0 c.in_err-reply-in-Reply.ensures.given.1,
    ))

pub returns-in_err-full-in-Bytes-clause-given : goal.returns-in_err-full-in-Bytes-clause-given
returns-in_err-full-in-Bytes-clause-given g c =
    gives_by {H = g.row.H.Denot} {Job = g.row.H-Job.Denot} (meaning g.H.Hub.begin_of g.H.Hub.step_of) c.args.server.now c.args.server.now
    (λ calls. g.D.Door.Goes c.args.door.now calls c.send.new.self) (c.args.word ∷ []) c.in_err-full-in-Bytes.field-0.0 c.from_residual-in_err-full-in-Bytes.result c.from_residual-in_err-full-in-Bytes.ensures.1
    (subst (λ word. (next : Given) × GivesAll {H = g.row.H.Denot} (meaning g.H.Hub.begin_of g.H.Hub.step_of) c.args.server.now c.args.server.now
    (λ calls. g.D.Door.Goes c.args.door.now calls c.send.new.self) (word ∷ []) (at_door (to_say next) c.in_err-full-in-Bytes.field-0.0)) (sym c.in-Bytes.is) (
      given_as (say.Bytes c.in-Bytes.lane c.in-Bytes.bytes c.in-Bytes.text),
      gives_none {H = g.row.H.Denot} {Job = g.row.H-Job.Denot} (meaning g.H.Hub.begin_of g.H.Hub.step_of) c.args.server.now
          (λ calls. g.D.Door.Goes c.args.door.now calls c.send.new.self) (say.Bytes c.in-Bytes.lane c.in-Bytes.bytes c.in-Bytes.text) [] c.in_err-full-in-Bytes.field-0.0
          (subst (λ bytes. g.D.Door.Goes c.args.door.now (failed (to_say (give.Bytes c.in-Bytes.lane bytes c.in-Bytes.text)) c.in_err-full-in-Bytes.field-0.0 ∷ []) c.send.new.self)
          c.bytes-in-Bytes.ensures c.in_err-full-in-Bytes.ensures.given.1),
    ))

pub returns-in_err-shut-in-Shut-clause-given : goal.returns-in_err-shut-in-Shut-clause-given
returns-in_err-shut-in-Shut-clause-given g c =
    gives_by {H = g.row.H.Denot} {Job = g.row.H-Job.Denot} (meaning g.H.Hub.begin_of g.H.Hub.step_of) c.args.server.now c.args.server.now
    (λ calls. g.D.Door.Goes c.args.door.now calls c.shut.new.self) (c.args.word ∷ []) c.in_err-shut-in-Shut.field-0.0 c.from_residual-in_err-shut-in-Shut.result c.from_residual-in_err-shut-in-Shut.ensures.1
    (subst (λ word. (next : Given) × GivesAll {H = g.row.H.Denot} (meaning g.H.Hub.begin_of g.H.Hub.step_of) c.args.server.now c.args.server.now
    (λ calls. g.D.Door.Goes c.args.door.now calls c.shut.new.self) (word ∷ []) (at_door (to_say next) c.in_err-shut-in-Shut.field-0.0)) (sym c.in-Shut.is) (
      given_as (say.Shut c.in-Shut.lane),
      gives_none {H = g.row.H.Denot} {Job = g.row.H-Job.Denot} (meaning g.H.Hub.begin_of g.H.Hub.step_of) c.args.server.now
          (λ calls. g.D.Door.Goes c.args.door.now calls c.shut.new.self) (say.Shut c.in-Shut.lane) [] c.in_err-shut-in-Shut.field-0.0 c.in_err-shut-in-Shut.ensures.given.1,
    ))

pub returns-in_ok-reply-in-Reply-clause-given : goal.returns-in_ok-reply-in-Reply-clause-given
returns-in_ok-reply-in-Reply-clause-given g c =
    subst (λ word. GivesAll {H = g.row.H.Denot} (meaning g.H.Hub.begin_of g.H.Hub.step_of) c.args.server.now c.args.server.now
    (λ calls. g.D.Door.Goes c.args.door.now calls c.reply.new.self) (word ∷ []) all_answered) (sym c.in-Reply.is)
    (gives_said {H = g.row.H.Denot} {Job = g.row.H-Job.Denot} (meaning g.H.Hub.begin_of g.H.Hub.step_of) c.args.server.now (λ calls. g.D.Door.Goes c.args.door.now calls c.reply.new.self)
    (say.Reply c.in-Reply.lane c.in-Reply.reply) c.in_ok-reply-in-Reply.ensures.given.0 refl c.in_ok-reply-in-Reply.ensures.given.1)

pub returns-in_ok-shut-in-Shut-clause-given : goal.returns-in_ok-shut-in-Shut-clause-given
returns-in_ok-shut-in-Shut-clause-given g c =
    subst (λ word. GivesAll {H = g.row.H.Denot} (meaning g.H.Hub.begin_of g.H.Hub.step_of) c.args.server.now c.args.server.now
    (λ calls. g.D.Door.Goes c.args.door.now calls c.shut.new.self) (word ∷ []) all_answered) (sym c.in-Shut.is)
    (gives_said {H = g.row.H.Denot} {Job = g.row.H-Job.Denot} (meaning g.H.Hub.begin_of g.H.Hub.step_of) c.args.server.now (λ calls. g.D.Door.Goes c.args.door.now calls c.shut.new.self)
    (say.Shut c.in-Shut.lane) c.in_ok-shut-in-Shut.ensures.given.0 refl c.in_ok-shut-in-Shut.ensures.given.1)

pub returns-in_ok-full-in-Bytes-clause-given : goal.returns-in_ok-full-in-Bytes-clause-given
returns-in_ok-full-in-Bytes-clause-given g c =
    subst (λ word. GivesAll {H = g.row.H.Denot} (meaning g.H.Hub.begin_of g.H.Hub.step_of) c.args.server.now c.note_sent.new.self
    (λ calls. g.D.Door.Goes c.args.door.now calls c.send.new.self) (word ∷ []) all_answered) (sym c.in-Bytes.is)
    (gives_sent {H = g.row.H.Denot} {Job = g.row.H-Job.Denot} (meaning g.H.Hub.begin_of g.H.Hub.step_of) c.args.server.now c.note_sent.new.self (λ calls. g.D.Door.Goes c.args.door.now calls c.send.new.self)
    c.in-Bytes.lane c.in-Bytes.bytes c.in-Bytes.text c.in_ok-full-in-Bytes.ensures.given.0 c.in_ok-full-in-Bytes.full
    (subst (λ bytes. g.D.Door.Goes c.args.door.now (sent (give.Bytes c.in-Bytes.lane bytes c.in-Bytes.text) c.in_ok-full-in-Bytes.ensures.given.0 c.in_ok-full-in-Bytes.full ∷ [])
    c.send.new.self) c.bytes-in-Bytes.ensures c.in_ok-full-in-Bytes.ensures.given.1)
    c.note_sent.ensures.sees)
