use Rattle.std.proofs.Common.{[], ◌∷◌, sym, subst}
use Rattle.hw_door.specs.declared.heard.Given.TheVariants as give
use Rattle.hw_door.specs.DoorCalls.{failed, sent, to_say}
use Rattle.sr_client.proofs.Giving.{GivesFirst, first_fails, first_none, first_sent, part_by, shut_fails, then_shut}
use Rattle.sr_client.proofs.client.Client.give.Goals.{in-Some+in_ok-self, in_default}
use Rattle.sr_client.proofs.client.Client.give.Goals as goal

pub returns-in_err-self-clause-given : goal.returns-in_err-self-clause-given
returns-in_err-self-clause-given g c =
    part_by c.args.words.now (λ calls. g.C.Dialer.Goes c.args.dialer.now calls c.send.new.self) c.args.self.now c.args.self.now c.in_err-self.field-0.0
    c.from_residual.result c.from_residual.ensures.1
    (first_fails c.args.words.now (λ calls. g.C.Dialer.Goes c.args.dialer.now calls c.send.new.self) c.in_err-self.field-0.0 c.in-Some.lane c.in-Some.is
    (subst (λ bytes. g.C.Dialer.Goes c.args.dialer.now (failed (to_say (give.Bytes c.in-Some.lane bytes c.args.words.now.text)) c.in_err-self.field-0.0 ∷ []) c.send.new.self)
    c.as_slice.ensures.value c.in_err-self.ensures.given.1))

pub returns-in_err-shut-clause-given : goal.returns-in_err-shut-clause-given
returns-in_err-shut-clause-given g c =
    let first : GivesFirst c.args.words.now (λ calls. g.C.Dialer.Goes c.args.dialer.now calls c.match-words.dialer) c.args.self.now c.match-words.self =
    elim c.match-words.branch [
      | in-Some+in_ok-self w ↦
          subst (λ d. GivesFirst c.args.words.now (λ calls. g.C.Dialer.Goes c.args.dialer.now calls d) c.args.self.now c.match-words.self) (sym w.dialer-is)
          (subst (λ x. GivesFirst c.args.words.now (λ calls. g.C.Dialer.Goes c.args.dialer.now calls w.send.new.self) c.args.self.now x) (sym w.self-is)
          (first_sent c.args.words.now (λ calls. g.C.Dialer.Goes c.args.dialer.now calls w.send.new.self) c.args.self.now w.in-Some.lane
          w.in_ok-self.ensures.given.0 w.in_ok-self.field-0 w.in-Some.is
          (subst (λ bytes. g.C.Dialer.Goes c.args.dialer.now (sent (give.Bytes w.in-Some.lane bytes c.args.words.now.text) w.in_ok-self.ensures.given.0 w.in_ok-self.field-0 ∷ [])
          w.send.new.self) w.as_slice.ensures.value w.in_ok-self.ensures.given.1)))
      | in_default w ↦
          subst (λ d. GivesFirst c.args.words.now (λ calls. g.C.Dialer.Goes c.args.dialer.now calls d) c.args.self.now c.match-words.self) (sym w.dialer-is)
          (subst (λ x. GivesFirst c.args.words.now (λ calls. g.C.Dialer.Goes c.args.dialer.now calls c.args.dialer.now) c.args.self.now x) (sym w.self-is)
          (first_none c.args.words.now (λ calls. g.C.Dialer.Goes c.args.dialer.now calls c.args.dialer.now) c.args.self.now w.in_default.is
          (g.met.C.Dialer.stays c.args.dialer.now)))
    ] in
    part_by c.args.words.now (λ calls. g.C.Dialer.Goes c.args.dialer.now calls c.shut.new.self) c.args.self.now c.match-words.self c.in_err-shut.field-0.0
    c.from_residual-in_err-shut.result c.from_residual-in_err-shut.ensures.1
    (shut_fails c.args.words.now c.args.self.now c.match-words.self (λ calls. g.C.Dialer.Goes c.args.dialer.now calls c.match-words.dialer)
    (λ calls. g.C.Dialer.Goes c.match-words.dialer calls c.shut.new.self) (λ calls. g.C.Dialer.Goes c.args.dialer.now calls c.shut.new.self)
    (g.met.C.Dialer.joins c.args.dialer.now c.match-words.dialer c.shut.new.self) first c.in-Some-shut.lane c.in-Some-shut.is c.in_err-shut.field-0.0
    c.in_err-shut.ensures.given.1)

pub returns-in_ok-shut-clause-given : goal.returns-in_ok-shut-clause-given
returns-in_ok-shut-clause-given g c =
    let first : GivesFirst c.args.words.now (λ calls. g.C.Dialer.Goes c.args.dialer.now calls c.match-words.dialer) c.args.self.now c.match-words.self =
    elim c.match-words.branch [
      | in-Some+in_ok-self w ↦
          subst (λ d. GivesFirst c.args.words.now (λ calls. g.C.Dialer.Goes c.args.dialer.now calls d) c.args.self.now c.match-words.self) (sym w.dialer-is)
          (subst (λ x. GivesFirst c.args.words.now (λ calls. g.C.Dialer.Goes c.args.dialer.now calls w.send.new.self) c.args.self.now x) (sym w.self-is)
          (first_sent c.args.words.now (λ calls. g.C.Dialer.Goes c.args.dialer.now calls w.send.new.self) c.args.self.now w.in-Some.lane
          w.in_ok-self.ensures.given.0 w.in_ok-self.field-0 w.in-Some.is
          (subst (λ bytes. g.C.Dialer.Goes c.args.dialer.now (sent (give.Bytes w.in-Some.lane bytes c.args.words.now.text) w.in_ok-self.ensures.given.0 w.in_ok-self.field-0 ∷ [])
          w.send.new.self) w.as_slice.ensures.value w.in_ok-self.ensures.given.1)))
      | in_default w ↦
          subst (λ d. GivesFirst c.args.words.now (λ calls. g.C.Dialer.Goes c.args.dialer.now calls d) c.args.self.now c.match-words.self) (sym w.dialer-is)
          (subst (λ x. GivesFirst c.args.words.now (λ calls. g.C.Dialer.Goes c.args.dialer.now calls c.args.dialer.now) c.args.self.now x) (sym w.self-is)
          (first_none c.args.words.now (λ calls. g.C.Dialer.Goes c.args.dialer.now calls c.args.dialer.now) c.args.self.now w.in_default.is
          (g.met.C.Dialer.stays c.args.dialer.now)))
    ] in
    then_shut c.args.words.now c.args.self.now c.match-words.self (λ calls. g.C.Dialer.Goes c.args.dialer.now calls c.match-words.dialer)
    (λ calls. g.C.Dialer.Goes c.match-words.dialer calls c.shut.new.self) (λ calls. g.C.Dialer.Goes c.args.dialer.now calls c.shut.new.self)
    (g.met.C.Dialer.joins c.args.dialer.now c.match-words.dialer c.shut.new.self) first c.in-Some-shut.lane c.in-Some-shut.is c.in_ok-shut.ensures.given.0
    c.in_ok-shut.ensures.given.1
