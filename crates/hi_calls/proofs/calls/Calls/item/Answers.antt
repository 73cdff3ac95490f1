use Rattle.std.proofs.Common.{◌≡◌, Bool, true, false, Option, Some, None, sym, ap, ◌∙◌}
use Rattle.std.specs.Prelude.{is_some, nat_eq}
use Rattle.std.specs.HashMap.{get}
use Rattle.hi_calls.proofs.Steady.{got_item}
use Rattle.hi_calls.proofs.Looking.{has_id_of, is_live, streams, no_stream}
use Rattle.hi_calls.proofs.calls.Calls.item.Goals as goal

pub returns-in_default-get-clause-unknown : goal.returns-in_default-get-clause-unknown
returns-in_default-get-clause-unknown c = λ prefix h s.
    no_stream c.args.self.now prefix h s c.args.id.now c.in-Some.number c.in-Some.ensures.found c.in-Some.ensures.within
    (λ e. let z : ◌≡◌ {A = Option Bool} None (Some true) = c.in_default-get.ensures.value ∙ e in cc)

pub returns-then-streams-clause-ok : goal.returns-then-streams-clause-ok
returns-then-streams-clause-ok c = λ prefix h s.
    let there : ◌≡◌ {A = Option Bool} (get nat_eq c.args.self.now.calls c.in-Some.number) (Some true) = sym c.in-Some-get.ensures.value ∙ ap Some c.if-streams.true in
    let live = is_live c.args.self.now prefix h s c.in-Some.number (ap is_some there) in
    record {
      is = has_id_of c.args.self.now prefix h s c.in-Some.number c.args.id.now c.in-Some.ensures.found;
      live = live;
      streams = streams c.args.self.now prefix h s c.in-Some.number there;
      stands = λ v. got_item c.args.self.now prefix h c.in-Some.number v s live (streams c.args.self.now prefix h s c.in-Some.number there);
    }

pub returns-else-streams-clause-unknown : goal.returns-else-streams-clause-unknown
returns-else-streams-clause-unknown c = λ prefix h s.
    no_stream c.args.self.now prefix h s c.args.id.now c.in-Some.number c.in-Some.ensures.found c.in-Some.ensures.within
    (λ e. let z : ◌≡◌ {A = Option Bool} (Some false) (Some true) = ap Some (sym c.if-streams.false) ∙ (c.in-Some-get.ensures.value ∙ e) in cc)
