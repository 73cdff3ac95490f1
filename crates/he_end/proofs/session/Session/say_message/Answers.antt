use Rattle.std.proofs.Common.{refl, ◌∙◌, inr, arith}
use Rattle.std.proofs.lemmas.Bool.{iff_false}
use Rattle.he_end.proofs.Messages.{next_limits, remembers_message, bytes_of, message_waits, has_message}
use Rattle.he_end.proofs.session.Session.say_message.Goals as goal

pub returns-then-not-has_unwritten : goal.returns-then-not-has_unwritten
returns-then-not-has_unwritten c =
    let none = iff_false c.has_unwritten.ensures c.if-not-has_unwritten.true in (
      (refl, λ _. tt, (refl, λ c' k m r is. absurd (none (message_waits c' c.args.self.now k m c.in-Some.link r is c.in-Some.is)), λ _. refl)),
      record {
        after = tt;
        bytes = λ c' k m r is. absurd (none (message_waits c' c.args.self.now k m c.in-Some.link r is c.in-Some.is));
        none = (λ _. refl, λ _. inr (omega arith));
      },
    )

pub returns-in-Some-next_unwritten : goal.returns-in-Some-next_unwritten
returns-in-Some-next_unwritten c =
    let waits = c.has_unwritten.ensures.0 c.if-not-has_unwritten.false in (
      (
        refl,
        λ _. tt,
        (
          next_limits _ _ c.next_unwritten.follows.holds-at-none,
          λ c' k m r is. remembers_message c' c.args.self.now k m c.in-Some.link _ _ r c.buffer_is_within.ensures is c.in-Some.is c.next_unwritten.follows.holds-at-none c.next_number.ensures,
          λ h. absurd (has_message c.args.self.now c.in-Some.link c.in-Some.is waits h),
        ),
      ),
      record {
        after = tt;
        bytes = λ c' k m r is. c.in-Some-next_unwritten.ensures.frame ∙ bytes_of c' c.args.self.now k m c.in-Some.link r c.buffer_is_within.ensures is c.in-Some.is;
        none = (λ h. absurd (has_message c.args.self.now c.in-Some.link c.in-Some.is waits h), λ e. absurd (cc));
      },
    )
