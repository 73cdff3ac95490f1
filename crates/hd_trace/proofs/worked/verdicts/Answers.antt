use Rattle.std.proofs.Common.{◌≡◌, ℕ, true, false, List, [], length, Option, Some, None, refl, reverse, sym, subst, arith}
use Rattle.hd_delivery.specs.declared.vocabulary.Side.TheVariants.{Client, Server}
use Rattle.hd_delivery.specs.Histories.{EndEvent, fed_frames, taken_count}
use Rattle.hd_delivery.specs.Worlds.{config, alike, client_of, server_of}
use Rattle.hd_delivery.specs.Bytes.{in_frames, StillOverBytes}
use Rattle.hd_delivery.specs.Examples.{a, usual, terms}
use Rattle.hd_delivery.specs.ExamplesOverBytes.{acknowledged_over_bytes, four}
use Rattle.hd_trace.specs.declared.trace.ToldStep.TheVariants.{Send}
use Rattle.hd_trace.specs.Traces.{TellWorld}
use Rattle.hd_trace.specs.Alone.{TellHistory}
use Rattle.hd_trace.specs.Recording.{lines_of, lines_alone, AllCanBeTold, AllCanBeToldAlone}
use Rattle.hd_trace.specs.Laws.{AreNamedAlone}
use Rattle.hd_trace.specs.Examples.{setup, ack_unread, unread_lines, server_lines}
use Rattle.hd_trace.proofs.worked.verdicts.Goals as goal

-- the client took one frame of two
unstill : StillOverBytes four (config Client (terms 2 true)) (config Server (terms 2 true)) (client_of (reverse ack_unread)) (server_of (reverse ack_unread)) → false ≡ true
unstill s =
    let client : List EndEvent = in_frames four (config Client (terms 2 true)) (client_of (reverse ack_unread)) in
    let h = s.client_here in
    let z : Some 0 ≡ Some s.link = h in
    let same : 0 ≡ s.link = cc in
    let all : taken_count 0 client ≡ length (fed_frames 0 client) = subst (λ l. taken_count l client ≡ length (fed_frames l client)) (sym same) s.client_taken in
    let few : 1 ≡ 2 = all in
    absurd (omega (arith, few))

pub returns-clause-still : goal.returns-clause-still
returns-clause-still c = (
  reverse acknowledged_over_bytes,
  (c.a_session.ensures.told, record { of_client = refl; of_server = refl; is_still = (λ e. c.worked_over_bytes.ensures.still, λ s. refl) }),
)

pub returns-clause-unread : goal.returns-clause-unread
returns-clause-unread c =
    let lines : lines_of setup (reverse ack_unread) ≡ reverse (unread_lines (Send a)) = refl in
    let can : AllCanBeTold setup (reverse ack_unread) = ((((((((((((((tt, refl), tt), refl), tt), tt), tt), tt), tt), tt), tt), tt), tt), tt), tt) in
    let is_world = c.worked_over_bytes.ensures.acknowledged.is_world in (
      reverse ack_unread,
      (
        subst (λ ls. TellWorld setup ls (reverse ack_unread)) lines (c.records_tell.ensures setup (reverse ack_unread) is_world.0 can),
        record { of_client = refl; of_server = refl; is_still = (λ e. absurd (let z : false ≡ true = e in cc), λ s. unstill s) },
      ),
    )

pub returns-clause-none : goal.returns-clause-none
returns-clause-none c = (
  [],
  (
    refl,
    record {
      of_client = refl;
      of_server = refl;
      is_still = (
        λ e. absurd (let z : false ≡ true = e in cc),
        λ s. absurd (let h = s.client_here in let z : ◌≡◌ {A = Option ℕ} None (Some s.link) = h in cc),
      );
    },
  ),
)

pub returns-clause-breaks : goal.returns-clause-breaks
returns-clause-breaks c = c.first_lines.ensures.first

pub returns-clause-alone : goal.returns-clause-alone
returns-clause-alone c =
    let lines : lines_alone setup Server (server_of (reverse acknowledged_over_bytes)) ≡ reverse server_lines = refl in
    let named : AreNamedAlone setup Server (server_of (reverse acknowledged_over_bytes)) = (((((((tt, tt), tt), tt), tt), tt), tt), tt) in
    let can : AllCanBeToldAlone setup Server (server_of (reverse acknowledged_over_bytes)) = (((((((tt, refl), tt), tt), tt), tt), tt), tt) in
    let own = (c.worlds_are_histories.ensures (alike usual) four (terms 2 true) (reverse acknowledged_over_bytes) c.worked_over_bytes.ensures.acknowledged.is_world).1 in (
      server_of (reverse acknowledged_over_bytes),
      (
        subst (λ ls. TellHistory setup Server ls (server_of (reverse acknowledged_over_bytes))) lines
            (c.records_tell_alone.ensures setup Server (server_of (reverse acknowledged_over_bytes)) own named can),
        refl,
      ),
    )
