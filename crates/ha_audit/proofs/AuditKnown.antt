-- What is known of a world that is kept.
use Rattle.std.proofs.Common.{⊎_elim, ◌≡◌, List, ◌∷◌, ◌++◌, refl, sym, ap, ◌∙◌, subst}
use Rattle.std.proofs.lemmas.List.Elements.{Contains-append_cases}
use Rattle.hm_message.specs.declared.message.Codec.{Codec}
use Rattle.hm_message.specs.declared.message.Message.{Message}
use Rattle.hd_delivery.specs.declared.vocabulary.Side.{Side}
use Rattle.hd_delivery.specs.declared.vocabulary.Side.TheVariants.{Client, Server}
use Rattle.hd_delivery.specs.Histories.{sent_messages}
use Rattle.hd_delivery.specs.HistoryLaws.{WorldsAreHistories, HistoryFacts, FactsHold}
use Rattle.hd_delivery.specs.Worlds.{config, Event, alike}
use Rattle.hd_delivery.specs.Bytes.{ByteStep}
use Rattle.hd_delivery.specs.OneHistory.{IsHistory}
use Rattle.hd_delivery.specs.Sides.{other, by, history}
use Rattle.he_wire.specs.Laws.{WireIsSound, WireIsFaithful}
use Rattle.he_wire.specs.Wires.{AreSaid}
use Rattle.hd_trace.specs.declared.trace.TraceLine.{TraceLine}
use Rattle.hd_trace.specs.Traces.{Setup, clock, clock_after, steps_of, frames_beside, MakesAt}
use Rattle.hd_trace.specs.Laws.{ToldIsWorld}
use Rattle.ha_audit.specs.declared.auditor.Audit.{Audit}
use Rattle.ha_audit.specs.AuditKeeps.{IsBegunSo, KeepsEnd, Keeps, end_of}
use Rattle.ha_audit.specs.AuditLaws.{Known}

-- ---- the next world

-- what is kept of each end after a step of one of them
ends_on : (x : Setup) (side t : Side) (a b : Audit) (w : List (Event ByteStep)) (s : ByteStep) → ((t : Side) → KeepsEnd x t (end_of t a) (history t w))
    → end_of (other side) b ≡ end_of (other side) a → KeepsEnd x side (end_of side b) (s ∷ history side w) → KeepsEnd x t (end_of t b) (history t (by side s ∷ w))
ends_on x Client Client a b w s before same here = here
ends_on x Client Server a b w s before same here = subst (λ e. KeepsEnd x Server e (history Server w)) (sym same) (before Server)
ends_on x Server Client a b w s before same here = subst (λ e. KeepsEnd x Client e (history Client w)) (sym same) (before Client)
ends_on x Server Server a b w s before same here = here

-- the world that goes on with a step is kept
pub keeps_on : (x : Setup) (lines : List TraceLine) (line : TraceLine) (a b : Audit) (w : List (Event ByteStep)) (s : ByteStep) → Keeps x lines a w
    → MakesAt x line.side w (clock (steps_of lines)) line.step s → b.head ≡ a.head → b.clock ≡ clock_after line.step a.clock
    → end_of (other line.side) b ≡ end_of (other line.side) a → KeepsEnd x line.side (end_of line.side b) (s ∷ history line.side w)
    → Keeps x (line ∷ lines) b (by line.side s ∷ w)
keeps_on x lines line a b w s keeps makes head ticks same here = record {
  begun = subst (IsBegunSo x) (sym head) keeps.begun;
  tells = (w, s, (keeps.tells, makes, refl));
  clock_is = ticks ∙ ap (clock_after line.step) keeps.clock_is;
  ends = λ t. ends_on x line.side t a b w s keeps.ends same here;
}

-- ---- laws of it

all_said : (codec : Codec) (ms ns : List Message) → AreSaid codec ms → AreSaid codec ns → AreSaid codec (ms ++ ns)
all_said codec ms ns p q m at = ⊎_elim (p m) (q m) (Contains-append_cases ms ns m at)

pub known : ToldIsWorld → WorldsAreHistories → FactsHold → WireIsSound → WireIsFaithful → (x : Setup) (lines : List TraceLine) (a : Audit) (w : List (Event ByteStep))
    → Keeps x lines a w → Known x lines w
known told histories facts sound faithful x lines a w keeps =
    let world = told x lines w keeps.tells in
    let both = histories (alike x.limits) x.wire x.terms w world.is_world in record {
      told = world;
      sound = sound x.limits x.wire keeps.begun.is_wire;
      faithful = record {
        faithful = faithful x.limits x.wire x.terms.codec x.terms.version (sent_messages (frames_beside x Client w) ++ sent_messages (frames_beside x Server w))
            keeps.begun.in_range.frame_not_less keeps.begun.is_version
            (all_said x.terms.codec (sent_messages (frames_beside x Client w)) (sent_messages (frames_beside x Server w)) (keeps.ends Client).sent.are_said (keeps.ends Server).sent.are_said)
            keeps.begun.is_wire;
        is_world = world.is_world;
      };
      facts = of both;
    }
  where
    of : (IsHistory x.limits x.wire (config Client x.terms) (history Client w) × IsHistory x.limits x.wire (config Server x.terms) (history Server w))
        → (side : Side) → HistoryFacts (config side x.terms) (frames_beside x side w)
    of both Client = facts x.limits x.wire (config Client x.terms) (history Client w) both.0
    of both Server = facts x.limits x.wire (config Server x.terms) (history Server w) both.1
