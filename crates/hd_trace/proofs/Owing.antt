-- One thing that is owed after another.
use Rattle.std.proofs.Common.{◌≡◌, ℕ, Bool, true, false, Option, Some, None, refl, sym, ap, ◌∙◌}
use Rattle.std.specs.Prelude.{List, is_some, not, if◌then◌else◌}
use Rattle.std.specs.Option.{option_or}
use Rattle.hm_message.specs.declared.message.Message.{Message}
use Rattle.hd_delivery.specs.Frames.{LinkFrame}
use Rattle.hd_delivery.specs.Histories.{Config, first_of}
use Rattle.hd_trace.specs.declared.owed.Owed.{Owed}
use Rattle.hd_trace.specs.Owed.{IsOwed, owed_frame}
use Rattle.hd_trace.specs.declared.marks.Marks.{Marks}
use Rattle.hd_trace.specs.ByMarks.{due_by, due_there_by, opening_by, sequence_by, ack_by, message_by, ping_by, close_by}

pub or_owed : (c : Config) (next : Option Message) (f g : Option LinkFrame) (x y z : Option Owed) → z ≡ option_or x y → IsOwed c next x f → IsOwed c next y g → IsOwed c next z (first_of f g)
or_owed c next f g x y z e h i = go f x h (sym e)
  where
    go : (f : Option LinkFrame) (x : Option Owed) → IsOwed c next x f → option_or x y ≡ z → IsOwed c next z (first_of f g)
    go None None h e = (i.0 ∙ ap (owed_frame c next) e, i.1 ∙ ap is_some e)
    go None (Some x) h e = absurd (let z : false ≡ true = h.1 in cc)
    go (Some f) None h e = absurd (let z : true ≡ false = h.1 in cc)
    go (Some f) (Some x) h e = (h.0 ∙ ap (owed_frame c next) e, ap is_some e)

pub in_order : (s a m p z : Option LinkFrame) → first_of (first_of (first_of (first_of s a) m) p) z ≡ first_of s (first_of a (first_of m (first_of p z)))
in_order (Some f) a m p z = refl
in_order None (Some f) m p z = refl
in_order None None (Some f) p z = refl
in_order None None None p z = refl

pub opened : (b : Bool) → not b ≡ false → b ≡ true
opened true e = refl
opened false e = absurd (cc)

unopened : (b : Bool) → not b ≡ true → b ≡ false
unopened true e = absurd (cc)
unopened false e = refl

-- on a link that was opened, and on one that wasn't
pub later_due : (c : Config) (m : Marks) (sent : List Message) (l : ℕ) → m.link ≡ Some l → not m.opened ≡ false
    → due_by c m sent ≡ first_of (first_of (first_of (first_of (sequence_by m sent) (ack_by m)) (message_by m sent l)) (ping_by m)) (close_by m)
later_due c m sent l at on = ap (due_there_by c m sent) at
    ∙ (ap (λ b. if b then first_of (sequence_by m sent) (first_of (ack_by m) (first_of (message_by m sent l) (first_of (ping_by m) (close_by m)))) else opening_by c m l) (opened m.opened on)
    ∙ sym (in_order (sequence_by m sent) (ack_by m) (message_by m sent l) (ping_by m) (close_by m)))

pub first_due : (c : Config) (m : Marks) (sent : List Message) (l : ℕ) → m.link ≡ Some l → not m.opened ≡ true → due_by c m sent ≡ opening_by c m l
first_due c m sent l at off = ap (due_there_by c m sent) at
    ∙ ap (λ b. if b then first_of (sequence_by m sent) (first_of (ack_by m) (first_of (message_by m sent l) (first_of (ping_by m) (close_by m)))) else opening_by c m l) (unopened m.opened off)
