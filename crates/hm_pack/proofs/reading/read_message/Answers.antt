use Rattle.std.proofs.Common.{◌≤◌, arith}
use Rattle.hv_value.specs.Tree.{depth}
use Rattle.hv_value.specs.View.{tree, trees_of}
use Rattle.hm_message.specs.Message.{Fits}
use Rattle.hm_message.specs.declared.message.Message.{Message}
use Rattle.hm_pack.proofs.Faults.{why_of_elements, message_of_frame, refusal_of_frame}
use Rattle.hm_pack.proofs.Depths.{read_fits}
use Rattle.hm_pack.proofs.Frames.{whole_frame}
use Rattle.hm_pack.specs.Says.{IsMessage, IsFaulty, Says, Why}
use Rattle.hm_pack.specs.declared.refusal.PackRefusal.{PackRefusal}
use Rattle.hm_pack.proofs.reading.read_message.Goals as goal

pub returns-clause-message : goal.returns-clause-message
returns-clause-message c =
    let frame = c.args.frame.now in
    let ts = trees_of c.in_ok-array.array.items in
    let whole = rw c.in_ok-array.ensures.ok at (whole_frame frame (tree c.in_ok-value.value) c.in_ok-value.end c.in_ok-value.ensures.found c.if-end-frame.false) in
    let deep : depth (tree c.in_ok-value.value) ≤ 64 = omega (arith, c.depth.ensures.exact, c.depth.ensures.bound) in
    message_of_frame c.read_elements.result (IsMessage ts) (λ m. Says frame m × Fits m)
    (λ (m : Message) (h : IsMessage ts m). ((ts, (whole, h)), read_fits c.values_are_trees.ensures ts m (rw c.in_ok-array.ensures.ok at deep) h.1)) c.read_elements.ensures.message

pub returns-clause-refused : goal.returns-clause-refused
returns-clause-refused c =
    let frame = c.args.frame.now in
    let ts = trees_of c.in_ok-array.array.items in
    let whole = rw c.in_ok-array.ensures.ok at (whole_frame frame (tree c.in_ok-value.value) c.in_ok-value.end c.in_ok-value.ensures.found c.if-end-frame.false) in
    refusal_of_frame c.read_elements.result (IsFaulty ts) (Why frame) (λ (e : PackRefusal). why_of_elements frame ts e whole) c.read_elements.ensures.refused
