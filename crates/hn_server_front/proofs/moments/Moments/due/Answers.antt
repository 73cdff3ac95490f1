use Rattle.std.proofs.Common.{◌≡◌, ◌∙◌, Bool, sym, true, false, ap, filter, rules, take}
use Rattle.std.specs.List.Sorted.{IsPartitionPoint}
use Rattle.std.proofs.lemmas.List.Sorted.{IsPartitionPoint-from_clause}
use Rattle.hn_server_front.specs.Moments.{is_due}
use Rattle.hn_server_front.specs.declared.moments.Waiting.{Waiting}
use Rattle.hn_server_front.proofs.Passing.{due_first, filter_taken}
use Rattle.hn_server_front.proofs.moments.Moments.due.Goals as goal

pub returns : goal.returns
returns c = λ o.
    let due : Waiting → Bool = λ w. is_due c.args.self.now.lasts c.args.now w in
    let first = due_first c.args.self.now.lasts c.args.now c.args.self.now.waiting.items c.deref.result.now c.deref.ensures.value o in
    let point : IsPartitionPoint (λ (w : Waiting). due w ≡ true) (λ (w : Waiting). due w ≡ false) c.deref.result.now c.partition_point-past.result =
    IsPartitionPoint-from_clause due c.deref.result.now c.partition_point-past.result c.partition_point-past.ensures.partitioned first
    (λ a r q k. search rules) in
    ap (λ ws. take c.partition_point-past.result ws) (c.deref-2.ensures.value ∙ sym c.deref.ensures.value)
    ∙ (filter_taken due c.deref.result.now c.partition_point-past.result point ∙ ap (λ ws. filter due ws) c.deref.ensures.value)
