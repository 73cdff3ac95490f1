use Rattle.hm_json.proofs.calls.read_properties.Goals as goal

pub returns-in_default : goal.returns-in_default
returns-in_default c =
    let kept = c.members.invariant in
    let end = rw c.in_default.is at c.in_ok-name.ensures.end in
    (kept.2, kept.4, end c.args.frame.now kept.0 kept.2 kept.1 kept.3)
