use Rattle.std.proofs.Common.{◌≡◌, ℕ, true, false, [], ◌∷◌, ◌++◌, Some, None, sym, ap, ◌∙◌, append_assoc, append-nil, if◌then◌else◌}
use Rattle.hn_server_front.specs.declared.entry.Entry.{Entry}
use Rattle.hn_server_front.proofs.Fresh.{is_unused, least_is_first, least_unused, less_of, met, one_more}
use Rattle.hn_server_front.proofs.front.Front.first_fresh.Goals as goal

pub loop-conn-preserved-then-is_unused : goal.loop-conn-preserved-then-is_unused
loop-conn-preserved-then-is_unused c =
    let l = c.loop-conn in
    let now = c.args.now in
    let conn = c.in-Some.conn.now in
    let done = l.invariant.0 in
    let e : ℕ × Entry = (conn, c.in-Some.entry.now) in
    let left = c.next.new.self in
    let all : c.args.self.now.entries.entries ≡ done ++ e ∷ left = l.invariant.1 ∙ ap (λ es. done ++ es) c.in-Some.ensures.steps in (
      done ++ e ∷ [],
      all ∙ sym (append_assoc done (e ∷ []) left),
      λ h s.
          let remembers = met c.args.self.now h now s done left conn c.in-Some.entry.now all c.iter-conn-items.ensures.unique in
          let unused : is_unused now h conn ≡ true = sym (c.is_unused.ensures conn h remembers) ∙ c.if-is_unused.true in
          ap Some c.lesser.ensures ∙ ap (λ o. less_of o conn) (l.invariant.2 h s)
          ∙ sym (one_more now h done e
          ∙ ap (λ b. if b then less_of (least_unused now h None done) conn else least_unused now h None done) unused),
    )

pub loop-conn-preserved : goal.loop-conn-preserved
loop-conn-preserved c =
    let l = c.loop-conn in
    let now = c.args.now in
    let conn = c.in-Some.conn.now in
    let done = l.invariant.0 in
    let e : ℕ × Entry = (conn, c.in-Some.entry.now) in
    let left = c.next.new.self in
    let all : c.args.self.now.entries.entries ≡ done ++ e ∷ left = l.invariant.1 ∙ ap (λ es. done ++ es) c.in-Some.ensures.steps in (
      done ++ e ∷ [],
      all ∙ sym (append_assoc done (e ∷ []) left),
      λ h s.
          let remembers = met c.args.self.now h now s done left conn c.in-Some.entry.now all c.iter-conn-items.ensures.unique in
          let used : is_unused now h conn ≡ false = sym (c.is_unused.ensures conn h remembers) ∙ c.if-is_unused.false in
          l.invariant.2 h s
          ∙ sym (one_more now h done e
          ∙ ap (λ b. if b then less_of (least_unused now h None done) conn else least_unused now h None done) used),
    )

pub returns : goal.returns
returns c = λ h s.
    let l = c.loop-conn in
    let done = l.invariant.0 in
    let all : c.args.self.now.entries.entries ≡ done = l.invariant.1 ∙ ap (λ es. done ++ es) c.in-None.ensures.steps.0 ∙ append-nil done in
    l.invariant.2 h s ∙ ap (λ es. least_unused c.args.now h None es) (sym all) ∙ sym (least_is_first c.args.self.now h c.args.now s)
