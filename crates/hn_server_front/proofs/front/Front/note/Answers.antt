use Rattle.std.proofs.Common.{◌∷◌, sym, ap, refl, is_some, subst, ◌∙◌}
use Rattle.hn_server_front.specs.Entries.{note_of, Remembers}
use Rattle.hn_server_front.specs.Stands.{Stands, IsEntryOf}
use Rattle.hn_server_front.proofs.Noting.{noted_follows, no_bool, stands_gone, stands_kept, still_gone}
use Rattle.hn_server_front.proofs.front.Front.note.Goals as goal

pub returns-in_default : goal.returns-in_default
returns-in_default c = λ h s.
    let f = c.args.self.now in
    let k = c.args.conn in
    let g = note_of k c.args.noted ∷ h in
    let none = sym c.in_default.ensures.value in
    let same = sym c.get_mut.follows.holds-at-none in (
      (λ there. subst (λ m. Stands (record { live = f.live; made = f.made; entries = m; tokens = f.tokens; moments = f.moments; polls = f.polls }) g) same
          (stands_gone f k g h (noted_follows k c.args.noted h) s none there (still_gone k c.args.noted h))),
      (λ unmade. subst (λ m. Stands (record { live = f.live; made = f.made; entries = m; tokens = f.tokens; moments = f.moments; polls = f.polls }) h) same s),
      refl,
    )

pub returns : goal.returns
returns c = λ h s.
    let f = c.args.self.now in
    let k = c.args.conn in
    let g = note_of k c.args.noted ∷ h in
    let r : Remembers c.in-Some.entry.now k h = subst (λ o. IsEntryOf o k h) (sym c.in-Some.ensures.value) (s.entries k) in
    let q = c.note.ensures.noted k h r in
    let through = c.get_mut.follows.holds c.note.new.self in
    let changed = c.change.ensures in
    let held = c.change-2.ensures in (
      (λ there. stands_kept f _ k g h (noted_follows k c.args.noted h) s c.in-Some.entry.now c.note.new.self r q refl
          (through.3 (sym (ap is_some c.in-Some.ensures.value))).0 through.2 refl
          c.since-before.result c.since-after.result (c.since-before.ensures k h r) (c.since-after.ensures k g q)
          (record { changed = changed.changed; others = changed.others; order = changed.order; lasts = changed.lasts; capacity = changed.capacity })
          c.held_since-held_before.result c.held_since-held_after.result
          (c.held_since-held_before.ensures k h r) (c.held_since-held_after.ensures k g q)
          (record { changed = held.changed; others = held.others; order = held.order; lasts = held.lasts; capacity = held.capacity })),
      (λ unmade. no_bool (sym unmade ∙ r.there)),
      refl,
    )
