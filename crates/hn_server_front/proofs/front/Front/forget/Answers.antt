use Rattle.std.proofs.Common.{◌≡◌, true, ◌∷◌, sym, ap, refl, subst, ◌∙◌}
use Rattle.hd_server.specs.Lives.{Removed, is_made}
use Rattle.hn_server_front.specs.Entries.{Remembers, text_told}
use Rattle.hn_server_front.specs.Stands.{IsEntryOf}
use Rattle.hn_server_front.proofs.Noting.{removed, let_go_follows, no_bool, stands_gone, stands_same, stands_without, tokens_with, tokens_without}
use Rattle.hn_server_front.proofs.front.Front.forget.Goals as goal

pub returns-in_default : goal.returns-in_default
returns-in_default c = λ h s.
    let f = c.args.self.now in
    let k = c.args.conn in
    let none = sym c.in_default.ensures.value in
    let gone = λ (there : is_made k h ≡ true). stands_gone f k (Removed k ∷ h) h (let_go_follows k h) s none there (λ _. removed k h) in (
      (λ there. stands_same f _ (Removed k ∷ h) refl c.in_default.ensures.unchanged refl refl refl (gone there)),
      (λ unmade. stands_same f _ h refl c.in_default.ensures.unchanged refl refl refl s),
      refl,
    )

pub returns-in-Some-told : goal.returns-in-Some-told
returns-in-Some-told c = λ h s.
    let f = c.args.self.now in
    let k = c.args.conn in
    let e = c.in-Some.entry in
    let r : Remembers e k h = subst (λ o. IsEntryOf o k h) (sym c.in-Some.ensures.value) (s.entries k) in
    let changed = c.change.ensures in
    let held = c.change-2.ensures in (
      (λ there. stands_without f _ k h e s r refl c.swap_remove.ensures.updates.0 c.in-Some.ensures.len
          (λ token. (rw c.in-Some-told.told-is at (c.remove.ensures.updates.0 token))
          ∙ tokens_without f k h e s r c.in-Some-told.told.token (ap text_told c.in-Some-told.is) token)
          c.since.result (c.since.ensures k h r)
          (record { changed = changed.changed; others = changed.others; order = changed.order; lasts = changed.lasts; capacity = changed.capacity })
          c.held_since.result (c.held_since.ensures k h r)
          (record { changed = held.changed; others = held.others; order = held.order; lasts = held.lasts; capacity = held.capacity })),
      (λ unmade. no_bool (sym unmade ∙ r.there)),
      refl,
    )

pub returns-in_default-told : goal.returns-in_default-told
returns-in_default-told c = λ h s.
    let f = c.args.self.now in
    let k = c.args.conn in
    let e = c.in-Some.entry in
    let r : Remembers e k h = subst (λ o. IsEntryOf o k h) (sym c.in-Some.ensures.value) (s.entries k) in
    let changed = c.change.ensures in
    let held = c.change-2.ensures in (
      (λ there. stands_without f _ k h e s r refl c.swap_remove.ensures.updates.0 c.in-Some.ensures.len
          (tokens_with f k h e s r (ap text_told c.in_default-told.is))
          c.since.result (c.since.ensures k h r)
          (record { changed = changed.changed; others = changed.others; order = changed.order; lasts = changed.lasts; capacity = changed.capacity })
          c.held_since.result (c.held_since.ensures k h r)
          (record { changed = held.changed; others = held.others; order = held.order; lasts = held.lasts; capacity = held.capacity })),
      (λ unmade. no_bool (sym unmade ∙ r.there)),
      refl,
    )
