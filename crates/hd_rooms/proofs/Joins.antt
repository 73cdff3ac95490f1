-- A keeper's answers in order: two lists one after the other, and what they add.
use Rattle.std.proofs.Common.{◌≡◌, ℕ, List, [], ◌∷◌, ◌++◌, Option, Some, None, true, refl, sym, ◌∙◌, ap, subst, append_assoc}
use Rattle.std.proofs.lemmas.List.{append-nil}
use Rattle.hd_rooms.specs.declared.vocabulary.Asked.TheVariants.{Log, AddUser}
use Rattle.hd_rooms.specs.declared.vocabulary.Asked.{Asked}
use Rattle.hd_rooms.specs.Kept.{Content, Leads, KeeperDid, CountsFaults, kept_after, logged, logged_by, added, added_by}
use Rattle.hd_rooms.specs.KeptLaws.{HoldsWhatWasAdded}

leads_join : (a b c : Content) (xs ys : List Asked) → Leads a xs b → Leads b ys c → Leads a (xs ++ ys) c
leads_join a b c [] ys p q = subst (λ (k : Content). Leads k ys c) p q
leads_join a b c (ask ∷ asks) ys p q = (p.0, leads_join (kept_after ask a) b c asks ys p.1 q)

pub did_join : (a b c : Option Content) (xs ys : List Asked) → KeeperDid a xs b → KeeperDid b ys c → KeeperDid a (xs ++ ys) c
did_join None None None xs ys p q = tt
did_join None None (Some c) xs ys p q = absurd q
did_join None (Some b) c xs ys p q = absurd p
did_join (Some a) None c xs ys p q = absurd p
did_join (Some a) (Some b) None xs ys p q = absurd q
did_join (Some a) (Some b) (Some c) xs ys p q = leads_join a b c xs ys p q

pub faults_join : (k m n : ℕ) (xs ys : List Asked) → CountsFaults k xs m → CountsFaults m ys n → CountsFaults k (xs ++ ys) n
faults_join k m n [] ys p q = subst (λ (i : ℕ). CountsFaults i ys n) p q
faults_join k m n (ask ∷ asks) ys p q = (p.0, p.1, faults_join p.0 m n asks ys p.2 q)

rows_after : (ask : Asked) (kept : Content) → (kept_after ask kept).rows ≡ kept.rows ++ logged_by ask
rows_after (Log room who text true) kept = refl
rows_after (AddUser token name (Some true)) kept = sym (append-nil kept.rows)
rows_after _ kept = sym (append-nil kept.rows)

users_after : (ask : Asked) (kept : Content) → (kept_after ask kept).users ≡ kept.users ++ added_by ask
users_after (Log room who text true) kept = sym (append-nil kept.users)
users_after (AddUser token name (Some true)) kept = refl
users_after _ kept = sym (append-nil kept.users)

pub holds_what_was_added : (before now : Content) (asks : List Asked) → Leads before asks now → HoldsWhatWasAdded before now asks
holds_what_was_added before now [] e = record {
  rows = ap (λ (kept : Content). kept.rows) e ∙ sym (append-nil before.rows);
  users = ap (λ (kept : Content). kept.users) e ∙ sym (append-nil before.users);
}
holds_what_was_added before now (ask ∷ asks) p =
    let rest = holds_what_was_added (kept_after ask before) now asks p.1 in
    record {
      rows = rest.rows ∙ ap (λ rows. rows ++ logged asks) (rows_after ask before) ∙ append_assoc before.rows (logged_by ask) (logged asks);
      users = rest.users ∙ ap (λ users. users ++ added asks) (users_after ask before) ∙ append_assoc before.users (added_by ask) (added asks);
    }
