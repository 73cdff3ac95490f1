-- What crates above cite of a keeper's answers.
use Rattle.std.specs.Prelude.{◌≡◌, ℕ, List, ◌++◌, Option}
use Rattle.hd_rooms.specs.declared.vocabulary.Asked.{Asked}
use Rattle.hd_rooms.specs.Kept.{Content, Leads, KeeperDid, CountsFaults, logged, added}

-- what two lists of answers lead to one after the other, their concatenation leads to
pub record AnswersJoin : Type 0 where
  pub kept : (a b c : Option Content) (xs ys : List Asked) → KeeperDid a xs b → KeeperDid b ys c → KeeperDid a (xs ++ ys) c
  pub faults : (k m n : ℕ) (xs ys : List Asked) → CountsFaults k xs m → CountsFaults m ys n → CountsFaults k (xs ++ ys) n

-- a keeper holds what it held and, after that, the rows that were logged and the users that were added, each in order
pub record HoldsWhatWasAdded (before now : Content) (asks : List Asked) : Type 0 where
  pub rows : now.rows ≡ before.rows ++ logged asks
  pub users : now.users ≡ before.users ++ added asks

-- so it is wherever right answers lead
abbrev pub AnswersAdd : Type 0
AnswersAdd = (before now : Content) (asks : List Asked) → Leads before asks now → HoldsWhatWasAdded before now asks
