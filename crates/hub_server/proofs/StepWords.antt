-- One word more is said.
use Rattle.std.proofs.Common.{ℕ, zero, suc, List, [], ◌∷◌, ◌++◌, take}
use Rattle.hd_server.specs.declared.vocabulary.Said.{Said}
use Rattle.hd_server.specs.declared.vocabulary.Said.TheVariants as say
use Rattle.hub_server.specs.Words.{AreReplies}

pub replies_append : (words more : List Said) → AreReplies words → AreReplies more → AreReplies (words ++ more)
replies_append [] more a b = b
replies_append (say.Reply lane reply ∷ words) more a b = (a.0, replies_append words more a.1 b)
replies_append (say.Bytes lane bytes text ∷ words) more a b = replies_append words more a b
replies_append (say.Shut lane ∷ words) more a b = replies_append words more a b

pub replies_take : (n : ℕ) (words : List Said) → AreReplies words → AreReplies (take n words)
replies_take zero words a = tt
replies_take (suc n) [] a = tt
replies_take (suc n) (say.Reply lane reply ∷ words) a = (a.0, replies_take n words a.1)
replies_take (suc n) (say.Bytes lane bytes text ∷ words) a = replies_take n words a
replies_take (suc n) (say.Shut lane ∷ words) a = replies_take n words a
