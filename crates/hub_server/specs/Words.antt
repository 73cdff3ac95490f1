-- What a server says.
use Rattle.std.specs.Prelude.{ℕ, Bool, List, [], ◌∷◌, if◌then◌else◌}
use Rattle.hw_lanes.specs.declared.http.Reply.{Reply}
use Rattle.hw_lanes.specs.Replies.{IsReply}
use Rattle.hd_server.specs.declared.vocabulary.Said.{Said}
use Rattle.hd_server.specs.declared.vocabulary.Said.TheVariants as say

-- all replies that are said are such that a door takes them
abbrev pub AreReplies : List Said → Type 0
AreReplies [] = Unit {0}
AreReplies (say.Reply lane reply ∷ words) = IsReply reply × AreReplies words
AreReplies (_ ∷ words) = AreReplies words

-- a reply that tells whether its lane ends after it, and that end
abbrev pub reply_and_end : ℕ → Reply → Bool → List Said
reply_and_end lane reply ends = say.Reply lane (record reply { close = ends }) ∷ (if ends then say.Shut lane ∷ [] else [])
