-- The texts of what a client prints, and the lines of several moves.
use Rattle.std.specs.Prelude.{ℕ, List, [], ◌∷◌, ◌++◌, codes}
use Rattle.hv_value.specs.Tree as tree
use Rattle.hv_value.specs.View as view
use Rattle.hv_json.specs.Writing.{json_text}
use Rattle.hd_delivery.specs.declared.vocabulary.Got.TheVariants as gives
use Rattle.hd_calls.specs.Hubs.{Notify}
use Rattle.hd_calls.specs.Peers.{PeerEvent, Settings}
use Rattle.hp_peer.specs.declared.did.Did.{Did}
use Rattle.hp_peer.specs.declared.did.Did.TheVariants as did
use Rattle.hd_client.specs.Setups.{Words}
use Rattle.hd_client.specs.Printed.{line, counted, closed_words, ending_words, got_line, move_line}

-- values, texts and lists are printed as JSON (RFC 8259)
abbrev pub json_words : Words
json_words = record {
  value = λ v. json_text (view.tree v);
  text = λ bytes. json_text (tree.text bytes);
  list = λ ts. json_text (tree.list (tree.trees ts));
}

-- the lines of these moves, the latest of which comes first, after others
abbrev pub lines_of : Words → Settings → List PeerEvent → List PeerEvent → List ℕ
lines_of w t [] h = []
lines_of w t (m ∷ ms) h = lines_of w t ms h ++ move_line w t (ms ++ h) m

-- the line of what one take told: most have none
abbrev pub told_line : Words → Did → List ℕ
told_line w (did.Began job id target arguments) = got_line w (record { way = Notify; target = target; arguments = arguments; streams = [] })
told_line w (did.Item call value) = line (counted (codes "item") call ++ (codes " " ++ w.value value))
told_line w (did.Ended call ending) = line (counted (codes "ended") call ++ (codes " " ++ ending_words w ending))
told_line w (did.Other (gives.Shaken codec version)) = line (codes "shaken")
told_line w (did.Other (gives.Closed error allow)) = line (closed_words w error)
told_line w _ = []
