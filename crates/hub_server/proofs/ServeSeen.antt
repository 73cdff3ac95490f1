-- What a door answers to messages: to one list after another, and what that leaves as it was.
use Rattle.std.proofs.Common.{◌≡◌, ℕ, Bool, List, [], ◌∷◌, ◌++◌, length, arith, refl, ap, ◌∙◌}
use Rattle.std.proofs.lemmas.List.{length-append}
use Rattle.hw_door.specs.declared.heard.Given.{Given}
use Rattle.hw_door.specs.declared.heard.Given.TheVariants as give
use Rattle.hd_server.specs.Doings.{ServerEvent, Sees, asked, draws, moment}
use Rattle.hd_server.specs.Serves.{lanes_sent, seeing}
use Rattle.hub_server.specs.Steps.{Outside, OutsideFollows}

-- ---- one list after another

lanes_append : (xs ys : List Given) → lanes_sent (xs ++ ys) ≡ lanes_sent xs ++ lanes_sent ys
lanes_append [] ys = refl
lanes_append (give.Reply lane reply ∷ xs) ys = lanes_append xs ys
lanes_append (give.Bytes lane bytes text ∷ xs) ys = ap (λ l. lane ∷ l) (lanes_append xs ys)
lanes_append (give.Shut lane ∷ xs) ys = lanes_append xs ys
lanes_append (give.Ask lane place method target upgrade ∷ xs) ys = lanes_append xs ys

seeing_append : (ls ms : List ℕ) (xs ys : List Bool) (h : List ServerEvent) → length xs ≡ length ls
    → seeing (ls ++ ms) (xs ++ ys) h ≡ seeing ms ys (seeing ls xs h)
seeing_append [] ms [] ys h e = refl
seeing_append [] ms (x ∷ xs) ys h e = absurd (omega (arith, e))
seeing_append (l ∷ ls) ms [] ys h e = absurd (omega (arith, e))
seeing_append (l ∷ ls) ms (x ∷ xs) ys h e = seeing_append ls ms xs ys (Sees l x ∷ h) (omega (arith, e))

-- what was answered to all of it is seen one after the other
pub seen_then : (xs ys : List Given) (fs ks : List Bool) (h : List ServerEvent) → length fs ≡ length (lanes_sent xs)
    → seeing (lanes_sent (xs ++ ys)) (fs ++ ks) h ≡ seeing (lanes_sent ys) ks (seeing (lanes_sent xs) fs h)
seen_then xs ys fs ks h e =
    ap (λ l. seeing l (fs ++ ks) h) (lanes_append xs ys) ∙ seeing_append (lanes_sent xs) (lanes_sent ys) fs ks h e

-- one answer to each message of both
pub each_then : (xs ys : List Given) (fs ks : List Bool) → length fs ≡ length (lanes_sent xs) → length ks ≡ length (lanes_sent ys)
    → length (fs ++ ks) ≡ length (lanes_sent (xs ++ ys))
each_then xs ys fs ks e f =
    let l = length-append fs ks in
    let m = length-append (lanes_sent xs) (lanes_sent ys) in
    let n = ap (λ l. length l) (lanes_append xs ys) in
    omega (arith, e, f, l, m, n)

-- ---- what stays

pub moment_seen : (ls : List ℕ) (fs : List Bool) (h : List ServerEvent) → moment (seeing ls fs h) ≡ moment h
moment_seen [] fs h = refl
moment_seen (l ∷ ls) [] h = refl
moment_seen (l ∷ ls) (f ∷ fs) h = moment_seen ls fs (Sees l f ∷ h)

asked_seen : (ls : List ℕ) (fs : List Bool) (h : List ServerEvent) → asked (seeing ls fs h) ≡ asked h
asked_seen [] fs h = refl
asked_seen (l ∷ ls) [] h = refl
asked_seen (l ∷ ls) (f ∷ fs) h = asked_seen ls fs (Sees l f ∷ h)

draws_seen : (ls : List ℕ) (fs : List Bool) (h : List ServerEvent) → draws (seeing ls fs h) ≡ draws h
draws_seen [] fs h = refl
draws_seen (l ∷ ls) [] h = refl
draws_seen (l ∷ ls) (f ∷ fs) h = draws_seen ls fs (Sees l f ∷ h)

-- nobody was asked anything meanwhile
pub went_seen : (at since : Outside) (h after : List ServerEvent) (ls : List ℕ) (fs : List Bool) → OutsideFollows at since h after
    → OutsideFollows at since h (seeing ls fs after)
went_seen at since h after ls fs went = record {
  asks = went.asks;
  asked_are = asked_seen ls fs after ∙ went.asked_are;
  told = went.told;
  kept = went.kept;
  counted = went.counted;
  drew = went.drew;
  drawn_are = draws_seen ls fs after ∙ went.drawn_are;
  drawn_told = went.drawn_told;
  failed = went.failed;
}
