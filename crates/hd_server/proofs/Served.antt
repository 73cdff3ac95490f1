-- A server that hears through a door is one that heard the first of it, up to where something may not come or an answer was cut short, and
-- gave first what it says of that.
use Rattle.std.proofs.Common.{refl, inl, inr, ap, subst, sym, ◌∙◌, ◌≡◌, ◌⊎◌, ℕ, Bool, true, false, List, [], ◌∷◌, ◌++◌, append_assoc, append-nil, reverse, map}
use Rattle.std.proofs.lemmas.Grind.{flat_map-append, reverse_onto}
use Rattle.std.proofs.lemmas.List.{map-append}
use Rattle.hd_calls.specs.Hubs.{Hub}
use Rattle.hw_door.specs.declared.heard.Event.{Event}
use Rattle.hw_door.specs.declared.heard.Event.TheVariants as event
use Rattle.hw_door.specs.declared.heard.Given.{Given}
use Rattle.hw_door.specs.declared.heard.Heard.{Heard}
use Rattle.hw_door.specs.DoorCalls.{DoorCall, full_in, full_of, given_in, given_of, to_hear, to_say}
use Rattle.hd_server.specs.declared.vocabulary.Said.{Said}
use Rattle.hd_server.specs.Doings.{ServerEvent, said, seen, is_upgraded, awaits_reply}
use Rattle.hd_server.specs.Plans.{Setup}
use Rattle.hd_server.specs.Serves.{Serves, ServesOne, IsFree, IsSeen, given_as}
use Rattle.hd_server.specs.Serving.{IsAnswered, IsCutShort, ServeEnd, ServesOn, all_answered, at_door, in_step, is_cut}
use Rattle.hd_server.specs.Laws.{HasServed, AreLeft, ServedIsServes}
use Rattle.hd_server.proofs.Further.{turns_go_further}
use Rattle.hd_server.proofs.Seeing.{seen_all, seen_said}

-- the latest comes first
turned : (e : Heard) (es before : List Heard) → reverse es ++ e ∷ before ≡ reverse (e ∷ es) ++ before
turned e es before = sym (ap (λ l. l ++ before) (reverse_onto es e []) ∙ append_assoc (reverse es) (e ∷ []) before)

-- what is given of one answer, and then of those after it
given_on : (all : List Given) (was now new : List Said) (own rest given : List Given) → now ≡ was ++ new → own ≡ map given_as new
    → given ≡ own ++ rest → all ≡ map given_as now ++ rest → all ≡ map given_as was ++ given
given_on all was now new own rest given e f is g =
    g ∙ ap (λ l. l ++ rest) (ap (λ l. map given_as l) e ∙ map-append given_as was new ∙ ap (λ l. map given_as was ++ l) (sym f))
    ∙ append_assoc (map given_as was) own rest ∙ ap (λ l. map given_as was ++ l) (sym is)

-- a request may come, or it may not
is_decided : (x : Event) (h : List ServerEvent) → IsFree x h ⊎ (IsFree x h → ⊥)
is_decided (event.Request lane r) h = by_both (is_upgraded lane h) (awaits_reply lane h) refl refl where
  by_both : (a b : Bool) → is_upgraded lane h ≡ a → awaits_reply lane h ≡ b
      → ((is_upgraded lane h ≡ false) × (awaits_reply lane h ≡ false)) ⊎ ((is_upgraded lane h ≡ false) × (awaits_reply lane h ≡ false) → ⊥)
  by_both false false e f = inl (e, f)
  by_both true b e f = inr (λ free. let z : is_upgraded lane h ≡ false = free.0 in absurd (cc))
  by_both false true e f = inr (λ free. let z : awaits_reply lane h ≡ false = free.1 in absurd (cc))
is_decided x h = inl tt

-- an answer is cut short only where that may be
cut_short : {Job : Type 0} (hub : Hub Job) (s : Setup) (end : ServeEnd) (P Q : List ServerEvent → Type 0) (h : List ServerEvent) (e : Heard) (calls : List DoorCall)
    → IsCutShort hub s end P Q h e calls → is_cut end ≡ true
cut_short hub s all_answered P Q h e calls short = absurd short
cut_short hub s (at_door (to_hear wait) why) P Q h e calls short = absurd short
cut_short hub s (at_door (to_say next) why) P Q h e calls short = refl
cut_short hub s in_step P Q h e calls short = refl

module _ {Job : Type 0} (hub : Hub Job) (s : Setup) (end : ServeEnd) where
  -- none of these is answered, and if there are none, nothing is given
  none_more : (h : List ServerEvent) (before es : List Heard) (given : List Given) (full : List Bool) → Serves hub s before h → AreLeft (is_cut end) h es
      → (es ≡ [] → (given ≡ []) × (full ≡ [])) → HasServed hub s (is_cut end) h before es given full
  none_more h before es given full serves left none = record {
    answered = [];
    rest = es;
    are = refl;
    after = h;
    serves = serves;
    gives = (given, refl);
    left = left;
    all_given = λ e. sym (ap (λ l. map given_as (said h) ++ l) (none e).0 ∙ append-nil _);
    sees = (full, refl);
    all_seen = λ e. sym (ap (λ l. seen h ++ l) (none e).1 ∙ append-nil _);
  }

  -- an event that is answered, and what is seen of the answer
  one_served : (h mid after : List ServerEvent) (e : Heard) (own : List Given) (sights : List Bool) → IsAnswered hub s h e mid own → IsSeen own sights mid after
      → ServesOne hub s e h after
  one_served h mid after e own sights answer sees = record {
    turned = mid;
    turn = answer.turn;
    words = answer.new;
    tells = answer.tells;
    full = sights;
    seen = subst (λ l. IsSeen l sights mid after) answer.gives sees;
  }

  -- what is seen of one answer, and then of those after it
  seen_on : (h mid after : List ServerEvent) (e : Heard) (own : List Given) (sights more full : List Bool) (all : List Bool)
      → IsAnswered hub s h e mid own → IsSeen own sights mid after → full ≡ sights ++ more → all ≡ seen after ++ more → all ≡ seen h ++ full
  seen_on h mid after e own sights more full all answer sees parted is =
      is ∙ ap (λ l. l ++ more) (seen_all own sights mid after sees ∙ ap (λ l. l ++ sights) (turns_go_further hub s e.now e.event h mid answer.turn).sees_none)
      ∙ append_assoc (seen h) sights more ∙ ap (λ l. seen h ++ l) (sym parted)

  -- an event that is answered, and those after it
  one_more : (h mid after : List ServerEvent) (e : Heard) (before es : List Heard) (own rest given : List Given) (sights more full : List Bool)
      → IsAnswered hub s h e mid own → IsSeen own sights mid after → given ≡ own ++ rest → full ≡ sights ++ more
      → HasServed hub s (is_cut end) after (e ∷ before) es rest more → HasServed hub s (is_cut end) h before (e ∷ es) given full
  one_more h mid after e before es own rest given sights more full answer sees is parted last = record {
    answered = e ∷ last.answered;
    rest = last.rest;
    are = ap (λ l. e ∷ l) last.are;
    after = last.after;
    serves = subst (λ l. Serves hub s l last.after) (turned e last.answered before) last.serves;
    gives = (last.gives.0, given_on _ _ _ answer.new own rest given (seen_said own sights mid after sees ∙ answer.tells) answer.gives is last.gives.1);
    left = last.left;
    all_given = λ e. given_on _ _ _ answer.new own rest given (seen_said own sights mid after sees ∙ answer.tells) answer.gives is (last.all_given e);
    sees = (last.sees.0, seen_on h mid after e own sights more full _ answer sees parted last.sees.1);
    all_seen = λ none. seen_on h mid after e own sights more full _ answer sees parted (last.all_seen none);
  }

  -- whatever holds at the end
  answered_first : (AtEnd Ended : List ServerEvent → Type 0) (h : List ServerEvent) (before es : List Heard) (calls : List DoorCall)
      → Serves hub s before h → ServesOn hub s end AtEnd Ended h es calls → HasServed hub s (is_cut end) h before es (given_in calls) (full_in calls)
  answered_first AtEnd Ended h before [] calls serves on =
      none_more h before [] (given_in calls) (full_in calls) serves tt (λ e. (ap given_in on.0, ap full_in on.0))
  answered_first AtEnd Ended h before (e ∷ es) calls serves (more, are, later, answers) =
      subst (λ l. HasServed hub s (is_cut end) h before (e ∷ es) (given_in l) (full_in l)) (sym are)
      (elim (is_decided e.event h) [
        | inr may_not ↦ none_more h before (e ∷ es) (given_in more) (full_in more) serves (inl may_not) (λ none. absurd (cc))
        | inl free ↦ elim (answers free) [
          | inl (mid, after, own, rest, parted, giving, answer, sees, further) ↦ one_more h mid after e before es (given_in own) (given_in rest) (given_in more)
              (full_in own) (full_in rest) (full_in more) answer sees (ap given_in parted ∙ flat_map-append given_of own rest)
              (ap full_in parted ∙ flat_map-append full_of own rest)
              (answered_first AtEnd Ended after (e ∷ before) es rest
              (h, serves, (later, free), one_served h mid after e (given_in own) (full_in own) answer sees) further)
          | inr short ↦ none_more h before (e ∷ es) (given_in more) (full_in more) serves (inr (cut_short hub s end AtEnd Ended h e more short.1, short.0))
              (λ none. absurd (cc))
        ]
      ])

pub served_is_serves : {Job : Type 0} → ServedIsServes Job
served_is_serves hub s end = answered_first hub s end (λ after. Unit {0}) (λ after. Unit {0})
