-- What a server tells of one event: that it heard it, and then all that it said at it.
use Rattle.std.proofs.Common.{refl, ap, subst, sym, ◌∙◌, ◌≡◌, ℕ, Bool, List, [], ◌∷◌, ◌++◌, Option, Some, None, append_assoc, append-nil, arith, length, map}
use Rattle.std.proofs.lemmas.List.{map-append, append_cancel_left}
use Rattle.hd_calls.specs.Hubs.{Hub}
use Rattle.hw_door.specs.declared.heard.Event.{Event}
use Rattle.hw_door.specs.declared.heard.Given.{Given}
use Rattle.hw_door.specs.declared.heard.Heard.{Heard}
use Rattle.hw_net.specs.Chains.{Told, gives, hears}
use Rattle.hd_server.specs.declared.vocabulary.Said.{Said}
use Rattle.hd_server.specs.Machine.{Does, Rounds, connections}
use Rattle.hd_server.specs.Doings.{ServerEvent, Hears, Learns, Draws, Notes, Works, Says, Sees, work, said, seen}
use Rattle.hd_server.specs.Plans.{Setup, onto, expiries, questions, plan}
use Rattle.hd_server.specs.Serves.{IsFed, IsTurn, IsSeen, given_as, lanes_sent, seeing, ticks, all_flushing}
use Rattle.hd_server.specs.Parts.{Each, IsOfAny, IsExpiry, IsQuestion, IsPlanned, IsTick, IsFlush}
use Rattle.hd_server.specs.Laws.{PartsOfTurns}
use Rattle.hd_carried.specs.Told.{told_by_server}

-- what is given, the latest first
abbrev pub told_of_given : List Given → List Told
told_of_given [] = []
told_of_given (word ∷ words) = told_of_given words ++ gives word ∷ []

pub told_of_more : (words more : List Given) → told_of_given (words ++ more) ≡ told_of_given more ++ told_of_given words
told_of_more [] more = sym (append-nil (told_of_given more))
told_of_more (word ∷ words) more =
    ap (λ l. l ++ gives word ∷ []) (told_of_more words more) ∙ append_assoc (told_of_given more) (told_of_given words) (gives word ∷ [])

-- ---- doings at which nothing is heard

abbrev IsUnheard : ServerEvent → Type 0
IsUnheard (Hears now event) = ⊥
IsUnheard (Sees lane full) = ⊥
IsUnheard _ = Unit {0}

planned_unheard : (d : ServerEvent) → IsPlanned d → IsUnheard d
planned_unheard (Hears now event) e = e
planned_unheard (Sees lane full) e = e
planned_unheard d e = tt

question_unheard : (d : ServerEvent) → IsQuestion d → IsUnheard d
question_unheard (Hears now event) e = e
question_unheard (Sees lane full) e = e
question_unheard d e = tt

each_so : (P Q : ServerEvent → Type 0) → ((d : ServerEvent) → P d → Q d) → (ds : List ServerEvent) → Each P ds → Each Q ds
each_so P Q so [] a = tt
each_so P Q so (d ∷ ds) a = (so d a.0, each_so P Q so ds a.1)

each_works : {A : Type 0} (f : A → ServerEvent) → ((x : A) → IsUnheard (f x)) → (xs : List A) → Each IsUnheard (map f xs)
each_works f p [] = tt
each_works f p (x ∷ xs) = (p x, each_works f p xs)

-- the words that were said stand last in what is told
words_told : (new h : List ServerEvent) → Each IsUnheard new → told_by_server (new ++ h) ≡ told_of_given (map given_as (said new)) ++ told_by_server h
words_told [] h a = refl
words_told (Says word ∷ new) h a =
    ap (λ l. gives (given_as word) ∷ l) (words_told new h a.1)
    ∙ ap (λ l. l ++ told_by_server h) (sym (ap told_of_given (map-append given_as (said new) (word ∷ [])) ∙ told_of_more (map given_as (said new)) (given_as word ∷ [])))
words_told (Hears now event ∷ new) h a = absurd a.0
words_told (Learns asked ∷ new) h a = words_told new h a.1
words_told (Draws drawn ∷ new) h a = words_told new h a.1
words_told (Notes note ∷ new) h a = words_told new h a.1
words_told (Works happening ∷ new) h a = words_told new h a.1
words_told (Sees lane full ∷ new) h a = absurd a.0

said_more : (new h : List ServerEvent) → said (new ++ h) ≡ said h ++ said new
said_more [] h = sym (append-nil (said h))
said_more (Says word ∷ new) h = ap (λ l. l ++ word ∷ []) (said_more new h) ∙ append_assoc (said h) (said new) (word ∷ [])
said_more (Hears now event ∷ new) h = said_more new h
said_more (Learns asked ∷ new) h = said_more new h
said_more (Draws drawn ∷ new) h = said_more new h
said_more (Notes note ∷ new) h = said_more new h
said_more (Works happening ∷ new) h = said_more new h
said_more (Sees lane full ∷ new) h = said_more new h

seen_more : (new h : List ServerEvent) → Each IsUnheard new → seen (new ++ h) ≡ seen h
seen_more [] h a = refl
seen_more (Says word ∷ new) h a = seen_more new h a.1
seen_more (Hears now event ∷ new) h a = absurd a.0
seen_more (Learns asked ∷ new) h a = seen_more new h a.1
seen_more (Draws drawn ∷ new) h a = seen_more new h a.1
seen_more (Notes note ∷ new) h a = seen_more new h a.1
seen_more (Works happening ∷ new) h a = seen_more new h a.1
seen_more (Sees lane full ∷ new) h a = absurd a.0

-- ---- what was done at an event after it was heard

record Follows (h after : List ServerEvent) : Type 0 where
  new : List ServerEvent
  are : after ≡ new ++ h
  unheard : Each IsUnheard new

stays : (h : List ServerEvent) → Follows h h
stays h = record { new = []; are = refl; unheard = tt }

join : (xs ys : List ServerEvent) → Each IsUnheard xs → Each IsUnheard ys → Each IsUnheard (xs ++ ys)
join [] ys a b = b
join (x ∷ xs) ys a b = (a.0, join xs ys a.1 b)

further : (f g h : List ServerEvent) → Follows f g → Follows g h → Follows f h
further f g h a b = record {
  new = b.new ++ a.new;
  are = b.are ∙ ap (λ x. b.new ++ x) a.are ∙ sym (append_assoc b.new a.new f);
  unheard = join b.new a.new b.unheard a.unheard;
}

onto_follows : (xs h : List ServerEvent) → Each IsUnheard xs → Follows h (onto xs h)
onto_follows [] h a = stays h
onto_follows (x ∷ xs) h a = further h (x ∷ h) (onto xs (x ∷ h)) (record { new = x ∷ []; are = refl; unheard = (a.0, tt) }) (onto_follows xs (x ∷ h) a.1)

-- a stage of a turn, by what its doings may be
stage : (f ds x : List ServerEvent) (P : ServerEvent → Type 0) → ((d : ServerEvent) → P d → IsUnheard d) → x ≡ onto ds f → Each P ds → Follows f x
stage f ds x P so e a = subst (λ y. Follows f y) (sym e) (onto_follows ds f (each_so P IsUnheard so ds a))

food_follows : (now : ℕ) (food : Option (ℕ × List ℕ)) (h after : List ServerEvent) → IsFed now food h after → Follows h after
food_follows now None h after e = subst (λ x. Follows h x) (sym e) (stays h)
food_follows now (Some f) h after one =
    record { new = map (λ m. Works (Does f.0 m)) one.moves; are = one.are; unheard = each_works (λ m. Works (Does f.0 m)) (λ m. tt) one.moves }

module _ (parts : PartsOfTurns) {Job : Type 0} (hub : Hub Job) (s : Setup) (now : ℕ) (e : Event) (h after : List ServerEvent) (turn : IsTurn hub s now e h after) where
  of_expiry : (d : ServerEvent) → IsOfAny IsExpiry d → IsUnheard d
  of_expiry d p = planned_unheard d (parts.expiry_planned d p)

  of_tick : (d : ServerEvent) → IsOfAny IsTick d → IsUnheard d
  of_tick d p = planned_unheard d (parts.tick_planned d p)

  of_flush : (d : ServerEvent) → IsOfAny IsFlush d → IsUnheard d
  of_flush d p = planned_unheard d (parts.flush_planned d p)

  turn_follows : Follows (Hears now e ∷ h) after
  turn_follows =
      let heard : List ServerEvent = Hears now e ∷ h in
      let p = plan s now e turn.name turn.drawn turn.asked in
      let expired = stage heard (expiries now heard) turn.expired (IsOfAny IsExpiry) of_expiry turn.expires (parts.expiries_are now heard) in
      let asked = stage turn.expired (questions s now e turn.name turn.drawn turn.expired) turn.asked IsQuestion question_unheard turn.asks
      (parts.questions_are s now e turn.name turn.drawn turn.expired) in
      let begun = stage turn.asked p.first turn.begun IsPlanned planned_unheard turn.begins (parts.first_is s now e turn.name turn.drawn turn.asked) in
      let food = food_follows now p.food turn.begun turn.fed turn.feeds in
      let handled = stage turn.fed p.last turn.handled IsPlanned planned_unheard turn.handles (parts.last_is s now e turn.name turn.drawn turn.asked) in
      let ticked = stage turn.handled (ticks now turn.handled) turn.ticked (IsOfAny IsTick) of_tick turn.has_ticked
      (parts.ticks_are now (connections (work turn.handled)) turn.handled) in
      let stepped = subst (λ y. Follows turn.ticked y) (sym turn.has_stepped) (record {
        new = map Works turn.round ++ Works (Rounds now) ∷ [];
        are = sym (append_assoc (map Works turn.round) (Works (Rounds now) ∷ []) turn.ticked);
        unheard = join (map Works turn.round) (Works (Rounds now) ∷ []) (each_works Works (λ x. tt) turn.round) (tt, tt);
      }) in
      let told = stage turn.stepped (all_flushing s now (connections (work turn.stepped)) turn.pieces turn.stepped) after (IsOfAny IsFlush) of_flush turn.tells
      (parts.all_flushing_is s now (connections (work turn.stepped)) turn.pieces turn.stepped) in
      let to_begun = further heard turn.asked turn.begun (further heard turn.expired turn.asked expired asked) begun in
      let to_handled = further heard turn.fed turn.handled (further heard turn.begun turn.fed to_begun food) handled in
      let to_stepped = further heard turn.ticked turn.stepped (further heard turn.handled turn.ticked to_handled ticked) stepped in
      further heard turn.stepped after to_stepped told

-- a turn tells that the event was heard, and then these words
pub turn_told : PartsOfTurns → {Job : Type 0} (hub : Hub Job) (s : Setup) (e : Heard) (h after : List ServerEvent) (words : List Said)
    → IsTurn hub s e.now e.event h after → said after ≡ said h ++ words
    → told_by_server after ≡ told_of_given (map given_as words) ++ hears e ∷ told_by_server h
turn_told parts hub s e h after words turn tells =
    let follows = turn_follows parts hub s e.now e.event h after turn in
    let all : List ServerEvent = Hears e.now e.event ∷ h in
    let same : words ≡ said follows.new =
    append_cancel_left (said h) words (said follows.new) (sym tells ∙ ap said follows.are ∙ said_more follows.new all) in
    ap told_by_server follows.are ∙ words_told follows.new all follows.unheard
    ∙ ap (λ l. told_of_given (map given_as l) ++ hears e ∷ told_by_server h) (sym same)

-- what a door answers to messages is told by neither
told_seen : (lanes : List ℕ) (full : List Bool) (h : List ServerEvent) → told_by_server (seeing lanes full h) ≡ told_by_server h
told_seen [] full h = refl
told_seen (lane ∷ lanes) [] h = refl
told_seen (lane ∷ lanes) (f ∷ full) h = told_seen lanes full (Sees lane f ∷ h)

said_seen : (lanes : List ℕ) (full : List Bool) (h : List ServerEvent) → said (seeing lanes full h) ≡ said h
said_seen [] full h = refl
said_seen (lane ∷ lanes) [] h = refl
said_seen (lane ∷ lanes) (f ∷ full) h = said_seen lanes full (Sees lane f ∷ h)

pub seen_told : (given : List Given) (full : List Bool) (h after : List ServerEvent) → IsSeen given full h after → told_by_server after ≡ told_by_server h
seen_told given full h after seen = ap told_by_server seen.sees ∙ told_seen (lanes_sent given) full h

pub seen_said : (given : List Given) (full : List Bool) (h after : List ServerEvent) → IsSeen given full h after → said after ≡ said h
seen_said given full h after seen = ap said seen.sees ∙ said_seen (lanes_sent given) full h

-- in a turn nothing is seen, and then what was answered to each message
pub turn_seen : PartsOfTurns → {Job : Type 0} (hub : Hub Job) (s : Setup) (e : Heard) (h after : List ServerEvent) → IsTurn hub s e.now e.event h after → seen after ≡ seen h
turn_seen parts hub s e h after turn =
    let follows = turn_follows parts hub s e.now e.event h after turn in
    ap seen follows.are ∙ seen_more follows.new (Hears e.now e.event ∷ h) follows.unheard

all_seen : (lanes : List ℕ) (full : List Bool) (h : List ServerEvent) → length full ≡ length lanes → seen (seeing lanes full h) ≡ seen h ++ full
all_seen [] [] h e = sym (append-nil (seen h))
all_seen [] (f ∷ more) h e = absurd (omega (arith, e))
all_seen (lane ∷ lanes) [] h e = absurd (omega (arith, e))
all_seen (lane ∷ lanes) (f ∷ more) h e = all_seen lanes more (Sees lane f ∷ h) (omega (arith, e)) ∙ append_assoc (seen h) (f ∷ []) more

pub seen_all : (given : List Given) (full : List Bool) (h after : List ServerEvent) → IsSeen given full h after → seen after ≡ seen h ++ full
seen_all given full h after sees = ap seen sees.sees ∙ all_seen (lanes_sent given) full h sees.each
