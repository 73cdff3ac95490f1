-- A server that hears through a door: one turn after the others.
use Rattle.std.proofs.Common.{◌≡◌, ◌⊎◌, inl, inr, ℕ, ◌+◌, ◌≤◌, Bool, true, false, List, [], ◌∷◌, ◌++◌, length, map, Option, Some, None, is_some, arith}
use Rattle.std.proofs.Common.{refl, sym, ap, subst, ◌∙◌}
use Rattle.std.proofs.Common.{Result, Ok, Err}
use Rattle.std.specs.Prelude.{◌&&◌, nat_le}
use Rattle.std.specs.List.{list_all}
use Rattle.std.specs.Result.{IsErr, IsErrAnd, is_ok, result_err}
use Rattle.std.proofs.lemmas.Result.{err_from_is_err_and}
use Rattle.std.proofs.lemmas.Grind.{flat_map-append}
use Rattle.std.proofs.lemmas.List.{append_assoc, append-nil, length-append}
use Rattle.std.proofs.lemmas.List.Folds.{list_all-append}
use Rattle.hd_calls.specs.Hubs.{Hub}
use Rattle.hd_rooms.specs.KeptLaws.{AnswersJoin}
use Rattle.hw_door.specs.declared.heard.Given.{Given}
use Rattle.hw_door.specs.declared.heard.Heard.{Heard}
use Rattle.hw_door.specs.declared.error.DoorError.{DoorError}
use Rattle.hw_door.specs.declared.error.DoorError.TheVariants as door
use Rattle.hw_door.specs.Calls.{HasFaultCause, IsCaused}
use Rattle.hw_door.specs.DoorCalls.{DoorCall, failed, flushed, given, heard, sent, to_hear, to_say, full_in, full_of, given_in, given_of, heard_in, heard_of, is_giving}
use Rattle.hd_server.specs.declared.vocabulary.Said.{Said}
use Rattle.hd_server.specs.declared.vocabulary.Said.TheVariants as say
use Rattle.hd_server.specs.Doings.{ServerEvent, Sees, moment}
use Rattle.hd_server.specs.Plans.{Setup}
use Rattle.hd_server.specs.Serves.{IsFree, given_as, lanes_sent, seeing}
use Rattle.hd_server.specs.Numbers.{most_wait}
use Rattle.hd_server.specs.Serving.{AreGiving, ComeInTurns, EndsInTurn, HearsFirst, IsAnswered, IsCutShort, IsGivenWhole, ServeEnd, ServesOn, all_answered, at_door, in_step, failed_call, is_serving, wait_for}
use Rattle.hd_server.specs.Laws.{PartsOfTurns}
use Rattle.hub_server.specs.declared.server.Server.{Server}
use Rattle.hub_server.specs.declared.serving.ServeFault.{ServeFault}
use Rattle.hub_server.specs.declared.serving.ServeFault.TheVariants as fault
use Rattle.hub_server.specs.Serving.{AreTurns, AtEnd, GivesAll, GivesBy, HasEnded, HasServed, IsCausedBy, IsGiven, cause_of, fault_of}
use Rattle.hub_server.specs.Words.{AreReplies}
use Rattle.hub_server.specs.Steps.{Outside, HasTurn, StandsServer}
use Rattle.hub_server.proofs.ServeMoment.{turn_moment}
use Rattle.hub_server.proofs.ServeSeen.{each_then, moment_seen, seen_then, went_seen}
use Rattle.hub_server.proofs.ServeWent.{went_none, went_then}

-- ---- faults

pub unok : {A E : Type 0} (r : Result A E) → IsErr r → is_ok r ≡ false
unok (Ok x) e = sym e
unok (Err x) e = refl

-- the door's own fault is passed on
pub caused_door : {A : Type 0} (before now : ℕ) (why : DoorError) (r : Result A ServeFault) → IsCaused before now why
    → IsErrAnd r (λ e. e ≡ cause_of why)
    → IsCausedBy before now r
caused_door {A} before now why r caused err =
    let p = err_from_is_err_and r err in subst (λ x. IsCausedBy before now x) (sym (p.1 ∙ ap Err p.2)) (go why caused)
  where
    go : (why : DoorError) → IsCaused before now why → IsCausedBy {T = A} before now (Err (cause_of why))
    go door.Failed x = x
    go door.NoMemory x = x

-- memory ran out, which is no fault of the door
pub caused_memory : {A : Type 0} (before now : ℕ) (r : Result A ServeFault) → now ≡ before → IsErrAnd r (λ e. e ≡ fault.NoMemory)
    → IsCausedBy before now r
caused_memory {A} before now r same err =
    let p = err_from_is_err_and r err in subst (λ x. IsCausedBy before now x) (sym (p.1 ∙ ap Err p.2)) same

-- the same fault
pub caused_same : {A : Type 0} (before mid now : ℕ) (why : ServeFault) (r : Result A ServeFault) → mid ≡ before → IsCausedBy {T = A} mid now (Err why)
    → IsErrAnd r (λ e. e ≡ why) → IsCausedBy before now r
caused_same {A} before mid now why r same caused err =
    let p = err_from_is_err_and r err in
    subst (λ x. IsCausedBy before now x) (sym (p.1 ∙ ap Err p.2)) (subst (λ n. IsCausedBy {T = A} n now (Err why)) same caused)

-- the door's own fault, at the door
pub failed_same : {A : Type 0} (before mid now : ℕ) (why : DoorError) (r : Result A DoorError) → mid ≡ before → IsCaused mid now why
    → IsErrAnd r (λ e. e ≡ why) → HasFaultCause before now r
failed_same before mid now why r same caused err =
    let p = err_from_is_err_and r err in
    subst (λ x. HasFaultCause before now x) (sym (p.1 ∙ ap Err p.2)) (subst (λ n. IsCaused n now why) same caused)

-- ---- calls one after the other

goes_then : (Goes : List DoorCall → Type 0) (x y z : List DoorCall) → Goes ((x ++ []) ++ (y ++ z)) → Goes ((x ++ y) ++ z)
goes_then Goes x y z goes = subst Goes (ap (λ l. l ++ (y ++ z)) (append-nil x) ∙ sym (append_assoc x y z)) goes

all_then : (p : DoorCall → Bool) (x y : List DoorCall) → list_all p x ≡ true → list_all p y ≡ true → list_all p (x ++ y) ≡ true
all_then p x y e f = list_all-append p x y ∙ ap (λ b. b && list_all p y) e ∙ f

-- where only something is given, nothing is heard
giving_serving : (calls : List DoorCall) → AreGiving calls → list_all is_serving calls ≡ true
giving_serving [] e = refl
giving_serving (heard wait e ∷ calls) f = absurd (let z : false ≡ true = f in cc)
giving_serving (given g is_said ∷ calls) f = giving_serving calls f
giving_serving (sent g is_said full ∷ calls) f = giving_serving calls f
giving_serving (flushed ∷ calls) f = absurd (let z : false ≡ true = f in cc)
giving_serving (failed ask why ∷ calls) f = absurd (let z : false ≡ true = f in cc)

first_then : (x y : List DoorCall) → HearsFirst x → HearsFirst y → HearsFirst (x ++ y)
first_then [] y e f = f
first_then (heard wait e ∷ x) y f g = tt
first_then (given g is_said ∷ x) y f h = absurd f
first_then (sent g is_said full ∷ x) y f h = absurd f
first_then (flushed ∷ x) y f h = absurd f
first_then (failed ask why ∷ x) y f h = absurd f

last_then : (end : ServeEnd) (x y : List DoorCall) → EndsInTurn end y → EndsInTurn end (x ++ y)
last_then all_answered x y f = f
last_then (at_door (to_hear wait) why) x y f = f
last_then (at_door (to_say g) why) x y f = f
last_then in_step x y f = (x ++ f.0, f.1, f.2, ap (λ l. x ++ l) f.3 ∙ sym (append_assoc x f.0 (heard f.1 f.2 ∷ [])))

-- the turns of one list of calls and then of the other
come_then : (end : ServeEnd) (x y : List DoorCall) → ComeInTurns all_answered x → ComeInTurns end y → ComeInTurns end (x ++ y)
come_then end x y f g = record {
  serving = all_then is_serving x y f.serving g.serving;
  first = first_then x y f.first g.first;
  last = last_then end x y g.last;
}

hears_nothing : (calls : List DoorCall) → AreGiving calls → heard_in calls ≡ []
hears_nothing [] e = refl
hears_nothing (heard wait e ∷ calls) f = absurd (let z : false ≡ true = f in cc)
hears_nothing (given g is_said ∷ calls) f = hears_nothing calls f
hears_nothing (sent g is_said full ∷ calls) f = hears_nothing calls f
hears_nothing (flushed ∷ calls) f = absurd (let z : false ≡ true = f in cc)
hears_nothing (failed ask why ∷ calls) f = absurd (let z : false ≡ true = f in cc)

heard_then : (x y : List DoorCall) → heard_in (x ++ y) ≡ heard_in x ++ heard_in y
heard_then x y = flat_map-append heard_of x y

given_then : (x y : List DoorCall) → given_in (x ++ y) ≡ given_in x ++ given_in y
given_then x y = flat_map-append given_of x y

full_then : (x y : List DoorCall) → full_in (x ++ y) ≡ full_in x ++ full_in y
full_then x y = flat_map-append full_of x y

each_call : (x y : List DoorCall) → length (full_in x) ≡ length (lanes_sent (given_in x)) → length (full_in y) ≡ length (lanes_sent (given_in y))
    → length (full_in (x ++ y)) ≡ length (lanes_sent (given_in (x ++ y)))
each_call x y e f =
    ap (λ l. length l) (full_then x y) ∙ each_then (given_in x) (given_in y) (full_in x) (full_in y) e f
    ∙ sym (ap (λ l. length (lanes_sent l)) (given_then x y))

-- ---- what was given

pub first_reply : (word : Said) (words : List Said) → AreReplies (word ∷ words) → AreReplies (word ∷ [])
first_reply (say.Reply lane reply) words x = (x.0, tt)
first_reply (say.Bytes lane bytes text) words x = tt
first_reply (say.Shut lane) words x = tt

pub later_replies : (word : Said) (words : List Said) → AreReplies (word ∷ words) → AreReplies words
later_replies (say.Reply lane reply) words x = x.1
later_replies (say.Bytes lane bytes text) words x = x
later_replies (say.Shut lane) words x = x

map_append : (xs ys : List Said) → map given_as (xs ++ ys) ≡ map given_as xs ++ map given_as ys
map_append [] ys = refl
map_append (x ∷ xs) ys = ap (λ l. given_as x ∷ l) (map_append xs ys)

begins : (xs ys mx my mr p : List Given) (next : Given) → xs ≡ mx → (ys ++ next ∷ []) ++ p ≡ my
    → ((xs ++ ys) ++ next ∷ []) ++ (p ++ mr) ≡ mx ++ (my ++ mr)
begins xs ys mx my mr p next e f =
    ap (λ l. l ++ (p ++ mr)) (append_assoc xs ys (next ∷ [])) ∙ append_assoc xs (ys ++ next ∷ []) (p ++ mr)
    ∙ ap (λ l. xs ++ l) (sym (append_assoc (ys ++ next ∷ []) p mr)) ∙ ap (λ l. xs ++ (l ++ mr)) f ∙ ap (λ l. l ++ (my ++ mr)) e

module _ {H Job : Type 0} (hub : Hub Job) where
  -- the door failed at the first of these words
  pub gives_none : (x : Server H Job) (Goes : List DoorCall → Type 0) (word : Said) (words : List Said) (why : DoorError)
      → Goes (failed (to_say (given_as word)) why ∷ []) → GivesAll {H = H} hub x x Goes (word ∷ words) (at_door (to_say (given_as word)) why)
  gives_none x Goes word words why goes = record {
    calls = [];
    goes = goes;
    giving = refl;
    all = (map given_as words, refl);
    each = refl;
    sees = λ s h stands. stands;
  }

  -- it took this word, to which it answers nothing
  pub gives_said : (x : Server H Job) (Goes : List DoorCall → Type 0) (word : Said) (is_said : Bool) → lanes_sent (given_as word ∷ []) ≡ []
      → Goes (given (given_as word) is_said ∷ []) → GivesAll {H = H} hub x x Goes (word ∷ []) all_answered
  gives_said x Goes word is_said mute goes = record {
    calls = given (given_as word) is_said ∷ [];
    goes = goes;
    giving = refl;
    all = refl;
    each = sym (ap (λ l. length l) mute);
    sees = λ s h stands. subst (λ l. StandsServer {H = H} hub s x (seeing l [] h)) (sym mute) stands;
  }

  -- it took this message and answered, and the server noted that
  pub gives_sent : (x y : Server H Job) (Goes : List DoorCall → Type 0) (lane : ℕ) (bytes : List ℕ) (text is_said full : Bool)
      → Goes (sent (given_as (say.Bytes lane bytes text)) is_said full ∷ [])
      → ((s : Setup) (h : List ServerEvent) → StandsServer {H = H} hub s x h → StandsServer {H = H} hub s y (Sees lane full ∷ h))
      → GivesAll {H = H} hub x y Goes (say.Bytes lane bytes text ∷ []) all_answered
  gives_sent x y Goes lane bytes text is_said full goes noted = record {
    calls = sent (given_as (say.Bytes lane bytes text)) is_said full ∷ [];
    goes = goes;
    giving = refl;
    all = refl;
    each = refl;
    sees = noted;
  }

  -- nothing is given of no words
  pub gives_start : (x : Server H Job) (Goes : List DoorCall → Type 0) → Goes [] → GivesAll {H = H} hub x x Goes [] all_answered
  gives_start x Goes goes = record { calls = []; goes = goes; giving = refl; all = refl; each = refl; sees = λ s h stands. stands }

  module _ (x y z : Server H Job) (First Then Both : List DoorCall → Type 0) (join : (a b : List DoorCall) → First a → Then b → Both (a ++ b)) (xs ys : List Said) where
    -- what was answered in one list of calls and then in the other is seen
    sees_then : (ps qs : List DoorCall) → length (full_in ps) ≡ length (lanes_sent (given_in ps))
        → ((s : Setup) (h : List ServerEvent) → StandsServer {H = H} hub s x h → StandsServer {H = H} hub s y (seeing (lanes_sent (given_in ps)) (full_in ps) h))
        → ((s : Setup) (h : List ServerEvent) → StandsServer {H = H} hub s y h → StandsServer {H = H} hub s z (seeing (lanes_sent (given_in qs)) (full_in qs) h))
        → (s : Setup) (h : List ServerEvent) → StandsServer {H = H} hub s x h
        → StandsServer {H = H} hub s z (seeing (lanes_sent (given_in (ps ++ qs))) (full_in (ps ++ qs)) h)
    sees_then ps qs each first second s h stands =
        subst (λ l. StandsServer {H = H} hub s z l)
        (sym (ap (λ l. seeing (lanes_sent l) (full_in (ps ++ qs)) h) (given_then ps qs) ∙ ap (λ l. seeing (lanes_sent (given_in ps ++ given_in qs)) l h) (full_then ps qs)
        ∙ seen_then (given_in ps) (given_in qs) (full_in ps) (full_in qs) h each))
        (second s (seeing (lanes_sent (given_in ps)) (full_in ps) h) (first s h stands))

    -- all of these words are given after all of those
    pub gives_more : GivesAll {H = H} hub x y First xs all_answered → GivesAll {H = H} hub y z Then ys all_answered
        → GivesAll {H = H} hub x z Both (xs ++ ys) all_answered
    gives_more f g = record {
      calls = f.calls ++ g.calls;
      goes = goes_then Both f.calls g.calls [] (join (f.calls ++ []) (g.calls ++ []) f.goes g.goes);
      giving = all_then is_giving f.calls g.calls f.giving g.giving;
      all =
          given_then f.calls g.calls ∙ ap (λ l. l ++ given_in g.calls) f.all ∙ ap (λ l. map given_as xs ++ l) g.all
          ∙ sym (map_append xs ys);
      each = each_call f.calls g.calls f.each g.each;
      sees = sees_then f.calls g.calls f.each f.sees g.sees;
    }

    -- the door fails at one of these words, after all of those, and so nothing of the rest is given
    pub gives_short : (rest : List Said) (next : Given) (why : DoorError) → GivesAll {H = H} hub x y First xs all_answered
        → GivesAll {H = H} hub y z Then ys (at_door (to_say next) why) → GivesAll {H = H} hub x z Both (xs ++ (ys ++ rest)) (at_door (to_say next) why)
    gives_short rest next why f g = record {
      calls = f.calls ++ g.calls;
      goes =
          goes_then Both f.calls g.calls (failed (to_say next) why ∷ [])
          (join (f.calls ++ []) (g.calls ++ failed (to_say next) why ∷ []) f.goes g.goes);
      giving = all_then is_giving f.calls g.calls f.giving g.giving;
      all = (
        g.all.0 ++ map given_as rest,
        ap (λ l. (l ++ next ∷ []) ++ (g.all.0 ++ map given_as rest)) (given_then f.calls g.calls)
            ∙ begins (given_in f.calls) (given_in g.calls) (map given_as xs) (map given_as ys) (map given_as rest) g.all.0 next f.all g.all.1
            ∙ ap (λ l. map given_as xs ++ l) (sym (map_append ys rest)) ∙ sym (map_append xs (ys ++ rest)),
      );
      each = each_call f.calls g.calls f.each g.each;
      sees = sees_then f.calls g.calls f.each f.sees g.sees;
    }

  -- the same by the answer of the call that failed
  pub gives_by : (x y : Server H Job) (Goes : List DoorCall → Type 0) (words : List Said) (why : DoorError) (r : Result Unit DoorError)
      → IsErrAnd r (λ e. e ≡ why) → (next : Given) × GivesAll {H = H} hub x y Goes words (at_door (to_say next) why) → GivesBy {H = H} hub x y Goes words r
  gives_by x y Goes words why r err gives =
      let p = err_from_is_err_and r err in subst (λ a. GivesBy {H = H} hub x y Goes words a) (sym (p.1 ∙ ap Err p.2)) gives

-- ---- what is served

-- an event is answered whole or, the last one, in part
abbrev Answers : {Job : Type 0} → Hub Job → Setup → ServeEnd → (List ServerEvent → Type 0) → (List ServerEvent → Type 0)
    → List ServerEvent → Heard → List Heard → List DoorCall → Type 0
Answers hub s end A B h e es calls =
    IsGivenWhole hub s h e calls (λ after rest. ServesOn hub s end A B after es rest) ⊎ ((es ≡ []) × IsCutShort hub s end A B h e calls)

-- what holds at the end may be said in other words
cut_as : {Job : Type 0} (hub : Hub Job) (s : Setup) (end : ServeEnd) (P Q R S : List ServerEvent → Type 0) → ((x : List ServerEvent) → P x → R x)
    → ((x : List ServerEvent) → Q x → S x) → (h : List ServerEvent) (e : Heard) (calls : List DoorCall)
    → IsCutShort hub s end P Q h e calls → IsCutShort hub s end R S h e calls
cut_as hub s all_answered P Q R S p q h e calls y = y
cut_as hub s (at_door (to_hear wait) why) P Q R S p q h e calls y = y
cut_as hub s (at_door (to_say next) why) P Q R S p q h e calls y = (y.0, y.1, y.2, y.3, y.4, y.5, y.6, p y.1 y.7)
cut_as hub s in_step P Q R S p q h e calls y = (y.0, q h y.1)

serves_as : {Job : Type 0} (hub : Hub Job) (s : Setup) (end : ServeEnd) (P Q R S : List ServerEvent → Type 0) → ((x : List ServerEvent) → P x → R x)
    → ((x : List ServerEvent) → Q x → S x) → (h : List ServerEvent) (es : List Heard) (calls : List DoorCall)
    → ServesOn hub s end P Q h es calls → ServesOn hub s end R S h es calls
serves_as hub s end P Q R S p q h [] calls x = (x.0, x.1, p h x.2)
serves_as {Job} hub s end P Q R S p q h (e ∷ es) calls x =
    (x.0, x.1, x.2, λ free. go x.0 (λ after rest. serves_as hub s end P Q R S p q after es rest) (x.3 free))
  where
    go : (more : List DoorCall)
        → ((after : List ServerEvent) (rest : List DoorCall) → ServesOn hub s end P Q after es rest → ServesOn hub s end R S after es rest)
        → Answers hub s end P Q h e es more → Answers hub s end R S h e es more
    go more next (inl y) = inl (y.0, y.1, y.2, y.3, y.4, y.5, y.6, y.7, next y.1 y.3 y.8)
    go more next (inr y) = inr (y.0, cut_as hub s end P Q R S p q h e more y.1)

-- what is served on from the end is served after all that was served before
serves_then : {Job : Type 0} (hub : Hub Job) (s : Setup) (end : ServeEnd) (P Q R S : List ServerEvent → Type 0) (fs : List Heard) (qs : List DoorCall)
    → ((x : List ServerEvent) → P x → ServesOn hub s end R S x fs qs) → (h : List ServerEvent) (es : List Heard) (ps : List DoorCall)
    → ServesOn hub s all_answered P Q h es ps → ServesOn hub s end R S h (es ++ fs) (ps ++ qs)
serves_then hub s end P Q R S fs qs on h [] ps x = subst (λ l. ServesOn hub s end R S h fs (l ++ qs)) (sym x.0) (on h x.2)
serves_then {Job} hub s end P Q R S fs qs on h (e ∷ es) ps x = (
  x.0 ++ qs,
  ap (λ l. l ++ qs) x.1,
  x.2,
  λ free. inl (go x.0 (λ after rest. serves_then hub s end P Q R S fs qs on after es rest) (x.3 free)),
)
  where
    go : (more : List DoorCall)
        → ((after : List ServerEvent) (rest : List DoorCall) → ServesOn hub s all_answered P Q after es rest → ServesOn hub s end R S after (es ++ fs) (rest ++ qs))
        → Answers hub s all_answered P Q h e es more
        → IsGivenWhole hub s h e (more ++ qs) (λ after rest. ServesOn hub s end R S after (es ++ fs) rest)
    go more next (inl y) = (
      y.0,
      y.1,
      y.2,
      y.3 ++ qs,
      ap (λ l. l ++ qs) y.4 ∙ append_assoc y.2 y.3 qs,
      y.5,
      y.6,
      y.7,
      next y.1 y.3 y.8,
    )
    go more next (inr y) = absurd y.1

-- ---- one turn

-- the door failed when it was to hear
pub served_nothing : {H Job : Type 0} (hub : Hub Job) (x : Server H Job) (at : Outside) (Goes : List DoorCall → Type 0) (first last wait : ℕ) (why : DoorError)
    → Goes (failed (to_hear wait) why ∷ []) → last ≡ first → nat_le wait most_wait ≡ true → ((s : Setup) (h : List ServerEvent) → StandsServer {H = H} hub s x h → wait ≡ wait_for h)
    → HasServed {H = H} hub x x at at Goes first last 1 (at_door (to_hear wait) why)
served_nothing {H} hub x at Goes first last wait why goes still short waited = record {
  calls = [];
  goes = goes;
  turn_by_turn = record { serving = refl; first = tt; last = short };
  count = omega arith;
  few = λ e. omega arith;
  serves = λ s h stands before. (
    refl,
    waited s h stands,
    record { stands = stands; went = went_none at h; timely = subst (λ n. moment h ≤ n) (sym still) before },
  );
}

module _ {H Job : Type 0} (hub : Hub Job) (old mid new : Server H Job) (at since : Outside) (First Then Both : List DoorCall → Type 0) (first last wait : ℕ) (e : Heard) where
  -- memory ran out before anything was said
  pub served_ended : First (heard wait e ∷ []) → (first ≤ e.now) × (last ≡ e.now) → mid.is_ended ≡ true → nat_le wait most_wait ≡ true
      → ((s : Setup) (h : List ServerEvent) → StandsServer {H = H} hub s old h → wait ≡ wait_for h)
      → HasServed {H = H} hub old mid at since First first last 1 in_step
  served_ended goes later ended short waited = record {
    calls = heard wait e ∷ [];
    goes = goes;
    turn_by_turn = record { serving = ap (λ b. b && true) short; first = tt; last = ([], wait, e, refl) };
    count = (omega arith, omega arith);
    few = λ e. omega arith;
    serves = λ s h stands before. (
      [],
      ap (λ w. heard w e ∷ []) (waited s h stands),
      (let k = later.0 in omega (arith, before, k)),
      λ free. inr (
        refl,
        (
          refl,
          record {
            ended = ended;
            until = at;
            went = went_none at h;
            timely = (let k = later.0 in let l = later.1 in omega (arith, before, k, l));
            speakers = λ c t is. record { begun = stands.stands.begun c t is; said = stands.stands.machine.said c t is };
          },
        ),
      ),
    );
  }

  -- what was heard is answered, in part at least
  pub served_answer : PartsOfTurns → ((a b : List DoorCall) → First a → Then b → Both (a ++ b)) → (end : ServeEnd) (words : List Said)
      → First (heard wait e ∷ []) → (first ≤ e.now) × (last ≡ e.now) → nat_le wait most_wait ≡ true
      → ((s : Setup) (h : List ServerEvent) → StandsServer {H = H} hub s old h → (moment h ≤ e.now) × IsFree e.event h
      → HasTurn {H = H} hub s mid at since e h words)
      → ((s : Setup) (h : List ServerEvent) → StandsServer {H = H} hub s old h → wait ≡ wait_for h)
      → GivesAll {H = H} hub mid new Then words end
      → HasServed {H = H} hub old new at since Both first last 1 end
  served_answer parts join end words goes later short turned waited gives = record {
    calls = heard wait e ∷ gives.calls;
    goes = join (heard wait e ∷ []) (gives.calls ++ failed_call end) goes gives.goes;
    turn_by_turn = record {
      serving = ap (λ b. b && list_all is_serving gives.calls) short ∙ giving_serving gives.calls gives.giving;
      first = tt;
      last = ends end gives.all;
    };
    count = count end (heard_in gives.calls) (hears_nothing gives.calls gives.giving) gives.all;
    few = λ ended. let l = ap (λ l. length (e ∷ l)) (hears_nothing gives.calls gives.giving) in omega (arith, l);
    serves = λ s h stands before.
        subst (λ l. ServesOn hub s end (AtEnd {H = H} hub s new at since last h) (HasEnded {H = H} s new at last h) h (e ∷ l) (heard wait e ∷ gives.calls))
        (sym (hears_nothing gives.calls gives.giving)) (
          gives.calls,
          ap (λ w. heard w e ∷ gives.calls) (waited s h stands),
          soon h before,
          λ free. answered s h end gives.calls gives.giving gives.all gives.each gives.sees (turned s h stands (soon h before, free)),
        );
  }
    where
      ends : (end : ServeEnd) → IsGiven end (given_in gives.calls) (map given_as words) → EndsInTurn end (heard wait e ∷ gives.calls)
      ends all_answered all = tt
      ends (at_door (to_say next) why) all = tt
      ends (at_door (to_hear longer) why) all = absurd all
      ends in_step all = absurd all

      count : (end : ServeEnd) (none : List Heard) → none ≡ [] → IsGiven end (given_in gives.calls) (map given_as words) → AreTurns end 1 (length (e ∷ none))
      count all_answered none is all = ap (λ l. length (e ∷ l)) is
      count (at_door (to_say next) why) none is all = let l = ap (λ l. length (e ∷ l)) is in (omega (arith, l), omega (arith, l))
      count (at_door (to_hear longer) why) none is all = absurd all
      count in_step none is all = absurd all

      soon : (h : List ServerEvent) → moment h ≤ first → moment h ≤ e.now
      soon h before = let k = later.0 in omega (arith, before, k)

      at_end : (s : Setup) (h : List ServerEvent) (calls : List DoorCall) (t : HasTurn {H = H} hub s mid at since e h words)
          → StandsServer {H = H} hub s new (seeing (lanes_sent (given_in calls)) (full_in calls) t.after)
          → AtEnd {H = H} hub s new at since last h (seeing (lanes_sent (given_in calls)) (full_in calls) t.after)
      at_end s h calls t stands = record {
        stands = stands;
        went = went_seen at since h t.after (lanes_sent (given_in calls)) (full_in calls) t.went;
        timely =
            let k = later.1 in
            let m = turn_moment parts hub s e.now e.event h t.after t.turn in
            let n = moment_seen (lanes_sent (given_in calls)) (full_in calls) t.after in
            omega (arith, k, m, n);
      }

      answered : (s : Setup) (h : List ServerEvent) (end : ServeEnd) (calls : List DoorCall) → AreGiving calls
          → IsGiven end (given_in calls) (map given_as words) → length (full_in calls) ≡ length (lanes_sent (given_in calls))
          → ((s : Setup) (h : List ServerEvent) → StandsServer {H = H} hub s mid h
          → StandsServer {H = H} hub s new (seeing (lanes_sent (given_in calls)) (full_in calls) h))
          → (t : HasTurn {H = H} hub s mid at since e h words)
          → Answers hub s end (AtEnd {H = H} hub s new at since last h) (HasEnded {H = H} s new at last h) h e [] calls
      answered s h all_answered calls giving all each sees t = inl (
        t.after,
        seeing (lanes_sent (given_in calls)) (full_in calls) t.after,
        calls,
        [],
        sym (append-nil calls),
        giving,
        record { turn = t.turn; new = words; tells = t.tells; gives = all },
        record { each = each; sees = refl },
        (refl, tt, at_end s h calls t (sees s t.after t.stands)),
      )
      answered s h (at_door (to_say next) why) calls giving all each sees t = inr (
        refl,
        (
          t.after,
          seeing (lanes_sent (given_in calls)) (full_in calls) t.after,
          map given_as words,
          record { turn = t.turn; new = words; tells = t.tells; gives = refl },
          giving,
          all,
          record { each = each; sees = refl },
          at_end s h calls t (sees s t.after t.stands),
        ),
      )
      answered s h (at_door (to_hear wait) why) calls giving all each sees t = absurd all
      answered s h in_step calls giving all each sees t = absurd all

-- ---- a turn more

turns_then : (end : ServeEnd) (n turns : ℕ) (es fs : List Heard) → length es ≡ n → AreTurns end 1 (length fs) → (end ≡ all_answered → turns ≡ n + 1) → n + 1 ≤ turns
    → AreTurns end turns (length (es ++ fs))
turns_then all_answered n turns es fs e f whole few = length-append es fs ∙ (let w = whole refl in omega (arith, e, f, w))
turns_then (at_door (to_hear wait) why) n turns es fs e f whole few = let l = length-append es fs in omega (arith, e, f, few, l)
turns_then (at_door (to_say g) why) n turns es fs e f whole few =
    let l = length-append es fs in let k = f.0 in let m = f.1 in (omega (arith, e, k, l), omega (arith, e, m, few, l))
turns_then in_step n turns es fs e f whole few =
    let l = length-append es fs in let k = f.0 in let m = f.1 in (omega (arith, e, k, l), omega (arith, e, m, few, l))

-- one turn hears one event at most
few_heard : (end : ServeEnd) (n : ℕ) → AreTurns end 1 n → n ≤ 1
few_heard all_answered n f = omega (arith, f)
few_heard (at_door (to_hear wait) why) n f = omega (arith, f)
few_heard (at_door (to_say g) why) n f = f.1
few_heard in_step n f = f.1

-- and those of none before
few_then : (n : ℕ) (es fs : List Heard) → length es ≡ n → n ≡ 0 → length fs ≤ 1 → length (es ++ fs) ≤ 1
few_then n es fs e none few = let l = length-append es fs in omega (arith, e, none, few, l)

pub served_then : {H Job : Type 0} (hub : Hub Job) (x y z : Server H Job) (at mid since : Outside) (First Then Both : List DoorCall → Type 0)
    (first then_at last n turns : ℕ) (end : ServeEnd)
    → AnswersJoin → ((a b : List DoorCall) → First a → Then b → Both (a ++ b)) → (end ≡ all_answered → turns ≡ n + 1) → n + 1 ≤ turns → (x.is_ended ≡ true → n ≡ 0)
    → HasServed {H = H} hub x y at mid First first then_at n all_answered → HasServed {H = H} hub y z mid since Then then_at last 1 end
    → HasServed {H = H} hub x z at since Both first last turns end
served_then {H} hub x y z at mid since First Then Both first then_at last n turns end join_answers join whole enough none f g = record {
  calls = f.calls ++ g.calls;
  goes = goes_then Both f.calls g.calls (failed_call end) (join (f.calls ++ []) (g.calls ++ failed_call end) f.goes g.goes);
  turn_by_turn = come_then end f.calls g.calls f.turn_by_turn g.turn_by_turn;
  count =
      subst (λ l. AreTurns end turns (length l)) (sym (heard_then f.calls g.calls))
      (turns_then end n turns (heard_in f.calls) (heard_in g.calls) f.count g.count whole enough);
  few = λ ended.
      subst (λ l. length l ≤ 1) (sym (heard_then f.calls g.calls))
      (few_then n (heard_in f.calls) (heard_in g.calls) f.count (none ended) (few_heard end (length (heard_in g.calls)) g.count));
  serves = λ s h stands before.
      subst (λ l. ServesOn hub s end (AtEnd {H = H} hub s z at since last h) (HasEnded {H = H} s z at last h) h l (f.calls ++ g.calls)) (sym (heard_then f.calls g.calls))
      (serves_then hub s end (AtEnd {H = H} hub s y at mid then_at h) (HasEnded {H = H} s y at then_at h)
      (AtEnd {H = H} hub s z at since last h) (HasEnded {H = H} s z at last h) (heard_in g.calls) g.calls
      (λ m now. serves_as hub s end (AtEnd {H = H} hub s z mid since last m) (HasEnded {H = H} s z mid last m)
      (AtEnd {H = H} hub s z at since last h) (HasEnded {H = H} s z at last h)
      (λ k there. record { stands = there.stands; went = went_then join_answers at mid since h m k now.went there.went; timely = there.timely })
      (λ k there. record {
        ended = there.ended;
        until = there.until;
        went = went_then join_answers at mid there.until h m k now.went there.went;
        timely = there.timely;
        speakers = there.speakers;
      })
      m (heard_in g.calls) g.calls (g.serves s m now.stands now.timely))
      h (heard_in f.calls) f.calls (f.serves s h stands before));
}

-- before the first turn
pub served_none : {H Job : Type 0} (hub : Hub Job) (x : Server H Job) (at : Outside) (Goes : List DoorCall → Type 0) (first : ℕ) → Goes []
    → HasServed {H = H} hub x x at at Goes first first 0 all_answered
served_none {H} hub x at Goes first goes = record {
  calls = [];
  goes = goes;
  turn_by_turn = record { serving = refl; first = tt; last = tt };
  count = refl;
  few = λ e. omega arith;
  serves = λ s h stands before. (refl, tt, record { stands = stands; went = went_none at h; timely = before });
}

-- ---- the same in other words

pub served_count : {H Job : Type 0} {hub : Hub Job} {x y : Server H Job} {at since : Outside} {Goes : List DoorCall → Type 0}
    {first last : ℕ} {end : ServeEnd} (n turns : ℕ) → n ≡ turns
    → HasServed {H = H} {Job = Job} hub x y at since Goes first last n end → HasServed {H = H} {Job = Job} hub x y at since Goes first last turns end
served_count {H} {Job} {hub} {x} {y} {at} {since} {Goes} {first} {last} {end} n turns same f =
    subst (λ k. HasServed {H = H} {Job = Job} hub x y at since Goes first last k end) same f

-- the door is flushed, which is a call more
pub served_flushed : {H Job : Type 0} {hub : Hub Job} {x y : Server H Job} {at since : Outside} {Goes Then : List DoorCall → Type 0} {first last after turns : ℕ}
    {end : ServeEnd} → ((calls : List DoorCall) → Goes calls → Then calls) → after ≡ last → HasServed {H = H} {Job = Job} hub x y at since Goes first last turns end
    → HasServed {H = H} {Job = Job} hub x y at since Then first after turns end
served_flushed {H} {Job} {hub} {x} {y} {at} {since} {Goes} {Then} {first} {last} {after} {turns} {end} on late f =
    subst (λ n. HasServed {H = H} {Job = Job} hub x y at since Then first n turns end) (sym late) (record {
      calls = f.calls;
      goes = on (f.calls ++ failed_call end) f.goes;
      turn_by_turn = f.turn_by_turn;
      count = f.count;
      few = f.few;
      serves = f.serves;
    })

-- where there is no fault, all is answered
pub served_ok : {H Job : Type 0} {hub : Hub Job} {x y : Server H Job} {at since : Outside} {Goes : List DoorCall → Type 0} {first last turns : ℕ}
    (end : ServeEnd) → None ≡ fault_of end → HasServed {H = H} {Job = Job} hub x y at since Goes first last turns end
    → HasServed {H = H} {Job = Job} hub x y at since Goes first last turns all_answered
served_ok all_answered none f = f
served_ok (at_door ask why) none f = absurd (let z : ◌≡◌ {A = Option ServeFault} None (Some (cause_of why)) = none in cc)
served_ok in_step none f = absurd (let z : ◌≡◌ {A = Option ServeFault} None (Some fault.NoMemory) = none in cc)

-- the fault that is passed on
pub fault_passed : {A : Type 0} (r : Result A ServeFault) (why : ServeFault) → IsErrAnd r (λ e. e ≡ why) → result_err r ≡ Some why
fault_passed r why err = let p = err_from_is_err_and r err in ap result_err p.1 ∙ ap Some p.2

-- which isn't that all is answered
pub is_a_fault : (end : ServeEnd) (why : ServeFault) → Some why ≡ fault_of end → end ≡ all_answered → ⊥
is_a_fault end why is none = let z : ◌≡◌ {A = Option ServeFault} (Some why) None = is ∙ ap fault_of none in cc
