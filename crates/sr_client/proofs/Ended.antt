-- How a turn ends: by what it answers, what is told is a whole turn, or a first part of one.
use Rattle.std.proofs.Common.{◌≡◌, inl, inr, ℕ, ◌≤◌, ◌<◌, Bool, true, false, List, [], ◌∷◌, ◌++◌, length, take, drop, Option, Some, None, refl, sym, ap, subst, ◌∙◌, if◌then◌else◌, arith, take-append-drop}
use Rattle.std.proofs.Common.{Result, Ok, Err, MatchResult}
use Rattle.std.specs.Prelude.{◌||◌, is_some, IfSome}
use Rattle.std.specs.Result.{IsErrAnd}
use Rattle.std.specs.Io.KnownBytes.{Appends}
use Rattle.std.proofs.lemmas.Result.{err_from_is_err_and}
use Rattle.std.proofs.lemmas.Bool.{eq-eqb, ne_eqb}
use Rattle.std.proofs.lemmas.List.{append_assoc, append-nil}
use Rattle.he_wire.specs.Wires.{IsHouseWire}
use Rattle.hub_calc.specs.Client.{client_hub}
use Rattle.hw_door.specs.DoorCalls.{DoorAsk, DoorCall, failed, full_in, given_in}
use Rattle.hw_door.specs.declared.error.DoorError.{DoorError}
use Rattle.hw_door.specs.declared.error.DoorError.TheVariants as door
use Rattle.hd_server.specs.Plans.{onto}
use Rattle.hd_server.specs.Serving.{AreGiving}
use Rattle.hd_dialing.specs.Events.{Phase, Away, Negotiates, Upgrades, Stands, Over, is_on, is_up}
use Rattle.hd_dialing.specs.Events as dial
use Rattle.hd_dialing.specs.Telling.{has_failed_draw}
use Rattle.hn_dialing.specs.Stands as of_connection
use Rattle.hd_client.specs.declared.order.Order.{Order}
use Rattle.hd_client.specs.Setups.{Setup, settings_with}
use Rattle.hd_client.specs.Events.{ClientEvent, IsDone, IsRefused, dialing, settings_of, moves, phase_of, moment, passed, is_full, is_over, has_closed, is_shut_with, closed_itself, outcome, IsClientPeer}
use Rattle.hd_client.specs.Turns.{Begin, Turns, seeing, telling}
use Rattle.hd_client.specs.Telling.{Told, at_dialer, AreCutAt, TellsTurn, hearing}
use Rattle.sr_client.specs.declared.client.Client.{Client}
use Rattle.sr_client.specs.declared.client.ClientError.{ClientError}
use Rattle.sr_client.specs.declared.client.ClientError.TheVariants as error
use Rattle.sr_client.specs.declared.client.Words.{Words}
use Rattle.sr_client.specs.Clients.{Fits, IsFullBy, PlaysBy, Standing, StandsClient, is_linked, words_given}
use Rattle.sr_client.specs.Obeying.{UploadsHaveCalls}
use Rattle.sr_client.specs.Running.{HasTurned, IsCut, IsWhole, TurnsBy, WentSo, error_of_dialer}
use Rattle.sr_client.specs.Turning.{GivesAll, GivesPart, HasDone, HasHeard, IsAnswer, SeesBy, before_work, messages_in}
use Rattle.sr_client.proofs.Inner.{told_phase}
use Rattle.sr_client.proofs.Wholes.{ends, seen_none, told_leaves, whole_turn, work_leaves}

-- ---- a client that differs in little

pub standing_as : (s : Setup) (c k : Client) (h after : List ClientEvent) → k ≡ record c { full = k.full; is_ended = k.is_ended } → dialing after ≡ dialing h
    → moves after ≡ moves h → passed after ≡ passed h → IsFullBy (phase_of after) k.full after → Standing s c h → Standing s k after
standing_as s c k h after e ed em ep full x = record {
  kept = record {
    codec = x.kept.codec ∙ sym (ap (λ i. i.codec) e);
    limits = x.kept.limits ∙ sym (ap (λ i. i.limits) e);
    wire = subst (λ l. IsHouseWire l.frame s.wire) (sym (ap (λ i. i.limits) e)) x.kept.wire;
    words = x.kept.words;
    dialed = subst (λ d. of_connection.Stands s.dialing k.connection d) (sym ed)
        (subst (λ i. of_connection.Stands s.dialing i (dialing h)) (sym (ap (λ i. i.connection) e)) x.kept.dialed);
    undrawn = ap has_failed_draw ed ∙ x.kept.undrawn;
    passed = ap (λ i. i.passed) e ∙ (x.kept.passed ∙ sym ep);
    closed = ap (λ i. i.has_closed) e ∙ (x.kept.closed ∙ ap closed_itself (sym em));
    uploads = subst UploadsHaveCalls (sym em) x.kept.uploads;
  };
  plays = subst (λ d. PlaysBy (settings_with s (dial.told d)) k.peer (moves after) (dial.moment d)) (sym ed)
      (subst (λ m. PlaysBy (settings_of s h) k.peer m (moment h)) (sym em)
      (subst (λ p. PlaysBy (settings_of s h) p (moves h) (moment h)) (sym (ap (λ i. i.peer) e)) x.plays));
  full = full;
  linked = λ going.
      ap (λ d. is_linked (settings_with s (dial.told d)) (moves after)) ed
      ∙ (ap (λ m. is_linked (settings_of s h) m) em
      ∙ (x.linked (sym (over_as s h after ed em) ∙ going) ∙ ap (λ d. is_up (dial.phase d)) (sym ed)));
}
  where
    over_as : (s : Setup) (h after : List ClientEvent) → dialing after ≡ dialing h → moves after ≡ moves h → is_over s after ≡ is_over s h
    over_as s h after ed em =
        ap (λ d. dial.is_over (dial.phase d) || is_shut_with (settings_with s (dial.told d)) (moves after)) ed
        ∙ ap (λ m. dial.is_over (phase_of h) || is_shut_with (settings_of s h) m) em

-- where nothing else differs, it stands for the same
pub standing_same : (s : Setup) (c k : Client) (h : List ClientEvent) → k ≡ record c { is_ended = k.is_ended } → Standing s c h → Standing s k h
standing_same s c k h e x =
    standing_as s c k h h (e ∙ ap (λ f. record c { full = f; is_ended = k.is_ended }) (sym (ap (λ i. i.full) e))) refl refl refl
    (subst (λ f. IsFullBy (phase_of h) f h) (sym (ap (λ i. i.full) e)) x.full) x

-- ---- what went

module _ (First Then Both : List DoorCall → Type 0) (d e : Option (List (Option (List ℕ)))) (k m : Option (List ℕ))
    (join : (x y : List DoorCall) → First x → Then y → Both (x ++ y)) where
  both_calls : (a b c last : List DoorCall) → ((a ++ b) ++ []) ++ (c ++ last) ≡ (a ++ (b ++ c)) ++ last
  both_calls a b c last =
      ap (λ l. l ++ (c ++ last)) (append-nil (a ++ b)) ∙ (sym (append_assoc (a ++ b) c last) ∙ ap (λ l. l ++ last) (append_assoc a b c))

  pub went_all : (a b c last : List DoorCall) (drawn : List (Option (List ℕ))) (printed : List ℕ)
      → WentSo First d e k k [] (record { calls = a ++ b; drawn = drawn; printed = [] }) → Then (c ++ last) → Appends k m printed
      → WentSo Both d e k m last (record { calls = a ++ (b ++ c); drawn = drawn; printed = printed })
  went_all a b c last drawn printed x goes puts = record {
    goes = subst Both (both_calls a b c last) (join ((a ++ b) ++ []) (c ++ last) x.goes goes);
    draws = x.draws;
    puts = puts;
  }

-- ---- a cut

cut_then : (ask : DoorAsk) (a b x y : List DoorCall) → AreCutAt ask x y → AreCutAt ask (a ++ (b ++ x)) (a ++ (b ++ y))
cut_then ask a b x y (next, asks, (rest, e)) = (
  next,
  asks,
  (
    rest,
    ap (λ l. l ++ rest) (append_assoc a (b ++ x) (next ∷ []) ∙ ap (λ l. a ++ l) (append_assoc b x (next ∷ [])))
        ∙ (append_assoc a (b ++ (x ++ next ∷ [])) rest ∙ ap (λ l. a ++ l) (append_assoc b (x ++ next ∷ []) rest ∙ ap (λ l. b ++ l) e)),
  ),
)

-- memory runs out in its own work
pub cut_in_work : (s : Setup) (script : List Order) (Goes : List ClientEvent → Type 0) (Went : List DoorCall → Told → Type 0) (h : List ClientEvent) (bound now : ℕ)
    (c : Client) (w : Words) → HasHeard s c w Went bound now h → TurnsBy s script Goes Went h (Err error.NoMemory)
cut_in_work s script Goes Went h bound now c w x = inl (record {
  told = record { calls = hearing s x.opened.begin h ++ x.opened.giving; drawn = x.opened.drawn; printed = [] };
  tells = inl (record {
    begin = x.opened.begin;
    may = x.opened.may;
    begun = x.opened.begun;
    begins = x.opened.begins;
    giving = x.opened.giving;
    are_giving = x.opened.are_giving;
    gives = x.opened.gives;
    calls = ([], append-nil (hearing s x.opened.begin h ++ x.opened.giving));
    drawn = x.opened.drawn;
    draws_all = x.opened.draws_all;
    draws_more = ([], append-nil x.opened.drawn);
    prints = refl;
  });
  went = x.opened.went;
})

module _ (s : Setup) (script : List Order) (First Then Both : List DoorCall → Type 0) (d e : Option (List (Option (List ℕ)))) (k m : Option (List ℕ))
    (join : (x y : List DoorCall) → First x → Then y → Both (x ++ y)) (Goes : List ClientEvent → Type 0) (h : List ClientEvent) (bound now : ℕ) (c new : Client)
    (w words : Words) (heard : HasHeard s c w (WentSo First d e k k) bound now h)
    (done : HasDone s script (before_work s heard.opened.begun h) new words heard.ticked) where
  abbrev FirstWent : List DoorCall → Told → Type 0
  FirstWent = WentSo First d e k k

  abbrev Went : List DoorCall → Told → Type 0
  Went = WentSo Both d e k m

  abbrev said : List ClientEvent
  said = onto (telling s done.says.pieces done.told) done.told

  abbrev pub after : List DoorCall → List ClientEvent
  after calls = onto (seeing (phase_of done.told) (full_in calls)) said

  abbrev told_all : List DoorCall → Told
  told_all calls = record { calls = hearing s heard.opened.begin h ++ (heard.opened.giving ++ calls); drawn = heard.opened.drawn; printed = words.printed.items }

  -- its peer did what a peer can do
  sound : (calls : List DoorCall) → AreGiving calls → given_in calls ≡ words_given words → length (full_in calls) ≡ messages_in words
      → IsClientPeer client_hub (settings_of s said) (moves said) → IsClientPeer client_hub (settings_of s (after calls)) (moves (after calls))
  sound calls are all each peer =
      let o = ends s script FirstWent h bound now c new w words heard done calls are all each in
      subst (λ x. IsClientPeer client_hub (settings_with s (dial.told x)) (moves (after calls))) (sym o.dialing)
      (subst (λ x. IsClientPeer client_hub (settings_of s said) x) (sym o.moves) peer)

  -- the whole turn is told
  whole : (calls : List DoorCall) → AreGiving calls → given_in calls ≡ words_given words → length (full_in calls) ≡ messages_in words
      → IsClientPeer client_hub (settings_of s said) (moves said)
      → TellsTurn client_hub s script heard.opened.begin h (after calls) (told_all calls)
  whole calls are all each peer = whole_turn s script FirstWent h bound now c new w words heard done calls are all each (sound calls are all each peer)

  -- a call of the dialer fails as it is given what is said
  part_given : (why : DoorError) → (x : GivesPart words Then why) → IsClientPeer client_hub (settings_of s said) (moves said) → Appends k m []
      → IsCut s script (at_dialer x.ask) why Went h
  part_given why x peer puts = record {
    told = record { calls = hearing s heard.opened.begin h ++ (heard.opened.giving ++ x.calls); drawn = heard.opened.drawn; printed = [] };
    tells = inr (record {
      begin = heard.opened.begin;
      after = after x.whole;
      whole = told_all x.whole;
      tells = whole x.whole x.are_giving x.all x.answers peer;
      draws_all = refl;
      is_cut = (cut_then x.ask (hearing s heard.opened.begin h) heard.opened.giving x.calls x.whole x.cut, refl);
    });
    went =
        went_all First Then Both d e k m join (hearing s heard.opened.begin h) heard.opened.giving x.calls (failed x.ask why ∷ []) heard.opened.drawn []
        heard.opened.went x.goes puts;
  }

  pub cut_giving : (why : DoorError) → GivesPart words Then why → IsClientPeer client_hub (settings_of s said) (moves said) → Appends k m []
      → TurnsBy s script Goes Went h (Err (error_of_dialer why))
  cut_giving door.Failed x peer puts = (x.ask, part_given door.Failed x peer puts)
  cut_giving door.NoMemory x peer puts = inr (x.ask, part_given door.NoMemory x peer puts)

  -- so many messages were answered
  each_answer : (lane : Option ℕ) (full : List Bool) (x y : Client) → SeesBy lane full x y → length full ≡ (if is_some lane then 1 else 0)
  each_answer None full x y (none, same) = ap (λ l. length l) none
  each_answer (Some lane) full x y (one, is, same) = ap (λ l. length l) is

  -- all was said, and the output fails
  pub cut_printing : (last : Client) → (x : GivesAll words Then new last) → IsClientPeer client_hub (settings_of s said) (moves said) → (n : ℕ)
      → Appends k m (take n words.printed.items) → TurnsBy s script Goes Went h (Err error.Write)
  cut_printing last x peer n puts = record {
    told = record { calls = hearing s heard.opened.begin h ++ (heard.opened.giving ++ x.calls); drawn = heard.opened.drawn; printed = take n words.printed.items };
    tells = inr (record {
      begin = heard.opened.begin;
      after = after x.calls;
      whole = told_all x.calls;
      tells = whole x.calls x.are_giving x.all (each_answer words.lane (full_in x.calls) new last x.sees) peer;
      draws_all = refl;
      is_cut = (refl, (drop n words.printed.items, take-append-drop n words.printed.items));
    });
    went =
        went_all First Then Both d e k m join (hearing s heard.opened.begin h) heard.opened.giving x.calls [] heard.opened.drawn (take n words.printed.items)
        heard.opened.went (subst Then (sym (append-nil x.calls)) x.goes) puts;
  }

  -- all was said and printed
  pub all_given : (last : Client) → (x : GivesAll words Then new last) → IsClientPeer client_hub (settings_of s said) (moves said) → Appends k m words.printed.items
      → (AtEnd : List ClientEvent → Type 0) → AtEnd (after x.calls) → IsWhole s script AtEnd Went h
  all_given last x peer puts AtEnd end = record {
    begin = heard.opened.begin;
    after = after x.calls;
    told = told_all x.calls;
    tells = whole x.calls x.are_giving x.all (each_answer words.lane (full_in x.calls) new last x.sees) peer;
    went =
        went_all First Then Both d e k m join (hearing s heard.opened.begin h) heard.opened.giving x.calls [] heard.opened.drawn words.printed.items
        heard.opened.went (subst Then (sym (append-nil x.calls)) x.goes) puts;
    at_end = end;
  }

  -- ---- what it is after that

  -- what it saw of its message is what it knows of its lane
  full_seen : (lane : Option ℕ) (p q : Phase) (full : List Bool) (x y : Client) (k : List ClientEvent) → SeesBy lane full x y → IfSome lane (λ l. p ≡ Stands l)
      → (b : Bool) → q ≡ (if b then Over else p) → IsFullBy q x.full k → IsFullBy q y.full (onto (seeing p full) k)
  full_seen None p q full x y k (none, same) on b is known =
      subst (λ xs. IsFullBy q y.full (onto (seeing p xs) k)) (sym none)
      (subst (λ xs. IsFullBy q y.full (onto xs k)) (sym (seen_none p)) (subst (λ i. IsFullBy q i.full k) (sym same) known))
  full_seen (Some lane) p q full x y k (one, answers, same) on true is known = subst (λ r. IsFullBy r y.full (onto (seeing p full) k)) (sym is) tt
  full_seen (Some lane) p q full x y k (one, answers, same) on false is known =
      subst (λ r. IsFullBy r y.full (onto (seeing p full) k)) (sym (is ∙ on))
      (subst (λ r. IsFullBy (Stands lane) y.full (onto (seeing r full) k)) (sym on)
      (subst (λ xs. IsFullBy (Stands lane) y.full (onto (seeing (Stands lane) xs) k)) (sym answers)
      (ap (λ i. i.full) same ∙ sym (ap (λ t. if t then one else is_full lane k) (eq-eqb lane lane refl)))))

  seen_as : (lane : Option ℕ) (full : List Bool) (x y : Client) → SeesBy lane full x y → y ≡ record x { full = y.full }
  seen_as None full x y (none, same) = same ∙ ap (λ f. record x { full = f }) (sym (ap (λ i. i.full) same))
  seen_as (Some lane) full x y (one, answers, same) = same ∙ ap (λ f. record x { full = f }) (sym (ap (λ i. i.full) same))

  pub stands_after : (last end : Client) → (x : GivesAll words Then new last) → end ≡ record last { is_ended = end.is_ended } → Standing s end (after x.calls)
  stands_after last end x other =
      let o = ends s script FirstWent h bound now c new w words heard done x.calls x.are_giving x.all
      (each_answer words.lane (full_in x.calls) new last x.sees) in
      let known : IsFullBy (phase_of said) last.full (after x.calls) =
      full_seen words.lane (phase_of done.told) (phase_of said) (full_in x.calls) new last said x.sees done.says.on (has_closed s done.told)
      (told_phase s done.says.pieces done.told) done.says.working.standing.full in
      standing_as s new end said (after x.calls)
      (other ∙ (ap {A = Client} {B = Client} (λ i. record i { is_ended = end.is_ended }) (seen_as words.lane (full_in x.calls) new last x.sees)
      ∙ ap {A = Bool} {B = Client} (λ f. record new { full = f; is_ended = end.is_ended }) (sym (ap (λ i. i.full) other))))
      o.dialing o.moves o.passed
      (subst (λ f. IsFullBy (phase_of (after x.calls)) f (after x.calls)) (sym (ap (λ i. i.full) other))
      (subst (λ q. IsFullBy (dial.phase q) last.full (after x.calls)) (sym o.dialing) known))
      done.says.working.standing

  -- a message was on a lane of its own
  full_on : (lane : Option ℕ) (p : Phase) (full : List Bool) (x y : Client) (g : List ClientEvent) → SeesBy lane full x y → IfSome lane (λ l. p ≡ Stands l)
      → ((l : ℕ) → is_on l p ≡ true → l < bound) → (at : ℕ) → bound ≤ at → is_full at (onto (seeing p full) g) ≡ is_full at g
  full_on None p full x y g (none, same) on below at far =
      subst (λ xs. is_full at (onto (seeing p xs) g) ≡ is_full at g) (sym none) (ap (λ xs. is_full at (onto xs g)) (seen_none p))
  full_on (Some lane) p full x y g (one, answers, same) on below at far =
      let within : lane < bound = below lane (ap (λ q. is_on lane q) on ∙ eq-eqb lane lane refl) in
      subst (λ xs. is_full at (onto (seeing p xs) g) ≡ is_full at g) (sym answers)
      (subst (λ q. is_full at (onto (seeing q (one ∷ [])) g) ≡ is_full at g) (sym on)
      (ap (λ t. if t then one else is_full at g) (ne_eqb at lane (λ (z : at ≡ lane). omega (arith, within, far, z)))))

  pub fits_after : (last : Client) → (x : GivesAll words Then new last) → Fits bound now (after x.calls)
  fits_after last x =
      let o = ends s script FirstWent h bound now c new w words heard done x.calls x.are_giving x.all
      (each_answer words.lane (full_in x.calls) new last x.sees) in
      let stays = work_leaves s script FirstWent h bound now c new w words heard done in
      let worked = told_leaves s script FirstWent h bound now c new w words heard done in record {
        below = λ lane on. heard.fits.below lane (stays.lane lane (ap (λ q. is_on lane (dial.phase q)) (sym o.dialing) ∙ on));
        unused = λ lane far.
            full_on words.lane (phase_of done.told) (full_in x.calls) new last said x.sees done.says.on
            (λ l on. heard.fits.below l (worked.lane l on)) lane far ∙ (stays.full lane ∙ heard.fits.unused lane far);
        timely = subst (λ t. t ≤ now) (sym (ap dial.moment o.dialing ∙ stays.moment)) heard.fits.timely;
      }

  -- ---- all of it

  pub ended_by : (last end : Client) → (x : GivesAll words Then new last) → IsClientPeer client_hub (settings_of s said) (moves said)
      → Appends k m words.printed.items → end ≡ record last { is_ended = end.is_ended } → end.script ≡ script → (bs : List Begin) → Turns client_hub s script bs h
      → (r : Result Bool ClientError) → (r ≡ Ok false → end.is_ended ≡ false) → IsAnswer s (after x.calls) r
      → TurnsBy s script (λ a. StandsClient s script end a × Fits bound now a) Went h r
  ended_by last end x peer puts other reads bs turns (Ok false) going answer =
      let all = whole x.calls x.are_giving x.all (each_answer words.lane (full_in x.calls) new last x.sees) peer in
      all_given last x peer puts (λ a. StandsClient s script end a × Fits bound now a) (
        record {
          standing = stands_after last end x other;
          reads = reads;
          going = going refl;
          goes_on = answer;
          turns = (heard.opened.begin ∷ bs, (h, turns, all.may, all.turn));
        },
        fits_after last x,
      )
  ended_by last end x peer puts other reads bs turns (Ok true) going answer = all_given last x peer puts (λ a. outcome s a ≡ IsDone) answer
  ended_by last end x peer puts other reads bs turns (Err why) going (is, answer) =
      subst (λ y. TurnsBy s script (λ a. StandsClient s script end a × Fits bound now a) Went h (Err y)) (sym is)
      (all_given last x peer puts (λ a. outcome s a ≡ IsRefused) answer)

-- ---- the error that is passed on

pub turned_err : (s : Setup) (script : List Order) (G Goes : List ClientEvent → Type 0) (Went : List DoorCall → Told → Type 0) (h : List ClientEvent) (why : ClientError)
    → TurnsBy s script G Went h (Err why) → TurnsBy s script Goes Went h (Err why)
turned_err s script G Goes Went h error.Refused x = x
turned_err s script G Goes Went h error.Dial x = x
turned_err s script G Goes Went h error.Write x = x
turned_err s script G Goes Went h error.Lots x = x
turned_err s script G Goes Went h error.NoMemory x = x
turned_err s script G Goes Went h error.Turns x = x

pub turned_by : (s : Setup) (script : List Order) (Goes : List ClientEvent → Type 0) (Went : List DoorCall → Told → Type 0) (h : List ClientEvent) (why : ClientError)
    (r : Result Bool ClientError) → IsErrAnd r (λ e. e ≡ why) → TurnsBy s script Goes Went h (Err why) → HasTurned s script Goes Went h r
turned_by s script Goes Went h why r err by =
    let p = err_from_is_err_and r err in record { by = subst (λ x. TurnsBy s script Goes Went h x) (sym (p.1 ∙ ap Err p.2)) by }

-- the dialer's bound and moment are as before
pub turned_ok : (s : Setup) (script : List Order) (end : Client) (Went : List DoorCall → Told → Type 0) (h : List ClientEvent) (bound now later till : ℕ)
    (r : Result Bool ClientError) → later ≡ bound → till ≡ now → TurnsBy s script (λ a. StandsClient s script end a × Fits bound now a) Went h r
    → HasTurned s script (λ a. StandsClient s script end a × Fits later till a) Went h r
turned_ok s script end Went h bound now later till r el et x = record {
  by = subst (λ b. TurnsBy s script (λ a. StandsClient s script end a × Fits b till a) Went h r) (sym el)
      (subst (λ t. TurnsBy s script (λ a. StandsClient s script end a × Fits bound t a) Went h r) (sym et) x);
}

pub goes_if : (b : Bool) (r : Result Bool ClientError) → MatchResult r (λ done. b ≡ done) (λ e. b ≡ true) → r ≡ Ok false → b ≡ false
goes_if b r x e = subst (λ y. MatchResult y (λ done. b ≡ done) (λ i. b ≡ true)) e x
