-- A token is told, or none: its lane is shut, and the socket asked for.
use Rattle.std.proofs.Common.{◌≡◌, ℕ, Bool, List, [], ◌∷◌, ◌++◌, Option, Some, None, Result, Ok, Err, refl, sym, ap, subst, ◌∙◌, append_assoc, arith}
use Rattle.std.specs.Result.{IsErrAnd}
use Rattle.hw_door.specs.declared.error.DoorError.{DoorError}
use Rattle.hw_door.specs.declared.heard.Given.TheVariants as give
use Rattle.hw_door.specs.DoorCalls.{DoorCall, given as given_one, failed, to_say, given_in}
use Rattle.hd_dialing.specs.Bodies.{Told}
use Rattle.hd_dialing.specs.Asks.{Setup}
use Rattle.hd_dialing.specs.Events as dial
use Rattle.hd_dialing.specs.Events.{DialEvent, GivesUp, Learns, Shuts, draws, is_over, phase, told}
use Rattle.hd_dialing.specs.Plans.{Dial, negotiated, socket_asked, told_in_response}
use Rattle.hd_dialing.specs.Telling.{WhatIsNewIsToldLast, given}
use Rattle.hn_dialing.specs.declared.bodies.Granted.{Granted}
use Rattle.hn_dialing.specs.declared.connection.Connection.{Connection}
use Rattle.hn_dialing.specs.declared.errors.DialFault.{DialFault}
use Rattle.hn_dialing.specs.declared.errors.DialFault.TheVariants as fault
use Rattle.hn_dialing.specs.declared.phase.Phase.TheVariants as code
use Rattle.hn_dialing.specs.Calls.{Does, DoesBy, at_dialer, at_memory, failed_call, fault_by}
use Rattle.hn_dialing.specs.Stands.{Stands, lane_in, setup_of, told_of}
use Rattle.hn_dialing.proofs.Asked.{undrawn}
use Rattle.hn_dialing.proofs.Keeping.{given_up, lane_shut, left_away, token_told}
use Rattle.hn_dialing.proofs.Noted.{IsOpen, asking_first}
use Rattle.hn_dialing.proofs.Telling.{Way, does_err, from_same, memory_told, one_told}

-- what comes of a response is added to what happened
negotiated_onto : (s : Setup) (d : Dial) (lane : ℕ) (o : Option Told) (h : List DialEvent) → negotiated s d lane o h ≡ negotiated s d lane o [] ++ h
negotiated_onto s d lane None h = refl
negotiated_onto s d lane (Some t) h = by d.key d.seed where
  by : (key seed : Option (List ℕ)) → socket_asked s d.lane t.token key seed (Learns t ∷ Shuts lane ∷ h) ≡ socket_asked s d.lane t.token key seed (Learns t ∷ Shuts lane ∷ []) ++ h
  by None seed = refl
  by (Some key) None = refl
  by (Some key) (Some seed) = refl

given_undrawn : (s : Setup) (first lane : ℕ) (o : Option Told) → given (negotiated s (undrawn first) lane o []) ≡ give.Shut lane ∷ []
given_undrawn s first lane None = refl
given_undrawn s first lane (Some t) = refl

abbrev pub OnLane : ℕ → List DialEvent → Type 0
OnLane lane h = phase h ≡ dial.Negotiates lane

abbrev pub learning : Dial → ℕ → ℕ → List ℕ → Setup → List DialEvent → List DialEvent
learning d lane status body s h = negotiated s d lane (told_in_response s status body) h

module _ (old : Connection) (lane status : ℕ) (body : List ℕ) (Go : List DoorCall → Type 0) (first last : ℕ) (Drew : List (Option (List ℕ)) → Type 0) where
  abbrev pub own : Setup
  own = setup_of old.setup

  abbrev pub answer : Option Told
  answer = told_in_response own status body

  learned : (d : Dial) (s : Setup) (h : List DialEvent) → Stands s old h → learning d lane status body s h ≡ negotiated own d lane answer [] ++ h
  learned d s h st = subst (λ k. learning d lane status body k h ≡ negotiated own d lane answer [] ++ h) st.dials_so (negotiated_onto own d lane answer h)

  -- before anything is done
  pub learn_unread : {T : Type 0} (now : Connection) (r : Result T DialFault) → Go [] → last ≡ first → Drew [] → IsErrAnd r (λ e. e ≡ fault.NoMemory)
      → DoesBy (OnLane lane) (learning (undrawn first) lane status body) old now (Way Go first last) Drew r
  learn_unread now r goes same drew err =
      does_err (OnLane lane) (learning (undrawn first) lane status body) old now (Way Go first last) Drew at_memory (negotiated own (undrawn first) lane answer []) r err
      (memory_told (negotiated own (undrawn first) lane answer []) (Way Go first last) Drew (goes, omega (arith, same)) drew) (λ s h st on. learned (undrawn first) s h st)

  pub learn_unshut : {T : Type 0} (now : Connection) (why : DoorError) (r : Result T DialFault) → Go (failed (to_say (give.Shut lane)) why ∷ []) → last ≡ first → Drew []
      → IsErrAnd r (λ e. e ≡ fault_by why) → DoesBy (OnLane lane) (learning (undrawn first) lane status body) old now (Way Go first last) Drew r
  learn_unshut now why r goes same drew err =
      does_err (OnLane lane) (learning (undrawn first) lane status body) old now (Way Go first last) Drew (at_dialer (give.Shut lane) why)
      (negotiated own (undrawn first) lane answer []) r err
      (record {
        calls = [];
        goes = (goes, omega (arith, same));
        giving = refl;
        no_messages = refl;
        gives = ([], sym (given_undrawn own first lane answer));
        drawn = [];
        drew = drew;
        draws_first = (draws (negotiated own (undrawn first) lane answer []), refl);
        draws_gave = refl;
      })
      (λ s h st on. learned (undrawn first) s h st)

  has_lane : (h : List DialEvent) → OnLane lane h → lane_in (phase h) ≡ Some lane
  has_lane h on = ap lane_in on

  -- a body that tells nothing
  pub learn_nothing : (is_said : Bool) → Go (given_one (give.Shut lane) is_said ∷ []) → last ≡ first → Drew [] → ◌≡◌ {A = Option Told} None (told_in_response (setup_of old.setup) status body)
      → Does (OnLane lane) (learning (undrawn first) lane status body) old (record old { phase = code.Over }) (Way Go first last) Drew
  learn_nothing is_said goes same drew none = record {
    new = GivesUp ∷ Shuts lane ∷ [];
    tells = one_told (GivesUp ∷ Shuts lane ∷ []) (give.Shut lane) is_said (Way Go first last) Drew refl (goes, omega (arith, same)) drew;
    adds = λ s h st on. refused s h st;
    stands = λ s h st on. subst (λ g. Stands s (record old { phase = code.Over }) g) (sym (refused s h st))
        (given_up s (record old { phase = code.Away }) (Shuts lane ∷ h) (lane_shut s old h lane st (has_lane h on)));
  } where
    refused : (s : Setup) (h : List DialEvent) → Stands s old h → learning (undrawn first) lane status body s h ≡ GivesUp ∷ Shuts lane ∷ h
    refused s h st = ap (λ o. negotiated s (undrawn first) lane o h) (sym (none ∙ ap (λ k. told_in_response k status body) st.dials_so))

  -- one that tells a token: then the socket is asked for
  module _ (law : WhatIsNewIsToldLast) (granted : Granted) (tells : Some (told_of granted) ≡ told_in_response (setup_of old.setup) status body) (d : Dial) (is_said : Bool)
      (Then : List DoorCall → Type 0) (between : ℕ) (same : between ≡ first)
      (joined : (calls : List DoorCall) → Then calls → Go (given_one (give.Shut lane) is_said ∷ calls)) where
    abbrev pub mid : Connection
    mid = record old { phase = code.Away; told = Some granted }

    abbrev pub before : List DialEvent
    before = Learns (told_of granted) ∷ Shuts lane ∷ []

    onto : (s : Setup) (h : List DialEvent) → Stands s old h → learning d lane status body s h ≡ asking_first d s (before ++ h)
    onto s h st = ap (λ o. negotiated s d lane o h) (sym (tells ∙ ap (λ k. told_in_response k status body) st.dials_so))

    stands_mid : (s : Setup) (h : List DialEvent) → Stands s old h → OnLane lane h → Stands s mid (before ++ h)
    stands_mid s h st on = token_told s (record old { phase = code.Away }) (Shuts lane ∷ h) granted (lane_shut s old h lane st (has_lane h on))

    opened : (h : List DialEvent) → OnLane lane h → IsOpen (before ++ h)
    opened h on = ap is_over (left_away lane (phase h) (has_lane h on))

    gives_first : (new : List DialEvent) → given (new ++ before) ≡ give.Shut lane ∷ given new
    gives_first new = (law new before).gives

    draws_first : (new : List DialEvent) → draws (new ++ before) ≡ draws new
    draws_first new = (law new before).draws_more

    adds_so : (new : List DialEvent) → ((s : Setup) (h : List DialEvent) → Stands s mid h → IsOpen h → asking_first d s h ≡ new ++ h)
        → (s : Setup) (h : List DialEvent) → Stands s old h → OnLane lane h → learning d lane status body s h ≡ (new ++ before) ++ h
    adds_so new adds s h st on = onto s h st ∙ (adds s (before ++ h) (stands_mid s h st on) (opened h on) ∙ sym (append_assoc new before h))

    pub learn_all : {T : Type 0} (now : Connection) (r : Result T DialFault) → DoesBy IsOpen (asking_first d) mid now (Way Then between last) Drew r
        → DoesBy (OnLane lane) (learning d lane status body) old now (Way Go first last) Drew r
    learn_all now (Ok a) does = record {
      new = does.new ++ before;
      tells = record {
        calls = given_one (give.Shut lane) is_said ∷ does.tells.calls;
        goes = (joined does.tells.calls does.tells.goes.0, from_same (given_in does.tells.calls) first between last same does.tells.goes.1);
        giving = does.tells.giving;
        no_messages = does.tells.no_messages;
        gives = ap (λ gs. give.Shut lane ∷ gs) does.tells.gives ∙ sym (gives_first does.new);
        drew = subst Drew (sym (draws_first does.new)) does.tells.drew;
      };
      adds = adds_so does.new does.adds;
      stands = λ s h st on. subst (λ g. Stands s now g) (sym (onto s h st)) (does.stands s (before ++ h) (stands_mid s h st on) (opened h on));
    }
    learn_all now (Err why) does = record {
      new = does.new ++ before;
      stop = does.stop;
      cause = does.cause;
      tells = record {
        calls = given_one (give.Shut lane) is_said ∷ does.tells.calls;
        goes = (
          joined (does.tells.calls ++ failed_call does.stop) does.tells.goes.0,
          from_same (given_in (does.tells.calls ++ failed_call does.stop)) first between last same does.tells.goes.1,
        );
        giving = does.tells.giving;
        no_messages = does.tells.no_messages;
        gives = (does.tells.gives.0, ap (λ gs. give.Shut lane ∷ gs) does.tells.gives.1 ∙ sym (gives_first does.new));
        drawn = does.tells.drawn;
        drew = does.tells.drew;
        draws_first = (does.tells.draws_first.0, does.tells.draws_first.1 ∙ sym (draws_first does.new));
        draws_gave = does.tells.draws_gave;
      };
      adds = adds_so does.new does.adds;
    }
