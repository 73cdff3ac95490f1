-- A connection notes what it asked for.
use Rattle.std.proofs.Common.{◌≡◌, ℕ, false, List, [], ◌∷◌, ◌++◌, Option, Some, None, option_map, Result, Err, refl, sym, ap, subst, ◌∙◌}
use Rattle.std.specs.Result.{IsErrAnd}
use Rattle.hw_door.specs.DoorCalls.{DoorCall}
use Rattle.hd_dialing.specs.Asks.{Setup, negotiate_ask}
use Rattle.hd_dialing.specs.Events.{DialEvent, Asks, is_over, phase, told}
use Rattle.hd_dialing.specs.Plans.{Dial, dialed, socket_asked}
use Rattle.hn_dialing.specs.declared.bodies.Granted.{Granted}
use Rattle.hn_dialing.specs.declared.connection.Connection.{Connection}
use Rattle.hn_dialing.specs.declared.errors.DialFault.{DialFault}
use Rattle.hn_dialing.specs.declared.phase.Phase.{Phase}
use Rattle.hn_dialing.specs.declared.phase.Phase.TheVariants as code
use Rattle.hn_dialing.specs.Calls.{Does, DoesBy, Tells, TellsAll}
use Rattle.hn_dialing.specs.Stands.{Stands, setup_of, told_of}
use Rattle.hn_dialing.proofs.Keeping.{token_asked}
use Rattle.hn_dialing.proofs.Telling.{does_broken}

-- what is asked for with a token is added to what happened
pub socket_onto : (s : Setup) (lane : ℕ) (token : List ℕ) (key seed : Option (List ℕ)) (h : List DialEvent)
    → socket_asked s lane token key seed h ≡ socket_asked s lane token key seed [] ++ h
socket_onto s lane token None seed h = refl
socket_onto s lane token (Some key) None h = refl
socket_onto s lane token (Some key) (Some seed) h = refl

abbrev pub IsOpen : List DialEvent → Type 0
IsOpen h = is_over (phase h) ≡ false

abbrev pub asking_first : Dial → Setup → List DialEvent → List DialEvent
asking_first d s h = dialed s d (told h) h

module _ (old : Connection) (Goes : List DoorCall → Type 0) (Drew : List (Option (List ℕ)) → Type 0) where
  abbrev pub own : Setup
  own = setup_of old.setup

  module _ (d : Dial) (e : ◌≡◌ {A = Option Granted} old.told None) where
    token_new : (s : Setup) (h : List DialEvent) → Stands s old h → asking_first d s h ≡ Asks d.lane (negotiate_ask own) ∷ h
    token_new s h st = ap (λ o. dialed s d o h) (sym (ap (option_map told_of) (sym e) ∙ st.knows)) ∙ ap (λ k. Asks d.lane (negotiate_ask k) ∷ h) (sym st.dials_so)

    pub token_noted : (p : Phase) → p ≡ code.Negotiates d.lane → TellsAll (Asks d.lane (negotiate_ask own) ∷ []) Goes Drew
        → Does IsOpen (asking_first d) old (record old { phase = p }) Goes Drew
    token_noted p at tells = record {
      new = Asks d.lane (negotiate_ask own) ∷ [];
      tells = tells;
      adds = λ s h st open_yet. token_new s h st;
      stands = λ s h st open_yet. subst (λ g. Stands s (record old { phase = p }) g) (sym (token_new s h st ∙ ap (λ k. Asks d.lane (negotiate_ask k) ∷ h) st.dials_so))
          (subst (λ q. Stands s (record old { phase = q }) (Asks d.lane (negotiate_ask s) ∷ h)) (sym at) (token_asked s old h d.lane st open_yet));
    }

    pub token_broken : {T : Type 0} (U : Type 0) (now : Connection) (why : DialFault) (r : Result T DialFault) → IsErrAnd r (λ e. e ≡ why)
        → Tells {T = U} (Asks d.lane (negotiate_ask own) ∷ []) Goes Drew (Err why) → DoesBy IsOpen (asking_first d) old now Goes Drew r
    token_broken U now why r err tells = does_broken U IsOpen (asking_first d) old now Goes Drew why (Asks d.lane (negotiate_ask own) ∷ []) r err tells (λ s h st open_yet. token_new s h st)

  module _ (d : Dial) (granted : Granted) (e : old.told ≡ Some granted) where
    abbrev pub asked : List DialEvent
    asked = socket_asked own d.lane granted.token d.key d.seed []

    socket_so : (s : Setup) (h : List DialEvent) → Stands s old h → asking_first d s h ≡ socket_asked s d.lane granted.token d.key d.seed h
    socket_so s h st = ap (λ o. dialed s d o h) (sym (ap (option_map told_of) (sym e) ∙ st.knows))

    socket_new : (s : Setup) (h : List DialEvent) → Stands s old h → asking_first d s h ≡ asked ++ h
    socket_new s h st = socket_so s h st ∙ (socket_onto s d.lane granted.token d.key d.seed h ∙ ap (λ k. socket_asked k d.lane granted.token d.key d.seed [] ++ h) (sym st.dials_so))

    pub socket_broken : {T : Type 0} (U : Type 0) (now : Connection) (why : DialFault) (r : Result T DialFault) → IsErrAnd r (λ e. e ≡ why)
        → Tells {T = U} (socket_asked own d.lane granted.token d.key d.seed []) Goes Drew (Err why) → DoesBy IsOpen (asking_first d) old now Goes Drew r
    socket_broken U now why r err tells = does_broken U IsOpen (asking_first d) old now Goes Drew why asked r err tells (λ s h st open_yet. socket_new s h st)

    -- by the token as it was read
    module _ (token : List ℕ) (named : token ≡ granted.token) where
      pub socket_broken_as : {T : Type 0} (U : Type 0) (now : Connection) (why : DialFault) (r : Result T DialFault) → IsErrAnd r (λ e. e ≡ why)
          → Tells {T = U} (socket_asked own d.lane token d.key d.seed []) Goes Drew (Err why) → DoesBy IsOpen (asking_first d) old now Goes Drew r
      socket_broken_as U now why r err tells = socket_broken U now why r err (subst (λ t. Tells {T = U} (socket_asked own d.lane t d.key d.seed []) Goes Drew (Err why)) named tells)
