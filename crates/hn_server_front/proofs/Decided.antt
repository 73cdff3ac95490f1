-- What is decided where a request leads is what the table says of the request.
use Rattle.std.proofs.Common.{◌≡◌, ℕ, Bool, false, List, Option, Some, IfSome, refl, sym, ap, subst, ◌∙◌}
use Rattle.hw_lanes.specs.declared.http.Request.{Request}
use Rattle.hd_server.specs.declared.vocabulary.Caller.{Caller}
use Rattle.hd_server.specs.declared.vocabulary.Life.{Life}
use Rattle.hd_server.specs.declared.vocabulary.Life.TheVariants.{Unknown}
use Rattle.hd_server.specs.declared.vocabulary.Outcome.{Outcome}
use Rattle.hd_server.specs.Lives.{is_busy, life, life_of_some}
use Rattle.hd_server.specs.Plans.{conn_of_some}
use Rattle.hd_server.specs.Table.{Facts, id_in, outcome}
use Rattle.hn_server_front.specs.declared.front.Front.{Front}
use Rattle.hn_server_front.specs.declared.route.Route.{Route}
use Rattle.hn_server_front.specs.Calls.{OfEach}
use Rattle.hn_server_front.specs.Routes.{RoutesTo, facts_at, outcome_at, token_at}

module _ (front : Front) (to : Route) (caller : Caller) (resumable : Bool) (now : ℕ) (out : Outcome) where
  abbrev ByRows : Type 0
  ByRows = OfEach front (λ h. (base : List ℕ) (r : Request) → RoutesTo base r to → out ≡ outcome base r (facts_at front.live r caller resumable now h))

  abbrev OfTable : Type 0
  OfTable = (base : List ℕ) (r : Request) → RoutesTo base r to → (f : Facts) × (out ≡ outcome base r f)

  -- whatever holds
  abbrev Always : Type 0
  Always = (f : Facts) → out ≡ outcome_at to f

  pub rows_always : Always → ByRows
  rows_always done h st base r routed =
      let f : Facts = facts_at front.live r caller resumable now h in
      done f ∙ sym (routed.by_rows f)

  pub table_always : Always → OfTable
  table_always done base r routed =
      let f : Facts = record { caller = caller; busy = false; lots_failed = false; life = Unknown; granted = resumable } in
      (f, done f ∙ sym (routed.by_rows f))

  -- by who calls, and by whether there is room
  abbrev Enters : Bool → Type 0
  Enters busy = (f : Facts) → f.caller ≡ caller → f.busy ≡ busy → f.lots_failed ≡ false → out ≡ outcome_at to f

  pub rows_of_entry : (busy : Bool) → OfEach front (λ h. busy ≡ is_busy front.live now h) → Enters busy → ByRows
  rows_of_entry busy full done h st base r routed =
      let f : Facts = facts_at front.live r caller resumable now h in
      done f refl (sym (full h st)) refl ∙ sym (routed.by_rows f)

  pub table_of_entry : (busy : Bool) → Enters busy → OfTable
  table_of_entry busy done base r routed =
      let f : Facts = record { caller = caller; busy = busy; lots_failed = false; life = Unknown; granted = resumable } in
      (f, done f refl refl refl ∙ sym (routed.by_rows f))

  -- by the life of the token that is named, and by whether its connection's end may be resumed
  abbrev Suits : Life → Type 0
  Suits l = (f : Facts) → f.life ≡ l → f.granted ≡ resumable → out ≡ outcome_at to f

  pub rows_of_token : (token : List ℕ) (l : Life) → token_at to ≡ Some token → OfEach front (λ h. l ≡ life token now h) → Suits l → ByRows
  rows_of_token token l named lives done h st base r routed =
      let f : Facts = facts_at front.live r caller resumable now h in
      let id : id_in r ≡ Some token = subst (λ (t : Option (List ℕ)). IfSome t (λ x. id_in r ≡ Some x)) named routed.named in
      done f (ap (λ (i : Option (List ℕ)). life_of_some (conn_of_some i h) now h) id ∙ sym (lives h st)) refl ∙ sym (routed.by_rows f)

  pub table_of_token : (l : Life) → Suits l → OfTable
  table_of_token l done base r routed =
      let f : Facts = record { caller = caller; busy = false; lots_failed = false; life = l; granted = resumable } in
      (f, done f refl refl ∙ sym (routed.by_rows f))
