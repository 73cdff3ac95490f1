-- Which lanes wait after what is done about an event, where none polls on a lane on which another stands.
use Rattle.std.proofs.Common.{refl, ap, subst, sym, ◌∙◌, ◌≡◌, ℕ, false, List, ◌∷◌, Option, Some, None}
use Rattle.std.specs.Prelude.{is_some, not, unwrap_or, if◌then◌else◌}
use Rattle.std.proofs.lemmas.Bool.{eq-eqb}
use Rattle.hw_door.specs.declared.heard.Event.{Event}
use Rattle.hw_door.specs.declared.heard.Event.TheVariants as event
use Rattle.hd_server.specs.Lives.{life_of_some}
use Rattle.hd_server.specs.Table.{outcome}
use Rattle.hd_server.specs.Doings.{ServerEvent, Hears, notes, awaits_reply}
use Rattle.hd_server.specs.Plans.{Setup, onto, conn_on, poller_on, named_conn, facts, plan}
use Rattle.hd_server.specs.Serves.{IsFed, IsFree}
use Rattle.hd_server.proofs.RepliesSent.{outcome_sent}
use Rattle.hd_server.proofs.RepliesLanes.{Holds, Calm, calm_holds}
use Rattle.hd_server.proofs.RepliesPlans.{Named, fed_calm, request_holds}
use Rattle.hd_server.proofs.RepliesTurns.{Apart, hears_request, hears_lost, lost_holds}

-- which lanes wait while an event is handled
abbrev pub Hearing : Event → List ServerEvent → Type 0
Hearing (event.Request lane r) h = Holds (Some lane) None h
Hearing (event.Lost lane) h = (awaits_reply lane h ≡ false) × Holds None (Some lane) h
Hearing _ h = Holds None None h

pub hearing_calm : (e : Event) (g x : List ServerEvent) → Calm g x → Hearing e g → Hearing e x
hearing_calm (event.Request lane r) g x a ok = calm_holds (Some lane) None g x a ok
hearing_calm (event.Lost lane) g x a ok = (a.same_waits lane ∙ ok.0, calm_holds None (Some lane) g x a ok.1)
hearing_calm (event.Refused lane refusal) g x a ok = calm_holds None None g x a ok
hearing_calm (event.Bytes lane bytes) g x a ok = calm_holds None None g x a ok
hearing_calm (event.Response lane status body) g x a ok = calm_holds None None g x a ok
hearing_calm (event.Upgraded lane) g x a ok = calm_holds None None g x a ok
hearing_calm (event.Drained lane) g x a ok = calm_holds None None g x a ok
hearing_calm event.Quiet g x a ok = calm_holds None None g x a ok

-- what is needed of the connection that a request names, and of a lane that is lost
abbrev pub Needs : ℕ → Event → List ServerEvent → Type 0
Needs now (event.Request lane r) h = Named (unwrap_or (named_conn r h) 0) (life_of_some (named_conn r h) now (notes h)) h
Needs now (event.Lost lane) h = Apart h
Needs now _ h = Unit {0}

pub handled_lanes : (s : Setup) (now : ℕ) (e : Event) (name : Option (Option (List ℕ))) (drawn : Option (List ℕ)) (h fed : List ServerEvent) → Hearing e h
    → Needs now e h → IsFed now (plan s now e name drawn h).food (onto (plan s now e name drawn h).first h) fed
    → Holds None None (onto (plan s now e name drawn h).last fed)
handled_lanes s now (event.Request lane r) name drawn h fed ok n e =
    let f = facts s now r name (not (is_some drawn)) h in
    request_holds s now lane r drawn (unwrap_or (named_conn r h) 0) h f.life n ok (outcome s.base r f) (outcome_sent s.base r f) fed e
handled_lanes s now (event.Lost lane) name drawn h fed ok n e =
    subst (Holds None None) (sym e) (lost_holds now lane h n ok.0 ok.1 (conn_on lane h) (poller_on lane h) refl refl)
handled_lanes s now (event.Bytes lane bytes) name drawn h fed ok n e = calm_holds None None h fed (fed_calm now _ h fed e) ok
handled_lanes s now (event.Refused lane refusal) name drawn h fed ok n e = subst (Holds None None) (sym e) ok
handled_lanes s now (event.Response lane status body) name drawn h fed ok n e = subst (Holds None None) (sym e) ok
handled_lanes s now (event.Upgraded lane) name drawn h fed ok n e = subst (Holds None None) (sym e) ok
handled_lanes s now (event.Drained lane) name drawn h fed ok n e = subst (Holds None None) (sym e) ok
handled_lanes s now event.Quiet name drawn h fed ok n e = subst (Holds None None) (sym e) ok

hears_calm : (now : ℕ) (e : Event) (g : List ServerEvent) → ((lane : ℕ) → awaits_reply lane (Hears now e ∷ g) ≡ awaits_reply lane g) → Calm g (Hears now e ∷ g)
hears_calm now e g same = record { same_polls = λ c. refl; fewer = λ c p i f. f; same_waits = same; told_still = λ t. t }

pub heard_lanes : (now : ℕ) (e : Event) (g : List ServerEvent) → IsFree e g → Holds None None g → Hearing e (Hears now e ∷ g)
heard_lanes now (event.Request lane r) g free ok = hears_request now lane r g free.1 ok
heard_lanes now (event.Lost lane) g free ok =
    (ap (λ b. if b then false else awaits_reply lane g) (eq-eqb lane lane refl), hears_lost now lane g ok)
heard_lanes now (event.Refused lane refusal) g free ok = calm_holds None None g _ (hears_calm now (event.Refused lane refusal) g (λ l. refl)) ok
heard_lanes now (event.Bytes lane bytes) g free ok = calm_holds None None g _ (hears_calm now (event.Bytes lane bytes) g (λ l. refl)) ok
heard_lanes now (event.Response lane status body) g free ok = calm_holds None None g _ (hears_calm now (event.Response lane status body) g (λ l. refl)) ok
heard_lanes now (event.Upgraded lane) g free ok = calm_holds None None g _ (hears_calm now (event.Upgraded lane) g (λ l. refl)) ok
heard_lanes now (event.Drained lane) g free ok = calm_holds None None g _ (hears_calm now (event.Drained lane) g (λ l. refl)) ok
heard_lanes now event.Quiet g free ok = calm_holds None None g _ (hears_calm now event.Quiet g (λ l. refl)) ok
