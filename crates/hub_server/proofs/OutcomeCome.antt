-- A request that waits for its reply, while other things are done: its lane stays as it was, and nobody comes on it.
use Rattle.std.proofs.Common.{◌≡◌, ℕ, Bool, true, false, List, [], ◌∷◌, ◌++◌, Option, Some, None, is_some, option_map, refl, sym, ap, subst, ◌∙◌}
use Rattle.std.specs.Prelude.{◌==◌, not, ◌&&◌, ◌||◌, if◌then◌else◌}
use Rattle.std.proofs.lemmas.Bool.{cond-false}
use Rattle.hw_lanes.specs.declared.http.Reply.{Reply}
use Rattle.hd_delivery.specs.declared.vocabulary.Reason.{Reason}
use Rattle.hd_delivery.specs.Histories.{Closed, is_this}
use Rattle.hd_calls.specs.Peers.{PeerEvent}
use Rattle.hd_server.specs.declared.vocabulary.Said.TheVariants as say
use Rattle.hd_server.specs.Lives.{Answered, Removed, is_polling, poll_ended, poll_of, socket_of}
use Rattle.hd_server.specs.Machine.{MachineEvent, Does, Goes, has_gone, is_open, is_there, settings_of}
use Rattle.hd_server.specs.Doings.{ServerEvent, Notes, Says, Works, awaits_reply, has_peer, is_full, is_up, notes, wants_shut, was_refused, work}
use Rattle.hd_server.specs.Plans.{Setup, PendingRequest, bare_reply, closing, ends_lane, ending_held, ending_poll, removing_conn, onto, replying, shutting_some, standing_on, step}
use Rattle.hd_server.specs.Serves.{FeedsOne, moving}
use Rattle.hub_server.specs.Lanes.{IsNobodys, is_at, poll_lane}
use Rattle.hub_server.specs.Connections.{IsKnown}
use Rattle.hub_server.specs.Steps.{HasCome}
use Rattle.hub_server.proofs.Answering.{last_empty, replying_same, says_by}
use Rattle.hub_server.proofs.OntoAlike.{onto_append}

-- ---- the lane of the request

-- what is looked at there is after some doings as it was before them
pub record Stays (lane : ℕ) (g h : List ServerEvent) : Type 0 where
  pub awaits : awaits_reply lane g ≡ awaits_reply lane h
  pub shut : wants_shut lane g ≡ wants_shut lane h
  pub refused : was_refused lane g ≡ was_refused lane h
  pub full : is_full lane g ≡ is_full lane h
  pub nobody : IsNobodys lane h → IsNobodys lane g

pub stays_same : (lane : ℕ) (h : List ServerEvent) → Stays lane h h
stays_same lane h = record { awaits = refl; shut = refl; refused = refl; full = refl; nobody = λ n. n }

pub stays_then : (lane : ℕ) (f g h : List ServerEvent) → Stays lane f g → Stays lane g h → Stays lane f h
stays_then lane f g h a b = record {
  awaits = a.awaits ∙ b.awaits;
  shut = a.shut ∙ b.shut;
  refused = a.refused ∙ b.refused;
  full = a.full ∙ b.full;
  nobody = λ n. a.nobody (b.nobody n);
}

pub come_stays : (lane : ℕ) (is_last : Bool) (g h : List ServerEvent) → Stays lane g h → HasCome lane is_last h → HasCome lane is_last g
come_stays lane is_last g h s come = record {
  waits = s.awaits ∙ come.waits;
  last = come.last ∙ sym s.shut;
  unrefused = s.refused ∙ come.unrefused;
  empty = s.full ∙ come.empty;
  nobody = s.nobody come.nobody;
}

-- so it is answered as it would have been before them
pub replying_stays : (lane : ℕ) (reply : Reply) (g h : List ServerEvent) → Stays lane g h → replying lane reply g ≡ replying lane reply h
replying_stays lane reply g h s = replying_same lane reply g h s.shut s.refused

-- ---- one doing

stays_does : (lane k : ℕ) (m : PeerEvent) (h : List ServerEvent) → Stays lane (Works (Does k m) ∷ h) h
stays_does lane k m h = record { awaits = refl; shut = refl; refused = refl; full = refl; nobody = λ n. n }

pub stays_lets : (lane k : ℕ) (h : List ServerEvent) → Stays lane (Notes (Removed k) ∷ h) h
stays_lets lane k h = record { awaits = refl; shut = refl; refused = refl; full = refl; nobody = λ n. n }

pub stays_shut : (lane k : ℕ) (h : List ServerEvent) → Stays lane (Says (say.Shut k) ∷ h) h
stays_shut lane k h = record { awaits = refl; shut = refl; refused = refl; full = refl; nobody = λ n. n }

stays_reply : (lane k : ℕ) (reply : Reply) (h : List ServerEvent) → (lane == k) ≡ false → Stays lane (Says (say.Reply k reply) ∷ h) h
stays_reply lane k reply h e =
    record { awaits = cond-false (lane == k) false (awaits_reply lane h) e; shut = refl; refused = refl; full = refl; nobody = λ n. n }

pub stays_goes : (lane k : ℕ) (h : List ServerEvent) → Stays lane (Works (Goes k) ∷ h) h
stays_goes lane k h = record {
  awaits = refl;
  shut = refl;
  refused = refl;
  full = refl;
  nobody = λ n c. fewer (is_some (settings_of c (work h))) (c == k) (has_gone c (work h)) _ (n c);
}
  where
    fewer : (s k g at : Bool) → ((s && not g) && at) ≡ false → ((s && not (k || g)) && at) ≡ false
    fewer true true g at e = refl
    fewer true false g at e = e
    fewer false k g at e = refl

stays_answered : (lane k l now : ℕ) (h : List ServerEvent) → Stays lane (Notes (Answered k l now) ∷ h) h
stays_answered lane k l now h = record {
  awaits = refl;
  shut = refl;
  refused = refl;
  full = refl;
  nobody = λ n c. fewer (has_peer c h) (is_this lane (socket_of c (notes h)))
      ((c == k) && is_this l (option_map (λ p. p.0) (poll_of c (notes h)))) (poll_of c (notes h)) (n c);
}
  where
    fewer : (there socket b : Bool) (poll : Option (ℕ × ℕ)) → (there && (socket || is_this lane (option_map (λ p. p.0) poll))) ≡ false
        → (there && (socket || is_this lane (option_map (λ (p : ℕ × ℕ). p.0) (if b then None else poll)))) ≡ false
    fewer there socket false poll e = e
    fewer true true true poll e = absurd (cc)
    fewer true false true poll e = refl
    fewer false socket true poll e = refl

-- ---- what is fed

pub stays_moving : (lane c : ℕ) (ms : List PeerEvent) (h : List ServerEvent) → Stays lane (moving c ms h) h
stays_moving lane c [] h = stays_same lane h
stays_moving lane c (m ∷ ms) h = stays_then lane _ _ h (stays_does lane c m (moving c ms h)) (stays_moving lane c ms h)

pub stays_fed : (lane now c : ℕ) (bytes : List ℕ) (h after : List ServerEvent) → FeedsOne now c bytes h after → Stays lane after h
stays_fed lane now c bytes h after f = subst (λ (g : List ServerEvent). Stays lane g h) (sym f.are) (stays_moving lane c f.moves h)

-- ---- the poll that is held ends

-- whatever holds of nothing, and of a reply and the note of it, holds then
pub ended_either : (P : List ServerEvent → Type 0) (c now : ℕ) (h : List ServerEvent) → P h
    → ((p : ℕ × ℕ) → poll_of c (notes h) ≡ Some p → P (Notes (Answered c p.0 now) ∷ Says (say.Reply p.0 (bare_reply 204)) ∷ h))
    → ((p : ℕ × ℕ) → poll_of c (notes h) ≡ Some p
    → P (Notes (Answered c p.0 now) ∷ Says (say.Shut p.0) ∷ Says (say.Reply p.0 last_empty) ∷ h))
    → P (onto (ending_held c now h) h)
ended_either P c now h none one two = go (poll_of c (notes h)) refl
  where
    shuts : (p : ℕ × ℕ) → poll_of c (notes h) ≡ Some p → (b : Bool) → P (onto (says_by p.0 (bare_reply 204) b ++ Notes (Answered c p.0 now) ∷ []) h)
    shuts p e false = one p e
    shuts p e true = two p e

    go : (o : Option (ℕ × ℕ)) → poll_of c (notes h) ≡ o → P (onto (ending_poll c now o h) h)
    go None e = none
    go (Some p) e = shuts p e (ends_lane p.0 204 h)

ended_work : (c now : ℕ) (h : List ServerEvent) → work (onto (ending_held c now h) h) ≡ work h
ended_work c now h = ended_either (λ (g : List ServerEvent). work g ≡ work h) c now h refl (λ p e. refl) (λ p e. refl)

pub ended_known : (c now : ℕ) (h : List ServerEvent) → IsKnown c h → IsKnown c (onto (ending_held c now h) h)
ended_known c now h k = ended_either (λ (g : List ServerEvent). IsKnown c g) c now h k
    (λ p e. record { made = k.made; held = k.held }) (λ p e. record { made = k.made; held = k.held })

-- a poll that is held is on another lane
apart : (lane c : ℕ) (p : ℕ × ℕ) (h : List ServerEvent) → is_at lane c h ≡ false → has_peer c h ≡ true → poll_of c (notes h) ≡ Some p → (lane == p.0) ≡
    false
apart lane c p h e there polls =
    ap (λ (o : Option (ℕ × ℕ)). is_this lane (option_map (λ poll. poll.0) o)) (sym polls)
    ∙ last (has_peer c h) (is_this lane (socket_of c (notes h))) (is_this lane (poll_lane c (notes h))) e there
  where
    last : (x s y : Bool) → (x && (s || y)) ≡ false → x ≡ true → y ≡ false
    last true true y e f = absurd (cc)
    last true false y e f = e
    last false s y e f = absurd (cc)

pub ended_stays : (lane c now : ℕ) (h : List ServerEvent) → IsNobodys lane h → (is_polling c (notes h) ≡ true → has_peer c h ≡ true)
    → Stays lane (onto (ending_held c now h) h) h
ended_stays lane c now h nobody there = ended_either (λ (g : List ServerEvent). Stays lane g h) c now h (stays_same lane h)
    (λ p e. stays_then lane _ _ h (stays_answered lane c p.0 now _) (off p (bare_reply 204) e))
    (λ p e. stays_then lane _ _ h (stays_answered lane c p.0 now _) (stays_then lane _ _ h (stays_shut lane p.0 _) (off p last_empty e)))
  where
    off : (p : ℕ × ℕ) (reply : Reply) → poll_of c (notes h) ≡ Some p → Stays lane (Says (say.Reply p.0 reply) ∷ h) h
    off p reply e = stays_reply lane p.0 reply h
        (apart lane c p h (nobody c) (there (ap (λ (o : Option (ℕ × ℕ)). is_some o || is_some (poll_ended c (notes h))) e)) e)

-- ---- the connection is closed and let go

pub closed_stays : (lane c : ℕ) (why : Reason) (g h : List ServerEvent) → Stays lane (onto (closing c why g ++ removing_conn c g) h) h
closed_stays lane c why g h = go (is_up c g) (has_peer c g)
  where
    go : (a b : Bool)
        → Stays lane (onto ((if a then step c (Closed why false) ∷ [] else []) ++ ((if b then Works (Goes c) ∷ [] else []) ++ Notes (Removed c) ∷ []))
        h) h
    go true true = stays_then lane _ _ h (stays_lets lane c _) (stays_then lane _ _ h (stays_goes lane c _) (stays_does lane c _ h))
    go true false = stays_then lane _ _ h (stays_lets lane c _) (stays_does lane c _ h)
    go false true = stays_then lane _ _ h (stays_lets lane c _) (stays_goes lane c h)
    go false false = stays_lets lane c h

-- the doings of its deletion, one after the other, are those of the plan
pub deleted_so : (lane c now : ℕ) (why : Reason) (reply : Reply) (h : List ServerEvent)
    → Stays lane (onto (closing c why (onto (ending_held c now h) h) ++ removing_conn c (onto (ending_held c now h) h)) (onto (ending_held c now h) h)) h
    → onto (replying lane reply (onto (closing c why (onto (ending_held c now h) h) ++ removing_conn c (onto (ending_held c now h) h))
    (onto (ending_held c now h) h)))
    (onto (closing c why (onto (ending_held c now h) h) ++ removing_conn c (onto (ending_held c now h) h)) (onto (ending_held c now h) h))
    ≡ onto (ending_held c now h ++ closing c why h ++ removing_conn c h ++ replying lane reply h) h
deleted_so lane c now why reply h s =
    let ended : List ServerEvent = onto (ending_held c now h) h in
    let gone : List ServerEvent = onto (closing c why ended ++ removing_conn c ended) ended in
    let closes : List ServerEvent = closing c why h in
    let lets : List ServerEvent = removing_conn c h in
    let says : List ServerEvent = replying lane reply h in
    let as_before : closing c why ended ++ removing_conn c ended ≡ closes ++ lets =
    ap (λ (w : List MachineEvent). (if is_open c w then step c (Closed why false) ∷ [] else [])
    ++ ((if is_there c w then Works (Goes c) ∷ [] else []) ++ Notes (Removed c) ∷ [])) (ended_work c now h) in
    ap (λ (xs : List ServerEvent). onto xs gone) (replying_stays lane reply gone h s)
    ∙ ap (λ (xs : List ServerEvent). onto says (onto xs ended)) as_before
    ∙ ap (λ (g : List ServerEvent). onto says g) (onto_append closes lets ended)
    ∙ sym (onto_append (ending_held c now h ++ closes ++ lets) says h
    ∙ ap (λ (g : List ServerEvent). onto says g) (onto_append (ending_held c now h ++ closes) lets h
    ∙ ap (λ (g : List ServerEvent). onto lets g) (onto_append (ending_held c now h) closes h)))

-- ---- an older lane is shut

-- doings after it, where none or a word came between
pub shut_either : (P : List ServerEvent → Type 0) (o : Option ℕ) (h : List ServerEvent) → P h → ((lane : ℕ) → P (Says (say.Shut lane) ∷ h)) → P
    (onto (shutting_some o h) h)
shut_either P None h none one = none
shut_either P (Some lane) h none one = go (was_refused lane h)
  where
    go : (r : Bool) → P (onto (if r then [] else Says (say.Shut lane) ∷ []) h)
    go true = none
    go false = one lane

pub standing_on_shut : (s : Setup) (o : PendingRequest) (c : ℕ) (resumable : Bool) (socket : Option ℕ) (h : List ServerEvent)
    → onto (standing_on s o c resumable (onto (shutting_some socket h) h)) (onto (shutting_some socket h) h)
    ≡ onto (shutting_some socket h ++ standing_on s o c resumable h) h
standing_on_shut s o c resumable socket h =
    ap (λ (xs : List ServerEvent). onto xs (onto (shutting_some socket h) h))
    (shut_either (λ (g : List ServerEvent). standing_on s o c resumable g ≡ standing_on s o c resumable h) socket h refl (λ lane. refl))
    ∙ sym (onto_append (shutting_some socket h) (standing_on s o c resumable h) h)
