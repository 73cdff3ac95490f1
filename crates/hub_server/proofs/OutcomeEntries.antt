-- Requests that make a connection: what is drawn, and what is told.
use Rattle.std.proofs.Common.{◌≡◌, ◌≤◌, ℕ, suc, Bool, false, List, [], ◌∷◌, ◌++◌, length, Option, Some, None, refl, sym, subst}
use Rattle.std.proofs.lemmas.List.{append-nil}
use Rattle.hd_facts.specs.Counts.{Rose}
use Rattle.hw_lanes.specs.declared.http.Reply.{Reply}
use Rattle.hd_calls.specs.Hubs.{Hub}
use Rattle.hw_door.specs.Calls.{Adds}
use Rattle.hd_server.specs.declared.vocabulary.Said.{Said}
use Rattle.hd_server.specs.Lives.{Negotiated, Opened, made}
use Rattle.hd_server.specs.Texts.{negotiate_body, token_of}
use Rattle.hd_server.specs.Doings.{ServerEvent, Draws, Notes, moment, notes}
use Rattle.hd_server.specs.Plans.{PendingRequest, Setup, bare_reply, giving_way, new_plain, new_token, onto, replying, standing_on, token_reply}
use Rattle.hub_server.specs.declared.server.Server.{Server}
use Rattle.hub_server.specs.Lanes.{settled}
use Rattle.hub_server.specs.Servers.{Standing}
use Rattle.hub_server.specs.Steps.{AddsAll}
use Rattle.hub_server.specs.Requests.{MakesToken, OpensTo, TellsToken}
use Rattle.hub_server.proofs.OntoAlike.{onto_append}

-- ---- what the lots tell

pub same_draws : (told : Option (List (Option (List ℕ)))) → AddsAll told told []
same_draws None = tt
same_draws (Some drawn) = sym (append-nil drawn)

one_draw : (told now : Option (List (Option (List ℕ)))) (one : Option (List ℕ)) → Adds told now one → AddsAll told now (one ∷ [])
one_draw told None one e = tt
one_draw None (Some now) one e = e
one_draw (Some told) (Some now) one e = e

module _ {H Job : Type 0} (hub : Hub Job) (s : Setup) (before : List Said) (new : Server H Job) (o : PendingRequest) (h : List ServerEvent) where
  -- the lots fail
  pub token_refused : (reconnect : Bool) (told told_now : Option (List (Option (List ℕ)))) (failures failures_now lane : ℕ) (reply : Reply)
      → o.lane ≡ lane → reply ≡ bare_reply 500 → Adds told told_now None → failures ≤ failures_now → Rose failures failures_now
      → Standing {H = H} hub s settled before new (onto (replying lane reply (Draws None ∷ h)) (Draws None ∷ h))
      → MakesToken {H = H} hub s before new o reconnect told failures told_now failures_now h
  token_refused reconnect told told_now failures failures_now lane reply on bare adds later rose st = record {
    drawn = None;
    of_sixteen = tt;
    stands =
        subst (λ (l : ℕ). Standing {H = H} hub s settled before new (onto (replying l (bare_reply 500) (Draws None ∷ h)) (Draws None ∷ h))) (sym on)
        (subst (λ (r : Reply). Standing {H = H} hub s settled before new (onto (replying lane r (Draws None ∷ h)) (Draws None ∷ h))) bare st);
    drawn_told = one_draw told told_now None adds;
    failed = (failures_now, (later, rose), refl);
  }

  -- a token was drawn and told
  pub token_made : (reconnect : Bool) (told told_now : Option (List (Option (List ℕ)))) (failures failures_now : ℕ) (bytes : List ℕ)
      → length bytes ≡ 16 → Adds told told_now (Some bytes) → failures_now ≡ failures → TellsToken {H = H} hub s before new o reconnect bytes (Draws (Some bytes) ∷ h)
      → MakesToken {H = H} hub s before new o reconnect told failures told_now failures_now h
  token_made reconnect told told_now failures failures_now bytes sixteen adds unfailed st = record {
    drawn = Some bytes;
    of_sixteen = sixteen;
    stands = st;
    drawn_told = one_draw told told_now (Some bytes) adds;
    failed = (failures, refl, unfailed);
  }

  -- the history once another gave way
  abbrev left : ℕ → List ServerEvent
  left now = onto (giving_way s now h) h

  -- a token is told
  pub token_told : (reconnect : Bool) (lane : ℕ) (bytes body : List ℕ)
      → o.now ≡ moment h → o.lane ≡ lane
      → body ≡ negotiate_body (suc (made (notes (left (moment h))))) (token_of bytes (suc (made (notes (left (moment h)))))) reconnect
      → Standing {H = H} hub s settled before new (onto (replying lane (token_reply body) (Notes (Negotiated (suc (made (notes (left (moment h)))))
      (token_of bytes (suc (made (notes (left (moment h)))))) reconnect (moment h)) ∷ left (moment h))) (Notes (Negotiated (suc (made (notes (left (moment h)))))
      (token_of bytes (suc (made (notes (left (moment h)))))) reconnect (moment h)) ∷ left (moment h)))
      → TellsToken {H = H} hub s before new o reconnect bytes h
  token_told reconnect lane bytes body at on tells st =
      let g : List ServerEvent = left (moment h) in
      let k : ℕ = suc (made (notes g)) in
      let token : List ℕ = token_of bytes k in
      let reply : List ServerEvent = replying o.lane (token_reply (negotiate_body k token reconnect)) g in
      subst (λ (n : ℕ). Standing {H = H} hub s settled before new (onto (giving_way s n h ++ new_token o (suc (made (notes (left n))))
      (token_of bytes (suc (made (notes (left n))))) reconnect (left n)) h)) (sym at)
      (subst (λ (x : List ServerEvent). Standing {H = H} hub s settled before new x)
      (sym (onto_append (giving_way s (moment h) h) (new_token o k token reconnect g) h))
      (subst (λ (n : ℕ). Standing {H = H} hub s settled before new (onto reply (Notes (Negotiated k token reconnect n) ∷ g))) (sym at)
      (subst (λ (l : ℕ). Standing {H = H} hub s settled before new (onto (replying l (token_reply (negotiate_body k token reconnect)) g)
      (Notes (Negotiated k token reconnect (moment h)) ∷ g))) (sym on)
      (subst (λ (b : List ℕ). Standing {H = H} hub s settled before new (onto (replying lane (token_reply b) g)
      (Notes (Negotiated k token reconnect (moment h)) ∷ g))) tells st))))

  -- one more connection stands on a socket
  pub socket_opened : o.now ≡ moment h → Standing {H = H} hub s settled before new
      (onto (standing_on s o (suc (made (notes (left (moment h))))) false (Notes (Opened (suc (made (notes (left (moment h))))) (moment h)) ∷ left (moment h)))
      (Notes (Opened (suc (made (notes (left (moment h))))) (moment h)) ∷ left (moment h)))
      → OpensTo {H = H} hub s before new o h
  socket_opened at st =
      let g : List ServerEvent = left (moment h) in
      let k : ℕ = suc (made (notes g)) in
      subst (λ (n : ℕ). Standing {H = H} hub s settled before new (onto (giving_way s n h ++ new_plain s o (suc (made (notes (left n)))) (left n)) h)) (sym at)
      (subst (λ (x : List ServerEvent). Standing {H = H} hub s settled before new x) (sym (onto_append (giving_way s (moment h) h) (new_plain s o k g) h))
      (subst (λ (n : ℕ). Standing {H = H} hub s settled before new (onto (standing_on s o k false (Notes (Opened k n) ∷ g)) (Notes (Opened k n) ∷ g))) (sym at) st))
