-- What one connection says changes nothing of another, and it polls on if it polled.
use Rattle.std.proofs.Common.{◌≡◌, ℕ, ◌+◌, ◌==◌, Bool, true, false, not, ◌&&◌, ◌||◌, List, [], ◌∷◌, ◌++◌, Option, Some, None, is_some}
use Rattle.std.proofs.Common.{refl, ap, subst, ◌∙◌}
use Rattle.std.specs.Prelude.{if◌then◌else◌, nat_le, option_map}
use Rattle.hw_lanes.specs.declared.http.Reply.{Reply}
use Rattle.hd_delivery.specs.Frames.{LinkFrame}
use Rattle.hd_delivery.specs.Histories.{Config, EndEvent, Lent, is_closed, is_this, codec_of}
use Rattle.hd_delivery.specs.Bytes.{Does as Step_of, spelling_of}
use Rattle.hd_calls.specs.Peers.{Plain}
use Rattle.hd_server.specs.declared.vocabulary.Said.TheVariants as say
use Rattle.hd_server.specs.Numbers.{held_for}
use Rattle.hd_server.specs.Lives.{Answered, Ended, LaneLost, Polled, Removed, ended_at, is_polling, poll_ended, poll_of, socket_of}
use Rattle.hd_server.specs.Machine.{Does, Goes}
use Rattle.hd_server.specs.Doings.{ServerEvent, Hears, Notes, Works, Says, Sees, notes, moment, config_of, has_closed, history, is_full, wants_shut, was_refused}
use Rattle.hd_server.specs.Plans.{Setup, bare_reply, frames_reply, removing_conn, onto, replying, shutting}
use Rattle.hd_server.specs.Serves.{AreDueBy, AreDueOn, LendsAll, LendsUpTo, all_of, bytes_of, ending, is_text, lending, flushing, flushing_on, flushing_poll}
use Rattle.hd_server.specs.Serves.{flushing_some_poll, is_withheld, writing}
use Rattle.hd_server.specs.Parts.{Each, IsFlush}
use Rattle.hub_server.proofs.Alike.{Alike, alike_refl, alike_trans, alike_does, alike_goes, alike_note, alike_says, config_alike, history_alike}
use Rattle.hub_server.proofs.Alike.{there_alike}
use Rattle.hub_server.proofs.Answering.{replying_same}

-- ---- of another connection all stays the same

one_alike : (c k : ℕ) (d : ServerEvent) (h : List ServerEvent) → (c == k) ≡ false → IsFlush k d → Alike c (d ∷ h) h
one_alike c k (Works (Does x (Plain (Step_of (Lent f))))) h n e = alike_does c x (Plain (Step_of (Lent f))) h (ap (λ y. c == y) e ∙ n)
one_alike c k (Works (Goes x)) h n e = alike_goes c x h (ap (λ y. c == y) e ∙ n)
one_alike c k (Notes (Answered x lane now)) h n e = alike_note (Answered x lane now) c h (ap (λ y. c == y) e ∙ n) tt
one_alike c k (Notes (Ended x now)) h n e = alike_note (Ended x now) c h (ap (λ y. c == y) e ∙ n) tt
one_alike c k (Notes (Removed x)) h n e = alike_note (Removed x) c h (ap (λ y. c == y) e ∙ n) tt
one_alike c k (Says x) h n e = alike_says x c h
one_alike c k d h n e = absurd e

pub all_alike : (c k : ℕ) (ds h : List ServerEvent) → (c == k) ≡ false → Each (IsFlush k) ds → Alike c (onto ds h) h
all_alike c k [] h n a = alike_refl c h
all_alike c k (d ∷ ds) h n a = alike_trans c (onto ds (d ∷ h)) (d ∷ h) h (all_alike c k ds (d ∷ h) n a.1) (one_alike c k d h n a.0)

-- ---- nothing is heard meanwhile

pub record Unheard (g h : List ServerEvent) : Type 0 where
  pub clock : moment g ≡ moment h
  pub shut : (lane : ℕ) → wants_shut lane g ≡ wants_shut lane h
  pub refused : (lane : ℕ) → was_refused lane g ≡ was_refused lane h
  pub full : (lane : ℕ) → is_full lane g ≡ is_full lane h

pub unheard_same : (h : List ServerEvent) → Unheard h h
unheard_same h = record { clock = refl; shut = λ lane. refl; refused = λ lane. refl; full = λ lane. refl }

pub unheard_then : (f g h : List ServerEvent) → Unheard f g → Unheard g h → Unheard f h
unheard_then f g h x y = record {
  clock = x.clock ∙ y.clock;
  shut = λ lane. x.shut lane ∙ y.shut lane;
  refused = λ lane. x.refused lane ∙ y.refused lane;
  full = λ lane. x.full lane ∙ y.full lane;
}

one_unheard : (k : ℕ) (d : ServerEvent) (h : List ServerEvent) → IsFlush k d → Unheard (d ∷ h) h
one_unheard k (Hears now event) h e = absurd e
one_unheard k (Sees lane full) h e = absurd e
one_unheard k d h e = record { clock = refl; shut = λ lane. refl; refused = λ lane. refl; full = λ lane. refl }

pub all_unheard : (k : ℕ) (ds h : List ServerEvent) → Each (IsFlush k) ds → Unheard (onto ds h) h
all_unheard k [] h a = unheard_same h
all_unheard k (d ∷ ds) h a = unheard_then (onto ds (d ∷ h)) (d ∷ h) h (all_unheard k ds (d ∷ h) a.1) (one_unheard k d h a.0)

-- ---- a connection that polls goes on polling

ends_poll : {A B : Type 0} (b : Bool) (p : Option A) (now : B) (q : Option B) → (is_some p || is_some q) ≡ true
    → (is_some (if b then None else p) || is_some (if b then Some now else q)) ≡ true
ends_poll true p now q e = refl
ends_poll false p now q e = e

one_polls : (c k : ℕ) (d : ServerEvent) (h : List ServerEvent) → IsFlush k d → is_polling c (notes h) ≡ true → is_polling c (notes (d ∷ h)) ≡ true
one_polls c k (Notes (Answered x lane now)) h t e =
    ends_poll ((c == x) && is_this lane (option_map (λ (p : ℕ × ℕ). p.0) (poll_of c (notes h)))) (poll_of c (notes h)) now (poll_ended c (notes h)) e
one_polls c k (Notes (Polled x lane now)) h t e = absurd t
one_polls c k (Notes (LaneLost x lane now)) h t e = absurd t
one_polls c k d h t e = e

pub all_polls : (c k : ℕ) (ds h : List ServerEvent) → Each (IsFlush k) ds → is_polling c (notes h) ≡ true → is_polling c (notes (onto ds h)) ≡ true
all_polls c k [] h t e = e
all_polls c k (d ∷ ds) h t e = all_polls c k ds (d ∷ h) t.1 (one_polls c k d h t.0 e)

-- ---- what is said of a list that says the same

module _ (s : Setup) (now c : ℕ) (g h : List ServerEvent) (alike : Alike c g h) (unheard : Unheard g h) where
  same_letting : removing_conn c g ≡ removing_conn c h
  same_letting = ap (λ (b : Bool). (if b then Works (Goes c) ∷ [] else []) ++ Notes (Removed c) ∷ []) (there_alike c g h alike)

  same_shutting : (lane : ℕ) → shutting lane g ≡ shutting lane h
  same_shutting lane = ap (λ (b : Bool). if b then [] else Says (say.Shut lane) ∷ []) (unheard.refused lane)

  same_replying : (lane : ℕ) (reply : Reply) → replying lane reply g ≡ replying lane reply h
  same_replying lane reply = replying_same lane reply g h (unheard.shut lane) (unheard.refused lane)

  same_closed : has_closed c g ≡ has_closed c h
  same_closed =
      ap (λ (k : Config). is_closed k (history c g)) (config_alike c g h alike) ∙ ap (λ (xs : List EndEvent). is_closed (config_of c h) xs)
      (history_alike c g h alike)

  same_bytes : (fs : List LinkFrame) → bytes_of s c fs g ≡ bytes_of s c fs h
  same_bytes fs =
      ap (λ (k : Config). spelling_of s.wire (codec_of k (history c g)) fs) (config_alike c g h alike)
      ∙ ap (λ (xs : List EndEvent). spelling_of s.wire (codec_of (config_of c h) xs) fs) (history_alike c g h alike)

  same_text : is_text (config_of c g) (history c g) ≡ is_text (config_of c h) (history c h)
  same_text =
      ap (λ (k : Config). is_text k (history c g)) (config_alike c g h alike)
      ∙ ap (λ (xs : List EndEvent). is_text (config_of c h) xs) (history_alike c g h alike)

  same_writing : (lane : ℕ) (pieces : List (List LinkFrame)) → writing s c lane pieces g ≡ writing s c lane pieces h
  same_writing lane [] = refl
  same_writing lane (p ∷ ps) =
      ap (λ (bytes : List ℕ). Says (say.Bytes lane bytes (is_text (config_of c g) (history c g))) ∷ writing s c lane ps g) (same_bytes p)
      ∙ ap (λ (b : Bool). Says (say.Bytes lane (bytes_of s c p h) b) ∷ writing s c lane ps g) same_text
      ∙ ap (λ (xs : List ServerEvent). Says (say.Bytes lane (bytes_of s c p h) (is_text (config_of c h) (history c h))) ∷ xs) (same_writing lane ps)

  same_ending : ending now c g ≡ ending now c h
  same_ending =
      ap (λ (b : Bool). if b && not (is_some (ended_at c (notes g))) then Notes (Ended c now) ∷ [] else []) same_closed
      ∙ ap (λ (o : Option ℕ). if has_closed c h && not (is_some o) then Notes (Ended c now) ∷ [] else []) alike.ended

  same_poll : (p : ℕ × ℕ) (fs : List LinkFrame) → flushing_poll s now c p fs g ≡ flushing_poll s now c p fs h
  same_poll p [] =
      ap (λ (b : Bool). if b then replying p.0 (bare_reply 204) g ++ removing_conn c g
      else (if nat_le (p.1 + held_for) now then replying p.0 (bare_reply 200) g ++ Notes (Answered c p.0 now) ∷ [] else [])) same_closed
      ∙ ap (λ (xs : List ServerEvent). if has_closed c h then xs ++ removing_conn c g
      else (if nat_le (p.1 + held_for) now then replying p.0 (bare_reply 200) g ++ Notes (Answered c p.0 now) ∷ [] else []))
      (same_replying p.0 (bare_reply 204))
      ∙ ap (λ (xs : List ServerEvent). if has_closed c h then replying p.0 (bare_reply 204) h ++ xs
      else (if nat_le (p.1 + held_for) now then replying p.0 (bare_reply 200) g ++ Notes (Answered c p.0 now) ∷ [] else [])) same_letting
      ∙ ap (λ (xs : List ServerEvent). if has_closed c h then replying p.0 (bare_reply 204) h ++ removing_conn c h
      else (if nat_le (p.1 + held_for) now then xs ++ Notes (Answered c p.0 now) ∷ [] else [])) (same_replying p.0 (bare_reply 200))
  same_poll p (f ∷ fs) =
      ap (λ (xs : List ServerEvent). lending c (f ∷ fs) ++ xs ++ Notes (Answered c p.0 now) ∷ [])
      (same_replying p.0 (frames_reply (bytes_of s c (f ∷ fs) g)))
      ∙ ap (λ (bytes : List ℕ). lending c (f ∷ fs) ++ replying p.0 (frames_reply bytes) h ++ Notes (Answered c p.0 now) ∷ []) (same_bytes (f ∷ fs))

  same_poll_some : (o : Option (ℕ × ℕ)) (fs : List LinkFrame) → flushing_some_poll s now c o fs g ≡ flushing_some_poll s now c o fs h
  same_poll_some None fs = refl
  same_poll_some (Some p) fs = same_poll p fs

  same_on : (o : Option ℕ) (pieces : List (List LinkFrame)) → flushing_on s now c o pieces g ≡ flushing_on s now c o pieces h
  same_on (Some lane) pieces =
      ap (λ (xs : List ServerEvent). lending c (all_of pieces) ++ xs ++ (if has_closed c g then shutting lane g ++ removing_conn c g else []))
      (same_writing lane pieces)
      ∙ ap (λ (b : Bool). lending c (all_of pieces) ++ writing s c lane pieces h ++ (if b then shutting lane g ++ removing_conn c g else [])) same_closed
      ∙ ap (λ (xs : List ServerEvent). lending c (all_of pieces) ++ writing s c lane pieces h ++ (if has_closed c h then xs ++ removing_conn c g else []))
      (same_shutting lane)
      ∙ ap (λ (xs : List ServerEvent). lending c (all_of pieces) ++ writing s c lane pieces h ++
      (if has_closed c h then shutting lane h ++ xs else [])) same_letting
  same_on None pieces =
      ap (λ (b : Bool). if b then ending now c g ++ flushing_some_poll s now c (poll_of c (notes g)) (all_of pieces) g
      else (if has_closed c g then removing_conn c g else [])) same_polling
      ∙ ap (λ (xs : List ServerEvent). if is_polling c (notes h) then xs ++ flushing_some_poll s now c (poll_of c (notes g)) (all_of pieces) g
      else (if has_closed c g then removing_conn c g else [])) same_ending
      ∙ ap (λ (o : Option (ℕ × ℕ)). if is_polling c (notes h) then ending now c h ++ flushing_some_poll s now c o (all_of pieces) g
      else (if has_closed c g then removing_conn c g else [])) alike.poll
      ∙ ap (λ (xs : List ServerEvent). if is_polling c (notes h) then ending now c h ++ xs
      else (if has_closed c g then removing_conn c g else [])) (same_poll_some (poll_of c (notes h)) (all_of pieces))
      ∙ ap (λ (b : Bool). if is_polling c (notes h) then ending now c h ++ flushing_some_poll s now c (poll_of c (notes h)) (all_of pieces) h
      else (if b then removing_conn c g else [])) same_closed
      ∙ ap (λ (xs : List ServerEvent). if is_polling c (notes h) then ending now c h ++ flushing_some_poll s now c (poll_of c (notes h)) (all_of pieces) h
      else (if has_closed c h then xs else [])) same_letting
    where
      same_polling : is_polling c (notes g) ≡ is_polling c (notes h)
      same_polling = ap (λ (o : Option (ℕ × ℕ)). is_some o || is_some (poll_ended c (notes g))) alike.poll
          ∙ ap (λ (o : Option ℕ). is_some (poll_of c (notes h)) || is_some o) alike.polled

  pub same_flushing : (pieces : List (List LinkFrame)) → flushing_on s now c (socket_of c (notes g)) pieces g ≡ flushing s now c pieces h
  same_flushing pieces = ap (λ (o : Option ℕ). flushing_on s now c o pieces g) alike.socket ∙ same_on (socket_of c (notes h)) pieces

  same_withheld : (lane : ℕ) → is_withheld c lane g ≡ is_withheld c lane h
  same_withheld lane = ap (λ (b : Bool). b && not (has_closed c g)) (unheard.full lane) ∙ ap (λ (b : Bool). is_full lane h && not b) same_closed

  -- and the same is due there
  same_due_on : (o : Option ℕ) (poll : Option (ℕ × ℕ)) (pieces : List (List LinkFrame)) → AreDueOn s c o poll pieces g → AreDueOn s c o poll pieces h
  same_due_on o poll pieces x = go o poll x
    where
      all : (fs : List LinkFrame) → LendsAll (config_of c g) (history c g) fs → LendsAll (config_of c h) (history c h) fs
      all fs y = subst (λ k. LendsAll k (history c h) fs) (config_alike c g h alike) (subst (λ xs. LendsAll (config_of c g) xs fs)
          (history_alike c g h alike) y)

      some : (fs : List LinkFrame) → LendsUpTo s.wire (config_of c g) (history c g) 0 fs → LendsUpTo s.wire (config_of c h) (history c h) 0 fs
      some fs y = subst (λ k. LendsUpTo s.wire k (history c h) 0 fs) (config_alike c g h alike)
          (subst (λ xs. LendsUpTo s.wire (config_of c g) xs 0 fs) (history_alike c g h alike) y)

      by : (b : Bool) → AreDueBy b c pieces g → AreDueBy b c pieces h
      by true y = y
      by false y = (y.0, all (all_of pieces) y.1)

      go : (o : Option ℕ) (poll : Option (ℕ × ℕ)) → AreDueOn s c o poll pieces g → AreDueOn s c o poll pieces h
      go (Some lane) poll y = by (is_withheld c lane h) (subst (λ b. AreDueBy b c pieces g) (same_withheld lane) y)
      go None (Some p) y = some (all_of pieces) y
      go None None y = y

  pub same_due : (pieces : List (List LinkFrame)) → AreDueOn s c (socket_of c (notes g)) (poll_of c (notes g)) pieces g
      → AreDueOn s c (socket_of c (notes h)) (poll_of c (notes h)) pieces h
  same_due pieces x =
      subst (λ o. AreDueOn s c o (poll_of c (notes h)) pieces h) alike.socket
      (subst (λ p. AreDueOn s c (socket_of c (notes g)) p pieces h) alike.poll
      (same_due_on (socket_of c (notes g)) (poll_of c (notes g)) pieces x))
