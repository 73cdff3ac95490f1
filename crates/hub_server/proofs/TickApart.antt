-- Doings of one connection, that leave every other one and all lanes as they are.
use Rattle.std.proofs.Common.{◌≡◌, ℕ, ◌==◌, Bool, false, List, [], ◌∷◌, ◌++◌, Option, Some, None, is_some}
use Rattle.std.proofs.Common.{refl, ap, ◌∙◌}
use Rattle.std.specs.Prelude.{if◌then◌else◌}
use Rattle.hd_delivery.specs.Histories.{Silenced, Ticked, is_silence, present_link}
use Rattle.hd_server.specs.declared.vocabulary.Said.TheVariants as say
use Rattle.hd_server.specs.declared.vocabulary.Life.{Life}
use Rattle.hd_server.specs.Lives.{Expired, LaneLost, Removed, socket_of}
use Rattle.hd_server.specs.Machine.{Does, Goes}
use Rattle.hd_server.specs.Doings.{ServerEvent, Notes, Works, Says, notes, moment, config_of, history, may_resume}
use Rattle.hd_server.specs.Plans.{expiring, removing_conn, losing, onto, shutting, step}
use Rattle.hd_server.specs.Serves.{silenced, ticking}
use Rattle.hd_server.specs.Parts.{Each, IsExpiry, IsTick}
use Rattle.hd_server.specs.Laws.{PartsOfTurns}
use Rattle.hub_server.proofs.Alike.{Alike, alike_refl, alike_trans, alike_does, alike_goes, alike_note, alike_says, config_alike, granted_alike}
use Rattle.hub_server.proofs.Alike.{history_alike, there_alike}
use Rattle.hub_server.proofs.LaneKept.{SameLane, same_lane_note, same_lane_refl, same_lane_shut, same_lane_trans, same_lane_works}

pub record Apart (c : ℕ) (g h : List ServerEvent) : Type 0 where
  pub others : (k : ℕ) → (k == c) ≡ false → Alike k g h
  pub lanes : (lane : ℕ) → SameLane lane g h
  pub same_moment : moment g ≡ moment h

pub apart_same : (c : ℕ) (h : List ServerEvent) → Apart c h h
apart_same c h = record { others = λ k e. alike_refl k h; lanes = λ l. same_lane_refl l h; same_moment = refl }

pub apart_then : (c : ℕ) (f g h : List ServerEvent) → Apart c f g → Apart c g h → Apart c f h
apart_then c f g h x y = record {
  others = λ k e. alike_trans k f g h (x.others k e) (y.others k e);
  lanes = λ l. same_lane_trans l f g h (x.lanes l) (y.lanes l);
  same_moment = x.same_moment ∙ y.same_moment;
}

-- one event of those that a connection does as it ticks, and as its moment has come
tick_apart : (c : ℕ) (d : ServerEvent) (h : List ServerEvent) → IsTick c d → Apart c (d ∷ h) h
tick_apart c (Works (Does k m)) h p = record {
  others = λ j e. alike_does j k m h (ap (λ n. j == n) p ∙ e);
  lanes = λ l. same_lane_works l (Does k m) h;
  same_moment = refl;
}
tick_apart c (Works (Goes k)) h p = record {
  others = λ j e. alike_goes j k h (ap (λ n. j == n) p ∙ e);
  lanes = λ l. same_lane_works l (Goes k) h;
  same_moment = refl;
}
tick_apart c (Notes (LaneLost k lane now)) h p = record {
  others = λ j e. alike_note (LaneLost k lane now) j h (ap (λ n. j == n) p ∙ e) tt;
  lanes = λ l. same_lane_note l (LaneLost k lane now) h;
  same_moment = refl;
}
tick_apart c (Notes (Removed k)) h p = record {
  others = λ j e. alike_note (Removed k) j h (ap (λ n. j == n) p ∙ e) tt;
  lanes = λ l. same_lane_note l (Removed k) h;
  same_moment = refl;
}
tick_apart c (Says (say.Shut lane)) h p =
    record { others = λ k e. alike_says (say.Shut lane) k h; lanes = λ l. same_lane_shut l lane h; same_moment = refl }
tick_apart c d h p = absurd p

expiry_apart : (c : ℕ) (d : ServerEvent) (h : List ServerEvent) → IsExpiry c d → Apart c (d ∷ h) h
expiry_apart c (Works (Does k m)) h p = tick_apart c (Works (Does k m)) h p
expiry_apart c (Works (Goes k)) h p = tick_apart c (Works (Goes k)) h p
expiry_apart c (Notes (Expired k now)) h p = record {
  others = λ j e. alike_note (Expired k now) j h (ap (λ n. j == n) p ∙ e) tt;
  lanes = λ l. same_lane_note l (Expired k now) h;
  same_moment = refl;
}
expiry_apart c d h p = absurd p

apart_onto : (P : ServerEvent → Type 0) (c : ℕ) → ((d : ServerEvent) (h : List ServerEvent) → P d → Apart c (d ∷ h) h)
    → (ds h : List ServerEvent) → Each P ds → Apart c (onto ds h) h
apart_onto P c one [] h a = apart_same c h
apart_onto P c one (d ∷ ds) h a = apart_then c (onto ds (d ∷ h)) (d ∷ h) h (apart_onto P c one ds (d ∷ h) a.1) (one d h a.0)

pub apart_ticking : PartsOfTurns → (c now : ℕ) (of h : List ServerEvent) → Apart c (onto (ticking now c of) h) h
apart_ticking law c now of h = apart_onto (IsTick c) c (tick_apart c) (ticking now c of) h (law.ticking_is now c of)

pub apart_expiring : PartsOfTurns → (now : ℕ) (life : Life) (c : ℕ) (of h : List ServerEvent) → Apart c (onto (expiring now life c of) h) h
apart_expiring law now life c of h = apart_onto (IsExpiry c) c (expiry_apart c) (expiring now life c of) h (law.expiring_is now life c of)

-- ---- a tick after what left the connection as it was

silenced_same : (c now : ℕ) (g h : List ServerEvent) → Alike c g h → ((lane : ℕ) → SameLane lane g h) → (o : Option ℕ)
    → silenced c o now g ≡ silenced c o now h
silenced_same c now g h a lanes None = refl
silenced_same c now g h a lanes (Some lane) =
    ap (λ (b : Bool). step c (Silenced now) ∷ (if b then Notes (LaneLost c lane now) ∷ [] else removing_conn c g) ++ shutting lane g)
    (granted_alike c g h a)
    ∙ ap (λ (b : Bool). step c (Silenced now)
    ∷ (if may_resume c h then Notes (LaneLost c lane now) ∷ []
    else ((if b then Works (Goes c) ∷ [] else []) ++ Notes (Removed c) ∷ [])) ++ shutting lane g)
    (there_alike c g h a)
    ∙ ap (λ (b : Bool). step c (Silenced now) ∷ losing c lane now h ++ (if b then [] else Says (say.Shut lane) ∷ []))
    (let l = lanes lane in l.refused)

pub ticking_same : (c now : ℕ) (g h : List ServerEvent) → Alike c g h → ((lane : ℕ) → SameLane lane g h) → ticking now c g ≡ ticking now c h
ticking_same c now g h a lanes =
    ap (λ x. if is_some (present_link x)
    then (if is_silence (config_of c g) now x then silenced c (socket_of c (notes g)) now g else step c (Ticked now) ∷ []) else [])
    (history_alike c g h a)
    ∙ ap (λ k. if is_some (present_link (history c h))
    then (if is_silence k now (history c h) then silenced c (socket_of c (notes g)) now g else step c (Ticked now) ∷ []) else [])
    (config_alike c g h a)
    ∙ ap (λ o. if is_some (present_link (history c h))
    then (if is_silence (config_of c h) now (history c h) then silenced c o now g else step c (Ticked now) ∷ []) else []) a.socket
    ∙ ap (λ xs. if is_some (present_link (history c h))
    then (if is_silence (config_of c h) now (history c h) then xs else step c (Ticked now) ∷ []) else [])
    (silenced_same c now g h a lanes (socket_of c (notes h)))
