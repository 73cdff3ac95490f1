-- How a peer of a replay is fed what its end has room for.
use Rattle.std.proofs.Common.{inr, ◌≡◌, ◌⊎◌, ℕ, zero, suc, ◌+◌, ◌-◌, ◌<◌, Bool, true, false, List, [], ◌∷◌, length, take, drop, Some, None, refl, sym, ap, ◌∙◌, subst, arith, length-take, if◌then◌else◌}
use Rattle.std.specs.Prelude.{min}
use Rattle.std.proofs.lemmas.List.{take_min}
use Rattle.hd_delivery.specs.Numbers.{most_framing}
use Rattle.hd_delivery.specs.Histories.{present_link}
use Rattle.hd_delivery.specs.Processes.{processes}
use Rattle.hd_delivery.specs.Bytes.{Bytes, bytes_on, unread, unread_count}
use Rattle.hd_delivery.specs.OneHistory.{next_reader}
use Rattle.hd_delivery.specs.AloneLaws.{TakenHasRoom, HasRoomFor}
use Rattle.hd_delivery.specs.Alone.{piece_fed, feeding}
use Rattle.he_end.specs.Calls.{taken_at}
use Rattle.he_end.specs.Stands.{limits_of}
use Rattle.he_wire.specs.Laws.{WireIsSound}
use Rattle.hd_calls.specs.Hubs.{Hub}
use Rattle.hd_calls.specs.Peers.{PeerEvent, Plain, Settings, byte_steps, is_shut, steps}
use Rattle.hp_peer.specs.declared.peer.Peer.{Peer}
use Rattle.hp_peer.specs.Stands.{Stands}
use Rattle.sr_peers.specs.declared.party.Party.{Party}
use Rattle.sr_peers.specs.Doings.{fed_next}
use Rattle.sr_peers.specs.Plays.{Plays, Feeds}
use Rattle.sr_peers.proofs.Chains.{with, plays_still}

-- ---- what is fed next

-- so many bytes the end has room for on this link
abbrev room_on : Settings → List PeerEvent → ℕ → ℕ
room_on t h l = (t.limits.frame + most_framing) - unread_count t.wire t.config l (byte_steps t h)

-- of these bytes of the link those that weren't fed
abbrev pub unfed : Settings → List ℕ → List PeerEvent → ℕ → List ℕ
unfed t all h l = drop (length (bytes_on l (byte_steps t h))) all

-- of a piece of this length so many bytes are taken there
abbrev taken_on : Settings → List PeerEvent → ℕ → ℕ → ℕ
taken_on t h l piece = let held = unread t.wire t.config l (byte_steps t h) in taken_at t.limits (next_reader t.wire t.config l (steps t h) held) (length held) piece

module _ (t : Settings) (all : List ℕ) (h : List PeerEvent) where
  -- a closed end is fed nothing
  pub closed_next : is_shut t h ≡ true → fed_next t all h ≡ None
  closed_next over = ap (λ b. if b then None else feeding t.limits t.wire t.config all (byte_steps t h) (present_link (steps t h))) over

  -- one that isn't closed is fed what it has room for
  pub live_next : (l : ℕ) → is_shut t h ≡ false → present_link (steps t h) ≡ Some l → fed_next t all h ≡ piece_fed (take (room_on t h l) (unfed t all h l))
  live_next l live at =
      ap (λ b. if b then None else feeding t.limits t.wire t.config all (byte_steps t h) (present_link (steps t h))) live
      ∙ ap (feeding t.limits t.wire t.config all (byte_steps t h)) at

take_none : {A : Type 0} (n : ℕ) (xs : List A) → xs ≡ [] → take n xs ≡ []
take_none zero xs is = refl
take_none (suc n) xs is = ap (take (suc n)) is

-- with no bytes left none are fed
pub ends : (t : Settings) (all : List ℕ) (h : List PeerEvent) (l : ℕ) → present_link (steps t h) ≡ Some l → unfed t all h l ≡ []
    → (b : Bool) → is_shut t h ≡ b → fed_next t all h ≡ None
ends t all h l at gone true over = closed_next t all h over
ends t all h l at gone false live =
    live_next t all h l live at ∙ ap piece_fed (take_none (room_on t h l) (unfed t all h l) gone)

-- ---- what was fed

module _ {H Job : Type 0} (hub : Hub Job) (t : Settings) (h : List PeerEvent) (new : Party H Job) (all : List ℕ) where
  -- some bytes that were to be fed were fed
  feeds_some : (piece : List ℕ) → 0 < length piece → fed_next t all h ≡ piece_fed piece → Plays hub t new (Plain (Bytes piece) ∷ h)
      → Feeds hub t h new all piece
  feeds_some [] some is plays = absurd (omega arith)
  feeds_some (b ∷ bytes) some is plays = (is, plays)

  feeds_none : (piece : List ℕ) → piece ≡ [] → fed_next t all h ≡ None → Plays hub t new h → Feeds hub t h new all piece
  feeds_none [] empty is plays = (is, plays)
  feeds_none (b ∷ bytes) empty is plays = absurd (cc)

module _ (room : TakenHasRoom) (sound : WireIsSound) {H Job : Type 0} (hub : Hub Job) (t : Settings) (h : List PeerEvent) (p : Party H Job) (plays : Plays hub t p h)
    (l : ℕ) (all piece : List ℕ) (at : present_link (steps t h) ≡ Some l) (is : piece ≡ unfed t all h l)
    (none : processes t.config (steps t h) ≡ None) (some : 0 < length piece) (x : Peer H Job) (n : ℕ) where
  has_room : is_shut t h ≡ false → HasRoomFor t.limits t.wire t.config (byte_steps t h) l
  has_room live =
      let limits = limits_of p.peer.end in
      let end = plays.stands.end in
      subst (λ y. HasRoomFor y t.wire t.config (byte_steps t h) l) (sym plays.stands.limits)
      (room limits t.wire t.config (byte_steps t h) l (record { sound = sound limits t.wire end.house; is_history = end.history; here = at }) live none)

  fed_live : is_shut t h ≡ false → n ≡ taken_on t h l (length piece)
      → Stands hub t x (Plain (Bytes (take n piece)) ∷ h) → Feeds hub t h (with p x) all (take n piece)
  fed_live live count stands =
      let held = length (unread t.wire t.config l (byte_steps t h)) in
      let has = has_room live in
      let few : n ≡ min (length piece) (t.limits.frame + most_framing - held) = count ∙ ap (λ r. taken_at t.limits r held (length piece)) has.waits in
      let left = t.limits.frame + most_framing - held in
      let turned : n ≡ min left (length piece) = (let f = few in omega arith) in
      let same : take n piece ≡ take left piece = ap (λ m. take m piece) turned ∙ take_min left piece in
      let has_some : 0 < length (take n piece) = (let r = has.room in let f = few in omega (arith, length-take n piece)) in
      feeds_some hub t h (with p x) all (take n piece) has_some (live_next t all h l live at ∙ ap piece_fed (sym (same ∙ ap (take left) is)))
      (record { stands = stands; side_is = plays.side_is; link_is = plays.link_is; handled = plays.handled })

  fed_closed : is_shut t h ≡ true → (n ≡ 0) × (x ≡ p.peer) → Feeds hub t h (with p x) all (take n piece)
  fed_closed over same =
      feeds_none hub t h (with p x) all (take n piece) (ap (λ m. take m piece) same.0) (closed_next t all h over)
      (plays_still hub t h p plays x (subst (λ y. Stands hub t y h) (sym same.1) plays.stands))

  pub feeds : (b : Bool) → is_shut t h ≡ b → (is_shut t h ≡ false → n ≡ taken_on t h l (length piece))
      → (is_shut t h ≡ false → Stands hub t x (Plain (Bytes (take n piece)) ∷ h))
      → ((present_link (steps t h) ≡ None) ⊎ (is_shut t h ≡ true) → (n ≡ 0) × (x ≡ p.peer))
      → Feeds hub t h (with p x) all (take n piece)
  feeds true over count stands same = fed_closed over (same (inr over))
  feeds false live count stands same = fed_live live (count live) (stands live)
