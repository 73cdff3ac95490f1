-- How a peer is fed piece by piece.
use Rattle.std.proofs.Common.{inl, inr, ◌≡◌, ◌⊎◌, ℕ, ◌+◌, ◌-◌, ◌<◌, ◌≤◌, Bool, true, false, not, ◌&&◌, List, [], ◌∷◌, ◌++◌, length, take, drop}
use Rattle.std.proofs.Common.{Option, Some, None, is_some, refl, sym, ap, ◌∙◌, subst, arith, append_assoc, length-take}
use Rattle.std.specs.Prelude.{min}
use Rattle.std.proofs.lemmas.List.{drop-drop, drop_all, take_min}
use Rattle.hd_delivery.specs.Numbers.{most_framing}
use Rattle.hd_delivery.specs.Histories.{present_link}
use Rattle.hd_delivery.specs.Bytes.{Bytes, unread}
use Rattle.hd_delivery.specs.OneHistory.{next_reader}
use Rattle.hd_delivery.specs.AloneLaws.{TakenHasRoom, HasRoomFor}
use Rattle.he_end.specs.Calls.{taken_at}
use Rattle.he_wire.specs.Laws.{WireIsSound}
use Rattle.hd_calls.specs.Hubs.{Hub}
use Rattle.hd_calls.specs.Peers.{PeerEvent, Plain, Settings, byte_steps, is_shut, steps}
use Rattle.hd_server.specs.Serves.{Feeds, TakesAll, can_feed, next_piece, unread_on}
use Rattle.hp_peer.specs.declared.peer.Peer.{Peer}
use Rattle.hp_peer.specs.Stands.{Stands}
use Rattle.hub_machine.specs.PeerTraffic.{FeedsPeer, FeedsPiece, IsPiece, TakesWhole}
use Rattle.hub_machine.specs.Traffic.{IsClear}
use Rattle.hub_machine.proofs.Doing.{peer_is}
use Rattle.hub_machine.proofs.Lags.{is_sound}

-- ---- one piece

-- of a piece of this length so many bytes are taken there
abbrev taken_on : Settings → List PeerEvent → ℕ → ℕ → ℕ
taken_on t h l piece =
    let held = unread t.wire t.config l (byte_steps t h) in
    taken_at t.limits (next_reader t.wire t.config l (steps t h) held) (length held) piece

-- an end that can be fed stands on a link, and is open
pub fed_there : (t : Settings) (h : List PeerEvent) → can_feed t h ≡ true → (l : ℕ) × (present_link (steps t h) ≡ Some l) × (is_shut t h ≡ false)
fed_there t h e = by (present_link (steps t h)) refl (is_shut t h) refl e
  where
    by : (o : Option ℕ) → present_link (steps t h) ≡ o → (b : Bool) → is_shut t h ≡ b → (is_some o && not b) ≡ true
        → (l : ℕ) × (present_link (steps t h) ≡ Some l) × (is_shut t h ≡ false)
    by (Some l) at false live e = (l, at, live)
    by (Some l) at true shut e = absurd (cc)
    by None at b shut e = absurd (cc)

module _ (room : TakenHasRoom) (sound : WireIsSound) {H Job : Type 0} (hub : Hub Job) (t : Settings) (h : List PeerEvent) (was : Peer H Job)
    (s : Stands {H = H} hub t was h) (clear : IsClear t h) (bytes : List ℕ) (n : ℕ) where
  abbrev piece : List ℕ
  piece = take n bytes

  module _ (l : ℕ) (at : present_link (steps t h) ≡ Some l) (live : is_shut t h ≡ false) (count : n ≡ taken_on t h l (length bytes)) where
    abbrev held : ℕ
    held = length (unread t.wire t.config l (byte_steps t h))

    has_room : HasRoomFor t.limits t.wire t.config (byte_steps t h) l
    has_room =
        room t.limits t.wire t.config (byte_steps t h) l
        (record {
          sound = is_sound {H = H} {Job = Job} hub t was h s sound;
          is_history = (peer_is {H = H} {Job = Job} hub t was h s).is_history;
          here = at;
        })
        live clear.taken

    -- as much as there is room for
    as_much : n ≡ min (length bytes) (t.limits.frame + most_framing - held)
    as_much = count ∙ ap (λ r. taken_at t.limits r held (length bytes)) has_room.waits

    is_next : piece ≡ next_piece t h bytes
    is_next =
        let left = t.limits.frame + most_framing - held in
        let turned : n ≡ min left (length bytes) = (let f = as_much in omega arith) in
        ap (λ k. take k bytes) turned ∙ take_min left bytes
        ∙ ap (λ o. take ((t.limits.frame + most_framing) - unread_on t o h) bytes) (sym at)

    has_some : 0 < length bytes → 0 < length piece
    has_some some = let r = has_room.room in let f = as_much in omega (arith, some, length-take n bytes)

    pub piece_taken : (new : Peer H Job) (now : ℕ) → can_feed t h ≡ true → TakesWhole {H = H} hub t (Plain (Bytes piece) ∷ h) new now
        → FeedsPiece {H = H} hub t h new now n bytes
    piece_taken new now can whole =
        let fed : PeerEvent = Plain (Bytes piece) in
        let same : (whole.moves ++ fed ∷ []) ++ h ≡ whole.moves ++ fed ∷ h = append_assoc whole.moves (fed ∷ []) h in
        let takes = subst (λ y. TakesAll t now (fed ∷ h) y) (sym same) whole.takes in
        record {
          moves = whole.moves ++ fed ∷ [];
          how = inr (record { live = can; next = is_next; some = has_some; takes = takes });
          clear = record { handled = takes.none_waits; taken = takes.none_left };
          stands = subst (λ y. Stands {H = H} hub t new y) (sym same) whole.stands;
        }

-- nothing can be fed
pub none_fed : {H Job : Type 0} (hub : Hub Job) (t : Settings) (h : List PeerEvent) (p : Peer H Job) (now : ℕ) (bytes : List ℕ)
    → Stands {H = H} hub t p h → IsClear t h → can_feed t h ≡ false → FeedsPiece {H = H} hub t h p now 0 bytes
none_fed hub t h p now bytes s clear can = record { moves = []; how = inl (can, refl, refl); clear = clear; stands = s }

-- ---- piece by piece

-- so many of the bytes were fed, and whatever is fed then comes after that
pub record HasFed {H Job : Type 0} (hub : Hub Job) (t : Settings) (h : List PeerEvent) (new : Peer H Job) (now : ℕ) (bytes : List ℕ)
    (at : ℕ) : Type 0 where
  pub moves : List PeerEvent
  pub onward : (after : List PeerEvent) (ps : List (List ℕ)) → Feeds t now true (drop at bytes) ps (moves ++ h) after
      → (qs : List (List ℕ)) × Feeds t now false bytes qs h after
  pub clear : IsClear t (moves ++ h)
  pub stands : Stands hub t new (moves ++ h)

take_length : (n : ℕ) (bytes : List ℕ) → n ≤ length bytes → length (take n bytes) ≡ n
take_length n bytes few = omega (arith, few, length-take n bytes)

module _ {H Job : Type 0} (hub : Hub Job) (t : Settings) (h : List PeerEvent) (now : ℕ) (bytes : List ℕ) where
  -- the first piece
  pub fed_first : (new : Peer H Job) (n : ℕ) → n ≤ length bytes → FeedsPiece {H = H} hub t h new now n bytes → HasFed {H = H} hub t h new now bytes n
  fed_first new n few fed = record { moves = fed.moves; onward = onward fed.how; clear = fed.clear; stands = fed.stands }
    where
      onward : ((can_feed t h ≡ false) × (n ≡ 0) × (fed.moves ≡ [])) ⊎ IsPiece t h now bytes (take n bytes) (fed.moves ++ h)
          → (after : List PeerEvent) (ps : List (List ℕ)) → Feeds t now true (drop n bytes) ps (fed.moves ++ h) after
          → (qs : List (List ℕ)) × Feeds t now false bytes qs h after
      onward (inl (can, none, unmoved)) after [] feeds = ([], (inl can, feeds.1 ∙ ap (λ ms. ms ++ h) unmoved))
      onward (inl (can, none, unmoved)) after (p ∷ ps) feeds =
          absurd (let z : false ≡ true = sym can ∙ (ap (λ ms. can_feed t (ms ++ h)) (sym unmoved) ∙ feeds.0) in cc)
      onward (inr one) after ps feeds = (
        take n bytes ∷ ps,
        (
          one.live,
          inl refl,
          one.next,
          (
            fed.moves ++ h,
            one.takes,
            subst (λ k. Feeds t now true (drop k bytes) ps (fed.moves ++ h) after) (sym (take_length n bytes few)) feeds,
          ),
        ),
      )

  module _ (old new : Peer H Job) (at n : ℕ) (has : HasFed {H = H} hub t h old now bytes at) (rest : List ℕ) (is : rest ≡ drop at bytes)
      (fed : FeedsPiece {H = H} hub t (has.moves ++ h) new now n rest) where
    abbrev x : List PeerEvent
    x = has.moves ++ h

    -- a further one
    pub fed_more : n ≤ length rest → 0 < length rest → 0 < n → HasFed {H = H} hub t h new now bytes (at + n)
    fed_more few left some = record {
      moves = fed.moves ++ has.moves;
      onward = λ after ps feeds. onward fed.how after ps (subst (λ y. Feeds t now true (drop (at + n) bytes) ps y after) same feeds);
      clear = subst (λ y. IsClear t y) (sym same) fed.clear;
      stands = subst (λ y. Stands {H = H} hub t new y) (sym same) fed.stands;
    }
      where
        same : (fed.moves ++ has.moves) ++ h ≡ fed.moves ++ x
        same = append_assoc fed.moves has.moves h

        further : drop (length (take n rest)) rest ≡ drop (at + n) bytes
        further = ap (λ k. drop k rest) (take_length n rest few) ∙ ap (drop n) is ∙ drop-drop n at bytes

        onward : ((can_feed t x ≡ false) × (n ≡ 0) × (fed.moves ≡ [])) ⊎ IsPiece t x now rest (take n rest) (fed.moves ++ x)
            → (after : List PeerEvent) (ps : List (List ℕ)) → Feeds t now true (drop (at + n) bytes) ps (fed.moves ++ x) after
            → (qs : List (List ℕ)) × Feeds t now false bytes qs h after
        onward (inl (can, none, unmoved)) after ps feeds = absurd (omega (arith, some, none))
        onward (inr one) after ps feeds =
            has.onward after (take n rest ∷ ps)
            (subst (λ y. Feeds t now true y (take n rest ∷ ps) x after) is (
              one.live,
              inr left,
              one.next,
              (fed.moves ++ x, one.takes, subst (λ y. Feeds t now true y ps (fed.moves ++ x) after) (sym further) feeds),
            ))

    -- it took no more
    pub fed_stopped : 0 < length rest → n ≡ 0 → FeedsPeer {H = H} hub t h new now bytes
    fed_stopped left none = stopped fed.how
      where
        stopped : ((can_feed t x ≡ false) × (n ≡ 0) × (fed.moves ≡ [])) ⊎ IsPiece t x now rest (take n rest) (fed.moves ++ x)
            → FeedsPeer {H = H} hub t h new now bytes
        stopped (inl (can, zero_fed, unmoved)) =
            let all = has.onward x [] (inl can, refl) in
            record {
              pieces = all.0;
              moves = has.moves;
              feeds = all.1;
              clear = has.clear;
              stands = subst (λ ms. Stands {H = H} hub t new (ms ++ x)) unmoved fed.stands;
            }
        stopped (inr one) = absurd (let some = one.some left in omega (arith, some, none, length-take n rest))

  -- all of them are fed
  pub fed_all : (new : Peer H Job) (at : ℕ) → length bytes ≤ at → HasFed {H = H} hub t h new now bytes at → FeedsPeer {H = H} hub t h new now bytes
  fed_all new at end has =
      let all = has.onward (has.moves ++ h) [] (inr (refl, drop_all at bytes end), refl) in
      record { pieces = all.0; moves = has.moves; feeds = all.1; clear = has.clear; stands = has.stands }
