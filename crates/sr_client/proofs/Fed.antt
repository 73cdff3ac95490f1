-- How the client's peer is fed piece by piece.
use Rattle.std.proofs.Common.{inl, inr, ◌≡◌, ◌⊎◌, ℕ, ◌+◌, ◌-◌, ◌<◌, ◌≤◌, Bool, true, false, not, ◌&&◌, List, [], ◌∷◌, ◌++◌, length, take, drop}
use Rattle.std.proofs.Common.{Option, Some, None, is_some, refl, sym, ap, ◌∙◌, subst, arith, append_assoc, length-take}
use Rattle.std.specs.Prelude.{min}
use Rattle.std.proofs.lemmas.List.{drop-drop, drop_all, take_min}
use Rattle.hm_message.specs.declared.message.Ending.{Ending}
use Rattle.hd_delivery.specs.Numbers.{most_framing}
use Rattle.hd_delivery.specs.Histories.{present_link}
use Rattle.hd_delivery.specs.Bytes.{Bytes, unread}
use Rattle.hd_delivery.specs.OneHistory.{next_reader}
use Rattle.hd_delivery.specs.AloneLaws.{TakenHasRoom, HasRoomFor}
use Rattle.he_end.specs.Calls.{taken_at}
use Rattle.he_wire.specs.Laws.{WireIsSound}
use Rattle.hd_calls.specs.Peers.{PeerEvent, Plain, Settings, byte_steps, is_shut, steps}
use Rattle.hd_server.specs.Serves.{Feeds, TakesAll, can_feed, next_piece, unread_on}
use Rattle.hp_peer.specs.declared.peer.Peer.{Peer}
use Rattle.hp_peer.specs.Stands.{Stands}
use Rattle.hub_calc.specs.declared.client.ClientHub.{ClientHub}
use Rattle.hub_calc.specs.Client.{client_hub}
use Rattle.sr_client.specs.declared.peer.ClientPeer.{ClientPeer}
use Rattle.sr_client.specs.Lines.{json_words}
use Rattle.sr_client.specs.Peers.{FeedsAll, Goes, Plays, PlaysOn, StaysThere}
use Rattle.sr_client.specs.Taking.{FeedsPiece, IsPiece, TakesWhole}
use Rattle.sr_client.proofs.Chains.{goes_then, history_of, is_sound, lines_append, same_text_after, with_peer}
use Rattle.sr_client.proofs.Quiet.{linked_on, same_move, stays_there}

-- ---- one piece

-- of a piece of this length so many bytes are taken there
abbrev taken_on : Settings → List PeerEvent → ℕ → ℕ → ℕ
taken_on t h l piece =
    let held = unread t.wire t.config l (byte_steps t h) in
    taken_at t.limits (next_reader t.wire t.config l (steps t h) held) (length held) piece

-- an end that can be fed stands on a link, and is open
pub fed_there : (t : Settings) (h : List PeerEvent) → can_feed t h ≡ true → (l : ℕ) × (present_link (steps t h) ≡ Some l) × (is_shut t h ≡ false)
fed_there t h e = by (present_link (steps t h)) refl (is_shut t h) refl e
  where
    by : (o : Option ℕ) → present_link (steps t h) ≡ o → (b : Bool) → is_shut t h ≡ b → (is_some o && not b) ≡ true
        → (l : ℕ) × (present_link (steps t h) ≡ Some l) × (is_shut t h ≡ false)
    by (Some l) at false live e = (l, at, live)
    by (Some l) at true shut e = absurd (cc)
    by None at b shut e = absurd (cc)

-- what stays there after what stays there
pub stays_then : (t : Settings) (h mid after : List PeerEvent) → StaysThere t h mid → StaysThere t mid after → StaysThere t h after
stays_then t h mid after a b = record { link = b.link ∙ a.link; moment = b.moment ∙ a.moment }

-- it stands for what was fed
pub fed_on : (t : Settings) (p : ClientPeer) (h : List PeerEvent) (piece : List ℕ) (x : Peer ClientHub Ending) → Plays t p h
    → Stands client_hub t x (Plain (Bytes piece) ∷ h) → PlaysOn t (with_peer p x) (Plain (Bytes piece) ∷ h)
fed_on t p h piece x plays stands =
    linked_on t p (with_peer p x) h (Plain (Bytes piece) ∷ h) plays.on stands refl (same_move t (Plain (Bytes piece)) h refl) plays.on.handled

module _ (room : TakenHasRoom) (sound : WireIsSound) (t : Settings) (h : List PeerEvent) (was : ClientPeer) (s : Plays t was h) (bytes : List ℕ) (n : ℕ) where
  abbrev piece : List ℕ
  piece = take n bytes

  module _ (l : ℕ) (at : present_link (steps t h) ≡ Some l) (live : is_shut t h ≡ false) (count : n ≡ taken_on t h l (length bytes)) where
    abbrev held : ℕ
    held = length (unread t.wire t.config l (byte_steps t h))

    has_room : HasRoomFor t.limits t.wire t.config (byte_steps t h) l
    has_room =
        room t.limits t.wire t.config (byte_steps t h) l
        (record {
          sound = is_sound t was h s.on sound;
          is_history = history_of t was h s.on;
          here = at;
        })
        live s.taken

    -- as much as there is room for
    as_much : n ≡ min (length bytes) (t.limits.frame + most_framing - held)
    as_much = count ∙ ap (λ r. taken_at t.limits r held (length bytes)) has_room.waits

    is_next : piece ≡ next_piece t h bytes
    is_next =
        let left = t.limits.frame + most_framing - held in
        let turned : n ≡ min left (length bytes) = (let f = as_much in omega arith) in
        ap (λ k. take k bytes) turned ∙ take_min left bytes
        ∙ ap (λ o. take ((t.limits.frame + most_framing) - unread_on t o h) bytes) (sym at)

    has_some : 0 < length bytes → 0 < length piece
    has_some some = let r = has_room.room in let f = as_much in omega (arith, some, length-take n bytes)

    pub piece_taken : (new : ClientPeer) (now : ℕ) (before after : List ℕ) → can_feed t h ≡ true
        → TakesWhole t (Plain (Bytes piece) ∷ h) new now before after → FeedsPiece t h new now n bytes before after
    piece_taken new now before after can whole =
        let fed : PeerEvent = Plain (Bytes piece) in
        let same : (whole.moves ++ fed ∷ []) ++ h ≡ whole.moves ++ fed ∷ h = append_assoc whole.moves (fed ∷ []) h in
        record {
          moves = whole.moves ++ fed ∷ [];
          how = inr (record { live = can; next = is_next; some = has_some; takes = subst (λ y. TakesAll t now (fed ∷ h) y) (sym same) whole.takes });
          stays = subst (λ y. StaysThere t h y) (sym same)
              (stays_then t h (fed ∷ h) (whole.moves ++ fed ∷ h) (stays_there t h (fed ∷ h) (same_move t fed h refl)) whole.stays);
          goes = record {
            plays = subst (λ y. Plays t new y) (sym same) whole.goes.plays;
            appended = whole.goes.appended ∙ ap (λ x. before ++ x) (sym (lines_append json_words t whole.moves (fed ∷ []) h));
          };
        }

-- nothing can be fed
pub none_fed : (t : Settings) (h : List PeerEvent) (p : ClientPeer) (now : ℕ) (bytes before : List ℕ) → Plays t p h → can_feed t h ≡ false
    → FeedsPiece t h p now 0 bytes before before
none_fed t h p now bytes before plays can = record {
  moves = [];
  how = inl (can, refl, refl);
  stays = record { link = refl; moment = refl };
  goes = record { plays = plays; appended = same_text_after before };
}

-- ---- piece by piece

-- so many of the bytes were fed, and whatever is fed then comes after that
pub record HasFed (t : Settings) (h : List PeerEvent) (new : ClientPeer) (now : ℕ) (bytes before after : List ℕ) (at : ℕ) : Type 0 where
  pub moves : List PeerEvent
  pub onward : (end : List PeerEvent) (ps : List (List ℕ)) → Feeds t now true (drop at bytes) ps (moves ++ h) end
      → (qs : List (List ℕ)) × Feeds t now false bytes qs h end
  pub stays : StaysThere t h (moves ++ h)
  pub goes : Goes t h new before after moves

take_length : (n : ℕ) (bytes : List ℕ) → n ≤ length bytes → length (take n bytes) ≡ n
take_length n bytes few = omega (arith, few, length-take n bytes)

module _ (t : Settings) (h : List PeerEvent) (now : ℕ) (bytes before : List ℕ) where
  -- the first piece
  pub fed_first : (new : ClientPeer) (after : List ℕ) (n : ℕ) → n ≤ length bytes → FeedsPiece t h new now n bytes before after
      → HasFed t h new now bytes before after n
  fed_first new after n few fed = record { moves = fed.moves; onward = onward fed.how; stays = fed.stays; goes = fed.goes }
    where
      onward : ((can_feed t h ≡ false) × (n ≡ 0) × (fed.moves ≡ [])) ⊎ IsPiece t h now bytes (take n bytes) (fed.moves ++ h)
          → (end : List PeerEvent) (ps : List (List ℕ)) → Feeds t now true (drop n bytes) ps (fed.moves ++ h) end
          → (qs : List (List ℕ)) × Feeds t now false bytes qs h end
      onward (inl (can, none, unmoved)) end [] feeds = ([], (inl can, feeds.1 ∙ ap (λ ms. ms ++ h) unmoved))
      onward (inl (can, none, unmoved)) end (p ∷ ps) feeds =
          absurd (let z : false ≡ true = sym can ∙ (ap (λ ms. can_feed t (ms ++ h)) (sym unmoved) ∙ feeds.0) in cc)
      onward (inr one) end ps feeds = (
        take n bytes ∷ ps,
        (
          one.live,
          inl refl,
          one.next,
          (
            fed.moves ++ h,
            one.takes,
            subst (λ k. Feeds t now true (drop k bytes) ps (fed.moves ++ h) end) (sym (take_length n bytes few)) feeds,
          ),
        ),
      )

  module _ (old new : ClientPeer) (between after : List ℕ) (at n : ℕ) (has : HasFed t h old now bytes before between at) (rest : List ℕ)
      (is : rest ≡ drop at bytes) (fed : FeedsPiece t (has.moves ++ h) new now n rest between after) where
    abbrev x : List PeerEvent
    x = has.moves ++ h

    -- a further one
    pub fed_more : n ≤ length rest → 0 < length rest → 0 < n → HasFed t h new now bytes before after (at + n)
    fed_more few left some = record {
      moves = fed.moves ++ has.moves;
      onward = λ end ps feeds. onward fed.how end ps (subst (λ y. Feeds t now true (drop (at + n) bytes) ps y end) same feeds);
      stays = subst (λ y. StaysThere t h y) (sym same) (stays_then t h x (fed.moves ++ x) has.stays fed.stays);
      goes = goes_then t h old new before between after has.moves fed.moves has.goes fed.goes;
    }
      where
        same : (fed.moves ++ has.moves) ++ h ≡ fed.moves ++ x
        same = append_assoc fed.moves has.moves h

        further : drop (length (take n rest)) rest ≡ drop (at + n) bytes
        further = ap (λ k. drop k rest) (take_length n rest few) ∙ ap (drop n) is ∙ drop-drop n at bytes

        onward : ((can_feed t x ≡ false) × (n ≡ 0) × (fed.moves ≡ [])) ⊎ IsPiece t x now rest (take n rest) (fed.moves ++ x)
            → (end : List PeerEvent) (ps : List (List ℕ)) → Feeds t now true (drop (at + n) bytes) ps (fed.moves ++ x) end
            → (qs : List (List ℕ)) × Feeds t now false bytes qs h end
        onward (inl (can, none, unmoved)) end ps feeds = absurd (omega (arith, some, none))
        onward (inr one) end ps feeds =
            has.onward end (take n rest ∷ ps)
            (subst (λ y. Feeds t now true y (take n rest ∷ ps) x end) is (
              one.live,
              inr left,
              one.next,
              (fed.moves ++ x, one.takes, subst (λ y. Feeds t now true y ps (fed.moves ++ x) end) (sym further) feeds),
            ))

    -- it took no more
    pub fed_stopped : 0 < length rest → n ≡ 0 → FeedsAll t h new now bytes before after
    fed_stopped left none = stopped fed.how
      where
        stopped : ((can_feed t x ≡ false) × (n ≡ 0) × (fed.moves ≡ [])) ⊎ IsPiece t x now rest (take n rest) (fed.moves ++ x)
            → FeedsAll t h new now bytes before after
        stopped (inl (can, zero_fed, unmoved)) =
            let all = has.onward x [] (inl can, refl) in
            let goes = goes_then t h old new before between after has.moves fed.moves has.goes fed.goes in
            let same : fed.moves ++ has.moves ≡ has.moves = ap (λ ms. ms ++ has.moves) unmoved in
            record {
              pieces = all.0;
              moves = has.moves;
              feeds = all.1;
              stays = has.stays;
              goes = subst (λ ms. Goes t h new before after ms) same goes;
            }
        stopped (inr one) = absurd (let some = one.some left in omega (arith, some, none, length-take n rest))

  -- all of them are fed
  pub fed_all : (new : ClientPeer) (after : List ℕ) (at : ℕ) → length bytes ≤ at → HasFed t h new now bytes before after at
      → FeedsAll t h new now bytes before after
  fed_all new after at end has =
      let all = has.onward (has.moves ++ h) [] (inr (refl, drop_all at bytes end), refl) in
      record { pieces = all.0; moves = has.moves; feeds = all.1; stays = has.stays; goes = has.goes }
