-- How a peer of a replay takes and writes frame by frame, and that it comes to an end.
use Rattle.std.proofs.Common.{inl, inr, ◌≡◌, ◌⊎◌, ℕ, ◌+◌, ◌-◌, ◌^◌, ◌<◌, ◌≤◌, Bool, true, false, List, [], ◌∷◌, ◌++◌, length, Option, Some, None, option_map, unwrap_or, refl, sym, ap, ◌∙◌, subst, arith, append_assoc, drop, length-drop, if◌then◌else◌}
use Rattle.std.proofs.lemmas.List.{append-nil}
use Rattle.hd_delivery.specs.declared.vocabulary.Got.TheVariants as gives
use Rattle.hd_delivery.specs.Histories as of
use Rattle.hd_delivery.specs.Histories.{EndEvent, Took, Lent, present_link, codec_of, is_closed, is_resumable, sent_messages, acked_count, most_lent, held_messages}
use Rattle.hd_delivery.specs.Due.{due}
use Rattle.hd_delivery.specs.Frames.{LinkFrame}
use Rattle.hd_delivery.specs.Processes.{processes, next_frame}
use Rattle.hd_delivery.specs.HistoryLaws.{FactsHold}
use Rattle.hd_delivery.specs.Bytes.{Wire, ByteStep, Does}
use Rattle.hd_delivery.specs.Following.{Follow, FollowUpTo}
use Rattle.hd_delivery.specs.Alone.{writing, taking, lent_text}
use Rattle.hd_delivery.specs.AloneLaws.{WritesFew, TakesFew}
use Rattle.he_wire.specs.Laws.{WireIsSound}
use Rattle.he_end.specs.Stands.{limits_of}
use Rattle.hd_delivery.specs.Bounds.{AreLimits}
use Rattle.hd_calls.specs.Hubs.{Hub}
use Rattle.hd_calls.specs.Peers.{PeerEvent, Plain, Reads, Settings, byte_steps, codec, is_shut, reason_of, steps}
use Rattle.hp_peer.specs.declared.peer.Peer.{Peer}
use Rattle.hp_peer.specs.Lending.{HasLent, Lends}
use Rattle.sr_peers.specs.declared.party.Party.{Party}
use Rattle.sr_peers.specs.Doings.{Chain, WholeChain, Taking, lifted}
use Rattle.sr_peers.specs.Plays.{Plays, Goes, IsOneTake, TakesOne, WritesOne}
use Rattle.sr_peers.specs.Works.{moves_bytes}
use Rattle.sr_peers.proofs.Chains.{with, chain_append, goes_none, goes_on, goes_same, plays_still}
use Rattle.sr_peers.proofs.Takes.{shut_or_same}

-- ---- so many frames are taken

-- an end that takes a frame isn't closed
live_of : (b : Bool) (o : Option EndEvent) (s : EndEvent) → (if b then None else o) ≡ Some s → b ≡ false
live_of true o s e = absurd (cc)
live_of false o s e = refl

pub record HasTakenSome {H Job : Type 0} (hub : Hub Job) (t : Settings) (now : ℕ) (h : List PeerEvent) (p : Party H Job) (before after : List ℕ) (n : ℕ) : Type 0 where
  pub moves : List PeerEvent
  pub chain : Chain (Taking t now) h moves
  pub goes : Goes hub t h p before after moves
  pub taken : List ByteStep
  pub follow : Follow (taking t.wire t.config) (byte_steps t h) taken
  pub many : length taken ≡ n
  pub are : (byte_steps t (moves ++ h) ≡ taken ++ byte_steps t h) ⊎ (is_shut t (moves ++ h) ≡ true)

one_chain : {H Job : Type 0} (hub : Hub Job) (t : Settings) (now : ℕ) (p : Party H Job) (x : List PeerEvent) (s : EndEvent) (ds : List PeerEvent) → Plays hub t p x
    → processes t.config (steps t x) ≡ Some s → IsOneTake x now s ds → Chain (Taking t now) x ds
one_chain hub t now p x s ds plays next (inl (plain, is)) = rw is (tt, (plain, plays.handled, next))
one_chain hub t now p x s ds plays next (inr one) =
    let read : processes t.config (steps t x) ≡ Some (Took (gives.Message one.message)) = next ∙ ap (λ u. Some u) one.step in
    rw one.is ((tt, (plays.handled, read)), (refl, one.at))

-- the end has made the step, and may be closed then
one_step : (t : Settings) (now : ℕ) (x : List PeerEvent) (s : EndEvent) (ds : List PeerEvent) → IsOneTake x now s ds
    → (byte_steps t (ds ++ x) ≡ Does s ∷ byte_steps t x) ⊎ (is_shut t (ds ++ x) ≡ true)
one_step t now x s ds (inl (plain, is)) = rw is (inl refl)
one_step t now x s ds (inr one) = rw (one.is, one.step)
    (shut_or_same t.wire t.config (is_shut t (Reads one.message ∷ x)) (reason_of one.effect) (byte_steps t (Reads one.message ∷ x)))

module _ {H Job : Type 0} (hub : Hub Job) (t : Settings) (now : ℕ) (h : List PeerEvent) where
  pub taken_none : (p : Party H Job) (before : List ℕ) → Plays hub t p h → HasTakenSome hub t now h p before before 0
  taken_none p before plays =
      record { moves = []; chain = tt; goes = goes_none hub t h p before plays; taken = []; follow = tt; many = refl; are = inl refl }

  module _ (p new : Party H Job) (before mid after : List ℕ) (n : ℕ) (has : HasTakenSome hub t now h p before mid n) where
    pub taken_more : TakesOne hub t (has.moves ++ h) new now mid after true → HasTakenSome hub t now h new before after (n + 1)
    taken_more one =
        let x = has.moves ++ h in
        let live = live_of (is_shut t x) (next_frame t.config (steps t x) (present_link (steps t x))) one.step one.next in
        let same = still has.are live in
        let there = append_assoc one.moves has.moves h in
        record {
          moves = one.moves ++ has.moves;
          chain = chain_append (Taking t now) h has.moves one.moves has.chain (one_chain hub t now p x one.step one.moves has.goes.plays one.next one.one);
          goes = goes_on hub t h p new before mid after has.moves one.moves has.goes one.goes;
          taken = Does one.step ∷ has.taken;
          follow = (has.follow, sym (ap (taking t.wire t.config) same) ∙ ap (option_map Does) one.next);
          many = (let m = has.many in omega arith);
          are = subst (λ k. (byte_steps t k ≡ Does one.step ∷ has.taken ++ byte_steps t h) ⊎ (is_shut t k ≡ true)) (sym there)
              (after_one same (one_step t now x one.step one.moves one.one));
        }
      where
        still : (byte_steps t (has.moves ++ h) ≡ has.taken ++ byte_steps t h) ⊎ (is_shut t (has.moves ++ h) ≡ true) → is_shut t (has.moves ++ h) ≡ false
            → byte_steps t (has.moves ++ h) ≡ has.taken ++ byte_steps t h
        still (inl e) live = e
        still (inr shut) live = absurd (cc)

        after_one : byte_steps t (has.moves ++ h) ≡ has.taken ++ byte_steps t h
            → (byte_steps t (one.moves ++ (has.moves ++ h)) ≡ Does one.step ∷ byte_steps t (has.moves ++ h)) ⊎ (is_shut t (one.moves ++ (has.moves ++ h)) ≡ true)
            → (byte_steps t (one.moves ++ (has.moves ++ h)) ≡ Does one.step ∷ has.taken ++ byte_steps t h) ⊎ (is_shut t (one.moves ++ (has.moves ++ h)) ≡ true)
        after_one same (inl e) = inl (e ∙ ap (λ ss. Does one.step ∷ ss) same)
        after_one same (inr shut) = inr shut

    -- no whole frame has come
    pub taken_all : TakesOne hub t (has.moves ++ h) new now mid after false → (ds : List PeerEvent) × (WholeChain (Taking t now) h ds × Goes hub t h new before after ds)
    taken_all done =
        (has.moves, ((has.chain, (has.goes.plays.handled, done.0)), goes_same hub t h p new before mid after has.moves has.goes done.1 done.2))

-- frames that are taken are fewer than 64 bits count
pub taken_few : {H Job : Type 0} (hub : Hub Job) (t : Settings) (now : ℕ) (h : List PeerEvent) (first p : Party H Job) (before after : List ℕ) (n : ℕ) → TakesFew → WireIsSound
    → AreLimits (limits_of first.peer.end) → Plays hub t first h → HasTakenSome hub t now h p before after n → n < 2 ^ 64 - 1
taken_few hub t now h first p before after n few sound are plays has =
    let limits = limits_of first.peer.end in
    let end = plays.stands.end in
    let all = few limits t.wire t.config (byte_steps t h) has.taken (sound limits t.wire end.house) end.history has.follow in
    let most = are.frame_not_more in
    let many = has.many in
    omega arith

-- ---- one frame is written

module _ {H Job : Type 0} (hub : Hub Job) (t : Settings) (p : Party H Job) (h : List PeerEvent) (plays : Plays hub t p h) (x : Peer H Job) (before : List ℕ) where
  none_is_due : (o : Option LinkFrame) → None ≡ option_map (t.wire.spell (codec t h)) o → HasLent hub t h x o
      → (option_map (λ f. Does (Lent f)) o ≡ None) × Plays hub t (with p x) h × (before ≡ before)
  none_is_due None said lent = (refl, plays_still hub t h p plays x lent, refl)
  none_is_due (Some f) said lent = absurd (cc)

  one_is_due : (o : Option LinkFrame) (bytes after : List ℕ) → Some bytes ≡ option_map (t.wire.spell (codec t h)) o → HasLent hub t h x o → after ≡ before ++ bytes
      → (s : ByteStep) × ((option_map (λ f. Does (Lent f)) o ≡ Some s) × Plays hub t (with p x) (Plain s ∷ h)
      × (after ≡ before ++ lent_text t.wire t.config (byte_steps t h) (s ∷ [])))
  one_is_due None bytes after said lent is = absurd (cc)
  one_is_due (Some f) bytes after said lent is =
      let spelled : bytes ≡ t.wire.spell (codec t h) f = cc in (
        Does (Lent f),
        (
          refl,
          record { stands = lent; side_is = plays.side_is; link_is = plays.link_is; handled = plays.handled },
          is ∙ ap (λ b. before ++ b) spelled,
        ),
      )

  pub wrote_none : None ≡ option_map (t.wire.spell (codec t h)) (due t.config (steps t h)) → Lends hub p.peer x → WritesOne hub t h (with p x) before before false
  wrote_none said lends = none_is_due (due t.config (steps t h)) said (lends t h plays.stands)

  pub wrote_one : (bytes after : List ℕ) → Some bytes ≡ option_map (t.wire.spell (codec t h)) (due t.config (steps t h)) → Lends hub p.peer x → after ≡ before ++ bytes
      → WritesOne hub t h (with p x) before after true
  wrote_one bytes after said lends is = one_is_due (due t.config (steps t h)) bytes after said (lends t h plays.stands) is

-- ---- so many frames are written

pub steps_lifted : (t : Settings) (h : List PeerEvent) (ss : List ByteStep) → byte_steps t (lifted ss ++ h) ≡ ss ++ byte_steps t h
steps_lifted t h [] = refl
steps_lifted t h (s ∷ ss) = ap (λ x. s ∷ x) (steps_lifted t h ss)

lent_more : (wire : Wire) (c : of.Config) (h ss : List ByteStep) (s : ByteStep) → lent_text wire c h (s ∷ ss) ≡ lent_text wire c h ss ++ lent_text wire c (ss ++ h) (s ∷ [])
lent_more wire c h ss (Does (Lent f)) = refl
lent_more wire c h ss _ = sym (append-nil (lent_text wire c h ss))

-- a frame that is due is written
lends_one : (o : Option LinkFrame) (s : ByteStep) (ss : List ByteStep) → option_map (λ f. Does (Lent f)) o ≡ Some s → moves_bytes (lifted (s ∷ ss)) ≡ true
lends_one None s ss e = absurd (cc)
lends_one (Some f) s ss e = let q : Does (Lent f) ≡ s = cc in subst (λ s. moves_bytes (lifted (s ∷ ss)) ≡ true) q refl

pub record HasWritten {H Job : Type 0} (hub : Hub Job) (t : Settings) (h : List PeerEvent) (p : Party H Job) (before after : List ℕ) (n : ℕ) (wrote : Bool) : Type 0 where
  pub written : List ByteStep
  pub follow : Follow (writing t.wire t.config) (byte_steps t h) written
  pub many : length written ≡ n
  pub plays : Plays hub t p (lifted written ++ h)
  pub text_is : after ≡ before ++ lent_text t.wire t.config (byte_steps t h) written
  pub wrote_is : wrote ≡ moves_bytes (lifted written)

-- what was written, of so many frames at most
abbrev pub IsWritten : {H Job : Type 0} → Hub Job → Settings → List PeerEvent → Party H Job → List ℕ → List ℕ → Option ℕ → Bool → Type 0
IsWritten hub t h new before after most wrote = (ss : List ByteStep) × (FollowUpTo most (writing t.wire t.config) (byte_steps t h) ss
    × Plays hub t new (lifted ss ++ h) × (after ≡ before ++ lent_text t.wire t.config (byte_steps t h) ss) × (wrote ≡ moves_bytes (lifted ss)))

-- the greatest number of frames; no end writes so many as 64 bits count
abbrev pub most_of : Option ℕ → ℕ
most_of most = unwrap_or most (2 ^ 64 - 1)

module _ {H Job : Type 0} (hub : Hub Job) (t : Settings) (h : List PeerEvent) where
  pub written_none : (p : Party H Job) (before : List ℕ) → Plays hub t p h → HasWritten hub t h p before before 0 false
  written_none p before plays =
      record { written = []; follow = tt; many = refl; plays = plays; text_is = sym (append-nil before); wrote_is = refl }

  module _ (p new : Party H Job) (before mid after : List ℕ) (n : ℕ) (wrote : Bool) (has : HasWritten hub t h p before mid n wrote) where
    next_at : (o : Option ByteStep) → writing t.wire t.config (byte_steps t (lifted has.written ++ h)) ≡ o → writing t.wire t.config (has.written ++ byte_steps t h) ≡ o
    next_at o e = sym (ap (writing t.wire t.config) (steps_lifted t h has.written)) ∙ e

    pub written_more : WritesOne hub t (lifted has.written ++ h) new mid after true → HasWritten hub t h new before after (n + 1) true
    written_more one =
        let text = lent_text t.wire t.config in
        let bytes = byte_steps t h in
        let last = ap (λ k. mid ++ text k (one.0 ∷ [])) (steps_lifted t h has.written) in
        record {
          written = one.0 ∷ has.written;
          follow = (has.follow, next_at (Some one.0) one.1.0);
          many = (let m = has.many in omega arith);
          plays = one.1.1;
          text_is = one.1.2 ∙ (last ∙ (ap (λ x. x ++ text (has.written ++ bytes) (one.0 ∷ [])) has.text_is
              ∙ (append_assoc before (text bytes has.written) (text (has.written ++ bytes) (one.0 ∷ []))
              ∙ ap (λ x. before ++ x) (sym (lent_more t.wire t.config bytes has.written one.0)))));
          wrote_is = sym (lends_one (due t.config (steps t (lifted has.written ++ h))) one.0 has.written one.1.0);
        }

    up_to_all : (most : Option ℕ) → n < most_of most → writing t.wire t.config (has.written ++ byte_steps t h) ≡ None
        → FollowUpTo most (writing t.wire t.config) (byte_steps t h) has.written
    up_to_all (Some m) few none = inr ((has.follow, none), omega (arith, has.many))
    up_to_all None few none = (has.follow, none)

    -- none is due
    pub written_all : (most : Option ℕ) → n < most_of most → WritesOne hub t (lifted has.written ++ h) new mid after false → IsWritten hub t h new before after most wrote
    written_all most few done = (has.written, (up_to_all most few (next_at None done.0), done.1, done.2 ∙ has.text_is, has.wrote_is))

  module _ (p : Party H Job) (before after : List ℕ) (wrote : Bool) where
    up_to_most : (most : Option ℕ) (has : HasWritten hub t h p before after (most_of most) wrote) → length has.written < 2 ^ 64 - 1
        → FollowUpTo most (writing t.wire t.config) (byte_steps t h) has.written
    up_to_most (Some m) has few = inl (has.follow, has.many)
    up_to_most None has few = absurd (let many = has.many in omega arith)

    -- so many of them
    pub written_most : (most : Option ℕ) (has : HasWritten hub t h p before after (most_of most) wrote) → length has.written < 2 ^ 64 - 1
        → IsWritten hub t h p before after most wrote
    written_most most has few = (has.written, (up_to_most most has few, has.plays, has.text_is, has.wrote_is))

shorter : {A : Type 0} (b : Bool) (n m : ℕ) (xs : List A) → length (if b then drop n xs else drop m xs) ≤ length xs
shorter true n m xs = omega (arith, length-drop n xs)
shorter false n m xs = omega (arith, length-drop m xs)

-- an end writes fewer frames than 64 bits count
pub written_few : {H Job : Type 0} (hub : Hub Job) (t : Settings) (h : List PeerEvent) (first : Party H Job) (ss : List ByteStep) → WritesFew → FactsHold
    → Plays hub t first h → Follow (writing t.wire t.config) (byte_steps t h) ss → length ss < 2 ^ 64 - 1
written_few hub t h first ss few facts plays follow =
    let limits = limits_of first.peer.end in
    let k = steps t h in
    let history = plays.stands.end.history in
    let all = few limits t.wire t.config (byte_steps t h) ss history follow in
    let sent = (facts limits t.wire t.config (byte_steps t h) history).sent_are_few in
    let held : length (held_messages t.config k) ≤ length (sent_messages k) = shorter (is_resumable t.config k) (acked_count k) (most_lent k) (sent_messages k) in
    omega arith
