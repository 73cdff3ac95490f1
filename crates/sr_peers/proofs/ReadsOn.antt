-- What a peer of a replay has read of its link so far.
use Rattle.std.proofs.Common.{◌≡◌, ℕ, ◌+◌, ◌<◌, ◌≤◌, Bool, true, false, List, [], ◌∷◌, ◌++◌, length, take, drop, Option, Some, None, refl, sym, ap, ◌∙◌, arith, append_assoc, length-append, length-take, if◌then◌else◌}
use Rattle.std.specs.Prelude.{nat_lt}
use Rattle.std.proofs.lemmas.Bool.{eq-eqb, lt-ltb}
use Rattle.std.proofs.lemmas.List.{append-nil, drop-drop, drop_all}
use Rattle.std.proofs.Math.Seq.{take-add}
use Rattle.hd_delivery.specs.declared.vocabulary.Reason.{Reason}
use Rattle.hd_delivery.specs.Histories.{Lent, is_this, stands_on, present_link}
use Rattle.hd_delivery.specs.Processes.{processes}
use Rattle.hd_delivery.specs.Bytes.{ByteStep, Bytes, Does, bare_steps, bytes_on}
use Rattle.hd_delivery.specs.Laws.{FedIsUnseen}
use Rattle.hd_calls.specs.Hubs.{Hub}
use Rattle.hd_calls.specs.Peers.{PeerEvent, Plain, Reads, Handles, Loses, Settings, add, byte_steps, is_shut, reason_of, shuts, steps}
use Rattle.sr_peers.specs.declared.party.Party.{Party}
use Rattle.sr_peers.specs.Doings.{Chain, WholeChain, Losing, Taking, Reading, ReadsTo, fed_next}
use Rattle.sr_peers.specs.Plays.{Plays, Goes, Feeds}
use Rattle.sr_peers.specs.Works.{moves_bytes}
use Rattle.sr_peers.proofs.Chains.{chain_append, goes_none, goes_one, goes_on, goes_same}
use Rattle.sr_peers.proofs.Feeding.{unfed, ends}

-- ---- the bytes of the link

shut_bytes : (l : ℕ) (b : Bool) (r : Option Reason) (y : List ByteStep) → bytes_on l (add (shuts b r) y) ≡ bytes_on l y
shut_bytes l true None y = refl
shut_bytes l true (Some why) y = refl
shut_bytes l false None y = refl
shut_bytes l false (Some why) y = refl

module _ (t : Settings) (now l : ℕ) where
  -- what is taken leaves the bytes that were fed
  taken_bytes : (h ds : List PeerEvent) → Chain (Taking t now) h ds → bytes_on l (byte_steps t (ds ++ h)) ≡ bytes_on l (byte_steps t h)
  taken_bytes h [] f = refl
  taken_bytes h (Plain (Does s) ∷ ds) f = taken_bytes h ds f.0
  taken_bytes h (Reads m ∷ ds) f = taken_bytes h ds f.0
  taken_bytes h (Handles m e ∷ ds) f = shut_bytes l (is_shut t (ds ++ h)) (reason_of e) (byte_steps t (ds ++ h)) ∙ taken_bytes h ds f.0
  taken_bytes h (d ∷ ds) f = absurd f.1

-- calls that are gone leave the end
lost_steps : (t : Settings) (h gone : List PeerEvent) → Chain (Losing t) h gone → byte_steps t (gone ++ h) ≡ byte_steps t h
lost_steps t h [] f = refl
lost_steps t h (Loses n ∷ gone) f = lost_steps t h gone f.0
lost_steps t h (d ∷ gone) f = absurd f.1

-- nor do they move bytes
lost_moves : (t : Settings) (h gone ds : List PeerEvent) → Chain (Losing t) h gone → moves_bytes (gone ++ ds) ≡ moves_bytes ds
lost_moves t h [] ds f = refl
lost_moves t h (Loses n ∷ gone) ds f = lost_moves t h gone ds f.0
lost_moves t h (d ∷ gone) ds f = absurd f.1

-- once bytes were moved, they were
moved_still : (ds before : List PeerEvent) → moves_bytes before ≡ true → moves_bytes (ds ++ before) ≡ true
moved_still [] before e = e
moved_still (Plain (Bytes piece) ∷ ds) before e = refl
moved_still (Plain (Does (Lent f)) ∷ ds) before e = refl
moved_still (Plain (Does s) ∷ ds) before e = moved_still ds before e
moved_still (d ∷ ds) before e = moved_still ds before e

fed_bytes : FedIsUnseen → (t : Settings) (h : List PeerEvent) (l : ℕ) (piece : List ℕ) → present_link (steps t h) ≡ Some l
    → bytes_on l (Bytes piece ∷ byte_steps t h) ≡ bytes_on l (byte_steps t h) ++ piece
fed_bytes unseen t h l piece at =
    let x = byte_steps t h in
    let here : present_link (bare_steps x) ≡ Some l = sym (unseen t.wire t.config x).link ∙ at in
    let stands : stands_on l (bare_steps x) ≡ true = ap (is_this l) here ∙ eq-eqb l l refl in
    ap (λ b. if b then bytes_on l x ++ piece else bytes_on l x) stands

-- what is taken is so of one that reads
taken_reads : (t : Settings) (now : ℕ) (all : List ℕ) (h ds : List PeerEvent) → Chain (Taking t now) h ds → Chain (Reading t now all) h ds
taken_reads t now all h [] f = tt
taken_reads t now all h (Plain (Does s) ∷ ds) f = (taken_reads t now all h ds f.0, f.1)
taken_reads t now all h (Reads m ∷ ds) f = (taken_reads t now all h ds f.0, f.1)
taken_reads t now all h (Handles m e ∷ ds) f = (taken_reads t now all h ds f.0, f.1)
taken_reads t now all h (d ∷ ds) f = absurd f.1

-- ---- so far

-- of these bytes so many were read, and all that came was taken
pub record HasRead {H Job : Type 0} (hub : Hub Job) (t : Settings) (now : ℕ) (h : List PeerEvent) (p : Party H Job) (l : ℕ) (all bytes before after : List ℕ)
    (at : ℕ) : Type 0 where
  pub moves : List PeerEvent
  pub chain : Chain (Reading t now all) h moves
  pub goes : Goes hub t h p before after moves
  pub none : processes t.config (steps t (moves ++ h)) ≡ None
  pub here : present_link (steps t (moves ++ h)) ≡ Some l
  pub read : bytes_on l (byte_steps t (moves ++ h)) ≡ bytes_on l (byte_steps t h) ++ take at bytes
  pub moved : moves_bytes moves ≡ nat_lt 0 at

-- the bytes up to where these end were read, so many of those that were left
abbrev pub IsRead : {H Job : Type 0} → Hub Job → Settings → ℕ → List PeerEvent → Party H Job → ℕ → List ℕ → List ℕ → List ℕ → List ℕ → ℕ → Type 0
IsRead hub t now h new l all bytes before after fed = (ds : List PeerEvent) × (ReadsTo t h now all ds
    × Goes hub t h new before after ds
    × (bytes_on l (byte_steps t (ds ++ h)) ≡ bytes_on l (byte_steps t h) ++ take fed bytes)
    × (fed ≤ length bytes)
    × (moves_bytes ds ≡ nat_lt 0 fed))

-- some bytes that were fed were next
feeds_bytes : {H Job : Type 0} (hub : Hub Job) (t : Settings) (h : List PeerEvent) (new : Party H Job) (all piece : List ℕ) → 0 < length piece
    → Feeds hub t h new all piece → (fed_next t all h ≡ Some (Bytes piece)) × Plays hub t new (Plain (Bytes piece) ∷ h)
feeds_bytes hub t h new all [] some fed = absurd (omega arith)
feeds_bytes hub t h new all (b ∷ piece) some fed = fed

module _ {H Job : Type 0} (hub : Hub Job) (t : Settings) (now : ℕ) (h : List PeerEvent) (l : ℕ) (all bytes before : List ℕ) where
  pub read_none : (p : Party H Job) → Plays hub t p h → present_link (steps t h) ≡ Some l → processes t.config (steps t h) ≡ None
      → HasRead hub t now h p l all bytes before before 0
  read_none p plays at none = record {
    moves = [];
    chain = tt;
    goes = goes_none hub t h p before plays;
    none = none;
    here = at;
    read = sym (append-nil (bytes_on l (byte_steps t h)));
    moved = refl;
  }

  module _ (is : bytes ≡ unfed t all h l) (p : Party H Job) (mid : List ℕ) (at : ℕ)
      (has : HasRead hub t now h p l all bytes before mid at) (within : at ≤ length bytes) where
    abbrev x : List PeerEvent
    x = has.moves ++ h

    -- the bytes that are left are those that are to be read next
    pub left : drop at bytes ≡ unfed t all x l
    left =
        let e = ap length has.read in
        let size : length (bytes_on l (byte_steps t h)) + at ≡ length (bytes_on l (byte_steps t x)) =
        omega (arith, e, length-append (bytes_on l (byte_steps t h)) (take at bytes), length-take at bytes) in
        ap (drop at) is ∙ (drop-drop at (length (bytes_on l (byte_steps t h))) all ∙ ap (λ n. drop n all) size)

    -- nothing is left to be fed, and the calls that are gone are handed out
    pub read_over : (q new : Party H Job) (after : List ℕ) → Plays hub t q x → fed_next t all x ≡ None
        → (gone : List PeerEvent) × (WholeChain (Losing t) x gone × Goes hub t x new mid after gone) → IsRead hub t now h new l all bytes before after at
    read_over q new after plays over gone =
        let first = goes_same hub t h p q before mid mid has.moves has.goes plays refl in
        let all_moves = goes_on hub t h q new before mid after has.moves gone.0 first gone.1.1 in
        let same : bytes_on l (byte_steps t ((gone.0 ++ has.moves) ++ h)) ≡ bytes_on l (byte_steps t x) =
        ap (λ k. bytes_on l (byte_steps t k)) (append_assoc gone.0 has.moves h) ∙ ap (bytes_on l) (lost_steps t x gone.0 gone.1.0.0) in
        let reads : ReadsTo t h now all (gone.0 ++ has.moves) =
        (has.moves, ((has.chain, ((has.goes.plays.handled, has.none), over)), (gone.0, (gone.1.0, refl)))) in
        (gone.0 ++ has.moves, (reads, all_moves, same ∙ has.read, within, lost_moves t x gone.0 has.moves gone.1.0.0 ∙ has.moved))

    -- all of them were fed
    pub read_end : length bytes ≤ at → (b : Bool) → is_shut t x ≡ b → fed_next t all x ≡ None
    read_end end b shut = ends t all x l has.here (sym left ∙ drop_all at bytes end) b shut

    module _ (unseen : FedIsUnseen) (fed new : Party H Job) (after : List ℕ) (n : ℕ) (some : 0 < length (take n (drop at bytes)))
        (feeds : Feeds hub t x fed all (take n (drop at bytes))) (link : new.link ≡ p.link) where
      abbrev piece : List ℕ
      piece = take n (drop at bytes)

      was_fed : (fed_next t all x ≡ Some (Bytes piece)) × Plays hub t fed (Plain (Bytes piece) ∷ x)
      was_fed = feeds_bytes hub t x fed all piece some feeds

      pub plays_fed : Plays hub t fed (Plain (Bytes piece) ∷ x)
      plays_fed = was_fed.1

      pub read_on : (ds : List PeerEvent) × (WholeChain (Taking t now) (Plain (Bytes piece) ∷ x) ds × Goes hub t (Plain (Bytes piece) ∷ x) new mid after ds)
          → HasRead hub t now h new l all bytes before after (at + n)
      read_on took =
          let ds = took.0 in
          let y = Plain (Bytes piece) ∷ x in
          let fed_moves = Plain (Bytes piece) ∷ has.moves in
          let there : (ds ++ fed_moves) ++ h ≡ ds ++ y = append_assoc ds fed_moves h in
          let one = goes_one hub t x fed mid mid [] (Plain (Bytes piece)) was_fed.1 refl (sym (append-nil mid)) in
          let first = goes_on hub t h p fed before mid mid has.moves (Plain (Bytes piece) ∷ []) has.goes one in
          let read : bytes_on l (byte_steps t (ds ++ y)) ≡ bytes_on l (byte_steps t h) ++ take (at + n) bytes =
          taken_bytes t now l y ds took.1.0.0
          ∙ (fed_bytes unseen t x l piece has.here
          ∙ (ap (λ z. z ++ piece) has.read
          ∙ (append_assoc (bytes_on l (byte_steps t h)) (take at bytes) piece ∙ ap (λ z. bytes_on l (byte_steps t h) ++ z) (sym (take-add at n bytes))))) in
          record {
            moves = ds ++ fed_moves;
            chain = chain_append (Reading t now all) h fed_moves ds (has.chain, ((has.goes.plays.handled, has.none), was_fed.0))
                (taken_reads t now all y ds took.1.0.0);
            goes = goes_on hub t h fed new before mid after fed_moves ds first took.1.1;
            none = ap (λ k. processes t.config (steps t k)) there ∙ took.1.0.1.1;
            here = ap (λ k. present_link (steps t k)) there ∙ (sym took.1.1.plays.link_is ∙ (link ∙ (has.goes.plays.link_is ∙ has.here)));
            read = ap (λ k. bytes_on l (byte_steps t k)) there ∙ read;
            moved = moved_still ds fed_moves refl ∙ sym (lt-ltb 0 (at + n) (omega (arith, some, length-take n (drop at bytes))));
          }
