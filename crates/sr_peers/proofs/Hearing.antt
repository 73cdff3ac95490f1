-- A side that reads what the other side lent may join a world.
use Rattle.std.proofs.Common.{◌≡◌, ℕ, ◌+◌, ◌-◌, Bool, true, false, List, [], ◌∷◌, ◌++◌, length, take, drop, Option, Some, None, refl, sym, ap, ◌∙◌, subst, append_assoc, take-append-drop, if◌then◌else◌}
use Rattle.std.proofs.lemmas.Bool.{eq-eqb}
use Rattle.hd_facts.specs.Prefixes.{IsPrefix}
use Rattle.hd_delivery.specs.declared.vocabulary.Reason.{Reason}
use Rattle.hd_delivery.specs.declared.vocabulary.Side.{Side}
use Rattle.hd_delivery.specs.Numbers.{most_framing}
use Rattle.hd_delivery.specs.Histories.{EndEvent, Took, Failed, is_this, present_link, is_shaken}
use Rattle.hd_delivery.specs.Worlds.{Event, config}
use Rattle.hd_delivery.specs.Bytes.{ByteStep, Bytes, Does, bare_steps, bytes_on, in_frames, unread_count}
use Rattle.hd_delivery.specs.Laws.{FedIsUnseen}
use Rattle.hd_delivery.specs.Alone.{piece_fed, feeding, IsOfFrame}
use Rattle.hd_delivery.specs.AloneLaws.{FramesAreTaken}
use Rattle.hd_delivery.specs.Sides.{other, history}
use Rattle.hd_calls.specs.Peers.{PeerEvent, Plain, Calls, Uploads, Cancels, Reads, Handles, Runs, Answers, Refuses, Loses, Rounds, Settings, reason_of, shuts, add, byte_steps, steps, is_shut}
use Rattle.hd_calls.specs.PeerWorlds.{Pair, settings}
use Rattle.sr_peers.specs.Doings.{Chain, Losing, Reading, ReadsTo}
use Rattle.sr_peers.specs.Grows.{lent_in, FitsOther, MayJoin}

-- ---- first parts

prefix_trans : (xs ys zs : List ℕ) → IsPrefix xs ys → IsPrefix ys zs → IsPrefix xs zs
prefix_trans xs ys zs p q = (p.0 ++ q.0, sym (append_assoc xs p.0 q.0) ∙ (ap (λ ws. ws ++ q.0) p.1 ∙ q.1))

drop_front : (xs rest : List ℕ) → drop (length xs) (xs ++ rest) ≡ rest
drop_front [] rest = refl
drop_front (x ∷ xs) rest = drop_front xs rest

-- a list that was read up to a place goes on with a piece of what comes after that
next_piece : (n : ℕ) (before bytes : List ℕ) → IsPrefix before bytes → IsPrefix (before ++ take n (drop (length before) bytes)) bytes
next_piece n before bytes p =
    let rest : drop (length before) bytes ≡ p.0 = ap (drop (length before)) (sym p.1) ∙ drop_front before p.0 in (
      drop n (drop (length before) bytes),
      append_assoc before (take n (drop (length before) bytes)) (drop n (drop (length before) bytes))
          ∙ ap (λ xs. before ++ xs) (take-append-drop n (drop (length before) bytes) ∙ rest)
          ∙ p.1,
    )

-- ---- one move of a side that reads

fed_one : (piece : List ℕ) (s : ByteStep) → piece_fed piece ≡ Some s → Bytes piece ≡ s
fed_one [] s e = absurd (cc)
fed_one (b ∷ piece) s e = cc

same_piece : (xs ys : List ℕ) → Bytes xs ≡ Bytes ys → xs ≡ ys
same_piece xs ys e = cc

is_this-same : (l : ℕ) (o : Option ℕ) → o ≡ Some l → is_this l o ≡ true
is_this-same l None e = absurd (cc)
is_this-same l (Some k) e = eq-eqb l k (let f : k ≡ l = cc in sym f)

module _ (unseen : FedIsUnseen) (taken : FramesAreTaken) (p : Pair) (w : List (Event PeerEvent)) (side : Side) (l now : ℕ) (bytes : List ℕ) (there : IsPrefix bytes (lent_in p w (other side) l)) where
  abbrev t : Settings
  t = settings side p

  -- the side stands on the link, of which it was fed a first part of the bytes
  record Hears (h : List ByteStep) : Type 0 where
    at : present_link (in_frames p.wire (config side p.terms) h) ≡ Some l
    front : IsPrefix (bytes_on l h) bytes

  -- a close leaves the link
  closed : (shut : Bool) (o : Option Reason) (h : List ByteStep) → Hears h → Hears (add (shuts shut o) h)
  closed false (Some why) h r = record { at = r.at; front = r.front }
  closed false None h r = r
  closed true o h r = r

  -- the next piece
  fed : (h : List ByteStep) (n : ℕ) → Hears h → Hears (Bytes (take n (drop (length (bytes_on l h)) bytes)) ∷ h)
  fed h n r = record {
    at = r.at;
    front = subst (λ b. IsPrefix (if b then bytes_on l h ++ take n (drop (length (bytes_on l h)) bytes) else bytes_on l h) bytes)
        (sym (is_this-same l (present_link (bare_steps h)) (sym (unseen p.wire (config side p.terms) h).link ∙ r.at)))
        (next_piece n (bytes_on l h) bytes r.front);
  }

  -- the piece that is fed is such a one
  is_piece : (h : List ByteStep) (shut : Bool) (o : Option ℕ) (piece : List ℕ) → o ≡ Some l
      → (if shut then None else feeding (p.limits side) p.wire (config side p.terms) bytes h o) ≡ Some (Bytes piece)
      → take (((p.limits side).frame + most_framing) - unread_count p.wire (config side p.terms) l h) (drop (length (bytes_on l h)) bytes) ≡ piece
  is_piece h true o piece at e = absurd (cc)
  is_piece h false None piece at e = absurd (cc)
  is_piece h false (Some j) piece at e =
      let same : j ≡ l = cc in
      let e' : feeding (p.limits side) p.wire (config side p.terms) bytes h (Some l) ≡ Some (Bytes piece) = subst (λ j. feeding (p.limits side) p.wire (config side p.terms) bytes h (Some j) ≡ Some (Bytes piece)) same e in
      let found = take (((p.limits side).frame + most_framing) - unread_count p.wire (config side p.terms) l h) (drop (length (bytes_on l h)) bytes) in
      same_piece found piece (fed_one found (Bytes piece) e')

  -- a frame that is dealt with leaves the link
  took : (h : List ByteStep) (s : EndEvent) → IsOfFrame (is_shaken (in_frames p.wire (config side p.terms) h)) s → Hears h → Hears (Does s ∷ h)
  took h (Took got) is r = record { at = r.at; front = r.front }
  took h (Failed fault) is r = record { at = r.at; front = r.front }
  took h s is r = absurd is

  fits_frame : (h : List PeerEvent) (shaken : Bool) (s : EndEvent) → IsOfFrame shaken s → FitsOther p w side h (Plain (Does s))
  fits_frame h shaken (Took got) is = tt
  fits_frame h shaken (Failed fault) is = tt
  fits_frame h shaken s is = absurd is

  fits_piece : (h : List PeerEvent) (piece : List ℕ) → Hears (byte_steps t h) → Hears (Bytes piece ∷ byte_steps t h) → FitsOther p w side h (Plain (Bytes piece))
  fits_piece h piece r next j at =
      let same : l ≡ j = (let a = r.at in let e : Some l ≡ Some j = sym a ∙ at in cc) in
      let x = byte_steps t h in
      let stands = is_this-same l (present_link (bare_steps x)) (sym (unseen p.wire (config side p.terms) x).link ∙ r.at) in
      let front : IsPrefix (bytes_on l x ++ piece) bytes = subst (λ b. IsPrefix (if b then bytes_on l x ++ piece else bytes_on l x) bytes) stands next.front in
      subst (λ j. IsPrefix (bytes_on j x ++ piece) (lent_in p w (other side) j)) same (prefix_trans (bytes_on l x ++ piece) bytes (lent_in p w (other side) l) front there)

  -- what comes next keeps the side there, and fits what the other side lent
  one : (h : List PeerEvent) (d : PeerEvent) → Hears (byte_steps t h) → Reading t now bytes h (Some d) → Hears (byte_steps t (d ∷ h)) × FitsOther p w side h d
  one h (Plain (Bytes piece)) r next =
      let x = byte_steps t h in
      let is = is_piece x (is_shut t h) (present_link (steps t h)) piece r.at next.1 in
      let more : Hears (Bytes piece ∷ byte_steps t h) =
      subst (λ y. Hears (Bytes y ∷ byte_steps t h)) is (fed x (((p.limits side).frame + most_framing) - unread_count p.wire (config side p.terms) l x) r) in
      (more, fits_piece h piece r more)
  one h (Plain (Does s)) r next =
      let is = taken (config side p.terms) (steps t h) s next.2 in
      (took (byte_steps t h) s is r, fits_frame h (is_shaken (steps t h)) s is)
  one h (Reads m) r next = (record { at = r.at; front = r.front }, tt)
  one h (Handles m e) r next = (closed (is_shut t h) (reason_of e) (byte_steps t h) r, tt)
  one h (Calls a n c) r next = absurd next
  one h (Uploads n k a) r next = absurd next
  one h (Cancels n) r next = absurd next
  one h (Runs j c since turn what) r next = absurd next
  one h (Answers j i) r next = absurd next
  one h (Refuses j) r next = absurd next
  one h (Loses n) r next = absurd next
  one h Rounds r next = absurd next

  -- ---- all of them

  reads : Hears (byte_steps t (history side w)) → (ds : List PeerEvent) → Chain (Reading t now bytes) (history side w) ds → Hears (byte_steps t (ds ++ history side w)) × MayJoin p w side ds
  reads r [] f = (r, tt)
  reads r (d ∷ ds) f =
      let before = reads r ds f.0 in
      let next = one (ds ++ history side w) d before.0 f.1 in
      (next.0, (before.1, next.1))

  -- calls that are gone need no other side
  lost : (k gone ds : List PeerEvent) → Chain (Losing t) k gone → MayJoin p w side ds → MayJoin p w side (gone ++ ds)
  lost k [] ds f joins = joins
  lost k (Loses n ∷ gone) ds f joins = (lost k gone ds f.0 joins, tt)
  lost k (d ∷ gone) ds f joins = absurd f.1

  pub reads_join : present_link (steps t (history side w)) ≡ Some l → IsPrefix (bytes_on l (byte_steps t (history side w))) bytes
      → (new : List PeerEvent) → ReadsTo t (history side w) now bytes new → MayJoin p w side new
  reads_join at front new f =
      let ds = f.0 in
      let gone = f.1.1.0 in
      let joins = (reads (record { at = at; front = front }) ds f.1.0.0).1 in
      subst (MayJoin p w side) (sym f.1.1.1.1) (lost (ds ++ history side w) gone ds f.1.1.1.0.0 joins)
