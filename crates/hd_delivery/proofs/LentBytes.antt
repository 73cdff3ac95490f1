-- What steps of an end make of the bytes that it said on each link.
use Rattle.std.proofs.Common.{◌≡◌, ℕ, suc, Bool, true, false, List, [], ◌∷◌, ◌++◌, length, Option, Some, None, refl, sym, ap, ◌∙◌, append-nil}
use Rattle.std.specs.Prelude.{◌==◌, ◌||◌, if◌then◌else◌}
use Rattle.std.proofs.lemmas.Bool.{eq-eqb}
use Rattle.std.proofs.lemmas.Grind.{flat_map-append}
use Rattle.hm_message.specs.declared.message.Codec.{Codec}
use Rattle.hd_delivery.specs.declared.vocabulary.Got.{Got}
use Rattle.hd_delivery.specs.declared.vocabulary.Got.TheVariants as gives
use Rattle.hd_delivery.specs.declared.vocabulary.Got.TheVariants.{Shaken}
use Rattle.hd_delivery.specs.declared.vocabulary.Side.{Side}
use Rattle.hd_delivery.specs.declared.vocabulary.Side.TheVariants.{Client, Server}
use Rattle.hd_delivery.specs.Frames.{Response, Sequence}
use Rattle.hd_delivery.specs.Histories.{Config, EndEvent, Attached, Detached, Fed, Took, Failed, Lent, Silenced, Closed, is_this, present_link, stands_on, was_on, lent_frames, processed_messages, acked_count, codec_of, is_shaken, is_three, is_resumable, is_closed}
use Rattle.hd_delivery.specs.Due.{handshake, due_after, due_there, due_on, due}
use Rattle.hd_delivery.specs.Processes.{next_frame}
use Rattle.hd_delivery.specs.Worlds.{Limits}
use Rattle.hd_delivery.specs.Bytes.{Wire, ByteStep, Bytes, Does, bytes_on, in_frames, lent_bytes, spelling_of}
use Rattle.hd_delivery.specs.OneHistory.{IsHistory}
use Rattle.hd_delivery.specs.HistoryLaws.{FactsHold, HistoryFacts, UnusedIsUntouched}
use Rattle.hd_delivery.specs.Laws.{FedIsUnseen}
use Rattle.hd_delivery.specs.AloneLaws.{LentComesLast, LentStays, UnusedIsEmpty}
use Rattle.hd_delivery.proofs.TestsAndPrefixes.{is_this-true, is_this-same}
use Rattle.hd_delivery.proofs.TakenFrames.{processed}

-- ---- before the handshake

kept_open : (b x : Bool) → (if b then x else true) ≡ false → x ≡ false
kept_open true x e = e
kept_open false x e = absurd (cc)

-- to a server that took no request nothing is due
nothing_due : (c : Config) (k : List EndEvent) (l : ℕ) → HistoryFacts c k → c.side ≡ Server → is_shaken k ≡ false → is_closed c k ≡ false → present_link k ≡ Some l
    → lent_frames l k ≡ [] → due c k ≡ None
nothing_due c k l facts server unshaken live at none =
    ap (due_on c k) at
    ∙ ap (due_there c k l) (facts.unclosed_has_no_answer live)
    ∙ ap (due_after c k l) none
    ∙ ap (λ o. if is_this l o then handshake c.side c k else Some (Sequence (suc (acked_count k)) (if is_three k then Some (length (processed_messages k)) else None))) (facts.unshaken_is_on_first unshaken l at)
    ∙ ap (λ b. if b then handshake c.side c k else Some (Sequence (suc (acked_count k)) (if is_three k then Some (length (processed_messages k)) else None))) (is_this-same l (Some l) refl)
    ∙ ap (λ side. handshake side c k) server
    ∙ ap (λ b. if b then Some Response else None) unshaken

module _ (facts : FactsHold) (limits : Limits) (wire : Wire) (c : Config) where
  -- so it said nothing
  none_said : (h : List ByteStep) → IsHistory limits wire c h → c.side ≡ Server → is_shaken (in_frames wire c h) ≡ false → is_closed c (in_frames wire c h) ≡ false
      → (l : ℕ) → lent_frames l (in_frames wire c h) ≡ []
  none_said [] i server u live l = refl
  none_said (Bytes piece ∷ h) i server u live l = none_said h i.0 server u live l
  none_said (Does (Detached now) ∷ h) i server u live l = none_said h i.0 server u (kept_open (is_resumable c (in_frames wire c h)) (is_closed c (in_frames wire c h)) live) l
  none_said (Does (Silenced now) ∷ h) i server u live l = none_said h i.0 server u (kept_open (is_resumable c (in_frames wire c h)) (is_closed c (in_frames wire c h)) live) l
  none_said (Does (Took (Shaken codec version)) ∷ h) i server u live l = absurd (cc)
  none_said (Does (Took (gives.Closed error allow)) ∷ h) i server u live l = absurd (cc)
  none_said (Does (Took got) ∷ h) i server u live l = none_said h i.0 server u live l
  none_said (Does (Failed fault) ∷ h) i server u live l = absurd (cc)
  none_said (Does (Closed reason allow) ∷ h) i server u live l = absurd (cc)
  none_said (Does (Lent f) ∷ h) i server u live l = absurd (on_link (none_said h i.0 server u live) (present_link (in_frames wire c h)) refl i.1)
    where
      on_link : ((j : ℕ) → lent_frames j (in_frames wire c h) ≡ []) → (o : Option ℕ) → present_link (in_frames wire c h) ≡ o → due c (in_frames wire c h) ≡ Some f → ⊥
      on_link before None at e = let z : due c (in_frames wire c h) ≡ None = ap (due_on c (in_frames wire c h)) at in absurd (cc)
      on_link before (Some j) at e = let z = nothing_due c (in_frames wire c h) j (facts limits wire c h i.0) server u live at (before j) in absurd (cc)
  none_said (Does (Fed piece) ∷ h) i server u live l = absurd i.1
  none_said (Does s ∷ h) i server u live l = none_said h i.0 server u live l

  -- taking a frame says nothing
  said_as_before : (h : List ByteStep) (got : Got) (l : ℕ) → IsHistory limits wire c (Does (Took got) ∷ h)
      → lent_bytes wire c l (Does (Took got) ∷ h) ≡ lent_bytes wire c l h
  said_as_before h (Shaken codec version) l i = by_side c.side refl
    where
      k : List EndEvent
      k = in_frames wire c h

      by_side : (side : Side) → c.side ≡ side → spelling_of wire codec (lent_frames l (in_frames wire c h)) ≡ spelling_of wire (codec_of c (in_frames wire c h)) (lent_frames l (in_frames wire c h))
      by_side Client e =
          let now = (facts limits wire c (Does (Took (Shaken codec version)) ∷ h) i).client_has_its_codec e in
          let then_ = (facts limits wire c h i.0).client_has_its_codec e in
          ap (λ codec. spelling_of wire codec (lent_frames l (in_frames wire c h))) (now ∙ sym then_)
      by_side Server e =
          let unshaken : is_shaken (in_frames wire c h) ≡ false = processed c (in_frames wire c h) (Took (Shaken codec version)) i.1 in
          let live = live_before (is_closed c (in_frames wire c h)) i.1 in
          let none = none_said h i.0 e unshaken live l in
          ap (spelling_of wire codec) none ∙ ap (spelling_of wire (codec_of c (in_frames wire c h))) (sym none)
        where
          live_before : (b : Bool) → (if b then None else next_frame c (in_frames wire c h) (present_link (in_frames wire c h))) ≡ Some (Took (Shaken codec version)) → b ≡ false
          live_before true f = absurd (cc)
          live_before false f = refl
  said_as_before h got l i = refl

-- ---- the laws

or_left : (a b : Bool) → a ≡ true → (a || b) ≡ true
or_left true b e = refl
or_left false b e = absurd (cc)

-- an end was on the link where it is
pub here_was : (l : ℕ) (k : List EndEvent) → present_link k ≡ Some l → was_on l k ≡ true
here_was l [] e = absurd (cc)
here_was l (Attached j now ∷ k) e = or_left (l == j) (was_on l k) (eq-eqb l j (let e' : j ≡ l = cc in sym e'))
here_was l (Detached now ∷ k) e = absurd (cc)
here_was l (Silenced now ∷ k) e = absurd (cc)
here_was l (_ ∷ k) e = here_was l k e

pub comes_last : LentComesLast
comes_last wire c h l f at =
    ap (λ b. spelling_of wire codec (if b then lent_frames l k ++ f ∷ [] else lent_frames l k)) (is_this-same l (present_link k) at)
    ∙ flat_map-append (wire.spell codec) (lent_frames l k) (f ∷ [])
    ∙ ap (λ bytes. spelling_of wire codec (lent_frames l k) ++ bytes) (append-nil (wire.spell codec f))
  where
    k : List EndEvent
    k = in_frames wire c h

    codec : Codec
    codec = codec_of c (in_frames wire c h)

pub stays : FactsHold → LentStays
stays facts limits wire c h (Bytes piece) l i apart = refl
stays facts limits wire c h (Does (Took got)) l i apart = said_as_before facts limits wire c h got l i
stays facts limits wire c h (Does (Lent f)) l i apart = on_link (stands_on l (in_frames wire c h)) refl
  where
    on_link : (b : Bool) → stands_on l (in_frames wire c h) ≡ b
        → spelling_of wire (codec_of c (in_frames wire c h)) (if b then lent_frames l (in_frames wire c h) ++ f ∷ [] else lent_frames l (in_frames wire c h)) ≡ lent_bytes wire c l h
    on_link true e = absurd (apart f refl (is_this-true l (present_link (in_frames wire c h)) e))
    on_link false e = refl
stays facts limits wire c h (Does s) l i apart = refl

-- off the links where an end was, it stands nowhere
off : (l : ℕ) (k : List EndEvent) → was_on l k ≡ false → stands_on l k ≡ false
off l k e = go (stands_on l k) refl
  where
    go : (b : Bool) → stands_on l k ≡ b → b ≡ false
    go true s = let w : was_on l k ≡ true = here_was l k (is_this-true l (present_link k) s) in absurd (cc)
    go false s = refl

or_parts : (a b : Bool) → (a || b) ≡ false → b ≡ false
or_parts true b e = absurd (cc)
or_parts false b e = e

none_fed : FedIsUnseen → (wire : Wire) (c : Config) (h : List ByteStep) (l : ℕ) → was_on l (in_frames wire c h) ≡ false → bytes_on l h ≡ []
none_fed unseen wire c [] l e = refl
none_fed unseen wire c (Bytes piece ∷ h) l e =
    ap (λ b. if b then bytes_on l h ++ piece else bytes_on l h) (ap (is_this l) (sym (unseen wire c h).link) ∙ off l (in_frames wire c h) e) ∙ none_fed unseen wire c h l e
none_fed unseen wire c (Does (Attached j now) ∷ h) l e = none_fed unseen wire c h l (or_parts (l == j) (was_on l (in_frames wire c h)) e)
none_fed unseen wire c (Does s ∷ h) l e = none_fed unseen wire c h l e

pub unused : UnusedIsUntouched → FedIsUnseen → UnusedIsEmpty
unused untouched unseen wire c h l e = (ap (spelling_of wire (codec_of c (in_frames wire c h))) (untouched (in_frames wire c h) l e).lent, none_fed unseen wire c h l e)
