-- A world over bytes is a world over frames.
use Rattle.std.proofs.Common.{inl, inr, ⊎_elim, ◌≡◌, ℕ, zero, suc, ◌≤◌, Bool, true, false, List, [], ◌∷◌, ◌++◌, length, drop, Option, Some, None, refl, sym, ap, ◌∙◌, subst, arith, length-append, append_assoc, ◌^◌}
use Rattle.std.specs.Prelude.{slice_get, ◌⊎◌, ◌==◌, Contains, if◌then◌else◌}
use Rattle.std.proofs.lemmas.List.Elements.{Contains-append_left, Contains-append_right}
use Rattle.hm_message.specs.declared.message.Message.{Message}
use Rattle.hm_message.specs.declared.message.Codec.{Codec}
use Rattle.hd_delivery.specs.declared.vocabulary.Got.TheVariants.{Shaken}
use Rattle.hd_delivery.specs.declared.vocabulary.Side.{Side}
use Rattle.hd_delivery.specs.declared.vocabulary.Side.TheVariants.{Client, Server}
use Rattle.hd_delivery.specs.Frames.{LinkFrame, Request, Response, Refusal, Numbered, Ack, Sequence, Ping, Close, Foreign, Strange, Unreadable, count}
use Rattle.hd_delivery.specs.Histories.{Config, EndEvent, Attached, Detached, Fed, Took, Sent, Lent, Silenced, is_this, first_of, present_link, stands_on, was_on, first_link, fed_frames, lent_frames, sent_messages, processed_messages, is_shaken, codec_of}
use Rattle.hd_delivery.specs.Due.{handshake, due_after, due_there, due_on, due}
use Rattle.hd_facts.specs.Prefixes.{IsPrefix}
use Rattle.hd_delivery.specs.Worlds.{Limits, Sizes, CanBeSent, Allowed, Terms, codec_at, config, Still, Event, ByClient, ByServer, client_of, server_of}
use Rattle.hd_delivery.specs.Bytes.{Waits, Wire, sizes_of, IsRead, IsFaithful, cut_all, codec_after, cut, frames, ByteStep, Bytes, Does, bare_steps, bytes_on, new_frames, in_frames, spelling_of, AllowedOverBytes, IsWorldOverBytes, StillOverBytes}
use Rattle.hd_delivery.proofs.Lists.{append_none}
use Rattle.hd_delivery.proofs.Local.{is_this-true, is_this-same, both, or_parts, here_was, has_first, none_was, lent_was}
use Rattle.hd_delivery.proofs.Carries.{Facts, facts, HasNumber, MayStand, MayCarry, MayStand-count}
use Rattle.hd_delivery.proofs.Pair.{messages, other, Pair, messages-push, same_first}
use Rattle.hd_delivery.proofs.WhatIsSaid.{not_failed, says_due}
use Rattle.hd_delivery.proofs.World.{Together, to_server, start, client_steps, server_steps}
use Rattle.hd_delivery.specs.Laws.{whole_frames}
use Rattle.hd_delivery.proofs.OwnLimits.{can_be_sent_too}
use Rattle.hd_delivery.proofs.Cuts.{drop_front, within_more, within_prefix, within_all, AreRead, AreReadFirst, link_cut, AreReadOn, cut_front, cut_none}

pub bare_here : (wire : Wire) (c : Config) (h : List ByteStep) → present_link (bare_steps h) ≡ present_link (in_frames wire c h)
bare_here wire c [] = refl
bare_here wire c (Bytes piece ∷ h) = bare_here wire c h
bare_here wire c (Does (Attached l now) ∷ h) = refl
bare_here wire c (Does (Detached now) ∷ h) = refl
bare_here wire c (Does (Silenced now) ∷ h) = refl
bare_here wire c (Does s ∷ h) = bare_here wire c h

spelled-append : (wire : Wire) (codec : Codec) (ts us : List LinkFrame) → spelling_of wire codec (ts ++ us) ≡ spelling_of wire codec ts ++ spelling_of wire codec us
spelled-append wire codec [] us = refl
spelled-append wire codec (t ∷ ts) us = ap (λ bs. wire.spell codec t ++ bs) (spelled-append wire codec ts us) ∙ sym (append_assoc (wire.spell codec t) (spelling_of wire codec ts) (spelling_of wire codec us))

pub nothing_on : (wire : Wire) (c : Config) (l : ℕ) (h : List ByteStep) → was_on l (in_frames wire c h) ≡ false → bytes_on l h ≡ []
nothing_on wire c l [] e = refl
nothing_on wire c l (Bytes piece ∷ h) e = both (λ bs. bs ≡ []) (stands_on l (bare_steps h)) (bytes_on l h ++ piece) (bytes_on l h)
    (λ s. let w = here_was l (in_frames wire c h) (sym (bare_here wire c h) ∙ is_this-true l (present_link (bare_steps h)) s) in absurd (cc))
    (λ s. nothing_on wire c l h e)
nothing_on wire c l (Does (Attached k now) ∷ h) e = nothing_on wire c l h (or_parts (l == k) (was_on l (in_frames wire c h)) e).1
nothing_on wire c l (Does s ∷ h) e = nothing_on wire c l h e

-- before the handshake an end's codec is its own
pub own_codec : (c : Config) (h : List EndEvent) → is_shaken h ≡ false → codec_of c h ≡ c.codec
own_codec c [] e = refl
own_codec c (Took (Shaken k v) ∷ h) e = absurd (cc)
own_codec c (_ ∷ h) e = own_codec c h e

-- before the handshake a server says nothing
abbrev pub Opens : Side → List EndEvent → Type 0
Opens side x = is_shaken x ≡ false → (side ≡ Client) ⊎ ((l : ℕ) → lent_frames l x ≡ [])

module _ (side : Side) (terms : Terms) (x y : List EndEvent) (i : Pair side terms x y) where
  asks_first : (s : Side) (t : LinkFrame) → is_shaken x ≡ false → handshake s (config side terms) x ≡ Some t → s ≡ Client
  asks_first Client t s e = refl
  asks_first Server t s e = absurd (let z : ◌≡◌ {A = Option LinkFrame} None (Some t) = subst (λ b. (if b then Some Response else None) ≡ Some t) s e in cc)

  opens_due : Opens side x → (t : LinkFrame) → due (config side terms) x ≡ Some t → is_shaken x ≡ false → side ≡ Client
  opens_due o t e s = on_link (present_link x) refl e
    where
      on_some : (l : ℕ) → present_link x ≡ Some l → (ts : List LinkFrame) → lent_frames l x ≡ ts → due_after (config side terms) x l ts ≡ Some t → side ≡ Client
      on_some l at [] is f = both (λ o. o ≡ Some t → side ≡ Client) (is_this l (first_link x)) _ _
          (λ b g. asks_first side t s g)
          (λ b g. absurd (let z = is_this-same l (first_link x) (i.own.one_link s l (here_was l x at)) in cc)) f
      on_some l at (u ∷ us) is f = ⊎_elim (λ g. g) (λ g. absurd (let z : ◌≡◌ {A = List LinkFrame} [] (u ∷ us) = sym (g l) ∙ is in cc)) (o s)

      on_link : (o : Option ℕ) → present_link x ≡ o → due_on (config side terms) x o ≡ Some t → side ≡ Client
      on_link None at f = absurd (cc)
      on_link (Some l) at f = on_some l at (lent_frames l x) refl (subst (λ o. due_there (config side terms) x l o ≡ Some t) (not_failed x i.own.faultless) f)

  opens_step : (limits : Limits) (sizes : Sizes) → Opens side x → (s : EndEvent) → Allowed limits sizes (config side terms) x y s → Opens side (s ∷ x)
  opens_step limits sizes o (Took (Shaken k v)) a e = absurd (cc)
  opens_step limits sizes o (Lent t) a e = inl (opens_due o t a e)
  opens_step limits sizes o s a e = o e

  -- what an end says is spelled in the client's codec
  spoken : (wire : Wire) → Opens side x → (l : ℕ) → spelling_of wire (codec_of (config side terms) x) (lent_frames l x) ≡ spelling_of wire terms.codec (lent_frames l x)
  spoken wire o l = go (is_shaken x) refl
    where
      own : (s : Side) → s ≡ Client → codec_at s terms ≡ terms.codec
      own s e = ap (λ s. codec_at s terms) e

      go : (b : Bool) → is_shaken x ≡ b → spelling_of wire (codec_of (config side terms) x) (lent_frames l x) ≡ spelling_of wire terms.codec (lent_frames l x)
      go true s = ap (λ k. spelling_of wire k (lent_frames l x)) (i.own.speaks s)
      go false s = ⊎_elim
          (λ e. ap (λ k. spelling_of wire k (lent_frames l x)) (own_codec (config side terms) x s ∙ own side e))
          (λ e. ap (spelling_of wire (codec_of (config side terms) x)) (e l) ∙ sym (ap (spelling_of wire terms.codec) (e l)))
          (o s)

-- readers that are faithful to these messages
module _ (limits : Side → Limits) (wire : Wire) (terms : Terms) (all : List Message) (law : IsFaithful (limits Client) wire terms.codec terms.version all)
    (one_frame : (limits Client).frame ≡ (limits Server).frame) where
  later_waits : wire.later terms.codec [] ≡ Waits
  later_waits = law.ping.waits [] (wire.spell terms.codec Ping) refl law.ping.nonempty

  first_waits : (side : Side) → wire.first side [] ≡ Waits
  first_waits Client = law.response.waits [] (wire.spell terms.codec Response) refl law.response.nonempty
  first_waits Server = let r = law.request in r.waits [] (wire.spell terms.codec (Request terms.codec terms.version)) refl r.nonempty

  -- each of these messages is read as itself
  abbrev AllRead : List Message → Type 0
  AllRead [] = Unit {0}
  AllRead (m ∷ ms) = IsRead (wire.later terms.codec) (wire.spell terms.codec (Numbered m)) (Numbered m) × AllRead ms

  read_push : (ms ns : List Message) → AllRead ms → AllRead ns → AllRead (ms ++ ns)
  read_push [] ns f g = g
  read_push (m ∷ ms) ns f g = (f.0, read_push ms ns f.1 g)

  read_at : (ms : List Message) (k : ℕ) (m : Message) → AllRead ms → slice_get ms k ≡ Some m → IsRead (wire.later terms.codec) (wire.spell terms.codec (Numbered m)) (Numbered m)
  read_at [] k m f e = absurd (cc)
  read_at (n ∷ ms) zero m f e = let g : n ≡ m = cc in subst (λ m. IsRead (wire.later terms.codec) (wire.spell terms.codec (Numbered m)) (Numbered m)) g f.0
  read_at (n ∷ ms) (suc k) m f e = read_at ms k m f.1 e

  read_head : (t : LinkFrame) (ts : List LinkFrame) → AllRead (messages (t ∷ ts)) → AllRead (messages (t ∷ [])) × AllRead (messages ts)
  read_head (Numbered m) ts f = ((f.0, tt), f.1)
  read_head t ts f = (tt, f)

  -- a frame that may stand on a link is read as itself, where it is no handshake
  read_later : (F : Facts) (l : ℕ) (n : Option ℕ) (t : LinkFrame) → F.writer ≤ 2 ^ 62 → F.reader ≤ 2 ^ 62 → AllRead (messages (t ∷ [])) → (n ≡ None → F.first ≡ Some l → ⊥)
      → MayStand F l n t → IsRead (wire.later terms.codec) (wire.spell terms.codec t) t
  read_later F l n (Request k v) w r f later o = absurd (later o.1 o.2)
  read_later F l n Response w r f later o = absurd (later o.1 o.2)
  read_later F l n (Numbered m) w r f later o = f.0
  read_later F l n (Ack a) w r f later o = law.ack a (omega (arith, o.2))
  read_later F l n (Sequence s received) w r f later o = law.sequence s received (omega (arith, o.1, o.2)) (omega (arith, o.5))
  read_later F l n Ping w r f later o = law.ping
  read_later F l n (Close error allow) w r f later o = subst (λ e. IsRead (wire.later terms.codec) (wire.spell terms.codec (Close e allow)) (Close e allow)) (sym o.1.1) (law.close o.1.0 allow)
  read_later F l n (Refusal text) w r f later o = absurd o
  read_later F l n (Foreign k) w r f later o = absurd o
  read_later F l n (Strange why text) w r f later o = absurd o
  read_later F l n (Unreadable at why) w r f later o = absurd o

  read_after : (F : Facts) (l : ℕ) (n : Option ℕ) (ts : List LinkFrame) → F.writer ≤ 2 ^ 62 → F.reader ≤ 2 ^ 62 → AllRead (messages ts) → HasNumber n → MayCarry F l n ts → AreRead wire terms.codec ts
  read_after F l n [] w r f m g = tt
  read_after F l n (t ∷ ts) w r f m g = (
    read_later F l n t w r (read_head t ts f).0 (λ e p. let z : None ≡ Some m.0 = sym e ∙ m.1 in cc) g.0,
    read_after F l (count n t) ts w r (read_head t ts f).1 (MayStand-count F l n t g.0) g.1,
  )

  read_link : (F : Facts) (l : ℕ) (ts : List LinkFrame) → F.writer ≤ 2 ^ 62 → F.reader ≤ 2 ^ 62 → AllRead (messages ts) → (F.first ≡ Some l → ⊥) → MayCarry F l None ts → AreRead wire terms.codec ts
  read_link F l [] w r f far g = tt
  read_link F l (t ∷ ts) w r f far g = (
    read_later F l None t w r (read_head t ts f).0 (λ e p. far p) g.0,
    read_after F l (count None t) ts w r (read_head t ts f).1 (MayStand-count F l None t g.0) g.1,
  )

  -- the handshake is read as itself
  read_handshake : (side : Side) (F : Facts) (l : ℕ) (t : LinkFrame) → F.side ≡ other side → F.version ≡ terms.version → F.codec ≡ terms.codec → F.first ≡ Some l → MayStand F l None t
      → IsRead (wire.first side) (wire.spell terms.codec t) t × (codec_after (codec_at side terms) t ≡ terms.codec)
  read_handshake Client F l (Request k v) s e c f o = absurd (let a : F.side ≡ Client = o.0 in cc)
  read_handshake Client F l Response s e c f o = (law.response, refl)
  read_handshake Server F l (Request k v) s e c f o =
      let a = sym (o.4 ∙ c) in
      let b = sym (o.3 ∙ e) in (
        subst (λ v. IsRead (wire.first Server) (wire.spell terms.codec (Request k v)) (Request k v)) b
            (subst (λ k. IsRead (wire.first Server) (wire.spell terms.codec (Request k terms.version)) (Request k terms.version)) a (law.request)),
        o.4 ∙ c,
      )
  read_handshake Server F l Response s e c f o = absurd (let a : F.side ≡ Server = o.0 in cc)
  read_handshake side F l (Numbered m) s e c f o = absurd (let a : None ≡ Some o.0.0 = o.0.1 in cc)
  read_handshake side F l (Ack a) s e c f o = absurd (let a : None ≡ Some o.0.0 = o.0.1 in cc)
  read_handshake side F l (Sequence n received) s e c f o = absurd (o.4 refl f)
  read_handshake side F l Ping s e c f o = absurd (let a : None ≡ Some o.0 = o.1 in cc)
  read_handshake side F l (Close error allow) s e c f o = absurd (let a : None ≡ Some o.0.0 = o.0.1 in cc)
  read_handshake side F l (Refusal text) s e c f o = absurd o
  read_handshake side F l (Foreign k) s e c f o = absurd o
  read_handshake side F l (Strange why text) s e c f o = absurd o
  read_handshake side F l (Unreadable at why) s e c f o = absurd o

  read_first : (side : Side) (F : Facts) (l : ℕ) (ts : List LinkFrame) → F.side ≡ other side → F.version ≡ terms.version → F.codec ≡ terms.codec → F.writer ≤ 2 ^ 62 → F.reader ≤ 2 ^ 62
      → AllRead (messages ts) → F.first ≡ Some l → MayCarry F l None ts → AreReadFirst wire terms.codec side (codec_at side terms) ts
  read_first side F l [] s e c w r f near g = tt
  read_first side F l (t ∷ ts) s e c w r f near g =
      let h = read_handshake side F l t s e c near g.0 in
      (h.0, h.1, read_after F l (count None t) ts w r (read_head t ts f).1 (MayStand-count F l None t g.0) g.1)

  -- all that an end sent is read as itself, and so is all that it lent
  abbrev SaysRead : List EndEvent → Type 0
  SaysRead x = AllRead (sent_messages x) × ((l : ℕ) → AllRead (messages (lent_frames l x)))

  -- what the other end lends on the link where an end stands is read as itself
  read_there : (side : Side) (x y : List EndEvent) (l : ℕ) → Pair side terms x y → SaysRead y → present_link x ≡ Some l → AreReadOn wire terms.codec side (codec_at side terms) (is_this l (first_link x)) (lent_frames l y)
  read_there side x y l i says at = go (is_this l (first_link x)) refl (lent_frames l y) refl
    where
      few_x : length (processed_messages x) ≤ 2 ^ 62
      few_x = let a = i.from.most in let b = i.its.lent_sent in let c = i.its.few in omega arith

      few_y : length (processed_messages y) ≤ 2 ^ 62
      few_y = let a = i.to.most in let b = i.own.lent_sent in let c = i.own.few in omega arith

      go : (b : Bool) → is_this l (first_link x) ≡ b → (ts : List LinkFrame) → lent_frames l y ≡ ts → AreReadOn wire terms.codec side (codec_at side terms) b (lent_frames l y)
      go true e [] f = subst (λ ts. AreReadFirst wire terms.codec side (codec_at side terms) ts) (sym f) tt
      go true e (t ∷ ts) f =
          let near = is_this-true l (first_link x) e in
          let theirs = has_first l y (lent_was l y 0 t (ap (λ ts. slice_get ts 0) f)) in
          read_first side (facts (other side) terms y x) l (lent_frames l y) refl refl refl few_y few_x (says.1 l) (theirs.1 ∙ ap Some (sym (i.agree l theirs.0 near theirs.1))) (i.from.good l)
      go false e ts f =
          read_link (facts (other side) terms y x) l (lent_frames l y) few_y few_x (says.1 l)
          (λ p. let z = is_this-same l (first_link x) (same_first side terms x y i l at p) in absurd (cc)) (i.from.good l)

  -- what x was fed is the front of what y lent, and its frames are those that end there
  abbrev Follows : Side → List ByteStep → List ByteStep → Type 0
  Follows side x y = (l : ℕ)
      → IsPrefix (bytes_on l x) (spelling_of wire terms.codec (lent_frames l (in_frames wire (config (other side) terms) y)))
      × (fed_frames l (in_frames wire (config side terms) x) ≡ frames (link_cut wire terms.codec side (codec_at side terms) (is_this l (first_link (in_frames wire (config side terms) x))) (bytes_on l x)))

  module _ (side : Side) (x y : List ByteStep) (i : Pair side terms (in_frames wire (config side terms) x) (in_frames wire (config (other side) terms) y))
      (q : SaysRead (in_frames wire (config (other side) terms) y)) (c : Follows side x y) where
    -- the histories in frames
    abbrev reader : List EndEvent
    reader = in_frames wire (config side terms) x

    abbrev writer : List EndEvent
    writer = in_frames wire (config (other side) terms) y

    -- the frames of the link where an end stands are cut in the client's codec
    cut_here : (l : ℕ) (bytes : List ℕ) → present_link reader ≡ Some l → frames (cut wire (config side terms) reader l bytes) ≡ frames (link_cut wire terms.codec side (codec_at side terms) (is_this l (first_link reader)) bytes)
    cut_here l bytes at = go (is_this l (first_link reader)) refl
      where
        shaken_later : (b : Bool) → is_shaken reader ≡ b → is_this l (first_link reader) ≡ false → is_shaken reader ≡ true
        shaken_later true s e = s
        shaken_later false s e = absurd (let z = is_this-same l (first_link reader) (i.own.one_link s l (here_was l reader at)) in cc)

        go : (b : Bool) → is_this l (first_link reader) ≡ b → frames (cut wire (config side terms) reader l bytes) ≡ frames (link_cut wire terms.codec side (codec_at side terms) b bytes)
        go true e = rw e refl
        go false e = rw e (ap (λ k. frames (cut_all (wire.later k) (length bytes) 0 bytes)) (i.own.speaks (shaken_later (is_shaken reader) refl e)))

    -- a piece makes some frames whole
    record Completes (l : ℕ) (piece : List ℕ) (new : List LinkFrame) : Type 0 where
      whole : fed_frames l reader ++ new ≡ frames (link_cut wire terms.codec side (codec_at side terms) (is_this l (first_link reader)) (bytes_on l x ++ piece))
      front : IsPrefix (fed_frames l reader ++ new) (lent_frames l writer)

    completes : (l : ℕ) (piece : List ℕ) → present_link reader ≡ Some l → IsPrefix (bytes_on l x ++ piece) (spelling_of wire terms.codec (lent_frames l writer))
        → Completes l piece (new_frames wire (config side terms) x reader (present_link reader) piece)
    completes l piece at front =
        let b = is_this l (first_link reader) in
        let ts = lent_frames l writer in
        let fit = read_there side reader writer l i q at in
        let old = (c l).1 ∙ cut_front wire terms.codec later_waits side (codec_at side terms) (first_waits side) b ts (bytes_on l x) (c l).0.0 fit (c l).0.1 in
        let now = cut_front wire terms.codec later_waits side (codec_at side terms) (first_waits side) b ts (bytes_on l x ++ piece) front.0 fit front.1 in
        let more = within_more (wire.spell terms.codec) ts (length (bytes_on l x)) (length (bytes_on l x ++ piece)) (omega (arith, length-append (bytes_on l x) piece)) in
        let all : fed_frames l reader ++ more.0 ≡ frames (link_cut wire terms.codec side (codec_at side terms) b (bytes_on l x ++ piece)) = ap (λ us. us ++ more.0) old ∙ (more.1 ∙ sym now) in
        let new : new_frames wire (config side terms) x reader (present_link reader) piece ≡ more.0 =
        ap (λ o. new_frames wire (config side terms) x reader o piece) at
        ∙ (ap (drop (length (fed_frames l reader))) (cut_here l (bytes_on l x ++ piece) at ∙ sym all) ∙ drop_front (fed_frames l reader) more.0) in
        let whole : fed_frames l reader ++ new_frames wire (config side terms) x reader (present_link reader) piece ≡ frames (link_cut wire terms.codec side (codec_at side terms) b (bytes_on l x ++ piece)) = ap (λ us. fed_frames l reader ++ us) new ∙ all in
        record { whole = whole; front = subst (λ us. IsPrefix us ts) (sym (whole ∙ now)) (within_prefix (wire.spell terms.codec) ts (length (bytes_on l x ++ piece))) }

    -- where all bytes were fed, all frames were
    pub fed_whole : (l : ℕ) → present_link reader ≡ Some l → bytes_on l x ≡ spelling_of wire terms.codec (lent_frames l writer) → fed_frames l reader ≡ lent_frames l writer
    fed_whole l at e =
        let fit = read_there side reader writer l i q at in
        (c l).1 ∙ (cut_front wire terms.codec later_waits side (codec_at side terms) (first_waits side) (is_this l (first_link reader)) (lent_frames l writer) (bytes_on l x) (c l).0.0 fit (c l).0.1
        ∙ (ap (λ bs. whole_frames (wire.spell terms.codec) (lent_frames l writer) (length bs)) e ∙ within_all wire terms.codec (lent_frames l writer)))

    -- what was fed in frames are the frames whose bytes were all fed
    pub fed_within : (l : ℕ) → present_link reader ≡ Some l → fed_frames l reader ≡ whole_frames (wire.spell terms.codec) (lent_frames l writer) (length (bytes_on l x))
    fed_within l at =
        let fit = read_there side reader writer l i q at in
        (c l).1 ∙ cut_front wire terms.codec later_waits side (codec_at side terms) (first_waits side) (is_this l (first_link reader)) (lent_frames l writer) (bytes_on l x) (c l).0.0 fit (c l).0.1

    -- the reader's bytes
    fed_bytes : (l : ℕ) (piece : List ℕ) → present_link reader ≡ Some l → IsPrefix (bytes_on l x ++ piece) (spelling_of wire terms.codec (lent_frames l writer)) → Follows side (Bytes piece ∷ x) y
    fed_bytes l piece at front k = go (stands_on k reader) refl
      where
        same : stands_on k (bare_steps x) ≡ stands_on k reader
        same = ap (is_this k) (bare_here wire (config side terms) x)

        go : (b : Bool) → stands_on k reader ≡ b → IsPrefix (bytes_on k (Bytes piece ∷ x)) (spelling_of wire terms.codec (lent_frames k writer)) × (fed_frames k (in_frames wire (config side terms) (Bytes piece ∷ x)) ≡ frames (link_cut wire terms.codec side (codec_at side terms) (is_this k (first_link reader)) (bytes_on k (Bytes piece ∷ x))))
        go true e =
            let f = is_this-true k (present_link reader) e in
            let g : l ≡ k = cc in
            let n = completes l piece at front in
            rw (same ∙ e, e) (
              subst (λ k. IsPrefix (bytes_on k x ++ piece) (spelling_of wire terms.codec (lent_frames k writer))) g front,
              subst (λ k. fed_frames k reader ++ new_frames wire (config side terms) x reader (present_link reader) piece ≡ frames (link_cut wire terms.codec side (codec_at side terms) (is_this k (first_link reader)) (bytes_on k x ++ piece))) g n.whole,
            )
        go false e = rw (same ∙ e, e) (c k)

    -- the reader's other steps
    reader_does : (s : EndEvent) → ((piece : List LinkFrame) → s ≡ Fed piece → ⊥) → Follows side (Does s ∷ x) y
    reader_does (Attached l now) not_fed k = ((c k).0, (c k).1 ∙ go (first_link reader) refl)
      where
        go : (o : Option ℕ) → first_link reader ≡ o → frames (link_cut wire terms.codec side (codec_at side terms) (is_this k (first_link reader)) (bytes_on k x)) ≡ frames (link_cut wire terms.codec side (codec_at side terms) (is_this k (first_of (first_link reader) (Some l))) (bytes_on k x))
        go (Some j) e = rw e refl
        go None e = rw e (rw (nothing_on wire (config side terms) k x (none_was k reader e)) (sym (cut_none wire terms.codec later_waits side (codec_at side terms) (first_waits side) (k == l))))
    reader_does (Fed piece) not_fed k = absurd (not_fed piece refl)
    reader_does s not_fed k = c k

    -- the writer's steps
    writer_does : (s : EndEvent) → Follows side x (Does s ∷ y)
    writer_does (Lent t) k = (
      both (λ ts. IsPrefix (bytes_on k x) (spelling_of wire terms.codec ts)) (stands_on k writer) (lent_frames k writer ++ t ∷ []) (lent_frames k writer)
          (λ e. let p = (c k).0 in (p.0 ++ spelling_of wire terms.codec (t ∷ []), sym (append_assoc (bytes_on k x) p.0 (spelling_of wire terms.codec (t ∷ []))) ∙ (ap (λ bs. bs ++ spelling_of wire terms.codec (t ∷ [])) p.1 ∙ sym (spelled-append wire terms.codec (lent_frames k writer) (t ∷ [])))))
          (λ e. (c k).0),
      (c k).1,
    )
    writer_does s k = c k

  push_read : (t : LinkFrame) (ms : List Message) → ((m : Message) → t ≡ Numbered m → IsRead (wire.later terms.codec) (wire.spell terms.codec (Numbered m)) (Numbered m)) → AllRead ms → AllRead (ms ++ messages (t ∷ []))
  push_read (Numbered m) ms f g = read_push ms (m ∷ []) g (f m refl, tt)
  push_read t ms f g = subst (λ ms. AllRead ms) (sym (append_none ms)) g

  -- what a side can send the client can send, as far as limits say
  as_client : (side : Side) (codec : Codec) (m : Message) → CanBeSent (limits side) (sizes_of wire) codec m → CanBeSent (limits Client) (sizes_of wire) codec m
  as_client Client codec m can = can
  as_client Server codec m can = can_be_sent_too (limits Server) (limits Client) (sizes_of wire) codec m (sym one_frame) can

  -- the steps of an end keep that all is read as itself
  says_step : (side : Side) (x y : List EndEvent) → Pair side terms x y → SaysRead x → (s : EndEvent) → ((m : Message) → Contains (sent_messages (s ∷ x)) m → Contains all m) → Allowed (limits side) (sizes_of wire) (config side terms) x y s → SaysRead (s ∷ x)
  says_step side x y i q (Sent m) within a = (
    read_push (sent_messages x) (m ∷ []) q.0 (
      law.message m (within m (Contains-append_right (sent_messages x) (m ∷ []) m (0, omega arith, refl)))
          (as_client side terms.codec m (subst (λ k. CanBeSent (limits side) (sizes_of wire) k m) (i.own.speaks a.shakes) a.can_be)),
      tt,
    ),
    q.1,
  )
  says_step side x y i q (Lent t) within a =
      let p = says_due side terms x y i t a in (
        q.0,
        λ k. both (λ ts. AllRead (messages ts)) (stands_on k x) (lent_frames k x ++ t ∷ []) (lent_frames k x)
            (λ e. subst (λ ms. AllRead ms) (sym (messages-push (lent_frames k x) t)) (push_read t (messages (lent_frames k x)) (λ m e. let z = p.2.sends m e in read_at (sent_messages x) z.0 m q.0 z.1) (q.1 k)))
            (λ e. q.1 k),
      )
  says_step side x y i q s within a = q

  -- what holds of two ends over bytes
  abbrev pub TogetherOverBytes : List ByteStep → List ByteStep → Type 0
  TogetherOverBytes c s = record {
    together : Together terms (in_frames wire (config Client terms) c) (in_frames wire (config Server terms) s);
    client_follows : Follows Client c s;
    server_follows : Follows Server s c;
    client_says : SaysRead (in_frames wire (config Client terms) c);
    server_says : SaysRead (in_frames wire (config Server terms) s);
    client_opens : Opens Client (in_frames wire (config Client terms) c);
    server_opens : Opens Server (in_frames wire (config Server terms) s);
  }

  -- what a side sent is among these
  abbrev Within : Side → List ByteStep → Type 0
  Within side x = (m : Message) → Contains (sent_messages (in_frames wire (config side terms) x)) m → Contains all m

  sent_before : (side : Side) (step : ByteStep) (x : List ByteStep) → Within side (step ∷ x) → Within side x
  sent_before side (Bytes piece) x within m e = within m e
  sent_before side (Does (Sent n)) x within m e = within m (Contains-append_left (sent_messages (in_frames wire (config side terms) x)) (n ∷ []) m e)
  sent_before side (Does s) x within m e = within m e

  module _ (c s : List ByteStep) (t : TogetherOverBytes c s) where
    abbrev client : List EndEvent
    client = in_frames wire (config Client terms) c

    abbrev server : List EndEvent
    server = in_frames wire (config Server terms) s

    abbrev from_client : Pair Client terms client server
    from_client = t.together.ends.pair

    abbrev from_server : Pair Server terms server client
    from_server = (to_server terms client server t.together.ends).pair

    client_does : (step : ByteStep) → Within Client (step ∷ c) → AllowedOverBytes (limits Client) wire (config Client terms) (config Server terms) c s step → TogetherOverBytes (step ∷ c) s
    client_does (Bytes piece) within a =
        let front = subst (λ bs. IsPrefix (bytes_on a.link c ++ piece) bs) (spoken Server terms server client from_server wire t.server_opens a.link) a.front in
        let n = completes Client c s from_client t.server_says t.client_follows a.link piece a.at front in
        record {
          together = client_steps (limits Client) (sizes_of wire) terms client server t.together (Fed (new_frames wire (config Client terms) c client (present_link client) piece)) (record { link = a.link; at = a.at; unclosed = a.unclosed; front = n.front });
          client_follows = fed_bytes Client c s from_client t.server_says t.client_follows a.link piece a.at front;
          server_follows = λ k. t.server_follows k;
          client_says = t.client_says;
          server_says = t.server_says;
          client_opens = t.client_opens;
          server_opens = t.server_opens;
        }
    client_does (Does (Fed piece)) within a = absurd a
    client_does (Does step) within a = record {
      together = client_steps (limits Client) (sizes_of wire) terms client server t.together step a;
      client_follows = reader_does Client c s from_client t.server_says t.client_follows step (λ piece e. absurd (cc));
      server_follows = writer_does Server s c from_server t.client_says t.server_follows step;
      client_says = says_step Client client server from_client t.client_says step within a;
      server_says = t.server_says;
      client_opens = opens_step Client terms client server from_client (limits Client) (sizes_of wire) t.client_opens step a;
      server_opens = t.server_opens;
    }

    server_does : (step : ByteStep) → Within Server (step ∷ s) → AllowedOverBytes (limits Server) wire (config Server terms) (config Client terms) s c step → TogetherOverBytes c (step ∷ s)
    server_does (Bytes piece) within a =
        let front = subst (λ bs. IsPrefix (bytes_on a.link s ++ piece) bs) (spoken Client terms client server from_client wire t.client_opens a.link) a.front in
        let n = completes Server s c from_server t.client_says t.server_follows a.link piece a.at front in
        record {
          together = server_steps (limits Server) (sizes_of wire) terms client server t.together (Fed (new_frames wire (config Server terms) s server (present_link server) piece)) (record { link = a.link; at = a.at; unclosed = a.unclosed; front = n.front });
          client_follows = λ k. t.client_follows k;
          server_follows = fed_bytes Server s c from_server t.client_says t.server_follows a.link piece a.at front;
          client_says = t.client_says;
          server_says = t.server_says;
          client_opens = t.client_opens;
          server_opens = t.server_opens;
        }
    server_does (Does (Fed piece)) within a = absurd a
    server_does (Does step) within a = record {
      together = server_steps (limits Server) (sizes_of wire) terms client server t.together step a;
      client_follows = writer_does Client c s from_client t.server_says t.client_follows step;
      server_follows = reader_does Server s c from_server t.client_says t.server_follows step (λ piece e. absurd (cc));
      client_says = t.client_says;
      server_says = says_step Server server client from_server t.server_says step within a;
      client_opens = t.client_opens;
      server_opens = opens_step Server terms server client from_server (limits Server) (sizes_of wire) t.server_opens step a;
    }

    pub client_fed_within : (l : ℕ) → present_link client ≡ Some l → fed_frames l client ≡ whole_frames (wire.spell terms.codec) (lent_frames l server) (length (bytes_on l c))
    client_fed_within l at = fed_within Client c s from_client t.server_says t.client_follows l at

    pub server_fed_within : (l : ℕ) → present_link server ≡ Some l → fed_frames l server ≡ whole_frames (wire.spell terms.codec) (lent_frames l client) (length (bytes_on l s))
    server_fed_within l at = fed_within Server s c from_server t.client_says t.server_follows l at

    -- where every byte was fed, every frame was
    pub still_in_frames : StillOverBytes wire (config Client terms) (config Server terms) c s → Still (config Client terms) (config Server terms) client server
    still_in_frames q = record {
      link = q.link;
      client_here = q.client_here;
      server_here = q.server_here;
      client_ready = q.client_ready;
      server_ready = q.server_ready;
      client_fed = fed_whole Client c s from_client t.server_says t.client_follows q.link q.client_here (q.client_fed ∙ spoken Server terms server client from_server wire t.server_opens q.link);
      server_fed = fed_whole Server s c from_server t.client_says t.server_follows q.link q.server_here (q.server_fed ∙ spoken Client terms client server from_client wire t.client_opens q.link);
      client_taken = q.client_taken;
      server_taken = q.server_taken;
      client_due = q.client_due;
      server_due = q.server_due;
    }

  pub together_over_bytes : (w : List (Event ByteStep)) → Within Client (client_of w) → Within Server (server_of w) → IsWorldOverBytes limits wire terms w → TogetherOverBytes (client_of w) (server_of w)
  together_over_bytes [] of_client of_server i = record {
    together = start terms;
    client_follows = λ l. (([], refl), refl);
    server_follows = λ l. (([], refl), refl);
    client_says = (tt, λ l. tt);
    server_says = (tt, λ l. tt);
    client_opens = λ e. inl refl;
    server_opens = λ e. inr (λ l. refl);
  }
  together_over_bytes (ByClient step ∷ w) of_client of_server i = client_does (client_of w) (server_of w) (together_over_bytes w (sent_before Client step (client_of w) of_client) of_server i.0) step of_client i.1
  together_over_bytes (ByServer step ∷ w) of_client of_server i = server_does (client_of w) (server_of w) (together_over_bytes w of_client (sent_before Server step (server_of w) of_server) i.0) step of_server i.1
