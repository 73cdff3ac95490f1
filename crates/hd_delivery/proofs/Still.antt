-- Where nothing is left to be said or read, all has arrived.
use Rattle.std.proofs.Common.{inl, inr, ⊎_elim, ◌≡◌, ℕ, suc, ◌<◌, ◌≤◌, Bool, true, false, List, [], ◌∷◌, length, take, drop, Option, Some, None, refl, sym, ap, ◌∙◌, subst, arith}
use Rattle.std.specs.Prelude.{◌⊎◌, ◌==◌, ◌||◌, ◌&&◌, not, max, nat_lt, option_map, if◌then◌else◌}
use Rattle.std.proofs.lemmas.Bool.{ltb-false}
use Rattle.hm_message.specs.declared.message.Message.{Message}
use Rattle.hd_delivery.specs.declared.vocabulary.Side.{Side}
use Rattle.hd_delivery.specs.declared.vocabulary.Side.TheVariants.{Client, Server}
use Rattle.hd_delivery.specs.declared.vocabulary.State.TheVariants.{Ready}
use Rattle.hd_delivery.specs.Frames.{LinkFrame, Request, Response, Numbered, Ack, Sequence, number, most_told}
use Rattle.hd_delivery.specs.Histories.{Config, EndEvent, is_this, first_of, present_link, first_link, fed_frames, lent_frames, taken_count, read_frames, sent_messages, processed_messages, acked_count, written_place, most_lent, is_shaken, is_three, is_resumable, is_closed, state_of, state, is_resumed, held_messages}
use Rattle.hd_delivery.specs.Due.{handshake, next_message, sequence_due, ack_due, may_write, message_due, ping_due, close_due, due_after, due_there, due_on, due}
use Rattle.hd_delivery.specs.Worlds.{Terms, config, IsFaultless}
use Rattle.hd_delivery.proofs.Lists.{take_whole, drop_all, get_none, prefix_whole}
use Rattle.hd_delivery.proofs.Local.{is_this-same, both, or_right, or_left}
use Rattle.hd_delivery.proofs.Carries.{facts, MayCarry-any}
use Rattle.hd_delivery.proofs.Pair.{messages, Placed, other, three_is}
use Rattle.hd_delivery.proofs.WhatIsSaid.{not_failed}
use Rattle.hd_delivery.proofs.Run.{their_base}
use Rattle.hd_delivery.proofs.World.{Inv}

ready : (a b : Bool) (o : Option ℕ) → state_of a b o ≡ Ready → (a ≡ false) × (b ≡ true)
ready true b o e = absurd (cc)
ready false false o e = absurd (cc)
ready false true None e = absurd (cc)
ready false true (Some l) e = (refl, refl)

neither : (a b : Option LinkFrame) → first_of a b ≡ None → (a ≡ None) × (b ≡ None)
neither None b e = (refl, e)
neither (Some t) b e = absurd (cc)

-- what isn't due at an end that is Ready
record Silent (c : Config) (h : List EndEvent) (l : ℕ) : Type 0 where
  first : LinkFrame
  more : List LinkFrame
  said : lent_frames l h ≡ first ∷ more
  no_ack : ack_due c h (lent_frames l h) ≡ None
  no_message : message_due h l ≡ None

spoken : (s : Side) (c : Config) (h : List EndEvent) → is_closed c h ≡ false → is_shaken h ≡ true → handshake s c h ≡ None → ⊥
spoken Client c h k s e = absurd (let e' : ◌≡◌ {A = Option LinkFrame} (Some (Request c.codec c.version)) None = rw k at e in cc)
spoken Server c h k s e = absurd (let e' : ◌≡◌ {A = Option LinkFrame} (Some Response) None = rw s at e in cc)

silent_after : (c : Config) (h : List EndEvent) (l : ℕ) (ts : List LinkFrame) → lent_frames l h ≡ ts → is_closed c h ≡ false → is_shaken h ≡ true → due_after c h l ts ≡ None → Silent c h l
silent_after c h l [] is k s e = both (λ o. o ≡ None → Silent c h l) (is_this l (first_link h)) (handshake c.side c h) (Some (Sequence (suc (acked_count h)) (if is_three h then Some (length (processed_messages h)) else None))) (λ e f. absurd (spoken c.side c h k s f)) (λ e f. absurd (cc)) e
silent_after c h l (t ∷ ts) is k s e =
    let a = neither (sequence_due h (t ∷ ts)) (first_of (ack_due c h (t ∷ ts)) (first_of (message_due h l) (first_of (ping_due c h) (close_due h (t ∷ ts))))) e in
    let b = neither (ack_due c h (t ∷ ts)) (first_of (message_due h l) (first_of (ping_due c h) (close_due h (t ∷ ts)))) a.1 in
    let d = neither (message_due h l) (first_of (ping_due c h) (close_due h (t ∷ ts))) b.1 in
    record { first = t; more = ts; said = is; no_ack = ap (ack_due c h) is ∙ b.0; no_message = d.0 }

silent : (c : Config) (h : List EndEvent) (l : ℕ) → IsFaultless h → present_link h ≡ Some l → is_closed c h ≡ false → is_shaken h ≡ true → due c h ≡ None → Silent c h l
silent c h l f at k s e =
    silent_after c h l (lent_frames l h) refl k s (subst (λ o. due_there c h l o ≡ None) (not_failed h f) (subst (λ o. due_on c h o ≡ None) at e))

no_next : (o : Option Message) → option_map Numbered o ≡ None → o ≡ None
no_next None e = refl
no_next (Some m) e = absurd (cc)

all_acked : (a b : Bool) (m n : ℕ) → a ≡ true → b ≡ false → (if ((a && not b) && nat_lt m n) then Some (Ack n) else None) ≡ None → n ≤ m
all_acked true false m n e f = both (λ o. o ≡ None → n ≤ m) (nat_lt m n) (Some (Ack n)) None (λ g h. absurd (cc)) (λ g h. ltb-false m n g)
all_acked false b m n e f = absurd (cc)
all_acked true true m n e f = absurd (cc)

may_now : (a b d : Bool) → (a ≡ true → (b ≡ true) ⊎ (d ≡ true)) → (not a || (b || d)) ≡ true
may_now false b d f = refl
may_now true b d f = ⊎_elim (λ e. or_left b d e) (λ e. or_right b d e) (f refl)

module _ (side : Side) (terms : Terms) (x y : List EndEvent) (l : ℕ) (i : Inv side terms x y) (at_x : present_link x ≡ Some l) (at_y : present_link y ≡ Some l)
    (sx : is_shaken x ≡ true) (spoke_x : 0 < length (lent_frames l x)) (spoke_y : 0 < length (lent_frames l y))
    (read_y : read_frames l y ≡ lent_frames l x) (read_x : read_frames l x ≡ lent_frames l y) (no_message : message_due x l ≡ None) where
  -- where the other's opening was read, the end may write
  opens : (terms.version == 3) ≡ true → (first_link x ≡ Some l) ⊎ (is_resumed x ≡ true)
  opens b = let n = MayCarry-any (facts (other side) terms y x) l (lent_frames l y) (i.pair.from.good l) spoke_y in
      i.pair.own.resumes b l n.0 at_x (ap number read_x ∙ n.1)

  may : may_write x l ≡ true
  may = may_now (is_three x) (is_this l (first_link x)) (is_resumed x)
      (λ e. ⊎_elim (λ f. inl (is_this-same l (first_link x) f)) (λ f. inr f) (opens (sym (three_is side terms x y i.pair sx) ∙ e)))

  last : length (sent_messages x) ≤ max (acked_count x) (written_place x)
  last = get_none (sent_messages x) (max (acked_count x) (written_place x)) (no_next (next_message x)
      (both (λ o. o ≡ None → option_map Numbered (next_message x) ≡ None) (may_write x l) (option_map Numbered (next_message x)) None (λ e f. f) (λ e f. let m = may in absurd (cc)) no_message))

  by_number : (terms.version == 3) ≡ false → length (sent_messages x) ≤ length (processed_messages y)
  by_number b =
      let n = MayCarry-any (facts side terms x y) l (lent_frames l x) (i.pair.to.good l) spoke_x in
      let below = i.pair.to.numbers l n.0 at_y (ap number read_y ∙ n.1) in
      let placed : Placed (Some n.0) (written_place x) (acked_count x) = subst (λ o. Placed o (written_place x) (acked_count x)) n.1 (i.pair.own.placed b l at_x) in
      let acks = i.pair.to.acks in
      let h = last in
      omega (arith, placed.0)

  by_run : (terms.version == 3) ≡ true → length (sent_messages x) ≤ length (processed_messages y)
  by_run b =
      let p = their_base side terms x y i.pair b l spoke_y in
      let q = (i.runs b).next l p.0 at_y p.1 at_x (opens b) in
      let s = (i.runs b).place l p.0 at_y p.1 in
      let e = ap (λ ts. length (messages ts)) read_y in
      let h = last in
      omega arith

  pub all_there : length (sent_messages x) ≤ length (processed_messages y)
  all_there = go (terms.version == 3) refl
    where
      go : (b : Bool) → (terms.version == 3) ≡ b → length (sent_messages x) ≤ length (processed_messages y)
      go true b = by_run b
      go false b = by_number b

-- all that x sent has arrived at y, and x holds nothing
pub arrived : (side : Side) (terms : Terms) (x y : List EndEvent) (l : ℕ) → Inv side terms x y → present_link x ≡ Some l → present_link y ≡ Some l
    → state (config side terms) x ≡ Ready → state (config (other side) terms) y ≡ Ready
    → fed_frames l y ≡ lent_frames l x → taken_count l y ≡ length (fed_frames l y) → fed_frames l x ≡ lent_frames l y → taken_count l x ≡ length (fed_frames l x)
    → due (config side terms) x ≡ None → due (config (other side) terms) y ≡ None
    → (processed_messages y ≡ sent_messages x) × (held_messages (config side terms) x ≡ [])
arrived side terms x y l i at_x at_y ready_x ready_y fed_y taken_y fed_x taken_x due_x due_y =
    let rx = ready (is_closed (config side terms) x) (is_shaken x) (present_link x) ready_x in
    let ry = ready (is_closed (config (other side) terms) y) (is_shaken y) (present_link y) ready_y in
    let sx = silent (config side terms) x l i.pair.own.faultless at_x rx.0 rx.1 due_x in
    let sy = silent (config (other side) terms) y l i.pair.its.faultless at_y ry.0 ry.1 due_y in
    let read_y : read_frames l y ≡ lent_frames l x = ap (λ k. take k (fed_frames l y)) taken_y ∙ (take_whole (fed_frames l y) ∙ fed_y) in
    let read_x : read_frames l x ≡ lent_frames l y = ap (λ k. take k (fed_frames l x)) taken_x ∙ (take_whole (fed_frames l x) ∙ fed_x) in
    let len_x = ap length sx.said in
    let len_y = ap length sy.said in
    let whole = all_there side terms x y l i at_x at_y rx.1 (omega arith) (omega arith) read_y read_x sx.no_message in (
      prefix_whole (processed_messages y) (sent_messages x) i.pair.to.in_order whole,
      both (λ ms. ms ≡ []) (is_resumable (config side terms) x) (drop (acked_count x) (sent_messages x)) (drop (most_lent x) (sent_messages x))
          (λ e. let kept_y = i.pair.its.keeping ry.1 ∙ (sym (i.pair.own.keeping rx.1) ∙ e) in
          let a = all_acked (is_resumable (config (other side) terms) y) (is_closed (config (other side) terms) y) (most_told (lent_frames l y)) (length (processed_messages y)) kept_y ry.0 sy.no_ack in
          let h : most_told (lent_frames l y) ≤ acked_count x = subst (λ ts. most_told ts ≤ acked_count x) read_x (i.pair.from.heard l) in
          drop_all (sent_messages x) (acked_count x) (omega arith))
          (λ e. drop_all (sent_messages x) (most_lent x) (omega (arith, i.pair.to.most))),
    )
