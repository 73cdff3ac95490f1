-- What one line tells: one step at most, none where a rule is broken, and some step where none is.
use Rattle.std.proofs.Common.{inl, inr, ⊎_elim, ◌≡◌, ◌≤◌, ◌<◌, ℕ, zero, suc, Bool, true, false, List, Option, Some, None, refl, sym, ap, ◌∙◌, subst, arith}
use Rattle.std.specs.Prelude.{◌⊎◌, option_map, if◌then◌else◌}
use Rattle.std.proofs.lemmas.Bool.Decides.{leb_tells}
use Rattle.hd_delivery.specs.declared.vocabulary.Got.{Got}
use Rattle.hd_delivery.specs.declared.vocabulary.Reason.TheVariants.{Done}
use Rattle.hd_delivery.specs.Frames.{LinkFrame}
use Rattle.hd_delivery.specs.Histories.{EndEvent, Attached, Detached, Fed, Took, Sent, Lent, Ticked, Silenced, Closed, Config, present_link, codec_of, is_shaken, is_closed, is_silence, moment}
use Rattle.hd_delivery.specs.Due.{due, due_on}
use Rattle.hd_delivery.specs.Processes.{processes, next_frame}
use Rattle.hd_delivery.specs.Worlds.{MayHear, MayDo}
use Rattle.hd_delivery.specs.Bytes.{sizes_of, ByteStep, Bytes, Does}
use Rattle.hd_trace.specs.declared.trace.ToldStep.{ToldStep}
use Rattle.hd_trace.specs.declared.trace.ToldStep.TheVariants.{Attach, Detach, Feed, Lend, Send, Take, Tick, Close}
use Rattle.hd_trace.specs.declared.trace.Rule.{Rule}
use Rattle.hd_trace.specs.declared.trace.Rule.TheVariants as rule
use Rattle.hd_trace.specs.Traces.{Setup, Makes}
use Rattle.hd_trace.specs.Breaking.{Breaks, rank, IsBrokenBy}

-- a step that an end makes by itself, whatever the rules of links and bytes are
abbrev pub IsOwn : EndEvent → Type 0
IsOwn (Attached l now) = ⊥
IsOwn (Fed piece) = ⊥
IsOwn s = Unit {0}

clash : (b : Bool) → b ≡ true → b ≡ false → ⊥
clash b p q = absurd (let z : true ≡ false = sym p ∙ q in cc)

gone : (l : ℕ) (o : Option ℕ) → o ≡ None → o ≡ Some l → ⊥
gone l o p q = absurd (let z : None ≡ Some l = sym p ∙ q in cc)

-- ---- rules, whatever may come next

module _ (x : Setup) (May : ByteStep → Type 0) (c : Config) (k : List EndEvent) (now : ℕ) (hears : (piece : List ℕ) → May (Bytes piece) → MayHear c k)
    (does : (s : EndEvent) → May (Does s) → MayDo x.limits (sizes_of x.wire) c k s) where
  may_as : (s t : ByteStep) → s ≡ t → May s → May t
  may_as s t e m = subst May e m

  -- what is allowed is told by a function of the history: a frame that is lent is the one that is due, and so on
  lent_once : (f g : LinkFrame) → due c k ≡ Some f → due c k ≡ Some g → f ≡ g
  lent_once f g a b = let e : Some f ≡ Some g = sym a ∙ b in cc

  took_once : (f g : Got) → processes c k ≡ Some (Took f) → processes c k ≡ Some (Took g) → f ≡ g
  took_once f g a b = let e : Some (Took f) ≡ Some (Took g) = sym a ∙ b in cc

  ticks : (later : ℕ) (s t : ByteStep) → May s → May t → (s ≡ Does (Ticked later)) ⊎ (s ≡ Does (Silenced later))
      → (t ≡ Does (Ticked later)) ⊎ (t ≡ Does (Silenced later)) → s ≡ t
  ticks later s t m n (inl a) (inl b) = a ∙ sym b
  ticks later s t m n (inl a) (inr b) =
      let p = does (Ticked later) (may_as s (Does (Ticked later)) a m) in
      let q = does (Silenced later) (may_as t (Does (Silenced later)) b n) in
      absurd (clash (is_silence c later k) q.0 p.0)
  ticks later s t m n (inr a) (inl b) =
      let p = does (Silenced later) (may_as s (Does (Silenced later)) a m) in
      let q = does (Ticked later) (may_as t (Does (Ticked later)) b n) in
      absurd (clash (is_silence c later k) p.0 q.0)
  ticks later s t m n (inr a) (inr b) = a ∙ sym b

  pub one_step : (step : ToldStep) (s t : ByteStep) → Makes x May c k now step s → Makes x May c k now step t → s ≡ t
  one_step (Attach l) s t m n = m.tells ∙ sym n.tells
  one_step Detach s t m n = m.tells ∙ sym n.tells
  one_step (Feed piece) s t m n = m.tells ∙ sym n.tells
  one_step (Lend bytes) s t m n =
      let a = m.tells in
      let b = n.tells in
      let p = does (Lent a.0) (may_as s (Does (Lent a.0)) a.1.0 m.allowed) in
      let q = does (Lent b.0) (may_as t (Does (Lent b.0)) b.1.0 n.allowed) in
      a.1.0 ∙ (ap (λ f. Does (Lent f)) (lent_once a.0 b.0 p q) ∙ sym b.1.0)
  one_step (Send m') s t m n = m.tells ∙ sym n.tells
  one_step (Take words) s t m n =
      let a = m.tells in
      let b = n.tells in
      let p = does (Took a.0) (may_as s (Does (Took a.0)) a.1.0 m.allowed) in
      let q = does (Took b.0) (may_as t (Does (Took b.0)) b.1.0 n.allowed) in
      a.1.0 ∙ (ap (λ f. Does (Took f)) (took_once a.0 b.0 p q) ∙ sym b.1.0)
  one_step (Tick later) s t m n = ticks later s t m.allowed n.allowed m.tells.1 n.tells.1
  one_step Close s t m n = m.tells ∙ sym n.tells

  -- nothing is due without a link, and nothing is taken there or on a closed end
  unlinked_due : (f : LinkFrame) → present_link k ≡ None → due c k ≡ Some f → ⊥
  unlinked_due f none e = absurd (let z : ◌≡◌ {A = Option LinkFrame} None (Some f) = sym (ap (due_on c k) none) ∙ e in cc)

  unlinked_take : (closed : Bool) (o : Option ℕ) (got : Got) → o ≡ None → (if closed then None else next_frame c k o) ≡ Some (Took got) → ⊥
  unlinked_take true o got none e = absurd (let z : ◌≡◌ {A = Option EndEvent} None (Some (Took got)) = e in cc)
  unlinked_take false None got none e = absurd (let z : ◌≡◌ {A = Option EndEvent} None (Some (Took got)) = e in cc)
  unlinked_take false (Some l) got none e = absurd (let z : Some l ≡ None = none in cc)

  closed_take : (closed : Bool) (rest : Option EndEvent) (got : Got) → closed ≡ true → (if closed then None else rest) ≡ Some (Took got) → ⊥
  closed_take true rest got p e = absurd (let z : ◌≡◌ {A = Option EndEvent} None (Some (Took got)) = e in cc)
  closed_take false rest got p e = absurd (let z : false ≡ true = p in cc)

  -- what the line of something that was lent or taken means
  lent_is : (bytes : List ℕ) (s : ByteStep) (m : Makes x May c k now (Lend bytes) s) → due c k ≡ Some m.tells.0
  lent_is bytes s m = does (Lent m.tells.0) (may_as s (Does (Lent m.tells.0)) m.tells.1.0 m.allowed)

  took_is : (words : List ℕ) (s : ByteStep) (m : Makes x May c k now (Take words) s) → processes c k ≡ Some (Took m.tells.0)
  took_is words s m = does (Took m.tells.0) (may_as s (Does (Took m.tells.0)) m.tells.1.0 m.allowed)

  pub no_step : (step : ToldStep) (r : Rule) (s : ByteStep) → Breaks r x May c k now step → Makes x May c k now step s → ⊥
  no_step (Attach l) rule.Link s b m = b (may_as s (Does (Attached l now)) m.tells m.allowed)
  no_step Detach rule.Link s b m = let a = does (Detached now) (may_as s (Does (Detached now)) m.tells m.allowed) in gone a.0 (present_link k) b a.1
  no_step (Feed piece) rule.Link s b m = let a = hears piece (may_as s (Bytes piece) m.tells m.allowed) in gone a.link (present_link k) b a.at
  no_step (Feed piece) rule.State s b m = let a = hears piece (may_as s (Bytes piece) m.tells m.allowed) in clash (is_closed c k) b a.unclosed
  no_step (Feed piece) rule.Bytes s b m = b (may_as s (Bytes piece) m.tells m.allowed)
  no_step (Lend bytes) rule.Link s b m = unlinked_due m.tells.0 b (lent_is bytes s m)
  no_step (Lend bytes) rule.Due s b m = b (ap (option_map (x.wire.spell (codec_of c k))) (lent_is bytes s m) ∙ ap Some m.tells.1.1)
  no_step (Take words) rule.Link s b m = unlinked_take (is_closed c k) (present_link k) m.tells.0 b (took_is words s m)
  no_step (Take words) rule.State s b m = closed_take (is_closed c k) (next_frame c k (present_link k)) m.tells.0 b (took_is words s m)
  no_step (Take words) rule.Took s b m = b m.tells.0 (took_is words s m) m.tells.1.1
  no_step (Send m') rule.State s (inl b) m = let a = does (Sent m') (may_as s (Does (Sent m')) m.tells m.allowed) in clash (is_closed c k) b a.unclosed
  no_step (Send m') rule.State s (inr b) m = let a = does (Sent m') (may_as s (Does (Sent m')) m.tells m.allowed) in clash (is_shaken k) a.shakes b
  no_step (Send m') rule.Room s b m = b (may_as s (Does (Sent m')) m.tells m.allowed)
  no_step (Tick later) rule.State s b m = let a = m.tells.0 in absurd (omega arith)
  no_step Close rule.State s b m = let a = does (Closed Done false) (may_as s (Does (Closed Done false)) m.tells m.allowed) in clash (is_closed c k) b a
  no_step step r s b m = b

-- ---- where none is broken

module _ (x : Setup) (May : ByteStep → Type 0) (c : Config) (k : List EndEvent) (now : ℕ) (in_time : moment k ≤ now)
    (may : (s : EndEvent) → IsOwn s → MayDo x.limits (sizes_of x.wire) c k s → May (Does s)) where
  some_step : (step : ToldStep) → ((r : Rule) → Breaks r x May c k now step → ⊥) → ((s : ByteStep) → Makes x May c k now step s → ⊥) → ⊥
  some_step (Attach l) broken made = broken rule.Link (λ m. made (Does (Attached l now)) (record { tells = refl; allowed = m }))
  some_step Detach broken made = go (present_link k) refl
    where
      go : (o : Option ℕ) → present_link k ≡ o → ⊥
      go None e = broken rule.Link e
      go (Some l) e = made (Does (Detached now)) (record { tells = refl; allowed = may (Detached now) tt (l, e, in_time) })
  some_step (Feed piece) broken made = broken rule.Bytes (λ m. made (Bytes piece) (record { tells = refl; allowed = m }))
  some_step (Lend bytes) broken made = broken rule.Due (go (due c k) refl)
    where
      go : (o : Option LinkFrame) → due c k ≡ o → option_map (x.wire.spell (codec_of c k)) (due c k) ≡ Some bytes → ⊥
      go None e h = absurd (let z : ◌≡◌ {A = Option (List ℕ)} None (Some bytes) = sym (ap (option_map (x.wire.spell (codec_of c k))) e) ∙ h in cc)
      go (Some f) e h =
          let z : Some (x.wire.spell (codec_of c k) f) ≡ Some bytes = sym (ap (option_map (x.wire.spell (codec_of c k))) e) ∙ h in
          let y : x.wire.spell (codec_of c k) f ≡ bytes = cc in
          made (Does (Lent f)) (record { tells = (f, (refl, y)); allowed = may (Lent f) tt e })
  some_step (Send m) broken made = broken rule.Room (λ a. made (Does (Sent m)) (record { tells = refl; allowed = a }))
  some_step (Take words) broken made = broken rule.Took (λ got e w. made (Does (Took got)) (record { tells = (got, (refl, w)); allowed = may (Took got) tt e }))
  some_step (Tick later) broken made = ⊎_elim (λ h. in_order h.1 (is_silence c later k) refl) (λ h. broken rule.State h.1) (leb_tells now later)
    where
      in_order : now ≤ later → (b : Bool) → is_silence c later k ≡ b → ⊥
      in_order less true e = let low : moment k ≤ later = omega arith in
          made (Does (Silenced later)) (record { tells = (less, inr refl); allowed = may (Silenced later) tt (e, low) })
      in_order less false e = let low : moment k ≤ later = omega arith in
          made (Does (Ticked later)) (record { tells = (less, inl refl); allowed = may (Ticked later) tt (e, low) })
  some_step Close broken made = go (is_closed c k) refl
    where
      go : (b : Bool) → is_closed c k ≡ b → ⊥
      go true e = broken rule.State e
      go false e = made (Does (Closed Done false)) (record { tells = refl; allowed = may (Closed Done false) tt e })

  -- where no rule is the first that is broken, none is
  none_below : (step : ToldStep) → ((r : Rule) → IsBrokenBy x May c k now step r → ⊥) → (n : ℕ) (q : Rule) → rank q < n → Breaks q x May c k now step → ⊥
  none_below step first zero q low b = absurd (omega arith)
  none_below step first (suc n) q low b = first q (b, λ p less bad. none_below step first n p (omega arith) bad)

  pub step_or_rule : (step : ToldStep) → ((r : Rule) → IsBrokenBy x May c k now step r → ⊥) → ((s : ByteStep) → Makes x May c k now step s → ⊥) → ⊥
  step_or_rule step first made = some_step step (λ r b. none_below step first (suc (rank r)) r (omega arith) b) made

-- ---- one rule

rule_at : ℕ → Rule
rule_at zero = rule.Link
rule_at (suc zero) = rule.State
rule_at (suc (suc zero)) = rule.Bytes
rule_at (suc (suc (suc zero))) = rule.Due
rule_at (suc (suc (suc (suc zero)))) = rule.Took
rule_at (suc (suc (suc (suc (suc n))))) = rule.Room

at_rank : (r : Rule) → rule_at (rank r) ≡ r
unfolding rule_at
at_rank rule.Link = refl
at_rank rule.State = refl
at_rank rule.Bytes = refl
at_rank rule.Due = refl
at_rank rule.Took = refl
at_rank rule.Room = refl

one_rank : (q r : Rule) → (rank q < rank r → ⊥) → (rank r < rank q → ⊥) → q ≡ r
one_rank q r a b = sym (at_rank q) ∙ (ap rule_at (omega arith) ∙ at_rank r)

pub one_rule : (x : Setup) (May : ByteStep → Type 0) (c : Config) (k : List EndEvent) (now : ℕ) (step : ToldStep) (q r : Rule)
    → IsBrokenBy x May c k now step q → IsBrokenBy x May c k now step r → q ≡ r
one_rule x May c k now step q r a b = one_rank q r (λ less. b.1 q less a.0) (λ less. a.1 r less b.0)
