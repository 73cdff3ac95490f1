-- Ticks right before a link begins or is lost.
use Rattle.std.proofs.Common.{⊎_elim, ◌≡◌, ◌⊎◌, ◌≤◌, ℕ, max, Bool, true, false, List, [], ◌∷◌, Option, Some, None, refl, sym, ap, ◌∙◌, arith}
use Rattle.std.specs.Prelude.{◌↔◌, ◌&&◌, not, is_some, if◌then◌else◌}
use Rattle.hd_delivery.specs.declared.vocabulary.Side.{Side}
use Rattle.hd_delivery.specs.declared.vocabulary.Side.TheVariants.{Client, Server}
use Rattle.hd_delivery.specs.Histories.{EndEvent, Attached, Detached, Ticked, Silenced, Config, first_of, first_link, present_link, is_closed, is_late, is_resumable, is_silence, heard_moment, moment}
use Rattle.hd_delivery.specs.Worlds.{Limits, Sizes, MayBegin, MayDo, MayName, config}
use Rattle.hd_delivery.specs.Bytes.{ByteStep, Does, sizes_of}
use Rattle.hd_trace.specs.Traces.{Setup}
use Rattle.hd_trace.specs.Alone.{frames_alone, MayAlone, MayNameAlone}
use Rattle.hd_trace.specs.declared.marks.Marks.{Marks}
use Rattle.hd_trace.specs.Marks.{left}
use Rattle.hd_trace.specs.ByMarks.{due_there_by}
use Rattle.hd_trace.specs.Ticks.{off_link, ForbidsNothing, HasNoEffect, TicksBeforeLinks, OffLinkIsEnough}

later : (before now moment : ℕ) → before ≤ now → max now (max before moment) ≡ max now moment
later before now moment low = omega arith

-- the end stands on a new link, and its moment is this
abbrev begun : ℕ → Marks → Bool → ℕ → Marks
begun l m closed moment = record m {
  link = Some l;
  first = first_of m.first (Some l);
  closed = closed;
  written = 0;
  opened = false;
  said = None;
  reported = 0;
  parted = false;
  next = None;
  resumed = false;
  moment = moment;
  heard = Some moment;
  wrote = moment;
  quiet = false;
}

as_before : (m : Marks) → m.resumable ≡ true → (if m.resumable then m.closed else true) ≡ m.closed
as_before m e = ap (λ b. if b then m.closed else true) e

no_effect : (before now : ℕ) (m : Marks) → before ≤ now → HasNoEffect before now m
no_effect before now m low = record {
  attach = λ l. ap (begun l m m.closed) (later before now m.moment low);
  attach_after_silence = λ l keeps. ap (λ b. begun l m b (max now (max before m.moment))) (as_before m keeps)
      ∙ ap (begun l m m.closed) (later before now m.moment low);
  begins = (
    λ b. (let t = b.in_time in record { unclosed = b.unclosed; granted = b.granted; in_time = omega arith }),
    λ b. (let t = b.in_time in record { unclosed = b.unclosed; granted = b.granted; in_time = omega arith }),
  );
  begins_after_silence = λ keeps. (
    λ b. (let t = b.in_time in record { unclosed = sym (as_before m keeps) ∙ b.unclosed; granted = b.granted; in_time = omega arith }),
    λ b. (let t = b.in_time in record { unclosed = as_before m keeps ∙ b.unclosed; granted = b.granted; in_time = omega arith }),
  );
  loss = ap (λ moment. record (off_link (left now m)) { moment = moment }) (later before now m.moment low);
}

-- ---- what may come after a tick

-- an end that never had a link stands on none
some_first : (o : Option ℕ) (l : ℕ) → first_of o (Some l) ≡ None → ⊥
some_first None l e = (let z : ◌≡◌ {A = Option ℕ} (Some l) None = e in cc)
some_first (Some n) l e = (let z : ◌≡◌ {A = Option ℕ} (Some n) None = e in cc)

linkless : (k : List EndEvent) → first_link k ≡ None → present_link k ≡ None
linkless [] e = refl
linkless (Attached l now ∷ k) e = absurd (some_first (first_link k) l e)
linkless (Detached now ∷ k) e = refl
linkless (Silenced now ∷ k) e = refl
linkless (_ ∷ k) e = linkless k e

-- the loss closes an end but for one whose connection is kept
kept : (keeps closed : Bool) → (if keeps then closed else true) ≡ false → (keeps ≡ true) × (closed ≡ false)
kept true closed e = (refl, e)
kept false closed e = absurd (let z : true ≡ false = e in cc)

-- a tick, which is a silence or not
abbrev tick_of : Bool → ℕ → EndEvent
tick_of silent now = if silent then Silenced now else Ticked now

module _ (c : Config) (k : List EndEvent) (before now : ℕ) where
  -- a silence comes on a link, so the end had one
  silent_keeps : is_silence c before k ≡ true → (first_link k ≡ None) ⊎ (is_resumable c k ≡ true) → is_resumable c k ≡ true
  silent_keeps e granted = ⊎_elim
      (λ none. absurd (let z : true ≡ false = sym e ∙ ap (λ o. (is_some o && not (is_closed c k)) && is_late before (heard_moment k)) (linkless k none) in cc))
      (λ keeps. keeps)
      granted

  begin_after : (l : ℕ) (silent : Bool) → is_silence c before k ≡ silent → MayBegin c (tick_of silent before ∷ k) l now ↔ (MayBegin c k l now × (before ≤ now))
  begin_after l false e = (
    λ m. (let t = m.in_time in (record { unclosed = m.unclosed; granted = m.granted; unused = m.unused; in_time = omega arith }, omega arith)),
    λ m. (let t = m.0.in_time in let u = m.1 in record { unclosed = m.0.unclosed; granted = m.0.granted; unused = m.0.unused; in_time = omega arith }),
  )
  begin_after l true e = (
    λ m. (let t = m.in_time in (
      record { unclosed = (kept (is_resumable c k) (is_closed c k) m.unclosed).1; granted = m.granted; unused = m.unused; in_time = omega arith },
      omega arith,
    )),
    λ m. (let t = m.0.in_time in let u = m.1 in record {
      unclosed = ap (λ keeps. if keeps then is_closed c k else true) (silent_keeps e m.0.granted) ∙ m.0.unclosed;
      granted = m.0.granted;
      unused = m.0.unused;
      in_time = omega arith;
    }),
  )

  -- no link has another name after it
  named_alone_after : (side : Side) (l : ℕ) (silent : Bool) → MayNameAlone side l (tick_of silent before ∷ k) ↔ MayNameAlone side l k
  named_alone_after Client l true = (λ n. n, λ n. n)
  named_alone_after Client l false = (λ n. n, λ n. n)
  named_alone_after Server l silent = (λ n. n, λ n. n)

  named_after : (side : Side) (other : List EndEvent) (l : ℕ) (silent : Bool) → MayName side l (tick_of silent before ∷ k) other ↔ MayName side l k other
  named_after Client other l true = (λ n. n, λ n. n)
  named_after Client other l false = (λ n. n, λ n. n)
  named_after Server other l silent = (λ n. n, λ n. n)

  loss_after : (limits : Limits) (sizes : Sizes) (silent : Bool) → MayDo limits sizes c (tick_of silent before ∷ k) (Detached now)
      ↔ ((silent ≡ false) × MayDo limits sizes c k (Detached now) × (before ≤ now))
  loss_after limits sizes false = (
    λ m. (let t = m.2 in (refl, (m.0, m.1, omega arith), omega arith)),
    λ m. (let t = m.1.2 in let u = m.2 in (m.1.0, m.1.1, omega arith)),
  )
  loss_after limits sizes true = (
    λ m. absurd (let z : ◌≡◌ {A = Option ℕ} None (Some m.0) = m.1 in cc),
    λ m. absurd (let z : true ≡ false = m.0 in cc),
  )

tick_alone : (x : Setup) (side : Side) (h : List ByteStep) (before : ℕ) (silent : Bool) → is_silence (config side x.terms) before (frames_alone x side h) ≡ silent
    → moment (frames_alone x side h) ≤ before → MayAlone x side h (Does (tick_of silent before))
tick_alone x side h before true e late = ((e, late), tt)
tick_alone x side h before false e late = ((e, late), tt)

forbids_nothing : (x : Setup) (side : Side) (h : List ByteStep) (before now : ℕ) → ForbidsNothing x side h before now
forbids_nothing x side h before now =
    let c = config side x.terms in
    let k = frames_alone x side h in
    let silent = is_silence c before k in
    record {
      tick = tick_alone x side h before silent refl;
      attach = λ l.
          let may = begin_after c k before now l silent refl in
          let named = named_alone_after c k before now side l silent in (
            λ m. (let begin = may.0 m.0 in ((begin.0, named.0 m.1), begin.1)),
            λ m. (may.1 (m.0.0, m.1), named.1 m.0.1),
          );
      attach_beside = λ other l.
          let may = begin_after c k before now l silent refl in
          let named = named_after c k before now c.side other l silent in (
            λ m. (let begin = may.0 m.own in (record { own = begin.0; named = named.0 m.named }, begin.1)),
            λ m. record { own = may.1 (m.0.own, m.1); named = named.1 m.0.named },
          );
      loss =
          let may = loss_after c k before now x.limits (sizes_of x.wire) silent in (
            λ m. (let lost = may.0 m.0 in (lost.0, (lost.1, tt), lost.2)),
            λ m. (may.1 (m.0, m.1.0, m.2), tt),
          );
    }

pub before_links : TicksBeforeLinks
before_links = record { unseen = no_effect; may_come = forbids_nothing; silence_is_loss = λ c k now. refl }

pub is_enough : OffLinkIsEnough
is_enough m none = record {
  silence = λ now. rw none refl;
  stands = refl;
  due = λ c sent. ap (due_there_by c m sent) none ∙ ap (due_there_by c (off_link m) sent) (sym none);
  begins = λ now. (
    λ b. record { unclosed = b.unclosed; granted = b.granted; in_time = b.in_time },
    λ b. record { unclosed = b.unclosed; granted = b.granted; in_time = b.in_time },
  );
  attach = λ l now. refl;
  tick = λ now. refl;
  send = refl;
  close = λ reason allow. refl;
}
