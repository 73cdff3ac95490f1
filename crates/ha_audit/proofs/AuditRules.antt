-- The first rule that a line breaks.
use Rattle.std.proofs.Common.{⊎_elim, ◌≡◌, ◌⊎◌, ◌<◌, ℕ, suc, Bool, true, false, List, length, Option, Some, None, arith}
use Rattle.std.specs.Prelude.{option_map}
use Rattle.hm_message.specs.declared.message.Message.{Message}
use Rattle.hd_delivery.specs.declared.vocabulary.Got.{Got}
use Rattle.hd_delivery.specs.Histories.{Config, EndEvent, Attached, Took, Sent, present_link, codec_of, is_closed, is_shaken, processed_messages}
use Rattle.hd_delivery.specs.Due.{due}
use Rattle.hd_delivery.specs.Processes.{processes}
use Rattle.hd_delivery.specs.Bytes.{ByteStep, Bytes, Does}
use Rattle.hd_trace.specs.declared.trace.Rule.{Rule}
use Rattle.hd_trace.specs.declared.trace.Rule.TheVariants as rule
use Rattle.hd_trace.specs.declared.trace.ToldStep.TheVariants.{Attach, Detach, Feed, Lend, Send, Take, Tick, Close}
use Rattle.hd_trace.specs.Traces.{Setup}
use Rattle.hd_trace.specs.Breaking.{Breaks, rank, IsBrokenBy}

-- no rule comes before the first
none_before : (q : Rule) → rank q < 0 → ⊥
none_before q low = absurd (omega arith)

-- two truths at once
pub both_tests : (b : Bool) → b ≡ true → b ≡ false → ⊥
both_tests true p q = absurd (cc)
both_tests false p q = absurd (cc)

some_or_none : (o : Option ℕ) (l : ℕ) → o ≡ Some l → o ≡ None → ⊥
some_or_none None l p q = absurd (let e : None ≡ Some l = p in cc)
some_or_none (Some k) l p q = absurd (let e : Some k ≡ None = q in cc)

module _ (x : Setup) (May : ByteStep → Type 0) (c : Config) (k : List EndEvent) (now : ℕ) where
  -- ---- links

  pub attach_breaks : (l : ℕ) → (May (Does (Attached l now)) → ⊥) → IsBrokenBy x May c k now (Attach l) rule.Link
  attach_breaks l wrong = (wrong, λ q low b. none_before q low)

  pub detach_breaks : present_link k ≡ None → IsBrokenBy x May c k now Detach rule.Link
  detach_breaks wrong = (wrong, λ q low b. none_before q low)

  pub feed_breaks_link : (piece : List ℕ) → present_link k ≡ None → IsBrokenBy x May c k now (Feed piece) rule.Link
  feed_breaks_link piece wrong = (wrong, λ q low b. none_before q low)

  pub lend_breaks_link : (bytes : List ℕ) → present_link k ≡ None → IsBrokenBy x May c k now (Lend bytes) rule.Link
  lend_breaks_link bytes wrong = (wrong, λ q low b. none_before q low)

  pub take_breaks_link : (told : List ℕ) → present_link k ≡ None → IsBrokenBy x May c k now (Take told) rule.Link
  take_breaks_link told wrong = (wrong, λ q low b. none_before q low)

  -- ---- bytes

  module _ (l : ℕ) (here : present_link k ≡ Some l) where
    pub feed_breaks_state : (piece : List ℕ) → is_closed c k ≡ true → IsBrokenBy x May c k now (Feed piece) rule.State
    feed_breaks_state piece closed = (closed, earlier)
      where
        earlier : (q : Rule) → rank q < 1 → Breaks q x May c k now (Feed piece) → ⊥
        earlier rule.Link low b = some_or_none (present_link k) l here b
        earlier rule.State low b = absurd (omega arith)
        earlier rule.Bytes low b = absurd (omega arith)
        earlier rule.Due low b = b
        earlier rule.Took low b = b
        earlier rule.Room low b = b

    pub feed_breaks_bytes : (piece : List ℕ) → is_closed c k ≡ false → (May (Bytes piece) → ⊥) → IsBrokenBy x May c k now (Feed piece) rule.Bytes
    feed_breaks_bytes piece opened wrong = (wrong, earlier)
      where
        earlier : (q : Rule) → rank q < 2 → Breaks q x May c k now (Feed piece) → ⊥
        earlier rule.Link low b = some_or_none (present_link k) l here b
        earlier rule.State low b = both_tests (is_closed c k) b opened
        earlier rule.Bytes low b = absurd (omega arith)
        earlier rule.Due low b = b
        earlier rule.Took low b = b
        earlier rule.Room low b = b

    -- ---- frames that are said

    pub lend_breaks_due : (bytes : List ℕ) → (option_map (x.wire.spell (codec_of c k)) (due c k) ≡ Some bytes → ⊥) → IsBrokenBy x May c k now (Lend bytes) rule.Due
    lend_breaks_due bytes wrong = (wrong, earlier)
      where
        earlier : (q : Rule) → rank q < 3 → Breaks q x May c k now (Lend bytes) → ⊥
        earlier rule.Link low b = some_or_none (present_link k) l here b
        earlier rule.State low b = b
        earlier rule.Bytes low b = b
        earlier rule.Due low b = absurd (omega arith)
        earlier rule.Took low b = b
        earlier rule.Room low b = b

    -- ---- frames that are taken

    pub take_breaks_state : (told : List ℕ) → is_closed c k ≡ true → IsBrokenBy x May c k now (Take told) rule.State
    take_breaks_state told closed = (closed, earlier)
      where
        earlier : (q : Rule) → rank q < 1 → Breaks q x May c k now (Take told) → ⊥
        earlier rule.Link low b = some_or_none (present_link k) l here b
        earlier rule.State low b = absurd (omega arith)
        earlier rule.Bytes low b = b
        earlier rule.Due low b = b
        earlier rule.Took low b = absurd (omega arith)
        earlier rule.Room low b = b

    pub take_breaks_took : (told : List ℕ) → is_closed c k ≡ false
        → ((got : Got) → processes c k ≡ Some (Took got) → x.words (suc (length (processed_messages k))) got ≡ told → ⊥) → IsBrokenBy x May c k now (Take told) rule.Took
    take_breaks_took told opened wrong = (wrong, earlier)
      where
        earlier : (q : Rule) → rank q < 4 → Breaks q x May c k now (Take told) → ⊥
        earlier rule.Link low b = some_or_none (present_link k) l here b
        earlier rule.State low b = both_tests (is_closed c k) b opened
        earlier rule.Bytes low b = b
        earlier rule.Due low b = b
        earlier rule.Took low b = absurd (omega arith)
        earlier rule.Room low b = b

  -- ---- messages

  pub send_breaks_state : (m : Message) → (is_closed c k ≡ true) ⊎ (is_shaken k ≡ false) → IsBrokenBy x May c k now (Send m) rule.State
  send_breaks_state m wrong = (wrong, earlier)
    where
      earlier : (q : Rule) → rank q < 1 → Breaks q x May c k now (Send m) → ⊥
      earlier rule.Link low b = b
      earlier rule.State low b = absurd (omega arith)
      earlier rule.Bytes low b = b
      earlier rule.Due low b = b
      earlier rule.Took low b = b
      earlier rule.Room low b = absurd (omega arith)

  pub send_breaks_room : (m : Message) → is_closed c k ≡ false → is_shaken k ≡ true → (May (Does (Sent m)) → ⊥) → IsBrokenBy x May c k now (Send m) rule.Room
  send_breaks_room m opened shaken wrong = (wrong, earlier)
    where
      earlier : (q : Rule) → rank q < 5 → Breaks q x May c k now (Send m) → ⊥
      earlier rule.Link low b = b
      earlier rule.State low b = ⊎_elim (λ h. both_tests (is_closed c k) h opened) (λ h. both_tests (is_shaken k) shaken h) b
      earlier rule.Bytes low b = b
      earlier rule.Due low b = b
      earlier rule.Took low b = b
      earlier rule.Room low b = absurd (omega arith)

  -- ---- ticks and closes

  pub tick_breaks : (later : ℕ) → later < now → IsBrokenBy x May c k now (Tick later) rule.State
  tick_breaks later low = (low, earlier)
    where
      earlier : (q : Rule) → rank q < 1 → Breaks q x May c k now (Tick later) → ⊥
      earlier rule.Link low b = b
      earlier rule.State low b = absurd (omega arith)
      earlier rule.Bytes low b = b
      earlier rule.Due low b = b
      earlier rule.Took low b = b
      earlier rule.Room low b = b

  pub close_breaks : is_closed c k ≡ true → IsBrokenBy x May c k now Close rule.State
  close_breaks closed = (closed, earlier)
    where
      earlier : (q : Rule) → rank q < 1 → Breaks q x May c k now Close → ⊥
      earlier rule.Link low b = b
      earlier rule.State low b = absurd (omega arith)
      earlier rule.Bytes low b = b
      earlier rule.Due low b = b
      earlier rule.Took low b = b
      earlier rule.Room low b = b
