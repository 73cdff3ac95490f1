-- What a client's parts come to once what was heard is followed.
use Rattle.std.proofs.Common.{◌≡◌, ℕ, true, false, List, [], Option, None, sym, subst, ◌∙◌}
use Rattle.std.specs.Prelude.{if◌then◌else◌}
use Rattle.hd_server.specs.Plans.{onto}
use Rattle.hd_dialing.specs.Plans.{News, Nothing, Begins, Brings, Drains, Ends}
use Rattle.hd_client.specs.Setups.{Setup}
use Rattle.hd_client.specs.Events.{ClientEvent, has_closed, is_over, moment, moves, settings_of}
use Rattle.hd_client.specs.Plans.{linking, ticking}
use Rattle.hd_client.specs.Turns.{IsFed}
use Rattle.sr_client.specs.declared.client.Client.{Client}
use Rattle.sr_client.specs.declared.client.Words.{Words}
use Rattle.sr_client.specs.declared.peer.ClientPeer.{ClientPeer}
use Rattle.sr_client.specs.Clients.{Before, Kept, PlaysBy, Tells, Working}
use Rattle.sr_client.specs.Turning.{FitsNews, Follows, MayLink, WorksOn}

kept_with : (s : Setup) (c : Client) (x : Option ClientPeer) (h : List ClientEvent) → Kept s c h → Kept s (record c { peer = x }) h
kept_with s c x h kept = record {
  codec = kept.codec;
  limits = kept.limits;
  wire = kept.wire;
  words = kept.words;
  dialed = kept.dialed;
  undrawn = kept.undrawn;
  passed = kept.passed;
  closed = kept.closed;
  uploads = kept.uploads;
}

fits_with : (s : Setup) (c : Client) (x : Option ClientPeer) (news : News) (h : List ClientEvent) → FitsNews s c news h
    → FitsNews s (record c { peer = x }) news h
fits_with s c x Nothing h fits = fits
fits_with s c x (Begins lane) h fits = fits
fits_with s c x (Brings bytes) h fits = fits
fits_with s c x Drains h fits = fits
fits_with s c x Ends h fits = fits

-- its peer has begun, and its end may be told of its link
pub may_link : (s : Setup) (b : Before) (c new : Client) (w : Words) (news : News) (h : List ClientEvent) → new ≡ record c { peer = new.peer } → Kept s c h
    → PlaysBy (settings_of s h) new.peer (moves h) (moment h) → Tells s b w h → has_closed s h ≡ false → w.shut ≡ None → FitsNews s c news h
    → MayLink s b new w news h
may_link s b c new w news h is kept plays tells opened none fits = record {
  kept = subst (λ z. Kept s z h) (sym is) (kept_with s c new.peer h kept);
  plays = plays;
  tells = tells;
  unclosed = opened;
  dropped = none;
  fits = subst (λ z. FitsNews s z news h) (sym is) (fits_with s c new.peer news h fits);
}

-- its end was told
abbrev pub IsTold : Setup → Before → Client → Words → ℕ → News → List ClientEvent → Type 0
IsTold s b c w now news h = WorksOn s b c w (λ fed. IsFed s news (onto (linking s now news h) h) fed × (moment fed ≡ moment h))

module _ (s : Setup) (b : Before) (c : Client) (w : Words) (now : ℕ) (news : News) (h : List ClientEvent) (at : now ≡ moment h) (told : IsTold s b c w now news h) where
  feeds_so : IsFed s news (onto (linking s (moment h) news h) h) told.after
  feeds_so = subst (λ k. IsFed s news (onto (linking s k news h) h) told.after) at told.holds.0

  -- it is over, and doesn't tick
  pub follows_over : is_over s told.after ≡ true → Follows s b c w news h
  follows_over over = record {
    fed = told.after;
    feeds = feeds_so;
    working = subst (λ y. Working s b c w (onto (if y then [] else ticking (moment h) (settings_of s told.after) told.after) told.after)) (sym over)
        told.working;
  }

  -- and else it does
  pub follows_ticks : (new : Client) (later : Words) → is_over s told.after ≡ false
      → ((k : List ClientEvent) → Working s b c w k → is_over s k ≡ false → now ≡ moment k → Working s b new later (onto (ticking now (settings_of s k) k) k))
      → Follows s b new later news h
  follows_ticks new later goes_on ticks = record {
    fed = told.after;
    feeds = feeds_so;
    working = subst (λ y. Working s b new later (onto (if y then [] else ticking (moment h) (settings_of s told.after) told.after) told.after)) (sym goes_on)
        (subst (λ k. Working s b new later (onto (ticking k (settings_of s told.after) told.after) told.after)) at
        (ticks told.after told.working goes_on (at ∙ sym told.holds.1)));
  }
