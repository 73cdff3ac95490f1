-- What a move leaves of an end that reads nothing by it: every whole frame is taken still, and no message waits.
use Rattle.std.proofs.Common.{◌≡◌, ℕ, ◌<◌, ◌≤◌, ◌==◌, Bool, true, false, not, ◌&&◌, ◌||◌, List, [], ◌∷◌, ◌++◌, map}
use Rattle.std.proofs.Common.{Option, Some, None, is_some, refl, sym, ap, subst, ◌∙◌, true≢false, arith}
use Rattle.std.specs.Prelude.{if◌then◌else◌, slice_get, option_map, max, reverse}
use Rattle.std.proofs.lemmas.Bool.{eq-eqb}
use Rattle.hm_message.specs.declared.message.Message.{Message}
use Rattle.hd_delivery.specs.declared.vocabulary.Reason.{Reason}
use Rattle.hd_delivery.specs.Frames.{LinkFrame}
use Rattle.hd_delivery.specs.Histories as of
use Rattle.hd_delivery.specs.Histories.{EndEvent, Config, Attached, Detached, Fed, Took, Failed, Sent, Lent, Ticked, Silenced, Closed, fed_frames}
use Rattle.hd_delivery.specs.Histories.{is_closed, is_resumable, is_this, link_count, present_link, stands_on, taken_count, was_on}
use Rattle.hd_delivery.specs.Processes.{processes, next_frame, next_number, reads}
use Rattle.hd_delivery.specs.Bytes.{Does as Step_of}
use Rattle.hd_calls.specs.Peers.{PeerEvent, Plain, Settings, steps, waiting}
use Rattle.hd_server.specs.Lives.{ended_at, is_removed, is_made, is_polling, lost_at, socket_of}
use Rattle.hd_server.specs.Machine.{MachineEvent, Does, has_gone, moves, settings_of}
use Rattle.hd_server.specs.Doings.{ServerEvent, notes, work, moment, peer, history, history_with, config_of, config_with, has_peer}
use Rattle.hd_server.specs.Plans.{onto, step}
use Rattle.hub_server.specs.Lanes.{Unsettled}
use Rattle.hub_server.specs.Servers.{IsOrderly}
use Rattle.hub_machine.specs.Traffic.{IsClear, lends}

-- ---- the next frame of a link

-- another reader finds no frame where there is none
none_read : {A B C : Type 0} (f : A → B) (g : A → C) (o : Option A) → option_map f o ≡ None → option_map g o ≡ None
none_read f g None e = refl
none_read f g (Some x) e = absurd (true≢false (ap is_some e))

-- nothing comes at an end that is closed, and nothing where there is no frame
none_at : {A : Type 0} (b : Bool) (o : Option A) → (b ≡ false → o ≡ None) → (if b then None else o) ≡ None
none_at true o f = refl
none_at false o f = f refl

-- an end that is open has no frame
none_open : {A : Type 0} (b : Bool) (o : Option A) → (if b then None else o) ≡ None → b ≡ false → o ≡ None
none_open true o e f = absurd (true≢false f)
none_open false o e f = e

-- the frames of the present link are as they were
next_same : (c : Config) (g h : List EndEvent) (l : Option ℕ) → ((k : ℕ) → fed_frames k g ≡ fed_frames k h)
    → ((k : ℕ) → taken_count k g ≡ taken_count k h) → next_frame c h l ≡ None → next_frame c g l ≡ None
next_same c g h None fed taken e = refl
next_same c g h (Some l) fed taken e =
    subst (λ n. option_map (reads c g (next_number c g l)) (slice_get (fed_frames l g) n) ≡ None) (sym (taken l))
    (subst (λ fs. option_map (reads c g (next_number c g l)) (slice_get fs (taken_count l h)) ≡ None) (sym (fed l))
    (none_read (reads c h (next_number c h l)) (reads c g (next_number c g l)) (slice_get (fed_frames l h) (taken_count l h)) e))

-- such an end has taken every whole frame still
taken_still : (c : Config) (g h : List EndEvent) → is_closed c g ≡ is_closed c h → present_link g ≡ present_link h
    → ((k : ℕ) → fed_frames k g ≡ fed_frames k h) → ((k : ℕ) → taken_count k g ≡ taken_count k h)
    → processes c h ≡ None → processes c g ≡ None
taken_still c g h closed present fed taken e = none_at (is_closed c g) (next_frame c g (present_link g)) (λ opened.
    subst (λ l. next_frame c g l ≡ None) (sym present)
    (next_same c g h (present_link h) fed taken (none_open (is_closed c h) (next_frame c h (present_link h)) e (sym closed ∙ opened))))

-- ---- links that weren't used

-- the end doesn't stand there
not_there : (h : List EndEvent) (l : ℕ) → was_on l h ≡ false → stands_on l h ≡ false
not_there [] l e = refl
not_there (Attached k now ∷ h) l e = either (l == k) (was_on l h) e
  where
    either : (a b : Bool) → (a || b) ≡ false → a ≡ false
    either true b e = e
    either false b e = refl
not_there (Detached now ∷ h) l e = refl
not_there (Silenced now ∷ h) l e = refl
not_there (Fed piece ∷ h) l e = not_there h l e
not_there (Took got ∷ h) l e = not_there h l e
not_there (Failed fault ∷ h) l e = not_there h l e
not_there (Sent m ∷ h) l e = not_there h l e
not_there (Lent f ∷ h) l e = not_there h l e
not_there (Ticked now ∷ h) l e = not_there h l e
not_there (Closed why allow ∷ h) l e = not_there h l e

-- and nothing was fed there
none_fed : (h : List EndEvent) (l : ℕ) → was_on l h ≡ false → fed_frames l h ≡ []
none_fed [] l e = refl
none_fed (Attached k now ∷ h) l e = none_fed h l (later (l == k) (was_on l h) e)
  where
    later : (a b : Bool) → (a || b) ≡ false → b ≡ false
    later true b e = absurd (true≢false e)
    later false b e = e
none_fed (Fed piece ∷ h) l e =
    subst (λ b. (if b then fed_frames l h ++ piece else fed_frames l h) ≡ []) (sym (not_there h l e)) (none_fed h l e)
none_fed (Detached now ∷ h) l e = none_fed h l e
none_fed (Silenced now ∷ h) l e = none_fed h l e
none_fed (Took got ∷ h) l e = none_fed h l e
none_fed (Failed fault ∷ h) l e = none_fed h l e
none_fed (Sent m ∷ h) l e = none_fed h l e
none_fed (Lent f ∷ h) l e = none_fed h l e
none_fed (Ticked now ∷ h) l e = none_fed h l e
none_fed (Closed why allow ∷ h) l e = none_fed h l e

-- so a new link has no frame
taken_new : (c : Config) (h : List EndEvent) (l now : ℕ) → was_on l h ≡ false → processes c (Attached l now ∷ h) ≡ None
taken_new c h l now unused = none_at (is_closed c h) (next_frame c (Attached l now ∷ h) (Some l)) (λ opened.
    subst (λ fs. option_map (reads c (Attached l now ∷ h) (next_number c (Attached l now ∷ h) l)) (slice_get fs (taken_count l h)) ≡ None)
    (sym (none_fed h l unused)) refl)

abbrev Nowhere : Option EndEvent
Nowhere = None

-- an end without a link has none either
taken_off : (b : Bool) → (if b then None else None) ≡ Nowhere
taken_off true = refl
taken_off false = refl

-- ---- one more move of a peer

pub calm_lent : (t : Settings) (h : List PeerEvent) (f : LinkFrame) → IsClear t h → IsClear t (Plain (Step_of (Lent f)) ∷ h)
calm_lent t h f x = record {
  handled = x.handled;
  taken = taken_still t.config (Lent f ∷ steps t h) (steps t h) refl refl (λ k. refl) (λ k. refl) x.taken;
}

pub calm_ticked : (t : Settings) (h : List PeerEvent) (now : ℕ) → IsClear t h → IsClear t (Plain (Step_of (Ticked now)) ∷ h)
calm_ticked t h now x = record {
  handled = x.handled;
  taken = taken_still t.config (Ticked now ∷ steps t h) (steps t h) refl refl (λ k. refl) (λ k. refl) x.taken;
}

pub calm_silenced : (t : Settings) (h : List PeerEvent) (now : ℕ) → IsClear t h → IsClear t (Plain (Step_of (Silenced now)) ∷ h)
calm_silenced t h now x = record { handled = x.handled; taken = taken_off (is_closed t.config (Silenced now ∷ steps t h)) }

pub calm_detached : (t : Settings) (h : List PeerEvent) (now : ℕ) → IsClear t h → IsClear t (Plain (Step_of (Detached now)) ∷ h)
calm_detached t h now x = record { handled = x.handled; taken = taken_off (is_closed t.config (Detached now ∷ steps t h)) }

pub calm_closed : (t : Settings) (h : List PeerEvent) (why : Reason) (allow : Bool) → IsClear t h → IsClear t (Plain (Step_of (Closed why allow)) ∷ h)
calm_closed t h why allow x = record { handled = x.handled; taken = refl }

pub calm_attached : (t : Settings) (h : List PeerEvent) (l now : ℕ) → was_on l (steps t h) ≡ false → IsClear t h
    → IsClear t (Plain (Step_of (Attached l now)) ∷ h)
calm_attached t h l now unused x = record { handled = x.handled; taken = taken_new t.config (steps t h) l now unused }

-- of those that come before
lends_onto : (t : Settings) (fs : List LinkFrame) (h : List PeerEvent) → IsClear t h → IsClear t (onto (map (λ f. Plain (Step_of (Lent f))) fs) h)
lends_onto t [] h x = x
lends_onto t (f ∷ fs) h x = lends_onto t fs (Plain (Step_of (Lent f)) ∷ h) (calm_lent t h f x)

onto_both : {A : Type 0} (xs ys h : List A) → onto xs (ys ++ h) ≡ onto xs ys ++ h
onto_both [] ys h = refl
onto_both (x ∷ xs) ys h = onto_both xs (x ∷ ys) h

pub onto_reverse : {A : Type 0} (xs h : List A) → onto xs h ≡ reverse xs ++ h
onto_reverse xs h = onto_both xs [] h

pub calm_lends : (t : Settings) (h : List PeerEvent) (fs : List LinkFrame) → IsClear t h → IsClear t (lends fs ++ h)
calm_lends t h fs x = subst (IsClear t) (onto_reverse (map (λ f. Plain (Step_of (Lent f))) fs) h) (lends_onto t fs h x)

-- ---- what several moves leave

-- nothing was read, and the end stands where it stood
pub record Leaves (c : Config) (last : ℕ) (g h : List EndEvent) : Type 0 where
  pub present : present_link g ≡ present_link h
  pub kept : is_resumable c g ≡ is_resumable c h
  pub was : (l : ℕ) → was_on l g ≡ was_on l h
  pub count : link_count g ≡ link_count h
  pub timely : of.moment h ≤ last → of.moment g ≤ last
  pub taken : processes c h ≡ None → processes c g ≡ None

pub leaves_same : (c : Config) (last : ℕ) (h : List EndEvent) → Leaves c last h h
leaves_same c last h = record { present = refl; kept = refl; was = λ l. refl; count = refl; timely = λ e. e; taken = λ e. e }

pub leaves_then : (c : Config) (last : ℕ) (f g h : List EndEvent) → Leaves c last f g → Leaves c last g h → Leaves c last f h
leaves_then c last f g h a b = record {
  present = a.present ∙ b.present;
  kept = a.kept ∙ b.kept;
  was = λ l. a.was l ∙ b.was l;
  count = a.count ∙ b.count;
  timely = λ e. a.timely (b.timely e);
  taken = λ e. a.taken (b.taken e);
}

pub leaves_lent : (c : Config) (last : ℕ) (h : List EndEvent) (f : LinkFrame) → Leaves c last (Lent f ∷ h) h
leaves_lent c last h f = record {
  present = refl;
  kept = refl;
  was = λ l. refl;
  count = refl;
  timely = λ e. e;
  taken = taken_still c (Lent f ∷ h) h refl refl (λ k. refl) (λ k. refl);
}

pub leaves_sent : (c : Config) (last : ℕ) (h : List EndEvent) (m : Message) → Leaves c last (Sent m ∷ h) h
leaves_sent c last h m = record {
  present = refl;
  kept = refl;
  was = λ l. refl;
  count = refl;
  timely = λ e. e;
  taken = taken_still c (Sent m ∷ h) h refl refl (λ k. refl) (λ k. refl);
}

pub leaves_closed : (c : Config) (last : ℕ) (h : List EndEvent) (why : Reason) (allow : Bool) → Leaves c last (Closed why allow ∷ h) h
leaves_closed c last h why allow = record {
  present = refl;
  kept = refl;
  was = λ l. refl;
  count = refl;
  timely = λ e. e;
  taken = λ e. refl;
}

at_most : (a b last : ℕ) → a ≤ last → b ≤ last → max a b ≤ last
at_most a b last e f = omega (arith, e, f)

pub leaves_ticked : (c : Config) (last : ℕ) (h : List EndEvent) (now : ℕ) → now ≤ last → Leaves c last (Ticked now ∷ h) h
leaves_ticked c last h now e = record {
  present = refl;
  kept = refl;
  was = λ l. refl;
  count = refl;
  timely = λ f. at_most now (of.moment h) last e f;
  taken = taken_still c (Ticked now ∷ h) h refl refl (λ k. refl) (λ k. refl);
}

-- ---- one connection of a server

pub moves_own : (c : ℕ) (m : PeerEvent) (w : List MachineEvent) → moves c (Does c m ∷ w) ≡ m ∷ moves c w
moves_own c m w = subst (λ b. (if b then m ∷ moves c w else moves c w) ≡ m ∷ moves c w) (sym (eq-eqb c c refl)) refl

-- where the end stands is told by whoever knows it
record Unread (c : Config) (last : ℕ) (g h : List EndEvent) : Type 0 where
  kept : is_resumable c g ≡ is_resumable c h
  was : (l : ℕ) → was_on l g ≡ was_on l h
  count : link_count g ≡ link_count h
  timely : of.moment h ≤ last → of.moment g ≤ last
  taken : processes c h ≡ None → processes c g ≡ None

both_there : (s t : Option Settings) (a b : Bool) → s ≡ t → a ≡ b → (is_some s && not a) ≡ (is_some t && not b)
both_there s t a b e f = ap (λ o. is_some o && not a) e ∙ ap (λ z. is_some t && not z) f

orderly_by : (u : Unsettled) (c : ℕ) (g h : List ServerEvent) → settings_of c (work g) ≡ settings_of c (work h) → has_gone c (work g) ≡ has_gone c (work h)
    → notes g ≡ notes h → waiting (peer c g) ≡ waiting (peer c h) → moment h ≤ moment g
    → Unread (config_of c h) (moment g) (history c g) (history c h)
    → (has_peer c h ≡ true → (lane : ℕ) → socket_of c (notes h) ≡ Some lane → (is_this lane u.cut || is_some (present_link (history c g))) ≡ true)
    → (has_peer c h ≡ true → is_some (lost_at c (notes h)) ≡ true → present_link (history c g) ≡ None)
    → IsOrderly u c h → IsOrderly u c g
orderly_by u c g h same gone noted waits later left linked unlinked x = record {
  made = λ e. subst (λ n. is_made c n ≡ true) (sym noted) (x.made (sym (ap is_some same) ∙ e));
  there = λ e. subst (λ n. is_removed c n ≡ false) (sym noted) (x.there (sym there ∙ e));
  gone = λ e f. subst (λ n. is_removed c n ≡ true) (sym noted) (x.gone (sym (ap is_some same) ∙ e) (sym there ∙ f));
  one_way = subst (λ n. ((is_some (socket_of c n) || is_some (lost_at c n)) && is_polling c n) ≡ false) (sym noted) x.one_way;
  ended = λ e. subst (λ n. is_polling c n ≡ true) (sym noted) (x.ended (subst (λ n. is_some (ended_at c n) ≡ true) noted e));
  unused = λ e. subst (λ n. (is_some (socket_of c n) || is_some (lost_at c n) || is_polling c n) ≡ false) (sym noted)
      (x.unused (sym (ap is_some same) ∙ e));
  used = λ e. subst (λ n. (is_this c u.conn || (is_some (socket_of c n) || is_some (lost_at c n) || is_polling c n)) ≡ true) (sym noted)
      (x.used (sym there ∙ e));
  linked = λ e lane f. linked (sym there ∙ e) lane (subst (λ n. socket_of c n ≡ Some lane) noted f);
  unlinked = λ e f. unlinked (sym there ∙ e) (subst (λ n. is_some (lost_at c n) ≡ true) noted f);
  kept = λ e f. subst (λ k. is_resumable k (history c g) ≡ true) (sym (ap config_with same))
      (left.kept ∙ x.kept (sym there ∙ e) (subst (λ n. is_some (lost_at c n) ≡ true) noted f));
  links = λ l e. subst (λ n. l < n) (sym left.count) (x.links l (sym (left.was l) ∙ e));
  timely = left.timely (omega (arith, x.timely, later));
  handled = waits ∙ x.handled;
  taken = subst (λ k. processes k (history c g) ≡ None) (sym (ap config_with same)) (left.taken x.taken);
}
  where
    there : has_peer c g ≡ has_peer c h
    there = both_there (settings_of c (work g)) (settings_of c (work h)) (has_gone c (work g)) (has_gone c (work h)) same gone

-- a connection of which only such moves were made is in order still
pub orderly_left : (u : Unsettled) (c : ℕ) (g h : List ServerEvent) → settings_of c (work g) ≡ settings_of c (work h)
    → has_gone c (work g) ≡ has_gone c (work h) → notes g ≡ notes h → waiting (peer c g) ≡ waiting (peer c h) → moment h ≤ moment g
    → Leaves (config_of c h) (moment g) (history c g) (history c h) → IsOrderly u c h → IsOrderly u c g
orderly_left u c g h same gone noted waits later left x = orderly_by u c g h same gone noted waits later
    (record { kept = left.kept; was = left.was; count = left.count; timely = left.timely; taken = left.taken })
    (λ e lane f. subst (λ l. (is_this lane u.cut || is_some l) ≡ true) (sym left.present) (x.linked e lane f))
    (λ e f. left.present ∙ x.unlinked e f) x

-- ---- one more step of a connection's end

-- the history of an end that is there has one step more
with_step : (P : Config → List EndEvent → List EndEvent → Type 0) (s : EndEvent) (o : Option Settings) (ms : List PeerEvent)
    → ((t : Config) → P t [] []) → ((t : Config) (k : List EndEvent) → P t (s ∷ k) k)
    → P (config_with o) (history_with o (Plain (Step_of s) ∷ ms)) (history_with o ms)
with_step P s None ms none some = none (config_with None)
with_step P s (Some t) ms none some = some t.config (steps t ms)

stepped : (P : Config → List EndEvent → List EndEvent → Type 0) (s : EndEvent) (c : ℕ) (h : List ServerEvent)
    → ((t : Config) → P t [] []) → ((t : Config) (k : List EndEvent) → P t (s ∷ k) k)
    → P (config_of c h) (history c (step c s ∷ h)) (history c h)
stepped P s c h none some = subst (λ ms. P (config_of c h) (history_with (settings_of c (work h)) ms) (history c h))
    (sym (moves_own c (Plain (Step_of s)) (work h))) (with_step P s (settings_of c (work h)) (peer c h) none some)

still_waits : (s : EndEvent) (c : ℕ) (h : List ServerEvent) → waiting (peer c (step c s ∷ h)) ≡ waiting (peer c h)
still_waits s c h = ap waiting (moves_own c (Plain (Step_of s)) (work h))

no_later : (n : ℕ) → n ≤ n
no_later n = omega arith

orderly_step : (u : Unsettled) (c : ℕ) (s : EndEvent) (h : List ServerEvent) → ((t : Config) (k : List EndEvent) → Leaves t (moment h) (s ∷ k) k)
    → IsOrderly u c h → IsOrderly u c (step c s ∷ h)
orderly_step u c s h leaves x = orderly_left u c (step c s ∷ h) h refl refl refl (still_waits s c h) (no_later (moment h))
    (stepped (λ t g k. Leaves t (moment h) g k) s c h (λ t. leaves_same t (moment h) []) leaves) x

pub orderly_lent : (u : Unsettled) (c : ℕ) (f : LinkFrame) (h : List ServerEvent) → IsOrderly u c h → IsOrderly u c (step c (Lent f) ∷ h)
orderly_lent u c f h x = orderly_step u c (Lent f) h (λ t k. leaves_lent t (moment h) k f) x

pub orderly_lends : (u : Unsettled) (c : ℕ) (fs : List LinkFrame) (h : List ServerEvent) → IsOrderly u c h
    → IsOrderly u c (onto (map (λ f. step c (Lent f)) fs) h)
orderly_lends u c [] h x = x
orderly_lends u c (f ∷ fs) h x = orderly_lends u c fs (step c (Lent f) ∷ h) (orderly_lent u c f h x)

pub orderly_ticked : (u : Unsettled) (c : ℕ) (h : List ServerEvent) → IsOrderly u c h → IsOrderly u c (step c (Ticked (moment h)) ∷ h)
orderly_ticked u c h x = orderly_step u c (Ticked (moment h)) h (λ t k. leaves_ticked t (moment h) k (moment h) (no_later (moment h))) x

pub orderly_closed : (u : Unsettled) (c : ℕ) (why : Reason) (allow : Bool) (h : List ServerEvent) → IsOrderly u c h
    → IsOrderly u c (step c (Closed why allow) ∷ h)
orderly_closed u c why allow h x = orderly_step u c (Closed why allow) h (λ t k. leaves_closed t (moment h) k why allow) x

-- ---- ends that lose their link

-- the link is lost, and nothing was read
record Parts (c : Config) (last : ℕ) (g h : List EndEvent) : Type 0 where
  off : present_link g ≡ None
  unread : Unread c last g h

orderly_off : (u : Unsettled) (c : ℕ) (s : EndEvent) (h : List ServerEvent) → ((t : Config) (k : List EndEvent) → Parts t (moment h) (s ∷ k) k)
    → ((lane : ℕ) → socket_of c (notes h) ≡ Some lane → is_this lane u.cut ≡ true)
    → IsOrderly u c h → IsOrderly u c (step c s ∷ h)
orderly_off u c s h parts cut x = orderly_by u c (step c s ∷ h) h refl refl refl (still_waits s c h) (no_later (moment h)) off.unread
    (λ e lane f. subst (λ b. (b || is_some (present_link (history c (step c s ∷ h)))) ≡ true) (sym (cut lane f)) refl)
    (λ e f. off.off) x
  where
    nothing : (t : Config) → Parts t (moment h) [] []
    nothing t = record { off = refl; unread = record { kept = refl; was = λ l. refl; count = refl; timely = λ e. e; taken = λ e. e } }

    off : Parts (config_of c h) (moment h) (history c (step c s ∷ h)) (history c h)
    off = stepped (λ t g k. Parts t (moment h) g k) s c h nothing parts

pub orderly_silenced : (u : Unsettled) (c : ℕ) (h : List ServerEvent) → ((lane : ℕ) → socket_of c (notes h) ≡ Some lane → is_this lane u.cut ≡ true)
    → IsOrderly u c h → IsOrderly u c (step c (Silenced (moment h)) ∷ h)
orderly_silenced u c h cut x = orderly_off u c (Silenced (moment h)) h (λ t k. record {
  off = refl;
  unread = record {
    kept = refl;
    was = λ l. refl;
    count = refl;
    timely = λ e. at_most (moment h) (of.moment k) (moment h) (no_later (moment h)) e;
    taken = λ e. taken_off (is_closed t (Silenced (moment h) ∷ k));
  };
}) cut x

pub orderly_detached : (u : Unsettled) (c : ℕ) (h : List ServerEvent) → ((lane : ℕ) → socket_of c (notes h) ≡ Some lane → is_this lane u.cut ≡ true)
    → IsOrderly u c h → IsOrderly u c (step c (Detached (moment h)) ∷ h)
orderly_detached u c h cut x = orderly_off u c (Detached (moment h)) h (λ t k. record {
  off = refl;
  unread = record {
    kept = refl;
    was = λ l. refl;
    count = refl;
    timely = λ e. at_most (moment h) (of.moment k) (moment h) (no_later (moment h)) e;
    taken = λ e. taken_off (is_closed t (Detached (moment h) ∷ k));
  };
}) cut x
