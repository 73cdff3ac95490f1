-- What one connection lends and says leaves of it all that isn't told by its end, and what its machine says of it is said of the doings.
use Rattle.std.proofs.Common.{◌≡◌, ℕ, Bool, true, false, not, ◌&&◌, ◌||◌, List, [], ◌∷◌, ◌++◌, Option, Some, None, is_some}
use Rattle.std.proofs.Common.{refl, sym, ap, subst, ◌∙◌}
use Rattle.std.specs.Prelude.{if◌then◌else◌}
use Rattle.std.proofs.lemmas.Bool.{eq-eqb, true≢false}
use Rattle.hw_lanes.specs.declared.http.Reply.{Reply}
use Rattle.hd_delivery.specs.Frames.{LinkFrame}
use Rattle.hd_delivery.specs.Due.{due}
use Rattle.hd_delivery.specs.Histories.{Config, codec_of, is_closed}
use Rattle.hd_delivery.specs.Bytes.{Wire, spelling_of}
use Rattle.hd_calls.specs.Hubs.{Hub}
use Rattle.hd_calls.specs.Peers.{PeerEvent, Settings, codec, is_shut, steps}
use Rattle.hd_server.specs.declared.vocabulary.Said.{Said}
use Rattle.hd_server.specs.declared.vocabulary.Said.TheVariants as say
use Rattle.hd_server.specs.Lives.{Removed, is_removed, is_made}
use Rattle.hd_server.specs.Machine.{Goes, has_gone, is_open_at, moves, settings_of}
use Rattle.hd_server.specs.Doings.{ServerEvent, Notes, Works, Says, config_of, config_with, has_closed, has_peer, history, history_with, is_up, moment}
use Rattle.hd_server.specs.Doings.{notes, peer, wants_shut, was_refused, work}
use Rattle.hd_server.specs.Plans.{Setup, ends_lane, removing_conn, onto, replying, shutting}
use Rattle.hd_server.specs.Serves.{LendsAll, LendsUpTo, bytes_of, is_text, lending, writing}
use Rattle.hd_server.specs.Parts.{Each}
use Rattle.hub_machine.specs.declared.machine.Machine.{Machine}
use Rattle.hub_server.specs.declared.server.Server.{Server}
use Rattle.hub_machine.specs.Machines.{OfConn, StandsMachine, settings_there}
use Rattle.hub_machine.specs.Traffic.{IsServers, LendsDue, LendsSome, is_any}
use Rattle.hub_server.specs.Connections.{IsKnown}
use Rattle.hub_server.specs.Lanes.{Unsettled}
use Rattle.hub_server.specs.Servers.{IsBegunBy, IsOrderly, Standing}
use Rattle.hub_server.proofs.Answering.{replying_same}
use Rattle.hub_server.proofs.FlushLends.{HasLent, all_lent, standing_lends, there_lent}

-- ---- only words

abbrev pub IsWord : ServerEvent → Type 0
IsWord (Says x) = Unit {0}
IsWord _ = ⊥

-- of the connection this stays
pub record Mild (c : ℕ) (g h : List ServerEvent) : Type 0 where
  pub noted : notes g ≡ notes h
  pub there : has_peer c g ≡ has_peer c h
  pub closed : has_closed c g ≡ has_closed c h
  pub clock : moment g ≡ moment h
  pub refused : (lane : ℕ) → was_refused lane g ≡ was_refused lane h
  pub shut : (lane : ℕ) → wants_shut lane g ≡ wants_shut lane h

mild_same : (c : ℕ) (h : List ServerEvent) → Mild c h h
mild_same c h = record { noted = refl; there = refl; closed = refl; clock = refl; refused = λ lane. refl; shut = λ lane. refl }

mild_one : (c : ℕ) (x : Said) (h : List ServerEvent) → Mild c (Says x ∷ h) h
mild_one c x h = record { noted = refl; there = refl; closed = refl; clock = refl; refused = λ lane. refl; shut = λ lane. refl }

pub mild_then : (c : ℕ) (f g h : List ServerEvent) → Mild c f g → Mild c g h → Mild c f h
mild_then c f g h x y = record {
  noted = x.noted ∙ y.noted;
  there = x.there ∙ y.there;
  closed = x.closed ∙ y.closed;
  clock = x.clock ∙ y.clock;
  refused = λ lane. x.refused lane ∙ y.refused lane;
  shut = λ lane. x.shut lane ∙ y.shut lane;
}

pub mild_says : (c : ℕ) (ds h : List ServerEvent) → Each IsWord ds → Mild c (onto ds h) h
mild_says c [] h a = mild_same c h
mild_says c (Says x ∷ ds) h a = mild_then c (onto ds (Says x ∷ h)) (Says x ∷ h) h (mild_says c ds (Says x ∷ h) a.1) (mild_one c x h)
mild_says c (d ∷ ds) h a = absurd a.0

pub mild_lends : (c : ℕ) (fs : List LinkFrame) (h : List ServerEvent) → Mild c (onto (lending c fs) h) h
mild_lends c fs h =
    let x : HasLent c (onto (lending c fs) h) h = all_lent c fs h in
    record {
      noted = x.noted;
      there = there_lent c c (onto (lending c fs) h) h x;
      closed = x.closed;
      clock = x.clock;
      refused = λ lane. (x.lane lane).refused;
      shut = λ lane. (x.lane lane).shut;
    }

pub writing_says : (s : Setup) (c lane : ℕ) (pieces : List (List LinkFrame)) (h : List ServerEvent) → Each IsWord (writing s c lane pieces h)
writing_says s c lane [] h = tt
writing_says s c lane (p ∷ ps) h = (tt, writing_says s c lane ps h)

-- nobody did anything by them
pub work_says : (ds h : List ServerEvent) → Each IsWord ds → work (onto ds h) ≡ work h
work_says [] h a = refl
work_says (Says x ∷ ds) h a = work_says ds (Says x ∷ h) a.1
work_says (d ∷ ds) h a = absurd a.0

either_says : (b : Bool) (xs ys : List ServerEvent) → Each IsWord xs → Each IsWord ys → Each IsWord (if b then xs else ys)
either_says true xs ys a b = a
either_says false xs ys a b = b

pub shutting_says : (lane : ℕ) (h : List ServerEvent) → Each IsWord (shutting lane h)
shutting_says lane h = either_says (was_refused lane h) [] (Says (say.Shut lane) ∷ []) tt (tt, tt)

pub replying_says : (lane : ℕ) (reply : Reply) (h : List ServerEvent) → Each IsWord (replying lane reply h)
replying_says lane reply h = (tt, either_says (ends_lane lane reply.status h) (Says (say.Shut lane) ∷ []) [] (tt, tt) tt)

-- ---- what follows of it

pub known_mild : (c : ℕ) (g h : List ServerEvent) → Mild c g h → IsKnown c h → IsKnown c g
known_mild c g h x k = record {
  made = subst (λ n. is_made c n ≡ true) (sym x.noted) k.made;
  held = subst (λ n. is_removed c n ≡ false) (sym x.noted) k.held;
}

pub letting_mild : (c : ℕ) (g h : List ServerEvent) → Mild c g h → removing_conn c g ≡ removing_conn c h
letting_mild c g h x = ap (λ (b : Bool). (if b then Works (Goes c) ∷ [] else []) ++ Notes (Removed c) ∷ []) x.there

pub shutting_mild : (c lane : ℕ) (g h : List ServerEvent) → Mild c g h → shutting lane g ≡ shutting lane h
shutting_mild c lane g h x = ap (λ (b : Bool). if b then [] else Says (say.Shut lane) ∷ []) (x.refused lane)

pub replying_mild : (c lane : ℕ) (reply : Reply) (g h : List ServerEvent) → Mild c g h → replying lane reply g ≡ replying lane reply h
replying_mild c lane reply g h x = replying_same lane reply g h (x.shut lane) (x.refused lane)

-- a connection that is there and isn't closed is open
pub up_there : (c : ℕ) (g : List ServerEvent) → has_peer c g ≡ true → has_closed c g ≡ false → is_up c g ≡ true
up_there c g = go (settings_of c (work g)) (has_gone c (work g)) (peer c g)
  where
    go : (o : Option Settings) (gone : Bool) (ms : List PeerEvent) → (is_some o && not gone) ≡ true → is_closed (config_with o) (history_with o ms) ≡ false
        → (not gone && is_open_at o ms) ≡ true
    go None gone ms e f = absurd (true≢false (sym e))
    go (Some t) true ms e f = absurd (true≢false (sym e))
    go (Some t) false ms e f = ap not f

-- one of which nothing is kept is there no more
pub gone_after : (c : ℕ) (g h : List ServerEvent) → has_peer c h ≡ true → has_peer c (onto (removing_conn c h) g) ≡ false
gone_after c g h there =
    subst (λ (b : Bool). has_peer c (onto ((if b then Works (Goes c) ∷ [] else []) ++ Notes (Removed c) ∷ []) g) ≡ false) (sym there)
    (subst (λ (b : Bool). (is_some (settings_of c (work g)) && not (b || has_gone c (work g))) ≡ false) (sym (eq-eqb c c refl))
    (none (is_some (settings_of c (work g)))))
  where
    none : (b : Bool) → (b && false) ≡ false
    none true = refl
    none false = refl

-- ---- how the peer of a connection is

pub record IsOne (s : Setup) (c : ℕ) (h : List ServerEvent) : Type 0 where
  pub t : Settings
  pub told : settings_of c (work h) ≡ Some t
  pub there : settings_there c (work h) ≡ Some t
  pub begun : IsBegunBy s t
  pub known : IsKnown c h

some_true : {A : Type 0} (o : Option A) (b : Bool) → (is_some o && not b) ≡ true → (x : A) × (o ≡ Some x) × (b ≡ false)
some_true None b e = absurd (true≢false (sym e))
some_true (Some x) true e = absurd (true≢false (sym e))
some_true (Some x) false e = (x, refl, refl)

pub is_one : {H Job : Type 0} (hub : Hub Job) (s : Setup) (u : Unsettled) (before : List Said) (v : Server H Job) (c : ℕ) (h : List ServerEvent)
    → Standing {H = H} hub s u before v h → has_peer c h ≡ true → IsOne s c h
is_one {H} hub s u before v c h x there =
    let e = some_true (settings_of c (work h)) (has_gone c (work h)) there in
    let o : IsOrderly u c h = x.orderly c in
    record {
      t = e.0;
      told = e.1;
      there = ap (λ (b : Bool). if b then None else settings_of c (work h)) e.2 ∙ e.1;
      begun = x.begun c e.0 e.1;
      known = record { made = o.made (ap is_some e.1); held = o.there there };
    }

pub config_is : (s : Setup) (c : ℕ) (h : List ServerEvent) (o : IsOne s c h) → config_of c h ≡ (o.t).config
config_is s c h o = ap config_with o.told

pub history_is : (s : Setup) (c : ℕ) (h : List ServerEvent) (o : IsOne s c h) → history c h ≡ steps o.t (moves c (work h))
history_is s c h o = ap (λ (x : Option Settings). history_with x (peer c h)) o.told

closed_by : (s : Setup) (c : ℕ) (h : List ServerEvent) (o : IsOne s c h) → has_closed c h ≡ is_shut o.t (moves c (work h))
closed_by s c h o = ap (λ (x : Option Settings). is_closed (config_with x) (history_with x (peer c h))) o.told

text_by : (s : Setup) (c : ℕ) (h : List ServerEvent) (o : IsOne s c h) → is_text (config_of c h) (history c h) ≡ is_text (o.t).config
    (steps o.t (moves c (work h)))
text_by s c h o = ap (λ (x : Option Settings). is_text (config_with x) (history_with x (peer c h))) o.told

bytes_by : (s : Setup) (c : ℕ) (h : List ServerEvent) (fs : List LinkFrame) (o : IsOne s c h)
    → spelling_of (o.t).wire (codec o.t (moves c (work h))) fs ≡ bytes_of s c fs h
bytes_by s c h fs o =
    ap (λ (w : Wire). spelling_of w (codec o.t (moves c (work h))) fs) (o.begun).wire
    ∙ sym (ap (λ (x : Option Settings). spelling_of s.wire (codec_of (config_with x) (history_with x (peer c h))) fs) o.told)

module _ {H Job : Type 0} (hub : Hub Job) (s : Setup) (u : Unsettled) (before : List Said) (v : Server H Job) (c : ℕ) (h : List ServerEvent)
    (x : Standing {H = H} hub s u before v h) (there : has_peer c h ≡ true) where
  pub closed_is : (r : Bool) → OfConn {H = H} hub v.machine c (λ w t k. r ≡ is_shut t k) → r ≡ has_closed c h
  closed_is r of =
      let o : IsOne s c h = is_one {H = H} {Job = Job} hub s u before v c h x there in
      of (work h) o.t x.machine o.there ∙ sym (closed_by s c h o)

  pub text_is : (r : Bool) → OfConn {H = H} hub v.machine c (λ w t k. IsServers t k → r ≡ is_text t.config (steps t k))
      → r ≡ is_text (config_of c h) (history c h)
  text_is r of =
      let o : IsOne s c h = is_one {H = H} {Job = Job} hub s u before v c h x there in
      of (work h) o.t x.machine o.there (record {
        side = ap (λ (k : Config). k.side) (o.begun).config;
        codec = ap (λ (k : Config). k.codec)
            (o.begun).config;
      })
      ∙ sym (text_by s c h o)

  -- where nothing is due on its link it may rest, and nothing has changed
  pub standing_rests : (m : Machine H Job) → due (config_of c h) (history c h) ≡ None
      → OfConn {H = H} hub v.machine c (λ w t k. due t.config (steps t k) ≡ None → StandsMachine {H = H} hub m w)
      → Standing {H = H} hub s u before (record v { machine = m }) h
  standing_rests m none rests =
      let o : IsOne s c h = is_one {H = H} {Job = Job} hub s u before v c h x there in
      record {
        setup = x.setup;
        machine = rests (work h) o.t x.machine o.there
            (subst (λ k. due k (steps o.t (moves c (work h))) ≡ None) (config_is s c h o)
            (subst (λ k. due (config_of c h) k ≡ None) (history_is s c h o) none));
        front = x.front;
        callers = x.callers;
        lanes = x.lanes;
        begun = x.begun;
        orderly = x.orderly;
        clock = x.clock;
        words = x.words;
      }

-- ---- what is due is lent

pub record SaidAll {H Job : Type 0} (hub : Hub Job) (s : Setup) (u : Unsettled) (before : List Said) (v : Server H Job) (c : ℕ) (any : Bool)
    (out : List ℕ) (h : List ServerEvent) : Type 0 where
  pub frames : List LinkFrame
  pub due : LendsAll (config_of c h) (history c h) frames
  pub some : any ≡ is_any frames
  pub bytes : out ≡ bytes_of s c frames h
  pub stands : Standing hub s u before v (onto (lending c frames) h)

pub said_all : {H Job : Type 0} (hub : Hub Job) (s : Setup) (u : Unsettled) (before : List Said) (v : Server H Job) (m : Machine H Job) (c : ℕ)
    (any : Bool) (old out : List ℕ) (h : List ServerEvent)
    → old ≡ [] → Standing {H = H} hub s u before v h → has_peer c h ≡ true → OfConn {H = H} hub v.machine c
    (λ w t k. LendsDue {H = H} hub m c w t k any old out)
    → SaidAll {H = H} hub s u before (record v { machine = m }) c any out h
said_all {H} {Job} hub s u before v m c any old out h none x there of =
    let o : IsOne s c h = is_one {H = H} {Job = Job} hub s u before v c h x there in
    let l : LendsDue {H = H} hub m c (work h) o.t (moves c (work h)) any old out = of (work h) o.t x.machine o.there in
    record {
      frames = l.frames;
      due = subst (λ k. LendsAll k (history c h) l.frames) (sym (config_is s c h o))
          (subst (λ k. LendsAll (o.t).config k l.frames) (sym (history_is s c h o)) l.due);
      some = l.some;
      bytes = l.bytes ∙ ap (λ (xs : List ℕ). xs ++ spelling_of (o.t).wire (codec o.t (moves c (work h))) l.frames) none ∙ bytes_by s c h l.frames o;
      stands = standing_lends {H = H} {Job = Job} hub s u before v m c l.frames h l.stands x;
    }

pub record SaidSome {H Job : Type 0} (hub : Hub Job) (s : Setup) (u : Unsettled) (before : List Said) (v : Server H Job) (c : ℕ) (any : Bool)
    (out : List ℕ) (h : List ServerEvent) : Type 0 where
  pub frames : List LinkFrame
  pub due : LendsUpTo s.wire (config_of c h) (history c h) 0 frames
  pub some : any ≡ is_any frames
  pub bytes : out ≡ bytes_of s c frames h
  pub stands : Standing hub s u before v (onto (lending c frames) h)

pub said_some : {H Job : Type 0} (hub : Hub Job) (s : Setup) (u : Unsettled) (before : List Said) (v : Server H Job) (m : Machine H Job) (c : ℕ)
    (any : Bool) (old out : List ℕ) (h : List ServerEvent)
    → old ≡ [] → Standing {H = H} hub s u before v h → has_peer c h ≡ true
    → OfConn {H = H} hub v.machine c (λ w t k. old ≡ [] → LendsSome {H = H} hub m c w t k any out)
    → SaidSome {H = H} hub s u before (record v { machine = m }) c any out h
said_some {H} {Job} hub s u before v m c any old out h none x there of =
    let o : IsOne s c h = is_one {H = H} {Job = Job} hub s u before v c h x there in
    let l : LendsSome {H = H} hub m c (work h) o.t (moves c (work h)) any out = of (work h) o.t x.machine o.there none in
    record {
      frames = l.frames;
      due = subst (λ w. LendsUpTo w (config_of c h) (history c h) 0 l.frames) (o.begun).wire
          (subst (λ k. LendsUpTo (o.t).wire k (history c h) 0 l.frames) (sym (config_is s c h o))
          (subst (λ k. LendsUpTo (o.t).wire (o.t).config k 0 l.frames) (sym (history_is s c h o)) l.due));
      some = l.some;
      bytes = l.bytes ∙ bytes_by s c h l.frames o;
      stands = standing_lends {H = H} {Job = Job} hub s u before v m c l.frames h l.stands x;
    }
