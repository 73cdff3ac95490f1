-- What a peer says, frame by frame, until nothing is due or a body is full.
use Rattle.std.proofs.Common.{inl, inr, ◌≡◌, ◌⊎◌, ℕ, ◌+◌, ◌-◌, ◌^◌, ◌<◌, ◌≤◌, Bool, true, false, List, [], ◌∷◌, ◌++◌, map, reverse, length, drop}
use Rattle.std.proofs.Common.{Option, Some, None, option_map, refl, sym, ap, ◌∙◌, subst, arith, append_assoc, length-drop, length-append}
use Rattle.std.proofs.Common.{if◌then◌else◌}
use Rattle.std.proofs.lemmas.List.{append-nil, map-append, reverse-append}
use Rattle.std.specs.List.{flat_map}
use Rattle.std.proofs.lemmas.List.Concat.{flat_map-append}
use Rattle.hd_delivery.specs.Frames.{LinkFrame}
use Rattle.hd_delivery.specs.Histories.{Config, EndEvent, Lent, codec_of, is_resumable, sent_messages, acked_count, most_lent, held_messages}
use Rattle.hd_delivery.specs.HistoryLaws.{FactsHold}
use Rattle.hd_delivery.specs.Due.{due}
use Rattle.hd_delivery.specs.Bytes.{Wire, ByteStep, Does as Step_of, spelling_of}
use Rattle.hd_delivery.specs.OneHistory.{IsHistory}
use Rattle.hd_delivery.specs.Following.{Follow}
use Rattle.hd_delivery.specs.Alone.{writing}
use Rattle.hd_delivery.specs.AloneLaws.{WritesFew}
use Rattle.hd_calls.specs.Hubs.{Hub}
use Rattle.hd_calls.specs.Peers.{PeerEvent, Plain, Settings, byte_steps, codec, is_shut, steps}
use Rattle.hd_server.specs.Numbers.{most_before_last}
use Rattle.hd_server.specs.Serves.{LendsAll, LendsUpTo}
use Rattle.hp_peer.specs.declared.peer.Peer.{Peer}
use Rattle.hp_peer.specs.Stands.{Stands}
use Rattle.hub_machine.specs.PeerTraffic.{SaysAll, SaysBody, SaysOne}
use Rattle.hub_machine.specs.Traffic.{is_any, lends}

-- ---- frames that are lent

-- the history after these were lent
abbrev pub lent_after : List LinkFrame → List EndEvent → List EndEvent
lent_after [] s = s
lent_after (f ∷ fs) s = lent_after fs (Lent f ∷ s)

-- each was due
abbrev pub AreDue : Config → List EndEvent → List LinkFrame → Type 0
AreDue c s [] = Unit {0}
AreDue c s (f ∷ fs) = (due c s ≡ Some f) × AreDue c (Lent f ∷ s) fs

-- how many bytes a body has after these
abbrev pub sized : Wire → Config → List EndEvent → ℕ → List LinkFrame → ℕ
sized wire c s size [] = size
sized wire c s size (f ∷ fs) = sized wire c (Lent f ∷ s) (size + length (wire.spell (codec_of c s) f)) fs

-- and it had room for each
abbrev pub HadRoom : Wire → Config → List EndEvent → ℕ → List LinkFrame → Type 0
HadRoom wire c s size [] = Unit {0}
HadRoom wire c s size (f ∷ fs) = (size ≤ most_before_last) × HadRoom wire c (Lent f ∷ s) (size + length (wire.spell (codec_of c s) f)) fs

due_more : (c : Config) (s : List EndEvent) (fs : List LinkFrame) (f : LinkFrame) → AreDue c s fs → due c (lent_after fs s) ≡ Some f
    → AreDue c s (fs ++ f ∷ [])
due_more c s [] f are next = (next, tt)
due_more c s (g ∷ fs) f are next = (are.0, due_more c (Lent g ∷ s) fs f are.1 next)

due_all : (c : Config) (s : List EndEvent) (fs : List LinkFrame) → AreDue c s fs → due c (lent_after fs s) ≡ None → LendsAll c s fs
due_all c s [] are none = none
due_all c s (g ∷ fs) are none = (are.0, due_all c (Lent g ∷ s) fs are.1 none)

after_more : (s : List EndEvent) (fs : List LinkFrame) (f : LinkFrame) → lent_after (fs ++ f ∷ []) s ≡ Lent f ∷ lent_after fs s
after_more s [] f = refl
after_more s (g ∷ fs) f = after_more (Lent g ∷ s) fs f

room_more : (wire : Wire) (c : Config) (s : List EndEvent) (size : ℕ) (fs : List LinkFrame) (f : LinkFrame) → HadRoom wire c s size fs
    → sized wire c s size fs ≤ most_before_last → HadRoom wire c s size (fs ++ f ∷ [])
room_more wire c s size [] f had room = (room, tt)
room_more wire c s size (g ∷ fs) f had room = (had.0, room_more wire c (Lent g ∷ s) (size + length (wire.spell (codec_of c s) g)) fs f had.1 room)

size_more : (wire : Wire) (c : Config) (s : List EndEvent) (size : ℕ) (fs : List LinkFrame) (f : LinkFrame)
    → sized wire c s size (fs ++ f ∷ []) ≡ sized wire c s size fs + length (wire.spell (codec_of c (lent_after fs s)) f)
size_more wire c s size [] f = refl
size_more wire c s size (g ∷ fs) f = size_more wire c (Lent g ∷ s) (size + length (wire.spell (codec_of c s) g)) fs f

up_to : (wire : Wire) (c : Config) (s : List EndEvent) (size : ℕ) (fs : List LinkFrame) → AreDue c s fs → HadRoom wire c s size fs
    → (due c (lent_after fs s) ≡ None) ⊎ (most_before_last < sized wire c s size fs) → LendsUpTo wire c s size fs
up_to wire c s size [] are had over = over
up_to wire c s size (g ∷ fs) are had over =
    (are.0, had.0, up_to wire c (Lent g ∷ s) (size + length (wire.spell (codec_of c s) g)) fs are.1 had.1 over)

any_more : (fs : List LinkFrame) (f : LinkFrame) → is_any (fs ++ f ∷ []) ≡ true
any_more [] f = refl
any_more (g ∷ fs) f = refl

lends_more : (fs : List LinkFrame) (f : LinkFrame) → lends (fs ++ f ∷ []) ≡ Plain (Step_of (Lent f)) ∷ lends fs
lends_more fs f =
    ap reverse (map-append (λ g. Plain (Step_of (Lent g))) fs (f ∷ []))
    ∙ reverse-append (map (λ g. Plain (Step_of (Lent g))) fs) (Plain (Step_of (Lent f)) ∷ [])

-- they close no end
pub shut_lends : (t : Settings) (h : List PeerEvent) (fs : List LinkFrame) → is_shut t (lends fs ++ h) ≡ is_shut t h
shut_lends t h [] = refl
shut_lends t h (f ∷ fs) =
    let step : PeerEvent = Plain (Step_of (Lent f)) in
    ap (λ ms. is_shut t (ms ++ h)) (reverse-append (step ∷ []) (map (λ g. Plain (Step_of (Lent g))) fs))
    ∙ (ap (is_shut t) (append_assoc (lends fs) (step ∷ []) h) ∙ shut_lends t (step ∷ h) fs)

spelled_more : (spell : LinkFrame → List ℕ) (fs : List LinkFrame) (f : LinkFrame) → flat_map spell (fs ++ f ∷ []) ≡ flat_map spell fs ++ spell f
spelled_more spell fs f = flat_map-append spell fs (f ∷ []) ∙ ap (λ x. flat_map spell fs ++ x) (append-nil (spell f))

-- what is told of one more
pub said_so : {H Job : Type 0} (hub : Hub Job) (t : Settings) (h : List PeerEvent) (new : Peer H Job) (before now : List ℕ) (more so : Bool) → more ≡ so
    → SaysOne {H = H} hub t h new more before now → SaysOne {H = H} hub t h new so before now
said_so {H} hub t h new before now more so is said = subst (λ b. SaysOne {H = H} hub t h new b before now) is said

-- ---- so many were said

pub record HasLent {H Job : Type 0} (hub : Hub Job) (t : Settings) (h : List PeerEvent) (new : Peer H Job) (any : Bool) (before now : List ℕ)
    (n : ℕ) : Type 0 where
  pub frames : List LinkFrame
  pub due : AreDue t.config (steps t h) frames
  pub some : any ≡ is_any frames
  pub bytes : now ≡ before ++ spelling_of t.wire (codec t h) frames
  pub stands : Stands hub t new (lends frames ++ h)
  pub after : steps t (lends frames ++ h) ≡ lent_after frames (steps t h)
  pub same_codec : codec t (lends frames ++ h) ≡ codec t h
  pub lent : List ByteStep
  pub follow : Follow (writing t.wire t.config) (byte_steps t h) lent
  pub are : byte_steps t (lends frames ++ h) ≡ lent ++ byte_steps t h
  pub many : length lent ≡ n

module _ {H Job : Type 0} (hub : Hub Job) (t : Settings) (h : List PeerEvent) (before : List ℕ) where
  pub lent_none : (p : Peer H Job) → Stands {H = H} hub t p h → HasLent {H = H} hub t h p false before before 0
  lent_none p stands = record {
    frames = [];
    due = tt;
    some = refl;
    bytes = sym (append-nil before);
    stands = stands;
    after = refl;
    same_codec = refl;
    lent = [];
    follow = tt;
    are = refl;
    many = refl;
  }

  module _ (old new : Peer H Job) (any : Bool) (mid now : List ℕ) (n : ℕ) (has : HasLent {H = H} hub t h old any before mid n) where
    abbrev x : List PeerEvent
    x = lends has.frames ++ h

    next_due : (o : Option LinkFrame) → due t.config (steps t x) ≡ o → due t.config (lent_after has.frames (steps t h)) ≡ o
    next_due o e = sym (ap (due t.config) has.after) ∙ e

    pub lent_more : SaysOne {H = H} hub t x new true mid now → HasLent {H = H} hub t h new true before now (n + 1)
    lent_more said =
        let f = said.0 in
        let all = has.frames ++ f ∷ [] in
        let step : PeerEvent = Plain (Step_of (Lent f)) in
        let ls = lends_more has.frames f in
        let spell = t.wire.spell (codec t h) in
        record {
          frames = all;
          due = due_more t.config (steps t h) has.frames f has.due (next_due (Some f) said.1);
          some = sym (any_more has.frames f);
          bytes = said.2
              ∙ (ap (λ k. mid ++ t.wire.spell k f) has.same_codec
              ∙ (ap (λ y. y ++ spell f) has.bytes
              ∙ (append_assoc before (spelling_of t.wire (codec t h) has.frames) (spell f)
              ∙ ap (λ y. before ++ y) (sym (spelled_more spell has.frames f)))));
          stands = subst (λ ms. Stands {H = H} hub t new (ms ++ h)) (sym ls) said.3;
          after = ap (λ ms. steps t (ms ++ h)) ls ∙ (ap (λ y. Lent f ∷ y) has.after ∙ sym (after_more (steps t h) has.frames f));
          same_codec = ap (λ ms. codec t (ms ++ h)) ls ∙ has.same_codec;
          lent = Step_of (Lent f) ∷ has.lent;
          follow = (has.follow, sym (ap (writing t.wire t.config) has.are) ∙ ap (option_map (λ g. Step_of (Lent g))) said.1);
          are = ap (λ ms. byte_steps t (ms ++ h)) ls ∙ ap (λ y. Step_of (Lent f) ∷ y) has.are;
          many = (let m = has.many in omega (arith, m));
        }

    -- nothing more is due
    pub lent_all : SaysOne {H = H} hub t x new false mid now → SaysAll {H = H} hub t h new any before now
    lent_all said = record {
      frames = has.frames;
      due = due_all t.config (steps t h) has.frames has.due (next_due None said.0);
      some = has.some;
      bytes = said.1 ∙ has.bytes;
      stands = said.2;
    }

-- ---- up to the size of a body

pub record HasLentUpTo {H Job : Type 0} (hub : Hub Job) (t : Settings) (h : List PeerEvent) (new : Peer H Job) (any : Bool) (now : List ℕ)
    (n : ℕ) : Type 0 where
  pub has : HasLent {H = H} hub t h new any [] now n
  pub room : HadRoom t.wire t.config (steps t h) 0 has.frames
  pub size : length now ≡ sized t.wire t.config (steps t h) 0 has.frames

module _ {H Job : Type 0} (hub : Hub Job) (t : Settings) (h : List PeerEvent) where
  pub some_none : (p : Peer H Job) (body : List ℕ) → body ≡ [] → Stands {H = H} hub t p h → HasLentUpTo {H = H} hub t h p false body 0
  unfolding lent_none
  some_none p body empty stands =
      subst (λ b. HasLentUpTo {H = H} hub t h p false b 0) (sym empty)
      (record { has = lent_none {H = H} {Job = Job} hub t h [] p stands; room = tt; size = refl })

  module _ (old new : Peer H Job) (any : Bool) (mid now : List ℕ) (n : ℕ) (up : HasLentUpTo {H = H} hub t h old any mid n) where
    pub some_more : length mid ≤ most_before_last → SaysOne {H = H} hub t (lends up.has.frames ++ h) new true mid now
        → HasLentUpTo {H = H} hub t h new true now (n + 1)
    unfolding lent_more
    some_more few said =
        let frames = up.has.frames in
        let spell = t.wire.spell (codec_of t.config (lent_after frames (steps t h))) in
        let size = up.size in
        let codecs : codec t (lends frames ++ h) ≡ codec_of t.config (lent_after frames (steps t h)) = ap (codec_of t.config) up.has.after in
        let long : length now ≡ length mid + length (spell said.0) =
        ap length said.2 ∙ (length-append mid (t.wire.spell (codec t (lends frames ++ h)) said.0)
        ∙ ap (λ k. length mid + length (t.wire.spell k said.0)) codecs) in
        record {
          has = lent_more {H = H} {Job = Job} hub t h [] old new any mid now n up.has said;
          room = room_more t.wire t.config (steps t h) 0 frames said.0 up.room (subst (λ k. k ≤ most_before_last) size few);
          size = long ∙ (ap (λ k. k + length (spell said.0)) size ∙ sym (size_more t.wire t.config (steps t h) 0 frames said.0));
        }

    pub some_all : SaysOne {H = H} hub t (lends up.has.frames ++ h) new false mid now → SaysBody {H = H} hub t h new any now
    some_all said =
        let has = up.has in
        record {
          frames = has.frames;
          due = up_to t.wire t.config (steps t h) 0 has.frames has.due up.room (inl (sym (ap (due t.config) has.after) ∙ said.0));
          some = has.some;
          bytes = said.1 ∙ has.bytes;
          stands = said.2;
        }

  -- the body is full
  pub some_full : (p : Peer H Job) (any : Bool) (now : List ℕ) (n : ℕ) → HasLentUpTo {H = H} hub t h p any now n → most_before_last < length now
      → SaysBody {H = H} hub t h p any now
  some_full p any now n up full =
      let has = up.has in
      record {
        frames = has.frames;
        due = up_to t.wire t.config (steps t h) 0 has.frames has.due up.room (inr (subst (λ k. most_before_last < k) up.size full));
        some = has.some;
        bytes = has.bytes;
        stands = has.stands;
      }

-- ---- the end

shorter : {A : Type 0} (b : Bool) (n m : ℕ) (xs : List A) → length (if b then drop n xs else drop m xs) ≤ length xs
shorter true n m xs = omega (arith, length-drop n xs)
shorter false n m xs = omega (arith, length-drop m xs)

-- what is due is less than 64 bits count
lent_few : {H Job : Type 0} (hub : Hub Job) (t : Settings) (h : List PeerEvent) (p : Peer H Job) (any : Bool) (before now : List ℕ) (n : ℕ)
    → WritesFew → FactsHold → IsHistory t.limits t.wire t.config (byte_steps t h) → HasLent {H = H} hub t h p any before now n → n < 2 ^ 64 - 1
lent_few hub t h p any before now n few facts history has =
    let k = steps t h in
    let all = few t.limits t.wire t.config (byte_steps t h) has.lent history has.follow in
    let sent = (facts t.limits t.wire t.config (byte_steps t h) history).sent_are_few in
    let held : length (held_messages t.config k) ≤ length (sent_messages k) =
    shorter (is_resumable t.config k) (acked_count k) (most_lent k) (sent_messages k) in
    let many = has.many in
    omega (arith, all, sent, held, many)

pub lent_end : {H Job : Type 0} (hub : Hub Job) (t : Settings) (h : List PeerEvent) (p : Peer H Job) (any : Bool) (before now : List ℕ) (n : ℕ)
    → WritesFew → FactsHold → IsHistory t.limits t.wire t.config (byte_steps t h) → HasLent {H = H} hub t h p any before now n → 2 ^ 64 - 1 ≤ n
    → SaysAll {H = H} hub t h p any before now
lent_end {H} {Job} hub t h p any before now n few facts history has over =
    absurd (let less = lent_few {H = H} {Job = Job} hub t h p any before now n few facts history has in omega (arith, less, over))

pub some_end : {H Job : Type 0} (hub : Hub Job) (t : Settings) (h : List PeerEvent) (p : Peer H Job) (any : Bool) (now : List ℕ) (n : ℕ)
    → WritesFew → FactsHold → IsHistory t.limits t.wire t.config (byte_steps t h) → HasLentUpTo {H = H} hub t h p any now n → 2 ^ 64 - 1 ≤ n
    → SaysBody {H = H} hub t h p any now
some_end {H} {Job} hub t h p any now n few facts history up over =
    absurd (let less = lent_few {H = H} {Job = Job} hub t h p any [] now n few facts history up.has in omega (arith, less, over))
