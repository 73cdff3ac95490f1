-- What the client's peer says, frame by frame, until nothing is due.
use Rattle.std.proofs.Common.{◌≡◌, ℕ, ◌+◌, ◌-◌, ◌^◌, ◌≤◌, Bool, true, false, List, [], ◌∷◌, ◌++◌, map, reverse, length, drop}
use Rattle.std.proofs.Common.{Option, Some, None, option_map, refl, sym, ap, ◌∙◌, subst, arith, append_assoc, length-drop, if◌then◌else◌}
use Rattle.std.proofs.lemmas.List.{append-nil, map-append, reverse-append}
use Rattle.std.specs.List.{flat_map}
use Rattle.std.proofs.lemmas.List.Concat.{flat_map-append}
use Rattle.hm_message.specs.declared.message.Ending.{Ending}
use Rattle.hd_delivery.specs.Frames.{LinkFrame}
use Rattle.hd_delivery.specs.Histories.{Config, EndEvent, Lent, is_resumable, sent_messages, acked_count, most_lent, held_messages}
use Rattle.hd_delivery.specs.HistoryLaws.{FactsHold}
use Rattle.hd_delivery.specs.Due.{due}
use Rattle.hd_delivery.specs.Bytes.{ByteStep, Does as Step_of, spelling_of}
use Rattle.hd_delivery.specs.OneHistory.{IsHistory}
use Rattle.hd_delivery.specs.Following.{Follow}
use Rattle.hd_delivery.specs.Alone.{writing}
use Rattle.hd_delivery.specs.AloneLaws.{WritesFew}
use Rattle.hd_calls.specs.Peers.{PeerEvent, Plain, Settings, byte_steps, codec, steps}
use Rattle.hd_server.specs.Serves.{LendsAll}
use Rattle.hp_peer.specs.declared.peer.Peer.{Peer}
use Rattle.hp_peer.specs.Lending.{HasLent as PeerLends}
use Rattle.hub_calc.specs.declared.client.ClientHub.{ClientHub}
use Rattle.hub_calc.specs.Client.{client_hub}
use Rattle.sr_client.specs.declared.peer.ClientPeer.{ClientPeer}
use Rattle.sr_client.specs.Lines.{json_words, lines_of}
use Rattle.sr_client.specs.Peers.{Plays, SaysAll, is_any, lends}
use Rattle.sr_client.specs.Taking.{SaysOne}
use Rattle.sr_client.proofs.Chains.{with_peer}
use Rattle.sr_client.proofs.Quiet.{SameLinks, plays_quiet, quiet_move, same_move, same_none, same_then, stays_there}

-- ---- one frame

module _ (t : Settings) (h : List PeerEvent) (p : ClientPeer) (plays : Plays t p h) (x : Peer ClientHub Ending) where
  -- nothing was due
  quiet : (o : Option LinkFrame) → o ≡ due t.config (steps t h) → (before : List ℕ) → None ≡ option_map (t.wire.spell (codec t h)) o
      → PeerLends client_hub t h x o → SaysOne t h (with_peer p x) false before before
  quiet None e before none lent = (
    sym e,
    refl,
    record {
      on = record { stands = lent; side = plays.on.side; linked = plays.on.linked; links = plays.on.links; handled = plays.on.handled };
      taken = plays.taken;
    },
  )
  quiet (Some f) e before none lent = absurd (cc)

  -- the frame that was due was said
  said : (o : Option LinkFrame) → o ≡ due t.config (steps t h) → (before bytes now : List ℕ) → now ≡ before ++ bytes
      → Some bytes ≡ option_map (t.wire.spell (codec t h)) o → PeerLends client_hub t h x o → SaysOne t h (with_peer p x) true before now
  said None e before bytes now appended some lent = absurd (cc)
  said (Some f) e before bytes now appended some lent =
      let text : bytes ≡ t.wire.spell (codec t h) f = cc in
      let step : PeerEvent = Plain (Step_of (Lent f)) in (
        f,
        sym e,
        appended ∙ ap (λ b. before ++ b) text,
        plays_quiet t p (with_peer p x) h (step ∷ h) plays lent refl (quiet_move t step h refl),
      )

  pub says_none : (before : List ℕ) → None ≡ option_map (t.wire.spell (codec t h)) (due t.config (steps t h))
      → PeerLends client_hub t h x (due t.config (steps t h)) → SaysOne t h (with_peer p x) false before before
  says_none before none lent = quiet (due t.config (steps t h)) refl before none lent

  pub says_one : (before bytes now : List ℕ) → now ≡ before ++ bytes
      → Some bytes ≡ option_map (t.wire.spell (codec t h)) (due t.config (steps t h)) → PeerLends client_hub t h x (due t.config (steps t h))
      → SaysOne t h (with_peer p x) true before now
  says_one before bytes now appended some lent = said (due t.config (steps t h)) refl before bytes now appended some lent

-- what is told of one more
pub said_so : (t : Settings) (h : List PeerEvent) (new : ClientPeer) (before now : List ℕ) (more so : Bool) → more ≡ so
    → SaysOne t h new more before now → SaysOne t h new so before now
said_so t h new before now more so is said = subst (λ b. SaysOne t h new b before now) is said

-- ---- frames that are lent

-- the history after these were lent
abbrev pub lent_after : List LinkFrame → List EndEvent → List EndEvent
lent_after [] s = s
lent_after (f ∷ fs) s = lent_after fs (Lent f ∷ s)

-- each was due
abbrev pub AreDue : Config → List EndEvent → List LinkFrame → Type 0
AreDue c s [] = Unit {0}
AreDue c s (f ∷ fs) = (due c s ≡ Some f) × AreDue c (Lent f ∷ s) fs

due_more : (c : Config) (s : List EndEvent) (fs : List LinkFrame) (f : LinkFrame) → AreDue c s fs → due c (lent_after fs s) ≡ Some f
    → AreDue c s (fs ++ f ∷ [])
due_more c s [] f are next = (next, tt)
due_more c s (g ∷ fs) f are next = (are.0, due_more c (Lent g ∷ s) fs f are.1 next)

due_all : (c : Config) (s : List EndEvent) (fs : List LinkFrame) → AreDue c s fs → due c (lent_after fs s) ≡ None → LendsAll c s fs
due_all c s [] are none = none
due_all c s (g ∷ fs) are none = (are.0, due_all c (Lent g ∷ s) fs are.1 none)

after_more : (s : List EndEvent) (fs : List LinkFrame) (f : LinkFrame) → lent_after (fs ++ f ∷ []) s ≡ Lent f ∷ lent_after fs s
after_more s [] f = refl
after_more s (g ∷ fs) f = after_more (Lent g ∷ s) fs f

any_more : (fs : List LinkFrame) (f : LinkFrame) → is_any (fs ++ f ∷ []) ≡ true
any_more [] f = refl
any_more (g ∷ fs) f = refl

lends_more : (fs : List LinkFrame) (f : LinkFrame) → lends (fs ++ f ∷ []) ≡ Plain (Step_of (Lent f)) ∷ lends fs
lends_more fs f =
    ap reverse (map-append (λ g. Plain (Step_of (Lent g))) fs (f ∷ []))
    ∙ reverse-append (map (λ g. Plain (Step_of (Lent g))) fs) (Plain (Step_of (Lent f)) ∷ [])

spelled_more : (spell : LinkFrame → List ℕ) (fs : List LinkFrame) (f : LinkFrame) → flat_map spell (fs ++ f ∷ []) ≡ flat_map spell fs ++ spell f
spelled_more spell fs f = flat_map-append spell fs (f ∷ []) ∙ ap (λ x. flat_map spell fs ++ x) (append-nil (spell f))

-- ---- so many were said

pub record HasLent (t : Settings) (h : List PeerEvent) (new : ClientPeer) (any : Bool) (before now : List ℕ) (n : ℕ) : Type 0 where
  pub frames : List LinkFrame
  pub due : AreDue t.config (steps t h) frames
  pub some : any ≡ is_any frames
  pub bytes : now ≡ before ++ spelling_of t.wire (codec t h) frames
  pub plays : Plays t new (lends frames ++ h)
  pub same : SameLinks (steps t (lends frames ++ h)) (steps t h)
  pub silent : lines_of json_words t (lends frames) h ≡ []
  pub after : steps t (lends frames ++ h) ≡ lent_after frames (steps t h)
  pub same_codec : codec t (lends frames ++ h) ≡ codec t h
  pub lent : List ByteStep
  pub follow : Follow (writing t.wire t.config) (byte_steps t h) lent
  pub are : byte_steps t (lends frames ++ h) ≡ lent ++ byte_steps t h
  pub many : length lent ≡ n

module _ (t : Settings) (h : List PeerEvent) (before : List ℕ) where
  pub lent_none : (p : ClientPeer) → Plays t p h → HasLent t h p false before before 0
  lent_none p plays = record {
    frames = [];
    due = tt;
    some = refl;
    bytes = sym (append-nil before);
    plays = plays;
    same = same_none (steps t h);
    silent = refl;
    after = refl;
    same_codec = refl;
    lent = [];
    follow = tt;
    are = refl;
    many = refl;
  }

  module _ (old new : ClientPeer) (any : Bool) (mid now : List ℕ) (n : ℕ) (has : HasLent t h old any before mid n) where
    abbrev x : List PeerEvent
    x = lends has.frames ++ h

    next_due : (o : Option LinkFrame) → due t.config (steps t x) ≡ o → due t.config (lent_after has.frames (steps t h)) ≡ o
    next_due o e = sym (ap (due t.config) has.after) ∙ e

    pub lent_more : SaysOne t x new true mid now → HasLent t h new true before now (n + 1)
    lent_more said =
        let f = said.0 in
        let all = has.frames ++ f ∷ [] in
        let step : PeerEvent = Plain (Step_of (Lent f)) in
        let ls = lends_more has.frames f in
        let spell = t.wire.spell (codec t h) in
        record {
          frames = all;
          due = due_more t.config (steps t h) has.frames f has.due (next_due (Some f) said.1);
          some = sym (any_more has.frames f);
          bytes = said.2
              ∙ (ap (λ k. mid ++ t.wire.spell k f) has.same_codec
              ∙ (ap (λ y. y ++ spell f) has.bytes
              ∙ (append_assoc before (spelling_of t.wire (codec t h) has.frames) (spell f)
              ∙ ap (λ y. before ++ y) (sym (spelled_more spell has.frames f)))));
          plays = subst (λ ms. Plays t new (ms ++ h)) (sym ls) said.3;
          same = subst (λ ms. SameLinks (steps t (ms ++ h)) (steps t h)) (sym ls)
              (same_then (steps t (step ∷ x)) (steps t x) (steps t h) (same_move t step x refl) has.same);
          silent = ap (λ ms. lines_of json_words t ms h) ls ∙ (append-nil (lines_of json_words t (lends has.frames) h) ∙ has.silent);
          after = ap (λ ms. steps t (ms ++ h)) ls ∙ (ap (λ y. Lent f ∷ y) has.after ∙ sym (after_more (steps t h) has.frames f));
          same_codec = ap (λ ms. codec t (ms ++ h)) ls ∙ has.same_codec;
          lent = Step_of (Lent f) ∷ has.lent;
          follow = (has.follow, sym (ap (writing t.wire t.config) has.are) ∙ ap (option_map (λ g. Step_of (Lent g))) said.1);
          are = ap (λ ms. byte_steps t (ms ++ h)) ls ∙ ap (λ y. Step_of (Lent f) ∷ y) has.are;
          many = (let m = has.many in omega (arith, m));
        }

    -- nothing more is due
    pub lent_all : SaysOne t x new false mid now → SaysAll t h new any before now
    lent_all said = record {
      frames = has.frames;
      due = due_all t.config (steps t h) has.frames has.due (next_due None said.0);
      some = has.some;
      bytes = said.1 ∙ has.bytes;
      stays = stays_there t h x has.same;
      silent = has.silent;
      plays = said.2;
    }

-- ---- the end

shorter : {A : Type 0} (b : Bool) (n m : ℕ) (xs : List A) → length (if b then drop n xs else drop m xs) ≤ length xs
shorter true n m xs = omega (arith, length-drop n xs)
shorter false n m xs = omega (arith, length-drop m xs)

-- what is due is less than 64 bits count
pub lent_end : (t : Settings) (h : List PeerEvent) (p : ClientPeer) (any : Bool) (before now : List ℕ) (n : ℕ)
    → WritesFew → FactsHold → IsHistory t.limits t.wire t.config (byte_steps t h) → HasLent t h p any before now n → 2 ^ 64 - 1 ≤ n
    → SaysAll t h p any before now
lent_end t h p any before now n few facts history has over =
    let k = steps t h in
    let all = few t.limits t.wire t.config (byte_steps t h) has.lent history has.follow in
    let sent = (facts t.limits t.wire t.config (byte_steps t h) history).sent_are_few in
    let held : length (held_messages t.config k) ≤ length (sent_messages k) =
    shorter (is_resumable t.config k) (acked_count k) (most_lent k) (sent_messages k) in
    let many = has.many in
    absurd (omega (arith, all, sent, held, many, over))
