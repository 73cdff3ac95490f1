-- What a notice comes to at all the connections to which it goes.
use Rattle.std.proofs.Common.{◌≡◌, ◌↔◌, ℕ, Bool, true, false, not, ◌==◌, nat_eq, List, [], ◌∷◌, ◌++◌, map, Option, Some, None, is_some, if◌then◌else◌}
use Rattle.std.proofs.Common.{Result, Ok, Err, OnOk, IsTrue}
use Rattle.std.proofs.Common.{true≢false, refl, sym, ap, subst, ◌∙◌, eqb-true, eq-eqb}
use Rattle.std.proofs.lemmas.Bool.{not-true}
use Rattle.std.proofs.lemmas.Map.Keys.{IsDistinct-head, IsDistinct-tail}
use Rattle.std.specs.List.{flat_map, IsDistinct, AllByRecursion}
use Rattle.hv_value.specs.Tree.{Tree}
use Rattle.hm_message.specs.declared.message.Codec.{Codec}
use Rattle.hm_message.specs.declared.message.Message.{Message}
use Rattle.hm_message.specs.declared.message.Message.TheVariants.{Invocation}
use Rattle.hm_message.specs.Headers.{Header}
use Rattle.hm_message.specs.Message.{Fits}
use Rattle.hd_delivery.specs.declared.vocabulary.Reason.TheVariants.{Slow}
use Rattle.hd_delivery.specs.Histories.{Closed, is_shaken}
use Rattle.hd_delivery.specs.Bytes.{Does as Step_of}
use Rattle.he_end.specs.declared.errors.SendError.{SendError}
use Rattle.he_end.specs.declared.errors.SendError.TheVariants as send
use Rattle.hd_calls.specs.declared.vocabulary.Deed.{Deed}
use Rattle.hd_calls.specs.Hubs.{Hub, Invoked}
use Rattle.hd_calls.specs.Peers.{PeerEvent, Plain, Calls, Settings, is_shut, steps, codec}
use Rattle.hp_peer.specs.Calling.{IsNotice, heard}
use Rattle.hd_rooms.specs.Registry.{Lists, gone}
use Rattle.hd_server.specs.Machine.{DeliveryOutcome, Got, TooSlow, PassedOver, notifies, fate_of, fate_at, outcome_in, is_open_at, with_fate}
use Rattle.hd_server.specs.Laws.{FatesAreRefusals}
use Rattle.hub_machine.specs.declared.machine.Machine.{Machine}
use Rattle.hub_machine.specs.MachineView.{MachineView, StandsFor, AreSame, AreUp, is_up_in, without_slow, fates_in, told}
use Rattle.hub_machine.specs.Spreads.{Delivering, Sends, Answer, delivering, IsAsked, AreAsked, Spreads}
use Rattle.hub_machine.specs.Delivers.{codec_at, IsAnswered, ChangesAt, HasSent, HasSlowed, Lead, Delivers}
use Rattle.hub_machine.specs.Carrying.{NoticesOf}
use Rattle.hub_machine.proofs.Deliver.{codec_none, slowed_lists}
use Rattle.hub_machine.proofs.Fates.{said, notifying, is_notice, is_call, fate_by, read_as, sent_got, unsent_by, unasked_passed, unfit}

-- ---- dealings one after another

-- what leads from one state to another goes by a state between
lead_split : (first rest : List Delivering) (a b : MachineView) → Lead (first ++ rest) a b → (mid : MachineView) × Lead first a mid × Lead rest mid b
lead_split [] rest a b l = (a, refl, l)
lead_split (d ∷ first) rest a b l =
    let further = lead_split first rest l.0 b l.2 in
    (further.0, (l.0, l.1, further.1), further.2)

-- one alone
sent_alone : (c : ℕ) (m : Message) (refusal : Option SendError) (a b : MachineView) → Lead (Sends c m refusal ∷ []) a b → HasSent c m refusal a b
sent_alone c m refusal a b l = subst (λ x. HasSent c m refusal a x) (sym l.2) l.1

-- ---- those to which it goes

-- the connection is there, and has shaken hands
abbrev pub is_shaken_at : Option Settings → List PeerEvent → Bool
is_shaken_at None h = false
is_shaken_at (Some t) h = is_shaken (steps t h)

-- the connection is up, and has shaken hands only if it has a codec
pub record IsReady (own : ℕ → Option Codec) (a : MachineView) (c : ℕ) : Type 0 where
  pub up : is_up_in a c ≡ true
  pub unshaken : own c ≡ None → is_shaken_at (a.settings c) (a.moves c) ≡ false

-- each of these is so
abbrev pub AreReady : (ℕ → Option Codec) → MachineView → List ℕ → Type 0
AreReady own a [] = Unit {0}
AreReady own a (c ∷ cs) = IsReady own a c × AreReady own a cs

-- one that is up at a machine is ready by the codecs that the machine tells
is_ready : {H Job : Type 0} (hub : Hub Job) (m : Machine H Job) (a : MachineView) (c : ℕ) → StandsFor {H = H} hub m a → is_up_in a c ≡ true
    → IsReady (codec_at {H = H} m) a c
is_ready {H} {Job} hub m a c stands up = record { up = up; unshaken = λ none. by (a.settings c) refl none } where
  by : (o : Option Settings) → a.settings c ≡ o → codec_at {H = H} m c ≡ None → is_shaken_at (a.settings c) (a.moves c) ≡ false
  by None e none = ap (λ x. is_shaken_at x (a.moves c)) e
  by (Some t) e none = ap (λ x. is_shaken_at x (a.moves c)) e ∙ codec_none {H = H} {Job = Job} hub m a c t stands e none

-- and so are all of them
are_ready : {H Job : Type 0} (hub : Hub Job) (m : Machine H Job) (a : MachineView) (cs : List ℕ) → StandsFor {H = H} hub m a → AreUp a cs
    → AreReady (codec_at {H = H} m) a cs
are_ready hub m a [] stands up = tt
are_ready {H} {Job} hub m a (c ∷ cs) stands up = (is_ready {H = H} {Job = Job} hub m a c stands up.0, are_ready {H = H} {Job = Job} hub m a cs stands up.1)

-- ---- one of them

-- it was told as its fate has it, and nothing else was done
pub record IsTold (d : Deed) (target : List ℕ) (arguments : List Tree) (c : ℕ) (a mid : MachineView) : Type 0 where
  pub at : ChangesAt c a mid
  pub moves : mid.moves c ≡ with_fate d (a.settings c) (Some (fate_at (a.settings c) (a.moves c) target arguments)) (a.moves c)
  pub lists : mid.lists ≡ without_slow ((c, fate_at (a.settings c) (a.moves c) target arguments) ∷ []) a.lists

-- nothing changed
unchanged : (c : ℕ) (a b : MachineView) → b ≡ a → ChangesAt c a b
unchanged c a b e = record { settings = λ k. ap (λ (x : MachineView). x.settings k) e; others = λ k n. ap (λ (x : MachineView). x.moves k) e }

-- two changes at a connection are one
both_change : (c : ℕ) (a b d : MachineView) → ChangesAt c a b → ChangesAt c b d → ChangesAt c a d
both_change c a b d x y = record {
  settings = λ k. y.settings k ∙ x.settings k;
  others = λ k n. y.others k n ∙ x.others k n;
}

-- at a connection that is there and up
module _ (law : FatesAreRefusals) (d : Deed) (target : List ℕ) (arguments : List Tree) (notices : NoticesOf d target arguments)
    (fits : Fits (said target arguments)) (c : ℕ) (a mid : MachineView) (t : Settings) (there : a.settings c ≡ Some t)
    (up : is_shut t (a.moves c) ≡ false) where
  abbrev h : List PeerEvent
  h = a.moves c

  -- by its fate, where that is known
  trace_of : (f : DeliveryOutcome) → fate_of t h (read_as t h target arguments) ≡ f → ChangesAt c a mid → mid.moves c ≡ with_fate d (Some t) (Some f) h
      → mid.lists ≡ without_slow ((c, f) ∷ []) a.lists → IsTold d target arguments c a mid
  trace_of f e at moves lists =
      let is : f ≡ fate_at (a.settings c) h target arguments = sym (ap (λ o. fate_at o h target arguments) there ∙ e) in
      record {
        at = at;
        moves = moves ∙ (λ i. with_fate d (sym there i) (Some (is i)) h);
        lists = lists ∙ ap (λ x. without_slow ((c, x) ∷ []) a.lists) is;
      }

  -- what it answered, as it was begun
  as_answered : (refusal : Option SendError) (b : MachineView) → HasSent c (said target arguments) refusal a b
      → IsAnswered (Some t) (said target arguments) refusal h (b.moves c)
  as_answered refusal b s = subst (λ o. IsAnswered o (said target arguments) refusal h (b.moves c)) there s.answered

  -- it isn't asked before it has shaken hands
  told_unasked : is_shaken (steps t h) ≡ false → mid ≡ a → IsTold d target arguments c a mid
  told_unasked e same = trace_of PassedOver (unasked_passed t h target arguments e) (unchanged c a mid same)
      (ap (λ (x : MachineView). x.moves c) same) (ap (λ (x : MachineView). x.lists) same)

  -- it was sent
  told_sent : HasSent c (said target arguments) None a mid → IsTold d target arguments c a mid
  told_sent s =
      let sent = as_answered None mid s in
      trace_of Got (sent_got law t h target arguments fits up (mid.moves c) sent) s.at
      (sent.is ∙ ap (λ call. Calls None 0 (heard t h call) ∷ h) (is_call target arguments sent.call sent.notice)
      ∙ ap (λ call. notifies call h) (sym (notices (codec t h)))) s.lists

  -- it was refused, and not for want of room
  told_refused : (why : SendError) → (why ≡ send.NoMemory → ⊥) → fate_by (Some (Some why)) ≡ PassedOver
      → HasSent c (said target arguments) (Some why) a mid → IsTold d target arguments c a mid
  told_refused why memory passed s =
      let refused = as_answered (Some why) mid s in
      trace_of PassedOver (unsent_by law t h target arguments fits up why refused.0 memory ∙ passed) s.at refused.1 s.lists

  -- it was refused for want of room, and the connection closed
  told_full : (held bytes size : ℕ) (b : MachineView) → HasSent c (said target arguments) (Some (send.Full held bytes size)) a b → HasSlowed c b mid
      → IsTold d target arguments c a mid
  told_full held bytes size b s slow =
      let refused = as_answered (Some (send.Full held bytes size)) b s in
      let open_still : is_up_in b c ≡ true = (λ i. is_open_at (s.at.settings c i) (refused.1 i)) ∙ ap (λ o. is_open_at o h) there ∙ ap not up in
      trace_of TooSlow (unsent_by law t h target arguments fits up (send.Full held bytes size) refused.0 (λ e. absurd (cc)))
      (both_change c a b mid s.at slow.at)
      (slow.closed open_still ∙ ap (λ x. Plain (Step_of (Closed Slow false)) ∷ x) refused.1)
      (slowed_lists c b mid slow open_still ∙ ap (λ l. gone l c) s.lists)

  -- whatever it answered
  told_at : (x : Answer) → (x ≡ None → is_shaken (steps t h) ≡ false) → (x ≡ Some (Some send.NoMemory) → ⊥)
      → Lead (delivering (said target arguments) (c, x)) a mid
      → IsTold d target arguments c a mid
  told_at None asked memory l = told_unasked (asked refl) l
  told_at (Some None) asked memory l = told_sent (sent_alone c _ None a mid l)
  told_at (Some (Some send.Opening)) asked memory l = told_refused send.Opening (λ e. absurd (cc)) refl (sent_alone c _ _ a mid l)
  told_at (Some (Some send.Closed)) asked memory l = told_refused send.Closed (λ e. absurd (cc)) refl (sent_alone c _ _ a mid l)
  told_at (Some (Some (send.TooLong size))) asked memory l = told_refused (send.TooLong size) (λ e. absurd (cc)) refl (sent_alone c _ _ a mid l)
  told_at (Some (Some (send.Full held bytes size))) asked memory l =
      told_full held bytes size l.0 l.1 (subst (λ x. HasSlowed c l.0 x) (sym l.2.2) l.2.1)
  told_at (Some (Some send.Exhausted)) asked memory l = told_refused send.Exhausted (λ e. absurd (cc)) refl (sent_alone c _ _ a mid l)
  told_at (Some (Some send.NoMemory)) asked memory l = absurd (memory refl)

-- one that isn't asked has no codec
unspoken : (own : ℕ → Option Codec) (c : ℕ) (x : Answer) → IsAsked (own c) x → x ≡ None → own c ≡ None
unspoken own c x asked e = by (own c) (sym asked.has_codec ∙ ap is_some e) where
  by : (k : Option Codec) → is_some k ≡ false → k ≡ None
  by None f = refl
  by (Some k) f = absurd (true≢false f)

-- what it is told, if it was up, and was asked exactly if it has a codec
told_one : FatesAreRefusals → (d : Deed) (target : List ℕ) (arguments : List Tree) → NoticesOf d target arguments → Fits (said target arguments)
    → (own : ℕ → Option Codec) (c : ℕ) (x : Answer) (a mid : MachineView) → IsReady own a c → IsAsked (own c) x
    → Lead (delivering (said target arguments) (c, x)) a mid → IsTold d target arguments c a mid
told_one law d target arguments notices fits own c x a mid ready asked l = by (a.settings c) refl where
  by : (o : Option Settings) → a.settings c ≡ o → IsTold d target arguments c a mid
  by None e = absurd (true≢false (sym ready.up ∙ ap (λ o. is_open_at o (a.moves c)) e))
  by (Some t) e = told_at law d target arguments notices fits c a mid t e
      (not-true _ (sym (ap (λ o. is_open_at o (a.moves c)) e) ∙ ready.up)) x
      (λ none. sym (ap (λ o. is_shaken_at o (a.moves c)) e) ∙ ready.unshaken (unspoken own c x asked none)) asked.has_memory l

-- ---- all of them

-- the connection is none of these
abbrev pub IsApart : ℕ → List ℕ → Type 0
IsApart c cs = AllByRecursion (λ k. nat_eq c k ≡ false) cs

-- a connection is apart from another as that is from it
other_way : (k c : ℕ) → (k == c) ≡ false → (c == k) ≡ false
other_way k c e = by (c == k) refl where
  by : (b : Bool) → (c == k) ≡ b → b ≡ false
  by true f = sym (eq-eqb k c (sym (eqb-true c k f))) ∙ e
  by false f = refl

-- those that are apart from one that changed are ready as before
ready_still : (own : ℕ → Option Codec) (c : ℕ) (a mid : MachineView) (cs : List ℕ) → ChangesAt c a mid → IsApart c cs → AreReady own a cs → AreReady own mid cs
ready_still own c a mid [] at apart ready = tt
ready_still own c a mid (k ∷ cs) at apart ready = (
  record {
    up = (λ i. is_open_at (at.settings k i) (at.others k apart.0 i)) ∙ ready.0.up;
    unshaken = λ none. (λ i. is_shaken_at (at.settings k i) (at.others k apart.0 i)) ∙ ready.0.unshaken none;
  },
  ready_still own c a mid cs at apart.1 ready.1,
)

-- and their fates are the same
same_fates : (c : ℕ) (a mid : MachineView) (cs : List ℕ) (target : List ℕ) (arguments : List Tree) → ChangesAt c a mid → IsApart c cs
    → fates_in mid cs target arguments ≡ fates_in a cs target arguments
same_fates c a mid [] target arguments at apart = refl
same_fates c a mid (k ∷ cs) target arguments at apart =
    let later = same_fates c a mid cs target arguments at apart.1 in
    λ i. (k, fate_at (at.settings k i) (at.others k apart.0 i) target arguments) ∷ later i

-- one that is apart from them has no fate among theirs
no_fate : (c : ℕ) (a : MachineView) (cs : List ℕ) (target : List ℕ) (arguments : List Tree) → IsApart c cs → outcome_in c (fates_in a cs target arguments) ≡ None
no_fate c a [] target arguments apart = refl
no_fate c a (k ∷ cs) target arguments apart =
    ap (λ (b : Bool). if b then Some (fate_at (a.settings k) (a.moves k) target arguments) else outcome_in c (fates_in a cs target arguments)) apart.0
    ∙ no_fate c a cs target arguments apart.1

-- one without a fate stays as it is
with_none : (d : Deed) (o : Option Settings) (l : List PeerEvent) → with_fate d o None l ≡ l
with_none d None l = refl
with_none d (Some t) l = refl

-- the first is left out of the groups, or not, before the others
slow_first : (c : ℕ) (f : DeliveryOutcome) (fates : List (ℕ × DeliveryOutcome)) (l : Lists) → without_slow ((c, f) ∷ fates) l ≡ without_slow fates (without_slow ((c, f) ∷ []) l)
slow_first c Got fates l = refl
slow_first c TooSlow fates l = refl
slow_first c PassedOver fates l = refl

-- one was told, and the others are apart from it
module _ (d : Deed) (target : List ℕ) (arguments : List Tree) (c : ℕ) (cs : List ℕ) (a mid : MachineView) (one : IsTold d target arguments c a mid)
    (apart : IsApart c cs) where
  abbrev first : DeliveryOutcome
  first = fate_at (a.settings c) (a.moves c) target arguments

  abbrev before : List (ℕ × DeliveryOutcome)
  before = fates_in a cs target arguments

  abbrev after : List (ℕ × DeliveryOutcome)
  after = fates_in mid cs target arguments

  -- nothing came to the others
  same : after ≡ before
  same = same_fates c a mid cs target arguments one.at apart

  -- at it
  at_it : with_fate d (a.settings c) (Some first) (a.moves c) ≡ with_fate d (mid.settings c) (outcome_in c after) (mid.moves c)
  at_it = sym one.moves ∙ sym (with_none d (mid.settings c) (mid.moves c))
      ∙ ap (λ x. with_fate d (mid.settings c) x (mid.moves c)) (sym (no_fate c mid cs target arguments apart))

  -- and at each
  at_each : (k : ℕ) (b : Bool) → (k == c) ≡ b
      → with_fate d (a.settings k) (if b then Some first else outcome_in k before) (a.moves k) ≡ with_fate d (mid.settings k) (outcome_in k after) (mid.moves k)
  at_each k true e = subst (λ n. with_fate d (a.settings n) (Some first) (a.moves n) ≡ with_fate d (mid.settings n) (outcome_in n after) (mid.moves n))
      (sym (eqb-true k c e)) at_it
  at_each k false e = λ i. with_fate d (sym (one.at.settings k) i) (outcome_in k (sym same i)) (sym (one.at.others k (other_way k c e)) i)

  -- telling one and then the others is telling them all
  told_more : AreSame (told d (fates_in a (c ∷ cs) target arguments) a) (told d after mid)
  told_more = record {
    settings = λ k. sym (one.at.settings k);
    moves = λ k. at_each k (k == c) refl;
    lists = slow_first c first before a.lists ∙ (λ i. without_slow (sym same i) (sym one.lists i));
  }

-- what is the same as the same is the same
same_on : (a b c : MachineView) → AreSame a b → AreSame b c → AreSame a c
same_on a b c x y = record {
  settings = λ k. x.settings k ∙ y.settings k;
  moves = λ k. x.moves k ∙ y.moves k;
  lists = x.lists ∙ y.lists;
}

-- told nothing
told_none : (d : Deed) (a b : MachineView) → b ≡ a → AreSame (told d [] a) b
told_none d a b e = record {
  settings = λ k. ap (λ (x : MachineView). x.settings k) (sym e);
  moves = λ k. with_none d (a.settings k) (a.moves k) ∙ ap (λ (x : MachineView). x.moves k) (sym e);
  lists = ap (λ (x : MachineView). x.lists) (sym e);
}

-- the connections to which it went were told what their fates say
pub told_all : FatesAreRefusals → (d : Deed) (target : List ℕ) (arguments : List Tree) → NoticesOf d target arguments → Fits (said target arguments)
    → (own : ℕ → Option Codec) (answers : List (ℕ × Answer)) (a b : MachineView) → IsDistinct nat_eq (map (λ x. x.0) answers)
    → AreReady own a (map (λ x. x.0) answers) → AreAsked own answers → Lead (flat_map (delivering (said target arguments)) answers) a b
    → AreSame (told d (fates_in a (map (λ x. x.0) answers) target arguments) a) b
told_all law d target arguments notices fits own [] a b distinct ready asked l = told_none d a b l
told_all law d target arguments notices fits own (x ∷ xs) a b distinct ready asked l =
    let m = said target arguments in
    let cs : List ℕ = map (λ x. x.0) xs in
    let parts = lead_split (delivering m x) (flat_map (delivering m) xs) a b l in
    let mid = parts.0 in
    let apart = IsDistinct-head nat_eq x.0 cs distinct in
    let one = told_one law d target arguments notices fits own x.0 x.1 a mid ready.0 asked.0 parts.1 in
    same_on _ _ _ (told_more d target arguments x.0 cs a mid one apart)
    (told_all law d target arguments notices fits own xs mid b (IsDistinct-tail nat_eq x.0 cs distinct)
    (ready_still own x.0 a mid cs one.at apart ready.1) asked.1 parts.2)

-- ---- what doesn't fit

-- all are passed over
abbrev pub ArePassed : List (ℕ × DeliveryOutcome) → Type 0
ArePassed [] = Unit {0}
ArePassed (f ∷ fs) = (f.1 ≡ PassedOver) × ArePassed fs

-- one that is passed over stays as it is
with_passed : (d : Deed) (o : Option Settings) (l : List PeerEvent) → with_fate d o (Some PassedOver) l ≡ l
with_passed d None l = refl
with_passed d (Some t) l = refl

-- so do all, if all are passed over
passed_moves : (d : Deed) (fates : List (ℕ × DeliveryOutcome)) → ArePassed fates → (k : ℕ) (o : Option Settings) (l : List PeerEvent) → with_fate d o (outcome_in k fates) l ≡ l
passed_moves d [] passed k o l = with_none d o l
passed_moves d (f ∷ fs) passed k o l = by (k == f.0) (passed_moves d fs passed.1 k o l) where
  by : (b : Bool) → with_fate d o (outcome_in k fs) l ≡ l → with_fate d o (if b then Some f.1 else outcome_in k fs) l ≡ l
  by true e = ap (λ x. with_fate d o (Some x) l) passed.0 ∙ with_passed d o l
  by false e = e

-- and who is in which group
passed_lists : (fates : List (ℕ × DeliveryOutcome)) → ArePassed fates → (l : Lists) → without_slow fates l ≡ l
passed_lists [] passed l = refl
passed_lists (f ∷ fs) passed l = ap (λ x. without_slow ((f.0, x) ∷ fs) l) passed.0 ∙ passed_lists fs passed.1 l

-- what doesn't fit passes all of them over
all_passed : (a : MachineView) (cs : List ℕ) (target : List ℕ) (arguments : List Tree) → (Fits (said target arguments) → ⊥)
    → ArePassed (fates_in a cs target arguments)
all_passed a [] target arguments deep = tt
all_passed a (c ∷ cs) target arguments deep = (by (a.settings c), all_passed a cs target arguments deep) where
  by : (o : Option Settings) → fate_at o (a.moves c) target arguments ≡ PassedOver
  by None = refl
  by (Some t) = unfit t (a.moves c) target arguments deep

-- what doesn't fit is told to nobody
pub told_nobody : (d : Deed) (target : List ℕ) (arguments : List Tree) (a : MachineView) (cs : List ℕ) → (Fits (said target arguments) → ⊥)
    → AreSame (told d (fates_in a cs target arguments) a) a
told_nobody d target arguments a cs deep =
    let passed = all_passed a cs target arguments deep in
    record {
      settings = λ k. refl;
      moves = λ k. passed_moves d (fates_in a cs target arguments) passed k (a.settings k) (a.moves k);
      lists = passed_lists (fates_in a cs target arguments) passed a.lists;
    }

-- ---- what is done with a machine

-- a message that goes to these connections of a machine tells them so
abbrev pub Tells : {H Job : Type 0} → Hub Job → Machine H Job → Machine H Job → List ℕ → List ℕ → List Tree → Type 0
Tells hub old new to target arguments = (a : MachineView) (d : Deed) → NoticesOf d target arguments → AreUp a to → StandsFor hub old a
    → (b : MachineView) × AreSame (told d (fates_in a to target arguments) a) b × StandsFor hub new b

-- it has gone to them
abbrev pub HasSpread : {H Job : Type 0} → Hub Job → Machine H Job → Machine H Job → List ℕ → Message → Type 0
HasSpread {H} {Job} hub old new to m = (s : Machine H Job) (before : List Delivering) → Delivers hub s before old
    → (after : List Delivering) × Spreads (codec_at {H = H} old) to m before after × Delivers hub s after new

-- what is said, however it was made
pub is_said : (headers : List Header) (streams : List (List ℕ)) (target : List ℕ) (arguments : List Tree) → headers ≡ [] → streams ≡ []
    → Invocation headers None target arguments streams ≡ said target arguments
is_said headers streams target arguments e f = λ i. Invocation (e i) None target arguments (f i)

-- it is a notice
pub noticed : (m : Message) (target : List ℕ) (arguments : List Tree) → m ≡ said target arguments → (call : Invoked) × IsNotice m call
noticed m target arguments e = (notifying target arguments, subst (λ x. IsNotice x (notifying target arguments)) (sym e) (is_notice target arguments))

-- what doesn't fit is told to nobody, and the machine stays
pub tells_nobody : {H Job : Type 0} (hub : Hub Job) (machine : Machine H Job) (to target : List ℕ) (arguments : List Tree) (m : Message) (b : Bool)
    → m ≡ said target arguments → (IsTrue b ↔ Fits m) → b ≡ false → Tells {H = H} {Job = Job} hub machine machine to target arguments
tells_nobody hub machine to target arguments m b e fits is a d notices up stands =
    (a, told_nobody d target arguments a to (λ f. true≢false (sym (fits.1 (subst (λ x. Fits x) (sym e) f)) ∙ is)), stands)

-- what fits is told to all of them
pub tells_all : {H Job : Type 0} (hub : Hub Job) (old new : Machine H Job) (to target : List ℕ) (arguments : List Tree) (m : Message) (b : Bool)
    → FatesAreRefusals → IsDistinct nat_eq to → m ≡ said target arguments → (IsTrue b ↔ Fits m) → b ≡ true
    → HasSpread {H = H} {Job = Job} hub old new to m → Tells {H = H} {Job = Job} hub old new to target arguments
tells_all {H} {Job} hub old new to target arguments m b law distinct e fits is spreads a d notices up stands =
    let s = spreads old [] (λ x f. (x, refl, f), refl) in
    let led = s.2.0 a stands in
    let cs : List ℕ = map (λ x. x.0) s.1.answers in
    let lead : Lead (flat_map (delivering (said target arguments)) s.1.answers) a led.0 =
    subst (λ x. Lead (flat_map (delivering x) s.1.answers) a led.0) e (subst (λ ds. Lead ds a led.0) s.1.dealt led.1) in
    let ready : AreReady (codec_at {H = H} old) a cs =
    subst (λ ks. AreReady (codec_at {H = H} old) a ks) (sym s.1.of_each) (are_ready {H = H} {Job = Job} hub old a to stands up) in
    let all : AreSame (told d (fates_in a cs target arguments) a) led.0 =
    told_all law d target arguments notices (subst (λ x. Fits x) e (fits.0 is)) (codec_at {H = H} old) s.1.answers a led.0
    (subst (λ ks. IsDistinct nat_eq ks) (sym s.1.of_each) distinct) ready s.1.asked lead in
    (led.0, subst (λ ks. AreSame (told d (fates_in a ks target arguments) a) led.0) s.1.of_each all, led.2)

-- and no time passed
pub no_time : {H Job : Type 0} (hub : Hub Job) (old new : Machine H Job) (to : List ℕ) (m : Message) → HasSpread {H = H} {Job = Job} hub old new to m
    → new.idle_set.clock ≡ old.idle_set.clock
no_time hub old new to m spreads = (spreads old [] (λ x f. (x, refl, f), refl)).2.1

-- what follows from what holds if it went well
pub on_ok : {T E P Q : Type 0} (result : Result T E) → (P → Q) → OnOk result P → OnOk result Q
on_ok (Ok v) f p = f p
on_ok (Err e) f p = tt
