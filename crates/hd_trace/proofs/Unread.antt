-- How many bytes are unread, by numbers: each frame that an end was fed has as many bytes as the other end spelled it in. For a world is the same with
-- readers that stop at a frame of another size.
use Rattle.std.proofs.Common.{inl, inr, ⊎_elim, ◌≡◌, ℕ, zero, suc, ◌+◌, ◌-◌, ◌<◌, ◌≤◌, true, false, List, [], ◌∷◌, ◌++◌, length, take, drop, Some, refl, sym, ap, ◌∙◌, subst, arith, length-drop}
use Rattle.std.proofs.lemmas.List.{append_cancel_left}
use Rattle.std.specs.Prelude.{◌⊎◌, nat_le, sum_by, Contains, if◌then◌else◌}
use Rattle.std.proofs.lemmas.Bool.{eq-eqb}
use Rattle.std.proofs.lemmas.Bool.Decides.{leb_tells}
use Rattle.std.proofs.lemmas.List.Elements.{Contains-append_left, Contains-append_right, Contains-append_cases}
use Rattle.std.proofs.lemmas.List.Sums.{sum_by-cons}
use Rattle.hm_message.specs.declared.message.Codec.{Codec}
use Rattle.hm_message.specs.declared.message.Message.{Message}
use Rattle.hd_facts.specs.Prefixes.{IsPrefix}
use Rattle.hd_delivery.specs.declared.vocabulary.Side.{Side}
use Rattle.hd_delivery.specs.declared.vocabulary.Side.TheVariants.{Client, Server}
use Rattle.hd_delivery.specs.Frames.{LinkFrame}
use Rattle.hd_delivery.specs.Histories.{EndEvent, Attached, Detached, Fed, Took, Failed, Sent, Lent, Ticked, Silenced, Closed, Config, is_this, present_link, first_link, fed_frames, lent_frames, taken_count, sent_messages, codec_of, is_closed}
use Rattle.hd_delivery.specs.Worlds.{Limits, Allowed, Terms, config, Event, ByClient, ByServer, alike, client_of, server_of}
use Rattle.hd_delivery.specs.Bytes.{Wire, sizes_of, IsFaithful, IsSoundWire, cut, frames, ByteStep, Bytes, Does, bare_steps, bytes_on, in_frames, new_frames, spelling_of, read_count, unread_count, cut_by, cut_all, codec_after, AllowedOverBytes, IsWorldOverBytes}
use Rattle.hd_delivery.specs.OneHistory.{IsHistory}
use Rattle.hd_delivery.specs.Laws.{whole_frames, AreWholeFrames, FedIsCut, FedIsUnseen, FedIsWhole}
use Rattle.hd_delivery.specs.HistoryLaws.{FactsHold, HistoriesAreInOrder, StandsThere, UnreadGrows, WorldsAreHistories}
use Rattle.hd_trace.specs.ByNumbers.{UnreadByNumbers}
use Rattle.hd_trace.proofs.Strict.{size_of, strict, strict_sound, strict_faithful, Agree, cuts_agree, sizes_add_up}

-- ---- lists

-- of frames that lie within some bytes, so many lie within them
abbrev LiesWithin : (LinkFrame → List ℕ) → List LinkFrame → ℕ → ℕ → Type 0
LiesWithin spell fs bytes n = (take n (whole_frames spell fs bytes) ≡ take n fs) × (sum_by (λ f. length (spell f)) (take n fs) ≤ bytes)

one_more : (spell : LinkFrame → List ℕ) (f : LinkFrame) (fs : List LinkFrame) (bytes n : ℕ) → suc n ≤ length (whole_frames spell (f ∷ fs) bytes)
    → (n ≤ length (whole_frames spell fs (bytes - length (spell f))) → LiesWithin spell fs (bytes - length (spell f)) n) → LiesWithin spell (f ∷ fs) bytes (suc n)
one_more spell f fs bytes n h others = go (leb_tells (length (spell f)) bytes) h
  where
    go : ((nat_le (length (spell f)) bytes ≡ true) × (length (spell f) ≤ bytes)) ⊎ ((nat_le (length (spell f)) bytes ≡ false) × (bytes < length (spell f)))
        → suc n ≤ length (if nat_le (length (spell f)) bytes then f ∷ whole_frames spell fs (bytes - length (spell f)) else [])
        → (take (suc n) (if nat_le (length (spell f)) bytes then f ∷ whole_frames spell fs (bytes - length (spell f)) else []) ≡ take (suc n) (f ∷ fs))
        × (sum_by (λ f. length (spell f)) (take (suc n) (f ∷ fs)) ≤ bytes)
    go (inl t) h =
        let k : suc n ≤ length (f ∷ whole_frames spell fs (bytes - length (spell f))) = (rw t.0 at h) in
        let r = others (omega (arith, k)) in
        let sums = sum_by-cons (λ f. length (spell f)) f (take n fs) in
        let rest = r.1 in
        let first = t.1 in
        rw t.0 (ap (λ gs. f ∷ gs) r.0, omega (arith, sums, rest, first))
    go (inr t) h = let k : suc n ≤ 0 = (rw t.0 at h) in absurd (omega (arith, k))

lies_within : (spell : LinkFrame → List ℕ) (fs : List LinkFrame) (bytes n : ℕ) → n ≤ length (whole_frames spell fs bytes) → LiesWithin spell fs bytes n
lies_within spell fs bytes zero h = (refl, omega arith)
lies_within spell [] bytes (suc n) h = absurd (omega (arith, h))
lies_within spell (f ∷ fs) bytes (suc n) h = one_more spell f fs bytes n h (λ k. lies_within spell fs (bytes - length (spell f)) n k)

-- ---- one end

fed_there : (l : ℕ) (k : List EndEvent) (new : List LinkFrame) → present_link k ≡ Some l → fed_frames l (Fed new ∷ k) ≡ fed_frames l k ++ new
fed_there l k new at = ap (λ o. if is_this l o then fed_frames l k ++ new else fed_frames l k) at ∙ ap (λ b. if b then fed_frames l k ++ new else fed_frames l k) (eq-eqb l l refl)

-- cuts depend on the first link and the codec alone
cut_alike : (wire : Wire) (c : Config) (k j : List EndEvent) (l : ℕ) (bytes : List ℕ) → first_link k ≡ first_link j → codec_of c k ≡ codec_of c j → cut wire c k l bytes ≡ cut wire c j l bytes
cut_alike wire c k j l bytes first codec =
    ap (λ o. if is_this l o then cut_by (wire.first c.side bytes) 0 bytes (λ f at rest. cut_all (wire.later (codec_after c.codec f)) (length rest) at rest) else cut_all (wire.later (codec_of c k)) (length bytes) 0 bytes) first
    ∙ ap (λ own. if is_this l (first_link j) then cut_by (wire.first c.side bytes) 0 bytes (λ f at rest. cut_all (wire.later (codec_after c.codec f)) (length rest) at rest) else cut_all (wire.later own) (length bytes) 0 bytes) codec

module _ (is_cut : FedIsCut) (unseen : FedIsUnseen) (order : HistoriesAreInOrder) (grows : UnreadGrows) (limits : Limits) (wire : Wire) (codec : Codec) (sound : IsSoundWire limits wire)
    (c : Config) (h : List ByteStep) (own : IsHistory limits wire c h) (strict_own : IsHistory limits (strict wire codec) c h) (same : in_frames (strict wire codec) c h ≡ in_frames wire c h) where
  abbrev k : List EndEvent
  k = in_frames wire c h

  agree : (l : ℕ) → Agree wire codec (cut (strict wire codec) c k l (bytes_on l h)) (cut wire c k l (bytes_on l h))
  agree l = cuts_agree wire codec limits sound c k l (bytes_on l h) (sym strict_fed ∙ is_cut limits wire c h l sound (order limits wire c h own))
    where
      strict_fed : fed_frames l k ≡ frames (cut (strict wire codec) c k l (bytes_on l h))
      strict_fed = subst (λ k. fed_frames l k ≡ frames (cut (strict wire codec) c k l (bytes_on l h))) same
          (is_cut limits (strict wire codec) c h l (strict_sound wire codec limits sound) (order limits (strict wire codec) c h strict_own))

  bare_cut : (w : Wire) (l : ℕ) → cut w c (bare_steps h) l (bytes_on l h) ≡ cut w c k l (bytes_on l h)
  bare_cut w l = let seen = unseen wire c h in cut_alike w c (bare_steps h) k l (bytes_on l h) (sym seen.first) (sym seen.codec)

  read_too : (l : ℕ) → read_count (strict wire codec) c l h ≡ read_count wire c l h
  read_too l = ap (λ cuts. sum_by (λ x. x.1) (take (taken_count l (bare_steps h)) cuts)) (bare_cut (strict wire codec) l ∙ ((agree l).1 ∙ sym (bare_cut wire l)))

  stands : (l : ℕ) → present_link k ≡ Some l → StandsThere limits wire c h l
  stands l at = record { sound = sound; is_history = own; here = at }

  strict_stands : (l : ℕ) → present_link k ≡ Some l → StandsThere limits (strict wire codec) c h l
  strict_stands l at = record { sound = strict_sound wire codec limits sound; is_history = strict_own; here = ap present_link same ∙ at }

  pub unread_too : (l : ℕ) (piece : List ℕ) → present_link k ≡ Some l → unread_count (strict wire codec) c l (Bytes piece ∷ h) ≡ unread_count wire c l (Bytes piece ∷ h)
  unread_too l piece at = ap length ((grows limits (strict wire codec) c h l piece (strict_stands l at)).0
      ∙ (ap (λ n. drop n (bytes_on l h) ++ piece) (read_too l) ∙ sym (grows limits wire c h l piece (stands l at)).0))

  pub read_is : (l : ℕ) (fs : List LinkFrame) → fed_frames l k ≡ whole_frames (wire.spell codec) fs (length (bytes_on l h)) → taken_count l k ≤ length (fed_frames l k)
      → unread_count wire c l h + sum_by (λ f. length (wire.spell codec f)) (take (taken_count l k) fs) ≡ length (bytes_on l h)
  read_is l fs whole few =
      let long = ap length whole in
      let w = lies_within (wire.spell codec) fs (length (bytes_on l h)) (taken_count l k) (omega (arith, long, few)) in
      let counts : read_count wire c l h ≡ sum_by (λ f. length (wire.spell codec f)) (take (taken_count l k) fs) =
      ap (λ n. sum_by (λ x. x.1) (take n (cut wire c (bare_steps h) l (bytes_on l h)))) (sym ((unseen wire c h).takes l))
      ∙ (ap (λ cuts. sum_by (λ x. x.1) (take (taken_count l k) cuts)) (bare_cut wire l)
      ∙ (sizes_add_up wire codec (taken_count l k) (cut wire c k l (bytes_on l h)) (agree l).0
      ∙ ap (sum_by (size_of wire codec)) (ap (take (taken_count l k)) (sym (is_cut limits wire c h l sound (order limits wire c h own)) ∙ whole) ∙ w.0))) in
      let least = w.1 in
      let rest = length-drop (read_count wire c l h) (bytes_on l h) in
      omega (arith, counts, least, rest)

-- ---- two ends

-- where a piece makes as many frames whole, the histories in frames are the same
completes : (terms : Terms) (wire : Wire) (c oc : Config) (h o : List ByteStep) (piece : List ℕ) (l : ℕ)
    → in_frames (strict wire terms.codec) c h ≡ in_frames wire c h → in_frames (strict wire terms.codec) oc o ≡ in_frames wire oc o → present_link (in_frames wire c h) ≡ Some l
    → AreWholeFrames (strict wire terms.codec) terms c (Bytes piece ∷ h) o oc → AreWholeFrames wire terms c (Bytes piece ∷ h) o oc
    → in_frames (strict wire terms.codec) c (Bytes piece ∷ h) ≡ in_frames wire c (Bytes piece ∷ h)
completes terms wire c oc h o piece l same same_other at strict_whole whole =
    ap (λ new. Fed new ∷ in_frames (strict wire terms.codec) c h) (append_cancel_left (fed_frames l (in_frames wire c h)) strict_new new joined)
    ∙ ap (λ k. Fed new ∷ k) same
  where
    new : List LinkFrame
    new = new_frames wire c h (in_frames wire c h) (present_link (in_frames wire c h)) piece

    strict_new : List LinkFrame
    strict_new = new_frames (strict wire terms.codec) c h (in_frames (strict wire terms.codec) c h) (present_link (in_frames (strict wire terms.codec) c h)) piece

    strict_at : present_link (in_frames (strict wire terms.codec) c h) ≡ Some l
    strict_at = ap present_link same ∙ at

    joined : fed_frames l (in_frames wire c h) ++ strict_new ≡ fed_frames l (in_frames wire c h) ++ new
    joined = ap (λ k. fed_frames l k ++ strict_new) (sym same)
        ∙ (sym (fed_there l (in_frames (strict wire terms.codec) c h) strict_new strict_at)
        ∙ (strict_whole l strict_at
        ∙ (ap (λ k. whole_frames (wire.spell terms.codec) (lent_frames l k) (length (bytes_on l (Bytes piece ∷ h)))) same_other
        ∙ (sym (whole l at) ∙ fed_there l (in_frames wire c h) new at))))

module _ (facts : FactsHold) (is_cut : FedIsCut) (unseen : FedIsUnseen) (is_whole : FedIsWhole) (order : HistoriesAreInOrder) (grows : UnreadGrows) (worlds : WorldsAreHistories)
    (limits : Limits) (wire : Wire) (terms : Terms) (sound : IsSoundWire limits wire) where
  abbrev strictest : Wire
  strictest = strict wire terms.codec

  -- ---- which step may come

  does_too : (c oc : Config) (h o : List ByteStep) → in_frames strictest c h ≡ in_frames wire c h → in_frames strictest oc o ≡ in_frames wire oc o
      → (s : EndEvent) → Allowed limits (sizes_of wire) c (in_frames wire c h) (in_frames wire oc o) s → Allowed limits (sizes_of wire) c (in_frames strictest c h) (in_frames strictest oc o) s
  does_too c oc h o same same_other s a =
      subst (λ k. Allowed limits (sizes_of wire) c k (in_frames strictest oc o) s) (sym same) (subst (λ k. Allowed limits (sizes_of wire) c (in_frames wire c h) k s) (sym same_other) a)

  allowed_too : (c oc : Config) (h o : List ByteStep) → IsHistory limits wire c h → IsHistory limits strictest c h
      → in_frames strictest c h ≡ in_frames wire c h → in_frames strictest oc o ≡ in_frames wire oc o
      → (s : ByteStep) → AllowedOverBytes limits wire c oc h o s → AllowedOverBytes limits strictest c oc h o s
  allowed_too c oc h o own strict_own same same_other (Bytes piece) m = record {
    link = m.link;
    at = ap present_link same ∙ m.at;
    unclosed = ap (is_closed c) same ∙ m.unclosed;
    front = subst (λ k. IsPrefix (bytes_on m.link h ++ piece) (spelling_of wire (codec_of oc k) (lent_frames m.link k))) (sym same_other) m.front;
    few = (let e = unread_too is_cut unseen order grows limits wire terms.codec sound c h own strict_own same m.link piece m.at in let f = m.few in omega (arith, e, f));
  }
  allowed_too c oc h o own strict_own same same_other (Does (Fed piece)) m = absurd m
  allowed_too c oc h o own strict_own same same_other (Does (Attached l now)) m = does_too c oc h o same same_other (Attached l now) m
  allowed_too c oc h o own strict_own same same_other (Does (Detached now)) m = does_too c oc h o same same_other (Detached now) m
  allowed_too c oc h o own strict_own same same_other (Does (Took got)) m = does_too c oc h o same same_other (Took got) m
  allowed_too c oc h o own strict_own same same_other (Does (Failed fault)) m = does_too c oc h o same same_other (Failed fault) m
  allowed_too c oc h o own strict_own same same_other (Does (Sent msg)) m = does_too c oc h o same same_other (Sent msg) m
  allowed_too c oc h o own strict_own same same_other (Does (Lent f)) m = does_too c oc h o same same_other (Lent f) m
  allowed_too c oc h o own strict_own same same_other (Does (Ticked now)) m = does_too c oc h o same same_other (Ticked now) m
  allowed_too c oc h o own strict_own same same_other (Does (Silenced now)) m = does_too c oc h o same same_other (Silenced now) m
  allowed_too c oc h o own strict_own same same_other (Does (Closed reason allow)) m = does_too c oc h o same same_other (Closed reason allow) m

  -- ---- worlds

  -- what the two ends sent, by their histories in bytes
  abbrev sent : Wire → List ByteStep → List ByteStep → List Message
  sent w c s = sent_messages (in_frames w (config Client terms) c) ++ sent_messages (in_frames w (config Server terms) s)

  sent_before : (side : Side) (s : ByteStep) (h : List ByteStep) (m : Message) → Contains (sent_messages (in_frames wire (config side terms) h)) m
      → Contains (sent_messages (in_frames wire (config side terms) (s ∷ h))) m
  sent_before side (Bytes piece) h m e = e
  sent_before side (Does (Sent n)) h m e = Contains-append_left (sent_messages (in_frames wire (config side terms) h)) (n ∷ []) m e
  sent_before side (Does s) h m e = e

  client_before : (s : ByteStep) (a b : List ByteStep) (m : Message) → Contains (sent wire a b) m → Contains (sent wire (s ∷ a) b) m
  client_before s a b m e =
      let theirs = sent_messages (in_frames wire (config Server terms) b) in
      ⊎_elim (λ i. Contains-append_left (sent_messages (in_frames wire (config Client terms) (s ∷ a))) theirs m (sent_before Client s a m i))
      (λ i. Contains-append_right (sent_messages (in_frames wire (config Client terms) (s ∷ a))) theirs m i)
      (Contains-append_cases (sent_messages (in_frames wire (config Client terms) a)) theirs m e)

  server_before : (s : ByteStep) (a b : List ByteStep) (m : Message) → Contains (sent wire a b) m → Contains (sent wire a (s ∷ b)) m
  server_before s a b m e =
      let theirs = sent_messages (in_frames wire (config Client terms) a) in
      ⊎_elim (λ i. Contains-append_left theirs (sent_messages (in_frames wire (config Server terms) (s ∷ b))) m i)
      (λ i. Contains-append_right theirs (sent_messages (in_frames wire (config Server terms) (s ∷ b))) m (sent_before Server s b m i))
      (Contains-append_cases theirs (sent_messages (in_frames wire (config Server terms) b)) m e)

  -- with the strict readers the world is a world, and both histories in frames are the same
  record IsTheSame (w : List (Event ByteStep)) : Type 0 where
    is_world : IsWorldOverBytes (alike limits) strictest terms w
    at_client : in_frames strictest (config Client terms) (client_of w) ≡ in_frames wire (config Client terms) (client_of w)
    at_server : in_frames strictest (config Server terms) (server_of w) ≡ in_frames wire (config Server terms) (server_of w)

  module _ (all : List Message) (law : IsFaithful limits wire terms.codec terms.version all) where
    abbrev IsWithin : List Message → Type 0
    IsWithin ms = (m : Message) → Contains ms m → Contains all m

    faithful : (ms : List Message) → IsWithin ms → IsFaithful limits wire terms.codec terms.version ms
    faithful ms i = record {
      request = law.request;
      response = law.response;
      message = λ m has can. law.message m (i m has) can;
      ack = law.ack;
      sequence = law.sequence;
      ping = law.ping;
      close = law.close;
    }

    strict_too : (w : List (Event ByteStep)) → IsTheSame w → IsWithin (sent wire (client_of w) (server_of w))
        → IsFaithful limits strictest terms.codec terms.version (sent strictest (client_of w) (server_of w))
    strict_too w s i = strict_faithful wire terms.codec limits terms.version (sent strictest (client_of w) (server_of w))
        (faithful (sent strictest (client_of w) (server_of w)) (subst IsWithin (sym same) i))
      where
        same : sent strictest (client_of w) (server_of w) ≡ sent wire (client_of w) (server_of w)
        same = ap (λ k. sent_messages k ++ sent_messages (in_frames strictest (config Server terms) (server_of w))) s.at_client
            ∙ ap (λ k. sent_messages (in_frames wire (config Client terms) (client_of w)) ++ sent_messages k) s.at_server

    by_client : (s : ByteStep) (w : List (Event ByteStep)) → IsWorldOverBytes (alike limits) wire terms (ByClient s ∷ w) → IsWithin (sent wire (s ∷ client_of w) (server_of w)) → IsTheSame w
        → IsTheSame (ByClient s ∷ w)
    by_client (Does s) w i within t = record {
      is_world = (
        t.is_world,
        allowed_too (config Client terms) (config Server terms) (client_of w) (server_of w) (worlds (alike limits) wire terms w i.0).0
            (worlds (alike limits) strictest terms w t.is_world).0 t.at_client t.at_server (Does s) i.1,
      );
      at_client = ap (λ k. s ∷ k) t.at_client;
      at_server = t.at_server;
    }
    by_client (Bytes piece) w i within t =
        let c = config Client terms in
        let a = i.1 in
        let is_world : IsWorldOverBytes (alike limits) strictest terms (ByClient (Bytes piece) ∷ w) = (
          t.is_world,
          allowed_too c (config Server terms) (client_of w) (server_of w) (worlds (alike limits) wire terms w i.0).0
              (worlds (alike limits) strictest terms w t.is_world).0 t.at_client t.at_server (Bytes piece) i.1,
        ) in
        record {
          is_world = is_world;
          at_client = completes terms wire c (config Server terms) (client_of w) (server_of w) piece a.link t.at_client t.at_server a.at
              (is_whole (alike limits) strictest terms (ByClient (Bytes piece) ∷ w) (strict_too w t within) is_world).0
              (is_whole (alike limits) wire terms (ByClient (Bytes piece) ∷ w) (faithful (sent wire (client_of w) (server_of w)) within) i).0;
          at_server = t.at_server;
        }

    by_server : (s : ByteStep) (w : List (Event ByteStep)) → IsWorldOverBytes (alike limits) wire terms (ByServer s ∷ w) → IsWithin (sent wire (client_of w) (s ∷ server_of w)) → IsTheSame w
        → IsTheSame (ByServer s ∷ w)
    by_server (Does s) w i within t = record {
      is_world = (
        t.is_world,
        allowed_too (config Server terms) (config Client terms) (server_of w) (client_of w) (worlds (alike limits) wire terms w i.0).1
            (worlds (alike limits) strictest terms w t.is_world).1 t.at_server t.at_client (Does s) i.1,
      );
      at_client = t.at_client;
      at_server = ap (λ k. s ∷ k) t.at_server;
    }
    by_server (Bytes piece) w i within t =
        let c = config Server terms in
        let a = i.1 in
        let is_world : IsWorldOverBytes (alike limits) strictest terms (ByServer (Bytes piece) ∷ w) = (
          t.is_world,
          allowed_too c (config Client terms) (server_of w) (client_of w) (worlds (alike limits) wire terms w i.0).1
              (worlds (alike limits) strictest terms w t.is_world).1 t.at_server t.at_client (Bytes piece) i.1,
        ) in
        record {
          is_world = is_world;
          at_client = t.at_client;
          at_server = completes terms wire c (config Client terms) (server_of w) (client_of w) piece a.link t.at_server t.at_client a.at
              (is_whole (alike limits) strictest terms (ByServer (Bytes piece) ∷ w) (strict_too w t within) is_world).1
              (is_whole (alike limits) wire terms (ByServer (Bytes piece) ∷ w) (faithful (sent wire (client_of w) (server_of w)) within) i).1;
        }

    the_same : (w : List (Event ByteStep)) → IsWorldOverBytes (alike limits) wire terms w → IsWithin (sent wire (client_of w) (server_of w)) → IsTheSame w
    the_same [] i within = record { is_world = i; at_client = refl; at_server = refl }
    the_same (ByClient s ∷ w) i within = by_client s w i within (the_same w i.0 (λ m e. within m (client_before s (client_of w) (server_of w) m e)))
    the_same (ByServer s ∷ w) i within = by_server s w i within (the_same w i.0 (λ m e. within m (server_before s (client_of w) (server_of w) m e)))

-- ---- the law

pub by_numbers : FactsHold → FedIsCut → FedIsUnseen → FedIsWhole → HistoriesAreInOrder → UnreadGrows → WorldsAreHistories → UnreadByNumbers
by_numbers facts is_cut unseen is_whole order grows worlds x Client w l sound f at =
    let t = the_same facts is_cut unseen is_whole order grows worlds x.limits x.wire x.terms sound
    (sent facts is_cut unseen is_whole order grows worlds x.limits x.wire x.terms sound x.wire (client_of w) (server_of w)) f.faithful w f.is_world (λ m e. e) in
    let own = (worlds (alike x.limits) x.wire x.terms w f.is_world).0 in
    read_is is_cut unseen order grows x.limits x.wire x.terms.codec sound (config Client x.terms) (client_of w) own
    (worlds (alike x.limits) (strict x.wire x.terms.codec) x.terms w t.is_world).0 t.at_client l
    (lent_frames l (in_frames x.wire (config Server x.terms) (server_of w)))
    ((is_whole (alike x.limits) x.wire x.terms w f.faithful f.is_world).0 l at)
    ((facts x.limits x.wire (config Client x.terms) (client_of w) own).taken_were_fed l)
by_numbers facts is_cut unseen is_whole order grows worlds x Server w l sound f at =
    let t = the_same facts is_cut unseen is_whole order grows worlds x.limits x.wire x.terms sound
    (sent facts is_cut unseen is_whole order grows worlds x.limits x.wire x.terms sound x.wire (client_of w) (server_of w)) f.faithful w f.is_world (λ m e. e) in
    let own = (worlds (alike x.limits) x.wire x.terms w f.is_world).1 in
    read_is is_cut unseen order grows x.limits x.wire x.terms.codec sound (config Server x.terms) (server_of w) own
    (worlds (alike x.limits) (strict x.wire x.terms.codec) x.terms w t.is_world).1 t.at_server l
    (lent_frames l (in_frames x.wire (config Client x.terms) (client_of w)))
    ((is_whole (alike x.limits) x.wire x.terms w f.faithful f.is_world).1 l at)
    ((facts x.limits x.wire (config Server x.terms) (server_of w) own).taken_were_fed l)
