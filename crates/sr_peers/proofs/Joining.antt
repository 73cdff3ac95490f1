-- Moves of one side that may join a world make it go on.
use Rattle.std.proofs.Common.{◌≡◌, Bool, true, false, List, [], ◌∷◌, ◌++◌, map, Option, Some, None, refl, sym, ap, ◌∙◌, subst}
use Rattle.std.specs.Prelude.{option_map}
use Rattle.hm_message.specs.declared.message.Message.{Message}
use Rattle.hd_delivery.specs.declared.vocabulary.Reason.{Reason}
use Rattle.hd_delivery.specs.declared.vocabulary.Side.{Side}
use Rattle.hd_delivery.specs.declared.vocabulary.Side.TheVariants.{Client, Server}
use Rattle.hd_delivery.specs.Histories as of
use Rattle.hd_delivery.specs.Histories.{Attached, Fed, Sent, Closed}
use Rattle.hd_delivery.specs.Worlds.{Limits, Terms, Event, ByClient, ByServer, client_of, server_of, config}
use Rattle.hd_delivery.specs.Bytes.{Wire, ByteStep, Bytes, Does, AllowedOverBytes, IsWorldOverBytes}
use Rattle.hd_delivery.specs.OneHistory.{MayDoOverBytes, IsHistory}
use Rattle.hd_delivery.specs.Sides.{by, other, history}
use Rattle.hd_calls.specs.Peers.{PeerEvent, Plain, Calls, Uploads, Cancels, Reads, Handles, Runs, Answers, Refuses, Loses, Rounds, reason_of, shuts, add, byte_steps}
use Rattle.hd_calls.specs.PeerWorlds.{Pair, settings, next_step, ends}
use Rattle.sr_peers.specs.Grows.{FitsOther, MayJoin, NeedNoOther}
use Rattle.sr_peers.specs.Laws.{OneSideGrows}

-- ---- the two sides of a world

pub one_side : OneSideGrows
one_side w side ds = (own side ds, others side ds)
  where
    own : (side : Side) (ds : List PeerEvent) → history side (map (by side) ds ++ w) ≡ ds ++ history side w
    own side [] = refl
    own Client (d ∷ ds) = ap (λ h. d ∷ h) (own Client ds)
    own Server (d ∷ ds) = ap (λ h. d ∷ h) (own Server ds)

    others : (side : Side) (ds : List PeerEvent) → history (other side) (map (by side) ds ++ w) ≡ history (other side) w
    others side [] = refl
    others Client (d ∷ ds) = others Client ds
    others Server (d ∷ ds) = others Server ds

client_own : (o : Option ByteStep) (v : List (Event ByteStep)) → client_of (add (option_map ByClient o) v) ≡ add o (client_of v)
client_own None v = refl
client_own (Some s) v = refl

client_others : (o : Option ByteStep) (v : List (Event ByteStep)) → client_of (add (option_map ByServer o) v) ≡ client_of v
client_others None v = refl
client_others (Some s) v = refl

server_own : (o : Option ByteStep) (v : List (Event ByteStep)) → server_of (add (option_map ByServer o) v) ≡ add o (server_of v)
server_own None v = refl
server_own (Some s) v = refl

server_others : (o : Option ByteStep) (v : List (Event ByteStep)) → server_of (add (option_map ByClient o) v) ≡ server_of v
server_others None v = refl
server_others (Some s) v = refl

client_steps : (p : Pair) (w : List (Event PeerEvent)) → client_of (ends p w) ≡ byte_steps (settings Client p) (client_of w)
client_steps p [] = refl
client_steps p (ByClient d ∷ w) =
    let o = next_step (settings Client p) (client_of w) d in
    client_own o (ends p w) ∙ ap (add o) (client_steps p w)
client_steps p (ByServer d ∷ w) = client_others (next_step (settings Server p) (server_of w) d) (ends p w) ∙ client_steps p w

server_steps : (p : Pair) (w : List (Event PeerEvent)) → server_of (ends p w) ≡ byte_steps (settings Server p) (server_of w)
server_steps p [] = refl
server_steps p (ByServer d ∷ w) =
    let o = next_step (settings Server p) (server_of w) d in
    server_own o (ends p w) ∙ ap (add o) (server_steps p w)
server_steps p (ByClient d ∷ w) = server_others (next_step (settings Client p) (client_of w) d) (ends p w) ∙ server_steps p w

-- the world of the two ends has the steps that each side's moves make
pub steps_in : (p : Pair) (w : List (Event PeerEvent)) (side : Side) → history side (ends p w) ≡ byte_steps (settings side p) (history side w)
steps_in p w Client = client_steps p w
steps_in p w Server = server_steps p w

ends_more : (p : Pair) (w : List (Event PeerEvent)) (side : Side) (d : PeerEvent) → ends p (by side d ∷ w) ≡ add (option_map (by side) (next_step (settings side p) (history side w) d)) (ends p w)
ends_more p w Client d = refl
ends_more p w Server d = refl

-- ---- one move

-- the step, if there is one, may come after the world
world_more : (limits : Side → Limits) (wire : Wire) (t : Terms) (side : Side) (o : Option ByteStep) (v : List (Event ByteStep)) → IsWorldOverBytes limits wire t v
    → ((s : ByteStep) → o ≡ Some s → AllowedOverBytes (limits side) wire (config side t) (config (other side) t) (history side v) (history (other side) v) s)
    → IsWorldOverBytes limits wire t (add (option_map (by side) o) v)
world_more limits wire t side None v i allowed = i
world_more limits wire t Client (Some s) v i allowed = (i, allowed s refl)
world_more limits wire t Server (Some s) v i allowed = (i, allowed s refl)

pub history_before : (limits : Limits) (wire : Wire) (c : of.Config) (o : Option ByteStep) (x : List ByteStep) → IsHistory limits wire c (add o x) → IsHistory limits wire c x
history_before limits wire c None x i = i
history_before limits wire c (Some s) x i = i.0

may_do : (limits : Limits) (wire : Wire) (c : of.Config) (o : Option ByteStep) (x : List ByteStep) (s : ByteStep) → o ≡ Some s → IsHistory limits wire c (add o x) → MayDoOverBytes limits wire c x s
may_do limits wire c None x s e i = absurd (cc)
may_do limits wire c (Some u) x s e i = let q : u ≡ s = cc in subst (MayDoOverBytes limits wire c x) q i.1

module _ (p : Pair) (w : List (Event PeerEvent)) (side : Side) (h : List PeerEvent) where
  abbrev MayDo : ByteStep → Type 0
  MayDo s = MayDoOverBytes (p.limits side) p.wire (config side p.terms) (byte_steps (settings side p) h) s

  abbrev Allowed : ByteStep → Type 0
  Allowed s = AllowedOverBytes (p.limits side) p.wire (config side p.terms) (config (other side) p.terms) (byte_steps (settings side p) h) (byte_steps (settings (other side) p) (history (other side) w)) s

  -- a step of the end alone
  plain : (s : ByteStep) → MayDo s → FitsOther p w side h (Plain s) → Allowed s
  plain (Bytes piece) m fits = record { link = m.link; at = m.at; unclosed = m.unclosed; front = fits m.link m.at; few = m.few }
  plain (Does (Attached l now)) m fits = record { own = m; named = fits }
  plain (Does (Fed piece)) m fits = absurd m
  plain (Does s) m fits = m

  -- a message that is sent, and a close
  sends : (o : Option Message) (s : ByteStep) → option_map (λ m. Does (Sent m)) o ≡ Some s → MayDo s → Allowed s
  sends None s e m = absurd (cc)
  sends (Some x) s e m = let q : Does (Sent x) ≡ s = cc in subst (λ s. MayDo s → Allowed s) q (λ m. m) m

  closes : (shut : Bool) (o : Option Reason) (s : ByteStep) → shuts shut o ≡ Some s → MayDo s → Allowed s
  closes false (Some why) s e m = let q : Does (Closed why false) ≡ s = cc in subst (λ s. MayDo s → Allowed s) q (λ m. m) m
  closes false None s e m = absurd (cc)
  closes true o s e m = absurd (cc)

  -- a step that is the move's own
  its_own : (s u : ByteStep) → Some s ≡ Some u → (MayDo s → Allowed s) → MayDo u → Allowed u
  its_own s u e f m = let q : s ≡ u = cc in subst (λ s. MayDo s → Allowed s) q f m

  allowed : (d : PeerEvent) (s : ByteStep) → next_step (settings side p) h d ≡ Some s → FitsOther p w side h d → MayDo s → Allowed s
  allowed (Plain u) s e fits m = its_own u s e (λ m. plain u m fits) m
  allowed (Calls a n c) s e fits m = its_own _ s e (λ m. m) m
  allowed (Uploads n k a) s e fits m = its_own _ s e (λ m. m) m
  allowed (Cancels n) s e fits m = its_own _ s e (λ m. m) m
  allowed (Reads r) s e fits m = its_own _ s e (λ m. m) m
  allowed (Handles r x) s e fits m = closes _ (reason_of x) s e m
  allowed (Runs j c since turn what) s e fits m = sends _ s e m
  allowed (Answers j i) s e fits m = absurd (cc)
  allowed (Refuses j) s e fits m = absurd (cc)
  allowed (Loses n) s e fits m = absurd (cc)
  allowed Rounds s e fits m = absurd (cc)

-- ---- all of them

module _ (p : Pair) (w : List (Event PeerEvent)) (side : Side) (i : IsWorldOverBytes p.limits p.wire p.terms (ends p w)) where
  abbrev After : List PeerEvent → List (Event PeerEvent)
  After ds = map (by side) ds ++ w

  pub worlds_grow : (ds : List PeerEvent) → IsHistory (p.limits side) p.wire (config side p.terms) (byte_steps (settings side p) (ds ++ history side w)) → MayJoin p w side ds
      → IsWorldOverBytes p.limits p.wire p.terms (ends p (After ds))
  worlds_grow [] is joins = i
  worlds_grow (d ∷ ds) is joins =
      let h : List PeerEvent = ds ++ history side w in
      let o : Option ByteStep = next_step (settings side p) h d in
      let x : List ByteStep = byte_steps (settings side p) h in
      let own : history side (ends p (After ds)) ≡ x = steps_in p (After ds) side ∙ ap (byte_steps (settings side p)) (one_side w side ds).0 in
      let others : history (other side) (ends p (After ds)) ≡ byte_steps (settings (other side) p) (history (other side) w)
      = steps_in p (After ds) (other side) ∙ ap (byte_steps (settings (other side) p)) (one_side w side ds).1 in
      let before = worlds_grow ds (history_before (p.limits side) p.wire (config side p.terms) o x is) joins.0 in
      let more = world_more p.limits p.wire p.terms side o (ends p (After ds)) before (λ s e.
      subst (λ y. AllowedOverBytes (p.limits side) p.wire (config side p.terms) (config (other side) p.terms) y (history (other side) (ends p (After ds))) s) (sym own)
      (subst (λ y. AllowedOverBytes (p.limits side) p.wire (config side p.terms) (config (other side) p.terms) x y s) (sym others)
      (allowed p w side h d s e joins.1 (may_do (p.limits side) p.wire (config side p.terms) o x s e is)))) in
      subst (λ v. IsWorldOverBytes p.limits p.wire p.terms v)
      (sym (ends_more p (After ds) side d ∙ ap (λ k. add (option_map (by side) (next_step (settings side p) k d)) (ends p (After ds))) (one_side w side ds).0)) more

-- ---- moves that need no other side

pub others_join : (p : Pair) (w : List (Event PeerEvent)) (side : Side) (ds : List PeerEvent) → NeedNoOther ds → MayJoin p w side ds
others_join p w side [] n = tt
others_join p w side (Plain (Bytes piece) ∷ ds) n = absurd n
others_join p w side (Plain (Does (Attached l now)) ∷ ds) n = absurd n
others_join p w side (Plain (Does s) ∷ ds) n = (others_join p w side ds n, tt)
others_join p w side (d ∷ ds) n = (others_join p w side ds n, tt)
