-- What an end is fed on a link is what the other end said there.
use Rattle.std.proofs.Common.{◌≡◌, ℕ, Bool, true, false, List, [], ◌∷◌, ◌++◌, Some, refl, sym, ◌∙◌, subst, append-nil}
use Rattle.hd_facts.specs.Prefixes.{IsPrefix}
use Rattle.hd_delivery.specs.declared.vocabulary.Side.{Side}
use Rattle.hd_delivery.specs.declared.vocabulary.Side.TheVariants.{Client, Server}
use Rattle.hd_delivery.specs.Histories.{Config, Lent, present_link, stands_on, codec_of}
use Rattle.hd_delivery.specs.Worlds.{Limits, Terms, Event, ByClient, ByServer, client_of, server_of, config}
use Rattle.hd_delivery.specs.Bytes.{Wire, ByteStep, Bytes, Does, bytes_on, bare_steps, in_frames, lent_bytes, MayFeedBytes, AllowedOverBytes, IsWorldOverBytes}
use Rattle.hd_delivery.specs.OneHistory.{IsHistory}
use Rattle.hd_delivery.specs.HistoryLaws.{WorldsAreHistories}
use Rattle.hd_delivery.specs.Laws.{FedIsUnseen}
use Rattle.hd_delivery.specs.AloneLaws.{LentComesLast, LentStays}
use Rattle.hd_delivery.specs.Sides.{history, other}
use Rattle.hd_delivery.proofs.TestsAndPrefixes.{both, is_this-true, is_this-same, prefix_trans}

-- each step adds to what was lent at most
module _ (last : LentComesLast) (stays : LentStays) (limits : Limits) (wire : Wire) (c : Config) where
  more : (h : List ByteStep) (s : ByteStep) (l : ℕ) → IsHistory limits wire c (s ∷ h) → IsPrefix (lent_bytes wire c l h) (lent_bytes wire c l (s ∷ h))
  more h (Does (Lent f)) l i = go (stands_on l (in_frames wire c h)) refl
    where
      go : (b : Bool) → stands_on l (in_frames wire c h) ≡ b → IsPrefix (lent_bytes wire c l h) (lent_bytes wire c l (Does (Lent f) ∷ h))
      go true e = (wire.spell (codec_of c (in_frames wire c h)) f, sym (last wire c h l f (is_this-true l (present_link (in_frames wire c h)) e)))
      go false e = (
        [],
        append-nil (lent_bytes wire c l h)
            ∙ sym (stays limits wire c h (Does (Lent f)) l i (λ g same at. let z = is_this-same l (present_link (in_frames wire c h)) at in absurd (cc))),
      )
  more h s l i = ([], append-nil (lent_bytes wire c l h) ∙ sym (stays limits wire c h s l i (λ f same at. absurd (cc))))

-- ---- what the other end is fed

module _ (last : LentComesLast) (stays : LentStays) (unseen : FedIsUnseen) (worlds : WorldsAreHistories) (limits : Side → Limits) (wire : Wire) (t : Terms) where
  -- one more step of the end that reads
  reader_steps : (own : Limits) (c oc : Config) (h others : List ByteStep) (s : ByteStep) (l : ℕ) → ((piece : List ℕ) → s ≡ Bytes piece → MayFeedBytes own wire c oc h others piece)
      → IsPrefix (bytes_on l h) (lent_bytes wire oc l others) → IsPrefix (bytes_on l (s ∷ h)) (lent_bytes wire oc l others)
  reader_steps own c oc h others (Does s) l may before = before
  reader_steps own c oc h others (Bytes piece) l may before = both (λ bs. IsPrefix bs (lent_bytes wire oc l others)) (stands_on l (bare_steps h)) (bytes_on l h ++ piece) (bytes_on l h)
      (λ e.
      let m = may piece refl in
      let same : m.link ≡ l = (let a = m.at in let b = is_this-true l (present_link (bare_steps h)) e in let u = (unseen wire c h).link in let f : Some m.link ≡ Some l = sym a ∙ (u ∙ b) in cc) in
      subst (λ l. IsPrefix (bytes_on l h ++ piece) (lent_bytes wire oc l others)) same m.front)
      (λ e. before)

  abbrev Reads : Side → List (Event ByteStep) → ℕ → Type 0
  Reads side w l = IsPrefix (bytes_on l (history side w)) (lent_bytes wire (config (other side) t) l (history (other side) w))

  pub fed_is_lent : (w : List (Event ByteStep)) (side : Side) (l : ℕ) → IsWorldOverBytes limits wire t w → Reads side w l
  fed_is_lent [] Client l i = ([], refl)
  fed_is_lent [] Server l i = ([], refl)
  fed_is_lent (ByClient s ∷ w) Client l i = reader_steps (limits Client) (config Client t) (config Server t) (client_of w) (server_of w) s l
      (λ piece e. subst (λ s. AllowedOverBytes (limits Client) wire (config Client t) (config Server t) (client_of w) (server_of w) s) e i.1) (fed_is_lent w Client l i.0)
  fed_is_lent (ByClient s ∷ w) Server l i = prefix_trans (bytes_on l (server_of w)) (lent_bytes wire (config Client t) l (client_of w)) (lent_bytes wire (config Client t) l (s ∷ client_of w))
      (fed_is_lent w Server l i.0) (more last stays (limits Client) wire (config Client t) (client_of w) s l (worlds limits wire t (ByClient s ∷ w) i).0)
  fed_is_lent (ByServer s ∷ w) Server l i = reader_steps (limits Server) (config Server t) (config Client t) (server_of w) (client_of w) s l
      (λ piece e. subst (λ s. AllowedOverBytes (limits Server) wire (config Server t) (config Client t) (server_of w) (client_of w) s) e i.1) (fed_is_lent w Server l i.0)
  fed_is_lent (ByServer s ∷ w) Client l i = prefix_trans (bytes_on l (client_of w)) (lent_bytes wire (config Server t) l (server_of w)) (lent_bytes wire (config Server t) l (s ∷ server_of w))
      (fed_is_lent w Client l i.0) (more last stays (limits Server) wire (config Server t) (server_of w) s l (worlds limits wire t (ByServer s ∷ w) i).1)
