-- How many bytes an end takes of what it is fed.
use Rattle.std.proofs.Common.{◌≡◌, inl, inr, ℕ, ◌+◌, ◌-◌, Bool, true, false, List, length, Some, refl, sym, ap, ◌∙◌, subst}
use Rattle.std.specs.Prelude.{min}
use Rattle.hf_split.specs.Cuts.{IsFaulty}
use Rattle.hf_split.specs.Held.{Held, taken_by_feed}
use Rattle.hf_split.specs.Laws.{HasOneBeginning}
use Rattle.hf_split.specs.VarInts.{longest_var_int}
use Rattle.hf_split.specs.declared.framing.Framing.{Framing}
use Rattle.hf_split.specs.declared.framing.Framing.TheVariants.{Record}
use Rattle.hm_message.specs.declared.message.Codec.{Codec}
use Rattle.hm_codec.specs.Frames.{framing_of}
use Rattle.hd_delivery.specs.declared.vocabulary.Side.{Side}
use Rattle.hd_delivery.specs.Histories as of
use Rattle.hd_delivery.specs.Histories.{present_link, codec_of, is_shaken, is_closed}
use Rattle.hd_delivery.specs.Worlds.{Limits}
use Rattle.hd_delivery.specs.Bytes.{Wire, Reading, Waits, Reads, Refuses, Stops, ByteStep, in_frames, unread}
use Rattle.hd_delivery.specs.OneHistory.{next_reader}
use Rattle.hd_delivery.specs.HistoryLaws.{FactsHold}
use Rattle.he_wire.specs.Laws.{WireIsSound}
use Rattle.he_wire.specs.Readings.{ReadsFirst, ReadsLater, IsStopped}
use Rattle.he_wire.specs.Wires.{IsHouseWire}
use Rattle.he_end.specs.declared.end.End.{End}
use Rattle.he_end.specs.Calls.{taken_at}
use Rattle.he_end.specs.Stands.{Stands, limits_of}
use Rattle.he_end.proofs.Nexts.{later_reader, first_reader}

-- the reader stops exactly at a fault
abbrev pub TellsFault : Framing → ℕ → List ℕ → Reading → Type 0
TellsFault framing most bytes (Stops why) = IsFaulty framing most bytes
TellsFault framing most bytes reading = IsFaulty framing most bytes → ⊥

module _ (one : HasOneBeginning) (most : ℕ) (bytes : List ℕ) where
  stopped : (framing : Framing) (words : List ℕ) → IsStopped framing most bytes words → IsFaulty framing most bytes
  stopped framing words (inl h) = inl h.0
  stopped framing words (inr h) = inr h.0

  pub later_tells : (codec : Codec) (reading : Reading) → ReadsLater most codec bytes reading → TellsFault (framing_of codec) most bytes reading
  later_tells codec Waits h = h.no_fault
  later_tells codec (Reads f size) h = (one (framing_of codec) most bytes).frame_is_no_fault h.0 h.1.0
  later_tells codec (Refuses why size) h = (one (framing_of codec) most bytes).frame_is_no_fault h.0 h.1.0
  later_tells codec (Stops why) h = stopped (framing_of codec) why h

  pub first_tells : (side : Side) (reading : Reading) → ReadsFirst most side bytes reading → TellsFault Record most bytes reading
  first_tells side Waits h = h.no_fault
  first_tells side (Reads f size) h = (one Record most bytes).frame_is_no_fault h.0 h.1.0
  first_tells side (Refuses why size) h = absurd h
  first_tells side (Stops why) h = stopped Record why h

-- the splitter takes as many bytes as its reader leaves room for
taken_by : (limits : Limits) (held : Held) (n result : ℕ) (reading : Reading) → held.most ≡ limits.frame → TellsFault held.framing held.most held.bytes reading
    → (IsFaulty held.framing held.most held.bytes → result ≡ 0) → ((IsFaulty held.framing held.most held.bytes → ⊥) → result ≡ taken_by_feed held n)
    → result ≡ taken_at limits reading (length held.bytes) n
taken_by limits held n result (Stops why) most tells refused count = refused tells
taken_by limits held n result Waits most tells refused count = count tells ∙ ap (λ m. min n (m + longest_var_int - length held.bytes)) most
taken_by limits held n result (Reads f size) most tells refused count = count tells ∙ ap (λ m. min n (m + longest_var_int - length held.bytes)) most
taken_by limits held n result (Refuses why size) most tells refused count = count tells ∙ ap (λ m. min n (m + longest_var_int - length held.bytes)) most

module _ (wire : Wire) (c : of.Config) (e : End) (h : List ByteStep) (st : Stands wire c e h) (facts : FactsHold) (sound : WireIsSound) (one : HasOneBeginning)
    (l : ℕ) (at : present_link (in_frames wire c h) ≡ Some l) (live : is_closed c (in_frames wire c h) ≡ false) where
  house : IsHouseWire e.splitter.most wire
  house = subst (λ n. IsHouseWire n wire) (sym st.most) st.house

  -- what the link's reader says of what the splitter holds
  tells : (shaken : Bool) → is_shaken (in_frames wire c h) ≡ shaken
      → TellsFault e.splitter.framing e.splitter.most e.splitter.bytes (next_reader wire c l (in_frames wire c h) e.splitter.bytes)
  tells true is =
      let k = in_frames wire c h in let bytes = e.splitter.bytes in let most = e.splitter.most in
      let framing : e.splitter.framing ≡ framing_of (codec_of c k) = (st.reads l at live).framing ∙ rw is refl in
      subst (λ f. TellsFault f most bytes (next_reader wire c l k bytes)) (sym framing)
      (subst (λ r. TellsFault (framing_of (codec_of c k)) most bytes r) (sym (later_reader wire c e h st facts sound l at live is bytes))
      (later_tells one most bytes (codec_of c k) (wire.later (codec_of c k) bytes) (house.later (codec_of c k) bytes)))
  tells false is =
      let k = in_frames wire c h in let bytes = e.splitter.bytes in let most = e.splitter.most in
      let framing : e.splitter.framing ≡ Record = (st.reads l at live).framing ∙ rw is refl in
      subst (λ f. TellsFault f most bytes (next_reader wire c l k bytes)) (sym framing)
      (subst (λ r. TellsFault Record most bytes r) (sym (first_reader wire c e h st facts sound l at live is bytes))
      (first_tells one most bytes c.side (wire.first c.side bytes) (house.first c.side bytes)))

  pub taken : (n result : ℕ) → (IsFaulty e.splitter.framing e.splitter.most e.splitter.bytes → result ≡ 0)
      → ((IsFaulty e.splitter.framing e.splitter.most e.splitter.bytes → ⊥) → result ≡ taken_by_feed e.splitter n)
      → result ≡ taken_at (limits_of e) (next_reader wire c l (in_frames wire c h) (unread wire c l h)) (length (unread wire c l h)) n
  taken n result refused count =
      subst (λ bytes. result ≡ taken_at (limits_of e) (next_reader wire c l (in_frames wire c h) bytes) (length bytes) n) (st.reads l at live).bytes
      (taken_by (limits_of e) e.splitter n result (next_reader wire c l (in_frames wire c h) e.splitter.bytes) st.most
      (tells (is_shaken (in_frames wire c h)) refl) refused count)
