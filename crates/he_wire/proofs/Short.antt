-- What an end says over a wire of this project has no more bytes than the greatest frame with its framing.
use Rattle.std.proofs.Common.{◌≡◌, ℕ, ◌≤◌, List, [], ◌∷◌, length, refl, sym, subst, arith, length-append}
use Rattle.std.specs.Prelude.{Contains}
use Rattle.hf_split.specs.Cuts.{separator}
use Rattle.hm_message.specs.declared.message.Codec.{Codec}
use Rattle.hm_message.specs.declared.message.Message.{Message}
use Rattle.hs_shake.specs.Laws.{TextsAreShort}
use Rattle.hs_shake.specs.Responses.{refusal_frame}
use Rattle.hd_delivery.specs.declared.vocabulary.Side.{Side}
use Rattle.hd_delivery.specs.declared.vocabulary.Side.TheVariants.{Client, Server}
use Rattle.hd_delivery.specs.Frames.{Refusal, Strange}
use Rattle.hd_delivery.specs.Worlds.{Limits}
use Rattle.hd_delivery.specs.Bytes.{Wire, Reads}
use Rattle.hd_delivery.specs.HistoryLaws.{IsWithin, AnswersAreShort, DueIsShort}
use Rattle.he_wire.specs.Readings.{ReadsFirst}
use Rattle.he_wire.specs.Spelling.{spelling}
use Rattle.he_wire.specs.Wires.{IsHouseWire}
use Rattle.he_wire.specs.Laws.{AnswersAreSpelled, SaysNoMore, WireIsFaithful, WireIsSound, shortest_limit}

module _ (spelled : AnswersAreSpelled) (texts : TextsAreShort) (limits : Limits) (wire : Wire) (room : shortest_limit ≤ limits.frame) (house : IsHouseWire limits.frame wire) where
  refused_short : (side : Side) (codec : Codec) (bytes why text : List ℕ) (size : ℕ) → ReadsFirst limits.frame side bytes (Reads (Strange why text) size)
      → IsWithin limits (spelling codec (Refusal text))
  refused_short Server codec bytes why text size (item, (begins, size_is, (e, (why_not, words, is)))) =
      subst (λ t. IsWithin limits (spelling codec (Refusal t))) (sym is)
      (subst (λ b. IsWithin limits b) (sym (spelled codec e))
      (omega (arith, room, length-append (refusal_frame e) (separator ∷ []), texts.refusal e)))
  refused_short Client codec bytes why text size (item, (begins, size_is, (e, (why_not, words, is)))) =
      subst (λ t. IsWithin limits (spelling codec (Refusal t))) (sym is) (let n : length (spelling codec (Refusal [])) ≡ 13 = refl in omega (arith, room, n))

  answers_short : AnswersAreShort limits wire
  answers_short side bytes why text size e codec =
      subst (λ b. IsWithin limits b) (sym (house.spells codec (Refusal text)))
      (refused_short side codec bytes why text size (subst (λ r. ReadsFirst limits.frame side bytes r) e (house.first side bytes)))

none_said : (m : Message) → Contains [] m → ⊥
none_said m at = let lt = at.1 in absurd (omega arith)

pub says_no_more : DueIsShort → AnswersAreSpelled → TextsAreShort → WireIsFaithful → WireIsSound → SaysNoMore
says_no_more short spelled texts faithful sound limits wire c h f room spoken house =
    short limits wire c h f (sound limits wire house)
    (λ codec. faithful limits wire codec c.version [] room spoken (λ m at. absurd (none_said m at)) house)
    (answers_short spelled texts limits wire room house)
