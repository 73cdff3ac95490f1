-- What holds of all handshakes.
use Rattle.std.specs.Prelude.{◌≡◌, ◌<◌, ◌≤◌, ◌^◌, ◌⊎◌, ℕ, List, length}
use Rattle.hf_split.specs.Cuts.{IsPlain}
use Rattle.hm_message.specs.declared.message.Codec.{Codec}
use Rattle.hs_shake.specs.Requests as request
use Rattle.hs_shake.specs.Requests.{Asks, IsVersion, request_frame}
use Rattle.hs_shake.specs.Responses as response
use Rattle.hs_shake.specs.Responses.{Accepts, IsAnswered, response_frame, refusal_text, refusal_frame}
use Rattle.hs_shake.specs.declared.shake.ShakeError.{ShakeError}
use Rattle.hs_shake.specs.declared.shake.ShakeError.TheVariants.{Refused}

-- As a request the frame asks for one codec and one version, which is spoken, or is refused for one reason, which is answered.
pub record IsOneRequest (frame : List ℕ) : Type 0 where
  pub some : ((codec : Codec) × ((n : ℕ) × Asks frame codec n)) ⊎ ((e : ShakeError) × request.WhyNot frame e)
  pub one_request : (codec codec' : Codec) (n n' : ℕ) → Asks frame codec n → Asks frame codec' n' → (codec ≡ codec') × (n ≡ n')
  pub one_reason : (e e' : ShakeError) → request.WhyNot frame e → request.WhyNot frame e' → e ≡ e'
  pub accepted : (codec : Codec) (n : ℕ) (e : ShakeError) → Asks frame codec n → request.WhyNot frame e → ⊥
  pub spoken : (codec : Codec) (n : ℕ) → Asks frame codec n → IsVersion n
  pub answered : (e : ShakeError) → request.WhyNot frame e → IsAnswered e

-- As a response the frame says that the request was taken, or why not, for one reason.
pub record IsOneResponse (frame : List ℕ) : Type 0 where
  pub some : Accepts frame ⊎ ((e : ShakeError) × response.WhyNot frame e)
  pub one_reason : (e e' : ShakeError) → response.WhyNot frame e → response.WhyNot frame e' → e ≡ e'
  pub accepted : (e : ShakeError) → Accepts frame → response.WhyNot frame e → ⊥

-- each frame has one meaning as a request
abbrev pub RequestsHaveOneMeaning : Type 0
RequestsHaveOneMeaning = (frame : List ℕ) → IsOneRequest frame

-- each frame has one meaning as a response
abbrev pub ResponsesHaveOneMeaning : Type 0
ResponsesHaveOneMeaning = (frame : List ℕ) → IsOneResponse frame

-- what is written to ask for a codec and a version that is spoken asks for them
abbrev pub RequestsAreRead : Type 0
RequestsAreRead = (codec : Codec) (n : ℕ) → IsVersion n → Asks (request_frame codec n) codec n

-- what is written for a refusal is read as a refusal with its text
abbrev pub RefusalsAreRead : Type 0
RefusalsAreRead = (e : ShakeError) → IsAnswered e → response.WhyNot (refusal_frame e) (Refused (refusal_text e))

-- no record separator stands in what is written
pub record TextsArePlain : Type 0 where
  pub request : (codec : Codec) (n : ℕ) → IsPlain (request_frame codec n)
  pub response : IsPlain response_frame
  pub refusal : (e : ShakeError) → IsPlain (refusal_frame e)

-- the most bytes of what is written, without the separator
abbrev pub most_handshake : ℕ
most_handshake = 64

-- What is written has no more bytes than these. A version has 8 bits.
pub record TextsAreShort : Type 0 where
  pub request : (codec : Codec) (n : ℕ) → n < 2 ^ 8 → length (request_frame codec n) ≤ most_handshake
  pub response : length response_frame ≤ most_handshake
  pub refusal : (e : ShakeError) → length (refusal_frame e) ≤ most_handshake
