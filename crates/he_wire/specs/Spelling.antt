-- How a frame of a link stands in its bytes.
-- HubProtocol.md, "Overview": a handshake ends with the record separator whatever the codec is. All later frames are hub messages in the
-- codec, each with its framing.
use Rattle.std.specs.Prelude.{ℕ, List, [], ◌++◌, codes}
use Rattle.hf_split.specs.declared.framing.Framing.TheVariants.{Record}
use Rattle.hf_split.specs.Cuts.{wrapped}
use Rattle.hm_message.specs.declared.message.Codec.{Codec}
use Rattle.hm_message.specs.declared.message.Message.TheVariants as message
use Rattle.hm_codec.specs.Frames.{framed}
use Rattle.hs_shake.specs.Requests.{request_frame}
use Rattle.hs_shake.specs.Responses.{response_frame}
use Rattle.hd_delivery.specs.Frames.{LinkFrame, Request, Response, Refusal, Numbered, Ack, Sequence, Ping, Close}

-- a text of the handshake, with the separator after it
abbrev pub with_separator : List ℕ → List ℕ
with_separator text = (wrapped Record text).spelling

-- the answer that refuses a request with this error, which has nothing that JSON escapes
abbrev pub error_frame : List ℕ → List ℕ
error_frame text = codes "{\"error\":\"" ++ (text ++ codes "\"}")

-- the bytes of a frame that an end says, in its codec. No end says a frame of the other kinds
abbrev pub spelling : Codec → LinkFrame → List ℕ
spelling codec (Request asked version) = with_separator (request_frame asked version)
spelling codec Response = with_separator response_frame
spelling codec (Refusal text) = with_separator (error_frame text)
spelling codec (Numbered m) = framed codec m
spelling codec (Ack upto) = framed codec (message.Ack upto)
spelling codec (Sequence first received) = framed codec (message.Sequence first received)
spelling codec Ping = framed codec message.Ping
spelling codec (Close error allow) = framed codec (message.Close error allow)
spelling codec f = []
