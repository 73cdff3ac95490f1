-- What is written of a Completion with an error is short.
use Rattle.std.proofs.Common.{◌≡◌, ℕ, ◌+◌, ◌*◌, ◌≤◌, pos, List, [], ◌++◌, length, refl, arith, length-append}
use Rattle.std.specs.Prelude.{codes}
use Rattle.std.specs.Fmt.{digits}
use Rattle.json.specs.Print.{escape, escape_byte}
use Rattle.hv_json.specs.Writing.{json_text}
use Rattle.hv_pack.specs.Writing.{int_text, text_head, list_head, map_head}
use Rattle.hm_message.specs.declared.message.Codec.{Codec}
use Rattle.hm_message.specs.declared.message.Codec.TheVariants.{Json, Pack}
use Rattle.hm_message.specs.declared.message.Message.TheVariants.{Completion}
use Rattle.hm_message.specs.declared.message.Ending.TheVariants.{Error}
use Rattle.hm_json.specs.Frame as json
use Rattle.hm_pack.specs.Frame as pack
use Rattle.hm_codec.specs.Frames.{frame_of}
use Rattle.hm_codec.specs.Laws.{ErrorsAreShort, most_of_error, most_of_escape, text_size}
use Rattle.hm_codec.proofs.Controls.{escape_length, int_length, head_length, list_length}

-- the id as it stands in JSON, and what comes after it
abbrev id_text : List ℕ → List ℕ
id_text id = codes ",\"invocationId\":\"" ++ ((escape id ++ codes "\"") ++ codes ",\"type\":3}")

completion_text : (id error : List ℕ) → json.frame_of (Completion [] id (Error error)) ≡ codes "{\"error\":\"" ++ ((escape error ++ codes "\"") ++ id_text id)
unfolding json_text escape_byte digits
completion_text id error = refl

json_short : (id error : List ℕ) → length (json.frame_of (Completion [] id (Error error))) ≤ most_of_error + (length (escape id) + length (escape error))
json_short id error = rw (completion_text id error) (omega (
  arith,
  length-append (escape error ++ codes "\"") (id_text id),
  length-append (escape error) (codes "\""),
  length-append (escape id ++ codes "\"") (codes ",\"type\":3}"),
  length-append (escape id) (codes "\""),
))

no_headers : length (map_head 0) ≡ 1
unfolding map_head
no_headers = refl

pack_short : (id error : List ℕ) → length (pack.frame_of (Completion [] id (Error error))) ≤ most_of_error + (length id + length error)
pack_short id error =
    let last : List ℕ = (text_head (length error) ++ error) ++ [] in
    let kind : List ℕ = int_text (pos 1) ++ last in
    let named : List ℕ = (text_head (length id) ++ id) ++ kind in
    let headed : List ℕ = (map_head 0 ++ []) ++ named in
    omega (
      arith,
      length-append (list_head 5) (int_text (pos 3) ++ headed),
      length-append (int_text (pos 3)) headed,
      length-append (map_head 0 ++ []) named,
      length-append (map_head 0) [],
      length-append (text_head (length id) ++ id) kind,
      length-append (text_head (length id)) id,
      length-append (int_text (pos 1)) last,
      length-append (text_head (length error) ++ error) [],
      length-append (text_head (length error)) error,
      no_headers,
      list_length 5,
      int_length 3,
      int_length 1,
      head_length (length id),
      head_length (length error),
    )

pub errors_short : ErrorsAreShort
errors_short = record { frame = frame; text = text }
  where
    frame : (codec : Codec) (id error : List ℕ) → length (frame_of codec (Completion [] id (Error error))) ≤ most_of_error + (text_size codec id + text_size codec error)
    frame Json id error = json_short id error
    frame Pack id error = pack_short id error

    text : (codec : Codec) (s : List ℕ) → text_size codec s ≤ most_of_escape * length s
    text Json s = escape_length s
    text Pack s = omega arith
