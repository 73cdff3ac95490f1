-- Why a peer does not do what its user asks, as functions: the first reason that holds.
use Rattle.std.specs.Prelude.{ℕ, suc, ◌+◌, not, ◌==◌, nat_lt, nat_le, List, [], length, sum_by, Option, Some, None, option_map, if◌then◌else◌}
use Rattle.hv_value.specs.Tree.{Tree}
use Rattle.hm_message.specs.declared.message.Message.{Message}
use Rattle.hm_message.specs.declared.message.Message.TheVariants.{CancelInvocation}
use Rattle.hm_message.specs.Message.{content_depth}
use Rattle.hd_delivery.specs.Histories.{held_messages, is_shaken}
use Rattle.hd_delivery.specs.Sending as sending
use Rattle.hd_delivery.specs.Sending.{SendRefusal}
use Rattle.hd_delivery.specs.Bytes.{sizes_of}
use Rattle.hd_calls.specs.declared.vocabulary.CallKind.{CallKind}
use Rattle.hd_calls.specs.declared.vocabulary.CallKind.TheVariants as kind
use Rattle.hd_calls.specs.Numbers.{most_live, most_numbers, most_depth}
use Rattle.hd_calls.specs.Hubs.{Way, Notify, Call, Stream, Invoked, Answer, message_of, answer_message, arguments_in}
use Rattle.hd_calls.specs.Peers.{PeerEvent, Settings, drawn, live_call, live_upload, steps, codec, is_shut}
use Rattle.hd_calls.specs.Rules.{names, own_live, new_live, new_numbers, CallRefusal, TooManyLive, Spent, Unknown, TooDeep, Unsent}
use Rattle.hd_server.specs.Machine.{has_room, has_number}

-- ---- what is sent

-- the framed size of a message
abbrev pub framed_size : Settings → List PeerEvent → Message → ℕ
framed_size t h m = (sizes_of t.wire).framed (codec t h) m

-- the bytes that are held
abbrev pub held_bytes : Settings → List PeerEvent → ℕ
held_bytes t h = sum_by ((sizes_of t.wire).framed (codec t h)) (held_messages t.config (steps t h))

abbrev pub send_refusal : Settings → List PeerEvent → Message → Option SendRefusal
send_refusal t h m =
    if is_shut t h then Some sending.Closed else
    (if not (is_shaken (steps t h)) then Some sending.Opening else
    (if nat_lt t.limits.frame (t.wire.frame_size (codec t h) m) then Some (sending.TooLong (t.wire.frame_size (codec t h) m)) else
    (if not (has_room t h (framed_size t h m))
    then Some (sending.Full (length (held_messages t.config (steps t h))) (held_bytes t h) (framed_size t h m))
    else (if has_number t h then None else Some sending.Exhausted))))

abbrev pub unsent : Settings → List PeerEvent → Message → Option CallRefusal
unsent t h m = if nat_le (content_depth m) most_depth then option_map Unsent (send_refusal t h m) else Some TooDeep

-- ---- calls

-- how something is called that has this id, if it has one
abbrev pub way_of : CallKind → List ℕ → Way
way_of kind.Notify id = Notify
way_of kind.Call id = Call id
way_of kind.Stream id = Stream id

-- a Notify without uploads draws no number
abbrev pub number_of : CallKind → ℕ → ℕ → ℕ
number_of kind.Notify uploads drawn = if uploads == 0 then 0 else suc drawn
number_of _ uploads drawn = suc drawn

-- the next call, as the other end reads it
abbrev pub next_call : Settings → List PeerEvent → CallKind → List ℕ → List Tree → ℕ → Invoked
next_call t h kind target arguments uploads = record {
  way = way_of kind (t.name (suc (drawn h)));
  target = target;
  arguments = arguments_in (codec t h) arguments;
  streams = names t (suc (suc (drawn h))) uploads;
}

abbrev pub call_refusal : Settings → List PeerEvent → Invoked → Option CallRefusal
call_refusal t h c =
    if nat_lt most_live (own_live h + new_live c) then Some TooManyLive else
    (if nat_lt most_numbers (drawn h + new_numbers c.way c) then Some Spent else unsent t h (message_of c))

abbrev pub upload_refusal : Settings → List PeerEvent → ℕ → ℕ → Answer → Option CallRefusal
upload_refusal t h n w a = if live_upload n w h then unsent t h (answer_message (t.name (suc (n + w))) a) else Some Unknown

abbrev pub cancel_refusal : Settings → List PeerEvent → ℕ → Option CallRefusal
cancel_refusal t h n = if live_call n h then unsent t h (CancelInvocation [] (t.name n)) else Some Unknown
