-- A Notify without uploads that was spelled for many peers: it is a call that the peer may make, and its table of calls passes it.
use Rattle.std.proofs.Common.{◌≡◌, ℕ, zero, suc, ◌≤◌, false, List, [], ◌∷◌, None, inl, refl, sym, ap, ◌∙◌, subst, arith}
use Rattle.std.proofs.Math.Dec.{eqb-suc-zero}
use Rattle.hv_value.specs.Tree.{Tree}
use Rattle.hm_message.specs.declared.message.Codec.{Codec}
use Rattle.hm_message.specs.declared.message.Codec.TheVariants.{Json, Pack}
use Rattle.hm_message.specs.declared.message.Message.{Message}
use Rattle.hm_codec.specs.Frames.{said_again}
use Rattle.hd_delivery.specs.Histories.{Sent}
use Rattle.hd_delivery.specs.Bytes.{Does, sizes_of}
use Rattle.hd_delivery.specs.Sending as sending
use Rattle.hd_delivery.specs.Sending.{SendRefusal, IsRefusedToSend}
use Rattle.he_end.specs.declared.end.End.{End}
use Rattle.he_end.specs.declared.errors.SendError.{SendError}
use Rattle.he_end.specs.declared.errors.SendError.TheVariants as send
use Rattle.he_end.specs.Calls as of_end
use Rattle.he_end.specs.Stands as end_stands
use Rattle.he_end.specs.Stands.{limits_of}
use Rattle.hd_calls.specs.Hubs.{Hub, Invoked, Notify, arguments_in, message_of}
use Rattle.hd_calls.specs.Ids.{prefix_of}
use Rattle.hd_calls.specs.Laws.{CallsAgree}
use Rattle.hd_calls.specs.Numbers.{most_live, most_numbers}
use Rattle.hd_calls.specs.Peers.{PeerEvent, Calls, Settings, byte_steps, call_of, codec, drawn, has_id, steps}
use Rattle.hd_calls.specs.Rules.{MayCall, own_live}
use Rattle.hd_calls.specs.Tables.{call_happenings}
use Rattle.hi_calls.specs.Laws.{NoticesPass}
use Rattle.hp_peer.specs.Calling.{HasNotified, IsNotice, IsUnnotified, heard}
use Rattle.hp_peer.specs.declared.peer.Peer.{Peer}
use Rattle.hp_peer.specs.Stands.{Stands, live_asker}

-- ---- notices

-- the notice of a target and arguments
abbrev notice : List ℕ → List Tree → Invoked
notice target arguments = record { way = Notify; target = target; arguments = arguments; streams = [] }

is_notice : (m : Message) (c : Invoked) → IsNotice m c → c ≡ notice c.target c.arguments
is_notice m c n = λ i. record { way = n.way i; target = c.target; arguments = c.arguments; streams = n.bare i }

message_is : (m : Message) (c : Invoked) → IsNotice m c → m ≡ message_of (notice c.target c.arguments)
message_is m c n = n.is ∙ ap message_of (is_notice m c n)

-- the other end reads the message so
read_so : (code : Codec) (target : List ℕ) (arguments : List Tree) → said_again code (message_of (notice target arguments)) ≡ message_of (notice target (arguments_in code arguments))
read_so Json target arguments = refl
read_so Pack target arguments = refl

heard_is : (t : Settings) (h : List PeerEvent) (m : Message) (c : Invoked) → IsNotice m c → heard t h c ≡ notice c.target (arguments_in (codec t h) c.arguments)
heard_is t h m c n = ap (heard t h) (is_notice m c n)

pub said_is : (t : Settings) (h : List PeerEvent) (m : Message) (c : Invoked) → IsNotice m c → said_again (codec t h) m ≡ message_of (heard t h c)
said_is t h m c n = ap (said_again (codec t h)) (message_is m c n) ∙ (read_so (codec t h) c.target c.arguments ∙ sym (ap message_of (heard_is t h m c n)))

-- ---- the peer

module _ {H Job : Type 0} (hub : Hub Job) (t : Settings) (peer : Peer H Job) (h : List PeerEvent) (s : Stands hub t peer h) (agree : CallsAgree h) where
  zero_dead : has_id (call_of 0 h) ≡ false
  zero_dead = ap has_id (agree.call 0) ∙ s.calls.bare.0

  own_few : own_live h ≤ most_live
  own_few = let l = s.calls.few_live in let e = agree.own in omega arith

  drawn_few : drawn h ≤ most_numbers
  drawn_few = let l = s.calls.within in let e = agree.draws in omega arith

  may : (target : List ℕ) (arguments : List Tree) → MayCall t None 0 (notice target arguments) h
  may target arguments = record {
    made = inl (refl, refl);
    few_uploads = omega arith;
    place = record { few_live = let l = own_few in omega arith; few_numbers = let l = drawn_few in omega arith };
    asked = tt;
  }

  jobs_by_call : (target : List ℕ) (arguments : List Tree) (k : ℕ) → live_asker k h ≡ live_asker k (Calls None 0 (notice target arguments) ∷ h)
  jobs_by_call target arguments zero = rw zero_dead refl
  jobs_by_call target arguments (suc k) = rw (eqb-suc-zero k) refl

  module _ (passes : NoticesPass) (m : Message) (c : Invoked) (n : IsNotice m c) (e : End) where
    made : (target : List ℕ) (arguments : List Tree) → limits_of e ≡ limits_of peer.end
        → end_stands.Stands t.wire t.config e (Does (Sent (message_of (notice target arguments))) ∷ byte_steps t h)
        → Stands hub t (record peer { end = e }) (Calls None 0 (notice target arguments) ∷ h)
    made target arguments same stands = record {
      names = s.names;
      limits = s.limits ∙ sym same;
      end = stands;
      calls = passes peer.calls (prefix_of t.config.side) (call_happenings h) (notice target arguments) s.calls refl refl;
      jobs = s.jobs;
      who = s.who;
      waits = s.waits;
      counted = s.counted;
      jobs_by_call = λ k. s.jobs_by_call k ∙ jobs_by_call target arguments k;
      follows = (s.follows, may target arguments);
      prompt = (s.prompt, inl s.settled);
      settled = refl;
    }

    pub notified : (number : ℕ) → limits_of e ≡ limits_of peer.end → of_end.Sends peer.end e m number → HasNotified hub t h (record peer { end = e }) c number
    notified number same sends =
        let sent = sends t.wire t.config (byte_steps t h) s.end in
        record {
          number_is = sent.1;
          stands = subst (λ d. Stands hub t (record peer { end = e }) (Calls None 0 d ∷ h)) (sym (heard_is t h m c n))
              (made c.target (arguments_in (codec t h) c.arguments) same
              (subst (λ r. end_stands.Stands t.wire t.config e (Does (Sent r) ∷ byte_steps t h))
              (said_is t h m c n ∙ ap message_of (heard_is t h m c n)) sent.2));
        }

  module _ (m : Message) (c : Invoked) (n : IsNotice m c) (e : End) where
    refused_so : (why : SendRefusal) → IsRefusedToSend (limits_of peer.end) (sizes_of t.wire) t.config (steps t h) (said_again (codec t h) m) why
        → IsRefusedToSend t.limits (sizes_of t.wire) t.config (steps t h) (message_of (heard t h c)) why
    refused_so why r =
        subst (λ l. IsRefusedToSend l (sizes_of t.wire) t.config (steps t h) (message_of (heard t h c)) why) (sym s.limits)
        (subst (λ x. IsRefusedToSend (limits_of peer.end) (sizes_of t.wire) t.config (steps t h) x why) (said_is t h m c n) r)

    unnotified : (why : SendError) → of_end.RefusedFor peer.end t.wire t.config (byte_steps t h) m (of_end.refusal_of why) → IsUnnotified t h c why
    unnotified send.Opening r = refused_so sending.Opening r
    unnotified send.Closed r = refused_so sending.Closed r
    unnotified (send.TooLong size) r = refused_so (sending.TooLong size) r
    unnotified (send.Full held bytes size) r = refused_so (sending.Full held bytes size) r
    unnotified send.Exhausted r = refused_so sending.Exhausted r
    unnotified send.NoMemory r = tt

    pub isnt_notified : (why : SendError) → of_end.RefusesToSend peer.end e m why → IsUnnotified t h c why
    isnt_notified why r = unnotified why (r.0 t.wire t.config (byte_steps t h) s.end)
