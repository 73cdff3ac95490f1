-- What crates above cite of these definitions.
use Rattle.std.specs.Prelude.{◌≡◌, ◌≤◌, ◌↔◌, ℕ, true, false, List, []}
use Rattle.hd_delivery.specs.declared.vocabulary.Side.TheVariants.{Client, Server}
use Rattle.hd_delivery.specs.Worlds.{Event, config, client_of, server_of}
use Rattle.hd_delivery.specs.Bytes.{IsFaithful, DeliveryOverBytes}
use Rattle.hd_delivery.specs.Laws.{AreReadAsSent}
use Rattle.hm_message.specs.declared.message.Codec.{Codec}
use Rattle.hm_message.specs.declared.message.Message.{Message}
use Rattle.hm_message.specs.Message.{Fits}
use Rattle.hd_calls.specs.Numbers.{most_live, most_inputs, most_numbers, most_weight}
use Rattle.hd_calls.specs.Hubs.{Invoked, Hub}
use Rattle.hd_calls.specs.Peers.{PeerEvent, Settings, can_frame, drawn, call_of, given, lost, live_call, uploaded, live_upload, begun, moments, turns, acts, inputs, is_cancelled, over, live_job, reply, is_shut, steps}
use Rattle.hd_calls.specs.Rules.{own_live, live_jobs, inputs_left, kept_weight, in_use, is_due, next_job, passed, IsPeer}
use Rattle.hd_calls.specs.PeerWorlds.{Pair, settings, ends, AreApart, IsPeerWorld, BothOnce}
use Rattle.hd_calls.specs.Tables.{call_happenings, drawn_in, call_in, given_in, lost_in, uploaded_in, live_call_in, live_upload_in, own_live_in, live_job_in, live_jobs_in, inputs_left_in, kept_weight_in, in_use_in, is_due_in, next_job_in, job_happenings, begun_in, moments_in, turns_in, acts_in, inputs_in, marked_in, over_in, passed_in, reply_in}

-- what a peer's history says of its own calls is what their own happenings say, and so is what a table of calls decides by
pub record CallsAgree (h : List PeerEvent) : Type 0 where
  pub draws : drawn h ≡ drawn_in (call_happenings h)
  pub call : (n : ℕ) → call_of n h ≡ call_in n (call_happenings h)
  pub gives : (n : ℕ) → given n h ≡ given_in n (call_happenings h)
  pub loses : (n : ℕ) → lost n h ≡ lost_in n (call_happenings h)
  pub uploads : (n w : ℕ) → uploaded n w h ≡ uploaded_in n w (call_happenings h)
  pub live : (n : ℕ) → live_call n h ≡ live_call_in n (call_happenings h)
  pub live_uploads : (n w : ℕ) → live_upload n w h ≡ live_upload_in n w (call_happenings h)
  pub own : own_live h ≡ own_live_in (call_happenings h)

-- and of its jobs
pub record JobsAgree (t : Settings) (h : List PeerEvent) : Type 0 where
  pub begins : begun h ≡ begun_in (job_happenings t h)
  pub began : moments h ≡ moments_in (job_happenings t h)
  pub turn : (j : ℕ) → turns j h ≡ turns_in j (job_happenings t h)
  pub does : (j : ℕ) → acts j h ≡ acts_in j (job_happenings t h)
  pub fed : (j : ℕ) → inputs j h ≡ inputs_in j (job_happenings t h)
  pub marks : (j : ℕ) → is_cancelled j h ≡ marked_in j (job_happenings t h)
  pub ends : (j : ℕ) → over t j h ≡ over_in j (job_happenings t h)
  pub answers : (j : ℕ) → reply j h ≡ reply_in j (job_happenings t h)
  pub live : (j : ℕ) → live_job t j h ≡ live_job_in j (job_happenings t h)
  pub count : live_jobs t h ≡ live_jobs_in (job_happenings t h)
  pub left : (j : ℕ) → inputs_left j h ≡ inputs_left_in j (job_happenings t h)
  pub weighs : kept_weight t h ≡ kept_weight_in (job_happenings t h)
  pub uses : (c : Invoked) → in_use t c h ≡ in_use_in c (job_happenings t h)
  pub due : (j : ℕ) → is_due t j h ≡ is_due_in j (job_happenings t h)
  pub passes : passed h ≡ passed_in (job_happenings t h)
  pub next : next_job t h ≡ next_job_in (job_happenings t h)

-- so it is of each list of moves
abbrev pub TablesAgree : Type 0
TablesAgree = (t : Settings) (h : List PeerEvent) → CallsAgree h × JobsAgree t h

-- nothing that a peer counts passes its bound. Of what its jobs keep that is said while its end is open
pub record IsBounded (t : Settings) (h : List PeerEvent) : Type 0 where
  pub own : own_live h ≤ most_live
  pub jobs : live_jobs t h ≤ most_live
  pub waiting : (j : ℕ) → inputs_left j h ≤ most_inputs
  pub numbers : drawn h ≤ most_numbers
  pub weight : is_shut t h ≡ false → kept_weight t h ≤ most_weight

-- so it is of each peer, whatever the other side is
abbrev pub PeersAreBounded : Type 0 → Type 0
PeersAreBounded Job = (hub : Hub Job) (t : Settings) (h : List PeerEvent) → IsPeer hub t h → IsBounded t h

-- a message can be framed if it fits and its frame is within the limit
pub record CanFrame (t : Settings) (codec : Codec) (m : Message) : Type 0 where
  pub fits : Fits m
  pub short : t.wire.frame_size codec m ≤ t.limits.frame

-- so the test says
abbrev pub FramesAreTested : Type 0
FramesAreTested = (t : Settings) (codec : Codec) (m : Message) → (can_frame t codec m ≡ true) ↔ CanFrame t codec m

-- in a world each of the two is a peer by itself
abbrev pub WorldsArePeers : Type 0 → Type 0 → Type 0
WorldsArePeers C S = (hc : Hub C) (hs : Hub S) (p : Pair) (w : List (Event PeerEvent)) → IsPeerWorld hc hs p w
    → IsPeer hc (settings Client p) (client_of w) × IsPeer hs (settings Server p) (server_of w)

-- Delivery and calls once ask for no more than that each end's messages are read as themselves in its own codec.
abbrev pub HoldsAsSent : Type 0 → Type 0 → Type 0
HoldsAsSent C S = (hc : Hub C) (hs : Hub S) (p : Pair) (w : List (Event PeerEvent))
    → AreApart p.name → IsFaithful (p.limits Client) p.wire p.terms.codec p.terms.version []
    → AreReadAsSent (p.limits Client) p.wire (config Client p.terms) (steps (settings Client p) (client_of w))
    → AreReadAsSent (p.limits Server) p.wire (config Server p.terms) (steps (settings Server p) (server_of w))
    → IsPeerWorld hc hs p w → DeliveryOverBytes p.wire p.terms (ends p w) × BothOnce hc hs p w
