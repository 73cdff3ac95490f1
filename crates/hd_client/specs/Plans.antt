-- What a client does about an event, at a tick, by a line of its script, and at its end. Events stand here in the order in which they come.
use Rattle.std.specs.Prelude.{ℕ, suc, Bool, false, not, ◌&&◌, List, [], ◌∷◌, ◌++◌, map, filter, slice_get, Option, Some, None, is_some, if◌then◌else◌}
use Rattle.hm_message.specs.declared.message.Ending.TheVariants.{Void}
use Rattle.hd_delivery.specs.declared.vocabulary.Reason.TheVariants as reason
use Rattle.hd_delivery.specs.Histories.{EndEvent, Attached, Detached, Ticked, Silenced, Closed, present_link, link_count, is_silence}
use Rattle.hd_delivery.specs.Bytes.{Does as Step_of}
use Rattle.hd_delivery.specs.Sending.{Full}
use Rattle.hd_calls.specs.Hubs.{Answer, Item, End, Invoked, value_in}
use Rattle.hd_calls.specs.Peers.{PeerEvent, Plain, Calls, Uploads, Cancels, Loses, Settings, drawn, live_call, steps, codec}
use Rattle.hd_calls.specs.Rules.{any_below, CallRefusal, Unsent}
use Rattle.hd_server.specs.Lives.{numbers_to}
use Rattle.hd_dialing.specs.Events.{Shuts, Stops, Phase, Away, Negotiates, Upgrades, Stands, Over}
use Rattle.hd_dialing.specs.Plans.{News, Begins, Ends}
use Rattle.hd_client.specs.declared.order.Order.{Order}
use Rattle.hd_client.specs.declared.order.Order.TheVariants as order
use Rattle.hd_client.specs.Refusals.{next_call, number_of, call_refusal, upload_refusal, cancel_refusal}
use Rattle.hd_client.specs.Setups.{Setup}
use Rattle.hd_client.specs.Events.{ClientEvent, Dialed, Makes, Declines, Passes, settings_of, moves, phase_of, moment, passed, is_over, has_shaken, has_closed}

-- a step of its end alone
abbrev pub does : EndEvent → ClientEvent
does x = Makes (Plain (Step_of x))

-- ---- links

abbrev pub links : Option Settings → List PeerEvent → ℕ
links None h = 0
links (Some t) h = link_count (steps t h)

-- what is news of the link is a step of the end: a link begins, by the end's own next number, or ends
abbrev pub linking : Setup → ℕ → News → List ClientEvent → List ClientEvent
linking s now (Begins lane) h = does (Attached (links (settings_of s h) (moves h)) now) ∷ []
linking s now Ends h = does (Detached now) ∷ []
linking s now _ h = []

-- the lane that is up is shut, and the connection dialed anew
abbrev pub dropping : Phase → List ClientEvent
dropping (Stands lane) = Dialed (Shuts lane) ∷ []
dropping p = []

-- ---- ticks

-- an end on a link ticks. A silence is a loss
abbrev pub ticking : ℕ → Option Settings → List ClientEvent → List ClientEvent
ticking now None h = []
ticking now (Some t) h =
    if is_some (present_link (steps t (moves h)))
    then (if is_silence t.config now (steps t (moves h)) then does (Silenced now) ∷ dropping (phase_of h) else does (Ticked now) ∷ [])
    else []

-- ---- the script

-- some own call is live
abbrev pub has_live : List PeerEvent → Bool
has_live h = any_below (suc (drawn h)) (λ n. live_call n h)

-- the move, unless it is refused. For want of room it is tried again later
abbrev pub attempt : Option CallRefusal → PeerEvent → Option (List ClientEvent)
attempt None m = Some (Makes m ∷ Passes ∷ [])
attempt (Some (Unsent (Full held bytes size))) m = None
attempt (Some why) m = Some (Declines why ∷ Passes ∷ [])

abbrev pub attempt_call : Settings → List PeerEvent → ℕ → Invoked → Option (List ClientEvent)
attempt_call t h n c = attempt (call_refusal t h c) (Calls None n c)

abbrev pub attempt_upload : Settings → List PeerEvent → ℕ → Answer → Option (List ClientEvent)
attempt_upload t h n a = attempt (upload_refusal t h n 0 a) (Uploads n 0 a)

-- the link is given up, if there is one
abbrev pub losing : Settings → List ClientEvent → List ClientEvent
losing t h = if is_some (present_link (steps t (moves h))) then does (Detached (moment h)) ∷ dropping (phase_of h) else []

-- what a line does, or None if it can't be done yet
abbrev pub doing : Settings → Order → List ClientEvent → Option (List ClientEvent)
doing t (order.Call kind target arguments uploads) h =
    attempt_call t (moves h) (number_of kind uploads (drawn (moves h))) (next_call t (moves h) kind target arguments uploads)
doing t (order.Item call value) h = attempt_upload t (moves h) call (Item (value_in (codec t (moves h)) value))
doing t (order.Done call) h = attempt_upload t (moves h) call (End Void)
doing t (order.Cancel call) h = attempt (cancel_refusal t (moves h) call) (Cancels call)
doing t order.Wait h = if has_live (moves h) then None else Some (Passes ∷ [])
doing t order.Lose h = Some (losing t h ++ Passes ∷ [])

abbrev pub doing_some : Option Settings → Option Order → List ClientEvent → Option (List ClientEvent)
doing_some (Some t) (Some o) h = doing t o h
doing_some _ _ h = None

-- lines are done after the handshake, and while the end is open
abbrev pub obeys : Setup → List ClientEvent → Bool
obeys s h = has_shaken s h && not (is_over s h)

-- what the next line does, if it can be done
abbrev pub next_line : Setup → List Order → List ClientEvent → Option (List ClientEvent)
next_line s script h = if obeys s h then doing_some (settings_of s h) (slice_get script (passed h)) h else None

-- after the last line, once no call is live, the end is closed
abbrev pub closing : Setup → List Order → List ClientEvent → List ClientEvent
closing s script h =
    if obeys s h && (not (is_some (slice_get script (passed h))) && not (has_live (moves h))) then does (Closed reason.Done false) ∷ [] else []

-- ---- the end

-- the live calls are gone, in the order of their numbers
abbrev pub gone : List PeerEvent → List ClientEvent
gone h = map (λ n. Makes (Loses n)) (filter (λ n. live_call n h) (numbers_to (drawn h)))

-- those of a closed end
abbrev pub losses : Setup → List ClientEvent → List ClientEvent
losses s h = if has_closed s h then gone (moves h) else []

-- the connection is dialed no more, and the lane that is left is shut
abbrev pub leaving : Phase → List ClientEvent
leaving Away = Dialed Stops ∷ []
leaving (Negotiates lane) = Dialed (Shuts lane) ∷ Dialed Stops ∷ []
leaving (Upgrades lane) = Dialed (Shuts lane) ∷ Dialed Stops ∷ []
leaving (Stands lane) = Dialed (Shuts lane) ∷ Dialed Stops ∷ []
leaving Over = []
