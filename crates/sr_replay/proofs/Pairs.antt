-- How a pair goes on following the actions of a script, action by action.
use Rattle.std.proofs.Common.{◌≡◌, ℕ, suc, Bool, true, false, List, [], ◌∷◌, ◌++◌, map, length, Option, Some, None, refl, sym, ap, ◌∙◌, subst, inl, inr, Vec, Global, append-nil, append_assoc, le_trans, ◌≤◌, ◌<◌, arith, length-append, length-set, slice_set, ⊎_elim}
use Rattle.std.specs.Prelude.{slice_get, if◌then◌else◌}
use Rattle.std.proofs.lemmas.Option.{slice_get_within}
use Rattle.hd_delivery.specs.declared.vocabulary.Side.{Side}
use Rattle.hd_delivery.specs.declared.vocabulary.Side.TheVariants.{Client, Server}
use Rattle.hd_delivery.specs.declared.vocabulary.State.{State}
use Rattle.hd_delivery.specs.Histories as of
use Rattle.hd_delivery.specs.Histories.{Sent, present_link, was_on, is_closed, moment}
use Rattle.hd_delivery.specs.Worlds.{alike, Limits, MaySend, Terms, config, ByClient, ByServer}
use Rattle.hd_delivery.specs.Sending.{SendRefusal, IsRefusedToSend}
use Rattle.he_end.specs.Words.{send_words}
use Rattle.he_end.specs.declared.errors.SendError.{SendError}
use Rattle.he_end.specs.declared.errors.SendError.TheVariants as send
use Rattle.hd_delivery.specs.Bytes.{Wire, sizes_of, ByteStep, Does, bare_steps, bytes_on, in_frames, lent_bytes}
use Rattle.hd_facts.specs.Prefixes.{IsPrefix}
use Rattle.hd_delivery.specs.OneHistory.{IsHistory}
use Rattle.hd_delivery.specs.Laws.{FedIsUnseen}
use Rattle.sr_script.specs.declared.action.Count.{Count}
use Rattle.he_wire.specs.Wires.{IsHouseWire}
use Rattle.hm_message.specs.declared.message.Codec.{Codec}
use Rattle.hm_message.specs.declared.message.Message.{Message}
use Rattle.hm_codec.specs.Frames.{said_again}
use Rattle.he_wire.specs.Laws.{WireIsSound}
use Rattle.hd_delivery.specs.HistoryLaws.{FactsHold, UnusedIsUntouched}
use Rattle.sr_replay.specs.Laws.{RunsAreWorlds, IsWorldOf}
use Rattle.hd_delivery.specs.AloneLaws.{FramesAreTaken, UnusedIsEmpty, LentComesLast, LentStays, FedIsLent, TakenHasRoom}
use Rattle.sr_script.specs.declared.action.Action.{Action}
use Rattle.sr_script.specs.declared.action.Action.TheVariants as action
use Rattle.sr_replay.specs.declared.player.Player.{Player}
use Rattle.sr_replay.specs.declared.pair.LinkBytes.{LinkBytes}
use Rattle.sr_replay.specs.declared.pair.Pair.{Pair}
use Rattle.sr_script.specs.Script.{opened, moment_after, IsInTurn, most_of}
use Rattle.sr_replay.specs.Runs.{Doing, Makes, Refuses, Run, Acts, read_in_all, to_be_read, Sending, steps_of, world_of, attaching, losing, closing, ticking}
use Rattle.sr_lines.specs.Lines.{refusal_words}
use Rattle.hd_delivery.specs.Following.{FollowAll, FollowUpTo}
use Rattle.hd_delivery.specs.Alone.{writing, reading}
use Rattle.hd_delivery.specs.Sides.{other, by, history, frames_at}
use Rattle.sr_replay.specs.Report.{doing_text, run_text, report_text}
use Rattle.sr_replay.specs.declared.text_kind.TextKind.{TextKind}
use Rattle.sr_replay.specs.declared.text_kind.TextKind.TheVariants as kinds
use Rattle.sr_replay.specs.Told.{told_text, doings_text, steps_text, told_run, Tells}
use Rattle.sr_lines.specs.Lines.{standing_line, standing_text}
use Rattle.sr_replay.specs.Plays.{Plays, OfEach, limits_at}
use Rattle.hd_delivery.specs.Alone.{lent_text}
use Rattle.sr_replay.specs.Follows.{IsPlayed, MayRead, Tries, said_by, IsLane, Holds, Follows, GoesOn}
use Rattle.sr_replay.proofs.Doings.{own, others, text, made_is, steps_made, text_made}
use Rattle.sr_replay.proofs.Linked.{accepted_is_open, not_on, get_last, get_set, attached}
use Rattle.sr_replay.proofs.Written.{are_lent, follow_of, same_names, writes, said_here, said_elsewhere, none_written}
use Rattle.sr_replay.proofs.Fed.{reads, none_read, front_of_all, said_as_before, named_as_before}
use Rattle.sr_replay.proofs.Played.{SaysNothing, nothing, processes_none, closes, loses, sends, sends_none, ticks, attaches, closing_says_nothing, losing_says_nothing, ticking_says_nothing}

-- ---- one end did something

module _ (limits : Limits) (wire : Wire) (t : Terms) (actions : List Action) (a : Action) (c s : List ByteStep) (p new : Pair) (was : Holds limits wire t actions c s p)
    (links : opened (a ∷ actions) ≡ opened actions) (lanes : new.lanes ≡ p.lanes) (now : new.now ≡ moment_after (a ∷ actions)) where
  -- the client, which said nothing
  pub client_quiet : (h : List ByteStep) → IsPlayed limits wire (config Client t) new.client new.client_place h → SaysNothing wire (config Client t) c h
      → new.server ≡ p.server → new.server_place ≡ p.server_place → Holds limits wire t (a ∷ actions) h s new
  client_quiet h played quiet same place = record {
    client = played;
    server = subst (λ x. IsPlayed limits wire (config Server t) x new.server_place s) (sym same) (subst (λ n. IsPlayed limits wire (config Server t) p.server n s) (sym place) was.server);
    links = ap (λ v. length v.items) lanes ∙ was.links ∙ sym links;
    lanes = λ l lane at. let lane_was = was.lanes l lane (ap (λ v. slice_get v.items l) (sym lanes) ∙ at) in record {
      to_server = lane_was.to_server ∙ sym (quiet.lent l);
      to_client = lane_was.to_client;
      was_opened = lane_was.was_opened ∙ sym (quiet.names l);
    };
    now = now;
  }

  pub server_quiet : (h : List ByteStep) → IsPlayed limits wire (config Server t) new.server new.server_place h → ((l : ℕ) → lent_bytes wire (config Server t) l h ≡ lent_bytes wire (config Server t) l s)
      → new.client ≡ p.client → new.client_place ≡ p.client_place → Holds limits wire t (a ∷ actions) c h new
  server_quiet h played quiet same place = record {
    client = subst (λ x. IsPlayed limits wire (config Client t) x new.client_place c) (sym same) (subst (λ n. IsPlayed limits wire (config Client t) p.client n c) (sym place) was.client);
    server = played;
    links = ap (λ v. length v.items) lanes ∙ was.links ∙ sym links;
    lanes = λ l lane at. let lane_was = was.lanes l lane (ap (λ v. slice_get v.items l) (sym lanes) ∙ at) in record {
      to_server = lane_was.to_server;
      to_client = lane_was.to_client ∙ sym (quiet l);
      was_opened = lane_was.was_opened;
    };
    now = now;
  }

-- ---- the run

-- what is told goes on after what was taken away
more_told : (gone before line all after : List ℕ) → gone ++ before ≡ all → after ≡ before ++ line → gone ++ after ≡ all ++ line
more_told gone before line all after was more = ap (λ x. gone ++ x) more ∙ sym (append_assoc gone before line) ∙ ap (λ x. x ++ line) was

module _ (kind : TextKind) (gone : List ℕ) (limits : Limits) (wire : Wire) (t : Terms) (actions : List Action) (r : Run) (p new : Pair) (a : Action)
    (was : Follows kind gone limits wire t actions r p) (turn : IsInTurn actions a) (same : new.kind ≡ p.kind) where
  -- the pair follows these doings of one side
  pub client_did : (ds : List Doing) → Acts limits wire t actions r a (map (by Client) ds)
      → Holds limits wire t (a ∷ actions) (steps_of ds ++ history Client (world_of r)) (history Server (world_of r)) new
      → new.told.items ≡ p.told.items ++ doings_text p.kind wire (config Client t) (history Client (world_of r)) ds
      → (made : Run) × (Acts limits wire t actions r a made × Follows kind gone limits wire t (a ∷ actions) (made ++ r) new)
  client_did ds acts holds told =
      let line = doings_text kind wire (config Client t) (history Client (world_of r)) ds in
      let told_so = told ∙ ap (λ k. p.told.items ++ doings_text k wire (config Client t) (history Client (world_of r)) ds) was.kind_is in (
        map (by Client) ds,
        (
          acts,
          record {
            turns = (was.turns, turn);
            runs = (r, map (by Client) ds, (was.runs, acts, refl));
            holds = subst (λ c. Holds limits wire t (a ∷ actions) c (history Server (world_of (map (by Client) ds ++ r))) new) (sym (own Client ds r))
                (subst (λ s. Holds limits wire t (a ∷ actions) (steps_of ds ++ history Client (world_of r)) s new) (sym (others Client ds r)) holds);
            kind_is = same ∙ was.kind_is;
            told = more_told gone p.told.items line (told_run kind wire t r) new.told.items was.told told_so ∙ sym (text kind wire t Client ds r);
          },
        ),
      )

  pub server_did : (ds : List Doing) → Acts limits wire t actions r a (map (by Server) ds)
      → Holds limits wire t (a ∷ actions) (history Client (world_of r)) (steps_of ds ++ history Server (world_of r)) new
      → new.told.items ≡ p.told.items ++ doings_text p.kind wire (config Server t) (history Server (world_of r)) ds
      → (made : Run) × (Acts limits wire t actions r a made × Follows kind gone limits wire t (a ∷ actions) (made ++ r) new)
  server_did ds acts holds told =
      let line = doings_text kind wire (config Server t) (history Server (world_of r)) ds in
      let told_so = told ∙ ap (λ k. p.told.items ++ doings_text k wire (config Server t) (history Server (world_of r)) ds) was.kind_is in (
        map (by Server) ds,
        (
          acts,
          record {
            turns = (was.turns, turn);
            runs = (r, map (by Server) ds, (was.runs, acts, refl));
            holds = subst (λ s. Holds limits wire t (a ∷ actions) (history Client (world_of (map (by Server) ds ++ r))) s new) (sym (own Server ds r))
                (subst (λ c. Holds limits wire t (a ∷ actions) c (steps_of ds ++ history Server (world_of r)) new) (sym (others Server ds r)) holds);
            kind_is = same ∙ was.kind_is;
            told = more_told gone p.told.items line (told_run kind wire t r) new.told.items was.told told_so ∙ sym (text kind wire t Server ds r);
          },
        ),
      )

-- ---- an end is closed

-- with this text before and after
abbrev pub Closes : TextKind → Player → Player → List ℕ → List ℕ → Type 0
Closes kind old new before after = OfEach old (λ wire c h. let k = in_frames wire c h in
    Plays wire c new (steps_of (closing c k) ++ h) × (after ≡ before ++ doings_text kind wire c h (closing c k)))

pub client_closes : (p : Pair) (x : Player) (told : Vec ℕ Global) (side : Side) → side ≡ Client → Closes p.kind p.client x p.told.items told.items → limits_at x ≡ limits_at p.client
    → GoesOn p (action.Close side) (record p { client = x; told = told })
client_closes p x told side e did same = subst (λ side. GoesOn p (action.Close side) (record p { client = x; told = told })) (sym e) goes
  where
    goes : GoesOn p (action.Close Client) (record p { client = x; told = told })
    goes kind gone limits wire t actions r was turn =
        let h = history Client (world_of r) in
        let k = in_frames wire (config Client t) h in
        let done = did wire (config Client t) h was.holds.client.plays in
        let played = closes limits wire (config Client t) p.client x p.client_place h was.holds.client same done.0 in
        client_did kind gone limits wire t actions r p (record p { client = x; told = told }) (action.Close Client) was turn refl (closing (config Client t) k) refl
        (client_quiet limits wire t actions (action.Close Client) (history Client (world_of r)) (history Server (world_of r)) p (record p { client = x; told = told }) was.holds refl refl was.holds.now
        (steps_of (closing (config Client t) k) ++ h) played (closing_says_nothing wire (config Client t) (history Client (world_of r))) refl refl)
        done.1

pub server_closes : (p : Pair) (x : Player) (told : Vec ℕ Global) (side : Side) → side ≡ Server → Closes p.kind p.server x p.told.items told.items → limits_at x ≡ limits_at p.server
    → GoesOn p (action.Close side) (record p { server = x; told = told })
server_closes p x told side e did same = subst (λ side. GoesOn p (action.Close side) (record p { server = x; told = told })) (sym e) goes
  where
    goes : GoesOn p (action.Close Server) (record p { server = x; told = told })
    goes kind gone limits wire t actions r was turn =
        let h = history Server (world_of r) in
        let k = in_frames wire (config Server t) h in
        let done = did wire (config Server t) h was.holds.server.plays in
        let played = closes limits wire (config Server t) p.server x p.server_place h was.holds.server same done.0 in
        server_did kind gone limits wire t actions r p (record p { server = x; told = told }) (action.Close Server) was turn refl (closing (config Server t) k) refl
        (server_quiet limits wire t actions (action.Close Server) (history Client (world_of r)) (history Server (world_of r)) p (record p { server = x; told = told }) was.holds refl refl was.holds.now
        (steps_of (closing (config Server t) k) ++ h) played (closing_says_nothing wire (config Server t) (history Server (world_of r))).lent refl refl)
        done.1

-- ---- an end loses its link

abbrev pub Loses : TextKind → ℕ → Player → Player → List ℕ → List ℕ → Type 0
Loses kind now old new before after = OfEach old (λ wire c h. let k = in_frames wire c h in moment k ≤ now →
    Plays wire c new (steps_of (losing k now) ++ h) × (after ≡ before ++ doings_text kind wire c h (losing k now)))

-- the run of a pair is a world, whose moments aren't past its actions'
module _ (worlds : RunsAreWorlds) (sound : WireIsSound) where
  pub the_world : (kind : TextKind) (gone : List ℕ) (limits : Limits) (wire : Wire) (t : Terms) (actions : List Action) (r : Run) (p : Pair)
      → Follows kind gone limits wire t actions r p → IsWorldOf limits wire t actions (world_of r)
  the_world kind gone limits wire t actions r p was =
      worlds limits wire t actions r (sound limits wire (subst (λ x. IsHouseWire x.frame wire) was.holds.client.keeps was.holds.client.plays.stands.house)) was.turns was.runs

  pub client_loses : (p : Pair) (x : Player) (told : Vec ℕ Global) (side : Side) → side ≡ Client → Loses p.kind p.now p.client x p.told.items told.items → limits_at x ≡ limits_at p.client
      → GoesOn p (action.Lose side) (record p { client = x; told = told })
  client_loses p x told side e did same = subst (λ side. GoesOn p (action.Lose side) (record p { client = x; told = told })) (sym e) goes
    where
      goes : GoesOn p (action.Lose Client) (record p { client = x; told = told })
      goes kind gone limits wire t actions r was turn =
          let h = history Client (world_of r) in
          let k = in_frames wire (config Client t) h in
          let late = (the_world kind gone limits wire t actions r p was).in_time Client in
          let done = (subst (λ now. Loses p.kind now p.client x p.told.items told.items) was.holds.now did) wire (config Client t) h was.holds.client.plays late in
          let played = loses limits wire (config Client t) p.client x p.client_place h was.holds.client same (moment_after actions) done.0 in
          client_did kind gone limits wire t actions r p (record p { client = x; told = told }) (action.Lose Client) was turn refl (losing k (moment_after actions)) refl
          (client_quiet limits wire t actions (action.Lose Client) (history Client (world_of r)) (history Server (world_of r)) p (record p { client = x; told = told }) was.holds refl refl was.holds.now
          (steps_of (losing k (moment_after actions)) ++ h) played (losing_says_nothing wire (config Client t) h (moment_after actions)) refl refl)
          done.1

  pub server_loses : (p : Pair) (x : Player) (told : Vec ℕ Global) (side : Side) → side ≡ Server → Loses p.kind p.now p.server x p.told.items told.items → limits_at x ≡ limits_at p.server
      → GoesOn p (action.Lose side) (record p { server = x; told = told })
  server_loses p x told side e did same = subst (λ side. GoesOn p (action.Lose side) (record p { server = x; told = told })) (sym e) goes
    where
      goes : GoesOn p (action.Lose Server) (record p { server = x; told = told })
      goes kind gone limits wire t actions r was turn =
          let h = history Server (world_of r) in
          let k = in_frames wire (config Server t) h in
          let late = (the_world kind gone limits wire t actions r p was).in_time Server in
          let done = (subst (λ now. Loses p.kind now p.server x p.told.items told.items) was.holds.now did) wire (config Server t) h was.holds.server.plays late in
          let played = loses limits wire (config Server t) p.server x p.server_place h was.holds.server same (moment_after actions) done.0 in
          server_did kind gone limits wire t actions r p (record p { server = x; told = told }) (action.Lose Server) was turn refl (losing k (moment_after actions)) refl
          (server_quiet limits wire t actions (action.Lose Server) (history Client (world_of r)) (history Server (world_of r)) p (record p { server = x; told = told }) was.holds refl refl was.holds.now
          (steps_of (losing k (moment_after actions)) ++ h) played (losing_says_nothing wire (config Server t) h (moment_after actions)).lent refl refl)
          done.1

-- ---- an end sends a message

abbrev pub Sends : TextKind → Message → Player → Player → List ℕ → List ℕ → Type 0
Sends kind m old new before after = OfEach old (λ wire c h. (d : Doing) × (Sending (limits_at old) wire c (in_frames wire c h) m d
    × Plays wire c new (steps_of (d ∷ []) ++ h) × (after ≡ before ++ told_text kind wire c h d)))

module _ (kind : TextKind) (m : Message) (old new : Player) (side : Side) (is : OfEach old (λ wire c h. side ≡ c.side)) (before after : List ℕ) where
  -- it was sent
  pub told_sent : FedIsUnseen → (number : ℕ)
      → OfEach old (λ wire c h. MaySend (limits_at old) (sizes_of wire) c (in_frames wire c h) (said_again (of.codec_of c (in_frames wire c h)) m)
      × (number ≡ suc (length (of.sent_messages (in_frames wire c h)))) × Plays wire c new (Does (Sent (said_again (of.codec_of c (in_frames wire c h)) m)) ∷ h))
      → ((wire : Wire) (c : of.Config) (h : List ByteStep) (codec : Codec) → c.side ≡ side → number ≡ suc (length (of.sent_messages (bare_steps h)))
      → after ≡ before ++ told_text kind wire c h (Makes (Does (Sent (said_again codec m))))) → Sends kind m old new before after
  told_sent unseen number did told wire c h plays =
      let done = did wire c h plays in (
        Makes (Does (Sent (said_again (of.codec_of c (in_frames wire c h)) m))),
        (
          inl (done.0, refl),
          done.2,
          told wire c h (of.codec_of c (in_frames wire c h)) (sym (is wire c h plays)) (done.1 ∙ ap (λ ms. suc (length ms)) (unseen wire c h).sends),
        ),
      )

  -- or not
  pub told_refused : (e : SendError) → (e ≡ send.NoMemory → ⊥)
      → OfEach old (λ wire c h. ((e ≡ send.NoMemory → ⊥) → (why : SendRefusal) × (IsRefusedToSend (limits_at old) (sizes_of wire) c (in_frames wire c h) (said_again (of.codec_of c (in_frames wire c h)) m) why
      × (refusal_words why ≡ send_words e))) × Plays wire c new h)
      → Tells kind side before after (Refuses (send_words e)) → Sends kind m old new before after
  told_refused e some did told wire c h plays =
      let done = did wire c h plays in
      let why = done.0 some in (
        Refuses (refusal_words why.0),
        (
          inr (why.0, (why.1.0, refl)),
          done.1,
          told wire c h (sym (is wire c h plays)) ∙ ap (λ words. before ++ told_text kind wire c h (Refuses words)) (sym why.1.1),
        ),
      )

-- a message is said only later, and a refusal changes nothing
sent_or_not : (limits : Limits) (wire : Wire) (c : of.Config) (p x : Player) (place : ℕ) (h : List ByteStep) (m : Message) (d : Doing) → IsPlayed limits wire c p place h → limits_at x ≡ limits_at p
    → Sending limits wire c (in_frames wire c h) m d → Plays wire c x (steps_of (d ∷ []) ++ h)
    → IsPlayed limits wire c x place (steps_of (d ∷ []) ++ h) × SaysNothing wire c h (steps_of (d ∷ []) ++ h)
sent_or_not limits wire c p x place h m d was same (inl sent) plays =
    let e = sent.1 in subst (λ d. IsPlayed limits wire c x place (steps_of (d ∷ []) ++ h) × SaysNothing wire c h (steps_of (d ∷ []) ++ h)) (sym e)
    (sends limits wire c p x place h was same (said_again (of.codec_of c (in_frames wire c h)) m) (subst (λ d. Plays wire c x (steps_of (d ∷ []) ++ h)) e plays), record { lent = λ l. refl; names = λ l. refl })
sent_or_not limits wire c p x place h m d was same (inr refused) plays =
    let e = refused.1.1 in subst (λ d. IsPlayed limits wire c x place (steps_of (d ∷ []) ++ h) × SaysNothing wire c h (steps_of (d ∷ []) ++ h)) (sym e)
    (sends_none limits wire c p x place h was same (subst (λ d. Plays wire c x (steps_of (d ∷ []) ++ h)) e plays), nothing wire c h)

pub client_sends : (p : Pair) (x : Player) (told : Vec ℕ Global) (m : Message) (side : Side) → side ≡ Client → Sends p.kind m p.client x p.told.items told.items → limits_at x ≡ limits_at p.client
    → GoesOn p (action.Send side m) (record p { client = x; told = told })
client_sends p x told m side e did same = subst (λ side. GoesOn p (action.Send side m) (record p { client = x; told = told })) (sym e) goes
  where
    goes : GoesOn p (action.Send Client m) (record p { client = x; told = told })
    goes kind gone limits wire t actions r was turn =
        let h = history Client (world_of r) in
        let c = config Client t in
        let done = did wire c h was.holds.client.plays in
        let sending = subst (λ x. Sending x wire c (in_frames wire c h) m done.0) was.holds.client.keeps done.1.0 in
        let made = sent_or_not limits wire c p.client x p.client_place h m done.0 was.holds.client same sending done.1.1 in
        client_did kind gone limits wire t actions r p (record p { client = x; told = told }) (action.Send Client m) was turn refl (done.0 ∷ []) (done.0, (sending, refl))
        (client_quiet limits wire t actions (action.Send Client m) (history Client (world_of r)) (history Server (world_of r)) p (record p { client = x; told = told }) was.holds refl refl was.holds.now
        (steps_of (done.0 ∷ []) ++ h) made.0 made.1 refl refl)
        done.1.2

pub server_sends : (p : Pair) (x : Player) (told : Vec ℕ Global) (m : Message) (side : Side) → side ≡ Server → Sends p.kind m p.server x p.told.items told.items → limits_at x ≡ limits_at p.server
    → GoesOn p (action.Send side m) (record p { server = x; told = told })
server_sends p x told m side e did same = subst (λ side. GoesOn p (action.Send side m) (record p { server = x; told = told })) (sym e) goes
  where
    goes : GoesOn p (action.Send Server m) (record p { server = x; told = told })
    goes kind gone limits wire t actions r was turn =
        let h = history Server (world_of r) in
        let c = config Server t in
        let done = did wire c h was.holds.server.plays in
        let sending = subst (λ x. Sending x wire c (in_frames wire c h) m done.0) was.holds.server.keeps done.1.0 in
        let made = sent_or_not limits wire c p.server x p.server_place h m done.0 was.holds.server same sending done.1.1 in
        server_did kind gone limits wire t actions r p (record p { server = x; told = told }) (action.Send Server m) was turn refl (done.0 ∷ []) (done.0, (sending, refl))
        (server_quiet limits wire t actions (action.Send Server m) (history Client (world_of r)) (history Server (world_of r)) p (record p { server = x; told = told }) was.holds refl refl was.holds.now
        (steps_of (done.0 ∷ []) ++ h) made.0 made.1.lent refl refl)
        done.1.2

-- ---- a moment comes

abbrev pub Ticks : TextKind → ℕ → Player → Player → List ℕ → List ℕ → Type 0
Ticks kind now old new before after = OfEach old (λ wire c h. let k = in_frames wire c h in moment k ≤ now → Plays wire c new (steps_of (ticking c k now ∷ []) ++ h)
    × (after ≡ before ++ told_text kind wire c h (ticking c k now)))

module _ (worlds : RunsAreWorlds) (sound : WireIsSound) where
  pub both_tick : (p : Pair) (x y : Player) (now : ℕ) (between told : Vec ℕ Global) → Ticks p.kind now p.client x p.told.items between.items → Ticks p.kind now p.server y between.items told.items
      → limits_at x ≡ limits_at p.client → limits_at y ≡ limits_at p.server → GoesOn p (action.Tick now) (record p { client = x; server = y; now = now; told = told })
  both_tick p x y now between told client server client_same server_same kind gone limits wire t actions r was turn =
      let c = history Client (world_of r) in
      let s = history Server (world_of r) in
      let cc_ = config Client t in
      let cs = config Server t in
      let world = the_world worlds sound kind gone limits wire t actions r p was in
      let client_did = (subst (λ k. Ticks k now p.client x p.told.items between.items) was.kind_is client) wire cc_ c was.holds.client.plays (le_trans (world.in_time Client) turn) in
      let server_did = (subst (λ k. Ticks k now p.server y between.items told.items) was.kind_is server) wire cs s was.holds.server.plays (le_trans (world.in_time Server) turn) in
      let client_quiet = ticking_says_nothing wire cc_ c now in
      let server_quiet = ticking_says_nothing wire cs s now in
      let first = ticking cc_ (in_frames wire cc_ c) now in
      let second = ticking cs (in_frames wire cs s) now in
      let first_line = told_text kind wire cc_ c first in
      let then_told = more_told gone p.told.items first_line (told_run kind wire t r) between.items was.told client_did.1 in (
        by Server second ∷ by Client first ∷ [],
        (
          refl,
          record {
            turns = (was.turns, turn);
            runs = (r, by Server second ∷ by Client first ∷ [], (was.runs, refl, refl));
            holds = record {
              client = ticks limits wire cc_ p.client x p.client_place c was.holds.client client_same now client_did.0;
              server = ticks limits wire cs p.server y p.server_place s was.holds.server server_same now server_did.0;
              links = was.holds.links;
              lanes = λ l lane at. let lane_was = was.holds.lanes l lane at in record {
                to_server = lane_was.to_server ∙ sym (client_quiet.lent l);
                to_client = lane_was.to_client ∙ sym (server_quiet.lent l);
                was_opened = lane_was.was_opened ∙ sym (client_quiet.names l);
              };
              now = refl;
            };
            kind_is = was.kind_is;
            told = more_told gone between.items (told_text kind wire cs s second) (told_run kind wire t r ++ first_line) told.items then_told server_did.1;
          },
        ),
      )

-- ---- a link is opened, or accepted

abbrev pub AttachesTo : TextKind → ℕ → ℕ → Player → Player → Bool → ℕ → ℕ → List ℕ → List ℕ → Type 0
AttachesTo kind link now old new taken before after text_before text_after = OfEach old (λ wire c h. was_on link (in_frames wire c h) ≡ false → moment (in_frames wire c h) ≤ now →
    Plays wire c new (steps_of (attaching c (in_frames wire c h) link now ∷ []) ++ h) × Tries c (in_frames wire c h) link now taken before after
    × (text_after ≡ text_before ++ told_text kind wire c h (attaching c (in_frames wire c h) link now)))

module _ (worlds : RunsAreWorlds) (sound : WireIsSound) (untouched : UnusedIsUntouched) (empty : UnusedIsEmpty) where
  pub client_opens : (p : Pair) (x : Player) (number place : ℕ) (told : Vec ℕ Global) (lanes : Vec LinkBytes Global) (lane : LinkBytes) (taken : Bool)
      → number ≡ length p.lanes.items → AttachesTo p.kind number p.now p.client x taken p.client_place place p.told.items told.items → limits_at x ≡ limits_at p.client
      → lanes.items ≡ p.lanes.items ++ lane ∷ [] → lane.to_server.items ≡ [] → lane.to_client.items ≡ [] → lane.opened ≡ taken
      → GoesOn p action.Open (record p { client = x; client_place = place; lanes = lanes; told = told })
  client_opens p x number place told lanes lane taken numbered did same grown no_server no_client whether kind gone limits wire t actions r was turn =
      let c = history Client (world_of r) in
      let s = history Server (world_of r) in
      let own_config = config Client t in
      let k = in_frames wire own_config c in
      let world = the_world worlds sound kind gone limits wire t actions r p was in
      let link = opened actions in
      let unused : was_on link k ≡ false = not_on (was_on link k) (λ e. omega (arith, world.opened_links link e)) in
      let server_unused : was_on link (in_frames wire (config Server t) s) ≡ false =
      not_on (was_on link (in_frames wire (config Server t) s)) (λ e. omega (arith, accepted_is_open actions link was.turns (world.accepted_links link e))) in
      let done = subst (λ now. AttachesTo p.kind link now p.client x taken p.client_place place p.told.items told.items) was.holds.now
      (subst (λ link. AttachesTo p.kind link p.now p.client x taken p.client_place place p.told.items told.items) (numbered ∙ was.holds.links) did) wire own_config c was.holds.client.plays unused (world.in_time Client) in
      let d = attaching own_config k link (moment_after actions) in
      let tried = attached wire own_config c link (moment_after actions) taken p.client_place place done.1 in
      client_did kind gone limits wire t actions r p (record p { client = x; client_place = place; lanes = lanes; told = told }) action.Open was turn refl (d ∷ []) refl
      (record {
        client = attaches limits wire own_config p.client x p.client_place c was.holds.client same untouched empty link (moment_after actions) unused taken place done.1 done.0;
        server = was.holds.server;
        links = omega (arith, ap length grown, length-append p.lanes.items (lane ∷ []), was.holds.links);
        lanes = λ l other_lane at. ⊎_elim
            (λ old. let lane_was = was.holds.lanes l other_lane old in
            let apart : l ≡ link → ⊥ = λ e. omega (arith, e, slice_get_within p.lanes.items l other_lane old, was.holds.links) in record {
              to_server = lane_was.to_server ∙ sym (tried.lent l);
              to_client = lane_was.to_client;
              was_opened = lane_was.was_opened ∙ sym (tried.others l apart);
            })
            (λ new. let l_is : link ≡ l = sym (new.0 ∙ was.holds.links) in
            subst (λ other_lane. IsLane wire t (steps_of (d ∷ []) ++ c) s l other_lane) new.1
            (subst (λ l. IsLane wire t (steps_of (d ∷ []) ++ c) s l lane) l_is (record {
              to_server = no_server ∙ sym (tried.lent link ∙ (empty wire own_config c link unused).0);
              to_client = no_client ∙ sym (empty wire (config Server t) s link server_unused).0;
              was_opened = whether ∙ tried.here unused;
            })))
            (get_last p.lanes.items lane l other_lane (ap (λ xs. slice_get xs l) (sym grown) ∙ at));
        now = was.holds.now;
      })
      done.2

  pub server_accepts : (p : Pair) (x : Player) (link place : ℕ) (told : Vec ℕ Global) (lane : LinkBytes) (taken : Bool)
      → slice_get p.lanes.items link ≡ Some lane → lane.opened ≡ true
      → AttachesTo p.kind link p.now p.server x taken p.server_place place p.told.items told.items → limits_at x ≡ limits_at p.server
      → GoesOn p (action.Accept link) (record p { server = x; server_place = place; told = told })
  server_accepts p x link place told lane taken at there did same kind gone limits wire t actions r was turn =
      let c = history Client (world_of r) in
      let s = history Server (world_of r) in
      let own_config = config Server t in
      let k = in_frames wire own_config s in
      let world = the_world worlds sound kind gone limits wire t actions r p was in
      let unused : was_on link k ≡ false = not_on (was_on link k) (λ e. turn.1 (world.accepted_links link e)) in
      let on : was_on link (in_frames wire (config Client t) c) ≡ true = sym (was.holds.lanes link lane at).was_opened ∙ there in
      let done = subst (λ now. AttachesTo p.kind link now p.server x taken p.server_place place p.told.items told.items) was.holds.now did
      wire own_config s was.holds.server.plays unused (world.in_time Server) in
      let d = attaching own_config k link (moment_after actions) in
      let tried = attached wire own_config s link (moment_after actions) taken p.server_place place done.1 in
      server_did kind gone limits wire t actions r p (record p { server = x; server_place = place; told = told }) (action.Accept link) was turn refl (d ∷ [])
      (ap (λ b. if b then by Server d ∷ [] else []) (sym on))
      (server_quiet limits wire t actions (action.Accept link) c s p (record p { server = x; server_place = place; told = told }) was.holds refl refl was.holds.now (steps_of (d ∷ []) ++ s)
      (attaches limits wire own_config p.server x p.server_place s was.holds.server same untouched empty link (moment_after actions) unused taken place done.1 done.0) tried.lent refl refl)
      done.2

-- the client isn't there
pub none_accepted : (p : Pair) (link : ℕ) (lane : LinkBytes) → slice_get p.lanes.items link ≡ Some lane → lane.opened ≡ false → GoesOn p (action.Accept link) p
none_accepted p link lane at off_line kind gone limits wire t actions r was turn =
    let c = history Client (world_of r) in
    let s = history Server (world_of r) in
    let off : was_on link (in_frames wire (config Client t) c) ≡ false = sym (was.holds.lanes link lane at).was_opened ∙ off_line in
    server_did kind gone limits wire t actions r p p (action.Accept link) was turn refl []
    (ap (λ b. if b then by Server (attaching (config Server t) (in_frames wire (config Server t) s) link (moment_after actions)) ∷ [] else []) (sym off))
    (server_quiet limits wire t actions (action.Accept link) c s p p was.holds refl refl was.holds.now s was.holds.server (λ l. refl) refl refl)
    (sym (append-nil p.told.items))

-- ---- an end writes

-- the end stands on this link
abbrev pub IsOn : Option ℕ → Player → Type 0
IsOn o p = OfEach p (λ wire c h. o ≡ present_link (in_frames wire c h))

abbrev pub WritesTo : TextKind → Side → Count → Player → Player → LinkBytes → LinkBytes → List ℕ → List ℕ → Type 0
WritesTo kind side count old new lane_old lane_new before after = OfEach old (λ wire c h. (ss : List ByteStep) × (FollowUpTo (most_of count) (writing wire c) h ss
    × Plays wire c new (ss ++ h) × (said_by side lane_new ≡ said_by side lane_old ++ lent_text wire c h ss) × (after ≡ before ++ steps_text kind wire c h ss)))

pub client_writes_none : (p : Pair) (count : Count) (side : Side) → side ≡ Client → IsOn None p.client → GoesOn p (action.Write side count) p
client_writes_none p count side e off = subst (λ side. GoesOn p (action.Write side count) p) (sym e) (λ kind gone limits wire t actions r was turn.
    let h = history Client (world_of r) in
    let at = off wire (config Client t) h was.holds.client.plays in
    client_did kind gone limits wire t actions r p p (action.Write Client count) was turn refl [] ([], (none_written count wire (config Client t) h (sym at), refl))
    (client_quiet limits wire t actions (action.Write Client count) (history Client (world_of r)) (history Server (world_of r)) p p was.holds refl refl was.holds.now h was.holds.client (nothing wire (config Client t) h) refl refl)
    (sym (append-nil p.told.items)))

pub server_writes_none : (p : Pair) (count : Count) (side : Side) → side ≡ Server → IsOn None p.server → GoesOn p (action.Write side count) p
server_writes_none p count side e off = subst (λ side. GoesOn p (action.Write side count) p) (sym e) (λ kind gone limits wire t actions r was turn.
    let h = history Server (world_of r) in
    let at = off wire (config Server t) h was.holds.server.plays in
    server_did kind gone limits wire t actions r p p (action.Write Server count) was turn refl [] ([], (none_written count wire (config Server t) h (sym at), refl))
    (server_quiet limits wire t actions (action.Write Server count) (history Client (world_of r)) (history Server (world_of r)) p p was.holds refl refl was.holds.now h was.holds.server (λ l. refl) refl refl)
    (sym (append-nil p.told.items)))

pub client_reads_none : (p : Pair) (count : Count) (side : Side) → side ≡ Client → IsOn None p.client → GoesOn p (action.Read side count) p
client_reads_none p count side e off = subst (λ side. GoesOn p (action.Read side count) p) (sym e) (λ kind gone limits wire t actions r was turn.
    let h = history Client (world_of r) in
    let at = off wire (config Client t) h was.holds.client.plays in
    client_did kind gone limits wire t actions r p p (action.Read Client count) was turn refl []
    ([], ((tt, none_read limits wire (config Client t) (to_be_read wire t (world_of r) Client count (present_link (frames_at wire t (world_of r) Client))) h (sym at)), refl))
    (client_quiet limits wire t actions (action.Read Client count) (history Client (world_of r)) (history Server (world_of r)) p p was.holds refl refl was.holds.now h was.holds.client (nothing wire (config Client t) h) refl refl)
    (sym (append-nil p.told.items)))

pub server_reads_none : (p : Pair) (count : Count) (side : Side) → side ≡ Server → IsOn None p.server → GoesOn p (action.Read side count) p
server_reads_none p count side e off = subst (λ side. GoesOn p (action.Read side count) p) (sym e) (λ kind gone limits wire t actions r was turn.
    let h = history Server (world_of r) in
    let at = off wire (config Server t) h was.holds.server.plays in
    server_did kind gone limits wire t actions r p p (action.Read Server count) was turn refl []
    ([], ((tt, none_read limits wire (config Server t) (to_be_read wire t (world_of r) Server count (present_link (frames_at wire t (world_of r) Server))) h (sym at)), refl))
    (server_quiet limits wire t actions (action.Read Server count) (history Client (world_of r)) (history Server (world_of r)) p p was.holds refl refl was.holds.now h was.holds.server (λ l. refl) refl refl)
    (sym (append-nil p.told.items)))

module _ (facts : FactsHold) (worlds : RunsAreWorlds) (sound : WireIsSound) where
  -- the link where an end stands is there
  client_link : (kind : TextKind) (gone : List ℕ) (limits : Limits) (wire : Wire) (t : Terms) (actions : List Action) (r : Run) (p : Pair) (link : ℕ) → Follows kind gone limits wire t actions r p
      → present_link (frames_at wire t (world_of r) Client) ≡ Some link → link < length p.lanes.items
  client_link kind gone limits wire t actions r p link was at =
      let world = the_world worlds sound kind gone limits wire t actions r p was in
      omega (arith, was.holds.links, world.opened_links link ((facts (limits_at p.client) wire (config Client t) (history Client (world_of r)) was.holds.client.plays.stands.history).is_where_it_was link at))

  server_link : (kind : TextKind) (gone : List ℕ) (limits : Limits) (wire : Wire) (t : Terms) (actions : List Action) (r : Run) (p : Pair) (link : ℕ) → Follows kind gone limits wire t actions r p
      → present_link (frames_at wire t (world_of r) Server) ≡ Some link → link < length p.lanes.items
  server_link kind gone limits wire t actions r p link was at =
      let world = the_world worlds sound kind gone limits wire t actions r p was in
      omega (arith, was.holds.links, accepted_is_open actions link was.turns (world.accepted_links link ((facts (limits_at p.server) wire (config Server t) (history Server (world_of r)) was.holds.server.plays.stands.history).is_where_it_was link at)))

  pub client_never_past : (p : Pair) (a : Action) (link : ℕ) → IsOn (Some link) p.client → length p.lanes.items ≤ link → GoesOn p a p
  client_never_past p a link on past kind gone limits wire t actions r was turn =
      absurd (omega (arith, past, client_link kind gone limits wire t actions r p link was (sym (on wire (config Client t) (history Client (world_of r)) was.holds.client.plays))))

  pub server_never_past : (p : Pair) (a : Action) (link : ℕ) → IsOn (Some link) p.server → length p.lanes.items ≤ link → GoesOn p a p
  server_never_past p a link on past kind gone limits wire t actions r was turn =
      absurd (omega (arith, past, server_link kind gone limits wire t actions r p link was (sym (on wire (config Server t) (history Server (world_of r)) was.holds.server.plays))))

pub client_writes : LentComesLast → LentStays → (p : Pair) (x : Player) (link : ℕ) (lane new_lane : LinkBytes) (lanes : Vec LinkBytes Global) (told : Vec ℕ Global) (count : Count) (side : Side) → side ≡ Client
    → IsOn (Some link) p.client → slice_get p.lanes.items link ≡ Some lane → lanes.items ≡ slice_set p.lanes.items link new_lane
    → said_by (other side) new_lane ≡ said_by (other side) lane → new_lane.opened ≡ lane.opened → WritesTo p.kind side count p.client x lane new_lane p.told.items told.items → limits_at x ≡ limits_at p.client
    → GoesOn p (action.Write side count) (record p { client = x; lanes = lanes; told = told })
client_writes last stays p x link lane new_lane lanes told count side e on there set_is kept kept_open did same = subst (λ side. said_by (other side) new_lane ≡ said_by (other side) lane
    → WritesTo p.kind side count p.client x lane new_lane p.told.items told.items → GoesOn p (action.Write side count) (record p { client = x; lanes = lanes; told = told })) (sym e) goes kept did
  where
    goes : said_by Server new_lane ≡ said_by Server lane → WritesTo p.kind Client count p.client x lane new_lane p.told.items told.items → GoesOn p (action.Write Client count) (record p { client = x; lanes = lanes; told = told })
    goes kept did kind gone limits wire t actions r was turn =
        let h = history Client (world_of r) in
        let c = config Client t in
        let at = sym (on wire c h was.holds.client.plays) in
        let done = did wire c h was.holds.client.plays in
        let ss = done.0 in
        let lent = are_lent wire c h ss (follow_of count (writing wire c) h ss done.1.0) in
        let is = subst (λ x. IsHistory x wire c (ss ++ h)) (same ∙ was.holds.client.keeps) done.1.1.stands.history in
        let made = map Makes ss in
        client_did kind gone limits wire t actions r p (record p { client = x; lanes = lanes; told = told }) (action.Write Client count) was turn refl made (ss, (done.1.0, sym (made_is Client ss)))
        (subst (λ y. Holds limits wire t (action.Write Client count ∷ actions) (y ++ h) (history Server (world_of r)) (record p { client = x; lanes = lanes; told = told })) (sym (steps_made ss)) (record {
          client = writes limits wire c p.client x p.client_place h ss was.holds.client same lent done.1.1;
          server = was.holds.server;
          links = ap length set_is ∙ length-set p.lanes.items link new_lane ∙ was.holds.links;
          lanes = λ j lane_now at_now. ⊎_elim
              (λ g. subst (λ y. IsLane wire t (ss ++ h) (history Server (world_of r)) j y) g.1 (subst (λ j. IsLane wire t (ss ++ h) (history Server (world_of r)) j new_lane) (sym g.0) (
              let lane_was = was.holds.lanes link lane there in record {
                to_server = done.1.2 ∙ ap (λ x. x ++ lent_text wire c h ss) lane_was.to_server ∙ sym (said_here last wire c link h ss at lent);
                to_client = kept ∙ lane_was.to_client;
                was_opened = kept_open ∙ lane_was.was_opened ∙ sym (same_names wire c link h ss lent);
              })))
              (λ g. let lane_was = was.holds.lanes j lane_now g.1 in record {
                to_server = lane_was.to_server ∙ sym (said_elsewhere stays limits wire c link j h ss at (λ e. g.0 (sym e)) lent is);
                to_client = lane_was.to_client;
                was_opened = lane_was.was_opened ∙ sym (same_names wire c j h ss lent);
              })
              (get_set p.lanes.items link new_lane j lane_now (ap (λ xs. slice_get xs j) (sym set_is) ∙ at_now));
          now = was.holds.now;
        }))
        (done.1.3 ∙ ap (λ x. p.told.items ++ x) (sym (text_made p.kind wire c h ss)))

pub server_writes : LentComesLast → LentStays → (p : Pair) (x : Player) (link : ℕ) (lane new_lane : LinkBytes) (lanes : Vec LinkBytes Global) (told : Vec ℕ Global) (count : Count) (side : Side) → side ≡ Server
    → IsOn (Some link) p.server → slice_get p.lanes.items link ≡ Some lane → lanes.items ≡ slice_set p.lanes.items link new_lane
    → said_by (other side) new_lane ≡ said_by (other side) lane → new_lane.opened ≡ lane.opened → WritesTo p.kind side count p.server x lane new_lane p.told.items told.items → limits_at x ≡ limits_at p.server
    → GoesOn p (action.Write side count) (record p { server = x; lanes = lanes; told = told })
server_writes last stays p x link lane new_lane lanes told count side e on there set_is kept kept_open did same = subst (λ side. said_by (other side) new_lane ≡ said_by (other side) lane
    → WritesTo p.kind side count p.server x lane new_lane p.told.items told.items → GoesOn p (action.Write side count) (record p { server = x; lanes = lanes; told = told })) (sym e) goes kept did
  where
    goes : said_by Client new_lane ≡ said_by Client lane → WritesTo p.kind Server count p.server x lane new_lane p.told.items told.items → GoesOn p (action.Write Server count) (record p { server = x; lanes = lanes; told = told })
    goes kept did kind gone limits wire t actions r was turn =
        let h = history Server (world_of r) in
        let c = config Server t in
        let at = sym (on wire c h was.holds.server.plays) in
        let done = did wire c h was.holds.server.plays in
        let ss = done.0 in
        let lent = are_lent wire c h ss (follow_of count (writing wire c) h ss done.1.0) in
        let is = subst (λ x. IsHistory x wire c (ss ++ h)) (same ∙ was.holds.server.keeps) done.1.1.stands.history in
        let made = map Makes ss in
        server_did kind gone limits wire t actions r p (record p { server = x; lanes = lanes; told = told }) (action.Write Server count) was turn refl made (ss, (done.1.0, sym (made_is Server ss)))
        (subst (λ y. Holds limits wire t (action.Write Server count ∷ actions) (history Client (world_of r)) (y ++ h) (record p { server = x; lanes = lanes; told = told })) (sym (steps_made ss)) (record {
          server = writes limits wire c p.server x p.server_place h ss was.holds.server same lent done.1.1;
          client = was.holds.client;
          links = ap length set_is ∙ length-set p.lanes.items link new_lane ∙ was.holds.links;
          lanes = λ j lane_now at_now. ⊎_elim
              (λ g. subst (λ y. IsLane wire t (history Client (world_of r)) (ss ++ h) j y) g.1 (subst (λ j. IsLane wire t (history Client (world_of r)) (ss ++ h) j new_lane) (sym g.0) (
              let lane_was = was.holds.lanes link lane there in record {
                to_client = done.1.2 ∙ ap (λ x. x ++ lent_text wire c h ss) lane_was.to_client ∙ sym (said_here last wire c link h ss at lent);
                to_server = kept ∙ lane_was.to_server;
                was_opened = kept_open ∙ lane_was.was_opened;
              })))
              (λ g. let lane_was = was.holds.lanes j lane_now g.1 in record {
                to_client = lane_was.to_client ∙ sym (said_elsewhere stays limits wire c link j h ss at (λ e. g.0 (sym e)) lent is);
                to_server = lane_was.to_server;
                was_opened = lane_was.was_opened;
              })
              (get_set p.lanes.items link new_lane j lane_now (ap (λ xs. slice_get xs j) (sym set_is) ∙ at_now));
          now = was.holds.now;
        }))
        (done.1.3 ∙ ap (λ x. p.told.items ++ x) (sym (text_made p.kind wire c h ss)))

-- ---- an end reads

abbrev pub ReadsFrom : TextKind → Count → Player → Player → List ℕ → ℕ → ℕ → List ℕ → List ℕ → Type 0
ReadsFrom kind count old new said before after text_before text_after = OfEach old (λ wire c h. (l : ℕ) → MayRead wire c h l before said →
    (ss : List ByteStep) × (FollowAll (reading (limits_at old) wire c (read_in_all count (length (bytes_on l h)) said)) h ss
    × Plays wire c new (ss ++ h) × (text_after ≡ text_before ++ steps_text kind wire c h ss)
    × (is_closed c (in_frames wire c h) ≡ false → after ≡ length (read_in_all count (length (bytes_on l h)) said))))

prefix_length : (xs ys : List ℕ) → IsPrefix xs ys → length xs ≤ length ys
prefix_length xs ys p = let e = sym (length-append xs p.0) ∙ ap length p.1 in omega (arith, e)

module _ (taken : FramesAreTaken) (worlds : RunsAreWorlds) (sound : WireIsSound) (fed_is_lent : FedIsLent) (stays : LentStays) (unseen : FedIsUnseen) (room : TakenHasRoom) where
  pub client_reads : (p : Pair) (x : Player) (link place : ℕ) (told : Vec ℕ Global) (lane : LinkBytes) (count : Count) (side : Side) → side ≡ Client
      → IsOn (Some link) p.client → slice_get p.lanes.items link ≡ Some lane → ReadsFrom p.kind count p.client x (said_by Server lane) p.client_place place p.told.items told.items
      → limits_at x ≡ limits_at p.client → GoesOn p (action.Read side count) (record p { client = x; client_place = place; told = told })
  client_reads p x link place told lane count side e on there did same = subst (λ side. GoesOn p (action.Read side count) (record p { client = x; client_place = place; told = told })) (sym e) goes
    where
      goes : GoesOn p (action.Read Client count) (record p { client = x; client_place = place; told = told })
      goes kind gone limits wire t actions r was turn =
          let h = history Client (world_of r) in
          let c = config Client t in
          let at = sym (on wire c h was.holds.client.plays) in
          let world = the_world worlds sound kind gone limits wire t actions r p was in
          let soundly = sound limits wire (subst (λ x. IsHouseWire x.frame wire) was.holds.client.keeps was.holds.client.plays.stands.house) in
          let lane_is = (was.holds.lanes link lane there).to_client in
          let front = subst (λ said. IsPrefix (bytes_on link h) said) (sym lane_is) (fed_is_lent (alike limits) wire t (world_of r) Client link world.world) in
          let all = read_in_all count (length (bytes_on link h)) (said_by Server lane) in
          let done = did wire c h was.holds.client.plays link (record {
            here = at;
            took_all = processes_none c (in_frames wire c h) was.holds.client.took_all;
            read_to = λ live. was.holds.client.read_to link at live;
            within = prefix_length (bytes_on link h) (said_by Server lane) front;
          }) in
          let ss = done.0 in
          let follows = subst (λ x. FollowAll (reading x wire c all) h ss) was.holds.client.keeps done.1.0 in
          let to_read : all ≡ to_be_read wire t (world_of r) Client count (present_link (frames_at wire t (world_of r) Client)) =
          ap (read_in_all count (length (bytes_on link h))) lane_is ∙ ap (to_be_read wire t (world_of r) Client count) (sym at) in
          let is = subst (λ x. IsHistory x wire c (ss ++ h)) (same ∙ was.holds.client.keeps) done.1.1.stands.history in
          let made = map Makes ss in
          client_did kind gone limits wire t actions r p (record p { client = x; client_place = place; told = told }) (action.Read Client count) was turn refl made
          (ss, (subst (λ all. FollowAll (reading limits wire c all) h ss) to_read follows, sym (made_is Client ss)))
          (client_quiet limits wire t actions (action.Read Client count) (history Client (world_of r)) (history Server (world_of r)) p (record p { client = x; client_place = place; told = told }) was.holds refl refl was.holds.now
          (steps_of made ++ h)
          (subst (λ y. IsPlayed limits wire c x place (y ++ h)) (sym (steps_made ss))
          (reads taken stays unseen room limits wire soundly c link all h ss at follows is p.client x p.client_place place was.holds.client same (front_of_all count (bytes_on link h) (said_by Server lane) front) done.1.3 done.1.1))
          (subst (λ y. SaysNothing wire c h (y ++ h)) (sym (steps_made ss)) (record { lent = said_as_before taken stays unseen room limits wire soundly c link all h ss at follows is; names = named_as_before taken stays unseen room limits wire soundly c link all h ss at follows is })) refl refl)
          (done.1.2 ∙ ap (λ x. p.told.items ++ x) (sym (text_made p.kind wire c h ss)))

  pub server_reads : (p : Pair) (x : Player) (link place : ℕ) (told : Vec ℕ Global) (lane : LinkBytes) (count : Count) (side : Side) → side ≡ Server
      → IsOn (Some link) p.server → slice_get p.lanes.items link ≡ Some lane → ReadsFrom p.kind count p.server x (said_by Client lane) p.server_place place p.told.items told.items
      → limits_at x ≡ limits_at p.server → GoesOn p (action.Read side count) (record p { server = x; server_place = place; told = told })
  server_reads p x link place told lane count side e on there did same = subst (λ side. GoesOn p (action.Read side count) (record p { server = x; server_place = place; told = told })) (sym e) goes
    where
      goes : GoesOn p (action.Read Server count) (record p { server = x; server_place = place; told = told })
      goes kind gone limits wire t actions r was turn =
          let h = history Server (world_of r) in
          let c = config Server t in
          let at = sym (on wire c h was.holds.server.plays) in
          let world = the_world worlds sound kind gone limits wire t actions r p was in
          let soundly = sound limits wire (subst (λ x. IsHouseWire x.frame wire) was.holds.client.keeps was.holds.client.plays.stands.house) in
          let lane_is = (was.holds.lanes link lane there).to_server in
          let front = subst (λ said. IsPrefix (bytes_on link h) said) (sym lane_is) (fed_is_lent (alike limits) wire t (world_of r) Server link world.world) in
          let all = read_in_all count (length (bytes_on link h)) (said_by Client lane) in
          let done = did wire c h was.holds.server.plays link (record {
            here = at;
            took_all = processes_none c (in_frames wire c h) was.holds.server.took_all;
            read_to = λ live. was.holds.server.read_to link at live;
            within = prefix_length (bytes_on link h) (said_by Client lane) front;
          }) in
          let ss = done.0 in
          let follows = subst (λ x. FollowAll (reading x wire c all) h ss) was.holds.server.keeps done.1.0 in
          let to_read : all ≡ to_be_read wire t (world_of r) Server count (present_link (frames_at wire t (world_of r) Server)) =
          ap (read_in_all count (length (bytes_on link h))) lane_is ∙ ap (to_be_read wire t (world_of r) Server count) (sym at) in
          let is = subst (λ x. IsHistory x wire c (ss ++ h)) (same ∙ was.holds.server.keeps) done.1.1.stands.history in
          let made = map Makes ss in
          server_did kind gone limits wire t actions r p (record p { server = x; server_place = place; told = told }) (action.Read Server count) was turn refl made
          (ss, (subst (λ all. FollowAll (reading limits wire c all) h ss) to_read follows, sym (made_is Server ss)))
          (server_quiet limits wire t actions (action.Read Server count) (history Client (world_of r)) (history Server (world_of r)) p (record p { server = x; server_place = place; told = told }) was.holds refl refl was.holds.now
          (steps_of made ++ h)
          (subst (λ y. IsPlayed limits wire c x place (y ++ h)) (sym (steps_made ss))
          (reads taken stays unseen room limits wire soundly c link all h ss at follows is p.server x p.server_place place was.holds.server same (front_of_all count (bytes_on link h) (said_by Client lane) front) done.1.3 done.1.1))
          (λ l. ap (λ y. lent_bytes wire c l (y ++ h)) (steps_made ss) ∙ said_as_before taken stays unseen room limits wire soundly c link all h ss at follows is l) refl refl)
          (done.1.2 ∙ ap (λ x. p.told.items ++ x) (sym (text_made p.kind wire c h ss)))

-- ---- the report

pub standing_told : FedIsUnseen → (side : Side) (p : Player) (state : State) (sent processed held : ℕ) (before after : List ℕ) → OfEach p (λ wire c h. state ≡ of.state c (in_frames wire c h))
    → OfEach p (λ wire c h. sent ≡ length (of.sent_messages (in_frames wire c h))) → OfEach p (λ wire c h. processed ≡ length (of.processed_messages (in_frames wire c h)))
    → OfEach p (λ wire c h. held ≡ length (of.held_messages c (in_frames wire c h)))
    → after ≡ before ++ standing_line side state sent processed held → OfEach p (λ wire c h. after ≡ before ++ standing_text side c (bare_steps h))
standing_told unseen side p state sent processed held before after states sents processes helds told wire c h plays =
    told
    ∙ ap (λ x. before ++ standing_line side x sent processed held) (states wire c h plays ∙ (unseen wire c h).stands)
    ∙ ap (λ x. before ++ standing_line side (of.state c (bare_steps h)) x processed held) (sents wire c h plays ∙ ap length (unseen wire c h).sends)
    ∙ ap (λ x. before ++ standing_line side (of.state c (bare_steps h)) (length (of.sent_messages (bare_steps h))) x held) (processes wire c h plays ∙ ap length (unseen wire c h).processes)
    ∙ ap (λ x. before ++ standing_line side (of.state c (bare_steps h)) (length (of.sent_messages (bare_steps h))) (length (of.processed_messages (bare_steps h))) x)
    (helds wire c h plays ∙ ap length (unseen wire c h).holds)

-- what is told as a report is the text of the run
reported : (wire : Wire) (t : Terms) (r : Run) → told_run kinds.Report wire t r ≡ run_text r
reported wire t [] = refl
reported wire t (ByClient d ∷ r) = ap (λ x. x ++ doing_text Client (bare_steps (history Client (world_of r))) d) (reported wire t r)
reported wire t (ByServer d ∷ r) = ap (λ x. x ++ doing_text Server (bare_steps (history Server (world_of r))) d) (reported wire t r)

pub finished : (p : Pair) (between text : List ℕ) → OfEach p.client (λ wire c h. between ≡ p.told.items ++ standing_text Client c (bare_steps h))
    → OfEach p.server (λ wire c h. text ≡ between ++ standing_text Server c (bare_steps h))
    → (limits : Limits) (wire : Wire) (t : Terms) (actions : List Action) (r : Run) → Follows kinds.Report [] limits wire t actions r p → text ≡ report_text t r
finished p between text client server limits wire t actions r was =
    let x = standing_text Client (config Client t) (bare_steps (history Client (world_of r))) in
    let y = standing_text Server (config Server t) (bare_steps (history Server (world_of r))) in
    server wire (config Server t) (history Server (world_of r)) was.holds.server.plays
    ∙ ap (λ z. z ++ y) (client wire (config Client t) (history Client (world_of r)) was.holds.client.plays ∙ ap (λ z. z ++ x) (was.told ∙ reported wire t r))
    ∙ append_assoc (run_text r) x y
