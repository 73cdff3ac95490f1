-- A first session, step by step. The histories are written out, the latest doing first.
use Rattle.std.proofs.Common.{inl, inr, refl, subst, sym, ◌≡◌, ℕ, Bool, true, false, List, [], ◌∷◌, ◌++◌, Some, None}
use Rattle.std.specs.Prelude.{codes, ◌==◌}
use Rattle.std.proofs.lemmas.Bool.{leb-true, ltb-true, eqb-true}
use Rattle.form_urlencoded.proofs.OnLiterals.{form_urlencoded_on_literals}
use Rattle.hv_value.specs.Tree.{text}
use Rattle.hv_value.specs.declared.value.Value.TheVariants as value
use Rattle.hm_message.specs.declared.message.Codec.TheVariants.{Json}
use Rattle.hm_message.specs.declared.message.Message.{Message}
use Rattle.hm_message.specs.declared.message.Message.TheVariants.{Invocation, Completion}
use Rattle.hm_message.specs.declared.message.Ending.TheVariants.{Void}
use Rattle.hd_delivery.specs.declared.vocabulary.Got.TheVariants.{Shaken}
use Rattle.hd_delivery.specs.Frames.{Response, Numbered}
use Rattle.hd_delivery.specs.Histories.{Attached, Took, Lent, Ticked}
use Rattle.hd_delivery.specs.Bytes.{Bytes}
use Rattle.hd_delivery.specs.Bytes.{Does as Step_of}
use Rattle.hd_calls.specs.declared.vocabulary.Deed.TheVariants.{Join}
use Rattle.hd_calls.specs.declared.vocabulary.Input.TheVariants.{Go, Done}
use Rattle.hd_calls.specs.declared.vocabulary.Act.TheVariants.{Do, End}
use Rattle.hd_calls.specs.Hubs.{Call, Invoked, Given}
use Rattle.hd_calls.specs.Peers.{Begins, PeerEvent, Plain, Reads, Handles, Runs, Answers, Settings}
use Rattle.hd_calls.specs.Peers as peers
use Rattle.hd_calls.specs.Rules.{IsPeer}
use Rattle.hd_rooms.specs.Rooms.{rooms}
use Rattle.hw_door.specs.declared.heard.Event.TheVariants as event
use Rattle.hd_server.specs.declared.vocabulary.Said.TheVariants as say
use Rattle.hd_server.specs.Lives.{Opened, Socketed}
use Rattle.hd_server.specs.Machine.{MachineEvent, Connects, Does, Rounds, Carries, settings_of, moves, ArePeers}
use Rattle.hd_server.specs.Doings.{ServerEvent, Hears, Notes, Works, Says, Sees, work}
use Rattle.hd_server.specs.Plans.{peer_settings, socket_reply}
use Rattle.hd_server.specs.Serves.{IsTurn, ServesOne}
use Rattle.hd_server.specs.TableExamples.{key}
use Rattle.hd_server.specs.Sessions.{plain_socket, setup, wrote, joins_a_room, IsServed}

-- ---- of one connection

-- where connection 1 alone has a peer, and that is one, all are
only-one : (w : List MachineEvent) (t : Settings) → settings_of 1 w ≡ Some t → ((c : ℕ) → (c == 1) ≡ false → settings_of c w ≡ None)
    → IsPeer rooms t (moves 1 w) → ArePeers rooms w
only-one w t at others p c u e = by (c == 1) refl where
  by : (b : Bool) → (c == 1) ≡ b → IsPeer rooms u (moves c w)
  by true f =
      let is : c ≡ 1 = eqb-true c 1 f in
      let there : settings_of 1 w ≡ Some u = subst (λ k. settings_of k w ≡ Some u) is e in
      let same : t ≡ u = cc in
      subst (λ k. IsPeer rooms u (moves k w)) (sym is) (subst (λ v. IsPeer rooms v (moves 1 w)) same p)
  by false f = let none = others c f in absurd (cc)

abbrev settings : Settings
settings = peer_settings setup 1 None false

abbrev does : PeerEvent → ServerEvent
does m = Works (Does 1 m)

abbrev ticks : PeerEvent
ticks = Plain (Step_of (Ticked 0))

-- ---- a socket is accepted

abbrev accepted : List ServerEvent
accepted =
    Says (say.Reply 1 (socket_reply key)) ∷ Notes (Socketed 1 1 0) ∷ does (Plain (Step_of (Attached 0 0))) ∷ Works (Connects 1 settings None) ∷
    Notes (Opened 1 0) ∷ Hears 0 (plain_socket 1) ∷ []

abbrev first : List ServerEvent
first = Works (Rounds 0) ∷ does ticks ∷ accepted

abbrev first_moves : List PeerEvent
first_moves = peers.Rounds ∷ ticks ∷ Plain (Step_of (Attached 0 0)) ∷ []

first_peer : IsPeer rooms settings first_moves
first_peer = record {
  follows = (((tt, tt), tt), tt);
  prompt = (((tt, inl refl), inl refl), inl refl);
  is_history = ((tt, record { unclosed = refl; granted = inl refl; unused = refl; in_time = leb-true _ _ refl }), (refl, leb-true _ _ refl));
}

first_turn : IsTurn rooms setup 0 (plain_socket 1) [] first
unfolding form_urlencoded_on_literals
first_turn = record {
  name = None;
  drawn = None;
  of_sixteen = tt;
  expired = Hears 0 (plain_socket 1) ∷ [];
  expires = refl;
  asked = Hears 0 (plain_socket 1) ∷ [];
  asks = refl;
  begun = accepted;
  begins = refl;
  fed = accepted;
  feeds = refl;
  handled = accepted;
  handles = refl;
  ticked = does ticks ∷ accepted;
  has_ticked = refl;
  round = [];
  rounds = record { each = tt; settled = refl; over = refl };
  stepped = first;
  has_stepped = refl;
  pieces = [] ∷ [];
  all_due = ((tt, refl), tt);
  tells = refl;
  peers = only-one (work first) settings refl (λ c e. rw e refl) first_peer;
}

-- ---- hands are shaken

abbrev heard : List ServerEvent
heard = Hears 0 (event.Bytes 1 (1 ∷ [])) ∷ first

abbrev new_moves : List PeerEvent
new_moves = Plain (Step_of (Took (Shaken Json 1))) ∷ Plain (Bytes (1 ∷ [])) ∷ []

abbrev shaken : List ServerEvent
shaken = does (Plain (Step_of (Took (Shaken Json 1)))) ∷ does (Plain (Bytes (1 ∷ []))) ∷ heard

abbrev stepped : List ServerEvent
stepped = Works (Rounds 0) ∷ does ticks ∷ shaken

abbrev second : List ServerEvent
second = Says (wrote 1 (codes "{}")) ∷ does (Plain (Step_of (Lent Response))) ∷ stepped

-- the door answers that the lane isn't full
abbrev second_seen : List ServerEvent
second_seen = Sees 1 false ∷ second

abbrev second_moves : List PeerEvent
second_moves = Plain (Step_of (Lent Response)) ∷ peers.Rounds ∷ ticks ∷ new_moves ++ first_moves

second_peer : IsPeer rooms settings second_moves
second_peer = record {
  follows = (((((first_peer.follows, tt), refl), tt), tt), tt);
  prompt = (((((first_peer.prompt, inl refl), inl refl), inl refl), inl refl), inl refl);
  is_history = (
    (((first_peer.is_history, record { link = 0; at = refl; unclosed = refl; few = leb-true _ _ refl }), refl), (refl, leb-true _ _ refl)),
    refl,
  );
}

second_turn : IsTurn rooms setup 0 (event.Bytes 1 (1 ∷ [])) first second
second_turn = record {
  name = None;
  drawn = None;
  of_sixteen = tt;
  expired = heard;
  expires = refl;
  asked = heard;
  asks = refl;
  begun = heard;
  begins = refl;
  fed = shaken;
  feeds = record {
    settings = settings;
    begun = refl;
    pieces = (1 ∷ []) ∷ [];
    moves = new_moves;
    feeds = (
      refl,
      inl refl,
      refl,
      (
        new_moves ++ first_moves,
        record { taken = Plain (Step_of (Took (Shaken Json 1))) ∷ []; are = refl; each = refl; none_waits = refl; none_left = refl },
        (inr (refl, refl), refl),
      ),
    );
    are = refl;
  };
  handled = shaken;
  handles = refl;
  ticked = does ticks ∷ shaken;
  has_ticked = refl;
  round = [];
  rounds = record { each = tt; settled = refl; over = refl };
  stepped = stepped;
  has_stepped = refl;
  pieces = ((Response ∷ []) ∷ []) ∷ [];
  all_due = (((ltb-true _ _ refl, tt), (refl, refl)), tt);
  tells = refl;
  peers = only-one (work second) settings refl (λ c e. rw e refl) second_peer;
}

-- ---- a room is joined: the call begins a job, which hands up a deed at its first turn

abbrev join : Invoked
join = record { way = Call (codes "1"); target = codes "Join"; arguments = text (codes "r") ∷ []; streams = [] }

abbrev joining : Message
joining = Invocation [] (Some (codes "1")) (codes "Join") (text (codes "r") ∷ []) []

abbrev joins : PeerEvent
joins = Runs 0 join 0 (Given Go 0) (Do (Join (codes "r")))

abbrev call_heard : List ServerEvent
call_heard = Hears 0 (event.Bytes 1 (1 ∷ [])) ∷ second_seen

abbrev call_moves : List PeerEvent
call_moves = Handles joining (Begins join 0 false) ∷ Reads joining ∷ Plain (Bytes (1 ∷ [])) ∷ []

abbrev called : List ServerEvent
called = does (Handles joining (Begins join 0 false)) ∷ does (Reads joining) ∷ does (Plain (Bytes (1 ∷ []))) ∷ call_heard

abbrev deed_round : List MachineEvent
deed_round = Carries 1 0 (Join (codes "r")) [] None ∷ Does 1 joins ∷ []

abbrev third : List ServerEvent
third = Works (Carries 1 0 (Join (codes "r")) [] None) ∷ does joins ∷ Works (Rounds 0) ∷ does ticks ∷ called

abbrev third_moves : List PeerEvent
third_moves = Answers 0 (Done value.Null) ∷ joins ∷ peers.Rounds ∷ ticks ∷ call_moves ++ second_moves

third_peer : IsPeer rooms settings third_moves
third_peer = record {
  follows = (
    (
      (((((second_peer.follows, tt), refl), (refl, (refl, refl, ltb-true _ _ refl), refl)), tt), tt),
      record {
        at = refl;
        began = refl;
        may = record { unclosed = refl; room = record { of_count = ltb-true _ _ refl; of_bytes = leb-true _ _ refl }; few = ltb-true _ _ refl };
        next = refl;
        due = (refl, refl, refl);
        is = refl;
      },
    ),
    record { live = refl; handed = refl; unanswered = refl; answers = refl },
  );
  prompt = (((((((second_peer.prompt, inl refl), inl refl), inl refl), inl refl), inl refl), inl refl), inl refl);
  is_history = (
    ((second_peer.is_history, record { link = 0; at = refl; unclosed = refl; few = leb-true _ _ refl }), refl),
    (refl, leb-true _ _ refl),
  );
}

third_turn : IsTurn rooms setup 0 (event.Bytes 1 (1 ∷ [])) second_seen third
third_turn = record {
  name = None;
  drawn = None;
  of_sixteen = tt;
  expired = call_heard;
  expires = refl;
  asked = call_heard;
  asks = refl;
  begun = call_heard;
  begins = refl;
  fed = called;
  feeds = record {
    settings = settings;
    begun = refl;
    pieces = (1 ∷ []) ∷ [];
    moves = call_moves;
    feeds = (
      refl,
      inl refl,
      refl,
      (
        call_moves ++ second_moves,
        record { taken = Handles joining (Begins join 0 false) ∷ Reads joining ∷ []; are = refl; each = refl; none_waits = refl; none_left = refl },
        (inr (refl, refl), refl),
      ),
    );
    are = refl;
  };
  handled = called;
  handles = refl;
  ticked = does ticks ∷ called;
  has_ticked = refl;
  round = deed_round;
  rounds = record {
    each = ((tt, (1, 0, join, 0, Given Go 0, Do (Join (codes "r")), refl, refl, refl, refl)), (None, refl, refl));
    settled = refl;
    over = refl;
  };
  stepped = third;
  has_stepped = refl;
  pieces = [] ∷ [];
  all_due = ((tt, refl), tt);
  tells = refl;
  peers = only-one (work third) settings refl (λ c e. rw e refl) third_peer;
}

-- ---- and ends at its second one, in the next round

abbrev ends : PeerEvent
ends = Runs 0 join 0 (Given (Done value.Null) 0) (End Void)

abbrev ended : Message
ended = Completion [] (codes "1") Void

abbrev quiet : List ServerEvent
quiet = Hears 0 event.Quiet ∷ third

abbrev last_stepped : List ServerEvent
last_stepped = does ends ∷ Works (Rounds 0) ∷ does ticks ∷ quiet

abbrev fourth : List ServerEvent
fourth = Says (wrote 1 (codes "{\"invocationId\":\"1\",\"type\":3}")) ∷ does (Plain (Step_of (Lent (Numbered ended)))) ∷ last_stepped

fourth_peer : IsPeer rooms settings (Plain (Step_of (Lent (Numbered ended))) ∷ ends ∷ peers.Rounds ∷ ticks ∷ third_moves)
fourth_peer = record {
  follows = (
    (
      ((third_peer.follows, tt), tt),
      record {
        at = refl;
        began = refl;
        may = record { unclosed = refl; room = record { of_count = ltb-true _ _ refl; of_bytes = leb-true _ _ refl }; few = ltb-true _ _ refl };
        next = refl;
        due = (refl, refl, refl);
        is = refl;
      },
    ),
    tt,
  );
  prompt = ((((third_peer.prompt, inl refl), inl refl), inl refl), inl refl);
  is_history = (
    (
      (third_peer.is_history, (refl, leb-true _ _ refl)),
      record {
        unclosed = refl;
        shakes = refl;
        few = ltb-true _ _ refl;
        can_be = record { sequenced = refl; fits = leb-true _ _ refl; as_read = refl; short = leb-true _ _ refl };
        room = record { of_count = ltb-true _ _ refl; of_bytes = leb-true _ _ refl };
      },
    ),
    refl,
  );
}

fourth_turn : IsTurn rooms setup 0 event.Quiet third fourth
fourth_turn = record {
  name = None;
  drawn = None;
  of_sixteen = tt;
  expired = quiet;
  expires = refl;
  asked = quiet;
  asks = refl;
  begun = quiet;
  begins = refl;
  fed = quiet;
  feeds = refl;
  handled = quiet;
  handles = refl;
  ticked = does ticks ∷ quiet;
  has_ticked = refl;
  round = Does 1 ends ∷ [];
  rounds = record {
    each = (tt, (1, 0, join, 0, Given (Done value.Null) 0, End Void, refl, refl, refl, refl));
    settled = refl;
    over = refl;
  };
  stepped = last_stepped;
  has_stepped = refl;
  pieces = ((Numbered ended ∷ []) ∷ []) ∷ [];
  all_due = (((ltb-true _ _ refl, tt), (refl, refl)), tt);
  tells = refl;
  peers = only-one (work fourth) settings refl (λ c e. rw e refl) fourth_peer;
}

-- ---- each event with what is seen of what is said at it

first_one : ServesOne rooms setup (record { now = 0; event = plain_socket 1 }) [] first
first_one = record {
  turned = first;
  turn = first_turn;
  words = say.Reply 1 (socket_reply key) ∷ [];
  tells = refl;
  full = [];
  seen = record { each = refl; sees = refl };
}

second_one : ServesOne rooms setup (record { now = 0; event = event.Bytes 1 (1 ∷ []) }) first second_seen
second_one = record {
  turned = second;
  turn = second_turn;
  words = wrote 1 (codes "{}") ∷ [];
  tells = refl;
  full = false ∷ [];
  seen = record { each = refl; sees = refl };
}

third_one : ServesOne rooms setup (record { now = 0; event = event.Bytes 1 (1 ∷ []) }) second_seen third
third_one = record { turned = third; turn = third_turn; words = []; tells = refl; full = []; seen = record { each = refl; sees = refl } }

fourth_one : ServesOne rooms setup (record { now = 0; event = event.Quiet }) third (Sees 1 false ∷ fourth)
fourth_one = record {
  turned = fourth;
  turn = fourth_turn;
  words = wrote 1 (codes "{\"invocationId\":\"1\",\"type\":3}") ∷ [];
  tells = refl;
  full = false ∷ [];
  seen = record { each = refl; sees = refl };
}

pub served : IsServed joins_a_room (say.Reply 1 (socket_reply key) ∷ wrote 1 (codes "{}") ∷ wrote 1 (codes "{\"invocationId\":\"1\",\"type\":3}") ∷ [])
served = (
  Sees 1 false ∷ fourth,
  (
    third,
    (
      second_seen,
      (first, ([], refl, (leb-true _ _ refl, (refl, refl)), first_one), (leb-true _ _ refl, tt), second_one),
      (leb-true _ _ refl, tt),
      third_one,
    ),
    (leb-true _ _ refl, tt),
    fourth_one,
  ),
  refl,
)
