-- Walks over the lanes of some places, put together from their parts.
use Rattle.std.proofs.Common.{◌≡◌, ◌<◌, ◌≤◌, ◌+◌, ◌-◌, ◌++◌, ◌∷◌, [], ℕ, zero, suc, Bool, true, false, ◌||◌, List, Option, None, Some, Result, Ok, Err, IfOk, refl, sym, ap, ◌∙◌, subst, append_assoc, arith, length, take, drop, set, get_or, ltb, Contains}
use Rattle.std.proofs.lemmas.List.{append-nil, length-drop, length-map, get_or-drop, take_more, take_more_set, take_all, take-take, take-set-le, drop_more, drop-drop, drop-set-lt, drop-set-add, drop-take, take-append-drop, nil_from_length, set-get_or}
use Rattle.std.specs.List.{All}
use Rattle.std.proofs.lemmas.List.Elements.{All-drop, All-head, All-tail, All-take, Contains-get_or}
use Rattle.hw_door.specs.declared.heard.Event.{Event}
use Rattle.hw_door.specs.Traffic.{Answer}
use Rattle.hw_net.specs.declared.first_read.FirstRead.{FirstRead}
use Rattle.hw_net.specs.declared.first_read.FirstRead.TheVariants.{NothingRead}
use Rattle.hw_net.specs.declared.limits.TheConstants.{MOST_UNWRITTEN}
use Rattle.hw_net.specs.declared.protocol.Protocol.{Protocol}
use Rattle.hw_net.specs.declared.protocol.Protocol.TheVariants.{Http, Response, Socket}
use Rattle.hw_net.specs.declared.protocol.Stage.{Stage}
use Rattle.hw_net.specs.declared.protocol.Stage.TheVariants.{Live, Lost, Closing, Over}
use Rattle.hw_net.specs.Door.{HearsAll, index_of_first}
use Rattle.hw_net.specs.FirstReads.{ReadsFirst, ReadsFirstAt}
use Rattle.hw_net.specs.declared.full.Fullness.{Fullness}
use Rattle.hw_net.specs.Lane.{Lane, waits, wires_of, full_after_write}
use Rattle.hw_net.specs.Lanes.{DoesHere}
use Rattle.hw_net.specs.Saying.{WritesOut, Says, SaysAt, SaysIfEnded, SaysIfEndedAt, SpeaksAs, must_end}
use Rattle.hw_net.specs.Tally.{has_unwritten, has_unwritten_by, is_closing}
use Rattle.hw_net.specs.Trace.{Tells}
use Rattle.hw_net.specs.Turn.{Listens, Turns, TurnAll}
use Rattle.hw_net.specs.Walks.{Walks, Speak, between}
use Rattle.hw_net.proofs.Telling.{tells-more}

-- ---- turns

-- the lanes after others
turns-append : (now : ℕ) (trace : Option Event) (xs xs' ys ys' : List Lane) (first more : List Answer) (mid heard : Option Event) → TurnAll now trace xs xs' first mid →
    TurnAll now mid ys ys' more heard → TurnAll now trace (xs ++ ys) (xs' ++ ys') (first ++ more) heard
turns-append now trace [] xs' ys ys' first more mid heard h k =
    let at : TurnAll now trace ys ys' more heard = subst (λ m. TurnAll now m ys ys' more heard) h.2 k in
    subst (λ (l : List Lane). TurnAll now trace ys (l ++ ys') (first ++ more) heard) (sym h.0)
    (subst (λ (l : List Answer). TurnAll now trace ys ys' (l ++ more) heard) (sym h.1) at)
turns-append now trace (x ∷ xs) xs' ys ys' first more mid heard h k = (
  h.0,
  h.1,
  h.2 ++ ys',
  h.3,
  h.4 ++ more,
  ap (λ (l : List Lane). l ++ ys') h.5,
  ap (λ (l : List Answer). l ++ more) h.6 ∙ append_assoc h.3 h.4 more,
  h.7,
  turns-append now h.0 xs h.2 ys ys' h.4 more mid heard h.8 k,
)

-- one lane more
turn-more : (now : ℕ) (trace : Option Event) (lanes : List Lane) (after : List Lane) (answers : List Answer) (mid : Option Event) (lane next : Lane) (more : List Answer) (heard : Option Event) →
    TurnAll now trace lanes after answers mid → Turns now mid lane next more heard → TurnAll now trace (lanes ++ lane ∷ []) (after ++ next ∷ []) (answers ++ more) heard
turn-more now trace lanes after answers mid lane next more heard all one =
    turns-append now trace lanes after (lane ∷ []) (next ∷ []) answers more mid heard all (heard, next, [], more, [], refl, sym (append-nil more), one, (refl, refl, refl))

-- ---- places

-- so many lanes from a place on
cut : (begin count : ℕ) (lanes : List Lane) → between begin (begin + count) lanes ≡ take count (drop begin lanes)
cut begin count lanes = ap (λ n. take n (drop begin lanes)) (omega arith)

-- none of them
pub no-walk : (now : ℕ) (trace : Option Event) (begin : ℕ) (lanes : List Lane) → Walks now trace begin begin lanes lanes [] trace
no-walk now trace begin lanes =
    let zero_is : begin - begin ≡ 0 = omega arith in
    let none : between begin begin lanes ≡ [] = ap (λ n. take n (drop begin lanes)) zero_is in
    record { front = refl; back = refl; turns = subst (λ (l : List Lane). TurnAll now trace l l [] trace) (sym none) (refl, refl, refl) }

-- one lane more takes its turn where it stands
more-from : (now : ℕ) (trace : Option Event) (begin count : ℕ) (all cur : List Lane) (lane next : Lane) (answers more : List Answer) (mid heard : Option Event) →
    begin + count < length all → begin + count < length cur → get_or cur (begin + count) lane ≡ lane → Walks now trace begin (begin + count) all cur answers mid →
    Turns now mid lane next more heard → Walks now trace begin (begin + (count + 1)) all (set cur (begin + count) next) (answers ++ more) heard
more-from now trace begin count all cur lane next answers more mid heard within inside same w turn =
    let xs = drop begin all in
    let ys = drop begin cur in
    let short : count < length xs = omega (arith, within, length-drop begin all) in
    let thin : count < length ys = omega (arith, inside, length-drop begin cur) in
    let here : get_or ys count lane ≡ lane = get_or-drop begin cur count lane ∙ same in
    let tails : drop count ys ≡ drop count xs = drop-drop count begin cur ∙ w.back ∙ sym (drop-drop count begin all) in
    let heads : get_or xs count lane ∷ drop (count + 1) xs ≡ get_or ys count lane ∷ drop (count + 1) ys = sym (drop_more xs count lane short) ∙ sym tails ∙ drop_more ys count lane thin in
    let head : get_or xs count lane ≡ lane = cc heads ∙ here in
    let less : begin + count < begin + (count + 1) = omega arith in
    let before : between begin (begin + (count + 1)) all ≡ between begin (begin + count) all ++ lane ∷ [] =
    cut begin (count + 1) all ∙ take_more xs count lane short ∙ ap (λ (x : Lane). take count xs ++ x ∷ []) head ∙ ap (λ (l : List Lane). l ++ lane ∷ []) (sym (cut begin count all)) in
    let after : between begin (begin + (count + 1)) (set cur (begin + count) next) ≡ between begin (begin + count) cur ++ next ∷ [] =
    cut begin (count + 1) (set cur (begin + count) next) ∙ ap (λ (l : List Lane). take (count + 1) l) (drop-set-add begin cur count next) ∙ take_more_set ys count next thin
    ∙ ap (λ (l : List Lane). l ++ next ∷ []) (sym (cut begin count cur)) in
    let one = turn-more now trace (between begin (begin + count) all) (between begin (begin + count) cur) answers mid lane next more heard w.turns turn in
    record {
      front = take-set-le begin cur (begin + count) next (omega arith) ∙ w.front;
      back = back all cur (begin + count) (begin + (count + 1)) lane next within inside w.back (omega arith);
      turns = subst (λ (l : List Lane). TurnAll now trace l (between begin (begin + (count + 1)) (set cur (begin + count) next)) (answers ++ more) heard) (sym before)
          (subst (λ (l : List Lane). TurnAll now trace (between begin (begin + count) all ++ lane ∷ []) l (answers ++ more) heard) (sym after) one);
    } where
      back : (all cur : List Lane) (i j : ℕ) (lane next : Lane) → i < length all → i < length cur → drop i cur ≡ drop i all → j ≡ i + 1 → drop j (set cur i next) ≡ drop j all
      back all cur i j lane next within inside same e =
          let tails : get_or all i next ∷ drop (i + 1) all ≡ get_or cur i next ∷ drop (i + 1) cur = sym (drop_more all i next within) ∙ sym same ∙ drop_more cur i next inside in
          let rest : drop (i + 1) (set cur i next) ≡ drop (i + 1) all = drop-set-lt (i + 1) cur i next (omega arith) ∙ sym (cc tails) in
          subst (λ n. drop n (set cur i next) ≡ drop n all) (sym e) rest

pub walk-more : (now : ℕ) (trace : Option Event) (begin index : ℕ) (all cur : List Lane) (lane next : Lane) (answers more : List Answer) (mid heard : Option Event) → begin ≤ index →
    index < length all → index < length cur → get_or cur index lane ≡ lane → Walks now trace begin index all cur answers mid → Turns now mid lane next more heard →
    Walks now trace begin (index + 1) all (set cur index next) (answers ++ more) heard
walk-more now trace begin index all cur lane next answers more mid heard le within inside same w turn =
    go (index - begin) index (omega (arith, le)) within inside same w where
      go : (count at : ℕ) → at ≡ begin + count → at < length all → at < length cur → get_or cur at lane ≡ lane → Walks now trace begin at all cur answers mid →
          Walks now trace begin (at + 1) all (set cur at next) (answers ++ more) heard
      go count at e within inside same w =
          let next_at : begin + (count + 1) ≡ at + 1 = omega (arith, e) in
          let within' = subst (λ n. n < length all) e within in
          let inside' = subst (λ n. n < length cur) e inside in
          let same' = subst (λ n. get_or cur n lane ≡ lane) e same in
          let w' = subst (λ n. Walks now trace begin n all cur answers mid) e w in
          let done = more-from now trace begin count all cur lane next answers more mid heard within' inside' same' w' turn in
          subst (λ n. Walks now trace begin n all (set cur at next) (answers ++ more) heard) next_at
          (subst (λ n. Walks now trace begin (begin + (count + 1)) all (set cur n next) (answers ++ more) heard) (sym e) done)

-- the same of calls on wires, the first of which looks at the lane
pub walks-after-look : (a b c d : Option (List Answer)) (now : ℕ) (heard : Option Event) (begin index : ℕ) (all cur after : List Lane) (buf : List ℕ) (first_look : FirstRead) → begin ≤ index → index < length all → index < length cur →
    ((answers : List Answer) × Tells a b answers × Walks now None begin index all cur answers None) →
    ((answers : List Answer) × Tells b c answers × ReadsFirstAt index cur answers buf first_look) →
    ((first : List Answer) → ReadsFirstAt index cur first buf first_look
    → (answers : List Answer) × Tells c d answers × DoesHere index (λ lane next said. Listens now lane next (first ++ said) heard) cur after answers) →
    (answers : List Answer) × Tells a d answers × Walks now None begin (index + 1) all after answers heard
walks-after-look a b c d now heard begin index all cur after buf first_look le within inside h look turn =
    let k = turn look.0 look.2 in
    let walked = walk-more now None begin index all cur k.2.lane k.2.next h.0 (look.0 ++ k.0) None heard le within inside k.2.at h.2 k.2.does in (
      h.0 ++ (look.0 ++ k.0),
      tells-more a b d h.0 (look.0 ++ k.0) h.1 (tells-more b c d look.0 k.0 look.1 k.1),
      subst (λ (l : List Lane). Walks now None begin (index + 1) all l (h.0 ++ (look.0 ++ k.0)) heard) (sym k.2.order) walked,
    )

-- one that gave nothing was the lane's turn
pub walks-still : (a b c : Option (List Answer)) (now : ℕ) (begin index : ℕ) (all cur : List Lane) (buf : List ℕ) (first_look : FirstRead) → begin ≤ index → index < length all → index < length cur →
    ((lane : Lane) (first : List Answer) → get_or cur index lane ≡ lane → ReadsFirst lane first buf NothingRead → Listens now lane lane first None) → first_look ≡ NothingRead →
    ((answers : List Answer) × Tells a b answers × Walks now None begin index all cur answers None) →
    ((answers : List Answer) × Tells b c answers × ReadsFirstAt index cur answers buf first_look) →
    (answers : List Answer) × Tells a c answers × Walks now None begin (index + 1) all cur answers None
walks-still a b c now begin index all cur buf first_look le within inside listens still h look =
    let lane = look.2.0 in
    let turn = listens lane look.0 look.2.1 (subst (λ x. ReadsFirst lane look.0 buf x) still look.2.2) in
    let walked = walk-more now None begin index all cur lane lane h.0 look.0 None None le within inside look.2.1 h.2 turn in
    let same : set cur index lane ≡ cur = ap (λ (l : Lane). set cur index l) (sym look.2.1) ∙ set-get_or cur index lane in
    (h.0 ++ look.0, tells-more a b c h.0 look.0 h.1 look.1, subst (λ (l : List Lane). Walks now None begin (index + 1) all l (h.0 ++ look.0) None) same walked)

-- and of lanes that write what waits, if they are heard no more
pub speaks-here : (a b c : Option (List Answer)) (now begin index : ℕ) (all cur after : List Lane) → begin ≤ index → index < length all → index < length cur →
    ((answers : List Answer) × Tells a b answers × Speak now begin index all cur answers) → ((answers : List Answer) × Tells b c answers × DoesHere index (SaysIfEnded now) cur after answers) →
    (answers : List Answer) × Tells a c answers × Speak now begin (index + 1) all after answers
speaks-here a b c now begin index all cur after le within inside h k = (
  h.0 ++ k.0,
  tells-more a b c h.0 k.0 h.1 k.1,
  λ trace. subst (λ (l : List Lane). Walks now (Some trace) begin (index + 1) all l (h.0 ++ k.0) (Some trace)) (sym k.2.order)
      (walk-more now (Some trace) begin index all cur k.2.lane k.2.next h.0 k.0 (Some trace) (Some trace) le within inside k.2.at (h.2 trace) (refl, k.2.does)),
)

-- two parts of the places, one after the other
pub split : (begin mid end : ℕ) (lanes : List Lane) → begin ≤ mid → mid ≤ end → between begin end lanes ≡ between begin mid lanes ++ between mid end lanes
split begin mid end lanes le lt = go (mid - begin) (end - mid) mid end (omega (arith, le)) (omega (arith, lt)) where
  parts : (a b : ℕ) (l : List Lane) → take (a + b) l ≡ take a l ++ take b (drop a l)
  parts zero b l = let e : 0 + b ≡ b = omega arith in ap (λ n. take n l) e
  parts (suc a) b [] = let e : suc a + b ≡ suc (a + b) = omega arith in ap (λ n. take n []) e ∙ sym (take_all b [] (omega arith))
  parts (suc a) b (x ∷ l) = let e : suc a + b ≡ suc (a + b) = omega arith in ap (λ n. take n (x ∷ l)) e ∙ ap (λ (t : List Lane). x ∷ t) (parts a b l)

  go : (a b m e : ℕ) → m ≡ begin + a → e ≡ m + b → between begin e lanes ≡ between begin m lanes ++ between m e lanes
  go a b m e m_is e_is =
      let whole : between begin e lanes ≡ take (a + b) (drop begin lanes) = ap (λ n. take n (drop begin lanes)) (omega (arith, m_is, e_is)) in
      let one : between begin m lanes ≡ take a (drop begin lanes) = ap (λ n. take n (drop begin lanes)) (omega (arith, m_is)) in
      let two : between m e lanes ≡ take b (drop a (drop begin lanes)) =
      ap (λ n. take n (drop m lanes)) (omega (arith, e_is)) ∙ ap (λ n. take b (drop n lanes)) m_is ∙ ap (λ (l : List Lane). take b l) (sym (drop-drop a begin lanes)) in
      whole ∙ parts a b (drop begin lanes) ∙ ap (λ (l : List Lane). l ++ take b (drop a (drop begin lanes))) (sym one) ∙ ap (λ (l : List Lane). between begin m lanes ++ l) (sym two)

-- the same lanes stand between two places if the lanes before the second are the same, or those from the first on
same-before : (begin end : ℕ) (a b : List Lane) → begin ≤ end → take end a ≡ take end b → between begin end a ≡ between begin end b
same-before begin end a b le same = go (end - begin) end (omega (arith, le)) same where
  go : (count at : ℕ) → at ≡ begin + count → take at a ≡ take at b → between begin at a ≡ between begin at b
  go count at e same =
      let cuts : (l : List Lane) → between begin at l ≡ drop begin (take at l) = λ l. ap (λ n. between begin n l) e ∙ cut begin count l ∙ sym (drop-take begin count l) ∙ ap (λ n. drop begin (take n l)) (sym e) in
      cuts a ∙ ap (λ (l : List Lane). drop begin l) same ∙ sym (cuts b)

pub same-after : (begin end : ℕ) (a b : List Lane) → drop begin a ≡ drop begin b → between begin end a ≡ between begin end b
same-after begin end a b same = ap (λ (l : List Lane). take (end - begin) l) same

pub later : (begin end : ℕ) (a b : List Lane) → begin ≤ end → drop begin a ≡ drop begin b → drop end a ≡ drop end b
later begin end a b le same = go (end - begin) end (omega (arith, le)) where
  go : (count at : ℕ) → at ≡ begin + count → drop at a ≡ drop at b
  go count at e =
      let cuts : (l : List Lane) → drop at l ≡ drop count (drop begin l) = λ l. ap (λ n. drop n l) e ∙ sym (drop-drop count begin l) in
      cuts a ∙ ap (λ (l : List Lane). drop count l) same ∙ sym (cuts b)

sooner : (begin end : ℕ) (a b : List Lane) → begin ≤ end → take end a ≡ take end b → take begin a ≡ take begin b
sooner begin end a b le same = sym (take-take begin end a le) ∙ ap (λ (l : List Lane). take begin l) same ∙ take-take begin end b le

pub walks-on : (now : ℕ) (trace heard last : Option Event) (begin mid end : ℕ) (all cur after : List Lane) (first more : List Answer) → begin ≤ mid → mid ≤ end →
    Walks now trace begin mid all cur first heard → Walks now heard mid end cur after more last → Walks now trace begin end all after (first ++ more) last
walks-on now trace heard last begin mid end all cur after first more le lt w v =
    let start : between begin mid cur ≡ between begin mid after = same-before begin mid cur after le (sym v.front) in
    let rest : between mid end cur ≡ between mid end all = same-after mid end cur all w.back in
    let one : TurnAll now trace (between begin mid all) (between begin mid after) first heard = subst (λ (l : List Lane). TurnAll now trace (between begin mid all) l first heard) start w.turns in
    let two : TurnAll now heard (between mid end all) (between mid end after) more last = subst (λ (l : List Lane). TurnAll now heard l (between mid end after) more last) rest v.turns in
    let both = turns-append now trace (between begin mid all) (between begin mid after) (between mid end all) (between mid end after) first more heard last one two in
    record {
      front = sooner begin mid after cur le v.front ∙ w.front;
      back = v.back ∙ later mid end cur all lt w.back;
      turns = subst (λ (l : List Lane). TurnAll now trace l (between begin end after) (first ++ more) last) (sym (split begin mid end all le lt))
          (subst (λ (l : List Lane). TurnAll now trace (between begin mid all ++ between mid end all) l (first ++ more) last) (sym (split begin mid end after le lt)) both);
    }

-- ---- the walk of a call

pub same-length : (a b : List Lane) → wires_of a ≡ wires_of b → length a ≡ length b
same-length a b e = sym (length-map a (λ (l : Lane). l.wire)) ∙ ap length e ∙ length-map b (λ (l : Lane). l.wire)

-- the lanes from a place on take their turns, and then those before it
pub hears-walks : (now from index : ℕ) (all cur after : List Lane) (first last : List Answer) (trace heard : Option Event) → index ≡ index_of_first from all → length cur ≡ length all →
    Walks now None index (length all) all cur first trace → Walks now trace 0 index cur after last heard → HearsAll now from all after (first ++ last) heard
hears-walks now from index all cur after first last trace heard here same w v =
    let rest : (l : List Lane) → length l ≡ length all → between index (length all) l ≡ drop index l = λ l e. take_all (length all - index) (drop index l) (omega (arith, e, length-drop index l)) in
    let turned : TurnAll now None (drop index all) (drop index cur) first trace =
    subst (λ (l : List Lane). TurnAll now None l (drop index cur) first trace) (rest all refl)
    (subst (λ (l : List Lane). TurnAll now None (between index (length all) all) l first trace) (rest cur same) w.turns) in
    let less : index - 0 ≡ index = omega arith in
    let early : (l : List Lane) → between 0 index l ≡ take index l = λ l. ap (λ n. take n l) less in
    let turned_last : TurnAll now trace (take index all) (take index after) last heard =
    subst (λ (l : List Lane). TurnAll now trace l (take index after) last heard) (early cur ∙ w.front)
    (subst (λ (l : List Lane). TurnAll now trace (between 0 index cur) l last heard) (early after) v.turns) in
    record {
      first = drop index after;
      last = take index after;
      trace = trace;
      answers_first = first;
      answers_last = last;
      all = refl;
      order = sym (take-append-drop index after);
      turns_first = subst (λ n. TurnAll now None (drop n all) (drop index after) first trace) here (subst (λ (l : List Lane). TurnAll now None (drop index all) l first trace) (sym v.back) turned);
      turns_last = subst (λ n. TurnAll now trace (take n all) (take index after) last heard) here turned_last;
    }

-- ---- lanes on which nothing waits

never : true ≡ false → ⊥
never e = absurd (cc e)

or-none : (b : Bool) → b ≡ (b || false)
or-none true = refl
or-none false = refl

nothing-waits : (n : ℕ) → ltb 0 n ≡ false → n ≡ 0
nothing-waits n e = grind (arith, e)

-- what a lane speaks stays if nothing is written
spoken : (protocol : Protocol) → SpeaksAs protocol protocol
spoken (Http http_state) = refl
spoken (Response response_state) = refl
spoken (Socket websocket_state) = refl

-- nothing was written, so nothing counts as written
unwritten : (n : ℕ) (full : Option Fullness) → full ≡ full_after_write (ltb n n) full
unwritten n full = subst (λ b. full ≡ full_after_write b full) (sym none) (go full) where
  none : ltb n n ≡ false
  none = grind arith

  go : (full : Option Fullness) → full ≡ full_after_write false full
  go None = refl
  go (Some full) = ap (λ b. Some (record full { has_written = b })) (or-none full.has_written)

-- a lane on which nothing waits says nothing
pub silent : (now : ℕ) (lane : Lane) → has_unwritten lane ≡ false → Says now lane lane []
silent now lane e = go lane.stage e refl where
  quiet : lane.stage ≡ Live → length (waits lane) ≡ 0 → WritesOut lane lane []
  quiet live none =
      let empty : waits lane ≡ [] = nil_from_length (waits lane) none in
      let stays : must_end lane.stage (length (waits lane)) true ≡ false = ap (λ (s : Stage). must_end s (length (waits lane)) true) live ∙ ap (λ n. ltb MOST_UNWRITTEN n) none in
      record {
        sent = [];
        is_whole = true;
        writes = (empty, empty, refl);
        still = record { wire = refl; since = refl; protocol = spoken lane.protocol };
        full = unwritten (length (waits lane)) lane.full;
        ends = λ must. absurd (never (sym must ∙ stays));
        stays = λ _. (refl, refl);
      }

  go : (s : Stage) → has_unwritten_by s (length (waits lane)) ≡ false → lane.stage ≡ s → SaysAt s now lane lane []
  go Live e is = quiet is (nothing-waits (length (waits lane)) e)
  go Lost e is = (refl, refl)
  go Closing e is = absurd (never e)
  go Over e is = (refl, refl)

-- one that doesn't close says nothing once another was heard
pub still-unless-closing : (now : ℕ) (lane : Lane) → is_closing lane.stage ≡ false → SaysIfEnded now lane lane []
still-unless-closing now lane e = go lane.stage e where
  go : (s : Stage) → is_closing s ≡ false → SaysIfEndedAt s now lane lane []
  go Live e = (refl, refl)
  go Lost e = (refl, refl)
  go Closing e = absurd (never e)
  go Over e = (refl, refl)

abbrev IsOpen : Lane → Type 0
IsOpen lane = is_closing lane.stage ≡ false

-- lanes of which none closes take their turns and stay as they are
silent-turns : (now : ℕ) (trace : Event) (lanes : List Lane) → All IsOpen lanes → TurnAll now (Some trace) lanes lanes [] (Some trace)
silent-turns now trace [] h = (refl, refl, refl)
silent-turns now trace (lane ∷ lanes) h =
    (Some trace, lane, lanes, [], [], refl, refl, (refl, still-unless-closing now lane (All-head IsOpen lane lanes h)), silent-turns now trace lanes (All-tail IsOpen lane lanes h))

pub silent-walk : (now begin end : ℕ) (lanes : List Lane) → ((lane : Lane) → Contains lanes lane → is_closing lane.stage ≡ false) → Speak now begin end lanes lanes []
silent-walk now begin end lanes none trace =
    let all : All IsOpen lanes = λ k d lt. none (get_or lanes k d) (Contains-get_or lanes k d lt) in
    record { front = refl; back = refl; turns = silent-turns now trace (between begin end lanes) (All-take IsOpen (end - begin) (drop begin lanes) (All-drop IsOpen begin lanes all)) }

-- ---- parts of a call on wires, put together

-- something is heard, and then the other lanes of the part write what waits
pub walks-speak : (a b c : Option (List Answer)) (now : ℕ) (begin mid end : ℕ) (all cur after : List Lane) (heard : Event) → begin ≤ mid → mid ≤ end →
    ((answers : List Answer) × Tells a b answers × Walks now None begin mid all cur answers (Some heard)) → ((answers : List Answer) × Tells b c answers × Speak now mid end cur after answers) →
    (answers : List Answer) × Tells a c answers × Walks now None begin end all after answers (Some heard)
walks-speak a b c now begin mid end all cur after heard le lt h k = (
  h.0 ++ k.0,
  tells-more a b c h.0 k.0 h.1 k.1,
  walks-on now None (Some heard) (Some heard) begin mid end all cur after h.0 k.0 le lt h.2 (k.2 heard),
)

-- the lanes from a place on take their turns, and then those before it
pub hears-both : (a b c : Option (List Answer)) (now from index : ℕ) (all cur after : List Lane) (trace heard : Option Event) → index ≡ index_of_first from all → length cur ≡ length all →
    ((answers : List Answer) × Tells a b answers × Walks now None index (length all) all cur answers trace) → ((answers : List Answer) × Tells b c answers × Walks now trace 0 index cur after answers heard) →
    (answers : List Answer) × Tells a c answers × HearsAll now from all after answers heard
hears-both a b c now from index all cur after trace heard here same h k =
    (h.0 ++ k.0, tells-more a b c h.0 k.0 h.1 k.1, hears-walks now from index all cur after h.0 k.0 trace heard here same h.2 k.2)

-- the same of a second part that may be out of memory
pub hears-or-fails : {E : Type 0} (a b c : Option (List Answer)) (now from index : ℕ) (all cur after : List Lane) (r : Result (Option Event) E) → index ≡ index_of_first from all → length cur ≡ length all →
    ((answers : List Answer) × Tells a b answers × Walks now None index (length all) all cur answers None) →
    IfOk r (λ heard. (answers : List Answer) × Tells b c answers × Walks now None 0 index cur after answers heard) →
    IfOk r (λ heard. (answers : List Answer) × Tells a c answers × HearsAll now from all after answers heard)
hears-or-fails a b c now from index all cur after (Ok heard) here same h k = hears-both a b c now from index all cur after None heard here same h k
hears-or-fails a b c now from index all cur after (Err why) here same h k = k
