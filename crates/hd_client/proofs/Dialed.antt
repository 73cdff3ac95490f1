-- A client's connection is dialed by the rules of dialing.
use Rattle.std.proofs.Common.{refl, subst, sym, ap, ◌∙◌, ◌≡◌, ℕ, Bool, true, false, List, [], ◌∷◌, ◌++◌, Option, Some, None, if◌then◌else◌}
use Rattle.std.specs.Prelude.{map, is_some, slice_get, filter}
use Rattle.hd_delivery.specs.declared.vocabulary.Reason.TheVariants as reason
use Rattle.hd_delivery.specs.Frames.{LinkFrame}
use Rattle.hd_delivery.specs.Histories.{Ticked, Silenced, Detached, Closed, present_link, is_silence}
use Rattle.hd_delivery.specs.Sending as sending
use Rattle.hd_calls.specs.Hubs.{Hub}
use Rattle.hd_calls.specs.Peers.{PeerEvent, Loses, Settings, steps, drawn, live_call}
use Rattle.hd_calls.specs.Rules.{CallRefusal, TooManyLive, Spent, Unknown, TooDeep, Unsent}
use Rattle.hd_server.specs.Lives.{numbers_to}
use Rattle.hd_server.specs.Plans.{onto}
use Rattle.hd_server.specs.Serves.{all_of}
use Rattle.hd_dialing.specs.Events.{DialEvent, Shuts, Stops, Phase, Away, Negotiates, Upgrades, Stands, Over, phase, is_up, is_over}
use Rattle.hd_dialing.specs.Plans.{News, Nothing, Begins, Brings, Drains, Ends, shut}
use Rattle.hd_dialing.specs.Dialing.{Move, Drops, Leaves, moved, MayMove}
use Rattle.hd_client.specs.declared.order.Order.{Order}
use Rattle.hd_client.specs.declared.order.Order.TheVariants as order
use Rattle.hd_client.specs.Setups.{Setup}
use Rattle.hd_client.specs.Events.{ClientEvent, Dialed, Makes, Declines, Passes, Says, Sees, dialing, settings_of, moves, phase_of, moment, passed, has_closed}
use Rattle.hd_client.specs.Events as client
use Rattle.hd_client.specs.Plans.{does, linking, dropping, ticking, attempt, doing, doing_some, losing, obeys, gone, losses, leaving, has_live}
use Rattle.hd_client.specs.Turns.{Begin, Dials, Hears, move_of, news_of, dialed, HasBegun, moving, IsFed, ticks, RoundsWith, LinesDone, Works, lending, writing, telling_on, telling, seeing, IsTurn, MayBegin}
use Rattle.hd_client.specs.Laws.{IsDialedSo, ClientsAreDialed}
use Rattle.hd_client.proofs.Onto.{onto_both}

-- ---- what dials nothing

abbrev pub IsQuiet : ClientEvent → Type 0
IsQuiet (Dialed x) = ⊥
IsQuiet x = Unit {0}

abbrev pub AreQuiet : List ClientEvent → Type 0
AreQuiet [] = Unit {0}
AreQuiet (x ∷ xs) = IsQuiet x × AreQuiet xs

one_quiet : (x : ClientEvent) (h : List ClientEvent) → IsQuiet x → dialing (x ∷ h) ≡ dialing h
one_quiet (Dialed x) h q = absurd q
one_quiet (Makes m) h q = refl
one_quiet (Declines why) h q = refl
one_quiet Passes h q = refl
one_quiet (Says lane bytes text) h q = refl
one_quiet (Sees lane full) h q = refl

pub quiet : (xs h : List ClientEvent) → AreQuiet xs → dialing (onto xs h) ≡ dialing h
quiet [] h q = refl
quiet (x ∷ xs) h (q, qs) = quiet xs (x ∷ h) qs ∙ one_quiet x h q

-- the same where they stand the latest first
made_quiet : (ms : List PeerEvent) (h : List ClientEvent) → dialing (moving ms h) ≡ dialing h
made_quiet [] h = refl
made_quiet (m ∷ ms) h = made_quiet ms h

dialed_all : (xs : List DialEvent) (h : List ClientEvent) → dialing (dialed xs h) ≡ xs ++ dialing h
dialed_all [] h = refl
dialed_all (x ∷ xs) h = ap (λ l. x ∷ l) (dialed_all xs h)

module _ (s : Setup) where
  -- ---- steps

  same_dialed : (g k : List ClientEvent) → dialing k ≡ dialing g → IsDialedSo s g → IsDialedSo s k
  same_dialed g k e (ms, is, d) = (ms, e ∙ is, d)

  move_dialed : (m : Move) (g k : List ClientEvent) → MayMove m (dialing g) → dialing k ≡ moved s.dialing m (dialing g) → IsDialedSo s g → IsDialedSo s k
  move_dialed m g k may e (ms, is, d) = (m ∷ ms, e ∙ ap (moved s.dialing m) is, (subst (MayMove m) is may, d))

  quiet_dialed : (xs h : List ClientEvent) → AreQuiet xs → IsDialedSo s h → IsDialedSo s (onto xs h)
  quiet_dialed xs h q p = same_dialed h (onto xs h) (quiet xs h q) p

  drop_dialed : (p : Phase) (g : List ClientEvent) → phase_of g ≡ p → IsDialedSo s g → IsDialedSo s (onto (dropping p) g)
  drop_dialed (Stands lane) g e d = move_dialed Drops g (Dialed (Shuts lane) ∷ g) (ap is_up e) (ap (λ p. shut p (dialing g)) (sym e)) d
  drop_dialed Away g e d = d
  drop_dialed (Negotiates lane) g e d = d
  drop_dialed (Upgrades lane) g e d = d
  drop_dialed Over g e d = d

  leave_dialed : (p : Phase) (g : List ClientEvent) → phase_of g ≡ p → IsDialedSo s g → IsDialedSo s (onto (leaving p) g)
  leave_dialed Away g e d = move_dialed Leaves g (Dialed Stops ∷ g) (ap is_over e) (ap (λ p. Stops ∷ shut p (dialing g)) (sym e)) d
  leave_dialed (Negotiates lane) g e d = move_dialed Leaves g (Dialed Stops ∷ Dialed (Shuts lane) ∷ g) (ap is_over e) (ap (λ p. Stops ∷ shut p (dialing g)) (sym e)) d
  leave_dialed (Upgrades lane) g e d = move_dialed Leaves g (Dialed Stops ∷ Dialed (Shuts lane) ∷ g) (ap is_over e) (ap (λ p. Stops ∷ shut p (dialing g)) (sym e)) d
  leave_dialed (Stands lane) g e d = move_dialed Leaves g (Dialed Stops ∷ Dialed (Shuts lane) ∷ g) (ap is_over e) (ap (λ p. Stops ∷ shut p (dialing g)) (sym e)) d
  leave_dialed Over g e d = d

  either : (b : Bool) (xs ys h : List ClientEvent) → IsDialedSo s (onto xs h) → IsDialedSo s (onto ys h) → IsDialedSo s (onto (if b then xs else ys) h)
  either true xs ys h p q = p
  either false xs ys h p q = q

  -- ---- parts of a turn

  link_quiet : (now : ℕ) (n : News) (h : List ClientEvent) → AreQuiet (linking s now n h)
  link_quiet now (Begins lane) h = (tt, tt)
  link_quiet now Ends h = (tt, tt)
  link_quiet now Nothing h = tt
  link_quiet now (Brings bytes) h = tt
  link_quiet now Drains h = tt

  begun_dialed : (begin : Begin) (h after : List ClientEvent) → MayBegin s begin h → HasBegun s begin h after → IsDialedSo s h → IsDialedSo s after
  begun_dialed begin h after may b p =
      let heard : List ClientEvent = dialed b.new h in
      let first : IsDialedSo s heard = move_dialed (move_of begin b.dial) h heard (may.1 b.dial) (dialed_all b.new h ∙ sym b.dials) p in
      subst (IsDialedSo s) (sym b.is) (quiet_dialed (linking s (moment heard) (news_of begin h) heard) heard (link_quiet (moment heard) (news_of begin h) heard) first)

  fed_dialed : (n : News) (h after : List ClientEvent) → IsFed s n h after → IsDialedSo s h → IsDialedSo s after
  fed_dialed (Brings bytes) h after f p = subst (IsDialedSo s) (sym f.are) (same_dialed h (moving f.made h) (made_quiet f.made h) p)
  fed_dialed (Begins lane) h after f p = subst (IsDialedSo s) (sym f) p
  fed_dialed Ends h after f p = subst (IsDialedSo s) (sym f) p
  fed_dialed Nothing h after f p = subst (IsDialedSo s) (sym f) p
  fed_dialed Drains h after f p = subst (IsDialedSo s) (sym f) p

  tick_dialed : (now : ℕ) (o : Option Settings) (h : List ClientEvent) → IsDialedSo s h → IsDialedSo s (onto (ticking now o h) h)
  tick_dialed now None h p = p
  tick_dialed now (Some t) h p =
      either (is_some (present_link (steps t (moves h)))) _ [] h
      (either (is_silence t.config now (steps t (moves h))) (does (Silenced now) ∷ dropping (phase_of h)) (does (Ticked now) ∷ []) h
      (drop_dialed (phase_of h) (does (Silenced now) ∷ h) refl p) p) p

  ticks_dialed : (begin : Begin) (h : List ClientEvent) → IsDialedSo s h → IsDialedSo s (onto (ticks s begin h) h)
  ticks_dialed Dials h p = p
  ticks_dialed (Hears now e) h p = either (client.is_over s h) [] (ticking now (settings_of s h) h) h p (tick_dialed now (settings_of s h) h p)

  -- ---- lines

  some_is : {A : Type 0} (x y : A) → Some x ≡ Some y → x ≡ y
  some_is x y e = cc

  tried : (o : Option CallRefusal) (m : PeerEvent) (xs : List ClientEvent) → attempt o m ≡ Some xs → AreQuiet xs
  tried None m xs e = subst AreQuiet (some_is _ _ e) (tt, (tt, tt))
  tried (Some TooManyLive) m xs e = subst AreQuiet (some_is _ _ e) (tt, (tt, tt))
  tried (Some Spent) m xs e = subst AreQuiet (some_is _ _ e) (tt, (tt, tt))
  tried (Some Unknown) m xs e = subst AreQuiet (some_is _ _ e) (tt, (tt, tt))
  tried (Some TooDeep) m xs e = subst AreQuiet (some_is _ _ e) (tt, (tt, tt))
  tried (Some (Unsent sending.Opening)) m xs e = subst AreQuiet (some_is _ _ e) (tt, (tt, tt))
  tried (Some (Unsent sending.Closed)) m xs e = subst AreQuiet (some_is _ _ e) (tt, (tt, tt))
  tried (Some (Unsent (sending.TooLong size))) m xs e = subst AreQuiet (some_is _ _ e) (tt, (tt, tt))
  tried (Some (Unsent (sending.Full held bytes size))) m xs e = absurd (cc)
  tried (Some (Unsent sending.Exhausted)) m xs e = subst AreQuiet (some_is _ _ e) (tt, (tt, tt))

  waited : (b : Bool) (xs : List ClientEvent) → (if b then None else Some (Passes ∷ [])) ≡ Some xs → AreQuiet xs
  waited true xs e = absurd (cc)
  waited false xs e = subst AreQuiet (some_is _ _ e) (tt, tt)

  lost_dialed : (t : Settings) (h : List ClientEvent) → IsDialedSo s h → IsDialedSo s (onto (losing t h) h)
  lost_dialed t h p =
      either (is_some (present_link (steps t (moves h)))) (does (Detached (moment h)) ∷ dropping (phase_of h)) [] h
      (drop_dialed (phase_of h) (does (Detached (moment h)) ∷ h) refl p) p

  passes_dialed : (xs h : List ClientEvent) → IsDialedSo s (onto xs h) → IsDialedSo s (onto (xs ++ Passes ∷ []) h)
  passes_dialed xs h p = subst (IsDialedSo s) (sym (onto_both xs (Passes ∷ []) h)) p

  line_dialed : (t : Settings) (o : Order) (h xs : List ClientEvent) → doing t o h ≡ Some xs → IsDialedSo s h → IsDialedSo s (onto xs h)
  line_dialed t (order.Call kind target arguments uploads) h xs e p = quiet_dialed xs h (tried _ _ xs e) p
  line_dialed t (order.Item call value) h xs e p = quiet_dialed xs h (tried _ _ xs e) p
  line_dialed t (order.Done call) h xs e p = quiet_dialed xs h (tried _ _ xs e) p
  line_dialed t (order.Cancel call) h xs e p = quiet_dialed xs h (tried _ _ xs e) p
  line_dialed t order.Wait h xs e p = quiet_dialed xs h (waited (has_live (moves h)) xs e) p
  line_dialed t order.Lose h xs e p =
      subst (λ ys. IsDialedSo s (onto ys h)) (some_is (losing t h ++ Passes ∷ []) xs e) (passes_dialed (losing t h) h (lost_dialed t h p))

  some_dialed : (o : Option Settings) (l : Option Order) (h xs : List ClientEvent) → doing_some o l h ≡ Some xs → IsDialedSo s h → IsDialedSo s (onto xs h)
  some_dialed (Some t) (Some l) h xs e p = line_dialed t l h xs e p
  some_dialed (Some t) None h xs e p = absurd (cc)
  some_dialed None (Some l) h xs e p = absurd (cc)
  some_dialed None None h xs e p = absurd (cc)

  next_dialed : (b : Bool) (o : Option Settings) (l : Option Order) (h xs : List ClientEvent) → (if b then doing_some o l h else None) ≡ Some xs
      → IsDialedSo s h → IsDialedSo s (onto xs h)
  next_dialed true o l h xs e p = some_dialed o l h xs e p
  next_dialed false o l h xs e p = absurd (cc)

  lines_dialed : (script : List Order) (lines : List (List ClientEvent)) (h after : List ClientEvent) → LinesDone s script lines h after
      → IsDialedSo s h → IsDialedSo s after
  lines_dialed script [] h after (none, e) p = subst (IsDialedSo s) (sym e) p
  lines_dialed script (xs ∷ more) h after (e, rest) p =
      lines_dialed script more (onto xs h) after rest (next_dialed (obeys s h) (settings_of s h) (slice_get script (passed h)) h xs e p)

  rounds_dialed : (o : Option Settings) (h after : List ClientEvent) → RoundsWith o h after → IsDialedSo s h → IsDialedSo s after
  rounds_dialed None h after e p = subst (IsDialedSo s) (sym e) p
  rounds_dialed (Some t) h after (ms, round, e) p = subst (IsDialedSo s) (sym e) (same_dialed h (moving ms h) (made_quiet ms h) p)

  worked_dialed : (b : Bool) (script : List Order) (h after : List ClientEvent) → Works b s script h after → IsDialedSo s h → IsDialedSo s after
  worked_dialed true script h after e p = subst (IsDialedSo s) (sym e) p
  worked_dialed false script h after w p =
      let one = rounds_dialed (settings_of s h) h w.rounded w.rounds p in
      let two = lines_dialed script w.lines w.rounded w.obeyed w.obeys one in
      subst (IsDialedSo s) (sym w.closes) (either _ (does (Closed reason.Done false) ∷ []) [] w.obeyed two two)

  -- ---- the end of a turn

  gone_quiet : (ns : List ℕ) → AreQuiet (map (λ n. Makes (Loses n)) ns)
  gone_quiet [] = tt
  gone_quiet (n ∷ ns) = (tt, gone_quiet ns)

  losses_dialed : (h : List ClientEvent) → IsDialedSo s h → IsDialedSo s (onto (losses s h) h)
  losses_dialed h p =
      either (has_closed s h) (gone (moves h)) [] h (quiet_dialed (gone (moves h)) h (gone_quiet (filter (λ n. live_call n (moves h)) (numbers_to (drawn (moves h))))) p) p

  lent_quiet : (fs : List LinkFrame) → AreQuiet (lending fs)
  lent_quiet [] = tt
  lent_quiet (f ∷ fs) = (tt, lent_quiet fs)

  wrote_quiet : (t : Settings) (lane : ℕ) (pieces : List (List LinkFrame)) (h : List ClientEvent) → AreQuiet (writing t lane pieces h)
  wrote_quiet t lane [] h = tt
  wrote_quiet t lane (p ∷ ps) h = (tt, wrote_quiet t lane ps h)

  both_quiet : (xs ys : List ClientEvent) → AreQuiet xs → AreQuiet ys → AreQuiet (xs ++ ys)
  both_quiet [] ys p q = q
  both_quiet (x ∷ xs) ys (p, ps) q = (p, both_quiet xs ys ps q)

  pub told_quiet : (p : Phase) (o : Option Settings) (pieces : List (List LinkFrame)) (h : List ClientEvent) → AreQuiet (telling_on p o pieces h)
  told_quiet (Stands lane) (Some t) pieces h = both_quiet (lending (all_of pieces)) (writing t lane pieces h) (lent_quiet (all_of pieces)) (wrote_quiet t lane pieces h)
  told_quiet (Stands lane) None pieces h = tt
  told_quiet Away o pieces h = tt
  told_quiet (Negotiates lane) o pieces h = tt
  told_quiet (Upgrades lane) o pieces h = tt
  told_quiet Over o pieces h = tt

  telling_dialed : (pieces : List (List LinkFrame)) (h : List ClientEvent) → IsDialedSo s h → IsDialedSo s (onto (telling s pieces h) h)
  telling_dialed pieces h p =
      let said : List ClientEvent = telling_on (phase_of h) (settings_of s h) pieces h in
      let still : AreQuiet said = told_quiet (phase_of h) (settings_of s h) pieces h in
      let first : IsDialedSo s (onto said h) = quiet_dialed said h still p in
      subst (IsDialedSo s) (sym (onto_both said (if has_closed s h then leaving (phase_of h) else []) h))
      (either (has_closed s h) (leaving (phase_of h)) [] (onto said h) (leave_dialed (phase_of h) (onto said h) (ap phase (quiet said h still)) first) first)

  pub seen_quiet : (p : Phase) (full : List Bool) → AreQuiet (seeing p full)
  seen_quiet (Stands lane) [] = tt
  seen_quiet (Stands lane) (one ∷ full) = (tt, seen_quiet (Stands lane) full)
  seen_quiet Away full = tt
  seen_quiet (Negotiates lane) full = tt
  seen_quiet (Upgrades lane) full = tt
  seen_quiet Over full = tt

module _ {Job : Type 0} where
  turn_dialed : (hub : Hub Job) (s : Setup) (script : List Order) (begin : Begin) (h after : List ClientEvent) → MayBegin s begin h
      → IsTurn hub s script begin h after → IsDialedSo s h → IsDialedSo s after
  turn_dialed hub s script begin h after may t p =
      let one = begun_dialed s begin h t.begun may t.begins p in
      let two = fed_dialed s (news_of begin h) t.begun t.fed t.feeds one in
      let three = subst (IsDialedSo s) (sym t.has_ticked) (ticks_dialed s begin t.fed two) in
      let four = worked_dialed s (client.is_over s t.ticked) script t.ticked t.worked t.works three in
      let five = subst (IsDialedSo s) (sym t.loses) (losses_dialed s t.worked four) in
      let six = telling_dialed s t.pieces t.told five in
      subst (IsDialedSo s) (sym t.tells) (quiet_dialed s (seeing (phase_of t.told) t.full) (onto (telling s t.pieces t.told) t.told) (seen_quiet s (phase_of t.told) t.full) six)

  pub clients_are_dialed : ClientsAreDialed Job
  clients_are_dialed hub s script [] h e = subst (IsDialedSo s) (sym e) ([], refl, tt)
  clients_are_dialed hub s script (b ∷ bs) h (before, turns, may, turn) =
      turn_dialed hub s script b before h may turn (clients_are_dialed hub s script bs before turns)
