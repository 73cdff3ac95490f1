-- What a turn does after it heard its event is no hearing, so the event is heard once; and it leaves what was done before.
use Rattle.std.proofs.Common.{refl, ap, subst, sym, ◌∙◌, ◌≡◌, ℕ, List, [], ◌∷◌, ◌++◌, Option, Some, None, append_assoc}
use Rattle.std.specs.Prelude.{map}
use Rattle.hd_server.specs.Machine.{Does, Rounds, connections}
use Rattle.hd_server.specs.Doings.{ServerEvent, Hears, Works, Sees, work, hears, seen}
use Rattle.hd_server.specs.Plans.{onto, expiries, questions, plan}
use Rattle.hd_server.specs.Serves.{IsFed, ticks, all_flushing}
use Rattle.hd_server.specs.Parts.{Each, IsOfAny, IsExpiry, IsQuestion, IsPlanned, IsTick, IsFlush}
use Rattle.hd_server.specs.Laws.{TurnsGoFurther}
use Rattle.hd_server.proofs.Each.{each_so, each_join, each_map, each_move}
use Rattle.hd_server.proofs.PartsOfTurns.{expiries_are, questions_are, first_is, last_is, ticks_are, all_flushing_is, expiry_planned, tick_planned, flush_planned}

-- ---- doings that hear nothing, and see nothing

abbrev IsSilent : ServerEvent → Type 0
IsSilent (Hears now event) = ⊥
IsSilent (Sees lane full) = ⊥
IsSilent _ = Unit {0}

planned_silent : (d : ServerEvent) → IsPlanned d → IsSilent d
planned_silent (Hears now event) e = e
planned_silent (Sees lane full) e = e
planned_silent d e = tt

question_silent : (d : ServerEvent) → IsQuestion d → IsSilent d
question_silent (Hears now event) e = e
question_silent (Sees lane full) e = e
question_silent d e = tt

-- a list of which all is silent comes after what was heard
record Follows (h after : List ServerEvent) : Type 0 where
  new : List ServerEvent
  are : after ≡ new ++ h
  silent : Each IsSilent new

stays : (h : List ServerEvent) → Follows h h
stays h = record { new = []; are = refl; silent = tt }

further : (f g h : List ServerEvent) → Follows f g → Follows g h → Follows f h
further f g h a b = record {
  new = b.new ++ a.new;
  are = b.are ∙ ap (λ x. b.new ++ x) a.are ∙ sym (append_assoc b.new a.new f);
  silent = each_join IsSilent b.new a.new b.silent a.silent;
}

onto_follows : (xs h : List ServerEvent) → Each IsSilent xs → Follows h (onto xs h)
onto_follows [] h a = stays h
onto_follows (x ∷ xs) h a = further h (x ∷ h) (onto xs (x ∷ h)) (record { new = x ∷ []; are = refl; silent = (a.0, tt) }) (onto_follows xs (x ∷ h) a.1)

hears_same : (new h : List ServerEvent) → Each IsSilent new → hears (new ++ h) ≡ hears h
hears_same [] h a = refl
hears_same (Hears now event ∷ new) h a = absurd a.0
hears_same (d ∷ new) h a = hears_same new h a.1

sees_same : (new h : List ServerEvent) → Each IsSilent new → seen (new ++ h) ≡ seen h
sees_same [] h a = refl
sees_same (Sees lane full ∷ new) h a = absurd a.0
sees_same (d ∷ new) h a = sees_same new h a.1

-- ---- the parts of a turn

fed : (now : ℕ) (food : Option (ℕ × List ℕ)) (h after : List ServerEvent) → IsFed now food h after → Follows h after
fed now None h after e = subst (λ x. Follows h x) (sym e) (stays h)
fed now (Some f) h after one = record { new = map (λ m. Works (Does f.0 m)) one.moves; are = one.are; silent = each_move IsSilent f.0 one.moves (λ m. tt) }

-- ---- the whole of it

-- a stage that is this follows the one before
stage : (f ds x : List ServerEvent) → x ≡ onto ds f → Each IsSilent ds → Follows f x
stage f ds x e a = subst (λ y. Follows f y) (sym e) (onto_follows ds f a)

planned : (P : ServerEvent → Type 0) → ((d : ServerEvent) → P d → IsPlanned d) → (ds : List ServerEvent) → Each P ds → Each IsSilent ds
planned P so ds a = each_so P IsSilent (λ d p. planned_silent d (so d p)) ds a

pub turns_go_further : {Job : Type 0} → TurnsGoFurther Job
turns_go_further hub s now e h after turn =
    let heard : List ServerEvent = Hears now e ∷ h in
    let p = plan s now e turn.name turn.drawn turn.asked in
    let expired = stage heard (expiries now heard) turn.expired turn.expires (planned (IsOfAny IsExpiry) expiry_planned _ (expiries_are now heard)) in
    let asked = stage turn.expired (questions s now e turn.name turn.drawn turn.expired) turn.asked turn.asks
    (each_so IsQuestion IsSilent question_silent _ (questions_are s now e turn.name turn.drawn turn.expired)) in
    let begun = stage turn.asked p.first turn.begun turn.begins (each_so IsPlanned IsSilent planned_silent _ (first_is s now e turn.name turn.drawn turn.asked)) in
    let food = fed now p.food turn.begun turn.fed turn.feeds in
    let handled = stage turn.fed p.last turn.handled turn.handles (each_so IsPlanned IsSilent planned_silent _ (last_is s now e turn.name turn.drawn turn.asked)) in
    let ticked = stage turn.handled (ticks now turn.handled) turn.ticked turn.has_ticked (planned (IsOfAny IsTick) tick_planned _ (ticks_are now (connections (work turn.handled)) turn.handled)) in
    let stepped = subst (λ y. Follows turn.ticked y) (sym turn.has_stepped) (record {
      new = map Works turn.round ++ Works (Rounds now) ∷ [];
      are = sym (append_assoc (map Works turn.round) (Works (Rounds now) ∷ []) turn.ticked);
      silent = each_join IsSilent (map Works turn.round) (Works (Rounds now) ∷ []) (each_map IsSilent Works (λ x. tt) turn.round) (tt, tt);
    }) in
    let told = stage turn.stepped (all_flushing s now (connections (work turn.stepped)) turn.pieces turn.stepped) after turn.tells
    (planned (IsOfAny IsFlush) flush_planned _ (all_flushing_is s now (connections (work turn.stepped)) turn.pieces turn.stepped)) in
    let to_begun = further heard turn.asked turn.begun (further heard turn.expired turn.asked expired asked) begun in
    let to_handled = further heard turn.fed turn.handled (further heard turn.begun turn.fed to_begun food) handled in
    let to_stepped = further heard turn.ticked turn.stepped (further heard turn.handled turn.ticked to_handled ticked) stepped in
    let all = further heard turn.stepped after to_stepped told in
    record {
      new = all.new ++ Hears now e ∷ [];
      are = all.are ∙ sym (append_assoc all.new (Hears now e ∷ []) h);
      hears_it = ap hears all.are ∙ hears_same all.new heard all.silent;
      sees_none = ap seen all.are ∙ sees_same all.new heard all.silent;
    }
