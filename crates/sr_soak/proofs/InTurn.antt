-- The script of a soak is in turn, its calls have no uploads, and its actions are those of peers.
use Rattle.std.proofs.Common.{◌≡◌, ◌<◌, ◌≤◌, ◌+◌, ◌*◌, ◌%◌, ◌&&◌, ◌⊎◌, ℕ, zero, suc, Bool, true, false, if◌then◌else◌, eqb, ltb, List, [], ◌∷◌, ◌++◌, refl, sym, ◌∙◌, subst, inl, inr, arith}
use Rattle.std.specs.List.{All}
use Rattle.std.proofs.lemmas.List.Elements.{All-nil, All-cons, All-weaker, All-contains}
use Rattle.hd_delivery.specs.declared.vocabulary.Side.TheVariants.{Client, Server}
use Rattle.sr_script.specs.declared.action.Count.TheVariants.{Everything}
use Rattle.sr_script.specs.declared.action.Action.{Action}
use Rattle.sr_script.specs.declared.action.Action.TheVariants.{Open, Accept, Write, Read, Send, Tick, Call, Cancel, Round}
use Rattle.sr_script.specs.Script.{opened, most_links, IsInTurn, AreInTurn}
use Rattle.sr_peers.specs.Follows.{IsOfPeers}
use Rattle.sr_soak.specs.Recipe.{closing_turn, draw, drawn_actions, drawn_script, most_drawn_links, new_link, opening, whole_script, with_turns}
use Rattle.sr_soak.specs.Counts.{uploads_in, HaveNoUploads}

-- ---- actions

-- neither opens nor accepts a link, and is no call with uploads
abbrev pub IsCalm : Action → Type 0
IsCalm (Call side a) = a.uploads ≡ 0
IsCalm (Write side count) = Unit {0}
IsCalm (Read side count) = Unit {0}
IsCalm (Cancel side call) = Unit {0}
IsCalm (Round side) = Unit {0}
IsCalm _ = ⊥

abbrev pub AreCalm : List Action → Type 0
AreCalm [] = Unit {0}
AreCalm (a ∷ actions) = IsCalm a × AreCalm actions

-- what it accepts, if it accepts a link, lies below this number
abbrev pub AcceptsBelow : ℕ → Action → Type 0
AcceptsBelow n (Accept link) = link < n
AcceptsBelow n _ = Unit {0}

accepts_more : (n : ℕ) (a : Action) → AcceptsBelow n a → AcceptsBelow (suc n) a
accepts_more n (Accept link) h = omega (arith, h)
accepts_more n _ h = tt

calm_opens : (a : Action) (before : List Action) → IsCalm a → opened (a ∷ before) ≡ opened before
calm_opens Open before h = absurd h
calm_opens _ before h = refl

calm_in_turn : (a : Action) (before : List Action) → IsCalm a → IsInTurn before a
calm_in_turn Open before h = absurd h
calm_in_turn (Accept link) before h = absurd h
calm_in_turn (Tick now) before h = absurd h
calm_in_turn _ before h = tt

calm_accepts : (a : Action) (n : ℕ) → IsCalm a → AcceptsBelow n a
calm_accepts (Accept link) n h = absurd h
calm_accepts _ n h = tt

calm_uploads : (a : Action) → IsCalm a → uploads_in a ≡ 0
calm_uploads (Call side a) h = h
calm_uploads _ h = refl

calm_of_peers : (a : Action) → IsCalm a → IsOfPeers a
calm_of_peers (Send side m) h = absurd h
calm_of_peers (Call side a) h = omega (arith, h)
calm_of_peers _ h = tt

-- ---- actions one after another

-- they are in turn, accept only what they open, and call without uploads
pub record IsSound (actions : List Action) : Type 0 where
  pub turns : AreInTurn actions
  pub accepts : All (AcceptsBelow (opened actions)) actions
  pub no_uploads : HaveNoUploads actions

nothing_sound : IsSound []
nothing_sound = record { turns = tt; accepts = All-nil (AcceptsBelow 0); no_uploads = All-nil (λ a. uploads_in a ≡ 0) }

calm_sound : (a : Action) (before : List Action) → IsCalm a → IsSound before → IsSound (a ∷ before)
calm_sound a before calm s =
    record {
      turns = (s.turns, calm_in_turn a before calm);
      accepts = subst (λ n. All (AcceptsBelow n) (a ∷ before)) (sym (calm_opens a before calm))
          (All-cons (AcceptsBelow (opened before)) a before (calm_accepts a (opened before) calm) s.accepts);
      no_uploads = All-cons (λ x. uploads_in x ≡ 0) a before (calm_uploads a calm) s.no_uploads;
    }

pub calm_ones_open : (actions before : List Action) → AreCalm actions → opened (actions ++ before) ≡ opened before
calm_ones_open [] before calm = refl
calm_ones_open (a ∷ actions) before calm = calm_opens a (actions ++ before) calm.0 ∙ calm_ones_open actions before calm.1

pub calm_ones_sound : (actions before : List Action) → AreCalm actions → IsSound before → IsSound (actions ++ before)
calm_ones_sound [] before calm s = s
calm_ones_sound (a ∷ actions) before calm s = calm_sound a (actions ++ before) calm.0 (calm_ones_sound actions before calm.1 s)

calm_ones_of_peers : (actions : List Action) → AreCalm actions → All IsOfPeers actions
calm_ones_of_peers [] calm = All-nil IsOfPeers
calm_ones_of_peers (a ∷ actions) calm = All-cons IsOfPeers a actions (calm_of_peers a calm.0) (calm_ones_of_peers actions calm.1)

pub link_sound : (before : List Action) → opened before < most_links → IsSound before → IsSound (new_link (opened before) ++ before)
link_sound before few s =
    record {
      turns = (
        (s.turns, few),
        (
          omega arith,
          λ there.
              let below : opened before < opened before =
              All-contains (AcceptsBelow (opened before)) (Open ∷ before) (Accept (opened before)) (All-cons (AcceptsBelow (opened before)) Open before tt s.accepts) there in
              omega (arith, below),
        ),
      );
      accepts = All-cons (AcceptsBelow (suc (opened before))) (Accept (opened before)) (Open ∷ before) (omega arith)
          (All-cons (AcceptsBelow (suc (opened before))) Open before tt
          (All-weaker (AcceptsBelow (opened before)) (AcceptsBelow (suc (opened before))) (accepts_more (opened before)) before s.accepts));
      no_uploads = All-cons (λ x. uploads_in x ≡ 0) (Accept (opened before)) (Open ∷ before) refl (All-cons (λ x. uploads_in x ≡ 0) Open before refl s.no_uploads);
    }

pub link_of_peers : (links : ℕ) → All IsOfPeers (new_link links)
link_of_peers links = All-cons IsOfPeers (Accept links) (Open ∷ []) tt (All-cons IsOfPeers Open [] tt (All-nil IsOfPeers))

-- ---- the script

both : {A : Type 0} (P : A → Type 0) (b : Bool) (x y : A) → P x → P y → P (if b then x else y)
both P true x y f g = f
both P false x y f g = g

-- what is drawn is calm, or a new link, if there are few
abbrev AreDrawn : ℕ → List Action → Type 0
AreDrawn links actions = AreCalm actions ⊎ ((links < most_drawn_links) × (actions ≡ new_link links))

link_or_round : (b : Bool) (links : ℕ) → (b ≡ true → links < most_drawn_links) → AreDrawn links (if b then new_link links else Round Server ∷ [])
link_or_round true links few = inr (few refl, refl)
link_or_round false links few = inl (tt, tt)

few_links : (b : Bool) (links : ℕ) → (b && ltb links most_drawn_links) ≡ true → links < most_drawn_links
few_links b links e = grind (arith, e)

drawn_are : (k d links : ℕ) → AreDrawn links (drawn_actions k d links)
drawn_are k d links =
    let P = AreDrawn links in
    both P (eqb k 0) _ _ (inl (refl, tt)) (both P (eqb k 1) _ _ (inl (refl, tt)) (both P (eqb k 2) _ _ (inl (refl, tt))
    (both P (eqb k 3) _ _ (inl (refl, tt)) (both P (eqb k 4) _ _ (inl (tt, tt)) (both P (eqb k 5) _ _ (inl (refl, tt))
    (both P (eqb k 6) _ _ (inl (tt, tt)) (both P (eqb k 7) _ _ (inl (tt, tt)) (both P (eqb k 8) _ _ (inl (tt, tt))
    (both P (eqb k 9) _ _ (inl (tt, tt)) (both P (eqb k 10) _ _ (inl (tt, (tt, tt)))
    (link_or_round (eqb (d % 8) 0 && ltb links most_drawn_links) links (few_links (eqb (d % 8) 0) links))))))))))))

pub drawn_of_peers : (k d links : ℕ) → All IsOfPeers (drawn_actions k d links)
drawn_of_peers k d links =
    elim (drawn_are k d links) [
      | inl calm ↦ calm_ones_of_peers (drawn_actions k d links) calm
      | inr new ↦ subst (All IsOfPeers) (sym new.1) (link_of_peers links)
    ]

-- sound, and so few links
pub record IsShortOf (most : ℕ) (actions : List Action) : Type 0 where
  pub sound : IsSound actions
  pub few : opened actions ≤ most

drawn_sound : (k d : ℕ) (before : List Action) → IsShortOf most_drawn_links before → IsShortOf most_drawn_links (drawn_actions k d (opened before) ++ before)
drawn_sound k d before s =
    elim (drawn_are k d (opened before)) [
      | inl calm ↦ record {
        sound = calm_ones_sound (drawn_actions k d (opened before)) before calm s.sound;
        few = omega (arith, calm_ones_open (drawn_actions k d (opened before)) before calm, s.few);
      }
      | inr new ↦ subst (λ actions. IsShortOf most_drawn_links (actions ++ before)) (sym new.1)
          (record { sound = link_sound before (omega (arith, new.0)) s.sound; few = omega (arith, new.0) })
    ]

pub opening_sound : IsSound opening
opening_sound =
    calm_ones_sound (Read Client Everything ∷ Write Server Everything ∷ Read Server Everything ∷ Write Client Everything ∷ []) (new_link 0)
    (tt, (tt, (tt, (tt, tt)))) (link_sound [] (omega arith) nothing_sound)

script_sound : (seed n : ℕ) → IsShortOf most_drawn_links (drawn_script seed n)
script_sound seed zero = record { sound = opening_sound; few = omega arith }
script_sound seed (suc n) = drawn_sound (draw seed (2 * n) % 12) (draw seed (2 * n + 1)) (drawn_script seed n) (script_sound seed n)

whole_sound : (seed n : ℕ) → IsSound (whole_script seed n)
whole_sound seed n =
    let s = script_sound seed n in
    link_sound (drawn_script seed n) (omega (arith, s.few)) s.sound

pub drawn_script_in_turn : (seed n : ℕ) → AreInTurn (drawn_script seed n)
drawn_script_in_turn seed n = (script_sound seed n).sound.turns

pub whole_script_in_turn : (seed n : ℕ) → AreInTurn (whole_script seed n)
whole_script_in_turn seed n = (whole_sound seed n).turns

pub whole_script_has_no_uploads : (seed n : ℕ) → HaveNoUploads (whole_script seed n)
whole_script_has_no_uploads seed n = (whole_sound seed n).no_uploads

-- ---- its turns

closing_calm : AreCalm closing_turn
closing_calm = (tt, (tt, (tt, (tt, (tt, (tt, tt))))))

pub turns_sound : (turns : ℕ) (actions : List Action) → IsSound actions → IsSound (with_turns turns actions)
turns_sound zero actions s = s
turns_sound (suc n) actions s = calm_ones_sound closing_turn (with_turns n actions) closing_calm (turns_sound n actions s)

pub turns_open_nothing : (turns : ℕ) (actions : List Action) → opened (with_turns turns actions) ≡ opened actions
turns_open_nothing zero actions = refl
turns_open_nothing (suc n) actions = calm_ones_open closing_turn (with_turns n actions) closing_calm ∙ turns_open_nothing n actions

turn_has_no_uploads : (before : List Action) → HaveNoUploads before → (calm : List Action) → AreCalm calm → HaveNoUploads (calm ++ before)
turn_has_no_uploads before none [] calm = none
turn_has_no_uploads before none (a ∷ actions) calm =
    All-cons (λ x. uploads_in x ≡ 0) a (actions ++ before) (calm_uploads a calm.0) (turn_has_no_uploads before none actions calm.1)

pub turns_have_no_uploads : (turns : ℕ) (actions : List Action) → HaveNoUploads actions → HaveNoUploads (with_turns turns actions)
turns_have_no_uploads zero actions none = none
turns_have_no_uploads (suc n) actions none = turn_has_no_uploads (with_turns n actions) (turns_have_no_uploads n actions none) closing_turn closing_calm
