-- A client that hears through a dialer is one that did so many turns.
use Rattle.std.proofs.Common.{refl, subst, sym, ap, ◌∙◌, ◌≡◌, zero, suc, List, [], ◌∷◌, ◌++◌, append_assoc}
use Rattle.std.specs.Prelude.{length}
use Rattle.std.specs.List.{flat_map}
use Rattle.hw_door.specs.DoorCalls.{DoorCall, heard, given, sent, flushed, failed, heard_of, given_of, full_of, given_in, full_in}
use Rattle.hw_door.specs.DoorCalls as door
use Rattle.hd_server.specs.Serving.{AreGiving}
use Rattle.hd_client.specs.Printed.{printed}
use Rattle.hd_client.specs.Turns.{Begin, Dials, Hears, Turns}
use Rattle.hd_client.specs.Setups.{Setup}
use Rattle.hd_client.specs.Events.{ClientEvent}
use Rattle.hd_client.specs.Telling as tell
use Rattle.hd_client.specs.Telling.{seen, draws, heard_in, hearing}
use Rattle.hd_client.specs.Laws.{heard_by, DialedIsTurns}

nothing_more : {A : Type 0} (xs : List A) → xs ≡ xs ++ []
nothing_more [] = refl
nothing_more (x ∷ xs) = ap (λ ys. x ∷ ys) (nothing_more xs)

one_longer : {A : Type 0} (xs : List A) (x : A) → length (xs ++ x ∷ []) ≡ suc (length xs)
one_longer [] x = refl
one_longer (y ∷ xs) x = ap suc (one_longer xs x)

heard_first : (bs : List Begin) (b : Begin) → heard_by (bs ++ b ∷ []) ≡ heard_in b ++ heard_by bs
heard_first [] b = nothing_more (heard_in b)
heard_first (c ∷ bs) b = ap (λ xs. xs ++ heard_in c) (heard_first bs b) ∙ append_assoc (heard_in b) (heard_by bs) (heard_in c)

grown : {A : Type 0} (whole mid base a b all : List A) → whole ≡ mid ++ b → mid ≡ base ++ a → all ≡ a ++ b → whole ≡ base ++ all
grown whole mid base a b all e f g = e ∙ (ap (λ xs. xs ++ b) f ∙ (append_assoc base a b ∙ ap (λ xs. base ++ xs) (sym g)))

-- ---- calls

both_map : {A B : Type 0} (f : A → List B) (xs ys : List A) → flat_map f (xs ++ ys) ≡ flat_map f xs ++ flat_map f ys
both_map f [] ys = refl
both_map f (x ∷ xs) ys = ap (λ zs. f x ++ zs) (both_map f xs ys) ∙ sym (append_assoc (f x) (flat_map f xs) (flat_map f ys))

nothing_heard : (calls : List DoorCall) → AreGiving calls → door.heard_in calls ≡ []
nothing_heard [] e = refl
nothing_heard (given what is_said ∷ calls) e = nothing_heard calls e
nothing_heard (sent what is_said full ∷ calls) e = nothing_heard calls e
nothing_heard (heard wait what ∷ calls) e = absurd (cc)
nothing_heard (flushed ∷ calls) e = absurd (cc)
nothing_heard (failed ask why ∷ calls) e = absurd (cc)

heard_at : (s : Setup) (b : Begin) (h : List ClientEvent) → door.heard_in (hearing s b h) ≡ heard_in b
heard_at s Dials h = refl
heard_at s (Hears now event) h = refl

given_at : (s : Setup) (b : Begin) (h : List ClientEvent) → given_in (hearing s b h) ≡ []
given_at s Dials h = refl
given_at s (Hears now event) h = refl

full_at : (s : Setup) (b : Begin) (h : List ClientEvent) → full_in (hearing s b h) ≡ []
full_at s Dials h = refl
full_at s (Hears now event) h = refl

heard_by_turn : (s : Setup) (b : Begin) (h : List ClientEvent) (calls giving : List DoorCall) → calls ≡ hearing s b h ++ giving → AreGiving giving
    → door.heard_in calls ≡ heard_in b
heard_by_turn s b h calls giving e are =
    ap door.heard_in e ∙ (both_map heard_of (hearing s b h) giving ∙ (ap (λ xs. xs ++ door.heard_in giving) (heard_at s b h)
    ∙ (ap (λ xs. heard_in b ++ xs) (nothing_heard giving are) ∙ sym (nothing_more (heard_in b)))))

given_by_turn : (s : Setup) (b : Begin) (h : List ClientEvent) (calls giving : List DoorCall) → calls ≡ hearing s b h ++ giving → given_in calls ≡ given_in giving
given_by_turn s b h calls giving e = ap given_in e ∙ (both_map given_of (hearing s b h) giving ∙ ap (λ xs. xs ++ given_in giving) (given_at s b h))

full_by_turn : (s : Setup) (b : Begin) (h : List ClientEvent) (calls giving : List DoorCall) → calls ≡ hearing s b h ++ giving → full_in calls ≡ full_in giving
full_by_turn s b h calls giving e = ap full_in e ∙ (both_map full_of (hearing s b h) giving ∙ ap (λ xs. xs ++ full_in giving) (full_at s b h))

module _ {Job : Type 0} where
  pub dialed_is_turns : DialedIsTurns Job
  dialed_is_turns hub s script zero bs h after told turns (e, end) = record {
    begins = [];
    count = refl;
    turns = subst (λ k. Turns hub s script bs k) end turns;
    hears = ap (λ t. door.heard_in t.calls) e;
    gives = sym (ap tell.given end) ∙ (nothing_more (tell.given h) ∙ ap (λ t. tell.given h ++ given_in t.calls) (sym e));
    answers = sym (ap seen end) ∙ (nothing_more (seen h) ∙ ap (λ t. seen h ++ full_in t.calls) (sym e));
    draws_more = sym (ap draws end) ∙ (nothing_more (draws h) ∙ ap (λ t. draws h ++ t.drawn) (sym e));
    prints = sym (ap (printed s) end) ∙ (nothing_more (printed s h) ∙ ap (λ t. printed s h ++ t.printed) (sym e));
  }
  dialed_is_turns hub s script (suc n) bs h after told turns (on, (b, mid, own, rest, tells, all, more)) =
      let r = dialed_is_turns hub s script n (b ∷ bs) mid after rest (h, turns, tells.may, tells.turn) more in
      let calls : told.calls ≡ own.calls ++ rest.calls = ap (λ t. t.calls) all in
      record {
        begins = r.begins ++ b ∷ [];
        count = one_longer r.begins b ∙ ap suc r.count;
        turns = subst (λ cs. Turns hub s script cs after) (sym (append_assoc r.begins (b ∷ []) bs)) r.turns;
        hears =
            ap door.heard_in calls ∙ (both_map heard_of own.calls rest.calls ∙ (ap (λ xs. xs ++ door.heard_in rest.calls)
            (heard_by_turn s b h own.calls tells.giving tells.hears tells.are_giving)
            ∙ (ap (λ xs. heard_in b ++ xs) r.hears ∙ sym (heard_first r.begins b))));
        gives =
            grown _ _ _ (given_in own.calls) (given_in rest.calls) _ r.gives
            (tells.gives ∙ ap (λ xs. tell.given h ++ xs) (sym (given_by_turn s b h own.calls tells.giving tells.hears)))
            (ap given_in calls ∙ both_map given_of own.calls rest.calls);
        answers =
            grown _ _ _ (full_in own.calls) (full_in rest.calls) _ r.answers
            (tells.answers ∙ ap (λ xs. seen h ++ xs) (sym (full_by_turn s b h own.calls tells.giving tells.hears)))
            (ap full_in calls ∙ both_map full_of own.calls rest.calls);
        draws_more = grown _ _ _ own.drawn rest.drawn _ r.draws_more tells.draws_more (ap (λ t. t.drawn) all);
        prints = grown _ _ _ own.printed rest.printed _ r.prints tells.prints (ap (λ t. t.printed) all);
      }
