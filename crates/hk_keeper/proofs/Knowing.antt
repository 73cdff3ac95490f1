-- What is known of a keeper after one call, and after one more.
use Rattle.std.proofs.Common.{◌≡◌, ℕ, Bool, true, false, List, [], ◌∷◌, ◌++◌, Option, Some, None, Result, Ok, Err, IfOk, OnOk, OnErr, IfSome, option_map, is_none, is_some, cond, refl, sym, ◌∙◌, ap, subst, append_assoc}
use Rattle.std.proofs.lemmas.List.{append-nil}
use Rattle.hd_rooms.specs.declared.vocabulary.Asked.{Asked}
use Rattle.hd_rooms.specs.declared.vocabulary.Asked.TheVariants.{User, Rows, Log, History, AddUser}
use Rattle.hd_rooms.specs.Kept.{Content, KeeperDid, CountsFault, IsAnswer, kept_after, has_failed, name_of, row_count, recalled, with_row, with_user}
use Rattle.hd_rooms.specs.KeptLaws.{AnswersJoin}
use Rattle.hk_keeper.specs.declared.keeper.KeepError.{KeepError}
use Rattle.hk_keeper.specs.declared.keeper.KeepError.TheVariants.{Failed, NoMemory}
use Rattle.hk_keeper.specs.Calls.{HasFaultCause, IsNoted, Gains}
use Rattle.hk_keeper.specs.Known.{IsKnown}

-- a right answer, and what is kept after it
did_one : (h k : Option Content) (ask : Asked) → IfSome h (λ kept. IsAnswer kept ask) → k ≡ option_map (kept_after ask) h → KeeperDid h (ask ∷ []) k
did_one h k ask p e = subst (λ (o : Option Content). KeeperDid h (ask ∷ []) o) (sym e) (go h p)
  where
    go : (h : Option Content) → IfSome h (λ kept. IsAnswer kept ask) → KeeperDid h (ask ∷ []) (option_map (kept_after ask) h)
    go None p = tt
    go (Some kept) p = (p, refl)

did_none : (h k : Option Content) → k ≡ h → KeeperDid h [] k
did_none h k e = subst (λ (o : Option Content). KeeperDid h [] o) (sym e) (go h)
  where
    go : (h : Option Content) → KeeperDid h [] h
    go None = tt
    go (Some kept) = refl

nothing_more : (a : Option (List Asked)) → a ≡ option_map (λ (asks : List Asked). asks ++ []) a
nothing_more None = refl
nothing_more (Some asks) = ap Some (sym (append-nil asks))

pub known_none : (h k : Option Content) (a b : Option (List Asked)) (m n : ℕ) → k ≡ h → b ≡ a → n ≡ m → IsKnown h k a b m n
known_none h k a b m n e f g = record { since = []; told = f ∙ nothing_more a; kept = did_none h k e; counted = g }

known_one : (h k : Option Content) (a b : Option (List Asked)) (m n : ℕ) (ask : Asked) →
    IfSome h (λ kept. IsAnswer kept ask) → k ≡ option_map (kept_after ask) h → Gains a b ask → CountsFault (has_failed ask) m n → IsKnown h k a b m n
known_one h k a b m n ask p e f g = record { since = ask ∷ []; told = f; kept = did_one h k ask p e; counted = (n, g, refl) }

-- what changes nothing
same : (h : Option Content) (f : Content → Content) → ((kept : Content) → f kept ≡ kept) → h ≡ option_map f h
same None f e = refl
same (Some kept) f e = ap Some (sym (e kept))

-- nothing is said of it
free : (h : Option Content) (P : Content → Type 0) → ((kept : Content) → P kept) → IfSome h P
free None P p = tt
free (Some kept) P p = p kept

pub user_known : (h k : Option Content) (a b : Option (List Asked)) (m n : ℕ) (token : List ℕ) (r : Result (Option (List ℕ)) KeepError) →
    IfOk r (λ name. IfSome h (λ kept. name ≡ name_of token kept.users)) → k ≡ h → IsNoted a b (User token) r → HasFaultCause m n r → IsKnown h k a b m n
user_known h k a b m n token (Ok name) p e f g = known_one h k a b m n (User token (Some name)) p (e ∙ same h _ (λ kept. refl)) f g
user_known h k a b m n token (Err Failed) p e f g = known_one h k a b m n (User token None) (free h _ (λ kept. tt)) (e ∙ same h _ (λ kept. refl)) f g
user_known h k a b m n token (Err NoMemory) p e f g = known_none h k a b m n e f g

pub rows_known : (h k : Option Content) (a b : Option (List Asked)) (m n : ℕ) (r : Result ℕ KeepError) →
    IfOk r (λ count. IfSome h (λ kept. count ≡ row_count kept.rows)) → k ≡ h → IsNoted a b Rows r → HasFaultCause m n r → IsKnown h k a b m n
rows_known h k a b m n (Ok count) p e f g = known_one h k a b m n (Rows (Some count)) p (e ∙ same h _ (λ kept. refl)) f g
rows_known h k a b m n (Err Failed) p e f g = known_one h k a b m n (Rows None) (free h _ (λ kept. tt)) (e ∙ same h _ (λ kept. refl)) f g
rows_known h k a b m n (Err NoMemory) p e f g = known_none h k a b m n e f g

pub history_known : (h k : Option Content) (a b : Option (List Asked)) (m n : ℕ) (room : List ℕ) (most : ℕ) (r : Result (List (List ℕ)) KeepError) →
    IfOk r (λ texts. IfSome h (λ kept. texts ≡ recalled room most kept.rows)) → k ≡ h → IsNoted a b (History room most) r → HasFaultCause m n r →
    IsKnown h k a b m n
history_known h k a b m n room most (Ok texts) p e f g = known_one h k a b m n (History room most (Some texts)) p (e ∙ same h _ (λ kept. refl)) f g
history_known h k a b m n room most (Err Failed) p e f g =
    known_one h k a b m n (History room most None) (free h _ (λ kept. tt)) (e ∙ same h _ (λ kept. refl)) f g
history_known h k a b m n room most (Err NoMemory) p e f g = known_none h k a b m n e f g

pub log_known : {T : Type 0} (h k : Option Content) (a b : Option (List Asked)) (m n : ℕ) (room who text : List ℕ) (r : Result T KeepError) →
    OnOk r (k ≡ option_map (with_row room who text) h) → OnErr r (k ≡ h) → IsNoted a b (λ done. Log room who text (is_some done)) r → HasFaultCause m n r →
    IsKnown h k a b m n
log_known h k a b m n room who text (Ok done) p e f g = known_one h k a b m n (Log room who text true) (free h _ (λ kept. tt)) p f g
log_known h k a b m n room who text (Err Failed) p e f g =
    known_one h k a b m n (Log room who text false) (free h _ (λ kept. tt)) (e ∙ same h _ (λ kept. refl)) f g
log_known h k a b m n room who text (Err NoMemory) p e f g = known_none h k a b m n e f g

pub add_known : (h k : Option Content) (a b : Option (List Asked)) (m n : ℕ) (token name : List ℕ) (r : Result Bool KeepError) →
    IfOk r (λ new. IfSome h (λ kept. new ≡ is_none (name_of token kept.users))) →
    IfOk r (λ new. k ≡ cond new (option_map (with_user token name) h) h) → OnErr r (k ≡ h) →
    IsNoted a b (AddUser token name) r → HasFaultCause m n r → IsKnown h k a b m n
add_known h k a b m n token name (Ok true) p q e f g = known_one h k a b m n (AddUser token name (Some true)) p q f g
add_known h k a b m n token name (Ok false) p q e f g = known_one h k a b m n (AddUser token name (Some false)) p (q ∙ same h _ (λ kept. refl)) f g
add_known h k a b m n token name (Err Failed) p q e f g =
    known_one h k a b m n (AddUser token name None) (free h _ (λ kept. tt)) (e ∙ same h _ (λ kept. refl)) f g
add_known h k a b m n token name (Err NoMemory) p q e f g = known_none h k a b m n e f g

told_join : (a b c : Option (List Asked)) (xs ys : List Asked) →
    b ≡ option_map (λ (asks : List Asked). asks ++ xs) a → c ≡ option_map (λ (asks : List Asked). asks ++ ys) b →
    c ≡ option_map (λ (asks : List Asked). asks ++ (xs ++ ys)) a
told_join a b c xs ys p q = q ∙ ap (option_map (λ (asks : List Asked). asks ++ ys)) p ∙ go a
  where
    go : (a : Option (List Asked)) →
        option_map (λ (asks : List Asked). asks ++ ys) (option_map (λ (asks : List Asked). asks ++ xs) a) ≡ option_map (λ (asks : List Asked). asks ++ (xs ++ ys)) a
    go None = refl
    go (Some asks) = ap Some (append_assoc asks xs ys)

-- what is known of two stretches is known of both together
pub known_join : AnswersJoin → (h k o : Option Content) (a b c : Option (List Asked)) (l m n : ℕ) → IsKnown h k a b l m → IsKnown k o b c m n → IsKnown h o a c l n
known_join laws h k o a b c l m n p q = record {
  since = p.since ++ q.since;
  told = told_join a b c p.since q.since p.told q.told;
  kept = laws.kept h k o p.since q.since p.kept q.kept;
  counted = laws.faults l m n p.since q.since p.counted q.counted;
}

-- five answers, one after the other
pub told_five : (a b c d e f : Option (List Asked)) (p q r s t : Asked) → Gains a b p → Gains b c q → Gains c d r → Gains d e s → Gains e f t →
    f ≡ option_map (λ (asks : List Asked). asks ++ p ∷ q ∷ r ∷ s ∷ t ∷ []) a
told_five a b c d e f p q r s t g h i j k =
    told_join a e f (p ∷ q ∷ r ∷ s ∷ []) (t ∷ [])
    (told_join a d e (p ∷ q ∷ r ∷ []) (s ∷ []) (told_join a c d (p ∷ q ∷ []) (r ∷ []) (told_join a b c (p ∷ []) (q ∷ []) g h) i) j) k
