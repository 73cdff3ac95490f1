-- The lines of a peer: each asks for one thing at most.
use Rattle.std.proofs.Common.{◌≡◌, ◌≢◌, ◌<◌, ◌^◌, ℕ, ◌⊎◌, inl, inr, List, [], ◌∷◌, ◌++◌, get_or, Result, Ok, refl, sym, ◌∙◌, ap, subst, arith}
use Rattle.std.specs.Fmt.{decimal}
use Rattle.std.proofs.lemmas.Fmt.{decimal_injective}
use Rattle.std.proofs.lemmas.List.{append_cancel_left}
use Rattle.std.proofs.lemmas.List.Elements.{All-nil, All-cons}
use Rattle.hd_facts.specs.Unique.{IsTheOne}
use Rattle.hv_value.specs.Tree.{Tree, list, trees}
use Rattle.hv_value.specs.View.{tree}
use Rattle.hv_value.specs.declared.value.Value.{Value}
use Rattle.hv_json.specs.Reading.{reading}
use Rattle.hv_json.specs.declared.reading.JsonError.{JsonError}
use Rattle.hm_message.specs.Laws.{ValuesAreTrees}
use Rattle.hm_message.specs.Message.{value_of}
use Rattle.hm_message.specs.Fields.{trees_in}
use Rattle.hd_delivery.specs.declared.vocabulary.Side.{Side}
use Rattle.hd_calls.specs.declared.vocabulary.CallKind.{CallKind}
use Rattle.hd_calls.specs.declared.vocabulary.CallKind.TheVariants as kind
use Rattle.sr_notation.specs.Laws.{WordsAreCutOnce}
use Rattle.sr_notation.specs.Words.{IsWord}
use Rattle.sr_script.specs.declared.action.Action.{Action}
use Rattle.sr_script.specs.declared.action.Action.TheVariants.{Lose, Write, Read, Close, Send, Call, Item, Done, Cancel, Round}
use Rattle.sr_script.specs.declared.action.Asking.{Asking}
use Rattle.sr_script.specs.Script.{IsCallWord, NamesCall, WantsCall, NamesItem}
use Rattle.sr_script.specs.Asking.{OfLink, OfPeer, OfEnd}

-- letters of words, by their places from 0
abbrev letter_at : ℕ → List ℕ → ℕ
letter_at n words = get_or words n 0

-- ---- the words of calls

letters : (words : List ℕ) → IsWord words → (b : ℕ) → b ≢ 32 → IsWord (b ∷ words)
letters words is b apart = All-cons (λ k. k ≢ 32) b words apart is

four : (a b c d : ℕ) → a ≢ 32 → b ≢ 32 → c ≢ 32 → d ≢ 32 → IsWord (a ∷ b ∷ c ∷ d ∷ [])
four a b c d p q r s = letters (b ∷ c ∷ d ∷ []) (letters (c ∷ d ∷ []) (letters (d ∷ []) (letters [] (All-nil (λ k. k ≢ 32)) d s) c r) b q) a p

six : (x y a b c d : ℕ) → x ≢ 32 → y ≢ 32 → a ≢ 32 → b ≢ 32 → c ≢ 32 → d ≢ 32 → IsWord (x ∷ y ∷ a ∷ b ∷ c ∷ d ∷ [])
six x y a b c d v w p q r s = letters (y ∷ a ∷ b ∷ c ∷ d ∷ []) (letters (a ∷ b ∷ c ∷ d ∷ []) (four a b c d p q r s) y w) x v

call_word : IsWord (99 ∷ 97 ∷ 108 ∷ 108 ∷ [])
call_word = four 99 97 108 108 (λ e. omega (arith, e)) (λ e. omega (arith, e)) (λ e. omega (arith, e)) (λ e. omega (arith, e))

upload_word : IsWord (117 ∷ 112 ∷ 108 ∷ 111 ∷ 97 ∷ 100 ∷ [])
upload_word = six 117 112 108 111 97 100 (λ e. omega (arith, e)) (λ e. omega (arith, e)) (λ e. omega (arith, e)) (λ e. omega (arith, e)) (λ e. omega (arith, e)) (λ e. omega (arith, e))

stream_word : IsWord (115 ∷ 116 ∷ 114 ∷ 101 ∷ 97 ∷ 109 ∷ [])
stream_word = six 115 116 114 101 97 109 (λ e. omega (arith, e)) (λ e. omega (arith, e)) (λ e. omega (arith, e)) (λ e. omega (arith, e)) (λ e. omega (arith, e)) (λ e. omega (arith, e))

notify_word : IsWord (110 ∷ 111 ∷ 116 ∷ 105 ∷ 102 ∷ 121 ∷ [])
notify_word = six 110 111 116 105 102 121 (λ e. omega (arith, e)) (λ e. omega (arith, e)) (λ e. omega (arith, e)) (λ e. omega (arith, e)) (λ e. omega (arith, e)) (λ e. omega (arith, e))

-- what is said of each such word is so of the word of a call
each_word : (P : List ℕ → Type 0) → P (99 ∷ 97 ∷ 108 ∷ 108 ∷ []) → P (117 ∷ 112 ∷ 108 ∷ 111 ∷ 97 ∷ 100 ∷ []) → P (115 ∷ 116 ∷ 114 ∷ 101 ∷ 97 ∷ 109 ∷ [])
    → P (110 ∷ 111 ∷ 116 ∷ 105 ∷ 102 ∷ 121 ∷ []) → (word : List ℕ) (k : CallKind) (uploads : ℕ) → IsCallWord word k uploads → P word
each_word P c u s n word kind.Call uploads (inl is) = subst P (sym is.0) c
each_word P c u s n word kind.Call uploads (inr is) = subst P (sym is.0) u
each_word P c u s n word kind.Stream uploads is = subst P (sym is.0) s
each_word P c u s n word kind.Notify uploads is = subst P (sym is.0) n

is_word : (word : List ℕ) (k : CallKind) (uploads : ℕ) → IsCallWord word k uploads → IsWord word
is_word = each_word IsWord call_word upload_word stream_word notify_word

-- a word calls in one way
same_called : (word other : List ℕ) (a b : CallKind) (m n : ℕ) → word ≡ other → IsCallWord word a m → IsCallWord other b n → (a ≡ b) × (m ≡ n)
same_called word other kind.Call kind.Call m n e (inl p) (inl q) = (refl, p.1 ∙ sym q.1)
same_called word other kind.Call kind.Call m n e (inl p) (inr q) = absurd (let h : 99 ≡ 117 = ap (letter_at 0) (sym p.0 ∙ e ∙ q.0) in omega arith)
same_called word other kind.Call kind.Call m n e (inr p) (inl q) = absurd (let h : 117 ≡ 99 = ap (letter_at 0) (sym p.0 ∙ e ∙ q.0) in omega arith)
same_called word other kind.Call kind.Call m n e (inr p) (inr q) = (refl, p.1 ∙ sym q.1)
same_called word other kind.Call kind.Stream m n e (inl p) q = absurd (let h : 99 ≡ 115 = ap (letter_at 0) (sym p.0 ∙ e ∙ q.0) in omega arith)
same_called word other kind.Call kind.Stream m n e (inr p) q = absurd (let h : 117 ≡ 115 = ap (letter_at 0) (sym p.0 ∙ e ∙ q.0) in omega arith)
same_called word other kind.Call kind.Notify m n e (inl p) q = absurd (let h : 99 ≡ 110 = ap (letter_at 0) (sym p.0 ∙ e ∙ q.0) in omega arith)
same_called word other kind.Call kind.Notify m n e (inr p) q = absurd (let h : 117 ≡ 110 = ap (letter_at 0) (sym p.0 ∙ e ∙ q.0) in omega arith)
same_called word other kind.Stream kind.Call m n e p (inl q) = absurd (let h : 115 ≡ 99 = ap (letter_at 0) (sym p.0 ∙ e ∙ q.0) in omega arith)
same_called word other kind.Stream kind.Call m n e p (inr q) = absurd (let h : 115 ≡ 117 = ap (letter_at 0) (sym p.0 ∙ e ∙ q.0) in omega arith)
same_called word other kind.Stream kind.Stream m n e p q = (refl, p.1 ∙ sym q.1)
same_called word other kind.Stream kind.Notify m n e p q = absurd (let h : 115 ≡ 110 = ap (letter_at 0) (sym p.0 ∙ e ∙ q.0) in omega arith)
same_called word other kind.Notify kind.Call m n e p (inl q) = absurd (let h : 110 ≡ 99 = ap (letter_at 0) (sym p.0 ∙ e ∙ q.0) in omega arith)
same_called word other kind.Notify kind.Call m n e p (inr q) = absurd (let h : 110 ≡ 117 = ap (letter_at 0) (sym p.0 ∙ e ∙ q.0) in omega arith)
same_called word other kind.Notify kind.Stream m n e p q = absurd (let h : 110 ≡ 115 = ap (letter_at 0) (sym p.0 ∙ e ∙ q.0) in omega arith)
same_called word other kind.Notify kind.Notify m n e p q = (refl, p.1 ∙ sym q.1)

-- ---- what words name

same_list : (ts us : List Tree) → ValuesAreTrees → list (trees ts) ≡ list (trees us) → ts ≡ us
same_list ts us values e =
    let same : trees ts ≡ trees us = cc in
    sym (values.trees_in-trees ts) ∙ ap (λ x. trees_in x) same ∙ values.trees_in-trees us

same_value : (v w : Value) → ValuesAreTrees → tree v ≡ tree w → v ≡ w
same_value v w values e = sym (values.value_of-tree v) ∙ ap (λ t. value_of t) e ∙ values.value_of-tree w

-- two readings of one text
pub one_reading : (text other : List ℕ) (t u : Tree) → text ≡ other → reading text ≡ Ok t → reading other ≡ Ok u → t ≡ u
one_reading text other t u e p q = let same : ◌≡◌ {A = Result Tree JsonError} (Ok t) (Ok u) = sym p ∙ ap reading e ∙ q in cc

same_asking : (a b : Asking) → a.kind ≡ b.kind → a.uploads ≡ b.uploads → a.target ≡ b.target → a.arguments ≡ b.arguments → a ≡ b
same_asking a b k u t s = ap (λ (x : CallKind). record a { kind = x }) k
    ∙ ap (λ (x : ℕ). record a { kind = b.kind; uploads = x }) u
    ∙ ap (λ (x : List ℕ). record a { kind = b.kind; uploads = b.uploads; target = x }) t
    ∙ ap (λ (x : List Tree). record a { kind = b.kind; uploads = b.uploads; target = b.target; arguments = x }) s

-- the words are cut at their first space
pub record IsCut (words : List ℕ) (front rest : List ℕ) : Type 0 where
  pub word : IsWord front
  pub is : words ≡ front ++ 32 ∷ rest

pub named_parts : WordsAreCutOnce → (words front rest : List ℕ) (a : Asking) → IsCut words front rest → (names : NamesCall words a) → (front ≡ a.target) × (rest ≡ names.list_text)
named_parts cuts words front rest a cut names = cuts.one_cut front a.target rest names.list_text cut.word names.target.spaceless (sym cut.is ∙ names.words_are)

-- so is what asks for a call
pub wanted_parts : WordsAreCutOnce → (words front rest : List ℕ) (a : Asking) → IsCut words front rest → (wants : WantsCall words a) → (front ≡ wants.word) × (rest ≡ wants.rest)
wanted_parts cuts words front rest a cut wants =
    cuts.one_cut front wants.word rest wants.rest cut.word (is_word wants.word a.kind a.uploads wants.called) (sym cut.is ∙ wants.words_are)

pub item_parts : WordsAreCutOnce → (words front rest : List ℕ) (call : ℕ) (value : Value) → IsCut words front rest → (names : NamesItem words call value)
    → (front ≡ decimal call) × (rest ≡ names.value_text)
item_parts cuts words front rest call value cut names =
    cuts.one_cut front (decimal call) rest names.value_text cut.word (cuts.digits call names.short) (sym cut.is ∙ names.words_are)

-- what is called so, and names this, asks for the call
pub call_wanted : (words front rest : List ℕ) (k : CallKind) (uploads : ℕ) (a : Asking) → IsCut words front rest → IsCallWord front k uploads → NamesCall rest a
    → a.kind ≡ k → a.uploads ≡ uploads → WantsCall words a
call_wanted words front rest k uploads a cut called names kind_is uploads_are = record {
  word = front;
  rest = rest;
  words_are = cut.is;
  called = subst (λ (x : CallKind). IsCallWord front x a.uploads) (sym kind_is) (subst (λ (n : ℕ). IsCallWord front k n) (sym uploads_are) called);
  names = names;
}

named_once : WordsAreCutOnce → ValuesAreTrees → (words others : List ℕ) (a b : Asking) → words ≡ others → NamesCall words a → NamesCall others b → (a.target ≡ b.target) × (a.arguments ≡ b.arguments)
named_once cuts values words others a b e p q =
    let parts = cuts.one_cut a.target b.target p.list_text q.list_text p.target.spaceless q.target.spaceless (sym p.words_are ∙ e ∙ q.words_are) in
    (parts.0, same_list a.arguments b.arguments values (one_reading p.list_text q.list_text (list (trees a.arguments)) (list (trees b.arguments)) parts.1 p.arguments q.arguments))

pub wanted_once : WordsAreCutOnce → ValuesAreTrees → (words : List ℕ) (a b : Asking) → WantsCall words a → WantsCall words b → a ≡ b
wanted_once cuts values words a b p q =
    let parts = cuts.one_cut p.word q.word p.rest q.rest (is_word p.word a.kind a.uploads p.called) (is_word q.word b.kind b.uploads q.called) (sym p.words_are ∙ q.words_are) in
    let called = same_called p.word q.word a.kind b.kind a.uploads b.uploads parts.0 p.called q.called in
    let named = named_once cuts values p.rest q.rest a b parts.1 p.names q.names in
    same_asking a b called.0 called.1 named.0 named.1

pub item_once : WordsAreCutOnce → ValuesAreTrees → (words others : List ℕ) (m n : ℕ) (v w : Value) → words ≡ others → NamesItem words m v → NamesItem others n w → (m ≡ n) × (v ≡ w)
item_once cuts values words others m n v w e p q =
    let parts = cuts.one_cut (decimal m) (decimal n) p.value_text q.value_text (cuts.digits m p.short) (cuts.digits n q.short) (sym p.words_are ∙ e ∙ q.words_are) in
    (decimal_injective m n p.short q.short parts.0, same_value v w values (one_reading p.value_text q.value_text (tree v) (tree w) parts.1 p.value_is q.value_is))

-- ---- words of a peer

-- the third letter of a call
call_third : (words : List ℕ) (a : Asking) → WantsCall words a → (letter_at 2 words ≢ 101) × (letter_at 2 words ≢ 110) × (letter_at 2 words ≢ 117)
call_third words a is = each_word (λ (word : List ℕ). words ≡ word ++ 32 ∷ is.rest → (letter_at 2 words ≢ 101) × (letter_at 2 words ≢ 110) × (letter_at 2 words ≢ 117))
    (λ e. let h : letter_at 2 words ≡ 108 = ap (letter_at 2) e in (λ x. omega (arith, h, x), λ x. omega (arith, h, x), λ x. omega (arith, h, x)))
    (λ e. let h : letter_at 2 words ≡ 108 = ap (letter_at 2) e in (λ x. omega (arith, h, x), λ x. omega (arith, h, x), λ x. omega (arith, h, x)))
    (λ e. let h : letter_at 2 words ≡ 114 = ap (letter_at 2) e in (λ x. omega (arith, h, x), λ x. omega (arith, h, x), λ x. omega (arith, h, x)))
    (λ e. let h : letter_at 2 words ≡ 116 = ap (letter_at 2) e in (λ x. omega (arith, h, x), λ x. omega (arith, h, x), λ x. omega (arith, h, x)))
    is.word a.kind a.uploads is.called is.words_are

pub done_of : (side : Side) (words rest : List ℕ) (a : Action) → words ≡ 100 ∷ 111 ∷ 110 ∷ 101 ∷ 32 ∷ rest → OfPeer side words a
    → (call : ℕ) × ((a ≡ Done side call) × (call < 2 ^ 64) × (rest ≡ decimal call))
done_of side words rest (Call s a) e is = absurd ((call_third words a is.1).1 (ap (letter_at 2) e))
done_of side words rest (Item s call value) e is = absurd (let h : 100 ≡ 105 = ap (letter_at 0) (sym e ∙ is.1.1.0) in omega arith)
done_of side words rest (Done s call) e is =
    (call, (ap (λ (x : Side). Done x call) is.0, is.1.0, append_cancel_left (100 ∷ 111 ∷ 110 ∷ 101 ∷ 32 ∷ []) rest (decimal call) (sym e ∙ is.1.1)))
done_of side words rest (Cancel s call) e is = absurd (let h : 100 ≡ 99 = ap (letter_at 0) (sym e ∙ is.1.1) in omega arith)
done_of side words rest (Round s) e is = absurd (let h : 100 ≡ 114 = ap (letter_at 0) (sym e ∙ is.1) in omega arith)
done_of side words rest _ e is = absurd is

pub cancel_of : (side : Side) (words rest : List ℕ) (a : Action) → words ≡ 99 ∷ 97 ∷ 110 ∷ 99 ∷ 101 ∷ 108 ∷ 32 ∷ rest → OfPeer side words a
    → (call : ℕ) × ((a ≡ Cancel side call) × (call < 2 ^ 64) × (rest ≡ decimal call))
cancel_of side words rest (Call s a) e is = absurd ((call_third words a is.1).1 (ap (letter_at 2) e))
cancel_of side words rest (Item s call value) e is = absurd (let h : 99 ≡ 105 = ap (letter_at 0) (sym e ∙ is.1.1.0) in omega arith)
cancel_of side words rest (Done s call) e is = absurd (let h : 99 ≡ 100 = ap (letter_at 0) (sym e ∙ is.1.1) in omega arith)
cancel_of side words rest (Cancel s call) e is =
    (call, (ap (λ (x : Side). Cancel x call) is.0, is.1.0, append_cancel_left (99 ∷ 97 ∷ 110 ∷ 99 ∷ 101 ∷ 108 ∷ 32 ∷ []) rest (decimal call) (sym e ∙ is.1.1)))
cancel_of side words rest (Round s) e is = absurd (let h : 99 ≡ 114 = ap (letter_at 0) (sym e ∙ is.1) in omega arith)
cancel_of side words rest _ e is = absurd is

-- an item of a call
pub record IsItem (side : Side) (rest : List ℕ) (a : Action) : Type 0 where
  pub call : ℕ
  pub value : Value
  pub action_is : a ≡ Item side call value
  pub names : NamesItem rest call value

pub item_of : (side : Side) (words rest : List ℕ) (a : Action) → words ≡ 105 ∷ 116 ∷ 101 ∷ 109 ∷ 32 ∷ rest → OfPeer side words a → IsItem side rest a
item_of side words rest (Call s a) e is = absurd ((call_third words a is.1).0 (ap (letter_at 2) e))
item_of side words rest (Item s call value) e is = record {
  call = call;
  value = value;
  action_is = ap (λ (x : Side). Item x call value) is.0;
  names = subst (λ (xs : List ℕ). NamesItem xs call value) (sym (append_cancel_left (105 ∷ 116 ∷ 101 ∷ 109 ∷ 32 ∷ []) rest is.1.0 (sym e ∙ is.1.1.0))) is.1.1.1;
}
item_of side words rest (Done s call) e is = absurd (let h : 105 ≡ 100 = ap (letter_at 0) (sym e ∙ is.1.1) in omega arith)
item_of side words rest (Cancel s call) e is = absurd (let h : 105 ≡ 99 = ap (letter_at 0) (sym e ∙ is.1.1) in omega arith)
item_of side words rest (Round s) e is = absurd (let h : 105 ≡ 114 = ap (letter_at 0) (sym e ∙ is.1) in omega arith)
item_of side words rest _ e is = absurd is

-- such words are no others'
pub the_done : (side : Side) (words rest : List ℕ) (call : ℕ) → words ≡ 100 ∷ 111 ∷ 110 ∷ 101 ∷ 32 ∷ rest → rest ≡ decimal call → call < 2 ^ 64
    → IsTheOne (OfPeer side words) (Done side call)
the_done side words rest call e is short = record {
  holds = (refl, (short, e ∙ ap (λ (xs : List ℕ). 100 ∷ 111 ∷ 110 ∷ 101 ∷ 32 ∷ xs) is));
  only = λ other asks. (let d = done_of side words rest other e asks in
      d.1.0 ∙ ap (λ (n : ℕ). Done side n) (decimal_injective d.0 call d.1.1 short (sym d.1.2 ∙ is)));
}

pub the_cancel : (side : Side) (words rest : List ℕ) (call : ℕ) → words ≡ 99 ∷ 97 ∷ 110 ∷ 99 ∷ 101 ∷ 108 ∷ 32 ∷ rest → rest ≡ decimal call → call < 2 ^ 64
    → IsTheOne (OfPeer side words) (Cancel side call)
the_cancel side words rest call e is short = record {
  holds = (refl, (short, e ∙ ap (λ (xs : List ℕ). 99 ∷ 97 ∷ 110 ∷ 99 ∷ 101 ∷ 108 ∷ 32 ∷ xs) is));
  only = λ other asks. (let d = cancel_of side words rest other e asks in
      d.1.0 ∙ ap (λ (n : ℕ). Cancel side n) (decimal_injective d.0 call d.1.1 short (sym d.1.2 ∙ is)));
}

pub the_item : WordsAreCutOnce → ValuesAreTrees → (side : Side) (words rest : List ℕ) (call : ℕ) (value : Value) → words ≡ 105 ∷ 116 ∷ 101 ∷ 109 ∷ 32 ∷ rest → NamesItem rest call value
    → IsTheOne (OfPeer side words) (Item side call value)
the_item cuts values side words rest call value e names = record {
  holds = (refl, (rest, (e, names)));
  only = λ other asks. (let d = item_of side words rest other e asks in
      let same = item_once cuts values rest rest d.call call d.value value refl d.names names in
      d.action_is ∙ ap (λ (n : ℕ). Item side n d.value) same.0 ∙ ap (λ (v : Value). Item side call v) same.1);
}

-- words that ask for a call
call_only : (side : Side) (words : List ℕ) (asking : Asking) → IsTheOne (WantsCall words) asking → (a : Action) → OfPeer side words a → a ≡ Call side asking
call_only side words asking one (Call s a) is = ap (λ (x : Side). Call x a) is.0 ∙ ap (λ (x : Asking). Call side x) (one.only a is.1)
call_only side words asking one (Item s call value) is = absurd ((call_third words asking one.holds).0 (ap (letter_at 2) is.1.1.0))
call_only side words asking one (Done s call) is = absurd ((call_third words asking one.holds).1 (ap (letter_at 2) is.1.1))
call_only side words asking one (Cancel s call) is = absurd ((call_third words asking one.holds).1 (ap (letter_at 2) is.1.1))
call_only side words asking one (Round s) is = absurd ((call_third words asking one.holds).2 (ap (letter_at 2) is.1))
call_only side words asking one _ is = absurd is

pub the_call : (side : Side) (words : List ℕ) (asking : Asking) → IsTheOne (WantsCall words) asking → IsTheOne (OfPeer side words) (Call side asking)
the_call side words asking one = record { holds = (refl, one.holds); only = λ other is. call_only side words asking one other is }

-- ---- ends and peers

-- the words of an end begin with l or w, or their second letter is e or l
abbrev IsLinkWord : List ℕ → Type 0
IsLinkWord words = (letter_at 0 words ≡ 108) ⊎ ((letter_at 0 words ≡ 119) ⊎ ((letter_at 1 words ≡ 101) ⊎ (letter_at 1 words ≡ 108)))

link_word : (side : Side) (words : List ℕ) (a : Action) → OfLink side words a → IsLinkWord words
link_word side words (Lose s) is = inl (ap (letter_at 0) is.1)
link_word side words (Write s count) is = inr (inl (ap (letter_at 0) is.1.1))
link_word side words (Read s count) is = inr (inr (inl (ap (letter_at 1) is.1.1)))
link_word side words (Close s) is = inr (inr (inr (ap (letter_at 1) is.1)))
link_word side words (Send s m) is = inr (inr (inl (ap (letter_at 1) is.1.1.0)))
link_word side words _ is = absurd is

no_link_word : (words : List ℕ) (a b : ℕ) → letter_at 0 words ≡ a → letter_at 1 words ≡ b → a ≢ 108 → a ≢ 119 → b ≢ 101 → b ≢ 108 → IsLinkWord words → ⊥
no_link_word words a b p q l w e k (inl is) = l (sym p ∙ is)
no_link_word words a b p q l w e k (inr (inl is)) = w (sym p ∙ is)
no_link_word words a b p q l w e k (inr (inr (inl is))) = e (sym q ∙ is)
no_link_word words a b p q l w e k (inr (inr (inr is))) = k (sym q ∙ is)

-- words with these two letters first
begins : (words : List ℕ) (a b : ℕ) (rest : List ℕ) → words ≡ a ∷ b ∷ rest → a ≢ 108 → a ≢ 119 → b ≢ 101 → b ≢ 108 → IsLinkWord words → ⊥
begins words a b rest e l w k m is = no_link_word words a b (ap (letter_at 0) e) (ap (letter_at 1) e) l w k m is

no_call : (words : List ℕ) (a : Asking) → WantsCall words a → IsLinkWord words → ⊥
no_call words a is link = each_word (λ (word : List ℕ). words ≡ word ++ 32 ∷ is.rest → ⊥)
    (λ e. begins words 99 97 (108 ∷ 108 ∷ 32 ∷ is.rest) e (λ x. omega (arith, x)) (λ x. omega (arith, x)) (λ x. omega (arith, x)) (λ x. omega (arith, x)) link)
    (λ e. begins words 117 112 (108 ∷ 111 ∷ 97 ∷ 100 ∷ 32 ∷ is.rest) e (λ x. omega (arith, x)) (λ x. omega (arith, x)) (λ x. omega (arith, x)) (λ x. omega (arith, x)) link)
    (λ e. begins words 115 116 (114 ∷ 101 ∷ 97 ∷ 109 ∷ 32 ∷ is.rest) e (λ x. omega (arith, x)) (λ x. omega (arith, x)) (λ x. omega (arith, x)) (λ x. omega (arith, x)) link)
    (λ e. begins words 110 111 (116 ∷ 105 ∷ 102 ∷ 121 ∷ 32 ∷ is.rest) e (λ x. omega (arith, x)) (λ x. omega (arith, x)) (λ x. omega (arith, x)) (λ x. omega (arith, x)) link)
    is.word a.kind a.uploads is.called is.words_are

-- no words are an end's and a peer's
peer_is_no_link : (side : Side) (words : List ℕ) (a : Action) → OfPeer side words a → IsLinkWord words → ⊥
peer_is_no_link side words (Call s a) is link = no_call words a is.1 link
peer_is_no_link side words (Item s call value) is link =
    begins words 105 116 (101 ∷ 109 ∷ 32 ∷ is.1.0) is.1.1.0 (λ x. omega (arith, x)) (λ x. omega (arith, x)) (λ x. omega (arith, x)) (λ x. omega (arith, x)) link
peer_is_no_link side words (Done s call) is link =
    begins words 100 111 (110 ∷ 101 ∷ 32 ∷ decimal call) is.1.1 (λ x. omega (arith, x)) (λ x. omega (arith, x)) (λ x. omega (arith, x)) (λ x. omega (arith, x)) link
peer_is_no_link side words (Cancel s call) is link =
    begins words 99 97 (110 ∷ 99 ∷ 101 ∷ 108 ∷ 32 ∷ decimal call) is.1.1 (λ x. omega (arith, x)) (λ x. omega (arith, x)) (λ x. omega (arith, x)) (λ x. omega (arith, x)) link
peer_is_no_link side words (Round s) is link =
    begins words 114 111 (117 ∷ 110 ∷ 100 ∷ []) is.1 (λ x. omega (arith, x)) (λ x. omega (arith, x)) (λ x. omega (arith, x)) (λ x. omega (arith, x)) link
peer_is_no_link side words _ is link = absurd is

pub link_found : (side : Side) (words : List ℕ) (a : Action) → IsTheOne (OfLink side words) a → IsTheOne (OfEnd side words) a
link_found side words a one = record { holds = inl one.holds; only = only } where
  only : (other : Action) → OfEnd side words other → other ≡ a
  only other (inl is) = one.only other is
  only other (inr is) = absurd (peer_is_no_link side words other is (link_word side words a one.holds))

pub peer_found : (side : Side) (words : List ℕ) (a : Action) → IsTheOne (OfPeer side words) a → IsTheOne (OfEnd side words) a
peer_found side words a one = record { holds = inr one.holds; only = only } where
  only : (other : Action) → OfEnd side words other → other ≡ a
  only other (inl is) = absurd (peer_is_no_link side words a one.holds (link_word side words other is))
  only other (inr is) = one.only other is

pub neither : (side : Side) (words : List ℕ) → ((a : Action) → OfLink side words a → ⊥) → ((a : Action) → OfPeer side words a → ⊥) → (a : Action) → OfEnd side words a → ⊥
neither side words no_link no_peer a (inl is) = no_link a is
neither side words no_link no_peer a (inr is) = no_peer a is

-- words that no peer's action has
pub no_peer : (side : Side) (words : List ℕ) → (words ≡ 114 ∷ 111 ∷ 117 ∷ 110 ∷ 100 ∷ [] → ⊥) → ((rest : List ℕ) → words ≡ 100 ∷ 111 ∷ 110 ∷ 101 ∷ 32 ∷ rest → ⊥)
    → ((rest : List ℕ) → words ≡ 99 ∷ 97 ∷ 110 ∷ 99 ∷ 101 ∷ 108 ∷ 32 ∷ rest → ⊥) → ((rest : List ℕ) → words ≡ 105 ∷ 116 ∷ 101 ∷ 109 ∷ 32 ∷ rest → ⊥)
    → ((a : Asking) → WantsCall words a → ⊥) → (a : Action) → OfPeer side words a → ⊥
no_peer side words r d c i w (Call s a) is = w a is.1
no_peer side words r d c i w (Item s call value) is = i is.1.0 is.1.1.0
no_peer side words r d c i w (Done s call) is = d (decimal call) is.1.1
no_peer side words r d c i w (Cancel s call) is = c (decimal call) is.1.1
no_peer side words r d c i w (Round s) is = r is.1
no_peer side words r d c i w _ is = absurd is
