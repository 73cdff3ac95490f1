-- Who calls, by what the keeper answered of an access token.
use Rattle.std.proofs.Common.{◌≡◌, ℕ, Bool, true, false, List, [], ◌∷◌, ◌++◌, Option, Some, None, IfSome, option_map, refl, sym, ap, subst}
use Rattle.std.specs.Prelude.{is_none, if◌then◌else◌}
use Rattle.std.specs.Str.{IsUtf8, is_utf8}
use Rattle.std.proofs.lemmas.List.{append-nil}
use Rattle.std.proofs.lemmas.Str.{IsUtf8-from_is_utf8, is_utf8-from_IsUtf8}
use Rattle.hd_rooms.specs.declared.vocabulary.Asked.{Asked}
use Rattle.hd_rooms.specs.declared.vocabulary.Asked.TheVariants as keeper
use Rattle.hd_rooms.specs.Kept.{Content, CountsFault, IsAnswer, KeeperDid}
use Rattle.hk_keeper.specs.Calls.{Gains}
use Rattle.hd_server.specs.declared.vocabulary.Caller.{Caller}
use Rattle.hd_server.specs.Table.{caller_told, caller_without, text_in}
use Rattle.hub_server.specs.Requests.{IsCaller, text_asked}

-- nothing more is told
pub same_told : (answers : Option (List Asked)) → answers ≡ option_map (λ (known : List Asked). known ++ []) answers
same_told None = refl
same_told (Some known) = ap Some (sym (append-nil known))

pub same_kept : (holds : Option Content) → KeeperDid holds [] holds
same_kept None = tt
same_kept (Some kept) = refl

-- the keeper wasn't asked
pub unasked : (text bearer : Option (List ℕ)) (who : Caller) (holds : Option Content) (answers : Option (List Asked)) (faults : ℕ)
    → text ≡ None → who ≡ caller_without bearer → IsCaller text bearer who holds answers faults holds answers faults
unasked text bearer who holds answers faults none is =
    subst (λ (t : Option (List ℕ)). IsCaller t bearer who holds answers faults holds answers faults) (sym none)
    (record { name = None; is = is; told = same_told answers; kept = same_kept holds; counted = refl })

-- without an access token
pub none_asked : (is_entry : Bool) → text_asked is_entry None ≡ None
none_asked true = refl
none_asked false = refl

-- a bearer that is no text
pub no_text : (bytes : List ℕ) → (IsUtf8 bytes → ⊥) → text_in (Some bytes) ≡ None
no_text bytes wrong = go (is_utf8 bytes) refl
  where
    go : (b : Bool) → is_utf8 bytes ≡ b → (if b then Some bytes else None) ≡ None
    go true e = absurd (wrong (IsUtf8-from_is_utf8 bytes e))
    go false e = refl

pub a_text : (bytes : List ℕ) → IsUtf8 bytes → text_in (Some bytes) ≡ Some bytes
a_text bytes right = ap (λ (b : Bool). if b then Some bytes else None) (is_utf8-from_IsUtf8 bytes right)

did_ask : (holds now : Option Content) (token : List ℕ) (name : Option (Option (List ℕ))) → now ≡ holds → IfSome holds
    (λ kept. IsAnswer kept (keeper.User token name))
    → KeeperDid holds (keeper.User token name ∷ []) now
did_ask holds now token name same right = subst (λ (o : Option Content). KeeperDid holds (keeper.User token name ∷ []) o) (sym same) (go holds right)
  where
    go : (o : Option Content) → IfSome o (λ kept. IsAnswer kept (keeper.User token name)) → KeeperDid o (keeper.User token name ∷ []) o
    go None p = tt
    go (Some kept) p = (p, refl)

-- the keeper was asked
pub asked_keeper : (text : Option (List ℕ)) (bytes : List ℕ) (who : Caller) (name : Option (Option (List ℕ))) (holds holds_now : Option Content)
    (answers answers_now : Option (List Asked))
    (faults faults_now : ℕ) → text ≡ Some bytes → who ≡ caller_told name → holds_now ≡ holds
    → IfSome holds (λ kept. IsAnswer kept (keeper.User bytes name)) → Gains answers answers_now (keeper.User bytes name)
    → CountsFault (is_none name) faults faults_now → IsCaller text (Some bytes) who holds answers faults holds_now answers_now faults_now
asked_keeper text bytes who name holds holds_now answers answers_now faults faults_now asks is same right told counted =
    subst (λ (t : Option (List ℕ)). IsCaller t (Some bytes) who holds answers faults holds_now answers_now faults_now) (sym asks) (record {
      name = name;
      is = is;
      told = told;
      kept = did_ask holds holds_now bytes name same right;
      counted = (faults_now, counted, refl);
    })

-- nothing is said of what a keeper keeps that failed
pub unanswered : (holds : Option Content) (bytes : List ℕ) → IfSome holds (λ kept. IsAnswer kept (keeper.User bytes None))
unanswered None bytes = tt
unanswered (Some kept) bytes = tt
