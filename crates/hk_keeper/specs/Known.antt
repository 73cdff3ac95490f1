-- What a caller knows of any keeper after several calls, by the trait's clauses alone.
use Rattle.std.specs.Prelude.{◌≡◌, ℕ, Bool, true, List, [], ◌∷◌, ◌++◌, Option, Some, option_map}
use Rattle.hd_rooms.specs.declared.vocabulary.Asked.{Asked}
use Rattle.hd_rooms.specs.declared.vocabulary.Asked.TheVariants.{User, Rows, Log, History, AddUser}
use Rattle.hd_rooms.specs.Kept.{Content, KeeperDid, CountsFaults}

-- what it was asked since then leads from the content then to the content now, and accounts for each fault
pub record IsKnown (holds_then holds_now : Option Content) (answers_then answers_now : Option (List Asked)) (faults_then faults_now : ℕ) : Type 0 where
  pub since : List Asked
  pub told : answers_now ≡ option_map (λ (asks : List Asked). asks ++ since) answers_then
  pub kept : KeeperDid holds_then since holds_now
  pub counted : CountsFaults faults_then since faults_now

-- each call was made once, in this order, and answered: the user was to be added, and looked for; a text was logged as that user's, the rows were
-- counted, and the last text of its room was asked for, as which these came
pub record AreAnswered (user said : List ℕ × List ℕ) (texts : List (List ℕ)) (answers_then answers_now : Option (List Asked)) : Type 0 where
  pub is_new : Bool
  pub name : Option (List ℕ)
  pub count : ℕ
  pub told : answers_now ≡ option_map (λ (asks : List Asked).
      asks ++ AddUser user.0 user.1 (Some is_new) ∷ User user.0 (Some name) ∷ Log said.0 user.1 said.1 true ∷ Rows (Some count) ∷ History said.0 1 (Some texts) ∷ []) answers_then
