-- What a client gives its dialer at the end of a turn: its message, and then the shut of a lane.
use Rattle.std.proofs.Common.{◌≡◌, ℕ, Bool, true, false, List, [], ◌∷◌, ◌++◌, length, Option, Some, None, is_some, Result, Err}
use Rattle.std.proofs.Common.{refl, sym, ap, subst, ◌∙◌}
use Rattle.std.specs.Prelude.{◌&&◌, if◌then◌else◌}
use Rattle.std.specs.List.{list_all}
use Rattle.std.specs.Result.{IsErrAnd}
use Rattle.std.proofs.lemmas.Grind.{flat_map-append}
use Rattle.std.proofs.lemmas.List.{append-nil}
use Rattle.std.proofs.lemmas.List.Folds.{list_all-append}
use Rattle.std.proofs.lemmas.Result.{err_from_is_err_and}
use Rattle.hw_door.specs.declared.error.DoorError.{DoorError}
use Rattle.hw_door.specs.declared.heard.Given.TheVariants as give
use Rattle.hw_door.specs.DoorCalls.{DoorCall, failed, given, sent, to_say, full_in, full_of, given_in, given_of, is_giving}
use Rattle.hd_server.specs.Serving.{AreGiving}
use Rattle.sr_client.specs.declared.client.Client.{Client}
use Rattle.sr_client.specs.declared.client.Words.{Words}
use Rattle.sr_client.specs.Clients.{message_given, shut_given}
use Rattle.sr_client.specs.Turning.{GivesAll, GivesBy, GivesPart, SeesBy}

-- ---- the message

-- its message is given, if there is one
pub record GivesFirst (w : Words) (Goes : List DoorCall → Type 0) (old new : Client) : Type 0 where
  pub calls : List DoorCall
  pub goes : Goes calls
  pub are_giving : AreGiving calls
  pub message : given_in calls ≡ message_given w.lane w.message.items w.text
  pub sees : SeesBy w.lane (full_in calls) old new

pub first_none : (w : Words) (Goes : List DoorCall → Type 0) (c : Client) → w.lane ≡ None → Goes [] → GivesFirst w Goes c c
first_none w Goes c none goes = record {
  calls = [];
  goes = goes;
  are_giving = refl;
  message = sym (ap (λ l. message_given l w.message.items w.text) none);
  sees = subst (λ l. SeesBy l [] c c) (sym none) (refl, refl);
}

pub first_sent : (w : Words) (Goes : List DoorCall → Type 0) (c : Client) (lane : ℕ) (is_said full : Bool) → w.lane ≡ Some lane
    → Goes (sent (give.Bytes lane w.message.items w.text) is_said full ∷ []) → GivesFirst w Goes c (record c { full = full })
first_sent w Goes c lane is_said full some goes = record {
  calls = sent (give.Bytes lane w.message.items w.text) is_said full ∷ [];
  goes = goes;
  are_giving = refl;
  message = sym (ap (λ l. message_given l w.message.items w.text) some);
  sees = subst (λ l. SeesBy l (full ∷ []) c (record c { full = full })) (sym some) (full, refl, refl);
}

-- so many answers are seen of it
answers_of : (lane : Option ℕ) (answers : List Bool) (old new : Client) → SeesBy lane answers old new → length answers ≡ (if is_some lane then 1 else 0)
answers_of None answers old new x = ap length x.0
answers_of (Some lane) answers old new x = ap length x.1

-- ---- the whole of what is given, where a call fails

-- the calls that shut the lane, if all is said
abbrev shut_calls : Option ℕ → List DoorCall
shut_calls None = []
shut_calls (Some lane) = given (give.Shut lane) true ∷ []

shut_giving : (lane : Option ℕ) → AreGiving (shut_calls lane)
shut_giving None = refl
shut_giving (Some lane) = refl

shut_all : (lane : Option ℕ) → given_in (shut_calls lane) ≡ shut_given lane
shut_all None = refl
shut_all (Some lane) = refl

shut_mute : (lane : Option ℕ) → full_in (shut_calls lane) ≡ []
shut_mute None = refl
shut_mute (Some lane) = refl

-- the message fails, and nothing is given
pub first_fails : (w : Words) (Goes : List DoorCall → Type 0) (why : DoorError) (lane : ℕ) → w.lane ≡ Some lane
    → Goes (failed (to_say (give.Bytes lane w.message.items w.text)) why ∷ []) → GivesPart w Goes why
first_fails w Goes why lane some goes =
    let next = sent (give.Bytes lane w.message.items w.text) true false in
    record {
      calls = [];
      ask = to_say (give.Bytes lane w.message.items w.text);
      goes = goes;
      whole = next ∷ shut_calls w.shut;
      cut = (next, refl, (shut_calls w.shut, refl));
      are_giving = shut_giving w.shut;
      all =
          ap (λ l. give.Bytes lane w.message.items w.text ∷ l) (shut_all w.shut)
          ∙ sym (ap (λ l. message_given l w.message.items w.text ++ shut_given w.shut) some);
      answers = ap (λ l. length (false ∷ l)) (shut_mute w.shut) ∙ sym (ap (λ l. if is_some l then 1 else 0) some);
    }

-- ---- and then the lane is shut

all_then : (xs ys : List DoorCall) → AreGiving xs → AreGiving ys → AreGiving (xs ++ ys)
all_then xs ys a b = list_all-append is_giving xs ys ∙ (ap (λ x. x && list_all is_giving ys) a ∙ b)

module _ (w : Words) (old new : Client) (First Then Both : List DoorCall → Type 0) (join : (a b : List DoorCall) → First a → Then b → Both (a ++ b))
    (f : GivesFirst w First old new) (lane : ℕ) (some : w.shut ≡ Some lane) where
  all_with : (is_said : Bool) → given_in (f.calls ++ given (give.Shut lane) is_said ∷ []) ≡ message_given w.lane w.message.items w.text ++ shut_given w.shut
  all_with is_said =
      flat_map-append given_of f.calls (given (give.Shut lane) is_said ∷ [])
      ∙ (ap (λ l. l ++ give.Shut lane ∷ []) f.message ∙ sym (ap (λ l. message_given w.lane w.message.items w.text ++ shut_given l) some))

  full_with : (is_said : Bool) → full_in (f.calls ++ given (give.Shut lane) is_said ∷ []) ≡ full_in f.calls
  full_with is_said = flat_map-append full_of f.calls (given (give.Shut lane) is_said ∷ []) ∙ append-nil (full_in f.calls)

  pub then_shut : (is_said : Bool) → Then (given (give.Shut lane) is_said ∷ []) → GivesAll w Both old new
  then_shut is_said goes = record {
    calls = f.calls ++ given (give.Shut lane) is_said ∷ [];
    goes = join f.calls (given (give.Shut lane) is_said ∷ []) f.goes goes;
    are_giving = all_then f.calls (given (give.Shut lane) is_said ∷ []) f.are_giving refl;
    all = all_with is_said;
    sees = subst (λ l. SeesBy w.lane l old new) (sym (full_with is_said)) f.sees;
  }

  pub shut_fails : (why : DoorError) → Then (failed (to_say (give.Shut lane)) why ∷ []) → GivesPart w Both why
  shut_fails why goes = record {
    calls = f.calls;
    ask = to_say (give.Shut lane);
    goes = join f.calls (failed (to_say (give.Shut lane)) why ∷ []) f.goes goes;
    whole = f.calls ++ given (give.Shut lane) true ∷ [];
    cut = (given (give.Shut lane) true, refl, ([], append-nil (f.calls ++ given (give.Shut lane) true ∷ [])));
    are_giving = all_then f.calls (given (give.Shut lane) true ∷ []) f.are_giving refl;
    all = all_with true;
    answers = ap length (full_with true) ∙ answers_of w.lane (full_in f.calls) old new f.sees;
  }

-- the answer of a call that failed is passed on
pub part_by : (w : Words) (Goes : List DoorCall → Type 0) (old new : Client) (why : DoorError) (r : Result Unit DoorError) → IsErrAnd r (λ e. e ≡ why)
    → GivesPart w Goes why → GivesBy w Goes old new r
part_by w Goes old new why r err part =
    let p = err_from_is_err_and r err in subst (λ x. GivesBy w Goes old new x) (sym (p.1 ∙ ap Err p.2)) part
