-- What each call of a table makes of the happenings that it stands for. OfEach says: for every prefix and happenings for which the table stood.
use Rattle.std.specs.Prelude.{◌≡◌, ◌<◌, ◌≤◌, ℕ, suc, ◌+◌, Bool, true, false, List, [], ◌∷◌, Option, Some, None}
use Rattle.hv_value.specs.declared.value.Value.{Value}
use Rattle.hm_message.specs.declared.message.Message.{Message}
use Rattle.hm_message.specs.declared.message.Message.TheVariants.{CancelInvocation}
use Rattle.hm_message.specs.declared.message.Ending.{Ending}
use Rattle.hm_message.specs.declared.message.Ending.TheVariants.{Void, Error}
use Rattle.hv_value.specs.Tree.{Tree}
use Rattle.hd_calls.specs.declared.vocabulary.CallKind.{CallKind}
use Rattle.hd_calls.specs.Numbers.{most_live, most_uploads, most_numbers}
use Rattle.hd_calls.specs.Hubs.{Invoked, Answer, Item, End, message_of, answer_message}
use Rattle.hd_calls.specs.Rules.{new_live, new_numbers, is_upload}
use Rattle.hd_calls.specs.Ledgers.{CallHappening, Called, Got, Uploaded, Stopped, Gone}
use Rattle.hd_calls.specs.Peers.{streams_items}
use Rattle.hd_calls.specs.Tables.{drawn_in, call_in, live_call_in, live_upload_in, own_live_in}
use Rattle.hi_calls.specs.declared.calls.Calls.{Calls}
use Rattle.hi_calls.specs.declared.errors.CallError.{CallError}
use Rattle.hi_calls.specs.declared.errors.CallError.TheVariants as error
use Rattle.hi_calls.specs.Numbering.{id_with, next_number, next_call, HasPlaceIn}
use Rattle.hi_calls.specs.Stands.{Stands}

abbrev pub OfEach : Calls → (List ℕ → List CallHappening → Type 0) → Type 0
OfEach table Holds = (prefix : List ℕ) (h : List CallHappening) → Stands table prefix h → Holds prefix h

-- it stands for what it stood for
abbrev pub Stays : Calls → Calls → Type 0
Stays old new = OfEach old (λ prefix h. Stands new prefix h)

-- ---- a call

-- the call was begun with this number and message. A table remembers its way and streams, so it stands for a call of these whatever the
-- other end reads as its arguments
pub record Begins (new : Calls) (prefix : List ℕ) (h : List CallHappening) (call : Invoked) (number n : ℕ) (m : Message) : Type 0 where
  pub place : HasPlaceIn call h
  pub next : n ≡ number
  pub says : m ≡ message_of call
  pub stands : (read : Invoked) → read.way ≡ call.way → read.streams ≡ call.streams → Stands new prefix (Called n read ∷ h)
  pub newest : new.newest ≡ Some (drawn_in h)

-- it isn't begun for this reason, the first that holds
abbrev pub IsRefusedIn : Invoked → List CallHappening → CallError → Type 0
IsRefusedIn c h error.TooMany = most_live < own_live_in h + new_live c
IsRefusedIn c h error.Spent = (own_live_in h + new_live c ≤ most_live) × (most_numbers < drawn_in h + new_numbers c.way c)
IsRefusedIn c h error.UnknownId = ⊥
IsRefusedIn c h error.NoMemory = Unit {0}

-- the call that was just begun is taken back: the table stands for what one stood for before
abbrev pub Undoes : Calls → Calls → Type 0
Undoes old new = (before : Calls) (prefix : List ℕ) (h : List CallHappening) (kind : CallKind) (target : List ℕ) (arguments : List Tree) (uploads n : ℕ) (m : Message)
    → Stands before prefix h → uploads ≤ most_uploads
    → Begins old prefix h (next_call prefix h kind target arguments uploads) (next_number kind uploads h) n m → Stands new prefix h

-- ---- what comes for a call

-- the call of this number has the id, and is live
pub record IsLiveAs (prefix : List ℕ) (h : List CallHappening) (id : List ℕ) (n : ℕ) : Type 0 where
  pub is : id_with prefix n ≡ id
  pub live : live_call_in n h ≡ true

-- the call of the id, which is live, has ended
pub record Settles (new : Calls) (prefix : List ℕ) (h : List CallHappening) (id : List ℕ) (n : ℕ) : Type 0 where
  pub is : id_with prefix n ≡ id
  pub live : live_call_in n h ≡ true
  pub stands : (e : Ending) → Stands new prefix (Got n (End e) ∷ h)
  pub forgets : new.newest ≡ None

-- no live call has the id
abbrev pub IsUnknown : List ℕ → List CallHappening → List ℕ → Type 0
IsUnknown prefix h id = (n : ℕ) → id_with prefix n ≡ id → live_call_in n h ≡ false

-- the call of the id, which is live and a Stream, was given an item
pub record Itemizes (table : Calls) (prefix : List ℕ) (h : List CallHappening) (id : List ℕ) (n : ℕ) : Type 0 where
  pub is : id_with prefix n ≡ id
  pub live : live_call_in n h ≡ true
  pub streams : streams_items (call_in n h) ≡ true
  pub stands : (v : Value) → Stands table prefix (Got n (Item v) ∷ h)

-- no live Stream has the id
abbrev pub IsNoStream : List ℕ → List CallHappening → List ℕ → Type 0
IsNoStream prefix h id = (n : ℕ) → id_with prefix n ≡ id → live_call_in n h ≡ true → streams_items (call_in n h) ≡ false

-- ---- what is said of a call

-- why a message about a call or upload isn't made, if it is live or isn't
abbrev pub IsUnmade : Bool → CallError → Type 0
IsUnmade live error.UnknownId = live ≡ false
IsUnmade live error.NoMemory = Unit {0}
IsUnmade live _ = ⊥

-- the call is live, and this message cancels it
pub record Cancels (table : Calls) (prefix : List ℕ) (h : List CallHappening) (n : ℕ) (m : Message) : Type 0 where
  pub live : live_call_in n h ≡ true
  pub says : m ≡ CancelInvocation [] (id_with prefix n)
  pub stands : Stands table prefix (Stopped n ∷ h)

-- the upload is live, and this message carries the answer
pub record Uploads (prefix : List ℕ) (h : List CallHappening) (n w : ℕ) (a : Answer) (m : Message) : Type 0 where
  pub live : live_upload_in n w h ≡ true
  pub says : m ≡ answer_message (id_with prefix (suc (n + w))) a

-- an item was uploaded, which changes nothing here
abbrev pub TakesItem : Calls → List ℕ → List CallHappening → ℕ → ℕ → Type 0
TakesItem table prefix h n w = (v : Value) → Stands table prefix (Uploaded n w (Item v) ∷ h)

-- how an upload ends, with an error or without
abbrev pub upload_ending : Option (List ℕ) → Ending
upload_ending None = Void
upload_ending (Some text) = Error text

-- a live upload has ended, with no result
abbrev pub UploadEnds : Calls → List ℕ → List CallHappening → ℕ → ℕ → Type 0
UploadEnds new prefix h n w = (e : Ending) → is_upload (End e) ≡ true → Stands new prefix (Uploaded n w (End e) ∷ h)

-- ---- what is lost

-- the least live call is gone, or none is live
abbrev pub Loses : Calls → List ℕ → List CallHappening → Option ℕ → Type 0
Loses new prefix h None = ((n : ℕ) → live_call_in n h ≡ false) × Stands new prefix h
Loses new prefix h (Some n) = (live_call_in n h ≡ true) × ((k : ℕ) → k < n → live_call_in k h ≡ false) × Stands new prefix (Gone n ∷ h)
