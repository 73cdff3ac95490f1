-- What a table remembers of the happenings of its calls.
use Rattle.hi_calls.specs.Legal.{ledger_in, HasLedger}
use Rattle.std.specs.Prelude.{◌≡◌, ◌<◌, ◌≤◌, ℕ, suc, ◌+◌, Bool, true, false, List, [], Option, Some, None, nat_eq, if◌then◌else◌}
use Rattle.std.specs.HashMap.{get, hash_map_len}
use Rattle.hd_calls.specs.Numbers.{most_live, most_uploads, most_numbers}
use Rattle.hd_calls.specs.Ledgers.{CallHappening, IsLegal}
use Rattle.hd_calls.specs.Peers.{has_id, streams_items, stream_count}
use Rattle.hd_calls.specs.Tables.{drawn_in, call_in, given_in, lost_in, uploaded_in, live_call_in, live_upload_in, own_live_in}
use Rattle.hi_calls.specs.declared.calls.Calls.{Calls}
use Rattle.hi_calls.specs.Maps.{owner, owns}

-- of a live call: whether it takes items
abbrev pub live_kind : ℕ → List CallHappening → Option Bool
live_kind n h = if live_call_in n h then Some (streams_items (call_in n h)) else None

-- nothing has happened to a number that wasn't drawn
pub record IsFresh (n : ℕ) (h : List CallHappening) : Type 0 where
  pub uncalled : call_in n h ≡ None
  pub ungiven : given_in n h ≡ []
  pub unlost : lost_in n h ≡ false
  pub unsent : (w : ℕ) → uploaded_in n w h ≡ []
  pub unheard : ledger_in n h ≡ []

-- The table, which draws ids with this prefix, stands for these happenings, the latest first.
pub record Stands (table : Calls) (prefix : List ℕ) (h : List CallHappening) : Type 0 where
  pub draws_with : table.ids.prefix ≡ prefix
  pub drawn : table.drawn ≡ drawn_in h
  pub within : drawn_in h ≤ most_numbers
  pub calls : (n : ℕ) → get nat_eq table.calls n ≡ live_kind n h
  pub uploads : (n w : ℕ) → owns table.owners n w ≡ live_upload_in n w h
  pub owned : (k n : ℕ) → owner table.owners k ≡ Some n → (w : ℕ) × (k ≡ suc (n + w))
  pub size : hash_map_len table.calls + hash_map_len table.owners.calls ≡ own_live_in h
  pub few_live : own_live_in h ≤ most_live
  pub fresh : (n : ℕ) → drawn_in h < n → IsFresh n h
  pub few : (n : ℕ) → stream_count (call_in n h) ≤ most_uploads
  pub bare : (has_id (call_in 0 h) ≡ false) × (stream_count (call_in 0 h) ≡ 0)
  pub ledgers : (n : ℕ) → 0 < n → HasLedger n h
  pub streams : (n w : ℕ) → IsLegal true (uploaded_in n w h)
