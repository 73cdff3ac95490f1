-- How many calls a side made, and how many of them ended.
use Rattle.std.specs.Prelude.{◌≡◌, All, ℕ, suc, ◌+◌, ◌&&◌, ◌||◌, List}
use Rattle.hd_delivery.specs.declared.vocabulary.Side.TheVariants.{Client, Server}
use Rattle.hd_delivery.specs.Worlds.{Event}
use Rattle.hd_delivery.specs.Sides.{history}
use Rattle.hd_calls.specs.Peers.{PeerEvent, drawn, call_of, given, lost, has_end, has_id, live_call}
use Rattle.hd_calls.specs.Rules.{count_below}
use Rattle.sr_script.specs.declared.action.Action.{Action}
use Rattle.sr_script.specs.declared.action.Action.TheVariants.{Call}
use Rattle.sr_soak.specs.declared.totals.Totals.{Totals}

-- the calls that have an id, by their numbers
abbrev pub calls_in : List PeerEvent → ℕ
calls_in h = count_below (suc (drawn h)) (λ n. has_id (call_of n h))

-- of these, those that ended: an ending was given, or the call was handed out as gone
abbrev pub endings_in : List PeerEvent → ℕ
endings_in h = count_below (suc (drawn h)) (λ n. has_id (call_of n h) && (has_end (given n h) || lost n h))

-- and those that are live
abbrev pub live_in : List PeerEvent → ℕ
live_in h = count_below (suc (drawn h)) (λ n. live_call n h)

-- of both sides
abbrev pub of_both : (List PeerEvent → ℕ) → List (Event PeerEvent) → ℕ
of_both count w = count (history Client w) + count (history Server w)

-- the totals of a world with so many links
pub record AreTotals (w : List (Event PeerEvent)) (links : ℕ) (totals : Totals) : Type 0 where
  pub calls : totals.calls ≡ of_both calls_in w
  pub endings : totals.endings ≡ of_both endings_in w
  pub live : totals.live ≡ of_both live_in w
  pub links_are : totals.links ≡ links
  pub ended_or_live : totals.calls ≡ totals.endings + totals.live

-- ---- calls without uploads

-- how many uploads come with a call
abbrev pub uploads_in : Action → ℕ
uploads_in (Call side a) = a.uploads
uploads_in _ = 0

abbrev pub HaveNoUploads : List Action → Type 0
HaveNoUploads actions = All (λ a. uploads_in a ≡ 0) actions
