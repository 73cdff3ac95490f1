-- A Notify without uploads leaves what a table stands for.
use Rattle.std.proofs.Common.{◌≡◌, ℕ, suc, ◌≤◌, false, true, List, [], ◌∷◌, length, Some, refl, sym, ap, arith}
use Rattle.std.specs.Prelude.{◌+◌, is_some, nat_lt, if◌then◌else◌}
use Rattle.std.proofs.lemmas.Bool.{ltb-true, and_parts, false_from_ne_true}
use Rattle.hd_calls.specs.declared.vocabulary.CallKind.TheVariants as kind
use Rattle.hd_calls.specs.Numbers.{most_live}
use Rattle.hd_calls.specs.Hubs.{Invoked, Notify, id_of, is_stream}
use Rattle.hd_calls.specs.Rules.{new_live}
use Rattle.hd_calls.specs.Ledgers.{CallHappening, Called}
use Rattle.hd_calls.specs.Peers.{has_id}
use Rattle.hd_calls.specs.Tables.{own_live_in}
use Rattle.hi_calls.specs.declared.calls.Calls.{Calls}
use Rattle.hi_calls.specs.Maps.{is_upload_number, owner, Enters}
use Rattle.hi_calls.specs.Stands.{Stands}
use Rattle.hi_calls.proofs.Beginning.{begun, new_zero, new_live-parts}

no_upload : (k : ℕ) → is_upload_number 0 0 k ≡ false
no_upload k = false_from_ne_true (is_upload_number 0 0 k) (λ z.
    let p = and_parts (nat_lt 0 k) (nat_lt k (suc (0 + 0))) z in
    let a = ltb-true 0 k p.0 in
    let b = ltb-true k (suc (0 + 0)) p.1 in
    omega arith)

pub passed : (table : Calls) (prefix : List ℕ) (h : List CallHappening) (c : Invoked) → Stands table prefix h → c.way ≡ Notify → c.streams ≡ []
    → Stands table prefix (Called 0 c ∷ h)
passed table prefix h c s way none = record {
  draws_with = g.draws_with;
  drawn = g.drawn;
  within = g.within;
  calls = g.calls;
  uploads = g.uploads;
  owned = g.owned;
  size = g.size;
  few_live = g.few_live;
  fresh = g.fresh;
  few = g.few;
  bare = g.bare;
  ledgers = g.ledgers;
  streams = g.streams;
}
  where
    after : Calls
    after = record table { newest = Some table.drawn }

    bare : has_id (Some c) ≡ false
    bare = ap (λ w. is_some (id_of w)) way

    len : length c.streams ≡ 0
    len = ap length none

    room : own_live_in h + new_live c ≤ most_live
    room =
        let p = new_live-parts c in
        let b : new_live c ≡ 0 = (λ i. if bare i then suc (len i) else len i) in
        let l = s.few_live in
        omega arith

    enters : Enters table after kind.Notify 0 0
    enters = record {
      ids = refl;
      drawn = omega arith;
      newest = refl;
      call = λ j. refl;
      calls_size = λ z. omega arith;
      uploads_begin = record {
        owner_of = λ k. sym (ap (λ b. if b then Some 0 else owner table.owners k) (no_upload k));
        size = λ z. omega arith;
      };
    }

    g : Stands after prefix (Called 0 c ∷ h)
    g = begun table after prefix h kind.Notify 0 0 c s enters (new_zero c h bare len s.bare) bare (ap is_stream way) len (omega arith) (omega arith) room (λ z. (bare, len))
