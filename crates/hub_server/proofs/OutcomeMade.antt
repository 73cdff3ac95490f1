-- The next connection is made, after another gave way to it if one does.
use Rattle.std.proofs.Common.{◌≡◌, ℕ, suc, Bool, true, false, List, [], ◌∷◌, ◌++◌, Option, Some, None, IfSome, refl, sym, ap, subst, ◌∙◌}
use Rattle.std.specs.Prelude.{if◌then◌else◌}
use Rattle.std.specs.Ordering.{nat_cmp}
use Rattle.std.specs.BTreeMap.{BTreeMap, get}
use Rattle.hd_calls.specs.Hubs.{Hub}
use Rattle.hd_server.specs.declared.vocabulary.Said.{Said}
use Rattle.hd_server.specs.Lives.{ConnectionEvent, Negotiated, Opened, Removed, gives_way, made}
use Rattle.hd_server.specs.Texts.{token_of}
use Rattle.hd_server.specs.Machine.{Goes}
use Rattle.hd_server.specs.Doings.{ServerEvent, Notes, Works, has_peer, moment, name_now, notes}
use Rattle.hd_server.specs.Plans.{Setup, giving_way, onto, removing_some}
use Rattle.hn_server_front.specs.declared.front.Front.{Front}
use Rattle.hn_server_front.specs.Calls.{IsUnused, after_leaving}
use Rattle.hn_server_front.specs.Stands as front
use Rattle.hub_server.specs.declared.server.Server.{Server}
use Rattle.hub_server.specs.Lanes.{settled}
use Rattle.hub_server.specs.Requests.{caller_left, caller_made}
use Rattle.hub_server.specs.Servers.{IsOrderly, Standing}
use Rattle.hub_server.specs.Steps.{HasCome}
use Rattle.hub_server.proofs.OutcomeCome.{Stays, come_stays, stays_goes, stays_lets, stays_same, stays_then}
use Rattle.hub_server.proofs.OutcomeMakes.{making, next_unmade, noted_open, noted_told, stands_named}
use Rattle.hub_server.proofs.OutcomeRoom.{gone_around, gone_made, gone_notes, gone_orderly, gone_unborn}

-- ---- what stays when one gives way

name_left : (o : Option ℕ) (h : List ServerEvent) → name_now (onto (removing_some o h) h) ≡ name_now h
name_left None h = refl
name_left (Some k) h = by (has_peer k h)
  where
    by : (b : Bool) → name_now (onto ((if b then Works (Goes k) ∷ [] else []) ++ Notes (Removed k) ∷ []) h) ≡ name_now h
    by true = refl
    by false = refl

moment_left : (o : Option ℕ) (h : List ServerEvent) → moment (onto (removing_some o h) h) ≡ moment h
moment_left None h = refl
moment_left (Some k) h = by (has_peer k h)
  where
    by : (b : Bool) → moment (onto ((if b then Works (Goes k) ∷ [] else []) ++ Notes (Removed k) ∷ []) h) ≡ moment h
    by true = refl
    by false = refl

-- it is the moment still
pub at_left : (s : Setup) (now at : ℕ) (h : List ServerEvent) → at ≡ moment h → at ≡ moment (onto (giving_way s now h) h)
at_left s now at h e = e ∙ sym (moment_left (gives_way s.live now (notes h)) h)

stays_left : (lane : ℕ) (o : Option ℕ) (h : List ServerEvent) → Stays lane (onto (removing_some o h) h) h
stays_left lane None h = stays_same lane h
stays_left lane (Some k) h = by (has_peer k h)
  where
    by : (b : Bool) → Stays lane (onto ((if b then Works (Goes k) ∷ [] else []) ++ Notes (Removed k) ∷ []) h) h
    by true = stays_then lane (Notes (Removed k) ∷ Works (Goes k) ∷ h) (Works (Goes k) ∷ h) h (stays_lets lane k (Works (Goes k) ∷ h)) (stays_goes lane k h)
    by false = stays_lets lane k h

-- the request still waits
pub come_left : (s : Setup) (now lane : ℕ) (is_last : Bool) (h : List ServerEvent) → HasCome lane is_last h → HasCome lane is_last (onto (giving_way s now h) h)
come_left s now lane is_last h come =
    come_stays lane is_last (onto (giving_way s now h) h) h (stays_left lane (gives_way s.live now (notes h)) h) come

-- ---- the one that is made

module _ {H Job : Type 0} (hub : Hub Job) (s : Setup) (before : List Said) (v : Server H Job) (h : List ServerEvent)
    (st : Standing {H = H} hub s settled before v h) (o : Option ℕ) (is : o ≡ gives_way v.front.live v.moment (notes h))
    (unused : IfSome o (IsUnused v.moment (notes h))) where
  abbrev leaves_now : Option ℕ
  leaves_now = gives_way s.live (moment h) (notes h)

  abbrev pub left : List ServerEvent
  left = onto (giving_way s (moment h) h) h

  -- who gives way by the front does by the server
  same_gone : o ≡ leaves_now
  same_gone = is ∙ ap (λ l. gives_way l v.moment (notes h)) st.front.limit ∙ ap (λ m. gives_way s.live m (notes h)) st.clock

  unused_now : IfSome leaves_now (IsUnused (moment h) (notes h))
  unused_now =
      subst (λ p. IfSome p (IsUnused (moment h) (notes h))) same_gone (subst (λ m. IfSome o (IsUnused m (notes h))) st.clock unused)

  left_notes : notes left ≡ after_leaving leaves_now (notes h)
  left_notes = gone_notes {H = H} {Job = Job} hub s before v h st (moment h) leaves_now unused_now

  -- what holds of the next connection
  pub tells_next : (conn : ℕ) → conn ≡ suc (made (notes h)) → conn ≡ suc (made (notes left))
  tells_next conn e = e ∙ sym (ap suc (ap made left_notes ∙ gone_made leaves_now (notes h)))

  pub orderly_next : IsOrderly settled (suc (made (notes left))) left
  orderly_next = gone_orderly {H = H} {Job = Job} hub s before v h st (moment h) leaves_now unused_now (suc (made (notes left)))

  pub unborn_next : front.IsUnborn (suc (made (notes left))) (notes left)
  unborn_next =
      gone_unborn {H = H} {Job = Job} hub s before v h st (moment h) leaves_now unused_now
      (st.front.stands.unborn (suc (made (notes h))) (next_unmade (notes h)))

  -- what the front noted, in the server's words
  noted_so : (f : Front) (note : ConnectionEvent) → front.Stands f (note ∷ after_leaving o (notes h)) → front.Stands f (note ∷ notes left)
  noted_so f note noted = subst (λ n. front.Stands f (note ∷ n)) (ap (λ p. after_leaving p (notes h)) same_gone ∙ sym left_notes) noted

  module _ (f : Front) (conn : ℕ) (next : conn ≡ suc (made (notes h)))
      (mid : BTreeMap ℕ (List ℕ)) (leaves : (c : ℕ) → get nat_cmp mid c ≡ caller_left o c (get nat_cmp v.callers c))
      (callers : BTreeMap ℕ (List ℕ)) (user : Option (List ℕ)) (named : name_now h ≡ user)
      (entered : (c : ℕ) → get nat_cmp callers c ≡ caller_made conn user c (get nat_cmp mid c)) (limit : f.live ≡ v.front.live) where
    stands_made : (told : Option (List ℕ × Bool)) → front.Stands f (making told (suc (made (notes left))) (moment h) ∷ notes left)
        → Standing {H = H} hub s settled before (record v { front = f; callers = callers })
        (Notes (making told (suc (made (notes left))) (moment h)) ∷ left)
    stands_made told noted =
        stands_named {H = H} {Job = Job} hub s before (record v { callers = mid }) f told (moment h) left
        (record { stands = noted; limit = limit ∙ st.front.limit })
        (gone_around {H = H} {Job = Job} hub s before v h st (moment h) leaves_now unused_now mid
        (λ c. leaves c ∙ ap (λ p. caller_left p c (get nat_cmp v.callers c)) same_gone))
        unborn_next callers user (name_left leaves_now h ∙ named)
        (λ c. entered c ∙ ap (λ n. caller_made n user c (get nat_cmp mid c)) (tells_next conn next))

    -- with a token
    pub stands_told : (bytes : List ℕ) (asked : Bool)
        → front.Stands f (Negotiated conn (token_of bytes conn) asked v.moment ∷ after_leaving o (notes h))
        → Standing {H = H} hub s settled before (record v { front = f; callers = callers })
        (Notes (making (Some (token_of bytes (suc (made (notes left))), asked)) (suc (made (notes left))) (moment h)) ∷ left)
    stands_told bytes asked noted =
        stands_made (Some (token_of bytes (suc (made (notes left))), asked))
        (noted_told f (notes left) conn v.moment (moment h) bytes asked (tells_next conn next) st.clock
        (noted_so f (Negotiated conn (token_of bytes conn) asked v.moment) noted))

    -- or without
    pub stands_opened : front.Stands f (Opened conn v.moment ∷ after_leaving o (notes h))
        → Standing {H = H} hub s settled before (record v { front = f; callers = callers })
        (Notes (making None (suc (made (notes left))) (moment h)) ∷ left)
    stands_opened noted =
        stands_made None
        (noted_open f (notes left) conn v.moment (moment h) (tells_next conn next) st.clock (noted_so f (Opened conn v.moment) noted))
