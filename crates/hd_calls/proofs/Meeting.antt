-- Two peers at one moment, from the delivery between their ends.
use Rattle.std.proofs.Common.{◌≡◌, ℕ, ◌<◌, ◌≤◌, true, false, List, [], ◌∷◌, ◌++◌, length, Some, refl, sym, ap, ◌∙◌, subst, arith, append_assoc}
use Rattle.std.specs.Prelude.{◌+◌, max, slice_get}
use Rattle.hm_message.specs.declared.message.Message.{Message}
use Rattle.hd_facts.specs.Prefixes.{IsPrefix}
use Rattle.hd_calls.specs.Numbers.{most_live}
use Rattle.hd_calls.specs.Hubs.{Invoked, Purpose, ToBegin, ToAnswer, ToCancel, ToNothing, Hub, id_of, purpose_of}
use Rattle.hd_calls.specs.Peers.{Effect, InUse, TooMany, PeerEvent, Handles, Settings, drawn, called, waiting, begun, moments, codec}
use Rattle.hd_calls.specs.Rules.{is_among, live_jobs, in_use, ActsOn, MayMove, Follows}
use Rattle.hd_calls.specs.PeerWorlds.{said_by, read_by, invoked, waits, refused, Refusals}
use Rattle.hd_calls.proofs.Lists.{prefix_trans, prefix_none}
use Rattle.hd_calls.proofs.Basics.{said, invoked-append, said_prefix, invoked_prefix}
use Rattle.hd_calls.proofs.Local.{handled, processed_is, called_is, OpenReads, none_yet, refusing}
use Rattle.hd_calls.proofs.Names.{Rising, rising_split, rises, Own_id, key_at, unused}
use Rattle.hd_calls.proofs.Callee.{Speaks, told, told_is, told_nothing}
use Rattle.hd_calls.proofs.Caller.{Causal}
use Rattle.hd_calls.proofs.Uploads.{led}

-- ids of one side and of the other are apart
pub record IsApart (mine theirs : ℕ → List ℕ) : Type 0 where
  pub own : (m n : ℕ) → mine m ≡ mine n → m ≡ n
  pub other : (m n : ℕ) → mine m ≡ theirs n → ⊥

-- the calls of x at y: what is known of them at one moment
pub record Meets {JX JY : Type 0} (hx : Hub JX) (hy : Hub JY) (tx ty : Settings) (x y : List PeerEvent) : Type 0 where
  pub caller : Follows hx tx x
  pub callee : Follows hy ty y
  pub caller_open : OpenReads tx x
  pub callee_open : OpenReads ty y
  pub callee_speaks : Speaks ty (codec ty y) y
  pub forth : IsPrefix (read_by ty y) (said_by tx x)
  pub back : IsPrefix (read_by tx x) (said_by ty y)

module _ {JX JY : Type 0} (hx : Hub JX) (hy : Hub JY) (tx ty : Settings) (apart : IsApart tx.name ty.name) (x y : List PeerEvent) (m : Meets hx hy tx ty x y) where
  -- the calls that y processed
  pub jobs_are : begun y ++ (refused y ++ invoked (waits (waiting y))) ≡ invoked (read_by ty y)
  jobs_are =
      let r = refusing hy ty y m.callee m.callee_open in
      sym (append_assoc (begun y) (refused y) (invoked (waits (waiting y))))
      ∙ (ap (λ cs. cs ++ invoked (waits (waiting y))) r.jobs
      ∙ (sym (invoked-append (handled y) (waits (waiting y))) ∙ ap invoked (sym (processed_is hy ty y m.callee))))

  pub calls_read : IsPrefix (invoked (read_by ty y)) (called x)
  calls_read = subst (λ cs. IsPrefix (invoked (read_by ty y)) cs) (called_is hx tx x m.caller) (invoked_prefix (read_by ty y) (said_by tx x) m.forth)

  pub jobs_in_order : IsPrefix (begun y) (called x)
  jobs_in_order = prefix_trans (begun y) (invoked (read_by ty y)) (called x) (refused y ++ invoked (waits (waiting y)), jobs_are) calls_read

  -- what they drew
  rising_read : (mid : ℕ) × Rising tx 0 (begun y ++ (refused y ++ invoked (waits (waiting y)))) mid × (mid ≤ drawn x)
  rising_read =
      let p = calls_read in
      let r : Rising tx 0 (invoked (read_by ty y) ++ p.0) (drawn x) = subst (λ cs. Rising tx 0 cs (drawn x)) (sym p.1) (rises hx tx x m.caller) in
      let s = rising_split tx 0 (invoked (read_by ty y)) p.0 (drawn x) r in
      (s.0, subst (λ cs. Rising tx 0 cs s.0) (sym jobs_are) s.1, le s.0 p.0 s.2)
    where
      le : (mid : ℕ) (cs : List Invoked) → Rising tx mid cs (drawn x) → mid ≤ drawn x
      le mid [] e = omega (arith, e)
      le mid (c ∷ cs) r = let h = le (max mid (r.0 + length c.streams)) cs r.2 in omega arith

  rising_begun : (mid : ℕ) × (to : ℕ) × Rising tx 0 (begun y) mid × Rising tx mid (refused y ++ invoked (waits (waiting y))) to × (to ≤ drawn x)
  rising_begun = let r = rising_read in let s = rising_split tx 0 (begun y) (refused y ++ invoked (waits (waiting y))) r.0 r.1 in (s.0, r.0, s.1, s.2, r.2)

  -- the numbers of the jobs
  pub rising_jobs : (mid : ℕ) × Rising tx 0 (begun y) mid × (mid ≤ drawn x)
  rising_jobs = let r = rising_begun in (r.0, r.2, le r.0 (refused y ++ invoked (waits (waiting y))) r.1 r.3 r.4)
    where
      le : (mid : ℕ) (cs : List Invoked) (to : ℕ) → Rising tx mid cs to → to ≤ drawn x → mid ≤ drawn x
      le mid [] to e f = omega (arith, e)
      le mid (c ∷ cs) to r f = let h = le (max mid (r.0 + length c.streams)) cs to r.2 f in omega arith

  -- a call that waits is in use nowhere
  pub no_use : (n : Message) (c : Invoked) → waiting y ≡ Some n → purpose_of n ≡ ToBegin c → in_use ty c y ≡ false
  no_use n c e is =
      let r = rising_begun in
      let none = none_yet hy ty y n (refusing hy ty y m.callee m.callee_open) e in
      let rest : refused y ++ invoked (waits (waiting y)) ≡ c ∷ [] = ap (λ cs. cs ++ invoked (waits (waiting y))) none ∙ (ap (λ o. invoked (waits o)) e ∙ ap (λ q. invoked (q ∷ [])) is) in
      let one : Rising tx r.0 (c ∷ []) r.1 = subst (λ cs. Rising tx r.0 cs r.1) rest r.3 in
      unused tx apart.own ty y r.0 one.0 c r.2 one.1

  -- an id's answers that were handled are among those that were told
  pub handled_told : (n : ℕ) → IsPrefix (said (tx.name n) (handled x)) (told ty (tx.name n) y)
  handled_told n =
      let p : IsPrefix (handled x) (read_by tx x) = (waits (waiting x), sym (processed_is hx tx x m.caller)) in
      let q = said_prefix (tx.name n) (handled x) (said_by ty y) (prefix_trans (handled x) (read_by tx x) (said_by ty y) p m.back) in
      subst (λ xs. IsPrefix (said (tx.name n) (handled x)) xs) (told_is hy ty (tx.name n) (λ k e. apart.other n k (sym e)) y m.callee) q

  -- an answer comes for a call that was made
  pub causal_here : (n : ℕ) → drawn x < n → said (tx.name n) (handled x) ≡ []
  causal_here n l =
      let r = rising_jobs in
      let none = told_nothing hy ty (begun y) (moments y) (tx.name n)
      (λ k e f g. let q = key_at tx 0 (begun y) r.0 k e (tx.name n) r.1 f (Own_id g) in let z = apart.own n q.number q.is in let b = q.within in let d = r.2 in omega arith)
      y m.callee (λ k e f. f, λ k e f. f) in
      prefix_none (said (tx.name n) (handled x)) (subst (λ xs. IsPrefix (said (tx.name n) (handled x)) xs) none (handled_told n))

-- of both directions at one moment
module _ {JX JY : Type 0} (hx : Hub JX) (hy : Hub JY) (tx ty : Settings) (apart : IsApart tx.name ty.name) (back : IsApart ty.name tx.name) (x y : List PeerEvent) (m : Meets hx hy tx ty x y) (n : Meets hy hx ty tx y x) where
  -- no job of x has an id of x
  pub no_own_job : (k j : ℕ) (e : Invoked) → slice_get (begun x) j ≡ Some e → id_of e.way ≡ Some (tx.name k) → ⊥
  no_own_job k j e f g =
      let r = rising_jobs hy hx ty tx back y x n in
      let q = key_at ty 0 (begun x) r.0 j e (tx.name k) r.1 f (Own_id g) in
      apart.other k q.number q.is

  -- where a call waits, nothing was handled that bears its streams' ids
  pub streams_here : (c : Invoked) (i : List ℕ) → waits (waiting y) ≡ ToBegin c ∷ [] → is_among i c.streams ≡ true → said i (handled y) ≡ []
  streams_here c i w s =
      let l = led hx tx (begun x) (moments x) apart.own (λ k j e f g. no_own_job k j e f g) x m.caller (λ k e f. f, λ k e f. f) in
      let p = m.forth in
      let e : read_by ty y ≡ handled y ++ ToBegin c ∷ [] = processed_is hy ty y m.callee ∙ ap (λ ws. handled y ++ ws) w in
      l (handled y) p.0 c i (sym (append_assoc (handled y) (ToBegin c ∷ []) p.0) ∙ (ap (λ ms. ms ++ p.0) (sym e) ∙ p.1)) s

-- what holds of each in every world
module _ {JX JY : Type 0} (hx : Hub JX) (hy : Hub JY) (tx ty : Settings) (x y : List PeerEvent) where
  pub causal_more : IsApart tx.name ty.name → Meets hx hy tx ty x y → (d : PeerEvent) → Causal tx x → Causal tx (d ∷ x)
  causal_more apart m d c = (c, causal_here hx hy tx ty apart x y m)

  refusal_more : IsApart tx.name ty.name → Meets hx hy tx ty x y → (n : Message) (e : Effect) → waiting y ≡ Some n → ActsOn ty y (purpose_of n) e → Refusals ty y → Refusals ty (Handles n e ∷ y)
  refusal_more apart m n (TooMany c) w a r = (few (purpose_of n) a, refl, r)
    where
      few : (q : Purpose) → ActsOn ty y q (TooMany c) → most_live ≤ live_jobs ty y
      few (ToBegin d) a = a.2
      few (ToAnswer i v) a = absurd a
      few (ToCancel i) a = absurd a
      few ToNothing a = absurd a
  refusal_more apart m n (InUse c) w a r = not_used (purpose_of n) refl a
    where
      not_used : (q : Purpose) → purpose_of n ≡ q → ActsOn ty y q (InUse c) → ⊥
      not_used (ToBegin d) is a = let z : false ≡ true = sym (no_use hx hy tx ty apart x y m n d w is) ∙ a.1 in absurd (cc)
      not_used (ToAnswer i v) is a = absurd a
      not_used (ToCancel i) is a = absurd a
      not_used ToNothing is a = absurd a
  refusal_more apart m n _ w a r = r

  pub refusals_more : IsApart tx.name ty.name → Meets hx hy tx ty x y → (d : PeerEvent) → MayMove hy ty y d → Refusals ty y → Refusals ty (d ∷ y)
  refusals_more apart m (Handles n e) a r = refusal_more apart m n e a.0 a.1 r
  refusals_more apart m _ a r = r
