-- What is uploaded for a call comes to its job.
use Rattle.std.proofs.Common.{◌≡◌, ℕ, zero, suc, ◌<◌, true, false, List, [], ◌∷◌, length, Some, refl, sym, ap, ◌∙◌, subst, arith}
use Rattle.std.specs.Prelude.{◌+◌, ◌||◌, slice_get}
use Rattle.hm_message.specs.Same.{same_text}
use Rattle.hd_facts.specs.Prefixes.{IsPrefix}
use Rattle.hd_calls.specs.Hubs.{Invoked, Hub}
use Rattle.hd_calls.specs.Peers.{PeerEvent, Settings, drawn, call_of, called, uploaded, live_upload, waiting, begun, moments, inputs, of_stream}
use Rattle.hd_calls.specs.Rules.{is_among, names, Follows}
use Rattle.hd_calls.specs.PeerWorlds.{said_by, read_by, waits}
use Rattle.hd_calls.proofs.Lists.{get_within, prefix_trans, true-same}
use Rattle.hd_calls.proofs.Basics.{said, said_prefix}
use Rattle.hd_calls.proofs.Local.{handled, processed_is, OpenReads}
use Rattle.hd_calls.proofs.Names.{Rising, Of_stream, one_place, rises}
use Rattle.hd_calls.proofs.Caller.{heard_legal, legal_prefix}
use Rattle.hd_calls.proofs.Ledgers.{upload_legal}
use Rattle.hd_calls.proofs.Uploads.{get_names, member_at, Uploading, uploading, live_stream, CalledIn, said_uploads, StreamCausal, feeds}
use Rattle.hd_calls.proofs.Meeting.{IsApart, Meets, rising_jobs, no_own_job}

member_get : (xs : List (List ℕ)) (k : ℕ) (i : List ℕ) → slice_get xs k ≡ Some i → is_among i xs ≡ true
member_get [] k i e = absurd (cc)
member_get (x ∷ xs) zero i e = let f : x ≡ i = cc in ap (λ b. b || is_among i xs) (true-same i x (sym f))
member_get (x ∷ xs) (suc k) i e = let f = member_get xs k i e in elim (same_text i x) as (λ b. (b || is_among i xs) ≡ true) [ true ↦ refl | false ↦ f ]

-- two calls whose streams are the same names have one number
first_name : (t : Settings) (own : (m n : ℕ) → t.name m ≡ t.name n → m ≡ n) (k n u : ℕ) → 0 < u → names t (suc k) u ≡ names t (suc n) u → k ≡ n
first_name t own k n zero l e = absurd (omega arith)
first_name t own k n (suc u) l e = let f : t.name (suc k) ≡ t.name (suc n) = cc in let g = own (suc k) (suc n) f in omega arith

module _ {JX JY : Type 0} (hx : Hub JX) (hy : Hub JY) (tx ty : Settings) (apart : IsApart tx.name ty.name) (back : IsApart ty.name tx.name) (x y : List PeerEvent) (m : Meets hx hy tx ty x y) (r : Meets hy hx ty tx y x) (open_y : OpenReads ty y) (causal : StreamCausal y) where
  pub fed_in_order : (n w : ℕ) (i : List ℕ) (c : Invoked) → call_of n x ≡ Some c → slice_get c.streams w ≡ Some i → (j : ℕ) → slice_get (begun y) j ≡ Some c → IsPrefix (of_stream w (inputs j y)) (uploaded n w x)
  fed_in_order n w i c e s j at =
      let within = get_within c.streams w i s in
      let u = uploading hx tx n x c m.caller e (omega arith) in
      let g = get_names tx (suc n) (length c.streams) w i (subst (λ xs. slice_get xs w ≡ Some i) u.streams s) in
      let is : i ≡ tx.name (suc (n + w)) = g.0 ∙ ap tx.name (omega arith) in
      let js = rising_jobs hx hy tx ty apart x y m in
      let one_job = λ (k : ℕ) (b : Invoked) (v : ℕ) (p : slice_get (begun y) k ≡ Some b) (q : slice_get b.streams v ≡ Some i). job_of n w i c u g.0 j at js.0 js.1 (member_get c.streams w i s) k b v p q in
      let f = feeds hy ty (begun y) (moments y) j c at w i s (member_get c.streams w i s) (λ k z. apart.other (suc (n + w)) k (sym (z ∙ is))) one_job y m.callee open_y causal (λ k b p. p, λ k b p. p) in
      let front = f.front (get_within (begun y) j c at) in
      let handled_read : IsPrefix (handled y) (read_by ty y) = (waits (waiting y), sym (processed_is hy ty y m.callee)) in
      let says = said_prefix i (handled y) (said_by tx x) (prefix_trans (handled y) (read_by ty y) (said_by tx x) handled_read m.forth) in
      let uploads = said_uploads hx tx i (begun x) (moments x) (λ k b p q. no_own_job hx hy tx ty apart back x y m r (suc (n + w)) k b p (q ∙ ap Some is)) (called x) n w is
      (λ k v h p l q z. upload_of n w i c e u within k v h p l q (z ∙ is)) x m.caller (λ k b p. p, λ k b p. p) (λ k b p. p) in
      let there : IsPrefix (said i (handled y)) (uploaded n w x) = subst (λ xs. IsPrefix (said i (handled y)) xs) uploads says in
      let legal = legal_prefix true (said i (handled y)) (uploaded n w x) there (upload_legal hx tx n w x m.caller) in
      prefix_trans (of_stream w (inputs j y)) (said i (handled y)) (uploaded n w x) (subst (λ xs. IsPrefix (of_stream w (inputs j y)) xs) (heard_legal true (said i (handled y)) legal) front) there
    where
      job_of : (n w : ℕ) (i : List ℕ) (c : Invoked) → Uploading tx n x c → i ≡ tx.name (suc n + w) → (j : ℕ) → slice_get (begun y) j ≡ Some c → (mid : ℕ) → Rising tx 0 (begun y) mid → is_among i c.streams ≡ true
          → (k : ℕ) (b : Invoked) (v : ℕ) → slice_get (begun y) k ≡ Some b → slice_get b.streams v ≡ Some i → (k ≡ j) × (v ≡ w)
      job_of n w i c u is j at mid ris kc k b v p q =
          let km : is_among i b.streams ≡ true = member_get b.streams v i q in
          let z = one_place tx apart.own 0 (begun y) mid k j b c i ris p at (Of_stream km) (Of_stream kc) in
          let y1 : slice_get (begun y) j ≡ Some b = subst (λ x. slice_get (begun y) x ≡ Some b) z p in
          let y2 : Some b ≡ Some c = sym y1 ∙ at in
          let y3 : b ≡ c = cc in
          let h = get_names tx (suc n) (length c.streams) v i (subst (λ xs. slice_get xs v ≡ Some i) u.streams (ap (λ (o : Invoked). slice_get o.streams v) (sym y3) ∙ q)) in
          let o = apart.own (suc n + v) (suc n + w) (sym h.0 ∙ is) in
          (z, omega arith)

      upload_of : (n w : ℕ) (i : List ℕ) (c : Invoked) → call_of n x ≡ Some c → Uploading tx n x c → w < length c.streams → (k v : ℕ) (h : List PeerEvent) → Follows hx tx h → live_upload k v h ≡ true → CalledIn (called x) h → tx.name (suc (k + v)) ≡ tx.name (suc (n + w)) → (k ≡ n) × (v ≡ w)
      upload_of n w i c e u within k v h p l q z =
          let d = live_stream k v h l in
          let b = uploading hx tx k h d.0 p d.1 (let x = d.2 in omega arith) in
          let a : slice_get (called x) b.place ≡ Some d.0 = q b.place d.0 b.at in
          let num = apart.own (suc (k + v)) (suc (n + w)) z in
          let e1 : suc k + v ≡ suc n + w = omega arith in
          let kd : is_among (tx.name (suc n + w)) d.0.streams ≡ true = subst (λ xs. is_among (tx.name (suc n + w)) xs ≡ true) (sym b.streams) (subst (λ x. is_among (tx.name x) (names tx (suc k) (length d.0.streams)) ≡ true) e1 (member_at tx (suc k) (length d.0.streams) v d.2)) in
          let kc : is_among (tx.name (suc n + w)) c.streams ≡ true = subst (λ xs. is_among (tx.name (suc n + w)) xs ≡ true) (sym u.streams) (member_at tx (suc n) (length c.streams) w within) in
          let place = one_place tx apart.own 0 (called x) (drawn x) b.place u.place d.0 c (tx.name (suc n + w)) (rises hx tx x m.caller) a u.at (Of_stream kd) (Of_stream kc) in
          let s1 : slice_get (called x) u.place ≡ Some d.0 = subst (λ x1. slice_get (called x) x1 ≡ Some d.0) place a in
          let s2 : Some d.0 ≡ Some c = sym s1 ∙ u.at in
          let s3 : d.0 ≡ c = cc in
          let s4 : names tx (suc k) (length c.streams) ≡ names tx (suc n) (length c.streams) = subst (λ (o : Invoked). names tx (suc k) (length o.streams) ≡ names tx (suc n) (length c.streams)) s3 (sym b.streams ∙ (ap (λ (o : Invoked). o.streams) s3 ∙ u.streams)) in
          let kn = first_name tx apart.own k n (length c.streams) (omega arith) s4 in
          (kn, omega arith)
