-- Calls once, end to end.
use Rattle.std.proofs.Common.{◌≡◌, ℕ, ◌<◌, ◌≤◌, Bool, true, false, List, [], ◌∷◌, ◌++◌, length, Option, Some, None, refl, sym, ap, ◌∙◌, subst, arith}
use Rattle.std.specs.Prelude.{nat_lt, slice_get, ◌&&◌, not, Contains}
use Rattle.std.proofs.lemmas.Bool.{ltb-false}
use Rattle.hm_message.specs.declared.message.Message.{Message}
use Rattle.hd_facts.specs.Prefixes.{IsPrefix}
use Rattle.hd_delivery.specs.declared.vocabulary.Side.TheVariants.{Client, Server}
use Rattle.hd_delivery.specs.declared.vocabulary.State.TheVariants.{Ready}
use Rattle.hd_delivery.specs.Histories.{is_shaken, present_link, state_of}
use Rattle.hd_delivery.specs.Worlds.{Event, client_of, server_of, config, Still}
use Rattle.hd_delivery.specs.Bytes.{IsFaithful, StillOverBytes, HoldsOverBytes, client_in_frames, in_frames}
use Rattle.hd_delivery.specs.HistoryLaws.{FactsHold, WorldsAreHistories}
use Rattle.hd_calls.specs.Hubs.{Invoked, Purpose, ToBegin, ToAnswer, ToCancel, ToNothing, Hub, id_of, is_stream, purpose_of}
use Rattle.hd_calls.specs.Peers.{PeerEvent, Loses, Settings, drawn, called, call_of, given, lost, waiting, begun, moments, acts, over, live_job, answers, byte_steps, steps, codec, is_shut}
use Rattle.hd_calls.specs.Rules.{Follows}
use Rattle.hd_calls.specs.PeerWorlds.{Pair, settings, next_step, ends, IsPeerWorld, purposes, said_by, read_by, invoked, waits, refused, Refusals, endings, IsJobOf, EachBegins, IsAnswered, CallsOnce, AllEnded, HasLastWords, BothOnce, all_sent}
use Rattle.hd_calls.proofs.Lists.{append_none, get_front, get_within, not_true, none_of, prefix_trans, prefix_none}
use Rattle.hd_calls.proofs.Basics.{said}
use Rattle.hd_calls.proofs.Local.{handled, processed_is, called_is, refusing, add_closed}
use Rattle.hd_calls.proofs.Names.{rises, Own_id, one_place, IsCalled, is_called}
use Rattle.hd_calls.proofs.Callee.{told, told_is, told_nothing, told_answers, answers_legal, answers_end, over_is}
use Rattle.hd_calls.proofs.Caller.{heard, Causal, hears, heard_legal, legal_prefix, heard_is_legal}
use Rattle.hd_calls.proofs.Ledgers.{keeps_job, keeps_ledgers, ends_after}
use Rattle.hd_calls.proofs.Uploads.{StreamCausal}
use Rattle.hd_calls.proofs.Feeding.{fed_in_order}
use Rattle.hd_calls.proofs.Meeting.{IsApart, Meets, jobs_are, jobs_in_order, handled_told}
use Rattle.hd_calls.proofs.Steady.{client_is, server_is, delivered, in_peers, client_meets, server_meets, steady}

get_prefix : {A : Type 0} (xs ys : List A) (k : ℕ) (x : A) → IsPrefix xs ys → slice_get xs k ≡ Some x → slice_get ys k ≡ Some x
get_prefix xs ys k x p e = subst (λ zs. slice_get zs k ≡ Some x) p.1 (get_front xs p.0 k x e)

one_call : (q : Purpose) → length (invoked (q ∷ [])) ≤ 1
one_call (ToBegin c) = omega arith
one_call (ToAnswer i a) = omega arith
one_call (ToCancel i) = omega arith
one_call ToNothing = omega arith

one_waits : (o : Option Message) → length (invoked (waits o)) ≤ 1
one_waits None = omega arith
one_waits (Some m) = one_call (purpose_of m)

few_of : (cs : List Invoked) (o : Option Message) → length cs ≤ 1 → (0 < length cs → o ≡ None) → length (cs ++ invoked (waits o)) ≤ 1
few_of [] o l f = one_waits o
few_of (c ∷ []) o l f = let e = f (omega arith) in subst (λ o. length (c ∷ invoked (waits o)) ≤ 1) (sym e) (omega arith)
few_of (c ∷ d ∷ cs) o l f = absurd (omega arith)

lost_closed : {Job : Type 0} (hub : Hub Job) (t : Settings) (n : ℕ) (h : List PeerEvent) → Follows hub t h → lost n h ≡ true → is_shut t h ≡ true
lost_closed hub t n [] p e = absurd (let z : false ≡ true = e in cc)
lost_closed hub t n (Loses k ∷ h) p e = p.1.0
lost_closed hub t n (d ∷ h) p e = add_closed t (next_step t h d) (byte_steps t h) (lost_closed hub t n h p.0 e)

-- where a Still end stands it isn't closed
ready_open : (a b : Bool) (o : Option ℕ) → state_of a b o ≡ Ready → a ≡ false
ready_open true b o e = absurd (cc)
ready_open false b o e = refl

module _ {JX JY : Type 0} (hx : Hub JX) (hy : Hub JY) (tx ty : Settings) (apart : IsApart tx.name ty.name) (x y : List PeerEvent) (m : Meets hx hy tx ty x y) (causal : Causal tx x) where
  pub each_begins : Refusals ty y → EachBegins ty x y
  each_begins r =
      let q = refusing hy ty y m.callee m.callee_open in
      record {
        jobs = jobs_are hx hy tx ty apart x y m;
        few = few_of (refused y) (waiting y) q.few (λ l. (q.last l).1);
        refusals = r;
        shut = λ l. (q.last l).0;
        in_order = jobs_in_order hx hy tx ty apart x y m;
      }

  -- the call and the job of an id are one
  one_job : (n : ℕ) (c : Invoked) (i : List ℕ) → call_of n x ≡ Some c → id_of c.way ≡ Some i → (j : ℕ) (d : Invoked) → slice_get (begun y) j ≡ Some d → id_of d.way ≡ Some i → (q : IsCalled tx n x c i) → (j ≡ q.place) × (d ≡ c)
  one_job n c i e f j d at id q =
      let k = get_prefix (begun y) (called x) j d (jobs_in_order hx hy tx ty apart x y m) at in
      let z = one_place tx apart.own 0 (called x) (drawn x) j q.place d c i (rises hx tx x m.caller) k q.at (Own_id id) (Own_id f) in
      let s : slice_get (called x) q.place ≡ Some d = subst (λ p. slice_get (called x) p ≡ Some d) z k in
      let w : Some d ≡ Some c = sym s ∙ q.at in
      (z, cc)

  told_of : (n : ℕ) (c : Invoked) (i : List ℕ) → call_of n x ≡ Some c → id_of c.way ≡ Some i → (j : ℕ) (d : Invoked) → IsJobOf i d y j → IsCalled tx n x c i → told ty i y ≡ answers ty (codec ty y) d.way (acts j y)
  told_of n c i e f j d w q =
      told_answers hy ty (codec ty y) (begun y) (moments y) j d w.at i w.id
      (λ k b g h. (one_job n c i e f k b g h q).0 ∙ sym (one_job n c i e f j d w.at w.id q).0)
      y m.callee m.callee_speaks (λ k b g. g, λ k b g. g)

  pub is_answered : (n : ℕ) (c : Invoked) (i : List ℕ) → call_of n x ≡ Some c → id_of c.way ≡ Some i → IsAnswered hy ty x y n c i
  is_answered n c i e f =
      let q = is_called hx tx n x c i m.caller e f in
      let g = hears hx tx apart.own n c (f ∙ ap Some q.id) x m.caller causal e in
      let p : IsPrefix (said (tx.name n) (handled x)) (told ty i y) = subst (λ k. IsPrefix (said (tx.name n) (handled x)) (told ty k y)) (sym q.id) (handled_told hx hy tx ty apart x y m n) in
      record {
        legal = legal_prefix (is_stream c.way) (given n x) (heard (is_stream c.way) (said (tx.name n) (handled x))) g.front (heard_is_legal (is_stream c.way) (said (tx.name n) (handled x)));
        of_job = λ j d w.
            let same = (one_job n c i e f j d w.at w.id q).1 in
            let t = told_of n c i e f j d w q ∙ ap (λ (b : Invoked). answers ty (codec ty y) b.way (acts j y)) same in
            let r : IsPrefix (said (tx.name n) (handled x)) (answers ty (codec ty y) c.way (acts j y)) = subst (λ xs. IsPrefix (said (tx.name n) (handled x)) xs) t p in
            let l = legal_prefix (is_stream c.way) (said (tx.name n) (handled x)) (answers ty (codec ty y) c.way (acts j y)) r (answers_legal ty (codec ty y) c.way (acts j y)) in
            (same, prefix_trans (given n x) (said (tx.name n) (handled x)) (answers ty (codec ty y) c.way (acts j y)) (subst (λ xs. IsPrefix (given n x) xs) (heard_legal (is_stream c.way) (said (tx.name n) (handled x)) l) g.front) r);
        by_hub = λ j at. keeps_job hy ty y m.callee m.callee_speaks j c at;
        without_job = λ none.
            let z = told_nothing hy ty (begun y) (moments y) i (λ k b g h. none k b (record { at = g; id = h })) y m.callee (λ k b h. h, λ k b h. h) in
            let s = prefix_none (said (tx.name n) (handled x)) (subst (λ xs. IsPrefix (said (tx.name n) (handled x)) xs) z p) in
            prefix_none (given n x) (subst (λ xs. IsPrefix (given n x) (heard (is_stream c.way) xs)) s g.front);
      }

  pub calls_once : IsApart ty.name tx.name → Meets hy hx ty tx y x → StreamCausal y → Refusals ty y → CallsOnce hy ty x y
  calls_once back n streams r = record { begins = each_begins r; fed = fed_in_order hx hy tx ty apart back x y m n m.callee_open streams; answered = is_answered }

  -- where nothing is going on
  module _ (r : Refusals ty y) (words : HasLastWords ty y x) (all_read : read_by ty y ≡ said_by tx x) (all_back : read_by tx x ≡ said_by ty y)
      (no_wait_x : waiting x ≡ None) (no_wait_y : waiting y ≡ None) (idle : (j : ℕ) → live_job ty j y ≡ false) (open_x : is_shut tx x ≡ false) (open_y : is_shut ty y ≡ false) where
    all_begun : begun y ≡ called x
    all_begun =
        let q = refusing hy ty y m.callee m.callee_open in
        let none = none_of (refused y) (λ l. absurd (let z : true ≡ false = sym (q.last l).0 ∙ open_y in cc)) in
        sym (append_none (begun y))
        ∙ (ap (λ cs. begun y ++ cs) (sym (ap (λ cs. cs ++ invoked (waits (waiting y))) none ∙ ap (λ o. invoked (waits o)) no_wait_y))
        ∙ (jobs_are hx hy tx ty apart x y m ∙ (ap invoked all_read ∙ called_is hx tx x m.caller)))

    pub all_ended : AllEnded ty x y
    all_ended n c i e f =
        let q = is_called hx tx n x c i m.caller e f in
        let g = hears hx tx apart.own n c (f ∙ ap Some q.id) x m.caller causal e in
        let kept = not_true (lost n x) (λ l. absurd (let z : false ≡ true = sym open_x ∙ lost_closed hx tx n x m.caller l in cc)) in
        let at : slice_get (begun y) q.place ≡ Some c = subst (λ cs. slice_get cs q.place ≡ Some c) (sym all_begun) q.at in
        let t = told_of n c i e f q.place c (record { at = at; id = f }) q in
        let here : handled x ≡ read_by tx x = sym (append_none (handled x)) ∙ (ap (λ o. handled x ++ waits o) (sym no_wait_x) ∙ sym (processed_is hx tx x m.caller)) in
        let s : said (tx.name n) (handled x) ≡ answers ty (codec ty y) c.way (acts q.place y) =
        ap (said (tx.name n)) (here ∙ all_back) ∙ (told_is hy ty (tx.name n) (λ k u. apart.other n k (sym u)) y m.callee ∙ (ap (λ k. told ty k y) (sym q.id) ∙ t)) in
        let w : given n x ≡ answers ty (codec ty y) c.way (acts q.place y) = g.whole kept ∙ (ap (heard (is_stream c.way)) s ∙ heard_legal (is_stream c.way) (answers ty (codec ty y) c.way (acts q.place y)) (answers_legal ty (codec ty y) c.way (acts q.place y))) in
        let done : over ty q.place y ≡ true = is_over q.place c at in
        let stop = sym (over_is hy ty (codec ty y) (begun y) (moments y) q.place c at y m.callee m.callee_speaks (λ k b h. h, λ k b h. h)) ∙ done in
        record {
          once = ap (λ xs. length (endings xs)) w ∙ answers_end ty (codec ty y) c.way i (acts q.place y) f (words n c i e f) stop;
          kept = kept;
          job = q.place;
          at = at;
          whole = w;
        }
      where
        is_over : (j : ℕ) (d : Invoked) → slice_get (begun y) j ≡ Some d → over ty j y ≡ true
        is_over j d at =
            go (nat_lt j (length (begun y))) refl (over ty j y) (idle j)
          where
            go : (b : Bool) → nat_lt j (length (begun y)) ≡ b → (o : Bool) → (nat_lt j (length (begun y)) && not o) ≡ false → o ≡ true
            go true e true f = refl
            go true e false f = absurd (let z : (nat_lt j (length (begun y)) && not false) ≡ true = ap (λ k. k && not false) e in let u : true ≡ false = sym z ∙ f in cc)
            go false e o f = absurd (let z = ltb-false j (length (begun y)) e in let l = get_within (begun y) j d at in omega arith)

module _ {C S : Type 0} (hc : Hub C) (hs : Hub S) (p : Pair) (facts : FactsHold) (histories : WorldsAreHistories) (delivery : HoldsOverBytes) (a : IsApart (p.name Client) (p.name Server)) (b : IsApart (p.name Server) (p.name Client))
    (w : List (Event PeerEvent)) (faithful : IsFaithful (p.limits Client) p.wire p.terms.codec p.terms.version (all_sent p w)) (q : IsPeerWorld hc hs p w) where
  all : (m : Message) → Contains (all_sent p w) m → Contains (all_sent p w) m
  all m e = e

  -- where the two are still over bytes their histories in frames are
  still_in_frames : StillOverBytes p.wire (config Client p.terms) (config Server p.terms) (byte_steps (settings Client p) (client_of w)) (byte_steps (settings Server p) (server_of w))
      → Still (config Client p.terms) (config Server p.terms) (steps (settings Client p) (client_of w)) (steps (settings Server p) (server_of w))
  still_in_frames =
      subst (λ s. StillOverBytes p.wire (config Client p.terms) (config Server p.terms) s (byte_steps (settings Server p) (server_of w)) → Still (config Client p.terms) (config Server p.terms) (in_frames p.wire (config Client p.terms) s) (steps (settings Server p) (server_of w)))
      (client_is p w)
      (subst (λ s. StillOverBytes p.wire (config Client p.terms) (config Server p.terms) (client_of (ends p w)) s → Still (config Client p.terms) (config Server p.terms) (client_in_frames p.wire p.terms (ends p w)) (in_frames p.wire (config Server p.terms) s))
      (server_is p w)
      (delivered hc hs p facts histories delivery (all_sent p w) faithful w q all).still)

  pub both_once : BothOnce hc hs p w
  both_once =
      let tc = settings Client p in
      let ts = settings Server p in
      let x = client_of w in
      let y = server_of w in
      let s = steady hc hs p facts histories delivery (all_sent p w) faithful a b w q all in
      let mc = client_meets hc hs p facts histories delivery (all_sent p w) faithful w q all in
      let ms = server_meets hc hs p facts histories delivery (all_sent p w) faithful w q all in
      let d = in_peers hc hs p facts histories delivery (all_sent p w) faithful w q all in
      record {
        of_client = calls_once hc hs tc ts a x y mc s.client_causal b ms s.server_streams s.server_refusals;
        of_server = calls_once hs hc ts tc b y x ms s.server_causal a mc s.client_streams s.client_refusals;
        client_keeps = keeps_ledgers hc tc x q.client_follows ms.callee_speaks;
        server_keeps = keeps_ledgers hs ts y q.server_follows mc.callee_speaks;
        client_closes = ends_after hc tc x q.client_follows mc.caller_open;
        server_closes = ends_after hs ts y q.server_follows mc.callee_open;
        client_ended = λ f i.
            let still = still_in_frames i.still in
            let u = ap purposes (d.all_to_server still).0 in
            let z = ap purposes (d.all_to_client still).0 in
            let ox = ready_open (is_shut tc x) (is_shaken (steps tc x)) (present_link (steps tc x)) still.client_ready in
            let oy = ready_open (is_shut ts y) (is_shaken (steps ts y)) (present_link (steps ts y)) still.server_ready in
            all_ended hc hs tc ts a x y mc s.client_causal s.server_refusals f u z i.client_waits i.server_waits i.server_jobs ox oy;
        server_ended = λ f i.
            let still = still_in_frames i.still in
            let u = ap purposes (d.all_to_server still).0 in
            let z = ap purposes (d.all_to_client still).0 in
            let ox = ready_open (is_shut tc x) (is_shaken (steps tc x)) (present_link (steps tc x)) still.client_ready in
            let oy = ready_open (is_shut ts y) (is_shaken (steps ts y)) (present_link (steps ts y)) still.server_ready in
            all_ended hs hc ts tc b y x ms s.server_causal s.client_refusals f z u i.server_waits i.client_waits i.client_jobs oy ox;
      }
