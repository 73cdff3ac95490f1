-- What a moment has ended, one connection after the other: what is done about one changes nothing for the others.
use Rattle.std.proofs.Common.{◌≡◌, ◌≤◌, ℕ, ◌+◌, Bool, true, false, List, [], ◌∷◌, length, None}
use Rattle.std.proofs.Common.{refl, sym, ap, subst, ◌∙◌, arith}
use Rattle.std.specs.List.{flat_map}
use Rattle.hd_calls.specs.Hubs.{Hub}
use Rattle.hd_server.specs.declared.vocabulary.Said.{Said}
use Rattle.hd_server.specs.Laws.{MomentsComeOnce, PartsOfTurns}
use Rattle.hd_server.specs.Numbers.{most_connections}
use Rattle.hd_server.specs.Lives.{deadline, is_past, made, overdue, standing}
use Rattle.hd_server.specs.Doings.{ServerEvent, moment, notes}
use Rattle.hd_server.specs.Plans.{Setup, expiring, onto}
use Rattle.hub_server.specs.declared.server.Server.{Server}
use Rattle.hub_server.specs.Events.{Expires, ExpiresFirst}
use Rattle.hub_server.specs.Lanes.{Unsettled}
use Rattle.hub_machine.specs.Rounds.{AreRising}
use Rattle.hub_server.specs.Servers.{OfEach, Standing}
use Rattle.hub_machine.specs.Spreads.{is_listed}
use Rattle.hub_server.specs.Steps.{NoneOverdue, expired_by}
use Rattle.hub_server.proofs.Alike.{Alike, alike_refl, alike_trans}
use Rattle.hub_server.proofs.Conns.{first_is_listed, later_listed, not_first, rising_rest, rising_to}
use Rattle.hub_server.proofs.OntoAlike.{onto_append}
use Rattle.hub_server.proofs.ExpireNotes.{expiring_same, few_overdue, life_other, notes_expiring}
use Rattle.hub_server.proofs.TickApart.{Apart, apart_expiring}
use Rattle.hub_server.proofs.StepMute.{expiries_quiet}

-- ---- by the definitions alone

-- what is done about a connection, as all was at first
abbrev done : List ServerEvent → ℕ → List ServerEvent
done h c = expiring (moment h) (standing c (notes h)) c h

none_left : MomentsComeOnce → (h : List ServerEvent) (cs : List ℕ) (g : List ServerEvent) → overdue (moment h) (notes g) ≡ cs
    → overdue (moment h) (notes (onto (flat_map (done h) cs) g)) ≡ []
none_left once h [] g e = e
none_left once h (c ∷ cs) g e =
    ap (λ x. overdue (moment h) (notes x)) (onto_append (done h c) (flat_map (done h) cs) g)
    ∙ none_left once h cs (onto (done h c) g)
    (ap (overdue (moment h)) (notes_expiring (moment h) (standing c (notes h)) c h g) ∙ once c cs (moment h) (notes g) e)

-- none is overdue any more
pub none_overdue : MomentsComeOnce → PartsOfTurns → (h : List ServerEvent) → NoneOverdue (expired_by h)
none_overdue once parts h =
    ap (λ m. overdue m (notes (expired_by h))) (expiries_quiet parts (moment h) h h).at
    ∙ none_left once h (overdue (moment h) (notes h)) h refl

-- ---- the loop

-- these are left
pub record ExpiresSo {H Job : Type 0} (hub : Hub Job) (s : Setup) (u : Unsettled) (before : List Said) (new : Server H Job) (i : ℕ) (left : List ℕ)
    (h : List ServerEvent) : Type 0 where
  pub so_far : List ServerEvent
  pub stands : Standing hub s u before new so_far
  pub same_moment : moment so_far ≡ moment h
  pub are_left : overdue (moment h) (notes so_far) ≡ left
  pub alike : (k : ℕ) → is_listed k left ≡ true → Alike k so_far h
  pub lives : (k : ℕ) → is_listed k left ≡ true → standing k (notes so_far) ≡ standing k (notes h)
  pub rise : AreRising left
  pub whole : onto (flat_map (λ c. expiring (moment h) (standing c (notes h)) c h) left) so_far ≡ expired_by h
  pub count : i + length left ≡ length (overdue (moment h) (notes h))

module _ {H Job : Type 0} (hub : Hub Job) (old : Server H Job) where
  abbrev pub ExpireSoFar : Server H Job → ℕ → Type 0
  ExpireSoFar new i = OfEach {H = H} hub old (λ s u before h. u.conn ≡ None → (left : List ℕ) × ExpiresSo {H = H} hub s u before new i left h)

  pub expires_begin : ExpireSoFar old 0
  expires_begin = λ s u before h st free. (
    overdue (moment h) (notes h),
    record {
      so_far = h;
      stands = st;
      same_moment = refl;
      are_left = refl;
      alike = λ k e. alike_refl k h;
      lives = λ k e. refl;
      rise = rising_to (λ c. is_past (moment h) (deadline c (notes h))) (made (notes h));
      whole = refl;
      count = omega arith;
    },
  )

  -- one more comes to its moment
  one : MomentsComeOnce → PartsOfTurns → (mid new : Server H Job) (i : ℕ) (s : Setup) (u : Unsettled) (before : List Said) (h : List ServerEvent) (c : ℕ) (rest : List ℕ)
      (x : ExpiresSo {H = H} hub s u before mid i (c ∷ rest) h)
      → Standing {H = H} hub s u before new (onto (expiring (moment x.so_far) (standing c (notes x.so_far)) c x.so_far) x.so_far)
      → ExpiresSo {H = H} hub s u before new (i + 1) rest h
  one once parts mid new i s u before h c rest x st = record {
    so_far = onto (done h c) x.so_far;
    stands =
        subst (λ xs. Standing {H = H} hub s u before new (onto xs x.so_far))
        (ap (λ m. expiring m (standing c (notes x.so_far)) c x.so_far) x.same_moment
        ∙ ap (λ life. expiring (moment h) life c x.so_far) (x.lives c (first_is_listed c rest))
        ∙ expiring_same (moment h) (standing c (notes h)) c x.so_far h (x.alike c (first_is_listed c rest))) st;
    same_moment = goes.same_moment ∙ x.same_moment;
    are_left = ap (overdue (moment h)) (notes_expiring (moment h) (standing c (notes h)) c h x.so_far)
        ∙ once c rest (moment h) (notes x.so_far) x.are_left;
    alike = λ k e. alike_trans k (onto (done h c) x.so_far) x.so_far h (goes.others k (not_first c k rest x.rise e))
        (x.alike k (later_listed k c rest e));
    lives = λ k e. life_other (moment h) c k (standing c (notes h)) h x.so_far (not_first c k rest x.rise e) ∙ x.lives k (later_listed k c rest e);
    rise = rising_rest c rest x.rise;
    whole = sym (onto_append (done h c) (flat_map (done h) rest) x.so_far) ∙ x.whole;
    count = let all = x.count in omega (arith, all);
  }
    where
      goes : Apart c (onto (done h c) x.so_far) x.so_far
      goes = apart_expiring parts (moment h) (standing c (notes h)) c h x.so_far

  pub expires_on : MomentsComeOnce → PartsOfTurns → (mid new : Server H Job) (i : ℕ) (more : Bool) → more ≡ true
      → OfEach {H = H} hub mid (λ s u before h. u.conn ≡ None → Expires {H = H} hub s u before new h more)
      → ExpireSoFar mid i → ExpireSoFar new (i + 1)
  expires_on once parts mid new i more is next so = λ s u before h st free. on s u before h free (so s u before h st free)
    where
      on : (s : Setup) (u : Unsettled) (before : List Said) (h : List ServerEvent) → u.conn ≡ None
          → (left : List ℕ) × ExpiresSo {H = H} hub s u before mid i left h
          → (left : List ℕ) × ExpiresSo {H = H} hub s u before new (i + 1) left h
      on s u before h free (left, x) =
          let first : ExpiresFirst {H = H} hub s u before new x.so_far =
          subst (λ b. Expires {H = H} hub s u before new x.so_far b) is (next s u before x.so_far x.stands free) in
          let same : left ≡ first.conn ∷ first.rest = sym x.are_left ∙ ap (λ m. overdue m (notes x.so_far)) (sym x.same_moment) ∙ first.first in
          (first.rest, step_on s u before h left x first same)
        where
          step_on : (s : Setup) (u : Unsettled) (before : List Said) (h : List ServerEvent) (left : List ℕ)
              (x : ExpiresSo {H = H} hub s u before mid i left h)
              (first : ExpiresFirst {H = H} hub s u before new x.so_far) → left ≡ first.conn ∷ first.rest
              → ExpiresSo {H = H} hub s u before new (i + 1) first.rest h
          step_on s u before h left x first same =
              one once parts mid new i s u before h first.conn first.rest (record {
                so_far = x.so_far;
                stands = x.stands;
                same_moment = x.same_moment;
                are_left = x.are_left ∙ same;
                alike = λ k e. x.alike k (ap (is_listed k) same ∙ e);
                lives = λ k e. x.lives k (ap (is_listed k) same ∙ e);
                rise = subst AreRising same x.rise;
                whole = ap (λ cs. onto (flat_map (done h) cs) x.so_far) (sym same) ∙ x.whole;
                count = ap (λ (cs : List ℕ). i + length cs) (sym same) ∙ x.count;
              }) first.stands

  -- none is left
  pub expires_over : (mid new : Server H Job) (i : ℕ) (more : Bool) → more ≡ false
      → OfEach {H = H} hub mid (λ s u before h. u.conn ≡ None → Expires {H = H} hub s u before new h more)
      → ExpireSoFar mid i → OfEach {H = H} hub old (λ s u before h. u.conn ≡ None → Standing {H = H} hub s u before new (expired_by h))
  expires_over mid new i more is next so = λ s u before h st free. over s u before h free (so s u before h st free)
    where
      over : (s : Setup) (u : Unsettled) (before : List Said) (h : List ServerEvent) → u.conn ≡ None
          → (left : List ℕ) × ExpiresSo {H = H} hub s u before mid i left h
          → Standing {H = H} hub s u before new (expired_by h)
      over s u before h free (left, x) =
          let last : (overdue (moment x.so_far) (notes x.so_far) ≡ []) × Standing {H = H} hub s u before new x.so_far =
          subst (λ b. Expires {H = H} hub s u before new x.so_far b) is (next s u before x.so_far x.stands free) in
          let none : left ≡ [] = sym x.are_left ∙ ap (λ m. overdue m (notes x.so_far)) (sym x.same_moment) ∙ last.0 in
          subst (λ g. Standing {H = H} hub s u before new g) (ap (λ cs. onto (flat_map (done h) cs) x.so_far) (sym none) ∙ x.whole) last.1

  -- fewer connections were made than there are turns of the loop
  pub expires_all : (new : Server H Job) (i : ℕ) → 18446744073709551615 ≤ i → ExpireSoFar new i
      → OfEach {H = H} hub old (λ s u before h. u.conn ≡ None → Standing {H = H} hub s u before new (expired_by h))
  expires_all new i far so = λ s u before h st free. never s u before h st (so s u before h st free)
    where
      never : (s : Setup) (u : Unsettled) (before : List Said) (h : List ServerEvent) → Standing {H = H} hub s u before old h
          → (left : List ℕ) × ExpiresSo {H = H} hub s u before new i left h → Standing {H = H} hub s u before new (expired_by h)
      never s u before h st (left, x) =
          let made_few : made (notes h) ≤ most_connections = (let f = st.front.stands in f.few) in
          let few = few_overdue (moment h) (notes h) in
          let all = x.count in
          absurd (omega (arith, made_few, few, all, far))
