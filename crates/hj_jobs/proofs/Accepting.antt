-- What `accept` makes of the happenings that the table stood for.
use Rattle.std.proofs.Common.{◌≡◌, ℕ, suc, ◌+◌, ◌<◌, ◌≤◌, Bool, true, false, List, length, None, refl, sym, ap, ◌∙◌, subst, arith}
use Rattle.std.specs.Prelude.{◌||◌, if◌then◌else◌}
use Rattle.std.specs.Vec.{vec_capacity}
use Rattle.hd_calls.specs.declared.vocabulary.Call as as_given
use Rattle.hd_calls.specs.Numbers.{most_live}
use Rattle.hd_calls.specs.Hubs.{Hub, id_of, Invoked}
use Rattle.hd_calls.specs.Tables.{begun_in, JobHappening, live_jobs_in}
use Rattle.hj_jobs.specs.declared.errors.AcceptError.{AcceptError}
use Rattle.hj_jobs.specs.declared.errors.AcceptError.TheVariants as accept
use Rattle.hj_jobs.specs.declared.jobs.Jobs.{Jobs}
use Rattle.hj_jobs.specs.declared.ids.Ids.{Ids}
use Rattle.hj_jobs.specs.Calls.{Accepts, IsCallOf, IsRefusedIn}
use Rattle.hj_jobs.specs.Counted.{Adds}
use Rattle.hj_jobs.specs.Live.{entry_at, Gains, live_count, Retains}
use Rattle.hj_jobs.specs.Ids.{AreFree, Claims, IsUnclaimed, Releases}
use Rattle.hj_jobs.specs.Parts.{DueIs, Enters, HasRoomForOne, IsFullOr, IsRoomier}
use Rattle.hj_jobs.specs.Stands.{past, Stands}
use Rattle.hj_jobs.proofs.Beginning.{begins_remembered, clash_taken, clash_used, free_unused, released, stands_begun}
use Rattle.hj_jobs.proofs.Table.{dead_past, no_entry}
use Rattle.hj_jobs.proofs.Told.{retained_stands}

pub or_if : (a b : Bool) → (a || b) ≡ (if a then true else b)
or_if true b = refl
or_if false b = refl

module _ {H Job : Type 0} (hub : Hub Job) (who : List ℕ) (old : Jobs H Job) (h : List JobHappening) (s : Stands {H = H} hub old who h) (call : as_given.Call) (streams : List (List ℕ)) (are : streams ≡ call.streams) where
  -- the ids of the call as the hub is given it are its ids
  free_of : (c : Invoked) → IsCallOf who call c → AreFree old.names call.id streams → AreFree old.names (id_of c.way) c.streams
  free_of c is free =
      subst (λ i. AreFree old.names i c.streams) (ap (λ (x : as_given.Call). x.id) is)
      (subst (λ ks. AreFree old.names call.id ks) (are ∙ ap (λ (x : as_given.Call). x.streams) is) free)

  pub accept_unclaimed : (e : AcceptError) → IsUnclaimed old.names call.id streams e → (c : Invoked) → IsCallOf who call c → IsRefusedIn h c e
  accept_unclaimed (accept.InUse i) clash c is =
      let same = subst (λ k. IsUnclaimed old.names k c.streams (accept.InUse i)) (ap (λ (x : as_given.Call). x.id) is)
      (subst (λ ks. IsUnclaimed old.names call.id ks (accept.InUse i)) (are ∙ ap (λ (x : as_given.Call). x.streams) is) clash) in
      (clash_used h old.names s.ids s.streams c i same, clash_taken h old.names s.ids s.streams c i same)
  accept_unclaimed accept.TooMany clash c is = absurd clash
  accept_unclaimed accept.NoMemory clash c is = tt

  pub accept_full : (e : AcceptError) → AreFree old.names call.id streams → IsFullOr (live_count old.live) e → (c : Invoked) → IsCallOf who call c → IsRefusedIn h c e
  accept_full (accept.InUse i) free full c is = absurd full
  accept_full accept.TooMany free full c is = (free_unused h old.names s.ids s.streams c (free_of c is free), subst (λ n. most_live ≤ n) s.count full)
  accept_full accept.NoMemory free full c is = tt

  pub accept_released : (claimed : Ids) (mid new : Jobs H Job) (n : ℕ) → AreFree old.names call.id streams → Claims old.names claimed n call.id streams
      → IsRoomier {H = H} (record { live = old.live; names = claimed; due = old.due; accepted = old.accepted; passed = old.passed; prepared = old.prepared }) mid → Releases claimed new.names n call.id streams
      → new.live ≡ mid.live → new.due ≡ mid.due → new.accepted ≡ mid.accepted → new.passed ≡ mid.passed → new.prepared ≡ mid.prepared → Stands {H = H} hub new who h
  accept_released claimed mid new n free claims roomier releases live due accepted passed half =
      let retains = roomier.live in
      let capacity : vec_capacity mid.due.numbers ≡ vec_capacity new.due.numbers = ap (λ d. vec_capacity d.numbers) (sym due) in
      let more = roomier.capacity in
      retained_stands {H = H} hub who old h s new (subst (λ l. Retains old.live l) (sym live) retains)
      (released old.names claimed new.names n call.id streams free claims releases)
      (ap (λ d. d.numbers.items) due ∙ roomier.due) (omega (arith, capacity, more)) (accepted ∙ roomier.accepted) (passed ∙ roomier.passed) (half ∙ roomier.prepared)

  pub accept_known : (claimed : Ids) (mid new : Jobs H Job) (n now : ℕ) (job : Job) → n ≡ old.accepted + 1 → AreFree old.names call.id streams → Claims old.names claimed n call.id streams
      → IsRoomier {H = H} (record { live = old.live; names = claimed; due = old.due; accepted = old.accepted; passed = old.passed; prepared = old.prepared }) mid → HasRoomForOne {H = H} mid
      → live_count old.live < most_live → job ≡ hub.begin_of call now → Enters {H = H} mid new n call job → (c : Invoked) → IsCallOf who call c → Accepts {H = H} hub new who h c now n
  accept_known claimed mid new n now job number free claims roomier room few made enters c is =
      let counted = s.accepted in
      let next : n ≡ suc (length (begun_in h)) = omega (arith, number, counted) in
      let retains = roomier.live in
      let absent : entry_at mid.live n ≡ None = retains.at n ∙ (ap (λ m. entry_at old.live m) next ∙ no_entry old.prepared hub who (entry_at old.live (suc (length (begun_in h)))) (past (length (begun_in h)) h) (s.entries (length (begun_in h))) (dead_past (length (begun_in h)) h (omega arith))) in
      let gains = enters.live absent in
      let gained = subst (λ m. Gains mid.live new.live m enters.entry) next gains in
      let claims_of = subst (λ m. Claims old.names new.names m (id_of c.way) c.streams) next
      (subst (λ i. Claims old.names new.names n i c.streams) (ap (λ (x : as_given.Call). x.id) is)
      (subst (λ ks. Claims old.names new.names n call.id ks) (are ∙ ap (λ (x : as_given.Call). x.streams) is)
      (subst (λ ns. Claims old.names ns n call.id streams) (sym (enters.names ∙ roomier.names)) claims))) in
      let all = s.count in
      let same = retains.count in
      let few_jobs : live_jobs_in h < most_live = subst (λ m. m < most_live) all few in
      let space = room.1 in
      record {
        unused = free_unused h old.names s.ids s.streams c (free_of c is free);
        few = few_jobs;
        next = next;
        stands = stands_begun {H = H} hub who old h s new c now enters.entry mid.due
            (begins_remembered new.prepared hub who c now call enters.entry job is made enters.begins)
            gained.here (λ m ne. gained.others m ne ∙ retains.at m) (gained.count ∙ ap (λ m. m + 1) same) (subst (λ m. Adds m new.live.weight enters.entry.weight) retains.weight gained.weight) few (free_of c is free) claims_of
            roomier.due (subst (λ m. m < vec_capacity mid.due.numbers) same space) (subst (λ m. DueIs mid.due new.due m true) next enters.due)
            (enters.accepted ∙ next) (enters.passed ∙ roomier.passed) (enters.prepared ∙ roomier.prepared);
      }
