-- A lane's share of what the wires answer: the answers about its wire.
use Rattle.std.proofs.Common.{◌≡◌, ◌==◌, ◌||◌, ◌++◌, ◌∷◌, [], ℕ, Bool, true, false, List, None, Some, refl, sym, ap, ◌∙◌, arith, append_assoc, if◌then◌else◌}
use Rattle.hw_door.specs.Traffic.{Answer, polled, poll_failed, accepted, accept_failed, connected, connect_failed, bytes_in, not_yet, ended, read_failed, bytes_out, write_failed, was_shut, none_ready, read_on, written_on}
use Rattle.hw_net.specs.Sessions.{is_about, was_shut_in, ended_in, failed_in, came_in}

abbrev pub share : ℕ → List Answer → List Answer
share wire [] = []
share wire (answer ∷ answers) = if is_about wire answer then answer ∷ share wire answers else share wire answers

-- each answer is about the wire
abbrev pub AreOwn : ℕ → List Answer → Type 0
AreOwn wire [] = Unit {0}
AreOwn wire (answer ∷ answers) = (is_about wire answer ≡ true) × AreOwn wire answers

pub same : (n : ℕ) → (n == n) ≡ true
same n = grind arith

pub other : (at v w : ℕ) → (at == v) ≡ true → (v == w) ≡ false → (at == w) ≡ false
other at v w h k = grind (arith, h, k)

pub turned : (v w : ℕ) → (v == w) ≡ false → (w == v) ≡ false
turned v w h = grind (arith, h)

pub equal : (v w : ℕ) → (v == w) ≡ true → v ≡ w
equal v w h = grind (arith, h)

no : false ≡ true → ⊥
no e = absurd (cc e)

about-other : (v w : ℕ) (a : Answer) → is_about v a ≡ true → (v == w) ≡ false → is_about w a ≡ false
about-other v w (polled wait now) h k = absurd (no h)
about-other v w (poll_failed wait) h k = absurd (no h)
about-other v w (accepted wire) h k = absurd (no h)
about-other v w accept_failed h k = absurd (no h)
about-other v w (connected wire) h k = absurd (no h)
about-other v w connect_failed h k = absurd (no h)
about-other v w (bytes_in at bytes) h k = other at v w h k
about-other v w (not_yet at) h k = other at v w h k
about-other v w (ended at) h k = other at v w h k
about-other v w (read_failed at) h k = other at v w h k
about-other v w (bytes_out at bytes) h k = other at v w h k
about-other v w (write_failed at) h k = other at v w h k
about-other v w (was_shut at) h k = other at v w h k
about-other v w none_ready h k = absurd (no h)

-- ---- lists of answers

pub share-append : (w : ℕ) (xs ys : List Answer) → share w (xs ++ ys) ≡ share w xs ++ share w ys
share-append w [] ys = refl
share-append w (a ∷ xs) ys = go (is_about w a) (share-append w xs ys) where
  go : (b : Bool) → share w (xs ++ ys) ≡ share w xs ++ share w ys →
      (if b then a ∷ share w (xs ++ ys) else share w (xs ++ ys)) ≡ (if b then a ∷ share w xs else share w xs) ++ share w ys
  go true k = ap (λ l. a ∷ l) k
  go false k = k

pub own-share : (w : ℕ) (xs : List Answer) → AreOwn w xs → share w xs ≡ xs
own-share w [] h = refl
own-share w (a ∷ xs) h = go (is_about w a) h.0 (own-share w xs h.1) where
  go : (b : Bool) → b ≡ true → share w xs ≡ xs → (if b then a ∷ share w xs else share w xs) ≡ a ∷ xs
  go true e k = ap (λ l. a ∷ l) k
  go false e k = absurd (no e)

pub off-share : (v w : ℕ) (xs : List Answer) → (v == w) ≡ false → AreOwn v xs → share w xs ≡ []
off-share v w [] e h = refl
off-share v w (a ∷ xs) e h = go (is_about w a) (about-other v w a h.0 e) (off-share v w xs e h.1) where
  go : (b : Bool) → b ≡ false → share w xs ≡ [] → (if b then a ∷ share w xs else share w xs) ≡ []
  go true e k = absurd (no (sym e))
  go false e k = k

pub own-append : (w : ℕ) (xs ys : List Answer) → AreOwn w xs → AreOwn w ys → AreOwn w (xs ++ ys)
own-append w [] ys h k = k
own-append w (a ∷ xs) ys h k = (h.0, own-append w xs ys h.1 k)

-- what passes over the answers about other wires, and goes answer by answer, is that of the share
same-share : {A : Type 0} (f : List Answer → A) (w : ℕ) → ((a : Answer) (xs : List Answer) → is_about w a ≡ false → f (a ∷ xs) ≡ f xs)
    → ((a : Answer) (xs ys : List Answer) → f xs ≡ f ys → f (a ∷ xs) ≡ f (a ∷ ys)) → (xs : List Answer) → f xs ≡ f (share w xs)
same-share f w skip both [] = refl
same-share f w skip both (a ∷ xs) = go (is_about w a) refl (same-share f w skip both xs) where
  go : (b : Bool) → is_about w a ≡ b → f xs ≡ f (share w xs) → f (a ∷ xs) ≡ f (if b then a ∷ share w xs else share w xs)
  go true e k = both a xs (share w xs) k
  go false e k = skip a xs e ∙ k

join : (b : Bool) (bytes l m n : List ℕ) → l ≡ m ++ n → (if b then bytes ++ l else l) ≡ (if b then bytes ++ m else m) ++ n
join true bytes l m n e = ap (λ k. bytes ++ k) e ∙ sym (append_assoc bytes m n)
join false bytes l m n e = e

either : (b l m n : Bool) → l ≡ (m || n) → (b || l) ≡ ((b || m) || n)
either true l m n e = refl
either false l m n e = e

-- ---- read

read-skip : (w : ℕ) (a : Answer) (xs : List Answer) → is_about w a ≡ false → read_on w (a ∷ xs) ≡ read_on w xs
read-skip w (polled wait now) xs e = refl
read-skip w (poll_failed wait) xs e = refl
read-skip w (accepted wire) xs e = refl
read-skip w accept_failed xs e = refl
read-skip w (connected wire) xs e = refl
read-skip w connect_failed xs e = refl
read-skip w (bytes_in at bytes) xs e = rw e refl
read-skip w (not_yet at) xs e = refl
read-skip w (ended at) xs e = refl
read-skip w (read_failed at) xs e = refl
read-skip w (bytes_out at bytes) xs e = refl
read-skip w (write_failed at) xs e = refl
read-skip w (was_shut at) xs e = refl
read-skip w none_ready xs e = refl

read-both : (w : ℕ) (a : Answer) (xs ys : List Answer) → read_on w xs ≡ read_on w ys → read_on w (a ∷ xs) ≡ read_on w (a ∷ ys)
read-both w (polled wait now) xs ys e = e
read-both w (poll_failed wait) xs ys e = e
read-both w (accepted wire) xs ys e = e
read-both w accept_failed xs ys e = e
read-both w (connected wire) xs ys e = e
read-both w connect_failed xs ys e = e
read-both w (bytes_in at bytes) xs ys e = ap (λ l. if at == w then bytes ++ l else l) e
read-both w (not_yet at) xs ys e = e
read-both w (ended at) xs ys e = e
read-both w (read_failed at) xs ys e = e
read-both w (bytes_out at bytes) xs ys e = e
read-both w (write_failed at) xs ys e = e
read-both w (was_shut at) xs ys e = e
read-both w none_ready xs ys e = e

pub read-share : (w : ℕ) (xs : List Answer) → read_on w xs ≡ read_on w (share w xs)
read-share w xs = same-share (read_on w) w (read-skip w) (read-both w) xs

pub read-append : (w : ℕ) (xs ys : List Answer) → read_on w (xs ++ ys) ≡ (read_on w xs ++ read_on w ys)
read-append w [] ys = refl
read-append w (polled wait now ∷ xs) ys = read-append w xs ys
read-append w (poll_failed wait ∷ xs) ys = read-append w xs ys
read-append w (accepted wire ∷ xs) ys = read-append w xs ys
read-append w (accept_failed ∷ xs) ys = read-append w xs ys
read-append w (connected wire ∷ xs) ys = read-append w xs ys
read-append w (connect_failed ∷ xs) ys = read-append w xs ys
read-append w (bytes_in at bytes ∷ xs) ys = join (at == w) bytes (read_on w (xs ++ ys)) (read_on w xs) (read_on w ys) (read-append w xs ys)
read-append w (not_yet at ∷ xs) ys = read-append w xs ys
read-append w (ended at ∷ xs) ys = read-append w xs ys
read-append w (read_failed at ∷ xs) ys = read-append w xs ys
read-append w (bytes_out at bytes ∷ xs) ys = read-append w xs ys
read-append w (write_failed at ∷ xs) ys = read-append w xs ys
read-append w (was_shut at ∷ xs) ys = read-append w xs ys
read-append w (none_ready ∷ xs) ys = read-append w xs ys

-- ---- written

written-skip : (w : ℕ) (a : Answer) (xs : List Answer) → is_about w a ≡ false → written_on w (a ∷ xs) ≡ written_on w xs
written-skip w (polled wait now) xs e = refl
written-skip w (poll_failed wait) xs e = refl
written-skip w (accepted wire) xs e = refl
written-skip w accept_failed xs e = refl
written-skip w (connected wire) xs e = refl
written-skip w connect_failed xs e = refl
written-skip w (bytes_in at bytes) xs e = refl
written-skip w (not_yet at) xs e = refl
written-skip w (ended at) xs e = refl
written-skip w (read_failed at) xs e = refl
written-skip w (bytes_out at bytes) xs e = rw e refl
written-skip w (write_failed at) xs e = refl
written-skip w (was_shut at) xs e = refl
written-skip w none_ready xs e = refl

written-both : (w : ℕ) (a : Answer) (xs ys : List Answer) → written_on w xs ≡ written_on w ys → written_on w (a ∷ xs) ≡ written_on w (a ∷ ys)
written-both w (polled wait now) xs ys e = e
written-both w (poll_failed wait) xs ys e = e
written-both w (accepted wire) xs ys e = e
written-both w accept_failed xs ys e = e
written-both w (connected wire) xs ys e = e
written-both w connect_failed xs ys e = e
written-both w (bytes_in at bytes) xs ys e = e
written-both w (not_yet at) xs ys e = e
written-both w (ended at) xs ys e = e
written-both w (read_failed at) xs ys e = e
written-both w (bytes_out at bytes) xs ys e = ap (λ l. if at == w then bytes ++ l else l) e
written-both w (write_failed at) xs ys e = e
written-both w (was_shut at) xs ys e = e
written-both w none_ready xs ys e = e

pub written-share : (w : ℕ) (xs : List Answer) → written_on w xs ≡ written_on w (share w xs)
written-share w xs = same-share (written_on w) w (written-skip w) (written-both w) xs

pub written-append : (w : ℕ) (xs ys : List Answer) → written_on w (xs ++ ys) ≡ (written_on w xs ++ written_on w ys)
written-append w [] ys = refl
written-append w (polled wait now ∷ xs) ys = written-append w xs ys
written-append w (poll_failed wait ∷ xs) ys = written-append w xs ys
written-append w (accepted wire ∷ xs) ys = written-append w xs ys
written-append w (accept_failed ∷ xs) ys = written-append w xs ys
written-append w (connected wire ∷ xs) ys = written-append w xs ys
written-append w (connect_failed ∷ xs) ys = written-append w xs ys
written-append w (bytes_in at bytes ∷ xs) ys = written-append w xs ys
written-append w (not_yet at ∷ xs) ys = written-append w xs ys
written-append w (ended at ∷ xs) ys = written-append w xs ys
written-append w (read_failed at ∷ xs) ys = written-append w xs ys
written-append w (bytes_out at bytes ∷ xs) ys = join (at == w) bytes (written_on w (xs ++ ys)) (written_on w xs) (written_on w ys) (written-append w xs ys)
written-append w (write_failed at ∷ xs) ys = written-append w xs ys
written-append w (was_shut at ∷ xs) ys = written-append w xs ys
written-append w (none_ready ∷ xs) ys = written-append w xs ys

-- ---- shut

pub shut-skip : (w : ℕ) (a : Answer) (xs : List Answer) → is_about w a ≡ false → was_shut_in w (a ∷ xs) ≡ was_shut_in w xs
shut-skip w (polled wait now) xs e = refl
shut-skip w (poll_failed wait) xs e = refl
shut-skip w (accepted wire) xs e = refl
shut-skip w accept_failed xs e = refl
shut-skip w (connected wire) xs e = refl
shut-skip w connect_failed xs e = refl
shut-skip w (bytes_in at bytes) xs e = refl
shut-skip w (not_yet at) xs e = refl
shut-skip w (ended at) xs e = refl
shut-skip w (read_failed at) xs e = refl
shut-skip w (bytes_out at bytes) xs e = refl
shut-skip w (write_failed at) xs e = refl
shut-skip w (was_shut at) xs e = rw e refl
shut-skip w none_ready xs e = refl

shut-both : (w : ℕ) (a : Answer) (xs ys : List Answer) → was_shut_in w xs ≡ was_shut_in w ys → was_shut_in w (a ∷ xs) ≡ was_shut_in w (a ∷ ys)
shut-both w (polled wait now) xs ys e = e
shut-both w (poll_failed wait) xs ys e = e
shut-both w (accepted wire) xs ys e = e
shut-both w accept_failed xs ys e = e
shut-both w (connected wire) xs ys e = e
shut-both w connect_failed xs ys e = e
shut-both w (bytes_in at bytes) xs ys e = e
shut-both w (not_yet at) xs ys e = e
shut-both w (ended at) xs ys e = e
shut-both w (read_failed at) xs ys e = e
shut-both w (bytes_out at bytes) xs ys e = e
shut-both w (write_failed at) xs ys e = e
shut-both w (was_shut at) xs ys e = ap (λ l. (at == w) || l) e
shut-both w none_ready xs ys e = e

pub shut-share : (w : ℕ) (xs : List Answer) → was_shut_in w xs ≡ was_shut_in w (share w xs)
shut-share w xs = same-share (was_shut_in w) w (shut-skip w) (shut-both w) xs

pub shut-append : (w : ℕ) (xs ys : List Answer) → was_shut_in w (xs ++ ys) ≡ (was_shut_in w xs || was_shut_in w ys)
shut-append w [] ys = refl
shut-append w (polled wait now ∷ xs) ys = shut-append w xs ys
shut-append w (poll_failed wait ∷ xs) ys = shut-append w xs ys
shut-append w (accepted wire ∷ xs) ys = shut-append w xs ys
shut-append w (accept_failed ∷ xs) ys = shut-append w xs ys
shut-append w (connected wire ∷ xs) ys = shut-append w xs ys
shut-append w (connect_failed ∷ xs) ys = shut-append w xs ys
shut-append w (bytes_in at bytes ∷ xs) ys = shut-append w xs ys
shut-append w (not_yet at ∷ xs) ys = shut-append w xs ys
shut-append w (ended at ∷ xs) ys = shut-append w xs ys
shut-append w (read_failed at ∷ xs) ys = shut-append w xs ys
shut-append w (bytes_out at bytes ∷ xs) ys = shut-append w xs ys
shut-append w (write_failed at ∷ xs) ys = shut-append w xs ys
shut-append w (was_shut at ∷ xs) ys = either (at == w) (was_shut_in w (xs ++ ys)) (was_shut_in w xs) (was_shut_in w ys) (shut-append w xs ys)
shut-append w (none_ready ∷ xs) ys = shut-append w xs ys

-- ---- ended

pub ended-skip : (w : ℕ) (a : Answer) (xs : List Answer) → is_about w a ≡ false → ended_in w (a ∷ xs) ≡ ended_in w xs
ended-skip w (polled wait now) xs e = refl
ended-skip w (poll_failed wait) xs e = refl
ended-skip w (accepted wire) xs e = refl
ended-skip w accept_failed xs e = refl
ended-skip w (connected wire) xs e = refl
ended-skip w connect_failed xs e = refl
ended-skip w (bytes_in at bytes) xs e = refl
ended-skip w (not_yet at) xs e = refl
ended-skip w (ended at) xs e = rw e refl
ended-skip w (read_failed at) xs e = rw e refl
ended-skip w (bytes_out at bytes) xs e = refl
ended-skip w (write_failed at) xs e = refl
ended-skip w (was_shut at) xs e = refl
ended-skip w none_ready xs e = refl

ended-both : (w : ℕ) (a : Answer) (xs ys : List Answer) → ended_in w xs ≡ ended_in w ys → ended_in w (a ∷ xs) ≡ ended_in w (a ∷ ys)
ended-both w (polled wait now) xs ys e = e
ended-both w (poll_failed wait) xs ys e = e
ended-both w (accepted wire) xs ys e = e
ended-both w accept_failed xs ys e = e
ended-both w (connected wire) xs ys e = e
ended-both w connect_failed xs ys e = e
ended-both w (bytes_in at bytes) xs ys e = e
ended-both w (not_yet at) xs ys e = e
ended-both w (ended at) xs ys e = ap (λ l. (at == w) || l) e
ended-both w (read_failed at) xs ys e = ap (λ l. (at == w) || l) e
ended-both w (bytes_out at bytes) xs ys e = e
ended-both w (write_failed at) xs ys e = e
ended-both w (was_shut at) xs ys e = e
ended-both w none_ready xs ys e = e

pub ended-share : (w : ℕ) (xs : List Answer) → ended_in w xs ≡ ended_in w (share w xs)
ended-share w xs = same-share (ended_in w) w (ended-skip w) (ended-both w) xs

pub ended-append : (w : ℕ) (xs ys : List Answer) → ended_in w (xs ++ ys) ≡ (ended_in w xs || ended_in w ys)
ended-append w [] ys = refl
ended-append w (polled wait now ∷ xs) ys = ended-append w xs ys
ended-append w (poll_failed wait ∷ xs) ys = ended-append w xs ys
ended-append w (accepted wire ∷ xs) ys = ended-append w xs ys
ended-append w (accept_failed ∷ xs) ys = ended-append w xs ys
ended-append w (connected wire ∷ xs) ys = ended-append w xs ys
ended-append w (connect_failed ∷ xs) ys = ended-append w xs ys
ended-append w (bytes_in at bytes ∷ xs) ys = ended-append w xs ys
ended-append w (not_yet at ∷ xs) ys = ended-append w xs ys
ended-append w (ended at ∷ xs) ys = either (at == w) (ended_in w (xs ++ ys)) (ended_in w xs) (ended_in w ys) (ended-append w xs ys)
ended-append w (read_failed at ∷ xs) ys = either (at == w) (ended_in w (xs ++ ys)) (ended_in w xs) (ended_in w ys) (ended-append w xs ys)
ended-append w (bytes_out at bytes ∷ xs) ys = ended-append w xs ys
ended-append w (write_failed at ∷ xs) ys = ended-append w xs ys
ended-append w (was_shut at ∷ xs) ys = ended-append w xs ys
ended-append w (none_ready ∷ xs) ys = ended-append w xs ys

-- ---- failed to write

pub failed-skip : (w : ℕ) (a : Answer) (xs : List Answer) → is_about w a ≡ false → failed_in w (a ∷ xs) ≡ failed_in w xs
failed-skip w (polled wait now) xs e = refl
failed-skip w (poll_failed wait) xs e = refl
failed-skip w (accepted wire) xs e = refl
failed-skip w accept_failed xs e = refl
failed-skip w (connected wire) xs e = refl
failed-skip w connect_failed xs e = refl
failed-skip w (bytes_in at bytes) xs e = refl
failed-skip w (not_yet at) xs e = refl
failed-skip w (ended at) xs e = refl
failed-skip w (read_failed at) xs e = refl
failed-skip w (bytes_out at bytes) xs e = refl
failed-skip w (write_failed at) xs e = rw e refl
failed-skip w (was_shut at) xs e = refl
failed-skip w none_ready xs e = refl

failed-both : (w : ℕ) (a : Answer) (xs ys : List Answer) → failed_in w xs ≡ failed_in w ys → failed_in w (a ∷ xs) ≡ failed_in w (a ∷ ys)
failed-both w (polled wait now) xs ys e = e
failed-both w (poll_failed wait) xs ys e = e
failed-both w (accepted wire) xs ys e = e
failed-both w accept_failed xs ys e = e
failed-both w (connected wire) xs ys e = e
failed-both w connect_failed xs ys e = e
failed-both w (bytes_in at bytes) xs ys e = e
failed-both w (not_yet at) xs ys e = e
failed-both w (ended at) xs ys e = e
failed-both w (read_failed at) xs ys e = e
failed-both w (bytes_out at bytes) xs ys e = e
failed-both w (write_failed at) xs ys e = ap (λ l. (at == w) || l) e
failed-both w (was_shut at) xs ys e = e
failed-both w none_ready xs ys e = e

pub failed-share : (w : ℕ) (xs : List Answer) → failed_in w xs ≡ failed_in w (share w xs)
failed-share w xs = same-share (failed_in w) w (failed-skip w) (failed-both w) xs

pub failed-append : (w : ℕ) (xs ys : List Answer) → failed_in w (xs ++ ys) ≡ (failed_in w xs || failed_in w ys)
failed-append w [] ys = refl
failed-append w (polled wait now ∷ xs) ys = failed-append w xs ys
failed-append w (poll_failed wait ∷ xs) ys = failed-append w xs ys
failed-append w (accepted wire ∷ xs) ys = failed-append w xs ys
failed-append w (accept_failed ∷ xs) ys = failed-append w xs ys
failed-append w (connected wire ∷ xs) ys = failed-append w xs ys
failed-append w (connect_failed ∷ xs) ys = failed-append w xs ys
failed-append w (bytes_in at bytes ∷ xs) ys = failed-append w xs ys
failed-append w (not_yet at ∷ xs) ys = failed-append w xs ys
failed-append w (ended at ∷ xs) ys = failed-append w xs ys
failed-append w (read_failed at ∷ xs) ys = failed-append w xs ys
failed-append w (bytes_out at bytes ∷ xs) ys = failed-append w xs ys
failed-append w (write_failed at ∷ xs) ys = either (at == w) (failed_in w (xs ++ ys)) (failed_in w xs) (failed_in w ys) (failed-append w xs ys)
failed-append w (was_shut at ∷ xs) ys = failed-append w xs ys
failed-append w (none_ready ∷ xs) ys = failed-append w xs ys

-- ---- came

pub came-append : (w : ℕ) (xs ys : List Answer) → came_in w (xs ++ ys) ≡ (came_in w xs || came_in w ys)
came-append w [] ys = refl
came-append w (accepted (Some at) ∷ xs) ys = either (at == w) (came_in w (xs ++ ys)) (came_in w xs) (came_in w ys) (came-append w xs ys)
came-append w (polled wait now ∷ xs) ys = came-append w xs ys
came-append w (poll_failed wait ∷ xs) ys = came-append w xs ys
came-append w (accepted None ∷ xs) ys = came-append w xs ys
came-append w (accept_failed ∷ xs) ys = came-append w xs ys
came-append w (connected wire ∷ xs) ys = came-append w xs ys
came-append w (connect_failed ∷ xs) ys = came-append w xs ys
came-append w (bytes_in at bytes ∷ xs) ys = came-append w xs ys
came-append w (not_yet at ∷ xs) ys = came-append w xs ys
came-append w (ended at ∷ xs) ys = came-append w xs ys
came-append w (read_failed at ∷ xs) ys = came-append w xs ys
came-append w (bytes_out at bytes ∷ xs) ys = came-append w xs ys
came-append w (write_failed at ∷ xs) ys = came-append w xs ys
came-append w (was_shut at ∷ xs) ys = came-append w xs ys
came-append w (none_ready ∷ xs) ys = came-append w xs ys
