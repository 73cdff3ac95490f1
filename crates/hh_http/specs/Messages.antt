-- Messages of one kind, each a head and a body: what the requests and the responses of a connection have in common.
use Rattle.std.specs.Prelude.{◌≡◌, ◌<◌, ◌≤◌, ◌+◌, ◌⊎◌, ⊤, ℕ, zero, suc, Bool, false, List, [], ◌∷◌, ◌++◌, length, Option, None, Some, Result, Ok, Err, IsTrue}
use Rattle.hh_http.specs.declared.error.HttpError.{HttpError}
use Rattle.hh_http.specs.declared.error.HttpError.TheVariants.{Refused, NoMemory}
use Rattle.hh_http.specs.declared.message.Head.{Head}
use Rattle.hh_http.specs.declared.limits.TheConstants.{MOST_HEAD, MOST_BODY, MOST_HEADERS}
use Rattle.hw_lanes.specs.declared.http.Refusal.{Refusal}
use Rattle.hh_http.specs.Lane.{Lane, room_for}
use Rattle.hh_http.specs.Refusals.{only_status}

-- the first of these holds of an answer, the second of a refusal
abbrev pub Decides : {A : Type 0} → (A → Type 0) → (Refusal → Type 0) → Result A HttpError → Type 0
Decides Takes Refuses (Ok a) = Takes a
Decides Takes Refuses (Err (Refused refusal)) = Refuses refusal
Decides Takes Refuses (Err NoMemory) = ⊤

-- A kind of messages.
pub record Grammar (M : Type 0) : Type 1 where
  -- the parts of a head
  pub Parts : Type 0
  -- its text
  pub print : Parts → List ℕ
  -- how many headers it has
  pub headers : Parts → ℕ
  -- the bytes are this head and what follows
  pub ReadsHead : List ℕ → Parts → List ℕ → Type 0
  -- the bytes begin with no head
  pub HasNone : List ℕ → Type 0
  -- nor with one that is cut off, whatever follows
  pub NeverHas : List ℕ → Type 0
  -- something may follow that makes them a head
  pub MayBecome : List ℕ → Type 0
  -- they begin with a head of more headers than this
  pub Exceeds : ℕ → List ℕ → Type 0
  -- a head is taken: this is its message but for the body, which has this length
  pub Says : Parts → M → ℕ → Type 0
  -- a head is refused in this way
  pub Breaks : Parts → Refusal → Type 0
  -- its body is sent once a 100 came
  pub expects : Parts → Bool
  -- the body of a message
  pub body : M → List ℕ
  -- a message with this body
  pub with_body : M → List ℕ → M
  -- no message follows this one
  pub is_last : M → Bool

-- what a lane needs of a kind of messages
pub record IsGrammar {M : Type 0} (g : Grammar M) : Type 0 where
  -- a head is its text
  pub printed : (bytes : List ℕ) (h : g.Parts) (tail : List ℕ) → g.ReadsHead bytes h tail → bytes ≡ g.print h ++ tail
  -- what follows a head leaves it as it was
  pub grows : (bytes more : List ℕ) (h : g.Parts) (tail : List ℕ)
      → g.ReadsHead bytes h tail → g.ReadsHead (bytes ++ more) h (tail ++ more)
  -- a message has the body that it was given
  pub bodied : (m : M) (body : List ℕ) → g.body (g.with_body m body) ≡ body
  -- of a body a head says its length alone
  pub says : (h : g.Parts) (m : M) (n : ℕ) (body : List ℕ) → g.Says h m n → g.Says h (g.with_body m body) n
  -- that is within the limit
  pub short : (h : g.Parts) (m : M) (n : ℕ) → g.Says h m n → n ≤ MOST_BODY

-- whether a 100 is due while a body is awaited: once the head was just read, if it expects one; and later as before
abbrev pub due_after : ℕ → Bool → Bool → Bool
due_after zero expects due = expects
due_after (suc want) expects due = due

module _ {M : Type 0} (g : Grammar M) where
  -- ---- messages

  -- the bytes begin with a head of at most 100 headers
  abbrev pub HasHead : List ℕ → g.Parts → List ℕ → Type 0
  HasHead bytes h tail = g.ReadsHead bytes h tail × (g.headers h ≤ MOST_HEADERS)

  -- the bytes begin with this message
  abbrev pub Begins : List ℕ → M → List ℕ → Type 0
  Begins bytes m after =
      (h : g.Parts) × (tail : List ℕ) × HasHead bytes h tail × g.Says h m (length (g.body m)) × (tail ≡ g.body m ++ after)

  -- the bytes are these messages one after the other, and a rest
  abbrev pub Series : List ℕ → List M → List ℕ → Type 0
  Series bytes [] rest = bytes ≡ rest
  Series bytes (m ∷ ms) rest = (after : List ℕ) × Begins bytes m after × Series after ms rest

  -- no head has ended yet
  abbrev pub WaitsForHead : List ℕ → Type 0
  WaitsForHead bytes = g.HasNone bytes × g.MayBecome bytes × (length bytes < MOST_HEAD)

  -- a message of this length has begun, which expects a 100 or doesn't, and its body isn't whole
  abbrev pub WaitsForBody : List ℕ → ℕ → Bool → Type 0
  WaitsForBody bytes want expects =
      (h : g.Parts) × (tail : List ℕ) × (m : M) × (n : ℕ) × HasHead bytes h tail × g.Says h m n
      × (length tail < n) × (want ≡ length (g.print h) + n) × (expects ≡ g.expects h)

  -- the bytes begin with a head that is refused
  abbrev pub RefusesHead : List ℕ → Refusal → Type 0
  RefusesHead bytes refusal = (h : g.Parts) × (tail : List ℕ) × HasHead bytes h tail × g.Breaks h refusal

  -- why bytes are refused; 431 is for a head that is too long or has too many headers (RFC 6585, section 5)
  abbrev pub Refuses : List ℕ → Refusal → Type 0
  Refuses bytes refusal =
      ((refusal ≡ only_status 431) × ((g.HasNone bytes × (MOST_HEAD ≤ length bytes)) ⊎ g.Exceeds MOST_HEADERS bytes))
      ⊎ ((refusal ≡ only_status 400) × g.NeverHas bytes)
      ⊎ RefusesHead bytes refusal

  -- ---- what is read of a head

  -- the bytes begin with this head, and its body stands there
  abbrev pub IsHeadAt : List ℕ → Head M → Type 0
  IsHeadAt bytes head =
      (h : g.Parts) × (tail : List ℕ) × (n : ℕ) × HasHead bytes h tail × g.Says h head.message n
      × (head.start ≡ length (g.print h)) × (head.end ≡ head.start + n) × (head.expects ≡ g.expects h)

  -- what a head that was parsed comes to
  abbrev pub Judges : List ℕ → Result (Head M) HttpError → Type 0
  Judges bytes result = Decides (IsHeadAt bytes) (RefusesHead bytes) result

  -- what the bytes begin with
  abbrev pub Reads : List ℕ → Result (Option (Head M)) HttpError → Type 0
  Reads bytes (Ok None) = WaitsForHead bytes
  Reads bytes (Ok (Some head)) = IsHeadAt bytes head
  Reads bytes (Err (Refused refusal)) = Refuses bytes refusal
  Reads bytes (Err NoMemory) = ⊤

  -- ---- lanes

  -- what the next message is of a lane that is neither spent nor at its end
  abbrev pub Answers : Lane → Lane → Result (Option M) HttpError → Type 0
  Answers lane next (Ok (Some m)) =
      Begins lane.held m next.held × (next.want ≡ 0) × (next.spent ≡ None) × (next.ended ≡ g.is_last m)
      × (next.due ≡ false)
  Answers lane next (Ok None) =
      (next ≡ record lane { want = next.want; due = next.due })
      × ((WaitsForHead lane.held × (next.want ≡ 0) × (next.due ≡ lane.due))
      ⊎ ((expects : Bool) × WaitsForBody lane.held next.want expects × (next.due ≡ due_after lane.want expects lane.due)))
  Answers lane next (Err (Refused refusal)) = Refuses lane.held refusal × (next ≡ record lane { spent = Some refusal })
  Answers lane next (Err NoMemory) = next ≡ lane

  -- the head that is kept is the one that the bytes held begin with
  abbrev pub IsKept : List ℕ → Option (Head M) → Type 0
  IsKept held None = ⊤
  IsKept held (Some head) = IsHeadAt held head

-- a spent lane answers the same again
abbrev pub Repeats : {M : Type 0} → Lane → Lane → Result (Option M) HttpError → Type 0
Repeats lane next result =
    (refusal : Refusal) → lane.spent ≡ Some refusal → (result ≡ Err (Refused refusal)) × (next ≡ lane)

-- a lane at its end has no more messages
abbrev pub Rests : {M : Type 0} → Lane → Lane → Result (Option M) HttpError → Type 0
Rests lane next result = lane.spent ≡ None → IsTrue lane.ended → (result ≡ Ok None) × (next ≡ lane)

-- the length of the message whose head is kept, or 0
abbrev pub want_of : {M : Type 0} → Option (Head M) → ℕ
want_of None = 0
want_of (Some head) = head.end

-- what a lane's fields keep
pub record IsLane {M : Type 0} (g : Grammar M) (held : List ℕ) (capacity : ℕ) (head : Option (Head M)) : Type 0 where
  pub reserved : room_for (want_of head) ≤ capacity
  pub filled : length held ≤ room_for (want_of head)
  pub bounded : want_of head ≤ MOST_HEAD + MOST_BODY
  pub kept : IsKept g held head
