-- The connection that stands on a lane, by what is kept of the lane.
use Rattle.std.proofs.Common.{◌≡◌, ℕ, Bool, true, false, List, Some, None, refl, sym, ap, ◌∙◌}
use Rattle.std.specs.Prelude.{not, ◌&&◌, ◌||◌}
use Rattle.std.proofs.lemmas.Bool.{and_parts}
use Rattle.hd_delivery.specs.Histories.{is_this}
use Rattle.hd_server.specs.Lives.{socket_of}
use Rattle.hd_server.specs.Doings.{ServerEvent, has_peer, notes, work}
use Rattle.hd_server.specs.Plans.{conn_on}
use Rattle.hub_machine.specs.Laws.{FindsOne}
use Rattle.hub_server.specs.declared.lane.Lane.{Lane}
use Rattle.hub_server.specs.Lanes.{HasLane, IsNobodys, Unsettled, is_at, poll_lane}

-- who stands on a lane is found
abbrev pub FindsStanding : ℕ → List ServerEvent → Type 0
FindsStanding lane h = FindsOne (λ k. is_this lane (socket_of k (notes h))) (work h)

there_at : (k lane : ℕ) (h : List ServerEvent) → has_peer k h ≡ true → is_this lane (socket_of k (notes h)) ≡ true → is_at lane k h ≡ true
there_at k lane h e f =
    ap (λ (x : Bool). x && (is_this lane (socket_of k (notes h)) || is_this lane (poll_lane k (notes h)))) e
    ∙ ap (λ (x : Bool). x || is_this lane (poll_lane k (notes h))) f

not_true : (a b : Bool) → a ≡ not b → a ≡ false → b ≡ true
not_true a true e f = refl
not_true a false e f = absurd (let z : false ≡ true = sym f ∙ e in cc)

not_false : (a b : Bool) → a ≡ not b → a ≡ true → b ≡ false
not_false a false e f = refl
not_false a true e f = absurd (let z : true ≡ false = sym f ∙ e in cc)

-- it stands there, or polls there
pub kept_there : (u : Unsettled) (x : Lane) (lane : ℕ) (h : List ServerEvent) → HasLane u x lane h → has_peer x.conn h ≡ true
kept_there u x lane h l =
    (and_parts (has_peer x.conn h) (is_this lane (socket_of x.conn (notes h)) || is_this lane (poll_lane x.conn (notes h))) l.at).0

pub kept_stands : (u : Unsettled) (x : Lane) (lane : ℕ) (h : List ServerEvent) → FindsStanding lane h → HasLane u x lane h → x.polls ≡ false
    → conn_on lane h ≡ Some x.conn
kept_stands u x lane h finds l e =
    finds.one x.conn (kept_there u x lane h l)
    (not_true x.polls (is_this lane (socket_of x.conn (notes h))) l.polls e) (λ k f g. l.only k (there_at k lane h f g))

pub kept_polls : (u : Unsettled) (x : Lane) (lane : ℕ) (h : List ServerEvent) → FindsStanding lane h → HasLane u x lane h → x.polls ≡ true
    → conn_on lane h ≡ None
kept_polls u x lane h finds l e = finds.none (λ k f. go k f (is_this lane (socket_of k (notes h))) refl)
  where
    go : (k : ℕ) → has_peer k h ≡ true → (b : Bool) → is_this lane (socket_of k (notes h)) ≡ b → b ≡ false
    go k f false g = refl
    go k f true g =
        let same : k ≡ x.conn = l.only k (there_at k lane h f g) in
        absurd (let z : false ≡ true = sym (not_false x.polls (is_this lane (socket_of x.conn (notes h))) l.polls e)
        ∙ sym (ap (λ (n : ℕ). is_this lane (socket_of n (notes h))) same) ∙ g in cc)

-- nobody does
pub none_kept : (lane : ℕ) (h : List ServerEvent) → FindsStanding lane h → IsNobodys lane h → conn_on lane h ≡ None
none_kept lane h finds n = finds.none (λ k f. go k f (is_this lane (socket_of k (notes h))) refl)
  where
    go : (k : ℕ) → has_peer k h ≡ true → (b : Bool) → is_this lane (socket_of k (notes h)) ≡ b → b ≡ false
    go k f false g = refl
    go k f true g = absurd (let z : false ≡ true = sym (n k) ∙ there_at k lane h f g in cc)
