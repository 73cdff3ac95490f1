-- What is known of the lines before, once one more has come.
use Rattle.std.proofs.Common.{◌≡◌, ◌≢◌, ◌<◌, ◌≤◌, ℕ, zero, suc, ◌⊎◌, inl, inr, Bool, true, false, List, [], ◌∷◌, ◌++◌, length, set, get_or, refl, sym, ◌∙◌, ap, subst, arith, length-append, length-set, get_or-set_same, get_or-set_other, ◌↔◌}
use Rattle.std.specs.List.{Contains}
use Rattle.std.specs.Bool.{IsTrue}
use Rattle.std.proofs.lemmas.Bool.{cases_eq, both_ways}
use Rattle.std.proofs.lemmas.List.Elements.{All-head, All-tail, All-cons}
use Rattle.hm_message.specs.declared.message.Codec.{Codec}
use Rattle.hd_delivery.specs.Worlds.{Limits}
use Rattle.sr_notation.specs.declared.setting.Setting.{Setting}
use Rattle.sr_notation.specs.declared.setting.Setting.TheVariants as setting
use Rattle.sr_script.specs.declared.action.Action.{Action}
use Rattle.sr_script.specs.declared.action.Action.TheVariants.{Open, Accept, Lose, Write, Read, Close, Send, Tick, Call, Item, Done, Cancel, Round}
use Rattle.sr_script.specs.declared.line.Asked.TheVariants as asked
use Rattle.sr_script.specs.declared.turn.Turn.{Turn}
use Rattle.sr_notation.specs.Settings.{Name, TheCodec, TheVersion, TheReconnect, TheBuffer, ThePeers, name_of}
use Rattle.sr_script.specs.Script.{Program, IsNew, Suits, opened, moment_after}
use Rattle.sr_notation.specs.Terms.{peers_in}
use Rattle.sr_script.specs.Asking.{and_then}
use Rattle.sr_script.specs.Turns.{comes, TellsAccepted, Knows, Admits, IsPlain}

-- ---- lists of actions

contains_more : (actions : List Action) (a b : Action) → Contains actions b → Contains (a ∷ actions) b
contains_more actions a b (k, inside, is) = (suc k, omega arith, is)

contains_less : (actions : List Action) (a b : Action) → a ≢ b → Contains (a ∷ actions) b → Contains actions b
contains_less actions a b other (k, inside, is) = by_place k inside is where
  by_place : (k : ℕ) → k < suc (length actions) → get_or (a ∷ actions) k b ≡ b → Contains actions b
  by_place zero inside is = absurd (other is)
  by_place (suc k) inside is = (k, omega arith, is)

-- an action that accepts no link
tells_past : (accepted : List Bool) (actions : List Action) (a : Action) → ((link : ℕ) → a ≢ Accept link) → TellsAccepted accepted actions
    → TellsAccepted accepted (a ∷ actions)
tells_past accepted actions a other tells = λ link. (
  λ yes. contains_more actions a (Accept link) ((tells link).0 yes),
  λ has. (tells link).1 (contains_less actions a (Accept link) (other link) has),
)

-- a link that isn't accepted yet
past_end : (accepted : List Bool) (link : ℕ) → get_or (accepted ++ false ∷ []) link false ≡ get_or accepted link false
past_end [] zero = refl
past_end [] (suc link) = refl
past_end (b ∷ accepted) zero = refl
past_end (b ∷ accepted) (suc link) = past_end accepted link

tells_opened : (accepted : List Bool) (actions : List Action) → TellsAccepted accepted actions → TellsAccepted (accepted ++ false ∷ []) (Open ∷ actions)
tells_opened accepted actions tells = λ link.
    let past = tells_past accepted actions Open (λ other e. cc) tells link in
    (λ yes. past.0 (sym (past_end accepted link) ∙ yes), λ has. past_end accepted link ∙ past.1 has)

same_link : (a b : ℕ) → Accept a ≡ Accept b → a ≡ b
same_link a b e = cc

tells_accepted : (accepted : List Bool) (actions : List Action) (at : ℕ) → at < length accepted → TellsAccepted accepted actions
    → TellsAccepted (set accepted at true) (Accept at ∷ actions)
tells_accepted accepted actions at inside tells = λ link. by_link link (cases_eq link at) where
  by_link : (link : ℕ) → (link ≡ at) ⊎ (link ≢ at) → (get_or (set accepted at true) link false ≡ true) ↔ Contains (Accept at ∷ actions) (Accept link)
  by_link link (inl same) = (
    λ yes. (0, omega arith, ap (λ (n : ℕ). Accept n) (sym same)),
    λ has. ap (λ (n : ℕ). get_or (set accepted at true) n false) same ∙ get_or-set_same accepted at true false inside,
  )
  by_link link (inr other) =
      let same : get_or (set accepted at true) link false ≡ get_or accepted link false = get_or-set_other accepted at link true false other in
      let apart : Accept at ≢ Accept link = λ e. other (sym (same_link at link e)) in (
        λ yes. contains_more actions (Accept at) (Accept link) ((tells link).0 (sym same ∙ yes)),
        λ has. same ∙ (tells link).1 (contains_less actions (Accept at) (Accept link) apart has),
      )

-- ---- actions

-- what is known of the options is as before
pub record AsBefore (turn now : Turn) : Type 0 where
  pub codec : now.codec ≡ turn.codec
  pub version : now.version ≡ turn.version
  pub reconnect : now.reconnect ≡ turn.reconnect
  pub buffer : now.buffer ≡ turn.buffer
  pub peers : now.peers ≡ turn.peers
  pub between : now.between_peers ≡ turn.between_peers

same_names : (turn now : Turn) → AsBefore turn now → (name : Name) → comes now name ≡ comes turn name
same_names turn now same TheCodec = same.codec
same_names turn now same TheVersion = same.version
same_names turn now same TheReconnect = same.reconnect
same_names turn now same TheBuffer = same.buffer
same_names turn now same ThePeers = same.peers

acted_by : (turn now : Turn) (p : Program) (a : Action) → Knows turn p → AsBefore turn now → now.options ≡ false
    → length now.accepted.items ≡ opened (a ∷ p.actions) → TellsAccepted now.accepted.items (a ∷ p.actions) → now.now ≡ moment_after (a ∷ p.actions)
    → Knows now (and_then p (asked.Action a))
acted_by turn now p a knows same options links accepted moment = record {
  options = (λ yes. cc, λ none. cc);
  new = λ name. (λ yes. (knows.new name).0 (sym (same_names turn now same name) ∙ yes), λ is. same_names turn now same name ∙ (knows.new name).1 is);
  links = links;
  accepted = accepted;
  moment = moment;
  between = same.between ∙ knows.between;
}

-- an action that opens no link, accepts none and brings no moment
passing : (turn now : Turn) (p : Program) (a : Action) → ((link : ℕ) → a ≢ Accept link) → opened (a ∷ p.actions) ≡ opened p.actions
    → moment_after (a ∷ p.actions) ≡ moment_after p.actions → Knows turn p → AsBefore turn now
    → now.options ≡ false → now.accepted.items ≡ turn.accepted.items → now.now ≡ turn.now → Knows now (and_then p (asked.Action a))
passing turn now p a other links moments knows same options accepted moment = acted_by turn now p a knows same options
    (ap length accepted ∙ knows.links ∙ sym links)
    (subst (λ (xs : List Bool). TellsAccepted xs (a ∷ p.actions)) (sym accepted) (tells_past turn.accepted.items p.actions a other knows.accepted))
    (moment ∙ knows.moment ∙ sym moments)

pub plain_comes : (turn now : Turn) (p : Program) (a : Action) → IsPlain a → Suits turn.between_peers a → Knows turn p → AsBefore turn now
    → now.options ≡ false → now.accepted.items ≡ turn.accepted.items → now.now ≡ turn.now → Admits true now p (asked.Action a)
plain_comes turn now p a plain suits knows same options accepted moment = suited a plain (subst (λ (b : Bool). Suits b a) knows.between suits) where
  suited : (a : Action) → IsPlain a → Suits (peers_in p.settings) a → Admits true now p (asked.Action a)
  suited (Lose side) plain suits = ((tt, suits), passing turn now p (Lose side) (λ link e. cc) refl refl knows same options accepted moment)
  suited (Write side count) plain suits = ((tt, suits), passing turn now p (Write side count) (λ link e. cc) refl refl knows same options accepted moment)
  suited (Read side count) plain suits = ((tt, suits), passing turn now p (Read side count) (λ link e. cc) refl refl knows same options accepted moment)
  suited (Close side) plain suits = ((tt, suits), passing turn now p (Close side) (λ link e. cc) refl refl knows same options accepted moment)
  suited (Send side m) plain suits = ((tt, suits), passing turn now p (Send side m) (λ link e. cc) refl refl knows same options accepted moment)
  suited (Call side asking) plain suits = ((tt, suits), passing turn now p (Call side asking) (λ link e. cc) refl refl knows same options accepted moment)
  suited (Item side call value) plain suits = ((tt, suits), passing turn now p (Item side call value) (λ link e. cc) refl refl knows same options accepted moment)
  suited (Done side call) plain suits = ((tt, suits), passing turn now p (Done side call) (λ link e. cc) refl refl knows same options accepted moment)
  suited (Cancel side call) plain suits = ((tt, suits), passing turn now p (Cancel side call) (λ link e. cc) refl refl knows same options accepted moment)
  suited (Round side) plain suits = ((tt, suits), passing turn now p (Round side) (λ link e. cc) refl refl knows same options accepted moment)
  suited Open plain suits = absurd plain
  suited (Accept link) plain suits = absurd plain
  suited (Tick at) plain suits = absurd plain

-- an action that doesn't suit the options
pub plain_cant : (turn : Turn) (p : Program) (a : Action) → (Suits turn.between_peers a → ⊥) → Knows turn p → Admits false turn p (asked.Action a)
plain_cant turn p a unsuited knows = (λ may. unsuited (subst (λ (b : Bool). Suits b a) (sym knows.between) may.1), knows)

pub open_comes : (turn now : Turn) (p : Program) → opened p.actions < 1024 → Knows turn p → AsBefore turn now → now.options ≡ false → now.accepted.items ≡ turn.accepted.items ++ false ∷ [] → now.now ≡ turn.now → Admits true now p (asked.Action Open)
open_comes turn now p few knows same options accepted moment = (
  (few, tt),
  acted_by turn now p Open knows same options
      (omega (arith, ap length accepted, length-append turn.accepted.items (false ∷ []), knows.links))
      (subst (λ (xs : List Bool). TellsAccepted xs (Open ∷ p.actions)) (sym accepted) (tells_opened turn.accepted.items p.actions knows.accepted))
      (moment ∙ knows.moment),
)

pub accept_comes : (turn now : Turn) (p : Program) (at : ℕ) → at < length turn.accepted.items → get_or turn.accepted.items at false ≡ false → Knows turn p
    → AsBefore turn now → now.options ≡ false → now.accepted.items ≡ set turn.accepted.items at true → now.now ≡ turn.now
    → Admits true now p (asked.Action (Accept at))
accept_comes turn now p at inside free knows same options accepted moment = (
  ((omega (arith, knows.links), λ has. (let yes : get_or turn.accepted.items at false ≡ true = (knows.accepted at).1 has in cc)), tt),
  acted_by turn now p (Accept at) knows same options
      (ap length accepted ∙ length-set turn.accepted.items at true ∙ knows.links)
      (subst (λ (xs : List Bool). TellsAccepted xs (Accept at ∷ p.actions)) (sym accepted) (tells_accepted turn.accepted.items p.actions at inside knows.accepted))
      (moment ∙ knows.moment),
)

pub tick_comes : (turn now : Turn) (p : Program) (moment : ℕ) → turn.now ≤ moment → Knows turn p → AsBefore turn now → now.options ≡ false → now.accepted.items ≡ turn.accepted.items → now.now ≡ moment → Admits true now p (asked.Action (Tick moment))
tick_comes turn now p moment later knows same options accepted moves = (
  (omega (arith, knows.moment), tt),
  acted_by turn now p (Tick moment) knows same options
      (ap length accepted ∙ knows.links)
      (subst (λ (xs : List Bool). TellsAccepted xs (Tick moment ∷ p.actions)) (sym accepted) (tells_past turn.accepted.items p.actions (Tick moment) (λ link e. cc) knows.accepted))
      moves,
)

-- ---- options

-- but for one option they may come as before
abbrev Alone : Turn → Turn → Name → Type 0
Alone turn now this = (name : Name) → (name ≡ this) ⊎ ((name ≢ this) × (comes now name ≡ comes turn name))

codec_alone : (turn now : Turn) → now.version ≡ turn.version → now.reconnect ≡ turn.reconnect → now.buffer ≡ turn.buffer → now.peers ≡ turn.peers → Alone turn now TheCodec
codec_alone turn now version reconnect buffer peers TheCodec = inl refl
codec_alone turn now version reconnect buffer peers TheVersion = inr (λ e. cc, version)
codec_alone turn now version reconnect buffer peers TheReconnect = inr (λ e. cc, reconnect)
codec_alone turn now version reconnect buffer peers TheBuffer = inr (λ e. cc, buffer)
codec_alone turn now version reconnect buffer peers ThePeers = inr (λ e. cc, peers)

version_alone : (turn now : Turn) → now.codec ≡ turn.codec → now.reconnect ≡ turn.reconnect → now.buffer ≡ turn.buffer → now.peers ≡ turn.peers → Alone turn now TheVersion
version_alone turn now codec reconnect buffer peers TheCodec = inr (λ e. cc, codec)
version_alone turn now codec reconnect buffer peers TheVersion = inl refl
version_alone turn now codec reconnect buffer peers TheReconnect = inr (λ e. cc, reconnect)
version_alone turn now codec reconnect buffer peers TheBuffer = inr (λ e. cc, buffer)
version_alone turn now codec reconnect buffer peers ThePeers = inr (λ e. cc, peers)

reconnect_alone : (turn now : Turn) → now.codec ≡ turn.codec → now.version ≡ turn.version → now.buffer ≡ turn.buffer → now.peers ≡ turn.peers → Alone turn now TheReconnect
reconnect_alone turn now codec version buffer peers TheCodec = inr (λ e. cc, codec)
reconnect_alone turn now codec version buffer peers TheVersion = inr (λ e. cc, version)
reconnect_alone turn now codec version buffer peers TheReconnect = inl refl
reconnect_alone turn now codec version buffer peers TheBuffer = inr (λ e. cc, buffer)
reconnect_alone turn now codec version buffer peers ThePeers = inr (λ e. cc, peers)

buffer_alone : (turn now : Turn) → now.codec ≡ turn.codec → now.version ≡ turn.version → now.reconnect ≡ turn.reconnect → now.peers ≡ turn.peers → Alone turn now TheBuffer
buffer_alone turn now codec version reconnect peers TheCodec = inr (λ e. cc, codec)
buffer_alone turn now codec version reconnect peers TheVersion = inr (λ e. cc, version)
buffer_alone turn now codec version reconnect peers TheReconnect = inr (λ e. cc, reconnect)
buffer_alone turn now codec version reconnect peers TheBuffer = inl refl
buffer_alone turn now codec version reconnect peers ThePeers = inr (λ e. cc, peers)

peers_alone : (turn now : Turn) → now.codec ≡ turn.codec → now.version ≡ turn.version → now.reconnect ≡ turn.reconnect → now.buffer ≡ turn.buffer → Alone turn now ThePeers
peers_alone turn now codec version reconnect buffer TheCodec = inr (λ e. cc, codec)
peers_alone turn now codec version reconnect buffer TheVersion = inr (λ e. cc, version)
peers_alone turn now codec version reconnect buffer TheReconnect = inr (λ e. cc, reconnect)
peers_alone turn now codec version reconnect buffer TheBuffer = inr (λ e. cc, buffer)
peers_alone turn now codec version reconnect buffer ThePeers = inl refl

-- the option comes, and isn't new any more
option_comes : (turn now : Turn) (p : Program) (s : Setting) → Knows turn p → turn.options ≡ true → comes turn (name_of s) ≡ true
    → comes now (name_of s) ≡ false → Alone turn now (name_of s) → now.between_peers ≡ peers_in (s ∷ p.settings)
    → now.options ≡ turn.options → now.accepted.items ≡ turn.accepted.items → now.now ≡ turn.now → Admits true now p (asked.Setting s)
option_comes turn now p s knows may new taken alone between options accepted moment =
    let none : p.actions ≡ [] = knows.options.0 may in (
      ((knows.new (name_of s)).0 new, none),
      record {
        options = (λ yes. refl, λ is. options ∙ may);
        new = λ name. by_name name (alone name);
        links = ap length accepted ∙ knows.links ∙ ap opened none;
        accepted = subst (λ (xs : List Bool). TellsAccepted xs []) (sym accepted) (subst (λ (xs : List Action). TellsAccepted turn.accepted.items xs) none knows.accepted);
        moment = moment ∙ knows.moment ∙ ap moment_after none;
        between = between;
      },
    ) where
      by_name : (name : Name) → (name ≡ name_of s) ⊎ ((name ≢ name_of s) × (comes now name ≡ comes turn name)) → IsTrue (comes now name) ↔ IsNew name (s ∷ p.settings)
      by_name name (inl is) = (
        λ yes. absurd (let no : comes now name ≡ false = ap (λ (n : Name). comes now n) is ∙ taken in both_ways (comes now name) no yes),
        λ all. absurd (All-head (λ (x : Setting). name ≢ name_of x) s p.settings all is),
      )
      by_name name (inr (other, same)) = (
        λ yes. All-cons (λ (x : Setting). name ≢ name_of x) s p.settings other ((knows.new name).0 (sym same ∙ yes)),
        λ all. same ∙ (knows.new name).1 (All-tail (λ (x : Setting). name ≢ name_of x) s p.settings all),
      )

-- it came before
option_came : (turn now : Turn) (p : Program) (s : Setting) → Knows turn p → comes turn (name_of s) ≡ false → ((name : Name) → comes now name ≡ comes turn name)
    → now.between_peers ≡ turn.between_peers → now.options ≡ turn.options → now.accepted.items ≡ turn.accepted.items → now.now ≡ turn.now → Admits false now p (asked.Setting s)
option_came turn now p s knows came same between options accepted moment = (
  λ may. both_ways (comes turn (name_of s)) came ((knows.new (name_of s)).1 may.0),
  record {
    options = (λ yes. knows.options.0 (sym options ∙ yes), λ is. options ∙ knows.options.1 is);
    new = λ name. (λ yes. (knows.new name).0 (sym (same name) ∙ yes), λ is. same name ∙ (knows.new name).1 is);
    links = ap length accepted ∙ knows.links;
    accepted = subst (λ (xs : List Bool). TellsAccepted xs p.actions) (sym accepted) knows.accepted;
    moment = moment ∙ knows.moment;
    between = between ∙ knows.between;
  },
)

option_admits : (turn now : Turn) (p : Program) (s : Setting) (may : Bool) → Knows turn p → turn.options ≡ true → may ≡ comes turn (name_of s)
    → comes now (name_of s) ≡ false → Alone turn now (name_of s) → peers_in (s ∷ p.settings) ≡ peers_in p.settings → now.between_peers ≡ turn.between_peers
    → now.options ≡ turn.options → now.accepted.items ≡ turn.accepted.items → now.now ≡ turn.now → Admits may now p (asked.Setting s)
option_admits turn now p s true knows options may taken alone other between same accepted moment =
    option_comes turn now p s knows options (sym may) taken alone (between ∙ knows.between ∙ sym other) same accepted moment
option_admits turn now p s false knows options may taken alone other between same accepted moment =
    option_came turn now p s knows (sym may) (λ name. by_name name (alone name)) between same accepted moment where
      by_name : (name : Name) → (name ≡ name_of s) ⊎ ((name ≢ name_of s) × (comes now name ≡ comes turn name)) → comes now name ≡ comes turn name
      by_name name (inl is) = ap (λ (n : Name). comes now n) is ∙ taken ∙ may ∙ ap (λ (n : Name). comes turn n) (sym is)
      by_name name (inr (apart, unchanged)) = unchanged

pub codec_admits : (turn now : Turn) (p : Program) (which : Codec) (may : Bool) → Knows turn p → turn.options ≡ true → may ≡ turn.codec → now.codec ≡ false
    → now.version ≡ turn.version → now.reconnect ≡ turn.reconnect → now.buffer ≡ turn.buffer → now.peers ≡ turn.peers → now.between_peers ≡ turn.between_peers
    → now.options ≡ turn.options → now.accepted.items ≡ turn.accepted.items → now.now ≡ turn.now → Admits may now p (asked.Setting (setting.Codec which))
codec_admits turn now p which may knows options was taken same_version same_reconnect same_buffer same_peers between same accepted moment =
    option_admits turn now p (setting.Codec which) may knows options was taken (codec_alone turn now same_version same_reconnect same_buffer same_peers) refl between same accepted moment

pub version_admits : (turn now : Turn) (p : Program) (number : ℕ) (may : Bool) → Knows turn p → turn.options ≡ true → may ≡ turn.version → now.version ≡ false
    → now.codec ≡ turn.codec → now.reconnect ≡ turn.reconnect → now.buffer ≡ turn.buffer → now.peers ≡ turn.peers → now.between_peers ≡ turn.between_peers
    → now.options ≡ turn.options → now.accepted.items ≡ turn.accepted.items → now.now ≡ turn.now → Admits may now p (asked.Setting (setting.Version number))
version_admits turn now p number may knows options was taken same_codec same_reconnect same_buffer same_peers between same accepted moment =
    option_admits turn now p (setting.Version number) may knows options was taken (version_alone turn now same_codec same_reconnect same_buffer same_peers) refl between same accepted moment

pub reconnect_admits : (turn now : Turn) (p : Program) (keep : Bool) (may : Bool) → Knows turn p → turn.options ≡ true → may ≡ turn.reconnect → now.reconnect ≡ false
    → now.codec ≡ turn.codec → now.version ≡ turn.version → now.buffer ≡ turn.buffer → now.peers ≡ turn.peers → now.between_peers ≡ turn.between_peers
    → now.options ≡ turn.options → now.accepted.items ≡ turn.accepted.items → now.now ≡ turn.now → Admits may now p (asked.Setting (setting.Reconnect keep))
reconnect_admits turn now p keep may knows options was taken same_codec same_version same_buffer same_peers between same accepted moment =
    option_admits turn now p (setting.Reconnect keep) may knows options was taken (reconnect_alone turn now same_codec same_version same_buffer same_peers) refl between same accepted moment

pub buffer_admits : (turn now : Turn) (p : Program) (limits : Limits) (may : Bool) → Knows turn p → turn.options ≡ true → may ≡ turn.buffer → now.buffer ≡ false
    → now.codec ≡ turn.codec → now.version ≡ turn.version → now.reconnect ≡ turn.reconnect → now.peers ≡ turn.peers → now.between_peers ≡ turn.between_peers
    → now.options ≡ turn.options → now.accepted.items ≡ turn.accepted.items → now.now ≡ turn.now → Admits may now p (asked.Setting (setting.Buffer limits))
buffer_admits turn now p limits may knows options was taken same_codec same_version same_reconnect same_peers between same accepted moment =
    option_admits turn now p (setting.Buffer limits) may knows options was taken (buffer_alone turn now same_codec same_version same_reconnect same_peers) refl between same accepted moment

-- the option of peers, which tells whether there are some
pub peers_come : (turn now : Turn) (p : Program) → Knows turn p → turn.options ≡ true → turn.peers ≡ true → now.peers ≡ false
    → now.codec ≡ turn.codec → now.version ≡ turn.version → now.reconnect ≡ turn.reconnect → now.buffer ≡ turn.buffer → now.between_peers ≡ true
    → now.options ≡ turn.options → now.accepted.items ≡ turn.accepted.items → now.now ≡ turn.now → Admits true now p (asked.Setting setting.Peers)
peers_come turn now p knows options was taken same_codec same_version same_reconnect same_buffer between same accepted moment =
    option_comes turn now p setting.Peers knows options was taken (peers_alone turn now same_codec same_version same_reconnect same_buffer) between same accepted moment

pub peers_came : (turn : Turn) (p : Program) → Knows turn p → turn.peers ≡ false → Admits false turn p (asked.Setting setting.Peers)
peers_came turn p knows came = (λ may. both_ways (comes turn ThePeers) came ((knows.new ThePeers).1 may.0), knows)
