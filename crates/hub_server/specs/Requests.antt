-- What is done about a request, by its outcome.
use Rattle.std.specs.Prelude.{◌≡◌, ◌==◌, ℕ, suc, Bool, true, false, List, [], ◌∷◌, ◌++◌, Option, Some, None, is_some, option_map, if◌then◌else◌}
use Rattle.hw_lanes.specs.Replies.{IsReply}
use Rattle.hd_delivery.specs.Histories.{first_of, is_this}
use Rattle.hd_calls.specs.Hubs.{Hub}
use Rattle.hd_rooms.specs.declared.vocabulary.Asked.{Asked}
use Rattle.hd_rooms.specs.declared.vocabulary.Asked.TheVariants as keeper
use Rattle.hd_rooms.specs.Kept.{Content, KeeperDid, CountsFaults}
use Rattle.hd_server.specs.declared.vocabulary.Said.{Said}
use Rattle.hd_server.specs.Lives.{is_busy, is_made, made, standing}
use Rattle.hd_server.specs.Texts.{token_of}
use Rattle.hd_server.specs.declared.vocabulary.Caller.{Caller}
use Rattle.hd_server.specs.declared.vocabulary.Caller.TheVariants.{Named}
use Rattle.hd_server.specs.declared.vocabulary.Outcome.{Outcome}
use Rattle.hd_server.specs.declared.vocabulary.Outcome.TheVariants.{Refusal, NewToken, PlainSocket, TokenSocket, Deletion}
use Rattle.hd_server.specs.Table.{Facts, text_in}
use Rattle.hd_server.specs.Doings.{ServerEvent, Draws, may_resume, notes, moment}
use Rattle.hd_server.specs.Plans.{PendingRequest, Setup, bare_reply, caller_by, new_token, onto, request_plan, giving_way}
use Rattle.hd_server.specs.Serves.{IsDraw}
use Rattle.hub_server.specs.declared.server.Server.{Server}
use Rattle.hub_server.specs.Lanes.{settled}
use Rattle.hub_server.specs.Servers.{IsRested, Standing}
use Rattle.hub_server.specs.Steps.{AddsAll, CountsDraws, Follows, HasCome, NoneOverdue}

-- of all doings for which the server stood when a request had come
abbrev pub OfRequest : {H Job : Type 0} → Hub Job → Server H Job → ℕ → Bool → (Setup → List Said → List ServerEvent → Type 0) → Type 0
OfRequest hub v lane is_last P = (s : Setup) (before : List Said) (h : List ServerEvent) → Standing hub s settled before v h → ((c : ℕ) → IsRested c h) → HasCome lane is_last h → NoneOverdue h → P s before h

-- ---- who calls

-- whose connection it would be
abbrev pub name_meant : Caller → Option (List ℕ)
name_meant (Named name) = Some name
name_meant _ = None

-- the text of which the keeper is asked: the access token of one who would have a connection, if it is a text
abbrev pub text_asked : Bool → Option (List ℕ) → Option (List ℕ)
text_asked is_entry bearer = if is_entry then text_in bearer else None

-- what the keeper is asked, where it answers this
abbrev pub asks_who : Option (List ℕ) → Option (Option (List ℕ)) → List Asked
asks_who None name = []
asks_who (Some token) name = keeper.User token name ∷ []

-- this is the caller, by what the keeper answered if it was asked of a text
pub record IsCaller (text bearer : Option (List ℕ)) (who : Caller) (holds : Option Content) (answers : Option (List Asked)) (faults : ℕ)
    (holds_now : Option Content) (answers_now : Option (List Asked)) (faults_now : ℕ) : Type 0 where
  pub name : Option (Option (List ℕ))
  pub is : who ≡ caller_by text bearer name
  pub told : answers_now ≡ option_map (λ (known : List Asked). known ++ asks_who text name) answers
  pub kept : KeeperDid holds (asks_who text name) holds_now
  pub counted : CountsFaults faults (asks_who text name) faults_now

-- ---- what is known when an outcome is carried out

-- its reply can be sent: a refusal has a status for that, and where a socket is accepted, what accepts it is there
abbrev pub CanBeSaid : Option (List ℕ) → Outcome → Type 0
CanBeSaid accept (Refusal status) = IsReply (bare_reply status)
CanBeSaid accept PlainSocket = is_some accept ≡ true
CanBeSaid accept TokenSocket = is_some accept ≡ true
CanBeSaid accept _ = Unit {0}

-- it is about the connection of the token that is named
abbrev pub is_about_token : Outcome → Bool
is_about_token (Refusal status) = false
is_about_token (NewToken reconnect) = false
is_about_token PlainSocket = false
is_about_token _ = true

-- this is that connection, and no moment of it has come
pub record IsNamed (f : Facts) (c : ℕ) (h : List ServerEvent) : Type 0 where
  pub made : is_made c (notes h) ≡ true
  pub lives : f.life ≡ standing c (notes h)
  pub grants : f.granted ≡ may_resume c h

-- what the table looked at is so, where so many connections may live
pub record IsSeen (live : ℕ) (f : Facts) (c : ℕ) (out : Outcome) (h : List ServerEvent) : Type 0 where
  pub busy : f.busy ≡ is_busy live (moment h) (notes h)
  pub named : is_about_token out ≡ true → IsNamed f c h

-- ---- who called

-- whose connection each is, once one gave way
abbrev pub caller_left : Option ℕ → ℕ → Option (List ℕ) → Option (List ℕ)
caller_left gone c name = if is_this c gone then None else name

-- and once one was made for this user
abbrev pub caller_made : ℕ → Option (List ℕ) → ℕ → Option (List ℕ) → Option (List ℕ)
caller_made conn user c name = if c == conn then first_of user name else name

-- ---- what each outcome comes to

-- a token of what was drawn is told, or a refusal if the lots failed
pub record MakesToken {H Job : Type 0} (hub : Hub Job) (s : Setup) (before : List Said) (new : Server H Job) (o : PendingRequest) (reconnect : Bool)
    (told : Option (List (Option (List ℕ)))) (failures : ℕ) (told_now : Option (List (Option (List ℕ)))) (failures_now : ℕ) (h : List ServerEvent) : Type 0 where
  pub drawn : Option (List ℕ)
  pub of_sixteen : IsDraw drawn
  pub stands : Standing hub s settled before new
      (onto (request_plan s o drawn 0 (Draws drawn ∷ h) (if is_some drawn then NewToken reconnect else Refusal 500)).first (Draws drawn ∷ h))
  pub drawn_told : AddsAll told told_now (drawn ∷ [])
  pub failed : CountsDraws failures (drawn ∷ []) failures_now

-- a token of what was drawn is told, to which another may have given way
abbrev pub TellsToken : {H Job : Type 0} → Hub Job → Setup → List Said → Server H Job → PendingRequest → Bool → List ℕ → List ServerEvent → Type 0
TellsToken hub s before new o reconnect drawn h =
    let room = giving_way s o.now h in
    let g = onto room h in
    let k = suc (made (notes g)) in
    Standing hub s settled before new (onto (room ++ new_token o k (token_of drawn k) reconnect g) h)

-- this outcome of all that ask for no lots is carried out, for this connection
pub record IsCarriedOut {H Job : Type 0} (hub : Hub Job) (s : Setup) (before : List Said) (new : Server H Job) (o : PendingRequest) (c : ℕ) (out : Outcome) (h : List ServerEvent) : Type 0 where
  pub after : List ServerEvent
  pub follows : Follows (request_plan s o None c h out) h after
  pub stands : Standing hub s settled before new after

-- an outcome is carried out, and lots were asked only for a token
abbrev pub CarriesOut : {H Job : Type 0} → Hub Job → Setup → List Said → Server H Job → PendingRequest → ℕ → Option (List (Option (List ℕ))) → ℕ →
    Option (List (Option (List ℕ))) → ℕ → List ServerEvent → Outcome → Type 0
CarriesOut hub s before new o c told failures told_now failures_now h (NewToken reconnect) =
    MakesToken hub s before new o reconnect told failures told_now failures_now h
CarriesOut hub s before new o c told failures told_now failures_now h out =
    (told_now ≡ told) × (failures_now ≡ failures) × IsCarriedOut hub s before new o c out h

-- one more connection stands on the request's lane, without a token
abbrev pub OpensTo : {H Job : Type 0} → Hub Job → Setup → List Said → Server H Job → PendingRequest → List ServerEvent → Type 0
OpensTo hub s before new o h = Standing hub s settled before new (onto (request_plan s o None 0 h PlainSocket).first h)

-- the connection stands on the request's lane, and an older one is shut
abbrev pub StandsOver : {H Job : Type 0} → Hub Job → Setup → List Said → Server H Job → PendingRequest → ℕ → List ServerEvent → Type 0
StandsOver hub s before new o c h = Standing hub s settled before new (onto (request_plan s o None c h TokenSocket).first h)

-- the connection is deleted
abbrev pub Erases : {H Job : Type 0} → Hub Job → Setup → List Said → Server H Job → PendingRequest → ℕ → List ServerEvent → Type 0
Erases hub s before new o c h = Standing hub s settled before new (onto (request_plan s o None c h Deletion).first h)
