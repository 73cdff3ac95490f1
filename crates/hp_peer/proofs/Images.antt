-- What the other end reads of a message: it is as deep as the message, and it is the message of what is heard.
use Rattle.std.proofs.Common.{◌≡◌, ◌≤◌, ℕ, List, [], ◌∷◌, Option, Some, None, refl, sym, ◌∙◌, subst}
use Rattle.hv_value.specs.Tree.{Tree}
use Rattle.hv_value.specs.declared.value.Value.{Value}
use Rattle.hm_message.specs.declared.message.Codec.{Codec}
use Rattle.hm_message.specs.declared.message.Codec.TheVariants.{Json, Pack}
use Rattle.hm_message.specs.declared.message.Message.{Message}
use Rattle.hm_message.specs.declared.message.Message.TheVariants.{CancelInvocation}
use Rattle.hm_message.specs.Laws.{ImageIsAsDeep}
use Rattle.hm_message.specs.Message.{Fits, content_depth}
use Rattle.hm_codec.specs.Frames.{said_again}
use Rattle.hd_calls.specs.declared.vocabulary.CallKind.{CallKind}
use Rattle.hd_calls.specs.declared.vocabulary.CallKind.TheVariants as kind
use Rattle.hd_calls.specs.Hubs.{Item, End, arguments_in, value_in, message_of, answer_message}
use Rattle.hi_calls.specs.Numbering.{call_numbered}
use Rattle.hi_calls.specs.Calls.{upload_ending}

-- ---- what is read is as deep as what is said

content_depth-said_again : ImageIsAsDeep → (codec : Codec) (m : Message) → content_depth (said_again codec m) ≡ content_depth m
content_depth-said_again law Json m = law m
content_depth-said_again law Pack m = refl

-- a message fits exactly if it fits as the other end reads it
pub fits_again : ImageIsAsDeep → (codec : Codec) (m read : Message) → said_again codec m ≡ read → Fits m → Fits read
fits_again law codec m read is fits = subst Fits is (subst (λ n. n ≤ 63) (sym (content_depth-said_again law codec m)) fits)

pub fits_before : ImageIsAsDeep → (codec : Codec) (m read : Message) → said_again codec m ≡ read → Fits read → Fits m
fits_before law codec m read is fits = subst (λ n. n ≤ 63) (content_depth-said_again law codec m) (subst Fits (sym is) fits)

-- ---- what is heard

pub call_again : (codec : Codec) (prefix : List ℕ) (n : ℕ) (k : CallKind) (target : List ℕ) (arguments : List Tree) (uploads : ℕ)
    → said_again codec (message_of (call_numbered prefix n k target arguments uploads))
    ≡ message_of (call_numbered prefix n k target (arguments_in codec arguments) uploads)
call_again Json prefix n kind.Notify target arguments uploads = refl
call_again Json prefix n kind.Call target arguments uploads = refl
call_again Json prefix n kind.Stream target arguments uploads = refl
call_again Pack prefix n k target arguments uploads = refl

pub item_again : (codec : Codec) (i : List ℕ) (v : Value) → said_again codec (answer_message i (Item v)) ≡ answer_message i (Item (value_in codec v))
item_again Json i v = refl
item_again Pack i v = refl

-- the end of an upload has no bytes
pub end_again : (codec : Codec) (i : List ℕ) (error : Option (List ℕ))
    → said_again codec (answer_message i (End (upload_ending error))) ≡ answer_message i (End (upload_ending error))
end_again Json i None = refl
end_again Json i (Some text) = refl
end_again Pack i error = refl

pub cancel_again : (codec : Codec) (i : List ℕ) → said_again codec (CancelInvocation [] i) ≡ CancelInvocation [] i
cancel_again Json i = refl
cancel_again Pack i = refl
