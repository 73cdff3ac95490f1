-- Names that differ, and that texts, numbers, options, codecs and URLs say one value each, and rows one user.
use Rattle.std.proofs.Common.{◌≡◌, ◌∙◌, ℕ, List, Option, ap, None, Some, option_map, true, false, codes, refl, subst, sym}
use Rattle.std.proofs.NetLemmas.Theorems.{IsIpText_unique}
use Rattle.std.specs.Str.{bytes_eq}
use Rattle.std.proofs.lemmas.Slice.Eq.{bytes_eq-Decides}
use Rattle.clap.specs.Words.{Row, Text}
use Rattle.std.specs.Str.Parse.{digits_value, without_leading_plus}
use Rattle.hd_delivery.specs.declared.vocabulary.Side.{Side}
use Rattle.hd_delivery.specs.declared.vocabulary.Side.TheVariants as end
use Rattle.hm_message.specs.declared.message.Codec.{Codec}
use Rattle.hm_message.specs.declared.message.Codec.TheVariants.{Json, Pack}
use Rattle.hn_dialing.specs.Addresses.{AddressesAreOne, IsAddress, IsSameAddress}
use Rattle.hub_server.specs.Resend.{ResendLimits}
use Rattle.hw_door.specs.declared.heard.Address.{Address}
use Rattle.sr_words.specs.declared.adding.Adding.{Adding}
use Rattle.sr_words.specs.declared.dialing.Dialing.{Dialing}
use Rattle.sr_words.specs.declared.serving.Serving.{Serving}
use Rattle.sr_words.specs.Clap.{IsNumber, SaysNumber}
use Rattle.sr_words.specs.Resends.{IsResend}
use Rattle.sr_words.specs.Lives.{IsLive}
use Rattle.sr_words.specs.Words.{IsCodec, IsGiven, SaysAdding, SaysAddress, SaysDialing, SaysServing, SaysSide, client_options, codec_name, serve_options, side_name}
use Rattle.sr_words.proofs.Options.{agree}

pub apart : (a b : Text) → bytes_eq a b ≡ false → a ≡ b → ⊥
apart a b differ same =
    let bad : true ≡ false = sym ((bytes_eq-Decides a b).1 same) ∙ differ in
    cc

inside : {a b : Text} → Some a ≡ Some b → a ≡ b
inside e = cc

pub same_codec : (a b : Codec) → Some (codec_name a) ≡ Some (codec_name b) → a ≡ b
same_codec Json Json e = refl
same_codec Json Pack e = absurd (apart (codes "json") (codes "pack") refl (inside e))
same_codec Pack Json e = absurd (apart (codes "pack") (codes "json") refl (inside e))
same_codec Pack Pack e = refl

-- a text names one codec
one_codec : (text : Text) (a b : Codec) → IsCodec text a → IsCodec text b → a ≡ b
one_codec text a b x y = same_codec a b (ap Some (sym x ∙ y))

-- a text that may be absent is one value
one_given : (text a b : Option Text) → IsGiven text a → IsGiven text b → a ≡ b
one_given text a b x y = x ∙ sym y

same_name : (a b : Side) → Some (side_name a) ≡ Some (side_name b) → a ≡ b
same_name end.Client end.Client e = refl
same_name end.Client end.Server e = absurd (apart (codes "client") (codes "server") refl (inside e))
same_name end.Server end.Client e = absurd (apart (codes "server") (codes "client") refl (inside e))
same_name end.Server end.Server e = refl

same_option : (a b : Option Side) → option_map side_name a ≡ option_map side_name b → a ≡ b
same_option None None e = refl
same_option None (Some b) e = cc
same_option (Some a) None e = cc
same_option (Some a) (Some b) e = ap Some (same_name a b e)

-- rows say one end, or none
pub same_side : (rows : List Row) (a b : Option Side) → SaysSide rows a → SaysSide rows b → a ≡ b
same_side rows a b x y = same_option a b (sym x ∙ y)

-- a text is one number
pub one_number : (bits : ℕ) (text : Text) (m n : ℕ) → IsNumber bits text m → IsNumber bits text n → m ≡ n
one_number bits text m n x y = sym x.value ∙ y.value

-- rows say one number of an argument
pub same_number : (id : Text) (rows : List Row) (m n : ℕ) → SaysNumber id m rows → SaysNumber id n rows → m ≡ n
same_number id rows m n x y =
    let same : x.0 ≡ y.0 = inside (sym x.1.0 ∙ y.1.0) in
    sym x.1.1.value ∙ ap (λ text. digits_value 10 (without_leading_plus text)) same ∙ y.1.1.value

-- two texts say one of how much is kept
same_resend : (texts : Text × Text) (a b : ResendLimits) → IsResend texts a → IsResend texts b → a ≡ b
same_resend texts a b x y =
    let count : a.count ≡ b.count = one_number 64 texts.0 a.count b.count x.count_is y.count_is in
    let bytes : a.bytes ≡ b.bytes = one_number 64 texts.1 a.bytes b.bytes x.bytes_are y.bytes_are in
    λ i. record { count = count i; bytes = bytes i }

-- a text says one of how many may live
same_live : (text : Text) (a b : ℕ) → IsLive text a → IsLive text b → a ≡ b
same_live text a b x y = one_number 64 text a b x.count_is y.count_is

-- rows ask for one server
pub same_serving : (rows : List Row) (a b : Serving) → SaysServing rows a → SaysServing rows b → a ≡ b
unfolding SaysServing
same_serving rows a b x y =
    let same = agree serve_options rows a b (
      λ rows. one_number 16 _,
      (λ rows s t is is_too. is.1 ∙ sym is_too.1, (λ rows. one_number 64 _, (λ rows. IsIpText_unique _, (λ rows. same_resend _, (λ rows. same_live _, (λ rows. one_given _, tt)))))),
    ) x y in
    λ i. record {
      port = same.0 i;
      base = same.1.0 i;
      turns = same.1.1.0 i;
      listen = same.1.1.1.0 i;
      resend = same.1.1.1.1.0 i;
      live = same.1.1.1.1.1.0 i;
      store = same.1.1.1.1.1.1.0 i;
    }

-- but for the token, rows say one address
same_address : AddressesAreOne → (rows : List Row) (a b : Address) → SaysAddress rows a → SaysAddress rows b → IsSameAddress a b
same_address one rows a b x y =
    let same : x.0 ≡ y.0 = inside (sym x.1.0 ∙ y.1.0) in
    one y.0 a b (subst (λ text. IsAddress text a) same x.1.1) y.1.1

-- rows ask for one client
pub same_dialing : AddressesAreOne → (rows : List Row) (a b : Dialing) → SaysDialing rows a → SaysDialing rows b → a ≡ b
unfolding SaysDialing
same_dialing one rows a b x y =
    let at = same_address one rows a.address b.address x.0 y.0 in
    let same = agree client_options rows a b (
      λ rows. one_codec _,
      (λ rows. one_given _, (λ rows. one_number 64 _, (λ rows. same_resend _, tt))),
    ) x.1 y.1 in
    λ i. record {
      address = record { host = at.0 i; port = at.1 i; base = at.2 i; token = same.1.0 i };
      codec = same.0 i;
      turns = same.1.1.0 i;
      resend = same.1.1.1.0 i;
    }

-- rows ask for one user
pub same_adding : (rows : List Row) (a b : Adding) → SaysAdding rows a → SaysAdding rows b → a ≡ b
same_adding rows a b x y =
    let token : a.token ≡ b.token = inside (sym x.0 ∙ y.0) in
    let name : a.name ≡ b.name = inside (sym x.1 ∙ y.1) in
    let store : a.store ≡ b.store = inside (sym x.2 ∙ y.2) in
    λ i. record { token = token i; name = name i; store = store i }
