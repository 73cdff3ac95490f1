-- A body in its pieces.
use Rattle.std.proofs.Common.{◌≡◌, ℕ, Bool, List, [], ◌++◌, codes}
use Rattle.std.specs.Fmt.{decimal}
use Rattle.std.proofs.lemmas.List.{append-nil, append_assoc}
use Rattle.hd_server.specs.Texts.{reconnect_text}
use Rattle.hn_server_front.specs.Bodies.{body_for}
use Rattle.hn_server_front.specs.declared.bodies.Transports.{Transports}
use Rattle.hn_server_front.specs.declared.bodies.Transports.TheVariants.{All, Sockets}

-- what the body begins with
abbrev pub front_of : Transports → List ℕ
front_of All =
    codes "{\"availableTransports\":[{\"transferFormats\":[\"Text\",\"Binary\"],\"transport\":\"WebSockets\"},"
    ++ codes "{\"transferFormats\":[\"Text\",\"Binary\"],\"transport\":\"LongPolling\"}],\"connectionId\":\""
front_of Sockets = codes "{\"availableTransports\":[{\"transferFormats\":[\"Text\",\"Binary\"],\"transport\":\"WebSockets\"}],\"connectionId\":\""

-- what comes before the token, and after it
abbrev pub before_token : List ℕ
before_token = codes "\",\"connectionToken\":\""

abbrev pub after_token : List ℕ
after_token = codes "\",\"negotiateVersion\":1"

abbrev pub pieces_of : List ℕ → List ℕ → List ℕ → List ℕ → List ℕ
pieces_of front number token end =
    front ++ (number ++ (before_token ++ (token ++ (after_token ++ (end ++ [])))))

regrouped : (a b c d e f : List ℕ) → a ++ (b ++ (c ++ (d ++ (e ++ (f ++ []))))) ≡ a ++ b ++ c ++ d ++ e ++ f
regrouped a b c d e f = simp (append_assoc, append-nil)

pub body_for-pieces : (transports : Transports) (conn : ℕ) (token : List ℕ) (reconnect : Bool) (front number end : List ℕ)
    → front ≡ front_of transports → number ≡ decimal conn → end ≡ reconnect_text reconnect
    → pieces_of front number token end ≡ body_for transports conn token reconnect
body_for-pieces All conn token reconnect front number end e f g =
    rw (e, f, g) (regrouped (front_of All) (decimal conn) before_token token after_token (reconnect_text reconnect))
body_for-pieces Sockets conn token reconnect front number end e f g =
    rw (e, f, g) (regrouped (front_of Sockets) (decimal conn) before_token token after_token (reconnect_text reconnect))
