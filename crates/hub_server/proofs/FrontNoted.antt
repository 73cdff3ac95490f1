-- A front in which something more is noted stands for that, and as many connections may live as before.
use Rattle.std.proofs.Common.{◌≡◌, ℕ, true, List, ◌∷◌, ◌∙◌}
use Rattle.hd_server.specs.Lives.{ConnectionEvent, is_made}
use Rattle.hn_server_front.specs.declared.front.Front.{Front}
use Rattle.hn_server_front.specs.Calls.{IsNoted}
use Rattle.hub_server.specs.Servers.{StandsFront}

pub noted_front : (live : ℕ) (old new : Front) (c : ℕ) (note : ConnectionEvent) (n : List ConnectionEvent) → IsNoted old new c note → StandsFront live old n
    → is_made c n ≡ true → StandsFront live new (note ∷ n)
noted_front live old new c note n noted st made = record {
  stands = (noted n st.stands).0 made;
  limit = (noted n st.stands).2 ∙ st.limit;
}
