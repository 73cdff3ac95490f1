use Rattle.sr_peers.proofs.Saying.{lent_apart, lent_stays, written_last}
use Rattle.sr_peers.proofs.laws.what_is_lent_goes_on.Goals as goal

pub returns : goal.returns
returns c = record {
  apart = lent_apart;
  stays = λ t l h. lent_stays c.lent_stays.ensures t l h;
  written = written_last c.lent_comes_last.ensures;
}
