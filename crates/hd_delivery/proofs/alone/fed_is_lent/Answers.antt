use Rattle.hd_delivery.proofs.FedIsLent.{fed_is_lent}
use Rattle.hd_delivery.proofs.alone.fed_is_lent.Goals as goal

pub returns : goal.returns
returns c limits wire t w side l = fed_is_lent c.lent_comes_last.ensures c.lent_stays.ensures c.fed_is_unseen.ensures c.worlds_are_histories.ensures limits wire t w side l
