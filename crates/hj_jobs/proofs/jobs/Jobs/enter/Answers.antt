use Rattle.std.proofs.Common.{refl, ◌∙◌}
use Rattle.std.specs.Prelude.{◌==◌}
use Rattle.hv_value.specs.SortedSet.{is_in}
use Rattle.hj_jobs.proofs.Accepting.{or_if}
use Rattle.hj_jobs.proofs.jobs.Jobs.enter.Goals as goal

pub returns : goal.returns
returns g c = record {
  entry = c.begin.result;
  begins = c.begin.ensures;
  live = c.insert.ensures;
  due = record {
    at = λ rising place k. c.add.ensures.added rising (place refl) k ∙ or_if (k == c.args.number) (is_in k c.args.self.now.due.numbers.items);
    rising = c.add.ensures.rising;
    capacity = c.add.ensures.capacity;
  };
  names = refl;
  accepted = refl;
  passed = refl;
  prepared = refl;
}
