-- How the logic stores what is left of a job.
use Rattle.std.specs.Prelude.{◌≡◌, ◌⊎◌, ℕ, List, refl}
use Rattle.std.proofs.Common.{inl, inr}
use Rattle.std.specs.Coded.{Coded, code_by, coded×, coded⊎, coded_list, coded_ℕ}
use Rattle.hd_calls.specs.declared.vocabulary.Deed.{Deed}
use Rattle.hd_calls.specs.contracts.vocabulary.Deed as deed
use Rattle.hd_rooms.specs.declared.vocabulary.RoomsMethod.{RoomsMethod}
use Rattle.hd_rooms.specs.contracts.vocabulary.RoomsMethod as method
use Rattle.hd_rooms.specs.Rooms.{Job, Refused, Doing}

abbrev Parts : Type 0
Parts = List ℕ ⊎ (RoomsMethod × List Deed)

abbrev parts_of : Job → Parts
parts_of (Refused error) = inl error
parts_of (Doing method deeds) = inr (method, deeds)

abbrev job_with : Parts → Job
job_with (inl error) = Refused error
job_with (inr p) = Doing p.0 p.1

pub same_job : (job : Job) → job_with (parts_of job) ≡ job
same_job (Refused error) = refl
same_job (Doing method deeds) = refl

abbrev pub job_code : Coded Job
job_code =
    code_by Parts (coded⊎ (coded_list coded_ℕ) (coded× method.the_row.coded (coded_list deed.the_row.coded))) parts_of job_with same_job
