-- The count of steps is the one that the blank begins.
use Rattle.ht_machine.proofs.rooms.Rooms.round.Given as goal

abbrev pub ghosts-round_with : goal.ghosts-round_with
ghosts-round_with a = record { name = a.blank.name; parts = a.blank.parts }
