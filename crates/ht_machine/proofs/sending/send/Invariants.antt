-- The count of steps is the one that the blank begins.
use Rattle.ht_machine.proofs.sending.send.Given as goal

abbrev pub ghosts-send_first : goal.ghosts-send_first
ghosts-send_first a = record { name = a.blank.name; parts = a.blank.parts }
