-- The count of steps is the one that the blank begins.
use Rattle.hub_server.proofs.server.Server.turn.Given as goal

abbrev pub ghosts-round : goal.ghosts-round
ghosts-round g a = record { name = a.blank.name; parts = a.blank.parts }
