use Rattle.hv_value.specs.View.{trees_of}
use Rattle.hm_pack.proofs.reading.read_message.Given as goal

abbrev pub ghost-read_elements : goal.ghost-read_elements
ghost-read_elements a = trees_of a.array.now.items
