use Rattle.hm_json.proofs.Faults.{message_of_value, unknown_of_value, refused_of_value}
use Rattle.hm_json.proofs.reading.read_any.Goals as goal

pub returns-in-Map-clause-message : goal.returns-in-Map-clause-message
returns-in-Map-clause-message c =
    message_of_value c.args.frame.now _ (rw c.in-Map.is at c.in_ok-value.ensures.ok) c.said.result c.said.ensures.message

pub returns-in-Map-clause-unknown : goal.returns-in-Map-clause-unknown
returns-in-Map-clause-unknown c =
    unknown_of_value c.args.frame.now _ (rw c.in-Map.is at c.in_ok-value.ensures.ok) c.said.result c.said.ensures.unknown

pub returns-in-Map-clause-refused : goal.returns-in-Map-clause-refused
returns-in-Map-clause-refused c =
    refused_of_value c.args.frame.now _ (rw c.in-Map.is at c.in_ok-value.ensures.ok) c.said.result c.said.ensures.refused
