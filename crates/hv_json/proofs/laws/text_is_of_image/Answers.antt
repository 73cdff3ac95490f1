use Rattle.hv_json.proofs.Again.{image_text}
use Rattle.hv_json.proofs.laws.text_is_of_image.Goals as goal

pub returns : goal.returns
returns c = image_text
