use Rattle.nas_elements.specs.Parts.{write_content}
use Rattle.nas_elements.specs.PartLaws.{content_again}
use Rattle.nas_elements.specs.WritingLaws.{content_written}
use Rattle.nas_elements.proofs.laws.written_is_element.Goals as goal

pub returns : goal.returns
returns c = λ k v f. content_again k (write_content k v) v (content_written k v f)
