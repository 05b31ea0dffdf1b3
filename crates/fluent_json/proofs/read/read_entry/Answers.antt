use Rattle.fluent_json.proofs.NoTree.{no_entry}
use Rattle.fluent_json.proofs.read.read_entry.Goals as goal

pub returns-clause-shape : goal.returns-clause-shape
returns-clause-shape c = λ _.
    no_entry _ c.in_default.ensures.none c.in_default-term.ensures.none c.in_default-comment.ensures.none c.in_default-group_comment.ensures.none c.in_default-resource_comment.ensures.none c.in_default-junk.ensures.none
