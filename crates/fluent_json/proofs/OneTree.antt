-- A value that was read as a tree has no other tree.
use Rattle.std.proofs.Common.{◌≡◌, List, Result, Ok, Err, String, Global}
use Rattle.std.specs.Prelude.{IfOk}
use Rattle.serde_json.specs.Data.{Data}
use Rattle.fluent_grammar.specs.Tree.{Entry}
use Rattle.fluent_ast.specs.declared.Resource.{Resource}
use Rattle.fluent_json.specs.declared.error.FromValueError.{FromValueError}
use Rattle.fluent_json_write.specs.Json.{HasValue}
use Rattle.fluent_json_write.specs.Parts.{plain}
use Rattle.fluent_json_write.proofs.Injective.{value_decides}

pub is_that_tree : (r : Result (Resource (String Global)) FromValueError) (d : Data) → IfOk r (λ x. HasValue (plain x) d) → (tree : List Entry) → HasValue tree d → IfOk r (λ x. plain x ≡ tree)
is_that_tree (Ok x) d same tree has = value_decides (plain x) tree d same has
is_that_tree (Err e) d same tree has = tt
