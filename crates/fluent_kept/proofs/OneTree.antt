-- A JSON text is of one tree at most, so one text at most is written of it.
use Rattle.std.proofs.Common.{◌≡◌, sym, subst, ap, ◌∙◌, Some}
use Rattle.serde_json.specs.Data.{Data}
use Rattle.fluent_grammar.specs.Written.{written_with}
use Rattle.fluent_json_write.specs.Json.{HasValue}
use Rattle.fluent_json_write.proofs.Injective.{value_decides}
use Rattle.fluent_kept.specs.GivenTrees.{IsTreeOf, TextDecides, WritingDecides}

one_value : (x y : Data) → Some x ≡ Some y → x ≡ y
one_value x y same = cc

pub text_decides : TextDecides
text_decides json x y a b = let values : b.value ≡ a.value = one_value b.value a.value (sym b.read ∙ a.read) in
    value_decides x y a.value a.has_value (subst (HasValue y) values b.has_value)

pub writing_decides : WritingDecides
writing_decides json with_junk x y a b = a.is ∙ (ap (written_with with_junk) (text_decides json a.entries b.entries a.tree b.tree) ∙ sym b.is)
