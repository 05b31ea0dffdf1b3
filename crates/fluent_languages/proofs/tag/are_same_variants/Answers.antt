use Rattle.std.proofs.Common.{arith}
use Rattle.fluent_languages.proofs.Folded.{same_variants}
use Rattle.fluent_languages.proofs.Splitting.{none_are_not_some}
use Rattle.fluent_languages.proofs.tag.are_same_variants.Goals as goal

pub returns-in-len1-up-b : goal.returns-in-len1-up-b
returns-in-len1-up-b c = none_are_not_some _ _ c.in-empty.len_below c.in-len1-up-b.len_at_least

pub returns-in-len1-up-b-2 : goal.returns-in-len1-up-b-2
returns-in-len1-up-b-2 c =
    same_variants _ c.args.a.now c.args.b.now _ _ c.are_same_folded.ensures c.in-len1-up.len_at_least c.in-len1-up-b-2.len_at_least (omega arith) (omega arith)
