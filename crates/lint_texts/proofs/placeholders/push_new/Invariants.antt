use Rattle.std.proofs.Common.{◌≡◌, ◌++◌, map, drop}
use Rattle.lint_findings.specs.Placeholders as p
use Rattle.lint_markup.specs.InCode.{AreNames, said, spotted_views, texts_in}
use Rattle.lint_texts.specs.InCode.{placeholder_view}
use Rattle.lint_texts.proofs.placeholders.push_new.Given as goal

-- those so far were added, and are known
abbrev pub invariant-loop-placeholder : goal.invariant-loop-placeholder
invariant-loop-placeholder l =
    AreNames l.known
    × (spotted_views l.found.items ++ map said (p.new_placeholders l.all (texts_in l.known) (map placeholder_view (drop l.placeholder-index l.mine)))
    ≡ spotted_views l.initial.found.items ++ map said (p.new_placeholders l.all (texts_in l.initial.known) (map placeholder_view l.mine)))
