use Rattle.std.proofs.Common.{◌≡◌, ◌++◌, List, [], map, drop}
use Rattle.fluent_grammar.specs.Words.{Text}
use Rattle.lint_nodes.specs.HasNames.{HasNames}
use Rattle.lint_findings.specs.Markup as m
use Rattle.lint_markup.specs.InCode.{said, spotted_views, tags_of, texts_in}
use Rattle.lint_markup.proofs.unknown.push_unknown_names.Given as goal

-- those of the tags so far were added, and are the ones that were seen
abbrev pub invariant-loop-tag : goal.invariant-loop-tag
invariant-loop-tag l =
    (seen : List Text) × HasNames l.seen seen
    × (spotted_views l.found.items ++ map said (m.unknown_names (texts_in l.known) seen (tags_of (drop l.tag-index l.tags)))
    ≡ spotted_views l.initial.found.items ++ map said (m.unknown_names (texts_in l.known) [] (tags_of l.tags)))
