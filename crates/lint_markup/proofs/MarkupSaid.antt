-- What is said of tags, by what the code looks at.
use Rattle.std.proofs.Common.{◌≡◌, ◌∙◌, true, false, if◌then◌else◌, List, [], ◌++◌, ap, sym}
use Rattle.std.specs.List.{flat_map}
use Rattle.fluent_grammar.specs.Words.{Text}
use Rattle.lint_nodes.specs.HasNames.{HasNames}
use Rattle.lint_nodes.specs.declared.name_set.Names.{Names}
use Rattle.lint_findings.specs.Doubts as d
use Rattle.lint_findings.specs.Markup as m
use Rattle.lint_findings.specs.Runs.{runs}
use Rattle.lint_findings.specs.Tags as t
use Rattle.lint_markup.specs.Beside.{of_elements, of_names, unbalanced_in}
use Rattle.lint_markup.specs.InCode.{AreRunsOf, es_of, os_of, texts_in, texts_of}
use Rattle.lint_markup.specs.declared.pair.Pair.{Pair}

-- ---- of elements

module _ (pair : Pair) (ts others : List t.Tag) (known : Names) (has : HasNames known (m.elements_of_tags others)) where
  abbrev missing : Text → List d.Spotted
  missing = m.if_missing ts (os_of pair) others

  abbrev unbalanced : Text → List d.Spotted
  unbalanced = m.unbalanced_beside (texts_of pair.runs.now) (texts_of pair.others.now)

  pub elements_unknown : m.has_unknown (texts_in known) ts ≡ true → of_elements pair ts others ≡ m.unknown_elements (texts_in known) [] ts
  elements_unknown e =
      ap (λ b. if b then m.unknown_elements (m.elements_of_tags others) [] ts else flat_map unbalanced (m.elements_of_tags others) ++ flat_map missing (m.elements_of_tags others))
      (ap (λ k. m.has_unknown k ts) (sym has.listed) ∙ e)
      ∙ ap (λ k. m.unknown_elements k [] ts) (sym has.listed)

  pub elements_known : m.has_unknown (texts_in known) ts ≡ false → of_elements pair ts others ≡ unbalanced_in pair known ++ flat_map missing (texts_in known)
  elements_known e =
      ap (λ b. if b then m.unknown_elements (m.elements_of_tags others) [] ts else flat_map unbalanced (m.elements_of_tags others) ++ flat_map missing (m.elements_of_tags others))
      (ap (λ k. m.has_unknown k ts) (sym has.listed) ∙ e)
      ∙ ap (λ k. flat_map unbalanced k ++ flat_map missing k) (sym has.listed)

-- ---- of names

pub names_said : (pair : Pair) (ts others : List t.Tag) (known names : Names) → HasNames known (m.names_of_tags others) → HasNames names (m.names_of_tags ts) →
    of_names pair ts others ≡ m.unknown_names (texts_in known) [] ts ++ m.missing_names (es_of pair) (os_of pair) (texts_in names) (texts_in known)
names_said pair ts others known names has mine =
    ap (λ k. m.unknown_names k [] ts ++ m.missing_names (es_of pair) (os_of pair) (m.names_of_tags ts) k) (sym has.listed)
    ∙ ap (λ n. m.unknown_names (texts_in known) [] ts ++ m.missing_names (es_of pair) (os_of pair) n (texts_in known)) (sym mine.listed)

-- ---- of both

pub both_of : (pair : Pair) (ts others : List t.Tag) → AreRunsOf pair → of_elements pair ts others ++ of_names pair ts others ≡ m.of_tags (es_of pair) (os_of pair) ts others
both_of pair ts others are =
    let known = m.elements_of_tags others in
    let said_of = λ (mine theirs : List Text).
    (if m.has_unknown known ts then m.unknown_elements known [] ts else flat_map (m.unbalanced_beside mine theirs) known ++ flat_map (m.if_missing ts (os_of pair) others) known)
    ++ of_names pair ts others in
    ap (λ mine. said_of mine (texts_of pair.others.now)) are.mine ∙ ap (said_of (runs (es_of pair))) are.theirs
