-- The notes on a text, by whether it is blank.
use Rattle.std.proofs.Common.{◌≡◌, ◌∙◌, true, false, if◌then◌else◌, List, ◌++◌, ap, sym}
use Rattle.fluent_grammar.specs.Tree.{Elements}
use Rattle.fluent_grammar.specs.Words.{Text}
use Rattle.lint_findings.specs.Edges.{edge_spaces, final_signs}
use Rattle.lint_findings.specs.Lengths.{empty_beside, is_blank, long_beside}
use Rattle.lint_findings.specs.Pairs.{doubts, text_doubts}
use Rattle.lint_findings.specs.Runs.{own_text, runs}

pub blank_doubts : (es os : Elements) → is_blank (own_text es) ≡ true → doubts es os ≡ empty_beside es os
blank_doubts es os h =
    ap (λ b. if b then empty_beside es os else empty_beside es os ++ (text_doubts (runs es) (runs os) ++ (edge_spaces es os ++ (final_signs es os ++ long_beside es os)))) h

pub other_doubts : (es os : Elements) (texts others : List Text) → is_blank (own_text es) ≡ false → texts ≡ runs es → others ≡ runs os →
    empty_beside es os ++ (text_doubts texts others ++ (edge_spaces es os ++ (final_signs es os ++ long_beside es os))) ≡ doubts es os
other_doubts es os texts others h mine theirs =
    ap (λ z. empty_beside es os ++ (text_doubts z others ++ (edge_spaces es os ++ (final_signs es os ++ long_beside es os)))) mine
    ∙ ap (λ z. empty_beside es os ++ (text_doubts (runs es) z ++ (edge_spaces es os ++ (final_signs es os ++ long_beside es os)))) theirs
    ∙ sym (ap (λ b. if b then empty_beside es os else empty_beside es os ++ (text_doubts (runs es) (runs os) ++ (edge_spaces es os ++ (final_signs es os ++ long_beside es os)))) h)
