use Rattle.std.proofs.Common.{◌≡◌, ◌∙◌, ℕ, List, [], map, refl, sym, ap, subst}
use Rattle.std.specs.Prelude.{IfOk}
use Rattle.std.specs.Str.{IsCharBoundary}
use Rattle.std.proofs.lemmas.List.{nil_from_length}
use Rattle.std.proofs.lemmas.List.Elements.{All-same}
use Rattle.fluent_grammar.specs.Tiling.{errors}
use Rattle.fluent_tokens.proofs.Scanned.{test_of}
use Rattle.fluent_parsed.specs.ErrorView.{error_told, error_view}
use Rattle.fluent_parser.specs.Refusals.{refusal_view, refusals_from}
use Rattle.fluent_parser.specs.declared.refusals.Refusal.{Refusal}
use Rattle.lint_findings.specs.View.{finding_view}
use Rattle.lint_findings.specs.Finding.{Finding}
use Rattle.lint_findings.specs.SyntaxFindings.{syntax_findings}
use Rattle.lint_findings.specs.Tiles.{tiles}
use Rattle.lint_files.specs.SourceFindings.{starts_of, finding_of}
use Rattle.lint_files.proofs.JunkTiles.{junk_is_found, starts_are_between}
use Rattle.lint_files.proofs.findings.syntax_findings.Goals as goal

pub returns-then-is_empty : goal.returns-then-is_empty
returns-then-is_empty c =
    let source = c.args.source.now in
    let empty : c.args.errors.now ≡ [] = nil_from_length c.args.errors.now (test_of _ 0 (sym c.is_empty.ensures ∙ c.if-is_empty.true)) in
    let none = ap (map error_view) (sym empty) ∙ c.requires in
    ap (map finding_view) c.new.ensures.items
    ∙ ap (λ l. map (finding_of source) (refusals_from source (starts_of l))) none
    ∙ junk_is_found source

pub refusals_at-requires : goal.refusals_at-requires
refusals_at-requires c κs =
    let source = c.args.source.now in
    let starts : c.deref.result.now ≡ starts_of (map error_told (errors source)) = c.deref.ensures.value ∙ c.in_ok-starts.ensures ∙ ap starts_of c.requires in
    ((refl, tt), All-same (IsCharBoundary source) c.deref.result.now _ starts (starts_are_between source c.utf8.source))

pub returns : goal.returns
returns c =
    let source = c.args.source.now in
    let starts : c.deref.result.now ≡ starts_of (map error_told (errors source)) = c.deref.ensures.value ∙ c.in_ok-starts.ensures ∙ ap starts_of c.requires in
    let all : map (finding_of source) (map (refusal_view source) c.deref-2.result.now) ≡ syntax_findings (tiles source) =
    ap (λ (rs : List Refusal). map (finding_of source) (map (refusal_view source) rs)) c.deref-2.ensures.value
    ∙ ap (map (finding_of source)) c.in_ok-refusals.ensures.refusals
    ∙ ap (λ (l : List ℕ). map (finding_of source) (refusals_from source l)) starts
    ∙ junk_is_found source in
    subst (λ (fs : List Finding). IfOk c.findings_of.result (λ found. map finding_view found.items ≡ fs)) all c.findings_of.ensures
