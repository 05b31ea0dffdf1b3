-- The findings of files are added one after the other.
use Rattle.std.proofs.Common.{◌≡◌, ◌∙◌, ℕ, ◌+◌, ◌<◌, List, [], ◌∷◌, ◌++◌, Option, length, drop, take, get_or, map, refl, sym, ap, append-nil, append_assoc, add-one, drop-cons}
use Rattle.std.proofs.lemmas.List.{map-append, take_more}
use Rattle.std.proofs.lemmas.List.Concat.{flat_map-append}
use Rattle.lint_files.specs.PartFindings.{declared_in, findings_of_file}
use Rattle.lint_findings.specs.View.{file_findings_view, file_view, finding_view, findings_view}
use Rattle.lint_findings.specs.declared.records.File.{File}
use Rattle.lint_findings.specs.declared.records.FileFindings.{FileFindings}
use Rattle.lint_findings.specs.DuplicateIds.{Declaration}
use Rattle.lint_findings.specs.Findings.{FileFinding, Rules, findings_in}
use Rattle.fluent_lint.specs.FileTiles.{files_of, files_view}
use Rattle.fluent_lint.specs.Found.{found_by_file, found_by_files}
use Rattle.fluent_lint.specs.Pairs.{by_place}
use Rattle.fluent_lint.specs.Silence.{heard_if}
use Rattle.fluent_lint.specs.declared.looked.Looked.{Looked}
use Rattle.fluent_lint.specs.declared.tiles.FileTiles.{FileTiles}

pub next_file : (files : List FileTiles) (i : ℕ) (item : FileTiles) → i < length files → item ≡ get_or files i item →
    files_view (files_of (drop i files)) ≡ file_view item.file ∷ files_view (files_of (drop (i + 1) files))
next_file files i item inside is = ap (λ l. files_view (files_of l)) (drop-cons files i item inside) ∙ rw (← is, add-one) refl

pub found_more : (old : List FileFindings) (one : FileFindings) → findings_view (old ++ one ∷ []) ≡ findings_view old ++ file_findings_view one
found_more old one = flat_map-append file_findings_view old (one ∷ []) ∙ ap (λ l. findings_view old ++ l) (append-nil (file_findings_view one))

-- one more file
pub one_found : (rules : Rules) (looked : Option Looked) (files : List FileTiles) (i : ℕ) (item : FileTiles) (old new : List FileFindings) (one : FileFindings) (before : List Declaration) {all : List FileFinding} →
    i < length files → item ≡ get_or files i item → new ≡ old ++ one ∷ [] → one.file ≡ item.file →
    map finding_view one.findings.items ≡ heard_if looked (file_view item.file).source (by_place (findings_of_file rules before (file_view item.file))) →
    findings_view old ++ found_by_files rules looked before (files_view (files_of (drop i files))) ≡ all →
    findings_view new ++ found_by_files rules looked (before ++ declared_in (file_view item.file)) (files_view (files_of (drop (i + 1) files))) ≡ all
one_found rules looked files i item old new one before inside is pushed file found so_far =
    let later = found_by_files rules looked (before ++ declared_in (file_view item.file)) (files_view (files_of (drop (i + 1) files))) in
    let here = found_by_file rules looked before (file_view item.file) in
    let viewed : file_findings_view one ≡ here = ap (λ f. findings_in (file_view f) (map finding_view one.findings.items)) file ∙ ap (findings_in (file_view item.file)) found in
    ap (λ l. findings_view l ++ later) pushed
    ∙ ap (λ l. l ++ later) (found_more old one ∙ ap (λ l. findings_view old ++ l) viewed)
    ∙ append_assoc (findings_view old) here later
    ∙ ap (λ l. findings_view old ++ found_by_files rules looked before l) (sym (next_file files i item inside is))
    ∙ so_far

-- the tiles of one more file
pub one_tiled : (old new : List FileTiles) (one : FileTiles) (files : List File) (i : ℕ) (d : File) → i < length files → new ≡ old ++ one ∷ [] →
    one.file ≡ get_or files i d → files_of old ≡ take i files → files_of new ≡ take (i + 1) files
one_tiled old new one files i d inside pushed is before =
    ap files_of pushed
    ∙ map-append (λ (t : FileTiles). t.file) old (one ∷ [])
    ∙ ap (λ l. l ++ one.file ∷ []) before
    ∙ ap (λ x. take i files ++ x ∷ []) is
    ∙ sym (take_more files i d inside)
