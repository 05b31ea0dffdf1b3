-- Files whose messages are counted, and the missing messages of files, one file after the other.
use Rattle.std.proofs.Common.{◌≡◌, ◌∙◌, ℕ, ◌+◌, ◌<◌, List, [], ◌∷◌, ◌++◌, length, take, get_or, map, count_by, refl, sym, ap, arith}
use Rattle.std.proofs.lemmas.List.{map-append, take_more}
use Rattle.std.proofs.lemmas.List.Sums.{sum_by-append}
use Rattle.std.specs.List.{sum_by}
use Rattle.lint_findings.specs.View.{file_view}
use Rattle.lint_findings.specs.Files.{File}
use Rattle.lint_findings.specs.Summary.{entry_count, has_id}
use Rattle.lint_findings.specs.Tiles.{tiles}
use Rattle.lint_report.specs.Counted as counted
use Rattle.lint_report.specs.declared.files.FileMessages.{FileMessages}
use Rattle.fluent_lint.specs.FileTiles.{files_of, files_view}
use Rattle.fluent_lint.specs.declared.tiles.FileTiles.{FileTiles}

-- the file of these tiles
abbrev pub view_of : FileTiles → File
view_of tiled = file_view tiled.file

pub all_viewed : (tiled : List FileTiles) → map view_of tiled ≡ files_view (files_of tiled)
all_viewed [] = refl
all_viewed (t ∷ ts) = ap (λ files. view_of t ∷ files) (all_viewed ts)

-- one more file is counted
pub one_counted : (tiled : List FileTiles) (i : ℕ) (item : FileTiles) → i < length tiled → item ≡ get_or tiled i item → (old new : List FileMessages) (one : FileMessages) →
    new ≡ old ++ one ∷ [] → one.file ≡ item.file → counted.files_of old ≡ map view_of (take i tiled) → counted.files_of new ≡ map view_of (take (i + 1) tiled)
one_counted tiled i item inside is old new one pushed same before =
    ap counted.files_of pushed
    ∙ map-append (λ (m : FileMessages). file_view m.file) old (one ∷ [])
    ∙ ap (λ files. files ++ file_view one.file ∷ []) before
    ∙ ap (λ file. map view_of (take i tiled) ++ file_view file ∷ []) same
    ∙ sym (ap (map view_of) (take_more tiled i item inside ∙ ap (λ t. take i tiled ++ t ∷ []) (sym is))
    ∙ map-append view_of (take i tiled) (item ∷ []))

-- the entries of one more file are counted
pub entries_more : (tiled : List FileTiles) (i : ℕ) (item : FileTiles) → i < length tiled → item ≡ get_or tiled i item → (before count after : ℕ) →
    count ≡ count_by has_id (tiles item.file.source.now) → before ≡ entry_count (map view_of (take i tiled)) → after ≡ before + count →
    after ≡ entry_count (map view_of (take (i + 1) tiled))
entries_more tiled i item inside is before count after count_is before_is after_is =
    let old = map view_of (take i tiled) in
    let entries_in : File → ℕ = λ file. count_by has_id (tiles file.source) in
    let one : sum_by entries_in (view_of item ∷ []) ≡ entries_in (view_of item) = omega arith in
    after_is
    ∙ ap (λ n. n + count) before_is
    ∙ ap (λ n. entry_count old + n) count_is
    ∙ sym (sum_by-append entries_in old (view_of item ∷ []) ∙ ap (λ n. entry_count old + n) one)
    ∙ sym (ap entry_count (ap (map view_of) (take_more tiled i item inside ∙ ap (λ t. take i tiled ++ t ∷ []) (sym is)) ∙ map-append view_of (take i tiled) (item ∷ [])))
