-- What is found of tiles, one after the other.
use Rattle.std.proofs.Common.{◌≡◌, ◌∙◌, ℕ, ◌+◌, ◌<◌, List, [], ◌∷◌, ◌++◌, length, take, get_or, map, Vec, refl, sym, ap, append-nil, append_assoc}
use Rattle.std.specs.Global.{Global}
use Rattle.std.proofs.lemmas.List.{map-append, take_more}
use Rattle.lint_findings.specs.View.{file_view, finding_view}
use Rattle.lint_findings.specs.declared.records.Finding as code
use Rattle.lint_findings.specs.DuplicateIds.{Declaration}
use Rattle.lint_findings.specs.Files.{File}
use Rattle.lint_findings.specs.Finding.{Finding}
use Rattle.lint_findings.specs.Findings.{Rules}
use Rattle.lint_entries.specs.Kept.{Part, junk_part}
use Rattle.lint_entries.specs.TileView.{tile_view}
use Rattle.lint_entries.specs.declared.tile.Tile.{Tile}
use Rattle.lint_files.specs.PartFindings.{declared_by, declared_by_parts, findings_of_parts}
use Rattle.lint_files.specs.Pushes.{AddsSyntax, found_from, syntax_left}
use Rattle.lint_files.specs.declared.cursor.Cursor.{Cursor}

-- the syntax finding of junk is the next one
pub junk_added : (rules : Rules) (old new : Cursor) (had has : Vec code.Finding Global) (before : List Declaration) → AddsSyntax old new had has →
    (ps : List Part) → map finding_view has.items ++ found_from rules new (before ++ []) ps ≡ map finding_view had.items ++ found_from rules old before (junk_part ∷ ps)
junk_added rules old new had has before added ps = by_left (syntax_left old) refl
  where
    file : File
    file = file_view old.file

    from : List Finding → List Finding
    from fs = findings_of_parts rules file before fs ps

    same : (left : List Finding) → syntax_left new ≡ left → found_from rules new (before ++ []) ps ≡ from left
    same left e =
        ap (λ b. found_from rules new b ps) (append-nil before)
        ∙ ap (λ f. findings_of_parts rules (file_view f) before (syntax_left new) ps) added.file
        ∙ ap from e

    by_left : (left : List Finding) → syntax_left old ≡ left →
        map finding_view has.items ++ found_from rules new (before ++ []) ps ≡ map finding_view had.items ++ findings_of_parts rules file before (syntax_left old) (junk_part ∷ ps)
    by_left [] e =
        let n = added.none e in
        ap (λ l. map finding_view has.items ++ l) (same [] n.0)
        ∙ ap (λ l. l ++ from []) (n.1 ∙ append-nil (map finding_view had.items))
        ∙ sym (ap (λ l. map finding_view had.items ++ findings_of_parts rules file before l (junk_part ∷ ps)) e)
    by_left (f ∷ fs) e =
        let o = added.one f fs e in
        ap (λ l. map finding_view has.items ++ l) (same fs o.0)
        ∙ ap (λ l. l ++ from fs) o.1
        ∙ append_assoc (map finding_view had.items) (f ∷ []) (from fs)
        ∙ sym (ap (λ l. map finding_view had.items ++ findings_of_parts rules file before l (junk_part ∷ ps)) e)

declared_more : (file : File) (ps : List Part) (p : Part) → declared_by_parts file (ps ++ p ∷ []) ≡ declared_by_parts file ps ++ declared_by file p
declared_more file [] p = append-nil (declared_by file p)
declared_more file (q ∷ ps) p =
    ap (λ l. declared_by file q ++ l) (declared_more file ps p)
    ∙ sym (append_assoc (declared_by file q) (declared_by_parts file ps) (declared_by file p))

-- the declarations of one more tile
pub one_declared : (file : File) (tiles : List Tile) (i : ℕ) (d : Tile) (before : List Declaration) → i < length tiles →
    (before ++ declared_by_parts file (map tile_view (take i tiles))) ++ declared_by file (tile_view (get_or tiles i d))
    ≡ before ++ declared_by_parts file (map tile_view (take (i + 1) tiles))
one_declared file tiles i d before inside =
    let p = tile_view (get_or tiles i d) in
    let shown = map tile_view (take i tiles) in
    append_assoc before (declared_by_parts file shown) (declared_by file p)
    ∙ ap (λ l. before ++ l) (sym (ap (λ l. declared_by_parts file (map tile_view l)) (take_more tiles i d inside)
    ∙ ap (declared_by_parts file) (map-append tile_view (take i tiles) (get_or tiles i d ∷ []))
    ∙ declared_more file shown p))
