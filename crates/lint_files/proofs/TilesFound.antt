-- The findings of tiles are those of the messages, the terms and the junk among them.
use Rattle.std.proofs.Common.{◌≡◌, ◌∙◌, ℕ, zero, suc, ◌+◌, ◌-◌, Bool, true, false, if◌then◌else◌, List, [], ◌∷◌, ◌++◌, length, drop, map, refl, sym, ap, append-nil, append_assoc, arith}
use Rattle.std.specs.Prelude.{◌==◌}
use Rattle.std.specs.List.{flat_map}
use Rattle.std.proofs.lemmas.List.{map-append}
use Rattle.fluent_grammar.proofs.TilesJunk.{entry_is_shorter, place-end, resume-end}
use Rattle.fluent_grammar.proofs.Within.{end-blank_block, end-same, entry-fair}
use Rattle.fluent_grammar.specs.Reading.{entry_at}
use Rattle.fluent_grammar.specs.Refusal.{Reading, got, refused}
use Rattle.fluent_grammar.specs.Tiling.{behind_junk}
use Rattle.fluent_grammar.specs.Tree as t
use Rattle.fluent_grammar.specs.Words.{Text, skip_blank_block}
use Rattle.lint_findings.specs.DuplicateIds.{Declaration, declarations, id_of}
use Rattle.lint_findings.specs.Files.{File}
use Rattle.lint_findings.specs.Finding.{Finding}
use Rattle.lint_findings.specs.Findings.{FileTile, Rules, declarations_of_tile, findings_in, findings_of_entry, findings_of_tiles, tiles_in}
use Rattle.lint_findings.specs.SyntaxFindings.{syntax_finding, syntax_findings}
use Rattle.lint_findings.specs.Tiles.{Tile, entry_tile, junk_tile, tiles, and_tiles, tiles_from}
use Rattle.lint_entries.specs.Kept.{kept_tiles, part_of_tile, parts}
use Rattle.lint_entries.proofs.Ahead.{later, offset_is}
use Rattle.lint_files.specs.PartFindings.{declared_by_parts, declared_in, findings_of_files, findings_of_parts, offset_in}

-- ---- where tiles are

-- each entry is at its offset
abbrev ArePlaced : File → List Tile → Type 0
ArePlaced file [] = Unit {0}
ArePlaced file (entry_tile at s e ∷ ts) = (at ≡ offset_in file s) × ArePlaced file ts
ArePlaced file (junk_tile at s refusal ∷ ts) = ArePlaced file ts

module _ (file : File) (leave : ℕ → Text → List Tile) (go : (at : ℕ) (s : Text) → s ≡ drop at file.source → ArePlaced file (leave at s)) where
  read : (at : ℕ) (s : Text) (x : Reading t.Entry) → entry_at s ≡ x → s ≡ drop at file.source → ArePlaced file (and_tiles leave at s x)
  read at s (got e rest) h there =
      (offset_is file.source s at there (omega (arith, entry_is_shorter s e rest h)), go _ rest (later file.source s rest at there (rw h at (entry-fair (end-same s))).parts))
  read at s (refused refusal) h there = go _ _ (later file.source s (behind_junk s refusal.at) at there (resume-end _ _ (place-end s refusal h)))

branch : (file : File) (b : Bool) (ts : List Tile) → ArePlaced file ts → ArePlaced file (if b then [] else ts)
branch file true ts h = tt
branch file false ts h = h

are_placed : (file : File) (n at : ℕ) (s : Text) → s ≡ drop at file.source → ArePlaced file (tiles_from n at s)
unfolding tiles_from
are_placed file zero at s there = tt
are_placed file (suc n) at s there =
    let u = skip_blank_block s in
    branch file (length u == 0) _ (read file (tiles_from n) (are_placed file n) (at + (length s - length u)) u (entry_at u) refl (later file.source s u at there (end-blank_block (end-same s))))

-- ---- what is found

module _ (rules : Rules) (file : File) where
  abbrev here : List Tile → List FileTile
  here ts = map (λ tile. record { file = file; tile = tile }) ts

  abbrev from_parts : List Declaration → List Tile → List Finding
  from_parts before ts = findings_of_parts rules file before (syntax_findings ts) (map part_of_tile (kept_tiles ts))

  abbrev declared : List Tile → List Declaration
  declared ts = declared_by_parts file (map part_of_tile (kept_tiles ts))

  abbrev Found : List Tile → Type 0
  Found ts = ArePlaced file ts → (before : List Declaration) (more : List FileTile) →
      findings_of_tiles rules before (here ts ++ more) ≡ findings_in file (from_parts before ts) ++ findings_of_tiles rules (before ++ declared ts) more

  -- of a message or a term, by its declarations, if there are some, and what is found of it
  kept_found : (at : ℕ) (s : Text) (e : t.Entry) (ts : List Tile) → at ≡ offset_in file s →
      ((before : List Declaration) (more : List FileTile) →
      findings_of_tiles rules before (here ts ++ more) ≡ findings_in file (from_parts before ts) ++ findings_of_tiles rules (before ++ declared ts) more) →
      (before : List Declaration) (more : List FileTile) →
      findings_of_tiles rules before (here (entry_tile at s e ∷ ts) ++ more)
      ≡ findings_in file (findings_of_entry rules before file.source e (offset_in file s) s (id_of e) ++ from_parts (before ++ declarations file e (offset_in file s) (id_of e)) ts)
      ++ findings_of_tiles rules (before ++ (declarations file e (offset_in file s) (id_of e) ++ declared ts)) more
  kept_found at s e ts is later before more =
      let p = offset_in file s in
      let mine = findings_of_entry rules before file.source e p s (id_of e) in
      let ds = declarations file e p (id_of e) in
      let others = from_parts (before ++ ds) ts in
      ap (λ a. findings_in file (findings_of_entry rules before file.source e a s (id_of e)) ++ findings_of_tiles rules (before ++ declarations file e a (id_of e)) (here ts ++ more)) is
      ∙ ap (λ l. findings_in file mine ++ l) (later (before ++ ds) more)
      ∙ sym (append_assoc (findings_in file mine) (findings_in file others) (findings_of_tiles rules ((before ++ ds) ++ declared ts) more))
      ∙ ap (λ l. l ++ findings_of_tiles rules ((before ++ ds) ++ declared ts) more) (sym (map-append (λ f. record { file = file; finding = f }) mine others))
      ∙ ap (λ l. findings_in file (mine ++ others) ++ findings_of_tiles rules l more) (append_assoc before ds (declared ts))

  found : (ts : List Tile) → Found ts
  found [] placed before more = ap (λ l. findings_of_tiles rules l more) (sym (append-nil before))
  found (entry_tile at s (t.message m) ∷ ts) placed before more = kept_found at s (t.message m) ts placed.0 (found ts placed.1) before more
  found (entry_tile at s (t.term m) ∷ ts) placed before more = kept_found at s (t.term m) ts placed.0 (found ts placed.1) before more
  found (entry_tile at s (t.comment c) ∷ ts) placed before more = ap (λ l. findings_of_tiles rules l (here ts ++ more)) (append-nil before) ∙ found ts placed.1 before more
  found (entry_tile at s (t.group_comment c) ∷ ts) placed before more = ap (λ l. findings_of_tiles rules l (here ts ++ more)) (append-nil before) ∙ found ts placed.1 before more
  found (entry_tile at s (t.resource_comment c) ∷ ts) placed before more = ap (λ l. findings_of_tiles rules l (here ts ++ more)) (append-nil before) ∙ found ts placed.1 before more
  found (entry_tile at s (t.junk x) ∷ ts) placed before more = ap (λ l. findings_of_tiles rules l (here ts ++ more)) (append-nil before) ∙ found ts placed.1 before more
  found (junk_tile at s refusal ∷ ts) placed before more =
      ap (λ l. record { file = file; finding = syntax_finding at s refusal } ∷ l)
      (ap (λ l. findings_of_tiles rules l (here ts ++ more)) (append-nil before) ∙ found ts placed before more)

-- The findings of the tiles of files are those of the files, one after the other.
pub tiles_found : (rules : Rules) (files : List File) (before : List Declaration) → findings_of_tiles rules before (flat_map tiles_in files) ≡ findings_of_files rules before files
tiles_found rules [] before = refl
tiles_found rules (file ∷ files) before =
    found rules file (tiles file.source) (are_placed file (suc (length file.source)) 0 file.source refl) before (flat_map tiles_in files)
    ∙ ap (λ l. findings_in file (findings_of_parts rules file before (syntax_findings (tiles file.source)) (parts file.source)) ++ l) (tiles_found rules files (before ++ declared_in file))

-- ---- what is declared

module _ (rules : Rules) (file : File) where
  abbrev declared_in_tiles : List Tile → List Declaration
  declared_in_tiles ts = flat_map (λ (t : FileTile). declarations_of_tile rules t.file t.tile) (here rules file ts)

  entry_declared : (at : ℕ) (s : Text) (e : t.Entry) (ts : List Tile) → at ≡ offset_in file s → declared_in_tiles ts ≡ declared rules file ts →
      declarations file e at (id_of e) ++ declared_in_tiles ts ≡ declarations file e (offset_in file s) (id_of e) ++ declared rules file ts
  entry_declared at s e ts is later =
      ap (λ a. declarations file e a (id_of e) ++ declared_in_tiles ts) is ∙ ap (λ l. declarations file e (offset_in file s) (id_of e) ++ l) later

  declared_are : (ts : List Tile) → ArePlaced file ts → declared_in_tiles ts ≡ declared rules file ts
  declared_are [] placed = refl
  declared_are (entry_tile at s (t.message m) ∷ ts) placed = entry_declared at s (t.message m) ts placed.0 (declared_are ts placed.1)
  declared_are (entry_tile at s (t.term m) ∷ ts) placed = entry_declared at s (t.term m) ts placed.0 (declared_are ts placed.1)
  declared_are (entry_tile at s (t.comment c) ∷ ts) placed = declared_are ts placed.1
  declared_are (entry_tile at s (t.group_comment c) ∷ ts) placed = declared_are ts placed.1
  declared_are (entry_tile at s (t.resource_comment c) ∷ ts) placed = declared_are ts placed.1
  declared_are (entry_tile at s (t.junk x) ∷ ts) placed = declared_are ts placed.1
  declared_are (junk_tile at s refusal ∷ ts) placed = declared_are ts placed

-- The declarations of the tiles of a file are those of the file.
pub tiles_declared : (rules : Rules) (file : File) → flat_map (λ (t : FileTile). declarations_of_tile rules t.file t.tile) (tiles_in file) ≡ declared_in file
tiles_declared rules file = declared_are rules file (tiles file.source) (are_placed file (suc (length file.source)) 0 file.source refl)
