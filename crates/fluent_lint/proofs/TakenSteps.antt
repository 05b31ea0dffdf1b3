-- Ids that earlier files have, one entry after the other.
use Rattle.std.proofs.Common.{◌≡◌, ◌∙◌, ℕ, ◌+◌, ◌<◌, ◌++◌, true, false, if◌then◌else◌, List, [], ◌∷◌, Option, Some, None, Vec, length, get_or, map, take, refl, sym, ap, subst, append-nil, append_assoc}
use Rattle.std.specs.Global.{Global}
use denote.Ref.{Bor}
use Rattle.fluent_ast.specs.Borrowed.{entry_of}
use Rattle.fluent_ast.specs.declared.Entry.{Entry}
use Rattle.fluent_grammar.specs.Tree as t
use Rattle.fluent_grammar.specs.Words.{Text}
use Rattle.fluent_meaning.specs.Ids.{Ids}
use Rattle.lint_nodes.specs.HasNames.{GetsName}
use Rattle.lint_entries.specs.AttributePlaces.{uncommented}
use Rattle.lint_entries.specs.First.{AreFirst}
use Rattle.lint_entries.specs.Kept.{Part, entry_part}
use Rattle.lint_entries.specs.Made.{Adds}
use Rattle.lint_entries.specs.TileView.{tile_view}
use Rattle.lint_entries.specs.declared.declarations.Declarations.{Declarations}
use Rattle.lint_entries.specs.declared.tile.Tile.{Tile}
use Rattle.lint_files.specs.PartFindings.{offset_in}
use Rattle.lint_findings.specs.View.{file_view, finding_view}
use Rattle.lint_findings.specs.declared.records.Finding as code
use Rattle.lint_findings.specs.DuplicateIds.{declarations, duplicate_findings, id_of}
use Rattle.lint_findings.specs.Files.{File}
use Rattle.lint_findings.specs.Finding.{Finding}
use Rattle.fluent_lint.specs.Taken.{Met, met_after, met_at, met_through, taken_at, taken_by, taken_from}
use Rattle.fluent_lint.specs.TakenView.{AddsDuplicate, AreMet, CountsBy, DeclaresEntry, Finds, MeetsEntry, of_looked}
use Rattle.fluent_lint.specs.declared.taken.Looked.{Looked}
use Rattle.fluent_lint.specs.declared.taken.Seen.{Seen}
use Rattle.fluent_lint.proofs.Loops.{front_mapped}

-- ---- comments make no difference

module _ (original : Option (Ids (Unit {0}))) (file : File) (met : Met) (at : ℕ) where
  same_met : (e : t.Entry) → met_at original file met at e (id_of e) ≡ met_at original file met at (uncommented e) (id_of (uncommented e))
  same_met (t.message m) = refl
  same_met (t.term m) = refl
  same_met (t.comment c) = refl
  same_met (t.group_comment c) = refl
  same_met (t.resource_comment c) = refl
  same_met (t.junk x) = refl

  same_taken : (e : t.Entry) → taken_at original file met at e (id_of e) ≡ taken_at original file met at (uncommented e) (id_of (uncommented e))
  same_taken (t.message m) = refl
  same_taken (t.term m) = refl
  same_taken (t.comment c) = refl
  same_taken (t.group_comment c) = refl
  same_taken (t.resource_comment c) = refl
  same_taken (t.junk x) = refl

-- ---- a tile

module _ (looked : Looked) (entry : Entry (Bor Text)) (s : Text) where
  abbrev o : Option (Ids (Unit {0}))
  o = of_looked looked

  abbrev f : File
  f = file_view looked.file

  abbrev e : t.Entry
  e = entry_of entry

  module _ (at : ℕ) (id : Text) (has_id : id_of e ≡ Some id) (is : at ≡ offset_in f s) where
    met_is : (met : Met) → met_at o f met at e (Some id) ≡ met_after o f met (entry_part s (uncommented e))
    met_is met = ap (met_at o f met at e) (sym has_id) ∙ ap (λ n. met_at o f met n e (id_of e)) is ∙ same_met o f met (offset_in f s) e

    taken_is : (met : Met) → taken_at o f met at e (Some id) ≡ taken_by o f met (entry_part s (uncommented e))
    taken_is met = ap (taken_at o f met at e) (sym has_id) ∙ ap (λ n. taken_at o f met n e (id_of e)) is ∙ same_taken o f met (offset_in f s) e

    pub meets_entry : (old new : Seen) (others others' : Declarations) → MeetsEntry looked at entry id old others new others'
        → (met : Met) → AreMet old others met → AreMet new others' (met_after o f met (entry_part s (uncommented e)))
    meets_entry old new others others' meets met are = subst (AreMet new others') (met_is met) (meets met are)

    pub finds_entry : (seen : Seen) (others : Declarations) (old new : Vec code.Finding Global) → Finds looked at entry id seen others old new
        → (met : Met) → AreMet seen others met → Adds old new (taken_by o f met (entry_part s (uncommented e)))
    finds_entry seen others old new finds met are = finds met are ∙ ap (λ fs. map finding_view old.items ++ fs) (taken_is met)

  pub meets_comment : id_of e ≡ None → (seen : Seen) (others : Declarations) → (met : Met) → AreMet seen others met
      → AreMet seen others (met_after o f met (entry_part s (uncommented e)))
  meets_comment none seen others met are =
      subst (AreMet seen others) (ap (met_at o f met (offset_in f s) e) (sym none) ∙ same_met o f met (offset_in f s) e) are

  pub finds_comment : id_of e ≡ None → (made : Vec code.Finding Global) → (met : Met) → Adds made made (taken_by o f met (entry_part s (uncommented e)))
  finds_comment none made met =
      sym (append-nil (map finding_view made.items))
      ∙ ap (λ fs. map finding_view made.items ++ fs) (ap (taken_at o f met (offset_in f s) e) (sym none) ∙ same_taken o f met (offset_in f s) e)

-- ---- an entry of an id

module _ (looked : Looked) (at : ℕ) (entry : Entry (Bor Text)) (id : Text) (old new : Seen) (others : Declarations) where
  abbrev file : File
  file = file_view looked.file

  pub not_met : GetsName old.ids id new.ids → CountsBy looked old (entry_of entry) id false → MeetsEntry looked at entry id old others new others
  not_met gets is met are = record {
    before = subst (AreFirst others)
        (sym (append-nil met.before) ∙ ap (λ b. met.before ++ (if b then declarations file (entry_of entry) at (Some id) else [])) (is met.ids are.ids))
        are.before;
    ids = gets met.ids are.ids;
  }

  pub not_found : (made : Vec code.Finding Global) → CountsBy looked old (entry_of entry) id false → Finds looked at entry id old others made made
  not_found made is met are =
      sym (append-nil (map finding_view made.items))
      ∙ ap (λ b. map finding_view made.items ++ (if b then duplicate_findings {F = Unit {0}} [] met.before (entry_of entry) at id else [])) (is met.ids are.ids)

  pub is_met : (others' : Declarations) → GetsName old.ids id new.ids → CountsBy looked old (entry_of entry) id true
      → DeclaresEntry looked (entry_of entry) at id others others' → MeetsEntry looked at entry id old others new others'
  is_met others' gets is declares met are = record {
    before = subst (AreFirst others')
        (ap (λ b. met.before ++ (if b then declarations file (entry_of entry) at (Some id) else [])) (is met.ids are.ids))
        (declares met.before are.before);
    ids = gets met.ids are.ids;
  }

  pub is_found : (made made' : Vec code.Finding Global) → CountsBy looked old (entry_of entry) id true
      → AddsDuplicate others (entry_of entry) at id made made' → Finds looked at entry id old others made made'
  is_found made made' is adds met are =
      adds met.before are.before
      ∙ ap (λ b. map finding_view made.items ++ (if b then duplicate_findings {F = Unit {0}} [] met.before (entry_of entry) at id else [])) (is met.ids are.ids)

-- ---- several

module _ (original : Option (Ids (Unit {0}))) (file : File) where
  met_more : (met : Met) (ps : List Part) (p : Part) → met_through original file met (ps ++ p ∷ []) ≡ met_after original file (met_through original file met ps) p
  met_more met [] p = refl
  met_more met (q ∷ ps) p = met_more (met_after original file met q) ps p

  taken_more : (met : Met) (ps : List Part) (p : Part)
      → taken_from original file met (ps ++ p ∷ []) ≡ taken_from original file met ps ++ taken_by original file (met_through original file met ps) p
  taken_more met [] p = append-nil (taken_by original file met p)
  taken_more met (q ∷ ps) p =
      let next = met_after original file met q in
      ap (λ fs. taken_by original file met q ++ fs) (taken_more next ps p)
      ∙ sym (append_assoc (taken_by original file met q) (taken_from original file next ps) (taken_by original file (met_through original file next ps) p))

  module _ (met : Met) (tiles : List Tile) (i : ℕ) (d : Tile) (inside : i < length tiles) (is : d ≡ get_or tiles i d) where
    abbrev so : List Part
    so = map tile_view (take i tiles)

    pub met_next : met_after original file (met_through original file met so) (tile_view d) ≡ met_through original file met (map tile_view (take (i + 1) tiles))
    met_next = sym (met_more met so (tile_view d)) ∙ ap (met_through original file met) (sym (front_mapped tiles i d inside is tile_view))

    pub taken_next : (x y z : List Finding) → z ≡ y ++ taken_by original file (met_through original file met so) (tile_view d)
        → y ≡ x ++ taken_from original file met so → z ≡ x ++ taken_from original file met (map tile_view (take (i + 1) tiles))
    taken_next x y z step before =
        let here = taken_by original file (met_through original file met so) (tile_view d) in
        step
        ∙ ap (λ l. l ++ here) before
        ∙ append_assoc x (taken_from original file met so) here
        ∙ ap (λ l. x ++ l) (sym (taken_more met so (tile_view d)) ∙ ap (taken_from original file met) (sym (front_mapped tiles i d inside is tile_view)))
