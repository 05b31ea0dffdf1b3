-- How messages differ, by the ids in the code.
use Rattle.std.proofs.Common.{◌≡◌, ◌∙◌, List, [], ap}
use Rattle.std.specs.Prelude.{Option, unwrap_or}
use Rattle.fluent_ids.specs.IdsView.{ids_view}
use Rattle.fluent_meaning.specs.Ids.{Ids}
use Rattle.fluent_plurals.specs.declared.plurals.LanguagePlurals.{LanguagePlurals}
use Rattle.lint_entries.specs.Kept.{Part}
use Rattle.lint_findings.specs.View.{file_view}
use Rattle.lint_findings.specs.Finding.{Finding}
use Rattle.lint_findings.specs.Files.{File}
use Rattle.fluent_lint.specs.Own.{AreShown, IsOwn, compared_in, shown_view, wide_in}
use Rattle.fluent_lint.specs.Pairs.{own_ids}
use Rattle.fluent_lint.specs.Shown.{Catalogs, compared, of_firsts, shown_ids, wide_ids}
use Rattle.fluent_lint.specs.declared.pairs.OwnFile.{OwnFile}

-- what a file is shown with is that of its catalog
shown_is : (files : List File) (own : OwnFile) → IsOwn own → wide_in own ≡ wide_ids files (file_view own.tiles.now.file)
    → shown_view own ≡ shown_ids files (file_view own.tiles.now.file)
shown_is files own is wide =
    ap (λ w. unwrap_or w (ids_view (Unit {0}) own.ids.now)) wide
    ∙ ap (unwrap_or (wide_ids files (file_view own.tiles.now.file))) is.ids

module _ (plurals : Option LanguagePlurals) (catalogs : Catalogs) (own original : OwnFile) (is : IsOwn own) (is' : IsOwn original) (shown : AreShown catalogs own original) where
  abbrev file : File
  file = file_view own.tiles.now.file

  abbrev other : File
  other = file_view original.tiles.now.file

  -- the messages are compared by the ids of the catalogs
  pub compared_is : (ps : List Part) → of_firsts (compared_in plurals own original) [] ps
      ≡ of_firsts (compared plurals (shown_ids catalogs.mine file) (shown_ids catalogs.theirs other) (own_ids file.source) (own_ids other.source) file.source) [] ps
  compared_is ps =
      let by : Ids (Unit {0}) → Ids (Unit {0}) → Ids (Unit {0}) → Ids (Unit {0}) → List Finding =
      λ mine theirs one another. of_firsts (compared plurals mine theirs one another file.source) [] ps in
      ap (λ ids. by ids (shown_view original) (ids_view (Unit {0}) own.ids.now) (ids_view (Unit {0}) original.ids.now)) (shown_is catalogs.mine own is shown.mine)
      ∙ ap (λ ids. by (shown_ids catalogs.mine file) ids (ids_view (Unit {0}) own.ids.now) (ids_view (Unit {0}) original.ids.now)) (shown_is catalogs.theirs original is' shown.theirs)
      ∙ ap (λ ids. by (shown_ids catalogs.mine file) (shown_ids catalogs.theirs other) ids (ids_view (Unit {0}) original.ids.now)) is.ids
      ∙ ap (by (shown_ids catalogs.mine file) (shown_ids catalogs.theirs other) (own_ids file.source)) is'.ids
