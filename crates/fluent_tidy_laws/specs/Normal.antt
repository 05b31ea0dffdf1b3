-- Canonical trees, and the normal text of a source.
use Rattle.std.specs.Prelude.{◌≡◌, List, []}
use Rattle.fluent_grammar.specs.Words.{Text}
use Rattle.fluent_grammar.specs.Tree as t
use Rattle.fluent_grammar.specs.Tiling.{tree, errors}
use Rattle.fluent_grammar.specs.Written.{written}
use Rattle.fluent_tidy_laws.specs.Cut.{cut}

-- A canonical tree: its written text has no junk, and is read back as the tree.
pub record IsCanonical (entries : List t.Entry) : Type 0 where
  pub no_junk : errors (written entries) ≡ []
  pub read_back : tree (written entries) ≡ entries

-- The normal text of a source: what its cut text's tree is written as, if that tree is canonical.
pub record IsNormalText (source text : Text) : Type 0 where
  pub canonical : IsCanonical (tree (cut source))
  pub is : text ≡ written (tree (cut source))

-- a source without a normal text
abbrev pub HasNoNormalText : Text → Type 0
HasNoNormalText source = IsCanonical (tree (cut source)) → ⊥
