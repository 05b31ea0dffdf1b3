-- The laws of the types that are lent.
use base.Fml.{Lft}
use contract.BorrowLft.{◌⊑◌}
use denote.Param.Laws.{Laws}
use Rattle.fluent_kept.proofs.sources.Sources.TheLaws as sources_laws
use Rattle.fluent_kept.proofs.resources.Resources.TheLaws as resources_laws
use Rattle.fluent_kept.specs.Kept.{sources_row, resources_row, lived}

abbrev pub of_sources : Laws sources_row
of_sources = sources_laws.the_row_laws

pub sources_within : (κ : Lft) → κ ⊑ sources_row.lives
sources_within κ = sources_laws.the_within κ

abbrev pub of_resources : (s : Lft) → Laws (resources_row s)
of_resources s = resources_laws.the_row_laws (lived s)

pub resources_within : (κ s : Lft) → κ ⊑ s → κ ⊑ (resources_row s).lives
resources_within κ s = resources_laws.the_within (lived s) κ
