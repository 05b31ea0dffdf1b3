-- What a handle owns.
use Rattle.std.specs.Prelude.{ℕ, Bool, true, false}
use Rattle.fluent_kept.specs.Catalogs.{Catalog}
use Rattle.fluent_kept.specs.Kept.{bundle_owns}
use base.Fml.{Fml, ftrue, fex}
use denote.RawPtr.{Ptr}

-- what a bundle owns, if there is one
abbrev pub handle_owns : Bool → Ptr → Ptr → Ptr → Catalog → Fml
handle_owns false sources read desk catalog = ftrue
handle_owns true sources read desk catalog = fex ℕ (λ α. fex ℕ (bundle_owns sources read desk catalog α))
