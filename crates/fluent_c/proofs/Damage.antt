-- What is returned of a source that may be damaged.
use Rattle.std.proofs.Common.{◌≡◌, List, [], ◌∷◌, None, refl}
use Rattle.fluent_grammar.specs.Tiling.{ParserError, errors}
use Rattle.fluent_grammar.specs.Words.{Text}
use Rattle.fluent_tidy.specs.TidyText.{plain}
use Rattle.fluent_c.specs.Tidying.{damaged_place, first_place}

no_errors : (source : Text) (es : List ParserError) → None ≡ first_place source es → es ≡ []
no_errors source [] e = refl
no_errors source (x ∷ xs) e = absurd cc

-- a source that is damaged nowhere has no errors
pub none_damaged : (source : Text) → None ≡ damaged_place source → errors (plain source) ≡ []
none_damaged source e = no_errors (plain source) (errors (plain source)) e
