-- Why a source has no tidy text.
use Rattle.std.specs.Prelude.{◌≡◌, ◌≢◌, ◌≤◌, ℕ, Bool, true, false, List, [], ◌∷◌, ⊤, IsTrue, length, map, slice_range, string_bytes}
use Rattle.std.specs.Str.{IsCharBoundary}
use Rattle.fluent_grammar.specs.Words.{Text}
use Rattle.fluent_grammar.specs.Tree as t
use Rattle.fluent_grammar.specs.Tiling.{errors, tree}
use Rattle.fluent_parsed.specs.ErrorView.{error_told, error_view}
use Rattle.fluent_parsed.specs.declared.errors.ParserError.{ParserError}
use Rattle.fluent_parser.specs.Starts.{starts}
use Rattle.fluent_tidy.specs.Sources.{holds_return}
use Rattle.fluent_tidy.specs.TidyText.{HasNoTidyText, IsTidy, StaysTidy, laid_anew, plain}
use Rattle.fluent_tidy.specs.declared.tidying.Laid.{Laid}
use Rattle.fluent_tidy.specs.declared.tidying.Laid.TheVariants.{Tidy, Shaped}
use Rattle.fluent_tidy.specs.declared.tidy_error.TidyError.{TidyError}
use Rattle.fluent_tidy.specs.declared.tidy_error.TidyError.TheVariants.{Memory, CarriageReturn, Damaged, NotTidy}

-- ---- damage

-- these are the errors of a text, which has some
pub record AreErrorsOf (text : Text) (found : List ParserError) : Type 0 where
  pub same : map error_view found ≡ map error_told (errors text)
  pub some : errors text ≢ []

-- ---- shapes

-- a text that can be read, and would be read or laid out otherwise if it were written anew
pub record IsShape (text : Text) : Type 0 where
  pub no_junk : errors text ≡ []
  pub changes : StaysTidy text (laid_anew text) → ⊥

-- where the first part of a source ends, before the next one or at the end
abbrev pub end_before : Text → List ℕ → ℕ
end_before source [] = length source
end_before source (at ∷ more) = at

-- whether the part of a source between two offsets is a shape by itself; it is none if it doesn't begin and end between characters
abbrev pub TellsShape : Text → ℕ → ℕ → Bool → Type 0
TellsShape source start end true = IsShape (slice_range source start end)
TellsShape source start end false = start ≤ end → IsCharBoundary source start → IsCharBoundary source end → IsShape (slice_range source start end) → ⊥

-- the first of the parts that begin at these offsets that is a shape begins at this one, which is 0 if none is
pub data IsFirstShape (source : Text) : List ℕ → ℕ → Type 0 where
  none : IsFirstShape source [] 0
  here : (start : ℕ) (more : List ℕ) → TellsShape source start (end_before source more) true → IsFirstShape source (start ∷ more) start
  later : (start offset : ℕ) (more : List ℕ) → TellsShape source start (end_before source more) false → IsFirstShape source more offset
      → IsFirstShape source (start ∷ more) offset

-- ---- reasons

-- why a source has no tidy text; that memory ran out isn't seen
abbrev pub IsReason : Text → TidyError → Type 0
IsReason source Memory = ⊤
IsReason source CarriageReturn = IsTrue (holds_return (plain source))
IsReason source (Damaged found) = AreErrorsOf (plain source) found.items
IsReason source (NotTidy offset) = HasNoTidyText source × IsFirstShape (plain source) (starts (plain source)) offset

-- the same of a text without a mark and without carriage returns
abbrev pub Refuses : Text → TidyError → Type 0
Refuses text Memory = ⊤
Refuses text CarriageReturn = IsTrue (holds_return text)
Refuses text (Damaged found) = AreErrorsOf text found.items
Refuses text (NotTidy offset) = (StaysTidy text (laid_anew text) → ⊥) × IsFirstShape text (starts text) offset

-- a text is read as these entries, and tidying leaves it as it is
abbrev pub StaysAs : List t.Entry → Text → Type 0
StaysAs entries text = (tree text ≡ entries) × IsTidy text

-- a text has these entries, and is laid out as it is
abbrev pub IsLaidAs : List t.Entry → Text → Type 0
IsLaidAs entries text = (tree text ≡ entries) × (laid_anew text ≡ text)

-- what a source is laid out as: a text that stays tidy, or the starts of its parts if there is none
abbrev pub IsLaid : Text → Laid → Type 0
IsLaid source (Tidy text) = (string_bytes text ≡ laid_anew source) × StaysTidy source (string_bytes text)
IsLaid source (Shaped found) = (StaysTidy source (laid_anew source) → ⊥) × (found.items ≡ starts source)
