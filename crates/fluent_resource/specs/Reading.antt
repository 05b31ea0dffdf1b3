-- What reading a source gives.
use Rattle.std.specs.Prelude.{◌≡◌, ◌≢◌, List, [], Result, Ok, Err, map, length, codes}
use Rattle.fluent_grammar.specs.Words.{Text}
use Rattle.fluent_grammar.specs.Tree as t
use Rattle.fluent_grammar.specs.Tiling.{listed}
use Rattle.fluent_grammar.specs.TilingLaws.{junk_of}
use Rattle.fluent_parsed.specs.ErrorView.{ErrorView, error_view}
use Rattle.fluent_resource.specs.ResourceView.{entries_view}
use Rattle.fluent_resource.specs.declared.resource.FluentResource.{FluentResource}
use Rattle.fluent_resource.specs.declared.error.ResourceError.{ResourceError}
use Rattle.fluent_resource.specs.declared.error.ResourceError.TheVariants as error

-- a fact of the resource that was read, whether or not there is junk; where memory ran out there is none
abbrev pub OfResource : Result FluentResource ResourceError → (FluentResource → Type 0) → Type 0
OfResource (Ok r) Fact = Fact r
OfResource (Err (error.Broken r errors)) Fact = Fact r
OfResource (Err error.Memory) Fact = Unit {0}

-- its source is this one
abbrev pub ReadsSource : Result FluentResource ResourceError → Text → Type 0
ReadsSource read source = OfResource read (λ r. r.source.now ≡ source)

-- its entries are these
abbrev pub HoldsEntries : Result FluentResource ResourceError → List t.Entry → Type 0
HoldsEntries read entries = OfResource read (λ r. entries_view r ≡ entries)

-- its messages and terms are these
abbrev pub HoldsList : Result FluentResource ResourceError → List t.Entry → Type 0
HoldsList read entries = OfResource read (λ r. listed (entries_view r) ≡ entries)

-- The errors are these: a resource alone where there are none, else one with them.
abbrev pub HasErrors : Result FluentResource ResourceError → List ErrorView → Type 0
HasErrors (Ok r) told = told ≡ []
HasErrors (Err (error.Broken r errors)) told = (map error_view errors.items ≡ told) × (told ≢ [])
HasErrors (Err error.Memory) told = Unit {0}

-- there are as many errors as the resource has junk
abbrev pub HasAnErrorForEachJunk : Result FluentResource ResourceError → Type 0
HasAnErrorForEachJunk (Ok r) = junk_of (entries_view r) ≡ []
HasAnErrorForEachJunk (Err (error.Broken r errors)) = length (junk_of (entries_view r)) ≡ length errors.items
HasAnErrorForEachJunk (Err error.Memory) = Unit {0}

-- what the error shows
abbrev pub error_text : ResourceError → Text
error_text (error.Broken r errors) = codes "some of the source is junk"
error_text error.Memory = codes "out of memory"
