-- The plain data that errors stand for.
use Rattle.std.specs.Prelude.{option_map, string_bytes}
use Rattle.fluent_parsed.specs.ErrorView.{error_view}
use Rattle.fluent_errors.specs.Errors.{Kind, message, term, function, Reference, to_function, to_message, to_term, to_variable, Unresolved, unknown, no_value, missing_default, cyclic, too_many_placeables, Reported, overriding, damaged, unresolved}
use Rattle.fluent_errors.specs.declared.entry.EntryKind.{EntryKind}
use Rattle.fluent_errors.specs.declared.entry.EntryKind.TheVariants as entry
use Rattle.fluent_errors.specs.declared.reference.ReferenceKind.{ReferenceKind}
use Rattle.fluent_errors.specs.declared.reference.ReferenceKind.TheVariants as reference
use Rattle.fluent_errors.specs.declared.resolver.ResolverError.{ResolverError}
use Rattle.fluent_errors.specs.declared.resolver.ResolverError.TheVariants as resolver
use Rattle.fluent_errors.specs.declared.bundle.FluentError.{FluentError}
use Rattle.fluent_errors.specs.declared.bundle.FluentError.TheVariants as bundle

abbrev pub entry_view : EntryKind → Kind
entry_view entry.Message = message
entry_view entry.Term = term
entry_view entry.Function = function

abbrev pub reference_view : ReferenceKind → Reference
reference_view (reference.Function id) = to_function (string_bytes id)
reference_view (reference.Message id attr) = to_message (string_bytes id) (option_map string_bytes attr)
reference_view (reference.Term id attr) = to_term (string_bytes id) (option_map string_bytes attr)
reference_view (reference.Variable id) = to_variable (string_bytes id)

abbrev pub resolver_view : ResolverError → Unresolved
resolver_view (resolver.Reference kind) = unknown (reference_view kind)
resolver_view (resolver.NoValue id) = no_value (string_bytes id)
resolver_view resolver.MissingDefault = missing_default
resolver_view resolver.Cyclic = cyclic
resolver_view resolver.TooManyPlaceables = too_many_placeables

abbrev pub bundle_view : FluentError → Reported
bundle_view (bundle.Overriding kind id) = overriding (entry_view kind) (string_bytes id)
bundle_view (bundle.ParserError error) = damaged (error_view error)
bundle_view (bundle.ResolverError error) = unresolved (resolver_view error)
