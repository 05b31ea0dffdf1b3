-- Laws of the errors of sources, as statements.
use Rattle.std.specs.Prelude.{◌≢◌, All, map}
use Rattle.fluent_grammar.specs.Words.{Text}
use Rattle.fluent_grammar.specs.Tiling.{errors, runtime_errors}
use Rattle.fluent_parsed.specs.ErrorView.{ErrorView, message_attribute_as_selector, error_told}

-- not refused for a message's attribute as selector
abbrev pub IsForNoAttribute : ErrorView → Type 0
IsForNoAttribute e = e.kind ≢ message_attribute_as_selector

-- A message's attribute may be a selector: no error of a source says otherwise, in full reading and for use at run time.
pub record NoneIsForAnAttribute (source : Text) : Type 0 where
  pub full : All IsForNoAttribute (map error_told (errors source))
  pub runtime : All IsForNoAttribute (map error_told (runtime_errors source))

-- the same of every source
abbrev pub MessageAttributesMaySelect : Type 0
MessageAttributesMaySelect = (source : Text) → NoneIsForAnAttribute source
