-- What C learns of a pattern whose text is written into its memory.
use Rattle.std.specs.Prelude.{◌≡◌, ◌<◌, ◌≤◌, ◌==◌, ◌++◌, if◌then◌else◌, ℕ, true, false, List, [], ◌∷◌, Option, IsSomeAnd, MatchOption, All, drop, length}
use Rattle.fluent_kept.specs.Answers.{IsReplyOrCall}
use Rattle.fluent_kept.specs.Catalogs.{catalog_environment}
use Rattle.fluent_kept.specs.declared.handle.FluentBundle.{FluentBundle}
use Rattle.fluent_kept.specs.declared.question.Answer.{Answer}
use Rattle.fluent_serve.specs.Frames.{Reply}
use Rattle.fluent_kept.specs.Given.{HasTexts, given_view}
use Rattle.fluent_c.specs.Bundles.{AreNames, HoldsLines, attribute_in}
use Rattle.fluent_c.specs.Calling.{Calls, called_in, calling_in}
use Rattle.fluent_c.specs.Statuses.{IsOneOf}
use Rattle.fluent_c.specs.declared.TheConstants.{FLUENT_READ, FLUENT_NO_MEMORY, FLUENT_NO_MESSAGE, FLUENT_NO_PATTERN, FLUENT_BAD_ARGUMENT, FLUENT_NO_BUNDLE, FLUENT_CALL, FLUENT_NO_ROOM}
use Rattle.fluent_kept.specs.declared.given.FluentArgument.{FluentArgument}
use Rattle.fluent_c.specs.declared.patterns.FluentPattern.{FluentPattern}
use Rattle.fluent_c.specs.declared.patterns.Unwritten.{Unwritten}
use Rattle.fluent_c.specs.declared.patterns.Unwritten.TheVariants.{Memory, NoRoom}
use Rattle.fluent_c.specs.declared.text.FluentText.{FluentText}

-- the id, the attribute, and the names and texts of arguments are UTF-8
abbrev pub ArePromised : FluentPattern → List FluentArgument → Type 0
ArePromised pattern arguments = AreNames pattern.id.now pattern.attribute.now × All HasTexts arguments

-- what a bundle replies for a pattern with these arguments, without answers to calls
abbrev pub written_in : FluentBundle → FluentPattern → List FluentArgument → Option Reply
written_in bundle pattern arguments = called_in bundle pattern.id.now pattern.attribute.now arguments []

-- what a bundle answers for a pattern with these arguments, if there is a bundle, without answers to calls
abbrev pub IsAnswerOf : FluentBundle → FluentPattern → List FluentArgument → Answer → Type 0
IsAnswerOf bundle pattern arguments answer = IsReplyOrCall (catalog_environment bundle.catalog) (calling_in bundle [])
    pattern.id.now (attribute_in pattern.attribute.now) (given_view arguments) [] answer

abbrev pub IsAnswerTo : FluentBundle → FluentPattern → List FluentArgument → Option Answer → Type 0
IsAnswerTo bundle pattern arguments found =
    MatchOption found (bundle.held ≡ false) (λ answer. (bundle.held ≡ true) × IsAnswerOf bundle pattern arguments answer)

-- what a call returns that has as much room as it needs
abbrev pub called_status : ℕ → ℕ
called_status status = if status == FLUENT_NO_ROOM then FLUENT_READ else status

-- the reply's text is at the beginning of the room, the rest of which is as it was, and this is its length
pub record WritesIn (reply : Reply) (before after : List ℕ) (count : ℕ) (lines : FluentText) : Type 0 where
  pub len : count ≡ length reply.text
  pub fits : length reply.text ≤ length before
  pub written : after ≡ reply.text ++ drop (length reply.text) before
  pub errors : HoldsLines lines reply.errors

-- the reply's text has this many bytes, for which there is no room
pub record LacksRoom (reply : Reply) (room : List ℕ) (count : ℕ) : Type 0 where
  pub len : count ≡ length reply.text
  pub short : length room < length reply.text

-- what a call returns that writes a pattern's text
abbrev pub Returns : FluentBundle → FluentPattern → List FluentArgument → ℕ → Type 0
Returns bundle pattern arguments status = Calls bundle pattern.id.now pattern.attribute.now arguments [] (called_status status)

-- the bundle's reply is in the room
abbrev pub Writes : FluentBundle → FluentPattern → List FluentArgument → List ℕ → List ℕ → ℕ → FluentText → Type 0
Writes bundle pattern arguments before after len errors =
    IsSomeAnd (written_in bundle pattern arguments) (λ reply. WritesIn reply before after len errors)

-- there is no room for it
abbrev pub Exceeds : FluentBundle → FluentPattern → List FluentArgument → List ℕ → ℕ → Type 0
Exceeds bundle pattern arguments room len = IsSomeAnd (written_in bundle pattern arguments) (λ reply. LacksRoom reply room len)

-- this is why a reply's text isn't written, and what the length is then
abbrev pub IsUnwrittenFor : Unwritten → Reply → List ℕ → ℕ → ℕ → Type 0
IsUnwrittenFor Memory reply room before len = len ≡ before
IsUnwrittenFor NoRoom reply room before len = LacksRoom reply room len

-- a call that returns this says no length
abbrev pub HasNoLen : ℕ → Type 0
HasNoLen status =
    IsOneOf status (FLUENT_NO_MEMORY ∷ FLUENT_NO_MESSAGE ∷ FLUENT_NO_PATTERN ∷ FLUENT_BAD_ARGUMENT ∷ FLUENT_NO_BUNDLE ∷ FLUENT_CALL ∷ [])
