-- What becomes of standard input that is tidied to standard output.
use Rattle.std.specs.Prelude.{◌≡◌, ◌⊎◌, Bool, true, false, [], Option, None, IsUtf8, codes}
use Rattle.std.specs.Io.KnownBytes.{Consumes, IsAtEnd}
use Rattle.fluent_serve.specs.Text.{Text}
use Rattle.ftl_files.specs.Tidying.{FileEnd, IsSourceEnd, Said, changed, failed, kept, not_utf8, nothing_said, out_of_memory, refused, said_after}

-- the name that findings in standard input have
abbrev pub input_name : Text
input_name = codes "-"

-- What becomes of these bytes. If they are no text, that is only reported.
abbrev pub IsInputEnd : Text → FileEnd → Type 0
IsInputEnd bytes end = (IsUtf8 bytes × IsSourceEnd input_name bytes end) ⊎ ((IsUtf8 bytes → ⊥) × (end ≡ failed not_utf8 None))

-- what is said of it, as of a file that is tidied in place
abbrev pub said_of : Bool → FileEnd → Said
said_of check end = said_after check nothing_said input_name end

-- What is written: the tidy text or, if the input is only checked, its name if it isn't tidy.
abbrev pub written_of : Bool → Text → FileEnd → Text
written_of true bytes end = (said_of true end).names
written_of false bytes kept = bytes
written_of false bytes (changed text) = text
written_of false bytes (failed f why) = []
written_of false bytes (refused report) = []
written_of false bytes (out_of_memory report) = []

-- the outcome holds of what is written of bytes and of what is said of them
pub record OnBytes (check : Bool) (bytes : Text) (Outcome : Text → Said → Type 0) : Type 0 where
  pub end : FileEnd
  pub right : IsInputEnd bytes end
  pub outcome : Outcome (written_of check bytes end) (said_of check end)

-- all that a reader had left was read, and this is it
pub record IsReadWhole (left left_after : Option Text) (bytes : Text) : Type 0 where
  pub read : Consumes left left_after bytes
  pub all : IsAtEnd left_after

-- all of the input was read, and the outcome holds of what is written and said
pub record OnInput (left left_after : Option Text) (check : Bool) (Outcome : Text → Said → Type 0) : Type 0 where
  pub bytes : Text
  pub read : IsReadWhole left left_after bytes
  pub tidied : OnBytes check bytes Outcome
