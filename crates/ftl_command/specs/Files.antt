-- What files hold. `contents` is what a file of a name holds, if that is known.
use Rattle.std.specs.Prelude.{◌≡◌, List, [], ◌∷◌, ◌++◌, ⊤, Option, IfSome, String, map, string_bytes}
use Rattle.std.specs.Global.{Global}
use denote.Ref.{Bor}
use Rattle.fluent_serve.specs.Text.{Text}
use Rattle.fluent_tidy_laws.specs.Joined.{AreUtf8}
use Rattle.fluent_serve.specs.Texts.{texts}
pub use Rattle.ftl_files.specs.Files.{OnFile}

-- a text for each file: what the file holds, if that is known
abbrev pub AreHeld : (Text → Option Text) → List Text → List Text → Type 0
AreHeld contents [] [] = ⊤
AreHeld contents [] (s ∷ ss) = ⊥
AreHeld contents (f ∷ fs) [] = ⊥
AreHeld contents (f ∷ fs) (s ∷ ss) = IfSome (contents f) (λ held. s ≡ held) × AreHeld contents fs ss

-- the same of names and strings as code has them
abbrev pub AreRead : (Text → Option Text) → List (Bor Text) → List (String Global) → Type 0
AreRead contents files strings = AreHeld contents (texts files) (map string_bytes strings)

-- the outcome holds of the texts of several files
pub record OnTexts (contents : Text → Option Text) (files : List Text) (Outcome : List Text → Type 0) : Type 0 where
  pub sources : List Text
  pub held : AreHeld contents files sources
  pub outcome : Outcome sources

-- the file of a name is one of these, and those in front of it are held, as texts
pub record Reaches (contents : Text → Option Text) (files : List Text) (file : Text) : Type 0 where
  pub front : List Text
  pub behind : List Text
  pub split : files ≡ front ++ file ∷ behind
  pub sources : List Text
  pub held : AreHeld contents front sources
  pub utf8 : AreUtf8 sources
