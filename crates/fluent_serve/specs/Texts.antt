-- What borrowed texts stand for.
use Rattle.std.specs.Prelude.{List, map}
use denote.Ref.{Bor}
use Rattle.fluent_serve.specs.Text.{Text}

abbrev pub texts : List (Bor Text) → List Text
texts sources = map (λ s. s.now) sources
