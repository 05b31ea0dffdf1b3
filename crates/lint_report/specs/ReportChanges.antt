-- What calls put into an object.
use Rattle.std.specs.Prelude.{◌≡◌, List, String}
use Rattle.std.specs.declared.alloc.Global.{Global}
use Rattle.serde_json.specs.Data.{Data, put}
use Rattle.serde_json.specs.View.{members_view}
use Rattle.serde_json.specs.declared.value.Value.{Value}
use Rattle.fluent_grammar.specs.Words.{Text}

-- the new members are the old ones, with this value at a key
abbrev pub Puts : List (String Global × Value) → List (String Global × Value) → Text → Data → Type 0
Puts old new key value = members_view new ≡ put key value (members_view old)
