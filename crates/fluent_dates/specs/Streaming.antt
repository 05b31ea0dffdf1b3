-- What is written of a pattern that is read.
use Rattle.std.specs.Prelude.{List, Result, String}
use Rattle.std.specs.Global.{Global}
use Rattle.fluent_dates.specs.Fields.{Field}
use Rattle.fluent_dates.specs.Items.{items_of}
use Rattle.fluent_dates.specs.Writing.{field_text, written}
use Rattle.fluent_dates.specs.Written.{Adds}
use Rattle.fluent_dates.specs.declared.items.Item.{Item}
use Rattle.fluent_dates.specs.declared.streaming.Writing.{Writing}

-- unless memory ran out, these items of the pattern were put after the text that was there
abbrev pub Writes : {A E : Type 0} → Result A E → String Global → String Global → Writing → List Item → Type 0
Writes result old new w items = Adds result old new (written w.row.now w.value.now (items_of w.pattern.now) items)

-- unless memory ran out, this field of the pattern was put after the text that was there
abbrev pub WritesField : {A E : Type 0} → Result A E → String Global → String Global → Writing → Field → Type 0
WritesField result old new w field = Adds result old new (field_text w.row.now w.value.now (items_of w.pattern.now) field)
