use Rattle.std.proofs.Common.{◌++◌, OnOk, codes, subst, sym}
use Rattle.fluent_project.specs.FaultTexts.{Appends, of_key, of_variable, other_text}
use Rattle.fluent_project.specs.PlaceViews.{place_view}
use Rattle.fluent_project.proofs.words.push_other.Goals as goal

pub returns-in-NoTable : goal.returns-in-NoTable
returns-in-NoTable c =
    let told = subst (λ key. OnOk c.write.result (Appends c.args.text.now c.write.new.self (of_key key (codes " is no table: [" ++ (key ++ codes "]"))))) c.key_of-key.ensures c.write.ensures.bytes in
    subst (λ kind. OnOk c.write.result (Appends c.args.text.now c.write.new.self (other_text (place_view c.args.fault.place) kind))) (sym c.in-NoTable.is) told

pub returns-in-NoTables : goal.returns-in-NoTables
returns-in-NoTables c =
    let told = subst (λ key. OnOk c.write-in-NoTables.result (Appends c.args.text.now c.write-in-NoTables.new.self (of_key key (codes " is written as [[" ++ (key ++ codes "]]"))))) c.key_of-key.ensures c.write-in-NoTables.ensures.bytes in
    subst (λ kind. OnOk c.write-in-NoTables.result (Appends c.args.text.now c.write-in-NoTables.new.self (other_text (place_view c.args.fault.place) kind))) (sym c.in-NoTables.is) told

pub returns-in-HoldsItself : goal.returns-in-HoldsItself
returns-in-HoldsItself c =
    let told = subst (λ key. OnOk c.push_of_variable.result (Appends c.args.text.now c.push_of_variable.new.text (of_variable key (codes "holds itself")))) c.key_of-key.ensures c.push_of_variable.ensures in
    subst (λ kind. OnOk c.push_of_variable.result (Appends c.args.text.now c.push_of_variable.new.text (other_text (place_view c.args.fault.place) kind))) (sym c.in-HoldsItself.is) told

pub returns-in-HasWildcard : goal.returns-in-HasWildcard
returns-in-HasWildcard c =
    let told = subst (λ key. OnOk c.push_of_variable-in-HasWildcard.result (Appends c.args.text.now c.push_of_variable-in-HasWildcard.new.text (of_variable key (codes "holds a wildcard")))) c.key_of-key.ensures c.push_of_variable-in-HasWildcard.ensures in
    subst (λ kind. OnOk c.push_of_variable-in-HasWildcard.result (Appends c.args.text.now c.push_of_variable-in-HasWildcard.new.text (other_text (place_view c.args.fault.place) kind))) (sym c.in-HasWildcard.is) told
