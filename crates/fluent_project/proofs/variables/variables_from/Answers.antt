use Rattle.std.proofs.Common.{◌≡◌, ◌∙◌, ◌++◌, List, [], ◌∷◌, String, ap, map, rules, string_bytes, sym}
use Rattle.std.specs.Prelude.{Ok}
use Rattle.std.specs.declared.alloc.Global.{Global}
use Rattle.std.proofs.lemmas.List.{map-append}
use Rattle.toml.specs.View.{members_view, view}
use Rattle.toml.specs.declared.value.Value.{Value}
use Rattle.fluent_project.specs.FileValues.{text_of}
use Rattle.fluent_project.specs.Files.{variable, variables_from}
use Rattle.fluent_project.specs.FileViews.{setting_view}
use Rattle.fluent_project.specs.Patterns.{Text}
use Rattle.fluent_project.proofs.Collected.{behind, behind-rule}
use Rattle.fluent_project.proofs.variables.variables_from.Goals as goal

-- one variable more
one_more : (found more : List (Text × Text)) (made : Text × Text) (k : String Global) (v : Value) (all rest : List (String Global × Value))
    → more ≡ found ++ made ∷ [] → all ≡ (k, v) ∷ rest → variable (string_bytes k) (text_of (view v)) ≡ Ok made
    → behind more (variables_from (members_view rest)) ≡ behind found (variables_from (members_view all))
one_more found more made k v all rest pushed is made_of =
    rw (pushed, is, made_of) (sym (behind-rule found made (variables_from (members_view rest))))

pub loop-name-preserved : goal.loop-name-preserved
loop-name-preserved c =
    let is : c.loop-name.name-iterator ≡ (c.in-Some.name.now, c.in-Some.value.now) ∷ c.next.new.self = search rules in
    let name : string_bytes c.in-Some.name.now ≡ c.deref.result.now = search rules in (
      tt,
      tt,
      one_more (map setting_view c.loop-name.variables.items) (map setting_view c.push.new.self.items) (setting_view c.in_ok-variable.field-0)
          c.in-Some.name.now c.in-Some.value.now c.loop-name.name-iterator c.next.new.self
          (ap (map setting_view) c.in_ok-push.ensures.items ∙ map-append setting_view c.loop-name.variables.items (c.in_ok-variable.field-0 ∷ []))
          is
          (ap (λ text. variable text (text_of (view c.in-Some.value.now))) name ∙ c.in_ok-variable.ensures.variable)
          ∙ c.loop-name.invariant.2,
    )
