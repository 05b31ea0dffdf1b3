use Rattle.std.proofs.Common.{◌≡◌, Bool, true, false, List, [], ◌∷◌, ◌++◌, IsTrue, refl, ap}
use Rattle.std.specs.List.{list_all}
use Rattle.std.proofs.lemmas.Bool.{false≢true}
use Rattle.fluent_grammar.specs.Tree as t
use Rattle.fluent_grammar.specs.Written.{entries_signs, entry_signs, is_no_junk, laid_out}
use Rattle.fluent_serializer.proofs.laws.options_are_about_junk.Goals as goal

without_junk : (after : Bool) (es : List t.Entry) → IsTrue (list_all is_no_junk es) → entries_signs true after es ≡ entries_signs false after es
without_junk after [] all = refl
without_junk after (t.message m ∷ es) all = ap (λ x. entry_signs false after (t.message m) ++ x) (without_junk true es all)
without_junk after (t.term m ∷ es) all = ap (λ x. entry_signs false after (t.term m) ++ x) (without_junk true es all)
without_junk after (t.comment c ∷ es) all = ap (λ x. entry_signs false after (t.comment c) ++ x) (without_junk true es all)
without_junk after (t.group_comment c ∷ es) all = ap (λ x. entry_signs false after (t.group_comment c) ++ x) (without_junk true es all)
without_junk after (t.resource_comment c ∷ es) all = ap (λ x. entry_signs false after (t.resource_comment c) ++ x) (without_junk true es all)
without_junk after (t.junk s ∷ es) all = absurd (false≢true all)

pub returns : goal.returns
returns c = λ entries all. ap (laid_out false) (without_junk false entries all)
