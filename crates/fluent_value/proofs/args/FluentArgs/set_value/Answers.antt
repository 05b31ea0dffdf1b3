use Rattle.std.proofs.Common.{◌≡◌, sym, ap, subst, ◌∙◌, IsSome, None, map, length, slice_index_or}
use Rattle.std.specs.Result.{is_ok}
use Rattle.std.proofs.lemmas.Bool.{false≢true}
use Rattle.std.specs.declared.cmp.Ordering.TheVariants.{Less, Equal, Greater}
use Rattle.std.specs.Cow.{cow_str_bytes}
use Rattle.std.specs.List.{AllWithin}
use Rattle.fluent_value.specs.Args.{order, IsAscending, argument}
use Rattle.fluent_value.specs.ArgsNames.{name_of, names_of}
use Rattle.fluent_value.specs.ArgsView.{args_view}
use Rattle.fluent_value.specs.View.{value_view}
use Rattle.fluent_value.proofs.Placed.{placed, replaced, missing, names_stay, still_ascend, either}
use Rattle.fluent_value.proofs.args.FluentArgs.set_value.Goals as goal

pub invariant_of-self : goal.invariant_of-self
invariant_of-self g c =
    let items = c.args.self.now.arguments.items in
    let same = ap (λ it. name_of it) c.index_mut.ensures.value in
    record { ascending = subst IsAscending (sym (names_stay name_of name_of (record { name = c.index_mut.result.now.name; value = c.args.value }) items c.in-Ok.index c.index_mut.result.now c.in-Ok.ensures.range same)) c.args.self.now.ascending }

pub invariant_of-self-in-Err : goal.invariant_of-self-in-Err
invariant_of-self-in-Err g c =
    let name = name_of in
    let items = c.args.self.now.arguments.items in
    let ascending = c.args.self.now.ascending in
    let below = subst (λ n. AllWithin (λ it. order (name it) n ≡ Less) items 0 c.in-Err.index) c.as_str.ensures.value c.in-Err.ensures.place.0 in
    let above = subst (λ n. AllWithin (λ it. order (name it) n ≡ Greater) items c.in-Err.index (length items)) c.as_str.ensures.value c.in-Err.ensures.place.1 in
    record { ascending = subst (λ es. IsAscending (names_of es)) (sym c.put_in.ensures.items) (either (λ es. IsAscending (names_of es)) (is_ok c.put_in.result) _ _ (still_ascend name name (record { name = c.args.name; value = c.args.value }) items c.in-Err.index ascending below above) ascending) }

pub returns-in_err-put_in-in-Err-clause-succeeds : goal.returns-in_err-put_in-in-Err-clause-succeeds
returns-in_err-put_in-in-Err-clause-succeeds g c =
    let value = value_view g.C.FluentType.meaning in
    let missed = missing name_of (λ it. value it.value) c.as_str.result.now c.args.self.now.arguments.items c.in-Err.index c.in-Err.ensures.place.0 c.in-Err.ensures.place.1 in
    let nothing = subst (λ n. argument n (args_view g.C.FluentType.meaning c.args.self.now) ≡ None) c.as_str.ensures.value missed in
    λ some. absurd (false≢true (subst IsSome nothing some))

pub returns-in-Ok-clause-ok : goal.returns-in-Ok-clause-ok
returns-in-Ok-clause-ok g c =
    let name = name_of in
    let items = c.args.self.now.arguments.items in
    let value = value_view g.C.FluentType.meaning in
    let same = ap (λ it. name it) c.index_mut.ensures.value in
    sym (replaced name (λ it. value it.value) (cow_str_bytes c.args.name) (record { name = c.index_mut.result.now.name; value = c.args.value }) items c.in-Ok.index c.args.self.now.ascending c.in-Ok.ensures.range
    (λ d. subst (λ n. order (name (slice_index_or items c.in-Ok.index d)) n ≡ Equal) c.as_str.ensures.value (c.in-Ok.ensures.place d)) c.index_mut.result.now same)

pub returns-in_ok-put_in-in-Err-clause-ok : goal.returns-in_ok-put_in-in-Err-clause-ok
returns-in_ok-put_in-in-Err-clause-ok g c =
    let name = name_of in
    let items = c.args.self.now.arguments.items in
    let value = value_view g.C.FluentType.meaning in
    let below = subst (λ n. AllWithin (λ it. order (name it) n ≡ Less) items 0 c.in-Err.index) c.as_str.ensures.value c.in-Err.ensures.place.0 in
    let above = subst (λ n. AllWithin (λ it. order (name it) n ≡ Greater) items c.in-Err.index (length items)) c.as_str.ensures.value c.in-Err.ensures.place.1 in
    ap (map (λ it. (name it, value it.value))) c.in_ok-put_in-in-Err.ensures.items
    ∙ sym (placed name (λ it. value it.value) (record { name = c.args.name; value = c.args.value }) items c.in-Err.index below above c.in-Err.ensures.range)
