use Rattle.std.proofs.Common.{◌≡◌, ◌∙◌, Option, None, Some, ap, codes, option_copied, option_map, rules}
use Rattle.clap.specs.Words.{found_of}
use Rattle.clap.proofs.WalkLemmas.{first_value-rows}
use Rattle.fluent_serve.specs.Text.{Text, cut_at, dot}
use Rattle.ftl_arguments.proofs.formatting.name_in.Goals as goal

pub returns-in_err-name : goal.returns-in_err-name
returns-in_err-name c =
    let none : ◌≡◌ {A = Option Text} None (option_map (λ s. s.now) c.get_str.result) = search rules in
    let nothing : ◌≡◌ {A = Option (Text × Option Text)} (option_map (λ name. (name.0.now, option_copied name.1)) c.from_residual.result) None = search rules in
    nothing ∙ ap (option_map (cut_at dot)) (none ∙ (c.get_str.ensures ∙ first_value-rows (found_of c.args.found.now) (codes "ID")))

pub returns : goal.returns
returns c =
    let some : ◌≡◌ {A = Option Text} (Some c.in_ok-name.name.now) (option_map (λ s. s.now) c.get_str.result) = search rules in
    ap Some c.cut.ensures ∙ ap (option_map (cut_at dot)) (some ∙ (c.get_str.ensures ∙ first_value-rows (found_of c.args.found.now) (codes "ID")))
