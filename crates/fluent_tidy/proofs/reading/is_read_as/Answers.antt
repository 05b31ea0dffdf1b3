use Rattle.std.proofs.Common.{rules, sym, ◌∙◌, subst}
use Rattle.std.specs.Prelude.{IsTrue}
use Rattle.fluent_grammar.specs.Tiling.{errors}
use Rattle.fluent_ast.proofs.EqualTrees.{compares, resource_decides}
use Rattle.fluent_ast.specs.View.{resource_view}
use Rattle.fluent_tidy.proofs.Read.{no_errors_told}
use Rattle.fluent_tidy.proofs.reading.is_read_as.Goals as goal

pub returns-in-Ok : goal.returns-in-Ok
returns-in-Ok g c =
    let lives : g.claim c.lifetimes = search rules in
    let same = (compares _ (resource_view g.row.S.Denot g.S.Slice.text) (resource_decides g.row.S g.S.PartialEq g.S.PartialEq-dict (record { laws = g.met.S.PartialEq.laws }) g.S.Slice.text (g.met.S.Slice c.lifetimes lives).equality)).plain c.in-Ok.found c.args.tree.now in (
      λ is. record { no_junk = no_errors_told (errors (g.S.Slice.text c.args.text)) c.in-Ok.ensures.errors; read_back = sym c.in-Ok.ensures.tree ∙ same.0 (subst IsTrue c.eq.ensures is) },
      λ read. subst IsTrue (sym c.eq.ensures) (same.1 (c.in-Ok.ensures.tree ∙ read.read_back)),
    )
