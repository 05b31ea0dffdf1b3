use Rattle.std.proofs.Common.{◌∙◌, List, None, ap, subst, sym, ℕ}
use Rattle.memchr.specs.Find.{FindsNeedle}
use Rattle.fluent_lint.proofs.Quiet.{ignore, no_silences}
use Rattle.fluent_lint.proofs.silence.silences_of.Goals as goal
use Rattle.fluent_lint.specs.SilenceView.{silences_view}

pub returns-in-None : goal.returns-in-None
returns-in-None c =
    let found = subst (λ (x : List ℕ). FindsNeedle x ignore 0 None) c.as_bytes.ensures.value c.in-None.ensures in
    ap silences_view c.new.ensures.items ∙ sym (no_silences c.args.source.now found)
