use Rattle.std.proofs.Common.{drop, option_map, string_bytes, refl}
use Rattle.ftl_files.specs.Tidying.{IsIdOf}
use Rattle.ftl_files.proofs.ReportLemmas.{on_mapped}
use Rattle.ftl_files.proofs.refusals.shape_finding.Goals as goal

pub returns : goal.returns
returns c = record {
  entry = option_map string_bytes c.in_ok-entry_at.field-0;
  named = on_mapped string_bytes (IsIdOf (drop c.args.offset c.args.source.now)) c.in_ok-entry_at.field-0 c.in_ok-entry_at.ensures;
  is = rw (c.in_ok-from_str.ensures.ok, c.in_ok-from_str-2.ensures.ok) refl;
}
