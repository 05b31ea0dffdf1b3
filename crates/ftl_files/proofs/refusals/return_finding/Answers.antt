use Rattle.std.proofs.Common.{List, ℕ, refl, subst}
use Rattle.memchr.specs.Find.{IsFirstByte, is_byte}
use Rattle.ftl_files.proofs.refusals.return_finding.Goals as goal

pub returns : goal.returns
returns c = record {
  place = c.memchr.result;
  first = subst (λ (x : List ℕ). IsFirstByte (is_byte 13) x c.memchr.result) c.as_bytes.ensures.value c.memchr.ensures;
  is = rw (c.unwrap_or.ensures, c.in_ok-from_str.ensures.ok) refl;
}
