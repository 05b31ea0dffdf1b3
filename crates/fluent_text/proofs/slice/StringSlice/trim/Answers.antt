use Rattle.std.proofs.Common.{length, subst}
use Rattle.std.specs.Str.{IsCharBoundary}
use Rattle.fluent_text.proofs.Trimmed.{IsCharBoundary-trimmed}
use Rattle.fluent_text.proofs.slice.StringSlice.trim.Goals as goal

pub truncate-requires : goal.truncate-requires
truncate-requires c =
    let cut = IsCharBoundary-trimmed c.as_str.result.now c.trim_end-kept.result.now c.as_str.utf8 c.trim_end-kept.utf8 c.trim_end-kept.ensures.value in
    let place = subst (λ s. IsCharBoundary s (length c.trim_end-kept.result.now)) c.as_str.ensures.value cut in
    λ _. (place.0, λ _. place.1)
