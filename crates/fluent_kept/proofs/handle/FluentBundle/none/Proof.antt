-- `none` makes a struct that owns nothing.
use Rattle.fluent_kept.proofs.Steps.{[], ◌∷◌, refl, proved, ftrue, ‵, raw, ◌$◌, ◌∵◌, !, qed, done, drop, suffices, enter, lit, false_lit, no_more, and_then, returns, alloc_all, pass_all, free_all, look_at, sets, agg, null_ptr, nothing, on_entry, walk_of, says, ends_at}
use Rattle.std.specs.Prelude.{None, false}
use Rattle.fluent_plurals.specs.Plurals.{root}
use Rattle.fluent_kept.proofs.HandleMade.{handle_in, handle_good}
use Rattle.fluent_kept.proofs.handle.FluentBundle.TheLaws.{lowered}
use Rattle.fluent_kept.specs.contracts.handle.FluentBundle.{the_row}
use Rattle.fluent_kept.specs.contracts.handle.FluentBundle.none as f
use Rattle.fluent_kept.proofs.handle.FluentBundle.none.Statement.{statement}
use Rattle.fluent_kept.proofs.handle.FluentBundle.none.Code as code

abbrev nothing_held : the_row.Denot
nothing_held = record { held = false; sources = null_ptr; read = null_ptr; desk = null_ptr; catalog = record { settings = record { isolating = false; overriding = false; numerals = None }; plurals = root; sources = []; stack = 0; dates = None; functions = None } }

pub none_spec : {M : Type 1} → statement M
none_spec 𝓤 𝓛 𝓜 𝓡 wired =
    let c = f.clauses 𝓛 𝓜.mem 𝓡.returns in let W = walk_of 𝓛 f.ended tt c in
    proved 𝓛 f.ended tt c 𝓜 𝓡 tt f.Key.name code.function (code.unfolded 𝓤 𝓛.H 𝓜 𝓡 wired)
    (λ κs. tt) (λ κs. tt) (λ κs qs bounds a _ are.
    let y : W.Ghost = ((κs, qs, bounds, a, tt), tt) in
    qed 𝓛 (raw (on_entry 𝓛 f.signature κs qs a tt) ∷ ‵ ftrue ∷ []) ∵ drop ! $ drop ! $
    enter ! _ _ _ _ _ $ alloc_all ! (λ l. pass_all ! refl tt $
    sets ! (agg ! (and_then ! (false_lit !) (and_then ! (lit ! tt) (and_then ! (lit ! tt) (and_then ! (lit ! tt) (no_more !)))))) refl (handle_good 𝓛 nothing_held) $
    returns ! (look_at ! 0 refl) $ free_all ! refl $
    suffices ! _ (ends_at 𝓛 f.ended tt c y (lowered nothing_held) nothing_held tt tt) $ says ! refl $
    nothing ! $ handle_in ! nothing_held $ nothing ! $ nothing ! $ done !))
