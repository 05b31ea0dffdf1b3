-- What a bundle owns says the same to every thread.
use base.Fml.{Lft, fex}
use base.Shift.{Keyless}
use denote.Param.Send.{IsSend, IsSync, part_keyless, recorded_sync, sendable, struct_sync}
use denote.RattleType.{RattleType}
use denote.Struct.Declared.{shape}
use denote.Struct.Struct.{Struct}
use denote.RawPtr.{Ptr}
use denote.Ref.{NamedLft}
use denote.Text.{str-field}
use Rattle.std.proofs.Crossing as std
use Rattle.std.proofs.MapsCrossing as maps
use Rattle.std.specs.Prelude.{ℕ, Bool, true, false, [], ◌∷◌}
use Rattle.std_alloc.proofs.SendSync.{lies}
use Rattle.fluent_ast.proofs.Expression.TheLaws.TheKnot as knot
use Rattle.fluent_ast.specs.contracts.Message as message
use Rattle.fluent_ast.specs.contracts.Resource as resource
use Rattle.fluent_ast.specs.contracts.Term as term
use Rattle.fluent_calls.specs.contracts.callee.Callee as callee
use Rattle.fluent_calls.specs.contracts.desk.FunctionDesk as function_desk
use Rattle.fluent_dates.proofs.dates.LocaleDates.TheSendSync as dates_crossing
use Rattle.fluent_dates.specs.contracts.dates.LocaleDates as dates
use Rattle.fluent_ids.specs.contracts.entry.Entry as entry
use Rattle.fluent_ids.specs.contracts.ids.FluentIds as ids
use Rattle.core.specs.contracts.option.Option as option
use Rattle.fluent_numerals.proofs.numerals.LocaleNumerals.TheSendSync as numerals_crossing
use Rattle.fluent_numerals.specs.contracts.numerals.LocaleNumerals as numerals
use Rattle.fluent_plurals.proofs.plurals.LanguagePlurals.TheSendSync as plurals_crossing
use Rattle.fluent_plurals.specs.contracts.plurals.LanguagePlurals as plurals
use Rattle.fluent_resource.specs.contracts.resource.FluentResource as read
use Rattle.fluent_run.specs.contracts.desk.Desk as run_desk
use Rattle.fluent_run.specs.contracts.settings.Settings as settings
use Rattle.fluent_kept.specs.Catalogs.{Catalog}
use Rattle.fluent_kept.specs.Handle.{handle_owns}
use Rattle.fluent_kept.specs.Kept.{lived, sources_row, resources_row, desk_row, some_boxed, some_lent, bundle_owns}
use Rattle.fluent_kept.specs.contracts.desk.Desks as desks
use Rattle.fluent_kept.specs.contracts.desk.KeptDesk as kept_desk
use Rattle.fluent_kept.specs.contracts.found.Found as found
use Rattle.fluent_kept.specs.contracts.resources.Resources as resources
use Rattle.fluent_kept.proofs.sources.Sources.TheSendSync as sources

-- what is read, by how long what it refers to lives
module _ (r s : NamedLft) where
  resource_sync : IsSync (resource.the_row (str-field s).row)
  resource_sync = search (std.crosses, knot.crosses, knot.crosses_both, sendable) depth 60 fits 20000

  message_sync : IsSync (message.the_row (str-field s).row)
  message_sync = search (std.crosses, knot.crosses, knot.crosses_both, sendable) depth 60 fits 20000

  term_sync : IsSync (term.the_row (str-field s).row)
  term_sync = search (std.crosses, knot.crosses, knot.crosses_both, sendable) depth 60 fits 20000

  callee_send : IsSend callee.the_row
  callee_send = search sendable depth 40

  entry_send : IsSend (entry.the_row r s callee.the_row)
  entry_send = let a = resource_sync in let b = message_sync in let c = term_sync in let d = callee_send in search sendable depth 40

  ids_send : IsSend (ids.the_field r s callee.the_row).row
  ids_send = let a = entry_send in search (maps.crosses, std.crosses, sendable) depth 40 fits 20000

  plurals_sync : IsSync plurals.the_row
  plurals_sync = plurals_crossing.the_sync

  numerals_send : IsSend (option.the_field numerals.the_row).row
  numerals_send = let a = numerals_crossing.the_send in search sendable depth 40

  sources_sync : IsSync sources_row
  sources_sync = sources.the_sync

  str_sync : IsSync (str-field s).row
  str_sync = search (std.crosses, sendable) depth 40

  tree_sync : IsSync (resource.the_field (str-field s).row).row
  tree_sync = search (std.crosses, knot.crosses, knot.crosses_both, sendable) depth 60 fits 20000

  read_sync : IsSync (read.the_row s)
  read_sync = let t = read.the_type s in recorded_sync (Struct (shape t)) t.D t.to t.to_one (struct_sync (shape t) (str_sync, (tree_sync, tt)))

  settings_send : IsSend settings.the_row
  settings_send = let a = numerals_send in search sendable depth 40

  settings_field_send : IsSend settings.the_field.row
  settings_field_send = let a = numerals_send in search sendable depth 40

  dates_send : IsSend (option.the_field dates.the_row).row
  dates_send = let a = dates_crossing.the_send in search sendable depth 40

  run_desk_send : IsSend (run_desk.the_field s r s plurals.the_row callee.the_row).row
  run_desk_send =
      let a = ids_send in let b = plurals_sync in let c = settings_send in let d = read_sync in let e = settings_field_send in
      search (std.crosses, sendable) depth 60 fits 20000

  function_desk_send : IsSend (function_desk.the_row s r s plurals.the_row)
  function_desk_send = let a = run_desk_send in let b = dates_send in search (std.crosses, sendable) depth 60 fits 20000

  function_desk_field_send : IsSend (function_desk.the_field s r s plurals.the_row).row
  function_desk_field_send = let a = run_desk_send in let b = dates_send in search (std.crosses, sendable) depth 60 fits 20000

  plain_send : IsSend (option.the_field (function_desk.the_row s r s plurals.the_row)).row
  plain_send = let a = function_desk_send in search sendable depth 40

  plain_row_send : IsSend (option.the_row (function_desk.the_row s r s plurals.the_row))
  plain_row_send = let a = function_desk_send in search sendable depth 40

  desks_send : IsSend (desks.the_row r s)
  desks_send =
      let a = function_desk_send in let b = function_desk_field_send in let c = plain_send in let d = plain_row_send in
      search sendable depth 60 fits 20000

  desks_field_send : IsSend (desks.the_field r s).row
  desks_field_send =
      let a = function_desk_send in let b = function_desk_field_send in let c = plain_send in let d = plain_row_send in
      search sendable depth 60 fits 20000

  resources_sync : IsSync (resources.the_row s)
  resources_sync = let a = std.Vec-sync (read.the_row s) read_sync in let b = sources_sync in search sendable depth 60 fits 20000

  found_send : IsSend (found.the_row r s)
  found_send = let a = message_sync in let b = str_sync in search (maps.crosses, std.crosses, sendable) depth 60 fits 20000

  found_field_send : IsSend (found.the_field r s).row
  found_field_send = let a = message_sync in let b = str_sync in search (maps.crosses, std.crosses, sendable) depth 60 fits 20000

  pub desk_send : IsSend (kept_desk.the_row r s)
  desk_send =
      let a = desks_send in let b = resources_sync in let c = desks_field_send in let d = found_send in let e = found_field_send in
      search sendable depth 60 fits 20000

  read_send : IsSend (read.the_row s)
  read_send = search (std.crosses, knot.crosses, knot.crosses_both, sendable) depth 60 fits 20000

  pub resources_send : IsSend (resources.the_row s)
  resources_send = let a = std.Vec-send (read.the_row s) read_send in let b = sources_sync in search sendable depth 60 fits 20000

lent : (κ : Lft) (R : RattleType) (p : Ptr) (Has : R.Denot → Type 0) → IsSend R → Keyless (some_lent κ R p Has)
lent κ R p Has s = λ v. ((λ _. tt), λ a b o. (tt, (part_keyless R s _ v b o, std.frees.frees a _ _)))

in_box : (R : RattleType) (p : Ptr) (Has : R.Denot → Type 0) → IsSend R → Keyless (some_boxed R p Has)
in_box R p Has s = λ v. ((λ _. tt), λ a. (lies R s p v, std.frees.frees a _ _))

pub bundle_keyless : (s r d : Ptr) (catalog : Catalog) → Keyless (fex ℕ (λ α. fex ℕ (bundle_owns s r d catalog α)))
bundle_keyless s r d catalog = λ α β. (
  tt,
  (
    tt,
    (
      lent (α ∷ []) sources_row s _ sources.the_send,
      (
        lent (β ∷ α ∷ []) (resources_row (α ∷ [])) r _ (resources_send (lived (β ∷ α ∷ [])) (lived (α ∷ []))),
        in_box (desk_row (β ∷ α ∷ []) (α ∷ [])) d _ (desk_send (lived (β ∷ α ∷ [])) (lived (α ∷ []))),
      ),
    ),
  ),
)

pub handle_keyless : (held : Bool) (s r d : Ptr) (catalog : Catalog) → Keyless (handle_owns held s r d catalog)
handle_keyless false s r d catalog = tt
handle_keyless true s r d catalog = bundle_keyless s r d catalog
