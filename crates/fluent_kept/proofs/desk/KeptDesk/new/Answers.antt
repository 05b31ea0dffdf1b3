use Rattle.std.proofs.Common.{subst, sym}
use Rattle.std.proofs.lemmas.List.Elements.{All-nil}
use Rattle.std.specs.Prelude.{All}
use Rattle.fluent_kept.specs.Catalogs.{IsMessageOf}
use Rattle.fluent_kept.proofs.desk.KeptDesk.new.Goals as goal

pub returns : goal.returns
returns c = record {
  of_catalog = λ catalog is. record {
    read = is;
    desks = c.in_ok-desks.ensures catalog is;
    found = subst (All (IsMessageOf catalog)) (sym c.new-found.ensures) (All-nil (IsMessageOf catalog));
  };
}
