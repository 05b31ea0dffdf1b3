use Rattle.ftl_files.proofs.NamesOfPaths.{listed_are_of_paths}
use Rattle.ftl_files.proofs.laws.listed_names_begin_with_paths.Goals as goal

pub returns : goal.returns
returns c = listed_are_of_paths
