use Rattle.fluent_value.proofs.Map.{set_is_found, others_stay, still_ascending, differ}
use Rattle.fluent_value.proofs.laws.arguments_are_a_map.Goals as goal

pub returns-clause-last : goal.returns-clause-last
returns-clause-last g c = λ args name value. set_is_found name value args

pub returns-clause-others : goal.returns-clause-others
returns-clause-others g c = λ args name other value never. others_stay name value other (differ other name never) args

pub returns-clause-ascending : goal.returns-clause-ascending
returns-clause-ascending g c = λ args name value ascending. still_ascending name value args ascending
