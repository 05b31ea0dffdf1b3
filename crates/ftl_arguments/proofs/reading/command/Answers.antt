use Rattle.std.proofs.lemmas.Result.{IfOk-weaker}
use Rattle.clap.specs.Words.{app_of, kind_of}
use Rattle.clap.specs.declared.error.kind.ErrorKind.TheVariants.{DisplayHelp, DisplayVersion}
use Rattle.ftl_arguments.specs.Meaning.{texts}
use Rattle.ftl_arguments.proofs.Parsed.{no_faults, asked, met_asked, among, bad_always, bad_not_alone, none_asked, text_asked, refused_unasked}
use Rattle.ftl_arguments.proofs.reading.command.Goals as goal

pub returns-in-Ok-clause-asked : goal.returns-in-Ok-clause-asked
returns-in-Ok-clause-asked c =
    let words = texts c.args.words.now in
    let app = app_of c.in_ok-program.field-0 in
    let none = no_faults app c.in_ok-program.ensures words c.in-Ok.ensures.kinds in
    IfOk-weaker c.met.result _ _ (met_asked app c.in_ok-program.ensures words c.args.colours c.in-Ok.matches c.in-Ok.ensures.matches none) c.met.ensures.met

pub returns-in-Ok-clause-nothing : goal.returns-in-Ok-clause-nothing
returns-in-Ok-clause-nothing c =
    let words = texts c.args.words.now in
    let app = app_of c.in_ok-program.field-0 in
    let none = no_faults app c.in_ok-program.ensures words c.in-Ok.ensures.kinds in
    rw (asked app c.in_ok-program.ensures words c.args.colours c.in-Ok.matches c.in-Ok.ensures.matches none) c.met.ensures.nothing

pub returns-in-Ok-clause-not_help : goal.returns-in-Ok-clause-not_help
returns-in-Ok-clause-not_help c =
    let words = texts c.args.words.now in
    bad_always c.met.result (none_asked words DisplayHelp (no_faults (app_of c.in_ok-program.field-0) c.in_ok-program.ensures words c.in-Ok.ensures.kinds))

pub returns-in-Ok-clause-not_version : goal.returns-in-Ok-clause-not_version
returns-in-Ok-clause-not_version c =
    let words = texts c.args.words.now in
    bad_always c.met.result (none_asked words DisplayVersion (no_faults (app_of c.in_ok-program.field-0) c.in_ok-program.ensures words c.in-Ok.ensures.kinds))

pub returns-in-Err-clause-asked : goal.returns-in-Err-clause-asked
returns-in-Err-clause-asked c =
    let words = texts c.args.words.now in
    let one = among (app_of c.in_ok-program.field-0) c.in_ok-program.ensures words c.in-Err.error c.in-Err.ensures.kinds in
    IfOk-weaker c.text_asked.result _ _ (text_asked c.args.colours words (kind_of c.in-Err.error) one) c.text_asked.ensures.text

pub returns-in-Err-clause-nothing : goal.returns-in-Err-clause-nothing
returns-in-Err-clause-nothing c =
    let words = texts c.args.words.now in
    let one = among (app_of c.in_ok-program.field-0) c.in_ok-program.ensures words c.in-Err.error c.in-Err.ensures.kinds in
    refused_unasked c.args.colours words (kind_of c.in-Err.error) one c.text_asked.result c.text_asked.ensures.memory

pub returns-in-Err-clause-not_help : goal.returns-in-Err-clause-not_help
returns-in-Err-clause-not_help c =
    let words = texts c.args.words.now in
    let one = among (app_of c.in_ok-program.field-0) c.in_ok-program.ensures words c.in-Err.error c.in-Err.ensures.kinds in
    bad_not_alone c.args.colours words (kind_of c.in-Err.error) one DisplayHelp c.text_asked.result c.text_asked.ensures.memory c.text_asked.ensures.not_help

pub returns-in-Err-clause-not_version : goal.returns-in-Err-clause-not_version
returns-in-Err-clause-not_version c =
    let words = texts c.args.words.now in
    let one = among (app_of c.in_ok-program.field-0) c.in_ok-program.ensures words c.in-Err.error c.in-Err.ensures.kinds in
    bad_not_alone c.args.colours words (kind_of c.in-Err.error) one DisplayVersion c.text_asked.result c.text_asked.ensures.memory c.text_asked.ensures.not_version
