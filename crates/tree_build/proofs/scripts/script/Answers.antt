use Rattle.tree_build.proofs.ScriptAnswers.{gives-script_in}
use Rattle.tree_build.proofs.scripts.script.Goals as goal

pub returns : goal.returns
returns c = gives-script_in c.args.text.now c.parse_script.result c.parse_script.ensures
