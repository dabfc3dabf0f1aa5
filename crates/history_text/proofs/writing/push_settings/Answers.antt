use Rattle.history_text.proofs.Written.{options_text}
use Rattle.history_text.proofs.writing.push_settings.Goals as goal

pub returns : goal.returns
returns c = rw (options_text c.args.options.now) c.push_options.ensures
