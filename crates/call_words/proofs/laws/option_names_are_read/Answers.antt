use Rattle.std.proofs.Common.{ap, ◌∙◌}
use Rattle.call_words.specs.Options.{option_of}
use Rattle.call_words.proofs.OptionNames.{option_ok, option_from}
use Rattle.call_words.proofs.laws.option_names_are_read.Goals as goal

pub returns : goal.returns
returns c = λ word name. (option_ok word name, λ spelled. ap option_of spelled ∙ option_from name)
