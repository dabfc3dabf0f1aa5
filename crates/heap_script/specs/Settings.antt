-- The options that a script sets
use Rattle.std.specs.Prelude.{ℕ}
use Rattle.az_base.specs.declared.options.Options.{Options}
use Rattle.call_words.specs.declared.options.OptionName.{OptionName}
use Rattle.call_words.specs.declared.options.OptionName.TheVariants as option
use Rattle.heap_script.specs.declared.setting.Setting.{Setting}
use Rattle.heap_script.specs.declared.setting.Setting.TheVariants as setting

-- the largest number that an option may have
abbrev pub largest : OptionName → ℕ
largest option.Heap = 1048576
largest option.Local = 65536
largest option.Serials = 4294967296
largest option.Counts = 4294967295
largest option.Pending = 4096

-- an option and its number
abbrev pub setting_to : OptionName → ℕ → Setting
setting_to option.Heap n = setting.Heap n
setting_to option.Local n = setting.Local n
setting_to option.Serials n = setting.Serials n
setting_to option.Counts n = setting.Counts n
setting_to option.Pending n = setting.Pending n

-- the options with this one set
abbrev pub with_setting : Options → Setting → Options
with_setting o (setting.Heap n) = record o { heap_quanta = n }
with_setting o (setting.Local n) = record o { local_quanta = n }
with_setting o (setting.Serials n) = record o { serials = n }
with_setting o (setting.Counts n) = record o { counts = n }
with_setting o (setting.Pending n) = record o { pending = n }
