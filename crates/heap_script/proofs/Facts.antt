-- What is known of a script
use Rattle.std.proofs.Common.{ℕ, ◌≤◌, Bool, false, List, [], ◌∷◌, sym, subst, arith}
use Rattle.std.proofs.lemmas.List.Elements.{All-nil, All-cons}
use Rattle.az_base.specs.declared.options.Options.{Options}
use Rattle.az_base.specs.OptionRanges.{usual_options, IsValid}
use Rattle.az_words.specs.Words.{words_of}
use Rattle.call_words.specs.declared.keywords.CollectName.{CollectName}
use Rattle.call_words.specs.declared.keywords.CollectName.TheVariants as kind
use Rattle.call_words.specs.declared.names.CallName.{CallName}
use Rattle.call_words.specs.declared.names.CallName.TheVariants as names
use Rattle.call_words.specs.Arguments.{AllSaid, arguments_of, collect_act, act_of}
use Rattle.call_words.specs.Ranges.{IsSpelledAct, IsNamed}
use Rattle.call_words.proofs.Spelled.{act_spelled}
use Rattle.heap_script.specs.declared.entries.Entry.{Entry}
use Rattle.heap_script.specs.declared.entries.Entry.TheVariants as entry
use Rattle.heap_script.specs.declared.line.Line.{Line}
use Rattle.heap_script.specs.declared.script.Script.{Script}
use Rattle.call_words.specs.declared.options.OptionName.{OptionName}
use Rattle.call_words.specs.declared.options.OptionName.TheVariants as option
use Rattle.heap_script.specs.declared.setting.Setting.{Setting}
use Rattle.call_words.specs.Options.{least}
use Rattle.heap_script.specs.Settings.{largest, setting_to, with_setting}
use Rattle.heap_script.specs.Lines.{LineAt, SettingAt, IsEntry, called_after, AreEntries}
use Rattle.heap_script.specs.Scripts.{with_entry, options_after, calls_of, IsScript, AllThreads, IsThere, AllNamed, AllSpelled, CanBePlayed}

-- each call line is of a thread that there is
threads_of : (called : Bool) (text : List (List ℕ)) (entries : List Entry) → AreEntries called text entries → AllThreads (calls_of entries)
threads_of called [] [] h = All-nil IsThere
threads_of called [] (e ∷ entries) h = absurd h
threads_of called (line ∷ text) [] h = absurd h
threads_of called (line ∷ text) (entry.Nothing ∷ entries) h = threads_of (called_after called entry.Nothing) text entries h.1
threads_of called (line ∷ text) (entry.Set set ∷ entries) h = threads_of (called_after called (entry.Set set)) text entries h.1
threads_of called (line ∷ text) (entry.Call call ∷ entries) h =
    let number = h.0.1.thread in
    All-cons IsThere call (calls_of entries) (number.low_enough, number.high_enough) (threads_of (called_after called (entry.Call call)) text entries h.1)

all_threads : (bytes : List ℕ) (script : Script) → IsScript bytes script → AllThreads script.lines
all_threads bytes script h = subst AllThreads (sym h.lines) (threads_of false _ h.entries h.said.says)

-- what a name of scripts asks for
kind_named : (kind : CollectName) → IsNamed (collect_act kind)
kind_named kind.Local = tt
kind_named kind.Young = tt
kind_named kind.Full = tt

act_of_named : (name : CallName) (said : AllSaid (arguments_of name)) → IsNamed (act_of name said)
act_of_named names.New (to, (memory, end)) = tt
act_of_named names.Load (to, (from, (at, end))) = tt
act_of_named names.Store (into, (at, (from, end))) = tt
act_of_named names.Put (into, (at, (number, end))) = tt
act_of_named names.Get (from, (at, end)) = tt
act_of_named names.Copy (to, (from, end)) = tt
act_of_named names.Drop (reg, end) = tt
act_of_named names.Collect (kind, end) = kind_named kind
act_of_named names.SetRoot (root, (from, end)) = tt
act_of_named names.GetRoot (to, (root, end)) = tt
act_of_named names.Retain (reg, end) = tt
act_of_named names.Release (reg, end) = tt
act_of_named names.Count (reg, end) = tt
act_of_named names.Take (to, (id, end)) = tt
act_of_named names.SetAssoc (object, (key, (value, end))) = tt
act_of_named names.GetAssoc (to, (object, (key, end))) = tt
act_of_named names.SetWeak (loc, (from, end)) = tt
act_of_named names.ReadWeak (to, (loc, end)) = tt
act_of_named names.Stats end = tt

line_named : (words : List (List ℕ)) (line : Line) (left : List (List ℕ)) → LineAt words line left → IsNamed line.act
line_named words line left h = subst IsNamed (sym h.asks.asked) (act_of_named h.name h.asks.said)

named_of : (called : Bool) (text : List (List ℕ)) (entries : List Entry) → AreEntries called text entries → AllNamed (calls_of entries)
named_of called [] [] h = All-nil (λ l. IsNamed l.act)
named_of called [] (e ∷ entries) h = absurd h
named_of called (line ∷ text) [] h = absurd h
named_of called (line ∷ text) (entry.Nothing ∷ entries) h = named_of (called_after called entry.Nothing) text entries h.1
named_of called (line ∷ text) (entry.Set set ∷ entries) h = named_of (called_after called (entry.Set set)) text entries h.1
named_of called (line ∷ text) (entry.Call call ∷ entries) h =
    All-cons (λ l. IsNamed l.act) call (calls_of entries) (line_named (words_of line) call [] h.0.1) (named_of (called_after called (entry.Call call)) text entries h.1)

all_named : (bytes : List ℕ) (script : Script) → IsScript bytes script → AllNamed script.lines
all_named bytes script h = subst AllNamed (sym h.lines) (named_of false _ h.entries h.said.says)

-- each call line asks for what the grammar has
spelled_of : (called : Bool) (text : List (List ℕ)) (entries : List Entry) → AreEntries called text entries → AllSpelled (calls_of entries)
spelled_of called [] [] h = All-nil (λ l. IsSpelledAct l.act)
spelled_of called [] (e ∷ entries) h = absurd h
spelled_of called (line ∷ text) [] h = absurd h
spelled_of called (line ∷ text) (entry.Nothing ∷ entries) h = spelled_of (called_after called entry.Nothing) text entries h.1
spelled_of called (line ∷ text) (entry.Set set ∷ entries) h = spelled_of (called_after called (entry.Set set)) text entries h.1
spelled_of called (line ∷ text) (entry.Call call ∷ entries) h =
    let at = h.0.1 in
    All-cons (λ l. IsSpelledAct l.act) call (calls_of entries) (act_spelled 8 at.name at.others call.act [] at.asks) (spelled_of (called_after called (entry.Call call)) text entries h.1)

all_spelled : (bytes : List ℕ) (script : Script) → IsScript bytes script → AllSpelled script.lines
all_spelled bytes script h = subst AllSpelled (sym h.lines) (spelled_of false _ h.entries h.said.says)

-- a number in its range keeps options valid
set_valid : (name : OptionName) (n : ℕ) (o : Options) → least name ≤ n → n ≤ largest name → IsValid o → IsValid (with_setting o (setting_to name n))
set_valid option.Heap n o l m h = record { heap = (l, m); «local» = h.«local»; serials = h.serials; counts = h.counts; pending = h.pending }
set_valid option.Local n o l m h = record { heap = h.heap; «local» = m; serials = h.serials; counts = h.counts; pending = h.pending }
set_valid option.Serials n o l m h = record { heap = h.heap; «local» = h.«local»; serials = (l, m); counts = h.counts; pending = h.pending }
set_valid option.Counts n o l m h = record { heap = h.heap; «local» = h.«local»; serials = h.serials; counts = (l, m); pending = h.pending }
set_valid option.Pending n o l m h = record { heap = h.heap; «local» = h.«local»; serials = h.serials; counts = h.counts; pending = (l, m) }

setting_valid : (words : List (List ℕ)) (set : Setting) (left : List (List ℕ)) (o : Options) → SettingAt words set left → IsValid o → IsValid (with_setting o set)
setting_valid words set left o h valid = subst (λ (s : Setting). IsValid (with_setting o s)) (sym h.5) (set_valid h.0 h.2 o h.4.low_enough h.4.high_enough valid)

entry_valid : (called : Bool) (words : List (List ℕ)) (e : Entry) (o : Options) → IsEntry called words e → IsValid o → IsValid (with_entry o e)
entry_valid called words entry.Nothing o h valid = valid
entry_valid called words (entry.Set set) o h valid = setting_valid h.1 set [] o h.3 valid
entry_valid called words (entry.Call line) o h valid = valid

-- valid options stay valid
valid_of : (called : Bool) (text : List (List ℕ)) (entries : List Entry) (o : Options) → AreEntries called text entries → IsValid o → IsValid (options_after o entries)
valid_of called [] [] o h valid = valid
valid_of called [] (e ∷ entries) o h valid = absurd h
valid_of called (line ∷ text) [] o h valid = absurd h
valid_of called (line ∷ text) (e ∷ entries) o h valid = valid_of (called_after called e) text entries (with_entry o e) h.1 (entry_valid called (words_of line) e o h.0 valid)

usual_valid : IsValid usual_options
usual_valid = record { heap = (omega arith, omega arith); «local» = omega arith; serials = (omega arith, omega arith); counts = (omega arith, omega arith); pending = (omega arith, omega arith) }

valid_options : (bytes : List ℕ) (script : Script) → IsScript bytes script → IsValid script.options
valid_options bytes script h = subst IsValid (sym h.options) (valid_of false _ h.entries usual_options h.said.says usual_valid)

pub can_be_played : (bytes : List ℕ) (script : Script) → IsScript bytes script → CanBePlayed script
can_be_played bytes script h = record { options = valid_options bytes script h; threads = all_threads bytes script h; named = all_named bytes script h; spelled = all_spelled bytes script h }
